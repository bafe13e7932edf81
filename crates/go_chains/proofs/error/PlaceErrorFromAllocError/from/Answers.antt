use Rattle.std.proofs.Common.{rules}
use Rattle.go_chains.proofs.error.PlaceErrorFromAllocError.from.Goals as goal

pub returns : goal.returns
returns c = search rules
