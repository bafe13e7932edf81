use Rattle.std.proofs.Common.{refl}
use Rattle.go_history.specs.inner.Trees.{digit_of}
use Rattle.go_history.proofs.hashed.Hashed.digit.Goals as goal

pub returns-clause-value : goal.returns-clause-value
unfolding digit_of
returns-clause-value c = refl
