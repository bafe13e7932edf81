-- The buffer keeps its length, and an interrupted read takes nothing from the stream.
use Rattle.std.proofs.Common.{◌≡◌, length}
use Rattle.std.specs.Io.KnownBytes.{Keeps}
use Rattle.goref_streams.proofs.read_again.Given as goal

abbrev pub invariant-loop : goal.invariant-loop
invariant-loop g l = (length l.buffer ≡ length l.initial.buffer)
    × Keeps (g.R.Read.remaining l.initial.stream) (g.R.Read.remaining l.stream)
