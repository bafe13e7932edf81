use Rattle.std.proofs.Common.{◌≡◌, List, ℕ, ◌++◌, length}
use Rattle.go_board.specs.Device.{then_bytes}
use Rattle.go_board.proofs.pen.send.Given as goal

abbrev pub invariant-loop-rest : goal.invariant-loop-rest
invariant-loop-rest g l = record {
  prefix : List ℕ;
  whole : l.text ≡ prefix ++ l.rest;
  taken : g.W.Sink.taken l.writer ≡ then_bytes (g.W.Sink.taken l.initial.writer) prefix;
  failures : g.W.Sink.failures l.writer ≡ g.W.Sink.failures l.initial.writer;
}

abbrev pub decreases-loop-rest : goal.decreases-loop-rest
decreases-loop-rest g l = length l.rest
