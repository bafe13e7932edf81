use Rattle.std.proofs.Common.{◌≡◌, ℕ, List, ◌++◌, Option, length}
use Rattle.go_game.specs.Standings.{Standing}
use Rattle.goref.specs.Shelves.{Pair}
use Rattle.goref.specs.inner.Progress.{Progress}
use Rattle.goref.proofs.runs.feed.Given as goal

abbrev pub invariant-loop-end : goal.invariant-loop-end
invariant-loop-end g l = record {
  prefix : List ℕ;
  whole : l.chunk ≡ prefix ++ l.rest;
  progress : (start : Standing) (read : List ℕ) (given : Option (List Pair)) (taken : Option (List ℕ)) →
      Progress start read l.initial.line l.initial.session given (g.S.Shelf.given l.initial.shelf) taken
      (g.W.Sink.taken l.initial.writer) →
      Progress start (read ++ prefix) l.line l.session given (g.S.Shelf.given l.shelf) taken (g.W.Sink.taken l.writer);
  held : g.W.Sink.held l.initial.writer ≡ 0 → g.W.Sink.held l.writer ≡ 0;
  failures : g.W.Sink.failures l.writer ≡ g.W.Sink.failures l.initial.writer;
}

abbrev pub decreases-loop-end : goal.decreases-loop-end
decreases-loop-end g l = length l.rest
