use Rattle.std.proofs.Common.{◌≡◌, ◌≤◌, ◌+◌, ℕ, List, length}
use Rattle.go_board.specs.Device.{after_bytes}
use Rattle.goref.specs.inner.Progress.{Progress}
use Rattle.goref.proofs.runs.run_from.Given as goal

abbrev pub invariant-loop : goal.invariant-loop
invariant-loop g l = record {
  read : List ℕ;
  left : g.R.Source.left l.initial.reader ≡ after_bytes read (g.R.Source.left l.reader);
  progress : Progress l.initial.session read l.line l.session
      (g.S.Shelf.given l.initial.shelf) (g.S.Shelf.given l.shelf) (g.W.Sink.taken l.initial.writer)
      (g.W.Sink.taken l.writer);
  many : l.counter ≤ length read;
  pulls : g.R.Source.pulls l.reader ≡ g.R.Source.pulls l.initial.reader + l.counter;
  ends : g.R.Source.ends l.reader ≡ g.R.Source.ends l.initial.reader;
  read_failures : g.R.Source.failures l.reader ≡ g.R.Source.failures l.initial.reader;
  held : g.W.Sink.held l.initial.writer ≡ 0 → g.W.Sink.held l.writer ≡ 0;
  write_failures : g.W.Sink.failures l.writer ≡ g.W.Sink.failures l.initial.writer;
}
