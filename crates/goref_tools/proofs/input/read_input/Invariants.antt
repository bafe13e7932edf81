use Rattle.std.proofs.Common.{◌≡◌, ◌≤◌, ◌+◌, ◌-◌, length}
use Rattle.go_board.specs.Device.{after_bytes}
use Rattle.go_sgf.specs.declared.limits.TheConstants.{MAX_RECORD}
use Rattle.goref_tools.proofs.input.read_input.Given as goal

abbrev pub invariant-loop-buffer : goal.invariant-loop-buffer
invariant-loop-buffer g l = record {
  few : length l.bytes.items ≤ MAX_RECORD + 1;
  given : g.R.Source.left l.initial.reader ≡ after_bytes l.bytes.items (g.R.Source.left l.reader);
  pulls : g.R.Source.pulls l.reader ≤ g.R.Source.pulls l.initial.reader + length l.bytes.items;
  ends : g.R.Source.ends l.reader ≡ g.R.Source.ends l.initial.reader;
  failures : g.R.Source.failures l.reader ≡ g.R.Source.failures l.initial.reader;
}

abbrev pub decreases-loop-buffer : goal.decreases-loop-buffer
decreases-loop-buffer g l = MAX_RECORD + 1 - length l.bytes.items
