use Rattle.std.proofs.Common.{◌≡◌, ◌++◌, [], List, length}
use Rattle.go_sgf.specs.MainLine.{IsLeft, main_line}
use Rattle.go_sgf.specs.Record.{Property, Trees}
use Rattle.go_sgf.specs.Spelling.{Spells}
use Rattle.go_record.specs.MainLine.{Event, events_from}
use Rattle.go_record.specs.inner.Progress.{Passes}
use Rattle.go_record.proofs.replaying.visit_line.Given as goal

abbrev pub invariant-loop-cursor : goal.invariant-loop-cursor
invariant-loop-cursor g l = (t : Trees) → Spells l.checked t → (remaining : List (List Property)) × IsLeft l.cursor [] [] remaining
    × (done : List Event) × (done ++ events_from l.count remaining ≡ events_from 0 (main_line t))
    × Passes (l.fn.walk, l.fn.game) done (l.walk, l.game)

abbrev pub decreases-loop-cursor : goal.decreases-loop-cursor
decreases-loop-cursor g l = length l.cursor
