-- What holds of a record that a source spells, holds of each one, since no source spells two.
use Rattle.std.specs.Prelude.{ℕ, List}
use Rattle.std.proofs.Common.{subst}
use Rattle.go_sgf.specs.Laws.{OneRecord}
use Rattle.go_sgf.specs.Record.{Trees}
use Rattle.go_sgf.specs.Spelling.{OfRecord, Spells}

pub of_this_record : {b : List ℕ} {c : Trees} → OneRecord → (P : Trees → Type 0) → Spells b c → OfRecord b P → P c
of_this_record {b} {c} one P s of = subst P (one b of.0 c of.1 s) of.2
