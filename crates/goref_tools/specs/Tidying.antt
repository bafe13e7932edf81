-- The canonical spelling of an input.
use Rattle.std.specs.Prelude.{◌≡◌, ◌≤◌, ℕ, List, Option, length}
use Rattle.go_board.specs.Device.{TakesPrefix, then_bytes}
use Rattle.go_sgf.specs.Record.{Trees}
use Rattle.go_sgf.specs.Refusals.{IsRefusal}
use Rattle.go_sgf.specs.Spelling.{Spells, canonical}
use Rattle.go_sgf.specs.declared.error.SgfError.{SgfError}
use Rattle.go_sgf.specs.declared.error.SgfError.TheVariants.{Memory}
use Rattle.go_sgf.specs.declared.limits.TheConstants.{MAX_RECORD}

-- the writer took the canonical text of the record that the input spells
abbrev pub Tidies : List ℕ → Option (List ℕ) → Option (List ℕ) → Type 0
Tidies input taken taken' = (c : Trees) × Spells input c × (taken' ≡ then_bytes taken (canonical c))

-- the writer took a prefix of it
abbrev pub BeginsToTidy : List ℕ → Option (List ℕ) → Option (List ℕ) → Type 0
BeginsToTidy input taken taken' = (c : Trees) × Spells input c × TakesPrefix taken taken' (canonical c)

-- The canonical text of a record spells only records that have this canonical text. If it isn't too long,
-- only lack of memory can refuse it.
abbrev pub TidyIsTidy : Type 0
TidyIsTidy = (input : List ℕ) (c : Trees) → Spells input c →
    ((d : Trees) → Spells (canonical c) d → canonical d ≡ canonical c)
    × ((why : SgfError) → IsRefusal (canonical c) why → length (canonical c) ≤ MAX_RECORD → why ≡ Memory)
