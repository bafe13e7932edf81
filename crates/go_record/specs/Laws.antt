-- Laws of records and of their games.
use Rattle.std.specs.Prelude.{◌≡◌, ◌≤◌, ℕ, Option, None, Ok, length}
use Rattle.go_game.specs.declared.superko.Superko.TheVariants.{Positional}
use Rattle.go_game.specs.Standings.{IsSound, Standing}
use Rattle.go_sgf.specs.Record.{IsFit, Trees}
use Rattle.go_sgf.specs.Refusals.{IsRefusal}
use Rattle.go_sgf.specs.Spelling.{Spells}
use Rattle.go_sgf.specs.declared.error.SgfError.{SgfError}
use Rattle.go_sgf.specs.declared.error.SgfError.TheVariants.{Memory}
use Rattle.go_sgf.specs.declared.limits.TheConstants.{MAX_RECORD}
use Rattle.go_record.specs.Games.{IsGameOf}
use Rattle.go_record.specs.Records.{record_of, game_tree}
use Rattle.go_record.specs.Walks.{Outcome}

-- a record has one outcome, and no other
abbrev pub OneOutcome : Type 0
OneOutcome = (c : Trees) (number : Option ℕ) →
    (outcome : Outcome) × IsGameOf c number outcome × ((other : Outcome) → IsGameOf c number other → other ≡ outcome)

-- the game of a record is a standing that play can reach
abbrev pub SoundGames : Type 0
SoundGames = (c : Trees) (number : Option ℕ) (s : Standing) → IsGameOf c number (Ok s) → IsSound s

-- and it is under the positional rule
abbrev pub JudgedByPositions : Type 0
JudgedByPositions = (c : Trees) (number : Option ℕ) (s : Standing) → IsGameOf c number (Ok s) → s.rule ≡ Positional

-- The record of a standing can be spelled. Its text spells it and nothing else, so it is read, if it isn't
-- too long. Under the positional rule the outcome of that record is the standing and nothing else.
pub record Records (s : Standing) : Type 0 where
  pub fit : IsFit (game_tree s)
  pub spelled : Spells (record_of s) (game_tree s)
  pub alone : (c : Trees) → Spells (record_of s) c → c ≡ game_tree s
  pub read : (why : SgfError) → IsRefusal (record_of s) why → length (record_of s) ≤ MAX_RECORD → why ≡ Memory
  pub game : s.rule ≡ Positional → IsGameOf (game_tree s) None (Ok s)
  pub back : s.rule ≡ Positional → (c : Trees) (outcome : Outcome)
      → Spells (record_of s) c → IsGameOf c None outcome → outcome ≡ Ok s

-- so for every standing that play can reach
abbrev pub RecordLaw : Type 0
RecordLaw = (s : Standing) → IsSound s → Records s
