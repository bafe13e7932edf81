-- What a record states of its game's score, compared with the score.
use Rattle.std.specs.Prelude.{◌≡◌, ◌≢◌, ◌-ℤ◌, ℕ, ℤ, pos, Bool, false, ◌==◌, ◌||◌, if◌then◌else◌, List, [], ◌∷◌, Option, Some, None, Ok, bytes_eq, codes, drop, length, option_map, take}
use Rattle.std.specs.Char.{is_ascii_digit}
use Rattle.go_game.specs.Scores.{margin_of}
use Rattle.go_game.specs.Standings.{Standing}
use Rattle.go_sgf.specs.Cooked.{cooked_simple}
use Rattle.go_sgf.specs.Numbers.{hundredths_by, trimmed}
use Rattle.go_sgf.specs.Record.{Trees}
use Rattle.go_record.specs.declared.verdict.Stated.{Stated}
use Rattle.go_record.specs.declared.verdict.Stated.TheVariants.{Agrees, Differs}
use Rattle.go_record.specs.declared.verdict.Stated.TheVariants as said
use Rattle.go_record.specs.declared.verdict.Verdict.{Verdict}
use Rattle.go_record.specs.Games.{IsGameOf, value_at_root}

-- begins with a digit or a point
abbrev pub is_number_first : List ℕ → Bool
is_number_first [] = false
is_number_first (b ∷ bytes) = is_ascii_digit b || b == 46

abbrev pub size_spelled : List ℕ → Option ℤ
size_spelled text = if is_number_first text then hundredths_by text else None

-- a margin on Black's side in hundredths: `0` and `Draw`, or a colour's `B+` or `W+` and a number
abbrev pub margin_spelled : List ℕ → Option ℤ
margin_spelled word =
    if bytes_eq word (codes "0") || bytes_eq word (codes "Draw") then Some (pos 0) else
    (if bytes_eq (take 2 word) (codes "B+") then size_spelled (drop 2 word) else
    (if bytes_eq (take 2 word) (codes "W+") then option_map (λ size. pos 0 -ℤ size) (size_spelled (drop 2 word))
    else None))

-- what a record states: its first RE as SimpleText, with white space at both ends skipped
abbrev pub margin_by : Trees → Option ℤ
margin_by c = margin_spelled (trimmed (cooked_simple (value_at_root (codes "RE") c)))

abbrev pub IsStated : Option ℤ → ℤ → Stated → Type 0
IsStated None margin said.None = Unit {0}
IsStated (Some stated) margin Agrees = stated ≡ margin
IsStated (Some stated) margin Differs = stated ≢ margin
IsStated _ margin _ = ⊥

-- The verdict on a record whose game is a standing.
pub record IsVerdict (c : Trees) (v : Verdict) : Type 0 where
  pub standing : Standing
  pub game : IsGameOf c None (Ok standing)
  pub moves : v.moves ≡ length standing.moves
  pub margin : v.margin ≡ margin_of standing
  pub stated : IsStated (margin_by c) (margin_of standing) v.stated
