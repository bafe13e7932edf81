-- What a game's rule saw, as its history has it, by keys.
use Rattle.std.specs.Prelude.{◌≡◌, ℕ, List, Option, Some, None, length}
use Rattle.go_board.specs.PackBytes.{bytes_of}
use Rattle.go_board.specs.Packs.{packed_of}
use Rattle.go_history.specs.declared.key.Key.{Key}
use Rattle.go_history.specs.Histories.{HistoryValue, IsChangedAt, IsUnchanged, number_at}
use Rattle.go_game.specs.Standings.{Seen}
use Rattle.go_game.specs.Whole.{first_at}

-- the key of what is seen
abbrev pub IsKeyOf : Key → Seen → Type 0
IsKeyOf k x = (bytes_of k.pack ≡ packed_of x.0) × (k.mover ≡ x.1)

-- the history of what was seen: at the key of what is seen of n points it has the first place of it among them
abbrev pub StandsFor : ℕ → HistoryValue → List Seen → Type 0
StandsFor n h xs = (k : Key) (x : Seen) → IsKeyOf k x → length x.0 ≡ n → number_at h k ≡ first_at 0 xs x

-- the key is noted with this number unless it has one already, and nothing else changes
pub record IsNoted (old new : HistoryValue) (key : Key) (number : ℕ) : Type 0 where
  pub known : Option ℕ
  pub found : known ≡ number_at old key
  pub noted : known ≡ None → IsChangedAt old new key (Some number)
  pub stood : (k : ℕ) → known ≡ Some k → IsUnchanged old new
