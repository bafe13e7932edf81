-- What a history has at a key.
use Rattle.std.specs.Prelude.{◌≡◌, ◌==◌, ℕ, List, Option, Some, None, cond, if◌then◌else◌}
use Rattle.std.specs.Map.{lookup}
use Rattle.go_history.specs.declared.key.Key.{Key}
use Rattle.go_history.specs.Keys.{key_eq}

-- the start's key, and the keys noted besides with their numbers, in some order
pub record HistoryValue : Type 0 where
  pub start : Key
  pub later : List (Key × ℕ)

-- what is noted of a key besides the start's
abbrev pub later_at : HistoryValue → Key → Option ℕ
later_at h p = lookup (key_eq p) h.later

-- after how many moves the position of this key first came
abbrev pub number_at : HistoryValue → Key → Option ℕ
number_at h p = cond (key_eq h.start p) (Some 0) (later_at h p)

-- nothing is noted besides the start
abbrev pub IsBegun : HistoryValue → Key → Type 0
IsBegun h start = (h.start ≡ start) × ((q : Key) → later_at h q ≡ None)

-- the start stays, and so does what is noted of each key but this
abbrev pub IsChangedAt : HistoryValue → HistoryValue → Key → Option ℕ → Type 0
IsChangedAt old new p number =
    (new.start ≡ old.start) × ((q : Key) → later_at new q ≡ cond (key_eq p q) number (later_at old q))

-- the start stays, and what is noted of each key
abbrev pub IsUnchanged : HistoryValue → HistoryValue → Type 0
IsUnchanged old new = (new.start ≡ old.start) × ((q : Key) → later_at new q ≡ later_at old q)

-- what is left of a key's number once this one is taken out
abbrev pub without : ℕ → Option ℕ → Option ℕ
without number None = None
without number (Some k) = if k == number then None else Some k

-- the start stays, and so does what is noted of each key, but this one loses this number
abbrev pub IsForgotten : HistoryValue → HistoryValue → Key → ℕ → Type 0
IsForgotten old new p number =
    (new.start ≡ old.start)
    × ((q : Key) → later_at new q ≡ cond (key_eq p q) (without number (later_at old q)) (later_at old q))
