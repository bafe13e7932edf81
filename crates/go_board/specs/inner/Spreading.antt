-- How marks spread over sets of places, from each to those next to it. For the contracts of private functions.
use Rattle.std.specs.Prelude.{◌≡◌, ◌<◌, ◌≤◌, ◌+◌, ◌^◌, ◌⊎◌, ℕ, Bool, true, List, slice_index, sum_by}
use Rattle.go_board.specs.Rows.{IsIn}

-- the two places share a side
abbrev pub IsNext : ℕ → ℕ → ℕ → ℕ → Type 0
IsNext row col row' col' =
    ((row ≡ row') × ((col + 1 ≡ col') ⊎ (col' + 1 ≡ col)))
    ⊎ ((col ≡ col') × ((row + 1 ≡ row') ⊎ (row' + 1 ≡ row)))

-- a place of the set shares a side with this one
abbrev pub HasNext : List ℕ → ℕ → ℕ → Type 0
HasNext rows row col = (row' col' : ℕ) × IsNext row col row' col' × IsIn rows row' col'

-- the sum of the words: with each place more it is more
abbrev pub sum_of_words : List ℕ → ℕ
sum_of_words rows = sum_by (λ (word : ℕ). word) rows

-- each place of the set passes the test
abbrev pub PassesAll : (ℕ → ℕ → Bool) → List ℕ → Type 0
PassesAll test rows = (row col : ℕ) → IsIn rows row col → test row col ≡ true

-- the test passes from place to place over the free ones
abbrev pub PassesOn : (ℕ → ℕ → Bool) → List ℕ → Type 0
PassesOn test free = (row col row' col' : ℕ)
    → IsNext row col row' col' → test row' col' ≡ true → IsIn free row col → test row col ≡ true

-- the marks spread over free places alone, from each to those next to it
pub record Spread (marks free marks' : List ℕ) : Type 0 where
  pub kept : (row col : ℕ) → IsIn marks row col → IsIn marks' row col
  pub only : (test : ℕ → ℕ → Bool) → PassesOn test free → PassesAll test marks → PassesAll test marks'
  pub most : sum_of_words marks ≤ sum_of_words marks'
  pub fits : ((i : ℕ) → slice_index marks i < 2 ^ 32) → (i : ℕ) → slice_index marks' i < 2 ^ 32

-- each free place of the row that is next to a marked one is marked
abbrev pub IsClosedAt : List ℕ → List ℕ → ℕ → Type 0
IsClosedAt marks free row = (col row' col' : ℕ)
    → IsNext row col row' col' → IsIn marks row' col' → IsIn free row col → IsIn marks row col
