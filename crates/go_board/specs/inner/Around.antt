-- Places around another one, and what passes from one to the next.
use Rattle.std.specs.Prelude.{◌≡◌, ◌<◌, ◌&&◌, ℕ, Bool, true, not, cond, List}
use Rattle.go_board.specs.Rows.{IsIn}
use Rattle.go_board.specs.inner.Spreading.{IsNext}

-- the place is on a board of n lines and isn't in the set
abbrev pub IsOpen : List ℕ → ℕ → ℕ → ℕ → Type 0
IsOpen own n row col = (row < n) × (col < n) × (IsIn own row col → ⊥)

-- the test passes from place to place over the open ones, but not over this one
abbrev pub PassesRound : (ℕ → ℕ → Bool) → List ℕ → ℕ → ℕ → ℕ → Type 0
PassesRound test own n row col = (r k r' k' : ℕ) → IsNext r k r' k' → test r' k' ≡ true → IsOpen own n r k →
    ((r ≡ row) × (k ≡ col) → ⊥) → test r k ≡ true

-- what passes so, and holds of one of the open places next to this one, holds of each of them
abbrev pub AreJoinedRound : List ℕ → ℕ → ℕ → ℕ → Type 0
AreJoinedRound own n row col = (test : ℕ → ℕ → Bool) → PassesRound test own n row col
    → (r k r' k' : ℕ) → IsNext row col r k → IsNext row col r' k' → IsOpen own n r k → IsOpen own n r' k' →
    test r k ≡ true → test r' k' ≡ true

-- 1 where a place is there and doesn't lead to the next one by the corner between them
abbrev pub gap : Bool → Bool → Bool → ℕ
gap here corner next = cond (here && not (corner && next)) 1 0
