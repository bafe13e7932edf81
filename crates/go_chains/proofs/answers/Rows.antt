-- The stones of a colour as rows of bits.
use Rattle.std.specs.Int.{bit_at}
use Rattle.std.proofs.Common.{arith, ◌≡◌, ◌<◌, ◌+◌, ◌*◌, ◌∙◌, ◌⊎◌, ◌↔◌, inl, inr, ℕ, List, Option, Some, sym, subst}
use Rattle.std.proofs.lemmas.Bool.{cases_eq}
use Rattle.std.proofs.lemmas.Grind.{common_steps}
use Rattle.std.proofs.lemmas.Nat.{rows}
use Rattle.go_board.specs.declared.colour.Colour.{Colour}
use Rattle.go_board.specs.Colours.{colour_at}
use Rattle.go_board.specs.Packs.{colour_coded}
use Rattle.go_chains.specs.Cells.{code_at}
use Rattle.go_chains.specs.Boards.{colouring_of}
use Rattle.go_chains.proofs.rules.Sound.{colouring-at}

-- one column more of a row
pub column_more : (Q : ℕ → Type 0) (k word word' : ℕ) → ((col : ℕ) → (bit_at word col ≡ 1) ↔ ((col < k) × Q col))
    → ((i : ℕ) → (bit_at word' i ≡ 1) ↔ (((i ≡ k) × Q k) ⊎ (bit_at word i ≡ 1))) → (col : ℕ) → (bit_at word' col ≡ 1)
    ↔ ((col < k + 1) × Q col)
column_more Q k word word' before put col = (
  λ set. elim ((put col).0 set) [
    | inl at ↦ (let same = at.0 in omega arith, subst Q (sym at.0) at.1)
    | inr was ↦ let h = (before col).0 was in (let low = h.0 in omega arith, h.1)
  ],
  λ h. (put col).1 (elim (cases_eq col k)
      [ inl same ↦ inl (same, subst Q same h.1) | inr off ↦ inr ((before col).1 (let low = h.0 in omega arith, h.1)) ]),
)

-- a test of a cell's colour is one of the point's colour
pub read_as : (n : ℕ) (cells : List ℕ) (row col word word' : ℕ) (colour : Option Colour) (c : Colour) →
    row * n + col < n * n → colour ≡ colour_coded (code_at cells (row * n + col))
    → ((i : ℕ) → (bit_at word' i ≡ 1) ↔ (((i ≡ col) × (colour ≡ Some c)) ⊎ (bit_at word i ≡ 1)))
    → (i : ℕ) → (bit_at word' i ≡ 1)
    ↔ (((i ≡ col) × (colour_at (colouring_of n cells) (row * n + col) ≡ Some c)) ⊎ (bit_at word i ≡ 1))
read_as n cells row col word word' colour c low is put =
    subst (λ (o : Option Colour). (i : ℕ) → (bit_at word' i ≡ 1) ↔ (((i ≡ col) × (o ≡ Some c)) ⊎ (bit_at word i ≡ 1)))
    (is ∙ sym (colouring-at n cells (row * n + col) low)) put

-- a place of the board has a number on it
pub place_low : (n row col : ℕ) → row < n → col < n → row * n + col < n * n
place_low n row col row_low col_low = grind (arith, common_steps, rows)
