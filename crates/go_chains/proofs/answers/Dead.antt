-- Whether a label has a liberty in a word, and whether it has one at all.
use Rattle.std.specs.Int.{bit_at, trailing_zeros}
use Rattle.std.specs.Prelude.{bit_and}
use Rattle.std.proofs.Common.{ℕ, ◌+◌, ◌*◌, ◌/◌, ◌%◌, ◌^◌, ◌<◌, ◌≡◌, ◌≢◌, sym, ap, ◌∙◌, arith, List, w64, min}
use Rattle.std.proofs.lemmas.Nat.Bits.{bit_at_and, bit_at-lt, bit_at-zero, bit_at-trailing_zeros}
use Rattle.go_board.specs.Paths.{IsAdjacent}
use Rattle.go_chains.specs.Cells.{code_at, label_of, lib_of, word_of}
use Rattle.go_chains.specs.inner.Quiet.{HasLibertyBut}
use Rattle.go_chains.specs.inner.Tables.{IsDead, IsStone, IsTidy, tables_of}

-- a word that has no marked bit has none of a point
pub none_in_word : (word mask i : ℕ) → bit_and word mask ≡ 0 → bit_at mask i ≡ 1 → bit_at word i ≡ 1 → ⊥
none_in_word word mask i none marked one =
    let e : min (bit_at word i) (bit_at mask i) ≡ 0 = sym (bit_at_and word mask i) ∙ ap (λ x. bit_at x i) none
    ∙ bit_at-zero i in
    omega arith

-- so none of its points is a liberty
pub none_in : (cells : List ℕ) (label word mask read : ℕ) → read ≡ word_of cells label word → bit_and read mask ≡ 0
    → (q : ℕ) → q / 64 ≡ word → bit_at mask (q % 64) ≡ 1 → lib_of cells label q ≡ 1 → ⊥
none_in cells label word mask read read_is none q at marked one =
    none_in_word read mask (q % 64) none marked
    (ap (λ x. bit_at x (q % 64)) (read_is ∙ ap (word_of cells label) (sym at)) ∙ one)

-- a stone's point is no liberty of its chain, so where no other point is one the chain has none
pub none_but_its_own : (n : ℕ) (cells : List ℕ) (near : ℕ) → IsTidy (n * n) (IsAdjacent n) (tables_of cells) →
    IsStone (n * n) (tables_of cells) near → (HasLibertyBut n cells near (label_of cells near) → ⊥) →
    IsDead (n * n) (tables_of cells) (label_of cells near)
none_but_its_own n cells near tidy stone none x x_in one =
    none (x, x_in, (λ same. apart same (tidy.lib_is near x stone x_in one).0 stone.1), one)
  where
    apart : x ≡ near → code_at cells x ≡ 0 → 0 < code_at cells near → ⊥
    apart same empty some = omega (arith, ap (code_at cells) same, empty, some)

-- a word with a marked bit has a liberty there
pub some_in : (cells : List ℕ) (label word mask read : ℕ) → bit_and read mask < 2 ^ 64 →
    read ≡ word_of cells label word → bit_and read mask ≢ 0
    → (q : ℕ) × (q / 64 ≡ word) × (bit_at mask (q % 64) ≡ 1) × (lib_of cells label q ≡ 1)
some_in cells label word mask read small read_is some =
    let both = bit_and read mask in
    let t = bit_at-trailing_zeros w64 both (omega arith) small in
    let i = trailing_zeros w64 both in
    let i_in : i < 64 = t.0 in
    let e : min (bit_at read i) (bit_at mask i) ≡ 1 = sym (bit_at_and read mask i) ∙ t.1 in
    let r : bit_at read i < 2 = bit_at-lt read i in
    let m : bit_at mask i < 2 = bit_at-lt mask i in
    let q = 64 * word + i in
    let q_word : q / 64 ≡ word = omega arith in
    let q_bit : q % 64 ≡ i = omega arith in (
      q,
      q_word,
      ap (bit_at mask) q_bit ∙ (let o : bit_at mask i ≡ 1 = omega arith in o),
      ap (λ w. bit_at (word_of cells label w) (q % 64)) q_word ∙ ap (bit_at (word_of cells label word)) q_bit
          ∙ ap (λ x. bit_at x i) (sym read_is) ∙ (let o : bit_at read i ≡ 1 = omega arith in o),
    )
