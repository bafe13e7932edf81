-- The bits of a word of a row: those of its neighbours, shifted and joined.
use Rattle.std.specs.Int.{bit_at}
use Rattle.std.specs.Int.RustNames.{bit_or}
use Rattle.std.proofs.Common.{arith, ◌≡◌, ◌<◌, ◌↔◌, ◌+◌, ◌-◌, ◌*◌, ◌/◌, ◌%◌, ◌^◌, ◌∙◌, ◌⊎◌, inl, inr, ℕ, zero, suc, List, bit_and, sym, ap, length, slice_index, slice_set, w32}
use Rattle.std.proofs.lemmas.Bool.{cases_eq, cases_lt}
use Rattle.std.proofs.lemmas.List.{get_or-set_same, get_or-set_other}
use Rattle.std.proofs.lemmas.Nat.{div-add-mod', one_shl}
use Rattle.std.proofs.lemmas.Nat.Bits.{bit_at-lt, bit_at-suc, bit_at_above, bit_at_and, bit_at_not, bit_at_ones, bit_at_ones_above, bit_at_set_other, bit_at_set_same, bit_at_cat_low, bit_at_lowest, bit_at_or}

-- a bit of the lowest 32
pub bit_kept : (n i : ℕ) → i < 32 → bit_at (n % 2 ^ 32) i ≡ bit_at n i
bit_kept n i low = sym (bit_at_cat_low (n / 2 ^ 32) 32 (n % 2 ^ 32) i low)
    ∙ ap (λ m. bit_at m i) (div-add-mod' n (2 ^ 32))

-- a set bit of a word is one of its 32
pub set_below : (n i : ℕ) → n < 2 ^ 32 → bit_at n i ≡ 1 → i < 32
set_below n i fits set = elim (cases_lt i 32)
    [ inl low ↦ low | inr past ↦ absurd (let none = bit_at_above n 32 i fits past in omega arith) ]

-- a bit one place up
pub bit_up : (n i : ℕ) → suc i < 32 → bit_at (n * 2 ^ 1 % 2 ^ 32) (suc i) ≡ bit_at n i
bit_up n i low = bit_kept (n * 2 ^ 1) (suc i) low ∙ bit_at-suc (n * 2 ^ 1) i
    ∙ ap (λ m. bit_at m i) (let e : n * 2 ^ 1 / 2 ≡ n = omega arith in e)

pub bit_up_zero : (n : ℕ) → bit_at (n * 2 ^ 1 % 2 ^ 32) 0 ≡ 0
bit_up_zero n = bit_kept (n * 2 ^ 1) 0 (omega arith) ∙ bit_at_lowest (n * 2 ^ 1)
    ∙ (let e : n * 2 ^ 1 % 2 ≡ 0 = omega arith in e)

-- a set bit of what was shifted up is one place up from one of the word
pub from_up : (n i : ℕ) → bit_at (n * 2 ^ 1 % 2 ^ 32) i ≡ 1 → (j : ℕ) × (j + 1 ≡ i) × (bit_at n j ≡ 1)
from_up n zero set = absurd (let none = bit_up_zero n in omega arith)
from_up n (suc i) set =
    let fits : n * 2 ^ 1 % 2 ^ 32 < 2 ^ 32 = omega arith in
    (i, omega arith, sym (bit_up n i (set_below (n * 2 ^ 1 % 2 ^ 32) (suc i) fits set)) ∙ set)

-- and of what was shifted down, one place down
pub bit_down : (n i : ℕ) → bit_at (n / 2 ^ 1) i ≡ bit_at n (suc i)
bit_down n i = sym (bit_at-suc n i)

-- one of the two words has the bit
pub from_or : (a b i : ℕ) → bit_at (bit_or a b) i ≡ 1 → (bit_at a i ≡ 1) ⊎ (bit_at b i ≡ 1)
from_or a b i set =
    let joined = bit_at_or a b i in
    let low = bit_at-lt a i in
    elim (cases_lt (bit_at a i) 1) [ inl none ↦ inr (omega arith) | inr one ↦ inl (omega arith) ]

pub or_left : (a b i : ℕ) → bit_at a i ≡ 1 → bit_at (bit_or a b) i ≡ 1
or_left a b i set = let joined = bit_at_or a b i in let low = bit_at-lt b i in omega arith

pub or_right : (a b i : ℕ) → bit_at b i ≡ 1 → bit_at (bit_or a b) i ≡ 1
or_right a b i set = let joined = bit_at_or a b i in let low = bit_at-lt a i in omega arith

pub both_set : (a b i : ℕ) → bit_at (bit_and a b) i ≡ 1 → (bit_at a i ≡ 1) × (bit_at b i ≡ 1)
both_set a b i set =
    let met = bit_at_and a b i in
    let low = bit_at-lt a i in
    let low_b = bit_at-lt b i in
    (omega arith, omega arith)

pub and_set : (a b i : ℕ) → bit_at a i ≡ 1 → bit_at b i ≡ 1 → bit_at (bit_and a b) i ≡ 1
and_set a b i set set_b = let met = bit_at_and a b i in omega arith

-- the columns of a row of n that aren't in a word
pub others_bits : (n word col : ℕ) → n < 32 → word < 2 ^ 32 →
    (bit_at (bit_and (1 * 2 ^ n % 2 ^ 32 - 1) (2 ^ 32 - 1 - word)) col ≡ 1) ↔ ((col < n) × (bit_at word col ≡ 1 → ⊥))
others_bits n word col small fits =
    let mask : bit_at (1 * 2 ^ n % 2 ^ 32 - 1) col ≡ bit_at (2 ^ n - 1) col =
    ap (λ m. bit_at (m - 1) col) (one_shl n 32 small) in (
      λ set.
          let parts = both_set (1 * 2 ^ n % 2 ^ 32 - 1) (2 ^ 32 - 1 - word) col set in
          let low : col < n = elim (cases_lt col n) [
            | inl low ↦ low
            | inr past ↦ absurd
                (let none = bit_at_ones_above n col past in let some = parts.0 in omega arith)
          ] in
          (low, λ has. let flipped = bit_at_not w32 word col fits (omega arith) in let some = parts.1 in omega arith),
      λ h.
          let low = h.0 in
          let flipped = bit_at_not w32 word col fits (omega arith) in
          let bit = bit_at-lt word col in
          let clear : bit_at word col ≡ 0 =
          elim (cases_lt (bit_at word col) 1) [ inl none ↦ omega arith | inr one ↦ absurd (h.1 (omega arith)) ] in
          and_set (1 * 2 ^ n % 2 ^ 32 - 1) (2 ^ 32 - 1 - word) col (mask ∙ bit_at_ones n col low) (omega arith),
    )

-- a column put into a row
pub column_put : (word k col : ℕ) → k < 32 → (bit_at (bit_or word (1 * 2 ^ k % 2 ^ 32)) col ≡ 1)
    ↔ ((col ≡ k) ⊎ (bit_at word col ≡ 1))
column_put word k col small = elim (cases_eq col k) [
  | inl same ↦ (
    λ _. inl same,
    λ _. ap (bit_at (bit_or word (1 * 2 ^ k % 2 ^ 32))) same
        ∙ bit_at_set_same w32 word k small,
  )
  | inr off ↦ (
    λ set. inr (sym (bit_at_set_other w32 word k small col off) ∙ set),
    λ h. bit_at_set_other w32 word k small col off ∙ elim h [ inl same ↦ absurd (off same) | inr was ↦ was ],
  )
]

-- a set with one place more
module _ (old : List ℕ) (row col : ℕ) (long : row < length old) (low : col < 32) where
  abbrev put : List ℕ
  put = slice_set old row (bit_or (slice_index old row) (1 * 2 ^ col % 2 ^ 32))

  same_row : slice_index put row ≡ bit_or (slice_index old row) (1 * 2 ^ col % 2 ^ 32)
  same_row = get_or-set_same old row (bit_or (slice_index old row) (1 * 2 ^ col % 2 ^ 32)) 0 long

  in_row : (k : ℕ) → (bit_at (slice_index put row) k ≡ 1) ↔ ((k ≡ col) ⊎ (bit_at (slice_index old row) k ≡ 1))
  in_row k =
      let same = ap (λ w. bit_at w k) same_row in
      let one = column_put (slice_index old row) col k low in
      (λ set. one.0 (sym same ∙ set), λ either. same ∙ one.1 either)

  pub place_put : (r k : ℕ) → (bit_at (slice_index put r) k ≡ 1)
      ↔ (((r ≡ row) × (k ≡ col)) ⊎ (bit_at (slice_index old r) k ≡ 1))
  place_put r k = elim (cases_eq r row) [
    | inl at ↦ (
      λ set. elim ((in_row k).0 (ap (λ (j : ℕ). bit_at (slice_index put j) k) (sym at) ∙ set))
          [ inl is ↦ inl (at, is) | inr had ↦ inr (ap (λ (j : ℕ). bit_at (slice_index old j) k) at ∙ had) ],
      λ either. ap (λ (j : ℕ). bit_at (slice_index put j) k) at
          ∙ (in_row k).1 (elim either [
            | inl is ↦ inl is.1
            | inr had ↦
                inr (ap (λ (j : ℕ). bit_at (slice_index old j) k) (sym at) ∙ had)
          ]),
    )
    | inr off ↦ (
        let same : bit_at (slice_index put r) k ≡ bit_at (slice_index old r) k =
        ap (λ w. bit_at w k) (get_or-set_other old row r (bit_or (slice_index old row) (1 * 2 ^ col % 2 ^ 32)) 0
        off) in
        (λ set. inr (sym same ∙ set), λ either. elim either [ inl is ↦ absurd (off is.0) | inr had ↦ same ∙ had ])
        )
  ]
