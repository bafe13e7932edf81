-- How a set of places grows by a row.
use Rattle.std.specs.Int.{bit_at}
use Rattle.std.specs.Int.RustNames.{bit_or}
use Rattle.std.proofs.Common.{arith, true≢false, not, false, ◌==◌, ◌≡◌, ◌≢◌, ◌<◌, ◌≤◌, ◌+◌, ◌*◌, ◌^◌, ◌∙◌, ◌⊎◌, inl, inr, Bool, true, ℕ, List, bit_and, length, sym, ap, subst, slice_index, slice_set}
use Rattle.std.proofs.lemmas.Bool.{cases_Bool, cases_eq, eq-eqb, eqb-true}
use Rattle.std.proofs.lemmas.List.{get_or_default, get_or-set_same, get_or-set_other, set-get_or}
use Rattle.std.proofs.lemmas.List.Sums.{sum_by-le, sum_by-set}
use Rattle.std.proofs.lemmas.Nat.{and_le_r, le_or_l, or_lt}
use Rattle.go_board.specs.Rows.{IsIn}
use Rattle.go_board.specs.inner.Spreading.{HasNext, IsClosedAt, PassesAll, PassesOn, Spread, sum_of_words}
use Rattle.go_board.proofs.RowBits.{and_set, both_set, from_or, or_left, or_right, set_below}

-- a word of the set gets the places of a row that are free and beside the set
module _ (marks free : List ℕ) (row word after : ℕ) (within : row < length marks)
    (after_is : after ≡ bit_or (slice_index marks row) (bit_and word (slice_index free row)))
    (from : (col : ℕ) → bit_at word col ≡ 1 → HasNext marks row col)
    (all : (col : ℕ) → col < 32 → HasNext marks row col → bit_at word col ≡ 1)
    (fits : slice_index free row < 2 ^ 32) where
  before : ℕ
  before = slice_index marks row

  now : List ℕ
  now = slice_set marks row after

  here : slice_index (slice_set marks row after) row ≡ after
  here = get_or-set_same marks row after 0 within

  there : (r : ℕ) → r ≢ row → slice_index (slice_set marks row after) r ≡ slice_index marks r
  there r off = get_or-set_other marks row r after 0 off

  kept : (r col : ℕ) → IsIn marks r col → IsIn (slice_set marks row after) r col
  kept r col set = elim (cases_eq r row) [
    | inl same ↦
        let was : bit_at (slice_index marks row) col ≡ 1 = ap (λ k. bit_at (slice_index marks k) col) (sym same)
        ∙ set in
        ap (λ k. bit_at (slice_index (slice_set marks row after) k) col) same ∙ ap (λ w. bit_at w col) (here ∙ after_is)
        ∙ or_left (slice_index marks row) (bit_and word (slice_index free row)) col was
    | inr off ↦ ap (λ w. bit_at w col) (there r off) ∙ set
  ]

  -- what is put in is free and beside the set
  only_here : (test : ℕ → ℕ → Bool) → PassesOn test free → PassesAll test marks → (col : ℕ) → bit_at after col ≡ 1 →
      test row col ≡ true
  only_here test on passes col set =
      elim (from_or (slice_index marks row) (bit_and word (slice_index free row)) col
      (sym (ap (λ w. bit_at w col) after_is) ∙ set)) [
        | inl was ↦ passes row col was
        | inr put ↦
            let parts = both_set word (slice_index free row) col put in
            let next = from col parts.0 in
            on row col next.0 next.1 next.2 (passes next.0 next.1 next.3) parts.1
      ]

  only : (test : ℕ → ℕ → Bool) → PassesOn test free → PassesAll test marks → PassesAll test (slice_set marks row after)
  only test on passes r col set = elim (cases_eq r row) [
    | inl same ↦
        let put : bit_at after col ≡ 1 = sym (ap (λ w. bit_at w col) here)
        ∙ ap (λ k. bit_at (slice_index (slice_set marks row after) k) col) (sym same) ∙ set in
        ap (λ k. test k col) same ∙ only_here test on passes col put
    | inr off ↦ passes r col (sym (ap (λ w. bit_at w col) (there r off)) ∙ set)
  ]

  sums : sum_of_words (slice_set marks row after) + slice_index marks row ≡ sum_of_words marks + after
  sums = sum_by-set (λ (w : ℕ). w) marks row after 0 within

  not_less : slice_index marks row ≤ after
  not_less = let more = le_or_l (slice_index marks row) (bit_and word (slice_index free row)) in
      omega (arith, more, after_is)

  still_fits : ((i : ℕ) → slice_index marks i < 2 ^ 32) → (i : ℕ) → slice_index (slice_set marks row after) i < 2 ^ 32
  still_fits fit i = elim (cases_eq i row) [
    | inl same ↦
        let put : slice_index (slice_set marks row after) i ≡ bit_or (slice_index marks row)
        (bit_and word (slice_index free row)) = ap (slice_index (slice_set marks row after)) same ∙ here
        ∙ after_is in
        let few = and_le_r word (slice_index free row) in
        let low = or_lt 32 (slice_index marks row) (bit_and word (slice_index free row)) (fit row) (omega arith) in
        omega (arith, put, low)
    | inr off ↦ let old = fit i in let at = there i off in omega arith
  ]

  pub grown : Spread marks free (slice_set marks row after)
  grown = record { kept = kept; only = only; most = omega (arith, sums, not_less); fits = still_fits }

  pub grown_more : after ≢ slice_index marks row → sum_of_words marks < sum_of_words (slice_set marks row after)
  grown_more differs = omega (arith, sums, not_less, differs)

  pub grown_same : after ≡ slice_index marks row → slice_set marks row after ≡ marks
  grown_same same = ap (slice_set marks row) same ∙ set-get_or marks row 0

  pub grown_closed : after ≡ slice_index marks row → IsClosedAt marks free row
  grown_closed same col r' col' next marked is_free =
      let low = set_below (slice_index free row) col fits is_free in
      let beside = all col low (r', col', next, marked) in
      ap (λ w. bit_at w col) (sym same ∙ after_is)
      ∙ or_right (slice_index marks row) (bit_and word (slice_index free row)) col
      (and_set word (slice_index free row) col beside is_free)

-- what spread, and spread on, spread
pub spread_more : (free : List ℕ) {a b c : List ℕ} → Spread a free b → Spread b free c → Spread a free c
spread_more free first second = record {
  kept = λ row col set. second.kept row col (first.kept row col set);
  only = λ test on passes. second.only test on (first.only test on passes);
  most = let one = first.most in let two = second.most in omega arith;
  fits = λ fit. second.fits (first.fits fit);
}

-- what the test for a difference says
pub differ : (a b : ℕ) → not (a == b) ≡ true → a ≢ b
differ a b test same = true≢false (sym (sym (ap not (eq-eqb a b same)) ∙ test))

pub alike : (a b : ℕ) → not (a == b) ≡ false → a ≡ b
alike a b test = elim (cases_Bool (a == b))
    [ inl same ↦ eqb-true a b same | inr differs ↦ absurd (true≢false (sym (ap not differs) ∙ test)) ]

-- words that fit add up to no more than this
pub total_most : (rows : List ℕ) → ((i : ℕ) → slice_index rows i < 2 ^ 32) → sum_of_words rows ≤ length rows * 2 ^ 32
total_most rows fits = sum_by-le (λ (w : ℕ). w) (2 ^ 32) rows
    (λ i d low. let same = get_or_default rows i d 0 low in let fit = fits i in omega arith)

-- what holds as rows are swept: where nothing was put in, these are closed
pub record IsSwept (start free marks : List ℕ) (more : Bool) (rows : ℕ) : Type 0 where
  pub spread : Spread start free marks
  pub longer : more ≡ true → sum_of_words start < sum_of_words marks
  pub same : more ≡ false → marks ≡ start
  pub closed : more ≡ false → (row : ℕ) → row < rows → IsClosedAt start free row

-- one row more was swept
pub swept_more : (start free marks marks' : List ℕ) (more more' grew : Bool) (rows rows' row : ℕ) →
    IsSwept start free marks more rows
    → Spread marks free marks' → (grew ≡ true → sum_of_words marks < sum_of_words marks') →
    (grew ≡ false → marks' ≡ marks) → (grew ≡ false → IsClosedAt marks free row)
    → ((grew ≡ true) × (more' ≡ true)) ⊎ ((grew ≡ false) × (more' ≡ more)) →
    ((r : ℕ) → r < rows' → (r < rows) ⊎ (r ≡ row))
    → IsSwept start free marks' more' rows'
swept_more start free marks marks' more more' grew rows rows' row before spread longer same closed (inl yes_grew)
    places = record {
      spread = spread_more free before.spread spread;
      longer = λ _. let so_far = before.spread.most in let now = longer yes_grew.0 in omega arith;
      same = λ none. absurd (true≢false (sym yes_grew.1 ∙ none));
      closed = λ none. absurd (true≢false (sym yes_grew.1 ∙ none));
    }
swept_more start free marks marks' more more' grew rows rows' row before spread longer same closed (inr still) places =
    record {
      spread = spread_more free before.spread spread;
      longer = λ some. let so_far = before.longer (sym still.1 ∙ some) in let now = spread.most in omega arith;
      same = λ none. same still.0 ∙ before.same (sym still.1 ∙ none);
      closed = λ none r low. elim (places r low) [
        | inl old ↦ before.closed (sym still.1 ∙ none) r old
        | inr last ↦ subst (λ (k : ℕ). IsClosedAt start free k) (sym last)
            (subst (λ (m : List ℕ). IsClosedAt m free row) (before.same (sym still.1 ∙ none)) (closed still.0))
      ];
    }
