-- The places around another one: those next to it are joined around it where one gap at most is between them.
use Rattle.std.proofs.Common.{arith, ◌≡◌, ◌≤◌, ◌+◌, ◌∙◌, ◌⊎◌, ◌↔◌, inl, inr, Bool, true, false, true≢false, ℕ, List, IsTrue, refl, sym, ap₂, subst}
use Rattle.std.proofs.lemmas.Bool.{cases_eq}
use Rattle.go_board.specs.inner.Spreading.{IsNext}
use Rattle.go_board.specs.inner.Around.{IsOpen, PassesRound, gap}
use Rattle.go_board.proofs.Clearing.{same_test}

gap_none : (here corner next : Bool) → here ≡ true → gap here corner next ≡ 0 → (corner ≡ true) × (next ≡ true)
gap_none true true true there none = (refl, refl)
gap_none true true false there none = absurd (omega (arith, none))
gap_none true false next there none = absurd (omega (arith, none))
gap_none false corner next there none = absurd (true≢false (sym there))

-- four places in a ring, each with a test, and what it costs to go on from each: of two that are there, the tests are the same
-- where all of it costs one at most
module _ (a b c d ta tb tc td : Bool) (ga gb gc gd : ℕ) (few : ga + gb + gc + gd ≤ 1)
    (step_a : a ≡ true → ga ≡ 0 → (ta ≡ tb) × (b ≡ true)) (step_b : b ≡ true → gb ≡ 0 → (tb ≡ tc) × (c ≡ true))
    (step_c : c ≡ true → gc ≡ 0 → (tc ≡ td) × (d ≡ true)) (step_d : d ≡ true → gd ≡ 0 → (td ≡ ta) × (a ≡ true)) where
  beside_same : a ≡ true → b ≡ true → ta ≡ tb
  beside_same a_there b_there = elim (cases_eq ga 0) [
    | inl none ↦ (step_a a_there none).0
    | inr some ↦
        let from_b = step_b b_there (omega (arith, few, some)) in
        let from_c = step_c from_b.1 (omega (arith, few, some)) in
        let from_d = step_d from_c.1 (omega (arith, few, some)) in
        sym (from_b.0 ∙ from_c.0 ∙ from_d.0)
  ]

  across_same : a ≡ true → c ≡ true → ta ≡ tc
  across_same a_there c_there = elim (cases_eq (ga + gb) 0) [
    | inl none ↦
        let from_a = step_a a_there (omega (arith, none)) in
        let from_b = step_b from_a.1 (omega (arith, none)) in
        from_a.0 ∙ from_b.0
    | inr some ↦
        let from_c = step_c c_there (omega (arith, few, some)) in
        let from_d = step_d from_c.1 (omega (arith, few, some)) in
        sym (from_c.0 ∙ from_d.0)
  ]

next_sym : (r k r' k' : ℕ) → IsNext r k r' k' → IsNext r' k' r k
next_sym r k r' k' (inl (same, inl up)) = inl (sym same, inr up)
next_sym r k r' k' (inl (same, inr down)) = inl (sym same, inl down)
next_sym r k r' k' (inr (same, inl up)) = inr (sym same, inr up)
next_sym r k r' k' (inr (same, inr down)) = inr (sym same, inl down)

module _ (own : List ℕ) (n row col : ℕ) (test : ℕ → ℕ → Bool) (passes : PassesRound test own n row col) where
  -- a test is the same of two places with one between them
  over : (r₁ k₁ r₂ k₂ r₃ k₃ : ℕ) → IsNext r₁ k₁ r₂ k₂ → IsNext r₂ k₂ r₃ k₃ → IsOpen own n r₁ k₁ → IsOpen own n r₂ k₂ →
      IsOpen own n r₃ k₃
      → ((r₁ ≡ row) × (k₁ ≡ col) → ⊥) → ((r₂ ≡ row) × (k₂ ≡ col) → ⊥) → ((r₃ ≡ row) × (k₃ ≡ col) → ⊥) →
      test r₁ k₁ ≡ test r₃ k₃
  over r₁ k₁ r₂ k₂ r₃ k₃ first second vacant₁ vacant₂ vacant₃ off₁ off₂ off₃ =
      same_test (test r₁ k₁) (test r₃ k₃)
      (λ t. passes r₃ k₃ r₂ k₂ (next_sym r₂ k₂ r₃ k₃ second)
      (passes r₂ k₂ r₁ k₁ (next_sym r₁ k₁ r₂ k₂ first) t vacant₂ off₂) vacant₃ off₃)
      (λ t. passes r₁ k₁ r₂ k₂ first (passes r₂ k₂ r₃ k₃ second t vacant₂ off₂) vacant₁ off₁)

-- the lines beside a place: the one before the first is past the last
module _ (own : List ℕ) (n row col up down right left : ℕ) (up_is : up ≡ row + 1) (right_is : right ≡ col + 1)
    (down_is : ((row ≡ 0) × (n ≤ down)) ⊎ (down + 1 ≡ row)) (left_is : ((col ≡ 0) × (n ≤ left)) ⊎ (left + 1 ≡ col))
    (north north_east east south_east south south_west west north_west : Bool)
    (north_is : IsTrue north ↔ IsOpen own n up col) (north_east_is : IsTrue north_east ↔ IsOpen own n up right)
    (east_is : IsTrue east ↔ IsOpen own n row right) (south_east_is : IsTrue south_east ↔ IsOpen own n down right)
    (south_is : IsTrue south ↔ IsOpen own n down col) (south_west_is : IsTrue south_west ↔ IsOpen own n down left)
    (west_is : IsTrue west ↔ IsOpen own n row left) (north_west_is : IsTrue north_west ↔ IsOpen own n up left)
    (few : gap north north_east east + gap east south_east south + gap south south_west west + gap west north_west north
    ≤ 1)
    (test : ℕ → ℕ → Bool) (passes : PassesRound test own n row col) where
  down_next : (k : ℕ) → IsOpen own n down k → down + 1 ≡ row
  down_next k vacant = elim down_is
      [ inl none ↦ absurd (let low = vacant.0 in omega (arith, none.1)) | inr there ↦ there ]

  left_next : (r : ℕ) → IsOpen own n r left → left + 1 ≡ col
  left_next r vacant = elim left_is
      [ inl none ↦ absurd (let low = vacant.1 in omega (arith, none.1)) | inr there ↦ there ]

  from_north : north ≡ true → gap north north_east east ≡ 0 → (test up col ≡ test row right) × (east ≡ true)
  from_north there none =
      let h = gap_none north north_east east there none in (
        over own n row col test passes up col up right row right (inl (refl, inl (sym right_is)))
            (inr (refl, inr (sym up_is)))
            (north_is.0 there) (north_east_is.0 h.0) (east_is.0 h.1) (λ s. omega (arith, s.0, up_is))
            (λ s. omega (arith, s.0, up_is)) (λ s. omega (arith, s.1, right_is)),
        h.1,
      )

  from_east : east ≡ true → gap east south_east south ≡ 0 → (test row right ≡ test down col) × (south ≡ true)
  from_east there none =
      let h = gap_none east south_east south there none in
      let below = down_next col (south_is.0 h.1) in (
        over own n row col test passes row right down right down col (inr (refl, inr below))
            (inl (refl, inr (sym right_is)))
            (east_is.0 there) (south_east_is.0 h.0) (south_is.0 h.1) (λ s. omega (arith, s.1, right_is))
            (λ s. omega (arith, s.1, right_is)) (λ s. omega (arith, s.0, below)),
        h.1,
      )

  from_south : south ≡ true → gap south south_west west ≡ 0 → (test down col ≡ test row left) × (west ≡ true)
  from_south there none =
      let h = gap_none south south_west west there none in
      let below = down_next col (south_is.0 there) in
      let before = left_next row (west_is.0 h.1) in (
        over own n row col test passes down col down left row left (inl (refl, inr before)) (inr (refl, inl below))
            (south_is.0 there) (south_west_is.0 h.0) (west_is.0 h.1) (λ s. omega (arith, s.0, below))
            (λ s. omega (arith, s.0, below)) (λ s. omega (arith, s.1, before)),
        h.1,
      )

  from_west : west ≡ true → gap west north_west north ≡ 0 → (test row left ≡ test up col) × (north ≡ true)
  from_west there none =
      let h = gap_none west north_west north there none in
      let before = left_next row (west_is.0 there) in (
        over own n row col test passes row left up left up col (inr (refl, inl (sym up_is))) (inl (refl, inl before))
            (west_is.0 there) (north_west_is.0 h.0) (north_is.0 h.1) (λ s. omega (arith, s.1, before))
            (λ s. omega (arith, s.1, before)) (λ s. omega (arith, s.0, up_is)),
        h.1,
      )

  -- which of the four a place is
  abbrev Side : Bool → Type 0
  Side t = (((north ≡ true) × (t ≡ test up col)) ⊎ ((east ≡ true) × (t ≡ test row right)))
      ⊎ (((south ≡ true) × (t ≡ test down col)) ⊎ ((west ≡ true) × (t ≡ test row left)))

  side : (r k : ℕ) → IsNext row col r k → IsOpen own n r k → Side (test r k)
  side r k (inl (same, inl more)) vacant =
      let at : k ≡ right = omega (arith, more, right_is) in
      inl (inr (
        east_is.1 (subst (λ (j : ℕ). IsOpen own n row j) at
            (subst (λ (i : ℕ). IsOpen own n i k) (sym same) vacant)),
        ap₂ test (sym same) at,
      ))
  side r k (inl (same, inr less)) vacant =
      let at : k ≡ left = elim left_is
      [ inl none ↦ omega (arith, none.0, less) | inr there ↦ omega (arith, there, less) ] in
      inr (inr (
        west_is.1 (subst (λ (j : ℕ). IsOpen own n row j) at
            (subst (λ (i : ℕ). IsOpen own n i k) (sym same) vacant)),
        ap₂ test (sym same) at,
      ))
  side r k (inr (same, inl more)) vacant =
      let at : r ≡ up = omega (arith, more, up_is) in
      inl (inl (
        north_is.1 (subst (λ (j : ℕ). IsOpen own n up j) (sym same)
            (subst (λ (i : ℕ). IsOpen own n i k) at vacant)),
        ap₂ test at (sym same),
      ))
  side r k (inr (same, inr less)) vacant =
      let at : r ≡ down = elim down_is
      [ inl none ↦ omega (arith, none.0, less) | inr there ↦ omega (arith, there, less) ] in
      inr (inl (
        south_is.1 (subst (λ (j : ℕ). IsOpen own n down j) (sym same)
            (subst (λ (i : ℕ). IsOpen own n i k) at vacant)),
        ap₂ test at (sym same),
      ))

  north_east_same : north ≡ true → east ≡ true → test up col ≡ test row right
  north_east_same = beside_same north east south west (test up col) (test row right) (test down col) (test row left)
      (gap north north_east east) (gap east south_east south) (gap south south_west west) (gap west north_west north)
      few from_north from_east from_south from_west

  east_south_same : east ≡ true → south ≡ true → test row right ≡ test down col
  east_south_same = beside_same east south west north (test row right) (test down col) (test row left) (test up col)
      (gap east south_east south) (gap south south_west west) (gap west north_west north) (gap north north_east east)
      (omega (arith, few)) from_east from_south from_west from_north

  south_west_same : south ≡ true → west ≡ true → test down col ≡ test row left
  south_west_same = beside_same south west north east (test down col) (test row left) (test up col) (test row right)
      (gap south south_west west) (gap west north_west north) (gap north north_east east) (gap east south_east south)
      (omega (arith, few)) from_south from_west from_north from_east

  west_north_same : west ≡ true → north ≡ true → test row left ≡ test up col
  west_north_same = beside_same west north east south (test row left) (test up col) (test row right) (test down col)
      (gap west north_west north) (gap north north_east east) (gap east south_east south) (gap south south_west west)
      (omega (arith, few)) from_west from_north from_east from_south

  north_south_same : north ≡ true → south ≡ true → test up col ≡ test down col
  north_south_same = across_same north east south west (test up col) (test row right) (test down col) (test row left)
      (gap north north_east east) (gap east south_east south) (gap south south_west west) (gap west north_west north)
      few from_north from_east from_south from_west

  east_west_same : east ≡ true → west ≡ true → test row right ≡ test row left
  east_west_same = across_same east south west north (test row right) (test down col) (test row left) (test up col)
      (gap east south_east south) (gap south south_west west) (gap west north_west north) (gap north north_east east)
      (omega (arith, few)) from_east from_south from_west from_north

  sides_same : (t u : Bool) → Side t → Side u → t ≡ u
  sides_same t u (inl (inl a)) (inl (inl b)) = a.1 ∙ sym b.1
  sides_same t u (inl (inl a)) (inl (inr b)) = a.1 ∙ north_east_same a.0 b.0 ∙ sym b.1
  sides_same t u (inl (inl a)) (inr (inl b)) = a.1 ∙ north_south_same a.0 b.0 ∙ sym b.1
  sides_same t u (inl (inl a)) (inr (inr b)) = a.1 ∙ sym (west_north_same b.0 a.0) ∙ sym b.1
  sides_same t u (inl (inr a)) (inl (inl b)) = a.1 ∙ sym (north_east_same b.0 a.0) ∙ sym b.1
  sides_same t u (inl (inr a)) (inl (inr b)) = a.1 ∙ sym b.1
  sides_same t u (inl (inr a)) (inr (inl b)) = a.1 ∙ east_south_same a.0 b.0 ∙ sym b.1
  sides_same t u (inl (inr a)) (inr (inr b)) = a.1 ∙ east_west_same a.0 b.0 ∙ sym b.1
  sides_same t u (inr (inl a)) (inl (inl b)) = a.1 ∙ sym (north_south_same b.0 a.0) ∙ sym b.1
  sides_same t u (inr (inl a)) (inl (inr b)) = a.1 ∙ sym (east_south_same b.0 a.0) ∙ sym b.1
  sides_same t u (inr (inl a)) (inr (inl b)) = a.1 ∙ sym b.1
  sides_same t u (inr (inl a)) (inr (inr b)) = a.1 ∙ south_west_same a.0 b.0 ∙ sym b.1
  sides_same t u (inr (inr a)) (inl (inl b)) = a.1 ∙ west_north_same a.0 b.0 ∙ sym b.1
  sides_same t u (inr (inr a)) (inl (inr b)) = a.1 ∙ sym (east_west_same b.0 a.0) ∙ sym b.1
  sides_same t u (inr (inr a)) (inr (inl b)) = a.1 ∙ sym (south_west_same b.0 a.0) ∙ sym b.1
  sides_same t u (inr (inr a)) (inr (inr b)) = a.1 ∙ sym b.1

  pub round_same : (r k r' k' : ℕ) → IsNext row col r k → IsNext row col r' k' → IsOpen own n r k → IsOpen own n r' k' →
      test r k ≡ true → test r' k' ≡ true
  round_same r k r' k' next next' vacant vacant' passed =
      sides_same (test r' k') (test r k) (side r' k' next' vacant') (side r k next vacant) ∙ passed
