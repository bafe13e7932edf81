-- The points beside a point: one on each side where the board has one.
use Rattle.std.proofs.Common.{arith, ◌≡◌, ◌<◌, ◌≤◌, ◌+◌, ◌*◌, ◌-◌, ◌∙◌, ◌⊎◌, ◌++◌, ◌∷◌, [], Bool, true, false, ℕ, List, IsTrue, All, Contains, if◌then◌else◌, length, map, nat_lt, sym, ap, ap₂, refl, subst, ◌==◌, ◌&&◌, inl, inr}
use Rattle.std.proofs.lemmas.List.{length-append, map-append}
use Rattle.std.proofs.lemmas.List.Elements.{All-append, All-cons, All-nil, Contains-append_left, Contains-append_right, Contains-push}
use Rattle.std.proofs.lemmas.Bool.{or_cases, or_left, or_right, and_from, and_parts, eq-eqb, eqb-true, lt-ltb, ltb-true, false≢true}
use Rattle.go_board.specs.Laws.{PointsByNumber}
use Rattle.go_board.specs.declared.point.Point.{Point}
use Rattle.go_board.specs.Points.{IsOn, are_beside, is_next, number_of}
use Rattle.go_chains.specs.inner.Beside.{AreBeside}
use Rattle.go_chains.proofs.writes.Neighbours.{are_beside_by_number}

-- a list of one, if that is there
abbrev pub lone : {A : Type 0} → Bool → A → List A
lone there a = if there then a ∷ [] else []

-- four that may be there, in order
abbrev pub four : {A : Type 0} → (b₁ b₂ b₃ b₄ : Bool) (a₁ a₂ a₃ a₄ : A) → List A
four b₁ b₂ b₃ b₄ a₁ a₂ a₃ a₄ = ((lone b₁ a₁ ++ lone b₂ a₂) ++ lone b₃ a₃) ++ lone b₄ a₄

map_lone : {A B : Type 0} (f : A → B) (b : Bool) (a : A) (x : B) → (b ≡ true → x ≡ f a) → lone b x ≡ map f (lone b a)
map_lone f true a x is = ap (λ y. y ∷ []) (is refl)
map_lone f false a x is = refl

map_append : {A B : Type 0} (f : A → B) (xs ys : List A) (vs ws : List B) → vs ≡ map f xs → ws ≡ map f ys → vs
    ++ ws ≡ map f (xs ++ ys)
map_append f xs ys vs ws left right = ap₂ (λ s t. s ++ t) left right ∙ sym (map-append f xs ys)

length_lone : {A : Type 0} (b : Bool) (a : A) → length (lone b a) ≤ 1
length_lone true a = omega arith
length_lone false a = omega arith

All_lone : {A : Type 0} (P : A → Type 0) (b : Bool) (a : A) → (b ≡ true → P a) → All P (lone b a)
All_lone P true a is = All-cons P a [] (is refl) (All-nil P)
All_lone P false a is = All-nil P

Contains_lone : {A : Type 0} (b : Bool) (a x : A) → b ≡ true → a ≡ x → Contains (lone b a) x
Contains_lone true a x is same = subst (λ y. Contains (a ∷ []) y) same (Contains-push [] a)
Contains_lone false a x is same = absurd (false≢true is)

-- the points on the four sides of a point
abbrev below : Point → Point
below p = record { col = p.col; row = p.row - 1 }

abbrev left : Point → Point
left p = record { col = p.col - 1; row = p.row }

abbrev right : Point → Point
right p = record { col = p.col + 1; row = p.row }

abbrev above : Point → Point
above p = record { col = p.col; row = p.row + 1 }

next_cases : (a b : ℕ) → is_next a b ≡ true → (a + 1 ≡ b) ⊎ (b + 1 ≡ a)
next_cases a b next = elim (or_cases (a + 1 == b) (b + 1 == a) next) [
  | inl up ↦ inl (eqb-true (a + 1) b up)
  | inr down ↦ inr (eqb-true (b + 1) a down)
]

abbrev point : ℕ → ℕ → Point
point col row = record { col = col; row = row }

side_columns : (col other row : ℕ) → (col + 1 ≡ other) ⊎ (other + 1 ≡ col) →
    are_beside (point col row) (point other row) ≡ true
side_columns col other row (inl up) =
    or_left _ _ (and_from _ _ (eq-eqb row row refl) (or_left _ _ (eq-eqb (col + 1) other up)))
side_columns col other row (inr down) =
    or_left _ _ (and_from _ _ (eq-eqb row row refl) (or_right _ _ (eq-eqb (other + 1) col down)))

side_rows : (col row other : ℕ) → (row + 1 ≡ other) ⊎ (other + 1 ≡ row) →
    are_beside (point col row) (point col other) ≡ true
side_rows col row other (inl up) =
    or_right _ _ (and_from _ _ (eq-eqb col col refl) (or_left _ _ (eq-eqb (row + 1) other up)))
side_rows col row other (inr down) =
    or_right _ _ (and_from _ _ (eq-eqb col col refl) (or_right _ _ (eq-eqb (other + 1) row down)))

-- which of the four sides a point beside another one is on
beside_cases : (p q : Point) → are_beside p q ≡ true
    → (((0 < p.row) × (below p ≡ q)) ⊎ ((0 < p.col) × (left p ≡ q))) ⊎ ((right p ≡ q) ⊎ (above p ≡ q))
beside_cases p q near = elim (or_cases (p.row == q.row && is_next p.col q.col) (p.col == q.col && is_next p.row q.row)
    near) [
      | inl row ↦ (
          let same : p.row ≡ q.row = eqb-true p.row q.row ((and_parts (p.row == q.row) (is_next p.col q.col) row).0) in
          elim (next_cases p.col q.col ((and_parts (p.row == q.row) (is_next p.col q.col) row).1)) [
            | inl up ↦ inr (inl (ap₂ (λ c r. point c r) up same))
            | inr down ↦ inl (inr (
              omega (arith, down),
              ap₂ (λ c r. point c r) (let e : p.col - 1 ≡ q.col = omega (arith, down) in e) same,
            ))
          ])
      | inr column ↦ (
          let same : p.col ≡ q.col = eqb-true p.col q.col
          ((and_parts (p.col == q.col) (is_next p.row q.row) column).0) in
          elim (next_cases p.row q.row ((and_parts (p.col == q.col) (is_next p.row q.row) column).1)) [
            | inl up ↦ inr (inr (ap₂ (λ c r. point c r) same up))
            | inr down ↦ inl (inl (
              omega (arith, down),
              ap₂ (λ c r. point c r) same (let e : p.row - 1 ≡ q.row = omega (arith, down) in e),
            ))
          ])
    ]

-- each point and its number
row_less : (n r : ℕ) → 0 < r → r * n ≡ (r - 1) * n + n
row_less n r some =
    let e : r ≡ (r - 1) + 1 = omega (arith, some) in
    ap (λ k. k * n) e ∙ (let k = r - 1 in let z : (k + 1) * n ≡ k * n + n = omega arith in z)

pub sides : PointsByNumber → (n : ℕ) (p : Point) (xs : List ℕ) → IsOn n p
    → (let k = number_of n p in xs ≡ four (nat_lt 0 p.row) (nat_lt 0 p.col) (nat_lt (p.col + 1) n)
    (nat_lt (p.row + 1) n) (k - n) (k - 1) (k + 1) (k + n))
    → AreBeside n (number_of n p) xs
sides law n p xs on is =
    let k = number_of n p in
    let b₁ = nat_lt 0 p.row in
    let b₂ = nat_lt 0 p.col in
    let b₃ = nat_lt (p.col + 1) n in
    let b₄ = nat_lt (p.row + 1) n in
    let w₁ = lone b₁ (below p) in
    let w₂ = lone b₂ (left p) in
    let w₃ = lone b₃ (right p) in
    let w₄ = lone b₄ (above p) in
    let two = w₁ ++ w₂ in
    let three = two ++ w₃ in
    let all = three ++ w₄ in
    let gt₁ : b₁ ≡ true → 0 < p.row = ltb-true 0 p.row in
    let gt₂ : b₂ ≡ true → 0 < p.col = ltb-true 0 p.col in
    let lt₃ : b₃ ≡ true → p.col + 1 < n = ltb-true (p.col + 1) n in
    let lt₄ : b₄ ≡ true → p.row + 1 < n = ltb-true (p.row + 1) n in
    let lengths : length all ≤ 4 = (
    let l₁ = length_lone b₁ (below p) in let l₂ = length_lone b₂ (left p) in let l₃ = length_lone b₃ (right p) in
    let l₄ = length_lone b₄ (above p) in
    let e₂ = length-append w₁ w₂ in let e₃ = length-append two w₃ in let e₄ = length-append three w₄ in
    omega arith) in
    let of_all : (P : Point → Type 0) → (b₁ ≡ true → P (below p)) → (b₂ ≡ true → P (left p)) →
    (b₃ ≡ true → P (right p)) → (b₄ ≡ true → P (above p)) → All P all =
    λ P h₁ h₂ h₃ h₄. All-append P three w₄
    (All-append P two w₃ (All-append P w₁ w₂ (All_lone P b₁ (below p) h₁) (All_lone P b₂ (left p) h₂))
    (All_lone P b₃ (right p) h₃)) (All_lone P b₄ (above p) h₄) in
    are_beside_by_number law n k p all xs
    (law.number n p on) (sym (law.back n p on)) lengths
    (of_all (IsOn n)
    (λ e. (on.0, omega (arith, on.1)))
    (λ e. (omega (arith, on.0), on.1))
    (λ e. (lt₃ e, on.1))
    (λ e. (on.0, lt₄ e)))
    (of_all (λ q. IsTrue (are_beside p q))
    (λ e. side_rows p.col p.row (p.row - 1) (inr (let g = gt₁ e in omega arith)))
    (λ e. side_columns p.col (p.col - 1) p.row (inr (let g = gt₂ e in omega arith)))
    (λ e. side_columns p.col (p.col + 1) p.row (inl refl))
    (λ e. side_rows p.col p.row (p.row + 1) (inl refl)))
    (λ q q_on near. elim (beside_cases p q near) [
      | inl before ↦ elim before [
        | inl b ↦ Contains-append_left three w₄ q
            (Contains-append_left two w₃ q (Contains-append_left w₁ w₂ q
            (Contains_lone b₁ (below p) q (lt-ltb 0 p.row b.0) b.1)))
        | inr l ↦ Contains-append_left three w₄ q
            (Contains-append_left two w₃ q (Contains-append_right w₁ w₂ q
            (Contains_lone b₂ (left p) q (lt-ltb 0 p.col l.0) l.1)))
      ]
      | inr after ↦ elim after [
        | inl r ↦ Contains-append_left three w₄ q
            (Contains-append_right two w₃ q
            (Contains_lone b₃ (right p) q (lt-ltb (p.col + 1) n
            (let e = ap (λ (s : Point). s.col) r in omega (arith, q_on.0))) r))
        | inr a ↦ Contains-append_right three w₄ q
            (Contains_lone b₄ (above p) q (lt-ltb (p.row + 1) n
            (let e = ap (λ (s : Point). s.row) a in omega (arith, q_on.1))) a)
      ]
    ])
    (is ∙ map_append (number_of n) three w₄ _ _
    (map_append (number_of n) two w₃ _ _
    (map_append (number_of n) w₁ w₂ _ _
    (map_lone (number_of n) b₁ (below p) (k - n) (λ e. let m = row_less n p.row (gt₁ e) in omega arith))
    (map_lone (number_of n) b₂ (left p) (k - 1) (λ e. let g = gt₂ e in omega arith)))
    (map_lone (number_of n) b₃ (right p) (k + 1) (λ e. omega arith)))
    (map_lone (number_of n) b₄ (above p) (k + n) (λ e. omega arith)))
