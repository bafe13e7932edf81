-- The stones of chains that were written, in a set that grows: a stone that isn't one of them is the first of a chain that is
-- still to come.
use Rattle.std.proofs.Common.{◌≡◌, ◌∙◌, ◌<◌, ◌≤◌, ◌+◌, ◌*◌, ◌&&◌, ◌⊎◌, ◌++◌, ◌∷◌, [], None, inl, inr, ℕ, zero, suc, Bool, List, Contains, IsTrue, All, true, false, true≢false, not, cond, length, get_or, refl, sym, ap, ap₂, subst, arith, map}
use Rattle.std.specs.Prelude.{◌↔◌, filter}
use Rattle.std.specs.List.{list_any}
use Rattle.std.proofs.Math.ListN.{length-map}
use Rattle.std.proofs.lemmas.Bool.{and_parts, cases_lt, false_from_ne_true}
use Rattle.std.proofs.lemmas.List.{get_or-map}
use Rattle.std.proofs.lemmas.List.Elements.{All-contains, All-filter, All-map, Contains-append_left, Contains-append_right, Contains-push, Contains-push_cases, filter_passes}
use Rattle.std.proofs.lemmas.List.FromFn.{get_or-range_with_len, length-range_with_len}
use Rattle.go_board.specs.declared.point.Point.{Point}
use Rattle.go_board.specs.lemmas.Paths.{joined_back}
use Rattle.go_board.specs.Colours.{Colouring, colour_at}
use Rattle.go_board.specs.Chains.{is_first_of_chain, members}
use Rattle.go_board.specs.Laws.{JoinedByPath, PointsByNumber}
use Rattle.go_board.specs.Paths.{Joined, Leads}
use Rattle.go_board.specs.Points.{IsOn, number_of, point_at}
use Rattle.go_board.specs.Reaching.{has_colour, is_same, joined, points}
use Rattle.go_board.specs.Rows.{IsIn}
use Rattle.goref_results.specs.inner.Seen.{AreSeen, HasBefore, GainsPoints, GainsChain}
use Rattle.goref_results.proofs.Earlier.{found_earlier, is_earlier, none_earlier, some_earlier}

-- a stone is the first of its chain where it isn't seen
pub first_unseen : (n : ℕ) (g : Colouring) (k : ℕ) (seen : Bool) → k < n * n → not (has_colour g k None) ≡ true →
    IsTrue seen ↔ HasBefore n g k k → not seen ≡ is_first_of_chain n g k
first_unseen n g k true on stone are =
    let before = are.0 refl in
    sym (ap₂ (λ (a b : Bool). a && not b) stone (found_earlier (joined n g k) n k before.0 on before.1 before.2))
first_unseen n g k false on stone are =
    sym (ap₂ (λ (a b : Bool). a && not b) stone
    (none_earlier (joined n g k) n k
    (λ p low. false_from_ne_true (joined n g k p)
    (λ one. (let bad = are.1 (p, low, one, stone) in true≢false (sym bad))))))

-- a stone more of those that are seen
pub seen_more : (done : List Point) (at : Point) (row col : ℕ) (seen mid seen' : List ℕ) → row ≡ at.row → col ≡ at.col →
    GainsPoints done seen mid
    → ((r c : ℕ) → IsIn seen' r c ↔ (((r ≡ row) × (c ≡ col)) ⊎ IsIn mid r c)) → GainsPoints (done ++ at ∷ []) seen seen'
seen_more done at row col seen mid seen' row_is col_is before one q = (
  λ set. elim ((one q.row q.col).0 set) [
    | inl is ↦ inl (subst (Contains (done ++ at ∷ []))
        (ap₂ (λ (c r : ℕ). let p : Point = record { col = c; row = r } in p) (sym (is.1 ∙ col_is))
        (sym (is.0 ∙ row_is))) (Contains-push done at))
    | inr had ↦ (elim ((before q).0 had)
        [ inl has ↦ inl (Contains-append_left done (at ∷ []) q has) | inr old ↦ inr old ])
  ],
  λ either. (one q.row q.col).1 (elim either [
    | inl has ↦ (elim (Contains-push_cases done at q has) [
      | inl earlier ↦ inr ((before q).1 (inl earlier))
      | inr is ↦ inl (ap (λ (p : Point). p.row) (sym is) ∙ sym row_is, ap (λ (p : Point). p.col) (sym is) ∙ sym col_is)
    ])
    | inr old ↦ inr ((before q).1 (inr old))
  ]),
)

-- a number of a list that passes a test is one of those that pass it
passes_later : (b : Bool) (x : ℕ) (xs : List ℕ) (p : ℕ) → Contains xs p → Contains (cond b (x ∷ xs) xs) p
passes_later true x xs p has = Contains-append_right (x ∷ []) xs p has
passes_later false x xs p has = has

passes_at : (test : ℕ → Bool) (xs : List ℕ) (i p : ℕ) → i < length xs → get_or xs i p ≡ p → test p ≡ true →
    Contains (filter test xs) p
passes_at test [] i p low is passes = absurd (omega (arith, low))
passes_at test (x ∷ xs) zero p low is passes =
    subst (λ (b : Bool). Contains (cond b (x ∷ filter test xs) (filter test xs)) p) (sym (ap test is ∙ passes))
    (0, omega arith, is)
passes_at test (x ∷ xs) (suc i) p low is passes =
    passes_later (test x) x (filter test xs) p (passes_at test xs i p (omega (arith, low)) is passes)

-- the stones of a chain are the points of the board that are joined with its stone
module _ (law : PointsByNumber) (n : ℕ) (g : Colouring) (k : ℕ) where
  abbrev IsMember : Point → Type 0
  IsMember q = IsOn n q × IsTrue (joined n g k (number_of n q))

  numbers : All (λ j. j < n * n) (points n)
  numbers i d low =
      let short : i < n * n = omega (arith, low, length-range_with_len 0 (n * n)) in
      omega (arith, get_or-range_with_len 0 (n * n) i d short, short)

  pub all_members : All IsMember (map (point_at n) (members n g k))
  all_members =
      let low = All-filter (joined n g k) (λ j. j < n * n) (points n) numbers in
      let passes = filter_passes (joined n g k) (points n) in
      All-map IsMember (point_at n) (members n g k)
      (λ i d fits. (
        law.on n (get_or (members n g k) i d) (low i d fits),
        ap (joined n g k) (law.same n (get_or (members n g k) i d) (low i d fits)) ∙ passes i d fits,
      ))

  is_member : (q : Point) → IsOn n q → joined n g k (number_of n q) ≡ true →
      Contains (map (point_at n) (members n g k)) q
  is_member q on one =
      let j = number_of n q in
      let low = law.number n q on in
      let is : get_or (points n) j j ≡ j = get_or-range_with_len 0 (n * n) j j low
      ∙ (let z : 0 + j ≡ j = omega arith in z) in
      let has = passes_at (joined n g k) (points n) j j (rw (length-range_with_len 0 (n * n)) low) is one in
      let long = length-map (members n g k) (point_at n) in
      let found : get_or (map (point_at n) (members n g k)) has.0 q ≡ q =
      get_or-map (point_at n) (members n g k) has.0 j q has.1 ∙ ap (point_at n) has.2 ∙ law.back n q on in
      (has.0, (let fits = has.1 in omega (arith, fits, long)), found)

  pub gains_chain : (stones : List Point) (seen seen' : List ℕ) → stones ≡ map (point_at n) (members n g k) →
      GainsPoints stones seen seen' → GainsChain n g k seen seen'
  gains_chain stones seen seen' is tells q on = (
    λ set. elim ((tells q).0 set) [
      | inl has ↦ inl (let h = All-contains IsMember (map (point_at n) (members n g k)) q all_members
          (subst (λ (ps : List Point). Contains ps q) is has) in h.1)
      | inr old ↦ inr old
    ],
    λ either. (tells q).1 (elim either [
      | inl one ↦ inl (subst (λ (ps : List Point). Contains ps q) (sym is) (is_member q on one))
      | inr old ↦ inr old
    ]),
  )

same_colour : (n : ℕ) (g : Colouring) (p q : ℕ) (path : List ℕ) → Leads n g p path q → colour_at g q ≡ colour_at g p
same_colour n g p q [] is = ap (colour_at g) (sym is)
same_colour n g p q (r ∷ path) step = same_colour n g r q path step.2 ∙ step.1

onward : (n : ℕ) (g : Colouring) (p q r : ℕ) (path more : List ℕ) → Leads n g p path q → Leads n g q more r →
    Joined n g p r
onward n g p q r [] more is rest = (more, subst (λ (s : ℕ). Leads n g s more r) (sym is) rest)
onward n g p q r (s ∷ path) more step rest = let after = onward n g s q r path more step.2 rest in
    (s ∷ after.0, (step.0, step.1, after.1))

some_before : (stone some : Bool) → stone ≡ true → (stone && not some) ≡ false → some ≡ true
some_before true true e f = refl
some_before true false e f = sym f
some_before false some e f = absurd (true≢false (sym e))

module _ (path : JoinedByPath) (law : PointsByNumber) (n : ℕ) (g : Colouring) (k : ℕ) (low : k < n * n) where
  stone_joined : (p q : ℕ) → p < n * n → joined n g p q ≡ true → not (has_colour g p None) ≡ true →
      not (has_colour g q None) ≡ true
  stone_joined p q on one stone =
      let way = (path n g p q on).0 one in
      ap (λ c. not (is_same c None)) (same_colour n g p q way.0 way.1) ∙ stone

  joined_on : (p q r : ℕ) → p < n * n → q < n * n → joined n g p q ≡ true → joined n g q r ≡ true →
      joined n g p r ≡ true
  joined_on p q r p_on q_on one more =
      let way = (path n g p q p_on).0 one in
      let rest = (path n g q r q_on).0 more in
      (path n g p r p_on).1 (onward n g p q r way.0 rest.0 way.1 rest.1)

  turned : (p q : ℕ) → p < n * n → q < n * n → joined n g p q ≡ true → joined n g q p ≡ true
  turned p q p_on q_on one = (path n g q p q_on).1 (joined_back n g p q ((path n g p q p_on).0 one))

  at_next : (j p : ℕ) → k ≤ p → p < k + 1 → joined n g j p ≡ true → joined n g j k ≡ true
  at_next j p high next one = let is : k ≡ p = omega (arith, high, next) in ap (joined n g j) is ∙ one

  -- a stone that has one before k in its chain has one before the next
  before_next : (q : ℕ) → HasBefore n g k q → HasBefore n g (k + 1) q
  before_next q had = (had.0, (let less = had.1 in omega (arith, less)), had.2, had.3)

  -- where k is the first of its chain, that is seen
  pub chain_seen : (seen seen' : List ℕ) → is_first_of_chain n g k ≡ true → AreSeen n g k seen →
      GainsChain n g k seen seen' → AreSeen n g (k + 1) seen'
  chain_seen seen seen' first are tells q on =
      let j = number_of n q in
      let j_on = law.number n q on in
      let stone = (and_parts (not (has_colour g k None)) (not (list_any (is_earlier (joined n g k) n k) (points n)))
      first).0 in (
        λ set. elim ((tells q on).0 set) [
          | inl one ↦ (k, omega arith, turned k j low j_on one, stone_joined k j low one stone)
          | inr old ↦ before_next j ((are q on).0 old)
        ],
        λ before. (tells q on).1 (elim (cases_lt before.0 k) [
          | inl earlier ↦ inr ((are q on).1 (before.0, earlier, before.2, before.3))
          | inr here ↦ inl (turned j k j_on low (at_next j before.0 here before.1 before.2))
        ]),
      )

  -- where it isn't, its chain was seen
  pub seen_later : (seen : List ℕ) → is_first_of_chain n g k ≡ false → AreSeen n g k seen → AreSeen n g (k + 1) seen
  seen_later seen later are q on =
      let j = number_of n q in
      let j_on = law.number n q on in (
        λ set. before_next j ((are q on).0 set),
        λ before. elim (cases_lt before.0 k) [
          | inl earlier ↦ (are q on).1 (before.0, earlier, before.2, before.3)
          | inr here ↦ (
              let one = at_next j before.0 here before.1 before.2 in
              let stone = stone_joined j k j_on one before.3 in
              let first = some_earlier (joined n g k) n k
              (some_before (not (has_colour g k None)) (list_any (is_earlier (joined n g k) n k) (points n)) stone
              later) in
              (are q on).1 (first.0, first.1, joined_on j k first.0 j_on low one first.2, before.3))
        ],
      )
