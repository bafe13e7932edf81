-- What a play takes and what it leaves are together what stood there, the placed stone counted.
use Rattle.std.proofs.Common.{arith, ◌≡◌, ◌≢◌, ◌<◌, ◌≤◌, ◌+◌, ◌*◌, ◌∙◌, ◌&&◌, Bool, true, false, not, cond, inl, inr, zero, suc, refl, ℕ, List, [], ◌∷◌, Option, Some, None, All, count_by, slice_set, sym, ap}
use Rattle.std.specs.List.{range_with_len}
use Rattle.std.proofs.lemmas.Bool.{cases_Bool, cases_eq, false≢true}
use Rattle.std.proofs.lemmas.List.{get_or-set_other}
use Rattle.std.proofs.lemmas.List.Elements.{All-head, All-tail}
use Rattle.go_board.specs.declared.colour.Colour.{Colour}
use Rattle.go_board.specs.Colours.{Colouring, colour_at, other}
use Rattle.go_board.specs.Reaching.{after_clearing, cleared, has_colour, is_same, is_taken, moved, points, stones, vanished}
use Rattle.go_board.proofs.Clearing.{colour_at-cleared}
use Rattle.go_board.proofs.Counting.{count_cons_fail, count_cons_pass, on_points}

-- what passes both tests and what passes the first alone
count_split : {X : Type 0} (a b : X → Bool) (xs : List X) → All (λ x. b x ≡ true → a x ≡ true) xs →
    count_by b xs + count_by (λ x. a x && not (b x)) xs ≡ count_by a xs
count_split a b [] all = refl
count_split {X} a b (x ∷ xs) all =
    let P : X → Type 0 = λ y. b y ≡ true → a y ≡ true in
    let rest : count_by b xs + count_by (λ y. a y && not (b y)) xs ≡ count_by a xs =
    count_split a b xs (All-tail P x xs all) in
    let d : X → Bool = λ y. a y && not (b y) in
    elim (cases_Bool (b x)) [
      | inl holds ↦
          let first = All-head P x xs all holds in
          let neither : d x ≡ false = ap (λ t. t && not (b x)) first ∙ ap not holds in
          let cb = count_cons_pass b x xs holds in let ca = count_cons_pass a x xs first in let cd =
          count_cons_fail d x xs neither in omega arith
      | inr fails ↦ elim (cases_Bool (a x)) [
        | inl holds ↦
            let alone : d x ≡ true = ap (λ t. t && not (b x)) holds ∙ ap not fails in
            let cb = count_cons_fail b x xs fails in let ca = count_cons_pass a x xs holds in let cd =
            count_cons_pass d x xs alone in omega arith
        | inr also ↦
            let neither : d x ≡ false = ap (λ t. t && not (b x)) also in
            let cb = count_cons_fail b x xs fails in let ca = count_cons_fail a x xs also in let cd =
            count_cons_fail d x xs neither in omega arith
      ]
    ]

-- tests that agree but at one number differ by one at most
count_same : (a b : ℕ → Bool) (p s k : ℕ) → p < s → ((i : ℕ) → i ≢ p → a i ≡ true → b i ≡ true) →
    count_by a (range_with_len s k) ≤ count_by b (range_with_len s k)
count_same a b p s zero past agree = omega arith
count_same a b p s (suc k) past agree =
    let rest = count_same a b p (s + 1) k (omega arith) agree in
    elim (cases_Bool (a s)) [
      | inl holds ↦ let ca = count_cons_pass a s (range_with_len (s + 1) k) holds in let cb =
          count_cons_pass b s (range_with_len (s + 1) k) (agree s (omega arith) holds) in omega arith
      | inr fails ↦ let ca = count_cons_fail a s (range_with_len (s + 1) k) fails in elim (cases_Bool (b s)) [
        | inl holds ↦ let cb = count_cons_pass b s (range_with_len (s + 1) k) holds in omega arith
        | inr also ↦ let cb = count_cons_fail b s (range_with_len (s + 1) k) also in omega arith
      ]
    ]

count_but_one : (a b : ℕ → Bool) (p s k : ℕ) → ((i : ℕ) → i ≢ p → a i ≡ true → b i ≡ true) →
    count_by a (range_with_len s k) ≤ count_by b (range_with_len s k) + 1
count_but_one a b p s zero agree = omega arith
count_but_one a b p s (suc k) agree = elim (cases_eq s p) [
  | inl here ↦
      let rest = count_same a b p (s + 1) k (omega arith) agree in
      elim (cases_Bool (a s)) [
        | inl holds ↦ let ca = count_cons_pass a s (range_with_len (s + 1) k) holds in elim (cases_Bool (b s)) [
          | inl also ↦ let cb = count_cons_pass b s (range_with_len (s + 1) k) also in omega arith
          | inr not_there ↦ let cb = count_cons_fail b s (range_with_len (s + 1) k) not_there in omega arith
        ]
        | inr fails ↦ let ca = count_cons_fail a s (range_with_len (s + 1) k) fails in elim (cases_Bool (b s)) [
          | inl also ↦ let cb = count_cons_pass b s (range_with_len (s + 1) k) also in omega arith
          | inr not_there ↦ let cb = count_cons_fail b s (range_with_len (s + 1) k) not_there in omega arith
        ]
      ]
  | inr other_one ↦
      let rest = count_but_one a b p (s + 1) k agree in
      elim (cases_Bool (a s)) [
        | inl holds ↦ let ca = count_cons_pass a s (range_with_len (s + 1) k) holds in let cb =
            count_cons_pass b s (range_with_len (s + 1) k) (agree s other_one holds) in omega arith
        | inr fails ↦ let ca = count_cons_fail a s (range_with_len (s + 1) k) fails in elim (cases_Bool (b s)) [
          | inl also ↦ let cb = count_cons_pass b s (range_with_len (s + 1) k) also in omega arith
          | inr not_there ↦ let cb = count_cons_fail b s (range_with_len (s + 1) k) not_there in omega arith
        ]
      ]
]

-- clearing leaves no new stone
left_stood : (n : ℕ) (g : Colouring) (c of : Colour) (k : ℕ) → k < n * n →
    has_colour (cleared n g c) k (Some of) ≡ true → has_colour g k (Some of) ≡ true
left_stood n g c of k low has =
    let at : is_same (after_clearing n g c k) (Some of) ≡ true =
    ap (λ v. is_same v (Some of)) (sym (colour_at-cleared n g c k low)) ∙ has in
    elim (cases_Bool (is_taken n g c k)) [
      | inl taken ↦ absurd (false≢true
          (sym (ap (λ b. let v : Option Colour = cond b None (colour_at g k) in is_same v (Some of)) taken) ∙ at))
      | inr stays ↦ sym (ap (λ b. let v : Option Colour = cond b None (colour_at g k) in is_same v (Some of)) stays)
          ∙ at
    ]

pub taken_and_left : (n : ℕ) (g : Colouring) (c : Colour) (p : ℕ) (of : Colour) → stones n (moved n g c p) of
    + vanished n (slice_set g p (Some c)) (moved n g c p) of ≡ stones n (slice_set g p (Some c)) of
unfolding moved vanished
taken_and_left n g c p of =
    let first = slice_set g p (Some c) in
    let middle = cleared n first (other c) in
    count_split (λ k. has_colour first k (Some of)) (λ k. has_colour (cleared n middle c) k (Some of)) (points n)
    (on_points n (λ k. has_colour (cleared n middle c) k (Some of) ≡ true → has_colour first k (Some of) ≡ true)
    (λ k low has. left_stood n first (other c) of k low (left_stood n middle c of k low has)))

pub stones-placed-le : (n : ℕ) (g : Colouring) (c : Colour) (p : ℕ) (of : Colour) → stones n (slice_set g p (Some c)) of
    ≤ stones n g of + 1
stones-placed-le n g c p of =
    count_but_one (λ k. has_colour (slice_set g p (Some c)) k (Some of)) (λ k. has_colour g k (Some of)) p 0 (n * n)
    (λ i off has. sym (ap (λ v. is_same v (Some of)) (get_or-set_other g p i (Some c) None off)) ∙ has)
