-- What a play leaves in the words of the board's rules.
use Rattle.std.specs.Prelude.{slice_set}
use Rattle.go_board.specs.Laws.{ReachesByPath}
use Rattle.std.specs.List.{range_with_len}
use Rattle.std.proofs.Common.{ℕ, zero, suc, ◌+◌, ◌*◌, ◌<◌, ◌≤◌, ◌≡◌, ◌≢◌, inl, inr, refl, sym, ap, ◌∙◌, arith, Bool, true, false, not, cond, Option, Some, None, List, ◌∷◌, length, get_or, map}
use Rattle.std.proofs.lemmas.Bool.{cases_Bool, cases_eq, false≢true, and_parts, and_from}
use Rattle.std.proofs.lemmas.List.{ext_get_or, get_or-set_other, get_or-set_same, length-set}
use Rattle.go_board.specs.declared.colour.Colour.{Colour}
use Rattle.go_board.specs.declared.colour.Colour.TheVariants.{Black, White}
use Rattle.go_board.specs.Colours.{Colouring, colour_at}
use Rattle.go_board.specs.Paths.{IsAdjacent, Reaches}
use Rattle.go_board.specs.Reaching.{after_clearing, cleared, has_colour, is_same, is_taken, reaches}
use Rattle.go_board.specs.Packs.{colour_coded}
use Rattle.go_chains.specs.Cells.{code_at}
use Rattle.go_chains.specs.Boards.{colouring_of}
use Rattle.go_chains.specs.inner.Steps.{IsCleared}
use Rattle.go_chains.specs.inner.Tables.{ReachesEmpty}
use Rattle.go_chains.proofs.rules.Sound.{chain_of, colouring-at, colouring-inside, empty_of, length-colouring, of_chain, of_empty, value-injective}

pub is_same-true : (a b : Option Colour) → is_same a b ≡ true → a ≡ b
is_same-true None None e = refl
is_same-true None (Some b) e = absurd (false≢true e)
is_same-true (Some a) None e = absurd (false≢true e)
is_same-true (Some Black) (Some Black) e = refl
is_same-true (Some Black) (Some White) e = absurd (false≢true e)
is_same-true (Some White) (Some Black) e = absurd (false≢true e)
is_same-true (Some White) (Some White) e = refl

pub is_same-self : (a : Option Colour) → is_same a a ≡ true
is_same-self None = refl
is_same-self (Some Black) = refl
is_same-self (Some White) = refl

pub not-true : (b : Bool) → not b ≡ true → b ≡ true → ⊥
not-true true no_way is = false≢true no_way
not-true false is_not is = false≢true is

pub not-false : (b : Bool) → (b ≡ true → ⊥) → not b ≡ true
not-false true never = absurd (never refl)
not-false false never = refl

module _ (n : ℕ) (cells : List ℕ) (coded : (p : ℕ) → p < n * n → code_at cells p < 3) where
  pub reaches_of : (p : ℕ) → p < n * n → ReachesEmpty (n * n) (IsAdjacent n) (code_at cells) p →
      Reaches n (colouring_of n cells) p None
  reaches_of p p_in r = (
    r.0,
    r.2,
    chain_of n (colouring_of n cells) cells (colouring-inside n cells) (colouring-at n cells) coded p r.0 p_in r.1,
    r.4,
    of_empty n (colouring_of n cells) cells (colouring-inside n cells) (colouring-at n cells) coded r.2 r.3 r.5,
  )

  pub of_reaches : (p : ℕ) → p < n * n → Reaches n (colouring_of n cells) p None →
      ReachesEmpty (n * n) (IsAdjacent n) (code_at cells) p
  of_reaches p p_in r = (
    r.0,
    of_chain n (colouring_of n cells) cells (colouring-inside n cells) (colouring-at n cells) coded p r.0 p_in r.2,
    r.1,
    r.3.1,
    r.3,
    empty_of n (colouring_of n cells) cells (colouring-inside n cells) (colouring-at n cells) coded r.1 r.3.1 r.4,
  )

-- a colour cell that says this colour, as a test
pub colour_test : (n : ℕ) (cells : List ℕ) (p : ℕ) (c : Colour) → p < n * n → colour_coded (code_at cells p) ≡ Some c →
    has_colour (colouring_of n cells) p (Some c) ≡ true
colour_test n cells p c p_in is = ap (λ x. is_same x (Some c)) (colouring-at n cells p p_in ∙ is)
    ∙ is_same-self (Some c)

pub test_colour : (n : ℕ) (cells : List ℕ) (p : ℕ) (c : Colour) (code : ℕ) → p < n * n → code_at cells p < 3 →
    code < 3 → colour_coded code ≡ Some c → has_colour (colouring_of n cells) p (Some c) ≡ true → code_at cells p ≡ code
test_colour n cells p c code p_in small code_small code_is has =
    value-injective (code_at cells p) code small code_small
    (sym (colouring-at n cells p p_in) ∙ is_same-true (colour_at (colouring_of n cells) p) (Some c) has
    ∙ sym code_is)

-- a cleared point
point_cleared : ReachesByPath → (n : ℕ) (cells cells' : List ℕ) (c : Colour) (code : ℕ) →
    ((p : ℕ) → p < n * n → code_at cells p < 3) → code < 3 → colour_coded code ≡ Some c
    → IsCleared (n * n) (IsAdjacent n) (code_at cells) (code_at cells') code → (p : ℕ) → p < n * n →
    colour_coded (code_at cells' p) ≡ after_clearing n (colouring_of n cells) c p
point_cleared law n cells cells' c code coded code_small code_is clear p p_in = elim (cases_Bool (is_taken n g c p)) [
  | inl taken ↦
      let parts = and_parts (has_colour g p (Some c)) (not (reaches n g p None)) taken in
      let is = test_colour n cells p c code p_in (coded p p_in) code_small code_is parts.0 in
      let empty = clear.dead p p_in is
      (λ r. not-true (reaches n g p None) parts.1 ((law n g p None p_in).1 (reaches_of n cells coded p p_in r))) in
      ap colour_coded empty ∙ sym (ap (λ b. cond b None (colour_at g p)) taken)
  | inr stays ↦ ap colour_coded (same stays) ∙ sym (colouring-at n cells p p_in)
      ∙ sym (ap (λ b. cond b None (colour_at g p)) stays)
]
  where
    g : Colouring
    g = colouring_of n cells

    same : is_taken n g c p ≡ false → code_at cells' p ≡ code_at cells p
    same stays = elim (cases_eq (code_at cells p) code) [
      | inr not_code ↦ clear.others p p_in not_code
      | inl is ↦ elim (cases_Bool (reaches n g p None)) [
        | inl alive ↦ clear.alive p p_in is (of_reaches n cells coded p p_in ((law n g p None p_in).0 alive))
        | inr dead ↦ absurd (false≢true
            (sym stays ∙ and_from (has_colour g p (Some c)) (not (reaches n g p None))
            (colour_test n cells p c p_in (ap colour_coded is ∙ code_is)) (ap not dead)))
      ]
    ]

-- tests that agree on a range give one list
map-range : {X : Type 0} (f h : ℕ → X) (a k : ℕ) → ((i : ℕ) → a ≤ i → i < a + k → f i ≡ h i) →
    map f (range_with_len a k) ≡ map h (range_with_len a k)
map-range f h a zero same = refl
map-range f h a (suc k) same = ap (λ x. x ∷ map f (range_with_len (a + 1) k)) (same a (omega arith) (omega arith))
    ∙ ap (λ l. h a ∷ l) (map-range f h (a + 1) k (λ i from below. same i (omega arith) (omega arith)))

pub cleared_is : ReachesByPath → (n : ℕ) (cells cells' : List ℕ) (c : Colour) (code : ℕ) →
    ((p : ℕ) → p < n * n → code_at cells p < 3) → code < 3 → colour_coded code ≡ Some c
    → IsCleared (n * n) (IsAdjacent n) (code_at cells) (code_at cells') code →
    colouring_of n cells' ≡ cleared n (colouring_of n cells) c
unfolding colouring_of cleared
cleared_is law n cells cells' c code coded code_small code_is clear =
    map-range (λ p. colour_coded (code_at cells' p)) (after_clearing n (colouring_of n cells) c) 0 (n * n)
    (λ p from below. point_cleared law n cells cells' c code coded code_small code_is clear p (omega arith))

-- a stone placed, as the cells say it
pub placed_is : (n : ℕ) (cells cells' : List ℕ) (p code : ℕ) (c : Colour) → p < n * n → colour_coded code ≡ Some c →
    code_at cells' p ≡ code
    → ((q : ℕ) → q < n * n → q ≢ p → code_at cells' q ≡ code_at cells q) →
    colouring_of n cells' ≡ slice_set (colouring_of n cells) p (Some c)
placed_is n cells cells' p code c p_in code_is at others =
    let g = colouring_of n cells in
    let size : length g ≡ n * n = length-colouring n cells in
    let size' : length (colouring_of n cells') ≡ n * n = length-colouring n cells' in
    ext_get_or None (colouring_of n cells') (slice_set g p (Some c)) (size' ∙ sym size ∙ sym (length-set g p (Some c)))
    (λ q below. let q_in : q < n * n = omega arith in elim (cases_eq q p) [
      | inl same ↦ colouring-at n cells' q q_in ∙ ap (λ k. colour_coded (code_at cells' k)) same ∙ ap colour_coded at
          ∙ code_is
          ∙ sym (ap (λ k. get_or (slice_set g p (Some c)) k None) same
          ∙ get_or-set_same g p (Some c) None (omega arith))
      | inr off ↦ colouring-at n cells' q q_in ∙ ap colour_coded (others q q_in off) ∙ sym (colouring-at n cells q q_in)
          ∙ sym (get_or-set_other g p q (Some c) None off)
    ])
