-- A stone that takes nothing leaves all others, and lends its liberties.
use Rattle.std.specs.Prelude.{Some, None}
use Rattle.std.proofs.Common.{arith, ◌≡◌, ◌≢◌, ◌<◌, ◌*◌, ◌∙◌, ◌⊎◌, ◌↔◌, ◌++◌, ◌∷◌, ◌&&◌, [], inl, inr, Bool, true, false, cond, not, IsTrue, ℕ, zero, suc, List, Option, length, refl, sym, ap, subst, slice_set}
use Rattle.std.proofs.lemmas.Bool.{cases_Bool, cases_eq}
use Rattle.std.proofs.lemmas.List.{ext_get_or, get_or-set_other, get_or-set_same}
use Rattle.std.proofs.lemmas.List.FromFn.{get_or-map-range_with_len, length-map-range_with_len}
use Rattle.std.proofs.Math.ListN.{length-set}
use Rattle.go_board.specs.declared.colour.Colour.{Colour}
use Rattle.go_board.specs.declared.colour.Colour.TheVariants.{Black, White}
use Rattle.go_board.specs.declared.size.TheConstants.{MAX_POINTS}
use Rattle.go_board.specs.Colours.{Colouring, colour_at, other}
use Rattle.go_board.specs.Laws.{LibertyByPath, ReachesByPath}
use Rattle.go_board.specs.Points.{is_adjacent}
use Rattle.go_board.specs.Packs.{code_of, colour_coded}
use Rattle.go_board.specs.Paths.{IsAdjacent, Joined, Leads, Reaches}
use Rattle.go_board.specs.Reaching.{after_clearing, cleared, has_colour, is_liberty_of, is_same, is_taken, moved, reaches}
use Rattle.go_chains.specs.Boards.{IsStoneOf, colouring_of}
use Rattle.go_chains.specs.Cells.{code_at, label_of}
use Rattle.go_chains.specs.Sound.{IsKept}
use Rattle.go_chains.specs.inner.Quiet.{HasLibertyBut, IsLent, IsQuiet}
use Rattle.go_chains.proofs.answers.Queries.{label-small}
use Rattle.go_chains.proofs.rules.Playing.{is_same-true}
use Rattle.go_chains.proofs.rules.Sound.{colouring-at, colouring-inside, empty_of, length-colouring, of_stone, value-injective}
use Rattle.go_board.specs.lemmas.Paths.{flip}
use Rattle.go_chains.proofs.writes.Neighbours.{apart}

-- the label of a point with a stone names a point
pub label_low : (n : ℕ) (cells : List ℕ) → IsKept n cells → (q : ℕ) → q < n * n → code_at cells q ≢ 0 →
    label_of cells q < MAX_POINTS
label_low n cells kept q low some =
    label-small n cells kept q (of_stone n (colouring_of n cells) cells (colouring-inside n cells) kept.sound.colours
    kept.sound.coded q (low, omega (arith, some)))

-- paths of any colouring
leads_end : (k : Colouring) (n x : ℕ) (path : List ℕ) (q : ℕ) → Leads n k x path q → colour_at k q ≡ colour_at k x
leads_end k n x [] q here = ap (colour_at k) (sym here)
leads_end k n x (r ∷ path) q l = leads_end k n r path q l.2 ∙ l.1

leads_append : (k : Colouring) (n x : ℕ) (path : List ℕ) (q : ℕ) (further : List ℕ) (r : ℕ) → Leads n k x path q →
    Leads n k q further r → Leads n k x (path ++ further) r
leads_append k n x [] q further r here rest = subst (λ (y : ℕ). Leads n k y further r) (sym here) rest
leads_append k n x (s ∷ path) q further r l rest = (l.0, l.1, leads_append k n s path q further r l.2 rest)

joined_on : (k : Colouring) (n x q r : ℕ) → Joined n k x q → Joined n k q r → Joined n k x r
joined_on k n x q r first second = (first.0 ++ second.0, leads_append k n x first.0 q second.0 r first.1 second.1)

joined_step : (k : Colouring) (n x y : ℕ) → IsAdjacent n x y → colour_at k y ≡ colour_at k x → Joined n k x y
joined_step k n x y adjacent same = (y ∷ [], (adjacent, same, refl))

differs : (c : Colour) → Some c ≡ Some (other c) → ⊥
differs Black e = cc
differs White e = cc

colours_of : (c d : Colour) → (d ≡ c) ⊎ (d ≡ other c)
colours_of Black Black = inl refl
colours_of Black White = inr refl
colours_of White White = inl refl
colours_of White Black = inr refl

coded_colour : (code : ℕ) → code ≢ 0 → code < 3 → (d : Colour) × (colour_coded code ≡ Some d)
coded_colour zero some small = absurd (some refl)
coded_colour (suc zero) some small = (Black, refl)
coded_colour (suc (suc zero)) some small = (White, refl)
coded_colour (suc (suc (suc k))) some small = absurd (omega arith)

-- where no stone of a colour is taken, clearing it leaves all
cleared_same : (n : ℕ) (k : Colouring) (d : Colour) → length k ≡ n * n →
    ((x : ℕ) → x < n * n → is_taken n k d x ≡ false) → cleared n k d ≡ k
unfolding cleared
cleared_same n k d whole none =
    let size : length (cleared n k d) ≡ n * n = length-map-range_with_len (after_clearing n k d) 0 (n * n) in
    ext_get_or None (cleared n k d) k (size ∙ sym whole)
    (λ i below. (let low : i < n * n = omega (arith, below, size) in
    get_or-map-range_with_len (after_clearing n k d) 0 (n * n) i i None low (omega arith)
    ∙ ap (λ b. let o : Option Colour = cond b None (colour_at k i) in o) (none i low)))

not_taken : ReachesByPath → (n : ℕ) (k : Colouring) (d : Colour) (x : ℕ) → x < n * n →
    (colour_at k x ≡ Some d → Reaches n k x None) → is_taken n k d x ≡ false
not_taken by n k d x low lives = elim (cases_Bool (has_colour k x (Some d))) [
  | inl has ↦
      let reach : reaches n k x None ≡ true =
      (by n k x None low).1 (lives (is_same-true (colour_at k x) (Some d) has)) in
      ap (λ b. has_colour k x (Some d) && not b) reach ∙ and_none (has_colour k x (Some d))
  | inr not_has ↦ ap (λ b. b && not (reaches n k x None)) not_has
]
  where
    and_none : (b : Bool) → (b && false) ≡ false
    and_none true = refl
    and_none false = refl

-- a point after a colour was cleared
cleared_at : (n : ℕ) (k : Colouring) (d : Colour) (x : ℕ) → x < n * n →
    colour_at (cleared n k d) x ≡ after_clearing n k d x
unfolding cleared
cleared_at n k d x low = get_or-map-range_with_len (after_clearing n k d) 0 (n * n) x x None low (omega arith)

taken_at : (n : ℕ) (k : Colouring) (d : Colour) (x : ℕ) → x < n * n → is_taken n k d x ≡ true →
    colour_at (cleared n k d) x ≡ None
taken_at n k d x low taken = cleared_at n k d x low
    ∙ ap (λ b. let o : Option Colour = cond b None (colour_at k x) in o) taken

empty_still : (n : ℕ) (k : Colouring) (d : Colour) (x : ℕ) → x < n * n → colour_at k x ≡ None →
    colour_at (cleared n k d) x ≡ None
empty_still n k d x low none = elim (cases_Bool (is_taken n k d x)) [
  | inl taken ↦ taken_at n k d x low taken
  | inr stays ↦ cleared_at n k d x low ∙ ap (λ b. let o : Option Colour = cond b None (colour_at k x) in o) stays ∙ none
]

-- a stone that doesn't reach empty is taken
lives_or_taken : ReachesByPath → (n : ℕ) (k : Colouring) (d : Colour) (x : ℕ) → x < n * n → colour_at k x ≡ Some d →
    Reaches n k x None ⊎ (is_taken n k d x ≡ true)
lives_or_taken by n k d x low stone = elim (cases_Bool (reaches n k x None)) [
  | inl lives ↦ inl ((by n k x None low).0 lives)
  | inr none ↦ inr (ap (λ b. has_colour k x (Some d) && not b) none
      ∙ ap (λ (o : Option Colour). is_same o (Some d) && true) stone ∙ same_and d)
]
  where
    same_and : (e : Colour) → (is_same (Some e) (Some e) && true) ≡ true
    same_and Black = refl
    same_and White = refl

-- a stone of c is put on an empty point of a kept board
module _ (n : ℕ) (cells : List ℕ) (kept : IsKept n cells) (c : Colour) (own p : ℕ) (low : p < n * n)
    (empty : code_at cells p ≡ 0)
    (own_is : colour_coded own ≡ Some c) where
  g_empty : colour_at (colouring_of n cells) p ≡ None
  g_empty = colouring-at n cells p low ∙ ap colour_coded empty

  at_stone : colour_at (slice_set (colouring_of n cells) p (Some c)) p ≡ Some c
  at_stone = get_or-set_same (colouring_of n cells) p (Some c) None (omega (arith, length-colouring n cells, low))

  off_stone : (x : ℕ) → x ≢ p → colour_at (slice_set (colouring_of n cells) p (Some c)) x ≡ colour_at
      (colouring_of n cells) x
  off_stone x off = get_or-set_other (colouring_of n cells) p x (Some c) None off

  off_old : (x : ℕ) (d : Colour) → colour_at (colouring_of n cells) x ≡ Some d → x ≢ p
  off_old x d stone same = let bad = sym stone ∙ ap (colour_at (colouring_of n cells)) same ∙ g_empty in cc

  old_stone : (x : ℕ) (d : Colour) → colour_at (colouring_of n cells) x ≡ Some d →
      colour_at (slice_set (colouring_of n cells) p (Some c)) x ≡ Some d
  old_stone x d stone = off_stone x (off_old x d stone) ∙ stone

  -- the paths of stones stay
  leads_still : (d : Colour) (x : ℕ) (path : List ℕ) (q : ℕ) → Leads n (colouring_of n cells) x path q →
      colour_at (colouring_of n cells) x ≡ Some d
      → Leads n (slice_set (colouring_of n cells) p (Some c)) x path q
  leads_still d x [] q here stone = here
  leads_still d x (r ∷ path) q l stone =
      let next = l.1 ∙ stone in
      (l.0, old_stone r d next ∙ sym (old_stone x d stone), leads_still d r path q l.2 next)

  joined_still : (d : Colour) (x q : ℕ) → colour_at (colouring_of n cells) x ≡ Some d →
      Joined n (colouring_of n cells) x q
      → Joined n (slice_set (colouring_of n cells) p (Some c)) x q
  joined_still d x q stone joined = (joined.0, leads_still d x joined.0 q joined.1 stone)

  -- a chain with another liberty has it still
  other_still : (d : Colour) (q : ℕ) → colour_at (colouring_of n cells) q ≡ Some d →
      HasLibertyBut n cells p (label_of cells q)
      → Reaches n (slice_set (colouring_of n cells) p (Some c)) q None
  other_still d q stone has =
      let free = (kept.sound.liberties q has.0 (d, stone) has.1).0 has.3 in
      (free.1.0, has.0, joined_still d q free.1.0 stone free.1.1, free.1.2, off_stone has.0 has.2 ∙ free.0)

  reaches_on : (x q : ℕ) → Joined n (slice_set (colouring_of n cells) p (Some c)) x q →
      Reaches n (slice_set (colouring_of n cells) p (Some c)) q None
      → Reaches n (slice_set (colouring_of n cells) p (Some c)) x None
  reaches_on x q joined reach = (
    reach.0,
    reach.1,
    joined_on (slice_set (colouring_of n cells) p (Some c)) n x q reach.0 joined reach.2,
    reach.3,
    reach.4,
  )

  -- where a path of stones from x leads to: the point, a stone of a chain that was there, or one of a chain beside the point
  From : ℕ → ℕ → Type 0
  From x r = (r ≡ p) ⊎ (((x ≢ p) × Joined n (colouring_of n cells) x r)
      ⊎ ((s : ℕ) × IsAdjacent n p s × (colour_at (colouring_of n cells) s ≡ Some c)
      × Joined n (colouring_of n cells) s r))

  from_stone : (x : ℕ) (path : List ℕ) (r : ℕ) → Leads n (slice_set (colouring_of n cells) p (Some c)) x path r
      → colour_at (slice_set (colouring_of n cells) p (Some c)) x ≡ Some c → From x r
  unfolding From
  from_stone x [] r here stone = elim (cases_eq x p)
      [ inl same ↦ inl (sym here ∙ same) | inr off ↦ inr (inl (off, ([], here))) ]
  from_stone x (y ∷ path) r l stone =
      let y_stone = l.1 ∙ stone in
      elim (from_stone y path r l.2 y_stone) [
        | inl at ↦ inl at
        | inr (inl old) ↦ elim (cases_eq x p) [
          | inl same ↦ inr (inr (
            y,
            subst (λ (k : ℕ). IsAdjacent n k y) same l.0,
            sym (off_stone y old.0) ∙ y_stone,
            old.1,
          ))
          | inr off ↦ inr (inl (off, (y ∷ old.1.0, (l.0, sym (off_stone y old.0) ∙ l.1 ∙ off_stone x off, old.1.1))))
        ]
        | inr (inr beside) ↦ inr (inr beside)
      ]

  -- what is lent to the stone is what its chain has of liberties
  pub lent_is : LibertyByPath → (own < 3) → (q : ℕ) → q < n * n
      → ((q ≢ p) × IsLent n cells p own q) ↔ IsTrue (is_liberty_of n (slice_set (colouring_of n cells) p (Some c)) p q)
  unfolding From
  lent_is by own_small q q_low =
      let law = by n (slice_set (colouring_of n cells) p (Some c)) p q low in
      let k = slice_set (colouring_of n cells) p (Some c) in (
        λ lent. law.1 (elim lent.1 [
          | inl vacant ↦ (
            off_stone q lent.0 ∙ colouring-at n cells q q_low ∙ ap colour_coded vacant.1,
            (p, ([], refl), vacant.0.2),
          )
          | inr lends ↦
              let stone : colour_at (colouring_of n cells) lends.0 ≡ Some c = colouring-at n cells lends.0 lends.1.1
              ∙ ap colour_coded lends.2 ∙ own_is in
              let free = (kept.sound.liberties lends.0 q (c, stone) q_low).0 lends.3 in
              let there = joined_on k n p lends.0 free.1.0
              (joined_step k n p lends.0 lends.1 (old_stone lends.0 c stone ∙ sym at_stone))
              (joined_still c lends.0 free.1.0 stone free.1.1) in
              (off_stone q lent.0 ∙ free.0, (free.1.0, there, free.1.2.2))
        ]),
        λ told.
            let liberty = law.0 told in
            let off : q ≢ p = λ same. (let bad = sym at_stone ∙ ap (colour_at k) (sym same) ∙ liberty.0 in cc) in
            let none : colour_at (colouring_of n cells) q ≡ None = sym (off_stone q off) ∙ liberty.0 in
            let r = liberty.1.0 in (
              off,
              elim (from_stone p liberty.1.1.0 r liberty.1.1.1 at_stone) [
                | inl at ↦ inl (
                  (low, q_low, ap (λ (j : ℕ). is_adjacent n j q) (sym at) ∙ liberty.1.2),
                  empty_of n (colouring_of n cells) cells (colouring-inside n cells) kept.sound.colours
                      kept.sound.coded q q_low none,
                )
                | inr (inl old) ↦ absurd (old.0 refl)
                | inr (inr beside) ↦
                    let s = beside.0 in
                    let r_low = colouring-inside n cells r c
                    (leads_end (colouring_of n cells) n s beside.3.0 r beside.3.1 ∙ beside.2) in
                    let code : code_at cells s ≡ own =
                    value-injective (code_at cells s) own (kept.sound.coded s beside.1.1) own_small
                    (sym (colouring-at n cells s beside.1.1) ∙ beside.2 ∙ sym own_is) in
                    inr (
                      s,
                      beside.1,
                      code,
                      (kept.sound.liberties s q (c, beside.2) q_low).1
                          (none, (r, beside.3, (r_low, q_low, liberty.1.2))),
                    )
              ],
            ),
      )

  -- a path of the other colour's stones was there before
  theirs_apart : (x : ℕ) → colour_at (slice_set (colouring_of n cells) p (Some c)) x ≡ Some (other c) → x ≢ p
  theirs_apart x stone same = differs c
      (sym at_stone ∙ ap (colour_at (slice_set (colouring_of n cells) p (Some c))) (sym same) ∙ stone)

  leads_back : (x : ℕ) (path : List ℕ) (r : ℕ) → Leads n (slice_set (colouring_of n cells) p (Some c)) x path r
      → colour_at (slice_set (colouring_of n cells) p (Some c)) x ≡ Some (other c) →
      Leads n (colouring_of n cells) x path r
  leads_back x [] r here stone = here
  leads_back x (y ∷ path) r l stone =
      let next = l.1 ∙ stone in (
        l.0,
        sym (off_stone y (theirs_apart y next)) ∙ l.1 ∙ off_stone x (theirs_apart x stone),
        leads_back y path r l.2 next,
      )

  -- where the play leaves all stones, each of them reaches empty
  module _ (by : ReachesByPath)
      (stays : cleared n (cleared n (slice_set (colouring_of n cells) p (Some c)) (other c)) c ≡ slice_set
      (colouring_of n cells) p (Some c)) where
    theirs_live : (x : ℕ) → x < n * n → colour_at (slice_set (colouring_of n cells) p (Some c)) x ≡ Some (other c)
        → Reaches n (slice_set (colouring_of n cells) p (Some c)) x None
    theirs_live x x_low stone =
        let k = slice_set (colouring_of n cells) p (Some c) in
        elim (lives_or_taken by n k (other c) x x_low stone) [
          | inl lives ↦ lives
          | inr taken ↦ absurd (let bad =
              sym (empty_still n (cleared n k (other c)) c x x_low (taken_at n k (other c) x x_low taken))
              ∙ ap (λ m. colour_at m x) stays ∙ stone in cc)
        ]

    own_lives : Reaches n (slice_set (colouring_of n cells) p (Some c)) p None
    own_lives =
        let k = slice_set (colouring_of n cells) p (Some c) in
        let whole : length k ≡ n * n = length-set (colouring_of n cells) p (Some c) ∙ length-colouring n cells in
        let theirs = cleared_same n k (other c) whole
        (λ x x_low. not_taken by n k (other c) x x_low (theirs_live x x_low)) in
        elim (lives_or_taken by n k c p low at_stone) [
          | inl lives ↦ lives
          | inr taken ↦ absurd (let bad = sym (taken_at n k c p low taken)
              ∙ ap (λ m. colour_at (cleared n m c) p) (sym theirs) ∙ ap (λ m. colour_at m p) stays ∙ at_stone in cc)
        ]

    -- a chain of the other colour beside the stone has another liberty
    other_left : (q : ℕ) → q < n * n → colour_at (slice_set (colouring_of n cells) p (Some c)) q ≡ Some (other c) →
        HasLibertyBut n cells p (label_of cells q)
    other_left q q_low stone =
        let k = slice_set (colouring_of n cells) p (Some c) in
        let free = theirs_live q q_low stone in
        let x = free.1 in
        let off : x ≢ p = λ same. (let bad = sym at_stone ∙ ap (colour_at k) (sym same) ∙ free.4 in cc) in
        let was : colour_at (colouring_of n cells) q ≡ Some (other c) = sym (off_stone q (theirs_apart q stone))
        ∙ stone in (
          x,
          free.3.1,
          off,
          (kept.sound.liberties q x (other c, was) free.3.1).1 (
            sym (off_stone x off) ∙ free.4,
            (free.0, (free.2.0, leads_back q free.2.0 free.0 free.2.1 stone), free.3),
          ),
        )

    pub stays_quiet : LibertyByPath → own < 3 → IsQuiet n cells p own
    stays_quiet told own_small =
        let k = slice_set (colouring_of n cells) p (Some c) in
        let free = own_lives in
        let x = free.1 in
        let lent = (lent_is told own_small x free.3.1).1 ((told n k p x low).1 (free.4, (free.0, free.2, free.3.2))) in
        record {
          stay = λ q beside. elim (cases_eq (code_at cells q) 0) [
            | inl vacant ↦ inl vacant
            | inr some ↦ elim (cases_eq (code_at cells q) own) [
              | inl same ↦ inr (inl same)
              | inr differ ↦
                  let here = colouring-at n cells q beside.1 in
                  let off : q ≢ p = λ same. apart n p (subst (IsAdjacent n p) same beside) in
                  inr (inr (other_left q beside.1
                  (off_stone q off ∙ here ∙ other_code (code_at cells q) some differ
                  (kept.sound.coded q beside.1))))
            ]
          ];
          breathes = elim lent.1 [
            | inl vacant ↦ (x, vacant.0, inl vacant.1)
            | inr lends ↦ (lends.0, lends.1, inr (lends.2, (x, free.3.1, lent.0, lends.3)))
          ];
        }
      where
        other_code : (code : ℕ) → code ≢ 0 → code ≢ own → code < 3 → colour_coded code ≡ Some (other c)
        other_code code some differ small =
            let colour = coded_colour code some small in
            elim (colours_of c colour.0) [
              | inl same ↦ absurd (differ (value-injective code own small own_small
                  (colour.1 ∙ ap (λ (e : Colour). let o : Option Colour = Some e in o) same ∙ sym own_is)))
              | inr is ↦ colour.1 ∙ ap (λ (e : Colour). let o : Option Colour = Some e in o) is
            ]

  module _ (quiet : IsQuiet n cells p own) where
    stone_reaches : Reaches n (slice_set (colouring_of n cells) p (Some c)) p None
    stone_reaches =
        let q = quiet.breathes.0 in
        let adjacent = quiet.breathes.1 in
        elim quiet.breathes.2 [
          | inl vacant ↦ (
            p,
            q,
            ([], refl),
            adjacent,
            off_stone q (λ same. apart n p (subst (IsAdjacent n p) same adjacent)) ∙ colouring-at n cells q adjacent.1
                ∙ ap colour_coded vacant,
          )
          | inr same ↦
              let stone : colour_at (colouring_of n cells) q ≡ Some c = colouring-at n cells q adjacent.1
              ∙ ap colour_coded same.0 ∙ own_is in
              reaches_on p q (joined_step (slice_set (colouring_of n cells) p (Some c)) n p q adjacent
              (old_stone q c stone ∙ sym at_stone)) (other_still c q stone same.1)
        ]

    theirs_reach : (x : ℕ) → colour_at (colouring_of n cells) x ≡ Some (other c) →
        Reaches n (slice_set (colouring_of n cells) p (Some c)) x None
    theirs_reach x stone =
        let alive = kept.sound.alive x (other c, stone) in
        let q = alive.0 in
        let q_stone : colour_at (colouring_of n cells) q ≡ Some (other c) =
        leads_end (colouring_of n cells) n x alive.2.0 q alive.2.1 ∙ stone in
        let joined = joined_still (other c) x q stone alive.2 in
        elim (cases_eq alive.1 p) [
          | inr off ↦ (q, alive.1, joined, alive.3, off_stone alive.1 off ∙ alive.4)
          | inl same ↦
              let beside : IsAdjacent n p q = flip n q p (subst (IsAdjacent n q) same alive.3) in
              let here = colouring-at n cells q beside.1 in
              elim (quiet.stay q beside) [
                | inl vacant ↦ absurd (let bad = sym q_stone ∙ here ∙ ap colour_coded vacant in cc)
                | inr (inl own_stone) ↦ absurd (differs c
                    (sym own_is ∙ ap colour_coded (sym own_stone) ∙ sym here ∙ q_stone))
                | inr (inr has) ↦ reaches_on x q joined (other_still (other c) q q_stone has)
              ]
        ]

    own_reach : (x : ℕ) → colour_at (colouring_of n cells) x ≡ Some c →
        Reaches n (slice_set (colouring_of n cells) p (Some c)) x None
    own_reach x stone =
        let alive = kept.sound.alive x (c, stone) in
        let q = alive.0 in
        let q_stone : colour_at (colouring_of n cells) q ≡ Some c =
        leads_end (colouring_of n cells) n x alive.2.0 q alive.2.1 ∙ stone in
        let joined = joined_still c x q stone alive.2 in
        elim (cases_eq alive.1 p) [
          | inr off ↦ (q, alive.1, joined, alive.3, off_stone alive.1 off ∙ alive.4)
          | inl same ↦
              let to : Joined n (slice_set (colouring_of n cells) p (Some c)) q p =
              joined_step (slice_set (colouring_of n cells) p (Some c)) n q p (subst (IsAdjacent n q) same alive.3)
              (at_stone ∙ sym (old_stone q c q_stone)) in
              reaches_on x p (joined_on (slice_set (colouring_of n cells) p (Some c)) n x q p joined to) stone_reaches
        ]

    each_reaches : (d : Colour) (x : ℕ) → colour_at (slice_set (colouring_of n cells) p (Some c)) x ≡ Some d →
        Reaches n (slice_set (colouring_of n cells) p (Some c)) x None
    each_reaches d x stone = elim (cases_eq x p) [
      | inl same ↦ subst (λ (y : ℕ). Reaches n (slice_set (colouring_of n cells) p (Some c)) y None) (sym same)
          stone_reaches
      | inr off ↦
          let was : colour_at (colouring_of n cells) x ≡ Some d = sym (off_stone x off) ∙ stone in
          elim (colours_of c d) [
            | inl same ↦ own_reach x (was ∙ ap (λ (e : Colour). let o : Option Colour = Some e in o) same)
            | inr differ ↦ theirs_reach x (was ∙ ap (λ (e : Colour). let o : Option Colour = Some e in o) differ)
          ]
    ]

    pub quiet_moved : ReachesByPath → moved n (colouring_of n cells) c p ≡ slice_set (colouring_of n cells) p (Some c)
    unfolding moved
    quiet_moved by =
        let whole : length (slice_set (colouring_of n cells) p (Some c)) ≡ n * n =
        length-set (colouring_of n cells) p (Some c) ∙ length-colouring n cells in
        let same = λ (d : Colour). cleared_same n (slice_set (colouring_of n cells) p (Some c)) d whole
        (λ x x_low. not_taken by n (slice_set (colouring_of n cells) p (Some c)) d x x_low (each_reaches d x)) in
        ap (λ k. cleared n k c) (same (other c)) ∙ same c

  pub moved_quiet : ReachesByPath → LibertyByPath → own < 3 →
      moved n (colouring_of n cells) c p ≡ slice_set (colouring_of n cells) p (Some c) → IsQuiet n cells p own
  unfolding moved
  moved_quiet by told own_small same = stays_quiet by same told own_small

pub coded_back : (c : Colour) → colour_coded (code_of (Some c)) ≡ Some c
coded_back Black = refl
coded_back White = refl

-- a point without a stone has code 0
pub vacant_code : (n : ℕ) (cells : List ℕ) → IsKept n cells → (p : ℕ) → p < n * n →
    (IsStoneOf (colouring_of n cells) p → ⊥) → code_at cells p ≡ 0
vacant_code n cells kept p low none = elim (cases_eq (code_at cells p) 0) [
  | inl zero_code ↦ zero_code
  | inr some ↦ absurd (none (of_stone n (colouring_of n cells) cells (colouring-inside n cells) kept.sound.colours
      kept.sound.coded p (low, omega (arith, some))))
]

-- what was told of cells is told of a board that has them
pub quiet_on : (n m p q own : ℕ) (cells others : List ℕ) → n ≡ m → cells ≡ others → p ≡ q → IsQuiet n cells p own →
    IsQuiet m others q own
quiet_on n m p q own cells others lines same at quiet =
    subst (λ (k : ℕ). IsQuiet m others k own) at
    (subst (λ (l : List ℕ). IsQuiet m l p own) same (subst (λ (k : ℕ). IsQuiet k cells p own) lines quiet))

pub lent_on : (n m p q own r : ℕ) (cells others : List ℕ) → n ≡ m → cells ≡ others → p ≡ q → (bit : ℕ) →
    ((bit ≡ 1) ↔ ((r ≢ p) × IsLent n cells p own r))
    → (bit ≡ 1) ↔ ((r ≢ q) × IsLent m others q own r)
lent_on n m p q own r cells others lines same at bit lent =
    subst (λ (k : ℕ). (bit ≡ 1) ↔ ((r ≢ k) × IsLent m others k own r)) at
    (subst (λ (l : List ℕ). (bit ≡ 1) ↔ ((r ≢ p) × IsLent m l p own r)) same
    (subst (λ (k : ℕ). (bit ≡ 1) ↔ ((r ≢ p) × IsLent k cells p own r)) lines lent))
