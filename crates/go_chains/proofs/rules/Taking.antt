-- How many stones a play takes, and how many stand in its own chains: by lists of them.
use Rattle.std.specs.Prelude.{Contains, filter}
use Rattle.go_board.specs.Laws.{JoinedByPath}
use Rattle.std.proofs.Common.{ℕ, suc, ◌+◌, ◌*◌, ◌<◌, ◌≤◌, ◌≡◌, ◌≢◌, ◌&&◌, inl, inr, refl, sym, ap, ◌∙◌, subst, arith, true, not, Some, List, [], ◌∷◌, length}
use Rattle.std.proofs.lemmas.Bool.{cases_eq, and_parts, and_from}
use Rattle.std.proofs.lemmas.List.Folds.{list_any-from_Any}
use Rattle.std.proofs.lemmas.List.Sums.{length-filter}
use Rattle.go_board.specs.declared.colour.Colour.{Colour}
use Rattle.go_board.specs.Colours.{Colouring}
use Rattle.go_board.specs.Paths.{IsAdjacent}
use Rattle.go_board.specs.Points.{is_adjacent}
use Rattle.go_board.specs.Reaching.{has_colour, joined, points, some_neighbour, vanished}
use Rattle.go_board.specs.Packs.{colour_coded}
use Rattle.go_chains.specs.Cells.{code_at, label_of, next_of, size_of}
use Rattle.go_chains.specs.Playing.{is_beside_own, stones_beside}
use Rattle.go_chains.specs.Rings.{ring_from}
use Rattle.go_chains.specs.Boards.{colouring_of}
use Rattle.go_chains.specs.inner.Steps.{CountsTaken}
use Rattle.go_chains.specs.inner.Tables.{IsJoined, IsStone, IsTidy, Links, tables_of}
use Rattle.go_chains.proofs.rules.Sound.{IsOn-Contains, chain_of, colouring-at, colouring-inside, length-ring_from, ring_from-apart}
use Rattle.go_chains.proofs.rules.Counting.{below_point, counted_by, passing-has}
use Rattle.go_chains.proofs.rules.Playing.{colour_test, not-false, not-true, test_colour}
use Rattle.go_chains.proofs.tables.Tidy.{length-le_members}

-- the list counts the stones of a colour that are in the one colouring and not in the other
pub vanished_is : (n : ℕ) (before after : List ℕ) (c : Colour) (code taken : ℕ) →
    ((p : ℕ) → p < n * n → code_at before p < 3) → ((p : ℕ) → p < n * n → code_at after p < 3) → code < 3 →
    colour_coded code ≡ Some c
    → CountsTaken (n * n) (tables_of before) (tables_of after) code taken →
    taken ≡ vanished n (colouring_of n before) (colouring_of n after) c
unfolding vanished
vanished_is n before after c code taken coded coded' small is counts =
    sym (counts.1) ∙ sym (counted_by n (λ p. has_colour g p (Some c) && not (has_colour h p (Some c))) counts.0 counts.2
    (λ q has. (let of = (counts.3 q).0 has in (
      of.0,
      and_from (has_colour g q (Some c)) (not (has_colour h q (Some c)))
          (colour_test n before q c of.0 (ap colour_coded of.1 ∙ is))
          (not-false (has_colour h q (Some c))
          (λ still. of.2 (test_colour n after q c code of.0 (coded' q of.0) small is still))),
    )))
    (λ q q_in passes. (let parts = and_parts (has_colour g q (Some c)) (not (has_colour h q (Some c))) passes in
    (counts.3 q).1 (
      q_in,
      test_colour n before q c code q_in (coded q q_in) small is parts.0,
      λ still. not-true (has_colour h q (Some c)) parts.1 (colour_test n after q c q_in (ap colour_coded still ∙ is)),
    ))))
  where
    g : Colouring
    g = colouring_of n before

    h : Colouring
    h = colouring_of n after

-- a path of one colour over cells with a stone more at p, seen on the cells before
pub data Seen (n : ℕ) (f : ℕ → ℕ) (p c x q : ℕ) : Type 0 where
  aside : x ≢ p → IsJoined (IsAdjacent n) f x q → Seen n f p c x q
  around : (s : ℕ) → IsAdjacent n p s → f s ≡ c → IsJoined (IsAdjacent n) f s q → Seen n f p c x q

seen : (n : ℕ) (f f' : ℕ → ℕ) (p c x : ℕ) (via : List ℕ) (q : ℕ) → q ≢ p → f' x ≡ c →
    ((y : ℕ) → y < n * n → y ≢ p → f' y ≡ c → f y ≡ c) → x < n * n → Links (IsAdjacent n) f' x via q → Seen n f p c x q
seen n f f' p c x [] q off is had x_in links = aside (λ at. off (sym links ∙ at)) ([], links)
seen n f f' p c x (y ∷ ys) q off is had x_in links =
    let y_in : y < n * n = links.0.1 in
    let y_is : f' y ≡ c = links.1 ∙ is in
    elim (seen n f f' p c y ys q off y_is had y_in links.2) [
      | around s near s_is rest ↦ around s near s_is rest
      | aside y_off rest ↦
          let y_was : f y ≡ c = had y y_in y_off y_is in
          elim (cases_eq x p) [
            | inl at ↦ around y (let A : ℕ → Type 0 = λ k. IsAdjacent n k y in subst A at links.0) y_was rest
            | inr x_off ↦ aside x_off (y ∷ rest.0, (links.0, y_was ∙ sym (had x x_in x_off is), rest.1))
          ]
    ]

-- the placed stone's ring has no more stones than that stone and the own chains beside it
pub ring-le : JoinedByPath → (n : ℕ) (before after : List ℕ) (p code : ℕ) (c : Colour) →
    ((q : ℕ) → q < n * n → code_at before q < 3) → code < 3 → colour_coded code ≡ Some c → 0 < code
    → IsTidy (n * n) (IsAdjacent n) (tables_of after) → p < n * n → code_at after p ≡ code →
    ((q : ℕ) → q < n * n → q ≢ p → code_at after q ≡ code → code_at before q ≡ code)
    → size_of after (label_of after p) ≤ stones_beside n (colouring_of n before) c p + 1
unfolding stones_beside
ring-le law n before after p code c coded small is some tidy p_in p_is had =
    let few = length-le_members (ring_from (next_of after) size p) (p ∷ own)
    (ring_from-apart (next_of after) size p (tidy.ring p stone).apart) members in
    let long = length-ring_from (next_of after) size p in
    let counts = length-filter (is_beside_own n g c p) (points n) in
    omega arith
  where
    g : Colouring
    g = colouring_of n before

    size : ℕ
    size = size_of after (label_of after p)

    stone : IsStone (n * n) (tables_of after) p
    stone = (p_in, let e = p_is in omega arith)

    own : List ℕ
    own = filter (is_beside_own n g c p) (points n)

    passes : (q : ℕ) → q < n * n → code_at before q ≡ code → (s : ℕ) → IsAdjacent n p s → code_at before s ≡ code →
        IsJoined (IsAdjacent n) (code_at before) s q → is_beside_own n g c p q ≡ true
    passes q q_in q_is s near s_is path =
        let s_in : s < n * n = near.1 in
        let s_joined = (law n g s q s_in).1
        (chain_of n g before (colouring-inside n before) (colouring-at n before) coded s q s_in path) in
        let s_passes : (is_adjacent n p s && (has_colour g s (Some c) && joined n g s q)) ≡ true =
        and_from (is_adjacent n p s) (has_colour g s (Some c) && joined n g s q) near.2
        (and_from (has_colour g s (Some c)) (joined n g s q) (colour_test n before s c s_in (ap colour_coded s_is ∙ is))
        s_joined) in
        let at = below_point n s s_in in
        and_from (has_colour g q (Some c)) (some_neighbour n p (λ k. has_colour g k (Some c) && joined n g k q))
        (colour_test n before q c q_in (ap colour_coded q_is ∙ is))
        (list_any-from_Any (λ k. is_adjacent n p k && (has_colour g k (Some c) && joined n g k q)) (points n)
        (at.0, s, at.1, at.2, s_passes))

    members : (q : ℕ) → Contains (ring_from (next_of after) size p) q → Contains (p ∷ own) q
    members q has = elim (cases_eq q p) [
      | inl at ↦ (0, omega arith, sym at)
      | inr off ↦
          let on = tidy.on_ring p q stone (IsOn-Contains (next_of after) size p q has) in
          let q_in : q < n * n = on.0.0 in
          let path = tidy.joined p q stone on.0 (sym on.1) in
          let q_is : code_at before q ≡ code =
          had q q_in off (sym (tidy.head_colour q on.0) ∙ ap (code_at after) on.1 ∙ tidy.head_colour p stone
          ∙ p_is) in
          elim (seen n (code_at before) (code_at after) p code p path.0 q off p_is had p_in path.1) [
            | aside never _ ↦ absurd (never refl)
            | around s near s_is rest ↦
                let in_own = passing-has n (is_beside_own n g c p) q q_in (passes q q_in q_is s near s_is rest) in
                (suc in_own.0, (let h : in_own.0 < length own = in_own.1 in omega arith), in_own.2)
          ]
    ]
