-- A point that becomes a liberty, and stones that are taken off, a step at a time.
use Rattle.std.specs.Int.{bit_at}
use Rattle.std.specs.Int.RustNames.{bit_or}
use Rattle.std.proofs.Common.{ℕ, ◌+◌, ◌*◌, ◌/◌, ◌%◌, ◌^◌, ◌<◌, ◌≤◌, ◌≡◌, ◌≢◌, ◌⊎◌, inl, inr, refl, sym, ap, ◌∙◌, subst, arith, List, length, slice_index, w64}
use Rattle.std.proofs.lemmas.Bool.{cases_lt, cases_eq}
use Rattle.std.proofs.lemmas.Nat.Bits.{bit_at_set_other, bit_at_set_same}
use Rattle.go_board.specs.Paths.{IsAdjacent}
use Rattle.go_board.specs.declared.size.TheConstants.{MAX_POINTS}
use Rattle.go_chains.specs.declared.cells.TheConstants.{LABELS, LINKS, SIZES, LIBERTIES}
use Rattle.go_board.specs.declared.point_set.TheConstants.{WORDS}
use Rattle.go_chains.specs.inner.Beside.{AreBeside}
use Rattle.go_chains.specs.inner.Rings.{steps}
use Rattle.go_chains.specs.Cells.{code_at, label_of, lib_of, next_of, size_of, word_of}
use Rattle.go_chains.specs.inner.Writes.{IsWritten}
use Rattle.go_chains.specs.inner.Steps.{IsRemoved}
use Rattle.go_chains.specs.inner.Tables.{IsStone, IsTidy, AreChainsWhole, tables_of}
use Rattle.go_chains.specs.inner.Writes.{IsGiven, IsGivenBeside, IsLifted, IsRingLifted}
use Rattle.go_chains.proofs.writes.Depriving.{word_apart}
use Rattle.go_board.specs.lemmas.Paths.{flip}
use Rattle.go_chains.proofs.writes.Neighbours.{apart}

module _ (old new : List ℕ) (label point word : ℕ) (label_in : label < MAX_POINTS) (point_in : point < MAX_POINTS)
    (word_is : word ≡ word_of old label (point / 64))
    (written : IsWritten old new (LIBERTIES + WORDS * label + point / 64)
    (bit_or word (1 * 2 ^ (point % 64) % 2 ^ 64))) where
  in_word : (q : ℕ) → q < MAX_POINTS → q / 64 < WORDS
  in_word q q_in = omega arith

  kept_of : (l q : ℕ) → q < MAX_POINTS → (l ≡ label → q ≢ point) → lib_of new l q ≡ lib_of old l q
  kept_of l q q_in off = elim (cases_eq l label) [
    | inl same_label ↦ elim (cases_eq (q / 64) (point / 64)) [
      | inl same_word ↦
          let differs : q % 64 ≢ point % 64 = λ e. off same_label (omega arith) in
          ap (λ k. bit_at (word_of new k (q / 64)) (q % 64)) same_label
          ∙ ap (λ k. bit_at (word_of new label k) (q % 64)) same_word
          ∙ ap (λ x. bit_at x (q % 64)) written.at
          ∙ bit_at_set_other w64 word (point % 64) (omega arith) (q % 64) differs
          ∙ ap (λ x. bit_at x (q % 64)) word_is ∙ ap (λ k. bit_at (word_of old label k) (q % 64)) (sym same_word)
          ∙ ap (λ k. bit_at (word_of old k (q / 64)) (q % 64)) (sym same_label)
      | inr other ↦ ap (λ x. bit_at x (q % 64))
          (word_apart old new label (point / 64) _ l (q / 64) (in_word point point_in) (in_word q q_in) written
          (λ e f. other f))
    ]
    | inr other ↦ ap (λ x. bit_at x (q % 64))
        (word_apart old new label (point / 64) _ l (q / 64) (in_word point point_in) (in_word q q_in) written
        (λ e f. other e))
  ]

  given_of : lib_of new label point ≡ 1
  given_of = ap (λ x. bit_at x (point % 64)) written.at ∙ bit_at_set_same w64 word (point % 64) (omega arith)

  pub IsGiven_set : IsGiven old new point (λ l. l ≡ label)
  IsGiven_set = record {
    low = λ k below. written.others k (omega arith);
    kept = λ l q l_in q_in one. elim (cases_eq l label) [
      | inl same ↦ elim (cases_eq q point) [
        | inl at ↦ ap (λ k. lib_of new k q) same ∙ ap (lib_of new label) at ∙ given_of
        | inr off ↦ kept_of l q q_in (λ _. off) ∙ one
      ]
      | inr other ↦ kept_of l q q_in (λ e. absurd (other e)) ∙ one
    ];
    given = λ l l_in is. ap (λ k. lib_of new k point) is ∙ given_of;
    was = λ l q l_in q_in one. elim (cases_eq l label) [
      | inl same ↦ elim (cases_eq q point) [
        | inl at ↦ inr (at, same)
        | inr off ↦ inl (sym (kept_of l q q_in (λ _. off)) ∙ one)
      ]
      | inr other ↦ inl (sym (kept_of l q q_in (λ e. absurd (other e))) ∙ one)
    ];
  }

-- a liberty of the stone on one listed point more
pub IsGiven_more : (old mid new : List ℕ) (point : ℕ) (beside : List ℕ) (colour i : ℕ) → point < MAX_POINTS →
    slice_index beside i < MAX_POINTS → IsGiven old mid point (IsGivenBeside old beside colour i)
    → IsGiven mid new point (λ l. (code_at mid (slice_index beside i) ≡ colour)
    × (label_of mid (slice_index beside i) ≡ l)) → IsGiven old new point (IsGivenBeside old beside colour (i + 1))
IsGiven_more old mid new point beside colour i point_in near_in so_far one = record {
  low = λ k below. one.low k below ∙ so_far.low k below;
  kept = λ l q l_in q_in is. one.kept l q l_in q_in (so_far.kept l q l_in q_in is);
  given = λ l l_in of. elim (cases_lt of.0 i) [
    | inl before ↦ one.kept l point l_in point_in (so_far.given l l_in (of.0, before, of.2, of.3))
    | inr last ↦
        let j : ℕ = of.0 in
        let below : j < i + 1 = of.1 in
        let e : j ≡ i = omega arith in
        one.given l l_in (
          same ∙ ap (λ k. code_at old (slice_index beside k)) (sym e) ∙ of.2,
          label_same
              ∙ ap (λ k. label_of old (slice_index beside k)) (sym e) ∙ of.3,
        )
  ];
  was = λ l q l_in q_in is. elim (one.was l q l_in q_in is) [
    | inl then ↦ elim (so_far.was l q l_in q_in then) [
      | inl before ↦ inl before
      | inr given ↦ inr (given.0, (given.1.0, (let h : given.1.0 < i = given.1.1 in omega arith), given.1.2, given.1.3))
    ]
    | inr here ↦ inr (here.0, (i, omega arith, sym same ∙ here.1.0, sym label_same ∙ here.1.1))
  ];
}
  where
    same : code_at mid (slice_index beside i) ≡ code_at old (slice_index beside i)
    same = so_far.low (slice_index beside i) (omega arith)

    label_same : label_of mid (slice_index beside i) ≡ label_of old (slice_index beside i)
    label_same = so_far.low (LABELS + slice_index beside i) (omega arith)

-- a stone is taken off, and then its point is given back
pub IsLifted_given : (n : ℕ) (old mid new : List ℕ) (point other : ℕ) (beside : List ℕ) → n * n ≤ MAX_POINTS →
    point < n * n → AreBeside n point beside
    → IsWritten old mid point 0 → IsGiven mid new point (IsGivenBeside mid beside other (length beside)) →
    IsLifted n old new point other
IsLifted_given n old mid new point other beside small point_in near w given = record {
  at = given.low point (omega arith) ∙ w.at;
  low = λ k below off. given.low k below ∙ w.others k off;
  kept = λ l q l_in q_in one. given.kept l q l_in q_in (lib_same l q l_in q_in ∙ one);
  given = λ s beside_point is label_in.
      let at = near.all s beside_point in
      given.given (label_of old s) label_in (
        at.0,
        at.1,
        ap (code_at mid) at.2 ∙ colour_same s beside_point ∙ is,
        ap (label_of mid) at.2 ∙ label_same s beside_point,
      );
  was = λ l q l_in q_in one. elim (given.was l q l_in q_in one) [
    | inl before ↦ inl (sym (lib_same l q l_in q_in) ∙ before)
    | inr of ↦
        let s = slice_index beside of.1.0 in
        let beside_point : IsAdjacent n point s = near.are of.1.0 of.1.1 in
        inr (
          of.0,
          (
            s,
            beside_point,
            sym (colour_same s beside_point) ∙ of.1.2,
            sym (label_same s beside_point)
                ∙ of.1.3,
          ),
        )
  ];
}
  where
    lib_same : (l q : ℕ) → l < MAX_POINTS → q < MAX_POINTS → lib_of mid l q ≡ lib_of old l q
    lib_same l q l_in q_in = ap (λ x. bit_at x (q % 64)) (w.others (LIBERTIES + WORDS * l + q / 64) (omega arith))

    colour_same : (s : ℕ) → IsAdjacent n point s → code_at mid s ≡ code_at old s
    colour_same s beside_point = w.others s
        (λ e. apart n point (let A : ℕ → Type 0 = IsAdjacent n point in subst A e beside_point))

    label_same : (s : ℕ) → IsAdjacent n point s → label_of mid s ≡ label_of old s
    label_same s beside_point = w.others (LABELS + s) (let h : s < n * n = beside_point.1 in omega arith)

-- one stone more along the ring is taken off
pub IsRingLifted_more : (n : ℕ) (next : ℕ → ℕ) (old mid new : List ℕ) (stone i other at : ℕ) → n * n ≤ MAX_POINTS →
    0 < other → at ≡ steps next i stone
    → ((j : ℕ) → j ≤ i → steps next j stone < n * n) →
    ((s : ℕ) → s < n * n → code_at old s ≡ other → (j : ℕ) → j < i → steps next j stone ≢ s)
    → IsRingLifted n next old mid stone i other → IsLifted n mid new at other →
    IsRingLifted n next old new stone (i + 1) other
IsRingLifted_more n next old mid new stone i other at small some at_is on_board apart_of so_far one = record {
  on = λ j below. elim (cases_eq (steps next j stone) at) [
    | inl same ↦ ap (code_at new) same ∙ one.at
    | inr differs ↦ elim (cases_lt j i) [
      | inl before ↦ one.low (steps next j stone) (let h = on_board j (omega arith) in omega arith) differs
          ∙ so_far.on j before
      | inr last ↦ absurd (differs (ap (λ k. steps next k stone) (let e : j ≡ i = omega arith in e) ∙ sym at_is))
    ]
  ];
  off = λ p p_in differs. one.low p (omega arith) (λ e. differs i (omega arith) (sym at_is ∙ sym e))
      ∙ so_far.off p p_in (λ j below. differs j (omega arith));
  either = λ p p_in. elim (cases_eq p at) [
    | inl same ↦ inl (ap (code_at new) same ∙ one.at)
    | inr differs ↦ elim (so_far.either p p_in) [
      | inl gone ↦ inl (one.low p (omega arith) differs ∙ gone)
      | inr same ↦ inr (one.low p (omega arith) differs ∙ same)
    ]
  ];
  above = λ k from below. one.low k below (omega arith) ∙ so_far.above k from below;
  kept = λ l q l_in q_in is. one.kept l q l_in q_in (so_far.kept l q l_in q_in is);
  given = λ j s below near is label_in. elim (cases_lt j i) [
    | inl before ↦ one.kept (label_of old s) (steps next j stone) label_in
        (let h = on_board j (omega arith) in omega arith) (so_far.given j s before near is label_in)
    | inr last ↦
        let e : j ≡ i = omega arith in
        let at_same : at ≡ steps next j stone = at_is ∙ ap (λ k. steps next k stone) (sym e) in
        let s_in : s < n * n = near.1 in
        let label_same : label_of mid s ≡ label_of old s = so_far.above (LABELS + s) (omega arith) (omega arith) in
        let near_at : IsAdjacent n at s = (let A : ℕ → Type 0 = λ x. IsAdjacent n x s in subst A (sym at_same) near) in
        ap (λ l. lib_of new l (steps next j stone)) (sym label_same) ∙ ap (lib_of new (label_of mid s)) (sym at_same)
        ∙ one.given s near_at (so_far.off s (omega arith) (apart_of s s_in is) ∙ is) (omega arith)
  ];
  was = λ l q l_in q_in is. elim (one.was l q l_in q_in is) [
    | inl then ↦ elim (so_far.was l q l_in q_in then) [
      | inl before ↦ inl before
      | inr given ↦ inr ((given.0.0, (let h : given.0.0 < i = given.0.1 in omega arith), given.0.2), given.1)
    ]
    | inr here ↦
        let s = here.1.0 in
        let near_at : IsAdjacent n at s = here.1.1 in
        let s_in : s < n * n = near_at.1 in
        let label_same : label_of mid s ≡ label_of old s = so_far.above (LABELS + s) (omega arith) (omega arith) in
        let colour_same : code_at old s ≡ other = elim (so_far.either s (omega arith)) [
          | inl gone ↦ absurd (let z : code_at mid s ≡ other = here.1.2 in omega arith)
          | inr same ↦ sym same ∙ here.1.2
        ] in
        inr (
          (i, omega arith, sym at_is ∙ sym here.0),
          (
            s,
            (let A : ℕ → Type 0 = λ x. IsAdjacent n x s in subst A (sym here.0) near_at),
            colour_same,
            sym label_same ∙ here.1.3,
          ),
        )
  ];
}

-- the whole ring taken off is the chain removed
pub IsRemoved_ring : (n : ℕ) (old new : List ℕ) (stone own other : ℕ) → n * n ≤ MAX_POINTS → 0 < other →
    IsTidy (n * n) (IsAdjacent n) (tables_of old) → AreChainsWhole (n * n) (IsAdjacent n) (tables_of old)
    → IsStone (n * n) (tables_of old) stone → code_at old stone ≡ own →
    ((s : ℕ) → IsStone (n * n) (tables_of old) s → (code_at old s ≡ own) ⊎ (code_at old s ≡ other))
    → IsRingLifted n (next_of old) old new stone (size_of old (label_of old stone)) other →
    IsRemoved (n * n) (IsAdjacent n) (tables_of old) (tables_of new) stone
IsRemoved_ring n old new stone own other small some tidy whole stone_in own_is two ring = record {
  stone = stone_in;
  gone = λ q q_stone same. let on = tidy.ring_has stone q stone_in q_stone same in ap (code_at new) (sym on.2)
      ∙ ring.on on.0 on.1;
  colours = λ q q_in aside. ring.off q (omega arith) (λ j below e.
      let on = tidy.on_ring stone q stone_in (j, below, e) in aside on.0 on.1);
  labels = λ q q_in. ring.above (LABELS + q) (omega arith) (omega arith);
  nexts = λ q q_in. ring.above (LINKS + q) (omega arith) (omega arith);
  sizes = λ l l_in. ring.above (SIZES + l) (omega arith) (omega arith);
  lib_kept = λ s q s_stone aside q_in one.
      ring.kept (label_of old s) q (let h = tidy.head_in s s_stone in omega arith) (omega arith) one;
  lib_given = λ s q s_stone aside q_stone same near.
      let on = tidy.ring_has stone q stone_in q_stone same in
      let label_in : label_of old s < MAX_POINTS = (let h = tidy.head_in s s_stone in omega arith) in
      let near_s : IsAdjacent n (steps (next_of old) on.0 stone) s =
      (let A : ℕ → Type 0 = λ x. IsAdjacent n x s in subst A (sym on.2) (flip n s q near)) in
      let q_own : code_at old q ≡ own = sym (tidy.head_colour q q_stone) ∙ ap (code_at old) same
      ∙ tidy.head_colour stone stone_in ∙ own_is in
      let s_other : code_at old s ≡ other = elim (two s s_stone) [
        | inl is ↦ absurd (aside (whole s q s_stone q_stone near (is ∙ sym q_own) ∙ same))
        | inr is ↦ is
      ] in
      ap (lib_of new (label_of old s)) (sym on.2) ∙ ring.given on.0 s on.1 near_s s_other label_in;
  lib_was = λ s q s_stone aside q_in one.
      elim (ring.was (label_of old s) q (let h = tidy.head_in s s_stone in omega arith) (omega arith) one) [
        | inl before ↦ inl before
        | inr given ↦
            let on = tidy.on_ring stone q stone_in given.0 in
            let x = given.1.0 in
            let near : IsAdjacent n q x = given.1.1 in
            let x_stone : IsStone (n * n) (tables_of old) x =
            (near.1, (let h : code_at old x ≡ other = given.1.2 in omega arith)) in
            inr (on.0, on.1, (x, x_stone, given.1.3, flip n q x near))
      ];
}

-- a point of a stone's ring is on the board and has the stone's colour
pub ring_point : (n : ℕ) (old : List ℕ) (stone own : ℕ) → IsTidy (n * n) (IsAdjacent n) (tables_of old) →
    IsStone (n * n) (tables_of old) stone → code_at old stone ≡ own
    → (j : ℕ) → j < size_of old (label_of old stone) → (steps (next_of old) j stone < n * n)
    × (code_at old (steps (next_of old) j stone) ≡ own)
ring_point n old stone own tidy stone_in own_is j below =
    let x = steps (next_of old) j stone in
    let on = tidy.on_ring stone x stone_in (j, below, refl) in
    (on.0.0, sym (tidy.head_colour x on.0) ∙ ap (code_at old) on.1 ∙ tidy.head_colour stone stone_in ∙ own_is)

-- what is known of the stone whose turn it is
pub record IsNext (n : ℕ) (old mid : List ℕ) (stone own other i at : ℕ) : Type 0 where
  pub inside : at < n * n
  pub own_is : code_at mid at ≡ own
  pub labels : (s : ℕ) → s < n * n → code_at mid s ≡ other → label_of mid s < MAX_POINTS
  pub apart_of : (s : ℕ) → s < n * n → code_at old s ≡ other → (j : ℕ) → j < i → steps (next_of old) j stone ≢ s

pub is_next : (n : ℕ) (old mid : List ℕ) (stone own other i at : ℕ) → n * n ≤ MAX_POINTS → 0 < other → own ≢ other →
    IsTidy (n * n) (IsAdjacent n) (tables_of old)
    → IsStone (n * n) (tables_of old) stone → code_at old stone ≡ own → i < size_of old (label_of old stone) →
    at ≡ steps (next_of old) i stone
    → IsRingLifted n (next_of old) old mid stone i other → IsNext n old mid stone own other i at
is_next n old mid stone own other i at small some differ tidy stone_in own_is i_in at_is lifted = record {
  inside = at_in;
  own_is = lifted.off at (let h = at_in in omega arith)
      (λ j below e. (let same : j ≡ i = (tidy.ring stone stone_in).apart j i (omega arith) i_in (e ∙ at_is) in
      omega arith)) ∙ ap (code_at old) at_is ∙ (ring_point n old stone own tidy stone_in own_is i i_in).1;
  labels = λ s s_in is. elim (lifted.either s (omega arith)) [
    | inl gone ↦ absurd (omega arith)
    | inr same ↦
        let label_same : label_of mid s ≡ label_of old s = lifted.above (LABELS + s) (omega arith) (omega arith) in
        let h = tidy.head_in s (s_in, (let e : code_at old s ≡ other = sym same ∙ is in omega arith)) in omega arith
  ];
  apart_of = λ s s_in is j below e.
      differ (sym (ring_point n old stone own tidy stone_in own_is j (omega arith)).1 ∙ ap (code_at old) e ∙ is);
}
  where
    at_in : at < n * n
    at_in = let P : ℕ → Type 0 = λ x. x < n * n in
        subst P (sym at_is) (ring_point n old stone own tidy stone_in own_is i i_in).0
