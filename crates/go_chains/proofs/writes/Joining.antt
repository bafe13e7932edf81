-- A join as its writes leave the cells.
use Rattle.std.proofs.Common.{ℕ, ◌+◌, ◌*◌, ◌/◌, ◌%◌, ◌<◌, ◌≤◌, ◌≡◌, ◌≢◌, ◌⊎◌, inl, inr, refl, sym, ap, ◌∙◌, arith, List, slice_index, max}
use Rattle.std.specs.Int.{bit_at}
use Rattle.std.specs.Int.RustNames.{bit_or}
use Rattle.std.proofs.lemmas.Bool.{cases_lt, cases_eq}
use Rattle.std.proofs.lemmas.Nat.Bits.{bit_at_or, bit_at-lt}
use Rattle.go_board.specs.declared.size.TheConstants.{MAX_POINTS}
use Rattle.go_chains.specs.declared.cells.TheConstants.{LABELS, LINKS, SIZES, LIBERTIES}
use Rattle.go_board.specs.declared.point_set.TheConstants.{WORDS}
use Rattle.go_chains.specs.inner.Rings.{steps}
use Rattle.go_chains.specs.inner.Tables.{IsStone, IsTidy, tables_of}
use Rattle.go_chains.specs.inner.Steps.{IsJoin}
use Rattle.go_chains.specs.Cells.{code_at, label_of, lib_of, next_of, size_of, word_of}
use Rattle.go_chains.specs.inner.Writes.{IsWritten}
use Rattle.go_chains.specs.inner.Writes.{IsMerged, IsRelabelled}

-- the bit of either of two words
pub either_bit : (a b i : ℕ) → bit_at (bit_or a b) i ≡ 1 → (bit_at a i ≡ 1) ⊎ (bit_at b i ≡ 1)
either_bit a b i one =
    let m : max (bit_at a i) (bit_at b i) ≡ 1 = sym (bit_at_or a b i) ∙ one in
    elim (cases_eq (bit_at a i) 1) [
      | inl is ↦ inl is
      | inr not ↦
          inr (let x : bit_at a i < 2 = bit_at-lt a i in let y : bit_at b i < 2 = bit_at-lt b i in omega arith)
    ]

pub first_bit : (a b i : ℕ) → bit_at a i ≡ 1 → bit_at (bit_or a b) i ≡ 1
first_bit a b i one = bit_at_or a b i
    ∙ (let x : bit_at b i < 2 = bit_at-lt b i in let m : max (bit_at a i) (bit_at b i) ≡ 1 = omega arith in m)

pub second_bit : (a b i : ℕ) → bit_at b i ≡ 1 → bit_at (bit_or a b) i ≡ 1
second_bit a b i one = bit_at_or a b i
    ∙ (let x : bit_at a i < 2 = bit_at-lt a i in let m : max (bit_at a i) (bit_at b i) ≡ 1 = omega arith in m)

module _ (n : ℕ) (adj : ℕ → ℕ → Type 0) (small : n ≤ MAX_POINTS) (c0 c1 c2 c3 c4 c5 : List ℕ)
    (first second keep gone kept stones first_next second_next : ℕ)
    (tidy : IsTidy n adj (tables_of c0)) (first_in : IsStone n (tables_of c0) first)
    (second_in : IsStone n (tables_of c0) second)
    (same : code_at c0 first ≡ code_at c0 second) (apart : label_of c0 first ≢ label_of c0 second)
    (keep_is : keep ≡ label_of c0 first) (gone_is : gone ≡ label_of c0 second) (kept_is : kept ≡ size_of c0 keep)
    (stones_is : stones ≡ size_of c0 gone)
    (relabelled : IsRelabelled (next_of c0) c0 c1 second stones keep)
    (first_next_is : first_next ≡ next_of c1 first) (second_next_is : second_next ≡ next_of c1 second)
    (link_first : IsWritten c1 c2 (LINKS + first) second_next)
    (link_second : IsWritten c2 c3 (LINKS + second) first_next)
    (sized : IsWritten c3 c4 (SIZES + keep) (stones + kept)) (words : ℕ) (all : n ≤ 64 * words)
    (merged : IsMerged c4 c5 keep gone words) where
  keep_in : keep < n
  keep_in = let h = tidy.head_in first first_in in let e = keep_is in omega arith

  gone_in : gone < n
  gone_in = let h = tidy.head_in second second_in in let e = gone_is in omega arith

  differ : first ≢ second
  differ e = apart (ap (label_of c0) e)

  -- before the labels and past the links but one size, as it stood
  low : (k : ℕ) → k < LINKS → slice_index c5 k ≡ slice_index c1 k
  low k below = merged.below k (omega arith) ∙ sized.others k (omega arith) ∙ link_second.others k (omega arith)
      ∙ link_first.others k (omega arith)

  next_now : (p : ℕ) → p < n → next_of c5 p ≡ next_of c3 p
  next_now p p_in = merged.below (LINKS + p) (omega arith) ∙ sized.others (LINKS + p) (omega arith)

  word_before : (l w : ℕ) → l < n → w < WORDS → word_of c4 l w ≡ word_of c0 l w
  word_before l w l_in w_in =
      let k = LIBERTIES + WORDS * l + w in
      let first_below : first < n = first_in.0 in let second_below : second < n = second_in.0 in let keep_below =
      keep_in in
      sized.others k (omega arith) ∙ link_second.others k (omega arith) ∙ link_first.others k (omega arith)
      ∙ relabelled.high k (omega arith)

  word_now : (w : ℕ) → w < words → w < WORDS → word_of c5 keep w ≡ bit_or (word_of c0 keep w) (word_of c0 gone w)
  word_now w below w_in = merged.words w below w_in
      ∙ ap (λ x. bit_or x (word_of c4 gone w)) (word_before keep w keep_in w_in)
      ∙ ap (bit_or (word_of c0 keep w)) (word_before gone w gone_in w_in)

  word_aside : (l w : ℕ) → l < n → l ≢ keep → w < WORDS → word_of c5 l w ≡ word_of c0 l w
  word_aside l w l_in aside w_in = elim (cases_lt l keep) [
    | inl under ↦ merged.below (LIBERTIES + WORDS * l + w) (omega arith) ∙ word_before l w l_in w_in
    | inr over ↦ merged.above (LIBERTIES + WORDS * l + w) (omega arith) ∙ word_before l w l_in w_in
  ]

  size_before : (l : ℕ) → l < n → slice_index c3 (SIZES + l) ≡ size_of c0 l
  size_before l l_in =
      let first_below : first < n = first_in.0 in let second_below : second < n = second_in.0 in
      link_second.others (SIZES + l) (omega arith) ∙ link_first.others (SIZES + l) (omega arith)
      ∙ relabelled.high (SIZES + l) (omega arith)

  pub IsJoin_written : IsJoin n (tables_of c0) (tables_of c5) first second
  IsJoin_written =
      let first_below : first < n = first_in.0 in let second_below : second < n = second_in.0 in
      record {
        first = first_in;
        second = second_in;
        same = same;
        apart = apart;
        colours = λ p p_in. low p (omega arith) ∙ relabelled.low p (omega arith);
        relabelled = λ p stone is.
            let on = tidy.ring_has second p second_in stone is in
            let below : on.0 < size_of c0 (label_of c0 second) = on.1 in
            low (LABELS + p) (let h : p < n = stone.0 in omega arith) ∙ ap (label_of c1) (sym on.2)
            ∙ relabelled.on on.0 (let e = stones_is in let f = ap (size_of c0) gone_is in omega arith) ∙ keep_is;
        labels = λ p stone aside.
            low (LABELS + p) (let h : p < n = stone.0 in omega arith)
            ∙ relabelled.off p (let h : p < n = stone.0 in omega arith) (λ i below e.
            aside (ap (label_of c0) (sym e)
            ∙ (tidy.on_ring second (steps (next_of c0) i second) second_in
            (i, (let f = stones_is in let h = ap (size_of c0) gone_is in omega arith), refl)).1));
        first_next = next_now first first_below ∙ link_second.others (LINKS + first) (λ e. differ (omega arith))
            ∙ link_first.at ∙ second_next_is ∙ relabelled.high (LINKS + second) (omega arith);
        second_next = next_now second second_below ∙ link_second.at ∙ first_next_is
            ∙ relabelled.high (LINKS + first) (omega arith);
        nexts = λ p p_in not_first not_second.
            next_now p p_in ∙ link_second.others (LINKS + p) (λ e. not_second (omega arith))
            ∙ link_first.others (LINKS + p) (λ e. not_first (omega arith))
            ∙ relabelled.high (LINKS + p) (omega arith);
        size_is =
            let keep_below = keep_in in
            ap (size_of c5) (sym keep_is) ∙ merged.below (SIZES + keep) (omega arith) ∙ sized.at
            ∙ (let e : stones ≡ size_of c0 (label_of c0 second) = stones_is ∙ ap (size_of c0) gone_is in
            let f : kept ≡ size_of c0 (label_of c0 first) = kept_is ∙ ap (size_of c0) keep_is in omega arith);
        sizes = λ l l_in aside.
            merged.below (SIZES + l) (omega arith)
            ∙ sized.others (SIZES + l) (λ e. aside ((let s : l ≡ keep = omega arith in s) ∙ keep_is))
            ∙ size_before l l_in;
        lib_of_first = λ q q_in one.
            ap (λ l. lib_of c5 l q) (sym keep_is)
            ∙ ap (λ x. bit_at x (q % 64)) (word_now (q / 64) (omega arith) (omega arith))
            ∙ first_bit (word_of c0 keep (q / 64)) (word_of c0 gone (q / 64)) (q % 64)
            (ap (λ l. lib_of c0 l q) keep_is ∙ one);
        lib_of_second = λ q q_in one.
            ap (λ l. lib_of c5 l q) (sym keep_is)
            ∙ ap (λ x. bit_at x (q % 64)) (word_now (q / 64) (omega arith) (omega arith))
            ∙ second_bit (word_of c0 keep (q / 64)) (word_of c0 gone (q / 64)) (q % 64)
            (ap (λ l. lib_of c0 l q) gone_is ∙ one);
        lib_of_either = λ q q_in one.
            elim (either_bit (word_of c0 keep (q / 64)) (word_of c0 gone (q / 64)) (q % 64)
            (sym (ap (λ x. bit_at x (q % 64)) (word_now (q / 64) (omega arith) (omega arith)))
            ∙ ap (λ l. lib_of c5 l q) keep_is ∙ one)) [
              | inl of_first ↦ inl (ap (λ l. lib_of c0 l q) (sym keep_is) ∙ of_first)
              | inr of_second ↦ inr (ap (λ l. lib_of c0 l q) (sym gone_is) ∙ of_second)
            ];
        libs = λ l q l_in q_in aside. ap (λ x. bit_at x (q % 64))
            (word_aside l (q / 64) l_in (λ e. aside (e ∙ keep_is)) (omega arith));
      }
