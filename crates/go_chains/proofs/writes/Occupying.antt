-- A placed stone as its writes leave the cells.
use Rattle.std.specs.Int.{bit_at}
use Rattle.std.proofs.Common.{ℕ, ◌+◌, ◌*◌, ◌/◌, ◌%◌, ◌<◌, ◌≤◌, ◌≡◌, ◌≢◌, inl, inr, sym, ap, ◌∙◌, subst, arith, List, length, slice_index}
use Rattle.std.proofs.lemmas.Bool.{cases_lt, cases_eq}
use Rattle.go_board.specs.Paths.{IsAdjacent}
use Rattle.go_board.specs.declared.size.TheConstants.{MAX_POINTS}
use Rattle.go_chains.specs.declared.cells.TheConstants.{LABELS, LINKS, SIZES, LIBERTIES}
use Rattle.go_board.specs.declared.point_set.TheConstants.{WORDS}
use Rattle.go_chains.specs.inner.Beside.{AreBeside}
use Rattle.go_chains.specs.inner.Tables.{IsStone, IsTidy, tables_of}
use Rattle.go_chains.specs.inner.Steps.{IsPlaced}
use Rattle.go_chains.specs.Cells.{code_at, label_of, lib_of, word_of}
use Rattle.go_chains.specs.inner.Writes.{IsWritten}
use Rattle.go_chains.specs.inner.Writes.{IsDeprived, IsFilled, IsStoneBeside, MarksEmpty}
use Rattle.go_board.specs.PointSets.{bit_of}
use Rattle.go_chains.proofs.writes.Depriving.{unset}
use Rattle.go_board.specs.lemmas.Paths.{flip}

module _ (n : ℕ) (small : n * n ≤ MAX_POINTS) (c0 c1 c2 c3 c4 c5 c6 words beside : List ℕ) (p colour : ℕ)
    (tidy : IsTidy (n * n) (IsAdjacent n) (tables_of c0)) (p_in : p < n * n) (empty : code_at c0 p ≡ 0)
    (some : 0 < colour) (near : AreBeside n p beside)
    (marks : MarksEmpty c0 words beside (length beside))
    (deprived : IsDeprived c0 c1 p (IsStoneBeside c0 beside (length beside)))
    (coloured : IsWritten c1 c2 p colour) (labelled : IsWritten c2 c3 (LABELS + p) p)
    (linked : IsWritten c3 c4 (LINKS + p) p) (sized : IsWritten c4 c5 (SIZES + p) 1)
    (count : ℕ) (all : n * n ≤ 64 * count) (filled : IsFilled c5 c6 p words count) where
  before : (k : ℕ) → k < LIBERTIES → k ≢ p → k ≢ LABELS + p → k ≢ LINKS + p → k ≢ SIZES + p →
      slice_index c6 k ≡ slice_index c0 k
  before k low a b c d = filled.below k (omega arith) ∙ sized.others k d ∙ linked.others k c ∙ labelled.others k b
      ∙ coloured.others k a ∙ deprived.low k low

  -- the label of a stone is a stone, so no empty point
  label_apart : (s : ℕ) → IsStone (n * n) (tables_of c0) s → label_of c0 s ≢ p
  label_apart s stone e =
      let z : code_at c0 s ≡ 0 = sym (tidy.head_colour s stone) ∙ ap (code_at c0) e ∙ empty in
      let h : 0 < code_at c0 s = stone.1 in omega arith

  word_kept : (l w : ℕ) → l < n * n → l ≢ p → w < WORDS → word_of c6 l w ≡ word_of c1 l w
  word_kept l w l_in off w_in =
      let k = LIBERTIES + WORDS * l + w in
      elim (cases_lt l p) [
        | inl under ↦ filled.below k (omega arith) ∙ sized.others k (omega arith) ∙ linked.others k (omega arith)
            ∙ labelled.others k (omega arith) ∙ coloured.others k (omega arith)
        | inr over ↦ filled.above k (omega arith) ∙ sized.others k (omega arith) ∙ linked.others k (omega arith)
            ∙ labelled.others k (omega arith) ∙ coloured.others k (omega arith)
      ]

  lib_kept : (s q : ℕ) → IsStone (n * n) (tables_of c0) s → q < n * n →
      lib_of c6 (label_of c0 s) q ≡ lib_of c1 (label_of c0 s) q
  lib_kept s q stone q_in = ap (λ x. bit_at x (q % 64))
      (word_kept (label_of c0 s) (q / 64) (tidy.head_in s stone) (label_apart s stone) (omega arith))

  own_mark : (q : ℕ) → q < n * n → lib_of c6 p q ≡ bit_of words q
  own_mark q q_in = ap (λ x. bit_at x (q % 64)) (filled.words_are (q / 64) (omega arith) (omega arith))

  lost : (s : ℕ) → IsStone (n * n) (tables_of c0) s → lib_of c1 (label_of c0 s) p ≡ 0
  lost s stone =
      let l = label_of c0 s in
      let l_in : l < n * n = tidy.head_in s stone in
      elim (cases_eq (lib_of c0 l p) 1) [
        | inl one ↦
            let touch = (tidy.lib_is s p stone p_in one).1 in
            let at = near.all touch.0 (flip n touch.0 p touch.3) in
            let stone_there : 0 < code_at c0 touch.0 = touch.1.1 in
            deprived.lost l (omega arith) (
              at.0,
              at.1,
              (let P : ℕ → Type 0 = λ x. 0 < code_at c0 x in subst P (sym at.2) stone_there),
              ap (label_of c0) at.2 ∙ touch.2,
            )
        | inr not ↦ unset (word_of c1 l (p / 64)) (p % 64)
            (λ is. not (deprived.less l p (omega arith) (omega arith) is))
      ]

  pub IsPlaced_written : IsPlaced (n * n) (IsAdjacent n) (tables_of c0) (tables_of c6) p colour
  IsPlaced_written = record {
    within = p_in;
    empty = empty;
    some = some;
    colour_is = filled.below p (omega arith) ∙ sized.others p (omega arith) ∙ linked.others p (omega arith)
        ∙ labelled.others p (omega arith) ∙ coloured.at;
    colours = λ q q_in off. before q (omega arith) off (omega arith) (omega arith) (omega arith);
    label_is = filled.below (LABELS + p) (omega arith) ∙ sized.others (LABELS + p) (omega arith)
        ∙ linked.others (LABELS + p) (omega arith) ∙ labelled.at;
    labels = λ q q_in off. before (LABELS + q) (omega arith) (omega arith) (λ e. off (omega arith)) (omega arith)
        (omega arith);
    next_is = filled.below (LINKS + p) (omega arith) ∙ sized.others (LINKS + p) (omega arith) ∙ linked.at;
    nexts = λ q q_in off. before (LINKS + q) (omega arith) (omega arith) (omega arith) (λ e. off (omega arith))
        (omega arith);
    size_is = filled.below (SIZES + p) (omega arith) ∙ sized.at;
    sizes = λ l l_in off. before (SIZES + l) (omega arith) (omega arith) (omega arith) (omega arith)
        (λ e. off (omega arith));
    libs = λ s q stone q_in off.
        let l_in : label_of c0 s < n * n = tidy.head_in s stone in
        lib_kept s q stone q_in ∙ deprived.kept (label_of c0 s) q (omega arith) (omega arith) off;
    lib_lost = λ s stone. lib_kept s p stone p_in ∙ lost s stone;
    lib_is = λ q q_in one.
        let o = marks.only q (omega arith) (sym (own_mark q q_in) ∙ one) in
        (o.1, (let A : ℕ → Type 0 = IsAdjacent n p in subst A o.0.2 (near.are o.0.0 o.0.1)));
    has_lib = λ q q_in none beside_p.
        let at = near.all q beside_p in
        own_mark q q_in ∙ ap (bit_of words) (sym at.2) ∙ marks.are at.0 at.1 (ap (code_at c0) at.2 ∙ none);
  }
