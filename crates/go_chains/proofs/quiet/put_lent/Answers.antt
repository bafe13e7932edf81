use Rattle.std.proofs.Common.{arith, ◌≡◌, inl, inr, sym, subst, ℕ, List, slice_index}
use Rattle.std.proofs.lemmas.Bool.{cases_eq}
use Rattle.go_board.specs.Paths.{IsAdjacent}
use Rattle.go_board.specs.PointSets.{HasPoint}
use Rattle.go_board.specs.lemmas.Squares.{square-le}
use Rattle.go_chains.specs.Cells.{code_at, label_of, lib_of}
use Rattle.go_chains.proofs.quiet.put_lent.Goals as goal

-- the stone has the colour with this code, and the point is a liberty of its chain
abbrev Lends : List ℕ → ℕ → ℕ → ℕ → Type 0
Lends cells own q s = (code_at cells s ≡ own) × (lib_of cells (label_of cells s) q ≡ 1)

pub loop-near-preserved : goal.loop-near-preserved
loop-near-preserved g c =
    let cells = c.args.cells.now.numbers in
    let k = c.loop-near.near-index in
    let kept = c.loop-near.invariant in
    record {
      lent = λ q low. (
        λ set. elim ((c.add_own.ensures.added q low).0 set) [
          | inl was ↦ elim ((kept.lent q low).0 was)
              [ inl empty ↦ inl empty | inr lends ↦ inr (lends.0, omega (arith, lends.1), lends.2, lends.3) ]
          | inr lends ↦ inr (k, omega arith, lends.0, lends.1)
        ],
        λ either. (c.add_own.ensures.added q low).1 (elim either [
          | inl empty ↦ inl ((kept.lent q low).1 (inl empty))
          | inr lends ↦ elim (cases_eq lends.0 k) [
            | inl at ↦ inr (subst (λ (j : ℕ). Lends cells c.args.own q (slice_index c.args.beside.now j)) at
                (lends.2, lends.3))
            | inr off ↦ inl ((kept.lent q low).1 (inr (lends.0, omega (arith, lends.1, off), lends.2, lends.3)))
          ]
        ]),
      );
      count = omega (arith, kept.count, c.add_own.ensures.count);
      onward = omega (arith, kept.onward, c.add_own.ensures.onward);
    }

pub returns-clause-lent : goal.returns-clause-lent
returns-clause-lent g c q low =
    let cells = c.args.cells.now.numbers in
    let left = c.leave_out.ensures q in
    let is = c.loop-near.invariant.lent q low in (
      λ set. (
        (left.0 set).0,
        elim (is.0 (left.0 set).1) [
          | inl empty ↦ inl empty
          | inr lends ↦ inr (
            slice_index c.args.beside.now lends.0,
            c.requires.beside.are lends.0 (omega (arith, lends.1, c.loop-near.auto.near-index-end)),
            lends.2,
            lends.3,
          )
        ],
      ),
      λ both. left.1 (
        both.0,
        is.1 (elim both.1 [
          | inl empty ↦ inl empty
          | inr lends ↦
              let at = c.requires.beside.all lends.0 lends.1 in
              let here = subst (Lends cells c.args.own q) (sym at.2) (lends.2, lends.3) in
              inr (at.0, omega (arith, at.1, c.loop-near-test.false), here.0, here.1)
        ]),
      ),
    )

pub loop-near-init : goal.loop-near-init
loop-near-init g c =
    let cells = c.args.cells.now.numbers in
    let n = c.args.size in
    let beside = c.requires.beside in
    let marks = c.put_empty.ensures.marks in
    let count = c.put_empty.ensures.count in
    let few = beside.few in
    record {
      lent = λ q low. (
        λ set. (let only = marks.only q (omega (arith, low, square-le n (omega arith))) set in
            inl (subst (IsAdjacent n c.args.point) only.0.2 (beside.are only.0.0 only.0.1), only.1)),
        λ either. elim either [
          | inl empty ↦
              let at = beside.all q empty.0 in
              let free = subst (λ (p : ℕ). code_at cells p ≡ 0) (sym at.2) empty.1 in
              subst (HasPoint c.put_empty.new.set) at.2 (marks.are at.0 at.1 free)
          | inr lends ↦ absurd (omega (arith, lends.1))
        ],
      );
      count = omega (arith, count, few);
      onward = omega (arith, count);
    }
