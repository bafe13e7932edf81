use Rattle.std.proofs.Common.{◌≡◌, [], ◌++◌, ℕ, List, sym, ap, subst, ◌∙◌, append_assoc, length, arith}
use Rattle.std.proofs.lemmas.List.{append-nil}
use Rattle.go_board.specs.Pens.{Writes}
use Rattle.go_board.specs.lemmas.Writing.{writes_writes}
use Rattle.go_sgf.specs.inner.Tidied.{Outside, rest_from, tidied_from}
use Rattle.go_sgf.specs.Spelling.{without_space}
use Rattle.go_sgf.proofs.Parts.{length-after_space}
use Rattle.go_sgf.proofs.Passed.{after_closed, after_end, tidied_closed, tidied_end}
use Rattle.go_sgf.proofs.writer.put_tree.Goals as goal

pub returns-in_default-clause-written : goal.returns-in_default-clause-written
returns-in_default-clause-written g c =
    let i = c.loop-depth.invariant in
    let skip = c.after_left_out.ensures in
    let none = c.in_default.ensures.none skip.stopped c.loop-depth-test.true in
    let last : tidied_from Outside c.loop-depth.depth c.loop-depth.rest.now ≡ [] =
    skip.written c.loop-depth.depth c.loop-depth-test.true ∙ ap (tidied_from Outside c.loop-depth.depth) none
    ∙ tidied_end Outside c.loop-depth.depth in
    subst (λ (xs : List ℕ). Writes g.W.Sink c.args.pen.now c.loop-depth.pen xs)
    (sym (i.written.2 ∙ ap (λ xs. i.written.0 ++ xs) last ∙ append-nil i.written.0)) i.written.1

pub returns-in_default-clause-rest : goal.returns-in_default-clause-rest
returns-in_default-clause-rest g c =
    let i = c.loop-depth.invariant in
    let skip = c.after_left_out.ensures in
    let none = c.in_default.ensures.none skip.stopped c.loop-depth-test.true in
    sym (ap without_space (i.after ∙ skip.after c.loop-depth.depth c.loop-depth-test.true
    ∙ ap (rest_from Outside c.loop-depth.depth) none ∙ after_end Outside c.loop-depth.depth))

pub loop-depth-preserved : goal.loop-depth-preserved
loop-depth-preserved g c =
    let i = c.loop-depth.invariant in
    let skip = c.after_left_out.ensures in
    let piece = c.in-Some.ensures in
    let prefix = c.in-Some.prefix.now in
    record {
      written = (
        i.written.0 ++ prefix,
        writes_writes i.written.1 c.put.ensures,
        i.written.2
            ∙ ap (λ xs. i.written.0 ++ xs) (skip.written c.loop-depth.depth c.loop-depth-test.true ∙ piece.written)
            ∙ sym (append_assoc i.written.0 prefix (tidied_from Outside c.in-Some.open c.in-Some.more.now)),
      );
      after = i.after ∙ skip.after c.loop-depth.depth c.loop-depth-test.true ∙ piece.after;
      shorter = omega (arith, i.shorter, skip.shorter, piece.shorter);
      bound = omega (arith, i.bound, skip.shorter, piece.bound);
    }

pub returns-clause-written : goal.returns-clause-written
returns-clause-written g c =
    let i = c.loop-depth.invariant in
    let last = ap (λ d. tidied_from Outside d c.loop-depth.rest.now) c.loop-depth-test.false
    ∙ tidied_closed c.loop-depth.rest.now in
    subst (λ (xs : List ℕ). Writes g.W.Sink c.args.pen.now c.loop-depth.pen xs)
    (sym (i.written.2 ∙ ap (λ xs. i.written.0 ++ xs) last ∙ append-nil i.written.0)) i.written.1

pub returns-clause-rest : goal.returns-clause-rest
returns-clause-rest g c =
    let i = c.loop-depth.invariant in
    c.after_space.ensures
    ∙ sym (ap without_space (i.after ∙ ap (λ d. rest_from Outside d c.loop-depth.rest.now) c.loop-depth-test.false
    ∙ after_closed c.loop-depth.rest.now))

pub returns-clause-shorter : goal.returns-clause-shorter
returns-clause-shorter g c =
    omega (
      arith,
      c.loop-depth.invariant.shorter,
      length-after_space c.loop-depth.rest.now,
      ap (λ (b : List ℕ). length b) c.after_space.ensures,
    )
