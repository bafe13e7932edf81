use Rattle.std.proofs.Common.{arith, ◌≡◌, ◌+◌, ℕ, ap, sym, ◌∙◌, subst}
use Rattle.go_board.specs.lemmas.Squares.{square-le}
use Rattle.go_board.specs.Paths.{IsAdjacent}
use Rattle.go_chains.specs.declared.cells.TheConstants.{LINKS}
use Rattle.go_chains.specs.Cells.{label_of, next_of, size_of}
use Rattle.go_chains.specs.inner.Tables.{tables_of}
use Rattle.go_chains.specs.inner.Writes.{IsRingLifted}
use Rattle.go_chains.proofs.writes.Lifting.{IsRemoved_ring, IsRingLifted_more, is_next, ring_point}
use Rattle.go_chains.proofs.writes.Editing.{Edited_then}
use Rattle.go_chains.proofs.tables.Rings.{steps-add}
use Rattle.go_chains.proofs.writes.Bounds.{label_small, size_small}
use Rattle.go_chains.proofs.lift.take_off.Goals as goal

pub get-stones-requires : goal.get-stones-requires
get-stones-requires g c =
    let n = c.args.size in
    let h = label_small n (IsAdjacent n) (tables_of c.args.cells.now.numbers) (omega arith) c.requires.tidy c.args.stone
    c.requires.stone in
    let e = c.get-label.ensures.value in omega arith

pub overflow_add-at : goal.overflow_add-at
overflow_add-at g c =
    let n = c.args.size in
    let old = c.args.cells.now.numbers in
    let is : c.get-stones.result ≡ size_of old (label_of old c.args.stone) = c.get-stones.ensures.value
    ∙ ap (size_of old) c.get-label.ensures.value in
    let t = c.loop-test.true in
    let s = square-le n (omega arith) in
    let next = is_next n old c.loop.cells.numbers c.args.stone c.args.captured_code c.args.freed_code c.loop.counter c.loop.at s
    c.requires.rest c.requires.apart c.requires.tidy c.requires.stone c.requires.taken (omega arith)
    c.loop.invariant.at c.loop.invariant.lifted in
    let h = next.inside in omega arith

pub get-next-requires : goal.get-next-requires
get-next-requires g c =
    let n = c.args.size in
    let old = c.args.cells.now.numbers in
    let is : c.get-stones.result ≡ size_of old (label_of old c.args.stone) = c.get-stones.ensures.value
    ∙ ap (size_of old) c.get-label.ensures.value in
    let t = c.loop-test.true in
    let s = square-le n (omega arith) in
    let next = is_next n old c.loop.cells.numbers c.args.stone c.args.captured_code c.args.freed_code c.loop.counter c.loop.at s
    c.requires.rest c.requires.apart c.requires.tidy c.requires.stone c.requires.taken (omega arith)
    c.loop.invariant.at c.loop.invariant.lifted in
    let h = next.inside in omega arith

pub lift-requires-clause-point : goal.lift-requires-clause-point
lift-requires-clause-point g c =
    let n = c.args.size in
    let old = c.args.cells.now.numbers in
    let is : c.get-stones.result ≡ size_of old (label_of old c.args.stone) = c.get-stones.ensures.value
    ∙ ap (size_of old) c.get-label.ensures.value in
    let t = c.loop-test.true in
    (is_next n old c.loop.cells.numbers c.args.stone c.args.captured_code c.args.freed_code c.loop.counter c.loop.at
    (square-le n (omega arith)) c.requires.rest c.requires.apart c.requires.tidy c.requires.stone c.requires.taken
    (omega arith) c.loop.invariant.at c.loop.invariant.lifted).inside

pub lift-requires-clause-taken : goal.lift-requires-clause-taken
lift-requires-clause-taken g c =
    let n = c.args.size in
    let old = c.args.cells.now.numbers in
    let is : c.get-stones.result ≡ size_of old (label_of old c.args.stone) = c.get-stones.ensures.value
    ∙ ap (size_of old) c.get-label.ensures.value in
    let t = c.loop-test.true in
    (is_next n old c.loop.cells.numbers c.args.stone c.args.captured_code c.args.freed_code c.loop.counter c.loop.at
    (square-le n (omega arith)) c.requires.rest c.requires.apart c.requires.tidy c.requires.stone c.requires.taken
    (omega arith) c.loop.invariant.at c.loop.invariant.lifted).own_is

pub lift-requires-clause-labels : goal.lift-requires-clause-labels
lift-requires-clause-labels g c =
    let n = c.args.size in
    let old = c.args.cells.now.numbers in
    let is : c.get-stones.result ≡ size_of old (label_of old c.args.stone) = c.get-stones.ensures.value
    ∙ ap (size_of old) c.get-label.ensures.value in
    let t = c.loop-test.true in
    (is_next n old c.loop.cells.numbers c.args.stone c.args.captured_code c.args.freed_code c.loop.counter c.loop.at
    (square-le n (omega arith)) c.requires.rest c.requires.apart c.requires.tidy c.requires.stone c.requires.taken
    (omega arith) c.loop.invariant.at c.loop.invariant.lifted).labels

pub lift-requires-clause-room : goal.lift-requires-clause-room
lift-requires-clause-room g c =
    let n = c.args.size in
    let old = c.args.cells.now.numbers in
    let is : c.get-stones.result ≡ size_of old (label_of old c.args.stone) = c.get-stones.ensures.value
    ∙ ap (size_of old) c.get-label.ensures.value in
    let few = size_small n (IsAdjacent n) (tables_of old) (omega arith) c.requires.tidy c.args.stone c.requires.stone in
    let t = c.loop-test.true in let r = c.requires.room in let l = c.loop.invariant.edited.length in let k =
    c.loop.invariant.edited.capacity in omega arith

pub loop-preserved : goal.loop-preserved
loop-preserved g c =
    let n = c.args.size in
    let old = c.args.cells.now.numbers in
    let i = c.loop.counter in
    let inv = c.loop.invariant in
    let is : c.get-stones.result ≡ size_of old (label_of old c.args.stone) = c.get-stones.ensures.value
    ∙ ap (size_of old) c.get-label.ensures.value in
    let t = c.loop-test.true in
    let small = square-le n (omega arith) in
    let next = is_next n old c.loop.cells.numbers c.args.stone c.args.captured_code c.args.freed_code i c.loop.at small
    c.requires.rest c.requires.apart c.requires.tidy c.requires.stone c.requires.taken (omega arith) inv.at
    inv.lifted in
    let at_in = next.inside in
    record {
      at = c.get-next.ensures.value ∙ inv.lifted.above (LINKS + c.loop.at) (omega arith) (omega arith)
          ∙ ap (next_of old) inv.at ∙ sym (steps-add (next_of old) i 1 c.args.stone);
      lifted = IsRingLifted_more n (next_of old) old c.loop.cells.numbers c.lift.new.cells.numbers c.args.stone i
          c.args.freed_code c.loop.at small c.requires.rest inv.at
          (λ j below. (ring_point n old c.args.stone c.args.captured_code c.requires.tidy c.requires.stone c.requires.taken j
          (omega arith)).0) next.apart_of inv.lifted c.lift.ensures.lifted;
      edited = Edited_then inv.edited c.lift.ensures.edited (omega arith) (omega arith) (omega arith);
    }

pub returns-clause-removed : goal.returns-clause-removed
returns-clause-removed g c =
    let n = c.args.size in
    let old = c.args.cells.now.numbers in
    let is : c.get-stones.result ≡ size_of old (label_of old c.args.stone) = c.get-stones.ensures.value
    ∙ ap (size_of old) c.get-label.ensures.value in
    let end : c.loop.counter ≡ size_of old (label_of old c.args.stone) =
    (let a = c.loop-test.false in let b = c.loop.auto.counter-end in omega arith) in
    let P : ℕ → Type 0 = λ k. IsRingLifted n (next_of old) old c.loop.cells.numbers c.args.stone k c.args.freed_code in
    IsRemoved_ring n old c.loop.cells.numbers c.args.stone c.args.captured_code c.args.freed_code (square-le n (omega arith))
    c.requires.rest c.requires.tidy c.requires.whole c.requires.stone c.requires.taken c.requires.two
    (subst P end c.loop.invariant.lifted)
