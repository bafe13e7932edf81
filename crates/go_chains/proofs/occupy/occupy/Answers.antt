use Rattle.std.proofs.Common.{arith, ◌<◌, ◌*◌, ℕ, slice_index, subst, sym}
use Rattle.go_board.specs.lemmas.Squares.{square-le}
use Rattle.std.proofs.lemmas.List.{get_or_default}
use Rattle.go_board.specs.Paths.{IsAdjacent}
use Rattle.go_board.specs.declared.size.TheConstants.{MAX_POINTS}
use Rattle.go_chains.specs.Cells.{code_at, label_of}
use Rattle.go_board.specs.PointSets.{words_for}
use Rattle.go_chains.specs.inner.Tables.{tables_of}
use Rattle.go_chains.proofs.writes.Occupying.{IsPlaced_written}
use Rattle.go_chains.proofs.writes.Editing.{Edited_next, Edited_within}
use Rattle.go_chains.proofs.writes.Bounds.{label_small}
use Rattle.go_chains.proofs.occupy.occupy.Goals as goal

pub deprive-requires-clause-labels : goal.deprive-requires-clause-labels
deprive-requires-clause-labels g c k d below =
    let n = c.args.size in
    let same = get_or_default c.args.beside.now k d 0 below in
    let P : ℕ → Type 0 = λ x. 0 < code_at c.args.cells.now.numbers x →
    label_of c.args.cells.now.numbers x < MAX_POINTS in
    subst P (sym same) (λ some. label_small n (IsAdjacent n) (tables_of c.args.cells.now.numbers) (omega arith)
    c.requires.tidy (slice_index c.args.beside.now k)
    ((c.requires.beside.are k below).1, some))

pub returns-clause-occupied : goal.returns-clause-occupied
returns-clause-occupied g c =
    let n = c.args.size in
    IsPlaced_written n (square-le n (omega arith))
    c.args.cells.now.numbers c.deprive.new.cells.numbers c.replace.new.cells.numbers c.put.new.cells.numbers
    c.put-2.new.cells.numbers c.put-3.new.cells.numbers c.fill_words.new.cells.numbers
    c.put_empty.new.set c.args.beside.now c.args.point c.args.colour
    c.requires.tidy c.requires.point c.requires.empty c.requires.colour c.requires.beside c.put_empty.ensures.marks
    c.deprive.ensures.deprived
    c.replace.ensures.written c.put.ensures.written c.put-2.ensures.written c.put-3.ensures.written (words_for (n * n))
    (omega arith) c.fill_words.ensures.filled

pub returns-clause-edited : goal.returns-clause-edited
returns-clause-edited g c =
    let one = Edited_next c.deprive.ensures.edited c.replace.ensures.edited (omega arith) in
    let two = Edited_next one c.put.ensures.edited (omega arith) in
    let three = Edited_next two c.put-2.ensures.edited (omega arith) in
    let four = Edited_next three c.put-3.ensures.edited (omega arith) in
    Edited_within (Edited_next four c.fill_words.ensures.edited (omega arith)) (omega arith) (omega arith) (omega arith)
    (omega arith)
