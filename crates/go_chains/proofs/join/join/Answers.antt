use Rattle.std.proofs.Common.{arith, ◌≡◌, ◌<◌, ◌+◌, ◌*◌, ap, sym, ◌∙◌}
use Rattle.go_board.specs.lemmas.Squares.{square-le}
use Rattle.go_board.specs.Paths.{IsAdjacent}
use Rattle.go_chains.specs.declared.cells.TheConstants.{LINKS, SIZES}
use Rattle.go_chains.specs.Cells.{label_of, size_of}
use Rattle.go_chains.specs.inner.CellSteps.{chain_size}
use Rattle.go_board.specs.PointSets.{words_for}
use Rattle.go_chains.specs.inner.Tables.{tables_of}
use Rattle.go_chains.proofs.writes.Joining.{IsJoin_written}
use Rattle.go_chains.proofs.writes.Editing.{Edited_next, Edited_within}
use Rattle.go_chains.proofs.writes.Bounds.{label_small, ring_small, size_small}
use Rattle.go_chains.proofs.join.join.Goals as goal

pub get-kept_size-requires : goal.get-kept_size-requires
get-kept_size-requires g c =
    let n = c.args.size in
    let h = label_small n (IsAdjacent n) (tables_of c.args.cells.now.numbers) (omega arith) c.requires.tidy c.args.first
    c.requires.first in
    let e = c.get-kept.ensures.value in omega arith

pub get-gone_size-requires : goal.get-gone_size-requires
get-gone_size-requires g c =
    let n = c.args.size in
    let h = label_small n (IsAdjacent n) (tables_of c.args.cells.now.numbers) (omega arith) c.requires.tidy
    c.args.second c.requires.second in
    let e = c.get-gone.ensures.value in omega arith

pub relabel-requires-clause-on : goal.relabel-requires-clause-on
relabel-requires-clause-on g c i below =
    let n = c.args.size in
    let is : c.get-gone_size.result ≡ size_of c.args.cells.now.numbers
    (label_of c.args.cells.now.numbers c.args.second) =
    c.get-gone_size.ensures.value ∙ ap (size_of c.args.cells.now.numbers) c.get-gone.ensures.value in
    ring_small n (IsAdjacent n) (tables_of c.args.cells.now.numbers) (omega arith) c.requires.tidy c.args.second
    c.requires.second i (omega arith)

pub overflow_add-gone_size : goal.overflow_add-gone_size
overflow_add-gone_size g c =
    let n = c.args.size in
    let is : c.get-gone_size.result ≡ size_of c.args.cells.now.numbers
    (label_of c.args.cells.now.numbers c.args.second) =
    c.get-gone_size.ensures.value ∙ ap (size_of c.args.cells.now.numbers) c.get-gone.ensures.value in
    let first_is : c.get-kept_size.result ≡ size_of c.args.cells.now.numbers
    (label_of c.args.cells.now.numbers c.args.first) = c.get-kept_size.ensures.value
    ∙ ap (size_of c.args.cells.now.numbers) c.get-kept.ensures.value in
    let a = size_small n (IsAdjacent n) (tables_of c.args.cells.now.numbers) (omega arith) c.requires.tidy c.args.second
    c.requires.second in
    let b = size_small n (IsAdjacent n) (tables_of c.args.cells.now.numbers) (omega arith) c.requires.tidy c.args.first
    c.requires.first in
    omega arith

pub get-first_next-requires : goal.get-first_next-requires
get-first_next-requires g c =
    let n = c.args.size in
    let s = square-le n (omega arith) in
    let below : c.args.first < n * n = c.requires.first.0 in omega arith

pub replace-requires-2-clause-old : goal.replace-requires-2-clause-old
replace-requires-2-clause-old g c =
    let apart = λ (e : LINKS + c.args.second ≡ LINKS + c.args.first).
    c.requires.apart (ap (label_of c.args.cells.now.numbers)
    (let same : c.args.first ≡ c.args.second = omega (arith, e) in same)) in
    c.get-second_next.ensures.value ∙ sym (c.replace.ensures.written.others (LINKS + c.args.second) apart)

pub replace-requires-3-clause-place : goal.replace-requires-3-clause-place
replace-requires-3-clause-place g c =
    let n = c.args.size in
    let h = label_small n (IsAdjacent n) (tables_of c.args.cells.now.numbers) (omega arith) c.requires.tidy c.args.first
    c.requires.first in
    let e = c.get-kept.ensures.value in omega arith

pub replace-requires-3-clause-old : goal.replace-requires-3-clause-old
replace-requires-3-clause-old g c =
    let n = c.args.size in
    let k = SIZES + c.get-kept.result in
    let s = square-le n (omega arith) in
    let first_below : c.args.first < n * n = c.requires.first.0 in let second_below : c.args.second < n * n =
    c.requires.second.0 in
    c.get-kept_size.ensures.value ∙ sym (c.replace-2.ensures.written.others k (omega arith)
    ∙ c.replace.ensures.written.others k (omega arith) ∙ c.relabel.ensures.relabelled.high k (omega arith))

pub merge_words-requires-clause-kept : goal.merge_words-requires-clause-kept
merge_words-requires-clause-kept g c =
    let n = c.args.size in
    let h = label_small n (IsAdjacent n) (tables_of c.args.cells.now.numbers) (omega arith) c.requires.tidy c.args.first
    c.requires.first in
    let e = c.get-kept.ensures.value in omega arith

pub merge_words-requires-clause-gone : goal.merge_words-requires-clause-gone
merge_words-requires-clause-gone g c =
    let n = c.args.size in
    let h = label_small n (IsAdjacent n) (tables_of c.args.cells.now.numbers) (omega arith) c.requires.tidy
    c.args.second c.requires.second in
    let e = c.get-gone.ensures.value in omega arith

pub returns-clause-joined : goal.returns-clause-joined
returns-clause-joined g c =
    let n = c.args.size in
    IsJoin_written (n * n) (IsAdjacent n) (square-le n (omega arith))
    c.args.cells.now.numbers c.relabel.new.cells.numbers c.replace.new.cells.numbers c.replace-2.new.cells.numbers
    c.replace-3.new.cells.numbers c.merge_words.new.cells.numbers
    c.args.first c.args.second c.get-kept.result c.get-gone.result c.get-kept_size.result c.get-gone_size.result
    c.get-first_next.result c.get-second_next.result
    c.requires.tidy c.requires.first c.requires.second c.requires.same c.requires.apart
    c.get-kept.ensures.value c.get-gone.ensures.value c.get-kept_size.ensures.value c.get-gone_size.ensures.value
    c.relabel.ensures.relabelled c.get-first_next.ensures.value c.get-second_next.ensures.value
    c.replace.ensures.written c.replace-2.ensures.written c.replace-3.ensures.written (words_for (n * n)) (omega arith)
    c.merge_words.ensures.merged

pub returns-clause-edited : goal.returns-clause-edited
returns-clause-edited g c =
    let k = c.get-gone_size.result in
    let is : k ≡ chain_size c.args.cells.now.numbers c.args.second = c.get-gone_size.ensures.value
    ∙ ap (size_of c.args.cells.now.numbers) c.get-gone.ensures.value in
    let one = Edited_next c.relabel.ensures.edited c.replace.ensures.edited (omega arith) in
    let two = Edited_next one c.replace-2.ensures.edited (omega arith) in
    let three = Edited_next two c.replace-3.ensures.edited (omega arith) in
    Edited_within (Edited_next three c.merge_words.ensures.edited (omega arith)) (omega arith) (omega arith)
    (omega arith) (omega arith)
