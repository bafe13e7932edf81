use Rattle.std.proofs.Common.{arith, ◌*◌, inl, inr, sym}
use Rattle.go_board.specs.Paths.{IsAdjacent}
use Rattle.go_chains.specs.inner.Tables.{tables_of}
use Rattle.go_chains.specs.Playing.{stones_beside, stones_captured}
use Rattle.go_chains.specs.Boards.{colouring_of}
use Rattle.go_chains.proofs.rules.Sound.{tidy-kept}
use Rattle.go_chains.proofs.writes.Editing.{Edited_next, Edited_within}
use Rattle.go_chains.proofs.writes.Neighbours.{apart, inside}
use Rattle.go_chains.proofs.tables.Occupying.{IsTidy-occupied}
use Rattle.go_chains.proofs.rules.Placing.{begins, differ, joins, kept_end, moved_end, own_end, size_end, size_then, taken_end, takes, theirs_end, two_then, whole_of}
use Rattle.go_chains.proofs.tables.Taking.{still_two}
use Rattle.go_chains.proofs.place.place.Goals as goal

pub occupy-requires-clause-tidy : goal.occupy-requires-clause-tidy
occupy-requires-clause-tidy g c = tidy-kept c.args.size c.args.cells.now.numbers c.requires.kept

pub connect-requires-clause-tidy : goal.connect-requires-clause-tidy
connect-requires-clause-tidy g c =
    let n = c.args.size in
    IsTidy-occupied (n * n) (IsAdjacent n) (inside n) (apart n) (tables_of c.args.cells.now.numbers)
    (tables_of c.occupy.new.cells.numbers) c.args.point c.code-own_code.result
    (tidy-kept n c.args.cells.now.numbers c.requires.kept) c.occupy.ensures.occupied

pub capture_beside-captured-requires-clause-whole : goal.capture_beside-captured-requires-clause-whole
capture_beside-captured-requires-clause-whole g c =
    let b = begins c.requires.kept c.requires.point c.requires.empty c.code-own_code.ensures.value c.code-own_code.ensures.range
    c.other.ensures c.code-other_code.ensures.value c.code-other_code.ensures.range in
    let j = joins c.requires.beside c.occupy.ensures.occupied c.connect.ensures.connected c.connect.ensures.tidy in
    whole_of b j

pub capture_beside-captured-requires-clause-colours : goal.capture_beside-captured-requires-clause-colours
capture_beside-captured-requires-clause-colours g c =
    let b = begins c.requires.kept c.requires.point c.requires.empty c.code-own_code.ensures.value c.code-own_code.ensures.range
    c.other.ensures c.code-other_code.ensures.value c.code-other_code.ensures.range in
    let j = joins c.requires.beside c.occupy.ensures.occupied c.connect.ensures.connected c.connect.ensures.tidy in
    record {
      taken_some = b.theirs_range.0;
      rest_some = b.own_range.0;
      apart = differ b;
      two = two_then b j;
    }

pub capture_if_dead-suicide-requires-clause-colours : goal.capture_if_dead-suicide-requires-clause-colours
capture_if_dead-suicide-requires-clause-colours g c =
    let b = begins c.requires.kept c.requires.point c.requires.empty c.code-own_code.ensures.value c.code-own_code.ensures.range
    c.other.ensures c.code-other_code.ensures.value c.code-other_code.ensures.range in
    let j = joins c.requires.beside c.occupy.ensures.occupied c.connect.ensures.connected c.connect.ensures.tidy in
    let n = c.args.size in
    record {
      taken_some = b.own_range.0;
      rest_some = b.theirs_range.0;
      apart = λ same. differ b (sym same);
      two = (λ s stone. elim (still_two (n * n) (IsAdjacent n) (tables_of c.connect.new.cells.numbers)
          (tables_of c.capture_beside-captured.new.cells.numbers) c.code-other_code.result c.code-own_code.result
          c.capture_beside-captured.ensures.capturing (two_then b j) s stone) [
            | inl is ↦ inr is
            | inr is ↦ inl is
          ]);
    }

pub returns-clause-kept : goal.returns-clause-kept
returns-clause-kept g c =
    let b = begins c.requires.kept c.requires.point c.requires.empty c.code-own_code.ensures.value c.code-own_code.ensures.range
    c.other.ensures c.code-other_code.ensures.value c.code-other_code.ensures.range in
    let j = joins c.requires.beside c.occupy.ensures.occupied c.connect.ensures.connected c.connect.ensures.tidy in
    let t = takes c.capture_beside-captured.ensures.capturing c.capture_beside-captured.ensures.gone
    c.capture_if_dead-suicide.ensures.capturing
    c.capture_if_dead-suicide.ensures.gone in
    kept_end b j t

pub returns-clause-colours : goal.returns-clause-colours
returns-clause-colours g c =
    let b = begins c.requires.kept c.requires.point c.requires.empty c.code-own_code.ensures.value c.code-own_code.ensures.range
    c.other.ensures c.code-other_code.ensures.value c.code-other_code.ensures.range in
    let j = joins c.requires.beside c.occupy.ensures.occupied c.connect.ensures.connected c.connect.ensures.tidy in
    let t = takes c.capture_beside-captured.ensures.capturing c.capture_beside-captured.ensures.gone
    c.capture_if_dead-suicide.ensures.capturing
    c.capture_if_dead-suicide.ensures.gone in
    moved_end b j t c.reaches_by_a_path.ensures

pub returns-clause-theirs : goal.returns-clause-theirs
returns-clause-theirs g c =
    let b = begins c.requires.kept c.requires.point c.requires.empty c.code-own_code.ensures.value c.code-own_code.ensures.range
    c.other.ensures c.code-other_code.ensures.value c.code-other_code.ensures.range in
    let j = joins c.requires.beside c.occupy.ensures.occupied c.connect.ensures.connected c.connect.ensures.tidy in
    let t = takes c.capture_beside-captured.ensures.capturing c.capture_beside-captured.ensures.gone
    c.capture_if_dead-suicide.ensures.capturing
    c.capture_if_dead-suicide.ensures.gone in
    theirs_end b j t c.capture_beside-captured.result c.capture_beside-captured.ensures.stones

pub returns-clause-own : goal.returns-clause-own
returns-clause-own g c =
    let b = begins c.requires.kept c.requires.point c.requires.empty c.code-own_code.ensures.value c.code-own_code.ensures.range
    c.other.ensures c.code-other_code.ensures.value c.code-other_code.ensures.range in
    let j = joins c.requires.beside c.occupy.ensures.occupied c.connect.ensures.connected c.connect.ensures.tidy in
    let t = takes c.capture_beside-captured.ensures.capturing c.capture_beside-captured.ensures.gone
    c.capture_if_dead-suicide.ensures.capturing
    c.capture_if_dead-suicide.ensures.gone in
    own_end b j t c.capture_if_dead-suicide.result c.capture_if_dead-suicide.ensures.stones

pub returns-clause-edited : goal.returns-clause-edited
returns-clause-edited g c =
    let b = begins c.requires.kept c.requires.point c.requires.empty c.code-own_code.ensures.value c.code-own_code.ensures.range
    c.other.ensures c.code-other_code.ensures.value c.code-other_code.ensures.range in
    let j = joins c.requires.beside c.occupy.ensures.occupied c.connect.ensures.connected c.connect.ensures.tidy in
    let t = takes c.capture_beside-captured.ensures.capturing c.capture_beside-captured.ensures.gone
    c.capture_if_dead-suicide.ensures.capturing
    c.capture_if_dead-suicide.ensures.gone in
    let n = c.args.size in
    let old = colouring_of n c.args.cells.now.numbers in
    let m = stones_beside n old c.args.colour c.args.point in
    let taken = stones_captured n old c.args.colour c.args.point in
    let joined = size_then b j c.joined_by_a_path.ensures in
    let captured = size_end b j t c.joined_by_a_path.ensures in
    let taken_is = taken_end b j t c.reaches_by_a_path.ensures c.capture_beside-captured.result
    (theirs_end b j t c.capture_beside-captured.result c.capture_beside-captured.ensures.stones) in
    let bound = c.capture_if_dead-suicide.ensures.bound in
    let one = Edited_next c.occupy.ensures.edited c.connect.ensures.edited (omega arith) in
    let two = Edited_next one c.capture_beside-captured.ensures.edited (omega arith) in
    Edited_within (Edited_next two c.capture_if_dead-suicide.ensures.edited (omega arith)) (omega arith) (omega arith)
    (omega arith) (omega arith)
