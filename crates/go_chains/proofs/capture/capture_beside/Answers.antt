use Rattle.std.proofs.Common.{arith, ◌≡◌, ◌*◌, ℕ, subst, inl, inr, slice_index}
use Rattle.std.proofs.lemmas.Bool.{cases_lt}
use Rattle.go_board.specs.Paths.{IsAdjacent}
use Rattle.go_chains.specs.Cells.{code_at, label_of}
use Rattle.go_chains.specs.inner.Tables.{IsDead, tables_of}
use Rattle.go_chains.proofs.tables.Capturing.{IsCapturing_none}
use Rattle.go_chains.proofs.writes.Editing.{Edited_then}
use Rattle.go_chains.proofs.tables.Taking.{counts_then, stays_empty, still_dead, still_two}
use Rattle.go_chains.proofs.capture.capture_beside.Goals as goal

pub capture_if_dead-stones-requires-clause-colours : goal.capture_if_dead-stones-requires-clause-colours
capture_if_dead-stones-requires-clause-colours g c =
    let n = c.args.size in
    let colours = c.requires.colours in
    record {
      taken_some = colours.taken_some;
      rest_some = colours.rest_some;
      apart = colours.apart;
      two = still_two (n * n) (IsAdjacent n) (tables_of c.args.cells.now.numbers) (tables_of c.loop-near.cells.numbers)
          c.args.captured_code c.args.freed_code c.loop-near.invariant.capturing colours.two;
    }

pub loop-near-preserved : goal.loop-near-preserved
loop-near-preserved g c =
    let n = c.args.size in
    let old = c.args.cells.now.numbers in
    let mid = c.loop-near.cells.numbers in
    let new = c.capture_if_dead-stones.new.cells.numbers in
    let inv = c.loop-near.invariant in
    let one = c.capture_if_dead-stones.ensures in
    let i = c.loop-near.near-index in
    let j = c.loop-near.stones in
    let k = c.capture_if_dead-stones.result in
    let own = c.args.captured_code in
    let after = one.capturing (tables_of mid) inv.capturing.tidy
    (IsCapturing_none (n * n) (IsAdjacent n) (tables_of mid) own inv.capturing.tidy inv.capturing.whole) in
    record {
      capturing = one.capturing (tables_of old) c.requires.tidy inv.capturing;
      gone = λ x below is dead.
          let point = slice_index c.args.beside.now x in
          let point_in = c.requires.on x (let t = c.loop-near-test.true in omega arith) in
          elim (cases_lt x i) [
            | inl before ↦ stays_empty (n * n) (IsAdjacent n) (tables_of mid) (tables_of new) own point after point_in
                (inv.gone x before is dead)
            | inr last ↦
                let e : i ≡ x = omega arith in
                let P : ℕ → Type 0 = λ y. code_at mid (slice_index c.args.beside.now y) ≡ own →
                IsDead (n * n) (tables_of mid) (label_of mid (slice_index c.args.beside.now y)) →
                code_at new (slice_index c.args.beside.now y) ≡ 0 in
                still_dead (n * n) (IsAdjacent n) (tables_of old) (tables_of mid) (tables_of new) own point
                c.requires.colours.taken_some inv.capturing after point_in is dead (subst P e one.gone)
          ];
      stones = counts_then (n * n) (IsAdjacent n) (tables_of old) (tables_of mid) (tables_of new) own j k
          c.requires.colours.taken_some inv.capturing after inv.stones one.stones;
      few = let e = inv.few in let f = one.few in omega arith;
      edited = Edited_then inv.edited one.edited (omega arith) (omega arith) (omega arith);
    }
