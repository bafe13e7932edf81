use Rattle.std.proofs.Common.{arith, ◌*◌, slice_index, refl}
use Rattle.go_chains.specs.inner.Tables.{tables_of}
use Rattle.go_chains.proofs.tables.Connecting.{IsConnectedTo_more}
use Rattle.go_chains.proofs.writes.Editing.{Edited_then}
use Rattle.go_chains.proofs.writes.Bounds.{size_still}
use Rattle.go_chains.proofs.connect.connect.Goals as goal

pub connect_one-requires-clause-room : goal.connect_one-requires-clause-room
connect_one-requires-clause-room g c =
    let n = c.args.size in
    let inv = c.loop-near.invariant in
    let few = size_still n c.args.cells.now.numbers c.loop-near.cells.numbers c.args.point (omega arith) inv.tidy
    c.requires.stone inv.connected.colours in
    let e = inv.edited.length in let t = c.loop-near-test.true in let h = c.requires.beside in omega arith

pub loop-near-preserved : goal.loop-near-preserved
loop-near-preserved g c =
    let n = c.args.size in
    let old = c.args.cells.now.numbers in
    let mid = c.loop-near.cells.numbers in
    let new = c.connect_one.new.cells.numbers in
    let i = c.loop-near.near-index in
    let inv = c.loop-near.invariant in
    let one = c.connect_one.ensures in
    let first = inv.connected.grows in
    let then = one.connected.grows in
    let at = c.args.point in
    record {
      tidy = one.tidy;
      connected = IsConnectedTo_more (n * n) (tables_of old) (tables_of mid) (tables_of new) at c.args.beside.now i
          (slice_index c.args.beside.now i) c.requires.stone
          (λ j below. (c.requires.beside.are j (let t = c.loop-near-test.true in omega arith)).1) refl inv.connected
          one.connected;
      edited = Edited_then inv.edited one.edited (omega arith) (omega arith) (omega arith);
    }

pub returns-clause-few : goal.returns-clause-few
returns-clause-few g c =
    let inv = c.loop-near.invariant in
    size_still c.args.size c.args.cells.now.numbers c.loop-near.cells.numbers c.args.point (omega arith) inv.tidy
    c.requires.stone inv.connected.colours
