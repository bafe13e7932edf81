use Rattle.std.proofs.Common.{arith, ◌≡◌, ◌<◌, ◌≤◌, ◌*◌, ℕ, ap, sym, ◌∙◌, List}
use Rattle.go_board.specs.Paths.{IsAdjacent}
use Rattle.go_board.specs.declared.size.TheConstants.{MAX_LINES, MAX_POINTS}
use Rattle.go_chains.specs.Cells.{code_at, label_of, size_of}
use Rattle.go_chains.specs.inner.CellSteps.{chain_size}
use Rattle.go_chains.specs.inner.Tables.{IsStone, IsTidy, tables_of}
use Rattle.go_chains.proofs.tables.Connecting.{IsConnected-first, IsConnected-second, beside_stone, grown-second}
use Rattle.go_chains.proofs.writes.Editing.{Edited_none, Edited_within}
use Rattle.go_chains.proofs.tables.Joining.{IsTidy-join}
use Rattle.go_board.specs.lemmas.Paths.{flip}
use Rattle.go_chains.proofs.writes.Neighbours.{inside}
use Rattle.go_chains.proofs.writes.Bounds.{label_small, size_small}
use Rattle.go_chains.proofs.connect.connect_one.Goals as goal

near_small : (n : ℕ) (cells : List ℕ) (point near a b : ℕ) → n ≤ MAX_LINES →
    IsTidy (n * n) (IsAdjacent n) (tables_of cells) → IsStone (n * n) (tables_of cells) point → IsAdjacent n point near
    → a ≡ code_at cells near → b ≡ code_at cells point → a ≡ b
    → IsStone (n * n) (tables_of cells) near × (label_of cells near < MAX_POINTS)
    × (size_of cells (label_of cells near) ≤ MAX_POINTS) × (label_of cells point < MAX_POINTS)
    × (size_of cells (label_of cells point) ≤ MAX_POINTS)
near_small n cells point near a b small tidy stone beside a_is b_is same =
    let s = beside_stone (n * n) (tables_of cells) point near stone beside.1 (sym a_is ∙ same ∙ b_is) in (
      s,
      label_small n (IsAdjacent n) (tables_of cells) small tidy near s,
      size_small n (IsAdjacent n) (tables_of cells) small tidy near s,
      label_small n (IsAdjacent n) (tables_of cells) small tidy point stone,
      size_small n (IsAdjacent n) (tables_of cells) small tidy point stone,
    )

pub get-requires-3 : goal.get-requires-3
get-requires-3 g c =
    let s = near_small c.args.size c.args.cells.now.numbers c.args.point c.args.near c.get.result c.get-2.result
    (omega arith) c.requires.tidy c.requires.stone c.requires.beside c.get.ensures.value c.get-2.ensures.value
    c.if-get.false in
    let e = c.get-there.ensures.value in let h = s.1 in omega arith

pub get-requires-4 : goal.get-requires-4
get-requires-4 g c =
    let s = near_small c.args.size c.args.cells.now.numbers c.args.point c.args.near c.get.result c.get-2.result
    (omega arith) c.requires.tidy c.requires.stone c.requires.beside c.get.ensures.value c.get-2.ensures.value
    c.if-get.false in
    let e = c.get-here.ensures.value in let h = s.3 in omega arith

pub join-requires-clause-room : goal.join-requires-clause-room
join-requires-clause-room g c =
    let s = near_small c.args.size c.args.cells.now.numbers c.args.point c.args.near c.get.result c.get-2.result
    (omega arith) c.requires.tidy c.requires.stone c.requires.beside c.get.ensures.value c.get-2.ensures.value
    c.if-get.false in
    let h = s.2 in let r = c.requires.room in omega arith

pub join-requires-else-get-2-clause-room : goal.join-requires-else-get-2-clause-room
join-requires-else-get-2-clause-room g c =
    let s = near_small c.args.size c.args.cells.now.numbers c.args.point c.args.near c.get.result c.get-2.result
    (omega arith) c.requires.tidy c.requires.stone c.requires.beside c.get.ensures.value c.get-2.ensures.value
    c.if-get.false in
    let h = s.4 in let r = c.requires.room in omega arith

pub returns-then-there-here-clause-edited : goal.returns-then-there-here-clause-edited
returns-then-there-here-clause-edited g c = Edited_none (omega arith) (omega arith)

pub returns-then-get-2-clause-tidy : goal.returns-then-get-2-clause-tidy
returns-then-get-2-clause-tidy g c =
    let n = c.args.size in
    IsTidy-join (n * n) (IsAdjacent n) (flip n) (inside n) (tables_of c.args.cells.now.numbers)
    (tables_of c.join.new.cells.numbers) c.args.point c.args.near c.requires.tidy c.join.ensures.joined
    c.requires.beside

pub returns-then-get-2-clause-connected : goal.returns-then-get-2-clause-connected
returns-then-get-2-clause-connected g c =
    let n = c.args.size in
    IsConnected-first (n * n) (tables_of c.args.cells.now.numbers) (tables_of c.join.new.cells.numbers) c.args.point
    c.args.near c.join.ensures.joined

pub returns-else-get-2-clause-tidy : goal.returns-else-get-2-clause-tidy
returns-else-get-2-clause-tidy g c =
    let n = c.args.size in
    IsTidy-join (n * n) (IsAdjacent n) (flip n) (inside n) (tables_of c.args.cells.now.numbers)
    (tables_of c.join-else-get-2.new.cells.numbers) c.args.near c.args.point c.requires.tidy
    c.join-else-get-2.ensures.joined (flip n c.args.point c.args.near c.requires.beside)

pub returns-else-get-2-clause-connected : goal.returns-else-get-2-clause-connected
returns-else-get-2-clause-connected g c =
    let n = c.args.size in
    IsConnected-second (n * n) (tables_of c.args.cells.now.numbers) (tables_of c.join-else-get-2.new.cells.numbers)
    c.args.point c.args.near c.join-else-get-2.ensures.joined

pub returns-else-get-2-clause-edited : goal.returns-else-get-2-clause-edited
returns-else-get-2-clause-edited g c =
    let n = c.args.size in
    let old = c.args.cells.now.numbers in
    let new = c.join-else-get-2.new.cells.numbers in
    let grown = grown-second (n * n) (tables_of old) (tables_of new) c.args.point c.args.near
    c.join-else-get-2.ensures.joined in
    let more : chain_size old c.args.point < chain_size old c.args.near =
    (let e = c.get-3.ensures.value ∙ ap (size_of old) c.get-there.ensures.value in let f = c.get-4.ensures.value
    ∙ ap (size_of old) c.get-here.ensures.value in let h = c.if-get-2.false in omega arith) in
    Edited_within c.join-else-get-2.ensures.edited (omega arith) (omega arith) (omega arith) (omega arith)
