use Rattle.std.proofs.Common.{arith, ◌≡◌, ◌-◌, ◌∙◌, ℕ, ap, length, length-append, rules, subst}
use Rattle.go_board.specs.Points.{number_of}
use Rattle.go_chains.specs.Playing.{most_of}
use Rattle.go_chains.specs.inner.Edits.{Logged}
use Rattle.go_chains.specs.Boards.{BoardValue, colouring_of, grid_of}
use Rattle.go_chains.proofs.writes.Rewinding.{closed}
use Rattle.go_chains.proofs.board.Board.play.Goals as goal

pub invariant_of-log-2 : goal.invariant_of-log-2
invariant_of-log-2 g c =
    let n = c.self.inside.size in
    (closed n n c.self.inside.cells c.place-taken.new.cells c.log.inside.changes.items c.reserve_play.new.changes.items
    c.place-taken.new.changes.items
    c.log.inside.lengths.items c.reserve_play.new.lengths.items c.seal.new.lengths.items c.args.log.now
    (most_of n (colouring_of n c.self.inside.cells.numbers) c.args.colour c.from-point.result)
    (c.len.result - c.len-before.result) c.log.invariant c.log.view_is
    c.in_ok-reserve_play.ensures.changes c.in_ok-reserve_play.ensures.lengths c.place-taken.ensures.edited.logged
    (omega arith) c.seal.ensures).whole

pub returns-clause-costs : goal.returns-clause-costs
returns-clause-costs g c =
    let n = c.self.inside.size in
    let at : c.from-point.result ≡ number_of n c.args.p = c.from-point.ensures ∙ c.index.ensures.value in
    let old = c.self.inside.cells in
    let new = c.place-taken.new in
    let xs = c.reserve_play.new.changes.items in
    let done = c.place-taken.ensures.edited in
    let read = c.get.ensures.count in
    let Here : ℕ → Type 0 = λ k. Logged old new.cells xs new.changes.items
    (most_of n (colouring_of n old.numbers) c.args.colour k) in
    let There : BoardValue → Type 0 = λ b.
    Logged (record { numbers = b.cells; trace = b.trace }) new.cells xs new.changes.items
    (most_of b.lines (grid_of b) c.args.colour (number_of b.lines c.args.p)) in
    let sealed = closed c.args.self.now.lines n
    (record { numbers = c.args.self.now.cells; trace = c.args.self.now.trace }) new.cells c.log.inside.changes.items
    xs new.changes.items
    c.log.inside.lengths.items c.reserve_play.new.lengths.items c.seal.new.lengths.items c.args.log.now
    (most_of c.args.self.now.lines (grid_of c.args.self.now) c.args.colour (number_of c.args.self.now.lines c.args.p))
    (c.len.result - c.len-before.result) c.log.invariant c.log.view_is
    c.in_ok-reserve_play.ensures.changes c.in_ok-reserve_play.ensures.lengths
    (subst There c.self.view_is (subst Here at done.logged)) (omega arith) c.seal.ensures in
    let longer = length-append xs done.logged.added in
    record {
      same = search rules;
      log = search rules;
      logged = sealed.logged;
      count = search rules;
      ticked = λ changes split. let size = sealed.size changes split in let each = done.ticked in
          omega (arith, size, read, each);
      onward = let each = done.ticked in omega (arith, ap length done.logged.grown, longer, read, each);
    }
