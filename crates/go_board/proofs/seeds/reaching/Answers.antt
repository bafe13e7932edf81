use Rattle.go_board.proofs.Seeding.{seeds_reach}
use Rattle.go_board.proofs.seeds.reaching.Goals as goal

pub returns : goal.returns
returns c = seeds_reach c.args.grid.now.lines c.args.grid.now.colours c.args.from c.args.to c.mark_seeds.new.marks
    c.spread.new.marks c.mark_seeds.new.waiting.items c.mark_seeds.ensures c.spread.ensures
