use Rattle.std.proofs.Common.{arith, ◌≡◌, subst, to_z, of_z, w32, rules}
use Rattle.std.proofs.lemmas.Int.{ints}
use Rattle.go_board.specs.declared.vertex.Move.{Move}
use Rattle.go_board.specs.declared.vertex.Vertex.TheVariants.{At}
use Rattle.go_game.specs.declared.choice.Judged.{Judged}
use Rattle.go_game.specs.Counts.{IsTakenBack, most_for}
use Rattle.go_game.specs.inner.Trials.{IsJudged}
use Rattle.go_game.proofs.Choosing.{tried_is}
use Rattle.go_game.proofs.Counting.{back_count, played_back, taken_some}
use Rattle.go_game.proofs.game.Game.try_at.Goals as goal

pub returns-in-StillPlaced-clause-ok : goal.returns-in-StillPlaced-clause-ok
returns-in-StillPlaced-clause-ok g c =
    let s = c.args.self.now.standing in
    let played = subst (λ (j : Judged). IsJudged c.args.colour c.args.point j c.args.self.now c.judge.new.self)
    c.in-StillPlaced.is c.in_ok-judge.ensures.judged in
    let kept : to_z w32 (of_z w32 c.lead.result) ≡ c.lead.result = omega (arith, ints) in
    tried_is s c.judge.new.self.standing c.args.colour c.args.point (to_z w32 (of_z w32 c.lead.result)) c.lead.result
    c.liberties_of.result
    played.0 played.2 kept c.lead.ensures c.liberties_of.ensures

pub returns-in-StillPlaced-clause-same : goal.returns-in-StillPlaced-clause-same
returns-in-StillPlaced-clause-same g c =
    let s = c.args.self.now.standing in
    let made : Move = record { colour = c.args.colour; vertex = At c.args.point } in
    let played = subst (λ (j : Judged). IsJudged c.args.colour c.args.point j c.args.self.now c.judge.new.self)
    c.in-StillPlaced.is c.in_ok-judge.ensures.judged in
    let back : IsTakenBack c.judge.new.self c.undo.new.self =
    taken_some _ s c.judge.new.self.standing made c.undo.result played.2 c.undo.ensures.none c.undo.ensures.back in
    played_back c.args.self.now c.judge.new.self c.undo.new.self made (most_for s c.args.colour (At c.args.point))
    played.2 played.3 c.undo.ensures.after back

pub returns-in-StillPlaced-clause-count : goal.returns-in-StillPlaced-clause-count
returns-in-StillPlaced-clause-count g c =
    let s = c.args.self.now.standing in
    let made : Move = record { colour = c.args.colour; vertex = At c.args.point } in
    let played = subst (λ (j : Judged). IsJudged c.args.colour c.args.point j c.args.self.now c.judge.new.self)
    c.in-StillPlaced.is c.in_ok-judge.ensures.judged in
    let back : IsTakenBack c.judge.new.self c.undo.new.self =
    taken_some _ s c.judge.new.self.standing made c.undo.result played.2 c.undo.ensures.none c.undo.ensures.back in
    let less = back_count c.args.self.now c.judge.new.self c.undo.new.self made
    (most_for s c.args.colour (At c.args.point)) played.2 played.3 c.undo.ensures.after back in
    omega (arith, less, played.4)

pub returns-in-Quiet-clause-same : goal.returns-in-Quiet-clause-same
returns-in-Quiet-clause-same g c = search rules
