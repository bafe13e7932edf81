use Rattle.std.proofs.Common.{arith, ◌≡◌, ◌∙◌, ◌↔◌, Bool, IsTrue, rules, sym, ap, subst}
use Rattle.go_board.specs.declared.colour.Colour.{Colour}
use Rattle.go_board.specs.declared.vertex.Move.{Move}
use Rattle.go_board.specs.declared.vertex.Vertex.TheVariants.{At}
use Rattle.go_game.specs.Counts.{IsTakenBack, most_for}
use Rattle.go_game.proofs.Counting.{back_count, played_back, taken_some}
use Rattle.go_board.specs.declared.vertex.Vertex.{Vertex}
use Rattle.go_game.specs.declared.choice.Judged.{Judged}
use Rattle.go_game.specs.Legal.{is_legal}
use Rattle.go_game.specs.Standings.{IsLegal, Standing}
use Rattle.go_game.specs.inner.Trials.{IsJudged}
use Rattle.go_game.proofs.Legal.{legal_passes, passes_legal}
use Rattle.go_game.proofs.game.Game.legal.Goals as goal

by_rules : (s : Standing) (c : Colour) (v : Vertex) (b : Bool) → b ≡ is_legal s c v → IsTrue b ↔ IsLegal s c v
by_rules s c v b is = ((λ holds. passes_legal s c v (sym is ∙ holds)), (λ h. is ∙ legal_passes s c v h))

pub returns-in-Illegal-clause-rules : goal.returns-in-Illegal-clause-rules
returns-in-Illegal-clause-rules g c =
    let judged = subst (λ (j : Judged). IsJudged c.args.made.colour c.in-At-2.p j c.args.self.now c.judge.new.self)
    c.in-Illegal.is c.in_ok-judge-in-At-2.ensures.judged in
    by_rules c.args.self.now.standing c.args.made.colour c.args.made.vertex _
    (sym (ap (is_legal c.args.self.now.standing c.args.made.colour) c.in-At-2.is ∙ judged.0))

pub returns-in-Quiet-clause-rules : goal.returns-in-Quiet-clause-rules
returns-in-Quiet-clause-rules g c =
    let judged = subst (λ (j : Judged). IsJudged c.args.made.colour c.in-At-2.p j c.args.self.now c.judge.new.self)
    c.in-Quiet.is c.in_ok-judge-in-At-2.ensures.judged in
    by_rules c.args.self.now.standing c.args.made.colour c.args.made.vertex _
    (sym (ap (is_legal c.args.self.now.standing c.args.made.colour) c.in-At-2.is ∙ judged.0))

pub returns-in-StillPlaced-clause-rules : goal.returns-in-StillPlaced-clause-rules
returns-in-StillPlaced-clause-rules g c =
    let judged = subst (λ (j : Judged). IsJudged c.args.made.colour c.in-At-2.p j c.args.self.now c.judge.new.self)
    c.in-StillPlaced.is c.in_ok-judge-in-At-2.ensures.judged in
    by_rules c.args.self.now.standing c.args.made.colour c.args.made.vertex _
    (sym (ap (is_legal c.args.self.now.standing c.args.made.colour) c.in-At-2.is ∙ judged.0))

pub returns-in-StillPlaced-clause-same : goal.returns-in-StillPlaced-clause-same
returns-in-StillPlaced-clause-same g c =
    let s = c.args.self.now.standing in
    let made : Move = record { colour = c.args.made.colour; vertex = At c.in-At-2.p } in
    let played = subst (λ (j : Judged). IsJudged c.args.made.colour c.in-At-2.p j c.args.self.now c.judge.new.self)
    c.in-StillPlaced.is c.in_ok-judge-in-At-2.ensures.judged in
    let back : IsTakenBack c.judge.new.self c.undo.new.self =
    taken_some _ s c.judge.new.self.standing made c.undo.result played.2 c.undo.ensures.none c.undo.ensures.back in
    played_back c.args.self.now c.judge.new.self c.undo.new.self made (most_for s c.args.made.colour (At c.in-At-2.p))
    played.2 played.3 c.undo.ensures.after back

pub returns-in-StillPlaced-clause-count : goal.returns-in-StillPlaced-clause-count
returns-in-StillPlaced-clause-count g c =
    let s = c.args.self.now.standing in
    let made : Move = record { colour = c.args.made.colour; vertex = At c.in-At-2.p } in
    let played = subst (λ (j : Judged). IsJudged c.args.made.colour c.in-At-2.p j c.args.self.now c.judge.new.self)
    c.in-StillPlaced.is c.in_ok-judge-in-At-2.ensures.judged in
    let back : IsTakenBack c.judge.new.self c.undo.new.self =
    taken_some _ s c.judge.new.self.standing made c.undo.result played.2 c.undo.ensures.none c.undo.ensures.back in
    let less = back_count c.args.self.now c.judge.new.self c.undo.new.self made
    (most_for s c.args.made.colour (At c.in-At-2.p)) played.2 played.3 c.undo.ensures.after back in
    let most = ap (most_for s c.args.made.colour) c.in-At-2.is in
    omega (arith, less, most, played.4)

pub returns-in-Quiet-clause-glance : goal.returns-in-Quiet-clause-glance
returns-in-Quiet-clause-glance g c = search rules

pub returns-in-Pass-clause-test : goal.returns-in-Pass-clause-test
returns-in-Pass-clause-test g c = search rules

pub returns-in-At-clause-tried : goal.returns-in-At-clause-tried
returns-in-At-clause-tried g c = search rules

pub returns-in-At-clause-memory : goal.returns-in-At-clause-memory
returns-in-At-clause-memory g c = search rules
