use Rattle.std.proofs.Common.{arith, rules, ◌≡◌}
use Rattle.std.specs.Prelude.{ℤ}
use Rattle.std.proofs.lemmas.Int.{ints}
use mir.Syntax.{w32}
use mir.Val.{SFits, of_z, to_z}
use Rattle.go_game.specs.Choices.{lead_of}
use Rattle.go_game.specs.Standings.{board_of}
use Rattle.go_game.proofs.Choosing.{chosen_none, chosen_pass, chosen_play}
use Rattle.go_game.proofs.game.Game.choose.Goals as goal

kept : (x : ℤ) → SFits w32 x → to_z w32 (of_z w32 x) ≡ x
kept x fits = omega (arith, ints)

kept_is : (x y : ℤ) → SFits w32 x → x ≡ y → to_z w32 (of_z w32 x) ≡ y
kept_is x y fits is = omega (arith, ints)

pub returns-in-Some-clause-ok : goal.returns-in-Some-clause-ok
returns-in-Some-clause-ok g c =
    let fits : SFits w32 c.in-Some.best.lead = search rules in
    let standing_fits : SFits w32 c.lead-standing_lead.result = search rules in
    let lead = kept c.in-Some.best.lead fits in
    let standing_lead = kept_is c.lead-standing_lead.result (lead_of c.args.self.now.standing c.args.colour)
    standing_fits
    (c.lead-standing_lead.ensures c.args.self.now.standing.lines (board_of c.args.self.now.standing) c.args.colour
    c.holdings-holdings.ensures) in
    chosen_play c.args.self.now.standing c.args.colour c.in_ok-best.field-0 c.in-Some.best
    (to_z w32 (of_z w32 c.lead-standing_lead.result)) (to_z w32 (of_z w32 c.in-Some.best.lead))
    c.in-Some.is c.in_ok-best.ensures.ok standing_lead lead c.if-best-standing_lead.true

pub returns-in_default-clause-ok : goal.returns-in_default-clause-ok
returns-in_default-clause-ok g c =
    let fits : SFits w32 c.in-Some.best.lead = search rules in
    let standing_fits : SFits w32 c.lead-standing_lead.result = search rules in
    let lead = kept c.in-Some.best.lead fits in
    let standing_lead = kept_is c.lead-standing_lead.result (lead_of c.args.self.now.standing c.args.colour)
    standing_fits
    (c.lead-standing_lead.ensures c.args.self.now.standing.lines (board_of c.args.self.now.standing) c.args.colour
    c.holdings-holdings.ensures) in
    chosen_pass c.args.self.now.standing c.args.colour c.in_ok-best.field-0 c.in-Some.best
    (to_z w32 (of_z w32 c.lead-standing_lead.result)) (to_z w32 (of_z w32 c.in-Some.best.lead))
    c.in-Some.is c.in_ok-best.ensures.ok standing_lead lead c.if-best-standing_lead.false

pub returns-in_default-2-clause-ok : goal.returns-in_default-2-clause-ok
returns-in_default-2-clause-ok g c =
    chosen_none c.args.self.now.standing c.args.colour c.in_ok-best.field-0 c.in_default.is c.in_ok-best.ensures.ok

pub returns-in_default-clause-count : goal.returns-in_default-clause-count
returns-in_default-clause-count g c = search rules
