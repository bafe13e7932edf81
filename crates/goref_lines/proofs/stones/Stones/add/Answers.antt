use Rattle.std.proofs.Common.{◌≡◌, ◌∙◌, sym, ap, true, false, arith}
use Rattle.std.specs.Prelude.{Some}
use Rattle.go_board.specs.Points.{IsOn}
use Rattle.go_board.specs.declared.vertex.Vertex.TheVariants.{At}
use Rattle.goref_lines.specs.Stones.{with_first}
use Rattle.goref_lines.specs.inner.Gathered.{Gathered, may_follow, gathers}
use Rattle.goref_lines.proofs.Gathering.{apart_more, grows, spoils, unless_bad}
use Rattle.goref_lines.proofs.stones.Stones.add.Goals as goal

pub invariant_of-self : goal.invariant_of-self
invariant_of-self c =
    let n = c.self.inside.size in
    let points = c.self.inside.points.items in
    let lines : n ≡ c.args.self.now.lines = ap (λ (g : Gathered). g.lines) c.self.view_is in
    let on : IsOn n c.args.point = (omega (arith, lines), omega (arith, lines)) in
    let follows : may_follow n points c.args.point ≡ true =
    ap (λ ps. may_follow n ps c.args.point) (sym c.deref.ensures.0) ∙ sym c.can_follow.ensures
    ∙ c.if-can_follow.true in
    rw c.push.ensures.items (apart_more n points c.args.point c.self.invariant on follows)

pub returns-then-can_follow-clause-goes_on : goal.returns-then-can_follow-clause-goes_on
returns-then-can_follow-clause-goes_on c = λ rest.
    let n = c.self.inside.size in
    let lines : n ≡ c.args.self.now.lines = ap (λ (g : Gathered). g.lines) c.self.view_is in
    let on : IsOn n c.args.point = (omega (arith, lines), omega (arith, lines)) in
    ap (λ (g : Gathered). gathers g (with_first (Some (At c.args.point)) rest)) (sym c.self.view_is)
    ∙ grows n c.self.inside.points.items c.args.point on c.self.inside.is_bad rest
    ∙ ap (λ ps. gathers (record { lines = n; points = unless_bad c.self.inside.is_bad ps }) rest)
    (sym c.push.ensures.items)

pub returns-else-can_follow-clause-goes_on : goal.returns-else-can_follow-clause-goes_on
returns-else-can_follow-clause-goes_on c = λ rest.
    let n = c.self.inside.size in
    let points = c.self.inside.points.items in
    let lines : n ≡ c.args.self.now.lines = ap (λ (g : Gathered). g.lines) c.self.view_is in
    let on : IsOn n c.args.point = (omega (arith, lines), omega (arith, lines)) in
    let stuck : may_follow n points c.args.point ≡ false =
    ap (λ ps. may_follow n ps c.args.point) (sym c.deref.ensures.0) ∙ sym c.can_follow.ensures
    ∙ c.if-can_follow.false in
    ap (λ (g : Gathered). gathers g (with_first (Some (At c.args.point)) rest)) (sym c.self.view_is)
    ∙ spoils n points c.args.point on c.self.inside.is_bad rest stuck
