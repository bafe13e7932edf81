use Rattle.std.proofs.Common.{arith, ◌≡◌, ◌∙◌, ◌*◌, ℕ, Bool, List, ap, slice_set}
use Rattle.go_board.specs.declared.size.TheConstants.{MAX_POINTS}
use Rattle.go_board.specs.declared.vertex.Vertex.TheVariants.{At}
use Rattle.go_board.specs.Points.{point_at}
use Rattle.go_game.specs.Choices.{may_play}
use Rattle.go_game.specs.Legal.{is_legal}
use Rattle.go_game.specs.Standings.{Standing}
use Rattle.goref_results.specs.Plays.{marked_below}
use Rattle.goref_results.proofs.Marking.{mark_more}
use Rattle.goref_results.proofs.plays.legal_plays.Goals as goal

pub loop-number-preserved : goal.loop-number-preserved
loop-number-preserved g c =
    let s = c.args.game.now.standing in
    let k = c.loop-number.number in
    let is : c.in_ok-legal.field-0 ≡ may_play s c.args.colour k =
    c.in_ok-legal.ensures.test ∙ ap (λ (now : Standing). is_legal now c.args.colour (At c.numbered.result))
    c.loop-number.invariant.same.standing
    ∙ ap (λ p. is_legal s c.args.colour (At p))
    (c.numbered.ensures.value ∙ ap (λ n. point_at n k) c.size-size.ensures.lines) in
    record {
      plays = c.set.ensures ∙ ap (λ (marks : List Bool). slice_set marks k c.in_ok-legal.field-0)
          c.loop-number.invariant.plays
          ∙ mark_more (may_play s c.args.colour) MAX_POINTS k c.in_ok-legal.field-0
          (omega (arith, c.loop-number-test.true, c.points-number-end.ensures.range)) is;
      same = record {
        standing = c.in_ok-legal.ensures.same.standing ∙ c.loop-number.invariant.same.standing;
        cells = c.in_ok-legal.ensures.same.cells ∙ c.loop-number.invariant.same.cells;
        changes = c.in_ok-legal.ensures.same.changes ∙ c.loop-number.invariant.same.changes;
        onward = omega (arith, c.loop-number.invariant.same.onward, c.in_ok-legal.ensures.same.onward);
        counted = omega (arith, c.loop-number.invariant.same.counted, c.in_ok-legal.ensures.same.counted);
      };
    }

pub returns-clause-ok : goal.returns-clause-ok
returns-clause-ok g c =
    let s = c.args.game.now.standing in
    let all : c.loop-number.number ≡ s.lines * s.lines =
    omega (
      arith,
      c.loop-number-test.false,
      c.loop-number.auto.number-end,
      c.points-number-end.ensures.value,
      ap (λ (m : ℕ). m * m) c.size-size.ensures.lines,
    ) in
    c.loop-number.invariant.plays ∙ ap (λ k. marked_below k s c.args.colour) all
