use Rattle.std.proofs.Common.{◌≡◌, ◌∙◌, ℕ, List, Some, ◌∷◌, [], refl, sym, ap, subst, arith}
use Rattle.go_sgf.specs.BoardValues.{points_listed}
use Rattle.go_sgf.specs.Rectangles.{listed}
use Rattle.go_record.specs.Walks.{with_points}
use Rattle.go_record.proofs.Setting.{SetSoFar, set_bad, set_first, set_more, set_whole}
use Rattle.go_record.proofs.start.set_points.Goals as goal

pub loop-value-init : goal.loop-value-init
loop-value-init c = record {
  lines = refl;
  onward = omega arith;
  set = λ values later nodes l. (
    values,
    l,
    set_first c.args.grid.now.lines c.args.colour c.args.grid.now.colours values,
  );
}

pub loop-value-preserved : goal.loop-value-preserved
loop-value-preserved c =
    let n = c.args.grid.now.lines in
    let colour = c.args.colour in
    let ps = listed c.in_ok-points_in.field-0 in record {
      lines = c.set_rows.ensures.lines ∙ c.loop-value.invariant.lines;
      onward = omega (arith, c.loop-value.invariant.onward, c.in-Some.ensures.shorter);
      set = λ values later nodes l.
          let i = c.loop-value.invariant.set values later nodes l in
          let next = c.in-Some.ensures.next i.0 later nodes i.1 in
          let value = c.in-Some.value.now in
          let before : SetSoFar n colour c.args.grid.now.colours values (value ∷ next.0) c.loop-value.grid.colours =
          subst (λ (vs : List (List ℕ)). SetSoFar n colour c.args.grid.now.colours values vs c.loop-value.grid.colours)
          next.1 i.2 in
          let is : Some ps ≡ points_listed n value =
          c.in_ok-points_in.ensures.value ∙ ap (λ (m : ℕ). points_listed m value) c.size-size.ensures.lines in (
            next.0,
            next.2,
            set_more n colour c.args.grid.now.colours values value next.0 c.loop-value.grid.colours
                c.set_rows.new.grid.colours ps before is
                (c.set_rows.ensures.colours ∙ ap (λ (m : ℕ). with_points m colour c.loop-value.grid.colours ps)
                c.loop-value.invariant.lines),
          );
    }

pub loop-value-smaller : goal.loop-value-smaller
loop-value-smaller c = c.in-Some.ensures.shorter

pub returns-clause-set : goal.returns-clause-set
returns-clause-set c = λ values later nodes l.
    let i = c.loop-value.invariant.set values later nodes l in
    let end = c.in_default.ensures.next i.0 later nodes i.1 in
    set_whole c.args.grid.now.lines c.args.colour c.args.grid.now.colours values i.0 c.loop-value.grid.colours end.0 i.2

pub returns-clause-cursor : goal.returns-clause-cursor
returns-clause-cursor c = λ later nodes at.
    let i = c.loop-value.invariant.set at.0 later nodes at.1 in
    ([], (c.in_default.ensures.next i.0 later nodes i.1).1)

pub returns-in_err-points_in-clause-bad : goal.returns-in_err-points_in-clause-bad
returns-in_err-points_in-clause-bad c = rw c.from_residual.ensures (λ values later nodes l.
    let n = c.args.grid.now.lines in
    let i = c.loop-value.invariant.set values later nodes l in
    let next = c.in-Some.ensures.next i.0 later nodes i.1 in
    let value = c.in-Some.value.now in
    let before : SetSoFar n c.args.colour c.args.grid.now.colours values (value ∷ next.0) c.loop-value.grid.colours =
    subst (λ (vs : List (List ℕ)). SetSoFar n c.args.colour c.args.grid.now.colours values vs c.loop-value.grid.colours)
    next.1 i.2 in
    set_bad n c.args.colour c.args.grid.now.colours values value next.0 c.loop-value.grid.colours before
    (sym (c.in_err-points_in.ensures.value ∙ ap (λ (m : ℕ). points_listed m value) c.size-size.ensures.lines)))

pub returns-in_err-points_in-clause-cursor : goal.returns-in_err-points_in-clause-cursor
returns-in_err-points_in-clause-cursor c = λ later nodes at.
    let i = c.loop-value.invariant.set at.0 later nodes at.1 in
    let next = c.in-Some.ensures.next i.0 later nodes i.1 in
    (next.0, next.2)
