use Rattle.std.proofs.Common.{◌≡◌, arith, w64}
use Rattle.std.proofs.lemmas.Int.{ints}
use mir.Val.{of_z, to_z}
use Rattle.std.specs.Prelude.{Err, Ok}
use Rattle.std.proofs.lemmas.Result.{err_from_is_err_and}
use Rattle.go_record.proofs.Lines.{game_walked}
use Rattle.go_record.proofs.Walking.{if_err, on_ok}
use Rattle.go_record.proofs.replaying.walk_on.Goals as goal

pub returns-in_err-visit_line-clause-err : goal.returns-in_err-visit_line-clause-err
returns-in_err-visit_line-clause-err g c =
    let komi = c.args.root.now.komi in
    let back : to_z w64 (of_z w64 komi) ≡ komi = omega (arith, ints, c.args.root.now.in_range) in
    let p = err_from_is_err_and c.from_residual.result c.from_residual.ensures.1 in
    λ t s says. rw (p.1, p.2) (λ some.
    game_walked t c.args.number c.args.root.now.size c.new.result.lines komi (to_z w64 (of_z w64 komi))
    c.new.result.colours c.remaining_before.result (Err c.in_err-visit_line.field-0.0) says c.new.ensures.lines back
    c.new.ensures.colours c.remaining_before.ensures
    ((c.in_err-visit_line.ensures t s).stopped some _))

pub returns-clause-ok : goal.returns-clause-ok
returns-clause-ok g c =
    let komi = c.args.root.now.komi in
    let back : to_z w64 (of_z w64 komi) ≡ komi = omega (arith, ints, c.args.root.now.in_range) in
    λ t s says. on_ok c.finish.result
    (λ goes. game_walked t c.args.number c.args.root.now.size c.new.result.lines komi (to_z w64 (of_z w64 komi))
    c.new.result.colours c.remaining_before.result (Ok c.finish.new.game.standing) says c.new.ensures.lines back
    c.new.ensures.colours c.remaining_before.ensures
    ((c.in_ok-visit_line.ensures t s).passed _ (Ok c.finish.new.game.standing) goes)) c.finish.ensures.ok

pub returns-clause-err : goal.returns-clause-err
returns-clause-err g c =
    let komi = c.args.root.now.komi in
    let back : to_z w64 (of_z w64 komi) ≡ komi = omega (arith, ints, c.args.root.now.in_range) in
    λ t s says. if_err c.finish.result
    (λ e goes some. game_walked t c.args.number c.args.root.now.size c.new.result.lines komi
    (to_z w64 (of_z w64 komi))
    c.new.result.colours c.remaining_before.result (Err e) says c.new.ensures.lines back c.new.ensures.colours c.remaining_before.ensures
    ((c.in_ok-visit_line.ensures t s).passed _ (Err e) (goes some))) c.finish.ensures.err
