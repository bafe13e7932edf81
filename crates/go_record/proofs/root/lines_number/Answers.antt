use Rattle.std.proofs.Common.{◌∙◌, ap, ap₂, drop, sym}
use Rattle.go_record.specs.Games.{number_by, number_of_both}
use Rattle.go_sgf.specs.Numbers.{number_in}
use Rattle.go_record.proofs.Blanks.{place_is}
use Rattle.go_record.proofs.root.lines_number.Goals as goal

pub returns-in-None : goal.returns-in-None
returns-in-None c =
    c.number_of-in-None.ensures.value
    ∙ ap (number_by c.args.value.now)
    (sym c.in-None.is ∙ place_is c.args.value.now c.memchr.result c.memchr.ensures)

pub returns-in-Some : goal.returns-in-Some
returns-in-Some c =
    c.same_number.ensures
    ∙ ap₂ number_of_both (c.number_of.ensures.value ∙ ap number_in c.split_at.ensures.front)
    (c.number_of-in-Some.ensures.value
    ∙ ap number_in (c.split_at-in-Some.ensures.back ∙ ap (drop 1) c.split_at.ensures.back))
    ∙ ap (number_by c.args.value.now)
    (sym c.in-Some.is ∙ place_is c.args.value.now c.memchr.result c.memchr.ensures)
