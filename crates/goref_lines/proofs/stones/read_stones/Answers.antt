use Rattle.std.proofs.Common.{rules, ◌∙◌, sym, ap, ◌∷◌}
use Rattle.goref_lines.specs.Stones.{spelled, stones_listed}
use Rattle.goref_lines.proofs.Gathering.{begins}
use Rattle.goref_lines.proofs.stones.read_stones.Goals as goal

pub loop-word-init : goal.loop-word-init
loop-word-init c =
    let n = c.args.size in
    let rest = c.next_word.new.self in
    record {
      lines = c.push.ensures.lines ∙ c.new-stones.ensures.lines;
      goes_on = sym (c.in_ok-push-in-Some.ensures.ok rest)
          ∙ begins n c.new-stones.result c.new-stones.ensures.lines c.new-stones.ensures.points
          (spelled (c.in-Some.word.now ∷ rest))
          ∙ ap (stones_listed n) (sym c.in-Some.ensures.some);
    }

pub returns-in-None-clause-err : goal.returns-in-None-clause-err
returns-in-None-clause-err c = search rules
