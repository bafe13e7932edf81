use Rattle.std.proofs.Common.{◌∙◌, ◌∷◌, Err, ap, sym, rules}
use Rattle.go_sgf.proofs.Walking.{left_there, read_there, refused_there, text_from}
use Rattle.go_sgf.proofs.game_trees.next_tree.Goals as goal

pub overflow_sub-result : goal.overflow_sub-result
overflow_sub-result c =
    let b = c.in-Some.ensures.begins in
    (read_there c.args.source.now c.args.from c.in-Some.begin c.split_at.result.1.now c.in-Ok.after.now
    c.in-Ok.ensures.read.0 b c.split_at.ensures.back c.in-Ok.ensures.read.2).0

pub returns-in-Ok-clause-tree : goal.returns-in-Ok-clause-tree
returns-in-Ok-clause-tree c =
    let b = c.in-Some.ensures.begins in
    let t = c.in-Ok.ensures.read.0 in (
      t.0,
      t.1,
      (read_there c.args.source.now c.args.from c.in-Some.begin c.split_at.result.1.now c.in-Ok.after.now t b
          c.split_at.ensures.back c.in-Ok.ensures.read.2).1,
    )

pub error_of-requires : goal.error_of-requires
error_of-requires c =
    left_there _ c.args.source.now c.args.from c.in-Some.begin c.split_at.result.1.now c.in-Err.stop
    (text_from c.args.source.now c.args.from c.in-Some.begin c.in-Some.ensures.begins
    ∙ ap (λ xs. 40 ∷ xs) (sym c.split_at.ensures.back)) c.in-Err.ensures.place

pub returns-clause-refused : goal.returns-clause-refused
returns-clause-refused c =
    rw c.error_of.ensures
    (refused_there _ c.args.source.now c.args.from c.in-Some.begin c.split_at.result.1.now c.in-Err.stop
    (λ e. c.in-Err.ensures.memory (ap Err e)) c.in-Some.ensures.begins
    (text_from c.args.source.now c.args.from c.in-Some.begin c.in-Some.ensures.begins
    ∙ ap (λ xs. 40 ∷ xs) (sym c.split_at.ensures.back)) c.in-Err.ensures.place)

pub returns-clause-none : goal.returns-clause-none
returns-clause-none c = search rules
