use Rattle.std.proofs.Common.{[], ◌∷◌, ◌++◌, sym, append_assoc}
use Rattle.goref_lines.proofs.line.append_to_words.Goals as goal
use Rattle.goref_lines.proofs.line.append_to_words.Goals.{then-has_space, else-has_space}

pub returns : goal.returns
returns c = λ whole kept.
    elim c.if-has_space.branch [
      | then-has_space w ↦
          rw w.if-has_space.true (rw (sym (append_assoc whole (32 ∷ []) c.args.word.now))
          (c.append-2.ensures (whole ++ 32 ∷ []) (rw (w.text-is, w.is_long-is) (w.append.ensures whole kept))))
      | else-has_space w ↦ rw w.if-has_space.false (c.append-2.ensures whole (rw (w.text-is, w.is_long-is) kept))
    ]
