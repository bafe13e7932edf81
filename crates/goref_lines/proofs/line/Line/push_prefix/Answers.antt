use Rattle.std.proofs.Common.{subst, sym}
use Rattle.goref_lines.specs.inner.Prefixes.{AreBetweenWords, AreJoined}
use Rattle.goref_lines.proofs.line.Line.push_prefix.Goals as goal

pub push_words-requires-clause-words : goal.push_words-requires-clause-words
push_words-requires-clause-words c =
    subst AreJoined (sym c.split_at.ensures.front) (c.words_prefix-count.ensures.joined c.if-count-gt0.true)

pub push_gap-requires-clause-gap : goal.push_gap-requires-clause-gap
push_gap-requires-clause-gap c =
    subst AreBetweenWords (sym c.split_at-then-count-gt0-2.ensures.front) c.gap_prefix-count.ensures.gap
