use Rattle.std.specs.List.{prefix_len}
use Rattle.std.proofs.Common.{◌≡◌, ◌<◌, ◌⊎◌}
use Rattle.goref_lines.specs.inner.Prefixes.{is_word_byte}
use Rattle.goref_lines.proofs.Pieces.{WordsUpTo}
use Rattle.goref_lines.proofs.line.words_prefix.Given as goal

abbrev pub invariant-loop-place : goal.invariant-loop-place
invariant-loop-place l = record {
  joined : WordsUpTo l.bytes l.start l.place;
  first : (l.start ≡ 0) ⊎ (prefix_len is_word_byte l.bytes < l.start);
}
