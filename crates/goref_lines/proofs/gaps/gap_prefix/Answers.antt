use Rattle.std.proofs.Common.{subst, sym, take}
use Rattle.goref_lines.specs.inner.Prefixes.{AreBetweenWords, is_gap_byte}
use Rattle.goref_lines.proofs.Pieces.{taken_pass}
use Rattle.goref_lines.proofs.gaps.gap_prefix.Goals as goal

pub returns-clause-gap : goal.returns-clause-gap
returns-clause-gap c = subst (λ n. AreBetweenWords (take n c.args.bytes.now)) (sym c.gap_len.ensures.value)
    (taken_pass is_gap_byte c.args.bytes.now)
