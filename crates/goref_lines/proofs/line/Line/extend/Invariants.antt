use Rattle.std.proofs.Common.{◌≡◌, ℕ, List, ◌++◌, length}
use Rattle.goref_lines.specs.Kept.{kept}
use Rattle.goref_lines.proofs.line.Line.extend.Given as goal

abbrev pub invariant-loop-rest : goal.invariant-loop-rest
invariant-loop-rest l = (line : List ℕ) → l.initial.self ≡ kept line
    → (passed : List ℕ) × (l.bytes ≡ passed ++ l.rest) × (l.self ≡ kept (line ++ passed))

abbrev pub decreases-loop-rest : goal.decreases-loop-rest
decreases-loop-rest l = length l.rest
