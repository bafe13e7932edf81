use Rattle.std.proofs.Common.{◌≢◌, ◌≤◌, ◌-◌, ℕ, drop, length}
use Rattle.go_sgf.specs.inner.Tidied.{Outside, StaysTo}
use Rattle.go_sgf.proofs.verbatim.after_verbatim.Given as goal

abbrev pub invariant-loop-place : goal.invariant-loop-place
invariant-loop-place l = record {
  within : l.place ≤ length l.text;
  stays : (d : ℕ) → d ≢ 0 → StaysTo Outside d l.text d (drop l.place l.text);
}

abbrev pub decreases-loop-place : goal.decreases-loop-place
decreases-loop-place l = length l.text - l.place
