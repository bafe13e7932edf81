use Rattle.std.proofs.Common.{◌≡◌, ◌≢◌, ◌≤◌, ℕ, length}
use Rattle.go_sgf.specs.inner.Tidied.{Outside, rest_from, tidied_from}
use Rattle.go_sgf.proofs.scan.after_left_out.Given as goal

abbrev pub invariant-loop-first : goal.invariant-loop-first
invariant-loop-first l = record {
  written : (d : ℕ) → d ≢ 0 → tidied_from Outside d l.bytes ≡ tidied_from Outside d l.rest;
  after : (d : ℕ) → d ≢ 0 → rest_from Outside d l.bytes ≡ rest_from Outside d l.rest;
  shorter : length l.rest ≤ length l.bytes;
}

abbrev pub decreases-loop-first : goal.decreases-loop-first
decreases-loop-first l = length l.rest
