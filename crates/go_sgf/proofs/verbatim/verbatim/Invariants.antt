use Rattle.std.proofs.Common.{◌≡◌, ◌≢◌, ◌≤◌, ◌+◌, false, length}
use Rattle.go_sgf.specs.Spelling.{is_first}
use Rattle.go_sgf.specs.inner.Tidied.{Outside, StaysTo}
use Rattle.go_sgf.proofs.verbatim.verbatim.Given as goal

abbrev pub invariant-loop-more : goal.invariant-loop-more
invariant-loop-more l = record {
  stays : StaysTo Outside l.depth l.text l.open l.rest;
  outside : l.open ≢ 0 → is_first 91 l.rest ≡ false;
  bound : l.open + length l.rest ≤ l.depth + length l.text;
  no_longer : length l.rest ≤ length l.text;
  same : length l.rest ≡ length l.text → (l.rest ≡ l.text) × (l.open ≡ l.depth);
}

abbrev pub decreases-loop-more : goal.decreases-loop-more
decreases-loop-more l = length l.rest
