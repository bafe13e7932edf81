use Rattle.std.proofs.Common.{◌≡◌, ◌<◌, ℕ, false}
use Rattle.go_chains.specs.inner.Marked.{has_label}
use Rattle.go_chains.proofs.board.chains.Board+Open.first_stone.Given as goal

abbrev pub invariant-loop-number : goal.invariant-loop-number
invariant-loop-number l = (k : ℕ) → k < l.number → has_label l.self.cells l.label k ≡ false
