use Rattle.std.proofs.Common.{◌≡◌}
use Rattle.std.specs.Prelude.{filter}
use Rattle.std.specs.List.{range_with_len}
use Rattle.go_board.specs.Chains.{is_first_of_chain}
use Rattle.go_board.specs.Pens.{Writes}
use Rattle.go_game.specs.Standings.{board_of}
use Rattle.goref_results.specs.ChainLines.{chain_line}
use Rattle.goref_results.specs.Results.{result_text}
use Rattle.goref_results.specs.inner.Seen.{AreSeen}
use Rattle.goref_results.proofs.Listing.{before_next, joined_lines}
use Rattle.goref_results.proofs.chain_lines.put_chains.Given as goal

abbrev pub invariant-loop-number : goal.invariant-loop-number
invariant-loop-number g l =
    let n = l.game.standing.lines in
    let board = board_of l.game.standing in
    let firsts = filter (is_first_of_chain n board) (range_with_len 0 l.number) in
    record {
      lines : Writes g.W.Sink l.fn.pen l.pen (result_text (joined_lines (chain_line n board) firsts));
      before : l.before ≡ before_next firsts;
      seen : AreSeen n board l.number l.seen;
    }
