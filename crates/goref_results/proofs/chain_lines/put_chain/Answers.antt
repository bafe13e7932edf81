use Rattle.std.proofs.Common.{arith, All, subst, sym, ◌∙◌, ap, ap₂, ◌++◌, codes}
use Rattle.std.specs.List.{flat_map}
use Rattle.go_board.specs.Chains.{liberties, members}
use Rattle.go_board.specs.Colours.{colour_at}
use Rattle.go_board.specs.Points.{IsOn, number_of}
use Rattle.go_board.specs.declared.size.TheConstants.{MAX_LINES}
use Rattle.go_board.specs.lemmas.Writing.{writes_writes, writes_then}
use Rattle.go_game.specs.Standings.{board_of}
use Rattle.goref_results.specs.ChainLines.{stone_text}
use Rattle.goref_results.specs.inner.Texts.{spaced_point}
use Rattle.goref_results.proofs.Listing.{spaced_points}
use Rattle.goref_results.proofs.SeenChains.{all_members, gains_chain}
use Rattle.goref_results.proofs.chain_lines.put_chain.Goals as goal

pub returns-clause-line : goal.returns-clause-line
returns-clause-line g c =
    let s = c.args.game.now.standing in
    let n = s.lines in
    let p = number_of n c.args.at in
    let stones = ap (flat_map spaced_point) c.chain_points.ensures ∙ spaced_points n (members n (board_of s) p) in
    let free = ap (flat_map spaced_point) c.liberty_points.ensures ∙ spaced_points n (liberties n (board_of s) p) in
    writes_then _ c.put_stone.ensures
    (writes_writes c.put_stones.ensures.written (writes_writes c.put.ensures c.put_each.ensures))
    (ap₂ (λ a b. stone_text (colour_at (board_of s) p) ++ (a ++ (codes " :" ++ b))) stones free)

pub returns-clause-seen : goal.returns-clause-seen
returns-clause-seen g c =
    let s = c.args.game.now.standing in
    let n = s.lines in
    gains_chain c.points_by_number.ensures n (board_of s) (number_of n c.args.at) c.chain_points.result c.args.seen.now
    c.put_stones.new.seen c.chain_points.ensures c.put_stones.ensures.seen

pub put_stones-requires : goal.put_stones-requires
put_stones-requires g c =
    let s = c.args.game.now.standing in
    let n = s.lines in
    subst (All (IsOn MAX_LINES)) (sym c.chain_points.ensures)
    (λ i d low. (let on = all_members c.points_by_number.ensures n (board_of s) (number_of n c.args.at) i d low in
    (omega (arith, on.0, c.size.ensures.sound.size), omega (arith, on.1, c.size.ensures.sound.size))))
