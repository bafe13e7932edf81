use Rattle.std.proofs.Common.{◌∙◌, ◌∷◌, [], sym}
use Rattle.go_board.specs.Points.{number_of}
use Rattle.go_board.specs.lemmas.Writing.{writes_then}
use Rattle.go_game.specs.Standings.{board_of}
use Rattle.goref_results.specs.ChainLines.{chain_line}
use Rattle.goref_results.proofs.Listing.{if_true}
use Rattle.goref_results.proofs.SeenChains.{chain_seen, seen_later}
use Rattle.goref_results.proofs.chain_lines.put_if_first.Goals as goal

pub returns-then-is_first-clause-line : goal.returns-then-is_first-clause-line
returns-then-is_first-clause-line g c =
    let s = c.args.game.now.standing in
    let line = chain_line s.lines (board_of s) (number_of s.lines c.args.at) in
    writes_then _ c.put.ensures c.put_chain.ensures.line
    (sym (if_true (sym c.is_first.ensures ∙ c.if-is_first.true) (c.args.before ∷ line) []))

pub returns-then-is_first-clause-seen : goal.returns-then-is_first-clause-seen
returns-then-is_first-clause-seen g c =
    let s = c.args.game.now.standing in
    let k = number_of s.lines c.args.at in
    chain_seen c.joined_by_a_path.ensures c.points_by_number.ensures s.lines (board_of s) k
    (c.points_by_number.ensures.number s.lines c.args.at c.requires.on) c.args.seen.now c.put_chain.new.seen
    (sym c.is_first.ensures ∙ c.if-is_first.true) c.requires.seen c.put_chain.ensures.seen

pub returns-clause-seen : goal.returns-clause-seen
returns-clause-seen g c =
    let s = c.args.game.now.standing in
    let k = number_of s.lines c.args.at in
    seen_later c.joined_by_a_path.ensures c.points_by_number.ensures s.lines (board_of s) k
    (c.points_by_number.ensures.number s.lines c.args.at c.requires.on) c.args.seen.now
    (sym c.is_first.ensures ∙ c.if-is_first.false) c.requires.seen
