use Rattle.std.proofs.Common.{◌∙◌, ℕ, ap, false}
use Rattle.std.proofs.Math.ListN.{get_or}
use Rattle.go_board.specs.Points.{number_of}
use Rattle.go_board.specs.Reaching.{joined}
use Rattle.go_board.proofs.Clearing.{same_test}
use Rattle.go_board.proofs.Deciding.{joined_is}
use Rattle.go_board.proofs.Numbers.{number_of-lt}
use Rattle.go_board.proofs.plain.same_chain.Goals as goal

pub returns : goal.returns
returns c =
    let n = c.args.grid.now.lines in
    let g = c.args.grid.now.colours in
    let p = number_of n c.args.p in
    let q = number_of n c.args.q in
    let at = c.from.ensures ∙ c.index.ensures.value ∙ ap (λ (m : ℕ). number_of m c.args.q) c.size.ensures.lines in
    let law = joined_is n g p q (number_of-lt n c.args.p c.requires.p_on) in
    ap (λ k. get_or c.joined_to.result k false) at
    ∙ same_test (get_or c.joined_to.result q false) (joined n g p q) (λ m. law.1 ((c.joined_to.ensures q).0 m))
    (λ j. (c.joined_to.ensures q).1 (law.0 j))
