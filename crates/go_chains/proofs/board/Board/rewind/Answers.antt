use Rattle.std.proofs.Common.{sym, subst}
use Rattle.go_chains.specs.Rewound.{rewound}
use Rattle.go_chains.specs.Sound.{IsKept}
use Rattle.go_chains.specs.Boards.{BoardValue}
use Rattle.go_chains.proofs.answers.Queries.{last_split}
use Rattle.go_chains.proofs.board.Board.rewind.Goals as goal

pub invariant_of-self : goal.invariant_of-self
invariant_of-self g c =
    let last = last_split c.args.log.now c.requires.play in
    let put = c.put_back.ensures last.0 last.1 last.2 in
    let kept = subst (λ (b : BoardValue). IsKept b.lines (rewound b.cells last.1)) (sym c.self.view_is)
    (c.requires.cells last.0 last.1 last.2).1 in
    subst (IsKept c.self.inside.size) (sym put.cells) kept

pub returns-clause-kept : goal.returns-clause-kept
returns-clause-kept g c =
    let last = last_split c.args.log.now c.requires.play in
    let put = c.put_back.ensures last.0 last.1 last.2 in
    let kept = subst (λ (b : BoardValue). IsKept b.lines (rewound b.cells last.1)) (sym c.self.view_is)
    (c.requires.cells last.0 last.1 last.2).1 in
    subst (IsKept c.self.inside.size) (sym put.cells) kept
