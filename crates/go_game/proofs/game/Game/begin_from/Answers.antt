use Rattle.std.proofs.Common.{◌≡◌, ◌∙◌, ◌*◌, ◌<◌, ◌≤◌, ap, map, sym, subst, length, rules}
use Rattle.go_board.specs.declared.size.TheConstants.{MAX_LINES}
use Rattle.go_board.specs.Grids.{GridValue}
use Rattle.go_board.specs.PackBytes.{bytes_of}
use Rattle.go_board.specs.Packs.{packed_of}
use Rattle.go_board.specs.Living.{AreAlive}
use Rattle.go_game.specs.Standings.{GameValue, Standing}
use Rattle.go_game.specs.declared.superko.Superko.TheVariants.{Positional}
use Rattle.go_game.specs.inner.Held.{made_of}
use Rattle.go_game.proofs.Beginning.{keeping_anew}
use Rattle.go_game.proofs.Placing.{placed_start}
use Rattle.go_game.proofs.game.Game.begin_from.Goals as goal

pub invariant_of-self-2 : goal.invariant_of-self-2
invariant_of-self-2 g c =
    let i = c.self.inside in
    let start = c.copy-self-inside.result in
    let same = c.copy-self-inside.ensures in
    let none = ap (λ (v : GameValue). v.standing.moves) c.self.view_is
    ∙ ap (λ (s : Standing). s.moves) c.resize.ensures.start in (
      keeping_anew c.packs_tell_colourings_apart.ensures c.self.invariant.0 none
          start c.args.first c.fill.new.board c.restart.new.self c.key-key.result
          (subst (λ (v : GridValue). (0 < v.lines) × (v.lines ≤ MAX_LINES)) (sym same) c.fill.ensures.size)
          (subst (λ (v : GridValue). length v.colours ≡ v.lines * v.lines) (sym same) c.fill.ensures.whole)
          (subst (λ (v : GridValue). AreAlive v.lines v.colours) (sym same) c.in_default.ensures.none)
          (c.fill.ensures.lines ∙ ap (λ (v : GridValue). v.lines) (sym same))
          (c.in-Ok.ensures.colours ∙ ap (λ (v : GridValue). v.colours) (sym same))
          c.fill.ensures.kept c.restart.ensures (
            ap bytes_of c.key-key.ensures.pack ∙ c.pack.ensures ∙ ap packed_of c.in-Ok.ensures.colours
                ∙ ap (λ (v : GridValue). packed_of v.colours) (sym same),
            c.key-key.ensures.mover,
          ),
      placed_start Positional start.lines start.colours c.args.first i.placed (map made_of i.steps.items) none,
    )

pub invariant_of-self : goal.invariant_of-self
invariant_of-self g c = search rules

pub returns-in_default-fill-clause-memory : goal.returns-in_default-fill-clause-memory
returns-in_default-fill-clause-memory g c = search rules

pub returns-in_default-fill-clause-writes : goal.returns-in_default-fill-clause-writes
returns-in_default-fill-clause-writes g c = search rules
