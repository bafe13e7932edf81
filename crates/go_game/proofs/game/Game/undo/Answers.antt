use Rattle.std.proofs.Common.{arith, ◌∙◌, ◌+◌, ◌++◌, ◌∷◌, [], ℕ, List, ap, map, sym, subst}
use Rattle.go_history.specs.Histories.{IsForgotten}
use Rattle.go_chains.specs.declared.change.Change.{Change}
use Rattle.go_game.specs.Counts.{IsTakenBack}
use Rattle.go_game.specs.Standings.{GameValue, mover_by}
use Rattle.go_game.proofs.Counting.{seen, taken_back_pass, taken_back_put}
use Rattle.go_game.specs.declared.step.Step.{Step}
use Rattle.go_game.specs.inner.Held.{made_of, start_of}
use Rattle.go_game.proofs.Placing.{placed_less}
use Rattle.go_game.proofs.Played.{held_prefix, made_push, share_held}
use Rattle.go_game.proofs.Undoing.{back_play, forgotten_put, keep_less_pass, keep_less_put, last_play, some_play}
use Rattle.go_game.proofs.game.Game.undo.Goals as goal

pub invariant_of-self-in-Pass : goal.invariant_of-self-in-Pass
invariant_of-self-in-Pass g c = (
  keep_less_pass c.pop.new.self.items c.in_ok-step.step c.self.invariant.0 c.in_ok-step.ensures.items
      c.packs_tell_colourings_apart.ensures c.forget_at.new.self
      (record c.key-key.result { pack = c.write_pack.new.packed }) c.write_pack.ensures
      (c.key-key.ensures.mover ∙ ap (mover_by c.self.inside.superko) c.other.ensures)
      (subst (λ (i : ℕ). IsForgotten c.self.inside.history c.forget_at.new.self
      (record c.key-key.result { pack = c.write_pack.new.packed }) (i + 1))
      (let l = c.len.ensures in let ok = c.pop.new.self.ok in omega (arith, l, ok)) c.forget_at.ensures) c.in-Pass.is,
  placed_less c.self.inside.superko c.self.inside.start.lines c.self.inside.start.colours c.self.inside.first
      (map made_of c.pop.new.self.items) (map made_of c.self.inside.steps.items) (made_of c.in_ok-step.step)
      (ap (λ (xs : List Step). map made_of xs) c.in_ok-step.ensures.items
      ∙ made_push c.pop.new.self.items c.in_ok-step.step) c.self.inside.placed c.self.invariant.1,
)

pub rewind-requires-clause-play : goal.rewind-requires-clause-play
rewind-requires-clause-play g c =
    some_play c.pop.new.self.items c.in_ok-step.step c.self.invariant.0 c.in_ok-step.ensures.items c.in-At.field-0
    c.in-At.is

pub rewind-requires-clause-cells : goal.rewind-requires-clause-cells
rewind-requires-clause-cells g c =
    back_play c.pop.new.self.items c.in_ok-step.step c.self.invariant.0 c.in_ok-step.ensures.items c.in-At.field-0
    c.in-At.is

pub give_back-requires-clause-black : goal.give_back-requires-clause-black
give_back-requires-clause-black g c =
    (share_held c.pop.new.self.items c.in_ok-step.step c.in_ok-step.ensures.items c.self.invariant.0.held).0

pub give_back-requires-clause-white : goal.give_back-requires-clause-white
give_back-requires-clause-white g c =
    (share_held c.pop.new.self.items c.in_ok-step.step c.in_ok-step.ensures.items c.self.invariant.0.held).1

pub invariant_of-self-in-At : goal.invariant_of-self-in-At
invariant_of-self-in-At g c = (
  keep_less_put c.pop.new.self.items c.in_ok-step.step c.self.invariant.0 c.in_ok-step.ensures.items
      c.packs_tell_colourings_apart.ensures c.forget.new.self
      (record c.key-key.result { pack = c.write_pack.new.packed }) c.write_pack.ensures
      (c.key-key.ensures.mover ∙ ap (mover_by c.self.inside.superko) c.other.ensures)
      (forgotten_put c.pop.new.self.items c.in_ok-step.step c.self.invariant.0 c.in_ok-step.ensures.items
      c.packs_tell_colourings_apart.ensures c.forget.new.self
      (record c.key-key.result { pack = c.write_pack.new.packed }) c.write_pack.ensures
      (c.key-key.ensures.mover ∙ ap (mover_by c.self.inside.superko) c.other.ensures) c.in-At.field-0 c.in-At.is
      c.give_back.new.self.black c.give_back.new.self.white
      (held_prefix c.pop.new.self.items c.in_ok-step.step c.give_back.new.self.black c.give_back.new.self.white
      c.in_ok-step.ensures.items c.self.invariant.0.held c.give_back.ensures.black c.give_back.ensures.white)
      c.forget.ensures) c.in-At.field-0 c.in-At.is c.rewind.new.self c.rewind.new.log c.give_back.new.self.black
      c.give_back.new.self.white
      c.self.inside.meter c.rewind.new.meter c.rewind.ensures.rewound c.give_back.ensures.black
      c.give_back.ensures.white,
  placed_less c.self.inside.superko c.self.inside.start.lines c.self.inside.start.colours c.self.inside.first
      (map made_of c.pop.new.self.items) (map made_of c.self.inside.steps.items) (made_of c.in_ok-step.step)
      (ap (λ (xs : List Step). map made_of xs) c.in_ok-step.ensures.items
      ∙ made_push c.pop.new.self.items c.in_ok-step.step) c.self.inside.placed c.self.invariant.1,
)

pub returns-in-Pass-clause-back : goal.returns-in-Pass-clause-back
returns-in-Pass-clause-back g c =
    let less = (invariant_of-self-in-Pass g c).0 in
    let new : GameValue = seen (start_of c.self.inside.superko c.self.inside.start c.self.inside.komi
    c.self.inside.first) c.pop.new.self.items c.self.inside.board c.self.inside.log c.self.inside.meter in
    subst (λ (v : GameValue). IsTakenBack v new) c.self.view_is
    (taken_back_pass less c.self.inside.steps.items c.in_ok-step.step c.in_ok-step.ensures.items c.in-Pass.is
    c.self.inside.meter)

pub returns-in-At-clause-back : goal.returns-in-At-clause-back
returns-in-At-clause-back g c =
    let less = (invariant_of-self-in-At g c).0 in
    let play = last_play c.pop.new.self.items c.in_ok-step.step c.self.invariant.0 c.in_ok-step.ensures.items
    c.in-At.field-0 c.in-At.is in
    let put = c.rewind.ensures.rewound _ play.changes play.split in
    let new : GameValue = seen (start_of c.self.inside.superko c.self.inside.start c.self.inside.komi
    c.self.inside.first) c.pop.new.self.items c.rewind.new.self c.rewind.new.log c.rewind.new.meter in
    subst (λ (v : GameValue). IsTakenBack v new) c.self.view_is
    (taken_back_put less c.self.inside.steps.items c.in_ok-step.step c.in_ok-step.ensures.items c.in-At.field-0
    c.in-At.is
    c.self.inside.board c.self.inside.log play.changes c.self.inside.meter c.rewind.new.meter
    (play.split ∙ ap (λ (l : List (List Change)). l ++ play.changes ∷ []) (sym put.dropped)) put.cells put.traced
    put.count)
