use Rattle.std.proofs.Common.{arith, ◌≡◌, ◌∙◌, ◌+◌, ◌++◌, ◌∷◌, [], ℕ, List, Ok, Option, Result, ap, cond, length, map, refl, rules, sym, subst}
use Rattle.std.specs.declared.alloc.AllocError.{AllocError}
use Rattle.go_game.specs.declared.step.Step.{Step}
use Rattle.go_game.specs.Counts.{IsLogged}
use Rattle.go_game.specs.inner.Histories.{IsNoted}
use Rattle.go_game.specs.Standings.{GameValue, mover_by}
use Rattle.go_game.specs.inner.Held.{made_of, start_of}
use Rattle.go_game.proofs.Counting.{logged_pass, seen}
use Rattle.go_game.proofs.Placing.{placed_more, placed_now}
use Rattle.go_game.proofs.Played.{made_push}
use Rattle.go_game.proofs.Turns.{keep_pass, passed}
use Rattle.go_game.proofs.game.Game.pass.Goals as goal

pub invariant_of-self-2 : goal.invariant_of-self-2
invariant_of-self-2 g c =
    let pushed : c.push-pushed.new.self.items ≡ c.self.inside.steps.items ++ passed c.args.colour ∷ [] =
    c.push-pushed.ensures.items ∙ ap
    (λ b. let xs : List Step = cond b (c.reserve.new.self.items ++ passed c.args.colour ∷ [])
    c.reserve.new.self.items in xs) (sym c.if-prove.ensures.value)
    ∙ ap (λ (xs : List Step). xs ++ passed c.args.colour ∷ []) c.reserve.ensures.items in
    let made : map made_of c.push-pushed.new.self.items ≡ map made_of c.self.inside.steps.items ++ made_of
    (passed c.args.colour) ∷ [] = ap (λ (xs : List Step). map made_of xs) pushed
    ∙ made_push c.self.inside.steps.items (passed c.args.colour) in (
      keep_pass c.packs_tell_colourings_apart.ensures c.args.colour c.self.invariant.0 pushed c.write_pack.ensures
          (c.key-key.ensures.mover ∙ ap (mover_by c.self.inside.superko) c.other.ensures)
          (subst (λ (i : ℕ). IsNoted c.self.inside.history c.note.new.self
          (record c.key-key.result { pack = c.write_pack.new.packed }) (i + 1))
          (let l = c.len.ensures in let ok = c.reserve.new.self.ok in let same =
          ap length c.reserve.ensures.items in omega (arith, l, ok, same)) (record {
            known = c.in-Ok._known;
            found = c.in-Ok.ensures.known;
            noted = λ e. c.in-Ok.ensures.noted
                (ap (λ (o : Option ℕ). let r : Result (Option ℕ) AllocError = Ok o in r) e);
            stood = λ j e. c.in-Ok.ensures.stood j
                (ap (λ (o : Option ℕ). let r : Result (Option ℕ) AllocError = Ok o in r) e);
          })),
      placed_more c.self.inside.superko c.self.inside.start.lines c.self.inside.start.colours c.self.inside.first
          (map made_of c.self.inside.steps.items) (map made_of c.push-pushed.new.self.items)
          (made_of (passed c.args.colour)) made c.self.inside.placed c.self.inside.placed (λ d row col there. there)
          (placed_now c.self.inside.superko c.self.inside.start.lines c.self.inside.start.colours
          c.self.inside.start.colours c.self.inside.first (map made_of c.self.inside.steps.items)
          c.self.inside.placed c.self.invariant.1) c.self.invariant.1,
    )

pub returns-clause-costs : goal.returns-clause-costs
returns-clause-costs g c =
    let pushed : c.push-pushed.new.self.items ≡ c.self.inside.steps.items ++ passed c.args.colour ∷ [] =
    c.push-pushed.ensures.items ∙ ap
    (λ b. let xs : List Step = cond b (c.reserve.new.self.items ++ passed c.args.colour ∷ [])
    c.reserve.new.self.items in xs) (sym c.if-prove.ensures.value)
    ∙ ap (λ (xs : List Step). xs ++ passed c.args.colour ∷ []) c.reserve.ensures.items in
    let new : GameValue = seen (start_of c.self.inside.superko c.self.inside.start c.self.inside.komi
    c.self.inside.first) c.push-pushed.new.self.items c.self.inside.board c.self.inside.log c.self.inside.meter in
    record {
      err = search rules;
      logged = subst (λ (v : GameValue). IsLogged v new 0) c.self.view_is
          (logged_pass c.self.invariant.0 c.push-pushed.new.self.items (passed c.args.colour) pushed refl
          c.self.inside.meter);
      count = search rules;
      refused = search rules;
      writes = search rules;
      idle = search rules;
    }
