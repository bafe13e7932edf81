use Rattle.std.proofs.Common.{arith, rules, true≢false, ◌≡◌, ◌∙◌, ◌+◌, ◌*◌, ◌≤◌, ℕ, Err, Some, refl, sym, ap, subst, slice_set}
use Rattle.go_board.specs.declared.vertex.Move.{Move}
use Rattle.go_board.specs.declared.vertex.Vertex.TheVariants.{At}
use Rattle.go_board.specs.Colours.{Colouring}
use Rattle.go_board.specs.Points.{number_of}
use Rattle.go_board.specs.Reaching.{moved}
use Rattle.go_game.specs.Counts.{IsLogged, most_for}
use Rattle.go_game.specs.inner.Held.{IsPlayable, standing_of, start_of}
use Rattle.go_game.specs.Legal.{TakesNothing, is_legal}
use Rattle.go_game.specs.Standings.{GameValue, board_of, with_move}
use Rattle.go_game.proofs.Counting.{logged_later}
use Rattle.go_game.proofs.Keeping.{seen_as}
use Rattle.go_game.proofs.Legal.{legal_passes, repeat_fails}
use Rattle.go_game.proofs.Puts.{moved_is, no_stone, still_is}
use Rattle.go_game.proofs.game.Game.judge.Goals as goal

pub is_quiet-requires-clause-empty : goal.is_quiet-requires-clause-empty
is_quiet-requires-clause-empty g c =
    let playable = subst (λ (v : GameValue). IsPlayable v.standing.lines (board_of v.standing) (At c.args.p))
    (sym c.self.view_is) (c.requires.on, c.requires.vacant) in
    no_stone c.self.invariant.0 c.args.colour c.args.p playable

pub leaves_new-new-requires-clause-quiet : goal.leaves_new-new-requires-clause-quiet
leaves_new-new-requires-clause-quiet g c =
    let f : ℕ → Colouring → Colouring = λ n k. slice_set k (number_of n c.args.p) (Some c.args.colour) in
    sym (moved_is c.self.invariant.0 c.args.colour c.args.p) ∙ c.if-is_quiet.ensures.quiet.0 refl
    ∙ seen_as f c.self.invariant.0

pub returns-then-new-clause-judged : goal.returns-then-new-clause-judged
returns-then-new-clause-judged g c =
    let f : ℕ → Colouring → Colouring = λ n k. slice_set k (number_of n c.args.p) (Some c.args.colour) in
    let quiet = sym (moved_is c.self.invariant.0 c.args.colour c.args.p) ∙ c.if-is_quiet.ensures.quiet.0 refl
    ∙ seen_as f c.self.invariant.0 in (
      search rules,
      search rules,
      subst (λ (v : GameValue). moved v.standing.lines (board_of v.standing) c.args.colour
          (number_of v.standing.lines c.args.p) ≡ slice_set (board_of v.standing) (number_of v.standing.lines c.args.p)
          (Some c.args.colour)) c.self.view_is quiet,
      search rules,
    )

pub returns-in-Ok-clause-judged : goal.returns-in-Ok-clause-judged
returns-in-Ok-clause-judged g c =
    let s = standing_of (start_of c.self.inside.superko c.self.inside.start c.self.inside.komi c.self.inside.first)
    c.self.inside.steps.items in
    let before : c.self.inside.meter ≡ c.args.self.now.count = ap (λ (v : GameValue). v.count) c.self.view_is in
    let made : Move = record { colour = c.args.colour; vertex = At c.args.p } in
    let glanced = c.is_quiet.ensures.count in
    let onward = c.is_quiet.ensures.onward in
    let ticks = subst (λ (v : GameValue). let few : Type 0 =
    c.place_stone.new.self.count + 52 ≤ c.is_quiet.new.meter + 3 * most_for v.standing c.args.colour (At c.args.p) in
    few)
    c.self.view_is c.in-Ok.ensures.costs.count in (
      sym (ap (λ (v : GameValue). is_legal v.standing c.args.colour (At c.args.p)) c.self.view_is)
          ∙ legal_passes s c.args.colour (At c.args.p) c.in-Ok.ensures.legal,
      (
        c.requires.on,
        c.requires.vacant,
        λ same.
            let still = subst (λ (v : GameValue). TakesNothing v.standing c.args.colour c.args.p) (sym c.self.view_is)
            (c.requires.on, c.requires.vacant, same) in
            absurd (true≢false (sym (c.is_quiet.ensures.quiet.1
            (still_is c.self.invariant.0 c.args.colour c.args.p still.2)) ∙ c.if-is_quiet.false)),
      ),
      subst (λ (v : GameValue). c.place_stone.new.self.standing ≡ with_move v.standing made) c.self.view_is
          c.in-Ok.ensures.played,
      logged_later c.args.self.now c.place_stone.new.self c.is_quiet.new.meter
          (most_for c.args.self.now.standing c.args.colour (At c.args.p)) (omega (arith, before, onward))
          (subst (λ (v : GameValue). IsLogged (record v { count = c.is_quiet.new.meter }) c.place_stone.new.self
          (most_for v.standing c.args.colour (At c.args.p))) c.self.view_is c.in-Ok.ensures.costs.logged),
      omega (arith, before, glanced, ticks),
    )

pub returns-in-Err-Repeats-clause-judged : goal.returns-in-Err-Repeats-clause-judged
returns-in-Err-Repeats-clause-judged g c =
    let k = c.in-Err-Repeats.field-0-0 in
    let s = standing_of (start_of c.self.inside.superko c.self.inside.start c.self.inside.komi c.self.inside.first)
    c.self.inside.steps.items in (
      sym (ap (λ (v : GameValue). is_legal v.standing c.args.colour (At c.args.p)) c.self.view_is)
          ∙ repeat_fails s c.args.colour (At c.args.p) k
          (c.in-Err-Repeats.ensures.repeats k (ap Err c.in-Err-Repeats.field-0-is)),
      search rules,
    )

-- a play that takes nothing isn't played
pub returns-in-Ok-clause-glance : goal.returns-in-Ok-clause-glance
returns-in-Ok-clause-glance g c nothing =
    let still = subst (λ (v : GameValue). TakesNothing v.standing c.args.colour c.args.p) (sym c.self.view_is)
    nothing in
    absurd (true≢false (sym (c.is_quiet.ensures.quiet.1 (still_is c.self.invariant.0 c.args.colour c.args.p still.2))
    ∙ c.if-is_quiet.false))

pub returns-in-Err-Repeats-clause-glance : goal.returns-in-Err-Repeats-clause-glance
returns-in-Err-Repeats-clause-glance g c nothing =
    let still = subst (λ (v : GameValue). TakesNothing v.standing c.args.colour c.args.p) (sym c.self.view_is)
    nothing in
    absurd (true≢false (sym (c.is_quiet.ensures.quiet.1 (still_is c.self.invariant.0 c.args.colour c.args.p still.2))
    ∙ c.if-is_quiet.false))

pub returns-in-Err-clause-glance : goal.returns-in-Err-clause-glance
returns-in-Err-clause-glance g c nothing =
    let still = subst (λ (v : GameValue). TakesNothing v.standing c.args.colour c.args.p) (sym c.self.view_is)
    nothing in
    absurd (true≢false (sym (c.is_quiet.ensures.quiet.1 (still_is c.self.invariant.0 c.args.colour c.args.p still.2))
    ∙ c.if-is_quiet.false))

pub returns-in-Err-clause-memory : goal.returns-in-Err-clause-memory
returns-in-Err-clause-memory g c = (
  c.requires.on,
  c.requires.vacant,
  λ same.
      let still = subst (λ (v : GameValue). TakesNothing v.standing c.args.colour c.args.p) (sym c.self.view_is)
      (c.requires.on, c.requires.vacant, same) in
      absurd (true≢false (sym (c.is_quiet.ensures.quiet.1 (still_is c.self.invariant.0 c.args.colour c.args.p still.2))
      ∙ c.if-is_quiet.false)),
)

pub returns-in-Err-clause-err : goal.returns-in-Err-clause-err
returns-in-Err-clause-err g c = search rules

pub returns-else-new-clause-judged : goal.returns-else-new-clause-judged
returns-else-new-clause-judged g c = search rules
