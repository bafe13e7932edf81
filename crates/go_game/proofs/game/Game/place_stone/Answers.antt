use Rattle.std.proofs.Common.{arith, ◌≡◌, ◌∙◌, ◌++◌, ◌∷◌, [], inr, List, None, length, map, refl, sym, ap, subst, rules}
use Rattle.std.proofs.Math.ListN.{length-map}
use Rattle.go_board.specs.declared.vertex.Vertex.TheVariants.{At}
use Rattle.go_board.specs.Points.{number_of}
use Rattle.go_chains.specs.Boards.{grid_of}
use Rattle.go_chains.specs.Playing.{most_of}
use Rattle.go_game.specs.Counts.{IsLogged, most_for}
use Rattle.go_game.specs.inner.Held.{IsPlayable, made_of, start_of}
use Rattle.go_game.specs.inner.Placed.{AreOfPlaced}
use Rattle.go_game.specs.Prisoners.{stones_taken}
use Rattle.go_game.specs.declared.step.Step.{Step}
use Rattle.go_game.specs.Standings.{GameValue, IsLegal, IsRepeat, board, board_of, mover_by, stood}
use Rattle.go_game.proofs.Counting.{each_twice, logged_put, seen}
use Rattle.go_game.proofs.Placing.{placed_more, placed_now, placed_put}
use Rattle.go_game.proofs.Played.{made_push, room_held}
use Rattle.go_game.proofs.Puts.{legal_put, most_is, no_stone, occupied_stone, played_put, repeats_put, same_error, taken_put}
use Rattle.go_game.proofs.Turns.{keep_back, keep_put, placed, rewinds, whole_board}
use Rattle.go_game.proofs.game.Game.place_stone.Goals as goal

pub returns-in-Err-Occupied-clause-others : goal.returns-in-Err-Occupied-clause-others
returns-in-Err-Occupied-clause-others g c =
    let playable = subst (λ (v : GameValue). IsPlayable v.standing.lines (board_of v.standing) (At c.args.p))
    (sym c.self.view_is) (c.requires.on, c.requires.vacant) in
    absurd (no_stone c.self.invariant.0 c.args.colour c.args.p playable
    (occupied_stone c.play.result c.in-Err-Occupied.field-0 c.in-Err-Occupied.is c.in-Err-Occupied.field-0-is
    c.play.ensures.occupied))

pub returns-in-Err-clause-repeats : goal.returns-in-Err-clause-repeats
returns-in-Err-clause-repeats g c k e =
    subst (λ (v : GameValue). IsRepeat v.standing c.args.colour (At c.args.p) k) c.self.view_is
    (repeats_put c.self.invariant.0 c.args.colour c.args.p c.play.new.self c.in-Ok.ensures.moved
    (record c.key-key.result { pack = c.write_pack.new.packed }) c.write_pack.ensures
    (c.key-key.ensures.mover ∙ ap (mover_by c.self.inside.superko) c.other.ensures) k
    (c.in-Err.ensures.repeats k (same_error c.in-Err.error _ e)))

pub returns-in-Ok-note_step-clause-legal : goal.returns-in-Ok-note_step-clause-legal
returns-in-Ok-note_step-clause-legal g c =
    let playable = subst (λ (v : GameValue). IsPlayable v.standing.lines (board_of v.standing) (At c.args.p))
    (sym c.self.view_is) (c.requires.on, c.requires.vacant) in
    subst (λ (v : GameValue). IsLegal v.standing c.args.colour (At c.args.p)) c.self.view_is
    (legal_put c.self.invariant.0 c.args.colour c.args.p c.play.new.self c.in-Ok.ensures.moved
    (record c.key-key.result { pack = c.write_pack.new.packed }) c.write_pack.ensures
    (c.key-key.ensures.mover ∙ ap (mover_by c.self.inside.superko) c.other.ensures) playable
    c.in-Ok-note_step.ensures.lacked)

pub returns-in-Ok-note_step-clause-taken : goal.returns-in-Ok-note_step-clause-taken
returns-in-Ok-note_step-clause-taken g c of =
    taken_put c.self.invariant.0 c.args.colour c.args.p c.play.new.self c.in-Ok.ensures.moved c.in-Ok.taken
    c.in-Ok.ensures.theirs c.in-Ok.ensures.own of
    ∙ ap (λ (v : GameValue). stones_taken v.standing c.args.colour (At c.args.p) of) c.self.view_is

pub add-requires-clause-black : goal.add-requires-clause-black
add-requires-clause-black g c =
    let playable = subst (λ (v : GameValue). IsPlayable v.standing.lines (board_of v.standing) (At c.args.p))
    (sym c.self.view_is) (c.requires.on, c.requires.vacant) in
    let played = played_put c.self.invariant.0 c.args.colour c.args.p c.play.new.self c.in-Ok.ensures.moved
    c.in-Ok.taken c.in-Ok.ensures.theirs c.in-Ok.ensures.own playable in
    (room_held (record { together = c.taken_and_left.ensures.together; placed = c.taken_and_left.ensures.placed })
    (placed c.args.colour c.args.p c.in-Ok.taken) c.self.invariant.0.held
    (let few = c.self.inside.steps.small in let ok = c.self.inside.steps.ok in let long =
    length-map c.self.inside.steps.items made_of in omega arith) played).0

pub add-requires-clause-white : goal.add-requires-clause-white
add-requires-clause-white g c =
    let playable = subst (λ (v : GameValue). IsPlayable v.standing.lines (board_of v.standing) (At c.args.p))
    (sym c.self.view_is) (c.requires.on, c.requires.vacant) in
    let played = played_put c.self.invariant.0 c.args.colour c.args.p c.play.new.self c.in-Ok.ensures.moved
    c.in-Ok.taken c.in-Ok.ensures.theirs c.in-Ok.ensures.own playable in
    (room_held (record { together = c.taken_and_left.ensures.together; placed = c.taken_and_left.ensures.placed })
    (placed c.args.colour c.args.p c.in-Ok.taken) c.self.invariant.0.held
    (let few = c.self.inside.steps.small in let ok = c.self.inside.steps.ok in let long =
    length-map c.self.inside.steps.items made_of in omega arith) played).1

pub rewind-requires-clause-cells : goal.rewind-requires-clause-cells
rewind-requires-clause-cells g c earlier changes split =
    rewinds
    c.self.invariant.0 c.play.ensures.lines c.in-Ok.ensures.costs.logged earlier changes split

pub invariant_of-self-in-Ok-note_step : goal.invariant_of-self-in-Ok-note_step
invariant_of-self-in-Ok-note_step g c =
    let playable = subst (λ (v : GameValue). IsPlayable v.standing.lines (board_of v.standing) (At c.args.p))
    (sym c.self.view_is) (c.requires.on, c.requires.vacant) in
    let start = c.self.inside.start in
    let made : map made_of c.note_step.new.steps.items ≡ map made_of c.self.inside.steps.items ++ made_of
    (placed c.args.colour c.args.p c.in-Ok.taken) ∷ [] =
    ap (λ (xs : List Step). map made_of xs) c.in-Ok-note_step.ensures.pushed
    ∙ made_push c.self.inside.steps.items (placed c.args.colour c.args.p c.in-Ok.taken) in (
      keep_put c.packs_tell_colourings_apart.ensures c.args.colour c.args.p c.in-Ok.taken
          (record c.key-key.result { pack = c.write_pack.new.packed }) c.self.invariant.0
          c.in-Ok-note_step.ensures.pushed
          (record {
            lines = c.play.ensures.lines;
            moved_to = c.in-Ok.ensures.moved;
            most = most_of c.self.inside.board.lines (grid_of c.self.inside.board) c.args.colour
                (number_of c.self.inside.board.lines c.args.p);
            logged = c.in-Ok.ensures.costs.logged;
            kept = c.play.ensures.kept;
            packs = c.write_pack.ensures;
            mover = c.key-key.ensures.mover ∙ ap (mover_by c.self.inside.superko) c.other.ensures;
            noted = record {
              known = None;
              found = sym c.in-Ok-note_step.ensures.lacked;
              noted = λ e.
                  c.in-Ok-note_step.ensures.noted;
              stood = λ j e. cc;
            };
          })
          (played_put c.self.invariant.0 c.args.colour c.args.p c.play.new.self c.in-Ok.ensures.moved c.in-Ok.taken
          c.in-Ok.ensures.theirs c.in-Ok.ensures.own playable)
          (legal_put c.self.invariant.0 c.args.colour c.args.p c.play.new.self c.in-Ok.ensures.moved
          (record c.key-key.result { pack = c.write_pack.new.packed }) c.write_pack.ensures
          (c.key-key.ensures.mover ∙ ap (mover_by c.self.inside.superko) c.other.ensures) playable
          c.in-Ok-note_step.ensures.lacked) c.add.ensures.black c.add.ensures.white,
      placed_more c.self.inside.superko start.lines start.colours c.self.inside.first
          (map made_of c.self.inside.steps.items) (map made_of c.note_step.new.steps.items)
          (made_of (placed c.args.colour c.args.p c.in-Ok.taken)) made c.self.inside.placed c.put.new.self
          (λ d row col there. (c.put.ensures d row col).1 (inr there))
          (placed_put c.points_by_number.ensures start.lines start.colours
          (board start.lines start.colours (map made_of c.self.inside.steps.items)) c.self.inside.placed
          c.put.new.self c.args.colour c.args.p
          (whole_board start.lines start.colours (map made_of c.self.inside.steps.items)
          c.self.invariant.0.held.sound.whole) playable.0 c.put.ensures
          (placed_now c.self.inside.superko start.lines start.colours start.colours c.self.inside.first
          (map made_of c.self.inside.steps.items) c.self.inside.placed c.self.invariant.1)) c.self.invariant.1,
    )

pub invariant_of-self-in-Err : goal.invariant_of-self-in-Err
invariant_of-self-in-Err g c = (
  keep_back c.self.invariant.0 c.play.ensures.lines c.in-Ok.ensures.costs.logged
      (c.rewind.ensures.rewound c.self.inside.log c.in-Ok.ensures.costs.logged.changes
      c.in-Ok.ensures.costs.logged.gained) c.in-Err.ensures.history c.in-Err.ensures.steps,
  subst (λ (xs : List Step). AreOfPlaced c.self.inside.start.lines c.self.inside.start.colours c.self.inside.placed
      (stood c.self.inside.superko c.self.inside.start.lines c.self.inside.start.colours c.self.inside.first
      (map made_of xs))) (sym c.in-Err.ensures.steps) c.self.invariant.1,
)

pub returns-in-Ok-note_step-clause-costs : goal.returns-in-Ok-note_step-clause-costs
returns-in-Ok-note_step-clause-costs g c =
    let most : most_of c.self.inside.board.lines (grid_of c.self.inside.board) c.args.colour
    (number_of c.self.inside.board.lines c.args.p) ≡ most_for c.args.self.now.standing c.args.colour (At c.args.p) =
    most_is c.self.invariant.0 c.args.colour c.args.p
    ∙ ap (λ (v : GameValue). most_for v.standing c.args.colour (At c.args.p)) c.self.view_is in
    let before : c.self.inside.meter ≡ c.args.self.now.count = ap (λ (v : GameValue). v.count) c.self.view_is in
    let ticks = c.play.ensures.costs.count in
    let new : GameValue = seen (start_of c.self.inside.superko c.self.inside.start c.self.inside.komi
    c.self.inside.first) c.note_step.new.steps.items c.play.new.self c.play.new.log c.play.new.meter in
    record {
      err = search rules;
      logged = subst (λ (v : GameValue). IsLogged v new (most_for c.args.self.now.standing c.args.colour (At c.args.p)))
          c.self.view_is
          (logged_put c.self.invariant.0 c.note_step.new.steps.items (placed c.args.colour c.args.p c.in-Ok.taken)
          c.in-Ok-note_step.ensures.pushed c.args.p refl
          c.play.new.self c.play.new.log (most_of c.self.inside.board.lines (grid_of c.self.inside.board) c.args.colour
          (number_of c.self.inside.board.lines c.args.p))
          (most_for c.args.self.now.standing c.args.colour (At c.args.p)) c.self.inside.meter c.play.new.meter
          c.in-Ok.ensures.costs.logged most c.play.ensures.costs.ticked);
      count = omega (arith, most, before, ticks);
      refused = search rules;
      writes = search rules;
      idle = search rules;
    }

pub returns-in-Err-Occupied-clause-costs : goal.returns-in-Err-Occupied-clause-costs
returns-in-Err-Occupied-clause-costs g c =
    let playable = subst (λ (v : GameValue). IsPlayable v.standing.lines (board_of v.standing) (At c.args.p))
    (sym c.self.view_is) (c.requires.on, c.requires.vacant) in
    absurd (no_stone c.self.invariant.0 c.args.colour c.args.p playable
    (occupied_stone c.play.result c.in-Err-Occupied.field-0 c.in-Err-Occupied.is c.in-Err-Occupied.field-0-is
    c.play.ensures.occupied))

pub returns-in-Err-Memory-clause-costs : goal.returns-in-Err-Memory-clause-costs
returns-in-Err-Memory-clause-costs g c =
    let most : most_of c.self.inside.board.lines (grid_of c.self.inside.board) c.args.colour
    (number_of c.self.inside.board.lines c.args.p) ≡ most_for c.args.self.now.standing c.args.colour (At c.args.p) =
    most_is c.self.invariant.0 c.args.colour c.args.p
    ∙ ap (λ (v : GameValue). most_for v.standing c.args.colour (At c.args.p)) c.self.view_is in
    let before : c.self.inside.meter ≡ c.args.self.now.count = ap (λ (v : GameValue). v.count) c.self.view_is in
    let ticks = c.play.ensures.costs.count in
    record {
      err = search rules;
      logged = search rules;
      count = search rules;
      refused = omega (arith, most, before, ticks);
      writes = search rules;
      idle = search rules;
    }

pub returns-in-Err-clause-costs : goal.returns-in-Err-clause-costs
returns-in-Err-clause-costs g c =
    let most : most_of c.self.inside.board.lines (grid_of c.self.inside.board) c.args.colour
    (number_of c.self.inside.board.lines c.args.p) ≡ most_for c.args.self.now.standing c.args.colour (At c.args.p) =
    most_is c.self.invariant.0 c.args.colour c.args.p
    ∙ ap (λ (v : GameValue). most_for v.standing c.args.colour (At c.args.p)) c.self.view_is in
    let before : c.self.inside.meter ≡ c.args.self.now.count = ap (λ (v : GameValue). v.count) c.self.view_is in
    let ticks = c.play.ensures.costs.count in
    let long : length c.self.inside.board.trace ≡ length c.args.self.now.trace =
    ap (λ (v : GameValue). length v.trace) c.self.view_is in
    let logged = c.in-Ok.ensures.costs.logged in
    let few = logged.few in
    let put = c.rewind.ensures.rewound c.self.inside.log logged.changes logged.gained in
    let back = put.count in
    let written = each_twice c.self.inside.board c.play.new.self c.rewind.new.self c.self.inside.log c.play.new.log
    c.rewind.new.log _ _ _ logged put in
    let ticked = c.play.ensures.costs.ticked logged.changes logged.gained in
    record {
      err = record {
        standing = search rules;
        cells = search rules;
        changes = search rules;
        onward = search rules;
        counted = omega (arith, before, long, written, ticked, back);
      };
      logged = search rules;
      count = search rules;
      refused = omega (arith, most, before, ticks, few, back);
      writes = omega (arith, most, long, written, few);
      idle = search rules;
    }
