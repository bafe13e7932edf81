use Rattle.std.proofs.Common.{arith, ◌≡◌, ◌∙◌, Bool, true, false, not, refl, sym, ap, subst, Option, None, Some, slice_set}
use Rattle.std.specs.Prelude.{is_none, is_some}
use Rattle.go_board.specs.declared.colour.Colour.{Colour}
use Rattle.go_board.specs.declared.point.Point.{Point}
use Rattle.go_board.specs.PackBytes.{bytes_of}
use Rattle.go_board.specs.declared.vertex.Vertex.TheVariants.{At}
use Rattle.go_board.specs.Points.{number_of}
use Rattle.go_board.specs.Reaching.{moved}
use Rattle.go_game.specs.inner.Held.{IsPlayable}
use Rattle.go_game.specs.Legal.{is_legal}
use Rattle.go_game.specs.Standings.{GameValue, board_of, mover_by, seen_after}
use Rattle.std.proofs.lemmas.List.{get_or-set_same}
use Rattle.go_board.specs.Colours.{Colouring, colour_at}
use Rattle.go_game.proofs.Legal.{legal_passes}
use Rattle.go_game.proofs.Turns.{whole_board}
use Rattle.go_game.proofs.Puts.{new_on}
use Rattle.go_game.proofs.game.Game.leaves_new.Goals as goal

none_is : {A : Type 0} (o : Option A) (b : Bool) → is_some o ≡ not b → b ≡ is_none o
none_is None true e = refl
none_is None false e = cc
none_is (Some x) true e = cc
none_is (Some x) false e = refl

-- the play takes nothing
abbrev IsStill : GameValue → Colour → Point → Type 0
IsStill v d p = moved v.standing.lines (board_of v.standing) d (number_of v.standing.lines p) ≡ slice_set
    (board_of v.standing) (number_of v.standing.lines p) (Some d)

pub returns : goal.returns
returns g c =
    let playable = subst (λ (v : GameValue). IsPlayable v.standing.lines (board_of v.standing) (At c.args.p))
    (sym c.self.view_is) (c.requires.on, c.requires.vacant) in
    let quiet = subst (λ (v : GameValue). IsStill v c.args.colour c.args.p) (sym c.self.view_is) c.requires.quiet in
    let known = new_on c.self.invariant.0 c.args.colour c.args.p
    c.key-key.result (ap bytes_of c.key-key.ensures.pack ∙ c.pack_with-pack.ensures)
    (c.key-key.ensures.mover ∙ ap (mover_by c.self.inside.superko) c.other.ensures)
    quiet playable c.look_up.result c.look_up.ensures in
    none_is c.look_up.result c.is_none.result c.is_none.ensures ∙ known
    ∙ ap (λ (v : GameValue). is_legal v.standing c.args.colour (At c.args.p)) c.self.view_is

pub returns-then-is_first_there : goal.returns-then-is_first_there
returns-then-is_first_there g c =
    let s = c.args.self.now.standing in
    let whole = whole_board s.lines s.start s.moves c.size.ensures.sound.whole in
    let low = c.points_by_number.ensures.number s.lines c.args.p c.requires.on in
    let here : colour_at (moved s.lines (board_of s) c.args.colour (number_of s.lines c.args.p))
    (number_of s.lines c.args.p) ≡ Some c.args.colour =
    ap (λ (g : Colouring). colour_at g (number_of s.lines c.args.p)) c.requires.quiet
    ∙ get_or-set_same (board_of s) (number_of s.lines c.args.p) (Some c.args.colour) None (omega (arith, whole, low)) in
    sym (legal_passes s c.args.colour (At c.args.p) (
      c.requires.on,
      c.requires.vacant,
      λ there. c.if-is_first_there.ensures (seen_after s c.args.colour (number_of s.lines c.args.p)) refl there here,
    ))
