use Rattle.std.proofs.Common.{◌≡◌, ◌∙◌, ℕ, Bool, Option, ap, refl, sym}
use Rattle.go_board.specs.declared.colour.Colour.{Colour}
use Rattle.go_board.specs.Colours.{Colouring, colour_at}
use Rattle.go_board.specs.Points.{number_of}
use Rattle.go_board.specs.Reaching.{joined}
use Rattle.go_game.specs.Standings.{GameValue, board_of}
use Rattle.go_game.proofs.Apart.{apart, not_same, same}
use Rattle.go_game.proofs.Keeping.{seen_as, some_of}
use Rattle.go_game.proofs.game.Game.same_chain.Goals as goal

pub same_chain-requires-2-clause-p_stone : goal.same_chain-requires-2-clause-p_stone
same_chain-requires-2-clause-p_stone g c =
    let f : ℕ → Colouring → Option Colour = λ n k. colour_at k (number_of n c.args.p) in
    let seen = seen_as f c.self.invariant.0
    ∙ ap (λ (v : GameValue). f v.standing.lines (board_of v.standing)) c.self.view_is in
    let some = some_of c.colour_at-colour.result c.if-is_none.ensures in
    (some.0, seen ∙ sym c.colour_at-colour.ensures ∙ some.1)

pub same_chain-requires-2-clause-q_stone : goal.same_chain-requires-2-clause-q_stone
same_chain-requires-2-clause-q_stone g c =
    let f : ℕ → Colouring → Option Colour = λ n k. colour_at k (number_of n c.args.q) in
    let seen = seen_as f c.self.invariant.0
    ∙ ap (λ (v : GameValue). f v.standing.lines (board_of v.standing)) c.self.view_is in
    let some = some_of c.colour_at-colour.result c.if-is_none.ensures in
    let alike : c.colour_at-colour.result ≡ c.colour_at.result =
    same _ refl refl c.colour_at-colour.result c.colour_at.result c.if-ne.ensures in
    (some.0, seen ∙ sym c.colour_at.ensures ∙ sym alike ∙ some.1)

pub returns-then-ne : goal.returns-then-ne
returns-then-ne g c =
    let s = c.args.self.now.standing in
    let n = s.lines in
    sym (apart n (board_of s) (number_of n c.args.p) (number_of n c.args.q)
    (c.joined_by_a_path.ensures n (board_of s) (number_of n c.args.p) (number_of n c.args.q)
    (c.points_by_number.ensures.number n c.args.p c.requires.p_on))
    (λ e. not_same _ refl refl c.colour_at-colour.result c.colour_at.result c.if-ne.ensures
    (c.colour_at-colour.ensures ∙ e ∙ sym c.colour_at.ensures)))

pub returns : goal.returns
returns g c =
    let f : ℕ → Colouring → Bool = λ n k. joined n k (number_of n c.args.p) (number_of n c.args.q) in
    let seen = seen_as f c.self.invariant.0
    ∙ ap (λ (v : GameValue). f v.standing.lines (board_of v.standing)) c.self.view_is in
    c.same_chain-2.ensures ∙ seen
