use Rattle.std.proofs.Common.{◌≡◌, ◌*◌, ◌∙◌, ℕ, List, length, sym, subst}
use Rattle.go_board.specs.declared.colour.Colour.{Colour}
use Rattle.go_board.specs.Colours.{other}
use Rattle.go_board.specs.Rows.{AreHeld, AreStones}
use Rattle.go_chains.specs.Boards.{grid_of}
use Rattle.go_game.specs.declared.holdings.Holdings.{Holdings}
use Rattle.go_game.specs.inner.Trials.{AreHoldings}
use Rattle.go_game.proofs.Holding.{of_colour, other-other}
use Rattle.go_game.proofs.holdings.Holdings.new.Goals as goal

pub returns : goal.returns
returns c =
    let g = grid_of c.args.board.now in
    let n = c.args.board.now.lines in
    let k = c.from-lines.result in
    let d = c.args.colour in
    let lines : k ≡ n = c.from-lines.ensures ∙ c.lines.ensures.value ∙ c.size.ensures.lines in
    let stones = c.stones.ensures in
    let stones_are = of_colour n g c.stones.result stones.black stones.white in
    let own_rows = c.own_and_theirs.result.0 in
    let their_rows = c.own_and_theirs.result.1 in
    let own : AreStones k g d own_rows = subst (λ (m : ℕ). AreStones m g d own_rows) (sym lines)
    (subst (λ (rows : List ℕ). AreStones n g d rows) (sym c.own_and_theirs.ensures.own) (stones_are d)) in
    let theirs : AreStones k g (other d) their_rows = subst (λ (m : ℕ). AreStones m g (other d) their_rows) (sym lines)
    (subst (λ (rows : List ℕ). AreStones n g (other d) rows) (sym c.own_and_theirs.ensures.theirs)
    (stones_are (other d))) in
    let back : AreStones k g (other (other d)) own_rows =
    subst (λ (e : Colour). AreStones k g e own_rows) (sym (other-other d)) own in
    let own_held = c.held-own_held.ensures g d own theirs in
    let theirs_held = c.held-theirs_held.ensures g (other d) theirs back in
    let held_back : AreHeld k g (other (other d)) c.held-own_held.result =
    subst (λ (e : Colour). AreHeld k g e c.held-own_held.result) (sym (other-other d)) own_held in
    subst (λ (m : ℕ). AreHoldings m g d (let h : Holdings =
    record {
      own = own_rows;
      theirs = their_rows;
      own_held = c.held-own_held.result;
      theirs_held = c.held-theirs_held.result;
      own_area = c.count_alone-own_area.result;
      theirs_area = c.count_alone-theirs_area.result;
    } in h)) lines
    (record {
      whole = subst (λ (m : ℕ). length g ≡ m * m) (sym (c.from-lines.ensures ∙ c.lines.ensures.value))
          c.size.ensures.whole;
      own = own;
      theirs = theirs;
      own_held = own_held;
      theirs_held = theirs_held;
      own_area = c.count_alone-own_area.ensures g d own_held theirs_held;
      theirs_area = c.count_alone-theirs_area.ensures g (other d) theirs_held held_back;
    })
