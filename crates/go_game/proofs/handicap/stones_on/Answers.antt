use Rattle.std.proofs.Common.{◌≡◌, ◌∙◌, ◌*◌, ◌≤◌, ℕ, List, None, Some, false, length, replicate, inl, inr, sym, ap, ap₂, get_or, take, subst}
use Rattle.std.specs.Prelude.{slice_set}
use Rattle.std.proofs.lemmas.Bool.{cases_lt}
use Rattle.std.proofs.lemmas.List.{take_all, take_more}
use Rattle.go_board.specs.declared.colour.Colour.TheVariants.{Black}
use Rattle.go_board.specs.declared.point.Point.{Point}
use Rattle.go_board.specs.Colours.{Colouring}
use Rattle.go_board.specs.Points.{IsOn, number_of}
use Rattle.go_board.specs.Reaching.{is_dead}
use Rattle.go_game.proofs.Stones.{laid, laid_is, with_black, with_black-more, stones_plain, stones_leave, past_alive}
use Rattle.go_game.proofs.handicap.stones_on.Goals as goal

origin : Point
origin = record { col = 0; row = 0 }

pub set-requires : goal.set-requires
unfolding origin
set-requires c =
    let p = get_or c.args.points.now c.loop-point.point-index origin in
    subst (λ (m : ℕ). IsOn m p) (sym (c.loop-point.invariant.lines ∙ c.new-grid.ensures.lines))
    (c.requires c.loop-point.point-index origin c.loop-point-test.true)

pub loop-point-preserved : goal.loop-point-preserved
unfolding origin
loop-point-preserved c =
    let n = c.new-grid.result.lines in
    let start = c.new-grid.result.colours in
    let points = c.args.points.now in
    let i = c.loop-point.point-index in
    let p = get_or points i origin in
    let now = c.loop-point.invariant in
    record {
      lines = c.set.ensures.lines ∙ now.lines;
      colours = c.set.ensures.colours
          ∙ ap₂ (λ (g : Colouring) (m : ℕ). slice_set g (number_of m p) (Some Black)) now.colours now.lines
          ∙ sym (ap (with_black n start) (take_more points i origin c.loop-point-test.true)
          ∙ with_black-more n start (take i points) p);
    }

-- all stones are laid once the loop is done
all_laid : (n m : ℕ) (listed : List Point) (i : ℕ) (g start : Colouring) → m ≡ n → start ≡ replicate (n * n) None →
    length listed ≤ i → g ≡ with_black m start (take i listed) → g ≡ laid n listed
all_laid n m listed i g start size empty done now = now ∙ ap (with_black m start) (take_all i listed done)
    ∙ ap₂ (λ (k : ℕ) (h : Colouring). with_black k h listed) size empty

pub returns-clause-colours : goal.returns-clause-colours
returns-clause-colours c =
    all_laid c.args.size c.new-grid.result.lines c.args.points.now c.loop-point.point-index c.loop-point.grid.colours
    c.new-grid.result.colours c.new-grid.ensures.lines c.new-grid.ensures.colours
    c.loop-point-test.false c.loop-point.invariant.colours
    ∙ laid_is c.args.size c.args.points.now

pub returns-clause-alive : goal.returns-clause-alive
returns-clause-alive c = λ few k.
    let n = c.args.size in
    let points = c.args.points.now in
    let colours : c.loop-point.grid.colours ≡ laid n points =
    all_laid n c.new-grid.result.lines points c.loop-point.point-index c.loop-point.grid.colours
    c.new-grid.result.colours c.new-grid.ensures.lines c.new-grid.ensures.colours c.loop-point-test.false
    c.loop-point.invariant.colours in
    let left = stones_leave n points few in
    subst (λ (g : Colouring). is_dead n g k ≡ false) (sym colours) (elim (cases_lt k (n * n)) [
      | inl on ↦ c.one_colour_lives.ensures n (laid n points) Black left.0 left.1 left.2
          (λ j low. stones_plain n points j) k on
      | inr past ↦ past_alive n points k past
    ])
