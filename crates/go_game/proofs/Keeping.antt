-- What the board of a game says, by the game's standing.
use Rattle.std.proofs.Common.{◌≡◌, ◌∙◌, ℕ, true, cond, List, Option, Some, None, ap, ap₂, map, refl, sym}
use Rattle.std.specs.Prelude.{is_some, length}
use Rattle.std.proofs.lemmas.Bool.{false≢true}
use Rattle.go_board.specs.declared.colour.Colour.{Colour}
use Rattle.go_board.specs.declared.vertex.Move.{Move}
use Rattle.go_board.specs.declared.colour.Colour.TheVariants.{Black, White}
use Rattle.go_board.specs.Chains.{liberties}
use Rattle.go_board.specs.Reaching.{is_same}
use Rattle.go_board.specs.Colours.{Colouring, colour_at}
use Rattle.go_game.specs.Choices.{liberties_on}
use Rattle.go_chains.specs.declared.change.Change.{Change}
use Rattle.go_chains.specs.Boards.{BoardValue, colouring_of, grid_of}
use Rattle.go_history.specs.Histories.{HistoryValue}
use Rattle.go_game.specs.declared.step.Step.{Step}
use Rattle.go_game.specs.inner.Held.{IsKeeping, IsTracked, Start, made_of}
use Rattle.go_game.specs.Standings.{board}
use Rattle.go_game.proofs.Trails.{went_kept}

-- the board's colouring is the last of the positions
pub grid_is : {n : ℕ} {start : Colouring} {moves : List Move} {b : BoardValue} {log : List (List Change)} →
    IsTracked n start moves b log → grid_of b ≡ board n start moves
grid_is {n = n} {moves = moves} {b = b} {log = log} t =
    ap (λ m. colouring_of m b.cells) t.lines ∙ (went_kept n t.first moves log b.cells t.kept t.went).1
    ∙ ap (λ (g : Colouring). board n g moves) t.begun

-- what is said by the board's lines and colouring is said by the standing
pub seen_as : {X : Type 0} (f : ℕ → Colouring → X) {start : Start} {steps : List Step} {b : BoardValue}
    {log : List (List Change)} {history : HistoryValue} {black white : ℕ}
    → IsKeeping start steps b log history black white →
    f b.lines (grid_of b) ≡ f start.lines (board start.lines start.colours (map made_of steps))
seen_as f k = ap₂ f k.tracked.lines (grid_is k.tracked)

pub some_of : (o : Option Colour) → is_some o ≡ true → (x : Colour) × (o ≡ Some x)
some_of None e = absurd (false≢true e)
some_of (Some x) e = (x, refl)

-- the liberties of a stone's chain
pub liberties_of_stone : (n : ℕ) (g : Colouring) (p : ℕ) (c : Colour) → colour_at g p ≡ Some c →
    length (liberties n g p) ≡ liberties_on n g p
liberties_of_stone n g p c is =
    sym (ap (λ (o : Option Colour). let k : ℕ = cond (is_same o None) 0 (length (liberties n g p)) in k) is ∙ stone c)
  where
    stone : (c : Colour) → cond (is_same (Some c) None) 0 (length (liberties n g p)) ≡ length (liberties n g p)
    stone Black = refl
    stone White = refl
