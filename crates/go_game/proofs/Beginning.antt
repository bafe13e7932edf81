-- What a game keeps before its first move.
use Rattle.go_game.specs.declared.superko.Superko.{Superko}
use Rattle.go_board.specs.Laws.{PacksTellApart}
use Rattle.go_board.specs.lemmas.Squares.{square-le}
use Rattle.go_game.specs.declared.superko.Superko.TheVariants.{Positional}
use Rattle.std.specs.Prelude.{pos, replicate}
use Rattle.std.proofs.Common.{arith, rules, ◌≡◌, ◌≢◌, ◌<◌, ◌≤◌, ◌*◌, ◌∙◌, ◌&&◌, true, false, not, inl, inr, ℕ, IsTrue, List, [], ◌∷◌, Option, Some, None, length, map, refl, sym, ap, subst}
use Rattle.std.proofs.lemmas.Bool.{cases_Bool, false≢true}
use Rattle.std.proofs.lemmas.List.{get_or-replicate, length-replicate}
use Rattle.go_board.specs.declared.colour.Colour.{Colour}
use Rattle.go_board.specs.declared.colour.Colour.TheVariants.{Black, White}
use Rattle.go_board.specs.declared.size.TheConstants.{MAX_LINES}
use Rattle.go_board.specs.Colours.{Colouring, colour_at}
use Rattle.go_board.specs.Grids.{GridValue}
use Rattle.go_board.specs.Reaching.{has_colour, is_dead, is_same, reaches}
use Rattle.go_chains.specs.declared.change.Change.{Change}
use Rattle.go_chains.specs.Sound.{IsKept}
use Rattle.go_chains.specs.Boards.{BoardValue, colouring_of, grid_of}
use Rattle.go_game.specs.declared.step.Step.{Step}
use Rattle.go_board.specs.Living.{AreAlive}
use Rattle.go_board.specs.declared.vertex.Move.{Move}
use Rattle.go_game.specs.inner.Held.{IsHeld, IsKeeping, Start, made_of, start_of}
use Rattle.go_history.specs.declared.key.Key.{Key}
use Rattle.go_history.specs.Histories.{HistoryValue, IsBegun}
use Rattle.go_game.specs.inner.Histories.{IsKeyOf, StandsFor}
use Rattle.go_board.specs.Komi.{IsKomi}
use Rattle.go_game.specs.Standings.{seen_by, stood}
use Rattle.go_game.proofs.Remembered.{history_begun}

-- an empty board has no dead stone
pub none_alive : (n : ℕ) (g : Colouring) → g ≡ replicate (n * n) None → AreAlive n g
none_alive n g is k low =
    let none : colour_at g k ≡ None = ap (λ (h : Colouring). colour_at h k) is
    ∙ get_or-replicate (n * n) k None None low in
    ap (λ (v : Option Colour). not (is_same v None) && not (reaches n g k None)) none

-- a stone that isn't dead reaches empty
alive_reaches : (n : ℕ) (g : Colouring) (k : ℕ) → is_dead n g k ≡ false → colour_at g k ≢ None →
    IsTrue (reaches n g k None)
alive_reaches n g k alive stone = elim (cases_Bool (reaches n g k None)) [
  | inl lives ↦ lives
  | inr dead ↦ absurd (false≢true
      (sym alive ∙ ap (λ b. not (has_colour g k None) && not b) dead ∙ held (colour_at g k) refl))
]
  where
    held : (v : Option Colour) → colour_at g k ≡ v → (not (is_same v None) && not false) ≡ true
    held None e = absurd (stone e)
    held (Some Black) e = refl
    held (Some White) e = refl

pub held_begun : (start : Start) → (0 < start.lines) × (start.lines ≤ MAX_LINES) →
    length start.colours ≡ start.lines * start.lines → IsKomi start.komi → AreAlive start.lines start.colours
    → IsHeld start [] 0 0
held_begun start size whole komi_is alive = record {
  played = tt;
  sound = record {
    size = size;
    whole = whole;
    komi = komi_is;
    alive = λ p low stone. alive_reaches start.lines start.colours p (alive p low) stone;
    legal = λ k m low. absurd (omega (arith, low));
  };
  black_taken = refl;
  white_taken = refl;
}

pub keeping_begun : PacksTellApart →
    {start : Start} (b : BoardValue) (log : List (List Change)) (history : HistoryValue) (p : Key)
    → IsHeld start [] 0 0 → b.lines ≡ start.lines → grid_of b ≡ start.colours → IsKept b.lines b.cells → log ≡ [] →
    IsBegun history p → IsKeyOf p (seen_by start.rule (start.colours, start.first))
    → IsKeeping start [] b log history 0 0
keeping_begun law {start = start} b log history p held lines colours kept empty begun packs = record {
  held = held;
  tracked = record {
    lines = lines;
    first = b.cells;
    kept = subst (λ (n : ℕ). IsKept n b.cells) lines kept;
    begun = ap (λ (n : ℕ). colouring_of n b.cells) (sym lines) ∙ colours;
    went = (empty, refl);
  };
  seen = history_begun law (start.lines * start.lines) (square-le start.lines held.sound.size.1) history p
      (seen_by start.rule (start.colours, start.first)) begun packs held.sound.whole;
}

pub komi_none : IsKomi (pos 0)
komi_none = search rules

-- the same on an empty board
pub keeping_empty : PacksTellApart → (n : ℕ) → (0 < n) × (n ≤ MAX_LINES) →
    {start : Start} {steps : List Step} {b : BoardValue} {log : List (List Change)} {history : HistoryValue} (p : Key)
    → start.lines ≡ n → start.colours ≡ replicate (n * n) None → IsKomi start.komi → b.lines ≡ n
    → grid_of b ≡ replicate (n * n) None → IsKept b.lines b.cells → log ≡ [] → steps ≡ [] → IsBegun history p
    → IsKeyOf p (seen_by start.rule (start.colours, start.first))
    → IsKeeping start steps b log history 0 0
keeping_empty law n size {start = start} {b = b} {log = log} {history = history} p lines colours komi_is b_lines
    b_colours kept empty none begun packs =
    let here : start.colours ≡ replicate (start.lines * start.lines) None = colours
    ∙ ap (λ m. let g : Colouring = replicate (m * m) None in g) (sym lines) in
    let held = held_begun start (subst (λ (m : ℕ). (0 < m) × (m ≤ MAX_LINES)) (sym lines) size)
    (ap length here ∙ length-replicate {A = Option Colour} (start.lines * start.lines) None) komi_is
    (none_alive start.lines start.colours here) in
    subst (λ (xs : List Step). IsKeeping start xs b log history 0 0) (sym none)
    (keeping_begun law b log history p held (b_lines ∙ sym lines) (b_colours ∙ sym colours) kept empty begun packs)

-- another rule, while no move stands
pub keeping_by : PacksTellApart →
    (rule : Superko) {start : Start} {steps : List Step} {b : BoardValue} {log : List (List Change)}
    {history history' : HistoryValue} (p : Key) {black white : ℕ}
    → IsKeeping start steps b log history black white → map made_of steps ≡ [] → IsBegun history' p →
    IsKeyOf p (seen_by rule (start.colours, start.first))
    → IsKeeping (record start { rule = rule }) steps b log history' black white
keeping_by law rule {start = start} {history' = history'} p k none begun packs = record {
  held = record {
    played = k.held.played;
    sound = record {
      size = k.held.sound.size;
      whole = k.held.sound.whole;
      komi = k.held.sound.komi;
      alive = k.held.sound.alive;
      legal = λ i m low. let few = ap length none in absurd (omega (arith, low, few));
    };
    black_taken = k.held.black_taken;
    white_taken = k.held.white_taken;
  };
  tracked = k.tracked;
  seen = subst (λ (moves : List Move).
      StandsFor (start.lines * start.lines) history' (stood rule start.lines start.colours start.first moves))
      (sym none)
      (history_begun law (start.lines * start.lines) (square-le start.lines k.held.sound.size.1) history' p
      (seen_by rule (start.colours, start.first)) begun packs k.held.sound.whole);
}

-- another start, while no move stands
pub keeping_anew : PacksTellApart →
    {old : Start} {steps : List Step} {was : BoardValue} {log : List (List Change)} {known : HistoryValue}
    {black white : ℕ}
    → IsKeeping old steps was log known black white → map made_of steps ≡ []
    → (grid : GridValue) (first : Colour) (b : BoardValue) (history : HistoryValue) (p : Key)
    → (0 < grid.lines) × (grid.lines ≤ MAX_LINES) → length grid.colours ≡ grid.lines * grid.lines →
    AreAlive grid.lines grid.colours
    → b.lines ≡ grid.lines → grid_of b ≡ grid.colours → IsKept b.lines b.cells → IsBegun history p →
    IsKeyOf p (seen_by Positional (grid.colours, first))
    → IsKeeping (start_of Positional grid (pos 0) first) steps b log history black white
keeping_anew law {steps = []} {log = log} {black = black} k none grid first b history p size whole alive lines colours
    kept begun packs =
    let start = start_of Positional grid (pos 0) first in
    let held = held_begun start size whole komi_none alive in
    let at_none = keeping_begun law b log history p held lines colours kept k.tracked.went.0 begun packs in
    subst (λ (w : ℕ). IsKeeping start [] b log history black w) (sym k.held.white_taken)
    (subst (λ (x : ℕ). IsKeeping start [] b log history x 0) (sym k.held.black_taken) at_none)
keeping_anew law {steps = s ∷ steps} k none grid first b history p size whole alive lines colours kept begun packs =
    absurd (cc)
