-- The turns of a board, one more at the end and one less.
use Rattle.std.proofs.Common.{◌≡◌, ◌∙◌, ℕ, List, [], ◌∷◌, ◌++◌, refl, sym, ap, subst}
use Rattle.go_board.specs.declared.colour.Colour.{Colour}
use Rattle.go_board.specs.declared.vertex.Move.{Move}
use Rattle.go_board.specs.declared.vertex.Vertex.{Vertex}
use Rattle.go_board.specs.declared.vertex.Vertex.TheVariants.{Pass, At}
use Rattle.go_board.specs.Colours.{Colouring}
use Rattle.go_chains.specs.declared.change.Change.{Change}
use Rattle.go_chains.specs.Sound.{IsKept}
use Rattle.go_chains.specs.Boards.{colouring_of}
use Rattle.go_game.specs.Standings.{after_vertex, board}
use Rattle.go_game.specs.inner.Trails.{IsTurn, WentThrough}

-- a turn leaves a kept board with the colouring of the rules
pub turn_kept : (n : ℕ) (cells : List ℕ) (c : Colour) (v : Vertex) (plays : List (List Change)) (next : List ℕ)
    (rest : List (List Change))
    → IsKept n cells → IsTurn n cells c v plays next rest → IsKept n next
    × (colouring_of n next ≡ after_vertex n (colouring_of n cells) c v)
turn_kept n cells c Pass plays next rest kept turn = (subst (IsKept n) (sym turn.0) kept, ap (colouring_of n) turn.0)
turn_kept n cells c (At p) plays next rest kept turn = (turn.4, turn.5)

-- and so do all turns
pub went_kept : (n : ℕ) (first : List ℕ) (moves : List Move) (plays : List (List Change)) (last : List ℕ)
    → IsKept n first → WentThrough n first moves plays last → IsKept n last
    × (colouring_of n last ≡ board n (colouring_of n first) moves)
went_kept n first [] plays last kept went = (subst (IsKept n) went.1 kept, ap (colouring_of n) (sym went.1))
went_kept n first (m ∷ moves) plays last kept went =
    let one = turn_kept n first m.colour m.vertex plays went.0 went.1 kept went.2 in
    let all = went_kept n went.0 moves went.1 last one.0 went.3 in
    (all.0, all.1 ∙ ap (λ (g : Colouring). board n g moves) one.1)

-- more plays after a turn's own
turn_longer : (n : ℕ) (cells : List ℕ) (c : Colour) (v : Vertex) (plays : List (List Change)) (next : List ℕ)
    (rest tail : List (List Change))
    → IsTurn n cells c v plays next rest → IsTurn n cells c v (plays ++ tail) next (rest ++ tail)
turn_longer n cells c Pass plays next rest tail turn = (turn.0, ap (λ (l : List (List Change)). l ++ tail) turn.1)
turn_longer n cells c (At p) plays next rest tail turn =
    (turn.0, ap (λ (l : List (List Change)). l ++ tail) turn.1, turn.2, turn.3, turn.4, turn.5)

-- one turn more at the end
pub went_more : (n : ℕ) (first : List ℕ) (moves : List Move) (plays : List (List Change)) (last : List ℕ) (m : Move)
    (tail : List (List Change)) (new : List ℕ)
    → WentThrough n first moves plays last → IsTurn n last m.colour m.vertex tail new [] →
    WentThrough n first (moves ++ m ∷ []) (plays ++ tail) new
went_more n first [] plays last m tail new went turn =
    let T : List (List Change) → List ℕ → Type 0 = λ l cells. IsTurn n cells m.colour m.vertex l new [] in (
      new,
      [],
      subst (λ (cells : List ℕ). T (plays ++ tail) cells) (sym went.1)
          (subst (λ (l : List (List Change)). T (l ++ tail) last) (sym went.0) turn),
      (refl, refl),
    )
went_more n first (x ∷ moves) plays last m tail new went turn = (
  went.0,
  went.1 ++ tail,
  turn_longer n first x.colour x.vertex plays went.0 went.1 tail went.2,
  went_more n went.0 moves went.1 last m tail new went.3 turn,
)

-- the last turn, and what was before it
pub record LastTurn (n : ℕ) (first : List ℕ) (moves : List Move) (m : Move) (plays : List (List Change))
    (last : List ℕ) : Type 0 where
  pub before : List ℕ
  pub prefix : List (List Change)
  pub tail : List (List Change)
  pub split : plays ≡ prefix ++ tail
  pub went : WentThrough n first moves prefix before
  pub turn : IsTurn n before m.colour m.vertex tail last []

-- a turn's own plays before those after it
turn_apart : (n : ℕ) (cells : List ℕ) (c : Colour) (v : Vertex) (plays : List (List Change)) (next : List ℕ)
    (rest prefix tail : List (List Change))
    → IsTurn n cells c v plays next rest → rest ≡ prefix ++ tail → (own : List (List Change)) × (plays ≡ own ++ tail)
    × IsTurn n cells c v own next prefix
turn_apart n cells c Pass plays next rest prefix tail turn split = (prefix, sym turn.1 ∙ split, (turn.0, refl))
turn_apart n cells c (At p) plays next rest prefix tail turn split = (
  turn.0 ∷ prefix,
  turn.1 ∙ ap (λ (l : List (List Change)). turn.0 ∷ l) split,
  (turn.0, refl, turn.2, turn.3, turn.4, turn.5),
)

pub last_turn : (n : ℕ) (first : List ℕ) (moves : List Move) (m : Move) (plays : List (List Change)) (last : List ℕ)
    → WentThrough n first (moves ++ m ∷ []) plays last → LastTurn n first moves m plays last
last_turn n first [] m plays last went =
    let T : List (List Change) → List ℕ → Type 0 = λ l cells. IsTurn n first m.colour m.vertex plays cells l in
    record {
      before = first;
      prefix = [];
      tail = plays;
      split = refl;
      went = (refl, refl);
      turn = subst (λ (cells : List ℕ). T [] cells) went.3.1
          (subst (λ (l : List (List Change)). T l went.0) went.3.0 went.2);
    }
last_turn n first (x ∷ moves) m plays last went =
    let rest = last_turn n went.0 moves m went.1 last went.3 in
    let own = turn_apart n first x.colour x.vertex plays went.0 went.1 rest.prefix rest.tail went.2 rest.split in
    record {
      before = rest.before;
      prefix = own.0;
      tail = rest.tail;
      split = own.1;
      went = (went.0, rest.prefix, own.2, rest.went);
      turn = rest.turn;
    }
