-- What a move's changes are among those of a game, and what taking it back gives.
use Rattle.std.proofs.Common.{arith, ◌≡◌, ◌≤◌, ◌+◌, ◌*◌, ◌∙◌, ℕ, zero, suc, List, [], ◌∷◌, ◌++◌, length, length-append, map, slice_index, Option, Some, None, refl, sym, ap, ap₂, subst}
use Rattle.std.specs.Prelude.{IfNone, IfSome}
use Rattle.std.proofs.lemmas.List.{append-nil, same_from_push}
use Rattle.go_board.specs.declared.colour.Colour.{Colour}
use Rattle.go_board.specs.declared.point.Point.{Point}
use Rattle.go_board.specs.declared.vertex.Move.{Move}
use Rattle.go_board.specs.declared.vertex.Vertex.{Vertex}
use Rattle.go_board.specs.declared.vertex.Vertex.TheVariants.{Pass, At}
use Rattle.go_chains.specs.declared.change.Change.{Change}
use Rattle.go_chains.specs.Rewound.{IsRewound, PlayLogged, rewound, undone}
use Rattle.go_chains.specs.Boards.{BoardValue}
use Rattle.go_history.specs.Histories.{HistoryValue}
use Rattle.go_game.specs.declared.step.Step.{Step}
use Rattle.go_game.specs.Changes.{changes_of, own_changes, plays_after}
use Rattle.go_game.specs.Counts.{AreLogged, AreTakenBack, IsAsBefore, IsLogged, IsTakenBack}
use Rattle.go_game.specs.inner.Held.{IsKeeping, Start, made_of, standing_of}
use Rattle.go_game.specs.Standings.{GameValue, Standing, with_move, without_last}
use Rattle.go_game.specs.inner.Trails.{IsTurn, WentThrough}
use Rattle.go_game.proofs.Played.{made_push}
use Rattle.go_game.proofs.TakenBack.{taken_back}

own_more : (n : ℕ) (cells : List ℕ) (c : Colour) (v : Vertex) (plays : List (List Change)) (next : List ℕ)
    (rest tail : List (List Change)) → IsTurn n cells c v plays next rest →
    own_changes v (plays ++ tail) ≡ own_changes v plays
own_more n cells c Pass plays next rest tail turn = refl
own_more n cells c (At p) plays next rest tail turn =
    ap (λ (l : List (List Change)). own_changes (At p) (l ++ tail)) turn.1
    ∙ sym (ap (λ (l : List (List Change)). own_changes (At p) l) turn.1)

later_is : (n : ℕ) (cells : List ℕ) (c : Colour) (v : Vertex) (plays : List (List Change)) (next : List ℕ)
    (rest : List (List Change)) → IsTurn n cells c v plays next rest → plays_after v plays ≡ rest
later_is n cells c Pass plays next rest turn = sym turn.1
later_is n cells c (At p) plays next rest turn = ap (λ (l : List (List Change)). plays_after (At p) l) turn.1

after_more : (n : ℕ) (cells : List ℕ) (c : Colour) (v : Vertex) (plays : List (List Change)) (next : List ℕ)
    (rest tail : List (List Change)) → IsTurn n cells c v plays next rest → plays_after v (plays ++ tail) ≡ rest
    ++ tail
after_more n cells c Pass plays next rest tail turn = ap (λ (l : List (List Change)). l ++ tail) (sym turn.1)
after_more n cells c (At p) plays next rest tail turn =
    ap (λ (l : List (List Change)). plays_after (At p) (l ++ tail)) turn.1

-- one move more has its changes after those of the earlier ones
changes_push : (n : ℕ) (first : List ℕ) (moves : List Move) (plays : List (List Change)) (last : List ℕ) (m : Move)
    (tail : List (List Change))
    → WentThrough n first moves plays last → changes_of (moves ++ m ∷ []) (plays ++ tail) ≡ changes_of moves plays
    ++ own_changes m.vertex tail ∷ []
changes_push n first [] plays last m tail went =
    ap (λ (l : List (List Change)). own_changes m.vertex (l ++ tail) ∷ []) went.0
changes_push n first (x ∷ moves) plays last m tail went =
    let own : List Change = own_changes x.vertex plays in
    ap₂ (λ (mine : List Change) (l : List (List Change)). mine ∷ changes_of (moves ++ m ∷ []) l)
    (own_more n first x.colour x.vertex plays went.0 went.1 tail went.2)
    (after_more n first x.colour x.vertex plays went.0 went.1 tail went.2)
    ∙ ap (λ (l : List (List Change)). own ∷ l) (changes_push n went.0 moves went.1 last m tail went.3)
    ∙ ap (λ (l : List (List Change)). own ∷ changes_of moves l ++ own_changes m.vertex tail ∷ [])
    (sym (later_is n first x.colour x.vertex plays went.0 went.1 went.2))

-- each move has its changes
pub as_many : (moves : List Move) (plays : List (List Change)) → length (changes_of moves plays) ≡ length moves
as_many [] plays = refl
as_many (m ∷ moves) plays = let same = as_many moves (plays_after m.vertex plays) in omega (arith, same)

-- what contracts see of what a game keeps
abbrev pub seen : Start → List Step → BoardValue → List (List Change) → ℕ → GameValue
seen start steps b log count = record {
  standing = standing_of start steps;
  cells = b.cells;
  changes = changes_of (map made_of steps) log;
  trace =
      b.trace;
  count = count;
}

module _ {start : Start} {steps : List Step} {b : BoardValue} {log : List (List Change)} {history : HistoryValue}
    {black white : ℕ}
    (k : IsKeeping start steps b log history black white) (more : List Step) (s : Step)
    (is : more ≡ steps ++ s ∷ []) where
  all : map made_of more ≡ map made_of steps ++ made_of s ∷ []
  all = ap (λ (xs : List Step). map made_of xs) is ∙ made_push steps s

  changes_pass : s.made.vertex ≡ Pass → changes_of (map made_of more) log ≡ changes_of (map made_of steps) log
      ++ [] ∷ []
  changes_pass pass =
      ap (λ (ms : List Move). changes_of ms log) all
      ∙ ap (λ (l : List (List Change)). changes_of (map made_of steps ++ made_of s ∷ []) l) (sym (append-nil log))
      ∙ changes_push start.lines k.tracked.first (map made_of steps) log b.cells (made_of s) [] k.tracked.went
      ∙ ap (λ (v : Vertex). changes_of (map made_of steps) log ++ own_changes v [] ∷ []) pass

  changes_put : (p : Point) → s.made.vertex ≡ At p → (log' : List (List Change)) (own : List Change)
      → log' ≡ log ++ own ∷ [] → changes_of (map made_of more) log' ≡ changes_of (map made_of steps) log ++ own ∷ []
  changes_put p at log' own gained =
      ap₂ changes_of all gained
      ∙ changes_push start.lines k.tracked.first (map made_of steps) log b.cells (made_of s) (own ∷ []) k.tracked.went
      ∙ ap (λ (v : Vertex). changes_of (map made_of steps) log ++ own_changes v (own ∷ []) ∷ []) at

  pub logged_pass : s.made.vertex ≡ Pass → (count : ℕ) →
      IsLogged (seen start steps b log count) (seen start more b log count) 0
  logged_pass pass count = record {
    own = [];
    gained = changes_pass pass;
    traced = sym (append-nil b.trace);
    back = refl;
    few = omega arith;
    ticked = omega arith;
  }

  pub logged_put : (p : Point) → s.made.vertex ≡ At p →
      (b' : BoardValue) (log' : List (List Change)) (most most' count count' : ℕ) → PlayLogged b b' log log' most →
      most ≡ most'
      → ((own : List Change) → log' ≡ log ++ own ∷ [] → count + length own ≤ count')
      → IsLogged (seen start steps b log count) (seen start more b' log' count') most'
  logged_put p at b' log' most most' count count' logged is_most ticked = record {
    own = logged.changes;
    gained = changes_put p at log' logged.changes logged.gained;
    traced = logged.traced;
    back = logged.back;
    few = subst (λ m. let few : Type 0 = length logged.changes ≤ m in few) is_most logged.few;
    ticked = ticked logged.changes logged.gained;
  }

  -- the move taken back again
  pub taken_back_pass : s.made.vertex ≡ Pass → (count : ℕ) →
      IsTakenBack (seen start more b log count) (seen start steps b log count)
  taken_back_pass pass count = record
      { own = []; lost = changes_pass pass; cells = refl; traced = sym (append-nil b.trace); count = omega arith }

  pub taken_back_put : (p : Point) → s.made.vertex ≡ At p
      → (b' : BoardValue) (log' : List (List Change)) (own : List Change) (count count' : ℕ) → log' ≡ log ++ own ∷ []
      → b.cells ≡ rewound b'.cells own → b.trace ≡ b'.trace ++ undone b'.cells own → count' ≡ count + length own
      → IsTakenBack (seen start more b' log' count) (seen start steps b log count')
  taken_back_put p at b' log' own count count' gained cells traced ticks =
      record { own = own; lost = changes_put p at log' own gained; cells = cells; traced = traced; count = ticks }

-- as many writes put changes back as they are
undone-length : (cells : List ℕ) (changes : List Change) → length (undone cells changes) ≡ length changes
undone-length cells [] = refl
undone-length cells (x ∷ changes) =
    let last : List Change = record { place = x.place; old = slice_index (rewound cells changes) x.place } ∷ [] in
    omega (arith, length-append (undone cells changes) last, undone-length cells changes)

-- a play that was taken back at once wrote each of its changes twice
pub each_twice : (before then after : BoardValue) (log log' log'' : List (List Change)) (most ticks ticks' : ℕ)
    (logged : PlayLogged before then log log' most) → IsRewound then after log'' log logged.changes ticks ticks' →
    length after.trace ≤ length before.trace + 2 * length logged.changes
each_twice before then after log log' log'' most ticks ticks' logged back =
    omega (
      arith,
      ap length logged.traced,
      ap length back.traced,
      length-append before.trace logged.changes,
      length-append then.trace (undone then.cells logged.changes),
      undone-length then.cells logged.changes,
    )

-- what a play did after cells were read
pub logged_later : (old new : GameValue) (count most : ℕ) → old.count ≤ count →
    IsLogged (record old { count = count }) new most → IsLogged old new most
logged_later old new count most onward logged = record {
  own = logged.own;
  gained = logged.gained;
  traced = logged.traced;
  back = logged.back;
  few = logged.few;
  ticked = let each = logged.ticked in omega (arith, each, onward);
}

-- after a move there is one to take back
pub taken_some : {P : Type 0} (X : Type 0) (s t : Standing) (m : Move) (o : Option Move) → t ≡ with_move s m →
    IfNone o ((t.moves ≡ []) × X) → IfSome o (λ _. P) → P
taken_some X s t m None played none some =
    let long : length t.moves ≡ length (s.moves ++ m ∷ []) = ap (λ (u : Standing). length u.moves) played in
    absurd (omega (arith, long, length-append s.moves (m ∷ []), ap length none.0))
taken_some X s t m (Some last) played none some = some

-- a play taken back leaves the game as before it
module _ (old mid new : GameValue) (m : Move) (most : ℕ) (played : mid.standing ≡ with_move old.standing m)
    (logged : IsLogged old mid most)
    (less : new.standing ≡ without_last 1 mid.standing) (back : IsTakenBack mid new) where
  own_is : (new.changes ≡ old.changes) × (back.own ≡ logged.own)
  own_is = same_from_push _ _ _ _ (sym back.lost ∙ logged.gained)

  pub played_back : IsAsBefore old new
  played_back = record {
    standing = less ∙ ap (without_last 1) played ∙ taken_back old.standing (m ∷ []);
    cells = back.cells ∙ ap (rewound mid.cells) own_is.1 ∙ logged.back;
    changes = own_is.0;
    onward = omega (arith, logged.ticked, back.count);
    counted = omega (
      arith,
      logged.ticked,
      back.count,
      ap length own_is.1,
      ap length logged.traced,
      length-append old.trace logged.own,
      ap length back.traced,
      length-append mid.trace (undone mid.cells back.own),
      undone-length mid.cells back.own,
    );
  }

  pub back_count : new.count ≤ mid.count + most
  back_count = let few = logged.few in let same = ap length own_is.1 in omega (arith, few, same, back.count)

-- the game is as before what left it as before
pub again_as_before : (old mid new : GameValue) → IsAsBefore old mid → IsAsBefore mid new → IsAsBefore old new
again_as_before old mid new first second = record {
  standing = second.standing ∙ first.standing;
  cells = second.cells ∙ first.cells;
  changes = second.changes ∙ first.changes;
  onward = omega (arith, first.onward, second.onward);
  counted = omega (arith, first.counted, second.counted);
}

-- any moves and as many taken back
pub restored : (n : ℕ) (before then then' after : GameValue) → then'.cells ≡ then.cells → then'.changes ≡ then.changes →
    AreLogged n before then → AreTakenBack n then' after
    → (after.cells ≡ before.cells) × (after.changes ≡ before.changes)
restored zero before then then' after cells changes same back = (
  ap (λ (v : GameValue). v.cells) (sym back) ∙ cells
      ∙ ap (λ (v : GameValue). v.cells) (sym same),
  ap (λ (v : GameValue). v.changes) (sym back) ∙ changes
      ∙ ap (λ (v : GameValue). v.changes) (sym same),
)
restored (suc n) before then then' after cells changes logged back =
    let last = logged.3 in
    let taken = back.1 in
    let same = same_from_push _ _ _ _ (sym taken.lost ∙ changes ∙ last.gained) in
    restored n before logged.0 back.0 after (taken.cells ∙ ap₂ rewound cells same.1 ∙ last.back) same.0 logged.1 back.2
