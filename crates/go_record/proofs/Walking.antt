-- How a walk along a main line comes to its outcome, event by event.
use Rattle.std.proofs.Common.{◌≡◌, ◌≢◌, ◌∙◌, ℕ, ℤ, zero, suc, true, false, true≢false, List, [], ◌∷◌, ◌++◌, refl, sym, ap, subst, append_assoc, inl, inr}
use Rattle.std.specs.List.{flat_map}
use Rattle.std.specs.Prelude.{Option, Some, None, Result, Ok, Err, IfErr, OnOk, ◌↔◌}
use Rattle.std.proofs.lemmas.Bool.{cases_Bool}
use Rattle.go_board.specs.declared.taken.Taken.{Taken}
use Rattle.go_board.specs.declared.colour.Colour.{Colour}
use Rattle.go_board.specs.declared.point.Point.{Point}
use Rattle.go_board.specs.declared.vertex.Vertex.{Vertex}
use Rattle.go_board.specs.Colours.{Colouring}
use Rattle.go_game.specs.declared.error.PlayError.{PlayError}
use Rattle.go_game.specs.declared.error.PlayError.TheVariants as play
use Rattle.go_game.specs.Standings.{GameValue, IsLegal, IsOccupied, IsOffBoard, IsRepeat, Standing, with_move}
use Rattle.go_sgf.specs.BoardValues.{vertex_in, points_by_values}
use Rattle.go_record.specs.declared.error.RecordError.{RecordError}
use Rattle.go_record.specs.declared.error.RecordError.TheVariants.{BadValue, Memory, SetupAfterMove}
use Rattle.go_record.specs.declared.state.Remaining.{Remaining}
use Rattle.go_record.specs.declared.state.Remaining.TheVariants.{All, Moves, Nothing}
use Rattle.go_record.specs.MainLine.{Event, stones, turn, move_met}
use Rattle.go_record.specs.inner.Progress.{Goes, GoesFrom, Passes, WalkedGame, Stops, Walked, is_nothing, playing, seen}
use Rattle.go_board.specs.Living.{AreAlive}
use Rattle.go_record.specs.Walks.{Begins, IsDeadSetup, IsReason, IsRefused, Outcome, Plays, SetsUp, colour_stated, start_of, with_points}

-- ---- what is looked at

pub seen_over : (remaining : Remaining) → is_nothing remaining ≡ true → (xs ys : List Event) → seen remaining xs ≡ seen remaining ys
seen_over All e xs ys = absurd (true≢false (sym e))
seen_over (Moves k) e xs ys = absurd (true≢false (sym e))
seen_over Nothing e xs ys = refl

pub seen_turn : (remaining : Remaining) → is_nothing remaining ≡ false → (node : ℕ) (value : List ℕ) (later : List Event) →
    seen remaining (turn node value ∷ later) ≡ turn node value ∷ seen remaining later
seen_turn All e node value later = refl
seen_turn (Moves zero) e node value later = refl
seen_turn (Moves (suc k)) e node value later = refl
seen_turn Nothing e node value later = absurd (true≢false e)

pub seen_stones : (remaining : Remaining) → is_nothing remaining ≡ false →
    (node : ℕ) (c : Option Colour) (values : List (List ℕ)) (later : List Event) →
    seen remaining (stones node c values ∷ later) ≡ stones node c values ∷ seen remaining later
seen_stones All e node c values later = refl
seen_stones (Moves zero) e node c values later = refl
seen_stones (Moves (suc k)) e node c values later = refl
seen_stones Nothing e node c values later = absurd (true≢false e)

seen_none : (remaining : Remaining) → seen remaining [] ≡ []
seen_none All = refl
seen_none (Moves zero) = refl
seen_none (Moves (suc k)) = refl
seen_none Nothing = refl

-- whether a move was met
pub met : (w : WalkedGame) → w.0.has_played ≡ true → playing w ≡ Some w.1
met w e = rw e refl

pub none_met : (w : WalkedGame) → w.0.has_played ≡ false → playing w ≡ None
none_met w e = rw e refl

-- ---- single events

pub plays_end : (s : Standing) → Plays s [] (Ok s)
unfolding Plays
plays_end s = refl

pub plays_turn : (s : Standing) (node : ℕ) (value : List ℕ) (events : List Event) (outcome : Outcome) →
    Plays s events outcome → Plays s (turn node value ∷ events) outcome
unfolding Plays
plays_turn s node value events outcome h = h

pub plays_stones : (s : Standing) (node : ℕ) (c : Option Colour) (values : List (List ℕ)) (events : List Event) →
    Plays s (stones node c values ∷ events) (Err (SetupAfterMove node))
unfolding Plays
plays_stones s node c values events = refl

pub plays_bad : (s : Standing) (node : ℕ) (c : Colour) (value : List ℕ) (events : List Event) →
    vertex_in s.lines value ≡ None → Plays s (move_met node c value ∷ events) (Err (BadValue node))
unfolding Plays
plays_bad s node c value events e = rw e refl

pub plays_legal : (s : Standing) (node : ℕ) (c : Colour) (value : List ℕ) (v : Vertex) (events : List Event)
    (outcome : Outcome) → vertex_in s.lines value ≡ Some v →
    IsLegal s c v → Plays (with_move s (record { colour = c; vertex = v })) events outcome →
    Plays s (move_met node c value ∷ events) outcome
unfolding Plays
plays_legal s node c value v events outcome e l h = rw e (inl (l, h))

pub plays_refused : (s : Standing) (node : ℕ) (c : Colour) (value : List ℕ) (v : Vertex) (events : List Event)
    (outcome : Outcome) → vertex_in s.lines value ≡ Some v →
    IsRefused s c v outcome → Plays s (move_met node c value ∷ events) outcome
unfolding Plays
plays_refused s node c value v events outcome e h = rw e (inr h)

module _ (n : ℕ) (komi : ℤ) (g : Colouring) (given : Option Colour) where
  pub sets_end : (outcome : Outcome) → Begins n komi g given [] outcome → SetsUp n komi g given [] outcome
  unfolding SetsUp
  sets_end outcome h = h

  pub sets_move : (node : ℕ) (c : Colour) (value : List ℕ) (events : List Event) (outcome : Outcome) →
      Begins n komi g given (move_met node c value ∷ events) outcome →
      SetsUp n komi g given (move_met node c value ∷ events) outcome
  unfolding SetsUp
  sets_move node c value events outcome h = h

  pub sets_turn : (node : ℕ) (value : List ℕ) (c : Colour) (events : List Event) (outcome : Outcome) →
      colour_stated value ≡ Some c →
      SetsUp n komi g (Some c) events outcome → SetsUp n komi g given (turn node value ∷ events) outcome
  unfolding SetsUp
  sets_turn node value c events outcome e h = rw e h

  pub sets_turn_bad : (node : ℕ) (value : List ℕ) (events : List Event) → colour_stated value ≡ None →
      SetsUp n komi g given (turn node value ∷ events) (Err (BadValue node))
  unfolding SetsUp
  sets_turn_bad node value events e = rw e refl

  pub sets_stones : (node : ℕ) (c : Option Colour) (values : List (List ℕ)) (ps : List Point) (events : List Event)
      (outcome : Outcome) → points_by_values n values ≡ Some ps →
      SetsUp n komi (with_points n c g ps) given events outcome →
      SetsUp n komi g given (stones node c values ∷ events) outcome
  unfolding SetsUp
  sets_stones node c values ps events outcome e h = rw e h

  pub sets_stones_bad : (node : ℕ) (c : Option Colour) (values : List (List ℕ)) (events : List Event) →
      points_by_values n values ≡ None →
      SetsUp n komi g given (stones node c values ∷ events) (Err (BadValue node))
  unfolding SetsUp
  sets_stones_bad node c values events e = rw e refl

-- ---- events one after the other

pub passes_nothing : (w : WalkedGame) → Passes w [] w
passes_nothing w = record { passed = λ later outcome h. h }

pub passes_over : (w : WalkedGame) → is_nothing w.0.remaining ≡ true → (events : List Event) → Passes w events w
passes_over w e events = record {
  passed = λ later outcome h. subst (λ (xs : List Event). GoesFrom w.0 (playing w) xs outcome)
      (seen_over w.0.remaining e later (events ++ later)) h;
}

pub passes_passes : {a b c : WalkedGame} {xs ys : List Event} → Passes a xs b → Passes b ys c → Passes a (xs ++ ys) c
passes_passes {a} {b} {c} {xs} {ys} p q = record {
  passed = λ later outcome h. subst (λ (es : List Event). Goes a es outcome) (sym (append_assoc xs ys later))
      (p.passed (ys ++ later) outcome (q.passed later outcome h));
}

pub passes_stops : {a b : WalkedGame} {xs ys : List Event} {e : RecordError} → Passes a xs b → Stops b ys e →
    Stops a (xs ++ ys) e
passes_stops {a} {b} {xs} {ys} {e} p q = record {
  stopped = λ some later. subst (λ (es : List Event). Goes a es (Err e)) (sym (append_assoc xs ys later))
      (p.passed (ys ++ later) (Err e) (q.stopped some later));
}

pub stops_longer : {a : WalkedGame} {xs : List Event} {e : RecordError} → Stops a xs e → (ys : List Event) →
    Stops a (xs ++ ys) e
stops_longer {a} {xs} {e} q ys = record {
  stopped = λ some later. subst (λ (es : List Event). Goes a es (Err e)) (sym (append_assoc xs ys later))
      (q.stopped some (ys ++ later));
}

-- a walk whose game and events are known
pub goes_by : (w : WalkedGame) (o : Option GameValue) (xs ys : List Event) (outcome : Outcome) → playing w ≡ o →
    seen w.0.remaining xs ≡ ys → GoesFrom w.0 o ys outcome → Goes w xs outcome
goes_by w o xs ys outcome e f h =
    subst (λ (p : Option GameValue). GoesFrom w.0 p (seen w.0.remaining xs) outcome) (sym e)
    (subst (λ (zs : List Event). GoesFrom w.0 o zs outcome) (sym f) h)

pub goes_from : (w : WalkedGame) (o : Option GameValue) (xs : List Event) (outcome : Outcome) → playing w ≡ o →
    Goes w xs outcome → GoesFrom w.0 o (seen w.0.remaining xs) outcome
goes_from w o xs outcome e h = subst (λ (p : Option GameValue). GoesFrom w.0 p (seen w.0.remaining xs) outcome) e h

-- one event
pub passes_event : {w new : WalkedGame} (o p : Option GameValue) (event : Event) → playing w ≡ o → playing new ≡ p →
    ((later : List Event) → seen w.0.remaining (event ∷ later) ≡ event ∷ seen new.0.remaining later) →
    ((events : List Event) (outcome : Outcome) → GoesFrom new.0 p events outcome →
    GoesFrom w.0 o (event ∷ events) outcome) → Passes w (event ∷ []) new
passes_event {w} {new} o p event e f split step = record {
  passed = λ later outcome h.
      goes_by w o (event ∷ later) (event ∷ seen new.0.remaining later) outcome e (split later)
      (step (seen new.0.remaining later) outcome (goes_from new p later outcome f h));
}

pub stops_event : {w : WalkedGame} {error : RecordError} (o : Option GameValue) (remaining : Remaining) (event : Event) →
    playing w ≡ o →
    ((later : List Event) → seen w.0.remaining (event ∷ later) ≡ event ∷ seen remaining later) →
    (error ≢ Memory → (events : List Event) → GoesFrom w.0 o (event ∷ events) (Err error)) → Stops w (event ∷ []) error
stops_event {w} {error} o remaining event e split step = record {
  stopped = λ some later. goes_by w o (event ∷ later) (event ∷ seen remaining later) (Err error) e (split later)
      (step some (seen remaining later));
}

pub passes_turn_playing : (w : WalkedGame) (game : GameValue) → playing w ≡ Some game → (node : ℕ) (value : List ℕ) →
    Passes w (turn node value ∷ []) w
passes_turn_playing w game e node value = elim (cases_Bool (is_nothing w.0.remaining)) [
  | inl over ↦ passes_over w over (turn node value ∷ [])
  | inr live ↦ passes_event (Some game) (Some game) (turn node value) e e (seen_turn w.0.remaining live node value)
      (plays_turn game.standing node value)
]

-- ---- the end

pub end_playing : (w : WalkedGame) (game : GameValue) → playing w ≡ Some game → Goes w [] (Ok game.standing)
end_playing w game e = goes_by w (Some game) [] [] (Ok game.standing) e (seen_none w.0.remaining) (plays_end game.standing)

pub end_started : {T : Type 0} (w : WalkedGame) (r : Result T RecordError) (s : Standing) → playing w ≡ None →
    OnOk r (AreAlive w.0.grid.lines w.0.grid.colours
    × (s ≡ start_of w.0.grid.lines w.0.komi w.0.grid.colours w.0.given_mover)) → OnOk r (Goes w [] (Ok s))
end_started w (Ok x) s e h =
    let start : Standing = start_of w.0.grid.lines w.0.komi w.0.grid.colours w.0.given_mover in
    goes_by w None [] [] (Ok s) e (seen_none w.0.remaining)
    (sets_end w.0.grid.lines w.0.komi w.0.grid.colours w.0.given_mover (Ok s)
    (inl (h.0, subst (λ (t : Standing). Plays start [] (Ok t)) (sym h.1) (plays_end start))))
end_started w (Err error) s e h = h

pub end_dead : {T : Type 0} (w : WalkedGame) (r : Result T RecordError) → playing w ≡ None →
    IfErr r (λ error. error ≢ Memory → IsDeadSetup w.0.grid.lines w.0.grid.colours (Err error)) →
    IfErr r (λ error. error ≢ Memory → Goes w [] (Err error))
end_dead w (Ok x) e h = h
end_dead w (Err error) e h = λ some.
    goes_by w None [] [] (Err error) e (seen_none w.0.remaining)
    (sets_end w.0.grid.lines w.0.komi w.0.grid.colours w.0.given_mover (Err error) (inr (h some)))

pub reason_of : (s : Standing) (c : Colour) (v : Vertex) (why : PlayError) (r : Result Taken PlayError) → r ≡ Err why →
    why ≢ play.Memory →
    (r ≡ Err play.OffBoard) ↔ IsOffBoard s v → (r ≡ Err play.Occupied) ↔ IsOccupied s v →
    ((k : ℕ) → r ≡ Err (play.Repeats k) → IsRepeat s c v k) → IsReason s c v why
reason_of s c v play.Occupied r e some off occupied repeats = occupied.0 e
reason_of s c v play.OffBoard r e some off occupied repeats = off.0 e
reason_of s c v (play.Repeats k) r e some off occupied repeats =
    (λ h. cc (e, off.1 h), λ h. cc (e, occupied.1 h), repeats k e)
reason_of s c v play.Memory r e some off occupied repeats = some refl

-- a call that is refused
pub walked_stops : {T : Type 0} (r : Result T RecordError) (e : RecordError) (old new : WalkedGame)
    (events : List Event) → r ≡ Err e → Stops old events e → Walked r old events new
walked_stops {T} r e old new events is h = subst (λ (q : Result T RecordError). Walked q old events new) (sym is) h

-- a call after others
pub walked_after : {T : Type 0} (r : Result T RecordError) (a b c : WalkedGame) (xs ys : List Event) → Passes a xs b →
    Walked r b ys c → Walked r a (xs ++ ys) c
walked_after (Ok x) a b c xs ys p q = passes_passes p q
walked_after (Err e) a b c xs ys p q = passes_stops p q

-- what follows from what a result tells
pub on_ok : {T E : Type 0} {P Q : Type 0} (r : Result T E) → (P → Q) → OnOk r P → OnOk r Q
on_ok (Ok x) f h = f h
on_ok (Err e) f h = h

pub if_err : {T E : Type 0} {P Q : E → Type 0} (r : Result T E) → ((e : E) → P e → Q e) → IfErr r P → IfErr r Q
if_err (Ok x) f h = h
if_err (Err e) f h = f e h

-- the game that the first move begins
pub began_setting : (w : WalkedGame) (s : Standing) → playing w ≡ None → AreAlive w.0.grid.lines w.0.grid.colours →
    s ≡ start_of w.0.grid.lines w.0.komi w.0.grid.colours w.0.given_mover →
    (node : ℕ) (c : Colour) (value : List ℕ) (events : List Event) (outcome : Outcome) →
    Plays s (move_met node c value ∷ events) outcome →
    GoesFrom w.0 (playing w) (move_met node c value ∷ events) outcome
began_setting w s e alive is node c value events outcome h =
    subst (λ (o : Option GameValue). GoesFrom w.0 o (move_met node c value ∷ events) outcome) (sym e)
    (sets_move w.0.grid.lines w.0.komi w.0.grid.colours w.0.given_mover node c value events outcome
    (inl (alive, subst (λ (t : Standing). Plays t (move_met node c value ∷ events) outcome) is h)))

pub began_dead : (w : WalkedGame) → playing w ≡ None → (error : RecordError) →
    IsDeadSetup w.0.grid.lines w.0.grid.colours (Err error) →
    (node : ℕ) (c : Colour) (value : List ℕ) (events : List Event) →
    GoesFrom w.0 (playing w) (move_met node c value ∷ events) (Err error)
began_dead w e error dead node c value events =
    subst (λ (o : Option GameValue). GoesFrom w.0 o (move_met node c value ∷ events) (Err error)) (sym e)
    (sets_move w.0.grid.lines w.0.komi w.0.grid.colours w.0.given_mover node c value events (Err error) (inr dead))

-- one element on: the events of those before it, its own, and those of the later ones
pub one_on : {Y Z : Type 0} (f : Y → List Z) (done : List Z) (ys : List Y) (y : Y) (later : List Y) → ys ≡ y ∷ later →
    (done ++ f y) ++ flat_map f later ≡ done ++ flat_map f ys
one_on f done ys y later e = append_assoc done (f y) (flat_map f later) ∙ ap (λ zs. done ++ flat_map f zs) (sym e)
