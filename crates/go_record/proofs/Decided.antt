-- Each record comes to an outcome.
use Rattle.std.proofs.Common.{◌≡◌, ◌≢◌, ◌∙◌, ◌<◌, ◌*◌, ◌+◌, ℕ, ℤ, zero, suc, Bool, true, false, true≢false, List, [], ◌∷◌, refl, sym, ap, ap₂, subst, inl, inr, arith, length, get_or, replicate}
use Rattle.std.specs.Prelude.{Option, Some, None, Ok, Err, ◌⊎◌, Contains, codes}
use Rattle.std.proofs.lemmas.Bool.{cases_lt}
use Rattle.std.proofs.lemmas.List.{get_or_default}
use Rattle.go_board.specs.declared.colour.Colour.{Colour}
use Rattle.go_board.specs.declared.colour.Colour.TheVariants.{Black, White}
use Rattle.go_board.specs.declared.point.Point.{Point}
use Rattle.go_board.specs.declared.vertex.Vertex.{Vertex}
use Rattle.go_board.specs.declared.vertex.Vertex.TheVariants.{Pass, At}
use Rattle.go_board.specs.Colours.{Colouring, colour_at}
use Rattle.go_board.specs.Points.{IsOn, number_of, point_at}
use Rattle.go_board.specs.Reaching.{is_dead}
use Rattle.go_game.specs.declared.error.PlayError.{PlayError}
use Rattle.go_game.specs.declared.error.PlayError.TheVariants as play
use Rattle.go_game.specs.Standings.{IsFirstAt, IsLegal, Seen, Standing, board_of, seen_after, stood_of, with_move}
use Rattle.go_sgf.specs.BoardValues.{vertex_in, points_by_values}
use Rattle.go_sgf.specs.Record.{Trees}
use Rattle.go_record.specs.declared.error.RecordError.{RecordError}
use Rattle.go_record.specs.declared.error.RecordError.TheVariants.{BadKomi, BadSize, BadValue, DeadSetup, Illegal, NotGo, SetupAfterMove}
use Rattle.go_record.specs.Games.{IsGameOf, Needs, OrElse, is_go_value, komi_in, lines_in, value_at_root}
use Rattle.go_record.specs.Laws.{OneOutcome}
use Rattle.go_sgf.specs.MainLine.{main_line}
use Rattle.go_record.specs.MainLine.{Event, stones, turn, move_met, events_from, looked_at}
use Rattle.go_record.specs.Walks.{Begins, IsReason, IsRefused, OrBad, Outcome, Plays, SetsUp, colour_stated, start_of, with_points}
use Rattle.go_record.proofs.Painting.{back_at, on_at}
use Rattle.go_record.proofs.Unique.{one_game}

-- ---- colourings told apart

same_point : (a b : Option Colour) → (a ≡ b) ⊎ (a ≢ b)
same_point None None = inl refl
same_point None (Some b) = inr (λ e. cc e)
same_point (Some a) None = inr (λ e. cc e)
same_point (Some Black) (Some Black) = inl refl
same_point (Some Black) (Some White) = inr (λ e. cc e)
same_point (Some White) (Some Black) = inr (λ e. cc e)
same_point (Some White) (Some White) = inl refl

same_by : (a b : Option Colour) (xs ys : Colouring) → (a ≡ b) ⊎ (a ≢ b) → (xs ≡ ys) ⊎ (xs ≢ ys) →
    ((let zs : Colouring = a ∷ xs in zs) ≡ b ∷ ys) ⊎ ((let zs : Colouring = a ∷ xs in zs) ≢ b ∷ ys)
same_by a b xs ys (inl e) (inl f) = inl (cc (e, f))
same_by a b xs ys (inl e) (inr f) = inr (λ h. f (cc h))
same_by a b xs ys (inr e) f = inr (λ h. e (cc h))

same_colours : (g h : Colouring) → (g ≡ h) ⊎ (g ≢ h)
same_colours [] [] = inl refl
same_colours [] (b ∷ ys) = inr (λ e. cc e)
same_colours (a ∷ xs) [] = inr (λ e. cc e)
same_colours (a ∷ xs) (b ∷ ys) = same_by a b xs ys (same_point a b) (same_colours xs ys)

same_parts : (g h : Colouring) (a b : Option Colour) → (g ≡ h) ⊎ (g ≢ h) → (a ≡ b) ⊎ (a ≢ b) →
    ((let x : Seen = (g, a) in x) ≡ (h, b)) ⊎ ((let x : Seen = (g, a) in x) ≢ (h, b))
same_parts g h a b (inl e) (inl f) = inl (ap₂ (λ (k : Colouring) (c : Option Colour). let x : Seen = (k, c) in x) e f)
same_parts g h a b (inl e) (inr f) = inr (λ i. f (ap (λ (x : Seen). x.1) i))
same_parts g h a b (inr e) f = inr (λ i. e (ap (λ (x : Seen). x.0) i))

same_seen : (x y : Seen) → (x ≡ y) ⊎ (x ≢ y)
same_seen x y = same_parts x.0 y.0 x.1 y.1 (same_colours x.0 y.0) (same_point x.1 y.1)

-- ---- the first of the numbers below a bound

-- no number below m is as wanted, or one is and none before it
module _ (P : ℕ → Type 0) where
  abbrev pub Found : ℕ → Type 0
  Found m = ((j : ℕ) → j < m → P j → ⊥) ⊎ ((k : ℕ) × (k < m) × P k × ((j : ℕ) → j < k → P j → ⊥))

  next_found : (m : ℕ) → P m ⊎ (P m → ⊥) → Found m → Found (suc m)
  next_found m d (inr f) = inr (f.0, omega (arith, f.1), f.2, f.3)
  next_found m (inl here) (inl none) = inr (m, omega arith, here, none)
  next_found m (inr not) (inl none) = inl (λ j low p. elim (cases_lt j m) [
    | inl before ↦ none j before p
    | inr last ↦ not (subst P (let e : j ≡ m = omega (arith, low, last) in e) p)
  ])

  find : ((j : ℕ) → P j ⊎ (P j → ⊥)) → (m : ℕ) → Found m
  find d zero = inl (λ j low p. let e : ⊥ = omega (arith, low) in e)
  find d (suc m) = next_found m (d m) (find d m)

-- ---- moves

repeats : (gs : List Seen) (g : Seen) → ((k : ℕ) × IsFirstAt gs g k) ⊎ (Contains gs g → ⊥)
repeats gs g = elim (find (λ j. get_or gs j ([], None) ≡ g) (λ j. same_seen (get_or gs j ([], None)) g) (length gs)) [
  | inl none ↦ inr (λ h. none h.0 h.1 (get_or_default gs h.0 ([], None) g h.1 ∙ h.2))
  | inr f ↦ inl (f.0, (f.1, f.2, f.3))
]

on_or_off : (n : ℕ) (p : Point) → IsOn n p ⊎ (IsOn n p → ⊥)
on_or_off n p = elim (cases_lt p.col n) [
  | inl col ↦ elim (cases_lt p.row n) [
    | inl row ↦ inl (col, row)
    | inr far ↦ inr (λ on. let e : ⊥ = omega (arith, far, on.1) in e)
  ]
  | inr far ↦ inr (λ on. let e : ⊥ = omega (arith, far, on.0) in e)
]

abbrev Decided : Standing → Colour → Vertex → Type 0
Decided s c v = IsLegal s c v ⊎ ((why : PlayError) × IsReason s c v why)

on_empty : (s : Standing) (c : Colour) (p : Point) → IsOn s.lines p → (o : Option Colour) →
    colour_at (board_of s) (number_of s.lines p) ≡ o → Decided s c (At p)
on_empty s c p on (Some x) e = inr
    (play.Occupied, (on, λ f. let z : (let q : Option Colour = Some x in q) ≡ None = sym e ∙ f in cc z))
on_empty s c p on None e = elim (repeats (stood_of s) (seen_after s c (number_of s.lines p))) [
  | inl r ↦ inr (play.Repeats r.0, (λ off. off on, λ full. full.1 e, r.1))
  | inr none ↦ inl (on, e, none)
]

decide : (s : Standing) (c : Colour) (v : Vertex) → Decided s c v
decide s c Pass = inl tt
decide s c (At p) = elim (on_or_off s.lines p) [
  | inl on ↦ on_empty s c p on (colour_at (board_of s) (number_of s.lines p)) refl
  | inr off ↦ inr (play.OffBoard, off)
]

-- ---- the walk

abbrev Some_outcome : (Outcome → Type 0) → Type 0
Some_outcome P = (outcome : Outcome) × P outcome

some_or_bad : {X : Type 0} (node : ℕ) (o : Option X) (Later : Outcome → X → Type 0) →
    ((x : X) → Some_outcome (λ r. Later r x)) → Some_outcome (λ r. OrBad node o r (Later r))
some_or_bad node None Later f = (Err (BadValue node), refl)
some_or_bad node (Some x) Later f = f x

some_or_else : {X : Type 0} (e : RecordError) (o : Option X) (Later : Outcome → X → Type 0) →
    ((x : X) → Some_outcome (λ r. Later r x)) → Some_outcome (λ r. OrElse e o r (Later r))
some_or_else e None Later f = (Err e, refl)
some_or_else e (Some x) Later f = f x

some_needs : (e : RecordError) (t : Bool) (Later : Outcome → Type 0) → Some_outcome Later →
    Some_outcome (λ r. Needs e t r (Later r))
some_needs e false Later f = (Err e, refl)
some_needs e true Later f = f

some_move : (s : Standing) (c : Colour) (v : Vertex) (Rest : Outcome → Type 0) → Decided s c v → Some_outcome Rest →
    Some_outcome (λ r. (IsLegal s c v × Rest r) ⊎ IsRefused s c v r)
some_move s c v Rest (inl l) rest = (rest.0, inl (l, rest.1))
some_move s c v Rest (inr d) rest =
    (Err (Illegal (length s.moves + 1) d.0), inr (record { why = d.0; reason = d.1; refusal = refl }))

some_play : (events : List Event) (s : Standing) → Some_outcome (Plays s events)
unfolding Plays
some_play [] s = (Ok s, refl)
some_play (stones node c values ∷ events) s = (Err (SetupAfterMove node), refl)
some_play (turn node value ∷ events) s = some_play events s
some_play (move_met node c value ∷ events) s =
    some_or_bad node (vertex_in s.lines value)
    (λ r v. (IsLegal s c v × Plays (with_move s (record { colour = c; vertex = v })) events r) ⊎ IsRefused s c v r)
    (λ v. some_move s c v (Plays (with_move s (record { colour = c; vertex = v })) events) (decide s c v)
    (some_play events (with_move s (record { colour = c; vertex = v }))))

dead_or_not : (b : Bool) → (b ≡ true) ⊎ (b ≡ true → ⊥)
dead_or_not true = inl refl
dead_or_not false = inr (λ e. true≢false (sym e))

not_true : (b : Bool) → (b ≡ true → ⊥) → b ≡ false
not_true true h = absurd (h refl)
not_true false h = refl

some_begin : (n : ℕ) (komi : ℤ) (g : Colouring) (given : Option Colour) (events : List Event) →
    Some_outcome (Begins n komi g given events)
some_begin n komi g given events = elim (find (λ j. is_dead n g j ≡ true) (λ j. dead_or_not (is_dead n g j)) (n * n)) [
  | inl none ↦ let rest = some_play events (start_of n komi g given) in
      (rest.0, inl ((λ k low. not_true (is_dead n g k) (none k low)), rest.1))
  | inr f ↦
      let p = point_at n f.0 in
      let at = back_at n f.0 f.1 in (
        Err (DeadSetup p),
        inr (record {
          point = p;
          first = record {
            on = on_at n f.0 f.1;
            dead = ap (is_dead n g) at ∙ f.2;
            first = λ k low. not_true (is_dead n g k) (f.3 k (subst (λ (m : ℕ). k < m) at low));
          };
          refusal = refl;
        }),
      )
]

some_setup : (events : List Event) (n : ℕ) (komi : ℤ) (g : Colouring) (given : Option Colour) →
    Some_outcome (SetsUp n komi g given events)
unfolding SetsUp
some_setup [] n komi g given = some_begin n komi g given []
some_setup (stones node c values ∷ events) n komi g given =
    some_or_bad node (points_by_values n values) (λ r ps. SetsUp n komi (with_points n c g ps) given events r)
    (λ ps. some_setup events n komi (with_points n c g ps) given)
some_setup (turn node value ∷ events) n komi g given =
    some_or_bad node (colour_stated value) (λ r c. SetsUp n komi g (Some c) events r)
    (λ c. some_setup events n komi g (Some c))
some_setup (move_met node c value ∷ events) n komi g given = some_begin n komi g given (move_met node c value ∷ events)

pub some_game : (c : Trees) (number : Option ℕ) → (outcome : Outcome) × IsGameOf c number outcome
unfolding IsGameOf
some_game c number =
    let Line : ℕ → ℤ → Outcome → Type 0 = λ n komi r.
    SetsUp n komi (replicate (n * n) None) None (looked_at number (events_from 0 (main_line c))) r in
    let Sized : Outcome → ℕ → Type 0 = λ r n.
    OrElse BadKomi (komi_in (value_at_root (codes "KM") c)) r (λ komi. Line n komi r) in
    some_needs NotGo (is_go_value (value_at_root (codes "GM") c))
    (λ r. OrElse BadSize (lines_in (value_at_root (codes "SZ") c)) r (Sized r))
    (some_or_else BadSize (lines_in (value_at_root (codes "SZ") c)) Sized (λ n.
    some_or_else BadKomi (komi_in (value_at_root (codes "KM") c)) (λ r komi. Line n komi r) (λ komi.
    some_setup (looked_at number (events_from 0 (main_line c))) n komi (replicate (n * n) None) None)))

-- and to one alone
pub exactly_one : OneOutcome
exactly_one c number =
    let some = some_game c number in
    (some.0, some.1, λ other h. one_game c number other some.0 h some.1)
