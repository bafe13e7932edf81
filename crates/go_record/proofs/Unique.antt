-- A record has one outcome at most.
use Rattle.std.proofs.Common.{◌≡◌, ◌∙◌, ◌<◌, ◌*◌, ◌+◌, ◌/◌, ◌%◌, ℕ, ℤ, Bool, true, false, true≢false, List, [], ◌∷◌, refl, sym, ap, ap₂, subst, inl, inr, arith, length}
use Rattle.std.specs.Prelude.{Option, Some, None, Err, ◌⊎◌, replicate, codes, Contains}
use Rattle.std.proofs.lemmas.Bool.{cases_lt}
use Rattle.std.proofs.lemmas.Grind.{common_steps}
use Rattle.std.proofs.lemmas.List.Elements.{Contains-get_or}
use Rattle.std.proofs.lemmas.Nat.{rows}
use Rattle.go_board.specs.declared.colour.Colour.{Colour}
use Rattle.go_board.specs.declared.point.Point.{Point}
use Rattle.go_board.specs.declared.vertex.Vertex.{Vertex}
use Rattle.go_board.specs.declared.vertex.Vertex.TheVariants.{Pass, At}
use Rattle.go_board.specs.Living.{IsFirstDead}
use Rattle.go_board.specs.Colours.{Colouring}
use Rattle.go_board.specs.Points.{IsOn, number_of, point_at}
use Rattle.go_game.specs.declared.error.PlayError.{PlayError}
use Rattle.go_game.specs.declared.error.PlayError.TheVariants as play
use Rattle.go_game.specs.Standings.{IsFirstAt, IsLegal, IsOccupied, IsOffBoard, Seen, Standing, with_move}
use Rattle.go_sgf.specs.BoardValues.{vertex_in, points_by_values}
use Rattle.go_sgf.specs.Record.{Trees}
use Rattle.go_record.specs.declared.error.RecordError.{RecordError}
use Rattle.go_record.specs.declared.error.RecordError.TheVariants.{BadKomi, BadSize, DeadSetup, Illegal, NotGo}
use Rattle.go_record.specs.Games.{IsGameOf, Needs, OrElse, is_go_value, komi_in, lines_in, value_at_root}
use Rattle.go_sgf.specs.MainLine.{main_line}
use Rattle.go_record.specs.MainLine.{Event, stones, turn, move_met, events_from, looked_at}
use Rattle.go_record.specs.Walks.{Begins, IsReason, IsRefused, OrBad, Outcome, Plays, SetsUp, colour_stated, start_of, with_points}

-- ---- points and their numbers

point_back : (n : ℕ) (p : Point) → IsOn n p → point_at n (number_of n p) ≡ p
point_back n p on =
    let col : (p.row * n + p.col) % n ≡ p.col = grind (arith, common_steps, rows) in
    let row : (p.row * n + p.col) / n ≡ p.row = grind (arith, common_steps, rows) in
    ap₂ (λ c r. let q : Point = record { col = c; row = r } in q) col row

number_low : (n : ℕ) (p : Point) → IsOn n p → number_of n p < n * n
number_low n p on = grind (arith, common_steps, rows)

-- ---- reasons

first_unique : (gs : List Seen) (g : Seen) (j k : ℕ) → IsFirstAt gs g j → IsFirstAt gs g k → j ≡ k
first_unique gs g j k a b = elim (cases_lt j k) [
  | inl low ↦ absurd (b.2 j low a.1)
  | inr high ↦ elim (cases_lt k j) [
    | inl low ↦ absurd (a.2 k low b.1)
    | inr same ↦ omega arith
  ]
]

first_contained : (gs : List Seen) (g : Seen) (k : ℕ) → IsFirstAt gs g k → Contains gs g
first_contained gs g k a = subst (λ (x : Seen). Contains gs x) a.1 (Contains-get_or gs k ([], None) a.0)

off_not_occupied : (s : Standing) (v : Vertex) → IsOffBoard s v → IsOccupied s v → ⊥
off_not_occupied s Pass off on = off
off_not_occupied s (At p) off on = off on.0

legal_no_reason : (s : Standing) (c : Colour) (v : Vertex) (why : PlayError) → IsLegal s c v → IsReason s c v why → ⊥
legal_no_reason s c Pass play.Occupied l r = r
legal_no_reason s c Pass play.OffBoard l r = r
legal_no_reason s c Pass (play.Repeats k) l r = r.2
legal_no_reason s c Pass play.Memory l r = r
legal_no_reason s c (At p) play.Occupied l r = r.1 l.1
legal_no_reason s c (At p) play.OffBoard l r = r l.0
legal_no_reason s c (At p) (play.Repeats k) l r = l.2 (first_contained _ _ k r.2)
legal_no_reason s c (At p) play.Memory l r = r

repeat_unique : (s : Standing) (c : Colour) (v : Vertex) (j k : ℕ) → IsReason s c v (play.Repeats j) →
    IsReason s c v (play.Repeats k) → j ≡ k
repeat_unique s c Pass j k a b = absurd a.2
repeat_unique s c (At p) j k a b = first_unique _ _ j k a.2 b.2

one_reason : (s : Standing) (c : Colour) (v : Vertex) (a b : PlayError) → IsReason s c v a → IsReason s c v b → a ≡ b
one_reason s c v play.Occupied play.Occupied h k = refl
one_reason s c v play.Occupied play.OffBoard h k = absurd (off_not_occupied s v k h)
one_reason s c v play.Occupied (play.Repeats j) h k = absurd (k.1 h)
one_reason s c v play.Occupied play.Memory h k = absurd k
one_reason s c v play.OffBoard play.Occupied h k = absurd (off_not_occupied s v h k)
one_reason s c v play.OffBoard play.OffBoard h k = refl
one_reason s c v play.OffBoard (play.Repeats j) h k = absurd (k.0 h)
one_reason s c v play.OffBoard play.Memory h k = absurd k
one_reason s c v (play.Repeats i) play.Occupied h k = absurd (h.1 k)
one_reason s c v (play.Repeats i) play.OffBoard h k = absurd (h.0 k)
one_reason s c v (play.Repeats i) (play.Repeats j) h k = ap play.Repeats (repeat_unique s c v i j h k)
one_reason s c v (play.Repeats i) play.Memory h k = absurd k
one_reason s c v play.Memory b h k = absurd h

-- ---- values

one_or_bad : {X : Type 0} (node : ℕ) (o : Option X) (a b : Outcome) (Later : Outcome → X → Type 0) →
    ((x : X) → Later a x → Later b x → a ≡ b) → OrBad node o a (Later a) → OrBad node o b (Later b) → a ≡ b
one_or_bad node None a b Later f h k = h ∙ sym k
one_or_bad node (Some x) a b Later f h k = f x h k

one_or_else : {X : Type 0} (e : RecordError) (o : Option X) (a b : Outcome) (Later : Outcome → X → Type 0) →
    ((x : X) → Later a x → Later b x → a ≡ b) → OrElse e o a (Later a) → OrElse e o b (Later b) → a ≡ b
one_or_else e None a b Later f h k = h ∙ sym k
one_or_else e (Some x) a b Later f h k = f x h k

one_needs : (e : RecordError) (t : Bool) (a b : Outcome) (Later : Outcome → Type 0) → (Later a → Later b → a ≡ b) →
    Needs e t a (Later a) → Needs e t b (Later b) → a ≡ b
one_needs e false a b Later f h k = h ∙ sym k
one_needs e true a b Later f h k = f h k

-- ---- moves, and what is set up before them

by_move : (s : Standing) (c : Colour) (v : Vertex) (a b : Outcome) (Rest : Outcome → Type 0) →
    (Rest a → Rest b → a ≡ b) →
    ((IsLegal s c v × Rest a) ⊎ IsRefused s c v a) → ((IsLegal s c v × Rest b) ⊎ IsRefused s c v b) → a ≡ b
by_move s c v a b Rest f (inl p) (inl q) = f p.1 q.1
by_move s c v a b Rest f (inl p) (inr q) = absurd (legal_no_reason s c v q.why p.0 q.reason)
by_move s c v a b Rest f (inr p) (inl q) = absurd (legal_no_reason s c v p.why q.0 p.reason)
by_move s c v a b Rest f (inr p) (inr q) =
    p.refusal ∙ ap (λ (w : PlayError). let r : Outcome = Err (Illegal (length s.moves + 1) w) in r)
    (one_reason s c v p.why q.why p.reason q.reason) ∙ sym q.refusal

one_play : (events : List Event) (s : Standing) (a b : Outcome) → Plays s events a → Plays s events b → a ≡ b
unfolding Plays
one_play [] s a b h k = h ∙ sym k
one_play (stones node c values ∷ events) s a b h k = h ∙ sym k
one_play (turn node value ∷ events) s a b h k = one_play events s a b h k
one_play (move_met node c value ∷ events) s a b h k =
    one_or_bad node (vertex_in s.lines value) a b
    (λ outcome v. (IsLegal s c v × Plays (with_move s (record { colour = c; vertex = v })) events outcome)
    ⊎ IsRefused s c v outcome)
    (λ v p q. by_move s c v a b (Plays (with_move s (record { colour = c; vertex = v })) events)
    (one_play events (with_move s (record { colour = c; vertex = v })) a b) p q) h k

same_dead : (n : ℕ) (g : Colouring) (p q : Point) → IsFirstDead n g p → IsFirstDead n g q → p ≡ q
same_dead n g p q a b =
    let same : number_of n p ≡ number_of n q = elim (cases_lt (number_of n p) (number_of n q)) [
      | inl low ↦ absurd (true≢false (sym a.dead ∙ b.first (number_of n p) low))
      | inr high ↦ elim (cases_lt (number_of n q) (number_of n p)) [
        | inl low ↦ absurd (true≢false (sym b.dead ∙ a.first (number_of n q) low))
        | inr le ↦ omega arith
      ]
    ] in
    sym (point_back n p a.on) ∙ ap (point_at n) same ∙ point_back n q b.on

one_begin : (n : ℕ) (komi : ℤ) (g : Colouring) (given : Option Colour) (events : List Event) (a b : Outcome) →
    Begins n komi g given events a → Begins n komi g given events b → a ≡ b
one_begin n komi g given events a b (inl p) (inl q) = one_play events (start_of n komi g given) a b p.1 q.1
one_begin n komi g given events a b (inl p) (inr q) =
    absurd (true≢false (sym q.first.dead ∙ p.0 (number_of n q.point) (number_low n q.point q.first.on)))
one_begin n komi g given events a b (inr p) (inl q) =
    absurd (true≢false (sym p.first.dead ∙ q.0 (number_of n p.point) (number_low n p.point p.first.on)))
one_begin n komi g given events a b (inr p) (inr q) =
    p.refusal ∙ ap (λ (x : Point). let r : Outcome = Err (DeadSetup x) in r)
    (same_dead n g p.point q.point p.first q.first) ∙ sym q.refusal

one_setup : (events : List Event) (n : ℕ) (komi : ℤ) (g : Colouring) (given : Option Colour) (a b : Outcome) →
    SetsUp n komi g given events a → SetsUp n komi g given events b → a ≡ b
unfolding SetsUp
one_setup [] n komi g given a b h k = one_begin n komi g given [] a b h k
one_setup (stones node c values ∷ events) n komi g given a b h k =
    one_or_bad node (points_by_values n values) a b
    (λ outcome ps. SetsUp n komi (with_points n c g ps) given events outcome)
    (λ ps p q. one_setup events n komi (with_points n c g ps) given a b p q) h k
one_setup (turn node value ∷ events) n komi g given a b h k =
    one_or_bad node (colour_stated value) a b (λ outcome c. SetsUp n komi g (Some c) events outcome)
    (λ c p q. one_setup events n komi g (Some c) a b p q) h k
one_setup (move_met node c value ∷ events) n komi g given a b h k =
    one_begin n komi g given (move_met node c value ∷ events) a b h k

pub one_game : (c : Trees) (number : Option ℕ) (a b : Outcome) → IsGameOf c number a → IsGameOf c number b → a ≡ b
unfolding IsGameOf
one_game c number a b h k =
    let Line : ℕ → ℤ → Outcome → Type 0 = λ n komi outcome.
    SetsUp n komi (replicate (n * n) None) None (looked_at number (events_from 0 (main_line c))) outcome in
    let Sized : Outcome → ℕ → Type 0 = λ outcome n.
    OrElse BadKomi (komi_in (value_at_root (codes "KM") c)) outcome (λ komi. Line n komi outcome) in
    one_needs NotGo (is_go_value (value_at_root (codes "GM") c)) a b
    (λ outcome. OrElse BadSize (lines_in (value_at_root (codes "SZ") c)) outcome (Sized outcome))
    (one_or_else BadSize (lines_in (value_at_root (codes "SZ") c)) a b Sized (λ n p q.
    one_or_else BadKomi (komi_in (value_at_root (codes "KM") c)) a b (λ outcome komi. Line n komi outcome) (λ komi x y.
    one_setup (looked_at number (events_from 0 (main_line c))) n komi (replicate (n * n) None) None a b x y) p q)) h k
