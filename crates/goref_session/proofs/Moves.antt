-- What is decided on a move, by what the game says of it.
use Rattle.std.proofs.Common.{◌≡◌, ◌∙◌, ℕ, Bool, true, false, [], None, Some, refl, sym, ap, inl, inr, if◌then◌else◌}
use Rattle.go_game.specs.Laws.{LegalByTheRules}
use Rattle.std.specs.Prelude.{IsTrue}
use Rattle.std.proofs.lemmas.List.{get_or_default}
use Rattle.go_board.specs.declared.colour.Colour.{Colour}
use Rattle.go_board.specs.declared.vertex.Move.{Move}
use Rattle.go_board.specs.declared.vertex.Vertex.{Vertex}
use Rattle.go_board.specs.declared.vertex.Vertex.TheVariants.{Pass, At}
use Rattle.go_board.specs.Points.{number_of}
use Rattle.go_game.specs.declared.error.PlayError.{PlayError}
use Rattle.go_game.specs.declared.error.PlayError.TheVariants.{OffBoard, Occupied, Repeats, Memory}
use Rattle.go_game.specs.Legal.{is_legal}
use Rattle.go_game.specs.Standings.{IsLegal, IsOccupied, IsOffBoard, IsRepeat, Standing, seen_after, stood_of, with_move}
use Rattle.goref_session.specs.declared.decision.Decision.TheVariants.{Done, Refused}
use Rattle.goref_session.specs.declared.decision.Refusal.TheVariants.{IllegalMove, OutOfMemory}
use Rattle.goref_session.specs.Decisions.{keeps, comes_to}
use Rattle.goref_session.specs.Play.{DecidesPlay}
use Rattle.goref_session.specs.inner.Refusing.{move_refusal}

off_is_illegal : (s : Standing) (c : Colour) (v : Vertex) → IsOffBoard s v → (IsLegal s c v → ⊥)
off_is_illegal s c Pass off = absurd off
off_is_illegal s c (At p) off = λ legal. off legal.0

held_is_illegal : (s : Standing) (c : Colour) (v : Vertex) → IsOccupied s v → (IsLegal s c v → ⊥)
held_is_illegal s c Pass held = absurd held
held_is_illegal s c (At p) held = λ legal. held.1 legal.1

repeat_is_illegal : (s : Standing) (c : Colour) (v : Vertex) (k : ℕ) → IsRepeat s c v k → (IsLegal s c v → ⊥)
repeat_is_illegal s c Pass k repeats = absurd repeats
repeat_is_illegal s c (At p) k repeats =
    λ legal. legal.2 (
      k,
      repeats.0,
      sym (get_or_default (stood_of s) k ([], None) (seen_after s c (number_of s.lines p)) repeats.0) ∙ repeats.1,
    )

-- what the rules forbid fails the test
fails : (b : Bool) → (IsTrue b → ⊥) → b ≡ false
fails true wrong = absurd (wrong refl)
fails false wrong = refl

module _ (law : LegalByTheRules) where
  pub move_made : (s s' : Standing) (m : Move) → IsLegal s m.colour m.vertex → s' ≡ with_move s m →
      DecidesPlay s (Some m.colour) (Some m.vertex) (record { decision = Done; standing = s' })
  move_made s s' m legal e =
      inl (ap comes_to e ∙ sym (ap (λ b. if b then comes_to (with_move s m) else keeps s (Refused IllegalMove))
      ((law s m.colour m.vertex).1 legal)))

  illegal : (s s' : Standing) (m : Move) → s' ≡ s → (IsLegal s m.colour m.vertex → ⊥) →
      DecidesPlay s (Some m.colour) (Some m.vertex) (record { decision = Refused IllegalMove; standing = s' })
  illegal s s' m same wrong =
      inl (ap (λ x. keeps x (Refused IllegalMove)) same
      ∙ sym (ap (λ b. if b then comes_to (with_move s m) else keeps s (Refused IllegalMove))
      (fails (is_legal s m.colour m.vertex) (λ t. wrong ((law s m.colour m.vertex).0 t)))))

  pub move_refused : (s s' : Standing) (m : Move) (e : PlayError) → s' ≡ s →
      (e ≡ OffBoard → IsOffBoard s m.vertex) → (IsOffBoard s m.vertex → e ≡ OffBoard) →
      (e ≡ Occupied → IsOccupied s m.vertex) → (IsOccupied s m.vertex → e ≡ Occupied) →
      ((k : ℕ) → e ≡ Repeats k → IsRepeat s m.colour m.vertex k) →
      DecidesPlay s (Some m.colour) (Some m.vertex) (record { decision = Refused (move_refusal e); standing = s' })
  move_refused s s' m OffBoard same off off' held held' repeats =
      illegal s s' m same (off_is_illegal s m.colour m.vertex (off refl))
  move_refused s s' m Occupied same off off' held held' repeats =
      illegal s s' m same (held_is_illegal s m.colour m.vertex (held refl))
  move_refused s s' m (Repeats k) same off off' held held' repeats =
      illegal s s' m same (repeat_is_illegal s m.colour m.vertex k (repeats k refl))
  move_refused s s' m Memory same off off' held held' repeats =
      inr (((λ o. let x = off' o in cc), (λ o. let x = held' o in cc)), ap (λ x. keeps x (Refused OutOfMemory)) same)
