-- What a play on the board of a game tells of the game's standing.
use Rattle.std.specs.Prelude.{Result, Err, IsErrOf, is_none, slice_set}
use Rattle.go_chains.specs.declared.error.PlaceError.{PlaceError}
use Rattle.go_chains.specs.declared.error.PlaceError.TheVariants.{Occupied}
use Rattle.go_game.specs.declared.error.PlayError.{PlayError}
use Rattle.std.proofs.Common.{◌≡◌, ◌*◌, ◌∙◌, ◌↔◌, ℕ, List, Option, Some, None, map, sym, ap}
use Rattle.go_board.specs.declared.colour.Colour.{Colour}
use Rattle.go_board.specs.declared.colour.Colour.TheVariants.{Black, White}
use Rattle.go_board.specs.declared.point.Point.{Point}
use Rattle.go_board.specs.declared.taken.Taken.{Taken}
use Rattle.go_board.specs.declared.vertex.Vertex.TheVariants.{At}
use Rattle.go_board.specs.Colours.{Colouring, colour_at, other}
use Rattle.go_board.specs.Points.{number_of}
use Rattle.go_board.specs.Packs.{packed_of}
use Rattle.go_board.specs.PackBytes.{bytes_of}
use Rattle.go_board.specs.Reaching.{moved, vanished}
use Rattle.go_chains.specs.declared.change.Change.{Change}
use Rattle.go_chains.specs.Playing.{most_of}
use Rattle.go_chains.specs.Boards.{BoardValue, IsStoneOf, grid_of}
use Rattle.go_history.specs.declared.key.Key.{Key}
use Rattle.go_history.specs.Histories.{HistoryValue, number_at}
use Rattle.go_game.specs.declared.step.Step.{Step}
use Rattle.go_game.specs.inner.Held.{IsKeeping, IsPlayable, IsPlayed, Start, made_of, standing_of}
use Rattle.go_game.specs.inner.Histories.{IsKeyOf}
use Rattle.go_game.specs.Legal.{is_legal}
use Rattle.go_game.specs.Prisoners.{taken_by, share_of}
use Rattle.go_game.specs.Standings.{IsLegal, IsRepeat, board, mover_by, seen_after, stood_of}
use Rattle.go_game.proofs.Played.{length-moved}
use Rattle.go_game.proofs.Keeping.{seen_as}
use Rattle.go_game.proofs.Legal.{legal_passes, repeat_fails}
use Rattle.go_game.proofs.Remembered.{history_found, history_lacks}
use Rattle.go_game.proofs.Turns.{placed}

share_is : (c : Colour) (t : Taken) (n : ℕ) (before after : Colouring) → t.theirs ≡ vanished n before after (other c)
    → t.own ≡ vanished n before after c → (of : Colour) → share_of c t of ≡ vanished n before after of
share_is Black t n before after theirs own Black = own
share_is Black t n before after theirs own White = theirs
share_is White t n before after theirs own Black = theirs
share_is White t n before after theirs own White = own

module _ {start : Start} {steps : List Step} {b : BoardValue} {log : List (List Change)} {history : HistoryValue}
    {black white : ℕ}
    (k : IsKeeping start steps b log history black white) (c : Colour) (p : Point) where
  abbrev pub now : Colouring
  now = board start.lines start.colours (map made_of steps)

  -- the board has no stone where the standing has none
  pub no_stone : IsPlayable start.lines now (At p) → IsStoneOf (grid_of b) (number_of b.lines p) → ⊥
  no_stone playable stone =
      let f : ℕ → Colouring → Option Colour = λ m g. colour_at g (number_of m p) in
      absurd (let e : Some stone.0 ≡ None = sym stone.1 ∙ seen_as f k ∙ playable.1 in cc)

  pub moved_is : moved b.lines (grid_of b) c (number_of b.lines p) ≡ moved start.lines now c (number_of start.lines p)
  moved_is = let f : ℕ → Colouring → Colouring = λ m g. moved m g c (number_of m p) in seen_as f k

  -- the play takes nothing on the board where it does by the standing
  pub still_is : moved start.lines now c (number_of start.lines p) ≡ slice_set now (number_of start.lines p) (Some c)
      → moved b.lines (grid_of b) c (number_of b.lines p) ≡ slice_set (grid_of b) (number_of b.lines p) (Some c)
  still_is quiet = let f : ℕ → Colouring → Colouring = λ m g. slice_set g (number_of m p) (Some c) in moved_is ∙ quiet
      ∙ sym (seen_as f k)

  pub most_is : most_of b.lines (grid_of b) c (number_of b.lines p) ≡ most_of start.lines now c
      (number_of start.lines p)
  most_is = let f : ℕ → Colouring → ℕ = λ m g. most_of m g c (number_of m p) in seen_as f k

  -- the key of a play that takes nothing
  key_on : (key : Key) → bytes_of key.pack ≡ packed_of (slice_set (grid_of b) (number_of b.lines p) (Some c)) →
      key.mover ≡ mover_by start.rule (other c)
      → moved start.lines now c (number_of start.lines p) ≡ slice_set now (number_of start.lines p) (Some c)
      → IsKeyOf key (seen_after (standing_of start steps) c (number_of start.lines p))
  key_on key packs mover quiet =
      let f : ℕ → Colouring → Colouring = λ m g. slice_set g (number_of m p) (Some c) in
      (packs ∙ ap packed_of (seen_as f k ∙ sym quiet), mover)

  -- such a play is legal if the history has nothing at its key
  pub new_on : (key : Key) → bytes_of key.pack ≡ packed_of (slice_set (grid_of b) (number_of b.lines p) (Some c)) →
      key.mover ≡ mover_by start.rule (other c)
      → moved start.lines now c (number_of start.lines p) ≡ slice_set now (number_of start.lines p) (Some c)
      → IsPlayable start.lines now (At p) → (known : Option ℕ) → known ≡ number_at history key →
      is_none known ≡ is_legal (standing_of start steps) c (At p)
  new_on key packs mover quiet playable None is =
      sym (legal_passes (standing_of start steps) c (At p) (
        playable.0,
        playable.1,
        history_lacks (start.lines * start.lines) history (stood_of (standing_of start steps)) key
            (seen_after (standing_of start steps) c (number_of start.lines p))
            k.seen (key_on key packs mover quiet) (length-moved start.lines now c (number_of start.lines p)) (sym is),
      ))
  new_on key packs mover quiet playable (Some j) is =
      sym (repeat_fails (standing_of start steps) c (At p) j
      (history_found (start.lines * start.lines) history (stood_of (standing_of start steps)) key
      (seen_after (standing_of start steps) c (number_of start.lines p)) j
      k.seen (key_on key packs mover quiet) (length-moved start.lines now c (number_of start.lines p)) (sym is)))

  module _ (b' : BoardValue) (moved_to : grid_of b' ≡ moved b.lines (grid_of b) c (number_of b.lines p)) where
    then_is : grid_of b' ≡ moved start.lines now c (number_of start.lines p)
    then_is = moved_to ∙ moved_is

    module _ (key : Key) (packs : bytes_of key.pack ≡ packed_of (grid_of b'))
        (mover : key.mover ≡ mover_by start.rule (other c)) where
      key_is : IsKeyOf key (seen_after (standing_of start steps) c (number_of start.lines p))
      key_is = (packs ∙ ap packed_of then_is, mover)

      pub legal_put : IsPlayable start.lines now (At p) → number_at history key ≡ None →
          IsLegal (standing_of start steps) c (At p)
      legal_put playable lacked = (
        playable.0,
        playable.1,
        history_lacks (start.lines * start.lines) history (stood_of (standing_of start steps)) key
            (seen_after (standing_of start steps) c (number_of start.lines p))
            k.seen key_is (length-moved start.lines now c (number_of start.lines p)) lacked,
      )

      pub repeats_put : (j : ℕ) → number_at history key ≡ Some j → IsRepeat (standing_of start steps) c (At p) j
      repeats_put j known =
          history_found (start.lines * start.lines) history (stood_of (standing_of start steps)) key
          (seen_after (standing_of start steps) c (number_of start.lines p)) j
          k.seen key_is (length-moved start.lines now c (number_of start.lines p)) known

    pub taken_put : (t : Taken) → t.theirs ≡ vanished b.lines (slice_set (grid_of b) (number_of b.lines p) (Some c))
        (grid_of b') (other c)
        → t.own ≡ vanished b.lines (slice_set (grid_of b) (number_of b.lines p) (Some c)) (grid_of b') c →
        (of : Colour) → share_of c t of ≡ taken_by start.lines now c (At p) of
    taken_put t theirs own of =
        let f : ℕ → Colouring → ℕ = λ m g.
        vanished m (slice_set g (number_of m p) (Some c)) (moved m g c (number_of m p)) of in
        share_is c t b.lines (slice_set (grid_of b) (number_of b.lines p) (Some c)) (grid_of b') theirs own of
        ∙ ap (λ (g : Colouring). vanished b.lines (slice_set (grid_of b) (number_of b.lines p) (Some c)) g of) moved_to
        ∙ seen_as f k

    pub played_put : (t : Taken) → t.theirs ≡ vanished b.lines (slice_set (grid_of b) (number_of b.lines p) (Some c))
        (grid_of b') (other c)
        → t.own ≡ vanished b.lines (slice_set (grid_of b) (number_of b.lines p) (Some c)) (grid_of b') c →
        IsPlayable start.lines now (At p)
        → IsPlayed start.lines now (placed c p t)
    played_put t theirs own playable = record {
      playable = playable;
      taken = taken_put t theirs own;
    }

-- a play on the board is refused with a stone on the point alone
pub occupied_stone : {S : Type 0} (r : Result Taken PlaceError) (e : PlaceError) → r ≡ Err e → e ≡ Occupied →
    (IsErrOf r Occupied ↔ S) → S
occupied_stone r e is of iff = iff.0 (is ∙ ap (λ (x : PlaceError). let y : Result Taken PlaceError = Err x in y) of)

pub same_error : (e f : PlayError) → ◌≡◌ {A = Result Taken PlayError} (Err e) (Err f) →
    ◌≡◌ {A = Result Unit PlayError} (Err e) (Err f)
same_error e f is = ap (λ (x : PlayError). let y : Result Unit PlayError = Err x in y) (let h : e ≡ f = cc in h)
