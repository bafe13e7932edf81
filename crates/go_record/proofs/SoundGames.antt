-- What a record comes to is a standing that play can come to.
use Rattle.std.proofs.Common.{◌≡◌, ◌≢◌, ◌∙◌, ◌<◌, ◌≤◌, ◌*◌, ℕ, ℤ, Bool, true, false, true≢false, List, [], ◌∷◌, refl, sym, subst, inl, inr, arith, length, replicate}
use Rattle.go_board.specs.Sizes.{size_with}
use Rattle.go_game.specs.lemmas.Sound.{sound_more}
use Rattle.std.specs.Prelude.{Option, Some, None, Ok, ◌&&◌, not, option_map, position, ◌==◌, nat_le, pos, codes, IsTrue}
use Rattle.std.proofs.lemmas.Bool.{and_parts, cases_Bool, leb-true}
use Rattle.std.specs.Option.{option_and_then}
use Rattle.std.proofs.lemmas.Int.{ints}
use Rattle.std.proofs.lemmas.List.{length-replicate, length-set}
use Rattle.go_board.specs.declared.colour.Colour.{Colour}
use Rattle.go_board.specs.declared.colour.Colour.TheVariants.{Black, White}
use Rattle.go_board.specs.declared.point.Point.{Point}
use Rattle.go_board.specs.declared.size.TheConstants.{MAX_LINES}
use Rattle.go_board.specs.declared.vertex.Move.{Move}
use Rattle.go_board.specs.Colours.{Colouring, colour_at}
use Rattle.go_board.specs.Points.{number_of}
use Rattle.go_board.specs.Reaching.{is_same, reaches}
use Rattle.go_game.specs.declared.superko.Superko.TheVariants.{Positional}
use Rattle.go_board.specs.Komi.{IsKomi}
use Rattle.go_game.specs.Standings.{IsLegal, IsSound, Standing, with_move}
use Rattle.go_sgf.specs.BoardValues.{vertex_in, points_by_values}
use Rattle.go_sgf.specs.Numbers.{after_sign, has_minus, hundredths_in, hundredths_by, is_decimal, size_by, size_of_number, trimmed, with_sign, whole_part, decimals_in}
use Rattle.go_sgf.specs.Record.{Trees}
use Rattle.go_board.specs.declared.decimals.TheConstants.{MAX_KOMI}
use Rattle.go_record.specs.declared.error.RecordError.{RecordError}
use Rattle.go_record.specs.Games.{IsGameOf, Needs, OrElse, is_blank_value, is_go_value, komi_in, lines_in, number_by, value_at_root}
use Rattle.go_record.specs.declared.root.TheConstants.{USUAL_LINES}
use Rattle.go_record.specs.MainLine.{Event, stones, turn, move_met}
use Rattle.go_board.specs.Living.{AreAlive}
use Rattle.go_record.specs.Walks.{Begins, OrBad, Outcome, Plays, SetsUp, colour_stated, start_of, with_points}

from_bad : {X : Type 0} (node : ℕ) (o : Option X) (s : Standing) (Later : X → Type 0) (P : Type 0) →
    ((x : X) → o ≡ Some x → Later x → P) → OrBad node o (Ok s) Later → P
from_bad node None s Later P f h = cc h
from_bad node (Some x) s Later P f h = f x refl h

from_else : {X : Type 0} (e : RecordError) (o : Option X) (s : Standing) (Later : X → Type 0) (P : Type 0) →
    ((x : X) → o ≡ Some x → Later x → P) → OrElse e o (Ok s) Later → P
from_else e None s Later P f h = cc h
from_else e (Some x) s Later P f h = f x refl h

from_needs : (e : RecordError) (t : Bool) (s : Standing) (Later P : Type 0) → (Later → P) → Needs e t (Ok s) Later → P
from_needs e false s Later P f h = cc h
from_needs e true s Later P f h = f h

same_standing : (s t : Standing) → (let r : Outcome = Ok s in r) ≡ Ok t → s ≡ t
same_standing s t h = cc h

lives_by : (o : Option Colour) (r : Bool) → (not (is_same o None) && not r) ≡ false → o ≢ None → IsTrue r
lives_by None r e some = absurd (some refl)
lives_by (Some c) true e some = refl
lives_by (Some Black) false e some = absurd (true≢false e)
lives_by (Some White) false e some = absurd (true≢false e)

sound_start : (n : ℕ) (komi : ℤ) (g : Colouring) (given : Option Colour) → (0 < n) × (n ≤ MAX_LINES) → IsKomi komi →
    length g ≡ n * n → AreAlive n g → IsSound (start_of n komi g given)
sound_start n komi g given size kept whole alive = record {
  size = size;
  whole = whole;
  komi = kept;
  alive = λ p low some. lives_by (colour_at g p) (reaches n g p None) (alive p low) some;
  legal = λ k m low at. absurd (let e : ⊥ = omega (arith, low) in e);
}

points_length : (n : ℕ) (c : Option Colour) (ps : List Point) (g : Colouring) → length (with_points n c g ps) ≡ length g
points_length n c [] g = refl
points_length n c (p ∷ ps) g = points_length n c ps _ ∙ length-set g (number_of n p) c

-- ---- what the first node says

some_is : {X : Type 0} (x y : X) → (let o : Option X = Some x in o) ≡ Some y → x ≡ y
some_is x y h = cc h

within_range : (o : Option ℕ) (n : ℕ) → option_and_then size_with o ≡ Some n → (0 < n) × (n ≤ MAX_LINES)
within_range None n h = cc h
within_range (Some m) n h = elim (cases_Bool (nat_le 1 m && nat_le m MAX_LINES)) [
  | inl on ↦
      let both = and_parts (nat_le 1 m) (nat_le m MAX_LINES) on in
      let is : m ≡ n = some_is m n (rw on at h) in
      subst (λ (k : ℕ). (0 < k) × (k ≤ MAX_LINES)) is (leb-true 1 m both.0, leb-true m MAX_LINES both.1)
  | inr off ↦ let e : (let o : Option ℕ = None in o) ≡ Some n = rw off at h in cc e
]

lines_range : (value : List ℕ) (n : ℕ) → lines_in value ≡ Some n → (0 < n) × (n ≤ MAX_LINES)
lines_range value n h = elim (cases_Bool (is_blank_value value)) [
  | inl blank ↦ let is : USUAL_LINES ≡ n = some_is USUAL_LINES n (rw blank at h) in
      subst (λ (k : ℕ). (0 < k) × (k ≤ MAX_LINES)) is (omega arith, omega arith)
  | inr some ↦ within_range (number_by value (position (λ b. b == 58) value)) n (rw some at h)
]

size_few : (w d : List ℕ) (n : ℕ) → size_by w d ≡ Some n → n ≤ MAX_KOMI
size_few w d n h = elim (cases_Bool (is_decimal w d && nat_le (hundredths_in w d) MAX_KOMI)) [
  | inl on ↦
      let is : hundredths_in w d ≡ n = some_is (hundredths_in w d) n (rw on at h) in
      subst (λ (k : ℕ). k ≤ MAX_KOMI) is
      (leb-true (hundredths_in w d) MAX_KOMI
      (and_parts (is_decimal w d) (nat_le (hundredths_in w d) MAX_KOMI) on).1)
  | inr off ↦ let e : (let o : Option ℕ = None in o) ≡ Some n = rw off at h in cc e
]

signed_range : (minus : Bool) (n : ℕ) → n ≤ MAX_KOMI → IsKomi (with_sign minus n)
signed_range false n few = (omega (arith, ints, few), omega (arith, ints, few))
signed_range true n few = (omega (arith, ints, few), omega (arith, ints, few))

mapped_range : (minus : Bool) (o : Option ℕ) (k : ℤ) → ((n : ℕ) → o ≡ Some n → n ≤ MAX_KOMI) →
    option_map (with_sign minus) o ≡ Some k → IsKomi k
mapped_range minus None k few h = cc h
mapped_range minus (Some n) k few h = subst IsKomi (some_is (with_sign minus n) k h) (signed_range minus n (few n refl))

komi_range : (value : List ℕ) (k : ℤ) → komi_in value ≡ Some k → IsKomi k
komi_range value k h = elim (cases_Bool (is_blank_value value)) [
  | inl blank ↦ subst IsKomi (some_is (pos 0) k (rw blank at h)) (omega (arith, ints), omega (arith, ints))
  | inr some ↦
      let word = trimmed value in
      let told : hundredths_by value ≡ Some k = rw some at h in
      mapped_range (has_minus word) (size_of_number (after_sign word)) k
      (λ n e. size_few (whole_part (after_sign word)) (decimals_in (after_sign word)) n e) told
]

-- ---- what holds of each start that a record gives, and stays with each legal move, holds of what the record comes to

module _ (P : Standing → Type 0)
    (begun : (n : ℕ) (komi : ℤ) (g : Colouring) (given : Option Colour) → (0 < n) × (n ≤ MAX_LINES) → IsKomi komi →
    length g ≡ n * n → AreAlive n g → P (start_of n komi g given))
    (more : (s : Standing) (m : Move) → P s → IsLegal s m.colour m.vertex → P (with_move s m)) where
  after_play : (events : List Event) (s t : Standing) → P s → Plays s events (Ok t) → P t
  unfolding Plays
  after_play [] s t held h = subst P (sym (same_standing t s h)) held
  after_play (stones node c values ∷ events) s t held h = cc h
  after_play (turn node value ∷ events) s t held h = after_play events s t held h
  after_play (move_met node c value ∷ events) s t held h =
      from_bad node (vertex_in s.lines value) t _ (P t) (λ v e k. elim k [
        | inl p ↦ after_play events (with_move s (record { colour = c; vertex = v })) t
            (more s (record { colour = c; vertex = v }) held p.0) p.1
        | inr q ↦ let f = q.refusal in cc f
      ]) h

  after_begin : (n : ℕ) (komi : ℤ) (g : Colouring) (given : Option Colour) (events : List Event) (t : Standing) →
      (0 < n) × (n ≤ MAX_LINES) → IsKomi komi → length g ≡ n * n →
      Begins n komi g given events (Ok t) → P t
  after_begin n komi g given events t size kept whole (inl p) =
      after_play events (start_of n komi g given) t (begun n komi g given size kept whole p.0) p.1
  after_begin n komi g given events t size kept whole (inr q) = let f = q.refusal in cc f

  after_setup : (events : List Event) (n : ℕ) (komi : ℤ) (g : Colouring) (given : Option Colour) (t : Standing) →
      (0 < n) × (n ≤ MAX_LINES) → IsKomi komi → length g ≡ n * n →
      SetsUp n komi g given events (Ok t) → P t
  unfolding SetsUp
  after_setup [] n komi g given t size kept whole h = after_begin n komi g given [] t size kept whole h
  after_setup (stones node c values ∷ events) n komi g given t size kept whole h =
      from_bad node (points_by_values n values) t _ (P t)
      (λ ps e k. after_setup events n komi (with_points n c g ps) given t size kept (points_length n c ps g ∙ whole)
      k) h
  after_setup (turn node value ∷ events) n komi g given t size kept whole h =
      from_bad node (colour_stated value) t _ (P t) (λ c e k. after_setup events n komi g (Some c) t size kept whole k)
      h
  after_setup (move_met node c value ∷ events) n komi g given t size kept whole h =
      after_begin n komi g given (move_met node c value ∷ events) t size kept whole h

  of_games : (c : Trees) (number : Option ℕ) (t : Standing) → IsGameOf c number (Ok t) → P t
  unfolding IsGameOf
  of_games c number t h =
      from_needs _ (is_go_value (value_at_root (codes "GM") c)) t _ (P t) (λ rest.
      from_else _ (lines_in (value_at_root (codes "SZ") c)) t _ (P t) (λ n en later.
      from_else _ (komi_in (value_at_root (codes "KM") c)) t _ (P t) (λ komi ek walk.
      after_setup _ n komi (replicate (n * n) None) None t (lines_range (value_at_root (codes "SZ") c) n en)
      (komi_range (value_at_root (codes "KM") c) komi ek) (length-replicate (n * n) None) walk)
      later) rest) h

pub games_sound : (c : Trees) (number : Option ℕ) (t : Standing) → IsGameOf c number (Ok t) → IsSound t
games_sound = of_games IsSound sound_start sound_more

pub games_positional : (c : Trees) (number : Option ℕ) (t : Standing) → IsGameOf c number (Ok t) → t.rule ≡ Positional
games_positional = of_games (λ s. s.rule ≡ Positional) (λ n komi g given size kept whole alive. refl)
    (λ s m is legal. is)
