-- Steps one after the other: what one more adds, and what the last took away leaves.
use Rattle.std.proofs.Common.{arith, ◌≡◌, ◌<◌, ◌≤◌, ◌+◌, ◌-◌, ◌*◌, ◌^◌, ◌∙◌, ℕ, List, [], ◌∷◌, ◌++◌, Some, length, map, take, refl, sym, ap, subst}
use Rattle.go_board.specs.Laws.{TakenAndLeft}
use Rattle.go_board.specs.lemmas.Squares.{square-le}
use Rattle.std.specs.List.{slice_get}
use Rattle.std.proofs.lemmas.List.{take_all, take_more}
use Rattle.std.proofs.lemmas.Option.{get_or_from_slice_get, slice_get_within}
use Rattle.go_board.specs.declared.colour.Colour.{Colour}
use Rattle.go_board.specs.declared.colour.Colour.TheVariants.{Black, White}
use Rattle.go_board.specs.declared.vertex.Move.{Move}
use Rattle.go_board.specs.Colours.{Colouring, other}
use Rattle.go_game.specs.declared.step.Step.{Step}
use Rattle.go_game.specs.Standings.{IsLegal, IsSound, after_move, after_vertex, board, mover_after}
use Rattle.go_game.specs.Prisoners.{prisoners_from, taken_by, share_of}
use Rattle.go_board.specs.declared.size.TheConstants.{MAX_LINES}
use Rattle.go_board.specs.declared.vertex.Vertex.{Vertex}
use Rattle.go_board.specs.declared.vertex.Vertex.TheVariants.{Pass, At}
use Rattle.go_board.specs.Points.{number_of}
use Rattle.go_board.specs.Reaching.{after_clearing, cleared, has_colour, moved, points, stones}
use Rattle.std.proofs.lemmas.List.Sums.{count_by-le-length}
use Rattle.std.specs.Prelude.{slice_set}
use Rattle.std.proofs.lemmas.List.FromFn.{length-map-range_with_len, length-range_with_len}
use Rattle.go_game.specs.inner.Held.{ArePlayed, IsHeld, IsPlayed, Start, made_of, standing_of}
use Rattle.go_game.specs.lemmas.Sound.{sound_prefix, sound_more}

-- the last move is the newest
pub board_push : (n : ℕ) (g : Colouring) (moves : List Move) (m : Move) →
    board n g (moves ++ m ∷ []) ≡ after_move n (board n g moves) m
board_push n g [] m = refl
board_push n g (x ∷ moves) m = board_push n (after_move n g x) moves m

pub mover_push : (first : Colour) (moves : List Move) (m : Move) → mover_after first (moves ++ m ∷ []) ≡ other m.colour
mover_push first [] m = refl
mover_push first (x ∷ moves) m = mover_push (other x.colour) moves m

pub prisoners_push : (n : ℕ) (g : Colouring) (moves : List Move) (m : Move) (of : Colour)
    → prisoners_from n g (moves ++ m ∷ []) of ≡ prisoners_from n g moves of
    + taken_by n (board n g moves) m.colour m.vertex of
prisoners_push n g [] m of = let e : taken_by n g m.colour m.vertex of + 0 ≡ 0 + taken_by n g m.colour m.vertex of =
    omega arith in e
prisoners_push n g (x ∷ moves) m of =
    let rest = prisoners_push n (after_move n g x) moves m of in
    let e : taken_by n g x.colour x.vertex of + prisoners_from n (after_move n g x) (moves ++ m ∷ []) of
    ≡ taken_by n g x.colour x.vertex of + prisoners_from n (after_move n g x) moves of
    + taken_by n (board n (after_move n g x) moves) m.colour m.vertex of = omega (arith, rest) in e

pub made_push : (steps : List Step) (s : Step) → map made_of (steps ++ s ∷ []) ≡ map made_of steps ++ made_of s ∷ []
made_push [] s = refl
made_push (x ∷ steps) s = ap (λ ms. made_of x ∷ ms) (made_push steps s)

pub played_prefix : (n : ℕ) (g : Colouring) (prefix : List Step) (s : Step) → ArePlayed n g (prefix ++ s ∷ []) →
    ArePlayed n g prefix × IsPlayed n (board n g (map made_of prefix)) s
played_prefix n g [] s h = (tt, h.0)
played_prefix n g (x ∷ prefix) s h = let rest = played_prefix n (after_move n g x.made) prefix s h.1 in
    ((h.0, rest.0), rest.1)

pub played_push : (n : ℕ) (g : Colouring) (prefix : List Step) (s : Step) → ArePlayed n g prefix →
    IsPlayed n (board n g (map made_of prefix)) s → ArePlayed n g (prefix ++ s ∷ [])
played_push n g [] s h last = (last, tt)
played_push n g (x ∷ prefix) s h last = (h.0, played_push n (after_move n g x.made) prefix s h.1 last)

-- the last element, and those before it
pub last_split : {X : Type 0} (xs : List X) (x : X) → slice_get xs (length xs - 1) ≡ Some x → (prefix : List X)
    × (xs ≡ prefix ++ x ∷ [])
last_split xs x e =
    let within = slice_get_within xs (length xs - 1) x e in
    let whole : take (length xs - 1 + 1) xs ≡ xs = take_all (length xs - 1 + 1) xs (omega arith) in (
      take (length xs - 1) xs,
      sym whole ∙ take_more xs (length xs - 1) x within
          ∙ ap (λ y. take (length xs - 1) xs ++ y ∷ []) (get_or_from_slice_get xs (length xs - 1) x x e),
    )

pub mover_last : (first : Colour) (steps : List Step) (s : Step) → slice_get steps (length steps - 1) ≡ Some s →
    other s.made.colour ≡ mover_after first (map made_of steps)
mover_last first steps s last =
    let split = last_split steps s last in
    sym (mover_push first (map made_of split.0) (made_of s)) ∙ ap (mover_after first) (sym (made_push split.0 s))
    ∙ ap (λ (xs : List Step). mover_after first (map made_of xs)) (sym split.1)

-- taking the last step off leaves what was held before it, and what it took is among the prisoners
pub held_prefix : {start : Start} {steps : List Step} (prefix : List Step) (s : Step) {black white : ℕ}
    (black' white' : ℕ)
    → steps ≡ prefix ++ s ∷ [] → IsHeld start steps black white
    → black ≡ black' + share_of s.made.colour s.taken Black → white ≡ white' + share_of s.made.colour s.taken White
    → IsHeld start prefix black' white'
held_prefix {start = start} {steps = steps} prefix s black' white' is held less_black less_white =
    let moves = map made_of prefix in
    let all : map made_of steps ≡ moves ++ made_of s ∷ [] = ap (λ (xs : List Step). map made_of xs) is
    ∙ made_push prefix s in
    let parts = played_prefix start.lines start.colours prefix s
    (subst (ArePlayed start.lines start.colours) is held.played) in
    let b = held.black_taken ∙ ap (λ (ms : List Move). prisoners_from start.lines start.colours ms Black) all
    ∙ prisoners_push start.lines start.colours moves (made_of s) Black in
    let w = held.white_taken ∙ ap (λ (ms : List Move). prisoners_from start.lines start.colours ms White) all
    ∙ prisoners_push start.lines start.colours moves (made_of s) White in
    record {
      played = parts.0;
      sound = sound_prefix (standing_of start prefix) moves (made_of s)
          (subst (λ (ms : List Move). IsSound (record (standing_of start prefix) { moves = ms })) all held.sound);
      black_taken = omega (arith, b, parts.1.taken Black, less_black);
      white_taken = omega (arith, w, parts.1.taken White, less_white);
    }

pub share_held : {start : Start} {steps : List Step} (prefix : List Step) (s : Step) {black white : ℕ}
    → steps ≡ prefix ++ s ∷ [] → IsHeld start steps black white
    → (share_of s.made.colour s.taken Black ≤ black) × (share_of s.made.colour s.taken White ≤ white)
share_held {start = start} {steps = steps} prefix s is held =
    let moves = map made_of prefix in
    let all : map made_of steps ≡ moves ++ made_of s ∷ [] = ap (λ (xs : List Step). map made_of xs) is
    ∙ made_push prefix s in
    let parts = played_prefix start.lines start.colours prefix s
    (subst (ArePlayed start.lines start.colours) is held.played) in
    let b = held.black_taken ∙ ap (λ (ms : List Move). prisoners_from start.lines start.colours ms Black) all
    ∙ prisoners_push start.lines start.colours moves (made_of s) Black in
    let w = held.white_taken ∙ ap (λ (ms : List Move). prisoners_from start.lines start.colours ms White) all
    ∙ prisoners_push start.lines start.colours moves (made_of s) White in
    (omega (arith, b, parts.1.taken Black), omega (arith, w, parts.1.taken White))

-- what a move leaves has a value for each point
pub length-moved : (n : ℕ) (g : Colouring) (c : Colour) (p : ℕ) → length (moved n g c p) ≡ n * n
unfolding moved cleared
length-moved n g c p = length-map-range_with_len (after_clearing n (cleared n (slice_set g p (Some c)) (other c)) c) 0
    (n * n)

turn_le : TakenAndLeft → (n : ℕ) (g : Colouring) (c : Colour) (v : Vertex) (of : Colour) → taken_by n g c v of
    + stones n (after_vertex n g c v) of ≤ stones n g of + 1
turn_le law n g c Pass of = omega arith
turn_le law n g c (At p) of = let a = law.together n g c (number_of n p) of in let b =
    law.placed n g c (number_of n p) of in omega arith

stones_le : (n : ℕ) (g : Colouring) (of : Colour) → stones n g of ≤ n * n
stones_le n g of = let few = count_by-le-length (λ p. has_colour g p (Some of)) (points n) in let long =
    length-range_with_len 0 (n * n) in omega arith

-- prisoners and stones together are at most the stones at the start and the moves
prisoners_le : TakenAndLeft → (n : ℕ) (g : Colouring) (moves : List Move) (of : Colour) → prisoners_from n g moves of
    + stones n (board n g moves) of ≤ stones n g of + length moves
prisoners_le law n g [] of = omega arith
prisoners_le law n g (m ∷ moves) of =
    let rest = prisoners_le law n (after_move n g m) moves of in
    let first = turn_le law n g m.colour m.vertex of in
    omega (arith, rest, first)

-- the counters have room for what one more step takes
pub room_held : TakenAndLeft → {start : Start} {steps : List Step} (s : Step) {black white : ℕ}
    → IsHeld start steps black white → length (map made_of steps) < 2 ^ 63 →
    IsPlayed start.lines (board start.lines start.colours (map made_of steps)) s
    → (black + share_of s.made.colour s.taken Black < 2 ^ 64) × (white + share_of s.made.colour s.taken White < 2 ^ 64)
room_held law {start = start} {steps = steps} s held few played =
    let small : start.lines ≤ MAX_LINES = held.sound.size.1 in
    let n = start.lines in
    let square = square-le n small in
    let g = start.colours in
    let moves = map made_of steps in
    let now = board n g moves in
    let b = prisoners_le law n g moves Black in
    let w = prisoners_le law n g moves White in
    let gb = stones_le n g Black in let gw = stones_le n g White in
    let nb = stones_le n now Black in let nw = stones_le n now White in
    let tb = turn_le law n now s.made.colour s.made.vertex Black in
    let tw = turn_le law n now s.made.colour s.made.vertex White in (
      omega (arith, held.black_taken, b, gb, nb, played.taken Black, tb, few, square),
      omega (arith, held.white_taken, w, gw, nw, played.taken White, tw, few, square),
    )

-- what is held with one more step
pub held_push : {start : Start} {steps more : List Step} (s : Step) {black white black' white' : ℕ}
    → more ≡ steps ++ s ∷ [] → IsHeld start steps black white
    → IsPlayed start.lines (board start.lines start.colours (map made_of steps)) s →
    IsLegal (standing_of start steps) s.made.colour s.made.vertex
    → black' ≡ black + share_of s.made.colour s.taken Black → white' ≡ white + share_of s.made.colour s.taken White
    → IsHeld start more black' white'
held_push {start = start} {steps = steps} {more = more} s is held played legal more_black more_white =
    let moves = map made_of steps in
    let all : map made_of more ≡ moves ++ made_of s ∷ [] = ap (λ (xs : List Step). map made_of xs) is
    ∙ made_push steps s in
    let b = ap (λ (ms : List Move). prisoners_from start.lines start.colours ms Black) all
    ∙ prisoners_push start.lines start.colours moves (made_of s) Black in
    let w = ap (λ (ms : List Move). prisoners_from start.lines start.colours ms White) all
    ∙ prisoners_push start.lines start.colours moves (made_of s) White in
    record {
      played = subst (ArePlayed start.lines start.colours) (sym is)
          (played_push start.lines start.colours steps s held.played played);
      sound = subst (λ (ms : List Move). IsSound (record (standing_of start steps) { moves = ms })) (sym all)
          (sound_more (standing_of start steps) (made_of s) held.sound legal);
      black_taken = omega (arith, b, held.black_taken, played.taken Black, more_black);
      white_taken = omega (arith, w, held.white_taken, played.taken White, more_white);
    }
