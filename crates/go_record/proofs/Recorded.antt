-- The record of a standing replays to the standing.
use Rattle.go_game.specs.declared.superko.Superko.{Superko}
use Rattle.go_game.specs.declared.superko.Superko.TheVariants.{Positional}
use Rattle.std.proofs.Common.{◌≡◌, ◌≢◌, ◌∙◌, ◌<◌, ◌≤◌, ◌*◌, ◌+◌, ◌++◌, ℕ, ℤ, suc, Bool, true, false, true≢false, List, [], ◌∷◌, refl, sym, ap, ap₂, subst, inl, arith, append_assoc, length, take, map, replicate}
use Rattle.std.specs.Prelude.{Option, Some, None, Ok, ◌==◌, codes, decimal, slice_index_or, IsTrue, not, ◌&&◌, position}
use Rattle.std.specs.List.{flat_map, AllByRecursion}
use Rattle.std.proofs.lemmas.Bool.{le-leb}
use Rattle.std.proofs.lemmas.List.{append-nil}
use Rattle.std.proofs.lemmas.Grind.{flat_map-append}
use Rattle.go_board.specs.declared.colour.Colour.{Colour}
use Rattle.go_board.specs.declared.colour.Colour.TheVariants.{Black, White}
use Rattle.go_board.specs.declared.size.TheConstants.{MAX_LINES}
use Rattle.go_board.specs.declared.vertex.Move.{Move}
use Rattle.go_board.specs.declared.vertex.Vertex.{Vertex}
use Rattle.go_board.specs.declared.vertex.Vertex.TheVariants.{Pass, At}
use Rattle.go_board.specs.Colours.{Colouring, colour_at}
use Rattle.go_board.specs.Points.{point_at}
use Rattle.go_board.specs.Reaching.{has_colour, is_same, reaches}
use Rattle.go_board.specs.Vertices.{IsOnBoard}
use Rattle.go_game.specs.Scores.{hundredths_word}
use Rattle.go_board.specs.Komi.{IsKomi}
use Rattle.go_game.specs.Standings.{IsLegal, IsSound, Standing}
use Rattle.go_sgf.specs.Record.{Property}
use Rattle.go_record.specs.Games.{IsGameOf, komi_in, lines_in}
use Rattle.go_record.specs.MainLine.{Event, events_from, events_of, move_met, move_event, setup_event, stones}
use Rattle.go_record.specs.Records.{colour_letter, move_node, point_value, points_coloured, stones_property, game_tree, vertex_value}
use Rattle.go_board.specs.Living.{AreAlive}
use Rattle.go_record.specs.Walks.{Begins, Outcome, Plays, SetsUp, colour_stated}
use Rattle.go_record.proofs.Lines.{game_walks}
use Rattle.go_record.proofs.Painting.{all_below, points_read, set_by_numbers, set_numbers, start_back, vertex_read}
use Rattle.go_record.proofs.Spelled.{IsDigit, IsLow, NoSpace, all_weaker, decimal_is, digits_no_space, komi_low, komi_read, low_clean, no_byte, not_blank, number_read, word_some}
use Rattle.go_record.proofs.Walking.{plays_end, plays_legal, sets_end, sets_move, sets_stones, sets_turn}

-- ---- moves

-- this standing's start with other moves
abbrev pub with_line : Standing → List Move → Standing
with_line s moves = record s { moves = moves }

abbrev pub AreLegal : Standing → List Move → List Move → Type 0
AreLegal s done moves = (k : ℕ) (m : Move) → k < length moves → slice_index_or moves k m ≡ m →
    IsLegal (with_line s (done ++ take k moves)) m.colour m.vertex

legal_on : (s : Standing) (c : Colour) (v : Vertex) → IsLegal s c v → IsOnBoard s.lines v
legal_on s c Pass h = tt
legal_on s c (At p) h = h.0

-- the event of a move's node
node_event : (j n : ℕ) (c : Colour) (v : Vertex) →
    events_of j (move_node n (record { colour = c; vertex = v })) ≡ move_met j c (vertex_value n v) ∷ []
node_event j n Black v = refl
node_event j n White v = refl

moves_play : (moves : List Move) (s : Standing) (done : List Move) (j : ℕ) → s.lines ≤ MAX_LINES →
    AreLegal s done moves →
    Plays (with_line s done) (events_from j (map (move_node s.lines) moves)) (Ok (with_line s (done ++ moves)))
moves_play [] s done j small h =
    subst (λ (ms : List Move). Plays (with_line s done) [] (Ok (with_line s ms))) (sym (append-nil done))
    (plays_end (with_line s done))
moves_play (m ∷ moves) s done j small h =
    let legal : IsLegal (with_line s done) m.colour m.vertex =
    subst (λ (ms : List Move). IsLegal (with_line s ms) m.colour m.vertex) (append-nil done)
    (h 0 m (omega arith) refl) in
    let rest = events_from (j + 1) (map (move_node s.lines) moves) in
    let later : AreLegal s (done ++ m ∷ []) moves = λ k n low is.
    subst (λ (ms : List Move). IsLegal (with_line s ms) n.colour n.vertex)
    (sym (append_assoc done (m ∷ []) (take k moves))) (h (suc k) n (omega (arith, low)) is) in
    let played : Plays (with_line s (done ++ m ∷ [])) rest (Ok (with_line s (done ++ m ∷ moves))) =
    subst (λ (ms : List Move). Plays (with_line s (done ++ m ∷ [])) rest (Ok (with_line s ms)))
    (append_assoc done (m ∷ []) moves)
    (moves_play moves s (done ++ m ∷ []) (j + 1) small later) in
    subst (λ (es : List Event). Plays (with_line s done) (es ++ rest) (Ok (with_line s (done ++ m ∷ moves))))
    (sym (node_event j s.lines m.colour m.vertex))
    (plays_legal (with_line s done) j m.colour (vertex_value s.lines m.vertex) m.vertex rest
    (Ok (with_line s (done ++ m ∷ moves)))
    (vertex_read s.lines m.vertex small (legal_on (with_line s done) m.colour m.vertex legal)) legal played)

-- before the first of them the start is judged
begins_moves : (moves : List Move) (n j : ℕ) (komi : ℤ) (g : Colouring) (given : Option Colour) (outcome : Outcome) →
    Begins n komi g given (events_from j (map (move_node n) moves)) outcome →
    SetsUp n komi g given (events_from j (map (move_node n) moves)) outcome
begins_moves [] n j komi g given outcome h = sets_end n komi g given outcome h
begins_moves (m ∷ moves) n j komi g given outcome h =
    let rest = events_from (j + 1) (map (move_node n) moves) in
    let is = node_event j n m.colour m.vertex in
    subst (λ (es : List Event). SetsUp n komi g given (es ++ rest) outcome) (sym is)
    (sets_move n komi g given j m.colour (vertex_value n m.vertex) rest outcome
    (subst (λ (es : List Event). Begins n komi g given (es ++ rest) outcome) is h))

-- ---- the start

stones_set : (name : List ℕ) (n : ℕ) (c : Colour) →
    ((values : List (List ℕ)) → setup_event 0 (record { name = name; values = values }) ≡ stones 0 (Some c) values ∷
    []) →
    (komi : ℤ) (g : Colouring) (given : Option Colour) (ks : List ℕ) (rest : List Event) (outcome : Outcome) →
    n ≤ MAX_LINES → AllByRecursion (λ k. k < n * n) ks →
    SetsUp n komi (set_numbers (Some c) g ks) given rest outcome →
    SetsUp n komi g given (flat_map (setup_event 0) (stones_property name n ks) ++ rest) outcome
stones_set name n c is komi g given [] rest outcome small low h = h
stones_set name n c is komi g given (k ∷ ks) rest outcome small low h =
    let values : List (List ℕ) = map (λ j. point_value n (point_at n j)) (k ∷ ks) in
    subst (λ (es : List Event). SetsUp n komi g given ((es ++ []) ++ rest) outcome) (sym (is values))
    (sets_stones n komi g given 0 (Some c) values (map (point_at n) (k ∷ ks)) rest outcome
    (points_read n (k ∷ ks) small low)
    (subst (λ (x : Colouring). SetsUp n komi x given rest outcome) (sym (set_by_numbers n (Some c) (k ∷ ks) g low)) h))

-- stones set up are no moves
no_moves : (name : List ℕ) (n : ℕ) →
    ((values : List (List ℕ)) → move_event 0 (record { name = name; values = values }) ≡ []) → (ks : List ℕ) →
    flat_map (move_event 0) (stones_property name n ks) ≡ []
no_moves name n is [] = refl
no_moves name n is (k ∷ ks) = rw is refl

dead_by : (o : Option Colour) (r : Bool) → (o ≢ None → IsTrue r) → (not (is_same o None) && not r) ≡ false
dead_by None r h = refl
dead_by (Some Black) true h = refl
dead_by (Some White) true h = refl
dead_by (Some c) false h = absurd (true≢false (sym (h (λ e. cc e))))

alive_from : (s : Standing) → IsSound s → AreAlive s.lines s.start
alive_from s sound = λ k low. dead_by (colour_at s.start k) (reaches s.lines s.start k None) (sound.alive k low)

lines_read : (n : ℕ) → 0 < n → n ≤ MAX_LINES → lines_in (decimal n) ≡ Some n
lines_read n some small =
    let is = decimal_is n (omega (arith, small)) in
    let named : position (λ b. b == 58) (decimal n) ≡ None =
    no_byte 58 (decimal n) (all_weaker {P = IsDigit} {Q = λ c. c ≢ 58} (λ c h e. omega (arith, e, h.1)) (decimal n)
    is.digits) in
    rw (
      not_blank (decimal n) is.some (digits_no_space (decimal n) is.digits),
      named,
      number_read n (decimal n) is (omega (arith, small)),
      le-leb 1 n some,
      le-leb n MAX_LINES small,
    ) refl

komi_back : (k : ℤ) → IsKomi k → komi_in (hundredths_word k) ≡ Some k
komi_back k h =
    rw (not_blank (hundredths_word k) (word_some k h)
    (all_weaker {P = IsLow} {Q = NoSpace} low_clean (hundredths_word k) (komi_low k h))) (komi_read k h)

letter_read : (c : Colour) → colour_stated (colour_letter c) ≡ Some c
letter_read Black = refl
letter_read White = refl

-- what the record says of the start, and its moves
start_events : (s : Standing) (blacks whites : List ℕ) →
    (flat_map (setup_event 0) (stones_property (codes "AB") s.lines blacks
    ++ stones_property (codes "AW") s.lines whites)
    ++ flat_map (move_event 0) (stones_property (codes "AB") s.lines blacks
    ++ stones_property (codes "AW") s.lines whites))
    ++ events_from 1 (map (move_node s.lines) s.moves ++ [])
    ≡ flat_map (setup_event 0) (stones_property (codes "AB") s.lines blacks)
    ++ (flat_map (setup_event 0) (stones_property (codes "AW") s.lines whites)
    ++ events_from 1 (map (move_node s.lines) s.moves))
start_events s blacks whites =
    let ab : List Property = stones_property (codes "AB") s.lines blacks in
    let aw : List Property = stones_property (codes "AW") s.lines whites in
    let cursor : List Event = events_from 1 (map (move_node s.lines) s.moves) in
    let none : flat_map (move_event 0) (ab ++ aw) ≡ [] =
    flat_map-append (move_event 0) ab aw
    ∙ ap₂ (λ x y. x ++ y) (no_moves (codes "AB") s.lines (λ values. refl) blacks)
    (no_moves (codes "AW") s.lines (λ values. refl) whites) in
    let setup : flat_map (setup_event 0) (ab ++ aw) ++ flat_map (move_event 0) (ab ++ aw) ≡ flat_map (setup_event 0) ab
    ++ flat_map (setup_event 0) aw =
    ap (λ es. flat_map (setup_event 0) (ab ++ aw) ++ es) none ∙ append-nil (flat_map (setup_event 0) (ab ++ aw))
    ∙ flat_map-append (setup_event 0) ab aw in
    ap (λ (ns : List (List Property)). (flat_map (setup_event 0) (ab ++ aw) ++ flat_map (move_event 0) (ab ++ aw))
    ++ events_from 1 ns) (append-nil (map (move_node s.lines) s.moves))
    ∙ ap (λ es. es ++ cursor) setup ∙ append_assoc (flat_map (setup_event 0) ab) (flat_map (setup_event 0) aw) cursor

-- the standing with its rule the positional one
abbrev judged : Standing → Standing
judged s = record s { rule = Positional }

replays_judged : (t : Standing) → IsSound (judged t) → IsGameOf (game_tree (judged t)) None (Ok (judged t))
replays_judged t sound =
    let s = judged t in
    let n = s.lines in
    let small = sound.size.1 in
    let blacks : List ℕ = points_coloured n s.start Black in
    let whites : List ℕ = points_coloured n s.start White in
    let empty : Colouring = replicate (n * n) None in
    let black : Colouring = set_numbers (Some Black) empty blacks in
    let full : Colouring = set_numbers (Some White) black whites in
    let cursor : List Event = events_from 1 (map (move_node n) s.moves) in
    let playing : SetsUp n s.komi s.start (Some s.first) cursor (Ok s) =
    begins_moves s.moves n 1 s.komi s.start (Some s.first) (Ok s)
    (inl (alive_from s sound, moves_play s.moves s [] 1 small sound.legal)) in
    let set : SetsUp n s.komi full (Some s.first) cursor (Ok s) =
    subst (λ (g : Colouring). SetsUp n s.komi g (Some s.first) cursor (Ok s)) (sym (start_back n s.start sound.whole))
    playing in
    let whole : SetsUp n s.komi empty (Some s.first)
    (flat_map (setup_event 0) (stones_property (codes "AB") n blacks)
    ++ (flat_map (setup_event 0) (stones_property (codes "AW") n whites) ++ cursor)) (Ok s) =
    stones_set (codes "AB") n Black (λ values. refl) s.komi empty (Some s.first) blacks
    (flat_map (setup_event 0) (stones_property (codes "AW") n whites) ++ cursor) (Ok s) small
    (all_below (λ k. has_colour s.start k (Some Black)) (n * n))
    (stones_set (codes "AW") n White (λ values. refl) s.komi black (Some s.first) whites cursor (Ok s) small
    (all_below (λ k. has_colour s.start k (Some White)) (n * n)) set) in
    game_walks (game_tree s) None n s.komi (Ok s) refl (lines_read n sound.size.0 small) (komi_back s.komi sound.komi)
    (sets_turn n s.komi empty None 0 (colour_letter s.first) s.first _ (Ok s) (letter_read s.first)
    (subst (λ (es : List Event). SetsUp n s.komi empty (Some s.first) es (Ok s)) (sym (start_events s blacks whites))
    whole))

pub replays : (s : Standing) → IsSound s → s.rule ≡ Positional → IsGameOf (game_tree s) None (Ok s)
replays s sound is =
    let same : judged s ≡ s = ap (λ (rule : Superko). let t : Standing = record s { rule = rule } in t) (sym is) in
    subst (λ (t : Standing). IsGameOf (game_tree t) None (Ok t)) same
    (replays_judged s (subst IsSound (sym same) sound))
