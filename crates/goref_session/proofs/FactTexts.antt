-- What a fact says goes on a line: no line of it is empty.
use Rattle.std.proofs.Common.{arith, ◌≡◌, ◌≤◌, ◌+◌, ◌-◌, ◌*◌, ℕ, zero, suc, Bool, true, false, List, [], ◌∷◌, ◌++◌, length, refl, take}
use Rattle.std.specs.Prelude.{Option, Some, None, codes, decimal, filter, nat_le, nat_lt, slice_index_or}
use Rattle.std.specs.List.{flat_map, list_all, range_with_len}
use Rattle.go_board.specs.declared.colour.Colour.{Colour}
use Rattle.go_board.specs.declared.colour.Colour.TheVariants.{Black, White}
use Rattle.go_board.specs.declared.point.Point.{Point}
use Rattle.go_board.specs.declared.vertex.Vertex.{Vertex}
use Rattle.go_board.specs.declared.vertex.Vertex.TheVariants.{Pass, At}
use Rattle.go_board.specs.Chains.{first_stones, members, liberties}
use Rattle.go_board.specs.Colours.{Colouring, colour_at, letter_of}
use Rattle.go_board.specs.Points.{point_at}
use Rattle.go_board.specs.Reaching.{points}
use Rattle.go_board.specs.Vertices.{column_letters, vertex_word}
use Rattle.go_game.specs.Handicaps.{fixed}
use Rattle.go_game.specs.Prisoners.{prisoners_of}
use Rattle.go_game.specs.Scores.{margin_of, score_word}
use Rattle.go_game.specs.Standings.{Standing, board_of, mover_of}
use Rattle.go_record.specs.Records.{record_body}
use Rattle.goref_results.specs.ChainLines.{chain_line, spaced_vertex, stone_text}
use Rattle.goref_results.specs.Diagrams.{diagram, letters_text, mark_of, marks_text, padding_of, prisoners_text, right_in_two, row_text, rows_text, setting_text, spaced_letter, spaced_mark, turn_text}
use Rattle.goref_results.specs.Places.{places_text, point_word}
use Rattle.goref_results.specs.Plays.{number_word, plays_text}
use Rattle.goref_session.specs.Replies.{fact_text}
use Rattle.goref_session.specs.Telling.{topic_text, truth_text}
use Rattle.goref_session.specs.declared.command.Topic.{Topic}
use Rattle.goref_session.specs.declared.command.Topic.TheVariants.{Protocol, Program, Release, Commands, Score, Board, Chains, Record}
use Rattle.goref_session.specs.declared.decision.Fact.{Fact}
use Rattle.goref_session.specs.declared.decision.Fact.TheVariants.{About, Known, Places, Choice, Plays}
use Rattle.goref_session.proofs.Decimals.{full_decimal, hundredths_line, score_line}
use Rattle.goref_session.proofs.Lines.{GoesOn, IsFull, IsLine, append_full, append_goes_on, flat_map_goes_on, full_append, line_append, line_at, line_after, line_by_test, line_flat_map, line_goes_on, line_if, line_joined, lines_go_on}
use Rattle.goref_session.proofs.RecordLine.{record_line}

-- words before more of a line
after_words : (words more : List ℕ) → list_all (nat_le 32) words ≡ true → IsLine more → IsLine (words ++ more)
after_words words more h k = line_append words more (line_by_test words h) k

after_number : (n : ℕ) (more : List ℕ) → IsLine more → IsLine (decimal n ++ more)
after_number n more h = line_append (decimal n) more ((full_decimal n).line) h

-- ---- vertices

vertex_line : (v : Vertex) → IsLine (vertex_word v)
vertex_line Pass = line_by_test (codes "pass") refl
vertex_line (At p) = (
  line_at column_letters p.col 63 (line_by_test column_letters refl) (omega arith),
  (full_decimal (p.row + 1)).line,
)

places_line : (places : Option (List Point)) → IsLine (places_text places)
places_line None = tt
places_line (Some points) = line_joined point_word (λ p. vertex_line (At p)) points

plays_line : (n : ℕ) (marks : List Bool) → IsLine (plays_text n marks)
plays_line n marks = line_joined (number_word n) (λ p. vertex_line (At (point_at n p)))
    (filter (λ p. slice_index_or marks p false) (points n))

-- ---- chains

letter_plain : (c : Colour) → 32 ≤ letter_of c
letter_plain Black = omega arith
letter_plain White = omega arith

stone_line : (o : Option Colour) → IsLine (stone_text o)
stone_line None = tt
stone_line (Some c) = (letter_plain c, tt)

vertices_line : (n : ℕ) (ps : List ℕ) → IsLine (flat_map (spaced_vertex n) ps)
vertices_line n ps = line_flat_map (spaced_vertex n) (λ p. (omega arith, vertex_line (At (point_at n p)))) ps

full_chain : (n : ℕ) (g : Colouring) (p : ℕ) → IsFull (chain_line n g p)
full_chain n g p =
    let liberties_text : List ℕ = flat_map (spaced_vertex n) (liberties n g p) in
    append_full (stone_text (colour_at g p)) _ (stone_line (colour_at g p))
    (append_full (flat_map (spaced_vertex n) (members n g p)) (codes " :" ++ liberties_text)
    (vertices_line n (members n g p))
    (record {
      line = after_words (codes " :") liberties_text refl (vertices_line n (liberties n g p));
      some = λ e.
          cc e;
    }))

-- ---- the diagram

setting_line : (s : Standing) → IsLine (setting_text s)
setting_line s = after_words (codes "size ") _ refl
    (after_number s.lines _ (after_words (codes " komi ") _ refl (hundredths_line s.komi)))

prisoners_line : (s : Standing) → IsLine (prisoners_text s)
prisoners_line s =
    after_words (codes " prisoners B ") _ refl
    (after_number (prisoners_of s Black) _
    (after_words (codes " W ") _ refl ((full_decimal (prisoners_of s White)).line)))

turn_line : (s : Standing) → IsLine (turn_text s)
turn_line s =
    after_words (codes " moves ") _ refl
    (after_number (length s.moves) _
    (after_words (codes " next ") (letter_of (mover_of s) ∷ []) refl (letter_plain (mover_of s), tt)))

mark_plain : (o : Option Colour) → 32 ≤ mark_of o
mark_plain None = omega arith
mark_plain (Some Black) = omega arith
mark_plain (Some White) = omega arith

full_number : (n : ℕ) → IsFull (right_in_two n)
full_number n = append_full (padding_of n) (decimal n) (line_if (nat_lt n 10) (codes " ") [] (omega arith, tt) tt)
    (full_decimal n)

row_goes_on : (n : ℕ) (g : Colouring) (row : ℕ) → GoesOn (row_text n g row)
row_goes_on n g row =
    let marks = line_flat_map (spaced_mark n g row)
    (λ col. (omega arith, (mark_plain (colour_at g (row * n + col)), tt))) (range_with_len 0 n) in
    line_after (right_in_two (row + 1) ++ marks_text n g row n)
    (full_append (right_in_two (row + 1)) (marks_text n g row n) (full_number (row + 1)) marks)

letters_line : (n : ℕ) (letters : List ℕ) → IsLine letters → IsLine (flat_map spaced_letter (take n letters))
letters_line zero letters h = tt
letters_line (suc n) [] h = tt
letters_line (suc n) (letter ∷ letters) h = (omega arith, (h.0, letters_line n letters h.1))

letters_go_on : (n : ℕ) → GoesOn (letters_text n)
letters_go_on n =
    line_after (codes "  " ++ flat_map spaced_letter (take n column_letters))
    (record {
      line = after_words (codes "  ") _ refl
          (letters_line n column_letters (line_by_test column_letters refl));
      some = λ e. cc e;
    })

diagram_goes_on : (s : Standing) → GoesOn (diagram s)
diagram_goes_on s =
    let n = s.lines in
    let g = board_of s in
    let rows = flat_map_goes_on (λ k. row_text n g (n - 1 - k)) (λ k. row_goes_on n g (n - 1 - k))
    (range_with_len 0 n) in
    append_goes_on (setting_text s) _ (line_goes_on (setting_text s) (setting_line s))
    (append_goes_on (prisoners_text s) _ (line_goes_on (prisoners_text s) (prisoners_line s))
    (append_goes_on (turn_text s) _ (line_goes_on (turn_text s) (turn_line s))
    (append_goes_on (rows_text n g n) (letters_text n) rows (letters_go_on n))))

-- ---- facts

truth_goes_on : (truth : Bool) → GoesOn (truth_text truth)
truth_goes_on true = refl
truth_goes_on false = refl

topic_goes_on : (topic : Topic) (s : Standing) → GoesOn (topic_text topic s)
topic_goes_on Protocol s = refl
topic_goes_on Program s = refl
topic_goes_on Release s = refl
topic_goes_on Commands s = refl
topic_goes_on Score s = line_goes_on (score_word (margin_of s)) (score_line (margin_of s))
topic_goes_on Board s = diagram_goes_on s
topic_goes_on Chains s = lines_go_on (chain_line s.lines (board_of s)) (full_chain s.lines (board_of s))
    (first_stones s.lines (board_of s))
topic_goes_on Record s = line_goes_on (record_body s) (record_line s)

pub fact_goes_on : (fact : Fact) (s : Standing) → GoesOn (fact_text fact s)
fact_goes_on (About topic) s = topic_goes_on topic s
fact_goes_on (Known truth) s = truth_goes_on truth
fact_goes_on (Places number) s = line_goes_on (places_text (fixed s.lines number)) (places_line (fixed s.lines number))
fact_goes_on (Choice v) s = line_goes_on (vertex_word v) (vertex_line v)
fact_goes_on (Plays marks) s = line_goes_on (plays_text s.lines marks) (plays_line s.lines marks)
