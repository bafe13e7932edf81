-- The record of a standing is one line.
use Rattle.std.proofs.Common.{arith, ◌≡◌, ℕ, true, List, [], ◌∷◌, ◌++◌, map, refl}
use Rattle.std.specs.Prelude.{codes, decimal, nat_le}
use Rattle.std.specs.List.{AllByRecursion, flat_map, list_all}
use Rattle.go_board.specs.declared.colour.Colour.{Colour}
use Rattle.go_board.specs.declared.colour.Colour.TheVariants.{Black, White}
use Rattle.go_board.specs.declared.point.Point.{Point}
use Rattle.go_board.specs.declared.vertex.Move.{Move}
use Rattle.go_board.specs.declared.vertex.Vertex.{Vertex}
use Rattle.go_board.specs.declared.vertex.Vertex.TheVariants.{Pass, At}
use Rattle.go_board.specs.Points.{point_at}
use Rattle.go_game.specs.Standings.{Standing}
use Rattle.go_record.specs.Records.{alone, colour_letter, move_node, nodes_of, point_value, points_coloured, record_body, start_node, stones_property, vertex_value}
use Rattle.go_sgf.specs.Record.{Property, is_upper_byte, plain_property}
use Rattle.go_sgf.specs.Spelling.{Part, closing, text_of_parts, node_parts, opening, property_parts, text, value_part}
use Rattle.goref_session.proofs.Decimals.{full_decimal, hundredths_line}
use Rattle.goref_session.proofs.Lines.{IsLine, all_append, line_append, line_by_test, line_filter}

-- ---- parts

abbrev IsLinePart : Part → Type 0
IsLinePart p = IsLine (text p)

joined_line : (ps : List Part) → AllByRecursion IsLinePart ps → IsLine (text_of_parts ps)
joined_line [] h = tt
joined_line (p ∷ ps) h = line_append (text p) (text_of_parts ps) h.0 (joined_line ps h.1)

record IsLineProperty (p : Property) : Type 0 where
  name : IsLine p.name
  values : AllByRecursion IsLine p.values

value_parts : (vs : List (List ℕ)) → AllByRecursion IsLine vs → AllByRecursion IsLinePart (map value_part vs)
value_parts [] h = tt
value_parts (v ∷ vs) h = (line_append (91 ∷ v) (93 ∷ []) (omega arith, h.0) (omega arith, tt), value_parts vs h.1)

node_line : (ps : List Property) → AllByRecursion IsLineProperty ps →
    AllByRecursion IsLinePart (flat_map property_parts (map plain_property ps))
node_line [] h = tt
node_line (p ∷ ps) h =
    all_append IsLinePart (property_parts (plain_property p)) (flat_map property_parts (map plain_property ps))
    (line_filter is_upper_byte p.name h.0.name, value_parts p.values h.0.values) (node_line ps h.1)

nodes_line : (nodes : List (List Property)) → AllByRecursion (AllByRecursion IsLineProperty) nodes →
    AllByRecursion IsLinePart (flat_map node_parts (map (map plain_property) nodes))
nodes_line [] h = tt
nodes_line (ps ∷ nodes) h =
    all_append IsLinePart (node_parts (map plain_property ps)) (flat_map node_parts (map (map plain_property) nodes))
    ((omega arith, tt), node_line ps h.0) (nodes_line nodes h.1)

-- ---- the nodes of a standing

alone_line : (name held : List ℕ) → list_all (nat_le 32) name ≡ true → IsLine held → IsLineProperty (alone name held)
alone_line name held h k = record { name = line_by_test name h; values = (k, tt) }

colour_test : (c : Colour) → list_all (nat_le 32) (colour_letter c) ≡ true
colour_test Black = refl
colour_test White = refl

point_line : (n : ℕ) (p : Point) → IsLine (point_value n p)
point_line n p = (omega arith, (omega arith, tt))

vertex_line : (n : ℕ) (v : Vertex) → IsLine (vertex_value n v)
vertex_line n Pass = tt
vertex_line n (At p) = point_line n p

points_lines : (n : ℕ) (ks : List ℕ) → AllByRecursion IsLine (map (λ j. point_value n (point_at n j)) ks)
points_lines n [] = tt
points_lines n (k ∷ ks) = (point_line n (point_at n k), points_lines n ks)

stones_lines : (name : List ℕ) (n : ℕ) (ks : List ℕ) → list_all (nat_le 32) name ≡ true →
    AllByRecursion IsLineProperty (stones_property name n ks)
stones_lines name n [] h = tt
stones_lines name n (k ∷ ks) h = (record { name = line_by_test name h; values = points_lines n (k ∷ ks) }, tt)

start_lines : (s : Standing) → AllByRecursion IsLineProperty (start_node s)
start_lines s =
    let stones : Colour → List ℕ = points_coloured s.lines s.start in (
      alone_line (codes "GM") (codes "1") refl (line_by_test (codes "1") refl),
      (
        alone_line (codes "FF") (codes "4") refl (line_by_test (codes "4") refl),
        (
          alone_line (codes "SZ") (decimal s.lines) refl ((full_decimal s.lines).line),
          (
            alone_line (codes "KM") _ refl (hundredths_line s.komi),
            (
              alone_line (codes "PL") (colour_letter s.first) refl
                  (line_by_test (colour_letter s.first) (colour_test s.first)),
              all_append IsLineProperty (stones_property (codes "AB") s.lines (stones Black))
                  (stones_property (codes "AW") s.lines (stones White))
                  (stones_lines (codes "AB") s.lines (stones Black) refl)
                  (stones_lines (codes "AW") s.lines (stones White) refl),
            ),
          ),
        ),
      ),
    )

moves_lines : (n : ℕ) (ms : List Move) → AllByRecursion (AllByRecursion IsLineProperty) (map (move_node n) ms)
moves_lines n [] = tt
moves_lines n (m ∷ ms) = (
  (
    alone_line (colour_letter m.colour) (vertex_value n m.vertex) (colour_test m.colour)
        (vertex_line n m.vertex),
    tt,
  ),
  moves_lines n ms,
)

pub record_line : (s : Standing) → IsLine (record_body s)
record_line s =
    let nodes : List Part = flat_map node_parts (map (map plain_property) (nodes_of s)) in
    joined_line (opening ∷ (nodes ++ (closing ∷ []))) (
      (omega arith, tt),
      all_append IsLinePart nodes (closing ∷ [])
          (nodes_line (nodes_of s) (start_lines s, moves_lines s.lines s.moves)) ((omega arith, tt), tt),
    )
