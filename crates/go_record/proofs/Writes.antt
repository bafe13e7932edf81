-- How the pieces that are written make up the text of a record.
use Rattle.std.proofs.Common.{◌≡◌, ◌∙◌, ℕ, zero, suc, Bool, true, false, if◌then◌else◌, take, ◌+◌, List, [], ◌∷◌, ◌++◌, refl, sym, ap, add-one, append_assoc, map}
use Rattle.go_board.specs.lemmas.Numbers.{numbers_more}
use Rattle.std.specs.Prelude.{Some, codes, decimal, filter, option_to_list, slice_get}
use Rattle.std.specs.List.{flat_map, range_with_len}
use Rattle.std.proofs.lemmas.List.{append-nil, map-append}
use Rattle.std.proofs.lemmas.List.Elements.{filter-append}
use Rattle.std.proofs.lemmas.Grind.{flat_map-append}
use Rattle.go_board.specs.declared.colour.Colour.{Colour}
use Rattle.go_board.specs.declared.colour.Colour.TheVariants.{Black, White}
use Rattle.go_board.specs.declared.vertex.Move.{Move}
use Rattle.go_board.specs.declared.vertex.Vertex.{Vertex}
use Rattle.go_board.specs.Colours.{Colouring}
use Rattle.go_board.specs.Points.{point_at}
use Rattle.go_board.specs.Reaching.{has_colour}
use Rattle.go_game.specs.Scores.{hundredths_word}
use Rattle.go_game.specs.Standings.{Standing}
use Rattle.go_sgf.specs.Record.{Property, is_upper_byte, plain_property}
use Rattle.go_sgf.specs.Spelling.{Part, closing, value_part, text_of_parts, node_parts, property_parts, text}
use Rattle.go_record.specs.Records.{colour_letter, move_node, point_value, points_coloured, record_body, stones_property, vertex_value}
use Rattle.go_record.specs.inner.Texts.{coloured_within, move_text, named_stones, opening_text, point_text, stones_text, first_turn_text}

-- what is before the next stone: the name, if no stone is before it
abbrev pub in_front : List ℕ → List ℕ → List ℕ
in_front name [] = name
in_front name (k ∷ ks) = []

-- one more point, where it has the colour
pub chosen_more : (test : ℕ → Bool) (k : ℕ) → filter test (range_with_len 0 (k + 1)) ≡ filter test (range_with_len 0 k)
    ++ (if test k then k ∷ [] else [])
chosen_more test k = ap (filter test) (numbers_more k) ∙ filter-append test (range_with_len 0 k) (k ∷ [])

named_push : (name : List ℕ) (n : ℕ) (ks : List ℕ) (k : ℕ) → named_stones name n ks
    ++ (in_front name ks ++ point_text n k) ≡ named_stones name n (ks ++ k ∷ [])
named_push name n [] k = ap (λ xs. name ++ xs) (sym (append-nil (point_text n k)))
named_push name n (j ∷ ks) k =
    append_assoc name (flat_map (point_text n) (j ∷ ks)) (point_text n k)
    ∙ ap (λ xs. name ++ xs) (ap (λ xs. flat_map (point_text n) (j ∷ ks) ++ xs) (sym (append-nil (point_text n k)))
    ∙ sym (flat_map-append (point_text n) (j ∷ ks) (k ∷ [])))

prefix_push : (name : List ℕ) (ks : List ℕ) (k : ℕ) → [] ≡ in_front name (ks ++ k ∷ [])
prefix_push name [] k = refl
prefix_push name (j ∷ ks) k = refl

by_test : (name : List ℕ) (n : ℕ) (ks : List ℕ) (k : ℕ) (b : Bool) →
    named_stones name n ks ++ (if b then in_front name ks ++ point_text n k else []) ≡ named_stones name n
    (ks ++ (if b then k ∷ [] else []))
by_test name n ks k true = named_push name n ks k
by_test name n ks k false = append-nil (named_stones name n ks) ∙ ap (named_stones name n) (sym (append-nil ks))

prefix_by_test : (name : List ℕ) (ks : List ℕ) (k : ℕ) (b : Bool) →
    (if b then [] else in_front name ks) ≡ in_front name (ks ++ (if b then k ∷ [] else []))
prefix_by_test name ks k true = prefix_push name ks k
prefix_by_test name ks k false = ap (in_front name) (sym (append-nil ks))

-- one more point of the board, with what is written of it
pub stones_more : (name : List ℕ) (n : ℕ) (g : Colouring) (c : Colour) (k : ℕ) →
    named_stones name n (coloured_within g c k)
    ++ (if has_colour g k (Some c) then in_front name (coloured_within g c k) ++ point_text n k else [])
    ≡ named_stones name n (coloured_within g c (k + 1))
stones_more name n g c k =
    by_test name n (coloured_within g c k) k (has_colour g k (Some c))
    ∙ ap (named_stones name n) (sym (chosen_more (λ j. has_colour g j (Some c)) k))

pub prefix_more : (name : List ℕ) (g : Colouring) (c : Colour) (k : ℕ) →
    (if has_colour g k (Some c) then [] else in_front name (coloured_within g c k)) ≡ in_front name
    (coloured_within g c (k + 1))
prefix_more name g c k =
    prefix_by_test name (coloured_within g c k) k (has_colour g k (Some c))
    ∙ ap (in_front name) (sym (chosen_more (λ j. has_colour g j (Some c)) k))

got_more : {X : Type 0} (xs : List X) (i : ℕ) → take i xs ++ option_to_list (slice_get xs i) ≡ take (suc i) xs
got_more [] zero = refl
got_more [] (suc i) = refl
got_more (x ∷ xs) zero = refl
got_more (x ∷ xs) (suc i) = ap (λ ys. x ∷ ys) (got_more xs i)

-- a text of each of the first elements of a list
pub taken_more : {X : Type 0} (f : X → List ℕ) (xs : List X) (i : ℕ) → flat_map f (take i xs)
    ++ flat_map f (option_to_list (slice_get xs i)) ≡ flat_map f (take (i + 1) xs)
taken_more f xs i = rw add-one (sym (flat_map-append f (take i xs) (option_to_list (slice_get xs i)))
    ∙ ap (flat_map f) (got_more xs i))

-- ---- the text of a tree's parts

joined-append : (ps qs : List Part) → text_of_parts (ps ++ qs) ≡ text_of_parts ps ++ text_of_parts qs
joined-append ps qs = flat_map-append text ps qs

-- what comes of the properties of a node, and of nodes
abbrev pub properties_text : List Property → List ℕ
properties_text ps = text_of_parts (flat_map property_parts (map plain_property ps))

abbrev pub nodes_text : List (List Property) → List ℕ
nodes_text ns = text_of_parts (flat_map node_parts (map (map plain_property) ns))

properties_append : (ps qs : List Property) → properties_text (ps ++ qs) ≡ properties_text ps ++ properties_text qs
properties_append ps qs =
    ap (λ xs. text_of_parts (flat_map property_parts xs)) (map-append plain_property ps qs)
    ∙ ap text_of_parts (flat_map-append property_parts (map plain_property ps) (map plain_property qs))
    ∙ joined-append (flat_map property_parts (map plain_property ps)) (flat_map property_parts (map plain_property qs))

points_text : (n : ℕ) (ks : List ℕ) →
    text_of_parts (map value_part (map (λ k. point_value n (point_at n k)) ks)) ≡ flat_map (point_text n) ks
points_text n [] = refl
points_text n (k ∷ ks) = ap (λ xs. point_text n k ++ xs) (points_text n ks)

-- names of upper-case letters alone stay
stones_text-is : (name : List ℕ) → filter is_upper_byte name ≡ name → (n : ℕ) (ks : List ℕ) →
    properties_text (stones_property name n ks) ≡ named_stones name n ks
stones_text-is name e n [] = refl
stones_text-is name e n (k ∷ ks) =
    let values : List Part = map value_part (map (λ j. point_value n (point_at n j)) (k ∷ ks)) in
    ap (λ xs. xs ++ text_of_parts (values ++ [])) e
    ∙ ap (λ xs. name ++ xs) (ap text_of_parts (append-nil values) ∙ points_text n (k ∷ ks))

move_text-is : (n : ℕ) (c : Colour) (v : Vertex) →
    text_of_parts (node_parts (map plain_property (move_node n (record { colour = c; vertex = v })))) ≡ move_text n
    (record { colour = c; vertex = v })
move_text-is n Black v = ap (λ xs. 59 ∷ 66 ∷ xs) (append-nil (91 ∷ (vertex_value n v ++ 93 ∷ [])))
move_text-is n White v = ap (λ xs. 59 ∷ 87 ∷ xs) (append-nil (91 ∷ (vertex_value n v ++ 93 ∷ [])))

moves_text-is : (n : ℕ) (ms : List Move) → nodes_text (map (move_node n) ms) ≡ flat_map (move_text n) ms
moves_text-is n [] = refl
moves_text-is n (m ∷ ms) =
    joined-append (node_parts (map plain_property (move_node n m)))
    (flat_map node_parts (map (map plain_property) (map (move_node n) ms)))
    ∙ ap (λ xs. xs ++ nodes_text (map (move_node n) ms)) (move_text-is n m.colour m.vertex)
    ∙ ap (λ xs. move_text n m ++ xs) (moves_text-is n ms)

-- what follows the colour to move first
abbrev pub tail_text : Standing → List ℕ
tail_text s =
    stones_text s (codes "AB") Black
    ++ (stones_text s (codes "AW") White ++ (flat_map (move_text s.lines) s.moves ++ codes ")"))

tail_text-is : (s : Standing) →
    text_of_parts ((flat_map property_parts
    (map plain_property (stones_property (codes "AB") s.lines (points_coloured s.lines s.start Black)
    ++ stones_property (codes "AW") s.lines (points_coloured s.lines s.start White)))
    ++ flat_map node_parts (map (map plain_property) (map (move_node s.lines) s.moves))) ++ (closing ∷ []))
    ≡ tail_text s
tail_text-is s =
    let blacks : List Property = stones_property (codes "AB") s.lines (points_coloured s.lines s.start Black) in
    let whites : List Property = stones_property (codes "AW") s.lines (points_coloured s.lines s.start White) in
    let stones : List Part = flat_map property_parts (map plain_property (blacks ++ whites)) in
    let moves : List Part = flat_map node_parts (map (map plain_property) (map (move_node s.lines) s.moves)) in
    let black_text : List ℕ = stones_text s (codes "AB") Black in
    let white_text : List ℕ = stones_text s (codes "AW") White in
    let end : List ℕ = flat_map (move_text s.lines) s.moves ++ codes ")" in
    let prefix : text_of_parts stones ≡ black_text ++ white_text =
    properties_append blacks whites
    ∙ ap (λ xs. xs ++ properties_text whites)
    (stones_text-is (codes "AB") refl s.lines (points_coloured s.lines s.start Black))
    ∙ ap (λ xs. black_text ++ xs) (stones_text-is (codes "AW") refl s.lines (points_coloured s.lines s.start White)) in
    let back : text_of_parts (moves ++ (closing ∷ [])) ≡ end =
    joined-append moves (closing ∷ []) ∙ ap (λ xs. xs ++ codes ")") (moves_text-is s.lines s.moves) in
    ap text_of_parts (append_assoc stones moves (closing ∷ [])) ∙ joined-append stones (moves ++ (closing ∷ []))
    ∙ ap (λ xs. xs ++ text_of_parts (moves ++ (closing ∷ []))) prefix ∙ ap (λ xs. (black_text ++ white_text) ++ xs) back
    ∙ append_assoc black_text white_text end

prefix_text-is : (lines komi first tail : List ℕ) →
    (codes "(;GM[1]FF[4]SZ[" ++ (lines ++ (codes "]KM[" ++ komi))) ++ ((codes "]PL[" ++ (first ++ codes "]")) ++ tail)
    ≡ codes "(;GM[1]FF[4]SZ" ++ ((91 ∷ (lines ++ 93 ∷ []))
    ++ (codes "KM" ++ ((91 ∷ (komi ++ 93 ∷ [])) ++ (codes "PL" ++ ((91 ∷ (first ++ 93 ∷ [])) ++ tail)))))
prefix_text-is lines komi first tail = simp append_assoc refl

pub record_text-is : (s : Standing) → opening_text s ++ (first_turn_text s ++ tail_text s) ≡ record_body s
record_text-is s =
    prefix_text-is (decimal s.lines) (hundredths_word s.komi) (colour_letter s.first) (tail_text s)
    ∙ ap (λ tail. codes "(;GM[1]FF[4]SZ"
    ++ ((91 ∷ (decimal s.lines ++ 93 ∷ [])) ++ (codes "KM" ++ ((91 ∷ (hundredths_word s.komi ++ 93 ∷ []))
    ++ (codes "PL" ++ ((91 ∷ (colour_letter s.first ++ 93 ∷ [])) ++ tail)))))) (sym (tail_text-is s))
