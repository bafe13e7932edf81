-- The record of a standing can be spelled, and its names are plain.
use Rattle.std.proofs.Common.{◌≡◌, ◌≢◌, ◌∙◌, ◌+◌, ◌-◌, ◌++◌, ℕ, List, [], ◌∷◌, refl, sym, ap, ap₂, subst, arith, map}
use Rattle.std.specs.Prelude.{None, Ok, codes, decimal, filter}
use Rattle.std.specs.List.{AllByRecursion}
use Rattle.go_board.specs.declared.colour.Colour.{Colour}
use Rattle.go_board.specs.declared.colour.Colour.TheVariants.{Black, White}
use Rattle.go_board.specs.declared.point.Point.{Point}
use Rattle.go_board.specs.declared.vertex.Move.{Move}
use Rattle.go_board.specs.declared.vertex.Vertex.{Vertex}
use Rattle.go_board.specs.declared.vertex.Vertex.TheVariants.{Pass, At}
use Rattle.go_board.specs.Points.{point_at}
use Rattle.go_game.specs.Scores.{hundredths_word}
use Rattle.go_game.specs.Standings.{IsSound, Standing}
use Rattle.go_sgf.specs.Laws.{CanonicalSpellsPlain, OneRecord, SpelledIsRead}
use Rattle.go_sgf.specs.Record.{Property, Trees, none, tree, IsFit, IsName, IsProperty, IsValue, is_upper_byte, plain, plain_property}
use Rattle.go_sgf.specs.Spelling.{Spells}
use Rattle.go_record.specs.Games.{IsGameOf}
use Rattle.go_record.specs.Laws.{Records}
use Rattle.go_record.specs.Records.{alone, colour_letter, move_node, point_value, points_coloured, property, record_of, start_node, stones_property, game_tree, vertex_value}
use Rattle.go_record.specs.Walks.{Outcome}
use Rattle.std.proofs.lemmas.List.{map-append}
use Rattle.go_record.proofs.Decided.{exactly_one}
use Rattle.go_record.proofs.Recorded.{replays}
use Rattle.go_record.proofs.Spelled.{IsDigit, IsLow, all_weaker, decimal_is, komi_low, low_inside}

-- a byte that has no part in a bracket
abbrev IsFree : ℕ → Type 0
IsFree c = (c ≢ 93) × (c ≢ 92)

low_free : (c : ℕ) → IsLow c → IsFree c
low_free c h = (λ e. omega (arith, e, h.1), λ e. omega (arith, e, h.1))

point_inside : (n : ℕ) (p : Point) → IsValue (point_value n p)
point_inside n p =
    let free : (k : ℕ) → IsFree (97 + k) = λ k. (λ e. omega (arith, e), λ e. omega (arith, e)) in
    low_inside (point_value n p) (free p.col, (free (n - 1 - p.row), tt))

alone_fit : (name value : List ℕ) → IsName name → IsValue value → IsProperty (alone name value)
alone_fit name value n v = record { named = n; some = λ e. cc e; inside = (v, tt) }

letter_named : (c : Colour) → IsName (colour_letter c)
letter_named Black = (refl, refl)
letter_named White = (refl, refl)

letter_inside : (c : Colour) → IsValue (colour_letter c)
letter_inside Black = refl
letter_inside White = refl

vertex_inside : (n : ℕ) (v : Vertex) → IsValue (vertex_value n v)
vertex_inside n Pass = refl
vertex_inside n (At p) = point_inside n p

values_inside : (n : ℕ) (ks : List ℕ) → AllByRecursion IsValue (map (λ j. point_value n (point_at n j)) ks)
values_inside n [] = tt
values_inside n (k ∷ ks) = (point_inside n (point_at n k), values_inside n ks)

stones_fit : (name : List ℕ) (n : ℕ) (ks : List ℕ) → IsName name → AllByRecursion IsProperty (stones_property name n ks)
stones_fit name n [] h = tt
stones_fit name n (k ∷ ks) h = (record { named = h; some = λ e. cc e; inside = values_inside n (k ∷ ks) }, tt)

both_fit : (xs ys : List Property) → AllByRecursion IsProperty xs → AllByRecursion IsProperty ys →
    AllByRecursion IsProperty (xs ++ ys)
both_fit [] ys h k = k
both_fit (x ∷ xs) ys h k = (h.0, both_fit xs ys h.1 k)

moves_fit : (n : ℕ) (moves : List Move) → AllByRecursion (AllByRecursion IsProperty) (map (move_node n) moves)
moves_fit n [] = tt
moves_fit n (m ∷ moves) = (
  (
    alone_fit (colour_letter m.colour) (vertex_value n m.vertex) (letter_named m.colour)
        (vertex_inside n m.vertex),
    tt,
  ),
  moves_fit n moves,
)

pub tree_fit : (s : Standing) → IsSound s → IsFit (game_tree s)
tree_fit s sound =
    let lines : IsValue (decimal s.lines) =
    low_inside (decimal s.lines) (all_weaker {P = IsDigit} {Q = IsFree} (λ c h. low_free c (omega (arith, h.0), h.1))
    (decimal s.lines) (decimal_is s.lines (omega (arith, sound.size.1))).digits) in
    let komi : IsValue (hundredths_word s.komi) =
    low_inside (hundredths_word s.komi)
    (all_weaker {P = IsLow} {Q = IsFree} low_free (hundredths_word s.komi) (komi_low s.komi sound.komi)) in
    let stones = both_fit (stones_property (codes "AB") s.lines (points_coloured s.lines s.start Black))
    (stones_property (codes "AW") s.lines (points_coloured s.lines s.start White))
    (stones_fit (codes "AB") s.lines (points_coloured s.lines s.start Black) (refl, refl))
    (stones_fit (codes "AW") s.lines (points_coloured s.lines s.start White) (refl, refl)) in
    let start : AllByRecursion IsProperty (start_node s) = (
      alone_fit (codes "GM") (codes "1") (refl, refl) refl,
      (
        alone_fit (codes "FF") (codes "4") (refl, refl) refl,
        (
          alone_fit (codes "SZ") (decimal s.lines) (refl, refl) lines,
          (
            alone_fit (codes "KM") (hundredths_word s.komi) (refl, refl) komi,
            (alone_fit (codes "PL") (colour_letter s.first) (refl, refl) (letter_inside s.first), stones),
          ),
        ),
      ),
    ) in
    record {
      some = λ e. cc e;
      trees = (λ e. cc e, (start, moves_fit s.lines s.moves), tt, tt);
      nesting = omega arith;
    }

-- ---- plain names

stones_plain : (name : List ℕ) (n : ℕ) → filter is_upper_byte name ≡ name → (ks : List ℕ) →
    map plain_property (stones_property name n ks) ≡ stones_property name n ks
stones_plain name n e [] = refl
stones_plain name n e (k ∷ ks) =
    ap (λ (x : List ℕ). property x (map (λ j. point_value n (point_at n j)) (k ∷ ks)) ∷ []) e

both_plain : (xs ys : List Property) → map plain_property xs ≡ xs → map plain_property ys ≡ ys →
    map plain_property (xs ++ ys) ≡ xs ++ ys
both_plain xs ys e f = map-append plain_property xs ys ∙ ap₂ (λ a b. a ++ b) e f

move_plain : (n : ℕ) (c : Colour) (v : Vertex) →
    map plain_property (move_node n (record { colour = c; vertex = v })) ≡ move_node n
    (record { colour = c; vertex = v })
move_plain n Black v = refl
move_plain n White v = refl

moves_plain : (n : ℕ) (moves : List Move) → map (map plain_property) (map (move_node n) moves) ≡ map (move_node n) moves
moves_plain n [] = refl
moves_plain n (m ∷ moves) = ap₂ (λ x xs. x ∷ xs) (move_plain n m.colour m.vertex) (moves_plain n moves)

tree_plain : (s : Standing) → plain (game_tree s) ≡ game_tree s
tree_plain s =
    let ab = stones_property (codes "AB") s.lines (points_coloured s.lines s.start Black) in
    let aw = stones_property (codes "AW") s.lines (points_coloured s.lines s.start White) in
    let stones : map plain_property (ab ++ aw) ≡ ab ++ aw =
    both_plain ab aw (stones_plain (codes "AB") s.lines refl (points_coloured s.lines s.start Black))
    (stones_plain (codes "AW") s.lines refl (points_coloured s.lines s.start White)) in
    ap₂ (λ (x : List Property) (xs : List (List Property)).
    tree ((alone (codes "GM") (codes "1") ∷ alone (codes "FF") (codes "4") ∷ alone (codes "SZ") (decimal s.lines) ∷
    alone (codes "KM") (hundredths_word s.komi) ∷ alone (codes "PL") (colour_letter s.first) ∷ x) ∷ xs) none none)
    stones (moves_plain s.lines s.moves)

-- a record whose game is known comes to nothing else
only_game : (c : Trees) (s : Standing) (outcome : Outcome) → IsGameOf c None (Ok s) → IsGameOf c None outcome →
    outcome ≡ Ok s
only_game c s outcome game other =
    let one = exactly_one c None in
    one.2 outcome other ∙ sym (one.2 (Ok s) game)

pub records : CanonicalSpellsPlain → OneRecord → SpelledIsRead → (s : Standing) → IsSound s → Records s
records spells one read s sound =
    let fit = tree_fit s sound in
    let spelled : Spells (record_of s) (game_tree s) =
    subst (λ (c : Trees). Spells (record_of s) c) (tree_plain s) (spells (game_tree s) fit).0 in
    record {
      fit = fit;
      spelled = spelled;
      alone = λ c h. one (record_of s) c (game_tree s) h spelled;
      read = λ why refusal short. read (record_of s) (game_tree s) why spelled refusal short;
      game = replays s sound;
      back = λ positional c outcome spelled' comes.
          only_game (game_tree s) s outcome (replays s sound positional)
          (subst (λ (d : Trees). IsGameOf d None outcome) (one (record_of s) c (game_tree s) spelled' spelled) comes);
    }
