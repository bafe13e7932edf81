-- The word of a vertex spells that vertex.
use Rattle.std.proofs.Common.{lit<, true≢false, arith, ◌≡◌, ◌≤◌, ◌<◌, ◌+◌, ◌∙◌, ◌&&◌, ◌==◌, ◌↔◌, Bool, true, false, inl, inr, ℕ, zero, suc, List, ◌∷◌, Option, Some, None, Ok, Err, codes, refl, sym, ap, length, map}
use Rattle.std.proofs.lemmas.List.{get_or_past}
use Rattle.std.specs.Fmt.{decimal, digits}
use Rattle.std.specs.Prelude.{if◌then◌else◌, IfOk, nat_lt}
use Rattle.std.specs.Str.{str_eq_ignore_ascii_case}
use Rattle.std.specs.Char.{to_ascii_lowercase}
use Rattle.std.proofs.lemmas.Slice.Eq.{bytes_eq-Decides}
use Rattle.std.proofs.lemmas.Fmt.{length-decimal-le}
use Rattle.std.proofs.lemmas.Bool.{cases_lt, cases_Bool, eqb-true, ltb-true, lt-ltb, false_from_ne_true, and_parts}
use Rattle.std.proofs.Math.ListN.{length-map}
use Rattle.go_board.specs.declared.point.Point.{Point}
use Rattle.go_board.specs.declared.vertex.Vertex.{Vertex}
use Rattle.go_board.specs.declared.vertex.Vertex.TheVariants.{Pass, At}
use Rattle.go_board.specs.declared.vertex.VertexError.TheVariants.{Malformed, OffBoard}
use Rattle.go_board.specs.Points.{IsOn}
use Rattle.go_board.specs.Vertices.{IsOnBoard, SpellsOffBoard, column_letters, column_of, letter_of_column, point_of, row_of, vertex_of, vertex_on, vertex_word}

-- past the last column there is no letter
pub letter_past : (col : ℕ) → 25 ≤ col → letter_of_column col ≡ 63
letter_past col past = get_or_past column_letters col 63 past

-- a test holds of each number below n
abbrev each_below : (ℕ → Bool) → ℕ → Bool
each_below p zero = true
each_below p (suc n) = p n && each_below p n

at_each : (p : ℕ → Bool) (n k : ℕ) → each_below p n ≡ true → k < n → p k ≡ true
at_each p zero k all below = absurd (omega arith)
at_each p (suc n) k all below = elim (cases_lt k n) [
  | inl less ↦ at_each p n k (and_parts (p n) (each_below p n) all).1 less
  | inr not_less ↦ let last : n ≡ k = omega arith in ap p (sym last) ∙ (and_parts (p n) (each_below p n) all).0
]

is_just : Option ℕ → ℕ → Bool
is_just None k = false
is_just (Some m) k = m == k

just : (o : Option ℕ) (k : ℕ) → is_just o k ≡ true → o ≡ Some k
unfolding is_just
just None k e = absurd (true≢false (sym e))
just (Some m) k e = ap (λ (n : ℕ). Some n) (eqb-true m k e)

letter_holds : ℕ → Bool
letter_holds col = is_just (column_of (letter_of_column col)) col

letters_table : each_below letter_holds 25 ≡ true
unfolding letter_holds is_just
letters_table = refl

-- the letter of a column names it
letter_back : (col : ℕ) → col < 25 → column_of (letter_of_column col) ≡ Some col
unfolding letter_holds
letter_back col low = just (column_of (letter_of_column col)) col (at_each letter_holds 25 col letters_table low)

row_holds : ℕ → Bool
row_holds row = is_just (row_of (decimal (row + 1))) row

rows_table : each_below row_holds 25 ≡ true
unfolding row_holds is_just digits
rows_table = refl

-- the number of a row names it
row_back : (row : ℕ) → row < 25 → row_of (decimal (row + 1)) ≡ Some row
unfolding row_holds
row_back row low = just (row_of (decimal (row + 1))) row (at_each row_holds 25 row rows_table low)

-- a word that is shorter than `pass` isn't it
no_pass : (word : List ℕ) → length word ≤ 3 → str_eq_ignore_ascii_case word (codes "pass") ≡ false
no_pass word short = elim (cases_Bool (str_eq_ignore_ascii_case word (codes "pass"))) [
  | inl holds ↦ absurd (let same =
      ap length ((bytes_eq-Decides (map to_ascii_lowercase word) (map to_ascii_lowercase (codes "pass"))).0 holds) in
      omega (arith, simp length-map at same))
  | inr other ↦ other
]

-- what a vertex's word spells is the vertex
pub word_back : (v : Vertex) → IsOnBoard 25 v → vertex_of (vertex_word v) ≡ Some v
word_back Pass h = refl
word_back (At p) h =
    let short : length (letter_of_column p.col ∷ decimal (p.row + 1)) ≤ 3 = let two : length (decimal (p.row + 1)) ≤ 2 =
    length-decimal-le 2 (p.row + 1) (omega arith) (omega (arith, h.1)) (omega (arith, h.1)) in omega arith in
    rw (no_pass (letter_of_column p.col ∷ decimal (p.row + 1)) short)
    (rw (letter_back p.col h.0) (rw (row_back p.row h.1) refl))

abbrev on_test : ℕ → Point → Bool
on_test n p = nat_lt p.col n && nat_lt p.row n

on_test_holds : (n : ℕ) (p : Point) → IsOn n p → on_test n p ≡ true
on_test_holds n p on = rw (lt-ltb p.col n on.0) (lt-ltb p.row n on.1)

on_test_means : (n : ℕ) (p : Point) → on_test n p ≡ true → IsOn n p
on_test_means n p e =
    let tests = and_parts (nat_lt p.col n) (nat_lt p.row n) e in
    (ltb-true p.col n tests.0, ltb-true p.row n tests.1)

never_malformed : (b : Bool) (v : Vertex) → (if b then Ok v else Err OffBoard) ≡ Err Malformed → ⊥
never_malformed true v e = cc
never_malformed false v e = cc

off_where : (b : Bool) (v : Vertex) → (if b then Ok v else Err OffBoard) ≡ Err OffBoard → b ≡ false
off_where true v e = cc
off_where false v e = refl

-- a word is malformed exactly where it spells nothing
pub read_malformed : (n : ℕ) (o : Option Vertex) → (vertex_on n o ≡ Err Malformed) ↔ (o ≡ None)
read_malformed n None = (λ e. refl, λ e. refl)
read_malformed n (Some Pass) = (λ e. cc, λ e. cc)
read_malformed n (Some (At p)) = (λ e. absurd (never_malformed (on_test n p) (At p) e), λ e. cc)

-- a vertex is off the board exactly where it is spelled and past the edge
pub read_off_board : (n : ℕ) (o : Option Vertex) → (vertex_on n o ≡ Err OffBoard) ↔ SpellsOffBoard n o
read_off_board n None = (λ e. cc, λ h. absurd h)
read_off_board n (Some Pass) = (λ e. cc, λ h. absurd h)
read_off_board n (Some (At p)) = (
  λ e on. true≢false (sym (on_test_holds n p on) ∙ off_where (on_test n p) (At p) e),
  λ off. rw (false_from_ne_true (on_test n p) (λ yes. off (on_test_means n p yes))) refl,
)

-- what is read is spelled and on the board
pub read_ok : (n : ℕ) (o : Option Vertex) → IfOk (vertex_on n o) (λ v. (o ≡ Some v) × IsOnBoard n v)
read_ok n None = tt
read_ok n (Some Pass) = (refl, tt)
read_ok n (Some (At p)) = elim (cases_Bool (on_test n p)) [
  | inl holds ↦ rw holds (refl, on_test_means n p holds)
  | inr other ↦ rw other tt
]

letter_is_ascii : ℕ → Bool
letter_is_ascii col = nat_lt (letter_of_column col) 128

ascii_table : each_below letter_is_ascii 25 ≡ true
unfolding letter_is_ascii
ascii_table = refl

-- each letter is ASCII, and so is the question mark
pub letter_ascii : (col : ℕ) → letter_of_column col < 128
unfolding letter_is_ascii
letter_ascii col = elim (cases_lt col 25) [
  | inl low ↦ ltb-true (letter_of_column col) 128 (at_each letter_is_ascii 25 col ascii_table low)
  | inr past ↦ rw (letter_past col past) (lit< tt)
]

-- a word that differs from `pass` in any case spells a point or nothing
pub other_word : (word : List ℕ) → (map to_ascii_lowercase word ≡ map to_ascii_lowercase (codes "pass") → ⊥) →
    vertex_of word ≡ point_of word
other_word word differs =
    rw (false_from_ne_true (str_eq_ignore_ascii_case word (codes "pass"))
    (λ same. differs ((bytes_eq-Decides (map to_ascii_lowercase word) (map to_ascii_lowercase (codes "pass"))).0
    same))) refl
