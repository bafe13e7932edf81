-- How a text over the numbers from 0 grows by the next number.
use Rattle.std.proofs.Common.{◌≡◌, ◌∙◌, ◌<◌, ℕ, Bool, true, false, cond, get_or, if◌then◌else◌, length, take, ◌+◌, List, [], ◌∷◌, ◌++◌, refl, sym, ap, append_assoc, map}
use Rattle.go_board.specs.lemmas.Numbers.{numbers_more}
use Rattle.std.specs.Prelude.{◌==◌, ℤ, pos, negsuc, codes, filter}
use Rattle.std.specs.List.{flat_map, join_with_byte, range_with_len}
use Rattle.std.proofs.lemmas.List.{append-nil, take_more}
use Rattle.std.proofs.lemmas.List.Elements.{filter-append}
use Rattle.std.proofs.lemmas.Grind.{flat_map-append}
use Rattle.go_game.specs.Scores.{score_word, size_text}
use Rattle.go_board.specs.Colours.{Colouring, colour_at}
use Rattle.go_board.specs.Chains.{members, liberties}
use Rattle.go_board.specs.Points.{point_at}
use Rattle.goref_results.specs.inner.Texts.{spaced_point}
use Rattle.goref_results.specs.Results.{result_text}
use Rattle.goref_results.specs.ChainLines.{chain_line, spaced_vertex, stone_text}

-- a text of each number
pub all_more : (f : ℕ → List ℕ) (k : ℕ) → flat_map f (range_with_len 0 k) ++ f k ≡ flat_map f (range_with_len 0 (k + 1))
all_more f k =
    ap (λ xs. flat_map f (range_with_len 0 k) ++ xs) (sym (append-nil (f k)))
    ∙ sym (flat_map-append f (range_with_len 0 k) (k ∷ [])) ∙ ap (flat_map f) (sym (numbers_more k))

-- the numbers that pass a test
abbrev chosen : Bool → ℕ → List ℕ
chosen true k = k ∷ []
chosen false k = []

chosen_one : (test : ℕ → Bool) (k : ℕ) (b : Bool) → test k ≡ b → filter test (k ∷ []) ≡ chosen b k
chosen_one test k true e = ap (λ b. cond b (k ∷ []) []) e
chosen_one test k false e = ap (λ b. cond b (k ∷ []) []) e

chosen_more : (test : ℕ → Bool) (k : ℕ) (b : Bool) → test k ≡ b →
    filter test (range_with_len 0 (k + 1)) ≡ filter test (range_with_len 0 k) ++ chosen b k
chosen_more test k b e =
    ap (filter test) (numbers_more k) ∙ filter-append test (range_with_len 0 k) (k ∷ [])
    ∙ ap (λ xs. filter test (range_with_len 0 k) ++ xs) (chosen_one test k b e)

-- some bytes
abbrev pub IsText : List ℕ → Type 0
IsText text = (first : ℕ) × (rest : List ℕ) × (text ≡ first ∷ rest)

result_text-append : (text more : List ℕ) → IsText text → result_text (text ++ more) ≡ result_text text ++ more
result_text-append [] more h = cc h.2
result_text-append (b ∷ text) more h = refl

pub result_text-some : (text : List ℕ) → IsText text → result_text text ≡ 32 ∷ text
result_text-some [] h = cc h.2
result_text-some (b ∷ text) h = refl

text_append : (text more : List ℕ) → IsText text → IsText (text ++ more)
text_append [] more h = cc h.2
text_append (b ∷ text) more h = (b, text ++ more, refl)

-- what stands before the next line: a space before the first, a line end before any other
abbrev pub before_next : List ℕ → ℕ
before_next [] = 32
before_next (k ∷ ks) = 10

module _ (f : ℕ → List ℕ) where
  abbrev pub joined_lines : List ℕ → List ℕ
  joined_lines ks = join_with_byte 10 (map f ks)

  lines_push : (j : ℕ) (ks : List ℕ) (k : ℕ) → joined_lines (j ∷ (ks ++ k ∷ [])) ≡ joined_lines (j ∷ ks) ++ 10 ∷ f k
  lines_push j [] k = refl
  lines_push j (i ∷ ks) k = ap (λ t. f j ++ 10 ∷ t) (lines_push i ks k)
      ∙ sym (append_assoc (f j) (10 ∷ joined_lines (i ∷ ks)) (10 ∷ f k))

  lines_some : ((k : ℕ) → IsText (f k)) → (j : ℕ) (ks : List ℕ) → IsText (joined_lines (j ∷ ks))
  lines_some h j [] = h j
  lines_some h j (i ∷ ks) = text_append (f j) (10 ∷ joined_lines (i ∷ ks)) (h j)

  result_push : ((k : ℕ) → IsText (f k)) → (ks : List ℕ) (k : ℕ) →
      result_text (joined_lines (ks ++ k ∷ [])) ≡ result_text (joined_lines ks) ++ before_next ks ∷ f k
  result_push h [] k = result_text-some (f k) (h k)
  result_push h (j ∷ ks) k = ap result_text (lines_push j ks k)
      ∙ result_text-append (joined_lines (j ∷ ks)) (10 ∷ f k) (lines_some h j ks)

  result_chosen : ((k : ℕ) → IsText (f k)) → (ks : List ℕ) (k : ℕ) (b : Bool) →
      result_text (joined_lines ks) ++ (if b then before_next ks ∷ f k else []) ≡ result_text
      (joined_lines (ks ++ chosen b k))
  result_chosen h ks k true = sym (result_push h ks k)
  result_chosen h ks k false = append-nil (result_text (joined_lines ks))
      ∙ ap (λ js. result_text (joined_lines js)) (sym (append-nil ks))

  -- a line for each number that passes a test
  pub lines_more : ((k : ℕ) → IsText (f k)) → (test : ℕ → Bool) (k : ℕ) →
      result_text (joined_lines (filter test (range_with_len 0 k)))
      ++ (if test k then before_next (filter test (range_with_len 0 k)) ∷ f k else [])
      ≡ result_text (joined_lines (filter test (range_with_len 0 (k + 1))))
  lines_more h test k =
      result_chosen h (filter test (range_with_len 0 k)) k (test k)
      ∙ ap (λ ks. result_text (joined_lines ks)) (sym (chosen_more test k (test k) refl))

before_chosen : (ks : List ℕ) (k : ℕ) (b : Bool) → (if b then 10 else before_next ks) ≡ before_next (ks ++ chosen b k)
before_chosen [] k true = refl
before_chosen [] k false = refl
before_chosen (j ∷ ks) k true = refl
before_chosen (j ∷ ks) k false = refl

pub before_more : (test : ℕ → Bool) (k : ℕ) →
    (if test k then 10 else before_next (filter test (range_with_len 0 k))) ≡ before_next
    (filter test (range_with_len 0 (k + 1)))
before_more test k = before_chosen (filter test (range_with_len 0 k)) k (test k)
    ∙ ap before_next (sym (chosen_more test k (test k) refl))

if_some : (b : Bool) (first rest : List ℕ) → IsText first → IsText rest → IsText (if b then first else rest)
if_some true first rest h k = h
if_some false first rest h k = k

pub score_some : (margin : ℤ) → IsText (score_word margin)
score_some (pos n) = if_some (n == 0) (codes "0") (codes "B+" ++ size_text n) (48, [], refl)
    (66, codes "+" ++ size_text n, refl)
score_some (negsuc n) = (87, codes "+" ++ size_text (n + 1), refl)

pub if_true : {b : Bool} → b ≡ true → (first rest : List ℕ) → (if b then first else rest) ≡ first
if_true e first rest = ap (λ b. if b then first else rest) e

-- a text of each of the first elements of a list
pub taken_more : {X : Type 0} (f : X → List ℕ) (xs : List X) (i : ℕ) (d : X) → i < length xs → flat_map f (take i xs)
    ++ f (get_or xs i d) ≡ flat_map f (take (i + 1) xs)
taken_more f xs i d low =
    ap (λ ys. flat_map f (take i xs) ++ ys) (sym (append-nil (f (get_or xs i d))))
    ∙ sym (flat_map-append f (take i xs) (get_or xs i d ∷ [])) ∙ ap (flat_map f) (sym (take_more xs i d low))

-- the vertices of points by their numbers
pub spaced_points : (n : ℕ) (ps : List ℕ) → flat_map spaced_point (map (point_at n) ps) ≡ flat_map (spaced_vertex n) ps
spaced_points n [] = refl
spaced_points n (p ∷ ps) = ap (λ t. spaced_vertex n p ++ t) (spaced_points n ps)

text_after : (first : List ℕ) (b : ℕ) (rest : List ℕ) → IsText (first ++ b ∷ rest)
text_after [] b rest = (b, rest, refl)
text_after (c ∷ first) b rest = (c, first ++ b ∷ rest, refl)

text_append_left : (first rest : List ℕ) → IsText rest → IsText (first ++ rest)
text_append_left [] rest h = h
text_append_left (b ∷ first) rest h = (b, first ++ rest, refl)

pub chain_some : (n : ℕ) (g : Colouring) (p : ℕ) → IsText (chain_line n g p)
chain_some n g p =
    text_append_left (stone_text (colour_at g p)) _
    (text_after (flat_map (spaced_vertex n) (members n g p)) 32
    (codes ":" ++ flat_map (spaced_vertex n) (liberties n g p)))

joined_some : {X : Type 0} (f : X → List ℕ) → ((x : X) → IsText (f x)) → (x : X) (xs : List X) →
    IsText (join_with_byte 32 (map f (x ∷ xs)))
joined_some f h x [] = h x
joined_some f h x (y ∷ xs) = text_append (f x) (32 ∷ join_with_byte 32 (map f (y ∷ xs))) (h x)

-- texts joined by spaces, after one
pub result_spaced : {X : Type 0} (f : X → List ℕ) → ((x : X) → IsText (f x)) → (xs : List X) →
    flat_map (λ x. 32 ∷ f x) xs ≡ result_text (join_with_byte 32 (map f xs))
result_spaced f h [] = refl
result_spaced f h (x ∷ []) = append-nil (32 ∷ f x) ∙ sym (result_text-some (f x) (h x))
result_spaced f h (x ∷ y ∷ xs) =
    ap (λ t. (32 ∷ f x) ++ t) (result_spaced f h (y ∷ xs)
    ∙ result_text-some (join_with_byte 32 (map f (y ∷ xs))) (joined_some f h y xs))
    ∙ sym (result_text-some (f x ++ 32 ∷ join_with_byte 32 (map f (y ∷ xs)))
    (text_append (f x) (32 ∷ join_with_byte 32 (map f (y ∷ xs))) (h x)))
