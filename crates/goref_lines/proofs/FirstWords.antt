-- The first word of a text, and what follows it.
use Rattle.std.proofs.Common.{◌≡◌, ◌∙◌, ℕ, suc, ◌+◌, Bool, true, false, not, cond, nat_eq, List, [], ◌∷◌, length, take, drop, refl, sym, ap, arith}
use Rattle.std.specs.Prelude.{filter}
use Rattle.std.specs.List.{slice_split, onto_first, prefix_len}
use Rattle.std.proofs.lemmas.Bool.Decides.{nat_tests}
use Rattle.std.proofs.lemmas.List.Splits.{slice_split-cons_yes}
use Rattle.goref_lines.specs.Words.{is_plain_space, has_bytes, words}

-- how many bytes stand before the first space
abbrev word_len : List ℕ → ℕ
word_len text = prefix_len (λ b. not (is_plain_space b)) text

abbrev pub first_word : List ℕ → List ℕ
first_word text = take (word_len text) text

abbrev pub rest_after_word : List ℕ → List ℕ
rest_after_word text = drop (word_len text) text

abbrev pub after_spaces : List ℕ → List ℕ
after_spaces text = drop (prefix_len is_plain_space text) text

one_more : (n : ℕ) → 1 + n ≡ suc n
one_more n = omega arith

words_space : (b : ℕ) (text : List ℕ) → is_plain_space b ≡ true → words (b ∷ text) ≡ words text
words_space b text e = ap (filter has_bytes) (slice_split-cons_yes is_plain_space b text e)

after_spaces-cons : (s : Bool) (b : ℕ) (text : List ℕ) (n : ℕ) →
    drop (cond s (1 + n) 0) (b ∷ text) ≡ cond s (drop n text) (b ∷ text)
after_spaces-cons true b text n = ap (λ m. drop m (b ∷ text)) (one_more n)
after_spaces-cons false b text n = refl

words_after_spaces-cons : (s : Bool) (b : ℕ) (text after : List ℕ) → is_plain_space b ≡ s →
    words text ≡ words after → words (b ∷ text) ≡ words (cond s after (b ∷ text))
words_after_spaces-cons true b text after e h = words_space b text e ∙ h
words_after_spaces-cons false b text after e h = refl

words_after_spaces : (text : List ℕ) → words text ≡ words (after_spaces text)
words_after_spaces [] = refl
words_after_spaces (b ∷ text) =
    words_after_spaces-cons (is_plain_space b) b text _ refl (words_after_spaces text)
    ∙ ap words (sym (after_spaces-cons (is_plain_space b) b text (prefix_len is_plain_space text)))

-- the parts of a text are its first word, and others that have the words after it
abbrev HasFirst : List ℕ → ℕ → List (List ℕ) → Type 0
HasFirst text n parts = (rest : List (List ℕ)) × (parts ≡ take n text ∷ rest)
    × (filter has_bytes rest ≡ words (drop n text))

has_first-cons : (s : Bool) (b : ℕ) (text : List ℕ) (n : ℕ) (parts : List (List ℕ)) → is_plain_space b ≡ s →
    parts ≡ slice_split is_plain_space text →
    HasFirst text n parts → HasFirst (b ∷ text) (cond (not s) (1 + n) 0) (cond s ([] ∷ parts) (onto_first b parts))
has_first-cons true b text n parts e are h = (parts, refl, ap (filter has_bytes) are ∙ sym (words_space b text e))
has_first-cons false b text n parts e are h = rw (one_more n) (h.0, ap (onto_first b) h.1, h.2)

has_first : (text : List ℕ) → HasFirst text (word_len text) (slice_split is_plain_space text)
has_first [] = ([], refl, refl)
has_first (b ∷ text) = has_first-cons (is_plain_space b) b text (word_len text) (slice_split is_plain_space text) refl
    refl (has_first text)

-- no word is left only where nothing follows the first spaces
blank_is_empty-cons : (s : Bool) (b : ℕ) (text after : List ℕ) → is_plain_space b ≡ s →
    (first_word after ≡ [] → after ≡ []) →
    first_word (cond s after (b ∷ text)) ≡ [] → cond s after (b ∷ text) ≡ []
blank_is_empty-cons true b text after e h none = h none
blank_is_empty-cons false b text after e h none = let some = rw (e, one_more (word_len text)) at none in cc

blank_is_empty : (text : List ℕ) → first_word (after_spaces text) ≡ [] → after_spaces text ≡ []
blank_is_empty [] none = refl
blank_is_empty (b ∷ text) none =
    let at : after_spaces (b ∷ text) ≡ cond (is_plain_space b) (after_spaces text) (b ∷ text) =
    after_spaces-cons (is_plain_space b) b text (prefix_len is_plain_space text) in
    at ∙ blank_is_empty-cons (is_plain_space b) b text (after_spaces text) refl (blank_is_empty text)
    (ap first_word (sym at) ∙ none)

filter_word : (word : List ℕ) (parts : List (List ℕ)) → nat_eq (length word) 0 ≡ false →
    filter has_bytes (word ∷ parts) ≡ word ∷ filter has_bytes parts
filter_word [] parts e = cc
filter_word (b ∷ word) parts e = refl

-- where the bytes before the next space are some, they are the next word
pub word_comes : (text word rest : List ℕ) → word ≡ first_word (after_spaces text) →
    rest ≡ rest_after_word (after_spaces text) → nat_eq (length word) 0 ≡ false →
    words text ≡ word ∷ words rest
word_comes text word rest is_word is_rest some =
    let parts = has_first (after_spaces text) in
    words_after_spaces text ∙ ap (filter has_bytes) parts.1
    ∙ ap (λ w. filter has_bytes (w ∷ parts.0)) (sym is_word)
    ∙ filter_word word parts.0 some
    ∙ ap (λ ws. word ∷ ws) (parts.2 ∙ ap words (sym is_rest))

is_empty : (word : List ℕ) → nat_eq (length word) 0 ≡ true → word ≡ []
is_empty [] e = refl
is_empty (b ∷ word) e = grind (arith, nat_tests)

-- where they are none, no word is left
pub no_word_comes : (text word rest : List ℕ) → word ≡ first_word (after_spaces text) →
    rest ≡ rest_after_word (after_spaces text) → nat_eq (length word) 0 ≡ true →
    (words text ≡ []) × (words rest ≡ [])
no_word_comes text word rest is_word is_rest none =
    let after = blank_is_empty text (sym is_word ∙ is_empty word none) in
    (words_after_spaces text ∙ ap words after, ap words (is_rest ∙ ap rest_after_word after))
