-- How the lines of a text change as more bytes come to its end.
use Rattle.std.proofs.Common.{◌≡◌, ◌∙◌, ℕ, Bool, true, false, List, [], ◌∷◌, ◌++◌, refl, sym, ap, append_assoc, Some, None, zero, suc, ◌<◌, length, take, drop, arith, cond}
use Rattle.std.specs.Prelude.{slice_index}
use Rattle.std.proofs.lemmas.Bool.{eqb-true}
use Rattle.std.specs.List.{All, slice_split, onto_first}
use Rattle.std.proofs.lemmas.List.{append-nil}
use Rattle.std.proofs.lemmas.List.Elements.{All-nil, All-cons}
use Rattle.std.proofs.lemmas.List.Splits.{slice_split_at, slice_split_none, length-slice_split}
use Rattle.memchr.specs.Find.{IsFirstByte, is_byte}
use Rattle.goref.specs.Lines.{is_line_end, all_but_last, last_part, complete_lines, unfinished_line, if_any, lines}
use Rattle.goref.specs.inner.Progress.{HasNoEnd}

-- the parts followed by others, the last of them going on in the first of the others
abbrev going_on : List (List ℕ) → List ℕ → List (List ℕ) → List (List ℕ)
going_on parts first rest = all_but_last parts ++ (last_part parts ++ first) ∷ rest

cond_going_on : (c : Bool) (b : ℕ) (parts all : List (List ℕ)) (first : List ℕ) (rest : List (List ℕ)) →
    0 < length parts → all ≡ going_on parts first rest →
    cond c ([] ∷ all) (onto_first b all) ≡ going_on (cond c ([] ∷ parts) (onto_first b parts)) first rest
cond_going_on c b [] all first rest l e = absurd (omega arith)
cond_going_on true b (part ∷ parts) all first rest l e = ap (λ ps. [] ∷ ps) e
cond_going_on false b (part ∷ []) all first rest l e = ap (onto_first b) e
cond_going_on false b (part ∷ next ∷ parts) all first rest l e = ap (onto_first b) e

-- the parts of two texts in a row
slice_split-append : (text more first : List ℕ) (rest : List (List ℕ)) → slice_split is_line_end more ≡ first ∷ rest →
    slice_split is_line_end (text ++ more) ≡ going_on (slice_split is_line_end text) first rest
slice_split-append [] more first rest e = e
slice_split-append (b ∷ text) more first rest e =
    cond_going_on (is_line_end b) b (slice_split is_line_end text) _ first rest
    (omega (arith, length-slice_split is_line_end text)) (slice_split-append text more first rest e)

all_but_last-append : (parts : List (List ℕ)) (part : List ℕ) (more : List (List ℕ)) →
    all_but_last (parts ++ part ∷ more) ≡ parts ++ all_but_last (part ∷ more)
all_but_last-append [] part more = refl
all_but_last-append (p ∷ []) part more = refl
all_but_last-append (p ∷ q ∷ parts) part more = ap (λ ps. p ∷ ps) (all_but_last-append (q ∷ parts) part more)

last_part-append : (parts : List (List ℕ)) (part : List ℕ) (more : List (List ℕ)) →
    last_part (parts ++ part ∷ more) ≡ last_part (part ∷ more)
last_part-append [] part more = refl
last_part-append (p ∷ []) part more = refl
last_part-append (p ∷ q ∷ parts) part more = last_part-append (q ∷ parts) part more

-- the unfinished line goes on in the first part of what is read next
complete_lines-append : (text more first : List ℕ) (rest : List (List ℕ)) →
    slice_split is_line_end more ≡ first ∷ rest →
    complete_lines (text ++ more) ≡ complete_lines text ++ all_but_last ((unfinished_line text ++ first) ∷ rest)
unfolding complete_lines unfinished_line
complete_lines-append text more first rest e =
    ap all_but_last (slice_split-append text more first rest e)
    ∙ all_but_last-append (all_but_last (slice_split is_line_end text))
    (last_part (slice_split is_line_end text) ++ first) rest

unfinished_line-append : (text more first : List ℕ) (rest : List (List ℕ)) →
    slice_split is_line_end more ≡ first ∷ rest →
    unfinished_line (text ++ more) ≡ last_part ((unfinished_line text ++ first) ∷ rest)
unfolding unfinished_line
unfinished_line-append text more first rest e =
    ap last_part (slice_split-append text more first rest e)
    ∙ last_part-append (all_but_last (slice_split is_line_end text))
    (last_part (slice_split is_line_end text) ++ first) rest

-- nothing was read yet
pub complete_lines-nil : complete_lines [] ≡ []
unfolding complete_lines
complete_lines-nil = refl

pub unfinished_line-nil : unfinished_line [] ≡ []
unfolding unfinished_line
unfinished_line-nil = refl

no_end_all : (part : List ℕ) → HasNoEnd part → All (λ b. is_line_end b ≡ false) part
no_end_all [] h = All-nil (λ b. is_line_end b ≡ false)
no_end_all (b ∷ part) h = All-cons (λ b. is_line_end b ≡ false) b part h.0 (no_end_all part h.1)

-- more bytes of one line
one_part : (part : List ℕ) → HasNoEnd part → slice_split is_line_end part ≡ part ∷ []
one_part part h = slice_split_none is_line_end part (no_end_all part h)

pub complete_lines_more : (text part : List ℕ) → HasNoEnd part → complete_lines (text ++ part) ≡ complete_lines text
complete_lines_more text part h = complete_lines-append text part part [] (one_part part h)
    ∙ append-nil (complete_lines text)

pub unfinished_line_more : (text part : List ℕ) → HasNoEnd part → unfinished_line (text ++ part) ≡ unfinished_line text
    ++ part
unfinished_line_more text part h = unfinished_line-append text part part [] (one_part part h)

-- the end of a line
pub complete_lines_end : (text part : List ℕ) → HasNoEnd part →
    complete_lines (text ++ (part ++ 10 ∷ [])) ≡ complete_lines text ++ (unfinished_line text ++ part) ∷ []
complete_lines_end text part h =
    complete_lines-append text (part ++ 10 ∷ []) part ([] ∷ [])
    (slice_split_at is_line_end part 10 [] (no_end_all part h) refl)

pub unfinished_line_end : (text part : List ℕ) → unfinished_line (text ++ (part ++ 10 ∷ [])) ≡ []
unfinished_line_end text part = ap unfinished_line (sym (append_assoc text part (10 ∷ [])))
    ∙ unfinished_line-append (text ++ part) (10 ∷ []) [] ([] ∷ []) refl

-- what is read later adds lines alone
abbrev pub Later : List ℕ → List ℕ → Type 0
Later text more = (later : List (List ℕ)) × (lines (text ++ more) ≡ complete_lines text ++ later)

later_by : (text more : List ℕ) (parts : List (List ℕ)) → slice_split is_line_end more ≡ parts → Later text more
later_by text more [] e = absurd (omega (arith, length-slice_split is_line_end more, ap length e))
later_by text more (first ∷ rest) e =
    let later = all_but_last ((unfinished_line text ++ first) ∷ rest) in
    let last = if_any (unfinished_line (text ++ more)) in (
      later ++ last,
      ap (λ ls. ls ++ last) (complete_lines-append text more first rest e)
          ∙ append_assoc (complete_lines text) later last,
    )

pub lines_later : (text more : List ℕ) → Later text more
lines_later text more = later_by text more (slice_split is_line_end more) refl

not_true : (b : Bool) → ¬ (b ≡ true) → b ≡ false
not_true true h = absurd (h refl)
not_true false h = refl

-- a text in which no byte ends a line, by its places
pub no_end : (bytes : List ℕ) → ((k : ℕ) → k < length bytes → ¬ (is_line_end (slice_index bytes k) ≡ true)) →
    HasNoEnd bytes
no_end [] h = tt
no_end (b ∷ bytes) h = (not_true (is_line_end b) (h 0 (omega arith)), no_end bytes (λ k l. h (suc k) (omega arith)))

-- the first line of a text that has a line end
pub first_line : (text : List ℕ) (end : ℕ) → ((k : ℕ) → k < end → ¬ (is_line_end (slice_index text k) ≡ true)) →
    end < length text → is_line_end (slice_index text end) ≡ true →
    HasNoEnd (take end text) × (text ≡ take end text ++ (10 ∷ drop 1 (drop end text)))
first_line [] end h l e = absurd (omega arith)
first_line (b ∷ text) zero h l e = (tt, ap (λ c. c ∷ text) (eqb-true b 10 e))
first_line (b ∷ text) (suc end) h l e =
    let rest = first_line text end (λ k m. h (suc k) (omega arith)) (omega arith) e in
    ((not_true (is_line_end b) (h 0 (omega arith)), rest.0), ap (λ t. b ∷ t) rest.1)

-- what a search for LF finds
pub no_cut : (rest : List ℕ) → IsFirstByte (is_byte 10) rest None → HasNoEnd rest
no_cut rest h = no_end rest (λ k l. h k (omega arith) l)

pub first_cut : (rest : List ℕ) (end : ℕ) → IsFirstByte (is_byte 10) rest (Some end) → HasNoEnd (take end rest)
    × (rest ≡ take end rest ++ (10 ∷ drop 1 (drop end rest)))
first_cut rest end h = first_line rest end (λ k l. h.0.before k (omega arith) l) h.0.high h.1

pub chunk_cut : (chunk prefix rest part after : List ℕ) (end : ℕ) → chunk ≡ prefix ++ rest → part ≡ take end rest →
    after ≡ drop 1 (drop end rest) → IsFirstByte (is_byte 10) rest (Some end) →
    chunk ≡ prefix ++ ((part ++ 10 ∷ []) ++ after)
chunk_cut chunk prefix rest part after end whole p a h =
    whole ∙ ap (λ xs. prefix ++ xs) ((first_cut rest end h).1 ∙ ap (λ xs. xs ++ (10 ∷ drop 1 (drop end rest))) (sym p)
    ∙ ap (λ xs. part ++ (10 ∷ xs)) (sym a) ∙ sym (append_assoc part (10 ∷ []) after))
