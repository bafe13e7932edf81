-- A line whose first byte above the digits is no `l` asks for no `loadsgf`.
use Rattle.std.proofs.Common.{◌≡◌, ◌∙◌, ℕ, Bool, true, false, ◌&&◌, not, nat_eq, nat_le, nat_lt, cond, codes, if◌then◌else◌, List, [], ◌∷◌, ◌++◌, Option, Some, None, refl, sym, ap, arith}
use Rattle.std.proofs.lemmas.Bool.{and_parts}
use Rattle.std.proofs.lemmas.Bool.Decides.{nat_tests}
use Rattle.std.proofs.lemmas.Grind.{common_steps}
use Rattle.std.proofs.lemmas.Slice.Eq.{bytes_eq-Decides}
use Rattle.std.specs.Prelude.{filter, option_map}
use Rattle.std.specs.Char.{is_ascii_digit}
use Rattle.std.specs.List.{list_all, onto_first, slice_split}
use Rattle.std.specs.Option.{option_and_then}
use Rattle.std.specs.Str.{bytes_eq}
use Rattle.go_board.specs.Decimals.{digits_value, is_empty, is_int}
use Rattle.go_board.specs.declared.decimals.TheConstants.{MAX_INT}
use Rattle.goref_lines.specs.Kept.{Kept}
use Rattle.goref_lines.specs.Requests.{Asked, asked, asked_by}
use Rattle.goref_lines.specs.Words.{has_bytes, is_plain_space, words}
use Rattle.goref_session.specs.Commands.{command_of}
use Rattle.goref_session.specs.declared.command.Command.{Command}
use Rattle.goref_session.specs.declared.command.Command.TheVariants.{Loadsgf}
use Rattle.goref_session.specs.Record.{Load, load_of_asked, load_of_command}
use Rattle.goref_session.specs.Replies.{wanted}
use Rattle.goref_session.specs.inner.Wanting.{may_load}

abbrev all_bytes : List (List ℕ) → List ℕ
all_bytes [] = []
all_bytes (word ∷ words) = word ++ all_bytes words

filtered : (word : List ℕ) (parts : List (List ℕ)) → all_bytes (filter has_bytes (word ∷ parts)) ≡ word
    ++ all_bytes (filter has_bytes parts)
filtered [] parts = refl
filtered (b ∷ word) parts = refl

onto_first_bytes : (b : ℕ) (parts : List (List ℕ)) →
    all_bytes (filter has_bytes (onto_first b parts)) ≡ b ∷ all_bytes (filter has_bytes parts)
onto_first_bytes b [] = refl
onto_first_bytes b (part ∷ parts) = ap (λ t. b ∷ t) (sym (filtered part parts))

same_after : (b : ℕ) (text more : List ℕ) → may_load text ≡ may_load more → may_load (b ∷ text) ≡ may_load (b ∷ more)
same_after b text more e = ap (λ t. if nat_lt 57 b then nat_eq b 108 else t) e

is_low : (b : ℕ) → is_plain_space b ≡ true → nat_lt 57 b ≡ false
is_low b e = grind (arith, nat_tests)

-- the spaces of a text don't count
by_words : (text : List ℕ) → may_load text ≡ may_load (all_bytes (words text))
by_words [] = refl
by_words (b ∷ text) = at (is_plain_space b) refl (by_words text)
  where
    parts : List (List ℕ)
    parts = slice_split is_plain_space text

    at : (s : Bool) → is_plain_space b ≡ s → may_load text ≡ may_load (all_bytes (words text)) →
        may_load (b ∷ text) ≡ may_load (all_bytes (filter has_bytes (cond s ([] ∷ parts) (onto_first b parts))))
    at true e later = ap (λ t. if t then nat_eq b 108 else may_load text) (is_low b e) ∙ later
    at false e later = same_after b text (all_bytes (words text)) later ∙ ap may_load (sym (onto_first_bytes b parts))

digit_is_low : (b : ℕ) → is_ascii_digit b ≡ true → nat_lt 57 b ≡ false
digit_is_low b e = grind (arith, nat_tests)

after_digits : (digits text : List ℕ) → list_all is_ascii_digit digits ≡ true →
    may_load (digits ++ text) ≡ may_load text
after_digits [] text h = refl
after_digits (b ∷ digits) text h =
    let parts = and_parts (is_ascii_digit b) (list_all is_ascii_digit digits) h in
    ap (λ t. if t then nat_eq b 108 else may_load (digits ++ text)) (digit_is_low b parts.0)
    ∙ after_digits digits text parts.1

digits_of_int : (word : List ℕ) → is_int word ≡ true → list_all is_ascii_digit word ≡ true
digits_of_int word h =
    (and_parts (not (is_empty word)) (list_all is_ascii_digit word)
    (and_parts (not (is_empty word) && list_all is_ascii_digit word) (nat_le (digits_value word) MAX_INT) h).0).1

-- where a name is asked for, only an id stands before it
named_after : (asks : List (List ℕ)) (name : List ℕ) → (asked_by asks).name ≡ Some name → (rest : List ℕ)
    × (may_load (all_bytes asks) ≡ may_load (name ++ rest))
named_after [] name e = absurd (cc)
named_after (word ∷ []) name e = at (is_int word) e
  where
    at : (i : Bool) → (if i then asked (Some (digits_value word)) [] else asked None (word ∷ [])).name ≡ Some name →
        (rest : List ℕ) × (may_load (all_bytes (word ∷ [])) ≡ may_load (name ++ rest))
    at true e = absurd (cc)
    at false e = let same : word ≡ name = cc in ([], ap (λ w. may_load (w ++ [])) same)
named_after (word ∷ next ∷ others) name e = at (is_int word) refl e
  where
    at : (i : Bool) → is_int word ≡ i →
        (if i then asked (Some (digits_value word)) (next ∷ others) else asked None (word ∷ next ∷ others)).name ≡ Some
        name →
        (rest : List ℕ) × (may_load (all_bytes (word ∷ next ∷ others)) ≡ may_load (name ++ rest))
    at true h e =
        let same : next ≡ name = cc in (
          all_bytes others,
          after_digits word (next ++ all_bytes others) (digits_of_int word h)
              ∙ ap (λ w. may_load (w ++ all_bytes others)) same,
        )
    at false h e = let same : word ≡ name = cc in
        (all_bytes (next ∷ others), ap (λ w. may_load (w ++ all_bytes (next ∷ others))) same)

other_name : (name : List ℕ) → bytes_eq name (codes "loadsgf") ≡ false → command_of name ≡ Some Loadsgf → ⊥
other_name name other e = grind (arith, common_steps)

name_of_load : (name : List ℕ) → command_of name ≡ Some Loadsgf → name ≡ codes "loadsgf"
name_of_load name e = at (bytes_eq name (codes "loadsgf")) refl
  where
    at : (same : Bool) → bytes_eq name (codes "loadsgf") ≡ same → name ≡ codes "loadsgf"
    at true same = (bytes_eq-Decides name (codes "loadsgf")).0 same
    at false other = absurd (other_name name other e)

pub asks_for_another : (text : List ℕ) → may_load text ≡ false →
    option_and_then command_of (asked_by (words text)).name ≡ Some Loadsgf → ⊥
asks_for_another text none asks = at (asked_by (words text)).name refl asks
  where
    at : (name : Option (List ℕ)) → (asked_by (words text)).name ≡ name →
        option_and_then command_of name ≡ Some Loadsgf → ⊥
    at None e h = cc
    at (Some name) e h =
        let found = named_after (words text) name e in
        let same : may_load (name ++ found.0) ≡ may_load (codes "loadsgf" ++ found.0) =
        ap (λ n. may_load (n ++ found.0)) (name_of_load name h) in
        let bad = sym none ∙ by_words text ∙ found.1 ∙ same in cc

no_load : (command : Option Command) (arguments : List (List ℕ)) → (command ≡ Some Loadsgf → ⊥) →
    load_of_command command arguments ≡ None
no_load None arguments other = refl
no_load (Some Loadsgf) arguments other = absurd (other refl)
no_load (Some command) arguments other = refl

-- a line that asks for no `loadsgf` wants no file
pub none_wanted : (k : Kept) → (option_and_then command_of (asked_by (words k.text)).name ≡ Some Loadsgf → ⊥) →
    None ≡ wanted k
none_wanted k other = at k.is_long
  where
    asks : Asked
    asks = asked_by (words k.text)

    at : (long : Bool) → None ≡ (if long then None else option_map (λ (load : Load). load.name) (load_of_asked asks))
    at true = refl
    at false = ap (option_map (λ (load : Load). load.name))
        (sym (no_load (option_and_then command_of asks.name) asks.arguments other))
