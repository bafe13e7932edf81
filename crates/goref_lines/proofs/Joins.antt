-- How the joined words of a text change as one more byte comes to its end.
use Rattle.std.proofs.Common.{◌≡◌, ◌∙◌, ℕ, Bool, true, false, if◌then◌else◌, ◌&&◌, List, [], ◌∷◌, ◌++◌, refl, sym, ap, append_assoc}
use Rattle.std.specs.Prelude.{filter}
use Rattle.std.specs.List.{slice_split, join_with_byte}
use Rattle.std.proofs.lemmas.List.{append-nil}
use Rattle.std.proofs.lemmas.List.Elements.{filter-append}
use Rattle.goref_lines.specs.Kept.{ends_with_space}
use Rattle.goref_lines.specs.Words.{has_bytes, is_plain_space, words, single_spaced}
use Rattle.goref_lines.specs.inner.Prefixes.{with_space}
use Rattle.goref_lines.proofs.Splits.{onto_last, HasParts, slice_split_push_yes, slice_split_push_no}

-- whether the last part is empty
abbrev pub ends_empty : List (List ℕ) → Bool
ends_empty [] = true
ends_empty ([] ∷ []) = true
ends_empty ((b ∷ part) ∷ []) = false
ends_empty (part ∷ next ∷ parts) = ends_empty (next ∷ parts)

abbrev pub has_parts : List (List ℕ) → Bool
has_parts [] = false
has_parts (part ∷ parts) = true

-- a byte after an empty last part is a new word
filter_new : (b : ℕ) (parts : List (List ℕ)) → ends_empty parts ≡ true →
    filter has_bytes (onto_last b parts) ≡ filter has_bytes parts ++ (b ∷ []) ∷ []
filter_new b [] e = refl
filter_new b ([] ∷ []) e = refl
filter_new b ((c ∷ part) ∷ []) e = cc
filter_new b ([] ∷ next ∷ parts) e = filter_new b (next ∷ parts) e
filter_new b ((c ∷ part) ∷ next ∷ parts) e = ap (λ ws. (c ∷ part) ∷ ws) (filter_new b (next ∷ parts) e)

filter_some : (parts : List (List ℕ)) → ends_empty parts ≡ false → HasParts (filter has_bytes parts)
filter_some [] e = cc
filter_some ([] ∷ []) e = cc
filter_some ((c ∷ part) ∷ []) e = (c ∷ part, [], refl)
filter_some ([] ∷ next ∷ parts) e = filter_some (next ∷ parts) e
filter_some ((c ∷ part) ∷ next ∷ parts) e = (c ∷ part, filter has_bytes (next ∷ parts), refl)

onto_last_after : (b : ℕ) (word : List ℕ) (ws : List (List ℕ)) → HasParts ws →
    word ∷ onto_last b ws ≡ onto_last b (word ∷ ws)
onto_last_after b word [] h = cc h.2
onto_last_after b word (w ∷ ws) h = refl

-- a byte after another goes to the last word
filter_last : (b : ℕ) (parts : List (List ℕ)) → ends_empty parts ≡ false →
    filter has_bytes (onto_last b parts) ≡ onto_last b (filter has_bytes parts)
filter_last b [] e = cc
filter_last b ([] ∷ []) e = cc
filter_last b ((c ∷ part) ∷ []) e = refl
filter_last b ([] ∷ next ∷ parts) e = filter_last b (next ∷ parts) e
filter_last b ((c ∷ part) ∷ next ∷ parts) e =
    ap (λ ws. (c ∷ part) ∷ ws) (filter_last b (next ∷ parts) e)
    ∙ onto_last_after b (c ∷ part) (filter has_bytes (next ∷ parts)) (filter_some (next ∷ parts) e)

join_new : (b : ℕ) (ws : List (List ℕ)) → join_with_byte 32 (ws ++ (b ∷ []) ∷ []) ≡ join_with_byte 32 ws
    ++ (if has_parts ws then 32 ∷ b ∷ [] else b ∷ [])
join_new b [] = refl
join_new b (w ∷ []) = refl
join_new b (w ∷ v ∷ ws) = ap (λ t. w ++ 32 ∷ t) (join_new b (v ∷ ws))
    ∙ sym (append_assoc w (32 ∷ join_with_byte 32 (v ∷ ws)) (32 ∷ b ∷ []))

join_last : (b : ℕ) (ws : List (List ℕ)) → join_with_byte 32 (onto_last b ws) ≡ join_with_byte 32 ws ++ b ∷ []
join_last b [] = refl
join_last b (w ∷ []) = refl
join_last b (w ∷ v ∷ []) = sym (append_assoc w (32 ∷ v) (b ∷ []))
join_last b (w ∷ v ∷ u ∷ ws) = ap (λ t. w ++ 32 ∷ t) (join_last b (v ∷ u ∷ ws))
    ∙ sym (append_assoc w (32 ∷ join_with_byte 32 (v ∷ u ∷ ws)) (b ∷ []))

has_bytes-join : (parts : List (List ℕ)) →
    has_bytes (join_with_byte 32 (filter has_bytes parts)) ≡ has_parts (filter has_bytes parts)
has_bytes-join [] = refl
has_bytes-join ([] ∷ parts) = has_bytes-join parts
has_bytes-join ((b ∷ part) ∷ parts) = joins_some b part (filter has_bytes parts)
  where
    joins_some : (b : ℕ) (part : List ℕ) (ws : List (List ℕ)) → has_bytes (join_with_byte 32 ((b ∷ part) ∷ ws)) ≡ true
    joins_some b part [] = refl
    joins_some b part (w ∷ ws) = refl

-- a text is empty, or a byte stands last
abbrev pub SnocView : List ℕ → Type 0
SnocView text = (prefix : List ℕ) × (b : ℕ) × (text ≡ prefix ++ b ∷ [])

pub snoc_view : (b : ℕ) (text : List ℕ) → SnocView (b ∷ text)
snoc_view b [] = ([], b, refl)
snoc_view b (c ∷ text) = let h = snoc_view c text in (b ∷ h.0, h.1, ap (λ t. b ∷ t) h.2)

ends_with_space-push : (text : List ℕ) (b : ℕ) → ends_with_space (text ++ b ∷ []) ≡ is_plain_space b
ends_with_space-push [] b = refl
ends_with_space-push (c ∷ []) b = refl
ends_with_space-push (c ∷ d ∷ text) b = ends_with_space-push (d ∷ text) b

ends_empty-push : (parts : List (List ℕ)) → ends_empty (parts ++ [] ∷ []) ≡ true
ends_empty-push [] = refl
ends_empty-push (part ∷ []) = refl
ends_empty-push (part ∷ next ∷ parts) = ends_empty-push (next ∷ parts)

ends_empty-onto_last : (b : ℕ) (parts : List (List ℕ)) → ends_empty (onto_last b parts) ≡ false
ends_empty-onto_last b [] = refl
ends_empty-onto_last b ([] ∷ []) = refl
ends_empty-onto_last b ((c ∷ part) ∷ []) = refl
ends_empty-onto_last b (part ∷ next ∷ []) = ends_empty-onto_last b (next ∷ [])
ends_empty-onto_last b (part ∷ next ∷ other ∷ parts) = ends_empty-onto_last b (next ∷ other ∷ parts)

ends_empty_is : (prefix : List ℕ) (b : ℕ) (s : Bool) → is_plain_space b ≡ s →
    ends_empty (slice_split is_plain_space (prefix ++ b ∷ [])) ≡ s
ends_empty_is prefix b true e = ap ends_empty (slice_split_push_yes is_plain_space prefix b e)
    ∙ ends_empty-push (slice_split is_plain_space prefix)
ends_empty_is prefix b false e = ap ends_empty (slice_split_push_no is_plain_space prefix b e)
    ∙ ends_empty-onto_last b (slice_split is_plain_space prefix)

-- a space follows a word
abbrev pub has_trailing_space : List ℕ → Bool
has_trailing_space text = has_bytes (single_spaced text) && ends_with_space text

trailing_space_last : (prefix : List ℕ) (b : ℕ) →
    ends_with_space (prefix ++ b ∷ []) ≡ ends_empty (slice_split is_plain_space (prefix ++ b ∷ []))
trailing_space_last prefix b = ends_with_space-push prefix b ∙ sym (ends_empty_is prefix b (is_plain_space b) refl)

pub has_trailing_space_is : (text : List ℕ) →
    has_trailing_space text ≡ (has_parts (words text) && ends_empty (slice_split is_plain_space text))
has_trailing_space_is [] = refl
has_trailing_space_is (b ∷ text) =
    let view = snoc_view b text in
    let last : ends_with_space (b ∷ text) ≡ ends_empty (slice_split is_plain_space (b ∷ text)) =
    ap ends_with_space view.2 ∙ trailing_space_last view.0 view.1
    ∙ sym (ap (λ t. ends_empty (slice_split is_plain_space t)) view.2) in
    ap (λ c. c && ends_with_space (b ∷ text)) (has_bytes-join (slice_split is_plain_space (b ∷ text)))
    ∙ ap (λ c. has_parts (words (b ∷ text)) && c) last

pub joined_push_space : (text : List ℕ) (b : ℕ) → is_plain_space b ≡ true →
    single_spaced (text ++ b ∷ []) ≡ single_spaced text
joined_push_space text b e =
    ap (join_with_byte 32) (ap (filter has_bytes) (slice_split_push_yes is_plain_space text b e)
    ∙ filter-append has_bytes (slice_split is_plain_space text) ([] ∷ []) ∙ append-nil (words text))

push_byte_at : (b : ℕ) (parts : List (List ℕ)) (s : Bool) → ends_empty parts ≡ s →
    join_with_byte 32 (filter has_bytes (onto_last b parts)) ≡ join_with_byte 32 (filter has_bytes parts)
    ++ with_space (has_parts (filter has_bytes parts) && s) (b ∷ [])
push_byte_at b parts true e = ap (join_with_byte 32) (filter_new b parts e) ∙ join_new b (filter has_bytes parts)
    ∙ ap (λ c. join_with_byte 32 (filter has_bytes parts) ++ with_space c (b ∷ []))
    (and_true (has_parts (filter has_bytes parts)))
  where
    and_true : (c : Bool) → c ≡ (c && true)
    and_true true = refl
    and_true false = refl
push_byte_at b parts false e = ap (join_with_byte 32) (filter_last b parts e) ∙ join_last b (filter has_bytes parts)
    ∙ ap (λ c. join_with_byte 32 (filter has_bytes parts) ++ with_space c (b ∷ []))
    (and_false (has_parts (filter has_bytes parts)))
  where
    and_false : (c : Bool) → false ≡ (c && false)
    and_false true = refl
    and_false false = refl

pub joined_push_byte : (text : List ℕ) (b : ℕ) → is_plain_space b ≡ false →
    single_spaced (text ++ b ∷ []) ≡ single_spaced text ++ with_space (has_trailing_space text) (b ∷ [])
joined_push_byte text b e =
    ap (λ ps. join_with_byte 32 (filter has_bytes ps)) (slice_split_push_no is_plain_space text b e)
    ∙ push_byte_at b (slice_split is_plain_space text) (ends_empty (slice_split is_plain_space text)) refl
    ∙ ap (λ c. single_spaced text ++ with_space c (b ∷ [])) (sym (has_trailing_space_is text))

pub has_trailing_space_push_space : (text : List ℕ) (b : ℕ) → is_plain_space b ≡ true →
    has_trailing_space (text ++ b ∷ []) ≡ has_bytes (single_spaced text)
has_trailing_space_push_space text b e =
    ap (λ t. has_bytes t && ends_with_space (text ++ b ∷ [])) (joined_push_space text b e)
    ∙ ap (λ c. has_bytes (single_spaced text) && c) (ends_with_space-push text b ∙ e)
    ∙ and_true (has_bytes (single_spaced text))
  where
    and_true : (c : Bool) → (c && true) ≡ c
    and_true true = refl
    and_true false = refl

pub has_trailing_space_push_byte : (text : List ℕ) (b : ℕ) → is_plain_space b ≡ false →
    has_trailing_space (text ++ b ∷ []) ≡ false
has_trailing_space_push_byte text b e =
    ap (λ c. has_bytes (single_spaced (text ++ b ∷ [])) && c) (ends_with_space-push text b ∙ e)
    ∙ and_false (has_bytes (single_spaced (text ++ b ∷ [])))
  where
    and_false : (c : Bool) → (c && false) ≡ false
    and_false true = refl
    and_false false = refl
