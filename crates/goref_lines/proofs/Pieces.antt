-- What a line keeps as several bytes come to its end.
use Rattle.std.proofs.Common.{true≢false, inl, inr, ◌⊎◌, ◌≡◌, ◌∙◌, ◌+◌, ◌-◌, ◌<◌, ◌≤◌, get_or, ℕ, zero, suc, Some, None, Bool, true, false, not, cond, drop, if◌then◌else◌, ◌&&◌, ◌||◌, List, [], ◌∷◌, ◌++◌, refl, sym, ap, subst, take, length, nat_eq, nat_lt, map, arith, lit<, append_assoc, length-append}
use Rattle.std.proofs.lemmas.Bool.{and_parts, cases_lt}
use Rattle.std.proofs.lemmas.List.Sums.{prefix_len_passes}
use Rattle.std.specs.List.{list_all, list_any, prefix_len}
use Rattle.std.proofs.lemmas.List.{append-nil, map-append, take-append-le, take_more}
use Rattle.std.proofs.lemmas.List.Elements.{filter-append}
use Rattle.std.proofs.lemmas.List.Folds.{list_any-append}
use Rattle.std.proofs.lemmas.Bool.Decides.{nat_tests}
use Rattle.std.specs.Prelude.{slice_index}
use Rattle.memchr.specs.Find.{IsFirstByte, is_byte}
use Rattle.goref_lines.specs.declared.line.TheConstants.{LINE_LIMIT}
use Rattle.goref_lines.specs.Kept.{is_control_byte, is_hash, spaced, printable, before_comment, cleaned, ends_with_space, Kept, kept}
use Rattle.goref_lines.specs.Words.{is_plain_space, has_bytes, single_spaced}
use Rattle.goref_lines.specs.inner.Prefixes.{AreBetweenWords, AreJoined, KeepsPrefix, end_of_words, goes_on_joined, is_blank_byte, is_gap_byte, is_word_byte, last_of, space_after, with_space}
use Rattle.goref_lines.proofs.Joins.{has_trailing_space, joined_push_space, joined_push_byte, has_trailing_space_push_space, has_trailing_space_push_byte}
use Rattle.goref_lines.proofs.Pushes.{before_comment_none, has_bytes-take, has_bytes_is, kept_comment, kept_control, kept_hash, kept_space, plain, plain_is, plain_before, has_comment_is, spaced_other}

before_comment_append : (bs more : List ℕ) → list_any is_hash bs ≡ false → before_comment (bs ++ more) ≡ bs
    ++ before_comment more
before_comment_append [] more e = refl
before_comment_append (b ∷ bs) more e = at (is_hash b) e (before_comment_append bs more)
  where
    at : (c : Bool) → (c || list_any is_hash bs) ≡ false →
        (list_any is_hash bs ≡ false → before_comment (bs ++ more) ≡ bs ++ before_comment more) →
        (if c then [] else b ∷ before_comment (bs ++ more)) ≡ b ∷ (bs ++ before_comment more)
    at true e later = cc
    at false e later = ap (λ ys. b ∷ ys) (later e)

printable_append : (line bytes : List ℕ) → printable (line ++ bytes) ≡ printable line ++ printable bytes
printable_append line bytes = filter-append (λ b. not (is_control_byte b)) line bytes

-- the cleaned bytes, where no comment has begun
pub cleaned_append : (line bytes : List ℕ) → list_any is_hash (printable line) ≡ false →
    cleaned (line ++ bytes) ≡ cleaned line ++ cleaned bytes
cleaned_append line bytes none =
    ap (λ bs. map spaced (before_comment bs)) (printable_append line bytes)
    ∙ ap (map spaced) (before_comment_append (printable line) (printable bytes) none)
    ∙ map-append spaced (printable line) (before_comment (printable bytes))
    ∙ ap (λ front. map spaced front ++ cleaned bytes) (sym (before_comment_none (printable line) none))

of_word_parts : (c h s : Bool) → (not c && (not h && not s)) ≡ true → (c ≡ false) × (h ≡ false) × (s ≡ false)
of_word_parts true h s e = cc
of_word_parts false true s e = cc
of_word_parts false false true e = cc
of_word_parts false false false e = (refl, refl, refl)

of_word : (b : ℕ) → is_word_byte b ≡ true → (is_control_byte b ≡ false) × (is_hash b ≡ false)
    × (is_plain_space (spaced b) ≡ false)
of_word b e = of_word_parts (is_control_byte b) (is_hash b) (is_plain_space (spaced b)) e

one_more : (n : ℕ) → suc n ≡ 1 + n
one_more n = omega arith

-- the bytes that stand first and pass a test all pass it
pub taken_pass : (test : ℕ → Bool) (bytes : List ℕ) → list_all test (take (prefix_len test bytes) bytes) ≡ true
taken_pass test [] = refl
taken_pass test (b ∷ bytes) = at (test b) refl (taken_pass test bytes)
  where
    at : (c : Bool) → test b ≡ c → list_all test (take (prefix_len test bytes) bytes) ≡ true →
        list_all test (take (if c then 1 + prefix_len test bytes else 0) (b ∷ bytes)) ≡ true
    at true e later =
        subst (λ n. list_all test (take n (b ∷ bytes)) ≡ true) (one_more (prefix_len test bytes))
        (ap (λ c. c && list_all test (take (prefix_len test bytes) bytes)) e ∙ later)
    at false e later = refl

-- a byte of words that are joined by single spaces
abbrev is_joined_byte : ℕ → Bool
is_joined_byte b = is_word_byte b || is_plain_space b

abbrev AreOfJoined : List ℕ → Type 0
AreOfJoined bytes = list_all is_joined_byte bytes ≡ true

is_space : (b : ℕ) → is_plain_space b ≡ true → b ≡ 32
is_space b e = grind (arith, nat_tests)

joined_byte : (b : ℕ) → is_joined_byte b ≡ true → (is_control_byte b ≡ false) × (is_hash b ≡ false) × (spaced b ≡ b)
joined_byte b h = at (is_word_byte b) (is_plain_space b) refl refl h
  where
    Kept_so : ℕ → Type 0
    Kept_so x = (is_control_byte x ≡ false) × (is_hash x ≡ false) × (spaced x ≡ x)

    at : (w s : Bool) → is_word_byte b ≡ w → is_plain_space b ≡ s → (w || s) ≡ true → Kept_so b
    at true s e f h = let parts = of_word b e in (parts.0, parts.1, spaced_other b parts.2)
    at false true e f h = subst Kept_so (sym (is_space b f)) (refl, refl, refl)
    at false false e f h = cc

of_joined : (after : Bool) (bytes : List ℕ) → goes_on_joined after bytes ≡ true → AreOfJoined bytes
of_joined after [] h = refl
of_joined after (b ∷ bytes) h =
    at (is_word_byte b) (is_plain_space b) after (of_joined true bytes) (of_joined false bytes) h
  where
    at : (w s a : Bool) → (goes_on_joined true bytes ≡ true → AreOfJoined bytes) →
        (goes_on_joined false bytes ≡ true → AreOfJoined bytes) →
        (if w then goes_on_joined true bytes else ((s && a) && goes_on_joined false bytes)) ≡ true →
        ((w || s) && list_all is_joined_byte bytes) ≡ true
    at true s a word space h = word h
    at false true true word space h = space h
    at false true false word space h = cc
    at false false a word space h = cc

first_of : (b : ℕ) (bytes : List ℕ) → AreOfJoined (b ∷ bytes) → is_joined_byte b ≡ true
first_of b bytes h = (and_parts (is_joined_byte b) (list_all is_joined_byte bytes) h).0

others_of : (b : ℕ) (bytes : List ℕ) → AreOfJoined (b ∷ bytes) → AreOfJoined bytes
others_of b bytes h = (and_parts (is_joined_byte b) (list_all is_joined_byte bytes) h).1

printable_joined : (bytes : List ℕ) → AreOfJoined bytes → printable bytes ≡ bytes
printable_joined [] h = refl
printable_joined (b ∷ bytes) h =
    ap (λ c. cond (not c) (b ∷ printable bytes) (printable bytes)) (joined_byte b (first_of b bytes h)).0
    ∙ ap (λ bs. b ∷ bs) (printable_joined bytes (others_of b bytes h))

no_hash_in_joined : (bytes : List ℕ) → AreOfJoined bytes → list_any is_hash bytes ≡ false
no_hash_in_joined [] h = refl
no_hash_in_joined (b ∷ bytes) h =
    ap (λ c. c || list_any is_hash bytes) (joined_byte b (first_of b bytes h)).1
    ∙ no_hash_in_joined bytes (others_of b bytes h)

spaced_joined : (bytes : List ℕ) → AreOfJoined bytes → map spaced bytes ≡ bytes
spaced_joined [] h = refl
spaced_joined (b ∷ bytes) h = ap (λ c. c ∷ map spaced bytes) (joined_byte b (first_of b bytes h)).2
    ∙ ap (λ bs. b ∷ bs) (spaced_joined bytes (others_of b bytes h))

cleaned_joined : (bytes : List ℕ) → AreOfJoined bytes → cleaned bytes ≡ bytes
cleaned_joined bytes h =
    ap (λ bs. map spaced (before_comment bs)) (printable_joined bytes h)
    ∙ ap (map spaced) (before_comment_none bytes (no_hash_in_joined bytes h)) ∙ spaced_joined bytes h

no_space : (b : ℕ) → is_word_byte b ≡ true → is_plain_space b ≡ false
no_space b h = ap is_plain_space (sym (spaced_other b (of_word b h).2)) ∙ (of_word b h).2

before_more : (has_space : Bool) (b : ℕ) (bytes : List ℕ) → with_space has_space (b ∷ [])
    ++ bytes ≡ with_space has_space (b ∷ bytes)
before_more true b bytes = refl
before_more false b bytes = refl

has_bytes_after : (text : List ℕ) (has_space : Bool) (b : ℕ) → has_bytes (text ++ with_space has_space (b ∷ [])) ≡ true
has_bytes_after [] true b = refl
has_bytes_after [] false b = refl
has_bytes_after (c ∷ text) has_space b = refl

-- after a text with words, which ends with a space where one is due, these bytes join as they are
abbrev Joins : Bool → List ℕ → List ℕ → Type 0
Joins has_space bytes text = (single_spaced (text ++ bytes) ≡ single_spaced text ++ with_space has_space bytes)
    × (has_trailing_space (text ++ bytes) ≡ false)

join_word : (text : List ℕ) (b : ℕ) (bytes : List ℕ) → is_word_byte b ≡ true → Joins false bytes (text ++ b ∷ []) →
    Joins (has_trailing_space text) (b ∷ bytes) text
join_word text b bytes one later = (
  ap single_spaced (sym (append_assoc text (b ∷ []) bytes)) ∙ later.0
      ∙ ap (λ t. t ++ bytes) (joined_push_byte text b (no_space b one))
      ∙ append_assoc (single_spaced text) (with_space (has_trailing_space text) (b ∷ [])) bytes
      ∙ ap (λ t. single_spaced text ++ t) (before_more (has_trailing_space text) b bytes),
  ap has_trailing_space (sym (append_assoc text (b ∷ []) bytes)) ∙ later.1,
)

join_space : (text : List ℕ) (b : ℕ) (bytes : List ℕ) → is_plain_space b ≡ true → Joins true bytes (text ++ b ∷ []) →
    Joins false (b ∷ bytes) text
join_space text b bytes space later = (
  ap single_spaced (sym (append_assoc text (b ∷ []) bytes)) ∙ later.0
      ∙ ap (λ t. t ++ 32 ∷ bytes) (joined_push_space text b space)
      ∙ ap (λ c. single_spaced text ++ c ∷ bytes) (sym (is_space b space)),
  ap has_trailing_space (sym (append_assoc text (b ∷ []) bytes)) ∙ later.1,
)

has_words_then : (text : List ℕ) (b : ℕ) → is_word_byte b ≡ true → has_bytes (single_spaced (text ++ b ∷ [])) ≡ true
has_words_then text b one = ap has_bytes (joined_push_byte text b (no_space b one))
    ∙ has_bytes_after (single_spaced text) (has_trailing_space text) b

joins : (bytes text : List ℕ) (after : Bool) → goes_on_joined after bytes ≡ true →
    has_trailing_space text ≡ not after → has_bytes (single_spaced text) ≡ true → Joins (not after) bytes text
joins [] text true h space some = (
  ap single_spaced (append-nil text) ∙ sym (append-nil (single_spaced text)),
  ap has_trailing_space (append-nil text)
      ∙ space,
)
joins [] text false h space some = cc
joins (b ∷ bytes) text after h space some = at (is_word_byte b) (is_plain_space b) after refl refl h space
    (λ g one. joins bytes (text ++ b ∷ []) true g (has_trailing_space_push_byte text b (no_space b one))
    (has_words_then text b one))
    (λ g e. joins bytes (text ++ b ∷ []) false g (has_trailing_space_push_space text b e ∙ some)
    (ap has_bytes (joined_push_space text b e) ∙ some))
  where
    at : (w s a : Bool) → is_word_byte b ≡ w → is_plain_space b ≡ s →
        (if w then goes_on_joined true bytes else ((s && a) && goes_on_joined false bytes)) ≡ true →
        has_trailing_space text ≡ not a →
        (goes_on_joined true bytes ≡ true → is_word_byte b ≡ true → Joins false bytes (text ++ b ∷ [])) →
        (goes_on_joined false bytes ≡ true → is_plain_space b ≡ true → Joins true bytes (text ++ b ∷ [])) →
        Joins (not a) (b ∷ bytes) text
    at true s a e f h space word blank =
        subst (λ t. Joins t (b ∷ bytes) text) space (join_word text b bytes e (word h e))
    at false true true e f h space word blank = join_space text b bytes f (blank h f)
    at false true false e f h space word blank = cc
    at false false a e f h space word blank = cc

first_joined : (b : ℕ) (bytes : List ℕ) → AreJoined (b ∷ bytes) → (is_word_byte b ≡ true)
    × (goes_on_joined true bytes ≡ true)
first_joined b bytes h = at (is_word_byte b) (is_plain_space b) h
  where
    at : (w s : Bool) → (if w then goes_on_joined true bytes else ((s && false) && goes_on_joined false bytes)) ≡ true →
        (w ≡ true) × (goes_on_joined true bytes ≡ true)
    at true s h = (refl, h)
    at false true h = cc
    at false false h = cc

joins_first : (text : List ℕ) (b : ℕ) (bytes : List ℕ) → AreJoined (b ∷ bytes) →
    Joins (has_trailing_space text) (b ∷ bytes) text
joins_first text b bytes h =
    let parts = first_joined b bytes h in
    join_word text b bytes parts.0
    (joins bytes (text ++ b ∷ []) true parts.1 (has_trailing_space_push_byte text b (no_space b parts.0))
    (has_words_then text b parts.0))

-- words that are joined by single spaces come to a line k
pub kept_words : (line words : List ℕ) (k : Kept) → k ≡ kept line → (text : List ℕ) (is_long : Bool) →
    k.has_comment ≡ false → AreJoined words →
    ((whole : List ℕ) → KeepsPrefix k.text k.is_long whole →
    KeepsPrefix text is_long (whole ++ with_space k.has_space words)) →
    record k { text = text; is_long = is_long; has_space = false } ≡ kept (line ++ words)
kept_words line [] k seen text is_long none h grows = cc
kept_words line (b ∷ word) k seen text is_long none joined grows =
    let h : AreOfJoined (b ∷ word) = of_joined false (b ∷ word) joined in
    let before : k ≡ plain (cleaned line) = seen
    ∙ plain_before line (sym (ap (λ (x : Kept). x.has_comment) seen) ∙ none) in
    let any : list_any is_hash (printable line) ≡ false = sym (has_comment_is line)
    ∙ sym (ap (λ (x : Kept). x.has_comment) seen) ∙ none in
    let any' : list_any is_hash (printable (line ++ b ∷ word)) ≡ false =
    ap (list_any is_hash) (printable_append line (b ∷ word))
    ∙ list_any-append is_hash (printable line) (printable (b ∷ word))
    ∙ ap (λ c. c || list_any is_hash (printable (b ∷ word))) any
    ∙ ap (list_any is_hash) (printable_joined (b ∷ word) h) ∙ no_hash_in_joined (b ∷ word) h in
    let join = joins_first (cleaned line) b word joined in
    let grown = grows (single_spaced (cleaned line))
    (record { prefix = ap (λ (x : Kept). x.text) before; longer = ap (λ (x : Kept). x.is_long) before }) in
    let whole : single_spaced (cleaned line)
    ++ with_space k.has_space (b ∷ word) ≡ single_spaced (cleaned line ++ b ∷ word) =
    ap (λ s. single_spaced (cleaned line) ++ with_space s (b ∷ word)) (ap (λ (x : Kept). x.has_space) before)
    ∙ sym join.0 in
    let all : cleaned (line ++ b ∷ word) ≡ cleaned line ++ b ∷ word = cleaned_append line (b ∷ word) any
    ∙ ap (λ t. cleaned line ++ t) (cleaned_joined (b ∷ word) h) in
    let f : List ℕ → Bool → Bool → Bool → Kept = λ text is_long comment space.
    record { text = text; is_long = is_long; has_comment = comment; has_space = space } in
    let last = cleaned line ++ b ∷ word in
    ap (λ c. f text is_long c false) none
    ∙ ap (λ t. f t is_long false false) (grown.prefix ∙ ap (take LINE_LIMIT) whole)
    ∙ ap (λ l. f (take LINE_LIMIT (single_spaced last)) l false false)
    (grown.longer ∙ ap (λ w. nat_lt LINE_LIMIT (length w)) whole)
    ∙ ap (f (take LINE_LIMIT (single_spaced last)) (nat_lt LINE_LIMIT (length (single_spaced last))) false) (sym join.1)
    ∙ ap plain (sym all)
    ∙ sym (plain_is (line ++ b ∷ word) any')

-- joined words go on where a word goes on, or another follows after a single space
pub joined_append : (after : Bool) (bytes more : List ℕ) → goes_on_joined after bytes ≡ true →
    goes_on_joined true more ≡ true → goes_on_joined after (bytes ++ more) ≡ true
joined_append after [] more h g = ap (λ a. goes_on_joined a more) h ∙ g
joined_append after (b ∷ bytes) more h g =
    at (is_word_byte b) (is_plain_space b && after) h (λ k. joined_append true bytes more k g)
    (λ k. joined_append false bytes more k g)
  where
    at : (w s : Bool) → (if w then goes_on_joined true bytes else (s && goes_on_joined false bytes)) ≡ true →
        (goes_on_joined true bytes ≡ true → goes_on_joined true (bytes ++ more) ≡ true) →
        (goes_on_joined false bytes ≡ true → goes_on_joined false (bytes ++ more) ≡ true) →
        (if w then goes_on_joined true (bytes ++ more) else (s && goes_on_joined false (bytes ++ more))) ≡ true
    at true s h word space = word h
    at false true h word space = space h
    at false false h word space = cc

word_joined : (b : ℕ) → is_word_byte b ≡ true → goes_on_joined true (b ∷ []) ≡ true
word_joined b e = ap (λ w. if w then true else ((is_plain_space b && true) && false)) e

-- one more byte of a word
pub joined_push : (bytes : List ℕ) (n b : ℕ) → take (n + 1) bytes ≡ take n bytes ++ b ∷ [] → is_word_byte b ≡ true →
    (0 < n → AreJoined (take n bytes)) → AreJoined (take (n + 1) bytes)
joined_push bytes zero b more e h =
    subst AreJoined (sym more) (ap (λ w. if w then true else ((is_plain_space b && false) && false)) e)
joined_push bytes (suc n) b more e h =
    subst AreJoined (sym more) (joined_append false (take (suc n) bytes) (b ∷ []) (h (omega arith)) (word_joined b e))

-- the first byte of another word, after a single space
pub joined_push_word : (bytes : List ℕ) (n b : ℕ) → take (n + 1 + 1) bytes ≡ take (n + 1) bytes ++ b ∷ [] →
    take (n + 1) bytes ≡ take n bytes ++ 32 ∷ [] → is_word_byte b ≡ true → AreJoined (take n bytes) →
    AreJoined (take (n + 1 + 1) bytes)
joined_push_word bytes n b more space e h =
    subst AreJoined (sym (more ∙ ap (λ t. t ++ b ∷ []) space ∙ append_assoc (take n bytes) (32 ∷ []) (b ∷ [])))
    (joined_append false (take n bytes) (32 ∷ b ∷ []) h
    (ap (λ w. if w then true else ((is_plain_space b && false) && false)) e))

-- what stands up to the last byte of a word is joined, and a single space at most follows it
pub record JoinedUpTo (bytes : List ℕ) (end place : ℕ) : Type 0 where
  pub within : end ≤ place
  pub joined : 0 < end → AreJoined (take end bytes)
  pub after : end < place → (0 < end) × (end + 1 ≡ place) × (get_or bytes end 0 ≡ 32)

pub joined_next : (bytes : List ℕ) (end place : ℕ) → JoinedUpTo bytes end place → place < length bytes →
    is_word_byte (get_or bytes place 0) ≡ true → JoinedUpTo bytes (place + 1) (place + 1)
joined_next bytes end place h short word = record {
  within = omega arith;
  joined = λ _. at (nat_lt end place) refl short word;
  after = λ more. absurd (omega (arith, more));
}
  where
    Next : ℕ → Type 0
    Next p = p < length bytes → is_word_byte (get_or bytes p 0) ≡ true → AreJoined (take (p + 1) bytes)

    right_after : Next end
    right_after l w = joined_push bytes end (get_or bytes end 0) (take_more bytes end 0 l) w h.joined

    one_after : (0 < end) × (end + 1 ≡ place) × (get_or bytes end 0 ≡ 32) → Next (end + 1)
    one_after s l w =
        joined_push_word bytes end (get_or bytes (end + 1) 0) (take_more bytes (end + 1) 0 l)
        (take_more bytes end 0 (omega arith) ∙ ap (λ b. take end bytes ++ b ∷ []) s.2) w (h.joined s.0)

    is_after : nat_lt end place ≡ true → end < place
    is_after e = grind (arith, nat_tests)

    is_not_after : nat_lt end place ≡ false → place ≤ end
    is_not_after e = grind (arith, nat_tests)

    at : (t : Bool) → nat_lt end place ≡ t → Next place
    at true e = let s = h.after (is_after e) in subst Next s.1 (one_after s)
    at false e = let same : end ≡ place = omega (arith, is_not_after e, h.within) in subst Next same right_after

pub joined_blank : (bytes : List ℕ) (end place : ℕ) → JoinedUpTo bytes end place → get_or bytes place 0 ≡ 32 →
    place ≤ end → ¬ (end ≡ 0) → JoinedUpTo bytes end (place + 1)
joined_blank bytes end place h space near some =
    let same : place ≡ end = omega (arith, h.within) in
    record {
      within = omega arith;
      joined = h.joined;
      after = λ _. (omega arith, omega arith, ap (λ p. get_or bytes p 0) (sym same) ∙ space);
    }

-- the same of the place where the last word starts
pub record WordsUpTo (bytes : List ℕ) (start place : ℕ) : Type 0 where
  pub low : start ≤ place
  pub joined : JoinedUpTo bytes (end_of_words start place) place

end_within : (start place : ℕ) → start ≤ place → end_of_words start (place + 1) ≡ place + 1
end_within start place low = grind (arith, nat_tests)

end_in_word : (start place : ℕ) → start < place → end_of_words start place ≡ place
end_in_word start place low = grind (arith, nat_tests)

end_before : (place : ℕ) → end_of_words (place + 1) (place + 1) ≡ place
end_before place = grind (arith, nat_tests)

pub words_next : (bytes : List ℕ) (start place : ℕ) → WordsUpTo bytes start place → place < length bytes →
    is_word_byte (get_or bytes place 0) ≡ true → WordsUpTo bytes start (place + 1)
words_next bytes start place h short word = record {
  low = omega (arith, h.low);
  joined = subst (λ (e : ℕ). JoinedUpTo bytes e (place + 1)) (sym (end_within start place h.low))
      (joined_next bytes (end_of_words start place) place h.joined short word);
}

pub words_blank : (bytes : List ℕ) (start place : ℕ) → WordsUpTo bytes start place → get_or bytes place 0 ≡ 32 →
    ¬ (place ≡ start) → WordsUpTo bytes (place + 1) (place + 1)
words_blank bytes start place h space some =
    let inside : start < place = omega (arith, h.low) in
    let here = subst (λ (e : ℕ). JoinedUpTo bytes e place) (end_in_word start place inside) h.joined in
    record {
      low = omega arith;
      joined = subst (λ (e : ℕ). JoinedUpTo bytes e (place + 1)) (sym (end_before place))
          (joined_blank bytes place place here space (omega arith) (λ none. omega arith));
    }

-- where a byte is of no word, the first word has ended
pub prefix_stops : (bytes : List ℕ) (place : ℕ) → is_word_byte (get_or bytes place 0) ≡ false →
    prefix_len is_word_byte bytes ≤ place
prefix_stops bytes place none = elim (cases_lt place (prefix_len is_word_byte bytes)) [
  | inl inside ↦ absurd (true≢false (sym (prefix_len_passes is_word_byte bytes place 0 inside) ∙ none))
  | inr past ↦ past
]

-- and the words that end here have it whole
pub prefix_end : (bytes : List ℕ) (start place : ℕ) → (start ≡ 0) ⊎ (prefix_len is_word_byte bytes < start) →
    prefix_len is_word_byte bytes ≤ place
    → prefix_len is_word_byte bytes ≤ end_of_words start place
prefix_end bytes start place first past = at (nat_lt start place) refl
  where
    at : (later : Bool) → nat_lt start place ≡ later →
        prefix_len is_word_byte bytes ≤ (if later then place else start - 1)
    at true e = past
    at false e = elim first [
      | inl none ↦ (grind (arith, nat_tests, e, past, none))
      | inr before ↦
          omega (arith, before)
    ]

-- the joined words of a text are the front of those of a longer one
joined_grows : (text more : List ℕ) → (rest : List ℕ) × (single_spaced (text ++ more) ≡ single_spaced text ++ rest)
joined_grows text [] = ([], ap single_spaced (append-nil text) ∙ sym (append-nil (single_spaced text)))
joined_grows text (b ∷ more) = by (is_plain_space b) refl (joined_grows (text ++ b ∷ []) more)
  where
    same : single_spaced (text ++ b ∷ more) ≡ single_spaced ((text ++ b ∷ []) ++ more)
    same = ap single_spaced (sym (append_assoc text (b ∷ []) more))

    by : (c : Bool) → is_plain_space b ≡ c → (rest : List ℕ)
        × (single_spaced ((text ++ b ∷ []) ++ more) ≡ single_spaced (text ++ b ∷ []) ++ rest) →
        (rest : List ℕ) × (single_spaced (text ++ b ∷ more) ≡ single_spaced text ++ rest)
    by true e later = (later.0, same ∙ later.1 ∙ ap (λ t. t ++ later.0) (joined_push_space text b e))
    by false e later =
        let word = with_space (has_trailing_space text) (b ∷ []) in (
          word ++ later.0,
          same ∙ later.1 ∙ ap (λ t. t ++ later.0) (joined_push_byte text b e)
              ∙ append_assoc (single_spaced text) word later.0,
        )

ends_later : (text : List ℕ) (b : ℕ) (more : List ℕ) → ends_with_space (text ++ b ∷ more) ≡ ends_with_space (b ∷ more)
ends_later [] b more = refl
ends_later (c ∷ []) b more = refl
ends_later (c ∷ d ∷ text) b more = ends_later (d ∷ text) b more

ends_by_last : (has_space : Bool) (b : ℕ) (bytes : List ℕ) →
    ends_with_space (map spaced (b ∷ bytes)) ≡ space_after has_space (last_of (b ∷ bytes))
ends_by_last has_space b [] = refl
ends_by_last has_space b (c ∷ bytes) = ends_by_last has_space c bytes

ends_after : (text bytes : List ℕ) →
    ends_with_space (text ++ map spaced bytes) ≡ space_after (ends_with_space text) (last_of bytes)
ends_after text [] = ap ends_with_space (append-nil text)
ends_after text (b ∷ bytes) = ends_later text (spaced b) (map spaced bytes)
    ∙ ends_by_last (ends_with_space text) b bytes

has_bytes_by_length : (text : List ℕ) → 0 < length text → has_bytes text ≡ true
has_bytes_by_length [] h = absurd (omega arith)
has_bytes_by_length (b ∷ text) h = refl

is_more : (limit : ℕ) (text : List ℕ) → nat_lt limit (length text) ≡ true → limit < length text
is_more limit text e = grind (arith, nat_tests)

-- after a line that is longer than a line may be no more is kept
pub kept_after : (line bytes : List ℕ) (k : Kept) → k ≡ kept line → k.is_long ≡ true → k.has_comment ≡ false →
    list_any is_hash (printable bytes) ≡ false →
    record k { has_space = space_after k.has_space (last_of (printable bytes)) } ≡ kept (line ++ bytes)
kept_after line bytes k seen long none hash =
    let a = cleaned line in
    let before : k ≡ plain a = seen ∙ plain_before line (sym (ap (λ (x : Kept). x.has_comment) seen) ∙ none) in
    let any : list_any is_hash (printable line) ≡ false = sym (has_comment_is line)
    ∙ sym (ap (λ (x : Kept). x.has_comment) seen) ∙ none in
    let any' : list_any is_hash (printable (line ++ bytes)) ≡ false =
    ap (list_any is_hash) (printable_append line bytes) ∙ list_any-append is_hash (printable line) (printable bytes)
    ∙ ap (λ c. c || list_any is_hash (printable bytes)) any ∙ hash in
    let c = map spaced (printable bytes) in
    let all : cleaned (line ++ bytes) ≡ a ++ c = cleaned_append line bytes any
    ∙ ap (λ t. a ++ map spaced t) (before_comment_none (printable bytes) hash) in
    let grown = joined_grows a c in
    let more : LINE_LIMIT < length (single_spaced a) =
    is_more LINE_LIMIT (single_spaced a) (sym (ap (λ (x : Kept). x.is_long) before) ∙ long) in
    let more' : LINE_LIMIT < length (single_spaced (a ++ c)) = rw grown.1 (simp length-append (omega (arith, more))) in
    let text : take LINE_LIMIT (single_spaced a) ≡ take LINE_LIMIT (single_spaced (a ++ c)) =
    sym (ap (take LINE_LIMIT) grown.1 ∙ take-append-le LINE_LIMIT (single_spaced a) grown.0 (omega (arith, more))) in
    let longer : nat_lt LINE_LIMIT (length (single_spaced a)) ≡ nat_lt LINE_LIMIT (length (single_spaced (a ++ c))) =
    grind (arith, nat_tests) in
    let some : has_bytes (single_spaced a) ≡ true = has_bytes_by_length (single_spaced a) (omega (arith, more)) in
    let some' : has_bytes (single_spaced (a ++ c)) ≡ true =
    has_bytes_by_length (single_spaced (a ++ c)) (omega (arith, more')) in
    let space : space_after k.has_space (last_of (printable bytes)) ≡ has_trailing_space (a ++ c) =
    ap (λ s. space_after s (last_of (printable bytes)))
    (ap (λ (x : Kept). x.has_space) before ∙ ap (λ h. h && ends_with_space a) some)
    ∙ sym (ends_after a (printable bytes)) ∙ sym (ap (λ h. h && ends_with_space (a ++ c)) some') in
    let f : List ℕ → Bool → Bool → Bool → Kept = λ text is_long comment space.
    record { text = text; is_long = is_long; has_comment = comment; has_space = space } in
    ap (λ (x : Kept). record x { has_space = space_after k.has_space (last_of (printable bytes)) }) before
    ∙ ap (f (take LINE_LIMIT (single_spaced a)) (nat_lt LINE_LIMIT (length (single_spaced a))) false) space
    ∙ ap (λ t. f t (nat_lt LINE_LIMIT (length (single_spaced a))) false (has_trailing_space (a ++ c))) text
    ∙ ap (λ l. f (take LINE_LIMIT (single_spaced (a ++ c))) l false (has_trailing_space (a ++ c))) longer
    ∙ ap plain (sym all)
    ∙ sym (plain_is (line ++ bytes) any')

commented : (line bytes : List ℕ) (k : Kept) → k ≡ kept line → k.has_comment ≡ true → k ≡ kept (line ++ bytes)
commented line [] k seen e = seen ∙ ap kept (sym (append-nil line))
commented line (b ∷ bytes) k seen e = commented (line ++ b ∷ []) bytes k (kept_comment line b k seen e) e
    ∙ ap kept (append_assoc line (b ∷ []) bytes)

-- bytes of a comment
pub kept_in_comment : (line bytes : List ℕ) (k : Kept) → k ≡ kept line → k.has_comment ≡ true → k ≡ kept (line ++ bytes)
kept_in_comment = commented

-- a comment begins
pub kept_from_hash : (line bytes : List ℕ) (k : Kept) → k ≡ kept line → k.has_comment ≡ false →
    record k { has_comment = true } ≡ kept (line ++ 35 ∷ bytes)
kept_from_hash line bytes k seen none =
    commented (line ++ 35 ∷ []) bytes (record k { has_comment = true }) (kept_hash line 35 k seen none refl) refl
    ∙ ap kept (append_assoc line (35 ∷ []) bytes)

last_of-push : (bytes : List ℕ) (b : ℕ) → last_of (bytes ++ b ∷ []) ≡ Some b
last_of-push [] b = refl
last_of-push (c ∷ []) b = refl
last_of-push (c ∷ d ∷ bytes) b = last_of-push (d ∷ bytes) b

-- the last printable byte of a text by its last byte
pub last_is : (front : List ℕ) (b : ℕ) → is_control_byte b ≡ false → last_of (printable (front ++ b ∷ [])) ≡ Some b
last_is front b e =
    ap last_of (printable_append front (b ∷ []) ∙ ap (λ c. printable front ++ cond (not c) (b ∷ []) []) e)
    ∙ last_of-push (printable front) b

pub no_hash_printed : (bytes : List ℕ) → list_any is_hash bytes ≡ false → list_any is_hash (printable bytes) ≡ false
no_hash_printed [] e = refl
no_hash_printed (b ∷ bytes) e = at (is_hash b) (not (is_control_byte b)) e refl (no_hash_printed bytes)
  where
    at : (c d : Bool) → (c || list_any is_hash bytes) ≡ false → is_hash b ≡ c →
        (list_any is_hash bytes ≡ false → list_any is_hash (printable bytes) ≡ false) →
        list_any is_hash (cond d (b ∷ printable bytes) (printable bytes)) ≡ false
    at true d e h later = cc
    at false true e h later = ap (λ c. c || list_any is_hash (printable bytes)) h ∙ later e
    at false false e h later = later e

not_true : (b : Bool) → ¬ (b ≡ true) → b ≡ false
not_true true h = absurd (h refl)
not_true false h = refl

no_hash : (bytes : List ℕ) → ((k : ℕ) → k < length bytes → ¬ (is_hash (slice_index bytes k) ≡ true)) →
    list_any is_hash bytes ≡ false
no_hash [] h = refl
no_hash (b ∷ bytes) h = ap (λ c. c || list_any is_hash bytes) (not_true (is_hash b) (h 0 (omega arith)))
    ∙ no_hash bytes (λ k l. h (suc k) (omega arith))

is_the_hash : (b : ℕ) → is_hash b ≡ true → b ≡ 35
is_the_hash b e = grind (arith, nat_tests)

pub record HashAt (bytes : List ℕ) (place : ℕ) : Type 0 where
  pub before : list_any is_hash (take place bytes) ≡ false
  pub whole : bytes ≡ take place bytes ++ 35 ∷ drop 1 (drop place bytes)

hash_at : (bytes : List ℕ) (place : ℕ) → ((k : ℕ) → k < place → ¬ (is_hash (slice_index bytes k) ≡ true)) →
    place < length bytes → is_hash (slice_index bytes place) ≡ true → HashAt bytes place
hash_at [] place h l e = absurd (omega arith)
hash_at (b ∷ bytes) zero h l e = record { before = refl; whole = ap (λ c. c ∷ bytes) (is_the_hash b e) }
hash_at (b ∷ bytes) (suc place) h l e =
    let rest = hash_at bytes place (λ k m. h (suc k) (omega arith)) (omega arith) e in
    record {
      before = ap (λ c. c || list_any is_hash (take place bytes)) (not_true (is_hash b) (h 0 (omega arith)))
          ∙ rest.before;
      whole = ap (λ t. b ∷ t) rest.whole;
    }

-- what a search for `#` finds
pub none_found : (bytes : List ℕ) → IsFirstByte (is_byte 35) bytes None → list_any is_hash bytes ≡ false
none_found bytes h = no_hash bytes (λ k l. h k (omega arith) l)

pub one_found : (bytes : List ℕ) (place : ℕ) → IsFirstByte (is_byte 35) bytes (Some place) → HashAt bytes place
one_found bytes place h = hash_at bytes place (λ k l. h.0.before k (omega arith) l) h.0.high h.1

-- controls are no white space, and white space begins no comment
control_no_space : (b : ℕ) → is_control_byte b ≡ true → is_plain_space (spaced b) ≡ false
control_no_space b e = grind (arith, nat_tests, e)

pub blank_after_controls : (front more : List ℕ) → list_all is_control_byte front ≡ true →
    list_any is_blank_byte more ≡ list_any is_blank_byte (front ++ more)
blank_after_controls [] more h = refl
blank_after_controls (b ∷ front) more h =
    let both = and_parts (is_control_byte b) (list_all is_control_byte front) h in
    blank_after_controls front more both.1
    ∙ sym (ap (λ c. c || list_any is_blank_byte (front ++ more)) (control_no_space b both.0))

space_no_hash : (b : ℕ) → is_plain_space (spaced b) ≡ true → ¬ (b ≡ 35)
space_no_hash b e hash = let bad = sym e ∙ ap (λ x. is_plain_space (spaced x)) hash in cc

-- bytes between words
pub kept_gap : (gap line : List ℕ) (k : Kept) → k ≡ kept line → k.has_comment ≡ false → AreBetweenWords gap →
    record k { has_space = cond (list_any is_blank_byte gap) (not (nat_eq (length k.text) 0)) k.has_space } ≡ kept
    (line ++ gap)
kept_gap [] line k seen none between = seen ∙ ap kept (sym (append-nil line))
kept_gap (b ∷ gap) line k seen none between =
    at (is_control_byte b) (is_plain_space (spaced b)) refl refl
    (and_parts (is_gap_byte b) (list_all is_gap_byte gap) between).0
    (λ seen'. kept_gap gap (line ++ b ∷ []) k seen' none rest)
    (λ seen'. kept_gap gap (line ++ b ∷ []) spaced_out seen' none rest)
  where
    rest : AreBetweenWords gap
    rest = (and_parts (is_gap_byte b) (list_all is_gap_byte gap) between).1

    has_words : Bool
    has_words = not (nat_eq (length k.text) 0)

    spaced_out : Kept
    spaced_out = record k { has_space = has_words }

    either : (c : Bool) → cond c has_words has_words ≡ has_words
    either true = refl
    either false = refl

    any : Bool
    any = list_any is_blank_byte gap

    at : (c s : Bool) → is_control_byte b ≡ c → is_plain_space (spaced b) ≡ s → (c || s) ≡ true
        → (k ≡ kept (line ++ b ∷ []) → record k { has_space = cond any has_words k.has_space } ≡ kept
        ((line ++ b ∷ []) ++ gap))
        → (spaced_out ≡ kept (line ++ b ∷ []) →
        record spaced_out { has_space = cond any has_words has_words } ≡ kept ((line ++ b ∷ []) ++ gap))
        → record k { has_space = cond (s || any) has_words k.has_space } ≡ kept (line ++ b ∷ gap)
    at true true e s or over gone = absurd (let bad = sym s ∙ control_no_space b e in cc)
    at true false e s or over gone = over (kept_control line b k seen e) ∙ ap kept (append_assoc line (b ∷ []) gap)
    at false true e s or over gone =
        ap (λ x. record k { has_space = x }) (sym (either any))
        ∙ gone (kept_space line b k seen none e (space_no_hash b s) s) ∙ ap kept (append_assoc line (b ∷ []) gap)
    at false false e s or over gone = cc or

-- after a word that no white space follows yet, a gap says whether there is any
pub kept_gap_after_word : (gap line : List ℕ) (k : Kept) → k ≡ kept line → k.has_comment ≡ false →
    AreBetweenWords gap →
    k.has_space ≡ false → nat_eq (length k.text) 0 ≡ false →
    record k { has_space = list_any is_blank_byte gap } ≡ kept (line ++ gap)
kept_gap_after_word gap line k seen none between unspaced some =
    ap (λ s. record k { has_space = s }) (by (list_any is_blank_byte gap)) ∙ kept_gap gap line k seen none between
  where
    by : (c : Bool) → c ≡ cond c (not (nat_eq (length k.text) 0)) k.has_space
    by true = sym (ap not some)
    by false = sym unspaced

spaced_after_words : (line : List ℕ) (k : Kept) → k ≡ kept line →
    k.has_space ≡ (not (nat_eq (length k.text) 0) && ends_with_space (cleaned line))
unfolding kept
spaced_after_words line k seen =
    ap (λ (x : Kept). x.has_space) seen
    ∙ ap (λ c. c && ends_with_space (cleaned line))
    (sym (has_bytes-take LINE_LIMIT (single_spaced (cleaned line)) (lit< tt))
    ∙ ap (λ (x : Kept). has_bytes x.text) (sym seen) ∙ has_bytes_is k.text)

-- where white space came after a word already, or no word came yet, a gap changes nothing
pub kept_gap_same : (gap line : List ℕ) (k : Kept) → k ≡ kept line → k.has_comment ≡ false → AreBetweenWords gap →
    (k.has_space ≡ true) ⊎ (nat_eq (length k.text) 0 ≡ true) → k ≡ kept (line ++ gap)
kept_gap_same gap line k seen none between either =
    ap (λ s. record k { has_space = s })
    (sym (by (list_any is_blank_byte gap) (nat_eq (length k.text) 0) k.has_space (spaced_after_words line k seen)
    either))
    ∙ kept_gap gap line k seen none between
  where
    by : (c empty space : Bool) → space ≡ (not empty && ends_with_space (cleaned line)) → (space ≡ true)
        ⊎ (empty ≡ true) → cond c (not empty) space ≡ space
    by false empty space is h = refl
    by true true space is h = sym is
    by true false space is (inl h) = sym h
    by true false space is (inr h) = cc h
