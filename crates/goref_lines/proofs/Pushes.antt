-- What a line keeps as one more byte comes to its end.
use Rattle.std.proofs.Common.{◌≡◌, ◌∙◌, ℕ, zero, suc, ◌+◌, ◌<◌, ◌≤◌, Bool, true, false, cond, not, if◌then◌else◌, ◌&&◌, ◌||◌, List, [], ◌∷◌, ◌++◌, refl, sym, ap, take, length, nat_eq, nat_lt, map, arith, lit<, subst, length-append}
use Rattle.std.specs.List.{list_any}
use Rattle.std.proofs.Math.Seq.{take-append-add}
use Rattle.std.proofs.lemmas.List.{append-nil, map-append, take_all, length-take, take-append-le}
use Rattle.std.proofs.lemmas.List.Elements.{filter-append}
use Rattle.std.proofs.lemmas.Bool.Decides.{nat_tests}
use Rattle.goref_lines.specs.declared.line.TheConstants.{LINE_LIMIT}
use Rattle.goref_lines.specs.Kept.{is_control_byte, is_hash, spaced, printable, before_comment, cleaned, ends_with_space, Kept, kept}
use Rattle.goref_lines.specs.Words.{is_plain_space, has_bytes, single_spaced}
use Rattle.goref_lines.specs.inner.Prefixes.{KeepsPrefix, with_space}
use Rattle.goref_lines.proofs.Joins.{has_trailing_space, joined_push_space, joined_push_byte, has_trailing_space_push_space, has_trailing_space_push_byte}

-- the control test, one byte
printable_one : (b : ℕ) (c : Bool) → is_control_byte b ≡ c → printable (b ∷ []) ≡ (if c then [] else b ∷ [])
printable_one b true e = ap (λ c. cond (not c) (b ∷ []) []) e
printable_one b false e = ap (λ c. cond (not c) (b ∷ []) []) e

printable_push : (line : List ℕ) (b : ℕ) → printable (line ++ b ∷ []) ≡ printable line ++ printable (b ∷ [])
printable_push line b = filter-append (λ b. not (is_control_byte b)) line (b ∷ [])

printable_control : (line : List ℕ) (b : ℕ) → is_control_byte b ≡ true → printable (line ++ b ∷ []) ≡ printable line
printable_control line b e = printable_push line b ∙ ap (λ xs. printable line ++ xs) (printable_one b true e)
    ∙ append-nil (printable line)

printable_other : (line : List ℕ) (b : ℕ) → is_control_byte b ≡ false → printable (line ++ b ∷ []) ≡ printable line
    ++ b ∷ []
printable_other line b e = printable_push line b ∙ ap (λ xs. printable line ++ xs) (printable_one b false e)

-- what is kept of the bytes that are no controls
abbrev kept_of : List ℕ → Kept
kept_of bytes =
    let text : List ℕ = map spaced (before_comment bytes) in
    record {
      text = take LINE_LIMIT (single_spaced text);
      is_long = nat_lt LINE_LIMIT (length (single_spaced text));
      has_comment = list_any is_hash bytes;
      has_space = has_bytes (single_spaced text) && ends_with_space text;
    }

kept_is : (line : List ℕ) → kept line ≡ kept_of (printable line)
unfolding kept
kept_is line = refl

-- a control
pub push_control : (line : List ℕ) (b : ℕ) → is_control_byte b ≡ true → kept line ≡ kept (line ++ b ∷ [])
push_control line b e = kept_is line ∙ sym (ap kept_of (printable_control line b e)) ∙ sym (kept_is (line ++ b ∷ []))

comment_hides : (c : Bool) (b : ℕ) (bs bs' : List ℕ) →
    (list_any is_hash bs ≡ true → before_comment bs' ≡ before_comment bs) → (c || list_any is_hash bs) ≡ true →
    (if c then [] else b ∷ before_comment bs') ≡ (if c then [] else b ∷ before_comment bs)
comment_hides true b bs bs' h e = refl
comment_hides false b bs bs' h e = ap (λ xs. b ∷ xs) (h e)

before_comment_any : (bs more : List ℕ) → list_any is_hash bs ≡ true → before_comment (bs ++ more) ≡ before_comment bs
before_comment_any [] more e = cc
before_comment_any (b ∷ bs) more e = comment_hides (is_hash b) b bs (bs ++ more) (before_comment_any bs more) e

no_comment_here : (c : Bool) (b : ℕ) (bs xs : List ℕ) → (list_any is_hash bs ≡ false → xs ≡ bs) →
    (c || list_any is_hash bs) ≡ false →
    (if c then [] else b ∷ xs) ≡ b ∷ bs
no_comment_here true b bs xs h e = cc
no_comment_here false b bs xs h e = ap (λ ys. b ∷ ys) (h e)

pub before_comment_none : (bs : List ℕ) → list_any is_hash bs ≡ false → before_comment bs ≡ bs
before_comment_none [] e = refl
before_comment_none (b ∷ bs) e = no_comment_here (is_hash b) b bs (before_comment bs) (before_comment_none bs) e

any_push : (bs : List ℕ) (b : ℕ) → list_any is_hash (bs ++ b ∷ []) ≡ (list_any is_hash bs || is_hash b)
any_push [] b = or_false (is_hash b)
  where
    or_false : (c : Bool) → (c || false) ≡ c
    or_false true = refl
    or_false false = refl
any_push (c ∷ bs) b = ap (λ d. is_hash c || d) (any_push bs b) ∙ or_or (is_hash c) (list_any is_hash bs) (is_hash b)
  where
    or_or : (x y z : Bool) → (x || (y || z)) ≡ ((x || y) || z)
    or_or true y z = refl
    or_or false y z = refl

kept_of_comment : (bs : List ℕ) (b : ℕ) → list_any is_hash bs ≡ true → kept_of (bs ++ b ∷ []) ≡ kept_of bs
kept_of_comment bs b e =
    let f : List ℕ → Bool → Kept = λ before any. record {
      text = take LINE_LIMIT (single_spaced (map spaced before));
      is_long = nat_lt LINE_LIMIT (length (single_spaced (map spaced before)));
      has_comment = any;
      has_space = has_bytes (single_spaced (map spaced before)) && ends_with_space (map spaced before);
    } in
    ap (λ before. f before (list_any is_hash (bs ++ b ∷ []))) (before_comment_any bs (b ∷ []) e)
    ∙ ap (f (before_comment bs)) (any_push bs b ∙ ap (λ c. c || is_hash b) e ∙ sym e)

push_comment_at : (line : List ℕ) (b : ℕ) (c : Bool) → is_control_byte b ≡ c →
    list_any is_hash (printable line) ≡ true → kept line ≡ kept (line ++ b ∷ [])
push_comment_at line b true e any = push_control line b e
push_comment_at line b false e any =
    kept_is line ∙ sym (kept_of_comment (printable line) b any) ∙ sym (ap kept_of (printable_other line b e))
    ∙ sym (kept_is (line ++ b ∷ []))

pub has_comment_is : (line : List ℕ) → (kept line).has_comment ≡ list_any is_hash (printable line)
unfolding kept
has_comment_is line = refl

-- a byte of the comment
pub push_comment : (line : List ℕ) (b : ℕ) → (kept line).has_comment ≡ true → kept line ≡ kept (line ++ b ∷ [])
push_comment line b e = push_comment_at line b (is_control_byte b) refl (sym (has_comment_is line) ∙ e)

-- the cleaned line, where no comment has begun
cleaned_other : (line : List ℕ) (b : ℕ) → is_control_byte b ≡ false → list_any is_hash (printable line) ≡ false →
    is_hash b ≡ false →
    cleaned (line ++ b ∷ []) ≡ cleaned line ++ spaced b ∷ []
cleaned_other line b control any hash =
    let all = ap before_comment (printable_other line b control)
    ∙ before_comment_none (printable line ++ b ∷ []) (any_push (printable line) b ∙ ap (λ c. c || is_hash b) any ∙ hash)
    ∙ ap (λ bs. bs ++ b ∷ []) (sym (before_comment_none (printable line) any)) in
    ap (map spaced) all ∙ map-append spaced (before_comment (printable line)) (b ∷ [])

hash_no_control : (b : ℕ) → is_hash b ≡ true → is_control_byte b ≡ false
hash_no_control b e = grind (arith, nat_tests)

before_hash_at : (c : Bool) (x : ℕ) (bs xs : List ℕ) → (list_any is_hash bs ≡ false → xs ≡ before_comment bs) →
    (c || list_any is_hash bs) ≡ false →
    (if c then [] else x ∷ xs) ≡ (if c then [] else x ∷ before_comment bs)
before_hash_at true x bs xs h e = refl
before_hash_at false x bs xs h e = ap (λ ys. x ∷ ys) (h e)

before_hash : (bs : List ℕ) (b : ℕ) → is_hash b ≡ true → list_any is_hash bs ≡ false →
    before_comment (bs ++ b ∷ []) ≡ before_comment bs
before_hash [] b hash any = ap (λ c. if c then [] else b ∷ []) hash
before_hash (x ∷ bs) b hash any =
    before_hash_at (is_hash x) x bs (before_comment (bs ++ b ∷ [])) (before_hash bs b hash) any

kept_of_hash : (bs : List ℕ) (b : ℕ) → is_hash b ≡ true → list_any is_hash bs ≡ false →
    record (kept_of bs) { has_comment = true } ≡ kept_of (bs ++ b ∷ [])
kept_of_hash bs b hash any =
    let f : List ℕ → Bool → Kept = λ before found. record {
      text = take LINE_LIMIT (single_spaced (map spaced before));
      is_long = nat_lt LINE_LIMIT (length (single_spaced (map spaced before)));
      has_comment = found;
      has_space = has_bytes (single_spaced (map spaced before)) && ends_with_space (map spaced before);
    } in
    ap (f (before_comment bs)) (sym (any_push bs b ∙ ap (λ c. c || is_hash b) any ∙ hash))
    ∙ ap (λ before. f before (list_any is_hash (bs ++ b ∷ []))) (sym (before_hash bs b hash any))

-- the first `#`
pub push_hash : (line : List ℕ) (b : ℕ) → (kept line).has_comment ≡ false → is_hash b ≡ true →
    record (kept line) { has_comment = true } ≡ kept (line ++ b ∷ [])
push_hash line b none hash =
    let commented : Kept → Kept = λ k. record k { has_comment = true } in
    ap commented (kept_is line) ∙ kept_of_hash (printable line) b hash (sym (has_comment_is line) ∙ none)
    ∙ sym (ap kept_of (printable_other line b (hash_no_control b hash))) ∙ sym (kept_is (line ++ b ∷ []))

-- a line without a comment, by its cleaned bytes
abbrev pub plain : List ℕ → Kept
plain text = record {
  text = take LINE_LIMIT (single_spaced text);
  is_long = nat_lt LINE_LIMIT (length (single_spaced text));
  has_comment = false;
  has_space = has_trailing_space text;
}

pub plain_is : (line : List ℕ) → list_any is_hash (printable line) ≡ false → kept line ≡ plain (cleaned line)
unfolding kept
plain_is line none =
    let f : Bool → Kept = λ found. record {
      text = take LINE_LIMIT (single_spaced (cleaned line));
      is_long = nat_lt LINE_LIMIT (length (single_spaced (cleaned line)));
      has_comment = found;
      has_space = has_bytes (single_spaced (cleaned line)) && ends_with_space (cleaned line);
    } in
    ap f none

pub plain_before : (line : List ℕ) → (kept line).has_comment ≡ false → kept line ≡ plain (cleaned line)
plain_before line none = plain_is line (sym (has_comment_is line) ∙ none)

pub plain_after : (line : List ℕ) (b : ℕ) → (kept line).has_comment ≡ false → is_control_byte b ≡ false →
    is_hash b ≡ false → plain (cleaned line ++ spaced b ∷ []) ≡ kept (line ++ b ∷ [])
plain_after line b none control hash =
    let any = sym (has_comment_is line) ∙ none in
    ap plain (sym (cleaned_other line b control any hash))
    ∙ sym (plain_is (line ++ b ∷ [])
    (ap (list_any is_hash) (printable_other line b control) ∙ any_push (printable line) b
    ∙ ap (λ c. c || is_hash b) any ∙ hash))

pub has_bytes-take : (n : ℕ) (text : List ℕ) → 0 < n → has_bytes (take n text) ≡ has_bytes text
has_bytes-take zero text h = absurd (omega arith)
has_bytes-take (suc n) [] h = refl
has_bytes-take (suc n) (b ∷ text) h = refl

plain_space : (text : List ℕ) (b : ℕ) → is_plain_space b ≡ true →
    record (plain text) { has_space = has_bytes (plain text).text } ≡ plain (text ++ b ∷ [])
plain_space text b e =
    let f : List ℕ → Bool → Kept = λ whole space.
    record {
      text = take LINE_LIMIT whole;
      is_long = nat_lt LINE_LIMIT (length whole);
      has_comment = false;
      has_space = space;
    } in
    ap (f (single_spaced text)) (has_bytes-take LINE_LIMIT (single_spaced text) (lit< tt)
    ∙ sym (has_trailing_space_push_space text b e))
    ∙ ap (λ whole. f whole (has_trailing_space (text ++ b ∷ []))) (sym (joined_push_space text b e))

-- a space, or a tab
pub push_space : (line : List ℕ) (b : ℕ) → (kept line).has_comment ≡ false → is_control_byte b ≡ false →
    is_hash b ≡ false → is_plain_space (spaced b) ≡ true →
    record (kept line) { has_space = has_bytes (kept line).text } ≡ kept (line ++ b ∷ [])
push_space line b none control hash space =
    let f : Kept → Kept = λ k. record k { has_space = has_bytes k.text } in
    ap f (plain_before line none) ∙ plain_space (cleaned line) (spaced b) space ∙ plain_after line b none control hash

pub spaced_other : (b : ℕ) → is_plain_space (spaced b) ≡ false → spaced b ≡ b
spaced_other b e = other (nat_eq b 9) e
  where
    other : (c : Bool) → is_plain_space (if c then 32 else b) ≡ false → (if c then 32 else b) ≡ b
    other true e = cc
    other false e = refl

-- any other byte
pub push_byte : (line : List ℕ) (b : ℕ) (text : List ℕ) (is_long : Bool) → (kept line).has_comment ≡ false →
    is_control_byte b ≡ false → is_hash b ≡ false → is_plain_space (spaced b) ≡ false →
    ((whole : List ℕ) → KeepsPrefix (kept line).text (kept line).is_long whole →
    KeepsPrefix text is_long (whole ++ with_space (kept line).has_space (b ∷ []))) →
    record { text = text; is_long = is_long; has_comment = false; has_space = false } ≡ kept (line ++ b ∷ [])
push_byte line b text is_long none control hash space grows =
    let before = plain_before line none in
    let same = spaced_other b space in
    let start : KeepsPrefix (kept line).text (kept line).is_long (single_spaced (cleaned line)) =
    record { prefix = ap (λ k. k.text) before; longer = ap (λ k. k.is_long) before } in
    let grown = grows (single_spaced (cleaned line)) start in
    let whole = ap (λ s. single_spaced (cleaned line) ++ with_space s (b ∷ [])) (ap (λ k. k.has_space) before)
    ∙ sym (ap (λ c. single_spaced (cleaned line ++ c ∷ [])) same
    ∙ joined_push_byte (cleaned line) b (ap is_plain_space (sym same) ∙ space)) in
    let f : List ℕ → Bool → Bool → Kept = λ text is_long space.
    record { text = text; is_long = is_long; has_comment = false; has_space = space } in
    ap (λ t. f t is_long false) (grown.prefix ∙ ap (take LINE_LIMIT) whole)
    ∙ ap (λ l. f (take LINE_LIMIT (single_spaced (cleaned line ++ spaced b ∷ []))) l false)
    (grown.longer ∙ ap (λ w. nat_lt LINE_LIMIT (length w)) whole)
    ∙ ap (f (take LINE_LIMIT (single_spaced (cleaned line ++ spaced b ∷ [])))
    (nat_lt LINE_LIMIT (length (single_spaced (cleaned line ++ spaced b ∷ [])))))
    (sym (has_trailing_space_push_byte (cleaned line) (spaced b) space))
    ∙ plain_after line b none control hash

pub has_bytes_is : (text : List ℕ) → has_bytes text ≡ not (nat_eq (length text) 0)
has_bytes_is [] = refl
has_bytes_is (b ∷ text) = grind (arith, nat_tests)

not_hash : (b : ℕ) → ¬ (b ≡ 35) → is_hash b ≡ false
not_hash b h = grind (arith, nat_tests)

-- the same of a value k that is what the line keeps so far
module _ (line : List ℕ) (b : ℕ) (k : Kept) (seen : k ≡ kept line) where
  pub kept_comment : k.has_comment ≡ true → k ≡ kept (line ++ b ∷ [])
  kept_comment e = seen ∙ push_comment line b (sym (ap (λ (x : Kept). x.has_comment) seen) ∙ e)

  pub kept_control : is_control_byte b ≡ true → k ≡ kept (line ++ b ∷ [])
  kept_control e = seen ∙ push_control line b e

  pub kept_hash : k.has_comment ≡ false → b ≡ 35 → record k { has_comment = true } ≡ kept (line ++ b ∷ [])
  kept_hash none hash =
      ap (λ (x : Kept). record x { has_comment = true }) seen
      ∙ push_hash line b (sym (ap (λ (x : Kept). x.has_comment) seen) ∙ none) (ap is_hash hash)

  pub kept_space : k.has_comment ≡ false → is_control_byte b ≡ false → ¬ (b ≡ 35) → is_plain_space (spaced b) ≡ true →
      record k { has_space = not (nat_eq (length k.text) 0) } ≡ kept (line ++ b ∷ [])
  kept_space none control hash space =
      ap (λ (x : Kept). record x { has_space = not (nat_eq (length x.text) 0) }) seen
      ∙ ap (λ s. record (kept line) { has_space = s }) (sym (has_bytes_is (kept line).text))
      ∙ push_space line b (sym (ap (λ (x : Kept). x.has_comment) seen) ∙ none) control (not_hash b hash) space

  pub kept_byte : (text : List ℕ) (is_long : Bool) → k.has_comment ≡ false → is_control_byte b ≡ false → ¬ (b ≡ 35) →
      is_plain_space (spaced b) ≡ false →
      ((whole : List ℕ) → KeepsPrefix k.text k.is_long whole →
      KeepsPrefix text is_long (whole ++ with_space k.has_space (b ∷ []))) →
      record k { text = text; is_long = is_long; has_space = false } ≡ kept (line ++ b ∷ [])
  kept_byte text is_long none control hash space grows =
      let Grows : Kept → Type 0 = λ (x : Kept). (whole : List ℕ) → KeepsPrefix x.text x.is_long whole →
      KeepsPrefix text is_long (whole ++ with_space x.has_space (b ∷ [])) in
      let pushed : Bool → Kept = λ c. record { text = text; is_long = is_long; has_comment = c; has_space = false } in
      ap pushed none ∙ push_byte line b text is_long (sym (ap (λ (x : Kept). x.has_comment) seen) ∙ none) control
      (not_hash b hash) space (subst Grows seen grows)

-- the front of a text that more bytes come to
module _ (limit : ℕ) (text whole : List ℕ) (front : text ≡ take limit whole) where
  prefix_short : length text < limit → text ≡ whole
  prefix_short room = front ∙ take_all limit whole (omega (arith, length-take limit whole, ap length front))

  pub prefix_room : (bytes : List ℕ) → length text + length bytes ≤ limit → text ++ bytes ≡ take limit (whole ++ bytes)
  prefix_room [] room = append-nil text ∙ front ∙ sym (ap (take limit) (append-nil whole))
  prefix_room (b ∷ bytes) room =
      let same = prefix_short (omega arith) in
      ap (λ t. t ++ b ∷ bytes) same
      ∙ sym (take_all limit (whole ++ b ∷ bytes) (simp length-append (omega (arith, room, ap length same))))

  pub longer_room : (bytes : List ℕ) (is_long : Bool) → length text + length bytes ≤ limit →
      is_long ≡ nat_lt limit (length whole) → is_long ≡ nat_lt limit (length (whole ++ bytes))
  longer_room [] is_long room longer = longer ∙ sym (ap (λ t. nat_lt limit (length t)) (append-nil whole))
  longer_room (b ∷ bytes) is_long room longer =
      let same = ap length (prefix_short (omega arith)) in
      let short : length whole ≤ limit = omega (arith, same, room) in
      let l : length (whole ++ b ∷ bytes) ≤ limit = simp length-append (omega (arith, same, room)) in
      grind (arith, nat_tests)

  pub prefix_cut : (bytes : List ℕ) (room : ℕ) → room + length text ≡ limit → room < length bytes → text
      ++ take room bytes ≡ take limit (whole ++ bytes)
  prefix_cut bytes zero full more = append-nil text ∙ front
      ∙ sym (take-append-le limit whole bytes (omega (arith, length-take limit whole, ap length front)))
  prefix_cut bytes (suc room) full more =
      let same = prefix_short (omega arith) in
      let count : limit ≡ length whole + suc room = omega (arith, ap length same) in
      ap (λ t. t ++ take (suc room) bytes) same ∙ sym (take-append-add whole bytes (suc room))
      ∙ ap (λ n. take n (whole ++ bytes)) (sym count)

  pub longer_cut : (bytes : List ℕ) (room : ℕ) → room + length text ≡ limit → room < length bytes →
      true ≡ nat_lt limit (length (whole ++ bytes))
  longer_cut bytes room full more =
      let l : limit < length (whole ++ bytes) =
      simp length-append (omega (arith, length-take limit whole, ap length front)) in
      grind (arith, nat_tests)
