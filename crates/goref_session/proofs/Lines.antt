-- Texts read byte by byte: lines, and texts in which no line is empty.
use Rattle.std.proofs.Common.{arith, ◌≡◌, ◌≢◌, ◌∙◌, ◌≤◌, ℕ, zero, suc, Bool, true, false, List, [], ◌∷◌, ◌++◌, ap, cond, get_or, map, refl}
use Rattle.std.specs.Prelude.{◌==◌, if◌then◌else◌, nat_le, filter}
use Rattle.std.specs.List.{AllByRecursion, flat_map, join_with_byte, list_all}
use Rattle.std.proofs.lemmas.Bool.{and_parts, le-leb, leb-true}

-- where a reader of a text stands: within a line, after a line end, or past an empty line or another control byte
pub data LineState : Type 0 where
  within : LineState
  ended : LineState
  broken : LineState

abbrev pub by_control : Bool → LineState → LineState
by_control true within = ended
by_control _ _ = broken

abbrev pub by_plain : LineState → LineState
by_plain broken = broken
by_plain _ = within

abbrev pub step : LineState → ℕ → LineState
step s b = if nat_le 32 b then by_plain s else by_control (b == 10) s

-- where the text leaves a reader
abbrev pub after : LineState → List ℕ → LineState
after s [] = s
after s (b ∷ bs) = after (step s b) bs

after_append : (s : LineState) (xs ys : List ℕ) → after s (xs ++ ys) ≡ after (after s xs) ys
after_append s [] ys = refl
after_append s (x ∷ xs) ys = after_append (step s x) xs ys

-- ---- lines

-- no line end, and no other control byte
abbrev pub IsLine : List ℕ → Type 0
IsLine xs = AllByRecursion (λ b. 32 ≤ b) xs

pub line_by_test : (xs : List ℕ) → list_all (nat_le 32) xs ≡ true → IsLine xs
line_by_test [] e = tt
line_by_test (x ∷ xs) e =
    let parts = and_parts (nat_le 32 x) (list_all (nat_le 32) xs) e in
    (leb-true 32 x parts.0, line_by_test xs parts.1)

pub all_append : {X : Type 0} (P : X → Type 0) (xs ys : List X) → AllByRecursion P xs → AllByRecursion P ys →
    AllByRecursion P (xs ++ ys)
all_append P [] ys h k = k
all_append P (x ∷ xs) ys h k = (h.0, all_append P xs ys h.1 k)

pub line_append : (xs ys : List ℕ) → IsLine xs → IsLine ys → IsLine (xs ++ ys)
line_append xs ys h k = all_append (λ (b : ℕ). 32 ≤ b) xs ys h k

pub line_at : (xs : List ℕ) (i d : ℕ) → IsLine xs → 32 ≤ d → 32 ≤ get_or xs i d
line_at [] i d h k = k
line_at (x ∷ xs) zero d h k = h.0
line_at (x ∷ xs) (suc i) d h k = line_at xs i d h.1 k

pub line_if : (b : Bool) (xs ys : List ℕ) → IsLine xs → IsLine ys → IsLine (if b then xs else ys)
line_if true xs ys h k = h
line_if false xs ys h k = k

kept_line : (b : Bool) (x : ℕ) (xs : List ℕ) → 32 ≤ x → IsLine xs → IsLine (cond b (x ∷ xs) xs)
kept_line true x xs h k = (h, k)
kept_line false x xs h k = k

pub line_filter : (test : ℕ → Bool) (xs : List ℕ) → IsLine xs → IsLine (filter test xs)
line_filter test [] h = tt
line_filter test (x ∷ xs) h = kept_line (test x) x (filter test xs) h.0 (line_filter test xs h.1)

module _ {X : Type 0} (f : X → List ℕ) (line : (x : X) → IsLine (f x)) where
  pub line_flat_map : (xs : List X) → IsLine (flat_map f xs)
  line_flat_map [] = tt
  line_flat_map (x ∷ xs) = line_append (f x) (flat_map f xs) (line x) (line_flat_map xs)

  pub line_joined : (xs : List X) → IsLine (join_with_byte 32 (map f xs))
  line_joined [] = tt
  line_joined (x ∷ []) = line x
  line_joined (x ∷ y ∷ xs) = line_append (f x) (32 ∷ join_with_byte 32 (map f (y ∷ xs))) (line x)
      (omega arith, line_joined (y ∷ xs))

-- ---- texts with which a line goes on, and others may follow it

abbrev pub GoesOn : List ℕ → Type 0
GoesOn xs = after within xs ≡ within

pub append_goes_on : (xs ys : List ℕ) → GoesOn xs → GoesOn ys → GoesOn (xs ++ ys)
append_goes_on xs ys h k = after_append within xs ys ∙ ap (λ s. after s ys) h ∙ k

pub line_goes_on : (xs : List ℕ) → IsLine xs → GoesOn xs
line_goes_on [] h = refl
line_goes_on (x ∷ xs) h = rw (le-leb 32 x h.0) (line_goes_on xs h.1)

pub flat_map_goes_on : {X : Type 0} (f : X → List ℕ) → ((x : X) → GoesOn (f x)) → (xs : List X) → GoesOn (flat_map f xs)
flat_map_goes_on f h [] = refl
flat_map_goes_on f h (x ∷ xs) = append_goes_on (f x) (flat_map f xs) (h x) (flat_map_goes_on f h xs)

-- a line that isn't empty
pub record IsFull (xs : List ℕ) : Type 0 where
  pub line : IsLine xs
  pub some : xs ≢ []

line_from : (s : LineState) → by_plain s ≡ within → (xs : List ℕ) → IsFull xs → after s xs ≡ within
line_from s e [] full = absurd (full.some refl)
line_from s e (x ∷ xs) full = rw (le-leb 32 x full.line.0) (ap (λ t. after t xs) e ∙ line_goes_on xs full.line.1)

-- a full line after a line end
pub line_after : (xs : List ℕ) → IsFull xs → GoesOn (10 ∷ xs)
line_after xs full = line_from ended refl xs full

module _ {X : Type 0} (f : X → List ℕ) (full : (x : X) → IsFull (f x)) where
  lines_from : (s : LineState) → by_plain s ≡ within → (x : X) (xs : List X) →
      after s (join_with_byte 10 (map f (x ∷ xs))) ≡ within
  lines_from s e x [] = line_from s e (f x) (full x)
  lines_from s e x (y ∷ xs) =
      let rest = 10 ∷ join_with_byte 10 (map f (y ∷ xs)) in
      after_append s (f x) rest ∙ ap (λ t. after t rest) (line_from s e (f x) (full x)) ∙ lines_from ended refl y xs

  -- full lines, by line ends
  pub lines_go_on : (xs : List X) → GoesOn (join_with_byte 10 (map f xs))
  lines_go_on [] = refl
  lines_go_on (x ∷ xs) = lines_from within refl x xs

pub full_append : (xs ys : List ℕ) → IsFull xs → IsLine ys → IsFull (xs ++ ys)
full_append [] ys h k = absurd (h.some refl)
full_append (x ∷ xs) ys h k = record { line = line_append (x ∷ xs) ys h.line k; some = λ e. cc e }

pub append_full : (xs ys : List ℕ) → IsLine xs → IsFull ys → IsFull (xs ++ ys)
append_full [] ys h k = k
append_full (x ∷ xs) ys h k = record { line = line_append (x ∷ xs) ys h k.line; some = λ e. cc e }
