-- What stands inside of a value.
use Rattle.std.proofs.Common.{◌≡◌, ◌<◌, ◌≤◌, ◌+◌, ◌==◌, ◌≢◌, inl, inr, ℕ, List, [], ◌∷◌, ◌++◌, Bool, true, false, not, refl, sym, ap, subst, ◌∙◌, length, take, drop, get_or, append_assoc, length-append, eqb-true, arith}
use Rattle.std.proofs.lemmas.Bool.{and_parts, not-true, not-false, or_parts, or_cases}
use Rattle.std.proofs.lemmas.List.{take-append-drop, take_at, length-take-le}
use Rattle.std.proofs.Math.Seq.{get_or-append_seam}
use Rattle.std.specs.List.{list_all}
use Rattle.go_sgf.specs.Record.{is_inside, IsValue}
use Rattle.go_sgf.specs.inner.Reads.{HasNoEnd, is_ordinary}

pub is_inside-append : (e : Bool) (v w : List ℕ) → is_inside e v ≡ true → is_inside e (v ++ w) ≡ is_inside false w
is_inside-append true [] w h = cc
is_inside-append false [] w h = refl
is_inside-append true (c ∷ cs) w h = is_inside-append false cs w h
is_inside-append false (c ∷ cs) w h =
    let parts = and_parts (not (c == 93)) (is_inside (c == 92) cs) h in
    let later : is_inside (c == 92) (cs ++ w) ≡ is_inside false w = is_inside-append (c == 92) cs w parts.1 in
    rw (parts.0, later) refl

-- ordinary bytes
pub ordinary_inside : (v : List ℕ) → list_all is_ordinary v ≡ true → IsValue v
ordinary_inside [] h = refl
ordinary_inside (c ∷ cs) h =
    let parts = and_parts (is_ordinary c) (list_all is_ordinary cs) h in
    let tests = or_parts (c == 93) (c == 92) (not-true _ parts.0) in
    let later : is_inside false cs ≡ true = ordinary_inside cs parts.1 in
    rw (tests.0, tests.1, later) refl

pub ordinary_on : (v w : List ℕ) → IsValue v → list_all is_ordinary w ≡ true → IsValue (v ++ w)
ordinary_on v w h k = is_inside-append false v w h ∙ ordinary_inside w k

-- a place further on, over what stands there
pub split_further : (n : ℕ) (b prefix rest : List ℕ) → n ≤ length b → drop n b ≡ prefix ++ rest →
    (take (n + length prefix) b ≡ take n b ++ prefix) × (b ≡ take (n + length prefix) b ++ rest)
split_further n b prefix rest h e =
    let whole : b ≡ (take n b ++ prefix) ++ rest =
    sym (take-append-drop n b) ∙ ap (λ xs. take n b ++ xs) e ∙ sym (append_assoc (take n b) prefix rest) in
    let long : length (take n b ++ prefix) ≡ n + length prefix =
    length-append (take n b) prefix ∙ ap (λ k. k + length prefix) (length-take-le n b h) in
    let prefix_is : take (n + length prefix) b ≡ take n b ++ prefix =
    ap (take (n + length prefix)) whole ∙ take_at (take n b ++ prefix) rest (n + length prefix) long in
    (prefix_is, whole ∙ ap (λ xs. xs ++ rest) (sym prefix_is))

-- the byte after what stands there
pub byte_at : (n : ℕ) (b prefix : List ℕ) (c : ℕ) (more : List ℕ) → n ≤ length b → drop n b ≡ prefix ++ (c ∷ more) →
    (n + length prefix < length b) × (get_or b (n + length prefix) 0 ≡ c)
byte_at n b prefix c more h e =
    let split = split_further n b prefix (c ∷ more) h e in
    let long : length (take (n + length prefix) b) ≡ n + length prefix =
    ap length split.0 ∙ length-append (take n b) prefix ∙ ap (λ k. k + length prefix) (length-take-le n b h) in
    let less : n + length prefix < length b =
    omega (arith, ap length split.1, length-append (take (n + length prefix) b) (c ∷ more), long) in
    let prefix_is : List ℕ = take (n + length prefix) b in (
      less,
      ap (λ xs. get_or xs (n + length prefix) 0) split.1 ∙ ap (λ k. get_or (prefix_is ++ (c ∷ more)) k 0) (sym long)
          ∙ get_or-append_seam prefix_is c more 0,
    )

-- the byte where a search for `]` and `\` stops
pub stop_is_escape : (c : ℕ) → is_ordinary c ≡ false → c ≢ 93 → c ≡ 92
stop_is_escape c h ne = elim (or_cases (c == 93) (c == 92) (not-false _ h)) [
  | inl e ↦ absurd (ne (eqb-true c 93 e))
  | inr e ↦ eqb-true c 92 e
]

-- a value up to a `]`
pub value_up_to : (n : ℕ) (b prefix rest : List ℕ) → n ≤ length b → IsValue (take n b) →
    list_all is_ordinary prefix ≡ true →
    drop n b ≡ prefix ++ rest → IsValue (take (n + length prefix) b)
value_up_to n b prefix rest h v o e =
    let P : List ℕ → Type 0 = λ xs. IsValue xs in
    subst P (sym (split_further n b prefix rest h e).0) (ordinary_on (take n b) prefix v o)

escape_inside : (prefix : List ℕ) (x : ℕ) → list_all is_ordinary prefix ≡ true → IsValue (prefix ++ (92 ∷ x ∷ []))
escape_inside prefix x o = is_inside-append false prefix (92 ∷ x ∷ []) (ordinary_inside prefix o)

past_escape : (n : ℕ) (b prefix : List ℕ) (x : ℕ) (rest : List ℕ) → n ≤ length b → IsValue (take n b) →
    list_all is_ordinary prefix ≡ true → drop n b ≡ prefix ++ (92 ∷ x ∷ rest) →
    (n + length prefix + 2 ≤ length b) × IsValue (take (n + length prefix + 2) b)
past_escape n b prefix x rest h v o e =
    let both : List ℕ = prefix ++ (92 ∷ x ∷ []) in
    let split = split_further n b both rest h (e ∙ sym (append_assoc prefix (92 ∷ x ∷ []) rest)) in
    let long : n + length both ≡ n + length prefix + 2 = omega (arith, length-append prefix (92 ∷ x ∷ [])) in
    let within : n + length prefix + 2 ≤ length b =
    omega (
      arith,
      ap length split.1,
      length-append (take (n + length both) b) rest,
      length-append prefix (92 ∷ x ∷ []),
      length-append (take n b) both,
      ap length split.0,
      length-take-le n b h,
    ) in
    let inside : IsValue (take (n + length both) b) =
    rw split.0 (is_inside-append false (take n b) both v ∙ escape_inside prefix x o) in
    let P : ℕ → Type 0 = λ k. IsValue (take k b) in
    (within, subst P long inside)

-- a value past a `\` and the byte after it
pub value_past_escape : (n : ℕ) (b prefix more : List ℕ) → n ≤ length b → IsValue (take n b) →
    list_all is_ordinary prefix ≡ true → drop n b ≡ prefix ++ (92 ∷ more) → (length more == 0) ≡ false →
    (n + length prefix + 2 ≤ length b) × IsValue (take (n + length prefix + 2) b)
value_past_escape n b prefix [] h v o e some = cc
value_past_escape n b prefix (x ∷ rest) h v o e some = past_escape n b prefix x rest h v o e

-- ---- no end

pub no_end : (b : List ℕ) → IsValue b → HasNoEnd b
no_end b h = λ v more i e.
    let inside : is_inside false (v ++ (93 ∷ more)) ≡ true = subst (λ (xs : List ℕ). is_inside false xs ≡ true) e h in
    let at : is_inside false (93 ∷ more) ≡ true = sym (is_inside-append false v (93 ∷ more) i) ∙ inside in
    cc

pub no_end_escape : (b : List ℕ) → IsValue b → HasNoEnd (b ++ (92 ∷ []))
no_end_escape b h = λ v more i e.
    let inside : IsValue (b ++ (92 ∷ 120 ∷ [])) = is_inside-append false b (92 ∷ 120 ∷ []) h in
    no_end (b ++ (92 ∷ 120 ∷ [])) inside v (more ++ (120 ∷ [])) i
    (sym (append_assoc b (92 ∷ []) (120 ∷ [])) ∙ ap (λ (xs : List ℕ). xs ++ (120 ∷ [])) e
    ∙ append_assoc v (93 ∷ more) (120 ∷ []))
