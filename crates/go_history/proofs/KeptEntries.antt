-- The entries that are meant by what is kept of them: one of them, one more, one fewer, and one with another number.
use Rattle.std.proofs.Common.{◌≡◌, ◌<◌, ◌≤◌, ◌+◌, ◌*◌, ◌∙◌, ℕ, zero, suc, List, [], ◌∷◌, ◌++◌, arith, length, slice_index_or, slice_set, take, drop, ap, ap₂, refl, sym, mul-add, mul-one, mul-suc, mul-zero}
use Rattle.std.proofs.Math.Nat.{mul-le-mul_left}
use Rattle.std.proofs.lemmas.List.{drop-append-le, drop-drop, drop-take, length-drop, nil_from_length, take-append-le, take_all}
use Rattle.go_history.specs.declared.entries.Entry.{Entry}
use Rattle.go_history.specs.declared.entries.Rest.{Rest}
use Rattle.go_history.specs.inner.Entries.{EntriesValue, entries_of, entry_of}

pub count : (w : ℕ) (prefixes : List ℕ) (rests : List Rest) → length (entries_of w prefixes rests) ≡ length rests
count w prefixes [] = refl
count w prefixes (rest ∷ rests) = ap suc (count w (drop w prefixes) rests)

-- the bytes of an entry's pack
abbrev pub prefix_at : ℕ → List ℕ → ℕ → List ℕ
prefix_at w prefixes i = take w (drop (w * i) prefixes)

next_prefix : (w : ℕ) (prefixes : List ℕ) (i : ℕ) → prefix_at w (drop w prefixes) i ≡ prefix_at w prefixes (suc i)
next_prefix w prefixes i = ap (take w)
    (drop-drop (w * i) w prefixes ∙ ap (λ n. drop n prefixes)
    (let is : w + w * i ≡ w * suc i = omega (arith, mul-suc w i) in is))

first_prefix : (w : ℕ) (prefixes : List ℕ) → take w prefixes ≡ prefix_at w prefixes zero
first_prefix w prefixes = ap (λ n. take w (drop n prefixes)) (sym (mul-zero w))

pub at : (w : ℕ) (prefixes : List ℕ) (rests : List Rest) (i : ℕ) (d : Entry) (r : Rest) → i < length rests
    → slice_index_or (entries_of w prefixes rests) i d ≡ entry_of (prefix_at w prefixes i) (slice_index_or rests i r)
at w prefixes [] i d r lt = absurd (omega (arith, lt))
at w prefixes (rest ∷ rests) zero d r lt = ap (λ prefix. entry_of prefix rest) (first_prefix w prefixes)
at w prefixes (rest ∷ rests) (suc i) d r lt =
    at w (drop w prefixes) rests i d r (omega (arith, lt))
    ∙ ap (λ prefix. entry_of prefix (slice_index_or rests i r)) (next_prefix w prefixes i)

pub pushed : (w : ℕ) (prefixes prefix : List ℕ) (rests : List Rest) (rest : Rest) → length prefixes ≡ w * length rests →
    length prefix ≡ w
    → entries_of w (prefixes ++ prefix) (rests ++ rest ∷ []) ≡ entries_of w prefixes rests ++ entry_of prefix rest ∷ []
pushed w prefixes prefix [] rest long same =
    let none : prefixes ≡ [] = nil_from_length prefixes (long ∙ mul-zero w) in
    ap (λ bytes. entry_of bytes rest ∷ [])
    (ap (λ (xs : List ℕ). take w (xs ++ prefix)) none ∙ take_all w prefix (omega (arith, same)))
pushed w prefixes prefix (first ∷ rests) rest long same =
    let all : length prefixes ≡ w + w * length rests = omega (arith, long, mul-suc w (length rests)) in
    let left : length (drop w prefixes) ≡ w * length rests = omega (arith, all, length-drop w prefixes) in
    ap₂ (λ (bytes : List ℕ) (es : List Entry). entry_of bytes first ∷ es)
    (take-append-le w prefixes prefix (omega (arith, all)))
    (ap (λ bytes. entries_of w bytes (rests ++ rest ∷ [])) (drop-append-le w prefixes prefix (omega (arith, all)))
    ∙ pushed w (drop w prefixes) prefix rests rest left same)

take_prefix : (w n : ℕ) (prefixes : List ℕ) → take w (take (w + n) prefixes) ≡ take w prefixes
take_prefix zero n prefixes = refl
take_prefix (suc w) n [] = ap (λ k. take (suc w) (take k (let none : List ℕ = [] in none)))
    (let is : suc w + n ≡ suc (w + n) = omega arith in is)
take_prefix (suc w) n (x ∷ prefixes) =
    ap (λ k. take (suc w) (take k (x ∷ prefixes))) (let is : suc w + n ≡ suc (w + n) = omega arith in is)
    ∙ ap (λ (bytes : List ℕ). x ∷ bytes) (take_prefix w n prefixes)

-- the bytes of an entry's pack lie within all of them
pub within : (w i n long : ℕ) → i < n → long ≡ w * n → w * i + w ≤ long
within w i n long lt all =
    let most : w * (i + 1) ≤ w * n = mul-le-mul_left w (omega (arith, lt)) in
    let more : w * (i + 1) ≡ w * i + w = mul-add w i 1 ∙ ap (λ k. w * i + k) (mul-one w) in
    omega (arith, most, more, all)

pub popped : (w : ℕ) (prefixes : List ℕ) (rests : List Rest) (n : ℕ) →
    entries_of w (take (w * n) prefixes) (take n rests) ≡ take n (entries_of w prefixes rests)
popped w prefixes rests zero = refl
popped w prefixes [] (suc n) = refl
popped w prefixes (rest ∷ rests) (suc n) =
    let both : take (w * suc n) prefixes ≡ take (w + w * n) prefixes =
    ap (λ k. take k prefixes) (let is : w * suc n ≡ w + w * n = omega (arith, mul-suc w n) in is) in
    ap₂ (λ (bytes : List ℕ) (es : List Entry). entry_of bytes rest ∷ es)
    (ap (take w) both ∙ take_prefix w (w * n) prefixes)
    (ap (λ bytes. entries_of w bytes (take n rests)) (ap (drop w) both ∙ drop-take w (w * n) prefixes)
    ∙ popped w (drop w prefixes) rests n)

pub written : (w : ℕ) (prefixes : List ℕ) (rests : List Rest) (i : ℕ) (rest : Rest) →
    entries_of w prefixes (slice_set rests i rest) ≡ slice_set (entries_of w prefixes rests) i
    (entry_of (prefix_at w prefixes i) rest)
written w prefixes [] i rest = refl
written w prefixes (first ∷ rests) zero rest =
    ap (λ prefix. entry_of prefix rest ∷ entries_of w (drop w prefixes) rests) (first_prefix w prefixes)
written w prefixes (first ∷ rests) (suc i) rest = ap (λ (es : List Entry). entry_of (take w prefixes) first ∷ es)
    (written w (drop w prefixes) rests i rest
    ∙ ap (λ prefix. slice_set (entries_of w (drop w prefixes) rests) i (entry_of prefix rest))
    (next_prefix w prefixes i))

-- what contracts see of the list
pub length_is : (w : ℕ) (prefixes : List ℕ) (rests : List Rest) (v : EntriesValue) →
    record { width = w; list = entries_of w prefixes rests } ≡ v → length v.list ≡ length rests
length_is w prefixes rests v is = sym (ap (λ (u : EntriesValue). length u.list) is) ∙ count w prefixes rests

pub at_is : (w : ℕ) (prefixes : List ℕ) (rests : List Rest) (v : EntriesValue) →
    record { width = w; list = entries_of w prefixes rests } ≡ v → (i : ℕ) (d : Entry) (r : Rest) → i < length v.list
    → slice_index_or v.list i d ≡ entry_of (prefix_at w prefixes i) (slice_index_or rests i r)
at_is w prefixes rests v is i d r lt =
    let long = length_is w prefixes rests v is in
    sym (ap (λ (u : EntriesValue). slice_index_or u.list i d) is) ∙ at w prefixes rests i d r (omega (arith, lt, long))
