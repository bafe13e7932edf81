-- What is seen of many bytes at once.
use Rattle.std.proofs.Common.{◌≡◌, ◌≢◌, ℕ, ◌<◌, ◌+◌, ◌-◌, ◌≤◌, ◌%◌, ◌^◌, ◌||◌, not, Bool, true, false, cond, eqb, inl, inr, List, [], ◌∷◌, map, length, drop, get_or, replicate, refl, sym, ap, ap₂, ◌∙◌, length-drop, arith}
use Rattle.std.proofs.lemmas.Bool.{cases_Bool, cases_lt, true≢false}
use Rattle.std.proofs.lemmas.Simd.{zip2_splat, mask_l-mod, length-chunk, trailing_mask_l, run_in_chunk_fails, run_in_chunk_stops, none_from_empty_mask}
use Rattle.std.proofs.lemmas.List.{get_or-drop, length-map}
use Rattle.std.specs.List.{prefix_len}
use Rattle.memchr.specs.Find.{Nowhere, NoneBefore, Passes, is_byte2}
use lib.Bits.{bit_or}
use lib.Count.{count_trailing_zeros}
use lib.Lanes.{zip2, mask_l, top, chunk}

abbrev hit : ℕ → ℕ → ℕ
hit a b = cond (eqb a b) 255 0

either_top : (a b : Bool) → top 7 (bit_or (cond a 255 0) (cond b 255 0)) ≡ (a || b)
either_top true true = refl
either_top true false = refl
either_top false true = refl
either_top false false = refl

either_lanes : (a b : ℕ) (v : List ℕ) →
    map (top 7) (zip2 bit_or (map (λ x. hit x a) v) (map (λ x. hit x b) v)) ≡ map (is_byte2 a b) v
either_lanes a b [] = refl
either_lanes a b (x ∷ xs) = ap₂ (λ y ys. y ∷ ys) (either_top (eqb x a) (eqb x b)) (either_lanes a b xs)

-- the bits of the bytes that are one of two
pub either_mask : (a b : ℕ) (v : List ℕ) → length v ≡ 16 →
    mask_l (map (top 7) (zip2 bit_or (zip2 hit v (replicate 16 a)) (zip2 hit v (replicate 16 b)))) % 2 ^ 64 ≡ mask_l
    (map (is_byte2 a b) v)
either_mask a b v long =
    ap (λ l. mask_l (map (top 7) l) % 2 ^ 64)
    (ap₂ (zip2 bit_or) (zip2_splat hit v 16 a long) (zip2_splat hit v 16 b long))
    ∙ ap (λ l. mask_l l % 2 ^ 64) (either_lanes a b v)
    ∙ mask_l-mod (map (is_byte2 a b) v) 64 (omega (arith, length-map v (is_byte2 a b)))

-- where a bit is set, one of the bytes passes
pub passes_within : (p : ℕ → Bool) (xs : List ℕ) → 0 < mask_l (map p xs) → prefix_len (λ x. not (p x)) xs < length xs
passes_within p [] h = absurd (omega (arith, h))
passes_within p (x ∷ xs) h = elim (cases_Bool (p x)) [
  | inl e ↦ rw e (omega arith)
  | inr e ↦
      let h' = rw e at h in
      let later = passes_within p xs (omega (arith, h')) in
      rw e (omega (arith, later))
]

-- the place of the first byte that passes, from the lowest bit of those from a place on
pub first_from : (p : ℕ → Bool) (xs : List ℕ) (i found : ℕ) → i + 16 ≤ length xs →
    found ≡ mask_l (map p (chunk i 16 xs)) → found ≢ 0 →
    Nowhere (Passes p xs) 0 i → NoneBefore (Passes p xs) 0 (length xs) (i + count_trailing_zeros 64 found)
    × Passes p xs (i + count_trailing_zeros 64 found)
first_from p xs i found room is some before =
    let c : List ℕ = chunk i 16 xs in
    let long : length c ≡ 16 = length-chunk i 16 xs room in
    let set : 0 < mask_l (map p c) = omega (arith, is, some) in
    let counted : count_trailing_zeros 64 found ≡ prefix_len (λ x. not (p x)) c =
    ap (count_trailing_zeros 64) is ∙ trailing_mask_l p 64 c (omega (arith, long)) set in
    let less : count_trailing_zeros 64 found < 16 = omega (arith, counted, passes_within p c set, long) in (
      record {
        low = omega arith;
        high = omega (arith, less);
        before = λ k low high passes. elim (cases_lt k i) [
          | inl below ↦ before k low below passes
          | inr above ↦ true≢false (sym passes
              ∙ run_in_chunk_fails p xs i 16 (count_trailing_zeros 64 found) 0 room counted k above high)
        ];
      },
      run_in_chunk_stops p xs i 16 (count_trailing_zeros 64 found) 0 room counted less,
    )

-- no byte passes up to 16 further on, where none of those has a bit
pub none_from : (p : ℕ → Bool) (xs : List ℕ) (i found : ℕ) → i + 16 ≤ length xs →
    found ≡ mask_l (map p (chunk i 16 xs)) → found ≡ 0 →
    Nowhere (Passes p xs) 0 i → Nowhere (Passes p xs) 0 (i + 16)
none_from p xs i found room is empty before k low high passes = elim (cases_lt k i) [
  | inl below ↦ before k low below passes
  | inr above ↦ true≢false (sym passes ∙ none_from_empty_mask p xs i 16 0 room (sym is ∙ empty) k above high)
]

-- the place of the first byte that passes, where none passes up to a place, from its place among the bytes that follow
pub first_after : (p : ℕ → Bool) (xs : List ℕ) (i k : ℕ) → i ≤ length xs → Nowhere (Passes p xs) 0 i →
    NoneBefore (Passes p (drop i xs)) 0 (length (drop i xs)) k × Passes p (drop i xs) k →
    NoneBefore (Passes p xs) 0 (length xs) (i + k) × Passes p xs (i + k)
first_after p xs i k within before found = (
  record {
    low = omega arith;
    high = omega (arith, found.0.high, length-drop i xs);
    before = λ m low high passes. elim (cases_lt m i) [
      | inl below ↦ before m low below passes
      | inr above ↦
          let same : i + (m - i) ≡ m = omega (arith, above) in
          found.0.before (m - i) (omega arith) (omega (arith, high, above))
          (ap p (get_or-drop i xs (m - i) 0 ∙ ap (λ j. get_or xs j 0) same) ∙ passes)
    ];
  },
  ap p (sym (get_or-drop i xs k 0)) ∙ found.1,
)
