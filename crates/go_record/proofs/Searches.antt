-- Whether a number below a bound passes a test.
use Rattle.std.proofs.Common.{◌≡◌, ◌∙◌, ◌<◌, ◌+◌, ℕ, Bool, true, false, true≢false, get_or, inl, inr, sym, ap, arith}
use Rattle.std.specs.List.{list_any, range_with_len}
use Rattle.std.proofs.lemmas.Bool.{cases_Bool}
use Rattle.std.proofs.lemmas.List.Folds.{Any-from_list_any, list_any_at}
use Rattle.std.proofs.lemmas.List.FromFn.{get_or-range_with_len, length-range_with_len}

module _ (test : ℕ → Bool) (n : ℕ) where
  pub any_found : (q : ℕ) → q < n → test q ≡ true → list_any test (range_with_len 0 n) ≡ true
  any_found q low e =
      let is : get_or (range_with_len 0 n) q 0 ≡ q = get_or-range_with_len 0 n q 0 low
      ∙ (let z : 0 + q ≡ q = omega arith in z) in
      list_any_at test (range_with_len 0 n) q 0 (rw (length-range_with_len 0 n) low) (ap test is ∙ e)

  pub any_none : ((q : ℕ) → q < n → test q ≡ false) → list_any test (range_with_len 0 n) ≡ false
  any_none none = elim (cases_Bool (list_any test (range_with_len 0 n))) [
    | inl some ↦ let h = Any-from_list_any test (range_with_len 0 n) some in
        absurd (true≢false (sym h.4 ∙ none h.1
        (omega (
          arith,
          rw (length-range_with_len 0 n) at h.2,
          sym h.3
              ∙ get_or-range_with_len 0 n h.0 h.1 (rw (length-range_with_len 0 n) at h.2),
        ))))
    | inr e ↦ e
  ]
