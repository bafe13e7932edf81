-- Whether a number before p passes a test, among the numbers of a board's points.
use Rattle.std.proofs.Common.{◌≡◌, ◌∙◌, ◌<◌, ◌*◌, ◌&&◌, ◌+◌, ℕ, Bool, true, false, true≢false, get_or, inl, inr, refl, sym, ap, arith}
use Rattle.std.specs.Prelude.{nat_lt}
use Rattle.std.specs.List.{list_any}
use Rattle.std.proofs.lemmas.Bool.{and_parts, cases_Bool, lt-ltb, ltb-true}
use Rattle.std.proofs.lemmas.List.Folds.{Any-from_list_any, list_any_at}
use Rattle.std.proofs.lemmas.List.FromFn.{get_or-range_with_len, length-range_with_len}
use Rattle.go_board.specs.Reaching.{points}

module _ (test : ℕ → Bool) (n p : ℕ) where
  abbrev pub is_earlier : ℕ → Bool
  is_earlier q = nat_lt q p && test q

  pub found_earlier : (q : ℕ) → p < n * n → q < p → test q ≡ true → list_any is_earlier (points n) ≡ true
  found_earlier q on low e =
      let is : get_or (points n) q 0 ≡ q = get_or-range_with_len 0 (n * n) q 0 (omega arith)
      ∙ (let z : 0 + q ≡ q = omega arith in z) in
      list_any_at is_earlier (points n) q 0 (rw (length-range_with_len 0 (n * n)) (omega arith))
      (ap is_earlier is ∙ (rw (lt-ltb q p low, e) refl))

  pub some_earlier : list_any is_earlier (points n) ≡ true → (q : ℕ) × (q < p) × (test q ≡ true)
  some_earlier some =
      let h = Any-from_list_any is_earlier (points n) some in
      let parts = and_parts (nat_lt h.1 p) (test h.1) h.4 in
      (h.1, ltb-true h.1 p parts.0, parts.1)

  pub none_earlier : ((q : ℕ) → q < p → test q ≡ false) → list_any is_earlier (points n) ≡ false
  none_earlier none = elim (cases_Bool (list_any is_earlier (points n))) [
    | inl some ↦ (let h = some_earlier some in absurd (true≢false (sym h.2 ∙ none h.0 h.1)))
    | inr e ↦ e
  ]
