-- How the set of marked points grows.
use Rattle.std.proofs.Common.{arith, ◌≡◌, ◌<◌, ◌+◌, ◌∙◌, Bool, true, false, not, cond, inl, inr, ℕ, List, [], ◌∷◌, ◌++◌, length, count_by, get_or, replicate, sym, ap, length-append, length-set}
use Rattle.std.proofs.lemmas.List.{length-replicate, get_or-replicate, get_or-set_other, get_or-set_same, get_or_past}
use Rattle.std.proofs.Math.ListN.{set}
use Rattle.std.proofs.lemmas.List.Elements.{Contains-append_left, Contains-push, Contains-push_cases}
use Rattle.std.proofs.lemmas.List.Sums.{sum_by-set}
use Rattle.std.proofs.lemmas.Bool.{cases_lt}
use Rattle.std.proofs.lemmas.Bool.Decides.{eqb_tells}
use Rattle.go_board.specs.declared.size.TheConstants.{MAX_POINTS}
use Rattle.go_board.specs.inner.Flood.{Grows, HasRoom, IsMarked}

-- among unmarked points none is marked
pub unmarked : (m j : ℕ) → IsMarked (replicate m false) j → ⊥
unmarked m j marked = elim (cases_lt j m) [
  | inl low ↦ let clear = get_or-replicate m j false false low in let bad : true ≡ false = sym marked ∙ clear in cc
  | inr past ↦ let clear = get_or_past (replicate m false) j false (simp length-replicate past) in let bad :
      true ≡ false = sym marked ∙ clear in cc
]

-- marking one more leaves one fewer
one_fewer : (marks : List Bool) (k : ℕ) → k < length marks → get_or marks k false ≡ false →
    count_by not (set marks k true) + 1 ≡ count_by not marks
one_fewer marks k low clear =
    let counted = sum_by-set (λ (b : Bool). cond (not b) 1 0) marks k true false low in
    let was = ap (λ b. let n : ℕ = cond (not b) 1 0 in n) clear in
    omega (arith, counted, was)

-- a point is marked and waits
pub mark_grows : (marks : List Bool) (waiting : List ℕ) (k : ℕ) → k < MAX_POINTS → HasRoom marks waiting →
    get_or marks k false ≡ false
    → Grows (λ j. j ≡ k) marks waiting (set marks k true) (waiting ++ k ∷ [])
mark_grows marks waiting k low room clear =
    let within : k < length marks = omega (arith, room.all) in
    let fewer = one_fewer marks k within clear in
    let longer : length (waiting ++ k ∷ []) ≡ length waiting + 1 = length-append waiting (k ∷ []) in
    let now : IsMarked (set marks k true) k = get_or-set_same marks k true false within in
    record {
      kept = λ j m. elim (eqb_tells j k) [
        | inl same ↦ rw same.1 now
        | inr other ↦ get_or-set_other marks k j true false other.1 ∙ m
      ];
      only = λ j m. elim (eqb_tells j k) [
        | inl same ↦ inr (same.1, rw same.1 (Contains-push waiting k))
        | inr other ↦ inl (sym (get_or-set_other marks k j true false other.1) ∙ m)
      ];
      waits = λ j w. Contains-append_left waiting (k ∷ []) j w;
      waiting_only = λ j w. elim (Contains-push_cases waiting k j w) [
        | inl before ↦ inl before
        | inr same ↦ inr (rw (sym same) now)
      ];
      less = omega (arith, fewer, longer);
      room = record { all = length-set marks k true ∙ room.all; room = omega (arith, fewer, longer, room.room) };
    }

-- what grew, and grew more, grew
pub grows_more : {New Next : ℕ → Type 0} {m₀ : List Bool} {w₀ : List ℕ} {m₁ : List Bool} {w₁ : List ℕ} {m₂ : List Bool}
    {w₂ : List ℕ}
    → ((j : ℕ) → Next j → New j) → Grows New m₀ w₀ m₁ w₁ → Grows Next m₁ w₁ m₂ w₂ → Grows New m₀ w₀ m₂ w₂
grows_more next a b = record {
  kept = λ j m. b.kept j (a.kept j m);
  only = λ j m. elim (b.only j m) [
    | inl before ↦ elim (a.only j before) [ inl old ↦ inl old | inr new ↦ inr (new.0, b.waits j new.1) ]
    | inr new ↦ inr (next j new.0, new.1)
  ];
  waits = λ j w. b.waits j (a.waits j w);
  waiting_only = λ j w. elim (b.waiting_only j w) [
    | inl before ↦ elim (a.waiting_only j before) [ inl old ↦ inl old | inr marked ↦ inr (b.kept j marked) ]
    | inr marked ↦ inr marked
  ];
  less = let first = a.less in let second = b.less in omega arith;
  room = b.room;
}
