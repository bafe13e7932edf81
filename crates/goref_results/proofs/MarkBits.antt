-- A set of points as marks: one point more or fewer, and none.
use Rattle.std.specs.Int.{bit_at}
use Rattle.std.specs.Prelude.{◌↔◌, ◌⊎◌, IsTrue}
use Rattle.std.proofs.Common.{◌≡◌, ◌≢◌, ◌∙◌, ◌/◌, ◌%◌, ◌<◌, ℕ, Bool, true, false, List, refl, sym, ap, arith, inl, inr, length, nat_eq, replicate, slice_index_or, slice_set}
use Rattle.std.proofs.lemmas.Bool.{cases_eq, eq-eqb, eqb-true, false_from_ne_true}
use Rattle.std.proofs.lemmas.List.{ext_get_or, get_or-replicate, get_or-set_other, get_or-set_same, length-replicate}
use Rattle.std.proofs.lemmas.List.FromFn.{get_or-map-range_with_len, length-map-range_with_len}
use Rattle.std.proofs.lemmas.Nat.Bits.{bit_at-zero}
use Rattle.std.proofs.Math.ListN.{length-set}
use Rattle.go_board.specs.PointSets.{HasPoint, bit_of, has_point}
use Rattle.go_board.specs.declared.point_set.TheConstants.{WORDS}
use Rattle.go_board.specs.declared.size.TheConstants.{MAX_POINTS}
use Rattle.goref_results.specs.Marks.{marks_of}

pub mark_is : (set : List ℕ) (k : ℕ) → k < MAX_POINTS → slice_index_or (marks_of set) k false ≡ has_point set k
unfolding marks_of
mark_is set k low = get_or-map-range_with_len (has_point set) 0 MAX_POINTS k k false low (omega arith)

length-marks : (set : List ℕ) → length (marks_of set) ≡ MAX_POINTS
unfolding marks_of
length-marks set = length-map-range_with_len (has_point set) 0 MAX_POINTS

pub no_marks : (set : List ℕ) → set ≡ replicate WORDS 0 → marks_of set ≡ replicate MAX_POINTS false
no_marks set zeros =
    ext_get_or false (marks_of set) (replicate MAX_POINTS false)
    (length-marks set ∙ sym (length-replicate MAX_POINTS false))
    (λ k low. (let low : k < MAX_POINTS = omega (arith, low, length-marks set) in
    mark_is set k low ∙ ap (λ (w : List ℕ). has_point w k) zeros
    ∙ ap (λ x. nat_eq (bit_at x (k % 64)) 1) (get_or-replicate WORDS (k / 64) 0 0 (omega (arith, low)))
    ∙ ap (λ b. nat_eq b 1) (bit_at-zero (k % 64))
    ∙ sym (get_or-replicate MAX_POINTS k false false low)))

-- a test that tells what a set has
pub marked : (b : Bool) (set : List ℕ) (k : ℕ) → IsTrue b ↔ HasPoint set k → b ≡ has_point set k
marked true set k is = sym (eq-eqb (bit_of set k) 1 (is.0 refl))
marked false set k is = sym (false_from_ne_true (has_point set k)
    (λ t. (let e : false ≡ true = is.1 (eqb-true (bit_of set k) 1 t) in absurd (cc))))

-- one mark is set anew
module _ (old new : List ℕ) (number : ℕ) (b : Bool) (number_in : number < MAX_POINTS)
    (here : has_point new number ≡ b) (others : (k : ℕ) → k ≢ number → has_point new k ≡ has_point old k) where
  one_set : marks_of new ≡ slice_set (marks_of old) number b
  one_set =
      ext_get_or false (marks_of new) (slice_set (marks_of old) number b)
      (length-marks new ∙ sym (length-set (marks_of old) number b ∙ length-marks old))
      (λ k below. at k (omega (arith, below, length-marks new)))
    where
      at : (k : ℕ) → k < MAX_POINTS →
          slice_index_or (marks_of new) k false ≡ slice_index_or (slice_set (marks_of old) number b) k false
      at k low = mark_is new k low ∙ elim (cases_eq k number) [
        | inl same ↦
            ap (has_point new) same ∙ here
            ∙ sym (ap (λ j. slice_index_or (slice_set (marks_of old) number b) j false) same
            ∙ get_or-set_same (marks_of old) number b false (omega (arith, number_in, length-marks old)))
        | inr differs ↦ others k differs
            ∙ sym (get_or-set_other (marks_of old) number k b false differs ∙ mark_is old k low)
      ]

-- the tests of two sets that have a point alike
alike : (old new : List ℕ) (k : ℕ) → HasPoint new k ↔ HasPoint old k → has_point new k ≡ has_point old k
alike old new k is = marked (has_point new k) old k
    ((λ t. is.0 (eqb-true (bit_of new k) 1 t)), (λ set. eq-eqb (bit_of new k) 1 (is.1 set)))

pub one_put : (old new : List ℕ) (number : ℕ) → number < MAX_POINTS →
    ((q : ℕ) → HasPoint new q ↔ ((q ≡ number) ⊎ HasPoint old q)) → marks_of new ≡ slice_set (marks_of old) number true
one_put old new number low put =
    one_set old new number true low (eq-eqb (bit_of new number) 1 ((put number).1 (inl refl)))
    (λ k differs. alike old new k (
      (λ set. elim ((put k).0 set) [ inl is ↦ absurd (differs is) | inr had ↦ had ]),
      (λ had. (put k).1 (inr had)),
    ))

pub one_left_out : (old new : List ℕ) (number : ℕ) → number < MAX_POINTS →
    ((q : ℕ) → HasPoint new q ↔ ((q ≢ number) × HasPoint old q)) → marks_of new ≡ slice_set (marks_of old) number false
one_left_out old new number low left =
    one_set old new number false low
    (false_from_ne_true (has_point new number) (λ t. ((left number).0 (eqb-true (bit_of new number) 1 t)).0 refl))
    (λ k differs. alike old new k ((λ set. ((left k).0 set).1), (λ had. (left k).1 (differs, had))))
