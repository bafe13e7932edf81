-- How the scanners go on, byte by byte.
use Rattle.std.proofs.Common.{◌≡◌, ℕ, zero, suc, ◌<◌, List, [], ◌∷◌, true, false, refl, take, get_or, arith}
use Rattle.std.proofs.lemmas.Bool.{not_from_false, false_from_ne_true}
use Rattle.std.specs.List.{list_all}
use Rattle.memchr.specs.Find.{is_byte2}
use Rattle.go_sgf.specs.inner.Reads.{is_ordinary}
use Rattle.go_sgf.specs.Spelling.{without_space, is_tree_first, tree_in, is_space}

pub after_space_more : (c : ℕ) (cs : List ℕ) → is_space c ≡ true → without_space (c ∷ cs) ≡ without_space cs
after_space_more c cs e = rw e refl

pub after_space_stop : (c : ℕ) (cs : List ℕ) → is_space c ≡ false → without_space (c ∷ cs) ≡ c ∷ cs
after_space_stop c cs e = rw e refl

pub from_tree_more : (c : ℕ) (cs : List ℕ) → is_tree_first (c ∷ cs) ≡ false → tree_in (c ∷ cs) ≡ tree_in cs
from_tree_more c cs e = rw e refl

pub from_tree_here : (c : ℕ) (cs : List ℕ) → is_tree_first (c ∷ cs) ≡ true → tree_in (c ∷ cs) ≡ c ∷ cs
from_tree_here c cs e = rw e refl

pub ruleset space_steps = (after_space_more, after_space_stop)

pub ruleset tree_steps = (from_tree_more, from_tree_here)

-- the bytes before a place are ordinary where none of them is `]` or `\`
pub ordinary_before : (xs : List ℕ) (n : ℕ) → ((k : ℕ) → k < n → is_byte2 93 92 (get_or xs k 0) ≡ true → ⊥) →
    list_all is_ordinary (take n xs) ≡ true
ordinary_before xs zero h = refl
ordinary_before [] (suc n) h = refl
ordinary_before (x ∷ xs) (suc n) h =
    let first : is_ordinary x ≡ true = not_from_false _ (false_from_ne_true _ (h 0 (omega arith))) in
    let later : list_all is_ordinary (take n xs) ≡ true = ordinary_before xs n (λ k less. h (suc k) (omega arith)) in
    rw (first, later) refl
