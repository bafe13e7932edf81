use Rattle.std.proofs.Common.{◌≡◌, ◌≤◌, ℕ, List, [], length, refl, subst, arith}
use Rattle.go_sgf.specs.Record.{Trees, none, tree}
use Rattle.go_sgf.specs.Refusals.{IsRefusal}
use Rattle.go_sgf.specs.Spelling.{Spells, SpellsParts, parts}
use Rattle.go_sgf.specs.declared.error.SgfError.{SgfError}
use Rattle.go_sgf.specs.declared.error.SgfError.TheVariants.{NoTree, EndInside, Unexpected, TooDeep, Memory, TooLong}
use Rattle.go_sgf.specs.declared.limits.TheConstants.{MAX_RECORD}
use Rattle.go_sgf.proofs.laws.spelled_is_read.Goals as goal

-- what has no first tree spells no tree
none_spelled : (c : Trees) (rest : List ℕ) → SpellsParts [] (parts c) rest → c ≡ none
none_spelled none rest s = refl
none_spelled (tree nodes children later) rest s = let e = s.1 in cc

not_refused : (b : List ℕ) (c : Trees) (why : SgfError) → Spells b c → IsRefusal b why → length b ≤ MAX_RECORD →
    why ≡ Memory
not_refused b c NoTree s r short =
    absurd (s.fit.some (none_spelled c s.rest (subst (λ (x : List ℕ). SpellsParts x (parts c) s.rest) r s.spelling)))
not_refused b c (EndInside place) s r short = absurd (r.1.spells_none c s)
not_refused b c (Unexpected place) s r short = absurd (r.spells_none c s)
not_refused b c (TooDeep place) s r short = absurd (r.spells_none c s)
not_refused b c Memory s r short = refl
not_refused b c TooLong s r short = absurd (omega (arith, short, r))

pub returns : goal.returns
returns c = not_refused
