-- The plain uses of the program, computed.
use Rattle.std.proofs.Common.{true≢false, arith, ◌≡◌, ◌≤◌, ◌∙◌, ◌&&◌, Bool, true, false, inl, inr, ℕ, zero, suc, List, [], ◌∷◌, Option, Some, None, codes, refl, sym, ap, subst}
use Rattle.std.specs.Fmt.{decimal, digits}
use Rattle.std.specs.Option.{option_map_or}
use Rattle.std.specs.Str.{bytes_eq}
use Rattle.std.proofs.lemmas.Slice.Eq.{bytes_eq-Decides}
use Rattle.std.proofs.Math.Nat.{le-suc_iff}
use Rattle.clap.specs.Walk.{Row, Text, one_of}
use Rattle.clap.specs.Simple.{subcommand_of}
use Rattle.clap.specs.Takes.{takes}
use Rattle.clap.proofs.WalkLemmas.{both}
use Rattle.clap.proofs.OnLiterals.{clap_on_literals}
use Rattle.go_board.specs.declared.size.TheConstants.{MAX_LINES}
use Rattle.goref_cli.specs.CommandLine.{IsPlainUse, IsSize, program}
use Rattle.goref_cli.specs.inner.Matches.{IsPlainMatch}

-- the matches name `gtp` and the size n
abbrev states : ℕ → Option (Text × List Row) → Bool
states n = λ o. option_map_or (λ p.
    bytes_eq p.0 (codes "gtp") && option_map_or (λ t. bytes_eq t (decimal n)) (one_of (codes "size") p.1) false) o false

-- the matches name this subcommand
abbrev names : Text → Option (Text × List Row) → Bool
names word = λ o. option_map_or (λ p. bytes_eq p.0 word) o false

-- the words are taken, as this subcommand
abbrev holds_word : Text → List Text → Bool
holds_word word words = takes program words && names word (subcommand_of program words)

-- the words are taken, as `gtp` with the size n
abbrev holds : ℕ → List Text → Bool
holds n words = takes program words && states n (subcommand_of program words)

abbrev gtp_words : Text → List Text
gtp_words name = name ∷ codes "gtp" ∷ []

abbrev judge_words : Text → List Text
judge_words name = name ∷ codes "judge" ∷ []

abbrev tidy_words : Text → List Text
tidy_words name = name ∷ codes "tidy" ∷ []

abbrev sized_words : Text → ℕ → List Text
sized_words name n = name ∷ codes "gtp" ∷ codes "--size" ∷ decimal n ∷ []

-- a test holds of 1 to n
abbrev each_up_to : (ℕ → Bool) → ℕ → Bool
each_up_to p zero = true
each_up_to p (suc n) = p (suc n) && each_up_to p n

at_each : (p : ℕ → Bool) (k n : ℕ) → each_up_to p k ≡ true → 1 ≤ n → n ≤ k → p n ≡ true
at_each p zero n all low high = absurd (omega arith)
at_each p (suc k) n all low high = elim (le-suc_iff.0 high) [
  | inl below ↦ at_each p k n (both _ _ all).1 low below
  | inr last ↦ ap p last ∙ (both _ _ all).0
]

gtp_holds : (name : Text) → holds 19 (gtp_words name) ≡ true
unfolding clap_on_literals digits
gtp_holds name = refl

judge_holds : (name : Text) → holds_word (codes "judge") (judge_words name) ≡ true
unfolding clap_on_literals digits
judge_holds name = refl

tidy_holds : (name : Text) → holds_word (codes "tidy") (tidy_words name) ≡ true
unfolding clap_on_literals digits
tidy_holds name = refl

sized_table : (name : Text) → each_up_to (λ n. holds n (sized_words name n)) MAX_LINES ≡ true
unfolding clap_on_literals digits
sized_table name = refl

-- what the plain uses come to: `gtp` and a size that a reader accepts
same_or_false : (o : Option Text) (t : Text) → option_map_or (λ u. bytes_eq u t) o false ≡ true → o ≡ Some t
same_or_false None t e = absurd (true≢false (sym e))
same_or_false (Some u) t e = ap (λ x. Some x) ((bytes_eq-Decides u t).0 e)

stated : (n : ℕ) (o : Option (Text × List Row)) → states n o ≡ true
    → (p : Text × List Row) × (o ≡ Some p) × (p.0 ≡ codes "gtp") × (one_of (codes "size") p.1 ≡ Some (decimal n))
stated n None e = absurd (true≢false (sym e))
stated n (Some p) e = (
  p,
  refl,
  (bytes_eq-Decides p.0 (codes "gtp")).0 (both _ _ e).0,
  same_or_false (one_of (codes "size") p.1) (decimal n) (both _ _ e).1,
)

named : (word : Text) (o : Option (Text × List Row)) → names word o ≡ true → (p : Text × List Row) × (o ≡ Some p)
    × (p.0 ≡ word)
named word None e = absurd (true≢false (sym e))
named word (Some p) e = (p, refl, (bytes_eq-Decides p.0 word).0 e)

abbrev Plain : List Text → Type 0
Plain words = (takes program words ≡ true)
    × ((p : Text × List Row) × (subcommand_of program words ≡ Some p) × IsPlainMatch p)

held_plain : (words : List Text) (n : ℕ) → IsSize n → holds n words ≡ true → Plain words
held_plain words n size e =
    let s = stated n (subcommand_of program words) (both _ _ e).1 in
    ((both _ _ e).0, (s.0, s.1, inr (inr (s.2, (n, size, s.3)))))

judge_plain : (words : List Text) → holds_word (codes "judge") words ≡ true → Plain words
judge_plain words e =
    let s = named (codes "judge") (subcommand_of program words) (both _ _ e).1 in
    ((both _ _ e).0, (s.0, s.1, inl s.2))

tidy_plain : (words : List Text) → holds_word (codes "tidy") words ≡ true → Plain words
tidy_plain words e =
    let s = named (codes "tidy") (subcommand_of program words) (both _ _ e).1 in
    ((both _ _ e).0, (s.0, s.1, inr (inl s.2)))

pub plain : (words : List Text) → IsPlainUse words → Plain words
plain [] h = absurd h
plain (name ∷ rest) h = elim h [
  | inl gtp ↦ subst (λ (r : List Text). Plain (name ∷ r)) (sym gtp)
      (held_plain (gtp_words name) 19 (omega arith, omega arith) (gtp_holds name))
  | inr (inl judge) ↦ subst (λ (r : List Text). Plain (name ∷ r)) (sym judge)
      (judge_plain (judge_words name) (judge_holds name))
  | inr (inr (inl tidy)) ↦ subst (λ (r : List Text). Plain (name ∷ r)) (sym tidy)
      (tidy_plain (tidy_words name) (tidy_holds name))
  | inr (inr (inr sized)) ↦ subst (λ (r : List Text). Plain (name ∷ r)) (sym sized.2)
      (held_plain (sized_words name sized.0) sized.0 sized.1
      (at_each (λ n. holds n (sized_words name n)) MAX_LINES sized.0 (sized_table name) sized.1.0 sized.1.1))
]
