-- A colouring's bytes tell the colour of each point.
use Rattle.std.proofs.Common.{arith, ◌≡◌, ◌<◌, ◌≤◌, ◌+◌, ◌*◌, ◌/◌, ◌%◌, ◌↔◌, ◌∙◌, ◌&&◌, ℕ, nat_eq, Bool, true, false, true≢false, List, [], ◌∷◌, Option, Some, None, ap, ap₂, get_or, inl, inr, length, refl, replicate, subst, sym}
use Rattle.std.proofs.lemmas.Bool.{cases_eq}
use Rattle.std.proofs.lemmas.Bool.Decides.{nat_tests}
use Rattle.std.proofs.lemmas.List.FromFn.{get_or-map-range_with_len}
use Rattle.go_board.specs.declared.colour.Colour.{Colour}
use Rattle.go_board.specs.declared.colour.Colour.TheVariants.{Black, White}
use Rattle.go_board.specs.declared.pack.TheConstants.{PACK_BYTES}
use Rattle.go_board.specs.declared.size.TheConstants.{MAX_POINTS}
use Rattle.go_board.specs.Colours.{Colouring, colour_at}
use Rattle.go_board.specs.PackBytes.{are_zero}
use Rattle.go_board.specs.Packs.{byte_of, code_of, packed_of}
use Rattle.go_board.proofs.Equal.{equal_by_points}

pub code_low : (c : Option Colour) → code_of c ≤ 2
code_low None = omega arith
code_low (Some Black) = omega arith
code_low (Some White) = omega arith

equal_from_code : (a b : Option Colour) → code_of a ≡ code_of b → a ≡ b
equal_from_code None None e = refl
equal_from_code None (Some Black) e = absurd (omega (arith, e))
equal_from_code None (Some White) e = absurd (omega (arith, e))
equal_from_code (Some Black) None e = absurd (omega (arith, e))
equal_from_code (Some Black) (Some Black) e = refl
equal_from_code (Some Black) (Some White) e = absurd (omega (arith, e))
equal_from_code (Some White) None e = absurd (omega (arith, e))
equal_from_code (Some White) (Some Black) e = absurd (omega (arith, e))
equal_from_code (Some White) (Some White) e = refl

-- a byte's digits
four_digits : (a b c d a' b' c' d' : ℕ) → a ≤ 2 → b ≤ 2 → c ≤ 2 → d ≤ 2 → a' ≤ 2 → b' ≤ 2 → c' ≤ 2 → d' ≤ 2
    → a + 4 * b + 16 * (c + 4 * d) ≡ a' + 4 * b' + 16 * (c' + 4 * d') → (a ≡ a') × (b ≡ b') × (c ≡ c') × (d ≡ d')
four_digits a b c d a' b' c' d' la lb lc ld la' lb' lc' ld' e = (omega arith, omega arith, omega arith, omega arith)

-- the colours of a byte's points
abbrev AreSame : Colouring → Colouring → ℕ → Type 0
AreSame g h k = colour_at g k ≡ colour_at h k

same_four : (g h : Colouring) (i : ℕ) → byte_of g i ≡ byte_of h i
    → AreSame g h (4 * i) × AreSame g h (4 * i + 1) × AreSame g h (4 * i + 2) × AreSame g h (4 * i + 3)
same_four g h i e =
    let at : Colouring → ℕ → ℕ = λ f k. code_of (colour_at f k) in
    let digits = four_digits (at g (4 * i)) (at g (4 * i + 1)) (at g (4 * i + 2)) (at g (4 * i + 3)) (at h (4 * i))
    (at h (4 * i + 1)) (at h (4 * i + 2)) (at h (4 * i + 3))
    (code_low _) (code_low _) (code_low _) (code_low _) (code_low _) (code_low _) (code_low _) (code_low _) e in (
      equal_from_code _ _ digits.0,
      equal_from_code _ _ digits.1,
      equal_from_code _ _ digits.2,
      equal_from_code _ _ digits.3,
    )

same_point : (g h : Colouring) (k : ℕ) → byte_of g (k / 4) ≡ byte_of h (k / 4) → AreSame g h k
same_point g h k e =
    let i = k / 4 in
    let four = same_four g h i e in
    elim (cases_eq (k % 4) 0) [
      | inl zeroth ↦ subst (AreSame g h) (let is : 4 * i ≡ k = omega arith in is) four.0
      | inr past ↦ elim (cases_eq (k % 4) 1) [
        | inl first ↦ subst (AreSame g h) (let is : 4 * i + 1 ≡ k = omega arith in is) four.1
        | inr later ↦ elim (cases_eq (k % 4) 2) [
          | inl second ↦ subst (AreSame g h) (let is : 4 * i + 2 ≡ k = omega arith in is) four.2
          | inr last ↦ subst (AreSame g h) (let is : 4 * i + 3 ≡ k = omega arith in is) four.3
        ]
      ]
    ]

same_byte : (g h : Colouring) → packed_of g ≡ packed_of h → (i : ℕ) → i < PACK_BYTES → byte_of g i ≡ byte_of h i
unfolding packed_of
same_byte g h e i low =
    sym (get_or-map-range_with_len (byte_of g) 0 PACK_BYTES i i 0 low (omega arith))
    ∙ ap (λ (bytes : List ℕ). get_or bytes i 0) e
    ∙ get_or-map-range_with_len (byte_of h) 0 PACK_BYTES i i 0 low (omega arith)

pub packs_tell_apart : (g h : Colouring) → length g ≡ length h → length g ≤ MAX_POINTS → (packed_of g ≡ packed_of h)
    ↔ (g ≡ h)
packs_tell_apart g h same few = (
  λ e. equal_by_points (length g) g h refl (sym same)
      (λ k low. same_point g h k (same_byte g h e (k / 4) (omega (arith, low, few)))),
  λ e. ap packed_of e,
)

-- bytes that are all 0 are told by how many there are
pub zeros : (bytes : List ℕ) → are_zero bytes ≡ true → bytes ≡ replicate (length bytes) 0
zeros [] is = refl
zeros (b ∷ bytes) is = here (nat_eq b 0) refl is (zeros bytes)
  where
    here : (x : Bool) → nat_eq b 0 ≡ x → (x && are_zero bytes) ≡ true →
        (are_zero bytes ≡ true → bytes ≡ replicate (length bytes) 0) → b ∷ bytes ≡ replicate (length (b ∷ bytes)) 0
    here true e rest more = ap₂ (λ (y : ℕ) (l : List ℕ). y ∷ l) (grind (arith, nat_tests, e)) (more rest)
    here false e rest more = absurd (true≢false (sym rest))
