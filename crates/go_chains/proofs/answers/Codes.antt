-- A code put into a byte of four.
use Rattle.std.proofs.Common.{arith, zero, suc, ◌≡◌, ◌≢◌, ◌<◌, ◌≤◌, ◌+◌, ◌-◌, ◌*◌, ◌/◌, ◌%◌, ◌^◌, ◌∙◌, ℕ, Option, Some, None, ap, inl, inr, sym}
use Rattle.std.proofs.lemmas.Bool.{cases_eq}
use Rattle.go_board.specs.declared.colour.Colour.{Colour}
use Rattle.go_board.specs.declared.colour.Colour.TheVariants.{Black, White}
use Rattle.go_board.specs.Colours.{Colouring, colour_at}
use Rattle.go_board.specs.Packs.{byte_of, code_of}
use Rattle.go_chains.specs.inner.Codes.{code_in}

-- what holds at each of four places
at_each : (P : ℕ → Type 0) → P 0 → P 1 → P 2 → P 3 → (at : ℕ) → at < 4 → P at
at_each P first second third fourth zero low = first
at_each P first second third fourth (suc zero) low = second
at_each P first second third fourth (suc (suc zero)) low = third
at_each P first second third fourth (suc (suc (suc zero))) low = fourth
at_each P first second third fourth (suc (suc (suc (suc k)))) low = absurd (omega (arith, low))

-- what is taken off a byte, and the byte with another code there
abbrev pub taken_off : ℕ → ℕ → ℕ
taken_off byte at = byte / 2 ^ (2 * at) % 4 * 2 ^ (2 * at) % 2 ^ 8

abbrev pub put : ℕ → ℕ → ℕ → ℕ
put byte at code = byte - taken_off byte at + code * 2 ^ (2 * at) % 2 ^ 8

pub put-fits : (byte at code : ℕ) → byte < 256 → code ≤ 2 → at < 4 → put byte at code < 256
put-fits byte at code fits few =
    at_each (λ at. put byte at code < 256) (omega arith) (omega arith) (omega arith) (omega arith) at

pub put-at : (byte at code : ℕ) → byte < 256 → code ≤ 2 → at < 4 → code_in (put byte at code) at ≡ code
put-at byte at code fits few = at_each (λ at. code_in (put byte at code) at ≡ code) (omega arith) (omega arith)
    (omega arith) (omega arith) at

pub put-others : (byte at code : ℕ) → byte < 256 → code ≤ 2 → at < 4 → (k : ℕ) → k < 4 → k ≢ at →
    code_in (put byte at code) k ≡ code_in byte k
put-others byte at code fits few =
    let Other : ℕ → ℕ → Type 0 = λ at k. k ≢ at → code_in (put byte at code) k ≡ code_in byte k in
    at_each (λ at. (k : ℕ) → k < 4 → Other at k)
    (at_each (Other 0) (λ other. absurd (omega (arith, other))) (λ other. omega arith) (λ other. omega arith)
    (λ other. omega arith))
    (at_each (Other 1) (λ other. omega arith) (λ other. absurd (omega (arith, other))) (λ other. omega arith)
    (λ other. omega arith))
    (at_each (Other 2) (λ other. omega arith) (λ other. omega arith) (λ other. absurd (omega (arith, other)))
    (λ other. omega arith))
    (at_each (Other 3) (λ other. omega arith) (λ other. omega arith) (λ other. omega arith)
    (λ other. absurd (omega (arith, other))))
    at

same_by_codes : (a b : ℕ) → a < 256 → b < 256 → ((k : ℕ) → k < 4 → code_in a k ≡ code_in b k) → a ≡ b
same_by_codes a b a_fits b_fits same =
    let first : a % 4 ≡ b % 4 = (let e = same 0 (omega arith) in omega (arith, e)) in
    let second : a / 4 % 4 ≡ b / 4 % 4 = same 1 (omega arith) in
    let third : a / 16 % 4 ≡ b / 16 % 4 = same 2 (omega arith) in
    let fourth : a / 64 % 4 ≡ b / 64 % 4 = same 3 (omega arith) in
    omega arith

code_low : (c : Option Colour) → code_of c ≤ 2
code_low None = omega arith
code_low (Some Black) = omega arith
code_low (Some White) = omega arith

byte_fits : (g : Colouring) (i : ℕ) → byte_of g i < 256
byte_fits g i =
    let a = code_low (colour_at g (4 * i)) in
    let b = code_low (colour_at g (4 * i + 1)) in
    let c = code_low (colour_at g (4 * i + 2)) in
    let d = code_low (colour_at g (4 * i + 3)) in
    omega (arith, a, b, c, d)

-- the codes in a byte are those of its points
code_in_byte : (g : Colouring) (i k : ℕ) → k < 4 → code_in (byte_of g i) k ≡ code_of (colour_at g (4 * i + k))
code_in_byte g i k small =
    let a = code_low (colour_at g (4 * i)) in
    let b = code_low (colour_at g (4 * i + 1)) in
    let c = code_low (colour_at g (4 * i + 2)) in
    let d = code_low (colour_at g (4 * i + 3)) in
    at_each (λ k. code_in (byte_of g i) k ≡ code_of (colour_at g (4 * i + k)))
    ((let e : byte_of g i / 1 % 4 ≡ code_of (colour_at g (4 * i)) = omega (arith, a, b, c, d) in e)
    ∙ ap (λ j. code_of (colour_at g j)) (let e : 4 * i ≡ 4 * i + 0 = omega arith in e))
    (omega (arith, a, b, c, d))
    (omega (arith, a, b, c, d))
    (omega (arith, a, b, c, d))
    k small

-- where one code of a byte is written, it is the byte of the colouring with that point's colour
pub byte_put : (g h : Colouring) (i at code byte new : ℕ) → new < 256 → byte ≡ byte_of g i
    → code_in new at ≡ code → ((k : ℕ) → k < 4 → k ≢ at → code_in new k ≡ code_in byte k)
    → code ≡ code_of (colour_at h (4 * i + at)) → ((k : ℕ) → k ≢ 4 * i + at → colour_at g k ≡ colour_at h k)
    → new ≡ byte_of h i
byte_put g h i at code byte new fits was here others code_is same =
    same_by_codes new (byte_of h i) fits (byte_fits h i)
    (λ k small. elim (cases_eq k at) [
      | inl is ↦ ap (code_in new) is ∙ here ∙ code_is ∙ ap (λ j. code_of (colour_at h (4 * i + j))) (sym is)
          ∙ sym (code_in_byte h i k small)
      | inr other ↦ others k small other ∙ ap (λ b. code_in b k) was ∙ code_in_byte g i k small
          ∙ ap code_of (same (4 * i + k) (λ e. other (omega (arith, e)))) ∙ sym (code_in_byte h i k small)
    ])
