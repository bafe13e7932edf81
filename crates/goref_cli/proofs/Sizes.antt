-- What is read of the option `--size`.
use Rattle.std.proofs.Common.{arith, ◌≡◌, ◌<◌, ◌^◌, ◌∙◌, ℕ, List, Option, Some, None, Result, Ok, Err, refl, sym, subst}
use Rattle.std.specs.Fmt.{decimal}
use Rattle.std.specs.declared.num.ParseIntError.{ParseIntError}
use Rattle.std.specs.Str.Parse.{ParsesUnsigned, ExplainsUnsignedError, HasUnsignedDigitsIfOk, digits_value, without_leading_plus}
use Rattle.std.proofs.lemmas.Fmt.{parse-decimal}
use Rattle.clap.specs.Matches.{ReadsOne}

-- how a `u8` is read of a text
abbrev pub ReadsByte : List ℕ → Result ℕ ParseIntError → Type 0
ReadsByte text r = ParsesUnsigned 8 10 text r × ExplainsUnsignedError 10 text r × HasUnsignedDigitsIfOk text r

-- the text of a number is read as that number
pub decimal_read : (n : ℕ) (r : Option ℕ) → n < 2 ^ 8 → ReadsOne ReadsByte (decimal n) r → r ≡ Some n
decimal_read n (Some v) small h =
    let is : Ok v ≡ Ok n = parse-decimal {E = ParseIntError} 8 n (decimal n) (Ok v) small (omega arith) refl h.0 in
    cc
decimal_read n None small h =
    let is : Err h.0 ≡ Ok n = parse-decimal 8 n (decimal n) (Err h.0) small (omega arith) refl h.1.0 in
    cc

-- a number that was read is that of a text
pub number_read : (o : Option (List ℕ)) (r : Option ℕ) (v : ℕ) → (o ≡ None → r ≡ None) →
    ((t : List ℕ) → o ≡ Some t → ReadsOne ReadsByte t r) → r ≡ Some v
    → (t : List ℕ) × (o ≡ Some t) × (digits_value 10 (without_leading_plus t) ≡ v)
number_read None r v none value is =
    let bad : None ≡ Some v = sym (none refl) ∙ is in
    cc
number_read (Some t) r v none value is =
    let read : ReadsOne ReadsByte t (Some v) = subst (ReadsOne ReadsByte t) is (value t refl) in
    (t, refl, sym read.0.1)
