-- What was read of an input, and what holds of the whole of it.
use Rattle.std.proofs.Common.{◌≡◌, ◌≢◌, ◌∙◌, ◌≤◌, ◌<◌, ◌+◌, ◌++◌, ℕ, List, [], Option, Some, None, length, refl, sym, ap, subst, arith}
use Rattle.std.specs.Prelude.{IfErr, IfSome, OnOk, Result, Ok, Err}
use Rattle.std.proofs.lemmas.List.{append-nil, length-append}
use Rattle.std.proofs.Math.Nat.{lt_of_not-le}
use Rattle.go_board.specs.Device.{TakesPrefix, after_bytes, then_bytes}
use Rattle.go_board.specs.lemmas.Reading.{has_read_more, of_input}
use Rattle.go_sgf.specs.Refusals.{IsRefusal}
use Rattle.go_sgf.specs.declared.error.SgfError.{SgfError}
use Rattle.go_sgf.specs.declared.error.SgfError.TheVariants.{NoTree, EndInside, Unexpected, TooDeep, Memory, TooLong}
use Rattle.go_sgf.specs.declared.limits.TheConstants.{MAX_RECORD}
use Rattle.goref_tools.specs.Tools.{IsInput, Reads, Refuses, read_failures_after, tool_error_of_sgf}
use Rattle.goref_tools.specs.declared.error.ToolError.{ToolError}
use Rattle.goref_tools.specs.declared.error.ToolError.TheVariants.{Sgf, Write}

-- what was read before, and then more
pub reads_more : {left left' : Option (List ℕ)} (left'' : Option (List ℕ)) (read more : List ℕ) →
    length read + length more ≤ MAX_RECORD + 1 →
    left ≡ after_bytes read left' → left' ≡ after_bytes more left'' → Reads left left''
reads_more left'' read more few e f = record {
  bytes = read ++ more;
  few = subst (λ k. k ≤ MAX_RECORD + 1) (sym (length-append read more)) few;
  given = has_read_more left'' read more e f;
}

-- what isn't too long was read whole
pub of_whole : (P : List ℕ → Type 0) (bytes : List ℕ) {left : Option (List ℕ)} (left' : Option (List ℕ)) →
    IsInput bytes left left' → (MAX_RECORD < length bytes → ⊥) → P bytes → IfSome left P
of_whole P bytes {left} None is short p =
    let Q : Option (List ℕ) → Type 0 = λ o. IfSome o P in subst Q (sym is.given) tt
of_whole P bytes {left} (Some rest) is short p =
    let Q : Option (List ℕ) → Type 0 = λ o. IfSome o P in
    let all = ap (λ xs. bytes ++ xs) (is.ended (omega (arith, lt_of_not-le short))) ∙ append-nil bytes in
    subst Q (sym is.given) (subst P (sym all) p)

told : (left : Option (List ℕ)) (e why : SgfError) → e ≢ Memory → e ≡ why → IfSome left (λ input. IsRefusal input e) →
    Refuses left why
told left e why other same h =
    let P : SgfError → Type 0 = λ x. Refuses left x in subst P same (other, h)

no_memory : (why : SgfError) → tool_error_of_sgf Memory ≡ Sgf why → ⊥
no_memory why e = cc

-- a longer input is too long too
longer : (bytes more : List ℕ) → MAX_RECORD < length bytes → MAX_RECORD < length (bytes ++ more)
longer bytes more h = omega (arith, length-append bytes more)

-- what a record is refused for, unless that is want of memory, the whole input is refused for
pub refuses : (bytes : List ℕ) (left left' : Option (List ℕ)) → IsInput bytes left left' → (e : SgfError) →
    IsRefusal bytes e → (MAX_RECORD < length bytes → e ≡ TooLong) →
    (why : SgfError) → tool_error_of_sgf e ≡ Sgf why → Refuses left why
refuses bytes left left' is NoTree r long why f =
    told left NoTree why (λ e. cc) (cc)
    (of_whole (λ b. IsRefusal b NoTree) bytes left' is (λ h. let e = long h in cc) r)
refuses bytes left left' is (EndInside place) r long why f =
    told left (EndInside place) why (λ e. cc) (cc)
    (of_whole (λ b. IsRefusal b (EndInside place)) bytes left' is (λ h. let e = long h in cc) r)
refuses bytes left left' is (Unexpected place) r long why f =
    told left (Unexpected place) why (λ e. cc) (cc)
    (of_whole (λ b. IsRefusal b (Unexpected place)) bytes left' is (λ h. let e = long h in cc) r)
refuses bytes left left' is (TooDeep place) r long why f =
    told left (TooDeep place) why (λ e. cc) (cc)
    (of_whole (λ b. IsRefusal b (TooDeep place)) bytes left' is (λ h. let e = long h in cc) r)
refuses bytes left left' is Memory r long why f = absurd (no_memory why f)
refuses bytes left left' is TooLong r long why f =
    told left TooLong why (λ e. cc) (cc)
    (of_input (λ b. IsRefusal b TooLong) bytes left' is.given (λ more. longer bytes more r))

-- a failed flush is no failed read
pub not_read : {T : Type 0} (r : Result T ToolError) (old : ℕ) → IfErr r (λ error. error ≡ Write) →
    old ≡ read_failures_after r old
not_read {T} (Ok x) old is = refl
not_read {T} (Err error) old is =
    sym (ap (λ (e : ToolError). let r : Result T ToolError = Err e in read_failures_after r old) is)

-- a text taken whole was begun too
pub all_prefix : {old new : Option (List ℕ)} (text : List ℕ) → new ≡ then_bytes old text → TakesPrefix old new text
all_prefix text e = record { prefix = text; rest = []; whole = sym (append-nil text); taken = e }

pub on_ok : {T E : Type 0} {P : Type 0} (r : Result T E) → P → OnOk r P
on_ok (Ok x) p = p
on_ok (Err e) p = tt

pub same_error : {T E : Type 0} {r : Result T E} {x y z : E} → r ≡ Err x → x ≡ y → r ≡ Err z → y ≡ z
same_error e f h = cc
