-- How pieces that are read one after the other make up a text.
use Rattle.std.specs.Prelude.{◌≡◌, List, [], ℕ, ◌++◌, Option, Some, None, IfSome, refl}
use Rattle.std.proofs.Common.{sym, ap, subst, append_assoc, ◌∙◌}
use Rattle.go_board.specs.Device.{after_bytes}

pub after_bytes-nil : (o : Option (List ℕ)) → after_bytes [] o ≡ o
after_bytes-nil None = refl
after_bytes-nil (Some xs) = refl

pub after_bytes-after_bytes : (a b : List ℕ) (o : Option (List ℕ)) →
    after_bytes a (after_bytes b o) ≡ after_bytes (a ++ b) o
after_bytes-after_bytes a b None = refl
after_bytes-after_bytes a b (Some xs) = ap Some (sym (append_assoc a b xs))

-- what was read before, and then more
pub has_read_more : {left left' : Option (List ℕ)} (left'' : Option (List ℕ)) (read more : List ℕ) →
    left ≡ after_bytes read left' → left' ≡ after_bytes more left'' → left ≡ after_bytes (read ++ more) left''
has_read_more left'' read more e f = e ∙ ap (after_bytes read) f ∙ after_bytes-after_bytes read more left''

-- what holds whatever follows holds of the whole input
pub of_input : (P : List ℕ → Type 0) (read : List ℕ) {left : Option (List ℕ)} (left' : Option (List ℕ)) →
    left ≡ after_bytes read left' → ((more : List ℕ) → P (read ++ more)) → IfSome left P
of_input P read {left} None e h = let Q : Option (List ℕ) → Type 0 = λ o. IfSome o P in subst Q (sym e) tt
of_input P read {left} (Some more) e h = let Q : Option (List ℕ) → Type 0 = λ o. IfSome o P in subst Q (sym e) (h more)
