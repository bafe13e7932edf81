-- The first line of a text, by a search for its end.
use Rattle.std.proofs.Common.{◌≡◌, ◌∙◌, ◌<◌, ℕ, zero, suc, List, [], ◌∷◌, Bool, true, false, None, Some, length, take, refl, ap, arith, slice_index}
use Rattle.goref.specs.Lines.{is_line_end}
use Rattle.goref_c.specs.Sessions.{line_at_start, line_goes_on}
use Rattle.memchr.specs.Find.{IsFirstByte, is_byte}

goes_on_where : (b : Bool) (c : ℕ) (line : List ℕ) → ¬ (b ≡ true) → line_goes_on b c line ≡ c ∷ line
goes_on_where true c line h = absurd (h refl)
goes_on_where false c line h = refl

ends_where : (b : Bool) (c : ℕ) (line : List ℕ) → b ≡ true → line_goes_on b c line ≡ []
ends_where true c line h = refl
ends_where false c line h = cc

whole : (text : List ℕ) → ((k : ℕ) → k < length text → ¬ (is_line_end (slice_index text k) ≡ true)) →
    line_at_start text ≡ text
whole [] h = refl
whole (b ∷ text) h =
    goes_on_where (is_line_end b) b (line_at_start text) (h 0 (omega arith))
    ∙ ap (λ t. b ∷ t) (whole text (λ k l. h (suc k) (omega arith)))

up_to : (text : List ℕ) (end : ℕ) → ((k : ℕ) → k < end → ¬ (is_line_end (slice_index text k) ≡ true)) →
    end < length text →
    is_line_end (slice_index text end) ≡ true → line_at_start text ≡ take end text
up_to [] end h l e = absurd (omega arith)
up_to (b ∷ text) zero h l e = ends_where (is_line_end b) b (line_at_start text) e
up_to (b ∷ text) (suc end) h l e =
    goes_on_where (is_line_end b) b (line_at_start text) (h 0 (omega arith))
    ∙ ap (λ t. b ∷ t) (up_to text end (λ k m. h (suc k) (omega arith)) (omega arith) e)

pub no_end_found : (text : List ℕ) → IsFirstByte (is_byte 10) text None → line_at_start text ≡ text
no_end_found text h = whole text (λ k l. h k (omega arith) l)

pub end_found : (text : List ℕ) (end : ℕ) → IsFirstByte (is_byte 10) text (Some end) →
    line_at_start text ≡ take end text
end_found text end h = up_to text end (λ k l. h.0.before k (omega arith) l) h.0.high h.1
