-- Points of two colours are in no chain together.
use Rattle.std.proofs.Common.{◌≡◌, ◌↔◌, ◌∙◌, ℕ, Bool, List, [], ◌∷◌, Option, Some, None, ap, false, true, not, refl, sym}
use Rattle.std.specs.Prelude.{IsTrue}
use Rattle.std.specs.Option.{option_eq}
use Rattle.std.proofs.lemmas.Bool.{false≢true, false_from_ne_true}
use Rattle.go_board.specs.declared.colour.Colour.{Colour}
use Rattle.go_board.specs.declared.colour.Colour.TheVariants.{Black, White}
use Rattle.go_board.specs.Colours.{Colouring, colour_at}
use Rattle.go_board.specs.Paths.{Joined, Leads}
use Rattle.go_board.specs.Reaching.{joined}

-- what a test of colours tells, of which each passes beside itself alone
module _ (eq : Colour → Colour → Bool) where
  pub not_same : eq Black Black ≡ true → eq White White ≡ true → (a b : Option Colour) → true ≡ not (option_eq eq a b) →
      a ≡ b → ⊥
  not_same black white None b e is = false≢true (ap (λ (o : Option Colour). not (option_eq eq None o)) is ∙ sym e)
  not_same black white (Some Black) b e is =
      false≢true (sym (ap not black) ∙ ap (λ (o : Option Colour). not (option_eq eq (Some Black) o)) is ∙ sym e)
  not_same black white (Some White) b e is =
      false≢true (sym (ap not white) ∙ ap (λ (o : Option Colour). not (option_eq eq (Some White) o)) is ∙ sym e)

  pub same : eq Black White ≡ false → eq White Black ≡ false → (a b : Option Colour) → false ≡ not (option_eq eq a b) →
      a ≡ b
  same black white None None e = refl
  same black white None (Some d) e = absurd (false≢true e)
  same black white (Some c) None e = absurd (false≢true e)
  same black white (Some Black) (Some Black) e = refl
  same black white (Some Black) (Some White) e = absurd (false≢true (e ∙ ap not black))
  same black white (Some White) (Some Black) e = absurd (false≢true (e ∙ ap not white))
  same black white (Some White) (Some White) e = refl

-- a path keeps to its colour
alike : (n : ℕ) (g : Colouring) (p q : ℕ) (path : List ℕ) → Leads n g p path q → colour_at g p ≡ colour_at g q
alike n g p q [] e = ap (colour_at g) e
alike n g p q (r ∷ path) leads = sym leads.1 ∙ alike n g r q path leads.2

pub apart : (n : ℕ) (g : Colouring) (p q : ℕ) → (IsTrue (joined n g p q) ↔ Joined n g p q) →
    (colour_at g p ≡ colour_at g q → ⊥) → joined n g p q ≡ false
apart n g p q by differ = false_from_ne_true (joined n g p q) (λ t. (let j = by.0 t in differ (alike n g p q j.0 j.1)))
