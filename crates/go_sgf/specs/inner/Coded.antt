-- How trees are stored as a value: as a list that gives them back.
use Rattle.std.specs.Prelude.{◌≡◌, ℕ, List, [], ◌∷◌, ◌++◌, Option, Some, None, refl}
use Rattle.std.proofs.Common.{ap, sym, ◌∙◌, append_assoc}
use Rattle.std.proofs.lemmas.List.{append-nil}
use Rattle.std.specs.Coded.{Coded, code_by, coded×, coded_ℕ, coded_list, coded_option}
use Rattle.go_sgf.specs.Record.{Property, Trees, none, tree}

abbrev pub property_code : Coded Property
property_code =
    code_by (List ℕ × List (List ℕ)) (coded× (coded_list coded_ℕ) (coded_list (coded_list coded_ℕ)))
    (λ p. (p.name, p.values)) (λ p. record { name = p.0; values = p.1 }) (λ _. refl)

-- no trees, or the nodes of a tree whose children and later trees come before
abbrev pub Step : Type 0
Step = Option (List (List Property))

abbrev pub steps : Trees → List Step
steps none = None ∷ []
steps (tree nodes children later) = steps children ++ (steps later ++ (Some nodes ∷ []))

abbrev pub made : List Step → List Trees → List Trees
made [] done = done
made (None ∷ more) done = made more (none ∷ done)
made (Some nodes ∷ more) (later ∷ children ∷ done) = made more (tree nodes children later ∷ done)
made (Some nodes ∷ more) _ = []

abbrev pub last_made : List Trees → Trees
last_made [] = none
last_made (t ∷ ts) = t

pub made_back : (t : Trees) (more : List Step) (done : List Trees) → made (steps t ++ more) done ≡ made more (t ∷ done)
made_back none more done = refl
made_back (tree nodes children later) more done =
    ap (λ xs. made xs done) (append_assoc (steps children) (steps later ++ (Some nodes ∷ [])) more)
    ∙ made_back children ((steps later ++ (Some nodes ∷ [])) ++ more) done
    ∙ ap (λ xs. made xs (children ∷ done)) (append_assoc (steps later) (Some nodes ∷ []) more)
    ∙ made_back later (Some nodes ∷ more) (children ∷ done)

abbrev pub trees_code : Coded Trees
trees_code =
    code_by (List Step) (coded_list (coded_option (coded_list (coded_list property_code)))) steps
    (λ xs. last_made (made xs []))
    (λ t. ap (λ xs. last_made (made xs [])) (sym (append-nil (steps t))) ∙ ap last_made (made_back t [] []))
