use Rattle.std.proofs.Common.{◌≡◌, ◌∙◌, ℕ, not, nat_eq, length, List, [], ◌∷◌, refl, sym, ap, cond, rules, tests}
use Rattle.std.specs.Prelude.{filter, slice_get}
use Rattle.std.specs.List.{slice_split}
use Rattle.std.proofs.lemmas.Iterator.Consumers.{nth_from_yields_List, YieldsList-from_filter, YieldsList-at}
use Rattle.std.proofs.lemmas.Iterator.Splits.{YieldsList-from_slice_split}
use Rattle.goref_lines.specs.Words.{is_plain_space, has_bytes}
use Rattle.goref_lines.proofs.Pushes.{has_bytes_is}
use Rattle.goref_lines.proofs.words.word.Goals as goal

filter_not_empty : (parts : List (List ℕ)) →
    filter (λ part. not (nat_eq (length part) 0)) parts ≡ filter has_bytes parts
filter_not_empty [] = refl
filter_not_empty ([] ∷ parts) = filter_not_empty parts
filter_not_empty ((b ∷ part) ∷ parts) =
    ap (λ c. cond c ((b ∷ part) ∷ filter (λ part. not (nat_eq (length part) 0)) parts)
    (filter (λ part. not (nat_eq (length part) 0)) parts)) (sym (has_bytes_is (b ∷ part)))
    ∙ ap (λ parts. (b ∷ part) ∷ parts) (filter_not_empty parts)

pub returns : goal.returns
returns c =
    nth_from_yields_List {v = λ x. x.now} _ _ _ c.nth.ensures.ran
    (YieldsList-from_filter _ (λ part. not (nat_eq (length part) 0))
    (YieldsList-at c.filter.ensures.source
    (YieldsList-from_slice_split _ is_plain_space c.args.text.now c.split.ensures.rest c.split.ensures.done
    c.split.ensures.closure (λ x b q h. search rules)))
    c.filter.ensures.closure (λ x b q h. search (rules, tests)))
    ∙ ap (λ ws. slice_get ws c.args.place) (filter_not_empty (slice_split is_plain_space c.args.text.now))
