use Rattle.std.proofs.Common.{ℕ, List, [], ◌∷◌, ◌++◌, sym, ap, ◌∙◌, Err}
use Rattle.std.specs.Prelude.{option_map}
use Rattle.std.proofs.lemmas.Result.{err_from_is_err_and}
use Rattle.go_sgf.specs.declared.limits.TheConstants.{MAX_DEPTH}
use Rattle.go_sgf.specs.Record.{Property, values_of}
use Rattle.go_sgf.proofs.Passing.{passes, property_begins, property_stops, property_whole, refuses}
use Rattle.go_sgf.proofs.reader.read_property.Goals as goal

pub returns-then-not-is_name-clause-place : goal.returns-then-not-is_name-clause-place
returns-then-not-is_name-clause-place g c = λ d h. refuses _ _ _
    (property_stops MAX_DEPTH d h c.args.bytes.now c.name_at-is_name.result.0.now c.name_at-is_name.result.1.now
    c.name_at-is_name.ensures.whole
    c.name_at-is_name.ensures.letters (sym c.name_at-is_name.ensures.upper ∙ c.if-not-is_name.true) c.requires
    c.name_at-is_name.ensures.stopped ∙ ap Err (sym c.unexpected.ensures))

pub returns-in_err-rest-clause-place : goal.returns-in_err-rest-clause-place
returns-in_err-rest-clause-place g c = λ d h.
    let p = err_from_is_err_and c.from_residual.result c.from_residual.ensures.1 in
    rw (p.1, p.2)
    (passes _ _ _ _ _ (property_begins MAX_DEPTH d h c.args.bytes.now c.name_at-is_name.result.0.now
    c.name_at-is_name.result.1.now
    c.name_at-is_name.ensures.whole c.name_at-is_name.ensures.letters
    (sym c.name_at-is_name.ensures.upper ∙ c.if-not-is_name.false)) (c.in_err-rest.ensures.place d h))

pub returns-clause-read : goal.returns-clause-read
returns-clause-read g c =
    let read = c.in_ok-rest.ensures.read in
    let made : List (List ℕ) → Property = λ vs. record { name = c.name_at-is_name.result.0.now; values = vs } in (
      made read.0,
      λ keeps.
          c.in_ok-add_property.ensures.added keeps
          ∙ ap (λ vs. option_map (λ ps. ps ++ made vs ∷ []) c.args.list.now)
          (read.1 keeps ∙ ap (λ us. values_of us ++ read.0) c.new-own.ensures),
      property_whole c.args.bytes.now c.name_at-is_name.result.0.now c.name_at-is_name.result.1.now read.0
          c.in_ok-rest.rest.now c.name_at-is_name.ensures.whole
          c.name_at-is_name.ensures.letters (sym c.name_at-is_name.ensures.upper ∙ c.if-not-is_name.false) c.requires
          read.2,
    )

pub returns-clause-place : goal.returns-clause-place
returns-clause-place g c = λ d h.
    property_begins MAX_DEPTH d h c.args.bytes.now c.name_at-is_name.result.0.now c.name_at-is_name.result.1.now
    c.name_at-is_name.ensures.whole c.name_at-is_name.ensures.letters
    (sym c.name_at-is_name.ensures.upper ∙ c.if-not-is_name.false) ∙ c.in_ok-rest.ensures.place d h
