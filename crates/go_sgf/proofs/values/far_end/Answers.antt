use Rattle.std.proofs.Common.{◌≡◌, ◌∷◌, [], sym, subst, take, ◌∙◌, eqb-true}
use Rattle.std.proofs.lemmas.List.{nil_from_length, take-append-drop}
use Rattle.go_sgf.specs.declared.limits.TheConstants.{MAX_DEPTH}
use Rattle.go_sgf.proofs.Inside.{byte_at, no_end, no_end_escape, ordinary_on, split_further, stop_is_escape, value_up_to, value_past_escape}
use Rattle.go_sgf.specs.inner.Reads.{HasNoEnd}
use Rattle.go_sgf.specs.inner.Tidied.{NeverEnds}
use Rattle.go_sgf.proofs.Passed.{never_ends, never_ends_escape}
use Rattle.go_sgf.proofs.Machine.{escape_ends, ordinary_ends}
use Rattle.go_sgf.proofs.values.far_end.Goals as goal

pub returns-then-byte-eq93-clause-inside : goal.returns-then-byte-eq93-clause-inside
returns-then-byte-eq93-clause-inside c =
    value_up_to c.loop-prefix.read c.args.bytes.now c.in-Some.prefix.now (c.in-Some.byte ∷ c.in-Some.more.now)
    c.loop-prefix.invariant.within c.loop-prefix.invariant.inside c.in-Some.ensures.prefix
    (sym c.split_at.ensures.back ∙ c.in-Some.ensures.whole)

pub returns-then-byte-eq93-clause-bracket : goal.returns-then-byte-eq93-clause-bracket
returns-then-byte-eq93-clause-bracket c =
    let at = byte_at c.loop-prefix.read c.args.bytes.now c.in-Some.prefix.now c.in-Some.byte c.in-Some.more.now
    c.loop-prefix.invariant.within (sym c.split_at.ensures.back ∙ c.in-Some.ensures.whole) in
    (at.0, at.1 ∙ c.if-byte-eq93.true)

pub returns-then-is_empty-clause-none : goal.returns-then-is_empty-clause-none
returns-then-is_empty-clause-none c = λ d h.
    let escape : c.in-Some.byte ≡ 92 = stop_is_escape c.in-Some.byte c.in-Some.ensures.stopped c.if-byte-eq93.false in
    let end : c.in-Some.more.now ≡ [] = nil_from_length _ (eqb-true _ 0 (sym c.if-is_empty.ensures)) in
    escape_ends MAX_DEPTH d h c.loop-prefix.read c.args.bytes.now c.in-Some.prefix.now c.loop-prefix.invariant.inside
    c.in-Some.ensures.prefix (rw (← escape, ← end) (sym c.split_at.ensures.back ∙ c.in-Some.ensures.whole))

pub loop-prefix-preserved : goal.loop-prefix-preserved
loop-prefix-preserved c =
    let escape : c.in-Some.byte ≡ 92 = stop_is_escape c.in-Some.byte c.in-Some.ensures.stopped c.if-byte-eq93.false in
    let past = value_past_escape c.loop-prefix.read c.args.bytes.now c.in-Some.prefix.now c.in-Some.more.now
    c.loop-prefix.invariant.within c.loop-prefix.invariant.inside c.in-Some.ensures.prefix
    (rw (← escape) (sym c.split_at.ensures.back ∙ c.in-Some.ensures.whole)) (sym c.if-is_empty.ensures) in
    record { within = past.0; inside = past.1 }

pub returns-clause-none : goal.returns-clause-none
returns-clause-none c = λ d h.
    ordinary_ends MAX_DEPTH d h c.loop-prefix.read c.args.bytes.now c.loop-prefix.invariant.inside
    (rw (← c.split_at.ensures.back) c.in_default.ensures.none)

pub returns-then-is_empty-clause-unended : goal.returns-then-is_empty-clause-unended
returns-then-is_empty-clause-unended c =
    let escape : c.in-Some.byte ≡ 92 = stop_is_escape c.in-Some.byte c.in-Some.ensures.stopped c.if-byte-eq93.false in
    let end : c.in-Some.more.now ≡ [] = nil_from_length _ (eqb-true _ 0 (sym c.if-is_empty.ensures)) in
    let split = split_further c.loop-prefix.read c.args.bytes.now c.in-Some.prefix.now (92 ∷ [])
    c.loop-prefix.invariant.within
    (rw (← escape, ← end) (sym c.split_at.ensures.back ∙ c.in-Some.ensures.whole)) in
    let inside = value_up_to c.loop-prefix.read c.args.bytes.now c.in-Some.prefix.now (92 ∷ [])
    c.loop-prefix.invariant.within c.loop-prefix.invariant.inside
    c.in-Some.ensures.prefix (rw (← escape, ← end) (sym c.split_at.ensures.back ∙ c.in-Some.ensures.whole)) in
    subst NeverEnds (sym split.1) (never_ends_escape _ inside)

pub returns-clause-unended : goal.returns-clause-unended
returns-clause-unended c =
    subst NeverEnds (take-append-drop c.loop-prefix.read c.args.bytes.now)
    (never_ends _ (ordinary_on (take c.loop-prefix.read c.args.bytes.now) _ c.loop-prefix.invariant.inside
    (rw (← c.split_at.ensures.back) c.in_default.ensures.none)))

pub returns-then-is_empty-clause-no_end : goal.returns-then-is_empty-clause-no_end
returns-then-is_empty-clause-no_end c =
    let escape : c.in-Some.byte ≡ 92 = stop_is_escape c.in-Some.byte c.in-Some.ensures.stopped c.if-byte-eq93.false in
    let end : c.in-Some.more.now ≡ [] = nil_from_length _ (eqb-true _ 0 (sym c.if-is_empty.ensures)) in
    let split = split_further c.loop-prefix.read c.args.bytes.now c.in-Some.prefix.now (92 ∷ [])
    c.loop-prefix.invariant.within
    (rw (← escape, ← end) (sym c.split_at.ensures.back ∙ c.in-Some.ensures.whole)) in
    let inside = value_up_to c.loop-prefix.read c.args.bytes.now c.in-Some.prefix.now (92 ∷ [])
    c.loop-prefix.invariant.within c.loop-prefix.invariant.inside
    c.in-Some.ensures.prefix (rw (← escape, ← end) (sym c.split_at.ensures.back ∙ c.in-Some.ensures.whole)) in
    subst HasNoEnd (sym split.1) (no_end_escape _ inside)

pub returns-clause-no_end : goal.returns-clause-no_end
returns-clause-no_end c =
    subst HasNoEnd (take-append-drop c.loop-prefix.read c.args.bytes.now)
    (no_end _ (ordinary_on (take c.loop-prefix.read c.args.bytes.now) _ c.loop-prefix.invariant.inside
    (rw (← c.split_at.ensures.back) c.in_default.ensures.none)))
