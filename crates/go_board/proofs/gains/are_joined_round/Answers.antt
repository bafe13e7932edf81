use Rattle.std.proofs.Common.{arith, ◌≡◌, ◌<◌, ◌≤◌, ◌+◌, ◌⊎◌, inl, inr, refl, ℕ}
use Rattle.std.proofs.lemmas.Bool.{cases_eq, leb-true}
use Rattle.go_board.proofs.Rounding.{round_same}
use Rattle.go_board.proofs.gains.are_joined_round.Goals as goal

line_is : (n line before : ℕ) → (0 < line → before + 1 ≡ line) → (line ≡ 0 → n ≤ before) → ((line ≡ 0) × (n ≤ before))
    ⊎ (before + 1 ≡ line)
line_is n line before some none =
    elim (cases_eq line 0) [ inl first ↦ inl (first, none first) | inr further ↦ inr (some (omega (arith, further))) ]

pub returns : goal.returns
returns c there test passes =
    round_same c.args.rows.now c.args.lines c.args.row c.args.col (c.args.row + 1) c.line_before-down.result
    (c.args.col + 1) c.line_before-left.result refl refl
    (line_is c.args.lines c.args.row c.line_before-down.result c.line_before-down.ensures.before
    (λ first. omega (arith, c.line_before-down.ensures.none first, c.requires.lines)))
    (line_is c.args.lines c.args.col c.line_before-left.result c.line_before-left.ensures.before
    (λ first. omega (arith, c.line_before-left.ensures.none first, c.requires.lines)))
    c.is_open-north.result c.is_open.result c.is_open-east.result c.is_open-2.result c.is_open-south.result
    c.is_open-3.result c.is_open-west.result c.is_open-4.result
    c.is_open-north.ensures c.is_open.ensures c.is_open-east.ensures c.is_open-2.ensures c.is_open-south.ensures
    c.is_open-3.ensures c.is_open-west.ensures c.is_open-4.ensures
    (let few = leb-true _ _ there in
    omega (arith, few, c.gap.ensures.value, c.gap-2.ensures.value, c.gap-3.ensures.value, c.gap-4.ensures.value))
    test passes
