use Rattle.std.proofs.Common.{arith, ◌≡◌, ◌<◌, ◌≤◌, ◌*◌, ◌/◌, ◌∙◌, ℕ, ap, sym, subst, slice_index}
use Rattle.std.proofs.Math.Nat.{div-mul-le_self}
use Rattle.go_board.specs.declared.point.TheConstants.{SHARES}
use Rattle.go_board.proofs.Dividing.{product_fits, row_by_share, shares}
use Rattle.go_board.proofs.point.row_at.Goals as goal

-- the product, by the size and the number themselves
product : (c : goal.After-from-2) →
    c.from-2.result * slice_index SHARES c.from.result ≡ c.args.number * slice_index SHARES c.args.size
product c = ap (λ k. k * slice_index SHARES c.from.result) c.from-2.ensures
    ∙ ap (λ l. c.args.number * slice_index SHARES l) (c.from.ensures ∙ c.lines.ensures.value)

row : (c : goal.After-from-2) → c.from-2.result * slice_index SHARES c.from.result / 65536 ≡ c.args.number / c.args.size
row c =
    let some : 0 < c.args.size = omega (arith, c.lines.ensures.range.0, c.lines.ensures.value) in
    let few : c.args.size ≤ 25 = omega (arith, c.lines.ensures.range.1, c.lines.ensures.value) in
    ap (λ k. k / 65536) (product c)
    ∙ row_by_share c.args.size (slice_index SHARES c.args.size) c.args.number some few (shares c.args.size some few)
    c.requires

pub overflow_mul-result : goal.overflow_mul-result
overflow_mul-result c =
    let some : 0 < c.args.size = omega (arith, c.lines.ensures.range.0, c.lines.ensures.value) in
    let few : c.args.size ≤ 25 = omega (arith, c.lines.ensures.range.1, c.lines.ensures.value) in
    omega (
      arith,
      product c,
      product_fits c.args.size (slice_index SHARES c.args.size) c.args.number some few
          (shares c.args.size some few) c.requires,
    )

pub overflow_cast-result : goal.overflow_cast-result
overflow_cast-result c =
    let few : c.args.number / c.args.size ≤ c.args.number = omega arith in
    omega (arith, row c, few)

pub returns-clause-row : goal.returns-clause-row
returns-clause-row c = row c

pub returns-clause-before : goal.returns-clause-before
returns-clause-before c = subst (λ (k : ℕ). k * c.args.size ≤ c.args.number) (sym (row c))
    (div-mul-le_self c.args.number c.args.size)
