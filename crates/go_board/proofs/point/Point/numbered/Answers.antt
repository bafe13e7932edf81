use Rattle.std.proofs.Common.{rules, arith, ◌≡◌, ◌-◌, ◌*◌, ◌/◌, ◌%◌, ◌∙◌, ℕ, ap₂}
use Rattle.std.proofs.Math.Nat.{div-add-mod}
use Rattle.go_board.specs.declared.point.Point.{Point}
use Rattle.go_board.proofs.point.Point.numbered.Goals as goal

pub returns-clause-value : goal.returns-clause-value
returns-clause-value c =
    let before : c.row_at-row.result * c.from.result ≡ c.args.number / c.args.size * c.args.size =
    ap₂ (λ (r l : ℕ). r * l) c.row_at-row.ensures.row (c.from.ensures ∙ c.lines.ensures.value) in
    let split = div-add-mod c.args.number c.args.size in
    let col : c.args.number - c.row_at-row.result * c.from.result ≡ c.args.number % c.args.size =
    omega (arith, before, split) in
    ap₂ (λ (k r : ℕ). let p : Point = record { col = k; row = r } in p) col c.row_at-row.ensures.row

pub returns-clause-back : goal.returns-clause-back
returns-clause-back c = search rules
