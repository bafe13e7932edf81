use Rattle.std.proofs.Common.{◌≡◌, ◌∙◌, ap, ap₂, ◌++◌, ◌+◌, ◌-◌, nat_lt}
use Rattle.go_board.specs.Points.{number_of}
use Rattle.go_chains.proofs.writes.Sides.{lone, sides}
use Rattle.go_chains.proofs.beside.put_beside.Goals as goal

pub returns : goal.returns
returns c =
    let n = c.args.size in
    let k = number_of n c.args.p in
    let lines : c.from-lines.result ≡ n = c.from-lines.ensures ∙ c.lines.ensures.value in
    let point : c.from-point.result ≡ k = c.from-point.ensures ∙ c.index.ensures.value in
    let col = c.from-col.ensures in
    let row = c.from-row.ensures in
    let low = ap₂ lone (ap (nat_lt 0) row) (c.saturating_sub.ensures ∙ ap₂ (λ a b. a - b) point lines) in
    let left = ap₂ lone (ap (nat_lt 0) col) (c.saturating_sub-2.ensures ∙ ap (λ a. a - 1) point) in
    let right = ap₂ lone (ap₂ (λ a b. nat_lt (a + 1) b) col lines) (ap (λ a. a + 1) point) in
    let high = ap₂ lone (ap₂ (λ a b. nat_lt (a + 1) b) row lines) (ap₂ (λ a b. a + b) point lines) in
    sides c.points_by_number.ensures n c.args.p c.push_if-4.new.numbers.items c.requires.on
    (c.push_if-4.ensures ∙ ap₂ (λ s t. s ++ t)
    (c.push_if-3.ensures ∙ ap₂ (λ s t. s ++ t)
    (c.push_if-2.ensures ∙ ap₂ (λ s t. s ++ t)
    (c.push_if.ensures ∙ ap₂ (λ s t. s ++ t) c.requires.empty low)
    left)
    right)
    high)
