use Rattle.std.proofs.Common.{arith, ◌≡◌, ◌<◌, ◌≤◌, ◌+◌, ◌*◌, ◌∙◌, ◌&&◌, ℕ, Some, None, ap, ap₂, cond, false, not, sym}
use Rattle.std.specs.Prelude.{if◌then◌else◌}
use Rattle.std.proofs.Math.ListN.{get_or, set}
use Rattle.go_board.specs.Points.{number_of}
use Rattle.go_board.specs.Reaching.{has_colour}
use Rattle.go_board.proofs.Clearing.{clearing_counts, clearing_done, clearing_more}
use Rattle.go_board.proofs.plain.clear.Goals as goal
use Rattle.go_board.proofs.plain.clear.Goals.{then-empty_dead, else-empty_dead}

pub loop-number-preserved : goal.loop-number-preserved
loop-number-preserved c =
    let n = c.args.grid.now.lines in
    let i = c.loop-number.number in
    let dies = c.empty_dead.result in
    let same_lines : c.loop-number.grid.lines ≡ n = c.loop-number.invariant.lines in
    let size_lines = c.size-size.ensures.lines in
    let here : number_of c.loop-number.grid.lines c.numbered-at.result ≡ i =
    ap (λ (m : ℕ). number_of m c.numbered-at.result) (same_lines ∙ sym size_lines) ∙ c.numbered-at.ensures.back in
    let low : i < n * n = omega (
      arith,
      c.loop-number-test.true,
      c.points-number-end.ensures.value,
      ap (λ (m : ℕ). m * m) size_lines,
    ) in
    let test : dies ≡ (has_colour c.loop-number.grid.colours i (Some c.args.colour) && not
    (get_or c.reaching-alive.result i false)) =
    c.empty_dead.ensures.taken
    ∙ ap₂ (λ (k m : ℕ). has_colour c.loop-number.grid.colours k (Some c.args.colour) && not
    (get_or c.reaching-alive.result m false)) here c.from.ensures in
    let colours = c.empty_dead.ensures.colours
    ∙ ap (λ (k : ℕ). if dies then set c.loop-number.grid.colours k None else c.loop-number.grid.colours) here in
    let count : c.if-empty_dead.taken ≡ c.loop-number.taken + cond dies 1 0 = elim c.if-empty_dead.branch [
      | then-empty_dead w ↦ w.taken-is ∙ ap (λ b. c.loop-number.taken + cond b 1 0) (sym w.if-empty_dead.true)
      | else-empty_dead w ↦ w.taken-is
          ∙ (let none : c.loop-number.taken ≡ c.loop-number.taken + 0 = omega arith in none)
          ∙ ap (λ b. c.loop-number.taken + cond b 1 0) (sym w.if-empty_dead.false)
    ] in
    record {
      lines = c.empty_dead.ensures.lines ∙ same_lines;
      few = elim c.if-empty_dead.branch [
        | then-empty_dead w ↦ omega (arith, w.taken-is, c.loop-number.invariant.few)
        | else-empty_dead w ↦
            omega (arith, w.taken-is, c.loop-number.invariant.few)
      ];
      clearing = clearing_more n c.args.grid.now.colours c.args.colour i c.loop-number.grid.colours
          c.empty_dead.new.grid.colours c.loop-number.taken c.if-empty_dead.taken c.reaching-alive.result dies low
          c.reaching-alive.ensures c.loop-number.invariant.clearing test colours count;
    }

pub returns-clause-colours : goal.returns-clause-colours
returns-clause-colours c =
    let all : c.args.grid.now.lines * c.args.grid.now.lines ≤ c.loop-number.number =
    omega (
      arith,
      c.loop-number-test.false,
      c.points-number-end.ensures.value,
      ap (λ (m : ℕ). m * m) c.size-size.ensures.lines,
    ) in
    clearing_done c.args.grid.now.lines c.args.grid.now.colours c.args.colour c.loop-number.number
    c.loop-number.grid.colours c.loop-number.taken all c.loop-number.invariant.clearing

pub returns-clause-taken : goal.returns-clause-taken
returns-clause-taken c =
    let square = ap (λ (m : ℕ). m * m) c.size-size.ensures.lines in
    let all : c.args.grid.now.lines * c.args.grid.now.lines ≤ c.loop-number.number =
    omega (arith, c.loop-number-test.false, c.points-number-end.ensures.value, square) in
    let most : c.loop-number.number ≤ c.args.grid.now.lines * c.args.grid.now.lines =
    omega (arith, c.loop-number.auto.number-end, c.points-number-end.ensures.value, square) in
    clearing_counts c.args.grid.now.lines c.args.grid.now.colours c.args.colour c.loop-number.number
    c.loop-number.grid.colours c.loop-number.taken all most c.loop-number.invariant.clearing
