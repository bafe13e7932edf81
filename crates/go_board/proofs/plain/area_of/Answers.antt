use Rattle.std.proofs.Common.{arith, ◌≡◌, ◌<◌, ◌≤◌, ◌+◌, ◌*◌, ◌∙◌, ℕ, ap, ap₂, cond, false, sym}
use Rattle.std.proofs.Math.ListN.{get_or}
use Rattle.go_board.specs.Points.{number_of}
use Rattle.go_board.specs.Colours.{colour_at}
use Rattle.go_board.specs.inner.Areas.{is_area_marked}
use Rattle.go_board.specs.Reaching.{is_area}
use Rattle.go_board.proofs.Counted.{area_counted, area_is, area_more}
use Rattle.go_board.proofs.plain.area_of.Goals as goal
use Rattle.go_board.proofs.plain.area_of.Goals.{then-is_area_of, else-is_area_of}

pub loop-number-preserved : goal.loop-number-preserved
loop-number-preserved c =
    let n = c.args.grid.now.lines in
    let g = c.args.grid.now.colours in
    let i = c.loop-number.number in
    let own = c.args.own.now in
    let theirs = c.args.theirs.now in
    let here : number_of n c.numbered.result ≡ i =
    ap (λ (m : ℕ). number_of m c.numbered.result) (sym c.size-size.ensures.lines) ∙ c.numbered.ensures.back in
    let low : i < n * n = omega (
      arith,
      c.loop-number-test.true,
      c.points-number-end.ensures.value,
      ap (λ (m : ℕ). m * m) c.size-size.ensures.lines,
    ) in
    let counts : c.is_area_of.result ≡ is_area n g c.args.colour i =
    c.is_area_of.ensures
    ∙ ap₂ (λ (k m : ℕ). is_area_marked (colour_at g k) c.args.colour (get_or own m false) (get_or theirs m false)) here
    c.from-place.ensures
    ∙ area_is n g c.args.colour i own theirs low c.requires.own c.requires.theirs in
    let count : c.if-is_area_of.count ≡ c.loop-number.count + cond c.is_area_of.result 1 0 =
    elim c.if-is_area_of.branch [
      | then-is_area_of w ↦ w.count-is ∙ ap (λ b. c.loop-number.count + cond b 1 0) (sym w.if-is_area_of.true)
      | else-is_area_of w ↦ w.count-is
          ∙ (let none : c.loop-number.count ≡ c.loop-number.count + 0 = omega arith in none)
          ∙ ap (λ b. c.loop-number.count + cond b 1 0) (sym w.if-is_area_of.false)
    ] in
    record {
      few = elim c.if-is_area_of.branch [
        | then-is_area_of w ↦ omega (arith, w.count-is, c.loop-number.invariant.few)
        | else-is_area_of w ↦
            omega (arith, w.count-is, c.loop-number.invariant.few)
      ];
      counted = area_more n g c.args.colour i c.loop-number.count c.if-is_area_of.count c.is_area_of.result
          c.loop-number.invariant.counted counts count;
    }

pub returns : goal.returns
returns c =
    let square = ap (λ (m : ℕ). m * m) c.size-size.ensures.lines in
    let all : c.args.grid.now.lines * c.args.grid.now.lines ≤ c.loop-number.number =
    omega (arith, c.loop-number-test.false, c.points-number-end.ensures.value, square) in
    let most : c.loop-number.number ≤ c.args.grid.now.lines * c.args.grid.now.lines =
    omega (arith, c.loop-number.auto.number-end, c.points-number-end.ensures.value, square) in
    area_counted c.args.grid.now.lines c.args.grid.now.colours c.args.colour c.loop-number.number c.loop-number.count
    all most c.loop-number.invariant.counted
