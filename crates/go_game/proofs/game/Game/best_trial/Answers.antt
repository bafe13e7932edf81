use Rattle.std.proofs.Common.{arith, ◌≡◌, ◌∙◌, ◌≤◌, ◌<◌, ◌+◌, ◌*◌, ℕ, ap, subst, sym}
use Rattle.go_board.specs.Points.{number_of}
use Rattle.go_game.specs.Counts.{most_on, most_on_all}
use Rattle.go_game.specs.Standings.{Standing}
use Rattle.go_game.proofs.Choosing.{best_more, tried_at}
use Rattle.go_game.proofs.Counting.{again_as_before}
use Rattle.go_game.proofs.Filling.{next_fourfold}
use Rattle.go_game.proofs.game.Game.best_trial.Goals as goal

pub loop-number-preserved : goal.loop-number-preserved
loop-number-preserved g c =
    let s = c.args.self.now.standing in
    let i = c.loop-number.number in
    let square : c.size-size.result * c.size-size.result ≡ s.lines * s.lines =
    ap (λ m. let k : ℕ = m * m in k) c.size-size.ensures.lines in
    let low : i < s.lines * s.lines =
    omega (arith, c.loop-number-test.true, c.points-number-end.ensures.value, square) in
    let size : c.size-size.result ≡ c.loop-number.self.standing.lines = c.size-size.ensures.lines
    ∙ ap (λ (t : Standing). t.lines) (sym c.loop-number.invariant.same.standing) in
    let number : number_of c.loop-number.self.standing.lines c.numbered.result ≡ i =
    ap (λ m. number_of m c.numbered.result) (sym size) ∙ c.numbered.ensures.back in
    let tried = subst (λ (t : Standing). let few : Type 0 =
    c.try_at.new.self.count ≤ c.loop-number.self.count + 4 * most_on t c.args.colour i in few)
    c.loop-number.invariant.same.standing
    (subst (λ (k : ℕ). let few : Type 0 =
    c.try_at.new.self.count ≤ c.loop-number.self.count + 4 * most_on c.loop-number.self.standing c.args.colour k in
    few) number c.in_ok-trial.ensures.count) in
    let there = tried_at c.loop-number.self.standing c.args.colour c.size-size.result c.numbered.result i size
    c.numbered.ensures.value c.numbered.ensures.back in
    record {
      same = again_as_before c.args.self.now c.loop-number.self c.try_at.new.self c.loop-number.invariant.same
          c.in_ok-trial.ensures.same;
      best = best_more s c.loop-number.self.standing c.args.colour i c.loop-number.best c.in_ok-trial.trial
          c.better_of-best.result c.loop-number.invariant.same.standing c.loop-number.invariant.best
          (c.in_ok-trial.ensures.ok ∙ there) c.better_of-best.ensures;
      count = next_fourfold (most_on s c.args.colour) i (s.lines * s.lines) c.loop-number.self.count
          c.try_at.new.self.count (c.args.self.now.count + 4 * most_on_all s c.args.colour) low
          c.loop-number.invariant.count tried;
    }

pub returns-in_err-trial-clause-count : goal.returns-in_err-trial-clause-count
returns-in_err-trial-clause-count g c =
    let s = c.args.self.now.standing in
    let i = c.loop-number.number in
    let square : c.size-size.result * c.size-size.result ≡ s.lines * s.lines =
    ap (λ m. let k : ℕ = m * m in k) c.size-size.ensures.lines in
    let low : i < s.lines * s.lines =
    omega (arith, c.loop-number-test.true, c.points-number-end.ensures.value, square) in
    let size : c.size-size.result ≡ c.loop-number.self.standing.lines = c.size-size.ensures.lines
    ∙ ap (λ (t : Standing). t.lines) (sym c.loop-number.invariant.same.standing) in
    let number : number_of c.loop-number.self.standing.lines c.numbered.result ≡ i =
    ap (λ m. number_of m c.numbered.result) (sym size) ∙ c.numbered.ensures.back in
    let tried = subst (λ (t : Standing). let few : Type 0 =
    c.try_at.new.self.count ≤ c.loop-number.self.count + 4 * most_on t c.args.colour i in few)
    c.loop-number.invariant.same.standing
    (subst (λ (k : ℕ). let few : Type 0 =
    c.try_at.new.self.count ≤ c.loop-number.self.count + 4 * most_on c.loop-number.self.standing c.args.colour k in
    few) number c.try_at.ensures.count) in
    omega (
      arith,
      next_fourfold (most_on s c.args.colour) i (s.lines * s.lines) c.loop-number.self.count
          c.try_at.new.self.count (c.args.self.now.count + 4 * most_on_all s c.args.colour) low
          c.loop-number.invariant.count tried,
    )
