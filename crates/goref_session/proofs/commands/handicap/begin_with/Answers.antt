use Rattle.std.proofs.Common.{arith, ◌≡◌, ◌<◌, ◌*◌, ◌∙◌, ℕ, Err, length, true, true≢false, sym, ap, rules}
use Rattle.go_board.specs.Points.{number_of}
use Rattle.go_board.specs.Reaching.{is_dead}
use Rattle.goref_session.proofs.Starting.{memory_alone}
use Rattle.goref_session.proofs.commands.handicap.begin_with.Goals as goal

pub returns-in-Err-clause-memory : goal.returns-in-Err-clause-memory
returns-in-Err-clause-memory g c = memory_alone c.in-Err.error (λ p e.
    let n = c.size.result in
    let stones = c.stones_on-stones.result in
    let few : length c.args.points.now < n * n =
    omega (arith, c.requires.few, ap (λ (m : ℕ). m * m) c.size.ensures.lines) in
    let found = c.start_from.ensures.no_liberty p (c.in-Err.is ∙ ap Err e) in
    let k = number_of stones.lines p in
    let dead : is_dead n stones.colours k ≡ true =
    ap (λ (m : ℕ). is_dead m stones.colours k) (sym c.stones_on-stones.ensures.lines) ∙ found.dead in
    true≢false (sym dead ∙ c.stones_on-stones.ensures.alive few k))

pub returns-in-Ok-clause-ok : goal.returns-in-Ok-clause-ok
returns-in-Ok-clause-ok g c = search rules
