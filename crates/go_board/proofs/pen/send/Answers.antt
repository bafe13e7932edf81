use Rattle.std.proofs.Common.{◌∙◌, ◌++◌, ap, sym, append_assoc, rules}
use Rattle.go_board.specs.Device.{then_bytes}
use Rattle.go_board.specs.lemmas.Writing.{then_bytes-then_bytes}
use Rattle.go_board.proofs.Devices.{no_failure_more}
use Rattle.go_board.proofs.pen.send.Goals as goal

pub loop-rest-preserved : goal.loop-rest-preserved
loop-rest-preserved g c =
    let now = c.loop-rest.invariant in
    let first = c.split_at.result.0.now in
    record {
      prefix = now.prefix ++ first;
      whole = now.whole ∙ ap (λ xs. now.prefix ++ xs) c.split_at.ensures.by_index.0
          ∙ sym (append_assoc now.prefix first c.split_at.result.1.now);
      taken = c.in-Ok.ensures.bytes ∙ ap (λ xs. then_bytes (g.W.Sink.taken c.loop-rest.writer) xs)
          (sym c.split_at.ensures.front)
          ∙ ap (λ o. then_bytes o first) now.taken
          ∙ then_bytes-then_bytes (g.W.Sink.taken c.args.writer.now) now.prefix first;
      failures = no_failure_more _ _ c.in-Ok.count-test.1 c.in-Ok.ensures.failures ∙ now.failures;
    }

pub returns-in-Err-clause-sent : goal.returns-in-Err-clause-sent
returns-in-Err-clause-sent g c = search rules

pub returns-in-Err-clause-failures : goal.returns-in-Err-clause-failures
returns-in-Err-clause-failures g c = search rules
