use Rattle.std.proofs.Common.{rules, ◌∙◌}
use Rattle.std.proofs.lemmas.Result.{err_from_is_err_and}
use Rattle.goref_tools.specs.Judging.{BeginsToJudge, Judges, verdict_text}
use Rattle.goref_tools.proofs.Judged.{refuses_game}
use Rattle.goref_tools.proofs.Whole.{all_prefix, not_read, of_whole, on_ok, refuses, same_error}
use Rattle.goref_tools.proofs.judge.judge_run.Goals as goal

pub returns-in_err-checked-clause-refused : goal.returns-in_err-checked-clause-refused
returns-in_err-checked-clause-refused g c = λ why h.
    let p = err_from_is_err_and c.from_residual-in_err-checked.result c.from_residual-in_err-checked.ensures.1 in
    refuses c.in_ok-text.text.items (g.R.Source.left c.args.reader.now) (g.R.Source.left c.read_input.new.reader)
    c.in_ok-text.ensures.input c.in_err-checked.field-0.0
    (rw c.as_slice.ensures.value at c.in_err-checked.ensures.refused)
    (λ long. let e = c.in_err-checked.ensures.too_long.1 (rw c.as_slice.ensures.value long) in cc)
    why (same_error p.1 p.2 h)

pub returns-in_err-verdict-clause-game_refused : goal.returns-in_err-verdict-clause-game_refused
returns-in_err-verdict-clause-game_refused g c = λ why h.
    let told = rw (c.in_ok-checked.ensures.source, c.as_slice.ensures.value) at c.in_err-verdict.ensures.err in
    let p = err_from_is_err_and c.from_residual-in_err-verdict.result c.from_residual-in_err-verdict.ensures.1 in
    refuses_game c.in_ok-text.text.items (g.R.Source.left c.args.reader.now) (g.R.Source.left c.read_input.new.reader)
    c.in_ok-text.ensures.input
    (λ long. let e = c.in_ok-checked.ensures.too_long.1 (rw c.as_slice.ensures.value long) in cc)
    told.0 told.1 c.in_err-verdict.field-0.0 told.2
    why (same_error p.1 p.2 h)

pub returns-in-Ok-clause-ok : goal.returns-in-Ok-clause-ok
returns-in-Ok-clause-ok g c =
    let told = rw (c.in_ok-checked.ensures.source, c.as_slice.ensures.value) at c.in_ok-verdict.ensures.ok in
    on_ok c.flush.result (of_whole
    (λ input. Judges input (g.W.Sink.taken c.args.writer.now) (g.W.Sink.taken c.flush.new.writer))
    c.in_ok-text.text.items (g.R.Source.left c.read_input.new.reader) c.in_ok-text.ensures.input
    (λ long. let e = c.in_ok-checked.ensures.too_long.1 (rw c.as_slice.ensures.value long) in cc) (
      told.0,
      told.1,
      (c.in_ok-verdict.verdict, told.2, c.flush.ensures.bytes ∙ c.in-Ok.ensures.sent),
    ))

pub returns-in-Ok-clause-write : goal.returns-in-Ok-clause-write
returns-in-Ok-clause-write g c = λ h.
    let told = rw (c.in_ok-checked.ensures.source, c.as_slice.ensures.value) at c.in_ok-verdict.ensures.ok in
    of_whole (λ input. BeginsToJudge input (g.W.Sink.taken c.args.writer.now) (g.W.Sink.taken c.flush.new.writer))
    c.in_ok-text.text.items (g.R.Source.left c.read_input.new.reader) c.in_ok-text.ensures.input
    (λ long. let e = c.in_ok-checked.ensures.too_long.1 (rw c.as_slice.ensures.value long) in cc) (
      told.0,
      told.1,
      (
        c.in_ok-verdict.verdict,
        told.2,
        all_prefix (verdict_text c.in_ok-verdict.verdict) (c.flush.ensures.bytes ∙ c.in-Ok.ensures.sent),
      ),
    )

pub returns-clause-write : goal.returns-clause-write
returns-clause-write g c = λ h.
    let told = rw (c.in_ok-checked.ensures.source, c.as_slice.ensures.value) at c.in_ok-verdict.ensures.ok in
    of_whole (λ input. BeginsToJudge input (g.W.Sink.taken c.args.writer.now)
    (g.W.Sink.taken c.write_verdict.new.writer))
    c.in_ok-text.text.items (g.R.Source.left c.read_input.new.reader) c.in_ok-text.ensures.input
    (λ long. let e = c.in_ok-checked.ensures.too_long.1 (rw c.as_slice.ensures.value long) in cc) (
      told.0,
      told.1,
      (c.in_ok-verdict.verdict, told.2, c.in-Err.ensures.sent),
    )

pub returns-in-Ok-clause-devices : goal.returns-in-Ok-clause-devices
returns-in-Ok-clause-devices g c = record {
  reads = search rules;
  pulls = search rules;
  one_end = search rules;
  read_failures = c.in_ok-text.ensures.failures ∙ not_read c.flush.result _ c.flush.ensures.error;
  write_failures = search rules;
  nothing_written = search rules;
  passed = search rules;
}
