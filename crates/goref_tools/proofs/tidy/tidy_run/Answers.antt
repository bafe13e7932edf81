use Rattle.std.proofs.Common.{rules, ◌∙◌}
use Rattle.std.proofs.lemmas.Result.{err_from_is_err_and}
use Rattle.go_sgf.specs.Spelling.{canonical}
use Rattle.goref_tools.specs.Tidying.{BeginsToTidy, Tidies}
use Rattle.goref_tools.proofs.Whole.{all_prefix, of_whole, on_ok, refuses, same_error}
use Rattle.goref_tools.proofs.tidy.tidy_run.Goals as goal

pub returns-in_err-checked-clause-refused : goal.returns-in_err-checked-clause-refused
returns-in_err-checked-clause-refused g c = λ why h.
    let p = err_from_is_err_and c.from_residual-in_err-checked.result c.from_residual-in_err-checked.ensures.1 in
    refuses c.in_ok-text.text.items (g.R.Source.left c.args.reader.now) (g.R.Source.left c.read_input.new.reader)
    c.in_ok-text.ensures.input c.in_err-checked.field-0.0
    (rw c.as_slice.ensures.value at c.in_err-checked.ensures.refused)
    (λ long. let e = c.in_err-checked.ensures.too_long.1 (rw c.as_slice.ensures.value long) in cc)
    why (same_error p.1 p.2 h)

pub returns-in-Ok-clause-ok : goal.returns-in-Ok-clause-ok
returns-in-Ok-clause-ok g c =
    let told = rw (c.in_ok-checked.ensures.source, c.as_slice.ensures.value) at c.in-Ok.ensures.sent in
    on_ok c.flush.result (of_whole
    (λ input. Tidies input (g.W.Sink.taken c.args.writer.now) (g.W.Sink.taken c.flush.new.writer))
    c.in_ok-text.text.items (g.R.Source.left c.read_input.new.reader) c.in_ok-text.ensures.input
    (λ long. let e = c.in_ok-checked.ensures.too_long.1 (rw c.as_slice.ensures.value long) in cc)
    (told.0, told.1, c.flush.ensures.bytes ∙ told.2))

pub returns-in-Ok-clause-write : goal.returns-in-Ok-clause-write
returns-in-Ok-clause-write g c = λ h.
    let told = rw (c.in_ok-checked.ensures.source, c.as_slice.ensures.value) at c.in-Ok.ensures.sent in
    of_whole (λ input. BeginsToTidy input (g.W.Sink.taken c.args.writer.now) (g.W.Sink.taken c.flush.new.writer))
    c.in_ok-text.text.items (g.R.Source.left c.read_input.new.reader) c.in_ok-text.ensures.input
    (λ long. let e = c.in_ok-checked.ensures.too_long.1 (rw c.as_slice.ensures.value long) in cc)
    (told.0, told.1, all_prefix (canonical told.0) (c.flush.ensures.bytes ∙ told.2))

pub returns-clause-write : goal.returns-clause-write
returns-clause-write g c = λ h.
    let told = rw (c.in_ok-checked.ensures.source, c.as_slice.ensures.value) at c.in-Err.ensures.sent in
    of_whole (λ input. BeginsToTidy input (g.W.Sink.taken c.args.writer.now) (g.W.Sink.taken c.tidy.new.writer))
    c.in_ok-text.text.items (g.R.Source.left c.read_input.new.reader) c.in_ok-text.ensures.input
    (λ long. let e = c.in_ok-checked.ensures.too_long.1 (rw c.as_slice.ensures.value long) in cc)
    (told.0, told.1, told.2)

pub returns-in-Ok-clause-devices : goal.returns-in-Ok-clause-devices
returns-in-Ok-clause-devices g c = search rules
