use Rattle.std.proofs.Common.{◌∙◌, ◌+◌, [], ◌++◌, refl, sym, ap, arith, rules}
use Rattle.std.proofs.lemmas.List.{append-nil, length-append}
use Rattle.go_board.specs.Device.{after_bytes}
use Rattle.go_board.specs.declared.device.Failed.{Failed}
use Rattle.goref.specs.Lines.{lines}
use Rattle.goref.specs.Conversation.{Converses}
use Rattle.goref.proofs.Conversations.{cut_breaks_off}
use Rattle.goref.specs.lemmas.Conversations.{answered_converses}
use Rattle.goref.proofs.Progressing.{begins}
use Rattle.go_board.specs.lemmas.Reading.{after_bytes-nil, has_read_more, of_input}
use Rattle.goref.proofs.Running.{answers_complete, answers_prefix, ends_by_write, ends_ok, no_end_found, of_ended}
use Rattle.goref.proofs.runs.run_from.Goals as goal

pub loop-init : goal.loop-init
loop-init g c = record {
  read = [];
  left = sym (after_bytes-nil (g.R.Source.left c.args.reader.now));
  progress = rw c.new-line.ensures
      (begins c.args.session.now (g.S.Shelf.given c.args.shelf.now) (g.W.Sink.taken c.args.writer.now));
  many = omega arith;
  pulls = omega arith;
  ends = refl;
  read_failures = refl;
  held = λ none. none;
  write_failures = refl;
}

pub returns-in-Err : goal.returns-in-Err
returns-in-Err g c =
    let now = c.loop.invariant in
    record {
      ok = tt;
      ended = λ _.
          answers_complete (now.left ∙ ap (after_bytes now.read) (sym c.in-Err.ensures.failed)) now.progress;
      write = search rules;
      devices = record {
        pulls = omega (arith, c.pull.ensures.pulls, now.pulls);
        one_end = omega (arith, c.in-Err.ensures.ends, now.ends);
        endless = search rules;
        read_failures = c.in-Err.ensures.failures ∙ ap (λ n. n + 1) now.read_failures;
        write_failures = now.write_failures;
        held = λ _. now.held;
      };
    }

pub returns : goal.returns
returns g c =
    let now = c.loop.invariant in
    record {
      ok = search rules;
      ended = λ _. answers_complete now.left now.progress;
      write = search rules;
      devices = record {
        pulls = omega (arith, now.pulls);
        one_end = omega (arith, now.ends);
        endless = λ _. record {
          all_pulls = omega (arith, now.pulls);
          many_bytes = record { read = now.read; has_read = now.left; many = omega (arith, now.many) };
          no_end = now.ends;
        };
        read_failures = now.read_failures;
        write_failures = now.write_failures;
        held = λ _. now.held;
      };
    }

pub returns-in-Err-end_input : goal.returns-in-Err-end_input
returns-in-Err-end_input g c =
    let now = c.loop.invariant in
    let nothing = rw c.if-count-eq0.true at c.in-Ok.ensures.bytes in
    ends_by_write _ _ _ _
    (answers_prefix now.read (now.left
    ∙ ap (after_bytes now.read) (nothing ∙ after_bytes-nil (g.R.Source.left c.pull.new.self)))
    (cut_breaks_off c.some_reply.ensures
    (rw c.in-Err-end_input.is at (c.end_input.ensures.finishes _ now.read _ _ now.progress))))
    (omega (arith, c.pull.ensures.pulls, now.pulls)) (search rules) (c.in-Ok.ensures.failures ∙ now.read_failures)
    (c.in-Err-end_input.ensures.failures ∙ ap (λ n. n + 1) now.write_failures)

pub returns-in-Ok-end_input : goal.returns-in-Ok-end_input
returns-in-Ok-end_input g c =
    let now = c.loop.invariant in
    let nothing = rw c.if-count-eq0.true at c.in-Ok.ensures.bytes in
    ends_ok _ _ _ _ _
    (of_ended (λ input. Converses c.args.session.now (lines input) _ _ _ _) now.read
    (g.R.Source.left c.pull.new.self)
    (now.left ∙ ap (after_bytes now.read) (nothing ∙ after_bytes-nil (g.R.Source.left c.pull.new.self)))
    (c.in-Ok.ensures.end c.if-count-eq0.true (omega (arith, c.pull.auto.buffer)))
    (answered_converses _ _
    (rw c.in-Ok-end_input.is at (c.end_input.ensures.finishes _ now.read _ _ now.progress))))
    (omega (arith, c.pull.ensures.pulls, now.pulls)) (search rules) (c.in-Ok.ensures.failures ∙ now.read_failures)
    (c.in-Ok-end_input.ensures.failures ∙ now.write_failures)
    (λ none. c.in-Ok-end_input.ensures.held (now.held none))

pub returns-in-Err-feed : goal.returns-in-Err-feed
returns-in-Err-feed g c =
    let now = c.loop.invariant in
    let chunk = c.split_at.result.0.now in
    ends_by_write _ _ _ _
    (answers_prefix (now.read ++ chunk)
    (has_read_more (g.R.Source.left c.pull.new.self) now.read chunk now.left
    (c.in-Ok.ensures.bytes ∙ ap (λ xs. after_bytes xs (g.R.Source.left c.pull.new.self))
    (sym c.split_at.ensures.front)))
    (cut_breaks_off c.some_reply.ensures
    (rw append-nil at (rw c.in-Err-feed.is at (c.feed.ensures.proceeds _ now.read _ _ now.progress) []))))
    (omega (arith, c.pull.ensures.pulls, now.pulls)) (search rules) (c.in-Ok.ensures.failures ∙ now.read_failures)
    (c.in-Err-feed.ensures.failures ∙ ap (λ n. n + 1) now.write_failures)

pub returns-in-Ok-Quit : goal.returns-in-Ok-Quit
returns-in-Ok-Quit g c =
    let now = c.loop.invariant in
    let chunk = c.split_at.result.0.now in
    ends_ok _ _ _ _ _
    (of_input (λ input. Converses c.args.session.now (lines input) _ _ _ _) (now.read ++ chunk)
    (g.R.Source.left c.pull.new.self)
    (has_read_more (g.R.Source.left c.pull.new.self) now.read chunk now.left
    (c.in-Ok.ensures.bytes ∙ ap (λ xs. after_bytes xs (g.R.Source.left c.pull.new.self))
    (sym c.split_at.ensures.front)))
    (rw (c.in-Ok-Quit.is, c.in-Ok-Quit.field-0-is) at (c.feed.ensures.proceeds _ now.read _ _ now.progress)))
    (omega (arith, c.pull.ensures.pulls, now.pulls)) (search rules) (c.in-Ok.ensures.failures ∙ now.read_failures)
    (c.in-Ok-Quit.ensures.failures ∙ now.write_failures)
    (λ none. c.in-Ok-Quit.ensures.held (now.held none))

pub loop-preserved : goal.loop-preserved
loop-preserved g c =
    let now = c.loop.invariant in
    let chunk = c.split_at.result.0.now in
    record {
      read = now.read ++ chunk;
      left = has_read_more (g.R.Source.left c.pull.new.self) now.read chunk now.left
          (c.in-Ok.ensures.bytes ∙ ap (λ xs. after_bytes xs (g.R.Source.left c.pull.new.self))
          (sym c.split_at.ensures.front));
      progress = rw (c.in-Ok-More.is, c.in-Ok-More.field-0-is) at (c.feed.ensures.proceeds _ now.read _ _ now.progress);
      many = omega (arith, length-append now.read chunk, c.split_at.ensures.front_len, now.many);
      pulls = omega (arith, c.pull.ensures.pulls);
      ends = c.in-Ok.ensures.ends ∙ no_end_found Failed c.in-Ok.count _ _ c.if-count-eq0.false ∙ now.ends;
      read_failures = c.in-Ok.ensures.failures ∙ now.read_failures;
      held = λ none. c.in-Ok-More.ensures.held (now.held none);
      write_failures = c.in-Ok-More.ensures.failures ∙ now.write_failures;
    }
