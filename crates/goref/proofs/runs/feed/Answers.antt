use Rattle.std.proofs.Common.{◌∙◌, [], ◌∷◌, ◌++◌, drop, refl, sym, ap, append_assoc}
use Rattle.std.proofs.lemmas.List.{append-nil}
use Rattle.goref.specs.Lines.{lines, unfinished_line}
use Rattle.goref.specs.Conversation.{Converses, WasCut}
use Rattle.goref.proofs.Lines.{no_cut, first_cut, chunk_cut}
use Rattle.goref.proofs.Progressing.{reads_on, settled}
use Rattle.goref.proofs.runs.feed.Goals as goal

pub loop-end-init : goal.loop-end-init
loop-end-init g c = record {
  prefix = [];
  whole = refl;
  progress = λ start read given taken p. rw (append-nil read) p;
  held = λ none. none;
  failures = refl;
}

pub end_line-requires : goal.end_line-requires
end_line-requires g c = rw c.split_at.ensures.front (first_cut c.loop-end.rest.now c.in-Some.end c.in-Some.ensures).0

pub returns-in-Ok-Quit-clause-proceeds : goal.returns-in-Ok-Quit-clause-proceeds
returns-in-Ok-Quit-clause-proceeds g c = λ start read given taken p.
    let now = c.loop-end.invariant in
    let part = c.split_at.result.0.now in
    let rest = c.loop-end.rest.now in
    settled (λ text. Converses start (lines text) given (g.S.Shelf.given c.end_line.new.shelf) taken
    (g.W.Sink.taken c.end_line.new.writer))
    read now.prefix (part ++ 10 ∷ []) (drop 1 (drop c.in-Some.end rest)) c.args.chunk.now
    (chunk_cut c.args.chunk.now now.prefix rest part _ c.in-Some.end now.whole c.split_at.ensures.front refl
    c.in-Some.ensures)
    (rw (c.in-Ok-Quit.is, c.in-Ok-Quit.field-0-is) at
    (c.end_line.ensures.proceeds start (read ++ now.prefix) given taken (now.progress start read given taken p)))

pub returns-in-Err-clause-proceeds : goal.returns-in-Err-clause-proceeds
returns-in-Err-clause-proceeds g c = λ start read given taken p.
    let now = c.loop-end.invariant in
    let part = c.split_at.result.0.now in
    let rest = c.loop-end.rest.now in
    settled (λ text. WasCut start (lines text) c.end_line.new.session given (g.S.Shelf.given c.end_line.new.shelf) taken
    (g.W.Sink.taken c.end_line.new.writer))
    read now.prefix (part ++ 10 ∷ []) (drop 1 (drop c.in-Some.end rest)) c.args.chunk.now
    (chunk_cut c.args.chunk.now now.prefix rest part _ c.in-Some.end now.whole c.split_at.ensures.front refl
    c.in-Some.ensures)
    (rw c.in-Err.is at (c.end_line.ensures.proceeds start (read ++ now.prefix) given taken
    (now.progress start read given taken p)))

pub loop-end-preserved : goal.loop-end-preserved
loop-end-preserved g c =
    let now = c.loop-end.invariant in
    let part = c.split_at.result.0.now in
    let rest = c.loop-end.rest.now in
    let after = c.split_at-in-Some.result.1.now in
    record {
      prefix = now.prefix ++ (part ++ 10 ∷ []);
      whole = chunk_cut c.args.chunk.now now.prefix rest part after c.in-Some.end now.whole c.split_at.ensures.front
          (c.split_at-in-Some.ensures.back ∙ ap (drop 1) c.split_at.ensures.back) c.in-Some.ensures
          ∙ sym (append_assoc now.prefix (part ++ 10 ∷ []) after);
      progress = λ start read given taken p.
          rw (sym (append_assoc read now.prefix (part ++ 10 ∷ [])))
          (rw (c.in-Ok-More.is, c.in-Ok-More.field-0-is) at
          (c.end_line.ensures.proceeds start (read ++ now.prefix) given taken
          (now.progress start read given taken p)));
      held = λ none. c.in-Ok-More.ensures.held (now.held none);
      failures = c.in-Ok-More.ensures.failures ∙ now.failures;
    }

pub returns-clause-proceeds : goal.returns-clause-proceeds
returns-clause-proceeds g c = λ start read given taken p.
    let now = c.loop-end.invariant in
    let rest = c.loop-end.rest.now in
    let q = now.progress start read given taken p in
    rw (
      now.whole,
      sym (append_assoc read now.prefix rest),
      c.extend.ensures (unfinished_line (read ++ now.prefix)) q.keeps,
    )
    (reads_on q rest (no_cut rest c.in_default.ensures))
