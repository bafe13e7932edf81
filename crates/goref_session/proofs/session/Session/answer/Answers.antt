use Rattle.std.proofs.Common.{◌≡◌, ◌∙◌, inl, inr, refl, sym, ap, subst, ℕ, List}
use Rattle.goref_lines.specs.Requests.{Asked, asked_by, id_before_space}
use Rattle.goref_lines.specs.Words.{words}
use Rattle.goref_session.specs.Table.{Decides}
use Rattle.goref_session.specs.Contents.{content_of}
use Rattle.goref_session.specs.Decisions.{Decided, keeps}
use Rattle.goref_session.specs.declared.decision.Decision.TheVariants.{Refused}
use Rattle.goref_session.specs.declared.decision.Refusal.TheVariants.{LineTooLong}
use Rattle.goref_session.proofs.Answering.{answered_by, answered_silent, answered_told, decided_load, long_id, none_gives, told_at, whole_id}
use Rattle.goref_session.proofs.session.Session.answer.Goals as goal

pub returns-then-not-has_words-clause-answered : goal.returns-then-not-has_words-clause-answered
returns-then-not-has_words-clause-answered g c =
    answered_silent c.args.self.now c.args.line.now (content_of c.args.fetched) _
    (sym c.has_words.ensures ∙ c.if-not-has_words.true)

pub returns-then-is_long-clause-answered : goal.returns-then-is_long-clause-answered
returns-then-is_long-clause-answered g c =
    let long = sym c.is_long.ensures ∙ c.if-is_long.true in
    answered_told c.args.self.now c.args.line.now (content_of c.args.fetched)
    (keeps c.args.self.now (Refused LineTooLong)) c.id_of_cut.result c.write_decision.result _ _
    (sym c.has_words.ensures ∙ c.if-not-has_words.false)
    (inl (long, refl)) (c.id_of_cut.ensures ∙ ap id_before_space c.text-text.ensures.value
    ∙ long_id c.args.line.now long)
    (told_at c.write_decision.result c.id_of_cut.result (Refused LineTooLong) c.game.result.now.standing c.args.self.now _ _ _
    c.game.ensures refl c.write_decision.ensures.told)

pub returns-in-Some-clause-answered : goal.returns-in-Some-clause-answered
returns-in-Some-clause-answered g c =
    answered_by c.args.self.now c.answer_command.new.self c.args.line.now (content_of c.args.fetched)
    c.of-request.result c.answer_command.result c.in-Some.told _ _
    (sym c.has_words.ensures ∙ c.if-not-has_words.false) (sym c.is_long.ensures ∙ c.if-is_long.false)
    (c.of-request.ensures ∙ ap (λ (text : List ℕ). asked_by (words text)) c.text-text.ensures.value)
    c.in-Some.is c.answer_command.ensures.told

pub returns-in-None-clause-answered : goal.returns-in-None-clause-answered
returns-in-None-clause-answered g c =
    let whole = sym c.is_long.ensures ∙ c.if-is_long.false in
    let d : Decided = record { decision = c.loadsgf-decision.result; standing = c.loadsgf-decision.new.self } in
    let asked : c.of-request.result ≡ asked_by (words c.args.line.now.text) =
    c.of-request.ensures ∙ ap (λ (text : List ℕ). asked_by (words text)) c.text-text.ensures.value in
    let loads = none_gives c.answer_command.result _ c.in-None.is c.answer_command.ensures.loads in
    answered_told c.args.self.now c.args.line.now (content_of c.args.fetched) d c.id.result c.write_decision-in-None.result _ _
    (sym c.has_words.ensures ∙ c.if-not-has_words.false)
    (inr (
      whole,
      subst (λ (r : Asked). Decides c.args.self.now r (content_of c.args.fetched) d) asked
          (decided_load c.args.self.now c.answer_command.new.self c.of-request.result (content_of c.args.fetched) d
          loads.0 loads.1 c.loadsgf-decision.ensures),
    ))
    (c.id.ensures ∙ ap (λ (r : Asked). r.id) asked ∙ whole_id c.args.line.now whole)
    (told_at c.write_decision-in-None.result c.id.result d.decision c.game-in-None.result.now.standing d.standing _ _ _
    c.game-in-None.ensures (ap g.W.Sink.taken loads.2) c.write_decision-in-None.ensures.told)
