use Rattle.std.proofs.Common.{refl, sym, ◌∙◌}
use Rattle.std.proofs.lemmas.Bool.{true≢false}
use Rattle.goref.proofs.runs.flush_answer.Goals as goal

pub returns-then-not-has_words : goal.returns-then-not-has_words
returns-then-not-has_words g c = record {
  same = refl;
  discarded = λ none. refl;
  bytes = refl;
  passed = λ some. absurd (true≢false (sym some ∙ sym c.if-not-has_words.ensures));
  silent = λ none. refl;
  failures = refl;
}

pub returns-in-Ok : goal.returns-in-Ok
returns-in-Ok g c = record {
  same = refl;
  discarded = λ none. refl;
  bytes = c.in-Ok.ensures.bytes;
  passed = λ some. c.in-Ok.ensures.passed;
  silent = λ none. absurd (true≢false (c.if-not-has_words.ensures ∙ none));
  failures = c.in-Ok.ensures.failures;
}

pub returns-in-Err : goal.returns-in-Err
returns-in-Err g c = record {
  same = tt;
  discarded = λ none. absurd (true≢false (c.if-not-has_words.ensures ∙ none));
  bytes = c.in-Err.ensures.bytes;
  passed = tt;
  silent = λ none. absurd (true≢false (c.if-not-has_words.ensures ∙ none));
  failures = c.in-Err.ensures.failures;
}
