use Rattle.std.proofs.Common.{◌∙◌, Ok, ap, inr, map, rules, tests}
use Rattle.std.specs.declared.alloc.AllocError.{AllocError}
use Rattle.std.specs.String.{string_bytes}
use Rattle.std.proofs.lemmas.Iterator.{YieldsList-from_map_by, YieldsList-from_slice}
use Rattle.std.proofs.lemmas.Iterator.Consumers.{map_from_collect}
use Rattle.goref_program.proofs.words.follow_words.Goals as goal

pub returns-in-Ok-clause-words : goal.returns-in-Ok-clause-words
returns-in-Ok-clause-words g c =
    let texts = map_from_collect {E = AllocError} (Ok c.in-Ok.views) c.in-Ok.ensures.ran
    (YieldsList-from_map_by _ (λ r. r.now) string_bytes (YieldsList-from_slice c.deref.result.now cc)
    c.map.ensures.closure (λ x r q k. search (rules, tests))) in
    rw c.in-Some.is (inr (rw (texts ∙ ap (map string_bytes) c.deref.ensures.value) at c.follow_readable.ensures.status))
