-- What follows from lines that were answered: they are one conversation, and the shelf's list grew by what it
-- was asked.
use Rattle.std.specs.Prelude.{◌≡◌, ℕ, List, [], ◌++◌, Option, Some, None, Result, Ok, Err, refl}
use Rattle.std.proofs.Common.{◌∙◌, ap, append_assoc, subst}
use Rattle.go_board.specs.declared.device.WriteFault.{WriteFault}
use Rattle.std.proofs.lemmas.List.{append-nil}
use Rattle.go_game.specs.Standings.{Standing}
use Rattle.goref.specs.Conversation.{Conversation, ends, Converses, GoesOn, AnswersLines}
use Rattle.goref.specs.Shelves.{Pair, then_pairs}
use Rattle.goref_session.specs.declared.flow.Flow.{Flow}
use Rattle.goref_session.specs.declared.flow.Flow.TheVariants.{More, Quit}

-- the same session, in other words
pub retold : {s : Standing} {lines lines' : List (List ℕ)} {asked asked' : List Pair} {text text' : List ℕ} →
    lines ≡ lines' → asked ≡ asked' → text ≡ text' → Conversation s lines asked text →
    Conversation s lines' asked' text'
retold {s} {lines} {lines'} {asked} {asked'} {text} {text'} l a t c =
    let P : List (List ℕ) → Type 0 = λ x. Conversation s x asked text in
    let Q : List Pair → Type 0 = λ x. Conversation s lines' x text in
    let R : List ℕ → Type 0 = λ x. Conversation s lines' asked' x in
    subst R t (subst Q a (subst P l c))

-- all of the lines so far are one conversation
pub so_far : {s now : Standing} {lines : List (List ℕ)} {given given' : Option (List Pair)}
    {taken taken' : Option (List ℕ)} → GoesOn s lines now given given' taken taken' →
    Converses s lines given given' taken taken'
so_far {s} {now} {lines} p = record {
  asked = p.asked;
  text = p.text;
  is = retold (append-nil lines) (append-nil p.asked) (append-nil p.text) (p.reaches.on [] [] [] (ends now));
  tells = p.tells;
  took = p.took;
}

-- lines that were answered are one conversation, whether the session goes on or not
pub answered_converses : (flow : Flow) (now : Standing) {s : Standing} {lines : List (List ℕ)}
    {given given' : Option (List Pair)} {taken taken' : Option (List ℕ)} →
    AnswersLines (Ok flow) s lines now given given' taken taken' → Converses s lines given given' taken taken'
answered_converses More now p = so_far p
answered_converses Quit now p = p

abbrev told : Option (List Pair) → List Pair
told None = []
told (Some pairs) = pairs

-- The shelf's list before a run makes no difference to the answers.
pub asked_of : (result : Result Flow WriteFault) (s now : Standing) (lines : List (List ℕ)) (before after : List Pair)
    (taken taken' : Option (List ℕ)) → AnswersLines result s lines now (Some before) (Some after) taken taken' →
    (asked : List Pair) × (after ≡ before ++ asked)
    × AnswersLines result s lines now (Some []) (Some asked) taken taken'
asked_of (Ok More) s now lines before after taken taken' p = (
  p.asked,
  ap told p.tells,
  record { asked = p.asked; text = p.text; reaches = p.reaches; tells = refl; took = p.took },
)
asked_of (Ok Quit) s now lines before after taken taken' p = (
  p.asked,
  ap told p.tells,
  record { asked = p.asked; text = p.text; is = p.is; tells = refl; took = p.took },
)
asked_of (Err fault) s now lines before after taken taken' w =
    let p = w.goes_on in
    let r = w.is_cut in (
      p.asked ++ r.asked,
      ap told (r.tells ∙ ap (λ o. then_pairs o r.asked) p.tells) ∙ append_assoc before p.asked r.asked,
      record {
        before = w.before;
        line = w.line;
        after = w.after;
        whole = w.whole;
        between = w.between;
        given_before = Some p.asked;
        taken_before = w.taken_before;
        goes_on = record { asked = p.asked; text = p.text; reaches = p.reaches; tells = refl; took = p.took };
        fault = w.fault;
        is_cut = record { content = r.content; asked = r.asked; asks = r.asks; tells = refl; answered = r.answered };
      },
    )
