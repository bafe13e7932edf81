-- The one empty line of an answer is at its end.
use Rattle.std.proofs.Common.{arith, ◌≡◌, ◌≢◌, ◌∙◌, ◌≤◌, ℕ, Bool, true, false, List, [], ◌∷◌, ◌++◌, ap, append_assoc, drop, inl, inr, refl, subst, sym}
use Rattle.std.specs.Prelude.{◌⊎◌, ◌==◌, Option, Some, None, codes, if◌then◌else◌, nat_le, slice_index}
use Rattle.std.specs.List.{AllByRecursion}
use Rattle.std.proofs.lemmas.Bool.{both_ways, cases_Bool, eqb-true, leb-true}
use Rattle.std.proofs.lemmas.List.Elements.{All-from_recursion}
use Rattle.go_game.specs.Standings.{Standing}
use Rattle.goref_lines.specs.Kept.{Kept}
use Rattle.goref_lines.specs.Words.{has_bytes}
use Rattle.goref_results.specs.Results.{result_text}
use Rattle.goref_session.specs.Replies.{Reply, Said, decision_text, fact_text, id_text, line_id, refusal_text}
use Rattle.goref_session.specs.Contents.{Content}
use Rattle.goref_session.specs.Laws.{AnswersEnd, EndsAtEmptyLine, PlainAnswers}
use Rattle.goref_session.specs.declared.decision.Decision.{Decision}
use Rattle.goref_session.specs.declared.decision.Decision.TheVariants.{Done, Ends, Tells, Refused}
use Rattle.goref_session.specs.declared.decision.Refusal.{Refusal}
use Rattle.goref_session.specs.declared.decision.Refusal.TheVariants.{LineTooLong, UnknownCommand, SyntaxError, UnacceptableSize, IllegalMove, CannotUndo, BoardNotEmpty, InvalidNumber, BadVertexList, CannotLoad, GameInProgress, OutOfMemory}
use Rattle.goref_session.proofs.Decimals.{full_decimal}
use Rattle.goref_session.proofs.FactTexts.{fact_goes_on}
use Rattle.goref_session.proofs.Lines.{GoesOn, IsLine, LineState, after, all_append, append_goes_on, broken, by_control, ended, line_goes_on, step, within}

-- ---- where a line end follows another

stays_broken : (xs : List ℕ) → after broken xs ≡ broken
stays_broken [] = refl
stays_broken (x ∷ xs) = ap (λ s. after s xs) (by_tests (nat_le 32 x) (x == 10)) ∙ stays_broken xs
  where
    by_tests : (b c : Bool) → (if b then broken else by_control c broken) ≡ broken
    by_tests true c = refl
    by_tests false true = refl
    by_tests false false = refl

not_broken : (xs : List ℕ) → after broken xs ≢ within
not_broken xs e = let p = stays_broken xs in cc (p, e)

gap_breaks : (s : LineState) → step (step s 10) 10 ≡ broken
gap_breaks within = refl
gap_breaks ended = refl
gap_breaks broken = refl

end_leaves : (s : LineState) → step s 10 ≢ within
end_leaves within e = cc e
end_leaves ended e = cc e
end_leaves broken e = cc e

none_after : (xs : List ℕ) (x : ℕ) (ys : List ℕ) → [] ≢ xs ++ x ∷ ys
none_after [] x ys e = cc e
none_after (z ∷ xs) x ys e = cc e

no_gap : (s : LineState) (b : ℕ) (bs more : List ℕ) → after s (b ∷ bs) ≡ within → b ≡ 10 →
    slice_index (bs ++ 10 ∷ more) 0 ≡ 10 → ⊥
no_gap s b [] more h e f = end_leaves s (subst (λ (c : ℕ). step s c ≡ within) e h)
no_gap s b (c ∷ bs) more h e f =
    not_broken bs (ap (λ t. after t bs) (sym (ap (step (step s b)) f ∙ ap (λ d. step (step s d) 10) e ∙ gap_breaks s))
    ∙ h)

-- the first line end after a line end is the last byte
first_gap : (s : LineState) (body prefix back : List ℕ) → after s body ≡ within → body ++ 10 ∷ 10 ∷ [] ≡ prefix
    ++ 10 ∷ 10 ∷ back → back ≡ []
first_gap s [] [] back h e = sym (ap (drop 2) e)
first_gap s [] (a ∷ []) back h e = absurd (none_after [] 10 back (ap (drop 2) e))
first_gap s [] (a ∷ b ∷ prefix) back h e = absurd (none_after prefix 10 (10 ∷ back) (ap (drop 2) e))
first_gap s (b ∷ body) [] back h e =
    absurd (no_gap s b body (10 ∷ []) h (ap (λ xs. slice_index xs 0) e) (ap (λ xs. slice_index xs 1) e))
first_gap s (b ∷ body) (a ∷ prefix) back h e = first_gap (step s b) body prefix back h (ap (drop 1) e)

-- ---- plain bytes

abbrev IsPlain : ℕ → Type 0
IsPlain b = (b ≡ 10) ⊎ (32 ≤ b)

plain_text : (s : LineState) (xs : List ℕ) → after s xs ≢ broken → AllByRecursion IsPlain xs
plain_text s [] h = tt
plain_text s (x ∷ xs) h = (by_test (cases_Bool (nat_le 32 x)) (cases_Bool (x == 10)), plain_text (step s x) xs h)
  where
    by_test : (nat_le 32 x ≡ true) ⊎ (nat_le 32 x ≡ false) → ((x == 10) ≡ true) ⊎ ((x == 10) ≡ false) → IsPlain x
    by_test (inl high) _ = inr (leb-true 32 x high)
    by_test (inr low) (inl e) = inl (eqb-true x 10 e)
    by_test (inr low) (inr other) =
        let left : step s x ≡ broken = rw (low, other) refl in
        absurd (h (ap (λ t. after t xs) left ∙ stays_broken xs))

-- ---- answers

-- a text with which a line goes on, not begun by a line end, and two line ends after it
record IsAnswer (text : List ℕ) : Type 0 where
  begins : (rest : List ℕ) → text ≢ 10 ∷ rest
  body : List ℕ
  goes_on : GoesOn body
  ends : text ≡ body ++ codes "\n\n"

id_line : (id : Option ℕ) → IsLine (id_text id)
id_line None = tt
id_line (Some id) = (full_decimal id).line

result_goes_on : (text : List ℕ) → GoesOn text → GoesOn (result_text text)
result_goes_on [] h = refl
result_goes_on (b ∷ bs) h = h

refusal_goes_on : (why : Refusal) → GoesOn (codes " " ++ refusal_text why)
refusal_goes_on LineTooLong = refl
refusal_goes_on UnknownCommand = refl
refusal_goes_on SyntaxError = refl
refusal_goes_on UnacceptableSize = refl
refusal_goes_on IllegalMove = refl
refusal_goes_on CannotUndo = refl
refusal_goes_on BoardNotEmpty = refl
refusal_goes_on InvalidNumber = refl
refusal_goes_on BadVertexList = refl
refusal_goes_on CannotLoad = refl
refusal_goes_on GameInProgress = refl
refusal_goes_on OutOfMemory = refl

after_id : (mark : ℕ) → 32 ≤ mark → (id : Option ℕ) (result : List ℕ) → GoesOn result →
    IsAnswer (mark ∷ (id_text id ++ (result ++ codes "\n\n")))
after_id mark high id result h = record {
  begins = λ rest e. let is_end : mark ≡ 10 = ap (λ bytes. slice_index bytes 0) e in omega (arith, high, is_end);
  body = mark ∷ (id_text id ++ result);
  goes_on = append_goes_on (mark ∷ id_text id) result (line_goes_on (mark ∷ id_text id) (high, id_line id)) h;
  ends = ap (λ text. mark ∷ text) (sym (append_assoc (id_text id) result (codes "\n\n")));
}

decision_answers : (id : Option ℕ) (d : Decision) (s : Standing) → IsAnswer (decision_text id d s)
decision_answers id Done s = after_id 61 (omega arith) id [] refl
decision_answers id Ends s = after_id 61 (omega arith) id [] refl
decision_answers id (Tells fact) s =
    after_id 61 (omega arith) id (result_text (fact_text fact s))
    (result_goes_on (fact_text fact s) (fact_goes_on fact s))
decision_answers id (Refused why) s =
    after_id 63 (omega arith) id (codes " " ++ refusal_text why) (refusal_goes_on why)

ends_at_empty_line : (text : List ℕ) → IsAnswer text → EndsAtEmptyLine text
ends_at_empty_line text answer = record {
  begins = answer.begins;
  body = answer.body;
  ends = answer.ends;
  first = λ prefix back e. first_gap within answer.body prefix back answer.goes_on (sym answer.ends ∙ e);
}

plain_answer : (text : List ℕ) → IsAnswer text → AllByRecursion IsPlain text
plain_answer text answer =
    subst (AllByRecursion IsPlain) (sym answer.ends)
    (all_append IsPlain answer.body (codes "\n\n")
    (plain_text within answer.body (λ e. let h = answer.goes_on in cc (e, h))) (inl refl, (inl refl, tt)))

said : (s : Standing) (k : Kept) (content : Content) (reply : Said) → Reply s k content reply →
    ((has_bytes k.text ≡ false) × (reply.text ≡ [])) ⊎ ((has_bytes k.text ≡ true) × IsAnswer reply.text)
said s k content reply (inl none) = inl (none.0, ap (λ r. r.text) none.1)
said s k content reply (inr some) =
    inr (
      some.0,
      subst IsAnswer (sym (ap (λ r. r.text) some.1.2))
          (decision_answers (line_id k) some.1.0.decision some.1.0.standing),
    )

pub answers_end : AnswersEnd
answers_end s k content reply may = elim (said s k content reply may) [
  | inl none ↦ ((λ _. none.1), (λ some. absurd (both_ways (has_bytes k.text) none.0 some)))
  | inr some ↦ (
    (λ none. absurd (both_ways (has_bytes k.text) none some.0)),
    (λ _. ends_at_empty_line reply.text some.1),
  )
]

pub plain_answers : PlainAnswers
plain_answers s k content reply may = All-from_recursion IsPlain reply.text (elim (said s k content reply may) [
  | inl none ↦ subst (AllByRecursion IsPlain) (sym none.1) tt
  | inr some ↦ plain_answer reply.text some.1
])
