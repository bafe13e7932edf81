-- How far a run has come after one more line, after more bytes, and at the end of its input.
use Rattle.std.proofs.Common.{◌≡◌, ◌∙◌, ℕ, false, List, [], ◌∷◌, ◌++◌, Option, Result, Ok, Err, refl, sym, ap, subst, append_assoc, inl, inr}
use Rattle.std.proofs.lemmas.List.{append-nil}
use Rattle.go_board.specs.Device.{then_bytes}
use Rattle.go_board.specs.lemmas.Writing.{then_bytes-nil}
use Rattle.go_board.specs.declared.device.WriteFault.{WriteFault}
use Rattle.goref_session.specs.declared.flow.Flow.{Flow}
use Rattle.goref_session.specs.declared.flow.Flow.TheVariants.{More, Quit}
use Rattle.go_game.specs.Standings.{Standing}
use Rattle.goref_lines.specs.Kept.{Kept, kept}
use Rattle.goref_lines.specs.Words.{has_bytes}
use Rattle.goref.specs.Lines.{lines, complete_lines, unfinished_line, if_any}
use Rattle.goref.specs.inner.Progress.{HasNoEnd}
use Rattle.goref_session.specs.Contents.{Content}
use Rattle.goref.specs.Shelves.{Pair, then_pairs}
use Rattle.goref_session.specs.Replies.{Said, Reply, silent, wanted}
use Rattle.goref.specs.Conversation.{AsksShelf, Converses, GetsTo, GoesOn, Responds, AnswersLines}
use Rattle.goref.specs.inner.Progress.{Progress, Proceeds}
use Rattle.goref.proofs.Lines.{complete_lines-nil, unfinished_line-nil, complete_lines_more, unfinished_line_more, complete_lines_end, unfinished_line_end, lines_later, Later}
use Rattle.goref.proofs.Conversations.{goes_first, goes_next, goes_to_cut, goes_to_end, then_pairs-nil}

-- a run before its first byte
pub begins : (s : Standing) (given : Option (List Pair)) (taken : Option (List ℕ)) →
    Progress s [] (kept []) s given given taken taken
begins s given taken = record {
  goes_on = subst (λ (ls : List (List ℕ)). GoesOn s ls s given given taken taken) (sym complete_lines-nil)
      (goes_first s given taken);
  keeps = ap kept (sym unfinished_line-nil);
}

line_and_later : (read part more : List ℕ) → HasNoEnd part → (h : Later (read ++ (part ++ 10 ∷ [])) more) →
    complete_lines read ++ (unfinished_line read ++ part) ∷ h.0 ≡ lines ((read ++ (part ++ 10 ∷ [])) ++ more)
line_and_later read part more n h =
    sym (h.1 ∙ ap (λ ls. ls ++ h.0) (complete_lines_end read part n)
    ∙ append_assoc (complete_lines read) ((unfinished_line read ++ part) ∷ []) h.0)

-- what was settled in the midst of a chunk stays so whatever is read
cut_again : (read prefix line rest chunk more : List ℕ) → chunk ≡ prefix ++ (line ++ rest) → ((read ++ prefix) ++ line)
    ++ (rest ++ more) ≡ (read ++ chunk) ++ more
cut_again read prefix line rest chunk more e =
    sym (append_assoc ((read ++ prefix) ++ line) rest more)
    ∙ ap (λ xs. xs ++ more) (append_assoc (read ++ prefix) line rest ∙ append_assoc read prefix (line ++ rest)
    ∙ ap (λ xs. read ++ xs) (sym e))

pub settled : (P : List ℕ → Type 0) (read prefix line rest chunk : List ℕ) → chunk ≡ prefix ++ (line ++ rest) →
    ((more : List ℕ) → P (((read ++ prefix) ++ line) ++ more)) → (more : List ℕ) → P ((read ++ chunk) ++ more)
settled P read prefix line rest chunk e h more = subst P (cut_again read prefix line rest chunk more e) (h (rest ++ more))

-- the end of the input: a last line, or none
silent_reply : (s : Standing) (content : Content) (reply : Said) → Reply s (kept []) content reply → reply ≡ silent s
unfolding kept
silent_reply s content reply (inl e) = e.1
silent_reply s content reply (inr h) = let words = h.0 in cc

silent_asks : (content : Content) (asked : List Pair) → AsksShelf (wanted (kept [])) content asked → asked ≡ []
unfolding kept
silent_asks content asked h = h.1

no_words : has_bytes (kept []).text ≡ false
unfolding kept
no_words = refl

lines_at_end : (read u : List ℕ) → unfinished_line read ≡ u → complete_lines read ++ if_any u ≡ lines read
lines_at_end read u e = ap (λ x. complete_lines read ++ if_any x) (sym e)

-- a run in the middle of a line
module _ {s now : Standing} {read : List ℕ} {line : Kept} {given given' : Option (List Pair)}
    {taken taken' : Option (List ℕ)}
    (p : Progress s read line now given given' taken taken') where
  -- more bytes of the line
  pub reads_on : (part : List ℕ) → HasNoEnd part →
      Progress s (read ++ part) (kept (unfinished_line read ++ part)) now given given' taken taken'
  reads_on part h = record {
    goes_on = subst (λ (ls : List (List ℕ)). GoesOn s ls now given given' taken taken')
        (sym (complete_lines_more read part h)) p.goes_on;
    keeps = ap kept (sym (unfinished_line_more read part h));
  }

  module _ {new : Standing} {given'' : Option (List Pair)} {taken'' : Option (List ℕ)} where
    -- the end of the line, which is answered
    pub proceeds : (part : List ℕ) → HasNoEnd part → (result : Result Flow WriteFault) →
        Responds now new (kept (unfinished_line read ++ part)) result given' given'' taken' taken'' →
        Proceeds result s (read ++ (part ++ 10 ∷ [])) (kept []) new given given'' taken taken''
    proceeds part n (Ok More) r = record {
      goes_on = subst (λ (ls : List (List ℕ)). GoesOn s ls new given given'' taken taken'')
          (sym (complete_lines_end read part n))
          (goes_next p.goes_on (unfinished_line read ++ part) r);
      keeps = ap kept (sym (unfinished_line_end read part));
    }
    proceeds part n (Ok Quit) r = λ more.
        let h = lines_later (read ++ (part ++ 10 ∷ [])) more in
        subst (λ (ls : List (List ℕ)). Converses s ls given given'' taken taken'') (line_and_later read part more n h)
        (goes_to_end p.goes_on (unfinished_line read ++ part) h.0 r)
    proceeds part n (Err e) r = λ more.
        let h = lines_later (read ++ (part ++ 10 ∷ [])) more in
        goes_to_cut p.goes_on (unfinished_line read ++ part) h.0 _ (line_and_later read part more n h) r

    -- the line that the run has come to, by its bytes
    its_line : {result : Result Flow WriteFault} (u : List ℕ) → unfinished_line read ≡ u →
        Responds now new line result given' given'' taken' taken'' →
        Responds now new (kept u) result given' given'' taken' taken''
    its_line {result} u e r = subst (λ (k : Kept). Responds now new k result given' given'' taken' taken'')
        (p.keeps ∙ ap kept e) r

    -- where there is no last line, nothing is said to it
    goes_on_silent : (flow : Flow) → unfinished_line read ≡ [] →
        Responds now new (kept []) (Ok flow) given' given'' taken' taken'' →
        GoesOn s (lines read) new given given'' taken taken''
    goes_on_silent flow e r =
        let reply = silent_reply now r.content r.answered.reply r.answered.is_reply in
        let g = p.goes_on in
        record {
          asked = g.asked;
          text = g.text;
          reaches = subst (λ (x : Standing). GetsTo s (lines read) g.asked g.text x)
              (sym (r.answered.stands ∙ ap (λ (x : Said). x.standing) reply))
              (subst (λ (ls : List (List ℕ)). GetsTo s ls g.asked g.text now)
              (sym (append-nil (complete_lines read)) ∙ lines_at_end read [] e) g.reaches);
          tells = r.tells ∙ ap (then_pairs given') (silent_asks r.content r.asked r.asks) ∙ then_pairs-nil given'
              ∙ g.tells;
          took = r.answered.sent.1 ∙ ap (λ (x : Said). then_bytes taken' x.text) reply ∙ then_bytes-nil taken' ∙ g.took;
        }

    ends_at : (u : List ℕ) → unfinished_line read ≡ u → (result : Result Flow WriteFault) →
        (has_bytes (kept u).text ≡ false → result ≡ Ok More) →
        Responds now new (kept u) result given' given'' taken' taken'' →
        AnswersLines result s (lines read) new given given'' taken taken''
    ends_at [] e (Ok More) said r = goes_on_silent More e r
    ends_at [] e (Ok Quit) said r = let h = said no_words in cc
    ends_at [] e (Err fault) said r = let h = said no_words in cc
    ends_at (b ∷ u) e (Ok More) said r =
        subst (λ (ls : List (List ℕ)). GoesOn s ls new given given'' taken taken'') (lines_at_end read (b ∷ u) e)
        (goes_next p.goes_on (b ∷ u) r)
    ends_at (b ∷ u) e (Ok Quit) said r =
        subst (λ (ls : List (List ℕ)). Converses s ls given given'' taken taken'') (lines_at_end read (b ∷ u) e)
        (goes_to_end p.goes_on (b ∷ u) [] r)
    ends_at (b ∷ u) e (Err fault) said r = goes_to_cut p.goes_on (b ∷ u) [] (lines read) (lines_at_end read (b ∷ u) e) r

    -- the end of the input, with the last line answered
    pub finishes : (result : Result Flow WriteFault) → (has_bytes line.text ≡ false → result ≡ Ok More) →
        Responds now new line result given' given'' taken' taken'' →
        AnswersLines result s (lines read) new given given'' taken taken''
    finishes result said r =
        ends_at (unfinished_line read) refl result
        (subst (λ (k : Kept). has_bytes k.text ≡ false → result ≡ Ok More) p.keeps said)
        (its_line (unfinished_line read) refl r)
