-- What lines were answered, by a shelf that has one file or none.
use Rattle.std.proofs.Common.{◌≡◌, ◌∙◌, ℕ, true, false, List, [], ◌∷◌, Option, Some, None, Result, Ok, Err, drop, map, refl, sym, ap, subst, inl}
use Rattle.go_board.specs.declared.device.WriteFault.{WriteFault}
use Rattle.go_game.specs.Standings.{Standing}
use Rattle.goref.specs.Conversation.{AnswersLines}
use Rattle.goref.specs.Lines as goref
use Rattle.goref.specs.Shelves.{Pair}
use Rattle.goref.specs.lemmas.Conversations.{answered_converses, asked_of, retold}
use Rattle.goref_c.specs.Ends.{IsText, ShowsAnswers}
use Rattle.goref_c.specs.Files.{Asking, given_of, no_file, own_file, told_of}
use Rattle.goref_c.specs.Sessions.{AnswersText, Holding, IsOver, WasCut}
use Rattle.goref_session.specs.Starts.{begun}
use Rattle.goref_session.specs.Contents.{Content, bytes, missing, no_memory, nothing, too_large}
use Rattle.goref_session.specs.declared.flow.Flow.{Flow}
use Rattle.goref_session.specs.declared.flow.Flow.TheVariants.{Quit}

-- the file that is told at first
abbrev file_in : Content → Option (List ℕ)
file_in (bytes b) = Some b
file_in nothing = None
file_in missing = None
file_in too_large = None
file_in no_memory = None

abbrev file_first : List Pair → Option (List ℕ)
file_first [] = None
file_first (pair ∷ pairs) = file_in pair.1

file_told : (file : Option (List ℕ)) (pairs : List Pair) → file_first (own_file file ∷ pairs) ≡ file
file_told None pairs = refl
file_told (Some b) pairs = refl

-- the shelf keeps its file, so what it was asked for was answered by that
pub of_shelf : (result : Result Flow WriteFault) (s now : Standing) (lines : List (List ℕ))
    (file file' : Option (List ℕ))
    (asked : List Asking) (taken taken' : Option (List ℕ)) →
    AnswersLines result s lines now (Some (told_of file [])) (Some (told_of file' asked)) taken taken' →
    AnswersLines result s lines now (Some []) (Some (given_of file asked)) taken taken'
of_shelf result s now lines file file' asked taken taken' a =
    let h = asked_of result s now lines (told_of file []) (told_of file' asked) taken taken' a in
    let same : file' ≡ file =
    sym (file_told file' (given_of file' asked)) ∙ ap file_first h.1 ∙ file_told file h.0 in
    let given : given_of file' asked ≡ h.0 = ap (drop 1) h.1 in
    subst (λ (f : Option (List ℕ)). AnswersLines result s lines now (Some []) (Some (given_of f asked)) taken taken')
    same
    (subst (λ (pairs : List Pair). AnswersLines result s lines now (Some []) (Some pairs) taken taken') (sym given) h.2)

abbrev pub names_of : List Asking → List (List ℕ)
names_of = map (λ asking. asking.0)

-- where there is no file, each name finds none
pub none_given : (asked : List Asking) → map no_file (names_of asked) ≡ given_of None asked
none_given [] = refl
none_given (asking ∷ asked) = ap (λ pairs. (asking.0, missing) ∷ pairs) (none_given asked)

abbrev pairs_in : Option (List Pair) → List Pair
pairs_in None = []
pairs_in (Some pairs) = pairs

abbrev bytes_in : Option (List ℕ) → List ℕ
bytes_in None = []
bytes_in (Some list) = list

-- lines that were answered without files are one conversation, whose text is shown
pub answers_shown : (flow : Flow) (n : ℕ) (now : Standing) (text : List ℕ) (file' : Option (List ℕ))
    (asked : List Asking)
    (answers room room' : List ℕ) (count : ℕ) →
    AnswersLines (Ok flow) (begun n) (goref.lines text) now (Some (told_of None [])) (Some (told_of file' asked))
    (Some []) (Some answers) →
    IsText answers room room' count → ShowsAnswers n text room room' count
answers_shown flow n now text file' asked answers room room' count a shown =
    let b = of_shelf (Ok flow) (begun n) now (goref.lines text) None file' asked (Some []) (Some answers) a in
    let c = answered_converses flow now b in (
      names_of asked,
      (
        answers,
        retold refl (sym (ap pairs_in c.tells) ∙ sym (none_given asked)) (sym (ap bytes_in c.took)) c.is,
        shown,
      ),
    )

-- ---- what a text comes to, where the session was seen as this before

pub cut_at : (file : Option (List ℕ)) (text : List ℕ) (old old' new : Holding) → old' ≡ old → old'.is_over ≡ false →
    (fault : WriteFault) → AnswersText (Err fault) file text old' new → new.is_over ≡ false → WasCut file text old new
cut_at file text old old' new e was fault answers is =
    subst (λ (h : Holding). WasCut file text h new) e
    (record { was_on = was; fault = fault; answers = answers; is_on = is })

pub over_at : (file : Option (List ℕ)) (text : List ℕ) (old old' new : Holding) → old' ≡ old → old'.is_over ≡ false →
    AnswersText (Ok Quit) file text old' new → new.is_over ≡ true → IsOver file text old new
over_at file text old old' new e was answers is =
    subst (λ (h : Holding). IsOver file text h new) e (is, inl (was, answers))
