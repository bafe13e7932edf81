-- A session: lines, what was fetched for them, and the text of the answers.
use Rattle.std.specs.Prelude.{◌≡◌, ℕ, true, false, List, [], ◌∷◌, ◌++◌, Option, Some, None, Result, Ok, Err}
use Rattle.go_board.specs.Device.{then_bytes}
use Rattle.go_board.specs.declared.device.WriteFault.{WriteFault}
use Rattle.go_game.specs.Standings.{Standing}
use Rattle.goref_lines.specs.Kept.{Kept, kept}
use Rattle.goref_session.specs.Answered.{Answered}
use Rattle.goref_session.specs.declared.flow.Flow.{Flow}
use Rattle.goref_session.specs.declared.flow.Flow.TheVariants.{More, Quit}
use Rattle.goref_session.specs.Contents.{Content, nothing}
use Rattle.goref.specs.Shelves.{Pair, then_pairs}
use Rattle.goref_session.specs.Replies.{Said, Reply, wanted}

-- what is asked of the shelf for a line: its file, where it asks for one
abbrev pub AsksShelf : Option (List ℕ) → Content → List Pair → Type 0
AsksShelf None content asked = (content ≡ nothing) × (asked ≡ [])
AsksShelf (Some name) content asked = asked ≡ (name, content) ∷ []

-- over a standing these lines, with these files asked for, are answered by this text: each line
-- over the standing that the one before it left, up to one that ends the session
pub data Conversation : Standing → List (List ℕ) → List Pair → List ℕ → Type 0 where
  ends : (s : Standing) → Conversation s [] [] []
  quits : (s : Standing) (line : List ℕ) (lines : List (List ℕ)) (content : Content) (asked : List Pair)
      (reply : Said) →
      AsksShelf (wanted (kept line)) content asked → Reply s (kept line) content reply → reply.ends ≡ true →
      Conversation s (line ∷ lines) asked reply.text
  goes_on : (s : Standing) (line : List ℕ) (lines : List (List ℕ)) (content : Content) (asked : List Pair)
      (reply : Said) (later : List Pair) (rest : List ℕ) →
      AsksShelf (wanted (kept line)) content asked → Reply s (kept line) content reply → reply.ends ≡ false →
      Conversation reply.standing lines later rest →
      Conversation s (line ∷ lines) (asked ++ later) (reply.text ++ rest)

-- a run that answered these lines, by what the shelf was asked and what the writer took
pub record Converses (s : Standing) (lines : List (List ℕ)) (given given' : Option (List Pair))
    (taken taken' : Option (List ℕ)) : Type 0 where
  pub asked : List Pair
  pub text : List ℕ
  pub is : Conversation s lines asked text
  pub tells : given' ≡ then_pairs given asked
  pub took : taken' ≡ then_bytes taken text

-- a run that broke off: what was asked and what was taken are prefixes of a session over these lines
pub record BreaksOff (s : Standing) (lines : List (List ℕ)) (given given' : Option (List Pair))
    (taken taken' : Option (List ℕ)) : Type 0 where
  pub asked : List Pair
  pub later : List Pair
  pub text : List ℕ
  pub rest : List ℕ
  pub is : Conversation s lines (asked ++ later) (text ++ rest)
  pub tells : given' ≡ then_pairs given asked
  pub took : taken' ≡ then_bytes taken text

-- these lines lead from s to now: any conversation from now on continues that of these lines
pub record GetsTo (s : Standing) (lines : List (List ℕ)) (asked : List Pair) (text : List ℕ) (now : Standing) : Type 0
  where
    pub on : (more : List (List ℕ)) (later : List Pair) (rest : List ℕ) → Conversation now more later rest →
        Conversation s (lines ++ more) (asked ++ later) (text ++ rest)

-- lines that were answered and didn't end the session, by what the shelf was asked and what the writer took
pub record GoesOn (s : Standing) (lines : List (List ℕ)) (now : Standing) (given given' : Option (List Pair))
    (taken taken' : Option (List ℕ)) : Type 0 where
  pub asked : List Pair
  pub text : List ℕ
  pub reaches : GetsTo s lines asked text now
  pub tells : given' ≡ then_pairs given asked
  pub took : taken' ≡ then_bytes taken text

-- a line was answered, and its file was asked for
pub record Responds (old new : Standing) (line : Kept) (result : Result Flow WriteFault)
    (given given' : Option (List Pair)) (taken taken' : Option (List ℕ)) : Type 0 where
  pub content : Content
  pub asked : List Pair
  pub asks : AsksShelf (wanted line) content asked
  pub tells : given' ≡ then_pairs given asked
  pub answered : Answered old new line content result taken taken'

-- One of the lines has an answer that wasn't written whole. Those before it were answered, the session is as
-- after its command, and those after it weren't begun.
pub record WasCut (s : Standing) (lines : List (List ℕ)) (now : Standing) (given given' : Option (List Pair))
    (taken taken' : Option (List ℕ)) : Type 0 where
  pub before : List (List ℕ)
  pub line : List ℕ
  pub after : List (List ℕ)
  pub whole : lines ≡ before ++ line ∷ after
  pub between : Standing
  pub given_before : Option (List Pair)
  pub taken_before : Option (List ℕ)
  pub goes_on : GoesOn s before between given given_before taken taken_before
  pub fault : WriteFault
  pub is_cut : Responds between now (kept line) (Err fault) given_before given' taken_before taken'

-- what came of lines over a standing: they were answered, up to one that ends the session, or up to a fault
abbrev pub AnswersLines : Result Flow WriteFault → Standing → List (List ℕ) → Standing → Option (List Pair) →
    Option (List Pair) → Option (List ℕ) → Option (List ℕ) → Type 0
AnswersLines (Ok More) s lines now given given' taken taken' = GoesOn s lines now given given' taken taken'
AnswersLines (Ok Quit) s lines now given given' taken taken' = Converses s lines given given' taken taken'
AnswersLines (Err fault) s lines now given given' taken taken' = WasCut s lines now given given' taken taken'
