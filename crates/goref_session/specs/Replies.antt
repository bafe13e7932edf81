-- The texts of answers.
use Rattle.std.specs.Prelude.{◌≡◌, ℕ, ◌⊎◌, Bool, true, false, if◌then◌else◌, List, [], ◌++◌, Option, Some, None, codes, decimal, option_map}
use Rattle.go_board.specs.Vertices.{vertex_word}
use Rattle.go_game.specs.Handicaps.{fixed}
use Rattle.go_game.specs.Standings.{Standing}
use Rattle.goref_session.specs.Contents.{Content}
use Rattle.goref_session.specs.Decisions.{Decided, keeps}
use Rattle.goref_session.specs.Record.{load_of_asked}
use Rattle.goref_session.specs.Table.{Decides}
use Rattle.goref_session.specs.Telling.{topic_text, truth_text}
use Rattle.goref_session.specs.declared.decision.Decision.{Decision}
use Rattle.goref_session.specs.declared.decision.Decision.TheVariants.{Done, Ends, Tells, Refused}
use Rattle.goref_session.specs.declared.decision.Fact.{Fact}
use Rattle.goref_session.specs.declared.decision.Fact.TheVariants.{About, Known, Places, Choice, Plays}
use Rattle.goref_session.specs.declared.decision.Refusal.{Refusal}
use Rattle.goref_session.specs.declared.decision.Refusal.TheVariants.{LineTooLong, UnknownCommand, SyntaxError, UnacceptableSize, IllegalMove, CannotUndo, BoardNotEmpty, InvalidNumber, BadVertexList, CannotLoad, GameInProgress, OutOfMemory}
use Rattle.goref_lines.specs.Kept.{Kept}
use Rattle.goref_lines.specs.Words.{has_bytes, words}
use Rattle.goref_lines.specs.Requests.{asked_by, id_before_space}
use Rattle.goref_results.specs.Places.{places_text}
use Rattle.goref_results.specs.Plays.{plays_text}
use Rattle.goref_results.specs.Results.{result_text}

abbrev pub refusal_text : Refusal → List ℕ
refusal_text LineTooLong = codes "line too long"
refusal_text UnknownCommand = codes "unknown command"
refusal_text SyntaxError = codes "syntax error"
refusal_text UnacceptableSize = codes "unacceptable size"
refusal_text IllegalMove = codes "illegal move"
refusal_text CannotUndo = codes "cannot undo"
refusal_text BoardNotEmpty = codes "board not empty"
refusal_text InvalidNumber = codes "invalid number of stones"
refusal_text BadVertexList = codes "bad vertex list"
refusal_text CannotLoad = codes "cannot load file"
refusal_text GameInProgress = codes "game in progress"
refusal_text OutOfMemory = codes "out of memory"

-- what a fact says over a standing
abbrev pub fact_text : Fact → Standing → List ℕ
fact_text (About topic) s = topic_text topic s
fact_text (Known truth) s = truth_text truth
fact_text (Places number) s = places_text (fixed s.lines number)
fact_text (Choice v) s = vertex_word v
fact_text (Plays marks) s = plays_text s.lines marks

-- the id before an answer, without leading zeros
abbrev pub id_text : Option ℕ → List ℕ
id_text None = []
id_text (Some id) = decimal id

-- `=`, the id and the result, or `?`, the id, a space and why; and two line ends
abbrev pub decision_text : Option ℕ → Decision → Standing → List ℕ
decision_text id Done s = codes "=" ++ (id_text id ++ codes "\n\n")
decision_text id Ends s = codes "=" ++ (id_text id ++ codes "\n\n")
decision_text id (Tells fact) s = codes "=" ++ (id_text id ++ (result_text (fact_text fact s) ++ codes "\n\n"))
decision_text id (Refused why) s = codes "?" ++ (id_text id ++ (codes " " ++ (refusal_text why ++ codes "\n\n")))

abbrev pub is_end : Decision → Bool
is_end Ends = true
is_end _ = false

-- what is said to a line: the text of the answer, the standing after it, and whether the session ends
pub record Said : Type 0 where
  pub text : List ℕ
  pub standing : Standing
  pub ends : Bool

-- a line without words has no answer
abbrev pub silent : Standing → Said
silent s = record { text = []; standing = s; ends = false }

-- the answer with this id by a decision
abbrev pub spoken : Option ℕ → Decided → Said
spoken id d = record { text = decision_text id d.decision d.standing; standing = d.standing; ends = is_end d.decision }

-- the id of a line, also of one that is too long
abbrev pub line_id : Kept → Option ℕ
line_id k = if k.is_long then id_before_space k.text else (asked_by (words k.text)).id

-- what may be decided on a line with words, the content being what was fetched for it
abbrev pub DecidesLine : Standing → Kept → Content → Decided → Type 0
DecidesLine s k content d = ((k.is_long ≡ true) × (d ≡ keeps s (Refused LineTooLong)))
    ⊎ ((k.is_long ≡ false) × Decides s (asked_by (words k.text)) content d)

-- what may be said to a line with words: the answer by a decision
abbrev pub Answers : Standing → Kept → Content → Said → Type 0
Answers s k content reply = (d : Decided) × DecidesLine s k content d × (reply ≡ spoken (line_id k) d)

-- what may be said to a line
abbrev pub Reply : Standing → Kept → Content → Said → Type 0
Reply s k content reply = ((has_bytes k.text ≡ false) × (reply ≡ silent s))
    ⊎ ((has_bytes k.text ≡ true) × Answers s k content reply)

-- the name of the file that a line asks for
abbrev pub wanted : Kept → Option (List ℕ)
wanted k = if k.is_long then None else option_map (λ load. load.name) (load_of_asked (asked_by (words k.text)))
