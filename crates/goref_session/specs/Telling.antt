-- The commands that answer a question and change nothing.
use Rattle.std.specs.Prelude.{ℕ, Bool, true, false, is_some, List, Option, Some, None, codes}
use Rattle.std.specs.List.{join_with_byte}
use Rattle.go_game.specs.Scores.{margin_of, score_word}
use Rattle.go_game.specs.Standings.{Standing, board_of}
use Rattle.go_record.specs.Records.{record_body}
use Rattle.goref_session.specs.Commands.{command_names, command_of}
use Rattle.goref_session.specs.Decisions.{Decided, keeps}
use Rattle.goref_session.specs.declared.command.Topic.{Topic}
use Rattle.goref_session.specs.declared.command.Topic.TheVariants.{Protocol, Program, Release, Commands, Score, Board, Chains, Record}
use Rattle.goref_session.specs.declared.decision.Decision.TheVariants.{Tells, Refused}
use Rattle.goref_session.specs.declared.decision.Fact.TheVariants.{About, Known}
use Rattle.goref_session.specs.declared.decision.Refusal.TheVariants.{SyntaxError}
use Rattle.goref_results.specs.ChainLines.{chain_lines}
use Rattle.goref_results.specs.Diagrams.{diagram}

-- the answer to a topic over a standing
abbrev pub topic_text : Topic → Standing → List ℕ
topic_text Protocol s = codes "2"
topic_text Program s = codes "goref"
topic_text Release s = codes "1.0"
topic_text Commands s = join_with_byte 10 command_names
topic_text Score s = score_word (margin_of s)
topic_text Board s = diagram s
topic_text Chains s = chain_lines s.lines (board_of s)
topic_text Record s = record_body s

-- a topic is answered
abbrev pub decided_topic : Standing → Topic → Decided
decided_topic s topic = keeps s (Tells (About topic))

-- `known_command`: whether the word is the name of a command
abbrev pub decided_known : Standing → Option (List ℕ) → Decided
decided_known s None = keeps s (Refused SyntaxError)
decided_known s (Some word) = keeps s (Tells (Known (is_some (command_of word))))

abbrev pub truth_text : Bool → List ℕ
truth_text true = codes "true"
truth_text false = codes "false"
