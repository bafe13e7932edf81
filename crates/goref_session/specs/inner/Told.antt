-- What a decision writes on a device, for the contracts of private functions.
use Rattle.std.specs.Prelude.{◌≡◌, ℕ, List, Option, Result, MatchResult}
use Rattle.go_board.specs.Device.{then_bytes, TakesPrefix}
use Rattle.go_board.specs.declared.device.WriteFault.{WriteFault}
use Rattle.go_game.specs.Standings.{Standing}
use Rattle.goref_session.specs.declared.flow.Flow.{Flow}
use Rattle.goref_session.specs.Answered.{flow_of}
use Rattle.goref_lines.specs.Requests.{Asked}
use Rattle.goref_session.specs.Contents.{Content}
use Rattle.goref_session.specs.Decisions.{Decided}
use Rattle.goref_session.specs.Replies.{decision_text, is_end}
use Rattle.goref_session.specs.Table.{Decides}
use Rattle.goref_session.specs.declared.decision.Decision.{Decision}

-- the answer with this id by a decision was written whole, or a prefix of it where a write failed
abbrev pub IsTold : Result Flow WriteFault → Option ℕ → Decided → Option (List ℕ) → Option (List ℕ) → Type 0
IsTold result id d taken taken' =
    MatchResult result (λ flow. (flow ≡ flow_of (is_end d.decision))
    × (taken' ≡ then_bytes taken (decision_text id d.decision d.standing)))
    (λ _. TakesPrefix taken taken' (decision_text id d.decision d.standing))

-- a decision on what is asked, whatever was fetched, gave this standing, and was written
abbrev pub TellsOf : Standing → Standing → Asked → Result Flow WriteFault → Option (List ℕ) → Option (List ℕ) → Type 0
TellsOf s t asked result taken taken' = (decision : Decision)
    × ((content : Content) → Decides s asked content (record { decision = decision; standing = t }))
    × IsTold result asked.id (record { decision = decision; standing = t }) taken taken'
