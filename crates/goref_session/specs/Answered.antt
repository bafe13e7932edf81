-- What is said to a line, and what of it was written.
use Rattle.std.specs.Prelude.{◌≡◌, ℕ, Bool, true, false, List, Option, Result, MatchResult}
use Rattle.go_board.specs.Device.{then_bytes, TakesPrefix}
use Rattle.go_board.specs.declared.device.WriteFault.{WriteFault}
use Rattle.goref_session.specs.declared.flow.Flow.{Flow}
use Rattle.goref_session.specs.declared.flow.Flow.TheVariants.{More, Quit}
use Rattle.go_game.specs.Standings.{Standing}
use Rattle.goref_lines.specs.Kept.{Kept}
use Rattle.goref_session.specs.Contents.{Content}
use Rattle.goref_session.specs.Replies.{Said, Reply}

-- whether a session goes on after an answer
abbrev pub flow_of : Bool → Flow
flow_of true = Quit
flow_of false = More

-- a line was answered over the old standing, and the new standing is that after the answer; the answer was
-- written whole, or a prefix of it where a write failed
pub record Answered (old new : Standing) (line : Kept) (content : Content) (result : Result Flow WriteFault)
    (taken taken' : Option (List ℕ)) : Type 0 where
  pub reply : Said
  pub is_reply : Reply old line content reply
  pub stands : new ≡ reply.standing
  pub sent : MatchResult result (λ flow. (flow ≡ flow_of reply.ends) × (taken' ≡ then_bytes taken reply.text))
      (λ _. TakesPrefix taken taken' reply.text)
