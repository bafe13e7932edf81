-- A decision: what the answer says, and the standing after it.
use Rattle.std.specs.Prelude.{◌≡◌, ◌⊎◌, Bool, true, false}
use Rattle.go_game.specs.Standings.{Standing}
use Rattle.goref_session.specs.declared.decision.Decision.{Decision}
use Rattle.goref_session.specs.declared.decision.Decision.TheVariants.{Done, Refused}
use Rattle.goref_session.specs.declared.decision.Refusal.TheVariants.{OutOfMemory}

-- a decision, and the standing after it
pub record Decided : Type 0 where
  pub decision : Decision
  pub standing : Standing

-- a decision that changes nothing
abbrev pub keeps : Standing → Decision → Decided
keeps s decision = record { decision = decision; standing = s }

-- a command that was done, with an empty answer
abbrev pub comes_to : Standing → Decided
comes_to s = record { decision = Done; standing = s }

abbrev pub is_refusal : Decision → Bool
is_refusal (Refused why) = true
is_refusal _ = false

-- a command that is not refused by the table may lack memory
abbrev pub LacksMemoryFor : Decided → Type 0
LacksMemoryFor d = is_refusal d.decision ≡ false

-- the decision is the stated one, or a refusal for lack of memory where the command may lack it
abbrev pub MayDecide : Standing → Decided → Decided → Type 0
MayDecide s stated d = (d ≡ stated) ⊎ (LacksMemoryFor stated × (d ≡ keeps s (Refused OutOfMemory)))
