use Rattle.std.proofs.Common.{◌≡◌, drop, map}
use Rattle.goref_session.specs.Commands.{command_among, command_of}
use Rattle.goref_session.proofs.Named.{named}
use Rattle.goref_session.proofs.command.command_listed.Given as goal

abbrev pub invariant-loop-known : goal.invariant-loop-known
invariant-loop-known l = command_among (map named (drop l.known-index l.known-items)) l.name ≡ command_of l.name
