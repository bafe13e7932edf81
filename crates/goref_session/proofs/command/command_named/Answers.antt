use Rattle.std.proofs.Common.{◌≡◌, ap, codes, sym, true}
use Rattle.std.proofs.lemmas.Slice.Eq.{bytes_eq-Decides}
use Rattle.std.specs.Str.{bytes_eq}
use Rattle.goref_session.specs.Commands.{command_of}
use Rattle.goref_session.proofs.command.command_named.Goals as goal

pub returns-then-eq : goal.returns-then-eq
returns-then-eq c =
    let same : bytes_eq c.args.name.now (codes "play") ≡ true = cc in
    sym (ap command_of ((bytes_eq-Decides c.args.name.now (codes "play")).0 same))

pub returns-then-eq-2 : goal.returns-then-eq-2
returns-then-eq-2 c =
    let same : bytes_eq c.args.name.now (codes "undo") ≡ true = cc in
    sym (ap command_of ((bytes_eq-Decides c.args.name.now (codes "undo")).0 same))
