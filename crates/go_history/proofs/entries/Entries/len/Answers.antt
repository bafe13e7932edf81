use Rattle.std.proofs.Common.{◌∙◌, sym}
use Rattle.go_history.proofs.KeptEntries.{length_is}
use Rattle.go_history.proofs.entries.Entries.len.Goals as goal

pub returns : goal.returns
returns g c = c.len.ensures ∙ c.self.inside.rests.ok.0
    ∙ sym (length_is c.self.inside.width c.self.inside.prefixes.items c.self.inside.rests.items c.args.self.now
    c.self.view_is)
