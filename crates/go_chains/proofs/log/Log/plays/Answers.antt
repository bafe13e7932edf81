use Rattle.std.proofs.Common.{◌≡◌, length, ap, sym, ◌∙◌, arith}
use Rattle.go_chains.proofs.writes.Rewinding.{length-plays_of}
use Rattle.go_chains.proofs.log.Log.plays.Goals as goal

pub returns : goal.returns
returns g c =
    let size : c.len.result ≡ length c.self.inside.lengths.items = omega arith in
    size ∙ sym (length-plays_of c.self.inside.lengths.items c.self.inside.changes.items) ∙ ap length c.self.view_is
