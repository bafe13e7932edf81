use Rattle.std.proofs.Common.{arith, ◌∙◌}
use Rattle.go_board.specs.PackBytes.{bytes_of}
use Rattle.go_chains.proofs.answers.Packs.{pack_written, written_byte}
use Rattle.go_chains.proofs.packed_colours.PackedColours.put.Goals as goal

pub returns : goal.returns
returns g c = λ cells at before.
    let bytes = bytes_of c.self.inside.pack in
    let old = c.self.view_is ∙ before in
    let byte = written_byte cells bytes c.args.place c.args.number c.byte-byte.result c.with_code.result
    c.colour_code-code.result c.requires old (omega arith) c.byte-byte.ensures c.with_code.ensures.code
    c.with_code.ensures.others c.colour_code-code.ensures.value at in
    c.set.ensures ∙ pack_written cells bytes c.args.place c.args.number c.with_code.result c.requires old byte
