use Rattle.std.proofs.Common.{rules, arith, take}
use Rattle.std.proofs.lemmas.List.{length-take-le}
use Rattle.goref_tools.proofs.Whole.{reads_more}
use Rattle.goref_tools.proofs.input.read_input.Goals as goal

pub returns-in_err-extend_from_slice-clause-reads :
    goal.returns-in_err-extend_from_slice-clause-reads
returns-in_err-extend_from_slice-clause-reads g c =
    let now = c.loop-buffer.invariant in
    reads_more (g.R.Source.left c.pull.new.self) c.loop-buffer.bytes.items (take c.in-Ok.count c.pull.new.buffer)
    (omega (
      arith,
      length-take-le c.in-Ok.count c.pull.new.buffer c.in-Ok.ensures.within,
      c.in-Ok.ensures.within,
      c.loop-buffer-test.true,
      c.split_at_mut.ensures.front_len,
    ))
    now.given c.in-Ok.ensures.bytes

pub returns-clause-input : goal.returns-clause-input
returns-clause-input g c = search rules

pub returns-clause-failures : goal.returns-clause-failures
returns-clause-failures g c = search rules
