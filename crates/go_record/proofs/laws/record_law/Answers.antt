use Rattle.go_record.proofs.Fitting.{records}
use Rattle.go_record.proofs.laws.record_law.Goals as goal

pub returns : goal.returns
returns c = records c.canonical_spells_plain.ensures c.one_record.ensures c.spelled_is_read.ensures
