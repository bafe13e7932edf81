use Rattle.goref_tools.proofs.Again.{tidy_again}
use Rattle.goref_tools.proofs.laws.tidy_is_tidy.Goals as goal

pub returns : goal.returns
returns c = tidy_again c.canonical_spells_plain.ensures c.one_record.ensures c.spelled_is_fit.ensures
    c.spelled_is_read.ensures
