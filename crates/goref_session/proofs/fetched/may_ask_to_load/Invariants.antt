use Rattle.std.proofs.Common.{◌≡◌, drop}
use Rattle.goref_session.specs.inner.Wanting.{may_load}
use Rattle.goref_session.proofs.fetched.may_ask_to_load.Given as goal

abbrev pub invariant-loop-byte : goal.invariant-loop-byte
invariant-loop-byte l = may_load (drop l.byte-index l.text) ≡ may_load l.text
