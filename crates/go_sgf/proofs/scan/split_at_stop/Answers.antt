use Rattle.std.proofs.Common.{◌≡◌, true, length, take, arith}
use Rattle.std.proofs.lemmas.List.{take_all}
use Rattle.std.specs.List.{list_all}
use Rattle.go_sgf.specs.inner.Reads.{is_ordinary}
use Rattle.go_sgf.proofs.Scanning.{ordinary_before}
use Rattle.go_sgf.proofs.scan.split_at_stop.Goals as goal

pub returns-in_err-place-clause-none : goal.returns-in_err-place-clause-none
returns-in_err-place-clause-none c =
    let bytes = c.args.bytes.now in
    let before : list_all is_ordinary (take (length bytes) bytes) ≡ true =
    ordinary_before bytes (length bytes) (λ k less. c.in_err-place.ensures k (omega arith) less) in
    let all : list_all is_ordinary bytes ≡ true = rw (← take_all (length bytes) bytes (omega arith)) before in
    rw c.from_residual.ensures all

pub returns-in-Some-clause-prefix : goal.returns-in-Some-clause-prefix
returns-in-Some-clause-prefix c =
    rw c.split_at.ensures.front
    (ordinary_before c.args.bytes.now c.in_ok-place.place
    (λ k less. c.in_ok-place.ensures.0.before k (omega arith) less))
