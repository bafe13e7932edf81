use Rattle.std.proofs.Common.{◌≡◌, codes, refl, true}
use Rattle.std.specs.Prelude.{filter}
use Rattle.std.specs.Str.{bytes_eq}
use Rattle.go_sgf.specs.Record.{is_upper_byte, plain_property}
use Rattle.go_record.proofs.KindNames.{name_differs, name_same}
use Rattle.go_record.proofs.kind.kind_of.Goals as goal

pub returns-then-is_named : goal.returns-then-is_named
returns-then-is_named c = λ p e.
    let same : bytes_eq (filter is_upper_byte c.args.name.now) (codes "B") ≡ true = cc in
    let at = name_same p c.args.name.now (codes "B") e same in
    record { setup = λ node. rw at refl; moves = λ node. rw at refl }

pub returns-then-is_named-2 : goal.returns-then-is_named-2
returns-then-is_named-2 c = λ p e.
    let same : bytes_eq (filter is_upper_byte c.args.name.now) (codes "W") ≡ true = cc in
    let at = name_same p c.args.name.now (codes "W") e same in
    record { setup = λ node. rw at refl; moves = λ node. rw at refl }

pub returns-then-is_named-3 : goal.returns-then-is_named-3
returns-then-is_named-3 c = λ p e.
    let same : bytes_eq (filter is_upper_byte c.args.name.now) (codes "AB") ≡ true = cc in
    let at = name_same p c.args.name.now (codes "AB") e same in
    record { setup = λ node. rw at refl; moves = λ node. rw at refl }

pub returns-then-is_named-4 : goal.returns-then-is_named-4
returns-then-is_named-4 c = λ p e.
    let same : bytes_eq (filter is_upper_byte c.args.name.now) (codes "AW") ≡ true = cc in
    let at = name_same p c.args.name.now (codes "AW") e same in
    record { setup = λ node. rw at refl; moves = λ node. rw at refl }

pub returns-then-is_named-5 : goal.returns-then-is_named-5
returns-then-is_named-5 c = λ p e.
    let same : bytes_eq (filter is_upper_byte c.args.name.now) (codes "AE") ≡ true = cc in
    let at = name_same p c.args.name.now (codes "AE") e same in
    record { setup = λ node. rw at refl; moves = λ node. rw at refl }

pub returns-then-is_named-6 : goal.returns-then-is_named-6
returns-then-is_named-6 c = λ p e.
    let same : bytes_eq (filter is_upper_byte c.args.name.now) (codes "PL") ≡ true = cc in
    let at = name_same p c.args.name.now (codes "PL") e same in
    record { setup = λ node. rw at refl; moves = λ node. rw at refl }

pub returns-else-is_named-6 : goal.returns-else-is_named-6
returns-else-is_named-6 c = λ p e.
    let other = name_differs p c.args.name.now in
    let b = other (codes "B") e cc in
    let w = other (codes "W") e cc in
    let ab = other (codes "AB") e cc in
    let aw = other (codes "AW") e cc in
    let ae = other (codes "AE") e cc in
    let pl = other (codes "PL") e cc in
    record { setup = λ node. rw (ab, aw, ae, pl) refl; moves = λ node. rw (b, w) refl }
