-- One edit of the cells after another.
use Rattle.std.specs.Prelude.{Vec}
use Rattle.std.proofs.Common.{arith, ℕ, ◌≤◌, ◌+◌, ◌-◌}
use Rattle.go_chains.specs.declared.change.Change.{Change}
use Rattle.go_chains.specs.Cells.{CellsValue}
use Rattle.go_chains.specs.inner.Edits.{Edited}
use Rattle.go_chains.proofs.writes.Rewinding.{Logged_none, Logged_then, Logged_within}

-- one edit, and after more reads another
pub Edited_then : {A : Type 0} {a b c : CellsValue} {xs ys zs : Vec Change A} {m0 m1 m2 m3 j s k t most ticks : ℕ}
    → Edited a b xs ys m0 m1 j s → Edited b c ys zs m2 m3 k t → m1 ≤ m2 → j + k ≤ most → m3 ≤ m0 + ticks →
    Edited a c xs zs m0 m3 most ticks
Edited_then {a = a} {b = b} {c = c} {xs = xs} {ys = ys} {zs = zs} {j = j} {k = k} {most = most} first second onward
    within count = record {
      logged = Logged_then a b c xs.items ys.items zs.items j k most first.logged second.logged within;
      capacity = omega arith;
      length = omega arith;
      count = count;
      ticked = omega arith;
    }

-- the same, with as many changes as the two may make, and as many reads and writes as the meter tells
pub Edited_next : {A : Type 0} {a b c : CellsValue} {xs ys zs : Vec Change A} {m0 m1 m2 m3 j s k t : ℕ}
    → Edited a b xs ys m0 m1 j s → Edited b c ys zs m2 m3 k t → m1 ≤ m2 → Edited a c xs zs m0 m3 (j + k) (m3 - m0)
Edited_next first second onward = Edited_then first second onward (omega arith) (omega arith)

-- an edit among more reads
pub Edited_within : {A : Type 0} {a b : CellsValue} {xs ys : Vec Change A} {m0 m1 m2 m3 j s most ticks : ℕ}
    → Edited a b xs ys m1 m2 j s → m0 ≤ m1 → m2 ≤ m3 → j ≤ most → m3 ≤ m0 + ticks → Edited a b xs ys m0 m3 most ticks
Edited_within {a = a} {b = b} {xs = xs} {ys = ys} {j = j} {most = most} edited before after within count = record {
  logged = Logged_within a b xs.items ys.items j most edited.logged within;
  capacity = edited.capacity;
  length = omega arith;
  count = count;
  ticked = omega arith;
}

-- reads alone
pub Edited_none : {A : Type 0} {a : CellsValue} {xs : Vec Change A} {m0 m1 most ticks : ℕ} → m0 ≤ m1 → m1 ≤ m0 + ticks →
    Edited a a xs xs m0 m1 most ticks
Edited_none {a = a} {xs = xs} {most = most} onward count = record {
  logged = Logged_within a a xs.items xs.items 0 most (Logged_none a xs.items) (omega arith);
  capacity = omega arith;
  length = omega arith;
  count = count;
  ticked = omega arith;
}
