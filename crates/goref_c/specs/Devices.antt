-- What contracts see of the devices in memory.
use Rattle.std.specs.Prelude.{ℕ, List}

-- a reader: the bytes that are left, and the counts of pulls and of ends found
pub record Reading : Type 0 where
  pub left : List ℕ
  pub pulls : ℕ
  pub ends : ℕ

-- a writer: the bytes that it took, and the count of failures
pub record Writing : Type 0 where
  pub taken : List ℕ
  pub failures : ℕ
