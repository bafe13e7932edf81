-- What contracts see of the devices in memory.
use Rattle.std.specs.Prelude.{ℕ, List}

-- a reader: the bytes that are left, and the counts of pulls, of failures and of ends found
pub record Reading : Type 0 where
  pub left : List ℕ
  pub pulls : ℕ
  pub failures : ℕ
  pub ends : ℕ

-- a writer: the bytes that it took, and the count of failures
pub record Writing : Type 0 where
  pub taken : List ℕ
  pub failures : ℕ

-- a writer that holds bytes back: the bytes that it took, the count of those not passed on, and of failures
pub record Holding : Type 0 where
  pub taken : List ℕ
  pub held : ℕ
  pub failures : ℕ
