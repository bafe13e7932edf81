-- The statements of a body after the first n.
use Prim.Native.Nat.{ℕ, zero, suc}
use mir.Syntax.{Body, skip, seq}

abbrev rest : Body → Body
rest (seq first second) = second
rest _ = skip

abbrev pub after : ℕ → Body → Body
after zero b = b
after (suc n) b = after n (rest b)
