use Rattle.std.proofs.Common.{inl, inr, refl, sym, true≢false}
use Rattle.go_board.proofs.RowBits.{column_put}
use Rattle.go_board.proofs.rows.with_stone.Goals as goal

pub returns-then-is_same : goal.returns-then-is_same
returns-then-is_same c i = (
  λ set. elim ((column_put c.args.word c.args.col i c.requires).0 set)
      [ inl at ↦ inl (at, c.if-is_same.ensures.0 refl) | inr was ↦ inr was ],
  λ h. (column_put c.args.word c.args.col i c.requires).1 (elim h [ inl at ↦ inl at.0 | inr was ↦ inr was ]),
)

pub returns-else-is_same : goal.returns-else-is_same
returns-else-is_same c i = (
  λ set. inr set,
  λ h.
      elim h [ inl at ↦ absurd (true≢false (sym (c.if-is_same.ensures.1 at.1))) | inr was ↦ was ],
)
