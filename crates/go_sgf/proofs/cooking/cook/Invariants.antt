use Rattle.std.proofs.Common.{◌≡◌, ◌++◌, drop}
use Rattle.go_sgf.specs.inner.Cooking.{cooked_from}
use Rattle.go_sgf.specs.declared.cooking.Mode.TheVariants.{Text}
use Rattle.go_sgf.proofs.cooking.cook.Given as goal

abbrev pub invariant-loop-byte : goal.invariant-loop-byte
invariant-loop-byte g l = l.text.items
    ++ cooked_from l.line_break l.mode (drop l.byte-index l.value) ≡ cooked_from l.line_break Text l.value
