-- What a handle owns: nothing at null, and else a box.
use base.Fml.{Fml, ftrue, fex}
use base.Stored.{Coded}
use denote.RattleType.{RattleType}
use denote.RawPtr.{Ptr, null_ptr}
use Rattle.std.specs.Prelude.{◌≡◌}
use Rattle.std.specs.Coded.{coded_option}
use Rattle.std.specs.Box.Ownership.{box_owns}
use Rattle.std.specs.Global.{Global}
use Rattle.std.specs.declared.option.Option.{Option}
use Rattle.std.specs.declared.option.Option.TheVariants.{None, Some}
use Rattle.std_heap.specs.contracts.GlobalAllocator.TheImpl.{ghosts}
use Rattle.goref_c.specs.contracts.held.Held.{the_row}

-- what the box holds, as a row; the only place that names its type
abbrev pub kept : RattleType
kept = the_row

-- what a clause sees of it
abbrev pub Kept : Type 0
Kept = kept.Denot

abbrev pub coded_kept : Coded (Option Kept)
coded_kept = coded_option kept.coded

abbrev pub handle_owns : Global → Ptr → Option Kept → Fml
handle_owns alloc at None = fex (at ≡ null_ptr) (λ _. ftrue)
handle_owns alloc at (Some value) = box_owns (ghosts.dealloc_token alloc) kept at value
