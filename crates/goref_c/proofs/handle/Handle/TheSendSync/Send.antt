-- A handle may go to another thread where what it leads to may: it counts nothing and locks nothing.
use mir.Raw.{raw}
use base.Shift.{Keyless}
use denote.Memory.{lone}
use denote.RawPtr.{Ptr}
use denote.Struct.Struct.{exits_of}
use denote.Struct.Owning.{shape, fields, to}
use denote.Param.Send.{IsSend, AllSend, owning_send, struct_send, sendable}
use Rattle.std.proofs.Crossing as heap
use Rattle.std.specs.Global.{Global}
use Rattle.std.specs.declared.option.Option.{Option}
use Rattle.std.specs.declared.option.Option.TheVariants.{None, Some}
use Rattle.std_alloc.proofs.SendSync.{quiet, lies}
use Rattle.std_heap.proofs.Global.TheSendSync as global
use Rattle.goref_c.specs.Handles.{kept, Kept, handle_owns}
use Rattle.goref_c.specs.contracts.handle.Handle.{the_row, the_type}
use Rattle.goref_c.proofs.HeldSends.{held_send}

owned : (alloc : Global) (at : Ptr) (value : Option Kept) → Keyless (handle_owns alloc at value)
owned alloc at None = λ e. tt
owned alloc at (Some x) = (lies kept held_send at x, heap.frees.frees alloc (raw (lone kept.mir)) at)

pub send : IsSend the_row
send =
    let all : AllSend (fields the_type) = (search sendable, (global.the_field_send, tt)) in
    owning_send the_type all (λ d. owned d.alloc d.at d.value)
    (λ k. quiet (to the_type) (exits_of k (fields the_type)) ((struct_send (shape the_type) all).leaving k))
