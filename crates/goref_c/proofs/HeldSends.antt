-- What a handle leads to may go to another thread.
use denote.Builtin.{u8}
use denote.Param.Send.{IsSend, sendable, view_send}
use Rattle.std.proofs.Crossing.{Vec-send, frees, send}
use Rattle.std.specs.contracts.alloc.Global.{the_row as global}
use Rattle.std_heap.proofs.Global.TheSendSync as heap
use Rattle.std.specs.contracts.impls.GlobalAllocator.TheImpl.{ghosts}
use Rattle.go_board.specs.contracts.meter.Open as open_kind
use Rattle.go_game.specs.lemmas.Crossing.{fields_send, meter_send}
use Rattle.goref_session.specs.lemmas.Crossing.{session_send}
use Rattle.goref_c.specs.contracts.devices.TextWriter as writer
use Rattle.goref_c.specs.contracts.devices.TextWriter.TheInside as writer_fields
use Rattle.goref_c.specs.contracts.held.Held as held
use Rattle.goref_c.specs.contracts.held.Held.TheInside as held_fields

writer_send : IsSend (writer.the_row global ghosts)
writer_send =
    view_send (writer_fields.the_row global ghosts) _ _ _ _
    (fields_send (writer_fields.the_type global ghosts)
    (Vec-send u8 (search sendable), (meter_send open_kind.the_row, tt)))

pub held_send : IsSend held.the_row
held_send =
    view_send held_fields.the_row _ _ _ _
    (fields_send held_fields.the_type
    (session_send global ghosts send frees, (writer_send, (search sendable, (heap.the_field_send, tt)))))
