-- What may go to another thread: a board, and a log where its allocator may.
use denote.RattleType.{RattleType}
use denote.Builtin.{usize}
use denote.Param.Send.{Frees, IsSend, fixed_send, sendable, view_send}
use Rattle.std.proofs.marker.PhantomData.TheSendSync as phantom
use Rattle.std.proofs.vec.Vec.TheSendSync as vec
use Rattle.std.specs.contracts.snapshot.Snapshot as snapshot
use Rattle.std.specs.declared.alloc.Allocator.{Ghosts}
use Rattle.go_board.specs.lemmas.Crossing.{fields_send}
use Rattle.go_chains.specs.contracts.board.Board as board
use Rattle.go_chains.specs.contracts.board.Board.TheInside as board_fields
use Rattle.go_chains.specs.contracts.cells.Cells as cells
use Rattle.go_chains.specs.contracts.cells.Cells.TheInside as cells_fields
use Rattle.go_chains.specs.contracts.change.LoggedChange as change
use Rattle.go_chains.specs.contracts.change.LoggedChange.TheInside as change_fields
use Rattle.go_chains.specs.contracts.log.Log as log
use Rattle.go_chains.specs.contracts.log.Log.TheInside as log_fields
use Rattle.go_chains.specs.contracts.numbers.Numbers as numbers
use Rattle.go_chains.specs.contracts.numbers.Numbers.TheInside as numbers_fields
use Rattle.go_chains.specs.contracts.packed_colours.PackedColours as colours
use Rattle.go_chains.specs.contracts.packed_colours.PackedColours.TheInside as colours_fields
use Rattle.go_chains.specs.contracts.trace.Trace as trace
use Rattle.go_chains.specs.contracts.trace.Trace.TheInside as trace_fields
use Rattle.go_chains.specs.contracts.trace.Writes as writes

-- a snapshot owns nothing
pub snapshot_send : (R : RattleType) → IsSend (snapshot.the_row R)
snapshot_send R = record {
  owned = λ s vs. ((λ vss. (tt, ((λ uss. (tt, tt)), tt))), tt);
  leaving = λ k s vs. tt;
}

module _ (K : RattleType) where
  numbers_send : IsSend (numbers.the_row K)
  numbers_send =
      view_send (numbers_fields.the_row K) _ _ _ _
      (fields_send (numbers_fields.the_type K) (search sendable, (phantom.the_field_send K, tt)))

  colours_send : IsSend (colours.the_row K)
  colours_send =
      view_send (colours_fields.the_row K) _ _ _ _
      (fields_send (colours_fields.the_type K) (search sendable, (phantom.the_field_send K, tt)))

  trace_send : IsSend (trace.the_row K)
  trace_send =
      view_send (trace_fields.the_row K) _ _ _ _
      (fields_send (trace_fields.the_type K) (snapshot_send (writes.the_row K), tt))

  cells_send : IsSend (cells.the_row K)
  cells_send =
      view_send (cells_fields.the_row K) _ _ _ _
      (fields_send (cells_fields.the_type K) (numbers_send, (colours_send, (trace_send, tt))))

  pub board_send : IsSend (board.the_row K)
  board_send =
      view_send (board_fields.the_row K) _ _ _ _
      (fields_send (board_fields.the_type K) (search sendable, (cells_send, tt)))

change_send : IsSend change.the_row
change_send =
    fixed_send change_fields.the_row _ _ change.the_inverse change.the_view change.the_invariant
    (fields_send change_fields.the_type (search sendable))

pub log_send : (A : RattleType) (g : Ghosts A.Denot)
    → IsSend A → Frees g g.dealloc_token → IsSend (log.the_row A g)
log_send A g sent frees =
    view_send (log_fields.the_row A g) _ _ _ _
    (fields_send (log_fields.the_type A g)
    (vec.the_send change.the_row A g change_send sent frees, (vec.the_send usize A g (search sendable) sent frees, tt)))
