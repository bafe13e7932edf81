-- What may go to another thread: a game, where its allocator may.
use denote.RattleType.{RattleType}
use denote.Param.Send.{Frees, IsSend, sendable, view_send}
use Rattle.std.proofs.marker.PhantomData.TheSendSync as phantom
use Rattle.std.proofs.vec.Vec.TheSendSync as vec
use Rattle.std.specs.declared.alloc.Allocator.{Ghosts}
use Rattle.go_board.specs.contracts.grid.Grid as grid
use Rattle.go_board.specs.contracts.grid.Grid.TheInside as grid_fields
use Rattle.go_board.specs.contracts.meter.Meter as meter
use Rattle.go_board.specs.contracts.meter.Meter.TheInside as meter_fields
use Rattle.go_board.specs.contracts.meter.Number as number
use Rattle.go_board.specs.contracts.meter.Open as open_kind
pub use Rattle.go_board.specs.lemmas.Crossing.{fields_send}
use Rattle.go_chains.specs.lemmas.Crossing.{board_send, log_send, snapshot_send}
use Rattle.go_history.specs.lemmas.Crossing.{history_send}
use Rattle.go_game.specs.contracts.game.Game as game
use Rattle.go_game.specs.contracts.game.Game.TheInside as game_fields
use Rattle.go_game.specs.contracts.step.Step as step

pub grid_send : IsSend grid.the_row
grid_send = view_send grid_fields.the_row _ _ _ _ (fields_send grid_fields.the_type (search sendable depth 20))

pub meter_send : (K : RattleType) → IsSend (meter.the_row K)
meter_send K =
    view_send (meter_fields.the_row K) _ _ _ _
    (fields_send (meter_fields.the_type K) (snapshot_send number.the_row, (phantom.the_field_send K, tt)))

step_send : IsSend step.the_row
step_send = search sendable depth 20

pub game_send : (A : RattleType) (g : Ghosts A.Denot)
    → IsSend A → Frees g g.dealloc_token → IsSend (game.the_row A g)
game_send A g sent frees =
    view_send (game_fields.the_row A g) _ _ _ _
    (fields_send (game_fields.the_type A g) (
      grid_send,
      (
        search sendable,
        (
          search sendable depth 20,
          (
            search sendable depth 20,
            (
              board_send open_kind.the_row,
              (
                log_send A g sent frees,
                (
                  meter_send open_kind.the_row,
                  (
                    vec.the_send step.the_row A g step_send sent frees,
                    (
                      history_send A g sent frees,
                      (search sendable depth 20, (search sendable depth 20, tt)),
                    ),
                  ),
                ),
              ),
            ),
          ),
        ),
      ),
    ))
