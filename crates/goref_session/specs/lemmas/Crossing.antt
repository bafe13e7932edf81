-- What may go to another thread: a session, where its allocator may.
use denote.RattleType.{RattleType}
use denote.Param.Send.{Frees, IsSend, sendable, view_send}
use Rattle.std.proofs.boxed.Box.TheSendSync as box
use Rattle.std.specs.declared.alloc.Allocator.{Ghosts}
use Rattle.go_game.specs.contracts.game.Game as game
use Rattle.go_game.specs.lemmas.Crossing.{fields_send, game_send}
use Rattle.goref_session.specs.contracts.second.Second as second
use Rattle.goref_session.specs.contracts.session.Session as session
use Rattle.goref_session.specs.contracts.session.Session.TheInside as session_fields

module _ (A : RattleType) (g : Ghosts A.Denot) (sent : IsSend A) (frees : Frees g g.dealloc_token) where
  second_send : IsSend (second.the_row A g)
  second_send =
      fields_send (second.the_type A g)
      (box.the_send (game.the_row A g) A g (game_send A g sent frees) sent frees, (search sendable, tt))

  pub session_send : IsSend (session.the_row A g)
  session_send =
      view_send (session_fields.the_row A g) _ _ _ _
      (fields_send (session_fields.the_type A g)
      (game_send A g sent frees, (search (sendable, second_send), (sent, tt))))
