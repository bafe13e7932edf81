-- What may go to another thread: a history, where its allocator may.
use denote.RattleType.{RattleType}
use denote.Builtin.{u8, usize}
use denote.Param.Send.{Frees, IsSend, sendable, view_send}
use Rattle.std.proofs.collections.HashMap.TheSendSync as hash_map
use Rattle.std.proofs.hash.BuildHasherDefault.TheSendSync.{the_send as hashers_send}
use Rattle.std.proofs.hash.FoldHasher.TheSendSync.{the_send as hasher_send}
use Rattle.std.proofs.vec.Vec.TheSendSync as vec
use Rattle.std.specs.contracts.hash.BuildHasherDefault as builder
use Rattle.std.specs.contracts.hash.FoldHasher as hasher
use Rattle.std.specs.contracts.prelude.FoldHasherHasher.TheImpl.{ghosts as hasher_ghosts}
use Rattle.std.specs.declared.alloc.Allocator.{Ghosts}
use Rattle.go_board.specs.lemmas.Crossing.{fields_send}
use Rattle.go_history.specs.contracts.entries.Entries as entries
use Rattle.go_history.specs.contracts.entries.Entries.TheInside as entries_fields
use Rattle.go_history.specs.contracts.entries.Rest as rest
use Rattle.go_history.specs.contracts.far_keys.FarKeys as far_keys
use Rattle.go_history.specs.contracts.far_keys.FarKeys.TheInside as far_keys_fields
use Rattle.go_history.specs.contracts.history.History as history
use Rattle.go_history.specs.contracts.history.History.TheInside as history_fields
use Rattle.go_history.specs.contracts.key.Key as key
use Rattle.go_history.specs.contracts.key.KeyHash.TheImpl as key_hash
use Rattle.go_history.specs.contracts.key.KeyPartialEq.TheImpl as key_eq
use Rattle.go_history.specs.contracts.key_tree.KeyTree as tree
use Rattle.go_history.specs.contracts.key_tree.KeyTree.TheInside as tree_fields

key_send : IsSend key.the_row
key_send = search sendable depth 20

rest_send : IsSend rest.the_row
rest_send = search sendable depth 20

module _ (A : RattleType) (g : Ghosts A.Denot) (sent : IsSend A) (frees : Frees g g.dealloc_token) where
  entries_send : IsSend (entries.the_row A g)
  entries_send =
      view_send (entries_fields.the_row A g) _ _ _ _
      (fields_send (entries_fields.the_type A g) (
        search sendable,
        (vec.the_send u8 A g (search sendable) sent frees, (vec.the_send rest.the_row A g rest_send sent frees, tt)),
      ))

  tree_send : IsSend (tree.the_row A g)
  tree_send =
      view_send (tree_fields.the_row A g) _ _ _ _
      (fields_send (tree_fields.the_type A g) (entries_send, (vec.the_send usize A g (search sendable) sent frees, tt)))

  far_keys_send : IsSend (far_keys.the_row A g)
  far_keys_send =
      view_send (far_keys_fields.the_row A g) _ _ _ _
      (fields_send (far_keys_fields.the_type A g) (tree_send, (tree_send, tt)))

  pub history_send : IsSend (history.the_row A g)
  history_send =
      view_send (history_fields.the_row A g) _ _ _ _
      (fields_send (history_fields.the_type A g) (
        search sendable depth 20,
        (
          hash_map.the_send key.the_row usize (builder.the_row hasher.the_row) A hasher.the_row
              key_eq.ghosts key_hash.ghosts _ hasher_ghosts g
              key_send (search sendable) (hashers_send hasher.the_row hasher_send) sent frees,
          (far_keys_send, (sent, tt)),
        ),
      ))
