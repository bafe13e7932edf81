-- The keys of a history.
use Rattle.std.specs.Prelude.{◌&&◌, Bool}
use Rattle.go_board.specs.PackBytes.{packed_eq}
use Rattle.go_board.specs.Reaching.{is_same}
use Rattle.go_history.specs.declared.key.Key.{Key}

-- keys are alike where their packs and movers are
abbrev pub key_eq : Key → Key → Bool
key_eq a b = packed_eq a.pack b.pack && is_same a.mover b.mover
