-- The bytes that a stream was given.
use Rattle.std.proofs.Common.{List, Option, Some, None, ℕ}
use Rattle.std.specs.Io.KnownBytes.{Appends, Keeps}

-- bytes that were added stay where nothing more is done
pub appends_keeps : (old mid new : Option (List ℕ)) (bytes : List ℕ) → Appends old mid bytes → Keeps mid new →
    Appends old new bytes
appends_keeps None mid new bytes added stays = tt
appends_keeps (Some xs) None new bytes added stays = absurd added
appends_keeps (Some xs) (Some ys) None bytes added stays = absurd stays
appends_keeps (Some xs) (Some ys) (Some zs) bytes added stays = rw (stays) added
