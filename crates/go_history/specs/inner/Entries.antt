-- What a tree keeps of its entries, and the entries that this means.
use Rattle.std.specs.Prelude.{ℕ, List, [], ◌∷◌, take, drop}
use Rattle.go_board.specs.PackBytes.{pack_of_front}
use Rattle.go_history.specs.declared.entries.Entry.{Entry}
use Rattle.go_history.specs.declared.entries.Rest.{Rest}
use Rattle.go_history.specs.inner.Trees.{hashed}

-- what contracts see: how many bytes are kept of each pack, and the entries
pub record EntriesValue : Type 0 where
  pub width : ℕ
  pub list : List Entry

-- an entry, by the first bytes of its pack and the rest
abbrev pub entry_of : List ℕ → Rest → Entry
entry_of prefix rest = record {
  hashed = hashed (record { pack = pack_of_front prefix; mover = rest.mover });
  number = rest.number;
  link = rest.link;
}

-- entries, from the first `width` bytes of each pack, one after the other
abbrev pub entries_of : ℕ → List ℕ → List Rest → List Entry
entries_of width prefixes [] = []
entries_of width prefixes (rest ∷ rests) =
    entry_of (take width prefixes) rest ∷ entries_of width (drop width prefixes) rests
