-- What is fetched for lines where their caller has one file, or none, and the names that they asked for.
use Rattle.std.specs.Prelude.{ℕ, nat_le, Bool, List, [], ◌∷◌, ◌++◌, Option, Some, None, if◌then◌else◌, length, map}
use Rattle.std.specs.Borrow.{Bor}
use Rattle.std.specs.declared.snapshot.Snapshot.{Snapshot}
use Rattle.go_sgf.specs.declared.limits.TheConstants.{MAX_RECORD}
use Rattle.goref.specs.Shelves.{Pair}
use Rattle.goref_session.specs.Contents.{Content, bytes, missing, no_memory, too_large}

-- a name that was asked for, and whether there was memory for a copy of the file
abbrev pub Asking : Type 0
Asking = List ℕ × Bool

-- what is fetched of a file, or of none
abbrev pub content_given : Option (List ℕ) → Bool → Content
content_given None has_memory = missing
content_given (Some b) has_memory =
    if nat_le (length b) MAX_RECORD then (if has_memory then bytes b else no_memory) else too_large

-- a name, and what is fetched under it
abbrev pub given_at : Option (List ℕ) → Asking → Pair
given_at file asking = (asking.0, content_given file asking.1)

-- the names, each with what is fetched under it
abbrev pub given_of : Option (List ℕ) → List Asking → List Pair
given_of file = map (given_at file)

-- What a shelf shows: its file at first, so that it is known to stay the same, and then what it was asked
-- for.
abbrev pub own_file : Option (List ℕ) → Pair
own_file None = ([], missing)
own_file (Some b) = ([], bytes b)

abbrev pub told_of : Option (List ℕ) → List Asking → List Pair
told_of file asked = own_file file ∷ given_of file asked

-- a name, and that there is no such file
abbrev pub no_file : List ℕ → Pair
no_file name = (name, missing)

-- the bytes of a file that is lent
abbrev pub bytes_of : Option (Bor (List ℕ)) → Option (List ℕ)
bytes_of None = None
bytes_of (Some lent) = Some lent.now

-- what contracts see of a shelf: its file, and what it was asked for
pub record Shown : Type 0 where
  pub file : Option (List ℕ)
  pub asked : List Asking

-- a list with one element more than the one before, or none
abbrev pub one_after : {X : Type 0} → Option (Snapshot (List X)) → X → List X
one_after None x = []
one_after (Some before) x = before.value ++ x ∷ []
