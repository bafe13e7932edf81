-- What was fetched for a line that names a file.
use Rattle.std.specs.Prelude.{ℕ, List}
use Rattle.goref_session.specs.declared.fetched.Fetched.{Fetched}
use Rattle.goref_session.specs.declared.fetched.Fetched.TheVariants.{None, Bytes, Missing, TooLarge, Memory}

pub data Content : Type 0 where
  nothing : Content
  bytes : List ℕ → Content
  missing : Content
  too_large : Content
  no_memory : Content

-- what contracts see of it
abbrev pub content_of : {A : Type 0} → Fetched A → Content
content_of None = nothing
content_of (Bytes b) = bytes b.items
content_of Missing = missing
content_of TooLarge = too_large
content_of Memory = no_memory
