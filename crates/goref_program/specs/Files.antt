-- What is fetched of a file, by the result of reading it.
use Rattle.std.specs.Prelude.{ℕ, nat_lt, if◌then◌else◌, List, length}
use Rattle.go_sgf.specs.declared.limits.TheConstants.{MAX_RECORD}
use Rattle.goref.specs.Contents.{Content, bytes, missing, no_memory, too_large}
use Rattle.goref.specs.ToolError.{ToolError}
use Rattle.goref.specs.ToolError.TheVariants.{Memory}

-- what was read, unless it is more than a record may have
abbrev pub content_of_bytes : List ℕ → Content
content_of_bytes read = if nat_lt MAX_RECORD (length read) then too_large else bytes read

-- nothing was read: there was no memory for it, or no file that can be read
abbrev pub content_of_fault : ToolError → Content
content_of_fault Memory = no_memory
content_of_fault _ = missing
