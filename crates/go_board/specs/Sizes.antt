-- How many lines a board has.
use Rattle.std.specs.Prelude.{ℕ, ◌&&◌, nat_le, if◌then◌else◌, Option, Some, None}
use Rattle.go_board.specs.declared.size.TheConstants.{MAX_LINES}

-- the size with this number of lines, where there is a board with that many
abbrev pub size_with : ℕ → Option ℕ
size_with lines = if nat_le 1 lines && nat_le lines MAX_LINES then Some lines else None
