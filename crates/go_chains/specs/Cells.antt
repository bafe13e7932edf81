-- How the cells are arranged, and what they say.
use Rattle.std.specs.Prelude.{ℕ, List, ◌+◌, ◌*◌, ◌/◌, ◌%◌, slice_index}
use Rattle.std.specs.Int.{bit_at}
use Rattle.go_chains.specs.declared.cells.TheConstants.{LABELS, LINKS, SIZES, LIBERTIES}
use Rattle.go_board.specs.declared.point_set.TheConstants.{WORDS}
use Rattle.go_chains.specs.declared.change.Change.{Change}

-- what contracts see of cells: their numbers, and all writes to them
pub record CellsValue : Type 0 where
  pub numbers : List ℕ
  pub trace : List Change

-- how the cells are arranged: four numbers of each point, then the words of liberties of each label
abbrev pub code_at : List ℕ → ℕ → ℕ
code_at cells p = slice_index cells p

abbrev pub label_of : List ℕ → ℕ → ℕ
label_of cells p = slice_index cells (LABELS + p)

abbrev pub next_of : List ℕ → ℕ → ℕ
next_of cells p = slice_index cells (LINKS + p)

abbrev pub size_of : List ℕ → ℕ → ℕ
size_of cells l = slice_index cells (SIZES + l)

abbrev pub word_of : List ℕ → ℕ → ℕ → ℕ
word_of cells l w = slice_index cells (LIBERTIES + WORDS * l + w)

abbrev pub lib_of : List ℕ → ℕ → ℕ → ℕ
lib_of cells l q = bit_at (word_of cells l (q / 64)) (q % 64)
