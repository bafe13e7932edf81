-- What a call for the next game leaves in its caller's places.
use Rattle.std.specs.Prelude.{◌≡◌, ℕ, List, [], Option, Some, None, drop, length}
use Rattle.go_sgf.specs.GameTrees.{BeginsAt, IsNextTree, IsRefusalFrom}
use Rattle.go_sgf.specs.Record.{Property, Trees}
use Rattle.go_sgf.specs.Spelling.{tree_in}
use Rattle.go_sgf.specs.declared.error.SgfError.{SgfError}
use Rattle.go_sgf.specs.declared.error.SgfError.TheVariants.{NoTree, EndInside, Unexpected, TooDeep, Memory, TooLong}

-- the source's first game tree from a place on goes from one place to the other
abbrev pub ShowsTree : List ℕ → ℕ → ℕ → ℕ → Type 0
ShowsTree source from begin end =
    (nodes : List (List Property)) × ((children : Trees)
    × IsNextTree source from (record { begin = begin; end = end }) nodes children)

-- no game tree begins from a place on, and both places are the source's end
abbrev pub ShowsNoTree : List ℕ → ℕ → ℕ → ℕ → Type 0
ShowsNoTree source from begin end =
    (tree_in (drop from source) ≡ []) × (begin ≡ length source) × (end ≡ length source)

-- the byte that a refusal names
abbrev pub place_named : SgfError → Option ℕ
place_named (EndInside place) = Some place
place_named (Unexpected place) = Some place
place_named (TooDeep place) = Some place
place_named NoTree = None
place_named Memory = None
place_named TooLong = None

-- the source's first game tree from a place on begins at one place, and stops to be one at the other
abbrev pub ShowsBrokenTree : List ℕ → ℕ → ℕ → ℕ → Type 0
ShowsBrokenTree source from begin end =
    BeginsAt source from begin × ((why : SgfError) × IsRefusalFrom source from why × (place_named why ≡ Some end))
