-- Why a source spells no record, and at which byte.
use Rattle.std.specs.Prelude.{◌≡◌, ℕ, ◌+◌, ◌≤◌, ◌<◌, suc, true, List, [], ◌++◌, take, length, codes, None}
use Rattle.std.specs.Fmt.{decimal}
use Rattle.go_sgf.specs.Record.{Trees, AreTrees, depth}
use Rattle.go_sgf.specs.Spelling.{Spells, SpellsParts, is_tree_first, tree_in, parts}
use Rattle.go_sgf.specs.Stands.{IsAtDepth, IsUnfinished, stands}
use Rattle.go_sgf.specs.declared.error.SgfError.{SgfError}
use Rattle.go_sgf.specs.declared.error.SgfError.TheVariants.{NoTree, EndInside, Unexpected, TooDeep, Memory, TooLong}
use Rattle.go_sgf.specs.declared.limits.TheConstants.{MAX_DEPTH, MAX_RECORD}

-- After these trees, which are whole and not nested deeper than is allowed, the source goes on with this
-- text. The text begins with a tree's `(` and its `;`.
pub record IsAfter (source : List ℕ) (before : Trees) (text : List ℕ) : Type 0 where
  pub whole : AreTrees before
  pub nesting : depth before ≤ MAX_DEPTH
  pub spelling : SpellsParts (tree_in source) (parts before) text
  pub begins : is_tree_first text ≡ true

-- This number of bytes of this text is read. They begin a tree that isn't complete, and aren't nested too
-- deep. Reason says why reading stops.
pub record IsReadUpTo (text : List ℕ) (count : ℕ) (Reason : List ℕ → ℕ → Type 0) : Type 0 where
  pub unfinished : IsUnfinished (stands (take count text))
  pub shallow : (k : ℕ) → k ≤ count → IsAtDepth (suc MAX_DEPTH) (stands (take k text)) → ⊥
  pub stops : Reason text count

-- The source spells no record. After whole trees comes a text, and reading it stops at this place, which is a
-- byte's number in the source.
pub record StopsAt (source : List ℕ) (place : ℕ) (Reason : List ℕ → ℕ → Type 0) : Type 0 where
  pub spells_none : (c : Trees) → Spells source c → ⊥
  pub before : Trees
  pub text : List ℕ
  pub after : IsAfter source before text
  pub count : ℕ
  pub reading : IsReadUpTo text count Reason
  pub placed : place + length text ≡ length source + count

-- the text has no more bytes
abbrev pub EndsAt : List ℕ → ℕ → Type 0
EndsAt text count = count ≡ length text

-- no prefix with more bytes begins a tree, and there is one byte more
abbrev pub StandsNoLonger : List ℕ → ℕ → Type 0
StandsNoLonger text count = (count < length text) × ((k : ℕ) → count < k → stands (take k text) ≡ None)

-- with the next byte the text is nested one deeper than is allowed
abbrev pub StandsTooDeep : List ℕ → ℕ → Type 0
StandsTooDeep text count = (count < length text) × IsAtDepth (suc MAX_DEPTH) (stands (take (count + 1) text))

-- what each refusal says of the source
abbrev pub IsRefusal : List ℕ → SgfError → Type 0
IsRefusal source NoTree = tree_in source ≡ []
IsRefusal source (EndInside place) = (place ≡ length source) × StopsAt source place EndsAt
IsRefusal source (Unexpected place) = StopsAt source place StandsNoLonger
IsRefusal source (TooDeep place) = StopsAt source place StandsTooDeep
IsRefusal source Memory = Unit {0}
IsRefusal source TooLong = MAX_RECORD < length source

abbrev pub sgf_error_text : SgfError → List ℕ
sgf_error_text NoTree = codes "no game tree"
sgf_error_text (EndInside place) = codes "record ends inside a tree at byte " ++ decimal place
sgf_error_text (Unexpected place) = codes "unexpected byte at " ++ decimal place
sgf_error_text (TooDeep place) = codes "too deep at byte " ++ decimal place
sgf_error_text Memory = codes "out of memory"
sgf_error_text TooLong = codes "record too long"
