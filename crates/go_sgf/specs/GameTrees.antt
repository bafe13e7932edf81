-- The game trees of a source, one after another: where each stands, and where one stops to be one.
use Rattle.std.specs.Prelude.{◌≡◌, ◌<◌, ◌≤◌, ◌+◌, ◌-◌, ◌↔◌, ℕ, true, false, List, take, drop, length}
use Rattle.go_sgf.specs.Laws.{SpellsTree}
use Rattle.go_sgf.specs.Record.{Property, Trees, none, tree}
use Rattle.go_sgf.specs.Refusals.{EndsAt, IsReadUpTo, IsRefusal, StandsNoLonger, StandsTooDeep}
use Rattle.go_sgf.specs.Spelling.{Spells, is_tree_first, tree_in, without_space}
use Rattle.go_sgf.specs.declared.error.SgfError.{SgfError}
use Rattle.go_sgf.specs.declared.error.SgfError.TheVariants.{NoTree, EndInside, Unexpected, TooDeep, Memory, TooLong}
use Rattle.go_sgf.specs.declared.game_trees.TreeSpan.{TreeSpan}

-- from a place on, the source's first tree begins here
pub record BeginsAt (source : List ℕ) (from begin : ℕ) : Type 0 where
  pub later : from ≤ begin
  pub within : begin < length source
  pub first : tree_in (drop from source) ≡ drop begin source

-- the source's bytes of a span
abbrev pub span_text : List ℕ → TreeSpan → List ℕ
span_text source span = take (span.end - span.begin) (drop span.begin source)

-- The bytes of this span spell this tree and no other. They are its text from its `(` to its `)`.
pub record IsTreeAt (source : List ℕ) (span : TreeSpan) (nodes : List (List Property)) (children : Trees) : Type 0 where
  pub ordered : span.begin < span.end
  pub within : span.end ≤ length source
  pub alone : Spells (span_text source span) (tree nodes children none)
  pub text : SpellsTree (span_text source span) nodes children

-- From a place on, the source's first tree isn't whole, and what begins with it spells no record. So many bytes from
-- where the tree begins are read: those before the place where it stops.
pub record StopsInFirst (source : List ℕ) (from place : ℕ) (Reason : List ℕ → ℕ → Type 0) : Type 0 where
  pub spells_none : (c : Trees) → Spells (drop from source) c → ⊥
  pub begin : ℕ
  pub begins : BeginsAt source from begin
  pub count : ℕ
  pub reading : IsReadUpTo (drop begin source) count Reason
  pub placed : place ≡ begin + count
  pub past : begin < place

-- what each refusal says of the source's first tree from a place on
abbrev pub IsRefusalFrom : List ℕ → ℕ → SgfError → Type 0
IsRefusalFrom source from (EndInside place) = (place ≡ length source) × StopsInFirst source from place EndsAt
IsRefusalFrom source from (Unexpected place) = StopsInFirst source from place StandsNoLonger
IsRefusalFrom source from (TooDeep place) = StopsInFirst source from place StandsTooDeep
IsRefusalFrom source from NoTree = ⊥
IsRefusalFrom source from Memory = ⊥
IsRefusalFrom source from TooLong = ⊥

-- ---- laws

-- a refusal with its place so much later
abbrev pub later_by : ℕ → SgfError → SgfError
later_by from (EndInside place) = EndInside (from + place)
later_by from (Unexpected place) = Unexpected (from + place)
later_by from (TooDeep place) = TooDeep (from + place)
later_by from why = why

-- the text from there on is refused so too, with its places counted from there
abbrev pub RefusedAlike : Type 0
RefusedAlike = (source : List ℕ) (from : ℕ) (why : SgfError)
    → IsRefusalFrom source from why → (own : SgfError) × IsRefusal (drop from source) own × (why ≡ later_by from own)

-- the source's first tree from a place on is this one, and it stands there
pub record IsNextTree (source : List ℕ) (from : ℕ) (span : TreeSpan) (nodes : List (List Property)) (children : Trees)
    : Type 0 where
  pub begins : BeginsAt source from span.begin
  pub stands : IsTreeAt source span nodes children

-- From a place on come these trees, each from the end of the one before on with white space alone between them, and
-- then no tree, but for white space.
abbrev pub AreNextTrees : List ℕ → ℕ → Trees → Type 0
AreNextTrees source from none = is_tree_first (without_space (drop from source)) ≡ false
AreNextTrees source from (tree nodes children later) =
    (is_tree_first (without_space (drop from source)) ≡ true)
    × (span : TreeSpan) × IsNextTree source from span nodes children × AreNextTrees source span.end later

-- a walk from the source's begin on meets these trees, the first of them wherever it begins
abbrev pub AreWalked : List ℕ → Trees → Type 0
AreWalked source none = ⊥
AreWalked source (tree nodes children later) =
    (span : TreeSpan) × IsNextTree source 0 span nodes children × AreNextTrees source span.end later

-- the trees that a text spells are those that a walk meets as long as white space alone is between them
abbrev pub SpelledAreWalked : Type 0
SpelledAreWalked = (b : List ℕ) (c : Trees) → Spells b c ↔ AreWalked b c
