-- Laws of records.
use Rattle.std.specs.Prelude.{◌≡◌, ◌<◌, ◌≤◌, ℕ, List, [], ◌∷◌, ◌++◌, length, take}
use Rattle.std.specs.List.{flat_map}
use Rattle.go_sgf.specs.Record.{Property, Trees, none, tree, AreTrees, IsFit, plain}
use Rattle.go_sgf.specs.Refusals.{IsRefusal}
use Rattle.go_sgf.specs.Spelling.{Spells, SpellsParts, canonical, node_parts, parts}
use Rattle.go_sgf.specs.Stands.{IsUnfinished, IsWhole, stands}
use Rattle.go_sgf.specs.declared.error.SgfError.{SgfError}
use Rattle.go_sgf.specs.declared.error.SgfError.TheVariants.{Memory}
use Rattle.go_sgf.specs.declared.limits.TheConstants.{MAX_RECORD}

-- the canonical text of a record spells it with plain names, and is theirs too
abbrev pub CanonicalSpellsPlain : Type 0
CanonicalSpellsPlain = (c : Trees) → IsFit c → Spells (canonical c) (plain c) × (canonical (plain c) ≡ canonical c)

-- what a text spells is fit
abbrev pub SpelledIsFit : Type 0
SpelledIsFit = (b : List ℕ) (c : Trees) → Spells b c → IsFit c

-- no text spells two records
abbrev pub OneRecord : Type 0
OneRecord = (b : List ℕ) (c d : Trees) → Spells b c → Spells b d → c ≡ d

-- a text that spells a record, and isn't too long for one, is refused only where memory lacks
abbrev pub SpelledIsRead : Type 0
SpelledIsRead = (b : List ℕ) (c : Trees) (why : SgfError)
    → Spells b c → IsRefusal b why → length b ≤ MAX_RECORD → why ≡ Memory

-- The text is a tree from its `(` to its `)`.
abbrev pub SpellsTree : List ℕ → List (List Property) → Trees → Type 0
SpellsTree t nodes children =
    (inner : List ℕ) × (t ≡ 40 ∷ (inner ++ (41 ∷ [])))
    × SpellsParts inner (flat_map node_parts nodes ++ parts children) []

-- each prefix of a tree's text that has a byte stands, of a tree of any depth, and as a whole tree exactly where it
-- is all of it
abbrev pub FrontsStand : Type 0
FrontsStand = (t : List ℕ) (nodes : List (List Property)) (children : Trees)
    → AreTrees (tree nodes children none) → SpellsTree t nodes children →
    (k : ℕ) → 0 < k → (k < length t → IsUnfinished (stands (take k t))) × (length t ≤ k → IsWhole (stands (take k t)))
