-- What loops over the cells have written so far. For the contracts of the steps of a play.
use Rattle.std.specs.Prelude.{ℕ, List, ◌≡◌, ◌≢◌, ◌≤◌, ◌<◌, ◌+◌, ◌*◌, ◌⊎◌, slice_index}
use Rattle.std.specs.Int.RustNames.{bit_or}
use Rattle.go_board.specs.Paths.{IsAdjacent}
use Rattle.go_board.specs.PointSets.{HasPoint}
use Rattle.go_board.specs.declared.size.TheConstants.{MAX_POINTS}
use Rattle.go_chains.specs.declared.cells.TheConstants.{LABELS, LINKS, LIBERTIES}
use Rattle.go_board.specs.declared.point_set.TheConstants.{WORDS}
use Rattle.go_chains.specs.inner.Rings.{steps}
use Rattle.go_chains.specs.Cells.{code_at, label_of, word_of, lib_of}

-- the first `count` points along `next` from a point have the new label, and nothing else is written
pub record IsRelabelled (next : ℕ → ℕ) (old new : List ℕ) (from count to : ℕ) : Type 0 where
  pub low : (k : ℕ) → k < MAX_POINTS → slice_index new k ≡ slice_index old k
  pub high : (k : ℕ) → LINKS ≤ k → slice_index new k ≡ slice_index old k
  pub on : (i : ℕ) → i < count → label_of new (steps next i from) ≡ to
  pub off : (p : ℕ) → p < MAX_POINTS → ((i : ℕ) → i < count → steps next i from ≢ p) → label_of new p ≡ label_of old p

-- the first `upto` words of one label have the bits of both, and nothing else is written
pub record IsMerged (old new : List ℕ) (keep gone upto : ℕ) : Type 0 where
  pub below : (k : ℕ) → k < LIBERTIES + WORDS * keep → slice_index new k ≡ slice_index old k
  pub above : (k : ℕ) → LIBERTIES + WORDS * keep + WORDS ≤ k → slice_index new k ≡ slice_index old k
  pub words : (w : ℕ) → w < upto → w < WORDS → word_of new keep w ≡ bit_or (word_of old keep w) (word_of old gone w)
  pub rest : (w : ℕ) → upto ≤ w → w < WORDS → word_of new keep w ≡ word_of old keep w

-- one point is a liberty of these labels too, and nothing else is written
pub record IsGiven (old new : List ℕ) (point : ℕ) (to : ℕ → Type 0) : Type 0 where
  pub low : (k : ℕ) → k < LIBERTIES → slice_index new k ≡ slice_index old k
  pub kept : (l q : ℕ) → l < MAX_POINTS → q < MAX_POINTS → lib_of old l q ≡ 1 → lib_of new l q ≡ 1
  pub given : (l : ℕ) → l < MAX_POINTS → to l → lib_of new l point ≡ 1
  pub was : (l q : ℕ) → l < MAX_POINTS → q < MAX_POINTS → lib_of new l q ≡ 1 → (lib_of old l q ≡ 1)
      ⊎ ((q ≡ point) × to l)

-- one of the first `upto` listed points has this colour and the label
abbrev pub IsGivenBeside : List ℕ → List ℕ → ℕ → ℕ → ℕ → Type 0
IsGivenBeside cells beside colour upto l =
    (i : ℕ) × (i < upto) × (code_at cells (slice_index beside i) ≡ colour) × (label_of cells (slice_index beside i) ≡ l)

-- a stone is taken off, and its point is a liberty of the chains of another colour beside it
pub record IsLifted (lines : ℕ) (old new : List ℕ) (point other : ℕ) : Type 0 where
  pub at : code_at new point ≡ 0
  pub low : (k : ℕ) → k < LIBERTIES → k ≢ point → slice_index new k ≡ slice_index old k
  pub kept : (l q : ℕ) → l < MAX_POINTS → q < MAX_POINTS → lib_of old l q ≡ 1 → lib_of new l q ≡ 1
  pub given : (s : ℕ) → IsAdjacent lines point s → code_at old s ≡ other → label_of old s < MAX_POINTS →
      lib_of new (label_of old s) point ≡ 1
  pub was : (l q : ℕ) → l < MAX_POINTS → q < MAX_POINTS → lib_of new l q ≡ 1
      → (lib_of old l q ≡ 1) ⊎ ((q ≡ point)
      × ((s : ℕ) × IsAdjacent lines point s × (code_at old s ≡ other) × (label_of old s ≡ l)))

-- the first `upto` stones along `next` from a stone are taken off
pub record IsRingLifted (lines : ℕ) (next : ℕ → ℕ) (old new : List ℕ) (stone upto other : ℕ) : Type 0 where
  pub on : (j : ℕ) → j < upto → code_at new (steps next j stone) ≡ 0
  pub off : (p : ℕ) → p < MAX_POINTS → ((j : ℕ) → j < upto → steps next j stone ≢ p) → code_at new p ≡ code_at old p
  pub either : (p : ℕ) → p < MAX_POINTS → (code_at new p ≡ 0) ⊎ (code_at new p ≡ code_at old p)
  pub above : (k : ℕ) → LABELS ≤ k → k < LIBERTIES → slice_index new k ≡ slice_index old k
  pub kept : (l q : ℕ) → l < MAX_POINTS → q < MAX_POINTS → lib_of old l q ≡ 1 → lib_of new l q ≡ 1
  pub given : (j s : ℕ) → j < upto → IsAdjacent lines (steps next j stone) s → code_at old s ≡ other →
      label_of old s < MAX_POINTS → lib_of new (label_of old s) (steps next j stone) ≡ 1
  pub was : (l q : ℕ) → l < MAX_POINTS → q < MAX_POINTS → lib_of new l q ≡ 1
      → (lib_of old l q ≡ 1) ⊎ (((j : ℕ) × (j < upto) × (steps next j stone ≡ q))
      × ((s : ℕ) × IsAdjacent lines q s × (code_at old s ≡ other) × (label_of old s ≡ l)))

-- one point is no liberty of these labels any more, and nothing else is written
pub record IsDeprived (old new : List ℕ) (point : ℕ) (of : ℕ → Type 0) : Type 0 where
  pub low : (k : ℕ) → k < LIBERTIES → slice_index new k ≡ slice_index old k
  pub kept : (l q : ℕ) → l < MAX_POINTS → q < MAX_POINTS → q ≢ point → lib_of new l q ≡ lib_of old l q
  pub lost : (l : ℕ) → l < MAX_POINTS → of l → lib_of new l point ≡ 0
  pub less : (l q : ℕ) → l < MAX_POINTS → q < MAX_POINTS → lib_of new l q ≡ 1 → lib_of old l q ≡ 1

-- the first `upto` words of one label are as given, and nothing else is written
pub record IsFilled (old new : List ℕ) (label : ℕ) (words : List ℕ) (upto : ℕ) : Type 0 where
  pub below : (k : ℕ) → k < LIBERTIES + WORDS * label → slice_index new k ≡ slice_index old k
  pub above : (k : ℕ) → LIBERTIES + WORDS * label + WORDS ≤ k → slice_index new k ≡ slice_index old k
  pub words_are : (w : ℕ) → w < upto → w < WORDS → word_of new label w ≡ slice_index words w

-- one of the first `upto` listed points has a stone of the label
abbrev pub IsStoneBeside : List ℕ → List ℕ → ℕ → ℕ → Type 0
IsStoneBeside cells beside upto l =
    (i : ℕ) × (i < upto) × (0 < code_at cells (slice_index beside i)) × (label_of cells (slice_index beside i) ≡ l)

-- one point is marked too, where it is empty
pub record MarksOne (cells old new : List ℕ) (near : ℕ) : Type 0 where
  pub kept : (q : ℕ) → q < MAX_POINTS → HasPoint old q → HasPoint new q
  pub given : code_at cells near ≡ 0 → HasPoint new near
  pub was : (q : ℕ) → q < MAX_POINTS → HasPoint new q → HasPoint old q ⊎ ((q ≡ near) × (code_at cells near ≡ 0))

-- the marked points are exactly the empty ones among the first `upto` listed
pub record MarksEmpty (cells set beside : List ℕ) (upto : ℕ) : Type 0 where
  pub are : (i : ℕ) → i < upto → code_at cells (slice_index beside i) ≡ 0 → HasPoint set (slice_index beside i)
  pub only : (q : ℕ) → q < MAX_POINTS → HasPoint set q → ((i : ℕ) × (i < upto) × (slice_index beside i ≡ q))
      × (code_at cells q ≡ 0)

-- one cell is written
pub record IsWritten (old new : List ℕ) (place value : ℕ) : Type 0 where
  pub at : slice_index new place ≡ value
  pub others : (k : ℕ) → k ≢ place → slice_index new k ≡ slice_index old k
