-- Stones that take nothing, found from what is beside their points. For the contracts of private functions.
use Rattle.std.specs.Prelude.{ℕ, List, ◌≡◌, ◌≢◌, ◌<◌, ◌*◌, ◌⊎◌}
use Rattle.go_board.specs.Paths.{IsAdjacent}
use Rattle.go_chains.specs.declared.quiet.Outlook.{Outlook}
use Rattle.go_chains.specs.declared.quiet.Outlook.TheVariants.{Falls, Stays, Breathes}
use Rattle.go_chains.specs.Cells.{code_at, label_of, lib_of}

-- a label has a liberty other than p
abbrev pub HasLibertyBut : ℕ → List ℕ → ℕ → ℕ → Type 0
HasLibertyBut n cells p l = (r : ℕ) × (r < n * n) × (r ≢ p) × (lib_of cells l r ≡ 1)

-- a stone of the colour with this code on p takes nothing on q: that is empty or of its colour, or has another liberty
abbrev pub StaysAt : ℕ → List ℕ → ℕ → ℕ → ℕ → Type 0
StaysAt n cells p own q = (code_at cells q ≡ 0) ⊎ ((code_at cells q ≡ own) ⊎ HasLibertyBut n cells p (label_of cells q))

-- q lends the stone a liberty: it is empty, or of its colour with another liberty
abbrev pub BreathesAt : ℕ → List ℕ → ℕ → ℕ → ℕ → Type 0
BreathesAt n cells p own q = (code_at cells q ≡ 0)
    ⊎ ((code_at cells q ≡ own) × HasLibertyBut n cells p (label_of cells q))

-- what an outlook says of q: whether the stone takes nothing there, and whether q lends it a liberty
abbrev pub IsOutlook : ℕ → List ℕ → ℕ → ℕ → ℕ → Outlook → Type 0
IsOutlook n cells p own q Falls = StaysAt n cells p own q → ⊥
IsOutlook n cells p own q Stays = StaysAt n cells p own q × (BreathesAt n cells p own q → ⊥)
IsOutlook n cells p own q Breathes = BreathesAt n cells p own q

-- a stone of the colour with this code on p takes nothing, and has a liberty
pub record IsQuiet (n : ℕ) (cells : List ℕ) (p own : ℕ) : Type 0 where
  pub stay : (q : ℕ) → IsAdjacent n p q → StaysAt n cells p own q
  pub breathes : (q : ℕ) × IsAdjacent n p q × BreathesAt n cells p own q

-- q is empty and beside p, or a liberty of a chain of the colour with this code beside p
abbrev pub IsLent : ℕ → List ℕ → ℕ → ℕ → ℕ → Type 0
IsLent n cells p own q = (IsAdjacent n p q × (code_at cells q ≡ 0))
    ⊎ ((s : ℕ) × IsAdjacent n p s × (code_at cells s ≡ own) × (lib_of cells (label_of cells s) q ≡ 1))
