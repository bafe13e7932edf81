-- What comes of reading a tree: what is left after it, or its first fault. It serves the contracts of private functions alone.
use Rattle.std.specs.Prelude.{◌≡◌, ℕ, suc, ◌-◌, ◌≤◌, ◌==◌, if◌then◌else◌, List, [], ◌∷◌, length, Option, Some, None, Result, Ok, Err}
use Rattle.go_sgf.specs.Spelling.{without_space}
use Rattle.go_sgf.specs.Stands.{State, StateAt, step, closed}
use Rattle.go_sgf.specs.declared.error.SgfError.{SgfError}
use Rattle.go_sgf.specs.declared.error.SgfError.TheVariants as error
use Rattle.go_sgf.specs.declared.error.ReadError.{ReadError}
use Rattle.go_sgf.specs.declared.error.ReadError.TheVariants.{Memory, End, Stray, Deep}

-- what comes of a step: what is left where the tree is whole, a fault, or what goes on
abbrev pub outcome_on : ℕ → Option StateAt → ℕ → List ℕ → (StateAt → Result (List ℕ) ReadError) → Result (List ℕ) ReadError
outcome_on limit None left cs later = Err (Stray left)
outcome_on limit (Some p) left cs later =
    if p.1 == suc limit then Err (Deep left) else (if p.1 == 0 then Ok (without_space cs) else later p)

-- From a state on: what is left after the whole tree and white space, or the first fault, by how many bytes are left there.
unfoldable pub outcome : ℕ → State → ℕ → List ℕ → Result (List ℕ) ReadError
outcome limit s d [] = Err End
outcome limit s d (c ∷ cs) = outcome_on limit (step s d c) (suc (length cs)) cs (λ p. outcome limit p.0 p.1 cs)

-- the outcome of what goes on after a `)` at this depth
abbrev pub outcome_after : ℕ → ℕ → List ℕ → Result (List ℕ) ReadError
outcome_after limit d rest = if d == 1 then Ok rest else outcome limit closed (d - 1) rest

-- An answer is this outcome's fault, or the outcome is that of what goes on after what was read. Memory may always run out.
abbrev pub Meets : {X : Type 0} → Result X ReadError → Result (List ℕ) ReadError → (X → Result (List ℕ) ReadError) → Type 0
Meets (Ok x) expected later = expected ≡ later x
Meets (Err Memory) expected later = Unit {0}
Meets (Err End) expected later = expected ≡ Err End
Meets (Err (Stray n)) expected later = expected ≡ Err (Stray n)
Meets (Err (Deep n)) expected later = expected ≡ Err (Deep n)

-- a depth within the limit
abbrev pub IsWithin : ℕ → ℕ → Type 0
IsWithin limit d = (1 ≤ d) × (d ≤ limit)

-- the fault at a byte that nothing allows, or at the end
abbrev pub here : List ℕ → ReadError
here [] = End
here (c ∷ cs) = Stray (suc (length cs))

-- how many bytes are left at a fault
abbrev pub left_of : ReadError → ℕ
left_of Memory = 0
left_of End = 0
left_of (Stray n) = n
left_of (Deep n) = n

-- the answer for a fault in a source of this length
abbrev pub error_at : ℕ → ReadError → SgfError
error_at len Memory = error.Memory
error_at len End = error.EndInside len
error_at len (Stray left) = error.Unexpected (len - left)
error_at len (Deep left) = error.TooDeep (len - left)
