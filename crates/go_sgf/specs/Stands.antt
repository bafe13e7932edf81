-- An automaton for a tree's text: its state after each byte, or none where the grammar fails. A text stands
-- where it begins a tree.
use Rattle.std.specs.Prelude.{◌≡◌, ◌≢◌, ℕ, zero, suc, ◌==◌, if◌then◌else◌, List, [], ◌∷◌, Option, Some, None, option_and_then}
use Rattle.go_sgf.specs.Record.{is_upper_byte, is_lower}
use Rattle.go_sgf.specs.Spelling.{is_space}

-- What was read last: a tree's `(`, its `;`, lower-case letters, a name with an upper-case letter, a name and white
-- space, a byte of a value, a `\` in a value, a value's `]`, a child's `)`, and the `)` of the first tree.
pub data State : Type 0 where
  opened : State
  in_node : State
  low : State
  named : State
  gap : State
  in_value : State
  escape : State
  after : State
  closed : State
  whole : State

-- a state and a depth
abbrev pub StateAt : Type 0
StateAt = State × ℕ

abbrev pub on_space : State → ℕ → Option StateAt
on_space opened d = Some (opened, d)
on_space in_node d = Some (in_node, d)
on_space named d = Some (gap, d)
on_space gap d = Some (gap, d)
on_space after d = Some (after, d)
on_space closed d = Some (closed, d)
on_space _ d = None

abbrev pub on_open : State → ℕ → Option StateAt
on_open in_node d = Some (opened, suc d)
on_open after d = Some (opened, suc d)
on_open closed d = Some (opened, suc d)
on_open _ d = None

-- one less deep
abbrev pub up : ℕ → StateAt
up zero = (whole, 0)
up (suc zero) = (whole, 0)
up (suc (suc d)) = (closed, suc d)

abbrev pub on_close : State → ℕ → Option StateAt
on_close in_node d = Some (up d)
on_close after d = Some (up d)
on_close closed d = Some (up d)
on_close _ d = None

abbrev pub on_semicolon : State → ℕ → Option StateAt
on_semicolon opened d = Some (in_node, d)
on_semicolon in_node d = Some (in_node, d)
on_semicolon after d = Some (in_node, d)
on_semicolon _ d = None

abbrev pub on_upper : State → ℕ → Option StateAt
on_upper in_node d = Some (named, d)
on_upper after d = Some (named, d)
on_upper low d = Some (named, d)
on_upper named d = Some (named, d)
on_upper _ d = None

abbrev pub on_lower : State → ℕ → Option StateAt
on_lower in_node d = Some (low, d)
on_lower after d = Some (low, d)
on_lower low d = Some (low, d)
on_lower named d = Some (named, d)
on_lower _ d = None

abbrev pub on_bracket : State → ℕ → Option StateAt
on_bracket named d = Some (in_value, d)
on_bracket gap d = Some (in_value, d)
on_bracket after d = Some (in_value, d)
on_bracket _ d = None

-- the state after one more byte, outside of a value
abbrev pub outside : State → ℕ → ℕ → Option StateAt
outside s d c =
    if is_space c then on_space s d else
    (if c == 40 then on_open s d else
    (if c == 41 then on_close s d else
    (if c == 59 then on_semicolon s d else
    (if c == 91 then on_bracket s d else
    (if is_upper_byte c then on_upper s d else
    (if is_lower c then on_lower s d else None))))))

-- in a value
abbrev pub inside : ℕ → State
inside c = if c == 93 then after else (if c == 92 then escape else in_value)

-- the state after one more byte
abbrev pub step : State → ℕ → ℕ → Option StateAt
step in_value d c = Some (inside c, d)
step escape d c = Some (in_value, d)
step whole d c = None
step opened d c = outside opened d c
step in_node d c = outside in_node d c
step low d c = outside low d c
step named d c = outside named d c
step gap d c = outside gap d c
step after d c = outside after d c
step closed d c = outside closed d c

-- the state and the depth after the bytes, where they stand
abbrev pub run : State → ℕ → List ℕ → Option StateAt
run s d [] = Some (s, d)
run s d (c ∷ cs) = option_and_then (λ p. run p.0 p.1 cs) (step s d c)

-- the state after a text from a tree's `(` on, where it stands
abbrev pub stands : List ℕ → Option StateAt
stands [] = None
stands (c ∷ cs) = if c == 40 then run opened 1 cs else None

-- it stands, and its tree isn't whole
abbrev pub IsUnfinished : Option StateAt → Type 0
IsUnfinished None = ⊥
IsUnfinished (Some p) = p.0 ≢ whole

-- it stands, and its tree is whole
abbrev pub IsWhole : Option StateAt → Type 0
IsWhole None = ⊥
IsWhole (Some p) = p.0 ≡ whole

-- it stands at this depth
abbrev pub IsAtDepth : ℕ → Option StateAt → Type 0
IsAtDepth d None = ⊥
IsAtDepth d (Some p) = p.1 ≡ d
