-- What calls without text do to the game of a session: by the numbers that they are given, and by their status.
use Rattle.std.specs.Prelude.{◌≡◌, ◌⊎◌, ◌++◌, ◌*◌, ◌≤◌, ◌<◌, ℕ, zero, suc, ℤ, List, [], ◌∷◌, map, ◌==◌, nat_lt, if◌then◌else◌, Option, Some, None, drop, length, take}
use Rattle.std.specs.Int.{to_le_bytes, w16, w64}
use Rattle.go_board.specs.Colours.{colour_at, other}
use Rattle.go_board.specs.Komi.{IsKomi}
use Rattle.go_board.specs.Packs.{code_of, colour_coded}
use Rattle.go_board.specs.Points.{number_of, point_at}
use Rattle.go_board.specs.Reaching.{points}
use Rattle.go_board.specs.declared.colour.Colour.{Colour}
use Rattle.go_board.specs.declared.colour.Colour.TheVariants.{Black, White}
use Rattle.go_board.specs.declared.vertex.Move.{Move}
use Rattle.go_board.specs.declared.vertex.Vertex.{Vertex}
use Rattle.go_board.specs.declared.vertex.Vertex.TheVariants.{At, Pass}
use Rattle.go_game.specs.Choices.{chosen}
use Rattle.go_game.specs.Legal.{is_legal}
use Rattle.go_game.specs.Prisoners.{stones_taken}
use Rattle.go_game.specs.Scores.{area_of, margin_of}
use Rattle.go_game.specs.Standings.{IsLegal, IsOccupied, IsRepeat, Standing, board_of, with_move, without_last}
use Rattle.go_game.specs.declared.superko.Superko.{Superko}
use Rattle.go_game.specs.declared.superko.Superko.TheVariants.{Positional, Situational}
use Rattle.goref_c.specs.Ends.{IsText}
use Rattle.goref_c.specs.Sessions.{Holding}
use Rattle.goref_c.specs.declared.said.Said.{Said}

-- the vertex that a number means on a board of so many lines: 65,535 is a pass, and a point has its number in point order
abbrev pub vertex_numbered : ℕ → ℕ → Option Vertex
vertex_numbered n number =
    if number == 65535 then Some Pass
    else if nat_lt number (n * n) then Some (At (point_at n number))
    else None

-- the standing of what is held is another, and nothing else is
abbrev pub with_standing : Holding → Standing → Holding
with_standing held s = record held { standing = s }

-- nothing is said: what isn't said has all bits set
abbrev pub silent : Said
silent = record { repeats = 18446744073709551615; captured = 65535; lost = 65535 }

-- the bytes of what is said, in its caller's struct, low byte first; the last four are kept for later
abbrev pub said_bytes : Said → List ℕ
said_bytes said =
    to_le_bytes w64 said.repeats ++ to_le_bytes w16 said.captured ++ to_le_bytes w16 said.lost ++ 0 ∷ 0 ∷ 0 ∷ 0 ∷ []

-- a room begins with a text, or with as much of it as fits, and its rest is as before
abbrev pub Fills : List ℕ → List ℕ → List ℕ → Type 0
Fills text room room' = room' ≡ take (length room) text ++ drop (length text) room

-- A move on the board, by the status: 0, it is legal and was played; 5, a stone stands there; 6, the superko rule
-- forbids it, since the position stood after so many moves first; 3, there was no memory. It changes the game by 0 alone.
abbrev pub MovesBy : ℕ → Said → Standing → Colour → Vertex → Standing → Type 0
MovesBy status said old c v new =
    ((status ≡ 0) × IsLegal old c v × (new ≡ with_move old (record { colour = c; vertex = v }))
    × (said.captured ≡ stones_taken old c v (other c)) × (said.lost ≡ stones_taken old c v c)
    × (said.repeats ≡ silent.repeats))
    ⊎ (((status ≡ 5) × IsOccupied old v × (new ≡ old) × (said ≡ silent))
    ⊎ (((status ≡ 6) × IsRepeat old c v said.repeats × (new ≡ old) × (said ≡ record silent { repeats = said.repeats }))
    ⊎ ((status ≡ 3) × (IsOccupied old v → ⊥) × (new ≡ old) × (said ≡ silent))))

-- the same by numbers: 2, there is no such colour; 8, no such point
abbrev pub PlaysBy : ℕ → Said → Option Colour → Option Vertex → Standing → Standing → Type 0
PlaysBy status said None v old new = (status ≡ 2) × (new ≡ old) × (said ≡ silent)
PlaysBy status said (Some c) None old new = (status ≡ 8) × (new ≡ old) × (said ≡ silent)
PlaysBy status said (Some c) (Some v) old new = MovesBy status said old c v new

-- the same on a handle: 4, it has no session
abbrev pub PlaysOn : ℕ → Said → ℕ → ℕ → Option Holding → Option Holding → Type 0
PlaysOn status said colour number None new = (status ≡ 4) × (new ≡ None) × (said ≡ silent)
PlaysOn status said colour number (Some old) new =
    (s : Standing) × (new ≡ Some (with_standing old s))
    × PlaysBy status said (colour_coded colour) (vertex_numbered old.standing.lines number) old.standing s

-- a play on a handle, whose caller's room has what it says of itself
abbrev pub Plays : ℕ → ℕ → ℕ → Option Holding → Option Holding → List ℕ → List ℕ → Type 0
Plays status colour number old new room room' =
    (said : Said) × PlaysOn status said colour number old new × Fills (said_bytes said) room room'

-- So many moves are taken back, by the status 0; or there are fewer, and by 1 none is.
abbrev pub Undoes : ℕ → ℕ → Option Holding → Option Holding → Type 0
Undoes status count None new = (status ≡ 4) × (new ≡ None)
Undoes status count (Some old) new =
    ((status ≡ 0) × (count ≤ length old.standing.moves)
    × (new ≡ Some (with_standing old (without_last count old.standing))))
    ⊎ ((status ≡ 1) × (length old.standing.moves < count) × (new ≡ Some old))

-- Whether a move is legal, by the status that its play would have: 0, it is; 5, a stone stands there; 6, none does, and
-- yet it isn't; 3, there was no memory to try it.
abbrev pub IsLegalBy : ℕ → Option Colour → Option Vertex → Standing → Type 0
IsLegalBy status None v s = status ≡ 2
IsLegalBy status (Some c) None s = status ≡ 8
IsLegalBy status (Some c) (Some v) s =
    ((status ≡ 0) × IsLegal s c v)
    ⊎ (((status ≡ 5) × IsOccupied s v)
    ⊎ (((status ≡ 6) × (IsOccupied s v → ⊥) × (IsLegal s c v → ⊥))
    ⊎ ((status ≡ 3) × (IsOccupied s v → ⊥))))

-- the same on a handle
abbrev pub IsLegalOn : ℕ → ℕ → ℕ → Option Holding → Type 0
IsLegalOn status colour number None = status ≡ 4
IsLegalOn status colour number (Some held) =
    IsLegalBy status (colour_coded colour) (vertex_numbered held.standing.lines number) held.standing

-- a call that only tells: it has no session by the status 4, and else it is done
abbrev pub IsTold : ℕ → Option Holding → (Holding → Type 0) → Type 0
IsTold status None tells = status ≡ 4
IsTold status (Some held) tells = (status ≡ 0) × tells held

-- the score: Black's margin in hundredths of a point
abbrev pub TellsScore : ℤ → Holding → Type 0
TellsScore margin held = margin ≡ margin_of held.standing

-- the area of each colour
abbrev pub TellsArea : ℕ → ℕ → Holding → Type 0
TellsArea black white held =
    (black ≡ area_of held.standing Black) × (white ≡ area_of held.standing White)

-- the colour of each point in point order: 0 for none, 1 for Black and 2 for White
abbrev pub colours_told : Standing → List ℕ
colours_told s = map (λ p. code_of (colour_at (board_of s) p)) (points s.lines)

-- the room has the colours of the points, or there is no session
abbrev pub ShowsBoard : ℕ → Option Holding → List ℕ → List ℕ → ℕ → Type 0
ShowsBoard status None room room' count = (status ≡ 4) × IsText [] room room' count
ShowsBoard status (Some held) room room' count = (status ≡ 0) × IsText (colours_told held.standing) room room' count

-- the number of a vertex: that of its point, or 65,535 for a pass
abbrev pub number_of_vertex : ℕ → Vertex → ℕ
number_of_vertex n Pass = 65535
number_of_vertex n (At p) = number_of n p

-- the choice for a colour: 0, the number is that of the choice; 2, there is no such colour; 3, there was no memory
abbrev pub ChoosesBy : ℕ → ℕ → Option Colour → Standing → Type 0
ChoosesBy status number None s = status ≡ 2
ChoosesBy status number (Some c) s =
    ((status ≡ 0) × (number ≡ number_of_vertex s.lines (chosen s c))) ⊎ (status ≡ 3)

-- the same on a handle
abbrev pub Chooses : ℕ → ℕ → ℕ → Option Holding → Type 0
Chooses status number colour None = status ≡ 4
Chooses status number colour (Some held) = ChoosesBy status number (colour_coded colour) held.standing

-- a komi was set, by the status 0; by 2 it is none, and nothing changed
abbrev pub SetsKomi : ℕ → ℤ → Option Holding → Option Holding → Type 0
SetsKomi status komi None new = (status ≡ 4) × (new ≡ None)
SetsKomi status komi (Some old) new =
    ((status ≡ 0) × IsKomi komi × (new ≡ Some (with_standing old (record old.standing { komi = komi }))))
    ⊎ ((status ≡ 2) × (IsKomi komi → ⊥) × (new ≡ Some old))

-- the rule of a number
abbrev pub rule_numbered : ℕ → Option Superko
rule_numbered zero = Some Positional
rule_numbered (suc zero) = Some Situational
rule_numbered (suc (suc n)) = None

-- a rule was set, while there was no move
abbrev pub SetsRuleBy : ℕ → Option Superko → List Move → Holding → Option Holding → Type 0
SetsRuleBy status None moves old new = (status ≡ 2) × (new ≡ Some old)
SetsRuleBy status (Some rule) [] old new =
    (status ≡ 0) × (new ≡ Some (with_standing old (record old.standing { rule = rule })))
SetsRuleBy status (Some rule) (m ∷ moves) old new = (status ≡ 2) × (new ≡ Some old)

-- the same on a handle
abbrev pub SetsRule : ℕ → ℕ → Option Holding → Option Holding → Type 0
SetsRule status number None new = (status ≡ 4) × (new ≡ None)
SetsRule status number (Some old) new = SetsRuleBy status (rule_numbered number) old.standing.moves old new

-- whether the play of a colour on each point is legal, in point order: 1 if it is, and else 0
abbrev pub marks_told : Standing → Colour → List ℕ
marks_told s c = map (λ p. if is_legal s c (At (point_at s.lines p)) then 1 else 0) (points s.lines)

-- The room has these marks, by the status 0. By 2 there is no such colour, and by 3 there was no memory to try a play:
-- then it has nothing.
abbrev pub ShowsLegalBy : ℕ → Option Colour → Standing → List ℕ → List ℕ → ℕ → Type 0
ShowsLegalBy status None s room room' count = (status ≡ 2) × IsText [] room room' count
ShowsLegalBy status (Some c) s room room' count =
    ((status ≡ 0) × IsText (marks_told s c) room room' count) ⊎ ((status ≡ 3) × IsText [] room room' count)

-- the same on a handle
abbrev pub ShowsLegal : ℕ → ℕ → Option Holding → List ℕ → List ℕ → ℕ → Type 0
ShowsLegal status colour None room room' count = (status ≡ 4) × IsText [] room room' count
ShowsLegal status colour (Some held) room room' count =
    ShowsLegalBy status (colour_coded colour) held.standing room room' count
