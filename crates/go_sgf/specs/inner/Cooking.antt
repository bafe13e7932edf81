-- How a text is cooked byte by byte, for the contracts of private functions.
use Rattle.std.specs.Prelude.{ℕ, ◌==◌, ◌&&◌, not, if◌then◌else◌, List, [], ◌∷◌, ◌++◌, Option, Some, None, option_to_list}
use Rattle.go_sgf.specs.Cooked.{is_line_break, unblanked}
use Rattle.go_sgf.specs.declared.cooking.Mode.{Mode}
use Rattle.go_sgf.specs.declared.cooking.Mode.TheVariants.{Text, Escape, Broke}

-- a byte that nothing before it bears on
abbrev pub cooked_alone : ℕ → ℕ → Mode × Option ℕ
cooked_alone line_break c =
    if c == 92 then (Escape, None)
    else (if is_line_break c then (Broke c, Some line_break) else (Text, Some (unblanked c)))

-- One byte on: what is then open, and what the byte gives. The second byte of a line break gives nothing.
abbrev pub cooked_next : ℕ → Mode → ℕ → Mode × Option ℕ
cooked_next line_break Text c = cooked_alone line_break c
cooked_next line_break Escape c = if is_line_break c then (Broke c, None) else (Text, Some (unblanked c))
cooked_next line_break (Broke b) c = if is_line_break c && not (c == b) then (Text, None) else cooked_alone line_break c

-- what the bytes give, where an unescaped line break gives this byte
unfoldable pub cooked_from : ℕ → Mode → List ℕ → List ℕ
cooked_from line_break m [] = []
cooked_from line_break m (c ∷ cs) =
    option_to_list (cooked_next line_break m c).1 ++ cooked_from line_break (cooked_next line_break m c).0 cs
