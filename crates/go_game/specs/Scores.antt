-- Areas, margins and their texts.
use Rattle.std.specs.Prelude.{◌+◌, ◌*◌, ◌/◌, ◌%◌, ◌++◌, ◌==◌, ◌-ℤ◌, ℕ, ℤ, pos, negsuc, List, [], ◌∷◌, codes, decimal, if◌then◌else◌}
use Rattle.go_board.specs.declared.colour.Colour.{Colour}
use Rattle.go_board.specs.declared.colour.Colour.TheVariants.{Black, White}
use Rattle.go_board.specs.Reaching.{area}
use Rattle.go_game.specs.Standings.{Standing, board_of}

-- how many points count for a colour
abbrev pub area_of : Standing → Colour → ℕ
area_of s c = area s.lines (board_of s) c

-- by how many hundredths of a point Black is ahead
abbrev pub margin_of : Standing → ℤ
margin_of s = (pos (100 * area_of s Black) -ℤ pos (100 * area_of s White)) -ℤ s.komi

-- a point and these hundredths, without zeros at the end
abbrev pub decimals_of : ℕ → List ℕ
decimals_of n =
    if n == 0 then []
    else (if n % 10 == 0 then codes "." ++ (48 + n / 10) ∷ [] else codes "." ++ (48 + n / 10) ∷ (48 + n % 10) ∷ [])

-- a number of hundredths as a decimal number
unfoldable pub size_text : ℕ → List ℕ
size_text n = decimal (n / 100) ++ decimals_of (n % 100)

-- hundredths with their sign
abbrev pub hundredths_word : ℤ → List ℕ
hundredths_word (pos n) = size_text n
hundredths_word (negsuc n) = codes "-" ++ size_text (n + 1)

-- a score: who is ahead, and by how much
abbrev pub score_word : ℤ → List ℕ
score_word (pos n) = if n == 0 then codes "0" else codes "B+" ++ size_text n
score_word (negsuc n) = codes "W+" ++ size_text (n + 1)
