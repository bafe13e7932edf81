-- The verdict on an input, as it is written.
use Rattle.std.specs.Prelude.{◌≡◌, ℕ, List, ◌++◌, Option, codes, decimal}
use Rattle.go_board.specs.Device.{TakesPrefix, then_bytes}
use Rattle.go_game.specs.Scores.{score_word}
use Rattle.go_record.specs.Verdicts.{IsVerdict}
use Rattle.go_record.specs.declared.verdict.Stated.{Stated}
use Rattle.go_record.specs.declared.verdict.Stated.TheVariants.{None, Agrees, Differs}
use Rattle.go_record.specs.declared.verdict.Verdict.{Verdict}
use Rattle.go_sgf.specs.Record.{Trees}
use Rattle.go_sgf.specs.Spelling.{Spells}

-- a line of a name and a value
abbrev pub line_of : List ℕ → List ℕ → List ℕ
line_of name value = name ++ (value ++ codes "\n")

-- how the score that a record states compares with its game's
abbrev pub word_of_stated : Stated → List ℕ
word_of_stated None = codes "none"
word_of_stated Agrees = codes "agrees"
word_of_stated Differs = codes "differs"

-- the three lines of a verdict
abbrev pub verdict_text : Verdict → List ℕ
verdict_text v =
    line_of (codes "moves ") (decimal v.moves)
    ++ (line_of (codes "score ") (score_word v.margin) ++ line_of (codes "stated ") (word_of_stated v.stated))

-- the writer took the lines of the verdict on the record that the input spells
abbrev pub Judges : List ℕ → Option (List ℕ) → Option (List ℕ) → Type 0
Judges input taken taken' =
    (c : Trees) × Spells input c × ((v : Verdict) × IsVerdict c v × (taken' ≡ then_bytes taken (verdict_text v)))

-- the writer took a prefix of them
abbrev pub BeginsToJudge : List ℕ → Option (List ℕ) → Option (List ℕ) → Type 0
BeginsToJudge input taken taken' =
    (c : Trees) × Spells input c × ((v : Verdict) × IsVerdict c v × TakesPrefix taken taken' (verdict_text v))
