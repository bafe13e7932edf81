-- Laws of replies.
use Rattle.std.specs.Prelude.{◌≡◌, ◌≢◌, ◌≤◌, ℕ, ◌⊎◌, true, false, List, [], ◌++◌, Option, codes}
use Rattle.std.specs.List.{All}
use Rattle.go_game.specs.Standings.{Standing}
use Rattle.goref_lines.specs.Kept.{Kept}
use Rattle.goref_lines.specs.Words.{has_bytes}
use Rattle.goref_session.specs.Replies.{Reply, Said}
use Rattle.goref_session.specs.Contents.{Content}
use Rattle.goref_session.specs.Record.{Loads, LoadsNone}

-- over each standing something may be said to each line, whatever was fetched for it
abbrev pub SomeReply : Type 0
SomeReply = (s : Standing) (k : Kept) (content : Content) → (reply : Said) × Reply s k content reply

-- one game at most comes of the bytes of a file, and where one does they aren't refused
abbrev pub OneLoad : Type 0
OneLoad = (bytes : List ℕ) (number : Option ℕ) (s : Standing) → Loads bytes number s
    → ((t : Standing) → Loads bytes number t → t ≡ s) × (LoadsNone bytes number → ⊥)

-- The one empty line of the text is at its end: it begins with no line end and ends with two, and nowhere before
-- these does a line end follow another.
pub record EndsAtEmptyLine (text : List ℕ) : Type 0 where
  pub begins : (rest : List ℕ) → text ≢ codes "\n" ++ rest
  pub body : List ℕ
  pub ends : text ≡ body ++ codes "\n\n"
  pub first : (prefix back : List ℕ) → text ≡ prefix ++ (codes "\n\n" ++ back) → back ≡ []

-- nothing is said to a line without words, and what is said to any other has one empty line, at its end
abbrev pub AnswersEnd : Type 0
AnswersEnd = (s : Standing) (k : Kept) (content : Content) (reply : Said) → Reply s k content reply →
    (has_bytes k.text ≡ false → reply.text ≡ []) × (has_bytes k.text ≡ true → EndsAtEmptyLine reply.text)

-- no byte of an answer is below a space, line ends aside
abbrev pub PlainAnswers : Type 0
PlainAnswers = (s : Standing) (k : Kept) (content : Content) (reply : Said) → Reply s k content reply →
    All (λ b. (b ≡ 10) ⊎ (32 ≤ b)) reply.text
