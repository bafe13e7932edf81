-- fixed_handicap, place_free_handicap and set_free_handicap: starts with black stones.
use Rattle.std.specs.Prelude.{ℕ, min, if◌then◌else◌, List, [], Option, Some, None, Result, Ok, Err}
use Rattle.go_board.specs.declared.colour.Colour.TheVariants.{White}
use Rattle.go_board.specs.declared.point.Point.{Point}
use Rattle.go_game.specs.Handicaps.{fixed, greatest, stones_on_board}
use Rattle.go_game.specs.Standings.{Standing, is_vacant_standing}
use Rattle.goref_session.specs.Decisions.{Decided, comes_to, keeps}
use Rattle.goref_session.specs.declared.decision.Decision.TheVariants.{Tells, Refused}
use Rattle.goref_session.specs.declared.decision.Fact.TheVariants.{Places}
use Rattle.goref_session.specs.declared.decision.Refusal.TheVariants.{SyntaxError, BoardNotEmpty, InvalidNumber, BadVertexList}
use Rattle.goref_lines.specs.declared.stones.ListError.{ListError}
use Rattle.goref_lines.specs.declared.stones.ListError.TheVariants.{Malformed, Bad}

-- a new start with these black stones: White is to move, and the komi and the rule stay
abbrev pub with_stones : Standing → List Point → Standing
with_stones s points =
    record {
      lines = s.lines;
      komi = s.komi;
      rule = s.rule;
      start = stones_on_board s.lines points;
      first = White;
      moves = [];
    }

-- a new start with this number of handicap stones on these places, where there are such
abbrev pub decided_places : Standing → ℕ → Option (List Point) → Decided
decided_places s number None = keeps s (Refused InvalidNumber)
decided_places s number (Some points) = record { decision = Tells (Places number); standing = with_stones s points }

-- this number of handicap stones on their places, in a vacant game
abbrev pub decided_handicap : Standing → ℕ → Decided
decided_handicap s number =
    if is_vacant_standing s then decided_places s number (fixed s.lines number) else keeps s (Refused BoardNotEmpty)

-- `fixed_handicap`: exactly this number of stones
abbrev pub decided_fixed : Standing → Option ℕ → Decided
decided_fixed s None = keeps s (Refused SyntaxError)
decided_fixed s (Some number) = decided_handicap s number

-- `place_free_handicap`: this number of stones, or as many as there are places for
abbrev pub decided_free : Standing → Option ℕ → Decided
decided_free s None = keeps s (Refused SyntaxError)
decided_free s (Some number) = decided_handicap s (min number (greatest s.lines))

-- `set_free_handicap`: black stones on the points that are listed
abbrev pub decided_stones : Standing → Result (List Point) ListError → Decided
decided_stones s (Err Malformed) = keeps s (Refused SyntaxError)
decided_stones s (Err Bad) = keeps s (Refused (if is_vacant_standing s then BadVertexList else BoardNotEmpty))
decided_stones s (Ok points) =
    if is_vacant_standing s then comes_to (with_stones s points) else keeps s (Refused BoardNotEmpty)
