-- Vertices after spaces, as a result.
use Rattle.std.proofs.Common.{◌≡◌, ℕ, List, decimal, ◌+◌, refl}
use Rattle.std.specs.List.{flat_map}
use Rattle.go_board.specs.Points.{point_at}
use Rattle.go_board.specs.Vertices.{letter_of_column}
use Rattle.goref_results.specs.ChainLines.{spaced_vertex}
use Rattle.goref_results.specs.Plays.{number_word, numbers_text}
use Rattle.goref_results.specs.Results.{result_text}
use Rattle.goref_results.proofs.Listing.{result_spaced}

pub numbers_spaced : (n : ℕ) (ps : List ℕ) → flat_map (spaced_vertex n) ps ≡ result_text (numbers_text n ps)
numbers_spaced n ps = result_spaced (number_word n)
    (λ p. (letter_of_column (point_at n p).col, decimal ((point_at n p).row + 1), refl)) ps
