use Rattle.std.proofs.Common.{rules}
use Rattle.go_board.proofs.colour.Colour.named.Goals as goal

pub returns-then-is_word : goal.returns-then-is_word
returns-then-is_word c = search rules
