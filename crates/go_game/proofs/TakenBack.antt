-- Moves that are taken back.
use Rattle.std.proofs.Common.{arith, ◌≡◌, ◌-◌, ◌∙◌, ℕ, List, [], ◌∷◌, ◌++◌, append_assoc, ap, length, length-append, sym, take}
use Rattle.std.proofs.lemmas.List.{append-nil}
use Rattle.std.proofs.Math.Seq.{take-append_seam}
use Rattle.go_board.specs.declared.vertex.Move.{Move}
use Rattle.go_game.specs.Standings.{Standing, with_move, with_moves, without_last}

moves_added : (s : Standing) (moves : List Move) → with_moves s moves ≡ record s { moves = s.moves ++ moves }
moves_added s [] = ap (λ (ms : List Move). let t : Standing = record s { moves = ms } in t) (sym (append-nil s.moves))
moves_added s (m ∷ moves) = moves_added (with_move s m) moves
    ∙ ap (λ (ms : List Move). let t : Standing = record s { moves = ms } in t) (append_assoc s.moves (m ∷ []) moves)

pub taken_back : (s : Standing) (moves : List Move) → without_last (length moves) (with_moves s moves) ≡ s
taken_back s moves =
    ap (without_last (length moves)) (moves_added s moves)
    ∙ ap (λ (k : ℕ). let t : Standing = record s { moves = take k (s.moves ++ moves) } in t)
    (let e : length (s.moves ++ moves) - length moves ≡ length s.moves = let l = length-append s.moves moves in
    omega arith in e)
    ∙ ap (λ (ms : List Move). let t : Standing = record s { moves = ms } in t) (take-append_seam s.moves moves)
