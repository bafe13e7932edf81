use Rattle.std.proofs.Common.{rules, ◌≡◌, ◌∙◌, ◌&&◌, ℕ, Option, Some, None, Ok, Err, sym, ap, Bool, true, false, nat_lt, if◌then◌else◌}
use Rattle.go_board.specs.declared.vertex.VertexError.TheVariants.{OffBoard}
use Rattle.go_board.specs.declared.vertex.Vertex.{Vertex}
use Rattle.go_board.specs.declared.vertex.Vertex.TheVariants.{Pass, At}
use Rattle.std.specs.Prelude.{slice_get}
use Rattle.std.specs.Option.{option_and_then}
use Rattle.go_board.specs.Vertices.{vertex_of, vertex_on}
use Rattle.goref_session.proofs.commands.play.play.Goals as goal

at_point : (b : Bool) (w v : Vertex) → (if b then Ok w else Err OffBoard) ≡ Ok v → w ≡ v
at_point true w v e = cc
at_point false w v e = cc

-- the vertex that was read is the one that is spelled
spelled : (n : ℕ) (o : Option Vertex) (v : Vertex) → vertex_on n o ≡ Ok v → o ≡ Some v
spelled n None v e = cc
spelled n (Some Pass) v e = cc
spelled n (Some (At p)) v e = ap Some (at_point (nat_lt p.col n && nat_lt p.row n) (At p) v e)

pub returns-in-Ok : goal.returns-in-Ok
returns-in-Ok g c =
    let colour = sym c.colour_argument.ensures ∙ c.in-Some.is in
    let vertex : option_and_then vertex_of (slice_get c.args.request.now.arguments 1) ≡ Some c.in-Ok.vertex =
    spelled c.size.result _ _ (sym c.vertex_argument.ensures ∙ c.in-Ok.is) in
    rw (colour, vertex) c.play_move.ensures

pub returns-in-Err-OffBoard : goal.returns-in-Err-OffBoard
returns-in-Err-OffBoard g c = search rules
