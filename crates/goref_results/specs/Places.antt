-- The vertices of handicap stones.
use Rattle.std.specs.Prelude.{ℕ, List, [], Option, Some, None, map}
use Rattle.std.specs.List.{join_with_byte}
use Rattle.go_board.specs.declared.point.Point.{Point}
use Rattle.go_board.specs.declared.vertex.Vertex.TheVariants.{At}
use Rattle.go_board.specs.Vertices.{vertex_word}

-- the word of a point
abbrev pub point_word : Point → List ℕ
point_word p = vertex_word (At p)

-- the vertices of points, by spaces
abbrev pub places_text : Option (List Point) → List ℕ
places_text None = []
places_text (Some points) = join_with_byte 32 (map point_word points)
