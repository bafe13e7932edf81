use Rattle.std.proofs.Common.{arith, ◌≡◌, ◌∙◌, ℕ, List, inl, inr, length, min, refl, sym, take, ap}
use Rattle.std.proofs.lemmas.List.{take_all}
use Rattle.std.proofs.lemmas.Bool.{cases_lt}
use Rattle.go_board.specs.declared.point.Point.{Point}
use Rattle.go_game.specs.Handicaps.{corners, handicap_points}
use Rattle.go_game.proofs.handicap.points_of.Goals as goal

take_four : (xs : List Point) (k : ℕ) → length xs ≡ 4 → take (min 4 k) xs ≡ take k xs
take_four xs k four = elim (cases_lt k 4) [
  | inl few ↦ ap (λ (m : ℕ). take m xs) (let e : min 4 k ≡ k = omega arith in e)
  | inr all ↦ ap (λ (m : ℕ). take m xs) (let e : min 4 k ≡ 4 = omega arith in e) ∙ take_all 4 xs (omega arith)
      ∙ sym (take_all k xs (omega arith))
]

pub returns : goal.returns
unfolding handicap_points
returns c =
    let four = take_four (corners c.args.lines) c.args.number refl in
    simp (
      c.push_where-4.ensures.items,
      c.push_where-3.ensures.items,
      c.push_where-2.ensures.items,
      c.push_where.ensures.items,
      c.new-points.ensures,
      c.split_at.ensures.front,
      c.first_of.ensures,
      c.takes_centre.ensures,
      c.at.ensures,
      c.at-2.ensures,
      c.at-3.ensures,
      c.at-4.ensures,
      c.at-5.ensures,
      c.at-6.ensures,
      c.at-7.ensures,
      c.at-8.ensures,
      c.at-9.ensures,
      c.near_line-near.ensures.line,
      four,
    )
