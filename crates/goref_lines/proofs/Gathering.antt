-- How a list of stones comes to the same while its words are read one by one.
use Rattle.std.proofs.Common.{◌≡◌, ◌∙◌, ℕ, ◌+◌, ◌*◌, Bool, true, false, not, ◌&&◌, nat_lt, List, [], ◌∷◌, ◌++◌, length, map, Option, Some, None, Err, refl, sym, ap, append_assoc, length-append, arith, rules, ◌⊎◌, inl, inr}
use Rattle.std.specs.Prelude.{◌==◌, if◌then◌else◌, option_map}
use Rattle.std.specs.List.{list_any}
use Rattle.std.proofs.lemmas.Bool.Decides.{nat_tests}
use Rattle.std.proofs.lemmas.Grind.{common_steps}
use Rattle.std.proofs.lemmas.List.{map-append}
use Rattle.std.proofs.lemmas.List.Elements.{All-append}
use Rattle.std.proofs.lemmas.List.Folds.{list_any-append}
use Rattle.go_board.specs.declared.point.Point.{Point}
use Rattle.go_board.specs.declared.vertex.Vertex.{Vertex}
use Rattle.go_board.specs.declared.vertex.Vertex.TheVariants.{At}
use Rattle.go_board.specs.Points.{IsOn, number_of}
use Rattle.goref_lines.specs.declared.stones.ListError.TheVariants.{Bad}
use Rattle.goref_lines.specs.Stones.{are_distinct, is_free_handicap, point_on, points_on, stones_at, stones_of, with_first}
use Rattle.goref_lines.specs.inner.Gathered.{AreApart, Gathered, may_follow, comes_from, gathers}

-- a number that stands among others is not distinct after them
twice : (xs ys : List ℕ) (y : ℕ) → list_any (λ x. x == y) xs ≡ true → are_distinct (xs ++ y ∷ ys) ≡ false
twice [] ys y e = cc
twice (x ∷ xs) ys y e = grind (arith, common_steps, nat_tests, list_any-append, twice xs ys y)

-- any other is
once : (xs : List ℕ) (y : ℕ) → are_distinct xs ≡ true → list_any (λ x. x == y) xs ≡ false →
    are_distinct (xs ++ y ∷ []) ≡ true
once [] y d e = refl
once (x ∷ xs) y d e = grind (arith, common_steps, nat_tests, list_any-append, once xs y)

numbered : (n y : ℕ) (points : List Point) →
    list_any (λ x. x == y) (map (number_of n) points) ≡ list_any (λ p. number_of n p == y) points
numbered n y [] = refl
numbered n y (p ∷ points) = rw (numbered n y points) refl

and_false : (b : Bool) → (b && false) ≡ false
and_false true = refl
and_false false = refl

none_left : (n : ℕ) (points more : List Point) (p : Point) → nat_lt (length points + 1) (n * n) ≡ false →
    nat_lt (length (points ++ p ∷ more)) (n * n) ≡ false
none_left n points more p h = grind (arith, common_steps, nat_tests, length-append points (p ∷ more))

stands_twice : (n : ℕ) (points more : List Point) (p : Point) →
    list_any (λ q. number_of n q == number_of n p) points ≡ true →
    are_distinct (map (number_of n) (points ++ p ∷ more)) ≡ false
stands_twice n points more p h =
    rw (map-append (number_of n) points (p ∷ more))
    (twice (map (number_of n) points) (map (number_of n) more) (number_of n p)
    (numbered n (number_of n p) points ∙ h))

no_handicap : (few lt distinct : Bool) → (lt ≡ false) ⊎ (distinct ≡ false) → ((few && lt) && distinct) ≡ false
no_handicap few lt distinct (inl h) = rw (h, and_false few) refl
no_handicap few lt distinct (inr h) = rw h (and_false (few && lt))

fails : (left met : Bool) → (left && not met) ≡ false → (left ≡ false) ⊎ (met ≡ true)
fails true true e = inr refl
fails true false e = cc
fails false met e = inl refl

-- no free handicap has a point that cannot follow those before it
cannot_follow : (n : ℕ) (points more : List Point) (p : Point) → may_follow n points p ≡ false →
    is_free_handicap n (points ++ p ∷ more) ≡ false
cannot_follow n points more p h =
    no_handicap _ _ _ (elim (fails _ _ h)
    [ inl last ↦ inl (none_left n points more p last) | inr met ↦ inr (stands_twice n points more p met) ])

passes : (left met : Bool) → (left && not met) ≡ true → (left ≡ true) × (met ≡ false)
passes true true e = cc
passes true false e = (refl, refl)
passes false met e = cc

pub apart_more : (n : ℕ) (points : List Point) (p : Point) → AreApart n points → IsOn n p →
    may_follow n points p ≡ true → AreApart n (points ++ p ∷ [])
apart_more n points p apart on follows =
    let both = passes (nat_lt (length points + 1) (n * n)) (list_any (λ q. number_of n q == number_of n p) points)
    follows in
    record {
      on = All-append (IsOn n) points (p ∷ []) apart.on (search rules);
      few = grind (arith, nat_tests, both.0, length-append points (p ∷ []));
      distinct = rw (map-append (number_of n) points (p ∷ []))
          (once (map (number_of n) points) (number_of n p) apart.distinct (numbered n (number_of n p) points ∙ both.1));
    }

point_in_on : (n : ℕ) (p : Point) → IsOn n p → point_on n (At p) ≡ Some p
point_in_on n p on = grind (arith, nat_tests)

-- the points so far, or none where the list is bad already
abbrev pub unless_bad : Bool → List Point → Option (List Point)
unless_bad bad points = if bad then None else Some points

module _ (n : ℕ) (points : List Point) (p : Point) (on : IsOn n p) where
  grows_by : (more : Option (List Point)) →
      stones_of n (option_map (λ ps. points ++ ps) (with_first (Some p) more)) ≡ stones_of n
      (option_map (λ ps. (points ++ p ∷ []) ++ ps) more)
  grows_by None = refl
  grows_by (Some ps) = ap (λ all. stones_of n (Some all)) (sym (append_assoc points (p ∷ []) ps))

  -- a point of the board goes to the points
  pub grows : (bad : Bool) (rest : Option (List Vertex)) →
      gathers (record { lines = n; points = unless_bad bad points }) (with_first (Some (At p)) rest) ≡ gathers
      (record { lines = n; points = unless_bad bad (points ++ p ∷ []) }) rest
  grows bad None = refl
  grows true (Some vertices) = refl
  grows false (Some vertices) = rw (point_in_on n p on) (grows_by (points_on n vertices))

  spoils_by : (more : Option (List Point)) → may_follow n points p ≡ false →
      stones_of n (option_map (λ ps. points ++ ps) (with_first (Some p) more)) ≡ Err Bad
  spoils_by None h = refl
  spoils_by (Some ps) h = rw (cannot_follow n points ps p h) refl

  -- one that cannot follow them makes the list bad
  pub spoils : (bad : Bool) (rest : Option (List Vertex)) → may_follow n points p ≡ false →
      gathers (record { lines = n; points = unless_bad bad points }) (with_first (Some (At p)) rest) ≡ gathers
      (record { lines = n; points = None }) rest
  spoils bad None h = refl
  spoils true (Some vertices) h = refl
  spoils false (Some vertices) h = rw (point_in_on n p on) (spoils_by (points_on n vertices) h)

begins_by : (n : ℕ) (points : Option (List Point)) →
    stones_of n (option_map (λ ps. [] ++ ps) points) ≡ stones_of n points
begins_by n None = refl
begins_by n (Some points) = refl

-- where nothing is read yet, a list comes to the stones at its vertices
pub begins : (n : ℕ) (g : Gathered) → g.lines ≡ n → g.points ≡ Some [] → (vertices : Option (List Vertex)) →
    gathers g vertices ≡ stones_at n vertices
begins n g lines none None = refl
begins n g lines none (Some vertices) =
    ap (λ m. comes_from m g.points vertices) lines ∙ ap (λ points. comes_from n points vertices) none
    ∙ begins_by n (points_on n vertices)
