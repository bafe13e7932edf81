use Rattle.std.proofs.Common.{[], ◌∷◌, ◌++◌, ◌∙◌, refl, sym, ap, eqb-true, length}
use Rattle.std.proofs.lemmas.List.{nil_from_length}
use Rattle.std.specs.Prelude.{option_map}
use Rattle.go_sgf.specs.Spelling.{without_space}
use Rattle.go_sgf.proofs.Growing.{tree_le}
use Rattle.go_sgf.proofs.Keeping.{kept_where}
use Rattle.go_sgf.proofs.Passing.{shorter}
use Rattle.go_sgf.proofs.Stops.{left_by, refused_by, trees_first, trees_more, trees_whole}
use Rattle.go_sgf.proofs.reader.read_trees.Goals as goal

pub loop-inside-init : goal.loop-inside-init
loop-inside-init g c = (
  [],
  c.no_trees-trees.ensures.kept,
  kept_where c.no_trees-trees.result c.no_trees-trees.ensures.some,
  trees_first c.args.source.now c.from_first_tree-rest.result.now c.from_first_tree-rest.ensures
      (λ empty. let h = ap length empty in let e = c.if-is_empty.ensures in let e' = rw h at e in cc),
)

pub error_of-requires : goal.error_of-requires
error_of-requires g c =
    left_by _ c.args.source.now c.loop-inside.invariant.0 c.loop-inside.rest.now c.in-Some.inside.now c.in-Err.stop
    c.loop-inside.invariant.3 c.in-Some.ensures.stripped c.in-Err.ensures.place

pub returns-in-Err-clause-refused : goal.returns-in-Err-clause-refused
returns-in-Err-clause-refused g c =
    rw c.error_of.ensures
    (refused_by _ c.args.source.now c.loop-inside.invariant.0 c.loop-inside.rest.now c.in-Some.inside.now c.in-Err.stop
    c.loop-inside.invariant.3 c.in-Some.ensures.begins c.in-Some.ensures.stripped c.in-Err.ensures.place)

pub loop-inside-smaller : goal.loop-inside-smaller
loop-inside-smaller g c =
    let read = c.in-Ok.ensures.read in
    rw c.after_space-rest.ensures
    (shorter 40 c.loop-inside.rest.now c.in-Some.inside.now (without_space c.in-Ok.after.now)
    c.in-Some.ensures.stripped
    (tree_le 1 c.in-Some.inside.now read.0 (without_space c.in-Ok.after.now) read.2.tree))

pub loop-inside-preserved : goal.loop-inside-preserved
loop-inside-preserved g c =
    let ts = c.loop-inside.invariant.0 in
    let read = c.in-Ok.ensures.read in (
      ts ++ read.0 ∷ [],
      λ keeps. read.1 keeps ∙ ap (option_map (λ us. us ++ read.0 ∷ [])) (c.loop-inside.invariant.1 keeps),
      λ kept. c.loop-inside.invariant.2 (sym c.in-Ok.ensures.kept ∙ kept),
      rw c.after_space-rest.ensures
          (trees_more c.args.source.now ts (ts ++ read.0 ∷ []) c.loop-inside.rest.now c.in-Some.inside.now read.0
          (without_space c.in-Ok.after.now)
          c.loop-inside.invariant.3 refl c.in-Some.ensures.stripped read.2.tree),
    )

pub returns-clause-read : goal.returns-clause-read
returns-clause-read g c = (
  c.loop-inside.invariant.0,
  c.loop-inside.invariant.1,
  trees_whole c.args.source.now c.loop-inside.invariant.0 c.loop-inside.rest.now c.loop-inside.invariant.3
      c.in_default.ensures.other,
)

pub returns-then-is_empty-clause-refused : goal.returns-then-is_empty-clause-refused
returns-then-is_empty-clause-refused g c = sym c.from_first_tree-rest.ensures
    ∙ nil_from_length _ (eqb-true _ 0 (sym c.if-is_empty.ensures))
