use Rattle.std.proofs.Common.{◌≡◌, ◌<◌, [], ◌∷◌, ◌++◌, ℕ, map, refl, sym, ap, subst, ◌∙◌, length, Err, arith}
use Rattle.std.proofs.lemmas.Result.{err_from_is_err_and}
use Rattle.std.specs.List.{flat_map}
use Rattle.std.specs.Prelude.{option_map}
use Rattle.go_sgf.specs.declared.error.ReadError.TheVariants.{Deep}
use Rattle.go_sgf.specs.declared.limits.TheConstants.{MAX_DEPTH}
use Rattle.go_sgf.specs.inner.Held.{trees_in}
use Rattle.go_sgf.specs.inner.Outcome.{outcome}
use Rattle.go_sgf.specs.Spelling.{node_parts, parts, without_space}
use Rattle.go_sgf.specs.Stands.{closed}
use Rattle.go_sgf.specs.View.{chain, tree_of}
use Rattle.go_sgf.proofs.Keeping.{added_is, kept_where, where_kept}
use Rattle.go_sgf.proofs.Growing.{close_stops, closes, into_child, too_deep, tree_first, tree_le, tree_more, tree_whole}
use Rattle.go_sgf.proofs.Passing.{passes, refuses, shorter}
use Rattle.go_sgf.proofs.reader.+read_tree.Goals as goal

pub returns-then-depth-eq-MAX_DEPTH-clause-place : goal.returns-then-depth-eq-MAX_DEPTH-clause-place
returns-then-depth-eq-MAX_DEPTH-clause-place g t c =
    let P : ℕ → Type 0 = λ k. outcome MAX_DEPTH closed k c.loop-inside.rest.now ≡ Err
    (Deep (length c.loop-inside.rest.now)) in
    c.loop-inside.invariant.5.place
    ∙ subst P (sym c.if-depth-eq-MAX_DEPTH.true)
    (too_deep MAX_DEPTH c.loop-inside.rest.now c.in-Some.inside.now c.in-Some.ensures.stripped)

pub returns-in_err-after-clause-place : goal.returns-in_err-after-clause-place
returns-in_err-after-clause-place g t c =
    let less : c.args.depth < MAX_DEPTH = omega arith in
    let p = err_from_is_err_and c.from_residual-in_err-after.result c.from_residual-in_err-after.ensures.1 in
    rw (p.1, p.2)
    (passes _ _ _ _ _
    (c.loop-inside.invariant.5.place
    ∙ into_child MAX_DEPTH c.args.depth c.requires.depth less c.loop-inside.rest.now c.in-Some.inside.now
    c.in-Some.ensures.stripped)
    c.in_err-after.ensures.place)

pub loop-inside-init : goal.loop-inside-init
loop-inside-init g t c =
    let read = c.in_ok-rest.ensures.read in (
      read.0,
      [],
      λ keeps. c.own.view_is ∙ read.1 keeps ∙ ap (λ us. us ++ read.0) c.new-own.ensures,
      c.no_trees-children.ensures.kept,
      kept_where c.no_trees-children.result c.no_trees-children.ensures.some,
      tree_first c.args.depth c.requires.depth c.args.bytes.now read.0 c.in_ok-rest.rest.now read.2
          (c.in_ok-rest.ensures.place c.args.depth c.requires.depth),
      c.in_ok-rest.rest.now,
      read.2,
    )

pub loop-inside-smaller : goal.loop-inside-smaller
loop-inside-smaller g t c =
    let read = c.in_ok-after.ensures.read in
    rw c.after_space-rest.ensures
    (shorter 40 c.loop-inside.rest.now c.in-Some.inside.now (without_space c.in_ok-after.after.now)
    c.in-Some.ensures.stripped
    (tree_le _ c.in-Some.inside.now read.0 (without_space c.in_ok-after.after.now) read.2.tree))

pub loop-inside-preserved : goal.loop-inside-preserved
loop-inside-preserved g t c =
    let less : c.args.depth < MAX_DEPTH = omega arith in
    let i = c.loop-inside.invariant in
    let read = c.in_ok-after.ensures.read in (
      i.0,
      i.1 ++ read.0 ∷ [],
      i.2,
      λ keeps. read.1 keeps ∙ ap (option_map (λ us. us ++ read.0 ∷ [])) (i.3 keeps),
      λ kept. i.4 (sym c.in_ok-after.ensures.kept ∙ kept),
      rw c.after_space-rest.ensures
          (tree_more c.args.depth c.requires.depth less c.args.bytes.now i.0 i.1 (i.1 ++ read.0 ∷ [])
          c.loop-inside.rest.now
          c.in-Some.inside.now read.0 (without_space c.in_ok-after.after.now) i.5 refl c.in-Some.ensures.stripped
          read.2.tree
          c.in_ok-after.ensures.place),
      i.6,
      i.7,
    )

pub add_tree-requires : goal.add_tree-requires
add_tree-requires g t c =
    let i = c.loop-inside.invariant in
    where_kept c.loop-inside.children (λ kept. λ empty. i.7.some (sym (i.2 (i.4 kept)) ∙ c.own.view_is ∙ empty))

pub returns-clause-read : goal.returns-clause-read
returns-clause-read g t c =
    let i = c.loop-inside.invariant in (
      (i.0, chain i.1),
      λ keeps.
          added_is (trees_in c.args.trees.now) (trees_in c.add_tree.new.trees) c.loop-inside.children
          (λ list. map tree_of list.items) i.1 c.read_nodes.new.list i.0
          c.in_ok-add_tree.ensures.added (sym c.own.view_is ∙ i.2 keeps) (i.3 keeps),
      tree_whole c.args.depth c.args.bytes.now i.0 i.1 i.6 c.loop-inside.rest.now c.in-Some-strip.after.now i.7 i.5
          c.in-Some-strip.ensures.stripped,
    )

pub returns-clause-place : goal.returns-clause-place
returns-clause-place g t c =
    c.loop-inside.invariant.5.place
    ∙ closes MAX_DEPTH c.args.depth c.requires.depth c.loop-inside.rest.now c.in-Some-strip.after.now
    c.in-Some-strip.ensures.stripped

pub returns-in_default-strip-clause-place : goal.returns-in_default-strip-clause-place
returns-in_default-strip-clause-place g t c = refuses _ _ _
    (c.loop-inside.invariant.5.place
    ∙ close_stops MAX_DEPTH c.args.depth
    (flat_map node_parts c.loop-inside.invariant.0 ++ parts (chain c.loop-inside.invariant.1))
    c.args.bytes.now c.loop-inside.rest.now c.loop-inside.invariant.5.spelling c.in_default.ensures.other
    c.in_default-strip.ensures.other
    ∙ ap Err (sym c.unexpected.ensures))
