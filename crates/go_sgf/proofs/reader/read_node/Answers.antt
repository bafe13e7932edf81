use Rattle.std.proofs.Common.{[], ◌∷◌, ◌++◌, refl, ap, ◌∙◌}
use Rattle.std.specs.Prelude.{option_map}
use Rattle.go_sgf.proofs.Passing.{node_first, node_more, property_shorter}
use Rattle.go_sgf.proofs.reader.read_node.Goals as goal

pub loop-properties-init : goal.loop-properties-init
loop-properties-init g c = (
  [],
  c.no_properties-properties.ensures,
  node_first c.args.bytes.now c.after_space-rest.result.now c.after_space-rest.ensures,
)

pub loop-properties-preserved : goal.loop-properties-preserved
loop-properties-preserved g c =
    let ps = c.loop-properties.invariant.0 in
    let read = c.in_ok-rest.ensures.read in (
      ps ++ read.0 ∷ [],
      λ keeps. read.1 keeps ∙ ap (option_map (λ us. us ++ read.0 ∷ [])) (c.loop-properties.invariant.1 keeps),
      node_more c.args.bytes.now ps (ps ++ read.0 ∷ []) c.loop-properties.rest.now read.0 c.in_ok-rest.rest.now
          c.loop-properties.invariant.2 refl
          read.2 c.in_ok-rest.ensures.place,
    )

pub loop-properties-smaller : goal.loop-properties-smaller
loop-properties-smaller g c =
    let read = c.in_ok-rest.ensures.read in
    property_shorter c.loop-properties.rest.now read.0 c.in_ok-rest.rest.now read.2
