-- How the pieces that are written make up the canonical text.
use Rattle.std.proofs.Common.{◌≡◌, List, [], ◌∷◌, ◌++◌, sym, ap, ◌∙◌, map, append_assoc}
use Rattle.std.proofs.lemmas.Grind.{flat_map-append}
use Rattle.std.specs.List.{flat_map}
use Rattle.go_sgf.specs.Record.{Property, Trees, plain, plain_property}
use Rattle.go_sgf.specs.Spelling.{Part, opening, closing, text, text_of_parts, node_parts, parts, tree_text}

-- ---- texts

pub joined-append : (ps qs : List Part) → text_of_parts (ps ++ qs) ≡ text_of_parts ps ++ text_of_parts qs
joined-append ps qs = flat_map-append text ps qs

-- a tree's text, and what follows it
pub tree_then : (nodes : List (List Property)) (children : Trees) (ps : List Part) →
    text_of_parts (opening ∷ (flat_map node_parts (map (map plain_property) nodes)
    ++ (parts (plain children) ++ (closing ∷ ps))))
    ≡ tree_text nodes children ++ text_of_parts ps
tree_then nodes children ps =
    let prefix : List Part = flat_map node_parts (map (map plain_property) nodes) in
    let inner : prefix ++ (parts (plain children) ++ (closing ∷ ps)) ≡
    (prefix ++ (parts (plain children) ++ (closing ∷ []))) ++ ps =
    ap (λ qs. prefix ++ qs) (sym (append_assoc (parts (plain children)) (closing ∷ []) ps))
    ∙ sym (append_assoc prefix (parts (plain children) ++ (closing ∷ [])) ps) in
    ap (λ qs. text_of_parts (opening ∷ qs)) inner
    ∙ joined-append (opening ∷ (prefix ++ (parts (plain children) ++ (closing ∷ [])))) ps
