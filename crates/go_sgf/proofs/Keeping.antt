-- What is kept of what is read.
use Rattle.std.proofs.Common.{◌≡◌, List, [], ◌∷◌, ◌++◌, Option, Some, None, true, refl, sym}
use Rattle.std.specs.Prelude.{IfSome, is_some, option_map}
use Rattle.go_sgf.specs.Record.{Property, TreeValue}
use Rattle.go_sgf.specs.View.{chain}

pub kept_where : {V P : Type 0} (r : Option V) → IfSome r (λ _. P) → is_some r ≡ true → P
kept_where None h e = cc
kept_where (Some v) h e = h

pub where_kept : {V P : Type 0} (r : Option V) → (is_some r ≡ true → P) → IfSome r (λ _. P)
where_kept None h = tt
where_kept (Some v) h = h refl

-- a tree of nodes and children that are kept was added
pub added_is : {V : Type 0} (old new : Option (List TreeValue)) (children : Option V) (trees : V → List TreeValue)
    (ts : List TreeValue) (nodes ns : List (List Property)) →
    IfSome children (λ list. new ≡ option_map (λ us. us ++ (nodes, chain (trees list)) ∷ []) old) → nodes ≡ ns →
    option_map trees children ≡ Some ts →
    new ≡ option_map (λ us. us ++ (ns, chain ts) ∷ []) old
added_is old new None trees ts nodes ns h e f = cc
added_is old new (Some list) trees ts nodes ns h e f =
    let same : trees list ≡ ts = cc in
    rw (sym same, sym e) h
