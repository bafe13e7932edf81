-- What tells a property's kind: its name without lower-case letters is in the tables.
use Rattle.std.proofs.Common.{◌≡◌, ◌∙◌, ℕ, List, ap, codes, false, sym, true}
use Rattle.std.proofs.lemmas.Slice.Eq.{bytes_eq-Decides}
use Rattle.std.specs.Prelude.{filter}
use Rattle.std.specs.Str.{bytes_eq}
use Rattle.go_sgf.specs.Record.{Property, is_upper_byte, plain_property}

-- a name is this one
pub name_same : (p : Property) (name plain : List ℕ) → name ≡ p.name →
    bytes_eq (filter is_upper_byte name) plain ≡ true → (plain_property p).name ≡ plain
name_same p name plain e same =
    ap (filter is_upper_byte) (sym e) ∙ (bytes_eq-Decides (filter is_upper_byte name) plain).0 same

-- a name is another
pub name_differs : (p : Property) (name plain : List ℕ) → name ≡ p.name →
    bytes_eq (filter is_upper_byte name) plain ≡ false → bytes_eq (plain_property p).name plain ≡ false
name_differs p name plain e other = ap (λ n. bytes_eq (filter is_upper_byte n) plain) (sym e) ∙ other
