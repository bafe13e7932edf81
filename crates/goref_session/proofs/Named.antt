-- The table of commands, as it is gone through.
use Rattle.std.proofs.Common.{Bor, ◌≡◌, ◌∙◌, ◌<◌, ◌+◌, ℕ, false, true, List, [], ◌∷◌, ◌++◌, Some, ap, cond, drop, get_or, length, map}
use Rattle.std.specs.Prelude.{find, option_map}
use Rattle.std.specs.Str.{bytes_eq}
use Rattle.std.proofs.lemmas.List.{at_drop_more}
use Rattle.goref_session.specs.Commands.{Named, command_among}
use Rattle.goref_session.specs.declared.command.Command.{Command}

-- what the code's table has, and what contracts see of it
abbrev pub Entry : Type 0
Entry = Bor (List ℕ) × Command

abbrev pub named : Entry → Named
named entry = (entry.0.now, entry.1)

-- a name that is not the next one is that of a later command
pub found_later : (entries : List Entry) (k : ℕ) (name : List ℕ) (d : Entry) → k < length entries →
    bytes_eq name (get_or entries k d).0.now ≡ false →
    command_among (map named (drop k entries)) name ≡ command_among (map named (drop (k + 1) entries)) name
found_later entries k name d low other =
    at_drop_more (λ es. command_among (map named es) name) entries k d low
    ∙ ap (λ b. option_map (λ n. n.1)
    (cond b (Some (named (get_or entries k d))) (find (λ n. bytes_eq name n.0) (map named (drop (k + 1) entries)))))
    other

pub found_here : (entries : List Entry) (k : ℕ) (name : List ℕ) (d : Entry) → k < length entries →
    bytes_eq name (get_or entries k d).0.now ≡ true →
    command_among (map named (drop k entries)) name ≡ Some (get_or entries k d).1
found_here entries k name d low same =
    at_drop_more (λ es. command_among (map named es) name) entries k d low
    ∙ ap (λ b. option_map (λ n. n.1)
    (cond b (Some (named (get_or entries k d))) (find (λ n. bytes_eq name n.0) (map named (drop (k + 1) entries)))))
    same

-- the names, the first after this byte and the others after line ends
abbrev pub listed : ℕ → List Named → List ℕ
listed before [] = []
listed before (n ∷ ns) = before ∷ (n.0 ++ listed 10 ns)

pub listed_more : (before : ℕ) (entries : List Entry) (k : ℕ) (d : Entry) → k < length entries →
    listed before (map named (drop k entries)) ≡ before ∷
    ((get_or entries k d).0.now ++ listed 10 (map named (drop (k + 1) entries)))
listed_more before entries k d low = at_drop_more (λ es. listed before (map named es)) entries k d low
