-- Sound standings with one move more or fewer.
use Rattle.std.proofs.Common.{arith, ◌≡◌, ◌∙◌, ℕ, inl, inr, List, [], ◌∷◌, ◌++◌, length, length-append, take, get_or, sym, ap, subst}
use Rattle.std.proofs.lemmas.List.{get_or_append_left, take-append-le, take_all}
use Rattle.std.proofs.Math.Seq.{get_or-append_seam}
use Rattle.std.proofs.lemmas.Bool.{cases_lt}
use Rattle.go_board.specs.declared.vertex.Move.{Move}
use Rattle.go_game.specs.Standings.{IsLegal, IsSound, Standing, with_move}

-- the standing with these moves
abbrev pub moved_to : Standing → List Move → Standing
moved_to s moves = record s { moves = moves }

pub sound_prefix : (s : Standing) (prefix : List Move) (m : Move) → IsSound (moved_to s (prefix ++ m ∷ [])) →
    IsSound (moved_to s prefix)
sound_prefix s prefix m sound = record {
  size = sound.size;
  whole = sound.whole;
  komi = sound.komi;
  alive = sound.alive;
  legal = λ k x low at.
      let longer = length-append prefix (m ∷ []) in
      let same : get_or (prefix ++ m ∷ []) k x ≡ x = get_or_append_left prefix (m ∷ []) x k low ∙ at in
      let before : take k (prefix ++ m ∷ []) ≡ take k prefix = take-append-le k prefix (m ∷ []) (omega arith) in
      subst (λ (moves : List Move). IsLegal (moved_to s moves) x.colour x.vertex) before
      (sound.legal k x (omega (arith, longer)) same);
}

pub sound_more : (s : Standing) (m : Move) → IsSound s → IsLegal s m.colour m.vertex → IsSound (with_move s m)
sound_more s m sound legal = record {
  size = sound.size;
  whole = sound.whole;
  komi = sound.komi;
  alive = sound.alive;
  legal = λ k x low at.
      let longer = length-append s.moves (m ∷ []) in
      elim (cases_lt k (length s.moves)) [
        | inl before ↦
            let same : get_or s.moves k x ≡ x = sym (get_or_append_left s.moves (m ∷ []) x k before) ∙ at in
            let moves : take k (s.moves ++ m ∷ []) ≡ take k s.moves = take-append-le k s.moves (m ∷ []) (omega arith) in
            subst (λ (ms : List Move). IsLegal (moved_to s ms) x.colour x.vertex) (sym moves)
            (sound.legal k x before same)
        | inr last ↦
            let k_is : k ≡ length s.moves = omega (arith, longer) in
            let x_is : m ≡ x = sym (ap (λ (j : ℕ). get_or (s.moves ++ m ∷ []) j x) k_is
            ∙ get_or-append_seam s.moves m [] x) ∙ at in
            let moves : take k (s.moves ++ m ∷ []) ≡ s.moves = take-append-le k s.moves (m ∷ []) (omega arith)
            ∙ take_all k s.moves (omega arith) in
            subst (λ (y : Move). IsLegal (moved_to s (take k (s.moves ++ m ∷ []))) y.colour y.vertex) x_is
            (subst (λ (ms : List Move). IsLegal (moved_to s ms) m.colour m.vertex) (sym moves) legal)
      ];
}
