-- The events of a main line, node by node, and the game that they come to.
use Rattle.std.proofs.Common.{◌≡◌, ◌∙◌, ◌+◌, ◌*◌, ℕ, ℤ, true, false, List, [], ◌∷◌, ◌++◌, refl, sym, ap, subst, append_assoc}
use Rattle.std.specs.Prelude.{Option, Some, None, Err, codes, replicate}
use Rattle.std.proofs.lemmas.List.{append-nil}
use Rattle.go_board.specs.Colours.{Colouring}
use Rattle.go_sgf.specs.Record.{Property, Trees}
use Rattle.go_record.specs.declared.error.RecordError.TheVariants.{BadKomi, BadSize, NotGo}
use Rattle.go_record.specs.declared.state.Remaining.{Remaining}
use Rattle.go_record.specs.Games.{IsGameOf, is_go_value, komi_in, lines_in, value_at_root}
use Rattle.go_sgf.specs.MainLine.{main_line}
use Rattle.go_record.specs.MainLine.{Event, events_from, events_of, looked_at}
use Rattle.go_record.specs.inner.Progress.{Says, remaining_by, seen}
use Rattle.go_record.specs.Walks.{Outcome, SetsUp}

-- one node on: the events of those before it, its own, and those of the later ones
pub node_on : (count after : ℕ) (done : List Event) (nodes : List (List Property)) (node : List Property)
    (later : List (List Property)) → nodes ≡ node ∷ later →
    after ≡ count + 1 → (done ++ events_of count node) ++ events_from after later ≡ done ++ events_from count nodes
node_on count after done nodes node later e is =
    append_assoc done (events_of count node) (events_from after later)
    ∙ ap (λ (n : ℕ). done ++ (events_of count node ++ events_from n later)) is
    ∙ ap (λ (ns : List (List Property)). done ++ events_from count ns) (sym e)

seen_by : (number : Option ℕ) (events : List Event) → seen (remaining_by number) events ≡ looked_at number events
seen_by None events = refl
seen_by (Some n) events = refl

module _ (c : Trees) (number : Option ℕ) where
  pub not_go : is_go_value (value_at_root (codes "GM") c) ≡ false → IsGameOf c number (Err NotGo)
  unfolding IsGameOf
  not_go e = rw e refl

  pub bad_size : is_go_value (value_at_root (codes "GM") c) ≡ true → lines_in (value_at_root (codes "SZ") c) ≡ None →
      IsGameOf c number (Err BadSize)
  unfolding IsGameOf
  bad_size e f = rw (e, f) refl

  pub bad_komi : (n : ℕ) → is_go_value (value_at_root (codes "GM") c) ≡ true →
      lines_in (value_at_root (codes "SZ") c) ≡ Some n → komi_in (value_at_root (codes "KM") c) ≡ None →
      IsGameOf c number (Err BadKomi)
  unfolding IsGameOf
  bad_komi n e f h = rw (e, f, h) refl

  pub game_walks : (n : ℕ) (komi : ℤ) (outcome : Outcome) → is_go_value (value_at_root (codes "GM") c) ≡ true →
      lines_in (value_at_root (codes "SZ") c) ≡ Some n →
      komi_in (value_at_root (codes "KM") c) ≡ Some komi →
      SetsUp n komi (replicate (n * n) None) None (looked_at number (events_from 0 (main_line c))) outcome →
      IsGameOf c number outcome
  unfolding IsGameOf
  game_walks n komi outcome e f h walk = rw (e, f, h) walk

  -- the game of a walk from its begin
  pub game_walked : (n m : ℕ) (komi komi' : ℤ) (g : Colouring) (remaining : Remaining) (outcome : Outcome) → Says c n komi →
      m ≡ n → komi' ≡ komi → g ≡ replicate (n * n) None → remaining ≡ remaining_by number →
      SetsUp m komi' g None (seen remaining (events_from 0 (main_line c) ++ [])) outcome → IsGameOf c number outcome
  game_walked n m komi komi' g remaining outcome says is same empty by walk =
      game_walks n komi outcome says.go says.size says.komi_said
      (subst (λ (es : List Event). SetsUp n komi (replicate (n * n) None) None es outcome)
      (ap (λ l. seen l (events_from 0 (main_line c) ++ [])) by ∙ seen_by number (events_from 0 (main_line c) ++ [])
      ∙ ap (looked_at number) (append-nil (events_from 0 (main_line c))))
      (rw (is, same, empty) at walk))
