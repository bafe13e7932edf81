-- What a game keeps after its last move is taken back.
use Rattle.std.proofs.Common.{arith, ◌≡◌, ◌<◌, ◌+◌, ◌*◌, ◌∙◌, ℕ, List, [], ◌∷◌, ◌++◌, length, length-append, map, sym, ap, subst}
use Rattle.go_board.specs.Laws.{PacksTellApart}
use Rattle.std.specs.Prelude.{Contains, None}
use Rattle.std.proofs.lemmas.List.{append-nil, same_from_push}
use Rattle.std.proofs.Math.Seq.{get_or-append_seam, take-append_seam}
use Rattle.go_board.specs.declared.colour.Colour.{Colour}
use Rattle.go_board.specs.declared.colour.Colour.TheVariants.{Black, White}
use Rattle.go_board.specs.declared.point.Point.{Point}
use Rattle.go_board.specs.declared.vertex.Move.{Move}
use Rattle.go_board.specs.declared.vertex.Vertex.{Vertex}
use Rattle.go_board.specs.declared.vertex.Vertex.TheVariants.{Pass, At}
use Rattle.go_board.specs.Colours.{Colouring, other}
use Rattle.go_board.specs.PackBytes.{bytes_of}
use Rattle.go_board.specs.Packs.{packed_of}
use Rattle.go_chains.specs.declared.cells.TheConstants.{CELLS}
use Rattle.go_chains.specs.declared.change.Change.{Change}
use Rattle.go_chains.specs.Rewound.{IsRewound, NamesCells, rewound}
use Rattle.go_chains.specs.Sound.{IsKept}
use Rattle.go_chains.specs.Boards.{BoardValue, grid_of}
use Rattle.go_history.specs.declared.key.Key.{Key}
use Rattle.go_history.specs.Histories.{HistoryValue, IsChangedAt, IsForgotten}
use Rattle.go_game.specs.declared.step.Step.{Step}
use Rattle.go_game.specs.inner.Held.{ArePlayed, IsHeld, IsKeeping, IsPlayed, Start, made_of, standing_of}
use Rattle.go_game.specs.inner.Histories.{StandsFor}
use Rattle.go_game.specs.Prisoners.{taken_by, share_of}
use Rattle.go_game.specs.Standings.{IsLegal, IsSound, Standing, after_move, after_vertex, board, board_of, mover_by, seen_by, stood_of}
use Rattle.go_game.specs.inner.Trails.{IsTurn, WentThrough}
use Rattle.go_game.proofs.Keeping.{grid_is}
use Rattle.go_game.proofs.Played.{board_push, held_prefix, made_push, played_prefix}
use Rattle.go_game.proofs.Trails.{LastTurn, last_turn, went_kept}
use Rattle.go_game.proofs.Turns.{seen_less, seen_only}

-- the last move of a sound standing was legal
last_legal : (s : Standing) (moves : List Move) (m : Move) → IsSound (record s { moves = moves ++ m ∷ [] }) →
    IsLegal (record s { moves = moves }) m.colour m.vertex
last_legal s moves m sound =
    subst (λ (ms : List Move). IsLegal (record s { moves = ms }) m.colour m.vertex) (take-append_seam moves (m ∷ []))
    (sound.legal (length moves) m (omega (arith, length-append moves (m ∷ []))) (get_or-append_seam moves m [] m))

-- and where it is a play, nothing of what stood before is what it left
last_novel : (s : Standing) (c : Colour) (v : Vertex) (p : Point) → v ≡ At p → IsLegal s c v →
    Contains (stood_of s) (seen_by s.rule (after_vertex s.lines (board_of s) c v, other c)) → ⊥
last_novel s c v p at legal =
    subst (λ (w : Vertex). IsLegal s c w →
    Contains (stood_of s) (seen_by s.rule (after_vertex s.lines (board_of s) c w, other c)) → ⊥) (sym at)
    (λ there. there.2) legal

module _ {start : Start} {steps : List Step} (prefix : List Step) (s : Step) {b : BoardValue} {log : List (List Change)}
    {history : HistoryValue} {black white : ℕ}
    (k : IsKeeping start steps b log history black white) (is : steps ≡ prefix ++ s ∷ []) where
  abbrev n : ℕ
  n = start.lines

  abbrev moves : List Move
  moves = map made_of prefix

  abbrev before : Colouring
  before = board n start.colours moves

  all : map made_of steps ≡ moves ++ made_of s ∷ []
  all = ap (λ (xs : List Step). map made_of xs) is ∙ made_push prefix s

  pub last : LastTurn n k.tracked.first moves (made_of s) log b.cells
  last = last_turn n k.tracked.first moves (made_of s) log b.cells
      (subst (λ (ms : List Move). WentThrough n k.tracked.first ms log b.cells) all k.tracked.went)

  own : IsPlayed n before s
  own = (played_prefix n start.colours prefix s (subst (ArePlayed n start.colours) is k.held.played)).1

  -- the last play's changes, and what they give back
  pub record LastPlay (p : Point) : Type 0 where
    pub changes : List Change
    pub split : log ≡ last.prefix ++ changes ∷ []
    pub back : rewound b.cells changes ≡ last.before
    pub names : NamesCells CELLS changes
    pub kept : IsKept n last.before

  pub last_play : (p : Point) → s.made.vertex ≡ At p → LastPlay p
  last_play p at =
      let T : Vertex → Type 0 = λ v. IsTurn n last.before s.made.colour v last.tail b.cells [] in
      let turn : T (At p) = subst T at last.turn in
      record {
        changes = turn.0;
        split = last.split ∙ ap (λ (l : List (List Change)). last.prefix ++ l) turn.1;
        back = turn.2;
        names = turn.3;
        kept = (went_kept n k.tracked.first moves last.prefix last.before k.tracked.kept last.went).0;
      }

  pub some_play : (p : Point) → s.made.vertex ≡ At p → 0 < length log
  some_play p at = let play = last_play p at in let e = ap length play.split in let l =
      length-append last.prefix (play.changes ∷ []) in omega (arith, e, l)

  pub back_play : (p : Point) → s.made.vertex ≡ At p → (earlier : List (List Change)) (changes : List Change)
      → log ≡ earlier ++ changes ∷ [] → NamesCells CELLS changes × IsKept b.lines (rewound b.cells changes)
  back_play p at earlier changes split =
      let play = last_play p at in
      let same = same_from_push _ _ _ _ (sym play.split ∙ split) in
      let R : List Change → Type 0 = λ xs. NamesCells CELLS xs × IsKept b.lines (rewound b.cells xs) in
      subst R same.1 (
        play.names,
        subst (λ (m : ℕ). IsKept m (rewound b.cells play.changes)) (sym k.tracked.lines)
            (subst (IsKept n) (sym play.back) play.kept),
      )

  grid : grid_of b ≡ after_move n before (made_of s)
  grid = grid_is k.tracked ∙ ap (λ (ms : List Move). board n start.colours ms) all
      ∙ board_push n start.colours moves (made_of s)

  -- a play's key taken out is its number taken out
  pub forgotten_put : PacksTellApart → (history' : HistoryValue) (key : Key) → bytes_of key.pack ≡ packed_of (grid_of b)
      → key.mover ≡ mover_by start.rule (other s.made.colour) → (p : Point) → s.made.vertex ≡ At p
      → (black' white' : ℕ) → IsHeld start prefix black' white' → IsChangedAt history history' key None →
      IsForgotten history history' key (length prefix + 1)
  forgotten_put law history' key packs mover p at black' white' held changed =
      let S : Standing = standing_of start prefix in
      let legal = last_legal S moves (made_of s)
      (subst (λ (ms : List Move). IsSound (record S { moves = ms })) all k.held.sound) in
      seen_only law s held is history history' key (packs ∙ ap packed_of grid) mover k.seen
      (last_novel S s.made.colour s.made.vertex p at legal) changed

  -- what the last move left was taken out of the history
  module _ (law : PacksTellApart) (history' : HistoryValue) (key : Key)
      (packs : bytes_of key.pack ≡ packed_of (grid_of b))
      (mover : key.mover ≡ mover_by start.rule (other s.made.colour))
      (forgotten : IsForgotten history history' key (length prefix + 1)) where
    seen_prefix : (black' white' : ℕ) → IsHeld start prefix black' white' →
        StandsFor (n * n) history' (stood_of (standing_of start prefix))
    seen_prefix black' white' held =
        seen_less law s held is history history' key (packs ∙ ap packed_of grid) mover k.seen forgotten

    pub keep_less_pass : s.made.vertex ≡ Pass → IsKeeping start prefix b log history' black white
    keep_less_pass pass =
        let T : Vertex → Type 0 = λ v. IsTurn n last.before s.made.colour v last.tail b.cells [] in
        let turn : T Pass = subst T pass last.turn in
        let none : (of : Colour) → share_of s.made.colour s.taken of ≡ 0 = λ of. own.taken of
        ∙ ap (λ (v : Vertex). taken_by n before s.made.colour v of) pass in
        let log_is : last.prefix ≡ log =
        sym (last.split ∙ ap (λ (l : List (List Change)). last.prefix ++ l) (sym turn.1) ∙ append-nil last.prefix) in
        let held = held_prefix prefix s black white is k.held (let z = none Black in omega (arith, z))
        (let z = none White in omega (arith, z)) in
        record {
          held = held;
          tracked = record {
            lines = k.tracked.lines;
            first = k.tracked.first;
            kept = k.tracked.kept;
            begun = k.tracked.begun;
            went = subst (λ (l : List (List Change)). WentThrough n k.tracked.first moves l b.cells) log_is
                (subst (λ (cells : List ℕ). WentThrough n k.tracked.first moves last.prefix cells) (sym turn.0)
                last.went);
          };
          seen = seen_prefix black white held;
        }

    pub keep_less_put : (p : Point) → s.made.vertex ≡ At p →
        (b' : BoardValue) (log' : List (List Change)) (black' white' ticks ticks' : ℕ)
        → ((earlier : List (List Change)) (changes : List Change) → log ≡ earlier ++ changes ∷ [] →
        IsRewound b b' log' earlier changes ticks ticks')
        → black ≡ black' + share_of s.made.colour s.taken Black → white ≡ white' + share_of s.made.colour s.taken White
        → IsKeeping start prefix b' log' history' black' white'
    keep_less_put p at b' log' black' white' ticks ticks' rewinds less_black less_white =
        let play = last_play p at in
        let put = rewinds last.prefix play.changes play.split in
        let held = held_prefix prefix s black' white' is k.held less_black less_white in
        record {
          held = held;
          tracked = record {
            lines = put.lines ∙ k.tracked.lines;
            first = k.tracked.first;
            kept = k.tracked.kept;
            begun = k.tracked.begun;
            went = subst (λ (l : List (List Change)). WentThrough n k.tracked.first moves l b'.cells) (sym put.dropped)
                (subst (λ (cells : List ℕ). WentThrough n k.tracked.first moves last.prefix cells)
                (sym (put.cells ∙ play.back)) last.went);
          };
          seen = seen_prefix black' white' held;
        }
