-- What a game keeps after one move more or fewer.
use Rattle.std.proofs.Common.{arith, ◌≡◌, ◌+◌, ◌*◌, ◌∙◌, ℕ, List, [], ◌∷◌, ◌++◌, length, map, refl, sym, ap, subst, Contains, None}
use Rattle.go_board.specs.Laws.{PacksTellApart}
use Rattle.go_board.specs.lemmas.Squares.{square-le}
use Rattle.std.proofs.lemmas.List.{append-nil, map-append, same_from_push}
use Rattle.go_board.specs.declared.vertex.Vertex.{Vertex}
use Rattle.std.proofs.Math.ListN.{length-map}
use Rattle.go_board.specs.declared.colour.Colour.{Colour}
use Rattle.go_board.specs.declared.colour.Colour.TheVariants.{Black, White}
use Rattle.go_board.specs.declared.point.Point.{Point}
use Rattle.go_board.specs.declared.taken.Taken.{Taken}
use Rattle.go_board.specs.declared.vertex.Move.{Move}
use Rattle.go_board.specs.declared.vertex.Vertex.TheVariants.{Pass, At}
use Rattle.go_board.specs.Colours.{Colouring, other}
use Rattle.go_board.specs.PackBytes.{bytes_of}
use Rattle.go_board.specs.Packs.{packed_of}
use Rattle.go_board.specs.Points.{number_of}
use Rattle.go_board.specs.Reaching.{moved}
use Rattle.go_chains.specs.declared.change.Change.{Change}
use Rattle.go_chains.specs.declared.cells.TheConstants.{CELLS}
use Rattle.go_chains.specs.Rewound.{IsRewound, NamesCells, PlayLogged, rewound}
use Rattle.go_chains.specs.Sound.{IsKept}
use Rattle.go_chains.specs.Boards.{BoardValue, colouring_of, grid_of}
use Rattle.go_game.specs.declared.step.Step.{Step}
use Rattle.go_game.specs.declared.superko.Superko.{Superko}
use Rattle.go_game.specs.inner.Held.{IsHeld, IsKeeping, IsPlayed, Start, made_of, standing_of}
use Rattle.go_history.specs.declared.key.Key.{Key}
use Rattle.go_history.specs.Histories.{HistoryValue, IsChangedAt, IsForgotten, IsUnchanged}
use Rattle.go_game.specs.inner.Histories.{IsNoted, StandsFor}
use Rattle.go_game.specs.Prisoners.{share_of}
use Rattle.go_game.specs.Standings.{IsLegal, Seen, Situation, after_move, after_vertex, board, mover_by, seen_by, situations, stood, stood_of}
use Rattle.go_game.specs.inner.Trails.{IsTurn, WentThrough}
use Rattle.go_game.proofs.Keeping.{grid_is}
use Rattle.go_game.proofs.Played.{held_push, length-moved, made_push}
use Rattle.go_game.proofs.Remembered.{history_kept, history_less, history_next, history_only}
use Rattle.go_game.proofs.Trails.{went_kept, went_more}

situations_push : (n : ℕ) (g : Colouring) (c : Colour) (moves : List Move) (m : Move)
    → situations n g c (moves ++ m ∷ []) ≡ situations n g c moves
    ++ (after_move n (board n g moves) m, other m.colour) ∷ []
situations_push n g c [] m = refl
situations_push n g c (x ∷ moves) m =
    ap (λ (xs : List Situation). (g, c) ∷ xs) (situations_push n (after_move n g x) (other x.colour) moves m)

pub stood_push : (rule : Superko) (n : ℕ) (g : Colouring) (c : Colour) (moves : List Move) (m : Move)
    → stood rule n g c (moves ++ m ∷ []) ≡ stood rule n g c moves
    ++ seen_by rule (after_move n (board n g moves) m, other m.colour) ∷ []
stood_push rule n g c moves m =
    ap (λ (xs : List Situation). map (seen_by rule) xs) (situations_push n g c moves m)
    ∙ map-append (seen_by rule) (situations n g c moves) ((after_move n (board n g moves) m, other m.colour) ∷ [])

length-situations : (n : ℕ) (g : Colouring) (c : Colour) (moves : List Move) →
    length (situations n g c moves) ≡ length moves + 1
length-situations n g c [] = refl
length-situations n g c (m ∷ moves) = let rest = length-situations n (after_move n g m) (other m.colour) moves in
    omega (arith, rest)

length-stood : (rule : Superko) (n : ℕ) (g : Colouring) (c : Colour) (moves : List Move) →
    length (stood rule n g c moves) ≡ length moves + 1
length-stood rule n g c moves = length-map (situations n g c moves) (seen_by rule) ∙ length-situations n g c moves

-- a turn leaves a value for each point
whole_after : (n : ℕ) (g : Colouring) (c : Colour) (v : Vertex) → length g ≡ n * n →
    length (after_vertex n g c v) ≡ n * n
whole_after n g c Pass whole = whole
whole_after n g c (At p) whole = length-moved n g c (number_of n p)

pub whole_board : (n : ℕ) (g : Colouring) (moves : List Move) → length g ≡ n * n → length (board n g moves) ≡ n * n
whole_board n g [] whole = whole
whole_board n g (m ∷ moves) whole = whole_board n (after_move n g m) moves (whole_after n g m.colour m.vertex whole)

-- the history of one step more and of one less
module _ (law : PacksTellApart) {start : Start} {steps more : List Step} (s : Step) {black white : ℕ}
    (held : IsHeld start steps black white) (is : more ≡ steps ++ s ∷ []) (old new : HistoryValue) (key : Key)
    (packs : bytes_of key.pack ≡ packed_of
    (after_move start.lines (board start.lines start.colours (map made_of steps)) (made_of s)))
    (mover : key.mover ≡ mover_by start.rule (other s.made.colour)) where
  abbrev now : Colouring
  now = board start.lines start.colours (map made_of steps)

  abbrev stood_before : List Seen
  stood_before = stood start.rule start.lines start.colours start.first (map made_of steps)

  abbrev last : Seen
  last = seen_by start.rule (after_move start.lines now (made_of s), other s.made.colour)

  all_stood : stood start.rule start.lines start.colours start.first (map made_of more) ≡ stood_before ++ last ∷ []
  all_stood = ap (stood start.rule start.lines start.colours start.first)
      (ap (λ (xs : List Step). map made_of xs) is ∙ made_push steps s)
      ∙ stood_push start.rule start.lines start.colours start.first (map made_of steps) (made_of s)

  many : length steps + 1 ≡ length stood_before
  many = sym (length-stood start.rule start.lines start.colours start.first (map made_of steps)
      ∙ ap (λ i. let j : ℕ = i + 1 in j) (length-map steps made_of))

  whole : length (after_move start.lines now (made_of s)) ≡ start.lines * start.lines
  whole = whole_after start.lines now s.made.colour s.made.vertex
      (whole_board start.lines start.colours (map made_of steps) held.sound.whole)

  pub seen_more : StandsFor (start.lines * start.lines) old (stood_of (standing_of start steps)) →
      IsNoted old new key (length steps + 1)
      → StandsFor (start.lines * start.lines) new (stood_of (standing_of start more))
  seen_more seen noted =
      subst (λ (xs : List Seen). StandsFor (start.lines * start.lines) new xs) (sym all_stood)
      (history_next law (start.lines * start.lines) (square-le start.lines held.sound.size.1) old new stood_before key
      last (length steps + 1) seen noted many (packs, mover) whole)

  pub seen_less : StandsFor (start.lines * start.lines) old (stood_of (standing_of start more)) →
      IsForgotten old new key (length steps + 1)
      → StandsFor (start.lines * start.lines) new (stood_of (standing_of start steps))
  seen_less seen forgotten =
      history_less law (start.lines * start.lines) (square-le start.lines held.sound.size.1) old new stood_before key
      last (length steps + 1)
      (subst (λ (xs : List Seen). StandsFor (start.lines * start.lines) old xs) all_stood seen) forgotten many
      (omega arith) (packs, mover) whole

  -- a move that repeats nothing has a key of its own
  pub seen_only : StandsFor (start.lines * start.lines) old (stood_of (standing_of start more)) →
      (Contains (stood_of (standing_of start steps)) last → ⊥) → IsChangedAt old new key None
      → IsForgotten old new key (length steps + 1)
  seen_only seen novel changed =
      history_only law (start.lines * start.lines) (square-le start.lines held.sound.size.1) old new stood_before key
      last (length steps + 1)
      (subst (λ (xs : List Seen). StandsFor (start.lines * start.lines) old xs) all_stood seen) changed many
      (omega arith) (packs, mover) whole novel

abbrev pub passed : Colour → Step
passed c = record { made = record { colour = c; vertex = Pass }; taken = record { theirs = 0; own = 0 } }

abbrev pub placed : Colour → Point → Taken → Step
placed c p t = record { made = record { colour = c; vertex = At p }; taken = t }

none_taken : (c of : Colour) → share_of c (record { theirs = 0; own = 0 }) of ≡ 0
none_taken Black Black = refl
none_taken Black White = refl
none_taken White Black = refl
none_taken White White = refl

-- a pass more
pub keep_pass : PacksTellApart →
    {start : Start} {steps more : List Step} (c : Colour) {b : BoardValue} {log : List (List Change)}
    {history history' : HistoryValue} {key : Key} {black white : ℕ}
    → IsKeeping start steps b log history black white → more ≡ steps ++ passed c ∷ []
    → bytes_of key.pack ≡ packed_of (grid_of b) → key.mover ≡ mover_by start.rule (other c)
    → IsNoted history history' key (length steps + 1)
    → IsKeeping start more b log history' black white
keep_pass law {start = start} {steps = steps} {more = more} c {b = b} {log = log} {history = history}
    {history' = history'} {key = key} {black = black} {white = white} k is packs mover noted =
    let moves = map made_of steps in
    let all : map made_of more ≡ moves ++ made_of (passed c) ∷ [] = ap (λ (xs : List Step). map made_of xs) is
    ∙ made_push steps (passed c) in
    let zero_black = none_taken c Black in
    let zero_white = none_taken c White in
    record {
      held = held_push (passed c) is k.held (record { playable = tt; taken = none_taken c }) tt
          (omega (arith, zero_black)) (omega (arith, zero_white));
      tracked = record {
        lines = k.tracked.lines;
        first = k.tracked.first;
        kept = k.tracked.kept;
        begun = k.tracked.begun;
        went = subst (λ (ms : List Move). WentThrough start.lines k.tracked.first ms log b.cells) (sym all)
            (subst (λ (l : List (List Change)).
            WentThrough start.lines k.tracked.first (moves ++ made_of (passed c) ∷ []) l b.cells) (append-nil log)
            (went_more start.lines k.tracked.first moves log b.cells (made_of (passed c)) [] b.cells k.tracked.went
            (refl, refl)));
      };
      seen = seen_more law (passed c) k.held is history history' key (packs ∙ ap packed_of (grid_is k.tracked)) mover
          k.seen noted;
    }

-- what a play on the board did, and what was noted of it
pub record IsPut (rule : Superko) (b b' : BoardValue) (log log' : List (List Change)) (history history' : HistoryValue)
    (key : Key) (number : ℕ) (c : Colour) (p : Point) : Type 0 where
  pub lines : b'.lines ≡ b.lines
  pub moved_to : grid_of b' ≡ moved b.lines (grid_of b) c (number_of b.lines p)
  pub most : ℕ
  pub logged : PlayLogged b b' log log' most
  pub kept : IsKept b'.lines b'.cells
  pub packs : bytes_of key.pack ≡ packed_of (grid_of b')
  pub mover : key.mover ≡ mover_by rule (other c)
  pub noted : IsNoted history history' key number

-- a play more
pub keep_put : PacksTellApart → {start : Start} {steps more : List Step} (c : Colour) (p : Point) (t : Taken)
    {b b' : BoardValue} {log log' : List (List Change)} {history history' : HistoryValue} (key : Key)
    {black white black' white' : ℕ}
    → IsKeeping start steps b log history black white → more ≡ steps ++ placed c p t ∷ []
    → IsPut start.rule b b' log log' history history' key (length steps + 1) c p
    → IsPlayed start.lines (board start.lines start.colours (map made_of steps)) (placed c p t) →
    IsLegal (standing_of start steps) c (At p)
    → black' ≡ black + share_of c t Black → white' ≡ white + share_of c t White
    → IsKeeping start more b' log' history' black' white'
keep_put law {start = start} {steps = steps} {more = more} c p t {b = b} {b' = b'} {log = log} {log' = log'}
    {history = history} {history' = history'} key {black = black} {white = white} k is put played legal more_black
    more_white =
    let n = start.lines in
    let moves = map made_of steps in
    let now = board n start.colours moves in
    let all : map made_of more ≡ moves ++ made_of (placed c p t) ∷ [] = ap (λ (xs : List Step). map made_of xs) is
    ∙ made_push steps (placed c p t) in
    let lines : b'.lines ≡ n = put.lines ∙ k.tracked.lines in
    let here = went_kept n k.tracked.first moves log b.cells k.tracked.kept k.tracked.went in
    let then_is : grid_of b' ≡ moved n now c (number_of n p) =
    put.moved_to ∙ ap (λ (m : ℕ). moved m (grid_of b) c (number_of m p)) k.tracked.lines
    ∙ ap (λ (g : Colouring). moved n g c (number_of n p)) (grid_is k.tracked) in
    let turn : IsTurn n b.cells c (At p) (put.logged.changes ∷ []) b'.cells [] = (
      put.logged.changes,
      refl,
      put.logged.back,
      put.logged.names,
      subst (λ (m : ℕ). IsKept m b'.cells) lines put.kept,
      ap (λ (m : ℕ). colouring_of m b'.cells) (sym lines) ∙ put.moved_to
          ∙ ap (λ (m : ℕ). moved m (colouring_of m b.cells) c (number_of m p)) k.tracked.lines,
    ) in
    record {
      held = held_push (placed c p t) is k.held played legal more_black more_white;
      tracked = record {
        lines = lines;
        first = k.tracked.first;
        kept = k.tracked.kept;
        begun = k.tracked.begun;
        went = subst (λ (ms : List Move). WentThrough n k.tracked.first ms log' b'.cells) (sym all)
            (subst (λ (l : List (List Change)).
            WentThrough n k.tracked.first (moves ++ made_of (placed c p t) ∷ []) l b'.cells) (sym put.logged.gained)
            (went_more n k.tracked.first moves log b.cells (made_of (placed c p t)) (put.logged.changes ∷ []) b'.cells
            k.tracked.went turn));
      };
      seen = seen_more law (placed c p t) k.held is history history' key (put.packs ∙ ap packed_of then_is) put.mover
          k.seen put.noted;
    }

-- what was just logged can be put back
pub rewinds : {start : Start} {steps : List Step} {b b' : BoardValue} {log log' : List (List Change)}
    {history : HistoryValue} {black white most : ℕ}
    → IsKeeping start steps b log history black white → b'.lines ≡ b.lines → PlayLogged b b' log log' most
    → (earlier : List (List Change)) (changes : List Change) → log' ≡ earlier ++ changes ∷ [] → NamesCells CELLS changes
    × IsKept b'.lines (rewound b'.cells changes)
rewinds {start = start} {steps = steps} {b = b} {b' = b'} {log = log} k lines logged earlier changes split =
    let last = same_from_push _ _ _ _ (sym logged.gained ∙ split) in
    let here = went_kept start.lines k.tracked.first (map made_of steps) log b.cells k.tracked.kept k.tracked.went in
    let R : List Change → Type 0 = λ xs. NamesCells CELLS xs × IsKept b'.lines (rewound b'.cells xs) in
    subst R last.1 (
      logged.names,
      subst (λ (n : ℕ). IsKept n (rewound b'.cells logged.changes))
          (sym (lines ∙ k.tracked.lines)) (subst (IsKept start.lines) (sym logged.back) here.0),
    )

-- a play that was taken back leaves what was kept
pub keep_back : {start : Start} {steps steps' : List Step} {b b' b'' : BoardValue} {log log' log'' : List (List Change)}
    {history history' : HistoryValue} {black white most ticks ticks' : ℕ}
    → IsKeeping start steps b log history black white → b'.lines ≡ b.lines → (play : PlayLogged b b' log log' most) →
    IsRewound b' b'' log'' log play.changes ticks ticks'
    → IsUnchanged history history' → steps' ≡ steps → IsKeeping start steps' b'' log'' history' black white
keep_back {start = start} {steps = steps} {b = b} {b'' = b''} {log = log} {log'' = log''} {history = history}
    {history' = history'} {black = black} {white = white} k lines play back same steps_same =
    let n = start.lines in
    let cells : b''.cells ≡ b.cells = back.cells ∙ play.back in
    subst (λ (xs : List Step). IsKeeping start xs b'' log'' history' black white) (sym steps_same) (record {
      held = k.held;
      tracked = record {
        lines = back.lines ∙ lines ∙ k.tracked.lines;
        first = k.tracked.first;
        kept = k.tracked.kept;
        begun = k.tracked.begun;
        went = subst (λ (l : List (List Change)). WentThrough n k.tracked.first (map made_of steps) l b''.cells)
            (sym back.dropped)
            (subst (WentThrough n k.tracked.first (map made_of steps) log) (sym cells) k.tracked.went);
      };
      seen = history_kept (n * n) history history' (stood_of (standing_of start steps)) same k.seen;
    })
