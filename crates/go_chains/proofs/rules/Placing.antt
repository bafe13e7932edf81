-- A play over the cells, step by step, and what it comes to in the words of the board's rules.
use Rattle.std.specs.Prelude.{slice_set}
use Rattle.go_board.specs.Laws.{ReachesByPath, JoinedByPath}
use Rattle.std.proofs.Common.{ℕ, ◌+◌, ◌*◌, ◌<◌, ◌≤◌, ◌≡◌, ◌≢◌, ◌⊎◌, ◌↔◌, inl, inr, refl, sym, ap, ◌∙◌, subst, arith, Some, List, length, slice_index}
use Rattle.std.proofs.lemmas.Bool.{cases_eq}
use Rattle.go_board.specs.declared.colour.Colour.{Colour}
use Rattle.go_board.specs.declared.colour.Colour.TheVariants.{Black, White}
use Rattle.go_board.specs.Colours.{other}
use Rattle.go_board.specs.Paths.{IsAdjacent}
use Rattle.go_board.specs.Reaching.{cleared, moved, vanished}
use Rattle.go_board.specs.Packs.{code_of, colour_coded}
use Rattle.go_chains.specs.inner.Beside.{AreBeside}
use Rattle.go_chains.specs.Cells.{code_at, label_of, size_of}
use Rattle.go_chains.specs.Playing.{stones_beside, stones_captured}
use Rattle.go_chains.specs.Sound.{IsKept}
use Rattle.go_chains.specs.Boards.{colouring_of}
use Rattle.go_chains.specs.inner.Steps.{CountsTaken, IsCapturing, IsCleared, IsConnectedTo, IsPlaced}
use Rattle.go_chains.specs.inner.Tables.{IsDead, IsStone, IsTidy, AreChainsWhole, Tables, tables_of}
use Rattle.go_chains.proofs.rules.Sound.{IsKept-tidy, alive-kept, tidy-kept, whole-kept}
use Rattle.go_chains.proofs.tables.Capturing.{IsCapturing_none}
use Rattle.go_chains.proofs.rules.Playing.{cleared_is, placed_is}
use Rattle.go_chains.proofs.tables.Playing.{cleared_other, cleared_own, colours_joined, living, other_stays, own_stays, placed_joined, two_joined, whole_joined}
use Rattle.go_board.specs.lemmas.Paths.{flip}
use Rattle.go_chains.proofs.writes.Neighbours.{inside}
use Rattle.go_chains.proofs.rules.Taking.{ring-le, vanished_is}

-- what a play begins with: a kept board, an empty point, and the numbers of the two colours
pub record Begins (n : ℕ) (old : List ℕ) (p : ℕ) (c : Colour) (own theirs : ℕ) : Type 0 where
  pub kept : IsKept n old
  pub p_in : p < n * n
  pub empty : code_at old p ≡ 0
  pub own_is : colour_coded own ≡ Some c
  pub own_range : (0 < own) × (own < 3)
  pub theirs_is : colour_coded theirs ≡ Some (other c)
  pub theirs_range : (0 < theirs) × (theirs < 3)

-- the stone is placed, and joined to its chains
pub record Joins (n : ℕ) (old placed joined : List ℕ) (p own : ℕ) (beside : List ℕ) : Type 0 where
  pub near : AreBeside n p beside
  pub occupied : IsPlaced (n * n) (IsAdjacent n) (tables_of old) (tables_of placed) p own
  pub connected : IsConnectedTo (n * n) (tables_of placed) (tables_of joined) p beside (length beside)
  pub tidy : IsTidy (n * n) (IsAdjacent n) (tables_of joined)

-- the chains beside it that have no liberty are taken off, and then its own if it has none
pub record Takes (n : ℕ) (joined captured end : List ℕ) (p own theirs : ℕ) (beside : List ℕ) : Type 0 where
  pub capturing : IsCapturing (n * n) (IsAdjacent n) (tables_of joined) (tables_of captured) theirs
  pub gone : (i : ℕ) → i < length beside → code_at joined (slice_index beside i) ≡ theirs →
      IsDead (n * n) (tables_of joined) (label_of joined (slice_index beside i)) →
      code_at captured (slice_index beside i) ≡ 0
  pub clearing : IsCapturing (n * n) (IsAdjacent n) (tables_of captured) (tables_of end) own
  pub own_gone : code_at captured p ≡ own → IsDead (n * n) (tables_of captured) (label_of captured p) →
      code_at end p ≡ 0

codes_apart : (a b : ℕ) (c : Colour) → colour_coded a ≡ Some c → colour_coded b ≡ Some (other c) → b ≢ a
codes_apart a b Black is is_other same =
    absurd (let e : colour_coded a ≡ Some White = ap colour_coded (sym same) ∙ is_other in cc)
codes_apart a b White is is_other same =
    absurd (let e : colour_coded a ≡ Some Black = ap colour_coded (sym same) ∙ is_other in cc)

module _ {n : ℕ} {old : List ℕ} {p : ℕ} {c : Colour} {own theirs : ℕ} (b : Begins n old p c own theirs) where
  pub differ : theirs ≢ own
  differ = codes_apart own theirs c b.own_is b.theirs_is

  pub two_of : (q : ℕ) → IsStone (n * n) (tables_of old) q → (code_at old q ≡ theirs) ⊎ (code_at old q ≡ own)
  two_of q stone = elim (cases_eq (code_at old q) own) [
    | inl is ↦ inr is
    | inr not ↦ inl (let some : 0 < code_at old q = stone.1 in let small : code_at old q < 3 =
        b.kept.sound.coded q stone.0 in
        let a = b.own_range.0 in let e = b.own_range.1 in let f = b.theirs_range.0 in let g = b.theirs_range.1 in
        let d = differ in omega arith)
  ]

module _ {n : ℕ} {old placed joined : List ℕ} {p : ℕ} {c : Colour} {own theirs : ℕ} {beside : List ℕ}
    (b : Begins n old p c own theirs) (j : Joins n old placed joined p own beside) where
  pub whole_of : AreChainsWhole (n * n) (IsAdjacent n) (tables_of joined)
  whole_of = whole_joined (n * n) (IsAdjacent n) (flip n) (tables_of old) (tables_of placed) (tables_of joined) p own
      theirs beside (whole-kept n old b.kept) (two_of b) j.near.all j.occupied j.connected

  pub two_then : (q : ℕ) → IsStone (n * n) (tables_of joined) q → (code_at joined q ≡ theirs) ⊎ (code_at joined q ≡ own)
  two_then = two_joined (n * n) (IsAdjacent n) (flip n) (tables_of old) (tables_of placed) (tables_of joined) p own
      theirs beside (whole-kept n old b.kept) (two_of b) j.near.all j.occupied j.connected

  pub colours_then : (q : ℕ) → q < n * n → q ≢ p → code_at joined q ≡ code_at old q
  colours_then = colours_joined (n * n) (IsAdjacent n) (flip n) (tables_of old) (tables_of placed) (tables_of joined) p
      own theirs beside (whole-kept n old b.kept) (two_of b) j.near.all j.occupied j.connected

  pub placed_then : code_at joined p ≡ own
  placed_then = placed_joined (n * n) (IsAdjacent n) (flip n) (tables_of old) (tables_of placed) (tables_of joined) p
      own theirs beside (whole-kept n old b.kept) (two_of b) j.near.all j.occupied j.connected

  pub coded_then : (q : ℕ) → q < n * n → code_at joined q < 3
  coded_then q q_in = elim (cases_eq q p) [
    | inl at ↦ (let e : code_at joined q ≡ own = ap (code_at joined) at ∙ placed_then in let h = b.own_range.1 in
        omega arith)
    | inr off ↦ (let e = colours_then q q_in off in let h = b.kept.sound.coded q q_in in omega arith)
  ]

  -- how many stones the placed one's chain has
  pub size_then : JoinedByPath → size_of joined (label_of joined p) ≤ stones_beside n (colouring_of n old) c p + 1
  size_then law = ring-le law n old joined p own c b.kept.sound.coded b.own_range.1 b.own_is b.own_range.0 j.tidy b.p_in
      placed_then (λ q q_in off is. sym (colours_then q q_in off) ∙ is)

-- a capture leaves no new colour
coded_after : (n : ℕ) (before after : List ℕ) (o : ℕ) → ((q : ℕ) → q < n * n → code_at before q < 3) →
    IsCapturing (n * n) (IsAdjacent n) (tables_of before) (tables_of after) o → (q : ℕ) → q < n * n →
    code_at after q < 3
coded_after n before after o coded capture q q_in =
    elim (capture.colours q q_in) [
      | inl same ↦ (let h = coded q q_in in omega arith)
      | inr gone ↦
          (let z : code_at after q ≡ 0 = gone.0 in omega arith)
    ]

module _ {n : ℕ} {old placed joined captured end : List ℕ} {p : ℕ} {c : Colour} {own theirs : ℕ} {beside : List ℕ}
    (b : Begins n old p c own theirs) (j : Joins n old placed joined p own beside)
    (t : Takes n joined captured end p own theirs beside) where
  whole2 : AreChainsWhole (n * n) (IsAdjacent n) (tables_of joined)
  whole2 = whole_of b j

  gone_at : (s : ℕ) → IsAdjacent n p s → code_at joined s ≡ theirs →
      IsDead (n * n) (tables_of joined) (label_of joined s) → code_at captured s ≡ 0
  gone_at s near is dead =
      let at = j.near.all s near in
      let P : ℕ → Type 0 = λ k. code_at joined k ≡ theirs → IsDead (n * n) (tables_of joined) (label_of joined k) →
      code_at captured k ≡ 0 in
      subst P at.2 (t.gone at.0 at.1) is dead

  cleared3 : IsCleared (n * n) (IsAdjacent n) (code_at joined) (code_at captured) theirs
  cleared3 = cleared_other (n * n) (IsAdjacent n) (flip n) (inside n) (tables_of old) (tables_of joined)
      (tables_of captured) (tables_of end) p own theirs b.own_range.0 b.theirs_range.0 (differ b) b.p_in b.empty
      (tidy-kept n old b.kept) (alive-kept n old b.kept) j.tidy whole2 (colours_then b j) (placed_then b j)
      (two_then b j) t.capturing gone_at t.clearing t.own_gone

  cleared4 : IsCleared (n * n) (IsAdjacent n) (code_at captured) (code_at end) own
  cleared4 = cleared_own (n * n) (IsAdjacent n) (flip n) (inside n) (tables_of old) (tables_of joined)
      (tables_of captured) (tables_of end) p own theirs b.own_range.0 b.theirs_range.0 (differ b) b.p_in b.empty
      (tidy-kept n old b.kept) (alive-kept n old b.kept) j.tidy whole2 (colours_then b j) (placed_then b j)
      (two_then b j) t.capturing gone_at t.clearing t.own_gone

  coded3 : (q : ℕ) → q < n * n → code_at captured q < 3
  coded3 = coded_after n joined captured theirs (coded_then b j) t.capturing

  coded4 : (q : ℕ) → q < n * n → code_at end q < 3
  coded4 = coded_after n captured end own coded3 t.clearing

  pub kept_end : IsKept n end
  kept_end = IsKept-tidy n end b.kept.small coded4 t.clearing.tidy t.clearing.whole
      (living (n * n) (IsAdjacent n) (flip n) (inside n) (tables_of old) (tables_of joined) (tables_of captured)
      (tables_of end) p own theirs b.own_range.0 b.theirs_range.0 (differ b) b.p_in b.empty
      (tidy-kept n old b.kept) (alive-kept n old b.kept) j.tidy whole2 (colours_then b j) (placed_then b j)
      (two_then b j) t.capturing gone_at t.clearing t.own_gone)

  colours2 : colouring_of n joined ≡ slice_set (colouring_of n old) p (Some c)
  colours2 = placed_is n old joined p own c b.p_in b.own_is (placed_then b j) (colours_then b j)

  pub moved_end : ReachesByPath → colouring_of n end ≡ moved n (colouring_of n old) c p
  unfolding moved
  moved_end law =
      cleared_is law n captured end c own coded3 b.own_range.1 b.own_is cleared4
      ∙ ap (λ g. cleared n g c) (cleared_is law n joined captured (other c) theirs (coded_then b j) b.theirs_range.1
      b.theirs_is cleared3
      ∙ ap (λ g. cleared n g (other c)) colours2)

  pub theirs_end : (taken : ℕ) → CountsTaken (n * n) (tables_of joined) (tables_of captured) theirs taken →
      taken ≡ vanished n (slice_set (colouring_of n old) p (Some c)) (colouring_of n end) (other c)
  theirs_end taken counts =
      vanished_is n joined end (other c) theirs taken (coded_then b j) coded4 b.theirs_range.1 b.theirs_is (
        counts.0,
        counts.1,
        counts.2,
        λ q. (
          λ has. (let of = (counts.3 q).0 has in (of.0, of.1, λ is. of.2 ((stays q of.0).0 is))),
          λ of. (counts.3 q).1 (of.0, of.1, λ is. of.2 ((stays q of.0).1 is)),
        ),
      )
      ∙ ap (λ g. vanished n g (colouring_of n end) (other c)) colours2
    where
      stays : (q : ℕ) → q < n * n → (code_at end q ≡ theirs) ↔ (code_at captured q ≡ theirs)
      stays = other_stays (n * n) (IsAdjacent n) (flip n) (inside n) (tables_of old) (tables_of joined)
          (tables_of captured) (tables_of end) p own theirs b.own_range.0 b.theirs_range.0 (differ b) b.p_in b.empty
          (tidy-kept n old b.kept) (alive-kept n old b.kept) j.tidy whole2 (colours_then b j) (placed_then b j)
          (two_then b j) t.capturing gone_at t.clearing t.own_gone

  own_then : (q : ℕ) → q < n * n → (code_at captured q ≡ own) ↔ (code_at joined q ≡ own)
  own_then = own_stays (n * n) (IsAdjacent n) (flip n) (inside n) (tables_of old) (tables_of joined)
      (tables_of captured) (tables_of end) p own theirs b.own_range.0 b.theirs_range.0 (differ b) b.p_in b.empty
      (tidy-kept n old b.kept) (alive-kept n old b.kept) j.tidy whole2 (colours_then b j) (placed_then b j)
      (two_then b j) t.capturing gone_at t.clearing t.own_gone

  pub own_end : (taken : ℕ) → CountsTaken (n * n) (tables_of captured) (tables_of end) own taken →
      taken ≡ vanished n (slice_set (colouring_of n old) p (Some c)) (colouring_of n end) c
  own_end taken counts =
      vanished_is n joined end c own taken (coded_then b j) coded4 b.own_range.1 b.own_is (
        counts.0,
        counts.1,
        counts.2,
        λ q. (
          λ has. (let of = (counts.3 q).0 has in (of.0, (own_then q of.0).0 of.1, of.2)),
          λ of. (counts.3 q).1 (of.0, (own_then q of.0).1 of.1, of.2),
        ),
      )
      ∙ ap (λ g. vanished n g (colouring_of n end) c) colours2

  -- the size of the placed stone's chain after the captures
  pub size_end : JoinedByPath → size_of captured (label_of captured p) ≤ stones_beside n (colouring_of n old) c p + 1
  size_end law = ring-le law n old captured p own c b.kept.sound.coded b.own_range.1 b.own_is b.own_range.0
      t.capturing.tidy b.p_in
      ((own_then p b.p_in).1 (placed_then b j))
      (λ q q_in off is. sym (colours_then b j q q_in off) ∙ (own_then q q_in).0 is)

  -- what the opponent lost, as the rules count it
  pub taken_end : ReachesByPath → (taken : ℕ) →
      taken ≡ vanished n (slice_set (colouring_of n old) p (Some c)) (colouring_of n end) (other c) →
      taken ≡ stones_captured n (colouring_of n old) c p
  taken_end law taken is = is ∙ ap (λ g. vanished n (slice_set (colouring_of n old) p (Some c)) g (other c))
      (moved_end law)

-- a colour's number stands for it
code-coded : (c : Colour) → colour_coded (code_of (Some c)) ≡ Some c
code-coded Black = refl
code-coded White = refl

module _ {n : ℕ} {old : List ℕ} {p : ℕ} {c o : Colour} {own theirs : ℕ} where
  pub begins : IsKept n old → p < n * n → code_at old p ≡ 0 → own ≡ code_of (Some c) → (0 < own) × (own < 3) →
      o ≡ other c
      → theirs ≡ code_of (Some o) → (0 < theirs) × (theirs < 3) → Begins n old p c own theirs
  begins kept p_in empty own_is own_range o_is theirs_is theirs_range = record {
    kept = kept;
    p_in = p_in;
    empty = empty;
    own_is = ap colour_coded own_is ∙ code-coded c;
    own_range = own_range;
    theirs_is = ap colour_coded theirs_is ∙ code-coded o ∙ ap Some o_is;
    theirs_range = theirs_range;
  }

module _ {n : ℕ} {old placed joined : List ℕ} {p own : ℕ} {beside : List ℕ} where
  pub joins : AreBeside n p beside → IsPlaced (n * n) (IsAdjacent n) (tables_of old) (tables_of placed) p own
      → IsConnectedTo (n * n) (tables_of placed) (tables_of joined) p beside (length beside) →
      IsTidy (n * n) (IsAdjacent n) (tables_of joined) → Joins n old placed joined p own beside
  joins near occupied connected tidy = record {
    near = near;
    occupied = occupied;
    connected = connected;
    tidy = tidy;
  }

module _ {n : ℕ} {joined captured end : List ℕ} {p own theirs : ℕ} {beside : List ℕ} where
  pub takes : IsCapturing (n * n) (IsAdjacent n) (tables_of joined) (tables_of captured) theirs
      → ((i : ℕ) → i < length beside → code_at joined (slice_index beside i) ≡ theirs →
      IsDead (n * n) (tables_of joined) (label_of joined (slice_index beside i)) →
      code_at captured (slice_index beside i) ≡ 0)
      → ((t : Tables) → IsTidy (n * n) (IsAdjacent n) t →
      IsCapturing (n * n) (IsAdjacent n) t (tables_of captured) own →
      IsCapturing (n * n) (IsAdjacent n) t (tables_of end) own)
      → (code_at captured p ≡ own → IsDead (n * n) (tables_of captured) (label_of captured p) → code_at end p ≡ 0) →
      Takes n joined captured end p own theirs beside
  takes capturing gone then own_gone = record {
    capturing = capturing;
    gone = gone;
    clearing = then (tables_of captured) capturing.tidy
        (IsCapturing_none (n * n) (IsAdjacent n) (tables_of captured) own capturing.tidy capturing.whole);
    own_gone = own_gone;
  }
