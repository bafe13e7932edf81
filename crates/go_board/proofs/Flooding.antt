-- The flood as a whole: what holds at each turn of it, and when nothing waits.
use Rattle.std.proofs.Common.{arith, ◌≡◌, ◌<◌, ◌*◌, ◌↔◌, Bool, inl, inr, ◌⊎◌, ℕ, List, [], ◌∷◌, ◌++◌, Contains, length, refl, sym, subst}
use Rattle.std.proofs.lemmas.List.Elements.{Contains-append_left, Contains-push, Contains-push_cases}
use Rattle.go_board.specs.Colours.{Colouring}
use Rattle.go_board.specs.Paths.{Leads}
use Rattle.go_board.specs.inner.Flood.{Grows, HasRoom, IsJoinedTo, IsMarked, IsStep}

-- what holds at each turn: the marked points are joined to the first ones, and those that wait are
-- the only ones whose steps may lead to points that aren't marked
pub record IsFlood (n : ℕ) (g : Colouring) (seeds marks : List Bool) (waiting : List ℕ) : Type 0 where
  pub sound : (j : ℕ) → IsMarked marks j → IsJoinedTo n g seeds j
  pub seeded : (j : ℕ) → IsMarked seeds j → IsMarked marks j
  pub on : (j : ℕ) → IsMarked marks j → j < n * n
  pub marked : (j : ℕ) → Contains waiting j → IsMarked marks j
  pub closed : (j : ℕ) → IsMarked marks j → Contains waiting j ⊎ ((q : ℕ) → IsStep n g j q → IsMarked marks q)
  pub room : HasRoom marks waiting

-- a path with one more step
pub leads_more : (n : ℕ) (g : Colouring) (p : ℕ) (path : List ℕ) (q r : ℕ) → Leads n g p path q → IsStep n g q r →
    Leads n g p (path ++ r ∷ []) r
leads_more n g p [] q r here step = let from : IsStep n g p r = subst (λ (m : ℕ). IsStep n g m r) (sym here) step in
    (from.0, from.1, refl)
leads_more n g p (s ∷ path) q r h step = (h.0, h.1, leads_more n g s path q r h.2 step)

joined_more : (n : ℕ) (g : Colouring) (seeds : List Bool) (p q : ℕ) → IsJoinedTo n g seeds p → IsStep n g p q →
    IsJoinedTo n g seeds q
joined_more n g seeds p q h step = (h.0, h.1, (h.2.0 ++ q ∷ [], leads_more n g h.0 h.2.0 p q h.2.1 step))

-- the last that waits is on the board, and without it there is still room
pub last_on : (n : ℕ) (g : Colouring) (seeds marks : List Bool) (waiting prefix : List ℕ) (p : ℕ) → waiting ≡ prefix
    ++ p ∷ [] → IsFlood n g seeds marks waiting → p < n * n
last_on n g seeds marks waiting prefix p is flood = flood.on p (flood.marked p (rw is (Contains-push prefix p)))

-- one turn: the last that waits is taken, and its steps lead to marked points
pub flood_more : (n : ℕ) (g : Colouring) (seeds marks : List Bool) (waiting prefix : List ℕ) (p : ℕ) (marks' : List Bool)
    (waiting' : List ℕ)
    → waiting ≡ prefix ++ p ∷ [] → IsFlood n g seeds marks waiting
    → Grows (IsStep n g p) marks prefix marks' waiting' → ((j : ℕ) → IsStep n g p j → IsMarked marks' j)
    → IsFlood n g seeds marks' waiting'
flood_more n g seeds marks waiting prefix p marks' waiting' is flood grows done =
    let p_marked : IsMarked marks p = flood.marked p (rw is (Contains-push prefix p)) in
    let prefix_marked : (j : ℕ) → Contains prefix j → IsMarked marks j = λ j w.
    flood.marked j (rw is (Contains-append_left prefix (p ∷ []) j w)) in
    record {
      sound = λ j m. elim (grows.only j m) [
        | inl before ↦ flood.sound j before
        | inr new ↦ joined_more n g seeds p j (flood.sound p p_marked) new.0
      ];
      seeded = λ j m. grows.kept j (flood.seeded j m);
      on = λ j m. elim (grows.only j m) [ inl before ↦ flood.on j before | inr new ↦ new.0.0.1 ];
      marked = λ j w. elim (grows.waiting_only j w) [ inl before ↦ grows.kept j (prefix_marked j before) | inr m ↦ m ];
      closed = λ j m. elim (grows.only j m) [
        | inl before ↦ elim (flood.closed j before) [
          | inl waits ↦ elim (Contains-push_cases prefix p j (rw is at waits)) [
            | inl still ↦ inl (grows.waits j still)
            | inr taken ↦ inr (λ q step. done q (subst (λ (k : ℕ). IsStep n g k q) (sym taken) step))
          ]
          | inr steps ↦ inr (λ q step. grows.kept q (steps q step))
        ]
        | inr new ↦ inl new.1
      ];
      room = grows.room;
    }

-- what each step keeps, each path keeps
pub closed_under_paths : (n : ℕ) (g : Colouring) (marks : List Bool) →
    ((j q : ℕ) → IsMarked marks j → IsStep n g j q → IsMarked marks q)
    → (p : ℕ) (path : List ℕ) (q : ℕ) → Leads n g p path q → IsMarked marks p → IsMarked marks q
closed_under_paths n g marks closed p [] q here m = subst (IsMarked marks) here m
closed_under_paths n g marks closed p (r ∷ path) q h m =
    closed_under_paths n g marks closed r path q h.2 (closed p r m (h.0, h.1))

pub flood_done : (n : ℕ) (g : Colouring) (seeds marks : List Bool) (waiting : List ℕ) → (0 < length waiting → ⊥) →
    IsFlood n g seeds marks waiting → (j : ℕ) → IsMarked marks j ↔ IsJoinedTo n g seeds j
flood_done n g seeds marks waiting none flood j = (
  flood.sound j,
  λ h. closed_under_paths n g marks (λ k q m step. elim (flood.closed k m) [
    | inl waits ↦ absurd (none (let low : waits.0 < length waiting = waits.1 in omega arith))
    | inr steps ↦ steps q step
  ]) h.0 h.2.0 j h.2.1 (flood.seeded h.0 h.1),
)
