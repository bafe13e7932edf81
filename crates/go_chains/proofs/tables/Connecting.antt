-- A chain that takes in those beside it, one by one.
use Rattle.std.proofs.Common.{ℕ, ◌+◌, ◌-◌, ◌<◌, ◌≤◌, ◌≡◌, inl, inr, refl, sym, ap, ◌∙◌, subst, arith, List, length, slice_index}
use Rattle.go_chains.specs.inner.Tables.{Tables, IsStone, AreChainsWhole, IsWholeBut}
use Rattle.go_chains.specs.inner.Steps.{IsJoin, IsConnected, IsConnectedTo}
use Rattle.std.proofs.lemmas.Bool.{cases_lt, cases_eq}
use Rattle.go_chains.proofs.tables.Whole.{label-join}

-- the chain beside the point goes into the point's
pub IsConnected-first : (n : ℕ) (t t' : Tables) (point near : ℕ) → IsJoin n t t' point near →
    IsConnected n t t' point near
IsConnected-first n t t' point near j = record {
  colours = j.colours;
  together = λ x y sx sy e. label-join n t t' point near x y j sx sy e;
  done = λ _. j.relabelled near j.second refl ∙ sym (j.labels point j.first j.apart);
  grows = let e = ap t'.size (j.labels point j.first j.apart) in let s = j.size_is in omega arith;
}

-- the point's chain goes into the one beside it
pub IsConnected-second : (n : ℕ) (t t' : Tables) (point near : ℕ) → IsJoin n t t' near point →
    IsConnected n t t' point near
IsConnected-second n t t' point near j = record {
  colours = j.colours;
  together = λ x y sx sy e. label-join n t t' near point x y j sx sy e;
  done = λ _. j.labels near j.first j.apart ∙ sym (j.relabelled point j.second refl);
  grows = let e = ap t'.size (j.relabelled point j.second refl) in let s = j.size_is in omega arith;
}

pub grown-second : (n : ℕ) (t t' : Tables) (point near : ℕ) → IsJoin n t t' near point →
    t.size (t.label near) ≡ t'.size (t'.label point) - t.size (t.label point)
grown-second n t t' point near j = let e = ap t'.size (j.relabelled point j.second refl) in let s = j.size_is in
    omega arith

pub IsConnectedTo_more : (n : ℕ) (t mid t' : Tables) (point : ℕ) (beside : List ℕ) (i near : ℕ) → IsStone n t point →
    ((j : ℕ) → j ≤ i → slice_index beside j < n) → near ≡ slice_index beside i
    → IsConnectedTo n t mid point beside i → IsConnected n mid t' point near → IsConnectedTo n t t' point beside (i + 1)
IsConnectedTo_more n t mid t' point beside i near stone inside near_is so_far one = record {
  colours = λ p p_in. one.colours p p_in ∙ so_far.colours p p_in;
  together = λ x y sx sy e. one.together x y (still x sx) (still y sy) (so_far.together x y sx sy e);
  done = λ j below same. elim (cases_lt j i) [
    | inl before ↦
        let x = slice_index beside j in
        let x_stone : IsStone n t x = (inside j (omega arith), let h : 0 < t.colour point = stone.1 in omega arith) in
        one.together x point (still x x_stone) (still point stone) (so_far.done j before same)
    | inr last ↦
        let is : near ≡ slice_index beside j = near_is ∙ ap (slice_index beside) (let e : i ≡ j = omega arith in e) in
        let near_in : near < n = let h = inside j (omega arith) in omega arith in
        ap t'.label (sym is) ∙ one.done
        (so_far.colours near near_in ∙ ap t.colour is ∙ same ∙ sym (so_far.colours point stone.0))
  ];
  grows = let a = so_far.grows in let b = one.grows in omega arith;
}
  where
    still : (x : ℕ) → IsStone n t x → IsStone n mid x
    still x sx = (sx.0, let e = so_far.colours x sx.0 in let h : 0 < t.colour x = sx.1 in omega arith)

-- joined to all beside it, the placed stone leaves the tables whole
pub IsWhole-connected : (n : ℕ) (adj : ℕ → ℕ → Type 0) (flip : (p q : ℕ) → adj p q → adj q p) (t t' : Tables)
    (point : ℕ) (beside : List ℕ) → IsWholeBut n adj t point
    → ((q : ℕ) → adj point q → (i : ℕ) × (i < length beside) × (slice_index beside i ≡ q)) →
    IsConnectedTo n t t' point beside (length beside) → AreChainsWhole n adj t'
IsWhole-connected n adj flip t t' point beside whole all c p q sp sq near same =
    let before : (x : ℕ) → IsStone n t' x → IsStone n t x = λ x sx.
    (sx.0, let e = c.colours x sx.0 in let h : 0 < t'.colour x = sx.1 in omega arith) in
    let same_before : t.colour p ≡ t.colour q = sym (c.colours p sp.0) ∙ same ∙ c.colours q sq.0 in
    elim (cases_eq p point) [
      | inl p_at ↦ ap t'.label p_at ∙ sym
          (to_point q (let A : ℕ → Type 0 = λ x. adj x q in subst A p_at near) (sym same_before ∙ ap t.colour p_at))
      | inr p_off ↦ elim (cases_eq q point) [
        | inl q_at ↦ to_point p (flip p point (let A : ℕ → Type 0 = λ x. adj p x in subst A q_at near))
            (same_before ∙ ap t.colour q_at) ∙ ap t'.label (sym q_at)
        | inr q_off ↦ c.together p q (before p sp) (before q sq)
            (whole p q (before p sp) (before q sq) p_off q_off near same_before)
      ]
    ]
  where
    to_point : (x : ℕ) → adj point x → t.colour x ≡ t.colour point → t'.label x ≡ t'.label point
    to_point x near_x is = let i = all x near_x in ap t'.label (sym i.2) ∙ c.done i.0 i.1 (ap t.colour i.2 ∙ is)

-- beside a stone, a point of its colour holds a stone
pub beside_stone : (n : ℕ) (t : Tables) (point near : ℕ) → IsStone n t point → near < n →
    t.colour near ≡ t.colour point → IsStone n t near
beside_stone n t point near stone near_in same = (near_in, let h : 0 < t.colour point = stone.1 in omega arith)
