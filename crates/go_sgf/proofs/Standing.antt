-- A fault, and the end of a tree, by what stands.
use Rattle.std.proofs.Common.{◌≡◌, ◌≢◌, ◌≤◌, ◌<◌, ◌+◌, ◌==◌, inl, inr, ℕ, zero, suc, List, [], ◌∷◌, Bool, true, false, Option, Some, None, option_and_then, Ok, Err, if◌then◌else◌, refl, sym, ap, subst, ◌∙◌, length, take, eqb-true, arith}
use Rattle.std.proofs.lemmas.Bool.{cases_Bool, eqb-false}
use Rattle.go_sgf.specs.Record.{is_upper_byte, is_lower}
use Rattle.go_sgf.specs.Spelling.{without_space, is_space}
use Rattle.go_sgf.specs.Stands.{State, StateAt, step, outside, on_space, on_open, on_close, on_semicolon, on_bracket, on_upper, on_lower, up, run, opened, in_node, low, named, gap, in_value, escape, after, closed, whole, IsUnfinished, IsAtDepth}
use Rattle.go_sgf.specs.inner.Outcome.{outcome, outcome_on, IsWithin, left_of}
use Rattle.go_sgf.specs.declared.error.ReadError.{ReadError}
use Rattle.go_sgf.specs.declared.error.ReadError.TheVariants.{Memory, End, Stray, Deep}
use Rattle.go_sgf.proofs.Machine as machine

-- ---- where a step leads

-- a place that a step may lead to: at most one deeper, and the tree is whole exactly at depth 0
pub record Leads (d : ℕ) (p : StateAt) : Type 0 where
  pub deep : p.1 ≤ suc d
  pub some : 1 ≤ p.1 → p.0 ≢ whole
  pub all : p.1 ≡ 0 → p.0 ≡ whole

abbrev pub MayLead : ℕ → Option StateAt → Type 0
MayLead d None = Unit {0}
MayLead d (Some p) = Leads d p

-- a state of a tree that isn't whole
inner : (s : State) (d k : ℕ) → s ≢ whole → 1 ≤ k → k ≤ suc d → Leads d (s, k)
inner s d k ne some deep = record { deep = deep; some = λ _. ne; all = λ e. absurd (omega arith) }

up_leads : (d : ℕ) → Leads d (up d)
up_leads zero = record { deep = omega arith; some = λ h. absurd (omega arith); all = λ _. refl }
up_leads (suc zero) = record { deep = omega arith; some = λ h. absurd (omega arith); all = λ _. refl }
up_leads (suc (suc d)) = inner closed (suc (suc d)) (suc d) (λ e. cc) (omega arith) (omega arith)

module _ (d : ℕ) (h : 1 ≤ d) where
  on_space_leads : (s : State) → MayLead d (on_space s d)
  on_space_leads opened = inner opened d d (λ e. cc) h (omega arith)
  on_space_leads in_node = inner in_node d d (λ e. cc) h (omega arith)
  on_space_leads named = inner gap d d (λ e. cc) h (omega arith)
  on_space_leads gap = inner gap d d (λ e. cc) h (omega arith)
  on_space_leads after = inner after d d (λ e. cc) h (omega arith)
  on_space_leads closed = inner closed d d (λ e. cc) h (omega arith)
  on_space_leads _ = tt

  on_open_leads : (s : State) → MayLead d (on_open s d)
  on_open_leads in_node = inner opened d (suc d) (λ e. cc) (omega arith) (omega arith)
  on_open_leads after = inner opened d (suc d) (λ e. cc) (omega arith) (omega arith)
  on_open_leads closed = inner opened d (suc d) (λ e. cc) (omega arith) (omega arith)
  on_open_leads _ = tt

  on_close_leads : (s : State) → MayLead d (on_close s d)
  on_close_leads in_node = up_leads d
  on_close_leads after = up_leads d
  on_close_leads closed = up_leads d
  on_close_leads _ = tt

  on_semicolon_leads : (s : State) → MayLead d (on_semicolon s d)
  on_semicolon_leads opened = inner in_node d d (λ e. cc) h (omega arith)
  on_semicolon_leads in_node = inner in_node d d (λ e. cc) h (omega arith)
  on_semicolon_leads after = inner in_node d d (λ e. cc) h (omega arith)
  on_semicolon_leads _ = tt

  on_bracket_leads : (s : State) → MayLead d (on_bracket s d)
  on_bracket_leads named = inner in_value d d (λ e. cc) h (omega arith)
  on_bracket_leads gap = inner in_value d d (λ e. cc) h (omega arith)
  on_bracket_leads after = inner in_value d d (λ e. cc) h (omega arith)
  on_bracket_leads _ = tt

  on_upper_leads : (s : State) → MayLead d (on_upper s d)
  on_upper_leads in_node = inner named d d (λ e. cc) h (omega arith)
  on_upper_leads after = inner named d d (λ e. cc) h (omega arith)
  on_upper_leads low = inner named d d (λ e. cc) h (omega arith)
  on_upper_leads named = inner named d d (λ e. cc) h (omega arith)
  on_upper_leads _ = tt

  on_lower_leads : (s : State) → MayLead d (on_lower s d)
  on_lower_leads in_node = inner low d d (λ e. cc) h (omega arith)
  on_lower_leads after = inner low d d (λ e. cc) h (omega arith)
  on_lower_leads low = inner low d d (λ e. cc) h (omega arith)
  on_lower_leads named = inner named d d (λ e. cc) h (omega arith)
  on_lower_leads _ = tt

  either : (b : Bool) (x y : Option StateAt) → MayLead d x → MayLead d y → MayLead d (if b then x else y)
  either true x y p q = p
  either false x y p q = q

  outside_leads : (s : State) (c : ℕ) → MayLead d (outside s d c)
  outside_leads s c =
      either (is_space c) _ _ (on_space_leads s)
      (either (c == 40) _ _ (on_open_leads s) (either (c == 41) _ _ (on_close_leads s)
      (either (c == 59) _ _ (on_semicolon_leads s)
      (either (c == 91) _ _ (on_bracket_leads s) (either (is_upper_byte c) _ _ (on_upper_leads s)
      (either (is_lower c) _ _ (on_lower_leads s) tt))))))

  inside_other : (b e : Bool) → (if b then after else (if e then escape else in_value)) ≢ whole
  inside_other true e h = cc
  inside_other false true h = cc
  inside_other false false h = cc

  pub step_leads : (s : State) (c : ℕ) → MayLead d (step s d c)
  step_leads in_value c = inner _ d d (inside_other (c == 93) (c == 92)) h (omega arith)
  step_leads escape c = inner in_value d d (λ e. cc) h (omega arith)
  step_leads whole c = tt
  step_leads opened c = outside_leads opened c
  step_leads in_node c = outside_leads in_node c
  step_leads low c = outside_leads low c
  step_leads named c = outside_leads named c
  step_leads gap c = outside_leads gap c
  step_leads after c = outside_leads after c
  step_leads closed c = outside_leads closed c

-- ---- a fault

-- why it stops at a place, by this fault
abbrev pub Why : ℕ → ReadError → State → ℕ → List ℕ → ℕ → Type 0
Why limit Memory s d b at = ⊥
Why limit End s d b at = at ≡ length b
Why limit (Stray n) s d b at = (at < length b) × ((k : ℕ) → at < k → run s d (take k b) ≡ None)
Why limit (Deep n) s d b at = (at < length b) × IsAtDepth (suc limit) (run s d (take (at + 1) b))

-- from a state on the bytes stand up to a place, where this fault is
pub record FaultIs (limit : ℕ) (s : State) (d : ℕ) (b : List ℕ) (f : ReadError) : Type 0 where
  pub at : ℕ
  pub left : at + left_of f ≡ length b
  pub unfinished : IsUnfinished (run s d (take at b))
  pub shallow : (k : ℕ) → k ≤ at → IsAtDepth (suc limit) (run s d (take k b)) → ⊥
  pub stops : Why limit f s d b at

module _ (limit : ℕ) where
  no_bytes : (k : ℕ) → take k (let xs : List ℕ = [] in xs) ≡ []
  no_bytes zero = refl
  no_bytes (suc k) = refl

  fault_end : (s : State) (d : ℕ) (f : ReadError) → s ≢ whole → d ≤ limit → End ≡ f → FaultIs limit s d [] f
  fault_end s d f ne deep e =
      let P : ReadError → Type 0 = λ x. FaultIs limit s d [] x in
      subst P e (record {
        at = 0;
        left = refl;
        unfinished = ne;
        shallow = λ k less h. let at_depth : d ≡ suc limit = rw (no_bytes k) at h in omega arith;
        stops = refl;
      })

  -- nothing stands past the first byte
  stuck_past : (s : State) (d c : ℕ) (cs : List ℕ) → step s d c ≡ None → (k : ℕ) → 0 < k →
      run s d (take k (c ∷ cs)) ≡ None
  stuck_past s d c cs e zero less = absurd (omega arith)
  stuck_past s d c cs e (suc k) less = rw e refl

  at_start : (s : State) (d : ℕ) (b : List ℕ) → d ≤ limit → (k : ℕ) → k ≤ 0 →
      IsAtDepth (suc limit) (run s d (take k b)) → ⊥
  at_start s d b deep zero less h = omega arith
  at_start s d b deep (suc k) less h = omega arith

  fault_here : (s : State) (d c : ℕ) (cs : List ℕ) (f : ReadError) → s ≢ whole → d ≤ limit → step s d c ≡ None →
      Stray (suc (length cs)) ≡ f → FaultIs limit s d (c ∷ cs) f
  fault_here s d c cs f ne deep step_is e =
      let P : ReadError → Type 0 = λ x. FaultIs limit s d (c ∷ cs) x in
      subst P e (record {
        at = 0;
        left = omega arith;
        unfinished = ne;
        shallow = at_start s d (c ∷ cs) deep;
        stops = (omega arith, stuck_past s d c cs step_is);
      })

  fault_deep : (s : State) (d c : ℕ) (cs : List ℕ) (f : ReadError) (p : StateAt) → s ≢ whole → d ≤ limit →
      step s d c ≡ Some p → p.1 ≡ suc limit →
      Deep (suc (length cs)) ≡ f → FaultIs limit s d (c ∷ cs) f
  fault_deep s d c cs f p ne deep step_is at_limit e =
      let P : ReadError → Type 0 = λ x. FaultIs limit s d (c ∷ cs) x in
      let Q : Option StateAt → Type 0 = λ o. IsAtDepth (suc limit) (option_and_then (λ q. run q.0 q.1 []) o) in
      subst P e (record {
        at = 0;
        left = omega arith;
        unfinished = ne;
        shallow = at_start s d (c ∷ cs) deep;
        stops = (omega arith, subst Q (sym step_is) at_limit);
      })

  -- a fault further on
  pub run_more : (s : State) (d c : ℕ) (b : List ℕ) (p : StateAt) → step s d c ≡ Some p →
      run s d (c ∷ b) ≡ run p.0 p.1 b
  run_more s d c b p e = rw e refl

  why_later : (s : State) (d c : ℕ) (cs : List ℕ) (p : StateAt) (f : ReadError) (at : ℕ) → step s d c ≡ Some p →
      Why limit f p.0 p.1 cs at → Why limit f s d (c ∷ cs) (suc at)
  why_later s d c cs p Memory at e w = w
  why_later s d c cs p End at e w = ap suc w
  why_later s d c cs p (Stray n) at e w = (omega arith, later)
    where
      later : (k : ℕ) → suc at < k → run s d (take k (c ∷ cs)) ≡ None
      later zero less = absurd (omega arith)
      later (suc k) less = run_more s d c (take k cs) p e ∙ w.1 k (omega arith)
  why_later s d c cs p (Deep n) at e w =
      let Q : Option StateAt → Type 0 = λ o. IsAtDepth (suc limit) o in
      let R : ℕ → Type 0 = λ k. IsAtDepth (suc limit) (run s d (take k (c ∷ cs))) in
      let deep : IsAtDepth (suc limit) (run s d (take (suc (at + 1)) (c ∷ cs))) =
      subst Q (sym (run_more s d c (take (at + 1) cs) p e)) w.1 in
      let same : suc (at + 1) ≡ suc at + 1 = omega arith in
      (omega arith, subst R same deep)

  fault_later : (s : State) (d c : ℕ) (cs : List ℕ) (f : ReadError) (p : StateAt) → d ≤ limit → step s d c ≡ Some p →
      FaultIs limit p.0 p.1 cs f → FaultIs limit s d (c ∷ cs) f
  fault_later s d c cs f p deep e i = record {
    at = suc i.at;
    left = let h = i.left in omega arith;
    unfinished = rw (run_more s d c (take i.at cs) p e) i.unfinished;
    shallow = shallow;
    stops = why_later s d c cs p f i.at e i.stops;
  }
    where
      shallow : (k : ℕ) → k ≤ suc i.at → IsAtDepth (suc limit) (run s d (take k (c ∷ cs))) → ⊥
      shallow zero less h = omega arith
      shallow (suc k) less h = i.shallow k (omega arith) (rw (run_more s d c (take k cs) p e) at h)

  by_step : (s : State) (d c : ℕ) (cs : List ℕ) (f : ReadError) → s ≢ whole → IsWithin limit d → (o : Option StateAt) →
      step s d c ≡ o → MayLead d o →
      outcome_on limit o (suc (length cs)) cs (λ p. outcome limit p.0 p.1 cs) ≡ Err f →
      ((s' : State) (d' : ℕ) → s' ≢ whole → IsWithin limit d' → outcome limit s' d' cs ≡ Err f →
      FaultIs limit s' d' cs f) →
      FaultIs limit s d (c ∷ cs) f
  by_step s d c cs f ne h None step_is leads e later = fault_here s d c cs f ne h.1 step_is (cc)
  by_step s d c cs f ne h (Some p) step_is leads e later = elim (cases_Bool (p.1 == suc limit)) [
    | inl deep ↦
        let e' : Err (Deep (suc (length cs))) ≡ Err f = rw deep at e in
        fault_deep s d c cs f p ne h.1 step_is (eqb-true p.1 (suc limit) deep) (cc)
    | inr shallow ↦ elim (cases_Bool (p.1 == 0)) [
      | inl end ↦ let e' : Ok (without_space cs) ≡ Err f = rw (shallow, end) at e in cc
      | inr some ↦
          let e' : outcome limit p.0 p.1 cs ≡ Err f = rw (shallow, some) at e in
          let above : p.1 ≢ 0 = eqb-false p.1 0 some in
          let below : p.1 ≢ suc limit = eqb-false p.1 (suc limit) shallow in
          let at_least : 1 ≤ p.1 = omega arith in
          let at_most : p.1 ≤ limit = omega arith in
          fault_later s d c cs f p h.1 step_is (later p.0 p.1 (leads.some at_least) (at_least, at_most) e')
    ]
  ]

  pub fault_is : (b : List ℕ) (s : State) (d : ℕ) (f : ReadError) → s ≢ whole → IsWithin limit d →
      outcome limit s d b ≡ Err f → FaultIs limit s d b f
  fault_is [] s d f ne h e =
      let same : Err End ≡ Err f = sym (machine.outcome_end limit s d) ∙ e in
      fault_end s d f ne h.1 (cc)
  fault_is (c ∷ cs) s d f ne h e =
      by_step s d c cs f ne h (step s d c) refl (step_leads d h.0 s c) (sym (machine.outcome_more limit s d c cs) ∙ e)
      (λ s' d' ne' h' e'. fault_is cs s' d' f ne' h' e')
