-- What comes of reading a tree, byte by byte and run by run.
use Rattle.std.proofs.Common.{◌≡◌, ℕ, suc, ◌==◌, not, inl, inr, List, [], ◌∷◌, ◌++◌, Bool, true, false, if◌then◌else◌, Option, Some, None, Err, length, take, drop, refl, sym, ap, ◌∙◌, arith}
use Rattle.std.proofs.lemmas.Bool.{cases_Bool, or_parts, or_cases, and_parts, not-true}
use Rattle.std.proofs.lemmas.Bool.Decides.{nat_tests}
use Rattle.std.proofs.lemmas.List.{append-nil, take-append-drop}
use Rattle.std.specs.List.{list_all, list_any}
use Rattle.go_sgf.specs.Record.{is_upper_byte, is_lower, is_letter_byte, is_inside}
use Rattle.go_sgf.specs.Spelling.{without_space, is_first, is_space}
use Rattle.go_sgf.specs.Stands.{State, StateAt, step, outside, on_space, on_open, on_close, on_semicolon, on_bracket, on_upper, on_lower, opened, in_node, low, named, gap, in_value, escape, after, closed}
use Rattle.go_sgf.specs.inner.Outcome.{outcome, outcome_on, IsWithin, here}
use Rattle.go_sgf.specs.inner.Reads.{begins_space, is_ordinary}
use Rattle.go_sgf.specs.inner.Reads.{is_letter_first}
use Rattle.go_sgf.specs.declared.error.ReadError.TheVariants.{End, Stray}
use Rattle.go_sgf.proofs.Inside.{ordinary_inside}
use Rattle.go_sgf.proofs.Scanning.{after_space_more, after_space_stop}

-- ---- steps outside of a value, by the kind of byte

pub outside_space : (s : State) (d c : ℕ) → is_space c ≡ true → outside s d c ≡ on_space s d
outside_space s d c e = rw e refl

pub outside_upper : (s : State) (d c : ℕ) → is_upper_byte c ≡ true → outside s d c ≡ on_upper s d
outside_upper s d c e =
    let a : is_space c ≡ false = grind (arith, nat_tests) in
    let b : (c == 40) ≡ false = grind (arith, nat_tests) in
    let f : (c == 41) ≡ false = grind (arith, nat_tests) in
    let g : (c == 59) ≡ false = grind (arith, nat_tests) in
    let h : (c == 91) ≡ false = grind (arith, nat_tests) in
    rw (a, b, f, g, h, e) refl

pub outside_lower : (s : State) (d c : ℕ) → is_lower c ≡ true → outside s d c ≡ on_lower s d
outside_lower s d c e =
    let a : is_space c ≡ false = grind (arith, nat_tests) in
    let b : (c == 40) ≡ false = grind (arith, nat_tests) in
    let f : (c == 41) ≡ false = grind (arith, nat_tests) in
    let g : (c == 59) ≡ false = grind (arith, nat_tests) in
    let h : (c == 91) ≡ false = grind (arith, nat_tests) in
    let k : is_upper_byte c ≡ false = grind (arith, nat_tests) in
    rw (a, b, f, g, h, k, e) refl

by_test : (b : Bool) (x y : Option StateAt) → (b ≡ true → x ≡ None) → (b ≡ false → y ≡ None) →
    (if b then x else y) ≡ None
by_test true x y p q = p refl
by_test false x y p q = q refl

-- no kind of byte fits
pub outside_none : (s : State) (d c : ℕ) → (is_space c ≡ true → on_space s d ≡ None) →
    ((c == 40) ≡ true → on_open s d ≡ None) →
    ((c == 41) ≡ true → on_close s d ≡ None) → ((c == 59) ≡ true → on_semicolon s d ≡ None) →
    ((c == 91) ≡ true → on_bracket s d ≡ None) →
    (is_upper_byte c ≡ true → on_upper s d ≡ None) → (is_lower c ≡ true → on_lower s d ≡ None) → outside s d c ≡ None
outside_none s d c space opening closing semicolon bracket upper lower =
    by_test (is_space c) _ _ space (λ _. by_test (c == 40) _ _ opening (λ _. by_test (c == 41) _ _ closing
    (λ _. by_test (c == 59) _ _ semicolon (λ _. by_test (c == 91) _ _ bracket (λ _. by_test (is_upper_byte c) _ _ upper
    (λ _. by_test (is_lower c) _ _ lower (λ _. refl)))))))

-- in a value, where a `\` may stand before
abbrev pub value_state : Bool → State
value_state true = escape
value_state false = in_value

abbrev at_depth : ℕ → State → Option StateAt
at_depth d s = Some (s, d)

inside_state : (b : Bool) → (if b then escape else in_value) ≡ value_state b
inside_state true = refl
inside_state false = refl

-- ---- one byte

module _ (limit : ℕ) where
  pub outcome_end : (s : State) (d : ℕ) → outcome limit s d [] ≡ Err End
  unfolding outcome
  outcome_end s d = refl

  pub outcome_more : (s : State) (d c : ℕ) (cs : List ℕ) →
      outcome limit s d (c ∷ cs) ≡ outcome_on limit (step s d c) (suc (length cs)) cs (λ p. outcome limit p.0 p.1 cs)
  unfolding outcome
  outcome_more s d c cs = refl

  -- a byte after which it goes on
  pub goes_on : (s : State) (d c : ℕ) (cs : List ℕ) (s' : State) (d' : ℕ) → step s d c ≡ Some (s', d') →
      IsWithin limit d' →
      outcome limit s d (c ∷ cs) ≡ outcome limit s' d' cs
  goes_on s d c cs s' d' e h =
      let shallow : (d' == suc limit) ≡ false = grind (arith, nat_tests) in
      let some : (d' == 0) ≡ false = grind (arith, nat_tests) in
      outcome_more s d c cs ∙ rw (e, shallow, some) refl

  -- a byte that nothing allows
  pub stuck : (s : State) (d c : ℕ) (cs : List ℕ) → step s d c ≡ None →
      outcome limit s d (c ∷ cs) ≡ Err (Stray (suc (length cs)))
  stuck s d c cs e = outcome_more s d c cs ∙ rw e refl

  -- two states from which a byte leads to the same place
  pub one_step : (s s' : State) (d c : ℕ) (cs : List ℕ) → step s d c ≡ step s' d c →
      outcome limit s d (c ∷ cs) ≡ outcome limit s' d (c ∷ cs)
  one_step s s' d c cs e = outcome_more s d c cs ∙ rw e (sym (outcome_more s' d c cs))

  -- ---- white space

  pub after_white : (s : State) → ((d c : ℕ) → is_space c ≡ true → step s d c ≡ Some (s, d)) → (d : ℕ) →
      IsWithin limit d →
      (b : List ℕ) → outcome limit s d b ≡ outcome limit s d (without_space b)
  after_white s keeps d h [] = refl
  after_white s keeps d h (c ∷ cs) = elim (cases_Bool (is_space c)) [
    | inl e ↦ rw (after_space_more c cs e) (goes_on s d c cs s d (keeps d c e) h ∙ after_white s keeps d h cs)
    | inr e ↦ rw (after_space_stop c cs e) refl
  ]

  pub opened_white : (d : ℕ) → IsWithin limit d → (b : List ℕ) →
      outcome limit opened d b ≡ outcome limit opened d (without_space b)
  opened_white = after_white opened (λ d c e. outside_space opened d c e)

  pub in_node_white : (d : ℕ) → IsWithin limit d → (b : List ℕ) →
      outcome limit in_node d b ≡ outcome limit in_node d (without_space b)
  in_node_white = after_white in_node (λ d c e. outside_space in_node d c e)

  pub gap_white : (d : ℕ) → IsWithin limit d → (b : List ℕ) →
      outcome limit gap d b ≡ outcome limit gap d (without_space b)
  gap_white = after_white gap (λ d c e. outside_space gap d c e)

  pub after_value_white : (d : ℕ) → IsWithin limit d → (b : List ℕ) →
      outcome limit after d b ≡ outcome limit after d (without_space b)
  after_value_white = after_white after (λ d c e. outside_space after d c e)

  pub closed_white : (d : ℕ) → IsWithin limit d → (b : List ℕ) →
      outcome limit closed d b ≡ outcome limit closed d (without_space b)
  closed_white = after_white closed (λ d c e. outside_space closed d c e)

  -- a name is whole: white space may follow
  pub named_white : (d : ℕ) → IsWithin limit d → (b : List ℕ) → is_letter_first b ≡ false →
      outcome limit named d b ≡ outcome limit gap d (without_space b)
  named_white d h [] e = outcome_end named d ∙ sym (outcome_end gap d)
  named_white d h (c ∷ cs) e = elim (cases_Bool (is_space c)) [
    | inl w ↦ rw (after_space_more c cs w) (goes_on named d c cs gap d (outside_space named d c w) h ∙ gap_white d h cs)
    | inr w ↦
        let upper : is_upper_byte c ≡ false = (or_parts (is_upper_byte c) (is_lower c) e).0 in
        let lower : is_lower c ≡ false = (or_parts (is_upper_byte c) (is_lower c) e).1 in
        rw (after_space_stop c cs w) (one_step named gap d c cs (rw (w, upper, lower) refl))
  ]

  -- ---- where states agree, and where nothing goes on

  pub gap_stops : (d : ℕ) (b : List ℕ) → begins_space b ≡ false → is_first 91 b ≡ false →
      outcome limit gap d b ≡ Err (here b)
  gap_stops d [] e f = outcome_end gap d
  gap_stops d (c ∷ cs) e f = stuck gap d c cs
      (outside_none gap d c (λ g. (cc)) (λ _. refl) (λ _. refl) (λ _. refl) (λ g. (cc)) (λ _. refl) (λ _. refl))

  pub opened_stops : (d : ℕ) (b : List ℕ) → begins_space b ≡ false → is_first 59 b ≡ false →
      outcome limit opened d b ≡ Err (here b)
  opened_stops d [] e f = outcome_end opened d
  opened_stops d (c ∷ cs) e f = stuck opened d c cs
      (outside_none opened d c (λ g. (cc)) (λ _. refl) (λ _. refl) (λ g. (cc)) (λ _. refl) (λ _. refl) (λ _. refl))

  pub low_stops : (d : ℕ) (b : List ℕ) → is_letter_first b ≡ false → outcome limit low d b ≡ Err (here b)
  low_stops d [] e = outcome_end low d
  low_stops d (c ∷ cs) e =
      let upper : is_upper_byte c ≡ false = (or_parts (is_upper_byte c) (is_lower c) e).0 in
      let lower : is_lower c ≡ false = (or_parts (is_upper_byte c) (is_lower c) e).1 in
      stuck low d c cs
      (outside_none low d c (λ _. refl) (λ _. refl) (λ _. refl) (λ _. refl) (λ _. refl) (λ g. (cc)) (λ g. (cc)))

  pub closed_stops : (d : ℕ) (b : List ℕ) → begins_space b ≡ false → is_first 40 b ≡ false → is_first 41 b ≡ false →
      outcome limit closed d b ≡ Err (here b)
  closed_stops d [] e f g = outcome_end closed d
  closed_stops d (c ∷ cs) e f g = stuck closed d c cs
      (outside_none closed d c (λ h. (cc)) (λ h. (cc)) (λ h. (cc)) (λ _. refl) (λ _. refl) (λ _. refl) (λ _. refl))

  -- after a value, where no value follows
  pub after_is_in_node : (d : ℕ) (b : List ℕ) → begins_space b ≡ false → is_first 91 b ≡ false →
      outcome limit after d b ≡ outcome limit in_node d b
  after_is_in_node d [] e f = outcome_end after d ∙ sym (outcome_end in_node d)
  after_is_in_node d (c ∷ cs) e f = one_step after in_node d c cs (rw (e, f) refl)

  -- after the last node
  pub in_node_is_closed : (d : ℕ) (b : List ℕ) → begins_space b ≡ false → is_first 59 b ≡ false →
      is_letter_first b ≡ false →
      outcome limit in_node d b ≡ outcome limit closed d b
  in_node_is_closed d [] e f g = outcome_end in_node d ∙ sym (outcome_end closed d)
  in_node_is_closed d (c ∷ cs) e f g =
      let upper : is_upper_byte c ≡ false = (or_parts (is_upper_byte c) (is_lower c) g).0 in
      let lower : is_lower c ≡ false = (or_parts (is_upper_byte c) (is_lower c) g).1 in
      one_step in_node closed d c cs (rw (e, f, upper, lower) refl)

  -- ---- names

  named_letters : (d : ℕ) → IsWithin limit d → (ds b : List ℕ) → list_all is_letter_byte ds ≡ true →
      outcome limit named d (ds ++ b) ≡ outcome limit named d b
  named_letters d h [] b e = refl
  named_letters d h (c ∷ cs) b e =
      let parts = and_parts (is_letter_byte c) (list_all is_letter_byte cs) e in
      let later = named_letters d h cs b parts.1 in
      elim (or_cases (is_upper_byte c) (is_lower c) parts.0) [
        | inl u ↦ goes_on named d c (cs ++ b) named d (outside_upper named d c u) h ∙ later
        | inr l ↦ goes_on named d c (cs ++ b) named d (outside_lower named d c l) h ∙ later
      ]

  low_name : (d : ℕ) → IsWithin limit d → (ds b : List ℕ) → list_all is_letter_byte ds ≡ true →
      list_any is_upper_byte ds ≡ true →
      outcome limit low d (ds ++ b) ≡ outcome limit named d b
  low_name d h [] b e f = cc
  low_name d h (c ∷ cs) b e f =
      let parts = and_parts (is_letter_byte c) (list_all is_letter_byte cs) e in
      elim (cases_Bool (is_upper_byte c)) [
        | inl u ↦ goes_on low d c (cs ++ b) named d (outside_upper low d c u) h ∙ named_letters d h cs b parts.1
        | inr u ↦
            let l : is_lower c ≡ true = rw u at parts.0 in
            let any : list_any is_upper_byte cs ≡ true = rw u at f in
            goes_on low d c (cs ++ b) low d (outside_lower low d c l) h ∙ low_name d h cs b parts.1 any
      ]

  low_letters : (d : ℕ) → IsWithin limit d → (ds b : List ℕ) → list_all is_letter_byte ds ≡ true →
      list_any is_upper_byte ds ≡ false →
      outcome limit low d (ds ++ b) ≡ outcome limit low d b
  low_letters d h [] b e f = refl
  low_letters d h (c ∷ cs) b e f =
      let parts = and_parts (is_letter_byte c) (list_all is_letter_byte cs) e in
      let none = or_parts (is_upper_byte c) (list_any is_upper_byte cs) f in
      let l : is_lower c ≡ true = rw none.0 at parts.0 in
      goes_on low d c (cs ++ b) low d (outside_lower low d c l) h ∙ low_letters d h cs b parts.1 none.1

  -- a first letter, in a node
  first_letter : (d c : ℕ) (cs : List ℕ) → is_letter_byte c ≡ true →
      outcome limit in_node d (c ∷ cs) ≡ outcome limit low d (c ∷ cs)
  first_letter d c cs e = one_step in_node low d c cs (elim (or_cases (is_upper_byte c) (is_lower c) e) [
    | inl u ↦ outside_upper in_node d c u ∙ sym (outside_upper low d c u)
    | inr l ↦ outside_lower in_node d c l ∙ sym (outside_lower low d c l)
  ])

  -- a name in a node
  pub name_outcome : (d : ℕ) → IsWithin limit d → (ds b : List ℕ) → list_all is_letter_byte ds ≡ true →
      list_any is_upper_byte ds ≡ true →
      outcome limit in_node d (ds ++ b) ≡ outcome limit named d b
  name_outcome d h [] b e f = cc
  name_outcome d h (c ∷ cs) b e f =
      first_letter d c (cs ++ b) ((and_parts (is_letter_byte c) (list_all is_letter_byte cs) e).0)
      ∙ low_name d h (c ∷ cs) b e f

  -- letters that are no name
  pub letters_stop : (d : ℕ) → IsWithin limit d → (ds b : List ℕ) → list_all is_letter_byte ds ≡ true →
      list_any is_upper_byte ds ≡ false →
      is_letter_first (ds ++ b) ≡ true → is_letter_first b ≡ false → outcome limit in_node d (ds ++ b) ≡ Err (here b)
  letters_stop d h [] b e f g k = cc
  letters_stop d h (c ∷ cs) b e f g k =
      first_letter d c (cs ++ b) g ∙ low_letters d h (c ∷ cs) b e f ∙ low_stops d b k

  -- ---- values

  pub value_outcome : (d : ℕ) → IsWithin limit d → (escaped : Bool) (v b : List ℕ) → is_inside escaped v ≡ true →
      outcome limit (value_state escaped) d (v ++ b) ≡ outcome limit in_value d b
  value_outcome d h true [] b e = cc
  value_outcome d h false [] b e = refl
  value_outcome d h true (c ∷ cs) b e = goes_on escape d c (cs ++ b) in_value d refl h ∙ value_outcome d h false cs b e
  value_outcome d h false (c ∷ cs) b e =
      let parts = and_parts (not (c == 93)) (is_inside (c == 92) cs) e in
      let other : (c == 93) ≡ false = not-true (c == 93) parts.0 in
      goes_on in_value d c (cs ++ b) (value_state (c == 92)) d (rw other (ap (at_depth d) (inside_state (c == 92)))) h
      ∙ value_outcome d h (c == 92) cs b parts.1

  -- a value that has no end
  pub value_ends : (d : ℕ) → IsWithin limit d → (n : ℕ) (b : List ℕ) (escaped : Bool) →
      is_inside false (take n b) ≡ true →
      outcome limit in_value d (drop n b) ≡ outcome limit (value_state escaped) d [] →
      outcome limit in_value d b ≡ Err End
  value_ends d h n b escaped v e =
      ap (outcome limit in_value d) (sym (take-append-drop n b)) ∙ value_outcome d h false (take n b) (drop n b) v ∙ e
      ∙ outcome_end (value_state escaped) d

  pub ordinary_ends : (d : ℕ) → IsWithin limit d → (n : ℕ) (b : List ℕ) → is_inside false (take n b) ≡ true →
      list_all is_ordinary (drop n b) ≡ true → outcome limit in_value d b ≡ Err End
  ordinary_ends d h n b v o = value_ends d h n b false v
      (ap (outcome limit in_value d) (sym (append-nil (drop n b)))
      ∙ value_outcome d h false (drop n b) [] (ordinary_inside (drop n b) o))

  pub escape_ends : (d : ℕ) → IsWithin limit d → (n : ℕ) (b prefix : List ℕ) → is_inside false (take n b) ≡ true →
      list_all is_ordinary prefix ≡ true → drop n b ≡ prefix ++ (92 ∷ []) → outcome limit in_value d b ≡ Err End
  escape_ends d h n b prefix v o e = value_ends d h n b true v
      (ap (outcome limit in_value d) e ∙ value_outcome d h false prefix (92 ∷ []) (ordinary_inside prefix o)
      ∙ goes_on in_value d 92 [] escape d refl h)
