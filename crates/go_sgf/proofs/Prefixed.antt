-- What cooking gives, byte by byte and by first bytes.
use Rattle.std.proofs.Common.{◌≡◌, ◌<◌, ◌≤◌, ◌+◌, ◌==◌, ◌&&◌, ◌||◌, not, inl, inr, ℕ, List, [], ◌∷◌, ◌++◌, true, false, refl, sym, ap, ◌∙◌, length, drop, get_or, append_assoc, eqb-true, arith}
use Rattle.std.proofs.lemmas.Bool.{cases_Bool, and_parts, or_parts, not-true}
use Rattle.std.proofs.lemmas.Bool.Decides.{nat_tests}
use Rattle.std.proofs.lemmas.List.{append-nil, at_drop_all, at_drop_more}
use Rattle.std.specs.List.{list_all}
use Rattle.std.specs.Option.{option_to_list}
use Rattle.go_sgf.specs.Cooked.{is_line_break, unblanked, cooked, escaped, goes_on, CookedByFront, is_kept, CookingUndoesEscaping}
use Rattle.go_sgf.specs.inner.Cooking.{cooked_from, cooked_next}
use Rattle.go_sgf.specs.declared.cooking.Mode.{Mode}
use Rattle.go_sgf.specs.declared.cooking.Mode.TheVariants.{Text, Escape, Broke}

pub cooked_end : (n : ℕ) (m : Mode) → cooked_from n m [] ≡ []
unfolding cooked_from
cooked_end n m = refl

pub cooked_more : (n : ℕ) (m : Mode) (c : ℕ) (cs : List ℕ) → cooked_from n m (c ∷ cs) ≡ option_to_list (cooked_next n m c).1
    ++ cooked_from n (cooked_next n m c).0 cs
unfolding cooked_from
cooked_more n m c cs = refl

-- one byte more of what is cooked
pub cooked_on : (n : ℕ) (m : Mode) (bytes out : List ℕ) (i : ℕ) → i < length bytes →
    (out ++ option_to_list (cooked_next n m (get_or bytes i 0)).1)
    ++ cooked_from n (cooked_next n m (get_or bytes i 0)).0 (drop (i + 1) bytes)
    ≡ out ++ cooked_from n m (drop i bytes)
cooked_on n m bytes out i less =
    let c : ℕ = get_or bytes i 0 in
    append_assoc out (option_to_list (cooked_next n m c).1) (cooked_from n (cooked_next n m c).0 (drop (i + 1) bytes))
    ∙ ap (λ xs. out ++ xs) (sym (at_drop_more (cooked_from n m) bytes i 0 less ∙ cooked_more n m c (drop (i + 1) bytes)))

-- no byte is left to cook
pub cooked_all : (n : ℕ) (m : Mode) (bytes out : List ℕ) (i : ℕ) → length bytes ≤ i → out ≡ out
    ++ cooked_from n m (drop i bytes)
cooked_all n m bytes out i h =
    sym (append-nil out) ∙ ap (λ xs. out ++ xs) (sym (at_drop_all (cooked_from n m) bytes i h ∙ cooked_end n m))

module _ (n : ℕ) where
  -- a line break that doesn't go on
  broken : (b : ℕ) (t : List ℕ) → goes_on b t ≡ false → cooked_from n (Broke b) t ≡ cooked_from n Text t
  broken b [] e = cooked_end n (Broke b) ∙ sym (cooked_end n Text)
  broken b (c ∷ cs) e = cooked_more n (Broke b) c cs ∙ rw e (sym (cooked_more n Text c cs))

  -- the second byte of a line break
  second : (b c : ℕ) (t : List ℕ) → goes_on b (c ∷ t) ≡ true → cooked_from n (Broke b) (c ∷ t) ≡ cooked_from n Text t
  second b c t e = cooked_more n (Broke b) c t ∙ rw e refl

  escape_first : (t : List ℕ) → cooked_from n Text (92 ∷ t) ≡ cooked_from n Escape t
  escape_first t = cooked_more n Text 92 t

  escape_break : (b : ℕ) (t : List ℕ) → is_line_break b ≡ true → cooked_from n Escape (b ∷ t) ≡ cooked_from n (Broke b) t
  escape_break b t e = cooked_more n Escape b t ∙ rw e refl

  escape_other : (b : ℕ) (t : List ℕ) → is_line_break b ≡ false →
      cooked_from n Escape (b ∷ t) ≡ unblanked b ∷ cooked_from n Text t
  escape_other b t e = cooked_more n Escape b t ∙ rw e refl

  break_first : (b : ℕ) (t : List ℕ) → is_line_break b ≡ true → cooked_from n Text (b ∷ t) ≡ n ∷ cooked_from n (Broke b) t
  break_first b t e =
      let other : (b == 92) ≡ false = grind (arith, nat_tests) in
      cooked_more n Text b t ∙ rw (other, e) refl

  other_first : (b : ℕ) (t : List ℕ) → (b == 92) ≡ false → is_line_break b ≡ false →
      cooked_from n Text (b ∷ t) ≡ unblanked b ∷ cooked_from n Text t
  other_first b t e f = cooked_more n Text b t ∙ rw (e, f) refl

  lone : cooked_from n Text (92 ∷ []) ≡ []
  lone = escape_first [] ∙ cooked_end n Escape

  escaped_pair : (b c : ℕ) (t : List ℕ) → is_line_break b ≡ true → goes_on b (c ∷ t) ≡ true →
      cooked_from n Text (92 ∷ b ∷ c ∷ t) ≡ cooked_from n Text t
  escaped_pair b c t e f = escape_first (b ∷ c ∷ t) ∙ escape_break b (c ∷ t) e ∙ second b c t f

  escaped_break : (b : ℕ) (t : List ℕ) → is_line_break b ≡ true → goes_on b t ≡ false →
      cooked_from n Text (92 ∷ b ∷ t) ≡ cooked_from n Text t
  escaped_break b t e f = escape_first (b ∷ t) ∙ escape_break b t e ∙ broken b t f

  escaped_other : (b : ℕ) (t : List ℕ) → is_line_break b ≡ false →
      cooked_from n Text (92 ∷ b ∷ t) ≡ unblanked b ∷ cooked_from n Text t
  escaped_other b t e = escape_first (b ∷ t) ∙ escape_other b t e

  pair : (b c : ℕ) (t : List ℕ) → is_line_break b ≡ true → goes_on b (c ∷ t) ≡ true →
      cooked_from n Text (b ∷ c ∷ t) ≡ n ∷ cooked_from n Text t
  pair b c t e f = break_first b (c ∷ t) e ∙ ap (λ xs. n ∷ xs) (second b c t f)

  single : (b : ℕ) (t : List ℕ) → is_line_break b ≡ true → goes_on b t ≡ false →
      cooked_from n Text (b ∷ t) ≡ n ∷ cooked_from n Text t
  single b t e f = break_first b t e ∙ ap (λ xs. n ∷ xs) (broken b t f)

  not_escape : (b : ℕ) → is_line_break b ≡ true → (b == 92) ≡ false
  not_escape b e = grind (arith, nat_tests)

  -- byte by byte comes to the same
  pub by_bytes : (t : List ℕ) → cooked_from n Text t ≡ cooked n t
  unfolding cooked
  by_bytes [] = cooked_end n Text
  by_bytes (a ∷ []) = elim (cases_Bool (a == 92)) [
    | inl e ↦ rw (eqb-true a 92 e) lone
    | inr e ↦ elim (cases_Bool (is_line_break a)) [
      | inl f ↦ single a [] f refl ∙ rw (e, f) (ap (λ xs. n ∷ xs) (by_bytes []))
      | inr f ↦ other_first a [] e f ∙ rw (e, f) (ap (λ xs. unblanked a ∷ xs) (by_bytes []))
    ]
  ]
  by_bytes (a ∷ b ∷ []) = elim (cases_Bool (a == 92)) [
    | inl e ↦ rw (eqb-true a 92 e) (elim (cases_Bool (is_line_break b)) [
      | inl f ↦ escaped_break b [] f refl ∙ rw f (by_bytes [])
      | inr f ↦ escaped_other b [] f ∙ rw f (ap (λ xs. unblanked b ∷ xs) (by_bytes []))
    ])
    | inr e ↦ elim (cases_Bool (is_line_break a)) [
      | inl f ↦ elim (cases_Bool (goes_on a (b ∷ []))) [
        | inl h ↦ pair a b [] f h ∙ rw (e, f, h) (ap (λ xs. n ∷ xs) (by_bytes []))
        | inr h ↦ single a (b ∷ []) f h ∙ rw (e, f, h) (ap (λ xs. n ∷ xs) (by_bytes (b ∷ [])))
      ]
      | inr f ↦ other_first a (b ∷ []) e f ∙ rw (e, f) (ap (λ xs. unblanked a ∷ xs) (by_bytes (b ∷ [])))
    ]
  ]
  by_bytes (a ∷ b ∷ c ∷ t) = elim (cases_Bool (a == 92)) [
    | inl e ↦ rw (eqb-true a 92 e) (elim (cases_Bool (is_line_break b)) [
      | inl f ↦ elim (cases_Bool (goes_on b (c ∷ t))) [
        | inl h ↦ escaped_pair b c t f h ∙ rw (f, h) (by_bytes t)
        | inr h ↦ escaped_break b (c ∷ t) f h ∙ rw (f, h) (by_bytes (c ∷ t))
      ]
      | inr f ↦ escaped_other b (c ∷ t) f ∙ rw f (ap (λ xs. unblanked b ∷ xs) (by_bytes (c ∷ t)))
    ])
    | inr e ↦ elim (cases_Bool (is_line_break a)) [
      | inl f ↦ elim (cases_Bool (goes_on a (b ∷ c ∷ t))) [
        | inl h ↦ pair a b (c ∷ t) f h ∙ rw (e, f, h) (ap (λ xs. n ∷ xs) (by_bytes (c ∷ t)))
        | inr h ↦ single a (b ∷ c ∷ t) f h ∙ rw (e, f, h) (ap (λ xs. n ∷ xs) (by_bytes (b ∷ c ∷ t)))
      ]
      | inr f ↦ other_first a (b ∷ c ∷ t) e f ∙ rw (e, f) (ap (λ xs. unblanked a ∷ xs) (by_bytes (b ∷ c ∷ t)))
    ]
  ]

  pub cooked_by_front : CookedByFront n
  cooked_by_front = record {
    empty = sym (by_bytes []) ∙ cooked_end n Text;
    lone_escape = sym (by_bytes (92 ∷ [])) ∙ lone;
    escaped_pair = λ b c t e f. sym (by_bytes (92 ∷ b ∷ c ∷ t)) ∙ escaped_pair b c t e f ∙ by_bytes t;
    escaped_break = λ b t e f. sym (by_bytes (92 ∷ b ∷ t)) ∙ escaped_break b t e f ∙ by_bytes t;
    escaped_other = λ b t e. sym (by_bytes (92 ∷ b ∷ t)) ∙ escaped_other b t e
        ∙ ap (λ xs. unblanked b ∷ xs) (by_bytes t);
    pair = λ b c t e f. sym (by_bytes (b ∷ c ∷ t)) ∙ pair b c t e f ∙ ap (λ xs. n ∷ xs) (by_bytes t);
    single = λ b t e f. sym (by_bytes (b ∷ t)) ∙ single b t e f ∙ ap (λ xs. n ∷ xs) (by_bytes t);
    other = λ b t e f. sym (by_bytes (b ∷ t)) ∙ other_first b t e f ∙ ap (λ xs. unblanked b ∷ xs) (by_bytes t);
  }

-- an escaped text doesn't go on with CR
no_return : (t : List ℕ) → list_all is_kept t ≡ true → goes_on 10 (escaped t) ≡ false
no_return [] h = refl
no_return (c ∷ cs) h = elim (cases_Bool (c == 92 || c == 93)) [
  | inl e ↦ rw e refl
  | inr e ↦
      let kept = (and_parts (is_kept c) (list_all is_kept cs) h).0 in
      let other : (c == 13) ≡ false = not-true _ (and_parts (not (c == 13)) (unblanked c == c) kept).0 in
      let no : (is_line_break c && not (c == 10)) ≡ false = grind (arith, nat_tests) in
      rw e no
]

pub cooking_undoes_escaping : CookingUndoesEscaping
cooking_undoes_escaping [] h = (cooked_by_front 10).empty
cooking_undoes_escaping (c ∷ cs) h =
    let parts = and_parts (is_kept c) (list_all is_kept cs) h in
    let kept = and_parts (not (c == 13)) (unblanked c == c) parts.0 in
    let same : unblanked c ≡ c = eqb-true (unblanked c) c kept.1 in
    let other : (c == 13) ≡ false = not-true _ kept.0 in
    let later : cooked 10 (escaped cs) ≡ cs = cooking_undoes_escaping cs parts.1 in
    let prefix : CookedByFront 10 = cooked_by_front 10 in
    elim (cases_Bool (c == 92 || c == 93)) [
      | inl e ↦
          let no : is_line_break c ≡ false = grind (arith, nat_tests) in
          rw e (prefix.escaped_other c (escaped cs) no ∙ ap (λ x. x ∷ cooked 10 (escaped cs)) same
          ∙ ap (λ xs. c ∷ xs) later)
      | inr e ↦ rw e (elim (cases_Bool (c == 10)) [
        | inl f ↦
            let is : c ≡ 10 = eqb-true c 10 f in
            let breaks : is_line_break c ≡ true = rw is refl in
            let ends : goes_on c (escaped cs) ≡ false = rw is (no_return cs parts.1) in
            prefix.single c (escaped cs) breaks ends ∙ ap (λ x. x ∷ cooked 10 (escaped cs)) (sym is)
            ∙ ap (λ xs. c ∷ xs) later
        | inr f ↦
            let plain : (c == 92) ≡ false = (or_parts (c == 92) (c == 93) e).0 in
            let no : is_line_break c ≡ false = rw (f, other) refl in
            prefix.other c (escaped cs) plain no ∙ ap (λ x. x ∷ cooked 10 (escaped cs)) same
            ∙ ap (λ xs. c ∷ xs) later
      ])
    ]
