-- What putting changes back does, one stretch of changes after another and play by play.
use Rattle.std.proofs.Common.{◌+◌, ◌++◌, ◌<◌, ◌∷◌, ◌≡◌, ◌≤◌, List, [], drop, length, slice_index, slice_set, take, ℕ, refl, sym, ap, ◌∙◌, subst, arith, rules, append_assoc, length-append, suc, ◌-◌, get_or}
use Rattle.std.proofs.Math.Seq.{drop-append_seam, take-append_seam}
use Rattle.std.proofs.lemmas.List.{get_or-drop, take-append-drop, take_all, take-append-le, drop-append-le, length-drop, length-take-le, same_from_push}
use Rattle.go_chains.specs.Rewound.{NamesCells, PlayLogged, Played, all_rewound, plays_of, rewound, total, undone}
use Rattle.go_chains.specs.inner.Edits.{Logged}
use Rattle.std.proofs.lemmas.List.Elements.{All-append}
use Rattle.go_chains.specs.declared.cells.TheConstants.{CELLS}
use Rattle.go_chains.specs.declared.change.Change.{Change}
use Rattle.go_chains.specs.Cells.{CellsValue}
use Rattle.go_chains.specs.Boards.{BoardValue}

-- of two lists of changes the second is put back first
pub rewound-append : (cells : List ℕ) (xs ys : List Change) → rewound cells (xs ++ ys) ≡ rewound (rewound cells ys) xs
rewound-append cells [] ys = refl
rewound-append cells (x ∷ xs) ys = ap (λ numbers. slice_set numbers x.place x.old) (rewound-append cells xs ys)

-- one stretch of logged writes after another
pub Logged_then : (a b c : CellsValue) (xs ys zs : List Change) (j k most : ℕ) → Logged a b xs ys j →
    Logged b c ys zs k → j + k ≤ most → Logged a c xs zs most
Logged_then a b c xs ys zs j k most first second within = record {
  added = first.added ++ second.added;
  grown = second.grown ∙ ap (λ l. l ++ second.added) first.grown ∙ append_assoc xs first.added second.added;
  traced = second.traced ∙ ap (λ l. l ++ second.added) first.traced ∙ append_assoc a.trace first.added second.added;
  back = rewound-append c.numbers first.added second.added ∙ ap (λ cells. rewound cells first.added) second.back
      ∙ first.back;
  few = let f = first.few in let s = second.few in omega (arith, length-append first.added second.added);
  names = All-append (λ change. change.place < CELLS) first.added second.added first.names second.names;
}

-- no write
pub Logged_none : (a : CellsValue) (xs : List Change) → Logged a a xs xs 0
Logged_none a xs = record {
  added = [];
  grown = search rules;
  traced = search rules;
  back = refl;
  few = omega arith;
  names = λ i d below. absurd (omega arith);
}

pub length-plays_of : (lengths : List ℕ) (changes : List Change) → length (plays_of lengths changes) ≡ length lengths
length-plays_of [] changes = refl
length-plays_of (n ∷ lengths) changes = ap (λ k. suc k) (length-plays_of lengths (drop n changes))

-- all plays put back, from the last to the first, give the first cells
pub all_rewound-played : (first last : List ℕ) (plays : List (List Change)) → Played first plays last →
    all_rewound last plays ≡ first
all_rewound-played first last [] played = sym played
all_rewound-played first last (changes ∷ plays) played =
    ap (λ cells. rewound cells changes) (all_rewound-played played.0 last plays played.2) ∙ played.1

pub total-append : (xs ys : List ℕ) → total (xs ++ ys) ≡ total xs + total ys
total-append [] ys = omega arith
total-append (x ∷ xs) ys = omega (arith, total-append xs ys)

-- one play more at the end
pub plays_of-append : (lengths : List ℕ) (changes added : List Change) → total lengths ≡ length changes
    → plays_of (lengths ++ length added ∷ []) (changes ++ added) ≡ plays_of lengths changes ++ added ∷ []
plays_of-append [] [] added whole = ap (λ x. x ∷ []) (take_all (length added) added (omega arith))
plays_of-append [] (x ∷ xs) added whole = absurd (omega arith)
plays_of-append (n ∷ lengths) changes added whole =
    let fits : n ≤ length changes = omega arith in
    let rest : total lengths ≡ length (drop n changes) = omega (arith, length-drop n changes) in
    rw (take-append-le n changes added fits, drop-append-le n changes added fits)
    (ap (λ plays. take n changes ∷ plays) (plays_of-append lengths (drop n changes) added rest))

-- what the last play of a log is, by the last length
pub last_play : (lengths : List ℕ) (count : ℕ) (prefix tail : List Change) (earlier : List (List Change))
    (changes : List Change)
    → total (lengths ++ count ∷ []) ≡ length (prefix ++ tail) → length tail ≡ count
    → plays_of (lengths ++ count ∷ []) (prefix ++ tail) ≡ earlier ++ changes ∷ []
    → (plays_of lengths prefix ≡ earlier) × (tail ≡ changes)
last_play lengths count prefix tail earlier changes whole as_long split =
    let whole' : total lengths ≡ length prefix =
    omega (arith, total-append lengths (count ∷ []), length-append prefix tail) in
    let e : plays_of (lengths ++ count ∷ []) (prefix ++ tail) ≡ plays_of lengths prefix ++ tail ∷ [] =
    rw (← as_long) (plays_of-append lengths prefix tail whole') in
    same_from_push _ _ _ _ (sym e ∙ split)

-- the log gains the stretch of changes as one play
pub one_gained : (old new : CellsValue) (before after : List Change) (lengths lengths' : List ℕ)
    (log : List (List Change)) (most : ℕ)
    → total lengths ≡ length before → plays_of lengths before ≡ log → (logged : Logged old new before after most)
    → lengths' ≡ lengths ++ (length after - length before) ∷ [] → plays_of lengths' after ≡ log ++ logged.added ∷ []
one_gained old new before after lengths lengths' log most whole is logged longer =
    let size : length after - length before ≡ length logged.added =
    omega (arith, ap length logged.grown, length-append before logged.added) in
    ap (λ l. plays_of l after) (longer ∙ ap (λ n. lengths ++ n ∷ []) size)
    ∙ ap (λ l. plays_of (lengths ++ length logged.added ∷ []) l) logged.grown
    ∙ plays_of-append lengths before logged.added whole ∙ ap (λ l. l ++ logged.added ∷ []) is

-- what contracts see of a board of this size with these cells
abbrev pub board_with : ℕ → CellsValue → BoardValue
board_with n cells = record { lines = n; cells = cells.numbers; trace = cells.trace }

pub play_gained : (n n' : ℕ) (old new : CellsValue) (before after : List Change) (lengths lengths' : List ℕ)
    (log : List (List Change)) (most : ℕ)
    → total lengths ≡ length before → plays_of lengths before ≡ log → Logged old new before after most
    → lengths' ≡ lengths ++ (length after - length before) ∷ [] →
    PlayLogged (board_with n old) (board_with n' new) log (plays_of lengths' after) most
play_gained n n' old new before after lengths lengths' log most whole is logged longer = record {
  changes = logged.added;
  gained = one_gained old new before after lengths lengths' log most whole is logged longer;
  traced = logged.traced;
  back = logged.back;
  few = logged.few;
  names = logged.names;
}

-- the lengths still add up to the changes
pub total_gained : (old new : CellsValue) (before after : List Change) (lengths lengths' : List ℕ) (most : ℕ)
    → total lengths ≡ length before → Logged old new before after most
    → lengths' ≡ lengths ++ (length after - length before) ∷ [] → total lengths' ≡ length after
total_gained old new before after lengths lengths' most whole logged longer =
    omega (
      arith,
      ap total longer,
      total-append lengths ((length after - length before) ∷ []),
      ap length logged.grown,
      length-append before logged.added,
    )

-- what one push on the lengths makes of a log: it has one play more, of the changes since, and is whole
pub record IsClosed (old new : BoardValue) (before after : List Change) (lengths : List ℕ) (log : List (List Change))
    (most : ℕ) : Type 0 where
  pub logged : PlayLogged old new log (plays_of lengths after) most
  pub whole : total lengths ≡ length after
  pub size : (changes : List Change) → plays_of lengths after ≡ log ++ changes ∷ [] →
      length before + length changes ≡ length after

pub closed : (n n' : ℕ) (old new : CellsValue) (before before' after : List Change)
    (lengths lengths' lengths'' : List ℕ) (log : List (List Change)) (most count : ℕ)
    → total lengths ≡ length before → plays_of lengths before ≡ log → before' ≡ before → lengths' ≡ lengths
    → Logged old new before' after most → count ≡ length after - length before' → lengths'' ≡ lengths' ++ count ∷ [] →
    IsClosed (board_with n old) (board_with n' new) before' after lengths'' log most
closed n n' old new before before' after lengths lengths' lengths'' log most count whole is same same_lengths logged
    counted longer =
    let from_start : Logged old new before after most =
    subst (λ (changes : List Change). Logged old new changes after most) same logged in
    let count_is : count ≡ length after - length before = omega (arith, ap length same) in
    let longer_is : lengths'' ≡ lengths ++ (length after - length before) ∷ [] = longer
    ∙ ap (λ l. l ++ count ∷ []) same_lengths ∙ ap (λ k. lengths ++ k ∷ []) count_is in
    record {
      logged = play_gained n n' old new before after lengths lengths'' log most whole is from_start longer_is;
      whole = total_gained old new before after lengths lengths'' most whole from_start longer_is;
      size = λ changes split.
          let gained = one_gained old new before after lengths lengths'' log most whole is from_start longer_is in
          let own : length from_start.added ≡ length changes =
          ap length (same_from_push _ _ _ _ (sym gained ∙ split)).1 in
          omega (arith, ap length from_start.grown, ap length same, length-append before from_start.added);
    }

-- a log whose last length is known has a last play, made of the last changes
pub last_of : (lengths : List ℕ) (count : ℕ) (changes : List Change) (log : List (List Change)) (all : List ℕ)
    → all ≡ lengths ++ count ∷ [] → total all ≡ length changes → plays_of all changes ≡ log
    → log ≡ plays_of lengths (take (length changes - count) changes) ++ drop (length changes - count) changes ∷ []
last_of lengths count changes log all split whole is =
    let n = length changes - count in
    let sums : total all ≡ total lengths + count = ap total split ∙ total-append lengths (count ∷ []) ∙ omega arith in
    let size : length (drop n changes) ≡ count = omega (arith, length-drop n changes) in
    let prefix : total lengths ≡ length (take n changes) =
    omega (arith, ap length (take-append-drop n changes), length-append (take n changes) (drop n changes)) in
    sym is ∙ ap (λ l. plays_of l changes) (split ∙ ap (λ k. lengths ++ k ∷ []) (sym size))
    ∙ ap (λ l. plays_of (lengths ++ length (drop n changes) ∷ []) l) (sym (take-append-drop n changes))
    ∙ plays_of-append lengths (take n changes) (drop n changes) prefix

-- what is left, and what was dropped, once one more of the last changes is gone
pub record IsPopped (all rest : List Change) (change : Change) (k : ℕ) : Type 0 where
  pub rest_is : rest ≡ take (length all - (k + 1)) all
  pub dropped : drop (length all - (k + 1)) all ≡ change ∷ drop (length all - k) all

pub popped : (all left rest : List Change) (change : Change) (k : ℕ) → k < length all →
    left ≡ take (length all - k) all → left ≡ rest ++ change ∷ [] → IsPopped all rest change k
popped all left rest change k below is split =
    let n = length all - k in
    let short : length (take n all) ≡ n = length-take-le n all (omega arith) in
    let size : length rest + 1 ≡ n = omega (arith, ap length is, ap length split, length-append rest (change ∷ [])) in
    let at : length all - (k + 1) ≡ length rest = omega arith in
    let whole : all ≡ rest ++ change ∷ drop n all =
    sym (take-append-drop n all) ∙ ap (λ l. l ++ drop n all) (sym is ∙ split)
    ∙ append_assoc rest (change ∷ []) (drop n all) in
    record {
      rest_is = sym (ap (λ i. take i all) at ∙ ap (λ l. take (length rest) l) whole
          ∙ take-append_seam rest (change ∷ drop n all));
      dropped = ap (λ i. drop i all) at ∙ ap (λ l. drop (length rest) l) whole
          ∙ drop-append_seam rest (change ∷ drop n all);
    }

-- one change more put back
pub traced_more : (start trace trace' : List Change) (cells numbers : List ℕ) (change : Change)
    (rest longer : List Change)
    → trace ≡ start ++ undone cells rest → numbers ≡ rewound cells rest → longer ≡ change ∷ rest
    → trace' ≡ trace ++ record { place = change.place; old = slice_index numbers change.place } ∷ [] → trace' ≡ start
    ++ undone cells longer
traced_more start trace trace' cells numbers change rest longer so_far at more one =
    let w : List Change = record { place = change.place; old = slice_index numbers change.place } ∷ [] in
    one ∙ ap (λ l. l ++ w) so_far ∙ append_assoc start (undone cells rest) w
    ∙ ap (λ n. start ++ (undone cells rest ++ record { place = change.place; old = slice_index n change.place } ∷ []))
    at
    ∙ ap (λ l. start ++ undone cells l) (sym more)

-- a change that is among the last ones names a cell where each of those does
pub popped_names : (bound : ℕ) (all rest : List Change) (change : Change) (k count : ℕ) → k < count →
    count ≤ length all → IsPopped all rest change k
    → NamesCells bound (drop (length all - count) all) → change.place < bound
popped_names bound all rest change k count below within popped names =
    let n = length all - (k + 1) in
    let m = length all - count in
    let P : Change → Type 0 = λ one. one.place < bound in
    let at : m + (n - m) ≡ n = omega arith in
    let inside : n - m < length (drop m all) = omega (arith, length-drop m all) in
    let e : get_or (drop m all) (n - m) change ≡ change =
    get_or-drop m all (n - m) change ∙ ap (λ i. get_or all i change) (at ∙ (let z : n ≡ n + 0 = omega arith in z))
    ∙ sym (get_or-drop n all 0 change) ∙ ap (λ l. get_or l 0 change) popped.dropped in
    subst P e (names (n - m) change inside)

-- a log whose last length is known: the changes of its last play are no more than all, and without them the rest is whole
pub record IsLast (lengths : List ℕ) (count : ℕ) (changes : List Change) (log : List (List Change)) : Type 0 where
  pub enough : count ≤ length changes
  pub is : log ≡ plays_of lengths (take (length changes - count) changes) ++ drop (length changes - count) changes ∷ []
  pub whole : total lengths ≡ length (take (length changes - count) changes)
  pub size : length (drop (length changes - count) changes) ≡ count

pub is_last : (lengths all : List ℕ) (count : ℕ) (changes : List Change) (log : List (List Change))
    → all ≡ lengths ++ count ∷ [] → total all ≡ length changes → plays_of all changes ≡ log →
    IsLast lengths count changes log
is_last lengths all count changes log split whole is =
    let sums : total all ≡ total lengths + count = ap total split ∙ total-append lengths (count ∷ []) ∙ omega arith in
    let within : count ≤ length changes = omega arith in
    record {
      enough = within;
      is = last_of lengths count changes log all split whole is;
      whole = omega (arith, length-take-le (length changes - count) changes (omega arith));
      size = omega (arith, length-drop (length changes - count) changes);
    }

-- a looser bound
pub Logged_within : (a b : CellsValue) (xs ys : List Change) (j most : ℕ) → Logged a b xs ys j → j ≤ most →
    Logged a b xs ys most
Logged_within a b xs ys j most logged within =
    record {
      added = logged.added;
      grown = logged.grown;
      traced = logged.traced;
      back = logged.back;
      few = let f =
          logged.few in omega arith;
      names = logged.names;
    }
