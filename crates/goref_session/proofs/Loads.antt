-- What comes of a file's bytes is one thing.
use Rattle.std.proofs.Common.{arith, ◌≡◌, ◌≢◌, ◌≤◌, ◌∙◌, ℕ, List, [], length, refl, ap, sym, subst, inl, inr}
use Rattle.std.specs.Prelude.{Result, Ok, Err}
use Rattle.go_game.specs.Standings.{Standing}
use Rattle.go_record.specs.Games.{IsGameOf}
use Rattle.go_record.specs.Laws.{OneOutcome}
use Rattle.go_record.specs.Walks.{Outcome}
use Rattle.go_record.specs.declared.error.RecordError.{RecordError}
use Rattle.go_record.specs.declared.error.RecordError.TheVariants as record_error
use Rattle.go_sgf.specs.Laws.{OneRecord}
use Rattle.go_sgf.specs.Record.{Trees, none, tree}
use Rattle.go_sgf.specs.Refusals.{IsRefusal}
use Rattle.go_sgf.specs.Spelling.{Spells, SpellsParts, parts}
use Rattle.go_sgf.specs.declared.error.SgfError.{SgfError}
use Rattle.go_sgf.specs.declared.error.SgfError.TheVariants as sgf_error
use Rattle.go_sgf.specs.declared.limits.TheConstants.{MAX_RECORD}
use Rattle.goref_session.specs.Laws.{OneLoad}
use Rattle.goref_session.specs.Record.{load_error_of_record}
use Rattle.goref_session.specs.declared.commands.record.LoadError.{LoadError}
use Rattle.goref_session.specs.declared.commands.record.LoadError.TheVariants as load_error

-- no text spells a tree where there is nothing
no_text : (c : Trees) (rest : List ℕ) → c ≢ none → SpellsParts [] (parts c) rest → ⊥
no_text none rest some spells = some refl
no_text (tree nodes children later) rest some spells = let e = spells.1 in cc e

not_refused : (bytes : List ℕ) (c : Trees) (why : SgfError) → length bytes ≤ MAX_RECORD → Spells bytes c →
    why ≢ sgf_error.Memory → IsRefusal bytes why → ⊥
not_refused bytes c sgf_error.NoTree few spells memory refusal =
    no_text c spells.rest spells.fit.some
    (subst (λ (text : List ℕ). SpellsParts text (parts c) spells.rest) refusal spells.spelling)
not_refused bytes c (sgf_error.EndInside place) few spells memory refusal = refusal.1.spells_none c spells
not_refused bytes c (sgf_error.Unexpected place) few spells memory refusal = refusal.spells_none c spells
not_refused bytes c (sgf_error.TooDeep place) few spells memory refusal = refusal.spells_none c spells
not_refused bytes c sgf_error.Memory few spells memory refusal = memory refl
not_refused bytes c sgf_error.TooLong few spells memory refusal = omega (arith, few, refusal)

-- what isn't told as want of memory is none
pub other_refusal : {T : Type 0} (r : Result T LoadError) (x : LoadError) (why : RecordError) → r ≡ Err x →
    x ≡ load_error_of_record why →
    r ≡ Err load_error.Cannot → why ≢ record_error.Memory
other_refusal r x why e f h memory = let g : load_error_of_record why ≡ load_error.Memory = ap load_error_of_record memory in cc

same_standing : (s t : Standing) → (let r : Outcome = Ok t in r) ≡ Ok s → t ≡ s
same_standing s t h = cc h

ok_or_err : (s : Standing) (why : RecordError) → (let r : Outcome = Err why in r) ≡ Ok s → ⊥
ok_or_err s why h = cc h

pub one_load : OneRecord → OneOutcome → OneLoad
one_load spelled outcome bytes number s loads = (
  λ t other. same_standing s t (alike (Ok t) other.1 other.2 other.3),
  λ refused. elim refused [
    | inl r ↦ not_refused bytes loads.1 r.0 loads.0 loads.2 r.1 r.2
    | inr g ↦ ok_or_err s g.1 (alike (Err g.1) g.0 g.3 g.4)
  ],
)
  where
    alike : (other : Outcome) (c : Trees) → Spells bytes c → IsGameOf c number other → other ≡ Ok s
    alike other c spells game =
        let one = outcome loads.1 number in
        one.2 other (subst (λ (d : Trees). IsGameOf d number other) (spelled bytes c loads.1 spells loads.2) game)
        ∙ sym (one.2 (Ok s) loads.3)
