-- A line that was answered, from what was decided and what was written.
use Rattle.std.proofs.Common.{◌≡◌, inl, inr, ℕ, true, false, List, Option, Some, None, Ok, refl, sym, ap, ◌∙◌, subst}
use Rattle.std.specs.Option.{option_and_then}
use Rattle.std.specs.Prelude.{IfNone, IfSome, Result}
use Rattle.go_board.specs.lemmas.Writing.{then_bytes-nil}
use Rattle.go_board.specs.declared.device.WriteFault.{WriteFault}
use Rattle.goref_session.specs.declared.flow.Flow.{Flow}
use Rattle.goref_session.specs.declared.flow.Flow.TheVariants.{More}
use Rattle.go_game.specs.Standings.{Standing}
use Rattle.goref_lines.specs.Kept.{Kept}
use Rattle.goref_lines.specs.Requests.{Asked, asked_by, id_before_space}
use Rattle.goref_lines.specs.Words.{has_bytes, words}
use Rattle.goref_session.specs.Commands.{command_of}
use Rattle.goref_session.specs.Contents.{Content}
use Rattle.goref_session.specs.Decisions.{Decided}
use Rattle.goref_session.specs.Replies.{silent, spoken, line_id, Reply, DecidesLine}
use Rattle.goref_session.specs.Record.{DecidesLoad, load_of}
use Rattle.goref_session.specs.Table.{Decides}
use Rattle.goref_session.specs.declared.command.Command.TheVariants.{Loadsgf}
use Rattle.goref_session.specs.Answered.{Answered}
use Rattle.goref_session.specs.declared.decision.Decision.{Decision}
use Rattle.goref_session.specs.inner.Told.{IsTold, TellsOf}

-- a line without words
pub answered_silent : (s : Standing) (k : Kept) (content : Content) (taken : Option (List ℕ)) →
    has_bytes k.text ≡ false → Answered s s k content (Ok More) taken taken
answered_silent s k content taken none = record {
  reply = silent s;
  is_reply = inl (none, refl);
  stands = refl;
  sent = (refl, sym (then_bytes-nil taken));
}

pub reply_of : (s : Standing) (k : Kept) (content : Content) (d : Decided) → has_bytes k.text ≡ true →
    DecidesLine s k content d → Reply s k content (spoken (line_id k) d)
reply_of s k content d some decides = inr (some, (d, decides, refl))

-- a line with words, on which something was decided and told with this id
pub answered_told : (s : Standing) (k : Kept) (content : Content) (d : Decided) (id : Option ℕ)
    (result : Result Flow WriteFault) (taken taken' : Option (List ℕ)) →
    has_bytes k.text ≡ true → DecidesLine s k content d → id ≡ line_id k → IsTold result id d taken taken' →
    Answered s d.standing k content result taken taken'
answered_told s k content d id result taken taken' some decides e told = record {
  reply = spoken (line_id k) d;
  is_reply = reply_of s k content d some decides;
  stands = refl;
  sent = subst (λ (i : Option ℕ). IsTold result i d taken taken') e told;
}

-- the id of a line that is too long
pub long_id : (k : Kept) → k.is_long ≡ true → id_before_space k.text ≡ line_id k
long_id k e = rw e refl

-- the id of one that isn't
pub whole_id : (k : Kept) → k.is_long ≡ false → (asked_by (words k.text)).id ≡ line_id k
whole_id k e = rw e refl

-- a line with words that is not too long, whose command was decided on and told
pub answered_by : (s t : Standing) (k : Kept) (content : Content) (r : Asked) (o : Option (Result Flow WriteFault))
    (result : Result Flow WriteFault) (taken taken' : Option (List ℕ)) →
    has_bytes k.text ≡ true → k.is_long ≡ false → r ≡ asked_by (words k.text) → o ≡ Some result →
    IfSome o (λ told. TellsOf s t r told taken taken') → Answered s t k content result taken taken'
answered_by s t k content r o result taken taken' some whole asked is tells =
    let of : TellsOf s t r result taken taken' =
    subst (λ (p : Option (Result Flow WriteFault)). IfSome p (λ told. TellsOf s t r told taken taken')) is tells in
    let d : Decided = record { decision = of.0; standing = t } in
    answered_told s k content d r.id result taken taken' some
    (inr (whole, subst (λ (a : Asked). Decides s a content d) asked (of.1 content)))
    (ap (λ (a : Asked). a.id) asked ∙ whole_id k whole) of.2

-- what was told over an equal standing, from what had been taken then
pub told_at : (result : Result Flow WriteFault) (id : Option ℕ) (decision : Decision) (s t : Standing)
    (before taken taken' : Option (List ℕ)) →
    s ≡ t → before ≡ taken → IsTold result id (record { decision = decision; standing = s }) before taken' →
    IsTold result id (record { decision = decision; standing = t }) taken taken'
told_at result id decision s t before taken taken' stands same told =
    subst (λ (u : Standing). IsTold result id (record { decision = decision; standing = u }) taken taken') stands
    (subst (λ (from : Option (List ℕ)). IsTold result id (record { decision = decision; standing = s }) from taken')
    same told)

pub none_gives : {T : Type 0} (o : Option T) (P : Type 0) → o ≡ None → IfNone o P → P
none_gives o P none given = rw none at given

-- what is decided on `loadsgf`
pub decided_load : (s t : Standing) (r : Asked) (content : Content) (d : Decided) →
    option_and_then command_of r.name ≡ Some Loadsgf → t ≡ s →
    DecidesLoad t (load_of r.arguments) content d → Decides s r content d
decided_load s t r content d named stands loads =
    rw named (subst (λ (u : Standing). DecidesLoad u (load_of r.arguments) content d) stands loads)
