-- Something can be decided on each line.
use Rattle.std.proofs.Common.{◌≡◌, inl, inr, Bool, true, false, List, ℕ, Option, Some, None, refl}
use Rattle.std.specs.Option.{option_and_then}
use Rattle.go_game.specs.Standings.{Standing}
use Rattle.goref_lines.specs.Kept.{Kept}
use Rattle.goref_lines.specs.Words.{has_bytes, words}
use Rattle.goref_lines.specs.Requests.{asked_by}
use Rattle.goref_session.specs.Replies.{DecidesLine, Reply, Said, line_id, silent, spoken}
use Rattle.goref_session.specs.Commands.{command_of}
use Rattle.goref_session.specs.Contents.{Content, bytes, missing, no_memory, nothing, too_large}
use Rattle.goref_session.specs.Laws.{SomeReply}
use Rattle.goref_session.specs.Decisions.{Decided, keeps}
use Rattle.goref_session.specs.Record.{DecidesContent, DecidesLoad, Load, load_of}
use Rattle.goref_session.specs.Table.{DecidesIf, DecidesOn}
use Rattle.goref_session.specs.declared.command.Command.{Command}
use Rattle.goref_session.specs.declared.command.Command.TheVariants.{Asks, KnownCommand, Quit, Boardsize, ClearBoard, Komi, Play, Genmove, Undo, RegGenmove, Loadsgf, FixedHandicap, PlaceFreeHandicap, SetFreeHandicap, TimeSettings, TimeLeft, Legal, Superko}
use Rattle.goref_session.specs.declared.decision.Decision.TheVariants.{Refused}
use Rattle.goref_session.specs.declared.decision.Refusal.TheVariants.{LineTooLong}

on_content : (s : Standing) (content : Content) (number : Option ℕ) → (d : Decided) × DecidesContent s content number d
on_content s (bytes b) number = (_, inr (inr refl))
on_content s no_memory number = (_, refl)
on_content s nothing number = (_, refl)
on_content s missing number = (_, refl)
on_content s too_large number = (_, refl)

on_load : (s : Standing) (load : Option Load) (content : Content) → (d : Decided) × DecidesLoad s load content d
on_load s None content = (_, refl)
on_load s (Some load) content = on_content s content load.number

on_command : (s : Standing) (c : Command) (arguments : List (List ℕ)) (content : Content) → (d : Decided)
    × DecidesOn s c arguments content d
on_command s (Asks topic) arguments content = (_, refl)
on_command s KnownCommand arguments content = (_, refl)
on_command s Quit arguments content = (_, refl)
on_command s Boardsize arguments content = (_, refl)
on_command s ClearBoard arguments content = (_, refl)
on_command s Komi arguments content = (_, refl)
on_command s Play arguments content = (_, inl refl)
on_command s Genmove arguments content = (_, inl refl)
on_command s Undo arguments content = (_, refl)
on_command s RegGenmove arguments content = (_, inl refl)
on_command s Loadsgf arguments content = on_load s (load_of arguments) content
on_command s FixedHandicap arguments content = (_, inl refl)
on_command s PlaceFreeHandicap arguments content = (_, inl refl)
on_command s SetFreeHandicap arguments content = (_, inl refl)
on_command s TimeSettings arguments content = (_, refl)
on_command s TimeLeft arguments content = (_, refl)
on_command s Legal arguments content = (_, inl refl)
on_command s Superko arguments content = (_, refl)

on_name : (s : Standing) (c : Option Command) (arguments : List (List ℕ)) (content : Content) → (d : Decided)
    × DecidesIf s c arguments content d
on_name s None arguments content = (_, refl)
on_name s (Some c) arguments content = on_command s c arguments content

on_line : (s : Standing) (k : Kept) (content : Content) (long : Bool) → k.is_long ≡ long → (d : Decided)
    × DecidesLine s k content d
on_line s k content true e = (keeps s (Refused LineTooLong), inl (e, refl))
on_line s k content false e =
    let asked = asked_by (words k.text) in
    let d = on_name s (option_and_then command_of asked.name) asked.arguments content in
    (d.0, inr (e, d.1))

reply_by : (s : Standing) (k : Kept) (content : Content) (words : Bool) → has_bytes k.text ≡ words → (reply : Said)
    × Reply s k content reply
reply_by s k content false e = (silent s, inl (e, refl))
reply_by s k content true e =
    let d = on_line s k content k.is_long refl in
    (spoken (line_id k) d.0, inr (e, (d.0, d.1, refl)))

-- each line can be replied to
pub some_reply : SomeReply
some_reply s k content = reply_by s k content (has_bytes k.text) refl
