-- What a record's game is refused for, and what holds then of the whole input.
use Rattle.std.proofs.Common.{◌≡◌, ◌≢◌, ◌<◌, ℕ, List, Option, None, length, subst}
use Rattle.std.specs.Prelude.{Err}
use Rattle.go_record.specs.Games.{IsGameOf}
use Rattle.go_record.specs.declared.error.RecordError.{RecordError}
use Rattle.go_record.specs.declared.error.RecordError.TheVariants.{NotGo, BadSize, BadKomi, BadValue, SetupAfterMove, DeadSetup, Illegal, Memory}
use Rattle.go_sgf.specs.Record.{Trees}
use Rattle.go_sgf.specs.Spelling.{Spells}
use Rattle.go_sgf.specs.declared.limits.TheConstants.{MAX_RECORD}
use Rattle.goref_tools.specs.Tools.{HasNoGame, IsInput, RefusesGame, tool_error_of_record}
use Rattle.goref_tools.specs.declared.error.ToolError.TheVariants.{Record}
use Rattle.goref_tools.proofs.Whole.{of_whole}

-- what a tool tells of a record's game is its refusal, and not want of memory
other_than_memory : (e why : RecordError) → tool_error_of_record e ≡ Record why → (e ≢ Memory) × (e ≡ why)
other_than_memory NotGo why f = (λ e. cc, cc)
other_than_memory BadSize why f = (λ e. cc, cc)
other_than_memory BadKomi why f = (λ e. cc, cc)
other_than_memory (BadValue node) why f = (λ e. cc, cc)
other_than_memory (SetupAfterMove node) why f = (λ e. cc, cc)
other_than_memory (DeadSetup at) why f = (λ e. cc, cc)
other_than_memory (Illegal number reason) why f = (λ e. cc, cc)
other_than_memory Memory why f = absurd (cc)

-- what the game of a record that was read is refused for, that of the whole input is
pub refuses_game : (bytes : List ℕ) (left left' : Option (List ℕ)) → IsInput bytes left left' →
    (MAX_RECORD < length bytes → ⊥) →
    (c : Trees) → Spells bytes c → (e : RecordError) → (e ≢ Memory → IsGameOf c None (Err e)) → (why : RecordError) →
    tool_error_of_record e ≡ Record why → RefusesGame left why
refuses_game bytes left left' is short c spelled e refused why f =
    let other = other_than_memory e why f in
    let P : RecordError → Type 0 = λ x. RefusesGame left x in
    subst P other.1 (other.0, of_whole (λ input. HasNoGame input e) bytes left' is short (c, spelled, refused other.0))
