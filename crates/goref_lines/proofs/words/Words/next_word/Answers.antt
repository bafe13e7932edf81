use Rattle.std.proofs.Common.{◌≡◌, ◌∙◌, sym}
use Rattle.goref_lines.proofs.FirstWords.{first_word, rest_after_word, after_spaces, word_comes, no_word_comes}
use Rattle.goref_lines.proofs.words.Words.next_word.Goals as goal

pub returns-then-is_empty-clause-none : goal.returns-then-is_empty-clause-none
returns-then-is_empty-clause-none c =
    let text = c.self.inside.text.now in
    let word : c.split_at-2.result.0.now ≡ first_word (after_spaces text) = cc in
    let rest : c.split_at-2.result.1.now ≡ rest_after_word (after_spaces text) = cc in
    let none = no_word_comes text _ _ word rest cc in
    (sym c.self.view_is ∙ none.0, none.1)

pub returns-clause-some : goal.returns-clause-some
returns-clause-some c =
    let text = c.self.inside.text.now in
    let word : c.split_at-2.result.0.now ≡ first_word (after_spaces text) = cc in
    let rest : c.split_at-2.result.1.now ≡ rest_after_word (after_spaces text) = cc in
    sym c.self.view_is ∙ word_comes text _ _ word rest cc
