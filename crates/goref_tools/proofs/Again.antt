-- A canonical text is tidy.
use Rattle.std.proofs.Common.{◌∙◌, ap}
use Rattle.go_sgf.specs.Laws.{CanonicalSpellsPlain, OneRecord, SpelledIsFit, SpelledIsRead}
use Rattle.go_sgf.specs.Record.{plain}
use Rattle.go_sgf.specs.Spelling.{canonical}
use Rattle.goref_tools.specs.Tidying.{TidyIsTidy}

pub tidy_again : CanonicalSpellsPlain → OneRecord → SpelledIsFit → SpelledIsRead → TidyIsTidy
tidy_again canonical_is one fit read input c s =
    let again = canonical_is c (fit input c s) in (
      λ d t. ap canonical (one (canonical c) d (plain c) t again.0) ∙ again.1,
      λ why r short. read (canonical c) (plain c) why again.0 r short,
    )
