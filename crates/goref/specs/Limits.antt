-- The most bytes that a line keeps of its words, and that a record has.
pub use Rattle.goref_lines.specs.declared.line.TheConstants.{LINE_LIMIT}
pub use Rattle.go_sgf.specs.declared.limits.TheConstants.{MAX_RECORD}
