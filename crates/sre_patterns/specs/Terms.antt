-- The words from elsewhere which contracts and definitions of this crate name.
pub use Rattle.regex_hir.specs.Matches.{IsMinLen, Matches}
pub use Rattle.regex_hir.specs.Meaning.{meaning, repeat}
pub use Rattle.regex_hir.specs.Re.{Re, Rest, Trace, alt, attempt, cat, empty, literal}
pub use Rattle.regex_hir.specs.declared.look.Look.{Look}
pub use Rattle.sre_chars.specs.Numbers.{at_number, category_number}
pub use Rattle.sre_chars.specs.Tables.{Table}
pub use Rattle.sre_chars.specs.declared.constants.SreAtCode.{SreAtCode}
pub use Rattle.sre_chars.specs.declared.constants.SreOpcode.{SreOpcode}
pub use Rattle.sre_code.specs.Codes.{items_of, uni_of}
pub use Rattle.sre_model.specs.Characters.{holds, verdict}
pub use Rattle.sre_model.specs.Grammar.{Opcode, Reads, ReadsItem, Word, item_opcode, until_opcode}
pub use Rattle.sre_model.specs.Standing.{HasSet, HasTest, SetStands, TestStands}
pub use Rattle.sre_model.specs.Subject.{Subject, char_at}
pub use Rattle.sre_model.specs.Tree.{Greedy, GreedyRun, Item, Lazy, LazyRun, Order, Plain, RunKind, SetItem, Test, Tree}
pub use Rattle.sre_model.specs.Tree.{Trees}
pub use Rattle.sre_model.specs.Ways.{Body, Way, item_ways, unlimited, ways}
