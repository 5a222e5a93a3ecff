-- The words from elsewhere which contracts and definitions of this crate name.
pub use Rattle.std.specs.List.{AllByRecursion, filter}
pub use Rattle.sre_chars.specs.Numbers.{at_number}
pub use Rattle.sre_chars.specs.Tables.{Table}
pub use Rattle.sre_chars.specs.declared.constants.SreAtCode.{SreAtCode}
pub use Rattle.sre_chars.specs.declared.constants.SreOpcode.{SreOpcode}
pub use Rattle.sre_chars.specs.declared.string.StringCursor.{StringCursor}
pub use Rattle.sre_model.proofs.MarksApart.{SameStops}
pub use Rattle.sre_model.specs.Characters.{holds}
pub use Rattle.sre_model.specs.Grammar.{Opcode, Reads, WholeItems, Word, skip, until_opcode, word}
pub use Rattle.sre_model.specs.LooksBehind.{backs}
pub use Rattle.sre_model.specs.Marks.{Marks, group, mark_at, no_marks, set_mark}
pub use Rattle.sre_model.specs.MarksSet.{marks_in_regions, sets_mark}
pub use Rattle.sre_model.specs.References.{asked_from, asked_to, refers}
pub use Rattle.sre_model.specs.Regions.{forks, has_forked_region}
pub use Rattle.sre_model.specs.Roles.{Role, TestKind, opcode_at, role}
pub use Rattle.sre_model.specs.Runs.{Run}
pub use Rattle.sre_model.specs.Standing.{HasTest, TestStands}
pub use Rattle.sre_model.specs.Subject.{Subject, char_at, holds_at, passes, same_folded}
pub use Rattle.sre_model.specs.Tree.{Fold, Greedy, GreedyRun, Lazy, LazyRun, Order, Plain, PossessiveRun, RunKind, Test}
pub use Rattle.sre_model.specs.Tree.{Tree}
pub use Rattle.sre_model.specs.TreePrices.{other_ends, scan_price}
pub use Rattle.sre_model.specs.Ways.{Way, first, here, longest_run, may_repeat, run_length, unlimited, ways}
