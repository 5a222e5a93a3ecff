-- The words and the laws from elsewhere, and the words of specs/, which proofs of this crate name.
pub use Rattle.std.proofs.Common.{Bool, Err, IfOk, IsAscii, List, None, Ok, OnErr, Option, Result, Some, [], ap}
pub use Rattle.std.proofs.Common.{append_assoc, arith, cond, false, length, length-append, min, nat_le, refl, rules}
pub use Rattle.std.proofs.Common.{slice_index, slice_index_or, subst, suc, sym, take, true, ◌*◌, ◌++◌, ◌+◌, ◌-◌, ◌<◌}
pub use Rattle.std.proofs.Common.{◌||◌, ◌∙◌, ◌∷◌, ◌≡◌, ◌≢◌, ◌≤◌, ℕ}
pub use Rattle.std.proofs.Math.Logic.{∥∥₁_elim, ∥∥₁_map}
pub use Rattle.std.proofs.Props.{props}
pub use Rattle.std.proofs.lemmas.Bool.Decides.{nat_tests}
pub use Rattle.std.proofs.lemmas.Str.{IsUtf8-from_ascii, chars-IsAscii}
pub use Rattle.sre_code.specs.declared.ascii_set.AsciiSet.{AsciiSet}
pub use Rattle.sre_engine.proofs.CountLaws.{once}
pub use Rattle.sre_engine.specs.Beginnings.{KnowsTest}
pub use Rattle.sre_finder.proofs.Spans.{first_found, steps_span}
pub use Rattle.sre_model.proofs.Props.{kept_tree}
pub use Rattle.sre_model.proofs.TreeOf.{whole_same}
pub use Rattle.sre_model.proofs.WalkLaws.{walk-end, walk-next}
pub use Rattle.sre_c.specs.Answered.{Answers, HasMatch, IsFound, IsTold, LeavesSteps, mark_number, KeepBudget}
pub use Rattle.sre_c.specs.Answered.{KeepsBudget, no_limit}
pub use Rattle.sre_c.specs.Beginnings.{KnowsFlags}
pub use Rattle.sre_c.specs.Given.{Lacks, IsEnough, OfTree, asked_in, model_of}
pub use Rattle.sre_c.specs.Known.{IsKnown, hints_told, table_in}
pub use Rattle.sre_c.specs.Replies.{Finds, Replies, told_of}
pub use Rattle.sre_c.specs.Rows.{AreWritten, IsSoFar, RowsGoOn, RowsKeep, Searched, WritesNext, WritesRows, WritesSpan}
pub use Rattle.sre_c.specs.Terms.{AreEnough, Asked, Code, Confirmed, EndStands, FaultyTable, Ghosts, Global, IsCode}
pub use Rattle.sre_c.specs.Terms.{KeepsToSteps, Marks, Match, Memory, No, NoCode, NoRoom, NotUtf8, Refused, Request}
pub use Rattle.sre_c.specs.Terms.{SetsOf, Shown, SreError, Status, StepLimit, Table, Tree, Whole, Yes, answer_of}
pub use Rattle.sre_c.specs.Terms.{asked_from, asked_of, behind_block, code_of, contains, end_of, found, items_of}
pub use Rattle.sre_c.specs.Terms.{longest_lookbehind, match_shown, match_with, matched, must_advance_of, refers}
pub use Rattle.sre_c.specs.Terms.{runs_of, stands_in, start_of, string_of, walk, words_of}
pub use Rattle.sre_c.specs.Walked.{AreRows, IsRow, IsUpTo, IsWritten, LastLeaves, RowsLeave, Walks, asked_next}
pub use Rattle.sre_c.specs.Walked.{entry_of}
pub use Rattle.sre_c.specs.declared.code.SreCode.{SreCode}
pub use Rattle.sre_c.specs.declared.types.SreAsked.{SreAsked}
pub use Rattle.sre_c.specs.declared.types.SreFound.{SreFound}
pub use Rattle.sre_c.specs.declared.types.SreHints.{SreHints}
pub use Rattle.sre_c.specs.declared.types.SreWalked.{SreWalked}
