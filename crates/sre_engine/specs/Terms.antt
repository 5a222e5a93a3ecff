-- The words of the crates below which several files of this crate cite.
-- Public contracts rest on it.
pub use Rattle.std.proofs.Common.{ap}
pub use Rattle.std.proofs.Props.{props}
pub use Rattle.std.specs.Vec.{vec_len}
pub use Rattle.sre_board.specs.Accounts.{most_paid}
pub use Rattle.sre_chars.specs.Numbers.{at_number}
pub use Rattle.sre_chars.specs.Tables.{Table}
pub use Rattle.sre_chars.specs.Texts.{Sought}
pub use Rattle.sre_chars.specs.declared.constants.SreAtCode.{SreAtCode}
pub use Rattle.sre_chars.specs.declared.constants.SreAtCode.TheVariants.{BEGINNING, BEGINNING_LINE, BEGINNING_STRING}
pub use Rattle.sre_chars.specs.declared.constants.SreOpcode.{SreOpcode}
pub use Rattle.sre_chars.specs.declared.string.StrDrive.{Ghosts}
pub use Rattle.sre_chars.specs.declared.string.StringCursor.{StringCursor}
pub use Rattle.sre_code.specs.AsciiSet.{contains}
pub use Rattle.sre_code.specs.AsciiSets.{AreTold}
pub use Rattle.sre_code.specs.Codes.{hints_of, uni_of, words_of}
unfoldable pub use Rattle.sre_code.specs.Codes.{items_of}
pub use Rattle.sre_code.specs.declared.ascii_set.AsciiSet.{AsciiSet}
pub use Rattle.sre_code.specs.declared.code.Code.{Code}
pub use Rattle.sre_code.specs.declared.code.Hints.{Hints}
pub use Rattle.sre_growth.specs.Refusal.{Refused}
pub use Rattle.sre_machine.specs.Spending.{Halted, is_limited, left_of}
pub use Rattle.sre_machine.specs.Memos.{MemoValue}
pub use Rattle.sre_machine.specs.Paying.{Remembering, each_of, rows_from, window_of}
pub use Rattle.sre_machine.specs.declared.allowance.Allowance.{Allowance}
pub use Rattle.sre_machine.specs.declared.turns.Halt.{Halt}
pub use Rattle.sre_model.proofs.Props.{set_prop}
pub use Rattle.sre_model.proofs.TreeOf.{test_same}
pub use Rattle.sre_model.specs.Anchors.{is_anchored}
pub use Rattle.sre_model.specs.Characters.{holds, is_member}
pub use Rattle.sre_model.specs.FirstCharacters.{HasAlternatives, HasTree, Leads, NoWay, NoneOf, NotPassed, TreeStands}
pub use Rattle.sre_model.specs.Found.{Asked, Match, asked_after, at_start, found, is_accepted, matched, subject_of}
pub use Rattle.sre_model.specs.Found.{walk}
pub use Rattle.sre_model.specs.Grammar.{AreItems, IsCode, Opcode, Reads, ReadsBranch, ReadsSet, TestOperands, Whole}
pub use Rattle.sre_model.specs.Grammar.{WholeItems, Word, behind_block, skip, word}
pub use Rattle.sre_model.specs.LeadingRuns.{FrontStands, RunLeads, RunStands}
pub use Rattle.sre_model.specs.Marks.{Marks, no_marks, set_mark}
pub use Rattle.sre_model.specs.Prefixes.{ReadsBehind, behind_items, how_many, is_empty, overlaps_of, prefix_of, spells}
pub use Rattle.sre_model.specs.Prefixes.{stands_at}
pub use Rattle.sre_model.specs.Remembered.{IsRemembered, step_bound}
pub use Rattle.sre_model.specs.Roles.{Role, begins_test, role}
pub use Rattle.sre_model.specs.Runs.{Run}
pub use Rattle.sre_model.specs.Standing.{HasSet, HasTest, TestStands}
pub use Rattle.sre_model.specs.Subject.{Subject, after, char_at, holds_at, passes}
pub use Rattle.sre_model.specs.Tree.{Empty, GreedyRun, LazyRun, Locale, Only, Or, Plain, PossessiveRun, RunKind}
pub use Rattle.sre_model.specs.Tree.{SetItem, Test, Then, Tree, Trees}
pub use Rattle.sre_model.specs.TreePrices.{most_steps}
pub use Rattle.sre_model.specs.TurnBounds.{RunsWithin}
pub use Rattle.sre_model.specs.WalkBounds.{AreInOrder, most_matches}
pub use Rattle.sre_model.specs.Ways.{Way, here, longest_run, unlimited, ways}
pub use Rattle.sre_model.specs.Width.{width}
pub use Rattle.sre_request.specs.Admitting.{AllAdmitted}
pub use Rattle.sre_request.specs.AsciiSets.{TakesAscii}
pub use Rattle.sre_request.specs.Requests.{asked_of, carrying, code_of, end_of, match_all_of, must_advance_of}
pub use Rattle.sre_request.specs.Requests.{stands_in, start_of, string_of}
pub use Rattle.sre_request.specs.Runs.{OpcodeAt, Standing, run_of}
pub use Rattle.sre_request.specs.declared.admitted.Admitted.{Admitted}
pub use Rattle.sre_request.specs.declared.request.Request.{Request}
pub use Rattle.sre_turns.specs.Board.{bare}
pub use Rattle.sre_turns.specs.Machine.{Decides, outcomes}
pub use mathlib.Core.HLevel.{is_prop→PathP}
