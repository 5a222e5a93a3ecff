-- The words from elsewhere which contracts and definitions of this crate name.
pub use Rattle.std.specs.Global.{Global}
pub use Rattle.std.specs.List.{AllWithin, HoldsAt}
pub use Rattle.sre_chars.specs.Errors.{uni_error_number}
pub use Rattle.sre_chars.specs.Lists.{lent_table, lists_fault}
pub use Rattle.sre_chars.specs.Tables.{Table}
pub use Rattle.sre_chars.specs.declared.constants.EmptyRule.TheVariants.{Never, NonBoundary}
pub use Rattle.sre_chars.specs.declared.string.StrDrive.{Ghosts}
pub use Rattle.sre_chars.specs.declared.table.UniError.{UniError}
pub use Rattle.sre_code.specs.AsciiSet.{contains}
pub use Rattle.sre_code.specs.Codes.{items_of, uni_of, words_of}
pub use Rattle.sre_code.specs.Hinted.{Confirmed}
pub use Rattle.sre_code.specs.Refusals.{place_of, refusal_number}
pub use Rattle.sre_code.specs.StepBounds.{HasNoStepBound, IsStepBound}
pub use Rattle.sre_code.specs.declared.code.Code.{Code}
pub use Rattle.sre_code.specs.declared.code.Hints.{Hints}
pub use Rattle.sre_code.specs.declared.code.error.CodeError.{CodeError}
pub use Rattle.sre_engine.specs.Answers.{Shown, answer_of, match_shown}
pub use Rattle.sre_engine.specs.Counts.{AreEnough, KeepsToSteps, runs_of}
pub use Rattle.sre_engine.specs.FirstSets.{SetsOf}
pub use Rattle.sre_engine.specs.Searches.{Stepped, given_up}
pub use Rattle.sre_engine.specs.declared.engine.state.SreError.{SreError}
pub use Rattle.sre_finder.specs.Finders.{EndStands}
pub use Rattle.sre_finder.specs.Kepts.{Suits}
pub use Rattle.sre_finder.specs.Spans.{FindsNone, GoesOnBehind, match_with}
pub use Rattle.sre_growth.specs.Refusal.{Refused}
pub use Rattle.sre_model.specs.Characters.{holds}
pub use Rattle.sre_model.specs.Found.{Asked, Match, asked_after, found, matched, walk}
pub use Rattle.sre_model.specs.Grammar.{IsCode, Whole, behind_block}
pub use Rattle.sre_model.specs.LooksBehind.{longest_lookbehind}
pub use Rattle.sre_model.specs.Marks.{Marks, mark_at}
pub use Rattle.sre_model.specs.References.{asked_from, refers}
pub use Rattle.sre_model.specs.Remembered.{IsRemembered, step_bound}
pub use Rattle.sre_model.specs.Subject.{Subject, after}
pub use Rattle.sre_model.specs.Tree.{Test, Tree}
pub use Rattle.sre_model.specs.Ways.{ways}
pub use Rattle.sre_request.specs.Requests.{asked_of, code_of, end_of, must_advance_of, stands_in, start_of, string_of}
pub use Rattle.sre_request.specs.declared.request.Request.{Request}
pub use Rattle.sre_c.specs.declared.status.Status.{Status}
pub use Rattle.sre_c.specs.declared.status.Status.TheVariants.{FaultyTable, Memory, No, NoCode, NoRoom, NotUtf8}
pub use Rattle.sre_c.specs.declared.status.Status.TheVariants.{StepLimit, Yes}
