-- The words from elsewhere which contracts and definitions of this crate name.
pub use Rattle.regex_hir.specs.Meaning.{meaning}
pub use Rattle.regex_hir.specs.Re.{Re}
pub use Rattle.regex_hir.specs.declared.hir.Hir.{Hir}
pub use Rattle.sre_automata.specs.Told.{NoneLeft, Tells}
pub use Rattle.sre_chars.specs.declared.string.StrDrive.{Ghosts}
pub use Rattle.sre_chars.specs.declared.string.StringCursor.{StringCursor}
pub use Rattle.sre_code.specs.Codes.{items_of, uni_of, words_of}
pub use Rattle.sre_code.specs.declared.code.Code.{Code}
pub use Rattle.sre_engine.specs.Answers.{MayTakeMemory, Shown, answer_of, match_shown}
pub use Rattle.sre_engine.specs.FirstSets.{SetsOf, no_sets}
pub use Rattle.sre_engine.specs.Searches.{Answered, RunsOnceAnchored}
pub use Rattle.sre_engine.specs.Within.{AnsweredWithin}
pub use Rattle.sre_growth.specs.Refusal.{Refused}
pub use Rattle.sre_model.specs.Found.{Asked, Match, found, walk}
pub use Rattle.sre_model.specs.Grammar.{Whole, WholeItems, behind_block}
pub use Rattle.sre_model.specs.Marks.{Marks, no_marks}
pub use Rattle.sre_model.specs.Tree.{Tree}
pub use Rattle.sre_model.specs.WalkBounds.{AreInOrder, most_matches}
pub use Rattle.sre_patterns.specs.Patterns.{view_of}
pub use Rattle.sre_patterns.specs.declared.encoding.Encoding.{Encoding}
pub use Rattle.sre_request.specs.Requests.{asked_of, code_of, end_of, stands_in, start_of, string_of}
pub use Rattle.sre_request.specs.declared.request.Request.{Request}
