-- The words from elsewhere which contracts and definitions of this crate name.
pub use Rattle.std.specs.List.{flat_map, range_with_len}
pub use Rattle.std.specs.Option.{option_eq, option_map}
pub use Rattle.std.specs.Str.{IsUtf8, chars}
pub use Rattle.std.specs.String.{string_bytes}
pub use Rattle.sre_chars.specs.Tables.{Table}
pub use Rattle.sre_chars.specs.declared.string.StrDrive.{Ghosts}
pub use Rattle.sre_chars.specs.declared.string.StringCursor.{StringCursor}
pub use Rattle.sre_code.specs.declared.code.Code.{Code}
pub use Rattle.sre_engine.specs.Answers.{MayTakeMemory, Shown, Spans, answer_of, match_shown}
pub use Rattle.sre_engine.specs.Codes.{items_of, uni_of, words_of}
pub use Rattle.sre_engine.specs.Found.{Asked, Match, asked_after, found, matched, walk}
pub use Rattle.sre_engine.specs.Grammar.{IsCode, Whole}
pub use Rattle.sre_engine.specs.Iterators.{Gives, IsOver, left_of, most_items, request_of, shown_of}
pub use Rattle.sre_engine.specs.Marks.{Marks, group, no_marks}
pub use Rattle.sre_engine.specs.Requests.{asked_of, code_of, end_of, stands_in, start_of, string_of}
pub use Rattle.sre_engine.specs.Tree.{Tree}
pub use Rattle.sre_engine.specs.declared.engine.search_iter.SearchIter.{SearchIter}
pub use Rattle.sre_engine.specs.declared.engine.state.SreError.{SreError}
pub use Rattle.sre_finder.specs.SpanIters.{GivesSpan, has_ended, most_spans}
pub use Rattle.sre_finder.specs.declared.span_iter.SpanIter.{SpanIter}
pub use Rattle.sre_growth.specs.Refusal.{Refused}
