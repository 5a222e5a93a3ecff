-- The words and the laws from elsewhere, and the words of specs/, which proofs of this crate name.
pub use Rattle.std.proofs.Common.{Bool, IfSome, List, None, Option, Some, [], ap, ap₂, arith, cond, false, inl, inr}
pub use Rattle.std.proofs.Common.{length, nat_eq, not, refl, rules, subst, suc, sym, take, true, zero, ◌&&◌, ◌+◌, ◌<◌}
pub use Rattle.std.proofs.Common.{◌||◌, ◌∙◌, ◌∷◌, ◌≡◌, ◌≤◌, ℕ}
pub use Rattle.std.proofs.Math.Logic.{∥∥₁_elim}
pub use Rattle.std.proofs.lemmas.Bool.{cases_lt}
pub use Rattle.std.proofs.lemmas.List.{length-take-le}
pub use Rattle.std.specs.Str.{IsCharBoundary, IsUtf8, chars}
pub use Rattle.sre_automata.specs.Told.{FindsFirst, IsBetween, NoneUpTo}
pub use Rattle.sre_chars.specs.Tables.{Table, ascii_table}
pub use Rattle.sre_chars.specs.Texts.{begun, offset_of}
pub use Rattle.sre_code.proofs.Checked.{code_tree, items_whole, whole_of}
pub use Rattle.sre_code.specs.Codes.{hints_of}
pub use Rattle.sre_engine.specs.Starts.{NoneBetween}
pub use Rattle.sre_model.specs.Found.{asked_after, at_start, first_accepted, is_accepted, subject_of}
pub use Rattle.sre_model.specs.Ways.{Way, ways}
pub use Rattle.sre_patterns.specs.Covers.{ExactTree}
pub use Rattle.sre_request.specs.Requests.{must_advance_of}
pub use Rattle.sre_finder.specs.Finders.{Covering, CoveringAny, EndStands, Filters, NoneLeftOfAny, SamePatterns}
pub use Rattle.sre_finder.specs.Kepts.{Suits}
pub use Rattle.sre_finder.specs.Spans.{Exactly, ExactlyAny, FindsSpan, GoesOnBehind, ShowsStep, StepsFrom, match_with}
pub use Rattle.sre_finder.specs.Terms.{Asked, Code, Encoding, Ghosts, Hir, Marks, Match, NoneLeft, Re, Request, SetsOf}
pub use Rattle.sre_finder.specs.Terms.{Shown, StringCursor, Tells, Tree, Whole, WholeItems, answer_of, asked_of}
pub use Rattle.sre_finder.specs.Terms.{behind_block, code_of, found, items_of, match_shown, meaning, most_matches}
pub use Rattle.sre_finder.specs.Terms.{no_marks, stands_in, start_of, string_of, uni_of, view_of, walk, words_of}
pub use Rattle.sre_finder.specs.Views.{SeenAs}
