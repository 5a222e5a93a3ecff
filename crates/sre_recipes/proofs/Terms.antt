-- The words and the laws from elsewhere, and the words of specs/, which proofs of this crate name.
pub use Rattle.std.proofs.Common.{Bool, Err, IfOk, IfSome, List, None, Ok, Option, Result, Some, [], add-mul, ap}
pub use Rattle.std.proofs.Common.{append_assoc, ap₂, arith, cond, drop, false, inl, inr, length, length-append, map}
pub use Rattle.std.proofs.Common.{nat_eq, not, one-mul, refl, rules, subst, suc, sym, take, true, unwrap_or, zero}
pub use Rattle.std.proofs.Common.{zero-add, ℕ, ◌*◌, ◌++◌, ◌+◌, ◌-◌, ◌/◌, ◌<◌, ◌∙◌, ◌∷◌, ◌≡◌, ◌≢◌, ◌≤◌, ◌⊎◌}
pub use Rattle.std.proofs.Math.Nat.{mul-le-mul_right}
pub use Rattle.std.proofs.lemmas.Bool.{and_parts, cases_eq, eq-eqb, eqb-true, false_from_ne_true, ne_eqb}
pub use Rattle.std.proofs.lemmas.Bool.{not-false, not-true}
pub use Rattle.std.proofs.lemmas.List.{append-nil, length-drop, map-append, take-append-drop, take_all}
pub use Rattle.std.proofs.lemmas.Str.{IsUtf8-append, chars-append, chars-nil, chars_from_encodes, encodes-append}
pub use Rattle.std.proofs.lemmas.Str.{encodes-chars}
pub use Rattle.std.specs.List.{slice_range}
pub use Rattle.std.specs.Str.{IsUtf8}
pub use Rattle.sre_chars.proofs.TextPlaces.{drop_offset, offset_boundary, some_after}
pub use Rattle.sre_chars.specs.Texts.{offset_of}
pub use Rattle.sre_model.proofs.FoundLaws.{either, found-is, found-least, found-none, least-found, none-found}
pub use Rattle.sre_model.proofs.WalkLaws.{most_matches-falls, walk-end, walk-next}
pub use Rattle.sre_model.specs.WalkBounds.{most_matches}
pub use Rattle.sre_code.proofs.Checked.{code_tree}
pub use Rattle.sre_engine.specs.Answers.{answer_of}
pub use Rattle.sre_engine.specs.Codes.{hints_of, uni_of}
pub use Rattle.sre_engine.specs.Counts.{SpentUpTo, runs_of}
pub use Rattle.sre_engine.specs.Found.{asked_after, at_start, first_accepted, subject_of}
pub use Rattle.sre_engine.specs.Iterators.{IsOver, has_ended}
pub use Rattle.sre_finder.specs.SpanIters.{last_asked}
pub use Rattle.sre_finder.specs.declared.span_iter.Span.{Span}
pub use Rattle.sre_recipes.specs.Adjoining.{NoneAdjoins, adjoining, unless_empty}
pub use Rattle.sre_recipes.specs.Bounded.{AreLeft, Outlast, OutlastWalk, first_of, most_runs}
pub use Rattle.sre_recipes.specs.Followed.{AllSpend, Followed, IsAmple, Spends, less_by, most_searches}
pub use Rattle.sre_recipes.specs.Lexed.{Lexeme, lexeme_of, lexeme_shown, reached, token_matches, tokens_from}
pub use Rattle.sre_recipes.specs.Limits.{FollowedRest, Goes, SpendsOn, Stops, Takes, is_spent, one_less}
pub use Rattle.sre_recipes.specs.Matches.{match_seen, placed_group}
pub use Rattle.sre_recipes.specs.Patterns.{rest_of}
pub use Rattle.sre_recipes.specs.Slices.{captured, numbered_group}
pub use Rattle.sre_recipes.specs.Spans.{IsFound, IsSpan, Shows, StandsAt}
pub use Rattle.sre_recipes.specs.Terms.{Asked, Code, Ghosts, Gives, GivesSpan, Match, SearchIter, Shown, SpanIter}
pub use Rattle.sre_recipes.specs.Terms.{StringCursor, Tree, Whole, asked_of, chars, code_of, end_of, found, left_of}
pub use Rattle.sre_recipes.specs.Terms.{match_shown, most_items, option_map, range_with_len, request_of, shown_of}
pub use Rattle.sre_recipes.specs.Terms.{start_of, string_of, walk, words_of}
pub use Rattle.sre_recipes.specs.declared.bounds.Bounds.{Bounds}
