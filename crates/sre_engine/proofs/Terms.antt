-- The words and the lemmas from elsewhere which several proofs of this crate cite.
pub use Rattle.std.proofs.Common.{Bool, Bor, Err, IfErr, IfOk, IfSome, IsErrAnd, IsSomeAnd, IsTrue, List, MatchOption}
pub use Rattle.std.proofs.Common.{None, Ok, OnErr, Option, Result, Some, SomeIff, [], add-mul, ap, arith, cond, drop}
pub use Rattle.std.proofs.Common.{false, inl, inr, is_some, length, length-drop, length-take, map, nat_eq, nat_le}
pub use Rattle.std.proofs.Common.{nat_lt, not, one-mul, refl, rules, slice_index, slice_range, subst, suc, sym, take}
pub use Rattle.std.proofs.Common.{true, true≢false, vec_len, zero, ◌%◌, ◌&&◌, ◌*◌, ◌++◌, ◌+◌, ◌-◌, ◌/◌, ◌<◌, ◌^◌, ◌||◌}
pub use Rattle.std.proofs.Common.{◌∙◌, ◌∷◌, ◌≡◌, ◌≢◌, ◌≤◌, ◌⊎◌, ℕ, ⊎_elim}
pub use Rattle.std.proofs.Math.Logic.{∥∥₁_elim}
pub use Rattle.std.proofs.Math.Nat.{mul-le-mul, mul-le-mul_right}
pub use Rattle.std.proofs.lemmas.Bool.{and_parts, cases_lt, leb-true}
pub use Rattle.std.proofs.lemmas.Bool.Decides.{nat_tests}
pub use Rattle.std.proofs.lemmas.List.{append-nil, length-map}
pub use Rattle.std.specs.List.{filter, flat_map}
pub use Rattle.std.specs.Prelude.{codes}
pub use Rattle.sre_board.proofs.AccountLaws.{account_few}
pub use Rattle.sre_code.proofs.AsciiMembers.{told}
pub use Rattle.sre_code.proofs.Borders.{overlaps_right}
pub use Rattle.sre_code.proofs.Checked.{code_confirmed, code_tree, items_whole, whole_items, whole_of}
pub use Rattle.sre_code.specs.Hints.{Right}
pub use Rattle.sre_machine.specs.Memos.{Begins, Recalls}
pub use Rattle.sre_machine.specs.Paying.{HoldsBits, RunSettles, RunStops, run_cost}
pub use Rattle.sre_machine.specs.Runners.{AttemptCosts, AttemptDecides, Began, IsReady, RunnerValue}
pub use Rattle.sre_model.proofs.Bounds.{longest_run-fits}
pub use Rattle.sre_model.proofs.Each.{each-cond}
pub use Rattle.sre_model.proofs.Opcodes.{HasRole, is_run, item_role, role_here, role_same, run_role, test_kind}
pub use Rattle.sre_model.proofs.Opcodes.{test_role, opcode_low, opcode_within, same_opcode, same_word, word_of}
pub use Rattle.sre_model.proofs.Opcodes.{word_within}
pub use Rattle.sre_model.proofs.FirstCharacters.{at_bars_there, at_leads, at_operand, body_leads, body_operand}
pub use Rattle.sre_model.proofs.FirstCharacters.{branch_bars, branch_there, leads_further, leads_start, leads_tree}
pub use Rattle.sre_model.proofs.FirstCharacters.{look_leads, look_operand, mark_leads, only_none, or_none, run_operand}
pub use Rattle.sre_model.proofs.FirstCharacters.{run_there, stands_up_to, tree_within, whole_stands}
pub use Rattle.sre_model.proofs.FoundLaws.{none-found}
pub use Rattle.sre_model.proofs.LeadingRuns.{none_in_run}
pub use Rattle.sre_model.proofs.LeadingWords.{RunAhead, ahead_within, behind_test, front_test, mark_ahead, run_operands}
pub use Rattle.sre_model.proofs.LeadingWords.{run_stands, run_test, test_ahead, test_further, whole_ahead}
pub use Rattle.sre_model.proofs.Longest.{run_has}
pub use Rattle.sre_model.proofs.Passing.{read_passes}
pub use Rattle.sre_model.proofs.TreeOf.{alternative_long, tree_of}
pub use Rattle.sre_model.proofs.WalkLaws.{most_matches-falls, walk-bound, walk-in_order, walk-next}
pub use Rattle.sre_model.proofs.WideWays.{EachFar, Far, narrow_none, on-far, shorter, ways-far}
pub use Rattle.sre_model.specs.Claims.{EachTestIn, FirstIn, HasFirstSet, TestIn, are_overlaps, behind_adjacent}
pub use Rattle.sre_model.specs.Claims.{behind_literals, behind_marks, behind_prefix, behind_spread, confirmed_prefix}
pub use Rattle.sre_model.specs.Claims.{has_flag, has_prefix, is_at_end, is_literal, overlap_words, prefix_length}
pub use Rattle.sre_model.specs.Claims.{prefix_skip, prefix_words, then_spread}
pub use Rattle.sre_model.specs.FirstCharacters.{is_end}
pub use Rattle.sre_model.specs.Found.{first_accepted}
pub use Rattle.sre_model.specs.Grammar.{ReadsItem, has_block, item_opcode, run_opcode, test_opcode}
pub use Rattle.sre_model.specs.Remembered.{kept_positions, sides}
pub use Rattle.sre_model.specs.Roles.{is_test_role}
pub use Rattle.sre_model.specs.Shown.{whole, window}
pub use Rattle.sre_model.specs.Tree.{Item, Single}
pub use Rattle.sre_model.specs.TreePrices.{cost_of}
pub use Rattle.sre_model.specs.TurnBounds.{most_each, turns_of}
pub use Rattle.sre_model.specs.Ways.{most_from}
pub use Rattle.sre_turns.specs.Board.{BoardValue}
pub use mathlib.Core.List.{append_assoc, map-append}
pub use Rattle.sre_engine.specs.Answers.{MayTakeMemory, Shown, answer_of, match_shown}
pub use Rattle.sre_engine.specs.Beginnings.{IsAsciiOf, first_code, first_test, has_ascii}
pub use Rattle.sre_engine.specs.Candidates.{ComparesFew, Failed, IsBare, IsCandidate, MayBegin, bare_candidate}
pub use Rattle.sre_engine.specs.Costs.{Charged, SearchCosts, most_tolls, most_waits, search_cost}
pub use Rattle.sre_engine.specs.Counts.{AreEnough, BeginsAgain, CountsUpTo, KeepsToSteps, SpentUpTo, StepsCount}
pub use Rattle.sre_engine.specs.Counts.{may_start, prefix_stands, runs_of, width_fits}
pub use Rattle.sre_engine.specs.FirstSets.{Sets, SetsOf}
pub use Rattle.sre_engine.specs.Leading.{Ahead, IsPast, IsTestAt, LeadsToCode, LeadsToTest, Wants, WantsFirst}
pub use Rattle.sre_engine.specs.Leading.{is_passed}
pub use Rattle.sre_engine.specs.Listed.{match_of}
pub use Rattle.sre_engine.specs.Members.{IsFirstSet, NextMember, is_among}
pub use Rattle.sre_engine.specs.Prefixed.{FitsAt, IsLast, IsPrefix}
pub use Rattle.sre_engine.specs.Scans.{Border, FirstSame, Fits, Front, GoesTo, Here, Longest, MovesOn, NoMatch, NoPlace}
pub use Rattle.sre_engine.specs.Scans.{Overlapping, Stands}
pub use Rattle.sre_engine.specs.Searches.{Answered, AnsweredAtOnce, CountsInside, RunsOnceAnchored}
pub use Rattle.sre_engine.specs.Starts.{BarredUpTo, Bars, IsElsewhere, IsLacking, NextStart, NoneBetween, NoneUntil}
pub use Rattle.sre_engine.specs.Starts.{NotAmong, PassesRun, PassesTo, WantedFrom}
pub use Rattle.sre_engine.specs.Terms.{Admitted, AllAdmitted, Allowance, AreInOrder, AreTold, AsciiSet, Asked}
pub use Rattle.sre_engine.specs.Terms.{BEGINNING_LINE, Code, Decides, Empty, FrontStands, Ghosts, GreedyRun, Halt}
pub use Rattle.sre_engine.specs.Terms.{Halted, HasAlternatives, HasSet, HasTree, Hints, IsCode, IsRemembered, LazyRun}
pub use Rattle.sre_engine.specs.Terms.{Leads, Marks, Match, MemoValue, NoWay, NoneOf, NotPassed, Only, Opcode, Or}
pub use Rattle.sre_engine.specs.Terms.{Plain, PossessiveRun, Reads, ReadsBranch, Refused, Remembering, Request, Role}
pub use Rattle.sre_engine.specs.Terms.{Run, RunKind, RunLeads, RunStands, RunsWithin, SetItem, Sought, SreAtCode}
pub use Rattle.sre_engine.specs.Terms.{SreOpcode, StringCursor, Subject, TakesAscii, Test, TestStands, Then, Tree}
pub use Rattle.sre_engine.specs.Terms.{TreeStands, Trees, Way, Whole, WholeItems, Word, after, asked_after, asked_of}
pub use Rattle.sre_engine.specs.Terms.{at_number, at_start, bare, begins_test, behind_block, behind_items, carrying}
pub use Rattle.sre_engine.specs.Terms.{char_at, code_of, contains, each_of, end_of, found, here, hints_of, holds}
pub use Rattle.sre_engine.specs.Terms.{holds_at, how_many, is_accepted, is_anchored, is_empty, is_limited, is_member}
pub use Rattle.sre_engine.specs.Terms.{left_of, longest_run, most_matches, most_steps, must_advance_of, no_marks}
pub use Rattle.sre_engine.specs.Terms.{outcomes, overlaps_of, passes, prefix_of, role, rows_from, run_of, set_mark}
pub use Rattle.sre_engine.specs.Terms.{skip, spells, stands_at, stands_in, start_of, step_bound, string_of, subject_of}
pub use Rattle.sre_engine.specs.Terms.{uni_of, unlimited, walk, ways, width, word, words_of}
unfoldable pub use Rattle.sre_engine.specs.Terms.{items_of}
pub use Rattle.sre_engine.specs.Walks.{GoesOn}
pub use Rattle.sre_engine.specs.Within.{AnsweredWithin}
pub use Rattle.sre_engine.specs.declared.engine.candidates.Candidate.{Candidate}
pub use Rattle.sre_engine.specs.declared.engine.first_characters.First.{First}
pub use Rattle.sre_engine.specs.declared.engine.first_characters.Wanted.TheVariants.{Characters, Set}
