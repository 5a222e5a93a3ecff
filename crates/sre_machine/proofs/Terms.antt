-- The words and the laws from elsewhere, and the words of specs/, which proofs of this crate name.
pub use Rattle.std.proofs.Common.{Bool, Err, IfNone, IfOk, IfSome, List, None, Ok, Option, Result, Some, [], add-mul}
pub use Rattle.std.proofs.Common.{ap, arith, cond, drop, false, inl, inr, length, map, max, min, mul-le-mul, nat_lt}
pub use Rattle.std.proofs.Common.{not, one-mul, refl, rules, slice_get, slice_index_or, slice_set, subst, suc, sym}
pub use Rattle.std.proofs.Common.{true, zero, ◌&&◌, ◌*◌, ◌++◌, ◌+◌, ◌-◌, ◌/◌, ◌<◌, ◌^◌, ◌||◌, ◌∙◌, ◌∷◌, ◌≡◌, ◌≢◌, ◌≤◌}
pub use Rattle.std.proofs.Common.{◌⊎◌, ℕ}
pub use Rattle.std.proofs.lemmas.Bool.{cases_lt, leb-true, not-true, true≢false}
pub use Rattle.std.proofs.lemmas.Bool.Decides.{nat_tests}
pub use Rattle.std.proofs.lemmas.List.{append-nil}
pub use Rattle.std.specs.List.{AllByRecursion}
pub use Rattle.std.specs.Result.{IsErrAnd}
pub use Rattle.sre_board.proofs.AccountLaws.{account_closes, account_ends, account_few, account_none, account_opens}
pub use Rattle.sre_board.proofs.AccountLaws.{account_same_ends, no_new_row}
pub use Rattle.sre_board.proofs.ChainLaws.{get_some}
pub use Rattle.sre_board.proofs.EndsKept.{end_told, none_told, right_none, right_open, right_stays}
pub use Rattle.sre_board.proofs.EndsTold.{bit_numbered, end_told_before, no_end_outside}
pub use Rattle.sre_board.proofs.Prepared.{account_prepared, bit_prepared}
pub use Rattle.sre_board.proofs.Remembering.{remembers_more, remembers_none, remembers_still}
pub use Rattle.sre_board.proofs.Rows.{rows_stay}
pub use Rattle.sre_board.specs.Accounts.{BitOf, BitsOf, IsEnded, StaysEnded, most_paid, toll_at}
pub use Rattle.sre_board.specs.Ends.{EndsRight, EndsTable, HoldsEnd, HoldsNoEnd, HoldsOpenMore}
pub use Rattle.sre_board.specs.Failures.{BitsStay, Entry, Grows, HasBit, HoldsNone, HoldsOneMore, IsOpen, KeepsSpot}
pub use Rattle.sre_board.specs.Failures.{Laid, Remembers, Roomy, RowsStay, Tells, kept_of}
pub use Rattle.sre_board.specs.declared.failures.Known.{Known}
pub use Rattle.sre_board.specs.declared.failures.Known.TheVariants.{Failed, NoBit, Open}
pub use Rattle.sre_board.specs.declared.failures.Row.{Row}
pub use Rattle.sre_chars.specs.Numbers.{at_number, category_number, opcode_number}
pub use Rattle.sre_chars.specs.Tables.{Table}
pub use Rattle.sre_chars.specs.declared.constants.SreAtCode.{SreAtCode}
pub use Rattle.sre_chars.specs.declared.constants.SreCatCode.{SreCatCode}
pub use Rattle.sre_code.proofs.AsciiMembers.{category_holds}
pub use Rattle.sre_code.proofs.Checked.{whole_items, whole_of}
pub use Rattle.sre_code.specs.AsciiSets.{AreTold, HoldsFor}
pub use Rattle.sre_code.specs.Codes.{words_of}
pub use Rattle.sre_code.specs.declared.ascii_set.AsciiSet.{AsciiSet}
pub use Rattle.sre_code.specs.declared.code.Code.{Code}
pub use Rattle.sre_model.proofs.Opcodes.{word_known, are_words, opcode_within, same_number, same_opcode, same_word}
pub use Rattle.sre_model.proofs.Opcodes.{word_of, word_there, word_within}
pub use Rattle.sre_model.proofs.Longest.{run_at_most, run_inside}
pub use Rattle.sre_model.proofs.Members.{negated, nothing_left}
pub use Rattle.sre_model.proofs.Passing.{stands_at_own}
pub use Rattle.sre_model.proofs.TreeOf.{tree_of, whole-read}
pub use Rattle.sre_model.proofs.TurnBounds.{last_spent, turn_spent}
pub use Rattle.sre_model.specs.Characters.{is_member, item_holds, verdict}
pub use Rattle.sre_model.specs.Cost.{cost, ending}
pub use Rattle.sre_model.specs.Grammar.{TestOperands, Whole, WholeItems, run_opcode, test_opcode, until_opcode}
pub use Rattle.sre_model.specs.LooksBehind.{backs, longest_lookbehind}
pub use Rattle.sre_model.specs.MarksSet.{marks_in_regions}
pub use Rattle.sre_model.specs.Prefixes.{ReadsBehind}
pub use Rattle.sre_model.specs.References.{asked_from, asked_to, no_group, refers}
pub use Rattle.sre_model.specs.Regions.{has_forked_region}
pub use Rattle.sre_model.specs.Standing.{AreWords, HasTest, TestStands}
pub use Rattle.sre_model.specs.Subject.{char_at, holds_at, passes, same_folded}
pub use Rattle.sre_model.specs.Tree.{Ascii, BigCharset, Category, Charset, Greedy, GreedyRun, Lazy, LazyRun, Negate}
pub use Rattle.sre_model.specs.Tree.{Negative, Order, Plain, Positive, PossessiveRun, Range, RangeUniIgnore, RunKind}
pub use Rattle.sre_model.specs.Tree.{SetItem, Single, Unicode}
pub use Rattle.sre_model.specs.TreePrices.{most_steps}
pub use Rattle.sre_model.specs.TurnBounds.{most_each}
pub use Rattle.sre_model.specs.Ways.{may_repeat, run_length}
pub use Rattle.sre_request.specs.Admitting.{AllAdmitted, IsAdmitted}
pub use Rattle.sre_request.specs.AsciiSets.{TakesAscii}
pub use Rattle.sre_request.specs.Requests.{code_of}
pub use Rattle.sre_request.specs.Runs.{Standing}
pub use Rattle.sre_request.specs.declared.admitted.Admitted.{Admitted}
pub use Rattle.sre_turns.proofs.Analyses.{leads_admit, IsNarrower, IsSameBut, one_place_told, told_everywhere}
pub use Rattle.sre_turns.proofs.Analyses.{whole_asks}
pub use Rattle.sre_turns.proofs.bound.Faring.{alternatives_free, longer_free, newest_tried, nothing_waits, run_code}
pub use Rattle.sre_turns.proofs.bound.Faring.{shorter_free}
pub use Rattle.sre_turns.proofs.bound.FaringInRegions.{opened_first}
pub use Rattle.sre_turns.proofs.bound.GrantedTolls.{no_scan, no_toll, split_few, toll_few}
pub use Rattle.sre_turns.proofs.bound.HereMoves.{here_forked, here_settled}
pub use Rattle.sre_turns.proofs.bound.SettledMoves.{settled_behind}
pub use Rattle.sre_turns.proofs.bound.Prices.{role_there, steps_behind}
pub use Rattle.sre_turns.proofs.memoization.Asked.{few_unmarked, from_alike}
pub use Rattle.sre_turns.proofs.memoization.Bodies.{markless_regions}
pub use Rattle.sre_turns.proofs.memoization.BodyEnds.{end_taken, tried_end}
pub use Rattle.sre_turns.proofs.memoization.Hopeless.{asked_by_stop, no_reference}
pub use Rattle.sre_turns.proofs.memoization.OpenMarks.{none_tried}
pub use Rattle.sre_turns.proofs.memoization.SameComes.{are_idle}
pub use Rattle.sre_turns.proofs.memoization.Straight.{StraightPoint, forks_never}
pub use Rattle.sre_turns.proofs.memoization.Trying.{hopeless_left, tried_hopeless, tried_waits, trying_goes}
pub use Rattle.sre_turns.proofs.memoization.Trying.{trying_tries}
pub use Rattle.sre_turns.proofs.memoization.WaitingTwice.{later_dropped}
pub use Rattle.sre_turns.proofs.semantics.GoingBack.{back_arrives, back_at, back_none, back_region, back_run}
pub use Rattle.sre_turns.proofs.semantics.GoingBack.{later_again}
pub use Rattle.sre_turns.proofs.semantics.LaterRuns.{later_goes}
pub use Rattle.sre_turns.proofs.semantics.LazyRunEnds.{lazy_next, longer_stops}
pub use Rattle.sre_turns.proofs.semantics.Moving.{arrived_at, arrived_once, at_instruction, both_choose, both_continue}
pub use Rattle.sre_turns.proofs.semantics.Moving.{both_exhausted, both_first, both_pass, both_second, both_skips}
pub use Rattle.sre_turns.proofs.semantics.Moving.{continues_exhausted, continues_goes, continues_run, continues_then}
pub use Rattle.sre_turns.proofs.semantics.Moving.{exhausted_back, later_continues, on_board, reached_within}
pub use Rattle.sre_turns.proofs.semantics.Moving.{run_nothing, skips_then}
pub use Rattle.sre_turns.proofs.semantics.NextRuns.{both_wait_there, greedy_both, greedy_only, greedy_short, lazy_both}
pub use Rattle.sre_turns.proofs.semantics.NextRuns.{lazy_only, lazy_short, possessive_on, possessive_only}
pub use Rattle.sre_turns.proofs.semantics.NextRuns.{possessive_short}
pub use Rattle.sre_turns.proofs.semantics.RunEnds.{pass_last, passed, run_next}
pub use Rattle.sre_turns.proofs.semantics.Start.{accepted_first, behind_has, first_limit, refused_over, started}
pub use Rattle.sre_turns.proofs.semantics.StepsAtItems.{at_operand, at_refused, at_step, failure_step, jump_continues}
pub use Rattle.sre_turns.proofs.semantics.StepsAtItems.{jump_operand, jump_step, literal_demands, mark_operand}
pub use Rattle.sre_turns.proofs.semantics.StepsAtItems.{mark_refuses, mark_run, mark_step, other_character}
pub use Rattle.sre_turns.proofs.semantics.StepsAtItems.{success_step, test_continues, test_misses, test_there}
pub use Rattle.sre_turns.proofs.semantics.StepsAtItems.{condition_absent, condition_present, reference_missing}
pub use Rattle.sre_turns.proofs.semantics.StepsAtItems.{reference_operand, reference_past, reference_step}
pub use Rattle.sre_turns.proofs.semantics.StepsAtItems.{reference_there, reference_unlike, alternatives_both}
pub use Rattle.sre_turns.proofs.semantics.StepsAtItems.{alternatives_exhausted, alternatives_none, alternatives_pass}
pub use Rattle.sre_turns.proofs.semantics.StepsAtItems.{alternatives_run, alternatives_there, branch_run, branch_step}
pub use Rattle.sre_turns.proofs.semantics.StepsAtItems.{positive}
pub use Rattle.sre_turns.proofs.semantics.StepsInLoops.{InLoop, entered_board, entered_on, lazy_board, repeat_begun}
pub use Rattle.sre_turns.proofs.semantics.StepsInLoops.{repeat_further, repeat_step, saved_on, taken_off, until_alone}
pub use Rattle.sre_turns.proofs.semantics.StepsInLoops.{until_below, until_done, until_greedy, until_lazy}
pub use Rattle.sre_turns.proofs.semantics.StepsInLoops.{until_operands, until_refused, until_runs}
pub use Rattle.sre_turns.proofs.semantics.StepsInRegions.{InPossessiveLoop, again_done, again_further, again_operands}
pub use Rattle.sre_turns.proofs.semantics.StepsInRegions.{again_owed, again_place, begun_board, possessive_step}
pub use Rattle.sre_turns.proofs.semantics.StepsInRegions.{ahead_early, look_operand, look_step, not_ahead_early}
pub use Rattle.sre_turns.proofs.semantics.StepsInRegions.{region_closes}
pub use Rattle.sre_turns.proofs.semantics.StepsInPossessiveRuns.{longest_short, longest_step}
pub use Rattle.sre_turns.proofs.semantics.StepsInRuns.{longer_end, longer_full, longer_passes, longer_past}
pub use Rattle.sre_turns.proofs.semantics.StepsInRuns.{longer_skips, longer_there, longer_unlike, operands_within}
pub use Rattle.sre_turns.proofs.semantics.StepsInRuns.{run_both, run_misses, run_only, run_refuses, run_runs, run_short}
pub use Rattle.sre_turns.proofs.semantics.StepsInRuns.{run_there, shorter_last, shorter_none, shorter_past}
pub use Rattle.sre_turns.proofs.semantics.StepsInRuns.{shorter_skips}
pub use Rattle.sre_turns.proofs.semantics.Strides.{body_reached, in_loop, only_yields, strides_at, strides_before}
pub use Rattle.sre_turns.proofs.semantics.Strides.{strides_goes, tells_test}
pub use Rattle.sre_turns.specs.Admitting.{AdmitsOnly, IsOutside, LeadsOnly, RepeatsOnly, RunsOnly, TestsOnly}
pub use Rattle.sre_turns.specs.Alike.{Alike}
pub use Rattle.sre_turns.specs.Asked.{AlternativesAsk, AsksAt, GroupAsked, GroupLies, Lies, MarkLeads, MarkRange}
pub use Rattle.sre_turns.specs.Asked.{PlacesAsk, Within}
pub use Rattle.sre_turns.specs.Attempts.{Attempt}
pub use Rattle.sre_turns.specs.Board.{Else, Trying, choice}
pub use Rattle.sre_turns.specs.Bodies.{MarklessRegions}
pub use Rattle.sre_turns.specs.Hopeless.{Hopeless, MarksServe}
pub use Rattle.sre_turns.specs.Limits.{CodeAt, FaresAt, Grants, attempt, earlier, open_attempts, tried_spots}
pub use Rattle.sre_turns.specs.Limits.{with_tried, without_open, without_tried}
pub use Rattle.sre_turns.specs.Machine.{Advances, Arrives, Backs, Closes, Continues, Demands, DemandsAny, Ends}
pub use Rattle.sre_turns.specs.Machine.{Exhausted, Goes, GoesBoth, HasRun, IsAt, IsBack, Later, Refuses, Runs, Skips}
pub use Rattle.sre_turns.specs.Machine.{SkipsBoth, Tries, with_loop}
pub use Rattle.sre_turns.specs.Moves.{Spot, HasReference, Named, asks}
pub use Rattle.sre_turns.specs.Nested.{most_slots, place_of, repeats}
pub use Rattle.sre_turns.specs.OpenMarks.{open_spots}
pub use Rattle.sre_turns.specs.Prices.{price_of, scan_by, scan_toll, split_toll, steps, toll}
pub use Rattle.sre_turns.specs.RunEnds.{RunsOn}
pub use Rattle.sre_turns.specs.Settled.{Counted, SettledIn}
pub use Rattle.sre_turns.specs.Strides.{Strides, TellsAlternatives, TellsBodies}
pub use Rattle.sre_turns.specs.declared.Frame.{Frame}
pub use Rattle.sre_turns.specs.declared.Point.TheVariants.{Shorter}
pub use Rattle.sre_machine.specs.Spending.{is_limited, left_of, TurnsSoFar, decision_of, found_of, told_of}
pub use Rattle.sre_machine.specs.AskedLists.{AllAsked, AreMarks, HaveAll, InstructionAsks, LetGo, any_marks}
pub use Rattle.sre_machine.specs.AskedLists.{asks_for_any, asks_of, range_of, told_or_any, AllTold}
pub use Rattle.sre_machine.specs.EndlessRuns.{AllTaken, BeginsLater, EndsFirst, HasOtherEnds, LacksLeast, NotTakenAt}
pub use Rattle.sre_machine.specs.EndlessRuns.{TakenAt, AreOperands}
pub use Rattle.sre_machine.specs.Memos.{Covers, EndsStay, KeepsEndsOf, KeepsFrom, MakesRoom, MarkedStays, MarkedValue}
pub use Rattle.sre_machine.specs.Memos.{MemoValue, Recalled, Recalls, RecallsOf}
pub use Rattle.sre_machine.specs.Paying.{AnewSettles, AnewStops, Holding, Holds, HoldsBits, HoldsTried, Pays}
pub use Rattle.sre_machine.specs.Paying.{Remembering, RunSettles, RunStops, Settles, Stops, Waited, each_of, rows_from}
pub use Rattle.sre_machine.specs.Paying.{run_cost}
pub use Rattle.sre_machine.specs.Runners.{RunnerValue}
pub use Rattle.sre_machine.specs.Terms.{Again, Alternatives, AreIdle, Asks, BoardValue, Ghosts, HoldsNoMore}
pub use Rattle.sre_machine.specs.Terms.{HoldsOpenEnds, Instruction, Kept, Limit, Longer, Marks, MayRepeat, Next, Opcode}
pub use Rattle.sre_machine.specs.Terms.{OpcodeAt, Point, Refused, Request, Run, SreOpcode, Stands, StandsWithin}
pub use Rattle.sre_machine.specs.Terms.{StringCursor, TellsEnd, Test, Tree, Way, Word, asked_of, bare, behind_items}
pub use Rattle.sre_machine.specs.Terms.{contains, end_of, is_inside, items_of, next_frame, no_marks, outcomes, raised}
pub use Rattle.sre_machine.specs.Terms.{role, run_of, skip, spot, spot_at, start_of, unlimited, word}
pub use Rattle.sre_machine.specs.Turns.{AlikeMarks, At, BringsNoTolls, EndsThere, Fails, ForksThere, GivesUp, GoesBack}
pub use Rattle.sre_machine.specs.Turns.{GoesOn, IsKeeping, KeepsBodyEnd, LeavesOrStays, NoEndTold, Proceeds}
pub use Rattle.sre_machine.specs.Turns.{RefersToGroups, Retreats, RunsAtOnce, RunsOnAt, ServesThere, StaysAt, Takes}
pub use Rattle.sre_machine.specs.Turns.{TriesKnown, TriesOn, TurnAt, TurnOnce, UnaskedMarks, scan_at}
pub use Rattle.sre_machine.specs.declared.allowance.Allowance.{Allowance}
pub use Rattle.sre_machine.specs.declared.asked_places.AskedMarks.{AskedMarks}
pub use Rattle.sre_machine.specs.declared.asked_places.AskedPlace.{AskedPlace}
pub use Rattle.sre_machine.specs.declared.character_repeats.RunOperands.{RunOperands}
pub use Rattle.sre_machine.specs.declared.trying.Keeping.{Keeping}
pub use Rattle.sre_machine.specs.declared.trying.Keeping.TheVariants.{Idle, Marked, Nothing, Unmarked}
