-- The words and the laws from elsewhere, and the words of specs/, which proofs of this crate name.
pub use Rattle.std.proofs.Common.{Bool, List, None, Option, Some, [], add-mul, ap, arith, cond, drop, false, inl, inr}
pub use Rattle.std.proofs.Common.{length, map, max, min, mul-le-mul, mul-le-mul_right, nat_eq, nat_le, nat_lt, not}
pub use Rattle.std.proofs.Common.{one-mul, refl, replicate, rules, slice_get, slice_index_or, slice_set, subst, suc}
pub use Rattle.std.proofs.Common.{sym, true, zero, ◌&&◌, ◌*◌, ◌++◌, ◌+◌, ◌-◌, ◌<◌, ◌||◌, ◌∙◌, ◌∷◌, ◌≡◌, ◌≢◌, ◌≤◌, ◌⊎◌}
pub use Rattle.std.proofs.Common.{ℕ, ⊎_elim}
pub use Rattle.std.proofs.Math.Dec.{eqb}
pub use Rattle.std.proofs.Math.Nat.{le-max_left, le-max_right, mul-le-mul_left, mul-one, mul_assoc, mul_left_comm}
pub use Rattle.std.proofs.Math.Nat.{one-le-mul}
pub use Rattle.std.proofs.lemmas.Bool.{and_parts, eqb-true, leb-true, or_left, or_parts, or_right, true≢false}
pub use Rattle.std.proofs.lemmas.Bool.Decides.{nat_tests}
pub use Rattle.std.proofs.lemmas.Grind.{flat_map-append}
pub use Rattle.std.proofs.lemmas.List.{append-nil, append_assoc, length-append, length-map, length-replicate}
pub use Rattle.std.proofs.lemmas.List.Elements.{All-from_recursion, filter-append}
pub use Rattle.std.proofs.lemmas.List.Sums.{sum_by-cons, sum_by-le}
pub use Rattle.std.proofs.lemmas.Map.Steps.{length-le_from_distinct_below}
pub use Rattle.std.specs.Bool.{⊤}
pub use Rattle.std.specs.List.{filter, flat_map, list_any, sum_by}
pub use Rattle.sre_chars.specs.Numbers.{at_number}
pub use Rattle.sre_chars.specs.declared.constants.SreAtCode.{SreAtCode}
pub use Rattle.sre_model.proofs.Bounds.{Between, Bounded, EachBetween, longest_run-fits, passes-below, ways-bounded}
pub use Rattle.sre_model.proofs.Bounds.{within-all}
pub use Rattle.sre_model.proofs.Each.{each-append, each-both, each-map, each-weaken, flat_map-flat_map}
pub use Rattle.sre_model.proofs.Opcodes.{HasRole, is_literal, item_here, item_role, look_role, reference_role}
pub use Rattle.sre_model.proofs.Opcodes.{role_here, role_same, run_role, some_test, test_kind, test_role, until_role}
pub use Rattle.sre_model.proofs.Opcodes.{at_low, opcode_within, same_at, same_opcode, same_word, word_of, word_past}
pub use Rattle.sre_model.proofs.Opcodes.{word_there, word_within}
pub use Rattle.sre_model.proofs.Foldings.{paired, tree_paired}
pub use Rattle.sre_model.proofs.Longest.{goes_on, least_short, least_there, longest_goes_on, longest_stops, run_at_most}
pub use Rattle.sre_model.proofs.Longest.{run_has, run_inside, run_none, run_passes, run_stopped}
pub use Rattle.sre_model.proofs.LoopCases.{stays, first-bounded, first_of_body-all}
pub use Rattle.sre_model.proofs.MarksApart.{SameStops}
pub use Rattle.sre_model.proofs.Passing.{other_taken, past_end, read_passes, stands_at_own}
pub use Rattle.sre_model.proofs.TreeOf.{alternative_long, branch_past, operands_past, reads_within, items_same}
pub use Rattle.sre_model.proofs.TreeOf.{same_reference_fold, test_same}
pub use Rattle.sre_model.proofs.WrittenWords.{read_tree}
pub use Rattle.sre_model.specs.Cost.{Costs, condition_cost, cost, ending, further_cost, item_cost, lazy_run_cost}
pub use Rattle.sre_model.specs.Cost.{least_cost, longer_cost, longest_run_cost, look_cost, looked_cost, more_cost}
pub use Rattle.sre_model.specs.Cost.{owed_cost, possessive_cost, reference_cost, run_cost, shorter_cost}
pub use Rattle.sre_model.specs.Folding.{Folding, of_branch, of_item, of_parts, of_tree}
pub use Rattle.sre_model.specs.Grammar.{JumpsTo, Operands, ReadsBranch, ReadsItem, TestOperands, item_opcode}
pub use Rattle.sre_model.specs.Grammar.{run_opcode, test_opcode, until_opcode}
pub use Rattle.sre_model.specs.LooksBehind.{backs, by_backs}
pub use Rattle.sre_model.specs.Loops.{first_of_body, or_here}
pub use Rattle.sre_model.specs.Marks.{group, lengthened, set_mark}
pub use Rattle.sre_model.specs.MarksSet.{by_marked_regions, by_marks, marks_in_regions, sets_mark}
pub use Rattle.sre_model.specs.Prefixes.{ReadsBehind, behind_items}
pub use Rattle.sre_model.specs.References.{asked_from, asked_to, by_groups, by_last_groups, by_references}
pub use Rattle.sre_model.specs.Regions.{by_forked_regions, by_forks, forks, has_forked_region}
pub use Rattle.sre_model.proofs.SetItems.{opcode-read}
pub use Rattle.sre_model.specs.Roles.{TestKind, begins_test}
pub use Rattle.sre_model.specs.Slots.{loop_slots}
pub use Rattle.sre_model.specs.Standing.{AreWords}
pub use Rattle.sre_model.specs.Subject.{holds_at, same_folded}
pub use Rattle.sre_model.specs.Tree.{Empty, Fold, Greedy, Item, Lazy, Negative, Only, Or, Plain, Positive, RunKind}
pub use Rattle.sre_model.specs.Tree.{Sign, Then, Trees}
pub use Rattle.sre_model.specs.TreePrices.{branch_cost, branch_steps, cost_of, other_ends, scan_price, steps_of}
pub use Rattle.sre_model.specs.Ways.{Body, branch_ways, falling, item_ways, least, longest_run, look_ways, loop_ways}
pub use Rattle.sre_model.specs.Ways.{more, most_from, ordered, possessive_more, possessive_ways, reference_ways, rising}
pub use Rattle.sre_model.specs.Ways.{run_length, run_ways, ways, within}
pub use Rattle.sre_turns.specs.Alike.{Alike, FramesAlike, LoopsAlike, counted_to, is_last, least_from}
pub use Rattle.sre_turns.specs.Asked.{AskedMark, MarksAgree, MarksAlike, OutcomesAlike, Unmarked, AlternativesAsk}
pub use Rattle.sre_turns.specs.Asked.{AreIdle, AskedByPlace, AsksAt, GroupAsked, GroupLies, LoopsAsk, MarkLeads}
pub use Rattle.sre_turns.specs.Asked.{MarkRange, MarksIdle, Matters, MattersBehind, PlacesAsk, PointAsks, RegionAsks}
pub use Rattle.sre_turns.specs.Asked.{SaysOf, SaysOfBodies, Within}
pub use Rattle.sre_turns.specs.Attempts.{Attempt}
pub use Rattle.sre_turns.specs.Board.{Choice, Cuts, Dropped, Else, Keep, Trying, bare, choice, from_region}
pub use Rattle.sre_turns.specs.Bodies.{Confined, IsConfined, LiesInBody, MarklessBody, MarklessRegions, AllConfined}
pub use Rattle.sre_turns.specs.Bodies.{BothConfined, ChoicesConfined, ConfinedInside, StandsConfined, BodyOf, ForksAt}
pub use Rattle.sre_turns.specs.Bodies.{InBody, IsBodyIn, forking, goes_behind, point_behind}
pub use Rattle.sre_turns.specs.BodyEnds.{AllMarked, CameToEnd, EndsAt, MarksStay}
pub use Rattle.sre_turns.specs.Fruit.{Fruitless, SameFruit, is_inside}
pub use Rattle.sre_turns.specs.Hopeless.{AcceptsByStop, Hopeless, MarksServe}
pub use Rattle.sre_turns.specs.Limits.{CodeAt, Coming, EndsIn, Fares, FaresAt, FaresBack, FaresBoth, FaresEnd, Going}
pub use Rattle.sre_turns.specs.Limits.{HereIn, Limit, Reopens, Settling, Splitting, Stage, Wider, attempt, earlier}
pub use Rattle.sre_turns.specs.Limits.{end_share, has_toll, pool, raised, share, spare, tried_spots, with_tried}
pub use Rattle.sre_turns.specs.Limits.{without_open, without_tried}
pub use Rattle.sre_turns.specs.Machine.{Advances, Arrives, Backs, BoardValue, Chooses, Comes, Continues, Demands}
pub use Rattle.sre_turns.specs.Machine.{DemandsAny, Ends, Excludes, Exhausted, Frame, Go, Goes, GoesBoth, GoesWith}
pub use Rattle.sre_turns.specs.Machine.{HasRun, InRole, Instruction, IsBack, Later, Moves, MovesAt, Placed, Refuses}
pub use Rattle.sre_turns.specs.Machine.{Run, Runs, SaysAccepted, Skips, SkipsBoth, Stands, Stop, StringCursor, Subject}
pub use Rattle.sre_turns.specs.Machine.{Tries, Waits, after_outcome, ends, enters, goes, kept, otherwise, outcomes}
pub use Rattle.sre_turns.specs.Machine.{outermost, splits, spot, spot_at, stops, tried, turns, with_loop, without_loop}
pub use Rattle.sre_turns.specs.Machine.{without_outcome}
pub use Rattle.sre_turns.specs.Moves.{End, Enter, Move, Split, Spot, TestMove, closing_move, to_point, Asks}
pub use Rattle.sre_turns.specs.Moves.{HasReference, MayAsk, asks, condition_place, reference_turn, AgainMove, LoopMove}
pub use Rattle.sre_turns.specs.Moves.{UntilMove, again_move, at_body, behind, enter_body, first_frame, in_order}
pub use Rattle.sre_turns.specs.Moves.{next_frame, until_move, OperandsOfRun, look, RunOperands, run_turn}
pub use Rattle.sre_turns.specs.Nested.{AllBegunBy, BegunBy, ClosesAt, IsAt, LeadsTo, Lies, LiesIn, LiesInBranch}
pub use Rattle.sre_turns.specs.Nested.{LiesInItem, Passed, by_slots, is_again, most_slots, place_of, place_under}
pub use Rattle.sre_turns.specs.Nested.{repeats, slots}
pub use Rattle.sre_turns.specs.OpenMarks.{EachOpen, open_spots}
pub use Rattle.sre_turns.specs.Prices.{Covers, again_toll, aside, bit_by, bit_toll, branch_price, end_price}
pub use Rattle.sre_turns.specs.Prices.{ends_beside, loop_toll, more_ends, price, price_of, role_at, scan_by, scan_toll}
pub use Rattle.sre_turns.specs.Prices.{split_by, split_toll, steps, steps_by, test_end, toll, toll_by}
pub use Rattle.sre_turns.specs.RunEnds.{AllPass, RunsOn}
pub use Rattle.sre_turns.specs.Settled.{Counted, Settled, SettledIn}
pub use Rattle.sre_turns.specs.Strides.{EndsBody, MayRepeat, Strides, TellsAlternatives, TellsBodies, TellsTest, Yields}
pub use Rattle.sre_turns.specs.Strides.{YieldsTo}
pub use Rattle.sre_turns.specs.Terms.{AllByRecursion, GreedyRun, HasTest, LazyRun, Marks, Opcode, Order, PossessiveRun}
pub use Rattle.sre_turns.specs.Terms.{Reads, Role, SreOpcode, Test, TestStands, Tree, Way, WholeItems, Word, char_at}
pub use Rattle.sre_turns.specs.Terms.{first, here, holds, mark_at, may_repeat, no_marks, passes, refers, role, skip}
pub use Rattle.sre_turns.specs.Terms.{unlimited, word}
pub use Rattle.sre_turns.specs.declared.Next.{Next}
pub use Rattle.sre_turns.specs.declared.Point.{Point}
pub use Rattle.sre_turns.specs.declared.Point.TheVariants.{Again, Alternatives, Inside, Longer, Shorter, Tried}
pub use Rattle.sre_turns.specs.declared.Point.TheVariants.{TriedAgain}
pub use Rattle.sre_turns.specs.declared.Region.{Region}
pub use Rattle.sre_turns.specs.declared.Region.TheVariants.{Ahead, Further, NotAhead, Owed}
