-- The words and the laws from elsewhere, and the words of specs/, which proofs of this crate name.
pub use Rattle.std.proofs.Common.{Bool, Err, IfSome, List, None, Ok, Option, Result, Some, [], ap, arith, bit_and}
pub use Rattle.std.proofs.Common.{bit_or, cond, drop, false, if◌then◌else◌, inl, inr, length, max, min, nat_eq, nat_le}
pub use Rattle.std.proofs.Common.{nat_lt, not, refl, slice_index, slice_range, subst, suc, sym, take, true, zero, ◌%◌}
pub use Rattle.std.proofs.Common.{◌&&◌, ◌*◌, ◌+◌, ◌-◌, ◌/◌, ◌<◌, ◌^◌, ◌||◌, ◌∙◌, ◌∷◌, ◌≡◌, ◌≢◌, ◌≤◌, ◌⊎◌, ℕ, ⊎_elim}
pub use Rattle.std.proofs.Common.{slice_set, ◌++◌, reverse, length-append, rules}
pub use Rattle.std.proofs.Math.Logic.{∥∥₁_elim, ∥∥₁_map}
pub use Rattle.std.proofs.Math.Nat.{div-mul-le_self, le-max_left, le-max_right, mul-le-mul_left, mul-le-mul_right}
pub use Rattle.std.proofs.lemmas.Bool.{agree_below, agree_below_at, and_parts, cases_eq, cases_lt, eq-eqb, le-ltb}
pub use Rattle.std.proofs.lemmas.Bool.{lt-ltb, ne_eqb, or_parts, or_right, true≢false}
pub use Rattle.std.proofs.lemmas.Bool.Decides.{nat_tests}
pub use Rattle.std.proofs.lemmas.Grind.{common_steps}
pub use Rattle.std.proofs.lemmas.Result.{err_from_is_err_and}
pub use Rattle.sre_chars.specs.Numbers.{at_number, opcode_number}
pub use Rattle.sre_chars.specs.declared.constants.SreAtCode.{SreAtCode}
pub use Rattle.sre_chars.specs.declared.constants.SreCatCode.{SreCatCode}
pub use Rattle.sre_chars.specs.declared.constants.SreOpcode.TheVariants.{NEGATE}
pub use Rattle.sre_model.proofs.Opcodes.{category_unlike, category_within, opcode_unlike, word_known, HasRole}
pub use Rattle.sre_model.proofs.Opcodes.{item_here, item_role, no_item, role_here, test_here, are_words, at_low}
pub use Rattle.sre_model.proofs.Opcodes.{category_low, opcode_low, opcode_moved, opcode_within, same_opcode, word_at}
pub use Rattle.sre_model.proofs.Opcodes.{word_moved, word_of, word_past, word_there, word_within}
pub use Rattle.sre_model.proofs.Members.{big_charset_says, big_charset_there, category_says, category_there}
pub use Rattle.sre_model.proofs.Members.{charset_room, charset_says, folded_range_room, folded_range_says, left_all}
pub use Rattle.sre_model.proofs.Members.{left_nothing, left_past, left_there, left_turned, negated, nothing_left}
pub use Rattle.sre_model.proofs.Members.{only_items, range_room, range_says, set_begins, single_room, single_says}
pub use Rattle.sre_model.proofs.TreeOf.{alternative_long, branch_past, operands_past, reads_moved, reads_nothing}
pub use Rattle.sre_model.proofs.TreeOf.{reads_within, set_within, test_past, item_same, test_same}
pub use Rattle.sre_model.proofs.TreeOf.{whole_same}
pub use Rattle.sre_model.proofs.Props.{kept_tree}
pub use Rattle.sre_model.proofs.WideWays.{width_held}
pub use Rattle.sre_model.specs.Claims.{are_overlaps, behind_adjacent, behind_literals, behind_spread, has_flag}
pub use Rattle.sre_model.specs.Folding.{Folding, of_branch, of_item, of_parts, of_tree}
pub use Rattle.sre_model.specs.Grammar.{AreItems, BlocksBelow, BytesBelow, JumpsTo, ReadsItem, ReadsSet, TestOperands}
pub use Rattle.sre_model.specs.Grammar.{bytes_of, has_block, item_opcode, literal_opcode, not_literal_opcode}
pub use Rattle.sre_model.specs.Grammar.{run_opcode, set_opcode, test_opcode, until_opcode}
pub use Rattle.sre_model.specs.MarksSet.{by_marked_regions, by_marks, sets_mark}
pub use Rattle.sre_model.specs.References.{by_references}
pub use Rattle.sre_model.specs.Tree.{Ascii, Empty, Fold, GreedyRun, LazyRun, Locale, Negative, Only, Or, Plain}
pub use Rattle.sre_model.specs.Tree.{Positive, PossessiveRun, RunKind, Sign, Then, Unicode}
pub use Rattle.sre_model.specs.TreePrices.{branch_cost, branch_steps, cost_of, item_cost, item_steps, most_steps}
pub use Rattle.sre_model.specs.TreePrices.{scan_price, steps_of}
pub use Rattle.sre_model.specs.Width.{item_width}
pub use Rattle.sre_code.specs.AsciiSet.{contains}
pub use Rattle.sre_code.specs.AsciiSets.{AsciiLeft}
pub use Rattle.sre_code.specs.Hints.{Border, Longest, Right, RightUpTo, Fronts, HasBlock, Ends, IsLiteralAt, LeftAt}
pub use Rattle.sre_code.specs.Hints.{LeftBehind, MarksPassed, NoneLeft, Tells, TellsEach, IsSetUpTo}
pub use Rattle.sre_code.specs.Bounds.{CountedTold, room_by}
pub use Rattle.sre_code.specs.Codes.{words_of}
pub use Rattle.sre_code.specs.Descent.{Fails, HasWhole, Same, StackRest, WholeFrom, work}
pub use Rattle.sre_code.specs.Hinted.{Confirmed}
pub use Rattle.sre_code.specs.Scans.{Behind, NoneBehind, own_words, AreTold, ToldAt, IsSummary, forking, noted}
pub use Rattle.sre_code.specs.Prices.{AreHeld, BodyPriced, IsHeld, IsItemPrice, IsPrice, ItemPriced, PricedAt, PricedBy}
pub use Rattle.sre_code.specs.Prices.{TreePriced, closed_price, cost_at, joined, kind_of, loop_price, passed}
pub use Rattle.sre_code.specs.Prices.{possessive_price, run_price, steps_at, straight_price, Held}
pub use Rattle.sre_code.specs.Reading.{FoldedAt, IsFault, IsSet, NoCode, NoSet, NoSetItem, NoTest, ReadsTest, SameSets}
pub use Rattle.sre_code.specs.Reading.{SetAt, SetItemEnds, SetItemExactly, TestEnds, TestExactly}
pub use Rattle.sre_code.specs.Steps.{BoundsExactly, Closes, Closing, Else, EndGives, Exactly, IsEnd, IsInside, IsUntil}
pub use Rattle.sre_code.specs.Steps.{ItemAt, Leaves, LookAt, More, MoreAt, NoTrees, Nowhere, OnlyTests, Remains, RunAt}
pub use Rattle.sre_code.specs.Steps.{TreesAt, Unclosed, next}
pub use Rattle.sre_code.specs.Terms.{Charset, Decides, HasFirstSet, HasSet, IsCode, Item, Opcode, Operands, Order}
pub use Rattle.sre_code.specs.Terms.{Reads, ReadsBranch, Role, SetItem, SetStands, SreOpcode, Table, Test, Tree, Trees}
pub use Rattle.sre_code.specs.Terms.{Whole, WholeItems, Word, behind_block, behind_marks, bit_at, capped, category}
pub use Rattle.sre_code.specs.Terms.{category_number, is_end, is_member, loop_slots, marks_in_regions, most_slots}
pub use Rattle.sre_code.specs.Terms.{nesting, refers, role, skip, width, word}
pub use Rattle.sre_code.specs.declared.ascii_set.AsciiSet.{AsciiSet}
pub use Rattle.sre_code.specs.declared.code.Hints.{Hints}
pub use Rattle.sre_code.specs.declared.code.error.CodeError.{CodeError}
pub use Rattle.sre_code.specs.declared.code.error.CodeError.TheVariants.{BadItem, BadSet, Memory}
pub use Rattle.sre_code.specs.declared.code.prices.Kind.{Kind}
pub use Rattle.sre_code.specs.declared.code.prices.Price.{Price}
pub use Rattle.sre_code.specs.declared.code.prices.PricedItem.{PricedItem}
pub use Rattle.sre_code.specs.declared.code.prices.Prices.{Prices}
pub use Rattle.sre_code.specs.declared.code.step.Part.{Part}
pub use Rattle.sre_code.specs.declared.code.step.Step.{Step}
pub use Rattle.sre_code.specs.declared.code.step.Step.TheVariants.{Opens, Past}
pub use Rattle.sre_code.specs.declared.code.summary.Summary.{Summary}
pub use Rattle.sre_chars.specs.Tables.{is_between, ascii_table}
pub use Rattle.sre_model.specs.LooksBehind.{by_backs, by_longest, backs, longest_lookbehind}
pub use Rattle.sre_model.specs.Standing.{HasTest, ItemSays, AreWords, VerdictLeft}
pub use Rattle.std.proofs.Math.Bool.{or-true, or-false, or_assoc, and_comm}
