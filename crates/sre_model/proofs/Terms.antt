-- The words and the laws from elsewhere, and the words of specs/, which proofs of this crate name.
pub use Rattle.std.proofs.Common.{Bool, List, None, Option, Some, [], ap, ap₂, arith, cond, drop, false, inl, inr}
pub use Rattle.std.proofs.Common.{length, length-append, map, max, min, nat_eq, nat_le, nat_lt, not, refl, slice_index}
pub use Rattle.std.proofs.Common.{slice_index_or, slice_range, subst, suc, sym, take, true, true≢false, zero, ℕ, ◌%◌}
pub use Rattle.std.proofs.Common.{◌&&◌, ◌*◌, ◌++◌, ◌+◌, ◌-◌, ◌/◌, ◌<◌, ◌^◌, ◌||◌, ◌∙◌, ◌∷◌, ◌≡◌, ◌≢◌, ◌≤◌, ◌⊎◌}
pub use Rattle.std.proofs.Math.Logic.{∥∥₁_elim}
pub use Rattle.std.proofs.Math.Nat.{mul-le-mul, mul-le-mul_left, mul-le-mul_right}
pub use Rattle.std.proofs.Math.Seq.{drop-cons, take-append_seam}
pub use Rattle.std.proofs.Props.{props}
pub use Rattle.std.proofs.lemmas.Bool.{and_parts, cases_Bool, cases_lt, leb-true, or_parts}
pub use Rattle.std.proofs.lemmas.Bool.Decides.{nat_tests}
pub use Rattle.std.proofs.lemmas.Grind.{flat_map-append}
pub use Rattle.std.proofs.lemmas.List.{append-nil, append_assoc, drop_all, ext_get_or, get_or-drop, get_or-take}
pub use Rattle.std.proofs.lemmas.List.{get_or_past, length-take-le}
pub use Rattle.std.proofs.lemmas.List.Concat.{get_or-flat_map}
pub use Rattle.std.proofs.lemmas.List.Folds.{drop_split}
pub use Rattle.std.proofs.lemmas.Option.{get_or_from_slice_get, same_Some, slice_get-get_or, slice_get_within}
pub use Rattle.std.specs.List.{AllByRecursion, filter, flat_map}
pub use Rattle.std.specs.Prelude.{replicate}
pub use Rattle.sre_chars.specs.Categories.{category}
pub use Rattle.sre_chars.specs.Numbers.{at_number, category_number, opcode_number}
pub use Rattle.sre_chars.specs.Tables.{Table, ascii_table, is_between}
pub use Rattle.sre_chars.specs.declared.constants.SreAtCode.{SreAtCode}
pub use Rattle.sre_chars.specs.declared.constants.SreAtCode.TheVariants.{END}
pub use Rattle.sre_chars.specs.declared.constants.SreCatCode.{SreCatCode}
pub use Rattle.sre_chars.specs.declared.constants.SreCatCode.TheVariants.{UNI_NOT_LINEBREAK, WORD}
pub use Rattle.sre_chars.specs.declared.constants.SreOpcode.{SreOpcode}
pub use Rattle.sre_chars.specs.declared.string.StringCursor.{StringCursor}
pub use mathlib.Core.Bool.{beq}
pub use mathlib.Core.HLevel.{is_prop→PathP}
pub use Rattle.sre_model.specs.Characters.{holds, is_member, item_holds, verdict}
pub use Rattle.sre_model.specs.Claims.{EachTestIn, FirstIn, HasFirstSet, TestIn, behind_marks, border_length}
pub use Rattle.sre_model.specs.Claims.{confirmed_prefix, confirmed_width, has_flag, is_literal}
pub use Rattle.sre_model.specs.LeadingRuns.{Ended, FrontStands, NoneEnds, RunLeads, RunStands, front_length}
pub use Rattle.sre_model.specs.LeadingRuns.{front_passes}
pub use Rattle.sre_model.specs.FirstCharacters.{TreeStands, is_end}
pub use Rattle.sre_model.specs.Folding.{Folding, of_branch, of_item, of_parts, of_tree}
pub use Rattle.sre_model.specs.Found.{Asked, Match, asked_after, at_start, first_accepted, found, found_from}
pub use Rattle.sre_model.specs.Found.{is_accepted, subject_of, walk}
pub use Rattle.sre_model.specs.Grammar.{BlocksBelow, BytesBelow, IsCode, JumpsTo, Opcode, Operands, Reads, ReadsBranch}
pub use Rattle.sre_model.specs.Grammar.{ReadsItem, ReadsSet, TestOperands, Whole, WholeItems, Word, behind_block}
pub use Rattle.sre_model.specs.Grammar.{bytes_of, fits_block, has_block, item_opcode, run_opcode, skip, test_opcode}
pub use Rattle.sre_model.specs.Grammar.{until_opcode, word}
pub use Rattle.sre_model.specs.Written.{LawfulTree, branch_words, code_words, item_words, packed, repeated, set_words}
pub use Rattle.sre_model.specs.Written.{test_words, tree_words}
pub use Rattle.sre_model.specs.Loops.{first_of_body, followed, loop_from, or_here}
pub use Rattle.sre_model.specs.Marks.{Marks, group, no_marks, set_mark}
pub use Rattle.sre_model.specs.References.{by_references, refers}
pub use Rattle.sre_model.specs.Remembered.{IsRemembered, kept_positions, looks_at_most, sides, step_bound}
pub use Rattle.sre_model.specs.Remembered.{words_at_place}
pub use Rattle.sre_model.specs.Roles.{Role, TestKind, begins_test, is_test_role, numbered, opcode_at, role}
pub use Rattle.sre_model.specs.Shown.{a, b, c, d, is_a, items}
pub use Rattle.sre_model.specs.Slots.{counted_to, loop_slots, most_slots}
pub use Rattle.sre_model.specs.Standing.{AreWords, HasCategory, HasSet, HasTest, ItemSays, SetStands, TestStands}
pub use Rattle.sre_model.specs.Standing.{VerdictLeft}
pub use Rattle.sre_model.specs.Subject.{Subject, char_at, holds_at, passes, same_folded}
pub use Rattle.sre_model.specs.Tree.{Ascii, BigCharset, Category, Charset, Empty, Fold, Greedy, GreedyRun, Item, Lazy}
pub use Rattle.sre_model.specs.Tree.{LazyRun, Locale, Negate, Negative, Only, Or, Order, Plain, Positive, PossessiveRun}
pub use Rattle.sre_model.specs.Tree.{Range, RangeUniIgnore, RunKind, SetItem, Sign, Single, Test, Then, Tree, Trees}
pub use Rattle.sre_model.specs.Tree.{Unicode}
pub use Rattle.sre_model.specs.TreePrices.{branch_cost, cost_of, item_cost, most_steps, other_ends, scan_price}
pub use Rattle.sre_model.specs.TreePrices.{steps_of}
pub use Rattle.sre_model.specs.WalkBounds.{AreInOrder, most_matches}
pub use Rattle.sre_model.specs.Ways.{Body, Way, branch_ways, counts, falling, first, here, item_ways, least}
pub use Rattle.sre_model.specs.Ways.{longest_run, look_ways, loop_ways, may_repeat, more, most_from, ordered}
pub use Rattle.sre_model.specs.Ways.{possessive_more, possessive_ways, reference_ways, rising, run_length, run_ways}
pub use Rattle.sre_model.specs.Ways.{unlimited, ways, within}
pub use Rattle.sre_model.specs.Width.{item_width, least_width, width}
