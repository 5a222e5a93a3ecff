-- The words from elsewhere which contracts and definitions of this crate name.
pub use Rattle.std.specs.Bool.{Decides}
pub use Rattle.std.specs.Int.{bit_at}
pub use Rattle.std.specs.List.{flat_map}
pub use Rattle.sre_chars.specs.Categories.{category}
pub use Rattle.sre_chars.specs.Numbers.{category_number}
pub use Rattle.sre_chars.specs.Tables.{Table, is_between}
pub use Rattle.sre_chars.specs.declared.constants.SreOpcode.{SreOpcode}
pub use Rattle.sre_growth.specs.Refusal.{Refused}
pub use Rattle.sre_model.specs.Characters.{is_member, item_holds, verdict}
pub use Rattle.sre_model.specs.Claims.{EachTestIn, FirstIn, HasFirstSet, TestIn, are_overlaps, behind_marks}
pub use Rattle.sre_model.specs.Claims.{behind_prefix, confirmed_width, is_literal}
pub use Rattle.sre_model.specs.FirstCharacters.{is_end}
pub use Rattle.sre_model.specs.Folding.{of_item}
pub use Rattle.sre_model.specs.Found.{Asked}
pub use Rattle.sre_model.specs.Grammar.{BlocksBelow, BytesBelow, IsCode, JumpsTo, Opcode, Operands, Reads, ReadsBranch}
pub use Rattle.sre_model.specs.Grammar.{ReadsItem, ReadsSet, TestOperands, Whole, WholeItems, Word, behind_block}
pub use Rattle.sre_model.specs.Grammar.{bytes_of, fits_block, has_block, run_opcode, skip, test_opcode, until_opcode}
pub use Rattle.sre_model.specs.Grammar.{word}
pub use Rattle.sre_model.specs.LooksBehind.{backs, longest_lookbehind}
pub use Rattle.sre_model.specs.MarksSet.{marks_in_regions}
pub use Rattle.sre_model.specs.Nesting.{by_nesting, nesting}
pub use Rattle.sre_model.specs.References.{asked_from, asked_to, by_references, no_group, refers}
pub use Rattle.sre_model.specs.Regions.{has_forked_region}
pub use Rattle.sre_model.specs.Remembered.{IsRemembered, sides, step_bound}
pub use Rattle.sre_model.specs.Roles.{Role, role}
pub use Rattle.sre_model.specs.Slots.{counted_to, loop_slots, most_slots}
pub use Rattle.sre_model.specs.Standing.{AreWords, HasCategory, HasSet, ItemSays, SetStands}
pub use Rattle.sre_model.specs.Tree.{BigCharset, Charset, Empty, Fold, Item, Order, PossessiveRun, RangeUniIgnore}
pub use Rattle.sre_model.specs.Tree.{RunKind, SetItem, Sign, Test, Tree, Trees}
pub use Rattle.sre_model.specs.TreePrices.{cost_of, item_cost, item_steps, most_steps, other_ends, scan_price, steps_of}
pub use Rattle.sre_model.specs.Width.{capped, item_width, least_width, width}
