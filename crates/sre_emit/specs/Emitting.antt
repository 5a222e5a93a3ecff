-- The names that contracts and proofs of this crate use, from its own definitions and from the model of the bytecode.
-- Public clauses rest on it.
pub use Rattle.sre_chars.specs.Numbers.{opcode_number}
pub use Rattle.sre_model.specs.Ways.{unlimited}
pub use Rattle.sre_model.specs.Grammar.{Whole, WholeItems, Word, behind_block, fits_block, has_block}
pub use Rattle.sre_model.specs.Standing.{AreWords}
pub use Rattle.sre_model.specs.Width.{capped, item_width, least_width, width}
pub use Rattle.sre_model.specs.Written.{LawfulSet, LawfulSetItem, LawfulTest, LawfulTree, LawfulTrees, NumbersBelow}
pub use Rattle.sre_model.specs.Written.{alternative, branch_words, code_words, item_words, packed, repeated}
pub use Rattle.sre_model.specs.Written.{set_item_words, set_words, test_words, tree_words}
pub use Rattle.sre_model.specs.Claims.{are_overlaps, is_literal}
pub use Rattle.sre_emit.specs.Parts.{HasItemTree, HasTree, all, alternatives, depth, has_alternatives, in_order}
pub use Rattle.sre_emit.specs.Parts.{item_depth, item_has_alternatives, item_of, item_step, part_step, set_item_of}
pub use Rattle.sre_emit.specs.Parts.{some_parts, test_of, tree_of, Part, Item}
pub use Rattle.sre_emit.specs.Errors.{EmitError, Memory, TooLong, TooDeep, BadPart}
pub use Rattle.sre_emit.specs.Checked.{Causes, Checks, HaveAlternatives, HaveTrees, items_depth, parts_depth}
pub use Rattle.sre_emit.specs.Block.{block, block_prefix, block_words, has_literals_alone, is_all_literals, is_mark}
pub use Rattle.sre_emit.specs.Block.{leading, overlaps_from, plain, prefix_part, prefixed, spread}
pub use Rattle.sre_emit.specs.Emitted.{Cause, Emits, Emitted, front}
pub use Rattle.sre_emit.specs.Writing.{Held, Stops, Wrote, closed, guarded}
