-- The words from elsewhere which contracts and definitions of this crate name.
pub use Rattle.sre_chars.specs.declared.string.StringCursor.{StringCursor}
pub use Rattle.sre_model.specs.Marks.{Marks, group, index_of, lengthened, mark_at, no_marks, set_mark}
pub use Rattle.sre_model.specs.Runs.{Run}
pub use Rattle.sre_turns.specs.Board.{BoardValue, Choice, MayBeTried, Trying, choice}
pub use Rattle.sre_turns.specs.Moves.{Spot, spot_at}
pub use Rattle.sre_turns.specs.Nested.{Lies, is_again, most_slots, place_of, place_under, repeats, slots}
pub use Rattle.sre_turns.specs.declared.Frame.{Frame}
pub use Rattle.sre_turns.specs.declared.Point.{Point}
pub use Rattle.sre_turns.specs.declared.Point.TheVariants.{Again, Inside, Instruction, Tried, TriedAgain}
pub use Rattle.std.specs.Int.{bit_at}
pub use Rattle.std.specs.List.{AllByRecursion, sum_by}
