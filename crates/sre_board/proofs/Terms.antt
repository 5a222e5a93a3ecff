-- The words and the laws from elsewhere, and the words of specs/, which proofs of this crate name.
pub use Rattle.std.proofs.Common.{Bool, Err, IfNone, IfOk, List, None, Ok, Option, Result, Some, [], add-zero, ap}
pub use Rattle.std.proofs.Common.{append_assoc, arith, cond, drop, false, get_or, inl, inr, is_ok, length}
pub use Rattle.std.proofs.Common.{length-append, map, min, nat_eq, not, option_map, refl, replicate, reverse, rules}
pub use Rattle.std.proofs.Common.{slice_get, slice_index, slice_index_or, slice_set, subst, suc, sym, take, true, w64}
pub use Rattle.std.proofs.Common.{zero, ◌%◌, ◌*◌, ◌++◌, ◌+◌, ◌-◌, ◌/◌, ◌<◌, ◌^◌, ◌↔◌, ◌∙◌, ◌∷◌, ◌≡◌, ◌≢◌, ◌≤◌, ◌⊎◌, ℕ}
pub use Rattle.std.proofs.Math.ListN.{get_or-append}
pub use Rattle.std.proofs.Math.Nat.{mul-le-mul_left, mul-le-mul_right, mul_assoc}
pub use Rattle.std.proofs.Math.Seq.{get_or-append_seam, take-append_seam}
pub use Rattle.std.proofs.lemmas.Bool.{cases_eq, cases_lt, true≢false}
pub use Rattle.std.proofs.lemmas.Bool.Decides.{eqb_tells, leb_tells, nat_tests}
pub use Rattle.std.proofs.lemmas.List.{append-nil, drop_all, drop_more, get_or-append_right, get_or-reverse}
pub use Rattle.std.proofs.lemmas.List.{get_or-set_other, get_or-set_same, get_or-take, get_or_append_left, get_or_past}
pub use Rattle.std.proofs.lemmas.List.{get_or_read, length-map, length-replicate, length-reverse, length-take-le}
pub use Rattle.std.proofs.lemmas.List.{reverse-append, set-append_right, set-get_or, set-set, take-append-drop}
pub use Rattle.std.proofs.lemmas.Nat.{same_from_place}
pub use Rattle.std.proofs.lemmas.Nat.Bits.{bit_at-zero, bit_at_set_other, bit_at_set_same}
pub use Rattle.std.proofs.lemmas.Option.{get_or_from_slice_get, same_Some, slice_get-get_or, slice_get-map}
pub use Rattle.std.proofs.lemmas.Option.{slice_get_cases, slice_get_read, slice_get_within}
pub use Rattle.std.proofs.lemmas.Result.{IfOk-weaker}
pub use Rattle.std.specs.Prelude.{bit_or}
pub use Rattle.sre_model.specs.Grammar.{Operands, Reads, WholeItems, Word, word}
pub use Rattle.sre_model.specs.Regions.{has_forked_region}
pub use Rattle.sre_turns.proofs.bound.NestedPlaces.{placed_from, same_number, same_point, same_station}
pub use Rattle.sre_turns.specs.Alike.{Alike, FramesAlike, LoopsAlike, counted_to, is_last, least_from}
pub use Rattle.sre_turns.specs.Attempts.{Attempt}
pub use Rattle.sre_turns.specs.Board.{Cuts, Dropped, Else, Keep, from_region}
pub use Rattle.sre_turns.specs.Nested.{AllBegunBy, BegunBy, LiesIn, Passed}
pub use Rattle.sre_turns.specs.OpenMarks.{EachOpen, open_spots}
pub use Rattle.sre_turns.specs.Settled.{Counted, SettledIn}
pub use Rattle.sre_turns.specs.declared.Region.{Region}
pub use Rattle.sre_board.specs.Accounts.{Account, BitOf, BitsOf, IsEnded, IsOwned, IsRoomy, IsSet, Room, RowLies}
pub use Rattle.sre_board.specs.Accounts.{StaysEnded, charge, most_paid, positions_of, toll_at}
pub use Rattle.sre_board.specs.Choices.{Apart, IsIn, Fits, board_of, choice_of, down_to_region, is_tried, regions_in}
pub use Rattle.sre_board.specs.Choices.{regions_of, SameUpTo, SetsMark, Trail, past_of, states, trail_of, undo, undone}
pub use Rattle.sre_board.specs.Ends.{EndRight, EndsRight, EndsTable, HasEnd, HoldsEnd, HoldsNoEnd, HoldsOpenEnds}
pub use Rattle.sre_board.specs.Ends.{HoldsOpenMore, HoldsSpotMore, IsOpenSpot, KeepsOpenEnds, KeepsSpotEnds, NumberOf}
pub use Rattle.sre_board.specs.Ends.{TellsEnd, end_at, page_at, table_of}
pub use Rattle.sre_board.specs.Failures.{AreRead, BitsKept, BitsStay, Capacity, Entry, Grows, HasBit, HasNoRow, HasRow}
pub use Rattle.sre_board.specs.Failures.{HasShape, HasSlot, HasSlots, HoldsNoMore, HoldsNone, HoldsOneMore, HoldsStill}
pub use Rattle.sre_board.specs.Failures.{IsOpen, IsPassed, Kept, Laid, NewRow, Numbered, OneRowMore, Remembers, Roomy}
pub use Rattle.sre_board.specs.Failures.{RowFor, RowsStay, Sets, WordsThere, counted_at, digit, kept_of, most_words}
pub use Rattle.sre_board.specs.Failures.{ones_below, radix}
pub use Rattle.sre_board.specs.Terms.{AllByRecursion, BoardValue, Choice, Frame, Inside, Instruction, Lies, Marks}
pub use Rattle.sre_board.specs.Terms.{Point, Run, Spot, StringCursor, Tried, TriedAgain, Trying, bit_at, choice}
pub use Rattle.sre_board.specs.Terms.{is_again, lengthened, mark_at, most_slots, no_marks, place_of, place_under}
pub use Rattle.sre_board.specs.Terms.{repeats, set_mark, slots, spot_at, sum_by}
pub use Rattle.sre_board.specs.declared.failures.Row.{Row}
pub use Rattle.sre_board.specs.declared.saved.Saved.{Saved}
