-- The words from elsewhere which contracts and definitions of this crate name.
pub use Rattle.std.specs.List.{AllByRecursion}
pub use Rattle.sre_board.specs.Accounts.{Account, Room, most_paid}
pub use Rattle.sre_board.specs.Ends.{EndsRight, EndsTable, HoldsNoEnd, HoldsOpenEnds, HoldsOpenMore, KeepsOpenEnds}
pub use Rattle.sre_board.specs.Ends.{TellsEnd}
pub use Rattle.sre_board.specs.Failures.{Capacity, Grows, HasRow, HasSlots, HoldsNoMore, HoldsNone, HoldsOneMore}
pub use Rattle.sre_board.specs.Failures.{KeepsSpot, Kept, Laid, NewRow, Remembers, Roomy, Tells, kept_of}
pub use Rattle.sre_board.specs.declared.failures.Known.{Known}
pub use Rattle.sre_board.specs.declared.failures.Known.TheVariants.{Failed, NoBit, Open}
pub use Rattle.sre_chars.specs.Numbers.{opcode_number}
pub use Rattle.sre_chars.specs.Tables.{Table}
pub use Rattle.sre_chars.specs.declared.constants.SreOpcode.{SreOpcode}
pub use Rattle.sre_chars.specs.declared.string.StrDrive.{Ghosts}
pub use Rattle.sre_chars.specs.declared.string.StringCursor.{StringCursor}
pub use Rattle.sre_code.specs.AsciiSet.{contains}
pub use Rattle.sre_code.specs.AsciiSets.{AreTold, HoldsFor}
pub use Rattle.sre_code.specs.Codes.{items_of}
pub use Rattle.sre_code.specs.declared.ascii_set.AsciiSet.{AsciiSet}
pub use Rattle.sre_growth.specs.Refusal.{Refused}
pub use Rattle.sre_model.specs.Characters.{item_holds}
pub use Rattle.sre_model.specs.Grammar.{Opcode, WholeItems, Word, skip, until_opcode, word}
pub use Rattle.sre_model.specs.LooksBehind.{backs, longest_lookbehind}
pub use Rattle.sre_model.specs.Marks.{Marks, mark_at, no_marks}
pub use Rattle.sre_model.specs.MarksSet.{marks_in_regions}
pub use Rattle.sre_model.specs.Prefixes.{ReadsBehind, behind_items}
pub use Rattle.sre_model.specs.References.{refers}
pub use Rattle.sre_model.specs.Regions.{has_forked_region}
pub use Rattle.sre_model.specs.Roles.{begins_test, role}
pub use Rattle.sre_model.specs.Runs.{Run}
pub use Rattle.sre_model.specs.Standing.{TestStands}
pub use Rattle.sre_model.specs.Subject.{passes}
pub use Rattle.sre_model.specs.Tree.{Charset, Order, Test, Tree}
pub use Rattle.sre_model.specs.TreePrices.{most_steps}
pub use Rattle.sre_model.specs.TurnBounds.{most_each, turns_of}
pub use Rattle.sre_model.specs.Ways.{Way, may_repeat, run_length, unlimited}
pub use Rattle.sre_request.specs.Admitting.{AllAdmitted}
pub use Rattle.sre_request.specs.Reads.{TestStandsAt, WordAt, character_at, test_takes}
pub use Rattle.sre_request.specs.Requests.{asked_of, end_of, start_of}
pub use Rattle.sre_request.specs.Runs.{OpcodeAt, Standing, TestAt, run_of}
pub use Rattle.sre_request.specs.declared.request.Request.{Request}
pub use Rattle.sre_turns.specs.Admitting.{AdmitsOnly, HasAll, RepeatsOnly, RunsOnly, TestsOnly}
pub use Rattle.sre_turns.specs.Asked.{MarksAlike, Unmarked, AlternativesAsk, AreIdle, GroupAsked, GroupLies, MarkLeads}
pub use Rattle.sre_turns.specs.Asked.{MarksIdle, SaysOf}
pub use Rattle.sre_turns.specs.Attempts.{Attempt}
pub use Rattle.sre_turns.specs.Board.{BoardValue, MayBeTried, Trying, bare, from_region}
pub use Rattle.sre_turns.specs.Bodies.{MarklessRegions, ForksAt}
pub use Rattle.sre_turns.specs.BodyEnds.{EndsAt}
pub use Rattle.sre_turns.specs.Fruit.{is_inside}
pub use Rattle.sre_turns.specs.Hopeless.{Hopeless, MarksServe}
pub use Rattle.sre_turns.specs.Limits.{CodeAt, Grants, Limit, attempt, has_toll, raised}
pub use Rattle.sre_turns.specs.Machine.{Advances, Arrives, Backs, Chooses, Closes, Continues, Decides, DemandsAny, Ends}
pub use Rattle.sre_turns.specs.Machine.{Excludes, Exhausted, Goes, HasRun, IsAt, IsBack, IsRead, Later, Refuses}
pub use Rattle.sre_turns.specs.Machine.{SaysAccepted, SkipsBoth, Stands, StandsWithin, Tries, after_outcome, outcomes}
pub use Rattle.sre_turns.specs.Machine.{spot, with_loop, without_loop, without_outcome}
pub use Rattle.sre_turns.specs.Moves.{spot_at, Asks, HasReference, Named, asks, next_frame, OperandsOfRun}
pub use Rattle.sre_turns.specs.Nested.{place_under, repeats}
pub use Rattle.sre_turns.specs.Prices.{scan_toll}
pub use Rattle.sre_turns.specs.RunEnds.{AllPass, RunsOn}
pub use Rattle.sre_turns.specs.Settled.{Counted}
pub use Rattle.sre_turns.specs.Strides.{MayRepeat, TellsBodies, TellsTest, YieldsTo}
pub use Rattle.sre_turns.specs.declared.Next.{Next}
pub use Rattle.sre_turns.specs.declared.Point.{Point}
pub use Rattle.sre_turns.specs.declared.Point.TheVariants.{Again, Alternatives, Instruction, Longer, Shorter}
