-- The words and the laws from elsewhere, and the words of specs/, which proofs of this crate name.
pub use Rattle.std.proofs.Common.{Bool, Global, List, None, Option, Some, Vec, [], ap, ap₂, arith, cond, drop, false}
pub use Rattle.std.proofs.Common.{get_or, inl, inr, length, length-append, map, max, min, nat_eq, nat_lt, not, refl}
pub use Rattle.std.proofs.Common.{slice_get, slice_index, slice_range, subst, suc, sym, take, true, true≢false, zero}
pub use Rattle.std.proofs.Common.{◌&&◌, ◌*◌, ◌++◌, ◌+◌, ◌-◌, ◌<◌, ◌||◌, ◌∙◌, ◌∷◌, ◌≡◌, ◌≢◌, ◌≤◌, ◌⊎◌, ℕ, ⊎_elim}
pub use Rattle.std.proofs.lemmas.Bool.{and_parts, cases_lt, cond-true}
pub use Rattle.std.proofs.lemmas.Bool.Decides.{nat_tests}
pub use Rattle.std.proofs.lemmas.List.{append-nil, append_assoc, get_or-take, length-take-le, map-append, take-take}
pub use Rattle.std.proofs.lemmas.Option.{none-some, same_Some, slice_get-get_or, slice_get_past}
pub use Rattle.std.proofs.lemmas.Str.{len_utf8_bounds}
pub use Rattle.std.specs.Char.{IsScalar, encode_utf8, len_utf8}
pub use Rattle.std.specs.List.{AllByRecursion, flat_map}
pub use Rattle.std.specs.Option.{option_or}
pub use Rattle.regex_class.specs.Ranges.{in_ranges}
pub use Rattle.regex_hir.proofs.MatchesLemmas.{IsMinLen-le, Matches-IsSpan}
pub use Rattle.regex_hir.proofs.MeaningLemmas.{meaning-Alternation, meaning-Bytes, meaning-Chars, meaning-Concat}
pub use Rattle.regex_hir.proofs.MeaningLemmas.{meaning-Empty, meaning-Literal, meaning-Look}
pub use Rattle.regex_hir.proofs.OptionLemmas.{option_or-None, option_or_assoc, option_or_none}
pub use Rattle.regex_hir.specs.Matches.{Rounds, next_round, one_round}
pub use Rattle.regex_hir.specs.Re.{accept, byte_in, char_in, look, plus}
pub use Rattle.sre_model.proofs.Bounds.{Between, Bounded, item-bounded, longest_run-fits, passes-below, ways-bounded}
pub use Rattle.sre_model.proofs.Each.{each-both, each-cond, each-first, each-weaken}
pub use Rattle.sre_model.proofs.Opcodes.{no_item, role_here}
pub use Rattle.sre_model.proofs.TreeOf.{item_same, set_same}
pub use Rattle.sre_model.specs.Grammar.{ReadsBranch, TestOperands, skip, test_opcode, word}
pub use Rattle.sre_model.specs.Marks.{Marks, group, no_marks}
pub use Rattle.sre_model.specs.Subject.{bars_non_boundary, holds_at, is_boundary, is_on_nothing, passes}
pub use Rattle.sre_model.specs.Tree.{Charset, Negative, Sign, Then}
pub use Rattle.sre_model.specs.Ways.{branch_ways, here, loop_ways}
pub use Rattle.sre_patterns.specs.Covers.{Along, Covers, CoversBody, CoversItem, CoversStart, CoversTest, Fronts}
pub use Rattle.sre_patterns.specs.Covers.{InBytes, InUtf8, IsWider, Leads, View, place, read_bytes, read_utf8, AreKept}
pub use Rattle.sre_patterns.specs.Covers.{ExactBody, ExactTree, IsPlace, Rises}
pub use Rattle.sre_patterns.specs.Looks.{exact_look, in_ascii, look_of}
pub use Rattle.sre_patterns.specs.Patterns.{HasBelow, HasJust, alt_onto, cat_onto, position_in, view_of, is_greedy}
pub use Rattle.sre_patterns.specs.Patterns.{kind_of, most_kept, repeated}
pub use Rattle.sre_patterns.specs.Purposes.{HasFor, OnlyCovers, Serves, ServesBody, ServesItem, look_for}
pub use Rattle.sre_patterns.specs.Terms.{Body, Greedy, HasTest, IsMinLen, Item, Lazy, Look, Matches, Opcode, Order}
pub use Rattle.sre_patterns.specs.Terms.{Plain, Re, Reads, ReadsItem, RunKind, SreAtCode, SreOpcode, Subject, Table}
pub use Rattle.sre_patterns.specs.Terms.{Test, TestStands, Trace, Tree, Way, Word, alt, attempt, cat, category_number}
pub use Rattle.sre_patterns.specs.Terms.{char_at, empty, holds, item_opcode, item_ways, items_of, literal, meaning}
pub use Rattle.sre_patterns.specs.Terms.{uni_of, unlimited, until_opcode, ways}
pub use Rattle.sre_patterns.specs.declared.task.Purpose.{Purpose}
