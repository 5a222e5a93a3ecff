-- The words and the laws from elsewhere, and the words of specs/, which proofs of this crate name.
pub use Rattle.std.proofs.Common.{Bool, List, None, Option, Some, [], add-one, ap, arith, cond, count_by, drop, false}
pub use Rattle.std.proofs.Common.{get_or, if◌then◌else◌, inl, inr, length, length-append, map, refl, rules, subst, suc}
pub use Rattle.std.proofs.Common.{sym, take, true, unwrap_or, zero, ℕ, ◌&&◌, ◌++◌, ◌+◌, ◌-◌, ◌/◌, ◌<◌, ◌==◌, ◌||◌, ◌∙◌}
pub use Rattle.std.proofs.Common.{◌∷◌, ◌≡◌, ◌≢◌, ◌≤◌}
pub use Rattle.std.proofs.Math.ListN.{get_or-map}
pub use Rattle.std.proofs.Math.Seq.{drop-append_seam, drop-cons, drop-nil, get_or-append_seam, take-add}
pub use Rattle.std.proofs.Math.Seq.{take-append_seam, take-suc}
pub use Rattle.std.proofs.Math.Utf8.{scalar_cases}
pub use Rattle.std.proofs.lemmas.Bool.{and_parts, cases_lt, le-ltb, lt-ltb}
pub use Rattle.std.proofs.lemmas.Bool.Decides.{nat_tests}
pub use Rattle.std.proofs.lemmas.List.{append-nil, append_assoc, get_or-drop, get_or-take, length-drop, length-map}
pub use Rattle.std.proofs.lemmas.List.{length-take-le, same_from_push, take-append-drop, take-take, take_rest}
pub use Rattle.std.proofs.lemmas.List.Sorted.{IsNonDecreasingBy-take, IsPartitionPoint-from_clause, IsPartitionedBy-leb}
pub use Rattle.std.proofs.lemmas.List.Sums.{count_by-le-length, count_by_more_yes, sum_by-append, sum_by-take-drop}
pub use Rattle.std.proofs.lemmas.Str.{IsCharBoundary-at_seam, IsCharBoundary-before_ascii, IsUtf8-take, chars-append}
pub use Rattle.std.proofs.lemmas.Str.{chars_from_encodes, cons_from_encodes, encode_ascii, encodes-append}
pub use Rattle.std.proofs.lemmas.Str.{encodes-chars, encodes_same, len_utf8_bounds, length-encode, length-le-encodes}
pub use Rattle.std.proofs.lemmas.Str.{scalars-chars}
pub use Rattle.std.specs.Char.{IsScalar}
pub use Rattle.std.specs.List.Sorted.{IsNonDecreasingBy, IsPartitionPoint}
pub use Rattle.std.specs.Option.{IfNone, IfSome, option_or}
pub use Rattle.std.specs.Prelude.{nat_le, nat_lt}
pub use Rattle.std.specs.Str.{IsCharBoundary, IsUtf8, chars}
pub use lib.Utf8.{encode, encodes, next}
pub use Rattle.sre_chars.specs.Categories.{category}
pub use Rattle.sre_chars.specs.Errors.{entry_fault, is_scalar_entry, last_of, list_fault, table_fault}
pub use Rattle.sre_chars.specs.Lists.{entries_in}
pub use Rattle.sre_chars.specs.Tables.{Table, ascii_table, is_alphanumeric, is_between, is_in_ranges, is_scalar}
pub use Rattle.sre_chars.specs.Tables.{last_up_to, lower_ascii, lower_of, mapped, table_of, upper_ascii, upper_of}
pub use Rattle.sre_chars.specs.Texts.{NoneIs, Sought, StandsInText, begins_char, begun, offset_of}
pub use Rattle.sre_chars.specs.declared.table.Listing.{Listing}
pub use Rattle.sre_chars.specs.declared.table.Listing.TheVariants.{Map, Ranges}
