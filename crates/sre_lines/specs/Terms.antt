-- The words from elsewhere which contracts and definitions of this crate name.
pub use Rattle.std.specs.Fmt.{decimal, digit_glyph, signed_decimal}
pub use Rattle.std.specs.Io.KnownBytes.{Appends}
pub use Rattle.std.specs.List.{flat_map, join_with_byte, slice_split}
pub use Rattle.std.specs.Str.{IsUtf8, chars}
pub use Rattle.std.specs.Str.Parse.{IsNumeral, digits_value}
pub use Rattle.std.specs.Vec.Iter.{into_iter_items}
pub use Rattle.sre_chars.specs.Lists.{lists_fault, table_with}
pub use Rattle.sre_chars.specs.Tables.{Table, ascii_table}
pub use Rattle.sre_chars.specs.declared.table.UniError.{UniError}
pub use Rattle.sre_code.specs.declared.code.error.CodeError.{CodeError}
pub use Rattle.sre_code.specs.declared.code.error.CodeError.TheVariants.{Memory}
pub use Rattle.sre_engine.specs.Codes.{uni_of, words_of}
pub use Rattle.sre_engine.specs.Found.{Asked, Match, found, matched, walk}
pub use Rattle.sre_engine.specs.Grammar.{IsCode, Whole}
pub use Rattle.sre_engine.specs.Refusals.{place_of}
pub use Rattle.sre_engine.specs.Requests.{asked_of, code_of, stands_in}
pub use Rattle.sre_engine.specs.Tree.{Tree}
pub use Rattle.sre_growth.specs.Refusal.{Refused}
