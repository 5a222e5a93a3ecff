-- The words from elsewhere which contracts and definitions of this crate name.
pub use Rattle.sre_chars.specs.Categories.{category, is_linebreak}
pub use Rattle.sre_chars.specs.Tables.{Table, is_between, lower_ascii}
pub use Rattle.sre_chars.specs.declared.constants.SreOpcode.{SreOpcode}
pub use Rattle.sre_chars.specs.declared.string.StrDrive.{Ghosts}
pub use Rattle.sre_chars.specs.declared.string.StringCursor.{StringCursor}
pub use Rattle.sre_code.specs.AsciiSet.{contains}
pub use Rattle.sre_code.specs.Codes.{items_of, uni_of}
pub use Rattle.sre_model.specs.Characters.{folded, holds, in_set, is_literal, is_member, item_holds}
pub use Rattle.sre_model.specs.Found.{Asked, is_accepted, subject_of}
pub use Rattle.sre_model.specs.Grammar.{Opcode, Word}
pub use Rattle.sre_model.specs.Standing.{HasSet, SetStands, TestStands}
pub use Rattle.sre_model.specs.Tree.{Charset, Fold, Locale, SetItem, Test}
