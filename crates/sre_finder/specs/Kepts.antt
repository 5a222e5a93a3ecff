-- What is kept of a finder suits a code.
-- Definitions for the contracts of this crate.
use Rattle.std.specs.Prelude.{◌≡◌, ℕ, List, IfSome}
use Rattle.sre_finder.specs.Terms.{behind_block, words_of, uni_of, Code, Encoding, SetsOf}
use Rattle.sre_chars.specs.Tables.{Table}
use Rattle.sre_patterns.specs.declared.encoding.Encoding.TheVariants.{Bytes, Ascii, Utf8}
use Rattle.sre_finder.specs.Finders.{CoveringAny}
use Rattle.sre_finder.specs.Spans.{ExactlyAny}
use Rattle.sre_finder.specs.declared.kept.Kept.{Kept}

-- the patterns of its DFAs are those of each code of these words and this table, and so are its FIRST sets
pub record Suits (ws : List ℕ) (uni : Table) (kept : Kept) : Type 0 where
  pub starts : (code : Code) → words_of code ≡ ws → uni_of code ≡ uni
      → CoveringAny kept.starts.encoding code kept.starts.seeker
  pub whole : (code : Code) → words_of code ≡ ws → uni_of code ≡ uni
      → CoveringAny kept.starts.encoding code kept.starts.whole
  pub exact : (code : Code) → words_of code ≡ ws → uni_of code ≡ uni
      → ExactlyAny kept.spans.encoding code kept.spans.exact
  pub serves : IfSome kept.memory (λ m. SetsOf (behind_block ws) m.value.sets)

-- how a text is read beside others that were read: once one was not ASCII, all as UTF-8
abbrev pub encoding_beside : Encoding → Encoding → Encoding
encoding_beside Bytes encoding = encoding
encoding_beside Ascii encoding = encoding
encoding_beside Utf8 Bytes = Bytes
encoding_beside Utf8 Ascii = Utf8
encoding_beside Utf8 Utf8 = Utf8
