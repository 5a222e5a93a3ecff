-- What an item of a set is, by its opcode: what is read of it, and what is left behind it.
use Rattle.sre_model.proofs.Terms.{ℕ, ◌+◌, ◌*◌, ◌≡◌, ◌≢◌, ◌<◌, List, [], ◌∷◌, slice_index_or, numbered, opcode_at}
use Rattle.sre_model.proofs.Terms.{slice_range, refl, ap, ◌∙◌, arith, opcode_number, category_number, SreOpcode}
use Rattle.sre_model.proofs.Terms.{SreCatCode, SetItem, Single, Range, RangeUniIgnore, Category, Charset, BigCharset}
use Rattle.sre_model.proofs.Terms.{Negate, Word, word, Opcode, bytes_of, ReadsSet, flat_map}
use Rattle.sre_chars.specs.declared.constants.SreOpcode.TheVariants as opcode
use Rattle.sre_chars.specs.declared.constants.SreCatCode.TheVariants as category
use Rattle.sre_model.proofs.Opcodes.{same_opcode, word_of, opcode_back, categories, category_back}

-- an item's first word
abbrev pub set_item_opcode : SetItem → SreOpcode
set_item_opcode (Single v) = opcode.LITERAL
set_item_opcode (Range low high) = opcode.RANGE
set_item_opcode (RangeUniIgnore low high) = opcode.RANGE_UNI_IGNORE
set_item_opcode (Category c) = opcode.CATEGORY
set_item_opcode (Charset bits) = opcode.CHARSET
set_item_opcode (BigCharset numbers bits) = opcode.BIGCHARSET
set_item_opcode Negate = opcode.NEGATE

pub first : (x : SetItem) (rest : List SetItem) (ws : List ℕ) (i j : ℕ) → ReadsSet ws i j (x ∷ rest)
    → Opcode ws i (set_item_opcode x)
first Negate rest ws i j r = r.0
first x rest ws i j r = r.0

pub begins : (ws : List ℕ) (i j : ℕ) (o : SreOpcode) (x : SetItem) (rest : List SetItem) → Opcode ws i o
    → ReadsSet ws i j (x ∷ rest) → o ≡ set_item_opcode x
begins ws i j o x rest h r = same_opcode ws i o (set_item_opcode x) h (first x rest ws i j r)

-- another opcode is no item's
pub unlike : (o : SreOpcode) → o ≢ opcode.LITERAL → o ≢ opcode.RANGE → o ≢ opcode.RANGE_UNI_IGNORE
    → o ≢ opcode.CATEGORY → o ≢ opcode.CHARSET → o ≢ opcode.BIGCHARSET → o ≢ opcode.NEGATE → (x : SetItem)
    → o ≢ set_item_opcode x
unlike o single range folded category charset big negate (Single v) = single
unlike o single range folded category charset big negate (Range low high) = range
unlike o single range folded category charset big negate (RangeUniIgnore low high) = folded
unlike o single range folded category charset big negate (Category c) = category
unlike o single range folded category charset big negate (Charset bits) = charset
unlike o single range folded category charset big negate (BigCharset numbers bits) = big
unlike o single range folded category charset big negate Negate = negate

abbrev pub category_at : List ℕ → ℕ → SreCatCode
category_at ws i = slice_index_or categories (word ws i) category.DIGIT

pub opcode-read : (ws : List ℕ) (i : ℕ) (o : SreOpcode) → Opcode ws i o → opcode_at ws i ≡ o
opcode-read ws i o h =
    ap (λ n. slice_index_or numbered n opcode.FAILURE) (word_of ws i (opcode_number o) h) ∙ opcode_back o

pub category-read : (ws : List ℕ) (i : ℕ) (c : SreCatCode) → Word ws i (category_number c) → category_at ws i ≡ c
category-read ws i c h =
    ap (λ n. slice_index_or categories n category.DIGIT) (word_of ws i (category_number c) h) ∙ category_back c

-- the set item with this opcode at i, and where it ends
abbrev pub set_item_by : SreOpcode → List ℕ → ℕ → SetItem × ℕ
set_item_by opcode.LITERAL ws i = (Single (word ws (i + 1)), i + 2)
set_item_by opcode.RANGE ws i = (Range (word ws (i + 1)) (word ws (i + 2)), i + 3)
set_item_by opcode.RANGE_UNI_IGNORE ws i = (RangeUniIgnore (word ws (i + 1)) (word ws (i + 2)), i + 3)
set_item_by opcode.CATEGORY ws i = (Category (category_at ws (i + 1)), i + 2)
set_item_by opcode.CHARSET ws i = (Charset (slice_range ws (i + 1) (i + 9)), i + 9)
set_item_by opcode.BIGCHARSET ws i =
    let end = i + 66 + word ws (i + 1) * 8 in
    (BigCharset (flat_map bytes_of (slice_range ws (i + 2) (i + 66))) (slice_range ws (i + 66) end), end)
set_item_by o ws i = (Negate, i + 1)

pub item_past : (o : SreOpcode) (ws : List ℕ) (i : ℕ) → i < (set_item_by o ws i).1
item_past opcode.LITERAL ws i = omega arith
item_past o ws i = omega arith

-- a set is the item that the opcode tells, and what is left behind it
pub parted : (o : SreOpcode) (ws : List ℕ) (i j : ℕ) (s : List SetItem) → Opcode ws i o → i < j → ReadsSet ws i j s
    → let x = set_item_by o ws i in
    (rest : List SetItem) × (s ≡ x.0 ∷ rest) × ReadsSet ws i j (x.0 ∷ rest) × ReadsSet ws x.1 j rest
parted o ws i j [] h lt r = absurd (omega arith)
parted o ws i j (Single v ∷ rest) h lt r =
    rw (same_opcode ws i o opcode.LITERAL h r.0, word_of ws (i + 1) v r.1) (rest, refl, r, r.2)
parted o ws i j (Range low high ∷ rest) h lt r =
    rw (same_opcode ws i o opcode.RANGE h r.0, word_of ws (i + 1) low r.1, word_of ws (i + 2) high r.2)
    (rest, refl, r, r.3)
parted o ws i j (RangeUniIgnore low high ∷ rest) h lt r =
    rw (same_opcode ws i o opcode.RANGE_UNI_IGNORE h r.0, word_of ws (i + 1) low r.1, word_of ws (i + 2) high r.2)
    (rest, refl, r, r.3)
parted o ws i j (Category c ∷ rest) h lt r =
    rw (same_opcode ws i o opcode.CATEGORY h r.0, category-read ws (i + 1) c r.1) (rest, refl, r, r.2)
parted o ws i j (Charset bits ∷ rest) h lt r =
    rw (same_opcode ws i o opcode.CHARSET h r.0, r.1) (rest, refl, (r.0, refl, r.2, r.3), r.3)
parted o ws i j (BigCharset numbers bits ∷ rest) h lt r =
    rw (same_opcode ws i o opcode.BIGCHARSET h r.0, r.1, r.3) (rest, refl, (r.0, refl, r.2, refl, r.4, r.5), r.5)
parted o ws i j (Negate ∷ rest) h lt r = rw (same_opcode ws i o opcode.NEGATE h r.0) (rest, refl, r, r.1)
