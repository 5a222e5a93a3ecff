-- Sets: what the check reads of them is what the grammar says.
use Rattle.sre_code.proofs.Terms.{ℕ, ◌+◌, ◌*◌, ◌≡◌, ◌≢◌, ◌<◌, ◌≤◌, ◌⊎◌, inl, inr, List, [], ◌∷◌, length, slice_range}
use Rattle.sre_code.proofs.Terms.{Err, refl, sym, subst, arith, opcode_number, category_number, SreOpcode, SreCatCode}
use Rattle.sre_code.proofs.Terms.{SetItem, Charset, Opcode, Word, word, ReadsSet, NoCode, IsSet, NoSet, SameSets}
use Rattle.sre_code.proofs.Terms.{word_within, word_there, opcode_within, set_within, BlocksBelow, bytes_of, SetAt}
use Rattle.sre_code.proofs.Terms.{SetItemExactly, NoSetItem, SetItemEnds, BadSet}
use Rattle.std.specs.List.{flat_map}
use Rattle.sre_model.specs.Tree.{Single, Range, RangeUniIgnore, Category, BigCharset, Negate}
use Rattle.sre_model.proofs.SetItems.{set_item_opcode, first, begins, unlike, set_item_by, parted, category_at}
use Rattle.sre_chars.specs.declared.constants.SreOpcode.TheVariants as opcode

-- what is left behind an item, by its opcode
left : (o : SreOpcode) (ws : List ℕ) (i j : ℕ) → Opcode ws i o → i < j → SetAt ws i j
    → SetAt ws (set_item_by o ws i).1 j
left o ws i j h lt s = let f = parted o ws i j s.0 h lt s.1 in (f.0, f.3)

pub single_item : (ws : List ℕ) (i : ℕ) → Opcode ws i opcode.LITERAL → i + 1 < length ws → SetItemExactly ws i (i + 2)
single_item ws i h there = record {
  sound = λ j s. (Single (word ws (i + 1)) ∷ s.0, (h, word_there ws (i + 1) there, s.1));
  complete = λ j. left opcode.LITERAL ws i j h;
}

pub single_cut : (ws : List ℕ) (i : ℕ) → Opcode ws i opcode.LITERAL → length ws ≤ i + 1 → NoSetItem ws i
single_cut ws i h le =
    record { none = λ j lt s. omega (arith, word_within ws (i + 1) _ (parted opcode.LITERAL ws i j s.0 h lt s.1).2.1) }

pub range_there : (ws : List ℕ) (i : ℕ) (o : SreOpcode) → Opcode ws i o
    → (o ≡ opcode.RANGE) ⊎ (o ≡ opcode.RANGE_UNI_IGNORE)
    → Opcode ws i opcode.RANGE ⊎ Opcode ws i opcode.RANGE_UNI_IGNORE
range_there ws i o h (inl e) = inl (subst (Opcode ws i) e h)
range_there ws i o h (inr e) = inr (subst (Opcode ws i) e h)

pub range_item : (ws : List ℕ) (i : ℕ) → Opcode ws i opcode.RANGE ⊎ Opcode ws i opcode.RANGE_UNI_IGNORE
    → i + 2 < length ws → SetItemExactly ws i (i + 3)
range_item ws i (inl h) there = record {
  sound = λ j s. (
    Range (word ws (i + 1)) (word ws (i + 2)) ∷ s.0,
    (h, word_there ws (i + 1) (omega arith), word_there ws (i + 2) there, s.1),
  );
  complete = λ j. left opcode.RANGE ws i j h;
}
range_item ws i (inr h) there = record {
  sound = λ j s. (
    RangeUniIgnore (word ws (i + 1)) (word ws (i + 2)) ∷ s.0,
    (h, word_there ws (i + 1) (omega arith), word_there ws (i + 2) there, s.1),
  );
  complete = λ j. left opcode.RANGE_UNI_IGNORE ws i j h;
}

pub range_cut : (ws : List ℕ) (i : ℕ) → Opcode ws i opcode.RANGE ⊎ Opcode ws i opcode.RANGE_UNI_IGNORE
    → length ws ≤ i + 2 → NoSetItem ws i
range_cut ws i (inl h) le =
    record { none = λ j lt s. omega (arith, word_within ws (i + 2) _ (parted opcode.RANGE ws i j s.0 h lt s.1).2.2) }
range_cut ws i (inr h) le = record {
  none = λ j lt s. omega (arith, word_within ws (i + 2) _ (parted opcode.RANGE_UNI_IGNORE ws i j s.0 h lt s.1).2.2);
}

pub category_item : (ws : List ℕ) (i : ℕ) (c : SreCatCode) → Opcode ws i opcode.CATEGORY
    → Word ws (i + 1) (category_number c) → SetItemExactly ws i (i + 2)
category_item ws i c h w = record {
  sound = λ j s. (Category c ∷ s.0, (h, w, s.1));
  complete = λ j. left opcode.CATEGORY ws i j h;
}

pub category_cut : (ws : List ℕ) (i : ℕ) → Opcode ws i opcode.CATEGORY → NoCode category_number ws (i + 1)
    → NoSetItem ws i
category_cut ws i h n =
    record { none = λ j lt s. n.none (category_at ws (i + 1)) (parted opcode.CATEGORY ws i j s.0 h lt s.1).2.1 }

pub charset_item : (ws : List ℕ) (i : ℕ) → Opcode ws i opcode.CHARSET → i + 8 < length ws → SetItemExactly ws i (i + 9)
charset_item ws i h there = record {
  sound = λ j s. (Charset (slice_range ws (i + 1) (i + 9)) ∷ s.0, (h, refl, omega arith, s.1));
  complete = λ j. left opcode.CHARSET ws i j h;
}

pub charset_cut : (ws : List ℕ) (i : ℕ) → Opcode ws i opcode.CHARSET → length ws ≤ i + 8 → NoSetItem ws i
charset_cut ws i h le =
    record { none = λ j lt s. omega (arith, (parted opcode.CHARSET ws i j s.0 h lt s.1).2.2) }

pub big_exactly : (ws : List ℕ) (i e : ℕ) → Opcode ws i opcode.BIGCHARSET
    → BlocksBelow (word ws (i + 1)) (slice_range ws (i + 2) (i + 66)) → e ≡ i + 66 + word ws (i + 1) * 8 → e ≤ length ws
    → SetItemExactly ws i e
big_exactly ws i e h below ee le = record {
  sound = λ j s. let P : ℕ → Type 0 = λ n. ReadsSet ws n j s.0 in (
    BigCharset (flat_map bytes_of (slice_range ws (i + 2) (i + 66)))
        (slice_range ws (i + 66) (i + 66 + word ws (i + 1) * 8)) ∷ s.0,
    (h, refl, below, refl, omega arith, subst P ee s.1),
  );
  complete = λ j lt s. subst (λ n. SetAt ws n j) (sym ee) (left opcode.BIGCHARSET ws i j h lt s);
}

pub big_blocks : (ws : List ℕ) (i : ℕ) → Opcode ws i opcode.BIGCHARSET
    → (BlocksBelow (word ws (i + 1)) (slice_range ws (i + 2) (i + 66)) → ⊥) → NoSetItem ws i
big_blocks ws i h above =
    record { none = λ j lt s. above (parted opcode.BIGCHARSET ws i j s.0 h lt s.1).2.2 }

pub big_cut : (ws : List ℕ) (i : ℕ) → Opcode ws i opcode.BIGCHARSET → length ws < i + 66 + word ws (i + 1) * 8
    → NoSetItem ws i
big_cut ws i h short =
    record { none = λ j lt s. omega (arith, (parted opcode.BIGCHARSET ws i j s.0 h lt s.1).2.4) }

pub negate_item : (ws : List ℕ) (i : ℕ) → Opcode ws i opcode.NEGATE → SetItemExactly ws i (i + 1)
negate_item ws i h = record {
  sound = λ j s. (Negate ∷ s.0, (h, s.1));
  complete = λ j. left opcode.NEGATE ws i j h;
}

-- where no opcode is, or another one
pub no_opcode : (ws : List ℕ) (i : ℕ) → NoCode opcode_number ws i → NoSetItem ws i
no_opcode ws i n = record { none = λ j lt s. unread s.0 j lt s.1 }
  where
    unread : (s : List SetItem) (j : ℕ) → i < j → ReadsSet ws i j s → ⊥
    unread [] j lt r = omega arith
    unread (x ∷ rest) j lt r = n.none (set_item_opcode x) (first x rest ws i j r)

pub no_item : (ws : List ℕ) (i : ℕ) (o : SreOpcode) → Opcode ws i o → o ≢ opcode.LITERAL → o ≢ opcode.RANGE
    → o ≢ opcode.RANGE_UNI_IGNORE → o ≢ opcode.CATEGORY → o ≢ opcode.CHARSET → o ≢ opcode.BIGCHARSET → o ≢ opcode.NEGATE
    → SetItemEnds ws i (Err (BadSet i))
no_item ws i o h single range folded category charset big negate = (
  record { none = λ j lt s. other s.0 j lt s.1 },
  (omega (arith, opcode_within ws i o h), λ e. absurd (cc)),
)
  where
    other : (s : List SetItem) (j : ℕ) → i < j → ReadsSet ws i j s → ⊥
    other [] j lt r = omega arith
    other (x ∷ rest) j lt r =
        unlike o single range folded category charset big negate x (begins ws i j o x rest h r)

-- the items one after the other
pub set_stops : (ws : List ℕ) (start place end : ℕ) → SameSets ws start place end → place < end → NoSetItem ws place
    → NoSet ws start end
set_stops ws start place end inv lt n = record { none = λ s. n.none end lt (inv.to s) }

pub set_ends : (ws : List ℕ) (start place end : ℕ) → SameSets ws start place end → place ≡ end → IsSet ws start end
set_ends ws start place end inv e = record { set = inv.from ([], e) }

-- what `big_charset`, `item` and `items` answer
pub ruleset big_charset_laws = (big_exactly, big_blocks, big_cut)

pub ruleset item_laws = (range_there, negate_item, no_item, no_opcode)

pub ruleset items_laws = (set_stops, set_ends, set_within)
