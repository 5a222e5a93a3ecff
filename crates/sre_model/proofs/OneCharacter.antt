-- Which opcodes begin a test of one character.
use Rattle.sre_model.proofs.Terms.{ℕ, ◌+◌, ◌≡◌, ◌≢◌, ◌⊎◌, ◌-◌, Bool, List, sym, subst, arith, Table, holds, SreOpcode}
use Rattle.sre_model.proofs.Terms.{Test, Plain, Ascii, Locale, Unicode, Word, Opcode, test_opcode, TestOperands}
use Rattle.sre_model.proofs.Terms.{SetStands, HasSet, ItemSays, TestStands, HasTest}
use Rattle.sre_model.specs.Tree.{Any, AnyAll, InCategory, Literal, NotLiteral, In}
use Rattle.sre_chars.specs.declared.constants.SreOpcode.TheVariants as opcode
use Rattle.sre_model.proofs.Opcodes.{word_of, same_opcode}
use Rattle.sre_model.proofs.Members.{one_item_member}

-- an opcode other than those of tests is not reached
pub only_tests : (ws : List ℕ) (i : ℕ) (o : SreOpcode) → HasTest ws i → Opcode ws i o
    → o ≢ opcode.ANY → o ≢ opcode.ANY_ALL → o ≢ opcode.CATEGORY → o ≢ opcode.LITERAL → o ≢ opcode.LITERAL_IGNORE
    → o ≢ opcode.LITERAL_LOC_IGNORE → o ≢ opcode.LITERAL_UNI_IGNORE → o ≢ opcode.NOT_LITERAL
    → o ≢ opcode.NOT_LITERAL_IGNORE → o ≢ opcode.NOT_LITERAL_LOC_IGNORE → o ≢ opcode.NOT_LITERAL_UNI_IGNORE
    → o ≢ opcode.IN → o ≢ opcode.IN_IGNORE → o ≢ opcode.IN_LOC_IGNORE → o ≢ opcode.IN_UNI_IGNORE → ⊥
only_tests ws i o h w any any_all category literal literal_ignore literal_loc_ignore literal_uni_ignore not_literal
    not_literal_ignore not_literal_loc_ignore not_literal_uni_ignore in_plain in_ignore in_loc_ignore in_uni_ignore =
    go h.test h.stands.code
  where
    go : (t : Test) → Opcode ws i (test_opcode t) → ⊥
    go Any x = any (same_opcode ws i o opcode.ANY w x)
    go AnyAll x = any_all (same_opcode ws i o opcode.ANY_ALL w x)
    go (InCategory c) x = category (same_opcode ws i o opcode.CATEGORY w x)
    go (Literal Plain v) x = literal (same_opcode ws i o opcode.LITERAL w x)
    go (Literal Ascii v) x = literal_ignore (same_opcode ws i o opcode.LITERAL_IGNORE w x)
    go (Literal Locale v) x = literal_loc_ignore (same_opcode ws i o opcode.LITERAL_LOC_IGNORE w x)
    go (Literal Unicode v) x = literal_uni_ignore (same_opcode ws i o opcode.LITERAL_UNI_IGNORE w x)
    go (NotLiteral Plain v) x = not_literal (same_opcode ws i o opcode.NOT_LITERAL w x)
    go (NotLiteral Ascii v) x = not_literal_ignore (same_opcode ws i o opcode.NOT_LITERAL_IGNORE w x)
    go (NotLiteral Locale v) x = not_literal_loc_ignore (same_opcode ws i o opcode.NOT_LITERAL_LOC_IGNORE w x)
    go (NotLiteral Unicode v) x = not_literal_uni_ignore (same_opcode ws i o opcode.NOT_LITERAL_UNI_IGNORE w x)
    go (In Plain set) x = in_plain (same_opcode ws i o opcode.IN w x)
    go (In Ascii set) x = in_ignore (same_opcode ws i o opcode.IN_IGNORE w x)
    go (In Locale set) x = in_loc_ignore (same_opcode ws i o opcode.IN_LOC_IGNORE w x)
    go (In Unicode set) x = in_uni_ignore (same_opcode ws i o opcode.IN_UNI_IGNORE w x)

-- the opcode is one of those of sets
abbrev pub IsSetOpcode : SreOpcode → Type 0
IsSetOpcode o = (o ≡ opcode.IN) ⊎ ((o ≡ opcode.IN_IGNORE) ⊎ ((o ≡ opcode.IN_LOC_IGNORE) ⊎ (o ≡ opcode.IN_UNI_IGNORE)))

-- where a test ends: behind its set, or behind its one operand
pub set_test_end : (ws : List ℕ) (i j v : ℕ) (o : SreOpcode) (t : Test) → Opcode ws i o → IsSetOpcode o
    → Word ws (i + 1) v → TestStands ws i j t → i + 1 + v ≡ j
set_test_end ws i j v o t w e r s = go t e (same_opcode ws i o (test_opcode t) w s.code) s.operands
  where
    go : (u : Test) → IsSetOpcode o → o ≡ test_opcode u → TestOperands ws i j u → i + 1 + v ≡ j
    go (In f set) x y h = omega (arith, word_of ws (i + 1) v r)
    go u x y h = grind arith

-- an IN whose set is one item takes what the item holds for, in words that are read of a request
pub one_item_takes : (ws read : List ℕ) (table : Table) (i j c skip n : ℕ) (b : Bool) (t : Test) → read ≡ ws
    → Opcode ws i opcode.IN → Word read (i + 1) skip → n ≡ i + skip → ItemSays read table (i + 2) c b n
    → TestStands ws i j t → b ≡ holds table t c
one_item_takes ws read table i j c skip n b t same w k e x s =
    go t (same_opcode ws i opcode.IN (test_opcode t) w s.code) s.operands
  where
    go : (u : Test) → opcode.IN ≡ test_opcode u → TestOperands ws i j u → b ≡ holds table u c
    go (In Plain set) y h =
        let there : Word ws (i + 1) skip = subst (λ r. Word r (i + 1) skip) same k in
        let at : j - 1 ≡ n = omega (arith, word_of ws (i + 1) skip there) in
        let stands : SetStands ws (i + 2) n set =
        subst (λ m. SetStands ws (i + 2) m set) at (record { items = h.1; ends = h.2 }) in
        sym (one_item_member ws table (i + 2) n c b set stands (subst (λ r. ItemSays r table (i + 2) c b n) same x))
    go u y h = grind arith

-- the set of an IN
pub set_stands : (ws read : List ℕ) (i : ℕ) → read ≡ ws → Opcode ws i opcode.IN → HasTest ws i → HasSet read (i + 2)
set_stands ws read i same w t =
    subst (λ r. HasSet r (i + 2)) (sym same)
    (go t.test (same_opcode ws i opcode.IN (test_opcode t.test) w t.stands.code) t.stands.operands)
  where
    go : (u : Test) → opcode.IN ≡ test_opcode u → TestOperands ws i t.end u → HasSet ws (i + 2)
    go (In f set) y h = record { end = t.end - 1; set = set; stands = record { items = h.1; ends = h.2 } }
    go u y h = absurd (grind arith)
