-- What each item of a set decides, and what is left of the set after it.
use Rattle.sre_model.proofs.Terms.{ℕ, ◌+◌, ◌*◌, ◌≡◌, ◌≢◌, ◌<◌, Bool, true, false, not, cond, nat_eq, List, [], ◌∷◌}
use Rattle.sre_model.proofs.Terms.{length, slice_range, refl, sym, ◌∙◌, ap, arith, flat_map, category_number, Table}
use Rattle.sre_model.proofs.Terms.{SreOpcode, SreCatCode, SetItem, RangeUniIgnore, Charset, BigCharset, Negate, Word}
use Rattle.sre_model.proofs.Terms.{Opcode, word, bytes_of, BlocksBelow, ReadsSet, HasCategory, SetStands, HasSet}
use Rattle.sre_model.proofs.Terms.{ItemSays, is_between, category, item_holds, verdict, is_member, VerdictLeft}
use Rattle.sre_chars.specs.declared.constants.SreOpcode.TheVariants as opcode
use Rattle.sre_model.proofs.Opcodes.{word_of, same_opcode, opcode_within, opcode_moved}
use Rattle.sre_model.proofs.TreeOf.{set_within}
use Rattle.sre_model.proofs.SetItems.{set_item_opcode, first, begins, set_item_by, item_past, parted, category_at}
use Rattle.sre_model.proofs.SetItems.{category-read, unlike}

-- an opcode other than FAILURE begins an item
begun : (ws : List ℕ) (i j : ℕ) (o : SreOpcode) (set : List SetItem) → Opcode ws i o → o ≢ opcode.FAILURE
    → SetStands ws i j set → i < j
begun ws i j o set w n s =
    let apart : i ≢ j = λ e. n (same_opcode ws j o opcode.FAILURE (opcode_moved ws i j o e w) s.ends) in
    omega (arith, set_within ws i j set s.items)

-- what is left behind an item that ends at k
behind : (ws : List ℕ) (j k : ℕ) (rest : List SetItem) → ReadsSet ws k j rest → Opcode ws j opcode.FAILURE
    → SetStands ws k j rest
behind ws j k rest r e = record { items = r; ends = e }

-- an item that is no NEGATE decides as soon as it holds
decided : (table : Table) (c : ℕ) (taken holds : Bool) (x : SetItem) (rest set : List SetItem) → set ≡ x ∷ rest
    → x ≢ Negate → holds ≡ item_holds table x c
    → verdict table taken set c ≡ cond holds taken (verdict table taken rest c)
decided table c taken holds x rest set e n h =
    ap (λ s. verdict table taken s c) e ∙ go x n ∙ ap (λ b. cond b taken (verdict table taken rest c)) (sym h)
  where
    go : (y : SetItem) → y ≢ Negate
        → verdict table taken (y ∷ rest) c ≡ cond (item_holds table y c) taken (verdict table taken rest c)
    go Negate m = absurd (m refl)
    go y m = refl

-- the item at i, by its opcode: what is left behind it, where it has room, and what it says
item_left : (o : SreOpcode) (ws : List ℕ) (i j : ℕ) (set : List SetItem) → Opcode ws i o → o ≢ opcode.FAILURE
    → SetStands ws i j set → let x = set_item_by o ws i in
    (rest : List SetItem) × (set ≡ x.0 ∷ rest) × ReadsSet ws i j (x.0 ∷ rest) × ReadsSet ws x.1 j rest
item_left o ws i j set w n s = parted o ws i j set w (begun ws i j o set w n s) s.items

room : (o : SreOpcode) (ws : List ℕ) (i : ℕ) → Opcode ws i o → o ≢ opcode.FAILURE → HasSet ws i
    → (set_item_by o ws i).1 < length ws
room o ws i w n h =
    let f = item_left o ws i h.end h.set w n h.stands in
    let end = opcode_within ws h.end opcode.FAILURE h.stands.ends in
    omega (arith, set_within ws (set_item_by o ws i).1 h.end f.0 f.3, end)

says : (o : SreOpcode) (ws : List ℕ) (table : Table) (i c : ℕ) (holds : Bool) → Opcode ws i o → o ≢ opcode.FAILURE
    → (set_item_by o ws i).0 ≢ Negate → holds ≡ item_holds table (set_item_by o ws i).0 c
    → ItemSays ws table i c holds (set_item_by o ws i).1
says o ws table i c holds w n m b = record {
  later = item_past o ws i;
  each = λ j set s.
      let f = item_left o ws i j set w n s in
      (f.0, behind ws j _ f.0 f.3 s.ends, λ taken. decided table c taken holds (set_item_by o ws i).0 f.0 set f.1 m b);
}

-- LITERAL
pub single_room : (ws : List ℕ) (i : ℕ) → Opcode ws i opcode.LITERAL → HasSet ws i → i + 2 < length ws
single_room ws i w h = room opcode.LITERAL ws i w (λ e. cc) h

pub single_says : (ws : List ℕ) (table : Table) (i c v : ℕ) → Opcode ws i opcode.LITERAL → Word ws (i + 1) v
    → ItemSays ws table i c (nat_eq c v) (i + 2)
single_says ws table i c v w o =
    says opcode.LITERAL ws table i c (nat_eq c v) w (λ e. cc) (λ e. cc) (rw (word_of ws (i + 1) v o) refl)

-- RANGE
pub range_room : (ws : List ℕ) (i : ℕ) → Opcode ws i opcode.RANGE → HasSet ws i → i + 3 < length ws
range_room ws i w h = room opcode.RANGE ws i w (λ e. cc) h

pub range_says : (ws : List ℕ) (table : Table) (i c low high : ℕ) (holds : Bool) → Opcode ws i opcode.RANGE
    → Word ws (i + 1) low → Word ws (i + 2) high → holds ≡ is_between low high c → ItemSays ws table i c holds (i + 3)
range_says ws table i c low high holds w ol oh b =
    says opcode.RANGE ws table i c holds w (λ e. cc) (λ e. cc)
    (rw (word_of ws (i + 1) low ol, word_of ws (i + 2) high oh) b)

-- RANGE_UNI_IGNORE
pub folded_range_room : (ws : List ℕ) (i : ℕ) → Opcode ws i opcode.RANGE_UNI_IGNORE → HasSet ws i → i + 3 < length ws
folded_range_room ws i w h = room opcode.RANGE_UNI_IGNORE ws i w (λ e. cc) h

pub folded_range_says : (ws : List ℕ) (table : Table) (i c low high : ℕ) (holds : Bool)
    → Opcode ws i opcode.RANGE_UNI_IGNORE → Word ws (i + 1) low → Word ws (i + 2) high
    → holds ≡ item_holds table (RangeUniIgnore low high) c → ItemSays ws table i c holds (i + 3)
folded_range_says ws table i c low high holds w ol oh b =
    says opcode.RANGE_UNI_IGNORE ws table i c holds w (λ e. cc) (λ e. cc)
    (rw (word_of ws (i + 1) low ol, word_of ws (i + 2) high oh) b)

-- CATEGORY
pub category_there : (ws : List ℕ) (i : ℕ) → Opcode ws i opcode.CATEGORY → HasSet ws i
    → HasCategory ws (i + 1) × (i + 2 < length ws)
category_there ws i w h =
    let f = item_left opcode.CATEGORY ws i h.end h.set w (λ e. cc) h.stands in
    (record { code = category_at ws (i + 1); there = f.2.1 }, room opcode.CATEGORY ws i w (λ e. cc) h)

pub category_says : (ws : List ℕ) (table : Table) (i c : ℕ) (holds : Bool) (code : SreCatCode)
    → Opcode ws i opcode.CATEGORY → Word ws (i + 1) (category_number code)
    → holds ≡ category table (category_number code) c → ItemSays ws table i c holds (i + 2)
category_says ws table i c holds code w v b =
    says opcode.CATEGORY ws table i c holds w (λ e. cc) (λ e. cc) (rw (category-read ws (i + 1) code v) b)

-- CHARSET
pub charset_room : (ws : List ℕ) (i : ℕ) → Opcode ws i opcode.CHARSET → HasSet ws i → i + 9 < length ws
charset_room ws i w h = room opcode.CHARSET ws i w (λ e. cc) h

pub charset_says : (ws : List ℕ) (table : Table) (i c : ℕ) (holds : Bool) → Opcode ws i opcode.CHARSET
    → holds ≡ item_holds table (Charset (slice_range ws (i + 1) (i + 9))) c → ItemSays ws table i c holds (i + 9)
charset_says ws table i c holds w b = says opcode.CHARSET ws table i c holds w (λ e. cc) (λ e. cc) b

-- BIGCHARSET
abbrev pub numbers_at : List ℕ → ℕ → List ℕ
numbers_at ws i = flat_map bytes_of (slice_range ws (i + 2) (i + 66))

pub big_charset_there : (ws : List ℕ) (i : ℕ) → Opcode ws i opcode.BIGCHARSET → HasSet ws i
    → (i + 66 + word ws (i + 1) * 8 < length ws) × BlocksBelow (word ws (i + 1)) (slice_range ws (i + 2) (i + 66))
big_charset_there ws i w h =
    (room opcode.BIGCHARSET ws i w (λ e. cc) h, (item_left opcode.BIGCHARSET ws i h.end h.set w (λ e. cc) h.stands).2.2)

pub big_charset_says : (ws : List ℕ) (table : Table) (i c count : ℕ) (holds : Bool) → Opcode ws i opcode.BIGCHARSET
    → word ws (i + 1) ≡ count
    → holds ≡ item_holds table (BigCharset (numbers_at ws i) (slice_range ws (i + 66) (i + 66 + word ws (i + 1) * 8))) c
    → ItemSays ws table i c holds (i + 66 + count * 8)
big_charset_says ws table i c count holds w e b =
    rw (← e) (says opcode.BIGCHARSET ws table i c holds w (λ f. cc) (λ f. cc) b)

-- NEGATE
pub negated : (ws : List ℕ) (i j : ℕ) (set : List SetItem) → Opcode ws i opcode.NEGATE → SetStands ws i j set
    → (rest : List SetItem) × SetStands ws (i + 1) j rest × (set ≡ Negate ∷ rest)
negated ws i j set w s =
    let f = item_left opcode.NEGATE ws i j set w (λ e. cc) s in
    (f.0, behind ws j (i + 1) f.0 f.3 s.ends, f.1)

-- the whole set
pub set_begins : (ws : List ℕ) (i : ℕ) → HasSet ws i → (o : SreOpcode) × Opcode ws i o
set_begins ws i h = go h.set h.stands
  where
    go : (set : List SetItem) → SetStands ws i h.end set → (o : SreOpcode) × Opcode ws i o
    go [] s = (opcode.FAILURE, opcode_moved ws h.end i opcode.FAILURE (sym s.items) s.ends)
    go (x ∷ rest) s = (set_item_opcode x, first x rest ws i h.end s.items)

-- an opcode other than those of items and FAILURE is not reached
pub only_items : (ws : List ℕ) (i : ℕ) (o : SreOpcode) → HasSet ws i → Opcode ws i o → o ≢ opcode.FAILURE
    → o ≢ opcode.NEGATE → o ≢ opcode.LITERAL → o ≢ opcode.RANGE → o ≢ opcode.RANGE_UNI_IGNORE → o ≢ opcode.CATEGORY
    → o ≢ opcode.CHARSET → o ≢ opcode.BIGCHARSET → ⊥
only_items ws i o h w failure negate literal range folded category charset big = go h.set h.stands
  where
    go : (set : List SetItem) → SetStands ws i h.end set → ⊥
    go [] s =
        failure (same_opcode ws i o opcode.FAILURE w (opcode_moved ws h.end i opcode.FAILURE (sym s.items) s.ends))
    go (x ∷ rest) s =
        unlike o literal range folded category charset big negate x (begins ws i h.end o x rest w s.items)

-- what is left of the set as the loop begins, behind an item, and behind NEGATE
pub left_all : (ws : List ℕ) (table : Table) (start c : ℕ) → VerdictLeft ws table start c start true
left_all ws table start c = record { each = λ j set s. (set, s, refl) }

pub left_there : (ws : List ℕ) (table : Table) (start c i : ℕ) (taken : Bool) → HasSet ws start
    → VerdictLeft ws table start c i taken → HasSet ws i
left_there ws table start c i taken h l =
    let f = l.each h.end h.set h.stands in
    record { end = h.end; set = f.0; stands = f.1 }

pub left_past : (ws : List ℕ) (table : Table) (start c i next : ℕ) (taken holds : Bool)
    → VerdictLeft ws table start c i taken → ItemSays ws table i c holds next → holds ≡ false
    → VerdictLeft ws table start c next taken
left_past ws table start c i next taken holds l x refused = record {
  each = λ j set s.
      let f = l.each j set s in
      let g = x.each j f.0 f.1 in
      (g.0, g.1, f.2 ∙ g.2 taken ∙ ap (λ b. cond b taken (verdict table taken g.0 c)) refused);
}

pub left_turned : (ws : List ℕ) (table : Table) (start c i : ℕ) (taken : Bool) → VerdictLeft ws table start c i taken
    → Opcode ws i opcode.NEGATE → VerdictLeft ws table start c (i + 1) (not taken)
left_turned ws table start c i taken l w = record {
  each = λ j set s.
      let f = l.each j set s in
      let g = negated ws i j f.0 w f.1 in
      (g.0, g.1, f.2 ∙ ap (λ x. verdict table taken x c) g.2);
}

-- no item begins with FAILURE
pub nothing_left : (ws : List ℕ) (i j : ℕ) (set : List SetItem) → Opcode ws i opcode.FAILURE
    → SetStands ws i j set → set ≡ []
nothing_left ws i j [] w s = refl
nothing_left ws i j (x ∷ rest) w s = absurd (unlike x (begins ws i j opcode.FAILURE x rest w s.items))
  where
    unlike : (y : SetItem) → opcode.FAILURE ≡ set_item_opcode y → ⊥
    unlike Negate e = cc
    unlike y e = cc

-- a set of one item takes what the item holds for
pub one_item_member : (ws : List ℕ) (table : Table) (i j c : ℕ) (holds : Bool) (set : List SetItem)
    → SetStands ws i j set → ItemSays ws table i c holds j → is_member table set c ≡ holds
one_item_member ws table i j c holds set s x =
    let f = x.each j set s in
    let all = ap (λ r. cond holds true (verdict table true r c)) (nothing_left ws j j f.0 s.ends f.1) in
    let same : cond holds true false ≡ holds = grind arith in
    f.2 true ∙ all ∙ same

-- the verdict, where the set ends
pub left_nothing : (ws : List ℕ) (table : Table) (start c i : ℕ) (taken : Bool) → VerdictLeft ws table start c i taken
    → Opcode ws i opcode.FAILURE → (j : ℕ) (set : List SetItem) → SetStands ws start j set
    → not taken ≡ is_member table set c
left_nothing ws table start c i taken l w j set s =
    let f = l.each j set s in
    sym (f.2 ∙ ap (λ r. verdict table taken r c) (nothing_left ws i j f.0 w f.1))
