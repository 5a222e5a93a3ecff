-- The code words of a tree, at an address, are read as that tree; and what is read as a tree are that tree's code
-- words.
use Rattle.sre_model.proofs.Terms.{ℕ, ◌+◌, ◌*◌, ◌-◌, ◌/◌, ◌≡◌, ◌<◌, List, [], ◌∷◌, ◌++◌, length, slice_range}
use Rattle.sre_model.proofs.Terms.{slice_index, refl, sym, ◌∙◌, ap, subst, arith, length-append, flat_map}
use Rattle.sre_model.proofs.Terms.{opcode_number, at_number, category_number, Tree, Empty, Then, Item, Trees, Only, Or}
use Rattle.sre_model.proofs.Terms.{Test, SetItem, Single, Range, RangeUniIgnore, Category, Charset, BigCharset, Negate}
use Rattle.sre_model.proofs.Terms.{word, skip, bytes_of, BytesBelow, BlocksBelow, ReadsSet, TestOperands, until_opcode}
use Rattle.sre_model.proofs.Terms.{JumpsTo, Reads, Operands, ReadsBranch, packed, set_words, test_words, tree_words}
use Rattle.sre_model.proofs.Terms.{branch_words, item_words, LawfulTree, zero, suc, ◌%◌, ◌≤◌, drop, take, Word, Opcode}
use Rattle.sre_model.proofs.Terms.{test_opcode, item_opcode, AreWords, drop-cons, take-append_seam, append_assoc}
use Rattle.sre_model.proofs.Terms.{drop_split, repeated}
use Rattle.sre_model.specs.Tree.{Fail, One, At, Mark, Branch, Loop, Run, PossessiveLoop, Atomic, Look, Reference}
use Rattle.sre_model.specs.Tree.{Exists, ExistsElse, Any, AnyAll, InCategory, Literal, NotLiteral, In}
use Rattle.sre_chars.specs.declared.constants.SreOpcode.TheVariants as opcode
use Rattle.sre_model.proofs.Opcodes.{word_moved, word_of, word_there, word_at, word_within}
use Rattle.sre_model.specs.Written.{NumbersBelow, LawfulSet, LawfulTest, LawfulItem, LawfulTrees}
use Rattle.sre_model.proofs.StandingWords.{Stands, head, stands_moved, stands_front, stands_behind, stands_range}
use Rattle.sre_model.proofs.StandingWords.{range_long, part_at}

-- Block numbers, packed four to a word

-- those behind the first four
further : (count a b c d : ℕ) (ns : List ℕ) → NumbersBelow count (a ∷ b ∷ c ∷ d ∷ ns) → NumbersBelow count ns
further count a b c d ns h k l = h (suc (suc (suc (suc k)))) (omega (arith, l))

abbrev word_of_four : ℕ → ℕ → ℕ → ℕ → ℕ
word_of_four a b c d = a + 256 * b + 65536 * c + 16777216 * d

four_back : (a b c d : ℕ) → a < 256 → b < 256 → c < 256 → d < 256
    → bytes_of (word_of_four a b c d) ≡ a ∷ b ∷ c ∷ d ∷ []
four_back a b c d p q r s =
    let w : ℕ = word_of_four a b c d in
    let one : w % 256 ≡ a = omega arith in
    let two : w / 256 % 256 ≡ b = omega arith in
    let three : w / 65536 % 256 ≡ c = omega arith in
    let four : w / 16777216 % 256 ≡ d = omega arith in
    cc

pub packed_back : (k count : ℕ) (ns : List ℕ) → length ns ≡ 4 * k → NumbersBelow count ns
    → flat_map bytes_of (packed ns) ≡ ns
packed_back k count [] e h = refl
packed_back (suc k) count (a ∷ b ∷ c ∷ d ∷ ns) e h =
    let l : 3 < length (a ∷ b ∷ c ∷ d ∷ ns) = omega arith in
    let front = four_back a b c d (h 0 (omega (arith, l))).0 (h 1 (omega (arith, l))).0 (h 2 (omega (arith, l))).0
    (h 3 l).0 in
    let rest = packed_back k count ns (omega arith) (further count a b c d ns h) in
    ap (λ l. l ++ flat_map bytes_of (packed ns)) front ∙ ap (λ l. a ∷ b ∷ c ∷ d ∷ l) rest
packed_back k count ns e h = absurd (omega arith)

pub packed_long : (k : ℕ) (ns : List ℕ) → length ns ≡ 4 * k → length (packed ns) ≡ k
packed_long k [] e = omega arith
packed_long (suc k) (a ∷ b ∷ c ∷ d ∷ ns) e = omega (arith, packed_long k ns (omega arith))
packed_long k ns e = absurd (omega arith)

-- each byte of each word is below the count
pub packed_below : (k count : ℕ) (ns : List ℕ) → length ns ≡ 4 * k → NumbersBelow count ns
    → (q : ℕ) → q < length (packed ns) → BytesBelow count (slice_index (packed ns) q)
packed_below (suc k) count (a ∷ b ∷ c ∷ d ∷ ns) e h zero l =
    let long : 3 < length (a ∷ b ∷ c ∷ d ∷ ns) = omega arith in
    let p = h 0 (omega (arith, long)) in
    let q = h 1 (omega (arith, long)) in
    let r = h 2 (omega (arith, long)) in
    let s = h 3 long in (
      omega (arith, p.0, p.1),
      omega (arith, p.0, q.0, q.1),
      omega (arith, p.0, q.0, r.0, r.1),
      omega (arith, p.0, q.0, r.0, s.0, s.1),
    )
packed_below (suc k) count (a ∷ b ∷ c ∷ d ∷ ns) e h (suc q) l =
    packed_below k count ns (omega arith) (further count a b c d ns h) q (omega arith)
packed_below k count ns e h q l = absurd (omega (arith, packed_long k ns e))

-- the words that were packed are those of their bytes
pub packed_again : (ws : List ℕ) → ((k : ℕ) → k < length ws → slice_index ws k < 4294967296)
    → packed (flat_map bytes_of ws) ≡ ws
packed_again [] h = refl
packed_again (w ∷ ws) h =
    let below : w < 4294967296 = h 0 (omega arith) in
    let front : word_of_four (w % 256) (w / 256 % 256) (w / 65536 % 256) (w / 16777216 % 256) ≡ w = omega arith in
    let rest = packed_again ws (λ k l. h (suc k) (omega arith)) in
    ap (λ n. n ∷ packed (flat_map bytes_of ws)) front ∙ ap (λ l. w ∷ l) rest

-- Words that stand at a place

-- the words of [i, j) are some in front, a body and the rest
record Split (ws : List ℕ) (i j : ℕ) (front body rest : List ℕ) : Type 0 where
  pub inside : Stands ws (i + length front) body
  pub behind : (k : ℕ) → i + length front + length body ≡ k → Stands ws k rest
  pub long : j ≡ i + length front + length body + length rest

split : {ws : List ℕ} {i j : ℕ} (front body rest : List ℕ) → Stands ws i (front ++ (body ++ rest))
    → j ≡ i + length (front ++ (body ++ rest)) → Split ws i j front body rest
split front body rest st e =
    let after = stands_behind front st in
    record {
      inside = stands_front body rest after;
      behind = λ k at. stands_moved k at (stands_behind body after);
      long = omega (arith, e, length-append front (body ++ rest), length-append body rest);
    }

-- a JUMP over the rest
jumped : {ws rest : List ℕ} {k : ℕ} (j : ℕ) → Stands ws k (opcode_number opcode.JUMP ∷ (length rest + 1) ∷ rest)
    → j ≡ k + 2 + length rest → JumpsTo ws k j
jumped {ws} {rest} {k} j st e =
    (head st, omega (arith, e, word_of ws (k + 1) (length rest + 1) (st.at 1 (length rest + 1) refl)))

lay_set : (s : List SetItem) (ws : List ℕ) (i j : ℕ) → Stands ws i (set_words s) → j ≡ i + length (set_words s)
    → LawfulSet s → ReadsSet ws i j s
lay_set [] ws i j st e h = omega arith
lay_set (Single v ∷ rest) ws i j st e h =
    (head st, st.at 1 v refl, lay_set rest ws (i + 2) j (stands_behind (_ ∷ v ∷ []) st) (omega (arith, e)) h.1)
lay_set (Range low high ∷ rest) ws i j st e h =
    let after = lay_set rest ws (i + 3) j (stands_behind (_ ∷ low ∷ high ∷ []) st) (omega (arith, e)) h.1 in
    (head st, st.at 1 low refl, st.at 2 high refl, after)
lay_set (RangeUniIgnore low high ∷ rest) ws i j st e h =
    let after = lay_set rest ws (i + 3) j (stands_behind (_ ∷ low ∷ high ∷ []) st) (omega (arith, e)) h.1 in
    (head st, st.at 1 low refl, st.at 2 high refl, after)
lay_set (Category c ∷ rest) ws i j st e h =
    let n : ℕ = category_number c in
    (head st, st.at 1 n refl, lay_set rest ws (i + 2) j (stands_behind (_ ∷ n ∷ []) st) (omega (arith, e)) h.1)
lay_set (Charset bits ∷ rest) ws i j st e h =
    let s = split (_ ∷ []) bits (set_words rest) st e in (
      head st,
      stands_range (i + 9) bits s.inside (omega (arith, h.0)),
      omega (arith, s.inside.within, h.0),
      lay_set rest ws (i + 9) j (s.behind (i + 9) (omega (arith, h.0))) (omega (arith, s.long, h.0)) h.1,
    )
lay_set (BigCharset numbers bits ∷ rest) ws i j st e h =
    let count : ℕ = length bits / 8 in
    let table : List ℕ = packed numbers in
    let long : length table ≡ 64 = packed_long 64 numbers (omega (arith, h.0.0)) in
    let cnt : word ws (i + 1) ≡ count = word_of ws (i + 1) count (st.at 1 count refl) in
    let k : ℕ = i + 66 + word ws (i + 1) * 8 in
    let first = split (_ ∷ count ∷ []) table (bits ++ set_words rest) st e in
    let own = stands_front bits (set_words rest) (first.behind (i + 66) (omega (arith, long))) in
    let end : i + 66 + length bits ≡ k = omega (arith, cnt, h.0.1) in
    let after = stands_moved k end (stands_behind bits (first.behind (i + 66) (omega (arith, long)))) in
    let numbers_are : table ≡ slice_range ws (i + 2) (i + 66) =
    stands_range (i + 66) table first.inside (omega (arith, long)) in
    let below : BlocksBelow (word ws (i + 1)) (slice_range ws (i + 2) (i + 66)) =
    rw cnt (subst (BlocksBelow count) numbers_are (packed_below 64 count numbers (omega (arith, h.0.0)) h.0.2)) in (
      head st,
      sym (packed_back 64 count numbers (omega (arith, h.0.0)) h.0.2) ∙ ap (λ l. flat_map bytes_of l) numbers_are,
      below,
      stands_range k bits own (sym end),
      omega (arith, own.within, end),
      lay_set rest ws k j after (omega (arith, first.long, long, length-append bits (set_words rest), end)) h.1,
    )
lay_set (Negate ∷ rest) ws i j st e h =
    (head st, lay_set rest ws (i + 1) j (stands_behind (_ ∷ []) st) (omega (arith, e)) h.1)

lay_test : (t : Test) (ws : List ℕ) (i j : ℕ) → Stands ws i (test_words t) → j ≡ i + length (test_words t)
    → LawfulTest t → TestOperands ws i j t
lay_test Any ws i j st e h = omega (arith, e)
lay_test AnyAll ws i j st e h = omega (arith, e)
lay_test (InCategory c) ws i j st e h = (st.at 1 (category_number c) refl, omega (arith, e))
lay_test (Literal fold v) ws i j st e h = (st.at 1 v refl, omega (arith, e))
lay_test (NotLiteral fold v) ws i j st e h = (st.at 1 v refl, omega (arith, e))
lay_test (In fold set) ws i j st e h =
    let n : ℕ = length (set_words set) in
    let s = split (_ ∷ (n + 2) ∷ []) (set_words set) (opcode_number opcode.FAILURE ∷ []) st e in
    let leads = word_of ws (i + 1) (n + 2) (st.at 1 (n + 2) refl) in
    let items = lay_set set ws (i + 2) (j - 1) s.inside (omega (arith, s.long)) h in
    (omega (arith, s.long, leads), items, head (s.behind (j - 1) (omega (arith, s.long))))

mutual
  pub lay_tree : (t : Tree) (ws : List ℕ) (i j : ℕ) → Stands ws i (tree_words t) → j ≡ i + length (tree_words t)
      → LawfulTree t → Reads ws i j t
  lay_tree Empty ws i j st e h = omega (arith, e)
  lay_tree (Then x rest) ws i j st e h =
      let k : ℕ = i + length (item_words x) in
      let long = length-append (item_words x) (tree_words rest) in
      let front : Stands ws i (item_words x) = stands_front (item_words x) (tree_words rest) st in
      let after = lay_tree rest ws k j (stands_behind (item_words x) st) (omega (arith, e, long)) h.1 in
      (k, (head front, lay_operands x ws i k front refl h.0), after)

  lay_operands : (x : Item) (ws : List ℕ) (i j : ℕ) → Stands ws i (item_words x) → j ≡ i + length (item_words x)
      → LawfulItem x → Operands ws i j x
  lay_operands Fail ws i j st e h = omega (arith, e)
  lay_operands (One t) ws i j st e h = lay_test t ws i j st e h
  lay_operands (At a) ws i j st e h = (st.at 1 (at_number a) refl, omega (arith, e))
  lay_operands (Mark n) ws i j st e h = (st.at 1 n refl, omega (arith, e))
  lay_operands (Branch ts) ws i j st e h =
      lay_trees ts ws (i + 1) j (stands_behind (_ ∷ []) st) (omega (arith, e)) h
  lay_operands (Loop o low high body) ws i j st e h =
      let n : ℕ = length (tree_words body) in
      let until : List ℕ = opcode_number (until_opcode o) ∷ [] in
      let s = split (_ ∷ (n + 3) ∷ low ∷ high ∷ []) (tree_words body) until st e in
      let leads : skip ws (i + 1) ≡ i + 4 + n = omega (arith, word_of ws (i + 1) (n + 3) (st.at 1 (n + 3) refl)) in
      let inside = lay_tree body ws (i + 4) (skip ws (i + 1)) s.inside leads h.1 in
      let end = head (s.behind (skip ws (i + 1)) (sym leads)) in
      (st.at 2 low refl, st.at 3 high refl, h.0, inside, end, omega (arith, leads, s.long))
  lay_operands (Run kind low high t) ws i j st e h =
      let n : ℕ = length (test_words t) in
      let s = split (_ ∷ (n + 4) ∷ low ∷ high ∷ []) (test_words t) (opcode_number opcode.SUCCESS ∷ []) st e in
      let leads = word_of ws (i + 1) (n + 4) (st.at 1 (n + 4) refl) in (
        omega (arith, leads, s.long),
        st.at 2 low refl,
        st.at 3 high refl,
        h.0,
        head s.inside,
        lay_test t ws (i + 4) (j - 1) s.inside (omega (arith, s.long)) h.1,
        head (s.behind (j - 1) (omega (arith, s.long))),
      )
  lay_operands (PossessiveLoop low high body) ws i j st e h =
      let n : ℕ = length (tree_words body) in
      let s = split (_ ∷ (n + 3) ∷ low ∷ high ∷ []) (tree_words body) (opcode_number opcode.SUCCESS ∷ []) st e in
      let leads : skip ws (i + 1) ≡ i + 4 + n = omega (arith, word_of ws (i + 1) (n + 3) (st.at 1 (n + 3) refl)) in
      let inside = lay_tree body ws (i + 4) (skip ws (i + 1)) s.inside leads h.1 in
      let end = head (s.behind (skip ws (i + 1)) (sym leads)) in
      (st.at 2 low refl, st.at 3 high refl, h.0, inside, end, omega (arith, leads, s.long))
  lay_operands (Atomic body) ws i j st e h =
      let n : ℕ = length (tree_words body) in
      let s = split (_ ∷ (n + 2) ∷ []) (tree_words body) (opcode_number opcode.SUCCESS ∷ []) st e in
      let leads = word_of ws (i + 1) (n + 2) (st.at 1 (n + 2) refl) in
      let inside = lay_tree body ws (i + 2) (j - 1) s.inside (omega (arith, s.long)) h in
      (omega (arith, s.long, leads), inside, head (s.behind (j - 1) (omega (arith, s.long))))
  lay_operands (Look sign back body) ws i j st e h =
      let n : ℕ = length (tree_words body) in
      let s = split (_ ∷ (n + 3) ∷ back ∷ []) (tree_words body) (opcode_number opcode.SUCCESS ∷ []) st e in
      let leads = word_of ws (i + 1) (n + 3) (st.at 1 (n + 3) refl) in
      let inside = lay_tree body ws (i + 3) (j - 1) s.inside (omega (arith, s.long)) h in
      let end = head (s.behind (j - 1) (omega (arith, s.long))) in
      (omega (arith, s.long, leads), st.at 2 back refl, inside, end)
  lay_operands (Reference fold g) ws i j st e h = (st.at 1 g refl, omega (arith, e))
  lay_operands (Exists g there) ws i j st e h =
      let n : ℕ = length (tree_words there) in
      let leads : word ws (i + 2) ≡ n + 2 = word_of ws (i + 2) (n + 2) (st.at 2 (n + 2) refl) in
      let after = stands_behind (_ ∷ g ∷ (n + 2) ∷ []) st in
      (st.at 1 g refl, omega (arith, e, leads), lay_tree there ws (i + 3) j after (omega (arith, e)) h)
  lay_operands (ExistsElse g there absent) ws i j st e h =
      let n : ℕ = length (tree_words there) in
      let no : List ℕ = tree_words absent in
      let tail : List ℕ = opcode_number opcode.JUMP ∷ (length no + 1) ∷ no in
      let s = split (_ ∷ g ∷ (n + 4) ∷ []) (tree_words there) tail st e in
      let leads = word_of ws (i + 2) (n + 4) (st.at 2 (n + 4) refl) in
      let m : ℕ = i + 1 + word ws (i + 2) in
      let after = s.behind (m - 2) (omega (arith, leads)) in
      let behind = stands_moved m (omega (arith, leads)) (stands_behind (_ ∷ (length no + 1) ∷ []) after) in (
        st.at 1 g refl,
        lay_tree there ws (i + 3) (m - 2) s.inside (omega (arith, leads)) h.0,
        jumped j after (omega (arith, s.long, leads)),
        lay_tree absent ws m j behind (omega (arith, s.long, leads)) h.1,
      )

  lay_trees : (ts : Trees) (ws : List ℕ) (q j : ℕ) → Stands ws q (branch_words ts) → j ≡ q + length (branch_words ts)
      → LawfulTrees ts → ReadsBranch ws q j ts
  lay_trees (Only t) ws q j st e h =
      let n : ℕ = length (tree_words t) in
      let s = split ((n + 3) ∷ []) (tree_words t) (opcode_number opcode.JUMP ∷ 2 ∷ 0 ∷ []) st e in
      let leads = word_of ws q (n + 3) (head st) in
      let k : ℕ = skip ws q - 2 in
      let after = s.behind k (omega (arith, leads)) in (
        lay_tree t ws (q + 1) k s.inside (omega (arith, leads)) h,
        jumped {rest = 0 ∷ []} j after (omega (arith, s.long, leads)),
        word_moved ws (k + 2) (skip ws q) 0 (omega (arith, leads)) (after.at 2 0 refl),
        omega (arith, s.long, leads),
      )
  lay_trees (Or t ts) ws q j st e h =
      let n : ℕ = length (tree_words t) in
      let rest : List ℕ = branch_words ts in
      let tail : List ℕ = opcode_number opcode.JUMP ∷ (length rest + 1) ∷ rest in
      let s = split ((n + 3) ∷ []) (tree_words t) tail st e in
      let leads = word_of ws q (n + 3) (head st) in
      let k : ℕ = skip ws q - 2 in
      let after = s.behind k (omega (arith, leads)) in
      let next = stands_moved (skip ws q) (omega (arith, leads)) (stands_behind (_ ∷ (length rest + 1) ∷ []) after) in (
        lay_tree t ws (q + 1) k s.inside (omega (arith, leads)) h.0,
        jumped j after (omega (arith, s.long, leads)),
        lay_trees ts ws (skip ws q) j next (omega (arith, s.long, leads)) h.1,
      )

-- What is read are the code words

-- the words of [i, j) are those of xs
pub record Spells (ws : List ℕ) (i j : ℕ) (xs : List ℕ) : Type 0 where
  pub same : drop i ws ≡ xs ++ drop j ws
  pub ends : j ≡ i + length xs
  pub room : j ≤ length ws

spell_nothing : {ws : List ℕ} {i j : ℕ} → i ≡ j → j ≤ length ws → Spells ws i j []
spell_nothing {ws} e l = record { same = ap (λ k. drop k ws) e; ends = omega (arith, e); room = l }

spell_word : {ws xs : List ℕ} {i j x : ℕ} (k : ℕ) → Word ws i x → i + 1 ≡ k → Spells ws k j xs → Spells ws i j (x ∷ xs)
spell_word {ws} {i} {x} k w e s =
    let next : suc i ≡ k = omega (arith, e) in
    let there = drop-cons ws i 0 (word_within ws i x w) in
    record {
      same = there ∙ ap (λ v. v ∷ drop (suc i) ws) (word_of ws i x w) ∙ ap (λ n. x ∷ drop n ws) next
          ∙ ap (λ l. x ∷ l) s.same;
      ends = omega (arith, e, s.ends);
      room = s.room;
    }

-- two words in front
spell_two : {ws xs : List ℕ} {i j x y : ℕ} → Word ws i x → Word ws (i + 1) y → Spells ws (i + 2) j xs
    → Spells ws i j (x ∷ y ∷ xs)
spell_two {i} w v s = spell_word (i + 1) w refl (spell_word (i + 2) v (omega arith) s)

-- the last word, and the last two
pub spell_last : {ws : List ℕ} {i j x : ℕ} → Word ws i x → j ≡ i + 1 → Spells ws i j (x ∷ [])
spell_last {ws} {i} {j} {x} w e =
    spell_word j w (sym e) (spell_nothing refl (omega (arith, e, word_within ws i x w)))

spell_pair : {ws : List ℕ} {i j x y : ℕ} → Word ws i x → Word ws (i + 1) y → j ≡ i + 2 → Spells ws i j (x ∷ y ∷ [])
spell_pair {i} w v e = spell_word (i + 1) w refl (spell_last v (omega (arith, e)))

pub spell_then : {ws xs ys : List ℕ} {i k j : ℕ} → Spells ws i k xs → Spells ws k j ys → Spells ws i j (xs ++ ys)
spell_then {ws} {xs} {ys} {j} s t = record {
  same = s.same ∙ ap (λ l. xs ++ l) t.same ∙ sym (append_assoc xs ys (drop j ws));
  ends = omega (arith, s.ends, t.ends, length-append xs ys);
  room = t.room;
}

spell_range : {ws xs : List ℕ} {i j : ℕ} → xs ≡ slice_range ws i j → i ≤ j → j ≤ length ws → Spells ws i j xs
spell_range {ws} {i} {j} e order room = record {
  same = drop_split ws i j order ∙ ap (λ l. l ++ drop j ws) (sym e);
  ends = omega (arith, order, ap length e, range_long ws i j room);
  room = room;
}

-- and back
pub spelled_range : {ws xs : List ℕ} {i j : ℕ} → Spells ws i j xs → xs ≡ slice_range ws i j
spelled_range {ws} {xs} {i} {j} s =
    let long : j - i ≡ length xs = omega (arith, s.ends) in
    sym (ap (take (j - i)) s.same ∙ ap (λ n. take n (xs ++ drop j ws)) long ∙ take-append_seam xs (drop j ws))

-- the words of a part are words
range_words : (ws : List ℕ) (a b : ℕ) → AreWords ws → b ≤ length ws
    → (k : ℕ) → k < length (slice_range ws a b) → slice_index (slice_range ws a b) k < 4294967296
range_words ws a b h room k l =
    let there : a + k < b = omega (arith, range_long ws a b room) in
    let word_is = h.fits (a + k) (word ws (a + k)) (word_there ws (a + k) (omega (arith, room))) in
    omega (arith, part_at ws a b k there, word_is)

pub read_set : (s : List SetItem) (ws : List ℕ) (i j : ℕ) → AreWords ws → ReadsSet ws i j s → j ≤ length ws
    → Spells ws i j (set_words s)
read_set [] ws i j h r room = spell_nothing r room
read_set (Single v ∷ rest) ws i j h r room = spell_two r.0 r.1 (read_set rest ws (i + 2) j h r.2 room)
read_set (Range low high ∷ rest) ws i j h r room =
    spell_two r.0 r.1 (spell_word (i + 3) r.2 (omega arith) (read_set rest ws (i + 3) j h r.3 room))
read_set (RangeUniIgnore low high ∷ rest) ws i j h r room =
    spell_two r.0 r.1 (spell_word (i + 3) r.2 (omega arith) (read_set rest ws (i + 3) j h r.3 room))
read_set (Category c ∷ rest) ws i j h r room = spell_two r.0 r.1 (read_set rest ws (i + 2) j h r.2 room)
read_set (Charset bits ∷ rest) ws i j h r room =
    spell_word (i + 1) r.0 refl
    (spell_then (spell_range r.1 (omega arith) r.2) (read_set rest ws (i + 9) j h r.3 room))
read_set (BigCharset numbers bits ∷ rest) ws i j h r room =
    let long : i + 66 ≤ length ws = omega (arith, r.4) in
    let own : List ℕ = slice_range ws (i + 2) (i + 66) in
    let same : packed numbers ≡ own =
    ap packed r.1 ∙ packed_again own (range_words ws (i + 2) (i + 66) h long) in
    let second = spell_range {xs = bits} r.3 (omega arith) r.4 in
    let there : Word ws (i + 1) (length bits / 8) =
    word_at ws (i + 1) (length bits / 8) (omega (arith, long)) (omega (arith, second.ends)) in
    spell_two r.0 there
    (spell_then (spell_range same (omega arith) long)
    (spell_then second (read_set rest ws (i + 66 + word ws (i + 1) * 8) j h r.5 room)))
read_set (Negate ∷ rest) ws i j h r room = spell_word (i + 1) r.0 refl (read_set rest ws (i + 1) j h r.1 room)

-- a test, with its opcode
read_test : (t : Test) (ws : List ℕ) (i j : ℕ) → AreWords ws → Opcode ws i (test_opcode t) → TestOperands ws i j t
    → j ≤ length ws → Spells ws i j (test_words t)
read_test Any ws i j h o r room = spell_last o r
read_test AnyAll ws i j h o r room = spell_last o r
read_test (InCategory c) ws i j h o r room = spell_pair o r.0 r.1
read_test (Literal fold v) ws i j h o r room = spell_pair o r.0 r.1
read_test (NotLiteral fold v) ws i j h o r room = spell_pair o r.0 r.1
read_test (In fold set) ws i j h o r room =
    let inside = read_set set ws (i + 2) (j - 1) h r.1 (omega (arith, room)) in
    let leads : Word ws (i + 1) (length (set_words set) + 2) =
    word_at ws (i + 1) _ (omega (arith, inside.ends, room)) (omega (arith, r.0, inside.ends)) in
    spell_two o leads (spell_then inside (spell_last r.2 (omega (arith, inside.ends))))

-- a repeat
read_repeat : {ws body : List ℕ} {i k j o low high end : ℕ} (extra : ℕ) → Word ws i o
    → word ws (i + 1) ≡ length body + extra → Word ws (i + 2) low → Word ws (i + 3) high → Spells ws (i + 4) k body
    → Word ws k end → j ≡ k + 1 → Spells ws i j (o ∷ repeated extra low high body end)
read_repeat {ws} {body} {i} {low} extra w leads a b s z e =
    let there : Word ws (i + 1) (length body + extra) =
    word_at ws (i + 1) _ (omega (arith, word_within ws (i + 2) low a)) leads in
    spell_two w there
    (spell_word (i + 3) a (omega arith) (spell_word (i + 4) b (omega arith) (spell_then s (spell_last z e))))

-- a word, a body, its JUMP to behind what follows, and that
read_parts : {ws body rest : List ℕ} {q k m j v : ℕ} → Word ws q v → Spells ws (q + 1) k body → JumpsTo ws k j
    → m ≡ k + 2 → Spells ws m j rest
    → Spells ws q j (v ∷ (body ++ opcode_number opcode.JUMP ∷ (length rest + 1) ∷ rest))
read_parts {ws} {rest} {q} {k} {m} w s jumps e t =
    let far : Word ws (k + 1) (length rest + 1) =
    word_at ws (k + 1) _ (omega (arith, t.ends, t.room, e)) (omega (arith, jumps.1, t.ends, e)) in
    spell_word (q + 1) w refl (spell_then s (spell_word (k + 1) jumps.0 refl (spell_word m far (omega (arith, e)) t)))

mutual
  pub read_tree : (t : Tree) (ws : List ℕ) (i j : ℕ) → AreWords ws → Reads ws i j t → j ≤ length ws
      → Spells ws i j (tree_words t)
  read_tree Empty ws i j h r room = spell_nothing r room
  read_tree (Then x rest) ws i j h r room =
      let s = read_tree rest ws r.0 j h r.2 room in
      spell_then (read_item x ws i r.0 h r.1.0 r.1.1 (omega (arith, room, s.ends))) s

  read_item : (x : Item) (ws : List ℕ) (i j : ℕ) → AreWords ws → Opcode ws i (item_opcode x) → Operands ws i j x
      → j ≤ length ws → Spells ws i j (item_words x)
  read_item Fail ws i j h o r room = spell_last o r
  read_item (One t) ws i j h o r room = read_test t ws i j h o r room
  read_item (At a) ws i j h o r room = spell_pair o r.0 r.1
  read_item (Mark n) ws i j h o r room = spell_pair o r.0 r.1
  read_item (Branch ts) ws i j h o r room = spell_word (i + 1) o refl (read_trees ts ws (i + 1) j h r room)
  read_item (Loop o low high body) ws i j h w r room =
      let s = read_tree body ws (i + 4) (skip ws (i + 1)) h r.3 (omega (arith, r.5, room)) in
      read_repeat 3 w (omega (arith, s.ends)) r.0 r.1 s r.4 r.5
  read_item (Run kind low high t) ws i j h w r room =
      let s = read_test t ws (i + 4) (j - 1) h r.4 r.5 (omega (arith, room)) in
      read_repeat 4 w (omega (arith, s.ends, r.0)) r.1 r.2 s r.6 (omega (arith, s.ends))
  read_item (PossessiveLoop low high body) ws i j h w r room =
      let s = read_tree body ws (i + 4) (skip ws (i + 1)) h r.3 (omega (arith, r.5, room)) in
      read_repeat 3 w (omega (arith, s.ends)) r.0 r.1 s r.4 r.5
  read_item (Atomic body) ws i j h w r room =
      let s = read_tree body ws (i + 2) (j - 1) h r.1 (omega (arith, room)) in
      let leads : Word ws (i + 1) (length (tree_words body) + 2) =
      word_at ws (i + 1) _ (omega (arith, s.ends, room)) (omega (arith, r.0, s.ends)) in
      spell_two w leads (spell_then s (spell_last r.2 (omega (arith, s.ends))))
  read_item (Look sign back body) ws i j h w r room =
      let s = read_tree body ws (i + 3) (j - 1) h r.2 (omega (arith, room)) in
      let leads : Word ws (i + 1) (length (tree_words body) + 3) =
      word_at ws (i + 1) _ (omega (arith, s.ends, room)) (omega (arith, r.0, s.ends)) in
      spell_two w leads
      (spell_word (i + 3) r.1 (omega arith) (spell_then s (spell_last r.3 (omega (arith, s.ends)))))
  read_item (Reference fold g) ws i j h o r room = spell_pair o r.0 r.1
  read_item (Exists g there) ws i j h w r room =
      let s = read_tree there ws (i + 3) j h r.2 room in
      let leads : Word ws (i + 2) (length (tree_words there) + 2) =
      word_at ws (i + 2) _ (omega (arith, s.ends, room)) (omega (arith, r.1, s.ends)) in
      spell_two w r.0 (spell_word (i + 3) leads (omega arith) s)
  read_item (ExistsElse g there absent) ws i j h w r room =
      let n : ℕ = i + 1 + word ws (i + 2) in
      let t = read_tree absent ws n j h r.3 room in
      let s = read_tree there ws (i + 3) (n - 2) h r.1 (omega (arith, t.ends, room)) in
      let leads : Word ws (i + 2) (length (tree_words there) + 4) =
      word_at ws (i + 2) _ (omega (arith, s.ends, t.ends, room)) (omega (arith, s.ends)) in
      let next : i + 3 ≡ i + 2 + 1 = omega arith in
      let body = subst (λ k. Spells ws k (n - 2) (tree_words there)) next s in
      spell_two w r.0 (read_parts leads body r.2 (omega (arith, s.ends)) t)

  read_trees : (ts : Trees) (ws : List ℕ) (q j : ℕ) → AreWords ws → ReadsBranch ws q j ts → j ≤ length ws
      → Spells ws q j (branch_words ts)
  read_trees (Only t) ws q j h r room =
      let s = read_tree t ws (q + 1) (skip ws q - 2) h r.0 (omega (arith, room, r.3)) in
      let leads : Word ws q (length (tree_words t) + 3) =
      word_at ws q _ (omega (arith, s.ends, r.3, room)) (omega (arith, s.ends)) in
      read_parts leads s r.1 (omega (arith, s.ends)) (spell_last r.2 r.3)
  read_trees (Or t ts) ws q j h r room =
      let rest = read_trees ts ws (skip ws q) j h r.2 room in
      let s = read_tree t ws (q + 1) (skip ws q - 2) h r.0 (omega (arith, rest.ends, room)) in
      let leads : Word ws q (length (tree_words t) + 3) =
      word_at ws q _ (omega (arith, s.ends, rest.ends, room)) (omega (arith, s.ends)) in
      read_parts leads s r.1 (omega (arith, s.ends)) rest
