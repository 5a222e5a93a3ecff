-- The tree of bytecode, by a function: a run of the machine is measured by it, and the grammar relates no other tree to
-- the words.
use Rattle.sre_model.proofs.Terms.{opcode_at, ℕ, ◌+◌, ◌*◌, ◌-◌, ◌≡◌, ◌<◌, ◌≤◌, List, [], ◌∷◌, length, refl, arith, Tree}
use Rattle.sre_model.proofs.Terms.{Empty, Then, Item, Trees, Only, Or, Test, SetItem, Single, Range, RangeUniIgnore}
use Rattle.sre_model.proofs.Terms.{Category, Charset, BigCharset, Negate, word, skip, Reads, ReadsBranch, ReadsSet}
use Rattle.sre_model.proofs.Terms.{Operands, TestOperands, zero, suc, ◌⊎◌, inl, inr, Bool, true, false, nat_lt, nat_eq}
use Rattle.sre_model.proofs.Terms.{Option, None, Some, slice_index_or, sym, ap, ◌∙◌, nat_tests, at_number, SreOpcode}
use Rattle.sre_model.proofs.Terms.{SreAtCode, Order, Greedy, Lazy, RunKind, GreedyRun, LazyRun, PossessiveRun, Sign}
use Rattle.sre_model.proofs.Terms.{Positive, Negative, Fold, Plain, Ascii, Locale, Unicode, Word, Opcode, test_opcode}
use Rattle.sre_model.proofs.Terms.{item_opcode, until_opcode, WholeItems, ReadsItem, Whole, behind_block, same_Some}
use Rattle.sre_model.specs.Tree.{One, Branch, ExistsElse, Fail, At, Mark, Loop, Run, PossessiveLoop, Atomic, Look}
use Rattle.sre_model.specs.Tree.{Reference, Exists, Any, AnyAll, InCategory, Literal, NotLiteral, In}
use Rattle.sre_model.specs.Grammar.{reference_opcode}
use Rattle.sre_chars.specs.declared.constants.SreOpcode.TheVariants as opcode
use Rattle.sre_chars.specs.declared.constants.SreAtCode.TheVariants as at
use Rattle.sre_model.proofs.Opcodes.{word_of, opcode_within, at_codes, at_back, same_opcode}
use Rattle.sre_model.proofs.SetItems.{set_item_opcode, first, category_at, set_item_by, item_past, parted, opcode-read}
use Rattle.sre_model.proofs.SetItems.{category-read}

-- Where readings end

-- each item of a set has a word at least
set_long : (ws : List ℕ) (i j : ℕ) (s : List SetItem) → ReadsSet ws i j s → i + length s ≤ j
set_long ws i j [] r = omega arith
set_long ws i j (Single v ∷ rest) r = omega (arith, set_long ws (i + 2) j rest r.2)
set_long ws i j (Range low high ∷ rest) r = omega (arith, set_long ws (i + 3) j rest r.3)
set_long ws i j (RangeUniIgnore low high ∷ rest) r = omega (arith, set_long ws (i + 3) j rest r.3)
set_long ws i j (Category c ∷ rest) r = omega (arith, set_long ws (i + 2) j rest r.2)
set_long ws i j (Charset bits ∷ rest) r = omega (arith, set_long ws (i + 9) j rest r.3)
set_long ws i j (BigCharset numbers bits ∷ rest) r =
    omega (arith, set_long ws (i + 66 + word ws (i + 1) * 8) j rest r.5)
set_long ws i j (Negate ∷ rest) r = omega (arith, set_long ws (i + 1) j rest r.1)

pub set_within : (ws : List ℕ) (i j : ℕ) (s : List SetItem) → ReadsSet ws i j s → i ≤ j
set_within ws i j s r = omega (arith, set_long ws i j s r)

-- a set item is not empty
pub set_past : (x : SetItem) (rest : List SetItem) (ws : List ℕ) (i j : ℕ) → ReadsSet ws i j (x ∷ rest) → i < j
set_past x rest ws i j r = omega (arith, set_long ws i j (x ∷ rest) r)

pub test_past : (t : Test) (ws : List ℕ) (i j : ℕ) → TestOperands ws i j t → i < j
test_past Any ws i j r = omega arith
test_past t ws i j r = omega arith

mutual
  pub reads_within : (t : Tree) (ws : List ℕ) (i j : ℕ) → Reads ws i j t → i ≤ j
  reads_within Empty ws i j r = omega arith
  reads_within (Then x rest) ws i j r = omega (arith, operands_past x ws i r.0 r.1.1, reads_within rest ws r.0 j r.2)

  pub operands_past : (x : Item) (ws : List ℕ) (i j : ℕ) → Operands ws i j x → i < j
  operands_past (One t) ws i j r = test_past t ws i j r
  operands_past (Branch ts) ws i j r = omega (arith, branch_past ts ws (i + 1) j r)
  operands_past (ExistsElse g there absent) ws i j r =
      omega (arith, reads_within absent ws (i + 1 + word ws (i + 2)) j r.3)
  operands_past x ws i j r = omega arith

  pub branch_past : (ts : Trees) (ws : List ℕ) (q j : ℕ) → ReadsBranch ws q j ts → q < j
  branch_past (Only t) ws q j r = omega arith
  branch_past (Or t ts) ws q j r = omega (arith, branch_past ts ws (skip ws q) j r.2)

-- an alternative has three words at least
pub alternative_long : (ws : List ℕ) (q j : ℕ) (ts : Trees) → ReadsBranch ws q j ts → q + 3 ≤ skip ws q
alternative_long ws q j (Only t) r = omega (arith, reads_within t ws (q + 1) (skip ws q - 2) r.0)
alternative_long ws q j (Or t ts) r = omega (arith, reads_within t ws (q + 1) (skip ws q - 2) r.0)

pub reads_moved : (ws : List ℕ) (i i2 j j2 : ℕ) (t : Tree) → i ≡ i2 → j ≡ j2 → Reads ws i j t → Reads ws i2 j2 t
reads_moved ws i i2 j j2 t e f r = rw (← e, ← f) r

-- a reading that ends where it begins is empty
pub reads_nothing : (ws : List ℕ) (i k : ℕ) (t : Tree) → Reads ws i k t → k ≡ i → t ≡ Empty
reads_nothing ws i k Empty r e = refl
reads_nothing ws i k (Then x t) r e =
    absurd (omega (arith, operands_past x ws i r.0 r.1.1, reads_within t ws r.0 k r.2))

-- The tree, by a function

-- The codes of words

abbrev pub at_code_at : List ℕ → ℕ → SreAtCode
at_code_at ws i = slice_index_or at_codes (word ws i) at.BEGINNING

-- Functions that read: what they answer where the words are not in the grammar does not matter

-- the set items from i to j
unfoldable pub set_at : ℕ → List ℕ → ℕ → ℕ → List SetItem
set_at zero ws i j = []
set_at (suc f) ws i j =
    elim (nat_lt i j) [ true ↦ let x = set_item_by (opcode_at ws i) ws i in x.0 ∷ set_at f ws x.1 j | false ↦ [] ]

abbrev pub in_at : Fold → List ℕ → ℕ → Test × ℕ
in_at fold ws i =
    let end = skip ws (i + 1) in
    (In fold (set_at (end - i) ws (i + 2) (end - 1)), end)

-- the test with this opcode at i, and where it ends
abbrev pub test_by : SreOpcode → List ℕ → ℕ → Test × ℕ
test_by opcode.ANY_ALL ws i = (AnyAll, i + 1)
test_by opcode.CATEGORY ws i = (InCategory (category_at ws (i + 1)), i + 2)
test_by opcode.LITERAL ws i = (Literal Plain (word ws (i + 1)), i + 2)
test_by opcode.LITERAL_IGNORE ws i = (Literal Ascii (word ws (i + 1)), i + 2)
test_by opcode.LITERAL_LOC_IGNORE ws i = (Literal Locale (word ws (i + 1)), i + 2)
test_by opcode.LITERAL_UNI_IGNORE ws i = (Literal Unicode (word ws (i + 1)), i + 2)
test_by opcode.NOT_LITERAL ws i = (NotLiteral Plain (word ws (i + 1)), i + 2)
test_by opcode.NOT_LITERAL_IGNORE ws i = (NotLiteral Ascii (word ws (i + 1)), i + 2)
test_by opcode.NOT_LITERAL_LOC_IGNORE ws i = (NotLiteral Locale (word ws (i + 1)), i + 2)
test_by opcode.NOT_LITERAL_UNI_IGNORE ws i = (NotLiteral Unicode (word ws (i + 1)), i + 2)
test_by opcode.IN ws i = in_at Plain ws i
test_by opcode.IN_IGNORE ws i = in_at Ascii ws i
test_by opcode.IN_LOC_IGNORE ws i = in_at Locale ws i
test_by opcode.IN_UNI_IGNORE ws i = in_at Unicode ws i
test_by o ws i = (Any, i + 1)

abbrev pub order_by : SreOpcode → Order
order_by opcode.MAX_UNTIL = Greedy
order_by o = Lazy

-- what reads the items from one place up to another, or to a JUMP where an item would begin, and says where it stopped
abbrev pub Reader : Type 0
Reader = ℕ → ℕ → Tree × ℕ

-- the alternatives from the length word at q on, and where their branch ends
unfoldable pub trees_at : ℕ → Reader → List ℕ → ℕ → Trees × ℕ
trees_at zero read ws q = (Only Empty, q)
trees_at (suc f) read ws q =
    let t = (read (q + 1) (skip ws q - 2)).0 in
    let rest = trees_at f read ws (skip ws q) in
    elim (nat_eq (word ws (skip ws q)) 0) [ true ↦ (Only t, skip ws q + 1) | false ↦ (Or t rest.0, rest.1) ]

abbrev pub run_at : RunKind → List ℕ → ℕ → Item × ℕ
run_at kind ws i =
    (Run kind (word ws (i + 2)) (word ws (i + 3)) (test_by (opcode_at ws (i + 4)) ws (i + 4)).0, skip ws (i + 1))

abbrev pub look_at : Sign → Reader → List ℕ → ℕ → Item × ℕ
look_at sign read ws i =
    let end = skip ws (i + 1) in
    (Look sign (word ws (i + 2)) (read (i + 3) (end - 1)).0, end)

abbrev pub reference_at : Fold → List ℕ → ℕ → Item × ℕ
reference_at fold ws i = (Reference fold (word ws (i + 1)), i + 2)

-- by whether the yes part, read item by item, goes on up to the tail:
-- the word of a JUMP two words before it may be an operand
abbrev pub exists_by : Bool → Reader → List ℕ → ℕ → ℕ → Tree → Item × ℕ
exists_by true read ws group tail there = (Exists group there, tail)
exists_by false read ws group tail there =
    let end = skip ws (tail - 2 + 1) in
    (ExistsElse group there (read tail end).0, end)

-- the item with this opcode at i, and where it ends; the fuel is for the alternatives of a branch
abbrev pub item_by : SreOpcode → ℕ → Reader → List ℕ → ℕ → Option (Item × ℕ)
item_by opcode.JUMP f read ws i = None
item_by opcode.FAILURE f read ws i = Some (Fail, i + 1)
item_by opcode.AT f read ws i = Some (At (at_code_at ws (i + 1)), i + 2)
item_by opcode.MARK f read ws i = Some (Mark (word ws (i + 1)), i + 2)
item_by opcode.BRANCH f read ws i =
    let alternatives = trees_at f read ws (i + 1) in
    Some (Branch alternatives.0, alternatives.1)
item_by opcode.REPEAT f read ws i =
    let until = skip ws (i + 1) in
    Some (Loop (order_by (opcode_at ws until)) (word ws (i + 2)) (word ws (i + 3)) (read (i + 4) until).0, until + 1)
item_by opcode.REPEAT_ONE f read ws i = Some (run_at GreedyRun ws i)
item_by opcode.MIN_REPEAT_ONE f read ws i = Some (run_at LazyRun ws i)
item_by opcode.POSSESSIVE_REPEAT_ONE f read ws i = Some (run_at PossessiveRun ws i)
item_by opcode.POSSESSIVE_REPEAT f read ws i =
    let until = skip ws (i + 1) in
    Some (PossessiveLoop (word ws (i + 2)) (word ws (i + 3)) (read (i + 4) until).0, until + 1)
item_by opcode.ATOMIC_GROUP f read ws i =
    let end = skip ws (i + 1) in
    Some (Atomic (read (i + 2) (end - 1)).0, end)
item_by opcode.ASSERT f read ws i = Some (look_at Positive read ws i)
item_by opcode.ASSERT_NOT f read ws i = Some (look_at Negative read ws i)
item_by opcode.GROUPREF f read ws i = Some (reference_at Plain ws i)
item_by opcode.GROUPREF_IGNORE f read ws i = Some (reference_at Ascii ws i)
item_by opcode.GROUPREF_LOC_IGNORE f read ws i = Some (reference_at Locale ws i)
item_by opcode.GROUPREF_UNI_IGNORE f read ws i = Some (reference_at Unicode ws i)
item_by opcode.GROUPREF_EXISTS f read ws i =
    let tail = i + 1 + word ws (i + 2) in
    let there = read (i + 3) tail in
    Some (exists_by (nat_eq there.1 tail) read ws (word ws (i + 1)) tail there.0)
item_by o f read ws i =
    let t = test_by o ws i in
    Some (One t.0, t.1)

abbrev pub items_after : (ℕ → Tree × ℕ) → ℕ → Option (Item × ℕ) → Tree × ℕ
items_after rest i None = (Empty, i)
items_after rest i (Some x) =
    let r = rest x.1 in
    (Then x.0 r.0, r.1)

-- the items from i to j or to a JUMP, and where they stop
unfoldable pub items_at : ℕ → List ℕ → ℕ → ℕ → Tree × ℕ
items_at zero ws i j = (Empty, i)
items_at (suc f) ws i j = elim (nat_lt i j) [
  | true ↦ items_after (λ k. items_at f ws k j) i (item_by (opcode_at ws i) f (items_at f ws) ws i)
  | false ↦ (Empty, i)
]

-- the tree of words that are in the grammar
unfoldable pub tree_of : List ℕ → Tree
tree_of ws = (items_at (length ws) ws 0 (length ws - 1)).0

-- What they answer where the words are in the grammar

at_code-read : (ws : List ℕ) (i : ℕ) (a : SreAtCode) → Word ws i (at_number a) → at_code_at ws i ≡ a
at_code-read ws i a h = ap (λ n. slice_index_or at_codes n at.BEGINNING) (word_of ws i (at_number a) h) ∙ at_back a

pub set-read : (s : List SetItem) (f : ℕ) (ws : List ℕ) (i j : ℕ) → ReadsSet ws i j s → j ≤ i + f
    → set_at f ws i j ≡ s
unfolding set_at
set-read [] zero ws i j r l = refl
set-read [] (suc f) ws i j r l =
    let t : nat_lt i j ≡ false = grind (arith, nat_tests) in
    rw (t, set_at) refl
set-read (x ∷ rest) zero ws i j r l = absurd (omega (arith, set_past x rest ws i j r))
set-read (x ∷ rest) (suc f) ws i j r l =
    let o : SreOpcode = set_item_opcode x in
    let begun : Opcode ws i o = first x rest ws i j r in
    let past : i < j = set_past x rest ws i j r in
    let p = parted o ws i j (x ∷ rest) begun past r in
    let k : ℕ = (set_item_by o ws i).1 in
    let t : nat_lt i j ≡ true = grind (arith, nat_tests) in
    let after = set-read p.0 f ws k j p.3 (omega (arith, item_past o ws i)) in
    rw (t, set_at) (rw (opcode-read ws i o begun, after) (sym p.1))

in-read : (fold : Fold) (set : List SetItem) (ws : List ℕ) (i j : ℕ) → TestOperands ws i j (In fold set)
    → in_at fold ws i ≡ (In fold set, j)
in-read fold set ws i j r = rw (← r.0, set-read set (j - i) ws (i + 2) (j - 1) r.1 (omega arith)) refl

pub test-read : (t : Test) (ws : List ℕ) (i j : ℕ) → TestOperands ws i j t → test_by (test_opcode t) ws i ≡ (t, j)
test-read Any ws i j r = rw r refl
test-read AnyAll ws i j r = rw r refl
test-read (InCategory c) ws i j r = rw (category-read ws (i + 1) c r.0, r.1) refl
test-read (Literal Plain v) ws i j r = rw (word_of ws (i + 1) v r.0, r.1) refl
test-read (Literal fold v) ws i j r = rw (word_of ws (i + 1) v r.0, r.1) refl
test-read (NotLiteral Plain v) ws i j r = rw (word_of ws (i + 1) v r.0, r.1) refl
test-read (NotLiteral fold v) ws i j r = rw (word_of ws (i + 1) v r.0, r.1) refl
test-read (In Plain set) ws i j r = in-read Plain set ws i j r
test-read (In fold set) ws i j r = in-read fold set ws i j r

-- reading stops at j, or at a JUMP before it
abbrev pub Stops : List ℕ → ℕ → ℕ → Type 0
Stops ws k j = (k ≡ j) ⊎ ((k < j) × Opcode ws k opcode.JUMP)

stops_within : (ws : List ℕ) (k j : ℕ) → Stops ws k j → k ≤ j
stops_within ws k j (inl e) = omega arith
stops_within ws k j (inr s) = omega arith

-- the function reads what the words are, up to the fuel's number of words on
abbrev pub IsReader : List ℕ → ℕ → Reader → Type 0
IsReader ws f read = (i j k : ℕ) (t : Tree) → Reads ws i k t → Stops ws k j → k < i + f → read i j ≡ (t, k)

trees-read : (ts : Trees) (f : ℕ) (read : Reader) (ws : List ℕ) (q j : ℕ) → IsReader ws f read → ReadsBranch ws q j ts
    → j ≤ q + f → trees_at f read ws q ≡ (ts, j)
unfolding trees_at
trees-read ts zero read ws q j h r l = absurd (omega (arith, branch_past ts ws q j r))
trees-read (Only t) (suc f) read ws q j h r l =
    let x : read (q + 1) (skip ws q - 2) ≡ (t, skip ws q - 2) =
    h (q + 1) (skip ws q - 2) (skip ws q - 2) t r.0 (inl refl) (omega arith) in
    let z : nat_eq (word ws (skip ws q)) 0 ≡ true = rw (word_of ws (skip ws q) 0 r.2) refl in
    rw (z, trees_at) (rw (x, r.3) refl)
trees-read (Or t ts) (suc f) read ws q j h r l =
    let k = skip ws q in
    let b : k < j = branch_past ts ws k j r.2 in
    let x : read (q + 1) (k - 2) ≡ (t, k - 2) = h (q + 1) (k - 2) (k - 2) t r.0 (inl refl) (omega arith) in
    let long = alternative_long ws k j ts r.2 in
    let z : nat_eq (word ws k) 0 ≡ false = grind (arith, nat_tests) in
    let a : q + 1 ≤ k - 2 = reads_within t ws (q + 1) (k - 2) r.0 in
    let y : trees_at f read ws k ≡ (ts, j) =
    trees-read ts f read ws k j (λ i v m u reads stops below. h i v m u reads stops (omega arith)) r.2 (omega arith) in
    rw (z, trees_at) (rw (x, y) refl)

item-test : (t : Test) (f : ℕ) (read : Reader) (ws : List ℕ) (i : ℕ)
    → let r = test_by (test_opcode t) ws i in item_by (test_opcode t) f read ws i ≡ Some (One r.0, r.1)
item-test (Literal Plain v) f read ws i = refl
item-test (Literal fold v) f read ws i = refl
item-test (NotLiteral Plain v) f read ws i = refl
item-test (NotLiteral fold v) f read ws i = refl
item-test (In Plain set) f read ws i = refl
item-test (In fold set) f read ws i = refl
item-test t f read ws i = refl

order-read : (o : Order) (ws : List ℕ) (u : ℕ) → Opcode ws u (until_opcode o) → order_by (opcode_at ws u) ≡ o
order-read Greedy ws u h = rw (opcode-read ws u opcode.MAX_UNTIL h) refl
order-read Lazy ws u h = rw (opcode-read ws u opcode.MIN_UNTIL h) refl

run-read : (kind : RunKind) (low high : ℕ) (t : Test) (ws : List ℕ) (i j : ℕ) → Operands ws i j (Run kind low high t)
    → run_at kind ws i ≡ (Run kind low high t, j)
run-read kind low high t ws i j r =
    rw (
      ← r.0,
      word_of ws (i + 2) low r.1,
      word_of ws (i + 3) high r.2,
      opcode-read ws (i + 4) (test_opcode t) r.4,
      test-read t ws (i + 4) (j - 1) r.5,
    ) refl

look-read : (sign : Sign) (back : ℕ) (body : Tree) (f : ℕ) (read : Reader) (ws : List ℕ) (i j : ℕ) → IsReader ws f read
    → Operands ws i j (Look sign back body) → j ≤ i + suc f → look_at sign read ws i ≡ (Look sign back body, j)
look-read sign back body f read ws i j h r l =
    let x : read (i + 3) (j - 1) ≡ (body, j - 1) = h (i + 3) (j - 1) (j - 1) body r.2 (inl refl) (omega arith) in
    rw (← r.0, word_of ws (i + 2) back r.1, x) refl

pub item-read : (x : Item) (f : ℕ) (read : Reader) (ws : List ℕ) (i j : ℕ) → IsReader ws f read → Operands ws i j x
    → j ≤ i + suc f → item_by (item_opcode x) f read ws i ≡ Some (x, j)
item-read Fail f read ws i j h r l = rw r refl
item-read (One t) f read ws i j h r l = rw (item-test t f read ws i, test-read t ws i j r) refl
item-read (At a) f read ws i j h r l = rw (at_code-read ws (i + 1) a r.0, r.1) refl
item-read (Mark n) f read ws i j h r l = rw (word_of ws (i + 1) n r.0, r.1) refl
item-read (Branch ts) f read ws i j h r l = rw (trees-read ts f read ws (i + 1) j h r (omega arith)) refl
item-read (Loop o low high body) f read ws i j h r l =
    let until = skip ws (i + 1) in
    let x : read (i + 4) until ≡ (body, until) = h (i + 4) until until body r.3 (inl refl) (omega arith) in
    rw (order-read o ws until r.4, word_of ws (i + 2) low r.0, word_of ws (i + 3) high r.1, x, r.5) refl
item-read (Run GreedyRun low high t) f read ws i j h r l = rw (run-read GreedyRun low high t ws i j r) refl
item-read (Run kind low high t) f read ws i j h r l = rw (run-read kind low high t ws i j r) refl
item-read (PossessiveLoop low high body) f read ws i j h r l =
    let until = skip ws (i + 1) in
    let x : read (i + 4) until ≡ (body, until) = h (i + 4) until until body r.3 (inl refl) (omega arith) in
    rw (word_of ws (i + 2) low r.0, word_of ws (i + 3) high r.1, x, r.5) refl
item-read (Atomic body) f read ws i j h r l =
    let x : read (i + 2) (j - 1) ≡ (body, j - 1) = h (i + 2) (j - 1) (j - 1) body r.1 (inl refl) (omega arith) in
    rw (← r.0, x) refl
item-read (Look Positive back body) f read ws i j h r l = rw (look-read Positive back body f read ws i j h r l) refl
item-read (Look sign back body) f read ws i j h r l = rw (look-read sign back body f read ws i j h r l) refl
item-read (Reference Plain g) f read ws i j h r l = rw (word_of ws (i + 1) g r.0, r.1) refl
item-read (Reference fold g) f read ws i j h r l = rw (word_of ws (i + 1) g r.0, r.1) refl
item-read (Exists g there) f read ws i j h r l =
    let x : read (i + 3) j ≡ (there, j) = h (i + 3) j j there r.2 (inl refl) (omega arith) in
    let z : nat_eq j j ≡ true = grind (arith, nat_tests) in
    rw (← r.1, word_of ws (i + 1) g r.0, x, z) refl
item-read (ExistsElse g there absent) f read ws i j h r l =
    let tail = i + 1 + word ws (i + 2) in
    let a : i + 3 ≤ tail - 2 = reads_within there ws (i + 3) (tail - 2) r.1 in
    let b : tail ≤ j = reads_within absent ws tail j r.3 in
    let x : read (i + 3) tail ≡ (there, tail - 2) =
    h (i + 3) tail (tail - 2) there r.1 (inr (omega arith, r.2.0)) (omega arith) in
    let z : nat_eq (tail - 2) tail ≡ false = grind (arith, nat_tests) in
    let y : read tail j ≡ (absent, j) = h tail j j absent r.3 (inl refl) (omega arith) in
    rw (word_of ws (i + 1) g r.0, x, z, ← r.2.1, y) refl

pub items-read : (f : ℕ) (ws : List ℕ) → IsReader ws f (items_at f ws)
unfolding items_at
items-read zero ws i j k t r s l = absurd (omega (arith, reads_within t ws i k r))
items-read (suc f) ws i j k Empty r (inl e) l =
    let t : nat_lt i j ≡ false = grind (arith, nat_tests) in
    rw (t, items_at, r) refl
items-read (suc f) ws i j k Empty r (inr s) l =
    let t : nat_lt i j ≡ true = grind (arith, nat_tests) in
    let e : opcode_at ws i ≡ opcode.JUMP = rw r (opcode-read ws k opcode.JUMP s.1) in
    rw (t, items_at) (rw (e, r) refl)
items-read (suc f) ws i j k (Then x rest) r s l =
    let m = r.0 in
    let a : i < m = operands_past x ws i m r.1.1 in
    let b : m ≤ k = reads_within rest ws m k r.2 in
    let c : k ≤ j = stops_within ws k j s in
    let first : item_by (opcode_at ws i) f (items_at f ws) ws i ≡ Some (x, m) =
    rw (opcode-read ws i (item_opcode x) r.1.0)
    (item-read x f (items_at f ws) ws i m (items-read f ws) r.1.1 (omega arith)) in
    let after = items-read f ws m j k rest r.2 s (omega arith) in
    let t : nat_lt i j ≡ true = grind (arith, nat_tests) in
    rw (t, items_at) (rw (first, after) refl)

pub whole-read : (ws : List ℕ) (t : Tree) → WholeItems ws t → tree_of ws ≡ t
unfolding tree_of
whole-read ws t h =
    let last = length ws - 1 in
    let within : last < length ws = opcode_within ws last opcode.SUCCESS h.1 in
    ap (λ (r : Tree × ℕ). r.0) (items-read (length ws) ws 0 last last t h.0 (inl refl) (omega arith))

-- At most one tree

pub set_same : (a b : List SetItem) (ws : List ℕ) (i j : ℕ) → ReadsSet ws i j a → ReadsSet ws i j b → a ≡ b
set_same a b ws i j r s = sym (set-read a j ws i j r (omega arith)) ∙ set-read b j ws i j s (omega arith)

pub test_same : (t u : Test) (ws : List ℕ) (i j k : ℕ) → Opcode ws i (test_opcode t) → TestOperands ws i j t
    → Opcode ws i (test_opcode u) → TestOperands ws i k u → (t ≡ u) × (j ≡ k)
test_same t u ws i j k w r x s =
    let same = ap (λ o. test_by o ws i) (same_opcode ws i (test_opcode t) (test_opcode u) w x) in
    let e : (t, j) ≡ (u, k) = sym (test-read t ws i j r) ∙ same ∙ test-read u ws i k s in
    (ap (λ (p : Test × ℕ). p.0) e, ap (λ (p : Test × ℕ). p.1) e)

pub item_same : (x y : Item) (ws : List ℕ) (i j k : ℕ) → ReadsItem ws i j x → ReadsItem ws i k y → (x ≡ y) × (j ≡ k)
item_same x y ws i j k r s =
    let f : ℕ = j + k in
    let a = item-read x f (items_at f ws) ws i j (items-read f ws) r.1 (omega arith) in
    let b = item-read y f (items_at f ws) ws i k (items-read f ws) s.1 (omega arith) in
    let same = ap (λ o. item_by o f (items_at f ws) ws i) (same_opcode ws i (item_opcode x) (item_opcode y) r.0 s.0) in
    let e = same_Some (x, j) (y, k) (sym a ∙ same ∙ b) in
    (ap (λ (p : Item × ℕ). p.0) e, ap (λ (p : Item × ℕ). p.1) e)

-- a reference folds in one way
pub same_reference_fold : (ws : List ℕ) (i : ℕ) (f g : Fold) → Opcode ws i (reference_opcode f)
    → Opcode ws i (reference_opcode g) → f ≡ g
same_reference_fold ws i f g x y = same f g (same_opcode ws i (reference_opcode f) (reference_opcode g) x y)
  where
    same : (f g : Fold) → reference_opcode f ≡ reference_opcode g → f ≡ g
    same Plain Plain e = refl
    same Ascii Ascii e = refl
    same Locale Locale e = refl
    same Unicode Unicode e = refl
    same f g e = absurd (cc)

pub items_same : (ws : List ℕ) (t u : Tree) → WholeItems ws t → WholeItems ws u → t ≡ u
items_same ws t u x y = sym (whole-read ws t x) ∙ whole-read ws u y

pub whole_same : (ws : List ℕ) (t u : Tree) → Whole ws t → Whole ws u → t ≡ u
whole_same ws t u x y = items_same (behind_block ws) t u x.1 y.1
