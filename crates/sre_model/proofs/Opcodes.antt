-- Single words, the opcodes that they are, and what an item or a test is by its opcode.
use Rattle.sre_model.proofs.Terms.{ℕ, ◌≡◌, ◌<◌, ◌≤◌, List, [], ◌∷◌, length, slice_index_or, numbered, refl, sym, ◌∙◌}
use Rattle.sre_model.proofs.Terms.{ap, subst, arith, slice_get_within, opcode_number, at_number, category_number}
use Rattle.sre_model.proofs.Terms.{SreOpcode, SreAtCode, SreCatCode, Word, word, Opcode, AreWords}
use Rattle.sre_model.proofs.Terms.{get_or_from_slice_get, slice_get-get_or, get_or_past, HasCategory, ◌⊎◌, Bool, true}
use Rattle.sre_model.proofs.Terms.{false, inl, inr, Tree, Item, Trees, Test, Order, RunKind, GreedyRun, Sign, Positive}
use Rattle.sre_model.proofs.Terms.{Fold, Plain, SetItem, Greedy, TestKind, Role, role, begins_test, test_opcode}
use Rattle.sre_model.proofs.Terms.{until_opcode, item_opcode, ReadsItem, TestOperands, true≢false, is_test_role}
use Rattle.sre_model.proofs.Terms.{run_opcode}
use Rattle.sre_model.specs.Tree.{Fail, One, At, Mark, Branch, Loop, Run, PossessiveLoop, Atomic, Look, Reference}
use Rattle.sre_model.specs.Tree.{Exists, ExistsElse, Any, AnyAll, InCategory, Literal, NotLiteral, In}
use Rattle.sre_model.specs.Roles.{ToTest, ToCheckPosition, ToMark, ToBranch, ToRun, ToRepeat, ToRepeatPossessively}
use Rattle.sre_model.specs.Roles.{ToGroupAtomically, ToLook, ToFail, ToEnd, ToJump, ToLoop, ToRefer, ToCheckGroup}
use Rattle.sre_model.specs.Roles.{ToNothing, OfAny, OfAnyAll, OfCategory, OfLiteral, OfNotLiteral, OfSet}
use Rattle.sre_model.specs.Grammar.{reference_opcode, look_opcode}
use Rattle.sre_chars.specs.declared.constants.SreOpcode.TheVariants as opcode
use Rattle.sre_chars.specs.declared.constants.SreAtCode.TheVariants as at
use Rattle.sre_chars.specs.declared.constants.SreCatCode.TheVariants as category

pub same_word : (ws : List ℕ) (i a b : ℕ) → Word ws i a → Word ws i b → a ≡ b
same_word ws i a b p q = cc

pub word_of : (ws : List ℕ) (i v : ℕ) → Word ws i v → word ws i ≡ v
word_of ws i v p = get_or_from_slice_get ws i v 0 p

pub word_within : (ws : List ℕ) (i v : ℕ) → Word ws i v → i < length ws
word_within ws i v p = slice_get_within ws i v p

pub word_there : (ws : List ℕ) (i : ℕ) → i < length ws → Word ws i (word ws i)
word_there ws i p = slice_get-get_or ws i 0 p

pub word_past : (ws : List ℕ) (i : ℕ) → length ws ≤ i → word ws i ≡ 0
word_past ws i le = get_or_past ws i 0 le

pub word_at : (ws : List ℕ) (i v : ℕ) → i < length ws → word ws i ≡ v → Word ws i v
word_at ws i v there e = rw e at (word_there ws i there)

pub word_moved : (ws : List ℕ) (i k v : ℕ) → i ≡ k → Word ws i v → Word ws k v
word_moved ws i k v e w = let P : ℕ → Type 0 = λ n. Word ws n v in subst P e w

pub opcode_back : (o : SreOpcode) → slice_index_or numbered (opcode_number o) opcode.FAILURE ≡ o
opcode_back opcode.FAILURE = refl
opcode_back o = refl

pub opcode_low : (o : SreOpcode) → opcode_number o < 43
opcode_low opcode.FAILURE = omega arith
opcode_low o = omega arith

-- opcodes differ in their numbers
pub same_number : (o p : SreOpcode) → opcode_number o ≡ opcode_number p → o ≡ p
same_number o p e = sym (opcode_back o) ∙ ap (λ n. slice_index_or numbered n opcode.FAILURE) e ∙ opcode_back p

pub same_opcode : (ws : List ℕ) (i : ℕ) (o p : SreOpcode) → Opcode ws i o → Opcode ws i p → o ≡ p
same_opcode ws i o p a b = same_number o p (same_word ws i (opcode_number o) (opcode_number p) a b)

pub opcode_within : (ws : List ℕ) (i : ℕ) (o : SreOpcode) → Opcode ws i o → i < length ws
opcode_within ws i o a = word_within ws i (opcode_number o) a

pub opcode_moved : (ws : List ℕ) (i k : ℕ) (o : SreOpcode) → i ≡ k → Opcode ws i o → Opcode ws k o
opcode_moved ws i k o e a = word_moved ws i k (opcode_number o) e a

-- the position codes, in the order of their numbers
abbrev pub at_codes : List SreAtCode
at_codes =
    at.BEGINNING ∷ at.BEGINNING_LINE ∷ at.BEGINNING_STRING ∷ at.BOUNDARY ∷ at.NON_BOUNDARY ∷ at.END ∷ at.END_LINE
    ∷ at.END_STRING ∷ at.LOC_BOUNDARY ∷ at.LOC_NON_BOUNDARY ∷ at.UNI_BOUNDARY ∷ at.UNI_NON_BOUNDARY ∷ []

pub at_back : (a : SreAtCode) → slice_index_or at_codes (at_number a) at.BEGINNING ≡ a
at_back at.BEGINNING = refl
at_back a = refl

pub at_low : (a : SreAtCode) → at_number a < 12
at_low at.BEGINNING = omega arith
at_low a = omega arith

pub same_at : (ws : List ℕ) (i : ℕ) (a b : SreAtCode) → Word ws i (at_number a) → Word ws i (at_number b) → a ≡ b
same_at ws i a b x y =
    sym (at_back a)
    ∙ ap (λ n. slice_index_or at_codes n at.BEGINNING) (same_word ws i (at_number a) (at_number b) x y) ∙ at_back b

-- the categories, in the order of their numbers
abbrev pub categories : List SreCatCode
categories =
    category.DIGIT ∷ category.NOT_DIGIT ∷ category.SPACE ∷ category.NOT_SPACE ∷ category.WORD ∷ category.NOT_WORD
    ∷ category.LINEBREAK ∷ category.NOT_LINEBREAK ∷ category.LOC_WORD ∷ category.LOC_NOT_WORD ∷ category.UNI_DIGIT
    ∷ category.UNI_NOT_DIGIT ∷ category.UNI_SPACE ∷ category.UNI_NOT_SPACE
    ∷ category.UNI_WORD ∷ category.UNI_NOT_WORD ∷ category.UNI_LINEBREAK ∷ category.UNI_NOT_LINEBREAK ∷ []

pub category_back : (c : SreCatCode) → slice_index_or categories (category_number c) category.DIGIT ≡ c
category_back category.DIGIT = refl
category_back c = refl

pub category_low : (c : SreCatCode) → category_number c < 18
category_low category.DIGIT = omega arith
category_low c = omega arith

pub are_words : (ws : List ℕ) → ((i : ℕ) → word ws i < 4294967296) → AreWords ws
are_words ws f = record { fits = λ i v w. omega (arith, f i, word_of ws i v w) }

pub word_known : (ws : List ℕ) (i v n : ℕ) → Word ws i v → n ≡ v → Word ws i n
word_known ws i v n w e = subst (λ x. Word ws i x) (sym e) w

pub opcode_unlike : (ws : List ℕ) (i v : ℕ) (o : SreOpcode) → Opcode ws i o → Word ws i v → 43 ≤ v → ⊥
opcode_unlike ws i v o w r l = omega (arith, opcode_low o, same_word ws i (opcode_number o) v w r)

pub category_within : (ws : List ℕ) (i : ℕ) → HasCategory ws i → i < length ws
category_within ws i h = word_within ws i (category_number h.code) h.there

pub category_unlike : (ws : List ℕ) (i v : ℕ) → HasCategory ws i → Word ws i v → 18 ≤ v → ⊥
category_unlike ws i v h r l = omega (arith, category_low h.code, same_word ws i (category_number h.code) v h.there r)

-- What an item or a test is, by its opcode

-- the roles of opcodes that a parameter of a tree picks
abbrev pub test_kind : Test → TestKind
test_kind Any = OfAny
test_kind AnyAll = OfAnyAll
test_kind (InCategory c) = OfCategory
test_kind (Literal fold v) = OfLiteral
test_kind (NotLiteral fold v) = OfNotLiteral
test_kind (In fold set) = OfSet

pub test_role : (t : Test) → role (test_opcode t) ≡ ToTest (test_kind t)
test_role (Literal Plain v) = refl
test_role (Literal fold v) = refl
test_role (NotLiteral Plain v) = refl
test_role (NotLiteral fold v) = refl
test_role (In Plain set) = refl
test_role (In fold set) = refl
test_role t = refl

pub run_role : (kind : RunKind) → role (run_opcode kind) ≡ ToRun kind
run_role GreedyRun = refl
run_role kind = refl

pub until_role : (o : Order) → role (until_opcode o) ≡ ToLoop o
until_role Greedy = refl
until_role o = refl

pub look_role : (sign : Sign) → role (look_opcode sign) ≡ ToLook sign
look_role Positive = refl
look_role sign = refl

pub reference_role : (f : Fold) → role (reference_opcode f) ≡ ToRefer
reference_role Plain = refl
reference_role f = refl

-- with which role an item begins
abbrev pub item_role : Item → Role
item_role Fail = ToFail
item_role (One t) = ToTest (test_kind t)
item_role (At a) = ToCheckPosition
item_role (Mark n) = ToMark
item_role (Branch ts) = ToBranch
item_role (Loop o low high body) = ToRepeat
item_role (Run kind low high t) = ToRun kind
item_role (PossessiveLoop low high body) = ToRepeatPossessively
item_role (Atomic body) = ToGroupAtomically
item_role (Look sign back body) = ToLook sign
item_role (Reference fold g) = ToRefer
item_role (Exists g there) = ToCheckGroup
item_role (ExistsElse g there absent) = ToCheckGroup

pub role_same : (x : Item) → role (item_opcode x) ≡ item_role x
role_same (One t) = test_role t
role_same (Run kind low high t) = run_role kind
role_same (Look sign back body) = look_role sign
role_same (Reference fold g) = reference_role fold
role_same x = refl

-- an opcode with this role is at i
pub record HasRole (ws : List ℕ) (i : ℕ) (r : Role) : Type 0 where
  pub code : SreOpcode
  pub there : Opcode ws i code
  pub begins : role code ≡ r

pub role_here : (ws : List ℕ) (i : ℕ) (o : SreOpcode) (r : Role) → Opcode ws i o → role o ≡ r → HasRole ws i r
role_here ws i o r w e = record { code = o; there = w; begins = e }

pub test_here : (ws : List ℕ) (i : ℕ) (t : Test) → Opcode ws i (test_opcode t) → HasRole ws i (ToTest (test_kind t))
test_here ws i t w = role_here ws i (test_opcode t) (ToTest (test_kind t)) w (test_role t)

pub item_here : (ws : List ℕ) (i j : ℕ) (x : Item) → ReadsItem ws i j x → HasRole ws i (item_role x)
item_here ws i j x r = role_here ws i (item_opcode x) (item_role x) r.0 (role_same x)

-- that of a test, of some kind
pub some_test : (o : SreOpcode) → begins_test o ≡ true → (kind : TestKind) × (role o ≡ ToTest kind)
some_test o e = by_role (role o) refl e
  where
    by_role : (r : Role) → role o ≡ r → is_test_role r ≡ true → (kind : TestKind) × (role o ≡ ToTest kind)
    by_role (ToTest kind) is e = (kind, is)
    by_role r is e = absurd (cc)

test_kind_at : (ws : List ℕ) (i : ℕ) (kind : TestKind) (t : Test) → HasRole ws i (ToTest kind)
    → Opcode ws i (test_opcode t) → kind ≡ test_kind t
test_kind_at ws i kind t h a =
    let e : ToTest kind ≡ ToTest (test_kind t) =
    sym h.begins ∙ ap role (same_opcode ws i h.code (test_opcode t) h.there a) ∙ test_role t in
    cc

pub is_category : (ws : List ℕ) (i k : ℕ) (t : Test) → HasRole ws i (ToTest OfCategory) → Opcode ws i (test_opcode t)
    → TestOperands ws i k t → (c : SreCatCode) × (t ≡ InCategory c) × TestOperands ws i k (InCategory c)
is_category ws i k (InCategory c) h a r = (c, refl, r)
is_category ws i k t h a r = absurd (cc (test_kind_at ws i OfCategory t h a))

pub is_literal : (ws : List ℕ) (i k : ℕ) (t : Test) → HasRole ws i (ToTest OfLiteral) → Opcode ws i (test_opcode t)
    → TestOperands ws i k t → (f : Fold) × (v : ℕ) × (t ≡ Literal f v) × TestOperands ws i k (Literal f v)
is_literal ws i k (Literal f v) h a r = (f, v, refl, r)
is_literal ws i k t h a r = absurd (cc (test_kind_at ws i OfLiteral t h a))

pub is_not_literal : (ws : List ℕ) (i k : ℕ) (t : Test) → HasRole ws i (ToTest OfNotLiteral)
    → Opcode ws i (test_opcode t) → TestOperands ws i k t
    → (f : Fold) × (v : ℕ) × (t ≡ NotLiteral f v) × TestOperands ws i k (NotLiteral f v)
is_not_literal ws i k (NotLiteral f v) h a r = (f, v, refl, r)
is_not_literal ws i k t h a r = absurd (cc (test_kind_at ws i OfNotLiteral t h a))

pub is_set : (ws : List ℕ) (i k : ℕ) (t : Test) → HasRole ws i (ToTest OfSet) → Opcode ws i (test_opcode t)
    → TestOperands ws i k t → (f : Fold) × (set : List SetItem) × (t ≡ In f set) × TestOperands ws i k (In f set)
is_set ws i k (In f set) h a r = (f, set, refl, r)
is_set ws i k t h a r = absurd (cc (test_kind_at ws i OfSet t h a))

pub role_at : (ws : List ℕ) (i j : ℕ) (r : Role) (x : Item) → HasRole ws i r → ReadsItem ws i j x → r ≡ item_role x
role_at ws i j r x h reads =
    sym h.begins ∙ ap role (same_opcode ws i h.code (item_opcode x) h.there reads.0) ∙ role_same x

pub is_one : {kind : TestKind} (ws : List ℕ) (i j : ℕ) (x : Item) → HasRole ws i (ToTest kind) → ReadsItem ws i j x
    → (t : Test) × (x ≡ One t) × ReadsItem ws i j (One t)
is_one {kind} ws i j (One t) h r = (t, refl, r)
is_one {kind} ws i j x h r = absurd (cc (role_at ws i j (ToTest kind) x h r))

pub is_at : (ws : List ℕ) (i j : ℕ) (x : Item) → HasRole ws i ToCheckPosition → ReadsItem ws i j x
    → (a : SreAtCode) × (x ≡ At a) × ReadsItem ws i j (At a)
is_at ws i j (At a) h r = (a, refl, r)
is_at ws i j x h r = absurd (cc (role_at ws i j ToCheckPosition x h r))

pub is_mark : (ws : List ℕ) (i j : ℕ) (x : Item) → HasRole ws i ToMark → ReadsItem ws i j x
    → (n : ℕ) × (x ≡ Mark n) × ReadsItem ws i j (Mark n)
is_mark ws i j (Mark n) h r = (n, refl, r)
is_mark ws i j x h r = absurd (cc (role_at ws i j ToMark x h r))

pub is_branch : (ws : List ℕ) (i j : ℕ) (x : Item) → HasRole ws i ToBranch → ReadsItem ws i j x
    → (ts : Trees) × (x ≡ Branch ts) × ReadsItem ws i j (Branch ts)
is_branch ws i j (Branch ts) h r = (ts, refl, r)
is_branch ws i j x h r = absurd (cc (role_at ws i j ToBranch x h r))

pub is_loop : (ws : List ℕ) (i j : ℕ) (x : Item) → HasRole ws i ToRepeat → ReadsItem ws i j x
    → (o : Order) × (low : ℕ) × (high : ℕ) × (body : Tree) × (x ≡ Loop o low high body)
    × ReadsItem ws i j (Loop o low high body)
is_loop ws i j (Loop o low high body) h r = (o, low, high, body, refl, r)
is_loop ws i j x h r = absurd (cc (role_at ws i j ToRepeat x h r))

pub is_run : {kind : RunKind} (ws : List ℕ) (i j : ℕ) (x : Item) → HasRole ws i (ToRun kind) → ReadsItem ws i j x
    → (low : ℕ) × (high : ℕ) × (t : Test) × (x ≡ Run kind low high t) × ReadsItem ws i j (Run kind low high t)
is_run {kind} ws i j (Run k low high t) h r =
    let e : ToRun kind ≡ ToRun k = role_at ws i j (ToRun kind) (Run k low high t) h r in
    let same : k ≡ kind = cc in
    (low, high, t, ap (λ z. Run z low high t) same, subst (λ z. ReadsItem ws i j (Run z low high t)) same r)
is_run {kind} ws i j x h r = absurd (cc (role_at ws i j (ToRun kind) x h r))

pub is_possessive : (ws : List ℕ) (i j : ℕ) (x : Item) → HasRole ws i ToRepeatPossessively → ReadsItem ws i j x
    → (low : ℕ) × (high : ℕ) × (body : Tree) × (x ≡ PossessiveLoop low high body)
    × ReadsItem ws i j (PossessiveLoop low high body)
is_possessive ws i j (PossessiveLoop low high body) h r = (low, high, body, refl, r)
is_possessive ws i j x h r =
    absurd (cc (role_at ws i j ToRepeatPossessively x h r))

pub is_atomic : (ws : List ℕ) (i j : ℕ) (x : Item) → HasRole ws i ToGroupAtomically → ReadsItem ws i j x
    → (body : Tree) × (x ≡ Atomic body) × ReadsItem ws i j (Atomic body)
is_atomic ws i j (Atomic body) h r = (body, refl, r)
is_atomic ws i j x h r = absurd (cc (role_at ws i j ToGroupAtomically x h r))

pub is_look : {sign : Sign} (ws : List ℕ) (i j : ℕ) (x : Item) → HasRole ws i (ToLook sign) → ReadsItem ws i j x
    → (back : ℕ) × (body : Tree) × (x ≡ Look sign back body) × ReadsItem ws i j (Look sign back body)
is_look {sign} ws i j (Look g back body) h r =
    let e : ToLook sign ≡ ToLook g = role_at ws i j (ToLook sign) (Look g back body) h r in
    let same : g ≡ sign = cc in
    (back, body, ap (λ z. Look z back body) same, subst (λ z. ReadsItem ws i j (Look z back body)) same r)
is_look {sign} ws i j x h r = absurd (cc (role_at ws i j (ToLook sign) x h r))

pub is_reference : (ws : List ℕ) (i j : ℕ) (x : Item) → HasRole ws i ToRefer → ReadsItem ws i j x
    → (fold : Fold) × (g : ℕ) × (x ≡ Reference fold g) × ReadsItem ws i j (Reference fold g)
is_reference ws i j (Reference fold g) h r = (fold, g, refl, r)
is_reference ws i j x h r = absurd (cc (role_at ws i j ToRefer x h r))

pub is_exists : (ws : List ℕ) (i j : ℕ) (x : Item) → HasRole ws i ToCheckGroup → ReadsItem ws i j x
    → ((g : ℕ) × (a : Tree) × (x ≡ Exists g a) × ReadsItem ws i j (Exists g a))
    ⊎ ((g : ℕ) × (a : Tree) × (b : Tree) × (x ≡ ExistsElse g a b) × ReadsItem ws i j (ExistsElse g a b))
is_exists ws i j (Exists g a) h r = inl (g, a, refl, r)
is_exists ws i j (ExistsElse g a b) h r = inr (g, a, b, refl, r)
is_exists ws i j x h r = absurd (cc (role_at ws i j ToCheckGroup x h r))

-- the roles of opcodes that begin no item
abbrev pub is_item_role : Role → Bool
is_item_role ToEnd = false
is_item_role ToJump = false
is_item_role (ToLoop order) = false
is_item_role ToNothing = false
is_item_role _ = true

pub no_item : (ws : List ℕ) (i j : ℕ) (x : Item) (o : SreOpcode) → Opcode ws i o → is_item_role (role o) ≡ false
    → ReadsItem ws i j x → ⊥
no_item ws i j x o w e r =
    let same : role o ≡ item_role x = role_at ws i j (role o) x (role_here ws i o (role o) w refl) r in
    true≢false (sym (item_begins x) ∙ ap is_item_role (sym same) ∙ e)
  where
    item_begins : (x : Item) → is_item_role (item_role x) ≡ true
    item_begins Fail = refl
    item_begins x = refl
