-- Words, tests, items without a part, and single-character repeats: what the check reads of them is what the grammar
-- says.
use Rattle.sre_code.proofs.Terms.{ℕ, ◌≡◌, ◌<◌, ◌≤◌, List, length, sym, ◌∙◌, arith, opcode_number, at_number}
use Rattle.sre_code.proofs.Terms.{category_number, Word, word, NoCode, word_of, word_at, word_within, ◌+◌, ◌-◌, ◌≢◌}
use Rattle.sre_code.proofs.Terms.{◌⊎◌, inl, inr, [], Err, refl, ap, subst, SreOpcode, SreCatCode, Test, Fold, Plain}
use Rattle.sre_code.proofs.Terms.{Ascii, Locale, Unicode, SetItem, Opcode, skip, ReadsSet, FoldedAt, ReadsTest}
use Rattle.sre_code.proofs.Terms.{TestExactly, NoTest, IsSet, word_there, opcode_within, opcode_moved, same_opcode}
use Rattle.sre_code.proofs.Terms.{set_within, test_same, role_here, test_here, SreAtCode, Item, GreedyRun, LazyRun}
use Rattle.sre_code.proofs.Terms.{Positive, Negative, PossessiveRun, item_opcode, ReadsItem, item_width, ItemAt}
use Rattle.sre_code.proofs.Terms.{Exactly, Nowhere, Past, item_same, no_item, RunKind, test_opcode, test_past, HasRole}
use Rattle.sre_code.proofs.Terms.{opcode_low, at_low, category_low, literal_opcode, not_literal_opcode, set_opcode}
use Rattle.sre_code.proofs.Terms.{run_opcode, TestOperands, TestEnds, HasTest, BadItem, item_role, OnlyTests, RunAt}
use Rattle.sre_model.specs.Roles.{ToTest, ToCheckPosition, ToMark, ToRefer, ToRun, OfCategory}
use Rattle.sre_model.specs.Grammar.{reference_opcode}
use Rattle.sre_model.specs.Tree.{Any, AnyAll, InCategory, NotLiteral, Fail, One, At, Mark, Branch, Run, Loop}
use Rattle.sre_model.specs.Tree.{PossessiveLoop, Atomic, Look, Reference, Exists, ExistsElse, Literal, In}
use Rattle.sre_model.proofs.Opcodes.{is_category, is_literal, is_not_literal, is_set, is_at, is_mark, is_reference}
use Rattle.sre_model.proofs.Opcodes.{reference_role, role_at, run_role}
use Rattle.sre_chars.specs.declared.constants.SreOpcode.TheVariants as opcode

-- What reading a single word returns.

pub number_there : (ws : List ℕ) (i v n : ℕ) → i < length ws → v ≡ word ws i → n ≡ v → Word ws i n
number_there ws i v n there e same = word_at ws i n there (sym e ∙ sym same)

-- what `opcode`, `position` and `category` answer
pub ruleset opcode_laws = (number_there, word_within, word_of, opcode_low)

pub ruleset position_laws = (number_there, word_within, word_of, at_low)

pub ruleset category_laws = (number_there, word_within, word_of, category_low)

-- Tests of one character: what the check reads of them is what the grammar says.

-- a test there is the one that is read, since one is at most
exactly : (t : Test) (ws : List ℕ) (i e : ℕ) → ReadsTest ws i e t → TestExactly ws i e
exactly t ws i e r = record { test = t; reads = r; only = λ k u s. (test_same u t ws i k e s.0 s.1 r.0 r.1).1 }

-- ANY and ANY_ALL
pub any_exactly : (ws : List ℕ) (i : ℕ) → Opcode ws i opcode.ANY → TestExactly ws i (i + 1)
any_exactly ws i h = exactly Any ws i (i + 1) (h, refl)

pub any_all_exactly : (ws : List ℕ) (i : ℕ) → Opcode ws i opcode.ANY_ALL → TestExactly ws i (i + 1)
any_all_exactly ws i h = exactly AnyAll ws i (i + 1) (h, refl)

-- CATEGORY
pub category_exactly : (ws : List ℕ) (i : ℕ) (c : SreCatCode) → Opcode ws i opcode.CATEGORY
    → Word ws (i + 1) (category_number c) → TestExactly ws i (i + 2)
category_exactly ws i c h w = exactly (InCategory c) ws i (i + 2) (h, (w, refl))

pub category_cut : (ws : List ℕ) (i : ℕ) → Opcode ws i opcode.CATEGORY → NoCode category_number ws (i + 1) → NoTest ws i
category_cut ws i h n = record {
  none = λ k t r.
      let f = is_category ws i k t (role_here ws i opcode.CATEGORY (ToTest OfCategory) h refl) r.0 r.1 in
      n.none f.0 f.2.0;
}

-- one of the opcodes of a form is that of a folding
abbrev pub IsFolded : (Fold → SreOpcode) → SreOpcode → Type 0
IsFolded f o = (o ≡ f Plain) ⊎ ((o ≡ f Ascii) ⊎ ((o ≡ f Locale) ⊎ (o ≡ f Unicode)))

pub folded_at : (f : Fold → SreOpcode) (ws : List ℕ) (i : ℕ) (o : SreOpcode) → Opcode ws i o → IsFolded f o
    → FoldedAt f ws i
folded_at f ws i o h (inl e) = record { fold = Plain; there = subst (Opcode ws i) e h }
folded_at f ws i o h (inr (inl e)) = record { fold = Ascii; there = subst (Opcode ws i) e h }
folded_at f ws i o h (inr (inr (inl e))) = record { fold = Locale; there = subst (Opcode ws i) e h }
folded_at f ws i o h (inr (inr (inr e))) = record { fold = Unicode; there = subst (Opcode ws i) e h }

-- LITERAL and NOT_LITERAL, under each folding
pub literal_exactly : (ws : List ℕ) (i : ℕ) → FoldedAt literal_opcode ws i → i + 1 < length ws
    → TestExactly ws i (i + 2)
literal_exactly ws i h there =
    exactly (Literal h.fold (word ws (i + 1))) ws i (i + 2) (h.there, (word_there ws (i + 1) there, refl))

pub literal_cut : (ws : List ℕ) (i : ℕ) → FoldedAt literal_opcode ws i → length ws ≤ i + 1 → NoTest ws i
literal_cut ws i h le = record {
  none = λ k t r.
      let f = is_literal ws i k t (test_here ws i (Literal h.fold 0) h.there) r.0 r.1 in
      omega (arith, word_within ws (i + 1) f.1 f.3.0);
}

pub not_literal_exactly : (ws : List ℕ) (i : ℕ) → FoldedAt not_literal_opcode ws i → i + 1 < length ws
    → TestExactly ws i (i + 2)
not_literal_exactly ws i h there =
    exactly (NotLiteral h.fold (word ws (i + 1))) ws i (i + 2) (h.there, (word_there ws (i + 1) there, refl))

pub not_literal_cut : (ws : List ℕ) (i : ℕ) → FoldedAt not_literal_opcode ws i → length ws ≤ i + 1 → NoTest ws i
not_literal_cut ws i h le = record {
  none = λ k t r.
      let f = is_not_literal ws i k t (test_here ws i (NotLiteral h.fold 0) h.there) r.0 r.1 in
      omega (arith, word_within ws (i + 1) f.1 f.3.0);
}

-- IN, under each folding: what is read of a test there
pub record SetHere (ws : List ℕ) (i k : ℕ) : Type 0 where
  pub set : List SetItem
  pub ends : k ≡ skip ws (i + 1)
  pub reads : ReadsSet ws (i + 2) (k - 1) set
  pub closed : Opcode ws (k - 1) opcode.FAILURE
  pub long : i + 2 ≤ k - 1
  pub there : i + 1 < length ws

pub set_here : (ws : List ℕ) (i k : ℕ) (t : Test) → FoldedAt set_opcode ws i → ReadsTest ws i k t → SetHere ws i k
set_here ws i k t h r =
    let f = is_set ws i k t (test_here ws i (In h.fold []) h.there) r.0 r.1 in
    let long : i + 2 ≤ k - 1 = set_within ws (i + 2) (k - 1) f.1 f.3.1 in
    let there : i + 1 < length ws = omega (arith, opcode_within ws (k - 1) opcode.FAILURE f.3.2) in
    record { set = f.1; ends = f.3.0; reads = f.3.1; closed = f.3.2; long = long; there = there }

pub set_exactly : (ws : List ℕ) (i t : ℕ) → FoldedAt set_opcode ws i → t ≡ skip ws (i + 1)
    → Opcode ws (t - 1) opcode.FAILURE → IsSet ws (i + 2) (t - 1) → TestExactly ws i t
set_exactly ws i t h e closed s = exactly (In h.fold s.set.0) ws i t (h.there, (e, s.set.1, closed))

pub set_closed : (ws : List ℕ) (i t k : ℕ) (x : Test) → FoldedAt set_opcode ws i → t ≡ skip ws (i + 1)
    → ReadsTest ws i k x → Opcode ws (t - 1) opcode.FAILURE
set_closed ws i t k x h e r =
    let f = set_here ws i k x h r in
    opcode_moved ws (k - 1) (t - 1) opcode.FAILURE (ap (λ m. m - 1) (f.ends ∙ sym e)) f.closed

pub set_ends_cut : (ws : List ℕ) (i t : ℕ) → FoldedAt set_opcode ws i → t ≡ skip ws (i + 1)
    → NoCode opcode_number ws (t - 1) → NoTest ws i
set_ends_cut ws i t h e n = record { none = λ k x r. n.none opcode.FAILURE (set_closed ws i t k x h e r) }

-- where no test is
pub no_test : (ws : List ℕ) (i : ℕ) (o : SreOpcode) → Opcode ws i o → (HasTest ws i → ⊥)
    → TestEnds ws i (Err (BadItem i))
no_test ws i o h none = (
  record { none = λ k t r. none (record { end = k; test = t; stands = record { code = r.0; operands = r.1 } }) },
  (omega (arith, opcode_within ws i o h), λ e. absurd (cc)),
)

-- what `not_literal`, `in_set` and `test` answer
pub ruleset not_literal_laws = (not_literal_exactly, not_literal_cut)

pub ruleset test_laws = (any_exactly, any_all_exactly, folded_at)

-- Items: what the check reads of them is what the grammar says.

-- an item without a part
pub past : (ws : List ℕ) (i p v : ℕ) (x : Item) → ReadsItem ws i p x → v ≡ item_width x
    → Exactly ws (Past p v) (ItemAt ws i)
past ws i p v x r wide = record {
  sound = λ j w e. let P : ℕ → Type 0 = λ n. ReadsItem ws i n x in (x, subst P (sym e.0) r, e.1 ∙ wide);
  complete = λ j w y.
      let o = item_same y.0 x ws i j p y.1 r in (o.1, y.2 ∙ ap item_width o.0 ∙ sym wide);
}

pub no_opcode : (ws : List ℕ) (i : ℕ) → NoCode opcode_number ws i → Nowhere (ItemAt ws i)
no_opcode ws i n = record { none = λ j w x. n.none (item_opcode x.0) x.1.0 }

-- FAILURE
pub fail_exactly : (ws : List ℕ) (i : ℕ) → Opcode ws i opcode.FAILURE → Exactly ws (Past (i + 1) 0) (ItemAt ws i)
fail_exactly ws i h = past ws i (i + 1) 0 Fail (h, refl) refl

-- AT
pub at_exactly : (ws : List ℕ) (i : ℕ) (a : SreAtCode) → Opcode ws i opcode.AT → Word ws (i + 1) (at_number a)
    → Exactly ws (Past (i + 2) 0) (ItemAt ws i)
at_exactly ws i a h w = past ws i (i + 2) 0 (At a) (h, (w, refl)) refl

pub at_cut : (ws : List ℕ) (i : ℕ) → Opcode ws i opcode.AT → NoCode at_number ws (i + 1) → Nowhere (ItemAt ws i)
at_cut ws i h n = record {
  none = λ j w x.
      let f = is_at ws i j x.0 (role_here ws i opcode.AT ToCheckPosition h refl) x.1 in n.none f.0 f.2.1.0;
}

-- MARK
pub mark_exactly : (ws : List ℕ) (i : ℕ) → Opcode ws i opcode.MARK → i + 1 < length ws
    → Exactly ws (Past (i + 2) 0) (ItemAt ws i)
mark_exactly ws i h there =
    past ws i (i + 2) 0 (Mark (word ws (i + 1))) (h, (word_there ws (i + 1) there, refl)) refl

pub mark_cut : (ws : List ℕ) (i : ℕ) → Opcode ws i opcode.MARK → length ws ≤ i + 1 → Nowhere (ItemAt ws i)
mark_cut ws i h le = record {
  none = λ j w x.
      let f = is_mark ws i j x.0 (role_here ws i opcode.MARK ToMark h refl) x.1 in
      omega (arith, word_within ws (i + 1) f.0 f.2.1.0);
}

-- GROUPREF, under each folding
pub reference_exactly : (ws : List ℕ) (i : ℕ) → FoldedAt reference_opcode ws i → i + 1 < length ws
    → Exactly ws (Past (i + 2) 0) (ItemAt ws i)
reference_exactly ws i h there =
    past ws i (i + 2) 0 (Reference h.fold (word ws (i + 1))) (h.there, (word_there ws (i + 1) there, refl)) refl

pub reference_cut : (ws : List ℕ) (i : ℕ) → FoldedAt reference_opcode ws i → length ws ≤ i + 1 → Nowhere (ItemAt ws i)
reference_cut ws i h le = record {
  none = λ j w x.
      let here = role_here ws i (reference_opcode h.fold) ToRefer h.there (reference_role h.fold) in
      let f = is_reference ws i j x.0 here x.1 in
      omega (arith, word_within ws (i + 1) f.1 f.3.1.0);
}

-- another opcode begins a test, or no item
pub only_tests : (ws : List ℕ) (i : ℕ) (o : SreOpcode) → Opcode ws i o → o ≢ opcode.FAILURE → o ≢ opcode.AT
    → o ≢ opcode.MARK → o ≢ opcode.BRANCH → o ≢ opcode.REPEAT_ONE → o ≢ opcode.MIN_REPEAT_ONE
    → o ≢ opcode.POSSESSIVE_REPEAT_ONE → o ≢ opcode.REPEAT → o ≢ opcode.POSSESSIVE_REPEAT → o ≢ opcode.ATOMIC_GROUP
    → o ≢ opcode.ASSERT → o ≢ opcode.ASSERT_NOT → o ≢ opcode.GROUPREF → o ≢ opcode.GROUPREF_IGNORE
    → o ≢ opcode.GROUPREF_LOC_IGNORE → o ≢ opcode.GROUPREF_UNI_IGNORE → o ≢ opcode.GROUPREF_EXISTS → OnlyTests ws i
only_tests ws i o h fail at mark branch run lazy possessive loop repeated atomic ahead not_ahead refer refer_ignore
    refer_loc_ignore refer_uni_ignore ask =
    record { test = λ j x r. go x j (same_opcode ws i o (item_opcode x) h r.0) r }
  where
    go : (x : Item) (j : ℕ) → o ≡ item_opcode x → ReadsItem ws i j x → (t : Test) × (x ≡ One t) × ReadsTest ws i j t
    go Fail j e r = absurd (fail e)
    go (At a) j e r = absurd (at e)
    go (Mark n) j e r = absurd (mark e)
    go (Branch ts) j e r = absurd (branch e)
    go (Run GreedyRun low high t) j e r = absurd (run e)
    go (Run LazyRun low high t) j e r = absurd (lazy e)
    go (Run PossessiveRun low high t) j e r = absurd (possessive e)
    go (Loop q low high body) j e r = absurd (loop e)
    go (PossessiveLoop low high body) j e r = absurd (repeated e)
    go (Atomic body) j e r = absurd (atomic e)
    go (Look Positive back body) j e r = absurd (ahead e)
    go (Look Negative back body) j e r = absurd (not_ahead e)
    go (Reference Plain g) j e r = absurd (refer e)
    go (Reference Ascii g) j e r = absurd (refer_ignore e)
    go (Reference Locale g) j e r = absurd (refer_loc_ignore e)
    go (Reference Unicode g) j e r = absurd (refer_uni_ignore e)
    go (Exists g there) j e r = absurd (ask e)
    go (ExistsElse g there absent) j e r = absurd (ask e)
    go (One t) j e r = (t, refl, r)

pub one_exactly : (ws : List ℕ) (i e : ℕ) → OnlyTests ws i → TestExactly ws i e → Exactly ws (Past e 1) (ItemAt ws i)
one_exactly ws i e h x = past ws i e 1 (One x.test) x.reads refl

pub one_nowhere : (ws : List ℕ) (i : ℕ) → OnlyTests ws i → NoTest ws i → Nowhere (ItemAt ws i)
one_nowhere ws i h n = record { none = λ j w y. let f = h.test j y.0 y.1 in n.none j f.0 f.2 }

-- a block begins no item
pub info_nowhere : (ws : List ℕ) (i : ℕ) → Opcode ws i opcode.INFO → Nowhere (ItemAt ws i)
info_nowhere ws i h =
    record { none = λ j w r. no_item ws i j r.0 opcode.INFO h refl r.1 }

-- Single-character repeats: what the check reads of them is what the grammar says.

-- what is read of an item there
pub record RunHere (ws : List ℕ) (i j : ℕ) : Type 0 where
  pub test : Test
  pub ends : j ≡ skip ws (i + 1)
  pub counts : word ws (i + 2) ≤ word ws (i + 3)
  pub there : i + 4 < length ws
  pub reads : ReadsTest ws (i + 4) (j - 1) test
  pub closed : Opcode ws (j - 1) opcode.SUCCESS
  pub longer : i + 4 < j - 1

of_words : (ws : List ℕ) (i j low high : ℕ) (t : Test) (kind : RunKind) → ReadsItem ws i j (Run kind low high t)
    → RunHere ws i j
of_words ws i j low high t kind r = record {
  test = t;
  ends = r.1.0;
  counts = omega (arith, word_of ws (i + 2) low r.1.1, word_of ws (i + 3) high r.1.2, r.1.3);
  there = word_within ws (i + 4) (opcode_number (test_opcode t)) r.1.4;
  reads = (r.1.4, r.1.5);
  closed = r.1.6;
  longer = test_past t ws (i + 4) (j - 1) r.1.5;
}

pub greedy_there : (ws : List ℕ) (i : ℕ) → Opcode ws i opcode.REPEAT_ONE → RunAt ws i
greedy_there ws i h = record { kind = GreedyRun; there = h }

pub lazy_there : (ws : List ℕ) (i : ℕ) → Opcode ws i opcode.MIN_REPEAT_ONE → RunAt ws i
lazy_there ws i h = record { kind = LazyRun; there = h }

pub possessive_there : (ws : List ℕ) (i : ℕ) → Opcode ws i opcode.POSSESSIVE_REPEAT_ONE → RunAt ws i
possessive_there ws i h = record { kind = PossessiveRun; there = h }

pub run_here : (ws : List ℕ) (i j : ℕ) (x : Item) → RunAt ws i → ReadsItem ws i j x → RunHere ws i j
run_here ws i j (Run kind low high t) h r = of_words ws i j low high t kind r
run_here ws i j x h r =
    let here : HasRole ws i (ToRun h.kind) =
    role_here ws i (run_opcode h.kind) (ToRun h.kind) h.there (run_role h.kind) in
    let e : ToRun h.kind ≡ item_role x = role_at ws i j (ToRun h.kind) x here r in
    absurd (cc)

-- where the test ends, SUCCESS stands
run_closed : (ws : List ℕ) (i j e : ℕ) → RunHere ws i j → TestExactly ws (i + 4) e → Opcode ws e opcode.SUCCESS
run_closed ws i j e f t = opcode_moved ws (j - 1) e opcode.SUCCESS (t.only (j - 1) f.test f.reads) f.closed

pub run_exactly : (ws : List ℕ) (i e t v high : ℕ) → RunAt ws i → t ≡ skip ws (i + 1) → v ≡ word ws (i + 2)
    → high ≡ word ws (i + 3) → i + 3 < length ws → v ≤ high → TestExactly ws (i + 4) e → Opcode ws e opcode.SUCCESS
    → t ≡ e + 1 → Exactly ws (Past t v) (ItemAt ws i)
run_exactly ws i e t v high h skips low highest there le x closed ends =
    let at : e ≡ t - 1 = omega arith in
    let P : ℕ → Type 0 = λ n. TestOperands ws (i + 4) n x.test in
    past ws i t v (Run h.kind (word ws (i + 2)) (word ws (i + 3)) x.test) (
      h.there,
      (
        skips,
        word_there ws (i + 2) (omega arith),
        word_there ws (i + 3) there,
        omega arith,
        x.reads.0,
        subst P at x.reads.1,
        opcode_moved ws e (t - 1) opcode.SUCCESS at closed,
      ),
    ) low

pub run_ends_cut : (ws : List ℕ) (i e : ℕ) → RunAt ws i → TestExactly ws (i + 4) e → NoCode opcode_number ws e
    → Nowhere (ItemAt ws i)
run_ends_cut ws i e h x n =
    record { none = λ j w y. n.none opcode.SUCCESS (run_closed ws i j e (run_here ws i j y.0 h y.1) x) }

pub run_open : (ws : List ℕ) (i e : ℕ) (o : SreOpcode) → RunAt ws i → TestExactly ws (i + 4) e → Opcode ws e o
    → o ≢ opcode.SUCCESS → Nowhere (ItemAt ws i)
run_open ws i e o h x there ne = record {
  none = λ j w y. ne (same_opcode ws e o opcode.SUCCESS there (run_closed ws i j e (run_here ws i j y.0 h y.1) x));
}
