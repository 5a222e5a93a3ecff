-- Scans from instruction to instruction: where no MARK is among the code words of an atomic scope's body, no atomic
-- scope sets a capture; and how many counter states items have, or that they have too many.
use Rattle.sre_code.proofs.Terms.{ℕ, ◌+◌, ◌-◌, ◌≡◌, ◌<◌, ◌≤◌, Bool, false, ◌||◌, List, length, Some, refl, subst, arith}
use Rattle.sre_code.proofs.Terms.{◌⊎◌, inl, inr, ⊎_elim, cases_lt, SreOpcode, Tree, Empty, Then, Item, Trees, Only, Or}
use Rattle.sre_code.proofs.Terms.{Sign, Positive, Folding, of_tree, of_branch, of_item, by_marks, sets_mark}
use Rattle.sre_code.proofs.Terms.{by_marked_regions, marks_in_regions, Opcode, word, skip, Reads, Operands, ReadsItem}
use Rattle.sre_code.proofs.Terms.{ReadsBranch, WholeItems, role, reads_within, operands_past, of_parts, branch_past}
use Rattle.sre_code.proofs.Terms.{◌*◌, ◌/◌, true, Option, None, max, sym, ap, ◌∙◌, true≢false, or_parts, le-max_right}
use Rattle.sre_code.proofs.Terms.{mul-le-mul_left, refers, by_references, loop_slots, most_slots, Role, Word, HasRole}
use Rattle.sre_code.proofs.Terms.{test_here, test_past, word_of, own_words, Behind, AreTold, ToldAt, div-mul-le_self}
use Rattle.sre_model.specs.Tree.{Fail, One, At, Mark, Branch, Loop, Run, PossessiveLoop, Atomic, Look, Reference}
use Rattle.sre_model.specs.Tree.{Exists, ExistsElse}
use Rattle.sre_model.specs.Grammar.{look_opcode}
use Rattle.sre_model.specs.Roles.{ToCheckGroup, ToMark, ToBranch, ToGroupAtomically, ToRefer, ToRepeat}
use Rattle.sre_model.specs.Roles.{ToRepeatPossessively}
use Rattle.sre_code.specs.Scans.{closing_place, RegionWord, LoopTold, OtherTold, kind_of, ToldBy}
use Rattle.sre_chars.specs.declared.constants.SreOpcode.TheVariants as opcode
use Rattle.std.proofs.lemmas.Nat.{le-div}
use Rattle.sre_model.specs.Slots.{by_slots}
use Rattle.sre_code.specs.declared.code.slots.Kind.{Kind}
use Rattle.sre_code.specs.declared.code.slots.Passed.{Passed}
use Rattle.sre_code.proofs.Walking.{role_behind, one_behind, none_behind, Scanner, Instructions, Silent, Onto}
use Rattle.sre_code.specs.declared.code.slots.Kind.TheVariants as kind
use Rattle.sre_code.proofs.Walking as walk

-- a folding to what is not there, and what keeps an item from having it: a claim of words that holds of fewer words
pub record Hindrance (ws : List ℕ) : Type 1 where
  pub folding : Folding Bool
  pub Holds : ℕ → ℕ → Type 0
  pub fewer : (i i₂ j₂ j : ℕ) → i ≤ i₂ → j₂ ≤ j → Holds i j → Holds i₂ j₂
  pub nothing : folding.nothing ≡ false
  pub both : (a b : Bool) → a ≡ false → b ≡ false → folding.both a b ≡ false
  pub item : (x : Item) (i j : ℕ) → ReadsItem ws i j x → Holds i j → folding.item x false ≡ false

module _ (ws : List ℕ) (h : Hindrance ws) where
  abbrev f : Folding Bool
  f = h.folding

  mutual
    pub tree_hindered : (t : Tree) (i j : ℕ) → Reads ws i j t → h.Holds i j → of_tree f t ≡ false
    tree_hindered Empty i j r n = h.nothing
    tree_hindered (Then x t) i j r n =
        let past : i < r.0 = operands_past x ws i r.0 r.1.1 in
        let within : r.0 ≤ j = reads_within t ws r.0 j r.2 in
        h.both (of_item f x) (of_tree f t)
        (rw (parts_hindered x i r.0 r.1.1 (h.fewer i i r.0 j (omega arith) within n), of_item)
        (h.item x i r.0 r.1 (h.fewer i i r.0 j (omega arith) within n)))
        (tree_hindered t r.0 j r.2 (h.fewer i r.0 j j (omega (arith, past)) (omega arith) n))

    parts_hindered : (x : Item) (i j : ℕ) → Operands ws i j x → h.Holds i j → of_parts f x ≡ false
    parts_hindered Fail i j r n = h.nothing
    parts_hindered (One t) i j r n = h.nothing
    parts_hindered (At a) i j r n = h.nothing
    parts_hindered (Mark g) i j r n = h.nothing
    parts_hindered (Branch ts) i j r n =
        branch_hindered ts (i + 1) j r (h.fewer i (i + 1) j j (omega arith) (omega arith) n)
    parts_hindered (Loop o low high body) i j r n =
        let end : ℕ = skip ws (i + 1) in
        tree_hindered body (i + 4) end r.3
        (h.fewer i (i + 4) end j (omega arith) (omega (arith, r.5)) n)
    parts_hindered (Run kind low high t) i j r n = h.nothing
    parts_hindered (PossessiveLoop low high body) i j r n =
        let end : ℕ = skip ws (i + 1) in
        tree_hindered body (i + 4) end r.3
        (h.fewer i (i + 4) end j (omega arith) (omega (arith, r.5)) n)
    parts_hindered (Atomic body) i j r n =
        tree_hindered body (i + 2) (j - 1) r.1 (h.fewer i (i + 2) (j - 1) j (omega arith) (omega arith) n)
    parts_hindered (Look sign back body) i j r n =
        tree_hindered body (i + 3) (j - 1) r.2 (h.fewer i (i + 3) (j - 1) j (omega arith) (omega arith) n)
    parts_hindered (Reference fold g) i j r n = h.nothing
    parts_hindered (Exists g there) i j r n =
        tree_hindered there (i + 3) j r.2 (h.fewer i (i + 3) j j (omega arith) (omega arith) n)
    parts_hindered (ExistsElse g there absent) i j r n =
        let k : ℕ = i + 1 + word ws (i + 2) in
        let within : k ≤ j = reads_within absent ws k j r.3 in
        h.both (of_tree f there) (of_tree f absent)
        (tree_hindered there (i + 3) (k - 2) r.1
        (h.fewer i (i + 3) (k - 2) j (omega arith) (omega (arith, within)) n))
        (tree_hindered absent k j r.3 (h.fewer i k j j (omega arith) (omega arith) n))

    branch_hindered : (ts : Trees) (q j : ℕ) → ReadsBranch ws q j ts → h.Holds q j → of_branch f ts ≡ false
    branch_hindered (Only t) q j r n =
        let k : ℕ = skip ws q in
        tree_hindered t (q + 1) (k - 2) r.0 (h.fewer q (q + 1) (k - 2) j (omega arith) (omega (arith, r.3)) n)
    branch_hindered (Or t ts) q j r n =
        let k : ℕ = skip ws q in
        let past : k < j = branch_past ts ws k j r.2 in
        h.both (of_tree f t) (of_branch f ts)
        (tree_hindered t (q + 1) (k - 2) r.0 (h.fewer q (q + 1) (k - 2) j (omega arith) (omega (arith, past)) n))
        (branch_hindered ts k j r.2 (h.fewer q k j j (omega arith) (omega arith) n))

neither : (a b : Bool) → a ≡ false → b ≡ false → (a || b) ≡ false
neither a b e f = rw (e, f) refl

-- no word of [i, j) is a mark's opcode
record Markless (ws : List ℕ) (i j : ℕ) : Type 0 where
  none : (k : ℕ) → Opcode ws k opcode.MARK → i ≤ k → k < j → ⊥

abbrev no_marks : (ws : List ℕ) → Hindrance ws
no_marks ws = record {
  folding = by_marks;
  Holds = Markless ws;
  fewer = λ i i₂ j₂ j a b n. record { none = λ k o l m. n.none k o (omega (arith, a, l)) (omega (arith, b, m)) };
  nothing = refl;
  both = neither;
  item = unmarked;
}
  where
    unmarked : (x : Item) (i j : ℕ) → ReadsItem ws i j x → Markless ws i j → by_marks.item x false ≡ false
    unmarked (Mark g) i j r n = absurd (n.none i r.0 (omega arith) (omega (arith, r.1.1)))
    unmarked x i j r n = refl

-- of the words of [i, j) none is a mark's opcode in the body of a region whose opcode and skip are among them
pub record MarksOutside (ws : List ℕ) (i j : ℕ) : Type 0 where
  pub outside :
      (p k e : ℕ) → RegionWord ws p e → Opcode ws k opcode.MARK → i ≤ p → p + 2 ≤ k → k < j → e ≤ k

look_ends : (sign : Sign) (tail : ℕ) → closing_place (role (look_opcode sign)) tail ≡ Some (tail - 1)
look_ends Positive tail = refl
look_ends sign tail = refl

module _ (ws : List ℕ) where
  region_word : (i e tail : ℕ) (o : SreOpcode) → Opcode ws i o → tail ≡ skip ws (i + 1)
      → closing_place (role o) tail ≡ Some e → Opcode ws e opcode.SUCCESS → RegionWord ws i e
  region_word i e tail o there leads ends closed = record {
    code = o;
    there = there;
    ends = subst (λ t. closing_place (role o) t ≡ Some e) leads ends;
    closed = closed;
  }

  -- the body of a region, which begins at a
  body_markless : (i a e j : ℕ) (body : Tree) → RegionWord ws i e → i + 2 ≤ a → e ≤ j → Reads ws a e body
      → MarksOutside ws i j → (sets_mark body || false) ≡ false
  body_markless i a e j body region past within reads n =
      neither (sets_mark body) false
      (tree_hindered ws (no_marks ws) body a e reads
      (record {
        none = λ k o l m.
            let beyond = n.outside i k e region o (omega arith) (omega (arith, past, l)) (omega (arith, m, within)) in
            omega (arith, beyond, m);
      }))
      refl

  abbrev no_marked_regions : Hindrance ws
  no_marked_regions = record {
    folding = by_marked_regions;
    Holds = MarksOutside ws;
    fewer = λ i i₂ j₂ j a b n.
        record { outside = λ p k e g o l m h. n.outside p k e g o (omega (arith, a, l)) m (omega (arith, b, h)) };
    nothing = refl;
    both = neither;
    item = unmarked;
  }
    where
      unmarked : (x : Item) (i j : ℕ) → ReadsItem ws i j x → MarksOutside ws i j
          → by_marked_regions.item x false ≡ false
      unmarked (PossessiveLoop low high body) i j r n =
          body_markless i (i + 4) (skip ws (i + 1)) j body
          (region_word i (skip ws (i + 1)) (skip ws (i + 1)) opcode.POSSESSIVE_REPEAT r.0 refl refl r.1.4)
          (omega arith) (omega (arith, r.1.5)) r.1.3 n
      unmarked (Atomic body) i j r n =
          body_markless i (i + 2) (j - 1) j body
          (region_word i (j - 1) j opcode.ATOMIC_GROUP r.0 r.1.0 refl r.1.2) (omega arith) (omega arith) r.1.1 n
      unmarked (Look sign back body) i j r n =
          body_markless i (i + 3) (j - 1) j body
          (region_word i (j - 1) j (look_opcode sign) r.0 r.1.0 (look_ends sign j) r.1.3) (omega arith)
          (omega arith) r.1.2 n
      unmarked x i j r n = refl

-- what a scan has seen that comes to n: up to where the farthest body of a region before n ends, and no mark in any
pub record ScannedTo (ws : List ℕ) (n farthest : ℕ) : Type 0 where
  pub reached : (p e : ℕ) → RegionWord ws p e → p < n → e ≤ farthest
  pub outside : MarksOutside ws 0 (n + 2)

-- one word more
pub word_scanned : (ws : List ℕ) (n farthest more : ℕ) → ScannedTo ws n farthest → farthest ≤ more
    → ((e : ℕ) → RegionWord ws n e → e ≤ more) → (n + 2 < more → Opcode ws (n + 2) opcode.MARK → ⊥)
    → ScannedTo ws (n + 1) more
word_scanned ws n farthest more s grows told none = record {
  reached = λ p e r l. reached p e r l (cases_lt p n);
  outside = record { outside = λ p k e r o l m h. outside p k e r o m h (cases_lt k (n + 2)) };
}
  where
    reached : (p e : ℕ) → RegionWord ws p e → p < n + 1 → (p < n) ⊎ (n ≤ p) → e ≤ more
    reached p e r l (inl before) = omega (arith, s.reached p e r before, grows)
    reached p e r l (inr here) =
        let same : p ≡ n = omega (arith, l, here) in
        told e (subst (λ q. RegionWord ws q e) same r)

    outside : (p k e : ℕ) → RegionWord ws p e → Opcode ws k opcode.MARK → p + 2 ≤ k → k < n + 1 + 2
        → (k < n + 2) ⊎ (n + 2 ≤ k) → e ≤ k
    outside p k e r o m h (inl before) = s.outside.outside p k e r o (omega arith) m before
    outside p k e r o m h (inr here) =
        let same : k ≡ n + 2 = omega (arith, h, here) in
        let there : Opcode ws (n + 2) opcode.MARK = subst (λ q. Opcode ws q opcode.MARK) same o in
        let far : e ≤ more = reached p e r (omega (arith, m, same)) (cases_lt p n) in
        ⊎_elim (λ (under : n + 2 < more). absurd (none under there))
        (λ (past : more ≤ n + 2). omega (arith, far, past, same)) (cases_lt (n + 2) more)

-- the words as a whole
pub scanned_all : (ws : List ℕ) (n farthest : ℕ) → length ws - 1 ≤ n → ScannedTo ws n farthest → (t : Tree)
    → WholeItems ws t → marks_in_regions t ≡ false
scanned_all ws n farthest all s t w =
    let h : Hindrance ws = no_marked_regions ws in
    tree_hindered ws h t 0 (length ws - 1) w.0
    (h.fewer 0 0 (length ws - 1) (n + 2) (omega arith) (omega (arith, all)) s.outside)

-- one slot is there at least
pub some_slots : (t : Tree) → 1 ≤ most_slots t
some_slots Empty = omega arith
some_slots (Then x t) = omega (arith, some_slots t, le-max_right (of_item by_slots x) (most_slots t))

module _ (most : ℕ) (ws : List ℕ) where
  -- a scan goes on past an instruction of which so many slots are told
  record Passes (i l k m : ℕ) : Type 0 where
    some : 1 ≤ l
    slots : ℕ
    told : ToldAt most ws i (Some (record { behind = k; slots = slots }))
    is : m ≡ max l slots

  module _ (some : 1 ≤ most) (end : ℕ) where
    abbrev scanner : Scanner ℕ (Bool × ℕ)
    scanner = record {
      words = ws;
      end = end;
      Next = Passes;
      Stops = λ i. ToldAt most ws i None;
      nothing = (false, 1);
      both = λ a b. (a.0 || b.0, max a.1 b.1);
      tree = λ t. (refers t, most_slots t);
      item = λ x. (of_item by_references x, of_item by_slots x);
      branch = λ ts. (of_branch by_references ts, of_branch by_slots ts);
      empty = refl;
      then = λ x t. refl;
      only = λ t. refl;
      or = λ t ts. refl;
      Bad = λ a. a.0 ≡ false → most < a.1;
      After = λ i j a l m. (a.1 ≤ most) × (1 ≤ l → m ≡ max l a.1);
      first = λ a b x e. let many = x (or_parts a.0 b.0 e).0 in omega (arith, many);
      second = λ a b x e. let many = x (or_parts a.0 b.0 e).1 in omega (arith, many);
      stay = λ i j l le. (some, λ s. omega (arith, s));
      wider = λ i k j a l m le x. x;
      joined = λ i k j a b l m n before behind x y. (
        omega (arith, x.0, y.0),
        λ s.
            let first = x.1 s in
            let second = y.1 (omega (arith, s, first)) in
            omega (arith, first, second),
      );
    }

    abbrev Part : ℕ → ℕ → Bool × ℕ → Type 0
    Part = walk.Passed scanner

    by_role : (i : ℕ) (o : Role) (k : Kind) (r : Option Passed) → HasRole ws i o → kind_of o ≡ k → ToldAt most ws i r
        → ToldBy k most ws i r
    by_role i o k r h is told = subst (λ z. ToldBy z most ws i r) (ap kind_of h.begins ∙ is) (told.by h.code h.there)

    -- an instruction that has no loop, and the body behind it
    quiet : (i k : ℕ) → i < k → Behind ws i k → ((r : Option Passed) → ToldAt most ws i r → OtherTold ws i r)
        → Silent scanner i k
    quiet i k lt behind other = record {
      past = lt;
      goes = λ told. (other None told).none k behind;
      next = λ l m q s.
          let told = other (Some (record { behind = q; slots = s.slots })) s.told in
          (one_behind ws i q k told.0 behind, omega (arith, s.is, s.some, told.1));
    }

    own : (i n : ℕ) (o : Role) → HasRole ws i o → own_words o ≡ Some n → 0 < n → kind_of o ≡ kind.Other
        → Silent scanner i (i + n)
    own i n o h has lt is =
        quiet i (i + n) (omega (arith, lt)) (role_behind ws i n o h has) (λ r. by_role i o kind.Other r h is)

    inside : (i n j : ℕ) (o : Role) (a : Bool × ℕ) → HasRole ws i o → own_words o ≡ Some n → 0 < n
        → kind_of o ≡ kind.Other → Part (i + n) j a → Part i j a
    inside i n j o a h has lt is y =
        let step : Silent scanner i (i + n) = own i n o h has lt is in
        walk.enter scanner i (i + n) j a a (λ l. l) step.past (λ stops. absurd (step.goes stops)) step.next y (λ b. b)
        (λ l m s x. x)

    condition : (i j : ℕ) (a : Bool × ℕ) → i < j → HasRole ws i ToCheckGroup → a.0 ≡ true → Part i j a
    condition i j a lt h refers =
        walk.halt scanner i j a lt
        (λ l m q s.
        let told = by_role i ToCheckGroup kind.Other _ h refl s.told in
        (none_behind ws i h).none q told.0)
        (λ plain. absurd (true≢false (sym refers ∙ plain)))

    instructions : Instructions scanner
    instructions = record {
      Quiet = λ o. kind_of o ≡ kind.Other;
      fails = refl;
      ends = refl;
      jumps = refl;
      loops = λ o. refl;
      checks = refl;
      own = own;
      test = λ i j t w.
          quiet i j (test_past t ws i j w.1) (record { one = inl (t, w) })
          (λ r. by_role i _ kind.Other r (test_here ws i t w.0) refl);
      fail = refl;
      one = λ t. refl;
      at = λ p. refl;
      mark = λ i n h. walk.silent scanner i (i + 2) _ refl (own i 2 ToMark h refl (omega arith) refl);
      branch = λ i j ts lt h y. inside i 2 j ToBranch _ h refl (omega arith) refl y;
      run = λ i low high kind t h. walk.silent scanner i (i + 4) _ refl (own i 4 _ h refl (omega arith) refl);
      loop = λ i j o low high body lt h w y.
          let slots : ℕ = loop_slots low high * most_slots body in
          walk.enter scanner i j j (refers body, slots) (false, 1) (λ l. max l slots) lt
          (λ told. (by_role i ToRepeat kind.Loop None h refl told).each o low high body j w)
          (λ l m q s.
          let told = (by_role i ToRepeat kind.Loop _ h refl s.told).each o low high body j w in
          (told.0, omega (arith, s.is, told.1)))
          (walk.here scanner j j refl) (λ b plain. absurd (few (b refl)))
          (λ l m s x.
          let told = (by_role i ToRepeat kind.Loop _ h refl s.told).each o low high body j w in
          (told.2, λ one. omega (arith, one, x.1 (omega (arith, one)))));
      possessive = λ i low high body h v w y.
          let slots : ℕ = loop_slots low high in
          walk.enter scanner i (i + 4) (skip ws (i + 1)) (refers body, max slots (most_slots body))
          (refers body, most_slots body) (λ l. max l slots) (omega arith)
          (λ told plain.
          let many = (by_role i ToRepeatPossessively kind.PossessiveLoop None h refl told).each low high v w in
          omega (arith, many))
          (λ l m q s.
          let told = own_told i q low high h v w s.slots s.told in
          (told.1, omega (arith, s.is, told.2)))
          y (λ b plain. let many = b plain in omega (arith, many))
          (λ l m s x.
          let told = own_told i (i + 4) low high h v w s.slots s.told in
          (omega (arith, told.0, x.0), λ one. omega (arith, one, x.1 (omega (arith, one)))));
      atomic = λ i e body h at y. inside i 2 e ToGroupAtomically _ h refl (omega arith) refl y;
      look = λ i e sign back body h at v y. inside i 3 e _ _ h refl (omega arith) refl y;
      reference = λ i fold g h v.
          let step : Silent scanner i (i + 2) = own i 2 ToRefer h refl (omega arith) refl in
          walk.enter scanner i (i + 2) (i + 2) (true, 1) (false, 1) (λ l. l) step.past
          (λ stops. absurd (step.goes stops)) step.next (walk.here scanner (i + 2) (i + 2) refl)
          (λ b plain. absurd (true≢false plain)) (λ l m s x. x);
      exists = λ i j g there lt h. condition i j _ lt h refl;
      exists_else = λ i j g there absent lt h. condition i j _ lt h refl;
    }
      where
        few : most < 1 → ⊥
        few lt = omega (arith, lt, some)

        own_told : (i q low high : ℕ) → HasRole ws i ToRepeatPossessively → Word ws (i + 2) low → Word ws (i + 3) high
            → (n : ℕ) → ToldAt most ws i (Some (record { behind = q; slots = n }))
            → (loop_slots low high ≤ most) × (q ≡ i + 4) × (n ≡ loop_slots low high)
        own_told i q low high h v w n told =
            let p : Passed = record { behind = q; slots = n } in
            let own = (by_role i ToRepeatPossessively kind.PossessiveLoop (Some p) h refl told).each low high v w in
            (own.0, ap (λ (p : Passed). p.behind) own.1, ap (λ (p : Passed). p.slots) own.1)

  module _ (start e : ℕ) (some : 1 ≤ most) where
    -- a scan that has come to i, with what it has there
    pub record Scanned (i l : ℕ) : Type 0 where
      one : 1 ≤ l
      onto : Onto (scanner some e) start 1 i l

    pub scanned_start : Scanned start 1
    scanned_start = record { one = omega arith; onto = walk.onto_start (scanner some e) start 1 }

    pub scanned_next : (i l m : ℕ) (p : Passed) → Scanned i l → i < e → ToldAt most ws i (Some p) → m ≡ max p.slots l
        → Scanned p.behind m
    scanned_next i l m p o lt told is = record {
      one = omega (arith, is, o.one);
      onto =
          walk.onto_next (scanner some e) start 1 i p.behind l m o.onto lt
          (record { some = o.one; slots = p.slots; told = told; is = omega (arith, is) });
    }

    -- where it stops there are too many slots, and at the end it has counted them
    pub scan_stops : (i l : ℕ) → Scanned i l → i < e → ToldAt most ws i None → AreTold most ws start e None
    scan_stops i l o lt told = record {
      each = λ t w.
          walk.walk_stops (scanner some e) (instructions some e) start i 1 l o.onto t w lt told;
    }

    pub scan_ends : (i l : ℕ) → Scanned i l → e ≤ i → AreTold most ws start e (Some l)
    scan_ends i l o le = record {
      each = λ t w.
          let x = walk.walk_ends (scanner some e) (instructions some e) start i 1 l o.onto t w le in
          let is = x.1 (omega arith) in
          (omega (arith, is, some_slots t), omega (arith, is, some, x.0));
    }

-- a product of slots is no more than there may be, or more
pub within : (most slots m : ℕ) → m ≤ most / slots → slots * m ≤ most
within most slots m le = omega (arith, mul-le-mul_left slots le, div-mul-le_self most slots)

beyond : (most slots m : ℕ) → 0 < slots → most / slots < m → most < slots * m
beyond most slots m some lt = ⊎_elim (λ (l : most < slots * m). l)
    (λ (le : slots * m ≤ most). absurd (omega (arith, lt, le-div m most slots some (omega (arith, le)))))
    (cases_lt most (slots * m))

module _ (ws : List ℕ) (i least greatest slots : ℕ) (first : least ≡ word ws (i + 2))
    (second : greatest ≡ word ws (i + 3)) (is : slots ≡ loop_slots least greatest) where
  pub same_slots : (low high : ℕ) → Word ws (i + 2) low → Word ws (i + 3) high → slots ≡ loop_slots low high
  same_slots low high l h =
      is ∙ ap (λ n. loop_slots n greatest) (first ∙ word_of ws (i + 2) low l)
      ∙ ap (λ n. loop_slots low n) (second ∙ word_of ws (i + 3) high h)

  -- a loop, by what is told of its body under what is left of the slots
  module _ (most by left : ℕ) (to : by ≡ word ws (i + 1)) (rest : left ≡ most / slots) where
    same_end : i + 1 + by ≡ skip ws (i + 1)
    same_end = ap (λ n. i + 1 + n) to

    pub loop_stops : AreTold left ws (i + 4) (i + 1 + by) None → LoopTold most ws i None
    loop_stops told = record {
      each = λ o low high body j w plain.
          let own : slots ≡ loop_slots low high = same_slots low high w.0 w.1 in
          let many : left < most_slots body =
          told.each body (subst (λ n. Reads ws (i + 4) n body) (sym same_end) w.3) plain in
          beyond most (loop_slots low high) (most_slots body) (omega arith)
          (subst (λ n. most / n < most_slots body) own (omega (arith, many, rest)));
    }

    pub loop_passed : (n : ℕ) → AreTold left ws (i + 4) (i + 1 + by) (Some n)
        → LoopTold most ws i (Some (record { behind = i + 1 + by + 1; slots = slots * n }))
    loop_passed n told = record {
      each = λ o low high body j w.
          let own : slots ≡ loop_slots low high = same_slots low high w.0 w.1 in
          let inside = told.each body (subst (λ n. Reads ws (i + 4) n body) (sym same_end) w.3) in
          let same : slots * n ≡ loop_slots low high * most_slots body =
          ap (λ k. k * n) own ∙ ap (λ k. loop_slots low high * k) inside.0 in
          let few : slots * n ≤ most = within most slots n (omega (arith, inside.1, rest)) in
          (omega (arith, same_end, w.5), same, omega (arith, few, same));
    }

-- where nothing is left of the slots a body has more
pub nothing_left : (ws : List ℕ) (i end : ℕ) → AreTold 0 ws i end None
nothing_left ws i end = record { each = λ t w plain. omega (arith, some_slots t) }
