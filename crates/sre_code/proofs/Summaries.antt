-- A scan from instruction to instruction, into each body, computes a summary of the tree.
use Rattle.sre_code.proofs.Terms.{ℕ, ◌+◌, ◌-◌, ◌^◌, ◌≡◌, ◌<◌, ◌≤◌, Bool, true, false, ◌||◌, nat_lt, min, max, List}
use Rattle.sre_code.proofs.Terms.{length, Some, inl, refl, sym, ap, ◌∙◌, arith, true≢false, le-ltb, lt-ltb, SreOpcode}
use Rattle.sre_code.proofs.Terms.{Tree, Empty, Then, Item, Trees, Folding, of_tree, of_item, of_branch, word, skip}
use Rattle.sre_code.proofs.Terms.{Opcode, WholeItems, Role, role, refers, by_references, sets_mark, by_marks}
use Rattle.sre_code.proofs.Terms.{marks_in_regions, by_marked_regions, HasRole, test_here, test_past, same_opcode}
use Rattle.sre_code.proofs.Terms.{word_of, own_words, Behind, NoneBehind, IsSummary, Summary, or-true, or-false}
use Rattle.sre_code.proofs.Terms.{or_assoc, or_right, by_backs, by_longest, forking, noted}
use Rattle.sre_model.specs.Tree.{Atomic, Look}
use Rattle.sre_model.specs.Roles.{ToMark, ToBranch, ToRun, ToRepeat, ToRepeatPossessively, ToGroupAtomically, ToLook}
use Rattle.sre_model.specs.Roles.{ToRefer, ToCheckGroup}
use Rattle.sre_model.specs.References.{no_group, asked_from, by_groups, by_last_groups}
use Rattle.sre_model.specs.Regions.{forks, by_forks, has_forked_region, by_forked_regions}
use Rattle.sre_code.proofs.Walking.{behind_test, behind_role, role_behind, none_behind, Scanner, Instructions, Onto}
use Rattle.sre_code.proofs.Walking as walk

-- what a part of a tree has
record Values : Type 0 where
  refers : Bool
  from : ℕ
  to : ℕ
  longest : ℕ
  backs : ℕ
  marks : Bool
  marked : Bool
  forks : Bool
  forked : Bool

abbrev of_both : Values → Values → Values
of_both a b = record {
  refers = a.refers || b.refers;
  from = min a.from b.from;
  to = max a.to b.to;
  longest = max a.longest b.longest;
  backs = a.backs + b.backs;
  marks = a.marks || b.marks;
  marked = a.marked || b.marked;
  forks = a.forks || b.forks;
  forked = a.forked || b.forked;
}

abbrev values : ((A : Type 0) → Folding A → A) → Values
values of = record {
  refers = of Bool by_references;
  from = of ℕ by_groups;
  to = of ℕ by_last_groups;
  longest = of ℕ by_longest;
  backs = of ℕ by_backs;
  marks = of Bool by_marks;
  marked = of Bool by_marked_regions;
  forks = of Bool by_forks;
  forked = of Bool by_forked_regions;
}

abbrev of_nothing : Values
of_nothing = values (λ A f. f.nothing)

abbrev tree_values : Tree → Values
tree_values t = values (λ A f. of_tree f t)

abbrev item_values : Item → Values
item_values x = values (λ A f. of_item f x)

abbrev branch_values : Trees → Values
branch_values ts = values (λ A f. of_branch f ts)

-- what a scan says that stops
abbrev Bad : Values → Type 0
Bad a = (a.refers ≡ true) × (a.from ≡ 0) × (no_group ≤ a.to)

-- what is noted of [i, j), by what was noted before it: its numbers
abbrev Counts : Values → Summary → Summary → Type 0
Counts a m n =
    (n.refers ≡ (a.refers || m.refers))
    × (m.from ≤ no_group → n.from ≡ min m.from a.from)
    × (n.to ≡ max m.to (min no_group a.to))
    × (n.longest ≡ max m.longest a.longest)
    × (min n.backs (2 ^ 64 - 1) ≡ min (m.backs + a.backs) (2 ^ 64 - 1))

-- up to where atomic scopes stand, which are all behind the place f, or one of them goes on up to there
record Reaches (i j f g : ℕ) : Type 0 where
  ends : f ≤ i → g ≤ j
  stays : j ≤ f → g ≡ f

-- whether something is in an atomic scope, by whether it is there, and whether it is in one that begins there
record Found (i j f : ℕ) (has inside m n : Bool) : Type 0 where
  apart : f ≤ i → n ≡ (inside || m)
  within : j ≤ f → n ≡ (has || (inside || m))

record After (i j : ℕ) (a : Values) (m n : Summary) : Type 0 where
  counts : Counts a m n
  reaches : Reaches i j m.farthest n.farthest
  marks : Found i j m.farthest a.marks a.marked m.marks n.marks
  forks : Found i j m.farthest a.forks a.forked m.forks n.forks

or_swap : (a b c : Bool) → (a || (b || c)) ≡ (b || (a || c))
or_swap true b c = sym (or-true b)
or_swap false b c = refl

-- of two parts
both_apart : (a b m : Bool) → (b || (a || m)) ≡ ((a || b) || m)
both_apart a b m = or_swap b a m ∙ sym (or_assoc a b m)

both_within : (h a k b m : Bool) → (k || (b || (h || (a || m)))) ≡ ((h || k) || ((a || b) || m))
both_within true a k b m = ap (λ c. k || c) (or-true b) ∙ or-true k
both_within false a k b m = ap (λ c. k || c) (both_apart a b m)

twice : (h a m : Bool) → (h || (a || m)) ≡ (h || ((h || a) || m))
twice true a m = refl
twice false a m = refl

joined_found : (i k j f g : ℕ) (h a p b l m n : Bool) → i ≤ k → k ≤ j → Reaches i k f g → Found i k f h a l m
    → Found k j g p b m n → Found i j f (h || p) (a || b) l n
joined_found i k j f g h a p b l m n before behind r x y = record {
  apart = λ e. y.apart (r.ends e) ∙ ap (λ c. b || c) (x.apart e) ∙ both_apart a b l;
  within = λ e.
      y.within (omega (arith, e, behind, r.stays (omega (arith, e, behind))))
      ∙ ap (λ c. p || (b || c)) (x.within (omega (arith, e, behind)))
      ∙ both_within h a p b l;
}

-- behind an instruction at i that is no atomic scope, and that is not sought or is
farther : (i k j f g : ℕ) → i ≤ k → Reaches k j f g → Reaches i j f g
farther i k j f g le x = record { ends = λ e. x.ends (omega (arith, e, le)); stays = x.stays }

later : (i k j f : ℕ) (h a m n : Bool) → i ≤ k → Found k j f h a m n → Found i j f h a m n
later i k j f h a m n le x = record { apart = λ e. x.apart (omega (arith, e, le)); within = x.within }

found_here : (i k j f : ℕ) (h a m n : Bool) → i < k → k ≤ j → Found k j f h a (nat_lt i f || m) n
    → Found i j f true a m n
found_here i k j f h a m n lt le x = record {
  apart = λ e. x.apart (omega (arith, e, lt)) ∙ ap (λ c. a || (c || m)) (le-ltb i f e);
  within = λ e.
      x.within e ∙ ap (λ c. h || (a || (c || m))) (lt-ltb i f (omega (arith, e, lt, le)))
      ∙ ap (λ c. h || c) (or-true a) ∙ or-true h;
}

-- in an atomic scope from i to e, whose body begins at k
module _ (i k e f g : ℕ) (lt : i < k) (le : k ≤ e) (is : g ≡ max f e) where
  reaches_end : (h : ℕ) → Reaches k e g h → Reaches i e f h
  reaches_end h x =
      let same : h ≡ g = x.stays (omega (arith, is)) in
      record { ends = λ l. omega (arith, is, same, l, lt, le); stays = λ l. omega (arith, is, same, l) }

  found_inside : (h a m n : Bool) → Found k e g h a m n → Found i e f h (h || a) m n
  found_inside h a m n x =
      let same = x.within (omega (arith, is)) in
      record { apart = λ l. same ∙ sym (or_assoc h a m); within = λ l. same ∙ twice h a m }

  found_loop : (h a m n : Bool) → Found k e g h a true n → Found i e f true true m n
  found_loop h a m n x =
      let same : n ≡ true = x.within (omega (arith, is)) ∙ ap (λ c. h || c) (or-true a) ∙ or-true h in
      record { apart = λ l. same; within = λ l. same }

-- the first group that is asked for is no greater than none
few_asked : (t : Tree) → asked_from t ≤ no_group
few_asked Empty = omega arith
few_asked (Then x t) = let l = few_asked t in omega (arith, l)

-- the next instruction, and what is then noted
record Notes (ws : List ℕ) (i : ℕ) (l : Summary) (k : ℕ) (m : Summary) : Type 0 where
  behind : Behind ws i k
  code : SreOpcode
  there : Opcode ws i code
  is : m ≡ noted (role code) i (word ws (i + 1)) (word ws (i + 2)) l

module _ (ws : List ℕ) where
  abbrev scanner : Scanner Summary Values
  scanner = record {
    words = ws;
    end = length ws - 1;
    Next = Notes ws;
    Stops = NoneBehind ws;
    nothing = of_nothing;
    both = of_both;
    tree = tree_values;
    item = item_values;
    branch = branch_values;
    empty = refl;
    then = λ y t. refl;
    only = λ t. refl;
    or = λ t ts. refl;
    Bad = Bad;
    After = After;
    first = λ a b x. (rw x.0 refl, omega (arith, x.1), omega (arith, x.2));
    second = λ a b x. (or_right a.refers b.refers x.0, omega (arith, x.1), omega (arith, x.2));
    stay = λ i j m le. record {
      counts = (refl, λ few. omega (arith, few), omega arith, omega arith, omega arith);
      reaches = record { ends = λ e. omega (arith, e, le); stays = λ e. refl };
      marks = record { apart = λ e. refl; within = λ e. refl };
      forks = record { apart = λ e. refl; within = λ e. refl };
    };
    wider = λ i k j a l m le x. record {
      counts = x.counts;
      reaches = record {
        ends = λ e. omega (arith, le, x.reaches.ends e);
        stays = λ e. x.reaches.stays (omega (arith, e, le));
      };
      marks = record { apart = x.marks.apart; within = λ e. x.marks.within (omega (arith, e, le)) };
      forks = record { apart = x.forks.apart; within = λ e. x.forks.within (omega (arith, e, le)) };
    };
    joined = λ i k j a b l m n before behind x y. record {
      counts = (
        y.counts.0 ∙ ap (λ c. b.refers || c) x.counts.0 ∙ both_apart a.refers b.refers l.refers,
        λ few. let is = x.counts.1 few in omega (arith, is, few, y.counts.1 (omega (arith, is, few))),
        omega (arith, x.counts.2, y.counts.2),
        omega (arith, x.counts.3, y.counts.3),
        omega (arith, x.counts.4, y.counts.4),
      );
      reaches = record {
        ends = λ e. y.reaches.ends (x.reaches.ends e);
        stays = λ e.
            let stays = x.reaches.stays (omega (arith, e, behind)) in
            y.reaches.stays (omega (arith, e, stays)) ∙ stays;
      };
      marks = joined_found i k j _ _ _ _ _ _ _ _ _ before behind x.reaches x.marks y.marks;
      forks = joined_found i k j _ _ _ _ _ _ _ _ _ before behind x.reaches x.forks y.forks;
    };
  }

  abbrev Passes : ℕ → ℕ → Values → Type 0
  Passes = walk.Passed scanner

  module _ (i n : ℕ) (o : Role) (h : HasRole ws i o) (has : own_words o ≡ Some n) where
    -- what is noted of an instruction, by its role
    noted_here : (l m : Summary) (k : ℕ) → Notes ws i l k m
        → (k ≡ i + n) × (m ≡ noted o i (word ws (i + 1)) (word ws (i + 2)) l)
    noted_here l m k s = (
      behind_role ws i k n o h has s.behind,
      s.is
          ∙ ap (λ p. noted p i (word ws (i + 1)) (word ws (i + 2)) l)
          (ap role (same_opcode ws i s.code h.code s.there h.there) ∙ h.begins),
    )

    goes_on : NoneBehind ws i → ⊥
    goes_on none = none.none (i + n) (role_behind ws i n o h has)

    -- and of what is behind it
    entered : (j : ℕ) (a b : Values) → 0 < n → Passes (i + n) j b → (Bad b → Bad a)
        → ((l m : Summary) → After (i + n) j b (noted o i (word ws (i + 1)) (word ws (i + 2)) l) m → After i j a l m)
        → Passes i j a
    entered j a b some y bad law =
        walk.enter scanner i (i + n) j a b (noted o i (word ws (i + 1)) (word ws (i + 2))) (omega (arith, some))
        (λ none. absurd (goes_on none)) noted_here y bad (λ l m s. law l m)

    lone : (a : Values) → 0 < n
        → ((l m : Summary)
        → After (i + n) (i + n) of_nothing (noted o i (word ws (i + 1)) (word ws (i + 2)) l) m → After i (i + n) a l m)
        → Passes i (i + n) a
    lone a some law =
        entered (i + n) a of_nothing some (walk.here scanner (i + n) (i + n) refl)
        (λ b. absurd (true≢false (sym b.0))) law

  -- a fork
  forked : (i k j : ℕ) (b : Values) (l m : Summary) → i < k → k ≤ j → After k j b (forking i l) m
      → After i j (record b { forks = true }) l m
  forked i k j b l m lt le x = record {
    counts = x.counts;
    reaches = farther i k j _ _ (omega (arith, lt)) x.reaches;
    marks = later i k j _ _ _ _ _ (omega (arith, lt)) x.marks;
    forks = found_here i k j _ _ _ _ _ lt le x.forks;
  }

  instructions : Instructions scanner
  instructions = record {
    Quiet = λ o. (i first second : ℕ) (l : Summary) → noted o i first second l ≡ l;
    fails = λ i a b l. refl;
    ends = λ i a b l. refl;
    jumps = λ i a b l. refl;
    loops = λ o i a b l. refl;
    checks = λ i a b l. refl;
    own = λ i n o h has some quiet. record {
      past = omega (arith, some);
      goes = goes_on i n o h has;
      next = λ l m k s.
          let is = noted_here i n o h has l m k s in
          (is.0, is.1 ∙ quiet i (word ws (i + 1)) (word ws (i + 2)) l);
    };
    test = λ i j t w. record {
      past = test_past t ws i j w.1;
      goes = λ none. none.none j (record { one = inl (t, w) });
      next = λ l m k s.
          let h = test_here ws i t w.0 in (
            behind_test ws i j k t w s.behind,
            s.is
                ∙ ap (λ p. noted p i (word ws (i + 1)) (word ws (i + 2)) l)
                (ap role (same_opcode ws i s.code h.code s.there h.there) ∙ h.begins),
          );
    };
    fail = refl;
    one = λ t. refl;
    at = λ p. refl;
    mark = λ i n h.
        lone i 2 ToMark h refl _ (omega arith)
        (λ l m x. record {
          counts = x.counts;
          reaches = farther i (i + 2) _ _ _ (omega arith) x.reaches;
          marks = found_here i (i + 2) (i + 2) _ _ _ _ _ (omega arith) (omega arith) x.marks;
          forks = later i (i + 2) _ _ _ _ _ _ (omega arith) x.forks;
        });
    branch = λ i j ts lt h y.
        entered i 2 ToBranch h refl j _ (branch_values ts) (omega arith) y (λ b. b)
        (λ l m x. forked i (i + 2) j (branch_values ts) l m (omega arith) y.0 x);
    run = λ i low high kind t h.
        lone i 4 (ToRun kind) h refl _ (omega arith)
        (λ l m x. forked i (i + 4) (i + 4) of_nothing l m (omega arith) (omega arith) x);
    loop = λ i j o low high body lt h w y.
        entered i 4 ToRepeat h refl j _ (tree_values body) (omega arith) y (λ b. b)
        (λ l m x. forked i (i + 4) j (tree_values body) l m (omega arith) y.0 x);
    possessive = λ i low high body h v w y.
        let end : ℕ = skip ws (i + 1) in
        entered i 4 ToRepeatPossessively h refl end _ (tree_values body) (omega arith) y (λ b. b)
        (λ l m x. record {
          counts = x.counts;
          reaches = reaches_end i (i + 4) end l.farthest _ (omega arith) y.0 refl _ x.reaches;
          marks = found_inside i (i + 4) end l.farthest _ (omega arith) y.0 refl _ _ _ _ x.marks;
          forks = found_loop i (i + 4) end l.farthest _ (omega arith) y.0 refl _ _ _ _ x.forks;
        });
    atomic = λ i e body h at y.
        entered i 2 ToGroupAtomically h refl e _ (tree_values body) (omega arith) y (λ b. b)
        (λ l m x. scoped i (i + 2) e (Atomic body) body l l m (omega arith) y.0 at x.counts x);
    look = λ i e sign back body h at v y.
        let is : word ws (i + 2) ≡ back = word_of ws (i + 2) back v in
        entered i 3 (ToLook sign) h refl e _ (tree_values body) (omega arith) y (λ b. b)
        (λ l m x.
        scoped i (i + 3) e (Look sign back body) body l
        (noted (ToLook sign) i (word ws (i + 1)) (word ws (i + 2)) l) m (omega arith) y.0 at
        (x.counts.0, x.counts.1, x.counts.2, omega (arith, x.counts.3, is), omega (arith, x.counts.4, is)) x);
    reference = λ i fold g h v.
        let is : word ws (i + 1) ≡ g = word_of ws (i + 1) g v in
        lone i 2 ToRefer h refl _ (omega arith)
        (λ l m x. record {
          counts = (
            x.counts.0,
            λ few. omega (arith, few, x.counts.1 (omega (arith, few)), is),
            omega (arith, x.counts.2, is),
            x.counts.3,
            x.counts.4,
          );
          reaches = farther i (i + 2) _ _ _ (omega arith) x.reaches;
          marks = later i (i + 2) _ _ _ _ _ _ (omega arith) x.marks;
          forks = later i (i + 2) _ _ _ _ _ _ (omega arith) x.forks;
        });
    exists = λ i j g there lt h. halted i j _ lt h (refl, refl, omega arith);
    exists_else = λ i j g there absent lt h. halted i j _ lt h (refl, refl, omega arith);
  }
    where
      -- an atomic group or a look: of what it has noted, u, only the numbers differ
      scoped : (i k e : ℕ) (x : Item) (body : Tree) (l u m : Summary) → i < k → k ≤ e → e + 1 ≡ skip ws (i + 1)
          → Counts (item_values x) l m
          → After k e (tree_values body)
          (record u { farthest = max l.farthest (i + word ws (i + 1)); marks = l.marks; forks = l.forks }) m
          → After i e
          (record (item_values x) {
            marks = sets_mark body;
            marked = sets_mark body || marks_in_regions body;
            forks = forks body;
            forked = forks body || has_forked_region body;
          }) l m
      scoped i k e x body l u m lt le at counts y =
          let is : max l.farthest (i + word ws (i + 1)) ≡ max l.farthest e = omega (arith, at) in
          record {
            counts = counts;
            reaches = reaches_end i k e _ _ lt le is _ y.reaches;
            marks = found_inside i k e _ _ lt le is _ _ _ _ y.marks;
            forks = found_inside i k e _ _ lt le is _ _ _ _ y.forks;
          }

      halted : (i j : ℕ) (a : Values) → i < j → HasRole ws i ToCheckGroup → Bad a → Passes i j a
      halted i j a lt h bad = walk.halt scanner i j a lt (λ l m q s. (none_behind ws i h).none q s.behind) bad

  -- what is noted before the first instruction, and where the scan stops
  abbrev pub nothing_noted : Summary
  nothing_noted = record {
    refers = false;
    from = no_group;
    to = 0;
    longest = 0;
    backs = 0;
    marks = false;
    forks = false;
    farthest = 0;
  }

  abbrev pub nothing_known : Summary
  nothing_known = record {
    refers = true;
    from = 0;
    to = no_group;
    longest = 0;
    backs = 0;
    marks = true;
    forks = true;
    farthest = 0;
  }

  -- a scan that has come to i, with what it has noted
  pub record Noted (i : ℕ) (l : Summary) : Type 0 where
    onto : Onto scanner 0 nothing_noted i l

  pub noted_start : Noted 0 nothing_noted
  noted_start = record { onto = walk.onto_start scanner 0 nothing_noted }

  pub noted_next : (i k : ℕ) (code : SreOpcode) (l m : Summary) → Noted i l → i < length ws - 1 → Behind ws i k
      → Opcode ws i code → m ≡ noted (role code) i (word ws (i + 1)) (word ws (i + 2)) l → Noted k m
  noted_next i k code l m o lt b there is = record {
    onto =
        walk.onto_next scanner 0 nothing_noted i k l m o.onto lt
        (record { behind = b; code = code; there = there; is = is });
  }

  module _ (t : Tree) (w : WholeItems ws t) (i : ℕ) (l : Summary) (o : Noted i l) where
    pub noted_stops : i < length ws - 1 → NoneBehind ws i → IsSummary t nothing_known
    noted_stops lt none =
        let bad = walk.walk_stops scanner instructions 0 i nothing_noted l o.onto t w.0 lt none in
        record {
          refers = sym bad.0;
          from = sym bad.1;
          to = omega (arith, bad.2);
          longest = λ plain. absurd (true≢false (sym bad.0 ∙ plain));
          backs = λ plain. absurd (true≢false (sym bad.0 ∙ plain));
          unmarked = λ no. absurd (true≢false no);
          marked = λ plain. absurd (true≢false (sym bad.0 ∙ plain));
          forked = λ plain. absurd (true≢false (sym bad.0 ∙ plain));
        }

    pub noted_ends : length ws - 1 ≤ i → IsSummary t l
    noted_ends le =
        let x = walk.walk_ends scanner instructions 0 i nothing_noted l o.onto t w.0 le in
        let marks = x.marks.apart (omega arith) ∙ or-false (marks_in_regions t) in
        let few = few_asked t in
        record {
          refers = x.counts.0 ∙ or-false (refers t);
          from = omega (arith, x.counts.1 (omega arith), few);
          to = omega (arith, x.counts.2);
          longest = λ plain. omega (arith, x.counts.3);
          backs = λ plain. omega (arith, x.counts.4);
          unmarked = λ no. sym marks ∙ no;
          marked = λ plain. marks;
          forked = λ plain. x.forks.apart (omega arith) ∙ or-false (has_forked_region t);
        }
