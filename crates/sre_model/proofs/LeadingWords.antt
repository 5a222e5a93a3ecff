-- Which code words begin with a repeat.
use Rattle.sre_model.proofs.Terms.{◌≡◌, ℕ, ◌+◌, ◌-◌, ◌<◌, ◌⊎◌, inl, inr, List, length, Option, Some, None, refl, false}
use Rattle.sre_model.proofs.Terms.{sym, ap, ◌∙◌, subst, arith, true, SreOpcode, Tree, Then, Item, Test, RunKind}
use Rattle.sre_model.proofs.Terms.{GreedyRun, LazyRun, PossessiveRun, refers, by_references, of_item, unlimited, Word}
use Rattle.sre_model.proofs.Terms.{Opcode, Reads, ReadsItem, WholeItems, Role, role, begins_test, TestStands, HasTest}
use Rattle.sre_model.proofs.Terms.{RunLeads, TreeStands, is_end, or_parts, FrontStands, RunStands}
use Rattle.sre_model.specs.Tree.{One, Mark, Run}
use Rattle.sre_model.specs.Roles.{ToRun, ToTest, ToMark}
use Rattle.sre_chars.specs.declared.constants.SreOpcode.TheVariants as opcode
use Rattle.sre_model.proofs.Opcodes.{same_word, word_within, HasRole, is_one, is_mark, is_run, role_here, some_test}
use Rattle.sre_model.proofs.FirstCharacters.{Begins, begins, known, tree_within}
use Rattle.sre_model.proofs.TreeOf.{test_past}
use Rattle.sre_model.proofs.LeadingRuns.{run_leads, front_leads, mark_leads}

-- a run that leads what is left of a tree, behind what stands in front, leads the whole
abbrev LeadsOn : Option Test → Tree → Tree → Type 0
LeadsOn None left whole = (front : Option Test) (test : Test) → RunLeads left front test → RunLeads whole front test
LeadsOn (Some x) left whole = (test : Test) → RunLeads left None test → RunLeads whole (Some x) test

-- the words from a place on are what is left of a tree, up to a SUCCESS, behind a test at a place, if there is one
pub record RunAhead (ws : List ℕ) (whole : Tree) (i : ℕ) (first : Option ℕ) : Type 0 where
  pub left : Tree
  pub end : ℕ
  pub front : Option Test
  pub reads : Reads ws i end left
  pub ends : Opcode ws end opcode.SUCCESS
  pub before : FrontStands ws first front
  pub leads : LeadsOn front left whole
  pub apart : refers whole ≡ false → refers left ≡ false

pub whole_ahead : (ws : List ℕ) (t : Tree) → WholeItems ws t → RunAhead ws t 0 None
whole_ahead ws t w = record {
  left = t;
  end = length ws - 1;
  front = None;
  reads = w.0;
  ends = w.1;
  before = tt;
  leads = λ front test l. l;
  apart = λ r. r;
}

module _ (ws : List ℕ) (t : Tree) (i : ℕ) (first : Option ℕ) (a : RunAhead ws t i first) where
  abbrev there : TreeStands ws i a.left
  there = record { end = a.end; reads = a.reads; code = opcode.SUCCESS; there = a.ends; ends = refl }

  pub ahead_within : i < length ws
  ahead_within = tree_within ws i (record { tree = a.left; stands = there })

  -- where what is left begins with an item
  abbrev Ahead : Type 0
  Ahead = Begins ws a.left i there

  ahead : (k : Role) → is_end k ≡ false → HasRole ws i k → Ahead
  ahead = begins ws a.left i there

  leads_with : (b : Ahead) (x : Item) → b.item ≡ x → LeadsOn a.front (Then x b.rest) t
  leads_with b x e = subst (λ u. LeadsOn a.front u t) (b.same ∙ ap (λ y. Then y b.rest) e) a.leads

  apart_behind : (b : Ahead) → refers t ≡ false → refers b.rest ≡ false
  apart_behind b none =
      (or_parts (of_item by_references b.item) (refers b.rest)
      (subst (λ u. refers u ≡ false) b.same (a.apart none))).1

-- Runs

abbrev pub IsRunOpcode : SreOpcode → Type 0
IsRunOpcode o = (o ≡ opcode.REPEAT_ONE) ⊎ ((o ≡ opcode.MIN_REPEAT_ONE) ⊎ (o ≡ opcode.POSSESSIVE_REPEAT_ONE))

run_is_run : (o : SreOpcode) → IsRunOpcode o → (kind : RunKind) × (role o ≡ ToRun kind)
run_is_run o (inl e) = (GreedyRun, ap role e)
run_is_run o (inr (inl e)) = (LazyRun, ap role e)
run_is_run o (inr (inr e)) = (PossessiveRun, ap role e)

-- a run that leads what is left leads the whole
run_first : (front : Option Test) (left whole : Tree) (test : Test) → LeadsOn front left whole
    → RunLeads left None test → RunLeads whole front test
run_first None left whole test on l = on None test l
run_first (Some x) left whole test on l = on test l

module _ (ws : List ℕ) (t : Tree) (i : ℕ) (first : Option ℕ) (o : SreOpcode) (a : RunAhead ws t i first)
    (run : IsRunOpcode o) (w : Opcode ws i o) where
  abbrev kind : RunKind
  kind = (run_is_run o run).0

  here : HasRole ws i (ToRun kind)
  here = role_here ws i o (ToRun kind) w (run_is_run o run).1

  pub run_operands : i + 3 < length ws
  run_operands =
      let f = known ws a.left i (there ws t i first a) (ToRun kind) refl here (is_run ws i) in
      word_within ws (i + 3) f.1.1 f.1.4.1.2

  pub run_stands : Word ws (i + 3) unlimited → RunStands ws t first (i + 4)
  run_stands wide =
      let f = known ws a.left i (there ws t i first a) (ToRun kind) refl here (is_run ws i) in
      let high : f.1.1 ≡ unlimited = same_word ws (i + 3) f.1.1 unlimited f.1.4.1.2 wide in
      let same : f.0.item ≡ Run kind f.1.0 unlimited f.1.2 = f.1.3 ∙ ap (λ n. Run kind f.1.0 n f.1.2) high in
      record {
        front = a.front;
        test = f.1.2;
        end = f.0.after - 1;
        before = a.before;
        stands = record { code = f.1.4.1.4; operands = f.1.4.1.5 };
        leads =
            run_first a.front (Then (Run kind f.1.0 unlimited f.1.2) f.0.rest) t f.1.2
            (leads_with ws t i first a f.0 (Run kind f.1.0 unlimited f.1.2) same) (run_leads kind f.1.0 f.1.2 f.0.rest);
      }

-- Tests

-- a run behind a test, of which none stands in front
behind_front : (ws : List ℕ) (front : Option Test) (x test : Test) (rest whole : Tree) → FrontStands ws None front
    → LeadsOn front (Then (One x) rest) whole → RunLeads rest None test → RunLeads whole (Some x) test
behind_front ws None x test rest whole none on l = on (Some x) test (front_leads x test rest l)
behind_front ws (Some y) x test rest whole some on l = absurd some

module _ (ws : List ℕ) (t : Tree) (i : ℕ) (o : SreOpcode) (a : RunAhead ws t i None) (tests : begins_test o ≡ true)
    (w : Opcode ws i o) where
  here_test : HasRole ws i (ToTest (some_test o tests).0)
  here_test = role_here ws i o (ToTest (some_test o tests).0) w (some_test o tests).1

  abbrev at : Ahead ws t i None a
  at = ahead ws t i None a (ToTest (some_test o tests).0) refl here_test

  abbrev one : (x : Test) × (at.item ≡ One x) × ReadsItem ws i at.after (One x)
  one = is_one ws i at.after at.item here_test at.here

  stands : TestStands ws i at.after one.0
  stands = record { code = one.2.0; operands = one.2.1 }

  pub test_ahead : HasTest ws i
  test_ahead = record { end = at.after; test = one.0; stands = stands }

  pub test_further : (j : ℕ) → ((k : ℕ) (x : Test) → TestStands ws i k x → j ≡ k) → i < j
  test_further j ends = omega (arith, ends at.after one.0 stands, test_past one.0 ws i at.after one.2.1)

  pub behind_test : (j : ℕ) → ((k : ℕ) (x : Test) → TestStands ws i k x → j ≡ k) → RunAhead ws t j (Some i)
  behind_test j ends = record {
    left = at.rest;
    end = a.end;
    front = Some one.0;
    reads = subst (λ k. Reads ws k a.end at.rest) (sym (ends at.after one.0 stands)) at.reads;
    ends = a.ends;
    before = (at.after, stands);
    leads = λ test l.
        behind_front ws a.front one.0 test at.rest t a.before (leads_with ws t i None a at (One one.0) one.1) l;
    apart = apart_behind ws t i None a at;
  }

-- Marks

-- a mark lets what is behind it lead, where nothing there depends on marks
behind_mark : (front : Option Test) (n : ℕ) (rest whole : Tree) → refers rest ≡ false
    → LeadsOn front (Then (Mark n) rest) whole → LeadsOn front rest whole
behind_mark None n rest whole apart on = λ front test l. on front test (mark_leads n rest front test apart l)
behind_mark (Some x) n rest whole apart on = λ test l. on test (mark_leads n rest None test apart l)

pub mark_ahead : (ws : List ℕ) (t : Tree) (i : ℕ) (first : Option ℕ) → refers t ≡ false → RunAhead ws t i first
    → Opcode ws i opcode.MARK → RunAhead ws t (i + 2) first
mark_ahead ws t i first none a w =
    let here : HasRole ws i ToMark = record { code = opcode.MARK; there = w; begins = refl } in
    let f = known ws a.left i (there ws t i first a) ToMark refl here (is_mark ws i) in
    record {
      left = f.0.rest;
      end = a.end;
      front = a.front;
      reads = subst (λ k. Reads ws k a.end f.0.rest) f.1.2.1.1 f.0.reads;
      ends = a.ends;
      before = a.before;
      leads =
          behind_mark a.front f.1.0 f.0.rest t (apart_behind ws t i first a f.0 none)
          (leads_with ws t i first a f.0 (Mark f.1.0) f.1.1);
      apart = apart_behind ws t i first a f.0;
    }

-- What is known of a run that is found

pub run_test : (ws : List ℕ) (t : Tree) (first : Option ℕ) (place : ℕ) → RunStands ws t first place → HasTest ws place
run_test ws t first place r = record { end = r.end; test = r.test; stands = r.stands }

pub front_test : (ws : List ℕ) (t : Tree) (first place : ℕ) → RunStands ws t (Some first) place → HasTest ws first
front_test ws t first place r = by_front r.front r.before
  where
    by_front : (front : Option Test) → FrontStands ws (Some first) front → HasTest ws first
    by_front None before = absurd before
    by_front (Some x) before = record { end = before.0; test = x; stands = before.1 }
