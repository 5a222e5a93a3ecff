-- That FIRST sets are those of a code holds in one way, as the invariants of iterators need it: a test at an address is
-- the only one there, and so is a repeat.
use Rattle.std.specs.Prelude.{ℕ, ◌-◌, ◌+◌, ◌≡◌, List, Option, Some, None, IfSome}
use Rattle.sre_engine.specs.Terms.{ap, props, is_prop→PathP, Tree, Test, TestStands, HasTest, FrontStands, RunLeads}
use Rattle.sre_engine.specs.Terms.{RunStands, TestOperands, set_prop, test_same}
use Rattle.sre_model.specs.Tree.{In}
use Rattle.sre_engine.specs.Starts.{TestsThere}
use Rattle.sre_engine.specs.FirstSets.{Opens, Sets, SetsOf}
use Rattle.sre_engine.specs.declared.engine.first_characters.Wanted.{Wanted}
use Rattle.sre_engine.specs.declared.engine.first_characters.Wanted.TheVariants.{Anything, Set, Characters}
use Rattle.sre_engine.specs.declared.engine.first_characters.Wanted.TheVariants as wanted
use Rattle.sre_engine.specs.declared.engine.leading_run.LeadingRun.{LeadingRun}
use Rattle.sre_engine.specs.declared.engine.opening.Opening.{Opening}

-- what is determined by a key, of which there is one, is so in one way
keyed : {K : Type 0} (A : K → Type 0) → ((k m : K) → A k → A m → k ≡ m) → ((k : K) → IsProp (A k))
    → IsProp ((k : K) × A k)
keyed A one pa x y =
    let p = one x.0 y.0 x.1 y.1 in
    λ i. (p i, is_prop→PathP (λ j. A (p j)) (λ j. pa (p j)) x.1 y.1 i)

operands_prop : (t : Test) (ws : List ℕ) (i j : ℕ) → IsProp (TestOperands ws i j t)
operands_prop (In f s) ws i j = hlevel (props, set_prop s ws (i + 2) (j - 1))
operands_prop t ws i j = hlevel props

stands_prop : (ws : List ℕ) (i j : ℕ) (t : Test) → IsProp (TestStands ws i j t)
stands_prop ws i j t = hlevel (props, operands_prop t ws i j)

-- a test at a place, with where it ends
abbrev TestAt : List ℕ → ℕ → Test × ℕ → Type 0
TestAt ws i k = TestStands ws i k.1 k.0

test_once : (ws : List ℕ) (i : ℕ) (k m : Test × ℕ) → TestAt ws i k → TestAt ws i m → k ≡ m
test_once ws i k m x y =
    let same = test_same k.0 m.0 ws i k.1 m.1 x.code x.operands y.code y.operands in
    λ n. (same.0 n, same.1 n)

has_test_prop : (ws : List ℕ) (i : ℕ) → IsProp (HasTest ws i)
has_test_prop ws i x y =
    let to : (k : Test × ℕ) × TestAt ws i k → HasTest ws i = λ k. record {
      end = k.0.1;
      test = k.0.0;
      stands = k.1;
    } in
    ap to (keyed (TestAt ws i) (test_once ws i) (λ k. stands_prop ws i k.1 k.0)
    ((x.test, x.end), x.stands) ((y.test, y.end), y.stands))

front_once : (ws : List ℕ) (first : Option ℕ) (a b : Option Test) → FrontStands ws first a → FrontStands ws first b
    → a ≡ b
front_once ws None None None x y = λ _. None
front_once ws None None (Some b) x y = absurd y
front_once ws None (Some a) b x y = absurd x
front_once ws (Some i) None b x y = absurd x
front_once ws (Some i) (Some a) None x y = absurd y
front_once ws (Some i) (Some a) (Some b) x y = ap Some (ap (λ k. k.0) (test_once ws i (a, x.0) (b, y.0) x.1 y.1))

front_prop : (ws : List ℕ) (first : Option ℕ) (a : Option Test) → IsProp (FrontStands ws first a)
front_prop ws None None = hlevel props
front_prop ws None (Some b) = hlevel props
front_prop ws (Some i) None = hlevel props
front_prop ws (Some i) (Some a) =
    keyed (λ j. TestStands ws i j a)
    (λ j k x y. (test_same a a ws i j k x.code x.operands y.code y.operands).1) (λ j. stands_prop ws i j a)

abbrev Key : Type 0
Key = Option Test × (Test × ℕ)

abbrev RunAt : List ℕ → Tree → Option ℕ → ℕ → Key → Type 0
RunAt ws t first place k = FrontStands ws first k.0 × (TestAt ws place k.1 × RunLeads t k.0 k.1.0)

run_once : (ws : List ℕ) (t : Tree) (first : Option ℕ) (place : ℕ) (k m : Key) → RunAt ws t first place k
    → RunAt ws t first place m → k ≡ m
run_once ws t first place k m x y =
    let front = front_once ws first k.0 m.0 x.0 y.0 in
    let test = test_once ws place k.1 m.1 x.1.0 y.1.0 in
    λ n. (front n, test n)

run_prop : (ws : List ℕ) (t : Tree) (first : Option ℕ) (place : ℕ) (k : Key) → IsProp (RunAt ws t first place k)
run_prop ws t first place k = hlevel (props, front_prop ws first k.0, stands_prop ws place k.1.1 k.1.0)

run_stands_prop : (ws : List ℕ) (t : Tree) (first : Option ℕ) (place : ℕ) → IsProp (RunStands ws t first place)
run_stands_prop ws t first place x y =
    let to : (k : Key) × RunAt ws t first place k → RunStands ws t first place = λ k. record {
      front = k.0.0;
      test = k.0.1.0;
      end = k.0.1.1;
      before = k.1.0;
      stands = k.1.1.0;
      leads = k.1.1.1;
    } in
    ap to (keyed (RunAt ws t first place) (run_once ws t first place) (run_prop ws t first place)
    ((x.front, (x.test, x.end)), (x.before, (x.stands, x.leads)))
    ((y.front, (y.test, y.end)), (y.before, (y.stands, y.leads))))

tests_prop : (ws : List ℕ) (wanted : Wanted) → IsProp (TestsThere ws wanted)
tests_prop ws Anything = hlevel props
tests_prop ws (wanted.Test place) = has_test_prop ws place
tests_prop ws (Set place set) = hlevel (props, has_test_prop ws place)
tests_prop ws (Characters set) = hlevel props

if_some_prop : {A : Type 0} (P : A → Type 0) → ((x : A) → IsProp (P x)) → (o : Option A) → IsProp (IfSome o P)
if_some_prop P each None = hlevel props
if_some_prop P each (Some x) = each x

opens_prop : (ws : List ℕ) (o : Opening) → IsProp (Opens ws o)
opens_prop ws o =
    let leads : (t : Tree) → IsProp (IfSome o.lead (λ run. RunStands ws t run.first run.test)) =
    λ t. if_some_prop (λ (run : LeadingRun). RunStands ws t run.first run.test)
    (λ run. run_stands_prop ws t run.first run.test) o.lead in
    hlevel (props, tests_prop ws o.first.wanted, leads)

pub one_sets_of : {ws : List ℕ} {sets : Sets} → IsProp (SetsOf ws sets)
one_sets_of {ws} {sets} = hlevel (props, if_some_prop (Opens ws) (opens_prop ws) sets.opening)
