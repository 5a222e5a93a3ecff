-- Match paths: where a tree can lead from a position with captures, in order.
-- Of the specification: what sre_engine makes public rests on it.
use Rattle.std.specs.Prelude.{ℕ, zero, suc, ◌+◌, ◌-◌, Bool, ◌&&◌, ◌||◌, not, List, [], ◌∷◌, ◌++◌, map, Option, Some}
use Rattle.std.specs.Prelude.{None, cond, nat_lt, nat_le, nat_eq}
use Rattle.std.specs.List.{flat_map, filter}
use Rattle.sre_model.specs.Tree.{Tree, Empty, Then, Item, Fail, One, At, Mark, Branch, Loop, Run, PossessiveLoop}
use Rattle.sre_model.specs.Tree.{Atomic, Look, Reference, Exists, ExistsElse, Trees, Only, Or, Test, Order, Greedy}
use Rattle.sre_model.specs.Tree.{Lazy, RunKind, GreedyRun, LazyRun, PossessiveRun, Sign, Positive, Negative, Fold}
use Rattle.sre_model.specs.Marks.{Marks, set_mark, group}
use Rattle.sre_model.specs.Subject.{Subject, passes, holds_at, same_folded}

-- where a way ends, and the marks there
pub record Way : Type 0 where
  pub stop : ℕ
  pub marks : Marks

-- the ways from a position under marks
abbrev pub Body : Type 0
Body = ℕ → Marks → List Way

-- the first alone
abbrev pub first : {A : Type 0} → List A → List A
first [] = []
first (x ∷ xs) = x ∷ []

-- this position alone, under these marks
abbrev pub here : Body
here p m = record { stop = p; marks = m } ∷ []

-- the count that means no limit
abbrev pub unlimited : ℕ
unlimited = 4294967295

-- the longest run of a test from p, of at most n characters
abbrev pub run_length : Subject → Test → ℕ → ℕ → ℕ
run_length s t zero p = 0
run_length s t (suc n) p = cond (passes s t p) (suc (run_length s t n (p + 1))) 0

-- how many characters a run from p may have: those that are left in the window, up to the greatest count
abbrev pub most_from : Subject → ℕ → ℕ → ℕ
most_from s high p = cond (nat_eq high unlimited || nat_lt (s.end - p) high) (s.end - p) high

-- the longest run from p inside the window, up to the greatest count
abbrev pub longest_run : Subject → Test → ℕ → ℕ → ℕ
longest_run s t high p = run_length s t (most_from s high p) p

-- n counts from low on, rising
abbrev pub rising : ℕ → ℕ → List ℕ
rising low zero = []
rising low (suc n) = low ∷ rising (low + 1) n

-- the same, falling
abbrev pub falling : ℕ → ℕ → List ℕ
falling low zero = []
falling low (suc n) = (low + n) ∷ falling low n

-- the counts of a run in order, where k is the longest
abbrev pub counts : RunKind → ℕ → ℕ → List ℕ
counts GreedyRun low k = falling low (k + 1 - low)
counts LazyRun low k = rising low (k + 1 - low)
counts PossessiveRun low k = cond (nat_le low k) (k ∷ []) []

abbrev pub run_ways : Subject → RunKind → ℕ → ℕ → Test → Body
run_ways s kind low high t p m =
    map (λ n. record { stop = p + n; marks = m }) (counts kind low (longest_run s t high p))

-- those ways that end between p and the window's end: of a body's, these are all
abbrev pub within : Subject → ℕ → List Way → List Way
within s p ws = filter (λ w. nat_le p w.stop && nat_le w.stop s.end) ws

abbrev pub ordered : Order → List Way → List Way → List Way
ordered Greedy further stop = further ++ stop
ordered Lazy further stop = stop ++ further

-- whether a body may follow from p on, where the last one beyond the least count was tried at that position
abbrev pub may_repeat : ℕ → ℕ → Option ℕ → ℕ → Bool
may_repeat high count None p = nat_eq high unlimited || nat_lt count high
may_repeat high count (Some last) p = (nat_eq high unlimited || nat_lt count high) && not (nat_eq last p)

-- a loop from its least count on; fuel bounds the bodies that can still be tried, each of which but the last moves on
abbrev pub more : Subject → Order → ℕ → Body → ℕ → ℕ → Option ℕ → Body
more s o high body zero count last p m = here p m
more s o high body (suc fuel) count last p m =
    ordered o
    (cond (may_repeat high count last p)
    (flat_map (λ w. more s o high body fuel (count + 1) (Some p) w.stop w.marks) (within s p (body p m))) []) (here p m)

-- the bodies that are owed below the least count, and then the rest
abbrev pub least : Subject → Body → Body → ℕ → Body
least s body rest zero p m = rest p m
least s body rest (suc owed) p m = flat_map (λ w. least s body rest owed w.stop w.marks) (within s p (body p m))

abbrev pub loop_ways : Subject → Order → ℕ → ℕ → Body → Body
loop_ways s o low high body = least s body (λ p m. more s o high body (s.end + 1 - p) low None p m) low

-- a possessive loop from its least count on: the first way of each body, as long as there is one
abbrev pub possessive_more : Subject → ℕ → Body → ℕ → ℕ → Option ℕ → Body
possessive_more s high body zero count last p m = here p m
possessive_more s high body (suc fuel) count last p m =
    elim (cond (may_repeat high count last p) (first (within s p (body p m))) []) [
      | [] ↦ here p m
      | (w ∷ _) ↦ possessive_more s high body fuel (count + 1) (Some p) w.stop w.marks
    ]

abbrev pub possessive_ways : Subject → ℕ → ℕ → Body → Body
possessive_ways s low high body =
    least s (λ p m. first (within s p (body p m))) (λ p m. possessive_more s high body (s.end + 1 - p) low None p m) low

-- a look goes on where it began: a positive one with the marks of its body's first way, a negative one with its own
abbrev pub look_ways : Sign → ℕ → Body → Body
look_ways Positive back body p m =
    cond (nat_lt p back) [] (map (λ w. record { stop = p; marks = w.marks }) (first (body (p - back) m)))
look_ways Negative back body p m =
    cond (nat_lt p back) (here p m) (elim (body (p - back) m) [ [] ↦ here p m | (w ∷ _) ↦ [] ])

abbrev pub reference_ways : Subject → Fold → ℕ → Body
reference_ways s f g p m = elim (group m g) [
  | None ↦ []
  | (Some span) ↦
      cond (nat_le (p + (span.1 - span.0)) s.end && same_folded s f (span.1 - span.0) span.0 p)
      (here (p + (span.1 - span.0)) m) []
]

abbrev mutual
  -- the ways of a tree
  pub ways : Subject → Tree → Body
  ways s Empty p m = here p m
  ways s (Then item rest) p m = flat_map (λ w. ways s rest w.stop w.marks) (item_ways s item p m)

  pub item_ways : Subject → Item → Body
  item_ways s Fail p m = []
  item_ways s (One t) p m = cond (passes s t p) (here (p + 1) m) []
  item_ways s (At a) p m = cond (holds_at s a p) (here p m) []
  item_ways s (Mark n) p m = here p (set_mark m n p)
  item_ways s (Branch ts) p m = branch_ways s ts p m
  item_ways s (Loop o low high body) p m = loop_ways s o low high (λ q k. ways s body q k) p m
  item_ways s (Run kind low high t) p m = run_ways s kind low high t p m
  item_ways s (PossessiveLoop low high body) p m = possessive_ways s low high (λ q k. ways s body q k) p m
  item_ways s (Atomic body) p m = first (ways s body p m)
  item_ways s (Look sign back body) p m = look_ways sign back (λ q k. ways s body q k) p m
  item_ways s (Reference f g) p m = reference_ways s f g p m
  item_ways s (Exists g there) p m = elim (group m g) [ None ↦ here p m | (Some _) ↦ ways s there p m ]
  item_ways s (ExistsElse g there absent) p m =
      elim (group m g) [ None ↦ ways s absent p m | (Some _) ↦ ways s there p m ]

  pub branch_ways : Subject → Trees → Body
  branch_ways s (Only t) p m = ways s t p m
  branch_ways s (Or t ts) p m = ways s t p m ++ branch_ways s ts p m
