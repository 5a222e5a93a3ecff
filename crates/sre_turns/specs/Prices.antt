-- Prices: how many steps follow at most from a configuration up to the next instruction that may branch; and credits:
-- what such an instruction is given each time that it is executed, which pays for each of its ways to go on (amortized
-- analysis).
-- For the law that the step bound suffices. What sre_engine makes public does not rest on it.
use Rattle.std.specs.Prelude.{ℕ, suc, ◌+◌, ◌-◌, ◌*◌, ◌≤◌, ◌≡◌, Bool, true, List, [], ◌∷◌, length, cond, min, nat_eq}
use Rattle.std.specs.Prelude.{zero, max}
use Rattle.sre_turns.specs.Terms.{SreOpcode, opcode_at, GreedyRun, LazyRun, PossessiveRun, word, skip, unlimited, Role}
use Rattle.sre_turns.specs.Terms.{role, other_ends, scan_price, TestKind}
use Rattle.sre_model.specs.Roles.{ToEnd, ToTest, ToCheckPosition, ToMark, ToBranch, ToJump, ToRun, ToRepeat, ToLoop}
use Rattle.sre_model.specs.Roles.{ToRepeatPossessively, ToGroupAtomically, ToLook, ToRefer, ToCheckGroup, OfAny}
use Rattle.sre_model.specs.Roles.{OfAnyAll, OfCategory, OfLiteral, OfNotLiteral, OfSet}
use Rattle.sre_turns.specs.declared.Point.TheVariants.{Instruction, Alternatives, Shorter, Longer, Again}
use Rattle.sre_turns.specs.declared.Point.{Point}
use Rattle.sre_turns.specs.declared.Region.{Region}
use Rattle.sre_turns.specs.declared.Region.TheVariants.{AtomicGroup, Ahead, NotAhead, Owed, Further}
use Rattle.sre_turns.specs.Moves.{Spot, Move, Stop, End, Go, Split, Enter}

-- the role of the opcode whose number is a word
abbrev pub role_at : List ℕ → ℕ → Role
role_at ws i = role (opcode_at ws i)

-- where a test of a kind ends that is at i
abbrev pub test_end : List ℕ → ℕ → TestKind → ℕ
test_end ws i OfAny = i + 1
test_end ws i OfAnyAll = i + 1
test_end ws i OfCategory = i + 2
test_end ws i OfLiteral = i + 2
test_end ws i OfNotLiteral = i + 2
test_end ws i OfSet = skip ws (i + 1)

-- the steps from an instruction at i, by those from each address behind it. One that may branch takes a step, and no
-- more are counted; an end may be refused by one more step; an atomic scope is entered, and left for what is behind it
abbrev pub steps_by : List ℕ → (ℕ → ℕ) → ℕ → Role → ℕ
steps_by ws later i ToEnd = 2
steps_by ws later i (ToTest kind) = 1 + later (test_end ws i kind)
steps_by ws later i ToCheckPosition = 1 + later (i + 2)
steps_by ws later i ToMark = 1 + later (i + 2)
steps_by ws later i ToJump = 1 + later (skip ws (i + 1))
steps_by ws later i ToGroupAtomically = 2 + later (i + 2) + later (skip ws (i + 1))
steps_by ws later i (ToLook sign) = 2 + later (i + 3) + later (skip ws (i + 1))
steps_by ws later i ToRefer = 1 + later (i + 2)
steps_by ws later i ToCheckGroup = 1 + max (later (i + 3)) (later (i + 1 + word ws (i + 2)))
steps_by ws later i f = 1

-- the same, within so many words
unfoldable pub steps_in : List ℕ → ℕ → ℕ → ℕ
steps_in ws zero i = 1
steps_in ws (suc n) i = steps_by ws (λ (j : ℕ). steps_in ws n j) i (role_at ws i)

-- how many steps follow from an address up to the next instruction that may branch
abbrev pub steps : List ℕ → ℕ → ℕ
steps ws i = steps_in ws (length ws - i) i

-- the steps of the alternatives from q on, if they have n words: each takes the step that splits it off, and one by
-- which the next is taken
unfoldable pub branch_in : List ℕ → ℕ → ℕ → ℕ
branch_in ws zero q = 1
branch_in ws (suc n) q = cond (nat_eq (word ws q) 0) 1 (steps ws (q + 1) + 2 + branch_in ws n (q + word ws q))

abbrev pub branch_price : List ℕ → ℕ → ℕ
branch_price ws q = branch_in ws (length ws - q) q

-- each end of a repeat at i costs the steps from its tail, and two more
abbrev pub end_price : List ℕ → ℕ → ℕ
end_price ws i = steps ws (skip ws (i + 1)) + 2

-- how many ends the repeat has at most beside one, in a range that ends at e
abbrev pub ends_beside : List ℕ → ℕ → ℕ → ℕ
ends_beside ws e i = cond (nat_eq (word ws (i + 3)) unlimited) e (min (word ws (i + 3)) e) - word ws (i + 2)

-- how many more it may have at p, behind n characters of it
abbrev pub more_ends : List ℕ → ℕ → ℕ → ℕ → ℕ → ℕ
more_ends ws e i n p = cond (nat_eq (word ws (i + 3)) unlimited) (e - p) (min (word ws (i + 3)) e - n)

-- the price of a point and a position
abbrev pub price : List ℕ → ℕ → Point → ℕ → ℕ
price ws e (Instruction i) p = steps ws i
price ws e (Alternatives q) p = branch_price ws q
price ws e (Shorter t k) p = k * (steps ws t + 2) + 1
price ws e (Longer i n) p = more_ends ws e i n p * end_price ws i + 1
price ws e Again p = 1
price ws e pt p = 0

abbrev pub price_of : List ℕ → ℕ → Spot → ℕ
price_of ws e x = price ws e x.point x.position

-- what a loop costs at its end, which is at u: its body, what is behind it, and a step
abbrev pub loop_toll : List ℕ → List ℕ → ℕ → ℕ
loop_toll ws [] u = 0
loop_toll ws (q ∷ ks) u = steps ws (q + 4) + steps ws (u + 1) + 1

-- what an instruction of a role costs beyond its price when it is executed once, under loops at those addresses. A loop
-- may be begun and continued at its end in one step: so its begin pays for its end once
abbrev pub toll_by : List ℕ → ℕ → ℕ → List ℕ → Role → ℕ
toll_by ws e i ks ToBranch = branch_price ws (i + 1)
toll_by ws e i ks (ToRun GreedyRun) = (1 + ends_beside ws e i) * end_price ws i
toll_by ws e i ks (ToRun LazyRun) = (1 + ends_beside ws e i) * end_price ws i
toll_by ws e i ks (ToRun PossessiveRun) = steps ws (skip ws (i + 1))
toll_by ws e i ks ToRepeat = steps ws (skip ws (i + 1)) + loop_toll ws (i ∷ ks) (skip ws (i + 1))
toll_by ws e i ks (ToLoop o) = loop_toll ws ks i
toll_by ws e i ks ToRepeatPossessively = 1
toll_by ws e i ks _ = 0

-- the same for a possessive loop before a body
abbrev pub again_toll : List ℕ → List ℕ → ℕ
again_toll ws [] = 0
again_toll ws (q ∷ ks) = loop_toll ws (q ∷ ks) (skip ws (q + 1))

-- and for any point
abbrev pub toll : List ℕ → ℕ → SreOpcode → Point → List ℕ → ℕ
toll ws e o (Instruction i) ks = toll_by ws e i ks (role o)
toll ws e o Again ks = again_toll ws ks
toll ws e o pt ks = 0

-- what a repeat of one character is charged for its scan, beside its steps
abbrev pub scan_by : List ℕ → ℕ → ℕ → Role → ℕ
scan_by ws e i (ToRun kind) = scan_price e (word ws (i + 2)) (word ws (i + 3))
scan_by ws e i f = 0

-- and any point
abbrev pub scan_toll : List ℕ → ℕ → Point → ℕ
scan_toll ws e (Instruction i) = scan_by ws e i (role_at ws i)
scan_toll ws e pt = 0

-- what a memoized failure pays for at an instruction of a role. A repeat pays for its scan, too. One without a greatest
-- count is split: one bit pays for its first end, and for the same repeat one character later
abbrev pub bit_by : List ℕ → ℕ → ℕ → List ℕ → Role → ℕ
bit_by ws e i ks (ToRun GreedyRun) =
    (1 + other_ends e (word ws (i + 2)) (word ws (i + 3))) * end_price ws i + scan_by ws e i (ToRun GreedyRun)
bit_by ws e i ks (ToRun LazyRun) =
    (1 + other_ends e (word ws (i + 2)) (word ws (i + 3))) * end_price ws i + scan_by ws e i (ToRun LazyRun)
bit_by ws e i ks (ToRun PossessiveRun) = end_price ws i + scan_by ws e i (ToRun PossessiveRun)
bit_by ws e i ks f = toll_by ws e i ks f

-- and for any point
abbrev pub bit_toll : List ℕ → ℕ → Point → List ℕ → ℕ
bit_toll ws e (Instruction i) ks = bit_by ws e i ks (role_at ws i)
bit_toll ws e Again ks = again_toll ws ks
bit_toll ws e pt ks = 0

abbrev pub split_by : List ℕ → ℕ → Role → ℕ
split_by ws i (ToRun kind) = end_price ws i
split_by ws i _ = 0

-- the credits for a repeat without a greatest count that is split
abbrev pub split_toll : List ℕ → Point → ℕ
split_toll ws (Instruction i) = split_by ws i (role_at ws i)
split_toll ws pt = 0

-- what is put aside where an atomic scope is entered: for what is behind it, and the step to come there
abbrev pub aside : List ℕ → Region → ℕ
aside ws (AtomicGroup t) = steps ws t + 1
aside ws (Ahead t) = steps ws t + 1
aside ws (NotAhead t) = steps ws t + 1
aside ws Owed = 2
aside ws (Further t) = steps ws t + 1

-- so much is enough for a step, and for what the step leads to; and a scope is entered only where one may be
abbrev pub Covers : Bool → List ℕ → ℕ → ℕ → Move → Type 0
Covers may_enter ws e n Stop = 1 ≤ n
Covers may_enter ws e n End = 2 ≤ n
Covers may_enter ws e n (Go y) = price_of ws e y + 1 ≤ n
Covers may_enter ws e n (Split y z) = price_of ws e y + price_of ws e z + 2 ≤ n
Covers may_enter ws e n (Enter g y z) = (may_enter ≡ true) × (price_of ws e z + aside ws g + 1 ≤ n)
