-- An address of a tree's bytecode always has the same point, in the same loops, which have at most as many states as
-- the tree says.
-- That the step bound suffices (`enough` of sre_engine) rests on this.
use Rattle.sre_turns.proofs.Terms.{◌≡◌, ℕ, ◌+◌, ◌-◌, ◌<◌, ◌≤◌, ◌⊎◌, inl, inr, List, [], ◌∷◌, length, refl, true, false}
use Rattle.sre_turns.proofs.Terms.{ap, Option, Some, None, sym, ◌∙◌, subst, arith, true≢false, Tree, Empty, Then, Item}
use Rattle.sre_turns.proofs.Terms.{Trees, Only, Or, word, skip, Reads, Operands, ReadsBranch, WholeItems, reads_within}
use Rattle.sre_turns.proofs.Terms.{Alternatives, Shorter, Longer, Again, least_from, Point, Spot, repeats, IsAt, LiesIn}
use Rattle.sre_turns.proofs.Terms.{LiesInItem, LiesInBranch, Lies, place_under, place_of, Instruction, operands_past}
use Rattle.sre_turns.proofs.Terms.{is_again, ◌*◌, Word, word_of, counted_to, slots, of_tree, of_parts, of_item, max}
use Rattle.sre_turns.proofs.Terms.{mul_assoc, mul_left_comm, mul-le-mul_left, one-le-mul, le-max_left, le-max_right}
use Rattle.sre_turns.proofs.Terms.{mul-one, loop_slots, most_slots, by_slots}
use Rattle.sre_model.specs.Tree.{Run, Branch, Loop, PossessiveLoop, Atomic, Look, Exists, ExistsElse}
use Rattle.sre_turns.proofs.semantics.Parts.{Own, Ends, Law, lies_law, alternative, no_more, shorter, longer}
use Rattle.sre_turns.proofs.semantics.Parts.{possessive, with_item, jump, until, success, IsIn}
use Rattle.std.proofs.Math.Nat.{mul-le-mul_right}

-- of a point that is known
known_place : (at pt : Point) (js ks : List ℕ) (p : ℕ) → IsAt at js pt ks → place_under pt ks ≡ Some p
    → place_under at js ≡ Some p
known_place at pt js ks p y e =
    subst (λ l. place_under at l ≡ Some p) y.1 (subst (λ q. place_under q ks ≡ Some p) y.0 e)

pub same_number : {m n : ℕ} → ◌≡◌ {A = Option ℕ} (Some m) (Some n) → m ≡ n
same_number e = cc

place_is : (i p : ℕ) (pt : Point) (js ks : List ℕ) → IsAt (Instruction i) js pt ks → place_under pt ks ≡ Some p → p ≡ i
place_is i p pt js ks y e = sym (same_number (known_place (Instruction i) pt js ks p y e))

no_place : (at pt : Point) (js ks : List ℕ) (p : ℕ) → place_under at js ≡ None → IsAt at js pt ks
    → place_under pt ks ≡ Some p → ⊥
no_place at pt js ks p none y e =
    let never : ◌≡◌ {A = Option ℕ} None (Some p) = sym none ∙ known_place at pt js ks p y e in cc never

-- both are the same point
both_at : (at pt qt : Point) (js ks ls : List ℕ) → IsAt at js pt ks → IsAt at js qt ls → (pt ≡ qt) × (ks ≡ ls)
both_at at pt qt js ks ls y z = (y.0 ∙ sym z.0, y.1 ∙ sym z.1)

at_place : (i p : ℕ) (js : List ℕ) (pt : Point) (ks : List ℕ) → p ≡ i → IsAt (Instruction i) js pt ks
    → IsAt (Instruction p) js pt ks
at_place i p js pt ks e y = subst (λ n. IsAt (Instruction n) js pt ks) (sym e) y

-- the address of a point within the words of a tree; at both ends an instruction stands, under the loops outside
record Edges (i j : ℕ) (js : List ℕ) (p : ℕ) (pt : Point) (ks : List ℕ) : Type 0 where
  from : i ≤ p
  to : p ≤ j
  first : p ≡ i → IsAt (Instruction p) js pt ks
  last : p ≡ j → IsAt (Instruction p) js pt ks

inner : (i j p : ℕ) (js : List ℕ) (pt : Point) (ks : List ℕ) → i < p → p < j → Edges i j js p pt ks
inner i j p js pt ks l m = record {
  from = omega arith;
  to = omega arith;
  first = λ e. absurd (omega arith);
  last = λ e. absurd (omega arith);
}

module _ (ws : List ℕ) (p : ℕ) where
  abbrev Within : (i j : ℕ) (t : Tree) → Reads ws i j t → List ℕ → Point → List ℕ → Type 0
  Within i j t r js pt ks = place_under pt ks ≡ Some p → Edges i j js p pt ks

  at_edge : (i j q : ℕ) (js : List ℕ) → i ≤ q → q ≤ j → ◌≡◌ {A = Option ℕ} (Some q) (Some p)
      → Edges i j js p (Instruction q) js
  at_edge i j q js l m h =
      let e : q ≡ p = same_number h in
      let at : IsAt (Instruction p) js (Instruction q) js = (ap (λ n. Instruction n) e, refl) in
      record { from = omega (arith, e); to = omega (arith, e); first = λ _. at; last = λ _. at }

  -- of its own points an item has an address at a possessive loop alone
  own_edges : {i j : ℕ} {js : List ℕ} {x : Item} {r : Operands ws i j x} {pt : Point} {ks : List ℕ}
      → Own ws i j js x r pt ks → place_under pt ks ≡ Some p → (i < p) × (p < j)
  own_edges {i = i} (possessive {body = body} {r = r}) h =
      let e : i + 1 ≡ p = same_number h in
      let within = reads_within body ws (i + 4) (skip ws (i + 1)) r.3 in
      (omega (arith, e), omega (arith, e, within, r.5))
  own_edges (alternative q y z) h = absurd (cc h)
  own_edges (no_more q w) h = absurd (cc h)
  own_edges (shorter k) h = absurd (cc h)
  own_edges (longer n) h = absurd (cc h)

  -- in a part of an item that is before the item's end, or at it
  part_edges : {i j : ℕ} {js : List ℕ} {x : Item} {a b : ℕ} {t : Tree} {ls : List ℕ} {pt : Point} {ks : List ℕ}
      → Ends ws i j js x a b t ls → i < a → Edges a b ls p pt ks
      → (p ≤ j) × (p ≡ j → IsAt (Instruction p) js pt ks)
  part_edges with_item l b = (b.to, b.last)
  part_edges (jump w) l b = (omega (arith, b.to, w.1), λ e. absurd (omega (arith, b.to, w.1)))
  part_edges (until m h w next) l b = (omega (arith, b.to, next), λ e. absurd (omega (arith, b.to, next)))
  part_edges (success w last) l b =
      (omega (arith, b.to, last), λ e. absurd (omega (arith, b.from, b.to, last, l)))

  within : Law ws Within
  within = record {
    end = λ i j r js h. at_edge i j j js (omega (arith, r)) (omega arith) h;
    first = λ i j x rest r js h.
        at_edge i j i js (omega arith)
        (omega (arith, operands_past x ws i r.0 r.1.1, reads_within rest ws r.0 j r.2)) h;
    own = λ i j x rest r js pt ks o h.
        let b = own_edges o h in
        inner i j p js pt ks b.0 (omega (arith, b.1, reads_within rest ws r.0 j r.2));
    rest = λ i j x rest r js pt ks y k h.
        let b = k h in
        let past = operands_past x ws i r.0 r.1.1 in
        record {
          from = omega (arith, b.from);
          to = b.to;
          first = λ e. absurd (omega (arith, b.from));
          last = b.last;
        };
    part = λ i j x rest r js a b t s ls part pt ks y k h.
        let inside = k h in
        let d = part_edges part.1 part.0 inside in
        let behind = reads_within rest ws r.0 j r.2 in
        record {
          from = omega (arith, inside.from, part.0);
          to = omega (arith, d.0);
          first = λ e. absurd (omega (arith, inside.from, part.0));
          last = λ e. d.1 (omega (arith, d.0));
        };
  }

  edges : (i j : ℕ) (t : Tree) (r : Reads ws i j t) (js : List ℕ) (pt : Point) (ks : List ℕ)
      → place_under pt ks ≡ Some p → LiesIn ws i j t r js pt ks → Edges i j js p pt ks
  edges i j t r js pt ks h y = lies_law ws Within within i j t r js pt ks y h

  -- points behind the first word of alternatives
  among : (q j : ℕ) (ts : Trees) (r : ReadsBranch ws q j ts) (js : List ℕ) (pt : Point) (ks : List ℕ)
      → place_under pt ks ≡ Some p → LiesInBranch ws q j ts r js pt ks → q < p
  among q j (Only t) r js pt ks h (inl y) = absurd (no_place (Alternatives q) pt js ks p refl y h)
  among q j (Only t) r js pt ks h (inr (inl y)) =
      omega (arith, (edges (q + 1) (skip ws q - 2) t r.0 js pt ks h y).from)
  among q j (Only t) r js pt ks h (inr (inr y)) = absurd (no_place (Alternatives (skip ws q)) pt js ks p refl y h)
  among q j (Or t ts) r js pt ks h (inl y) = absurd (no_place (Alternatives q) pt js ks p refl y h)
  among q j (Or t ts) r js pt ks h (inr (inl y)) =
      omega (arith, (edges (q + 1) (skip ws q - 2) t r.0 js pt ks h y).from)
  among q j (Or t ts) r js pt ks h (inr (inr y)) = omega (arith, among (skip ws q) j ts r.2 js pt ks h y)

  abbrev Same : Point → List ℕ → Point → List ℕ → Type 0
  Same pt ks qt ls = (pt ≡ qt) × (ks ≡ ls)

  -- two points of that address, of which one is such, and the other such
  abbrev Agree : (Point → List ℕ → Type 0) → (Point → List ℕ → Type 0) → Type 0
  Agree C D =
      (pt : Point) (ks : List ℕ) → place_under pt ks ≡ Some p → C pt ks → (qt : Point) (ls : List ℕ)
      → place_under qt ls ≡ Some p → D qt ls → Same pt ks qt ls

  -- where those of two kinds are the same, and those of one and the other
  either : {C D : Point → List ℕ → Type 0} → Agree C C → Agree D D → Agree C D
      → Agree (λ pt ks. C pt ks ⊎ D pt ks) (λ pt ks. C pt ks ⊎ D pt ks)
  either c d b pt ks h (inl y) qt ls k (inl z) = c pt ks h y qt ls k z
  either c d b pt ks h (inl y) qt ls k (inr z) = b pt ks h y qt ls k z
  either c d b pt ks h (inr y) qt ls k (inl z) = let e = b qt ls k z pt ks h y in (sym e.0, sym e.1)
  either c d b pt ks h (inr y) qt ls k (inr z) = d pt ks h y qt ls k z

  one : (at : Point) (js : List ℕ) → Agree (IsAt at js) (IsAt at js)
  one at js pt ks h y qt ls k z = both_at at pt qt js ks ls y z

  -- where no point of a kind has an address
  never : {C : Point → List ℕ → Type 0} → ((pt : Point) (ks : List ℕ) → place_under pt ks ≡ Some p → C pt ks → ⊥)
      → (D : Point → List ℕ → Type 0) → Agree C D
  never none D pt ks h y qt ls k z = absurd (none pt ks h y)

  no_alternative : (q : ℕ) (js : List ℕ) (pt : Point) (ks : List ℕ) → place_under pt ks ≡ Some p
      → IsAt (Alternatives q) js pt ks → ⊥
  no_alternative q js pt ks h y = no_place (Alternatives q) pt js ks p refl y h

  mutual
    same_in : (i j : ℕ) (t : Tree) (r : Reads ws i j t) (js : List ℕ)
        → Agree (LiesIn ws i j t r js) (LiesIn ws i j t r js)
    same_in i j Empty r js = one (Instruction j) js
    same_in i j (Then x rest) r js =
        either (one (Instruction i) js)
        (either (same_inside i r.0 x r.1.1 js) (same_in r.0 j rest r.2 js)
        (λ pt ks h y qt ls k z.
        let b = edges i r.0 (Then x Empty) (r.0, r.1, refl) js pt ks h (inr (inl y)) in
        let c = edges r.0 j rest r.2 js qt ls k z in
        both_at (Instruction p) pt qt js ks ls (b.last (omega (arith, b.to, c.from)))
        (c.first (omega (arith, b.to, c.from)))))
        (λ pt ks h y qt ls k z.
        let e = place_is i p pt js ks y h in
        both_at (Instruction p) pt qt js ks ls (at_place i p js pt ks e y)
        ((edges i j (Then x rest) r js qt ls k (inr z)).first e))

    same_inside : (i j : ℕ) (x : Item) (r : Operands ws i j x) (js : List ℕ)
        → Agree (LiesInItem ws i j x r js) (LiesInItem ws i j x r js)
    same_inside i j (Branch ts) r js = same_among (i + 1) j ts r js
    same_inside i j (Loop o low high body) r js = same_in (i + 4) (skip ws (i + 1)) body r.3 (i ∷ js)
    same_inside i j (Run kind low high t) r js =
        never (λ pt ks h y. elim y [
          | inl z ↦ no_place (Shorter j z.0) pt js ks p refl z.1 h
          | inr z ↦ no_place (Longer i z.0) pt js ks p refl z.1 h
        ]) (LiesInItem ws i j (Run kind low high t) r js)
    same_inside i j (PossessiveLoop low high body) r js =
        either (one Again (i ∷ js)) (same_in (i + 4) (skip ws (i + 1)) body r.3 [])
        (λ pt ks h y qt ls k z.
        let e : i + 1 ≡ p = same_number (known_place Again pt (i ∷ js) ks p y h) in
        let b = edges (i + 4) (skip ws (i + 1)) body r.3 [] qt ls k z in
        absurd (omega (arith, e, b.from)))
    same_inside i j (Atomic body) r js = same_in (i + 2) (j - 1) body r.1 []
    same_inside i j (Look sign back body) r js = same_in (i + 3) (j - 1) body r.2 []
    same_inside i j (Exists g a) r js = same_in (i + 3) j a r.2 js
    same_inside i j (ExistsElse g a c) r js =
        let u : ℕ = i + 1 + word ws (i + 2) in
        either (same_in (i + 3) (u - 2) a r.1 js) (same_in u j c r.3 js)
        (λ pt ks h y qt ls k z.
        let b = edges (i + 3) (u - 2) a r.1 js pt ks h y in
        let d = edges u j c r.3 js qt ls k z in
        absurd (omega (arith, b.from, b.to, d.from)))
    same_inside i j x r js = λ pt ks h y qt ls k z. absurd y

    same_among : (q j : ℕ) (ts : Trees) (r : ReadsBranch ws q j ts) (js : List ℕ)
        → Agree (LiesInBranch ws q j ts r js) (LiesInBranch ws q j ts r js)
    same_among q j (Only t) r js =
        either (one (Alternatives q) js)
        (either (same_in (q + 1) (skip ws q - 2) t r.0 js) (one (Alternatives (skip ws q)) js)
        (λ pt ks h y qt ls k z. absurd (no_alternative (skip ws q) js qt ls k z)))
        (never (no_alternative q js) _)
    same_among q j (Or t ts) r js =
        either (one (Alternatives q) js)
        (either (same_in (q + 1) (skip ws q - 2) t r.0 js) (same_among (skip ws q) j ts r.2 js)
        (λ pt ks h y qt ls k z.
        let b = edges (q + 1) (skip ws q - 2) t r.0 js pt ks h y in
        let d = among (skip ws q) j ts r.2 js qt ls k z in
        absurd (omega (arith, b.to, d))))
        (never (no_alternative q js) _)

-- so two configurations of one address stand at the same point, under the same loops
pub same_station : (ws : List ℕ) (t : Tree) (w : WholeItems ws t) (p : ℕ) (x y : Spot)
    → place_of x ≡ Some p → place_of y ≡ Some p → Lies ws t w x → Lies ws t w y
    → (x.point ≡ y.point) × (repeats x.frames ≡ repeats y.frames)
same_station ws t w p x y h k a b =
    same_in ws p 0 (length ws - 1) t w.0 [] x.point (repeats x.frames) h a y.point (repeats y.frames) k b

-- points of one address, of which both are possessive loops or none is
none_there : (p : ℕ) → ◌≡◌ {A = Option ℕ} None (Some p) → ⊥
none_there p e = cc e

pub same_point : (pt qt : Point) (ks ls : List ℕ) (p : ℕ) → place_under pt ks ≡ Some p → place_under qt ls ≡ Some p
    → is_again pt ≡ is_again qt → pt ≡ qt
same_point (Instruction i) qt ks ls p h k e = go qt k e
  where
    go : (qt : Point) → place_under qt ls ≡ Some p → false ≡ is_again qt → Instruction i ≡ qt
    go (Instruction j) k e = ap (λ n. Instruction n) (same_number (h ∙ sym k))
    go Again k e = absurd (true≢false (sym e))
    go pt k e = absurd (none_there p k)
same_point Again qt ks ls p h k e = go qt e
  where
    go : (qt : Point) → true ≡ is_again qt → Again ≡ qt
    go Again e = refl
    go pt e = absurd (true≢false e)
same_point pt qt ks ls p h k e = absurd (none_there p h)

-- nothing comes back before a point that has an address
pub placed_from : (pt : Point) (ks : List ℕ) (p q : ℕ) → place_under pt ks ≡ Some p → least_from pt q ≡ q
placed_from (Shorter t n) ks p q h = absurd (none_there p h)
placed_from pt ks p q h = refl

-- products
bounded_by : (a b j n : ℕ) → a ≤ b → n ≤ a * j → n ≤ b * j
bounded_by a b j n l h = omega (arith, mul-le-mul_right j l)

left_by : (a b j n : ℕ) → n ≤ a * j → n ≤ max a b * j
left_by a b j n h = bounded_by a (max a b) j n (le-max_left a b) h

right_by : (a b j n : ℕ) → n ≤ b * j → n ≤ max a b * j
right_by a b j n h = bounded_by b (max a b) j n (le-max_right a b) h

outside_by : (a j n : ℕ) → 1 ≤ j → n ≤ a * 1 → n ≤ a * j
outside_by a j n l h = omega (arith, mul-le-mul_left a l)

deeper_by : (b l j n : ℕ) → n ≤ b * (l * j) → n ≤ l * b * j
deeper_by b l j n h =
    let e : b * (l * j) ≡ l * b * j = mul_left_comm b l j ∙ sym (mul_assoc l b j) in
    omega (arith, e, h)

at_least : (a j n : ℕ) → 1 ≤ a → n ≡ j → n ≤ a * j
at_least a j n l e = omega (arith, mul-le-mul_right j l)

doubled : (n : ℕ) → 1 ≤ (n + 1) * 2
doubled n = omega arith

-- there is one state at least
loop_some : (low high : ℕ) → 1 ≤ loop_slots low high
loop_some low high = doubled (counted_to low high)

some_slots : (ws js : List ℕ) → 1 ≤ slots ws js
some_slots ws [] = omega arith
some_slots ws (q ∷ qs) = one-le-mul (loop_some (word ws (q + 2)) (word ws (q + 3))) (some_slots ws qs)

most_some : (t : Tree) → 1 ≤ most_slots t
most_some Empty = omega arith
most_some (Then x rest) = omega (arith, most_some rest, le-max_right (of_item by_slots x) (most_slots rest))

-- an item has what its parts have
item_slots : (x : Item) (n : ℕ) → n ≤ by_slots.item x n
item_slots (Loop o low high body) n = omega (arith, mul-le-mul_right n (loop_some low high))
item_slots (PossessiveLoop low high body) n = le-max_right (loop_slots low high) n
item_slots x n = omega arith

part_slots : (x : Item) (t : Tree) → IsIn (λ A f. of_parts f x) (λ A f. of_tree f t)
    → most_slots t ≤ of_item by_slots x
part_slots x t within =
    let all : ℕ = of_parts by_slots x in
    let inside : most_slots t ≤ all =
    within ℕ by_slots (λ n. n ≤ all) (λ a b h. omega (arith, le-max_left a b, h))
    (λ a b h. omega (arith, le-max_right a b, h)) (omega arith) in
    omega (arith, inside, item_slots x all)

module _ (ws : List ℕ) where
  -- a loop's own states
  own : (i low high : ℕ) → Word ws (i + 2) low → Word ws (i + 3) high
      → loop_slots (word ws (i + 2)) (word ws (i + 3)) ≡ loop_slots low high
  own i low high l h = rw (word_of ws (i + 2) low l, word_of ws (i + 3) high h) refl

  own_slots : {i j : ℕ} {js : List ℕ} {x : Item} {r : Operands ws i j x} {pt : Point} {ks : List ℕ} (rest : Tree)
      → Own ws i j js x r pt ks → slots ws ks ≤ most_slots (Then x rest) * slots ws js
  own_slots {i = i} {js = js} rest (possessive {low = low} {high = high} {body = body} {r = r}) =
      left_by (max (loop_slots low high) (most_slots body)) (most_slots rest) (slots ws js) (slots ws (i ∷ js))
      (left_by (loop_slots low high) (most_slots body) (slots ws js) (slots ws (i ∷ js))
      (omega (arith, ap (λ n. n * slots ws js) (own i low high r.0 r.1))))
  own_slots {js = js} {x = x} rest o =
      at_least (most_slots (Then x rest)) (slots ws js) (slots ws js) (most_some (Then x rest)) refl

  part_states : {i j : ℕ} {js : List ℕ} {x : Item} {a b : ℕ} {t : Tree} {ls : List ℕ} (n : ℕ)
      → Ends ws i j js x a b t ls → most_slots t ≤ of_item by_slots x → n ≤ most_slots t * slots ws ls
      → n ≤ of_item by_slots x * slots ws js
  part_states {i = i} {js = js} n (until {low = low} {high = high} {body = body} l h w e) few d =
      deeper_by (most_slots body) (loop_slots low high) (slots ws js) n (rw (← own i low high l h) d)
  part_states {js = js} {x = x} {t = t} n (success w e) few d =
      outside_by (of_item by_slots x) (slots ws js) n (some_slots ws js)
      (bounded_by (most_slots t) (of_item by_slots x) 1 n few d)
  part_states {js = js} {x = x} {t = t} n e few d =
      bounded_by (most_slots t) (of_item by_slots x) (slots ws js) n few d

  slots_in : Law ws (λ i j t r js pt ks. slots ws ks ≤ most_slots t * slots ws js)
  slots_in = record {
    end = λ i j r js. omega arith;
    first = λ i j x rest r js.
        at_least (most_slots (Then x rest)) (slots ws js) (slots ws js) (most_some (Then x rest)) refl;
    own = λ i j x rest r js pt ks o. own_slots rest o;
    rest = λ i j x rest r js pt ks y d.
        right_by (of_item by_slots x) (most_slots rest) (slots ws js) (slots ws ks) d;
    part = λ i j x rest r js a b t s ls p pt ks y d.
        left_by (of_item by_slots x) (most_slots rest) (slots ws js) (slots ws ks)
        (part_states (slots ws ks) p.1 (part_slots x t p.3) d);
  }

-- so wherever a spot lies
pub slots_within : (ws : List ℕ) (t : Tree) (w : WholeItems ws t) (x : Spot) → Lies ws t w x
    → slots ws (repeats x.frames) ≤ most_slots t
slots_within ws t w x y =
    let law = λ (i j : ℕ) (t : Tree) (r : Reads ws i j t) (js : List ℕ) (pt : Point) (ks : List ℕ).
    slots ws ks ≤ most_slots t * slots ws js in
    omega (
      arith,
      lies_law ws law (slots_in ws) 0 (length ws - 1) t w.0 [] x.point (repeats x.frames) y,
      mul-one (most_slots t),
    )
