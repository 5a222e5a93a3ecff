-- In bytecode whose steps are counted a run begins at a settled configuration.
-- That the step bound suffices (`enough` of sre_engine) rests on this.
use Rattle.sre_turns.proofs.Terms.{ℕ, ◌*◌, ◌≤◌, List, [], Tree, Marks, WholeItems, ReadsBehind, AreWords, Subject}
use Rattle.sre_turns.proofs.Terms.{Instruction, spot_at, Settled, ◌≡◌, zero, suc, ◌-◌, inr, length, refl, subst, arith}
use Rattle.sre_turns.proofs.Terms.{Empty, Then, behind_items, Reads, LiesIn, Lies, read_tree}
use Rattle.sre_turns.proofs.bound.NestedMoves.{begins}

-- A run begins at a configuration in the bytecode of its tree, also after leading literals.

-- the place behind some items lies there
after_items : (ws : List ℕ) (i j : ℕ) (t : Tree) (r : Reads ws i j t) (js : List ℕ) (n : ℕ)
    → (k : ℕ) × Reads ws k j (behind_items n t) × LiesIn ws i j t r js (Instruction k) js
after_items ws i j t r js zero = (i, r, begins ws i j t r js)
after_items ws i j Empty r js (suc n) = (j, refl, (refl, refl))
after_items ws i j (Then x rest) r js (suc n) =
    let a = after_items ws r.0 j rest r.2 js n in
    (a.0, a.1, inr (inr a.2))

-- a tree's words are so many, so where they end tells where they begin
same_start : (ws : List ℕ) (i k j : ℕ) (t : Tree) → AreWords ws → j ≤ length ws → Reads ws i j t → Reads ws k j t
    → i ≡ k
same_start ws i k j t v l r q =
    omega (arith, (read_tree t ws i j v r l).ends, (read_tree t ws k j v q l).ends)

pub lies_behind : (ws : List ℕ) (t : Tree) (w : WholeItems ws t) (n p : ℕ) (m : Marks) → AreWords ws
    → ReadsBehind ws n t → Lies ws t w (spot_at (Instruction (2 * n)) [] p m)
lies_behind ws t w n p m v r =
    let a = after_items ws 0 (length ws - 1) t w.0 [] n in
    let e : a.0 ≡ 2 * n = same_start ws a.0 (2 * n) (length ws - 1) (behind_items n t) v (omega arith) a.1 r in
    subst (λ k. LiesIn ws 0 (length ws - 1) t w.0 [] (Instruction k) []) e a.2

-- where a run begins
pub settled_behind : (ws : List ℕ) (s : Subject) (t : Tree) (w : WholeItems ws t) (start n p : ℕ) (m : Marks)
    → AreWords ws → ReadsBehind ws n t → start ≤ p → p ≤ s.end
    → Settled ws s t w start (spot_at (Instruction (2 * n)) [] p m)
settled_behind ws s t w start n p m v r l k =
    record { lies = lies_behind ws t w n p m v r; passed = tt; inside = k; from = l }
