-- Patterns that serve a purpose for the parts of a tree, combined to one that serves it for the tree.
use Rattle.sre_patterns.proofs.Terms.{◌≡◌, ℕ, ◌≤◌, ◌<◌, Bool, List, Option, Some, None, sym, ◌∙◌, subst, Re, look}
use Rattle.sre_patterns.proofs.Terms.{IsMinLen, Look, Table, SreAtCode, SreOpcode, Tree, Test, Order, RunKind, Opcode}
use Rattle.sre_patterns.proofs.Terms.{Subject, Body, unlimited, item_ways, View, CoversBody, ExactBody, Rises, AreKept}
use Rattle.sre_patterns.proofs.Terms.{repeated, kind_of, Purpose, view_of, position_in, ServesBody, look_for}
use Rattle.sre_patterns.proofs.Terms.{OnlyCovers}
use Rattle.sre_model.specs.Tree.{One, At, Run}
use Rattle.sre_model.specs.Roles.{role, ToRun}
use Rattle.sre_patterns.proofs.Composed.{Composes, covers-parts, covers-wider, covers-run, covers-loop}
use Rattle.sre_patterns.proofs.Edges.{covers-look_of}
use Rattle.sre_patterns.proofs.ExactTrees.{exact-parts, exact-run, exact-loop, exact-at}
use Rattle.sre_patterns.specs.declared.encoding.Encoding.{Encoding}
use Rattle.sre_patterns.specs.Purposes.{ServesFor, Replaces, WhenInOrder, RunsSo, LoopsSo}
use Rattle.sre_patterns.proofs.Items.{loop_of, end_of}
use Rattle.sre_patterns.proofs.SidesSeen.{sided, alike}
use Rattle.sre_patterns.specs.declared.task.Purpose.TheVariants as purpose

module _ (V : View) (table : Table) where
  pub serves-parts : (u : Purpose) → Composes (ServesBody u V table)
  serves-parts purpose.InOrder = exact-parts V table
  serves-parts u = covers-parts V table

  pub replaced : (u : Purpose) (a b : Re) (body : Subject → Body) → Replaces u a b → ServesBody u V table a body
      → ServesBody u V table b body
  replaced purpose.InOrder a b body same = subst (λ z. ExactBody V table z body) same
  replaced u a b body wider = covers-wider V table a b body wider

  -- where nothing is tried in order, to cover is enough
  pub covered : (u : Purpose) (re : Re) (body : Subject → Body) → OnlyCovers u → ServesBody u V table re body
      → CoversBody V table re body
  covered purpose.InOrder re body only f = absurd only
  covered u re body only f = f

  pub serves-covered : (u : Purpose) (re : Re) (body : Subject → Body) → OnlyCovers u → CoversBody V table re body
      → ServesBody u V table re body
  serves-covered purpose.InOrder re body only f = absurd only
  serves-covered u re body only f = f

  module _ (rises : Rises V) (kept low high : ℕ) (few : kept < unlimited) (greedy : Bool) (re : Re) where
    pub serves-run : (u : Purpose) (o : SreOpcode) (kind : RunKind) (t : Test) → role o ≡ ToRun kind → low ≤ high
        → WhenInOrder u (low ≤ high → AreKept kept low high) → WhenInOrder u (RunsSo o greedy)
        → ServesBody u V table re (λ s. item_ways s (One t))
        → ServesBody u V table (repeated kept low high greedy re) (λ s. item_ways s (Run kind low high t))
    serves-run purpose.InOrder o kind t is l allowed so f =
        let e : ToRun kind ≡ ToRun (kind_of so.0) = sym is ∙ so.1 in
        let same : kind ≡ kind_of so.0 = cc in
        rw (same, ← so.2) (exact-run V table rises kept few low high (allowed l) so.0 re t f)
    serves-run u o kind t is l allowed so f = covers-run V table kept low high greedy re few kind t f

    pub serves-loop : (u : Purpose) (ws : List ℕ) (until : ℕ) (k : Option Order) (body : Tree)
        → Opcode ws until (end_of k) → low ≤ high → WhenInOrder u (low ≤ high → AreKept kept low high)
        → WhenInOrder u (LoopsSo ws until greedy) → WhenInOrder u (IsMinLen re 1) → ServesFor u V table re body
        → ServesBody u V table (repeated kept low high greedy re) (λ s. item_ways s (loop_of k low high body))
    serves-loop purpose.InOrder ws until (Some o) body w l allowed so least f =
        rw (← so.order o w) (exact-loop V table rises kept few low high (allowed l) o re body least f)
    serves-loop purpose.InOrder ws until None body w l allowed so least f = absurd (so.reenters w)
    serves-loop u ws until k body w l allowed so least f = covers-loop V table kept low high greedy re few k body f

pub serves-look : (u : Purpose) (e : Encoding) (table : Table) (a : SreAtCode) (l : Look)
    → look_for u (position_in e a) ≡ Some l → ServesBody u (view_of e) table (look l) (λ s. item_ways s (At a))
serves-look purpose.InOrder e table a =
    exact-at (view_of e) table (sided e) (position_in e a) a (alike e a)
serves-look u e table a =
    covers-look_of (view_of e) table (sided e) (position_in e a) a (alike e a)
