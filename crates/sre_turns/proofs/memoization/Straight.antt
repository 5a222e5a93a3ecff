-- In a body that does not branch the machine has at most one way to go on at each point. An atomic scope that is
-- entered has a body, with what its tree has.
-- That the step bound suffices (`enough` of sre_engine) rests on this.
use Rattle.sre_turns.proofs.Terms.{◌≡◌, ℕ, ◌+◌, ◌-◌, ◌≤◌, Bool, true, false, List, [], ◌∷◌, refl, sym, ap, ◌∙◌, subst}
use Rattle.sre_turns.proofs.Terms.{arith, ⊤, or_parts, true≢false, or_left, or_right, SreOpcode, Tree, Item, Sign}
use Rattle.sre_turns.proofs.Terms.{Marks, group, Folding, of_tree, of_item, of_parts, skip, Opcode, Operands, ReadsItem}
use Rattle.sre_turns.proofs.Terms.{backs, forks, has_forked_region, Role, role, HasRole, item_role, item_here}
use Rattle.sre_turns.proofs.Terms.{same_opcode, same_word, Owed, Further, Region, Again, Point, Spot, Move, Enter}
use Rattle.sre_turns.proofs.Terms.{MovesAt, repeats, LiesIn, forking, BodyOf, IsBodyIn, Subject, Frame, Instruction}
use Rattle.sre_turns.proofs.Terms.{spot_at, by_backs, by_forks, by_forked_regions, paired, tree_paired, ForksAt}
use Rattle.sre_model.specs.Roles.{ToEnd}
use Rattle.sre_chars.specs.declared.constants.SreOpcode.TheVariants as opcode
use Rattle.sre_model.specs.Tree.{Run, Branch, Loop, PossessiveLoop, Atomic, Look}
use Rattle.sre_turns.proofs.bound.NestedMoves.{HoldsInGood, tree_holds}
use Rattle.sre_turns.proofs.bound.Prices.{enters}
use Rattle.sre_turns.proofs.semantics.OneTurn.{Enters, atomic_group, lookaround, Turned, grouped, entered, looped}
use Rattle.sre_turns.proofs.semantics.OneTurn.{repeated, point_turned, until_holds, again_holds}

item_straight : (a : Item) → of_item by_forks a ≡ false
    → (forking (item_role a) ≡ false) × (of_parts by_forks a ≡ false)
item_straight (Branch ts) e = absurd (true≢false e)
item_straight (Run kind low high t) e = absurd (true≢false e)
item_straight (Loop o low high body) e = absurd (true≢false e)
item_straight (PossessiveLoop low high body) e = absurd (true≢false e)
item_straight a e = (refl, e)

module _ (ws : List ℕ) where
  -- an instruction that does not fork is at a point
  abbrev pub StraightPoint : Point → Type 0
  StraightPoint (Instruction i) = (o : SreOpcode) → Opcode ws i o → forking (role o) ≡ false
  StraightPoint pt = ⊥

  -- by the role that is known to be there
  straight_role : (i : ℕ) (f : Role) → HasRole ws i f → forking f ≡ false → StraightPoint (Instruction i)
  straight_role i f h e o v =
      subst (λ c. forking (role c) ≡ false) (same_opcode ws i h.code o h.there v) (ap forking h.begins ∙ e)

  -- so it is at all points of a tree that does not fork
  straight_in : HoldsInGood ws by_forks (λ a. a ≡ false) (λ pt ks. StraightPoint pt)
  straight_in = record {
    first = λ a b e. (or_parts a b e).0;
    second = λ a b e. (or_parts a b e).1;
    parts = λ a e. (item_straight a e).1;
    item = λ i j a r e ks. straight_role i (item_role a) (item_here ws i j a r) (item_straight a e).0;
    success = λ i h ks. straight_role i _ h refl;
    jump = λ i h ks. straight_role i _ h refl;
    until = λ i o low high body e h ks. absurd (true≢false e);
    alternatives = λ ts e q ks. true≢false e;
    shorter = λ kind low high t e j k ks. true≢false e;
    longer = λ kind low high t e i n ks. true≢false e;
    again = λ i j low high body r e js. true≢false e;
  }

  pub body_straight : {P : Tree → Type 0} (b : BodyOf ws P) → forks b.tree ≡ false → (pt : Point)
      (ks : List ℕ) → LiesIn ws b.start b.end b.tree b.reads [] pt ks → StraightPoint pt
  body_straight b straight pt ks y =
      tree_holds ws by_forks (λ a. a ≡ false) (λ at js. StraightPoint at) straight_in b.start b.end b.tree b.reads [] pt
      ks straight
      (straight_role b.end ToEnd (record { code = opcode.SUCCESS; there = b.ends; begins = refl }) refl) y

-- where an instruction forks no straight point is
pub forks_never : (ws : List ℕ) (i : ℕ) → ForksAt ws i → StraightPoint ws (Instruction i) → ⊥
forks_never ws i f q = true≢false (sym f.forks ∙ q f.code f.there)

-- a body of some kind begins at a place, and is so as one that is entered so far back
abbrev BodyFrom : (ws : List ℕ) → (Tree → Type 0) → (ℕ → Tree → Type 0) → ℕ → ℕ → Type 0
BodyFrom ws P Q back j = (b : BodyOf ws P) × (b.start ≡ j) × Q back b.tree

-- an instruction of a role enters regions at such bodies alone
abbrev EntryAt : (ws : List ℕ) → (Tree → Type 0) → (ℕ → Tree → Type 0) → ℕ → Role → Type 0
EntryAt ws P Q i f = (back j : ℕ) (g : Region) → Enters ws i f back j g → BodyFrom ws P Q back j

no_entry : (ws : List ℕ) (P : Tree → Type 0) (Q : ℕ → Tree → Type 0) (i : ℕ) (f : Role) → enters f ≡ false
    → EntryAt ws P Q i f
no_entry ws P Q i f none back j g atomic_group = absurd (true≢false none)
no_entry ws P Q i f none back j g (lookaround there) = absurd (true≢false none)

-- a value of trees tells of which kind the bodies of their atomic scopes are
pub record TellsBodies {V : Type 0} (f : Folding V) (Good : V → Type 0) (P : Tree → Type 0) (Q : ℕ → Tree → Type 0)
    : Type 0 where
  pub first : (a b : V) → Good (f.both a b) → Good a
  pub second : (a b : V) → Good (f.both a b) → Good b
  pub parts : (x : Item) → Good (of_item f x) → Good (of_parts f x)
  pub atomic : (body : Tree) → Good (of_item f (Atomic body)) → P body × Q 0 body
  pub look : (sign : Sign) (back : ℕ) (body : Tree) → Good (of_item f (Look sign back body))
      → P body × Q back body
  pub possessive : (low high : ℕ) (body : Tree) → Good (of_item f (PossessiveLoop low high body))
      → P body × Q 0 body

module _ (ws : List ℕ) (P : Tree → Type 0) (Q : ℕ → Tree → Type 0) where
  -- the same at a point under loops: the body of a possessive loop begins behind its operands
  abbrev pub Entry : Point → List ℕ → Type 0
  Entry (Instruction i) ks = (o : SreOpcode) → Opcode ws i o → EntryAt ws P Q i (role o)
  Entry Again ks = (q : ℕ) (qs : List ℕ) → ks ≡ q ∷ qs → BodyFrom ws P Q 0 (q + 4)
  Entry pt ks = ⊤

  entry_role_at : (i : ℕ) (f : Role) → HasRole ws i f → EntryAt ws P Q i f → (ks : List ℕ) → Entry (Instruction i) ks
  entry_role_at i f h e ks o v =
      subst (λ c. EntryAt ws P Q i (role c)) (same_opcode ws i h.code o h.there v)
      (subst (λ g. EntryAt ws P Q i g) (sym h.begins) e)

  module _ {V : Type 0} (f : Folding V) (Good : V → Type 0) (tells : TellsBodies f Good P Q) where
    item_entry : (i j : ℕ) (a : Item) → ReadsItem ws i j a → Good (of_item f a) → EntryAt ws P Q i (item_role a)
    item_entry i j (Atomic body) r g back k h atomic_group =
        let is = tells.atomic body g in (
          record { start = i + 2; end = j - 1; tree = body; reads = r.1.1; ends = r.1.2; is = is.0 },
          refl,
          is.1,
        )
    item_entry i j (Look sign back body) r g from k h (lookaround there) =
        let is = tells.look sign back body g in (
          record { start = i + 3; end = j - 1; tree = body; reads = r.1.2; ends = r.1.3; is = is.0 },
          refl,
          subst (λ n. Q n body) (same_word ws (i + 2) back from r.1.1 there) is.1,
        )
    item_entry i j a r g back k h e = no_entry ws P Q i (item_role a) refl back k h e

    -- a possessive loop's body
    again_entry : (i j low high : ℕ) (body : Tree) → Operands ws i j (PossessiveLoop low high body)
        → Good (of_item f (PossessiveLoop low high body)) → (js : List ℕ) → Entry Again (i ∷ js)
    again_entry i j low high body r g js q qs same =
        let at : i ≡ q = cc in
        let is = tells.possessive low high body g in
        subst (λ n. BodyFrom ws P Q 0 (n + 4)) at (
          record {
            start = i + 4;
            end = skip ws (i + 1);
            tree = body;
            reads = r.3;
            ends = r.4;
            is = is.0;
          },
          refl,
          is.1,
        )

    entry_in : HoldsInGood ws f Good Entry
    entry_in = record {
      first = tells.first;
      second = tells.second;
      parts = tells.parts;
      item = λ i j a r g ks. entry_role_at i (item_role a) (item_here ws i j a r) (item_entry i j a r g) ks;
      success = λ i h ks. entry_role_at i _ h (no_entry ws P Q i _ refl) ks;
      jump = λ i h ks. entry_role_at i _ h (no_entry ws P Q i _ refl) ks;
      until = λ i o low high body g h ks. entry_role_at i _ h (no_entry ws P Q i _ refl) ks;
      alternatives = λ ts g q ks. tt;
      shorter = λ kind low high t g j k ks. tt;
      longer = λ kind low high t g i n ks. tt;
      again = again_entry;
    }

    -- so it is at all points of a tree that is good
    tree_entry : (i j : ℕ) (t : Tree) (r : _) → Opcode ws j opcode.SUCCESS → Good (of_tree f t) → (pt : Point)
        (ks : List ℕ) → LiesIn ws i j t r [] pt ks → Entry pt ks
    tree_entry i j t r w g pt ks y =
        tree_holds ws f Good Entry entry_in i j t r [] pt ks g
        (entry_role_at j ToEnd (record { code = opcode.SUCCESS; there = w; begins = refl })
        (no_entry ws P Q j ToEnd refl) []) y

-- a body that is entered so far back, with what its lookbehinds may go back from there, is within a bound
abbrev pub GoesBack : ℕ → ℕ → Tree → Type 0
GoesBack n back body = back + backs body ≤ n

-- what is told of atomic scopes and lookarounds
abbrev all_told : Folding (Bool × ℕ)
all_told = paired by_forked_regions by_backs

tree_told : (t : Tree) → of_tree all_told t ≡ (has_forked_region t, backs t)
tree_told = tree_paired by_forked_regions by_backs

-- bodies in a tree whose atomic scopes are counted, and whose lookbehinds go back so far at most, are such, too
module _ (whole : Tree) (n : ℕ) where
  abbrev Good : Bool × ℕ → Type 0
  Good a = (a.0 ≡ true → has_forked_region whole ≡ true) × (a.1 ≤ n)

  good_parts : (x : Item) → Good (of_item all_told x) → Good (of_parts all_told x)
  good_parts (PossessiveLoop low high body) g = (λ e. g.0 refl, g.1)
  good_parts (Atomic body) g = (λ e. g.0 (or_right (forks body) _ e), g.1)
  good_parts (Look sign back body) g = (λ e. g.0 (or_right (forks body) _ e), omega (arith, g.1))
  good_parts a g = g

  counted_tells : TellsBodies all_told Good (IsBodyIn whole) (GoesBack n)
  counted_tells = record {
    first = λ a b g. (λ e. g.0 (or_left a.0 b.0 e), omega (arith, g.1));
    second = λ a b g. (λ e. g.0 (or_right a.0 b.0 e), omega (arith, g.1));
    parts = good_parts;
    atomic = λ body g.
        let at = subst Good (tree_told body) (good_parts (Atomic body) g) in
        ((λ e. g.0 (or_left (forks body) _ e), at.0), omega (arith, at.1));
    look = λ sign back body g.
        let at = subst Good (tree_told body) (good_parts (Look sign back body) g) in
        let inside : (of_tree all_told body).1 ≡ backs body = ap (λ (a : Bool × ℕ). a.1) (tree_told body) in
        ((λ e. g.0 (or_left (forks body) _ e), at.0), omega (arith, g.1, inside));
    possessive = λ low high body g.
        let at = subst Good (tree_told body) (good_parts (PossessiveLoop low high body) g) in
        ((λ e. g.0 refl, at.0), omega (arith, at.1));
  }

pub counted_entry : (whole : Tree) (ws : List ℕ) (i j : ℕ) (t : Tree) (r : _) → Opcode ws j opcode.SUCCESS
    → (has_forked_region t ≡ true → has_forked_region whole ≡ true) → (pt : Point) (ks : List ℕ)
    → LiesIn ws i j t r [] pt ks → Entry ws (IsBodyIn whole) (GoesBack (backs t)) pt ks
counted_entry whole ws i j t r w f pt ks y =
    tree_entry ws (IsBodyIn whole) (GoesBack (backs t)) all_told (Good whole (backs t))
    (counted_tells whole (backs t)) i j t r w
    (subst (Good whole (backs t)) (sym (tree_told t)) (f, omega arith)) pt ks y

-- an atomic scope is entered at its body's first word, and no further back from its configuration than its body is told
-- to be
pub record Entered (ws : List ℕ) (P : Tree → Type 0) (Q : ℕ → Tree → Type 0) (p : ℕ) (g : Region) (z : Spot)
    : Type 0 where
  pub body : BodyOf ws P
  pub first : z.point ≡ Instruction body.start
  pub back : ℕ
  pub is : Q back body.tree
  pub far : p ≤ z.position + back

module _ (ws : List ℕ) (P : Tree → Type 0) (Q : ℕ → Tree → Type 0) (s : Subject) (p : ℕ) (fs : List Frame)
    (m : Marks) (g : Region) (y z : Spot) where
  entered_as : (h : Region) (q back j : ℕ) (x : Spot) → BodyFrom ws P Q back j → p ≤ q + back
      → Enter h x (spot_at (Instruction j) [] q m) ≡ Enter g y z → Entered ws P Q p g z
  entered_as h q back j x b far same =
      let at : z ≡ spot_at (Instruction j) [] q m = cc in
      let position : z.position ≡ q = ap (λ x. x.position) at in
      record {
        body = b.0;
        first = ap (λ x. x.point) at ∙ ap (λ n. Instruction n) (sym b.1);
        back = back;
        is = b.2;
        far = omega (arith, position, far);
      }

  turn_entered : {gs : List Frame} {n : Marks} {pt : Point} {v w : Move} → Turned ws s p fs gs m n pt v w
      → Entry ws P Q pt (repeats fs) → v ≡ Enter g y z → Entered ws P Q p g z
  turn_entered (grouped {g = number} o at is asked there v w each) entry e =
      turn_entered (each (group m number)) entry e
  turn_entered (entered {back = back} {j = j} {q = q} {g = h} o at b l far on) entry e =
      entered_as h q back j _ (entry o at back j h b) far e
  turn_entered (looped {u = u} o order at is h k) entry e =
      absurd (until_holds (λ v. v ≡ Enter g y z → ⊥) order u h (λ a. cc a) (λ a. cc a) (λ a. cc a) (λ a. cc a) e)
  turn_entered (repeated h k) entry e =
      let b = entry h.frame.repeat (repeats h.outer) (ap (λ gs. repeats gs) h.inside) in
      again_holds (λ v. v ≡ Enter g y z → Entered ws P Q p g z) h
      (entered_as Owed p 0 (h.frame.repeat + 4) _ b (omega arith))
      (entered_as (Further _) p 0 (h.frame.repeat + 4) _ b (omega arith)) (λ a. absurd (cc a)) e
  turn_entered t entry e = absurd (cc)

-- so wherever one is entered
pub point_entered : (ws : List ℕ) (P : Tree → Type 0) (Q : ℕ → Tree → Type 0) (s : Subject) (pt : Point)
    (fs : List Frame) (p : ℕ) (m : Marks) (g : Region) (y z : Spot) → Entry ws P Q pt (repeats fs)
    → MovesAt ws s pt (spot_at pt fs p m) (Enter g y z)
    → Entered ws P Q p g z
point_entered ws P Q s pt fs p m g y z e h =
    turn_entered ws P Q s p fs m g y z (point_turned ws s p fs fs m m pt (Enter g y z) (Enter g y z) h h) e refl
