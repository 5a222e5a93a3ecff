-- In the body of an atomic scope that sets no capture slot the captures stay as they are: a run there stays in the
-- body, and no step there is that of a MARK.
-- The memo of body ends rests on this.
use Rattle.sre_turns.proofs.Terms.{◌≡◌, ℕ, Bool, true, false, List, [], ◌∷◌, refl, sym, ap, ◌∙◌, subst, ⊤, or_parts}
use Rattle.sre_turns.proofs.Terms.{true≢false, SreOpcode, Tree, Item, Marks, group, marks_in_regions, Way, of_item}
use Rattle.sre_turns.proofs.Terms.{of_parts, Opcode, WholeItems, Role, role, each-append, HasRole, role_here, item_role}
use Rattle.sre_turns.proofs.Terms.{item_here, items_same, same_opcode, NotAhead, Further, Region, Point, Spot, Move}
use Rattle.sre_turns.proofs.Terms.{End, Split, Enter, closing_move, Moves, Runs, turns, Comes, stops, ends, goes}
use Rattle.sre_turns.proofs.Terms.{splits, enters, repeats, ClosesAt, LeadsTo, LoopsAlike, Alike, LiesInBody, Confined}
use Rattle.sre_turns.proofs.Terms.{MarklessRegions, AllMarked, MarksStay, Subject, Run, Frame, Instruction, Stop, Go}
use Rattle.sre_turns.proofs.Terms.{by_marks, MarklessBody, no_marks, spot_at, StringCursor, is_inside, IsConfined}
use Rattle.sre_turns.proofs.Terms.{ConfinedInside, AllConfined, ChoicesConfined, StandsConfined, BothConfined, Choice}
use Rattle.sre_turns.proofs.Terms.{Else, Keep, Trying, from_region}
use Rattle.sre_model.specs.Tree.{Mark}
use Rattle.sre_model.specs.Roles.{ToEnd, ToMark}
use Rattle.sre_chars.specs.declared.constants.SreOpcode.TheVariants as opcode
use Rattle.sre_turns.proofs.bound.NestedMoves.{body_moves, HoldsInGood, tree_holds}
use Rattle.sre_turns.proofs.semantics.OneTurn.{Turned, stopped, ended, went, forked, marked, grouped, begun, entered}
use Rattle.sre_turns.proofs.semantics.OneTurn.{looped, repeated, point_turned, until_holds, again_holds}

-- whether an opcode of this role sets a mark
abbrev sets : Role → Bool
sets ToMark = true
sets _ = false

item_markless : (a : Item) → of_item by_marks a ≡ false
    → (sets (item_role a) ≡ false) × (of_parts by_marks a ≡ false)
item_markless (Mark n) e = absurd (true≢false e)
item_markless a e = (refl, e)

module _ (ws : List ℕ) where
  -- no mark is set at a point
  abbrev Markless : Point → Type 0
  Markless (Instruction i) = (o : SreOpcode) → Opcode ws i o → sets (role o) ≡ false
  Markless pt = ⊤

  -- by the role that is known to be there
  markless_role : (i : ℕ) (o : Role) → HasRole ws i o → sets o ≡ false → Markless (Instruction i)
  markless_role i o h e p v =
      subst (λ c. sets (role c) ≡ false) (same_opcode ws i h.code p h.there v) (ap sets h.begins ∙ e)

  -- so are all points of a tree that sets none
  markless_in : HoldsInGood ws by_marks (λ a. a ≡ false) (λ pt ks. Markless pt)
  markless_in = record {
    first = λ a b e. (or_parts a b e).0;
    second = λ a b e. (or_parts a b e).1;
    parts = λ a e. (item_markless a e).1;
    item = λ i j a r e ks. markless_role i (item_role a) (item_here ws i j a r) (item_markless a e).0;
    success = λ i h ks. markless_role i _ h refl;
    jump = λ i h ks. markless_role i _ h refl;
    until = λ i o low high body g h ks. markless_role i _ h refl;
    alternatives = λ ts g q ks. tt;
    shorter = λ kind low high t g j k ks. tt;
    longer = λ kind low high t g i n ks. tt;
    again = λ i j low high body r e js. tt;
  }

  body_markless : (b : MarklessBody ws) (pt : Point) (ks : List ℕ) → LiesInBody ws b pt ks → Markless pt
  body_markless b pt ks y =
      tree_holds ws by_marks (λ a. a ≡ false) (λ at js. Markless at) markless_in b.start b.end b.tree b.reads [] pt ks
      b.is
      (markless_role b.end ToEnd (role_here ws b.end opcode.SUCCESS ToEnd b.ends refl) refl) y

-- each configuration of a step has these captures
abbrev pub KeepsMarks : Marks → Move → Type 0
KeepsMarks m Stop = ⊤
KeepsMarks m End = ⊤
KeepsMarks m (Go y) = y.marks ≡ m
KeepsMarks m (Split y z) = (y.marks ≡ m) × (z.marks ≡ m)
KeepsMarks m (Enter g y z) = (y.marks ≡ m) × (z.marks ≡ m)

module _ (m : Marks) where
  -- where an atomic scope closes whose body keeps them
  closing_keeps : (g : Region) (y : Spot) (now : List Way) → y.marks ≡ m → AllMarked m now
      → KeepsMarks m (closing_move g y now)
  closing_keeps (NotAhead t) y [] e h = e
  closing_keeps (NotAhead t) y (w ∷ os) e h = tt
  closing_keeps (Further t) y [] e h = e
  closing_keeps g y [] e h = tt
  closing_keeps g y (w ∷ os) e h = h.0

  -- a step at a point at which none is set
  turn_keeps : {ws : List ℕ} {s : Subject} {p : ℕ} {fs gs : List Frame} {n : Marks} {pt : Point} {v w : Move}
      → Turned ws s p fs gs m n pt v w → Markless ws pt → KeepsMarks m v
  turn_keeps stopped e = tt
  turn_keeps (ended o at is) e = tt
  turn_keeps (went x) e = refl
  turn_keeps (forked f a b on) e = (refl, refl)
  turn_keeps (marked o at is there) e = absurd (true≢false (sym (ap sets is) ∙ e o at))
  turn_keeps (grouped {g = g} o at is asked there v w each) e = turn_keeps (each (group m g)) e
  turn_keeps (begun o at b same) e = refl
  turn_keeps (entered o at b l k on) e = (refl, refl)
  turn_keeps (looped {u = u} o order at is h k) e =
      until_holds (KeepsMarks m) order u h refl (refl, refl) (refl, refl) refl
  turn_keeps (repeated h k) e = again_holds (KeepsMarks m) h (refl, refl) (refl, refl) refl

-- where a step leads, and an atomic scope closes, in a body
onto_leads : (P : Point → List ℕ → Type 0) (g : Region) (y : Spot) (now : List Way) → ClosesAt P g y.frames
    → LeadsTo P (closing_move g y now)
onto_leads P (NotAhead t) y [] c = c
onto_leads P (NotAhead t) y (w ∷ os) c = tt
onto_leads P (Further t) y [] c = c.1
onto_leads P (Further t) y (w ∷ os) c = c.0
onto_leads P g y [] c = tt
onto_leads P g y (w ∷ os) c = c

-- a step in a body leads to configurations in the body
pub confined_moves : (ws : List ℕ) (s : Subject) (b : MarklessBody ws) (x : Spot) (mv : Move)
    → LiesInBody ws b x.point (repeats x.frames) → Moves ws s x mv → LeadsTo (LiesInBody ws b) mv
confined_moves ws s b x mv y h = body_moves ws s b.start b.end b.tree b.reads b.ends x mv y h

module _ (ws : List ℕ) (s : Subject) (b : MarklessBody ws) where
  mutual
    -- so what comes of a configuration in the body has the captures that the configuration has
    pub marks_stay : {x : Spot} {os : List Way} {n : ℕ} (m : Marks) → x.marks ≡ m
        → LiesInBody ws b x.point (repeats x.frames) → Runs ws s x os n → AllMarked m os
    marks_stay {x} m e y (turns a h d) =
        marks_after m a e (subst (λ l. KeepsMarks l a) e
        (turn_keeps x.marks (point_turned ws s x.position x.frames x.frames x.marks x.marks x.point a a h h)
        (body_markless ws b x.point (repeats x.frames) y)))
        (confined_moves ws s b x a y h) d

    marks_after : {x : Spot} {os : List Way} {n : ℕ} (m : Marks) (a : Move) → x.marks ≡ m → KeepsMarks m a
        → LeadsTo (LiesInBody ws b) a → Comes ws s x a os n → AllMarked m os
    marks_after m Stop e k l stops = tt
    marks_after m End e k l ends = (e, tt)
    marks_after m (Go y) e k l (goes d) = marks_stay m k l d
    marks_after m (Split y z) e k l (splits {os₁ = os₁} {os₂ = os₂} d f) =
        each-append (λ (w : Way). w.marks ≡ m) os₁ os₂ (marks_stay m k.0 l.0 d) (marks_stay m k.1 l.1 f)
    marks_after m (Enter g y z) e k l (enters {now = now} lies d f) =
        marks_after m (closing_move g y now) k.0 (closing_keeps m g y now k.0 (marks_stay m k.1 l.0 d))
        (onto_leads (LiesInBody ws b) g y now l.1) f

-- alike loops stand at the same places
same_places : (ws : List ℕ) (p : ℕ) (fs gs : List Frame) → LoopsAlike ws p fs gs → repeats fs ≡ repeats gs
same_places ws p [] [] h = refl
same_places ws p (f ∷ fs) (g ∷ gs) h = rw (h.0.repeat, same_places ws p fs gs h.1) refl
same_places ws p fs gs h = absurd h

-- a configuration that is alike to one in a body lies there, too
alike_confined : (ws : List ℕ) (b : MarklessBody ws) (x y : Spot) → Alike ws x y
    → LiesInBody ws b x.point (repeats x.frames) → LiesInBody ws b y.point (repeats y.frames)
alike_confined ws b x y h l =
    subst (λ pt. LiesInBody ws b pt (repeats y.frames)) h.point
    (subst (λ ks. LiesInBody ws b x.point ks) (same_places ws _ x.frames y.frames h.loops) l)

-- so captures stay there
pub confined_stay : (r : Run) (x : Spot) → Confined r.words x → MarksStay r x
confined_stay r x l = record {
  same = λ y os n h d.
      marks_stay r.words r.subject l.0 y.marks refl (alike_confined r.words l.0 x y h l.1) d;
}

-- no atomic scope of words whose tree sets no mark inside one sets a mark
pub markless_regions : (ws : List ℕ) (t : Tree) → WholeItems ws t → marks_in_regions t ≡ false → MarklessRegions ws
markless_regions ws t w e =
    record { none = λ u w'. subst (λ x. marks_in_regions x ≡ false) (items_same ws t u w w') e }

-- Each step keeps the machine in its atomic scope's body, where no atomic scope of the bytecode sets a capture slot.

-- what holds of each point of one kind holds of another
closes_map : (P Q : Point → List ℕ → Type 0) → ((pt : Point) (ks : List ℕ) → P pt ks → Q pt ks) → (g : Region)
    (fs : List Frame) → ClosesAt P g fs → ClosesAt Q g fs
closes_map P Q f (Further t) fs h = (f _ _ h.0, f _ _ h.1)
closes_map P Q f g fs h = f _ _ h

leads_map : (P Q : Point → List ℕ → Type 0) → ((pt : Point) (ks : List ℕ) → P pt ks → Q pt ks) → (mv : Move)
    → LeadsTo P mv → LeadsTo Q mv
leads_map P Q f Stop h = tt
leads_map P Q f End h = tt
leads_map P Q f (Go y) h = f _ _ h
leads_map P Q f (Split y z) h = (f _ _ h.0, f _ _ h.1)
leads_map P Q f (Enter g y z) h = (f _ _ h.0, closes_map P Q f g y.frames h.1)

-- under a condition
module _ (ws : List ℕ) (inside : Bool) where
  closes_inside : (g : Region) (fs : List Frame) → (inside ≡ true → ClosesAt (IsConfined ws) g fs)
      → ClosesAt (ConfinedInside ws inside) g fs
  closes_inside (Further t) fs h = (λ e. (h e).0, λ e. (h e).1)
  closes_inside g fs h = h

  leads_inside : (mv : Move) → (inside ≡ true → LeadsTo (IsConfined ws) mv) → LeadsTo (ConfinedInside ws inside) mv
  leads_inside Stop h = tt
  leads_inside End h = tt
  leads_inside (Go y) h = h
  leads_inside (Split y z) h = (λ e. (h e).0, λ e. (h e).1)
  leads_inside (Enter g y z) h = (λ e. (h e).0, closes_inside g y.frames (λ e. (h e).1))

-- a turn in the body of a region leads to where one is in that body
pub confined_leads : (ws : List ℕ) (s : Subject) (x : Spot) (mv : Move) → Moves ws s x mv → Confined ws x
    → LeadsTo (IsConfined ws) mv
confined_leads ws s x mv h l =
    leads_map (LiesInBody ws l.0) (IsConfined ws) (λ pt ks y. (l.0, y)) mv (confined_moves ws s l.0 x mv l.1 h)

-- so where a turn goes on one is in the body, under the same loops
pub turn_confines : (ws : List ℕ) (s : Subject) (pt pt' : Point) (p q : ℕ)
    → ((fs : List Frame) (m : Marks) → Moves ws s (spot_at pt fs p m) (Go (spot_at pt' fs q m))) → (fs : List Frame)
    → IsConfined ws pt (repeats fs) → IsConfined ws pt' (repeats fs)
turn_confines ws s pt pt' p q h fs l =
    confined_leads ws s (spot_at pt fs p no_marks) (Go (spot_at pt' fs q no_marks)) (h fs no_marks) l

-- and it is so with what waits besides
pub turn_confined : (ws : List ℕ) (s : Subject) (x : Spot) (mv : Move) (cs : List Choice) → Moves ws s x mv
    → StandsConfined ws x cs → LeadsTo (ConfinedInside ws (is_inside cs)) mv × ChoicesConfined ws cs
turn_confined ws s x mv cs h l =
    (leads_inside ws (is_inside cs) mv (λ e. confined_leads ws s x mv h (l.here e)), l.others)

-- where it goes on at a spot, and where at two
pub goes_confined : (ws : List ℕ) (s : Subject) (x y : Spot) (cs : List Choice) → Moves ws s x (Go y)
    → StandsConfined ws x cs → StandsConfined ws y cs
goes_confined ws s x y cs h l =
    let f = turn_confined ws s x (Go y) cs h l in record { here = f.0; others = f.1 }

pub splits_confined : (ws : List ℕ) (s : Subject) (x y z : Spot) (cs : List Choice) → Moves ws s x (Split y z)
    → StandsConfined ws x cs → BothConfined ws y z cs
splits_confined ws s x y z cs h l =
    let f = turn_confined ws s x (Split y z) cs h l in record { first = f.0.0; second = f.0.1; others = f.1 }

-- where one of two waits, and where one alone is left
pub first_confined : (ws : List ℕ) (x y : Spot) (c : StringCursor) (cs : List Choice) → BothConfined ws x y cs
    → StandsConfined ws x (Else y.point y.frames c y.marks ∷ cs)
first_confined ws x y c cs f = record { here = f.first; others = record { each = (f.second, f.others.each) } }

pub first_left : (ws : List ℕ) (x y : Spot) (cs : List Choice) → BothConfined ws x y cs → StandsConfined ws x cs
first_left ws x y cs f = record { here = f.first; others = f.others }

pub second_left : (ws : List ℕ) (x y : Spot) (cs : List Choice) → BothConfined ws x y cs → StandsConfined ws y cs
second_left ws x y cs f = record { here = f.second; others = f.others }

-- what waits from a region on
pub region_confined : (ws : List ℕ) (cs : List Choice) → AllConfined ws cs → AllConfined ws (from_region cs)
region_confined ws [] h = tt
region_confined ws (Else pt fs c m ∷ cs) h = region_confined ws cs h.1
region_confined ws (Keep g fs c m ∷ cs) h = h
region_confined ws (Trying pt fs c m ∷ cs) h = region_confined ws cs h.1
