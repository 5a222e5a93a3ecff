-- Live captures and FIRST sets at an instruction, by its opcode, where the words are as the computation reads them; and
-- what a FIRST set rules out: a point before a character that the set does not have.
-- The list of live captures by address and the list by which branches skip alternatives rest on this; nothing else here
-- does.
use Rattle.sre_machine.proofs.Terms.{◌≡◌, ℕ, ◌+◌, ◌-◌, ◌*◌, ◌<◌, ◌≤◌, ◌⊎◌, inl, inr, Bool, true, false, List, length}
use Rattle.sre_machine.proofs.Terms.{sym, ◌∙◌, ap, subst, arith, cases_lt, SreOpcode, word, role, AreWords, word_of}
use Rattle.sre_machine.proofs.Terms.{Asks, Named, Covers, opcode_number, same_number, word_within, asks, [], ◌∷◌, ◌++◌}
use Rattle.sre_machine.proofs.Terms.{Option, Some, None, slice_get, refl, AreIdle, Lies, MarkRange, Within, AsksAt}
use Rattle.sre_machine.proofs.Terms.{AlternativesAsk, AskedMarks, AskedPlace, range_of, any_marks, asks_for_any}
use Rattle.sre_machine.proofs.Terms.{told_or_any, asks_of, AllAsked, AreMarks, HaveAll, InstructionAsks, zero, suc}
use Rattle.sre_machine.proofs.Terms.{slice_set, PlacesAsk, are_idle, IsNarrower, IsSameBut, one_place_told}
use Rattle.sre_machine.proofs.Terms.{told_everywhere, Test, Plain, Ascii, Unicode, Word, Opcode, skip, test_opcode}
use Rattle.sre_machine.proofs.Terms.{TestOperands, same_opcode, GroupLies, MarkLeads, GroupAsked, whole_asks, LetGo}
use Rattle.sre_machine.proofs.Terms.{Order, until_opcode, HasTest, Instruction, AdmitsOnly, category_number, SreCatCode}
use Rattle.sre_machine.proofs.Terms.{TestsOnly, RepeatsOnly, RunsOnly, LeadsOnly, leads_admit, nat_lt, slice_index_or}
use Rattle.sre_machine.proofs.Terms.{nat_tests, Run, char_at, Point, AllAdmitted, IsOutside, Exhausted, get_some}
use Rattle.sre_machine.proofs.Terms.{IsAdmitted, Admitted}
use Rattle.sre_model.specs.Tree.{Any, InCategory, Literal, NotLiteral, AnyAll, In}
use Rattle.sre_model.specs.Roles.{TestKind, ToTest}
use Rattle.sre_chars.specs.declared.constants.SreOpcode.TheVariants as opcode

-- the groups behind the words up to a place
pub record CoversTo (ws : List ℕ) (n end : ℕ) : Type 0 where
  pub covers : (g : ℕ) (x : Named ws g) → x.place + 1 < n → 2 * g + 1 < end

-- one place more
pub covers_next : (ws : List ℕ) (n end end' : ℕ) → 1 ≤ n → CoversTo ws n end → end ≤ end'
    → ((g : ℕ) (x : Named ws g) → x.place + 1 ≡ n → 2 * g + 1 < end') → CoversTo ws (n + 1) end'
covers_next ws n end end' some was grows here = record {
  covers = λ g x l. by_place g x (cases_lt (x.place + 1) n) l;
}
  where
    by_place : (g : ℕ) (x : Named ws g) → (x.place + 1 < n) ⊎ (n ≤ x.place + 1) → x.place + 1 < n + 1 → 2 * g + 1 < end'
    by_place g x (inl before) l = let b = was.covers g x before in omega (arith, b, grows)
    by_place g x (inr behind) l = here g x (omega (arith, behind, l))

-- all of them
pub covers_end : (ws : List ℕ) (n end : ℕ) → length ws ≤ n → CoversTo ws n end → (g : ℕ) → Named ws g → 2 * g + 1 < end
covers_end ws n end all was g x =
    let inside = word_within ws (x.place + 1) g x.there in was.covers g x (omega (arith, all, inside))

-- a word that is the number of one opcode is that of no other
pub asks_as : (o p : SreOpcode) (n : ℕ) (told : Bool) → opcode_number p ≡ n → told ≡ asks (role p) → told ≡ false
    → opcode_number o ≡ n → asks (role o) ≡ false
asks_as o p n told is same none e =
    ap (λ x. asks (role x)) (same_number o p (e ∙ sym is)) ∙ sym same ∙ none

-- all groups are few
pub covers_all : (ws : List ℕ) → AreWords ws → Covers ws 18446744073709551615
covers_all ws are = λ g asked. let few = are.fits (asked.1.place + 1) g asked.1.there in omega (arith, few)

-- those that were told are those that are asked for
pub covers_told : (ws us : List ℕ) (old new : ℕ) → us ≡ ws
    → (new ≡ old) ⊎ ((g : ℕ) → Asks us g → 2 * g + 1 < new) → Covers ws old → Covers ws new
covers_told ws us old new same (inl e) was = λ g asked. let l = was g asked in omega (arith, l, e)
covers_told ws us old new same (inr told) was = λ g asked. told g (subst (λ vs. Asks vs g) (sym same) asked)

-- the group behind a word is told where that is the number of an opcode that asks for one
pub told_here : (ws : List ℕ) (n end code group : ℕ) → code ≡ word ws (n - 1) → group ≡ word ws n
    → ((o : SreOpcode) → opcode_number o ≡ code → asks (role o) ≡ true → 2 * group + 1 < end) → (g : ℕ) (x : Named ws g)
    → x.place + 1 ≡ n → 2 * g + 1 < end
told_here ws n end code group before here told g x at =
    let place : x.place ≡ n - 1 = omega (arith, at) in
    let same : opcode_number x.opcode ≡ code =
    sym (word_of ws x.place (opcode_number x.opcode) x.code) ∙ ap (λ k. word ws k) place ∙ sym before in
    let is : group ≡ g = here ∙ ap (λ k. word ws k) (sym at) ∙ word_of ws (x.place + 1) g x.there in
    let l = told x.opcode same x.asks in
    omega (arith, l, is)

-- marks that have all of others have what those do
pub all_had : (marks others : AskedMarks) (r : MarkRange) → HaveAll marks (range_of others) → HaveAll others r
    → HaveAll marks r
all_had marks others r h k = record { all = λ n l. h.all n (k.all n l) }

pub had_at : (list : List AskedPlace) (i j : ℕ) (marks others : AskedMarks) → i ≡ j → HaveAll marks (range_of others)
    → HaveAll others ((asks_of list).instruction i) → HaveAll marks ((asks_of list).instruction j)
had_at list i j marks others same h k =
    subst (λ n. HaveAll marks ((asks_of list).instruction n)) same (all_had marks others _ h k)

-- the alternatives that follow a length word
pub alternatives_ask : (ws : List ℕ) (list : List AskedPlace) (q v : ℕ) (own first others : AskedMarks) → Word ws q v
    → HaveAll own (range_of first) → HaveAll own (range_of others) → HaveAll first ((asks_of list).instruction (q + 1))
    → HaveAll others ((asks_of list).alternatives (q + v)) → AlternativesAsk ws (asks_of list) (range_of own) q
alternatives_ask ws list q v own first others w h k one rest = record {
  first = λ some n l. h.all n (one.all n l);
  others = λ some.
      subst (λ n. Within ((asks_of list).alternatives (q + n)) (range_of own)) (sym (word_of ws q v w))
      (λ n l. k.all n (rest.all n l));
}

-- the marks of groups that words name
pub named_groups : (ws : List ℕ) → AreWords ws → (i g : ℕ) → Word ws i g
    → GroupLies (λ k. ⊥) (range_of any_marks) g
named_groups ws are i g w =
    let few = are.fits i g w in
    record {
      start = inl (omega (arith, few), omega (arith, few));
      end = inl (omega (arith, few), omega (arith, few));
    }

-- the group that a reference names is asked for
pub group_asked : (ws : List ℕ) (i g : ℕ) (own marks : AskedMarks) → g ≡ word ws (i + 1)
    → GroupLies (λ k. ⊥) (range_of own) g → HaveAll marks (range_of own) → GroupAsked (λ k. ⊥) ws (range_of marks) i
group_asked ws i g own marks same lies has = record {
  each = λ n asked w.
      let named : g ≡ n = same ∙ word_of ws (i + 1) n w in
      subst (GroupLies (λ k. ⊥) (range_of marks)) named (record {
        start = had (2 * g) lies.start;
        end = had (2 * g + 1) lies.end;
      });
}
  where
    had : (k : ℕ) → Lies k (range_of own) ⊎ ⊥ → Lies k (range_of marks) ⊎ ⊥
    had k (inl l) = inl (has.all k l)
    had k (inr e) = inr e

-- what is behind a MARK is asked for, but for its own
pub mark_leads : (ws : List ℕ) (list : List AskedPlace) (i n : ℕ) (behind marks : AskedMarks) → n ≡ word ws (i + 1)
    → HaveAll behind ((asks_of list).instruction (i + 2)) → LetGo n marks behind
    → MarkLeads ws (asks_of list) (range_of marks) i
mark_leads ws list i n behind marks same has lets = record {
  each = λ v w k l. elim (lets.each k (has.all k l)) [
    | (inl left) ↦ inl left
    | (inr own) ↦ inr (own ∙ same ∙ word_of ws (i + 1) v w)
  ];
}

-- where a test ends, by its opcode
abbrev test_end : List ℕ → ℕ → SreOpcode → ℕ
test_end ws i opcode.ANY = i + 1
test_end ws i opcode.ANY_ALL = i + 1
test_end ws i opcode.IN = skip ws (i + 1)
test_end ws i opcode.IN_IGNORE = skip ws (i + 1)
test_end ws i opcode.IN_LOC_IGNORE = skip ws (i + 1)
test_end ws i opcode.IN_UNI_IGNORE = skip ws (i + 1)
test_end ws i _ = i + 2

ends_by_opcode : (ws : List ℕ) (i j : ℕ) (t : Test) → TestOperands ws i j t → j ≡ test_end ws i (test_opcode t)
ends_by_opcode ws i j Any h = h
ends_by_opcode ws i j AnyAll h = h
ends_by_opcode ws i j (InCategory c) h = h.1
ends_by_opcode ws i j (Literal Plain v) h = h.1
ends_by_opcode ws i j (Literal mode v) h = h.1
ends_by_opcode ws i j (NotLiteral Plain v) h = h.1
ends_by_opcode ws i j (NotLiteral mode v) h = h.1
ends_by_opcode ws i j (In Plain set) h = h.0
ends_by_opcode ws i j (In mode set) h = h.0

-- what an instruction of a group of opcodes asks for
module _ (ws : List ℕ) (list : List AskedPlace) (i : ℕ) (marks : AskedMarks) where
  abbrev Has : ℕ → Type 0
  Has n = HaveAll marks ((asks_of list).instruction n)

  -- whatever stands there
  pub any_asked : AreWords ws → AreMarks list → marks ≡ any_marks → InstructionAsks ws list i marks
  any_asked are within same = record {
    each = λ o w.
        subst (λ m. AsksAt (λ k. ⊥) ws (asks_of list) (range_of m) (role o) i) (sym same)
        (whole_asks (λ k. ⊥) ws (asks_of list) (range_of any_marks) within.instruction within.alternatives
        (named_groups ws are) (role o) i);
  }

  module _ (o : SreOpcode) (w : Opcode ws i o) where
    as_if : {p : SreOpcode} → o ≡ p → AsksAt (λ k. ⊥) ws (asks_of list) (range_of marks) (role p) i
        → InstructionAsks ws list i marks
    as_if {p} e h = record {
      each = λ q v.
          let same : p ≡ q = sym e ∙ same_opcode ws i o q w v in
          subst (λ z. AsksAt (λ k. ⊥) ws (asks_of list) (range_of marks) (role z) i) same h;
    }

    -- a test asks for what is asked where it ends
    test_asks : {p : SreOpcode} {kind : TestKind} → o ≡ p → role p ≡ ToTest kind → Has (test_end ws i p)
        → InstructionAsks ws list i marks
    test_asks {p} e is h =
        as_if e (subst (λ z. AsksAt (λ k. ⊥) ws (asks_of list) (range_of marks) z i) (sym is) (record {
          each = λ j t s.
              let code : test_opcode t ≡ p = same_opcode ws i (test_opcode t) o s.code w ∙ e in
              let ends : test_end ws i p ≡ j =
              ap (test_end ws i) (sym code) ∙ sym (ends_by_opcode ws i j t s.operands) in
              subst (λ k. Within ((asks_of list).instruction k) (range_of marks)) ends h.all;
        }))

    pub literal_asks : (o ≡ opcode.AT) ⊎ ((o ≡ opcode.CATEGORY) ⊎ ((o ≡ opcode.LITERAL) ⊎ ((o ≡ opcode.LITERAL_IGNORE)
        ⊎ ((o ≡ opcode.LITERAL_LOC_IGNORE) ⊎ ((o ≡ opcode.LITERAL_UNI_IGNORE) ⊎ ((o ≡ opcode.NOT_LITERAL)
        ⊎ ((o ≡ opcode.NOT_LITERAL_IGNORE) ⊎ ((o ≡ opcode.NOT_LITERAL_LOC_IGNORE)
        ⊎ (o ≡ opcode.NOT_LITERAL_UNI_IGNORE)))))))))
        → Has (i + 2) → InstructionAsks ws list i marks
    literal_asks (inl e) h = as_if e h.all
    literal_asks (inr (inl e)) h = test_asks e refl h
    literal_asks (inr (inr (inl e))) h = test_asks e refl h
    literal_asks (inr (inr (inr (inl e)))) h = test_asks e refl h
    literal_asks (inr (inr (inr (inr (inl e))))) h = test_asks e refl h
    literal_asks (inr (inr (inr (inr (inr (inl e)))))) h = test_asks e refl h
    literal_asks (inr (inr (inr (inr (inr (inr (inl e))))))) h = test_asks e refl h
    literal_asks (inr (inr (inr (inr (inr (inr (inr (inl e)))))))) h = test_asks e refl h
    literal_asks (inr (inr (inr (inr (inr (inr (inr (inr (inl e))))))))) h = test_asks e refl h
    literal_asks (inr (inr (inr (inr (inr (inr (inr (inr (inr e))))))))) h = test_asks e refl h

    pub skip_asks : (t : ℕ) → t ≡ skip ws (i + 1)
        → (o ≡ opcode.JUMP) ⊎ ((o ≡ opcode.IN) ⊎ ((o ≡ opcode.IN_IGNORE) ⊎ ((o ≡ opcode.IN_LOC_IGNORE)
        ⊎ ((o ≡ opcode.IN_UNI_IGNORE) ⊎ ((o ≡ opcode.REPEAT_ONE) ⊎ ((o ≡ opcode.MIN_REPEAT_ONE)
        ⊎ (o ≡ opcode.POSSESSIVE_REPEAT_ONE)))))))
        → Has t → InstructionAsks ws list i marks
    skip_asks t leads (inl e) h = as_if e (subst Has leads h).all
    skip_asks t leads (inr (inl e)) h = test_asks e refl (subst Has leads h)
    skip_asks t leads (inr (inr (inl e))) h = test_asks e refl (subst Has leads h)
    skip_asks t leads (inr (inr (inr (inl e)))) h = test_asks e refl (subst Has leads h)
    skip_asks t leads (inr (inr (inr (inr (inl e))))) h = test_asks e refl (subst Has leads h)
    skip_asks t leads (inr (inr (inr (inr (inr (inl e)))))) h = as_if e (subst Has leads h).all
    skip_asks t leads (inr (inr (inr (inr (inr (inr (inl e))))))) h = as_if e (subst Has leads h).all
    skip_asks t leads (inr (inr (inr (inr (inr (inr (inr e))))))) h = as_if e (subst Has leads h).all

-- nothing is told yet of the places before one
pub record NoneBefore (list : List AskedPlace) (place : ℕ) : Type 0 where
  pub each : (i : ℕ) → i < place → told_or_any (slice_get list i) ≡ asks_for_any

-- the item that is set, and the others
got_here : {X : Type 0} (xs : List X) (i : ℕ) (v : X) → i < length xs → slice_get (slice_set xs i v) i ≡ Some v
got_here [] i v there = absurd (omega arith)
got_here (y ∷ ys) zero v there = refl
got_here (y ∷ ys) (suc i) v there = got_here ys i v (omega (arith, there))

got_elsewhere : {X : Type 0} (xs : List X) (i j : ℕ) (v : X)
    → (j ≡ i) ⊎ (slice_get (slice_set xs i v) j ≡ slice_get xs j)
got_elsewhere [] i j v = inr refl
got_elsewhere (y ∷ ys) zero zero v = inl refl
got_elsewhere (y ∷ ys) zero (suc j) v = inr refl
got_elsewhere (y ∷ ys) (suc i) zero v = inr refl
got_elsewhere (y ∷ ys) (suc i) (suc j) v = elim (got_elsewhere ys i j v) [
  | (inl same) ↦ inl (ap (λ n. suc n) same)
  | (inr was) ↦ inr was
]

-- a place that asks for such marks as a group has
abbrev pub MarksFit : AskedPlace → Type 0
MarksFit asked =
    Within (range_of asked.instruction) (range_of any_marks) × Within (range_of asked.alternatives) (range_of any_marks)

module _ (list : List AskedPlace) (p : ℕ) (new : AskedPlace) (there : p < length list)
    (before : told_or_any (slice_get list p) ≡ asks_for_any) (fit : MarksFit new) where
  abbrev replaced : List AskedPlace
  replaced = slice_set list p new

  abbrev old : PlacesAsk
  old = asks_of list

  abbrev now : PlacesAsk
  now = asks_of replaced

  abbrev told : (AskedPlace → AskedMarks) → List AskedPlace → ℕ → MarkRange
  told part xs i = range_of (part (told_or_any (slice_get xs i)))

  here : told_or_any (slice_get replaced p) ≡ new
  here = ap told_or_any (got_here list p new there)

  same_or : (part : AskedPlace → AskedMarks) (i : ℕ) → (i ≡ p) ⊎ (told part replaced i ≡ told part list i)
  same_or part i = elim (got_elsewhere list p i new) [
    | (inl e) ↦ inl e
    | (inr e) ↦ inr (ap (λ o. range_of (part (told_or_any o))) e)
  ]

  less : (part : AskedPlace → AskedMarks) → Within (range_of (part new)) (range_of (part asks_for_any)) → (i : ℕ)
      → Within (told part replaced i) (told part list i)
  less part fits i = elim (same_or part i) [
    | (inl e) ↦
        let at : Within (told part replaced p) (told part list p) =
        subst (λ a. Within (range_of (part a)) (told part list p)) (sym here)
        (subst (λ a. Within (range_of (part new)) (range_of (part a))) (sym before) fits) in
        subst (λ n. Within (told part replaced n) (told part list n)) (sym e) at
    | (inr e) ↦ subst (λ r. Within r (told part list i)) (sym e) (λ k l. l)
  ]

  narrower : IsNarrower now old
  narrower = record {
    instruction = less (λ a. a.instruction) fit.0;
    alternatives = less (λ a. a.alternatives) fit.1;
  }

  same_but : IsSameBut p now old
  same_but = record { instruction = same_or (λ a. a.instruction); alternatives = same_or (λ a. a.alternatives) }

  -- a place more is told
  pub asked_more : (ws : List ℕ) → AllAsked ws list → InstructionAsks ws list p new.instruction
      → AlternativesAsk ws (asks_of list) (range_of new.alternatives) p → AllAsked ws replaced
  asked_more ws was asks others = record {
    told =
        one_place_told (λ k. ⊥) ws old now p was.told narrower same_but
        (λ o w. subst (λ a. AsksAt (λ k. ⊥) ws old (range_of a.instruction) (role o) p) (sym here) (asks.each o w))
        (subst (λ a. AlternativesAsk ws old (range_of a.alternatives) p) (sym here) others);
  }

  pub marks_more : AreMarks list → AreMarks replaced
  marks_more are = record {
    instruction = λ i k l. are.instruction i k (narrower.instruction i k l);
    alternatives = λ q k l. are.alternatives q k (narrower.alternatives q k l);
  }

  pub none_before : (was : ℕ) → p ≤ was → NoneBefore list was → NoneBefore replaced p
  none_before was le none = record {
    each = λ i l. elim (got_elsewhere list p i new) [
      | (inl e) ↦ absurd (omega (arith, l, e))
      | (inr e) ↦ ap told_or_any e ∙ none.each i (omega (arith, l, le))
    ];
  }

-- any mark may be asked for, as long as no place is told
module _ (list : List AskedPlace) (any : AskedPlace) (is : any ≡ asks_for_any)
    (each : (i : ℕ) (x : AskedPlace) → slice_get list i ≡ Some x → x ≡ any) where
  untold : (i : ℕ) → told_or_any (slice_get list i) ≡ asks_for_any
  untold i = by_item (slice_get list i) refl
    where
      by_item : (o : Option AskedPlace) → slice_get list i ≡ o → told_or_any o ≡ asks_for_any
      by_item None e = refl
      by_item (Some x) e = each i x e ∙ is

  pub all_untold : (ws : List ℕ) → AreWords ws → AllAsked ws list
  all_untold ws are = record {
    told =
        told_everywhere (λ k. ⊥) ws (asks_of list) (range_of any_marks)
        (λ i. ap (λ a. range_of a.instruction) (untold i)) (λ q. ap (λ a. range_of a.alternatives) (untold q))
        (named_groups ws are);
  }

  pub marks_untold : AreMarks list
  marks_untold = record {
    instruction = λ i. subst (λ a. Within (range_of a.instruction) (range_of any_marks)) (sym (untold i)) (λ k l. l);
    alternatives = λ q. subst (λ a. Within (range_of a.alternatives) (range_of any_marks)) (sym (untold q)) (λ k l. l);
  }

  pub none_told : (place : ℕ) → NoneBefore list place
  none_told place = record { each = λ i l. untold i }

-- a list says yes of no place from which a mark is asked for
pub record SaysOfNone (list : List AskedPlace) (idle : List Bool) : Type 0 where
  pub none : (i : ℕ) → slice_get idle i ≡ Some true → (k : ℕ) → Lies k ((asks_of list).instruction i) → ⊥

-- so it says yes of places at which marks make no difference
pub idle_told : (ws : List ℕ) (list : List AskedPlace) (idle : List Bool) → AllAsked ws list → SaysOfNone list idle
    → AreIdle ws idle
idle_told ws list idle all says = are_idle ws (asks_of list) all.told idle says.none

-- a list that has no place says yes of none, and one that says it of one place more is still right
pub says_nothing : (list : List AskedPlace) (idle : List Bool) → idle ≡ [] → SaysOfNone list idle
says_nothing list idle e = record { none = λ i says k l. absurd (cc (says, e)) }

appended : {X : Type 0} (xs : List X) (v w : X) (i : ℕ) → slice_get (xs ++ v ∷ []) i ≡ Some w
    → (slice_get xs i ≡ Some w) ⊎ ((i ≡ length xs) × (v ≡ w))
appended [] v w zero e = inr (refl, cc)
appended [] v w (suc i) e = inl e
appended (x ∷ xs) v w zero e = inl e
appended (x ∷ xs) v w (suc i) e = elim (appended xs v w i e) [
  | (inl there) ↦ inl there
  | (inr last) ↦ inr (ap (λ n. suc n) last.0, last.1)
]

pub says_more : (list : List AskedPlace) (idle now : List Bool) (place : ℕ) (told : Bool) (marks : AskedMarks)
    → length idle ≡ place → now ≡ idle ++ told ∷ [] → HaveAll marks ((asks_of list).instruction place)
    → (told ≡ true → marks.end ≤ marks.from) → SaysOfNone list idle → SaysOfNone list now
says_more list idle now place told marks long same has empty says = record { none = λ i said k l. go i said k l }
  where
    go : (i : ℕ) → slice_get now i ≡ Some true → (k : ℕ) → Lies k ((asks_of list).instruction i) → ⊥
    go i said k l = elim (appended idle told true i (subst (λ xs. slice_get xs i ≡ Some true) same said)) [
      | (inl before) ↦ says.none i before k l
      | (inr last) ↦
          let at : Lies k (range_of marks) =
          has.all k (subst (λ n. Lies k ((asks_of list).instruction n)) (last.0 ∙ long) l) in
          let none : marks.end ≤ marks.from = empty last.1 in
          absurd (omega (arith, at.0, at.1, none))
    ]

-- a test stands where its opcode and its operand do
stands_here : {ws : List ℕ} {i : ℕ} {o : SreOpcode} → Opcode ws i o → (end : ℕ) (t : Test) → o ≡ test_opcode t
    → TestOperands ws i end t → HasTest ws i
stands_here {ws} {i} w end t e h =
    record { end = end; test = t; stands = record { code = subst (Opcode ws i) e w; operands = h } }

pub category_here : (ws : List ℕ) (i v : ℕ) (o : SreOpcode) (code : SreCatCode) → Opcode ws i o → o ≡ opcode.CATEGORY
    → Word ws (i + 1) v → category_number code ≡ v → HasTest ws i
category_here ws i v o code w e wv same =
    stands_here w (i + 2) (InCategory code) e (subst (Word ws (i + 1)) (sym same) wv, refl)

pub test_here : (ws : List ℕ) (i v : ℕ) (o : SreOpcode) → Opcode ws i o → Word ws (i + 1) v
    → (o ≡ opcode.ANY) ⊎ ((o ≡ opcode.LITERAL) ⊎ ((o ≡ opcode.LITERAL_IGNORE)
    ⊎ ((o ≡ opcode.LITERAL_UNI_IGNORE) ⊎ (o ≡ opcode.NOT_LITERAL))))
    → HasTest ws i
test_here ws i v o w wv (inl e) = stands_here w (i + 1) Any e refl
test_here ws i v o w wv (inr (inl e)) = stands_here w (i + 2) (Literal Plain v) e (wv, refl)
test_here ws i v o w wv (inr (inr (inl e))) = stands_here w (i + 2) (Literal Ascii v) e (wv, refl)
test_here ws i v o w wv (inr (inr (inr (inl e)))) = stands_here w (i + 2) (Literal Unicode v) e (wv, refl)
test_here ws i v o w wv (inr (inr (inr (inr e)))) = stands_here w (i + 2) (NotLiteral Plain v) e (wv, refl)

-- what an instruction of a group of opcodes admits
module _ (ws : List ℕ) (i : ℕ) (o : SreOpcode) (set : ℕ → Bool) (w : Opcode ws i o) where
  as_role : {p : SreOpcode} → o ≡ p → LeadsOnly ws set (role p) i → AdmitsOnly ws (Instruction i) set
  as_role e h = leads_admit ws i o set w (subst (λ q. LeadsOnly ws set (role q) i) (sym e) h)

  pub next_admits : (o ≡ opcode.MARK) ⊎ ((o ≡ opcode.AT) ⊎ (o ≡ opcode.ATOMIC_GROUP))
      → AdmitsOnly ws (Instruction (i + 2)) set → AdmitsOnly ws (Instruction i) set
  next_admits (inl e) h = as_role e h
  next_admits (inr (inl e)) h = as_role e h
  next_admits (inr (inr e)) h = as_role e h

  pub skip_admits : (t : ℕ) → t ≡ skip ws (i + 1)
      → (o ≡ opcode.JUMP) ⊎ ((o ≡ opcode.ASSERT) ⊎ (o ≡ opcode.ASSERT_NOT))
      → AdmitsOnly ws (Instruction t) set → AdmitsOnly ws (Instruction i) set
  skip_admits t leads (inl e) h = as_role e (subst (λ q. AdmitsOnly ws (Instruction q) set) leads h)
  skip_admits t leads (inr (inl e)) h = as_role e (subst (λ q. AdmitsOnly ws (Instruction q) set) leads h)
  skip_admits t leads (inr (inr e)) h = as_role e (subst (λ q. AdmitsOnly ws (Instruction q) set) leads h)

  pub run_admits : (o ≡ opcode.REPEAT_ONE) ⊎ ((o ≡ opcode.MIN_REPEAT_ONE) ⊎ (o ≡ opcode.POSSESSIVE_REPEAT_ONE))
      → RunsOnly ws i set → AdmitsOnly ws (Instruction i) set
  run_admits (inl e) h = as_role e h
  run_admits (inr (inl e)) h = as_role e h
  run_admits (inr (inr e)) h = as_role e h

  pub loop_admits : (t : ℕ) → t ≡ skip ws (i + 1) → o ≡ opcode.REPEAT
      → ((order : Order) × Opcode ws t (until_opcode order)) → RepeatsOnly ws i set → AdmitsOnly ws (Instruction i) set
  loop_admits t leads e ends h =
      as_role e ((ends.0, subst (λ q. Opcode ws q (until_opcode ends.0)) leads ends.1), h)

  pub possessive_admits : o ≡ opcode.POSSESSIVE_REPEAT → RepeatsOnly ws i set → AdmitsOnly ws (Instruction i) set
  possessive_admits e h = as_role e h

  pub test_admits : (o ≡ opcode.ANY) ⊎ ((o ≡ opcode.LITERAL) ⊎ ((o ≡ opcode.LITERAL_IGNORE)
      ⊎ ((o ≡ opcode.LITERAL_UNI_IGNORE) ⊎ ((o ≡ opcode.NOT_LITERAL) ⊎ ((o ≡ opcode.CATEGORY)
      ⊎ (o ≡ opcode.IN))))))
      → TestsOnly ws i set → AdmitsOnly ws (Instruction i) set
  test_admits (inl e) h = as_role e h
  test_admits (inr (inl e)) h = as_role e h
  test_admits (inr (inr (inl e))) h = as_role e h
  test_admits (inr (inr (inr (inl e)))) h = as_role e h
  test_admits (inr (inr (inr (inr (inl e))))) h = as_role e h
  test_admits (inr (inr (inr (inr (inr (inl e)))))) h = as_role e h
  test_admits (inr (inr (inr (inr (inr (inr e)))))) h = as_role e h

-- what a list tells of a place that it has
pub told_there : (ws : List ℕ) (list : List Admitted) (i : ℕ) (a d : Admitted) → AllAdmitted ws list
    → true ≡ nat_lt i (length list) → a ≡ slice_index_or list i d → IsAdmitted ws i a
told_there ws list i a d all there same =
    let inside : i < length list = grind (arith, nat_tests) in
    all.each i a (get_some list i d inside ∙ ap (λ x. Some x) (sym same))

-- nothing comes of a point before a character that it does not admit
pub nothing_before : (r : Run) (pt : Point) (set : ℕ → Bool) (c p : ℕ) → AdmitsOnly r.words pt set → IsOutside set c
    → c ≡ char_at r.subject p → Exhausted r pt p
nothing_before r pt set c p only out same = λ fs m os n x.
    only.none r.subject p (record { character = c; outside = out; next = λ _. same }) fs m os n x
