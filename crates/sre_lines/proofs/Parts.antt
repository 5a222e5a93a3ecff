-- Pieces that are written one after the other: where a write fails, a part of them all was written.
use Rattle.sre_lines.proofs.Terms.{ℕ, ◌≡◌, ◌∙◌, List, ◌++◌, Option, Result, Ok, Err, sym, ap, subst, append_assoc, inl}
use Rattle.sre_lines.proofs.Terms.{inr, OnOk, OnErr, Appends, Appends-trans, AppendsPart, CaseFault, Detail, ◌⊎◌}
use Rattle.sre_lines.proofs.Terms.{fault_text, ◌∷◌, Bool, true, false, refl, Tree, Whole}
use Rattle.std.specs.Prelude.{Vec}
use Rattle.std.specs.Global.{Global}
use Rattle.sre_lines.specs.Program.{end_of, Tells, TellsFault, IsTablelessEnd, IsTableFault, IsTableless}
use Rattle.sre_lines.specs.declared.program.Ending.{Ending}
use Rattle.sre_lines.specs.declared.program.Ending.TheVariants.{AllAnswered, Told, Untold}
use Rattle.sre_engine.specs.Marks.{Marks, no_marks}
use Rattle.sre_engine.specs.Found.{Match}
use Rattle.sre_finder.specs.Spans.{match_with}
use Rattle.sre_lines.specs.Cases.{span_text, gap_text, others_text, walk_text}

-- what a failed write of the front leaves
pub front_part : {T E : Type 0} (old new : Option (List ℕ)) (front end : List ℕ) (r : Result T E)
    → AppendsPart old new front → OnErr r (AppendsPart old new (front ++ end))
front_part old new front end (Ok x) p = tt
front_part old new front end (Err e) (part, rest, split, a) =
    (part, rest ++ end, sym (append_assoc part rest end) ∙ ap (λ l. l ++ end) split, a)

-- a write behind one that wrote the front
pub behind_whole : {T E : Type 0} (old mid new : Option (List ℕ)) (front bytes said : List ℕ) (r : Result T E)
    → bytes ≡ said → Appends old mid front → OnOk r (Appends mid new bytes) → OnOk r (Appends old new (front ++ said))
behind_whole old mid new front bytes said (Ok x) same a b =
    Appends-trans old mid new front said a (subst (λ (l : List ℕ). Appends mid new l) same b)
behind_whole old mid new front bytes said (Err e) same a b = tt

pub behind_part : {T E : Type 0} (old mid new : Option (List ℕ)) (front bytes said : List ℕ) (r : Result T E)
    → bytes ≡ said → Appends old mid front → OnErr r (AppendsPart mid new bytes)
    → OnErr r (AppendsPart old new (front ++ said))
behind_part old mid new front bytes said (Ok x) same a b = tt
behind_part old mid new front bytes said (Err e) same a (part, rest, split, b) = (
  front ++ part,
  rest,
  append_assoc front part rest ∙ ap (λ l. front ++ l) (split ∙ same),
  Appends-trans old mid new front part a b,
)

pub ruleset in_parts = (front_part, behind_part, behind_whole)

which : (fault : CaseFault) (ending : Ending) → end_of ending ≡ Err fault
    → (ending ≡ Told fault) ⊎ (ending ≡ Untold fault)
which fault AllAnswered is = absurd (cc)
which fault (Told other) is = inl (cc)
which fault (Untold other) is = inr (cc)

-- Where the program ends at a fault, that is told, or a part of it.
module _ (old new : Option (List ℕ)) (name end : List ℕ) (fault : CaseFault) (ending : Ending)
    (is : end_of ending ≡ Err fault) (line : ending ≡ Told fault → Appends old new (fault_text fault name ++ end))
    (part : ending ≡ Untold fault → AppendsPart old new (fault_text fault name ++ end)) where
  pub told : Tells old new name end ending
  told = elim (which fault ending is) [ inl so ↦ rw so (line so) | inr so ↦ rw so (part so) ]

  -- the same with what stands behind the fault's text
  pub told_fault : (Ends : CaseFault → List ℕ → Type 0) → Ends fault end → TellsFault Ends old new name ending
  told_fault Ends at =
      elim (which fault ending is) [ inl so ↦ rw so (end, at, line so) | inr so ↦ rw so (end, at, part so) ]

  -- a file that is no table, or memory refused to it
  pub no_table : (detail : Detail) (file : Vec ℕ Global) → IsTableFault (Ok file) fault
      → IsTablelessEnd detail (Ok file) fault end → IsTableless detail (Ok file) old new name ending
  no_table detail file of at = record {
    fault = fault;
    ends = is;
    is = of;
    tells = told_fault (λ fault end. IsTablelessEnd detail (Ok file) fault end) at;
  }

-- Of a walk what is there and what is still to come make the whole.

-- what is still to come of the matches that are left, at first or behind a span
abbrev pub rest_text : Bool → List Match → List ℕ
rest_text true ms = walk_text ms
rest_text false ms = others_text ms

next_text : (first : Bool) (m : Match) (ms : List Match)
    → rest_text first (m ∷ ms) ≡ gap_text first ++ (span_text m ++ others_text ms)
next_text true m ms = refl
next_text false m ms = append_assoc (gap_text false) (span_text m) (others_text ms)

-- of the matches of a code's words, `now` stands there, behind `before`
pub record Written (words : List ℕ) (all : Tree → List Match) (before now : List ℕ) (first : Bool)
    (left : Tree → List Match) : Type 0 where
  pub whole : (t : Tree) → Whole words t → now ++ rest_text first (left t) ≡ before ++ walk_text (all t)

module _ (words : List ℕ) (all : Tree → List Match) (before now : List ℕ) (left : Tree → List Match) where
  -- a span more, whatever marks its match has
  pub one_written : (first : Bool) (start end : ℕ) (after : Tree → List Match) (more : List ℕ)
      → Written words all before now first left
      → ((t : Tree) → Whole words t → (marks : Marks) × (left t ≡ match_with start end marks ∷ after t))
      → more ≡ (now ++ gap_text first) ++ span_text (match_with start end no_marks)
      → Written words all before more false after
  one_written first start end after more written next grown = record {
    whole = λ t is.
        rw (grown, ← written.whole t is, (next t is).1, next_text first _ (after t)) (simp append_assoc);
  }
