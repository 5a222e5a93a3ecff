-- What a pattern that covers a code implies for its matches.
use Rattle.sre_finder.proofs.Terms.{◌≡◌, ◌≤◌, ◌<◌, ◌+◌, ℕ, List, [], length, Some, None, refl, ap, sym, subst, ◌∙◌}
use Rattle.sre_finder.proofs.Terms.{arith, Re, meaning, Hir, Tree, WholeItems, no_marks, ways, Asked, subject_of}
use Rattle.sre_finder.proofs.Terms.{at_start, first_accepted, words_of, uni_of, Code, ExactTree, view_of, Encoding}
use Rattle.sre_finder.proofs.Terms.{NoneLeft, NoneUpTo, NoneBetween, SeenAs, Covering, Filters, EndStands}
use Rattle.sre_finder.proofs.Terms.{NoneLeftOfAny, Suits, Option, IfSome, Table, StringCursor, behind_block, SetsOf}
use Rattle.sre_finder.proofs.Terms.{CoveringAny, SamePatterns, ExactlyAny}
use Rattle.regex_hir.specs.Matches.{Matches}
use Rattle.sre_patterns.specs.Covers.{CoversStart}
use Rattle.sre_finder.specs.declared.kept.Kept.{Kept}
use Rattle.sre_finder.specs.declared.prefilter.Prefilter.{Prefilter}
use Rattle.sre_code.specs.Codes.{items_of}

module _ (encoding : Encoding) (a : Asked) (t : Tree) (re : Re) (place : ℕ → ℕ) (hay : List ℕ)
    (covers : CoversStart (view_of encoding) a.table re t) (seen : SeenAs encoding a.text place a.end hay) where
  -- where no match of the pattern begins, none of the code does
  none_at : (s : ℕ) → s ≤ a.end → ((j : ℕ) → Matches hay re (place s) j → ⊥) → at_start a t s ≡ None
  none_at s inside none =
      let no_way : ways (subject_of a) t s no_marks ≡ [] =
      covers.covers (subject_of a) hay place (seen.seen (subject_of a) refl refl) refl s no_marks inside none in
      ap (first_accepted a s) no_way

  within : (s : ℕ) → s ≤ a.end → place s ≤ length hay
  within s inside = omega (arith, seen.order s a.end inside (omega arith), seen.whole)

  -- where no match of the pattern is left, none of the code is
  pub no_start_left : (p : ℕ) → NoneLeft hay re (place p) → NoneBetween a t p (a.end + 1)
  no_start_left p none = λ s from to.
      let inside : s ≤ a.end = omega (arith, to) in
      none_at s inside (λ j match. none.none (place s) j (seen.order p s from inside) (within s inside) match)

  -- where none begins below a place, none of the code does before the positions that stand there
  pub no_start_below : (p next offset : ℕ) → NoneUpTo hay re (place p) offset → next ≤ a.end
      → ((q : ℕ) → p ≤ q → q < next → place q < offset) → NoneBetween a t p next
  no_start_below p next offset none inside passed = λ s from to.
      let here : s ≤ a.end = omega (arith, to, inside) in
      none_at s here (λ j match. none.none (place s) j (seen.order p s from here) (passed s from to) match)

-- what seeks a pattern that covers a code covers it, if there is such a thing
pub covering : (encoding : Encoding) (code : Code) (o : Option Hir) (pattern : Hir) → IfSome o (λ hir. hir ≡ pattern)
    → ((t : Tree) → WholeItems (items_of code) t → CoversStart (view_of encoding) (uni_of code) (meaning pattern) t)
    → CoveringAny encoding code o
covering encoding code None pattern same covers = tt
covering encoding code (Some hir) pattern same covers =
    subst (λ h. Covering encoding code (meaning h)) (sym same) (record { covers = covers })

-- what covers a code covers each code of its words and its table
same_items : (code other : Code) → words_of other ≡ words_of code → items_of other ≡ items_of code
unfolding items_of
same_items code other e = ap behind_block e

pub covering_moved : (encoding : Encoding) (code other : Code) (o : Option Hir) → words_of other ≡ words_of code
    → uni_of other ≡ uni_of code → CoveringAny encoding code o → CoveringAny encoding other o
covering_moved encoding code other None e f c = tt
covering_moved encoding code other (Some hir) e f c = record {
  covers = λ t whole.
      subst (λ u. CoversStart (view_of encoding) u (meaning hir) t) (sym f)
      (c.covers t (subst (λ ws. WholeItems ws t) (same_items code other e) whole));
}

pub exactly_moved : (encoding : Encoding) (code other : Code) (o : Option Hir) → words_of other ≡ words_of code
    → uni_of other ≡ uni_of code → ExactlyAny encoding code o → ExactlyAny encoding other o
exactly_moved encoding code other None e f x = tt
exactly_moved encoding code other (Some hir) e f x = record {
  reads = x.reads;
  exact = λ t whole.
      subst (λ u. ExactTree (view_of encoding) u (meaning hir) t) (sym f)
      (x.exact t (subst (λ ws. WholeItems ws t) (same_items code other e) whole));
}

-- a window's end stands in a text in one way
pub end_once : (stands : StringCursor → ℕ → Type 0) → ((c : StringCursor) (p : ℕ) → IsProp (stands c p))
    → (o : Option StringCursor) → IsProp (EndStands stands o)
end_once stands once None = λ x y. refl
end_once stands once (Some end) = once end end.position

-- where no match is left of a pattern that covers a code, none of the code is
pub none_left_of_any : (encoding : Encoding) (code : Code) (o : Option Hir) → CoveringAny encoding code o → (a : Asked)
    → a.table ≡ uni_of code → (t : Tree) → WholeItems (items_of code) t → (place : ℕ → ℕ) → (hay : List ℕ)
    → SeenAs encoding a.text place a.end hay → (p : ℕ) → NoneLeftOfAny hay o (place p) → NoneBetween a t p (a.end + 1)
none_left_of_any encoding code None covering a table t whole place hay seen p left = absurd left
none_left_of_any encoding code (Some hir) covering a table t whole place hay seen p left =
    no_start_left encoding a t (meaning hir) place hay
    (subst (λ u. CoversStart (view_of encoding) u (meaning hir) t) (sym table) (covering.covers t whole)) seen p left

-- the same patterns cover the same code
pub filters_same : (code : Code) (old new : Prefilter) → SamePatterns old new → Filters code old → Filters code new
filters_same code old new same filters = (
  subst (λ o. CoveringAny new.encoding code o) (sym same.seeker)
      (subst (λ e. CoveringAny e code old.seeker) (sym same.encoding) filters.0),
  subst (λ o. CoveringAny new.encoding code o) (sym same.whole)
      (subst (λ e. CoveringAny e code old.whole) (sym same.encoding) filters.1),
)

-- what is kept suits the same codes as long as its patterns and its memory are the same
pub suits_same : (ws : List ℕ) (uni : Table) (old new : Kept) → SamePatterns old.starts new.starts
    → new.spans.encoding ≡ old.spans.encoding → new.spans.exact ≡ old.spans.exact → new.memory ≡ old.memory
    → Suits ws uni old → Suits ws uni new
suits_same ws uni old new same e x m suits = record {
  starts = λ code w u. (filters_same code old.starts new.starts same (suits.starts code w u, suits.whole code w u)).0;
  whole = λ code w u. (filters_same code old.starts new.starts same (suits.starts code w u, suits.whole code w u)).1;
  exact = λ code w u.
      subst (λ o. ExactlyAny new.spans.encoding code o) (sym x)
      (subst (λ k. ExactlyAny k code old.spans.exact) (sym e) (suits.exact code w u));
  serves = subst (λ o. IfSome o (λ m. SetsOf (behind_block ws) m.value.sets)) (sym m) suits.serves;
}

-- what a prefilter has for a code suits each code of its words and its table
module _ (ws : List ℕ) (uni : Table) (code : Code) (words : words_of code ≡ ws) (table : uni_of code ≡ uni) where
  pub filters_kept : (kept : Kept) (starts : Prefilter) → Suits ws uni kept → Filters code starts
      → Suits ws uni (record kept { starts = starts })
  filters_kept kept starts suits filters = record {
    starts = λ other w u.
        covering_moved starts.encoding code other starts.seeker (w ∙ sym words) (u ∙ sym table) filters.0;
    whole = λ other w u.
        covering_moved starts.encoding code other starts.whole (w ∙ sym words) (u ∙ sym table) filters.1;
    exact = suits.exact;
    serves = suits.serves;
  }
