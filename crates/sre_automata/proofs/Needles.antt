-- Where the bytes that each match contains occur no more, no match is left, and none is found.
use Rattle.sre_automata.proofs.Terms.{◌≡◌, ◌≤◌, ◌<◌, ◌-◌, ℕ, List, length, None, ap, ◌∙◌, subst, arith, map, sym}
use Rattle.sre_automata.proofs.Terms.{meaning, cat_all, Re, accept, attempt, NoneLeft, Contains}
use Rattle.std.proofs.Common.{◌+◌, zero, suc, [], ◌∷◌, drop, take, length-drop, get_or-drop, get_or, true, Vec, Global}
use Rattle.std.proofs.lemmas.List.{take_all}
use Rattle.std.proofs.Math.ListN.{get_or-append}
use Rattle.regex_hir.specs.declared.hir.Hir.{Hir}
use Rattle.regex_hir.specs.declared.hir.Hir.TheVariants.{Literal, Concat}
use Rattle.regex_hir.specs.Matches.{Matches}
use Rattle.regex_hir.specs.Text.{has_bytes_at}
use Rattle.regex_hir.proofs.TextLemmas.{has_bytes_at_parts, has_bytes_at_fits}
use Rattle.regex_hir.proofs.MatchesLemmas.{Matches-IsSpan}
use Rattle.regex_hir.proofs.MeaningLemmas.{meaning-Literal, meaning-Concat}
use Rattle.regex_hir.specs.Find.{find}
use Rattle.regex_hir.proofs.OptionLemmas.{none_of_no_value}
use Rattle.regex_hir.proofs.AttemptLemmas.{attempt_sound}
use Rattle.regex_hir.proofs.FindLemmas.{first_between_none}
use Rattle.memchr.specs.Find.{FindsNeedle, OccursAt}

-- bytes that a literal reads stand where it reads them
occurs_of : (hay bytes : List ℕ) (i : ℕ) → i ≤ length hay → has_bytes_at hay i bytes ≡ true → OccursAt hay bytes i
occurs_of hay bytes i inside e = record {
  fits = omega (arith, has_bytes_at_fits hay i bytes e, inside);
  reads = λ j l.
      sym (get_or-drop i hay j 0) ∙ ap (λ xs. get_or xs j 0) (has_bytes_at_parts hay i bytes e)
      ∙ get_or-append bytes (drop (i + length bytes) hay) 0 j l;
}

-- a literal contains its bytes
pub literal_contains : (bytes : Vec ℕ Global) → Contains (meaning (Literal bytes)) bytes.items
literal_contains bytes = subst (λ re. Contains re bytes.items) (sym (meaning-Literal bytes))
    (λ hay i j inside match. record {
      place = i;
      behind = omega arith;
      occurs = occurs_of hay bytes.items i inside match.0;
    })

-- and so does a sequence with that part
pub part_contains : (parts : List Hir) (n : ℕ) (other : Hir) (bytes : Vec ℕ Global) → n < length parts
    → get_or parts n other ≡ Literal bytes → Contains (cat_all (map meaning parts)) bytes.items
part_contains [] n other bytes l e = absurd (omega (arith, l))
part_contains (p ∷ parts) zero other bytes l e = λ hay i j inside match.
    literal_contains bytes hay i match.0 inside (subst (λ h. Matches hay (meaning h) i match.0) e match.1)
part_contains (p ∷ parts) (suc n) other bytes l e = λ hay i j inside match.
    let front = Matches-IsSpan hay (meaning p) i match.0 match.1 in
    let there = part_contains parts n other bytes (omega (arith, l)) e hay match.0 j (omega (arith, front.1, inside))
    match.2 in
    record { place = there.place; behind = omega (arith, front.0, there.behind); occurs = there.occurs }

-- what a sequence of parts contains, the pattern does that has them
pub sequence_contains : (parts : Vec Hir Global) (items : List Hir) (bytes : List ℕ) → items ≡ parts.items
    → Contains (cat_all (map meaning items)) bytes → Contains (meaning (Concat parts)) bytes
sequence_contains parts items bytes same contains =
    subst (λ re. Contains re bytes) (sym (meaning-Concat parts))
    (subst (λ l. Contains (cat_all (map meaning l)) bytes) same contains)

-- the same bytes of the same pattern
pub contains_same : (hir pattern : Hir) (bytes other : List ℕ) → hir ≡ pattern → other ≡ bytes
    → Contains (meaning pattern) bytes → Contains (meaning hir) other
contains_same hir pattern bytes other e f contains =
    subst (λ h. Contains (meaning h) other) (sym e) (subst (λ b. Contains (meaning pattern) b) (sym f) contains)

module _ (hay bytes : List ℕ) (start : ℕ) (inside : start ≤ length hay) where
  -- bytes that stand behind a place stand in what is left from there
  left_there : (k : ℕ) → start ≤ k → OccursAt hay bytes k → OccursAt (drop start hay) bytes (k - start)
  left_there k before occurs = record {
    fits = omega (arith, length-drop start hay, before, occurs.fits);
    reads = λ n l.
        let at : start + (k - start + n) ≡ k + n = omega (arith, before) in
        get_or-drop start hay (k - start + n) 0 ∙ ap (λ p. get_or hay p 0) at ∙ occurs.reads n l;
  }

  pub lacking : (rest sought : List ℕ) → rest ≡ take (length hay - start) (drop start hay)
      → sought ≡ bytes → FindsNeedle rest sought 0 None → (re : Re) → Contains re bytes → NoneLeft hay re start
  lacking rest sought e f nowhere re contains =
      let whole : rest ≡ drop start hay =
      e ∙ take_all (length hay - start) (drop start hay) (omega (arith, length-drop start hay)) in
      let none : FindsNeedle (drop start hay) bytes 0 None =
      subst (λ b. FindsNeedle (drop start hay) b 0 None) f (subst (λ l. FindsNeedle l sought 0 None) whole nowhere) in
      record {
        none = λ i j from within match.
            let there = contains hay i j within match in
            let occurs = left_there there.place (omega (arith, from, there.behind)) there.occurs in
            none (there.place - start) (omega arith) (omega (arith, occurs.fits)) occurs;
      }

-- where no match is left none is found
pub none_found : (hay : List ℕ) (re : Re) (start : ℕ) → NoneLeft hay re start → find re hay start ≡ None
unfolding find
none_found hay re start none =
    first_between_none (attempt hay re accept) start (length hay) (λ i p q.
    none_of_no_value (attempt hay re accept i) (λ t found.
    let way = attempt_sound hay re accept i t found in none.none i way.at p q way.leads))
