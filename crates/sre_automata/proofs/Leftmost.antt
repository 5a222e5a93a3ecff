-- What the ends and the starts of a DFA's matches imply for a pattern's.
use Rattle.sre_automata.proofs.Terms.{◌≡◌, ◌≤◌, ◌<◌, ℕ, List, length, Option, Some, None, refl, sym, ap, ◌∙◌, subst}
use Rattle.sre_automata.proofs.Terms.{arith, Re, Trace, accept, attempt, Accepts, Nfa, Implements, HasPaths, end_from}
use Rattle.sre_automata.proofs.Terms.{IsLeast, NoneLeft, NoneUpTo, IsBetween, NoneBetween, EndsAt}
use Rattle.std.proofs.Common.{All, option_map, inl, inr, Fits, w8, get_or}
use Rattle.std.proofs.Math.Logic.{∥∥₁_elim}
use Rattle.std.proofs.lemmas.Bool.{cases_lt}
use Rattle.std.proofs.lemmas.List.Elements.{All-from_get_or}
use Rattle.regex_hir.specs.Find.{Match, find}
use Rattle.regex_hir.proofs.FindLemmas.{none_of_first_between, first_between_cong, first_between_skip}
use Rattle.regex_hir.proofs.FindLemmas.{first_between_here}
use Rattle.regex_nfa.specs.Run.{run, find_in}
use Rattle.regex_nfa.proofs.PathsLemmas.{no_path_of_run_none}
use Rattle.regex_nfa.proofs.SearchLemmas.{run_unanchored, find_in_paths}
use Rattle.regex_nfa.proofs.StopLemmas.{Accepts_stop, Accepts_wider}
use Rattle.regex_dfa.specs.declared.reverse.Start.TheVariants as start

pub are_bytes : (hay : List ℕ) → ((i : ℕ) → Fits w8 (get_or hay i 0)) → All (λ b. b < 256) hay
are_bytes hay h = All-from_get_or (λ b. b < 256) hay 0 (λ i _. omega (arith, h i))

-- where the leftmost match ends that a search finds, if any
abbrev ends : Option Match → Option ℕ
ends o = option_map (λ (t : Trace). t.end) (option_map (λ (m : Match). m.trace) o)

no_match : (o : Option Match) → ends o ≡ None → o ≡ None
no_match None e = refl
no_match (Some m) e = absurd (cc e)

some_match : (o : Option Match) (end : ℕ) → ends o ≡ Some end → (m : Match) × (o ≡ Some m) × (m.trace.end ≡ end)
some_match None end e = absurd (cc e)
some_match (Some m) end e = (m, refl, cc e)

module _ (nfa : Nfa) (re : Re) (hay : List ℕ) (paths : HasPaths nfa re) (bytes : All (λ b. b < 256) hay) (from : ℕ)
    (inside : from ≤ length hay) where
  searched : end_from nfa hay (length hay) nfa.unanchored from ≡ ends (find_in nfa hay (length hay) from)
  searched =
      ap (option_map (λ (t : Trace). t.end)) (run_unanchored nfa hay (length hay) from bytes (omega arith) inside)

  -- where no match ends, none is left
  pub none_left : end_from nfa hay (length hay) nfa.unanchored from ≡ None → NoneLeft hay re from
  unfolding find_in
  none_left e =
      let nothing = no_match (find_in nfa hay (length hay) from) (sym searched ∙ e) in
      record {
        none = λ i j l within m.
            let stays = none_of_first_between (run nfa hay (length hay) nfa.start) from (length hay) nothing i l
            within in
            no_path_of_run_none nfa hay (length hay) j nfa.start i stays (paths hay i j m);
      }

  -- where the leftmost match ends, none begins below the least start of a path to that end
  pub none_below : (end least : ℕ) → end_from nfa hay (length hay) nfa.unanchored from ≡ Some end → end ≤ length hay
      → IsLeast (Accepts nfa hay end end nfa.start) from end (start.At least) → NoneUpTo hay re from least
  none_below end least e l is =
      let some = some_match (find_in nfa hay (length hay) from) end (sym searched ∙ e) in
      let m = some.0 in
      let found = find_in_paths nfa hay (length hay) from m some.1 in
      let path : Accepts nfa hay end end nfa.start m.start =
      subst (λ n. Accepts nfa hay n n nfa.start m.start) some.2
      (Accepts_stop nfa hay (length hay) m.trace.end m.trace.end nfa.start m.start (omega arith) found.2) in
      record {
        after = is.0;
        inside = omega (arith, is.1, l);
        none = λ i j low high match. elim (cases_lt m.start least) [
          | (inl less) ↦ is.3 m.start found.0 less path
          | (inr more) ↦ found.3 i j low (omega (arith, high, more)) (paths hay i j match)
        ];
      }

-- where none begins in between, the search finds the same from there
module _ (nfa : Nfa) (re : Re) (hay : List ℕ) (is : Implements nfa re) (from at : ℕ) (gap : NoneBetween nfa hay from at)
  where
    pub find_skips : find re hay from ≡ find re hay at
    unfolding find
    find_skips =
        first_between_skip (attempt hay re accept) from at (length hay) gap.after
        (λ i p q. sym (is hay i) ∙ gap.none i p q)

    pub found_behind : (least end : ℕ) → IsBetween hay re at least end → IsBetween hay re from least end
    found_behind least end b = record {
      match = b.match;
      found = find_skips ∙ b.found;
      begins = b.begins;
      ends = b.ends;
      after = omega (arith, gap.after, b.after);
      forward = b.forward;
      inside = b.inside;
    }

    -- a path that begins there is the first
    pub found_here : (end : ℕ) → at ≤ length hay → EndsAt nfa hay at end → IsBetween hay re from at end
    unfolding find
    found_here end inside e =
        let trace = some_trace (run nfa hay (length hay) nfa.start at) end e.ends in
        found_behind at end (record {
          match = record { start = at; trace = trace.0 };
          found =
              first_between_here (attempt hay re accept) at (length hay) trace.0 inside (sym (is hay at) ∙ trace.1);
          begins = refl;
          ends = trace.2;
          after = omega arith;
          forward = e.forward;
          inside = e.inside;
        })
      where
        some_trace : (o : Option Trace) (end : ℕ) → option_map (λ (t : Trace). t.end) o ≡ Some end
            → (t : Trace) × (o ≡ Some t) × (t.end ≡ end)
        some_trace None end e = absurd (cc e)
        some_trace (Some t) end e = (t, refl, cc e)

-- the match that is found has the end of the leftmost, and begins at the least start of a path to there
module _ (nfa : Nfa) (re : Re) (hay : List ℕ) (is : Implements nfa re) (bytes : All (λ b. b < 256) hay) (from : ℕ)
    (inside : from ≤ length hay) where
  same_find : find_in nfa hay (length hay) from ≡ find re hay from
  unfolding find_in find
  same_find = first_between_cong _ _ from (length hay) (λ i p q. is hay i)

  ended : end_from nfa hay (length hay) nfa.unanchored from ≡ ends (find_in nfa hay (length hay) from)
  ended = ap (option_map (λ (t : Trace). t.end)) (run_unanchored nfa hay (length hay) from bytes (omega arith) inside)

  pub nothing_found : end_from nfa hay (length hay) nfa.unanchored from ≡ None → find re hay from ≡ None
  nothing_found e = sym same_find ∙ no_match (find_in nfa hay (length hay) from) (sym ended ∙ e)

  pub first_found : (end least : ℕ) → end_from nfa hay (length hay) nfa.unanchored from ≡ Some end → end ≤ length hay
      → IsLeast (Accepts nfa hay end end nfa.start) from end (start.At least) → IsBetween hay re from least end
  first_found end least e l is =
      let some = some_match (find_in nfa hay (length hay) from) end (sym ended ∙ e) in
      let m = some.0 in
      let found = find_in_paths nfa hay (length hay) from m some.1 in
      let path : Accepts nfa hay end end nfa.start m.start =
      subst (λ n. Accepts nfa hay n n nfa.start m.start) some.2
      (Accepts_stop nfa hay (length hay) m.trace.end m.trace.end nfa.start m.start (omega arith) found.2) in
      record {
        match = m;
        found = sym same_find ∙ some.1;
        begins = elim (cases_lt m.start least) [
          | (inl below) ↦ absurd (is.3 m.start found.0 below path)
          | (inr past) ↦ elim (cases_lt least m.start) [
            | (inl before) ↦
                let wider = Accepts_wider nfa hay end (length hay) end nfa.start least l in
                absurd (∥∥₁_elim is.2 (λ p q. absurd p) (λ way. found.3 least end is.0 before (wider way)))
            | (inr at) ↦ omega (arith, past, at)
          ]
        ];
        ends = some.2;
        after = is.0;
        forward = is.1;
        inside = l;
      }
