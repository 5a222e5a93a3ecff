-- The rows of an iteration: one more after those that exist, or why there is none, and what its searches leave of the
-- steps.
use Rattle.sre_c.proofs.Terms.{◌≡◌, ◌∙◌, ◌<◌, ◌+◌, ◌*◌, ℕ, List, [], ◌∷◌, ◌++◌, length, slice_index, true, false, Some}
use Rattle.sre_c.proofs.Terms.{None, Ok, refl, ap, subst, sym, arith, take, KeepBudget, append_assoc, length-append}
use Rattle.sre_c.proofs.Terms.{Ghosts, Tree, Whole, Asked, Match, walk, words_of, Request, start_of, end_of, code_of}
use Rattle.sre_c.proofs.Terms.{asked_of, must_advance_of, Shown, match_shown, match_with, No, StepLimit, SreWalked}
use Rattle.sre_c.proofs.Terms.{IsRow, IsWritten, KeepsBudget, IsSoFar, RowsKeep, WritesRows, Searched, suc, walk-next}
use Rattle.sre_c.proofs.Terms.{first_found, steps_span, AreRows, no_limit, RowsGoOn, AreWritten, WritesNext, WritesSpan}
use Rattle.sre_c.proofs.Terms.{Err, Memory, SreError}
use Rattle.sre_c.proofs.Matches.{search_kept, own_kept}

-- before the first match
pub none_kept : {S : Type 0} {text : Ghosts S} (first : Request S text) (count n : ℕ) → count ≡ 0
    → RowsGoOn first first count n n
none_kept first count n none =
    record { each = λ t whole more after kept. let same : count + more ≡ more = omega arith in rw same kept }

-- a row more stands behind rows, whose numbers stay
row_added : (ms : List Match) (m : Match) (at width place : ℕ) (old new : List ℕ) → place ≡ at + length ms * width
    → ((i : ℕ) → i < place → slice_index new i ≡ slice_index old i) → AreRows ms at width old
    → IsRow m place width new → AreRows (ms ++ m ∷ []) at width new
row_added [] m at width place old new is same rows row = (subst (λ p. IsRow m p width new) (is ∙ omega arith) row, tt)
row_added (n ∷ ms) m at width place old new is same rows row = (
  record { each = λ q small. same (at + q) (omega arith) ∙ rows.0.each q small },
  row_added ms m (at + width) width place old new (is ∙ omega arith) same rows.1 row,
)

-- with other steps noted
abbrev pub with_steps : SreWalked → ℕ → ℕ → SreWalked
with_steps w before left = record w { steps = left; steps_before = before }

-- after one more row, behind which a request is next
abbrev pub one_on : {S : Type 0} {text : Ghosts S} → SreWalked → ℕ → Request S text → SreWalked
one_on w left next = record {
  count = w.count + 1;
  start = start_of next;
  steps = left;
  steps_before = w.steps;
  must_advance = must_advance_of next;
}

-- the match of a row comes first of those that are left
row_first : {S : Type 0} {text : Ghosts S} {r next : Request S text} {at width : ℕ} {old new : List ℕ}
    (span : WritesSpan r next at width old new) (t : Tree) (whole : Whole (words_of (code_of r)) t)
    → walk (asked_of r) t ≡ match_with span.start (start_of next) (span.row t whole).0 ∷ walk (asked_of next) t
row_first {r = r} {next = next} span t whole =
    let row = span.row t whole in
    let m = match_with span.start (start_of next) row.0 in
    walk-next (asked_of r) t m row.1 ∙ ap (λ a. m ∷ walk a t) (sym span.goes_on.asked)

module _ {S : Type 0} {text : Ghosts S} {first r : Request S text} {width given : ℕ} {w : SreWalked} {rows : List ℕ}
    (before : AreWritten first r width given w rows) where
  -- the rows stay where other steps are noted
  pub stay : (m n : ℕ) → IsSoFar first r width (with_steps w m n) rows
  stay m n = record {
    written = λ t whole.
        let is = before.so_far.written t whole in
        record { written = is.written; both = is.both; count = is.count; in_rows = is.in_rows };
    code = before.so_far.code;
    same = before.so_far.same;
    inside = before.so_far.inside;
  }

  pub rows_keep : RowsKeep first w.count given w.steps
  rows_keep = record {
    each = λ t whole.
        let all : w.count + 0 ≡ w.count = omega arith in
        rw all at (before.kept.each t whole 0 w.steps refl);
  }

  -- none is left
  pub rows_over : (left : ℕ) → ((t : Tree) → Whole (words_of (code_of r)) t → walk (asked_of r) t ≡ [])
      → KeepsBudget (words_of (code_of r)) (asked_of r) (end_of r) (Ok (Some false)) w.steps left
      → WritesRows No first r given width (with_steps w w.steps left) rows
  rows_over left over budget =
      let own = ap words_of before.so_far.code in
      let so_far = stay w.steps left in (
        λ t whole. rw (over t (rw own whole)) at (so_far.written t whole),
        so_far,
        rows_keep,
        own_kept own budget,
      )

  -- one more is written
  pub row_more : {next : Request S text} {at : ℕ} {new : List ℕ} (left : ℕ)
      (span : WritesSpan r next at width rows new) → at ≡ w.count * width
      → KeepsBudget (words_of (code_of r)) (asked_of r) span.start (Ok (Some true)) w.steps left
      → (w.steps ≡ no_limit → left ≡ w.steps) → AreWritten first next width given (one_on w left next) new
  row_more {next} {at} {new} left span place budget unlimited =
      let goes = span.goes_on in
      let own = ap words_of before.so_far.code in
      let so_far = before.so_far in
      let noted = λ (a : Asked). record a { start = start_of next; must_advance = must_advance_of next } in
      record {
        so_far = record {
          written = λ t whole.
              let here : Whole (words_of (code_of r)) t = rw own whole in
              let is = so_far.written t whole in
              let row = span.row t here in
              let m = match_with span.start (start_of next) row.0 in
              let all = is.both ∙ ap (λ ms. is.written ++ ms) (row_first span t here) in
              let before_it = place ∙ ap (λ n. n * width) is.count ∙ omega arith in
              record {
                written = is.written ++ m ∷ [];
                both = all ∙ sym (append_assoc is.written (m ∷ []) (walk (asked_of next) t));
                count = omega (arith, is.count, length-append is.written (m ∷ []));
                in_rows = row_added is.written m 0 width at rows new before_it span.before is.in_rows row.2;
              };
          code = goes.pattern_codes ∙ so_far.code;
          same = ap noted goes.asked ∙ ap noted so_far.same;
          inside = omega (arith, goes.inside, ap (λ (a : Asked). a.end) so_far.same);
        };
        fewer = omega (arith, before.fewer, budget.kept.fewer);
        untaken = λ none. absurd (omega (arith, none));
        unlimited = λ none. unlimited (before.unlimited none ∙ none) ∙ before.unlimited none;
        kept = record {
          each = λ t whole more after kept.
              let words = words_of (code_of first) in
              let count : w.count + suc more ≡ w.count + 1 + more = omega arith in
              rw count at (before.kept.each t whole (suc more) after (rw (row_first span t (rw own whole)) (
                left,
                own_kept own budget,
                subst (λ a. KeepBudget words a (take more (walk (asked_of next) t)) left after) goes.asked kept,
              )));
        };
      }

module _ {S : Type 0} {text : Ghosts S} {r next : Request S text} {s : Shown} {width left : ℕ} {w : SreWalked} where
  -- the iteration ends
  pub ended : {rows : List ℕ} → Searched r (Ok (Some false)) s next w.steps left
      → WritesNext (Some No) r next width w (with_steps w w.steps left) rows rows
  ended x = rw (x.stepped.no refl).0 (record {
    each = λ first given before. (
      rows_over before left x.stepped.ok (search_kept x.stepped.counts x.again x.spent),
      omega (arith, before.fewer, x.spent.fewer),
      λ none. x.unlimited (before.unlimited none ∙ none) ∙ before.unlimited none,
    );
  })

  -- it exceeds the step limit
  pub limited : {rows : List ℕ} → Searched r (Ok None) s next w.steps left
      → WritesNext (Some StepLimit) r next width w (with_steps w w.steps left) rows rows
  limited x = rw x.stepped.err.0 (record {
    each = λ first given before. (
      (
        stay before w.steps left,
        x.spent.used refl,
        λ enough. x.spent.enough enough refl,
        before.untaken,
        rows_keep before,
        own_kept (ap words_of before.so_far.code) (search_kept x.stepped.counts x.again x.spent),
      ),
      omega (arith, before.fewer, x.spent.fewer),
      λ none. x.unlimited (before.unlimited none ∙ none) ∙ before.unlimited none,
    );
  })

  -- no memory is left
  pub refused : {rows : List ℕ} {e : SreError} → Searched r (Err e) s next w.steps left
      → WritesNext (Some Memory) r next width w (with_steps w w.steps left) rows rows
  refused x = rw x.stepped.err.0 (record {
    each = λ first given before. (
      (x.refused, stay before w.steps left, rows_keep before),
      omega (arith, before.fewer, x.spent.fewer),
      λ none. x.unlimited (before.unlimited none ∙ none) ∙ before.unlimited none,
    );
  })

  -- a match comes, whose row is written
  pub one_more : {u : SreWalked} {at : ℕ} {old new : List ℕ} → Searched r (Ok (Some true)) s next w.steps left
      → at ≡ w.count * width → u ≡ one_on w left next → IsRow (match_shown s) at width new
      → ((i : ℕ) → i < at → slice_index new i ≡ slice_index old i) → WritesNext None r next width w u old new
  one_more {u} {at} {old} {new} x place noted row same =
      let goes = x.stepped.yes refl in
      let ends : start_of next ≡ s.cursor.position = ap (λ (a : Asked). a.start) goes.asked in
      let span : WritesSpan r next at width old new = record {
        start = s.start;
        goes_on = (steps_span r true s next x.stepped.ok refl goes s.start refl).0;
        row = λ t whole. rw ends
            (s.marks, first_found (asked_of r) t (match_shown s) (walk (asked_of next) t) (x.stepped.ok t whole), row);
        before = same;
      } in
      rw noted (record {
        each = λ first given before. row_more before left span place
            (search_kept (x.stepped.up_to_match refl) x.again x.spent) x.unlimited;
      })
