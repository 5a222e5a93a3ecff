-- What is written of an iteration's request, in the terms of C.
use Rattle.sre_c.proofs.Terms.{◌≡◌, ◌∙◌, ◌≤◌, ℕ, List, length, Bool, false, Option, Some, None, Ok, arith, ap, subst}
use Rattle.sre_c.proofs.Terms.{Ghosts, Whole, IsCode, Asked, words_of, Request, code_of, asked_of, Status, No, Yes}
use Rattle.sre_c.proofs.Terms.{StepLimit, Memory, NoCode, NoRoom, NotUtf8, FaultyTable, SreCode, SreAsked, SreWalked}
use Rattle.sre_c.proofs.Terms.{table_in, asked_in, KeepsBudget, IsSoFar, RowsKeep, WritesRows, Tree, IsWritten, walk}
use Rattle.sre_c.proofs.Terms.{KeepBudget, take, [], min, asked_next, IsUpTo, RowsLeave, LastLeaves, Walks, OfTree}
use Rattle.sre_c.specs.Rows.{LastKeeps}
use Rattle.sre_c.proofs.Codes.{enough_of}

module _ {S : Type 0} {text : Ghosts S} (first next : Request S text) (c : SreCode) (chars : List ℕ) (a : SreAsked)
    (width : ℕ) (w : SreWalked) (rows : List ℕ) (words : words_of (code_of first) ≡ c.words.now)
    (asked : asked_of first ≡ asked_in a (table_in c.table.now) chars) (code : IsCode c.words.now) where
  -- what is asked next, as the request has it
  next_is : IsSoFar first next width w rows
      → asked_of next ≡ asked_in (asked_next a w) (table_in c.table.now) chars
  next_is so_far =
      let end = ap (λ (b : Asked). b.end) asked in
      let held : w.start ≡ min w.start (min a.end (length chars)) = omega (arith, so_far.inside, end) in
      so_far.same ∙ ap (λ (b : Asked). record b { start = w.start; must_advance = w.must_advance }) asked
      ∙ ap (λ s. record (asked_in (asked_next a w) (table_in c.table.now) chars) { start = s }) held

  -- what holds of its words and of what it asks
  of_first : (says : List ℕ → Asked → Tree → Type 0)
      → ((t : Tree) → Whole (words_of (code_of first)) t → says (words_of (code_of first)) (asked_of first) t)
      → OfTree c a chars (says c.words.now)
  of_first says all t whole =
      subst (λ b. says c.words.now b t) asked
      (subst (λ ws. says ws (asked_of first) t) words (all t (rw words whole)))

  up_to : IsSoFar first next width w rows → IsUpTo c chars a width w rows
  up_to so_far t whole =
      subst (λ b. IsWritten (walk (asked_in a (table_in c.table.now) chars) t) (walk b t) width w rows) (next_is so_far)
      (of_first (λ ws b t. IsWritten (walk b t) (walk (asked_of next) t) width w rows) so_far.written t whole)

  rows_leave : (left : ℕ) → RowsKeep first w.count a.steps left → RowsLeave c chars a w left
  rows_leave left rows_kept = of_first (λ ws b t. KeepBudget ws b (take w.count (walk b t)) a.steps left) rows_kept.each

  last_leaves : (told : Option Bool) → IsSoFar first next width w rows → LastKeeps first next w told
      → LastLeaves c chars a w told
  last_leaves told so_far kept =
      subst (λ (b : Asked). KeepsBudget c.words.now b b.end (Ok told) w.steps_before w.steps) (next_is so_far)
      (rw words at kept)

  -- what the status says
  pub walks_of : (status : Status) → WritesRows status first next a.steps width w rows
      → Walks status c chars a width w rows
  walks_of No said = (
    code,
    of_first (λ ws b t. IsWritten (walk b t) [] width w rows) said.0,
    rows_leave w.steps_before said.2,
    last_leaves (Some false) said.1 said.3,
  )
  walks_of NoRoom said = (code, up_to said.0, said.1, rows_leave w.steps said.2)
  walks_of StepLimit said = (
    code,
    up_to said.0,
    said.1,
    λ enough. said.2 (enough_of (rw (next_is said.0, ap words_of said.0.code ∙ words) enough)),
    said.3,
    rows_leave w.steps_before said.4,
    last_leaves None said.0 said.5,
  )
  walks_of Memory said = (said.0, up_to said.1, rows_leave w.steps_before said.2)
  walks_of Yes said = said
  walks_of NoCode said = absurd said
  walks_of NotUtf8 said = said
  walks_of FaultyTable said = absurd said
