-- FIRST sets of a code: of its addresses, and of what comes first in each match.
-- The clauses of `FirstSets` and of the searches that use it rest on it.
use Rattle.std.specs.Prelude.{ℕ, List, [], Option, None, IfSome}
use Rattle.sre_engine.specs.Terms.{Tree, WholeItems, RunStands, AllAdmitted, Admitted}
use Rattle.sre_engine.specs.Starts.{Bars, TestsThere}
use Rattle.sre_engine.specs.declared.engine.opening.Opening.{Opening}

-- each match begins so
pub record Opens (ws : List ℕ) (o : Opening) : Type 0 where
  pub test : TestsThere ws o.first.wanted
  pub bars : Bars ws o.first
  pub lead : (t : Tree) → WholeItems ws t → IfSome o.lead (λ run. RunStands ws t run.first run.test)

-- the FIRST sets of addresses, and how matches begin, as far as they are computed
pub record Sets : Type 0 where
  pub admitted : List Admitted
  pub opening : Option Opening

-- nothing is computed
abbrev pub no_sets : Sets
no_sets = record { admitted = []; opening = None }

-- they are those of these words
pub record SetsOf (ws : List ℕ) (sets : Sets) : Type 0 where
  pub admitted : AllAdmitted ws sets.admitted
  pub opening : IfSome sets.opening (Opens ws)
