-- FIRST sets as lists by address: which characters may come next there.
-- The clauses of `Request::with_admitted`, `Request::admitted` and `step_admitted` rest on it.
use Rattle.std.specs.Prelude.{ℕ, ◌≡◌, List, Some, slice_get}
use Rattle.sre_request.specs.Terms.{contains}
use Rattle.std.proofs.Props.{props}
use Rattle.sre_turns.specs.declared.Point.TheVariants.{Instruction, Alternatives}
use Rattle.sre_turns.specs.Admitting.{AdmitsOnly}
use Rattle.sre_request.specs.declared.admitted.Admitted.{Admitted}

-- a place admits only the characters of a set as an instruction, and those of another as a length word
pub record IsAdmitted (ws : List ℕ) (i : ℕ) (a : Admitted) : Type 0 where
  pub instruction : AdmitsOnly ws (Instruction i) (contains a.instruction)
  pub alternatives : AdmitsOnly ws (Alternatives i) (contains a.alternatives)

-- what a list tells that each place admits
pub record AllAdmitted (ws : List ℕ) (list : List Admitted) : Type 0 where
  pub each : (i : ℕ) (a : Admitted) → slice_get list i ≡ Some a → IsAdmitted ws i a

-- what a list tells is so in one way alone
pub one_all_admitted : {ws : List ℕ} {list : List Admitted} → IsProp (AllAdmitted ws list)
one_all_admitted = Prim.hlevel props
