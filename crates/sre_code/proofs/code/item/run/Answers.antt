use Rattle.std.proofs.lemmas.Option.{slice_get_within}
use Rattle.sre_code.proofs.Terms.{arith}
use Rattle.sre_code.proofs.ReadItems.{run_ends_cut, run_exactly, run_here, run_open}
use Rattle.sre_code.proofs.code.item.run.Goals as goal

pub overflow_add-place : goal.overflow_add-place
overflow_add-place c = grind (arith, slice_get_within)

pub returns-in_err-tail : goal.returns-in_err-tail
returns-in_err-tail c = grind (arith, run_here)

pub returns-in_err-low : goal.returns-in_err-low
returns-in_err-low c = grind (arith, run_here)

pub returns-in_err-high : goal.returns-in_err-high
returns-in_err-high c = grind (arith, run_here)

pub returns-then-low-high : goal.returns-then-low-high
returns-then-low-high c = grind (arith, run_here)

pub returns-in_err-end : goal.returns-in_err-end
returns-in_err-end c = grind (arith, run_here)

pub returns-in_err-opcode : goal.returns-in_err-opcode
returns-in_err-opcode c = grind (arith, run_ends_cut)

pub returns-in_default : goal.returns-in_default
returns-in_default c =
    let found = c.in_ok-opcode.ensures in (
      run_open _ _ _ _ c.requires c.in_ok-end.ensures.1 found.1 c.in_default.not-SUCCESS,
      (omega (arith, found.0), λ e. absurd (cc)),
    )

pub returns : goal.returns
returns c = grind (arith, run_exactly)
