use Rattle.sre_engine.proofs.Terms.{rules, sym, subst, run_of, NextStart}
use Rattle.sre_engine.proofs.Starting.{up_to_further, up_to_held, all_unheld}
use Rattle.sre_engine.proofs.engine.next_start.next_start.Goals as goal

pub returns-in_err-cursor : goal.returns-in_err-cursor
returns-in_err-cursor g c =
    let r = run_of c.args.req.now in
    let first = c.args.first.now in
    let there = up_to_further r first _ c.start.cursor c.start.invariant _ c.in_ok-wanted.ensures in
    subst (λ o. NextStart r first c.args.start.position o) (sym c.from_residual-in_err-cursor.ensures)
    (all_unheld r first _ _ there c.in-Some.code c.in-Some.is (search rules) c.in_err-cursor.ensures)

pub start-preserved : goal.start-preserved
start-preserved g c =
    let r = run_of c.args.req.now in
    let first = c.args.first.now in
    let there = up_to_further r first _ c.start.cursor c.start.invariant _ c.in_ok-wanted.ensures in
    up_to_held r first _ _ there c.in-Some.code c.in-Some.is (search rules) _ c.in_ok-cursor.ensures

pub returns-in_default : goal.returns-in_default
returns-in_default g c =
    up_to_further (run_of c.args.req.now) c.args.first.now _ c.start.cursor c.start.invariant _ c.in_ok-wanted.ensures

pub returns-then-holds_at : goal.returns-then-holds_at
returns-then-holds_at g c =
    up_to_further (run_of c.args.req.now) c.args.first.now _ c.start.cursor c.start.invariant _ c.in_ok-wanted.ensures
