use Rattle.sre_engine.proofs.Terms.{◌≡◌, ◌≤◌, Ok, true, false, Some, None, sym, subst, arith, rules, at_start, words_of}
use Rattle.sre_engine.proofs.Terms.{hints_of, start_of, end_of, code_of, asked_of, stands_in, code_tree, items_whole}
use Rattle.sre_engine.proofs.LeadingStarts.{none_at, some_at, span_at}
use Rattle.sre_engine.proofs.Spending.{passed_on}
use Rattle.sre_engine.proofs.Looking.{once_charged}
use Rattle.sre_engine.proofs.engine.state.State.match_from.Goals as goal

pub returns-in-Some-clause-answer : goal.returns-in-Some-clause-answer
returns-in-Some-clause-answer g c = λ t whole.
    let asked = c.args.req.now in
    let at : c.args.from.position ≡ start_of asked = search rules in
    let some = some_at (stands_in asked) (asked_of asked) t _ c.in_ok-end.field-0 c.attempt-told.new.self.board.marks
    (c.in_ok-end.ensures.decides.each t (items_whole (code_of asked) t whole)) c.in-Some.end c.in-Some.is in
    rw (c.count.ensures, c.start.ensures.value)
    (sym (subst (λ q. at_start (asked_of asked) t q
    ≡ Some (record { start = q; end = c.in-Some.end.position; marks = c.attempt-told.new.self.board.marks })) at
    some.1))

pub returns-in-Some-clause-cursor : goal.returns-in-Some-clause-cursor
returns-in-Some-clause-cursor g c = λ _.
    let asked = c.args.req.now in
    let tree = code_tree (words_of (code_of asked)) (hints_of (code_of asked)) (code_of asked).checked in
    (some_at (stands_in asked) (asked_of asked) tree.0 _ c.in_ok-end.field-0 c.attempt-told.new.self.board.marks
    (c.in_ok-end.ensures.decides.each tree.0 (items_whole (code_of asked) tree.0 tree.1)) c.in-Some.end c.in-Some.is).0

pub returns-in-Some-clause-span : goal.returns-in-Some-clause-span
returns-in-Some-clause-span g c = λ _.
    let asked = c.args.req.now in
    let at : c.args.from.position ≡ start_of asked = search rules in
    let tree = code_tree (words_of (code_of asked)) (hints_of (code_of asked)) (code_of asked).checked in
    let from : c.args.from.position ≤ end_of asked = omega (arith, at, asked.in_window.0) in
    let s = span_at (stands_in asked) (asked_of asked) tree.0 _ c.in_ok-end.field-0 c.attempt-told.new.self.board.marks
    (c.in_ok-end.ensures.decides.each tree.0 (items_whole (code_of asked) tree.0 tree.1)) from c.in-Some.end
    c.in-Some.is in
    record { starts = c.start.ensures.value; forward = omega (arith, at, s.0); inside = s.1 }

pub returns-in-None-clause-answer : goal.returns-in-None-clause-answer
returns-in-None-clause-answer g c = λ t whole.
    let asked = c.args.req.now in
    let at : c.args.from.position ≡ start_of asked = search rules in
    sym (subst (λ q. at_start (asked_of asked) t q ≡ None) at
    (none_at (stands_in asked) (asked_of asked) t _ c.in_ok-end.field-0 c.attempt-told.new.self.board.marks
    (c.in_ok-end.ensures.decides.each t (items_whole (code_of asked) t whole)) c.in-None.is))

pub returns-in-Some-clause-charged : goal.returns-in-Some-clause-charged
returns-in-Some-clause-charged g c =
    once_charged c.args.req.now _ _ c.args.allowed.now _ 0 _ _ c.begin.ensures.started c.begin.ensures.restarted
    (search rules) c.begin.ensures.begins c.attempt-told.ensures.began c.in_ok-end.ensures.costs (Ok true) tt

pub returns-in-None-clause-charged : goal.returns-in-None-clause-charged
returns-in-None-clause-charged g c =
    once_charged c.args.req.now _ _ c.args.allowed.now _ 0 _ _ c.begin.ensures.started c.begin.ensures.restarted
    (search rules) c.begin.ensures.begins c.attempt-told.ensures.began c.in_ok-end.ensures.costs (Ok false) tt

pub returns-in_err-end-clause-charged : goal.returns-in_err-end-clause-charged
returns-in_err-end-clause-charged g c =
    once_charged c.args.req.now _ _ c.args.allowed.now _ 0 _ _ c.begin.ensures.started c.begin.ensures.restarted
    (search rules) c.begin.ensures.begins c.attempt-told.ensures.began c.in_err-end.ensures.costs _
    (passed_on _ c.in_err-end.field-0.0 _ c.from_residual.ensures.1 c.in_err-end.ensures.halted)
