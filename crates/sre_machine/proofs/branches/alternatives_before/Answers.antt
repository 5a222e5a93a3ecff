use Rattle.sre_machine.proofs.Terms.{◌<◌, ◌+◌, subst, word_of, run_of, alternatives_free, exhausted_back}
use Rattle.sre_machine.proofs.Terms.{later_continues, both_exhausted, alternatives_run, alternatives_both}
use Rattle.sre_machine.proofs.Terms.{continues_goes, both_continue}
use Rattle.sre_machine.proofs.branches.alternatives_before.Goals as goal

pub returns-in_default : goal.returns-in_default
returns-in_default g c = exhausted_back (run_of c.args.req.now) _ c.args.cursor c.args.board.now c.in_default.ensures

pub other_alternative-others-requires-clause-stands : goal.other_alternative-others-requires-clause-stands
other_alternative-others-requires-clause-stands g c =
    (alternatives_run (run_of c.args.req.now) c.in-Some.first.length_word c.word-length.result c.args.cursor
    c.word-length.ensures.word
    (subst (λ n. 0 < n) (word_of (run_of c.args.req.now).words _ _ c.word-length.ensures.word) c.in-Some.ensures.1)
    c.in-Some.ensures.0).1

pub returns-in_default-others : goal.returns-in_default-others
returns-in_default-others g c = λ all limit x.
    let r = run_of c.args.req.now in
    let b = c.args.board.now in
    let here = c.args.cursor in
    let first = c.in-Some.first in
    let more = subst (λ n. 0 < n) (word_of r.words _ _ c.word-length.ensures.word) c.in-Some.ensures.1 in
    let both = alternatives_both r first.length_word c.word-length.result here b c.word-length.ensures.word more
    all limit (continues_goes r _ _ here here c.in-Some.ensures.2 alternatives_free
    alternatives_free b all limit x) in
    later_continues r (first.length_word + 1) first.place here first.cursor b c.in-Some.ensures.3 all limit
    (both_exhausted r _ _ here b c.in_default-others.ensures all limit both)

pub returns : goal.returns
returns g c = λ all limit x.
    let r = run_of c.args.req.now in
    let b = c.args.board.now in
    let here = c.args.cursor in
    let first = c.in-Some.first in
    let more = subst (λ n. 0 < n) (word_of r.words _ _ c.word-length.ensures.word) c.in-Some.ensures.1 in
    let both = alternatives_both r first.length_word c.word-length.result here b c.word-length.ensures.word more
    all limit (continues_goes r _ _ here here c.in-Some.ensures.2 alternatives_free
    alternatives_free b all limit x) in
    c.in_ok-choose_alternative.ensures all limit
    (both_continue r _ _ _ here b c.in-Some-others.ensures all limit both)
