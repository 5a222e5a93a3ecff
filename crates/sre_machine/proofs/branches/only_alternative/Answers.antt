use Rattle.sre_machine.proofs.Terms.{◌≡◌, ◌<◌, ◌+◌, subst, arith, Continues, Instruction, word_of, run_of}
use Rattle.sre_machine.proofs.Terms.{continues_then, continues_run, alternatives_run, only_yields}
use Rattle.sre_machine.proofs.branches.only_alternative.Goals as goal

pub first_alternative-requires-2-clause-stands : goal.first_alternative-requires-2-clause-stands
first_alternative-requires-2-clause-stands g c =
    (alternatives_run (run_of c.args.req.now) c.in_ok-first.first.length_word c.word-length.result c.args.cursor
    c.word-length.ensures.word
    (subst (λ n. 0 < n) (word_of (run_of c.args.req.now).words _ _ c.word-length.ensures.word) c.in_ok-first.ensures.1)
    c.in_ok-first.ensures.0).1

pub behind_jump-requires : goal.behind_jump-requires
behind_jump-requires g c =
    let r = run_of c.args.req.now in
    let first = c.in_ok-first.first in
    let more = subst (λ n. 0 < n) (word_of r.words _ _ c.word-length.ensures.word) c.in_ok-first.ensures.1 in
    continues_run r (Instruction (first.length_word + 1)) (Instruction first.place) c.args.cursor first.cursor
    c.in_ok-first.ensures.3
    (alternatives_run r first.length_word c.word-length.result c.args.cursor c.word-length.ensures.word more
    c.in_ok-first.ensures.0).0

pub returns-in-None : goal.returns-in-None
returns-in-None g c =
    let r = run_of c.args.req.now in
    let first = c.in_ok-first.first in
    let more = subst (λ n. 0 < n) (word_of r.words _ _ c.word-length.ensures.word) c.in_ok-first.ensures.1 in
    let on = continues_then r (Instruction (first.length_word + 1)) (Instruction first.place) c.args.cursor first.cursor
    c.in_ok-first.ensures.3 (Instruction c.behind_jump.result) first.cursor c.behind_jump.ensures in
    let same : c.behind_jump.result ≡ c.args.end = omega (arith, c.if-behind_jump-end.false) in
    only_yields r c.args.start first.length_word c.word-length.result (Instruction c.args.end) c.args.cursor
    first.cursor c.in_ok-first.ensures.2 c.word-length.ensures.word more c.in-None.ensures
    (subst (λ i. Continues r (Instruction (first.length_word + 1)) c.args.cursor (Instruction i) first.cursor) same on)
