use Rattle.std.proofs.lemmas.Grind.{elements}
use Rattle.sre_machine.proofs.Terms.{arith, run_of, continues_exhausted, continues_then, continues_run}
use Rattle.sre_machine.proofs.Terms.{alternatives_there, alternatives_run, alternatives_exhausted, alternatives_pass}
use Rattle.sre_machine.proofs.Terms.{positive}
use Rattle.sre_machine.proofs.branches.first_alternative.Goals as goal

pub word-length-requires : goal.word-length-requires
word-length-requires g c = alternatives_there (run_of c.args.req.now) _ _ c.alternative.invariant.at

pub returns-then-length-eq0 : goal.returns-then-length-eq0
returns-then-length-eq0 g c =
    continues_exhausted (run_of c.args.req.now) _ _ c.args.cursor c.args.cursor c.alternative.invariant.on
    (alternatives_exhausted (run_of c.args.req.now) _ _ _ c.word-length.ensures.word c.if-length-eq0.true)

pub overflow_add-place : goal.overflow_add-place
overflow_add-place g c = omega (arith, c.word-length.ensures.room)

pub begin-first-requires-clause-stands : goal.begin-first-requires-clause-stands
begin-first-requires-clause-stands g c =
    (alternatives_run (run_of c.args.req.now) _ _ c.args.cursor c.word-length.ensures.word
    (positive _ c.if-length-eq0.false) c.alternative.invariant.at).0

pub alternative-preserved : goal.alternative-preserved
alternative-preserved g c =
    let r = run_of c.args.req.now in
    let passed = alternatives_pass r c.alternative.place c.word-length.result c.args.cursor
    c.word-length.ensures.word (positive _ c.if-length-eq0.false) c.requires.stands.stands c.in_default.ensures in
    record {
      at = continues_run r _ _ c.args.cursor c.args.cursor passed c.alternative.invariant.at;
      on = continues_then r _ _ c.args.cursor c.args.cursor c.alternative.invariant.on _ c.args.cursor passed;
    }

pub returns-in-Some : goal.returns-in-Some
returns-in-Some g c = grind (arith, elements)

pub alternative-smaller : goal.alternative-smaller
alternative-smaller g c = grind (arith, elements)
