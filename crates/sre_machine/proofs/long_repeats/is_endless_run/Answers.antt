use Rattle.sre_machine.proofs.Terms.{◌≡◌, ◌+◌, inl, inr, arith, nat_tests, GreedyRun, LazyRun, PossessiveRun, run_of}
use Rattle.sre_machine.proofs.Terms.{run_there, operands_within, same_word}
use Rattle.sre_machine.proofs.EndlessRuns.{endless_there}
use Rattle.sre_machine.proofs.long_repeats.is_endless_run.Goals as goal

pub operand-requires : goal.operand-requires
operand-requires g c =
    let x =
    run_there (run_of c.args.req.now) GreedyRun c.args.place c.args.cursor c.in-REPEAT_ONE.ensures.code c.requires in
    omega (arith, operands_within (run_of c.args.req.now).words c.args.place x)

pub operand-requires-in-MIN_REPEAT_ONE : goal.operand-requires-in-MIN_REPEAT_ONE
operand-requires-in-MIN_REPEAT_ONE g c =
    let x =
    run_there (run_of c.args.req.now) LazyRun c.args.place c.args.cursor c.in-MIN_REPEAT_ONE.ensures.code c.requires in
    omega (arith, operands_within (run_of c.args.req.now).words c.args.place x)

pub operand-requires-in-POSSESSIVE_REPEAT_ONE : goal.operand-requires-in-POSSESSIVE_REPEAT_ONE
operand-requires-in-POSSESSIVE_REPEAT_ONE g c =
    let x =
    run_there (run_of c.args.req.now) PossessiveRun c.args.place c.args.cursor c.in-POSSESSIVE_REPEAT_ONE.ensures.code
    c.requires in
    omega (arith, operands_within (run_of c.args.req.now).words c.args.place x)

pub returns-in-REPEAT_ONE : goal.returns-in-REPEAT_ONE
returns-in-REPEAT_ONE g c = record {
  on = λ e.
      endless_there (run_of c.args.req.now) GreedyRun c.args.place c.operand.result c.args.cursor
      c.in-REPEAT_ONE.ensures.code (inl c.in-REPEAT_ONE.ensures.code) c.requires c.operand.ensures.word
      (grind (arith, nat_tests));
  off = λ e on.
      let same : c.operand.result ≡ 4294967295 =
      same_word (run_of c.args.req.now).words (c.args.place + 3) c.operand.result 4294967295 c.operand.ensures.word
      on.greatest in
      absurd (grind (arith, nat_tests));
}

pub returns-in-POSSESSIVE_REPEAT_ONE-clause-on : goal.returns-in-POSSESSIVE_REPEAT_ONE-clause-on
returns-in-POSSESSIVE_REPEAT_ONE-clause-on g c = λ e.
    endless_there (run_of c.args.req.now) PossessiveRun c.args.place c.operand-in-POSSESSIVE_REPEAT_ONE.result
    c.args.cursor c.in-POSSESSIVE_REPEAT_ONE.ensures.code (inr (inr c.in-POSSESSIVE_REPEAT_ONE.ensures.code))
    c.requires c.operand-in-POSSESSIVE_REPEAT_ONE.ensures.word (grind (arith, nat_tests))
