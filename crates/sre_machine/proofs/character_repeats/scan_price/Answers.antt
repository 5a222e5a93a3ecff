use Rattle.sre_machine.proofs.Terms.{◌≤◌, sym, subst, arith, GreedyRun, LazyRun, PossessiveRun, end_of, run_of}
use Rattle.sre_machine.proofs.Terms.{run_there, scan_by, role_there}
use Rattle.sre_chars.specs.declared.constants.SreOpcode.TheVariants as opcode
use Rattle.sre_machine.proofs.character_repeats.scan_price.Goals as goal

pub run_price-requires : goal.run_price-requires
run_price-requires g c =
    run_there (run_of c.args.req.now) GreedyRun c.args.place c.args.cursor c.in-REPEAT_ONE.ensures.code c.requires

pub returns-in-REPEAT_ONE : goal.returns-in-REPEAT_ONE
returns-in-REPEAT_ONE g c =
    let ws = (run_of c.args.req.now).words in
    subst (λ f. c.run_price.result ≤ scan_by ws (end_of c.args.req.now) c.args.place f)
    (sym (role_there ws c.args.place opcode.REPEAT_ONE c.in-REPEAT_ONE.ensures.code))
    (omega (arith, c.run_price.ensures))

pub run_price-requires-in-MIN_REPEAT_ONE : goal.run_price-requires-in-MIN_REPEAT_ONE
run_price-requires-in-MIN_REPEAT_ONE g c =
    run_there (run_of c.args.req.now) LazyRun c.args.place c.args.cursor c.in-MIN_REPEAT_ONE.ensures.code c.requires

pub returns-in-MIN_REPEAT_ONE : goal.returns-in-MIN_REPEAT_ONE
returns-in-MIN_REPEAT_ONE g c =
    let ws = (run_of c.args.req.now).words in
    subst (λ f. c.run_price-in-MIN_REPEAT_ONE.result ≤ scan_by ws (end_of c.args.req.now) c.args.place f)
    (sym (role_there ws c.args.place opcode.MIN_REPEAT_ONE c.in-MIN_REPEAT_ONE.ensures.code))
    (omega (arith, c.run_price-in-MIN_REPEAT_ONE.ensures))

pub run_price-requires-in-POSSESSIVE_REPEAT_ONE : goal.run_price-requires-in-POSSESSIVE_REPEAT_ONE
run_price-requires-in-POSSESSIVE_REPEAT_ONE g c =
    run_there (run_of c.args.req.now) PossessiveRun c.args.place c.args.cursor c.in-POSSESSIVE_REPEAT_ONE.ensures.code
    c.requires

pub returns-in-POSSESSIVE_REPEAT_ONE : goal.returns-in-POSSESSIVE_REPEAT_ONE
returns-in-POSSESSIVE_REPEAT_ONE g c =
    let ws = (run_of c.args.req.now).words in
    subst (λ f. c.run_price-in-POSSESSIVE_REPEAT_ONE.result ≤ scan_by ws (end_of c.args.req.now) c.args.place f)
    (sym (role_there ws c.args.place opcode.POSSESSIVE_REPEAT_ONE c.in-POSSESSIVE_REPEAT_ONE.ensures.code))
    (omega (arith, c.run_price-in-POSSESSIVE_REPEAT_ONE.ensures))
