use Rattle.sre_machine.proofs.Terms.{◌+◌, arith, stands_at_own, run_of}
use Rattle.sre_machine.proofs.long_repeats.later_start.Goals as goal

pub returns-then-not-takes_next : goal.returns-then-not-takes_next
returns-then-not-takes_next g c = c.takes_next.ensures.not_taken c.if-not-takes_next.true

pub returns-then-least-eq1 : goal.returns-then-least-eq1
returns-then-least-eq1 g c = record {
  position = omega (arith, c.if-least-eq1.true);
  stands = c.requires.stands;
  taken = c.takes_next.ensures.taken c.if-not-takes_next.false;
}

pub returns : goal.returns
returns g c = record {
  position = omega (arith, c.if-least-eq1.false, c.requires.least, c.read-character.ensures.position);
  stands =
      stands_at_own (run_of c.args.req.now).stands c.read-character.result.1 (c.args.end.position + 1)
      c.read-character.ensures.position c.read-character.ensures.stands;
  taken = c.takes_next.ensures.taken c.if-not-takes_next.false;
}
