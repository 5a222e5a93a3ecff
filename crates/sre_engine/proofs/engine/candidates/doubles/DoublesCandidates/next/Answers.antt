use Rattle.sre_engine.proofs.Terms.{arith, refl, code_of, asked_of, Some, None}
use Rattle.sre_engine.proofs.Looking.{at_cursor}
use Rattle.sre_engine.proofs.CountLaws.{unprefixed}
use Rattle.sre_engine.proofs.Doubled.{none_until_double}
use Rattle.sre_engine.proofs.engine.candidates.doubles.DoublesCandidates.next.Goals as goal

pub returns-clause-some : goal.returns-clause-some
returns-clause-some g c =
    let r = c.args.req.now in
    let looks = c.requires.looks in
    let told = c.in_ok-told.ensures in
    let next = c.in_ok-cursor.ensures.next in
    at_cursor r _ c.in_ok-cursor.cursor c.at.result _ c.at.ensures c.in_ok-cursor.ensures.stands
    (omega (arith, told.next.after, next.from)) (omega (arith, next.inside))
    (λ t whole. none_until_double (code_of r) (asked_of r) t refl whole looks.doubled _ _ (Some c.in_ok-cursor.cursor)
    (told.none t whole) next)
    (unprefixed (asked_of r) (code_of r) _ looks.prefix (λ set own yes. next.member yes set (own yes))) looks.none

pub returns-in_err-cursor-clause-none : goal.returns-in_err-cursor-clause-none
returns-in_err-cursor-clause-none g c = λ _.
    let r = c.args.req.now in
    record {
      forward = omega (arith, c.requires.inside);
      none = λ t whole.
          none_until_double (code_of r) (asked_of r) t refl whole c.requires.looks.doubled _ _ None
          (c.in_ok-told.ensures.none t whole) c.in_err-cursor.ensures.next;
    }
