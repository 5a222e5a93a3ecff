use Rattle.sre_engine.proofs.Terms.{refl, rules, asked_of, code_of}
use Rattle.sre_engine.proofs.Doubled.{no_double_there, none_further}
use Rattle.sre_engine.proofs.engine.doubled.next_double.Goals as goal

pub character-preserved : goal.character-preserved
character-preserved g c =
    let a = asked_of c.args.req.now in
    let code = code_of c.args.req.now in
    let at = c.character.invariant in
    record {
      stands = search rules;
      behind = search rules;
      one_on = search rules;
      read = search rules;
      from = search rules;
      inside = search rules;
      none = none_further a code _ _ _ at.none
          (no_double_there a code _ _ _ _ refl at.read c.read-next.ensures.character at.one_on
          (c.may_begin.ensures.no c.if-may_begin.false)) at.one_on;
    }
