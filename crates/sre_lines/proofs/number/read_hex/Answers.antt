-- A pair that is rejected is not what a byte is written as.
use Rattle.sre_lines.proofs.Terms.{◌<◌, arith, rules, All-push}
use Rattle.sre_lines.proofs.Pairs.{no_pair_is_no_text, odd_is_no_text, one_byte_more}
use Rattle.std.proofs.lemmas.Grind.{common_steps}
use Rattle.sre_lines.proofs.number.read_hex.Goals as goal

pub returns-in_default-clause-refused : goal.returns-in_default-clause-refused
returns-in_default-clause-refused g c _ =
    no_pair_is_no_text c.args.digits.now c.loop-i.i (omega arith) c.in_default.ensures.refused

pub loop-i-preserved : goal.loop-i-preserved
loop-i-preserved g c =
    rw c.in_ok-push.ensures.items (record {
      pairs = one_byte_more _ _ _ c.loop-i.i c.loop-i.invariant.pairs (omega arith) c.in-Some.ensures.read.0
          c.in-Some.ensures.read.1;
      fit = All-push (λ b. b < 256) _ _ c.loop-i.invariant.fit (search rules);
    })

pub returns-then-digits-ne0-clause-refused : goal.returns-then-digits-ne0-clause-refused
returns-then-digits-ne0-clause-refused g c _ bs _ = odd_is_no_text _ (search (rules, arith)) bs

pub returns-clause-read : goal.returns-clause-read
returns-clause-read g c = grind (arith, common_steps)
