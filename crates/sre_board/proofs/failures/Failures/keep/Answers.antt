use Rattle.sre_board.proofs.Terms.{◌/◌, ◌%◌, arith, rules}
use Rattle.sre_board.proofs.KeptSpots.{written}
use Rattle.sre_board.proofs.failures.Failures.keep.Goals as goal

pub returns-in-Some : goal.returns-in-Some
returns-in-Some g c =
    let w = written c.args.self.now c.self.inside.rows.items c.self.inside.shapes.items c.self.inside.bits.items
    c.args.words.now _ _ (c.in-Some.bit / 64) (c.in-Some.bit % 64) c.index_mut.result.now c.self.view_is
    c.self.invariant.0 (omega arith) c.in-Some.ensures.bit.0 c.in-Some.ensures.bit.1 c.index_mut.ensures.value in
    record {
      more = w.more;
      still = w.still;
      stay = w.stay;
      rows = search rules;
      shapes = search rules;
      words = search rules;
      laid = search rules;
      bits = w.bits;
      set = λ _. w.sets;
      none = search rules;
      no_bit = search rules;
    }
