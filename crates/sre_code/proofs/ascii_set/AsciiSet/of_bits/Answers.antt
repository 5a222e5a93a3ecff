use Rattle.sre_code.proofs.Halves.{in_four_words}
use Rattle.sre_code.proofs.ascii_set.AsciiSet.of_bits.Goals as goal

pub returns : goal.returns
returns c = in_four_words _ c.args.words c.join.ensures c.join-2.ensures
