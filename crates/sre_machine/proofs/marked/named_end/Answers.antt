use Rattle.std.proofs.Common.{refl, arith}
use Rattle.sre_machine.proofs.Analyses.{covers_next, covers_end, told_here}
use Rattle.sre_machine.proofs.marked.named_end.Goals as goal

pub word-preserved : goal.word-preserved
word-preserved c = record {
  some = omega arith;
  covers = covers_next c.args.words.now c.word.place c.word.end c.end_with-end.result c.word.invariant.some
      c.word.invariant.covers c.end_with-end.ensures.grows
      (told_here c.args.words.now c.word.place c.end_with-end.result _ _ refl refl c.end_with-end.ensures.told);
}

pub returns : goal.returns
returns c =
    covers_end c.args.words.now c.word.place c.word.end (omega (arith, c.word-test.false)) c.word.invariant.covers
