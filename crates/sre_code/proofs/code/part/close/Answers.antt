use Rattle.sre_code.proofs.Terms.{Ok, sym, subst, Part, Closing}
use Rattle.sre_code.proofs.code.part.close.Goals as goal

pub returns-in-Absent : goal.returns-in-Absent
returns-in-Absent c =
    let P : Part → Type 0 = λ part. Closing c.args.words.now part c.args.place c.args.width (Ok c.absent.result) in
    subst P (sym c.in-Absent.is) (c.absent.ensures c.args.words.now)
