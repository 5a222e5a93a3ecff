use Rattle.sre_code.proofs.Terms.{sym}
use Rattle.sre_code.proofs.Halves.{read_low, read_high, past_ascii}
use Rattle.sre_code.proofs.ascii_set.AsciiSet.contains.Goals.{then-ch-lt64, else-ch-lt64}
use Rattle.sre_code.proofs.ascii_set.AsciiSet.contains.Goals as goal

pub returns-after-ch-lt64 : goal.returns-after-ch-lt64
returns-after-ch-lt64 c = elim c.if-ch-lt64.branch [
  | then-ch-lt64 w ↦ read_low c.args.self.now c.args.ch _ w.if-ch-lt64.true w.half-is
  | else-ch-lt64 w ↦ read_high c.args.self.now c.args.ch _ w.if-ch-lt64.false c.if-ch-lt128.true w.half-is
]

pub returns-else-ch-lt128 : goal.returns-else-ch-lt128
returns-else-ch-lt128 c = sym (past_ascii c.args.self.now c.args.ch c.if-ch-lt128.false)
