use Rattle.sre_code.proofs.ReadBodies.{body_max, body_min}
use Rattle.sre_code.proofs.code.repeat.until.Goals as goal

pub returns-in-MAX_UNTIL : goal.returns-in-MAX_UNTIL
returns-in-MAX_UNTIL c =
    body_max _ _ _ _ c.args.width _ c.if-place-end.false (rw c.in-MAX_UNTIL.is at c.in_ok-opcode.ensures).1
    c.saturating_mul.ensures

pub returns-in-MIN_UNTIL : goal.returns-in-MIN_UNTIL
returns-in-MIN_UNTIL c =
    body_min _ _ _ _ c.args.width _ c.if-place-end.false (rw c.in-MIN_UNTIL.is at c.in_ok-opcode.ensures).1
    c.saturating_mul-in-MIN_UNTIL.ensures
