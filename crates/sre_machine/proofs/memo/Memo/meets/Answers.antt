use Rattle.sre_machine.proofs.memo.Memo.meets.Goals as goal

pub returns-in-Err-clause-marked : goal.returns-in-Err-clause-marked
returns-in-Err-clause-marked g c = rw (← c.self.view_is, c.close.ensures.marked) c.meet.ensures.stays

pub returns-in-Err-clause-end : goal.returns-in-Err-clause-end
returns-in-Err-clause-end g c = rw (← c.self.view_is, c.close.ensures.marked) c.meet.ensures.end
