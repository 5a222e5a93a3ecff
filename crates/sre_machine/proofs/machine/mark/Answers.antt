use Rattle.sre_machine.proofs.Terms.{run_of, mark_operand, mark_step}
use Rattle.sre_machine.proofs.machine.mark.Goals as goal

pub operand-n-requires : goal.operand-n-requires
operand-n-requires g c = mark_operand (run_of c.args.req.now) _ _ c.requires.opcode c.requires.stands

pub returns : goal.returns
returns g c =
    mark_step (run_of c.args.req.now) _ _ _ c.args.cursor _ _ c.requires.opcode c.operand-n.ensures.word
    c.position.ensures
    (g.met.S.StrDrive.stands_at c.args.req.now.string c.args.cursor c.args.cursor.position c.requires.stands.stands).1
    c.in_ok-set.ensures
