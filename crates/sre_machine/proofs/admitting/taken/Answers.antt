use Rattle.sre_machine.proofs.Analyses.{category_here, test_here}
use Rattle.sre_machine.proofs.admitting.taken.Goals as goal

pub ascii_taken-requires : goal.ascii_taken-requires
ascii_taken-requires c =
    category_here c.args.words.now c.args.place c.in-Some.operand c.args.opcode c.in-Ok._code c.requires
    c.in-CATEGORY.is c.in-Some.ensures c.in-Ok.ensures

pub ascii_taken-told-requires : goal.ascii_taken-told-requires
ascii_taken-told-requires c =
    test_here c.args.words.now c.args.place c.in-Some.operand c.args.opcode c.requires c.in-Some.ensures c.in-ANY.is
