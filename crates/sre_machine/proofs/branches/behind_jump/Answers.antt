use Rattle.sre_machine.proofs.Terms.{sym, run_of, reached_within, word_known, jump_continues}
use Rattle.sre_machine.proofs.branches.behind_jump.Goals as goal

pub word-requires : goal.word-requires
word-requires g c = reached_within (run_of c.args.req.now) c.args.place c.args.cursor c.requires

pub returns-then-word : goal.returns-then-word
returns-then-word g c =
    let ws = (run_of c.args.req.now).words in
    let jump = word_known ws c.args.place _ 15 c.word.ensures.word (sym c.if-word.true) in
    jump_continues (run_of c.args.req.now) c.args.place c.operand-skip.result c.args.cursor jump
    c.operand-skip.ensures.word c.requires.stands
