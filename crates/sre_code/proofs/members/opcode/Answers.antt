use Rattle.sre_code.proofs.Terms.{set_begins, opcode_within, word_known, opcode_unlike}
use Rattle.sre_code.proofs.members.opcode.Goals as goal

pub word-requires : goal.word-requires
word-requires c =
    let o = set_begins c.args.words.now c.args.place c.requires in
    opcode_within c.args.words.now c.args.place o.0 o.1

pub unreachable-requires : goal.unreachable-requires
unreachable-requires c =
    let o = set_begins c.args.words.now c.args.place c.requires in
    opcode_unlike c.args.words.now c.args.place c.word.result o.0 o.1 c.word.ensures.word c.in-Err.ensures.1

pub returns : goal.returns
returns c = word_known c.args.words.now c.args.place _ _ c.word.ensures.word c.in-Ok.ensures
