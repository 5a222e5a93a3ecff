use Rattle.sre_machine.proofs.Terms.{◌<◌, ◌≤◌, sym, subst, arith, Instruction, Advances, run_of, test_there}
use Rattle.sre_turns.specs.declared.Next.TheVariants as next
use Rattle.sre_turns.proofs.semantics.StepsAtItems.{test_read, test_unlike, test_past}
use Rattle.sre_machine.proofs.machine.test.Goals as goal

pub returns-then-position-end : goal.returns-then-position-end
returns-then-position-end g c = λ b.
    let past : c.args.req.now.end ≤ c.args.cursor.position = omega arith in
    test_past (run_of c.args.req.now) c.args.place c.args.opcode c.args.cursor b c.requires.opcode c.requires.tests
    (test_there _ _ _ _ c.requires.opcode c.requires.tests c.requires.stands) past

pub returns-then-takes_either : goal.returns-then-takes_either
returns-then-takes_either g c = λ b.
    let t = test_there (run_of c.args.req.now) _ _ _ c.requires.opcode c.requires.tests c.requires.stands in
    let inside : c.args.cursor.position < c.args.req.now.end = omega arith in
    let ends = c.test_end.ensures t.end t.test t.stands in
    subst (λ q. Advances (run_of c.args.req.now) (Instruction c.args.place) c.args.cursor b
    (next.At q c.read-character.result.1) b) (sym ends)
    (test_read (run_of c.args.req.now) c.args.place t.end c.read-character.result.0 c.args.opcode t.test c.args.cursor
    c.read-character.result.1 b c.takes_either.result c.requires.opcode c.requires.tests t.stands inside
    c.read-character.ensures.character (c.takes_either.ensures t.end t.test t.stands) c.read-character.ensures.stands
    c.read-character.ensures.position c.if-takes_either.true)

pub returns-else-takes_either : goal.returns-else-takes_either
returns-else-takes_either g c = λ b.
    let t = test_there (run_of c.args.req.now) _ _ _ c.requires.opcode c.requires.tests c.requires.stands in
    let inside : c.args.cursor.position < c.args.req.now.end = omega arith in
    test_unlike (run_of c.args.req.now) c.args.place t.end c.read-character.result.0 c.args.opcode t.test c.args.cursor
    b c.takes_either.result c.requires.opcode c.requires.tests t.stands inside c.read-character.ensures.character
    (c.takes_either.ensures t.end t.test t.stands) c.if-takes_either.false

pub takes_either-requires-clause-stands : goal.takes_either-requires-clause-stands
takes_either-requires-clause-stands g c =
    test_there (run_of c.args.req.now) _ _ _ c.requires.opcode c.requires.tests c.requires.stands

pub test_end-requires-clause-stands : goal.test_end-requires-clause-stands
test_end-requires-clause-stands g c =
    test_there (run_of c.args.req.now) _ _ _ c.requires.opcode c.requires.tests c.requires.stands
