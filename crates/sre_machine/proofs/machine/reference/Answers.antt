use Rattle.sre_machine.proofs.Terms.{◌≡◌, ◌-◌, true, false, sym, subst, ◌∙◌, run_of, on_board, same_folded}
use Rattle.sre_machine.proofs.Terms.{reference_there, reference_missing, reference_past, reference_unlike}
use Rattle.sre_machine.proofs.Terms.{reference_step, reference_operand}
use Rattle.sre_machine.proofs.machine.reference.Goals as goal

pub returns-in_default : goal.returns-in_default
returns-in_default g c =
    let r = run_of c.args.req.now in
    let run = on_board _ _ _ _ c.requires.stands in
    let x = reference_there r _ c.args.cursor _ c.requires.opcode c.requires.refers run in
    reference_missing r x.0 _ _ c.args.cursor c.args.board.now x.2 c.operand-number.ensures.word
    (sym c.group.ensures ∙ c.in_default.is)

pub returns-then-not-is_inside : goal.returns-then-not-is_inside
returns-then-not-is_inside g c =
    let r = run_of c.args.req.now in
    let run = on_board _ _ _ _ c.requires.stands in
    let x = reference_there r _ c.args.cursor _ c.requires.opcode c.requires.refers run in
    (reference_past r x.0 _ _ c.args.cursor c.args.board.now x.2 c.operand-number.ensures.word _ _
    (sym c.group.ensures ∙ c.in-Some.is)
    (rw (← c.position.ensures, ← c.end.ensures.value) (sym c.is_inside.ensures ∙ c.if-not-is_inside.true)))

pub returns-in-Ok : goal.returns-in-Ok
returns-in-Ok g c =
    let r = run_of c.args.req.now in
    let run = on_board _ _ _ _ c.requires.stands in
    let x = reference_there r _ c.args.cursor _ c.requires.opcode c.requires.refers run in
    rw (c.pass-in-Ok.ensures, c.pass.ensures)
    (reference_step r x.0 _ _ c.args.cursor c.args.board.now x.2 c.operand-number.ensures.word _ _
    (sym c.group.ensures ∙ c.in-Some.is) c.in-Ok.after
    (rw (← c.position.ensures, ← c.end.ensures.value) (sym c.is_inside.ensures ∙ c.if-not-is_inside.false))
    (subst (λ q. same_folded r.subject x.0 (c.in-Some.end - c.in-Some.start) q c.args.cursor.position ≡ true)
    c.cursor_at-group.ensures.position (sym (c.in-Ok.ensures.repeated x.0 x.1)))
    c.in-Ok.ensures.position c.in-Ok.ensures.stands)

pub returns-in-Err : goal.returns-in-Err
returns-in-Err g c =
    let r = run_of c.args.req.now in
    let run = on_board _ _ _ _ c.requires.stands in
    let x = reference_there r _ c.args.cursor _ c.requires.opcode c.requires.refers run in
    rw (c.pass-in-Err.ensures, c.pass.ensures)
    (reference_unlike r x.0 _ _ c.args.cursor c.args.board.now x.2 c.operand-number.ensures.word _ _
    (sym c.group.ensures ∙ c.in-Some.is)
    (rw (← c.position.ensures, ← c.end.ensures.value) (sym c.is_inside.ensures ∙ c.if-not-is_inside.false))
    (subst (λ q. same_folded r.subject x.0 (c.in-Some.end - c.in-Some.start) q c.args.cursor.position ≡ false)
    c.cursor_at-group.ensures.position (sym (c.in-Err.ensures.repeated x.0 x.1))))

pub operand-number-requires : goal.operand-number-requires
operand-number-requires g c =
    let r = run_of c.args.req.now in
    let run = on_board _ _ _ _ c.requires.stands in
    let x = reference_there r _ c.args.cursor _ c.requires.opcode c.requires.refers run in
    reference_operand r x.0 _ c.args.cursor x.2 run
