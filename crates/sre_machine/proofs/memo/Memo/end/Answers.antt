use Rattle.sre_machine.proofs.Terms.{IfNone, subst, StringCursor, is_inside, spot_at, TellsEnd, MemoValue, none_told}
use Rattle.sre_machine.proofs.memo.Memo.end.Goals as goal

pub returns-clause-none : goal.returns-clause-none
returns-clause-none g c =
    let b = c.args.board.now in
    let ws = c.args.words.now in
    let inside = is_inside b.choices in
    let x = spot_at c.args.point b.frames c.args.position b.marks in
    subst (λ (m : MemoValue).
    IfNone c.end.result ((end : StringCursor) → TellsEnd m.kept m.ends ws inside x end → ⊥)) c.self.view_is
    (none_told c.self.inside.failures c.self.inside.ends ws inside x c.in_ok-number.number
    c.in_ok-number.ensures.laid c.in_ok-number.ensures.number c.end.result c.end.ensures)
