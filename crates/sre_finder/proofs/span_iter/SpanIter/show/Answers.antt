use Rattle.sre_finder.proofs.Terms.{∥∥₁_elim, string_of}
use Rattle.sre_finder.proofs.span_iter.SpanIter.show.Goals as goal

pub show_at-requires-clause-stands : goal.show_at-requires-clause-stands
show_at-requires-clause-stands g c =
    let it = c.args.self.now in
    ∥∥₁_elim it.last (g.met.S.StrDrive.stands_once (string_of it.req) it.at it.at.position) (λ here. here)

pub returns-then-self-clause-cursor : goal.returns-then-self-clause-cursor
returns-then-self-clause-cursor g c = λ _.
    let it = c.args.self.now in
    let end = it.state.cursor in
    ∥∥₁_elim (it.ends c.if-self.true) (g.met.S.StrDrive.stands_once (string_of it.req) end end.position) (λ here. here)
