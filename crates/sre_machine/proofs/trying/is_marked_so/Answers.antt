use Rattle.sre_machine.proofs.Terms.{ℕ, List, Option, None, slice_index_or, ap, ◌∙◌, Marks, run_of, from_alike}
use Rattle.sre_machine.proofs.Failing.{asked_few}
use Rattle.sre_machine.proofs.trying.is_marked_so.Goals as goal

pub returns : goal.returns
returns g c = λ told.
    let agrees = rw c.marked.ensures at c.agrees.ensures in
    from_alike (run_of c.args.req.now).words c.args.memo.now.marked.marks c.args.board.now.marks c.asked_from.result
    c.args.memo.now.marked.end
    (asked_few c.args.req.now c.pattern_codes.result c.asked_from.result c.pattern_codes.ensures c.asked_from.ensures)
    c.requires.covers
    (λ k l few.
    agrees told k l few
    ∙ ap (λ (raw : List (Option ℕ)). slice_index_or raw k None)
    (c.raw.ensures ∙ ap (λ (m : Marks). m.raw) c.marks.ensures))
