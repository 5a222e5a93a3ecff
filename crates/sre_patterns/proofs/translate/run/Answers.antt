use Rattle.sre_patterns.proofs.Terms.{arith, uni_of, view_of}
use Rattle.sre_patterns.proofs.Items.{runs}
use Rattle.sre_patterns.proofs.Serving.{serves-run}
use Rattle.sre_patterns.proofs.SidesSeen.{rises}
use Rattle.sre_patterns.proofs.translate.run.Goals as goal

pub returns : goal.returns
returns c =
    let s = c.args.task.now in
    rw c.in_ok-repeated.ensures
    (runs _ _ _ _ _ c.in_ok-counts.ensures.low c.in_ok-counts.ensures.high c.args.opcode c.requires _
    c.skip-end.ensures.to
    (λ l n t r. serves-run (view_of s.encoding) (uni_of s.code) (rises s.encoding) 1000 _ _ (omega arith) _ _ s.purpose
    c.args.opcode c.requires.kind t c.requires.is l c.in_ok-counts.ensures.kept c.in_ok-greedy.ensures
    (c.in_ok-hir.ensures n t r)))
