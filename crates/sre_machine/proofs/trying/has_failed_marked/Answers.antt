use Rattle.sre_machine.proofs.Terms.{◌∙◌, ap, items_of, run_of}
use Rattle.sre_machine.proofs.Recalling.{recalls_still}
use Rattle.sre_machine.proofs.Tried.{leaves_marked, tries_marked_on}
use Rattle.sre_machine.proofs.trying.has_failed_marked.Goals as goal

pub returns-clause-remembers : goal.returns-clause-remembers
returns-clause-remembers g c =
    recalls_still (run_of c.args.req.now) c.args.memo.now c.prepare_marked.new.self c.prepare_marked.ensures.kept
    c.prepare_marked.ensures.ends c.prepare_marked.ensures.marks c.prepare_marked.ensures.end
    c.prepare_marked.ensures.idle c.prepare_marked.ensures.no_more c.requires.remembers

pub returns-clause-leaves : goal.returns-clause-leaves
returns-clause-leaves g c =
    leaves_marked c.args.req.now c.args.memo.now c.prepare_marked.new.self c.items-words.result.now c.position.result
    c.is_left.ensures (c.items-words.ensures.same ∙ ap items_of c.pattern_codes.ensures) c.position.ensures
    c.requires.refers (rw c.marked.ensures at c.known-known.ensures) c.requires.marked c.prepare_marked.ensures.no_more
    c.requires.remembers

pub returns-clause-tries : goal.returns-clause-tries
returns-clause-tries g c = λ _.
    tries_marked_on c.args.req.now c.args.memo.now c.prepare_marked.new.self c.items-words.result.now
    c.position.result c.is_left.ensures (c.items-words.ensures.same ∙ ap items_of c.pattern_codes.ensures)
    c.position.ensures c.requires.refers
