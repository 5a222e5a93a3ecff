use Rattle.sre_machine.proofs.Terms.{◌≡◌, ◌∙◌, ap, items_of, run_of}
use Rattle.sre_machine.proofs.Recalling.{recalls_prepared}
use Rattle.sre_machine.proofs.Tried.{leaves_prepared, tries_prepared}
use Rattle.sre_machine.proofs.trying.has_failed.Goals as goal

pub returns-clause-leaves : goal.returns-clause-leaves
returns-clause-leaves g c =
    let words : c.items-words.result.now ≡ (run_of c.args.req.now).words =
    c.items-words.ensures.same ∙ ap items_of c.pattern_codes.ensures in
    leaves_prepared c.args.req.now c.args.memo.now c.prepare.new.self c.items-words.result.now c.position.result
    c.is_left.ensures words c.position.ensures c.end.result c.end.ensures.value c.prepare.ensures.makes
    c.prepare.ensures.same c.prepare.ensures.refused
    c.requires.forks c.requires.remembers c.requires.no_end
    (rw c.failures.ensures at c.known-known.ensures.told) c.requires.serves

pub returns-clause-tries : goal.returns-clause-tries
returns-clause-tries g c =
    let words : c.items-words.result.now ≡ (run_of c.args.req.now).words =
    c.items-words.ensures.same ∙ ap items_of c.pattern_codes.ensures in
    tries_prepared c.args.req.now c.args.memo.now c.prepare.new.self c.items-words.result.now c.position.result
    c.is_left.ensures words c.position.ensures c.end.result c.end.ensures.value c.prepare.ensures.makes
    c.prepare.ensures.same c.prepare.ensures.refused
    c.requires.forks c.requires.remembers c.requires.no_end
    (rw c.failures.ensures at c.known-known.ensures.told)

pub returns-clause-remembers : goal.returns-clause-remembers
returns-clause-remembers g c =
    recalls_prepared (run_of c.args.req.now) c.args.memo.now c.prepare.new.self
    c.prepare.ensures.marked c.prepare.ensures.ends c.prepare.ensures.makes.grows c.requires.remembers
