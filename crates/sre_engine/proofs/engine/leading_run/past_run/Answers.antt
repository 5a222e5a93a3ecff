use Rattle.sre_engine.proofs.Terms.{ℕ, ◌≡◌, ◌+◌, ◌<◌, ◌∙◌, sym, ap, subst, arith, Test, unlimited, longest_run}
use Rattle.sre_engine.proofs.Terms.{TestStands, RunStands, subject_of, end_of, asked_of, run_of, NoneBetween, tree_of}
use Rattle.sre_engine.proofs.Terms.{whole_of, longest_run-fits, run_test, front_test}
use Rattle.sre_engine.proofs.LeadingStarts.{none_until, none_past_run, none_behind_front}
use Rattle.sre_engine.proofs.engine.leading_run.past_run.Goals as goal

pub longest_run-run-requires-clause-test : goal.longest_run-run-requires-clause-test
longest_run-run-requires-clause-test g c =
    run_test _ _ _ _ (c.requires.lead _ (whole_of c.args.req.now.pattern_codes))

pub returns-in_default-clause-none : goal.returns-in_default-clause-none
returns-in_default-clause-none g c = λ t whole none.
    let asked = asked_of c.args.req.now in
    let words = (run_of c.args.req.now).words in
    let lead = subst (λ first. RunStands words t first c.args.lead.now.test) c.in_default.is (c.requires.lead t whole)
    in
    let p = c.args.start.position in
    let run = c.longest_run-run in
    none_until asked t p run.result.end.position c.one_on.result
    (subst (λ q. NoneBetween asked t p (q + 1)) (sym run.ensures.position)
    (none_past_run asked t words c.args.lead.now.test p none run.result.count lead run.ensures.count))
    c.one_on.ensures.next

pub opcode-requires : goal.opcode-requires
opcode-requires g c =
    let words = (run_of c.args.req.now).words in
    let lead = c.requires.lead (tree_of words) (whole_of c.args.req.now.pattern_codes) in
    front_test _ _ _ _ (subst (λ first. RunStands words (tree_of words) first c.args.lead.now.test) c.in-Some.is lead)

pub takes-requires-clause-stands : goal.takes-requires-clause-stands
takes-requires-clause-stands g c =
    let words = (run_of c.args.req.now).words in
    let lead = c.requires.lead (tree_of words) (whole_of c.args.req.now.pattern_codes) in
    front_test _ _ _ _ (subst (λ first. RunStands words (tree_of words) first c.args.lead.now.test) c.in-Some.is lead)

pub longest_run-run-requires-2-clause-test : goal.longest_run-run-requires-2-clause-test
longest_run-run-requires-2-clause-test g c =
    run_test _ _ _ _ (c.requires.lead _ (whole_of c.args.req.now.pattern_codes))

pub returns-clause-next : goal.returns-clause-next
returns-clause-next g c =
    let words = (run_of c.args.req.now).words in
    let lead = c.requires.lead (tree_of words) (whole_of c.args.req.now.pattern_codes) in
    let run = c.longest_run-run-2 in
    let after : c.read-character.result.1.position ≡ c.args.start.position + 1 = c.read-character.ensures.position in
    let inside : c.args.start.position < end_of c.args.req.now = omega arith in
    let fits = longest_run-fits (run_of c.args.req.now).subject lead.test unlimited c.read-character.result.1.position
    (omega arith) in
    let count = run.ensures.count lead.end lead.test lead.stands in (
      omega (arith, run.ensures.position),
      omega (arith, run.ensures.position),
    )

pub returns-clause-none : goal.returns-clause-none
returns-clause-none g c = λ t whole none.
    let asked = asked_of c.args.req.now in
    let words = (run_of c.args.req.now).words in
    let lead = subst (λ first. RunStands words t first c.args.lead.now.test) c.in-Some.is (c.requires.lead t whole) in
    let p = c.args.start.position in
    let run = c.longest_run-run-2 in
    let inside : p < asked.end = omega arith in
    let next : run.result.end.position ≡ p + 1 + run.result.count =
    omega (arith, run.ensures.position, c.read-character.ensures.position) in
    let count = λ (j : ℕ) (x : Test) (stands : TestStands words c.args.lead.now.test j x).
    run.ensures.count j x stands ∙ ap (longest_run (subject_of asked) x unlimited) c.read-character.ensures.position in
    subst (λ q. NoneBetween asked t p q) (sym next)
    (none_behind_front asked t words _ p none _ _ _ _ lead inside c.read-character.ensures.character c.takes.ensures
    c.if-not-takes.false count)
