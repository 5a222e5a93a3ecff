use Rattle.sre_engine.proofs.Terms.{subst, sym, ◌∙◌, ◌<◌, arith, Bool, IsTrue, slice_index, start_of, run_of, FirstSame}
use Rattle.sre_engine.proofs.Steps.{Inside, sought_inside, sought_there, sought_other}
use Rattle.sre_engine.proofs.engine.prefix.behind_sought.Goals as goal
use Rattle.sre_engine.proofs.engine.prefix.behind_sought.Goals.{After-is_same}
use Rattle.sre_engine.proofs.engine.prefix.behind_sought.Given.{Over}

-- the prefix can begin next where its sought word has it begin
inside : (g : Over) (c : After-is_same g)
    → Inside (run_of c.args.req.now).subject.text c.args.prefix.now.words.now (start_of c.args.req.now)
    (run_of c.args.req.now).subject.end c.back_by.result.position c.args.start.position 0
    c.behind_next-is_there.new.compared × c.back_by.result.position < (run_of c.args.req.now).subject.end
inside g c =
    let r = run_of c.args.req.now in
    let ws = c.args.prefix.now.words.now in
    let k = c.args.prefix.now.sought in
    let ahead = c.skip.new.cursor in
    let behind = c.behind_next-is_there.result.1 in
    let first =
    subst (λ (b : Bool). FirstSame r (slice_index ws k) ahead b behind) c.if-not-is_there.false
    c.behind_next-is_there.ensures.first in
    let on = (g.met.S.StrDrive.stands_at _ _ _ c.skip.ensures).0 in
    sought_inside r ws (start_of c.args.req.now) c.args.compared.now k c.args.start c.requires.here
    c.args.prefix.now.among c.behind_next-is_there.new.compared ahead behind on c.back_by.result.position first
    c.behind_next-is_there.ensures.counted c.back_by.ensures.position

pub returns-then-is_same-clause-goes : goal.returns-then-is_same-clause-goes
returns-then-is_same-clause-goes g c =
    sought_there _ c.args.prefix.now.words.now (start_of c.args.req.now) _ _ _ _ c.args.start
    c.read-character.result.1 (inside g (goal.at.returns-then-is_same-clause-goes g c).After-is_same)
    c.read-character.ensures.position
    (sym c.read-character.ensures.character ∙ c.is_same.ensures.same.0 c.if-is_same.true)
    (omega (arith, c.is_same.ensures.counted))

pub returns-clause-goes : goal.returns-clause-goes
returns-clause-goes g c =
    sought_other _ c.args.prefix.now.words.now (start_of c.args.req.now) _ _ _ _ c.args.start
    c.read-character.result.1 (inside g (goal.at.returns-clause-goes g c).After-is_same)
    c.read-character.ensures.position
    (λ e. let h : IsTrue c.is_same.result = c.is_same.ensures.same.1 (c.read-character.ensures.character ∙ e) in cc)
    c.is_same.ensures.counted
