use Rattle.sre_engine.proofs.Terms.{◌≡◌, ℕ, List, subst, sym, OnErr, items_of, AllAdmitted, Admitted, string_of}
use Rattle.sre_engine.proofs.Terms.{start_of, code_of, stands_in, MayTakeMemory, Charged, SetsOf, Answered}
use Rattle.sre_engine.proofs.Terms.{RunsOnceAnchored, runs_of, Sets}
use Rattle.sre_engine.proofs.Carrying.{answered_alike, charged_alike}
use Rattle.sre_engine.proofs.engine.walk.search_admitted.Goals as goal

-- the list is that of the sets
listed : (ws : List ℕ) (list : List Admitted) (sets : Sets) → list ≡ sets.admitted → SetsOf ws sets
    → AllAdmitted ws list
listed ws list sets same known = subst (AllAdmitted ws) (sym same) known.admitted

-- the request that carries the list asks what the other one does
pub search_from-requires-2-clause-stands : goal.search_from-requires-2-clause-stands
search_from-requires-2-clause-stands g c =
    let own = c.with_admitted-asked.ensures (listed _ _ _ c.list-admitted.ensures c.requires.sets) in
    subst (λ r. stands_in r c.args.from (start_of r)) (sym own) c.requires.stands

pub search_from-requires-2-clause-suits : goal.search_from-requires-2-clause-suits
search_from-requires-2-clause-suits g c =
    let own = c.with_admitted-asked.ensures (listed _ _ _ c.list-admitted.ensures c.requires.sets) in
    subst (λ r. g.F.Starts.suits c.args.starts.now (string_of r) (code_of r)) (sym own) c.requires.suits

pub search_from-requires-2-clause-sets : goal.search_from-requires-2-clause-sets
search_from-requires-2-clause-sets g c =
    let own = c.with_admitted-asked.ensures (listed _ _ _ c.list-admitted.ensures c.requires.sets) in
    subst (λ r. SetsOf (items_of (code_of r)) c.args.sets.now) (sym own) c.requires.sets

pub returns-clause-suits : goal.returns-clause-suits
returns-clause-suits g c =
    let own = c.with_admitted-asked.ensures (listed _ _ _ c.list-admitted.ensures c.requires.sets) in
    subst (λ r. g.F.Starts.suits c.search_from-2.new.starts (string_of r) (code_of r)) own
    c.search_from-2.ensures.suits

pub returns-clause-answers : goal.returns-clause-answers
returns-clause-answers g c =
    let own = c.with_admitted-asked.ensures (listed _ _ _ c.list-admitted.ensures c.requires.sets) in
    let told = c.search_from-2.result in
    let s = c.search_from-2.new.self in
    answered_alike c.args.req.now c.list-admitted.result _ told s
    (subst (λ r. Answered r told s) own c.search_from-2.ensures.answers)

pub returns-clause-charged : goal.returns-clause-charged
returns-clause-charged g c =
    let own = c.with_admitted-asked.ensures (listed _ _ _ c.list-admitted.ensures c.requires.sets) in
    let told = c.search_from-2.result in
    let s = c.search_from-2.new.self in
    let allowed = c.search_from-2.new.allowed in
    charged_alike c.args.req.now c.list-admitted.result _ told s.started (runs_of s) c.args.allowed.now allowed
    (subst (λ r. Charged r told s.started (runs_of s) c.args.allowed.now allowed) own c.search_from-2.ensures.charged)

pub returns-clause-anchored : goal.returns-clause-anchored
returns-clause-anchored g c =
    let own = c.with_admitted-asked.ensures (listed _ _ _ c.list-admitted.ensures c.requires.sets) in
    subst (λ r. RunsOnceAnchored r c.search_from-2.new.self) own c.search_from-2.ensures.anchored

pub returns-clause-literal : goal.returns-clause-literal
returns-clause-literal g c =
    let own = c.with_admitted-asked.ensures (listed _ _ _ c.list-admitted.ensures c.requires.sets) in
    subst (λ r. OnErr c.search_from-2.result (MayTakeMemory (code_of r))) own c.search_from-2.ensures.literal
