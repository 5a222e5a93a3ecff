use Rattle.sre_engine.proofs.Terms.{arith, Tree, TreeStands, tree_within, leads_tree}
use Rattle.sre_engine.proofs.FirstSets.{own_bars, Beyond, beyond_more, beyond_done}
use Rattle.sre_engine.proofs.engine.first_characters.beyond_runs.Goals as goal

pub wanted_test-requires : goal.wanted_test-requires
wanted_test-requires c =
    leads_tree c.args.words.now _ _ _ c.follow-reached.ensures.leads c.run.invariant.there

pub returns-in-Some : goal.returns-in-Some
returns-in-Some c = λ t stands.
    let ws = c.args.words.now in
    beyond_done ws t _ _ _ _ (c.run.invariant.beyond t stands) c.union.ensures
    (own_bars ws _ _ _ _ _ c.follow-reached.ensures.leads (omega arith) c.in-Some.ensures.bars
    c.in_ok-own.ensures.taken)

pub behind_run-requires : goal.behind_run-requires
behind_run-requires c =
    leads_tree c.args.words.now _ _ _ c.follow-reached.ensures.leads c.run.invariant.there

pub run-smaller : goal.run-smaller
run-smaller c =
    let within = tree_within c.args.words.now c.run.place c.run.invariant.there in
    omega (arith, within, c.follow-reached.ensures.on, c.in_ok-behind.ensures.on.0)

pub run-preserved : goal.run-preserved
run-preserved c =
    let ws = c.args.words.now in
    let more : (t : Tree) → TreeStands ws c.args.start t
    → Beyond ws t c.in_ok-behind.behind c.union-characters.result =
    λ t stands.
    beyond_more ws t _ _ _ _ (c.run.invariant.beyond t stands) c.union-characters.ensures _ _ _ _
    c.follow-reached.ensures.leads (omega arith) c.in_ok-behind.ensures.passes c.in_ok-own-2.ensures.taken in
    record {
      there = let b = more c.requires.tree c.requires.stands in record { tree = b.tree; stands = b.stands };
      beyond = more;
    }
