use Rattle.sre_engine.proofs.Terms.{refl, arith, leads_tree}
use Rattle.sre_engine.proofs.FirstSets.{alternatives_tree, alternatives_next, alternatives_within, own_bars, left_there}
use Rattle.sre_engine.proofs.FirstSets.{left_more, left_done}
use Rattle.sre_engine.proofs.engine.first_characters.first_characters.Goals as goal

pub follow-reached-requires : goal.follow-reached-requires
follow-reached-requires c =
    alternatives_tree c.args.words.now _ (left_there c.args.words.now _ _ _ c.requires c.alternative.invariant)

pub wanted_test-requires : goal.wanted_test-requires
wanted_test-requires c =
    leads_tree c.args.words.now _ _ _ c.follow-reached.ensures.leads
    (alternatives_tree c.args.words.now _ (left_there c.args.words.now _ _ _ c.requires c.alternative.invariant))

pub word-length-requires : goal.word-length-requires
word-length-requires c =
    alternatives_within c.args.words.now _ (left_there c.args.words.now _ _ _ c.requires c.alternative.invariant)

pub word-requires : goal.word-requires
word-requires c =
    let here = left_there c.args.words.now _ _ _ c.requires c.alternative.invariant in
    let next = alternatives_next c.args.words.now _ _ here c.word-length.ensures.word in
    next.1

pub returns-then-word-eq0 : goal.returns-then-word-eq0
returns-then-word-eq0 c = λ j ts reads.
    let ws = c.args.words.now in
    left_done ws j ts _ _ _ _ _ _ _ (c.alternative.invariant j ts reads) c.word-length.ensures.word refl
    c.word.ensures.word
    (own_bars ws _ _ _ _ _ c.follow-reached.ensures.leads (omega arith) c.in_ok-test.ensures.bars
    c.in_ok-own.ensures)
    c.union-characters.ensures
    (omega arith)

pub alternative-smaller : goal.alternative-smaller
alternative-smaller c =
    let here = left_there c.args.words.now _ _ _ c.requires c.alternative.invariant in
    let next = alternatives_next c.args.words.now _ _ here c.word-length.ensures.word in
    omega (arith, next.0, next.1)

pub alternative-preserved : goal.alternative-preserved
alternative-preserved c = λ j ts reads.
    let ws = c.args.words.now in
    left_more ws j ts _ _ _ _ _ _ _ (c.alternative.invariant j ts reads) c.word-length.ensures.word refl
    c.word.ensures.word
    (own_bars ws _ _ _ _ _ c.follow-reached.ensures.leads (omega arith) c.in_ok-test.ensures.bars
    c.in_ok-own.ensures)
    c.union-characters.ensures
    (λ e. absurd (omega arith))
