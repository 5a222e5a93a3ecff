use Rattle.sre_machine.proofs.Terms.{◌-◌, refl, subst, Instruction, Shorter, SkipsBoth, DemandsAny, run_of}
use Rattle.sre_machine.proofs.Terms.{shorter_free, shorter_none, shorter_past, shorter_skips, positive, both_skips}
use Rattle.sre_machine.proofs.Terms.{Demands, other_character}
use Rattle.sre_machine.proofs.character_repeats.first_shorter.Goals as goal

pub returns-then-count-eq0 : goal.returns-then-count-eq0
returns-then-count-eq0 g c = λ b all limit x.
    shorter_none (run_of c.args.req.now) c.args.tail _ _ b c.if-count-eq0.true all limit x

pub returns-then-left-eq0 : goal.returns-then-left-eq0
returns-then-left-eq0 g c = λ b all limit x.
    shorter_none (run_of c.args.req.now) c.args.tail _ _ b c.if-left-eq0.true all limit
    (c.count.invariant.same b all limit x)

pub back_over-step-requires-clause-past : goal.back_over-step-requires-clause-past
back_over-step-requires-clause-past g c =
    shorter_past (run_of c.args.req.now) c.args.tail _ _ (positive _ c.if-left-eq0.false) c.count.invariant.at

pub returns-then-step : goal.returns-then-step
returns-then-step g c =
    shorter_skips (run_of c.args.req.now) _ c.args.start c.args.tail _ c.count.cursor c.back_over-step.result.1
    c.if-left-eq0.false c.back_over-step.ensures.position c.back_over-step.ensures.stands c.count.invariant.at
    c.count.invariant.same

pub count-preserved : goal.count-preserved
count-preserved g c =
    let r = run_of c.args.req.now in
    let before = c.back_over-step.result.1 in
    let s : SkipsBoth r (Shorter c.args.tail c.args.count) c.args.start (Instruction c.args.tail)
    (Shorter c.args.tail (c.count.left - 1)) before =
    shorter_skips r _ c.args.start c.args.tail _ c.count.cursor before c.if-left-eq0.false
    c.back_over-step.ensures.position c.back_over-step.ensures.stands c.count.invariant.at c.count.invariant.same in
    let demands : Demands r c.args.tail c.in-Some.value =
    subst (λ w. DemandsAny r c.args.tail w) c.in-Some.is c.requires.wanted in
    let none = demands before.position (other_character r.subject c.in-Some.value _ before.position refl
    (c.back_over-step.ensures.other c.if-step.false)) in
    record { at = s.others; same = both_skips r _ c.args.start _ _ before shorter_free none s }
