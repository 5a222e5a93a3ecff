use Rattle.sre_machine.proofs.Terms.{run_of, shorter_free, shorter_none, shorter_past, shorter_skips, positive}
use Rattle.sre_machine.proofs.Terms.{both_skips}
use Rattle.sre_machine.proofs.character_repeats.first_in_place.Goals as goal

pub back_one-cursor-requires-clause-past : goal.back_one-cursor-requires-clause-past
back_one-cursor-requires-clause-past g c =
    shorter_past (run_of c.args.req.now) c.args.tail _ _ (positive _ c.requires.more) c.requires.stands

pub opcode-requires : goal.opcode-requires
opcode-requires g c =
    (shorter_skips (run_of c.args.req.now) _ c.args.start c.args.tail _ c.args.start c.back_one-cursor.result
    c.requires.more c.back_one-cursor.ensures.position c.back_one-cursor.ensures.stands c.requires.stands
    (λ b all limit x. x)).runs

pub returns-then-ne : goal.returns-then-ne
returns-then-ne g c =
    shorter_skips (run_of c.args.req.now) _ c.args.start c.args.tail _ c.args.start c.back_one-cursor.result
    c.requires.more c.back_one-cursor.ensures.position c.back_one-cursor.ensures.stands c.requires.stands
    (λ b all limit x. x)

pub count-init : goal.count-init
count-init g c =
    shorter_skips (run_of c.args.req.now) _ c.args.start c.args.tail _ c.args.start c.back_one-cursor.result
    c.requires.more c.back_one-cursor.ensures.position c.back_one-cursor.ensures.stands c.requires.stands
    (λ b all limit x. x)

pub is_elsewhere-requires-clause-stands : goal.is_elsewhere-requires-clause-stands
is_elsewhere-requires-clause-stands g c = c.count.invariant.runs

pub returns-then-left-eq0 : goal.returns-then-left-eq0
returns-then-left-eq0 g c = λ b all limit x.
    shorter_none (run_of c.args.req.now) c.args.tail _ _ b c.if-left-eq0.true all limit
    (both_skips (run_of c.args.req.now) _ c.args.start _ _ c.count.cursor shorter_free
    (c.is_elsewhere.ensures c.count-test.true) c.count.invariant b all limit x)

pub back_one-cursor-requires-in-count-clause-past : goal.back_one-cursor-requires-in-count-clause-past
back_one-cursor-requires-in-count-clause-past g c =
    shorter_past (run_of c.args.req.now) c.args.tail _ _ (positive _ c.if-left-eq0.false) c.count.invariant.others

pub count-preserved : goal.count-preserved
count-preserved g c =
    shorter_skips (run_of c.args.req.now) _ c.args.start c.args.tail _ c.count.cursor
    c.back_one-cursor-in-count.result c.if-left-eq0.false c.back_one-cursor-in-count.ensures.position
    c.back_one-cursor-in-count.ensures.stands c.count.invariant.others
    (both_skips (run_of c.args.req.now) _ c.args.start _ _ c.count.cursor shorter_free
    (c.is_elsewhere.ensures c.count-test.true) c.count.invariant)

pub returns : goal.returns
returns g c = c.count.invariant
