use Rattle.sre_machine.proofs.Terms.{run_of, shorter_none, shorter_past, shorter_skips, positive}
use Rattle.sre_machine.proofs.character_repeats.shorter_saved.Goals as goal

pub returns-then-count-eq0 : goal.returns-then-count-eq0
returns-then-count-eq0 g c = shorter_none (run_of c.args.req.now) c.args.tail _ _ _ c.if-count-eq0.true

pub back_one-nearest-requires-clause-past : goal.back_one-nearest-requires-clause-past
back_one-nearest-requires-clause-past g c =
    shorter_past (run_of c.args.req.now) c.args.tail _ _ (positive _ c.if-count-eq0.false) c.requires

pub first_literal-wanted-requires : goal.first_literal-wanted-requires
first_literal-wanted-requires g c =
    (shorter_skips (run_of c.args.req.now) _ c.args.start c.args.tail _ c.args.start c.back_one-nearest.result
    c.if-count-eq0.false c.back_one-nearest.ensures.position c.back_one-nearest.ensures.stands c.requires
    (λ b all limit x. x)).runs
