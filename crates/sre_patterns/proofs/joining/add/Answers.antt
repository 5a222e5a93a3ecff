use Rattle.sre_patterns.proofs.Terms.{map, cat, empty, meaning, meaning-Empty}
use Rattle.sre_patterns.proofs.Onto.{cat-wider, empty-first, pushed, wider-same}
use Rattle.sre_patterns.proofs.joining.add.Goals as goal

pub returns-in_default : goal.returns-in_default
returns-in_default c b = rw c.in_default.is (pushed _ _ _ c.in_ok-push.ensures.items b)

pub returns-in-Empty : goal.returns-in-Empty
returns-in-Empty c b =
    rw (c.in-Cover.is, c.in-Empty.is, meaning-Empty)
    (cat-wider (map meaning c.args.parts.now.items) (cat empty b) b (empty-first b))

pub returns-in_ok-push-in_default-hir : goal.returns-in_ok-push-in_default-hir
returns-in_ok-push-in_default-hir c b =
    rw c.in-Cover.is (wider-same _ _ (pushed _ _ _ c.in_ok-push-in_default-hir.ensures.items b))
