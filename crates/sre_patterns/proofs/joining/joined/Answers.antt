use Rattle.sre_patterns.proofs.Terms.{◌∙◌, sym, map, meaning, meaning-Concat}
use Rattle.sre_patterns.proofs.Onto.{cat-all, wider-same}
use Rattle.sre_patterns.proofs.joining.joined.Goals as goal

pub returns-in_default : goal.returns-in_default
returns-in_default c = rw c.in_default.is (cat-all (map meaning c.args.parts.items) ∙ sym (meaning-Concat c.args.parts))

pub returns-then-len-gt1 : goal.returns-then-len-gt1
returns-then-len-gt1 c =
    rw c.in-Cover.is
    (wider-same _ _ (cat-all (map meaning c.args.parts.items) ∙ sym (meaning-Concat c.args.parts)))
