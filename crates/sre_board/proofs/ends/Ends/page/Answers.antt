use Rattle.sre_board.proofs.Terms.{refl}
use Rattle.sre_board.proofs.Pages.{same_ends, same_then}
use Rattle.sre_board.proofs.ends.Ends.page.Goals as goal

pub returns-in_err-lengthen-clause-same : goal.returns-in_err-lengthen-clause-same
returns-in_err-lengthen-clause-same g c =
    same_ends _ c.self.inside.pages.items c.lengthen.new.list.items c.self.inside.ends.items _ c.self.view_is
    c.lengthen.ensures.same (λ i. refl)

pub returns-then-page-gt0-clause-same : goal.returns-then-page-gt0-clause-same
returns-then-page-gt0-clause-same g c =
    same_ends _ c.self.inside.pages.items c.lengthen.new.list.items c.self.inside.ends.items _ c.self.view_is
    c.lengthen.ensures.same (λ i. refl)

pub returns-clause-same : goal.returns-clause-same
returns-clause-same g c =
    same_then c.args.self.now _ c.add_page.new.self
    (same_ends _ c.self.inside.pages.items c.lengthen.new.list.items c.self.inside.ends.items c.self.inside.ends.items
    c.self.view_is c.lengthen.ensures.same (λ i. refl)) c.add_page.ensures.same
