use Rattle.sre_board.proofs.Terms.{◌+◌, refl, arith}
use Rattle.sre_board.proofs.Pages.{same_ends, added_same}
use Rattle.sre_board.proofs.ends.Ends.add_page.Goals as goal

pub returns-in_err-lengthen-clause-same : goal.returns-in_err-lengthen-clause-same
returns-in_err-lengthen-clause-same g c =
    same_ends _ c.self.inside.pages.items _ c.self.inside.ends.items c.lengthen.new.list.items c.self.view_is
    (λ w. refl) c.lengthen.ensures.same

pub returns-clause-same : goal.returns-clause-same
returns-clause-same g c =
    added_same _ c.self.inside.pages.items c.self.inside.ends.items c.lengthen.new.list.items c.args.word
    (c.len-page.result + 1) c.self.view_is (omega (arith, c.len-page.ensures)) c.lengthen.ensures.same
    c.requires.there c.requires.none
