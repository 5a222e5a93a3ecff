use Rattle.sre_board.proofs.Pages.{end_put}
use Rattle.sre_board.proofs.ends.Ends.put.Goals as goal

pub returns : goal.returns
returns g c =
    end_put _ c.self.inside.pages.items c.self.inside.ends.items c.args.number c.args.page c.args.end c.self.view_is
    c.requires.some c.self.invariant c.requires.page
