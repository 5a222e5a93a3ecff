use Rattle.sre_board.proofs.Terms.{table_of}
use Rattle.sre_board.proofs.Pages.{no_pages}
use Rattle.sre_board.proofs.ends.Ends.forget.Goals as goal

pub returns : goal.returns
returns g c = record {
  none = no_pages (table_of c.clear.new.self.items c.clear-2.new.self.items) c.clear.ensures.items;
}
