use Rattle.sre_board.proofs.Terms.{table_of}
use Rattle.sre_board.proofs.Pages.{no_pages}
use Rattle.sre_board.proofs.ends.Ends.new.Goals as goal

pub returns : goal.returns
returns g c = record {
  none = no_pages (table_of c.new.result.items c.new-2.result.items) c.new.ensures.items;
}
