use Rattle.sre_finder.proofs.Terms.{refl}
use Rattle.sre_finder.proofs.Places.{bytes_seen}
use Rattle.sre_finder.proofs.haystack.bytes_up_to.Goals as goal

pub returns : goal.returns
returns c = bytes_seen c.args.bytes.now _ c.args.end c.type_inv.bytes c.requires refl
