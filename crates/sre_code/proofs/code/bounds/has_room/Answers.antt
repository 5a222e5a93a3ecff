use Rattle.sre_code.proofs.PricedItems.{room_test}
use Rattle.sre_code.proofs.code.bounds.has_room.Goals as goal

pub returns : goal.returns
returns c =
    room_test c.args.places c.args.positions c.args.slots _ _ c.bits_by.ensures c.saturating_mul-words.ensures
