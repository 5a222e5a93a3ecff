use Rattle.sre_code.proofs.Borders.{overlaps_told}
use Rattle.sre_code.proofs.code.borders.are_overlaps.Goals as goal

pub returns : goal.returns
returns c = overlaps_told _ _ _ c.requires.long c.are_borders.ensures.0 c.are_borders.ensures.1
