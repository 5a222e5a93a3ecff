use Rattle.std.proofs.Common.{rules}
use Rattle.sre_finder.proofs.finder.Finder.all_matches.Goals as goal

pub all_matches_by-requires : goal.all_matches_by-requires
all_matches_by-requires g c = search rules
