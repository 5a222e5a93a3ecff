-- The bits that the constants have, all together.
use Rattle.std.proofs.Common.{◌≡◌, refl}
use Rattle.bitflags.proofs.OnLiterals.{bitflags_on_literals}
use Rattle.bitflags.specs.Sets.{known_bits}
use Rattle.sre_flags.specs.Flags.{block_flags, pattern_flags}

-- the nine lowest
pub known_pattern_flags : known_bits pattern_flags ≡ 511
unfolding bitflags_on_literals
known_pattern_flags = refl

-- the three lowest
pub known_block_flags : known_bits block_flags ≡ 7
unfolding bitflags_on_literals
known_block_flags = refl
