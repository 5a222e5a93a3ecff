use Rattle.sre_c.proofs.Terms.{◌≡◌, ◌<◌, ◌||◌, ℕ, nat_le, false, length, slice_index_or, contains}
use Rattle.sre_c.proofs.beginnings.write_flags.Given as goal

abbrev pub invariant-loop-c : goal.invariant-loop-c
invariant-loop-c l =
    (length l.flags ≡ length l.fn.flags)
    × ((c : ℕ) → c < l.c → slice_index_or l.flags c false ≡ (nat_le 128 c || contains l.set c))
