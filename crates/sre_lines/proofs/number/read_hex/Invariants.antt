use Rattle.sre_lines.proofs.Terms.{◌≡◌, ◌*◌, ◌<◌, take, All, hex_text}
use Rattle.sre_lines.proofs.number.read_hex.Given as goal

-- the pairs so far are the bytes so far
abbrev pub invariant-loop-i : goal.invariant-loop-i
invariant-loop-i g l = record {
  pairs : hex_text l.bytes.items ≡ take (2 * l.i) l.digits;
  fit : All (λ b. b < 256) l.bytes.items;
}
