use Rattle.sre_c.proofs.Terms.{refl, IsAscii, IsUtf8-from_ascii, chars-IsAscii}
use Rattle.sre_c.proofs.utf8.read_utf8.Goals as goal

pub returns-then-is_ascii : goal.returns-then-is_ascii
returns-then-is_ascii c =
    let ascii : IsAscii c.args.bytes.now = c.if-is_ascii.ensures.cases in
    (refl, IsUtf8-from_ascii c.args.bytes.now ascii, chars-IsAscii c.args.bytes.now ascii)
