use Rattle.sre_patterns.proofs.OverUtf8.{utf8-literal}
use Rattle.sre_patterns.proofs.Tests.{bytes-literal}
use Rattle.sre_patterns.proofs.classes.literal_of.Goals as goal

pub returns-in_ok-literal_byte-in-Bytes : goal.returns-in_ok-literal_byte-in-Bytes
returns-in_ok-literal_byte-in-Bytes c h e table =
    rw (c.in-Bytes.is, c.in_ok-literal_byte-in-Bytes.ensures h e) (bytes-literal 256 table c.args.value)

pub returns-in_ok-literal_byte-in-Ascii : goal.returns-in_ok-literal_byte-in-Ascii
returns-in_ok-literal_byte-in-Ascii c h e table =
    rw (c.in-Ascii.is, c.in_ok-literal_byte-in-Ascii.ensures h e) (bytes-literal 128 table c.args.value)

pub returns-in_ok-literal_character-in-Utf8 : goal.returns-in_ok-literal_character-in-Utf8
returns-in_ok-literal_character-in-Utf8 c h e table =
    rw (c.in-Utf8.is, c.in_ok-literal_character-in-Utf8.ensures h e) (utf8-literal table c.args.value)
