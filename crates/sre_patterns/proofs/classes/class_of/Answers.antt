use Rattle.sre_patterns.proofs.Terms.{arith, meaning-Bytes, meaning-Chars, uni_of}
use Rattle.sre_patterns.proofs.Tests.{serves-bytes, serves-chars}
use Rattle.sre_patterns.proofs.classes.class_of.Goals as goal

pub returns-in_ok-new-in-Bytes : goal.returns-in_ok-new-in-Bytes
returns-in_ok-new-in-Bytes c j t s =
    rw (c.in-Bytes.is, meaning-Bytes)
    (serves-bytes c.args.task.now.purpose 256 (uni_of c.args.task.now.code) t _ _ (omega arith)
    (c.in_ok-ranges-in-Bytes.ensures j t s) c.in_ok-new-in-Bytes.ensures)

pub returns-in_ok-new-in-Ascii : goal.returns-in_ok-new-in-Ascii
returns-in_ok-new-in-Ascii c j t s =
    rw (c.in-Ascii.is, meaning-Bytes)
    (serves-bytes c.args.task.now.purpose 128 (uni_of c.args.task.now.code) t _ _ (omega arith)
    (c.in_ok-ranges-in-Ascii.ensures j t s) c.in_ok-new-in-Ascii.ensures)

pub returns-in_ok-new-in-Utf8 : goal.returns-in_ok-new-in-Utf8
returns-in_ok-new-in-Utf8 c j t s =
    rw (c.in-Utf8.is, meaning-Chars)
    (serves-chars c.args.task.now.purpose (uni_of c.args.task.now.code) t _ _ (c.in_ok-ranges-in-Utf8.ensures j t s)
    c.in_ok-new-in-Utf8.ensures)
