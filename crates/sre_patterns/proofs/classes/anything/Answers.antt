use Rattle.sre_patterns.proofs.Terms.{◌∙◌, [], arith, meaning-Bytes, meaning-Chars}
use Rattle.sre_model.specs.Tree.{AnyAll}
use Rattle.sre_patterns.proofs.OverBytes.{bytes-take}
use Rattle.sre_patterns.proofs.OverUtf8.{utf8-take}
use Rattle.sre_patterns.proofs.Tests.{added, scalar-most}
use Rattle.sre_patterns.proofs.classes.anything.Goals as goal

pub returns-in_ok-from_ranges-in-Bytes : goal.returns-in_ok-from_ranges-in-Bytes
returns-in_ok-from_ranges-in-Bytes c table =
    rw (c.in-Bytes.is, meaning-Bytes)
    (bytes-take 256 table _ AnyAll (λ k l h. c.in_ok-from_ranges-in-Bytes.ensures k (omega arith)
    ∙ added [] 0 255 k (omega arith) (omega arith)))

pub returns-in_ok-from_ranges-in-Ascii : goal.returns-in_ok-from_ranges-in-Ascii
returns-in_ok-from_ranges-in-Ascii c table =
    rw (c.in-Ascii.is, meaning-Bytes)
    (bytes-take 128 table _ AnyAll (λ k l h. c.in_ok-from_ranges-in-Ascii.ensures k (omega arith)
    ∙ added [] 0 127 k (omega arith) (omega arith)))

pub returns-in_ok-from_ranges-in-Utf8 : goal.returns-in_ok-from_ranges-in-Utf8
returns-in_ok-from_ranges-in-Utf8 c table =
    rw (c.in-Utf8.is, meaning-Chars)
    (utf8-take table _ AnyAll (λ k s h. c.in_ok-from_ranges-in-Utf8.ensures k (scalar-most k s)
    ∙ added [] 0 1114111 k (omega arith) (scalar-most k s)))
