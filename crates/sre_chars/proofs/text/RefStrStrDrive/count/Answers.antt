use Rattle.sre_chars.proofs.Terms.{ap, ◌∙◌, length, chars}
use Rattle.sre_chars.proofs.Beginnings.{count_chars}
use Rattle.sre_chars.proofs.text.RefStrStrDrive.count.Goals as goal

pub returns-clause-value : goal.returns-clause-value
returns-clause-value c =
    c.beginnings.ensures
    ∙ count_chars _ c.as_bytes.ensures.utf8
    ∙ ap (λ bs. length (chars bs)) c.as_bytes.ensures.value
