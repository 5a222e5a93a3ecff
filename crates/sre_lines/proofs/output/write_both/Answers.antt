-- What is written is the front, then the end, or a part of both.
use Rattle.sre_lines.proofs.Terms.{refl}
use Rattle.sre_lines.proofs.Parts.{front_part, behind_part, behind_whole}
use Rattle.sre_lines.proofs.output.write_both.Goals as goal

pub returns-in_err-write_whole-clause-part : goal.returns-in_err-write_whole-clause-part
returns-in_err-write_whole-clause-part g c =
    front_part _ _ _ _ c.from_residual.result c.in_err-write_whole.ensures.part

pub returns-clause-whole : goal.returns-clause-whole
returns-clause-whole g c =
    behind_whole _ _ _ _ _ _ c.write_whole-2.result refl c.in_ok-write_whole.ensures.whole c.write_whole-2.ensures.whole

pub returns-clause-part : goal.returns-clause-part
returns-clause-part g c =
    behind_part _ _ _ _ _ _ c.write_whole-2.result refl c.in_ok-write_whole.ensures.whole c.write_whole-2.ensures.part
