use Rattle.sre_patterns.proofs.Terms.{◌∙◌, ap, refl, sym, uni_of, view_of, look_for, meaning-Look}
use Rattle.sre_model.specs.Tree.{At}
use Rattle.sre_patterns.proofs.Composed.{covers-at}
use Rattle.sre_patterns.proofs.Items.{at-item}
use Rattle.sre_patterns.proofs.Serving.{serves-look, serves-covered}
use Rattle.sre_patterns.proofs.translate.position.Goals as goal

pub returns-in-Some : goal.returns-in-Some
returns-in-Some c =
    let s = c.args.task.now in
    rw meaning-Look
    (at-item _ _ _ _ _ (At c.at_code-number.result) refl (c.requires.opcode, (c.at_code-number.ensures.word, refl))
    (serves-look s.purpose s.encoding (uni_of s.code) _ c.in-Some.look
    (ap (look_for s.purpose) (sym c.position_in.ensures) ∙ sym c.look_for.ensures ∙ c.in-Some.is)))

pub returns-in_ok-only_covers-in-None : goal.returns-in_ok-only_covers-in-None
returns-in_ok-only_covers-in-None c =
    let s = c.args.task.now in
    rw (c.nothing.ensures.hir, c.nothing.ensures.end)
    (at-item _ _ _ _ _ (At c.at_code-number.result) refl (c.requires.opcode, (c.at_code-number.ensures.word, refl))
    (serves-covered _ _ s.purpose _ _ c.in_ok-only_covers-in-None.ensures
    (covers-at (view_of s.encoding) (uni_of s.code) _)))
