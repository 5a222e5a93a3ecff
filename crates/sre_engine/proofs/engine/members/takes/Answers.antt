use Rattle.sre_engine.proofs.Terms.{◌≡◌, ◌∙◌, ap, subst, sym, List, ℕ, words_of, code_of, HasSet}
use Rattle.sre_engine.proofs.FirstSets.{set_there}
use Rattle.sre_engine.proofs.engine.members.takes.Goals as goal

pub is_member-requires : goal.is_member-requires
is_member-requires g c =
    let read : c.words.result.now ≡ words_of (code_of c.args.req.now) =
    c.words.ensures.same ∙ ap words_of c.pattern_codes-code.ensures in
    subst (λ (ws : List ℕ). HasSet ws 5) (sym read) (set_there (code_of c.args.req.now) c.requires.set)
