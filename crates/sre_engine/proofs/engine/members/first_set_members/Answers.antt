use Rattle.sre_engine.proofs.Terms.{◌≡◌, ◌∙◌, ap, subst, sym, List, ℕ, words_of, code_of, HasSet, AreTold, told}
use Rattle.sre_engine.proofs.FirstSets.{set_there}
use Rattle.sre_engine.proofs.engine.members.first_set_members.Goals as goal

pub ascii_members-requires : goal.ascii_members-requires
ascii_members-requires g c =
    let read : c.words.result.now ≡ words_of (code_of c.args.req.now) =
    c.words.ensures.same ∙ ap words_of c.pattern_codes.ensures in
    subst (λ (ws : List ℕ). HasSet ws 5) (sym read) (set_there (code_of c.args.req.now) c.requires)

pub returns : goal.returns
returns g c =
    let read : c.words.result.now ≡ words_of (code_of c.args.req.now) =
    c.words.ensures.same ∙ ap words_of c.pattern_codes.ensures in
    subst (λ (ws : List ℕ). AreTold ws 5 c.ascii_members.result) read
    (told c.words.result.now 5 c.ascii_members.result c.ascii_members.ensures)
