use Rattle.sre_machine.proofs.Terms.{◌≡◌, ◌∙◌, ◌*◌, refl, ap, subst, ℕ, List, arith, items_of, whole_of, no_marks}
use Rattle.sre_machine.proofs.Terms.{AreWords, behind_items, tree_of, bare, first_limit, run_of, Remembering}
use Rattle.sre_machine.proofs.Terms.{whole-read, steps_behind, told_of}
use Rattle.sre_machine.proofs.Following.{begins_run, run_stops, run_settles, if_ok, rested}
use Rattle.sre_machine.proofs.runner.Runner.run_once.Goals as goal

pub turns_from-told-requires-clause-stands : goal.turns_from-told-requires-clause-stands
turns_from-told-requires-clause-stands g c =
    let r = run_of c.args.req.now in
    let same : c.items.result.now ≡ r.words = c.items.ensures.same ∙ ap items_of c.pattern_codes.ensures in
    let fresh : c.self.inside.board ≡ bare no_marks = rw (← c.self.view_is) at c.requires.fresh in
    record {
      limit = first_limit r (2 * c.args.literals) (behind_items c.args.literals (tree_of r.words)) c.args.start 0;
      turns_left = refl;
      stands = begins_run r c.args.literals c.args.start c.self.inside.board
          (subst (λ (ws : List ℕ). AreWords ws) same c.know_words.ensures) (whole_of c.args.req.now.pattern_codes)
          c.requires.may.behind c.requires.may.stands c.requires.may.inside fresh 0 (omega arith);
    }

pub returns-clause-decides : goal.returns-clause-decides
returns-clause-decides g c = rw (← c.self.view_is) (record {
  found = λ t w. rw (← whole-read _ t w) c.turns_from-told.ensures.decides.found;
  opened = c.turns_from-told.ensures.decides.opened;
})

pub returns-clause-costs : goal.returns-clause-costs
returns-clause-costs g c =
    let r = run_of c.args.req.now in
    let same : c.items.result.now ≡ r.words = c.items.ensures.same ∙ ap items_of c.pattern_codes.ensures in
    let fresh : c.self.inside.board ≡ bare no_marks = rw (← c.self.view_is) at c.requires.fresh in
    let begins = begins_run r c.args.literals c.args.start c.self.inside.board
    (subst (λ (ws : List ℕ). AreWords ws) same c.know_words.ensures) (whole_of c.args.req.now.pattern_codes)
    c.requires.may.behind c.requires.may.stands c.requires.may.inside fresh in
    let few = λ (pl : Remembering c.args.req.now).
    steps_behind r.words (2 * c.args.literals) c.args.literals pl.plain.tree
    (c.requires.may.behind pl.plain.tree pl.plain.whole) pl.plain.whole.1 in
    let told = told_of c.turns_from-told.result c.turns_from-told.new.ended in
    let costs = c.turns_from-told.ensures.costs in
    rw (← c.self.view_is) (record {
      spent = λ t w. rw (← whole-read _ t w) costs.spent;
      stops = λ limited.
          run_stops c.args.req.now _ (2 * c.args.literals) (behind_items c.args.literals (tree_of r.words))
          c.args.start c.self.inside.board c.self.inside.memo _ _ begins few (c.turns_from-told.ensures.stops limited);
      settles = λ limited. if_ok told
          (λ d is settles none. rested c.args.req.now c.args.start c.self.inside.memo c.turns_from-told.new.memo
          c.rest.new.self _ _ c.rest.ensures.same
          (run_settles c.args.req.now _ (2 * c.args.literals)
          (behind_items c.args.literals (tree_of r.words)) c.args.start c.self.inside.board c.self.inside.memo _ _
          begins few c.turns_from-told.new.memo (settles none)))
          (costs.settles limited);
      waited = λ limited. (c.turns_from-told.ensures.stops limited).waited;
    })
