use Rattle.sre_machine.proofs.Terms.{ap, subst, sym, ◌∙◌, List, ℕ, items_of, no_marks, HoldsOpenEnds, run_of, tried_end}
use Rattle.sre_machine.proofs.Terms.{HoldsOpenMore, right_open}
use Rattle.sre_machine.proofs.Recalling.{recalls_ended}
use Rattle.sre_machine.proofs.scopes.keep_ends.Goals as goal

pub returns-then-is_unmarked-clause-remembers : goal.returns-then-is_unmarked-clause-remembers
returns-then-is_unmarked-clause-remembers g c =
    let r = run_of c.args.req.now in
    let m = c.args.memo.now in
    let m' = c.keep_ends.new.self in
    let e = c.requires.ends in
    let inside = sym c.is_inside.ensures ∙ c.if-is_inside.true in
    let keeps = sym c.keeps_ends.ensures ∙ c.if-keeps_ends.true in
    let more = subst (λ (ws : List ℕ). HoldsOpenMore m.kept ws c.args.board.now.choices c.args.cursor m.ends m'.ends)
    (c.items.ensures.same ∙ ap items_of c.pattern_codes.ensures) c.keep_ends.ensures.more in
    recalls_ended r m m' c.keep_ends.ensures.failures c.keep_ends.ensures.marked c.keep_ends.ensures.keeps
    (right_open r m.kept c.args.board.now.choices m.ends m'.ends c.args.cursor more
    (tried_end r (c.requires.remembers.markless keeps) no_marks e.all e.limit c.args.cursor
    c.args.board.now (c.is_unmarked.ensures.unmarked c.if-is_unmarked.true) inside e.ends)
    e.ends.stands c.requires.remembers.ends) c.requires.remembers

pub returns-then-is_unmarked-clause-held : goal.returns-then-is_unmarked-clause-held
returns-then-is_unmarked-clause-held g c = λ here going.
    subst (λ (ws : List ℕ).
    HoldsOpenEnds c.args.memo.now.kept ws c.args.board.now.choices c.args.cursor c.keep_ends.new.self.ends)
    (c.items.ensures.same ∙ ap items_of c.pattern_codes.ensures) (c.keep_ends.ensures.held going)
