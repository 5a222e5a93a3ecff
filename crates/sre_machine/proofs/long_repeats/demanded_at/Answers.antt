use Rattle.sre_machine.proofs.Terms.{◌≡◌, List, ℕ, refl, ap, ◌∙◌, subst, Opcode, items_of, run_of, mark_refuses, ◌+◌}
use Rattle.sre_machine.proofs.Terms.{Option, Some, None, IfSome, Word, Run, Refuses, DemandsAny, literal_demands}
use Rattle.sre_chars.specs.declared.constants.SreOpcode.TheVariants as opcode
use Rattle.sre_machine.proofs.long_repeats.demanded_at.Goals as goal

-- a literal demands its character, and so does what is nothing where the literal is
demanded_there : (r : Run) (ws : List ℕ) (start i : ℕ) (o : Option ℕ) → ws ≡ r.words
    → ((p : ℕ) → Refuses r i p → Refuses r start p) → Opcode ws i opcode.LITERAL → IfSome o (λ v. Word ws (i + 1) v)
    → DemandsAny r start o
demanded_there r ws start i None same behind code there = tt
demanded_there r ws start i (Some v) same behind code there = λ p unlike.
    behind p (literal_demands r i v (subst (λ (xs : List ℕ). Opcode xs i opcode.LITERAL) same code)
    (subst (λ (xs : List ℕ). Word xs (i + 1) v) same there) p unlike)

pub mark-preserved : goal.mark-preserved
mark-preserved g c =
    let r = run_of c.args.req.now in
    let same : c.items-words.result.now ≡ r.words = c.items-words.ensures.same ∙ ap items_of c.pattern_codes.ensures in
    λ p none. c.mark.invariant p (mark_refuses r c.mark.place p
    (subst (λ (ws : List ℕ). Opcode ws c.mark.place opcode.MARK) same (c.mark-test.ensures refl).0) none)

pub returns : goal.returns
returns g c =
    let r = run_of c.args.req.now in
    demanded_there r c.items-words.result.now c.args.start c.mark.place c.word_at.result
    (c.items-words.ensures.same ∙ ap items_of c.pattern_codes.ensures) c.mark.invariant
    (c.stands_at-2.ensures c.if-not-stands_at.false).0 c.word_at.ensures
