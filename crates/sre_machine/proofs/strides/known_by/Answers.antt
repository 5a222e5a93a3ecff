use Rattle.sre_machine.proofs.Terms.{◌≡◌, ◌⊎◌, ◌+◌, ℕ, List, sym, ap, ◌∙◌, subst, Word, Opcode, HasTest, contains}
use Rattle.sre_machine.proofs.Terms.{items_of, run_of, test_there, TakesAscii, tells_test}
use Rattle.sre_chars.specs.declared.constants.SreOpcode.TheVariants as opcode
use Rattle.sre_machine.proofs.strides.known_by.Goals as goal

pub ascii_taken-requires : goal.ascii_taken-requires
ascii_taken-requires g c =
    subst (λ (ws : List ℕ). HasTest ws c.args.place)
    (sym (c.items-words.ensures.same ∙ ap items_of c.pattern_codes.ensures))
    (test_there (run_of c.args.req.now) _ _ _ c.requires.opcode c.requires.tests c.requires.stands)

pub test_end-end-requires-clause-stands : goal.test_end-end-requires-clause-stands
test_end-end-requires-clause-stands g c =
    test_there (run_of c.args.req.now) _ _ _ c.requires.opcode c.requires.tests c.requires.stands

pub returns : goal.returns
returns g c =
    let r = run_of c.args.req.now in
    let same : c.items-words.result.now ≡ r.words = c.items-words.ensures.same ∙ ap items_of c.pattern_codes.ensures in
    let taken : TakesAscii r.words c.args.place c.in_ok-taken.taken =
    subst (λ (ws : List ℕ). TakesAscii ws c.args.place c.in_ok-taken.taken) same c.in_ok-taken.ensures.taken in
    let end = c.test_end-end.result in
    let behind = c.behind_jump_at.result in
    tells_test r c.args.place end behind c.args.opcode
    (contains c.in_ok-taken.taken) c.requires.opcode c.requires.tests
    (test_there r _ _ _ c.requires.opcode c.requires.tests c.requires.stands)
    (λ ch small j t st. taken r.subject.table j t st ch small)
    c.test_end-end.ensures
    (subst (λ (ws : List ℕ). (behind ≡ end) ⊎ ((v : ℕ) × (Opcode ws end opcode.JUMP × (Word ws (end + 1) v
    × (behind ≡ end + 1 + v))))) same c.behind_jump_at.ensures)
