use Rattle.sre_request.proofs.Terms.{List, ℕ, ◌+◌, ◌∙◌, ap, subst, Word, items_of, set_test_end}
use Rattle.sre_request.proofs.one_character.test_end.Goals as goal

pub returns-in-IN : goal.returns-in-IN
returns-in-IN g c = λ j t s.
    let same = c.items-words.ensures.same ∙ ap items_of c.pattern_codes.ensures in
    let there = subst (λ (ws : List ℕ). Word ws (c.args.place + 1) c.operand.result) same c.operand.ensures.word in
    set_test_end (items_of c.args.req.now.pattern_codes) c.args.place j c.operand.result c.args.opcode t c.requires.code
    c.in-IN.is there s
