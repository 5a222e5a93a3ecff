use Rattle.sre_engine.proofs.Terms.{◌≡◌, ◌+◌, subst, ap, arith, rules, Opcode, Word, skip, word_of, tree_within}
use Rattle.sre_engine.proofs.Terms.{run_operand, run_there, PassesRun}
use Rattle.sre_engine.proofs.FirstSets.{run_here, passes_run}
use Rattle.sre_engine.proofs.engine.first_characters.behind_run.Goals as goal

pub word-requires : goal.word-requires
word-requires c = tree_within c.args.words.now c.args.place c.requires

pub operand-requires : goal.operand-requires
operand-requires c =
    run_operand c.args.words.now _ _ c.requires.stands (run_here _ _ _ (search rules) c.in-REPEAT_ONE.is).1

pub operand-skip-requires : goal.operand-skip-requires
operand-skip-requires c =
    omega (
      arith,
      run_operand c.args.words.now _ _ c.requires.stands (run_here _ _ _ (search rules) c.in-REPEAT_ONE.is).1,
    )

pub returns-else-operand-gt0-clause-passes : goal.returns-else-operand-gt0-clause-passes
returns-else-operand-gt0-clause-passes c = λ t stands.
    let ws = c.args.words.now in
    let i = c.args.place in
    let code : Opcode ws i c.in_ok-opcode.opcode = search rules in
    let none : c.operand.result ≡ 0 = omega (arith, c.if-operand-gt0.false) in
    let low = subst (Word ws (i + 2)) none c.operand.ensures.word in
    let at : skip ws (i + 1) ≡ i + 1 + c.operand-skip.result =
    ap (λ n. i + 1 + n) (word_of ws (i + 1) c.operand-skip.result c.operand-skip.ensures.word) in
    subst (PassesRun ws t (i + 4)) at (passes_run ws i (run_here _ _ _ code c.in-REPEAT_ONE.is).1 low t stands)

pub returns-else-operand-gt0-clause-test : goal.returns-else-operand-gt0-clause-test
returns-else-operand-gt0-clause-test c =
    run_there c.args.words.now _ _ c.requires.stands (run_here _ _ _ (search rules) c.in-REPEAT_ONE.is).1
