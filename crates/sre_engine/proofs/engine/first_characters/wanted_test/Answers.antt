use Rattle.sre_engine.proofs.Terms.{sym, ◌∙◌, ◌≤◌, rules, Opcode, tree_within, run_operand, run_there}
use Rattle.sre_model.proofs.FirstCharacters.{test_there, test_bars, run_bars, some_test_here}
use Rattle.sre_engine.proofs.FirstSets.{run_here}
use Rattle.sre_engine.proofs.Leading.{found_here, found_inside, found_some, found_known, found_either}
use Rattle.sre_engine.proofs.engine.first_characters.wanted_test.Goals as goal

pub word-requires : goal.word-requires
word-requires c = tree_within c.args.words.now c.args.place c.requires

pub operand-requires : goal.operand-requires
operand-requires c =
    run_operand c.args.words.now _ _ c.requires.stands (run_here _ _ _ (search rules) c.in-REPEAT_ONE.is).1

pub returns-in_err-opcode-clause-own : goal.returns-in_err-opcode-clause-own
returns-in_err-opcode-clause-own c = λ t test stands first past.
    let high : 43 ≤ c.word.result = search rules in
    absurd (found_known c.args.words.now _ t stands test first past _ c.word.ensures.word high)

pub returns-then-operand-gt0 : goal.returns-then-operand-gt0
returns-then-operand-gt0 c =
    let run = (run_here c.args.words.now c.args.place _ (search rules) c.in-REPEAT_ONE.is).1 in
    record {
      bars = λ t stands. run_bars c.args.words.now t _ stands _ run c.operand.ensures.word c.if-operand-gt0.true;
      test = run_there c.args.words.now _ _ c.requires.stands run;
      own = λ t test stands first past. found_inside c.args.words.now _ t stands test first past run;
    }

pub returns-then-is_test : goal.returns-then-is_test
returns-then-is_test c =
    let code : Opcode c.args.words.now c.args.place c.in_ok-opcode.opcode = search rules in
    let is = sym c.is_test.ensures ∙ c.if-is_test.true in
    let here = (some_test_here _ _ _ code is).1 in
    record {
      bars = λ t stands s p lacking. test_bars c.args.words.now t _ stands here s p lacking;
      test = test_there c.args.words.now _ _ c.requires.stands here;
      own = λ t test stands first past. found_here c.args.words.now _ t stands test first past _ code is;
    }

pub returns-else-operand-gt0-clause-own : goal.returns-else-operand-gt0-clause-own
returns-else-operand-gt0-clause-own c = λ t test stands first past.
    found_some c.args.words.now _ t stands test first past _ (run_here _ _ _ (search rules) c.in-REPEAT_ONE.is).1
    c.operand.ensures.word c.if-operand-gt0.false

pub returns-else-is_test-clause-own : goal.returns-else-is_test-clause-own
returns-else-is_test-clause-own c = λ t test stands first past.
    let code : Opcode c.args.words.now c.args.place c.in_ok-opcode.opcode = search rules in
    found_either c.args.words.now _ t stands test first past _ code (sym c.is_test.ensures ∙ c.if-is_test.false)
    c.in_default.not-REPEAT_ONE c.in_default.not-MIN_REPEAT_ONE c.in_default.not-POSSESSIVE_REPEAT_ONE
