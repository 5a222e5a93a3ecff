use Rattle.sre_machine.proofs.Terms.{◌≡◌, ◌+◌, ◌∙◌, sym, subst, Instruction, Longer, HasRun, SkipsBoth, run_of}
use Rattle.sre_machine.proofs.Terms.{longer_free, both_skips, longer_there, skips_then}
use Rattle.sre_machine.proofs.character_repeats.first_longer.Goals as goal

pub run_operands-operands-requires : goal.run_operands-operands-requires
run_operands-operands-requires g c =
    longer_there (run_of c.args.req.now) c.args.place c.args.least c.args.start c.requires.stands

pub opcode-opcode-requires : goal.opcode-opcode-requires
opcode-opcode-requires g c = c.run_operands-operands.ensures.operands.test

pub first_literal-wanted-requires : goal.first_literal-wanted-requires
first_literal-wanted-requires g c =
    let same : c.run_operands-operands.result.tail ≡ c.args.tail =
    c.run_operands-operands.ensures.operands.leads ∙ sym c.requires.tail in
    subst (λ tail. HasRun (run_of c.args.req.now) (Instruction tail) c.in-Some.nearest) same
    c.in-Some.ensures.longer.runs

pub count-init : goal.count-init
count-init g c =
    let same : c.run_operands-operands.result.tail ≡ c.args.tail =
    c.run_operands-operands.ensures.operands.leads ∙ sym c.requires.tail in
    record {
      both =
          subst (λ tail. SkipsBoth (run_of c.args.req.now) (Longer c.args.place c.args.least) c.args.start
          (Instruction tail) (Longer c.args.place (c.args.least + 1)) c.in-Some.nearest) same
          c.in-Some.ensures.longer;
    }

pub returns-in_default-one_longer : goal.returns-in_default-one_longer
returns-in_default-one_longer g c = λ b all limit x.
    let passed = both_skips (run_of c.args.req.now) _ c.args.start _ _ c.count.cursor
    longer_free (c.lacks.ensures c.if-not-lacks.false _ c.first_literal-wanted.ensures) c.count.invariant.both in
    c.in_default-one_longer.ensures.longer b all limit (passed b all limit x)

pub count-preserved : goal.count-preserved
count-preserved g c =
    let same : c.run_operands-operands.result.tail ≡ c.args.tail =
    c.run_operands-operands.ensures.operands.leads ∙ sym c.requires.tail in
    let passed = both_skips (run_of c.args.req.now) _ c.args.start _ _ c.count.cursor
    longer_free (c.lacks.ensures c.if-not-lacks.false _ c.first_literal-wanted.ensures) c.count.invariant.both in
    record {
      both =
          skips_then (run_of c.args.req.now) _ _ _ _ c.args.start c.count.cursor c.in-Some-one_longer.after passed
          (subst (λ tail. SkipsBoth (run_of c.args.req.now) (Longer c.args.place c.count.count) c.count.cursor
          (Instruction tail) (Longer c.args.place (c.count.count + 1)) c.in-Some-one_longer.after) same
          c.in-Some-one_longer.ensures.longer);
    }
