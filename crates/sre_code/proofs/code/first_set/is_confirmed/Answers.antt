use Rattle.sre_code.proofs.Terms.{arith}
use Rattle.sre_code.proofs.FirstSets.{no_set_with_prefix, no_set_flag, no_set_room, no_set_failure, first_set_told}
use Rattle.sre_code.proofs.FirstSets.{set_there}
use Rattle.sre_code.proofs.AsciiMembers.{told}
use Rattle.sre_code.proofs.code.first_set.is_confirmed.Goals.{then-words-eq1-via-then-words-eq1}
use Rattle.sre_code.proofs.code.first_set.is_confirmed.Goals.{then-words-eq1-via-else-words-eq1+then-words-eq0}
use Rattle.sre_code.proofs.code.first_set.is_confirmed.Goals.{
  then-words-eq1-via-else-words-eq1+else-words-eq0+then-end-lt6,
}
use Rattle.sre_code.proofs.code.first_set.is_confirmed.Goals as goal

pub returns-then-words-eq1 : goal.returns-then-words-eq1
returns-then-words-eq1 c = λ tree whole.
    elim c.then-words-eq1.branch [
      | then-words-eq1-via-then-words-eq1 w ↦
          no_set_with_prefix _ _ tree _ c.requires.block w.if-words-eq1.true
      | then-words-eq1-via-else-words-eq1+then-words-eq0 w ↦ no_set_flag c.args.words.now _ tree w.if-words-eq0.true
      | then-words-eq1-via-else-words-eq1+else-words-eq0+then-end-lt6 w ↦
          no_set_room _ _ tree _ c.requires.block w.if-end-lt6.true
    ]

pub returns-then-words-end : goal.returns-then-words-end
returns-then-words-end c = λ tree whole. no_set_failure _ _ tree _ c.requires.block c.if-words-end.true

pub ascii_members-requires : goal.ascii_members-requires
ascii_members-requires c = set_there _ _ c.requires.block c.if-words-end.false c.in-Ok.ensures

pub first_in-requires : goal.first_in-requires
first_in-requires c = record {
  set = record {
    has = set_there _ _ c.requires.block c.if-words-end.false c.in-Ok.ensures;
    long = omega (arith, c.if-end-lt6.false);
    within = omega (arith, c.requires.block.within);
    told = told c.args.words.now 5 c.ascii_members.result c.ascii_members.ensures;
  };
}

pub returns : goal.returns
returns c = λ tree whole.
    first_set_told _ _ tree _ _ _ _ c.requires.block c.requires.ends c.if-words-eq1.false c.if-words-eq0.false
    c.if-end-lt6.false c.if-words-end.false c.in-Ok.ensures c.behind_marks.ensures c.first_in.ensures whole
