use Rattle.sre_machine.proofs.Terms.{true≢false, sym, refl, Instruction, Again, run_of, alternatives_free, shorter_free}
use Rattle.sre_machine.proofs.Terms.{longer_free, back_none, back_arrives, back_at, back_run, back_region}
use Rattle.sre_machine.proofs.Terms.{nothing_waits}
use Rattle.sre_turns.specs.declared.Next.TheVariants as next
use Rattle.sre_machine.proofs.MarksPassed.{choice_turned, retreats, passed_failed, passed_kept, passed_unkept}
use Rattle.sre_machine.proofs.machine.back.Goals as goal

pub returns-in_default-clause-next : goal.returns-in_default-clause-next
returns-in_default-clause-next g c = λ all limit x.
    let y = c.choice.invariant.backs all limit x in
    let none = c.in_default.ensures.0 in (
      back_none (run_of c.args.req.now) _ none all y.0 y.2,
      (
        y.0,
        y.1,
        λ keeps. y.3 (λ none. true≢false (sym (rw none at keeps))),
        λ pl. nothing_waits
            (run_of c.args.req.now) pl y.0 c.choice.board.choices none (y.2.fares pl),
      ),
    )

pub returns-in-Instruction-clause-next : goal.returns-in-Instruction-clause-next
returns-in-Instruction-clause-next g c =
    retreats c.choice.invariant (next.At c.in-Instruction.place c.in-Some.choice.1) c.back.new.self
    (λ keeps none. true≢false (sym (rw none at keeps)))
    (back_arrives (run_of c.args.req.now) c.choice.board c.back.new.self _ (Instruction c.in-Instruction.place) _
    c.in-Some.ensures c.in-Instruction.is refl)

pub returns-in-Alternatives-clause-next : goal.returns-in-Alternatives-clause-next
returns-in-Alternatives-clause-next g c =
    retreats c.choice.invariant _ _ (λ keeps none. true≢false (sym (rw none at keeps)))
    (choice_turned _ _ (back_at (run_of c.args.req.now) c.choice.board c.back.new.self _ _ _
    c.in-Some.ensures c.in-Alternatives.is refl alternatives_free) c.in_ok-alternatives-in-Alternatives.ensures)

pub returns-in-Shorter-clause-next : goal.returns-in-Shorter-clause-next
returns-in-Shorter-clause-next g c =
    retreats c.choice.invariant _ _ (λ keeps none. true≢false (sym (rw none at keeps)))
    (choice_turned _ _ (back_at (run_of c.args.req.now) c.choice.board c.back.new.self _ _ _
    c.in-Some.ensures c.in-Shorter.is refl shorter_free) c.in_ok-shorter_saved-in-Shorter.ensures)

pub returns-in-Longer-clause-next : goal.returns-in-Longer-clause-next
returns-in-Longer-clause-next g c =
    retreats c.choice.invariant _ _ (λ keeps none. true≢false (sym (rw none at keeps)))
    (choice_turned _ _ (back_at (run_of c.args.req.now) c.choice.board c.back.new.self _ _ _
    c.in-Some.ensures c.in-Longer.is refl longer_free) c.in_ok-longer_saved-in-Longer.ensures)

pub returns-in-Inside-clause-next : goal.returns-in-Inside-clause-next
returns-in-Inside-clause-next g c =
    retreats c.choice.invariant _ _ (λ keeps none. true≢false (sym (rw none at keeps)))
    (back_region (run_of c.args.req.now) c.choice.board c.back.new.self _ _ c.in-Inside.region _ _ c.in-Some.ensures
    c.in-Inside.is c.without_outcome.ensures.next c.without_outcome.ensures.board)

pub returns-in-Again-clause-next : goal.returns-in-Again-clause-next
returns-in-Again-clause-next g c =
    retreats c.choice.invariant (next.Again c.in-Some.choice.1) c.back.new.self
    (λ keeps none. true≢false (sym (rw none at keeps)))
    (back_arrives (run_of c.args.req.now) c.choice.board c.back.new.self _ Again _ c.in-Some.ensures c.in-Again.is
    refl)

-- a mark is passed over
pub keep-requires-clause-failed : goal.keep-requires-clause-failed
keep-requires-clause-failed g c =
    passed_failed c.choice.invariant c.back.new.self (Instruction c.in-Tried.place) c.in-Some.ensures c.in-Tried.is refl

pub choice-preserved-then-this-ne0 : goal.choice-preserved-then-this-ne0
choice-preserved-then-this-ne0 g c =
    passed_kept c.choice.invariant c.back.new.self (Instruction c.in-Tried.place) c.in-Some.ensures c.in-Tried.is refl
    c.keep.ensures.same c.keep.ensures.account c.keep.ensures.remembers

pub choice-preserved-else-this-ne0 : goal.choice-preserved-else-this-ne0
choice-preserved-else-this-ne0 g c =
    passed_unkept c.choice.invariant c.back.new.self (Instruction c.in-Tried.place) c.in-Some.ensures c.in-Tried.is refl
    (λ keeps. keeps c.if-this-ne0.false)

pub keep-requires-then-this-ne0-2-clause-failed : goal.keep-requires-then-this-ne0-2-clause-failed
keep-requires-then-this-ne0-2-clause-failed g c =
    passed_failed c.choice.invariant c.back.new.self Again c.in-Some.ensures c.in-TriedAgain.is refl

pub choice-preserved-then-this-ne0-2 : goal.choice-preserved-then-this-ne0-2
choice-preserved-then-this-ne0-2 g c =
    passed_kept c.choice.invariant c.back.new.self Again c.in-Some.ensures c.in-TriedAgain.is refl
    c.keep-then-this-ne0-2.ensures.same c.keep-then-this-ne0-2.ensures.account c.keep-then-this-ne0-2.ensures.remembers

pub choice-preserved : goal.choice-preserved
choice-preserved g c =
    passed_unkept c.choice.invariant c.back.new.self Again c.in-Some.ensures c.in-TriedAgain.is refl
    (λ keeps. keeps c.if-this-ne0-2.false)

-- the machine is at the point that it goes back to
pub alternatives-requires : goal.alternatives-requires
alternatives-requires g c =
    back_run (run_of c.args.req.now) c.choice.board c.back.new.self _ _ _ c.in-Some.ensures c.in-Alternatives.is refl
    c.choice.invariant.back

pub shorter_saved-requires : goal.shorter_saved-requires
shorter_saved-requires g c =
    back_run (run_of c.args.req.now) c.choice.board c.back.new.self _ _ _ c.in-Some.ensures c.in-Shorter.is refl
    c.choice.invariant.back

pub longer_saved-requires : goal.longer_saved-requires
longer_saved-requires g c =
    back_run (run_of c.args.req.now) c.choice.board c.back.new.self _ _ _ c.in-Some.ensures c.in-Longer.is refl
    c.choice.invariant.back
