use Rattle.sre_board.proofs.Terms.{true, IfOk, Ok, Err, Result, [], slice_index_or, spot_at}
use Rattle.sre_board.proofs.EndsKept.{no_number, has_end}
use Rattle.sre_board.proofs.ends.Ends.keep_spot.Goals as goal

if_ok : {X E P Q : Type 0} (r : Result X E) → (P → Q) → IfOk r (λ _. P) → IfOk r (λ _. Q)
if_ok (Ok x) f p = f p
if_ok (Err e) f p = tt

pub returns-in-Some-clause-held : goal.returns-in-Some-clause-held
returns-in-Some-clause-held g c =
    if_ok c.keep.result (λ held m.
    let x = spot_at c.args.point (slice_index_or c.args.chains.now c.args.saved.frame [])
    c.args.saved.cursor.position m in
    has_end c.args.failures.now c.args.words.now x c.in-Some.number c.args.end c.keep.new.self
    (rw c.position-position.ensures at (c.in-Some.ensures.number m)) c.in-Some.ensures.laid held) c.keep.ensures.held

pub returns-in-None-clause-held : goal.returns-in-None-clause-held
returns-in-None-clause-held g c = λ m n number.
    absurd (no_number c.args.failures.now c.args.words.now true _ n
    (rw c.position-position.ensures at (c.in-None.ensures.number m)) number)
