use Rattle.sre_code.proofs.Terms.{ℕ, ◌≡◌, List, subst, Tree, WholeItems, width, Confirmed, HasWhole}
use Rattle.sre_code.proofs.Descending.{front_refused, front_confirmed}
use Rattle.std.proofs.Common.{rules}
use Rattle.sre_code.proofs.code.check.check_in.Goals as goal

pub returns-in-Err-clause-refused : goal.returns-in-Err-clause-refused
returns-in-Err-clause-refused g c = λ ne tree.
    front_refused c.args.words.now _ c.in_ok-length.ensures _ c.in-Err.error tree c.split_at.ensures.back
    c.in-Err.ensures (λ m. ne (c.moved.ensures.memory m))

pub returns-in-Err-clause-grows : goal.returns-in-Err-clause-grows
returns-in-Err-clause-grows g c = λ m. c.in-Err.ensures.grows (c.moved.ensures.other m)

pub invariant_of-result-clause-checked : goal.invariant_of-result-clause-checked
invariant_of-result-clause-checked g c =
    let words = c.args.words.now in
    let n = c.in_ok-length.length in
    let least = c.in-Ok.least in
    let hints = c.confirmed.result in
    front_confirmed words n c.in_ok-length.ensures least c.args.uni.now hints
    (subst (λ (ws : List ℕ). HasWhole ws 0 least) c.split_at.ensures.back c.in-Ok.ensures)
    (subst (λ (ws : List ℕ). (t : Tree) → WholeItems ws t → least ≡ width t → Confirmed words c.args.uni.now t hints)
    c.split_at.ensures.back c.confirmed.ensures)

pub returns-clause-words : goal.returns-clause-words
returns-clause-words g c = search rules

pub invariant_of-result-clause-behind : goal.invariant_of-result-clause-behind
invariant_of-result-clause-behind g c = search rules

pub invariant_of-result-clause-scanned : goal.invariant_of-result-clause-scanned
invariant_of-result-clause-scanned g c = search rules

pub invariant_of-result-clause-asked : goal.invariant_of-result-clause-asked
invariant_of-result-clause-asked g c = search rules

pub invariant_of-result-clause-counted : goal.invariant_of-result-clause-counted
invariant_of-result-clause-counted g c = search rules
