use Rattle.sre_chars.proofs.Terms.{◌≡◌, map, sym, subst, IsNonDecreasingBy, IsNonDecreasingBy-take, last_up_to}
use Rattle.sre_chars.proofs.RisingLists.{last_up_to-take}
use Rattle.sre_chars.proofs.table.entries.near.Goals as goal

pub returns-then-ch-pair-clause-rises : goal.returns-then-ch-pair-clause-rises
returns-then-ch-pair-clause-rises g c =
    subst (λ es. IsNonDecreasingBy (λ e. (g.E.Entry.pair e).0) es) (sym c.split_at.ensures.front)
    (IsNonDecreasingBy-take (λ e. (g.E.Entry.pair e).0) 32 c.args.entries.now c.requires)

pub returns-then-ch-pair-clause-same : goal.returns-then-ch-pair-clause-same
returns-then-ch-pair-clause-same g c =
    let pair = g.E.Entry.pair in
    let at = c.index-entries-32.result in
    subst (λ es. last_up_to (map pair es) c.args.ch ≡ last_up_to (map pair c.args.entries.now) c.args.ch)
    (sym c.split_at.ensures.front)
    (last_up_to-take pair c.args.entries.now c.args.ch 32 at c.requires c.if-entries-gt-NEAR.true
    (rw (← c.index-entries-32.is, ← c.pair.ensures) c.if-ch-pair.true))
