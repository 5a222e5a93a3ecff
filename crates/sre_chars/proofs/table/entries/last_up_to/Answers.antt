use Rattle.sre_chars.proofs.Terms.{rules, ◌≡◌, ◌∙◌, ℕ, List, ◌-◌, true, false, sym, arith, nat_le, IsPartitionPoint}
use Rattle.sre_chars.proofs.Terms.{IsPartitionPoint-from_clause, IsPartitionedBy-leb}
use Rattle.sre_chars.proofs.table.entries.last_up_to.Goals as goal
use Rattle.sre_chars.proofs.RisingLists.{last_up_to-none, last_up_to-at}

-- the entries before the place begin at c or below, and the others above it
abbrev IsSplitAt : {X : Type 0} → (X → ℕ × ℕ) → List X → ℕ → ℕ → Type 0
IsSplitAt pair es c place =
    IsPartitionPoint (λ e. nat_le (pair e).0 c ≡ true) (λ e. nat_le (pair e).0 c ≡ false) es place

pub returns-then-count-eq0 : goal.returns-then-count-eq0
returns-then-count-eq0 g c =
    let pair = g.E.Entry.pair in
    let es = c.near-entries.result.now in
    let parts : IsSplitAt pair es c.args.ch c.partition_point-count.result =
    IsPartitionPoint-from_clause (λ e. nat_le (pair e).0 c.args.ch) es c.partition_point-count.result
    c.partition_point-count.ensures.partitioned
    (IsPartitionedBy-leb (λ e. (pair e).0) es c.args.ch c.near-entries.ensures.rises)
    (λ a r f' k. search rules)
    in
    sym (last_up_to-none pair es c.args.ch (λ k d l. parts.1 k d (omega arith) l)) ∙ c.near-entries.ensures.same

pub returns-else-count-eq0 : goal.returns-else-count-eq0
returns-else-count-eq0 g c =
    let pair = g.E.Entry.pair in
    let es = c.near-entries.result.now in
    let parts : IsSplitAt pair es c.args.ch c.partition_point-count.result =
    IsPartitionPoint-from_clause (λ e. nat_le (pair e).0 c.args.ch) es c.partition_point-count.result
    c.partition_point-count.ensures.partitioned
    (IsPartitionedBy-leb (λ e. (pair e).0) es c.args.ch c.near-entries.ensures.rises)
    (λ a r f' k. search rules)
    in
    let last = c.index-entries-count.result in
    rw (c.pair.ensures, c.index-entries-count.is)
    (sym (last_up_to-at pair es c.args.ch (c.partition_point-count.result - 1) last (omega arith)
    (λ k l. parts.0 k last (omega arith) (omega arith))
    (λ k x l m. parts.1 k x (omega arith) m)) ∙ c.near-entries.ensures.same)
