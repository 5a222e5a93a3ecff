-- A write appends what it takes, and a failed one nothing.
use Rattle.sre_lines.proofs.Terms.{◌≡◌, ◌∙◌, ℕ, List, ◌++◌, take, ap, append_assoc, Appends-trans, Appends-kept, drop}
use Rattle.sre_lines.proofs.Terms.{take-append-drop}
use Rattle.sre_lines.proofs.output.write_whole.Goals.{in-Ok, in-Err+else-ne}
use Rattle.sre_lines.proofs.output.write_whole.Goals as goal

moved : (all done rest left : List ℕ) (n : ℕ) → done ++ rest ≡ all → left ≡ drop n rest
    → (done ++ take n rest) ++ left ≡ all
moved all done rest left n split is =
    rw is (append_assoc done (take n rest) (drop n rest) ∙ ap (λ l. done ++ l) (take-append-drop n rest) ∙ split)

pub writes-preserved : goal.writes-preserved
writes-preserved g c =
    let (done, split, appended) = c.writes.invariant in
    let rest = c.writes.left.now in
    elim c.match-write.branch [
      | in-Ok w ↦
          let n = w.in-Ok.count in (
            done ++ take n rest,
            moved _ done rest _ n split (ap (λ p. p.now) w.left-is ∙ w.split_at.ensures.back),
            Appends-trans _ _ _ _ _ appended w.in-Ok.ensures.bytes,
          )
      | in-Err+else-ne w ↦
          (done, rw w.left-is split, Appends-kept _ _ _ _ appended w.in-Err.ensures.bytes)
    ]
