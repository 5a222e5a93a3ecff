use Rattle.sre_machine.proofs.Terms.{inl, ap, sym, subst, ◌∙◌, items_of, Marks, Remembers, AreIdle, run_of, MemoValue}
use Rattle.sre_machine.proofs.Terms.{Covers, Recalls}
use Rattle.sre_machine.proofs.Failing.{fails_kept}
use Rattle.sre_machine.proofs.trying.keep_marked.Goals as goal

pub returns-then-is_marked_so-clause-remembers : goal.returns-then-is_marked_so-clause-remembers
returns-then-is_marked_so-clause-remembers g c =
    let r = run_of c.args.req.now in
    let m = c.args.memo.now in
    let m' = c.keep_marked.new.self in
    let was = c.requires.remembers in
    subst (λ (k : MemoValue). Recalls r k) (sym c.keep_marked.ensures.same) (record {
      plain = was.plain;
      marked = subst (λ (x : Marks). Remembers r x m'.marked.kept) (sym c.keep_marked.ensures.marks)
          (fails_kept c.args.req.now m.marked.marks m.marked.kept m'.marked.kept c.items-words.result.now c.args.point
          c.position.result c.args.cursor.position c.args.board.now
          (c.items-words.ensures.same ∙ ap items_of c.pattern_codes.ensures) c.position.ensures
          c.keep_marked.ensures.more
          (c.requires.failed m.marked.marks (inl (c.is_marked_so.ensures c.if-is_marked_so.true))) was.marked);
      covers = subst (λ end. Covers r.words end) (sym c.keep_marked.ensures.end) was.covers;
      idle = subst (λ list. AreIdle r.words list) (sym c.keep_marked.ensures.idle) was.idle;
      ends = was.ends;
      markless = was.markless;
    })
