use Rattle.sre_machine.proofs.Terms.{◌∙◌, ap, items_of, no_marks, run_of, no_reference}
use Rattle.sre_machine.proofs.Failing.{fails_kept}
use Rattle.sre_machine.proofs.Recalling.{recalls_kept}
use Rattle.sre_machine.proofs.MarksPassed.{holds_tried}
use Rattle.sre_machine.proofs.trying.keep.Goals as goal

pub returns-then-serves_unmarked-clause-remembers : goal.returns-then-serves_unmarked-clause-remembers
returns-then-serves_unmarked-clause-remembers g c =
    recalls_kept (run_of c.args.req.now) c.args.memo.now c.keep.new.self c.keep.ensures.same
    c.keep.ensures.kept.stay
    (fails_kept c.args.req.now no_marks c.args.memo.now.kept c.keep.new.self.kept c.items-words.result.now c.args.point
    c.position.result c.args.cursor.position c.args.board.now
    (c.items-words.ensures.same ∙ ap items_of c.pattern_codes.ensures) c.position.ensures c.keep.ensures.kept.more
    (c.requires.failed no_marks
    (c.serves_unmarked.ensures.serves c.args.cursor.position c.if-serves_unmarked.true)) c.requires.remembers.plain)
    c.requires.remembers

pub returns-then-serves_unmarked-clause-account : goal.returns-then-serves_unmarked-clause-account
returns-then-serves_unmarked-clause-account g c =
    holds_tried c.args.req.now c.args.point c.position.result c.args.cursor.position c.args.board.now
    c.args.memo.now.kept c.keep.new.self.kept c.items-words.result.now
    (c.items-words.ensures.same ∙ ap items_of c.pattern_codes.ensures) c.position.ensures c.keep.ensures.kept

pub returns-else-serves_unmarked-clause-account : goal.returns-else-serves_unmarked-clause-account
returns-else-serves_unmarked-clause-account g c = λ pl.
    absurd (no_reference (run_of c.args.req.now).words pl.plain.tree pl.plain.whole pl.plain.no_reference
    (c.serves_unmarked.ensures.marked c.if-serves_unmarked.false))
