use Rattle.sre_machine.proofs.Terms.{◌<◌, ◌≤◌, ◌+◌, sym, ◌∙◌, arith, run_of, stands_at_own, longer_past, longer_full}
use Rattle.sre_machine.proofs.Terms.{longer_end, longer_unlike, longer_skips, longer_passes}
use Rattle.sre_machine.proofs.character_repeats.one_longer.Goals as goal

pub returns-then-not-may_grow-clause-longer : goal.returns-then-not-may_grow-clause-longer
returns-then-not-may_grow-clause-longer g c = λ b all limit x.
    let r = run_of c.args.req.now in
    longer_full r _ _ _ _ c.args.count c.args.cursor c.requires.read.operands
    (longer_past r c.args.place c.args.count c.args.cursor c.requires.stands) b
    (sym c.may_grow.ensures ∙ c.if-not-may_grow.true) all limit x

pub returns-then-position-end-clause-longer : goal.returns-then-position-end-clause-longer
returns-then-position-end-clause-longer g c = λ b all limit x.
    let r = run_of c.args.req.now in
    let past : c.args.req.now.end ≤ c.args.cursor.position = omega arith in
    longer_end r _ _ _ _ c.args.count c.args.cursor c.requires.read.operands
    (longer_past r c.args.place c.args.count c.args.cursor c.requires.stands) b past all limit x

pub takes-requires-clause-stands : goal.takes-requires-clause-stands
takes-requires-clause-stands g c = c.requires.read.operands.test

pub returns-then-takes-clause-longer : goal.returns-then-takes-clause-longer
returns-then-takes-clause-longer g c =
    let r = run_of c.args.req.now in
    let o = c.requires.read.operands in
    let inside : c.args.cursor.position < c.args.req.now.end = omega arith in
    longer_skips r _ _ _ _ c.args.count c.args.cursor o
    (longer_past r c.args.place c.args.count c.args.cursor c.requires.stands) c.read-character.result.1
    (sym c.may_grow.ensures ∙ c.if-not-may_grow.false)
    (longer_passes r c.args.place c.read-character.result.0 c.takes.result c.args.cursor o.test inside
    c.read-character.ensures.character c.takes.ensures ∙ c.if-takes.true) c.read-character.ensures.position
    (stands_at_own r.stands c.read-character.result.1 (c.args.cursor.position + 1) c.read-character.ensures.position
    c.read-character.ensures.stands) c.requires.stands

pub returns-else-takes-clause-longer : goal.returns-else-takes-clause-longer
returns-else-takes-clause-longer g c = λ b all limit x.
    let r = run_of c.args.req.now in
    let o = c.requires.read.operands in
    let inside : c.args.cursor.position < c.args.req.now.end = omega arith in
    longer_unlike r _ _ _ _ c.args.count c.args.cursor o
    (longer_past r c.args.place c.args.count c.args.cursor c.requires.stands) b
    (longer_passes r c.args.place c.read-character.result.0 c.takes.result c.args.cursor o.test inside
    c.read-character.ensures.character c.takes.ensures ∙ c.if-takes.false) all limit x
