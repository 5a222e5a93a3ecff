use Rattle.sre_code.proofs.Terms.{arith, NEGATE, set_begins, opcode_within, left_all, left_there, left_past}
use Rattle.sre_code.proofs.Terms.{left_turned, left_nothing}
use Rattle.sre_code.proofs.members.is_member.Goals as goal

pub item-init : goal.item-init
item-init c = left_all c.args.words.now c.args.uni.now c.args.start c.args.character

pub opcode-requires : goal.opcode-requires
opcode-requires c = left_there _ _ _ _ _ _ c.requires c.item.invariant

pub returns-in-FAILURE : goal.returns-in-FAILURE
returns-in-FAILURE c = left_nothing _ _ _ _ _ _ c.item.invariant c.in-FAILURE.ensures

pub overflow_add-place : goal.overflow_add-place
overflow_add-place c = omega (arith, opcode_within c.args.words.now c.item.place NEGATE c.in-NEGATE.ensures)

pub item-preserved-in-NEGATE : goal.item-preserved-in-NEGATE
item-preserved-in-NEGATE c = left_turned _ _ _ _ _ _ c.item.invariant c.in-NEGATE.ensures

pub item-smaller-in-NEGATE : goal.item-smaller-in-NEGATE
item-smaller-in-NEGATE c = omega (arith, opcode_within c.args.words.now c.item.place NEGATE c.in-NEGATE.ensures)

pub item-smaller : goal.item-smaller
item-smaller c =
    let o = set_begins c.args.words.now c.item.place (left_there _ _ _ _ _ _ c.requires c.item.invariant) in
    omega (arith, opcode_within c.args.words.now c.item.place o.0 o.1, c.one_item-item.ensures.later)

pub item-preserved : goal.item-preserved
item-preserved c =
    left_past _ _ _ _ _ _ _ _ c.item.invariant c.one_item-item.ensures c.if-item.false
