use Rattle.sre_code.proofs.Terms.{arith, NEGATE, opcode_within, ascii_table}
use Rattle.sre_code.proofs.AsciiMembers.{ascii_all, ascii_there, ascii_past, ascii_turned, ascii_whole}
use Rattle.sre_code.proofs.ascii_members.ascii_members.Goals as goal

pub item-init : goal.item-init
item-init c = ascii_all _ _ _ _ _ c.new-members.ensures c.new.ensures c.complement-left.ensures

pub opcode-requires : goal.opcode-requires
opcode-requires c = ascii_there _ _ _ _ _ _ ascii_table c.requires c.item.invariant

pub returns-in-FAILURE : goal.returns-in-FAILURE
returns-in-FAILURE c =
    ascii_whole _ _ _ _ _ _ _ c.item.invariant c.in-FAILURE.ensures c.union_if.ensures

pub overflow_add-place : goal.overflow_add-place
overflow_add-place c = omega (arith, opcode_within c.args.words.now c.item.place NEGATE c.in-NEGATE.ensures)

pub item-preserved-in-NEGATE : goal.item-preserved-in-NEGATE
item-preserved-in-NEGATE c =
    ascii_turned _ _ _ _ _ _ c.item.invariant c.in-NEGATE.ensures

pub item-smaller-in-NEGATE : goal.item-smaller-in-NEGATE
item-smaller-in-NEGATE c = omega (arith, opcode_within c.args.words.now c.item.place NEGATE c.in-NEGATE.ensures)

pub ascii_item-requires : goal.ascii_item-requires
ascii_item-requires c = record {
  opcode = c.opcode.ensures;
  stands = ascii_there _ _ _ _ _ _ ascii_table c.requires c.item.invariant;
}

pub item-smaller : goal.item-smaller
item-smaller c =
    omega (
      arith,
      opcode_within c.args.words.now c.item.place _ c.opcode.ensures,
      (c.in_ok-item-in_default.ensures.each ascii_table 0 (omega arith)).later,
    )

pub item-preserved : goal.item-preserved
item-preserved c =
    ascii_past _ _ _ _ _ _ _ _ _ _ _ c.item.invariant c.in_ok-item-in_default.ensures c.difference-rest.ensures
    c.difference.ensures c.union_if-members.ensures
