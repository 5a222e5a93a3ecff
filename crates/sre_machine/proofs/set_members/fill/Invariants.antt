use Rattle.std.proofs.Common.{◌≡◌, ℕ, length, Some, slice_get}
use Rattle.sre_machine.proofs.set_members.fill.Given as goal

abbrev pub invariant-item : goal.invariant-item
invariant-item g l = record {
  long : length l.list.items ≡ l._item;
  each : (i : ℕ) (x : _) → slice_get l.list.items i ≡ Some x → x ≡ l.fn.value;
}
