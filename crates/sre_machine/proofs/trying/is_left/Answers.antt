use Rattle.std.proofs.Common.{false, refl}
use Rattle.sre_machine.proofs.trying.is_left.Goals as goal

pub returns-in-Failed : goal.returns-in-Failed
returns-in-Failed g c =
    record { made = false; marked = λ e. cc; left = λ _. refl; says = rw c.in-Failed.is (refl, refl) }

pub returns-in-Open : goal.returns-in-Open
returns-in-Open g c = record {
  made = c.begin_trying-made.result;
  marked = c.begin_trying-made.ensures.marked;
  left = c.begin_trying-made.ensures.left;
  says = rw c.in-Open.is (refl, c.begin_trying-made.ensures.refused);
}

pub returns-in-NoBit : goal.returns-in-NoBit
returns-in-NoBit g c =
    record { made = false; marked = λ e. cc; left = λ _. refl; says = rw c.in-NoBit.is (refl, refl) }
