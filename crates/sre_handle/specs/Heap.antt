-- What a pointer to a box of the C library's heap owns.
use base.Fml.{Fml}
use denote.RattleType.{RattleType}
use denote.RawPtr.{Ptr}
use Rattle.std.specs.declared.alloc.Global.{Global}
use Rattle.std.specs.contracts.impls.GlobalAllocator.TheImpl.{ghosts}
use Rattle.std.specs.Box.Ownership.{box_owns}

-- the token is that of each handle
abbrev pub any : Global
any = record { memory = record { seal = tt } }

abbrev pub heap_box : (R : RattleType) → Ptr → R.Denot → Fml
heap_box R p x = box_owns (ghosts.dealloc_token any) R p x
