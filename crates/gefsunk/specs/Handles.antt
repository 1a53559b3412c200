-- What a handle owns: the value behind its pointer, and the right to free its block.
use Rattle.std.specs.{Prelude.{Option, None, Some}, Box.Ownership.box_owns}
use Rattle.std_heap.specs.{contracts.GlobalAllocator.TheImpl.ghosts, declared.Global.Global}
use base.Fml.{Fml, ftrue, fex}
use denote.RattleType.{RattleType}
use denote.RawPtr.{Ptr}

-- a value in a block of its own, with the right to free it
abbrev pub boxed : (R : RattleType) → Ptr → R.Denot → Fml
boxed R p x = fex Global (λ alloc. box_owns (ghosts.dealloc_token alloc) R p x)

-- the same, or nothing
abbrev pub owned : (R : RattleType) → Ptr → Option R.Denot → Fml
owned R p (Some x) = boxed R p x
owned R p None = ftrue
