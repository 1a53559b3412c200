-- What the core is offered for a slot: a command of a device, or none.
use Rattle.std.specs.Prelude.{ℕ, ◌<◌, ◌%◌, ◌==◌, ◌&&◌, nat_le, nat_lt, Bool, true, false, if◌then◌else◌, Option, Some, None, IfSome}
use Rattle.hba_commands.specs.declared.command.Command.{Command}
use Rattle.hba_fbs.specs.Offering.{Offer}
use Rattle.slots.specs.{Work.IsWork, declared.work.Kind.{Kind, TheVariants.{QueuedRead, QueuedWrite, DmaIn, DmaOut, PioIn, PioOut, NoData, Control}}}
use Rattle.slots.specs.declared.work.Work.{Work}
use Rattle.ahci_controller.specs.declared.offer.Offered.{Offered}

-- for each slot the same
abbrev pub offer_in : Offered → Offer
offer_in o = record { named = λ slot. o.dev; commands = λ slot. o.command }

abbrev pub offers : ℕ → Option Command → Offered
offers dev command = record { dev = dev; command = command }

abbrev pub offers_nothing : Offered
offers_nothing = offers 0 None

pub record CanBeOffered (o : Offered) : Type 0 where
  pub dev : o.dev < 16
  pub work : IfSome o.command (λ command. IsWork command.work)

-- ---- what a slot has room for

abbrev pub moves_some : Kind → Bool
moves_some QueuedRead = true
moves_some QueuedWrite = true
moves_some DmaIn = true
moves_some DmaOut = true
moves_some PioIn = true
moves_some PioOut = true
moves_some NoData = false
moves_some Control = false

-- whole dwords, as many as a slot has room for, and some exactly if the kind moves data
abbrev pub is_work : Work → Bool
is_work work = work.len % 4 == 0 && nat_le work.len 0x2000000
    && (if moves_some work.kind then nat_lt 0 work.len else work.len == 0)

abbrev pub work_if : Work → Option Work
work_if work = if is_work work then Some work else None
