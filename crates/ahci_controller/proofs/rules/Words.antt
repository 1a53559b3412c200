-- The words of the lemmas on the rules.
use Rattle.std.proofs.Common.{◌≡◌, ℕ, ◌<◌, true, Some}
use Rattle.std.specs.Prelude.{is_some}
use Rattle.slots.specs.{Slots.{DeviceSlots, issue_at}, declared.table.Context.Context}
use Rattle.hba_fbs.specs.{Views.Port, declared.{hearing.Happening.Happening, report.Wrote.Wrote}}
use Rattle.hba_fbs.specs.declared.hearing.Happening.TheVariants as happening

-- it is for the slot of the device's last setup
pub record BringsFor (own : DeviceSlots) (wrote : Wrote) : Type 0 where
  pub context : Context
  pub now : own.context ≡ Some context
  pub slot : wrote.slot ≡ context.slot

abbrev pub Brings : DeviceSlots → Happening → Type 0
Brings own (happening.Carried wrote finishes) = BringsFor own wrote
Brings own other = Unit {0}

-- something is issued in its slot
pub record IsOfIssue (port : Port) (wrote : Wrote) : Type 0 where
  pub below : wrote.slot < 32
  pub busy : is_some (issue_at port.slots wrote.slot) ≡ true
