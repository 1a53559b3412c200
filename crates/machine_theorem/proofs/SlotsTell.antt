-- What stands in a slot of the guest tells whether a write is under way at the disk under the tag of this number.
use Rattle.std.proofs.Common.{◌≡◌, ℕ, true, false, List, ◌++◌, sym, ap, subst, ◌∙◌}
use Rattle.block_command.specs.declared.command.Command.{Command}
use Rattle.sata_disk.specs.State.{DiskState, new_disk}
use Rattle.sata_disk_laws.specs.{Calls.{Call, after_calls}, Laws.reached}
use Rattle.sata_disk_laws.proofs.Door.{calls_after}
use Rattle.sata_disk_media.specs.Cells.{covers}
use Rattle.ahci_machine.specs.{States.bay_at, declared.bay.Unit.TheVariants.Disk}
use Rattle.machine_laws.specs.Disks.{DisksGoOn}
use Rattle.machine_theorem.specs.{Given.CommandsAreGiven, Identity.calls_of, Unheard.{AsksNoWrite, Leaves, SlotsTellOfWrites}}
use Rattle.machine_theorem.proofs.TheSlots.{goes_on}

pub slots_tell : DisksGoOn → CommandsAreGiven → SlotsTellOfWrites
slots_tell disks given ports legacy old opening before at first many n tag below low rest deeds now run linked lasts keeps p limit base are same s stands m
    there going =
    let calls : List Call = calls_of n at deeds now run in
    let d : DiskState = reached p limit (base ++ calls) in
    let goes = goes_on disks many n tag deeds at now run keeps rest.disk rest.there in
    let is : (bay_at now n).unit ≡ Disk d =
    goes.is ∙ ap Disk (ap (λ (x : DiskState). after_calls x calls) same ∙ sym (calls_after base calls (new_disk p limit))) in
    let it = given ports legacy old opening before at first many n tag below low rest deeds now run linked lasts keeps p limit base are same d is m there going in
    let asked = it.slots.asked in
    let leaves = subst (λ (b : List ℕ). AsksNoWrite s b) (sym it.heard) (stands it.slots.stands it.whole it.order it.supplied) in
    subst (λ (c : Command). c.write ≡ true → covers c.lba c.count s ≡ false) (sym asked.is) (subst (Leaves s) asked.asks (leaves (reached p limit asked.before) asked.fis asked.viewed))
