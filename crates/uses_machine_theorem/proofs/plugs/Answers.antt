use Rattle.uses_machine_theorem.proofs.{LedLemmas.knows, SlotLemmas.{orders, slots, tags}}
use Rattle.uses_machine_theorem.proofs.plugs.Goals as goal

pub returns : goal.returns
returns c = record {
  disks = knows c.disks_hear_their_guest.ensures c.writes_come_from_guests.ensures.heard c.commands_come_from_slots.ensures.fresh c.slots_have_one_command.ensures.commands c.plug.new.self;
  tags = tags c.tags_are_counted.ensures.disks c.plug.new.self;
  orders = orders c.commands_are_sent_once.ensures c.plug.new.self;
  slots = slots c.slots_name_their_disks_commands.ensures c.plug.new.self;
}
