use Rattle.machine_theorem.proofs.WritesOwn.{writes_are}
use Rattle.machine_theorem.proofs.own_writes.writes_are_as_supplied.Goals as goal

pub returns : goal.returns
returns c = writes_are (record {
  given = c.commands_are_as_supplied.ensures.commands;
  come = c.data_come_from_their_own_slot.ensures;
  fed = c.fed_data_are_of_their_slots.ensures.sent;
  disks = c.disks_go_on.ensures;
})
