use Rattle.machine_laws.proofs.Marked.{marked_first, marked_on, ports_sent}
use Rattle.machine_laws.proofs.rising.frames_name_their_port.Goals as goal

pub returns : goal.returns
returns c = record {
  opens = marked_first;
  goes = marked_on (c.fans_pass_in_order.ensures, c.a_renewed_fan_is_empty.ensures);
  sent = ports_sent c.fans_pass_in_order.ensures;
}
