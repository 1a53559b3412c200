use Rattle.machine_laws.proofs.{RisCalls.taken, RisOver.over, RisRun.{goes, opens, rise}}
use Rattle.machine_laws.proofs.rising.frames_rise_in_order.Goals as goal

pub returns : goal.returns
returns c = record {
  opens = opens c.a_renewed_fan_is_empty.ensures;
  goes = goes (c.fans_pass_in_order.ensures, c.a_renewed_fan_is_empty.ensures);
  order = rise c.fans_pass_in_order.ensures;
  over = over (c.fans_pass_in_order.ensures, c.a_renewed_fan_is_empty.ensures);
  taken = taken;
}
