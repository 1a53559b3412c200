use Rattle.uses_machine_laws.proofs.Keep.{puts_keep}
use Rattle.uses_machine_laws.proofs.puts.Goals as goal

pub returns : goal.returns
returns c =
    puts_keep c.disks_have_their_laws.ensures.reached c.args.profile c.args.limit c.requires c.in_ok-disk.disk c.in_ok-disk.ensures c.args.port
    c.args.machine.now c.put.result c.put.new.self c.put.ensures
