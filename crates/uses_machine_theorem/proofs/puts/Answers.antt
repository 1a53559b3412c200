use Rattle.uses_machine_theorem.proofs.LedLemmas.{puts, ruled}
use Rattle.uses_machine_theorem.proofs.puts.Goals as goal

pub returns : goal.returns
returns c =
    puts c.args.port c.args.profile c.args.limit c.in_ok-disk.disk c.in_ok-disk.ensures c.args.machine.now c.put.new.self c.put.result c.put.ensures
    (ruled c.put.new.self c.keeps_rules.ensures.port c.keeps_rules.ensures.slots c.keeps_rules.ensures.rules)
