use Rattle.world_rests.proofs.Disks as proof
use Rattle.world_rests.proofs.laws.rested_disks_are_left.Goals as goal

pub returns : goal.returns
returns c =
    proof.rested_disks_are_left c.task_files_stay_fine.ensures.sends
    (record { commands = c.port_and_ledger_stay_joined.ensures.commands; others = c.port_and_ledger_stay_joined.ensures.others })
    c.rested_have_done.ensures c.rested_ports_are_open.ensures c.paths_go_on.ensures.orderly c.ends_meet.ensures c.asides_recover.ensures
