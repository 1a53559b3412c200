-- For `delivers`. PRD tables that the software keeps stay.
use Rattle.std.proofs.Common.{List, [], ◌∷◌, refl}
use Rattle.hba_laws.specs.{Delivering.SparesTables, Hosts.{Does, Host, HostEvent, Runs}, Keeping.{KeepsTables, KeptTablesStay}, Sound.AreHosts}
use Rattle.hba_laws.specs.Sound.{IsHost}
use Rattle.hba_laws.proofs.prd_tables.TableLemmas.{tables_stay}

first_host : (old new : Host) (events : List HostEvent) (run : Runs old events new) → AreHosts old new events run → IsHost old
first_host old new [] run hosts = hosts
first_host old new (event ∷ events) run hosts = hosts.0

one_event : (old new : Host) (event : HostEvent) → IsHost old → IsHost new → Does old event new → KeepsTables old event → SparesTables old new
one_event old new event sound later does keeps s command here last =
    let k = keeps.commands s command here last in
    (tables_stay command old new (event ∷ []) (record { run = (new, does, refl); hosts = (sound, later); apart = k.apart; spares = (keeps.area, k.spares, tt) })).entries

pub kept_tables_stay : KeptTablesStay
kept_tables_stay old new [] run hosts keeps = tt
kept_tables_stay old new (event ∷ events) run hosts keeps =
    (one_event old run.0 event hosts.0 (first_host run.0 new events run.2 hosts.1) run.1 keeps.0, kept_tables_stay run.0 new events run.2 hosts.1 keeps.1)
