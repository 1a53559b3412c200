-- What holds for every host: AHCI 1.3.1, section 3.3 (the registers), 4.2 (the memory structures) and chapter
-- 9 (the devices behind a port).
use Rattle.std.specs.Prelude.{ℕ, ◌≡◌, true, List, [], ◌∷◌, length}
use Rattle.host_memory.specs.Memory.{IsHostMemory, is_memory_size, zeroed}
use Rattle.port_errors.specs.Errors.{AreErrors}
use Rattle.slots.specs.Table.{IsTable}
use Rattle.hba_fbs.specs.{Registers.AreRegisters, Views.{IsPort, opening_port}}
use Rattle.hba_laws.specs.Hosts.{Does, Host, HostEvent, Runs}

-- what a port, its slots, its errors and its memory keep
pub record IsHost (host : Host) : Type 0 where
  pub port : IsPort host.port
  pub slots : IsTable host.port.slots
  pub errors : AreErrors host.port.errors
  pub memory : IsHostMemory host.memory

-- This holds for each host that a run goes through. It does not follow from the events: they speak of the
-- views of the devices, and the slots hold more than these. But it holds for every port and every memory that
-- exist, so whoever has them knows it.
abbrev pub AreHosts : (old new : Host) (events : List HostEvent) → Runs old events new → Type 0
AreHosts old new [] run = IsHost old
AreHosts old new (event ∷ events) run = IsHost old × AreHosts run.0 new events run.2

-- ---- laws

-- a port that opens beside a new memory is a sound host
abbrev pub OpensSound : Type 0
OpensSound =
    (len : ℕ) → is_memory_size len ≡ true
    → IsHost (record { port = opening_port; memory = zeroed len })

-- each event keeps what holds for the registers and the errors
abbrev pub RegistersStaySound : Type 0
RegistersStaySound =
    (old new : Host) (event : HostEvent) → IsHost old → Does old event new
    → AreRegisters new.port.registers × AreErrors new.port.errors

-- no event changes the length of one of the two areas
abbrev pub SizesStay : Type 0
SizesStay =
    (old new : Host) (events : List HostEvent) (run : Runs old events new)
    → AreHosts old new events run
    → (length new.memory.structure ≡ length old.memory.structure)
    × (length new.memory.client ≡ length old.memory.client)
