-- What became of a request that the driver set aside: its device recovers (AHCI 1.3.1, 6.2.2, error recovery; ACS-3, READ LOG EXT; Serial
-- ATA 3.x, software reset).
use Rattle.std.specs.Prelude.{ℕ, ◌≡◌, ◌<◌, true, List, length, Some}
use Rattle.hba_driver.specs.{declared.plan.Device.{Device, TheVariants.{Absent, Ready, Recovering, Starting, Unusable}}, Drivers.{Entry, device_at}}
use Rattle.hba_driver.specs.{Drivers.{entry_at, has_ended, is_aside}, HostTurns.Host}
use Rattle.pm_world.specs.{Attached.Attached, Places.{Places, is_config, new_world}, Rules.Run, declared.step.{Answer.Answer, Config.Config}}
use Rattle.pm_world.specs.declared.step.Step.{Step}

-- the device recovers, or a search found none at its port, which is to be cleared again
abbrev pub MayHaveAside : Device → Type 0
MayHaveAside (Recovering way) = Unit {0}
MayHaveAside Absent = Unit {0}
MayHaveAside device = ⊥

-- the driver takes the device to be there, and not to recover
abbrev pub IsKnown : Device → Type 0
IsKnown Starting = Unit {0}
IsKnown Ready = Unit {0}
IsKnown Unusable = Unit {0}
IsKnown device = ⊥

-- a request that was set aside is of such a device
abbrev pub EachAsideRecovers : Host → Type 0
EachAsideRecovers h =
    (slot : ℕ) (e : Entry) → entry_at h.driver.entries slot ≡ Some e → is_aside e.head ≡ true
    → MayHaveAside (device_at h.driver.plan e.head.dev)

-- each request of the device has ended
abbrev pub EachHasEnded : ℕ → Host → Type 0
EachHasEnded n h =
    (slot : ℕ) (e : Entry) → slot < 30 → entry_at h.driver.entries slot ≡ Some e → e.head.dev ≡ n → has_ended e.head ≡ true

-- That holds in each world to which a run from a new one leads, whatever its devices are.
abbrev pub AsidesRecover : Type 0
AsidesRecover =
    (config : Config) (units : List Attached) → is_config config (length units) ≡ true
    → (steps : List Step) (answers : List Answer) (now : Places) → Run (new_world config units) steps answers now
    → EachAsideRecovers now.host
