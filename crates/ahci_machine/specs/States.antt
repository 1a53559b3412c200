-- A machine as its callers see it: a controller of one port (AHCI 1.3.1), what is behind it (Serial ATA 3.x, 13 and 16), and what is
-- on its way between them.
use Rattle.std.specs.Prelude.{◌≡◌, ℕ, zero, suc, min, Bool, false, List, replicate, Option, None, slice_index_or}
use Rattle.fis_view.specs.Frames.{Stamped}
use Rattle.ahci_controller.specs.{Opening.IsOpening, Rules.IsRuled, States.ControllerState, declared.next.Next.Next}
use Rattle.fan_out.specs.{FanOuts.port_count, Fans.opening_fan, Straights.opening_straight, declared.fan_out.FanOut.{FanOut, TheVariants.Device}}
use Rattle.fan_out.specs.declared.fan_out.FanOut.TheVariants.{Multiplier}
use Rattle.hba_fbs.specs.Views.{IsCorePort}
use Rattle.slots.specs.Table.{IsTable}
use Rattle.ahci_machine.specs.{Gathers.GatheringState, declared.{bay.{Bay.Bay, Unit.TheVariants.Empty}, machine.Lent.Lent}}
use Rattle.ahci_machine.specs.declared.machine.Lent.TheVariants as lent

pub record MachineState : Type 0 where
  pub controller : ControllerState
  -- what is behind it: one device, or a multiplier
  pub fan : FanOut
  -- by port: what is there, and what it was given
  pub bays : List Bay
  -- the frame on its way to the controller, or of which something is still to be written to the guest
  pub incoming : Option Stamped
  -- the controller took it
  pub taken : Bool
  -- something may be to be written to the guest
  pub writing : Bool
  -- the frame on its way to the devices
  pub outgoing : Option Stamped
  -- what the controller has to do next
  pub kept : Option Next
  -- by device: the Data FIS whose bytes are being read
  pub gathering : List (Option GatheringState)
  -- what is lent to be written to the guest
  pub lent : Lent
  -- what the caller was told of the interrupt line, and whether a message is due
  pub told : Bool
  pub message : Bool
  -- whose turn is next: the controller's before the ports', and of the ports this one's
  pub first : Bool
  pub turn : ℕ

-- what every machine keeps: the rules of its controller, which `Machine::keeps_rules` hands out
pub record HasRules (m : MachineState) : Type 0 where
  pub port : IsCorePort m.controller.core
  pub slots : IsTable m.controller.core.slots
  pub rules : IsRuled m.controller

abbrev pub gathering_at : MachineState → (dev : ℕ) → Option GatheringState
gathering_at m dev = slice_index_or m.gathering dev None

abbrev pub no_gathering : List (Option GatheringState)
no_gathering = replicate 16 None

-- nothing is there
abbrev pub empty_bay : Bay
empty_bay = record { unit = Empty; disk = 0; down = None; told = false }

abbrev pub bay_at : MachineState → (port : ℕ) → Bay
bay_at m port = slice_index_or m.bays port empty_bay

-- one device straight behind the controller, or a multiplier with so many ports
abbrev pub opening_end : (ports : ℕ) → (legacy : Bool) → FanOut
opening_end zero legacy = Device opening_straight
opening_end (suc ports) legacy = Multiplier (opening_fan (suc ports) legacy false)

-- A machine whose controller opens: nothing is at its ports, and nothing on its way.
pub record IsOpeningMachine (ports : ℕ) (legacy : Bool) (m : MachineState) : Type 0 where
  pub controller : IsOpening m.controller
  pub rest : m ≡ record {
    controller = m.controller;
    fan = opening_end (min ports 15) legacy;
    bays = replicate (port_count (opening_end (min ports 15) legacy)) empty_bay;
    incoming = None;
    taken = false;
    writing = false;
    outgoing = None;
    kept = None;
    gathering = no_gathering;
    lent = lent.Nothing;
    told = false;
    message = false;
    first = false;
    turn = 0;
  }
