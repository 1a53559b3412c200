-- The link of the host port: AHCI 1.3.1, sections 3.3.10 (PxSSTS), 3.3.11 (PxSCTL), 3.3.12 (PxSERR) and
-- 10.4.2 (Port Reset). The link comes up at once, as if a device were always there.
use Rattle.std.specs.Prelude.{◌≡◌, ℕ, ◌+◌, ◌*◌, ◌/◌, ◌%◌, ◌==◌, ◌⊎◌, Bool, if◌then◌else◌, List, [], ◌∷◌}
use Rattle.ahci_registers.specs.{Bits.{pcs, prcs}, declared.link.{Detected.{Detected, TheVariants.{NoDevice, Established, Offline}}, Effect.Effect}}
use Rattle.ahci_registers.specs.declared.link.{Effect.TheVariants.{Nothing, LinkReset, LinkUp}, LinkAction.{LinkAction, TheVariants.NoAction}}
use Rattle.ahci_registers.specs.declared.link.LinkAction.TheVariants.{Comreset, Disable}

-- what DET of PxSCTL, bits 3:0, asks of the interface; a reserved value asks for nothing
unfoldable pub action_of : ℕ → LinkAction
action_of control =
    if control % 16 == 1 then Comreset else if control % 16 == 4 then Disable else NoAction

-- PxSCTL after a write: DET, SPD and IPM, bits 11:0; DET stays while ST is 1
unfoldable pub written : (control value : ℕ) → (started : Bool) → ℕ
written control value started =
    if started then value % 0x1000 / 16 * 16 + control % 16 else value % 0x1000

-- what the interface detects: during a COMRESET no device; while offline it does not look for one
abbrev pub detected_by : LinkAction → Detected
detected_by NoAction = Established
detected_by Comreset = NoDevice
detected_by Disable = Offline

-- PxSSTS: DET 3 with SPD 3 (6 Gb/s) and IPM 1 (active), DET 0, and DET 4
abbrev pub status_of : Detected → ℕ
status_of Established = 0x133
status_of NoDevice = 0
status_of Offline = 4

-- What a change of DET does. A new COMRESET resets the link, and so does disabling the interface. A COMRESET
-- that goes on, or an interface that stays disabled, does nothing. With DET 0 the link comes up again.
abbrev pub effect_of : (old new : LinkAction) → Effect
effect_of NoAction NoAction = Nothing
effect_of Comreset NoAction = LinkUp
effect_of Disable NoAction = LinkUp
effect_of Comreset Comreset = Nothing
effect_of NoAction Comreset = LinkReset
effect_of Disable Comreset = LinkReset
effect_of Disable Disable = Nothing
effect_of NoAction Disable = LinkReset
effect_of Comreset Disable = LinkReset

-- The bits of PxIS that the change sets: PRCS (PxSERR.DIAG.N) as PhyRdy falls and as it rises, and PCS
-- (PxSERR.DIAG.X) at the COMINIT with which the device answers.
abbrev pub causes_of : (old new : LinkAction) → ℕ
causes_of NoAction NoAction = 0
causes_of NoAction new = prcs
causes_of old NoAction = pcs + prcs
causes_of old new = 0

-- a write of PxSCTL, and whether ST is 1 at that time
pub record ControlWrite : Type 0 where
  pub value : ℕ
  pub started : Bool

abbrev pub action_after : ℕ → ControlWrite → LinkAction
action_after control w = action_of (written control w.value w.started)

abbrev pub effect_at : ℕ → ControlWrite → Effect
effect_at control w = effect_of (action_of control) (action_after control w)

-- PxSCTL after these writes, in their order
unfoldable pub control_after : ℕ → List ControlWrite → ℕ
control_after control [] = control
control_after control (w ∷ writes) = control_after (written control w.value w.started) writes

-- one of them has this effect
unfoldable pub HasEffect : Effect → ℕ → List ControlWrite → Type 0
HasEffect effect control [] = ⊥
HasEffect effect control (w ∷ writes) =
    (effect_at control w ≡ effect) ⊎ HasEffect effect (written control w.value w.started) writes
