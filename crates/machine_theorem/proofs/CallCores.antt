-- What the calls of a controller are for its core, that take no FIS and send none: events that a test allows.
use Rattle.std.proofs.{Common.{ℕ, ◌+◌, ◌^◌, Bool, true, false, List, [], ◌∷◌, Option, Some, None, All}, lemmas.List.Elements.{All-append, All-cons}}
use Rattle.std.proofs.lemmas.List.Elements.{All-nil}
use Rattle.std.specs.Prelude.{◌==◌, ◌%◌, if◌then◌else◌}
use Rattle.guest_fetch.specs.Commands.{Fetched}
use Rattle.slots.specs.Slots.{match_some}
use Rattle.ahci_registers.specs.Bits as line_bits
use Rattle.ahci_registers.specs.{Offsets.register_at, declared.{link.Effect.Effect, register.Register.Register}}
use Rattle.ahci_registers.specs.declared.link.Effect.TheVariants as effect
use Rattle.ahci_registers.specs.declared.register.Register.TheVariants as ahci
use Rattle.host_memory.specs.declared.table.Prd.{Prd}
use Rattle.hba_fbs.specs.{Offering.Offer, Views.Port, declared.{error.WriteError.WriteError, greeting.Line.Line}}
use Rattle.hba_fbs.specs.declared.register.Register as port_register
use Rattle.hba_fbs.specs.declared.register.Register.TheVariants as on_port
use Rattle.hba_laws.specs.Cores as core
use Rattle.hba_laws.specs.Cores.{CoreEvent}
use Rattle.ahci_controller.specs.{Access.{high_of, low_of, merged, ones_of, spread_of}, Issuing.{device_of, offered_command}, Offers.offer_in}
use Rattle.ahci_controller.specs.{Offers.offers_nothing, Reading.shown, States.{ControllerState, kept}, Wide.{WritesFitting, block_of}}
use Rattle.ahci_controller.specs.{Writing.{clears_busy, link_effect, told_refusal}, declared.{access.Width.Width, issuing.Supply.Supply}}
use Rattle.ahci_controller.specs.declared.wide.WideWritten.{WideWritten}
use Rattle.ahci_controller.specs.declared.issuing.Supply.TheVariants as supply_answer
use Rattle.controller_laws.specs.CoreEvents.{commanded_by, no_tables, of_part, of_register, of_supply, of_wide, overridden_by, relinked_by, reset_by}
use Rattle.machine_theorem.proofs.SetupCores.{IsWritten}

pub record Allows (P : CoreEvent → Type 0) : Type 0 where
  pub wrote : (r : port_register.Register) (value : ℕ) → IsWritten r → P (core.Wrote r value (offer_in offers_nothing) no_tables)
  pub placed : (dev slots : ℕ) (offer : Offer) (tables : ℕ → List Prd) → P (core.Placed dev slots offer tables)
  pub commanded : (value : ℕ) → P (core.Commanded value)
  pub overrode : (dev : ℕ) → P (core.Overrode dev)
  pub hung : (dev : ℕ) (line : Line) → P (core.Hung dev line)
  pub relinked : P core.Relinked
  pub restarted : P core.Restarted

module _ (P : CoreEvent → Type 0) (may : Allows P) where
  one : (e : CoreEvent) → P e → All P (e ∷ [])
  one e is = All-cons P e [] is (All-nil P)

  two : (e f : CoreEvent) → P e → P f → All P (e ∷ f ∷ [])
  two e f is it = All-cons P e (f ∷ []) is (one f it)

  told_all : (o : Option WriteError) (r : port_register.Register) (value : ℕ) → IsWritten r
      → All P (match_some o (core.Wrote r value (offer_in offers_nothing) no_tables ∷ []) (λ e. []))
  told_all None r value is = one _ (may.wrote r value is)
  told_all (Some e) r value is = All-nil P

  reset_all : (b : Bool) → All P (reset_by b)
  reset_all true = two _ _ may.restarted (may.hung _ _)
  reset_all false = All-nil P

  relinked_all : (e : Effect) (c : ControllerState) (value : ℕ) → All P (relinked_by e c value)
  relinked_all effect.Nothing c value = All-nil P
  relinked_all effect.LinkReset c value = two _ _ may.relinked (may.hung _ _)
  relinked_all effect.LinkUp c value = All-nil P

  overridden_all : (b : Bool) (p : Port) → All P (overridden_by b p)
  overridden_all true p = one _ (may.overrode _)
  overridden_all false p = All-nil P

  pub commanded_all : (o : Option WriteError) (value : ℕ) → All P (match_some o (core.Commanded value ∷ []) (λ e. []))
  commanded_all None value = one _ (may.commanded value)
  commanded_all (Some e) value = All-nil P

  register_all : (r : Register) (c : ControllerState) (value : ℕ) → All P (of_register r c value)
  register_all ahci.Ghc c value = reset_all (line_bits.has_bit value 0)
  register_all ahci.PxIs c value = told_all (told_refusal c on_port.Is _) on_port.Is _ tt
  register_all ahci.PxCmd c value = All-append P (overridden_by (clears_busy c value) c.core) (commanded_by c value) (overridden_all (clears_busy c value) c.core) (commanded_all _ _)
  register_all ahci.PxSctl c value = relinked_all (link_effect c value) c value
  register_all ahci.PxSerr c value = told_all (told_refusal c on_port.Serr _) on_port.Serr _ tt
  register_all ahci.PxSact c value = told_all (told_refusal c on_port.Sact _) on_port.Sact _ tt
  register_all ahci.PxSntf c value = told_all (told_refusal c on_port.Sntf _) on_port.Sntf _ tt
  register_all ahci.PxFbs c value = told_all (told_refusal c on_port.Fbs _) on_port.Fbs _ tt
  register_all other c value = All-nil P

  pub write_all : (o : Option Register) (value : Register → ℕ) (c : ControllerState) → All P (match_some o [] (λ r. of_register r c (value r)))
  write_all None value c = All-nil P
  write_all (Some r) value c = register_all r c (value r)

  part_if : (b : Bool) (o : Option Register) (value : Register → ℕ) (c : ControllerState) → All P (if b then [] else match_some o [] (λ r. of_register r c (value r)))
  part_if true o value c = All-nil P
  part_if false o value c = write_all o value c

  part_all : (c : ControllerState) (offset value mask : ℕ) → All P (of_part c offset value mask)
  part_all c offset value mask = part_if (mask == 0) (register_at offset) (λ r. merged r (shown r c) value mask) c

  pub wide_all : (b : Bool) (old : ControllerState) (offset : ℕ) (width : Width) (value : ℕ) (result : WideWritten) (new : ControllerState)
      (h : WritesFitting b old offset width value result new) → All P (of_wide b old offset width value result new h)
  wide_all true old offset width value result new h =
      let low : ℕ = low_of (spread_of (offset % 8) value) in
      let high : ℕ = high_of (spread_of (offset % 8) value) in
      let low_mask : ℕ = low_of (spread_of (offset % 8) (ones_of width)) in
      let high_mask : ℕ = high_of (spread_of (offset % 8) (ones_of width)) in
      All-append P (of_part old (block_of offset) low low_mask) (of_part h.middle (block_of offset + 4) high high_mask) (part_all old (block_of offset) low low_mask)
      (part_all h.middle (block_of offset + 4) high high_mask)
  wide_all false old offset width value result new h = All-nil P

  placed_all : (slot : ℕ) (o : Option Fetched) → All P (match_some o [] (λ command. core.Placed (device_of command) (2 ^ slot) (offer_in (offered_command command)) no_tables ∷ []))
  placed_all slot None = All-nil P
  placed_all slot (Some command) = one _ (may.placed _ _ _ _)

  pub supply_all : (slot : ℕ) (told : Supply) (new : ControllerState) → All P (of_supply told slot new)
  supply_all slot (supply_answer.Issued dev) new = placed_all slot (kept new slot)
  supply_all slot supply_answer.More new = All-nil P
  supply_all slot (supply_answer.NotTaken reason message line) new = All-nil P
  supply_all slot supply_answer.OutOfMemory new = All-nil P
  supply_all slot supply_answer.Stale new = All-nil P
