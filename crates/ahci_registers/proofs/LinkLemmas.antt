-- The laws of the link: one write, then lists of writes.
use Rattle.std.proofs.Common.{◌≡◌, ◌≢◌, ℕ, ◌+◌, ◌*◌, ◌/◌, ◌%◌, refl, ap, arith, inl, inr}
use Rattle.std.specs.Prelude.{◌==◌, ◌⊎◌, if◌then◌else◌, [], ◌∷◌}
use Rattle.ahci_registers.specs.{Bits.{pcs, prcs, known}, Lines.after, Link.{HasEffect, action_of, action_after, control_after, effect_of, written}}
use Rattle.ahci_registers.specs.{LinkLaws.{StaysWhileStarted, FallsByAReset, RisesByLinkUp, UpSetsX}, declared.link.Effect.TheVariants.LinkReset}
use Rattle.ahci_registers.specs.declared.link.{Effect.TheVariants.LinkUp, LinkAction.{LinkAction, TheVariants.{NoAction, Comreset, Disable}}}
use Rattle.ahci_registers.proofs.BitLemmas.{or_adds}

low_bits : (a c : ℕ) → (a / 16 * 16 + c % 16) % 16 ≡ c % 16
low_bits a c = omega arith

by_det : ℕ → LinkAction
by_det d = if d == 1 then Comreset else if d == 4 then Disable else NoAction

pub stays : StaysWhileStarted
unfolding action_of written by_det
stays control value = ap by_det (low_bits (value % 4096) control)

-- one change of DET
falls_at : (old new : LinkAction) → old ≡ NoAction → new ≢ NoAction → effect_of old new ≡ LinkReset
falls_at NoAction NoAction was is = absurd (is refl)
falls_at NoAction Comreset was is = refl
falls_at NoAction Disable was is = refl
falls_at Comreset new was is = cc
falls_at Disable new was is = cc

rises_at : (old new : LinkAction) → old ≢ NoAction → new ≡ NoAction → effect_of old new ≡ LinkUp
rises_at NoAction new was is = absurd (was refl)
rises_at Comreset NoAction was is = refl
rises_at Disable NoAction was is = refl
rises_at Comreset Comreset was is = cc
rises_at Comreset Disable was is = cc
rises_at Disable Comreset was is = cc
rises_at Disable Disable was is = cc

-- an action is NoAction or not
which : (a : LinkAction) → (a ≡ NoAction) ⊎ (a ≢ NoAction)
which NoAction = inl refl
which Comreset = inr (λ e. cc)
which Disable = inr (λ e. cc)

pub falls : FallsByAReset
unfolding control_after HasEffect
falls control [] was is = absurd (is was)
falls control (w ∷ writes) was is = elim (which (action_after control w)) [
  | inl up ↦ inr (falls (written control w.value w.started) writes up is)
  | inr down ↦ inl (falls_at (action_of control) (action_after control w) was down)
]

pub rises : RisesByLinkUp
unfolding control_after HasEffect
rises control [] was is = absurd (was is)
rises control (w ∷ writes) was is = elim (which (action_after control w)) [
  | inl up ↦ inl (rises_at (action_of control) (action_after control w) was up)
  | inr down ↦ inr (rises (written control w.value w.started) writes down is)
]

pub up_sets : UpSetsX
unfolding after
up_sets l NoAction was = absurd (was refl)
up_sets l Comreset was = or_adds l.status (pcs + prcs) known refl
up_sets l Disable was = or_adds l.status (pcs + prcs) known refl
