-- No command is read for a slot while one is issued in it, or while it is a bad one; so none is issued there.
use Rattle.std.proofs.Common.{◌≡◌, ℕ, ◌+◌, ◌-◌, ◌<◌, ◌^◌, ◌&&◌, Bool, true, false, List, refl, sym, ap, subst, ◌∙◌, inl, inr, arith, w32, Option}
use Rattle.std.proofs.{Common.{Some, None, bit_or}, lemmas.Bool.{and_parts, cases_Bool, eqb-true, false≢true, ltb-false, ltb-true}}
use Rattle.std.proofs.lemmas.Nat.Bits.{bit_at-lt, bit_at-zero, bit_at_and, bit_at_not}
use Rattle.std.specs.{Prelude.{◌==◌, MatchOption, is_some, nat_lt, if◌then◌else◌}, Int.bit_at}
use Rattle.slots.specs.{Commands.{is_unanswered, slots_where}, Slots.{Issue, has_bit, holds, issue_at, mask_of, match_some}}
use Rattle.slots.proofs.Door.{has_bit_mask}
use Rattle.ahci_registers.specs.Bits as line_bits
use Rattle.ahci_registers.specs.{Offsets.register_at, declared.{link.Effect.Effect, register.Register.Register}}
use Rattle.ahci_registers.specs.declared.link.Effect.TheVariants as effect
use Rattle.ahci_registers.specs.declared.register.Register.TheVariants as ahci
use Rattle.guest_fetch.specs.{Commands.Fetched, declared.fetch.Supplied.Supplied}
use Rattle.guest_fetch.specs.declared.fetch.Supplied.TheVariants as came_as
use Rattle.hba_fbs.specs.{Bits.without, Choosing.may_feed, Issuing.is_busy, Reading.value_of, declared.{error.WriteError.WriteError, turn.Turn.Turn}}
use Rattle.hba_fbs.specs.declared.turn.Turn.TheVariants.{Feeds}
use Rattle.hba_fbs.specs.declared.register.Register as port_register
use Rattle.ahci_controller.specs.{Access.{fits as fits_width, merged}, Feeding.{GathersIf, Loses, LosesIf, MissesIf as MissesDataIf, SendsIf}}
use Rattle.ahci_controller.specs.{Feeding.without_feeding, Fetching.{GoesOn, MissesIf, SuppliesIf, answered, fits, is_asked, without_fetch}}
use Rattle.ahci_controller.specs.{Issuing.{PlacesSlot, RefusesSlot, not_issued}, Next.{Frames, FramesFor, GoesIf, Reads, RestsNow, TurnsIf, is_fed}}
use Rattle.ahci_controller.specs.{Next.{is_halted, next_device, next_read, next_slot, next_write, turn_to, written}, Own.commanded, Reading.is_idle}
use Rattle.ahci_controller.specs.{Reading.shown, States.ControllerState, Wants.dropped, Wide.{WritesFitting, WritesIf, block_of}, Writing.Commands}
use Rattle.ahci_controller.specs.Writing.{Leaves, ResetsBy, Restarts, Tells, WritesGlobal, WritesRegister, asked_state, fresh_slots, idle_for}
use Rattle.ahci_controller.specs.{Writing.{link_effect, link_moved, plain}, declared.{access.Width.Width, feeding.Fed.Fed, issuing.NotTaken.NotTaken}}
use Rattle.ahci_controller.specs.declared.{issuing.Supply.Supply, latch.Latch.Latch, next.Next.Next, own.OwnRegisters.OwnRegisters, wants.Wants.Wants}
use Rattle.ahci_controller.specs.declared.{wide.WideWritten.WideWritten, writing.Written.Written}
use Rattle.ahci_controller.specs.Own as own_words
use Rattle.ahci_controller.proofs.Door.{or_left, or_none, or_right}
use Rattle.controller_laws.specs.Events as call
use Rattle.controller_laws.specs.Events.{Does, Event, IsController}
use Rattle.machine_theorem.specs.{Commands.{is_issue, issues_in}, Standing.IsAlone}

-- ---- bits

one_bit : (x k : ℕ) → has_bit x k ≡ true → bit_at x k ≡ 1
one_bit x k h = eqb-true (bit_at x k) 1 h

no_bit : (x k : ℕ) → bit_at x k ≡ 0 → has_bit x k ≡ false
no_bit x k h = ap (λ (n : ℕ). n == 1) h

pub none_set : (k : ℕ) → has_bit 0 k ≡ false
none_set k = no_bit 0 k (bit_at-zero k)

left_was : (x y k : ℕ) → has_bit (without x y) k ≡ true → has_bit x k ≡ true
left_was x y k h =
    let one = one_bit (without x y) k h in
    let both = bit_at_and x (4294967295 - y) k in
    let small = bit_at-lt x k in
    let is : bit_at x k ≡ 1 = omega (arith, one, both, small) in
    ap (λ (n : ℕ). n == 1) is

pub left_none : (x y k : ℕ) → has_bit x k ≡ false → has_bit (without x y) k ≡ false
left_none x y k h = elim (cases_Bool (has_bit (without x y) k)) [
  | inl here ↦ absurd (false≢true (sym h ∙ left_was x y k here))
  | inr gone ↦ gone
]

-- a bit of y is none of what is left without y
complement : (y k : ℕ) → k < 32 → has_bit y k ≡ true → bit_at (4294967295 - y) k ≡ 0
complement y k below h = by (nat_lt y (2 ^ 32)) refl
  where
    by : (b : Bool) → nat_lt y (2 ^ 32) ≡ b → bit_at (4294967295 - y) k ≡ 0
    by true is =
        let one = one_bit y k h in
        let other : bit_at (4294967295 - y) k ≡ 1 - bit_at y k = bit_at_not w32 y k (ltb-true y (2 ^ 32) is) below in
        omega (arith, one, other)
    by false is =
        let high = ltb-false y (2 ^ 32) is in
        let none : 4294967295 - y ≡ 0 = omega (arith, high) in
        ap (λ (n : ℕ). bit_at n k) none ∙ bit_at-zero k

pub taken : (x y k : ℕ) → k < 32 → has_bit y k ≡ true → has_bit (without x y) k ≡ false
taken x y k below h =
    let none = complement y k below h in
    let both = bit_at_and x (4294967295 - y) k in
    no_bit (without x y) k (omega (arith, none, both))

-- ---- a slot that is not read

abbrev pub IsNotRead : ℕ → ControllerState → Type 0
IsNotRead s c = has_bit c.wants.pending s ≡ false

-- a command is issued in it, or it is a bad one
pub data IsHeld (s : ℕ) (c : ControllerState) : Type 0 where
  Issues : is_some (issue_at c.core.slots s) ≡ true → IsHeld s c
  Fails : has_bit c.own.bad s ≡ true → IsHeld s c

fresh_none : (value s : ℕ) (c : ControllerState) → s < 32 → IsHeld s c → has_bit (fresh_slots c value) s ≡ false
fresh_none value s c below (Issues there) =
    let busy : ℕ = mask_of (is_busy c.core.slots) in
    left_none (without (without value busy) c.wants.pending) c.own.bad s (left_none (without value busy) c.wants.pending s
    (taken value busy s below (has_bit_mask (is_busy c.core.slots) s below ∙ there)))
fresh_none value s c below (Fails there) = taken (without (without value (mask_of (is_busy c.core.slots))) c.wants.pending) c.own.bad s below there

same : (s : ℕ) (old new : ControllerState) → new.wants.pending ≡ old.wants.pending → IsNotRead s old → IsNotRead s new
same s old new is was = ap (λ (m : ℕ). has_bit m s) is ∙ was

unmoved : (s : ℕ) (old new : ControllerState) → new ≡ old → IsNotRead s old → IsNotRead s new
unmoved s old new is was = same s old new (ap (λ (c : ControllerState). c.wants.pending) is) was

emptied : (s : ℕ) (new : ControllerState) → new.wants.pending ≡ 0 → IsNotRead s new
emptied s new is = ap (λ (m : ℕ). has_bit m s) is ∙ none_set s

lessened : (s slot : ℕ) (old new : ControllerState) → new.wants.pending ≡ without old.wants.pending (2 ^ slot) → IsNotRead s old → IsNotRead s new
lessened s slot old new is was = ap (λ (m : ℕ). has_bit m s) is ∙ left_none old.wants.pending (2 ^ slot) s was

-- ---- writes

global : (resets : Bool) (value s : ℕ) (old new : ControllerState) → WritesGlobal resets old value new → IsNotRead s old → IsNotRead s new
global true value s old new h was = emptied s new (ap (λ (c : ControllerState). c.wants.pending) h.rest)
global false value s old new h was = same s old new (ap (λ (c : ControllerState). c.wants.pending) h) was

linked : (e : Effect) (s : ℕ) (old new : ControllerState) → ResetsBy e old new → IsNotRead s old → IsNotRead s new
linked effect.LinkReset s old new h was = emptied s new (ap (λ (c : ControllerState). c.wants.pending) h.rest)
linked other s old new h was = unmoved s old new h was

told : (register : port_register.Register) (value s : ℕ) (old new : ControllerState) (latch : Latch) (own : OwnRegisters) (ignored : Option WriteError) → Tells old register value latch own ignored new → IsNotRead s old → IsNotRead s new
told register value s old new latch own ignored h was = same s old new (ap (λ (c : ControllerState). c.wants.pending) h.rest) was

restarted : (fall : Bool) (s : ℕ) (old new : ControllerState) → new.wants ≡ (if fall then dropped old else old).wants → IsNotRead s old → IsNotRead s new
restarted true s old new is was = emptied s new (ap (λ (w : Wants). w.pending) is)
restarted false s old new is was = same s old new (ap (λ (w : Wants). w.pending) is) was

restarts : (idle : Bool) (own : OwnRegisters) (s : ℕ) (old new : ControllerState) (ignored : Option WriteError) → Restarts old idle own ignored new → IsNotRead s old → IsNotRead s new
restarts idle own s old new ignored h was =
    restarted (own_words.falls old.own own old.core.registers new.core.registers) s old new (ap (λ (c : ControllerState). c.wants) h.rest) was

commands : (value s : ℕ) (old new : ControllerState) (ignored : Option WriteError) → Commands old value ignored new → IsNotRead s old → IsNotRead s new
commands value s old new ignored h was =
    restarts (idle_for old value) (commanded h.middle.own value) s h.middle new ignored h.starts (same s old h.middle (ap (λ (c : ControllerState). c.wants.pending) h.clears.rest) was)

asked : (running : Bool) (value s : ℕ) (c : ControllerState) → s < 32 → IsHeld s c → IsNotRead s c → IsNotRead s (if running then record c { wants = record c.wants { pending = bit_or c.wants.pending (fresh_slots c value) } } else c)
asked true value s c below held was = or_none c.wants.pending (fresh_slots c value) s was (fresh_none value s c below held)
asked false value s c below held was = was

register : (r : Register) (value s : ℕ) (old new : ControllerState) (result : Written) → s < 32 → Leaves r old value result new → (r ≡ ahci.PxCi → IsHeld s old) → IsNotRead s old → IsNotRead s new
register ahci.Ghc value s old new result below h held was = global (line_bits.has_bit value 0) value s old new h.0 was
register ahci.Is value s old new result below h held was = same s old new (ap (λ (c : ControllerState). c.wants.pending) h.0) was
register ahci.PxClb value s old new result below h held was = same s old new (ap (λ (c : ControllerState). c.wants.pending) h.0) was
register ahci.PxClbu value s old new result below h held was = same s old new (ap (λ (c : ControllerState). c.wants.pending) h.0) was
register ahci.PxFb value s old new result below h held was = same s old new (ap (λ (c : ControllerState). c.wants.pending) h.0) was
register ahci.PxFbu value s old new result below h held was = same s old new (ap (λ (c : ControllerState). c.wants.pending) h.0) was
register ahci.PxIs value s old new result below h held was = told _ _ s old new _ _ result.ignored h.0 was
register ahci.PxIe value s old new result below h held was = same s old new (ap (λ (c : ControllerState). c.wants.pending) h.0) was
register ahci.PxCmd value s old new result below h held was = commands value s old new result.ignored h.0 was
register ahci.PxSctl value s old new result below h held was = linked (link_effect old value) s (link_moved old value) new h.0 (same s old (link_moved old value) refl was)
register ahci.PxSerr value s old new result below h held was = told _ _ s old new _ _ result.ignored h.0 was
register ahci.PxSact value s old new result below h held was = told _ _ s old new _ _ result.ignored h.0 was
register ahci.PxCi value s old new result below h held was = unmoved s (asked_state old value) new h.0 (asked old.own.starts value s old below (held refl) was)
register ahci.PxSntf value s old new result below h held was = told _ _ s old new _ _ result.ignored h.0 was
register ahci.PxFbs value s old new result below h held was = told _ _ s (record old { wants = record old.wants { feeding = 0 } }) new _ _ result.ignored h.0 (same s old (record old { wants = record old.wants { feeding = 0 } }) refl was)
register other value s old new result below h held was = unmoved s old new h.0 was

at_register : (o : Option Register) (value : Register → ℕ) (s : ℕ) (old new : ControllerState) (result : Written) (nothing : Type 0) → s < 32 → (nothing → new ≡ old) → MatchOption o nothing (λ r. WritesRegister r old (value r) result new)
    → (o ≡ Some ahci.PxCi → IsHeld s old) → IsNotRead s old → IsNotRead s new
at_register None value s old new result nothing below is h held was = unmoved s old new (is h) was
at_register (Some r) value s old new result nothing below is h held was = register r (value r) s old new (plain result) below h.leaves (λ e. held (ap Some e)) was

part : (empty : Bool) (offset value mask s : ℕ) (old new : ControllerState) (result : Written) → s < 32 → WritesIf empty old offset value mask result new → (register_at offset ≡ Some ahci.PxCi → IsHeld s old) → IsNotRead s old → IsNotRead s new
part true offset value mask s old new result below h held was = unmoved s old new h.0 was
part false offset value mask s old new result below h held was = at_register (register_at offset) (λ r. merged r (shown r old) value mask) s old new result _ below (λ n. n.0) h held was

-- PxCI is at the lower dword of eight bytes, PxSACT at the higher one, above PxSERR
skipped : (b : Bool) (r t : Register) (rest : Option Register) → (r ≡ t → ⊥) → (if b then Some r else rest) ≡ Some t → rest ≡ Some t
skipped true r t rest ne h = absurd (ne (ap (λ (o : Option Register). match_some o r (λ x. x)) h))
skipped false r t rest ne h = h

here : (b : Bool) (t : Register) (rest : Option Register) → (rest ≡ Some t → ⊥) → (if b then Some t else rest) ≡ Some t → b ≡ true
here true t rest none h = refl
here false t rest none h = absurd (none h)

gone : (b : Bool) (r t : Register) (rest : Option Register) → (r ≡ t → ⊥) → (rest ≡ Some t → ⊥) → (if b then Some r else rest) ≡ Some t → ⊥
gone b r t rest ne none h = none (skipped b r t rest ne h)

ci_at : (o : ℕ) → register_at o ≡ Some ahci.PxCi → o ≡ 0x138
unfolding register_at
ci_at o h =
    eqb-true o 0x138 (here (o == 0x138) ahci.PxCi _ (gone (o == 0x13C) ahci.PxSntf ahci.PxCi _ (λ e. cc) (gone (o == 0x140) ahci.PxFbs ahci.PxCi None (λ e. cc) (λ e. cc)))
    (skipped (o == 0x134) ahci.PxSact ahci.PxCi _ (λ e. cc) (skipped (o == 0x130) ahci.PxSerr ahci.PxCi _ (λ e. cc) (skipped (o == 0x12C) ahci.PxSctl ahci.PxCi _ (λ e. cc) (skipped (o == 0x128) ahci.PxSsts ahci.PxCi _ (λ e. cc) (skipped (o == 0x124) ahci.PxSig ahci.PxCi _ (λ e. cc) (skipped (o == 0x120) ahci.PxTfd ahci.PxCi _ (λ e. cc) (skipped (o == 0x118) ahci.PxCmd ahci.PxCi _ (λ e. cc) (skipped (o == 0x114) ahci.PxIe ahci.PxCi _ (λ e. cc) (skipped (o == 0x110) ahci.PxIs ahci.PxCi _ (λ e. cc) (skipped (o == 0x10C) ahci.PxFbu ahci.PxCi _ (λ e. cc) (skipped (o == 0x108) ahci.PxFb ahci.PxCi _ (λ e. cc) (skipped (o == 0x104) ahci.PxClbu ahci.PxCi _ (λ e. cc) (skipped (o == 0x100) ahci.PxClb ahci.PxCi _ (λ e. cc) (skipped (o == 0x24) ahci.Cap2 ahci.PxCi _ (λ e. cc) (skipped (o == 0x10) ahci.Vs ahci.PxCi _ (λ e. cc) (skipped (o == 0x0C) ahci.Pi ahci.PxCi _ (λ e. cc) (skipped (o == 0x08) ahci.Is ahci.PxCi _ (λ e. cc) (skipped (o == 0x04) ahci.Ghc ahci.PxCi _ (λ e. cc) (skipped (o == 0x00) ahci.Cap ahci.PxCi _ (λ e. cc) h))))))))))))))))))))

sact_at : (o : ℕ) → register_at o ≡ Some ahci.PxSact → o ≡ 0x134
unfolding register_at
sact_at o h =
    eqb-true o 0x134 (here (o == 0x134) ahci.PxSact _
    (gone (o == 0x138) ahci.PxCi ahci.PxSact _ (λ e. cc) (gone (o == 0x13C) ahci.PxSntf ahci.PxSact _ (λ e. cc) (gone (o == 0x140) ahci.PxFbs ahci.PxSact None (λ e. cc) (λ e. cc))))
    (skipped (o == 0x130) ahci.PxSerr ahci.PxSact _ (λ e. cc) (skipped (o == 0x12C) ahci.PxSctl ahci.PxSact _ (λ e. cc) (skipped (o == 0x128) ahci.PxSsts ahci.PxSact _ (λ e. cc) (skipped (o == 0x124) ahci.PxSig ahci.PxSact _ (λ e. cc) (skipped (o == 0x120) ahci.PxTfd ahci.PxSact _ (λ e. cc) (skipped (o == 0x118) ahci.PxCmd ahci.PxSact _ (λ e. cc) (skipped (o == 0x114) ahci.PxIe ahci.PxSact _ (λ e. cc) (skipped (o == 0x110) ahci.PxIs ahci.PxSact _ (λ e. cc) (skipped (o == 0x10C) ahci.PxFbu ahci.PxSact _ (λ e. cc) (skipped (o == 0x108) ahci.PxFb ahci.PxSact _ (λ e. cc) (skipped (o == 0x104) ahci.PxClbu ahci.PxSact _ (λ e. cc) (skipped (o == 0x100) ahci.PxClb ahci.PxSact _ (λ e. cc) (skipped (o == 0x24) ahci.Cap2 ahci.PxSact _ (λ e. cc) (skipped (o == 0x10) ahci.Vs ahci.PxSact _ (λ e. cc) (skipped (o == 0x0C) ahci.Pi ahci.PxSact _ (λ e. cc) (skipped (o == 0x08) ahci.Is ahci.PxSact _ (λ e. cc) (skipped (o == 0x04) ahci.Ghc ahci.PxSact _ (λ e. cc) (skipped (o == 0x00) ahci.Cap ahci.PxSact _ (λ e. cc) h)))))))))))))))))))

not_high : (offset : ℕ) → register_at (block_of offset + 4) ≡ Some ahci.PxCi → ⊥
not_high offset h =
    let at = ci_at (block_of offset + 4) h in
    omega (arith, at)

pub above_serr : (offset : ℕ) → register_at (block_of offset + 4) ≡ Some ahci.PxSact → register_at (block_of offset) ≡ Some ahci.PxSerr
unfolding register_at
above_serr offset h =
    let at = sact_at (block_of offset + 4) h in
    let low : block_of offset ≡ 0x130 = omega (arith, at) in
    ap register_at low

wide : (does_fit : Bool) (offset : ℕ) (width : Width) (value s : ℕ) (old new : ControllerState) (result : WideWritten) → s < 32 → WritesFitting does_fit old offset width value result new → IsHeld s old → IsNotRead s old → IsNotRead s new
wide false offset width value s old new result below h held was = unmoved s old new h.0.0 was
wide true offset width value s old new result below h held was =
    part _ _ _ _ s h.middle new result.high below h.high (λ e. absurd (not_high offset e)) (part _ _ _ _ s old h.middle result.low below h.low (λ e. held) was)

-- ---- supplies

issues : (slot s : ℕ) (f : Fetched) (o : Option NotTaken) (base new : ControllerState) (supply : Supply) → MatchOption o (PlacesSlot base slot f supply new) (λ reason. RefusesSlot base slot reason supply new) → IsNotRead s base → IsNotRead s new
issues slot s f None base new supply h was = lessened s slot base new (ap (λ (c : ControllerState). c.wants.pending) h.rest) was
issues slot s f (Some reason) base new supply h was = lessened s slot base new (ap (λ (c : ControllerState). c.wants.pending) h.rest) was

goes_on : (slot s : ℕ) (came : Supplied) (base new : ControllerState) (supply : Supply) → GoesOn base slot came supply new → IsNotRead s base → IsNotRead s new
goes_on slot s (came_as.Refused r) base new supply h was = lessened s slot base new (ap (λ (c : ControllerState). c.wants.pending) h.rest) was
goes_on slot s (came_as.Whole f) base new supply h was = issues slot s f (not_issued base.core slot f) base new supply h was
goes_on slot s other base new supply h was = same s base new (ap (λ (c : ControllerState). c.wants.pending) h.0) was

supplies : (fit : Bool) (slot s : ℕ) (bytes : List ℕ) (old new : ControllerState) (supply : Supply) → SuppliesIf fit old slot bytes supply new → IsNotRead s old → IsNotRead s new
supplies false slot s bytes old new supply h was = unmoved s old new h.0 was
supplies true slot s bytes old new supply h was = goes_on slot s h.came (without_fetch (answered old slot) slot) new supply h.goes (same s old (without_fetch (answered old slot) slot) refl was)

misses : (out : Bool) (slot s : ℕ) (old new : ControllerState) (supply : Supply) → MissesIf out old slot supply new → IsNotRead s old → IsNotRead s new
misses false slot s old new supply h was = unmoved s old new h.0 was
misses true slot s old new supply h was = lessened s slot (without_fetch (answered old slot) slot) new (ap (λ (c : ControllerState). c.wants.pending) h.rest) (same s old (without_fetch (answered old slot) slot) refl was)

-- ---- all others

frames : (dev slot : Option ℕ) (alternates : Bool) (base new : ControllerState) (next : Next) → FramesFor dev slot alternates base next new → new.wants.pending ≡ base.wants.pending
frames None None alternates base new next h = ap (λ (c : ControllerState). c.wants.pending) h.0
frames None (Some slot) alternates base new next h = ap (λ (c : ControllerState). c.wants.pending) h.rest
frames (Some dev) None alternates base new next h = ap (λ (c : ControllerState). c.wants.pending) h.rest
frames (Some dev) (Some slot) false base new next h = ap (λ (c : ControllerState). c.wants.pending) h.rest
frames (Some dev) (Some slot) true base new next h = ap (λ (c : ControllerState). c.wants.pending) h.rest

reads : (o : Option ℕ) (base new : ControllerState) (next : Next) → MatchOption o (Frames base next new) (λ slot. Reads base slot next new) → new.wants.pending ≡ base.wants.pending
reads None base new next h = frames (next_device base) (next_slot base) base.circle.fed base new next h
reads (Some slot) base new next h = ap (λ (c : ControllerState). c.wants.pending) h.1

rests : (o : Option ℕ) (base new : ControllerState) (next : Next) → MatchOption o (RestsNow base next new) (λ slot. Reads base slot next new) → new.wants.pending ≡ base.wants.pending
rests None base new next h = ap (λ (c : ControllerState). c.wants.pending) h.0
rests (Some slot) base new next h = ap (λ (c : ControllerState). c.wants.pending) h.1

goes : (started : Bool) (s : ℕ) (base new : ControllerState) (next : Next) → GoesIf started base next new → IsNotRead s base → IsNotRead s new
goes true s base new next h was = same s base new (reads (next_read base) base new next h) was
goes false s base new next h was =
    same s h.middle new (rests (next_read h.middle) h.middle new next h.reads) (restarts (is_idle base) base.own s base h.middle h.ignored h.starts was)

turns_if : (halted : Bool) (s : ℕ) (base new : ControllerState) (next : Next) → TurnsIf halted base next new → IsNotRead s base → IsNotRead s new
turns_if true s base new next h was = unmoved s base new h.0 was
turns_if false s base new next h was = goes base.core.registers.started s base new next h was

turns : (o : Option Next) (s : ℕ) (old new : ControllerState) (next : Next) → MatchOption o (TurnsIf (is_halted (written old)) (written old) next new) (λ write. (next ≡ write) × (new ≡ written old)) → IsNotRead s old → IsNotRead s new
turns None s old new next h was = turns_if (is_halted (written old)) s (written old) new next h (same s old (written old) refl was)
turns (Some write) s old new next h was = same s old new (ap (λ (c : ControllerState). c.wants.pending) h.1) was

gathers : (out : Bool) (dev : ℕ) (old new : ControllerState) (result : Fed) → GathersIf out old dev result new → new.wants.pending ≡ old.wants.pending
gathers false dev old new result h = ap (λ (c : ControllerState). c.wants.pending) h.0
gathers true dev old new result h = sends (may_feed old.core dev) h
  where
    sends : (due : Bool) → SendsIf due (without_feeding old dev) dev result new → new.wants.pending ≡ old.wants.pending
    sends false d = ap (λ (c : ControllerState). c.wants.pending) d.0
    sends true d = ap (λ (c : ControllerState). c.wants.pending) d.rest

loses : (turn : Turn) (base new : ControllerState) (result : Fed) → Loses turn base result new → new.wants.pending ≡ base.wants.pending
loses (Feeds dev slot offset len) base new result h = ap (λ (c : ControllerState). c.wants.pending) h.rest
loses other base new result h = ap (λ (c : ControllerState). c.wants.pending) h.0

misses_data : (out : Bool) (dev : ℕ) (old new : ControllerState) (result : Fed) → MissesDataIf out old dev result new → new.wants.pending ≡ old.wants.pending
misses_data false dev old new result h = ap (λ (c : ControllerState). c.wants.pending) h.0
misses_data true dev old new result h = by (may_feed old.core dev) h
  where
    by : (due : Bool) → LosesIf due (without_feeding old dev) dev result new → new.wants.pending ≡ old.wants.pending
    by false d = ap (λ (c : ControllerState). c.wants.pending) d.0
    by true d = loses (turn_to (without_feeding old dev) dev) (without_feeding old dev) new result d

-- so it is over every call
pub stays_unread : (e : Event) (s : ℕ) (old new : ControllerState) → s < 32 → Does old e new → IsHeld s old → IsNotRead s old → IsNotRead s new
stays_unread (call.Wrote offset value written) s old new below h held was = at_register (register_at offset) (λ r. value) s old new written _ below (λ n. n.0) h (λ e. held) was
stays_unread (call.WroteWide offset width value written) s old new below h held was = wide (fits_width width offset) offset width value s old new written below h held was
stays_unread (call.Supplied slot number bytes supply) s old new below h held was = supplies (fits old slot number bytes) slot s bytes old new supply h was
stays_unread (call.Missed slot number supply) s old new below h held was = misses (is_asked old.wants slot number) slot s old new supply h was
stays_unread (call.Took frame took) s old new below h held was = same s old new (ap (λ (c : ControllerState). c.wants.pending) h.hears.rest) was
stays_unread (call.Left frame why) s old new below h held was = unmoved s old new h.1 was
stays_unread (call.Turned next) s old new below h held was = turns (next_write old) s old new next h was
stays_unread (call.Said write) s old new below h held was = same s old new (ap (λ (c : ControllerState). c.wants.pending) h.1) was
stays_unread (call.Gathered dev number frame fed) s old new below h held was = same s old new (gathers (is_fed old.wants dev number) dev old new fed h.1) was
stays_unread (call.NotThere dev number fed) s old new below h held was = same s old new (misses_data (is_fed old.wants dev number) dev old new fed h) was

-- ---- what PxCI shows

pub ci_is : (c : ControllerState) → shown ahci.PxCi c ≡ bit_or (bit_or (slots_where is_unanswered c.core.slots) c.wants.pending) c.own.bad
unfolding shown value_of
ci_is c = refl

some_of : (o : Option Issue) → holds is_unanswered o ≡ true → is_some o ≡ true
some_of None h = absurd (false≢true h)
some_of (Some i) h = refl

pub is_held : (s : ℕ) (c : ControllerState) → s < 32 → has_bit (shown ahci.PxCi c) s ≡ true → IsNotRead s c → IsHeld s c
is_held s c below here unread = by (has_bit issued s) (has_bit c.own.bad s) refl refl
  where
    issued : ℕ
    issued = slots_where is_unanswered c.core.slots

    by : (i b : Bool) → has_bit issued s ≡ i → has_bit c.own.bad s ≡ b → IsHeld s c
    by true b ei eb = Issues (some_of (issue_at c.core.slots s) (sym (has_bit_mask (λ slot. holds is_unanswered (issue_at c.core.slots slot)) s below) ∙ ei))
    by false true ei eb = Fails eb
    by false false ei eb =
        absurd (false≢true (sym (ap (λ (m : ℕ). has_bit m s) (ci_is c) ∙ or_none (bit_or issued c.wants.pending) c.own.bad s (or_none issued c.wants.pending s ei unread) eb) ∙ here))

-- ---- a call that issues

-- bytes are wanted for the slot
pub record IsWanted (slot : ℕ) (w : Wants) : Type 0 where
  pub low : slot < 32
  pub out : has_bit w.out slot ≡ true

wanted : (slot number : ℕ) (w : Wants) → is_asked w slot number ≡ true → IsWanted slot w
wanted slot number w is =
    let first = and_parts (nat_lt slot 32 && has_bit w.out slot) _ is in
    let both = and_parts (nat_lt slot 32) (has_bit w.out slot) first.0 in
    record { low = ltb-true slot 32 both.0; out = both.1 }

supplied_wanted : (fit : Bool) (slot number : ℕ) (bytes : List ℕ) (old new : ControllerState) (supply : Supply) → fits old slot number bytes ≡ fit → SuppliesIf fit old slot bytes supply new → is_issue supply ≡ true → IsWanted slot old.wants
supplied_wanted false slot number bytes old new supply is h issued = absurd (false≢true (sym (ap is_issue h.1) ∙ issued))
supplied_wanted true slot number bytes old new supply is h issued = wanted slot number old.wants (and_parts (is_asked old.wants slot number) _ is).0

missed_none : (out : Bool) (slot : ℕ) (old new : ControllerState) (supply : Supply) → MissesIf out old slot supply new → is_issue supply ≡ false
missed_none false slot old new supply h = ap is_issue h.1
missed_none true slot old new supply h = ap is_issue h.told

pub issue_wanted : (e : Event) (s : ℕ) (old new : ControllerState) → Does old e new → issues_in s e ≡ true → IsWanted s old.wants
issue_wanted (call.Supplied slot number bytes supply) s old new h is =
    let both = and_parts (slot == s) (is_issue supply) is in
    subst (λ (n : ℕ). IsWanted n old.wants) (eqb-true slot s both.0) (supplied_wanted (fits old slot number bytes) slot number bytes old new supply refl h both.1)
issue_wanted (call.Missed slot number supply) s old new h is =
    absurd (false≢true (sym (missed_none (is_asked old.wants slot number) slot old new supply h) ∙ (and_parts (slot == s) (is_issue supply) is).1))
issue_wanted other s old new h is = absurd (false≢true is)

-- a slot for which bytes are wanted is read
pub is_read : (s : ℕ) (c : ControllerState) → IsController c → IsWanted s c.wants → has_bit c.wants.pending s ≡ true
is_read s c k w = by (has_bit c.wants.pending s) refl
  where
    by : (b : Bool) → has_bit c.wants.pending s ≡ b → b ≡ true
    by true is = refl
    by false is = absurd (false≢true (sym (k.rules.unread s w.low is).out ∙ w.out))

pub is_alone : (e : Event) (s : ℕ) (old new : ControllerState) → IsController old → Does old e new → issues_in s e ≡ true → IsAlone old s
is_alone e s old new k h is =
    let w = issue_wanted e s old new h is in
    let read : has_bit old.wants.pending s ≡ true = is_read s old k w in
    let issued : ℕ = slots_where is_unanswered old.core.slots in
    record {
      low = w.low;
      free = k.rules.free s w.low read;
      asked = ap (λ (m : ℕ). has_bit m s) (ci_is old) ∙ or_left (bit_or issued old.wants.pending) old.own.bad s (or_right issued old.wants.pending s read);
    }

-- so none is issued in a slot that is not read
pub none_issued : (e : Event) (s : ℕ) (old new : ControllerState) → IsController old → Does old e new → IsNotRead s old → issues_in s e ≡ false
none_issued e s old new k h unread = by (issues_in s e) refl
  where
    by : (b : Bool) → issues_in s e ≡ b → b ≡ false
    by false is = refl
    by true is = absurd (false≢true (sym unread ∙ is_read s old k (issue_wanted e s old new h is)))
