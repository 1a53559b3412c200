-- While Data are wanted for a device, as many stay due.
use Rattle.std.proofs.Common.{◌≡◌, ◌≢◌, ℕ, ◌-◌, ◌<◌, ◌^◌, ◌&&◌, Bool, true, false, List, get_or, refl, sym, ap, subst, ◌∙◌, inl, inr, arith, Option}
use Rattle.std.proofs.{Common.{Some, None, w32, bit_or}, lemmas.Bool.{and_parts, cases_Bool, cases_eq, eq-eqb, eqb-true, false≢true, ltb-true}}
use Rattle.std.proofs.lemmas.{List.{get_or-set_other}, Nat.{pow_below, Bits.{bit_at-lt, bit_at-pow_other, bit_at-pow_same, bit_at-zero, bit_at_and}}}
use Rattle.std.proofs.lemmas.Nat.Bits.{bit_at_not, bit_at_or}
use Rattle.std.specs.{Prelude.{◌⊎◌, ◌==◌, IfSome, MatchOption, if◌then◌else◌, nat_lt}, Int.bit_at, Option.option_map}
use Rattle.fis_view.specs.Seen.{seen}
use Rattle.slots.specs.{Commands.{is_slot, with_sent}, Data.payload, Setup.begun, Slots.{DeviceSlots, Issue, context_of, context_unless, freed}}
use Rattle.slots.specs.{Slots.{has_bit, holds, is_control, issue_at, match_some, own_issue}, Work.is_dma, declared.table.Context.Context}
use Rattle.ahci_registers.specs.Bits as line_bits
use Rattle.ahci_registers.specs.{Offsets.register_at, declared.{link.Effect.Effect, register.Register.Register}}
use Rattle.ahci_registers.specs.declared.link.Effect.TheVariants as effect
use Rattle.ahci_registers.specs.declared.register.Register.TheVariants as ahci
use Rattle.guest_fetch.specs.{Commands.Fetched, declared.{fetch.Supplied.Supplied, moves.Move.Move}}
use Rattle.guest_fetch.specs.declared.fetch.Supplied.TheVariants as supplied
use Rattle.hba_commands.specs.declared.command.Command.{Command}
use Rattle.hba_fbs.specs.{Bits.without, Choosing.{Chooses, may_feed}, Greeting.{Greets, greeted_in}, Offering.{AcceptsBy, Offer, view_by}}
use Rattle.hba_fbs.specs.{Registers.{falls, own_refusal_by}, Stopping.{SetsCmd, fallen_view}, Taking.{ignores, port_of}, Turning.{feeds, orders}}
use Rattle.hba_fbs.specs.{Views.{DeviceView, Port, last_command, view_of}, declared.{error.WriteError.WriteError, report.TakeReport.TakeReport}}
use Rattle.hba_fbs.specs.declared.turn.Turn.{Turn, TheVariants.{Feeds, Orders, Rests}}
use Rattle.hba_fbs.specs.declared.register.Register as port_register
use Rattle.hba_fbs.specs.declared.register.Register.TheVariants as on_port
use Rattle.ahci_controller.specs.{Access.{fits as fits_width, merged}, Feeding.{Gathers, GathersIf, Loses, LosesIf, MissesData}}
use Rattle.ahci_controller.specs.{Feeding.{MissesIf as MissesDataIf, SendsIf, without_feeding}, Fetching.{AnswersTo, GoesOn, Misses, MissesIf}}
use Rattle.ahci_controller.specs.{Fetching.{SuppliesIf, answered, fits, is_asked, next_number, without_fetch}, Issuing.{PlacesSlot, RefusesSlot}}
use Rattle.ahci_controller.specs.{Issuing.{device_of, not_issued}, Moving.count_of, Next.{Frames, FramesFor, FeedsTo, GoesIf, OrdersSlot}}
use Rattle.ahci_controller.specs.Next.{Reads as ReadsSlot, RestsNow, Turns, TurnsIf, count_next, counted_slot, feed_next, is_fed, is_halted}
use Rattle.ahci_controller.specs.Next.{next_device, next_read, next_slot, next_write, order_next, rest, run_of, step_of, step_with, turn_to, written}
use Rattle.ahci_controller.specs.{Reading.shown, States.{ControllerState, kept}, Taking.{CoreHearsIf, Hears}, Wants.dropped, Wide.WritesFitting}
use Rattle.ahci_controller.specs.{Wide.{WritesIf, WritesWide}, Writing.{ClearsIf, Commands, Leaves, ResetsBy, Restarts, WritesGlobal, WritesRegister}}
use Rattle.ahci_controller.specs.{Writing.{clears_busy, fresh_slots, link_effect, link_moved, plain}, declared.{access.Width.Width, feeding.Fed.Fed}}
use Rattle.ahci_controller.specs.declared.{issuing.{NotTaken.NotTaken, Supply.Supply}, next.Next.Next, own.OwnRegisters.OwnRegisters}
use Rattle.ahci_controller.specs.declared.{taking.Took.Took, wants.{Carried.Carried, Wants.Wants}, wide.WideWritten.WideWritten}
use Rattle.ahci_controller.specs.declared.writing.Written.{Written}
use Rattle.ahci_controller.specs.Own as own_words
use Rattle.ahci_controller.specs.declared.next.Next.TheVariants as next
use Rattle.machine_laws.specs.Controllers.{AreDue, IsLength, SaysDue, is_feed_to}

-- ---- what goes next to a device

-- the setup of a device stays, or nothing goes by it
abbrev pub Follows : Option Context → Option Context → Type 0
Follows old new = (new ≡ old) ⊎ (payload new ≡ None)

no_turn : (p : ℕ) (o : Option (ℕ × ℕ × ℕ)) (count : ℕ) → o ≡ None → IsLength (match_some o Rests (feeds p)) count
no_turn p None count is = tt
no_turn p (Some x) count is = cc

follows : (p count : ℕ) (old new : ControllerState) → Follows (context_of old.core.slots p) (context_of new.core.slots p) → IsLength (turn_to old p) count → IsLength (turn_to new p) count
follows p count old new (inl same) h = subst (λ (o : Option Context). IsLength (match_some (payload o) Rests (feeds p)) count) (sym same) h
follows p count old new (inr ends) h = no_turn p (payload (context_of new.core.slots p)) count ends

-- ---- what is wanted

-- what is wanted for a device was wanted before, and as many bytes go next as did
pub record IsAsWas (p n : ℕ) (old new : ControllerState) : Type 0 where
  pub fed : is_fed old.wants p n ≡ true
  pub turn : (count : ℕ) → IsLength (turn_to old p) count → IsLength (turn_to new p) count

abbrev pub Stays : (p n : ℕ) → (old new : ControllerState) → Type 0
Stays p n old new = is_fed new.wants p n ≡ true → IsAsWas p n old new

pub due_stays : (p n count : ℕ) (old new : ControllerState) → Stays p n old new → AreDue old p n count → AreDue new p n count
due_stays p n count old new stays due fed =
    let was : IsAsWas p n old new = stays fed in
    was.turn count (due was.fed)

record IsFedAt (w : Wants) (p n : ℕ) : Type 0 where
  below : p < 16
  bit : has_bit w.feeding p ≡ true
  number : (get_or w.devices p 0 == n) ≡ true

fed_parts : (w : Wants) (p n : ℕ) → is_fed w p n ≡ true → IsFedAt w p n
fed_parts w p n h =
    let both = and_parts (nat_lt p 16 && has_bit w.feeding p) (get_or w.devices p 0 == n) h in
    let first = and_parts (nat_lt p 16) (has_bit w.feeding p) both.0 in
    record { below = ltb-true p 16 first.0; bit = first.1; number = both.1 }

fed_with : (w : Wants) (p n : ℕ) → nat_lt p 16 ≡ true → has_bit w.feeding p ≡ true → (get_or w.devices p 0 == n) ≡ true → is_fed w p n ≡ true
fed_with w p n below bit number = ap (λ (b : Bool). b && has_bit w.feeding p && (get_or w.devices p 0 == n)) below
    ∙ ap (λ (b : Bool). b && (get_or w.devices p 0 == n)) bit ∙ number

pub fed_low : (p : ℕ) (w : Wants) (n : ℕ) → is_fed w p n ≡ true → nat_lt p 16 ≡ true
fed_low p w n h = (and_parts (nat_lt p 16) (has_bit w.feeding p) (and_parts (nat_lt p 16 && has_bit w.feeding p) (get_or w.devices p 0 == n) h).0).0

-- the want is no other, and the device's setup follows
at_wants : (p n : ℕ) (old new : ControllerState) → (has_bit new.wants.feeding p ≡ true → has_bit old.wants.feeding p ≡ true) → get_or new.wants.devices p 0 ≡ get_or old.wants.devices p 0
    → (p < 16 → has_bit new.wants.feeding p ≡ true → Follows (context_of old.core.slots p) (context_of new.core.slots p)) → Stays p n old new
at_wants p n old new bits number goes h =
    let parts : IsFedAt new.wants p n = fed_parts new.wants p n h in
    record {
      fed = fed_with old.wants p n (fed_low p new.wants n h) (bits parts.bit) (ap (λ (k : ℕ). k == n) (sym number) ∙ parts.number);
      turn = λ count. follows p count old new (goes parts.below parts.bit);
    }

by_wants : (p n : ℕ) (old new : ControllerState) → (has_bit new.wants.feeding p ≡ true → has_bit old.wants.feeding p ≡ true) → new.wants.devices ≡ old.wants.devices
    → (p < 16 → has_bit new.wants.feeding p ≡ true → Follows (context_of old.core.slots p) (context_of new.core.slots p)) → Stays p n old new
by_wants p n old new bits devices goes = at_wants p n old new bits (ap (λ (l : List ℕ). get_or l p 0) devices) goes

same_bits : (p : ℕ) (old new : ControllerState) → new.wants.feeding ≡ old.wants.feeding → has_bit new.wants.feeding p ≡ true → has_bit old.wants.feeding p ≡ true
same_bits p old new same h = ap (λ (m : ℕ). has_bit m p) (sym same) ∙ h

-- with the same wants and the same core
calm : (p n : ℕ) (old new : ControllerState) → new.wants.feeding ≡ old.wants.feeding → new.wants.devices ≡ old.wants.devices → new.core ≡ old.core → Stays p n old new
calm p n old new feeding devices core =
    by_wants p n old new (same_bits p old new feeding) devices (λ below bit. inl (ap (λ (c : Port). context_of c.slots p) core))

calm_by : (p n : ℕ) (old base new : ControllerState) → new ≡ base → base.wants.feeding ≡ old.wants.feeding → base.wants.devices ≡ old.wants.devices → base.core ≡ old.core → Stays p n old new
calm_by p n old base new is feeding devices core =
    calm p n old new (ap (λ (c : ControllerState). c.wants.feeding) is ∙ feeding) (ap (λ (c : ControllerState). c.wants.devices) is ∙ devices) (ap (λ (c : ControllerState). c.core) is ∙ core)

pub unmoved : (p n : ℕ) (old new : ControllerState) → new ≡ old → Stays p n old new
unmoved p n old new is = calm_by p n old old new is refl refl refl

-- nothing is wanted any more
no_bits : (p m : ℕ) → m ≡ 0 → has_bit m p ≡ true → ⊥
no_bits p m none h = false≢true (sym (ap (λ (k : ℕ). has_bit k p) none ∙ ap (λ (k : ℕ). k == 1) (bit_at-zero p)) ∙ h)

none : (p n : ℕ) (old new : ControllerState) → new.wants.feeding ≡ 0 → Stays p n old new
none p n old new zero h = absurd (no_bits p new.wants.feeding zero (fed_parts new.wants p n h).bit)

pub after : (p n : ℕ) (old middle new : ControllerState) → Stays p n old middle → Stays p n middle new → Stays p n old new
after p n old middle new first second h =
    let b : IsAsWas p n middle new = second h in
    let a : IsAsWas p n old middle = first b.fed in
    record { fed = a.fed; turn = λ count was. b.turn count (a.turn count was) }

-- ---- bits

one_of : (k : ℕ) → (k == 1) ≡ true → k ≡ 1
one_of k h = eqb-true k 1 h

left_was : (x y k : ℕ) → has_bit (without x y) k ≡ true → has_bit x k ≡ true
left_was x y k h =
    let one = one_of (bit_at (without x y) k) h in
    let both = bit_at_and x (4294967295 - y) k in
    let small = bit_at-lt x k in
    let is : bit_at x k ≡ 1 = omega (arith, one, both, small) in
    ap (λ (n : ℕ). n == 1) is

taken : (x k : ℕ) → k < 32 → has_bit (without x (2 ^ k)) k ≡ true → ⊥
taken x k below h =
    let one = one_of (bit_at (without x (2 ^ k)) k) h in
    let both = bit_at_and x (4294967295 - 2 ^ k) k in
    let turned = bit_at_not w32 (2 ^ k) k (pow_below k 32 below) below in
    let same = bit_at-pow_same k in
    let turned_here : bit_at (4294967295 - 2 ^ k) k ≡ 1 - bit_at (2 ^ k) k = turned in
    omega (arith, one, both, turned_here, same)

or_was : (x p dev : ℕ) → p ≢ dev → has_bit (bit_or x (2 ^ dev)) p ≡ true → has_bit x p ≡ true
or_was x p dev ne h =
    let one = one_of (bit_at (bit_or x (2 ^ dev)) p) h in
    let both = bit_at_or x (2 ^ dev) p in
    let other = bit_at-pow_other dev p ne in
    let small = bit_at-lt x p in
    let is : bit_at x p ≡ 1 = omega (arith, one, both, other, small) in
    ap (λ (n : ℕ). n == 1) is

-- what is wanted for one device is wanted no more, and the setups of the others follow
without_one : (p n dev : ℕ) (old new : ControllerState) → new.wants.feeding ≡ without old.wants.feeding (2 ^ dev) → new.wants.devices ≡ old.wants.devices
    → (p < 16 → p ≢ dev → Follows (context_of old.core.slots p) (context_of new.core.slots p)) → Stays p n old new
without_one p n dev old new feeding devices goes =
    by_wants p n old new (λ h. left_was old.wants.feeding (2 ^ dev) p (here h)) devices (λ below h. goes below (other below h))
  where
    here : has_bit new.wants.feeding p ≡ true → has_bit (without old.wants.feeding (2 ^ dev)) p ≡ true
    here h = ap (λ (m : ℕ). has_bit m p) (sym feeding) ∙ h

    other : p < 16 → has_bit new.wants.feeding p ≡ true → p ≢ dev
    other below h same = taken old.wants.feeding p (omega (arith, below)) (subst (λ (d : ℕ). has_bit (without old.wants.feeding (2 ^ d)) p ≡ true) (sym same) (here h))

-- ---- views

context_in : (p : ℕ) (old new : Port) → view_of p new ≡ view_of p old → Follows (context_of old.slots p) (context_of new.slots p)
context_in p old new same = inl (ap (λ (v : DeviceView). v.slots.context) same)

-- ---- writes of registers

global : (resets : Bool) (value p n : ℕ) (old new : ControllerState) → WritesGlobal resets old value new → Stays p n old new
global true value p n old new h = none p n old new (ap (λ (c : ControllerState). c.wants.feeding) h.rest)
global false value p n old new h = calm_by p n old _ new h refl refl refl

linked : (e : Effect) (value p n : ℕ) (old new : ControllerState) → ResetsBy e (link_moved old value) new → Stays p n old new
linked effect.LinkReset value p n old new h = none p n old new (ap (λ (c : ControllerState). c.wants.feeding) h.rest)
linked other value p n old new h = calm_by p n old _ new h refl refl refl

told_as : (o : Option WriteError) (offer : Offer) (register : port_register.Register) (value p : ℕ) (old new : Port) → view_by register old offer value p ≡ view_of p old → p < 16
    → MatchOption o (AcceptsBy old offer register value new) (λ e. new ≡ old) → Follows (context_of old.slots p) (context_of new.slots p)
told_as None offer register value p old new view below h = context_in p old new (h.views p below ∙ view)
told_as (Some e) offer register value p old new view below h = inl (ap (λ (c : Port). context_of c.slots p) h)

view_is : (offer : Offer) (value p : ℕ) (old : Port) → view_by on_port.Is old offer value p ≡ view_of p old
unfolding view_by
view_is offer value p old = refl

view_serr : (offer : Offer) (value p : ℕ) (old : Port) → view_by on_port.Serr old offer value p ≡ view_of p old
unfolding view_by
view_serr offer value p old = refl

view_sact : (offer : Offer) (value p : ℕ) (old : Port) → view_by on_port.Sact old offer value p ≡ view_of p old
unfolding view_by
view_sact offer value p old = refl

view_sntf : (offer : Offer) (value p : ℕ) (old : Port) → view_by on_port.Sntf old offer value p ≡ view_of p old
unfolding view_by
view_sntf offer value p old = refl

commanded_view : (fall : Bool) (p : ℕ) (old new : Port) → view_of p new ≡ (if fall then fallen_view (view_of p old) else view_of p old) → Follows (context_of old.slots p) (context_of new.slots p)
commanded_view true p old new is = inr (ap (λ (v : DeviceView). payload v.slots.context) is)
commanded_view false p old new is = context_in p old new is

commanded_as : (o : Option WriteError) (value p : ℕ) (old new : Port) → p < 16 → MatchOption o (SetsCmd old value new) (λ e. new ≡ old) → Follows (context_of old.slots p) (context_of new.slots p)
commanded_as None value p old new below h = commanded_view (falls old.registers value) p old new (h.views p below)
commanded_as (Some e) value p old new below h = inl (ap (λ (c : Port). context_of c.slots p) h)

started_as : (fall : Bool) (p n : ℕ) (old new : ControllerState) → new.wants ≡ (if fall then dropped old else old).wants → (p < 16 → Follows (context_of old.core.slots p) (context_of new.core.slots p)) → Stays p n old new
started_as true p n old new wants goes = none p n old new (ap (λ (w : Wants). w.feeding) wants)
started_as false p n old new wants goes =
    by_wants p n old new (same_bits p old new (ap (λ (w : Wants). w.feeding) wants)) (ap (λ (w : Wants). w.devices) wants) (λ below bit. goes below)

starts : (idle : Bool) (own : OwnRegisters) (p n : ℕ) (old new : ControllerState) (ignored : Option WriteError) → Restarts old idle own ignored new → Stays p n old new
starts idle own p n old new ignored h =
    started_as (own_words.falls old.own own old.core.registers new.core.registers) p n old new (ap (λ (c : ControllerState). c.wants) h.rest)
    (λ below. commanded_as (own_refusal_by on_port.Cmd old.core.registers (own_words.engine_of own idle old.core.registers)) (own_words.engine_of own idle old.core.registers) p old.core new.core below h.core)

cleared : (clears : Bool) (p : ℕ) (old new : Port) → ClearsIf clears old new → Follows (context_of old.slots p) (context_of new.slots p)
cleared true p old new h = inl (ap (λ s. context_of s p) h.slots)
cleared false p old new h = inl (ap (λ (c : Port). context_of c.slots p) h)

commands : (value p n : ℕ) (old new : ControllerState) (ignored : Option WriteError) → Commands old value ignored new → Stays p n old new
commands value p n old new ignored h =
    after p n old h.middle new
    (by_wants p n old h.middle (same_bits p old h.middle (ap (λ (c : ControllerState). c.wants.feeding) h.clears.rest)) (ap (λ (c : ControllerState). c.wants.devices) h.clears.rest)
    (λ below bit. cleared (clears_busy old value) p old.core h.middle.core h.clears.core))
    (starts _ _ p n h.middle new ignored h.starts)

asked : (running : Bool) (value p n : ℕ) (old new : ControllerState) → new ≡ (if running then record old { wants = record old.wants { pending = bit_or old.wants.pending (fresh_slots old value) } } else old) → Stays p n old new
asked true value p n old new h = calm_by p n old _ new h refl refl refl
asked false value p n old new h = unmoved p n old new h

told : (register : port_register.Register) (value p n : ℕ) (old base new : ControllerState) → new ≡ base → base.wants ≡ old.wants → base.core ≡ new.core
    → ((offer : Offer) (v q : ℕ) (c : Port) → view_by register c offer v q ≡ view_of q c) → (offer : Offer) → (o : Option WriteError)
    → MatchOption o (AcceptsBy old.core offer register value new.core) (λ e. new.core ≡ old.core) → Stays p n old new
told register value p n old base new is wants core view offer o h =
    let all : new.wants ≡ old.wants = ap (λ (c : ControllerState). c.wants) is ∙ wants in
    by_wants p n old new (same_bits p old new (ap (λ (w : Wants). w.feeding) all)) (ap (λ (w : Wants). w.devices) all)
    (λ below bit. told_as o offer register value p old.core new.core (view offer value p old.core) below h)

register : (r : Register) (value p n : ℕ) (old new : ControllerState) (result : Written) → Leaves r old value result new → Stays p n old new
register ahci.Ghc value p n old new result h = global (line_bits.has_bit value 0) value p n old new h.0
register ahci.Is value p n old new result h = calm_by p n old _ new h.0 refl refl refl
register ahci.PxClb value p n old new result h = calm_by p n old _ new h.0 refl refl refl
register ahci.PxClbu value p n old new result h = calm_by p n old _ new h.0 refl refl refl
register ahci.PxFb value p n old new result h = calm_by p n old _ new h.0 refl refl refl
register ahci.PxFbu value p n old new result h = calm_by p n old _ new h.0 refl refl refl
register ahci.PxIs value p n old new result h = told on_port.Is _ p n old _ new h.0.rest refl refl view_is _ _ h.0.core
register ahci.PxIe value p n old new result h = calm_by p n old _ new h.0 refl refl refl
register ahci.PxCmd value p n old new result h = commands value p n old new result.ignored h.0
register ahci.PxSctl value p n old new result h = linked (link_effect old value) value p n old new h.0
register ahci.PxSerr value p n old new result h = told on_port.Serr _ p n old _ new h.0.rest refl refl view_serr _ _ h.0.core
register ahci.PxSact value p n old new result h = told on_port.Sact _ p n old _ new h.0.rest refl refl view_sact _ _ h.0.core
register ahci.PxCi value p n old new result h = asked old.own.starts value p n old new h.0
register ahci.PxSntf value p n old new result h = told on_port.Sntf _ p n old _ new h.0.rest refl refl view_sntf _ _ h.0.core
register ahci.PxFbs value p n old new result h = none p n old new (ap (λ (c : ControllerState). c.wants.feeding) h.0.rest)
register other value p n old new result h = unmoved p n old new h.0

at_register : (o : Option Register) (value : Register → ℕ) (p n : ℕ) (old new : ControllerState) (result : Written) (nothing : Type 0) → (nothing → new ≡ old) → MatchOption o nothing (λ r. WritesRegister r old (value r) result new) → Stays p n old new
at_register None value p n old new result nothing same h = unmoved p n old new (same h)
at_register (Some r) value p n old new result nothing same h = register r (value r) p n old new (plain result) h.leaves

part : (empty : Bool) (offset value mask p n : ℕ) (old new : ControllerState) (result : Written) → WritesIf empty old offset value mask result new → Stays p n old new
part true offset value mask p n old new result h = unmoved p n old new h.0
part false offset value mask p n old new result h = at_register (register_at offset) (λ r. merged r (shown r old) value mask) p n old new result _ (λ q. q.0) h

wide : (does_fit : Bool) (offset : ℕ) (width : Width) (value p n : ℕ) (old new : ControllerState) (result : WideWritten) → WritesFitting does_fit old offset width value result new → Stays p n old new
wide true offset width value p n old new result h =
    after p n old h.middle new (part _ _ _ _ p n old h.middle result.low h.low) (part _ _ _ _ p n h.middle new result.high h.high)
wide false offset width value p n old new result h = unmoved p n old new h.0.0

pub write_stays : (offset : ℕ) (width : Width) (value p n : ℕ) (old new : ControllerState) (result : WideWritten) → WritesWide old offset width value result new → Stays p n old new
write_stays offset width value p n old new result h = wide (fits_width width offset) offset width value p n old new result h

-- ---- supplies

issues : (o : Option NotTaken) (slot : ℕ) (command : Fetched) (p n : ℕ) (base new : ControllerState) (result : Supply) → MatchOption o (PlacesSlot base slot command result new) (λ reason. RefusesSlot base slot reason result new) → Stays p n base new
issues None slot command p n base new result h =
    by_wants p n base new (same_bits p base new (ap (λ (c : ControllerState). c.wants.feeding) h.rest)) (ap (λ (c : ControllerState). c.wants.devices) h.rest)
    (λ below bit. elim (cases_eq p (device_of command)) [
      | inl same ↦ inl (ap (λ (k : ℕ). context_of new.core.slots k) same ∙ ap (λ (v : DeviceView). v.slots.context) h.core.own ∙ ap (λ (k : ℕ). context_of base.core.slots k) (sym same))
      | inr ne ↦ context_in p base.core new.core (h.core.others p ne)
    ])
issues (Some reason) slot command p n base new result h = calm_by p n base _ new h.rest refl refl refl

goes_on : (slot : ℕ) (came : Supplied) (p n : ℕ) (base new : ControllerState) (result : Supply) → GoesOn base slot came result new → Stays p n base new
goes_on slot (supplied.Refused r) p n base new result h = calm_by p n base _ new h.rest refl refl refl
goes_on slot (supplied.Whole command) p n base new result h = issues (not_issued base.core slot command) slot command p n base new result h
goes_on slot other p n base new result h = calm_by p n base _ new h.0 refl refl refl

-- with other wants of commands
behind : (p n : ℕ) (old base new : ControllerState) → base.wants.feeding ≡ old.wants.feeding → base.wants.devices ≡ old.wants.devices → base.core ≡ old.core → Stays p n base new → Stays p n old new
behind p n old base new feeding devices core h = after p n old base new (calm p n old base feeding devices core) h

supplies : (fit : Bool) (slot : ℕ) (bytes : List ℕ) (p n : ℕ) (old new : ControllerState) (result : Supply) → SuppliesIf fit old slot bytes result new → Stays p n old new
supplies false slot bytes p n old new result h = unmoved p n old new h.0
supplies true slot bytes p n old new result h = behind p n old (without_fetch (answered old slot) slot) new refl refl refl (goes_on slot h.came p n (without_fetch (answered old slot) slot) new result h.goes)

pub supply_stays : (slot number : ℕ) (bytes : List ℕ) (p n : ℕ) (old new : ControllerState) (result : Supply) → AnswersTo old slot number bytes result new → Stays p n old new
supply_stays slot number bytes p n old new result h = supplies (fits old slot number bytes) slot bytes p n old new result h

misses : (out : Bool) (slot p n : ℕ) (old new : ControllerState) (result : Supply) → MissesIf out old slot result new → Stays p n old new
misses false slot p n old new result h = unmoved p n old new h.0
misses true slot p n old new result h = calm_by p n old _ new h.rest refl refl refl

pub miss_stays : (slot number p n : ℕ) (old new : ControllerState) (result : Supply) → Misses old slot number result new → Stays p n old new
miss_stays slot number p n old new result h = misses (is_asked old.wants slot number) slot p n old new result h

-- ---- frames

greets : (o : Option (List ℕ)) (p dev : ℕ) (report : TakeReport) (old new : Port) → p ≢ dev → Greets old dev o report new → Follows (context_of old.slots p) (context_of new.slots p)
greets None p dev report old new ne h = inl (ap (λ (c : Port). context_of c.slots p) h.port)
greets (Some f) p dev report old new ne h = context_in p old new (h.others p ne)

heard : (started : Bool) (frame : List ℕ) (report : TakeReport) (p : ℕ) (old : ControllerState) (new : Port) → p ≢ port_of frame → CoreHearsIf started old frame report new → Follows (context_of old.core.slots p) (context_of new.slots p)
heard true frame report p old new ne h = elim (cases_Bool (ignores (port_of frame) old.core frame)) [
  | inl ignored ↦ inl (ap (λ (c : Port). context_of c.slots p) (h.ignored ignored).port)
  | inr hears ↦ context_in p old.core new ((h.heard hears).others p ne)
]
heard false frame report p old new ne h = greets (greeted_in (view_of (port_of frame) old.core).state (seen frame)) p (port_of frame) report old.core new ne h

pub take_stays : (frame : List ℕ) (took : Took) (p n : ℕ) (old new : ControllerState) → Hears old frame took new → Stays p n old new
take_stays frame took p n old new h =
    without_one p n (port_of frame) old new (ap (λ (c : ControllerState). c.wants.feeding) h.rest) (ap (λ (c : ControllerState). c.wants.devices) h.rest)
    (λ below ne. heard old.core.registers.started frame took.report p old new.core ne h.core)

-- ---- Data for devices

fed_others : (o : Option (ℕ × ℕ × ℕ)) (p dev : ℕ) (old new : Port) → p ≢ dev → Chooses (match_some o Rests (feeds dev)) old new → Follows (context_of old.slots p) (context_of new.slots p)
fed_others None p dev old new ne h = inl (ap (λ (c : Port). context_of c.slots p) h)
fed_others (Some x) p dev old new ne h = context_in p old new (h.others p ne)

sends : (due : Bool) (dev p n : ℕ) (old new : ControllerState) (result : Fed) → SendsIf due (without_feeding old dev) dev result new → Stays p n old new
sends false dev p n old new result h =
    without_one p n dev old new (ap (λ (c : ControllerState). c.wants.feeding) h.0) (ap (λ (c : ControllerState). c.wants.devices) h.0)
    (λ below ne. inl (ap (λ (c : ControllerState). context_of c.core.slots p) h.0))
sends true dev p n old new result h =
    without_one p n dev old new (ap (λ (c : ControllerState). c.wants.feeding) h.rest) (ap (λ (c : ControllerState). c.wants.devices) h.rest)
    (λ below ne. fed_others (payload (context_of old.core.slots dev)) p dev old.core new.core ne h.core)

gathers : (out : Bool) (dev p n : ℕ) (old new : ControllerState) (result : Fed) → GathersIf out old dev result new → Stays p n old new
gathers false dev p n old new result h = unmoved p n old new h.0
gathers true dev p n old new result h = sends (may_feed old.core dev) dev p n old new result h

pub gather_stays : (dev number p n : ℕ) (old new : ControllerState) (result : Fed) → Gathers old dev number result new → Stays p n old new
gather_stays dev number p n old new result h = gathers (is_fed old.wants dev number) dev p n old new result h

lost_by : (dev p n : ℕ) (old base new : ControllerState) → new ≡ base → base.wants ≡ (without_feeding old dev).wants → base.core ≡ old.core → Stays p n old new
lost_by dev p n old base new is wants core =
    let all : new.wants ≡ (without_feeding old dev).wants = ap (λ (c : ControllerState). c.wants) is ∙ wants in
    without_one p n dev old new (ap (λ (w : Wants). w.feeding) all) (ap (λ (w : Wants). w.devices) all)
    (λ below ne. inl (ap (λ (c : Port). context_of c.slots p) (ap (λ (c : ControllerState). c.core) is ∙ core)))

loses : (turn : Turn) (dev p n : ℕ) (old new : ControllerState) (result : Fed) → Loses turn (without_feeding old dev) result new → Stays p n old new
loses (Feeds to slot offset len) dev p n old new result h = lost_by dev p n old _ new h.rest refl refl
loses other dev p n old new result h = lost_by dev p n old _ new h.0 refl refl

loses_if : (due : Bool) (dev p n : ℕ) (old new : ControllerState) (result : Fed) → LosesIf due (without_feeding old dev) dev result new → Stays p n old new
loses_if false dev p n old new result h = lost_by dev p n old _ new h.0 refl refl
loses_if true dev p n old new result h = loses (turn_to (without_feeding old dev) dev) dev p n old new result h

misses_data : (out : Bool) (dev p n : ℕ) (old new : ControllerState) (result : Fed) → MissesDataIf out old dev result new → Stays p n old new
misses_data false dev p n old new result h = unmoved p n old new h.0
misses_data true dev p n old new result h = loses_if (may_feed old.core dev) dev p n old new result h

pub not_there_stays : (dev number p n : ℕ) (old new : ControllerState) (result : Fed) → MissesData old dev number result new → Stays p n old new
not_there_stays dev number p n old new result h = misses_data (is_fed old.wants dev number) dev p n old new result h

-- ---- what is next

-- what goes to the device is the command of a slot: its setup stays, ends, or is that of a command which asks for its Data
sent_kept : (free : Bool) (slot : ℕ) (c : Context) → Follows (Some c) (if free then None else Some c)
sent_kept true slot c = inr refl
sent_kept false slot c = inl refl

sent_free : (slot : ℕ) (o : Option Context) → Follows o (context_unless (is_slot slot) o)
sent_free slot None = inl refl
sent_free slot (Some c) = sent_kept (is_slot slot c.slot) slot c

sent_begun : (dma : Bool) (own : DeviceSlots) (slot : ℕ) (c : Context) → payload (Some c) ≡ None → Follows own.context (if dma then record own { context = Some c } else own).context
sent_begun true own slot c ends = inr ends
sent_begun false own slot c ends = inl refl

sent_issue : (o : Option Issue) (own : DeviceSlots) (slot : ℕ) → Follows own.context (match_some o (with_sent own slot) (λ issue. begun slot issue.work (with_sent own slot))).context
sent_issue None own slot = inl refl
sent_issue (Some i) own slot = sent_begun (is_dma i.work.kind) (with_sent own slot) slot _ refl

sent_as : (control : Bool) (own : DeviceSlots) (slot : ℕ)
    → Follows own.context (if control then freed (is_slot slot) own else match_some (own_issue own slot) (with_sent own slot) (λ issue. begun slot issue.work (with_sent own slot))).context
sent_as true own slot = sent_free slot own.context
sent_as false own slot = sent_issue (own_issue own slot) own slot

ordered : (i : Option Issue) (q : Option Command) (slot p : ℕ) (old new : Port) → Chooses (match_some i Rests (λ issue. match_some q Rests (Orders issue.dev slot))) old new → Follows (context_of old.slots p) (context_of new.slots p)
ordered None q slot p old new h = inl (ap (λ (c : Port). context_of c.slots p) h)
ordered (Some i) None slot p old new h = inl (ap (λ (c : Port). context_of c.slots p) h)
ordered (Some i) (Some command) slot p old new h = elim (cases_eq p i.dev) [
  | inl same ↦ subst (λ (k : ℕ). Follows (context_of old.slots k) (context_of new.slots k)) (sym same)
      (subst (λ (v : DeviceView). Follows (context_of old.slots i.dev) v.slots.context) (sym h.own) (sent_as (holds (λ issue. is_control issue.work.kind) (own_issue (view_of i.dev old).slots slot)) (view_of i.dev old).slots slot))
  | inr ne ↦ context_in p old new (h.others p ne)
]

orders_stays : (slot p n : ℕ) (base new : ControllerState) (result : Next) → OrdersSlot base slot result new → Stays p n base new
orders_stays slot p n base new result h =
    by_wants p n base new (same_bits p base new (ap (λ (c : ControllerState). c.wants.feeding) h.rest)) (ap (λ (c : ControllerState). c.wants.devices) h.rest)
    (λ below bit. ordered (issue_at base.core.slots slot) (last_command base.core.commands slot) slot p base.core new.core h.core)

-- as many bytes stay due to each device as were, but where it says that others are to be gathered: these are due
pub record IsTurned (old : ControllerState) (said : Next) (new : ControllerState) : Type 0 where
  pub keeps : (p n count : ℕ) → is_feed_to p said ≡ false → AreDue old p n count → AreDue new p n count
  pub says : SaysDue new said

quiet : (old new : ControllerState) (said other : Next) → said ≡ other → SaysDue new other → ((p n : ℕ) → Stays p n old new) → IsTurned old said new
quiet old new said other is due stays = record {
  keeps = λ p n count off was. due_stays p n count old new (stays p n) was;
  says = subst (SaysDue new) (sym is) due;
}

turned_from : (old base new : ControllerState) (said : Next) → base.wants ≡ old.wants → base.core ≡ old.core → IsTurned base said new → IsTurned old said new
turned_from old base new said wants core h = record {
  keeps = λ p n count off was. h.keeps p n count off (due_stays p n count old base (calm p n old base (ap (λ (w : Wants). w.feeding) wants) (ap (λ (w : Wants). w.devices) wants) core) was);
  says = h.says;
}

ordered_due : (slot : ℕ) (turn : Turn) (c : ControllerState) → SaysDue c (order_next slot turn)
ordered_due slot Rests c = tt
ordered_due slot other c = tt

orders_turned : (slot : ℕ) (base new : ControllerState) (said : Next) → OrdersSlot base slot said new → IsTurned base said new
orders_turned slot base new said h =
    quiet base new said (order_next slot (orders base.core slot)) h.is (ordered_due slot (orders base.core slot) new) (λ p n. orders_stays slot p n base new said h)

-- bytes are wanted for a device
fed_due : (dev number : ℕ) (turn : Turn) (c : ControllerState) → turn_to c dev ≡ turn → SaysDue c (feed_next dev number turn)
fed_due dev number (Feeds to slot offset len) c is = λ fed. subst (λ (t : Turn). IsLength t len) (sym is) refl
fed_due dev number other c is = tt

fed_here : (dev number count : ℕ) (turn : Turn) → is_feed_to dev (feed_next dev number turn) ≡ false → IsLength turn count
fed_here dev number count (Feeds to slot offset len) off = absurd (false≢true (sym off ∙ eq-eqb dev dev refl))
fed_here dev number count other off = tt

feeds_turned : (dev : ℕ) (base new : ControllerState) (said : Next) → FeedsTo base dev said new → IsTurned base said new
feeds_turned dev base new said h = record {
  keeps = λ p n count off. elim (cases_eq p dev) [
    | inl same ↦ λ was fed. here p same count off
    | inr ne ↦ λ was. due_stays p n count base new (others p n ne) was
  ];
  says = subst (SaysDue new) (sym h.is) (fed_due dev (next_number base.wants) (turn_to base dev) new turn);
}
  where
    core : new.core ≡ base.core
    core = ap (λ (c : ControllerState). c.core) h.rest

    turn : turn_to new dev ≡ turn_to base dev
    turn = ap (λ (c : Port). match_some (payload (context_of c.slots dev)) Rests (feeds dev)) core

    here : (p : ℕ) → p ≡ dev → (count : ℕ) → is_feed_to p said ≡ false → IsLength (turn_to new p) count
    here p same count off =
        let at_dev : is_feed_to dev (feed_next dev (next_number base.wants) (turn_to base dev)) ≡ false = ap (is_feed_to dev) (sym h.is) ∙ ap (λ (k : ℕ). is_feed_to k said) (sym same) ∙ off in
        subst (λ (k : ℕ). IsLength (turn_to new k) count) (sym same) (subst (λ (t : Turn). IsLength t count) (sym turn) (fed_here dev (next_number base.wants) count (turn_to base dev) at_dev))

    others : (p n : ℕ) → p ≢ dev → Stays p n base new
    others p n ne =
        at_wants p n base new (λ bit. or_was base.wants.feeding p dev ne (ap (λ (m : ℕ). has_bit m p) (sym (ap (λ (c : ControllerState). c.wants.feeding) h.rest)) ∙ bit))
        (ap (λ (c : ControllerState). get_or c.wants.devices p 0) h.rest ∙ get_or-set_other base.wants.devices dev p (next_number base.wants) 0 ne)
        (λ below bit. inl (ap (λ (c : Port). context_of c.slots p) core))

rests_turned : (base new : ControllerState) (said : Next) → RestsNow base said new → IsTurned base said new
rests_turned base new said h = quiet base new said next.Nothing h.1 tt (λ p n. unmoved p n base new h.0)

frames_turned : (dev slot : Option ℕ) (alternates : Bool) (base new : ControllerState) (said : Next) → FramesFor dev slot alternates base said new → IsTurned base said new
frames_turned None None alternates base new said h = rests_turned base new said h
frames_turned None (Some slot) alternates base new said h = orders_turned slot base new said h
frames_turned (Some dev) None alternates base new said h = feeds_turned dev base new said h
frames_turned (Some dev) (Some slot) false base new said h = feeds_turned dev base new said h
frames_turned (Some dev) (Some slot) true base new said h = orders_turned slot base new said h

read_turned : (slot : ℕ) (base new : ControllerState) (said : Next) → ReadsSlot base slot said new → IsTurned base said new
read_turned slot base new said h = quiet base new said (next.Read _) h.0 tt (λ p n. calm_by p n base _ new h.1 refl refl refl)

reads_turned : (o : Option ℕ) (base new : ControllerState) (said : Next) → MatchOption o (Frames base said new) (λ slot. ReadsSlot base slot said new) → IsTurned base said new
reads_turned None base new said h = frames_turned (next_device base) (next_slot base) base.circle.fed base new said h
reads_turned (Some slot) base new said h = read_turned slot base new said h

started_turned : (o : Option ℕ) (base new : ControllerState) (said : Next) → MatchOption o (RestsNow base said new) (λ slot. ReadsSlot base slot said new) → IsTurned base said new
started_turned None base new said h = rests_turned base new said h
started_turned (Some slot) base new said h = read_turned slot base new said h

goes_turned : (started : Bool) (base new : ControllerState) (said : Next) → GoesIf started base said new → IsTurned base said new
goes_turned true base new said h = reads_turned (next_read base) base new said h
goes_turned false base new said h =
    let t : IsTurned h.middle said new = started_turned (next_read h.middle) h.middle new said h.reads in
    record {
      keeps = λ p n count off was. t.keeps p n count off (due_stays p n count base h.middle (starts _ _ p n base h.middle h.ignored h.starts) was);
      says = t.says;
    }

halted_turned : (halted : Bool) (base new : ControllerState) (said : Next) → TurnsIf halted base said new → IsTurned base said new
halted_turned true base new said h = rests_turned base new said h
halted_turned false base new said h = goes_turned base.core.registers.started base new said h

-- what is written to the guest are no such bytes
count_due : (c : ControllerState) (o : Option Fetched) (write : Next) → option_map (λ command. next.Counted (count_of command)) o ≡ Some write → SaysDue c write
count_due c None write h = cc
count_due c (Some command) write h = subst (λ (o : Option Next). IfSome o (SaysDue c)) h tt

rest_due : (c d : ControllerState) (posted : Option Move) (counted : Option ℕ) (write : Next) → match_some posted (match_some counted None (count_next d)) (λ m. Some (next.Posted m)) ≡ Some write → SaysDue c write
rest_due c d (Some m) counted write h = subst (λ (o : Option Next). IfSome o (SaysDue c)) h tt
rest_due c d None (Some slot) write h = count_due c (kept d slot) write h
rest_due c d None None write h = cc

run_due : (c d : ControllerState) (w : Carried) (o : Option Move) (write : Next) → match_some (option_map (step_with w) o) (rest d) (λ s. Some (next.Payload s.write)) ≡ Some write → SaysDue c write
run_due c d w None write h = rest_due c d d.writes.posted (counted_slot d.writes) write h
run_due c d w (Some m) write h = subst (λ (o : Option Next). IfSome o (SaysDue c)) h tt

write_due : (c d : ControllerState) (p : Option Carried) (write : Next) → match_some (match_some p None (step_of d)) (rest d) (λ s. Some (next.Payload s.write)) ≡ Some write → SaysDue c write
write_due c d None write h = rest_due c d d.writes.posted (counted_slot d.writes) write h
write_due c d (Some w) write h = run_due c d w (run_of d w) write h

turned_by : (o : Option Next) (old new : ControllerState) (said : Next) → next_write old ≡ o → MatchOption o (TurnsIf (is_halted (written old)) (written old) said new) (λ write. (said ≡ write) × (new ≡ written old)) → IsTurned old said new
turned_by None old new said is h = turned_from old (written old) new said refl refl (halted_turned (is_halted (written old)) (written old) new said h)
turned_by (Some write) old new said is h = quiet old new said write h.0 (write_due new old old.writes.payload write is) (λ p n. calm_by p n old _ new h.1 refl refl refl)

pub turned : (old new : ControllerState) (said : Next) → Turns old said new → IsTurned old said new
turned old new said h = turned_by (next_write old) old new said refl h

-- what is next to be written
pub written_stays : (p n : ℕ) (old new : ControllerState) → new ≡ written old → Stays p n old new
written_stays p n old new is = calm_by p n old _ new is refl refl refl
