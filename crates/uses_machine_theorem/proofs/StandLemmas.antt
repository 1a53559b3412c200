-- What a caller knows of a slot whose bit of PxCI it reads.
use Rattle.std.proofs.Common.{◌≡◌, ℕ, ◌+◌, ◌*◌, ◌/◌, ◌%◌, ◌-◌, ◌<◌, ◌^◌, ◌&&◌, min, Bool, true, false, List, [], ◌∷◌, ◌++◌, Option, Some, None}
use Rattle.std.proofs.{Common.{Result, Ok, Err, refl, sym, ap, subst, ◌∙◌, inl, inr, arith, bit_and}, lemmas.{Bool.{eq-eqb}, Nat.Bits.{bit_at-lt}}}
use Rattle.std.proofs.lemmas.Nat.Bits.{bit_at_and, bit_at_cat_low, bit_at_ones, shr_and_one}
use Rattle.std.specs.{Prelude.{◌==◌, if◌then◌else◌, nat_lt, MatchResult}, Int.bit_at, declared.alloc.AllocError.AllocError}
use Rattle.slots.specs.Slots.{has_bit}
use Rattle.ahci_registers.specs.{Offsets.register_at, declared.register.Register.TheVariants.{PxCi, PxSntf}}
use Rattle.ahci_controller.specs.{Reading.shown, States.ControllerState, Wide.read_wide, declared.access.Width.TheVariants.Dword}
use Rattle.ahci_controller.specs.declared.issuing.Supply.{Supply}
use Rattle.ahci_controller.specs.declared.issuing.Supply.TheVariants as supply
use Rattle.controller_laws.specs.Events as call
use Rattle.controller_laws.specs.Events.{Event}
use Rattle.ahci_machine.specs.{Acts.Steps, Answers.{IsToldBy, SuppliesMachine, told_by}, Registers.{read_machine, shows_device}}
use Rattle.ahci_machine.specs.{States.{HasRules, MachineState}, declared.act.Act.Act}
use Rattle.fan_out.specs.FanOuts.{is_bare}
use Rattle.ahci_machine.specs.declared.{answers.Told.Told, request.Wanted.TheVariants.Command}
use Rattle.ahci_machine.specs.declared.answers.Told.TheVariants as told
use Rattle.machine_laws.specs.{ControllerLaws.RunsRuled, Controllers.deed_calls, Deeds.{Deed, Does, Moved, Supplied}}
use Rattle.machine_theorem.specs.{Commands.is_issue, Standing.{AreIssuing, HasStood, IsShownOver, Stands}}
use Rattle.uses_machine_theorem.specs.{Led.IsLed, Standing.IsStanding}

abbrev Up : ℕ → MachineState → Type 0
Up slot m = has_bit (shown PxCi m.controller) slot ≡ true

module _ (slot : ℕ) (old new : MachineState) (deed : Deed) (rules : HasRules new) (up : Up slot new) where
  -- a run that shows the bit goes on by a deed
  record GoesOn (first : MachineState) (deeds : List Deed) : Type 0 where
    run : RunsRuled first (deeds ++ deed ∷ []) new
    shows : IsShownOver PxCi slot first (deeds ++ deed ∷ []) new run

  goes_on : Does old deed new → (deeds : List Deed) (first : MachineState) (run : RunsRuled first deeds old) → IsShownOver PxCi slot first deeds old run → GoesOn first deeds
  goes_on does [] first run shows =
      record { run = (run.0, (new, subst (λ (m : MachineState). Does m deed new) run.1 does, (rules, refl))); shows = (shows, up) }
  goes_on does (d ∷ later) first run shows =
      let rest = goes_on does later run.1.0 run.1.2 shows.1 in
      record { run = (run.0, (run.1.0, run.1.1, rest.run)); shows = (shows.0, rest.shows) }

  -- and so does one in which a command stands
  record StandsOn (first : MachineState) (deeds : List Deed) : Type 0 where
    run : RunsRuled first (deeds ++ deed ∷ []) new
    since : List Event
    stood : HasStood PxCi slot since first (deeds ++ deed ∷ []) new run

  stands_on : Does old deed new → (deeds : List Deed) (first : MachineState) (run : RunsRuled first deeds old) (since : List Event) → HasStood PxCi slot since first deeds old run → StandsOn first deeds
  stands_on does [] first run since h = absurd h
  stands_on does (d ∷ later) first run since (inl h) =
      let rest = goes_on does later run.1.0 run.1.2 h.shown in
      record {
        run = (run.0, (run.1.0, run.1.1, rest.run));
        since = _;
        stood = inl (record { issued = h.issued; may = tt; shown = rest.shows; calls = refl });
      }
  stands_on does (d ∷ later) first run since (inr h) =
      let rest = stands_on does later run.1.0 run.1.2 since h in
      record { run = (run.0, (run.1.0, run.1.1, rest.run)); since = rest.since; stood = inr rest.stood }

  -- a deed that issues
  record Issues (m : MachineState) : Type 0 where
    does : Does m deed new
    issuing : AreIssuing slot (deed_calls m deed new does)

  begins : Issues old → (deeds : List Deed) (first : MachineState) → RunsRuled first deeds old → StandsOn first deeds
  begins it [] first run =
      let now : Issues first = subst Issues run.1 it in
      record {
        run = (run.0, (new, now.does, (rules, refl)));
        since = _;
        stood = inl (record { issued = now.issuing; may = tt; shown = up; calls = refl });
      }
  begins it (d ∷ later) first run =
      let rest = begins it later run.1.0 run.1.2 in
      record { run = (run.0, (run.1.0, run.1.1, rest.run)); since = rest.since; stood = inr rest.stood }

  standing : (led : IsLed old) → StandsOn led.first led.deeds → IsStanding new slot
  standing led on = record {
    led = record { ports = led.ports; legacy = led.legacy; first = led.first; opens = led.opens; deeds = led.deeds ++ deed ∷ []; run = on.run };
    since = on.since;
    stood = on.stood;
  }

  pub moved : Does old deed new → IsStanding old slot → IsStanding new slot
  moved does was = standing was.led (stands_on does was.led.deeds was.led.first was.led.run was.since was.stood)

  pub issued : (does : Does old deed new) → AreIssuing slot (deed_calls old deed new does) → IsLed old → IsStanding new slot
  issued does issuing led = standing led (begins (record { does = does; issuing = issuing }) led.deeds led.first led.run)

-- ---- what the caller is told

is_issued : (slot : ℕ) (answer : Supply) (k : ℕ) (dev : ℕ) → told_by slot answer ≡ Some (told.Issued k dev) → is_issue answer ≡ true
is_issued slot supply.Stale k dev h = absurd (cc)
is_issued slot supply.More k dev h = absurd (cc)
is_issued slot (supply.Issued x) k dev h = refl
is_issued slot (supply.NotTaken why message line) k dev h = absurd (cc)
is_issued slot supply.OutOfMemory k dev h = absurd (cc)

-- ---- what is read

low_bit : (low high slot : ℕ) → slot < 32 → bit_at (bit_and ((low + high * 2 ^ 32) / 1) (2 ^ 32 - 1)) slot ≡ bit_at low slot
low_bit low high slot below =
    let whole : (low + high * 2 ^ 32) / 1 ≡ high * 2 ^ 32 + low = omega arith in
    let both = bit_at_and ((low + high * 2 ^ 32) / 1) (2 ^ 32 - 1) slot in
    let ones = bit_at_ones 32 slot below in
    let is : bit_at ((low + high * 2 ^ 32) / 1) slot ≡ bit_at low slot = ap (λ (n : ℕ). bit_at n slot) whole ∙ bit_at_cat_low high 32 low slot below in
    let small = bit_at-lt low slot in
    omega (arith, both, ones, is, small)

ci_read : (c : ControllerState) → read_wide c 0x138 Dword ≡ bit_and ((shown PxCi c + shown PxSntf c * 2 ^ 32) / 1) (2 ^ 32 - 1)
unfolding register_at
ci_read c = refl

-- PxCI reads as that of the controller, whatever is at the other end of its link
either : (b : Bool) (n : ℕ) → (if b then n else n) ≡ n
either true n = refl
either false n = refl

machine_read : (m : MachineState) → read_machine m 0x138 Dword ≡ read_wide m.controller 0x138 Dword
machine_read m = either (is_bare m.fan && shows_device m.controller) (read_wide m.controller 0x138 Dword)

pub is_read : (m : MachineState) (slot : ℕ) → slot < 32 → (bit_and (read_machine m 0x138 Dword / 2 ^ slot) 1 == 1) ≡ has_bit (shown PxCi m.controller) slot
is_read m slot below =
    let c = m.controller in
    ap (λ (n : ℕ). n == 1) (shr_and_one (read_machine m 0x138 Dword) slot
    ∙ ap (λ (n : ℕ). bit_at n slot) (machine_read m ∙ ci_read c) ∙ low_bit (shown PxCi c) (shown PxSntf c) slot below)

-- ---- the calls

pub told_issued : (slot number : ℕ) (bytes : List ℕ) (old new : MachineState) (result : Result Told AllocError) (it : Told) → SuppliesMachine (Command slot number) bytes old result new → result ≡ Ok it → (k dev : ℕ) → it ≡ told.Issued k dev → HasRules new → Up slot new
    → IsLed old → IsStanding new slot
told_issued slot number bytes old new result it supplies is k dev issued_is rules up led =
    let answer : Supply = supplies.answer in
    let said : told_by slot answer ≡ Some (told.Issued k dev) = subst (λ (r : Result Told AllocError). IsToldBy slot answer r) (is ∙ ap (λ (t : Told). Ok t) issued_is) supplies.is in
    issued slot old new (Supplied (Command slot number) bytes) rules up (record { answer = result; supplies = supplies })
    (record {
      event = call.Supplied slot number bytes answer;
      is = refl;
      issues = ap (λ (b : Bool). b && is_issue answer) (eq-eqb slot slot refl) ∙ is_issued slot answer k dev said;
    })
    led
