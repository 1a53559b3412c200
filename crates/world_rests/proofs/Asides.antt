-- For `asides_recover`. Over each turn of the host, and so over a run, a request that was set aside is of a device that recovers or is taken to be absent.
use Rattle.std.proofs.Common.{◌≡◌, ℕ, zero, suc, ◌+◌, ◌<◌, Bool, true, false, List, [], get_or, length, replicate, set, refl, sym, ap, subst, ◌∙◌}
use Rattle.std.proofs.{Common.{inl, inr, Option, Some, None, arith}, lemmas.{Bool.{false≢true, true≢false}, List.get_or_past}}
use Rattle.std.specs.Prelude.{◌||◌}
use Rattle.hba_driver.specs.declared.plan.{Device.{Device, TheVariants.{Absent, Ready, Recovering, Starting, Unusable}}, Plan.Plan}
use Rattle.hba_driver.specs.{declared.{request.Request.Request, slot.Phase.{Phase, TheVariants.{Aside, Ended}}}, Between.PollFacts, Drivers.Driver}
use Rattle.hba_driver.specs.{Drivers.{Entry, device_at, has_ended_in, is_aside, is_aside_in, is_issued_in, waits_in}, HostTurns.{Does, Host}}
use Rattle.hba_driver.specs.{HostTurns.{HostTurn, Polled, Pushed, Submitted, Ticked, Took, sight_in}, Sights.file_shown, Submits.after_submit}
use Rattle.hba_driver.specs.Submits.{new_entry, next_slot}
use Rattle.hba_driver.proofs.Door.{freed, poll_facts, set_cases}
use Rattle.pm_world.specs.{Attached.Attached, Line.OneOrderAtATime, Places.new_world, PortsGoOn.PortsGoOn, declared.step.Config.Config}
use Rattle.world_rests.specs.{Ended.{AsidesRecover, EachAsideRecovers, EachHasEnded, IsKnown, MayHaveAside}, Out.NoRequestIsLeft}
use Rattle.world_rests.proofs.{Aside.{HasAside, MayHold, none_some, tick_holds}, Ways.{Hears, IsGood, Line, Pushes, Records, Rises, Stays, Takes}}
use Rattle.world_rests.proofs.Ways.{Turns, Way, good, kept_by, line_of}

abbrev Holds : ℕ → Driver → Type 0
Holds n d = HasAside n d.entries → MayHold n d.plan

module _ (n : ℕ) (low : n < 15) (old : Host) (long : length old.driver.plan.devices ≡ 15) (h : Holds n old.driver) where
  ticks : (ticked : Bool) (new : Host) → Does old (Ticked ticked) new → Holds n new.driver
  ticks ticked new does = subst (Holds n) (sym does.driver) (tick_holds n low (sight_in old) (file_shown new.port) old.driver long h)

  submit_holds : (dev : ℕ) (request : Request) → Holds n (after_submit old.driver dev request)
  submit_holds dev request a = elim (set_cases old.driver.entries (next_slot old.driver) (Some (new_entry (old.driver.given + 1) dev request)) a.slot a.entry a.stands) [
    | inl at ↦
        let one : new_entry (old.driver.given + 1) dev request ≡ a.entry = cc at.1 in
        absurd (false≢true (ap (λ (e : Entry). is_aside e.head) one ∙ a.aside))
    | inr beside ↦ h (record { slot = a.slot; entry = a.entry; stands = beside.1; of_dev = a.of_dev; aside = a.aside })
  ]

  poll_holds : (place : ℕ) → Holds n (record old.driver { entries = set old.driver.entries place None })
  poll_holds place a = elim (set_cases old.driver.entries place None a.slot a.entry a.stands) [
    | inl at ↦ none_some a.entry at.1
    | inr beside ↦ h (record { slot = a.slot; entry = a.entry; stands = beside.1; of_dev = a.of_dev; aside = a.aside })
  ]

  turn_keeps : (t : HostTurn) (new : Host) → Does old t new → Holds n new.driver
  turn_keeps (Ticked a) new does = ticks a new does
  turn_keeps (Submitted dev request ticket) new does = subst (Holds n) (sym does.taken.driver) (submit_holds dev request)
  turn_keeps (Polled c) new does =
      let f : PollFacts old.driver c = poll_facts old.driver c does.polled in
      subst (Holds n) (sym (does.driver ∙ freed old.driver c f)) (poll_holds f.place)
  turn_keeps other new does = subst (Holds n) (sym does.driver) h

-- ---- a run

abbrev EachHolds : Line → Type 0
EachHolds l = (n : ℕ) → n < 15 → Holds n l.host.driver

keeps_holds : (l m : Line) → IsGood l → IsGood m → Way l m → EachHolds l → EachHolds m
keeps_holds l m g k (Stays pm registers resetting answer e) h = subst EachHolds (sym e) h
keeps_holds l m g k (Records n what e) h = subst EachHolds (sym e) h
keeps_holds l m g k (Hears f rest p pm is rule e) h = subst EachHolds (sym e) h
keeps_holds l m g k (Rises f pm gave e) h = subst EachHolds (sym e) h
keeps_holds l m g k (Takes f rest report host is does of e) h =
    subst EachHolds (sym e) (λ n low. turn_keeps n low l.host g.going.way.served.bounded.devices (h n low) (Took f.bytes report) host does)
keeps_holds l m g k (Pushes f host does e) h =
    subst EachHolds (sym e) (λ n low. turn_keeps n low l.host g.going.way.served.bounded.devices (h n low) (Pushed (Some f)) host does)
keeps_holds l m g k (Turns t inside host does e) h =
    subst EachHolds (sym e) (λ n low. turn_keeps n low l.host g.going.way.served.bounded.devices (h n low) t host does)

abbrev no_entry : Option Entry
no_entry = None

none_at : (k s : ℕ) → get_or (replicate k no_entry) s None ≡ None
none_at zero s = get_or_past [] s no_entry (omega arith)
none_at (suc k) zero = refl
none_at (suc k) (suc s) = none_at k s

opening_holds : (config : Config) (units : List Attached) → EachHolds (line_of (new_world config units))
opening_holds config units n low a = none_some a.entry (sym (none_at 30 a.slot) ∙ a.stands)

may_have : (n : ℕ) (plan : Plan) → MayHold n plan → MayHaveAside (device_at plan n)
may_have n plan h = elim h.device [ inl on ↦ subst MayHaveAside (sym on.1) tt | inr gone ↦ subst MayHaveAside (sym gone.absent) tt ]

pub asides_recover : OneOrderAtATime → PortsGoOn → AsidesRecover
asides_recover lines ports config units fits steps answers now run slot e stands aside =
    let g : IsGood (line_of now) = good lines ports config units fits steps answers now run in
    let low : e.head.dev < 15 = (g.going.way.served.bounded.entries slot e stands).dev in
    may_have e.head.dev now.host.driver.plan
    (kept_by lines ports config units fits EachHolds keeps_holds (opening_holds config units) steps answers now run e.head.dev low
    (record { slot = slot; entry = e; stands = stands; of_dev = refl; aside = aside }))

-- ---- a device of which no request waits or is issued

ended_of : (p : Phase) → (waits_in p || is_issued_in p) ≡ false → (is_aside_in p ≡ true → ⊥) → has_ended_in p ≡ true
ended_of (Ended outcome) none aside = refl
ended_of Aside none aside = absurd (aside refl)
ended_of other none aside = absurd (true≢false none)

known_not : (d : Device) → IsKnown d → MayHaveAside d → ⊥
known_not Starting is may = may
known_not Ready is may = may
known_not Unusable is may = may
known_not Absent is may = is
known_not (Recovering way) is may = is

pub each_has_ended : (n : ℕ) (h : Host) → EachAsideRecovers h → NoRequestIsLeft n h → IsKnown (device_at h.driver.plan n) → EachHasEnded n h
each_has_ended n h recover left known slot e low stands dev_is =
    ended_of e.head.phase (left slot e low stands dev_is)
    (λ aside. known_not (device_at h.driver.plan n) known (subst (λ (k : ℕ). MayHaveAside (device_at h.driver.plan k)) dev_is (recover slot e stands aside)))
