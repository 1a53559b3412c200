-- For `rested_plans_match`. A device of which the driver has nothing: over each turn of the host, and as its port is cleared.
use Rattle.std.proofs.Common.{◌≡◌, ◌≢◌, ◌⊎◌, ℕ, ◌<◌, Bool, true, false, List, length, refl, sym, ap, subst, ◌∙◌, inl, inr, Some, arith}
use Rattle.std.proofs.lemmas.Bool.{cases_eq, true≢false}
use Rattle.std.specs.Prelude.{if◌then◌else◌, is_some, nat_lt}
use Rattle.fis_view.specs.Frames.{Stamped}
use Rattle.slots.specs.Slots.{has_bit}
use Rattle.multiplier.specs.State.{PmState}
use Rattle.hba_fbs.specs.Views.{view_of}
use Rattle.hba_driver.specs.declared.{mode.Mode.TheVariants.Switching, order.Order.TheVariants.{Clear, Detect}, path.TaskFile.TaskFile}
use Rattle.hba_driver.specs.{declared.plan.{Device.TheVariants.{Absent, Ready, Starting}, Plan.Plan}, Between.{MayClear, MayEnd}, Drivers.Driver}
use Rattle.hba_driver.specs.{Drivers.{Entry, device_at, entry_at, has_ended}, Going.leaves_port, HostTurns.{Does, Host, HostTurn, Ticked, sight_in}}
use Rattle.hba_driver.specs.{Seeing.Sight, Sights.file_shown, Slot31.orders_clear, Steady.{IsCalmAct, IsFlushTick, IsSteady, IsSteadyTurn}}
use Rattle.hba_driver.specs.{Tended.IsUnworked, Ticks.{due, from_reset, recovering}, Turns.{control_seen, early_due, found_there, is_there}}
use Rattle.hba_driver.proofs.Door.{act_clears, cleared_faulty, flush_steady, goes_on, may_end, ticks_serve, turn_steady}
use Rattle.world_rests.proofs.{Frank.NoneFails, Named.NoneOf, Sought.{Cleared, First, Firsts, Kept, Last, Lasts, Leaves, Left, Looks, Makes, Ordered}}
use Rattle.world_rests.proofs.Sought.{Same, Stopped, Told, cleared_is, late_faulty, ordered_device, ordered_order, recovering_other, recovering_there}
use Rattle.world_rests.proofs.{Sought.{seen_looks, seen_path, tick_makes}, Unfaulted.{IsBeside, IsUnfaulted, none_faulty, turn_none}, Ways.IsGood}
use Rattle.world_rests.proofs.Ways.{Line}

-- It is taken to be absent, slot 30 does not work on it, each request of it has ended, it has no fault at the port, and no frame of it comes.
pub record HasNothing (n : ℕ) (l : Line) : Type 0 where
  pub absent : device_at l.host.driver.plan n ≡ Absent
  pub steady : IsSteady n l.host.driver
  pub fault : IsUnfaulted n l.host.port
  pub none : NoneOf n l.up

pub nothing_worked : (n : ℕ) (l : Line) → HasNothing n l → IsUnworked n l.host.driver.plan
nothing_worked n l h p here to = absurd (let wrong : Absent ≡ Starting = sym h.absent ∙ (h.steady.plan.path p here to).1.1 in cc)

pub nothing_open : (n : ℕ) (l : Line) → HasNothing n l → (slot : ℕ) (e : Entry) → entry_at l.host.driver.entries slot ≡ Some e → e.head.dev ≡ n → has_ended e.head ≡ false → ⊥
nothing_open n l h slot e stands dev unended = let wrong : Absent ≡ Ready = sym h.absent ∙ h.steady.requests.ready slot e (record { stands = stands; of_dev = dev; unended = unended }) in cc

-- the multiplier does something, and no frame of the device rises
pub nothing_pm : (n : ℕ) (l : Line) (down : List Stamped) (pm : PmState) (up : List Stamped) → NoneOf n up → HasNothing n l → HasNothing n (record l { down = down; pm = pm; up = up })
nothing_pm n l down pm up none h = record { absent = h.absent; steady = h.steady; fault = h.fault; none = none }

-- a turn of the host that leaves the plan, and takes no frame of the device
pub nothing_turn : (n : ℕ) → n < 15 → (l : Line) → IsGood l → (t : HostTurn) (host : Host) → Does l.host t host → IsBeside n t → IsSteadyTurn n l.host t → host.driver.plan ≡ l.host.driver.plan → (down up : List Stamped)
    → NoneOf n up → HasNothing n l → HasNothing n (record l { host = host; down = down; up = up })
nothing_turn n low l g t host does beside calm plan down up none h = record {
  absent = ap (λ (p : Plan). device_at p n) plan ∙ h.absent;
  steady = (turn_steady n l.host t host does calm h.steady).steady;
  fault = turn_none n (omega (arith, low)) l.host host t g.going.way.sound does beside h.fault;
  none = none;
}

-- ---- a tick

-- What a tick leaves that does not flush the device. Either slot 31 stays, and so does what the device is taken to be, unless a fault of it is cleared. Or
-- the driver looked at what came, and then slot 31 has its order, which may be asked for now.
module _ (n : ℕ) (h : Host) where
  abbrev seen : Plan
  seen = control_seen (sight_in h) h.driver.plan

  abbrev is_calm : Type 0
  is_calm = IsCalmAct n (due (sight_in h) h.driver)

  pub data Moves (r : Plan) : Type 0 where
    Early : r.order ≡ h.driver.plan.order → r.asked ≡ h.driver.plan.asked
        → (n < length h.driver.plan.devices → ((device_at r n ≡ device_at h.driver.plan n) × is_calm) ⊎ ((is_some (view_of n h.port).fault ≡ true) × (device_at r n ≢ Absent))) → Moves r
    Late : r.order ≡ seen.order → (r.asked ≡ seen.asked) ⊎ ((r.asked ≡ true) × (seen.order ≢ Clear n)) → (device_at r n ≡ Absent → device_at seen n ≡ Absent)
        → (device_at seen n ≡ Absent → IsUnworked n seen → device_at r n ≡ Absent) → is_calm → Moves r

pub orders_flush : (n : ℕ) (h : Host) → orders_clear n h ≡ true → IsFlushTick n h
orders_flush n h is = act_clears h.driver.plan.mode n (due (sight_in h) h.driver) is

module _ (n : ℕ) (l : Line) (g : IsGood l) (fails : NoneFails l) (acted : Bool) (host : Host) (does : Does l.host (Ticked acted) host) where
  abbrev v : Sight
  v = sight_in l.host

  abbrev p : Plan
  p = l.host.driver.plan

  abbrev q : Plan
  q = control_seen v p

  abbrev file : TaskFile
  file = file_shown host.port

  abbrev ticked : Line
  ticked = record l { host = host }

  makes : Makes n v file l.host.port p host.driver.plan (IsCalmAct n (due v l.host.driver)) ((a : _) → due v l.host.driver ≡ Some a → leaves_port a) (MayEnd Switching (due v l.host.driver) l.host.port) (orders_clear n l.host)
  makes =
      subst (λ (d : Driver). Makes n v file l.host.port p d.plan (IsCalmAct n (due v l.host.driver)) ((a : _) → due v l.host.driver ≡ Some a → leaves_port a) (MayEnd Switching (due v l.host.driver) l.host.port) (orders_clear n l.host))
      (sym does.driver) (tick_makes n v file l.host.port l.host.driver l.host.driver.plan.mode)

  ends : MayEnd Switching (due v l.host.driver) l.host.port
  ends = may_end l.host g.going.way.sound

  never_stopped : {P : Type 0} → ((((a : _) → due v l.host.driver ≡ Some a → leaves_port a)) → ⊥) → P
  never_stopped stops = absurd (stops (goes_on l.host g.going).ticks)

  -- a fault that is cleared is of a device
  cleared_fault : (dev : ℕ) → MayClear dev l.host.port → is_some (view_of dev l.host.port).fault ≡ true
  cleared_fault dev may = cleared_faulty l.host.port dev g.going.way.sound.ruled may.faulty

  cleared_low : (dev : ℕ) → MayClear dev l.host.port → dev < 15
  cleared_low dev may =
      let below : dev < 16 = may.below in
      let other : dev ≢ 15 = λ same. true≢false (sym (cleared_fault dev may) ∙ ap (λ (k : ℕ). is_some (view_of k l.host.port).fault) same ∙ ap is_some fails.well) in
      omega (arith, below, other)

  pub within : n < 15 → n < length p.devices
  within low = let long : length p.devices ≡ 15 = g.going.way.served.bounded.devices in omega (arith, low, long)

  cleared_plan : (dev : ℕ) → MayClear dev l.host.port → (r : Plan) → r ≡ (if nat_lt dev 15 then recovering dev file p else from_reset p) → r ≡ recovering dev file p
  cleared_plan dev may r is = is ∙ cleared_is n dev file p (cleared_low dev may)

  -- ---- one that does not flush the device

  module _ (none : orders_clear n l.host ≡ false) where
    first_moves : (r : Plan) → Firsts n file l.host.port p r (IsCalmAct n (due v l.host.driver)) ((a : _) → due v l.host.driver ≡ Some a → leaves_port a) (MayEnd Switching (due v l.host.driver) l.host.port) → Moves n l.host r
    first_moves r (Kept order asked device calm) = Early order asked (λ below. inl (device, calm))
    first_moves r (Cleared dev may is calm) =
        let m : MayClear dev l.host.port = may ends in
        let plan : r ≡ recovering dev file p = cleared_plan dev m r is in
        Early (ap (λ (x : Plan). x.order) plan) (ap (λ (x : Plan). x.asked) plan)
        (λ below. elim (cases_eq n dev) [
          | inl same ↦
              inr (
                ap (λ (k : ℕ). is_some (view_of k l.host.port).fault) same ∙ cleared_fault dev m,
                λ absent. recovering_there n dev file p below (sym same) (sym (ap (λ (x : Plan). device_at x n) plan) ∙ absent),
              )
          | inr other ↦ inl (ap (λ (x : Plan). device_at x n) plan ∙ recovering_other n dev file p other, calm other)
        ])
    first_moves r (Stopped stops) = never_stopped stops

    last_moves : (r s : Plan) → Leaves n q s → Lasts n file l.host.port s r (IsCalmAct n (due v l.host.driver)) (orders_clear n l.host) → Moves n l.host r
    last_moves r s k (Left order asked device calm) =
        Late (order ∙ k.order) (inl (asked ∙ k.asked)) (λ absent. k.was (sym device ∙ absent)) (λ absent free. device ∙ k.stays absent free) calm
    last_moves r s k (Ordered is unasked flush calm) =
        let other : s.order ≢ Clear n = λ e. true≢false (sym (flush e) ∙ none) in
        let device : device_at r n ≡ device_at s n = ap (λ (x : Plan). device_at x n) is ∙ ordered_device n s s.order other in
        Late (ap (λ (x : Plan). x.order) is ∙ (ordered_order s s.order).0 ∙ k.order)
        (inr (ap (λ (x : Plan). x.asked) is ∙ (ordered_order s s.order).1, λ e. other (k.order ∙ e)))
        (λ absent. k.was (sym device ∙ absent)) (λ absent free. device ∙ k.stays absent free) (calm other)

    by_makes : (r : Plan) → Makes n v file l.host.port p r (IsCalmAct n (due v l.host.driver)) ((a : _) → due v l.host.driver ≡ Some a → leaves_port a) (MayEnd Switching (due v l.host.driver) l.host.port) (orders_clear n l.host) → Moves n l.host r
    by_makes r (First f) = first_moves r f
    by_makes r (Last s k f nothing) = last_moves r s k f

    pub moves : Moves n l.host host.driver.plan
    moves = by_makes host.driver.plan makes

  -- ---- one that flushes it

  module _ (low : n < 15) (flush : orders_clear n l.host ≡ true) where
    absent_then : device_at host.driver.plan n ≡ Absent
    absent_then = ap (λ (d : Driver). device_at d.plan n) does.driver ∙ ticks_serve.leaves v file l.host.driver n flush

    never_calm : {P : Type 0} → IsCalmAct n (due v l.host.driver) → P
    never_calm calm = absurd (subst (IsCalmAct n) (orders_flush n l.host flush) calm refl)

    flush_late : (r : Plan) → host.driver.plan ≡ r
        → Makes n v file l.host.port p r (IsCalmAct n (due v l.host.driver)) ((a : _) → due v l.host.driver ≡ Some a → leaves_port a) (MayEnd Switching (due v l.host.driver) l.host.port) (orders_clear n l.host)
        → is_some (early_due v p) ≡ false
    flush_late r made (First (Kept order asked device calm)) = never_calm calm
    flush_late r made (First (Cleared dev may is calm)) = elim (cases_eq n dev) [
      | inl same ↦
          let plan : r ≡ recovering dev file p = cleared_plan dev (may ends) r is in
          absurd (recovering_there n dev file p (within low) (sym same) (sym (ap (λ (x : Plan). device_at x n) (made ∙ plan)) ∙ absent_then))
      | inr other ↦ never_calm (calm other)
    ]
    flush_late r made (First (Stopped stops)) = never_stopped stops
    flush_late r made (Last s k f nothing) = nothing

    pub flush_nothing : NoneOf n l.up → HasNothing n ticked
    flush_nothing none = record {
      absent = absent_then;
      steady = (flush_steady n l.host acted host does (orders_flush n l.host flush)).0;
      fault =
          turn_none n (omega (arith, low)) l.host host (Ticked acted) g.going.way.sound does tt
          (none_faulty l.host g.going.way.sound g.going.calm.faultless (late_faulty v p (flush_late host.driver.plan refl makes)) n);
      none = none;
    }

  -- ---- a device of which the driver has nothing

  -- it still has nothing of it, or an answer says that a device is there
  module _ (low : n < 15) (X : Type 0) (there : p.order ≡ Detect n → p.asked ≡ true → has_bit v.issued 31 ≡ false → is_there v.answer ≡ true → X) (other : orders_clear n l.host ≡ false) (h : HasNothing n l) where
    nothing_then : IsCalmAct n (due v l.host.driver) → device_at host.driver.plan n ≡ Absent → HasNothing n ticked
    nothing_then calm absent = record {
      absent = absent;
      steady = (turn_steady n l.host (Ticked acted) host does calm h.steady).steady;
      fault = turn_none n (omega (arith, low)) l.host host (Ticked acted) g.going.way.sound does tt h.fault;
      none = h.none;
    }

    told : (b : Bool) → is_there v.answer ≡ b → p.order ≡ Detect n → p.asked ≡ true → has_bit v.issued 31 ≡ false → device_at q n ≡ (if b then found_there (device_at p n) else Absent) → X ⊎ (device_at q n ≡ Absent)
    told true is order asked off device = inl (there order asked off is)
    told false is order asked off device = inr device

    looks : Looks n v p q → X ⊎ (device_at q n ≡ Absent)
    looks (Same device on) = inr (device ∙ h.absent)
    looks (Told order asked off device) = told (is_there v.answer) refl order asked off device

    by_moves : Moves n l.host host.driver.plan → X ⊎ HasNothing n ticked
    by_moves (Early order asked device) = elim (device (within low)) [
      | inl both ↦ inr (nothing_then both.1 (both.0 ∙ h.absent))
      | inr fault ↦ absurd (true≢false (sym fault.0 ∙ ap is_some h.fault))
    ]
    by_moves (Late order asked was stays calm) = elim (looks (seen_looks n v p (within low))) [
      | inl x ↦ inl x
      | inr absent ↦ inr (nothing_then calm (stays absent (λ path here to. nothing_worked n l h path (sym (seen_path n v p) ∙ here) to)))
    ]

    pub tick_nothing : X ⊎ HasNothing n ticked
    tick_nothing = by_moves (moves other)
