-- For `rested_ports_are_open`. Each turn of the host leaves each port heeded that asks for attention, and so does each way.
use Rattle.std.proofs.Common.{◌≡◌, ℕ, ◌<◌, ◌≤◌, ◌&&◌, Bool, true, false, List, [], ◌∷◌, ◌++◌, refl, sym, ap, subst, ◌∙◌, inl, inr, Some, None, arith}
use Rattle.std.proofs.lemmas.Bool.{cases_Bool, cases_lt, eq-eqb, false≢true, true≢false}
use Rattle.fis_view.specs.{Frames.Stamped, Seen.seen}
use Rattle.host_memory.specs.Memory.{IsHostMemory, Memory}
use Rattle.pm_registers.specs.RegisterMap.{RegisterMap, asks}
use Rattle.multiplier.specs.Arbiter.{control_port}
use Rattle.hba_fbs.specs.{declared.report.TakeReport.TakeReport, Taking.port_of, Views.view_of}
use Rattle.hba_laws.specs.Parts.{DevicePart}
use Rattle.hba_driver.specs.{declared.{order.Order.{Order, TheVariants.{Clear, Scan}}, plan.Plan.Plan}, Drivers.Driver, HostTurns.{Does, Host}}
use Rattle.hba_driver.specs.{HostTurns.{HostTurn, Polled, Pushed, Put, Submitted, Ticked, Took, sight_in}, Sights.file_shown, Slot31.{Anew, Control}}
use Rattle.hba_driver.specs.Slot31.{Goes31, IsAt31, IsIn, IsUnsent, Kept, Looked, Ordered, Resets, Signs, Stage31, Turns31, Waits, control_in}
use Rattle.hba_driver.specs.Slot31.{control_of, has_failed, is_resetting, seen_in}
use Rattle.hba_driver.proofs.Door.{poll_plan, tick_is}
use Rattle.pm_world.specs.Line.{is_register, is_reply}
use Rattle.world_rests.proofs.{ControlFile.{IsCalm, recorded_answer}, Heeded.{AreHeeded, Early, HasBit, IsCleared, IsDue, IsHeeded, IsListed}}
use Rattle.world_rests.proofs.Heeded.{IsNamed, IsNoticed, IsScanned, Notifies, clear_command, heeded_keeps, is_early, scan_command, seen_heeded}
use Rattle.world_rests.proofs.{HeededWays.{heeded_pm, hears_heeded, records_heeded, rises_heeded}, Notified.{control_heard, going_runs, is_noticed}}
use Rattle.world_rests.proofs.{Notified.{orders_scan, pushed_noticed, ticked_noticed, took_noticed, took_notice}, Ordering.seen_asked, Orders.Among}
use Rattle.world_rests.proofs.Saying.{push_coming, push_said, push_same, push_turn, pushed_failed, then31, ticks_waits, took_coming, took_failed}
use Rattle.world_rests.proofs.{Saying.{took_said, took_same, turn_coming, turn_said, view_well, well_was}, Scanned.{IsDriven, scan_ordered}}
use Rattle.world_rests.proofs.{Scanned.scan_waits, Settled.{Notes, Says, Tells}, SetUp.{IsCommand, IsComing, IsSetUp, IsWell, Unsent, asking_of}}
use Rattle.world_rests.proofs.{SetUp.{is_asking, is_ordered, waits_of}, SetWays.heard_by, Summary.asks_same, Turning.took_turn, Ways.{Hears, IsGood}}
use Rattle.world_rests.proofs.Ways.{IsInside, Line, Pushes, Records, Rises as GoesUp, Stays, Takes, Turns, Way}

-- while the multiplier is in software reset the driver has not scanned
reset_early : (s : Stage31) (o : Order) (asked : Bool) (part : DevicePart) → is_resetting s ≡ true → IsIn s o asked part → is_early o ≡ true
reset_early Resets o asked part on (inl is) = ap is_early is.0
reset_early Resets o asked part on (inr is) = ap is_early is.0
reset_early Signs o asked part on (free, inl is) = ap is_early is.0
reset_early Signs o asked part on (free, inr is) = ap is_early is.0
reset_early s o asked part on is = absurd (false≢true on)

-- a scan that is asked for is a command of the same plan
scan_ordered_too : (h k : Host) → control_in k.driver.plan ≡ control_in h.driver.plan → h.driver.plan.order ≡ Scan → h.driver.plan.asked ≡ true → is_ordered k ≡ true
scan_ordered_too h k same scan asked =
    ap (λ (c : Control). is_asking c.order c.asked) same ∙ asking_of h.driver.plan.order h.driver.plan.asked (scan_command h.driver.plan.order h.driver.plan.asked scan asked)

-- ---- a frame that the host takes

module _ (l : Line) (g : IsGood l) (c : IsCalm l) (f : Stamped) (rest : List Stamped) (is : l.up ≡ f ∷ rest) (report : TakeReport) (host : Host) (does : Does l.host (Took f.bytes report) host)
    (t : Turns31 g.stage l.host (Took f.bytes report) host) (h : IsGood (record l { host = host; up = rest })) (e : AreHeeded l) where
  abbrev taken : Line
  taken = record l { host = host; up = rest }

  abbrev slot31 : Control
  slot31 = control_in l.host.driver.plan

  first : Among f l.up
  first = subst (Among f) (sym is) (inl refl)

  -- a notification
  noticed_now : (n : ℕ) → f.stamp.port ≡ control_port → is_reply f ≡ false → IsWell l.host → IsHeeded n slot31 taken
  noticed_now n own none well = by_says (c.up f first own)
    where
      port : port_of f.bytes ≡ 15
      port = c.marks f first does.framed ∙ own

      by_says : Says f.bytes → IsHeeded n slot31 taken
      by_says (Tells viewed busy drq) = absurd (true≢false (sym (ap (λ (b : Bool). b && is_register (seen f.bytes)) (eq-eqb f.stamp.port control_port own) ∙ ap is_register viewed) ∙ none))
      by_says (Notes viewed status names notes) = elim (cases_lt l.host.driver.plan.opened 7) [
        | inl less ↦ Early (ap is_early (e.closed less))
        | inr least ↦ elim (cases_Bool (view_of 15 l.host.port).state.resetting) [
          | inl on ↦ Early (reset_early g.stage l.host.driver.plan.order l.host.driver.plan.asked (control_of l.host) (sym g.at.resetting ∙ on) g.at.is)
          | inr off ↦ IsNoticed (took_notice l.host host f.bytes report does port viewed notes (control_heard l.host f.bytes port (going_runs l.host g.going least) well off))
        ]
      ]

  same : control_in host.driver.plan ≡ slot31
  same = took_same l g c f rest is report host does t h

  takes_heeded : AreHeeded taken
  takes_heeded = record {
    closed = λ less. ap (λ (d : Driver). d.plan.order) does.driver ∙ e.closed (subst (λ (d : Driver). d.plan.opened < 7) does.driver less);
    each = λ well n low asking.
        let was : IsWell l.host = well_was g.stage t.next l.host host g.at t.at (took_failed g.stage t.next l.host host f.bytes report t.is) well in
        subst (λ (x : Control). IsHeeded n x taken) (sym same)
        (heeded_keeps n slot31 l taken (record {
          due = λ d. IsDue d;
          notifies = λ x there own none. by_place n was x own none (subst (Among x) is there);
          noticed = λ on. IsNoticed (took_noticed l.host host f.bytes report does on);
          coming = took_coming l g c f rest is report host does t h;
          said = λ scan asked told. took_said l g c f rest is report host does t h (HasBit n) (scan_ordered_too l.host host same scan asked) told;
        }) (e.each was n low asking));
  }
    where
      by_place : (n : ℕ) → IsWell l.host → (x : Stamped) → x.stamp.port ≡ control_port → is_reply x ≡ false → Among x (f ∷ rest) → IsHeeded n slot31 taken
      by_place n was x own none (inl at) = noticed_now n (ap (λ (y : Stamped). y.stamp.port) at ∙ own) (ap is_reply at ∙ none) was
      by_place n was x own none (inr more) = Notifies x more own none

-- ---- a frame that the host gives

module _ (l : Line) (g : IsGood l) (f : Stamped) (host : Host) (does : Does l.host (Pushed (Some f)) host) (h : IsGood (record l { host = host; down = l.down ++ f ∷ [] })) (e : AreHeeded l) where
  abbrev given : Line
  given = record l { host = host; down = l.down ++ f ∷ [] }

  pushes_heeded : AreHeeded given
  pushes_heeded = record {
    closed = λ less. ap (λ (d : Driver). d.plan.order) does.driver ∙ e.closed (subst (λ (d : Driver). d.plan.opened < 7) does.driver less);
    each = λ well n low asking.
        let turn : Turns31 g.stage l.host (Pushed (Some f)) host = push_turn l g f host does h in
        let was : IsWell l.host = well_was g.stage turn.next l.host host g.at turn.at (pushed_failed g.stage turn.next l.host host f turn.is) well in
        subst (λ (x : Control). IsHeeded n x given) (sym (push_same l g f host does h))
        (heeded_keeps n (control_in l.host.driver.plan) l given (record {
          due = λ d. IsDue d;
          notifies = λ x there own none. Notifies x there own none;
          noticed = λ on. IsNoticed (pushed_noticed l.host host (Some f) does ∙ on);
          coming = push_coming l g f host does h;
          said = λ scan asked told. push_said l g f host does h (HasBit n) (scan_ordered_too l.host host (push_same l g f host does h) scan asked) told;
        }) (e.each was n low asking));
  }

-- ---- a turn without a frame

module _ (l : Line) (g : IsGood l) (t : HostTurn) (inside : IsInside t) (host : Host) (does : Does l.host t host) (h : IsGood (record l { host = host })) where
  abbrev turned : Line
  turned = record l { host = host }

  -- one that leaves slot 31 and PxSNTF
  turn_keeps : (n : ℕ) → control_in host.driver.plan ≡ control_in l.host.driver.plan → is_noticed host ≡ is_noticed l.host → (g.stage ≡ Waits → (then31 l g t inside host does).next ≡ Waits)
      → IsHeeded n (control_in l.host.driver.plan) l → IsHeeded n (control_in host.driver.plan) turned
  turn_keeps n same noticed waits was =
      subst (λ (x : Control). IsHeeded n x turned) (sym same)
      (heeded_keeps n (control_in l.host.driver.plan) l turned (record {
        due = λ d. IsDue d;
        notifies = λ x there own none. Notifies x there own none;
        noticed = λ on. IsNoticed (noticed ∙ on);
        coming = turn_coming l g t inside host does h waits;
        said = λ scan asked told. turn_said l g t inside host does h waits (HasBit n) (scan_ordered_too l.host host same scan asked) told;
      }) was)

  -- one of which the plan stays
  still_heeded : host.driver.plan ≡ l.host.driver.plan → is_noticed host ≡ is_noticed l.host → (then31 l g t inside host does).next ≡ g.stage → AreHeeded l → AreHeeded turned
  still_heeded plan noticed next e = record {
    closed = λ less. ap (λ (p : Plan). p.order) plan ∙ e.closed (subst (λ (p : Plan). p.opened < 7) plan less);
    each = λ well n low asking.
        let was : IsWell l.host = well_was g.stage (then31 l g t inside host does).next l.host host g.at (then31 l g t inside host does).at (λ failed. ap has_failed next ∙ failed) well in
        turn_keeps n (ap control_in plan) noticed (λ w. next ∙ w) (e.each was n low asking);
  }

-- ---- a tick

module _ (l : Line) (g : IsGood l) (acted : Bool) (host : Host) (does : Does l.host (Ticked acted) host) (h : IsGood (record l { host = host })) (e : AreHeeded l) (most : l.pm.registers.ports ≤ 15) where
  abbrev ticked : Line
  ticked = record l { host = host }

  abbrev turn31 : Turns31 g.stage l.host (Ticked acted) host
  turn31 = then31 l g (Ticked acted) tt host does

  -- one that orders no scan
  module _ (other : orders_scan l.host ≡ false) where
    noticed : is_noticed host ≡ is_noticed l.host
    noticed = ticked_noticed l.host acted host does g.going.way.sound other

    -- nothing is asked for
    unasked_heeded : (n : ℕ) (c : Control) → c.asked ≡ false → IsHeeded n c l → IsHeeded n c ticked
    unasked_heeded n c none (Early is) = Early is
    unasked_heeded n c none (IsDue due) = IsDue due
    unasked_heeded n c none (Notifies f there own plain) = Notifies f there own plain
    unasked_heeded n c none (IsNoticed on) = IsNoticed (noticed ∙ on)
    unasked_heeded n c none (IsScanned scan comes) = IsScanned scan (inl none)
    unasked_heeded n c none (IsNamed scan asked said) = absurd (true≢false (sym asked ∙ none))
    unasked_heeded n c none (IsCleared clear comes) = IsCleared clear (inl none)
    unasked_heeded n c none (IsListed k at less bit) = IsListed k at less bit

    -- a command is issued, and is on its way
    ordered_heeded : (n : ℕ) (c : Control) → c.asked ≡ false → (c.order ≡ Scan → IsComing ticked) → (c.order ≡ Clear n → IsComing ticked) → IsHeeded n c l → IsHeeded n (record c { asked = true }) ticked
    ordered_heeded n c none scans clears (Early is) = Early is
    ordered_heeded n c none scans clears (IsDue due) = IsDue due
    ordered_heeded n c none scans clears (Notifies f there own plain) = Notifies f there own plain
    ordered_heeded n c none scans clears (IsNoticed on) = IsNoticed (noticed ∙ on)
    ordered_heeded n c none scans clears (IsScanned scan comes) = IsScanned scan (inr (scans scan))
    ordered_heeded n c none scans clears (IsNamed scan asked said) = absurd (true≢false (sym asked ∙ none))
    ordered_heeded n c none scans clears (IsCleared clear comes) = IsCleared clear (inr (clears clear))
    ordered_heeded n c none scans clears (IsListed k at less bit) = IsListed k at less bit

    command_comes : IsWell host → IsUnsent host.driver.plan.order (control_of host) → IsCommand host.driver.plan.order host.driver.plan.asked → IsComing ticked
    command_comes well unsent k =
        Unsent (subst (λ (s : Stage31). IsAt31 s host) (waits_of turn31.next host.driver.plan.order host.driver.plan.asked (control_of host) k unsent (sym turn31.at.fault ∙ well) turn31.at.is) turn31.at)

    goes_heeded : IsWell host → (n : ℕ) → n < l.pm.registers.ports → asks l.pm.registers n ≡ true → Goes31 l.host host → IsHeeded n (control_in host.driver.plan) ticked
    goes_heeded well n low asking (Kept same view) =
        turn_keeps l g (Ticked acted) tt host does h n same noticed (ticks_waits g.stage turn31.next turn31.is.stays) (e.each (view_well l.host host view well) n low asking)
    goes_heeded well n low asking (Looked same view) =
        let was : IsHeeded n (control_in l.host.driver.plan) l = e.each (view_well l.host host view well) n low asking in
        elim (cases_Bool host.driver.plan.asked) [
          | inl asked ↦
              let kept = seen_asked (sight_in l.host) l.host.driver.plan (ap (λ (c : Control). c.asked) (sym same) ∙ asked) in
              turn_keeps l g (Ticked acted) tt host does h n (same ∙ ap control_in kept) noticed (ticks_waits g.stage turn31.next turn31.is.stays) was
          | inr none ↦
              subst (λ (c : Control). IsHeeded n c ticked) (sym same)
              (unasked_heeded n (seen_in l.host) (ap (λ (c : Control). c.asked) (sym same) ∙ none) (seen_heeded l g n (omega (arith, low, most)) was))
        ]
    goes_heeded well n low asking (Ordered was unasked same unsent) =
        let comes : IsCommand host.driver.plan.order host.driver.plan.asked → IsComing ticked = command_comes well unsent in
        let asked : host.driver.plan.asked ≡ true = ap (λ (c : Control). c.asked) same in
        subst (λ (c : Control). IsHeeded n c ticked) (sym same)
        (ordered_heeded n (seen_in l.host) unasked (λ scan. comes (scan_command host.driver.plan.order host.driver.plan.asked (ap (λ (c : Control). c.order) same ∙ scan) asked))
        (λ clear. comes (clear_command host.driver.plan.order host.driver.plan.asked n (ap (λ (c : Control). c.order) same ∙ clear) asked)) (seen_heeded l g n (omega (arith, low, most)) (e.each was n low asking)))
    goes_heeded well n low asking (Anew order none) = Early (ap is_early order)

  ticks_heeded : (start : Memory) → IsHostMemory start → IsDriven start l.host → AreHeeded ticked
  ticks_heeded start right driven = record {
    closed = λ less. elim (tick_is (sight_in l.host) (file_shown host.port) l.host.driver) [
      | inl first ↦ ap (λ (d : Driver). d.plan.order) does.driver ∙ ap (λ (p : Plan). p.order) first.plan_is ∙ e.closed first.less
      | inr going ↦
          let opened : host.driver.plan.opened ≡ l.host.driver.plan.opened = ap (λ (d : Driver). d.plan.opened) does.driver ∙ going.opened_is in
          let least : 7 ≤ l.host.driver.plan.opened = going.least in
          absurd (omega (arith, less, opened, least))
    ];
    each = λ well n low asking. elim (cases_Bool (orders_scan l.host)) [
      | inl on ↦ IsScanned (scan_ordered l.host g.going acted host does on) (inr (Unsent (scan_waits l.host g.going acted host does on start right driven turn31.next turn31.at well)))
      | inr other ↦ goes_heeded other well n low asking turn31.is.goes
    ];
  }

-- ---- each way

module _ (start : Memory) (right : IsHostMemory start) (l : Line) (g : IsGood l) (driven : IsDriven start l.host) (e : AreHeeded l) (most : l.pm.registers.ports ≤ 15) where
  turns_heeded : (t : HostTurn) (inside : IsInside t) (host : Host) (does : Does l.host t host) → IsGood (record l { host = host }) → AreHeeded (record l { host = host })
  turns_heeded (Pushed None) inside host does h =
      still_heeded l g (Pushed None) inside host does h (ap (λ (d : Driver). d.plan) does.driver) (pushed_noticed l.host host None does) (then31 l g (Pushed None) inside host does).is e
  turns_heeded (Ticked acted) inside host does h = ticks_heeded l g acted host does h e most start right driven
  turns_heeded (Submitted dev request ticket) inside host does h =
      still_heeded l g (Submitted dev request ticket) inside host does h (ap (λ (d : Driver). d.plan) does.taken.driver) (ap (λ p. is_noticed (record l.host { port = p })) does.port)
      (then31 l g (Submitted dev request ticket) inside host does).is e
  turns_heeded (Polled completion) inside host does h =
      still_heeded l g (Polled completion) inside host does h (ap (λ (d : Driver). d.plan) does.driver ∙ poll_plan l.host.driver) (ap (λ p. is_noticed (record l.host { port = p })) does.port)
      (then31 l g (Polled completion) inside host does).is e
  turns_heeded (Put at bytes) inside host does h =
      still_heeded l g (Put at bytes) inside host does h (ap (λ (d : Driver). d.plan) does.driver) (ap (λ p. is_noticed (record l.host { port = p })) does.port) (then31 l g (Put at bytes) inside host does).is e
  turns_heeded other inside host does h = absurd inside

  pub keeps_heeded : (ports : ℕ) (m : Line) → IsCalm l → IsSetUp ports l → IsGood m → Way l m → AreHeeded m
  keeps_heeded ports m c u h (Stays pm registers resetting answer is) =
      subst AreHeeded (sym is) (heeded_pm l pm answer (ap (λ (r : RegisterMap). r.ports) registers) (λ well. inr (asks_same l.pm.registers pm.registers registers)) e)
  keeps_heeded ports m c u h (Records n what is) = subst AreHeeded (sym is) (records_heeded ports l n what (recorded_answer l.pm n what) u e)
  keeps_heeded ports m c u h (Hears f rest p pm down rule is) = subst AreHeeded (sym is) (hears_heeded ports l f rest pm down g u e (heard_by l.pm pm f p rule))
  keeps_heeded ports m c u h (GoesUp f pm gave is) = subst AreHeeded (sym is) (rises_heeded l f pm e gave)
  keeps_heeded ports m c u h (Takes f rest report host up does of is) =
      subst AreHeeded (sym is) (takes_heeded l g c f rest up report host does (took_turn l g c f rest up report host does of) (subst IsGood is h) e)
  keeps_heeded ports m c u h (Pushes f host does is) = subst AreHeeded (sym is) (pushes_heeded l g f host does (subst IsGood is h) e)
  keeps_heeded ports m c u h (Turns t inside host does is) = subst AreHeeded (sym is) (turns_heeded t inside host does (subst IsGood is h))
