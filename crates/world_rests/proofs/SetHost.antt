-- For `rested_ports_are_open`. Each turn of the host keeps what the driver has set in the multiplier, or the driver goes on.
use Rattle.std.proofs.Common.{◌≡◌, ◌⊎◌, ℕ, ◌≤◌, ◌&&◌, ◌||◌, Bool, true, false, List, [], ◌∷◌, ◌++◌, refl, sym, ap, subst, ◌∙◌, inl, inr, Some, None}
use Rattle.std.proofs.lemmas.Bool.{cases_Bool, true≢false}
use Rattle.std.specs.Prelude.{not}
use Rattle.fis_view.specs.Frames.{Stamped}
use Rattle.slots.specs.Slots.{has_bit}
use Rattle.pm_control.specs.Requests.{request_in}
use Rattle.multiplier.specs.{Arbiter.control_port, State.{PmState, pm_port}}
use Rattle.hba_fbs.specs.declared.report.TakeReport.{TakeReport}
use Rattle.hba_driver.specs.{declared.order.Order.{Order, TheVariants.CountPorts}, Drivers.Driver, HostTurns.{Does, Host, HostTurn, Polled, Pushed}}
use Rattle.hba_driver.specs.{HostTurns.{Put, Submitted, Ticked, Took, sight_in}, Scans.told_in, Seeing.Sight, Slot31.{Anew, Control, Follows31}}
use Rattle.hba_driver.specs.Slot31.{Goes31, IsAt31, IsFree31, IsIn, Kept, Looked, Ordered, Pushes31, Resets, Signs, Stage31, TicksOn, Turns31, Waits}
use Rattle.hba_driver.specs.Slot31.{control_in, control_of, has_failed, is_off, is_on, is_resetting, seen_in}
use Rattle.hba_driver.proofs.Door.{free_seen, poll_plan, told_seen}
use Rattle.pm_world.specs.{Line.{IsEnd, IsReset, OnLine}, Rules.recorded}
use Rattle.world_rests.proofs.{ControlFile.{IsCalm, among_either, recorded_answer}, Ordering.{Done, Upto, order_wishes, seen_asked, upto_seen, wish}}
use Rattle.world_rests.proofs.Saying.{never_coming, push_coming, push_port, push_said, push_same, push_turn, pushed_failed, said_now, then31}
use Rattle.world_rests.proofs.Saying.{ticks_waits, took_coming, took_failed, took_said, took_same, turn_coming, turn_said, view_well, well_was}
use Rattle.world_rests.proofs.{Setting.keeps_same, Turning.{ends_last, none_last, resets_last, same_reset, took_turn}, Ways.{Hears, IsGood, IsInside}}
use Rattle.world_rests.proofs.{Ways.{Line, Pushes, Records, Rises as GoesUp, Stays, Takes, Turns, Way}, SetUp.{IsCommand, IsComing, IsOfReset}}
use Rattle.world_rests.proofs.SetUp.{IsSaid, IsSet, IsSetUp, IsWell, Unsent, asking_of, command_of, count_asks, done_free, is_asking, is_ordered}
use Rattle.world_rests.proofs.{SetUp.{unasked_by, unsent_by, unsent_none, waits_of}, SetWays.{heard_by, heard_set, recorded_both, rises_set}}
use Rattle.world_rests.proofs.SetWays.{setup_pm, shape_as}

-- ---- what a turn leaves

set_same : (ports : ℕ) (l m : Line) → control_in m.host.driver.plan ≡ control_in l.host.driver.plan → m.pm ≡ l.pm → (IsComing l → IsComing m)
    → (is_ordered m.host ≡ true → IsSaid (λ v. v ≡ ports) l → IsComing m ⊎ IsSaid (λ v. v ≡ ports) m) → IsSet ports l → IsSet ports m
set_same ports l m same pm coming said s =
    let asked : is_ordered m.host ≡ true → is_ordered l.host ≡ true = λ asks. ap (λ (c : Control). is_asking c.order c.asked) (sym same) ∙ asks in
    record {
      upto = subst (λ (c : Control). Upto c.order m.pm.registers c.ports) (sym same) (subst (λ (x : PmState). Upto l.host.driver.plan.order x.registers l.host.driver.plan.ports) (sym pm) s.upto);
      done = λ asks. elim (s.done (asked asks)) [
        | inl c ↦ inl (coming c)
        | inr d ↦ inr (subst (λ (c : Control). Done c.order m.pm.registers) (sym same) (subst (λ (x : PmState). Done l.host.driver.plan.order x.registers) (sym pm) d))
      ];
      told = λ asks counts. elim (s.told (asked asks) (ap (λ (c : Control). c.order) (sym same) ∙ counts)) [ inl c ↦ inl (coming c) | inr d ↦ said asks d ];
    }

-- ---- a frame that the host takes

module _ (ports : ℕ) (l : Line) (g : IsGood l) (c : IsCalm l) (u : IsSetUp ports l) (f : Stamped) (rest : List Stamped) (is : l.up ≡ f ∷ rest) (report : TakeReport) (host : Host) (does : Does l.host (Took f.bytes report) host)
    (t : Turns31 g.stage l.host (Took f.bytes report) host) (h : IsGood (record l { host = host; up = rest })) where
  abbrev taken : Line
  taken = record l { host = host; up = rest }

  took_plan : control_in host.driver.plan ≡ control_in l.host.driver.plan
  took_plan = took_same l g c f rest is report host does t h

  takes_set : IsSetUp ports taken
  takes_set = record {
    shape = u.shape;
    falls = λ x there own asks. u.falls x there own (ap (λ (c : Control). is_asking c.order c.asked) (sym took_plan) ∙ asks) ∙ ap (λ (c : Control). wish c.order) (sym took_plan);
    resets = λ x there own plain. u.resets x there own (ap (λ (c : Control). is_asking c.order c.asked) (sym took_plan) ∙ plain);
    set = λ well.
        set_same ports l taken took_plan refl (took_coming l g c f rest is report host does t h) (took_said l g c f rest is report host does t h (λ v. v ≡ ports))
        (u.set (well_was g.stage t.next l.host host g.at t.at (took_failed g.stage t.next l.host host f.bytes report t.is) well));
  }

-- ---- a frame that the host gives

module _ (ports : ℕ) (l : Line) (g : IsGood l) (u : IsSetUp ports l) (f : Stamped) (host : Host) (does : Does l.host (Pushed (Some f)) host) (h : IsGood (record l { host = host; down = l.down ++ f ∷ [] })) where
  abbrev given : Line
  given = record l { host = host; down = l.down ++ f ∷ [] }

  turn : Turns31 g.stage l.host (Pushed (Some f)) host
  turn = push_turn l g f host does h

  push_plan : control_in host.driver.plan ≡ control_in l.host.driver.plan
  push_plan = push_same l g f host does h

  ordered_same : is_ordered host ≡ is_ordered l.host
  ordered_same = ap (λ (c : Control). is_asking c.order c.asked) push_plan

  port : pm_port f ≡ f.stamp.port
  port = push_port l g f host does h

  line_at : (s : Stage31) → turn.next ≡ s → is_resetting s ≡ true → OnLine s given.down given.pm.answer given.up
  line_at s e on = subst (λ (x : Stage31). OnLine x given.down given.pm.answer given.up) (same_reset h.stage s host h.at (subst (λ (x : Stage31). IsAt31 x host) e turn.at) on) h.line

  module _ (own : f.stamp.port ≡ 15) where
    p : Pushes31 g.stage l.host f turn.next
    p = turn.is.0 own

    to_control : pm_port f ≡ control_port
    to_control = port ∙ own

    its_wish : is_ordered host ≡ true → request_in f.bytes ≡ wish l.host.driver.plan.order
    its_wish asks =
        let k : IsCommand l.host.driver.plan.order l.host.driver.plan.asked = command_of l.host.driver.plan.order l.host.driver.plan.asked (sym ordered_same ∙ asks) in
        ap request_in p.bytes ∙ order_wishes p.unsent.fields p.unsent.command.cfis p.unsent.built l.host.driver.plan.order p.unsent.are k.on k.off

    its_reset : is_ordered host ≡ false → IsOfReset f
    its_reset plain = by_way p.follows
      where
        signs : OnLine Signs given.down given.pm.answer given.up → IsOfReset f
        signs (inl owed) = inr (ends_last IsReset IsEnd l.down f owed.0 to_control)
        signs (inr come) = absurd (none_last l.down f come.0 to_control)

        by_way : Follows31 g.stage l.host.driver.plan.order turn.next → IsOfReset f
        by_way (inl w) = inl (resets_last l.down f (line_at Resets w.2 refl).0 to_control)
        by_way (inr (inl w)) =
            let at : IsIn Waits l.host.driver.plan.order l.host.driver.plan.asked (control_of l.host) = subst (λ (s : Stage31). IsIn s l.host.driver.plan.order l.host.driver.plan.asked (control_of l.host)) w.0 g.at.is in
            absurd (true≢false (sym (asking_of l.host.driver.plan.order l.host.driver.plan.asked (record { asks = at.0; on = w.1; off = at.1 })) ∙ sym ordered_same ∙ plain))
        by_way (inr (inr w)) = signs (line_at Signs w.2 refl)

  pushes_set : IsSetUp ports given
  pushes_set = record {
    shape = u.shape;
    falls = λ x there own asks. elim (among_either x f l.down there) [
      | inl was ↦ u.falls x was own (sym ordered_same ∙ asks) ∙ ap (λ (c : Control). wish c.order) (sym push_plan)
      | inr is ↦ subst (λ (y : Stamped). request_in y.bytes ≡ wish host.driver.plan.order) is (its_wish (sym port ∙ ap pm_port is ∙ own) asks ∙ ap (λ (c : Control). wish c.order) (sym push_plan))
    ];
    resets = λ x there own plain. elim (among_either x f l.down there) [
      | inl was ↦ u.resets x was own (sym ordered_same ∙ plain)
      | inr is ↦ subst IsOfReset is (its_reset (sym port ∙ ap pm_port is ∙ own) plain)
    ];
    set = λ well.
        set_same ports l given push_plan refl (push_coming l g f host does h) (push_said l g f host does h (λ v. v ≡ ports))
        (u.set (well_was g.stage turn.next l.host host g.at turn.at (pushed_failed g.stage turn.next l.host host f turn.is) well));
  }

-- ---- a turn without a frame

module _ (ports : ℕ) (l : Line) (g : IsGood l) (u : IsSetUp ports l) (t : HostTurn) (inside : IsInside t) (host : Host) (does : Does l.host t host) (h : IsGood (record l { host = host })) where
  abbrev turned : Line
  turned = record l { host = host }

  abbrev turn31 : Turns31 g.stage l.host t host
  turn31 = then31 l g t inside host does

  -- what slot 31 has stays
  module _ (same : control_in host.driver.plan ≡ control_in l.host.driver.plan) (waits : g.stage ≡ Waits → turn31.next ≡ Waits) where
    stays_set : (IsWell host → IsWell l.host) → IsSetUp ports turned
    stays_set was = record {
      shape = u.shape;
      falls = λ x there own asks. u.falls x there own (ap (λ (c : Control). is_asking c.order c.asked) (sym same) ∙ asks) ∙ ap (λ (c : Control). wish c.order) (sym same);
      resets = λ x there own plain. u.resets x there own (ap (λ (c : Control). is_asking c.order c.asked) (sym same) ∙ plain);
      set = λ well.
          set_same ports l turned same refl (turn_coming l g t inside host does h waits) (turn_said l g t inside host does h waits (λ v. v ≡ ports)) (u.set (was well));
    }

  -- a turn of which the stage stays
  next_set : control_in host.driver.plan ≡ control_in l.host.driver.plan → turn31.next ≡ g.stage → IsSetUp ports turned
  next_set same next = stays_set same (λ w. next ∙ w) (well_was g.stage turn31.next l.host host g.at turn31.at (λ failed. ap has_failed next ∙ failed))

  -- ---- where nothing is asked any more

  unasked_set : host.driver.plan.asked ≡ false → (IsWell host → Upto host.driver.plan.order l.pm.registers host.driver.plan.ports) → IsSetUp ports turned
  unasked_set none upto =
      let plain : is_ordered host ≡ false = ap (λ (a : Bool). a && not (is_on host.driver.plan.order || is_off host.driver.plan.order)) none in
      record {
        shape = u.shape;
        falls = λ x there own asks. absurd (true≢false (sym asks ∙ plain));
        resets = λ x there own is. unasked_by h.stage host.driver.plan.order host.driver.plan.asked (control_of host) l.down l.pm.answer l.up none h.at.is h.line x there own;
        set = λ well. record { upto = upto well; done = λ asks. absurd (true≢false (sym asks ∙ plain)); told = λ asks counts. absurd (true≢false (sym asks ∙ plain)) };
      }

  -- the driver has looked at what came
  module _ (well : IsWell l.host) where
    abbrev o : Order
    o = l.host.driver.plan.order

    abbrev v : Sight
    v = sight_in l.host

    s : IsSet ports l
    s = u.set well

    module _ (asked : l.host.driver.plan.asked ≡ true) (free : IsFree31 (control_of l.host)) (k : IsCommand o l.host.driver.plan.asked) where
      is_done : Done o l.pm.registers
      is_done = elim (s.done (asking_of o l.host.driver.plan.asked k)) [ inl c ↦ absurd (never_coming l g free k c) | inr d ↦ d ]

      is_told : o ≡ CountPorts → told_in (control_of l.host) ≡ ports
      is_told counts = elim (s.told (asking_of o l.host.driver.plan.asked k) counts) [ inl c ↦ absurd (never_coming l g free k c) | inr d ↦ said_now l g free k (λ v. v ≡ ports) d ]

    most : l.pm.registers.ports ≤ 15
    most = subst (λ (c : ℕ). c ≤ 15) (sym u.shape.ports_are) u.shape.most

    looked : (asked : l.host.driver.plan.asked ≡ true) → has_bit v.issued 31 ≡ false → Done o l.pm.registers × (o ≡ CountPorts → v.answer ≡ l.pm.registers.ports)
    looked asked off =
        let free : IsFree31 (control_of l.host) = free_seen l.host g.going off in (
          done_free o l.pm.registers (λ on other. is_done asked free (record { asks = asked; on = on; off = other })),
          λ counts.
              told_seen l.host g.going g.stage g.at asked
              ∙ is_told asked free (command_of o l.host.driver.plan.asked (count_asks o l.host.driver.plan.asked asked counts)) counts ∙ sym u.shape.ports_are,
        )

    seen_upto : Upto (seen_in l.host).order l.pm.registers (seen_in l.host).ports
    seen_upto = upto_seen v l.host.driver.plan l.pm.registers most s.upto looked

  -- ---- a tick

  module _ (ticks : TicksOn g.stage turn31.next) where
    goes_set : Goes31 l.host host → IsSetUp ports turned
    goes_set (Kept same view) = stays_set same (ticks_waits g.stage turn31.next ticks) (view_well l.host host view)
    goes_set (Looked same view) = elim (cases_Bool host.driver.plan.asked) [
      | inl asked ↦
          let stays = seen_asked (sight_in l.host) l.host.driver.plan (ap (λ (c : Control). c.asked) (sym same) ∙ asked) in
          stays_set (same ∙ ap control_in stays) (ticks_waits g.stage turn31.next ticks) (view_well l.host host view)
      | inr none ↦ unasked_set none (λ well. subst (λ (c : Control). Upto c.order l.pm.registers c.ports) (sym same) (seen_upto (view_well l.host host view well)))
    ]
    goes_set (Ordered was unasked same unsent) =
        let asked : host.driver.plan.asked ≡ true = ap (λ (c : Control). c.asked) same in
        record {
          shape = u.shape;
          falls = λ x there own asks.
              absurd (unsent_none h.stage host.driver.plan.order host.driver.plan.asked (control_of host) l.down l.pm.answer l.up (command_of host.driver.plan.order host.driver.plan.asked asks) unsent h.at.is h.line x there own);
          resets = λ x there own plain. inl (unsent_by h.stage host.driver.plan.order host.driver.plan.asked (control_of host) l.down l.pm.answer l.up unsent h.at.is h.line x there own);
          set = λ well.
              let coming : is_ordered host ≡ true → IsComing turned = λ asks.
              Unsent (subst (λ (x : Stage31). IsAt31 x host) (waits_of turn31.next host.driver.plan.order host.driver.plan.asked (control_of host) (command_of host.driver.plan.order host.driver.plan.asked asks) unsent (sym turn31.at.fault ∙ well) turn31.at.is) turn31.at) in
              record {
                upto = subst (λ (c : Control). Upto c.order l.pm.registers c.ports) (sym same) (seen_upto was);
                done = λ asks. inl (coming asks);
                told = λ asks counts. inl (coming asks);
              };
        }
    goes_set (Anew order none) = unasked_set none (λ well. subst (λ (x : Order). Upto x l.pm.registers host.driver.plan.ports) (sym order) tt)

-- ---- each way

turns_set : (ports : ℕ) (l : Line) (g : IsGood l) (u : IsSetUp ports l) (t : HostTurn) (inside : IsInside t) (host : Host) (does : Does l.host t host) → IsGood (record l { host = host }) → IsSetUp ports (record l { host = host })
turns_set ports l g u (Pushed None) inside host does h =
    next_set ports l g u (Pushed None) inside host does h (ap (λ (d : Driver). control_in d.plan) does.driver) (then31 l g (Pushed None) inside host does).is
turns_set ports l g u (Ticked acted) inside host does h =
    let n = then31 l g (Ticked acted) inside host does in
    goes_set ports l g u (Ticked acted) inside host does h n.is.stays n.is.goes
turns_set ports l g u (Submitted dev request ticket) inside host does h =
    next_set ports l g u (Submitted dev request ticket) inside host does h (ap (λ (d : Driver). control_in d.plan) does.taken.driver) (then31 l g (Submitted dev request ticket) inside host does).is
turns_set ports l g u (Polled completion) inside host does h =
    next_set ports l g u (Polled completion) inside host does h (ap control_in (ap (λ (d : Driver). d.plan) does.driver ∙ poll_plan l.host.driver)) (then31 l g (Polled completion) inside host does).is
turns_set ports l g u (Put at bytes) inside host does h =
    next_set ports l g u (Put at bytes) inside host does h (ap (λ (d : Driver). control_in d.plan) does.driver) (then31 l g (Put at bytes) inside host does).is
turns_set ports l g u other inside host does h = absurd inside

pub keeps_set : (ports : ℕ) (l m : Line) → IsGood l → IsCalm l → IsGood m → Way l m → IsSetUp ports l → IsSetUp ports m
keeps_set ports l m g c h (Stays pm registers resetting answer e) u =
    subst (IsSetUp ports) (sym e) (setup_pm ports l pm (keeps_same l.pm.registers pm.registers registers) answer (shape_as ports l.pm.registers pm.registers registers u.shape) u)
keeps_set ports l m g c h (Records n what e) u =
    let both = recorded_both ports l.pm n what u.shape in
    subst (IsSetUp ports) (sym e) (setup_pm ports l (recorded l.pm n what) both.1 (recorded_answer l.pm n what) both.0 u)
keeps_set ports l m g c h (Hears f rest p pm is rule e) u = subst (IsSetUp ports) (sym e) (heard_set ports l f rest pm is u (heard_by l.pm pm f p rule))
keeps_set ports l m g c h (GoesUp f pm gave e) u = subst (IsSetUp ports) (sym e) (rises_set ports l f pm u gave)
keeps_set ports l m g c h (Takes f rest report host is does of e) u =
    subst (IsSetUp ports) (sym e) (takes_set ports l g c u f rest is report host does (took_turn l g c f rest is report host does of) (subst IsGood e h))
keeps_set ports l m g c h (Pushes f host does e) u = subst (IsSetUp ports) (sym e) (pushes_set ports l g u f host does (subst IsGood e h))
keeps_set ports l m g c h (Turns t inside host does e) u = subst (IsSetUp ports) (sym e) (turns_set ports l g u t inside host does (subst IsGood e h))
