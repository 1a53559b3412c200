-- For `rested_plans_match`. Over a run what the driver takes each device to be goes with what its port shows; and in a world at rest a port
-- shows a device exactly where one is plugged in.
use Rattle.std.proofs.Common.{◌≡◌, ◌≢◌, ◌⊎◌, ℕ, zero, suc, ◌<◌, ◌≤◌, Bool, true, false, List, [], ◌∷◌, ◌++◌, length, replicate, slice_index_or}
use Rattle.std.proofs.{Common.{Option, Some, None, refl, sym, ap, subst, ◌∙◌, inl, inr, arith}, lemmas.Bool.{cases_Bool, false≢true, true≢false}}
use Rattle.std.proofs.lemmas.List.{length-replicate}
use Rattle.std.specs.Prelude.{if◌then◌else◌, is_none, is_some, slice_get}
use Rattle.fis_view.specs.Frames.{Stamped}
use Rattle.port_errors.specs.declared.cause.DeviceCause.{DeviceCause}
use Rattle.pm_control.specs.Answers.{registers_after_request}
use Rattle.pm_ports.specs.Port.{came_refusal, gone_refusal}
use Rattle.pm_registers.specs.{Bits.shares, Port.{is_open, opening_port}, RegisterMap.{RegisterMap, port_at}}
use Rattle.multiplier.specs.{Between.{Answer as Answers, FromPort, Gives, Notice}, Rules.{with_device as connected, without_device}, State.PmState}
use Rattle.multiplier.specs.State.{port_at as connections_at}
use Rattle.hba_driver.specs.declared.{mode.Mode.TheVariants.Switching, order.Order.{Order, TheVariants.{Clear, Detect, Open}}}
use Rattle.hba_driver.specs.{declared.plan.{Device.TheVariants.Absent, Plan.Plan}, Drivers.{Driver, IsPath, device_at}, HostTurns.{Does, Host}}
use Rattle.hba_driver.specs.{HostTurns.{HostTurn, Polled, Pushed, Put, Submitted, Ticked}, Scans.{IsFound, found}, Steady.detects}
use Rattle.hba_driver.proofs.Door.{opens_steady, poll_plan, scans_on}
use Rattle.pm_world.specs.{Attached.Attached, DevicePaths.ReachedAreOrderly, Line.OneOrderAtATime, Places.{Place, Places, is_config, new_world}}
use Rattle.pm_world.specs.{PortsGoOn.PortsGoOn, Rules.{Run, recorded}, Runs.IsReached, declared.{link.Change.Change, step.Answer.Answer}}
use Rattle.pm_world.specs.declared.step.{Config.Config, Step.Step}
use Rattle.pm_world.specs.declared.link.Change.TheVariants as change
use Rattle.world_rests.specs.{Laws.RestedHaveDone, Matches.{IsPlugged, RestedPlansMatch}, Opens.{MultiplierIsSet, RestedPortsAreOpen}}
use Rattle.world_rests.specs.{Rests.PortRests, Watches.RestedDriversWatch}
use Rattle.world_rests.proofs.{Comings.{Of, all, known, known_reached}, ControlFile.{keeps_calm, recorded_answer}, Frank.{IsOfPort, is_well}}
use Rattle.world_rests.proofs.{Frank.keeps_frank, Marks.{AllMarkOn, AreShut, IsShut, all_same, insert_marks, insert_shut, is_marked, marks_same}}
use Rattle.world_rests.proofs.{Marks.{remove_marks, remove_shut, shut_same, wish_shut}, Matching.{IsHeld, IsMatched, clear_sought, detect_low}}
use Rattle.world_rests.proofs.{Matching.{hears_matched, pm_matched, rises_matched}, MatchingHost.{inside_matched, pushes_matched, takes_matched}}
use Rattle.world_rests.proofs.{MatchingHost.{ticks_found, ticks_matched, ticks_sought}, Nothing.{HasNothing, nothing_open, nothing_turn}}
use Rattle.world_rests.proofs.{Nothing.nothing_worked, Ordering.{AreOpen, IsOn, Upto}, Orders.Among, Parts.{get_below, get_there}, Present.shows_all}
use Rattle.world_rests.proofs.{Saying.then31, SetHost.keeps_set, SetUp.{IsCommand, IsOfReset, IsSetUp, command_of, is_ordered}, SetWays.ByControl}
use Rattle.world_rests.proofs.{SetWays.{ByOther, IsHeard, heard_by}, Setting.{IsShape, ShowsIt}, Turning.took_turn, Watched.opening_calm, Ways.Hears}
use Rattle.world_rests.proofs.{Ways.{IsGood, IsInside, Line, Pushes, Records, Rises, Stays, Takes, Turns, Way, good, kept_by, line_of}, Well.well_in}

-- ---- what each way keeps

record IsKept (ports : ℕ) (l : Line) : Type 0 where
  held : IsHeld ports l
  each : (n : ℕ) → n < 15 → IsMatched n l

-- a device comes or goes
record Recorded (m r : RegisterMap) : Type 0 where
  marks : AllMarkOn m r
  shut : AreShut m → AreShut r
  count : r.ports ≡ m.ports

recorded_is : (pm : PmState) (n : ℕ) (c : Change) → Recorded pm.registers (recorded pm n c).registers
recorded_is pm n (change.Came conn) = by_test (is_none (came_refusal (connections_at pm n) conn))
  where
    by_test : (b : Bool) → Recorded pm.registers (if b then connected pm n conn else pm).registers
    by_test true = record { marks = insert_marks pm.registers n; shut = insert_shut pm.registers n; count = refl }
    by_test false = record { marks = all_same pm.registers pm.registers refl; shut = λ h. h; count = refl }
recorded_is pm n (change.Gone conn) = by_test (is_none (gone_refusal (connections_at pm n) conn))
  where
    by_test : (b : Bool) → Recorded pm.registers (if b then without_device pm n conn else pm).registers
    by_test true = record { marks = remove_marks pm.registers n; shut = remove_shut pm.registers n; count = refl }
    by_test false = record { marks = all_same pm.registers pm.registers refl; shut = λ h. h; count = refl }

module _ (ports : ℕ) (l : Line) (held : IsHeld ports l) where
  -- a frame that the multiplier takes
  heard_shut : (f : Stamped) (rest : List Stamped) (pm : PmState) → l.down ≡ f ∷ rest → IsHeard l.pm pm f → AreShut pm.registers
  heard_shut f rest pm is (ByOther other answer same) = subst AreShut (sym same) held.shut
  heard_shut f rest pm is (ByControl own answers after_is) = elim (cases_Bool (is_ordered l.host)) [
    | inl ordered ↦ subst AreShut (sym (after_is ∙ ap (registers_after_request l.pm.registers) (held.set.falls f first own ordered))) (wish_shut l.pm.registers l.host.driver.plan.order held.shut)
    | inr plain ↦ subst AreShut (sym (reset_same (held.set.resets f first own plain))) held.shut
  ]
    where
      first : Among f l.down
      first = subst (Among f) (sym is) (inl refl)

      reset_same : IsOfReset f → pm.registers ≡ l.pm.registers
      reset_same (inl reset) = after_is ∙ ap (registers_after_request l.pm.registers) reset
      reset_same (inr end) = after_is ∙ ap (registers_after_request l.pm.registers) end

  heard_count : (m : Line) → IsSetUp ports m → m.pm.registers.ports ≡ l.pm.registers.ports
  heard_count m set = set.shape.ports_are ∙ sym held.set.shape.ports_are

  -- the port of an order exists
  order_port : is_ordered l.host ≡ true → (most : l.pm.registers.ports ≤ 15) → IsOfPort l.pm.registers most l.host.driver.plan.order
  order_port ordered most = by_order l.host.driver.plan.order refl
    where
      command : IsCommand l.host.driver.plan.order l.host.driver.plan.asked
      command = command_of l.host.driver.plan.order l.host.driver.plan.asked ordered

      by_order : (o : Order) → l.host.driver.plan.order ≡ o → IsOfPort l.pm.registers most o
      by_order (Open k) at =
          let u : IsOn l.pm.registers l.host.driver.plan.ports × AreOpen k l.pm.registers × (k < l.host.driver.plan.ports) =
          subst (λ (o : Order). Upto o l.pm.registers l.host.driver.plan.ports) at (held.set.set (is_well l held.fails)).upto in
          subst (λ (c : ℕ). k < c) u.0.counted u.2
      by_order (Clear k) at = held.sought k (clear_sought l.host.driver.plan.order l.host.driver.plan.asked k at command.asks)
      by_order (Detect k) at = detect_low ports l held k at
      by_order o at = tt

given_bank : (l : Line) (f : Stamped) (pm : PmState) → Gives l.pm f pm → pm.registers.bank ≡ l.pm.registers.bank
given_bank l f pm (FromPort k was next other is port shown e) = ap (λ (x : PmState). x.registers.bank) e
given_bank l f pm (Notice next due is e) = ap (λ (x : PmState). x.registers.bank) e
given_bank l f pm (Answers next is e) = ap (λ (x : PmState). x.registers.bank) e

-- what is held where it is known that the registers stay in shape, and that what is sought are ports
held_by : (ports : ℕ) (l m : Line) → IsGood l → IsGood m → Way l m → IsHeld ports l → AreShut m.pm.registers → IsFound m.host.driver.plan
    → ((n : ℕ) → detects n m.host.driver.plan.asked m.host.driver.plan.order ≡ true → n < l.pm.registers.ports) → IsHeld ports m
held_by ports l m g k way held shut found_is sought =
    let set : IsSetUp ports m = keeps_set ports l m g held.calm k way held.set in
    record {
      calm = keeps_calm l m g k way held.calm;
      set = set;
      fails = keeps_frank ports l m g held.calm held.set (order_port ports l held) way held.fails;
      shut = shut;
      found_is = found_is;
      sought = λ n on. subst (λ (c : ℕ). n < c) (sym (heard_count ports l held m set)) (sought n on);
    }

-- ---- the turns of the host

module _ (ports : ℕ) (l : Line) (g : IsGood l) (kept : IsKept ports l) where
  abbrev held : IsHeld ports l
  held = kept.held

  same_found : (p : Plan) → p ≡ l.host.driver.plan → IsFound p
  same_found p same = subst IsFound (sym same) held.found_is

  same_sought : (p : Plan) → p ≡ l.host.driver.plan → (n : ℕ) → detects n p.asked p.order ≡ true → n < l.pm.registers.ports
  same_sought p same n on = held.sought n (ap (λ (x : Plan). detects n x.asked x.order) (sym same) ∙ on)

  -- one that leaves the plan
  plain_turn : (t : HostTurn) (inside : IsInside t) (host : Host) (does : Does l.host t host) → IsGood (record l { host = host }) → (then31 l g t inside host does).next ≡ g.stage → host.driver.plan ≡ l.host.driver.plan
      → ((n : ℕ) → n < 15 → found n l.host ≡ false → found n host ≡ true → ⊥)
      → ((n : ℕ) → n < 15 → HasNothing n l → HasNothing n (record l { host = host }))
      → IsKept ports (record l { host = host })
  plain_turn t inside host does k stage plan scans nothing = record {
    held = held_by ports l (record l { host = host }) g k (Turns t inside host does refl) held held.shut (same_found host.driver.plan plan) (same_sought host.driver.plan plan);
    each = λ n low. inside_matched ports n low l g held t inside host does k (kept.each n low) stage plan (scans n low) (nothing n low);
  }

  turns_kept : (t : HostTurn) (inside : IsInside t) (host : Host) (does : Does l.host t host) → IsGood (record l { host = host }) → IsKept ports (record l { host = host })
  turns_kept (Pushed None) inside host does k =
      let turn = then31 l g (Pushed None) inside host does in
      plain_turn (Pushed None) inside host does k turn.is (ap (λ (d : Driver). d.plan) does.driver)
      (λ n low none now. (scans_on n low g.stage turn.next l.host (Pushed None) host does g.going k.going g.at turn.at turn.is held.found_is).0.begins none now)
      (λ n low none. nothing_turn n low l g (Pushed None) host does tt tt (ap (λ (d : Driver). d.plan) does.driver) l.down l.up none.none none)
  turns_kept (Ticked acted) inside host does k = record {
    held =
        held_by ports l (record l { host = host }) g k (Turns (Ticked acted) inside host does refl) held held.shut (ticks_found ports l g held acted host does k) (ticks_sought ports l g held acted host does k kept.each);
    each = λ n low. ticks_matched ports l g held acted host does k n low (kept.each n low);
  }
  turns_kept (Submitted dev request ticket) inside host does k =
      let turn = then31 l g (Submitted dev request ticket) inside host does in
      let plan : host.driver.plan ≡ l.host.driver.plan = ap (λ (d : Driver). d.plan) does.taken.driver in
      plain_turn (Submitted dev request ticket) inside host does k turn.is plan
      (λ n low none now. (scans_on n low g.stage turn.next l.host (Submitted dev request ticket) host does g.going k.going g.at turn.at turn.is held.found_is).0.begins none now)
      (λ n low none. nothing_turn n low l g (Submitted dev request ticket) host does tt tt plan l.down l.up none.none none)
  turns_kept (Polled c) inside host does k =
      let turn = then31 l g (Polled c) inside host does in
      let plan : host.driver.plan ≡ l.host.driver.plan = ap (λ (d : Driver). d.plan) does.driver ∙ poll_plan l.host.driver in
      plain_turn (Polled c) inside host does k turn.is plan (λ n low none now. (scans_on n low g.stage turn.next l.host (Polled c) host does g.going k.going g.at turn.at turn.is held.found_is).0.begins none now)
      (λ n low none. nothing_turn n low l g (Polled c) host does tt tt plan l.down l.up none.none none)
  turns_kept (Put at bytes) inside host does k =
      let turn = then31 l g (Put at bytes) inside host does in
      plain_turn (Put at bytes) inside host does k turn.is (ap (λ (d : Driver). d.plan) does.driver)
      (λ n low none now. (scans_on n low g.stage turn.next l.host (Put at bytes) host does g.going k.going g.at turn.at turn.is held.found_is).0.begins none now)
      (λ n low none. nothing_turn n low l g (Put at bytes) host does tt tt (ap (λ (d : Driver). d.plan) does.driver) l.down l.up none.none none)
  turns_kept other inside host does k = absurd inside

-- ---- each way

keeps : (ports : ℕ) (l m : Line) → IsGood l → IsGood m → Way l m → IsKept ports l → IsKept ports m
keeps ports l m g k (Stays pm registers resetting answer e) kept = subst (IsKept ports) (sym e) (record {
  held =
      held_by ports l (record l { pm = pm }) g (subst IsGood e k) (Stays pm registers resetting answer refl) kept.held (subst AreShut (sym registers) kept.held.shut) kept.held.found_is kept.held.sought;
  each = λ n low.
      pm_matched ports n l kept.held pm (marks_same (port_at l.pm.registers n) (port_at pm.registers n) (ap (λ (r : RegisterMap). port_at r n) registers)) (ap (λ (r : RegisterMap). r.ports) registers) answer (kept.each n low);
})
keeps ports l m g k (Records n c e) kept =
    let r : Recorded l.pm.registers (recorded l.pm n c).registers = recorded_is l.pm n c in
    subst (IsKept ports) (sym e) (record {
      held = held_by ports l (record l { pm = recorded l.pm n c }) g (subst IsGood e k) (Records n c refl) kept.held (r.shut kept.held.shut) kept.held.found_is kept.held.sought;
      each = λ j low. pm_matched ports j l kept.held (recorded l.pm n c) (r.marks j) r.count (recorded_answer l.pm n c) (kept.each j low);
    })
keeps ports l m g k (Hears f rest p pm is rule e) kept = subst (IsKept ports) (sym e) (record {
  held =
      held_by ports l (record l { down = rest; pm = pm }) g (subst IsGood e k) (Hears f rest p pm is rule refl) kept.held (heard_shut ports l kept.held f rest pm is (heard_by l.pm pm f p rule)) kept.held.found_is kept.held.sought;
  each = λ n low. hears_matched ports n low l g kept.held f rest pm is (kept.each n low) (heard_by l.pm pm f p rule);
})
keeps ports l m g k (Rises f pm gave e) kept = subst (IsKept ports) (sym e) (record {
  held =
      held_by ports l (record l { pm = pm; up = l.up ++ f ∷ [] }) g (subst IsGood e k) (Rises f pm gave refl) kept.held (shut_same l.pm.registers pm.registers (given_bank l f pm gave) kept.held.shut) kept.held.found_is kept.held.sought;
  each = λ n low. rises_matched ports n low l kept.held f pm (kept.each n low) gave;
})
keeps ports l m g k (Takes f rest report host is does of e) kept =
    let h : IsGood (record l { host = host; up = rest }) = subst IsGood e k in
    let t = took_turn l g kept.held.calm f rest is report host does of in
    let plan : host.driver.plan ≡ l.host.driver.plan = ap (λ (d : Driver). d.plan) does.driver in
    subst (IsKept ports) (sym e) (record {
      held =
          held_by ports l (record l { host = host; up = rest }) g h (Takes f rest report host is does of refl) kept.held kept.held.shut (same_found ports l g kept host.driver.plan plan) (same_sought ports l g kept host.driver.plan plan);
      each = λ n low. takes_matched ports n low l g kept.held f rest is report host does t h (kept.each n low);
    })
keeps ports l m g k (Pushes f host does e) kept =
    let h : IsGood (record l { host = host; down = l.down ++ f ∷ [] }) = subst IsGood e k in
    let plan : host.driver.plan ≡ l.host.driver.plan = ap (λ (d : Driver). d.plan) does.driver in
    subst (IsKept ports) (sym e) (record {
      held =
          held_by ports l (record l { host = host; down = l.down ++ f ∷ [] }) g h (Pushes f host does refl) kept.held kept.held.shut (same_found ports l g kept host.driver.plan plan) (same_sought ports l g kept host.driver.plan plan);
      each = λ n low. pushes_matched ports n low l g kept.held f host does h (kept.each n low);
    })
keeps ports l m g k (Turns t inside host does e) kept = subst (IsKept ports) (sym e) (turns_kept ports l g kept t inside host does (subst IsGood e k))

-- ---- a new world

replicate_at : {A : Type 0} (k : ℕ) (d : A) (n : ℕ) → slice_index_or (replicate k d) n d ≡ d
replicate_at zero d n = refl
replicate_at (suc k) d zero = refl
replicate_at (suc k) d (suc n) = replicate_at k d n

module _ (config : Config) (units : List Attached) (fits : is_config config (length units) ≡ true) where
  abbrev opening : Line
  opening = line_of (new_world config units)

  port_is : (n : ℕ) → port_at opening.pm.registers n ≡ opening_port
  port_is n = replicate_at 15 opening_port n

  opening_shape : IsShape config.ports opening.pm.registers
  opening_shape =
      let w = well_in Switching config units fits [] [] (new_world config units) refl in
      record {
        ports_are = refl;
        most = subst (λ (n : ℕ). n ≤ 15) (sym w.ports) w.most;
        bank = length-replicate 15 opening_port;
        shows = λ n. subst ShowsIt (sym (port_is n)) (λ opened there. absurd (false≢true opened));
      }

  opening_held : IsHeld config.ports opening
  opening_held = record {
    calm = opening_calm config units;
    set = record {
      shape = opening_shape;
      falls = λ f there. absurd there;
      resets = λ f there. absurd there;
      set = λ well. record { upto = tt; done = λ asks. absurd (false≢true asks); told = λ asks. absurd (false≢true asks) };
    };
    fails = record { well = refl; waits = λ f there. absurd (let wrong : None ≡ Some f = there in cc); up = λ f there. absurd there };
    shut = λ n. subst IsShut (sym (port_is n)) (record { small = omega arith; shut = λ marked. refl; shows = λ at. absurd (let wrong : 4 ≡ 3 = at in cc) });
    found_is = tt;
    sought = λ n on. absurd (false≢true on);
  }

  opening_matched : (n : ℕ) → n < 15 → IsMatched n opening
  opening_matched n low = record {
    named = record {
      waits = λ scans f there. absurd (let wrong : None ≡ Some f = there in cc);
      up = λ scans. tt;
      found_is = λ is. absurd (false≢true is);
    };
    shown = inr (record {
      absent = replicate_at 15 Absent n;
      steady = (opens_steady n 0).0;
      fault = replicate_at {A = Option DeviceCause} 16 None n;
      none = λ f there. absurd there;
    });
    taken = λ on. absurd (false≢true (ap is_open (sym (port_is n)) ∙ on));
    tells = λ at. absurd (cc);
    clears = λ at. absurd (cc);
  }

  opening_kept : IsKept config.ports opening
  opening_kept = record { held = opening_held; each = opening_matched }

-- ---- a world at rest

some_if : (b : Bool) (c : ℕ) → is_some (if b then Some c else None) ≡ b
some_if true c = refl
some_if false c = refl

-- where no change is left to record, the registers show a device exactly where one is plugged in
shown_as : (config : Config) (units : List Attached) (steps : List Step) (answers : List Answer) (now : Places) → Run (new_world config units) steps answers now → (n : ℕ) (place : Place) → n < 15
    → Of place (connections_at now.multiplier n) → PortRests n place now.multiplier → (port_at now.multiplier.registers n).present ≡ place.plugged
shown_as config units steps answers now run n place low of rests =
    (shows_all config units steps answers now run).agrees n low
    ∙ ap is_some (ap (λ (cs : List Change). (all cs (known (connections_at now.multiplier n))).0) (sym rests.presence) ∙ of.present) ∙ some_if place.plugged place.conn

pub rested_plans_match : RestedHaveDone → RestedDriversWatch → RestedPortsAreOpen → OneOrderAtATime → PortsGoOn → ReachedAreOrderly → RestedPlansMatch
rested_plans_match have_done watches are_open lines goes orderly config units fits before told now run rests = record {
  known = known_plugged;
  there = plugged_known;
  path = λ p here.
      let low : p.dev < 15 = subst IsPath here g.going.way.served.bounded.path in
      elim (kept.each p.dev low).shown [
        | inl s ↦ shown_plugged p.dev low s.low s.shows
        | inr none ↦ absurd (nothing_worked p.dev (line_of now) none p here refl)
      ];
  requests = λ slot e stands unended.
      let low : e.head.dev < 15 = (g.going.way.served.bounded.entries slot e stands).dev in
      elim (kept.each e.head.dev low).shown [
        | inl s ↦ shown_plugged e.head.dev low s.low s.shows
        | inr none ↦ absurd (nothing_open e.head.dev (line_of now) none slot e stands refl unended)
      ];
}
  where
    g : IsGood (line_of now)
    g = good lines goes config units fits before told now run

    kept : IsKept config.ports (line_of now)
    kept = kept_by lines goes config units fits (IsKept config.ports) (keeps config.ports) (opening_kept config units fits) before told now run

    registers : RegisterMap
    registers = now.multiplier.registers

    opens : MultiplierIsSet now
    opens = are_open config units fits before told now run rests

    count : now.multiplier.registers.ports ≡ length now.devices
    count = (well_in Switching config units fits before told now run).ports

    unmarked : (n : ℕ) → n < now.multiplier.registers.ports → is_marked (port_at now.multiplier.registers n) ≡ false
    unmarked n low =
        ap (shares (port_at now.multiplier.registers n).error) (sym opens.masked) ∙ (opens.ports n (subst (λ (c : ℕ). n < c) count low)).asks_nothing

    plugged_as : (n : ℕ) (place : Place) → n < 15 → slice_get now.devices n ≡ Some place → (port_at now.multiplier.registers n).present ≡ place.plugged
    plugged_as n place low at =
        let r : IsReached now = record { mode = Switching; config = config; units = units; fits = fits; steps = before; answers = told; run = run } in
        shown_as config units before told now run n place low (known_reached orderly now r n place at) ((have_done config units fits before told now run rests).0.ports n place at)

    shown_plugged : (n : ℕ) → n < 15 → n < now.multiplier.registers.ports → ((port_at now.multiplier.registers n).present ≡ true) ⊎ (is_marked (port_at now.multiplier.registers n) ≡ true) → IsPlugged n now
    shown_plugged n low within (inr marked) = absurd (true≢false (sym marked ∙ unmarked n within))
    shown_plugged n low within (inl present) =
        let place = get_there now.devices n (subst (λ (c : ℕ). n < c) count within) in
        record { place = place.0; at = place.1; on = sym (plugged_as n place.0 low place.1) ∙ present }

    known_plugged : (n : ℕ) → n < 15 → device_at now.host.driver.plan n ≢ Absent → IsPlugged n now
    known_plugged n low there = elim (kept.each n low).shown [ inl s ↦ shown_plugged n low s.low s.shows | inr none ↦ absurd (there none.absent) ]

    plugged_known : (n : ℕ) → IsPlugged n now → device_at now.host.driver.plan n ≢ Absent
    plugged_known n plugged absent =
        let within : n < length now.devices = get_below now.devices n plugged.place plugged.at in
        let most : length now.devices ≤ 15 = (well_in Switching config units fits before told now run).most in
        let low : n < 15 = omega (arith, within, most) in
        elim ((kept.each n low).taken (opens.ports n within).opened (plugged_as n plugged.place low plugged.at ∙ plugged.on)) [
          | inl marked ↦ true≢false (sym marked ∙ unmarked n (subst (λ (c : ℕ). n < c) (sym count) within))
          | inr (inl there) ↦ there absent
          | inr (inr sought) ↦
              false≢true (sym (ap (λ (o : Order). detects n now.host.driver.plan.asked o) (watches config units fits before told now run rests).watches) ∙ sought)
        ]
