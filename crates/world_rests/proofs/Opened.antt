-- For `rested_ports_are_open`. In a world at rest each port of the multiplier is open: the driver watches, so it has set up all before. And
-- none asks for attention: nothing would heed it.
use Rattle.std.proofs.Common.{◌≡◌, ℕ, zero, suc, ◌<◌, ◌≤◌, ◌==◌, ◌&&◌, Bool, true, false, List, [], length, replicate, slice_index_or, refl, sym, ap}
use Rattle.std.proofs.{Common.{subst, ◌∙◌, Some, None, arith}, lemmas.Bool.{eq-eqb, false_from_ne_true, false≢true, lt-ltb, true≢false}}
use Rattle.std.proofs.lemmas.List.{length-replicate}
use Rattle.std.specs.Prelude.{IsTrue, bit_and, if◌then◌else◌, is_some, nat_lt}
use Rattle.host_memory.specs.Memory.{IsHostMemory, Memory, zeroed}
use Rattle.pm_registers.specs.{Port.{bit_n, bit_x, det, is_open, opening_port}, RegisterMap.{RegisterMap, asks, port_at}}
use Rattle.pm_registers.specs.declared.port.PortRegisters.{PortRegisters}
use Rattle.multiplier.specs.State.{port_at as connections_at}
use Rattle.hba_fbs.specs.Views.{view_of}
use Rattle.hba_driver.specs.{declared.{mode.Mode.TheVariants.Switching, order.Order.{Order, TheVariants.Watch}}, HostTurns.{Pushed, Took}}
use Rattle.hba_driver.specs.Slot31.{control_in}
use Rattle.hba_driver.proofs.Door.{zeroed_right}
use Rattle.pm_world.specs.{Attached.Attached, Line.OneOrderAtATime, DevicePaths.ReachedAreOrderly, Places.{Place, Places, is_config, new_world}}
use Rattle.pm_world.specs.{PortsGoOn.PortsGoOn, Rules.Run, Runs.IsReached, declared.{link.Change.Change, step.{Answer.Answer, Config.Config}}}
use Rattle.pm_world.specs.declared.step.Step.{Step}
use Rattle.world_rests.specs.{Laws.RestedHaveDone, Opens.{PortIsOpen, RestedPortsAreOpen}, Rests.PortRests, Watches.RestedDriversWatch}
use Rattle.world_rests.proofs.{Comings.{Of, all, known, known_reached}, ControlFile.{IsCalm, keeps_calm}, Heeded.{AreHeeded, Early, IsCleared, IsDue}}
use Rattle.world_rests.proofs.Heeded.{IsHeeded, IsListed, IsNamed, IsNoticed, IsScanned, Notifies, not_at, not_clear, not_scan, scan_early}
use Rattle.world_rests.proofs.{HeededHost.keeps_heeded, Notified.{is_noticed, notified_seen}, Ordering.{AreOpen, IsOn, Upto}, Orders.Among}
use Rattle.world_rests.proofs.{Parts.get_below, Present.shows_all, Scanned.{IsDriven, driven_more}, SetHost.keeps_set, SetUp.IsSetUp, Setting.IsShape}
use Rattle.world_rests.proofs.{Setting.ShowsIt, Summary.errors_none, Watched.opening_calm, Ways.{Hears, IsGood, Line, Pushes, Records, Rises, Stays}}
use Rattle.world_rests.proofs.{Ways.{Takes, Turns, Way, kept_by, line_of}, Well.{sized, well_in}}

-- the turns of the host go on
keeps_driven : (start : Memory) (l m : Line) → Way l m → IsDriven start l.host → IsDriven start m.host
keeps_driven start l m (Stays pm registers resetting answer e) d = subst (λ (x : Line). IsDriven start x.host) (sym e) d
keeps_driven start l m (Records n what e) d = subst (λ (x : Line). IsDriven start x.host) (sym e) d
keeps_driven start l m (Hears f rest p pm is rule e) d = subst (λ (x : Line). IsDriven start x.host) (sym e) d
keeps_driven start l m (Rises f pm gave e) d = subst (λ (x : Line). IsDriven start x.host) (sym e) d
keeps_driven start l m (Takes f rest report host is does of e) d = subst (λ (x : Line). IsDriven start x.host) (sym e) (driven_more start l.host (Took f.bytes report) host does d)
keeps_driven start l m (Pushes f host does e) d = subst (λ (x : Line). IsDriven start x.host) (sym e) (driven_more start l.host (Pushed (Some f)) host does d)
keeps_driven start l m (Turns t inside host does e) d = subst (λ (x : Line). IsDriven start x.host) (sym e) (driven_more start l.host t host does d)

-- what each way keeps
record IsKept (start : Memory) (ports : ℕ) (l : Line) : Type 0 where
  calm : IsCalm l
  set : IsSetUp ports l
  driven : IsDriven start l.host
  heeded : AreHeeded l

keeps : (start : Memory) → IsHostMemory start → (ports : ℕ) (l m : Line) → IsGood l → IsGood m → Way l m → IsKept start ports l → IsKept start ports m
keeps start right ports l m g h way k = record {
  calm = keeps_calm l m g h way k.calm;
  set = keeps_set ports l m g k.calm h way k.set;
  driven = keeps_driven start l m way k.driven;
  heeded = keeps_heeded start right l g k.driven k.heeded (subst (λ (n : ℕ). n ≤ 15) (sym k.set.shape.ports_are) k.set.shape.most) ports m k.calm k.set h way;
}

each_replicate : (P : PortRegisters → Type 0) (k : ℕ) (d : PortRegisters) → P d → (n : ℕ) → P (slice_index_or (replicate k d) n d)
each_replicate P zero d is n = is
each_replicate P (suc k) d is zero = is
each_replicate P (suc k) d is (suc n) = each_replicate P k d is n

module _ (config : Config) (units : List Attached) (fits : is_config config (length units) ≡ true) where
  opening_shape : IsShape config.ports (new_world config units).multiplier.registers
  opening_shape =
      let w = well_in Switching config units fits [] [] (new_world config units) refl in
      record {
        ports_are = refl;
        most = subst (λ (n : ℕ). n ≤ 15) (sym w.ports) w.most;
        bank = length-replicate 15 opening_port;
        shows = each_replicate ShowsIt 15 opening_port (λ opened there. absurd (false≢true opened));
      }

  opening_set : IsSetUp config.ports (line_of (new_world config units))
  opening_set = record {
    shape = opening_shape;
    falls = λ f there. absurd there;
    resets = λ f there. absurd there;
    set = λ well. record { upto = tt; done = λ asks. absurd (false≢true asks); told = λ asks. absurd (false≢true asks) };
  }

  opening_kept : IsKept (zeroed config.memory) config.ports (line_of (new_world config units))
  opening_kept = record {
    calm = opening_calm config units;
    set = opening_set;
    driven = record { turns = []; run = refl };
    heeded = record { closed = λ less. refl; each = λ well n low asking. Early refl };
  }

-- where nothing is due or on its way, and the driver watches, no port is heeded
none_heeded : (l : Line) (n : ℕ) → l.pm.registers.due ≡ false → l.up ≡ [] → is_noticed l.host ≡ false → l.host.driver.plan.order ≡ Watch → IsHeeded n (control_in l.host.driver.plan) l → ⊥
none_heeded l n quiet up off watch (Early is) = scan_early l.host.driver.plan.order Watch watch refl is
none_heeded l n quiet up off watch (IsDue due) = true≢false (sym due ∙ quiet)
none_heeded l n quiet up off watch (Notifies f there own none) = subst (Among f) up there
none_heeded l n quiet up off watch (IsNoticed on) = true≢false (sym on ∙ off)
none_heeded l n quiet up off watch (IsScanned scan comes) = not_scan l.host.driver.plan.order Watch watch refl scan
none_heeded l n quiet up off watch (IsNamed scan asked said) = not_scan l.host.driver.plan.order Watch watch refl scan
none_heeded l n quiet up off watch (IsCleared clear comes) = not_clear l.host.driver.plan.order Watch n watch refl clear
none_heeded l n quiet up off watch (IsListed k at less bit) = not_at l.host.driver.plan.order Watch k watch refl refl at

last_of : (a b c d : Bool) → a ≡ true → b ≡ true → c ≡ true → (a && (b && c && d)) ≡ d
last_of true true true d x y z = refl
last_of false b c d x y z = absurd (false≢true x)
last_of true false c d x y z = absurd (false≢true y)
last_of true true false d x y z = absurd (false≢true z)

-- a port that is open, and does not ask
module _ (ports : ℕ) (m : RegisterMap) (s : IsShape ports m) (count : ℕ) (u : IsOn m count × AreOpen m.ports m) (n : ℕ) (low : n < m.ports) (none : asks m n ≡ false) where
  abbrev p : PortRegisters
  p = port_at m n

  is_opened : is_open p ≡ true
  is_opened = u.1 n low

  shows_det : p.present ≡ true → det p.status ≡ 3
  shows_det there = s.shows n is_opened there

  clear : (bit_and p.error bit_n ≡ 0) × (bit_and p.error bit_x ≡ 0)
  clear = errors_none m n u.0.masked none

  port_open : PortIsOpen n m
  port_open = record {
    opened = is_opened;
    n_clear = clear.0;
    x_clear = clear.1;
    asks_nothing = none;
    shown = shows_det;
    passes = λ there.
        last_of (nat_lt n m.ports) (is_open p) (det p.status == 3) (bit_and p.error bit_x == 0) (lt-ltb n m.ports low) is_opened (eq-eqb (det p.status) 3 (shows_det there))
        ∙ eq-eqb (bit_and p.error bit_x) 0 clear.1;
  }

-- where no change is left to record, the registers show the device of a place
shown_there : (config : Config) (units : List Attached) (steps : List Step) (answers : List Answer) (now : Places) → Run (new_world config units) steps answers now → (n : ℕ) (place : Place) → n < 15
    → Of place (connections_at now.multiplier n) → PortRests n place now.multiplier → IsTrue place.plugged → (port_at now.multiplier.registers n).present ≡ true
shown_there config units steps answers now run n place low of rests on =
    (shows_all config units steps answers now run).agrees n low
    ∙ ap is_some (ap (λ (cs : List Change). (all cs (known (connections_at now.multiplier n))).0) (sym rests.presence) ∙ of.present ∙ ap (λ (b : Bool). if b then Some place.conn else None) on)

pub rested_ports_are_open : RestedHaveDone → RestedDriversWatch → OneOrderAtATime → PortsGoOn → ReachedAreOrderly → RestedPortsAreOpen
rested_ports_are_open have_done watches lines goes orderly config units fits before told now run rests =
    let done = have_done config units fits before told now run rests in
    let watch = watches config units fits before told now run rests in
    let start : Memory = zeroed config.memory in
    let k : IsKept start config.ports (line_of now) =
    kept_by lines goes config units fits (IsKept start config.ports) (keeps start (zeroed_right config.memory (sized config (length units) fits)) config.ports) (opening_kept config units fits) before told now run in
    let well : is_some (view_of 15 now.host.port).fault ≡ false = ap is_some (done.1.port.faultless 15) in
    let s = k.set.set well in
    let u : IsOn now.multiplier.registers now.host.driver.plan.ports × AreOpen now.multiplier.registers.ports now.multiplier.registers =
    subst (λ (o : Order). Upto o now.multiplier.registers now.host.driver.plan.ports) watch.watches s.upto in
    let w = well_in Switching config units fits before told now run in
    let ports : (n : ℕ) → n < length now.devices → PortIsOpen n now.multiplier.registers = λ n low.
    let within : n < now.multiplier.registers.ports = subst (λ (c : ℕ). n < c) (sym w.ports) low in
    port_open config.ports now.multiplier.registers k.set.shape now.host.driver.plan.ports u n within
    (false_from_ne_true (asks now.multiplier.registers n) (λ asking.
    none_heeded (line_of now) n done.0.notice done.0.upward (sym (notified_seen now.host) ∙ watch.unnotified) watch.watches (k.heeded.each well n within asking))) in
    record {
      counted = u.0.counted;
      masked = u.0.masked;
      notifies_on = u.0.notifies_on;
      ports = ports;
      devices = λ n place at on.
          let low : n < length now.devices = get_below now.devices n place at in
          let r : IsReached now = record { mode = Switching; config = config; units = units; fits = fits; steps = before; answers = told; run = run } in
          (ports n low).passes (shown_there config units before told now run n place (omega (arith, low, w.most)) (known_reached orderly now r n place at) (done.0.ports n place at) on);
    }
