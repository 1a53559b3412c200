-- For `devices_are_set_aside`. A device of which no queued command can be done.
use Rattle.std.proofs.Common.{◌≡◌, ◌≢◌, ◌==◌, ◌&&◌, ◌||◌, ℕ, zero, suc, ◌<◌, Bool, true, false, List, [], ◌∷◌, ◌++◌, refl, sym, ap, subst, ◌∙◌, inl}
use Rattle.std.proofs.{Common.{inr, Option, Some, None}, lemmas.{Bool.{cases_eq, eq-eqb, true≢false}, Nat.Bits.bit_at-zero}}
use Rattle.std.specs.{Prelude.{◌⊎◌, is_none, is_some, map, not, if◌then◌else◌}, Option.option_map_or}
use Rattle.fis_view.specs.{Frames.Stamped, Seen.seen}
use Rattle.port_errors.specs.Errors.{Errors, after_clear, cleared_device, no_errors, without}
use Rattle.slots.specs.{Slots.{Issue, has_bit, holds, issue_at, match_some}, Work.{is_dma, is_queued, is_read}}
use Rattle.slots.specs.declared.answer.Answered.TheVariants as answer
use Rattle.host_memory.specs.Memory.{Memory}
use Rattle.hba_commands.specs.declared.command.Command as issued_command
use Rattle.hba_fbs.specs.declared.{hearing.{Fault.Fault, Happening.Happening, Heard.Heard}, register.Register.{Register, TheVariants.{Ci, Cmd, Fbs}}}
use Rattle.hba_fbs.specs.{declared.{report.TakeReport.TakeReport, status.Block.Block}, Bits.dec, Issuing.{aimed, asked, view_issued}, Posting.signs}
use Rattle.hba_fbs.specs.{Registers.falls, Sending.{Data, Gives, Nothing, Order, Outgoing, Sends, Unreadable, outgoing, view_fed, view_sent}}
use Rattle.hba_fbs.specs.Taking.{admitted, errors_in, errors_with, heard_now, heard_report, ignores, is_ignored, is_running, passes_over, port_cause}
use Rattle.hba_fbs.specs.{Taking.port_of, Views.{DeviceView, Port, view_of}, Writing.{cleared_by, errors_after, view_after}}
use Rattle.hba_fbs.specs.declared.hearing.Fault.TheVariants as fault
use Rattle.hba_fbs.specs.declared.hearing.Happening.TheVariants as happening
use Rattle.hba_laws.specs.{Client.{By, Stops, own}, Delivering.{begun_by, by_device, event_heard, event_of, event_sent, event_taken}}
use Rattle.hba_laws.specs.{Delivering.{is_control_issue, issued_below, touched, touched_by_clear, touched_by_out}, History.{Carried, Emptied, Event}}
use Rattle.hba_laws.specs.{History.{History, Issued, PioSetUp, Sent, SentControl, SetUp, Transfer, completes, issued, unless}, Hosts.{Does, Flushed}}
use Rattle.hba_laws.specs.{Hosts.{Gave, Host, HostEvent, TakesFrame, Took, Wrote}, Isolation.fails_by_bus, Between.{history_below, transfer_of}}
use Rattle.hba_laws.specs.Between.{with_issued}
use Rattle.hba_laws.proofs.Door.{other_below, own_below_is}
use Rattle.disk_simulation.specs.Aside.{AreUnqueued, AsideIsKept, Faulty, Halted, IsAside, IssuesNoneQueued, SetsAside, Spared, WritesAside}
use Rattle.disk_simulation.specs.{Aside.WritesNoneQueued, Elsewhere.IsElsewhere, Together.NoneQueued}
use Rattle.disk_simulation.proofs.others.ElsewhereLemmas.{others_leave_device, view_sends}

-- ## Events that issue nothing

abbrev IssuesNothing : Event → Type 0
IssuesNothing (Issued slot t) = ⊥
IssuesNothing other = Unit {0}

unless_none : (b : Bool) (o : Option Transfer) → NoneQueued o → NoneQueued (unless b o)
unless_none true o none = tt
unless_none false o none = none

after_none : (o : Option Transfer) (test : Transfer → Bool) → NoneQueued o → NoneQueued (match_some o None (λ t. unless (test t) (Some t)))
after_none None test none = tt
after_none (Some t) test none = unless_none (test t) (Some t) none

one_more : (e : Event) (past : History) → IssuesNothing e → AreUnqueued past → AreUnqueued (e ∷ past)
one_more (Issued slot t) past plain none s = absurd plain
one_more (SentControl slot) past plain none s = unless_none (slot == s) (issued s past) (none s)
one_more Emptied past plain none s = tt
one_more other past plain none s = after_none (issued s past) (λ t. completes s other past t.work) (none s)

emptied : (past : History) → AreUnqueued (Emptied ∷ past)
emptied past s = tt

own_test : (b : Bool) (e : Event) (past : History) → IssuesNothing e → AreUnqueued past → AreUnqueued ((if b then e ∷ [] else []) ++ past)
own_test true e past plain none = one_more e past plain none
own_test false e past plain none = none

own_one : (n dev : ℕ) (e : Event) (past : History) → IssuesNothing e → AreUnqueued past → AreUnqueued (own n (By dev e ∷ []) ++ past)
own_one n dev e past plain none = own_test (dev == n) e past plain none

-- ---- a frame is taken

abbrev MayIssueNothing : Option Event → Type 0
MayIssueNothing None = Unit {0}
MayIssueNothing (Some e) = IssuesNothing e

heard_plain : (h : Happening) (block : Option Block) (payload : List ℕ) → MayIssueNothing (event_of h block payload)
heard_plain (happening.Answered answer.Nobody) block payload = tt
heard_plain (happening.PioSetUp count to_host) None payload = tt
heard_plain (happening.PioSetUp count to_host) (Some block) payload = tt
heard_plain other block payload = tt

taken_plain : (b : Bool) (h : Heard) (payload : List ℕ) → MayIssueNothing (if b then None else event_heard h payload)
taken_plain true h payload = tt
taken_plain false h payload = heard_plain h.happening h.state.block payload

own_taken : (n dev : ℕ) (o : Option Event) (past : History) → MayIssueNothing o → AreUnqueued past → AreUnqueued (own n (by_device dev o) ++ past)
own_taken n dev None past plain none = none
own_taken n dev (Some e) past plain none = own_one n dev e past plain none

spared_taken : (n : ℕ) (host : Host) (frame : List ℕ) (past : History) → AreUnqueued past
    → AreUnqueued (own n (by_device (port_of frame) (event_taken host frame)) ++ past)
spared_taken n host frame past none =
    let h : Heard = heard_now host.port host.memory (port_of frame) (admitted (port_of frame) (seen frame)) in
    own_taken n (port_of frame) (event_taken host frame) past (taken_plain (ignores (port_of frame) host.port frame) h _) none

-- ---- commands are issued

unqueued_at : (t : Transfer) (b : Bool) (o : Option Transfer) → is_queued t.work.kind ≡ false → NoneQueued o → NoneQueued (if b then Some t else o)
unqueued_at t true o alone none = alone
unqueued_at t false o alone none = none

queued_not : (memory : Memory) (m : ℕ) (o : Option issued_command.Command) (past : History)
    → ((command : issued_command.Command) → o ≡ Some command → is_queued command.work.kind ≡ false) → AreUnqueued past
    → AreUnqueued (with_issued memory m o past)
queued_not memory m None past alone none s = none s
queued_not memory m (Some command) past alone none s =
    unqueued_at (transfer_of memory command) (m == s) (issued s past) (alone command refl) (none s)

spared_below : (memory : Memory) (asks : ℕ → Option issued_command.Command) (past : History)
    → ((s : ℕ) (command : issued_command.Command) → asks s ≡ Some command → is_queued command.work.kind ≡ false) → AreUnqueued past
    → (m : ℕ) → AreUnqueued (history_below memory asks past m)
spared_below memory asks past alone none zero = none
spared_below memory asks past alone none (suc m) =
    queued_not memory m (asks m) (history_below memory asks past m) (alone m) (spared_below memory asks past alone none m)

-- ## What is ignored

or_middle : (a b c : Bool) → b ≡ true → (a || b || c) ≡ true
or_middle true b c is = refl
or_middle false true c is = refl
or_middle false false c is = cc is

or_first : (a b c : Bool) → a ≡ true → (a || b || c) ≡ true
or_first true b c is = refl
or_first false b c is = cc is

stands_still : (started : Bool) (X : Type 0) (o : Option X) → is_some o ≡ true → not (started && is_none o) ≡ true
stands_still started X None is = cc is
stands_still true X (Some x) is = refl
stands_still false X (Some x) is = refl

or_last : (b c : Bool) → c ≡ true → (b || c) ≡ true
or_last true c is = refl
or_last false c is = is

ignored_over : (host : Host) (frame : List ℕ)
    → is_ignored (is_running host.port) (view_of (port_of frame) host.port) (seen frame) ≡ true
    → ignores (port_of frame) host.port frame ≡ true
ignored_over host frame is =
    or_last (passes_over host.port.registers.switching (port_of frame) (view_of (port_of frame) host.port) (seen frame))
    (is_ignored (is_running host.port) (view_of (port_of frame) host.port) (seen frame)) is

ignored_faulty : (n : ℕ) (host : Host) (frame : List ℕ) → port_of frame ≡ n → is_some (view_of n host.port).fault ≡ true
    → ignores (port_of frame) host.port frame ≡ true
ignored_faulty n host frame from is =
    let v : DeviceView = view_of (port_of frame) host.port in
    let here : is_some (view_of (port_of frame) host.port).fault ≡ true =
    subst (λ (m : ℕ). is_some (view_of m host.port).fault ≡ true) (sym from) is in
    ignored_over host frame
    (or_middle (not (is_running host.port)) (is_some v.fault) (v.state.resetting && not (signs (seen frame))) here)

ignored_halted : (host : Host) (frame : List ℕ) → is_some host.port.errors.port ≡ true → ignores (port_of frame) host.port frame ≡ true
ignored_halted host frame is =
    let v : DeviceView = view_of (port_of frame) host.port in
    ignored_over host frame
    (or_first (not (is_running host.port)) (is_some v.fault) (v.state.resetting && not (signs (seen frame)))
    (stands_still host.port.registers.started _ host.port.errors.port is))

stays_by : (host new : Host) (frame : List ℕ) (report : TakeReport) → ignores (port_of frame) host.port frame ≡ true → TakesFrame host frame report new
    → new.port ≡ host.port
stays_by host new frame report is takes = (takes.ignored is).port

-- ## None is done

none_set : (s : ℕ) → has_bit 0 s ≡ false
none_set s = ap (λ (b : ℕ). b == 1) (bit_at-zero s)

done_not : (host new : Host) (frame : List ℕ) (report : TakeReport) (s : ℕ) → ignores (port_of frame) host.port frame ≡ true
    → TakesFrame host frame report new → has_bit report.done s ≡ false
done_not host new frame report s is takes =
    ap (λ (r : TakeReport). has_bit r.done s) (takes.ignored is).reports ∙ none_set s

never_done : (n : ℕ) (host new : Host) (frame : List ℕ) (report : TakeReport) (past : History) → port_of frame ≡ n → IsAside n host past
    → TakesFrame host frame report new → (s : ℕ) (t : Transfer) → issued s past ≡ Some t → is_queued t.work.kind ≡ true
    → has_bit report.done s ≡ false
never_done n host new frame report past from (Halted is) takes s t here queued =
    done_not host new frame report s (ignored_halted host frame is) takes
never_done n host new frame report past from (Faulty is) takes s t here queued =
    done_not host new frame report s (ignored_faulty n host frame from is) takes
never_done n host new frame report past from (Spared none) takes s t here queued =
    absurd (true≢false (sym queued ∙ subst NoneQueued here (none s)))

-- ## What is none of the device's

aside_elsewhere : (n : ℕ) (host new : Host) (event : HostEvent) (past : History) → n < 16 → Does host event new → IsElsewhere n host event
    → (is_some host.port.errors.port ≡ true → is_some new.port.errors.port ≡ true) → IsAside n host past
    → IsAside n new (own n (touched host event) ++ past)
aside_elsewhere n host new event past below does other keeps (Halted is) = Halted (keeps is)
aside_elsewhere n host new event past below does other keeps (Faulty is) =
    let same = (others_leave_device n host new event below does other).view in
    Faulty (ap (λ (v : DeviceView). is_some v.fault) same ∙ is)
aside_elsewhere n host new event past below does other keeps (Spared none) =
    let nothing = (others_leave_device n host new event below does other).history in
    Spared (subst (λ (h : History). AreUnqueued (h ++ past)) (sym nothing) none)

same_port : (host new : Host) → new.port ≡ host.port → is_some host.port.errors.port ≡ true → is_some new.port.errors.port ≡ true
same_port host new same is = ap (λ (p : Port). is_some p.errors.port) same ∙ is

same_errors : (host new : Host) → new.port.errors ≡ host.port.errors → is_some host.port.errors.port ≡ true → is_some new.port.errors.port ≡ true
same_errors host new same is = ap (λ (e : Errors). is_some e.port) same ∙ is

-- ## A frame is taken

goes_on_took : (n : ℕ) (host new : Host) (frame : List ℕ) (report : TakeReport) (past : History) → n < 16 → TakesFrame host frame report new
    → IsAside n host past → IsAside n new (own n (touched host (Took frame report)) ++ past)
goes_on_took n host new frame report past below takes (Halted is) =
    Halted (same_port host new (stays_by host new frame report (ignored_halted host frame is) takes) is)
goes_on_took n host new frame report past below takes (Spared none) = Spared (spared_taken n host frame past none)
goes_on_took n host new frame report past below takes (Faulty is) = elim (cases_eq n (port_of frame)) [
  | inl same ↦
      let stays = stays_by host new frame report (ignored_faulty n host frame (sym same) is) takes in
      Faulty (ap (λ (p : Port). is_some (view_of n p).fault) stays ∙ is)
  | inr other ↦
      let view_is = (others_leave_device n host new (Took frame report) below takes other).view in
      Faulty (ap (λ (v : DeviceView). is_some v.fault) view_is ∙ is)
]

-- ## A register is written

cleared_port : (errors : Errors) (o : Option ℕ) → (option_map_or (without errors) o errors).port ≡ errors.port
cleared_port errors None = refl
cleared_port errors (Some dev) = refl

maybe_cleared : (errors : Errors) (b : Bool) → (if b then after_clear errors else errors).port ≡ errors.port
maybe_cleared errors true = cleared_port errors (cleared_device errors)
maybe_cleared errors false = refl

abbrev KeepsHalt : Register → Port → ℕ → Type 0
KeepsHalt register port value = (errors_after register port value).port ≡ port.errors.port

fell_not : (port : Port) (value : ℕ) → falls port.registers value ≡ false → KeepsHalt Cmd port value
unfolding errors_after
fell_not port value falls_not = ap (λ (b : Bool). (if b then no_errors else port.errors).port) falls_not

keeps_halt : (register : Register) (port : Port) (value : ℕ) → register ≢ Cmd → KeepsHalt register port value
unfolding errors_after
keeps_halt Cmd port value other = absurd (other refl)
keeps_halt Fbs port value other = maybe_cleared port.errors (has_bit value dec)
keeps_halt rest port value other = refl

halted_by : (host new : Host) (register : Register) (value : ℕ) → Does host (Wrote register value) new → KeepsHalt register host.port value
    → is_some host.port.errors.port ≡ true → is_some new.port.errors.port ≡ true
halted_by host new register value does keeps is =
    ap (λ (e : Errors). is_some e.port) does.1.errors ∙ ap is_some keeps ∙ is

elsewhere_by : (n : ℕ) (host new : Host) (register : Register) (value : ℕ) (past : History) → n < 16 → Does host (Wrote register value) new
    → IsElsewhere n host (Wrote register value) → KeepsHalt register host.port value → IsAside n host past
    → IsAside n new (own n (touched host (Wrote register value)) ++ past)
elsewhere_by n host new register value past below does other keeps aside =
    aside_elsewhere n host new (Wrote register value) past below does other (halted_by host new register value does keeps) aside

-- ---- ST

cmd_test : (n : ℕ) (host new : Host) (value : ℕ) (past : History) (b : Bool) → n < 16 → falls host.port.registers value ≡ b
    → Does host (Wrote Cmd value) new → IsAside n host past → IsAside n new (own n (touched host (Wrote Cmd value)) ++ past)
cmd_test n host new value past true below is does aside =
    Spared (subst (λ (b : Bool). AreUnqueued (own n (if b then Stops ∷ [] else []) ++ past)) (sym is) (emptied past))
cmd_test n host new value past false below is does aside =
    elsewhere_by n host new Cmd value past below does is (fell_not host.port value is) aside

-- ---- errors

cleared_is : (n : ℕ) (host : Host) (value : ℕ) (past : History) → cleared_by host.port.errors value ≡ Some n
    → AreUnqueued (own n (touched host (Wrote Fbs value)) ++ past)
cleared_is n host value past is =
    subst (λ (o : Option ℕ). AreUnqueued (own n (touched_by_clear o) ++ past)) (sym is)
    (subst (λ (b : Bool). AreUnqueued ((if b then Emptied ∷ [] else []) ++ past)) (sym (eq-eqb n n refl)) (emptied past))

fbs_test : (n : ℕ) (host new : Host) (value : ℕ) (past : History) (o : Option ℕ) → n < 16 → cleared_by host.port.errors value ≡ o
    → Does host (Wrote Fbs value) new → IsAside n host past → IsAside n new (own n (touched host (Wrote Fbs value)) ++ past)
fbs_test n host new value past None below is does aside =
    elsewhere_by n host new Fbs value past below does (λ at. let bad : None ≡ Some n = sym is ∙ at in cc bad)
    (keeps_halt Fbs host.port value (λ e. cc e)) aside
fbs_test n host new value past (Some dev) below is does aside = elim (cases_eq dev n) [
  | inl same ↦ Spared (cleared_is n host value past (is ∙ ap Some same))
  | inr other ↦ elsewhere_by n host new Fbs value past below does (λ at. let one : Some dev ≡ Some n = sym is ∙ at in other (cc one))
      (keeps_halt Fbs host.port value (λ e. cc e)) aside
]

-- ---- commands

issue_fault : (n value : ℕ) (port : Port) (memory : Memory) (b : Bool)
    → (if b then view_issued port.registers memory value (view_of n port) else view_of n port).fault ≡ (view_of n port).fault
issue_fault n value port memory true = refl
issue_fault n value port memory false = refl

issued_fault : (n value : ℕ) (port : Port) (memory : Memory) → (view_after Ci port memory value n).fault ≡ (view_of n port).fault
unfolding view_after
issued_fault n value port memory = issue_fault n value port memory (n == aimed port.registers memory.structure value)

ci_aside : (n : ℕ) (host new : Host) (value : ℕ) (past : History) → n < 16 → Does host (Wrote Ci value) new → WritesNoneQueued n host Ci value
    → IsAside n host past → IsAside n new (own n (touched host (Wrote Ci value)) ++ past)
ci_aside n host new value past below does alone (Halted is) =
    Halted (halted_by host new Ci value does (keeps_halt Ci host.port value (λ e. cc e)) is)
ci_aside n host new value past below does alone (Faulty is) =
    Faulty (ap (λ (v : DeviceView). is_some v.fault) (does.1.views n below) ∙ ap is_some (issued_fault n value host.port host.memory) ∙ is)
ci_aside n host new value past below does alone (Spared none) = elim (cases_eq (aimed host.port.registers host.memory.structure value) n) [
  | inl chosen ↦
      let r = host.port.registers in
      let asks = asked r host.memory value in
      let is = ap (λ (d : ℕ). own n (issued_below d host.memory asks 32) ++ past) chosen ∙ own_below_is n host.memory asks past 32 in
      Spared (subst AreUnqueued (sym is) (spared_below host.memory asks past (alone chosen) none 32))
  | inr other ↦
      let r = host.port.registers in
      let nothing = other_below n (aimed r host.memory.structure value) host.memory (asked r host.memory value) 32 other in
      Spared (subst (λ (h : History). AreUnqueued (h ++ past)) (sym nothing) none)
]

goes_on_wrote : (n : ℕ) (host new : Host) (register : Register) (value : ℕ) (past : History) → n < 16 → Does host (Wrote register value) new
    → WritesNoneQueued n host register value → IsAside n host past → IsAside n new (own n (touched host (Wrote register value)) ++ past)
goes_on_wrote n host new Cmd value past below does alone aside = cmd_test n host new value past (falls host.port.registers value) below refl does aside
goes_on_wrote n host new Ci value past below does alone aside = ci_aside n host new value past below does alone aside
goes_on_wrote n host new Fbs value past below does alone aside = fbs_test n host new value past (cleared_by host.port.errors value) below refl does aside
goes_on_wrote n host new other value past below does alone aside =
    elsewhere_by n host new other value past below does tt (keeps_halt other host.port value (λ e. cc e)) aside

-- ## A frame goes out

sent_aside : (n dev : ℕ) (host new : Host) (bytes : List ℕ) (view : DeviceView) (frame : Stamped) (e : Event) (past : History)
    → Sends host.port dev bytes view frame new.port → view.fault ≡ (view_of dev host.port).fault → IssuesNothing e → IsAside n host past
    → IsAside n new (own n (By dev e ∷ []) ++ past)
sent_aside n dev host new bytes view frame e past sends same plain (Halted is) = Halted (same_errors host new sends.errors is)
sent_aside n dev host new bytes view frame e past sends same plain (Faulty is) =
    Faulty (view_sends (λ v. is_some v.fault ≡ true) n dev host new bytes view frame sends (λ was. ap is_some same ∙ was) is)
sent_aside n dev host new bytes view frame e past sends same plain (Spared none) = Spared (own_one n dev e past plain none)

order_plain : (b : Bool) (slot : ℕ) → IssuesNothing (if b then SentControl slot else Sent slot)
order_plain true slot = tt
order_plain false slot = tt

-- a command without a setup issues nothing either
order_own : (n dev slot : ℕ) (e : Event) (o : Option Issue) (past : History) → IssuesNothing e → AreUnqueued past
    → AreUnqueued (own n (map (By dev) (begun_by slot o) ++ By dev e ∷ []) ++ past)
order_own n dev slot e None past plain none = own_one n dev e past plain none
order_own n dev slot e (Some i) past plain none = by_dma (is_dma i.work.kind)
  where
    begins : Event
    begins = SetUp slot 0 i.work.len (is_read i.work.kind)

    one : AreUnqueued (own n (By dev e ∷ []) ++ past)
    one = own_one n dev e past plain none

    by_test : (b : Bool) → AreUnqueued ((if b then begins ∷ own n (By dev e ∷ []) else own n (By dev e ∷ [])) ++ past)
    by_test true = one_more begins (own n (By dev e ∷ []) ++ past) tt one
    by_test false = one

    by_dma : (b : Bool) → AreUnqueued (own n (map (By dev) (if b then SetUp slot 0 i.work.len (is_read i.work.kind) ∷ [] else []) ++ By dev e ∷ []) ++ past)
    by_dma true = by_test (dev == n)
    by_dma false = one

order_aside : (n dev slot : ℕ) (host new : Host) (command : issued_command.Command) (frame : Stamped) (past : History)
    → Sends host.port dev command.cfis (view_sent (view_of dev host.port) slot command) frame new.port → IsAside n host past
    → IsAside n new (own n (touched_by_out host (Order dev slot command)) ++ past)
order_aside n dev slot host new command frame past sends (Halted is) = Halted (same_errors host new sends.errors is)
order_aside n dev slot host new command frame past sends (Faulty is) =
    Faulty (view_sends (λ v. is_some v.fault ≡ true) n dev host new command.cfis (view_sent (view_of dev host.port) slot command) frame sends (λ was. was) is)
order_aside n dev slot host new command frame past sends (Spared none) =
    Spared (order_own n dev slot (event_sent host.port.slots slot) (issue_at host.port.slots slot) past
    (order_plain (holds is_control_issue (issue_at host.port.slots slot)) slot) none)

goes_on_gave : (n : ℕ) (host new : Host) (out : Outgoing) (frame : Option Stamped) (past : History)
    → Gives out host.port host.memory frame new.port → IsAside n host past → IsAside n new (own n (touched_by_out host out) ++ past)
goes_on_gave n host new Nothing frame past gives aside = by_aside aside
  where
    by_aside : IsAside n host past → IsAside n new past
    by_aside (Halted is) = Halted (same_port host new gives.1 is)
    by_aside (Faulty is) = Faulty (ap (λ (p : Port). is_some (view_of n p).fault) gives.1 ∙ is)
    by_aside (Spared none) = Spared none
goes_on_gave n host new (Unreadable dev) frame past gives aside = Halted (ap (λ (p : Port). is_some p.errors.port) gives.1)
goes_on_gave n host new (Data dev offset len command) (Some f) past gives aside =
    sent_aside n dev host new _ (view_fed (view_of dev host.port)) f (Carried _) past gives refl tt aside
goes_on_gave n host new (Order dev slot command) (Some f) past gives aside =
    order_aside n dev slot host new command f past gives aside
goes_on_gave n host new other None past gives aside = absurd gives

-- ## All events

flushed_is : (n dev : ℕ) (past : History) → dev ≡ n → AreUnqueued (own n (By dev Emptied ∷ []) ++ past)
flushed_is n dev past same =
    subst (λ (b : Bool). AreUnqueued ((if b then Emptied ∷ [] else []) ++ past)) (sym (eq-eqb dev n same)) (emptied past)

goes_on : (n : ℕ) (host new : Host) (event : HostEvent) (past : History) → n < 16 → Does host event new → IssuesNoneQueued n host event
    → IsAside n host past → IsAside n new (own n (touched host event) ++ past)
goes_on n host new (Took frame report) past below does alone aside = goes_on_took n host new frame report past below does aside
goes_on n host new (Wrote register value) past below does alone aside = goes_on_wrote n host new register value past below does alone aside
goes_on n host new (Flushed dev) past below does alone aside = elim (cases_eq n dev) [
  | inl same ↦ Spared (flushed_is n dev past (sym same))
  | inr other ↦ aside_elsewhere n host new (Flushed dev) past below does other (λ is. ap (λ (e : Errors). is_some e.port) does.0.errors ∙ is) aside
]
goes_on n host new (Gave frame) past below does alone aside = goes_on_gave n host new (outgoing host.port host.memory) frame past does.0 aside
goes_on n host new other past below does alone aside =
    aside_elsewhere n host new other past below does tt (same_port host new does.1) aside

-- ## What sets it aside

halts : (errors : Errors) (dev : ℕ) (o : Option Fault) → is_some (port_cause o) ≡ true → is_some (errors_with errors dev o).port ≡ true
halts errors dev (Some (fault.Port c)) is = refl
halts errors dev other is = cc is

halts_in : (on : Bool) (errors : Errors) (dev : ℕ) (o : Option Fault) → is_some (port_cause o) ≡ true
    → is_some (errors_in on errors dev o).port ≡ true
halts_in true errors dev o is = halts errors dev o is
halts_in false errors dev (Some (fault.Port c)) is = refl
halts_in false errors dev other is = cc is

took_fault : (host new : Host) (frame : List ℕ) (report : TakeReport) (b : Bool) → ignores (port_of frame) host.port frame ≡ b
    → TakesFrame host frame report new → is_some report.fault ≡ true → is_some (view_of (port_of frame) new.port).fault ≡ true
unfolding heard_report
took_fault host new frame report true is takes faulty =
    let none = ap (λ (r : TakeReport). is_some r.fault) (takes.ignored is).reports in
    absurd (true≢false (sym faulty ∙ none))
took_fault host new frame report false is takes faulty =
    let t = takes.heard is in
    ap (λ (v : DeviceView). is_some v.fault) t.own ∙ sym (ap (λ (r : TakeReport). is_some r.fault) t.reports) ∙ faulty

took_stop : (host new : Host) (frame : List ℕ) (report : TakeReport) (b : Bool) → ignores (port_of frame) host.port frame ≡ b
    → TakesFrame host frame report new → is_some report.stopped ≡ true → is_some new.port.errors.port ≡ true
unfolding heard_report
took_stop host new frame report true is takes stopped =
    let none = ap (λ (r : TakeReport). is_some r.stopped) (takes.ignored is).reports in
    absurd (true≢false (sym stopped ∙ none))
took_stop host new frame report false is takes stopped =
    let t = takes.heard is in
    let h : Heard = heard_now host.port host.memory (port_of frame) (admitted (port_of frame) (seen frame)) in
    ap (λ (e : Errors). is_some e.port) t.errors
    ∙ halts_in host.port.registers.switching host.port.errors (port_of frame) h.fault (sym (ap (λ (r : TakeReport). is_some r.stopped) t.reports) ∙ stopped)

fails : (n : ℕ) (host new : Host) (out : Outgoing) (frame : Option Stamped) (past : History)
    → Gives out host.port host.memory frame new.port → fails_by_bus out ≡ true → is_some new.port.errors.port ≡ true
fails n host new (Unreadable dev) frame past gives is = ap (λ (p : Port). is_some p.errors.port) gives.1
fails n host new other frame past gives is = cc is

starts_wrote : (n : ℕ) (host new : Host) (register : Register) (value : ℕ) (past : History) → WritesAside n host register value
    → IsAside n new (own n (touched host (Wrote register value)) ++ past)
starts_wrote n host new Cmd value past is =
    Spared (subst (λ (b : Bool). AreUnqueued (own n (if b then Stops ∷ [] else []) ++ past)) (sym is) (emptied past))
starts_wrote n host new Fbs value past is = Spared (cleared_is n host value past is)
starts_wrote n host new other value past is = absurd is

starts_took : (n : ℕ) (host new : Host) (frame : List ℕ) (report : TakeReport) (past : History) → TakesFrame host frame report new
    → ((port_of frame ≡ n) × (is_some report.fault ≡ true)) ⊎ (is_some report.stopped ≡ true) → IsAside n new past
starts_took n host new frame report past takes (inl faulty) =
    Faulty (subst (λ (m : ℕ). is_some (view_of m new.port).fault ≡ true) faulty.0
    (took_fault host new frame report (ignores (port_of frame) host.port frame) refl takes faulty.1))
starts_took n host new frame report past takes (inr stopped) =
    Halted (took_stop host new frame report (ignores (port_of frame) host.port frame) refl takes stopped)

starts : (n : ℕ) (host new : Host) (event : HostEvent) (past : History) → n < 16 → Does host event new → SetsAside n host event
    → IsAside n new (own n (touched host event) ++ past)
starts n host new (Took frame report) past below does is = starts_took n host new frame report _ does is
starts n host new (Wrote register value) past below does is = starts_wrote n host new register value past is
starts n host new (Flushed dev) past below does is = Spared (flushed_is n dev past is)
starts n host new (Gave frame) past below does is = Halted (fails n host new (outgoing host.port host.memory) frame past does.0 is)
starts n host new other past below does is = absurd is

pub aside_is_kept : AsideIsKept
aside_is_kept = record { starts = starts; goes_on = goes_on; never_done = never_done }
