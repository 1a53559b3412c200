-- For `flushes_go_down`. A FLUSH that was transmitted to a disk is counted at one of the two ends, over each turn of
-- the host and each step of the disk.
use Rattle.std.proofs.Common.{◌≡◌, ℕ, zero, suc, ◌+◌, ◌<◌, ◌≤◌, Bool, true, false, cond, eqb, List, [], ◌∷◌, ◌++◌, drop, length, refl, sym, ap, subst}
use Rattle.std.proofs.{Common.{◌∙◌, inl, inr, arith, Option, Some, None, Result}, lemmas.Bool.{eqb-true, false≢true}}
use Rattle.std.specs.{Prelude.{◌⊎◌, if◌then◌else◌, map}, List.flat_map}
use Rattle.fis_view.specs.{Frames.{IsFrame, Stamped, marked}, Seen.seen, declared.view.{Fis.Fis, FisFault.FisFault}}
use Rattle.hba_commands.proofs.Door.{built_long}
use Rattle.hba_commands.specs.Requests.{kind_of, request_of as fields_request, work_of}
use Rattle.hba_commands.specs.declared.command.Command as issued_command
use Rattle.host_memory.specs.Memory.{Memory}
use Rattle.slots.specs.{Slots.{Issue, holds, is_pio, issue_at}, declared.work.Work.Work}
use Rattle.slots.specs.Work as moved
use Rattle.slots.specs.declared.answer.Answered.TheVariants as answer
use Rattle.hba_fbs.specs.declared.hearing.Happening as heard_as
use Rattle.hba_fbs.specs.declared.hearing.Happening.TheVariants as happening
use Rattle.hba_fbs.specs.declared.{register.Register.{Register, TheVariants.{Cmd, Ci, Fbs}}, report.TakeReport.TakeReport, status.Block.Block}
use Rattle.hba_fbs.specs.{Registers.falls, Sending.{Gives, Outgoing, outgoing}, Taking.{admitted, heard_now, ignores, port_of}, Issuing.aimed}
use Rattle.hba_fbs.specs.{Issuing.asked, Writing.cleared_by}
use Rattle.hba_fbs.specs.Sending as out
use Rattle.disk_model.specs.{declared.{request.Request.TheVariants.Flush, plan.DiskPlan.DiskPlan}, Anew.IsRequest, Histories.Happening, Ledger.ledger}
use Rattle.disk_model.specs.Histories as at_disk
use Rattle.hba_laws.specs.{Client.{By, Puts, Stops, Touches, own}, Delivering.{begun_by, by_device, event_heard, event_of, event_sent, event_taken}}
use Rattle.hba_laws.specs.Delivering.{is_control_issue, issued_below, issued_in, touched, touched_by_clear, touched_by_out, touched_by_write}
use Rattle.hba_laws.specs.{Delivering.touches_after, History.{Event, History, Issued, Sent, SentControl, SetUp, Transfer, issued}, Hosts.HostEvent}
use Rattle.hba_laws.specs.{Hosts.Runs, Sound.IsHost, Between.{GoesOut, NotIssue}}
use Rattle.hba_laws.specs.Hosts as event
use Rattle.hba_laws.proofs.Door.{goes_out, issued_before, some_inj}
use Rattle.disk_simulation.specs.{Line.IsAskedAlike, Together.is_sent}
use Rattle.disk_simulation.proofs.Door.{marks_ask_nothing}
use Rattle.hba_driver.specs.{Drivers.{Entry, entry_at}, Events.{events_over, gave, pushed_by, shared_by}, HostTurns.{Does, DoesAll, Host, HostTurn}}
use Rattle.hba_driver.specs.{HostTurns.{Pushed, Took}, Orders.request_fields, Served.{IsBuiltOf, IsServed, RunServes}, Between.From}
use Rattle.hba_driver.specs.Orders as orders
use Rattle.hba_driver.specs.declared.request.Work as driver_work
use Rattle.hba_driver.specs.declared.request.Work.TheVariants as work
use Rattle.hba_driver.proofs.Door.{each_run_tells, sound_shared}
use Rattle.disk_recovery.proofs.honest.{FisLemmas.{flush_is, request_kind}, PushLemmas.{HasLast, OutTold, out_last, out_told, short_frame}}
use Rattle.disk_recovery.proofs.{honest.TurnLemmas.after, both_ends.{EndLemmas.ends_go_on, FloorLemmas.{floors_more, floors_rise}}}
use Rattle.disk_recovery.proofs.flushes.FlushLemmas.{among_first, among_more, among_one, flushes_more, taken_one, taken_sent}
use Rattle.disk_recovery.specs.{Ends.{EndsAfter, IsBesideTurn, IsRunning}, Flushes.{AreEndsSince, AreFloorsOf, AreFlushed, DisksLeaveSince}}
use Rattle.disk_recovery.specs.Flushes.{EndsSinceAfter, EndsSinceGoOn, Floor, FloorsRiseSince, IsFloor, MayRiseSince, SinceBegins, TurnsLeaveSince}
use Rattle.disk_recovery.specs.Flushes.{asks_flush, flush_floors, flushes_among, flushes_taken, is_flush, one_if, write_floors}

-- ---- one event of the device

unfoldable pub NotSend : Event → Type 0
NotSend (Sent slot) = ⊥
NotSend e = Unit {0}

-- what is issued in a slot, and was transmitted
abbrev pub IsOut : ℕ → History → Transfer → Type 0
IsOut s past t = (issued s past ≡ Some t) × (is_sent s past ≡ true)

-- it was so before an event that transmits nothing
out_before : (s : ℕ) (e : Event) (past : History) (t : Transfer) → NotSend e → IsOut s (e ∷ past) t → IsOut s past t
unfolding NotSend NotIssue
out_before s (Issued slot u) past t quiet o = by_slot (eqb slot s) o.0 o.1
  where
    by_slot : (b : Bool) → cond b (Some u) (issued s past) ≡ Some t → cond b false (is_sent s past) ≡ true → IsOut s past t
    by_slot true here sent = absurd (false≢true sent)
    by_slot false here sent = (here, sent)
out_before s (Sent slot) past t quiet o = absurd quiet
out_before s other past t quiet o = (issued_before s other past t tt o.0, o.1)

-- touches of which none transmits a command of the device
unfoldable pub NoneSends : ℕ → Touches → Type 0
NoneSends n [] = Unit {0}
NoneSends n (By dev e ∷ rest) = (dev ≡ n → NotSend e) × NoneSends n rest
NoneSends n (Stops ∷ rest) = NoneSends n rest
NoneSends n (Puts at bytes ∷ rest) = NoneSends n rest

was_out : (n s : ℕ) (touches past : Touches) (t : Transfer) → NoneSends n touches → IsOut s (own n (touches ++ past)) t → IsOut s (own n past) t
unfolding NoneSends
was_out n s [] past t none o = o
was_out n s (By dev e ∷ rest) past t none o = was_out n s rest past t none.1 (by_test (eqb dev n) refl o)
  where
    by_test : (b : Bool) → eqb dev n ≡ b → IsOut s (cond b (e ∷ own n (rest ++ past)) (own n (rest ++ past))) t → IsOut s (own n (rest ++ past)) t
    by_test true is o = out_before s e (own n (rest ++ past)) t (none.0 (eqb-true dev n is)) o
    by_test false is o = o
was_out n s (Stops ∷ rest) past t none o = let bad : None ≡ Some t = o.0 in cc bad
was_out n s (Puts at bytes ∷ rest) past t none o = was_out n s rest past t none o

-- it was so too before a command without a setup was sent
begun_out : (n s dev slot : ℕ) (o : Option Issue) (e : Event) (past : Touches) (t : Transfer)
    → IsOut s (own n ((map (By dev) (begun_by slot o) ++ By dev e ∷ []) ++ past)) t → IsOut s (own n (By dev e ∷ past)) t
unfolding NoneSends NotSend
begun_out n s dev slot None e past t out = out
begun_out n s dev slot (Some i) e past t out = by_dma (moved.is_dma i.work.kind) out
  where
    by_dma : (b : Bool) → IsOut s (own n ((map (By dev) (if b then SetUp slot 0 i.work.len (moved.is_read i.work.kind) ∷ [] else []) ++ By dev e ∷ []) ++ past)) t
        → IsOut s (own n (By dev e ∷ past)) t
    by_dma true now = was_out n s (By dev (SetUp slot 0 i.work.len (moved.is_read i.work.kind)) ∷ []) (By dev e ∷ past) t (λ same. tt, tt) now
    by_dma false now = now

-- ---- which events transmit nothing

happening_quiet : (n dev : ℕ) (x : heard_as.Happening) (block : Option Block) (payload : List ℕ) → NoneSends n (by_device dev (event_of x block payload))
unfolding NoneSends NotSend
happening_quiet n dev happening.Nothing block payload = tt
happening_quiet n dev (happening.Answered (answer.Short slot)) block payload = tt
happening_quiet n dev (happening.PioSetUp count to_host) None payload = tt
happening_quiet n dev (happening.PioSetUp count to_host) (Some b) payload = (λ e. tt, tt)
happening_quiet n dev happening.Activated block payload = tt
happening_quiet n dev other block payload = (λ e. tt, tt)

took_quiet : (n : ℕ) (old : event.Host) (frame : List ℕ) → NoneSends n (by_device (port_of frame) (event_taken old frame))
unfolding NoneSends
took_quiet n old frame = by_ignored (ignores (port_of frame) old.port frame)
  where
    by_ignored : (b : Bool) → NoneSends n (by_device (port_of frame) (cond b None (event_heard (heard_now old.port old.memory (port_of frame) (admitted (port_of frame) (seen frame))) (drop 4 frame))))
    by_ignored true = tt
    by_ignored false =
        let h = heard_now old.port old.memory (port_of frame) (admitted (port_of frame) (seen frame)) in
        happening_quiet n (port_of frame) h.happening h.state.block (drop 4 frame)

clear_quiet : (n : ℕ) (o : Option ℕ) → NoneSends n (touched_by_clear o)
unfolding NoneSends NotSend
clear_quiet n None = tt
clear_quiet n (Some dev) = (λ e. tt, tt)

falls_quiet : (n : ℕ) (b : Bool) → NoneSends n (cond b (Stops ∷ []) [])
unfolding NoneSends
falls_quiet n true = tt
falls_quiet n false = tt

issues_quiet : (n dev : ℕ) (memory : Memory) (commands : ℕ → Option issued_command.Command) (m : ℕ) → NoneSends n (issued_below dev memory commands m)
unfolding NoneSends NotSend issued_below
issues_quiet n dev memory commands zero = tt
issues_quiet n dev memory commands (suc m) = by_command (commands m) (issues_quiet n dev memory commands m)
  where
    by_command : (o : Option issued_command.Command) → NoneSends n (issued_below dev memory commands m)
        → NoneSends n (issued_in dev memory m o ++ issued_below dev memory commands m)
    by_command None rest = rest
    by_command (Some c) rest = (λ e. tt, rest)

write_quiet : (n : ℕ) (old : event.Host) (register : Register) (value : ℕ) → NoneSends n (touched_by_write register old value)
unfolding NoneSends
write_quiet n old Cmd value = falls_quiet n (falls old.port.registers value)
write_quiet n old Ci value = issues_quiet n (aimed old.port.registers old.memory.structure value) old.memory (asked old.port.registers old.memory value) 32
write_quiet n old Fbs value = clear_quiet n (cleared_by old.port.errors value)
write_quiet n old other value = tt

-- an event in which the port is asked for no frame
event_quiet : (n : ℕ) (old : event.Host) (e : HostEvent) → gave e ≡ [] → NoneSends n (touched old e)
unfolding NoneSends NotSend
event_quiet n old (event.Took frame report) none = took_quiet n old frame
event_quiet n old (event.Wrote register value) none = write_quiet n old register value
event_quiet n old (event.Flushed dev) none = (λ e. tt, tt)
event_quiet n old (event.Gave frame) none = cc none
event_quiet n old other none = tt

none_first : {X : Type 0} (xs ys : List X) → xs ++ ys ≡ [] → (xs ≡ []) × (ys ≡ [])
none_first [] ys is = (refl, is)
none_first (x ∷ xs) ys is = cc is

-- over events of which none asks for a frame
events_quiet : (n s : ℕ) (old new : event.Host) (events : List HostEvent) (run : Runs old events new) (past : Touches) (t : Transfer)
    → flat_map gave events ≡ [] → IsOut s (own n (touches_after past old new events run)) t → IsOut s (own n past) t
events_quiet n s old new [] run past t none o = o
events_quiet n s old new (e ∷ events) run past t none o =
    let parts = none_first (gave e) (flat_map gave events) none in
    was_out n s (touched old e) past t (event_quiet n old e parts.0)
    (events_quiet n s run.0 new events run.2 (touched old e ++ past) t parts.1 o)

-- ---- a turn

module _ (n : ℕ) (old : Host) (turn : HostTurn) (new : Host) (run : DoesAll old (turn ∷ []) new) (touches : Touches)
    (serves : RunServes old new (turn ∷ []) run touches) where
  abbrev now_touches : Touches
  now_touches = touches_after touches (shared_by old) (shared_by new) (events_over old new (turn ∷ []) run) serves.runs

  -- a turn in which the port is asked for no frame
  turn_quiet : pushed_by turn ≡ [] → (s : ℕ) (t : Transfer) → IsOut s (own n now_touches) t → IsOut s (own n touches) t
  turn_quiet none s t o =
      let nothing : flat_map pushed_by (turn ∷ []) ≡ [] = ap (λ (xs : List (Option Stamped)). xs ++ []) none in
      events_quiet n s (shared_by old) (shared_by new) (events_over old new (turn ∷ []) run) serves.runs touches t
      ((each_run_tells old new (turn ∷ []) run).given ∙ nothing) o

-- what went out, where the command of a slot did: a FLUSH to the device
abbrev IsFlushTo : ℕ → Stamped → Type 0
IsFlushTo n frame = (frame.stamp.port ≡ n) × (is_flush (seen (marked frame.bytes 0)) ≡ true)

slot_out : (s slot : ℕ) (past : History) (t : Transfer) → eqb slot s ≡ false → IsOut s (Sent slot ∷ past) t → IsOut s past t
unfolding NotIssue
slot_out s slot past t other o =
    (issued_before s (Sent slot) past t tt o.0, sym (ap (λ (b : Bool). if b then true else is_sent s past) other) ∙ o.1)

module _ (n : ℕ) (old : Host) (frame : Stamped) (new : Host) (does : Does old (Pushed (Some frame)) new) (touches : Touches) (sound : IsHost (shared_by old))
    (served : IsServed old.driver (shared_by old) touches) where
  -- the FIS of a FLUSH
  flush_fis : (slot : ℕ) (command : issued_command.Command) → frame.bytes ≡ command.cfis → (o : OutTold old touches n slot command) → slot < 30
      → moved.is_queued o.transfer.work.kind ≡ false → is_flush (seen (marked frame.bytes 0)) ≡ true
  flush_fis slot command bytes o low calm = by_from (served.issues n slot o.transfer o.there).from
    where
      by_entry : (e : Entry) → entry_at old.driver.entries slot ≡ Some e → is_flush (seen (marked frame.bytes 0)) ≡ true
      by_entry e stands =
          let built : IsBuiltOf (request_fields slot e.head) o.transfer command = o.fis.of_request e low stands in
          let kind : moved.is_queued o.transfer.work.kind ≡ orders.is_queued e.head.work =
          ap (λ (w : Work). moved.is_queued w.kind) built.work ∙ request_kind slot e in
          let framed : IsFrame frame.bytes = short_frame frame command bytes (built_long (request_fields slot e.head) command.cfis built.cfis) in
          let asks : IsRequest frame.bytes Flush = record {
            frame = command.cfis;
            is = ap seen bytes ∙ built.cfis.viewed;
            asks = flush_is slot e command.cfis (sym kind ∙ calm) built.cfis;
          } in
          let alike : IsAskedAlike frame.bytes (marked frame.bytes 0) = marks_ask_nothing frame.bytes 0 framed (omega arith) in
          let same : IsRequest (marked frame.bytes 0) Flush = alike.request Flush asks in
          ap (λ (r : Result Fis FisFault). is_flush r) same.is ∙ ap asks_flush same.asks

      by_from : From old.driver n slot o.transfer → is_flush (seen (marked frame.bytes 0)) ≡ true
      by_from (inl r) = by_entry r.entry r.stands
      by_from (inr (inl i)) = absurd (omega (arith, low, i.slot))
      by_from (inr (inr k)) = absurd (omega (arith, low, k.slot))

  -- a command of the device goes out
  order_pushed : (slot : ℕ) (command : issued_command.Command) → frame.bytes ≡ command.cfis → frame.stamp.port ≡ n → OutTold old touches n slot command
      → (s : ℕ) (t : Transfer) → s < 30 → moved.is_queued t.work.kind ≡ false
      → (c : Bool) → IsOut s (cond c (SentControl slot) (Sent slot) ∷ own n touches) t → IsOut s (own n touches) t ⊎ IsFlushTo n frame
  unfolding NotSend NotIssue
  order_pushed slot command bytes port o s t low calm true was = inl (out_before s (SentControl slot) (own n touches) t tt was)
  order_pushed slot command bytes port o s t low calm false was = by_slot (eqb slot s) refl
    where
      by_slot : (b : Bool) → eqb slot s ≡ b → IsOut s (own n touches) t ⊎ IsFlushTo n frame
      by_slot false other = inl (slot_out s slot (own n touches) t other was)
      by_slot true at =
          let same : slot ≡ s = eqb-true slot s at in
          let there : issued s (own n touches) ≡ Some t = issued_before s (Sent slot) (own n touches) t tt was.0 in
          let is : o.transfer ≡ t = some_inj o.transfer t (sym o.there ∙ ap (λ (m : ℕ). issued m (own n touches)) same ∙ there) in
          inr (port, flush_fis slot command bytes o (subst (λ (m : ℕ). m < 30) (sym same) low) (ap (λ (u : Transfer). moved.is_queued u.work.kind) is ∙ calm))

  by_frame : (o : Outgoing) → Gives o old.port old.memory (Some frame) new.port → HasLast old.port o → GoesOut old.port o
      → (s : ℕ) (t : Transfer) → s < 30 → moved.is_queued t.work.kind ≡ false
      → IsOut s (own n (touched_by_out (shared_by old) o ++ touches)) t → IsOut s (own n touches) t ⊎ IsFlushTo n frame
  unfolding NoneSends NotSend
  by_frame (out.Data dev offset len command) gave last goes s t low calm was =
      inl (was_out n s (touched_by_out (shared_by old) (out.Data dev offset len command)) touches t (λ e. tt, tt) was)
  by_frame (out.Order dev slot command) gave last goes s t low calm was =
      by_dev (eqb dev n) refl (begun_out n s dev slot (issue_at old.port.slots slot) (event_sent old.port.slots slot) touches t was)
    where
      by_dev : (b : Bool) → eqb dev n ≡ b → IsOut s (cond b (event_sent old.port.slots slot ∷ own n touches) (own n touches)) t
          → IsOut s (own n touches) t ⊎ IsFlushTo n frame
      by_dev false other o = inl o
      by_dev true at o =
          let same : dev ≡ n = eqb-true dev n at in
          let told : OutTold old touches n slot command =
          subst (λ (d : ℕ). OutTold old touches d slot command) same (out_told old touches dev slot command sound served goes last) in
          order_pushed slot command (ap (λ (x : Stamped). x.bytes) gave.frame_is) (ap (λ (x : Stamped). x.stamp.port) gave.frame_is ∙ same) told s t low calm
          (holds is_control_issue (issue_at old.port.slots slot)) o
  by_frame rest gave last goes s t low calm was = inl was

  pub pushed_out : (s : ℕ) (t : Transfer) → s < 30 → moved.is_queued t.work.kind ≡ false
      → IsOut s (own n (touched_by_out (shared_by old) (outgoing old.port old.memory) ++ touches)) t → IsOut s (own n touches) t ⊎ IsFlushTo n frame
  pushed_out = by_frame (outgoing old.port old.memory) does.gives (out_last old.port old.memory) (goes_out old.port old.memory)

-- the port was asked for a frame, and gave none
none_out : (n : ℕ) (old new : Host) (touches : Touches) (o : Outgoing) → Gives o old.port old.memory None new.port → (s : ℕ) (t : Transfer)
    → IsOut s (own n (touched_by_out (shared_by old) o ++ touches)) t → IsOut s (own n touches) t
none_out n old new touches (out.Data dev offset len command) gave s t was = absurd gave
none_out n old new touches (out.Order dev slot command) gave s t was = absurd gave
none_out n old new touches other gave s t was = was

-- ---- both ends

-- each FLUSH that is out was so before
abbrev StayOut : ℕ → (before now : Touches) → Type 0
StayOut n before now = (s : ℕ) (t : Transfer) → s < 30 → moved.is_queued t.work.kind ≡ false → IsOut s (own n now) t → IsOut s (own n before) t

still_flushed : (n : ℕ) (floors : ℕ → ℕ) (disk : List Happening) (down : List (List ℕ)) (before now : Touches) → StayOut n before now
    → AreFlushed n floors disk down before → AreFlushed n floors disk down now
still_flushed n floors disk down before now stay f = record {
  low = f.low;
  gone = λ s t less here calm sent. let was : IsOut s (own n before) t = stay s t less calm (here, sent) in f.gone s t less was.0 calm was.1;
}

module _ (n : ℕ) (plan : DiskPlan) (sectors : ℕ) where
  beside_stays : (old : Host) (turn : HostTurn) (new : Host) (run : DoesAll old (turn ∷ []) new) (disk : List Happening) (touches : Touches)
      (serves : RunServes old new (turn ∷ []) run touches) → IsRunning plan sectors disk touches old → IsBesideTurn n old turn
      → StayOut n touches (now_touches n old turn new run touches serves)
  beside_stays old (Pushed None) new run disk touches serves runs beside s t low calm o =
      let d : Does old (Pushed None) new = after old (Pushed None) new run in
      none_out n old new touches (outgoing old.port old.memory) d.gives s t o
  beside_stays old (Pushed (Some frame)) new run disk touches serves runs beside s t low calm o =
      let d : Does old (Pushed (Some frame)) new = after old (Pushed (Some frame)) new run in
      elim (pushed_out n old frame new d touches (sound_shared old runs.on.sound) runs.on.served s t low calm o) [
        | inl was ↦ was
        | inr to ↦ absurd (beside to.0)
      ]
  beside_stays old other new run disk touches serves runs beside s t low calm o = turn_quiet n old other new run touches serves refl s t o

  since_beside : (old : Host) (turn : HostTurn) (new : Host) (run : DoesAll old (turn ∷ []) new)
      (disk : List Happening) (down up : List (List ℕ)) (floors : ℕ → Floor) (touches : Touches) → n < 15
      → IsRunning plan sectors disk touches old → IsBesideTurn n old turn → AreEndsSince n old disk down up floors touches
      → EndsSinceAfter n old turn new run disk down up floors touches
  since_beside old turn new run disk down up floors touches below runs beside e =
      let a : EndsAfter n old turn new run disk down up (write_floors floors) touches =
      (ends_go_on n plan sectors).0.beside old turn new run disk down up (write_floors floors) touches below runs beside e.ends in
      record {
        serves = a.serves;
        ends = record {
          ends = a.ends;
          flushed = still_flushed n (flush_floors floors) disk down touches (now_touches n old turn new run touches a.serves)
              (beside_stays old turn new run disk touches a.serves runs beside) e.flushed;
        };
      }

  since_takes : (old : Host) (bytes : List ℕ) (report : TakeReport) (new : Host) (run : DoesAll old (Took (marked bytes n) report ∷ []) new)
      (disk : List Happening) (down up : List (List ℕ)) (floors : ℕ → Floor) (touches : Touches) → n < 15
      → IsRunning plan sectors disk touches old → IsFrame bytes → port_of (marked bytes n) ≡ n → AreEndsSince n old disk down (bytes ∷ up) floors touches
      → EndsSinceAfter n old (Took (marked bytes n) report) new run disk down up floors touches
  since_takes old bytes report new run disk down up floors touches below runs framed port e =
      let a : EndsAfter n old (Took (marked bytes n) report) new run disk down up (write_floors floors) touches =
      (ends_go_on n plan sectors).0.takes old bytes report new run disk down up (write_floors floors) touches below runs framed port e.ends in
      record {
        serves = a.serves;
        ends = record {
          ends = a.ends;
          flushed = still_flushed n (flush_floors floors) disk down touches (now_touches n old (Took (marked bytes n) report) new run touches a.serves)
              (λ s t low calm o. turn_quiet n old (Took (marked bytes n) report) new run touches a.serves refl s t o) e.flushed;
        };
      }

  -- a FLUSH more is on its way
  more_down : (down : List (List ℕ)) (bytes : List ℕ) → flushes_among (down ++ bytes ∷ []) ≡ flushes_among down + one_if (is_flush (seen bytes))
  more_down down bytes = among_more down (bytes ∷ []) ∙ ap (λ (m : ℕ). flushes_among down + m) (among_one bytes)

  given_flushed : (old : Host) (frame : Stamped) (new : Host) (run : DoesAll old (Pushed (Some frame) ∷ []) new) (disk : List Happening) (down : List (List ℕ))
      (floors : ℕ → ℕ) (touches : Touches) (serves : RunServes old new (Pushed (Some frame) ∷ []) run touches) → IsRunning plan sectors disk touches old
      → AreFlushed n floors disk down touches
      → AreFlushed n floors disk (down ++ marked frame.bytes 0 ∷ []) (now_touches n old (Pushed (Some frame)) new run touches serves)
  given_flushed old frame new run disk down floors touches serves runs f = record {
    low = f.low;
    gone = λ s t less here calm sent.
        let d : Does old (Pushed (Some frame)) new = after old (Pushed (Some frame)) new run in
        let long : flushes_among (down ++ marked frame.bytes 0 ∷ []) ≡ flushes_among down + one_if (is_flush (seen (marked frame.bytes 0))) =
        more_down down (marked frame.bytes 0) in
        elim (pushed_out n old frame new d touches (sound_shared old runs.on.sound) runs.on.served s t less calm (here, sent)) [
          | inl was ↦
              let before : floors s < flushes_taken disk + flushes_among down = f.gone s t less was.0 calm was.1 in
              omega (arith, long, before)
          | inr to ↦
              let one : one_if (is_flush (seen (marked frame.bytes 0))) ≡ 1 = ap one_if to.1 in
              let reached : floors s ≤ flushes_taken disk = f.low s in
              omega (arith, long, one, reached)
        ];
  }

  since_gives : (old : Host) (frame : Stamped) (new : Host) (run : DoesAll old (Pushed (Some frame) ∷ []) new)
      (disk : List Happening) (down up : List (List ℕ)) (floors : ℕ → Floor) (touches : Touches) → n < 15
      → IsRunning plan sectors disk touches old → frame.stamp.port ≡ n → AreEndsSince n old disk down up floors touches
      → EndsSinceAfter n old (Pushed (Some frame)) new run disk (down ++ marked frame.bytes 0 ∷ []) up floors touches
  since_gives old frame new run disk down up floors touches below runs its e =
      let a : EndsAfter n old (Pushed (Some frame)) new run disk (down ++ marked frame.bytes 0 ∷ []) up (write_floors floors) touches =
      (ends_go_on n plan sectors).0.gives old frame new run disk down up (write_floors floors) touches below runs its e.ends in
      record {
        serves = a.serves;
        ends = record { ends = a.ends; flushed = given_flushed old frame new run disk down (flush_floors floors) touches a.serves runs e.flushed };
      }

  come_flushed : (disk : List Happening) (back : List (List ℕ)) (bytes : List ℕ) (floors : ℕ → ℕ) (touches : Touches)
      → AreFlushed n floors disk (bytes ∷ back) touches → AreFlushed n floors (disk ++ at_disk.Received bytes ∷ []) back touches
  come_flushed disk back bytes floors touches f =
      let more : flushes_taken (disk ++ at_disk.Received bytes ∷ []) ≡ flushes_taken disk + one_if (is_flush (seen bytes)) =
      flushes_more disk (at_disk.Received bytes ∷ []) ∙ ap (λ (m : ℕ). flushes_taken disk + m) (taken_one bytes) in
      let first : flushes_among (bytes ∷ back) ≡ one_if (is_flush (seen bytes)) + flushes_among back = among_first bytes back in
      record {
        low = λ s. let was : floors s ≤ flushes_taken disk = f.low s in omega (arith, more, was);
        gone = λ s t less here calm sent.
            let was : floors s < flushes_taken disk + flushes_among (bytes ∷ back) = f.gone s t less here calm sent in omega (arith, more, first, was);
      }

  send_flushed : (disk : List Happening) (down : List (List ℕ)) (bytes : List ℕ) (floors : ℕ → ℕ) (touches : Touches)
      → AreFlushed n floors disk down touches → AreFlushed n floors (disk ++ at_disk.Sent bytes ∷ []) down touches
  send_flushed disk down bytes floors touches f =
      let more : flushes_taken (disk ++ at_disk.Sent bytes ∷ []) ≡ flushes_taken disk + 0 =
      flushes_more disk (at_disk.Sent bytes ∷ []) ∙ ap (λ (m : ℕ). flushes_taken disk + m) (taken_sent bytes) in
      record {
        low = λ s. let was : floors s ≤ flushes_taken disk = f.low s in omega (arith, more, was);
        gone = λ s t less here calm sent.
            let was : floors s < flushes_taken disk + flushes_among down = f.gone s t less here calm sent in omega (arith, more, was);
      }

  turns_leave_since : TurnsLeaveSince n plan sectors
  turns_leave_since = record { beside = since_beside; gives = since_gives; takes = since_takes }

  disks_leave_since : DisksLeaveSince n plan sectors
  disks_leave_since = record {
    comes = λ h disk back up bytes floors touches below runs e. record {
      ends = (ends_go_on n plan sectors).1.comes h disk back up bytes (write_floors floors) touches below runs e.ends;
      flushed = come_flushed disk back bytes (flush_floors floors) touches e.flushed;
    };
    sends = λ h disk down up bytes floors touches below runs e. record {
      ends = (ends_go_on n plan sectors).1.sends h disk down up bytes (write_floors floors) touches below runs e.ends;
      flushed = send_flushed disk down bytes (flush_floors floors) touches e.flushed;
    };
  }

pub ends_since_go_on : EndsSinceGoOn
ends_since_go_on n plan sectors = (turns_leave_since n plan sectors, disks_leave_since n plan sectors)

pub since_begins : SinceBegins
since_begins n h disk down up touches none ends = record {
  ends = ends;
  flushed = record { low = λ s. omega arith; gone = λ s t less here calm sent. absurd (none s t here) };
}

-- ---- floors rise

module _ (n : ℕ) (floors next : ℕ → Floor) (disk : List Happening) (touches : Touches) (may : MayRiseSince n floors next disk touches) where
  writes_rise : (s : ℕ) → (write_floors next s ≡ write_floors floors s)
      ⊎ (((t : Transfer) → issued s (own n touches) ≡ Some t → ⊥) × (write_floors next s ≤ length (ledger disk).writes))
  writes_rise s = elim (may s) [
    | inl same ↦ inl (ap (λ (f : Floor). f.writes) same)
    | inr new ↦ inr (new.0, new.1.ended)
  ]

  rise_flushed : (down : List (List ℕ)) → AreFlushed n (flush_floors floors) disk down touches → AreFlushed n (flush_floors next) disk down touches
  rise_flushed down f = record {
    low = λ s. elim (may s) [
      | inl same ↦ subst (λ (x : Floor). x.flushes ≤ flushes_taken disk) (sym same) (f.low s)
      | inr new ↦ new.1.taken
    ];
    gone = λ s t less here calm sent. elim (may s) [
      | inl same ↦ subst (λ (x : Floor). x.flushes < flushes_taken disk + flushes_among down) (sym same) (f.gone s t less here calm sent)
      | inr new ↦ absurd (new.0 t here)
    ];
  }

pub floors_rise_since : FloorsRiseSince
floors_rise_since n plan sectors h disk down up floors next touches below runs may e = record {
  ends = floors_rise n plan sectors h disk down up (write_floors floors) (write_floors next) touches below runs (writes_rise n floors next disk touches may) e.ends;
  flushed = rise_flushed n floors next disk touches may down e.flushed;
}

-- a floor stays one, whatever happens more
pub floor_stays : (f : Floor) (happened more : List Happening) → IsFloor f happened → IsFloor f (happened ++ more)
floor_stays f happened more i =
    let longer : flushes_taken (happened ++ more) ≡ flushes_taken happened + flushes_taken more = flushes_more happened more in
    let low : f.flushes ≤ flushes_taken happened = i.taken in
    record {
      ended = floors_more (λ s. f.writes) happened more (λ s. i.ended) 0;
      taken = omega (arith, longer, low);
    }

pub floors_stay : (floors : ℕ → Floor) (happened more : List Happening) → AreFloorsOf floors happened → AreFloorsOf floors (happened ++ more)
floors_stay floors happened more are s = floor_stays (floors s) happened more (are s)

-- ---- a request moves no data by PIO

work_pio : (slot : ℕ) (w : driver_work.Work) (dev lba sectors : ℕ) → is_pio (kind_of (fields_request (orders.work_fields slot w dev lba sectors))) ≡ false
work_pio slot work.Read dev lba sectors = refl
work_pio slot other dev lba sectors = refl

pub request_pio : (slot : ℕ) (e : Entry) → is_pio (work_of (fields_request (request_fields slot e.head))).kind ≡ false
unfolding request_fields work_of
request_pio slot e = work_pio slot e.head.work e.head.dev e.head.lba e.head.sectors
