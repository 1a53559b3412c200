-- For `pushes_keep_honest`. What goes out to a disk fits what was told before, and the driver goes on to serve it
-- honestly.
use Rattle.std.proofs.Common.{◌≡◌, ◌≢◌, ℕ, suc, ◌<◌, ◌≤◌, ◌⊎◌, Bool, true, false, cond, List, [], ◌∷◌, ◌++◌, length, refl, sym, ◌∙◌, ap, subst, inl, inr, arith, Option, Some, None}
use Rattle.std.specs.{Prelude.{if◌then◌else◌, ◌==◌, ◌%◌, map, not, slice_index, Ok}, Option.option_map}
use Rattle.std.proofs.lemmas.{Bool.{cases_Bool, cases_eq, eq-eqb, false≢true, ne_eqb, true≢false}, Bool.Decides.nat_tests, List.append-nil}
use Rattle.std.proofs.lemmas.List.FromFn.{length-map-range_with_len}
use Rattle.fis_view.specs.{Frames.{IsFrame, Stamped, marked}, Seen.seen, Table.H2d}
use Rattle.fis_view.specs.declared.view.Fis.TheVariants as view
use Rattle.fis_view.proofs.Door.{port_bits, port_field}
use Rattle.host_memory.specs.Memory.{Memory}
use Rattle.hba_commands.proofs.Door.{built_long}
use Rattle.hba_commands.specs.declared.command.Command as issued_command
use Rattle.slots.specs.{Slots.{Issue, holds, is_control, issue_at, match_some, own_issue, slots_of, context_of}, Work.{is_dma, is_queued}}
use Rattle.slots.specs.{declared.work.Work.Work, Data.{payload, payload_len}, declared.table.Context.Context}
use Rattle.slots.proofs.Door.{lowest_is}
use Rattle.hba_fbs.specs.Sending.{Data, Gives, Nothing, Order, Outgoing, data_due, data_fis, data_with, gathered, is_due, next_receiver, next_to_send}
use Rattle.hba_fbs.specs.{Sending.{order_due, outgoing}, Tables.{prds_of, sound_command}, Taking.is_running, Views.{Port, last_command, view_of}}
use Rattle.disk_model.specs.{declared.request.Request.TheVariants.Queue, Ends.IsCareful, Histories.{Happening, Received}, Ledger.ledger}
use Rattle.disk_model.specs.Requests.{request_of}
use Rattle.hba_laws.specs.{Agreement.{work_of_issue, work_of_transfer}, Client.{By, Touches, own}}
use Rattle.hba_laws.specs.{Delivering.{begun_by, event_sent, is_control_issue, touched_by_out}, History.{Event, History, Transfer, issued}}
use Rattle.hba_laws.specs.{Sound.IsHost, Between.{GoesOut, HasContext, IsOwn}}
use Rattle.hba_laws.specs.History as told_as
use Rattle.hba_laws.specs.Hosts as event
use Rattle.hba_laws.proofs.Door.{goes_out, is_own, out_none, own_app, own_here, own_one, some_inj, was_there}
use Rattle.disk_simulation.specs.{Answers.IsAlone, Elsewhere.{IsForOther, LeavesDevice}, Hosted.{IsHosted, asks, gives, sends, stays}}
use Rattle.disk_simulation.specs.{Joined.IsAskedBy, Together.NoneQueued, Same.SlotCommand}
use Rattle.disk_simulation.proofs.Door.{begun_none, hosted_is_kept, others_leave_device}
use Rattle.hba_driver.specs.declared.request.Work as driver_work
use Rattle.hba_driver.specs.declared.request.Work.TheVariants as work
use Rattle.hba_driver.specs.{Drivers.{Driver, Entry, entry_at}, Events.shared_by, HostTurns.{Does, Host, Pushed}}
use Rattle.hba_driver.specs.{Served.{IsBuiltOf, IsFisOf, IsServed, RunServes}, Steady.{IsAskedOf, IsOpenAt}, Between.From}
use Rattle.hba_driver.specs.Orders as orders
use Rattle.hba_driver.proofs.Door.{issued_unended, rows_stay, sound_shared, sound_turn, steady_fields, steps_alone, told_of, turn_steady, turns_serve}
use Rattle.disk_recovery.specs.{Kept.{IsServedHonestly, PushesGoOn, PushesKeep, given_to}, Steady.HasSigned}
use Rattle.disk_recovery.proofs.honest.FisLemmas.{flush_is, identify_control, identify_is, identify_kind, identify_moves, request_asks}
use Rattle.disk_recovery.proofs.honest.{FisLemmas.{request_control, request_kind, request_moves}, SignLemmas.signed_given, TurnLemmas.after}

pub frame_by : (bytes : List ℕ) → 4 ≤ length bytes → length bytes ≤ 8196 → length bytes % 4 ≡ 0 → IsFrame bytes
frame_by bytes low high dwords = grind (arith, nat_tests)

-- ---- what goes out of a port

-- a command that goes out was issued last in its slot; data goes to a device that is there
abbrev pub HasLast : Port → Outgoing → Type 0
HasLast port (Data dev offset len command) = dev < 16
HasLast port (Order dev slot command) = last_command port.commands slot ≡ Some command
HasLast port other = Unit {0}

order_last : (port : Port) (slot : ℕ) → HasLast port (order_due port slot)
order_last port slot = by_issue (issue_at port.slots slot)
  where
    by_command : (i : Issue) (o : Option issued_command.Command) → last_command port.commands slot ≡ o → HasLast port (match_some o Nothing (Order i.dev slot))
    by_command i None h = tt
    by_command i (Some c) h = h

    by_issue : (o : Option Issue) → HasLast port (match_some o Nothing (λ issue. match_some (last_command port.commands slot) Nothing (Order issue.dev slot)))
    by_issue None = tt
    by_issue (Some i) = by_command i (last_command port.commands slot) refl

data_last : (port : Port) (memory : Memory) (dev : ℕ) → dev < 16 → HasLast port (data_due port memory dev)
data_last port memory dev below = by_payload (payload (context_of port.slots dev))
  where
    by_command : (offset len : ℕ) (o : Option issued_command.Command) → HasLast port (data_with dev offset len o)
    by_command offset len None = tt
    by_command offset len (Some c) = below

    by_payload : (o : Option (ℕ × ℕ × ℕ)) → HasLast port (match_some o Nothing (λ next. data_with dev next.1 next.2 (sound_command memory port.commands (view_of dev port).slots next.0)))
    by_payload None = tt
    by_payload (Some next) = by_command next.1 next.2 (sound_command memory port.commands (view_of dev port).slots next.0)

pub out_last : (port : Port) (memory : Memory) → HasLast port (outgoing port memory)
unfolding next_receiver
out_last port memory = by_running (is_running port)
  where
    by_slot : (o : Option ℕ) → HasLast port (match_some o Nothing (order_due port))
    by_slot None = tt
    by_slot (Some slot) = order_last port slot

    by_receiver : (o : Option ℕ) → ((dev : ℕ) → o ≡ Some dev → dev < 16) → HasLast port (match_some o (match_some (next_to_send port) Nothing (order_due port)) (data_due port memory))
    by_receiver None low = by_slot (next_to_send port)
    by_receiver (Some dev) low = data_last port memory dev (low dev refl)

    by_running : (b : Bool) → HasLast port (cond (not b) Nothing (match_some (next_receiver port) (match_some (next_to_send port) Nothing (order_due port)) (data_due port memory)))
    by_running false = tt
    by_running true = by_receiver (next_receiver port) (λ dev is. (lowest_is (is_due port.slots port.errors) 16 dev is).below)

-- the issue of a command that goes out
pub record OutIssue (port : Port) (dev slot : ℕ) : Type 0 where
  pub issue : Issue
  pub at : issue_at port.slots slot ≡ Some issue
  pub of_dev : issue.dev ≡ dev
  pub below : slot < 32

out_issue : (port : Port) (dev slot : ℕ) (command : issued_command.Command) → GoesOut port (Order dev slot command) → OutIssue port dev slot
unfolding GoesOut
out_issue port dev slot command goes = record { issue = goes.0; at = goes.1; of_dev = sym goes.2; below = goes.3 }

-- ---- the command that goes out

pub flush_of : (w : driver_work.Work) → orders.is_queued w ≡ false → orders.is_flush w ≡ true
flush_of work.Flush h = refl
flush_of other h = absurd (true≢false h)

-- it is told of by the history of its device, and built for it
pub record OutTold (old : Host) (touches : Touches) (dev slot : ℕ) (command : issued_command.Command) : Type 0 where
  pub transfer : Transfer
  pub there : issued slot (own dev touches) ≡ Some transfer
  pub fis : IsFisOf old.driver dev slot transfer command
  pub issue : Issue
  pub at : issue_at old.port.slots slot ≡ Some issue
  pub work : transfer.work ≡ issue.work
  pub port : slice_index command.cfis 1 % 16 ≡ dev

pub out_told : (old : Host) (touches : Touches) (dev slot : ℕ) (command : issued_command.Command) → IsHost (shared_by old) → IsServed old.driver (shared_by old) touches → GoesOut old.port (Order dev slot command) → last_command old.port.commands slot ≡ Some command
    → OutTold old touches dev slot command
out_told old touches dev slot command sound served goes last =
    let o : OutIssue old.port dev slot = out_issue old.port dev slot command goes in
    let long = sound.slots.slots in
    let low = o.below in
    let told = told_of (shared_by old) touches sound.slots served.told slot o.issue o.at in
    let here : issued slot (own dev touches) ≡ Some told.0 = subst (λ (k : ℕ). issued slot (own k touches) ≡ Some told.0) o.of_dev told.1 in
    let owned : own_issue (slots_of dev old.port.slots) slot ≡ Some o.issue =
    subst (λ (k : ℕ). own_issue (slots_of k old.port.slots) slot ≡ Some o.issue) o.of_dev (own_here slot old.port.slots o.issue (omega (arith, long, low)) o.at) in
    let small = (served.issues dev slot told.0 here).dev in
    let works : Some told.0.work ≡ Some o.issue.work = sym (ap (option_map work_of_transfer) here) ∙ (served.told dev small).issued slot ∙ ap (option_map work_of_issue) owned in
    let fis : IsFisOf old.driver dev slot told.0 command = served.fises dev slot told.0 command here last in
    record {
      transfer = told.0;
      there = here;
      fis = fis;
      issue = o.issue;
      at = o.at;
      work = some_inj told.0.work o.issue.work works;
      port = sym (port_field H2d command.cfis ∙ port_bits command.cfis) ∙ fis.to_dev;
    }

-- the command of a slot asks for what the slot's command is, or for one that is not queued while no queued one is issued
pub record IsOrderOf (slot : ℕ) (command : issued_command.Command) (given : List Happening) (commands : ℕ → SlotCommand) (past : History) (t : Transfer) : Type 0 where
  pub control : is_control t.work.kind ≡ false
  pub moves : is_dma t.work.kind ≡ false
  pub cfis : seen command.cfis ≡ Ok (view.RegH2D command.cfis)
  pub long : length command.cfis ≡ 20
  pub signed : HasSigned given
  pub queued : is_queued t.work.kind ≡ true → request_of command.cfis ≡ Queue (commands slot).command
  pub other : is_queued t.work.kind ≡ false → IsAlone (request_of command.cfis) × ((s : ℕ) → NoneQueued (issued s past))

pub none_queued : (o : Option Transfer) → ((u : Transfer) → o ≡ Some u → is_queued u.work.kind ≡ false) → NoneQueued o
none_queued None h = tt
none_queued (Some u) h = h u refl

module _ (n : ℕ) (old : Host) (given : List Happening) (commands : ℕ → SlotCommand) (touches : Touches) (below : n < 15) (h : IsServedHonestly n old given commands touches)
    (slot : ℕ) (command : issued_command.Command) (o : OutTold old touches n slot command) where
  -- what is issued in the same slot is the same
  same_kind : (s : ℕ) (u : Transfer) → issued s (own n touches) ≡ Some u → slot ≡ s → is_queued o.transfer.work.kind ≡ false → is_queued u.work.kind ≡ false
  same_kind s u here same calm =
      let is : o.transfer ≡ u = some_inj o.transfer u (sym o.there ∙ ap (λ (k : ℕ). issued k (own n touches)) same ∙ here) in
      ap (λ (t : Transfer). is_queued t.work.kind) (sym is) ∙ calm

  of_request : (e : Entry) → slot < 30 → entry_at old.driver.entries slot ≡ Some e → IsOpenAt n slot old.driver.entries e → IsOrderOf slot command given commands (own n touches) o.transfer
  of_request e low stands open' =
      let built : IsBuiltOf (orders.request_fields slot e.head) o.transfer command = o.fis.of_request e low stands in
      let kind : is_queued o.transfer.work.kind ≡ orders.is_queued e.head.work = ap (λ (w : Work). is_queued w.kind) built.work ∙ request_kind slot e in
      record {
        control = ap (λ (w : Work). is_control w.kind) built.work ∙ request_control slot e;
        moves = ap (λ (w : Work). is_dma w.kind) built.work ∙ request_moves slot e;
        cfis = built.cfis.viewed;
        long = built_long (orders.request_fields slot e.head) command.cfis built.cfis;
        signed = h.signed (inl (h.steady.requests.ready slot e open'));
        queued = λ q.
            let queued : orders.is_queued e.head.work ≡ true = sym kind ∙ q in
            request_asks slot e command.cfis low queued ((h.served.bounded.entries slot e stands).size queued) built.cfis ∙ ap Queue (sym (h.named slot o.transfer e o.there stands queued));
        other = λ q.
            let calm : orders.is_queued e.head.work ≡ false = sym kind ∙ q in (
              subst IsAlone (sym (flush_is slot e command.cfis calm built.cfis)) tt,
              λ s. none_queued (issued s (own n touches)) (λ u here. by_issue e open' (flush_of e.head.work calm) q s u here (h.served.issues n s u here).from),
            );
      }
    where
      by_issue : (e : Entry) → IsOpenAt n slot old.driver.entries e → orders.is_flush e.head.work ≡ true → is_queued o.transfer.work.kind ≡ false → (s : ℕ) (u : Transfer) → issued s (own n touches) ≡ Some u → From old.driver n s u → is_queued u.work.kind ≡ false
      by_issue e open' flush q s u here (inl r) =
          let other : IsOpenAt n s old.driver.entries r.entry = record { stands = r.stands; of_dev = r.of_dev; unended = issued_unended r.entry r.goes } in
          same_kind s u here (h.steady.requests.alone slot s e r.entry open' other flush) q
      by_issue e open' flush q s u here (inr (inl i)) = absurd (steps_alone n old.driver i.path slot e h.steady i.goes i.of_dev open')
      by_issue e open' flush q s u here (inr (inr k)) = absurd (omega (arith, below, k.of_dev))

  by_from : From old.driver n slot o.transfer → IsOrderOf slot command given commands (own n touches) o.transfer
  by_from (inl r) = of_request r.entry r.slot r.stands (record { stands = r.stands; of_dev = r.of_dev; unended = issued_unended r.entry r.goes })
  by_from (inr (inl i)) =
      let built : IsBuiltOf (orders.identify_fields n) o.transfer command = o.fis.of_step i.path (orders.identify_fields n) i.slot i.goes i.asked (steady_fields n old.driver.plan i.path h.steady.plan i.goes i.of_dev) in
      let calm : is_queued o.transfer.work.kind ≡ false = ap (λ (w : Work). is_queued w.kind) built.work ∙ identify_kind n in
      record {
        control = ap (λ (w : Work). is_control w.kind) built.work ∙ identify_control n;
        moves = ap (λ (w : Work). is_dma w.kind) built.work ∙ identify_moves n;
        cfis = built.cfis.viewed;
        long = built_long (orders.identify_fields n) command.cfis built.cfis;
        signed = h.signed (inr (i.path, (i.goes, i.of_dev)));
        queued = λ q. absurd (false≢true (sym calm ∙ q));
        other = λ q. (
          subst IsAlone (sym (identify_is n command.cfis built.cfis)) tt,
          λ s. none_queued (issued s (own n touches)) (λ u here. by_step s u here (h.served.issues n s u here).from q),
        );
      }
    where
      by_step : (s : ℕ) (u : Transfer) → issued s (own n touches) ≡ Some u → From old.driver n s u → is_queued o.transfer.work.kind ≡ false → is_queued u.work.kind ≡ false
      by_step s u here (inl r) q =
          absurd (steps_alone n old.driver i.path s r.entry h.steady i.goes i.of_dev (record { stands = r.stands; of_dev = r.of_dev; unended = issued_unended r.entry r.goes }))
      by_step s u here (inr (inl j)) q = same_kind s u here (i.slot ∙ sym j.slot) q
      by_step s u here (inr (inr k)) q = absurd (omega (arith, below, k.of_dev))
  by_from (inr (inr k)) = absurd (omega (arith, below, k.of_dev))

  order_of : IsOrderOf slot command given commands (own n touches) o.transfer
  order_of = by_from (h.served.issues n slot o.transfer o.there).from

-- ---- frames

pub short_frame : (f : Stamped) (command : issued_command.Command) → f.bytes ≡ command.cfis → length command.cfis ≡ 20 → IsFrame f.bytes
short_frame f command is long =
    let all : length f.bytes ≡ 20 = ap (λ (b : List ℕ). length b) is ∙ long in
    frame_by f.bytes (omega (arith, all)) (omega (arith, all)) (omega (arith, all))

-- data that goes out
pub record OutData (n len : ℕ) (old : Host) : Type 0 where
  pub context : Context
  pub now : (view_of n old.port).slots.context ≡ Some context
  pub asked : context.activated ≡ true
  pub long : len ≡ payload_len context

pub out_data : (n offset len : ℕ) (old : Host) (command : issued_command.Command) → GoesOut old.port (Data n offset len command) → OutData n len old
unfolding GoesOut
out_data n offset len old command goes = record { context = goes.0; now = goes.1; asked = goes.2; long = goes.3 }

data_frame : (n offset len : ℕ) (old : Host) (given : List Happening) (commands : ℕ → SlotCommand) (touches : Touches) → n < 15 → IsServedHonestly n old given commands touches → IsHost (shared_by old) → (command : issued_command.Command) (f : Stamped)
    → GoesOut old.port (Data n offset len command) → f.bytes ≡ data_fis n (gathered (prds_of old.memory command) offset len old.memory.client) → IsFrame f.bytes
data_frame n offset len old given commands touches below h sound command f goes is =
    let joined = (hosted_is_kept n (shared_by old) given commands (own n touches) below h.hosted).joined in
    let owns : IsOwn n (view_of n old.port).slots = is_own n old.port.slots sound.slots in
    let due : OutData n len old = out_data n offset len old command goes in
    let a : IsAskedBy due.context (ledger given) = joined.active due.context due.now due.asked in
    let short : a.current.count ≤ 8192 = joined.short a.current a.moving in
    let has : HasContext n (view_of n old.port).slots due.context = owns.contexts due.context due.now in
    let left_is : due.context.left ≡ a.current.count = a.left in
    let size = due.long in
    let dwords = has.is.left_dwords in
    let some = (has.is.activates due.asked).1 in
    let bytes : List ℕ = gathered (prds_of old.memory command) offset len old.memory.client in
    let long : length (gathered (prds_of old.memory command) offset len old.memory.client) ≡ len = length-map-range_with_len _ 0 len in
    let all : length (gathered (prds_of old.memory command) offset len old.memory.client) ≡ a.current.count = omega (arith, long, size, left_is, short) in
    let whole : length f.bytes ≡ suc (suc (suc (suc (length (gathered (prds_of old.memory command) offset len old.memory.client))))) = ap (λ (b : List ℕ). length b) is in
    frame_by f.bytes (omega (arith, whole)) (omega (arith, whole, all, short)) (omega (arith, whole, all, left_is, dwords))

-- ---- a frame goes out

pub given_here : (n : ℕ) (f : Stamped) → slice_index f.bytes 1 % 16 ≡ n → given_to n (Some f) ≡ Received (marked f.bytes 0) ∷ []
given_here n f port = ap (λ (b : Bool). if b then Received (marked f.bytes 0) ∷ [] else []) (eq-eqb (slice_index f.bytes 1 % 16) n port)

pub given_elsewhere : (n dev : ℕ) (f : Stamped) → slice_index f.bytes 1 % 16 ≡ dev → n ≢ dev → given_to n (Some f) ≡ []
given_elsewhere n dev f port other = ap (λ (b : Bool). if b then Received (marked f.bytes 0) ∷ [] else []) (ne_eqb (slice_index f.bytes 1 % 16) n (λ e. other (sym e ∙ port)))

module _ (n : ℕ) (old : Host) (frame : Option Stamped) (new : Host) (given : List Happening) (commands : ℕ → SlotCommand) (touches : Touches) (below : n < 15)
    (h : IsServedHonestly n old given commands touches) (does : event.Does (shared_by old) (event.Gave frame) (shared_by new)) (sound : IsHost (shared_by old)) where
  -- what the host has of the disk after this went out
  abbrev Goes : Outgoing → Type 0
  Goes o = IsHosted n (shared_by new) (given ++ given_to n frame) commands (own n (touched_by_out (shared_by old) o ++ touches))

  -- nothing of it went out
  beside : (more : List Happening) (later : History) → view_of n new.port ≡ view_of n old.port → more ≡ [] → later ≡ own n touches → IsHosted n (shared_by new) (given ++ more) commands later
  beside more later same none is =
      subst (λ (p : History). IsHosted n (shared_by new) (given ++ more) commands p) (sym is)
      (subst (λ (xs : List Happening). IsHosted n (shared_by new) xs commands (own n touches)) (sym (append-nil given) ∙ ap (λ (xs : List Happening). given ++ xs) (sym none))
      (stays (shared_by old) (shared_by new) given commands (own n touches) same h.hosted))

  nothing : (o : Outgoing) → frame ≡ None → view_of n new.port ≡ view_of n old.port → touched_by_out (shared_by old) o ≡ [] → Goes o
  nothing o none same quiet = beside (given_to n frame) (own n (touched_by_out (shared_by old) o ++ touches)) same (ap (given_to n) none) (ap (λ (xs : Touches). own n (xs ++ touches)) quiet)

  -- it went to another device
  to_other : (f : Stamped) (dev : ℕ) → frame ≡ Some f → slice_index f.bytes 1 % 16 ≡ dev → n ≢ dev → IsForOther n (outgoing old.port old.memory) → (o : Outgoing) → outgoing old.port old.memory ≡ o → Goes o
  to_other f dev is port other away o out =
      let left : LeavesDevice n (shared_by old) (event.Gave frame) (shared_by new) = others_leave_device n (shared_by old) (shared_by new) (event.Gave frame) (omega (arith, below)) does away in
      let quiet : own n (touched_by_out (shared_by old) o) ≡ [] = ap (λ (x : Outgoing). own n (touched_by_out (shared_by old) x)) (sym out) ∙ left.history in
      beside (given_to n frame) (own n (touched_by_out (shared_by old) o ++ touches)) left.view (ap (given_to n) is ∙ given_elsewhere n dev f port other)
      (own_app n (touched_by_out (shared_by old) o) touches ∙ ap (λ (p : History). p ++ own n touches) quiet)

  -- it went to the disk
  to_disk : (f : Stamped) (e : Event) (o : Outgoing) → frame ≡ Some f → slice_index f.bytes 1 % 16 ≡ n → own n (touched_by_out (shared_by old) o ++ touches) ≡ e ∷ own n touches
      → IsHosted n (shared_by new) (given ++ Received (marked f.bytes 0) ∷ []) commands (e ∷ own n touches) → Goes o
  to_disk f e o is port later hosted =
      subst (λ (p : History). IsHosted n (shared_by new) (given ++ given_to n frame) commands p) (sym later)
      (subst (λ (xs : List Happening). IsHosted n (shared_by new) (given ++ xs) commands (e ∷ own n touches)) (sym (ap (given_to n) is ∙ given_here n f port)) hosted)

  by_one : (e : Event) → own n (By n e ∷ touches) ≡ e ∷ own n touches
  by_one e = own_app n (By n e ∷ []) touches ∙ own_one n n e (own n touches) refl

  order_out : (f : Stamped) (slot : ℕ) (command : issued_command.Command) → frame ≡ Some f → outgoing old.port old.memory ≡ Order n slot command → event.Does (shared_by old) (event.Gave (Some f)) (shared_by new) → f.bytes ≡ command.cfis
      → OutTold old touches n slot command → Goes (Order n slot command)
  order_out f slot command is out did bytes o =
      let order : IsOrderOf slot command given commands (own n touches) o.transfer = order_of n old given commands touches below h slot command o in
      let kind : is_control o.issue.work.kind ≡ false = ap (λ (w : Work). is_control w.kind) (sym o.work) ∙ order.control in
      let begins : begun_by slot (issue_at old.port.slots slot) ≡ [] =
      begun_none slot (issue_at old.port.slots slot) o.issue o.at (ap (λ (w : Work). is_dma w.kind) (sym o.work) ∙ order.moves) in
      let event_is : event_sent old.port.slots slot ≡ told_as.Sent slot = ap (λ (b : Bool). if b then told_as.SentControl slot else told_as.Sent slot) (ap (holds is_control_issue) o.at ∙ kind) in
      let later : own n (touched_by_out (shared_by old) (Order n slot command) ++ touches) ≡ told_as.Sent slot ∷ own n touches =
      ap (λ (es : History). own n ((map (By n) es ++ By n (event_sent old.port.slots slot) ∷ []) ++ touches)) begins
      ∙ by_one (event_sent old.port.slots slot) ∙ ap (λ (e : Event). e ∷ own n touches) event_is in
      to_disk f (told_as.Sent slot) (Order n slot command) is (ap (λ (b : List ℕ). slice_index b 1 % 16) bytes ∙ o.port) later (elim (cases_Bool (is_queued o.transfer.work.kind)) [
        | inl queued ↦
            sends (shared_by old) (shared_by new) f slot command command.cfis o.transfer given commands (own n touches) sound (short_frame f command bytes order.long) did out o.there queued order.cfis (order.queued queued) order.signed h.hosted
        | inr other ↦
            let alone = order.other other in
            asks (shared_by old) (shared_by new) f slot command command.cfis o.transfer given commands (own n touches) sound (short_frame f command bytes order.long) did out o.there other order.control order.moves order.cfis alone.0 alone.1 order.signed h.hosted
      ])

  data_port : (dev : ℕ) (bytes : List ℕ) → dev < 16 → slice_index (data_fis dev bytes) 1 % 16 ≡ dev
  data_port dev bytes small = omega (arith, small)

  by_frame : (o : Outgoing) → outgoing old.port old.memory ≡ o → Gives o old.port old.memory frame new.port → HasLast old.port o → GoesOut old.port o → (x : Option Stamped) → frame ≡ x → Goes o
  by_frame (Data dev offset len command) out gave last goes None is = absurd (subst (λ (y : Option Stamped). Gives (Data dev offset len command) old.port old.memory y new.port) is gave)
  by_frame (Data dev offset len command) out gave last goes (Some f) is =
      let did : event.Does (shared_by old) (event.Gave (Some f)) (shared_by new) = subst (λ (y : Option Stamped). event.Does (shared_by old) (event.Gave y) (shared_by new)) is does in
      let sent = subst (λ (y : Option Stamped). Gives (Data dev offset len command) old.port old.memory y new.port) is gave in
      let bytes : f.bytes ≡ data_fis dev (gathered (prds_of old.memory command) offset len old.memory.client) = ap (λ (s : Stamped). s.bytes) sent.frame_is in
      let port : slice_index f.bytes 1 % 16 ≡ dev = ap (λ (b : List ℕ). slice_index b 1 % 16) bytes ∙ data_port dev (gathered (prds_of old.memory command) offset len old.memory.client) last in
      elim (cases_eq dev n) [
        | inl same ↦
            let here : outgoing old.port old.memory ≡ Data n offset len command = out ∙ ap (λ (d : ℕ). Data d offset len command) same in
            subst (λ (d : ℕ). Goes (Data d offset len command)) (sym same)
            (to_disk f (told_as.Carried (gathered (prds_of old.memory command) offset len old.memory.client)) (Data n offset len command) is (port ∙ same)
            (by_one (told_as.Carried (gathered (prds_of old.memory command) offset len old.memory.client)))
            (gives (shared_by old) (shared_by new) f offset len command given commands (own n touches) sound (data_frame n offset len old given commands touches below h sound command f (subst (GoesOut old.port) (ap (λ (d : ℕ). Data d offset len command) same) goes) (bytes ∙ ap (λ (d : ℕ). data_fis d (gathered (prds_of old.memory command) offset len old.memory.client)) same)) did here h.hosted))
        | inr other ↦ to_other f dev is port (λ e. other (sym e)) (subst (IsForOther n) (sym out) (λ e. other (sym e))) (Data dev offset len command) out
      ]
  by_frame (Order dev slot command) out gave last goes None is = absurd (subst (λ (y : Option Stamped). Gives (Order dev slot command) old.port old.memory y new.port) is gave)
  by_frame (Order dev slot command) out gave last goes (Some f) is =
      let did : event.Does (shared_by old) (event.Gave (Some f)) (shared_by new) = subst (λ (y : Option Stamped). event.Does (shared_by old) (event.Gave y) (shared_by new)) is does in
      let sent = subst (λ (y : Option Stamped). Gives (Order dev slot command) old.port old.memory y new.port) is gave in
      let bytes : f.bytes ≡ command.cfis = ap (λ (s : Stamped). s.bytes) sent.frame_is in
      let o : OutTold old touches dev slot command = out_told old touches dev slot command sound h.served goes last in
      elim (cases_eq dev n) [
        | inl same ↦
            let here : outgoing old.port old.memory ≡ Order n slot command = out ∙ ap (λ (d : ℕ). Order d slot command) same in
            subst (λ (d : ℕ). Goes (Order d slot command)) (sym same) (order_out f slot command is here did bytes (subst (λ (d : ℕ). OutTold old touches d slot command) same o))
        | inr other ↦ to_other f dev is (ap (λ (b : List ℕ). slice_index b 1 % 16) bytes ∙ o.port) (λ e. other (sym e)) (subst (IsForOther n) (sym out) (λ e. other (sym e))) (Order dev slot command) out
      ]
  by_frame rest out gave last goes x is = nothing rest gave.0 (ap (view_of n) gave.1) refl

  hosted_then : Goes (outgoing old.port old.memory)
  hosted_then = by_frame (outgoing old.port old.memory) refl does.0 (out_last old.port old.memory) (goes_out old.port old.memory) frame refl

-- ---- the turn

-- what the disk gets is nothing, or one FIS
pub given_cases : (n : ℕ) (frame : Option Stamped) → (given_to n frame ≡ []) ⊎ ((bytes : List ℕ) × (given_to n frame ≡ Received bytes ∷ []))
given_cases n None = inl refl
given_cases n (Some f) = by_test (slice_index f.bytes 1 % 16 == n)
  where
    by_test : (b : Bool) → ((if b then Received (marked f.bytes 0) ∷ [] else []) ≡ []) ⊎ ((bytes : List ℕ) × ((if b then Received (marked f.bytes 0) ∷ [] else []) ≡ Received bytes ∷ []))
    by_test true = inr (marked f.bytes 0, refl)
    by_test false = inl refl

pub pushes_go_on : PushesGoOn
pushes_go_on n old frame new run given commands touches below h =
    let d : Does old (Pushed frame) new = after old (Pushed frame) new run in
    let sound : IsHost (shared_by old) = sound_shared old h.sound in
    let serves : RunServes old new (Pushed frame ∷ []) run touches = turns_serve.runs old new (Pushed frame ∷ []) run h.sound touches h.served in
    let hosted : IsHosted n (shared_by new) (given ++ given_to n frame) commands (own n (touched_by_out (shared_by old) (outgoing old.port old.memory) ++ touches)) =
    hosted_then n old frame new given commands touches below h (d.gives, d.memory) sound in
    let careful = (hosted_is_kept n (shared_by new) (given ++ given_to n frame) commands _ below hosted).careful in
    let signed : HasSigned given → HasSigned (given ++ given_to n frame) =
    λ was. elim (given_cases n frame) [
      | inl none ↦ subst HasSigned (sym (append-nil given) ∙ ap (λ (xs : List Happening). given ++ xs) (sym none)) was
      | inr one ↦
          subst (λ (xs : List Happening). HasSigned (given ++ xs)) (sym one.1)
          (signed_given given one.0 (subst (λ (xs : List Happening). IsCareful (given ++ xs)) one.1 careful) was)
    ] in
    record {
      next = commands;
      serves = serves;
      honestly = record {
        sound = sound_turn old (Pushed frame) new d h.sound;
        served = serves.last;
        hosted = hosted;
        steady = (turn_steady n old (Pushed frame) new d tt h.steady).steady;
        named = λ s t e here there queued.
            h.named s t e (was_there n s (touched_by_out (shared_by old) (outgoing old.port old.memory)) touches t (out_none (shared_by old) (outgoing old.port old.memory)) here)
            (ap (λ (x : Driver). entry_at x.entries s) (sym d.driver) ∙ there) queued;
        signed = λ asked. signed (h.signed (subst (λ (x : Driver). IsAskedOf n x.plan) d.driver asked));
        row = λ signs. signed (h.row (rows_stay n old (Pushed frame) new (omega (arith, below)) d h.sound tt signs));
      };
    }

pub pushes_keep : PushesKeep
pushes_keep n old frame new run given commands touches below framed h = pushes_go_on n old frame new run given commands touches below h
