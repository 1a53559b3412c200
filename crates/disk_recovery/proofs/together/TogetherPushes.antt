-- For `pushes_serve_on`. What goes out to a disk fits what was told since both began anew, and the driver goes on to
-- serve it.
use Rattle.std.proofs.Common.{◌≡◌, ◌≢◌, ℕ, ◌<◌, ◌≤◌, Bool, true, false, List, [], ◌∷◌, ◌++◌, suc, length, refl, sym, ◌∙◌, ap, subst, inl, inr, arith, Option, Some, None}
use Rattle.std.specs.Prelude.{if◌then◌else◌, ◌%◌, map, slice_index, Ok}
use Rattle.std.proofs.lemmas.{Bool.{cases_Bool, cases_eq}, Bool.Decides.nat_tests, List.append-nil, List.FromFn.length-map-range_with_len}
use Rattle.fis_view.specs.{Frames.{IsFrame, IsPayload, Stamped, marked}, Seen.seen}
use Rattle.fis_view.specs.declared.view.Fis.TheVariants as view
use Rattle.fis_view.proofs.Door.{payload_seen}
use Rattle.hba_commands.specs.declared.command.Command as issued_command
use Rattle.slots.specs.{Slots.{holds, is_control, issue_at}, Work.{is_dma, is_queued}, declared.work.Work.Work}
use Rattle.hba_fbs.specs.{Sending.{Data, Gives, Order, Outgoing, data_fis, gathered, outgoing, view_sent}, Tables.prds_of}
use Rattle.hba_fbs.specs.Views.{DeviceView, view_of}
use Rattle.disk_model.specs.{Anew.IsCarefulSince, Histories.{Happening, Received}, Ledger.{Moving, ledger}}
use Rattle.hba_laws.specs.{Client.{By, Touches, own}, Delivering.{begun_by, event_sent, is_control_issue, touched_by_out}, History.{Event, History}}
use Rattle.hba_laws.specs.{Sound.IsHost, Between.{GoesOut, HasContext, IsOwn}}
use Rattle.hba_laws.specs.History as told_as
use Rattle.hba_laws.specs.Hosts as event
use Rattle.hba_laws.proofs.Door.{goes_out, is_own, out_none, own_app, own_one, was_there}
use Rattle.disk_simulation.specs.{Anew.{IsHostedOn, IsKeptOn, asks, gives, sends, stays}, Elsewhere.{IsForOther, LeavesDevice}, Joined.IsAskedBy}
use Rattle.disk_simulation.specs.{Watched.{GavePlain, IsPlain}, Same.SlotCommand}
use Rattle.disk_simulation.proofs.Door.{begun_none, hosted_on_is_kept, others_leave_device}
use Rattle.hba_driver.specs.{Drivers.{Driver, device_at, entry_at}, Events.shared_by, HostTurns.{Does, Host, Pushed}, Served.RunServes, Steady.IsFine}
use Rattle.hba_driver.specs.Tended.{IsAskedOn, IsAtStage, IsBegun, IsReleasing, IsTended}
use Rattle.hba_driver.proofs.Door.{rows_stay, sound_shared, sound_turn, turns_serve}
use Rattle.disk_recovery.specs.{Kept.given_to, Steady.HasSigned, Together.{IsServedOn, PushesServeOn}}
use Rattle.disk_recovery.proofs.honest.PushLemmas.{HasLast, IsOrderOf, OutData, OutTold, frame_by, given_cases, given_elsewhere, given_here, out_data}
use Rattle.disk_recovery.proofs.{honest.PushLemmas.{out_last, out_told, short_frame}, together.{ResetLemmas.sent_state, SentLemmas.sent_there}}
use Rattle.disk_recovery.proofs.{together.TogetherOrders.{IsOrderOn, base_clear, order_on, plain_marked, signed_since}, honest.TurnLemmas.after}

-- ---- data that goes out

payload_by : (bytes : List ℕ) → 4 ≤ length bytes → length bytes ≤ 8192 → length bytes % 4 ≡ 0 → IsPayload bytes
payload_by bytes low high dwords = grind (arith, nat_tests)

-- it is a Data FIS, and the disk asked for it
record DataOut (n : ℕ) (given : List Happening) (frame bytes : List ℕ) : Type 0 where
  pub framed : IsFrame frame
  pub plain : IsPlain (seen frame)
  pub current : Moving
  pub moving : (ledger given).moving ≡ Some current

data_out : (n : ℕ) (base : List Happening) (offset len : ℕ) (old : Host) (given : List Happening) (commands : ℕ → SlotCommand) (touches : Touches) → n < 15 → IsServedOn n base old given commands touches → IsHost (shared_by old)
    → (command : issued_command.Command) (frame : List ℕ) → GoesOut old.port (Data n offset len command) → frame ≡ data_fis n (gathered (prds_of old.memory command) offset len old.memory.client)
    → DataOut n given frame (gathered (prds_of old.memory command) offset len old.memory.client)
data_out n base offset len old given commands touches below h sound command frame goes is =
    let joined = (hosted_on_is_kept n base (shared_by old) given commands (own n touches) below h.hosted).joined in
    let owns : IsOwn n (view_of n old.port).slots = is_own n old.port.slots sound.slots in
    let due : OutData n len old = out_data n offset len old command goes in
    let a : IsAskedBy due.context (ledger given) = joined.active due.context due.now due.asked in
    let short : a.current.count ≤ 8192 = joined.short a.current a.moving in
    let has : HasContext n (view_of n old.port).slots due.context = owns.contexts due.context due.now in
    let left_is : due.context.left ≡ a.current.count = a.left in
    let size = due.long in
    let dwords = has.is.left_dwords in
    let some = (has.is.activates due.asked).1 in
    let long : length (gathered (prds_of old.memory command) offset len old.memory.client) ≡ len = length-map-range_with_len _ 0 len in
    let all : length (gathered (prds_of old.memory command) offset len old.memory.client) ≡ a.current.count = omega (arith, long, size, left_is, short) in
    let whole : length frame ≡ suc (suc (suc (suc (length (gathered (prds_of old.memory command) offset len old.memory.client))))) = ap (λ (b : List ℕ). length b) is in
    let payload : IsPayload (gathered (prds_of old.memory command) offset len old.memory.client) =
    payload_by (gathered (prds_of old.memory command) offset len old.memory.client) (omega (arith, all, left_is, some, dwords)) (omega (arith, all, short)) (omega (arith, all, left_is, dwords)) in
    record {
      framed = frame_by frame (omega (arith, whole)) (omega (arith, whole, all, short)) (omega (arith, whole, all, left_is, dwords));
      plain = subst IsPlain (sym (ap seen is ∙ payload_seen n (gathered (prds_of old.memory command) offset len old.memory.client) payload)) tt;
      current = a.current;
      moving = a.moving;
    }

-- ---- a frame goes out

module _ (n : ℕ) (base : List Happening) (old : Host) (frame : Option Stamped) (new : Host) (given : List Happening) (commands : ℕ → SlotCommand) (touches : Touches) (below : n < 15)
    (h : IsServedOn n base old given commands touches) (does : event.Does (shared_by old) (event.Gave frame) (shared_by new)) (sound : IsHost (shared_by old)) where
  -- what the host has of the disk after this went out
  record Goes (o : Outgoing) : Type 0 where
    pub hosted : IsHostedOn n base (shared_by new) (given ++ given_to n frame) commands (own n (touched_by_out (shared_by old) o ++ touches))
    pub plain : GavePlain (given_to n frame)
    pub state : (view_of n new.port).state.resetting ≡ (view_of n old.port).state.resetting
    pub none : (view_of n old.port).state.resetting ≡ true → given_to n frame ≡ []

  -- nothing of it went out
  beside : (o : Outgoing) → view_of n new.port ≡ view_of n old.port → given_to n frame ≡ [] → own n (touched_by_out (shared_by old) o ++ touches) ≡ own n touches → Goes o
  beside o same none is = record {
    hosted =
        subst (λ (p : History). IsHostedOn n base (shared_by new) (given ++ given_to n frame) commands p) (sym is)
        (subst (λ (xs : List Happening). IsHostedOn n base (shared_by new) xs commands (own n touches)) (sym (append-nil given) ∙ ap (λ (xs : List Happening). given ++ xs) (sym none))
        (stays (shared_by old) (shared_by new) given commands (own n touches) (record { slots = ap (λ (v : DeviceView). v.slots) same; block = ap (λ (v : DeviceView). v.state.block) same }) (inr same) h.hosted));
    plain = subst GavePlain (sym none) tt;
    state = ap (λ (v : DeviceView). v.state.resetting) same;
    none = λ set. none;
  }

  -- it went to another device
  to_other : (f : Stamped) (dev : ℕ) → frame ≡ Some f → slice_index f.bytes 1 % 16 ≡ dev → n ≢ dev → IsForOther n (outgoing old.port old.memory) → (o : Outgoing) → outgoing old.port old.memory ≡ o → Goes o
  to_other f dev is port other away o out =
      let left : LeavesDevice n (shared_by old) (event.Gave frame) (shared_by new) = others_leave_device n (shared_by old) (shared_by new) (event.Gave frame) (omega (arith, below)) does away in
      let quiet : own n (touched_by_out (shared_by old) o) ≡ [] = ap (λ (x : Outgoing). own n (touched_by_out (shared_by old) x)) (sym out) ∙ left.history in
      beside o left.view (ap (given_to n) is ∙ given_elsewhere n dev f port other) (own_app n (touched_by_out (shared_by old) o) touches ∙ ap (λ (p : History). p ++ own n touches) quiet)

  -- it went to the disk
  to_disk : (f : Stamped) (e : Event) (o : Outgoing) → frame ≡ Some f → slice_index f.bytes 1 % 16 ≡ n → own n (touched_by_out (shared_by old) o ++ touches) ≡ e ∷ own n touches → IsFrame f.bytes → IsPlain (seen f.bytes)
      → (view_of n new.port).state.resetting ≡ (view_of n old.port).state.resetting → ((view_of n old.port).state.resetting ≡ true → ⊥)
      → IsHostedOn n base (shared_by new) (given ++ Received (marked f.bytes 0) ∷ []) commands (e ∷ own n touches) → Goes o
  to_disk f e o is port later framed plain state steady hosted =
      let got : given_to n frame ≡ Received (marked f.bytes 0) ∷ [] = ap (given_to n) is ∙ given_here n f port in
      record {
        hosted =
            subst (λ (p : History). IsHostedOn n base (shared_by new) (given ++ given_to n frame) commands p) (sym later)
            (subst (λ (xs : List Happening). IsHostedOn n base (shared_by new) (given ++ xs) commands (e ∷ own n touches)) (sym got) hosted);
        plain = subst GavePlain (sym got) (plain_marked f.bytes framed plain, tt);
        state = state;
        none = λ set. absurd (steady set);
      }

  by_one : (e : Event) → own n (By n e ∷ touches) ≡ e ∷ own n touches
  by_one e = own_app n (By n e ∷ []) touches ∙ own_one n n e (own n touches) refl

  order_out : (f : Stamped) (slot : ℕ) (command : issued_command.Command) → frame ≡ Some f → outgoing old.port old.memory ≡ Order n slot command → event.Does (shared_by old) (event.Gave (Some f)) (shared_by new) → f.bytes ≡ command.cfis
      → view_of n new.port ≡ view_sent (view_of n old.port) slot command → GoesOut old.port (Order n slot command) → OutTold old touches n slot command → Goes (Order n slot command)
  order_out f slot command is out did bytes sent goes o =
      let on : IsOrderOn n slot old command given commands (own n touches) o.transfer = order_on n base old given commands touches below sound h slot command goes o in
      let order : IsOrderOf slot command given commands (own n touches) o.transfer = on.order in
      let kind : is_control o.issue.work.kind ≡ false = ap (λ (w : Work). is_control w.kind) (sym o.work) ∙ order.control in
      let begins : begun_by slot (issue_at old.port.slots slot) ≡ [] =
      begun_none slot (issue_at old.port.slots slot) o.issue o.at (ap (λ (w : Work). is_dma w.kind) (sym o.work) ∙ order.moves) in
      let event_is : event_sent old.port.slots slot ≡ told_as.Sent slot = ap (λ (b : Bool). if b then told_as.SentControl slot else told_as.Sent slot) (ap (holds is_control_issue) o.at ∙ kind) in
      let later : own n (touched_by_out (shared_by old) (Order n slot command) ++ touches) ≡ told_as.Sent slot ∷ own n touches =
      ap (λ (es : History). own n ((map (By n) es ++ By n (event_sent old.port.slots slot) ∷ []) ++ touches)) begins
      ∙ by_one (event_sent old.port.slots slot) ∙ ap (λ (e : Event). e ∷ own n touches) event_is in
      let framed : IsFrame f.bytes = short_frame f command bytes order.long in
      let shown : seen f.bytes ≡ Ok (view.RegH2D command.cfis) = ap seen bytes ∙ order.cfis in
      to_disk f (told_as.Sent slot) (Order n slot command) is (ap (λ (b : List ℕ). slice_index b 1 % 16) bytes ∙ o.port) later framed (subst IsPlain (sym shown) on.plain)
      (ap (λ (v : DeviceView). v.state.resetting) sent ∙ sent_state (view_of n old.port).state command on.still) (λ set. on.unreleased (h.resets set).0)
      (elim (cases_Bool (is_queued o.transfer.work.kind)) [
        | inl queued ↦
            sends (shared_by old) (shared_by new) f slot command command.cfis o.transfer given commands (own n touches) sound framed did out o.there queued order.cfis (order.queued queued) order.signed h.hosted
        | inr other ↦
            let alone = order.other other in
            asks (shared_by old) (shared_by new) f slot command command.cfis o.transfer given commands (own n touches) sound framed did out o.there other order.control order.moves order.cfis alone.0 alone.1 order.signed h.hosted
      ])

  data_to : (f : Stamped) (offset len : ℕ) (command : issued_command.Command) → frame ≡ Some f → outgoing old.port old.memory ≡ Data n offset len command → event.Does (shared_by old) (event.Gave (Some f)) (shared_by new)
      → f.bytes ≡ data_fis n (gathered (prds_of old.memory command) offset len old.memory.client) → slice_index f.bytes 1 % 16 ≡ n → (view_of n new.port).state.resetting ≡ (view_of n old.port).state.resetting
      → GoesOut old.port (Data n offset len command) → Goes (Data n offset len command)
  data_to f offset len command is out did bytes port state goes =
      let o : DataOut n given f.bytes (gathered (prds_of old.memory command) offset len old.memory.client) = data_out n base offset len old given commands touches below h sound command f.bytes goes bytes in
      to_disk f (told_as.Carried (gathered (prds_of old.memory command) offset len old.memory.client)) (Data n offset len command) is port
      (by_one (told_as.Carried (gathered (prds_of old.memory command) offset len old.memory.client))) o.framed o.plain state
      (λ set.
      let still : None ≡ Some o.current = sym (base_clear n base (shared_by old) given commands (own n touches) h.hosted).moving ∙ ap (λ (xs : List Happening). (ledger xs).moving) (sym (h.resets set).1) ∙ o.moving in
      cc still)
      (gives (shared_by old) (shared_by new) f offset len command given commands (own n touches) sound o.framed did out h.hosted)

  data_port : (dev : ℕ) (bytes : List ℕ) → dev < 16 → slice_index (data_fis dev bytes) 1 % 16 ≡ dev
  data_port dev bytes small = omega (arith, small)

  data_frame : (f : Stamped) (dev offset len : ℕ) (command : issued_command.Command) → frame ≡ Some f → outgoing old.port old.memory ≡ Data dev offset len command → event.Does (shared_by old) (event.Gave (Some f)) (shared_by new)
      → f.bytes ≡ data_fis dev (gathered (prds_of old.memory command) offset len old.memory.client) → slice_index f.bytes 1 % 16 ≡ dev → (view_of dev new.port).state.resetting ≡ (view_of dev old.port).state.resetting
      → GoesOut old.port (Data dev offset len command) → dev ≡ n → Goes (Data dev offset len command)
  data_frame f dev offset len command is out did bytes port state goes same =
      subst (λ (d : ℕ). Goes (Data d offset len command)) (sym same)
      (data_to f offset len command is (out ∙ ap (λ (d : ℕ). Data d offset len command) same) did
      (bytes ∙ ap (λ (d : ℕ). data_fis d (gathered (prds_of old.memory command) offset len old.memory.client)) same) (port ∙ same)
      (subst (λ (d : ℕ). (view_of d new.port).state.resetting ≡ (view_of d old.port).state.resetting) same state) (subst (GoesOut old.port) (ap (λ (d : ℕ). Data d offset len command) same) goes))

  order_frame : (f : Stamped) (dev slot : ℕ) (command : issued_command.Command) → frame ≡ Some f → outgoing old.port old.memory ≡ Order dev slot command → event.Does (shared_by old) (event.Gave (Some f)) (shared_by new) → f.bytes ≡ command.cfis
      → view_of dev new.port ≡ view_sent (view_of dev old.port) slot command → GoesOut old.port (Order dev slot command) → OutTold old touches dev slot command → dev ≡ n → Goes (Order dev slot command)
  order_frame f dev slot command is out did bytes sent goes o same =
      subst (λ (d : ℕ). Goes (Order d slot command)) (sym same)
      (order_out f slot command is (out ∙ ap (λ (d : ℕ). Order d slot command) same) did bytes (subst (λ (d : ℕ). view_of d new.port ≡ view_sent (view_of d old.port) slot command) same sent)
      (subst (GoesOut old.port) (ap (λ (d : ℕ). Order d slot command) same) goes) (subst (λ (d : ℕ). OutTold old touches d slot command) same o))

  by_frame : (o : Outgoing) → outgoing old.port old.memory ≡ o → Gives o old.port old.memory frame new.port → HasLast old.port o → GoesOut old.port o → (x : Option Stamped) → frame ≡ x → Goes o
  by_frame (Data dev offset len command) out gave last goes None is = absurd (subst (λ (y : Option Stamped). Gives (Data dev offset len command) old.port old.memory y new.port) is gave)
  by_frame (Data dev offset len command) out gave last goes (Some f) is =
      let did : event.Does (shared_by old) (event.Gave (Some f)) (shared_by new) = subst (λ (y : Option Stamped). event.Does (shared_by old) (event.Gave y) (shared_by new)) is does in
      let sent = subst (λ (y : Option Stamped). Gives (Data dev offset len command) old.port old.memory y new.port) is gave in
      let bytes : f.bytes ≡ data_fis dev (gathered (prds_of old.memory command) offset len old.memory.client) = ap (λ (s : Stamped). s.bytes) sent.frame_is in
      let port : slice_index f.bytes 1 % 16 ≡ dev = ap (λ (b : List ℕ). slice_index b 1 % 16) bytes ∙ data_port dev (gathered (prds_of old.memory command) offset len old.memory.client) last in
      elim (cases_eq dev n) [
        | inl same ↦ data_frame f dev offset len command is out did bytes port (ap (λ (v : DeviceView). v.state.resetting) sent.own) goes same
        | inr other ↦ to_other f dev is port (λ e. other (sym e)) (subst (IsForOther n) (sym out) (λ e. other (sym e))) (Data dev offset len command) out
      ]
  by_frame (Order dev slot command) out gave last goes None is = absurd (subst (λ (y : Option Stamped). Gives (Order dev slot command) old.port old.memory y new.port) is gave)
  by_frame (Order dev slot command) out gave last goes (Some f) is =
      let did : event.Does (shared_by old) (event.Gave (Some f)) (shared_by new) = subst (λ (y : Option Stamped). event.Does (shared_by old) (event.Gave y) (shared_by new)) is does in
      let sent = subst (λ (y : Option Stamped). Gives (Order dev slot command) old.port old.memory y new.port) is gave in
      let bytes : f.bytes ≡ command.cfis = ap (λ (s : Stamped). s.bytes) sent.frame_is in
      let o : OutTold old touches dev slot command = out_told old touches dev slot command sound h.served goes last in
      elim (cases_eq dev n) [
        | inl same ↦ order_frame f dev slot command is out did bytes sent.own goes o same
        | inr other ↦ to_other f dev is (ap (λ (b : List ℕ). slice_index b 1 % 16) bytes ∙ o.port) (λ e. other (sym e)) (subst (IsForOther n) (sym out) (λ e. other (sym e))) (Order dev slot command) out
      ]
  by_frame rest out gave last goes x is = beside rest (ap (view_of n) gave.1) (ap (given_to n) gave.0) refl

  goes_then : Goes (outgoing old.port old.memory)
  goes_then = by_frame (outgoing old.port old.memory) refl does.0 (out_last old.port old.memory) (goes_out old.port old.memory) frame refl

-- ---- the turn

signed_more : (n : ℕ) (base given : List Happening) (frame : Option Stamped) → IsCarefulSince base given → IsCarefulSince base (given ++ given_to n frame) → HasSigned given → HasSigned (given ++ given_to n frame)
signed_more n base given frame before careful was = elim (given_cases n frame) [
  | inl none ↦ subst HasSigned (sym (append-nil given) ∙ ap (λ (xs : List Happening). given ++ xs) (sym none)) was
  | inr one ↦
      subst (λ (xs : List Happening). HasSigned (given ++ xs)) (sym one.1)
      (signed_since base given one.0 before (subst (λ (xs : List Happening). IsCarefulSince base (given ++ xs)) one.1 careful) was)
]

pub pushes_go_on_on : PushesServeOn
pushes_go_on_on n base old frame new run given commands touches below h =
    let d : Does old (Pushed frame) new = after old (Pushed frame) new run in
    let sound : IsHost (shared_by old) = sound_shared old h.sound in
    let serves : RunServes old new (Pushed frame ∷ []) run touches = turns_serve.runs old new (Pushed frame ∷ []) run h.sound touches h.served in
    let g : Goes n base old frame new given commands touches below h (d.gives, d.memory) sound (outgoing old.port old.memory) = goes_then n base old frame new given commands touches below h (d.gives, d.memory) sound in
    let before : IsKeptOn n base (shared_by old) given commands (own n touches) = hosted_on_is_kept n base (shared_by old) given commands (own n touches) below h.hosted in
    let careful : IsCarefulSince base (given ++ given_to n frame) = (hosted_on_is_kept n base (shared_by new) (given ++ given_to n frame) commands _ below g.hosted).careful in
    let more : HasSigned given → HasSigned (given ++ given_to n frame) = signed_more n base given frame before.careful careful in
    let none = out_none (shared_by old) (outgoing old.port old.memory) in
    record {
      plain = g.plain;
      on = record {
        next = commands;
        serves = serves;
        on = record {
          sound = sound_turn old (Pushed frame) new d h.sound;
          served = serves.last;
          hosted = g.hosted;
          tended = subst (λ (x : Driver). IsTended n x) (sym d.driver) h.tended;
          named = λ s t e here there queued.
              h.named s t e (was_there n s (touched_by_out (shared_by old) (outgoing old.port old.memory)) touches t none here) (ap (λ (x : Driver). entry_at x.entries s) (sym d.driver) ∙ there) queued;
          signed = λ asked. more (h.signed (subst (λ (x : Driver). IsAskedOn n x.plan) d.driver asked));
          row = λ fine signs. more (h.row (subst (λ (x : Driver). IsFine (device_at x.plan n)) d.driver fine) (rows_stay n old (Pushed frame) new (omega (arith, below)) d h.sound tt signs));
          ended = λ there off. more (h.ended (subst (λ (x : Driver). IsAtStage n IsReleasing x.plan) d.driver there) (sym g.state ∙ off));
          begun = λ there t here.
              sent_there n 30 (touched_by_out (shared_by old) (outgoing old.port old.memory)) touches none
              (h.begun (subst (λ (x : Driver). IsAtStage n IsBegun x.plan) d.driver there) t (was_there n 30 (touched_by_out (shared_by old) (outgoing old.port old.memory)) touches t none here));
          resets = λ set.
              let was = h.resets (sym g.state ∙ set) in
              let same : given ++ given_to n frame ≡ given = ap (λ (xs : List Happening). given ++ xs) (g.none (sym g.state ∙ set)) ∙ append-nil given in
              (subst (λ (x : Driver). IsAtStage n IsReleasing x.plan) (sym d.driver) was.0, same ∙ was.1);
        };
        counted = λ s t here. inl (was_there n s (touched_by_out (shared_by old) (outgoing old.port old.memory)) touches t none here, refl);
      };
    }
