-- No more commands are sent to a device than FISes of it settle some, and one more where a slot waits that is not shut. Where the slot that waits is shut, the last
-- FIS that settled a command is the PIO Setup FIS of its last block, or one more came than were sent.
use Rattle.std.proofs.Common.{◌≡◌, ◌⊎◌, ℕ, ◌+◌, ◌<◌, ◌≤◌, ◌&&◌, Bool, true, false, not, List, [], ◌∷◌, ◌++◌, append_assoc, length, refl, sym, ap}
use Rattle.std.proofs.{Common.{subst, ◌∙◌, inl, inr, arith, Option, Some, None}, lemmas.Bool.{and_parts, eq-eqb, eqb-true, false≢true}}
use Rattle.std.proofs.lemmas.List.{length-append}
use Rattle.std.specs.{Prelude.{◌==◌, ◌||◌, IfSome, MatchOption, if◌then◌else◌, Result, Ok}, Option.option_map}
use Rattle.fis_view.specs.{Seen.seen, Table.field, declared.view.{Fis.Fis, FisFault.FisFault}}
use Rattle.fis_view.specs.Table as table
use Rattle.fis_view.specs.declared.view.Fis.TheVariants as view
use Rattle.slots.specs.{Slots.{Issue, context_of, holds, is_control, is_queued_issue, issue_at, match_some, own_issue, slots_of}, Table.IsContext}
use Rattle.slots.specs.{Table.{IsContextOf, IsIssue}, Work.needs_all, declared.{table.Context.Context, work.Work.Work}}
use Rattle.hba_fbs.specs.{Status.is_quiet, Taking.port_of, Views.{Port, view_of}, declared.report.TakeReport.TakeReport}
use Rattle.hba_laws.specs.{Agreement.{IsTold, is_for, work_of_issue}, CoreHistories.{event_by, history_through}, Cores.RunsBy}
use Rattle.hba_laws.specs.History.{Event as HistoryEvent, History, Setup, Transfer, completes, ends_well, is_at, is_set_up, issued, last_setup}
use Rattle.hba_laws.specs.History.{unless, waiting_in}
use Rattle.hba_laws.specs.History as history
use Rattle.hba_laws.proofs.Door.{own_here, own_in}
use Rattle.ahci_controller.specs.{States.ControllerState, Taking.room_for, declared.taking.Took.Took}
use Rattle.ahci_controller.specs.declared.next.Next.TheVariants as next
use Rattle.controller_laws.specs.{CoreEvents.of_frame, Events.{Does, Event, IsController, Runs}}
use Rattle.controller_laws.specs.Events as call
use Rattle.machine_theorem.specs.{Ending.{AllKeepEnding, KeepsEnding, carries, is_data_of}, InTurn.{answers, is_answering}, Tags.once_if}
use Rattle.machine_theorem.specs.Waits.{commanded_in, is_answered, is_command_issue, is_commanded, waits_in}
use Rattle.machine_theorem.proofs.{CallEvents.{AllOf, AnyTurn, IsNoBlock, any_goes, grown, no_block, turn_any}, FisEvents.{IsCarrying, closes}}
use Rattle.machine_theorem.proofs.{FisEvents.fis_carries, OrderedOnce.{IsOrderedOnce, ordered_once}, QuietCalls.at_some, SetupFrames.the_issue}
use Rattle.machine_theorem.proofs.Shutting.{OneWaits, is_closing, is_shut, one_waits, shut, shut_back, shut_told, shut_view, then', told_then}
use Rattle.machine_theorem.proofs.{Shutting.waits_back, Waiting.{IsSent, Laws, core_events, first_kept, low_slot, sent_now, some_waits}}

-- ---- what settles

-- of a FIS: false where it is a Register FIS, true where it is the PIO Setup FIS of a last block
abbrev pub kinds : Result Fis FisFault → List Bool
kinds (Ok (view.RegD2H f)) = false ∷ []
kinds (Ok (view.PioSetup f)) = if is_quiet (field table.Pio table.EStatus f) then true ∷ [] else []
kinds other = []

abbrev pub frame_kinds : List ℕ → List Bool
frame_kinds frame = kinds (seen frame)

abbrev pub kinds_of : (dev : ℕ) → Event → List Bool
kinds_of dev (call.Took frame took) = if port_of frame == dev then frame_kinds frame else []
kinds_of dev event = []

abbrev pub taken_kinds : (dev : ℕ) → List Event → List Bool
taken_kinds dev [] = []
taken_kinds dev (event ∷ later) = kinds_of dev event ++ taken_kinds dev later

-- the last one is a PIO Setup FIS
pub record EndsTrue (l : List Bool) : Type 0 where
  pub front : List Bool
  pub is : l ≡ front ++ true ∷ []

-- one of them, or none
data Kind (l : List Bool) : Type 0 where
  NoKind : l ≡ [] → Kind l
  Register : l ≡ false ∷ [] → Kind l
  Block : l ≡ true ∷ [] → Kind l

fis_kind : (r : Result Fis FisFault) → Kind (kinds r)
fis_kind (Ok (view.RegD2H f)) = Register refl
fis_kind (Ok (view.PioSetup f)) = by (is_quiet (field table.Pio table.EStatus f))
  where
    by : (b : Bool) → Kind (if b then true ∷ [] else [])
    by true = Block refl
    by false = NoKind refl
fis_kind other = NoKind refl

event_kind : (dev : ℕ) (e : Event) → Kind (kinds_of dev e)
event_kind dev (call.Took frame took) = by (port_of frame == dev)
  where
    by : (b : Bool) → Kind (if b then frame_kinds frame else [])
    by true = fis_kind (seen frame)
    by false = NoKind refl
event_kind dev other = NoKind refl

-- a FIS of no such kind is no Register FIS, and begins no last block
none_answers : (r : Result Fis FisFault) → kinds r ≡ [] → answers r ≡ false
none_answers (Ok (view.RegD2H f)) e = absurd (cc)
none_answers other e = refl

none_closes : (r : Result Fis FisFault) → kinds r ≡ [] → closes r ≡ false
none_closes (Ok (view.PioSetup f)) e = by (is_quiet (field table.Pio table.EStatus f)) e
  where
    by : (b : Bool) → (if b then true ∷ [] else []) ≡ [] → b ≡ false
    by true e = absurd (cc)
    by false e = refl
none_closes other e = refl

register_closes : (r : Result Fis FisFault) → kinds r ≡ false ∷ [] → closes r ≡ false
register_closes (Ok (view.PioSetup f)) e = by (is_quiet (field table.Pio table.EStatus f)) e
  where
    by : (b : Bool) → (if b then true ∷ [] else []) ≡ false ∷ [] → b ≡ false
    by true e = absurd (cc)
    by false e = refl
register_closes other e = refl

and_of : (b c : Bool) (l m : List Bool) → (if b then l else []) ≡ m → (l ≡ m → c ≡ false) → (b && c) ≡ false
and_of true c l m e no_more = no_more e
and_of false c l m e no_more = refl

none_answered : (dev : ℕ) (e : Event) → kinds_of dev e ≡ [] → is_answered dev e ≡ false
none_answered dev (call.Took frame took) none = and_of (port_of frame == dev) (is_answering frame) (frame_kinds frame) [] none (none_answers (seen frame))
none_answered dev other none = refl

none_closing : (dev : ℕ) (e : Event) → kinds_of dev e ≡ [] → is_closing dev e ≡ false
none_closing dev (call.Took frame took) none = and_of (port_of frame == dev) (closes (seen frame)) (frame_kinds frame) [] none (none_closes (seen frame))
none_closing dev other none = refl

register_closing : (dev : ℕ) (e : Event) → kinds_of dev e ≡ false ∷ [] → is_closing dev e ≡ false
register_closing dev (call.Took frame took) is = and_of (port_of frame == dev) (closes (seen frame)) (frame_kinds frame) (false ∷ []) is (register_closes (seen frame))
register_closing dev other is = refl

-- no call that takes no FIS is of such a kind, so none that sends a command
commanded_none : (dev : ℕ) (c : ControllerState) (e : Event) → is_commanded dev c e ≡ true → kinds_of dev e ≡ []
commanded_none dev c (call.Took frame took) is = absurd (cc)
commanded_none dev c other is = refl

-- ---- the slot that waits and is not shut

abbrev pub due : (dev : ℕ) → ControllerState → ℕ
due dev c = once_if (waits_in dev c && not (is_shut dev c))

due_most : (b : Bool) → once_if b ≤ 1
due_most true = omega arith
due_most false = omega arith

due_one : (dev : ℕ) (c : ControllerState) → waits_in dev c ≡ true → is_shut dev c ≡ false → due dev c ≡ 1
due_one dev c waits stands = ap (λ (b : Bool). once_if (b && not (is_shut dev c))) waits ∙ ap (λ (b : Bool). once_if (not b)) stands

due_none : (dev : ℕ) (c : ControllerState) → waits_in dev c ≡ false → due dev c ≡ 0
due_none dev c free = ap (λ (b : Bool). once_if (b && not (is_shut dev c))) free

and_not : (b : Bool) → once_if (b && false) ≡ 0
and_not true = refl
and_not false = refl

pub due_shut : (dev : ℕ) (c : ControllerState) → is_shut dev c ≡ true → due dev c ≡ 0
due_shut dev c shuts = ap (λ (b : Bool). once_if (waits_in dev c && not b)) shuts ∙ and_not (waits_in dev c)

-- ---- Data that a slot waits for, and that do not end its command

match_ends : (g : Setup) (gone : ℕ) → match_some g.ends false is_quiet ≡ false → ends_well g gone ≡ false
match_ends g gone stands = by (gone == g.count)
  where
    by : (b : Bool) → match_some (if b then g.ends else None) false is_quiet ≡ false
    by true = stands
    by false = refl

last_ends : (o : Option Setup) (gone : ℕ) → match_some o false (λ x. match_some x.ends false is_quiet) ≡ false
    → match_some o false (λ g. ends_well g gone) ≡ false
last_ends None gone stands = refl
last_ends (Some g) gone stands = match_ends g gone stands

four_off : (a b c d : Bool) → (a ≡ true → c ≡ false) → (a && b && c && d) ≡ false
four_off false b c d off = refl
four_off true true true d off = absurd (let e = off refl in cc)
four_off true true false d off = refl
four_off true false c d off = refl

carried_none : (s : ℕ) (past : History) (w : Work) (bytes : List ℕ)
    → (is_set_up s past && match_some (last_setup past) false (λ x. match_some x.ends false is_quiet)) ≡ false
    → completes s (history.Carried bytes) past w ≡ false
carried_none s past w bytes stands =
    four_off (is_set_up s past) _ _ _ (λ up. last_ends (last_setup past) (history.carried past + length bytes)
    (ap (λ (b : Bool). b && match_some (last_setup past) false (λ x. match_some x.ends false is_quiet)) (sym up) ∙ stands))

-- what is issued in the slot stays
record Kept (s : ℕ) (past : History) : Type 0 where
  transfer : Transfer
  is : issued s past ≡ Some transfer
  waits : waiting_in past ≡ Some s

one_kept : (s : ℕ) (e : HistoryEvent) (past : History) → IsCarrying e → shut past ≡ false → Kept s past → Kept s (e ∷ past)
one_kept s (history.Carried bytes) past carrying stands w =
    let off : (is_set_up s past && match_some (last_setup past) false (λ x. match_some x.ends false is_quiet)) ≡ false =
    ap (λ (o : Option ℕ). match_some o false (λ t. is_set_up t past && match_some (last_setup past) false (λ x. match_some x.ends false is_quiet))) (sym w.waits) ∙ stands in
    record {
      transfer = w.transfer;
      is = ap (λ (o : Option Transfer). match_some o None (λ t. unless (completes s (history.Carried bytes) past t.work) (Some t))) w.is
          ∙ ap (λ (b : Bool). unless b (Some w.transfer)) (carried_none s past w.transfer.work bytes off);
      waits = w.waits;
    }
one_kept s other past carrying stands w = absurd carrying

some_kept : (s : ℕ) (o : Option HistoryEvent) (past : History) → IfSome o IsCarrying → shut past ≡ false → Kept s past
    → Kept s (match_some o [] (λ e. e ∷ []) ++ past)
some_kept s None past carrying stands w = w
some_kept s (Some e) past carrying stands w = one_kept s e past carrying stands w

if_kept : (s : ℕ) (b : Bool) (h past : History) → (b ≡ true → Kept s (h ++ past)) → Kept s past → Kept s ((if b then h else []) ++ past)
if_kept s true h past kept w = kept refl
if_kept s false h past kept w = w

frame_kept : (n s : ℕ) (b : Bool) (old : ControllerState) (frame : List ℕ) (report : TakeReport) (new : Port) (past : History)
    (run : RunsBy old.core (of_frame b old frame report ∷ []) new) → carries (seen frame) ≡ true → shut past ≡ false → Kept s past
    → Kept s (history_through n past old.core new (of_frame b old frame report ∷ []) run)
frame_kept n s true old frame report new past run data' stands w =
    if_kept s (port_of frame == n) (match_some (event_by old.core (room_for old (port_of frame)) frame) [] (λ e. e ∷ [])) past (λ same. some_kept s (event_by old.core (room_for old (port_of frame)) frame) past (fis_carries old.core (room_for old (port_of frame)) frame data') stands w) w
frame_kept n s false old frame report new past run data' stands w = w

of_work : (o : Option Transfer) (p : Option Issue) (i : Issue) → option_map (λ (t : Transfer). t.work) o ≡ option_map work_of_issue p → p ≡ Some i
    → (t : Transfer) × (o ≡ Some t)
of_work None p i e is = absurd (by (e ∙ ap (λ (x : Option Issue). option_map work_of_issue x) is))
  where
    by : None ≡ Some i.work → ⊥
    by e = cc
of_work (Some t) p i e is = (t, refl)

not_true : (b : Bool) → (b ≡ true → ⊥) → b ≡ false
not_true true off = absurd (off refl)
not_true false off = refl

module _ (laws : Laws) (n : ℕ) (below : n < 16) where
  -- it waits still
  pub data_keeps : (frame : List ℕ) (took : Took) (old new : ControllerState) (k : IsController old) (l : IsController new) (does : Does old (call.Took frame took) new) (past : History)
      → (told : IsTold (view_of n old.core) past) → carries (seen frame) ≡ true → waits_in n old ≡ true → is_shut n old ≡ false → waits_in n new ≡ true
  data_keeps frame took old new k l does past told data' waits stands =
      let w : OneWaits n old = one_waits n old waits in
      let t = of_work (issued w.slot past) (own_issue (slots_of n old.core.slots) w.slot) w.issue (told.issued w.slot) w.mine in
      let at : waiting_in past ≡ Some w.slot = at_some w.slot (waiting_in past) ((told.agrees.issues_agree w.slot w.issue w.mine).waits_is ∙ w.waits) in
      let free : shut past ≡ false = not_true (shut past) (λ e. false≢true (sym stands ∙ shut_view n old k past told w.slot w.issue w.mine w.waits e)) in
      let now : Kept w.slot (then' laws n below (call.Took frame took) old new k l does past told) =
      frame_kept n w.slot old.core.registers.started old frame took.report new.core past
      (core_events laws n below old new (call.Took frame took) k l does).run data' free (record { transfer = t.0; is = t.1; waits = at }) in
      let told_now = told_then laws n below (call.Took frame took) old new k l does past told in
      let j = the_issue (issued w.slot (then' laws n below (call.Took frame took) old new k l does past told)) (own_issue (slots_of n new.core.slots) w.slot) now.transfer (told_now.issued w.slot) now.is in
      some_waits n w.slot new l j.0 j.1.0 (sym (told_now.agrees.issues_agree w.slot j.0 j.1.0).waits_is ∙ ap (is_at w.slot) now.waits ∙ eq-eqb w.slot w.slot refl)

  -- ---- a command goes

  -- the slot is set up with a Status that ends its command
  abbrev IsUp : ℕ → History → Type 0
  IsUp s past = (is_set_up s past && match_some (last_setup past) false (λ x. match_some x.ends false is_quiet)) ≡ true

  and_off : (b : Bool) → (b && false) ≡ true → ⊥
  and_off true e = cc
  and_off false e = cc

  issued_up : (a u q : Bool) → ((if a then false else u) && q) ≡ true → (u && q) ≡ true
  issued_up true u q e = absurd (cc)
  issued_up false u q e = e

  one_up : (s : ℕ) (e : HistoryEvent) (past : History) → IsNoBlock e → IsUp s (e ∷ past) → IsUp s past
  one_up s (history.Issued slot t) past none up = issued_up (slot == s) (is_set_up s past) _ up
  one_up s (history.PioSetUp count to_host ends) past none up = absurd none
  one_up s (history.SetUp tag offset count to_host) past none up = absurd (and_off (tag == s) up)
  one_up s (history.Sent slot) past none up = up
  one_up s (history.SentControl slot) past none up = up
  one_up s (history.Carried bytes) past none up = up
  one_up s history.Answered past none up = up
  one_up s (history.Named mask) past none up = up
  one_up s history.Emptied past none up = up

  all_up : (s : ℕ) (h past : History) → AllOf IsNoBlock h → IsUp s (h ++ past) → IsUp s past
  all_up s [] past none up = up
  all_up s (e ∷ h) past none up = all_up s h past none.1 (one_up s e (h ++ past) none.0 up)

  unsent_for : (old : ControllerState) → IsController old → (s : ℕ) (i : Issue) → own_issue (slots_of n old.core.slots) s ≡ Some i → i.sent ≡ false
      → (o : Option Context)
      → context_of old.core.slots n ≡ o → is_for s o ≡ true → ⊥
  unsent_for old k s i mine unsent None is for' = cc
  unsent_for old k s i mine unsent (Some c) is for' =
      let of : IsContext n old.core.slots c = subst (λ (o : Option Context). MatchOption o (Unit {0}) (IsContext n old.core.slots)) is (k.slots.contexts n) in
      let there = (own_in n s old.core.slots i mine).1 in
      let issue : IsIssue i = subst (λ (o : Option Issue). MatchOption o (Unit {0}) IsIssue) there (k.slots.issues s) in
      let at : IsContextOf n c i =
      subst (λ (o : Option Issue). MatchOption o ⊥ (IsContextOf n c)) (ap (issue_at old.core.slots) (eqb-true c.slot s for') ∙ there) of.1 in
      no_go (is_queued_issue i) i.answered i.sent (needs_all i.work.kind) unsent (λ e. (issue.answers e).1) at.goes
    where
      no_go : (q a s n : Bool) → s ≡ false → (a ≡ true → s ≡ true) → ((q && a) || (s && n)) ≡ true → ⊥
      no_go q true true n off sends e = cc
      no_go q true false n off sends e = false≢true (sends refl)
      no_go true false true n off sends e = cc
      no_go false false true n off sends e = cc
      no_go true false false n off sends e = cc
      no_go false false false n off sends e = cc

  -- behind the command it is not shut
  sent_open : (dev slot : ℕ) (fis : List ℕ) (old new : ControllerState) (k : IsController old) (l : IsController new) (does : Does old (call.Turned (next.Order dev slot fis)) new) (past : History)
      → (told : IsTold (view_of n old.core) past) → IsSent n slot old new → (i : Issue) → own_issue (slots_of n old.core.slots) slot ≡ Some i
      → i.sent ≡ false → is_shut n new ≡ true → ⊥
  sent_open dev slot fis old new k l does past told it i mine unsent shuts =
      let e : Event = call.Turned (next.Order dev slot fis) in
      let h : History = then' laws n below e old new k l does past told in
      let told_now : IsTold (view_of n new.core) h = told_then laws n below e old new k l does past told in
      let at : waiting_in h ≡ Some slot = at_some slot (waiting_in h) ((told_now.agrees.issues_agree slot it.issue it.mine).waits_is ∙ it.waits) in
      let up : IsUp slot h =
      ap (λ (o : Option ℕ). match_some o false (λ t. is_set_up t h && match_some (last_setup h) false (λ x. match_some x.ends false is_quiet))) (sym at) ∙ shut_told n new l h told_now shuts in
      let g = grown IsNoBlock no_block AnyTurn turn_any n e old new does (core_events laws n below old new e k l does).run (any_goes n e old) tt past in
      let before : IsUp slot past = all_up slot g.more past g.all (subst (IsUp slot) g.is up) in
      unsent_for old k slot i mine unsent (context_of old.core.slots n) refl
      (sym (told.agrees.issues_agree slot i mine).set_up_is ∙ (and_parts (is_set_up slot past) _ before).0)

  record Sends (e : Event) (old new : ControllerState) : Type 0 where
    before : waits_in n old ≡ false
    waits : waits_in n new ≡ true
    stands : is_shut n new ≡ false

  sends : (e : Event) (old new : ControllerState) (k : IsController old) (l : IsController new) (does : Does old e new) (past : History)
      → (told : IsTold (view_of n old.core) past)
      → is_commanded n old e ≡ true → Sends e old new
  sends (call.Turned (next.Order dev slot fis)) old new k l does past told is =
      let it : IsSent n slot old new = sent_now n dev slot fis old new (low_slot n slot old k is) k l does is in
      let low = low_slot n slot old k is in
      let long = k.slots.slots in
      let h : IsOrderedOnce slot old.core new.core = ordered_once old new dev slot fis (omega (arith, long, low)) does in
      let both = and_parts (h.issue.dev == n) (not (is_control h.issue.work.kind)) (ap (holds (is_command_issue n)) (sym h.was) ∙ is) in
      let mine : own_issue (slots_of n old.core.slots) slot ≡ Some h.issue =
      subst (λ (m : ℕ). own_issue (slots_of m old.core.slots) slot ≡ Some h.issue) (eqb-true h.issue.dev n both.0) (own_here slot old.core.slots h.issue (omega (arith, long, low)) h.was) in
      record {
        before = it.before;
        waits = some_waits n slot new l it.issue it.mine it.waits;
        stands = not_true (is_shut n new) (λ shuts. sent_open dev slot fis old new k l does past told it h.issue mine h.unsent shuts);
      }
  sends other old new k l does past told is = absurd (false≢true is)

  -- ---- one call

  record Step (e : Event) (old new : ControllerState) : Type 0 where
    most : once_if (is_commanded n old e) + due n old ≤ length (kinds_of n e) + due n new

  -- what waits and is not shut does so still
  stays_due : (e : Event) (old new : ControllerState) (k : IsController old) (l : IsController new) (does : Does old e new) (past : History)
      → (told : IsTold (view_of n old.core) past)
      → KeepsEnding n old e new → is_commanded n old e ≡ false → kinds_of n e ≡ [] → waits_in n old ≡ true → is_shut n old ≡ false → due n new ≡ 1
  stays_due e old new k l does past told keeps none no_kind waits stands =
      let now : waits_in n new ≡ true = by e does keeps (none_answered n e no_kind) (is_data_of n e) refl in
      due_one n new now (not_true (is_shut n new) (λ shuts. false≢true (sym stands ∙ shut_back laws n below e old new k l does past told none (none_closing n e no_kind) now shuts)))
    where
      by : (e : Event) → Does old e new → KeepsEnding n old e new → is_answered n e ≡ false → (b : Bool) → is_data_of n e ≡ b → waits_in n new ≡ true
      by e does keeps answered false is = keeps answered is waits
      by (call.Took frame took) does keeps answered true is = data_keeps frame took old new k l does past told (and_parts (port_of frame == n) (carries (seen frame)) is).1 waits stands
      by other does keeps answered true is = absurd (false≢true is)

  due_cases : (c : ControllerState) (m : ℕ) → (waits_in n c ≡ true → is_shut n c ≡ false → 1 ≤ m) → due n c ≤ m
  due_cases c m one = by (waits_in n c) (is_shut n c) refl refl
    where
      least : (k : ℕ) → 0 ≤ k
      least k = omega arith

      by : (a b : Bool) → waits_in n c ≡ a → is_shut n c ≡ b → due n c ≤ m
      by false b w s = let none = due_none n c w in let some = least m in omega (arith, none, some)
      by true true w s = let none = due_shut n c s in let some = least m in omega (arith, none, some)
      by true false w s = let is = due_one n c w s in let some = one w s in omega (arith, is, some)

  step : (e : Event) (old new : ControllerState) → IsController old → IsController new → Does old e new → (past : History)
      → IsTold (view_of n old.core) past → KeepsEnding n old e new → Step e old new
  step e old new k l does past told keeps = by (is_commanded n old e) refl (event_kind n e)
    where
      by : (b : Bool) → is_commanded n old e ≡ b → Kind (kinds_of n e) → Step e old new
      by true is kind =
          let s : Sends e old new = sends e old new k l does past told is in
          let one = ap once_if is in
          let none = due_none n old s.before in
          let now = due_one n new s.waits s.stands in
          record { most = omega (arith, one, none, now) }
      by false is (NoKind none) =
          let zero = ap once_if is in
          let stays = due_cases old (due n new) (λ waits stands. let one = stays_due e old new k l does past told keeps is none waits stands in omega (arith, one)) in
          record { most = omega (arith, zero, stays) }
      by false is (Register one) =
          let zero = ap once_if is in
          let long = ap (λ (x : List Bool). length x) one in
          let most = due_most (waits_in n old && not (is_shut n old)) in
          record { most = omega (arith, zero, long, most) }
      by false is (Block one) =
          let zero = ap once_if is in
          let long = ap (λ (x : List Bool). length x) one in
          let most = due_most (waits_in n old && not (is_shut n old)) in
          record { most = omega (arith, zero, long, most) }

  -- ---- every run

  told_next : (e : Event) (old new : ControllerState) (k : IsController old) (l : IsController new) (does : Does old e new) (past : History)
      → (told : IsTold (view_of n old.core) past)
      → IsTold (view_of n new.core) (then' laws n below e old new k l does past told)
  told_next e old new k l does past told = told_then laws n below e old new k l does past told

  pub kinds_long : (e : Event) (later : List Event) → length (taken_kinds n (e ∷ later)) ≡ length (kinds_of n e) + length (taken_kinds n later)
  kinds_long e later = length-append (kinds_of n e) (taken_kinds n later)

  pub await_settled : (old now : ControllerState) (events : List Event) (run : Runs old events now) → AllKeepEnding n old events now run
      → (past : History) → IsTold (view_of n old.core) past
      → commanded_in n old events now run + due n old ≤ length (taken_kinds n events) + due n now
  await_settled old now [] run keeps past told = let same : due n now ≡ due n old = ap (due n) run.1 in omega (arith, same)
  await_settled old now (e ∷ later) run keeps past told =
      let mid : ControllerState = run.1.0 in
      let l : IsController mid = first_kept later mid now run.1.2 in
      let first = (step e old mid run.0 l run.1.1 past told keeps.0).most in
      let rest = await_settled mid now later run.1.2 keeps.1 _ (told_next e old mid run.0 l run.1.1 past told) in
      let long = kinds_long e later in
      omega (arith, first, rest, long)

  -- ---- the last one

  abbrev IsStrict : (old : ControllerState) → (events : List Event) → (now : ControllerState) → Runs old events now → Type 0
  IsStrict old events now run = commanded_in n old events now run + due n old + 1 ≤ length (taken_kinds n events)

  -- none settled, and it was shut before
  record WasShut (old : ControllerState) (events : List Event) : Type 0 where
    none : taken_kinds n events ≡ []
    waits : waits_in n old ≡ true
    shuts : is_shut n old ≡ true

  abbrev Ends : (old : ControllerState) → (events : List Event) → (now : ControllerState) → Runs old events now → Type 0
  Ends old events now run = EndsTrue (taken_kinds n events) ⊎ (IsStrict old events now run ⊎ WasShut old events)

  both_none : (xs ys : List Bool) → xs ≡ [] → ys ≡ [] → xs ++ ys ≡ []
  both_none xs ys a b = ap (λ (l : List Bool). l ++ ys) a ∙ b

  fold : (old now : ControllerState) (events : List Event) (run : Runs old events now) → AllKeepEnding n old events now run → (past : History)
      → IsTold (view_of n old.core) past
      → waits_in n now ≡ true → is_shut n now ≡ true → Ends old events now run
  fold old now [] run keeps past told waits shuts =
      inr (inr (record { none = refl; waits = ap (waits_in n) (sym run.1) ∙ waits; shuts = ap (is_shut n) (sym run.1) ∙ shuts }))
  fold old now (e ∷ later) run keeps past told waits shuts =
      let mid : ControllerState = run.1.0 in
      let l : IsController mid = first_kept later mid now run.1.2 in
      let next_told = told_next e old mid run.0 l run.1.1 past told in
      let first = (step e old mid run.0 l run.1.1 past told keeps.0).most in
      let long = kinds_long e later in
      elim (fold mid now later run.1.2 keeps.1 _ next_told waits shuts) [
        | inl ends ↦ inl (record { front = kinds_of n e ++ ends.front; is = ap (λ (x : List Bool). kinds_of n e ++ x) ends.is ∙ sym (append_assoc (kinds_of n e) ends.front (true ∷ [])) })
        | inr (inl strict) ↦ inr (inl (omega (arith, first, strict, long)))
        | inr (inr was) ↦ by (is_commanded n old e) refl (event_kind n e) l first was (await_settled mid now later run.1.2 keeps.1 _ next_told) (due_shut n now shuts)
      ]
    where
      by : (b : Bool) → is_commanded n old e ≡ b → Kind (kinds_of n e) → IsController run.1.0
          → once_if (is_commanded n old e) + due n old ≤ length (kinds_of n e) + due n run.1.0 → WasShut run.1.0 later
          → commanded_in n run.1.0 later now run.1.2 + due n run.1.0 ≤ length (taken_kinds n later) + due n now → due n now ≡ 0 → Ends old (e ∷ later) now run
      by true is kind l first was rest none = absurd (false≢true (sym (sends e old run.1.0 run.0 l run.1.1 past told is).stands ∙ was.shuts))
      by false is (Block one) l first was rest none =
          inl (record { front = []; is = ap (λ (x : List Bool). x ++ taken_kinds n later) one ∙ ap (λ (x : List Bool). true ∷ x) was.none })
      by false is (NoKind no_kind) l first was rest none =
          inr (inr (record {
            none = both_none (kinds_of n e) (taken_kinds n later) no_kind was.none;
            waits = waits_back laws n below e old run.1.0 run.0 l run.1.1 past told is was.waits;
            shuts = shut_back laws n below e old run.1.0 run.0 l run.1.1 past told is (none_closing n e no_kind) was.waits was.shuts;
          }))
      by false is (Register one) l first was rest none =
          let shuts_old = shut_back laws n below e old run.1.0 run.0 l run.1.1 past told is (register_closing n e one) was.waits was.shuts in
          let free = due_shut n old shuts_old in
          let mid_free = due_shut n run.1.0 was.shuts in
          let zero = ap once_if is in
          let long = kinds_long e later in
          let here = ap (λ (x : List Bool). length x) one in
          let there = ap (λ (x : List Bool). length x) was.none in
          inr (inl (omega (arith, free, zero, long, here, there, rest, none, mid_free)))

  -- where nothing is set up as it begins
  pub settled_last : (old now : ControllerState) (events : List Event) (run : Runs old events now) → AllKeepEnding n old events now run → (past : History)
      → IsTold (view_of n old.core) past
      → context_of old.core.slots n ≡ None → waits_in n now ≡ true → is_shut n now ≡ true
      → EndsTrue (taken_kinds n events) ⊎ (commanded_in n old events now run + due n old + 1 ≤ length (taken_kinds n events))
  settled_last old now events run keeps past told clear waits shuts = elim (fold old now events run keeps past told waits shuts) [
    | inl ends ↦ inl ends
    | inr (inl strict) ↦ inr strict
    | inr (inr was) ↦ absurd (false≢true (ap (λ (o : Option Context). match_some o false (λ c. match_some (view_of n old.core).state.block false (λ b. is_quiet b.ends))) (sym clear) ∙ was.shuts))
  ]
