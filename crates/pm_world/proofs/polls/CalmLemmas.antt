-- For `polled_is_honest`. A request that began is not issued again: what was issued for it and is not issued any more
-- stays so.
use Rattle.std.proofs.Common.{◌≡◌, ◌==◌, ℕ, ◌<◌, Bool, true, false, List, [], ◌∷◌, ◌++◌, drop, refl, sym, ap, ◌∙◌, inl, inr, arith, Option, Some}
use Rattle.std.proofs.{Common.None, lemmas.Bool.{cases_Bool, true≢false}}
use Rattle.std.specs.Prelude.{◌⊎◌, if◌then◌else◌, map}
use Rattle.fis_view.specs.Seen.{seen}
use Rattle.hba_fbs.specs.{declared.{hearing.Happening.Happening, status.Block.Block}, Sending.{Outgoing, outgoing}, Taking.{admitted, heard_now}}
use Rattle.hba_fbs.specs.Taking.{ignores, port_of}
use Rattle.hba_fbs.specs.declared.hearing.Happening.TheVariants as happening
use Rattle.hba_fbs.specs.Sending as out
use Rattle.slots.specs.{declared.answer.Answered.Answered, Slots.{Issue, holds, issue_at, match_some}, Work.{is_dma, is_read}}
use Rattle.slots.specs.declared.answer.Answered.TheVariants as answered
use Rattle.disk_simulation.specs.Same.{SlotCommand}
use Rattle.disk_model.specs.Ledger.{empty}
use Rattle.hba_laws.specs.{Client.{By, Touches, own}, Delivering.{begun_by, by_device, event_heard, event_of, event_of_answer, event_of_block}}
use Rattle.hba_laws.specs.{Delivering.{event_sent, event_taken, is_control_issue, touched_by_out, touches_after}, History.{Event, History, Transfer}}
use Rattle.hba_laws.specs.History.{completes, issued, unless}
use Rattle.hba_laws.specs.History as event
use Rattle.hba_laws.specs.Hosts as host_event
use Rattle.hba_driver.specs.{Drivers.{Entry, entry_at, is_issued, waits_in}, Events.{IsSoundHost, events_over, shared_by}, HostTurns.{Does, Host}}
use Rattle.hba_driver.specs.{HostTurns.{HostTurn, Pushed, Ticked, Took}, Laws.GoesOn, Served.{IsOrdered, IsRequest, IsServed, IsStep, RunServes}}
use Rattle.hba_driver.specs.Steady.{slot_in}
use Rattle.disk_recovery.specs.Between.{CalmEnds}
use Rattle.hba_driver.proofs.Door.{begun_calm, begun_slot, tick_beside}
use Rattle.disk_recovery.proofs.Door.{beside_away, calm_ends}

-- nothing is issued in slot s for device n
abbrev pub IsFreed : (n s : ℕ) → Touches → Type 0
IsFreed n s touches = (t : Transfer) → issued s (own n touches) ≡ Some t → ⊥

-- ## Events that issue nothing

abbrev IsNoIssue : Event → Type 0
IsNoIssue (event.Issued slot t) = ⊥
IsNoIssue e = Prim.Unit {0}

was_before : (b : Bool) (t u : Transfer) → unless b (Some t) ≡ Some u → Some t ≡ Some u
was_before true t u h = cc
was_before false t u h = h

was_by : (o : Option Transfer) (test : Transfer → Bool) (t : Transfer) → match_some o None (λ u. unless (test u) (Some u)) ≡ Some t → o ≡ Some t
was_by None test t h = h
was_by (Some u) test t h = was_before (test u) u t h

unless_was : (b : Bool) (o : Option Transfer) (t : Transfer) → unless b o ≡ Some t → o ≡ Some t
unless_was true o t h = cc
unless_was false o t h = h

none_issues : (s : ℕ) (e : Event) (past : History) (t : Transfer) → IsNoIssue e → issued s (e ∷ past) ≡ Some t → issued s past ≡ Some t
none_issues s (event.Issued slot u) past t none h = absurd none
none_issues s (event.SentControl slot) past t none h = unless_was (slot == s) (issued s past) t h
none_issues s event.Emptied past t none h = cc
none_issues s other past t none h = was_by (issued s past) (λ u. completes s other past u.work) t h

abbrev IsNone : Option Event → Type 0
IsNone None = Prim.Unit {0}
IsNone (Some e) = IsNoIssue e

by_test : (n s : ℕ) (e : Event) (touches : Touches) (t : Transfer) (b : Bool) → IsNoIssue e → issued s (if b then e ∷ own n touches else own n touches) ≡ Some t
    → issued s (own n touches) ≡ Some t
by_test n s e touches t true none h = none_issues s e (own n touches) t none h
by_test n s e touches t false none h = h

device_issues : (n s m : ℕ) (o : Option Event) (touches : Touches) (t : Transfer) → IsNone o → issued s (own n (by_device m o ++ touches)) ≡ Some t
    → issued s (own n touches) ≡ Some t
device_issues n s m None touches t none h = h
device_issues n s m (Some e) touches t none h = by_test n s e touches t (m == n) none h

-- ## What a FIS means to its device

answer_none : (a : Answered) → IsNone (event_of_answer a)
answer_none answered.Nobody = tt
answer_none other = tt

block_none : (count : ℕ) (to_host : Bool) (block : Option Block) → IsNone (event_of_block count to_host block)
block_none count to_host None = tt
block_none count to_host (Some block) = tt

happening_none : (h : Happening) (block : Option Block) (payload : List ℕ) → IsNone (event_of h block payload)
happening_none (happening.Answered a) block payload = answer_none a
happening_none (happening.PioSetUp count to_host) block payload = block_none count to_host block
happening_none other block payload = tt

taken_none : (host : host_event.Host) (frame : List ℕ) → IsNone (event_taken host frame)
taken_none host frame = by_ignores (ignores (port_of frame) host.port frame)
  where
    by_ignores : (b : Bool) → IsNone (if b then None else event_heard (heard_now host.port host.memory (port_of frame) (admitted (port_of frame) (seen frame))) (drop 4 frame))
    by_ignores true = tt
    by_ignores false =
        happening_none (heard_now host.port host.memory (port_of frame) (admitted (port_of frame) (seen frame))).happening
        (heard_now host.port host.memory (port_of frame) (admitted (port_of frame) (seen frame))).state.block (drop 4 frame)

sent_none : (b : Bool) (slot : ℕ) → IsNoIssue (if b then event.SentControl slot else event.Sent slot)
sent_none true slot = tt
sent_none false slot = tt

begun_issues : (n s dev slot : ℕ) (o : Option Issue) (e : Event) (touches : Touches) (t : Transfer)
    → issued s (own n ((map (By dev) (begun_by slot o) ++ By dev e ∷ []) ++ touches)) ≡ Some t → issued s (own n (By dev e ∷ touches)) ≡ Some t
begun_issues n s dev slot None e touches t h = h
begun_issues n s dev slot (Some i) e touches t h = by_dma (is_dma i.work.kind) h
  where
    by_dma : (b : Bool) → issued s (own n ((map (By dev) (if b then event.SetUp slot 0 i.work.len (is_read i.work.kind) ∷ [] else []) ++ By dev e ∷ []) ++ touches)) ≡ Some t
        → issued s (own n (By dev e ∷ touches)) ≡ Some t
    by_dma true now = by_test n s (event.SetUp slot 0 i.work.len (is_read i.work.kind)) (By dev e ∷ touches) t (dev == n) tt now
    by_dma false now = now

out_issues : (n s : ℕ) (host : host_event.Host) (o : Outgoing) (touches : Touches) (t : Transfer) → issued s (own n (touched_by_out host o ++ touches)) ≡ Some t
    → issued s (own n touches) ≡ Some t
out_issues n s host (out.Data dev offset len command) touches t h = by_test n s _ touches t (dev == n) tt h
out_issues n s host (out.Order dev slot command) touches t h =
    by_test n s _ touches t (dev == n) (sent_none (holds is_control_issue (issue_at host.port.slots slot)) slot)
    (begun_issues n s dev slot (issue_at host.port.slots slot) (event_sent host.port.slots slot) touches t h)
out_issues n s host other touches t h = h

-- ## A tick

same_entry : (e f : Entry) → Some e ≡ Some f → e ≡ f
same_entry e f h = cc

module _ (old : Host) (acted : Bool) (new : Host) (does : Does old (Ticked acted) new) (s : ℕ) (e f : Entry) (low : s < 30)
    (here : entry_at old.driver.entries s ≡ Some e) (there : entry_at new.driver.entries s ≡ Some f) (on : GoesOn e f)
    (begun : waits_in e.head.phase ≡ false) (is : is_issued f.head ≡ true) where
  tick_freed : (touches : Touches) → IsSoundHost old → IsServed old.driver (shared_by old) touches
      → (serves : RunServes old new (Ticked acted ∷ []) (new, does, refl) touches) → IsFreed e.head.dev s touches
      → IsFreed e.head.dev s (touches_after touches (shared_by old) (shared_by new) (events_over old new (Ticked acted ∷ []) (new, does, refl)) serves.runs)
  tick_freed touches sound served serves freed t issued_now =
      elim (ends.fresh s t issued_now) [
        | inl new_one ↦ begun_slot old acted new does s e f low here there on begun is new_one.0
        | inr was ↦ freed t was.0
      ]
    where
      below : e.head.dev < 16
      below = let dev : e.head.dev < 15 = (served.bounded.entries s e here).dev in omega (arith, dev)

      command : ℕ → SlotCommand
      command k = record { command = record { write = false; tag = k; lba = 0; count = 0 }; since = 0 }

      ends : CalmEnds e.head.dev (slot_in old) empty (command (slot_in old)) command (shared_by old) (shared_by new)
          (events_over old new (Ticked acted ∷ []) (new, does, refl)) serves.runs touches
      ends =
          calm_ends e.head.dev (slot_in old) empty (command (slot_in old)) refl (omega arith) command (shared_by old) (shared_by new)
          (events_over old new (Ticked acted ∷ []) (new, does, refl)) serves.runs touches below (λ k. refl)
          (beside_away e.head.dev (slot_in old) (shared_by old) (shared_by new) (events_over old new (Ticked acted ∷ []) (new, does, refl)) serves.runs
          (tick_beside e.head.dev old acted new (new, does, refl) sound served.bounded
          (begun_calm old acted new does s e f low here there on begun is) serves.runs))

-- ## Any turn

-- nothing is issued at the port for a request that is not issued
pub unissued_freed : (h : Host) (touches : Touches) (s : ℕ) (e : Entry) → IsServed h.driver (shared_by h) touches → s < 30 → entry_at h.driver.entries s ≡ Some e
    → is_issued e.head ≡ false → (n : ℕ) → IsFreed n s touches
unissued_freed h touches s e served low here unissued n t is = by_from (served.issues n s t is).from
  where
    by_from : IsRequest h.driver n s t ⊎ (IsStep h.driver n s t ⊎ IsOrdered h.driver n s t) → ⊥
    by_from (inl r) =
        let same : r.entry ≡ e = same_entry r.entry e (sym r.stands ∙ here) in
        true≢false (sym r.goes ∙ ap (λ (x : Entry). is_issued x.head) same ∙ unissued)
    by_from (inr (inl step)) = let at : s ≡ 30 = step.slot in omega (arith, at, low)
    by_from (inr (inr order)) = let at : s ≡ 31 = order.slot in omega (arith, at, low)

pub turn_freed : (old : Host) (turn : HostTurn) (new : Host) (does : Does old turn new) (touches : Touches) → IsSoundHost old
    → IsServed old.driver (shared_by old) touches → (serves : RunServes old new (turn ∷ []) (new, does, refl) touches) (s : ℕ) (e f : Entry)
    → s < 30 → entry_at old.driver.entries s ≡ Some e → entry_at new.driver.entries s ≡ Some f → GoesOn e f → waits_in e.head.phase ≡ false
    → IsFreed e.head.dev s touches
    → IsFreed e.head.dev s (touches_after touches (shared_by old) (shared_by new) (events_over old new (turn ∷ []) (new, does, refl)) serves.runs)
turn_freed old (Took frame report) new does touches sound served serves s e f low here there on begun freed = λ t now.
    freed t (device_issues e.head.dev s (port_of frame) (event_taken (shared_by old) frame) touches t (taken_none (shared_by old) frame) now)
turn_freed old (Pushed frame) new does touches sound served serves s e f low here there on begun freed = λ t now.
    freed t (out_issues e.head.dev s (shared_by old) (outgoing old.port old.memory) touches t now)
turn_freed old (Ticked acted) new does touches sound served serves s e f low here there on begun freed = elim (cases_Bool (is_issued f.head)) [
  | inl is ↦ tick_freed old acted new does s e f low here there on begun is touches sound served serves freed
  | inr unissued ↦ unissued_freed new _ s f serves.last low there unissued e.head.dev
]
turn_freed old other new does touches sound served serves s e f low here there on begun freed = freed
