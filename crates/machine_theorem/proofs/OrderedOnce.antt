-- A command that goes was not sent before, and then it was.
use Rattle.std.proofs.Common.{◌≡◌, ℕ, ◌<◌, ◌&&◌, Bool, true, false, not, List, length, Option, Some, None, refl, sym, ap, subst, ◌∙◌}
use Rattle.std.proofs.lemmas.{Bool.and_parts, List.{get_or-set_same, length-map}}
use Rattle.std.specs.{Prelude.{MatchOption, if◌then◌else◌}, Option.option_map}
use Rattle.hba_commands.specs.declared.command.Command as core_command
use Rattle.guest_fetch.specs.{Commands.Fetched, declared.moves.Move.Move}
use Rattle.slots.specs.{Commands.{after_sent, is_slot, sent_issue}, Setup.{begun, whole_context, with_own_context}, Slots.{DeviceSlots, Issue, freed}}
use Rattle.slots.specs.{Slots.{holds, is_control, issue_at, match_some, own_issue, owned_by, slots_of, waiting, with_own_issue}, Work.is_dma}
use Rattle.slots.specs.{Work.is_queued, declared.work.Kind.{Kind, TheVariants.{QueuedRead, QueuedWrite, DmaIn, DmaOut, PioIn, PioOut, NoData}}}
use Rattle.slots.specs.declared.work.Kind.TheVariants.{Control}
use Rattle.hba_fbs.specs.{Choosing.{Chooses, MayChoose, is_free}, Turning.orders, Views.{Port, last_command, view_of}, declared.turn.Turn.Turn}
use Rattle.hba_fbs.specs.declared.turn.Turn.TheVariants.{Feeds, Orders, Rests}
use Rattle.hba_laws.proofs.Door.{own_here, own_in}
use Rattle.ahci_controller.specs.{Moving.count_of, Next.{Frames, FramesFor, GoesIf, Reads, RestsNow, Turns, TurnsIf, count_next, counted_slot}}
use Rattle.ahci_controller.specs.Next.{feed_next, is_halted, next_device, next_read, next_slot, next_write, order_next, payload_step, rest, written}
use Rattle.ahci_controller.specs.{States.{ControllerState, kept}, declared.next.Next.Next}
use Rattle.ahci_controller.specs.declared.next.Next.TheVariants as next

-- what goes was issued and not sent; a command stands there then, sent, and no slot of its device waited
pub record IsOrderedOnce (slot : ℕ) (old new : Port) : Type 0 where
  pub issue : Issue
  pub was : issue_at old.slots slot ≡ Some issue
  pub unsent : issue.sent ≡ false
  pub sent : is_control issue.work.kind ≡ false → issue_at new.slots slot ≡ Some (sent_issue issue)
  pub free : is_control issue.work.kind ≡ false → waiting (slots_of issue.dev old.slots) ≡ None

abbrev IsOnce : ControllerState → ControllerState → Next → Type 0
IsOnce c d (next.Order dev slot fis) = slot < length c.core.slots.issues → IsOrderedOnce slot c.core d.core
IsOnce c d said = Unit {0}

-- ---- a command goes

pub queued_kind : (k : Kind) → is_queued k ≡ true → is_control k ≡ false
queued_kind QueuedRead e = refl
queued_kind QueuedWrite e = refl
queued_kind DmaIn e = refl
queued_kind DmaOut e = refl
queued_kind PioIn e = refl
queued_kind PioOut e = refl
queued_kind NoData e = refl
queued_kind Control e = absurd (cc)

-- the slots of the device after the command of this issue went
abbrev gone_with : DeviceSlots → ℕ → Option Issue → DeviceSlots
gone_with own slot o =
    if holds (λ issue. is_control issue.work.kind) o then freed (is_slot slot) own
    else match_some o (with_own_issue own slot (option_map sent_issue o)) (λ issue. begun slot issue.work (with_own_issue own slot (option_map sent_issue o)))

begun_same : (own : DeviceSlots) (slot : ℕ) (i : Issue) (b : Bool) → own_issue (if b then with_own_context own (whole_context slot i.work) else own) slot ≡ own_issue own slot
begun_same own slot i true = refl
begun_same own slot i false = refl

gone_some : (own : DeviceSlots) (slot : ℕ) (i : Issue) (b : Bool) → is_control i.work.kind ≡ b → b ≡ false → slot < length own.issues
    → own_issue (if b then freed (is_slot slot) own else begun slot i.work (with_own_issue own slot (Some (sent_issue i)))) slot ≡ Some (sent_issue i)
gone_some own slot i true is no_control lt = absurd (cc)
gone_some own slot i false is no_control lt =
    begun_same (with_own_issue own slot (Some (sent_issue i))) slot i (is_dma i.work.kind) ∙ get_or-set_same own.issues slot (Some (sent_issue i)) None lt

sent_is : (own : DeviceSlots) (slot : ℕ) (i : Issue) → own_issue own slot ≡ Some i → is_control i.work.kind ≡ false → slot < length own.issues → own_issue (after_sent own slot) slot ≡ Some (sent_issue i)
sent_is own slot i is plain lt = ap (λ (o : Option Issue). own_issue (gone_with own slot o) slot) is ∙ gone_some own slot i (is_control i.work.kind) refl plain lt

may_be : (o : Option Issue) (i : Issue) (P : Issue → Type 0) → o ≡ Some i → MatchOption o ⊥ P → P i
may_be o i P is may = subst (λ (x : Option Issue). MatchOption x ⊥ P) is may

first_of : (a b c : Bool) → (a && b && c) ≡ true → a ≡ true
first_of true b c e = refl
first_of false b c e = absurd (cc)

not_is : (b : Bool) → not b ≡ true → b ≡ false
not_is true e = absurd (cc)
not_is false e = refl

free_first : (p : Port) (i : Issue) → is_free p i ≡ true → i.sent ≡ false
free_first p i e = not_is i.sent (first_of (not i.sent) _ _ (and_parts _ _ e).0)

order_once : (c d : ControllerState) (slot : ℕ) (i : Option Issue) (l : Option core_command.Command) → issue_at c.core.slots slot ≡ i
    → MayChoose c.core (match_some i Rests (λ issue. match_some l Rests (Orders issue.dev slot)))
    → Chooses (match_some i Rests (λ issue. match_some l Rests (Orders issue.dev slot))) c.core d.core
    → IsOnce c d (order_next slot (match_some i Rests (λ issue. match_some l Rests (Orders issue.dev slot))))
order_once c d slot None l is may goes = tt
order_once c d slot (Some issue) None is may goes = tt
order_once c d slot (Some issue) (Some command) is may goes = λ lt. record {
  issue = issue;
  was = is;
  unsent = free_first c.core issue (ap (holds (is_free c.core)) (sym is) ∙ (and_parts _ _ may.0).1);
  sent = λ plain.
      let mine = own_here slot c.core.slots issue lt is in
      let long : length (view_of issue.dev c.core).slots.issues ≡ length c.core.slots.issues = length-map c.core.slots.issues (owned_by issue.dev) in
      let own = ap (λ v. own_issue v.slots slot) goes.own ∙ sent_is (view_of issue.dev c.core).slots slot issue mine plain (subst (λ (n : ℕ). slot < n) (sym long) lt) in
      (own_in issue.dev slot d.core.slots (sent_issue issue) own).1;
  free = (may_be (issue_at c.core.slots slot) issue (λ i. (i.sent ≡ false) × (is_control i.work.kind ≡ false → waiting (slots_of i.dev c.core.slots) ≡ None)) is may.1.may).1;
}

-- ---- what else is said

count_once : (c d : ControllerState) (f : Option Fetched) → MatchOption (option_map (λ command. next.Counted (count_of command)) f) (Unit {0}) (IsOnce c d)
count_once c d None = tt
count_once c d (Some f) = tt

counted_once : (c d : ControllerState) (s : Option ℕ) → MatchOption (match_some s None (count_next c)) (Unit {0}) (IsOnce c d)
counted_once c d None = tt
counted_once c d (Some s) = count_once c d (kept c s)

posted_once : (c d : ControllerState) (m : Option Move) → MatchOption (match_some m (match_some (counted_slot c.writes) None (count_next c)) (λ w. Some (next.Posted w))) (Unit {0}) (IsOnce c d)
posted_once c d None = counted_once c d (counted_slot c.writes)
posted_once c d (Some m) = tt

payload_once : {A : Type 0} (c d : ControllerState) (f : A → Next) (s : Option A) → ((a : A) → IsOnce c d (f a))
    → MatchOption (match_some s (rest c) (λ a. Some (f a))) (Unit {0}) (IsOnce c d)
payload_once c d f None once = posted_once c d c.writes.posted
payload_once c d f (Some s) once = once s

feed_once : (c d : ControllerState) (dev number : ℕ) (turn : Turn) → IsOnce c d (feed_next dev number turn)
feed_once c d dev number Rests = tt
feed_once c d dev number (Feeds to slot offset len) = tt
feed_once c d dev number (Orders to slot command) = tt

said : (c d : ControllerState) (is what : Next) → is ≡ what → IsOnce c d what → IsOnce c d is
said c d is what same once = subst (IsOnce c d) (sym same) once

frames : (device slot : Option ℕ) (fed : Bool) (c : ControllerState) (result : Next) (d : ControllerState) → FramesFor device slot fed c result d → IsOnce c d result
frames None None fed c result d h = said c d result next.Nothing h.1 tt
frames None (Some slot) fed c result d h =
    said c d result (order_next slot (orders c.core slot)) h.is (order_once c d slot (issue_at c.core.slots slot) (last_command c.core.commands slot) refl h.may h.core)
frames (Some dev) None fed c result d h = said c d result _ h.is (feed_once c d dev _ _)
frames (Some dev) (Some slot) false c result d h = said c d result _ h.is (feed_once c d dev _ _)
frames (Some dev) (Some slot) true c result d h =
    said c d result (order_next slot (orders c.core slot)) h.is (order_once c d slot (issue_at c.core.slots slot) (last_command c.core.commands slot) refl h.may h.core)

reads : (o : Option ℕ) (c m : ControllerState) (result : Next) (d : ControllerState) → MatchOption o (RestsNow m result d) (λ slot. Reads m slot result d) → IsOnce c d result
reads None c m result d h = said c d result next.Nothing h.1 tt
reads (Some slot) c m result d h = said c d result _ h.0 tt

runs : (o : Option ℕ) (c : ControllerState) (result : Next) (d : ControllerState) → MatchOption o (Frames c result d) (λ slot. Reads c slot result d) → IsOnce c d result
runs None c result d h = frames (next_device c) (next_slot c) c.circle.fed c result d h
runs (Some slot) c result d h = said c d result _ h.0 tt

goes : (started : Bool) (c : ControllerState) (result : Next) (d : ControllerState) → GoesIf started c result d → IsOnce c d result
goes true c result d h = runs (next_read c) c result d h
goes false c result d h = reads (next_read h.middle) c h.middle result d h.reads

turns_if : (halted : Bool) (c : ControllerState) (result : Next) (d : ControllerState) → TurnsIf halted c result d → IsOnce c d result
turns_if true c result d h = said c d result next.Nothing h.1 tt
turns_if false c result d h = goes c.core.registers.started c result d h

same_core : (c d : ControllerState) (result : Next) → IsOnce (written c) d result → IsOnce c d result
same_core c d (next.Order dev slot fis) h = λ lt. let it = h lt in record { issue = it.issue; was = it.was; unsent = it.unsent; sent = it.sent; free = it.free }
same_core c d (next.Feed dev number slot offset len) h = tt
same_core c d (next.Payload x) h = tt
same_core c d (next.Posted x) h = tt
same_core c d (next.Counted x) h = tt
same_core c d next.Nothing h = tt
same_core c d (next.Read ask) h = tt

turns : (c : ControllerState) (result : Next) (d : ControllerState) → Turns c result d → IsOnce c d result
turns c result d h = by (next_write c) (payload_once c d (λ s. next.Payload s.write) (payload_step c) (λ s. tt)) h
  where
    by : (o : Option Next) → MatchOption o (Unit {0}) (IsOnce c d)
        → MatchOption o (TurnsIf (is_halted (written c)) (written c) result d) (λ write. (result ≡ write) × (d ≡ written c)) → IsOnce c d result
    by None once is = same_core c d result (turns_if (is_halted (written c)) (written c) result d is)
    by (Some write) once is = said c d result write is.0 once

pub ordered_once : (c d : ControllerState) (dev slot : ℕ) (fis : List ℕ) → slot < length c.core.slots.issues → Turns c (next.Order dev slot fis) d → IsOrderedOnce slot c.core d.core
ordered_once c d dev slot fis lt h = turns c (next.Order dev slot fis) d h lt
