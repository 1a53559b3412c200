-- What is issued in a slot was issued there before an event of the core, unless the event places it; and once its command was sent it stays so.
use Rattle.std.proofs.Common.{◌≡◌, ℕ, zero, suc, Bool, true, false, cond, List, [], ◌∷◌, length, get_or, set, refl, sym, ap, subst, ◌∙◌, inl, inr}
use Rattle.std.proofs.{Common.{Option, Some, None, replicate}, lemmas.{Bool.cases_lt, List.{get_or-replicate, get_or_past, length-replicate}}}
use Rattle.std.proofs.lemmas.Option.{same_Some}
use Rattle.std.specs.{Prelude.{is_ok, is_some, nat_lt, if◌then◌else◌}, Option.option_map}
use Rattle.hba_commands.specs.declared.command.Command.{Command}
use Rattle.slots.specs.{declared.{answer.Answered.Answered, table.Context.Context}, Commands.{after_pio_done, after_sent, answered_as}}
use Rattle.slots.specs.{Commands.{answered_issue, is_done, is_slot, sent_issue, whole_pio, with_sent}, Data.{activated, after_arrive, after_payload}}
use Rattle.slots.specs.{Data.{arrive_answer, gone_over, may_activate, moved_over, payload_len}, Setup.{after_setup_pio, begun, came, new_context}}
use Rattle.slots.specs.{Setup.{pio_fault, pio_issue, whole_context, with_own_context}, Slots.{DeviceSlots, Issue, freed, holds, is_control}}
use Rattle.slots.specs.{Slots.{issues_unless, match_some, no_own_slots, own_issue, sent_pio, with_own_issue}, Work.is_dma}
use Rattle.slots.specs.declared.answer.Answered.TheVariants as answer
use Rattle.slots.proofs.Door.{get-unless, length-unless}
use Rattle.hba_fbs.specs.{declared.hearing.Happening.Happening, Hearing.{block_ended, moved}, Issuing.{issue_with, issued_slots}}
use Rattle.hba_fbs.specs.declared.hearing.Happening.TheVariants as happening
use Rattle.hba_laws.proofs.Door.{own_issued}

-- the issue is there for the same work, and its command is sent if it was
pub record Stem (x : Option Issue) (j : Issue) : Type 0 where
  pub issue : Issue
  pub was : x ≡ Some issue
  pub dev : j.dev ≡ issue.dev
  pub work : j.work ≡ issue.work
  pub sent : issue.sent ≡ true → j.sent ≡ true

abbrev pub Stems : Option Issue → Option Issue → Type 0
Stems x y = (j : Issue) → y ≡ Some j → Stem x j

pub same_stems : (x : Option Issue) → Stems x x
same_stems x j e = record { issue = j; was = e; dev = refl; work = refl; sent = λ s. s }

pub none_stems : (x y : Option Issue) → y ≡ None → Stems x y
none_stems x y none j e = absurd (by (sym none ∙ e))
  where
    by : None ≡ Some j → ⊥
    by e = cc

pub stems_then : (x y z : Option Issue) → Stems x y → Stems y z → Stems x z
stems_then x y z first second j e =
    let b = second j e in
    let a = first b.issue b.was in
    record { issue = a.issue; was = a.was; dev = b.dev ∙ a.dev; work = b.work ∙ a.work; sent = λ s. b.sent (a.sent s) }

-- ---- the slots of a device

abbrev pub OwnStems : DeviceSlots → DeviceSlots → Type 0
OwnStems old new = (s : ℕ) → Stems (own_issue old s) (own_issue new s)

same_own : (own : DeviceSlots) → OwnStems own own
same_own own s = same_stems (own_issue own s)

own_either : (own x y : DeviceSlots) (b : Bool) → OwnStems own x → OwnStems own y → OwnStems own (if b then x else y)
own_either own x y true p q = p
own_either own x y false p q = q

own_match : {A : Type 0} (own : DeviceSlots) (o : Option A) (f : A → DeviceSlots) → ((a : A) → OwnStems own (f a)) → OwnStems own (match_some o own f)
own_match own None f p = same_own own
own_match own (Some a) f p = p a

set_stems : (xs : List (Option Issue)) (i s : ℕ) (o : Option Issue) → Stems (get_or xs i None) o → Stems (get_or xs s None) (get_or (set xs i o) s None)
set_stems [] i s o step = same_stems None
set_stems (x ∷ xs) zero zero o step = step
set_stems (x ∷ xs) zero (suc s) o step = same_stems (get_or xs s None)
set_stems (x ∷ xs) (suc i) zero o step = same_stems x
set_stems (x ∷ xs) (suc i) (suc s) o step = set_stems xs i s o step

-- what leaves the work, and sends at most
pub record Leaves (f : Issue → Issue) : Type 0 where
  pub dev : (i : Issue) → (f i).dev ≡ i.dev
  pub work : (i : Issue) → (f i).work ≡ i.work
  pub sent : (i : Issue) → i.sent ≡ true → (f i).sent ≡ true

map_stems : (x : Option Issue) (f : Issue → Issue) → Leaves f → Stems x (option_map f x)
map_stems None f h = same_stems None
map_stems (Some i) f h = λ j e.
    let same : f i ≡ j = same_Some (f i) j e in
    record { issue = i; was = refl; dev = ap (λ (k : Issue). k.dev) (sym same) ∙ h.dev i; work = ap (λ (k : Issue). k.work) (sym same) ∙ h.work i; sent = λ s. ap (λ (k : Issue). k.sent) (sym same) ∙ h.sent i s }

changed : (own : DeviceSlots) (i : ℕ) (f : Issue → Issue) → Leaves f → OwnStems own (with_own_issue own i (option_map f (own_issue own i)))
changed own i f h s = set_stems own.issues i s (option_map f (own_issue own i)) (map_stems (own_issue own i) f h)

stems_unless : (b : Bool) (o : Option Issue) → Stems o (cond b None o)
stems_unless true o = none_stems o None refl
stems_unless false o = same_stems o

freed_own : (own : DeviceSlots) (f : ℕ → Bool) → OwnStems own (freed f own)
freed_own own f s = elim (cases_lt s (length own.issues)) [
  | inl lt ↦ subst (λ (o : Option Issue). Stems (own_issue own s) o) (sym (get-unless f own.issues s None lt)) (stems_unless (f s) (own_issue own s))
  | inr ge ↦ none_stems (own_issue own s) (own_issue (freed f own) s) (get_or_past (issues_unless f own.issues) s None (rw (length-unless f own.issues) ge))
]

answers_leave : Leaves answered_issue
answers_leave = record { dev = λ i. refl; work = λ i. refl; sent = λ i s. s }

sends_leave : Leaves sent_issue
sends_leave = record { dev = λ i. refl; work = λ i. refl; sent = λ i s. refl }

moves_leave : (next count : ℕ) → Leaves (moved_over next count)
moves_leave next count = record { dev = λ i. refl; work = λ i. refl; sent = λ i s. s }

gone : (own : DeviceSlots) (count : ℕ) (c : Context) → OwnStems own (gone_over count c own)
gone own count c s = set_stems own.issues c.slot s (option_map (moved_over c.next count) (own_issue own c.slot)) (map_stems (own_issue own c.slot) (moved_over c.next count) (moves_leave c.next count))

answered : (a : Answered) (own : DeviceSlots) → OwnStems own (answered_as a own)
answered answer.Nobody own = same_own own
answered (answer.Queued slot) own = changed own slot answered_issue answers_leave
answered (answer.Done slot) own = freed_own own (is_slot slot)
answered (answer.Short slot) own = same_own own

pio : (own : DeviceSlots) (count : ℕ) (to_host : Bool) → OwnStems own (after_setup_pio own count to_host)
pio own count to_host =
    let set_up : ℕ → Issue → DeviceSlots = λ slot issue. with_own_context own (new_context slot (came issue) count to_host) in
    let in_slot : ℕ → DeviceSlots = λ slot. match_some (own_issue own slot) own (set_up slot) in
    own_either own own (match_some (sent_pio own) own in_slot) (is_some (pio_fault (pio_issue own) count to_host)) (same_own own)
    (own_match own (sent_pio own) in_slot (λ slot. own_match own (own_issue own slot) (set_up slot) (λ issue. same_own own)))

arrived : (own : DeviceSlots) (count : ℕ) → OwnStems own (after_arrive own count)
arrived own count =
    own_match own own.context (λ (c : Context). if is_ok (arrive_answer own.context count) then gone_over count c own else own)
    (λ c. own_either own (gone_over count c own) own (is_ok (arrive_answer own.context count)) (gone own count c) (same_own own))

pio_done : (own : DeviceSlots) → OwnStems own (after_pio_done own)
pio_done own = own_match own (whole_pio own) (λ (slot : ℕ). freed (is_slot slot) own) (λ slot. freed_own own (is_slot slot))

block_over : (finishes : Bool) (own middle : DeviceSlots) → OwnStems own middle → OwnStems own (block_ended finishes middle)
block_over true own middle p = λ s. stems_then (own_issue own s) (own_issue middle s) (own_issue (after_pio_done middle) s) (p s) (pio_done middle s)
block_over false own middle p = p

pub moved_own : (m : Happening) (own : DeviceSlots) → OwnStems own (moved m own)
moved_own happening.Nothing own = same_own own
moved_own (happening.Answered a) own = answered a own
moved_own (happening.Named mask) own = freed_own own (is_done mask own)
moved_own (happening.SetUp c) own = same_own own
moved_own (happening.PioSetUp count to_host) own = pio own count to_host
moved_own happening.Activated own =
    own_either own (record own { context = option_map activated own.context }) own (may_activate own.context) (same_own own) (same_own own)
moved_own (happening.Carried wrote finishes) own = block_over finishes own (after_arrive own wrote.len) (arrived own wrote.len)

begun_own : (own middle : DeviceSlots) (slot : ℕ) (o : Option Issue) → OwnStems own middle → OwnStems own (match_some o middle (λ issue. begun slot issue.work middle))
begun_own own middle slot None p = p
begun_own own middle slot (Some issue) p = own_either own (with_own_context middle (whole_context slot issue.work)) middle (is_dma issue.work.kind) p p

pub sent_own : (own : DeviceSlots) (slot : ℕ) → OwnStems own (after_sent own slot)
sent_own own slot =
    own_either own (freed (is_slot slot) own) _ (holds (λ issue. is_control issue.work.kind) (own_issue own slot)) (freed_own own (is_slot slot))
    (begun_own own (with_sent own slot) slot (own_issue own slot) (changed own slot sent_issue sends_leave))

pub fed_own : (own : DeviceSlots) → OwnStems own (after_payload own)
fed_own own = own_match own own.context (λ (c : Context). gone_over (payload_len c) c own) (λ c. gone own (payload_len c) c)

abbrev no_issue : Option Issue
no_issue = None

pub none_own : (own : DeviceSlots) → OwnStems own no_own_slots
none_own own s = none_stems (own_issue own s) (own_issue no_own_slots s) (elim (cases_lt s 32) [
  | inl lt ↦ get_or-replicate 32 s no_issue None lt
  | inr ge ↦ get_or_past (replicate 32 no_issue) s None (rw (length-replicate 32 no_issue) ge)
])

-- no command is placed in this slot
pub placed_own : (dev : ℕ) (commands : ℕ → Option Command) (own : DeviceSlots) (s : ℕ) → commands s ≡ None → Stems (own_issue own s) (own_issue (issued_slots dev commands own) s)
placed_own dev commands own s none =
    subst (λ (o : Option Issue). Stems (own_issue own s) o) (sym (ap (λ (f : ℕ → Option Issue). f s) (own_issued dev commands own (length own.issues) refl)))
    (by (nat_lt s (length own.issues)) (commands s) none)
  where
    by : (b : Bool) (o : Option Command) → o ≡ None → Stems (own_issue own s) (cond b (issue_with dev o (own_issue own s)) (own_issue own s))
    by true None e = same_stems (own_issue own s)
    by true (Some c) e = absurd (cc)
    by false o e = same_stems (own_issue own s)
