-- For `devices_are_known`. The IDENTIFY DEVICE of a device stays in slot 30 until data of it came, whatever the device
-- sends and whatever goes out.
use Rattle.std.proofs.Common.{List, ◌≡◌, ◌≢◌, ℕ, ◌<◌, Bool, true, false, ◌&&◌, set, length, refl, sym, ◌∙◌, ap, subst, inl, inr, Option, Some, None}
use Rattle.std.proofs.{Common.{get_or-set_other, get_or-set_same}, lemmas.{List.get_or_past, Bool.{cases_eq, cases_lt, eq-eqb, false≢true, ne_eqb}}}
use Rattle.std.proofs.lemmas.Bool.{true≢false}
use Rattle.std.specs.{Prelude.{if◌then◌else◌, ◌==◌, ◌-◌, is_some, nat_lt, not, is_ok, Result, Ok, Err}, Option.option_map}
use Rattle.fis_view.specs.Table as table
use Rattle.fis_view.specs.{Table.field, declared.view.Fis.Fis}
use Rattle.fis_view.specs.declared.view.Fis.TheVariants as view
use Rattle.slots.specs.Commands.{after_complete, after_sent, answer_for, answer_of, answered_as, is_done, is_slot, sent_issue, with_sent}
use Rattle.slots.specs.Data.{after_activate, after_arrive, after_payload, arrive_answer, gone_over, may_activate, moved_over, payload, payload_len}
use Rattle.slots.specs.Setup.{after_setup_pio, begun, dma_context, new_context, out_setup, pio_fault, pio_issue, setup_fault, whole_context}
use Rattle.slots.specs.{Setup.with_own_context, Slots.{DeviceSlots, Issue, freed, has_bit, holds, is_control, is_done_issue, is_pio, is_queued_issue}}
use Rattle.slots.specs.{Slots.{is_whole_issue, match_some, own_issue, sent_pio, waiting}, Work.{is_dma, is_queued, is_read, needs_all}}
use Rattle.slots.specs.declared.{answer.{Answered.Answered, SetupError.SetupError}, table.Context.Context, work.Kind.{Kind, TheVariants.PioIn}}
use Rattle.slots.specs.declared.work.Kind.TheVariants.{Control}
use Rattle.slots.specs.declared.answer.Answered.TheVariants as answer
use Rattle.port_errors.specs.declared.cause.DeviceCause.TheVariants as cause
use Rattle.hba_fbs.specs.declared.{hearing.{Happening.Happening, Heard.Heard}, report.Wrote.Wrote, state.DeviceState.DeviceState, status.Block.Block}
use Rattle.hba_fbs.specs.Hearing.{answered, block_ended, bus_failed, ended, faulty, heard_activate, heard_bits, heard_bytes, heard_d2h, heard_data}
use Rattle.hba_fbs.specs.Hearing.{heard_data_of, heard_fis, heard_out, heard_pio, heard_register, heard_setup, moved, overflowed, quietly, set_up}
use Rattle.hba_fbs.specs.{Status.{is_busy, is_error, is_quiet, with_file}, Taking.wrote_by}
use Rattle.hba_fbs.specs.declared.hearing.Happening.TheVariants as happening
use Rattle.hba_fbs.specs.Hearing as hearing
use Rattle.hba_laws.specs.{History.unless, Between.IsOwn}
use Rattle.hba_driver.specs.Between.{IsShort}
use Rattle.hba_laws.proofs.Door.{own_freed, some_inj}

-- ---- slot 30 of a device

pub short_as : (own new : DeviceSlots) → own_issue new 30 ≡ own_issue own 30 → IsShort own → IsShort new
short_as own new same h = record { issue = h.issue; is = same ∙ h.is; pio = h.pio; short = h.short }

unless_false : (b : Bool) (o : Option Issue) → b ≡ false → unless b o ≡ o
unless_false true o h = absurd (true≢false h)
unless_false false o h = refl

pub short_freed : (F : ℕ → Bool) (own : DeviceSlots) → F 30 ≡ false → IsShort own → IsShort (freed F own)
short_freed F own none h = short_as own (freed F own) (ap (λ (f : ℕ → Option Issue). f 30) (own_freed F own) ∙ unless_false (F 30) (own_issue own 30) none) h

-- another slot is written over
short_set : (own : DeviceSlots) (slot : ℕ) (x : Option Issue) → slot ≢ 30 → IsShort own → IsShort (record own { issues = set own.issues slot x })
short_set own slot x other h = short_as own (record own { issues = set own.issues slot x }) (get_or-set_other own.issues slot 30 x None (λ same. other (sym same))) h

not_queued : (k : Kind) → is_pio k ≡ true → is_queued k ≡ false
not_queued PioIn h = refl
not_queued other h = absurd (false≢true h)

pub not_control : (k : Kind) → is_pio k ≡ true → is_control k ≡ false
not_control Control h = absurd (false≢true h)
not_control other h = refl

pub reads : (k : Kind) → is_pio k ≡ true → is_read k ≡ true
reads PioIn h = refl
reads other h = absurd (false≢true h)

-- its device's answer ends it once all its bytes came
pub in_needs : (k : Kind) → is_pio k ≡ true → needs_all k ≡ true
in_needs PioIn h = refl
in_needs other h = absurd (false≢true h)

-- ---- what it hears

-- an answer is not for it
answer_apart : (own : DeviceSlots) (h : IsShort own) (slot : ℕ) (issue : Issue) → own_issue own slot ≡ Some issue → slot ≡ 30 → answer_for slot issue ≡ answer.Short slot
answer_apart own h slot issue here same =
    let is : issue ≡ h.issue = some_inj issue h.issue (sym here ∙ ap (own_issue own) same ∙ h.is) in
    subst (λ (i : Issue). answer_for slot i ≡ answer.Short slot) (sym is) (by_tests (is_queued_issue h.issue) (needs_all h.issue.work.kind) (is_whole_issue h.issue) (not_queued h.issue.work.kind h.pio) (in_needs h.issue.work.kind h.pio) h.short)
  where
    by_tests : (q p w : Bool) → q ≡ false → p ≡ true → w ≡ false → (if q then answer.Queued slot else if p && not w then answer.Short slot else answer.Done slot) ≡ answer.Short slot
    by_tests false true false a b c = refl
    by_tests true p w a b c = absurd (true≢false a)
    by_tests false false w a b c = absurd (false≢true b)
    by_tests false true true a b c = absurd (true≢false c)

short_answer : (own : DeviceSlots) (slot : ℕ) (a : Answered) → (slot ≡ 30 → a ≡ answer.Short slot) → ((s : ℕ) → a ≡ answer.Queued s → s ≡ slot) → ((s : ℕ) → a ≡ answer.Done s → s ≡ slot) → IsShort own → IsShort (answered_as a own)
short_answer own slot (answer.Queued s) apart queued done h =
    short_set own s _ (λ same. let wrong : answer.Queued s ≡ answer.Short slot = apart (sym (queued s refl) ∙ same) in absurd (cc)) h
short_answer own slot (answer.Done s) apart queued done h =
    short_freed (is_slot s) own (ne_eqb 30 s (λ same. let wrong : answer.Done s ≡ answer.Short slot = apart (sym (done s refl) ∙ sym same) in absurd (cc))) h
short_answer own slot other apart queued done h = h

answer_slot : (slot : ℕ) (issue : Issue) → ((s : ℕ) → answer_for slot issue ≡ answer.Queued s → s ≡ slot) × ((s : ℕ) → answer_for slot issue ≡ answer.Done s → s ≡ slot)
answer_slot slot issue = by_tests (is_queued_issue issue) (needs_all issue.work.kind && not (is_whole_issue issue))
  where
    of : Bool → Bool → Answered
    of q p = if q then answer.Queued slot else if p then answer.Short slot else answer.Done slot

    by_tests : (q p : Bool) → ((s : ℕ) → of q p ≡ answer.Queued s → s ≡ slot) × ((s : ℕ) → of q p ≡ answer.Done s → s ≡ slot)
    by_tests true p = (λ s e. cc, λ s e. absurd (cc))
    by_tests false true = (λ s e. absurd (cc), λ s e. absurd (cc))
    by_tests false false = (λ s e. absurd (cc), λ s e. cc)

short_answered : (own : DeviceSlots) → IsShort own → IsShort (answered_as (answer_of own) own)
short_answered own h = by_waiting (waiting own)
  where
    by_issue : (slot : ℕ) (o : Option Issue) → own_issue own slot ≡ o → IsShort (answered_as (match_some o answer.Nobody (answer_for slot)) own)
    by_issue slot None is = h
    by_issue slot (Some issue) is = short_answer own slot (answer_for slot issue) (answer_apart own h slot issue is) (answer_slot slot issue).0 (answer_slot slot issue).1 h

    by_waiting : (o : Option ℕ) → IsShort (answered_as (match_some o answer.Nobody (λ slot. match_some (own_issue own slot) answer.Nobody (answer_for slot))) own)
    by_waiting None = h
    by_waiting (Some slot) = by_issue slot (own_issue own slot) refl

-- it is not a queued command, which might be named
short_named : (own : DeviceSlots) (mask : ℕ) → IsShort own → IsShort (after_complete mask own)
short_named own mask h = short_freed (is_done mask own) own (last_false (has_bit mask 30) (holds is_done_issue (own_issue own 30)) none) h
  where
    none : holds is_done_issue (own_issue own 30) ≡ false
    none = ap (holds is_done_issue) h.is ∙ ap (λ (b : Bool). b && is_whole_issue h.issue) (not_queued h.issue.work.kind h.pio)

    last_false : (a b : Bool) → b ≡ false → (a && b) ≡ false
    last_false true b e = e
    last_false false b e = refl

short_activated : (own : DeviceSlots) → IsShort own → IsShort (after_activate own)
short_activated own h = by_test (may_activate own.context)
  where
    by_test : (b : Bool) → IsShort (if b then record own { context = option_map Rattle.slots.specs.Data.activated own.context } else own)
    by_test true = short_as own _ refl h
    by_test false = h

short_setup_pio : (own : DeviceSlots) (count : ℕ) (to_host : Bool) → IsShort own → IsShort (after_setup_pio own count to_host)
short_setup_pio own count to_host h = by_fault (is_some (pio_fault (pio_issue own) count to_host)) (sent_pio own)
  where
    by_issue : (slot : ℕ) (o : Option Issue) → IsShort (match_some o own (λ issue. with_own_context own (new_context slot (Rattle.slots.specs.Setup.came issue) count to_host)))
    by_issue slot None = h
    by_issue slot (Some issue) = short_as own _ refl h

    by_fault : (b : Bool) (o : Option ℕ) → IsShort (if b then own else match_some o own (λ slot. match_some (own_issue own slot) own (λ issue. with_own_context own (new_context slot (Rattle.slots.specs.Setup.came issue) count to_host))))
    by_fault true o = h
    by_fault false None = h
    by_fault false (Some slot) = by_issue slot (own_issue own slot)

-- bytes of another slot
short_over : (own : DeviceSlots) (count : ℕ) (c : Context) → c.slot ≢ 30 → IsShort own → IsShort (gone_over count c own)
short_over own count c other h = short_as own (gone_over count c own) (get_or-set_other own.issues c.slot 30 (option_map (moved_over c.next count) (own_issue own c.slot)) None (λ same. other (sym same))) h

short_arrived : (own : DeviceSlots) (count : ℕ) → ((c : Context) → own.context ≡ Some c → c.slot ≢ 30) → IsShort own → IsShort (after_arrive own count)
short_arrived own count other h = by_context own.context refl
  where
    by_context : (o : Option Context) → own.context ≡ o → IsShort (match_some o own (λ c. if is_ok (arrive_answer own.context count) then gone_over count c own else own))
    by_context None is = h
    by_context (Some c) is = by_test (is_ok (arrive_answer own.context count))
      where
        by_test : (b : Bool) → IsShort (if b then gone_over count c own else own)
        by_test true = short_over own count c (other c is) h
        by_test false = h

-- the end of a block, which frees a slot whose bytes are complete
short_ended : (own : DeviceSlots) (finishes : Bool) → IsShort own → IsShort (block_ended finishes own)
short_ended own false h = h
short_ended own true h = by_slot (sent_pio own)
  where
    by_whole : (slot : ℕ) (b : Bool) → holds is_whole_issue (own_issue own slot) ≡ b → IsShort (match_some (if b then Some slot else None) own (λ s. freed (is_slot s) own))
    by_whole slot true is = short_freed (is_slot slot) own (ne_eqb 30 slot (λ same. true≢false (sym is ∙ ap (λ (k : ℕ). holds is_whole_issue (own_issue own k)) (sym same) ∙ ap (holds is_whole_issue) h.is ∙ h.short))) h
    by_whole slot false is = h

    by_slot : (o : Option ℕ) → IsShort (match_some (match_some o None (λ slot. if holds is_whole_issue (own_issue own slot) then Some slot else None)) own (λ s. freed (is_slot s) own))
    by_slot None = h
    by_slot (Some slot) = by_whole slot (holds is_whole_issue (own_issue own slot)) refl

-- ---- what a FIS leaves of it

-- bytes went to slot 30
abbrev pub is_here : Option Wrote → Bool
is_here None = false
is_here (Some wrote) = wrote.slot == 30

-- it stays unless bytes went to it
abbrev Stays : DeviceSlots → Heard → Type 0
Stays own h = is_here (wrote_by h.happening) ≡ false → IsShort own → IsShort (moved h.happening own)

stays_if : (own : DeviceSlots) (b : Bool) (g h : Heard) → Stays own g → Stays own h → Stays own (if b then g else h)
stays_if own true g h x y = x
stays_if own false g h x y = y

stays_set : (own : DeviceSlots) (e : Option SetupError) (state : DeviceState) (block : Option Block) (h : Happening) → (IsShort own → IsShort (moved h own)) → Stays own (set_up e state block h)
stays_set own None state block h keeps none short = keeps short
stays_set own (Some e) state block h keeps none short = short

-- a setup for a PIO data-out changes no slot
stays_out : (own : DeviceSlots) (state : DeviceState) (block : Block) (o : Result Context SetupError) → Stays own (heard_out state block o)
stays_out own state block (Ok c) none short = short_as own (with_own_context own c) refl short
stays_out own state block (Err e) none short = short

-- bytes that came by the last setup
stays_bytes : (own : DeviceSlots) (state : DeviceState) (count : ℕ) (c : Context) (o : Option Block) (last : Bool) → own.context ≡ Some c
    → Stays own (heard_bytes (after_arrive own count) state (record { slot = c.slot; offset = c.next; len = count }) o last)
stays_bytes own state count c o last is = by_block o last
  where
    other : (c.slot == 30) ≡ false → (d : Context) → own.context ≡ Some d → d.slot ≢ 30
    other none d here same =
        let one : c ≡ d = some_inj c d (sym is ∙ here) in
        true≢false (sym (eq-eqb c.slot 30 (ap (λ (x : Context). x.slot) one ∙ same)) ∙ none)

    by_block : (o : Option Block) (last : Bool) → Stays own (heard_bytes (after_arrive own count) state (record { slot = c.slot; offset = c.next; len = count }) o last)
    by_block None last none short = short_arrived own count (other none) short
    by_block (Some block) false none short = short_arrived own count (other none) short
    by_block (Some block) true none short = short_ended (after_arrive own count) (is_quiet block.ends) (short_arrived own count (other none) short)

stays_data : (own : DeviceSlots) (state : DeviceState) (sound : Bool) (count : ℕ) → Stays own (heard_data own state sound count)
stays_data own state sound count = by_context own.context refl
  where
    by_context : (o : Option Context) → own.context ≡ o → Stays own (match_some o (faulty state cause.Stray) (heard_data_of own state sound count))
    by_context None is = λ none short. short
    by_context (Some c) is =
        stays_if own (not c.to_host) _ _ (λ none short. short)
        (stays_if own (not sound) _ _ (λ none short. short)
        (stays_if own (nat_lt c.left count) _ _ (λ none short. short) (stays_bytes own state count c state.block (c.left == count) is)))

-- the mark of a signature changes no slot
stays_signing : (own : DeviceSlots) (f : List ℕ) (h : Heard) → Stays own h → Stays own (hearing.signing f h)
stays_signing own f h stays = stays

pub stays_heard : (own : DeviceSlots) (state : DeviceState) (sound : Bool) (fis : Fis) → Stays own (heard_fis own state sound fis)
unfolding heard_fis
stays_heard own state sound (view.RegD2H f) =
    stays_signing own f (heard_register own state (field table.D2h table.Status f) (field table.D2h table.Error f))
    (stays_if own state.resetting _ _ (λ none short. short)
    (stays_if own (is_error (field table.D2h table.Status f)) _ _ (λ none short. short)
    (stays_if own (is_busy (field table.D2h table.Status f)) _ _ (λ none short. short) (λ none short. short_answered own short))))
stays_heard own state sound (view.SetBits f) =
    stays_if own (is_error (field table.Bits table.Status f)) _ _ (λ none short. short) (λ none short. short_named own (field table.Bits table.SActive f) short)
stays_heard own state sound (view.DmaActivate f) = stays_if own (may_activate own.context) _ _ (λ none short. short_activated own short) (λ none short. short)
stays_heard own state sound (view.DmaSetup f) =
    let c : Context = dma_context (hearing.tag_of f) (field table.Setup table.Offset f) (field table.Setup table.Count f) (field table.Setup table.D f == 1) (field table.Setup table.A f == 1) in
    stays_set own (setup_fault (own_issue own (hearing.tag_of f)) (field table.Setup table.Offset f) (field table.Setup table.Count f) (field table.Setup table.D f == 1)) state None (happening.SetUp c)
    (λ short. short_as own (with_own_context own c) refl short)
stays_heard own state sound (view.PioSetup f) =
    stays_if own (is_error (field table.Pio table.Status f)) _ _ (λ none short. short)
    (stays_if own (is_some (sent_pio own)) _ _
    (stays_set own (pio_fault (pio_issue own) (field table.Pio table.Transfer f) (field table.Pio table.D f == 1)) (with_file state (field table.Pio table.Status f) (field table.Pio table.Error f))
    (Some (hearing.block_of f)) (happening.PioSetUp (field table.Pio table.Transfer f) (field table.Pio table.D f == 1)) (λ short. short_setup_pio own (field table.Pio table.Transfer f) (field table.Pio table.D f == 1) short))
    (stays_out own (with_file state (field table.Pio table.Status f) (field table.Pio table.Error f)) (hearing.block_of f) (out_setup own (field table.Pio table.Transfer f) (field table.Pio table.D f == 1))))
stays_heard own state sound (view.Payload f) = stays_data own state sound (length f - 4)
stays_heard own state sound other = λ none short. short

-- ---- what goes out leaves it

own_inside : (own : DeviceSlots) (i : Issue) → own_issue own 30 ≡ Some i → 30 < length own.issues
own_inside own i e = elim (cases_lt 30 (length own.issues)) [
  | inl less ↦ less
  | inr past ↦ let none : None ≡ Some i = sym (get_or_past own.issues 30 None past) ∙ e in absurd (cc)
]

pub short_sent : (own : DeviceSlots) (slot : ℕ) → IsShort own → IsShort (after_sent own slot)
short_sent own slot h = by_kind (holds (λ (i : Issue). is_control i.work.kind) (own_issue own slot)) refl
  where
    here : slot ≡ 30 → holds (λ (i : Issue). is_control i.work.kind) (own_issue own slot) ≡ false
    here same = ap (λ (k : ℕ). holds (λ (i : Issue). is_control i.work.kind) (own_issue own k)) same ∙ ap (holds (λ (i : Issue). is_control i.work.kind)) h.is ∙ not_control h.issue.work.kind h.pio

    sent : IsShort (with_sent own slot)
    sent = elim (cases_eq slot 30) [
      | inl same ↦ subst (λ (k : ℕ). IsShort (with_sent own k)) (sym same) (record {
        issue = sent_issue h.issue;
        is = get_or-set_same own.issues 30 (option_map sent_issue (own_issue own 30)) None inside ∙ ap (option_map sent_issue) h.is;
        pio = h.pio;
        short = h.short;
      })
      | inr other ↦ short_set own slot _ other h
    ]
      where
        inside : 30 < length own.issues
        inside = own_inside own h.issue h.is

    -- a command without a setup sets up a context, and changes no slot
    by_begun : (o : Option Issue) → IsShort (match_some o (with_sent own slot) (λ issue. begun slot issue.work (with_sent own slot)))
    by_begun None = sent
    by_begun (Some i) = by_dma (is_dma i.work.kind)
      where
        by_dma : (b : Bool) → IsShort (if b then with_own_context (with_sent own slot) (whole_context slot i.work) else with_sent own slot)
        by_dma true = short_as (with_sent own slot) _ refl sent
        by_dma false = sent

    by_kind : (b : Bool) → holds (λ (i : Issue). is_control i.work.kind) (own_issue own slot) ≡ b
        → IsShort (if b then freed (is_slot slot) own else match_some (own_issue own slot) (with_sent own slot) (λ issue. begun slot issue.work (with_sent own slot)))
    by_kind true is = short_freed (is_slot slot) own (ne_eqb 30 slot (λ same. true≢false (sym is ∙ here (sym same)))) h
    by_kind false is = by_begun (own_issue own slot)

-- data goes to a slot that is written
pub short_fed : (n : ℕ) (own : DeviceSlots) → IsOwn n own → is_some (payload own.context) ≡ true → IsShort own → IsShort (after_payload own)
short_fed n own rules some h = by_context own.context refl
  where
    activated : (c : Context) → own.context ≡ Some c → c.activated ≡ true
    activated c is = by_test c.activated (sym (ap (λ (o : Option Context). is_some {T = ℕ × ℕ × ℕ} (payload o)) is) ∙ some)
      where
        by_test : (b : Bool) → is_some {T = ℕ × ℕ × ℕ} (if b then Some (c.slot, c.next, payload_len c) else None) ≡ true → b ≡ true
        by_test true e = refl
        by_test false e = absurd (false≢true e)

    other : (c : Context) → own.context ≡ Some c → c.slot ≢ 30
    other c is same =
        let has = rules.contexts c is in
        let down : c.to_host ≡ false = (has.is.activates (activated c is)).0 in
        let issue : has.issue ≡ h.issue = some_inj has.issue h.issue (sym has.at ∙ ap (own_issue own) same ∙ h.is) in
        true≢false (sym (reads h.issue.work.kind h.pio) ∙ sym (ap (λ (i : Issue). is_read i.work.kind) issue) ∙ has.is.way ∙ down)

    by_context : (o : Option Context) → own.context ≡ o → IsShort (match_some o own (λ c. gone_over (payload_len c) c own))
    by_context None is = h
    by_context (Some c) is = short_over own (payload_len c) c (other c is) h
