-- A FIS of a device that is heard, and with which nothing is wrong, is in the history of the device what its bytes say.
use Rattle.std.proofs.Common.{◌≡◌, ℕ, ◌-◌, Bool, true, false, cond, List, [], ◌∷◌, ◌++◌, drop, length, refl, sym, ap, subst, ◌∙◌, Option, Some, None}
use Rattle.std.proofs.lemmas.Bool.{eqb-true, false≢true}
use Rattle.std.specs.{Prelude.{◌==◌, ◌||◌, ◌%◌, IfSome, is_some, not, nat_lt, if◌then◌else◌, Result, Ok, Err}, Option.option_map}
use Rattle.fis_view.specs.{Seen.{kind_of, may_have, seen, view_as}, Table.{Kind, Data, field}, declared.view.{Fis.Fis, FisFault.FisFault}}
use Rattle.fis_view.specs.declared.view.FisFault.TheVariants.{WrongLength}
use Rattle.fis_view.specs.Table as table
use Rattle.fis_view.specs.declared.view.Fis.TheVariants as view
use Rattle.slots.specs.{Commands.{answer_of, completed}, Data.{after_arrive, may_activate}, Setup.{came, context_or, dma_context, out_context}}
use Rattle.slots.specs.{Setup.{out_fault, out_setup, pio_fault, pio_issue, setup_fault}, Slots.{DeviceSlots, Issue, holds, is_out_issue, is_pio}}
use Rattle.slots.specs.{Slots.{match_some, own_issue, sent_pio, waiting}, Work.{is_out, is_read}, declared.answer.SetupError.SetupError}
use Rattle.slots.specs.declared.{answer.SetupError.TheVariants.NotOutstanding, table.Context.Context, work.{Kind.Kind as WorkKind, Work.Work}}
use Rattle.slots.specs.declared.answer.Answered as answered_type
use Rattle.slots.specs.declared.answer.Answered.TheVariants as answer
use Rattle.hba_fbs.specs.{Deciding.{decided, heard_within, is_past}, Hearing.{answered, block_of, bus_failed, faulty, heard_bytes, heard_data}}
use Rattle.hba_fbs.specs.Hearing.{heard_data_of, heard_fis, heard_out, is_admitted, named, overflowed, quietly, set_up, signing, tag_of}
use Rattle.hba_fbs.specs.{Status.{after_reset, is_busy, is_error, with_bits, with_file}, Taking.{admitted, view_after_hearing}, Views.DeviceView}
use Rattle.hba_fbs.specs.declared.{report.Wrote.Wrote, hearing.Heard.Heard, room.Room.{Room, TheVariants.{Bytes, NoTable, Whole}}}
use Rattle.hba_fbs.specs.declared.{state.DeviceState.DeviceState, status.Block.Block}
use Rattle.port_errors.specs.declared.cause.DeviceCause.TheVariants as cause
use Rattle.hba_fbs.specs.declared.hearing.Happening.TheVariants as happening
use Rattle.hba_laws.specs.{Agreement.{IsTold, IssueAgrees, end_of, is_for, is_pio_issue, work_of_issue, work_of_transfer}, Delivering.event_heard}
use Rattle.hba_laws.specs.{Delivering.event_of_answer, History.{Event, History, Transfer, issued}}
use Rattle.hba_laws.specs.History as history
use Rattle.sata_disk_books.specs.Counted.{Counted}
use Rattle.machine_theorem.proofs.SetupHistory.{Follows, IsMild, IsUp, NoneUp, mild_follows, nothing_up, set_up_follows, was_issued}

-- ---- what is issued in a slot that is set up

-- the device's issue there, which is of this kind, and the context, which is of this slot
pub record HasUp (k : WorkKind) (v : DeviceView) (s : ℕ) : Type 0 where
  pub issue : Issue
  pub is : own_issue v.slots s ≡ Some issue
  pub kind : issue.work.kind ≡ k
  pub context : Context
  pub set : v.slots.context ≡ Some context
  pub slot : context.slot ≡ s

pub the_issue : (o : Option Transfer) (p : Option Issue) (x : Transfer) → option_map work_of_transfer o ≡ option_map work_of_issue p → o ≡ Some x → (i : Issue) × ((p ≡ Some i) × (i.work ≡ x.work))
the_issue None p x e is = absurd (cc)
the_issue (Some t) None x e is = absurd (cc)
the_issue (Some t) (Some i) x e is =
    (i, (refl, ap (λ (o : Option Work). match_some o i.work (λ w. w)) (sym e) ∙ ap (λ (o : Option Transfer). match_some o i.work (λ t. t.work)) is))

the_context : (o : Option Context) (s : ℕ) → is_for s o ≡ true → (c : Context) × ((o ≡ Some c) × (c.slot ≡ s))
the_context None s e = absurd (cc)
the_context (Some c) s e = (c, (refl, eqb-true c.slot s e))

pub has_up : (k : WorkKind) (v : DeviceView) (past : History) (s : ℕ) → IsTold v past → IsUp k s past → HasUp k v s
has_up k v past s told up =
    let i = the_issue (issued s past) (own_issue v.slots s) up.transfer (told.issued s) up.is in
    let agrees : IssueAgrees s i.0 v.slots.context past = told.agrees.issues_agree s i.0 i.1.0 in
    let c = the_context v.slots.context s (sym agrees.set_up_is ∙ up.up) in
    record { issue = i.0; is = i.1.0; kind = ap (λ (w : Work). w.kind) i.1.1 ∙ up.kind; context = c.0; set = c.1.0; slot = c.1.1 }

-- ---- ways and blocks

-- a context goes to the host where its issue is a read
abbrev pub WayIs : DeviceView → Type 0
WayIs v = (c : Context) → v.slots.context ≡ Some c → (i : Issue) → own_issue v.slots c.slot ≡ Some i → is_read i.work.kind ≡ c.to_host

same_context : (v : DeviceView) (a b : Context) → v.slots.context ≡ Some a → v.slots.context ≡ Some b → a ≡ b
same_context v a b e f = ap (λ (o : Option Context). match_some o a (λ x. x)) (sym e ∙ f)

-- none of this kind is set up where the context goes the other way
pub none_way : (k : WorkKind) (v : DeviceView) (past : History) (c : Context) → IsTold v past → WayIs v → v.slots.context ≡ Some c → (is_read k ≡ c.to_host → ⊥) → NoneUp k past
none_way k v past c told way set other s up =
    let h = has_up k v past s told up in
    let same : h.context ≡ c = same_context v h.context c h.set set in
    let is : is_read h.issue.work.kind ≡ h.context.to_host = way h.context h.set h.issue (ap (own_issue v.slots) h.slot ∙ h.is) in
    other (ap is_read (sym h.kind) ∙ is ∙ ap (λ (x : Context). x.to_host) same)

some_map : (o : Option Block) → is_some o ≡ true → is_some (option_map end_of o) ≡ true
some_map None e = absurd (false≢true e)
some_map (Some b) e = refl

pio_of : (o : Option Issue) (i : Issue) → o ≡ Some i → holds is_pio_issue o ≡ true → is_pio i.work.kind ≡ true
pio_of o i e is = sym (ap (λ (p : Option Issue). holds is_pio_issue p) e) ∙ is

-- it moves its data in blocks, as a PIO command does
abbrev pub is_blocks : WorkKind → Bool
is_blocks k = is_pio k || is_out k

neither : (a b : Bool) → (a || b) ≡ false → (a ≡ false) × (b ≡ false)
neither true b e = absurd (cc)
neither false b e = (refl, e)

-- nor one that moves none where a block is kept
none_block : (k : WorkKind) (v : DeviceView) (past : History) → is_blocks k ≡ false → IsTold v past → is_some v.state.block ≡ true → NoneUp k past
none_block k v past stream told block s up =
    let h = has_up k v past s told up in
    let agrees = told.agrees.context_agrees h.context h.set in
    let pio : is_pio h.issue.work.kind ≡ true =
    pio_of (own_issue v.slots h.context.slot) h.issue (ap (own_issue v.slots) h.slot ∙ h.is) (agrees.of_kind ∙ some_map v.state.block block) in
    false≢true (sym (ap is_pio h.kind ∙ (neither (is_pio k) (is_out k) stream).0) ∙ pio)

-- ---- a FIS, by what it means

mild_event : (k : WorkKind) (o : Option Event) (past : History) (t : Option Counted) → IfSome o IsMild → Follows k past t
    → Follows k (match_some o [] (λ e. e ∷ []) ++ past) t
mild_event k None past t mild was = was
mild_event k (Some e) past t mild was = mild_follows k e past t mild was

answer_mild : (a : answered_type.Answered) → IfSome (event_of_answer a) IsMild
answer_mild answer.Nobody = tt
answer_mild other = tt

-- a setup for a PIO data-out is for the slot of one
context_slot : (o : Option SetupError) (d c : Context) → context_or o d ≡ Ok c → c.slot ≡ d.slot
context_slot None d c e = ap (λ (r : Result Context SetupError). slot_or d r) (sym e)
  where
    slot_or : Context → Result Context SetupError → ℕ
    slot_or d (Ok x) = x.slot
    slot_or d (Err e) = d.slot
context_slot (Some x) d c e = absurd (cc)

issue_slot : (o : Option Issue) (slot count : ℕ) (to_host : Bool) (c : Context) → match_some o (Err NotOutstanding) (out_context slot count to_host) ≡ Ok c → c.slot ≡ slot
issue_slot None slot count to_host c e = absurd (cc)
issue_slot (Some i) slot count to_host c e = context_slot (out_fault count to_host i) (dma_context slot (came i) count false true) c e

slot_case : (own : DeviceSlots) (count : ℕ) (to_host : Bool) (c : Context) (slot : ℕ) (b : Bool) → holds is_out_issue (own_issue own slot) ≡ b
    → match_some (if b then Some slot else None) (Err NotOutstanding) (λ s. match_some (own_issue own s) (Err NotOutstanding) (out_context s count to_host)) ≡ Ok c
    → holds is_out_issue (own_issue own c.slot) ≡ true
slot_case own count to_host c slot true is e = ap (λ (s : ℕ). holds is_out_issue (own_issue own s)) (issue_slot (own_issue own slot) slot count to_host c e) ∙ is
slot_case own count to_host c slot false is e = absurd (cc)

waiting_case : (own : DeviceSlots) (count : ℕ) (to_host : Bool) (c : Context) (o : Option ℕ)
    → match_some (match_some o None (λ slot. if holds is_out_issue (own_issue own slot) then Some slot else None)) (Err NotOutstanding)
    (λ s. match_some (own_issue own s) (Err NotOutstanding) (out_context s count to_host)) ≡ Ok c → holds is_out_issue (own_issue own c.slot) ≡ true
waiting_case own count to_host c None e = absurd (cc)
waiting_case own count to_host c (Some slot) e = slot_case own count to_host c slot (holds is_out_issue (own_issue own slot)) refl e

-- a view of Data shows the frame
payload_by : (kind : Kind) (b : Bool) (f g : List ℕ) → may_have kind (length f) ≡ b → cond b (Ok (view_as kind f)) (Err WrongLength) ≡ Ok (view.Payload g) → g ≡ f
payload_by kind false f g e h = cc
payload_by Data true f g e h = cc
payload_by rest true f g e h = cc

payload_is : (f g : List ℕ) → seen f ≡ Ok (view.Payload g) → g ≡ f
unfolding seen
payload_is f g h = payload_by (kind_of f) (may_have (kind_of f) (length f)) f g refl h

-- what a FIS says, where Data of the device count so
abbrev pub told_with : (data' : ℕ → Option Counted → Option Counted) → Result Fis FisFault → Option Counted → Option Counted
told_with data' (Ok (view.DmaSetup f)) was = Some (record { tag = field table.Setup table.BufferId f % 32; count = field table.Setup table.Offset f })
told_with data' (Ok (view.Payload f)) was = data' (length f - 4) was
told_with data' other was = was

module _ (k : WorkKind) (stream : is_blocks k ≡ false) (data' : ℕ → Option Counted → Option Counted) (v : DeviceView) (frame : List ℕ) (past : History) (t : Option Counted)
    (was : Follows k past t) (before : IsTold v past)
    (carries : (c : Context) → v.slots.context ≡ Some c → c.to_host ≡ true → Follows k (history.Carried (drop 4 frame) ∷ past) (data' (length frame - 4) t)) where
  abbrev after : Heard → History
  after h = match_some (event_heard h (drop 4 frame)) [] (λ e. e ∷ []) ++ past

  abbrev Then : Heard → Option Counted → Type 0
  Then h now = h.fault ≡ None → IsTold (view_after_hearing v h) (after h) → Follows k (after h) now

  mild_now : (o : Option Event) → IfSome o IsMild → Follows k (match_some o [] (λ e. e ∷ []) ++ past) t
  mild_now o mild = mild_event k o past t mild was

  setup_then : (o : Option SetupError) (state : DeviceState) (c : Context) → Then (set_up o state None (happening.SetUp c)) (Some (record { tag = c.slot; count = c.next }))
  setup_then None state c fine told = set_up_follows k c.slot c.next c.left c.to_host past _ refl
  setup_then (Some e) state c fine told = absurd (cc)

  pio_then : (o : Option SetupError) (state : DeviceState) (block : Block) (count : ℕ) (to_host : Bool) → Then (set_up o state (Some block) (happening.PioSetUp count to_host)) t
  pio_then None state block count to_host fine told =
      nothing_up k _ t (none_block k (view_after_hearing v (set_up None state (Some block) (happening.PioSetUp count to_host))) _ stream told refl)
  pio_then (Some e) state block count to_host fine told = absurd (cc)

  none_out : (c : Context) → holds is_out_issue (own_issue v.slots c.slot) ≡ true → NoneUp k (history.SetUp c.slot c.next c.left c.to_host ∷ past)
  none_out c out s up =
      let same : c.slot ≡ s = eqb-true c.slot s up.up in
      let first : issued s past ≡ Some up.transfer = was_issued s (history.SetUp c.slot c.next c.left c.to_host) past up.transfer tt up.is in
      let i = the_issue (issued s past) (own_issue v.slots s) up.transfer (before.issued s) first in
      let is : is_out i.0.work.kind ≡ true = sym (ap (λ (o : Option Issue). holds is_out_issue o) (ap (own_issue v.slots) same ∙ i.1.0)) ∙ out in
      false≢true (sym (ap is_out (ap (λ (w : Work). w.kind) i.1.1 ∙ up.kind) ∙ (neither (is_pio k) (is_out k) stream).1) ∙ is)

  out_then : (r : Result Context SetupError) (state : DeviceState) (block : Block) → ((c : Context) → r ≡ Ok c → holds is_out_issue (own_issue v.slots c.slot) ≡ true)
      → Then (heard_out state block r) t
  out_then (Err e) state block out fine told = absurd (cc)
  out_then (Ok c) state block out fine told = nothing_up k _ t (none_out c (out c refl))

  pio_case : (state : DeviceState) (status error count : ℕ) (to_host : Bool) (block : Block) (wrong some : Bool)
      → Then (if wrong then faulty (with_file state status error) cause.TaskFile else if some
      then set_up (pio_fault (pio_issue v.slots) count to_host) (with_file state status error) (Some block) (happening.PioSetUp count to_host)
      else heard_out (with_file state status error) block (out_setup v.slots count to_host)) t
  pio_case state status error count to_host block true some fine told = absurd (cc)
  pio_case state status error count to_host block false true fine told = pio_then (pio_fault (pio_issue v.slots) count to_host) (with_file state status error) block count to_host fine told
  pio_case state status error count to_host block false false fine told =
      out_then (out_setup v.slots count to_host) (with_file state status error) block (λ c e. waiting_case v.slots count to_host c (waiting v.slots) e) fine told

  last_then : (c : Context) → v.slots.context ≡ Some c → c.to_host ≡ true → (own : DeviceSlots) (state : DeviceState) (wrote : Wrote) (o : Option Block) (last : Bool)
      → Then (heard_bytes own state wrote o last) (data' (length frame - 4) t)
  last_then c set inward own state wrote None last fine told = carries c set inward
  last_then c set inward own state wrote (Some block) true fine told = carries c set inward
  last_then c set inward own state wrote (Some block) false fine told = carries c set inward

  data_case : (state : DeviceState) (c : Context) (count : ℕ) → v.slots.context ≡ Some c → (inward lost over last : Bool) → c.to_host ≡ inward
      → Then (if not inward then faulty state cause.Stray else if lost then bus_failed state else if over then overflowed state
      else heard_bytes (after_arrive v.slots count) state (record { slot = c.slot; offset = c.next; len = count }) state.block last) (data' (length frame - 4) t)
  data_case state c count set false lost over last way fine told = absurd (cc)
  data_case state c count set true true over last way fine told = absurd (cc)
  data_case state c count set true false true last way fine told = absurd (cc)
  data_case state c count set true false false last way fine told =
      last_then c set way (after_arrive v.slots count) state (record { slot = c.slot; offset = c.next; len = count }) state.block last fine told

  data_then : (state : DeviceState) (sound : Bool) (count : ℕ) (o : Option Context) → v.slots.context ≡ o
      → Then (match_some o (faulty state cause.Stray) (heard_data_of v.slots state sound count)) (data' (length frame - 4) t)
  data_then state sound count None set fine told = absurd (cc)
  data_then state sound count (Some c) set fine told = data_case state c count set c.to_host (not sound) (nat_lt c.left count) (c.left == count) refl fine told

  register_mild : (f : List ℕ) (own : DeviceSlots) (state : DeviceState) (status error : ℕ) (r e b : Bool)
      → IfSome (event_heard (signing f (if r then quietly (after_reset state status error) happening.Nothing else if e then faulty (with_file state status error) cause.TaskFile
      else if b then quietly (with_file state status error) happening.Nothing else answered (answer_of own) (with_file state status error))) (drop 4 frame)) IsMild
  register_mild f own state status error true e b = tt
  register_mild f own state status error false true b = tt
  register_mild f own state status error false false true = tt
  register_mild f own state status error false false false = answer_mild (answer_of own)

  bits_mild : (own : DeviceSlots) (state : DeviceState) (status error mask : ℕ) (e : Bool)
      → IfSome (event_heard (if e then faulty (with_bits state status error) cause.TaskFile else named (completed mask own) (with_bits state status error) mask) (drop 4 frame)) IsMild
  bits_mild own state status error mask true = tt
  bits_mild own state status error mask false = tt

  activate_mild : (state : DeviceState) (b : Bool) → IfSome (event_heard (if b then quietly state happening.Activated else faulty state cause.Stray) (drop 4 frame)) IsMild
  activate_mild state true = tt
  activate_mild state false = tt

  fis_then : (state : DeviceState) (sound : Bool) (fis : Fis) → seen frame ≡ Ok fis → Then (heard_fis v.slots state sound fis) (told_with data' (Ok fis) t)
  unfolding heard_fis
  fis_then state sound (view.RegH2D f) e fine told = was
  fis_then state sound (view.RegD2H f) e fine told =
      mild_now _ (register_mild f v.slots state (field table.D2h table.Status f) (field table.D2h table.Error f) state.resetting (is_error (field table.D2h table.Status f))
      (is_busy (field table.D2h table.Status f)))
  fis_then state sound (view.SetBits f) e fine told =
      mild_now _ (bits_mild v.slots state (field table.Bits table.Status f) (field table.Bits table.Error f) (field table.Bits table.SActive f) (is_error (field table.Bits table.Status f)))
  fis_then state sound (view.DmaActivate f) e fine told = mild_now _ (activate_mild state (may_activate v.slots.context))
  fis_then state sound (view.DmaSetup f) e fine told =
      setup_then (setup_fault (own_issue v.slots (tag_of f)) (field table.Setup table.Offset f) (field table.Setup table.Count f) (field table.Setup table.D f == 1)) state
      (dma_context (tag_of f) (field table.Setup table.Offset f) (field table.Setup table.Count f) (field table.Setup table.D f == 1) (field table.Setup table.A f == 1)) fine told
  fis_then state sound (view.PioSetup f) e fine told =
      pio_case state (field table.Pio table.Status f) (field table.Pio table.Error f) (field table.Pio table.Transfer f) (field table.Pio table.D f == 1) (block_of f)
      (is_error (field table.Pio table.Status f)) (is_some (sent_pio v.slots)) fine told
  fis_then state sound (view.Payload f) e fine told =
      subst (λ (g : List ℕ). Follows k (after (heard_data v.slots state sound (length f - 4))) (data' (length g - 4) t)) (sym (payload_is frame f e))
      (data_then state sound (length f - 4) v.slots.context refl fine told)
  fis_then state sound (view.Unknown f) e fine told = was

  within_case : (state : DeviceState) (fis : Fis) (b : Bool) → seen frame ≡ Ok fis → Then (if b then overflowed state else heard_fis v.slots state true fis) (told_with data' (Ok fis) t)
  within_case state fis true e fine told = absurd (cc)
  within_case state fis false e fine told = fis_then state true fis e fine told

  within_then : (state : DeviceState) (room : Room) (fis : Fis) → seen frame ≡ Ok fis → Then (heard_within v.slots state room fis) (told_with data' (Ok fis) t)
  unfolding heard_within
  within_then state NoTable fis e fine told = fis_then state false fis e fine told
  within_then state (Bytes total) fis e fine told = within_case state fis (is_past total v.slots.context fis) e fine told
  within_then state Whole fis e fine told = fis_then state true fis e fine told

  admitted_then : (dev : ℕ) (room : Room) (fis : Fis) (b : Bool) → seen frame ≡ Ok fis → Then (decided dev v room (if b then Some fis else None)) (told_with data' (Ok fis) t)
  admitted_then dev room fis true e fine told = within_then v.state room fis e fine told
  admitted_then dev room fis false e fine told = absurd (cc)

  decided_then : (dev : ℕ) (room : Room) (r : Result Fis FisFault) → seen frame ≡ r → Then (decided dev v room (admitted dev r)) (told_with data' r t)
  decided_then dev room (Err f) e fine told = absurd (cc)
  decided_then dev room (Ok fis) e fine told = admitted_then dev room fis (is_admitted dev fis) e fine told

  pub frame_follows : (dev : ℕ) (room : Room) → (decided dev v room (admitted dev (seen frame))).fault ≡ None
      → IsTold (view_after_hearing v (decided dev v room (admitted dev (seen frame)))) (after (decided dev v room (admitted dev (seen frame))))
      → Follows k (after (decided dev v room (admitted dev (seen frame)))) (told_with data' (seen frame) t)
  frame_follows dev room fine told = decided_then dev room (seen frame) refl fine told
