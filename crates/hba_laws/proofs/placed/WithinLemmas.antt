-- For `delivers`. Data is within what is issued, and what is known of Data that is heard.
use Rattle.std.proofs.Common.{◌≡◌, ℕ, ◌-◌, ◌≤◌, Bool, true, false, cond, eqb, List, drop, length, refl, sym, ap, subst, ◌∙◌, Option, Some, None}
use Rattle.std.proofs.{Common.{arith, length-drop}, lemmas.Bool.{ltb-false}}
use Rattle.std.specs.{Prelude.{MatchOption, is_some, not, nat_lt, Result, Ok, Err}, Option.option_map}
use Rattle.fis_view.specs.{Seen.seen, Table.field, declared.view.{Fis.Fis, FisFault.FisFault}}
use Rattle.fis_view.specs.Table as table
use Rattle.fis_view.specs.declared.view.Fis.TheVariants as view
use Rattle.port_errors.specs.declared.cause.DeviceCause.TheVariants as cause
use Rattle.slots.specs.{Commands.{answer_of, completed}, Data.{after_arrive, may_activate}, Setup.{dma_context, out_setup, pio_fault, pio_issue}}
use Rattle.slots.specs.{Setup.setup_fault, Slots.{DeviceSlots, Issue, match_some, own_issue, sent_pio}, Work.is_read}
use Rattle.slots.specs.declared.{answer.SetupError.SetupError, table.Context.Context, work.Work.Work}
use Rattle.hba_fbs.specs.declared.{hearing.Happening.Happening, report.Wrote.Wrote, state.DeviceState.DeviceState, status.Block.Block}
use Rattle.hba_fbs.specs.Hearing.{answered, block_of, bus_failed, faulty, heard_bytes, heard_d2h, heard_data, heard_data_of, heard_fis, heard_out}
use Rattle.hba_fbs.specs.{Hearing.{is_admitted, named, overflowed, quietly, set_up, tag_of}, Status.{after_reset, is_busy, is_error, with_bits}}
use Rattle.hba_fbs.specs.{Status.with_file, Taking.{admitted, heard}, Views.DeviceView}
use Rattle.hba_fbs.specs.declared.hearing.Happening.TheVariants as happening
use Rattle.hba_laws.specs.{Agreement.{SetupAgrees, work_of_issue, work_of_transfer}, Client.{Filling, FillsWithin, IsWithin, filling}}
use Rattle.hba_laws.specs.{History.{History, Setup, Transfer, is_set_up, issued, last_setup}, Between.{HasContext, IsOwn}}
use Rattle.hba_laws.proofs.histories.{CarryLemmas.next_is, HearLemmas.payload_is, StandLemmas.{filling_is, some_inj}, StepLemmas.Says}

-- ---- the last setup of a context

pub record HasSetup (c : Context) (ends : Option ℕ) (past : History) : Type 0 where
  pub setup : Setup
  pub last : last_setup past ≡ Some setup
  pub agrees : SetupAgrees c ends past setup

pub has_setup : (c : Context) (ends : Option ℕ) (past : History) → MatchOption (last_setup past) ⊥ (SetupAgrees c ends past) → HasSetup c ends past
has_setup c ends past h = by_setup (last_setup past) refl h
  where
    by_setup : (o : Option Setup) → last_setup past ≡ o → MatchOption o ⊥ (SetupAgrees c ends past) → HasSetup c ends past
    by_setup None e h = absurd h
    by_setup (Some g) e h = record { setup = g; last = e; agrees = h }

same_work : (o : Option Transfer) (p : Option Issue) (t : Transfer) (i : Issue) → o ≡ Some t → p ≡ Some i → option_map work_of_transfer o ≡ option_map work_of_issue p → t.work ≡ i.work
same_work o p t i e f same = some_inj t.work i.work (sym (ap (option_map work_of_transfer) e) ∙ same ∙ ap (option_map work_of_issue) f)

pub the_transfer : (o : Option Transfer) (p : Option Issue) (i : Issue) → p ≡ Some i → option_map work_of_transfer o ≡ option_map work_of_issue p → (t : Transfer) × (o ≡ Some t) × (t.work ≡ i.work)
the_transfer None p i e same = let bad : None ≡ Some i.work = same ∙ ap (option_map work_of_issue) e in cc
the_transfer (Some t) p i e same = (t, refl, some_inj t.work i.work (same ∙ ap (option_map work_of_issue) e))

-- so many bytes of a context are within what is issued
pub within_is : (n : ℕ) (own : DeviceSlots) (ends : Option ℕ) (past : History) (c : Context) (len : ℕ) → IsOwn n own → Says own ends past → own.context ≡ Some c → len ≤ c.left → IsWithin past len
within_is n own ends past c len is says now fits = record { fills = by_filling (filling past) refl; way = way }
  where
    has : HasContext n own c
    has = is.contexts c now

    setup : HasSetup c ends past
    setup = has_setup c ends past ((says.agrees.context_agrees c now).of_setup)

    -- a setup that is the last is that of the context
    slot_is : (g : Setup) → last_setup past ≡ Some g → (g.slot ≡ c.slot) × (g.to_host ≡ c.to_host)
    slot_is g last =
        let same : setup.setup ≡ g = some_inj setup.setup g (sym setup.last ∙ last) in
        (ap (λ (x : Setup). x.slot) (sym same) ∙ setup.agrees.slot_is, ap (λ (x : Setup). x.to_host) (sym same) ∙ setup.agrees.way_is)

    work_is : (g : Setup) (t : Transfer) → last_setup past ≡ Some g → issued g.slot past ≡ Some t → t.work ≡ has.issue.work
    work_is g t last at =
        same_work (issued c.slot past) (own_issue own c.slot) t has.issue (ap (λ s. issued s past) (sym (slot_is g last).0) ∙ at) has.at (says.issued c.slot)

    way : (g : Setup) (t : Transfer) → last_setup past ≡ Some g → issued g.slot past ≡ Some t → is_read t.work.kind ≡ true → is_set_up g.slot past ≡ true → g.to_host ≡ true
    way g t last at read up = (slot_is g last).1 ∙ sym has.is.way ∙ sym (ap (λ (w : Work). is_read w.kind) (work_is g t last at)) ∙ read

    by_filling : (o : Option Filling) → filling past ≡ o → MatchOption o (Unit {0}) (FillsWithin len)
    by_filling None e = tt
    by_filling (Some f) e =
        let p = filling_is past f e in
        let at : issued p.setup.slot past ≡ Some f.transfer = ap (λ s. issued s past) (sym p.slot_is) ∙ p.is_issued in
        let work = work_is p.setup f.transfer p.last at in
        let number : f.from ≡ c.next = p.from_is ∙ next_is (own_issue own) c ends past (says.agrees.context_agrees c now) in
        let long : f.transfer.work.len ≡ has.issue.work.len = ap (λ (w : Work). w.len) work in
        let room = has.is.fits in
        record {
          fits = omega (arith, number, long, room, fits);
          reads = ap (λ (w : Work). is_read w.kind) work ∙ has.is.way ∙ sym (slot_is p.setup p.last).1 ∙ p.host;
        }

-- ---- Data that is heard

-- it is for the device's last setup, towards the host, and no longer than what is left of it
pub record CarriesFor (own : DeviceSlots) (sound : Bool) (len : ℕ) (wrote : Wrote) : Type 0 where
  pub context : Context
  pub now : own.context ≡ Some context
  pub host : context.to_host ≡ true
  pub is_sound : sound ≡ true
  pub fits : len ≤ context.left
  pub wrote_is : wrote ≡ record { slot = context.slot; offset = context.next; len = len }

abbrev pub Carries : DeviceSlots → Bool → ℕ → Happening → Type 0
Carries own sound len (happening.Carried wrote finishes) = CarriesFor own sound len wrote
Carries own sound len other = Unit {0}

module _ (own : DeviceSlots) (state : DeviceState) (sound : Bool) (len : ℕ) where
  d2h : (status error : ℕ) (e b : Bool)
      → Carries own sound len (cond e (faulty (with_file state status error) cause.TaskFile) (cond b (quietly (with_file state status error) happening.Nothing) (answered (answer_of own) (with_file state status error)))).happening
  d2h status error true b = tt
  d2h status error false true = tt
  d2h status error false false = tt

  register : (status error : ℕ) (resetting : Bool) → Carries own sound len (cond resetting (quietly (after_reset state status error) happening.Nothing) (heard_d2h own state status error)).happening
  register status error true = tt
  register status error false = d2h status error (is_error status) (is_busy status)

  bits : (status error mask : ℕ) (e : Bool)
      → Carries own sound len (cond e (faulty (with_bits state status error) cause.TaskFile) (named (completed mask own) (with_bits state status error) mask)).happening
  bits status error mask true = tt
  bits status error mask false = tt

  setup : (c : Context) (o : Option SetupError) → Carries own sound len (set_up o state None (happening.SetUp c)).happening
  setup c None = tt
  setup c (Some e) = tt

  pio : (status error count : ℕ) (to_host : Bool) (block : Block) (e b : Bool) (o : Option SetupError) (r : Result Context SetupError)
      → Carries own sound len (cond e (faulty (with_file state status error) cause.TaskFile) (cond b (set_up o (with_file state status error) (Some block) (happening.PioSetUp count to_host)) (heard_out (with_file state status error) block r))).happening
  pio status error count to_host block true b o r = tt
  pio status error count to_host block false true None r = tt
  pio status error count to_host block false true (Some e) r = tt
  pio status error count to_host block false false o (Ok c) = tt
  pio status error count to_host block false false o (Err e) = tt

  activate : (b : Bool) → Carries own sound len (cond b (quietly state happening.Activated) (faulty state cause.Stray)).happening
  activate true = tt
  activate false = tt

  bytes : (after : DeviceSlots) (wrote : Wrote) (o : Option Block) (last : Bool) → CarriesFor own sound len wrote → Carries own sound len (heard_bytes after state wrote o last).happening
  bytes after wrote None last x = x
  bytes after wrote (Some b) true x = x
  bytes after wrote (Some b) false x = x

  data_of : (c : Context) → own.context ≡ Some c → (host over : Bool) → c.to_host ≡ host → (s : Bool) → sound ≡ s → nat_lt c.left len ≡ over
      → Carries own sound len (cond (not host) (faulty state cause.Stray) (cond (not s) (bus_failed state) (cond over (overflowed state)
      (heard_bytes (after_arrive own len) state (record { slot = c.slot; offset = c.next; len = len }) state.block (eqb c.left len))))).happening
  data_of c now false over h s e o = tt
  data_of c now true over h false e o = tt
  data_of c now true true h true e o = tt
  data_of c now true false h true e o =
      bytes (after_arrive own len) (record { slot = c.slot; offset = c.next; len = len }) state.block (eqb c.left len)
      (record { context = c; now = now; host = h; is_sound = e; fits = ltb-false c.left len o; wrote_is = refl })

  data_fis : Carries own sound len (heard_data own state sound len).happening
  data_fis = by_context own.context refl
    where
      by_context : (o : Option Context) → own.context ≡ o → Carries own sound len (match_some o (faulty state cause.Stray) (heard_data_of own state sound len)).happening
      by_context None now = tt
      by_context (Some c) now = data_of c now c.to_host (nat_lt c.left len) refl sound refl refl

  fis_carries : (fis : Fis) → ((f : List ℕ) → fis ≡ view.Payload f → length f - 4 ≡ len) → Carries own sound len (heard_fis own state sound fis).happening
  unfolding heard_fis
  fis_carries (view.RegD2H f) is_data = register (field table.D2h table.Status f) (field table.D2h table.Error f) state.resetting
  fis_carries (view.SetBits f) is_data = bits (field table.Bits table.Status f) (field table.Bits table.Error f) (field table.Bits table.SActive f) (is_error (field table.Bits table.Status f))
  fis_carries (view.DmaActivate f) is_data = activate (may_activate own.context)
  fis_carries (view.DmaSetup f) is_data =
      setup (dma_context (tag_of f) (field table.Setup table.Offset f) (field table.Setup table.Count f) (eqb (field table.Setup table.D f) 1) (eqb (field table.Setup table.A f) 1))
      (setup_fault (own_issue own (tag_of f)) (field table.Setup table.Offset f) (field table.Setup table.Count f) (eqb (field table.Setup table.D f) 1))
  fis_carries (view.PioSetup f) is_data =
      pio (field table.Pio table.Status f) (field table.Pio table.Error f) (field table.Pio table.Transfer f) (eqb (field table.Pio table.D f) 1) (block_of f) (is_error (field table.Pio table.Status f))
      (is_some (sent_pio own)) (pio_fault (pio_issue own) (field table.Pio table.Transfer f) (eqb (field table.Pio table.D f) 1)) (out_setup own (field table.Pio table.Transfer f) (eqb (field table.Pio table.D f) 1))
  fis_carries (view.Payload f) is_data = subst (λ (k : ℕ). Carries own sound len (heard_data own state sound k).happening) (sym (is_data f refl)) data_fis
  fis_carries other is_data = tt

-- what is known of the happening that a frame is
pub heard_carries : (n : ℕ) (v : DeviceView) (sound : Bool) (frame : List ℕ) → Carries v.slots sound (length (drop 4 frame)) (heard n v sound (admitted n (seen frame))).happening
heard_carries n v sound frame = by_seen (seen frame) refl
  where
    by_test : (fis : Fis) → seen frame ≡ Ok fis → (b : Bool) → Carries v.slots sound (length (drop 4 frame)) (heard n v sound (cond b (Some fis) None)).happening
    by_test fis e false = tt
    by_test fis e true = fis_carries v.slots v.state sound (length (drop 4 frame)) fis (λ f same.
        ap (λ (g : List ℕ). length g - 4) (payload_is frame f (e ∙ ap Ok same)) ∙ sym (length-drop 4 frame))

    by_seen : (r : Result Fis FisFault) → seen frame ≡ r → Carries v.slots sound (length (drop 4 frame)) (heard n v sound (admitted n r)).happening
    by_seen (Err fault) e = tt
    by_seen (Ok fis) e = by_test fis e (is_admitted n fis)
