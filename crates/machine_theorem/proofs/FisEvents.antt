-- What a FIS of a device is for its commands, by its type: only a PIO Setup FIS begins a block, with the Status that it has for its end, and only Data are carried.
use Rattle.std.proofs.Common.{◌≡◌, ℕ, ◌-◌, Bool, true, false, cond, eqb, List, length, drop, Option, Some, None, refl, sym, ap, subst, ◌∙◌}
use Rattle.std.specs.Prelude.{◌==◌, IfSome, is_some, nat_lt, not, if◌then◌else◌, Result, Ok, Err}
use Rattle.fis_view.specs.{Seen.seen, Table.field, declared.view.{Fis.Fis, FisFault.FisFault}}
use Rattle.fis_view.specs.Table as table
use Rattle.fis_view.specs.declared.view.Fis.TheVariants as view
use Rattle.port_errors.specs.declared.cause.DeviceCause.TheVariants as cause
use Rattle.slots.specs.{Commands.{answer_of, completed}, Data.{after_arrive, may_activate}, Setup.{dma_context, out_setup, pio_fault, pio_issue}}
use Rattle.slots.specs.{Setup.setup_fault, Slots.{DeviceSlots, match_some, own_issue, sent_pio}, declared.answer.Answered.Answered}
use Rattle.slots.specs.declared.{answer.SetupError.SetupError, table.Context.Context}
use Rattle.slots.specs.declared.answer.Answered.TheVariants as answer
use Rattle.hba_fbs.specs.{Deciding.{decided, heard_within, is_past}, Hearing.{answered, block_of, bus_failed, faulty, heard_bad, heard_bytes}}
use Rattle.hba_fbs.specs.{Hearing.{heard_data_of, heard_fis, heard_out, is_admitted, named, overflowed, quietly, set_up, tag_of}, Status.after_reset}
use Rattle.hba_fbs.specs.{Status.{is_busy, is_error, is_quiet, with_bits, with_file}, Taking.{admitted, ignores, port_of}, Views.{DeviceView, Port}}
use Rattle.hba_fbs.specs.{Views.view_of, declared.{hearing.{Happening.Happening, Heard.Heard}, report.Wrote.Wrote, room.Room.Room}}
use Rattle.hba_fbs.specs.declared.{room.Room.TheVariants.{Bytes, NoTable, Whole}, state.DeviceState.DeviceState, status.Block.Block}
use Rattle.hba_fbs.specs.declared.hearing.Happening.TheVariants as happening
use Rattle.hba_laws.specs.{CoreHistories.event_by, Delivering.{event_heard, event_of, event_of_answer, event_of_block}, History.Event}
use Rattle.hba_laws.specs.History as event
use Rattle.machine_theorem.specs.Ending.{carries}

-- ---- what happens

abbrev FitsPio : ℕ → Happening → Option Block → Type 0
FitsPio ends happening.Nothing block = Unit {0}
FitsPio ends (happening.SetUp c) block = Unit {0}
FitsPio ends (happening.PioSetUp count to_host) block = IfSome block (λ b. b.ends ≡ ends)
FitsPio ends other block = ⊥

abbrev FitsData : Happening → Type 0
FitsData happening.Nothing = Unit {0}
FitsData (happening.Carried wrote finishes) = Unit {0}
FitsData other = ⊥

abbrev FitsOther : Happening → Type 0
FitsOther (happening.PioSetUp count to_host) = ⊥
FitsOther (happening.Carried wrote finishes) = ⊥
FitsOther other = Unit {0}

abbrev Fits : Result Fis FisFault → Heard → Type 0
Fits (Ok (view.PioSetup f)) h = FitsPio (field table.Pio table.EStatus f) h.happening h.state.block
Fits (Ok (view.Payload f)) h = FitsData h.happening
Fits other h = FitsOther h.happening

-- a FIS at fault fits each type
nothing_fits : (r : Result Fis FisFault) (h : Heard) → h.happening ≡ happening.Nothing → Fits r h
nothing_fits (Ok (view.PioSetup f)) h e = subst (λ (x : Happening). FitsPio (field table.Pio table.EStatus f) x h.state.block) (sym e) tt
nothing_fits (Ok (view.Payload f)) h e = subst FitsData (sym e) tt
nothing_fits (Ok (view.RegH2D f)) h e = subst FitsOther (sym e) tt
nothing_fits (Ok (view.RegD2H f)) h e = subst FitsOther (sym e) tt
nothing_fits (Ok (view.SetBits f)) h e = subst FitsOther (sym e) tt
nothing_fits (Ok (view.DmaActivate f)) h e = subst FitsOther (sym e) tt
nothing_fits (Ok (view.DmaSetup f)) h e = subst FitsOther (sym e) tt
nothing_fits (Ok (view.Unknown f)) h e = subst FitsOther (sym e) tt
nothing_fits (Err x) h e = subst FitsOther (sym e) tt

module _ (own : DeviceSlots) (state : DeviceState) where
  setup : (c : Context) (o : Option SetupError) → FitsOther (set_up o state None (happening.SetUp c)).happening
  setup c None = tt
  setup c (Some e) = tt

  register : (status error : ℕ) (r e b : Bool)
      → FitsOther (if r then quietly (after_reset state status error) happening.Nothing
      else (if e then faulty (with_file state status error) cause.TaskFile
      else (if b then quietly (with_file state status error) happening.Nothing else answered (answer_of own) (with_file state status error)))).happening
  register status error true e b = tt
  register status error false true b = tt
  register status error false false true = tt
  register status error false false false = tt

  abbrev IsPio : Block → Heard → Type 0
  IsPio block h = FitsPio block.ends h.happening h.state.block

  pio : (status error count : ℕ) (to_host : Bool) (block : Block) (e b : Bool) (o : Option SetupError) (r : Result Context SetupError)
      → IsPio block (cond e (faulty (with_file state status error) cause.TaskFile) (cond b (set_up o (with_file state status error) (Some block) (happening.PioSetUp count to_host)) (heard_out (with_file state status error) block r)))
  pio status error count to_host block true b o r = tt
  pio status error count to_host block false true None r = refl
  pio status error count to_host block false true (Some e) r = tt
  pio status error count to_host block false false o (Ok c) = tt
  pio status error count to_host block false false o (Err e) = tt

  activate : (b : Bool) → FitsOther (cond b (quietly state happening.Activated) (faulty state cause.Stray)).happening
  activate true = tt
  activate false = tt

  bytes : (slots : DeviceSlots) (wrote : Wrote) (block : Option Block) (b : Bool) → FitsData (heard_bytes slots state wrote block b).happening
  bytes slots wrote None b = tt
  bytes slots wrote (Some block) true = tt
  bytes slots wrote (Some block) false = tt

  data_of : (count : ℕ) (c : Context) (stray unsound over : Bool)
      → FitsData (cond stray (faulty state cause.Stray) (cond unsound (bus_failed state) (cond over (overflowed state)
      (heard_bytes (after_arrive own count) state (record { slot = c.slot; offset = c.next; len = count }) state.block (c.left == count))))).happening
  data_of count c true unsound over = tt
  data_of count c false true over = tt
  data_of count c false false true = tt
  data_of count c false false false = bytes (after_arrive own count) (record { slot = c.slot; offset = c.next; len = count }) state.block (c.left == count)

  payload : (sound : Bool) (count : ℕ) (o : Option Context) → FitsData (match_some o (faulty state cause.Stray) (heard_data_of own state sound count)).happening
  payload sound count None = tt
  payload sound count (Some c) = data_of count c (not c.to_host) (not sound) (nat_lt c.left count)

  bits : (f : List ℕ) (e : Bool)
      → FitsOther (cond e (faulty (with_bits state (field table.Bits table.Status f) (field table.Bits table.Error f)) cause.TaskFile)
      (named (completed (field table.Bits table.SActive f) own) (with_bits state (field table.Bits table.Status f) (field table.Bits table.Error f)) (field table.Bits table.SActive f))).happening
  bits f true = tt
  bits f false = tt

heard_fits : (own : DeviceSlots) (state : DeviceState) (sound : Bool) (fis : Fis) → Fits (Ok fis) (heard_fis own state sound fis)
unfolding heard_fis
heard_fits own state sound (view.RegD2H f) =
    register own state (field table.D2h table.Status f) (field table.D2h table.Error f) state.resetting (is_error (field table.D2h table.Status f)) (is_busy (field table.D2h table.Status f))
heard_fits own state sound (view.SetBits f) = bits own state f (is_error (field table.Bits table.Status f))
heard_fits own state sound (view.DmaActivate f) = activate own state (may_activate own.context)
heard_fits own state sound (view.DmaSetup f) =
    setup own state (dma_context (tag_of f) (field table.Setup table.Offset f) (field table.Setup table.Count f) (eqb (field table.Setup table.D f) 1) (eqb (field table.Setup table.A f) 1))
    (setup_fault (own_issue own (tag_of f)) (field table.Setup table.Offset f) (field table.Setup table.Count f) (eqb (field table.Setup table.D f) 1))
heard_fits own state sound (view.PioSetup f) =
    pio own state (field table.Pio table.Status f) (field table.Pio table.Error f) (field table.Pio table.Transfer f) (eqb (field table.Pio table.D f) 1) (block_of f) (is_error (field table.Pio table.Status f))
    (is_some (sent_pio own)) (pio_fault (pio_issue own) (field table.Pio table.Transfer f) (eqb (field table.Pio table.D f) 1)) (out_setup own (field table.Pio table.Transfer f) (eqb (field table.Pio table.D f) 1))
heard_fits own state sound (view.Payload f) = payload own state sound (length f - 4) own.context
heard_fits own state sound (view.RegH2D f) = tt
heard_fits own state sound (view.Unknown f) = tt

decided_fits : (dev : ℕ) (v : DeviceView) (room : Room) (fis : Fis) → Fits (Ok fis) (decided dev v room (Some fis))
unfolding heard_within
decided_fits dev v NoTable fis = heard_fits v.slots v.state false fis
decided_fits dev v Whole fis = heard_fits v.slots v.state true fis
decided_fits dev v (Bytes total) fis = by (is_past total v.slots.context fis)
  where
    by : (b : Bool) → Fits (Ok fis) (if b then overflowed v.state else heard_fis v.slots v.state true fis)
    by true = nothing_fits (Ok fis) (overflowed v.state) refl
    by false = heard_fits v.slots v.state true fis

admitted_fits : (dev : ℕ) (v : DeviceView) (room : Room) (r : Result Fis FisFault) → Fits r (decided dev v room (admitted dev r))
admitted_fits dev v room (Err e) = nothing_fits (Err e) (heard_bad dev v.state) refl
admitted_fits dev v room (Ok fis) = by (is_admitted dev fis)
  where
    by : (b : Bool) → Fits (Ok fis) (decided dev v room (if b then Some fis else None))
    by true = decided_fits dev v room fis
    by false = nothing_fits (Ok fis) (heard_bad dev v.state) refl

-- ---- events

-- the PIO Setup FIS of a last block: neither BSY nor DRQ nor ERR is set in the Status behind it
abbrev pub closes : Result Fis FisFault → Bool
closes (Ok (view.PioSetup f)) = is_quiet (field table.Pio table.EStatus f)
closes other = false

-- no last block begins
abbrev pub IsOpenEvent : Event → Type 0
IsOpenEvent (event.PioSetUp count to_host ends) = is_quiet ends ≡ false
IsOpenEvent other = Unit {0}

-- Data are carried
abbrev pub IsCarrying : Event → Type 0
IsCarrying (event.Carried bytes) = Unit {0}
IsCarrying other = ⊥

abbrev pub IsNoData : Event → Type 0
IsNoData (event.Carried bytes) = ⊥
IsNoData other = Unit {0}

answer_some : (P : Event → Type 0) (a : Answered) → P event.Answered → IfSome (event_of_answer a) P
answer_some P answer.Nobody is = is
answer_some P (answer.Queued slot) is = is
answer_some P (answer.Done slot) is = is
answer_some P (answer.Short slot) is = tt

block_open : (ends count : ℕ) (to_host : Bool) (o : Option Block) → is_quiet ends ≡ false → IfSome o (λ b. b.ends ≡ ends)
    → IfSome (event_of_block count to_host o) IsOpenEvent
block_open ends count to_host None stands fits = tt
block_open ends count to_host (Some b) stands fits = ap is_quiet fits ∙ stands

block_plain : (count : ℕ) (to_host : Bool) (o : Option Block) → IfSome (event_of_block count to_host o) IsNoData
block_plain count to_host None = tt
block_plain count to_host (Some b) = tt

pio_open : (ends : ℕ) (h : Happening) (block : Option Block) (bytes : List ℕ) → is_quiet ends ≡ false → FitsPio ends h block
    → IfSome (event_of h block bytes) IsOpenEvent
pio_open ends happening.Nothing block bytes stands fits = tt
pio_open ends (happening.SetUp c) block bytes stands fits = tt
pio_open ends (happening.PioSetUp count to_host) block bytes stands fits = block_open ends count to_host block stands fits
pio_open ends other block bytes stands fits = absurd fits

data_open : (h : Happening) (block : Option Block) (bytes : List ℕ) → FitsData h → IfSome (event_of h block bytes) IsOpenEvent
data_open happening.Nothing block bytes fits = tt
data_open (happening.Carried wrote finishes) block bytes fits = tt
data_open other block bytes fits = absurd fits

other_open : (h : Happening) (block : Option Block) (bytes : List ℕ) → FitsOther h → IfSome (event_of h block bytes) IsOpenEvent
other_open happening.Nothing block bytes fits = tt
other_open (happening.Answered a) block bytes fits = answer_some IsOpenEvent a tt
other_open (happening.Named mask) block bytes fits = tt
other_open (happening.SetUp c) block bytes fits = tt
other_open happening.Activated block bytes fits = tt
other_open (happening.PioSetUp count to_host) block bytes fits = absurd fits
other_open (happening.Carried wrote finishes) block bytes fits = absurd fits

open_by : (r : Result Fis FisFault) (h : Heard) (bytes : List ℕ) → closes r ≡ false → Fits r h → IfSome (event_heard h bytes) IsOpenEvent
open_by (Ok (view.PioSetup f)) h bytes stands fits = pio_open (field table.Pio table.EStatus f) h.happening h.state.block bytes stands fits
open_by (Ok (view.Payload f)) h bytes stands fits = data_open h.happening h.state.block bytes fits
open_by (Ok (view.RegH2D f)) h bytes stands fits = other_open h.happening h.state.block bytes fits
open_by (Ok (view.RegD2H f)) h bytes stands fits = other_open h.happening h.state.block bytes fits
open_by (Ok (view.SetBits f)) h bytes stands fits = other_open h.happening h.state.block bytes fits
open_by (Ok (view.DmaActivate f)) h bytes stands fits = other_open h.happening h.state.block bytes fits
open_by (Ok (view.DmaSetup f)) h bytes stands fits = other_open h.happening h.state.block bytes fits
open_by (Ok (view.Unknown f)) h bytes stands fits = other_open h.happening h.state.block bytes fits
open_by (Err e) h bytes stands fits = other_open h.happening h.state.block bytes fits

data_carries : (h : Happening) (block : Option Block) (bytes : List ℕ) → FitsData h → IfSome (event_of h block bytes) IsCarrying
data_carries happening.Nothing block bytes fits = tt
data_carries (happening.Carried wrote finishes) block bytes fits = tt
data_carries other block bytes fits = absurd fits

carries_by : (r : Result Fis FisFault) (h : Heard) (bytes : List ℕ) → carries r ≡ true → Fits r h → IfSome (event_heard h bytes) IsCarrying
carries_by (Ok (view.Payload f)) h bytes is fits = data_carries h.happening h.state.block bytes fits
carries_by other h bytes is fits = absurd (cc)

pio_plain : (ends : ℕ) (h : Happening) (block : Option Block) (bytes : List ℕ) → FitsPio ends h block → IfSome (event_of h block bytes) IsNoData
pio_plain ends happening.Nothing block bytes fits = tt
pio_plain ends (happening.SetUp c) block bytes fits = tt
pio_plain ends (happening.PioSetUp count to_host) block bytes fits = block_plain count to_host block
pio_plain ends other block bytes fits = absurd fits

other_plain : (h : Happening) (block : Option Block) (bytes : List ℕ) → FitsOther h → IfSome (event_of h block bytes) IsNoData
other_plain happening.Nothing block bytes fits = tt
other_plain (happening.Answered a) block bytes fits = answer_some IsNoData a tt
other_plain (happening.Named mask) block bytes fits = tt
other_plain (happening.SetUp c) block bytes fits = tt
other_plain happening.Activated block bytes fits = tt
other_plain (happening.PioSetUp count to_host) block bytes fits = absurd fits
other_plain (happening.Carried wrote finishes) block bytes fits = absurd fits

plain_by : (r : Result Fis FisFault) (h : Heard) (bytes : List ℕ) → carries r ≡ false → Fits r h → IfSome (event_heard h bytes) IsNoData
plain_by (Ok (view.Payload f)) h bytes is fits = absurd (cc)
plain_by (Ok (view.PioSetup f)) h bytes is fits = pio_plain (field table.Pio table.EStatus f) h.happening h.state.block bytes fits
plain_by (Ok (view.RegH2D f)) h bytes is fits = other_plain h.happening h.state.block bytes fits
plain_by (Ok (view.RegD2H f)) h bytes is fits = other_plain h.happening h.state.block bytes fits
plain_by (Ok (view.SetBits f)) h bytes is fits = other_plain h.happening h.state.block bytes fits
plain_by (Ok (view.DmaActivate f)) h bytes is fits = other_plain h.happening h.state.block bytes fits
plain_by (Ok (view.DmaSetup f)) h bytes is fits = other_plain h.happening h.state.block bytes fits
plain_by (Ok (view.Unknown f)) h bytes is fits = other_plain h.happening h.state.block bytes fits
plain_by (Err e) h bytes is fits = other_plain h.happening h.state.block bytes fits

if_some : (P : Event → Type 0) (b : Bool) (o : Option Event) → IfSome o P → IfSome (if b then None else o) P
if_some P true o is = tt
if_some P false o is = is

module _ (port : Port) (room : Room) (frame : List ℕ) where
  abbrev it : Heard
  it = decided (port_of frame) (view_of (port_of frame) port) room (admitted (port_of frame) (seen frame))

  fits : Fits (seen frame) it
  fits = admitted_fits (port_of frame) (view_of (port_of frame) port) room (seen frame)

  pub fis_open : closes (seen frame) ≡ false → IfSome (event_by port room frame) IsOpenEvent
  fis_open stands = if_some IsOpenEvent (ignores (port_of frame) port frame) (event_heard it (drop 4 frame)) (open_by (seen frame) it (drop 4 frame) stands fits)

  pub fis_carries : carries (seen frame) ≡ true → IfSome (event_by port room frame) IsCarrying
  fis_carries is = if_some IsCarrying (ignores (port_of frame) port frame) (event_heard it (drop 4 frame)) (carries_by (seen frame) it (drop 4 frame) is fits)

  pub fis_plain : carries (seen frame) ≡ false → IfSome (event_by port room frame) IsNoData
  fis_plain is = if_some IsNoData (ignores (port_of frame) port frame) (event_heard it (drop 4 frame)) (plain_by (seen frame) it (drop 4 frame) is fits)
