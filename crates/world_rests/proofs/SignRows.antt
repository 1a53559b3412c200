-- For `rested_disks_have_signed`. A device's posted Register FIS stays in its row of the received area until its next FIS or its flush, and
-- so does the signature in it. A Register FIS that the port hears is posted there.
use Rattle.std.proofs.Common.{◌≡◌, ◌≢◌, ℕ, zero, suc, ◌+◌, ◌*◌, ◌-◌, ◌<◌, ◌≤◌, ◌⊎◌, ◌&&◌, Bool, true, false, nat_lt, List, [], ◌∷◌, ◌++◌, length}
use Rattle.std.proofs.Common.{take, drop, replicate, get_or, refl, sym, ◌∙◌, ap, subst, inl, inr, arith, Option, Some, None, length-append}
use Rattle.std.proofs.lemmas.{Bool.{and_parts, cases_Bool, cases_lt, false≢true, true≢false, Decides.nat_tests}, List.ext_get_or}
use Rattle.std.proofs.lemmas.List.{get_or-append_right, get_or-drop, get_or-take, get_or_append_left, length-drop, length-replicate, length-take}
use Rattle.std.specs.{Prelude.{if◌then◌else◌, ◌==◌, ◌||◌, not, slice_index, is_none, unwrap_or, Result, Ok, Err}, List.list_all}
use Rattle.fis_view.specs.{Seen.{kind_of, may_have, seen, view_as}, Table.{Activate, Bits, D2h, Data, H2d, Kind, Other, Pio, Setup}}
use Rattle.fis_view.specs.declared.{build.H2dFields.H2dFields, view.{Fis.Fis, FisFault.{FisFault, TheVariants.WrongLength}}}
use Rattle.fis_view.specs.declared.view.Fis.TheVariants as view
use Rattle.host_memory.specs.{Memory.{Memory, overwritten, zeros}, Reading.{AgreeFrom, LieApart}, Writing.table_bytes, declared.table.Prd.Prd}
use Rattle.host_memory.proofs.Door.{agree_beside, length-overwritten, length-table_bytes, length-zeros}
use Rattle.hba_commands.specs.{Commands.cfis_at, Headers.header_place, Requests.request_of, Writing.{IsWritten, command_table, header_bytes}}
use Rattle.hba_commands.specs.Writing.{header_for}
use Rattle.hba_commands.proofs.Door.{length-header_bytes}
use Rattle.slots.specs.Slots.{match_some}
use Rattle.slots.proofs.Door.{lowest_is}
use Rattle.hba_fbs.specs.{declared.report.TakeReport.TakeReport, Posting.{Posts, area_at, is_ata_signature}, Taking.{PostsIn, PostsOf, admitted}}
use Rattle.hba_fbs.specs.{Taking.{ignores, is_running, port_of, row_for}, Views.Port}
use Rattle.hba_driver.specs.declared.{mode.Mode.{Mode, TheVariants.Switching}, order.Order.{Order, TheVariants.{Clear, Scan}}, path.Stage.Stage}
use Rattle.hba_driver.specs.{declared.{plan.Plan.Plan, request.Request.Request}, Drivers.{Driver, Entry, entry_at}, Effects.{ActsAll, clearing}}
use Rattle.hba_driver.specs.Effects.{effects_of, emptied, is_effect, issuing, opening_write, order_effects, prds_with, restart_write, sending}
use Rattle.hba_driver.specs.{Effects.table_of, Events.IsSoundHost, HostTurns.{Does, Host, HostTurn, Polled, Pushed, Put, Submitted, Ticked, Took}}
use Rattle.hba_driver.specs.{HostTurns.sight_in, Orders.{control_port, order_fields}, Paths.{reads_page, stage_fields}, Requests.is_free}
use Rattle.hba_driver.specs.{Requests.lowest_free, Seeing.Sight, Sights.{is_ata, last_d2h}, Steady.{HasSignature, IsCalmAct, IsCalmTick}}
use Rattle.hba_driver.specs.{Submits.{next_slot, submit_refusal}, Ticks.{done_ended, due, effects_due}, Turns.{control_seen, device_or_request}}
use Rattle.hba_driver.specs.Turns.{device_seen, early_due, fault_due, issue_of, opening_due, order_allowed, order_due, restart_due, step_of}
use Rattle.hba_driver.proofs.Door.{heard_as, is_taken, sound_turn, tick_acts}
use Rattle.world_rests.proofs.SignDue.{TypeOf, early_by, else_by, if_by, late_by, map_by, order_by, turn_by, unless_by}

-- ---- areas that agree

-- both have their full length, and agree where the Register FIS of device n is
record Same (n : ℕ) (old new : List ℕ) : Type 0 where
  long : length new ≡ 1048576
  agree : AgreeFrom (4160 + 256 * n) 20 old new

abbrev place : ℕ → ℕ
place n = 4160 + 256 * n

same_here : (n : ℕ) (s : List ℕ) → length s ≡ 1048576 → Same n s s
same_here n s long = record { long = long; agree = λ i h. refl }

same_then : (n : ℕ) (a b c : List ℕ) → Same n a b → Same n b c → Same n a c
same_then n a b c h k = record { long = k.long; agree = λ i below. h.agree i below ∙ k.agree i below }

same_beside : (n : ℕ) (old : List ℕ) (at : ℕ) (bytes : List ℕ) (room : ℕ) → length old ≡ 1048576 → length bytes ≤ room → at + room ≤ 1048576
    → LieApart (place n) 20 at room
    → Same n old (overwritten old at bytes)
same_beside n old at bytes room long few fits apart = record {
  long = length-overwritten old at bytes (omega (arith, long, few, fits)) ∙ long;
  agree =
      agree_beside old at bytes (place n) 20 (omega (arith, long, few, fits))
      (elim apart [ inl before ↦ inl before | inr after ↦ inr (omega (arith, after, few)) ]);
}

-- ---- a command that is written

table_few : (cfis : List ℕ) (prds : List Prd) → length cfis ≤ 20 → length prds ≤ 248 → length (command_table cfis prds) ≤ 4096
unfolding command_table
table_few cfis prds short few =
    rw (length-append (cfis ++ zeros 108) (table_bytes prds), length-append cfis (zeros 108), length-zeros 108, length-table_bytes prds)
    (omega (arith, short, few))

same_written : (n slot : ℕ) (fields : H2dFields) (prds : List Prd) (old new : List ℕ) → length old ≡ 1048576 → n < 16 → slot < 32 → length prds ≤ 248
    → IsWritten 0 slot (table_of slot) fields prds old new → Same n old new
same_written n slot fields prds old new long low below few written =
    let hb : List ℕ = header_bytes (header_for (request_of fields) (table_of slot) (length prds)) in
    let ct : List ℕ = command_table (cfis_at new (table_of slot)) prds in
    let short : length (cfis_at new (table_of slot)) ≤ 20 = omega (arith, length-take 20 (drop (table_of slot) new)) in
    let first : Same n old (overwritten old (header_place 0 slot) hb) =
    same_beside n old (header_place 0 slot) hb 32 long (omega (arith, length-header_bytes (header_for (request_of fields) (table_of slot) (length prds))))
    (omega (arith, below)) (inr (omega (arith, below))) in
    let second : Same n (overwritten old (header_place 0 slot) hb) (overwritten (overwritten old (header_place 0 slot) hb) (table_of slot) ct) =
    same_beside n (overwritten old (header_place 0 slot) hb) (table_of slot) ct 4096 first.long (table_few (cfis_at new (table_of slot)) prds short few)
    (omega (arith, below)) (inl (omega (arith, low))) in
    subst (λ (s : List ℕ). Same n old s) (sym written.bytes) (same_then n old _ _ first second)

-- ---- effects

lt_of : (n m : ℕ) → nat_lt n m ≡ true → n < m
lt_of n m h = grind (arith, nat_tests)

few_prds : (buffer : Bool) → length (prds_with buffer) ≤ 248
few_prds true = omega arith
few_prds false = omega arith

apart_rows : (a b : ℕ) → a ≢ b → (place b + 20 ≤ 4096 + 256 * a) ⊎ (4096 + 256 * a + 256 ≤ place b)
apart_rows a b other = elim (cases_lt a b) [ inl less ↦ inr (omega (arith, less)) | inr least ↦ inl (omega (arith, least, other)) ]

same_memory : (n : ℕ) (old new : Memory) → length old.structure ≡ 1048576 → new ≡ old → Same n old.structure new.structure
same_memory n old new long is = subst (λ (m : Memory). Same n old.structure m.structure) (sym is) (same_here n old.structure long)

same_emptied : (n dev : ℕ) (before after : Memory) → length before.structure ≡ 1048576 → dev < 16 → dev ≢ n → after ≡ emptied dev before
    → Same n before.structure after.structure
same_emptied n dev before after long below other is =
    subst (λ (m : Memory). Same n before.structure m.structure) (sym is)
    (same_beside n before.structure (4096 + 256 * dev) (replicate 256 0) 256 long (omega (arith, length-replicate {A = ℕ} 256 0)) (omega (arith, below))
    (apart_rows dev n other))

module _ (n : ℕ) (low : n < 16) (old new : Port) (before after : Memory) (long : length before.structure ≡ 1048576) where
  -- the next of the writes that open the port
  opens_same : (k : ℕ) → ActsAll (opening_write Switching k ∷ []) old before new after → Same n before.structure after.structure
  unfolding opening_write ActsAll
  opens_same zero h = same_memory n before after long (h.4.1 ∙ h.2.1)
  opens_same (suc zero) h = same_memory n before after long (h.4.1 ∙ h.2.1)
  opens_same (suc (suc zero)) h = same_memory n before after long (h.4.1 ∙ h.2.1)
  opens_same (suc (suc (suc zero))) h = same_memory n before after long (h.4.1 ∙ h.2.1)
  opens_same (suc (suc (suc (suc zero)))) h = same_memory n before after long (h.4.1 ∙ h.2.1)
  opens_same (suc (suc (suc (suc (suc zero))))) h = same_memory n before after long (h.4.1 ∙ h.2.1)
  opens_same (suc (suc (suc (suc (suc (suc zero)))))) h = same_memory n before after long (h.4.1 ∙ h.2.1)
  opens_same (suc (suc (suc (suc (suc (suc (suc k))))))) h = same_memory n before after long (h.4.1 ∙ h.2.1)

  restarts_same : (k : ℕ) → ActsAll (restart_write k ∷ []) old before new after → Same n before.structure after.structure
  unfolding restart_write ActsAll
  restarts_same zero h = same_memory n before after long (h.4.1 ∙ h.2.1)
  restarts_same (suc zero) h = same_memory n before after long (h.4.1 ∙ h.2.1)
  restarts_same (suc (suc k)) h = same_memory n before after long (h.4.1 ∙ h.2.1)

  clears_same : (dev : ℕ) → ActsAll (clearing Switching dev) old before new after → Same n before.structure after.structure
  unfolding ActsAll
  clears_same dev h = same_memory n before after long (h.4.4.1 ∙ h.4.2.1 ∙ h.2.1)

  issues_same : (slot dev : ℕ) (queued : Bool) → ActsAll (issuing Switching slot dev queued) old before new after → Same n before.structure after.structure
  unfolding ActsAll
  issues_same slot dev true h = same_memory n before after long (h.4.4.4.1 ∙ h.4.4.2.1 ∙ h.4.2.1 ∙ h.2.1)
  issues_same slot dev false h = same_memory n before after long (h.4.4.1 ∙ h.4.2.1 ∙ h.2.1)

module _ (n : ℕ) (low : n < 16) where
  -- a command of the driver's own, if there is one
  sends_same : (slot dev : ℕ) → slot < 32 → (o : Option H2dFields) (buffer : Bool) (old new : Port) (before after : Memory) → length before.structure ≡ 1048576
      → ActsAll (match_some o [] (λ f. sending Switching slot dev f buffer)) old before new after → Same n before.structure after.structure
  unfolding ActsAll
  sends_same slot dev below None buffer old new before after long h = same_memory n before after long h.1
  sends_same slot dev below (Some f) buffer old new before after long h =
      let written : Same n before.structure h.1.structure =
      same_written n slot f (prds_with buffer) before.structure h.1.structure long low below (few_prds buffer) h.2.1.structure in
      same_then n before.structure h.1.structure after.structure written (issues_same n low h.0 new h.1 after written.long slot dev false h.4)

  orders_same : (order : Order) → order ≢ Clear n → list_all is_effect (order_effects Switching order) ≡ true → (old new : Port) (before after : Memory)
      → length before.structure ≡ 1048576
      → ActsAll (order_effects Switching order) old before new after → Same n before.structure after.structure
  unfolding order_effects ActsAll
  orders_same (Clear port) other possible old new before after long h =
      let below : port < 16 = lt_of port 16 (and_parts (nat_lt port 16) _ possible).0 in
      let first : Same n before.structure h.1.structure = same_memory n before h.1 long h.2.1 in
      let next : Same n h.1.structure h.4.1.structure = same_emptied n port h.1 h.4.1 first.long below (λ e. other (ap Clear e)) h.4.2.1 in
      same_then n before.structure h.1.structure after.structure first
      (same_then n h.1.structure h.4.1.structure after.structure next
      (sends_same 31 control_port (omega arith) (order_fields (Clear port)) false h.4.0 new h.4.1 after next.long h.4.4))
  orders_same Scan other possible old new before after long h =
      let first : Same n before.structure h.1.structure = same_memory n before h.1 long h.2.1 in
      same_then n before.structure h.1.structure after.structure first
      (sends_same 31 control_port (omega arith) (order_fields Scan) false h.0 new h.1 after first.long h.4)
  orders_same order other possible old new before after long h = sends_same 31 control_port (omega arith) (order_fields order) false old new before after long h

module _ (n : ℕ) (low : n < 16) (port after : Port) (memory later : Memory) (long : length memory.structure ≡ 1048576) (v : Sight) (p : Plan) where
  -- the act leaves the place
  abbrev RowKept : TypeOf (early_due v p) → Type 0
  RowKept o =
      IsCalmAct n o → list_all is_effect (effects_due Switching o) ≡ true → ActsAll
      (effects_due Switching o) port memory after later → Same n memory.structure later.structure

  none_kept : RowKept None
  unfolding ActsAll
  none_kept calm possible acts = same_memory n memory later long acts.1

  opening_kept : RowKept (opening_due p)
  unfolding effects_of
  opening_kept = if_by RowKept none_kept (nat_lt p.opened 7) _ (λ calm possible acts. opens_same n low port after memory later long p.opened acts)

  restart_kept : RowKept (restart_due p)
  unfolding effects_of
  restart_kept = if_by RowKept none_kept (nat_lt p.restarted 2) _ (λ calm possible acts. restarts_same n low port after memory later long p.restarted acts)

  fault_kept : RowKept (fault_due v)
  unfolding effects_of
  fault_kept =
      else_by RowKept none_kept v.stopped _ _ (λ calm possible acts. absurd calm)
      (map_by RowKept none_kept _ v.faulty (λ dev calm possible acts. clears_same n low port after memory later long dev acts))

  early_kept : RowKept (early_due v p)
  early_kept = early_by v p RowKept none_kept opening_kept restart_kept fault_kept

  order_kept : RowKept (order_due p)
  unfolding effects_of
  order_kept =
      unless_by RowKept none_kept p.asked _
      (λ un. map_by RowKept none_kept _ (order_fields p.order)
      (λ fields calm possible acts. orders_same n low p.order calm possible port after memory later long acts))

  control_kept : (entries : List (Option Entry)) → RowKept (order_allowed v p entries)
  control_kept entries = order_by v p RowKept none_kept entries order_kept

  step_kept : (dev : ℕ) (stage : Stage) → RowKept (step_of dev stage)
  unfolding effects_of
  step_kept dev stage =
      map_by RowKept none_kept _ (stage_fields dev stage)
      (λ fields calm possible acts. sends_same n low 30 dev (omega arith) (stage_fields dev stage) (reads_page stage) port after memory later long acts)

  issue_kept : (slot : ℕ) (e : Entry) → RowKept (issue_of slot (Some e))
  unfolding effects_of
  issue_kept slot e calm possible acts = issues_same n low port after memory later long slot e.head.dev _ acts

  late_kept : (entries : List (Option Entry)) → RowKept (device_or_request v p entries)
  late_kept entries = late_by v p RowKept none_kept (λ dev stage may. step_kept dev stage) issue_kept entries

due_kept : (n : ℕ) (low : n < 16) (port after : Port) (memory later : Memory) (long : length memory.structure ≡ 1048576) (v : Sight) (d : Driver)
    → RowKept n low port after memory later long v d.plan (due v d)
due_kept n low port after memory later long v d =
    turn_by v d.plan (done_ended v.issued d.entries) (λ q o. RowKept n low port after memory later long v d.plan o)
    (early_kept n low port after memory later long v d.plan)
    (control_kept n low port after memory later long v (control_seen v d.plan) (done_ended v.issued d.entries))
    (late_kept n low port after memory later long v (device_seen v (control_seen v d.plan)) (done_ended v.issued d.entries))

-- ---- a FIS is posted

row_long : (n : ℕ) (s : List ℕ) → n < 16 → length s ≡ 1048576 → length (take 256 (drop (256 * n) (area_at s 4096))) ≡ 256
row_long n s low long =
    let a = length-drop 4096 s in
    let b = length-take 4096 (drop 4096 s) in
    let c = length-drop (256 * n) (take 4096 (drop 4096 s)) in
    let d = length-take 256 (drop (256 * n) (take 4096 (drop 4096 s))) in
    omega (arith, a, b, c, d, low, long)

-- a byte of the Register FIS is a byte of the row
byte_of : (n i : ℕ) (s : List ℕ) → n < 16 → i < 20 → get_or (take 256 (drop (256 * n) (area_at s 4096))) (64 + i) 0 ≡ slice_index s (place n + i)
byte_of n i s low below =
    let at : 4096 + (256 * n + (64 + i)) ≡ place n + i = omega arith in
    get_or-take 256 (drop (256 * n) (take 4096 (drop 4096 s))) (64 + i) 0 (omega (arith, below)) ∙ get_or-drop (256 * n) (take 4096 (drop 4096 s)) (64 + i) 0
    ∙ get_or-take 4096 (drop 4096 s) (256 * n + (64 + i)) 0 (omega (arith, low, below)) ∙ get_or-drop 4096 s (256 * n + (64 + i)) 0 ∙ ap
    (λ (k : ℕ). get_or s k 0) at

-- a FIS of another device
posted_other : (n dev : ℕ) (fis : Fis) (old new : List ℕ) → n < 16 → dev ≢ n → Posts 4096 dev fis old new → AgreeFrom (place n) 20 old new
posted_other n dev fis old new low other posts i below =
    sym (byte_of n i old low below) ∙ ap (λ (r : List ℕ). get_or r (64 + i) 0) (sym (posts.others n (λ e. other (sym e)))) ∙ byte_of n i new low below

posted_of : (n dev fb : ℕ) (frame : List ℕ) (old new : List ℕ) → n < 16 → fb ≡ 4096 → dev ≢ n → PostsOf fb dev (admitted dev (seen frame)) old new
    → AgreeFrom (place n) 20 old new
posted_of n dev fb frame old new low area other posts = by_fis (admitted dev (seen frame)) posts
  where
    by_fis : (o : Option Fis) → PostsOf fb dev o old new → AgreeFrom (place n) 20 old new
    by_fis None is = λ i below. ap (λ (l : List ℕ). slice_index l (place n + i)) (sym is)
    by_fis (Some fis) h = posted_other n dev fis old new low other (subst (λ (k : ℕ). Posts k dev fis old new) area h)

-- ---- where a frame is posted

row_own : (port : Port) (dev : ℕ) → port.registers.switching ≡ true → row_for port dev ≡ Some dev
row_own port dev on = ap (λ (b : Bool). if b then Some dev else if dev == port.active then Some 0 else None) on

posts_own : (port : Port) (fb dev : ℕ) (fis : Option Fis) (s t : List ℕ) → port.registers.switching ≡ true → PostsIn fb (row_for port dev) fis s t
    → PostsOf fb dev fis s t
posts_own port fb dev fis s t on posts = subst (λ (row : Option ℕ). PostsIn fb row fis s t) (row_own port dev on) posts

and_first : (a b : Bool) → (a && b) ≡ true → a ≡ true
and_first true b h = refl
and_first false b h = absurd (false≢true h)

not_or_or : (a b c : Bool) → ((not a || b) || c) ≡ false → a ≡ true
not_or_or true b c h = refl
not_or_or false b c h = absurd (true≢false h)

runs : (port : Port) (frame : List ℕ) → ignores (port_of frame) port frame ≡ false → port.registers.started ≡ true
runs port frame h = and_first port.registers.started _ (not_or_or (is_running port) _ _ (heard_as (port_of frame) port frame h))

-- a port that runs has FIS-based switching, and the driver's received area
record Runs (h : Host) : Type 0 where
  switching : h.port.registers.switching ≡ true
  area : h.port.registers.fb ≡ 4096

started_runs : (h : Host) → IsSoundHost h → h.port.registers.started ≡ true → Runs h
started_runs h s starts = elim (cases_lt h.driver.plan.opened 7) [
  | inl less ↦ absurd (false≢true (sym (s.registers.stopped (omega (arith, less))) ∙ starts))
  | inr least ↦ record { switching = s.registers.switches (omega (arith, least)); area = s.registers.area (omega (arith, least)) }
]

-- ---- each turn

some_place : (o : Option ℕ) → is_none o ≡ false → o ≡ Some (unwrap_or o 30)
some_place None h = absurd (true≢false h)
some_place (Some n) h = refl

-- the slot that a submit takes is one of 30
slot_below : (d : Driver) (memory : Memory) (dev : ℕ) (request : Request) → submit_refusal d memory dev request ≡ None → next_slot d < 30
unfolding lowest_free
slot_below d memory dev request none =
    (lowest_is (λ slot. is_free (entry_at d.entries slot)) 30 (next_slot d)
    (some_place (lowest_free d.entries) (is_taken d memory dev request none).room)).below

tick_possible : (h : Host) (a : Bool) (new : Host) → Does h (Ticked a) new → IsSoundHost h
    → list_all is_effect (effects_due Switching (due (sight_in h) h.driver)) ≡ true
tick_possible h a new does s = subst (λ (m : Mode). list_all is_effect (effects_due m (due (sight_in h) h.driver)) ≡ true) s.drives does.possible

agree_memory : (n : ℕ) (old new : Memory) → new.structure ≡ old.structure → AgreeFrom (place n) 20 old.structure new.structure
agree_memory n old new is i h = ap (λ (l : List ℕ). slice_index l (place n + i)) (sym is)

-- no FIS of the device is taken, and it is not flushed
abbrev pub IsRowsTurn : ℕ → Host → HostTurn → Type 0
IsRowsTurn n old (Took frame report) = port_of frame ≢ n
IsRowsTurn n old (Ticked acted) = IsCalmTick n old
IsRowsTurn n old turn = Unit {0}

row_turn : (n : ℕ) (old : Host) (t : HostTurn) (new : Host) → n < 16 → Does old t new → IsSoundHost old → IsRowsTurn n old t
    → AgreeFrom (place n) 20 old.memory.structure new.memory.structure
row_turn n old (Took frame report) new low h s which = elim (cases_Bool (ignores (port_of frame) old.port frame)) [
  | inl skip ↦ agree_memory n old.memory new.memory (ap (λ (m : Memory). m.structure) (h.ignored skip).memory)
  | inr heard ↦
      let r : Runs old = started_runs old s (runs old.port frame heard) in
      posted_of n (port_of frame) old.port.registers.fb frame old.memory.structure new.memory.structure low r.area which
      (posts_own old.port old.port.registers.fb (port_of frame) (admitted (port_of frame) (seen frame)) old.memory.structure new.memory.structure r.switching
      (h.heard heard).structure)
]
row_turn n old (Ticked a) new low h s which =
    (due_kept n low old.port new.port old.memory new.memory s.memory.structure_len (sight_in old) old.driver which (tick_possible old a new h s)
    (tick_acts old a new h s)).agree
row_turn n old (Submitted dev request ticket) new low h s which =
    let slot : ℕ = next_slot old.driver in
    let below : slot < 30 = slot_below old.driver old.memory dev request h.accepted in
    (same_written n slot _ request.prds.items old.memory.structure new.memory.structure s.memory.structure_len low (omega (arith, below))
    (is_taken old.driver old.memory dev request h.accepted).few h.taken.command).agree
row_turn n old (Pushed frame) new low h s which = agree_memory n old.memory new.memory (ap (λ (m : Memory). m.structure) h.memory)
row_turn n old (Polled completion) new low h s which = agree_memory n old.memory new.memory (ap (λ (m : Memory). m.structure) h.memory)
row_turn n old (Put at bytes) new low h s which = agree_memory n old.memory new.memory (ap (λ (m : Memory). m.structure) h.memory)

d2h_same : (n : ℕ) (old new : List ℕ) → length new ≡ length old → AgreeFrom (place n) 20 old new → last_d2h new n ≡ last_d2h old n
d2h_same n old new long same =
    let a = length-take 20 (drop (place n) old) in
    let b = length-take 20 (drop (place n) new) in
    let c = length-drop (place n) old in
    let d = length-drop (place n) new in
    ext_get_or 0 (take 20 (drop (place n) new)) (take 20 (drop (place n) old)) (omega (arith, a, b, c, d, long)) (λ i h.
    let below : i < 20 = omega (arith, b, h) in
    get_or-take 20 (drop (place n) new) i 0 below ∙ get_or-drop (place n) new i 0 ∙ sym (same i below) ∙ sym (get_or-drop (place n) old i 0) ∙ sym
    (get_or-take 20 (drop (place n) old) i 0 below))

-- in such a turn the signature in the row stays
pub signature_stays : (n : ℕ) (old : Host) (t : HostTurn) (new : Host) → n < 16 → Does old t new → IsSoundHost old → IsRowsTurn n old t → HasSignature n old
    → HasSignature n new
signature_stays n old t new low h s which signs =
    let later = sound_turn old t new h s in
    let same : last_d2h new.memory.structure n ≡ last_d2h old.memory.structure n =
    d2h_same n old.memory.structure new.memory.structure (later.memory.structure_len ∙ sym s.memory.structure_len) (row_turn n old t new low h s which) in
    ap (λ (f : List ℕ). is_ata (seen f)) same ∙ signs

-- ---- a Register FIS that is heard

at_place : (old bytes : List ℕ) (at k : ℕ) → at + length bytes ≤ length old → k < length bytes
    → get_or (take at old ++ bytes ++ drop (at + length bytes) old) (at + k) 0 ≡ get_or bytes k 0
at_place old bytes at k room below =
    let long = length-take at old in
    let both_long = length-append (take at old) bytes in
    let back : at + k - at ≡ k = omega arith in
    get_or_append_left (take at old ++ bytes) (drop (at + length bytes) old) 0 (at + k) (omega (arith, both_long, long, room, below))
    ∙ get_or-append_right (take at old) bytes at (at + k) 0 (omega (arith, long, room)) (omega arith) ∙ ap (λ (j : ℕ). get_or bytes j 0) back

-- it stands in the row then
posted_d2h : (n : ℕ) (f old new : List ℕ) → n < 16 → length old ≡ 1048576 → length new ≡ 1048576 → length f ≡ 20 → Posts 4096 n (view.RegD2H f) old new
    → last_d2h new n ≡ f
posted_d2h n f old new low long new_long size posts =
    let a = length-take 20 (drop (place n) new) in
    let b = length-drop (place n) new in
    let row = row_long n old low long in
    ext_get_or 0 (last_d2h new n) f (omega (arith, a, b, new_long, low, size)) (λ i h.
    let below : i < 20 = omega (arith, a, h) in
    get_or-take 20 (drop (place n) new) i 0 below ∙ get_or-drop (place n) new i 0 ∙ sym (byte_of n i new low below)
    ∙ ap (λ (r : List ℕ). get_or r (64 + i) 0) posts.own ∙ at_place (take 256 (drop (256 * n) (area_at old 4096))) f 64 i (omega (arith, row, size))
    (omega (arith, size, below)))

record IsRegisterOf (frame f : List ℕ) : Type 0 where
  is : f ≡ frame
  size : length f ≡ 20

equal_of : (a b : ℕ) → (a == b) ≡ true → a ≡ b
equal_of a b h = grind (arith, nat_tests)

seen_frame : (frame f : List ℕ) → seen frame ≡ Ok (view.RegD2H f) → IsRegisterOf frame f
unfolding seen
seen_frame frame f is = by_kind (kind_of frame) (may_have (kind_of frame) (length frame)) refl is
  where
    by_kind : (k : Kind) (b : Bool) → may_have k (length frame) ≡ b → (if b then Ok (view_as k frame) else Err WrongLength) ≡ Ok (view.RegD2H f)
        → IsRegisterOf frame f
    by_kind k false has e = cc e
    by_kind D2h true has e =
        let same : frame ≡ f = cc e in
        record { is = sym same; size = ap (λ (x : List ℕ). length x) (sym same) ∙ equal_of (length frame) 20 has }
    by_kind H2d true has e = cc e
    by_kind Activate true has e = cc e
    by_kind Setup true has e = cc e
    by_kind Data true has e = cc e
    by_kind Pio true has e = cc e
    by_kind Bits true has e = cc e
    by_kind Other true has e = cc e

pub register_posted : (n : ℕ) (old : Host) (frame f : List ℕ) (report : TakeReport) (new : Host) → Does old (Took frame report) new → n < 16 → IsSoundHost old
    → port_of frame ≡ n → ignores (port_of frame) old.port frame ≡ false
    → seen frame ≡ Ok (view.RegD2H f) → is_ata_signature f ≡ true → HasSignature n new
register_posted n old frame f report new does low s own heard is signs =
    let r : Runs old = started_runs old s (runs old.port frame heard) in
    let later = sound_turn old (Took frame report) new does s in
    let posts : PostsOf old.port.registers.fb (port_of frame) (admitted (port_of frame) (seen frame)) old.memory.structure new.memory.structure =
    posts_own old.port old.port.registers.fb (port_of frame) (admitted (port_of frame) (seen frame)) old.memory.structure new.memory.structure r.switching
    (does.heard heard).structure in
    let it : PostsOf old.port.registers.fb (port_of frame) (admitted (port_of frame) (Ok (view.RegD2H f))) old.memory.structure new.memory.structure =
    subst (λ (x : Result Fis FisFault). PostsOf old.port.registers.fb (port_of frame)
    (admitted (port_of frame) x) old.memory.structure new.memory.structure) is posts in
    let own_it : Posts 4096 n (view.RegD2H f) old.memory.structure new.memory.structure =
    subst (λ (k : ℕ). Posts 4096 k (view.RegD2H f) old.memory.structure new.memory.structure) own
    (subst (λ (k : ℕ). Posts k (port_of frame) (view.RegD2H f) old.memory.structure new.memory.structure) r.area it) in
    let it_is : IsRegisterOf frame f = seen_frame frame f is in
    let row : last_d2h new.memory.structure n ≡ f =
    posted_d2h n f old.memory.structure new.memory.structure low s.memory.structure_len later.memory.structure_len it_is.size own_it in
    ap (λ (x : List ℕ). is_ata (seen x)) (row ∙ it_is.is) ∙ ap is_ata is ∙ signs
