-- For `delivers`. Client memory is what the touches make of it, and all Data is within what is issued.
use Rattle.std.proofs.Common.{◌≡◌, ℕ, zero, suc, ◌+◌, ◌-◌, ◌*◌, ◌%◌, ◌<◌, ◌≤◌, Bool, true, false, cond, eqb, List, [], ◌∷◌, ◌++◌, drop, take, length}
use Rattle.std.proofs.{Common.{refl, sym, ap, subst, ◌∙◌, inl, inr, Option, Some, None, arith, append_assoc}, lemmas.Bool.{cases_lt, eq-eqb}}
use Rattle.std.proofs.lemmas.{Bool.{eqb-true, false≢true, and_parts, lt-leb, le-ltb, le-leb, lt-ltb}, List.{get_or-append_right, get_or_append_left}}
use Rattle.std.proofs.lemmas.List.{get_or_past, length-take-le, FromFn.{length-map-range_with_len}}
use Rattle.std.specs.{Prelude.{MatchOption, is_some, is_none, ◌&&◌, ◌||◌, nat_le, nat_lt, slice_index, min, if◌then◌else◌, map}, Option.option_map}
use Rattle.std.specs.Option.{option_or}
use Rattle.fis_view.specs.Seen.{seen}
use Rattle.host_memory.specs.{Memory.{Memory, client_start, overwritten}, Place.{Scatters, total_of, written}, Reading.{first_fault, have_overlap}}
use Rattle.host_memory.specs.{Reading.read_fault, declared.table.{Prd.Prd, PrdError.{PrdError, TheVariants.{OutsideStructure, Overlap}}}}
use Rattle.host_memory.proofs.Door.{apart_from_overlap, inside_from_faults, length-overwritten, overwritten_beside, scattered}
use Rattle.hba_commands.specs.declared.command.Command.{Command}
use Rattle.slots.specs.{Data.receiving_slot, Work.{is_dma, is_read}, Slots.{DeviceSlots, Issue, context_of, holds, issue_at, match_some, own_issue}}
use Rattle.slots.specs.declared.table.Context.{Context}
use Rattle.slots.specs.declared.answer.Answered.TheVariants as answer
use Rattle.hba_fbs.specs.declared.{hearing.Happening.Happening, register.Register.{Register, TheVariants.{Cmd, Ci, Fbs}}}
use Rattle.hba_fbs.specs.{declared.{report.{TakeReport.TakeReport, Wrote.Wrote}, status.Block.Block}, Issuing.{aimed, asked}, Registers.falls}
use Rattle.hba_fbs.specs.{Sending.{Outgoing, gathered, outgoing}, Tables.{Delivers, is_readable, is_sound, prds_of, sound_command}, Taking.admitted}
use Rattle.hba_fbs.specs.{Taking.{heard_now, ignores, port_of, wrote_by}, Views.{DeviceView, last_command, view_of}, Writing.cleared_by}
use Rattle.hba_fbs.specs.declared.hearing.Happening.TheVariants as happening
use Rattle.hba_fbs.specs.Sending as out
use Rattle.hba_laws.specs.{Agreement.{AreHistoriesOf, IsHistoryOf, end_of, is_for}, Client.{AreWithin, By, Filling, IsWithin, Puts, Stops, Touches}}
use Rattle.hba_laws.specs.{Client.{client, filling, filling_by, own}, Delivering.{begun_by, ClientIsTouched, DataIsWithin, DataReadsAsIssued}}
use Rattle.hba_laws.specs.Delivering.{IsClient, IsFramed, IsReadAsIssued, ReadsAsIssued, by_device, event_heard, event_of, event_taken}
use Rattle.hba_laws.specs.Delivering.{is_control_issue, issued_below, issued_in, touched, touched_by_clear, touched_by_out, touched_by_write}
use Rattle.hba_laws.specs.{History.{Carried, Emptied, Sent, SentControl, SetUp, Setup, is_set_up, issued}, Hosts.{Does, Flushed, Gave, Host}}
use Rattle.hba_laws.specs.{Hosts.{HostEvent, Put, PutsBytes, TakesFrame, Took, Wrote as WroteRegister}, Sound.IsHost, Between.{GoesOut, HasContext}}
use Rattle.hba_laws.specs.Between.{IsOwn}
use Rattle.hba_laws.proofs.histories.{CarryLemmas.next_is, CoreEventLemmas.says_of, EventLemmas.{goes_out, step}, IssueLemmas.own_app}
use Rattle.hba_laws.proofs.{histories.{StandLemmas.{fills_as, filling_of, if_there}, StepLemmas.Says, ViewLemmas.is_own}, placed.WithinLemmas.Carries}
use Rattle.hba_laws.proofs.placed.WithinLemmas.{CarriesFor, HasSetup, has_setup, heard_carries, the_transfer, within_is}

-- ---- a table that can be used

there_is : {A : Type 0} (o : Option A) (Q : A → Type 0) (a : A) → o ≡ Some a → MatchOption o ⊥ Q → Q a
there_is o Q a e h = subst (λ x. MatchOption x ⊥ Q) e h

-- the command of the slot, whose PRDs can be read and have its bytes
record HasTable (memory : Memory) (commands : List (Option Command)) (slot len : ℕ) : Type 0 where
  command : Command
  last : last_command commands slot ≡ Some command
  readable : is_readable memory len command ≡ true

table_by : (memory : Memory) (commands : List (Option Command)) (slot len : ℕ) (o : Option Command) → last_command commands slot ≡ o
    → is_some (match_some o None (λ command. cond (is_readable memory len command) (Some command) None)) ≡ true → HasTable memory commands slot len
table_by memory commands slot len None last e = absurd (false≢true e)
table_by memory commands slot len (Some command) last e = by_test (is_readable memory len command) refl e
  where
    by_test : (b : Bool) → is_readable memory len command ≡ b → is_some (cond b (Some command) None) ≡ true → HasTable memory commands slot len
    by_test true r e = record { command = command; last = last; readable = r }
    by_test false r e = absurd (false≢true e)

has_table : (memory : Memory) (commands : List (Option Command)) (own : DeviceSlots) (c : Context) (i : Issue) → own.context ≡ Some c → c.to_host ≡ true → own_issue own c.slot ≡ Some i
    → is_sound memory commands own ≡ true → HasTable memory commands c.slot i.work.len
has_table memory commands own c i now host at sound =
    table_by memory commands c.slot i.work.len (last_command commands c.slot) refl
    (sym (ap (λ o. is_some (match_some o None (λ issue. match_some (last_command commands c.slot) None (λ command. cond (is_readable memory issue.work.len command) (Some command) None)))) at)
    ∙ sym (ap (λ b. is_some (match_some (cond b (Some c.slot) None) None (sound_command memory commands own))) host)
    ∙ sym (ap (λ o. is_some (match_some (receiving_slot o) None (sound_command memory commands own))) now) ∙ sound)

-- nothing is wrong with its PRDs
pub no_fault : (outside : Bool) (fault : Option PrdError) (overlap : Bool)
    → is_none (cond outside (Some OutsideStructure) (option_or fault (cond overlap (Some Overlap) None))) ≡ true → (fault ≡ None) × (overlap ≡ false)
no_fault true fault overlap e = absurd (false≢true e)
no_fault false (Some f) overlap e = absurd (false≢true e)
no_fault false None true e = absurd (false≢true e)
no_fault false None false e = (refl, refl)

-- ---- bytes that are put

put_byte : (old : List ℕ) (at : ℕ) (bytes : List ℕ) (k : ℕ) → at + length bytes ≤ length old → at ≤ k → k < at + length bytes → slice_index (overwritten old at bytes) k ≡ slice_index bytes (k - at)
put_byte old at bytes k room low high =
    let front : List ℕ = take at old in
    let rest : List ℕ = drop (at + length bytes) old in
    let long : length front ≡ at = length-take-le at old (omega arith) in
    ap (λ (xs : List ℕ). slice_index xs k) (append_assoc front bytes rest) ∙ get_or-append_right front (bytes ++ rest) at k 0 long low
    ∙ get_or_append_left bytes rest 0 (k - at) (omega arith)

-- ---- one event

pub below_16 : (n : ℕ) → n % 16 < 16
below_16 n = omega arith

module _ (old : Host) (host : IsHost old) (past : Touches) (n : ℕ) (told : IsHistoryOf n old (own n past)) where
  abbrev v : DeviceView
  v = view_of n old.port

  abbrev ends : Option ℕ
  ends = option_map end_of v.state.block

  says : Says v.slots ends (own n past)
  says = says_of v (own n past) told

  owns : IsOwn n v.slots
  owns = is_own n old.port.slots host.slots

  within_of : (c : Context) (len : ℕ) → v.slots.context ≡ Some c → len ≤ c.left → IsWithin (own n past) len
  within_of c len now fits = within_is n v.slots ends (own n past) c len owns says now fits

  -- ---- Data that is heard

  carried_is : (payload : List ℕ) (wrote : Wrote) (after : List ℕ) → CarriesFor v.slots (is_sound old.memory old.port.commands v.slots) (length payload) wrote
      → Delivers old.memory old.port.commands payload (Some wrote) after → DataReadsAsIssued old (own n past) (Carried payload)
      → (before : ℕ → ℕ) → IsClient before past old → (k : ℕ) → k < length after
      → slice_index after k ≡ client before (By n (Carried payload) ∷ past) (client_start + k)
  carried_is payload wrote after x delivers reads before is k lt =
      let c : Context = x.context in
      let has : HasContext n v.slots c = owns.contexts c x.now in
      let i : Issue = has.issue in
      let table : HasTable old.memory old.port.commands c.slot i.work.len = has_table old.memory old.port.commands v.slots c i x.now x.host has.at x.is_sound in
      let prds : List Prd = prds_of old.memory table.command in
      let p = and_parts (is_none (read_fault old.memory.structure (length old.memory.client) (table.command.table + 128) table.command.count)) (eqb (total_of prds) i.work.len) table.readable in
      let sound = no_fault (nat_lt (length old.memory.structure) (table.command.table + 128 + 16 * table.command.count) || nat_lt 248 table.command.count)
      (first_fault old.memory.structure (length old.memory.client) (table.command.table + 128) table.command.count) (have_overlap prds) p.0 in
      let total : total_of prds ≡ i.work.len = eqb-true (total_of prds) i.work.len p.1 in
      let setup : HasSetup c ends (own n past) = has_setup c ends (own n past) ((says.agrees.context_agrees c x.now).of_setup) in
      let g : Setup = setup.setup in
      let t = the_transfer (issued c.slot (own n past)) (own_issue v.slots c.slot) i has.at (says.issued c.slot) in
      let slot_is : g.slot ≡ c.slot = setup.agrees.slot_is in
      let up : is_set_up g.slot (own n past) ≡ true =
      ap (λ s. is_set_up s (own n past)) slot_is ∙ (says.agrees.issues_agree c.slot i has.at).set_up_is ∙ ap (is_for c.slot) x.now ∙ eq-eqb c.slot c.slot refl in
      let is_issued : issued g.slot (own n past) ≡ Some t.0 = ap (λ s. issued s (own n past)) slot_is ∙ t.1 in
      let f : Filling = filling_of g.slot (own n past) t.0 in
      let fills : filling (own n past) ≡ Some f = fills_as (own n past) g t.0 setup.last (setup.agrees.way_is ∙ x.host) up is_issued in
      let as_issued : ReadsAsIssued old f = if_there (filling (own n past)) (ReadsAsIssued old) f fills reads in
      let same : prds ≡ t.0.table =
      if_there (last_command old.port.commands g.slot) (λ command. prds_of old.memory command ≡ t.0.table) table.command (ap (last_command old.port.commands) slot_is ∙ table.last) as_issued in
      let scatter : Scatters prds c.next payload old.memory.client after =
      there_is (last_command old.port.commands c.slot) (λ command. Scatters (prds_of old.memory command) c.next payload old.memory.client after) table.command table.last
      (subst (λ (w : Wrote). Delivers old.memory old.port.commands payload (Some w) after) x.wrote_is delivers) in
      let long = scatter.as_long in
      let room = has.is.fits in
      let within = x.fits in
      scattered prds c.next payload old.memory.client after (client before past)
      (inside_from_faults old.memory.structure (length old.memory.client) (table.command.table + 128) table.command.count sound.0) (apart_from_overlap prds sound.1)
      (omega (arith, total, room, within)) scatter is k (omega (arith, lt, long))
      ∙ ap (λ (l : List Prd). written l c.next payload (client before past) (client_start + k)) same
      ∙ ap (λ m. written t.0.table m payload (client before past) (client_start + k)) (sym (next_is (own_issue v.slots) c ends (own n past) (says.agrees.context_agrees c x.now)))
      ∙ sym (ap (λ o. match_some o (client before past (client_start + k)) (λ h. written h.transfer.table h.from payload (client before past) (client_start + k))) fills)

  -- what a happening makes of the client bytes, and that it is within
  happening_is : (x : Happening) (block : Option Block) (payload : List ℕ) (after : List ℕ) → Carries v.slots (is_sound old.memory old.port.commands v.slots) (length payload) x
      → Delivers old.memory old.port.commands payload (wrote_by x) after → MatchOption (event_of x block payload) (Unit {0}) (DataReadsAsIssued old (own n past))
      → (before : ℕ → ℕ) → IsClient before past old → (k : ℕ) → k < length after
      → slice_index after k ≡ client before (by_device n (event_of x block payload) ++ past) (client_start + k)
  happening_is (happening.Answered answer.Nobody) block payload after x d r before is k lt = ap (λ (l : List ℕ). slice_index l k) d ∙ is k (subst (λ (l : List ℕ). k < length l) d lt)
  happening_is (happening.PioSetUp count to_host) None payload after x d r before is k lt = ap (λ (l : List ℕ). slice_index l k) d ∙ is k (subst (λ (l : List ℕ). k < length l) d lt)
  happening_is (happening.PioSetUp count to_host) (Some b) payload after x d r before is k lt = ap (λ (l : List ℕ). slice_index l k) d ∙ is k (subst (λ (l : List ℕ). k < length l) d lt)
  happening_is (happening.Carried wrote finishes) block payload after x d r before is k lt = carried_is payload wrote after x d r before is k lt
  happening_is other block payload after x d r before is k lt = ap (λ (l : List ℕ). slice_index l k) d ∙ is k (subst (λ (l : List ℕ). k < length l) d lt)

  happening_within : (x : Happening) (block : Option Block) (payload : List ℕ) → Carries v.slots (is_sound old.memory old.port.commands v.slots) (length payload) x → AreWithin past
      → AreWithin (by_device n (event_of x block payload) ++ past)
  happening_within (happening.Answered answer.Nobody) block payload x w = w
  happening_within (happening.PioSetUp count to_host) None payload x w = w
  happening_within (happening.PioSetUp count to_host) (Some b) payload x w = w
  happening_within (happening.Carried wrote finishes) block payload x w = (within_of x.context (length payload) x.now x.fits, w)
  happening_within other block payload x w = w

  -- Data that goes out fills nothing, and is within
  sent_fills : (c : Context) → v.slots.context ≡ Some c → c.to_host ≡ false → filling (own n past) ≡ None
  sent_fills c now host =
      let setup : HasSetup c ends (own n past) = has_setup c ends (own n past) ((says.agrees.context_agrees c now).of_setup) in
      let g : Setup = setup.setup in
      ap (λ o. match_some o None (filling_by (own n past))) setup.last
      ∙ ap (λ b. cond (b && is_set_up g.slot (own n past)) (match_some (issued g.slot (own n past)) None (λ t. Some (filling_of g.slot (own n past) t))) None) (setup.agrees.way_is ∙ host)

module _ (old : Host) (host : IsHost old) (past : Touches) (hist : AreHistoriesOf old past) where
  -- a frame is taken
  took_is : (frame : List ℕ) (report : TakeReport) (new : Host) → TakesFrame old frame report new → IsReadAsIssued past old (Took frame report)
      → (before : ℕ → ℕ) → IsClient before past old → IsClient before (by_device (port_of frame) (event_taken old frame) ++ past) new
  took_is frame report new does reads before is = by_ignored (ignores (port_of frame) old.port frame) refl reads
    where
      by_ignored : (b : Bool) → ignores (port_of frame) old.port frame ≡ b
          → MatchOption (cond b None (event_heard (heard_now old.port old.memory (port_of frame) (admitted (port_of frame) (seen frame))) (drop 4 frame))) (Unit {0}) (DataReadsAsIssued old (own (port_of frame) past))
          → IsClient before (by_device (port_of frame) (cond b None (event_heard (heard_now old.port old.memory (port_of frame) (admitted (port_of frame) (seen frame))) (drop 4 frame))) ++ past) new
      by_ignored true e r = subst (λ (m : Memory). IsClient before past (record { port = new.port; memory = m })) (sym (does.ignored e).memory) is
      by_ignored false e r =
          let n : ℕ = port_of frame in
          let h = heard_now old.port old.memory n (admitted n (seen frame)) in
          happening_is old host past n (hist n (below_16 (slice_index frame 1))) h.happening h.state.block (drop 4 frame) new.memory.client
          (heard_carries n (view_of n old.port) (is_sound old.memory old.port.commands (view_of n old.port).slots) frame) (does.heard e).client r before is

  took_within : (frame : List ℕ) → AreWithin past → AreWithin (by_device (port_of frame) (event_taken old frame) ++ past)
  took_within frame w = by_ignored (ignores (port_of frame) old.port frame)
    where
      by_ignored : (b : Bool) → AreWithin (by_device (port_of frame) (cond b None (event_heard (heard_now old.port old.memory (port_of frame) (admitted (port_of frame) (seen frame))) (drop 4 frame))) ++ past)
      by_ignored true = w
      by_ignored false =
          let n : ℕ = port_of frame in
          let h = heard_now old.port old.memory n (admitted n (seen frame)) in
          happening_within old host past n (hist n (below_16 (slice_index frame 1))) h.happening h.state.block (drop 4 frame)
          (heard_carries n (view_of n old.port) (is_sound old.memory old.port.commands (view_of n old.port).slots) frame) w

  -- commands that are issued touch no byte
  in_touches_none : (before : ℕ → ℕ) (dev slot : ℕ) (memory : Memory) (o : Option Command) (rest : Touches) (k : ℕ)
      → client before (issued_in dev memory slot o ++ rest ++ past) k ≡ client before (rest ++ past) k
  in_touches_none before dev slot memory None rest k = refl
  in_touches_none before dev slot memory (Some command) rest k = refl

  issues_touch_none : (before : ℕ → ℕ) (dev m : ℕ) (commands : ℕ → Option Command) (k : ℕ) → client before (issued_below dev old.memory commands m ++ past) k ≡ client before past k
  unfolding issued_below
  issues_touch_none before dev zero commands k = refl
  issues_touch_none before dev (suc m) commands k = in_touches_none before dev m old.memory (commands m) (issued_below dev old.memory commands m) k ∙ issues_touch_none before dev m commands k

  in_within : (dev slot : ℕ) (memory : Memory) (o : Option Command) (rest : Touches) → AreWithin (rest ++ past) → AreWithin (issued_in dev memory slot o ++ rest ++ past)
  in_within dev slot memory None rest w = w
  in_within dev slot memory (Some command) rest w = w

  issues_within : (dev m : ℕ) (commands : ℕ → Option Command) → AreWithin past → AreWithin (issued_below dev old.memory commands m ++ past)
  unfolding issued_below
  issues_within dev zero commands w = w
  issues_within dev (suc m) commands w = in_within dev m old.memory (commands m) (issued_below dev old.memory commands m) (issues_within dev m commands w)

  write_touches_none : (before : ℕ → ℕ) (register : Register) (value k : ℕ) → client before (touched_by_write register old value ++ past) k ≡ client before past k
  write_touches_none before Cmd value k = by_fall (falls old.port.registers value)
    where
      by_fall : (b : Bool) → client before (cond b (Stops ∷ []) [] ++ past) k ≡ client before past k
      by_fall true = refl
      by_fall false = refl
  write_touches_none before Ci value k = issues_touch_none before (aimed old.port.registers old.memory.structure value) 32 (asked old.port.registers old.memory value) k
  write_touches_none before Fbs value k = by_clear (cleared_by old.port.errors value)
    where
      by_clear : (o : Option ℕ) → client before (touched_by_clear o ++ past) k ≡ client before past k
      by_clear None = refl
      by_clear (Some dev) = refl
  write_touches_none before _ value k = refl

  write_within : (register : Register) (value : ℕ) → AreWithin past → AreWithin (touched_by_write register old value ++ past)
  write_within Cmd value w = by_fall (falls old.port.registers value)
    where
      by_fall : (b : Bool) → AreWithin (cond b (Stops ∷ []) [] ++ past)
      by_fall true = w
      by_fall false = w
  write_within Ci value w = issues_within (aimed old.port.registers old.memory.structure value) 32 (asked old.port.registers old.memory value) w
  write_within Fbs value w = by_clear (cleared_by old.port.errors value)
    where
      by_clear : (o : Option ℕ) → AreWithin (touched_by_clear o ++ past)
      by_clear None = w
      by_clear (Some dev) = w
  write_within _ value w = w

  -- a frame goes out
  pub context_below : (n : ℕ) (c : Context) → context_of old.port.slots n ≡ Some c → n < 16
  context_below n c now = elim (cases_lt n 16) [
    | inl lt ↦ lt
    | inr ge ↦
        let long = host.slots.devices in
        let none : None ≡ Some c = sym (get_or_past old.port.slots.contexts n None (omega (arith, ge, long))) ∙ now in cc
  ]

  out_touches_none : (before : ℕ → ℕ) (o : Outgoing) → GoesOut old.port o → (k : ℕ) → client before (touched_by_out old o ++ past) k ≡ client before past k
  unfolding GoesOut
  out_touches_none before (out.Data dev offset len command) goes k =
      let lt = context_below dev goes.0 goes.1 in
      let has : HasContext dev (view_of dev old.port).slots goes.0 = (is_own dev old.port.slots host.slots).contexts goes.0 goes.1 in
      ap (λ o. match_some o (client before past k) (λ f. written f.transfer.table f.from (gathered (prds_of old.memory command) offset len old.memory.client) (client before past) k))
      (sent_fills old host past dev (hist dev lt) goes.0 goes.1 (has.is.activates goes.2).0)
  out_touches_none before (out.Order dev slot command) goes k = by_issue (issue_at old.port.slots slot)
    where
      by_kind : (i : Issue) (d b : Bool)
          → client before ((map (By dev) (if d then SetUp slot 0 i.work.len (is_read i.work.kind) ∷ [] else []) ++ By dev (cond b (SentControl slot) (Sent slot)) ∷ []) ++ past) k ≡ client before past k
      by_kind i true true = refl
      by_kind i true false = refl
      by_kind i false true = refl
      by_kind i false false = refl

      by_issue : (o : Option Issue) → client before ((map (By dev) (begun_by slot o) ++ By dev (cond (holds is_control_issue o) (SentControl slot) (Sent slot)) ∷ []) ++ past) k ≡ client before past k
      by_issue None = refl
      by_issue (Some i) = by_kind i (is_dma i.work.kind) (is_control_issue i)
  out_touches_none before other goes k = refl

  out_within : (o : Outgoing) → GoesOut old.port o → AreWithin past → AreWithin (touched_by_out old o ++ past)
  unfolding GoesOut
  out_within (out.Data dev offset len command) goes w =
      let lt = context_below dev goes.0 goes.1 in
      let long : length (gathered (prds_of old.memory command) offset len old.memory.client) ≡ min goes.0.left 8192 = length-map-range_with_len _ 0 len ∙ goes.3 in
      (within_of old host past dev (hist dev lt) goes.0 (length (gathered (prds_of old.memory command) offset len old.memory.client)) goes.1 (omega (arith, long)), w)
  out_within (out.Order dev slot command) goes w = by_issue (issue_at old.port.slots slot)
    where
      by_kind : (i : Issue) (d b : Bool)
          → AreWithin ((map (By dev) (if d then SetUp slot 0 i.work.len (is_read i.work.kind) ∷ [] else []) ++ By dev (cond b (SentControl slot) (Sent slot)) ∷ []) ++ past)
      by_kind i true true = w
      by_kind i true false = w
      by_kind i false true = w
      by_kind i false false = w

      by_issue : (o : Option Issue) → AreWithin ((map (By dev) (begun_by slot o) ++ By dev (cond (holds is_control_issue o) (SentControl slot) (Sent slot)) ∷ []) ++ past)
      by_issue None = w
      by_issue (Some i) = by_kind i (is_dma i.work.kind) (is_control_issue i)
  out_within other goes w = w

  -- bytes are put
  put_is : (at : ℕ) (bytes : List ℕ) (new : Host) → PutsBytes old.memory at bytes new.memory → (before : ℕ → ℕ) → IsClient before past old → IsClient before (Puts at bytes ∷ past) new
  put_is at bytes new does before is k lt =
      let p : ℕ = at - client_start in
      let low = does.inside.0 in
      let high = does.inside.1 in
      let long : length (overwritten old.memory.client p bytes) ≡ length old.memory.client = length-overwritten old.memory.client p bytes (omega (arith, low, high)) in
      let lt_old : k < length old.memory.client = subst (λ m. k < m) long (subst (λ (m : Memory). k < length m.client) does.after lt) in
      ap (λ (m : Memory). slice_index m.client k) does.after ∙ elim (cases_lt k p) [
        | inl less ↦
            overwritten_beside old.memory.client p bytes k (omega (arith, low, high)) (inl (omega arith)) ∙ is k lt_old
            ∙ sym (ap (λ b. cond (b && nat_lt (client_start + k) (at + length bytes)) (slice_index bytes (client_start + k - at)) (client before past (client_start + k))) (lt-leb at (client_start + k) (omega (arith, low, less))))
        | inr from ↦ elim (cases_lt k (p + length bytes)) [
          | inl inside ↦
              let same : client_start + k - at ≡ k - p = omega (arith, low, from) in
              put_byte old.memory.client p bytes k (omega (arith, low, high)) from inside
              ∙ ap (slice_index bytes) (sym same)
              ∙ sym (ap (λ b. cond (b && nat_lt (client_start + k) (at + length bytes)) (slice_index bytes (client_start + k - at)) (client before past (client_start + k))) (le-leb at (client_start + k) (omega (arith, low, from)))
              ∙ ap (λ b. cond b (slice_index bytes (client_start + k - at)) (client before past (client_start + k))) (lt-ltb (client_start + k) (at + length bytes) (omega (arith, low, inside))))
          | inr past_it ↦
              overwritten_beside old.memory.client p bytes k (omega (arith, low, high)) (inr past_it) ∙ is k lt_old
              ∙ sym (ap (λ b. cond (nat_le at (client_start + k) && b) (slice_index bytes (client_start + k - at)) (client before past (client_start + k))) (le-ltb (client_start + k) (at + length bytes) (omega (arith, low, past_it)))
              ∙ ap (λ b. cond b (slice_index bytes (client_start + k - at)) (client before past (client_start + k))) (no_and (nat_le at (client_start + k))))
        ]
      ]
    where
      no_and : (b : Bool) → (b && false) ≡ false
      no_and true = refl
      no_and false = refl

  -- the memory stays, and the touches touch none of it
  stays_is : (touches : Touches) (new : Host) → new.memory.client ≡ old.memory.client → (before : ℕ → ℕ) → ((k : ℕ) → client before (touches ++ past) k ≡ client before past k)
      → IsClient before past old → IsClient before (touches ++ past) new
  stays_is touches new same before none is k lt =
      ap (λ (l : List ℕ). slice_index l k) same ∙ is k (subst (λ (l : List ℕ). k < length l) same lt) ∙ sym (none (client_start + k))

  pub event_is : (event : HostEvent) (new : Host) → Does old event new → IsReadAsIssued past old event → (before : ℕ → ℕ) → IsClient before past old → IsClient before (touched old event ++ past) new
  event_is (Took frame report) new does reads before is = took_is frame report new does reads before is
  event_is (WroteRegister register value) new does reads before is =
      stays_is (touched_by_write register old value) new (ap (λ (m : Memory). m.client) does.2) before (λ k. write_touches_none before register value k) is
  event_is (Flushed dev) new does reads before is = stays_is (By dev Emptied ∷ []) new (ap (λ (m : Memory). m.client) does.1) before (λ k. refl) is
  event_is (Gave frame) new does reads before is =
      stays_is (touched_by_out old (outgoing old.port old.memory)) new (ap (λ (m : Memory). m.client) does.1) before
      (λ k. out_touches_none before (outgoing old.port old.memory) (goes_out old.port old.memory) k) is
  event_is (Put at bytes) new does reads before is = put_is at bytes new does.0 before is
  event_is other new does reads before is = stays_is [] new (ap (λ (m : Memory). m.client) does.0.after) before (λ k. refl) is

  pub event_within : (event : HostEvent) → AreWithin past → AreWithin (touched old event ++ past)
  event_within (Took frame report) w = took_within frame w
  event_within (WroteRegister register value) w = write_within register value w
  event_within (Gave frame) w = out_within (outgoing old.port old.memory) (goes_out old.port old.memory) w
  event_within other w = w

  pub histories_step : (event : HostEvent) (new : Host) → IsFramed event → Does old event new → AreHistoriesOf new (touched old event ++ past)
  histories_step event new framed does n lt = subst (IsHistoryOf n new) (sym (own_app n (touched old event) past)) (step n old host (own n past) (hist n lt) event new lt framed does)

-- ---- lists of events

pub client_is_touched : ClientIsTouched
client_is_touched old new [] run sound before past hist reads is = subst (IsClient before past) (sym run) is
client_is_touched old new (event ∷ events) run sound before past hist reads is =
    client_is_touched run.0 new events run.2 (record { hosts = sound.hosts.1; frames = sound.frames.1 }) before (touched old event ++ past)
    (histories_step old sound.hosts.0 past hist event run.0 sound.frames.0 run.1) reads.1 (event_is old sound.hosts.0 past hist event run.0 run.1 reads.0 before is)

pub data_is_within : DataIsWithin
data_is_within old new [] run sound past hist w = w
data_is_within old new (event ∷ events) run sound past hist w =
    data_is_within run.0 new events run.2 (record { hosts = sound.hosts.1; frames = sound.frames.1 }) (touched old event ++ past)
    (histories_step old sound.hosts.0 past hist event run.0 sound.frames.0 run.1) (event_within old sound.hosts.0 past hist event w)
