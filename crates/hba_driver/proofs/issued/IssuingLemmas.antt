-- For `turns_serve`. What a write of PxCI issues, if one slot has its command.
use Rattle.std.proofs.Common.{◌≡◌, ◌≢◌, ℕ, zero, suc, ◌+◌, ◌*◌, ◌^◌, ◌<◌, ◌≤◌, ◌⊎◌, Bool, true, false, cond, eqb, List, ◌++◌, length, refl, sym, ◌∙◌}
use Rattle.std.proofs.{Common.{ap, subst, inl, inr, arith, Option, Some, None}, lemmas.Bool.{and_parts, cases_Bool, cases_eq, cases_lt, eqb-true}}
use Rattle.std.proofs.lemmas.{Bool.{false≢true, or_parts, true≢false, Decides.nat_tests}, List.{get_or_past, FromFn.{get_or-map-range_with_len}}}
use Rattle.std.proofs.lemmas.{List.FromFn.{length-map-range_with_len}, Nat.Bits.{bit_at-pow_other, bit_at-pow_same, bit_at-zero}}
use Rattle.std.specs.{Prelude.{if◌then◌else◌, ◌&&◌, ◌||◌, ◌==◌, ◌%◌, not, is_none, is_some, nat_lt}, Option.{option_map, option_or}}
use Rattle.host_memory.specs.{Memory.Memory, Place.total_of, Reading.{first_fault, have_overlap, prds_at, read_fault}, declared.table.Prd.Prd}
use Rattle.host_memory.specs.declared.table.PrdError.{PrdError, TheVariants.{OutsideStructure, Overlap}}
use Rattle.hba_commands.specs.{declared.command.Command.Command, Commands.{cfis_at, command_at, command_in, command_under, has_table, is_proper}}
use Rattle.hba_commands.specs.{Commands.total_at, Headers.header_at, Requests.{request_at, request_of, work_of}, Writing.header_for}
use Rattle.fis_view.specs.{Built.{IsBuilt, cut, h2d_given}, Table.{H2d, PmPort, places}, declared.build.H2dFields.H2dFields}
use Rattle.slots.specs.{Slots.{Issue, has_bit, issue_at, lowest, owned_by, own_issue, slots_of, holds as issue_holds}, declared.work.Work.Work}
use Rattle.slots.proofs.Door.{none_below}
use Rattle.hba_fbs.specs.{declared.{error.WriteError.WriteError, register.Register.TheVariants.Ci}, Issuing.{aimed, any_beside, any_slot, asked}}
use Rattle.hba_fbs.specs.{Issuing.{commands_with, is_bad, is_beside, is_busy, named_in, names_other}, Registers.own_refusal, Tables.is_readable}
use Rattle.hba_fbs.specs.{Tables.prds_of, Views.{Port, last_command}, Writing.{apart_refusal, commands_after, is_apart, refusal_of, slots_refusal}}
use Rattle.hba_fbs.specs.declared.error.WriteError.TheVariants as refusal
use Rattle.hba_fbs.proofs.Door.{own_at}
use Rattle.hba_laws.specs.{Agreement.{AreHistoriesOf, work_of_issue, work_of_transfer}, Client.{IsKept, Touches, own}, Delivering.issued_below}
use Rattle.hba_laws.specs.{Delivering.{issued_in, touched}, History.{History, Transfer, issued}, Between.{history_below, transfer_of, with_issued}}
use Rattle.hba_laws.specs.Hosts as event
use Rattle.hba_laws.specs.Sound as sound
use Rattle.hba_laws.proofs.Door.{histories_step, other_below, own_app, own_below_is, own_in, some_inj, stands_readable}
use Rattle.hba_driver.specs.{declared.path.Path.Path, Drivers.{Driver, Entry, entry_at}, Effects.table_of, Orders.request_fields, Paths.stage_fields}
use Rattle.hba_driver.specs.{declared.mode.Mode.{Mode, TheVariants.{Switching, CommandBased}}, Modes.is_switching, Served.{AreOfOne, HasItsTable}}
use Rattle.hba_driver.specs.{Served.{HaveCommands, IsBuiltOf, IsFisOf, IsIssueOf, IsServed}, Between.{Asked, From, New}}

-- ---- the command that stands in a slot

-- header, command FIS and PRDs of a command for this device
pub record Standing (slot dev : ℕ) (prds : List Prd) (fields : H2dFields) (memory : Memory) : Type 0 where
  pub header : header_at memory.structure 0 slot ≡ header_for (request_of fields) (table_of slot) (length prds)
  pub to_dev : (request_of fields).pm_port ≡ dev
  pub request_is : request_at (cfis_at memory.structure (table_of slot)) ≡ Some (request_of fields)
  pub cfis : IsBuilt H2d (h2d_given fields) (cfis_at memory.structure (table_of slot))
  pub entries : prds_at memory.structure (table_of slot + 128) (length prds) ≡ prds

-- what is known of such a command once it is issued
pub record Stood (slot : ℕ) (prds : List Prd) (fields : H2dFields) (memory : Memory) (command : Command) : Type 0 where
  pub place : HasItsTable slot command
  pub entries : prds_of memory command ≡ prds
  pub work : command.work ≡ work_of (request_of fields)
  pub cfis : IsBuilt H2d (h2d_given fields) command.cfis
  pub total : total_of prds ≡ command.work.len
  pub apart : have_overlap prds ≡ false

then_some : {A : Type 0} (b : Bool) (o : Option A) (a : A) → (if b then o else None) ≡ Some a → (b ≡ true) × (o ≡ Some a)
then_some true o a h = (refl, h)
then_some false o a h = cc

record Made (fields : H2dFields) (table count : ℕ) (cfis : List ℕ) (command : Command) : Type 0 where
  pub table_is : command.table ≡ table
  pub count_is : command.count ≡ count
  pub work_is : command.work ≡ work_of (request_of fields)
  pub cfis_is : command.cfis ≡ cfis

made : (fields : H2dFields) (table count : ℕ) (cfis : List ℕ) (total : Option ℕ) (slot : ℕ) (armed : Bool) (command : Command)
    → command_in (header_for (request_of fields) table count) cfis (Some (request_of fields)) total slot armed ≡ Some command → Made fields table count cfis command
made fields table count cfis None slot armed command h = cc
made fields table count cfis (Some n) slot armed command h =
    let whole : Command = record { work = work_of (request_of fields); cfis = cfis; table = table; count = count } in
    let it : whole ≡ command = some_inj whole command (then_some (is_proper (header_for (request_of fields) table count) (request_of fields) n slot armed) (Some whole) command h).1 in
    record {
      table_is = sym (ap (λ (c : Command). c.table) it);
      count_is = sym (ap (λ (c : Command). c.count) it);
      work_is = sym (ap (λ (c : Command). c.work) it);
      cfis_is = sym (ap (λ (c : Command). c.cfis) it);
    }

made_under : (memory : Memory) (fields : H2dFields) (table count slot : ℕ) (armed : Bool) (command : Command) → command_under memory (header_for (request_of fields) table count) slot armed ≡ Some command
    → request_at (cfis_at memory.structure table) ≡ Some (request_of fields) → Made fields table count (cfis_at memory.structure table) command
unfolding command_under
made_under memory fields table count slot armed command h is =
    let total : Option ℕ = total_at memory.structure (length memory.client) table count in
    let found = (then_some (has_table (header_for (request_of fields) table count)) _ command h).1 in
    made fields table count (cfis_at memory.structure table) total slot armed command
    (subst (λ o. command_in (header_for (request_of fields) table count) (cfis_at memory.structure table) o total slot armed ≡ Some command) is found)

no_fault : (b : Bool) (f : Option PrdError) (o : Bool) → is_none (if b then Some OutsideStructure else option_or f (if o then Some Overlap else None)) ≡ true → (b ≡ false) × (o ≡ false)
no_fault true f o h = absurd (false≢true h)
no_fault false (Some e) o h = absurd (false≢true h)
no_fault false None true h = absurd (false≢true h)
no_fault false None false h = (refl, refl)

at_most : (n m : ℕ) → nat_lt n m ≡ false → m ≤ n
at_most n m h = grind (arith, nat_tests)

equal_of : (x y : ℕ) → (x == y) ≡ true → x ≡ y
equal_of x y h = grind (arith, nat_tests)

-- a command that can be read has its bytes, and no two of its PRDs share one
record Readable (memory : Memory) (command : Command) : Type 0 where
  pub few : command.count ≤ 248
  pub apart : have_overlap (prds_of memory command) ≡ false
  pub total : total_of (prds_of memory command) ≡ command.work.len

readable : (memory : Memory) (command : Command) → is_readable memory command.work.len command ≡ true → Readable memory command
readable memory command h =
    let parts = and_parts (is_none (read_fault memory.structure (length memory.client) (command.table + 128) command.count)) (total_of (prds_of memory command) == command.work.len) h in
    let none = no_fault (nat_lt (length memory.structure) (command.table + 128 + 16 * command.count) || nat_lt 248 command.count)
    (first_fault memory.structure (length memory.client) (command.table + 128) command.count) (have_overlap (prds_of memory command)) parts.0 in
    record {
      few = at_most 248 command.count (or_parts (nat_lt (length memory.structure) (command.table + 128 + 16 * command.count)) (nat_lt 248 command.count) none.0).1;
      apart = none.1;
      total = equal_of (total_of (prds_of memory command)) command.work.len parts.1;
    }

stood : (slot dev : ℕ) (prds : List Prd) (fields : H2dFields) (memory : Memory) (armed : Bool) (command : Command) → Standing slot dev prds fields memory → command_at memory 0 slot armed ≡ Some command → Stood slot prds fields memory command
stood slot dev prds fields memory armed command s h =
    let under : command_under memory (header_for (request_of fields) (table_of slot) (length prds)) slot armed ≡ Some command = ap (λ x. command_under memory x slot armed) (sym s.header) ∙ h in
    let m : Made fields (table_of slot) (length prds) (cfis_at memory.structure (table_of slot)) command = made_under memory fields (table_of slot) (length prds) slot armed command under s.request_is in
    let r : Readable memory command = readable memory command (stands_readable memory 0 slot armed command h) in
    let here : prds_of memory command ≡ prds =
    ap (λ (k : ℕ). prds_at memory.structure (k + 128) command.count) m.table_is ∙ ap (λ (k : ℕ). prds_at memory.structure (table_of slot + 128) k) m.count_is ∙ s.entries in
    record {
      place = record { table = m.table_is; few = r.few };
      entries = here;
      work = m.work_is;
      cfis = subst (λ (f : List ℕ). IsBuilt H2d (h2d_given fields) f) (sym m.cfis_is) s.cfis;
      total = sym (ap total_of here) ∙ r.total;
      apart = sym (ap have_overlap here) ∙ r.apart;
    }

-- ---- which slots are asked for

pub bit_same : (slot : ℕ) → has_bit (2 ^ slot) slot ≡ true
bit_same slot = ap (λ (k : ℕ). k == 1) (bit_at-pow_same slot)

pub bit_other : (slot s : ℕ) → s ≢ slot → has_bit (2 ^ slot) s ≡ false
bit_other slot s other = ap (λ (k : ℕ). k == 1) (bit_at-pow_other slot s other)

pub asked_is : (port : Port) (memory : Memory) (slot s : ℕ) (command : Command) → asked port.registers memory (2 ^ slot) s ≡ Some command → Asked port memory slot s command
asked_is port memory slot s command h = elim (cases_eq s slot) [
  | inl same ↦
      let at : asked port.registers memory (2 ^ slot) slot ≡ Some command = subst (λ (k : ℕ). asked port.registers memory (2 ^ slot) k ≡ Some command) same h in
      record { slot_is = same; command_is = (then_some (has_bit (2 ^ slot) slot) _ command at).1 }
  | inr other ↦
      let found = then_some (has_bit (2 ^ slot) s) (command_at memory port.registers.clb s (has_bit port.registers.armed s)) command h in
      absurd (false≢true (sym (bit_other slot s other) ∙ found.0))
]

-- ---- whom the command is for

own_when : (started test busy apart : Bool) (e f : WriteError) (o : Option WriteError) → started ≡ true
    → option_or (if not started && test then Some refusal.Stopped else None) (if started then (if busy then Some e else if apart then Some f else o) else None) ≡ None → apart ≡ false
own_when true test true foreign e f o run h = cc
own_when true test false true e f o run h = cc
own_when true test false false e f o run h = refl
own_when false test busy apart e f o run h = absurd (false≢true run)

started_when : (started is_zero : Bool) (o : Option WriteError) → is_zero ≡ false → option_or (if not started && not is_zero then Some refusal.Stopped else None) o ≡ None → started ≡ true
started_when true is_zero o some h = refl
started_when false true o some h = absurd (true≢false some)
started_when false false o some h = cc

not_zero : (slot : ℕ) → (2 ^ slot == 0) ≡ false
not_zero slot = elim (cases_Bool (2 ^ slot == 0)) [
  | inl is ↦ absurd (true≢false (sym (bit_same slot) ∙ ap (λ (v : ℕ). has_bit v slot) (equal_of (2 ^ slot) 0 is) ∙ ap (λ (k : ℕ). k == 1) (bit_at-zero slot)))
  | inr more ↦ more
]

apart_none : (port : Port) (memory : Memory) (value : ℕ) → (value == 0) ≡ false → refusal_of Ci port memory value ≡ None → is_apart port memory value ≡ false
unfolding own_refusal slots_refusal
apart_none port memory value more h =
    let run : port.registers.started ≡ true = started_when port.registers.started (value == 0) (slots_refusal Ci port memory value) more h in
    own_when port.registers.started (not (value == 0)) (any_slot value (is_busy port.slots)) (is_apart port memory value) refusal.SlotBusy (apart_refusal port.registers)
    (if any_slot value (is_bad port.registers memory) then Some refusal.BadTable else None) run h

pub not_some : (o : Option ℕ) → is_some o ≡ false → o ≡ None
not_some None h = refl
not_some (Some k) h = absurd (true≢false h)

not_not : (a b : Bool) → a ≡ true → (a && not b) ≡ false → b ≡ true
not_not true true h k = refl
not_not true false h k = absurd (true≢false k)
not_not false b h k = absurd (false≢true h)

-- nothing is issued in the slot
busy_when : (started test busy apart : Bool) (e f : WriteError) (o : Option WriteError) → started ≡ true
    → option_or (if not started && test then Some refusal.Stopped else None) (if started then (if busy then Some e else if apart then Some f else o) else None) ≡ None → busy ≡ false
busy_when true test true apart e f o run h = cc
busy_when true test false apart e f o run h = refl
busy_when false test busy apart e f o run h = absurd (false≢true run)

busy_none : (port : Port) (memory : Memory) (slot : ℕ) → refusal_of Ci port memory (2 ^ slot) ≡ None → any_slot (2 ^ slot) (is_busy port.slots) ≡ false
unfolding own_refusal slots_refusal
busy_none port memory slot h =
    let run : port.registers.started ≡ true = started_when port.registers.started (2 ^ slot == 0) (slots_refusal Ci port memory (2 ^ slot)) (not_zero slot) h in
    busy_when port.registers.started (not (2 ^ slot == 0)) (any_slot (2 ^ slot) (is_busy port.slots)) (is_apart port memory (2 ^ slot)) refusal.SlotBusy (apart_refusal port.registers)
    (if any_slot (2 ^ slot) (is_bad port.registers memory) then Some refusal.BadTable else None) run h

not_there : (a b : Bool) → a ≡ true → (a && b) ≡ false → b ≡ false
not_there true b h k = k
not_there false b h k = absurd (false≢true h)

idle : (port : Port) (memory : Memory) (slot : ℕ) → slot < 32 → refusal_of Ci port memory (2 ^ slot) ≡ None → is_some (issue_at port.slots slot) ≡ false
idle port memory slot below h =
    let calm : (has_bit (2 ^ slot) slot && is_busy port.slots slot) ≡ false =
    none_below (λ k. has_bit (2 ^ slot) k && is_busy port.slots k) 32 (not_some (lowest (λ k. has_bit (2 ^ slot) k && is_busy port.slots k)) (busy_none port memory slot h)) slot below in
    not_there (has_bit (2 ^ slot) slot) (is_busy port.slots slot) (bit_same slot) calm

-- the command in the slot can be read
bad_when : (started test busy apart bad : Bool) (e f g : WriteError) → started ≡ true
    → option_or (if not started && test then Some refusal.Stopped else None) (if started then (if busy then Some e else if apart then Some f else if bad then Some g else None) else None) ≡ None → bad ≡ false
bad_when true test true apart bad e f g run h = cc
bad_when true test false true bad e f g run h = cc
bad_when true test false false true e f g run h = cc
bad_when true test false false false e f g run h = refl
bad_when false test busy apart bad e f g run h = absurd (false≢true run)

bad_none : (port : Port) (memory : Memory) (slot : ℕ) → refusal_of Ci port memory (2 ^ slot) ≡ None → any_slot (2 ^ slot) (is_bad port.registers memory) ≡ false
unfolding own_refusal slots_refusal
bad_none port memory slot h =
    let run : port.registers.started ≡ true = started_when port.registers.started (2 ^ slot == 0) (slots_refusal Ci port memory (2 ^ slot)) (not_zero slot) h in
    bad_when port.registers.started (not (2 ^ slot == 0)) (any_slot (2 ^ slot) (is_busy port.slots)) (is_apart port memory (2 ^ slot)) (any_slot (2 ^ slot) (is_bad port.registers memory))
    refusal.SlotBusy (apart_refusal port.registers) refusal.BadTable run h

some_not : {A : Type 0} (o : Option A) → is_none o ≡ false → is_some o ≡ true
some_not None h = absurd (true≢false h)
some_not (Some x) h = refl

pub asks_here : (port : Port) (memory : Memory) (slot : ℕ) → slot < 32 → refusal_of Ci port memory (2 ^ slot) ≡ None → is_some (asked port.registers memory (2 ^ slot) slot) ≡ true
asks_here port memory slot below h =
    let calm : (has_bit (2 ^ slot) slot && is_bad port.registers memory slot) ≡ false =
    none_below (λ k. has_bit (2 ^ slot) k && is_bad port.registers memory k) 32 (not_some (lowest (λ k. has_bit (2 ^ slot) k && is_bad port.registers memory k)) (bad_none port memory slot h)) slot below in
    let there : is_some (command_at memory port.registers.clb slot (has_bit port.registers.armed slot)) ≡ true =
    some_not (command_at memory port.registers.clb slot (has_bit port.registers.armed slot)) (not_there (has_bit (2 ^ slot) slot) (is_bad port.registers memory slot) (bit_same slot) calm) in
    ap (λ (b : Bool). is_some (if b then command_at memory port.registers.clb slot (has_bit port.registers.armed slot) else None)) (bit_same slot) ∙ there

-- what the history of a device issues is issued at the port
told_there : (a : event.Host) (past : Touches) → AreHistoriesOf a past → (n s : ℕ) (t : Transfer) → n < 16 → issued s (own n past) ≡ Some t → is_some (issue_at a.port.slots s) ≡ true
told_there a past told n s t below here = by_issue (own_issue (slots_of n a.port.slots) s) refl
  where
    by_issue : (o : Option Issue) → own_issue (slots_of n a.port.slots) s ≡ o → is_some (issue_at a.port.slots s) ≡ true
    by_issue None e =
        let bad : Some t.work ≡ None = sym (ap (option_map work_of_transfer) here) ∙ (told n below).issued s ∙ ap (option_map work_of_issue) e in cc
    by_issue (Some i) e = ap is_some (own_in n s a.port.slots i e).1

-- the PM Port of a built FIS
low_bits : (port : ℕ) → cut (places H2d PmPort) port ≡ port % 16
unfolding cut places
low_bits port = omega arith

-- the header of a slot to issue names the device at which the write is aimed
pub aimed_is : (port : Port) (memory : Memory) (value s : ℕ) → (value == 0) ≡ false → refusal_of Ci port memory value ≡ None → s < 32 → has_bit value s ≡ true
    → named_in port.registers memory.structure s ≡ aimed port.registers memory.structure value
aimed_is port memory value s more h below bit =
    let dev : ℕ = aimed port.registers memory.structure value in
    let other : ℕ → Bool = names_other port.registers memory.structure dev in
    let none : any_slot value other ≡ false =
    (or_parts (not port.registers.switching && not (value == 0) && any_beside port.slots dev) (any_slot value other) (apart_none port memory value more h)).1 in
    let calm : (has_bit value s && other s) ≡ false = none_below (λ k. has_bit value k && other k) 32 (not_some (lowest (λ k. has_bit value k && other k)) none) s below in
    equal_of (named_in port.registers memory.structure s) dev (not_not (has_bit value s) _ bit calm)

-- ---- what is issued after it

below_case : (memory : Memory) (commands : ℕ → Option Command) (h later : History) (m s : ℕ) (t : Transfer) → (issued s later ≡ Some t → New memory commands s t ⊎ (issued s h ≡ Some t)) → (o : Option Command) → commands m ≡ o
    → issued s (with_issued memory m o later) ≡ Some t → New memory commands s t ⊎ (issued s h ≡ Some t)
below_case memory commands h later m s t rest None here e = rest e
below_case memory commands h later m s t rest (Some command) here e = by_test (eqb m s) refl e
  where
    by_test : (b : Bool) → eqb m s ≡ b → cond b (Some (transfer_of memory command)) (issued s later) ≡ Some t → New memory commands s t ⊎ (issued s h ≡ Some t)
    by_test true is e = inl (command, ap commands (sym (eqb-true m s is)) ∙ here, some_inj (transfer_of memory command) t e)
    by_test false is e = rest e

below_cases : (memory : Memory) (commands : ℕ → Option Command) (h : History) (m s : ℕ) (t : Transfer) → issued s (history_below memory commands h m) ≡ Some t → New memory commands s t ⊎ (issued s h ≡ Some t)
below_cases memory commands h zero s t e = inr e
below_cases memory commands h (suc m) s t e = below_case memory commands h (history_below memory commands h m) m s t (below_cases memory commands h m s t) (commands m) refl e

-- in the history of one device
pub issued_cases : (dev n : ℕ) (memory : Memory) (commands : ℕ → Option Command) (past : Touches) (s : ℕ) (t : Transfer) → issued s (own n (issued_below dev memory commands 32 ++ past)) ≡ Some t
    → ((dev ≡ n) × New memory commands s t) ⊎ (issued s (own n past) ≡ Some t)
issued_cases dev n memory commands past s t at = elim (cases_eq dev n) [
  | inl same ↦
      let there : issued s (history_below memory commands (own n past) 32) ≡ Some t =
      sym (ap (issued s) (own_app n (issued_below dev memory commands 32) past
      ∙ ap (λ (d : ℕ). own n (issued_below d memory commands 32) ++ own n past) same ∙ own_below_is n memory commands (own n past) 32)) ∙ at in
      elim (below_cases memory commands (own n past) 32 s t there) [ inl fresh ↦ inl (same, fresh) | inr old ↦ inr old ]
  | inr other ↦
      inr (sym (ap (issued s) (own_app n (issued_below dev memory commands 32) past
      ∙ ap (λ h. h ++ own n past) (other_below n dev memory commands 32 other))) ∙ at)
]

-- ---- and what is kept

kept_in : (dev slot : ℕ) (memory : Memory) (o : Option Command) (rest past : Touches) → IsKept (rest ++ past) → IsKept ((issued_in dev memory slot o ++ rest) ++ past)
kept_in dev slot memory None rest past k = k
kept_in dev slot memory (Some command) rest past k = k

pub kept_below : (dev : ℕ) (memory : Memory) (commands : ℕ → Option Command) (past : Touches) (m : ℕ) → IsKept past → IsKept (issued_below dev memory commands m ++ past)
unfolding issued_below
kept_below dev memory commands past zero k = k
kept_below dev memory commands past (suc m) k = kept_in dev m memory (commands m) (issued_below dev memory commands m) past (kept_below dev memory commands past m k)

-- ---- the write

-- the last commands of the slots after it
command_then : (commands : ℕ → Option Command) (s : ℕ) (old : List (Option Command)) (command : Command) → last_command (commands_with commands old) s ≡ Some command → option_or (commands s) (last_command old s) ≡ Some command
unfolding commands_with
command_then commands s old command last = elim (cases_lt s (length old)) [
  | inl lt ↦ sym (get_or-map-range_with_len (λ slot. option_or (commands slot) (last_command old slot)) 0 (length old) s s None lt (omega arith)) ∙ last
  | inr ge ↦
      let long = length-map-range_with_len (λ slot. option_or (commands slot) (last_command old slot)) 0 (length old) in
      let none : None ≡ Some command = sym (get_or_past (commands_with commands old) s None (omega (arith, long, ge))) ∙ last in cc
]

or_cases : {A : Type 0} (o p : Option A) (a : A) → option_or o p ≡ Some a → (o ≡ Some a) ⊎ (p ≡ Some a)
or_cases None p a h = inr h
or_cases (Some x) p a h = inl h

-- the fields are those of the request in the slot, or of the path that has slot 30
pub record AreFields (d : Driver) (slot : ℕ) (fields : H2dFields) : Type 0 where
  pub of_request : (e : Entry) → slot < 30 → entry_at d.entries slot ≡ Some e → request_fields slot e.head ≡ fields
  pub of_step : (path : Path) (given : H2dFields) → slot ≡ 30 → d.plan.path ≡ Some path → path.asked ≡ true → stage_fields path.dev path.stage ≡ Some given → given ≡ fields

-- the command in the slot may be issued
pub record MayIssue (d : Driver) (slot dev : ℕ) (prds : List Prd) (fields : H2dFields) : Type 0 where
  pub from : (t : Transfer) → t.table ≡ prds → t.work ≡ work_of (request_of fields) → From d dev slot t
  pub are : AreFields d slot fields

pmp_is : (structure : List ℕ) (clb slot table count dev : ℕ) (fields : H2dFields) → clb ≡ 0 → header_at structure 0 slot ≡ header_for (request_of fields) table count → (request_of fields).pm_port ≡ dev
    → (header_at structure clb slot).pmp ≡ dev
pmp_is structure clb slot table count dev fields list h to = rw (list, h) to

-- what is a device's names it
owned_dev : (n : ℕ) (o : Option Issue) (i : Issue) → owned_by n o ≡ Some i → i.dev ≡ n
owned_dev n None i e = cc
owned_dev n (Some x) i e = by_test (x.dev == n) refl e
  where
    by_test : (b : Bool) → (x.dev == n) ≡ b → (if b then Some x else None) ≡ Some i → i.dev ≡ n
    by_test true is e = ap (λ (y : Issue). y.dev) (sym (some_inj x i e)) ∙ equal_of x.dev n is
    by_test false is e = cc

-- an issue of the driver's is in a slot of the port
pub slot_of_issue : (d : Driver) (n s : ℕ) (t : Transfer) → From d n s t → s < 32
slot_of_issue d n s t (inl r) = omega (arith, r.slot)
slot_of_issue d n s t (inr (inl i)) = omega (arith, i.slot)
slot_of_issue d n s t (inr (inr o)) = omega (arith, o.slot)

-- with command-based switching a write that is not refused issues beside no other device
beside_none : (on empty beside : Bool) → on ≡ false → empty ≡ false → (not on && not empty && beside) ≡ false → beside ≡ false
beside_none true empty beside off some h = absurd (true≢false off)
beside_none false true beside off some h = absurd (true≢false some)
beside_none false false beside off some h = h

module _ (d : Driver) (a b : event.Host) (past : Touches) (slot dev : ℕ) (prds : List Prd) (fields : H2dFields) (below : slot < 32) (dev_below : dev < 16) (host : sound.IsHost a)
    (list : a.port.registers.clb ≡ 0) (switches : a.port.registers.switching ≡ is_switching d.plan.mode) (stands : Standing slot dev prds fields a.memory) (may : MayIssue d slot dev prds fields) (does : event.Does a (event.Wrote Ci (2 ^ slot)) b) (served : IsServed d a past) where
  found : (s : ℕ) (command : Command) → asked a.port.registers a.memory (2 ^ slot) s ≡ Some command → (s ≡ slot) × Stood slot prds fields a.memory command
  found s command h =
      let is = asked_is a.port a.memory slot s command h in (
        is.slot_is,
        stood slot dev prds fields a.memory (has_bit a.port.registers.armed slot) command stands
            (subst (λ (k : ℕ). command_at a.memory k slot (has_bit a.port.registers.armed slot) ≡ Some command) list is.command_is),
      )

  for_dev : aimed a.port.registers a.memory.structure (2 ^ slot) ≡ dev
  for_dev =
      sym (aimed_is a.port a.memory (2 ^ slot) slot (not_zero slot) does.0 below (bit_same slot))
      ∙ pmp_is a.memory.structure a.port.registers.clb slot (table_of slot) (length prds) dev fields list stands.header stands.to_dev

  fresh : (n s : ℕ) (t : Transfer) → aimed a.port.registers a.memory.structure (2 ^ slot) ≡ n → New a.memory (asked a.port.registers a.memory (2 ^ slot)) s t → IsIssueOf d n s t
  fresh n s t aims new =
      let it = found s new.0 new.1 in
      let is_dev : dev ≡ n = sym for_dev ∙ aims in
      let table : t.table ≡ prds = sym (ap (λ (x : Transfer). x.table) new.2) ∙ it.1.entries in
      let work : t.work ≡ new.0.work = sym (ap (λ (x : Transfer). x.work) new.2) in
      let from : From d dev slot t = may.from t table (work ∙ it.1.work) in
      record {
        dev = subst (λ (k : ℕ). k < 16) is_dev dev_below;
        from = subst (λ (k : ℕ). From d n k t) (sym it.0) (subst (λ (k : ℕ). From d k slot t) is_dev from);
        total = ap total_of table ∙ it.1.total ∙ sym (ap (λ (w : Work). w.len) work);
        apart = ap have_overlap table ∙ it.1.apart;
      }

  issues_then : (n s : ℕ) (t : Transfer) → issued s (own n (touched a (event.Wrote Ci (2 ^ slot)) ++ past)) ≡ Some t → IsIssueOf d n s t
  issues_then n s t at = elim (issued_cases (aimed a.port.registers a.memory.structure (2 ^ slot)) n a.memory (asked a.port.registers a.memory (2 ^ slot)) past s t at) [
    | inl new ↦ fresh n s t new.0 new.1
    | inr old ↦ served.issues n s t old
  ]

  -- what is asked for is not issued yet
  not_yet : (n s : ℕ) (t : Transfer) (command : Command) → issued s (own n past) ≡ Some t → asked a.port.registers a.memory (2 ^ slot) s ≡ Some command → ⊥
  not_yet n s t command old new =
      let it = found s command new in
      let busy : is_some (issue_at a.port.slots slot) ≡ true = subst (λ (k : ℕ). is_some (issue_at a.port.slots k) ≡ true) it.0 (told_there a past served.told n s t (served.issues n s t old).dev old) in
      false≢true (sym (idle a.port a.memory slot below does.0) ∙ busy)

  -- the command in the slot is that of its fields
  fis_fresh : (n s : ℕ) (t : Transfer) (command : Command) → aimed a.port.registers a.memory.structure (2 ^ slot) ≡ n → asked a.port.registers a.memory (2 ^ slot) s ≡ Some command → transfer_of a.memory command ≡ t → IsFisOf d n s t command
  fis_fresh n s t command aims new is =
      let it = found s command new in
      let work : t.work ≡ work_of (request_of fields) = sym (ap (λ (x : Transfer). x.work) is) ∙ it.1.work in
      let built : IsBuiltOf fields t command = record { cfis = it.1.cfis; work = work } in
      record {
        to_dev = it.1.cfis.fields PmPort ∙ low_bits fields.pm_port ∙ stands.to_dev ∙ sym for_dev ∙ aims;
        of_request = λ e low here.
            let same : request_fields slot e.head ≡ fields = may.are.of_request e (subst (λ (k : ℕ). k < 30) it.0 low) (subst (λ (k : ℕ). entry_at d.entries k ≡ Some e) it.0 here) in
            subst (λ (k : ℕ). IsBuiltOf (request_fields k e.head) t command) (sym it.0) (subst (λ (f : H2dFields). IsBuiltOf f t command) (sym same) built);
        of_step = λ path given at_step here out given_is.
            let same : given ≡ fields = may.are.of_step path given (sym it.0 ∙ at_step) here out given_is in
            subst (λ (f : H2dFields). IsBuiltOf f t command) (sym same) built;
      }

  later_of : (s : ℕ) (command : Command) → last_command b.port.commands s ≡ Some command → option_or (asked a.port.registers a.memory (2 ^ slot) s) (last_command a.port.commands s) ≡ Some command
  unfolding commands_after
  later_of s command is =
      let later : last_command (commands_with (asked a.port.registers a.memory (2 ^ slot)) a.port.commands) s ≡ Some command = sym (ap (λ c. last_command c s) does.1.commands) ∙ is in
      command_then (asked a.port.registers a.memory (2 ^ slot)) s a.port.commands command later

  fises_then : (n s : ℕ) (t : Transfer) (command : Command) → issued s (own n (touched a (event.Wrote Ci (2 ^ slot)) ++ past)) ≡ Some t → last_command b.port.commands s ≡ Some command → IsFisOf d n s t command
  fises_then n s t command at is = elim (issued_cases (aimed a.port.registers a.memory.structure (2 ^ slot)) n a.memory (asked a.port.registers a.memory (2 ^ slot)) past s t at) [
    | inl new ↦
        let same : new.1.0 ≡ command = some_inj new.1.0 command (sym (ap (λ o. option_or o (last_command a.port.commands s)) new.1.1) ∙ later_of s command is) in
        subst (λ (c : Command). IsFisOf d n s t c) same (fis_fresh n s t new.1.0 new.0 new.1.1 new.1.2)
    | inr old ↦ elim (or_cases (asked a.port.registers a.memory (2 ^ slot) s) (last_command a.port.commands s) command (later_of s command is)) [
      | inl new ↦ absurd (not_yet n s t command old new)
      | inr last ↦ served.fises n s t command old last
    ]
  ]

  tables_then : (s : ℕ) (command : Command) → last_command b.port.commands s ≡ Some command → HasItsTable s command
  unfolding commands_after
  tables_then s command is =
      let later : last_command (commands_with (asked a.port.registers a.memory (2 ^ slot)) a.port.commands) s ≡ Some command = sym (ap (λ c. last_command c s) does.1.commands) ∙ is in
      elim (or_cases (asked a.port.registers a.memory (2 ^ slot) s) (last_command a.port.commands s) command (command_then (asked a.port.registers a.memory (2 ^ slot)) s a.port.commands command later)) [
        | inl new ↦ let it = found s command new in subst (λ (k : ℕ). HasItsTable k command) (sym it.0) it.1.place
        | inr old ↦ served.tables s command old
      ]

  -- what is issued already is the device's
  alone : d.plan.mode ≡ CommandBased → (n s : ℕ) (t : Transfer) → issued s (own n past) ≡ Some t → n ≡ dev
  alone is n s t here =
      let parts = or_parts (not a.port.registers.switching && not (2 ^ slot == 0) && any_beside a.port.slots (aimed a.port.registers a.memory.structure (2 ^ slot)))
      (any_slot (2 ^ slot) (names_other a.port.registers a.memory.structure (aimed a.port.registers a.memory.structure (2 ^ slot)))) (apart_none a.port a.memory (2 ^ slot) (not_zero slot) does.0) in
      let none : any_beside a.port.slots (aimed a.port.registers a.memory.structure (2 ^ slot)) ≡ false =
      beside_none a.port.registers.switching (2 ^ slot == 0) (any_beside a.port.slots (aimed a.port.registers a.memory.structure (2 ^ slot))) (switches ∙ ap is_switching is) (not_zero slot) parts.0 in
      by_issue (own_issue (slots_of n a.port.slots) s) refl none
    where
      by_issue : (o : Option Issue) → own_issue (slots_of n a.port.slots) s ≡ o → any_beside a.port.slots (aimed a.port.registers a.memory.structure (2 ^ slot)) ≡ false → n ≡ dev
      by_issue None e none =
          let bad : Some t.work ≡ None = sym (ap (option_map work_of_transfer) here) ∙ (served.told n (served.issues n s t here).dev).issued s ∙ ap (option_map work_of_issue) e in cc
      by_issue (Some i) e none =
          let at : issue_at a.port.slots s ≡ Some i = (own_in n s a.port.slots i e).1 in
          let of_dev : i.dev ≡ n = owned_dev n (issue_at a.port.slots s) i (sym (own_at n a.port.slots s) ∙ e) in
          let below : s < 32 = slot_of_issue d n s t (served.issues n s t here).from in
          let test : is_beside a.port.slots (aimed a.port.registers a.memory.structure (2 ^ slot)) s ≡ false =
          none_below (is_beside a.port.slots (aimed a.port.registers a.memory.structure (2 ^ slot))) 32 (not_some (lowest (is_beside a.port.slots (aimed a.port.registers a.memory.structure (2 ^ slot)))) none) s below in
          let same : i.dev ≡ aimed a.port.registers a.memory.structure (2 ^ slot) =
          equal_of i.dev (aimed a.port.registers a.memory.structure (2 ^ slot)) (not_not true (i.dev == aimed a.port.registers a.memory.structure (2 ^ slot)) refl (sym (ap (issue_holds (λ issue. not (issue.dev == aimed a.port.registers a.memory.structure (2 ^ slot)))) at) ∙ test)) in
          sym of_dev ∙ same ∙ for_dev

  owner : d.plan.mode ≡ CommandBased → (n s : ℕ) (t : Transfer) → issued s (own n (touched a (event.Wrote Ci (2 ^ slot)) ++ past)) ≡ Some t → n ≡ dev
  owner is n s t at = elim (issued_cases (aimed a.port.registers a.memory.structure (2 ^ slot)) n a.memory (asked a.port.registers a.memory (2 ^ slot)) past s t at) [
    | inl new ↦ sym new.0 ∙ for_dev
    | inr old ↦ alone is n s t old
  ]

  one_in : (mode : Mode) → d.plan.mode ≡ mode → AreOfOne mode (touched a (event.Wrote Ci (2 ^ slot)) ++ past)
  one_in Switching is = tt
  one_in CommandBased is = λ n m s r t u here there. owner is n s t here ∙ sym (owner is m r u there)

  pub ci_served : IsServed d b (touched a (event.Wrote Ci (2 ^ slot)) ++ past)
  ci_served = record {
    told = histories_step a host past served.told (event.Wrote Ci (2 ^ slot)) b tt does;
    bounded = served.bounded;
    commands = subst (HaveCommands d) (sym does.2) served.commands;
    issues = issues_then;
    fises = fises_then;
    one = one_in d.plan.mode refl;
    tables = tables_then;
  }
