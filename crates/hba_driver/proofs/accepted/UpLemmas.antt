-- For `writes_are_accepted`. The port is open: it takes the writes with which the driver issues a command, and the
-- command is issued.
use Rattle.std.proofs.Common.{◌≡◌, ℕ, ◌+◌, ◌-◌, ◌*◌, ◌/◌, ◌^◌, ◌<◌, ◌≤◌, Bool, true, false, cond, ◌&&◌, nat_le, bit_or, w32, List, length, refl, sym}
use Rattle.std.proofs.{Common.{◌∙◌, ap, subst, inl, inr, arith, Option, Some, None, [], ◌∷◌}, lemmas.Bool.{and_parts, cases_eq, cases_lt, false≢true}}
use Rattle.std.proofs.lemmas.{Bool.{lt-ltb, true≢false, Decides.nat_tests}, List.get_or_past, Nat.{and_comm, pow_below, Bits.and_pow}}
use Rattle.std.proofs.lemmas.Nat.Bits.{bit_at-pow_same, bit_at-zero, bit_at_lowest, bit_at_not}
use Rattle.std.specs.{Prelude.{MatchOption, if◌then◌else◌, ◌==◌, ◌%◌, not, is_none, is_some, ◌||◌}, Bool.beq, Int.{bit_at, Bits.and_zero_l}}
use Rattle.std.specs.{Int.Bits.or_zero_l, Option.option_or}
use Rattle.fis_view.specs.declared.build.H2dFields.{H2dFields}
use Rattle.host_memory.specs.{Memory.Memory, Place.total_of, declared.table.Prd.Prd}
use Rattle.hba_commands.specs.{declared.command.Command.Command, Commands.{cfis_at, command_at, command_in, command_under, has_table, is_proper}}
use Rattle.hba_commands.specs.{Commands.total_at, Headers.header_at, Requests.{request_at, request_of, work_of}, Writing.header_for}
use Rattle.slots.specs.{Slots.{holds as issue_holds, Issue, Slots, has_bit, issue_at, lowest, new_issue, own_issue, slots_of}, Table.IsIssue}
use Rattle.slots.specs.Table.{IsTable}
use Rattle.slots.proofs.Door.{lowest_is}
use Rattle.hba_fbs.specs.declared.{error.WriteError.WriteError, register.Register.TheVariants.{Sact, Ci, Sntf, Fbs}, registers.Registers.Registers}
use Rattle.hba_fbs.specs.{Bits.without, Issuing.{aimed, any_beside, any_slot, asked, is_bad, is_beside, is_busy, issue_with, named_in, names_other}}
use Rattle.hba_fbs.specs.{Issuing.view_issued, Offsets.register_at, Registers.{own_refusal, running_if, written}, Views.{DeviceView, Port, view_of}}
use Rattle.hba_fbs.specs.Writing.{Accepts, apart_refusal, is_apart, refusal_of, slots_refusal, view_after, view_cleared, write_refusal}
use Rattle.hba_fbs.specs.declared.error.WriteError.TheVariants as refusal
use Rattle.hba_fbs.proofs.Door.{aimed_chosen, aimed_first}
use Rattle.port_errors.specs.Errors.{cleared_device}
use Rattle.hba_laws.proofs.Door.{is_own, own_here, own_in, own_issued}
use Rattle.hba_driver.specs.{declared.{effect.Effect.Effect, mode.Mode.{Mode, TheVariants.{Switching, CommandBased}}}, Accepted.AreAccepted}
use Rattle.hba_driver.specs.{Effects.{Acts, ActsAll, issuing, table_of}, Modes.is_switching, Sights.{px_ci, px_fbs, px_sact, px_sntf}}
use Rattle.hba_driver.specs.Between.{IsIssuedAt, IsUpIn}
use Rattle.hba_driver.specs.declared.effect.Effect.TheVariants as effect
use Rattle.hba_driver.proofs.{events.{DrivenLemmas.{no_dec, refusal_is}, OpenLemmas.taken}, issued.IssuingLemmas.{bit_other, bit_same}}

-- ---- small facts

equal_is : (x y : ℕ) → x ≡ y → (x == y) ≡ true
equal_is x y h = grind (arith, nat_tests)

most_is : (x y : ℕ) → x ≤ y → nat_le x y ≡ true
most_is x y h = grind (arith, nat_tests)

all_of : (a b c : Bool) → a ≡ true → b ≡ true → c ≡ true → (a && b && c) ≡ true
all_of true true c h k l = l
all_of true false c h k l = absurd (false≢true k)
all_of false b c h k l = absurd (false≢true h)

-- 256 dev + 1 has bit 0, EN, and dev in DEV
bit_first : (dev : ℕ) → has_bit (256 * dev + 1) 0 ≡ true
bit_first dev = ap (λ (k : ℕ). k == 1) (bit_at_lowest (256 * dev + 1) ∙ odd dev)
  where
    odd : (d : ℕ) → (256 * d + 1) % 2 ≡ 1
    odd d = omega arith

in_dev : (dev : ℕ) → dev < 16 → (256 * dev + 1) / 256 % 16 ≡ dev
in_dev dev below = omega (arith, below)

-- a set of one slot
any_none : (slot : ℕ) (test : ℕ → Bool) → test slot ≡ false → any_slot (2 ^ slot) test ≡ false
any_none slot test h = by_low (lowest (λ k. has_bit (2 ^ slot) k && test k)) refl
  where
    by_low : (o : Option ℕ) → lowest (λ k. has_bit (2 ^ slot) k && test k) ≡ o → is_some (lowest (λ k. has_bit (2 ^ slot) k && test k)) ≡ false
    by_low None is = ap is_some is
    by_low (Some k) is =
        let parts = and_parts (has_bit (2 ^ slot) k) (test k) (lowest_is (λ j. has_bit (2 ^ slot) j && test j) 32 k is).passes in
        absurd (elim (cases_eq k slot) [
          | inl same ↦ false≢true (sym h ∙ ap test (sym same) ∙ parts.1)
          | inr other ↦ false≢true (sym (bit_other slot k other) ∙ parts.0)
        ])

no_bits : (slot : ℕ) → without 0 (2 ^ slot) ≡ 0
no_bits slot = and_zero_l (4294967295 - 2 ^ slot)

own_bits : (slot : ℕ) → slot < 32 → without (2 ^ slot) (2 ^ slot) ≡ 0
own_bits slot below =
    let less : 2 ^ slot < 2 ^ 32 = pow_below slot 32 below in
    let bit : bit_at (4294967295 - 2 ^ slot) slot ≡ 0 = bit_at_not w32 (2 ^ slot) slot less below ∙ ap (λ (b : ℕ). 1 - b) (bit_at-pow_same slot) in
    and_comm (2 ^ slot) (4294967295 - 2 ^ slot) ∙ and_pow (4294967295 - 2 ^ slot) slot ∙ ap (λ (b : ℕ). b * 2 ^ slot) bit ∙ none (2 ^ slot)
  where
    none : (n : ℕ) → 0 * n ≡ 0
    none n = omega arith

-- ---- the command in a slot

-- a command for this device: header, command FIS and PRDs, which are proper with this bit of the slot in
-- PxSACT
pub record Placed (slot dev : ℕ) (prds : List Prd) (fields : H2dFields) (armed : Bool) (memory : Memory) : Type 0 where
  pub header : header_at memory.structure 0 slot ≡ header_for (request_of fields) (table_of slot) (length prds)
  pub to_dev : (request_of fields).pm_port ≡ dev
  pub request_is : request_at (cfis_at memory.structure (table_of slot)) ≡ Some (request_of fields)
  pub total : total_at memory.structure (length memory.client) (table_of slot) (length prds) ≡ Some (total_of prds)
  pub few : length prds ≤ 248
  pub proper : is_proper (header_for (request_of fields) (table_of slot) (length prds)) (request_of fields) (total_of prds) slot armed ≡ true

abbrev pub command_placed : (slot : ℕ) → List Prd → H2dFields → Memory → Command
command_placed slot prds fields memory =
    record { work = work_of (request_of fields); cfis = cfis_at memory.structure (table_of slot); table = table_of slot; count = length prds }

table_there : (slot n : ℕ) → slot < 32 → n ≤ 248 → ((0 == 0) && ((8192 + 4096 * slot) % 128 == 0) && nat_le (8192 + 4096 * slot + 128 + 16 * n) 1048576) ≡ true
table_there slot n below few =
    all_of (0 == 0) ((8192 + 4096 * slot) % 128 == 0) (nat_le (8192 + 4096 * slot + 128 + 16 * n) 1048576) refl (equal_is ((8192 + 4096 * slot) % 128) 0 (omega arith))
    (most_is (8192 + 4096 * slot + 128 + 16 * n) 1048576 (omega (arith, below, few)))

then_is : (b : Bool) (o : Option Command) → b ≡ true → (if b then o else None) ≡ o
then_is true o h = refl
then_is false o h = absurd (false≢true h)

pub command_is : (slot dev : ℕ) (prds : List Prd) (fields : H2dFields) (armed : Bool) (memory : Memory) → slot < 32 → Placed slot dev prds fields armed memory
    → command_at memory 0 slot armed ≡ Some (command_placed slot prds fields memory)
unfolding command_under
command_is slot dev prds fields armed memory below p =
    let h = header_for (request_of fields) (table_of slot) (length prds) in
    let cfis : List ℕ = cfis_at memory.structure (table_of slot) in
    let total : Option ℕ = total_at memory.structure (length memory.client) (table_of slot) (length prds) in
    let whole : Option Command = Some (command_placed slot prds fields memory) in
    ap (λ x. command_under memory x slot armed) p.header
    ∙ then_is (has_table h) (command_in h cfis (request_at cfis) total slot armed) (table_there slot (length prds) below p.few)
    ∙ ap (λ o. command_in h cfis o total slot armed) p.request_is ∙ ap (λ (t : Option ℕ). command_in h cfis (Some (request_of fields)) t slot armed) p.total
    ∙ then_is (is_proper h (request_of fields) (total_of prds) slot armed) whole p.proper

-- ---- what is issued stays issued

in_table : (port : Port) (s : ℕ) (i : Issue) → issue_at port.slots s ≡ Some i → s < length port.slots.issues
in_table port s i at = elim (cases_lt s (length port.slots.issues)) [
  | inl less ↦ less
  | inr past ↦ let none : None ≡ Some i = sym (get_or_past port.slots.issues s None past) ∙ at in cc
]

-- if no device has a new issue in it, a free slot stays free
pub free_by : (old new : Port) (s : ℕ) → IsTable new.slots → ((n : ℕ) (i : Issue) → n < 16 → IsIssuedAt new n s i → IsIssuedAt old n s i) → issue_at old.slots s ≡ None → issue_at new.slots s ≡ None
free_by old new s table was free = by_issue (issue_at new.slots s) refl
  where
    by_issue : (o : Option Issue) → issue_at new.slots s ≡ o → issue_at new.slots s ≡ None
    by_issue None is = is
    by_issue (Some i) is =
        let rules : IsIssue i = subst (λ (o : Option Issue). MatchOption o (Unit {0}) IsIssue) is (table.issues s) in
        let here : IsIssuedAt old i.dev s i = was i.dev i rules.dev_below (own_here s new.slots i (in_table new s i is) is) in
        let bad : None ≡ Some i = sym free ∙ (own_in i.dev s old.slots i here).1 in
        cc

pub same_free : (old new : Port) (s : ℕ) → IsTable new.slots → ((n : ℕ) → n < 16 → view_of n new ≡ view_of n old) → issue_at old.slots s ≡ None → issue_at new.slots s ≡ None
same_free old new s table same free = free_by old new s table (λ n i below here. ap (λ (v : DeviceView). own_issue v.slots s) (sym (same n below)) ∙ here) free

-- ---- the writes before that of PxCI

-- the port takes a write that issues nothing, and is open after it
pub record Quiet (mode : Mode) (offset value : ℕ) (old : Port) (memory : Memory) (new : Port) : Type 0 where
  pub accepted : write_refusal old memory offset value ≡ None
  pub up : IsUpIn mode new.registers
  pub views : (n : ℕ) → n < 16 → view_of n new ≡ view_of n old

pub sntf_step : {mode : Mode} (old new : Port) (before after : Memory) → IsUpIn mode old.registers → Acts (effect.Writes px_sntf 0x8000) old before new after
    → Quiet mode px_sntf 0x8000 old before new × (new.registers.armed ≡ old.registers.armed)
unfolding register_at own_refusal slots_refusal written view_after
sntf_step {mode} old new before after up acts =
    let accepts : Accepts old before Sntf 0x8000 new = taken Sntf px_sntf 0x8000 old new before refl refl acts.0 in (
      record {
        accepted = refl;
        up = subst (IsUpIn mode) (sym accepts.registers) (record { list = up.list; list_high = up.list_high; area_high = up.area_high; switches = up.switches; receives = up.receives; starts = up.starts });
        views = accepts.views;
      },
      ap (λ (r : Registers). r.armed) accepts.registers,
    )

fbs_free : (starts b switching : Bool) → b ≡ true → switching ≡ true → option_or (running_if (starts && not (beq b switching))) None ≡ None
fbs_free true true true h k = refl
fbs_free false true true h k = refl
fbs_free starts true false h k = absurd (false≢true k)
fbs_free starts false switching h k = absurd (false≢true h)

pub fbs_step : (dev : ℕ) (old new : Port) (before after : Memory) → dev < 16 → IsUpIn Switching old.registers → Acts (effect.Writes px_fbs (256 * dev + 1)) old before new after
    → Quiet Switching px_fbs (256 * dev + 1) old before new × (new.registers.chosen ≡ dev) × (new.registers.armed ≡ old.registers.armed)
unfolding register_at own_refusal slots_refusal written view_after
fbs_step dev old new before after below up acts =
    let free : refusal_of Fbs old before (256 * dev + 1) ≡ None = fbs_free old.registers.started (has_bit (256 * dev + 1) 0) old.registers.switching (bit_first dev) up.switches in
    let accepts : Accepts old before Fbs (256 * dev + 1) new = taken Fbs px_fbs (256 * dev + 1) old new before refl free acts.0 in (
      record {
        accepted = refusal_is Fbs px_fbs (256 * dev + 1) old before refl ∙ free;
        up = subst (IsUpIn Switching) (sym accepts.registers) (record { list = up.list; list_high = up.list_high; area_high = up.area_high; switches = bit_first dev; receives = up.receives; starts = up.starts });
        views = λ n low. accepts.views n low ∙ ap (λ (b : Bool). view_cleared n (if b then cleared_device old.errors else None) (view_of n old)) (no_dec dev);
      },
      ap (λ (r : Registers). r.chosen) accepts.registers ∙ in_dev dev below,
      ap (λ (r : Registers). r.armed) accepts.registers,
    )

sact_free : (starts more busy : Bool) → starts ≡ true → busy ≡ false → option_or (if not starts && more then Some refusal.Stopped else None) (if busy then Some refusal.SlotBusy else None) ≡ None
sact_free true more false h k = refl
sact_free true more true h k = absurd (true≢false k)
sact_free false more busy h k = absurd (false≢true h)

free_busy : (slots : Slots) (slot : ℕ) → issue_at slots slot ≡ None → any_slot (2 ^ slot) (is_busy slots) ≡ false
free_busy slots slot free = any_none slot (is_busy slots) (ap is_some free)

pub sact_step : {mode : Mode} (slot : ℕ) (old new : Port) (before after : Memory) → IsUpIn mode old.registers → issue_at old.slots slot ≡ None → Acts (effect.Writes px_sact (2 ^ slot)) old before new after
    → Quiet mode px_sact (2 ^ slot) old before new × (new.registers.chosen ≡ old.registers.chosen) × (new.registers.armed ≡ bit_or old.registers.armed (2 ^ slot))
unfolding register_at own_refusal slots_refusal written view_after
sact_step {mode} slot old new before after up idle acts =
    let free : refusal_of Sact old before (2 ^ slot) ≡ None = sact_free old.registers.started (not (2 ^ slot == 0)) (any_slot (2 ^ slot) (is_busy old.slots)) up.starts (free_busy old.slots slot idle) in
    let accepts : Accepts old before Sact (2 ^ slot) new = taken Sact px_sact (2 ^ slot) old new before refl free acts.0 in (
      record {
        accepted = refusal_is Sact px_sact (2 ^ slot) old before refl ∙ free;
        up = subst (IsUpIn mode) (sym accepts.registers) (record { list = up.list; list_high = up.list_high; area_high = up.area_high; switches = up.switches; receives = up.receives; starts = up.starts });
        views = accepts.views;
      },
      ap (λ (r : Registers). r.chosen) accepts.registers,
      ap (λ (r : Registers). r.armed) accepts.registers,
    )

-- ---- the write of PxCI

ci_free : (starts more busy apart bad : Bool) (e : WriteError) → starts ≡ true → busy ≡ false → apart ≡ false → bad ≡ false
    → option_or (if not starts && more then Some refusal.Stopped else None)
    (if starts then (if busy then Some refusal.SlotBusy else if apart then Some e else if bad then Some refusal.BadTable else None) else None) ≡ None
ci_free true more false false false e h k l m = refl
ci_free true more false false true e h k l m = absurd (true≢false m)
ci_free true more false true bad e h k l m = absurd (true≢false l)
ci_free true more true apart bad e h k l m = absurd (true≢false k)
ci_free false more busy apart bad e h k l m = absurd (false≢true h)

-- The device is chosen. Without FIS-based switching nothing is issued for another one.
abbrev pub MayAim : Mode → ℕ → Port → Type 0
MayAim Switching dev port = port.registers.chosen ≡ dev
MayAim CommandBased dev port = (s : ℕ) (i : Issue) → issue_at port.slots s ≡ Some i → i.dev ≡ dev

-- what the write finds
pub record Ready (mode : Mode) (slot dev : ℕ) (prds : List Prd) (fields : H2dFields) (port : Port) (memory : Memory) : Type 0 where
  pub below : slot < 32
  pub dev_below : dev < 16
  pub up : IsUpIn mode port.registers
  pub aims : MayAim mode dev port
  pub free : issue_at port.slots slot ≡ None
  pub placed : Placed slot dev prds fields (has_bit port.registers.armed slot) memory

-- what the write leaves
pub record CiDone (mode : Mode) (slot dev : ℕ) (fields : H2dFields) (old : Port) (memory : Memory) (new : Port) : Type 0 where
  pub accepted : write_refusal old memory px_ci (2 ^ slot) ≡ None
  pub up : IsUpIn mode new.registers
  pub armed : new.registers.armed ≡ without old.registers.armed (2 ^ slot)
  pub issued : IsIssuedAt new dev slot (new_issue dev (work_of (request_of fields)))

-- a slot of another device, where there is none
none_beside : (slots : Slots) (dev : ℕ) → ((s : ℕ) (i : Issue) → issue_at slots s ≡ Some i → i.dev ≡ dev) → any_beside slots dev ≡ false
none_beside slots dev all = by_low (lowest (is_beside slots dev)) refl
  where
    by_issue : (s : ℕ) (o : Option Issue) → issue_at slots s ≡ o → issue_holds (λ issue. not (issue.dev == dev)) o ≡ true → ⊥
    by_issue s None is h = false≢true h
    by_issue s (Some i) is h = false≢true (sym (ap not (equal_is i.dev dev (all s i is))) ∙ h)

    by_low : (o : Option ℕ) → lowest (is_beside slots dev) ≡ o → is_some (lowest (is_beside slots dev)) ≡ false
    by_low None is = ap is_some is
    by_low (Some k) is = absurd (by_issue k (issue_at slots k) refl (lowest_is (is_beside slots dev) 32 k is).passes)

beside_off : (on more beside other : Bool) → beside ≡ false → other ≡ false → (not on && not more && beside || other) ≡ false
beside_off true more beside other none own = own
beside_off false true beside other none own = own
beside_off false false beside other none own = rw none own

module _ (mode : Mode) (slot dev : ℕ) (prds : List Prd) (fields : H2dFields) (port : Port) (memory : Memory) (r : Ready mode slot dev prds fields port memory) where
  stands : command_at memory port.registers.clb slot (has_bit port.registers.armed slot) ≡ Some (command_placed slot prds fields memory)
  stands =
      ap (λ (c : ℕ). command_at memory c slot (has_bit port.registers.armed slot)) r.up.list
      ∙ command_is slot dev prds fields (has_bit port.registers.armed slot) memory r.below r.placed

  -- the header names the device
  named : named_in port.registers memory.structure slot ≡ dev
  named = ap (λ (c : ℕ). (header_at memory.structure c slot).pmp) r.up.list ∙ ap (λ h. h.pmp) r.placed.header ∙ r.placed.to_dev

  -- so the write is aimed at it
  aims_in : (m : Mode) → mode ≡ m → MayAim m dev port → aimed port.registers memory.structure (2 ^ slot) ≡ dev
  aims_in Switching is may = aimed_chosen port.registers memory.structure (2 ^ slot) (r.up.switches ∙ ap is_switching is) ∙ may
  aims_in CommandBased is may =
      aimed_first port.registers memory.structure (2 ^ slot) slot (r.up.switches ∙ ap is_switching is) r.below (bit_same slot) (λ k less. bit_other slot k (λ same. omega (arith, less, same))) ∙ named

  aims : aimed port.registers memory.structure (2 ^ slot) ≡ dev
  aims = aims_in mode refl r.aims

  own_port : names_other port.registers memory.structure dev slot ≡ false
  own_port = ap not (equal_is (named_in port.registers memory.structure slot) dev named)

  apart_in : (m : Mode) → mode ≡ m → MayAim m dev port
      → (not port.registers.switching && not (2 ^ slot == 0) && any_beside port.slots dev || any_slot (2 ^ slot) (names_other port.registers memory.structure dev)) ≡ false
  apart_in Switching is may =
      ap (λ (b : Bool). not b && not (2 ^ slot == 0) && any_beside port.slots dev || any_slot (2 ^ slot) (names_other port.registers memory.structure dev)) (r.up.switches ∙ ap is_switching is)
      ∙ any_none slot (names_other port.registers memory.structure dev) own_port
  apart_in CommandBased is may =
      beside_off port.registers.switching (2 ^ slot == 0) (any_beside port.slots dev) (any_slot (2 ^ slot) (names_other port.registers memory.structure dev)) (none_beside port.slots dev may)
      (any_none slot (names_other port.registers memory.structure dev) own_port)

  apart : is_apart port memory (2 ^ slot) ≡ false
  apart =
      ap (λ (d : ℕ). not port.registers.switching && not (2 ^ slot == 0) && any_beside port.slots d || any_slot (2 ^ slot) (names_other port.registers memory.structure d)) aims
      ∙ apart_in mode refl r.aims

  pub ci_taken : refusal_of Ci port memory (2 ^ slot) ≡ None
  unfolding own_refusal slots_refusal
  ci_taken =
      ci_free port.registers.started (not (2 ^ slot == 0)) (any_slot (2 ^ slot) (is_busy port.slots)) (is_apart port memory (2 ^ slot))
      (any_slot (2 ^ slot) (is_bad port.registers memory)) (apart_refusal port.registers) r.up.starts (free_busy port.slots slot r.free)
      apart (any_none slot (is_bad port.registers memory) (ap is_none stands))

  pub asks : asked port.registers memory (2 ^ slot) slot ≡ Some (command_placed slot prds fields memory)
  asks = then_is (has_bit (2 ^ slot) slot) (command_at memory port.registers.clb slot (has_bit port.registers.armed slot)) (bit_same slot) ∙ stands

  pub ci_step : (new : Port) (after : Memory) → IsTable port.slots → Acts (effect.Writes px_ci (2 ^ slot)) port memory new after → CiDone mode slot dev fields port memory new
  unfolding register_at written view_after
  ci_step new after table acts =
      let up : IsUpIn mode port.registers = r.up in
      let accepts : Accepts port memory Ci (2 ^ slot) new = taken Ci px_ci (2 ^ slot) port new memory refl ci_taken acts.0 in
      let long = (is_own dev port.slots table).long in
      let target : ℕ = aimed port.registers memory.structure (2 ^ slot) in
      let here : (dev == target) ≡ true = equal_is dev target (sym aims) in
      let view : view_of dev new ≡ view_issued port.registers memory (2 ^ slot) (view_of dev port) =
      accepts.views dev r.dev_below ∙ ap (λ (b : Bool). if b then view_issued port.registers memory (2 ^ slot) (view_of dev port) else view_of dev port) here in
      let commands : ℕ → Option Command = asked port.registers memory (2 ^ slot) in
      let was : Option Issue = own_issue (slots_of dev port.slots) slot in
      let whole : Command = command_placed slot prds fields memory in
      record {
        accepted = refusal_is Ci px_ci (2 ^ slot) port memory refl ∙ ci_taken;
        up = subst (IsUpIn mode) (sym accepts.registers) (record { list = up.list; list_high = up.list_high; area_high = up.area_high; switches = up.switches; receives = up.receives; starts = up.starts });
        armed = ap (λ (x : Registers). x.armed) accepts.registers;
        issued =
            ap (λ (v : DeviceView). own_issue v.slots slot) view ∙ ap (λ (f : ℕ → Option Issue). f slot) (own_issued target commands (slots_of dev port.slots) 32 long)
            ∙ ap (λ (b : Bool). cond b (issue_with target (commands slot) was) was) (lt-ltb slot 32 r.below)
            ∙ ap (λ (c : Option Command). issue_with target c was) asks
            ∙ ap (λ (d : ℕ). Some (new_issue d whole.work)) aims;
      }

-- ---- the writes that issue a command

pub record Issues (mode : Mode) (slot dev : ℕ) (queued : Bool) (fields : H2dFields) (old : Port) (before : Memory) (new : Port) (after : Memory) (acts : ActsAll (issuing mode slot dev queued) old before new after) : Type 0 where
  pub accepted : AreAccepted (issuing mode slot dev queued) old before new after acts
  pub up : IsUpIn mode new.registers
  pub unarmed : new.registers.armed ≡ 0
  pub issued : IsIssuedAt new dev slot (new_issue dev (work_of (request_of fields)))

pub placed_as : (slot dev : ℕ) (prds : List Prd) (fields : H2dFields) (a b : Bool) (m n : Memory) → b ≡ a → n ≡ m → Placed slot dev prds fields a m → Placed slot dev prds fields b n
placed_as slot dev prds fields a b m n h k p =
    subst (λ (x : Bool). Placed slot dev prds fields x n) (sym h) (subst (λ (x : Memory). Placed slot dev prds fields a x) (sym k) p)

pub no_bit : (n slot : ℕ) → n ≡ 0 → has_bit n slot ≡ false
no_bit n slot h = ap (λ (k : ℕ). has_bit k slot) h ∙ ap (λ (k : ℕ). k == 1) (bit_at-zero slot)

-- nothing is issued for another device, if no device has a new issue
pub alone_by : (old new : Port) (dev : ℕ) → IsTable new.slots → ((n s : ℕ) (i : Issue) → n < 16 → IsIssuedAt new n s i → IsIssuedAt old n s i) → ((s : ℕ) (i : Issue) → issue_at old.slots s ≡ Some i → i.dev ≡ dev)
    → (s : ℕ) (i : Issue) → issue_at new.slots s ≡ Some i → i.dev ≡ dev
alone_by old new dev table was alone s i here =
    let rules : IsIssue i = subst (λ (o : Option Issue). MatchOption o (Unit {0}) IsIssue) here (table.issues s) in
    alone s i (own_in i.dev s old.slots i (was i.dev s i rules.dev_below (own_here s new.slots i (in_table new s i here) here))).1

-- the same after a write that leaves what is issued
pub same_alone : (old new : Port) (dev : ℕ) → IsTable new.slots → ((n : ℕ) → n < 16 → view_of n new ≡ view_of n old) → ((s : ℕ) (i : Issue) → issue_at old.slots s ≡ Some i → i.dev ≡ dev)
    → (s : ℕ) (i : Issue) → issue_at new.slots s ≡ Some i → i.dev ≡ dev
same_alone old new dev table same alone s i here = alone_by old new dev table (λ n s i below at. ap (λ (v : DeviceView). own_issue v.slots s) (sym (same n below)) ∙ at) alone s i here

-- what is left once the device is chosen
abbrev arming : (slot : ℕ) → (queued : Bool) → List Effect
arming slot true = effect.Writes px_sact (2 ^ slot) ∷ effect.Writes px_ci (2 ^ slot) ∷ []
arming slot false = effect.Writes px_ci (2 ^ slot) ∷ []

record Arms (mode : Mode) (slot dev : ℕ) (queued : Bool) (fields : H2dFields) (old : Port) (before : Memory) (new : Port) (after : Memory) (acts : ActsAll (arming slot queued) old before new after) : Type 0 where
  pub accepted : AreAccepted (arming slot queued) old before new after acts
  pub up : IsUpIn mode new.registers
  pub unarmed : new.registers.armed ≡ 0
  pub issued : IsIssuedAt new dev slot (new_issue dev (work_of (request_of fields)))

aim_kept : (mode : Mode) (old new : Port) (dev : ℕ) → IsTable new.slots → ((n : ℕ) → n < 16 → view_of n new ≡ view_of n old) → new.registers.chosen ≡ old.registers.chosen → MayAim mode dev old → MayAim mode dev new
aim_kept Switching old new dev table same chosen may = chosen ∙ may
aim_kept CommandBased old new dev table same chosen may = same_alone old new dev table same may

arming_taken : (mode : Mode) (slot dev : ℕ) (queued : Bool) (prds : List Prd) (fields : H2dFields) (old new : Port) (before after : Memory) → slot < 32 → dev < 16 → IsUpIn mode old.registers → MayAim mode dev old
    → old.registers.armed ≡ 0 → IsTable old.slots → issue_at old.slots slot ≡ None → Placed slot dev prds fields queued before → (acts : ActsAll (arming slot queued) old before new after)
    → Arms mode slot dev queued fields old before new after acts
unfolding ActsAll AreAccepted
arming_taken mode slot dev false prds fields old new before after below dev_below up may none table free placed acts =
    let ready : Ready mode slot dev prds fields old before = record {
      below = below;
      dev_below = dev_below;
      up = up;
      aims = may;
      free = free;
      placed = placed_as slot dev prds fields false (has_bit old.registers.armed slot) before before (no_bit old.registers.armed slot none) refl placed;
    } in
    let c : CiDone mode slot dev fields old before acts.0 = ci_step mode slot dev prds fields old before ready acts.0 acts.1 table acts.2 in
    record {
      accepted = (c.accepted, tt);
      up = subst (λ (p : Port). IsUpIn mode p.registers) (sym acts.4.0) c.up;
      unarmed = ap (λ (p : Port). p.registers.armed) acts.4.0 ∙ c.armed ∙ ap (λ (x : ℕ). without x (2 ^ slot)) none ∙ no_bits slot;
      issued = subst (λ (p : Port). IsIssuedAt p dev slot (new_issue dev (work_of (request_of fields)))) (sym acts.4.0) c.issued;
    }
arming_taken mode slot dev true prds fields old new before after below dev_below up may none table free placed acts =
    let g = sact_step slot old acts.0 before acts.1 up free acts.2 in
    let armed : acts.0.registers.armed ≡ 2 ^ slot = g.2 ∙ ap (λ (x : ℕ). bit_or x (2 ^ slot)) none ∙ or_zero_l (2 ^ slot) in
    let ready : Ready mode slot dev prds fields acts.0 acts.1 = record {
      below = below;
      dev_below = dev_below;
      up = g.0.up;
      aims = aim_kept mode old acts.0 dev acts.3.table g.0.views g.1 may;
      free = same_free old acts.0 slot acts.3.table g.0.views free;
      placed = placed_as slot dev prds fields true (has_bit acts.0.registers.armed slot) before acts.1 (ap (λ (x : ℕ). has_bit x slot) armed ∙ bit_same slot) acts.2.1 placed;
    } in
    let c : CiDone mode slot dev fields acts.0 acts.1 acts.4.0 = ci_step mode slot dev prds fields acts.0 acts.1 ready acts.4.0 acts.4.1 acts.3.table acts.4.2 in
    record {
      accepted = (g.0.accepted, (c.accepted, tt));
      up = subst (λ (p : Port). IsUpIn mode p.registers) (sym acts.4.4.0) c.up;
      unarmed = ap (λ (p : Port). p.registers.armed) acts.4.4.0 ∙ c.armed ∙ ap (λ (x : ℕ). without x (2 ^ slot)) armed ∙ own_bits slot below;
      issued = subst (λ (p : Port). IsIssuedAt p dev slot (new_issue dev (work_of (request_of fields)))) (sym acts.4.4.0) c.issued;
    }

-- with FIS-based switching the device is chosen first
chosen_taken : (slot dev : ℕ) (queued : Bool) (prds : List Prd) (fields : H2dFields) (old new : Port) (before after : Memory) → slot < 32 → dev < 16 → IsUpIn Switching old.registers → old.registers.armed ≡ 0
    → issue_at old.slots slot ≡ None → Placed slot dev prds fields queued before → (acts : ActsAll (effect.Writes px_fbs (256 * dev + 1) ∷ arming slot queued) old before new after)
    → AreAccepted (effect.Writes px_fbs (256 * dev + 1) ∷ arming slot queued) old before new after acts
    × (IsUpIn Switching new.registers × ((new.registers.armed ≡ 0) × IsIssuedAt new dev slot (new_issue dev (work_of (request_of fields)))))
unfolding ActsAll AreAccepted
chosen_taken slot dev queued prds fields old new before after below dev_below up none free placed acts =
    let f = fbs_step dev old acts.0 before acts.1 dev_below up acts.2 in
    let a = arming_taken Switching slot dev queued prds fields acts.0 new acts.1 after below dev_below f.0.up f.1 (f.2 ∙ none) acts.3.table (same_free old acts.0 slot acts.3.table f.0.views free)
    (placed_as slot dev prds fields queued queued before acts.1 refl acts.2.1 placed) acts.4 in
    ((f.0.accepted, a.accepted), (a.up, (a.unarmed, a.issued)))

pub issuing_taken : (mode : Mode) (slot dev : ℕ) (queued : Bool) (prds : List Prd) (fields : H2dFields) (old new : Port) (before after : Memory) → slot < 32 → dev < 16 → IsUpIn mode old.registers → IsTable old.slots
    → (mode ≡ CommandBased → MayAim CommandBased dev old) → old.registers.armed ≡ 0
    → issue_at old.slots slot ≡ None → Placed slot dev prds fields queued before → (acts : ActsAll (issuing mode slot dev queued) old before new after) → Issues mode slot dev queued fields old before new after acts
issuing_taken Switching slot dev true prds fields old new before after below dev_below up table may none free placed acts =
    let t = chosen_taken slot dev true prds fields old new before after below dev_below up none free placed acts in
    record { accepted = t.0; up = t.1.0; unarmed = t.1.1.0; issued = t.1.1.1 }
issuing_taken Switching slot dev false prds fields old new before after below dev_below up table may none free placed acts =
    let t = chosen_taken slot dev false prds fields old new before after below dev_below up none free placed acts in
    record { accepted = t.0; up = t.1.0; unarmed = t.1.1.0; issued = t.1.1.1 }
issuing_taken CommandBased slot dev true prds fields old new before after below dev_below up table may none free placed acts =
    let a = arming_taken CommandBased slot dev true prds fields old new before after below dev_below up (may refl) none table free placed acts in
    record { accepted = a.accepted; up = a.up; unarmed = a.unarmed; issued = a.issued }
issuing_taken CommandBased slot dev false prds fields old new before after below dev_below up table may none free placed acts =
    let a = arming_taken CommandBased slot dev false prds fields old new before after below dev_below up (may refl) none table free placed acts in
    record { accepted = a.accepted; up = a.up; unarmed = a.unarmed; issued = a.issued }
