-- For `ports_rest_at_a_flush`. What a host gives is a frame.
use Rattle.std.proofs.Common.{◌≡◌, ◌==◌, ◌&&◌, ℕ, suc, ◌+◌, ◌-◌, ◌*◌, ◌%◌, ◌≤◌, Bool, true, false, List, [], ◌∷◌, drop, length, refl, sym, ap, subst}
use Rattle.std.proofs.{Common.{◌∙◌, inl, inr, Option, Some, None, arith, replicate}, lemmas.Bool.{cases_Bool, cases_lt, Decides.nat_tests}}
use Rattle.std.proofs.lemmas.List.{get_or-replicate, get_or_past, length-drop, length-replicate, length-take-le, FromFn.{get_or-map-range_with_len}}
use Rattle.std.proofs.lemmas.List.FromFn.{length-map-range_with_len}
use Rattle.std.specs.{Prelude.{if◌then◌else◌, nat_le, IsTrue, MatchOption}, Option.option_or}
use Rattle.fis_view.specs.Frames.{IsFrame, Stamped}
use Rattle.host_memory.specs.Memory.{Memory, is_memory_size}
use Rattle.hba_commands.specs.{declared.command.Command.Command, Commands.{cfis_at, command_at, command_in, command_under, has_table, is_proper}}
use Rattle.hba_commands.specs.{Commands.total_at, Headers.header_at, Requests.{request_at, work_of}}
use Rattle.slots.specs.{Data.{payload, payload_len}, Slots.{Issue, Slots, context_of, has_bit, issue_at}, Table.{IsContext, IsContextOf}}
use Rattle.slots.specs.declared.table.Context.{Context}
use Rattle.hba_fbs.specs.{declared.{register.Register.{Register, TheVariants.Ci}, report.TakeReport.TakeReport}, Issuing.{asked, commands_with}}
use Rattle.hba_fbs.specs.{Sending.{Data, Gives, Order, Outgoing, data_fis, gathered, outgoing}, Tables.prds_of, Taking.{ignores, port_of}, Views.Port}
use Rattle.hba_fbs.specs.{Views.last_command, Writing.{Accepts, commands_after}}
use Rattle.hba_laws.specs.{Client.Touches, Hosts.{Does, Flushed, Gave, HostEvent, Runs, TakesFrame, Took, Wrote}, Sound.{AreHosts, IsHost}}
use Rattle.hba_laws.specs.Hosts as event
use Rattle.hba_laws.proofs.Door as outgoing_lemmas
use Rattle.hba_laws.proofs.Door.{gives_commands}
use Rattle.hba_driver.specs.{Events.{IsSoundHost, events_over, shared_by}, HostTurns.{Host, HostTurn, Pushes}}
use Rattle.pm_world.specs.HostTouches.{AreTouched, goes, opens}
use Rattle.pm_world.proofs.serving.TouchedLemmas.{touched_sound}

-- ## The command FIS of a slot

-- has 20 bytes
abbrev HaveFises : event.Host → Type 0
HaveFises h = (slot : ℕ) (command : Command) → last_command h.port.commands slot ≡ Some command → length command.cfis ≡ 20

table_low : (ctbau ctba prdtl : ℕ) → ((ctbau == 0) && (ctba % 128 == 0) && nat_le (ctba + 128 + 16 * prdtl) 1048576) ≡ true → ctba + 20 ≤ 1048576
table_low ctbau ctba prdtl h = grind (arith, nat_tests)

cfis_long : (structure : List ℕ) (table : ℕ) → length structure ≡ 1048576 → table + 20 ≤ 1048576 → length (cfis_at structure table) ≡ 20
cfis_long structure table long room =
    let left : length (drop table structure) ≡ length structure - table = length-drop table structure in
    length-take-le 20 (drop table structure) (omega (arith, left, long, room))

module _ (memory : Memory) (clb slot : ℕ) (armed : Bool) (command : Command) (long : length memory.structure ≡ 1048576) where
  in_fis : (cfis : List ℕ) (r : Option _) (total : Option ℕ)
      → command_in (header_at memory.structure clb slot) cfis r total slot armed ≡ Some command → command.cfis ≡ cfis
  in_fis cfis None total is = cc is
  in_fis cfis (Some request) None is = cc is
  in_fis cfis (Some request) (Some total) is = by_test (is_proper (header_at memory.structure clb slot) request total slot armed) is
    where
      by_test : (b : Bool) → (if b then Some (record {
        work = work_of request;
        cfis = cfis;
        table = (header_at memory.structure clb slot).ctba;
        count = (header_at memory.structure clb slot).prdtl;
      }) else None) ≡ Some command → command.cfis ≡ cfis
      by_test true e = ap (λ (c : Command). c.cfis) (sym (some_same e))
        where
          some_same : {c : Command} → Some c ≡ Some command → c ≡ command
          some_same e = cc e
      by_test false e = cc e

  under_fis : command_at memory clb slot armed ≡ Some command → length command.cfis ≡ 20
  unfolding command_under
  under_fis is = by_table (has_table (header_at memory.structure clb slot)) refl is
    where
      by_table : (b : Bool) → has_table (header_at memory.structure clb slot) ≡ b
          → (if b then command_in (header_at memory.structure clb slot) (cfis_at memory.structure (header_at memory.structure clb slot).ctba)
          (request_at (cfis_at memory.structure (header_at memory.structure clb slot).ctba))
          (total_at memory.structure (length memory.client) (header_at memory.structure clb slot).ctba (header_at memory.structure clb slot).prdtl) slot armed
          else None) ≡ Some command → length command.cfis ≡ 20
      by_table true there e =
          ap (λ (xs : List ℕ). length xs)
          (in_fis (cfis_at memory.structure (header_at memory.structure clb slot).ctba)
          (request_at (cfis_at memory.structure (header_at memory.structure clb slot).ctba))
          (total_at memory.structure (length memory.client) (header_at memory.structure clb slot).ctba (header_at memory.structure clb slot).prdtl) e)
          ∙ cfis_long memory.structure (header_at memory.structure clb slot).ctba long
          (table_low (header_at memory.structure clb slot).ctbau (header_at memory.structure clb slot).ctba (header_at memory.structure clb slot).prdtl there)
      by_table false none e = cc e

-- ## Each event

command_then : (commands : ℕ → Option Command) (s : ℕ) (old : List (Option Command)) (command : Command)
    → last_command (commands_with commands old) s ≡ Some command → option_or (commands s) (last_command old s) ≡ Some command
unfolding commands_with
command_then commands s old command last = elim (cases_lt s (length old)) [
  | inl lt ↦ sym (get_or-map-range_with_len (λ slot. option_or (commands slot) (last_command old slot)) 0 (length old) s s None lt (omega arith)) ∙ last
  | inr ge ↦
      let long = length-map-range_with_len (λ slot. option_or (commands slot) (last_command old slot)) 0 (length old) in
      let none : None ≡ Some command = sym (get_or_past (commands_with commands old) s None (omega (arith, long, ge))) ∙ last in cc
]

module _ (old new : event.Host) (sound : IsHost old) (have : HaveFises old) where
  same_fises : new.port.commands ≡ old.port.commands → HaveFises new
  same_fises same slot command is = have slot command (ap (λ (cs : List (Option Command)). last_command cs slot) (sym same) ∙ is)

  asked_fis : (value slot : ℕ) (o : Option Command) (command : Command) → asked old.port.registers old.memory value slot ≡ o
      → option_or o (last_command old.port.commands slot) ≡ Some command → length command.cfis ≡ 20
  asked_fis value slot None command is e = have slot command e
  asked_fis value slot (Some c) command is e =
      let same : c ≡ command = cc e in
      subst (λ (d : Command). length d.cfis ≡ 20) same (by_bit (has_bit value slot) is)
    where
      by_bit : (b : Bool) → (if b then command_at old.memory old.port.registers.clb slot (has_bit old.port.registers.armed slot) else None) ≡ Some c
          → length c.cfis ≡ 20
      by_bit true e = under_fis old.memory old.port.registers.clb slot (has_bit old.port.registers.armed slot) c sound.memory.structure_len e
      by_bit false e = cc e

  issued_fises : (value : ℕ) → new.port.commands ≡ commands_with (asked old.port.registers old.memory value) old.port.commands → HaveFises new
  issued_fises value is slot command last =
      asked_fis value slot (asked old.port.registers old.memory value slot) command refl
      (command_then (asked old.port.registers old.memory value) slot old.port.commands command (ap (λ (cs : List (Option Command)). last_command cs slot) (sym is) ∙ last))

  wrote_fises : (register : Register) (value : ℕ) → Accepts old.port old.memory register value new.port → HaveFises new
  unfolding commands_after
  wrote_fises Ci value does = issued_fises value does.commands
  wrote_fises other value does = same_fises does.commands

  took_fises : (frame : List ℕ) (report : TakeReport) → TakesFrame old frame report new → HaveFises new
  took_fises frame report does = elim (cases_Bool (ignores (port_of frame) old.port frame)) [
    | inl ignored ↦ same_fises (ap (λ (p : Port). p.commands) (does.ignored ignored).port)
    | inr heard ↦ same_fises (does.heard heard).commands
  ]

  event_fises : (e : HostEvent) → Does old e new → HaveFises new
  event_fises (Took frame report) does = took_fises frame report does
  event_fises (Wrote register value) does = wrote_fises register value does.1
  event_fises (Flushed dev) does = same_fises does.0.commands
  event_fises (Gave frame) does = same_fises (gives_commands (outgoing old.port old.memory) old.port new.port old.memory frame does.0)
  event_fises other does = same_fises (ap (λ (p : Port). p.commands) does.1)

fises_over : (old new : event.Host) (events : List HostEvent) (run : Runs old events new) → AreHosts old new events run → HaveFises old → HaveFises new
fises_over old new [] run hosts have = subst HaveFises (sym run) have
fises_over old new (e ∷ events) run hosts have =
    fises_over run.0 new events run.2 hosts.1 (event_fises old run.0 hosts.0 have e run.1)

none_here : (s : ℕ) (command : Command) → last_command (replicate 32 None) s ≡ Some command → length command.cfis ≡ 20
none_here s command is = elim (cases_lt s 32) [
  | inl less ↦ let none : None ≡ Some command = sym (get_or-replicate 32 s None None less) ∙ is in cc none
  | inr least ↦
      let none : None ≡ Some command = sym (get_or_past (replicate 32 None) s None (rw (length-replicate {A = Option Command} 32 None) least)) ∙ is in cc none
]

fises_touched : (len : ℕ) (turns : List HostTurn) (h : Host) (touches : Touches) → AreTouched len turns h touches → HaveFises (shared_by h)
fises_touched len turns h touches opens = none_here
fises_touched len turns h touches (goes before turn old new past run serves came) =
    fises_over (shared_by old) (shared_by new) (events_over old new (turn ∷ []) run) serves.runs serves.sound.hosts (fises_touched len before old past came)

-- ## What goes out

frame_of_len : (k : ℕ) → k ≤ 8192 → k % 4 ≡ 0 → (nat_le 4 (4 + k) && nat_le (4 + k) 8196 && (4 + k) % 4 == 0) ≡ true
frame_of_len k most dwords = grind (arith, nat_tests)

frame_by : (bytes : List ℕ) (k : ℕ) → length bytes ≡ 4 + k → k ≤ 8192 → k % 4 ≡ 0 → IsFrame bytes
frame_by bytes k is most dwords =
    subst (λ (m : ℕ). IsTrue (nat_le 4 m && nat_le m 8196 && m % 4 == 0)) (sym is) (frame_of_len k most dwords)

-- how long data is
record IsDataLen (len : ℕ) : Type 0 where
  most : len ≤ 8192
  dwords : len % 4 ≡ 0

data_len : (c : Context) → c.left % 4 ≡ 0 → IsDataLen (payload_len c)
data_len c left = record { most = omega arith; dwords = omega (arith, left) }

context_len : (t : Slots) (dev : ℕ) (o : Option Context) (next : ℕ × ℕ × ℕ) → MatchOption o (Prim.Unit {0}) (IsContext dev t) → payload o ≡ Some next
    → IsDataLen next.2
context_len t dev None next sound is = cc is
context_len t dev (Some c) next sound is = by_activated c.activated is
  where
    left_of : (i : Option Issue) → MatchOption i ⊥ (IsContextOf dev c) → c.left % 4 ≡ 0
    left_of None there = absurd there
    left_of (Some issue) there = there.left_dwords

    by_activated : (b : Bool) → (if b then Some (c.slot, c.next, payload_len c) else None) ≡ Some next → IsDataLen next.2
    by_activated true e =
        let same : (c.slot, c.next, payload_len c) ≡ next = cc e in
        subst (λ (n : ℕ × ℕ × ℕ). IsDataLen n.2) same (data_len c (left_of (issue_at t c.slot) sound.1))
    by_activated false e = cc e

module _ (len : ℕ) (right : is_memory_size len ≡ true) (turns : List HostTurn) (h new : Host) (touches : Touches) (came : AreTouched len turns h touches)
    (frame : Stamped) where
  by_out : (o : Outgoing) → outgoing h.port h.memory ≡ o → Gives o h.port h.memory (Some frame) new.port → IsFrame frame.bytes
  by_out (Data dev offset n command) is does =
      let d = outgoing_lemmas.data_is h.port h.memory dev offset n command is in
      let sound : IsSoundHost h = touched_sound len turns h touches right came in
      let long : IsDataLen n =
      subst IsDataLen d.len_is (context_len h.port.slots dev (context_of h.port.slots dev) d.next (sound.ruled.table.contexts dev) d.is) in
      let bytes : frame.bytes ≡ data_fis dev (gathered (prds_of h.memory command) offset n h.memory.client) = ap (λ (f : Stamped). f.bytes) does.frame_is in
      let count : length (gathered (prds_of h.memory command) offset n h.memory.client) ≡ n = length-map-range_with_len _ 0 n in
      let whole : length frame.bytes ≡ suc (suc (suc (suc (length (gathered (prds_of h.memory command) offset n h.memory.client))))) =
      ap (λ (xs : List ℕ). length xs) bytes in
      frame_by frame.bytes n (omega (arith, whole, count)) long.most long.dwords
  by_out (Order dev slot command) is does =
      let o = outgoing_lemmas.order_is h.port h.memory dev slot command is in
      let bytes : frame.bytes ≡ command.cfis = ap (λ (f : Stamped). f.bytes) does.frame_is in
      frame_by frame.bytes 16 (ap (λ (xs : List ℕ). length xs) bytes ∙ fises_touched len turns h touches came slot command o.stands) (omega arith) refl
  by_out other is does = let none : Some frame ≡ None = does.0 in cc none

  pub pushes_frame : Pushes h (Some frame) new → IsFrame frame.bytes
  pushes_frame pushes = by_out (outgoing h.port h.memory) refl pushes.gives
