-- For `isolated`. What belongs to a device of a host is what its core says, and its row. One event, and then a list of
-- them.
use Rattle.std.proofs.Common.{◌≡◌, ◌≢◌, ℕ, ◌+◌, ◌*◌, ◌<◌, ◌≤◌, Bool, true, false, List, [], ◌∷◌, length, refl, sym, ◌∙◌, ap, subst, arith, inl, inr}
use Rattle.std.proofs.{Common.{Option, Some, None}, lemmas.Bool.{cases_Bool, cond-false, cond-true, eqb-true, eqb-false, not-false, or_parts}}
use Rattle.std.specs.{Prelude.{◌==◌, if◌then◌else◌, not, is_some}, Option.option_map}
use Rattle.fis_view.specs.{Frames.Stamped, Seen.seen, declared.view.Fis.Fis}
use Rattle.hba_commands.specs.declared.command.Command.{Command}
use Rattle.host_memory.specs.Memory.{Memory, overwritten}
use Rattle.rx_area.specs.Area.{row_of}
use Rattle.slots.specs.{Data.payload, Slots.match_some}
use Rattle.hba_fbs.specs.{declared.{register.Register.{Register, TheVariants.{Ci, Fbs}}, report.TakeReport.TakeReport}, Issuing.{aimed, asked}}
use Rattle.hba_fbs.specs.{Posting.area_at, Sending.view_fed, Taking.{admitted, ignores, is_running, port_of, row_for}, Views.{Port, view_of}}
use Rattle.hba_fbs.specs.Writing.{cleared_by, is_device}
use Rattle.hba_laws.specs.{Cores.IsPart, Hosts.{Does, Flushed, Gave, Host, HostEvent, Put, Rewrote, Runs, Stored, TakesFrame, Took, Wrote}}
use Rattle.hba_laws.specs.Isolation.{AreAlike, AreOfDevices, Came, Cleared, Rewritten, Emptied, IsFoldOfOwn, Issued, OwnEvent, Went, after_fis}
use Rattle.hba_laws.specs.Isolation.{after_going, after_order, gone_to, is_port_event, next_own, own_events, own_over, part_after, part_after_all}
use Rattle.hba_laws.specs.{Isolation.{skips, stops, written_to}, Parts.{DevicePart, own_row, part_of, with_view}, Sound.{AreHosts, IsHost}}
use Rattle.hba_laws.proofs.{prd_tables.AreaLemmas.{row_beside, row_beside_posted, row_posted, row_rewritten}, soundness.KeptLemmas.fb_kept}
use Rattle.hba_laws.proofs.{soundness.KeptLemmas.{first_host, mode_kept, receives, stays_put}, isolation.CoreFoldLemmas.host_step}
use Rattle.hba_laws.proofs.isolation.{CoreLemmas.skipped, HeardLemmas.{after_append, row_shows}, PartLemmas.{SamePlace, commands_at, row_at}}
use Rattle.hba_laws.proofs.isolation.PartLemmas.{row_moved, row_same, same_part, same_place}

-- what belongs to a device of a host is a part of its core
pub part_is : (n : ℕ) (old : Host) → IsPart n old.port (part_of n old)
part_is n old = record { view = refl; commands = refl; row = row_shows old.port.registers.switching old.port.registers.fb old.memory.structure n }

-- a row after one own event, or none
row_if : (n : ℕ) (p : DevicePart) (row : Option (List ℕ)) (b : Bool) (event : OwnEvent) → (b ≡ true → row ≡ (part_after n p event).row) → (b ≡ false → row ≡ p.row)
    → row ≡ (part_after_all n p (if b then event ∷ [] else [])).row
row_if n p row true event one none = one refl
row_if n p row false event one none = none refl

-- ---- a frame is taken

-- with FIS-based switching a device has its own row
row_is : (port : Port) (dev : ℕ) → port.registers.switching ≡ true → row_for port dev ≡ Some dev
row_is port dev on = cond-true port.registers.switching (Some dev) (if dev == port.active then Some 0 else None) on

took_own : (old new : Host) (frame : List ℕ) (report : TakeReport) → is_running old.port ≡ true → SamePlace old.port.registers new.port.registers → TakesFrame old frame report new
    → row_at (port_of frame) new ≡ (part_after (port_of frame) (part_of (port_of frame) old) (Came frame)).row
took_own old new frame report runs place does =
    let dev : ℕ = port_of frame in
    let p : DevicePart = part_of dev old in
    let fis : Option Fis = admitted dev (seen frame) in
    let skip : skips dev p (seen frame) ≡ ignores dev old.port frame = skipped dev old.port p frame runs (part_is dev old) in
    elim (cases_Bool (ignores dev old.port frame)) [
      | inl t ↦ row_same dev old new place (ap (λ (m : Memory). m.structure) (does.ignored t).memory) ∙ sym (ap (λ (q : DevicePart). q.row) (cond-true (skips dev p (seen frame)) p (after_fis dev p fis) (skip ∙ t)))
      | inr f ↦
          row_moved dev old new place
          ∙ row_posted dev old.port.registers.fb old.port.registers.switching (row_for old.port dev) fis old.memory.structure new.memory.structure (row_is old.port dev) (does.heard f).structure
          ∙ sym (ap (λ (q : DevicePart). q.row) (cond-false (skips dev p (seen frame)) p (after_fis dev p fis) (skip ∙ f)))
    ]

took_other : (n : ℕ) (old new : Host) (frame : List ℕ) (report : TakeReport) → n ≢ port_of frame → SamePlace old.port.registers new.port.registers → TakesFrame old frame report new → row_at n new ≡ row_at n old
took_other n old new frame report ne place does =
    let dev : ℕ = port_of frame in
    elim (cases_Bool (ignores dev old.port frame)) [
      | inl t ↦ row_same n old new place (ap (λ (m : Memory). m.structure) (does.ignored t).memory)
      | inr f ↦
          row_moved n old new place
          ∙ row_beside_posted n dev old.port.registers.fb old.port.registers.switching (row_for old.port dev) (admitted dev (seen frame)) old.memory.structure new.memory.structure ne (row_is old.port dev) (does.heard f).structure
    ]

-- ---- registers, and what goes out

written_row : (n : ℕ) (register : Register) (old new : Host) (value : ℕ) → row_at n new ≡ row_at n old → row_at n new ≡ (part_after_all n (part_of n old) (written_to n old register value)).row
written_row n Ci old new value row =
    row_if n (part_of n old) (row_at n new) (n == aimed old.port.registers old.memory.structure value) (Issued (asked old.port.registers old.memory value)) (λ same. row) (λ differs. row)
written_row n Fbs old new value row = row_if n (part_of n old) (row_at n new) (is_device n (cleared_by old.port.errors value)) Cleared (λ same. row) (λ differs. row)
written_row n other old new value row = row

going_row : (p : DevicePart) → p.row ≡ (after_going p).row
going_row p = by_test (is_some (payload p.view.slots.context)) (next_own p.view)
  where
    by_command : (o : Option Command) (g : Command → DevicePart) → ((c : Command) → p.row ≡ (g c).row) → p.row ≡ (match_some o p g).row
    by_command None g same = refl
    by_command (Some c) g same = same c

    by_test : (b : Bool) (o : Option ℕ) → p.row ≡ (if b then with_view p (view_fed p.view) else match_some o p (after_order p)).row
    by_test true o = refl
    by_test false None = refl
    by_test false (Some slot) = by_command (p.commands slot) _ (λ c. refl)

gone_row : (n : ℕ) (p : DevicePart) (row : Option (List ℕ)) (frame : Option Stamped) → row ≡ p.row → row ≡ (part_after_all n p (gone_to n frame)).row
gone_row n p row None same = same
gone_row n p row (Some f) same = row_if n p row (f.stamp.port == n) Went (λ to. same ∙ going_row p) (λ away. same)

-- ---- the software writes

row_in_area : (on : Bool) (fb n : ℕ) (s t : List ℕ) → area_at t fb ≡ area_at s fb → own_row on fb t n ≡ own_row on fb s n
row_in_area true fb n s t same = ap (λ (x : List ℕ). Some (row_of x n)) same
row_in_area false fb n s t same = refl

-- the received area lies in the structure area
area_inside : (host : Host) → IsHost host → is_running host.port ≡ true → host.port.registers.fb + 4096 ≤ length host.memory.structure
area_inside host is runs = let low = is.port.registers.receives (receives host is runs) in omega (arith, low, is.memory.structure_len)

row_after_write : (n : ℕ) (old new : Host) (dev : ℕ) (row : List ℕ) → Does old (Rewrote dev row) new
    → row_at n new ≡ own_row old.port.registers.switching old.port.registers.fb (overwritten old.memory.structure (old.port.registers.fb + 256 * dev) row) n
row_after_write n old new dev row does =
    row_moved n old new (same_place old.port.registers new.port.registers (ap (λ (p : Port). p.registers) does.1))
    ∙ ap (λ (m : Memory). own_row old.port.registers.switching old.port.registers.fb m.structure n) does.0.after

own_rewritten : (on : Bool) (fb dev : ℕ) (row s t : List ℕ) → row_of (area_at t fb) dev ≡ row → own_row on fb t dev ≡ option_map (λ old. row) (own_row on fb s dev)
own_rewritten true fb dev row s t is = ap Some is
own_rewritten false fb dev row s t is = refl

own_beside : (on : Bool) (fb n : ℕ) (s t : List ℕ) → row_of (area_at t fb) n ≡ row_of (area_at s fb) n → own_row on fb t n ≡ own_row on fb s n
own_beside true fb n s t is = ap Some is
own_beside false fb n s t is = refl

rewrote_row : (n : ℕ) (old new : Host) (dev : ℕ) (row : List ℕ) → n < 16 → IsHost old → is_running old.port ≡ true → Does old (Rewrote dev row) new
    → row_at n new ≡ (part_after_all n (part_of n old) (own_events n old (Rewrote dev row))).row
rewrote_row n old new dev row lt is runs does =
    let fb : ℕ = old.port.registers.fb in
    let s : List ℕ = old.memory.structure in
    row_if n (part_of n old) (row_at n new) (dev == n) (Rewritten row)
    (λ same. subst (λ (m : ℕ). row_at m new ≡ option_map (λ old. row) (row_at m old)) (eqb-true dev n same)
    (row_after_write dev old new dev row does
    ∙ own_rewritten old.port.registers.switching fb dev row s (overwritten s (fb + 256 * dev) row) (row_rewritten fb dev row s does.0.dev_below (area_inside old is runs) does.0.as_long)))
    (λ differs.
    let ne : n ≢ dev = λ e. eqb-false dev n differs (sym e) in
    row_after_write n old new dev row does
    ∙ own_beside old.port.registers.switching fb n s (overwritten s (fb + 256 * dev) row) (row_beside fb dev n row s does.0.dev_below lt ne (area_inside old is runs) does.0.as_long))

-- ---- one event

row_step : (n : ℕ) (old new : Host) (event : HostEvent) → n < 16 → IsHost old → is_running old.port ≡ true → Does old event new → SamePlace old.port.registers new.port.registers
    → row_at n new ≡ (part_after_all n (part_of n old) (own_events n old event)).row
row_step n old new (Took frame report) lt is runs does place =
    row_if n (part_of n old) (row_at n new) (port_of frame == n) (Came frame)
    (λ same. subst (λ (m : ℕ). row_at m new ≡ (part_after m (part_of m old) (Came frame)).row) (eqb-true (port_of frame) n same) (took_own old new frame report runs place does))
    (λ differs. took_other n old new frame report (λ e. eqb-false (port_of frame) n differs (sym e)) place does)
row_step n old new (Wrote register value) lt is runs does place = written_row n register old new value (row_same n old new place (ap (λ (m : Memory). m.structure) does.2))
row_step n old new (Flushed dev) lt is runs does place =
    let row : row_at n new ≡ row_at n old = row_same n old new place (ap (λ (m : Memory). m.structure) does.1) in
    row_if n (part_of n old) (row_at n new) (dev == n) Emptied (λ same. row) (λ differs. row)
row_step n old new (Gave frame) lt is runs does place = gone_row n (part_of n old) (row_at n new) frame (row_same n old new place (ap (λ (m : Memory). m.structure) does.1))
row_step n old new (Stored structure) lt is runs does place =
    row_moved n old new place
    ∙ row_in_area old.port.registers.switching old.port.registers.fb n old.memory.structure new.memory.structure (ap (λ (m : Memory). area_at m.structure old.port.registers.fb) does.0.after ∙ does.0.area)
row_step n old new (Rewrote dev row) lt is runs does place = rewrote_row n old new dev row lt is runs does
row_step n old new (Put at bytes) lt is runs does place = row_same n old new place (ap (λ (m : Memory). m.structure) does.0.after)

pub own_step : (n : ℕ) (old new : Host) (event : HostEvent) → n < 16 → IsHost old → IsHost new → Does old event new → is_port_event old event ≡ false → part_of n new ≡ part_after_all n (part_of n old) (own_events n old event)
own_step n old new event lt is next does none =
    let parts = or_parts (not (is_running old.port)) (stops old event) none in
    let runs : is_running old.port ≡ true = not-false (is_running old.port) parts.0 in
    let q : DevicePart = part_after_all n (part_of n old) (own_events n old event) in
    let place : SamePlace old.port.registers new.port.registers = (fb_kept old new event does (stays_put old new event is runs does), mode_kept old new event runs does) in
    let now : IsPart n new.port (part_after_all n (part_of n old) (own_events n old event)) = host_step n old new event (part_of n old) lt is next runs does parts.1 (part_is n old) in
    same_part (view_of n new.port) q.view (commands_at n new) q.commands (row_at n new) q.row (sym now.view) (sym now.commands) (row_step n old new event lt is runs does place)

-- ---- lists of events

fold_over : (n : ℕ) → n < 16 → (old new : Host) (events : List HostEvent) (run : Runs old events new) → AreHosts old new events run → AreOfDevices old new events run
    → part_of n new ≡ part_after_all n (part_of n old) (own_over n old new events run)
fold_over n lt old new [] run hosts devices = ap (part_of n) run
fold_over n lt old new (event ∷ events) run hosts devices =
    let own : List OwnEvent = own_events n old event in
    let rest : List OwnEvent = own_over n run.0 new events run.2 in
    let next : IsHost run.0 = first_host run.0 new events run.2 hosts.1 in
    fold_over n lt run.0 new events run.2 hosts.1 devices.1
    ∙ ap (λ (p : DevicePart). part_after_all n p rest) (own_step n old run.0 event lt hosts.0 next run.1 devices.0) ∙ sym (after_append n (part_of n old) own rest)

pub fold_of_own : IsFoldOfOwn
fold_of_own n lt old new events run = fold_over n lt old new events run.run run.hosts run.devices

pub are_alike : AreAlike
are_alike n lt old new events run old2 new2 events2 run2 parts own =
    fold_of_own n lt old new events run ∙ ap (λ (p : DevicePart). part_after_all n p (own_over n old new events run.run)) parts ∙ ap (part_after_all n (part_of n old2)) own
    ∙ sym (fold_of_own n lt old2 new2 events2 run2)
