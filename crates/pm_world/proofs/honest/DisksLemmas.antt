-- For `disks_are_honest`. What a FIS of a disk that the host of a world takes reports as done ended honestly.
use Rattle.std.proofs.Common.{◌≡◌, ◌≢◌, ◌==◌, ℕ, ◌*◌, ◌<◌, Bool, true, false, List, [], ◌∷◌, ◌++◌, refl, sym, ap, subst, ◌∙◌, inl, inr, ◌≤◌, length}
use Rattle.std.proofs.{Common.{Option, Some, None, Ok, arith}, lemmas.Bool.{ne_eqb, true≢false}}
use Rattle.std.specs.{Prelude.{◌⊎◌, if◌then◌else◌, IsSomeAnd, slice_get}, Option.option_map}
use Rattle.host_memory.specs.{Memory.{Memory, is_memory_size}, declared.table.Prd.Prd}
use Rattle.hba_commands.specs.declared.command.Command as written
use Rattle.hba_commands.specs.Requests.{request_of, work_of}
use Rattle.slots.specs.{Slots.{has_bit, is_pio, issue_at, match_some, own_issue, owned_by, slots_of}, declared.work.Work.Work}
use Rattle.slots.specs.Work as moved
use Rattle.hba_fbs.specs.{declared.report.TakeReport.TakeReport, Taking.port_of, Views.{last_command, view_of}}
use Rattle.hba_fbs.proofs.Door as slot_lemmas
use Rattle.disk_model.specs.{declared.{plan.DiskPlan.DiskPlan, request.Command.Command, unit.Unit.TheVariants.{Disk, Scripted}}, Chunks.sectors_at}
use Rattle.disk_model.specs.{Histories.{DiskOf, Happening}, Ledger.{IsSize, ReadOut, Written, ledger, medium_with}, Runs.IsDiskRun, Fronts.IsFront}
use Rattle.disk_model.specs.Anew.{StayWritten}
use Rattle.disk_model.proofs.Door.{before_is_front, writes_stay}
use Rattle.hba_laws.specs.{Agreement.{work_of_issue, work_of_transfer}, Client.own, Delivering.{completes_now, event_taken}, History.History}
use Rattle.hba_laws.specs.{History.{Transfer, completes, filled, issued}, Sound.IsHost}
use Rattle.hba_laws.specs.Hosts as event
use Rattle.hba_driver.specs.{declared.{request.Work.TheVariants.{Read, Write}, slot.Head.Head}, Delivered.TookDelivers, Drivers.{Driver, Entry}}
use Rattle.hba_driver.specs.{Drivers.entry_at, Events.{IsSoundHost, shared_by}, HostTurns.{Host, HostTurn, Tooks}, Orders.{is_queued, request_fields}}
use Rattle.hba_driver.specs.{Orders.work_fields, Served.{IsIssueOf, IsOrdered, IsRequest, IsServed, IsStep}}
use Rattle.hba_driver.specs.declared.request.Work as asked
use Rattle.disk_simulation.specs.Honest.{IsDoneHonestly, IsOnMedium}
use Rattle.disk_recovery.specs.{Steady.command_of, Ends.since_floor, Flushes.{Floor, flushes_taken, write_floors}}
use Rattle.fis_view.specs.Frames.{marked}
use Rattle.disk_recovery.proofs.Door.{each_end_is_honest, flushes_are_taken, request_kind, request_pio}
use Rattle.pm_world.specs.{Attached.{Attached, Modelled, Own, StandsFor, plan_of}, Units.LivesOn, Places.{Place, Places}, Rules.Rule}
use Rattle.pm_world.specs.{declared.step.Step.Step, ReadBack.IsPart, HonestEnds.{EndsHonestly, ReadsSectors, StandsAt, WritesSectors}}
use Rattle.pm_world.proofs.{honest.EndsSteps.{HasEnds, running}, control_port.LineLemmas.IsNow, serving.Brought.{IsBrought, StandsThere}}
use Rattle.pm_world.proofs.serving.{BroughtLemmas.brought_there, TookLemmas.{host_takes, plain_frame}, TouchedLemmas.touched_delivers}
use Rattle.pm_world.proofs.serving.TouchedLemmas.{touched_served, touched_sound}
use Rattle.pm_world.specs.declared.step.Answer.TheVariants as answer

-- ## The disk's run

pub same_plan : (p q : DiskPlan) (k l : ℕ) → DiskOf p k ≡ DiskOf q l → (p ≡ q) × (k ≡ l)
same_plan p q k l is = (cc is, cc is)

run_of_unit : (p : DiskPlan) (k : ℕ) (history : List Happening) (u : Attached) → StandsFor u history → plan_of u ≡ DiskOf p k → IsDiskRun p k history
run_of_unit p k history (Modelled (Disk x)) stands is =
    let same = same_plan x.plan p x.sectors k is in
    subst (λ (l : ℕ). IsDiskRun p l history) same.1 (subst (λ (q : DiskPlan). IsDiskRun q x.sectors history) same.0 stands.run)
run_of_unit p k history (Modelled (Scripted reading)) stands is = absurd (cc is)
run_of_unit p k history Own stands is = absurd stands

pub lived_run : (p : DiskPlan) (k : ℕ) (unit : Attached) (past events : List Happening) (o : Option Place) → StandsFor unit past → plan_of unit ≡ DiskOf p k
    → IsSomeAnd o (λ place. LivesOn unit events place.unit) → IsDiskRun p k (past ++ events)
lived_run p k unit past events None stands is lived = absurd lived
lived_run p k unit past events (Some place) stands is lived =
    run_of_unit p k (past ++ events) place.unit (lived.stands_for past stands) (lived.plan ∙ is)

-- ## What is issued

pub record IsIssued (s : ℕ) (past : History) : Type 0 where
  pub transfer : Transfer
  pub is : issued s past ≡ Some transfer

pub issued_of_done : (s : ℕ) (host : event.Host) (frame : List ℕ) (past : History) → completes_now s host frame past ≡ true → IsIssued s past
issued_of_done s host frame past done = by_issued (issued s past) refl done
  where
    by_issued : (o : Option Transfer) → issued s past ≡ o
        → match_some o false (λ t. match_some (event_taken host frame) false (λ e. completes s e past t.work)) ≡ true → IsIssued s past
    by_issued None is done = absurd (true≢false (sym done))
    by_issued (Some t) is done = record { transfer = t; is = is }

same_entry : (e f : Entry) → Some e ≡ Some f → e ≡ f
same_entry e f h = cc h

pub record IsRequestAt (d : Driver) (n s : ℕ) (t : Transfer) (e : Entry) : Type 0 where
  pub table : t.table ≡ e.prds
  pub of_dev : e.head.dev ≡ n

pub request_at : (d : Driver) (n s : ℕ) (t : Transfer) (e : Entry) → s < 30 → entry_at d.entries s ≡ Some e → IsIssueOf d n s t → IsRequestAt d n s t e
request_at d n s t e low is issue = by_from issue.from
  where
    by_from : IsRequest d n s t ⊎ (IsStep d n s t ⊎ IsOrdered d n s t) → IsRequestAt d n s t e
    by_from (inl r) =
        let same : r.entry ≡ e = same_entry r.entry e (sym r.stands ∙ is) in
        record {
          table = r.table ∙ ap (λ (x : Entry). x.prds) same;
          of_dev = ap (λ (x : Entry). x.head.dev) (sym same) ∙ r.of_dev;
        }
    by_from (inr (inl step)) = let at : s ≡ 30 = step.slot in absurd (omega (arith, at, low))
    by_from (inr (inr order)) = let at : s ≡ 31 = order.slot in absurd (omega (arith, at, low))

-- its command is one that was issued there
pub has_command : (n s : ℕ) (h : Host) (past : History) (t : Transfer) → IsHost (shared_by h) → issued s past ≡ Some t
    → option_map work_of_transfer (issued s past) ≡ option_map work_of_issue (own_issue (view_of n h.port).slots s)
    → (command : written.Command) × (last_command h.port.commands s ≡ Some command)
has_command n s h past t sound is agrees = by_command (last_command h.port.commands s) refl
  where
    by_command : (o : Option written.Command) → last_command h.port.commands s ≡ o
        → (command : written.Command) × (last_command h.port.commands s ≡ Some command)
    by_command None none =
        let free : issue_at h.port.slots s ≡ None = sound.port.commands s none in
        let gone : own_issue (slots_of n h.port.slots) s ≡ None = slot_lemmas.own_at n h.port.slots s ∙ ap (owned_by n) free in
        let bad : Some t.work ≡ None = sym (ap (option_map work_of_transfer) is) ∙ agrees ∙ ap (option_map work_of_issue) gone in
        cc
    by_command (Some command) there = (command, there)

-- ## What a request moves

pub record MovesAll (t : Transfer) (head : Head) (reads : Bool) : Type 0 where
  pub queued : moved.is_queued t.work.kind ≡ true
  pub way : moved.is_read t.work.kind ≡ reads
  pub len : t.work.len ≡ 512 * head.sectors

some_sectors : (k : ℕ) → 0 < k → (if k == 0 then 65536 else k) ≡ k
some_sectors k less =
    let other : k ≢ 0 = λ e. absurd (omega (arith, e, less)) in
    ap (λ (b : Bool). if b then 65536 else k) (ne_eqb k 0 other)

pub read_moves : (s : ℕ) (head : Head) (t : Transfer) → head.work ≡ Read → 0 < head.sectors → t.work ≡ work_of (request_of (request_fields s head))
    → MovesAll t head true
unfolding request_fields work_of
read_moves s head t is some work =
    let work_is = work ∙ ap (λ (w : asked.Work). work_of (request_of (work_fields s w head.dev head.lba head.sectors))) is in
    record {
      queued = ap (λ (w : Work). moved.is_queued w.kind) work_is;
      way = ap (λ (w : Work). moved.is_read w.kind) work_is;
      len = ap (λ (w : Work). w.len) work_is ∙ ap (λ (k : ℕ). 512 * k) (some_sectors head.sectors some);
    }

write_moves : (s : ℕ) (head : Head) (t : Transfer) → head.work ≡ Write → 0 < head.sectors → t.work ≡ work_of (request_of (request_fields s head))
    → MovesAll t head false
unfolding request_fields work_of
write_moves s head t is some work =
    let work_is = work ∙ ap (λ (w : asked.Work). work_of (request_of (work_fields s w head.dev head.lba head.sectors))) is in
    record {
      queued = ap (λ (w : Work). moved.is_queued w.kind) work_is;
      way = ap (λ (w : Work). moved.is_read w.kind) work_is;
      len = ap (λ (w : Work). w.len) work_is ∙ ap (λ (k : ℕ). 512 * k) (some_sectors head.sectors some);
    }

-- ## Writes of a part of a history

pub part_front : (part whole : List Happening) → IsPart part whole → IsFront (ledger part).writes (ledger whole).writes
part_front part whole p =
    let stay : StayWritten part p.later = writes_stay part p.later in
    record { later = stay.later; same = ap (λ (xs : List Happening). (ledger xs).writes) p.is ∙ stay.same }

-- of two beginnings of a list, the shorter is a beginning of the other
front_by : (a b c : List Written) (x y : List Written) → c ≡ a ++ x → c ≡ b ++ y → length a ≤ length b → IsFront a b
front_by [] b c x y first second short = record { later = b; same = refl }
front_by (w ∷ a) [] c x y first second short = absurd (omega (arith, short))
front_by (w ∷ a) (v ∷ b) [] x y first second short = cc first
front_by (w ∷ a) (v ∷ b) (u ∷ c) x y first second short =
    let one : u ≡ w = cc first in
    let other : u ≡ v = cc second in
    let rest : c ≡ a ++ x = cc first in
    let more : c ≡ b ++ y = cc second in
    let f : IsFront a b = front_by a b c x y rest more (omega (arith, short)) in
    record { later = f.later; same = ap (λ (z : Written). z ∷ b) (sym other ∙ one) ∙ ap (λ (zs : List Written). w ∷ zs) f.same }

front_since : (a b whole : List Written) → IsFront a whole → IsFront b whole → length a ≤ length b → IsFront a b
front_since a b whole f g short = front_by a b whole f.later g.later f.same g.same short

-- ## A FIS that the host takes of the disk

module _ (n len : ℕ) (below : n < 15) (right : is_memory_size len ≡ true) (plan : DiskPlan) (sectors : ℕ) (size : IsSize plan sectors) (turns : List HostTurn)
    (now : Places) (i : IsNow now) (disk : List Happening) (run : IsDiskRun plan sectors disk) (down later : List (List ℕ)) (plain : List ℕ)
    (floors : ℕ → Floor) (h : HasEnds n len floors turns now.host disk down (plain ∷ later)) (s : Step) (conn number : ℕ) (report : TakeReport) (new : Places)
    (rule : Rule now s (Ok (answer.Took n conn number (marked plain n) report)) new) (at_port : port_of (marked plain n) ≡ n) where
  tooks : Tooks now.host (marked plain n) report new.host
  tooks = host_takes now new s n conn number (marked plain n) report rule

  sound : IsSoundHost now.host
  sound = touched_sound len turns now.host h.touches right h.touched

  is_host : IsHost (shared_by now.host)
  is_host = record { port = sound.ruled.rules; slots = sound.ruled.table; errors = sound.ruled.faults; memory = sound.memory }

  served : IsServed now.host.driver (shared_by now.host) h.touches
  served = touched_served len turns now.host h.touches right h.touched

  delivers : TookDelivers now.host h.touches (marked plain n) report new.host
  delivers = touched_delivers len turns now.host h.touches right h.touched (marked plain n) report new.host tooks

  -- a FLUSH that is done
  module _ (slot : ℕ) (e : Entry) (low : slot < 30) (is : entry_at now.host.driver.entries slot ≡ Some e) (calm : is_queued e.head.work ≡ false)
      (done : has_bit report.done slot ≡ true) where
    flush_slot : slot < 32
    flush_slot = omega (arith, low)

    flush_port : n < 16
    flush_port = omega (arith, below)

    flush_issue : IsIssued slot (own n h.touches)
    flush_issue =
        subst (λ (m : ℕ). IsIssued slot (own m h.touches)) at_port
        (issued_of_done slot (shared_by now.host) (marked plain n) (own (port_of (marked plain n)) h.touches)
        (sym (delivers.reported.done slot flush_slot) ∙ done))

    flush_request : IsRequestAt now.host.driver n slot flush_issue.transfer e
    flush_request = request_at now.host.driver n slot flush_issue.transfer e low is (served.issues n slot flush_issue.transfer flush_issue.is)

    flush_built : flush_issue.transfer.work ≡ work_of (request_of (request_fields slot e.head))
    flush_built =
        let c = has_command n slot now.host (own n h.touches) flush_issue.transfer is_host flush_issue.is ((served.told n flush_port).issued slot) in
        ((served.fises n slot flush_issue.transfer c.0 flush_issue.is c.1).of_request e low is).work

    pub flush_of_device : e.head.dev ≡ n
    flush_of_device = flush_request.of_dev

    pub flush_taken : (floors slot).flushes < flushes_taken disk
    flush_taken =
        flushes_are_taken n plan sectors now.host plain report new.host disk down later floors h.touches below
        (running len right plan sectors size disk run turns now i h.touches h.touched) (plain_frame plain n tooks.framed) at_port tooks h.ends slot
        flush_issue.transfer low flush_issue.is (ap (λ (w : Work). moved.is_queued w.kind) flush_built ∙ request_kind slot e ∙ calm)
        (ap (λ (w : Work). is_pio w.kind) flush_built ∙ request_pio slot e) done

  module _ (slot : ℕ) (e : Entry) (low : slot < 30) (is : entry_at now.host.driver.entries slot ≡ Some e) (queued : is_queued e.head.work ≡ true)
      (done : has_bit report.done slot ≡ true) where
    low_slot : slot < 32
    low_slot = omega (arith, low)

    issue : IsIssued slot (own n h.touches)
    issue =
        subst (λ (m : ℕ). IsIssued slot (own m h.touches)) at_port
        (issued_of_done slot (shared_by now.host) (marked plain n) (own (port_of (marked plain n)) h.touches)
        (sym (delivers.reported.done slot low_slot) ∙ done))

    request : IsRequestAt now.host.driver n slot issue.transfer e
    request = request_at now.host.driver n slot issue.transfer e low is (served.issues n slot issue.transfer issue.is)

    below_16 : n < 16
    below_16 = omega (arith, below)

    built : issue.transfer.work ≡ work_of (request_of (request_fields slot e.head))
    built =
        let c = has_command n slot now.host (own n h.touches) issue.transfer is_host issue.is ((served.told n below_16).issued slot) in
        ((served.fises n slot issue.transfer c.0 issue.is c.1).of_request e low is).work

    some : 0 < e.head.sectors
    some = ((served.bounded.entries slot e is).size queued).some

    honest : moved.is_queued issue.transfer.work.kind ≡ true → IsDoneHonestly sectors
        (since_floor (floors slot).writes (command_of slot e)) (filled slot (own n h.touches)) issue.transfer.work.len (ledger disk) (ledger disk)
    honest is_queued =
        each_end_is_honest n plan sectors now.host plain report new.host disk down later (write_floors floors) h.touches below
        (running len right plan sectors size disk run turns now i h.touches h.touched) (plain_frame plain n tooks.framed) at_port tooks h.ends.ends slot e
        issue.transfer low is queued issue.is is_queued done

    stands_at : (xs : List ℕ) (memory : Memory) (i : ℕ) → StandsThere xs issue.transfer memory i → StandsAt xs e.prds memory i
    stands_at xs memory i there =
        subst (λ (prds : List Prd). StandsAt xs prds memory i) request.table (record { inside = there.inside; is = there.is })

    pub of_device : e.head.dev ≡ n
    of_device = request.of_dev

    module _ (submitted : List Happening) (front : IsFront (ledger submitted).writes (ledger disk).writes)
        (floor : (floors slot).writes ≡ length (ledger submitted).writes) where
      reads : e.head.work ≡ Read → ReadsSectors sectors slot e submitted disk new.host.memory
      reads read =
          let m : MovesAll issue.transfer e.head true = read_moves slot e.head issue.transfer read some built in
          let way : (command_of slot e).write ≡ false =
          ap (λ (w : asked.Work). (command_of slot (record e { head = record e.head { work = w } })).write) read in
          let b : IsBrought sectors (since_floor (floors slot).writes (command_of slot e)) issue.transfer new.host.memory (ledger disk) =
          brought_there sectors n now.host new.host (marked plain n) report h.touches (since_floor (floors slot).writes (command_of slot e)) (ledger disk) slot issue.transfer at_port low_slot
          (record { is = issue.is; reads = m.way }) m.queued done delivers ((honest m.queued).reads way) in
          record {
            at = b.at;
            read = b.read;
            ended = b.ended;
            command = record {
              tag = ap (λ (c : Command). c.tag) b.command;
              lba = ap (λ (c : Command). c.lba) b.command;
              count = ap (λ (c : Command). c.count) b.command;
            };
            since = front_since (ledger submitted).writes b.read.before (ledger disk).writes front (before_is_front disk b.at b.read b.ended)
                (subst (λ (m : ℕ). m ≤ length b.read.before) floor b.since);
            until = before_is_front disk b.at b.read b.ended;
            brought = λ i less.
                stands_at (sectors_at (medium_with sectors b.read.before) e.head.lba e.head.sectors) new.host.memory i
                (b.stands i (subst (λ (k : ℕ). i < k) (sym m.len) less));
          }

      writes : e.head.work ≡ Write → WritesSectors slot e submitted disk (filled slot (own n h.touches))
      writes write =
          let m : MovesAll issue.transfer e.head false = write_moves slot e.head issue.transfer write some built in
          let way : (command_of slot e).write ≡ true =
          ap (λ (w : asked.Work). (command_of slot (record e { head = record e.head { work = w } })).write) write in
          let w : IsOnMedium (since_floor (floors slot).writes (command_of slot e)) (filled slot (own n h.touches)) issue.transfer.work.len (ledger disk) = (honest m.queued).writes way in
          record {
            at = w.at;
            written = w.written;
            entered = w.entered;
            since = subst (λ (m : ℕ). m ≤ w.at) floor w.since;
            tag = w.tag;
            place = w.place;
            long = w.long;
            bytes = λ i less. (w.bytes i (subst (λ (k : ℕ). i < k) (sym m.len) less)).0;
          }

      pub ends_honestly : EndsHonestly sectors slot e submitted disk (filled slot (own n h.touches)) new.host.memory
      ends_honestly = record { reads = reads; writes = writes }

-- what ended honestly did by what the disk did later, too, if no read and no write ended since
pub ends_later : (sectors slot : ℕ) (e : Entry) (submitted disk whole : List Happening) (bytes : ℕ → Option ℕ) (memory : Memory)
    → (ledger whole).writes ≡ (ledger disk).writes → (ledger whole).reads ≡ (ledger disk).reads → EndsHonestly sectors slot e submitted disk bytes memory
    → EndsHonestly sectors slot e submitted whole bytes memory
ends_later sectors slot e submitted disk whole bytes memory writes reads h = record {
  reads = λ read.
      let r : ReadsSectors sectors slot e submitted disk memory = h.reads read in
      record {
        at = r.at;
        read = r.read;
        ended = ap (λ (xs : List ReadOut). slice_get xs r.at) reads ∙ r.ended;
        command = r.command;
        since = r.since;
        until = subst (IsFront r.read.before) (sym writes) r.until;
        brought = r.brought;
      };
  writes = λ write.
      let w : WritesSectors slot e submitted disk bytes = h.writes write in
      record {
        at = w.at;
        written = w.written;
        entered = ap (λ (xs : List Written). slice_get xs w.at) writes ∙ w.entered;
        since = w.since;
        tag = w.tag;
        place = w.place;
        long = w.long;
        bytes = w.bytes;
      };
}
