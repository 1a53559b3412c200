-- For `tables_stay`. Bytes of the structure area apart from the received area over a run, and what a PRD table there
-- says.
use Rattle.std.proofs.Common.{◌≡◌, ℕ, ◌+◌, ◌*◌, ◌<◌, ◌≤◌, Bool, true, false, ◌&&◌, List, [], ◌∷◌, length, refl, sym, ◌∙◌, ap, subst, arith, inl, inr}
use Rattle.std.proofs.{Common.{Option, Some, None}, lemmas.Bool.{and_from, and_parts, cases_Bool}}
use Rattle.std.specs.Prelude.{slice_index, is_none, if◌then◌else◌, ◌==◌}
use Rattle.fis_view.specs.Seen.{seen}
use Rattle.hba_commands.specs.Commands.{cfis_at, command_at, command_in, command_under, has_table, is_proper, suits, total_at, total_if_sound}
use Rattle.hba_commands.specs.{Headers.header_at, Requests.{kind_of, request_at, work_of}, declared.command.Command.Command}
use Rattle.host_memory.specs.{Memory.{Memory, overwritten}, Place.total_of, Reading.{AgreeFrom, LieApart, SaysTheSame, prds_at, read_fault}}
use Rattle.host_memory.specs.declared.table.{Prd.Prd, PrdError.PrdError}
use Rattle.host_memory.proofs.Door.{says_the_same}
use Rattle.slots.specs.Slots.{Issue, match_some, own_issue}
use Rattle.hba_fbs.specs.{Tables.{is_readable, prds_of}, Taking.{admitted, ignores, port_of, row_for}, Views.last_command}
use Rattle.hba_laws.specs.{Hosts.{Does, Host, HostEvent, Put, Rewrote, Runs, Stored, Took, Wrote}, Sound.{AreHosts, IsHost}, Tables.BytesStay}
use Rattle.hba_laws.specs.Tables.{IssuedStayReadable, Spares, SparesBytes, TablesStay}
use Rattle.hba_laws.proofs.{prd_tables.AreaLemmas.{apart_posted, apart_rewritten, row_inside}, soundness.KeptLemmas.{client_lens, fb_kept}}
use Rattle.hba_laws.proofs.soundness.KeptLemmas.{first_host, structure_lens}

-- ---- bytes

same_bytes : (at count : ℕ) (s t : List ℕ) → t ≡ s → AgreeFrom at count s t
same_bytes at count s t is = λ i h. ap (λ (x : List ℕ). slice_index x (at + i)) (sym is)

rewritten : (at count fb dev : ℕ) (row : List ℕ) (old new : Memory) → dev < 16 → length row ≡ 256 → new ≡ record old { structure = overwritten old.structure (fb + 256 * dev) row }
    → length old.structure ≡ 1048576 → length new.structure ≡ 1048576 → LieApart at count fb 4096 → AgreeFrom at count old.structure new.structure
rewritten at count fb dev row old new lt long after was is apart =
    let becomes : new.structure ≡ overwritten old.structure (fb + 256 * dev) row = ap (λ (m : Memory). m.structure) after in
    let room : fb + 256 * dev + length row ≤ length old.structure =
    row_inside old.structure (fb + 256 * dev) row 1048576 was (ap (λ (x : List ℕ). length x) (sym becomes) ∙ is) (omega arith) in
    λ i h. apart_rewritten at count fb dev row old.structure lt long room apart i h ∙ ap (λ (x : List ℕ). slice_index x (at + i)) (sym becomes)

step : (at count : ℕ) (old new : Host) (event : HostEvent) → IsHost old → IsHost new → Does old event new → LieApart at count old.port.registers.fb 4096 → SparesBytes at count old event
    → AgreeFrom at count old.memory.structure new.memory.structure
step at count old new (Took frame report) is next does apart spares =
    elim (cases_Bool (ignores (port_of frame) old.port frame)) [
      | inl t ↦ same_bytes at count old.memory.structure new.memory.structure (ap (λ (m : Memory). m.structure) (does.ignored t).memory)
      | inr f ↦
          apart_posted at count old.port.registers.fb (row_for old.port (port_of frame)) (admitted (port_of frame) (seen frame)) old.memory.structure new.memory.structure apart (does.heard f).structure
    ]
step at count old new (Wrote register value) is next does apart spares = same_bytes at count old.memory.structure new.memory.structure (ap (λ (m : Memory). m.structure) does.2)
step at count old new (Stored structure) is next does apart spares =
    λ i h. spares i h ∙ ap (λ (m : Memory). slice_index m.structure (at + i)) (sym does.0.after)
step at count old new (Rewrote dev row) is next does apart spares =
    rewritten at count old.port.registers.fb dev row old.memory new.memory does.0.dev_below does.0.as_long does.0.after is.memory.structure_len next.memory.structure_len apart
step at count old new (Put at2 bytes) is next does apart spares = same_bytes at count old.memory.structure new.memory.structure (ap (λ (m : Memory). m.structure) does.0.after)
step at count old new other is next does apart spares = same_bytes at count old.memory.structure new.memory.structure (ap (λ (m : Memory). m.structure) does.1)

bytes_over : (at count : ℕ) (old new : Host) (events : List HostEvent) (run : Runs old events new) → AreHosts old new events run → LieApart at count old.port.registers.fb 4096
    → Spares at count old new events run → AgreeFrom at count old.memory.structure new.memory.structure
bytes_over at count old new [] run hosts apart spares = same_bytes at count old.memory.structure new.memory.structure (ap (λ (h : Host). h.memory.structure) run)
bytes_over at count old new (event ∷ events) run hosts apart spares =
    let next : IsHost run.0 = first_host run.0 new events run.2 hosts.1 in
    let still : LieApart at count run.0.port.registers.fb 4096 = subst (λ (fb : ℕ). LieApart at count fb 4096) (sym (fb_kept old run.0 event run.1 spares.0)) apart in
    λ i h. step at count old run.0 event hosts.0 next run.1 apart spares.1 i h ∙ bytes_over at count run.0 new events run.2 hosts.1 still spares.2 i h

pub bytes_stay : BytesStay
bytes_stay at count old new events keeps = bytes_over at count old new events keeps.run keeps.hosts keeps.apart keeps.spares

-- ---- tables

abbrev readable_by : Option PrdError → List Prd → ℕ → Bool
readable_by fault prds len = is_none fault && (total_of prds == len)

readable_same : (command : Command) (old new : Memory) (len : ℕ) → length new.client ≡ length old.client → SaysTheSame (length old.client) (command.table + 128) command.count old.structure new.structure
    → is_readable new len command ≡ is_readable old len command
readable_same command old new len long says =
    let fault : read_fault new.structure (length new.client) (command.table + 128) command.count ≡ read_fault old.structure (length old.client) (command.table + 128) command.count =
    ap (λ (n : ℕ). read_fault new.structure n (command.table + 128) command.count) long ∙ sym says.refusal in
    ap (λ (x : Option PrdError). readable_by x (prds_of new command) len) fault
    ∙ ap (λ (x : List Prd). readable_by (read_fault old.structure (length old.client) (command.table + 128) command.count) x len) (sym says.entries)

sound_by : (command : Command) (old new : Memory) (o : Option Issue) (q : Option Command) → q ≡ Some command → ((len : ℕ) → is_readable new len command ≡ is_readable old len command)
    → match_some o None (λ issue. match_some q None (λ c. if is_readable new issue.work.len c then Some c else None))
    ≡ match_some o None (λ issue. match_some q None (λ c. if is_readable old issue.work.len c then Some c else None))
sound_by command old new None q is same = refl
sound_by command old new (Some issue) None is same = cc
sound_by command old new (Some issue) (Some c) is same =
    let e : c ≡ command = cc in
    ap (λ (x : Command). if is_readable new issue.work.len x then Some x else None) e
    ∙ ap (λ (b : Bool). if b then Some command else None) (same issue.work.len)
    ∙ ap (λ (x : Command). if is_readable old issue.work.len x then Some x else None) (sym e)

pub tables_stay : TablesStay
tables_stay command old new events keeps =
    let long : length new.memory.structure ≡ length old.memory.structure = structure_lens old new events keeps.run keeps.hosts in
    let client : length new.memory.client ≡ length old.memory.client = client_lens old new events keeps.run in
    let says : SaysTheSame (length old.memory.client) (command.table + 128) command.count old.memory.structure new.memory.structure =
    says_the_same (length old.memory.client) (command.table + 128) command.count old.memory.structure new.memory.structure
    (bytes_stay (command.table + 128) (16 * command.count) old new events keeps) (λ h. omega (arith, long, h), λ h. omega (arith, long, h)) in
    let readable : (len : ℕ) → is_readable new.memory len command ≡ is_readable old.memory len command = λ len. readable_same command old.memory new.memory len client says in
    record {
      entries = sym says.entries;
      readable = readable;
      sound = λ commands own slot is. sound_by command old.memory new.memory (own_issue own slot) (last_command commands slot) is readable;
    }

-- ---- commands that are issued

total_is : (fault : Option PrdError) (total t : ℕ) → total_if_sound fault total ≡ Some t → (is_none fault ≡ true) × (total ≡ t)
total_is None total t h = (refl, cc)
total_is (Some e) total t h = cc

then_some : {A : Type 0} (b : Bool) (o : Option A) (a : A) → (if b then o else None) ≡ Some a → (b ≡ true) × (o ≡ Some a)
then_some true o a h = (refl, h)
then_some false o a h = cc

-- the PRDs of a command that stands in a slot can be read, and have its bytes
pub stands_readable : (memory : Memory) (clb slot : ℕ) (armed : Bool) (command : Command) → command_at memory clb slot armed ≡ Some command → is_readable memory command.work.len command ≡ true
unfolding command_under is_proper
stands_readable memory clb slot armed command h =
    let header = header_at memory.structure clb slot in
    let cfis : List ℕ = cfis_at memory.structure header.ctba in
    let fault : Option PrdError = read_fault memory.structure (length memory.client) (header.ctba + 128) header.prdtl in
    let prds : List Prd = prds_at memory.structure (header.ctba + 128) header.prdtl in
    let total : Option ℕ = total_at memory.structure (length memory.client) header.ctba header.prdtl in
    let made = then_some (has_table header) (command_in header cfis (request_at cfis) total slot armed) command h in
    (elim (request_at cfis) as (λ r. command_in header cfis r total slot armed ≡ Some command → is_readable memory command.work.len command ≡ true) [
      | None ↦ λ e. cc
      | Some request ↦ λ e.
          (elim total as (λ t. total ≡ t → command_in header cfis (Some request) t slot armed ≡ Some command → is_readable memory command.work.len command ≡ true) [
            | None ↦ λ is f. cc
            | Some n ↦ λ is f.
                let whole : Command = record { work = work_of request; cfis = cfis; table = header.ctba; count = header.prdtl } in
                let found = then_some (is_proper header request n slot armed) (Some whole) command f in
                let bytes = and_parts ((header.cfl == 5) && (header.pmp == request.pm_port) && suits (kind_of request) header request slot armed) (n == (work_of request).len) found.0 in
                let sound = total_is fault (total_of prds) n is in
                let same : (total_of prds == (work_of request).len) ≡ true = ap (λ (k : ℕ). k == (work_of request).len) sound.1 ∙ bytes.1 in
                let it : whole ≡ command = cc in
                subst (λ (c : Command). is_readable memory c.work.len c ≡ true) it (and_from (is_none fault) (total_of prds == (work_of request).len) sound.0 same)
          ]) refl e
    ]) made.1

pub issued_stay_readable : IssuedStayReadable
issued_stay_readable command old new events keeps clb slot armed h =
    (tables_stay command old new events keeps).readable command.work.len ∙ stands_readable old.memory clb slot armed command h
