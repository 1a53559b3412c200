-- For `disks_are_honest`. Where a read's bytes stand when it is done.
use Rattle.std.proofs.Common.{◌≡◌, ℕ, ◌<◌, ◌++◌, true, false, List, ◌∷◌, refl, sym, ap, subst, ◌∙◌, Option, Some, None}
use Rattle.std.specs.Prelude.{if◌then◌else◌}
use Rattle.std.proofs.lemmas.Bool.{eq-eqb, true≢false}
use Rattle.slots.specs.{Slots.{has_bit, is_pio, match_some}, Work.is_queued, declared.work.Work.Work}
use Rattle.hba_fbs.specs.{declared.report.TakeReport.TakeReport, Taking.port_of}
use Rattle.disk_model.specs.Ledger.{Ledger}
use Rattle.hba_laws.specs.{Client.{IsReading, Touches, own}, Delivering.{by_device, event_taken, completes_now, touched}}
use Rattle.hba_laws.specs.History.{Event, History, Transfer, completes, filled}
use Rattle.hba_laws.specs.History as event
use Rattle.hba_laws.specs.Hosts as host_event
use Rattle.hba_driver.specs.{Delivered.{IsAtItsPlace, TookDelivers}, Events.shared_by, HostTurns.Host}
use Rattle.disk_simulation.specs.{Honest.BroughtSectors, Same.SlotCommand}
use Rattle.disk_simulation.proofs.Door.{no_end, not_pio}
use Rattle.pm_world.proofs.serving.Brought.{IsBrought}

-- what completes a queued command fills nothing
fills_nothing : (s : ℕ) (e : Event) (past : History) (w : Work) → is_queued w.kind ≡ true → completes s e past w ≡ true
    → filled s (e ∷ past) ≡ filled s past
fills_nothing s (event.Issued slot t) past w queued done = absurd (true≢false (sym done))
fills_nothing s (event.Carried bytes) past w queued done = absurd (no_end _ (is_pio w.kind) _ _ (not_pio w.kind queued) done)
fills_nothing s other past w queued done = refl

-- so the FIS by which it is done leaves what is filled
pub leaves_filled : (m s : ℕ) (o : Option Event) (touches : Touches) (w : Work) → is_queued w.kind ≡ true
    → match_some o false (λ e. completes s e (own m touches) w) ≡ true
    → filled s (own m (by_device m o ++ touches)) ≡ filled s (own m touches)
leaves_filled m s None touches w queued done = refl
leaves_filled m s (Some e) touches w queued done =
    ap (λ b. filled s (if b then e ∷ own m touches else own m touches)) (eq-eqb m m refl)
    ∙ fills_nothing s e (own m touches) w queued done

-- where the sectors of a read that is done stand
pub brought_there : (sectors n : ℕ) (old new : Host) (bytes : List ℕ) (report : TakeReport) (touches : Touches) (c : SlotCommand) (k : Ledger) (slot : ℕ) (t : Transfer)
    → port_of bytes ≡ n → slot < 32 → IsReading n slot t touches → is_queued t.work.kind ≡ true → has_bit report.done slot ≡ true
    → TookDelivers old touches bytes report new → BroughtSectors sectors c (filled slot (own n touches)) t.work.len k
    → IsBrought sectors c t new.memory k
brought_there sectors n old new bytes report touches c k slot t port_is low reading queued named delivers brought =
    let its : IsReading (port_of bytes) slot t touches = subst (λ (m : ℕ). IsReading m slot t touches) (sym port_is) reading in
    let past : History = own (port_of bytes) touches in
    let now : completes_now slot (shared_by old) bytes (own (port_of bytes) touches) ≡ true = sym (delivers.reported.done slot low) ∙ named in
    let done : match_some (event_taken (shared_by old) bytes) false (λ e. completes slot e (own (port_of bytes) touches) t.work) ≡ true =
    sym (ap (λ (o : Option Transfer). match_some o false
    (λ u. match_some (event_taken (shared_by old) bytes) false (λ e. completes slot e (own (port_of bytes) touches) u.work))) its.is) ∙ now in
    let left : filled slot (own (port_of bytes) (by_device (port_of bytes) (event_taken (shared_by old) bytes) ++ touches))
    ≡ filled slot (own (port_of bytes) touches) =
    leaves_filled (port_of bytes) slot (event_taken (shared_by old) bytes) touches t.work queued done in
    let same : filled slot (own (port_of bytes) touches) ≡ filled slot (own n touches) = ap (λ (m : ℕ). filled slot (own m touches)) port_is in
    record {
      at = brought.at;
      read = brought.read;
      ended = brought.ended;
      command = brought.command;
      since = brought.since;
      stands = λ i less.
          let p : IsAtItsPlace (port_of bytes) slot i t (touched (shared_by old) (host_event.Took bytes report) ++ touches) new.memory =
          delivers.placed slot i t low named its less in
          record {
            inside = p.inside;
            is =
                sym ((brought.bytes i less).0) ∙ sym (ap (λ (f : ℕ → Option ℕ). f i) (left ∙ same)) ∙ p.is_filled
                ∙ sym (ap (λ (b : ℕ). Some b) p.stands);
          };
    }
