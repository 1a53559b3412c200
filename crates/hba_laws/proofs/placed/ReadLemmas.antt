-- For `delivers`. A read that is reported as done stands in client memory.
use Rattle.std.proofs.Common.{◌≡◌, ℕ, ◌%◌, ◌<◌, true, false, ◌∷◌, ◌++◌, refl, sym, ap, subst, ◌∙◌, Option, Some, None, arith}
use Rattle.std.proofs.lemmas.Bool.{false≢true}
use Rattle.std.specs.Prelude.{slice_index}
use Rattle.slots.specs.Slots.{match_some}
use Rattle.hba_fbs.specs.Taking.{port_of}
use Rattle.hba_laws.specs.{Client.{AreWithin, By, IsKept, Touches, client, own}, Delivering.{DoneReadsStand, IsClient, IsDelivered, by_device}}
use Rattle.hba_laws.specs.{Delivering.event_taken, History.{Event, completes}, Hosts.Took}
use Rattle.hba_laws.proofs.{placed.ClientLemmas.{event_is, event_within}, completed.DoneLemmas.reports_done, histories.StandLemmas.completes_in_place}

below_16 : (n : ℕ) → n % 16 < 16
below_16 n = omega arith

pub done_reads_stand : DoneReadsStand
done_reads_stand host new frame report sound framed does before past hist within is reads kept s i k t below done reading lt at room =
    by_event (event_taken host frame) refl completed
  where
    n : ℕ
    n = port_of frame

    completed : match_some (event_taken host frame) false (λ e. completes s e (own (port_of frame) past) t.work) ≡ true
    completed =
        sym (ap (λ o. match_some o false (λ u. match_some (event_taken host frame) false (λ e. completes s e (own (port_of frame) past) u.work))) reading.is)
        ∙ sym ((reports_done host sound frame framed report new (own (port_of frame) past) (hist (port_of frame) (below_16 (slice_index frame 1))) does).done s below) ∙ done

    by_event : (o : Option Event) → event_taken host frame ≡ o → match_some o false (λ e. completes s e (own (port_of frame) past) t.work) ≡ true
        → IsDelivered (port_of frame) s i (by_device (port_of frame) (event_taken host frame) ++ past) new.memory.client k
    by_event None is_event done_by = absurd (false≢true done_by)
    by_event (Some e) is_event done_by =
        let same : by_device (port_of frame) (event_taken host frame) ++ past ≡ By (port_of frame) e ∷ past = ap (λ o. by_device (port_of frame) o ++ past) is_event in
        let placed = completes_in_place before past (port_of frame) e (subst IsKept same kept) (subst AreWithin same (event_within host sound past hist (Took frame report) within)) s i t reading done_by lt in
        let bytes : IsClient before (By (port_of frame) e ∷ past) new =
        subst (λ (x : Touches). IsClient before x new) same (event_is host sound past hist (Took frame report) new does reads before is) in
        subst (λ (x : Touches). IsDelivered (port_of frame) s i x new.memory.client k) (sym same) (record {
          byte = placed.byte;
          is_filled = placed.is_filled;
          stands = bytes k room ∙ ap (client before (By (port_of frame) e ∷ past)) (sym at) ∙ placed.stands;
        })
