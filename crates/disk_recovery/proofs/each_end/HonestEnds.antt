-- For `each_end_is_honest`. What a report says is done of a queued request was done honestly, by all that the disk did,
-- whatever went wrong before.
use Rattle.std.proofs.{Common.{◌≡◌, ℕ, ◌<◌, true, List, [], ◌∷◌, sym, ◌∙◌, subst, inl, inr, arith, Some, ◌≤◌, length}, lemmas.Bool.{true≢false}}
use Rattle.fis_view.specs.Frames.{IsFrame, marked}
use Rattle.slots.specs.Slots.{has_bit}
use Rattle.slots.specs.Work as moved
use Rattle.hba_fbs.specs.{declared.report.TakeReport.TakeReport, Taking.{ignores, port_of}}
use Rattle.disk_model.specs.{declared.{plan.DiskPlan.DiskPlan, request.Command.Command}, Histories.Happening, Ledger.ledger}
use Rattle.hba_laws.specs.{Client.{Touches, own}, History.{Transfer, filled, issued}}
use Rattle.hba_laws.specs.Hosts as event
use Rattle.disk_simulation.specs.{Anew.IsKeptOn, Followed.IsFollowed, Honest.{BroughtSectors, IsDoneHonestly, IsOnMedium}, Watched.IsWatched}
use Rattle.disk_simulation.specs.Same.{SlotCommand}
use Rattle.disk_simulation.specs.Phases as phase
use Rattle.disk_simulation.proofs.Door.{aside_is_kept, each_done, hosted_on_is_kept, watches_on}
use Rattle.hba_driver.specs.{Drivers.{Entry, entry_at}, Events.shared_by, HostTurns.{Does, Host, Took}, Orders.is_queued}
use Rattle.hba_driver.proofs.Door.{sound_shared}
use Rattle.disk_recovery.specs.{Steady.command_of, Ends.{Apart, AreEnds, EachEndIsHonest, IsOnTime, IsRunning, IsSetAside, IsTogether, Together}}
use Rattle.disk_recovery.specs.Ends.{since_floor}
use Rattle.disk_recovery.proofs.{apart.ApartBegins.aside_at, coming.ErrorLemmas.{report_ignored, stale_ignored, together_hears}}
use Rattle.disk_recovery.proofs.{each_end.ReadLemmas.ended_followed, coming.StaleLemmas.by_stale}

module _ (n : ℕ) (plan : DiskPlan) (sectors : ℕ) (h : Host) (bytes : List ℕ) (report : TakeReport) (new : Host) (disk : List Happening)
    (down up : List (List ℕ)) (floors : ℕ → ℕ) (touches : Touches)
    (below : n < 15) (runs : IsRunning plan sectors disk touches h) (framed : IsFrame bytes) (port : port_of (marked bytes n) ≡ n)
    (does : Does h (Took (marked bytes n) report) new)
    (s : ℕ) (e : Entry) (t : Transfer) (low : s < 30) (stands : entry_at h.driver.entries s ≡ Some e) (queued : is_queued e.head.work ≡ true)
    (here : issued s (own n touches) ≡ Some t)
    (kind : moved.is_queued t.work.kind ≡ true) (done : has_bit report.done s ≡ true) where
  abbrev takes : event.TakesFrame (shared_by h) (marked bytes n) report (shared_by new)
  takes = record { ignored = does.ignored; heard = does.heard }

  abbrev IsHonest : SlotCommand → (base given : List Happening) → Type 0
  IsHonest c base given = IsDoneHonestly sectors c (filled s (own n touches)) t.work.len (ledger base) (ledger given)

  module _ (g : IsTogether n h disk down (bytes ∷ up) floors touches) where
    abbrev kept : IsKeptOn n g.base (shared_by h) g.given g.commands (own n touches)
    kept = hosted_on_is_kept n g.base (shared_by h) g.given g.commands (own n touches) below g.served.hosted

    next_watched : g.stale ≡ [] → g.later ≡ bytes ∷ up → IsWatched g.base disk g.given down [] (bytes ∷ up)
    next_watched none next =
        subst (IsWatched g.base disk g.given down []) next
        (subst (λ (xs : List (List ℕ)). IsWatched g.base disk g.given down xs g.later) none g.watched)

    next_honest : IsWatched g.base disk g.given down [] (bytes ∷ up) → IsHonest (since_floor (floors s) (command_of s e)) disk disk
    next_honest watched =
        let followed : IsFollowed g.base disk g.given down [] (bytes ∷ up) = watches_on.follows g.base disk g.given down [] (bytes ∷ up) watched in
        let honest : IsHonest (g.commands s) disk g.given =
        each_done plan sectors disk g.given bytes runs.size runs.run n (shared_by h) (shared_by new) report g.commands (own n touches)
        (sound_shared h g.served.sound) below framed does.framed port (phase.Together g.base down up followed g.served.hosted) takes s t
        (omega (arith, low)) here kind done in
        let reached : floors s ≤ (g.commands s).since = g.reached s t here in
        subst (λ (c : Command). IsHonest (since_floor (floors s) c) disk disk) (g.served.named s t e here stands queued)
        (record {
          reads = λ way.
              let b : BroughtSectors sectors (g.commands s) (filled s (own n touches)) t.work.len (ledger g.given) = honest.reads way in
              record {
                at = b.at;
                read = b.read;
                ended =
                    ended_followed plan sectors g.base disk g.given down [] (bytes ∷ up) runs.size runs.run followed kept.careful b.at b.read
                    b.ended;
                command = b.command;
                since = let since : (g.commands s).since ≤ length b.read.before = b.since in omega (arith, reached, since);
                bytes = b.bytes;
              };
          writes = λ way.
              let w : IsOnMedium (g.commands s) (filled s (own n touches)) t.work.len (ledger disk) = honest.writes way in
              record {
                at = w.at;
                written = w.written;
                entered = w.entered;
                since = let since : (g.commands s).since ≤ w.at = w.since in omega (arith, reached, since);
                tag = w.tag;
                place = w.place;
                long = w.long;
                bytes = w.bytes;
              };
        })

    together_honest : IsHonest (since_floor (floors s) (command_of s e)) disk disk
    together_honest = elim (by_stale bytes up g.stale g.later g.up_is) [
      | inl next ↦ next_honest (next_watched next.0 next.1)
      | inr old ↦
          let thrown : ignores (port_of (marked bytes n)) h.port (marked bytes n) ≡ true =
          stale_ignored n h g.base g.given g.commands touches bytes below framed port
          (together_hears n plan sectors disk down (bytes ∷ up) floors touches h runs g) g.served old.rest
          (subst (IsOnTime n h g.base g.given) old.is g.on_time) in
          absurd (true≢false (sym done ∙ (report_ignored h (marked bytes n) report new does thrown).done s))
    ]

  apart_honest : IsSetAside n h disk down (bytes ∷ up) → IsHonest (since_floor (floors s) (command_of s e)) disk disk
  apart_honest a =
      absurd (true≢false (sym done ∙ aside_is_kept.never_done n (shared_by h) (shared_by new) (marked bytes n) report (own n touches) port
      (aside_at n h a.stage touches below runs.on.served a.at) takes s t here kind))

  end_honest : AreEnds n h disk down (bytes ∷ up) floors touches → IsHonest (since_floor (floors s) (command_of s e)) disk disk
  end_honest (Together g) = together_honest g
  end_honest (Apart a are) = apart_honest a

pub each_end_is_honest : EachEndIsHonest
each_end_is_honest n plan sectors h bytes report new disk down up floors touches below runs framed port does ends s e t low stands queued here kind done =
    end_honest n plan sectors h bytes report new disk down up floors touches below runs framed port does s e t low stands queued here kind done ends
