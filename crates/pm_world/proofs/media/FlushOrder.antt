-- For `flushes_follow_writes`. A FLUSH that is submitted in a run behind the poll of a write finds the write on the
-- medium.
use Rattle.std.proofs.Common.{◌≡◌, ◌-◌, ◌*◌, ◌+◌, ◌<◌, ℕ, true, List, [], ◌∷◌, ◌++◌, append_assoc, length, refl, ap, subst, sym, ◌∙◌, Option, Some, None}
use Rattle.std.specs.Prelude.{IsSomeAnd, slice_get, slice_index}
use Rattle.host_memory.specs.{Memory.client_start, Place.place}
use Rattle.disk_model.specs.{declared.{plan.DiskPlan.DiskPlan, unit.Unit.TheVariants.{Disk, Scripted}}, Disks.{DiskValue, Moment}}
use Rattle.disk_model.specs.{Histories.{DiskOf, Happening}, Runs.{DiskStandsFor, IsDiskRun, moment}}
use Rattle.hba_driver.specs.{declared.{mode.Mode.TheVariants.Switching, slot.Phase.TheVariants.Issued}, Drivers.rephased, Events.shared_by}
use Rattle.hba_driver.specs.{Orders.is_queued, Served.IsServed, Submits.new_entry}
use Rattle.pm_world.specs.{Attached.{Attached, Modelled, Own, StandsFor, plan_of}, Disks.{DiskRun, EndedSince, FlushedSince, HasDisk, disk_history}}
use Rattle.pm_world.specs.{HonestEnds.StandsAt, Flushing.{FlushesFollowWrites, HasWrites}, InOrder.disk_run}
use Rattle.pm_world.specs.{Places.{Place, Places, is_config, new_world}, ReadBack.{IsPart, Shows}, Runs.over, Turns.turn_of, Units.{LivesOn, happens}}
use Rattle.pm_world.specs.declared.step.Config.{Config}
use Rattle.pm_world.specs.declared.step.Answer.TheVariants as answer
use Rattle.pm_world.specs.declared.step.Step.TheVariants as step
use Rattle.pm_world.proofs.{turns.Delivery.sized, honest.HonestRuns.disk_runs, media.{InOrderLemmas.history_part, ReadBackLemmas.writes_stay_there}}
use Rattle.pm_world.proofs.{honest.DisksLemmas.same_plan, media.SubmittedLemmas.written_as_submitted, serving.TouchedLemmas.touched_served}
use Rattle.pm_world.proofs.units.Units.{units_lived_on}

-- ## What a disk shows at the end of its run

module _ (config : Config) (units : List Attached) (n sectors : ℕ) (plan : DiskPlan) (past : List Happening) (fits : is_config config (length units) ≡ true)
    (below : n < 15) (disk : HasDisk units n plan sectors past) (now : Places) (d : DiskRun config units n now) (i : ℕ) where
  abbrev shown_now : Option ℕ
  shown_now = slice_get (moment plan sectors (disk_history config units n now d past)).medium i

  on_disk : (x : DiskValue) → DiskStandsFor x (disk_history config units n now d past) → x.plan ≡ plan → x.sectors ≡ sectors
      → slice_get x.now.medium i ≡ shown_now
  on_disk x stands plan_is sectors_are =
      let is : x.now ≡ moment plan sectors (disk_history config units n now d past) =
      stands.now ∙ ap (λ (p : DiskPlan). moment p x.sectors (disk_history config units n now d past)) plan_is
      ∙ ap (λ (k : ℕ). moment plan k (disk_history config units n now d past)) sectors_are in
      ap (λ (t : Moment). slice_get t.medium i) is

  by_unit : (u : Attached) → StandsFor u (disk_history config units n now d past) → plan_of u ≡ DiskOf disk.disk.plan disk.disk.sectors → Shows i shown_now u
  by_unit (Modelled (Disk x)) stands is =
      let same = same_plan x.plan disk.disk.plan x.sectors disk.disk.sectors is in
      on_disk x stands (same.0 ∙ disk.plan_is) (same.1 ∙ disk.sectors_are)
  by_unit (Modelled (Scripted reading)) stands is = absurd (cc is)
  by_unit Own stands is = absurd stands

  abbrev since : List Happening
  since = over (happens n) (new_world config units) d.first d.told d.out d.made
      ++ over (happens n) d.out (step.Came n ∷ d.steps) (answer.Came n d.conn ∷ d.answers) now d.run

  history_is : past ++ since ≡ disk_history config units n now d past
  history_is = sym (append_assoc past (over (happens n) (new_world config units) d.first d.told d.out d.made)
      (over (happens n) d.out (step.Came n ∷ d.steps) (answer.Came n d.conn ∷ d.answers) now d.run))

  by_place : (o : Option Place) → IsSomeAnd o (λ there. LivesOn (Modelled (Disk disk.disk)) since there.unit)
      → IsSomeAnd o (λ there. Shows i shown_now there.unit)
  by_place None lived = absurd lived
  by_place (Some a) lived = by_unit a.unit (subst (StandsFor a.unit) history_is (lived.stands_for past disk.stands)) lived.plan

  disk_shows : IsSomeAnd (slice_get now.devices n) (λ there. Shows i shown_now there.unit)
  disk_shows =
      by_place (slice_get now.devices n)
      (units_lived_on d.out (step.Came n ∷ d.steps) (answer.Came n d.conn ∷ d.answers) now d.run Switching config units fits d.first d.told d.made n (Modelled (Disk disk.disk))
      disk.there)

-- ## The law

longer_part : (part middle whole later : List Happening) → IsPart part middle → whole ≡ middle ++ later → IsPart part whole
longer_part part middle whole later p is = record {
  later = p.later ++ later;
  is = is ∙ ap (λ (xs : List Happening). xs ++ later) p.is ∙ append_assoc part p.later later;
}

pub flushes_follow_writes : FlushesFollowWrites
flushes_follow_writes config units fits steps answers now run flushed last flush sectors plan past disk d = (taken, has_writes)
  where
    taken : FlushedSince config units last.reported.dev last.reported.took.at
        (disk_run config units last.reported.dev last.reported.conn last.reported.took.at last.reported.took.before last.reported.took.told
        last.reported.took.came d) past (new_entry flushed.ticket.0 last.reported.dev last.reported.request)
    taken = last.flushed sectors plan past disk (ap is_queued flush)
        (disk_run config units last.reported.dev last.reported.conn last.reported.took.at last.reported.took.before last.reported.took.told
        last.reported.took.came d) refl

    below : last.reported.dev < 15
    below =
        let served : IsServed last.reported.took.at.host.driver (shared_by last.reported.took.at.host) last.touches =
        touched_served config.memory
        (over turn_of (new_world config units) last.reported.took.before last.reported.took.told last.reported.took.at last.reported.took.came)
        last.reported.took.at.host last.touches (sized config (length units) fits) last.touched in
        (served.bounded.entries flushed.slot (rephased Issued (new_entry flushed.ticket.0 last.reported.dev last.reported.request)) last.reported.issued).dev

    has_writes : HasWrites config units steps answers now run flushed last sectors plan past
        (disk_run config units last.reported.dev last.reported.conn last.reported.took.at last.reported.took.before last.reported.took.told
        last.reported.took.came d)
    has_writes written poll first writes queued later same disk_too c j less none =
        subst (λ (o : Option ℕ). IsSomeAnd (slice_get last.reported.took.at.devices last.reported.dev) (λ there.
        Shows (512 * first.reported.request.lba + j) o there.unit)) byte
        (disk_shows config units last.reported.dev sectors plan past fits below disk last.reported.took.at
        (disk_run config units last.reported.dev last.reported.conn last.reported.took.at last.reported.took.before last.reported.took.told
        last.reported.took.came d) (512 * first.reported.request.lba + j))
      where
        w : EndedSince config units first.reported.dev first.reported.took.at
            (disk_run config units first.reported.dev first.reported.conn first.reported.took.at first.reported.took.before first.reported.took.told
            first.reported.took.came c) past sectors written.slot (new_entry written.ticket.0 first.reported.dev first.reported.request) poll.at.host.memory
        w = first.honest sectors plan past disk_too queued
            (disk_run config units first.reported.dev first.reported.conn first.reported.took.at first.reported.took.before first.reported.took.told
            first.reported.took.came c) refl

        part : IsPart
            (disk_history config units first.reported.dev first.reported.took.at
            (disk_run config units first.reported.dev first.reported.conn first.reported.took.at first.reported.took.before first.reported.took.told
            first.reported.took.came c) past)
            (disk_history config units last.reported.dev last.reported.took.at
            (disk_run config units last.reported.dev last.reported.conn last.reported.took.at last.reported.took.before last.reported.took.told
            last.reported.took.came d) past)
        part =
            longer_part
            (disk_history config units first.reported.dev first.reported.took.at
            (disk_run config units first.reported.dev first.reported.conn first.reported.took.at first.reported.took.before first.reported.took.told
            first.reported.took.came c) past) taken.before
            (disk_history config units last.reported.dev last.reported.took.at
            (disk_run config units last.reported.dev last.reported.conn last.reported.took.at last.reported.took.before last.reported.took.told
            last.reported.took.came d) past) taken.later
            (history_part config units fits steps answers now run written flushed poll first last later same c d past taken.before taken.submitted) taken.is

        whole : IsDiskRun plan sectors
            (disk_history config units last.reported.dev last.reported.took.at
            (disk_run config units last.reported.dev last.reported.conn last.reported.took.at last.reported.took.before last.reported.took.told
            last.reported.took.came d) past)
        whole = disk_runs config units last.reported.dev sectors plan past fits below disk last.reported.took.at
            (disk_run config units last.reported.dev last.reported.conn last.reported.took.at last.reported.took.before last.reported.took.told
            last.reported.took.came d)

        as_submitted : StandsAt (w.ends.writes writes).written.bytes first.reported.request.prds.items first.reported.submitted.at.host.memory j
        as_submitted =
            written_as_submitted config units fits poll.before poll.told poll.at poll.came written first writes sectors plan past disk_too queued
            (disk_run config units first.reported.dev first.reported.conn first.reported.took.at first.reported.took.before first.reported.took.told
            first.reported.took.came c) refl j less

        byte : slice_get (moment plan sectors
            (disk_history config units last.reported.dev last.reported.took.at
            (disk_run config units last.reported.dev last.reported.conn last.reported.took.at last.reported.took.before last.reported.took.told
            last.reported.took.came d) past)).medium (512 * first.reported.request.lba + j)
            ≡ Some (slice_index first.reported.submitted.at.host.memory.client (place first.reported.request.prds.items j - client_start))
        byte =
            writes_stay_there config units first.reported.dev sectors plan past disk_too first.reported.took.at
            (disk_run config units first.reported.dev first.reported.conn first.reported.took.at first.reported.took.before first.reported.took.told
            first.reported.took.came c) written.slot (new_entry written.ticket.0 first.reported.dev first.reported.request) poll.at.host.memory writes w
            (disk_history config units last.reported.dev last.reported.took.at
            (disk_run config units last.reported.dev last.reported.conn last.reported.took.at last.reported.took.before last.reported.took.told
            last.reported.took.came d) past) whole part j less none
            ∙ (w.ends.writes writes).bytes j less ∙ as_submitted.is
