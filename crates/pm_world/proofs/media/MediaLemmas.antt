-- For `media_change_by_writes`. The medium of a disk in a world is that of the writes that ended.
use Rattle.std.proofs.Common.{◌≡◌, ℕ, List, [], ◌++◌, append_assoc, refl, ap, subst, sym, ◌∙◌, Option, Some, None}
use Rattle.std.specs.Prelude.{IsSomeAnd, slice_get}
use Rattle.disk_model.specs.{declared.{plan.DiskPlan.DiskPlan, unit.Unit.TheVariants.{Disk, Scripted}}, Disks.{DiskValue, Moment}}
use Rattle.disk_model.specs.{Histories.{DiskOf, Happening}, Ledger.{ledger, medium_with}, Runs.{DiskStandsFor, IsDiskRun, moment}}
use Rattle.disk_model.proofs.Door.{agrees}
use Rattle.hba_driver.specs.declared.mode.Mode.TheVariants.{Switching}
use Rattle.pm_world.specs.{Attached.{Attached, Modelled, Own, StandsFor, plan_of}, Disks.HasDisk, Media.{HasMedium, MediaAreOfWrites, ShowsWrites}}
use Rattle.pm_world.specs.{Places.{Place, new_world}, Runs.over, Units.{LivesOn, happens}}
use Rattle.pm_world.proofs.{honest.DisksLemmas.{part_front, same_plan}, units.Units.units_lived_on}

module _ (units : List Attached) (n sectors : ℕ) (plan : DiskPlan) (past : List Happening) (disk : HasDisk units n plan sectors past) (since : List Happening) where
  abbrev history : List Happening
  history = past ++ since

  of_disk : (x : DiskValue) → DiskStandsFor x history → x.plan ≡ plan → x.sectors ≡ sectors → x.now.medium ≡ medium_with sectors (ledger history).writes
  of_disk x stands plan_is sectors_are =
      let first : IsDiskRun plan x.sectors history = subst (λ (p : DiskPlan). IsDiskRun p x.sectors history) plan_is stands.run in
      let whole : IsDiskRun plan sectors history = subst (λ (k : ℕ). IsDiskRun plan k history) sectors_are first in
      let is : x.now ≡ moment plan sectors history =
      stands.now ∙ ap (λ (p : DiskPlan). moment p x.sectors history) plan_is ∙ ap (λ (k : ℕ). moment plan k history) sectors_are in
      ap (λ (t : Moment). t.medium) is ∙ (agrees plan sectors history disk.size whole).medium

  of_unit : (u : Attached) → StandsFor u history → plan_of u ≡ DiskOf disk.disk.plan disk.disk.sectors → HasMedium sectors (ledger history).writes u
  of_unit (Modelled (Disk x)) stands is =
      let same = same_plan x.plan disk.disk.plan x.sectors disk.disk.sectors is in
      of_disk x stands (same.0 ∙ disk.plan_is) (same.1 ∙ disk.sectors_are)
  of_unit (Modelled (Scripted reading)) stands is = absurd (cc is)
  of_unit Own stands is = absurd stands

  of_place : (o : Option Place) → IsSomeAnd o (λ place. LivesOn (Modelled (Disk disk.disk)) since place.unit)
      → IsSomeAnd o (λ place. HasMedium sectors (ledger history).writes place.unit)
  of_place None lived = absurd lived
  of_place (Some a) lived = of_unit a.unit (lived.stands_for past disk.stands) lived.plan

pub media_are_of_writes : MediaAreOfWrites
media_are_of_writes config units n sectors plan past fits disk first told was made steps answers now run =
    let before = over (happens n) (new_world config units) first told was made in
    let later = over (happens n) was steps answers now run in
    record {
      first = of_place units n sectors plan past disk before (slice_get was.devices n)
          (units_lived_on (new_world config units) first told was made Switching config units fits [] [] refl n (Modelled (Disk disk.disk)) disk.there);
      last = subst (λ (xs : List Happening). ShowsWrites n sectors xs now) (sym (append_assoc past before later))
          (of_place units n sectors plan past disk (before ++ later) (slice_get now.devices n)
          (units_lived_on was steps answers now run Switching config units fits first told made n (Modelled (Disk disk.disk)) disk.there));
      more = part_front (past ++ before) ((past ++ before) ++ later) (record { later = later; is = refl });
    }
