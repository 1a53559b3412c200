-- For `rested_worlds_have_ended`. Slot 30 works only on a device that is plugged in, and on none that was left alone.
use Rattle.std.proofs.{Common.{◌≡◌, ◌≢◌, ◌⊎◌, ℕ, ◌<◌, ◌≤◌, length, refl, sym, ◌∙◌, inl, inr, Option, Some, None, arith}, lemmas.Bool.cases_Bool}
use Rattle.std.proofs.lemmas.Bool.{true≢false}
use Rattle.hba_driver.specs.declared.{mode.Mode.TheVariants.Switching, path.{Path.Path, Recovery.Recovery}, plan.Device.{Device, TheVariants.Absent}}
use Rattle.hba_driver.specs.{declared.plan.Device.TheVariants.{Ready, Recovering, Starting, Unusable}, Drivers.{device_at, has_ended}}
use Rattle.world_rests.specs.{Ended.IsKnown, Matches.{IsPlugged, PlanMatches, RestedPlansMatch}, Out.{DiskIsLeft, RestedDisksAreLeft, WorksElsewhere}}
use Rattle.world_rests.specs.{Over.{IsLeftAlone, IsUp, RestedWorldsHaveEnded}, Signs.{DiskHasSigned, RestedDisksHaveSigned}}
use Rattle.world_rests.proofs.{Parts.get_below, Well.well_in}

absent_or : (d : Device) → (d ≡ Absent) ⊎ (d ≢ Absent)
absent_or Absent = inl refl
absent_or d = inr (λ is. cc)

up_by : (d : Device) → IsKnown d → d ≢ Starting → IsUp d
up_by Absent known other = known
up_by Starting known other = absurd (other refl)
up_by Ready known other = tt
up_by Unusable known other = tt
up_by (Recovering way) known other = known

known_by : (d : Device) → d ≢ Absent → ((way : Recovery) → d ≡ Recovering way → ⊥) → IsKnown d
known_by Absent there stays = absurd (there refl)
known_by Starting there stays = tt
known_by Ready there stays = tt
known_by Unusable there stays = tt
known_by (Recovering way) there stays = absurd (stays way refl)

pub rested_worlds_have_ended : RestedPlansMatch → RestedDisksAreLeft → RestedDisksHaveSigned → RestedWorldsHaveEnded
rested_worlds_have_ended match are_left have_signed config units fits before told now run alone rests = record {
  path = rests30;
  plugged = λ n on. up_by (device_at now.host.driver.plan n) (known n on) ((signed n on).starts rests30);
  unplugged = λ n low none. elim (absent_or (device_at now.host.driver.plan n)) [ inl absent ↦ absent | inr there ↦ absurd (none (matches.known n low there)) ];
  requests = λ slot e below stands. elim (cases_Bool (has_ended e.head)) [
    | inl over ↦ over
    | inr unended ↦
        let on : IsPlugged e.head.dev now = matches.requests slot e stands unended in
        absurd (true≢false (sym ((left e.head.dev on).ended (known e.head.dev on) slot e below stands refl) ∙ unended))
  ];
}
  where
    matches : PlanMatches now
    matches = match config units fits before told now run rests

    low : (n : ℕ) → IsPlugged n now → n < 15
    low n on =
        let within : n < length now.devices = get_below now.devices n on.place on.at in
        let most : length now.devices ≤ 15 = (well_in Switching config units fits before told now run).most in
        omega (arith, within, most)

    left : (n : ℕ) → IsPlugged n now → DiskIsLeft n now.host
    left n on =
        let d : IsLeftAlone config units n now = alone n on in
        are_left config units n d.sectors d.plan d.past fits (low n on) d.has now d.run d.there rests

    signed : (n : ℕ) → IsPlugged n now → DiskHasSigned n now.host
    signed n on =
        let d : IsLeftAlone config units n now = alone n on in
        have_signed config units n d.sectors d.plan d.past fits (low n on) d.has now d.run d.there rests

    none_by : (o : Option Path) → now.host.driver.plan.path ≡ o → o ≡ None
    none_by None is = refl
    none_by (Some p) is = absurd ((left p.dev (matches.path p is)).free.path p is refl)

    rests30 : now.host.driver.plan.path ≡ None
    rests30 = none_by now.host.driver.plan.path refl

    never_elsewhere : (n : ℕ) → WorksElsewhere n now.host.driver.plan → ⊥
    never_elsewhere n works = let wrong : None ≡ Some works.0 = sym rests30 ∙ works.1.0 in cc

    known : (n : ℕ) → IsPlugged n now → IsKnown (device_at now.host.driver.plan n)
    known n on = known_by (device_at now.host.driver.plan n) (matches.there n on) (λ way is. never_elsewhere n ((left n on).recovers way is))
