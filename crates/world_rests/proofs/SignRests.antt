-- For `rested_disks_have_signed`. In a world at rest nothing of a disk is on its way, and it owes nothing. So the host has its signature while
-- it is new to the driver, and above all while it starts.
use Rattle.std.proofs.Common.{◌≡◌, ◌≢◌, ℕ, ◌<◌, Bool, true, false, IsTrue, List, [], ◌∷◌, ◌++◌, length, refl, sym, ap, subst, ◌∙◌, Option, Some, None}
use Rattle.std.proofs.{Common.arith, lemmas.{Bool.{true≢false}, List.FromFn.{get_or-map-range_with_len}}}
use Rattle.std.specs.{Prelude.{if◌then◌else◌, slice_get, slice_index_or, IsSomeAnd, MatchOption}, Option.option_to_list}
use Rattle.fis_view.specs.{Frames.Stamped, Seen.seen}
use Rattle.host_memory.specs.Memory.{Memory}
use Rattle.pm_registers.specs.RegisterMap.{forwards}
use Rattle.multiplier.specs.State.{port_at}
use Rattle.hba_fbs.specs.Views.{Port}
use Rattle.disk_model.specs.{declared.{plan.DiskPlan.DiskPlan, unit.Unit.TheVariants.{Disk, Scripted}}, Histories.{DiskOf, Happening}}
use Rattle.disk_model.specs.{Histories.{Plan as DevicePlan, Plugged}, Laws.OwesNothing, Ledger.{IsSize, Signs, ledger}}
use Rattle.disk_model.proofs.Door.{begins_anew}
use Rattle.hba_driver.specs.declared.{mode.Mode.{Mode, TheVariants.Switching}, plan.{Device.{Device, TheVariants.Starting}, Plan.Plan}}
use Rattle.hba_driver.specs.{Drivers.device_at, HostTurns.sight_in, Seeing.Sight, Sights.{is_ata, last_d2h, sight_of}}
use Rattle.pm_world.specs.{Attached.{Attached, Modelled, Own}, DevicePaths.{ReachedAreOrderly, UnitPathsGoOn}, Disks.{DiskRun, HasDisk}}
use Rattle.pm_world.specs.{Ends.{EndsMeet, HaveMet, IsDiskWith}, PathEnds.IsThere, Places.{Place, Places, is_config, new_world}, Rules.Run}
use Rattle.pm_world.specs.{Runs.IsReached, Traffic.{all_marked, of_conn, on_link, stamped, transit}, declared.link.Change.Change}
use Rattle.pm_world.specs.declared.step.Config.{Config}
use Rattle.pm_world.specs.declared.step.Answer.TheVariants as answer
use Rattle.pm_world.specs.declared.step.Step.TheVariants as step
use Rattle.world_rests.specs.{Laws.RestedHaveDone, Opens.RestedPortsAreOpen, Out.{DiskIsLeft, RestedDisksAreLeft}, Rests.{HasAnswered, NothingMoves}}
use Rattle.world_rests.specs.{Rests.PortRests, Signs.RestedDisksHaveSigned, Waits.{ForCommand, ForEnd, ForNobody, HostWaits, NeedsNothing, Waits30}}
use Rattle.world_rests.proofs.{Comings.{Of, all, known, known_reached}, SignPast.past_away, SignPlans.Starts, SignRuns.{Followed, Left, Lives, Phase}}
use Rattle.world_rests.proofs.{SignRuns.{Waits, followed, history, none_marked, whole}, SignTurns.HasIfNew, SignWorld.all_sent}

-- ---- what the driver sees

sign_seen : (n : ℕ) (mode : Mode) (port : Port) (memory : Memory) → n < 16 → mode ≡ Switching → is_ata (seen (last_d2h memory.structure n)) ≡ true
    → slice_index_or (sight_of mode port memory).signed n false ≡ true
unfolding sight_of
sign_seen n mode port memory below on signs =
    subst (λ (m : Mode). slice_index_or (sight_of m port memory).signed n false ≡ true) (sym on)
    (get_or-map-range_with_len (λ dev. is_ata (seen (last_d2h memory.structure dev))) 0 16 n n false below (omega arith) ∙ signs)

-- slot 30 is free only if no device that starts has signed
none_starts : (n : ℕ) → n < 15 → (v : Sight) (plan : Plan) → Waits30 v plan → (device_at plan n ≡ Starting → slice_index_or v.signed n false ≡ true)
    → plan.path ≡ None → device_at plan n ≢ Starting
none_starts n below v plan (ForNobody none each) signed free starts =
    let unsigned : slice_index_or v.signed n false ≡ false = subst (λ (d : Device). NeedsNothing d (slice_index_or v.signed n false)) starts (each n below) in
    true≢false (sym (signed starts) ∙ unsigned)
none_starts n below v plan (ForCommand p goes out issued) signed free starts = let wrong : None ≡ Some p = sym free ∙ goes in cc wrong
none_starts n below v plan (ForEnd p goes out awaits resets) signed free starts = let wrong : None ≡ Some p = sym free ∙ goes in cc wrong

-- ---- the disk

abbrev SizeOf : DevicePlan → Type 0
SizeOf (DiskOf plan sectors) = IsSize plan sectors
SizeOf other = Unit {0}

-- a disk that stands for this history has answered
answers_all : (plan : DiskPlan) (sectors : ℕ) (told : List Happening) (unit : Attached) → IsSize plan sectors → IsDiskWith plan sectors told unit
    → HasAnswered unit → OwesNothing (ledger told)
answers_all plan sectors told (Modelled (Disk disk)) size is answers =
    let same : DiskOf disk.plan disk.sectors ≡ DiskOf plan sectors = is.is in
    answers told is.stands (subst (λ (p : DevicePlan). SizeOf p) (sym same) size)
answers_all plan sectors told (Modelled (Scripted reading)) size is answers = let wrong = is.is in absurd (cc wrong)
answers_all plan sectors told Own size is answers = absurd is.stands

record IsHere (n c : ℕ) (now : Places) : Type 0 where
  place : Place
  at : slice_get now.devices n ≡ Some place
  plugged : place.plugged ≡ true
  conn : place.conn ≡ c

is_here : (n c : ℕ) (now : Places) → IsThere n c now → IsHere n c now
is_here n c now there = by_place (slice_get now.devices n) refl there
  where
    by_place : (o : Option Place) → slice_get now.devices n ≡ o → MatchOption o ⊥ (λ place. (place.plugged ≡ true) × (place.conn ≡ c)) → IsHere n c now
    by_place None at there = absurd there
    by_place (Some place) at there = record { place = place; at = at; plugged = there.0; conn = there.1 }

-- ---- the law

module _ (meet : EndsMeet) (orderly : ReachedAreOrderly) (config : Config) (units : List Attached) (fits : is_config config (length units) ≡ true) (n : ℕ)
    (below : n < 15) (sectors : ℕ) (plan : DiskPlan) (past : List Happening)
    (disk : HasDisk units n plan sectors past) (now : Places) (moves : NothingMoves now) (d : DiskRun config units n now) (there : IsThere n d.conn now)
    (opens : forwards now.multiplier.registers n ≡ true) where
  here : IsHere n d.conn now
  here = is_here n d.conn now there

  rests : PortRests n here.place now.multiplier
  rests = moves.ports n here.place here.at

  on : IsTrue here.place.plugged
  on = here.plugged

  -- nothing of it is on its way up
  none_rises : transit n d.conn now ≡ []
  none_rises =
      let passed = rests.passed (λ on. opens) in
      ap (λ (fs : List Stamped). stamped n d.conn fs ++ all_marked n
      (of_conn d.conn (option_to_list (port_at now.multiplier n).up ++ on_link (slice_get now.devices n)))) moves.upward
      ∙ ap (λ (o : Option Stamped). all_marked n (of_conn d.conn (option_to_list o ++ on_link (slice_get now.devices n)))) passed.1
      ∙ ap (λ (o : Option Place). all_marked n (of_conn d.conn (on_link o))) here.at
      ∙ ap (λ (fs : List Stamped). all_marked n (of_conn d.conn fs)) passed.0

  present : (port_at now.multiplier n).present ≡ Some d.conn
  present =
      let r : IsReached now =
      record { mode = Switching; config = config; units = units; fits = fits; steps = d.first ++ step.Came n ∷ d.steps; answers = d.told ++ answer.Came n d.conn ∷ d.answers; run = whole config units n past now d } in
      let of : Of here.place (port_at now.multiplier n) = known_reached orderly now r n here.place here.at in
      ap (λ (cs : List Change). (all cs (known (port_at now.multiplier n))).0) (sym rests.presence) ∙ of.present
      ∙ ap (λ (b : Bool). if b then Some here.place.conn else None) here.plugged ∙ ap (λ (c : ℕ). Some c) here.conn

  met : HaveMet config units n sectors now d plan past
  met = meet config units n sectors plan past fits below disk now d there present opens

  owes : OwesNothing (ledger (history config units n past now d))
  owes =
      answers_all plan sectors (history config units n past now d) here.place.unit met.running.size
      (subst (λ (o : Option Place). IsSomeAnd o (λ place. IsDiskWith plan sectors (history config units n past now d) place.unit)) here.at met.disk)
      (rests.answered on opens)

  has : Phase config units n past now d → HasIfNew n now.host
  has (Left gone) = past_away n d.conn now gone there
  has (Lives at live its) = its none_rises owes.awaited
  has (Waits earlier happened h waits is) =
      let none : h.rising ≡ [] = none_marked n h.rising (sym h.off.above ∙ none_rises) in
      let told : history config units n past now d ≡ earlier ++ Plugged ∷ [] =
      is ∙ ap (λ (xs : List Happening). earlier ++ xs) (h.is ∙ ap (λ (xs : List (List ℕ)). Plugged ∷ all_sent xs) none) in
      let owed : [] ≡ Signs ∷ [] = sym owes.awaited ∙ ap (λ (xs : List Happening). (ledger xs).awaited) told ∙ (begins_anew.plugged earlier).awaited in
      cc owed

pub rested_disks_have_signed : RestedHaveDone → RestedPortsAreOpen → RestedDisksAreLeft → ReachedAreOrderly → UnitPathsGoOn → EndsMeet → RestedDisksHaveSigned
rested_disks_have_signed have_done are_open are_left orderly units_go meet config units n sectors plan past fits below disk now d there rests_now =
    let run : Run (new_world config units) (d.first ++ step.Came n ∷ d.steps) (d.told ++ answer.Came n d.conn ∷ d.answers) now =
    whole config units n past now d in
    let done : NothingMoves now × HostWaits now.host =
    have_done config units fits (d.first ++ step.Came n ∷ d.steps) (d.told ++ answer.Came n d.conn ∷ d.answers) now run rests_now in
    let at : IsHere n d.conn now = is_here n d.conn now there in
    let opens : forwards now.multiplier.registers n ≡ true =
    (are_open config units fits (d.first ++ step.Came n ∷ d.steps)
    (d.told ++ answer.Came n d.conn ∷ d.answers) now run rests_now).devices n at.place at.at at.plugged in
    let left : DiskIsLeft n now.host = are_left config units n sectors plan past fits below disk now d there rests_now in
    let f : Followed meet units_go config units fits n below sectors plan past disk d.conn now =
    followed meet units_go config units fits n below sectors plan past disk now d in
    let there_now : IsThere n f.run.conn now = subst (λ (c : ℕ). IsThere n c now) (sym f.same) there in
    let its : HasIfNew n now.host = has meet orderly config units fits n below sectors plan past disk now done.0 f.run there_now opens f.phase in
    let run_is = (met meet orderly config units fits n below sectors plan past disk now done.0 f.run there_now opens).running in
    let signs : device_at now.host.driver.plan n ≡ Starting → slice_index_or (sight_in now.host).signed n false ≡ true =
    λ starts. sign_seen n now.host.driver.plan.mode now.host.port now.host.memory (omega (arith, below)) run_is.on.sound.drives
    (its (Starts starts left.free.path) (done.1.port.faultless n)) in
    record { signed = signs; starts = none_starts n below (sight_in now.host) now.host.driver.plan done.1.driver.slot30 signs }
