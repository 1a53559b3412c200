-- For `rested_disks_have_done` and `rested_disks_are_left`. In a world at rest nothing is on its way between a disk and its host.
use Rattle.std.proofs.Common.{◌≡◌, ℕ, ◌<◌, Bool, true, IsTrue, List, [], ◌∷◌, ◌++◌, length, refl, sym, ap, subst, ◌∙◌, Option, Some, None, arith}
use Rattle.std.specs.{Prelude.{if◌then◌else◌, map, slice_get, IsSomeAnd, MatchOption}, List.flat_map, Option.option_to_list}
use Rattle.fis_view.specs.Frames.{Stamped}
use Rattle.pm_registers.specs.RegisterMap.{forwards}
use Rattle.multiplier.specs.State.{port_at}
use Rattle.disk_model.specs.{declared.{plan.DiskPlan.DiskPlan, unit.Unit.TheVariants.{Disk, Scripted}}, Histories.{DiskOf, Happening, Plan}}
use Rattle.disk_model.specs.{Laws.OwesNothing, Ledger.{IsSize, ledger}}
use Rattle.disk_simulation.specs.Files.{DisksSendTheirs}
use Rattle.hba_laws.specs.Client.{Touches}
use Rattle.hba_driver.specs.declared.mode.Mode.TheVariants.{Switching}
use Rattle.disk_recovery.specs.Ends.{AreEnds, IsRunning, IsTogether}
use Rattle.pm_world.specs.{Attached.{Attached, Modelled, Own}, DevicePaths.ReachedAreOrderly, Disks.{DiskRun, HasDisk, disk_history}}
use Rattle.pm_world.specs.{Downward.{falling_to, of_connection, on_down_link}, Ends.{EndsMeet, HaveMet, IsDiskWith}, PathEnds.IsThere}
use Rattle.pm_world.specs.{PathEnds.{descending_on, for_port}, Places.{Place, Places, is_config, new_world}, Rules.Run, Runs.IsReached}
use Rattle.pm_world.specs.{Traffic.{all_marked, of_conn, on_link, stamped, transit}, declared.{link.Change.Change, step.Config.Config}}
use Rattle.pm_world.specs.declared.step.{Answer.Answer, Step.Step}
use Rattle.pm_world.specs.declared.step.Answer.TheVariants as answer
use Rattle.pm_world.specs.declared.step.Step.TheVariants as step
use Rattle.world_rests.specs.{Ended.{AsidesRecover, EachAsideRecovers}, Laws.RestedHaveDone, Left.{IsOccupied, NoneIsOut, RestedDisksHaveDone}}
use Rattle.world_rests.specs.{Opens.RestedPortsAreOpen, Out.{DiskIsFree, NothingIsOut, RestedDisksAreLeft}, Rests.{HasAnswered, IsAtRest}}
use Rattle.world_rests.specs.{Rests.{NothingMoves, PortRests}, Waits.HostWaits}
use Rattle.world_rests.proofs.{Answered.{none_is_out, together_idle}, Asides.each_has_ended, Calm.GivenFits, Freed.{is_free, recovers, shows}}
use Rattle.world_rests.proofs.{NothingOut.nothing_is_out, Ready.{none_is_left, none_is_shown}, Comings.{Of, all, known, known_reached}}

run_both : (first old new : Places) (steps : List Step) (answers : List Answer) (more : List Step) (told : List Answer) → Run first steps answers old → Run old more told new
    → Run first (steps ++ more) (answers ++ told) new
run_both first old new [] [] more told run rest = subst (λ (w : Places). Run w more told new) run rest
run_both first old new (s ∷ steps) (a ∷ answers) more told run rest = (run.0, run.1, run_both run.0 old new steps answers more told run.2 rest)
run_both first old new [] (a ∷ answers) more told run rest = absurd run
run_both first old new (s ∷ steps) [] more told run rest = absurd run

abbrev SizeOf : Plan → Type 0
SizeOf (DiskOf plan sectors) = IsSize plan sectors
SizeOf other = Unit {0}

-- a disk that stands for this history has answered
answers_all : (plan : DiskPlan) (sectors : ℕ) (history : List Happening) (unit : Attached) → IsSize plan sectors → IsDiskWith plan sectors history unit → HasAnswered unit → OwesNothing (ledger history)
answers_all plan sectors history (Modelled (Disk disk)) size is answers =
    let same : DiskOf disk.plan disk.sectors ≡ DiskOf plan sectors = is.is in
    answers history is.stands (subst (λ (p : Plan). SizeOf p) (sym same) size)
answers_all plan sectors history (Modelled (Scripted reading)) size is answers = let wrong = is.is in absurd (cc wrong)
answers_all plan sectors history Own size is answers = absurd is.stands

-- the disk that is there
record IsHere (n c : ℕ) (now : Places) : Type 0 where
  place : Place
  at : slice_get now.devices n ≡ Some place
  plugged : place.plugged ≡ true
  conn : place.conn ≡ c

is_here : (n c : ℕ) (now : Places) → IsThere n c now → IsHere n c now
is_here n c now there = by_place (slice_get now.devices n) refl there
  where
    by_place : (o : Option Place) → slice_get now.devices n ≡ o → MatchOption o ⊥ (λ place. (place.plugged ≡ true) × (place.conn ≡ c)) → IsHere n c now
    by_place None at there = absurd there
    by_place (Some place) at there = record { place = place; at = at; plugged = there.0; conn = there.1 }

none_marked : (n : ℕ) (xs : List (List ℕ)) → [] ≡ all_marked n xs → xs ≡ []
none_marked n [] is = refl
none_marked n (x ∷ xs) is = cc is

-- ---- nothing on the way

module _ (n c : ℕ) (now : Places) (here : IsHere n c now) (moves : NothingMoves now) (opens : forwards now.multiplier.registers n ≡ true) where
  rests : PortRests n here.place now.multiplier
  rests = moves.ports n here.place here.at

  passed : (here.place.up.frames ≡ []) × ((port_at now.multiplier n).up ≡ None)
  passed = let p = rests.passed (λ on. opens) in (p.0, p.1)

  none_falls : falling_to n now ≡ []
  none_falls =
      ap (λ (o : Option Place). on_down_link o ++ option_to_list (port_at now.multiplier n).down) here.at
      ∙ ap (λ (xs : List Stamped). xs ++ option_to_list (port_at now.multiplier n).down) rests.down
      ∙ ap (λ (o : Option Stamped). option_to_list o) rests.falls

  none_descends : descending_on n c now ≡ []
  none_descends =
      ap (λ (fs : List Stamped). map (λ f. f.bytes) (of_connection c fs) ++ flat_map (for_port n) now.downward.frames) none_falls
      ∙ ap (λ (fs : List Stamped). flat_map (for_port n) fs) moves.downward

  none_rises : transit n c now ≡ []
  none_rises =
      ap (λ (fs : List Stamped). stamped n c fs ++ all_marked n (of_conn c (option_to_list (port_at now.multiplier n).up ++ on_link (slice_get now.devices n)))) moves.upward
      ∙ ap (λ (o : Option Stamped). all_marked n (of_conn c (option_to_list o ++ on_link (slice_get now.devices n)))) passed.1
      ∙ ap (λ (o : Option Place). all_marked n (of_conn c (on_link o))) here.at
      ∙ ap (λ (fs : List Stamped). all_marked n (of_conn c fs)) passed.0

-- ---- both ends of the disk's link

-- The disk did all this, and owes nothing. Nothing is on its way between it and its host, and the host waits.
record HasRested (n : ℕ) (plan : DiskPlan) (sectors : ℕ) (now : Places) : Type 0 where
  history : List Happening
  floors : ℕ → ℕ
  touches : Touches
  running : IsRunning plan sectors history touches now.host
  owes : OwesNothing (ledger history)
  ends : AreEnds n now.host history [] [] floors touches
  host : HostWaits now.host

has_rested : RestedHaveDone → ReachedAreOrderly → EndsMeet → (config : Config) (units : List Attached) (n sectors : ℕ) (plan : DiskPlan) (past : List Happening)
    → is_config config (length units) ≡ true → n < 15 → HasDisk units n plan sectors past
    → (now : Places) (d : DiskRun config units n now) → IsThere n d.conn now → forwards now.multiplier.registers n ≡ true → IsAtRest now → HasRested n plan sectors now
has_rested have_done orderly meet config units n sectors plan past fits below disk now d there opens rests_now =
    let steps : List Step = d.first ++ step.Came n ∷ d.steps in
    let answers : List Answer = d.told ++ answer.Came n d.conn ∷ d.answers in
    let run : Run (new_world config units) (d.first ++ step.Came n ∷ d.steps) (d.told ++ answer.Came n d.conn ∷ d.answers) now =
    run_both (new_world config units) d.out now d.first d.told (step.Came n ∷ d.steps) (answer.Came n d.conn ∷ d.answers) d.made d.run in
    let done = have_done config units fits (d.first ++ step.Came n ∷ d.steps) (d.told ++ answer.Came n d.conn ∷ d.answers) now run rests_now in
    let r : IsReached now = record { mode = Switching; config = config; units = units; fits = fits; steps = steps; answers = answers; run = run } in
    let here : IsHere n d.conn now = is_here n d.conn now there in
    let rests : PortRests n here.place now.multiplier = done.0.ports n here.place here.at in
    let of : Of here.place (port_at now.multiplier n) = known_reached orderly now r n here.place here.at in
    let on : IsTrue here.place.plugged = here.plugged in
    let present : (port_at now.multiplier n).present ≡ Some d.conn =
    ap (λ (cs : List Change). (all cs (known (port_at now.multiplier n))).0) (sym rests.presence) ∙ of.present
    ∙ ap (λ (b : Bool). if b then Some here.place.conn else None) here.plugged ∙ ap (λ (c : ℕ). Some c) here.conn in
    let met : HaveMet config units n sectors now d plan past = meet config units n sectors plan past fits below disk now d there present opens in
    let down : met.down ≡ [] = sym met.exact ∙ none_descends n d.conn now here done.0 opens in
    let up : met.up ≡ [] = none_marked n met.up (sym (none_rises n d.conn now here done.0 opens) ∙ met.path.above) in
    let its : IsDiskWith plan sectors (disk_history config units n now d past) here.place.unit =
    subst (λ (o : Option Place). IsSomeAnd o (λ place. IsDiskWith plan sectors (disk_history config units n now d past) place.unit)) here.at met.disk in
    record {
      history = disk_history config units n now d past;
      floors = met.floors;
      touches = met.touches;
      running = met.running;
      owes = answers_all plan sectors (disk_history config units n now d past) here.place.unit met.running.size its (rests.answered on opens);
      ends =
          subst (λ (xs : List (List ℕ)). AreEnds n now.host (disk_history config units n now d past) xs [] met.floors met.touches) down
          (subst (λ (xs : List (List ℕ)). AreEnds n now.host (disk_history config units n now d past) met.down xs met.floors met.touches) up met.ends);
      host = done.1;
    }

-- ---- the laws

-- the disk's port forwards
port_opens : RestedPortsAreOpen → (config : Config) (units : List Attached) (n : ℕ) → is_config config (length units) ≡ true → (now : Places) (d : DiskRun config units n now) → IsThere n d.conn now → IsAtRest now
    → forwards now.multiplier.registers n ≡ true
port_opens are_open config units n fits now d there rests_now =
    let run : Run (new_world config units) (d.first ++ step.Came n ∷ d.steps) (d.told ++ answer.Came n d.conn ∷ d.answers) now =
    run_both (new_world config units) d.out now d.first d.told (step.Came n ∷ d.steps) (answer.Came n d.conn ∷ d.answers) d.made d.run in
    let here : IsHere n d.conn now = is_here n d.conn now there in
    (are_open config units fits (d.first ++ step.Came n ∷ d.steps) (d.told ++ answer.Came n d.conn ∷ d.answers) now run rests_now).devices n here.place here.at here.plugged

pub rested_disks_have_done : DisksSendTheirs → GivenFits → RestedHaveDone → RestedPortsAreOpen → ReachedAreOrderly → EndsMeet → RestedDisksHaveDone
rested_disks_have_done theirs fit have_done are_open orderly meet config units n sectors plan past fits below disk now d there rests_now =
    let opens : forwards now.multiplier.registers n ≡ true = port_opens are_open config units n fits now d there rests_now in
    let r : HasRested n plan sectors now = has_rested have_done orderly meet config units n sectors plan past fits below disk now d there opens rests_now in
    let out : NoneIsOut n now.host.port =
    none_is_out n below plan sectors now.host r.history r.floors r.touches r.running r.owes (r.host.port.fed n (omega (arith, below))) (r.host.port.faultless n) r.ends in
    let idle : IsTogether n now.host r.history [] [] r.floors r.touches → IsOccupied n now.host.port → ⊥ =
    together_idle n below plan sectors now.host r.history r.floors r.touches r.running r.owes (r.host.port.fed n (omega (arith, below))) (r.host.port.faultless n) theirs fit in
    record {
      out = out;
      idle = λ fine. none_is_shown n now.host r.history r.host.port fine r.floors r.touches idle r.ends;
      left = λ ready. none_is_left n below plan sectors now.host r.history r.floors r.touches r.running r.host.port r.host.driver out ready idle r.ends;
    }

pub rested_disks_are_left : DisksSendTheirs → GivenFits → RestedHaveDone → RestedPortsAreOpen → ReachedAreOrderly → EndsMeet → AsidesRecover → RestedDisksAreLeft
rested_disks_are_left theirs fit have_done are_open orderly meet recover config units n sectors plan past fits below disk now d there rests_now =
    let opens : forwards now.multiplier.registers n ≡ true = port_opens are_open config units n fits now d there rests_now in
    let r : HasRested n plan sectors now = has_rested have_done orderly meet config units n sectors plan past fits below disk now d there opens rests_now in
    let out : NothingIsOut n now.host.port =
    nothing_is_out n below plan sectors now.host r.history r.floors r.touches r.running r.owes (r.host.port.fed n (omega (arith, below))) (r.host.port.faultless n) r.ends in
    let idle : IsTogether n now.host r.history [] [] r.floors r.touches → IsOccupied n now.host.port → ⊥ =
    together_idle n below plan sectors now.host r.history r.floors r.touches r.running r.owes (r.host.port.fed n (omega (arith, below))) (r.host.port.faultless n) theirs fit in
    let free : DiskIsFree n now.host = is_free n below plan sectors now.host r.history r.floors r.touches r.running r.owes r.host.port r.host.driver out idle r.ends in
    let run : Run (new_world config units) (d.first ++ step.Came n ∷ d.steps) (d.told ++ answer.Came n d.conn ∷ d.answers) now =
    run_both (new_world config units) d.out now d.first d.told (step.Came n ∷ d.steps) (answer.Came n d.conn ∷ d.answers) d.made d.run in
    let asides : EachAsideRecovers now.host = recover config units fits (d.first ++ step.Came n ∷ d.steps) (d.told ++ answer.Came n d.conn ∷ d.answers) now run in
    record {
      out = out;
      free = free;
      ended = λ known. each_has_ended n now.host asides free.requests known;
      recovers = recovers n below plan sectors now.host r.history r.floors r.touches r.running r.owes r.host.port r.host.driver out idle r.ends;
      shows = shows n below plan sectors now.host r.history r.floors r.touches r.running r.owes r.host.port r.host.driver out idle r.ends;
    }
