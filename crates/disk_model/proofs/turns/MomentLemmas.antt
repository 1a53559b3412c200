-- For the calls of a disk. What one more event makes of a disk.
use Rattle.std.proofs.Common.{◌≡◌, drop, ℕ, List, [], ◌∷◌, ◌++◌, Some, None, Result, Ok, refl, ap, sym, subst, ◌∙◌}
use Rattle.fis_view.specs.declared.view.{Fis.Fis, FisFault.FisFault}
use Rattle.fis_view.specs.declared.view.Fis.TheVariants as view
use Rattle.disk_model.specs.{declared.request.Request.Request, Requests.request_of, Histories.{Happening, Sent, GoesOn, SendsNext, IsSilent}}
use Rattle.disk_model.specs.{declared.plan.DiskPlan.DiskPlan, Disks.{Moment, DiskValue, Turn, moment_after, after, after_turn, opening, turn}}
use Rattle.disk_model.specs.{Disks.{with_now, heard, received, data_taken}, Runs.{MayHappen, Runs, IsTurn, Takes, Gave, moment, disk_plan}}
use Rattle.disk_model.specs.Runs.{DiskStandsFor, DiskMaySend}

pub moment_after-append : (plan : DiskPlan) (sectors : ℕ) (m : Moment) (h : List Happening) (e : Happening) → moment_after plan sectors m (h ++ e ∷ []) ≡ after plan sectors (moment_after plan sectors m h) e
unfolding moment_after
moment_after-append plan sectors m [] e = refl
moment_after-append plan sectors m (x ∷ h) e = moment_after-append plan sectors (after plan sectors m x) h e

pub Runs-append : (plan : DiskPlan) (sectors : ℕ) (m : Moment) (h : List Happening) (e : Happening) → Runs plan sectors m h → MayHappen plan sectors (moment_after plan sectors m h) e → Runs plan sectors m (h ++ e ∷ [])
unfolding moment_after Runs
Runs-append plan sectors m [] e run may = (may, tt)
Runs-append plan sectors m (x ∷ h) e run may = (run.0, Runs-append plan sectors (after plan sectors m x) h e run.1 may)

-- a new disk
pub disk_opens : (d : DiskValue) → d.now ≡ opening d.sectors → DiskStandsFor d []
unfolding moment_after Runs
disk_opens d is = record { run = tt; now = is }

-- one more event
stands_on : (d : DiskValue) (m : Moment) (h : List Happening) (e : Happening) → DiskStandsFor d h → MayHappen d.plan d.sectors d.now e → m ≡ after d.plan d.sectors d.now e → DiskStandsFor (with_now d m) (h ++ e ∷ [])
stands_on d m h e stands may is = record {
  run = Runs-append d.plan d.sectors (opening d.sectors) h e stands.run (subst (λ (x : Moment). MayHappen d.plan d.sectors x e) stands.now may);
  now = is ∙ ap (λ (x : Moment). after d.plan d.sectors x e) stands.now ∙ sym (moment_after-append d.plan d.sectors (opening d.sectors) h e);
}

-- the disk does what the event asks
pub disk_goes_on : (old new : DiskValue) (e : Happening) → MayHappen old.plan old.sectors old.now e → new ≡ with_now old (after old.plan old.sectors old.now e) → GoesOn disk_plan DiskStandsFor old e new
disk_goes_on old new e may is = rw is (record {
  plan = refl;
  goes_on = λ h stands. stands_on old (after old.plan old.sectors old.now e) h e stands may refl;
})

takes_turn : (t : Turn) (bytes : List ℕ) (m : Moment) → Takes t bytes m → IsTurn t bytes
takes_turn None bytes m takes = takes
takes_turn (Some t) bytes m takes = takes.0

takes_leaves : (t : Turn) (bytes : List ℕ) (old m : Moment) → Takes t bytes m → m ≡ after_turn old t
takes_leaves None bytes old m takes = absurd takes
takes_leaves (Some t) bytes old m takes = takes.1

same_but_now : (d new : DiskValue) → new.plan ≡ d.plan → new.sectors ≡ d.sectors → new ≡ with_now d new.now
same_but_now d new plan sectors = λ i. record { plan = plan i; sectors = sectors i; now = new.now }

-- the disk sends its turn
pub disk_sends : (old new : DiskValue) (bytes : List ℕ) → Gave old bytes new → SendsNext disk_plan DiskStandsFor DiskMaySend old bytes new
disk_sends old new bytes gave =
    let at = turn old.plan old.sectors in
    let may : IsTurn (at old.now) bytes = takes_turn (at old.now) bytes new.now gave.0 in
    let same : new ≡ with_now old new.now = same_but_now old new gave.1 gave.2 in
    record {
      plan = ap disk_plan same;
      allowed = λ h stands. subst (λ (x : Moment). IsTurn (at x) bytes) stands.now may;
      goes_on = λ h stands. subst (λ (x : DiskValue). DiskStandsFor x (h ++ Sent bytes ∷ [])) (sym same) (stands_on old new.now h (Sent bytes) stands may (takes_leaves (at old.now) bytes old.now new.now gave.0));
    }

-- the disk has no turn
pub disk_silent : (old : DiskValue) → turn old.plan old.sectors old.now ≡ None → IsSilent disk_plan DiskStandsFor DiskMaySend old
disk_silent old none = λ h bytes stands may.
    let at = turn old.plan old.sectors in
    let is : at (moment old.plan old.sectors h) ≡ None = ap at (sym stands.now) ∙ none in
    rw is at may

-- ## What is heard

pub hears_register : (plan : DiskPlan) (m : Moment) (f : List ℕ) (r : Request) (s : Result Fis FisFault) → Ok (view.RegH2D f) ≡ s → r ≡ request_of f → received m r m.fault ≡ heard plan m s
hears_register plan m f r s is asked = ap (λ (x : Request). received m x m.fault) asked ∙ ap (heard plan m) is

pub hears_data : (plan : DiskPlan) (m : Moment) (f bytes : List ℕ) (s : Result Fis FisFault) → Ok (view.Payload f) ≡ s → bytes ≡ drop 4 f → data_taken plan m m.writing bytes ≡ heard plan m s
hears_data plan m f bytes s is same = ap (data_taken plan m m.writing) same ∙ ap (heard plan m) is

pub hears_nothing : (plan : DiskPlan) (m : Moment) (fis : Fis) → ((f : List ℕ) → fis ≡ view.RegH2D f → ⊥) → ((f : List ℕ) → fis ≡ view.Payload f → ⊥) → m ≡ heard plan m (Ok fis)
hears_nothing plan m (view.RegH2D f) other payload = absurd (other f refl)
hears_nothing plan m (view.Payload f) other payload = absurd (payload f refl)
hears_nothing plan m rest other payload = refl
