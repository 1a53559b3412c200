-- For `ends_go_on`. A disk and the host that serves it stay together over a turn beside the link, or the tick that
-- issues a software reset of the disk sets it aside.
use Rattle.std.proofs.Common.{◌≡◌, ℕ, ◌<◌, true, false, List, [], ◌∷◌, ◌++◌, refl, sym, ◌∙◌, ap, subst, inl, inr, arith, Option, Some, None}
use Rattle.std.proofs.lemmas.{Bool.cases_Bool, List.append-nil}
use Rattle.fis_view.specs.Frames.{Stamped}
use Rattle.hba_fbs.specs.Views.{view_of}
use Rattle.disk_model.specs.{declared.plan.DiskPlan.DiskPlan, Anew.OwesOnly, Histories.Happening, Ledger.{Ledger, Reply, ShowsPage, Signs, Wanted}}
use Rattle.disk_model.specs.Ledger.{ledger}
use Rattle.hba_laws.specs.{Client.{Touches, own}, Delivering.touches_after, History.{History, waiting_in}}
use Rattle.disk_simulation.specs.{Line.{EachReply, IsNoSignature, IsUnsigned, IsWatchedWell, Loose, OnLine}, Outcomes.HasFineFile}
use Rattle.disk_simulation.specs.{Together.{AtMostAccepts, InTalk, IsOwnReply, IsWaited, Pages, Queues, Replies, Shows}, Watched.IsWatched}
use Rattle.disk_simulation.specs.Same.{SlotCommand}
use Rattle.disk_simulation.proofs.Door.{files_are_left, hosted_on_is_kept, lines_begin}
use Rattle.hba_driver.specs.declared.path.{Path.Path, Recovery.{Recovery, TheVariants.{Log, Reset}}, Stage.TheVariants.{AssertReset, AwaitReset}}
use Rattle.hba_driver.specs.declared.{path.Stage.TheVariants.{Identify, ReadLog, ReleaseReset}, plan.Device.{Device, TheVariants.{Ready, Recovering}}}
use Rattle.hba_driver.specs.{declared.plan.{Device.TheVariants.Starting, Plan.Plan}, Drivers.device_at, Events.{events_over, shared_by}}
use Rattle.hba_driver.specs.{HostTurns.{Does, DoesAll, Host, HostTurn, Pushed, Ticked, Took}, Served.IsStep, Slot30.{IsOn30, Sets}, Steady.IsFine}
use Rattle.hba_driver.specs.{Steady.{IsSteadyPlan, IsSteadyTurn}, Tended.{Awaits, Fine, Identifies, IsAskedOn, IsAsking, IsAtStage, IsReleasing}}
use Rattle.hba_driver.specs.{Tended.{IsResetTurn, IsTendedBy, Logs, Releases, Spoilt, TendsOn}, Between.From}
use Rattle.hba_driver.proofs.Door.{at_stage, issued_live, recovering_ready, stage_is, turn_tended, turns_serve, unworked}
use Rattle.disk_recovery.specs.{Kept.{IsCalmTurn, given_to}, Steady.HasSigned, Together.{GivesOnAnew, IsServedOn, ResetsAt, ServesOnAnew}}
use Rattle.disk_recovery.specs.{Unasked.IsUnasked, Ends.{Apart, EndsAfter, IsBesideTurn, IsOnTime, IsRunning, IsSetAside, IsTogether, Resetting}}
use Rattle.disk_recovery.specs.Ends.{Steady, Together}
use Rattle.disk_recovery.proofs.{together.{TogetherParts.calm_turns_go_on, TogetherPushes.pushes_go_on_on}, honest.TurnLemmas.after}
use Rattle.disk_recovery.proofs.{unasked.UnaskedLemmas.stays_unasked, aside.BesideLemmas.{EventsAway, events_away, file_away, fine_stays, plan_same}}
use Rattle.disk_recovery.proofs.{aside.{BesideLemmas.waits_away, ResetAside.reset_sets_aside}, both_ends.GivenLemmas.none_to_other}
use Rattle.disk_recovery.proofs.both_ends.{WorkedLemmas.{IsWorked, same_worked}, Unfaulted.{IsTurnUnfaulted, opened_stays, tick_goes, turn_unfaulted}}
use Rattle.disk_recovery.proofs.both_ends.FloorLemmas.{reached_on}

-- ---- where the signature alone is to come

unsigned_at : (base given : List Happening) → given ≡ base → OwesOnly (ledger base) (Signs ∷ []) [] → HasSigned given → ⊥
unsigned_at base given same owes signed = signed (ap (λ (g : List Happening). (ledger g).awaited) same ∙ owes.awaited)

-- ---- where the page of the log alone is to come

page_waits : (past : History) (k : Ledger) → k.awaited ≡ ShowsPage ∷ [] → InTalk past k → IsWaited false past
page_waits past k is (Queues most waits none) = absurd (subst AtMostAccepts is most)
page_waits past k is (Replies reply idle awaits mine none) = absurd (of_page reply (sym awaits ∙ is) mine)
  where
    of_page : (r : Reply) → r ∷ [] ≡ ShowsPage ∷ [] → IsOwnReply r past → ⊥
    of_page ShowsPage same is_own = is_own
    of_page other same is_own = cc
page_waits past k is (Shows idle awaits most waits) = waits.waited
page_waits past k is (Pages page idle awaits one waits) = cc

module _ (n : ℕ) (base given : List Happening) (h : Host) (commands : ℕ → SlotCommand) (touches : Touches) (below : n < 15)
    (s : IsServedOn n base h given commands touches) (same : given ≡ base) (page : Wanted)
    (owes : OwesOnly (ledger base) (ShowsPage ∷ []) (page ∷ [])) where
  -- its command is issued
  waited : IsWaited false (own n touches)
  waited =
      page_waits (own n touches) (ledger given) (ap (λ (g : List Happening). (ledger g).awaited) same ∙ owes.awaited)
      (hosted_on_is_kept n base (shared_by h) given commands (own n touches) below s.hosted).joined.same.talk

  from : From h.driver n waited.slot waited.transfer
  from = (s.served.issues n waited.slot waited.transfer waited.there).from

  -- in slot 30
  stepped : (device_at h.driver.plan n ≡ Ready → ⊥) → IsStep h.driver n waited.slot waited.transfer
  stepped unready = by_from from
    where
      by_from : From h.driver n waited.slot waited.transfer → IsStep h.driver n waited.slot waited.transfer
      by_from (inl r) =
          absurd (unready (s.tended.requests.ready waited.slot r.entry
          (record { stands = r.stands; of_dev = r.of_dev; lives = issued_live r.entry r.goes })))
      by_from (inr (inl i)) = i
      by_from (inr (inr o)) = absurd (omega (arith, below, o.of_dev))

  stepped_at : waited.slot ≡ 30 → IsStep h.driver n waited.slot waited.transfer
  stepped_at at = by_from from
    where
      by_from : From h.driver n waited.slot waited.transfer → IsStep h.driver n waited.slot waited.transfer
      by_from (inl r) = let low = r.slot in absurd (omega (arith, low, at))
      by_from (inr (inl i)) = i
      by_from (inr (inr o)) = absurd (omega (arith, below, o.of_dev))

starting_ready : (d : Device) → d ≡ Starting → d ≡ Ready → ⊥
starting_ready d is ready = cc

-- a device on which slot 30 works is not ready
works_unready : (n : ℕ) (plan : Plan) (p : Path) → IsTendedBy n plan → plan.path ≡ Some p → p.dev ≡ n → device_at plan n ≡ Ready → ⊥
works_unready n plan p (Fine fine path) here to ready = starting_ready (device_at plan n) (path p here to).1.1 ready
works_unready n plan p (Releases device works) here to ready = recovering_ready Reset (sym device ∙ ready)
works_unready n plan p (Awaits device works) here to ready = recovering_ready Reset (sym device ∙ ready)
works_unready n plan p (Identifies device works) here to ready = recovering_ready Reset (sym device ∙ ready)
works_unready n plan p (Logs before file device works) here to ready = recovering_ready (Log before) (sym device ∙ ready)
works_unready n plan p (Spoilt device free) here to ready = recovering_ready Reset (sym device ∙ ready)

-- ---- the turn

steady_of : (n : ℕ) (old : Host) (turn : HostTurn) → IsCalmTurn n old turn → IsSteadyTurn n old turn
steady_of n old (Ticked a) calm = calm
steady_of n old other calm = tt

module _ (n : ℕ) (old : Host) (turn : HostTurn) (new : Host) (run : DoesAll old (turn ∷ []) new) (disk : List Happening)
    (down up : List (List ℕ)) (floors : ℕ → ℕ) (touches : Touches) (below : n < 15) (t : IsTogether n old disk down up floors touches) where
  does : Does old turn new
  does = after old turn new run

  tends : IsSteadyTurn n old turn → TendsOn n old turn new
  tends steady = turn_tended n old turn new (omega (arith, below)) does t.served.sound.drives steady t.served.tended

  -- its software reset goes on
  resetting_at : t.given ≡ t.base → OwesOnly (ledger t.base) (Signs ∷ []) [] → IsAtStage n IsReleasing old.driver.plan
      → (view_of n old.port).state.resetting ≡ true
  resetting_at same owes there = elim (cases_Bool (view_of n old.port).state.resetting) [
    | inl on ↦ on
    | inr off ↦ absurd (unsigned_at t.base t.given same owes (t.served.ended there off))
  ]

  releasing_on : TendsOn n old turn new → t.given ≡ t.base → OwesOnly (ledger t.base) (Signs ∷ []) [] → IsAtStage n IsReleasing old.driver.plan
      → IsAtStage n IsReleasing new.driver.plan
  releasing_on tended same owes there = tended.awaiting there (resetting_at same owes there)

  not_asked : t.given ≡ t.base → OwesOnly (ledger t.base) (Signs ∷ []) [] → IsAskedOn n old.driver.plan → ⊥
  not_asked same owes asked = unsigned_at t.base t.given same owes (t.served.signed asked)

  -- a device that recovers while its signature alone is to come is in its software reset
  recovers : IsSteadyTurn n old turn → t.given ≡ t.base → OwesOnly (ledger t.base) (Signs ∷ []) [] → (way : Recovery)
      → device_at new.driver.plan n ≡ Recovering way → IsAtStage n IsReleasing new.driver.plan
  recovers steady same owes way device = by_way t.served.tended.plan.way
    where
      by_way : IsTendedBy n old.driver.plan → IsAtStage n IsReleasing new.driver.plan
      by_way (Fine fine path) =
          let h : IsSteadyPlan n old.driver.plan = record { fine = fine; path = path; order = t.served.tended.plan.order } in
          absurd (subst IsFine device (fine_stays n old turn new does steady h))
      by_way (Releases was works) = releasing_on (tends steady) same owes (at_stage n ReleaseReset true old.driver.plan IsReleasing works tt)
      by_way (Awaits was works) = releasing_on (tends steady) same owes (at_stage n AwaitReset false old.driver.plan IsReleasing works tt)
      by_way (Identifies was works) = absurd (not_asked same owes (inr (at_stage n Identify true old.driver.plan IsAsking works tt)))
      by_way (Logs before file was works) = absurd (not_asked same owes (inr (at_stage n (ReadLog file) true old.driver.plan IsAsking works tt)))
      by_way (Spoilt was free) = absurd (t.worked same Reset was free)

  -- ---- the device is served on

  module _ (steady : IsSteadyTurn n old turn) (s : ServesOnAnew n t.base old turn new run t.given t.given t.commands touches) where
    on_time : IsOnTime n old t.base t.given t.stale → IsOnTime n new t.base t.given t.stale
    on_time (Steady none unreset away) =
        Steady none (elim (cases_Bool (view_of n new.port).state.resetting) [
          | inl on ↦ let r = s.on.resets on in absurd (away r.1 ((tends steady).releasing r.0))
          | inr off ↦ off
        ]) (λ same there. away same ((tends steady).releasing there))
    on_time (Resetting quiet same owes there) = Resetting quiet same owes (releasing_on (tends steady) same owes there)

    -- with this task file, while it is not ready
    stays_together : IsTurnUnfaulted n turn → IsUnasked n new t.given → HasFineFile n (shared_by new) t.base t.given
        → (t.given ≡ t.base → device_at new.driver.plan n ≡ Ready → ⊥) → IsWorked n new t.base t.given
        → EndsAfter n old turn new run disk down up floors touches
    stays_together unfaulted unasked file unready worked = record {
      serves = s.serves;
      ends = Together (record {
        base = t.base;
        given = t.given;
        commands = s.next;
        stale = t.stale;
        later = t.later;
        up_is = t.up_is;
        on_time = on_time t.on_time;
        watched = t.watched;
        served = s.on;
        told = t.told;
        entered = t.entered;
        reached =
            reached_on floors t.commands s.next t.given (own n touches) (own n (touches_after touches (shared_by old) (shared_by new)
            (events_over old new (turn ∷ []) run) s.serves.runs)) t.told s.counted t.reached;
        begun = t.begun;
        owes = t.owes;
        opened = opened_stays old turn new does t.opened;
        well = turn_unfaulted n (omega (arith, below)) old turn new does t.served.sound unfaulted t.well;
        unasked = unasked;
        file = file;
        unready = unready;
        worked = worked;
      });
    }

  -- ---- a calm turn

  module _ (calm : IsCalmTurn n old turn) (s : ServesOnAnew n t.base old turn new run t.given t.given t.commands touches) where
    events : EventsAway n old new turn run s.serves.runs
    events = events_away n old turn new run s.serves.runs t.served.sound t.served.served.bounded calm

    small : n < 16
    small = omega (arith, below)

    -- while the page of the log alone is to come, slot 30 works on the device
    page_path : t.given ≡ t.base → (page : Wanted) → OwesOnly (ledger t.base) (ShowsPage ∷ []) (page ∷ [])
        → (p : Path) × ((new.driver.plan.path ≡ Some p) × (p.dev ≡ n))
    page_path same page owes =
        let first : IsWaited false (own n touches) = waited n t.base t.given old t.commands touches below t.served same page owes in
        let step : IsStep old.driver n first.slot first.transfer =
        stepped n t.base t.given old t.commands touches below t.served same page owes (t.unready same) in
        let later : Touches = touches_after touches (shared_by old) (shared_by new) (events_over old new (turn ∷ []) run) s.serves.runs in
        let next : IsWaited false (own n (touches_after touches (shared_by old) (shared_by new) (events_over old new (turn ∷ []) run)
        s.serves.runs)) =
        waited n t.base t.given new s.next later below s.on same page owes in
        let was : waiting_in (own n touches) ≡ Some next.slot =
        waits_away n events.slot next.slot (shared_by old) (shared_by new) (events_over old new (turn ∷ []) run) s.serves.runs touches small
        events.away next.waits in
        let slots : Some next.slot ≡ Some first.slot = sym was ∙ first.waits in
        let at : next.slot ≡ 30 = same_slot next.slot first.slot slots ∙ step.slot in
        let i : IsStep new.driver n next.slot next.transfer = stepped_at n t.base t.given new s.next later below s.on same page owes at in
        (i.path, (i.goes, i.of_dev))
      where
        same_slot : (a b : ℕ) → Some a ≡ Some b → a ≡ b
        same_slot a b is = cc

    still_unready : t.given ≡ t.base → device_at new.driver.plan n ≡ Ready → ⊥
    still_unready same ready = elim t.owes [
      | inl signs ↦ unsigned_at t.base t.given same signs (s.on.signed (inl ready))
      | inr page ↦ let there = page_path same page.0 page.1 in works_unready n new.driver.plan there.0 s.on.tended.plan.way there.1.0 there.1.1 ready
    ]

    calm_worked : IsWorked n new t.base t.given
    calm_worked same way device free = elim t.owes [
      | inl signs ↦ unworked n new.driver.plan IsReleasing free (recovers (steady_of n old turn calm) same signs way device)
      | inr page ↦ let there = page_path same page.0 page.1 in free there.0 there.1.0 there.1.1
    ]

    still_file : HasFineFile n (shared_by old) t.base t.given → HasFineFile n (shared_by new) t.base t.given
    still_file (inl same) = inl same
    still_file (inr fine) =
        inr (file_away n events.slot (shared_by old) (shared_by new) (events_over old new (turn ∷ []) run) s.serves.runs small events.away fine)

    calm_together : IsTurnUnfaulted n turn → EndsAfter n old turn new run disk down up floors touches
    calm_together unfaulted =
        stays_together (steady_of n old turn calm) s unfaulted
        ((stays_unasked n).calm old turn new t.given does calm t.served.tended t.unasked) (still_file t.file) still_unready calm_worked

  -- ---- the software reset of the device is issued

  module _ (plan : DiskPlan) (sectors : ℕ) (running : IsRunning plan sectors disk touches old) (calm : IsCalmTurn n old turn)
      (resets : ResetsAt n old turn new touches) where
    not_releasing : IsAtStage n IsReleasing new.driver.plan → ⊥
    not_releasing there = stage_is n AssertReset true new.driver.plan IsReleasing resets.reset.works there

    -- it is in none
    none_stale : IsOnTime n old t.base t.given t.stale → t.stale ≡ []
    none_stale (Steady none unreset away) = none
    none_stale (Resetting quiet same owes there) = absurd (not_releasing (releasing_on (tends (steady_of n old turn calm)) same owes there))

    well : IsWatchedWell plan sectors t.base disk t.given down up
    well =
        let none : t.stale ≡ [] = none_stale t.on_time in
        let to_up : up ≡ t.later = t.up_is ∙ ap (λ (xs : List (List ℕ)). xs ++ t.later) none in
        record {
          size = running.size;
          run = running.run;
          signing = t.begun.signing;
          careful = (hosted_on_is_kept n t.base (shared_by old) t.given t.commands (own n touches) below t.served.hosted).careful;
          watched = subst (λ (xs : List (List ℕ)). IsWatched t.base disk t.given down [] xs) (sym to_up)
              (subst (λ (xs : List (List ℕ)). IsWatched t.base disk t.given down xs t.later) none t.watched);
        }

    unsigned : IsUnsigned (ledger t.given)
    unsigned = elim (lines_begin.signed plan sectors t.base disk t.given down up well) [
      | inl same ↦ elim t.owes [
        | inl signs ↦ absurd (not_releasing (recovers (steady_of n old turn calm) same signs Reset resets.reset.device))
        | inr page ↦
            subst (λ (xs : List Reply). EachReply IsNoSignature xs)
            (sym (ap (λ (g : List Happening). (ledger g).awaited) same ∙ page.1.awaited)) (tt, tt)
      ]
      | inr is ↦ is
    ]

    loose : OnLine Loose (ledger disk) down up
    loose = lines_begin.loosens plan sectors t.base disk t.given down up well unsigned

-- ---- turns beside the link

reset_apart : (n : ℕ) (old : Host) (turn : HostTurn) (new : Host) (run : DoesAll old (turn ∷ []) new) (disk : List Happening)
    (down up : List (List ℕ)) (floors : ℕ → ℕ) (touches : Touches) → n < 15 → (t : IsTogether n old disk down up floors touches) → IsOn30 touches old → Does old turn new
    → IsResetTurn n old turn → OnLine Loose (ledger disk) down up → IsSetAside n new disk down up
reset_apart n old (Ticked acted) new run disk down up floors touches below t on done issues line =
    let set = reset_sets_aside n t.base old acted new t.given t.commands touches below done issues on t.served t.well in
    record { stage = Sets; line = Loose; at = set.0; off = set.1; fits = tt; leans = tt; on = line }
reset_apart n old other new run disk down up floors touches below t on done issues line = absurd issues

module _ (n : ℕ) (plan : DiskPlan) (sectors : ℕ) (old : Host) (turn : HostTurn) (new : Host) (run : DoesAll old (turn ∷ []) new)
    (disk : List Happening) (down up : List (List ℕ)) (floors : ℕ → ℕ) (touches : Touches) (below : n < 15) (running : IsRunning plan sectors disk touches old)
    (t : IsTogether n old disk down up floors touches) where
  pub calm_ends_together : IsCalmTurn n old turn → IsTurnUnfaulted n turn → EndsAfter n old turn new run disk down up floors touches
  calm_ends_together calm unfaulted = elim (calm_turns_go_on n t.base old turn new run t.given t.commands touches below calm t.served) [
    | inl s ↦ calm_together n old turn new run disk down up floors touches below t calm s unfaulted
    | inr resets ↦ record {
      serves = turns_serve.runs old new (turn ∷ []) run t.served.sound touches t.served.served;
      ends = Apart (reset_apart n old turn new run disk down up floors touches below t running.on (after old turn new run) resets.issues
          (loose n old turn new run disk down up floors touches below t plan sectors running calm resets)) t.entered;
    }
  ]

-- nothing goes out to the disk
module _ (n : ℕ) (old : Host) (frame : Option Stamped) (new : Host) (run : DoesAll old (Pushed frame ∷ []) new) (disk : List Happening)
    (down up : List (List ℕ)) (floors : ℕ → ℕ) (touches : Touches) (below : n < 15) (t : IsTogether n old disk down up floors touches) (none : given_to n frame ≡ []) where
  pushes : Does old (Pushed frame) new
  pushes = after old (Pushed frame) new run

  given_none : t.given ++ given_to n frame ≡ t.given
  given_none = ap (λ (xs : List Happening). t.given ++ xs) none ∙ append-nil t.given

  left_file : HasFineFile n (shared_by old) t.base t.given → HasFineFile n (shared_by new) t.base t.given
  left_file (inl same) = inl same
  left_file (inr fine) = inr (files_are_left.gives n (shared_by old) (shared_by new) frame (pushes.gives, pushes.memory) fine)

  push_worked : IsWorked n new t.base t.given
  push_worked = same_worked n old new t.base t.given (plan_same old (Pushed frame) new pushes tt) t.worked

  pub push_ends_together : EndsAfter n old (Pushed frame) new run disk down up floors touches
  push_ends_together =
      let g : GivesOnAnew n t.base old frame new run t.given t.commands touches =
      pushes_go_on_on n t.base old frame new run t.given t.commands touches below t.served in
      let s : ServesOnAnew n t.base old (Pushed frame) new run t.given t.given t.commands touches =
      subst (λ (xs : List Happening). ServesOnAnew n t.base old (Pushed frame) new run t.given xs t.commands touches) given_none g.on in
      stays_together n old (Pushed frame) new run disk down up floors touches below t tt s tt
      (subst (λ (xs : List Happening). IsUnasked n new xs) given_none
      ((stays_unasked n).pushes t.base old frame new t.given t.commands touches below pushes t.served t.unasked))
      (left_file t.file)
      (λ same ready. t.unready same (sym (ap (λ (p : Plan). device_at p n) (plan_same old (Pushed frame) new pushes tt)) ∙ ready)) push_worked

module _ (n : ℕ) (plan : DiskPlan) (sectors : ℕ) (old : Host) (new : Host) (disk : List Happening) (down up : List (List ℕ)) (floors : ℕ → ℕ) (touches : Touches)
    (below : n < 15) (running : IsRunning plan sectors disk touches old) (t : IsTogether n old disk down up floors touches) where
  pub together_beside : (turn : HostTurn) (run : DoesAll old (turn ∷ []) new) → IsBesideTurn n old turn
      → EndsAfter n old turn new run disk down up floors touches
  together_beside (Took frame report) run beside =
      calm_ends_together n plan sectors old (Took frame report) new run disk down up floors touches below running t (λ e. beside (sym e))
      (λ at. absurd (beside at))
  together_beside (Pushed None) run beside = push_ends_together n old None new run disk down up floors touches below t refl
  together_beside (Pushed (Some frame)) run beside =
      push_ends_together n old (Some frame) new run disk down up floors touches below t
      (none_to_other n old touches frame new t.served.sound t.served.served (after old (Pushed (Some frame)) new run) beside)
  together_beside (Ticked acted) run beside =
      calm_ends_together n plan sectors old (Ticked acted) new run disk down up floors touches below running t
      (tick_goes n old running.on.going t.served.sound t.well beside) tt
  together_beside other run beside =
      calm_ends_together n plan sectors old other new run disk down up floors touches below running t tt tt
