-- For `begins_to_serve` and `resets_begin_free`. Where the driver begins to serve a disk: since its flush, after a
-- software reset, and with the log after an error.
use Rattle.std.proofs.Common.{◌≡◌, ◌≢◌, ℕ, ◌<◌, true, false, List, [], ◌∷◌, ◌++◌, refl, sym, ◌∙◌, ap, subst, inl, inr, arith, Option, Some, None}
use Rattle.std.proofs.lemmas.Bool.{true≢false}
use Rattle.std.specs.Option.{option_map}
use Rattle.slots.specs.{Slots.own_issue, declared.table.Context.Context}
use Rattle.hba_fbs.specs.Views.{view_of}
use Rattle.disk_model.specs.{Histories.{Happening, Plugged}, Ledger.{Reply, ShowsPage, Signs, ledger}}
use Rattle.disk_model.proofs.Door.{begins_anew}
use Rattle.hba_laws.specs.{Agreement.{IsHistoryOf, work_of_issue, work_of_transfer}, Client.{Touches, own}, Delivering.touches_after}
use Rattle.hba_laws.specs.History.{Transfer, issued}
use Rattle.disk_simulation.specs.{Same.SlotCommand, Between.IsThere}
use Rattle.disk_simulation.specs.Anew as anew
use Rattle.disk_simulation.proofs.Door.{hosted_since_new, no_context, opens_after, opens_signing, there_by}
use Rattle.hba_driver.specs.declared.path.{Path.Path, Recovery.{Recovery, TheVariants.{Log, Reset}}, Stage.{Stage, TheVariants.{Identify, ReadLog}}}
use Rattle.hba_driver.specs.declared.{path.Stage.TheVariants.{AwaitReset, ReleaseReset}, plan.Device.{Device, TheVariants.{Ready, Recovering}}}
use Rattle.hba_driver.specs.{declared.plan.{Device.TheVariants.Starting, Plan.Plan}, Drivers.{Driver, Entry, device_at, entry_at}, Events.IsSoundHost}
use Rattle.hba_driver.specs.{Events.{events_over, shared_by}, HostTurns.{Does, Host, Ticked}, Served.{IsServed, RunServes}, Steady.IsAskedOf}
use Rattle.hba_driver.specs.{Steady.{IsFine, IsSteady, IsSteadyPlan}, Tended.{Awaits, Fine, Identifies, IsAskedOn, IsAsking, IsAtStage, IsBegun}}
use Rattle.hba_driver.specs.{Tended.{IsLiveAt, IsReleasing, IsTended, IsTendedBy, Logs, Releases, Spoilt}, Between.From}
use Rattle.hba_driver.proofs.Door.{flush_row, flush_steady, flush_unreset, in_slots, issued_live, issued_unended, sound_turn, stage_is, steady_tends}
use Rattle.hba_driver.proofs.Door.{turns_serve, unworked}
use Rattle.disk_recovery.specs.{Steady.HasSigned, Together.{FlushOpensOn, IsServedOn, LogBeginsServed, ResetBeginsServed, ServedSinceFlush}}
use Rattle.disk_recovery.specs.Together.{SpoiltIsFree}
use Rattle.disk_recovery.proofs.honest.TurnLemmas.{after, no_issue, no_transfer, plain}

-- ---- a device of which nothing failed since its flush

-- slot 30 works on it to identify it alone
pub steady_not : (n : ℕ) (plan : Plan) (stages : Stage → Type 0) → IsSteadyPlan n plan → (stages Identify → ⊥) → IsAtStage n stages plan → ⊥
steady_not n plan stages h not there = not (subst stages (h.path there.0 there.1.0 there.1.1.0).0 there.1.1.1)

pub asked_of : (n : ℕ) (plan : Plan) → IsAskedOn n plan → IsAskedOf n plan
asked_of n plan (inl r) = inl r
asked_of n plan (inr there) = inr (there.0, (there.1.0, there.1.1.0))

pub served_since_flush : ServedSinceFlush
served_since_flush n h given commands touches below off served = record {
  sound = served.sound;
  served = served.served;
  hosted = hosted_since_new n (shared_by h) given commands (own n touches) served.hosted;
  tended = steady_tends n h.driver served.steady;
  named = served.named;
  signed = λ asked. served.signed (asked_of n h.driver.plan asked);
  row = λ fine signs. served.row signs;
  ended = λ there unset. absurd (steady_not n h.driver.plan IsReleasing served.steady.plan (λ k. k) there);
  begun = λ there t here. absurd (steady_not n h.driver.plan IsBegun served.steady.plan (λ k. k) there);
  resets = λ set. absurd (true≢false (sym set ∙ off));
}

module _ (n : ℕ) (h : Host) (before : List Happening) (commands : ℕ → SlotCommand) (touches : Touches) (below : n < 15) (sound : IsSoundHost h) (served : IsServed h.driver (shared_by h) touches) (steady : IsSteady n h.driver)
    (unasked : IsAskedOf n h.driver.plan → ⊥) (off : (view_of n h.port).state.resetting ≡ false) (unsigned : Rattle.hba_driver.specs.Steady.HasSignature n h → ⊥) (tags : (s : ℕ) → (commands s).command.tag ≡ s) where
  none : (s : ℕ) (t : Transfer) → issued s (own n touches) ≡ Some t → ⊥
  none s t here = by_issue (served.issues n s t here).from
    where
      by_issue : From h.driver n s t → ⊥
      by_issue (inl r) = unasked (inl (steady.requests.ready s r.entry (record { stands = r.stands; of_dev = r.of_dev; unended = issued_unended r.entry r.goes })))
      by_issue (inr (inl i)) = unasked (inr (i.path, (i.goes, i.of_dev)))
      by_issue (inr (inr o)) = omega (arith, below, o.of_dev)

  none_there : (s : ℕ) → own_issue (view_of n h.port).slots s ≡ None
  none_there s =
      let told : IsHistoryOf n (shared_by h) (own n touches) = served.told n (omega (arith, below)) in
      no_issue (own_issue (view_of n h.port).slots s) (sym (ap (option_map work_of_transfer) (no_transfer (issued s (own n touches)) (λ t here. none s t here))) ∙ told.issued s)

  begins_plugged : IsServedOn n (before ++ Plugged ∷ []) h (before ++ Plugged ∷ []) commands touches
  begins_plugged =
      let told : IsHistoryOf n (shared_by h) (own n touches) = served.told n (omega (arith, below)) in
      record {
        sound = sound;
        served = served;
        hosted = anew.opens (shared_by h) commands (own n touches) (opens_signing n (shared_by h) commands (own n touches) (ledger (before ++ Plugged ∷ [])) told none_there tags (begins_anew.plugged before));
        tended = steady_tends n h.driver steady;
        named = λ s t e here there queued. absurd (none s t here);
        signed = λ asked. absurd (unasked (asked_of n h.driver.plan asked));
        row = λ fine signs. absurd (unsigned signs);
        ended = λ there unset. absurd (steady_not n h.driver.plan IsReleasing steady.plan (λ k. k) there);
        begun = λ there t here. absurd (steady_not n h.driver.plan IsBegun steady.plan (λ k. k) there);
        resets = λ set. absurd (true≢false (sym set ∙ off));
      }

pub flush_opens_on : FlushOpensOn
flush_opens_on n old a new run before commands touches below flush sound served =
    let d : Does old (Ticked a) new = after old (Ticked a) new run in
    let steady = flush_steady n old a new d flush in
    let serves : RunServes old new (Ticked a ∷ []) run touches = turns_serve.runs old new (Ticked a ∷ []) run sound touches served in
    record {
      next = plain;
      serves = serves;
      on = begins_plugged n new before plain (touches_after touches (shared_by old) (shared_by new) (events_over old new (Ticked a ∷ []) run) serves.runs) below (sound_turn old (Ticked a) new d sound) serves.last steady.0 steady.1 (flush_unreset n old a new (omega (arith, below)) d flush)
          (flush_row n old a new (omega (arith, below)) d sound flush) (λ s. refl);
      counted = λ s t here. absurd (none n new before plain (touches_after touches (shared_by old) (shared_by new) (events_over old new (Ticked a ∷ []) run) serves.runs) below (sound_turn old (Ticked a) new d sound) serves.last steady.0 steady.1 (flush_unreset n old a new (omega (arith, below)) d flush)
          (flush_row n old a new (omega (arith, below)) d sound flush) (λ s. refl) s t here);
    }

-- ---- after a software reset

record IsWaitingReset (n : ℕ) (plan : Plan) : Type 0 where
  pub device : device_at plan n ≡ Recovering Reset
  pub unasked : IsAtStage n IsAsking plan → ⊥

waiting_by : (n : ℕ) (plan : Plan) → IsTendedBy n plan → IsAtStage n IsReleasing plan → IsWaitingReset n plan
waiting_by n plan (Fine fine path) there = absurd (subst IsReleasing (path there.0 there.1.0 there.1.1.0).0 there.1.1.1)
waiting_by n plan (Releases device works) there = record { device = device; unasked = λ asks. stage_is n ReleaseReset true plan IsAsking works asks }
waiting_by n plan (Awaits device works) there = record { device = device; unasked = λ asks. stage_is n AwaitReset false plan IsAsking works asks }
waiting_by n plan (Identifies device works) there = absurd (stage_is n Identify true plan IsReleasing works there)
waiting_by n plan (Logs before file device works) there = absurd (stage_is n (ReadLog file) true plan IsReleasing works there)
waiting_by n plan (Spoilt device free) there = absurd (unworked n plan IsReleasing free there)

recovering_not : (way : Recovery) → Recovering way ≡ Ready → ⊥
recovering_not way is = cc

-- nothing stands in a slot, so nothing was issued
not_told : (o : Option Transfer) (t : Transfer) → o ≡ Some t → option_map work_of_transfer o ≡ None → ⊥
not_told None t here is = cc
not_told (Some u) t here is = cc

pub reset_begins_served : ResetBeginsServed
reset_begins_served n h base commands touches below sound served tended at set free tags owes =
    let told : IsHistoryOf n (shared_by h) (own n touches) = served.told n (omega (arith, below)) in
    let w : IsWaitingReset n h.driver.plan = waiting_by n h.driver.plan tended.plan.way at in
    let none : (s : ℕ) (t : Transfer) → issued s (own n touches) ≡ Some t → ⊥ =
    λ s t here. not_told (issued s (own n touches)) t here (told.issued s ∙ ap (option_map work_of_issue) (free s)) in
    record {
      sound = sound;
      served = served;
      hosted = anew.opens (shared_by h) commands (own n touches) (opens_signing n (shared_by h) commands (own n touches) (ledger base) told free tags owes);
      tended = tended;
      named = λ s t e here there queued. absurd (none s t here);
      signed = λ asked. elim asked [ inl r ↦ absurd (recovering_not Reset (sym w.device ∙ r)) | inr there ↦ absurd (w.unasked there) ];
      row = λ fine signs. absurd (subst IsFine w.device fine);
      ended = λ there off. absurd (true≢false (sym set ∙ off));
      begun = λ there t here. absurd (none 30 t here);
      resets = λ on. (at, refl);
    }

-- ---- with the log after an error

starting_ready : (d : Device) → d ≡ Starting → d ≡ Ready → ⊥
starting_ready d is r = cc

-- while slot 30 works on the device none of its requests waits or is issued
working_unready : (n : ℕ) (plan : Plan) (p : Path) → IsTendedBy n plan → plan.path ≡ Some p → p.dev ≡ n → device_at plan n ≡ Ready → ⊥
working_unready n plan p (Fine fine path) here to ready = starting_ready (device_at plan n) (path p here to).1.1 ready
working_unready n plan p (Releases device works) here to ready = recovering_not Reset (sym device ∙ ready)
working_unready n plan p (Awaits device works) here to ready = recovering_not Reset (sym device ∙ ready)
working_unready n plan p (Identifies device works) here to ready = recovering_not Reset (sym device ∙ ready)
working_unready n plan p (Logs before file device works) here to ready = recovering_not (Log before) (sym device ∙ ready)
working_unready n plan p (Spoilt device free) here to ready = recovering_not Reset (sym device ∙ ready)

pub steps_alone_on : (n : ℕ) (d : Driver) (p : Path) (s : ℕ) (e : Entry) → IsTended n d → d.plan.path ≡ Some p → p.dev ≡ n → IsLiveAt n s d.entries e → ⊥
steps_alone_on n d p s e h here to there = working_unready n d.plan p h.plan.way here to (h.requests.ready s e there)

shows_not_signs : (xs : List Reply) → xs ≡ ShowsPage ∷ [] → xs ≢ Signs ∷ []
shows_not_signs xs is signs = let bad : ShowsPage ∷ [] ≡ Signs ∷ [] = sym is ∙ signs in cc

pub log_begins_served : LogBeginsServed
log_begins_served n h base file page commands touches below sound served tended works off alone sent unset waited tags owes =
    let told : IsHistoryOf n (shared_by h) (own n touches) = served.told n (omega (arith, below)) in
    let signed : HasSigned base = shows_not_signs (ledger base).awaited owes.awaited in
    record {
      sound = sound;
      served = served;
      hosted = anew.opens (shared_by h) commands (own n touches) (opens_after.paging n (shared_by h) commands (own n touches) (ledger base) page told alone sent unset waited tags owes);
      tended = tended;
      named = λ s t e here there queued. absurd (unnamed s t e there (served.issues n s t here).from);
      signed = λ asked. signed;
      row = λ fine signs. signed;
      ended = λ there unset. signed;
      begun = λ there t here.
          let at : IsThere (view_of n h.port).slots 30 t =
          there_by (view_of n h.port).slots 30 t (own_issue (view_of n h.port).slots 30) refl (sym (ap (option_map work_of_transfer) here) ∙ told.issued 30) in
          sent 30 at.issue at.there ∙ (alone 30 at.issue at.there).sent;
      resets = λ set. absurd (true≢false (sym set ∙ off));
    }
  where
    unnamed : (s : ℕ) (t : Transfer) (e : Entry) → entry_at h.driver.entries s ≡ Some e → From h.driver n s t → ⊥
    unnamed s t e there (inl r) =
        steps_alone_on n h.driver (record { dev = n; stage = ReadLog file; asked = true }) s r.entry tended works refl (record { stands = r.stands; of_dev = r.of_dev; lives = issued_live r.entry r.goes })
    unnamed s t e there (inr (inl i)) = let low : s < 30 = in_slots h.driver.entries s e served.bounded.slots there in omega (arith, low, i.slot)
    unnamed s t e there (inr (inr o)) = omega (arith, below, o.of_dev)

-- ---- where the log was not whole

pub no_context_at : (o : Option Context) → ((c : Context) → o ≡ Some c → ⊥) → o ≡ None
no_context_at None never = refl
no_context_at (Some c) never = absurd (never c refl)

pub spoilt_is_free : SpoiltIsFree
spoilt_is_free n base h given commands touches below device free served =
    let told : IsHistoryOf n (shared_by h) (own n touches) = served.served.told n (omega (arith, below)) in
    let none : (s : ℕ) → issued s (own n touches) ≡ None = λ s. no_transfer (issued s (own n touches)) (λ t here. by_issue s t (served.served.issues n s t here).from) in
    let slots : (s : ℕ) → own_issue (view_of n h.port).slots s ≡ None =
    λ s. no_issue (own_issue (view_of n h.port).slots s) (sym (ap (option_map work_of_transfer) (none s)) ∙ told.issued s) in
    record {
      told = none;
      slots = slots;
      context = no_context_at (view_of n h.port).slots.context (no_context n (shared_by h) (own n touches) told slots);
    }
  where
    by_issue : (s : ℕ) (t : Transfer) → From h.driver n s t → ⊥
    by_issue s t (inl r) =
        recovering_not Reset (sym device ∙ served.tended.requests.ready s r.entry (record { stands = r.stands; of_dev = r.of_dev; lives = issued_live r.entry r.goes }))
    by_issue s t (inr (inl i)) = free i.path i.goes i.of_dev
    by_issue s t (inr (inr o)) = omega (arith, below, o.of_dev)
