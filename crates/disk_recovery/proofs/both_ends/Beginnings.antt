-- For `ends_go_on`. Where a disk and its host are together: from the flush of the disk on, as its error log was asked
-- for, and as a software reset of it ended.
use Rattle.std.proofs.Common.{◌≡◌, ℕ, ◌<◌, ◌≤◌, ◌⊎◌, true, false, List, [], ◌∷◌, ◌++◌, refl, sym, ◌∙◌, ap, subst, inl, inr, None, length, arith}
use Rattle.std.proofs.lemmas.List.{append-nil}
use Rattle.hba_fbs.specs.Views.{DeviceView, view_of}
use Rattle.disk_model.specs.{Anew.OwesOnly, Histories.{Happening, Plugged, Received, Sent}}
use Rattle.disk_model.specs.Ledger.{Ledger, ShowsPage, Signs, Wanted, ledger, ledger_after}
use Rattle.disk_model.proofs.Door.{begins_anew}
use Rattle.hba_laws.specs.{Client.{Touches, own}, History.History}
use Rattle.hba_laws.specs.Hosts as event
use Rattle.disk_simulation.specs.{Anew.IsHostedOn, Hosted.IsHosted, Line.BothBegin, Same.SlotCommand}
use Rattle.disk_simulation.specs.Anew as anew
use Rattle.disk_simulation.specs.Hosted as since_new
use Rattle.disk_simulation.proofs.Door.{both_have_begun, none_is, opens_signing, watches_on}
use Rattle.hba_driver.specs.declared.{path.Recovery.{Recovery, TheVariants.{Log, Reset}}, path.Stage.TheVariants.{AwaitReset, ReadLog, ReleaseReset}}
use Rattle.hba_driver.specs.{declared.plan.Device.{Device, TheVariants.{Ready, Recovering}}, Drivers.device_at, Events.shared_by, HostTurns.Host}
use Rattle.hba_driver.specs.Slot30.{IsApart30, IsAt30, IsOn30, IsUnsought, LogSent, Off, ReadsLog, Resets}
use Rattle.hba_driver.specs.Tended.{IsAtStage, IsBegun, IsReleasing, IsUnreset}
use Rattle.hba_driver.proofs.Door.{stage_is, steady_tends}
use Rattle.disk_recovery.proofs.{together.TogetherBegins.{asked_of, steady_not}, apart.ApartBegins.{log_begins, reset_begins}}
use Rattle.disk_recovery.proofs.{unasked.UnaskedLemmas.stays_unasked, both_ends.WorkedLemmas.{log_worked, reset_worked, steady_worked}}
use Rattle.disk_recovery.specs.{Apart.ServesFrom, Kept.IsServedHonestly, Steady.HasSigned, Together.IsServedOn}
use Rattle.disk_recovery.specs.Ends.{AreFloors, AreReached, FlushBegins, IsTogether, Resetting, Steady, Together, no_floors}

-- ---- a flush

more_not : (g : List Happening) (e : Happening) → g ++ e ∷ [] ≡ Plugged ∷ [] → e ≡ Plugged
more_not [] e is = let bad : e ∷ [] ≡ Plugged ∷ [] = is in cc
more_not (x ∷ []) e is = let bad : x ∷ e ∷ [] ≡ Plugged ∷ [] = is in cc
more_not (x ∷ y ∷ g) e is = let bad : x ∷ y ∷ (g ++ e ∷ []) ≡ Plugged ∷ [] = is in cc

sent_not : (g : List Happening) (bytes : List ℕ) → g ++ Sent bytes ∷ [] ≡ Plugged ∷ [] → ⊥
sent_not g bytes is = let bad : Sent bytes ≡ Plugged = more_not g (Sent bytes) is in cc

received_not : (g : List Happening) (bytes : List ℕ) → g ++ Received bytes ∷ [] ≡ Plugged ∷ [] → ⊥
received_not g bytes is = let bad : Received bytes ≡ Plugged = more_not g (Received bytes) is in cc

-- a new disk has ended no write
none_written : length (ledger (Plugged ∷ [])).writes ≡ 0
unfolding ledger_after
none_written = refl

none_counted : (since : ℕ) (g : List Happening) (k : Ledger) → g ≡ Plugged ∷ [] → since ≤ length (ledger g).writes → since ≤ length k.writes
none_counted since g k is low =
    let none : length (ledger g).writes ≡ 0 = ap (λ (h : List Happening). length (ledger h).writes) is ∙ none_written in
    omega (arith, low, none)

-- a host of a disk that did nothing since it was plugged in began with that, whatever it did before
module _ (n : ℕ) (before : List Happening) where
  hosted_plugged : (host : event.Host) (given : List Happening) (commands : ℕ → SlotCommand) (past : History) → IsHosted n host given commands past
      → given ≡ Plugged ∷ [] → IsHostedOn n (before ++ Plugged ∷ []) host (before ++ Plugged ∷ []) commands past
  hosted_plugged host given commands past (since_new.plugged h c p history none tags) is =
      anew.opens h c p (opens_signing n h c p (ledger (before ++ Plugged ∷ [])) history none tags (begins_anew.plugged before))
  hosted_plugged host given commands past (since_new.stays old new g c p same hosted) is =
      anew.stays old new (before ++ Plugged ∷ []) c p
      (record { slots = ap (λ (v : DeviceView). v.slots) same; block = ap (λ (v : DeviceView). v.state.block) same }) (inr same)
      (hosted_plugged old g c p hosted is)
  hosted_plugged host given commands past (since_new.issues old new value g c next p sound chosen does tags names counted hosted) is =
      anew.issues old new value (before ++ Plugged ∷ []) c next p sound chosen does tags names
      (λ s some. none_counted (next s).since g (ledger (before ++ Plugged ∷ [])) is (counted s some)) (hosted_plugged old g c p hosted is)
  hosted_plugged host given commands past (since_new.hears old new bytes report g c p sound plain framed from_n well right short hosted) is =
      absurd (sent_not g bytes is)
  hosted_plugged host given commands past
      (since_new.sends old new frame slot command f t g c p sound framed does out here queued cfis request signed hosted) is =
      absurd (received_not g _ is)
  hosted_plugged host given commands past
      (since_new.asks old new frame slot command f t g c p sound framed does out here not_queued control moves cfis one none signed hosted) is =
      absurd (received_not g _ is)
  hosted_plugged host given commands past (since_new.gives old new frame offset len command g c p sound framed does out hosted) is =
      absurd (received_not g _ is)

unsigned : HasSigned (Plugged ∷ []) → ⊥
unsigned signed = signed (begins_anew.plugged []).awaited

module _ (n : ℕ) (h : Host) (before : List Happening) (commands : ℕ → SlotCommand) (touches : Touches) (below : n < 15)
    (served : IsServedHonestly n h (Plugged ∷ []) commands touches)
    (off : IsUnreset n h) (opened : 7 ≤ h.driver.plan.opened) (well : (view_of n h.port).fault ≡ None) where
  flush_served : IsServedOn n (before ++ Plugged ∷ []) h (before ++ Plugged ∷ []) commands touches
  flush_served = record {
    sound = served.sound;
    served = served.served;
    hosted = hosted_plugged n before (shared_by h) (Plugged ∷ []) commands (own n touches) served.hosted refl;
    tended = steady_tends n h.driver served.steady;
    named = served.named;
    signed = λ asked. absurd (unsigned (served.signed (asked_of n h.driver.plan asked)));
    row = λ fine signs. absurd (unsigned (served.row signs));
    ended = λ there unset. absurd (steady_not n h.driver.plan IsReleasing served.steady.plan (λ k. k) there);
    begun = λ there t here. absurd (steady_not n h.driver.plan IsBegun served.steady.plan (λ k. k) there);
    resets = λ set. let bad : true ≡ false = sym set ∙ off in cc;
  }

  flush_together : IsTogether n h (before ++ Plugged ∷ []) [] [] no_floors touches
  flush_together =
      let owes : OwesOnly (ledger (before ++ Plugged ∷ [])) (Signs ∷ []) [] = begins_anew.plugged before in
      record {
        base = before ++ Plugged ∷ [];
        given = before ++ Plugged ∷ [];
        commands = commands;
        stale = [];
        later = [];
        up_is = refl;
        on_time = Steady refl off (λ same there. steady_not n h.driver.plan IsReleasing served.steady.plan (λ k. k) there);
        watched = watches_on.begins (before ++ Plugged ∷ []) [] owes.clear;
        served = flush_served;
        told = λ s. omega arith;
        entered = λ s. omega arith;
        reached = λ s t here. omega arith;
        begun = both_have_begun.signs (ledger (before ++ Plugged ∷ [])) owes;
        owes = inl owes;
        opened = opened;
        well = well;
        unasked = (stays_unasked n).plugged h before;
        file = inl refl;
        unready = λ same ready. unsigned (served.signed (inl ready));
        worked = steady_worked n h (before ++ Plugged ∷ []) (before ++ Plugged ∷ []) served.steady;
      }

pub flush_begins : FlushBegins
flush_begins n h before commands touches below served off opened well =
    Together (flush_together n h before commands touches below served off opened well)

-- ---- the log of an error

recovering_not : (way : Recovery) (d : Device) → d ≡ Recovering way → d ≡ Ready → ⊥
recovering_not way d is ready = let bad : Recovering way ≡ Ready = sym is ∙ ready in cc

module _ (n : ℕ) (h : Host) (disk : List Happening) (floors : ℕ → ℕ) (touches : Touches) (below : n < 15) (on : IsOn30 touches h)
    (are : AreFloors floors disk) where
  -- each command is counted from the writes on that have ended by now
  counted : (commands : ℕ → SlotCommand) → ((s : ℕ) → (commands s).since ≡ length (ledger disk).writes) → AreReached floors commands (own n touches)
  counted commands since s t here = subst (λ (m : ℕ). floors s ≤ m) (sym (since s)) (are s)

  log_together : (page : Wanted) → IsAt30 n LogSent h → IsUnsought n h → OwesOnly (ledger disk) (ShowsPage ∷ []) (page ∷ []) → IsTogether n h disk [] [] floors touches
  log_together page at off owes =
      let apart : IsApart30 n LogSent h = at.apart refl in
      let plan : ReadsLog n h.driver.plan = apart.plan in
      let serves : ServesFrom n disk h touches = log_begins n h disk page touches below on.sound on.served at off owes in
      record {
        base = disk;
        given = disk;
        commands = serves.commands;
        stale = [];
        later = [];
        up_is = refl;
        on_time = Steady refl apart.resetting (λ same there. stage_is n (ReadLog plan.file) true h.driver.plan IsReleasing plan.path there);
        watched = watches_on.begins disk [] owes.clear;
        served = serves.on;
        told = are;
        entered = are;
        reached = counted serves.commands serves.counted;
        begun = both_have_begun.shows (ledger disk) page owes;
        owes = inr (page, owes);
        opened = at.opened;
        well = none_is (view_of n h.port).fault at.fault;
        unasked = (stays_unasked n).log h disk at;
        file = inl refl;
        unready = λ same ready. recovering_not (Log plan.file) (device_at h.driver.plan n) plan.device ready;
        worked = log_worked n h disk disk at;
      }

  -- ---- a software reset

  releasing : Resets n ReleaseReset true h.driver.plan ⊎ Resets n AwaitReset false h.driver.plan
      → IsAtStage n IsReleasing h.driver.plan × (device_at h.driver.plan n ≡ Recovering Reset)
  releasing (inl r) = ((record { dev = n; stage = ReleaseReset; asked = true }, (r.path, (refl, tt))), r.device)
  releasing (inr r) = ((record { dev = n; stage = AwaitReset; asked = false }, (r.path, (refl, tt))), r.device)

  reset_together : (old : Ledger) (up : List (List ℕ)) → IsAt30 n Off h → IsUnsought n h → BothBegin old (ledger disk) (Signs ∷ []) [] [] up
      → IsTogether n h disk [] up floors touches
  reset_together old up at off both =
      let apart : IsApart30 n Off h = at.apart refl in
      let way = releasing apart.plan in
      let serves : ServesFrom n disk h touches = reset_begins n h disk touches below on.sound on.served at off both.owes in
      let owes : OwesOnly (ledger disk) (Signs ∷ []) [] = both.owes in
      record {
        base = disk;
        given = disk;
        commands = serves.commands;
        stale = up;
        later = [];
        up_is = sym (append-nil up);
        on_time = Resetting both.quiet refl owes way.0;
        watched = watches_on.begins disk up owes.clear;
        served = serves.on;
        told = are;
        entered = are;
        reached = counted serves.commands serves.counted;
        begun = both_have_begun.signs (ledger disk) owes;
        owes = inl owes;
        opened = at.opened;
        well = none_is (view_of n h.port).fault at.fault;
        unasked = (stays_unasked n).reset h disk at;
        file = inl refl;
        unready = λ same ready. recovering_not Reset (device_at h.driver.plan n) way.1 ready;
        worked = reset_worked n h disk disk at;
      }

pub log_begins_together : (n : ℕ) (h : Host) (disk : List Happening) (old : Ledger) (page : Wanted) (down up : List (List ℕ)) (floors : ℕ → ℕ) (touches : Touches)
    → n < 15 → IsOn30 touches h → AreFloors floors disk
    → IsAt30 n LogSent h → IsUnsought n h → BothBegin old (ledger disk) (ShowsPage ∷ []) (page ∷ []) down up → up ≡ [] → IsTogether n h disk down up floors touches
log_begins_together n h disk old page down up floors touches below on are at off both silent =
    subst (λ (xs : List (List ℕ)). IsTogether n h disk xs up floors touches) (sym both.empty)
    (subst (λ (xs : List (List ℕ)). IsTogether n h disk [] xs floors touches) (sym silent) (log_together n h disk floors touches below on are page at off both.owes))

pub reset_begins_together : (n : ℕ) (h : Host) (disk : List Happening) (old : Ledger) (down up : List (List ℕ)) (floors : ℕ → ℕ) (touches : Touches) → n < 15
    → IsOn30 touches h → AreFloors floors disk
    → IsAt30 n Off h → IsUnsought n h → BothBegin old (ledger disk) (Signs ∷ []) [] down up → IsTogether n h disk down up floors touches
reset_begins_together n h disk old down up floors touches below on are at off both =
    subst (λ (xs : List (List ℕ)). IsTogether n h disk xs up floors touches) (sym both.empty)
    (reset_together n h disk floors touches below on are old up at off
    (subst (λ (xs : List (List ℕ)). BothBegin old (ledger disk) (Signs ∷ []) [] xs up) both.empty both))
