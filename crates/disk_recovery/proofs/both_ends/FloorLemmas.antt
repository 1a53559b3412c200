-- For `ends_go_on`. How many writes had ended when a request was submitted, over each turn of the host and each step of
-- the disk.
use Rattle.std.proofs.Common.{◌≡◌, ℕ, ◌+◌, ◌<◌, ◌≤◌, List, ◌++◌, length, length-append, sym, ap, subst, ◌∙◌, inl, inr, arith}
use Rattle.disk_model.specs.{declared.plan.DiskPlan.DiskPlan, Anew.StayWritten, Histories.Happening, Ledger.ledger}
use Rattle.disk_model.proofs.Door.{writes_stay}
use Rattle.hba_laws.specs.{Client.{Touches, own}, History.History}
use Rattle.disk_simulation.specs.{Anew.IsKeptOn, Same.SlotCommand}
use Rattle.disk_simulation.proofs.Door.{hosted_on_is_kept, watched_is_ahead}
use Rattle.hba_driver.specs.{Events.shared_by, HostTurns.Host}
use Rattle.disk_recovery.specs.Together.{AreCountedOn}
use Rattle.disk_recovery.specs.Ends.{Apart, AreEnds, AreFloors, AreReached, FloorsRise, IsRunning, IsTogether, MayRise, Together}

-- ---- floors

pub floors_more : (floors : ℕ → ℕ) (happened more : List Happening) → AreFloors floors happened → AreFloors floors (happened ++ more)
floors_more floors happened more are s =
    let stay : StayWritten happened more = writes_stay happened more in
    let long : length (ledger (happened ++ more)).writes ≡ length (ledger happened).writes + length stay.later =
    ap length stay.same ∙ length-append (ledger happened).writes stay.later in
    let low : floors s ≤ length (ledger happened).writes = are s in
    omega (arith, long, low)

pub reached_on : (floors : ℕ → ℕ) (commands next : ℕ → SlotCommand) (told : List Happening) (before later : History) → AreFloors floors told
    → AreCountedOn commands next told before later → AreReached floors commands before → AreReached floors next later
reached_on floors commands next told before later are counted reached s t here = elim (counted s t here) [
  | inl was ↦ subst (λ (c : SlotCommand). floors s ≤ c.since) (sym was.1) (reached s t was.0)
  | inr new ↦ subst (λ (m : ℕ). floors s ≤ m) (sym new) (are s)
]

-- ---- floors rise

module _ (n : ℕ) (plan : DiskPlan) (sectors : ℕ) (h : Host) (disk : List Happening) (down up : List (List ℕ)) (floors next : ℕ → ℕ) (touches : Touches)
    (below : n < 15) (runs : IsRunning plan sectors disk touches h) (may : MayRise n floors next disk touches) where
  rise_in : (happened : List Happening) → length (ledger disk).writes ≤ length (ledger happened).writes → AreFloors floors happened
      → AreFloors next happened
  rise_in happened ahead are s = elim (may s) [
    | inl same ↦ subst (λ (m : ℕ). m ≤ length (ledger happened).writes) (sym same) (are s)
    | inr new ↦ let low : next s ≤ length (ledger disk).writes = new.1 in omega (arith, low, ahead)
  ]

  module _ (g : IsTogether n h disk down up floors touches) where
    ahead : length (ledger disk).writes ≤ length (ledger g.given).writes
    ahead =
        let kept : IsKeptOn n g.base (shared_by h) g.given g.commands (own n touches) =
        hosted_on_is_kept n g.base (shared_by h) g.given g.commands (own n touches) below g.served.hosted in
        watched_is_ahead plan sectors g.base disk g.given down g.stale g.later runs.size runs.run g.watched kept.careful

    rises : IsTogether n h disk down up next touches
    rises = record {
      base = g.base;
      given = g.given;
      commands = g.commands;
      stale = g.stale;
      later = g.later;
      up_is = g.up_is;
      on_time = g.on_time;
      watched = g.watched;
      served = g.served;
      told = rise_in g.given ahead g.told;
      entered = rise_in disk (omega arith) g.entered;
      reached = λ s t here. elim (may s) [
        | inl same ↦ subst (λ (m : ℕ). m ≤ (g.commands s).since) (sym same) (g.reached s t here)
        | inr new ↦ absurd (new.0 t here)
      ];
      begun = g.begun;
      owes = g.owes;
      opened = g.opened;
      well = g.well;
      unasked = g.unasked;
      file = g.file;
      unready = g.unready;
      worked = g.worked;
    }

  either : AreEnds n h disk down up floors touches → AreEnds n h disk down up next touches
  either (Together g) = Together (rises g)
  either (Apart set are) = Apart set (rise_in disk (omega arith) are)

pub floors_rise : FloorsRise
floors_rise n plan sectors h disk down up floors next touches below runs may ends =
    either n plan sectors h disk down up floors next touches below runs may ends
