-- For `rested_disks_have_done`. Of a disk that the driver takes to be ready no read or write waits or is issued, since its port shows
-- neither BSY nor DRQ.
use Rattle.std.proofs.Common.{◌≡◌, ℕ, ◌<◌, ◌≤◌, ◌==◌, Bool, true, false, List, [], max, bit_or, length, refl, sym, ap, subst, ◌∙◌, inl, inr, Option}
use Rattle.std.proofs.{Common.{Some, None, arith}, lemmas.Bool.{and_parts, eqb-true, false≢true, true≢false, Decides.nat_tests}}
use Rattle.std.proofs.lemmas.Nat.Bits.{bit_at-lt, bit_at-zero, bit_at_or}
use Rattle.std.specs.{Prelude.{◌||◌, if◌then◌else◌, is_some, not}, Int.bit_at, Option.option_map}
use Rattle.host_memory.specs.Memory.{Memory}
use Rattle.slots.specs.{Commands.{is_unanswered, slots_where}, Slots.{Issue, has_bit, holds as issue_holds, is_queued_issue, is_waiting, issue_at}}
use Rattle.slots.specs.{Slots.{own_issue, owned_by, slots_of, waiting, Slots}, Work.is_dma, declared.work.Kind.{Kind, TheVariants.QueuedRead}}
use Rattle.slots.specs.declared.work.Kind.TheVariants.{QueuedWrite}
use Rattle.slots.specs.Work as moved
use Rattle.slots.specs.declared.work.Work as transferred
use Rattle.slots.proofs.Door.{has_bit_mask, lowest_is, own_at}
use Rattle.hba_commands.specs.declared.command.Command.{Command}
use Rattle.hba_fbs.specs.{Offsets.register_at, Reading.value_of, Status.{is_busy, wants_data}, Views.{Port, last_command, state_at, view_of}}
use Rattle.disk_model.specs.{declared.plan.DiskPlan.DiskPlan, Histories.Happening}
use Rattle.hba_laws.specs.{Agreement.{IsHistoryOf, work_of_issue}, Client.{Touches, own}, History.{Transfer, issued}}
use Rattle.hba_laws.proofs.Door.{own_here, own_in}
use Rattle.hba_driver.specs.declared.{mode.Mode.TheVariants.Switching, path.Path.Path, plan.Device.{Device, TheVariants.{Ready, Recovering}}}
use Rattle.hba_driver.specs.{declared.{plan.Device.TheVariants.Starting, path.Recovery.Recovery, request.Work.Work}, Drivers.{Entry, device_at}}
use Rattle.hba_driver.specs.{Drivers.{entry_at, is_issued, waits}, Events.{IsSoundHost, shared_by}, HostTurns.{Host, sight_in}, Orders.is_flush}
use Rattle.hba_driver.specs.{Orders.is_queued, Seeing.Sight, Served.{IsIssueOf, IsRequest}, Sights.{px_ci, px_sact, shown, sight_of}, Slot30.Faulty}
use Rattle.hba_driver.specs.{Slot30.{IsPlan30, Off, On, Stage30, is_faulty}, Steady.IsFine, Tended.{Awaits, Fine, Identifies, IsLiveAt, IsTendedBy}}
use Rattle.hba_driver.specs.Tended.{Logs, Releases, Spoilt}
use Rattle.hba_driver.specs.declared.request.Work.TheVariants as work
use Rattle.hba_driver.proofs.Door.{issued_live, sight_is, told_of}
use Rattle.disk_recovery.specs.Ends.{Apart, AreEnds, IsRunning, IsSetAside, IsTogether, Together}
use Rattle.disk_recovery.proofs.Door.{request_kind}
use Rattle.world_rests.specs.{Left.{IsOccupied, NoneIsOut, NoneIsLeft}, Sent.{HasOther, HasQueued, Holds, InReset, IsBusy, PortWaits, WantsData}}
use Rattle.world_rests.specs.Waits.{DriverWaits}
use Rattle.world_rests.proofs.Open.{WasIssued, was_issued}

-- ---- a bit of PxCI or PxSACT

ci_is : (port : Port) → shown port px_ci ≡ slots_where is_unanswered port.slots
unfolding shown register_at value_of
ci_is port = refl

sact_is : (port : Port) → shown port px_sact ≡ bit_or port.registers.armed (slots_where is_queued_issue port.slots)
unfolding shown register_at value_of
sact_is port = refl

neither_of : (x y m : ℕ) → m ≡ max x y → x ≤ 1 → y ≤ 1 → (x == 1) ≡ false → (y == 1) ≡ false → (m == 1) ≡ false
neither_of x y m is xs ys first second = grind (arith, nat_tests)

bit_small : (a k : ℕ) → bit_at a k ≤ 1
bit_small a k = omega (arith, bit_at-lt a k)

or_neither : (a b k : ℕ) → has_bit a k ≡ false → has_bit b k ≡ false → has_bit (bit_or a b) k ≡ false
or_neither a b k first second = neither_of (bit_at a k) (bit_at b k) (bit_at (bit_or a b) k) (bit_at_or a b k) (bit_small a k) (bit_small b k) first second

none_shown : (port : Port) (memory : Memory) (s : ℕ) → s < 32 → port.registers.armed ≡ 0 → issue_at port.slots s ≡ None → has_bit (sight_of Switching port memory).issued s ≡ false
unfolding sight_of
none_shown port memory s low unarmed none =
    let zero_bit : has_bit 0 s ≡ false = ap (λ (b : ℕ). b == 1) (bit_at-zero s) in
    let unanswered : has_bit (shown port px_ci) s ≡ false =
    ap (λ (m : ℕ). has_bit m s) (ci_is port) ∙ has_bit_mask (λ slot. issue_holds is_unanswered (issue_at port.slots slot)) s low ∙ ap (issue_holds is_unanswered) none in
    let queued : has_bit (slots_where is_queued_issue port.slots) s ≡ false =
    has_bit_mask (λ slot. issue_holds is_queued_issue (issue_at port.slots slot)) s low ∙ ap (issue_holds is_queued_issue) none in
    let armed : has_bit port.registers.armed s ≡ false = ap (λ (m : ℕ). has_bit m s) unarmed ∙ zero_bit in
    let second : has_bit (shown port px_sact) s ≡ false =
    ap (λ (m : ℕ). has_bit m s) (sact_is port) ∙ or_neither port.registers.armed (slots_where is_queued_issue port.slots) s armed queued in
    or_neither (shown port px_ci) (shown port px_sact) s unanswered second

pub stands_at : (h : Host) (s : ℕ) → IsSoundHost h → s < 32 → h.port.registers.armed ≡ 0 → has_bit (sight_in h).issued s ≡ true → (i : Issue) × (issue_at h.port.slots s ≡ Some i)
stands_at h s sound low unarmed seen = by_issue (issue_at h.port.slots s) refl
  where
    by_issue : (o : Option Issue) → issue_at h.port.slots s ≡ o → (i : Issue) × (o ≡ Some i)
    by_issue None none =
        absurd (true≢false (sym seen ∙ ap (λ (v : Sight). has_bit v.issued s) (sight_is h sound) ∙ none_shown h.port h.memory s low unarmed none))
    by_issue (Some i) here = (i, refl)

-- ---- kinds

pub not_dma : (kind : Kind) → moved.is_queued kind ≡ true → is_dma kind ≡ true → ⊥
not_dma QueuedRead queued dma = false≢true dma
not_dma QueuedWrite queued dma = false≢true dma
not_dma other queued dma = false≢true queued

flushes : (w : Work) → is_queued w ≡ false → is_flush w ≡ true
flushes work.Flush plain = refl
flushes other plain = absurd (true≢false plain)

-- ---- a ready device

pub own_dev : (n s : ℕ) (slots : Slots) (j : Issue) → own_issue (slots_of n slots) s ≡ Some j → s < length slots.issues → j.dev ≡ n
own_dev n s slots j here lt = by_owner (issue_at slots s) (sym (own_at n slots s lt) ∙ here)
  where
    by_test : (k : Issue) (b : Bool) → (k.dev == n) ≡ b → (if b then Some k else None) ≡ Some j → j.dev ≡ n
    by_test k true is same = let one : k ≡ j = cc same in ap (λ (x : Issue). x.dev) (sym one) ∙ eqb-true k.dev n is
    by_test k false is same = absurd (cc same)

    by_owner : (o : Option Issue) → owned_by n o ≡ Some j → j.dev ≡ n
    by_owner None same = absurd (cc same)
    by_owner (Some k) same = by_test k (k.dev == n) refl same

module _ (n : ℕ) (h : Host) (disk : List Happening) (port : PortWaits h.port) (fine : IsFine (device_at h.driver.plan n)) where
  -- a device that is set aside recovers
  never : (way : Recovery) → device_at h.driver.plan n ≡ Recovering way → ⊥
  never way is = subst IsFine is fine

  recovers : (stage : Stage30) → is_faulty stage ≡ false → IsPlan30 n stage h.driver.plan → ⊥
  recovers Faulty well at = true≢false well
  recovers On well (inl at) = never _ at.device
  recovers On well (inr at) = never _ at.device
  recovers Off well (inl at) = never _ at.device
  recovers Off well (inr at) = never _ at.device
  recovers other well at = never _ at.device

  pub apart_never : IsSetAside n h disk [] [] → ⊥
  apart_never a =
      let unfaulted : is_faulty a.stage ≡ false = sym a.at.fault ∙ ap is_some (port.faultless n) in
      recovers a.stage unfaulted (a.at.apart unfaulted).plan

  pub none_is_shown : (floors : ℕ → ℕ) (touches : Touches) → (IsTogether n h disk [] [] floors touches → IsOccupied n h.port → ⊥) → AreEnds n h disk [] [] floors touches → IsOccupied n h.port → ⊥
  none_is_shown floors touches idle (Together t) = idle t
  none_is_shown floors touches idle (Apart a are) = λ occupied. apart_never a

module _ (n : ℕ) (below : n < 15) (plan : DiskPlan) (sectors : ℕ) (h : Host) (disk : List Happening) (floors : ℕ → ℕ) (touches : Touches)
    (running : IsRunning plan sectors disk touches h) (port : PortWaits h.port) (driver : DriverWaits (sight_in h) h.driver) (out : NoneIsOut n h.port)
    (ready : device_at h.driver.plan n ≡ Ready) where
  other_device : {X : Type 0} (d : Device) → device_at h.driver.plan n ≡ d → (Ready ≡ d → X) → X
  other_device d is never = never (sym ready ∙ is)

  long : length h.port.slots.issues ≡ 32
  long = running.on.sound.ruled.table.slots

  -- a command that is issued for the device, as the history has it
  transfer_at : (s : ℕ) (i : Issue) → own_issue (view_of n h.port).slots s ≡ Some i → WasIssued s i (own n touches)
  transfer_at s i here =
      let told : IsHistoryOf n (shared_by h) (own n touches) = running.on.served.told n (omega (arith, below)) in
      was_issued s i (own n touches) (issued s (own n touches)) refl (told.issued s ∙ ap (option_map work_of_issue) here)

  -- the command of a request moves what the request asks for
  kind_of : (s : ℕ) (i : Issue) (t : Transfer) (e : Entry) → s < 30 → issue_at h.port.slots s ≡ Some i → issued s (own n touches) ≡ Some t → entry_at h.driver.entries s ≡ Some e
      → moved.is_queued t.work.kind ≡ is_queued e.head.work
  kind_of s i t e low there here stands = by_command (last_command h.port.commands s) refl
    where
      by_command : (o : Option Command) → last_command h.port.commands s ≡ o → moved.is_queued t.work.kind ≡ is_queued e.head.work
      by_command None none =
          let free : issue_at h.port.slots s ≡ None = running.on.sound.ruled.rules.commands s none in
          let wrong : Some i ≡ None = sym there ∙ free in
          absurd (cc wrong)
      by_command (Some command) last =
          let fis = running.on.served.fises n s t command here last in
          ap (λ (w : transferred.Work). moved.is_queued w.kind) (fis.of_request e low stands).work ∙ request_kind s e

  module _ (t : IsTogether n h disk [] [] floors touches) where
    -- slot 30 does not work on it
    no_path : (p : Path) → h.driver.plan.path ≡ Some p → p.dev ≡ n → ⊥
    no_path p is dev = by_way t.served.tended.plan.way
      where
        by_way : IsTendedBy n h.driver.plan → ⊥
        by_way (Fine fine works) = let wrong : Ready ≡ Starting = sym ready ∙ (works p is dev).1.1 in absurd (cc wrong)
        by_way (Releases device works) = let wrong = sym ready ∙ device in absurd (cc wrong)
        by_way (Awaits device works) = let wrong = sym ready ∙ device in absurd (cc wrong)
        by_way (Identifies device works) = let wrong = sym ready ∙ device in absurd (cc wrong)
        by_way (Logs before file device works) = let wrong = sym ready ∙ device in absurd (cc wrong)
        by_way (Spoilt device away) = away p is dev

    -- what is issued for it is a request
    requested : (s : ℕ) (t : Transfer) → issued s (own n touches) ≡ Some t → IsRequest h.driver n s t
    requested s t here = by_from (running.on.served.issues n s t here)
      where
        by_from : IsIssueOf h.driver n s t → IsRequest h.driver n s t
        by_from is = elim is.from [
          | inl r ↦ r
          | inr (inl step) ↦ absurd (no_path step.path step.goes step.of_dev)
          | inr (inr order) ↦ let same : n ≡ 15 = order.of_dev in absurd (omega (arith, below, same))
        ]

    unreset : (view_of n h.port).state.resetting ≡ true → ⊥
    unreset resets = let at = (t.served.resets resets).0 in no_path at.0 at.1.0 at.1.1.0

    module _ (slot : ℕ) (e : Entry) (low : slot < 30) (stands : entry_at h.driver.entries slot ≡ Some e) (dev_is : e.head.dev ≡ n) (queued : is_queued e.head.work ≡ true)
        (goes : is_issued e.head ≡ true) (i : Issue) (there : issue_at h.port.slots slot ≡ Some i) (its : i.dev ≡ n) where
      here : own_issue (view_of n h.port).slots slot ≡ Some i
      here = subst (λ (d : ℕ). own_issue (view_of d h.port).slots slot ≡ Some i) its (own_here slot h.port.slots i (omega (arith, long, low)) there)

      kind : moved.is_queued i.work.kind ≡ true
      kind =
          let w : WasIssued slot i (own n touches) = transfer_at slot i here in
          ap (λ (x : transferred.Work). moved.is_queued x.kind) (sym w.work) ∙ kind_of slot i w.transfer e low there w.there stands ∙ queued

      -- no other command of it waits for its answer
      none_waits : (s : ℕ) → waiting (slots_of i.dev h.port.slots) ≡ Some s → ⊥
      none_waits s is =
          let found = lowest_is (λ k. issue_holds is_waiting (own_issue (slots_of n h.port.slots) k)) 32 s (subst (λ (d : ℕ). waiting (slots_of d h.port.slots) ≡ Some s) its is) in
          by_issue (own_issue (slots_of n h.port.slots) s) refl found.passes
        where
          by_kind : (j : Issue) (b : Bool) → own_issue (slots_of n h.port.slots) s ≡ Some j → j.sent ≡ true → moved.is_queued j.work.kind ≡ b → ⊥
          by_kind j true here_too sent kind_is =
              let both = own_in n s h.port.slots j here_too in
              let lt : s < length h.port.slots.issues = both.0 in
              let owned : j.dev ≡ n = own_dev n s h.port.slots j here_too lt in
              true≢false (sym sent ∙ out s j (omega (arith, lt, long)) both.1 owned kind_is)
          by_kind j false here_too sent kind_is =
              let both = own_in n s h.port.slots j here_too in
              let w : WasIssued s j (own n touches) = transfer_at s j here_too in
              let r : IsRequest h.driver n s w.transfer = requested s w.transfer w.there in
              let plain : is_queued r.entry.head.work ≡ false =
              sym (kind_of s j w.transfer r.entry r.slot both.1 w.there r.stands) ∙ ap (λ (x : transferred.Work). moved.is_queued x.kind) w.work ∙ kind_is in
              let other : IsLiveAt n s h.driver.entries r.entry = record { stands = r.stands; of_dev = r.of_dev; lives = issued_live r.entry r.goes } in
              let this : IsLiveAt n slot h.driver.entries e = record { stands = stands; of_dev = dev_is; lives = issued_live e goes } in
              let same : s ≡ slot = t.served.tended.requests.alone s slot r.entry e other this (flushes r.entry.head.work plain) in
              let one : r.entry ≡ e = let both_stand : Some r.entry ≡ Some e = sym r.stands ∙ ap (entry_at h.driver.entries) same ∙ stands in cc both_stand in
              true≢false (sym queued ∙ ap (λ (x : Entry). is_queued x.head.work) (sym one) ∙ plain)

          by_issue : (o : Option Issue) → own_issue (slots_of n h.port.slots) s ≡ o → issue_holds is_waiting o ≡ true → ⊥
          by_issue None none holds = false≢true holds
          by_issue (Some j) here_too holds = by_kind j (moved.is_queued j.work.kind) here_too (and_parts j.sent (not j.answered) holds).0 refl

      -- so BSY or DRQ holds it back
      occupied : IsOccupied n h.port
      occupied = elim (port.sent slot i (omega (arith, low)) there) [
        | inl sent ↦ absurd (true≢false (sym sent ∙ out slot i (omega (arith, low)) there its kind))
        | inr back ↦ by_holds back.holds
      ]
        where
          by_holds : Holds h.port i → IsOccupied n h.port
          by_holds (InReset resets) = absurd (unreset (subst (λ (d : ℕ). (state_at h.port.states d).resetting ≡ true) its resets))
          by_holds (IsBusy busy) = inl (subst (λ (d : ℕ). is_busy (state_at h.port.states d).status ≡ true) its busy)
          by_holds (WantsData wants) = inr (subst (λ (d : ℕ). wants_data (state_at h.port.states d).status ≡ true) its wants)
          by_holds (HasOther s is) = absurd (none_waits s is)
          by_holds (HasQueued dma outstanding) = absurd (not_dma i.work.kind kind dma)

    -- no read or write of it waits or is issued
    none_left : (IsOccupied n h.port → ⊥) → NoneIsLeft n h
    none_left idle slot e low stands dev_is queued = by_phase (waits e.head) (is_issued e.head) refl refl
      where
        its_issue : is_issued e.head ≡ true → ⊥
        its_issue goes =
            let unarmed : h.port.registers.armed ≡ 0 = running.on.unarmed in
            let there = stands_at h slot running.on.sound (omega (arith, low)) unarmed (driver.requests.issued slot e low stands goes) in
            let told = told_of (shared_by h) touches running.on.sound.ruled.table running.on.served.told slot there.0 there.1 in
            let of : IsIssueOf h.driver there.0.dev slot told.0 = running.on.served.issues there.0.dev slot told.0 told.1 in
            elim of.from [
              | inl r ↦
                  let both_stand : Some r.entry ≡ Some e = sym r.stands ∙ stands in
                  let one : r.entry ≡ e = cc both_stand in
                  let its : there.0.dev ≡ n = sym r.of_dev ∙ ap (λ (x : Entry). x.head.dev) one ∙ dev_is in
                  idle (occupied slot e low stands dev_is queued goes there.0 there.1 its)
              | inr (inl step) ↦ let at : slot ≡ 30 = step.slot in absurd (omega (arith, low, at))
              | inr (inr order) ↦ let at : slot ≡ 31 = order.slot in absurd (omega (arith, low, at))
            ]

        by_phase : (a b : Bool) → waits e.head ≡ a → is_issued e.head ≡ b → (waits e.head || is_issued e.head) ≡ false
        by_phase true b waiting_now issued_now =
            absurd (driver.requests.waiting slot e low stands waiting_now (ap (device_at h.driver.plan) dev_is ∙ ready))
        by_phase false true waiting_now issued_now = absurd (its_issue issued_now)
        by_phase false false waiting_now issued_now = ap (λ (b : Bool). b || is_issued e.head) waiting_now ∙ issued_now

  module _ (idle : IsTogether n h disk [] [] floors touches → IsOccupied n h.port → ⊥) where
    pub none_is_left : AreEnds n h disk [] [] floors touches → NoneIsLeft n h
    none_is_left (Together t) = none_left t (idle t)
    none_is_left (Apart a are) = absurd (apart_never n h disk port (subst IsFine (sym ready) tt) a)
