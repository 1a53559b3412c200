-- For `rested_disks_are_left`. Where no command is with a disk, nothing is issued for it, and slot 30 does not work on it.
use Rattle.std.proofs.Common.{◌≡◌, ℕ, ◌<◌, Bool, true, false, List, [], ◌∷◌, ◌++◌, length, refl, sym, ap, subst, ◌∙◌, inl, inr, Option, Some, None}
use Rattle.std.proofs.{Common.arith, lemmas.{Bool.{and_parts, false≢true, true≢false}, List.FromFn.{get_or-map-range_with_len}}}
use Rattle.std.specs.Prelude.{◌||◌, is_some, not, slice_index_or}
use Rattle.host_memory.specs.Memory.{Memory}
use Rattle.slots.specs.{Commands.has_outstanding, Setup.is_outstanding, Slots.{Issue, has_bit, holds as issue_holds, is_control, is_queued_issue}}
use Rattle.slots.specs.{Slots.{is_waiting, lowest_below, new_issue, own_issue, slots_of, waiting}, Table.IsIssue}
use Rattle.slots.proofs.Door.{lowest_is}
use Rattle.hba_commands.specs.Requests.{request_of, work_of}
use Rattle.hba_fbs.specs.{Status.{is_busy, wants_data}, Views.{Port, state_at, view_of}}
use Rattle.disk_model.specs.{declared.plan.DiskPlan.DiskPlan, Histories.Happening, Laws.OwesNothing, Ledger.ledger}
use Rattle.hba_laws.specs.Client.{Touches}
use Rattle.hba_laws.proofs.Door.{is_own, own_here, own_in}
use Rattle.hba_driver.specs.declared.{mode.Mode.Mode, path.{Path.Path, Recovery.Recovery, Stage.{Stage, TheVariants.{AssertReset, AwaitReset}}}}
use Rattle.hba_driver.specs.declared.{path.Stage.TheVariants.{ReadLog, ReleaseReset}, plan.Device.{Device, TheVariants.Recovering}, slot.Phase.Phase}
use Rattle.hba_driver.specs.{Drivers.{Entry, device_at, entry_at, has_ended_in, is_aside_in, is_issued, waits, waits_in}, Events.shared_by}
use Rattle.hba_driver.specs.{HostTurns.{Host, sight_in}, Orders.control, Served.IsIssueOf, Sights.sight_of, Slot30.{Asks, Cleared, Clears, Faulty}}
use Rattle.hba_driver.specs.Slot30.{IsApart30, IsPlan30, IsSlot30, LogSent, Off, On, Sets, Stage30, is_faulty, is_resetting, path_of}
use Rattle.hba_driver.specs.{Tended.{IsLiveAt, IsUnworked}, Turns.is_in_reset}
use Rattle.hba_driver.specs.declared.slot.Phase.TheVariants as phase
use Rattle.hba_driver.proofs.Door.{is_alone, told_of}
use Rattle.disk_simulation.specs.Line.{Asked, Both, Failed, Held, Line, Loose, OnLine, Releasing, Resting}
use Rattle.disk_recovery.specs.{Ends.{Apart, AreEnds, IsRunning, IsSetAside, IsTogether, Together}, Stages.{Fits, IsIdle, Leans}}
use Rattle.world_rests.specs.{Left.IsOccupied, Out.{DiskIsFree, NoRequestIsLeft, NothingIsIssued, NothingIsOut, WorksElsewhere}, Sent.HasOther}
use Rattle.world_rests.specs.{Sent.{HasQueued, Holds, InReset, IsBusy, PortWaits, WantsData}, Waits.{DriverWaits, ForCommand, ForEnd, ForNobody}}
use Rattle.world_rests.specs.Waits.{NeedsNothing, Waits30}
use Rattle.world_rests.proofs.{Answered.has_told, NothingOut.control_kind, Ready.{own_dev, stands_at}}

not_both : {X : Type 0} (b : Bool) → b ≡ true → b ≡ false → X
not_both b is not = absurd (true≢false (sym is ∙ not))

outstanding_sent : (i : Issue) → IsIssue i → is_outstanding i ≡ true → i.sent ≡ true
outstanding_sent i is out = (is.answers (and_parts (is_queued_issue i) i.answered out).1).1

-- a software reset that the driver sees under way is
in_reset_is : (n : ℕ) (mode : Mode) (port : Port) (memory : Memory) → n < 16 → is_in_reset (sight_of mode port memory) n ≡ (view_of n port).state.resetting
unfolding sight_of
in_reset_is n mode port memory below = get_or-map-range_with_len (λ dev. (view_of dev port).state.resetting) 0 16 n n false below (omega arith)

module _ (n : ℕ) (below : n < 15) (plan : DiskPlan) (sectors : ℕ) (h : Host) (disk : List Happening) (floors : ℕ → ℕ) (touches : Touches)
    (running : IsRunning plan sectors disk touches h) (owes : OwesNothing (ledger disk)) (port : PortWaits h.port) (driver : DriverWaits (sight_in h) h.driver)
    (out : NothingIsOut n h.port) (idle : IsTogether n h disk [] [] floors touches → IsOccupied n h.port → ⊥) where
  long : length h.port.slots.issues ≡ 32
  long = running.on.sound.ruled.table.slots

  -- no command of the device went out, by its own slots
  none_sent : (s : ℕ) (i : Issue) → own_issue (slots_of n h.port.slots) s ≡ Some i → i.sent ≡ true → ⊥
  none_sent s i here sent =
      let both = own_in n s h.port.slots i here in
      let lt : s < length h.port.slots.issues = both.0 in
      true≢false (sym sent ∙ out s i (omega (arith, lt, long)) both.1 (own_dev n s h.port.slots i here lt))

  none_waits : (s : ℕ) → waiting (slots_of n h.port.slots) ≡ Some s → ⊥
  none_waits s is =
      let found = lowest_is (λ k. issue_holds is_waiting (own_issue (slots_of n h.port.slots) k)) 32 s is in
      by_issue (own_issue (slots_of n h.port.slots) s) refl found.passes
    where
      by_issue : (o : Option Issue) → own_issue (slots_of n h.port.slots) s ≡ o → issue_holds is_waiting o ≡ true → ⊥
      by_issue None none waits = false≢true waits
      by_issue (Some i) here waits = none_sent s i here (and_parts i.sent (not i.answered) waits).0

  none_outstanding : has_outstanding (slots_of n h.port.slots) ≡ true → ⊥
  none_outstanding some = by_lowest (lowest_below (λ k. issue_holds is_outstanding (own_issue (slots_of n h.port.slots) k)) 32) refl some
    where
      by_issue : (s : ℕ) (o : Option Issue) → own_issue (slots_of n h.port.slots) s ≡ o → issue_holds is_outstanding o ≡ true → ⊥
      by_issue s None none is = false≢true is
      by_issue s (Some i) here is = none_sent s i here (outstanding_sent i ((is_own n h.port.slots running.on.sound.ruled.table).issues s i here) is)

      by_lowest : (o : Option ℕ) → lowest_below (λ k. issue_holds is_outstanding (own_issue (slots_of n h.port.slots) k)) 32 ≡ o → is_some o ≡ true → ⊥
      by_lowest None is some = false≢true some
      by_lowest (Some s) is some =
          by_issue s (own_issue (slots_of n h.port.slots) s) refl (lowest_is (λ k. issue_holds is_outstanding (own_issue (slots_of n h.port.slots) k)) 32 s is).passes

  -- ---- neither its software reset nor its Status holds anything back

  together_unreset : IsTogether n h disk [] [] floors touches → (view_of n h.port).state.resetting ≡ true → ⊥
  together_unreset t resets = has_told n below plan sectors h disk floors touches running t owes (t.served.resets resets).1

  module _ (a : IsSetAside n h disk [] []) where
    unfaulted : is_faulty a.stage ≡ false
    unfaulted = sym a.at.fault ∙ ap is_some (port.faultless n)

    apart : IsApart30 n a.stage h
    apart = a.at.apart unfaulted

    -- what is issued while it is set aside and is no Control is READ LOG EXT, before a reset, and its port shows neither BSY nor DRQ
    record IsLogAsked : Type 0 where
      asks : a.stage ≡ Asks
      shows : IsIdle n h

    apart_asks : (i : Issue) (slot : ℕ) → own_issue (view_of n h.port).slots slot ≡ Some i → is_control i.work.kind ≡ false → IsLogAsked
    apart_asks i slot here plain =
        let at : slot ≡ 30 = (is_alone n).issues touches h a.stage below running.on.served a.at unfaulted slot i here in
        by_stage a.stage refl unfaulted apart.slot a.fits a.leans (subst (λ (s : ℕ). own_issue (view_of n h.port).slots s ≡ Some i) at here)
      where
        none_there : own_issue (view_of n h.port).slots 30 ≡ None → own_issue (view_of n h.port).slots 30 ≡ Some i → IsLogAsked
        none_there free own_it = let wrong : None ≡ Some i = sym free ∙ own_it in cc wrong

        controls : (value : ℕ) → own_issue (view_of n h.port).slots 30 ≡ Some (new_issue n (work_of (request_of (control n value)))) → own_issue (view_of n h.port).slots 30 ≡ Some i → IsLogAsked
        controls value issued own_it =
            let both : Some (new_issue n (work_of (request_of (control n value)))) ≡ Some i = sym issued ∙ own_it in
            let one : new_issue n (work_of (request_of (control n value))) ≡ i = cc both in
            absurd (true≢false (sym (ap is_control (control_kind n value)) ∙ ap (λ (x : Issue). is_control x.work.kind) one ∙ plain))

        shown : (line : Line) → Fits line Asks → Leans n line Asks h → IsIdle n h
        shown Failed fits leans = leans
        shown Asked fits leans = absurd fits
        shown Loose fits leans = absurd fits
        shown Held fits leans = absurd fits
        shown Both fits leans = absurd fits
        shown Resting fits leans = absurd fits
        shown Releasing fits leans = absurd fits

        by_stage : (stage : Stage30) → a.stage ≡ stage → is_faulty stage ≡ false → IsSlot30 n stage h.port → Fits a.line stage → Leans n a.line stage h
            → own_issue (view_of n h.port).slots 30 ≡ Some i → IsLogAsked
        by_stage Faulty is well slot fits leans own_it = absurd (true≢false well)
        by_stage Cleared is well slot fits leans own_it = none_there slot own_it
        by_stage Asks is well slot fits leans own_it = record { asks = is; shows = shown a.line fits leans }
        by_stage LogSent is well slot fits leans own_it = absurd (none_sent 30 slot.issue slot.issued slot.sent)
        by_stage Sets is well slot fits leans own_it = controls 4 slot.issued own_it
        by_stage On is well slot fits leans own_it = none_there slot own_it
        by_stage Clears is well slot fits leans own_it = controls 0 slot.issued own_it
        by_stage Off is well slot fits leans own_it = none_there slot own_it

    apart_unreset : IsLogAsked → (view_of n h.port).state.resetting ≡ true → ⊥
    apart_unreset log resets = false≢true (sym (ap is_resetting log.asks) ∙ sym apart.resetting ∙ resets)

    apart_idle : IsLogAsked → IsOccupied n h.port → ⊥
    apart_idle log (inl busy) = true≢false (sym busy ∙ log.shows.busy)
    apart_idle log (inr wants) = true≢false (sym wants ∙ log.shows.wants)

  -- ---- nothing is issued for it

  module _ (ends : AreEnds n h disk [] [] floors touches) where
    unreset : (i : Issue) (slot : ℕ) → own_issue (view_of n h.port).slots slot ≡ Some i → is_control i.work.kind ≡ false → (view_of n h.port).state.resetting ≡ true → ⊥
    unreset i slot here plain resets = by_ends ends
      where
        by_ends : AreEnds n h disk [] [] floors touches → ⊥
        by_ends (Together t) = together_unreset t resets
        by_ends (Apart a are) = apart_unreset a (apart_asks a i slot here plain) resets

    unoccupied : (i : Issue) (slot : ℕ) → own_issue (view_of n h.port).slots slot ≡ Some i → is_control i.work.kind ≡ false → IsOccupied n h.port → ⊥
    unoccupied i slot here plain occupied = by_ends ends
      where
        by_ends : AreEnds n h disk [] [] floors touches → ⊥
        by_ends (Together t) = idle t occupied
        by_ends (Apart a are) = apart_idle a (apart_asks a i slot here plain) occupied

    pub nothing_issued : NothingIsIssued n h.port
    nothing_issued slot i low there its = elim (port.sent slot i low there) [
      | inl sent ↦ true≢false (sym sent ∙ out slot i low there its)
      | inr back ↦ by_holds back.command back.holds
    ]
      where
        here : own_issue (view_of n h.port).slots slot ≡ Some i
        here = subst (λ (d : ℕ). own_issue (view_of d h.port).slots slot ≡ Some i) its (own_here slot h.port.slots i (omega (arith, long, low)) there)

        by_holds : is_control i.work.kind ≡ false → Holds h.port i → ⊥
        by_holds plain (InReset resets) = unreset i slot here plain (subst (λ (d : ℕ). (state_at h.port.states d).resetting ≡ true) its resets)
        by_holds plain (IsBusy busy) = unoccupied i slot here plain (inl (subst (λ (d : ℕ). is_busy (state_at h.port.states d).status ≡ true) its busy))
        by_holds plain (WantsData wants) = unoccupied i slot here plain (inr (subst (λ (d : ℕ). wants_data (state_at h.port.states d).status ≡ true) its wants))
        by_holds plain (HasOther s is) = none_waits s (subst (λ (d : ℕ). waiting (slots_of d h.port.slots) ≡ Some s) its is)
        by_holds plain (HasQueued dma some) = none_outstanding (subst (λ (d : ℕ). has_outstanding (slots_of d h.port.slots) ≡ true) its some)

    -- a request that is issued stands at the port
    none_issued : (slot : ℕ) (e : Entry) → slot < 30 → entry_at h.driver.entries slot ≡ Some e → e.head.dev ≡ n → is_issued e.head ≡ true → ⊥
    none_issued slot e low stands dev_is goes =
        let there = stands_at h slot running.on.sound (omega (arith, low)) running.on.unarmed (driver.requests.issued slot e low stands goes) in
        let told = told_of (shared_by h) touches running.on.sound.ruled.table running.on.served.told slot there.0 there.1 in
        let of : IsIssueOf h.driver there.0.dev slot told.0 = running.on.served.issues there.0.dev slot told.0 told.1 in
        elim of.from [
          | inl r ↦
              let both_stand : Some r.entry ≡ Some e = sym r.stands ∙ stands in
              let one : r.entry ≡ e = cc both_stand in
              nothing_issued slot there.0 (omega (arith, low)) there.1 (sym r.of_dev ∙ ap (λ (x : Entry). x.head.dev) one ∙ dev_is)
          | inr (inl step) ↦ let at : slot ≡ 30 = step.slot in absurd (omega (arith, low, at))
          | inr (inr ordered) ↦ let at : slot ≡ 31 = ordered.slot in absurd (omega (arith, low, at))
        ]

    none_waiting : (slot : ℕ) (e : Entry) → slot < 30 → entry_at h.driver.entries slot ≡ Some e → e.head.dev ≡ n → waits e.head ≡ true → ⊥
    none_waiting slot e low stands dev_is waiting_now = by_ends ends
      where
        by_ends : AreEnds n h disk [] [] floors touches → ⊥
        by_ends (Together t) =
            let live : IsLiveAt n slot h.driver.entries e = record { stands = stands; of_dev = dev_is; lives = ap (λ (b : Bool). b || is_issued e.head) waiting_now } in
            driver.requests.waiting slot e low stands waiting_now (ap (device_at h.driver.plan) dev_is ∙ t.served.tended.requests.ready slot e live)
        by_ends (Apart a are) =
            withdrawn_waits e.head.phase waiting_now ((apart a).withdrawn slot e stands dev_is)
          where
            withdrawn_waits : (p : Phase) → waits_in p ≡ true → (is_aside_in p || has_ended_in p) ≡ true → ⊥
            withdrawn_waits phase.Waits waits gone = false≢true gone
            withdrawn_waits other waits gone = false≢true waits

    pub none_left : NoRequestIsLeft n h
    none_left slot e low stands dev_is = by_phase (waits e.head) (is_issued e.head) refl refl
      where
        by_phase : (a b : Bool) → waits e.head ≡ a → is_issued e.head ≡ b → (waits e.head || is_issued e.head) ≡ false
        by_phase true b waiting_now issued_now = absurd (none_waiting slot e low stands dev_is waiting_now)
        by_phase false true waiting_now issued_now = absurd (none_issued slot e low stands dev_is issued_now)
        by_phase false false waiting_now issued_now = ap (λ (b : Bool). b || is_issued e.head) waiting_now ∙ issued_now

    -- slot 30 has no command for it
    none_asked : (slot : ℕ) → slot ≡ 30 → (p : Path) → h.driver.plan.path ≡ Some p → p.dev ≡ n → has_bit (sight_in h).issued slot ≡ true → ⊥
    none_asked slot at p goes dev shown =
        let low : slot < 32 = omega (arith, at) in
        let there = stands_at h slot running.on.sound low running.on.unarmed shown in
        let told = told_of (shared_by h) touches running.on.sound.ruled.table running.on.served.told slot there.0 there.1 in
        let of : IsIssueOf h.driver there.0.dev slot told.0 = running.on.served.issues there.0.dev slot told.0 told.1 in
        elim of.from [
          | inl r ↦ let below_30 : slot < 30 = r.slot in absurd (omega (arith, at, below_30))
          | inr (inl step) ↦
              let both : Some step.path ≡ Some p = sym step.goes ∙ goes in
              let one : step.path ≡ p = cc both in
              nothing_issued slot there.0 low there.1 (sym step.of_dev ∙ ap (λ (x : Path). x.dev) one ∙ dev)
          | inr (inr ordered) ↦ let last : slot ≡ 31 = ordered.slot in absurd (omega (arith, at, last))
        ]

    -- and awaits the end of its software reset at most
    awaits_at_most : (p : Path) → h.driver.plan.path ≡ Some p → p.dev ≡ n → (p.stage ≡ AwaitReset) × ((view_of n h.port).state.resetting ≡ true)
    awaits_at_most p goes dev = by_slot driver.slot30
      where
        same : (q : Path) → h.driver.plan.path ≡ Some q → q ≡ p
        same q is = let both : Some q ≡ Some p = sym is ∙ goes in cc both

        by_slot : Waits30 (sight_in h) h.driver.plan → (p.stage ≡ AwaitReset) × ((view_of n h.port).state.resetting ≡ true)
        by_slot (ForNobody free needs) = let wrong : None ≡ Some p = sym free ∙ goes in cc wrong
        by_slot (ForEnd q is unasked stage reset) = (
          subst (λ (x : Path). x.stage ≡ AwaitReset) (same q is) stage,
          sym (in_reset_is n h.driver.plan.mode h.port h.memory (omega (arith, below)))
              ∙ subst (λ (d : ℕ). is_in_reset (sight_in h) d ≡ true) (ap (λ (x : Path). x.dev) (same q is) ∙ dev) reset,
        )
        by_slot (ForCommand q is asked shown) = absurd (none_asked 30 refl p goes dev shown)

    -- the FISes of its reset came, so its signature did
    apart_unawaited : (a : IsSetAside n h disk [] []) → (p : Path) → h.driver.plan.path ≡ Some p → p.dev ≡ n → p.stage ≡ AwaitReset → ⊥
    apart_unawaited a p goes dev awaits = by_stage a.stage (unfaulted a) (apart a).plan a.fits
      where
        at_other : (stage : Stage) (asked : Bool) → h.driver.plan.path ≡ path_of n stage asked → (stage ≡ AwaitReset → ⊥) → ⊥
        at_other stage asked is other =
            let made : Path = record { dev = n; stage = stage; asked = asked } in
            let both : Some made ≡ Some p = sym is ∙ goes in
            let one : made ≡ p = cc both in
            other (ap (λ (x : Path). x.stage) one ∙ awaits)

        no_end : (xs ys : List (List ℕ)) (x : List ℕ) → [] ≡ xs ++ x ∷ ys → ⊥
        no_end [] ys x is = cc is
        no_end (y ∷ xs) ys x is = cc is

        off_line : (line : Line) → Fits line Off → OnLine line (ledger disk) [] [] → ⊥
        off_line Failed fits on = fits
        off_line Asked fits on = fits
        off_line Loose fits on = fits
        off_line Held fits on = fits
        off_line Both fits on = no_end on.ahead (on.off ∷ []) on.on on.is
        off_line Resting fits on = fits
        off_line Releasing fits on = no_end [] [] on.off on.is

        by_stage : (stage : Stage30) → is_faulty stage ≡ false → IsPlan30 n stage h.driver.plan → Fits a.line stage → ⊥
        by_stage Faulty well plan fits = true≢false well
        by_stage Cleared well plan fits = plan.away p goes dev
        by_stage Asks well plan fits = at_other (ReadLog plan.file) true plan.path (λ e. cc e)
        by_stage LogSent well plan fits = at_other (ReadLog plan.file) true plan.path (λ e. cc e)
        by_stage Sets well plan fits = at_other AssertReset true plan.path (λ e. cc e)
        by_stage On well (inl plan) fits = at_other AssertReset true plan.path (λ e. cc e)
        by_stage On well (inr plan) fits = at_other ReleaseReset false plan.path (λ e. cc e)
        by_stage Clears well plan fits = at_other ReleaseReset true plan.path (λ e. cc e)
        by_stage Off well (inl plan) fits = at_other ReleaseReset true plan.path (λ e. cc e)
        by_stage Off well (inr plan) fits = off_line a.line fits a.on

    is_unworked : IsUnworked n h.driver.plan
    is_unworked p goes dev = by_ends ends
      where
        its : (p.stage ≡ AwaitReset) × ((view_of n h.port).state.resetting ≡ true)
        its = awaits_at_most p goes dev

        by_ends : AreEnds n h disk [] [] floors touches → ⊥
        by_ends (Together t) = together_unreset t its.1
        by_ends (Apart a are) = apart_unawaited a p goes dev its.0

    pub is_free : DiskIsFree n h
    is_free = record { issued = nothing_issued; requests = none_left; path = is_unworked }

    -- a device that recovers is waited for by slot 30, which works on another
    pub recovers : (way : Recovery) → device_at h.driver.plan n ≡ Recovering way → WorksElsewhere n h.driver.plan
    recovers way is = by_slot driver.slot30
      where
        elsewhere : (p : Path) → h.driver.plan.path ≡ Some p → WorksElsewhere n h.driver.plan
        elsewhere p goes = (p, (goes, λ dev. is_unworked p goes dev))

        by_slot : Waits30 (sight_in h) h.driver.plan → WorksElsewhere n h.driver.plan
        by_slot (ForNobody free needs) = absurd (subst (λ (d : Device). NeedsNothing d (slice_index_or (sight_in h).signed n false)) is (needs n below))
        by_slot (ForEnd p goes unasked stage reset) = elsewhere p goes
        by_slot (ForCommand p goes asked shown) = elsewhere p goes

    -- the port shows BSY or DRQ of it only while it recovers
    pub shows : IsOccupied n h.port → WorksElsewhere n h.driver.plan
    shows occupied = by_ends ends
      where
        by_stage : (stage : Stage30) → is_faulty stage ≡ false → IsPlan30 n stage h.driver.plan → WorksElsewhere n h.driver.plan
        by_stage Faulty well plan = absurd (true≢false well)
        by_stage Cleared well plan = recovers _ plan.device
        by_stage Asks well plan = recovers _ plan.device
        by_stage LogSent well plan = recovers _ plan.device
        by_stage Sets well plan = recovers _ plan.device
        by_stage On well (inl plan) = recovers _ plan.device
        by_stage On well (inr plan) = recovers _ plan.device
        by_stage Clears well plan = recovers _ plan.device
        by_stage Off well (inl plan) = recovers _ plan.device
        by_stage Off well (inr plan) = recovers _ plan.device

        by_ends : AreEnds n h disk [] [] floors touches → WorksElsewhere n h.driver.plan
        by_ends (Together t) = absurd (idle t occupied)
        by_ends (Apart a are) = by_stage a.stage (unfaulted a) (apart a).plan
