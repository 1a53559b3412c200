-- Each clause of FLUSH CACHE is the law, of the run that led to the machine.
use Rattle.std.proofs.{Common.{◌≡◌, ℕ, Bool, true, false, List, [], ◌∷◌, ◌++◌, Some, refl, sym, ap, subst, ◌∙◌}, lemmas.{Bool.{false≢true}, List.{append-nil}}}
use Rattle.ahci_controller.specs.States.{ControllerState}
use Rattle.controller_laws.specs.Events.{Event, Runs}
use Rattle.sata_disk.specs.{Sending.{IsFis, IsOut}, State.DiskState}
use Rattle.sata_disk_laws.specs.{Calls.{Call, Hears}, Laws.reached}
use Rattle.ahci_machine.specs.{States.MachineState, declared.bay.Unit.TheVariants.Disk}
use Rattle.ahci_machine.specs.declared.act.Act.TheVariants as act
use Rattle.machine_laws.specs.{ControllerLaws.RunsRuled, Deeds.{Deed, Moved}, Heard.{life_in, no_life}}
use Rattle.machine_theorem.specs.{Completions.CompletionsAreOfSlots, Flushes.{IsFlushDone, OfSingles}, FlushesFollow.{AreLeft, DisksAreReachedStill}}
use Rattle.machine_theorem.specs.{FlushesFollow.{FlushesWrites, IsReachedStill, WasCompleted.{Queued, Single}}, Flushing.FlushesEndSo}
use Rattle.machine_theorem.specs.{Identity.{AllKeep, calls_of}, PioIn.UnqueuedAreOfSlotsIf}
use Rattle.uses_machine_theorem.specs.Flushes.{KnowsFlushAnswers, KnowsFlushedWrites, KnowsFlushes, KnowsWrittenSingles}
use Rattle.uses_machine_theorem.proofs.SlotLemmas.{new_one}

pub answered : FlushesEndSo → (now : MachineState) → KnowsFlushAnswers now
answered law now led n d there lived p limit new before bytes later is flushing idle on heard none o fis next is_fis answer =
    let it = new_one p limit (life_in n no_life led.first led.deeds now led.run) d lived (before ++ Hears bytes ∷ later) new is in
    law p limit before bytes later it.0 flushing idle on heard none o fis (subst (λ (x : DiskState). IsOut x (Some o)) it.1 next)
    (subst (λ (x : DiskState). IsFis x o fis) it.1 is_fis) answer

abbrev pub Keeping : Type 1
Keeping = (dev : ℕ) → (old : ControllerState) → (events : List Event) → (now : ControllerState) → Runs old events now → Type 0

-- what is no PIO data-in asks no more of the beginning
pub no_pio : {A : Type 0} {b : Bool} → b ≡ false → b ≡ true → A
no_pio other is = absurd (false≢true (sym other ∙ is))

pub flushes : (Waits : Keeping) → OfSingles Waits IsFlushDone → (now : MachineState) → KnowsFlushes Waits now
flushes Waits law now at led many n c dev slot below dev_low low begins p limit base are same idle deeds run linked lasts keeps on runs of waiting took new does rules own shows hides none issue is mine plain other =
    law led.ports led.legacy led.first led.opens led.deeds at led.run many n c dev slot below dev_low low begins p limit base are same idle deeds now run linked lasts keeps on runs of waiting took new does
    rules own shows hides none issue is mine plain other

-- ---- from the write to the flush

pub keeps_left : (many : Bool) (n tag : ℕ) (deeds : List Deed) (old now : MachineState) (run : RunsRuled old deeds now) → AllKeep many n tag old deeds now run → AreLeft n deeds
keeps_left many n tag [] old now run keeps = tt
keeps_left many n tag (deed ∷ later) old now run keeps = (keeps.0.left, keeps_left many n tag later run.1.0 now run.1.2 keeps.1)

last_ruled : (deeds : List Deed) (old now : MachineState) (run : RunsRuled old deeds now) → RunsRuled now [] now
last_ruled [] old now run = subst (λ (m : MachineState). RunsRuled m [] m) (sym run.1) (run.0, refl)
last_ruled (deed ∷ later) old now run = last_ruled later run.1.0 now run.1.2

pub disk_is : (a b : DiskState) → Disk a ≡ Disk b → a ≡ b
disk_is a b e = cc

pub flushed_writes : (Waits : Keeping) → CompletionsAreOfSlots → OfSingles Waits FlushesWrites → DisksAreReachedStill → (now : MachineState) → KnowsFlushedWrites Waits now
flushed_writes Waits completions law still now first old many n tag below low rest sooner seen run_first linked_first lasts_first keeps p limit base are same end fallen falls ruled shows_first hides_first
    queued is_first mine_first since at run_on left all c dev slot dev_low low_slot begins idle deeds run linked lasts line on runs of waiting took new does rules own shows hides none issue is mine plain other =
    let done = completions old.ports old.legacy old.first old.opens old.deeds first old.run many n tag below low rest sooner seen run_first linked_first lasts_first keeps p limit base are same
    end fallen falls ruled shows_first hides_first queued is_first mine_first in
    let more : RunsRuled seen (Moved (act.Takes end) ∷ since) at = ((last_ruled sooner first seen run_first).0, (fallen, falls, run_on)) in
    let calls : List Call = base ++ calls_of n first sooner seen run_first ++ calls_of n fallen since at run_on in
    let it : IsReachedStill n at p limit calls =
    still n first p limit base (record { are = are; there = rest.there ∙ ap Disk same }) sooner seen run_first (keeps_left many n tag sooner first seen run_first keeps)
    (Moved (act.Takes end) ∷ since) at more (refl, left) in (
      done,
      law old.ports old.legacy old.first old.opens ((old.deeds ++ sooner) ++ Moved (act.Takes end) ∷ since) at all many n c dev slot below dev_low low_slot begins p limit calls it.are
          (disk_is begins.disk (reached p limit calls) (sym begins.there ∙ it.there)) idle deeds now run linked lasts line on runs of waiting took new does rules own shows hides none issue is mine plain other,
      λ writes. record {
        before = old.deeds;
        at = first;
        first = old.run;
        deeds = sooner;
        seen = seen;
        run = run_first;
        base = base;
        completed = Queued many tag falls.does.frame low done refl;
        writes = writes;
        since = Moved (act.Takes end) ∷ since;
        rest = more;
        are = refl;
      },
    )

pub written_singles : (Waits : Keeping) → UnqueuedAreOfSlotsIf Waits → (now : MachineState) → KnowsWrittenSingles Waits now
written_singles Waits law now at led many n c dev slot below dev_low low begins p limit base are same idle deeds run linked lasts keeps on runs of waiting took new does rules own shows hides none issue is mine plain other =
    let done = law led.ports led.legacy led.first led.opens led.deeds at led.run many n c dev slot below dev_low low begins p limit base are same idle deeds now run linked lasts keeps on runs of waiting
    took new does rules own shows hides none issue is mine plain (no_pio other) in (
      done,
      done.register other,
      λ transfers. (
        (done.answers (done.register other)).ends transfers,
        λ writes. record {
          before = led.deeds;
          at = at;
          first = led.run;
          deeds = deeds;
          seen = now;
          run = run;
          base = base;
          completed = Single dev slot issue does.does.frame done ((done.answers (done.register other)).ends transfers) refl;
          writes = writes;
          since = [];
          rest = last_ruled deeds at now run;
          are = sym (append-nil (base ++ calls_of n at deeds now run));
        },
      ),
    )
