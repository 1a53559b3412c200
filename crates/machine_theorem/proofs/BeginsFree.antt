-- Where the bit of PxCI of a read that is not queued falls behind a stretch, no slot of the device waited as this began: the disk sends no Register FIS, and no
-- Data, before it heard a command.
use Rattle.std.proofs.Common.{◌≡◌, ℕ, zero, suc, ◌+◌, ◌<◌, ◌||◌, Bool, true, false, List, [], ◌∷◌, ◌++◌, refl, sym, ap, subst, ◌∙◌, arith}
use Rattle.fis_view.specs.{Frames.Stamped, Seen.seen}
use Rattle.multiplier.specs.Passing.{of_conn}
use Rattle.ahci_controller.specs.declared.taking.Took.{Took}
use Rattle.block_queue.specs.Line.{command_at}
use Rattle.sata_disk.specs.{Sending.part_at, State.{commands, new_disk}, declared.out.Out.Out}
use Rattle.sata_disk.specs.declared.out.Out.TheVariants as out
use Rattle.sata_disk_books.specs.{Books.page_in, LastData.sets_up_last}
use Rattle.sata_disk_laws.specs.{Calls.{AreCalls, Call, Hears, Sends}, Laws.reached, Once.{IsOutDue, host_of, new_host}}
use Rattle.sata_disk_laws.proofs.Door.{calls_both}
use Rattle.ahci_machine.specs.States.{MachineState}
use Rattle.ahci_machine.specs.declared.act.Act.TheVariants as act
use Rattle.machine_laws.specs.{ControllerLaws.RunsRuled, Deeds.{Deed, Does, Moved}, Rising.{risen}}
use Rattle.machine_theorem.specs.{Ending.carries, Identity.calls_of, InTurn.{heard_in, is_answer, is_answering, is_asking}, OwnPages.PagesGoInTurn}
use Rattle.machine_theorem.specs.{OwnSlots.is_of, Settled.is_data, SingleNumbers.AllHearSingle, Tags.once_if, Waits.waits_in}
use Rattle.machine_theorem.proofs.{Anew.{EndsBy, Kept, Start, ends_at, first_keeps, stretch, waits_to}, Answered.heard_both, Cut.{first_of, total}}
use Rattle.machine_theorem.proofs.{EndedByData.says_data, Given.{HasNext, has_next}, HostShut.host_both, OwnPlace.{Found, head_or}}
use Rattle.machine_theorem.proofs.PioOwn.{IsSpoken, IsThen, Stretch, all_calls, behind, came, commanded, counts, found_of, is_then, on_then, settled, spoken}
use Rattle.machine_theorem.proofs.{RegistersSent.says, SingleNumbers.{IsShut, calls_shut, data_place}, TagCounts.due_at}
use Rattle.machine_theorem.proofs.{TakenRead.hear_first, WaitingRun.{leaves, sends_to}}
use Rattle.machine_theorem.proofs.PioOwn as own
use Rattle.machine_theorem.proofs.TakenRead as taken

none_heard : {C : Type 0} (calls front later : List Call) (bytes : List ℕ) → calls ≡ front ++ Hears bytes ∷ later → is_asking bytes ≡ true
    → heard_in calls ≡ 0 → C
none_heard calls front later bytes split asks none =
    let sum : heard_in calls ≡ heard_in front + (once_if (is_asking bytes) + heard_in later) = ap heard_in split ∙ heard_both front (Hears bytes ∷ later) in
    let one : once_if (is_asking bytes) ≡ 1 = ap once_if asks in
    absurd (omega (arith, none, sum, one))

module _ (laws : taken.Laws) (pages : PagesGoInTurn) (b : Start) (shut : (tag : ℕ) → tag < 32 → (host_of new_host b.d.base).open_at tag ≡ false) where
  abbrev pio : own.Laws
  pio = laws.anew.own

  -- ---- no command went

  module _ (deeds : List Deed) (now : MachineState) (run : RunsRuled b.d.at deeds now) (k : Kept laws.anew b deeds now run)
      (hear_all : AllHearSingle (calls_of b.d.n b.d.at deeds now run)) (took : Took) (new : MachineState) (does : Does now (Moved (act.Takes took)) new)
      (on : is_of b.d.n b.c does.does.frame ≡ true) (data' : is_answering does.does.frame.bytes ≡ false → carries (seen does.does.frame.bytes) ≡ true)
      (none : commanded (stretch laws.anew b deeds now run k) ≡ 0) where
    abbrev s : Stretch
    s = stretch laws.anew b deeds now run k

    abbrev f : Stamped
    f = does.does.frame

    abbrev pre : List Stamped
    pre = of_conn b.d.n b.c (came s)

    found : Found b.d.many b.d.n b.c b.dev b.d.at deeds now run pre f
    found = found_of pio s took new does on

    abbrev then' : List Call
    then' = calls_of b.d.n b.d.at found.cut.sooner found.cut.mid found.cut.led

    abbrev At : Out → Type 0
    At o = IsThen pio s f on pre found o

    -- the disk heard none
    heard_none : heard_in then' ≡ 0
    heard_none =
        let q = counts pio s in
        let heard = q.heard in
        let asked = q.asked in
        let sum = ap heard_in (all_calls pio s f on pre found) ∙ heard_both then' (behind pio s f on pre found) in
        omega (arith, heard, asked, sum, none)

    shut_then : IsShut (host_of new_host (b.d.base ++ then'))
    shut_then =
        subst IsShut (sym (host_both b.d.base then' new_host))
        (calls_shut then' (host_of new_host b.d.base) (hear_first then' _ (subst AllHearSingle (found.cut.own b.d.n) hear_all)) shut)

    due_there : (o : Out) → At o → IsOutDue (host_of new_host (b.d.base ++ then')) o
    due_there o it =
        let x : Call = Sends o in
        let more : AreCalls (new_disk b.d.p b.d.limit) ((b.d.base ++ then') ++ x ∷ []) =
        calls_both (b.d.base ++ then') (x ∷ []) (new_disk b.d.p b.d.limit) it.whole (it.says, tt) in
        due_at (b.d.base ++ then') x new_host (pio.single b.d.p b.d.limit ((b.d.base ++ then') ++ x ∷ []) more)

    no_sectors : (len : ℕ) → At (out.Data 32 len) → ⊥
    no_sectors len it =
        let page : HasNext (page_in b.d.p b.d.limit (b.d.base ++ then') 32) (part_at (command_at (commands (reached b.d.p b.d.limit (b.d.base ++ then'))) 32)) =
        has_next (page_in b.d.p b.d.limit (b.d.base ++ then') 32) (part_at (command_at (commands (reached b.d.p b.d.limit (b.d.base ++ then'))) 32))
        (laws.given b.d.p b.d.limit (b.d.base ++ then') 32 len it.whole it.says) in
        let turn = laws.turn b.d.p b.d.limit b.d.base then' it.whole b.idle (on_then pio s f on pre found) len it.says page.page page.is in
        none_heard then' turn.front turn.asked.later turn.asked.bytes turn.split turn.asks heard_none

    no_data : (o : Out) → At o → is_data o ≡ true → ⊥
    no_data (out.Data place len) it is =
        let at : place ≡ 32 = data_place (host_of new_host (b.d.base ++ then')) place len shut_then (due_there (out.Data place len) it) in
        no_sectors len (subst (λ (q : ℕ). At (out.Data q len)) at it)
    no_data (out.Page page) it is =
        let u = pages b.d.p b.d.limit b.d.base then' it.whole b.idle (on_then pio s f on pre found) page it.says in
        none_heard then' u.front u.later u.bytes u.split u.asks heard_none
    no_data other it is = absurd (cc)

    no_answer : (o : Out) → At o → is_answer o ≡ true → ⊥
    no_answer o it is =
        let u = (settled pio s f on pre found it.whole).answers o it.says (ap (λ (q : Bool). q || sets_up_last o) is) in
        none_heard then' u.front u.later u.bytes u.split u.asks heard_none

    pub no_fis : ⊥
    no_fis =
        let spoke : IsSpoken pio s f on pre found found.deed = spoken pio s f on pre found found.deed found.cut.does found.line found.sent in
        let risen_is : risen found.cut.mid.fan b.d.n spoke.does.does.does.1.frame ≡ f = ap (λ (l : List Stamped). head_or f l) spoke.sent in
        by spoke risen_is (is_then pio s f on pre found b.d.n spoke.o spoke.does spoke.sent) (is_answering f.bytes) refl
      where
        by : (spoke : IsSpoken pio s f on pre found found.deed) → risen found.cut.mid.fan b.d.n spoke.does.does.does.1.frame ≡ f → At spoke.o → (q : Bool)
            → is_answering f.bytes ≡ q → ⊥
        by spoke risen_is it true is =
            no_answer spoke.o it (says found.cut.mid b.d.n spoke.o found.cut.next spoke.does
            (subst (λ (y : Stamped). is_answering y.bytes ≡ true) (sym risen_is) is))
        by spoke risen_is it false is =
            no_data spoke.o it (says_data found.cut.mid b.d.n spoke.o found.cut.next spoke.does
            (subst (λ (y : Stamped). carries (seen y.bytes) ≡ true) (sym risen_is) (data' is)))

  -- ---- so no slot waits as it begins

  pub was_free : (deeds : List Deed) (now : MachineState) (run : RunsRuled b.d.at deeds now) (k : Kept laws.anew b deeds now run)
      → AllHearSingle (calls_of b.d.n b.d.at deeds now run) → (took : Took) (new : MachineState) (does : Does now (Moved (act.Takes took)) new)
      → is_of b.d.n b.c does.does.frame ≡ true → (is_answering does.does.frame.bytes ≡ false → carries (seen does.does.frame.bytes) ≡ true)
      → waits_in b.dev b.d.at.controller ≡ true → ⊥
  was_free deeds now run k hear took new does on data' waits = by (total (leaves b.dev) b.d.at deeds now run) refl
    where
      one : once_if (waits_in b.dev b.d.at.controller) ≡ 1
      one = ap once_if waits

      by : (t : ℕ) → total (leaves b.dev) b.d.at deeds now run ≡ t → ⊥
      by zero none =
          let w = waits_to laws.anew b deeds now run k in
          let few = w.few in
          let all : commanded (stretch laws.anew b deeds now run k) ≡ total (sends_to b.dev) b.d.at deeds now run = w.commanded in
          let first = one in
          let most = own.once_most (waits_in b.dev now.controller) in
          no_fis deeds now run k hear took new does on data' (omega (arith, few, all, first, most, none))
      by (suc t) some =
          let h = first_of (leaves b.dev) deeds b.d.at now run (omega (arith, some)) in
          let cut = h.first.cut in
          let k0 : Kept laws.anew b cut.sooner cut.mid cut.led = first_keeps b.d.many b.d.n b.c b.dev b.d.at deeds now run h.deed cut k in
          let e : EndsBy b.d.n b.c b.dev h.deed cut.mid cut.next cut.does = ends_at laws.anew b deeds now run k h.deed cut h.first.here in
          let w = waits_to laws.anew b cut.sooner cut.mid cut.led k0 in
          let few = w.few in
          let all : commanded (stretch laws.anew b cut.sooner cut.mid cut.led k0) ≡ total (sends_to b.dev) b.d.at cut.sooner cut.mid cut.led = w.commanded in
          let first = one in
          let none = h.first.none in
          let most = own.once_most (waits_in b.dev cut.mid.controller) in
          no_fis cut.sooner cut.mid cut.led k0 (hear_first (calls_of b.d.n b.d.at cut.sooner cut.mid cut.led) _ (subst AllHearSingle (cut.own b.d.n) hear))
          e.took cut.next e.takes e.own (λ other. (e.data' other).0) (omega (arith, few, all, first, most, none))
