-- Each byte of a read that was brought was written before the next FIS was taken.
use Rattle.std.proofs.Common.{◌≡◌, ℕ, zero, suc, ◌+◌, ◌-◌, ◌<◌, ◌≤◌, Bool, true, false, List, [], ◌∷◌, ◌++◌, append_assoc, drop, get_or, length, refl}
use Rattle.std.proofs.{Common.{sym, ap, subst, ◌∙◌, arith, Option, Some, None}, lemmas.Option.{slice_get-get_or}, Math.Seq.{take-length}}
use Rattle.std.specs.Prelude.{IfSome, is_some, slice_get, take}
use Rattle.guest_fetch.specs.{Commands.Fetched, Places.{Places, Single, named, place, reach_of, room_at, single, singles}, declared.entry.Entry.Entry}
use Rattle.guest_fetch.specs.declared.moves.Move.{Move}
use Rattle.slots.specs.{Slots.{Issue, issue_at, match_some}, declared.work.Kind.{Kind, TheVariants.QueuedRead}}
use Rattle.hba_fbs.specs.declared.report.Wrote.{Wrote}
use Rattle.ahci_controller.specs.{States.{ControllerState, kept}, Taking.hindrance}
use Rattle.controller_laws.specs.Carrying.{AllAreSaid, AreNumbered, AreSaid, Carrying, DataIsOwn, DataIsWhole, IsOwnData, IsWholeData, carrying_after}
use Rattle.controller_laws.specs.{Carrying.{carrying_after_call, carrying_by, carrying_of, first_of, placed_of, said_of}, Sources.AreSources}
use Rattle.controller_laws.specs.{Sources.{IsReadFrom, Source, Sources, command_of, no_sources, sources_after, unmoved}, CoreEvents.AreCoreEvents}
use Rattle.controller_laws.specs.{CoreEvents.of_event, Events.{Does as Calls, Event, IsController, Runs}}
use Rattle.controller_laws.specs.Events as call
use Rattle.ahci_machine.specs.States.{HasRules, IsOpeningMachine, MachineState}
use Rattle.ahci_machine.specs.declared.act.Act.TheVariants as act
use Rattle.machine_laws.specs.{ControllerLaws.{ControllerRuns, OpensSo, RunsRuled, TurnsWriteNothing, calls_in}, Controllers.deed_calls, Deeds.{Deed, Moved}}
use Rattle.machine_theorem.specs.{Commands.AreNotIssued, ReadsWritten.{IsWritten, NoneTaken, ReadsAreWritten, told_moves}}
use Rattle.machine_theorem.specs.SingleReads.{IsWrittenThen}
use Rattle.machine_theorem.proofs.{Brought.read_from, BroughtAt.{Brought, brought_ever, byte_is}, BroughtRead.none_later, CoreStems.call_stems}
use Rattle.machine_theorem.proofs.{Falls.{core_events, kept_of}, FilledFrames.{brought_is, wrote_reaches}, HasSource.{HasSource, all_have}}
use Rattle.machine_theorem.proofs.{Idle.{IsIdle, call_idle}, Ordered.first_ruled, Own.last_ruled, SentOnce.none_told, SetupCalls.first_kept}
use Rattle.machine_theorem.proofs.{Still.all_kept, Stood.HasIssued, Uncut.{Carries, call_carried, same_carried}, WasTaken.deed_none}
use Rattle.machine_theorem.proofs.ToldMoves.{all_said, all_told as machine_told, said_by}
use Rattle.machine_theorem.proofs.BroughtAt as moments
use Rattle.machine_theorem.proofs.Falls as falls

-- ---- calls

none_head : (e : Event) (later : List Event) → NoneTaken (e ∷ later) → NoneTaken (e ∷ [])
none_head (call.Took frame took) later none = none
none_head e later none = tt

none_tail : (e : Event) (later : List Event) → NoneTaken (e ∷ later) → NoneTaken later
none_tail (call.Took frame took) later none = absurd none
none_tail (call.Wrote offset value written) later none = none
none_tail (call.WroteWide offset width value written) later none = none
none_tail (call.Supplied slot number bytes supply) later none = none
none_tail (call.Missed slot number supply) later none = none
none_tail (call.Left frame why) later none = none
none_tail (call.Turned next) later none = none
none_tail (call.Said write) later none = none
none_tail (call.Gathered dev number frame fed) later none = none
none_tail (call.NotThere dev number fed) later none = none

none_cons : (e : Event) (later : List Event) → NoneTaken (e ∷ []) → NoneTaken later → NoneTaken (e ∷ later)
none_cons (call.Took frame took) later one more = absurd one
none_cons (call.Wrote offset value written) later one more = more
none_cons (call.WroteWide offset width value written) later one more = more
none_cons (call.Supplied slot number bytes supply) later one more = more
none_cons (call.Missed slot number supply) later one more = more
none_cons (call.Left frame why) later one more = more
none_cons (call.Turned next) later one more = more
none_cons (call.Said write) later one more = more
none_cons (call.Gathered dev number frame fed) later one more = more
none_cons (call.NotThere dev number fed) later one more = more

none_taken : (xs ys : List Event) → NoneTaken xs → NoneTaken ys → NoneTaken (xs ++ ys)
none_taken [] ys a b = b
none_taken (x ∷ xs) ys a b = none_cons x (xs ++ ys) (none_head x xs a) (none_taken xs ys (none_tail x xs a) b)

alone_first : (s : ℕ) (xs ys : List Event) → AreNotIssued s (xs ++ ys) → AreNotIssued s xs
alone_first s [] ys none = tt
alone_first s (x ∷ xs) ys none = (none.0, alone_first s xs ys none.1)

pub started_of : (s : ℕ) (c : ControllerState) → IsIdle s c.core → (i : Issue) → issue_at c.core.slots s ≡ Some i → c.core.registers.started ≡ true
started_of s c idle i is = by c.core.registers.started refl
  where
    by : (b : Bool) → c.core.registers.started ≡ b → b ≡ true
    by true e = refl
    by false e = absurd (let both = sym is ∙ idle e in cc)

module _ (laws : falls.Laws) (s : ℕ) (low : s < 32) where
  are_core : (old new : ControllerState) (e : Event) (later : List Event) (last : ControllerState) → IsController old → (does : Calls old e new)
      → Runs new later last
      → AreCoreEvents old.core (of_event old e new does) new.core
  are_core old new e later last kept does run = core_events laws old new e kept (first_kept later new last run) does

  -- what stands there behind calls that issue nothing stood there before
  stood_back : (events : List Event) (old new : ControllerState) → Runs old events new → AreNotIssued s events → (i : Issue)
      → issue_at new.core.slots s ≡ Some i
      → (j : Issue) × (issue_at old.core.slots s ≡ Some j)
  stood_back [] old new run none i is = (i, ap (λ (c : ControllerState). issue_at c.core.slots s) (sym run.1) ∙ is)
  stood_back (e ∷ later) old new run none i is =
      let mid : ControllerState = run.1.0 in
      let there = stood_back later mid new run.1.2 none.1 i is in
      let stem = call_stems e s old mid run.1.1 low (are_core old mid e later new run.0 run.1.1 run.1.2) none.0 there.0 there.1 in
      (stem.issue, stem.was)

  pub idle_run : (events : List Event) (old new : ControllerState) → Runs old events new → IsIdle s old.core → IsIdle s new.core
  idle_run [] old new run idle = subst (λ (c : ControllerState). IsIdle s c.core) (sym run.1) idle
  idle_run (e ∷ later) old new run idle =
      idle_run later run.1.0 new run.1.2 (call_idle e s old run.1.0 run.1.1 low (are_core old run.1.0 e later new run.0 run.1.1 run.1.2) idle)

  carried_over : (events : List Event) (old new : ControllerState) (run : Runs old events new) → NoneTaken events → AreNotIssued s events → IsIdle s old.core
      → (i : Issue) → issue_at new.core.slots s ≡ Some i → (d : Carrying) → d.cut ≡ false
      → Carries d (all_said events) (carrying_after (Some d) old events new run)
  carried_over [] old new run none alone idle i is d cut = same_carried d cut
  carried_over (e ∷ later) old new run none alone idle i is d cut =
      let mid : ControllerState = run.1.0 in
      let idle_mid : IsIdle s mid.core = call_idle e s old mid run.1.1 low (are_core old mid e later new run.0 run.1.1 run.1.2) idle in
      let there = stood_back later mid new run.1.2 alone.1 i is in
      let one : Carries d (said_by e) (carrying_after_call old e mid run.1.1 (Some d)) =
      call_carried e old mid run.1.1 d (none_head e later none) (started_of s mid idle_mid there.0 there.1) cut in
      let rest : Carries one.then' (all_said later) (carrying_after (Some one.then') mid later new run.1.2) =
      carried_over later mid new run.1.2 (none_tail e later none) alone.1 idle_mid i is one.then' one.cut in
      record {
        then' = rest.then';
        is = ap (λ (o : Option Carrying). carrying_after o mid later new run.1.2) one.is ∙ rest.is;
        frame = rest.frame ∙ one.frame;
        wrote = rest.wrote ∙ one.wrote;
        table = rest.table ∙ one.table;
        said = rest.said ∙ ap (λ l. l ++ all_said later) one.said ∙ append_assoc d.said (said_by e) (all_said later);
        cut = rest.cut;
      }

-- as a machine opens nothing is issued
pub idle_opens : (laws : falls.Laws) (ports : ℕ) (legacy : Bool) (old : MachineState) → IsOpeningMachine ports legacy old → HasRules old → (s : ℕ) → s < 32
    → IsIdle s old.controller.core
idle_opens laws ports legacy old opening rules s low stopped = by (issue_at old.controller.core.slots s) refl
  where
    by : (o : Option Issue) → issue_at old.controller.core.slots s ≡ o → o ≡ None
    by None e = refl
    by (Some j) e = absurd (none_told old.controller s (kept_of laws old rules) low (laws.opens ports legacy old opening rules).told j e)

-- ---- until the next FIS is taken

pub record Until (at : MachineState) (deeds : List Deed) (now : MachineState) (run : RunsRuled at deeds now) : Type 0 where
  until : List Deed
  next : MachineState
  way : RunsRuled at until next
  more : List Deed
  rest : RunsRuled next more now
  is : deeds ≡ until ++ more
  calls : calls_in at deeds now run ≡ calls_in at until next way ++ calls_in next more now rest
  none : NoneTaken (calls_in at until next way)
  free : hindrance next.controller ≡ None

pub until_of : (deeds : List Deed) (at now : MachineState) (run : RunsRuled at deeds now) → hindrance now.controller ≡ None → Until at deeds now run
until_of [] at now run free = record {
  until = [];
  next = at;
  way = (run.0, refl);
  more = [];
  rest = run;
  is = refl;
  calls = refl;
  none = tt;
  free = ap (λ (m : MachineState). hindrance m.controller) (sym run.1) ∙ free;
}
until_of (Moved (act.Takes took) ∷ later) at now run free = record {
  until = [];
  next = at;
  way = (run.0, refl);
  more = Moved (act.Takes took) ∷ later;
  rest = run;
  is = refl;
  calls = refl;
  none = tt;
  free = run.1.1.does.free;
}
until_of (deed ∷ later) at now run free =
    let u = until_of later run.1.0 now run.1.2 free in
    let events : List Event = deed_calls at deed run.1.0 run.1.1 in
    record {
      until = deed ∷ u.until;
      next = u.next;
      way = (run.0, (run.1.0, run.1.1, u.way));
      more = u.more;
      rest = u.rest;
      is = ap (λ (l : List Deed). deed ∷ l) u.is;
      calls =
          ap (λ (l : List Event). events ++ l) u.calls ∙ sym (append_assoc events (calls_in run.1.0 u.until u.next u.way) (calls_in u.next u.more now u.rest));
      none = none_taken events (calls_in run.1.0 u.until u.next u.way) (deed_none at deed run.1.0 run.1.1 tt) u.none;
      free = u.free;
    }

-- ---- the FIS that brought it

pub record Laws : Type 0 where
  pub moments : moments.Laws
  pub own : DataIsOwn
  pub whole : DataIsWhole
  pub all : AllAreSaid
  pub told : TurnsWriteNothing

some_is : (o : Option Fetched) → is_some o ≡ true → (f : Fetched) × (o ≡ Some f)
some_is None e = absurd (cc)
some_is (Some f) e = (f, refl)

-- of what is carried at last
abbrev Written : (frame : List ℕ) → Wrote → Places → (said : List Move) → Type 0
Written frame w table said = singles frame said ≡ named table.entries w.offset (take (room_at table w.offset w.len) (drop 4 frame))

all_written : (d : Carrying) (moves : List Move) (o : Option Carrying) (c : Carries d moves o) → d.said ≡ []
    → said_of c.then' ≡ first_of c.then' (placed_of c.then')
    → Written d.frame d.wrote d.table moves
all_written d moves o c none e =
    subst (λ (l : List Move). Written d.frame d.wrote d.table l) (c.said ∙ ap (λ (l : List Move). l ++ moves) none)
    (subst (λ (t : Places). Written d.frame d.wrote t c.then'.said) c.table
    (subst (λ (w : Wrote). Written d.frame w c.then'.table c.then'.said) c.wrote
    (subst (λ (f : List ℕ). Written f c.then'.wrote c.then'.table c.then'.said) c.frame e)))

-- where all have a place
whole_written : (frame : List ℕ) (w : Wrote) (table : Places) (moves : List Move) → w.len ≡ length (drop 4 frame) → w.offset + w.len ≤ reach_of table
    → Written frame w table moves → singles frame moves ≡ named table.entries w.offset (drop 4 frame)
whole_written frame w table moves long room e =
    let all : room_at table w.offset w.len ≡ length (drop 4 frame) = omega (arith, long, room) in
    e ∙ ap (λ (n : ℕ). named table.entries w.offset (take n (drop 4 frame))) all
    ∙ ap (λ (l : List ℕ). named table.entries w.offset l) (take-length (drop 4 frame))

-- each byte of a list has the place of its number
named_at : (entries : List Entry) (o : ℕ) (bytes : List ℕ) (i b : ℕ) → slice_get bytes i ≡ Some b
    → slice_get (named entries o bytes) i ≡ Some (single (place entries (o + i)) b)
named_at entries o [] i b e = absurd (cc)
named_at entries o (x ∷ bytes) zero b e =
    let here : o ≡ o + 0 = omega arith in
    ap (λ (y : Option ℕ). match_some y None (λ z. Some (single (place entries o) z))) e ∙ ap (λ (n : ℕ). Some (single (place entries n) b)) here
named_at entries o (x ∷ bytes) (suc i) b e =
    let next : o + 1 + i ≡ o + suc i = omega arith in
    named_at entries (o + 1) bytes i b e ∙ ap (λ (n : ℕ). Some (single (place entries n) b)) next

has_command : (o : Option Source) (f : Option Fetched) (x : Source) → IsReadFrom o f → o ≡ Some x → (g : Fetched) × (f ≡ Some g)
has_command None f x read is = absurd (cc)
has_command (Some y) None x read is = absurd read
has_command (Some y) (Some g) x read is = (g, refl)

module _ (laws : Laws) (ports : ℕ) (legacy : Bool) (old : MachineState) (opening : IsOpeningMachine ports legacy old) (before : List Deed) (at : MachineState)
    (begun : RunsRuled old before at) (deeds : List Deed) (now : MachineState) (run : RunsRuled at deeds now) (r : Kind) (n s k : ℕ) (low : s < 32) (i : Issue)
    (there : issue_at now.controller.core.slots s ≡ Some i)
    (free : hindrance now.controller ≡ None) (b : Brought r n s k at deeds now run) where
  abbrev facts : falls.Laws
  facts = laws.moments.falls

  abbrev mid : MachineState
  mid = b.cut.mid

  abbrev f : List ℕ
  f = b.cut.does.does.frame.bytes

  abbrev wrote : Wrote
  wrote = b.brings.wrote

  opens : OpensSo old
  opens = facts.opens ports legacy old opening (first_ruled before old at begun)

  runs_at : ControllerRuns old before at begun
  runs_at = facts.runs old before at begun opens.due

  runs_mid : ControllerRuns at b.cut.sooner mid b.cut.led
  runs_mid = facts.runs at b.cut.sooner mid b.cut.led runs_at.due

  u : Until b.cut.next b.cut.later now b.cut.rest
  u = until_of b.cut.later b.cut.next now b.cut.rest free

  abbrev deed : Deed
  deed = Moved (act.Takes b.took)

  abbrev over : RunsRuled mid (deed ∷ u.until) u.next
  over = (last_ruled b.cut.sooner at mid b.cut.led, (b.cut.next, b.cut.does, u.way))

  runs_over : ControllerRuns mid (deed ∷ u.until) u.next over
  runs_over = facts.runs mid (deed ∷ u.until) u.next over runs_mid.due

  abbrev after : ControllerState
  after = runs_over.calls.1.0

  abbrev calls : List Event
  calls = calls_in b.cut.next u.until u.next u.way

  abbrev more : List Event
  more = calls_in u.next u.more now u.rest

  alone : AreNotIssued s (calls ++ more)
  alone = subst (λ (l : List Event). AreNotIssued s l) u.calls b.alone

  -- the command stands there
  stands : (j : Issue) × (issue_at u.next.controller.core.slots s ≡ Some j)
  stands =
      let rest : ControllerRuns u.next u.more now u.rest = facts.runs u.next u.more now u.rest runs_over.due in
      stood_back facts s low more u.next.controller now.controller rest.calls (none_later s calls more alone) i there

  -- and so the port runs
  idle_after : IsIdle s after.core
  idle_after =
      let idle_at : IsIdle s at.controller.core = idle_run facts s low (calls_in old before at begun) old.controller at.controller runs_at.calls
      (idle_opens facts ports legacy old opening (first_ruled before old at begun) s low) in
      let idle_mid : IsIdle s mid.controller.core =
      idle_run facts s low (calls_in at b.cut.sooner mid b.cut.led) at.controller mid.controller runs_mid.calls idle_at in
      call_idle (call.Took f b.took) s mid.controller after runs_over.calls.1.1 low
      (are_core facts s low mid.controller after (call.Took f b.took) calls u.next.controller
      runs_over.calls.0 runs_over.calls.1.1 runs_over.calls.1.2) idle_mid

  -- what it brought
  takes : call.Takes mid.controller f b.took after
  takes = runs_over.calls.1.1

  wrote_is : b.took.report.wrote ≡ Some wrote
  wrote_is = sym (brought_is mid.controller after f b.took takes b.brings.calm) ∙ b.brings.brought

  is_own : IsOwnData mid.controller f wrote
  is_own = subst (λ (o : Option Wrote). IfSome o (IsOwnData mid.controller f)) b.brings.brought (laws.own mid.controller after f b.took runs_over.calls.0 takes)

  is_whole : IsWholeData mid.controller f wrote
  is_whole =
      subst (λ (o : Option Wrote). IfSome o (IsWholeData mid.controller f)) b.brings.brought
      (laws.whole mid.controller after f b.took runs_over.calls.0 takes b.brings.calm)

  command : (g : Fetched) × (kept mid.controller wrote.slot ≡ Some g)
  command = some_is (kept mid.controller wrote.slot) is_own.command

  abbrev first : Carrying
  first = carrying_of f wrote command.0

  first_is : carrying_by mid.controller f b.took.brought ≡ Some first
  first_is =
      ap (carrying_by mid.controller f) b.brings.brought
      ∙ ap (λ (o : Option Fetched). match_some o None (λ g. Some (carrying_of f wrote g))) command.1

  carried : Carries first (all_said calls) (carrying_after (Some first) after calls u.next.controller runs_over.calls.1.2)
  carried =
      carried_over facts s low calls after u.next.controller runs_over.calls.1.2 u.none (alone_first s calls more alone) idle_after stands.0 stands.1 first refl

  said : AreSaid u.next.controller (Some carried.then')
  said =
      let first_was : Option Carrying = carrying_after None old.controller (calls_in old before at begun) at.controller runs_at.calls in
      let said_at : AreSaid at.controller first_was = (facts.have old before at begun runs_at).said None opens.said in
      let was : Option Carrying = carrying_after first_was at.controller (calls_in at b.cut.sooner mid b.cut.led) mid.controller runs_mid.calls in
      let said_mid : AreSaid mid.controller was = (facts.have at b.cut.sooner mid b.cut.led runs_mid).said first_was said_at in
      let said_then = (facts.have mid (deed ∷ u.until) u.next over runs_over).said was said_mid in
      subst (λ (o : Option Carrying). AreSaid u.next.controller o)
      (ap (λ (o : Option Carrying). carrying_after o after calls u.next.controller runs_over.calls.1.2) first_is ∙ carried.is) said_then

  numbered : AreNumbered carried.then'
  numbered =
      let inside = is_whole.inside in
      let most = is_whole.most in
      subst (λ (w : Wrote). w.offset + w.len ≤ 4294967295) (sym carried.wrote) (omega (arith, inside, most))

  all_told : singles f (told_moves calls) ≡ named command.0.table.entries wrote.offset (drop 4 f)
  all_told =
      ap (singles f) (sym (machine_told laws.told b.cut.next u.until u.next u.way))
      ∙ whole_written f wrote command.0.table (all_said calls) b.brings.whole
      (wrote_reaches mid.controller after f b.took takes wrote wrote_is command.0 command.1)
      (all_written first (all_said calls) _ carried refl (laws.all u.next.controller carried.then' said numbered u.free carried.cut))

  abbrev number : ℕ
  number = k - wrote.offset

  the_byte : slice_get (drop 4 f) number ≡ Some (get_or (drop 4 f) number 0)
  the_byte =
      let from = b.brings.from in
      let to = b.brings.to in
      let whole = b.brings.whole in
      slice_get-get_or (drop 4 f) number 0 (omega (arith, from, to, whole))

  pub written_then : IsWrittenThen s k mid f wrote b.cut.next b.cut.later
  written_then = record {
    until = u.until;
    next = u.next;
    way = u.way;
    more = u.more;
    is = u.is;
    none = u.none;
    command = command.0;
    has = ap (kept mid.controller) (sym b.brings.slot_is) ∙ command.1;
    written = all_told;
    byte = get_or (drop 4 f) number 0;
    byte_is = the_byte;
    placed =
        let from = b.brings.from in
        let same : wrote.offset + number ≡ k = omega (arith, from) in
        ap (λ (l : List Single). slice_get l number) all_told
        ∙ named_at command.0.table.entries wrote.offset (drop 4 f) number (get_or (drop 4 f) number 0) the_byte
        ∙ ap (λ (n : ℕ). Some (single (place command.0.table.entries n) (get_or (drop 4 f) number 0))) same;
  }

  -- ---- the table

  abbrev was : Sources
  was = sources_after s no_sources old.controller (calls_in old before at begun) at.controller runs_at.calls

  abbrev sources : Sources
  sources = sources_after s was at.controller (calls_in at b.cut.sooner mid b.cut.led) mid.controller runs_mid.calls

  are_mid : AreSources mid.controller s sources
  are_mid =
      (facts.have at b.cut.sooner mid b.cut.led runs_mid).supplied s low was
      ((facts.have old before at begun runs_at).supplied s low no_sources (opens.sources s low))

  source : HasIssued sources
  source =
      let none : HasSource s old.controller no_sources =
      λ j is. absurd (none_told old.controller s (kept_of facts old (first_ruled before old at begun)) low opens.told j is) in
      all_have facts s low (calls_in at b.cut.sooner mid b.cut.led) at.controller mid.controller runs_mid.calls was
      (all_have facts s low (calls_in old before at begun) old.controller at.controller runs_at.calls no_sources none) b.brings.issue b.brings.is

  has : kept mid.controller s ≡ Some command.0
  has = ap (kept mid.controller) (sym b.brings.slot_is) ∙ command.1

  source_is : command_of source.0 ≡ Some (unmoved command.0)
  source_is = read_from sources.issued (kept mid.controller s) source.0 command.0 are_mid.issued source.1 has

  -- it is so still as the bit falls
  pub table_is : (all : RunsRuled old (before ++ deeds) now) (runs : ControllerRuns old (before ++ deeds) now all) (x : Source)
      → (sources_after s no_sources old.controller (calls_in old (before ++ deeds) now all) now.controller runs.calls).issued ≡ Some x
      → command_of x ≡ Some (unmoved written_then.command)
  unfolding written_then
  table_is all runs x is =
      let on : RunsRuled mid (deed ∷ b.cut.later) now = (last_ruled b.cut.sooner at mid b.cut.led, (b.cut.next, b.cut.does, b.cut.rest)) in
      let runs_on : ControllerRuns mid (deed ∷ b.cut.later) now on = facts.runs mid (deed ∷ b.cut.later) now on runs_mid.due in
      let events : List Event = calls_in mid (deed ∷ b.cut.later) now on in
      let then' : Sources = sources_after s sources mid.controller events now.controller runs_on.calls in
      let are_now : AreSources now.controller s then' = (facts.have mid (deed ∷ b.cut.later) now on runs_on).supplied s low sources are_mid in
      let kept_is : then'.issued ≡ Some source.0 = all_kept s events mid.controller now.controller runs_on.calls sources (refl, b.alone) ∙ source.1 in
      let g = has_command then'.issued (kept now.controller s) source.0 are_now.issued kept_is in
      let one : command_of source.0 ≡ Some (unmoved g.0) = read_from then'.issued (kept now.controller s) source.0 g.0 are_now.issued kept_is g.1 in
      let are_all = (facts.have old (before ++ deeds) now all runs).supplied s low no_sources (opens.sources s low) in
      read_from _ (kept now.controller s) x g.0 are_all.issued is g.1 ∙ sym one ∙ source_is

-- ---- the law

-- so it is of a queued read
abbrev pub is_written : (n s k : ℕ) (at : MachineState) (deeds : List Deed) (now : MachineState) (run : RunsRuled at deeds now)
    (b : Brought QueuedRead n s k at deeds now run) → IsWrittenThen s k b.cut.mid b.cut.does.does.frame.bytes b.brings.wrote b.cut.next b.cut.later
    → IsWritten n s k at deeds now run (byte_is n s k at deeds now run b)
is_written n s k at deeds now run b w = record {
  until = w.until;
  next = w.next;
  way = w.way;
  more = w.more;
  is = w.is;
  none = w.none;
  command = w.command;
  has = w.has;
  written = w.written;
  byte = w.byte;
  byte_is = w.byte_is;
  placed = w.placed;
}

pub reads_are_written : Laws → ReadsAreWritten
reads_are_written laws ports legacy old opening deeds now run slot low issue done k small =
    let b : Brought QueuedRead issue.dev slot k old deeds now run = brought_ever laws.moments ports legacy old opening deeds now run slot low issue done k small in
    record {
      brought = byte_is issue.dev slot k old deeds now run b;
      written = is_written issue.dev slot k old deeds now run b
          (written_then laws ports legacy old opening [] old
          (first_ruled deeds old now run, refl) deeds now run QueuedRead issue.dev slot k low issue done.is done.does.does.free b);
      supplied =
          table_is laws ports legacy old opening [] old
          (first_ruled deeds old now run, refl) deeds now run QueuedRead issue.dev slot k low issue done.is done.does.does.free b run;
    }
