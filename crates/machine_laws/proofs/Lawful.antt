-- The laws of a controller, over the runs of its machine.
use Rattle.std.proofs.Common.{◌≡◌, ℕ, false, List, [], ◌∷◌, ◌++◌, length, refl, sym, ap, subst, ◌∙◌, Option, Some, None}
use Rattle.std.proofs.lemmas.{List.{length-replicate}, Nat.Bits.{bit_at-zero}}
use Rattle.std.specs.Prelude.{◌==◌, MatchOption}
use Rattle.slots.specs.Slots.{has_bit}
use Rattle.guest_fetch.specs.Fetch.{Fetching}
use Rattle.hba_laws.specs.{CoreHistories.history_through, Cores.CoreEvent, History.History}
use Rattle.ahci_controller.specs.{Latch.raised, Next.{TurnsIf, Turns, is_halted, next_write, written}, Opening.IsOpening, States.ControllerState}
use Rattle.ahci_controller.specs.declared.{next.Next.Next, wants.{Wants.Wants, Writes.Writes}}
use Rattle.controller_laws.specs.{Active.ActiveBitsFall, Carrying.BytesAreSaid, CoreEvents.{AreCoreEvents, EventsAreCoreEvents, of_event}}
use Rattle.controller_laws.specs.{Ends.{AreTold, HistoriesGoOn, IssuesFall, OpensUntold}, Events.{Event, IsController}, Interrupts.LineIsTold}
use Rattle.controller_laws.specs.{Interrupts.{OpensLatched, StaysLatched, line_shown}, Sources.{CommandsAreSupplied, CoreHasSupplied, StartsUnread}}
use Rattle.controller_laws.specs.Events as call
use Rattle.controller_laws.specs.Places as places
use Rattle.controller_laws.proofs.LineLemmas.{line_is}
use Rattle.ahci_machine.specs.{Registers.lent_bytes, States.{HasRules, MachineState}}
use Rattle.machine_laws.proofs.{Calls.{goes_on, ruled}, Due.{opens_due, stays_due}}
use Rattle.machine_laws.specs.ControllerLaws.{AllFall, ControllerHasLaws, ControllerRuns, LinesAreShown, OpensLawful, RunsAreCalls, RunsRuled}
use Rattle.machine_laws.specs.{ControllerLaws.{WritesArePlaced, calls_in}, Controllers.{GathersDue, deed_calls}, Deeds.Deed}

-- the laws, as `controller_laws` has them
pub record Laws : Type 0 where
  pub events : EventsAreCoreEvents
  pub falls : IssuesFall
  pub told : HistoriesGoOn
  pub active : ActiveBitsFall
  pub supplied : CommandsAreSupplied
  pub core : CoreHasSupplied
  pub said : BytesAreSaid
  pub line : LineIsTold
  pub latched : StaysLatched

-- ---- runs

then_calls : (es fs : List Event) (a b c : ControllerState) → call.Runs a es b → call.Runs b fs c → call.Runs a (es ++ fs) c
then_calls [] fs a b c first second = subst (λ (x : ControllerState). call.Runs x fs c) first.1 second
then_calls (e ∷ es) fs a b c first second = (first.0, (first.1.0, first.1.1, then_calls es fs first.1.0 b c first.1.2 second))

first_ruled : (deeds : List Deed) (old new : MachineState) → RunsRuled old deeds new → HasRules old
first_ruled [] old new run = run.0
first_ruled (deed ∷ later) old new run = run.0

pub runs : RunsAreCalls
runs old [] new run due = record {
  calls = (ruled old run.0, ap (λ (m : MachineState). m.controller) run.1);
  due = subst GathersDue (sym run.1) due;
}
runs old (deed ∷ later) new run due =
    let next : MachineState = run.1.0 in
    let after : ControllerRuns next later new run.1.2 = runs next later new run.1.2 (stays_due old deed next run.1.1 due) in
    record {
      calls = then_calls (deed_calls old deed next run.1.1) (calls_in next later new run.1.2) old.controller next.controller new.controller
          (goes_on old deed next run.1.1 run.0 (first_ruled later next new run.1.2) due) after.calls;
      due = after.due;
    }

-- ---- bits that fall

no_more : (l : List CoreEvent) → (l ++ []) ≡ l
no_more [] = refl
no_more (e ∷ rest) = ap (λ (t : List CoreEvent). e ∷ t) (no_more rest)

first_kept : (events : List Event) (old new : ControllerState) → call.Runs old events new → IsController old
first_kept [] old new run = run.0
first_kept (e ∷ events) old new run = run.0

all_fall : Laws → (past : ℕ → History) (old : ControllerState) (events : List Event) (new : ControllerState) (run : call.Runs old events new) → AreTold old.core past → AllFall past old events new run
all_fall laws past old [] new run told = tt
all_fall laws past old (e ∷ events) new run told =
    let next : ControllerState = run.1.0 in
    let does : call.Does old e next = run.1.1 in
    let kept : IsController next = first_kept events next new run.1.2 in
    let are : AreCoreEvents old.core (of_event old e next does) next.core =
    subst (λ (l : List CoreEvent). AreCoreEvents old.core l next.core) (no_more (of_event old e next does)) (laws.events old next (e ∷ []) (run.0, (next, does, (kept, refl)))) in (
      are,
      record {
        issues = λ s below shows hides. laws.falls old next e run.0 kept does are past told s below shows hides;
        active = λ s below shows hides. laws.active old next e run.0 kept does are past told s below shows hides;
      },
      all_fall laws (λ n. history_through n (past n) old.core next.core (of_event old e next does) are.run) next events new run.1.2 (laws.told old next e does are past told),
    )

last_kept : (events : List Event) (old new : ControllerState) → call.Runs old events new → IsController new
last_kept [] old new run = subst IsController (sym run.1) run.0
last_kept (e ∷ events) old new run = last_kept events run.1.0 new run.1.2

pub have : Laws → ControllerHasLaws
have laws old deeds new run runs =
    let calls : List Event = calls_in old deeds new run in
    record {
      supplied = λ s below was are. laws.supplied old.controller new.controller calls runs.calls s below was are;
      issued = λ s sources are source is. laws.core new.controller (last_kept calls old.controller new.controller runs.calls) s sources are source is;
      said = λ was said. laws.said old.controller new.controller calls runs.calls was said;
      line = laws.line old.controller new.controller calls runs.calls;
      latched = λ was. laws.latched old.controller new.controller calls runs.calls was;
      fall = λ past told. all_fall laws past old.controller calls new.controller runs.calls told;
    }

-- ---- a machine that opens

no_fetch : Option Fetching
no_fetch = None

line_down : (c : ControllerState) → IsOpening c → line_shown c ≡ false
line_down c h = line_is c ∙ ap raised h.latch

pub opens : OpensUntold → StartsUnread → OpensLatched → OpensLawful
opens untold unread latched ports legacy m h rules = record {
  due = opens_due ports legacy m h;
  told = untold m.controller h.controller;
  sources = λ s below. unread m.controller (ruled m rules) (ap length h.controller.fetches ∙ length-replicate 32 no_fetch) s below
      (ap (λ (w : Wants). has_bit w.pending s) h.controller.wants ∙ ap (λ (n : ℕ). n == 1) (bit_at-zero s));
  said = ap (λ (w : Writes). w.payload) h.controller.writes;
  latched = latched m.controller h.controller;
  line = line_down m.controller h.controller;
}

-- ---- what the caller is told

-- the next write is what `next` would answer
turns_to : (c : ControllerState) (write : Next) → next_write c ≡ Some write → Turns c write (written c)
turns_to c write is = subst (λ (o : Option Next). MatchOption o (TurnsIf (is_halted (written c)) (written c) write (written c)) (λ x. (write ≡ x) × (written c ≡ written c))) (sym is) (refl, refl)

pub writes : places.WritesArePlaced → WritesArePlaced
writes law old write new h = record {
  placed = law old.controller (written old.controller) write (turns_to old.controller write h.does.next);
  lent = ap lent_bytes h.turns ∙ ap lent_bytes h.does.rest;
}

pub line_told : LinesAreShown
line_told old line new h = (
  h.does.0.0 ∙ sym (line_is old.controller) ∙ ap (λ (m : MachineState). line_shown m.controller) (sym h.does.2) ∙ ap (λ (m : MachineState). line_shown m.controller) (sym h.turns),
  ap (λ (m : MachineState). next_write m.controller) h.turns ∙ ap (λ (m : MachineState). next_write m.controller) h.does.2 ∙ h.does.0.1.none,
)
