-- A bit of PxSACT falls by a FIS of the device that owns the slot's command.
use Rattle.std.proofs.Common.{◌≡◌, ◌⊎◌, ℕ, ◌<◌, Bool, true, false, List, [], ◌∷◌, ◌++◌, append-nil, Option, Some, None, Result, Ok, Err, refl, sym}
use Rattle.std.proofs.{Common.{ap, ◌∙◌, subst, inl, inr, All, Contains}, lemmas.{Bool.{false≢true}, List.Elements.{All-contains, All-nil}}}
use Rattle.std.proofs.lemmas.{List.Elements.{Contains-append_right, Contains-push}, Nat.Bits.{bit_at-zero}}
use Rattle.std.specs.{Prelude.{◌==◌, MatchOption}, Bool.MatchBool, declared.alloc.AllocError.AllocError, Int.bit_at}
use Rattle.fis_view.specs.{Frames.Stamped, Table.{Bits, SActive, field}}
use Rattle.slots.specs.Slots.{has_bit}
use Rattle.ahci_registers.specs.declared.register.Register.TheVariants.{PxSact}
use Rattle.hba_laws.specs.{CoreHistories.history_through, Cores.CoreEvent, History.History}
use Rattle.ahci_controller.specs.{Reading.shown, States.ControllerState, Taking.room_for, declared.taking.{Hindrance.Hindrance, Took.Took}}
use Rattle.hba_fbs.specs.Taking.{port_of}
use Rattle.controller_laws.specs.{Active.{ActiveBitsFall, ActiveFalls, IsNamed}, CoreEvents.{AreCoreEvents, EventsAreCoreEvents, of_event}}
use Rattle.controller_laws.specs.{Ends.{AreTold, HistoriesGoOn}, Events.{Event, IsController}}
use Rattle.controller_laws.specs.Events as call
use Rattle.ahci_machine.specs.Acts as acts
use Rattle.ahci_machine.specs.{Answers.{IsStale, MissesFor, MissesMachine, SuppliesMachine, is_wanted}, Gathers.GatheringState, States.HasRules}
use Rattle.ahci_machine.specs.{States.{IsOpeningMachine, MachineState, gathering_at}, declared.{act.Act.Act, answers.Told.Told as Answer}}
use Rattle.ahci_machine.specs.declared.request.Wanted.{Wanted, TheVariants.{Command, Data}}
use Rattle.ahci_machine.specs.declared.act.Act.TheVariants as act
use Rattle.machine_laws.specs.ControllerLaws.{ControllerHasLaws, ControllerRuns, OpensLawful, OpensSo, RunsAreCalls, RunsRuled, calls_in}
use Rattle.machine_laws.specs.{Controllers.{data_calls, deed_calls, lost_calls, miss_calls, move_calls, rest_calls, supply_calls}, Deeds.{Deed, Does}}
use Rattle.machine_laws.specs.{Deeds.{Moved, Wrote, Supplied, Missed}, Rising.{Frames, GoesOnRising, HaveRisen, IsOfDevice, NamingAreSent}}
use Rattle.machine_laws.specs.Rising.{OpensRising, came_by, frames_after, frames_in, is_reset, no_frames, sent_by}
use Rattle.machine_theorem.specs.Ends.{EndsAreOfDevices, IsEndIn, MayEnd, OthersEndNone}
use Rattle.machine_theorem.proofs.EndSent as ends
use Rattle.machine_theorem.proofs.{EndSent.{IsNamingTag, each_end}, Names.{IsNamingOf, names}, Own.{all_in, last_ruled}, Taken.more_sent}

pub record Laws : Type 0 where
  pub ends : ends.Laws
  pub opens_rising : OpensRising
  pub rising : GoesOnRising
  pub naming : NamingAreSent
  pub opens : OpensLawful
  pub runs : RunsAreCalls
  pub have : ControllerHasLaws
  pub events : EventsAreCoreEvents
  pub histories : HistoriesGoOn
  pub active : ActiveBitsFall

-- ---- calls that take no bit

abbrev is_quiet : Event → Bool
is_quiet (call.Wrote offset value written) = false
is_quiet (call.WroteWide offset width value written) = false
is_quiet (call.Took frame took) = false
is_quiet event = true

abbrev AllQuiet : List Event → Type 0
AllQuiet [] = Unit {0}
AllQuiet (e ∷ later) = (is_quiet e ≡ true) × AllQuiet later

rests : (old new : MachineState) (h : acts.RestsNow old new) → AllQuiet (rest_calls old new h)
rests old new (inl same) = tt
rests old new (inr turns) = (refl, tt)

loses : (frame : Option Stamped) (why : Hindrance) → AllQuiet (lost_calls frame why)
loses None why = tt
loses (Some f) why = (refl, tt)

supplies : (w : Wanted) (bytes : List ℕ) (old : MachineState) (answer : Result Answer AllocError) (new : MachineState) (h : SuppliesMachine w bytes old answer new)
    → AllQuiet (supply_calls w bytes old answer new h)
supplies (Command slot number) bytes old answer new h = (refl, tt)
supplies (Data dev number done) bytes old answer new h = tt

misses_data : (wanted : Bool) (there : Option GatheringState) (dev : ℕ) (old : MachineState) (it : Answer) (new : MachineState)
    (h : MatchBool wanted (MatchOption there ⊥ (λ g. MissesFor g dev old it new)) (IsStale old it new)) → AllQuiet (data_calls wanted there dev old it new h)
misses_data true None dev old it new h = tt
misses_data true (Some g) dev old it new h = (refl, tt)
misses_data false there dev old it new h = tt

misses : (w : Wanted) (old : MachineState) (answer : Result Answer AllocError) (new : MachineState) (h : MissesMachine w old answer new)
    → AllQuiet (miss_calls w old answer new h)
misses (Command slot number) old answer new h = (refl, tt)
misses (Data dev number done) old (Ok it) new h = misses_data (is_wanted old dev number done) (gathering_at old dev) dev old it new h
misses (Data dev number done) old (Err e) new h = tt

move_quiet : (a : Act) (old new : MachineState) (does : Does old (Moved a) new) → MayEnd (Moved a) ⊎ AllQuiet (move_calls old a does.middle does.does)
move_quiet (act.Takes took) old new does = inl tt
move_quiet act.Rests old new does = inr (rests old does.middle does.does)
move_quiet (act.Loses why) old new does = inr (loses old.incoming why)
move_quiet (act.Writes write) old new does = inr (refl, tt)
move_quiet act.LetsGo old new does = inr (refl, tt)
move_quiet (act.Turns said) old new does = inr (refl, tt)
move_quiet (act.Gathers dev answer) old new does = inr (refl, tt)
move_quiet (act.Misses slot answer) old new does = inr (refl, tt)
move_quiet a old new does = inr tt

deed_quiet : (deed : Deed) (old new : MachineState) (does : Does old deed new) → MayEnd deed ⊎ AllQuiet (deed_calls old deed new does)
deed_quiet (Moved a) old new does = move_quiet a old new does
deed_quiet (Wrote offset width value written) old new does = inl tt
deed_quiet (Supplied w bytes) old new does = inr (supplies w bytes old does.answer new does.supplies)
deed_quiet (Missed w) old new does = inr (misses w old does.answer new does.misses)
deed_quiet deed old new does = inr tt

-- ---- histories

pub record Told (c : ControllerState) : Type 0 where
  pub past : ℕ → History
  pub told : AreTold c.core past

first_kept : (events : List Event) (old new : ControllerState) → call.Runs old events new → IsController old
first_kept [] old new run = run.0
first_kept (e ∷ events) old new run = run.0

no_more : (l : List CoreEvent) → (l ++ []) ≡ l
no_more [] = refl
no_more (e ∷ rest) = ap (λ (t : List CoreEvent). e ∷ t) (no_more rest)

module _ (laws : Laws) where
  pub core_events : (old new : ControllerState) (e : Event) → IsController old → IsController new → (does : call.Does old e new)
      → AreCoreEvents old.core (of_event old e new does) new.core
  core_events old new e k l does =
      subst (λ (events : List CoreEvent). AreCoreEvents old.core events new.core) (no_more (of_event old e new does))
      (laws.events old new (e ∷ []) (k, (new, does, (l, refl))))

  pub told_after : (events : List Event) (old new : ControllerState) → call.Runs old events new → Told old → Told new
  told_after [] old new run was = subst Told (sym run.1) was
  told_after (e ∷ events) old new run was =
      let mid : ControllerState = run.1.0 in
      let does : call.Does old e mid = run.1.1 in
      let are : AreCoreEvents old.core (of_event old e mid does) mid.core = core_events old mid e run.0 (first_kept events mid new run.1.2) does in
      told_after events mid new run.1.2 (record {
        past = λ n. history_through n (was.past n) old.core mid.core (of_event old e mid does) are.run;
        told = laws.histories old mid e does are was.past was.told;
      })

  first_ruled : (deeds : List Deed) (old new : MachineState) → RunsRuled old deeds new → HasRules old
  first_ruled [] old new run = run.0
  first_ruled (deed ∷ later) old new run = run.0

  pub controller_runs : (ports : ℕ) (legacy : Bool) (old : MachineState) → IsOpeningMachine ports legacy old → (deeds : List Deed) (now : MachineState) (run : RunsRuled old deeds now)
      → ControllerRuns old deeds now run
  controller_runs ports legacy old opening deeds now run =
      laws.runs old deeds now run (laws.opens ports legacy old opening (first_ruled deeds old now run)).due

  pub told_now : (ports : ℕ) (legacy : Bool) (old : MachineState) → IsOpeningMachine ports legacy old → (deeds : List Deed) (now : MachineState) (run : RunsRuled old deeds now)
      → Told now.controller
  told_now ports legacy old opening deeds now run =
      let opened : OpensSo old = laws.opens ports legacy old opening (first_ruled deeds old now run) in
      told_after (calls_in old deeds now run) old.controller now.controller (controller_runs ports legacy old opening deeds now run).calls
      (record { past = λ n. []; told = opened.told })

  -- ---- as a FIS is taken

  pub kept_of : (m : MachineState) → HasRules m → IsController m.controller
  kept_of m rules = record { port = rules.port; slots = rules.slots; rules = rules.rules }

  pub named_by : (now : MachineState) (took : Took) (new : MachineState) (does : Does now (Moved (act.Takes took)) new) → HasRules now → HasRules new → (t : Told now.controller)
      → (slot : ℕ) → slot < 32 → has_bit (shown PxSact now.controller) slot ≡ true → has_bit (shown PxSact new.controller) slot ≡ false
      → IsNamed slot t.past now.controller does.does.frame.bytes
  named_by now took new does rules rules_new t slot low shows hides =
      let h = does.does in
      let c : ControllerState = does.middle.controller in
      let same : new.controller ≡ c = ap (λ (m : MachineState). m.controller) does.turns in
      let kept : IsController c = subst IsController same (kept_of new rules_new) in
      let takes : call.Takes now.controller h.frame.bytes took c = record { framed = h.framed; free = h.free; hears = h.hears } in
      laws.active now.controller c (call.Took h.frame.bytes took) (kept_of now rules) kept takes
      (core_events now.controller c (call.Took h.frame.bytes took) (kept_of now rules) kept takes) t.past t.told slot low shows
      (ap (λ (x : ControllerState). has_bit (shown PxSact x) slot) (sym same) ∙ hides)

  -- it has the slot in SActive
  pub naming : (now : MachineState) (frame : List ℕ) (past : ℕ → History) (slot : ℕ) (named : IsNamed slot past now.controller frame) → IsNamingOf frame named.mask
  naming now frame past slot named = names now.controller.core (room_for now.controller (port_of frame)) frame named.mask named.heard

  pub some_named : (mask slot : ℕ) → has_bit mask slot ≡ true → mask ≡ 0 → ⊥
  some_named mask slot has none =
      false≢true (sym (ap (λ (y : ℕ). y == 1) (ap (λ (y : ℕ). bit_at y slot) none ∙ bit_at-zero slot)) ∙ has)

  pub of_devices : EndsAreOfDevices
  of_devices ports legacy old opening deeds now run took new does rules slot low shows hides =
      let h = does.does in
      let deed : Deed = Moved (act.Takes took) in
      let kept : HasRules now = last_ruled deeds old now run in
      let t : Told now.controller = told_now ports legacy old opening deeds now run in
      let named : IsNamed slot t.past now.controller h.frame.bytes = named_by now took new does kept rules t slot low shows hides in
      let of : IsNamingOf h.frame.bytes named.mask = naming now h.frame.bytes t.past slot named in
      let bit : has_bit (field Bits SActive h.frame.bytes) slot ≡ true = subst (λ (y : ℕ). has_bit y slot ≡ true) of.mask_is named.names in
      let P : Stamped → Type 0 = λ f. IsEndIn f slot old deeds now run in
      let Q : Stamped → Type 0 = λ f. IsNamingTag slot f → P f in
      let before : Frames = frames_in no_frames old deeds now run in
      let after : Frames = frames_after before now deed new does in
      let risen : HaveRisen now before = laws.rising old deeds now run no_frames (laws.opens_rising ports legacy old opening) in
      let risen_now : HaveRisen new after = laws.rising now (deed ∷ []) new (kept, (new, does, (rules, refl))) before risen in
      let sent : All Q after.sent =
      more_sent Q (is_reset deed) before (sent_by now deed new does) (came_by now deed new does)
      (all_in Q old deeds now run no_frames (All-nil Q) (each_end laws.ends slot low P old deeds now run (λ f is. is))) (All-nil Q) in
      let has : Contains after.came h.frame = Contains-append_right before.came (h.frame ∷ []) h.frame (Contains-push [] h.frame) in
      let of_device : IsOfDevice new after h.frame =
      laws.naming new after risen_now h.frame has h.framed (record { viewed = of.viewed; some = some_named (field Bits SActive h.frame.bytes) slot bit }) in
      record {
        past = t.past;
        told = t.told;
        named = named;
        sent = All-contains Q after.sent h.frame sent of_device.sent (of.viewed, bit);
        port = of_device.port;
      }

  -- ---- nothing else takes one

  quiet_none : (e : Event) (slot : ℕ) (past : ℕ → History) (old new : ControllerState) (does : call.Does old e new) (are : AreCoreEvents old.core (of_event old e new does) new.core)
      → is_quiet e ≡ true → ActiveFalls slot past old e new does are.run → ⊥
  quiet_none (call.Wrote offset value written) slot past old new does are quiet h = false≢true quiet
  quiet_none (call.WroteWide offset width value written) slot past old new does are quiet h = false≢true quiet
  quiet_none (call.Took frame took) slot past old new does are quiet h = false≢true quiet
  quiet_none other slot past old new does are quiet h = h

  quiet_keeps : (events : List Event) (old new : ControllerState) → call.Runs old events new → Told old → AllQuiet events → (slot : ℕ) → slot < 32
      → has_bit (shown PxSact old) slot ≡ true → has_bit (shown PxSact new) slot ≡ false → ⊥
  quiet_keeps [] old new run t quiet slot low shows hides =
      false≢true (sym hides ∙ ap (λ (c : ControllerState). has_bit (shown PxSact c) slot) run.1 ∙ shows)
  quiet_keeps (e ∷ events) old new run t quiet slot low shows hides =
      by (λ is. quiet_keeps events mid new run.1.2 (told_after (e ∷ []) old mid (run.0, (mid, run.1.1, (kept, refl))) t) quiet.1 slot low is hides)
      (has_bit (shown PxSact mid) slot) refl
    where
      mid : ControllerState
      mid = run.1.0

      kept : IsController mid
      kept = first_kept events mid new run.1.2

      are : AreCoreEvents old.core (of_event old e mid run.1.1) mid.core
      are = core_events old mid e run.0 kept run.1.1

      by : (has_bit (shown PxSact mid) slot ≡ true → ⊥) → (b : Bool) → has_bit (shown PxSact mid) slot ≡ b → ⊥
      by later true is = later is
      by later false is = quiet_none e slot t.past old mid run.1.1 are quiet.0 (laws.active old mid e run.0 kept run.1.1 are t.past t.told slot low shows is)

  pub others_none : OthersEndNone
  others_none ports legacy old opening deeds now run deed new does rules slot low shows hides =
      let kept : HasRules now = last_ruled deeds old now run in
      let step : RunsRuled now (deed ∷ []) new = (kept, (new, does, (rules, refl))) in
      let by : ControllerRuns now (deed ∷ []) new step = laws.runs now (deed ∷ []) new step (controller_runs ports legacy old opening deeds now run).due in
      let goes : call.Runs now.controller (deed_calls now deed new does) new.controller =
      subst (λ (l : List Event). call.Runs now.controller l new.controller) (append-nil (deed_calls now deed new does)) by.calls in
      elim (deed_quiet deed now new does) [
        | inl may ↦ may
        | inr quiet ↦ absurd (quiet_keeps (deed_calls now deed new does) now.controller new.controller goes (told_now ports legacy old opening deeds now run) quiet slot low shows hides)
      ]
