-- A FIS that the controller sends, and that is no Data, is that of a command in a slot.
use Rattle.std.proofs.Common.{◌≡◌, ℕ, ◌<◌, ◌≤◌, Bool, true, false, List, [], ◌∷◌, ◌++◌, append_assoc, append-nil, length, Option, Some, None, Result}
use Rattle.std.proofs.{Common.{Ok, Err, refl, sym, ap, ◌∙◌, subst, arith, inl, inr, Contains}, lemmas.Bool.{false≢true, ltb-true, ltb-false}}
use Rattle.std.proofs.lemmas.List.{get_or_past, Elements.{All-cons, All-contains, All-nil}}
use Rattle.std.specs.{Prelude.{◌&&◌, MatchOption, is_some, is_none, nat_lt, slice_index}, Bool.MatchBool, declared.alloc.AllocError.AllocError}
use Rattle.fis_view.specs.Frames.{Stamped}
use Rattle.slots.specs.{Data.payload, Slots.{Issue, Slots, context_of, issue_at}, Table.IsTable}
use Rattle.port_errors.specs.Errors.{cause_of}
use Rattle.hba_fbs.specs.{Choosing.may_feed, Sending.is_due, Taking.is_running}
use Rattle.ahci_controller.specs.{Feeding.{GathersIf, SendsIf, without_feeding}, Next.is_fed, States.ControllerState, declared.feeding.Fed.Fed}
use Rattle.ahci_controller.specs.declared.taking.Hindrance.{Hindrance}
use Rattle.ahci_controller.specs.declared.feeding.Fed.TheVariants as fed
use Rattle.ahci_controller.specs.declared.next.Next.TheVariants as next
use Rattle.controller_laws.specs.Events as call
use Rattle.controller_laws.specs.Events.{Event}
use Rattle.ahci_machine.specs.Acts as acts
use Rattle.ahci_machine.specs.{Answers.{IsStale, MissesFor, MissesMachine, SuppliesMachine, is_wanted}, Gathers.{GatheringState, host_stamp}}
use Rattle.ahci_machine.specs.{States.{HasRules, MachineState, gathering_at}, declared.{act.Act.Act, answers.Told.Told, request.Wanted.Wanted}}
use Rattle.ahci_machine.specs.declared.request.Wanted.TheVariants.{Command, Data}
use Rattle.ahci_machine.specs.declared.act.Act.TheVariants as act
use Rattle.machine_laws.specs.{ControllerLaws.{ControllerRuns, RunsAreCalls, RunsRuled, calls_in}, Controllers.{GathersDue, data_calls, deed_calls}}
use Rattle.machine_laws.specs.{Controllers.{lost_calls, miss_calls, move_calls, rest_calls, supply_calls}, Deeds.{Deed, Does, Moved, Supplied}}
use Rattle.machine_laws.specs.{Deeds.Missed, Falling.sent_in, Feeding.{DataIsRead, DataIsWhatCame, IsReading, OrdersAreIssued, came_in}}
use Rattle.machine_laws.specs.Heard.{IsSentOut}
use Rattle.machine_theorem.specs.Commands.{IsSentFrom}

-- the laws, as `machine_laws` has them
pub record Laws : Type 0 where
  pub orders : OrdersAreIssued
  pub read : DataIsRead
  pub whole : DataIsWhatCame
  pub runs : RunsAreCalls

-- ---- lists

pub none_there : {C : Type 0} (f : Stamped) → Contains [] f → C
none_there f has = absurd (All-contains (λ (g : Stamped). ⊥) [] f (All-nil (λ (g : Stamped). ⊥)) has)

pub is_one : (f g : Stamped) → Contains (g ∷ []) f → f ≡ g
is_one f g has = All-contains (λ (x : Stamped). x ≡ g) (g ∷ []) f (All-cons (λ (x : Stamped). x ≡ g) g [] refl (All-nil (λ (x : Stamped). x ≡ g))) has

pub not_sent : {C : Type 0} (es : List Event) (f : Stamped) → sent_in es ≡ [] → Contains (sent_in es) f → C
not_sent es f none has = none_there f (subst (λ (l : List Stamped). Contains l f) none has)

-- ---- Data that go are for one of 16 devices

low_dev : (t : Slots) (dev : ℕ) → IsTable t → is_some (payload (context_of t dev)) ≡ true → dev < 16
low_dev t dev is some = by (nat_lt dev 16) refl
  where
    far : (long : ℕ) → long ≡ 16 → 16 ≤ dev → long ≤ dev
    far long a b = omega (arith, a, b)

    by : (b : Bool) → nat_lt dev 16 ≡ b → dev < 16
    by true low = ltb-true dev 16 low
    by false high =
        absurd (false≢true (sym (ap (λ o. is_some (payload o)) (get_or_past t.contexts dev None (far (length t.contexts) is.devices (ltb-false dev 16 high)))) ∙ some))

-- and a command is in one of 32 slots
pub low_slot : (t : Slots) (slot dev : ℕ) → IsTable t → MatchOption (issue_at t slot) ⊥ (λ issue. issue.dev ≡ dev) → slot < 32
low_slot t slot dev is some = by (nat_lt slot 32) refl
  where
    far : (long : ℕ) → long ≡ 32 → 32 ≤ slot → long ≤ slot
    far long a b = omega (arith, a, b)

    by : (b : Bool) → nat_lt slot 32 ≡ b → slot < 32
    by true low = ltb-true slot 32 low
    by false high =
        absurd (subst (λ (o : Option Issue). MatchOption o ⊥ (λ issue. issue.dev ≡ dev))
        (get_or_past t.issues slot None (far (length t.issues) is.slots (ltb-false slot 32 high))) some)

-- each controller of a run keeps its rules
pub last_kept : (events : List Event) (old new : ControllerState) → call.Runs old events new → call.IsController new
last_kept [] old new run = subst call.IsController (sym run.1) run.0
last_kept (e ∷ events) old new run = last_kept events run.1.0 new run.1.2

and_first : (a b : Bool) → (a && b) ≡ true → a ≡ true
and_first true b h = refl
and_first false b h = absurd (false≢true h)

and_second : (a b : Bool) → (a && b) ≡ true → b ≡ true
and_second true b h = h
and_second false b h = absurd (false≢true h)

abbrev pub does_go : Fed → Type 0
does_go (fed.Goes message line) = Unit {0}
does_go other = ⊥

fed_by : (due : Bool) (c d : ControllerState) (dev : ℕ) (answer : Fed) → does_go answer → may_feed c.core dev ≡ due → SendsIf due (without_feeding c dev) dev answer d
    → may_feed c.core dev ≡ true
fed_by true c d dev answer goes is h = is
fed_by false c d dev answer goes is h = absurd (subst does_go h.1 goes)

feeds : (out : Bool) (c d : ControllerState) (dev : ℕ) (answer : Fed) → does_go answer → GathersIf out c dev answer d → may_feed c.core dev ≡ true
feeds true c d dev answer goes h = fed_by (may_feed c.core dev) c d dev answer goes refl h
feeds false c d dev answer goes h = absurd (subst does_go h.1 goes)

-- Data that go are due
pub fed_some : (c d : ControllerState) (dev number : ℕ) (answer : Fed) → does_go answer → GathersIf (is_fed c.wants dev number) c dev answer d
    → is_some (payload (context_of c.core.slots dev)) ≡ true
fed_some c d dev number answer goes h =
    let may : may_feed c.core dev ≡ true = feeds (is_fed c.wants dev number) c d dev answer goes h in
    and_first (is_some (payload (context_of c.core.slots dev))) (is_none (cause_of c.core.errors dev))
    (and_second (is_running c.core) (is_due c.core.slots c.core.errors dev) may)

pub fed_low : (c d : ControllerState) (dev number : ℕ) (answer : Fed) → IsTable c.core.slots → does_go answer → GathersIf (is_fed c.wants dev number) c dev answer d → dev < 16
fed_low c d dev number answer is goes h = low_dev c.core.slots dev is (fed_some c d dev number answer goes h)

-- ---- calls that send nothing

pub rests : (old new : MachineState) (h : acts.RestsNow old new) → sent_in (rest_calls old new h) ≡ []
rests old new (inl same) = refl
rests old new (inr turns) = refl

pub loses : (frame : Option Stamped) (why : Hindrance) → sent_in (lost_calls frame why) ≡ []
loses None why = refl
loses (Some f) why = refl

pub supplies : (w : Wanted) (bytes : List ℕ) (old : MachineState) (answer : Result Told AllocError) (new : MachineState) (h : SuppliesMachine w bytes old answer new)
    → sent_in (supply_calls w bytes old answer new h) ≡ []
supplies (Command slot number) bytes old answer new h = refl
supplies (Data dev number done) bytes old answer new h = refl

misses_data : (wanted : Bool) (there : Option GatheringState) (dev : ℕ) (old : MachineState) (it : Told) (new : MachineState)
    (h : MatchBool wanted (MatchOption there ⊥ (λ g. MissesFor g dev old it new)) (IsStale old it new)) → sent_in (data_calls wanted there dev old it new h) ≡ []
misses_data true None dev old it new h = refl
misses_data true (Some g) dev old it new h = refl
misses_data false there dev old it new h = refl

pub misses : (w : Wanted) (old : MachineState) (answer : Result Told AllocError) (new : MachineState) (h : MissesMachine w old answer new)
    → sent_in (miss_calls w old answer new h) ≡ []
misses (Command slot number) old answer new h = refl
misses (Data dev number done) old (Ok it) new h = misses_data (is_wanted old dev number done) (gathering_at old dev) dev old it new h
misses (Data dev number done) old (Err e) new h = refl

-- ---- one deed

-- what was read for each device so far
pub record Read (m : MachineState) (dev : ℕ) : Type 0 where
  pub came : List ℕ
  pub is : IsReading m dev came

abbrev pub AllRead : MachineState → Type 0
AllRead m = (dev : ℕ) → dev < 16 → Read m dev

-- it is that of a command, sent from a slot by these calls
pub record IsOrder (first : ControllerState) (calls : List Event) (f : Stamped) : Type 0 where
  pub dev : ℕ
  pub slot : ℕ
  pub fis : List ℕ
  pub is : f ≡ record { bytes = fis; stamp = host_stamp dev }
  pub sent : IsSentFrom first calls dev slot fis

-- ---- runs, one after another

pub append_runs : (es fs : List Event) (a b c : ControllerState) → call.Runs a es b → call.Runs b fs c → call.Runs a (es ++ fs) c
append_runs [] fs a b c one two = subst (λ (x : ControllerState). call.Runs x fs c) one.1 two
append_runs (e ∷ es) fs a b c one two = (one.0, (one.1.0, one.1.1, append_runs es fs one.1.0 b c one.1.2 two))

pub first_ruled : (deeds : List Deed) (old new : MachineState) → RunsRuled old deeds new → HasRules old
first_ruled [] old new run = run.0
first_ruled (deed ∷ later) old new run = run.0

abbrev NoData : Stamped → Type 0
NoData f = slice_index f.bytes 0 ≡ 0x46 → ⊥

module _ (laws : Laws) (f : Stamped) (other : NoData f) (first : ControllerState) where
  gathers : {C : Type 0} (m : MachineState) (dev : ℕ) (answer : Fed) (new : MachineState) (does : Does m (Moved (act.Gathers dev answer)) new)
      → does_go answer → HasRules m → GathersDue m → AllRead m → f.bytes ≡ does.does.gathering.bytes → C
  gathers m dev answer new does goes rules due read is =
      let low : dev < 16 = fed_low m.controller does.middle.controller dev does.does.gathering.feed.number answer rules.slots goes does.does.gathers.gathers in
      let r : Read m dev = read dev low in
      absurd (other (ap (λ (b : List ℕ). slice_index b 0) (is ∙ laws.whole m dev answer new does due r.came r.is)))

  moved : (a : Act) (m : MachineState) (new : MachineState) (does : Does m (Moved a) new) (past rest : List Event) → call.Runs first past m.controller
      → HasRules m → GathersDue m → AllRead m → Contains (sent_in (move_calls m a does.middle does.does)) f
      → IsOrder first (past ++ (move_calls m a does.middle does.does ++ rest)) f
  moved (act.Turns (next.Order dev slot fis)) m new does past rest so_far rules due read has = record {
    dev = dev;
    slot = slot;
    fis = fis;
    is = is_one f (record { bytes = fis; stamp = host_stamp dev }) has;
    sent = record { before = past; later = rest; is = refl; at = m.controller; first = so_far; ordered = laws.orders m dev slot fis new rules does };
  }
  moved (act.Gathers dev (fed.Goes message line)) m new does past rest so_far rules due read has =
      gathers m dev (fed.Goes message line) new does tt rules due read (ap (λ (g : Stamped). g.bytes) (is_one f (record { bytes = does.does.gathering.bytes; stamp = host_stamp dev }) has))
  moved act.Rests m new does past rest so_far rules due read has = not_sent (rest_calls m does.middle does.does) f (rests m does.middle does.does) has
  moved (act.Loses why) m new does past rest so_far rules due read has = not_sent (lost_calls m.incoming why) f (loses m.incoming why) has
  moved a m new does past rest so_far rules due read has = none_there f has

  one : (deed : Deed) (m : MachineState) (new : MachineState) (does : Does m deed new) (past rest : List Event) → call.Runs first past m.controller
      → HasRules m → GathersDue m → AllRead m → Contains (sent_in (deed_calls m deed new does)) f → IsOrder first (past ++ (deed_calls m deed new does ++ rest)) f
  one (Moved a) m new does past rest so_far rules due read has = moved a m new does past rest so_far rules due read has
  one (Supplied w bytes) m new does past rest so_far rules due read has =
      not_sent (supply_calls w bytes m does.answer new does.supplies) f (supplies w bytes m does.answer new does.supplies) has
  one (Missed w) m new does past rest so_far rules due read has = not_sent (miss_calls w m does.answer new does.misses) f (misses w m does.answer new does.misses) has
  one deed m new does past rest so_far rules due read has = none_there f has

  -- ---- a run

  pub ordered : (m : MachineState) (deeds : List Deed) (now : MachineState) (run : RunsRuled m deeds now) (past : List Event) → call.Runs first past m.controller
      → GathersDue m → AllRead m → IsSentOut f m deeds now run → IsOrder first (past ++ calls_in m deeds now run) f
  ordered m [] now run past so_far due read sent = absurd sent
  ordered m (deed ∷ later) now run past so_far due read (inl has) =
      one deed m run.1.0 run.1.1 past (calls_in run.1.0 later now run.1.2) so_far run.0 due read has
  ordered m (deed ∷ later) now run past so_far due read (inr is) =
      let next : MachineState = run.1.0 in
      let does : Does m deed next = run.1.1 in
      let calls : List Event = deed_calls m deed next does in
      let step : RunsRuled m (deed ∷ []) next = (run.0, (next, does, (first_ruled later next now run.1.2, refl))) in
      let by : ControllerRuns m (deed ∷ []) next step = laws.runs m (deed ∷ []) next step due in
      let goes : call.Runs m.controller calls next.controller = subst (λ (l : List Event). call.Runs m.controller l next.controller) (append-nil calls) by.calls in
      subst (λ (l : List Event). IsOrder first l f) (append_assoc past calls (calls_in next later now run.1.2))
      (ordered next later now run.1.2 (past ++ calls) (append_runs past calls first m.controller next.controller so_far goes) by.due
      (λ dev low. let r : Read m dev = read dev low in
      record { came = came_in dev r.came m (deed ∷ []) next step; is = laws.read dev low m (deed ∷ []) next step due r.came r.is }) is)
