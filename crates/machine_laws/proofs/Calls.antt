-- What each deed is to the controller of a machine is a run of it.
use Rattle.std.proofs.Common.{◌≡◌, ℕ, ◌+◌, Bool, true, false, List, [], ◌∷◌, length, Option, None, Some, Result, Ok, Err, refl, sym, ap, subst, ◌∙◌}
use Rattle.std.proofs.Common.{inl, inr}
use Rattle.std.specs.{Prelude.{MatchOption, nat_lt}, Bool.MatchBool, declared.alloc.AllocError.AllocError}
use Rattle.fis_view.specs.Frames.{Stamped}
use Rattle.hba_fbs.specs.declared.turn.Turn.{Turn, TheVariants.{Feeds, Rests}}
use Rattle.hba_laws.specs.Cores.{HasBytes}
use Rattle.ahci_controller.specs.{Feeding.GathersIf, Next.{is_fed, turn_to}, States.ControllerState, Taking.hindrance, declared.feeding.Fed.Fed}
use Rattle.ahci_controller.specs.declared.{next.Next.Next, taking.Hindrance.Hindrance}
use Rattle.ahci_controller.specs.declared.feeding.Fed.TheVariants as fed
use Rattle.ahci_controller.specs.declared.next.Next.TheVariants as next
use Rattle.controller_laws.specs.Events as call
use Rattle.controller_laws.specs.Events.{Event, IsController, IsWhole}
use Rattle.ahci_machine.specs.Acts as acts
use Rattle.ahci_machine.specs.{Acts.{with_controller, with_gathering}, Answers.{IsStale, MissesFor, MissesMachine, SuppliesData, SuppliesMachine}}
use Rattle.ahci_machine.specs.{Answers.{is_own, is_wanted, taken_bay}, Gathers.GatheringState, States.{HasRules, MachineState, bay_at, gathering_at}}
use Rattle.ahci_machine.specs.declared.{act.Act.Act, answers.Told.Told, request.Wanted.{Wanted, TheVariants.{Command, Data}}}
use Rattle.ahci_machine.specs.declared.act.Act.TheVariants as act
use Rattle.machine_laws.proofs.{Beside.{Beside, inner}, Cases.{by_bool, by_option}, Due.there_is}
use Rattle.machine_laws.proofs.Beside as beside
use Rattle.machine_laws.specs.Controllers.{ControllerGoesOn, GathersDue, IsGathered, IsLength, data_calls, is_kept_for, lost_calls, miss_calls}
use Rattle.machine_laws.specs.{Controllers.{move_calls, rest_calls, supply_calls}, Deeds.{Moved, Unlent, Wrote, Powered, Supplied, Missed, Answered}}
use Rattle.machine_laws.specs.Deeds.{Put, Plugged, Pulled, Removed, FrameTaken, FrameOffered}

pub ruled : (m : MachineState) → HasRules m → IsController m.controller
ruled m h = record { port = h.port; slots = h.slots; rules = h.rules }

-- one call, and none
one : (c d : ControllerState) (e : Event) → IsController c → IsController d → call.Does c e d → call.Runs c (e ∷ []) d
one c d e k l does = (k, (d, does, (l, refl)))

none : (c d : ControllerState) → IsController c → d ≡ c → call.Runs c [] d
none c d k same = (k, same)

-- ---- moves

rests : (old new : MachineState) → (does : acts.RestsNow old new) → IsController old.controller → IsController new.controller → call.Runs old.controller (rest_calls old new does) new.controller
rests old new (inl same) k l = none old.controller new.controller k (ap (λ (m : MachineState). m.controller) same)
rests old new (inr turns) k l = one old.controller new.controller (call.Turned next.Nothing) k l turns.turns

-- the FIS that goes has as many bytes as the controller waits for
whole_turn : (turn : Turn) (bytes : List ℕ) (count : ℕ) → length bytes ≡ 4 + count → IsLength turn count → HasBytes turn bytes
whole_turn (Feeds dev slot offset len) bytes count long is = long ∙ ap (λ (n : ℕ). 4 + n) is
whole_turn other bytes count long is = tt

whole_fed : (answer : Fed) (c : ControllerState) (dev : ℕ) (bytes : List ℕ) → HasBytes (turn_to c dev) bytes → IsWhole c dev bytes answer
whole_fed (fed.Goes message line) c dev bytes h = h
whole_fed other c dev bytes h = tt

whole_if : (out : Bool) (answer : Fed) (c d : ControllerState) (dev number count : ℕ) (bytes : List ℕ) → is_fed c.wants dev number ≡ out → GathersIf out c dev answer d → length bytes ≡ 4 + count
    → (is_fed c.wants dev number ≡ true → IsLength (turn_to c dev) count) → IsWhole c dev bytes answer
whole_if true answer c d dev number count bytes is h long due = whole_fed answer c dev bytes (whole_turn (turn_to c dev) bytes count long (due is))
whole_if false answer c d dev number count bytes is h long due = subst (IsWhole c dev bytes) (sym h.1) tt

gathers : (old new : MachineState) (dev : ℕ) (answer : Fed) (h : acts.GathersNext dev answer old new) → IsController old.controller → IsController new.controller → GathersDue old
    → call.Runs old.controller (call.Gathered dev h.gathering.feed.number h.gathering.bytes answer ∷ []) new.controller
gathers old new dev answer h k l due =
    let g : GatheringState = h.gathering in
    let is : IsGathered old.controller old.kept h.place g = there_is old h.place g h.there due in
    let here : h.place ≡ dev = sym is.own ∙ sym h.gathers.is in
    let counts : is_fed old.controller.wants dev g.feed.number ≡ true → IsLength (turn_to old.controller dev) g.feed.len =
    subst (λ (q : ℕ). is_fed old.controller.wants q g.feed.number ≡ true → IsLength (turn_to old.controller q) g.feed.len) here (is.due (ap (is_kept_for h.place) h.done)) in
    one old.controller new.controller (call.Gathered dev g.feed.number g.bytes answer) k l
    (whole_if (is_fed old.controller.wants dev g.feed.number) answer old.controller new.controller dev g.feed.number g.feed.len g.bytes refl h.gathers.gathers is.whole counts, h.gathers.gathers)

loses : (frame : Option Stamped) (why : Hindrance) (c d : ControllerState) → IsController c → IsController d → hindrance c ≡ Some why → d ≡ c → call.Runs c (lost_calls frame why) d
loses None why c d k l is same = none c d k same
loses (Some frame) why c d k l is same = one c d (call.Left frame.bytes why) k l (is, same)

-- no call of the controller
quiet : (old new : MachineState) → Beside old new → IsController old.controller → call.Runs old.controller [] new.controller
quiet old new same k = none old.controller new.controller k (ap (λ i. i.0) same)

moves : (a : Act) (old new : MachineState) (does : acts.Does old a new) → IsController old.controller → IsController new.controller → GathersDue old → call.Runs old.controller (move_calls old a new does) new.controller
moves act.Rests old new h k l due = rests old new h k l
moves (act.Writes w) old new h k l due = one old.controller new.controller (call.Said (Some w)) k l (sym h.next, ap (λ (m : MachineState). m.controller) h.rest)
moves act.LetsGo old new h k l due = one old.controller new.controller (call.Said None) k l (sym h.none, ap (λ (m : MachineState). m.controller) h.rest)
moves (act.Line b) old new h k l due = quiet old new (ap inner h.2) k
moves act.Message old new h k l due = quiet old new (ap inner h.1) k
moves (act.Turns said) old new h k l due = one old.controller new.controller (call.Turned said) k l h.turns
moves (act.Does said) old new h k l due = none old.controller new.controller k (does said h.does)
  where
    does : (n : Next) → acts.DoesBy n old new → new.controller ≡ old.controller
    does (next.Order dev slot fis) d = ap (λ (m : MachineState). m.controller) d.1
    does other d = ap (λ (m : MachineState). m.controller) d
moves (act.Wants read) old new h k l due = none old.controller new.controller k (ap (λ (m : MachineState). m.controller) h.rest)
moves (act.Gathers dev answer) old new h k l due = gathers old new dev answer h k l due
moves (act.Misses slot answer) old new h k l due = one old.controller new.controller (call.NotThere h.gathering.feed.dev h.gathering.feed.number answer) k l h.misses.misses
moves act.Rises old new h k l due = none old.controller new.controller k (ap (λ (m : MachineState). m.controller) h.rest)
moves (act.Takes took) old new h k l due = one old.controller new.controller (call.Took h.frame.bytes took) k l (record { framed = h.framed; free = h.free; hears = h.hears })
moves (act.Loses why) old new h k l due = loses old.incoming why old.controller new.controller k l h.is (ap (λ (m : MachineState). m.controller) h.rest)
moves other old new h k l due = quiet old new (ap inner h.rest) k

-- ---- calls

supplies : (w : Wanted) (bytes : List ℕ) (old new : MachineState) (answer : Result Told AllocError) (h : SuppliesMachine w bytes old answer new) → IsController old.controller → IsController new.controller
    → call.Runs old.controller (supply_calls w bytes old answer new h) new.controller
supplies (Command slot number) bytes old new answer h k l = one old.controller new.controller (call.Supplied slot number bytes h.answer) k l h.rule
supplies (Data dev number done) bytes old new (Ok it) h k l = none old.controller new.controller k
    (by_bool (new.controller ≡ old.controller) (MatchOption (gathering_at old dev) (IsStale old it new) (λ g. SuppliesData g dev number done bytes old it new)) (IsStale old it new) (nat_lt dev 16) h
    (λ low some. by_option GatheringState (new.controller ≡ old.controller) (IsStale old it new) (λ g. SuppliesData g dev number done bytes old it new) (gathering_at old dev) some
    (λ none is. ap (λ (m : MachineState). m.controller) is.1) (λ g there s. ap (λ (m : MachineState). m.controller) s.rest))
    (λ high is. ap (λ (m : MachineState). m.controller) is.1))
supplies (Data dev number done) bytes old new (Err e) h k l = absurd h

misses_data : (wanted : Bool) (there : Option GatheringState) (dev : ℕ) (old : MachineState) (it : Told) (new : MachineState)
    (h : MatchBool wanted (MatchOption there ⊥ (λ g. MissesFor g dev old it new)) (IsStale old it new)) → IsController old.controller → IsController new.controller
    → call.Runs old.controller (data_calls wanted there dev old it new h) new.controller
misses_data true None dev old it new h k l = absurd h
misses_data true (Some g) dev old it new h k l = one old.controller new.controller (call.NotThere g.feed.dev g.feed.number h.answer) k l h.misses.misses
misses_data false there dev old it new h k l = none old.controller new.controller k (ap (λ (m : MachineState). m.controller) h.1)

misses : (w : Wanted) (old new : MachineState) (answer : Result Told AllocError) (h : MissesMachine w old answer new) → IsController old.controller → IsController new.controller
    → call.Runs old.controller (miss_calls w old answer new h) new.controller
misses (Command slot number) old new answer h k l = one old.controller new.controller (call.Missed slot number h.answer) k l h.rule
misses (Data dev number done) old new (Ok it) h k l = misses_data (is_wanted old dev number done) (gathering_at old dev) dev old it new h k l
misses (Data dev number done) old new (Err e) h k l = absurd h

pub goes_on : ControllerGoesOn
goes_on old (Moved a) new h rules rules_new due =
    let same : new.controller ≡ h.middle.controller = ap (λ (m : MachineState). m.controller) h.turns in
    subst (λ (c : ControllerState). call.Runs old.controller (move_calls old a h.middle h.does) c) (sym same)
    (moves a old h.middle h.does (ruled old rules) (subst IsController same (ruled new rules_new)) due)
goes_on old Unlent new h rules rules_new due = quiet old new (ap inner h) (ruled old rules)
goes_on old (Wrote offset width value written) new h rules rules_new due = one old.controller new.controller (call.WroteWide offset width value written) (ruled old rules) (ruled new rules_new) h.writes
goes_on old Powered new h rules rules_new due = none old.controller new.controller (ruled old rules) (ap (λ (m : MachineState). m.controller) h)
goes_on old (Supplied w bytes) new h rules rules_new due = supplies w bytes old new h.answer h.supplies (ruled old rules) (ruled new rules_new)
goes_on old (Missed w) new h rules rules_new due = misses w old new h.answer h.misses (ruled old rules) (ruled new rules_new)
goes_on old (Answered id a told) new h rules rules_new due = quiet old new (beside.answered id a old new told h) (ruled old rules)
goes_on old (Put n unit told) new h rules rules_new due = quiet old new (beside.put n unit old new told h) (ruled old rules)
goes_on old (Plugged n told) new h rules rules_new due = quiet old new (beside.plugged n old new told h) (ruled old rules)
goes_on old (Pulled n told) new h rules rules_new due = quiet old new (beside.pulled n old new told h) (ruled old rules)
goes_on old (Removed n told) new h rules rules_new due = quiet old new (beside.taken n h.pulled new told h.takes ∙ beside.pulled n old h.pulled h.answer h.pulls) (ruled old rules)
goes_on old (FrameTaken n told) new h rules rules_new due = quiet old new (beside.frame_by (is_own (bay_at old n).unit) old new n (taken_bay (bay_at old n)) h.rest) (ruled old rules)
goes_on old (FrameOffered n frame told) new h rules rules_new due = quiet old new (ap inner h.rest) (ruled old rules)
