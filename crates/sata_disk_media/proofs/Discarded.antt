-- A discard that is out, or that a reset dropped while it was out, stays so until it is answered. Meanwhile no command runs.
use Rattle.std.proofs.Common.{◌≡◌, ◌≢◌, ◌⊎◌, ℕ, true, false, List, [], ◌∷◌, ◌++◌, Some, None, refl, sym, ap, ◌∙◌, subst, inl, inr}
use Rattle.std.proofs.lemmas.Bool.{cases_eq, eqb-true, false≢true}
use Rattle.std.specs.Prelude.{Option, Bool, not, ◌==◌, ◌&&◌, ◌||◌, is_none, if◌then◌else◌}
use Rattle.block_command.specs.{declared.{answer.AnswerError.TheVariants.NotOut, command.Turn.Turn}, Moments.{Moment, turn_of}}
use Rattle.block_command.specs.declared.command.Turn.TheVariants as turn
use Rattle.block_queue.specs.Line.{command_at}
use Rattle.block_engine.specs.declared.{aside.{AsideKind.AsideKind, AsideStage.AsideStage}, request.{Answer.Answer, Request.Request}}
use Rattle.block_engine.specs.{Aside.{asks_for, is_over, is_waiting, settled}, Engine.{EngineState, IsAskedOf, answer_refusal, answered, aside_what}}
use Rattle.block_engine.specs.Engine.{beside_refusal, discards, done_at, done_refusal, dropped_by, fail_refusal, failed_by, is_asked, is_discard}
use Rattle.block_engine.specs.{Engine.{line, loaded_at, place_of, what_at, what_of}, Laws.{AreSteps, IsStep, Step, after_step, after_steps}}
use Rattle.block_engine.specs.Numbers.{is_number}
use Rattle.block_engine.specs.declared.aside.AsideKind.TheVariants as kinds
use Rattle.block_engine.specs.declared.aside.AsideStage.TheVariants as stages
use Rattle.block_engine.specs.declared.request.Answer.TheVariants as answers
use Rattle.block_engine.specs.declared.request.What.TheVariants as what
use Rattle.block_engine.specs.Laws as engine
use Rattle.disk_pages.specs.declared.profile.Profile.{Profile}
use Rattle.sata_disk.specs.State.{DiskState, commands, new_disk}
use Rattle.sata_disk_laws.specs.Calls as call
use Rattle.sata_disk_laws.specs.{Calls.{AreCalls, Answers, Asks, Call, IsCall, after_call, after_calls, ask_steps, asked_by, steps_of}, Laws.reached}
use Rattle.sata_disk_laws.proofs.Door.{calls_after}
use Rattle.sata_disk_books.proofs.Door.{call_after}
use Rattle.sata_disk_media.specs.Settled.{IsAnsweredIn}
use Rattle.sata_disk_media.proofs.{Called.{AllOf, call_are, call_calm, calm_step}, Runs.are_then}

-- ## A discard that is not answered

-- it is out, or was dropped while it was out, and nothing else is asked for beside the queue
abbrev pub IsPending : EngineState → (number : ℕ) → Type 0
IsPending e number = ((is_discard e.kind ≡ true) × (e.stage ≡ stages.Asked number)) ⊎ ((e.dropped ≡ Some number) × (is_asked e.stage ≡ false))

or_true : (a b : Bool) → b ≡ true → (a || b) ≡ true
or_true true b e = refl
or_true false b e = e

or_first : (a b : Bool) → a ≡ true → (a || b) ≡ true
or_first true b e = refl
or_first false b e = absurd (false≢true e)

both : (a b : Bool) → a ≡ true → b ≡ true → (a && b) ≡ true
both true b e f = f
both false b e f = absurd (false≢true e)

-- meanwhile nothing starts
pub pending_discards : (e : EngineState) (number : ℕ) → IsPending e number → discards e ≡ true
pending_discards e number (inl out) =
    or_first (is_discard e.kind && is_asked e.stage) (not (is_none e.dropped)) (both _ _ out.0 (ap is_asked out.1))
pending_discards e number (inr dropped) =
    or_true (is_discard e.kind && is_asked e.stage) (not (is_none e.dropped)) (ap (λ (x : Option ℕ). not (is_none x)) dropped.0)

-- ## One step

abbrev IsOtherStep : (number : ℕ) → Step → Type 0
IsOtherStep number (engine.Answers k a) = k ≢ number
IsOtherStep number s = Unit {0}

asked_idle : (number : ℕ) (st : AsideStage) → st ≡ stages.Asked number → st ≡ stages.Idle → ⊥
asked_idle number st e f = absurd (let g : stages.Asked number ≡ stages.Idle = sym e ∙ f in cc)

first_true : (a b : Bool) → (a && b) ≡ true → a ≡ true
first_true true b e = refl
first_true false b e = absurd (false≢true e)

second_true : (a b : Bool) → (a && b) ≡ true → b ≡ true
second_true true b e = e
second_true false b e = absurd (false≢true e)

-- a number that is none of its own
not_same : (n k : ℕ) → k ≢ n → (n == k) ≡ false
not_same n k apart = by (n == k) refl
  where
    by : (b : Bool) → (n == k) ≡ b → b ≡ false
    by true e = absurd (apart (sym (eqb-true n k e)))
    by false e = refl

asks_none : (st : AsideStage) (k : ℕ) → is_asked st ≡ false → asks_for st k ≡ false
asks_none (stages.Asked n) k e = absurd (false≢true (sym e))
asks_none st k e = refl

beside_is : (b : Bool) → (if b then None else Some NotOut) ≡ None → b ≡ true
beside_is true e = refl
beside_is false e = absurd (cc)

or_other : (a b : Bool) → (a || b) ≡ true → a ≡ false → b ≡ true
or_other true b e f = absurd (false≢true (sym f))
or_other false b e f = e

-- what an answer beside the queue leaves
beside_pends : (e : EngineState) (number k : ℕ) (well b : Bool) → k ≢ number → asks_for e.stage k ≡ b → beside_refusal e k ≡ None → IsPending e number
    → IsPending (if b then record e { stage = settled well } else record e { dropped = None }) number
beside_pends e number k well true apart asks right (inl out) =
    absurd (false≢true (sym (ap (λ (x : AsideStage). asks_for x k) out.1 ∙ not_same number k apart) ∙ asks))
beside_pends e number k well false apart asks right (inl out) = inl out
beside_pends e number k well true apart asks right (inr dropped) = absurd (false≢true (sym (asks_none e.stage k dropped.1) ∙ asks))
beside_pends e number k well false apart asks right (inr dropped) =
    let is = or_other (asks_for e.stage k) (is_number e.dropped k) (beside_is _ right) asks in
    absurd (apart (sym (eqb-true number k (sym (ap (λ (x : Option ℕ). is_number x k) dropped.0) ∙ is))))

answer_pends : (e : EngineState) (x : Option ℕ) (number k : ℕ) (a : Answer) → place_of e k ≡ x → k ≢ number → answer_refusal e k a ≡ None → IsPending e number
    → IsPending (answered e k a) number
answer_pends e None number k (answers.Loaded bytes) is apart right p = subst (λ (x : Option ℕ). IsPending (loaded_at e x k bytes.items) number) (sym is) p
answer_pends e None number k answers.Done is apart right p =
    subst (λ (x : Option ℕ). IsPending (done_at e x k) number) (sym is)
    (beside_pends e number k true (asks_for e.stage k) apart refl (subst (λ (x : Option ℕ). done_refusal e x k ≡ None) is right) p)
answer_pends e None number k (answers.Failed f) is apart right p =
    subst (λ (x : Option ℕ). IsPending (failed_by e x k f) number) (sym is)
    (beside_pends e number k false (asks_for e.stage k) apart refl (subst (λ (x : Option ℕ). fail_refusal e x k f ≡ None) is right) p)
answer_pends e (Some q) number k (answers.Loaded bytes) is apart right p =
    subst (λ (x : Option ℕ). IsPending (loaded_at e x k bytes.items) number) (sym is) p
answer_pends e (Some q) number k answers.Done is apart right p = subst (λ (x : Option ℕ). IsPending (done_at e x k) number) (sym is) p
answer_pends e (Some q) number k (answers.Failed f) is apart right p = subst (λ (x : Option ℕ). IsPending (failed_by e x k f) number) (sym is) p

waits_apart : (number : ℕ) (st : AsideStage) → st ≡ stages.Asked number → is_waiting st ≡ true → ⊥
waits_apart number st e f = false≢true (sym (ap is_waiting e) ∙ f)

over_apart : (number : ℕ) (st : AsideStage) → st ≡ stages.Asked number → is_over st ≡ true → ⊥
over_apart number st e f = false≢true (sym (ap is_over e) ∙ f)

none_apart : (number : ℕ) (x : Option ℕ) → x ≡ Some number → is_none x ≡ true → ⊥
none_apart number x e f = false≢true (sym (ap is_none e) ∙ f)

drops : (k : AsideKind) (st : AsideStage) (was : Option ℕ) (number : ℕ) → is_discard k ≡ true → st ≡ stages.Asked number → dropped_by k st was ≡ Some number
drops kinds.Flush st was number e f = absurd (false≢true e)
drops kinds.Discard st was number e f = ap (λ (x : AsideStage). dropped_by kinds.Discard x was) f

stays : (k : AsideKind) (st : AsideStage) (was : Option ℕ) → is_asked st ≡ false → dropped_by k st was ≡ was
stays kinds.Flush st was e = refl
stays kinds.Discard (stages.Asked n) was e = absurd (false≢true (sym e))
stays kinds.Discard st was e = refl

step_pends : (e : EngineState) (s : Step) (number : ℕ) → IsStep e s → IsOtherStep number s → IsPending e number → IsPending (after_step e s) number
step_pends e (engine.Answers k a) number is other p = answer_pends e (place_of e k) number k a refl other is p
step_pends e (engine.TakesAside k ranges) number is other (inl out) = absurd (asked_idle number e.stage out.1 is)
step_pends e (engine.TakesAside k ranges) number is other (inr dropped) = inr (dropped.0, refl)
step_pends e engine.AsksAside number is other (inl out) = absurd (waits_apart number e.stage out.1 (first_true _ _ (first_true _ _ is)))
step_pends e engine.AsksAside number is other (inr dropped) = absurd (none_apart number e.dropped dropped.0 (second_true _ _ is))
step_pends e engine.SendsAside number is other (inl out) = absurd (over_apart number e.stage out.1 (first_true _ _ is))
step_pends e engine.SendsAside number is other (inr dropped) = inr (dropped.0, refl)
step_pends e engine.Resets number is other (inl out) = inr (drops e.kind e.stage e.dropped number out.0 out.1, refl)
step_pends e engine.Resets number is other (inr dropped) = inr (stays e.kind e.stage e.dropped dropped.1 ∙ dropped.0, refl)
step_pends e (engine.Takes c) number is other p = p
step_pends e (engine.Starts q) number is other p = p
step_pends e (engine.Asks q) number is other p = p
step_pends e (engine.Hears q part) number is other p = p
step_pends e (engine.Sends q) number is other p = p
step_pends e engine.SendsEnds number is other p = p
step_pends e engine.Forgives number is other p = p

-- ## More of them

abbrev AllOther : (number : ℕ) → List Step → Type 0
AllOther number [] = Unit {0}
AllOther number (s ∷ later) = IsOtherStep number s × AllOther number later

steps_pend : (steps : List Step) (e : EngineState) (number : ℕ) → AreSteps e steps → AllOther number steps → IsPending e number
    → IsPending (after_steps e steps) number
unfolding after_steps
steps_pend [] e number are other p = p
steps_pend (s ∷ later) e number are other p = steps_pend later (after_step e s) number are.1 other.1 (step_pends e s number are.0 other.0 p)

calm_other : (number : ℕ) (s : Step) → calm_step s ≡ true → IsOtherStep number s
calm_other number (engine.Answers k a) e = absurd (false≢true e)
calm_other number s e = tt

all_calm : (number : ℕ) (steps : List Step) → AllOf calm_step steps → AllOther number steps
all_calm number [] calm = tt
all_calm number (s ∷ later) calm = (calm_other number s calm.0, all_calm number later calm.1)

asks_other : (number : ℕ) (x : Option ℕ) → AllOther number (ask_steps x)
asks_other number None = (tt, tt)
asks_other number (Some q) = (tt, tt)

abbrev IsOther : (number : ℕ) → Call → Type 0
IsOther number (Answers k a) = k ≢ number
IsOther number c = Unit {0}

call_other : (number : ℕ) (d : DiskState) (c : Call) → IsOther number c → AllOther number (steps_of d c)
call_other number d (Asks r) other = asks_other number r.place
call_other number d (Answers k a) other = (other, tt)
call_other number d call.Plugs other = all_calm number (steps_of d call.Plugs) (call_calm d call.Plugs refl)
call_other number d (call.Hears f) other = all_calm number (steps_of d (call.Hears f)) (call_calm d (call.Hears f) refl)
call_other number d (call.Starts x) other = all_calm number (steps_of d (call.Starts x)) (call_calm d (call.Starts x) refl)
call_other number d (call.Sends o) other = all_calm number (steps_of d (call.Sends o)) (call_calm d (call.Sends o) refl)

call_pends : (d : DiskState) (c : Call) (number : ℕ) → IsCall d c → IsOther number c → IsPending d.engine number → IsPending (after_call d c).engine number
call_pends d c number is other p =
    subst (λ (e : EngineState). IsPending e number) (sym (call_after d c))
    (steps_pend (steps_of d c) d.engine number (call_are d c is) (call_other number d c other) p)

later_answered : (c : Call) (later : List Call) (number : ℕ) → IsAnsweredIn number later → IsAnsweredIn number (c ∷ later)
later_answered c later number it = record { before = c ∷ it.before; answer = it.answer; later = it.later; is = ap (λ (l : List Call). c ∷ l) it.is }

step : (number : ℕ) (d : DiskState) (c : Call) (later : List Call) → IsCall d c → IsPending d.engine number
    → (IsPending (after_call d c).engine number → IsAnsweredIn number later) → IsAnsweredIn number (c ∷ later)
step number d (Answers n a) later is p more = elim (cases_eq n number) [
  | inl same ↦ record { before = []; answer = a; later = later; is = ap (λ (j : ℕ). Answers j a ∷ later) same }
  | inr apart ↦ later_answered (Answers n a) later number (more (call_pends d (Answers n a) number is apart p))
]
step number d (Asks r) later is p more = later_answered (Asks r) later number (more (call_pends d (Asks r) number is tt p))
step number d call.Plugs later is p more = later_answered call.Plugs later number (more (call_pends d call.Plugs number is tt p))
step number d (call.Hears f) later is p more = later_answered (call.Hears f) later number (more (call_pends d (call.Hears f) number is tt p))
step number d (call.Starts x) later is p more = later_answered (call.Starts x) later number (more (call_pends d (call.Starts x) number is tt p))
step number d (call.Sends o) later is p more = later_answered (call.Sends o) later number (more (call_pends d (call.Sends o) number is tt p))

-- where nothing is out behind them, these calls answered it
answered_in : (later : List Call) (number : ℕ) (d : DiskState) → AreCalls d later → IsPending d.engine number
    → (IsPending (after_calls d later).engine number → ⊥) → IsAnsweredIn number later
unfolding after_calls
answered_in [] number d are p over = absurd (over p)
answered_in (c ∷ later) number d are p over = step number d c later are.0 p (λ q. answered_in later number (after_call d c) are.1 q over)

-- ## A discard that is asked for

of_kind : (k : AsideKind) → aside_what k ≡ what.Discard → is_discard k ≡ true
of_kind kinds.Discard e = refl
of_kind kinds.Flush e = absurd (cc)

no_discard : (m : Moment) (t : Turn) → what_of m t ≡ what.Discard → ⊥
no_discard m turn.Load e = cc
no_discard m turn.Store e = cc
no_discard m t e = cc

none_at : (x : Option Moment) → what_at x ≡ what.Discard → ⊥
none_at None e = cc
none_at (Some m) e = no_discard m (turn_of m.stage) e

one_more : (d : DiskState) (c : Call) (later : List Call) → after_calls d (c ∷ later) ≡ after_calls (after_call d c) later
unfolding after_calls
one_more d c later = refl

asked_pends : (d : DiskState) (r : Request) (k : Option ℕ) → r.place ≡ k → r.number ≡ (commands d).queue.next
    → IsAskedOf d.engine (asked_by d.engine k) r k → r.what ≡ what.Discard → IsPending (after_call d (Asks r)).engine r.number
asked_pends d r None at' number is e =
    subst (λ (x : Option ℕ). IsPending (asked_by d.engine x) r.number) (sym at') (inl (of_kind d.engine.kind (sym is.3 ∙ e), ap (λ (n : ℕ). stages.Asked n) (sym number)))
asked_pends d r (Some q) at' number is e = absurd (none_at (command_at (line d.engine) q) (sym is.2 ∙ e))

pub discards_settled : (p : Profile) (limit : ℕ) (calls : List Call) → AreCalls (new_disk p limit) calls
    → ((number : ℕ) → IsPending (reached p limit calls).engine number → ⊥) → (before : List Call) (r : Request) (later : List Call)
    → calls ≡ before ++ Asks r ∷ later → r.what ≡ what.Discard → IsAnsweredIn r.number later
discards_settled p limit calls are over before r later is e =
    let c : Call = Asks r in
    let new : DiskState = new_disk p limit in
    let d : DiskState = reached p limit before in
    let go : AreCalls d (c ∷ later) = are_then before (c ∷ later) new (subst (AreCalls new) is are) in
    let same : reached p limit calls ≡ after_calls (after_call d c) later = ap (reached p limit) is ∙ calls_after before (c ∷ later) new ∙ one_more d c later in
    answered_in later r.number (after_call d c) go.1 (asked_pends d r r.place refl go.0.0 go.0.1 e)
    (λ q. over r.number (subst (λ (z : DiskState). IsPending z.engine r.number) (sym same) q))
