-- While Data are wanted for a device, the slot and the place stay those that the controller said.
use Rattle.std.proofs.Common.{◌≡◌, ℕ, ◌-◌, ◌<◌, ◌^◌, ◌&&◌, Bool, true, false, List, [], ◌∷◌, ◌++◌, refl, sym, ap, subst, ◌∙◌, inl, inr, arith, Option}
use Rattle.std.proofs.{Common.{Some, None, w32}, lemmas.{Bool.{and_parts, eqb-true, false≢true, ltb-true}, Nat.{pow_below, Bits.{bit_at-pow_same}}}}
use Rattle.std.proofs.lemmas.Nat.Bits.{bit_at_and, bit_at_not}
use Rattle.std.specs.{Prelude.{◌==◌, MatchOption, drop, is_some, nat_lt, if◌then◌else◌}, Int.bit_at, Option.option_map}
use Rattle.guest_fetch.specs.{Commands.Fetched, declared.moves.Move.Move}
use Rattle.slots.specs.{Data.payload, Slots.{context_of, has_bit, holds, issue_at, match_some}, Work.{is_dma, is_read}}
use Rattle.hba_fbs.specs.{Bits.without, Choosing.MayChoose, Taking.port_of, Turning.{feeds, orders}, Views.{Port, view_of}, declared.turn.Turn.Turn}
use Rattle.hba_fbs.specs.declared.turn.Turn.TheVariants.{Feeds, Orders, Rests}
use Rattle.hba_laws.specs.{Agreement.IsTold, CoreHistories.FillsFrom, Delivering.is_control_issue, History.{History, is_at, is_set_up, next_number}}
use Rattle.hba_laws.specs.History.{waiting_in}
use Rattle.hba_laws.specs.History as history
use Rattle.ahci_controller.specs.{Fetching.next_number as next_want, Moving.count_of, Next.{FeedsTo, Frames, FramesFor, GoesIf, OrdersSlot, Reads}}
use Rattle.ahci_controller.specs.Next.{RestsNow, Turns, TurnsIf, count_next, counted_slot, feed_next, is_fed, is_halted, next_device, next_read}
use Rattle.ahci_controller.specs.{Next.{next_slot, next_write, order_next, rest, run_of, step_of, step_with, written}, States.{ControllerState, kept}}
use Rattle.ahci_controller.specs.declared.{latch.Edge.Edge, next.Next.Next, wants.Carried.Carried}
use Rattle.ahci_controller.specs.declared.feeding.Fed.TheVariants as fed_answer
use Rattle.ahci_controller.specs.declared.next.Next.TheVariants as next
use Rattle.controller_laws.specs.{CoreEvents.{AreCoreEvents, of_all}, Events.{Does, Event, IsController, Runs}}
use Rattle.controller_laws.specs.Events as call
use Rattle.ahci_machine.specs.declared.gathering.Feed.{Feed}
use Rattle.machine_laws.proofs.Wants.{due_stays, fed_low, gather_stays, miss_stays, not_there_stays, supply_stays, take_stays, turned, unmoved}
use Rattle.machine_laws.proofs.Wants.{write_stays, written_stays}
use Rattle.machine_laws.specs.Controllers.{AreDue, IsLength, is_feed_to}
use Rattle.machine_theorem.proofs.{CallSteps.{AreIdle, Idly, IsStep, Ordered, Stepped, stepped}, FedCalls.{Sends, sends}, SetupCalls.Laws}
use Rattle.machine_theorem.proofs.SetupCalls.{first_kept}

-- ---- what is wanted

abbrev pub due_to : ControllerState → ℕ → Bool
due_to c dev = is_some (payload (context_of c.core.slots dev))

-- what is set up is for this slot, and the next byte has this number
abbrev pub IsOne : (slot offset : ℕ) → History → Type 0
IsOne slot offset past = (s : ℕ) → is_set_up s past ≡ true → (s ≡ slot) × (next_number past ≡ offset)

pub record OneUp (dev : ℕ) (port : Port) (slot offset : ℕ) : Type 0 where
  pub past : History
  pub told : IsTold (view_of dev port) past
  pub one : IsOne slot offset past

abbrev pub Holds : ControllerState → (dev : ℕ) → Feed → Type 0
Holds c dev f = is_fed c.wants dev f.number ≡ true → due_to c dev ≡ true → OneUp dev c.core f.slot f.offset

abbrev pub IsMachineCall : (dev : ℕ) → Event → Type 0
IsMachineCall dev (call.Wrote offset value written) = ⊥
IsMachineCall dev (call.Turned said) = is_feed_to dev said ≡ false
IsMachineCall dev e = Unit {0}

pub event_keeps : (p n count : ℕ) (e : Event) (old new : ControllerState) → IsMachineCall p e → Does old e new → AreDue old p n count → AreDue new p n count
event_keeps p n count (call.Wrote offset value written) old new is does = absurd is
event_keeps p n count (call.WroteWide offset width value written) old new is does = due_stays p n count old new (write_stays offset width value p n old new written does)
event_keeps p n count (call.Supplied slot number bytes supply) old new is does = due_stays p n count old new (supply_stays slot number bytes p n old new supply does)
event_keeps p n count (call.Missed slot number supply) old new is does = due_stays p n count old new (miss_stays slot number p n old new supply does)
event_keeps p n count (call.Took frame took) old new is does = due_stays p n count old new (take_stays frame took p n old new does.hears)
event_keeps p n count (call.Left frame why) old new is does = due_stays p n count old new (unmoved p n old new does.1)
event_keeps p n count (call.Turned said) old new is does = (turned old new said does).keeps p n count is
event_keeps p n count (call.Said write) old new is does = due_stays p n count old new (written_stays p n old new does.1)
event_keeps p n count (call.Gathered dev number frame fed) old new is does = due_stays p n count old new (gather_stays dev number p n old new fed does.1)
event_keeps p n count (call.NotThere dev number fed) old new is does = due_stays p n count old new (not_there_stays dev number p n old new fed does)

-- as many bytes stay due as were, so bytes are wanted and due that were before
no_lengths : (p : ℕ) (o : Option (ℕ × ℕ × ℕ)) → is_some o ≡ true → IsLength (match_some o Rests (feeds p)) 0 → IsLength (match_some o Rests (feeds p)) 1 → ⊥
no_lengths p None some zero one = false≢true some
no_lengths p (Some x) some zero one = omega (arith, zero, one)

pub due_case : (p n : ℕ) (old new : ControllerState) (was : Bool) (o : Option (ℕ × ℕ × ℕ)) → is_fed old.wants p n ≡ was → payload (context_of old.core.slots p) ≡ o
    → ((count : ℕ) → AreDue old p n count → AreDue new p n count) → is_fed new.wants p n ≡ true → due_to new p ≡ true → (is_fed old.wants p n ≡ true) × (due_to old p ≡ true)
due_case p n old new false o not here keeps fed due =
    absurd (no_lengths p (payload (context_of new.core.slots p)) due (keeps 0 (λ h. absurd (false≢true (sym not ∙ h))) fed) (keeps 1 (λ h. absurd (false≢true (sym not ∙ h))) fed))
due_case p n old new true None yes_fed here keeps fed due =
    absurd (no_lengths p (payload (context_of new.core.slots p)) due
    (keeps 0 (λ h. subst (λ (q : Option (ℕ × ℕ × ℕ)). IsLength (match_some q Rests (feeds p)) 0) (sym here) tt) fed)
    (keeps 1 (λ h. subst (λ (q : Option (ℕ × ℕ × ℕ)). IsLength (match_some q Rests (feeds p)) 1) (sym here) tt) fed))
due_case p n old new true (Some x) yes_fed here keeps fed due = (yes_fed, ap is_some here)

-- ---- what answers a want

taken_bit : (x k : ℕ) → k < 32 → has_bit (without x (2 ^ k)) k ≡ true → ⊥
taken_bit x k below h =
    let one = eqb-true (bit_at (without x (2 ^ k)) k) 1 h in
    let both = bit_at_and x (4294967295 - 2 ^ k) k in
    let turned' = bit_at_not w32 (2 ^ k) k (pow_below k 32 below) below in
    let same = bit_at-pow_same k in
    let turned_here : bit_at (4294967295 - 2 ^ k) k ≡ 1 - bit_at (2 ^ k) k = turned' in
    omega (arith, one, both, turned_here, same)

fed_bit : (c : ControllerState) (p n : ℕ) → is_fed c.wants p n ≡ true → has_bit c.wants.feeding p ≡ true
fed_bit c p n h = (and_parts (nat_lt p 16) (has_bit c.wants.feeding p) (and_parts (nat_lt p 16 && has_bit c.wants.feeding p) _ h).0).1

not_fed : (old new : ControllerState) (p n : ℕ) → p < 16 → new.wants.feeding ≡ without old.wants.feeding (2 ^ p) → is_fed new.wants p n ≡ true → ⊥
not_fed old new p n low is fed = taken_bit old.wants.feeding p (omega (arith, low)) (ap (λ (m : ℕ). has_bit m p) (sym is) ∙ fed_bit new p n fed)

-- ---- what is set up stays so

if_not : (b x : Bool) → (if b then false else x) ≡ true → x ≡ true
if_not true x e = absurd (false≢true e)
if_not false x e = e

one_idle : (slot offset : ℕ) (h past : History) → AreIdle h → IsOne slot offset past → IsOne slot offset (h ++ past)
one_idle slot offset [] past idle one = one
one_idle slot offset (history.Issued k t ∷ h) past idle one = λ s up. one_idle slot offset h past idle.1 one s (if_not (k == s) (is_set_up s (h ++ past)) up)
one_idle slot offset (history.Emptied ∷ h) past idle one = λ s up. one_idle slot offset h past idle.1 one s up
one_idle slot offset (e ∷ h) past idle one = absurd idle.0

one_sent : (slot offset k len : ℕ) (reads dma control : Bool) (past : History) → dma ≡ false → IsOne slot offset past
    → IsOne slot offset (((if dma then history.SetUp k 0 len reads ∷ [] else []) ++ (if control then history.SentControl k else history.Sent k) ∷ []) ++ past)
one_sent slot offset k len reads true control past e one = absurd (cc)
one_sent slot offset k len reads false true past e one = λ s up. one s up
one_sent slot offset k len reads false false past e one = λ s up. one s up

module _ (laws : Laws) (p : ℕ) (low : p < 16) (slot offset : ℕ) where
  same_kept : (new : Port) (past now : History) → IsTold (view_of p new) now → now ≡ past → IsOne slot offset past → OneUp p new slot offset
  same_kept new past now told same one = record { past = now; told = told; one = subst (IsOne slot offset) (sym same) one }

  idle_kept : (new : Port) (past now : History) → IsTold (view_of p new) now → Idly past now → IsOne slot offset past → OneUp p new slot offset
  idle_kept new past now told idle one =
      record { past = now; told = told; one = subst (IsOne slot offset) (sym idle.is) (one_idle slot offset idle.events past idle.idle one) }

  order_kept : (old new : ControllerState) (k : ℕ) (past now : History) → IsTold (view_of p new.core) now → Ordered p old new.core k past now → due_to new p ≡ true
      → IsOne slot offset past → OneUp p new.core slot offset
  order_kept old new k past now told o due one = record {
    past = now;
    told = told;
    one = subst (IsOne slot offset) (sym o.is) (by (is_dma o.issue.work.kind) refl);
  }
    where
      by : (b : Bool) → is_dma o.issue.work.kind ≡ b
          → IsOne slot offset (((if is_dma o.issue.work.kind then history.SetUp k 0 o.issue.work.len (is_read o.issue.work.kind) ∷ [] else [])
          ++ (if holds is_control_issue (issue_at old.core.slots k) then history.SentControl k else history.Sent k) ∷ []) ++ past)
      by true dma = absurd (false≢true (sym (ap is_some (o.fresh dma)) ∙ due))
      by false dma =
          one_sent slot offset k o.issue.work.len (is_read o.issue.work.kind) (is_dma o.issue.work.kind) (holds is_control_issue (issue_at old.core.slots k)) past dma one

  goes_kept : (old new : ControllerState) (dev number : ℕ) (frame : List ℕ) (message : Bool) (line : Edge) (does : Does old (call.Gathered dev number frame (fed_answer.Goes message line)) new)
      → (n : ℕ) → is_fed new.wants p n ≡ true → (own : Bool) → (dev == p) ≡ own → (past now : History) → IsTold (view_of p new.core) now
      → now ≡ (if own then history.Carried (drop 4 frame) ∷ [] else []) ++ past → IsOne slot offset past → OneUp p new.core slot offset
  goes_kept old new dev number frame message line does n fed true own past now told is one =
      let s : Sends old new dev message line = sends (is_fed old.wants dev number) old new dev message line does.1 in
      absurd (not_fed old new p n low (ap (λ (c : ControllerState). c.wants.feeding) s.sends.rest ∙ ap (λ (j : ℕ). without old.wants.feeding (2 ^ j)) (eqb-true dev p own)) fed)
  goes_kept old new dev number frame message line does n fed false own past now told is one = same_kept new.core past now told is one

  step_kept : (e : Event) (old new : ControllerState) (does : Does old e new) → (n : ℕ) → is_fed new.wants p n ≡ true → due_to new p ≡ true → (past now : History)
      → IsTold (view_of p new.core) now → IsStep p e old new.core past now → IsOne slot offset past → OneUp p new.core slot offset
  step_kept (call.Took frame took) old new does n fed due past now told (inl same) one = same_kept new.core past now told same one
  step_kept (call.Took frame took) old new does n fed due past now told (inr heard) one =
      absurd (not_fed old new p n low (ap (λ (c : ControllerState). c.wants.feeding) does.hears.rest ∙ ap (λ (j : ℕ). without old.wants.feeding (2 ^ j)) (eqb-true (port_of frame) p heard.own)) fed)
  step_kept (call.Turned (next.Order to k fis)) old new does n fed due past now told (inl idle) one = idle_kept new.core past now told idle one
  step_kept (call.Turned (next.Order to k fis)) old new does n fed due past now told (inr o) one = order_kept old new k past now told o due one
  step_kept (call.Turned other) old new does n fed due past now told step one = idle_kept new.core past now told step one
  step_kept (call.Gathered dev number frame (fed_answer.Goes message line)) old new does n fed due past now told step one =
      goes_kept old new dev number frame message line does n fed (dev == p) refl past now told step one
  step_kept (call.Gathered dev number frame other) old new does n fed due past now told step one = idle_kept new.core past now told step one
  step_kept (call.Wrote offset' value written') old new does n fed due past now told step one = idle_kept new.core past now told step one
  step_kept (call.WroteWide offset' width value written') old new does n fed due past now told step one = idle_kept new.core past now told step one
  step_kept (call.Supplied k number bytes supply) old new does n fed due past now told step one = idle_kept new.core past now told step one
  step_kept (call.Missed k number supply) old new does n fed due past now told step one = idle_kept new.core past now told step one
  step_kept (call.Left frame why) old new does n fed due past now told step one = idle_kept new.core past now told step one
  step_kept (call.Said write) old new does n fed due past now told step one = idle_kept new.core past now told step one
  step_kept (call.NotThere dev number fed') old new does n fed due past now told step one = idle_kept new.core past now told step one

  event_kept : (e : Event) (old new : ControllerState) (does : Does old e new) → IsController old → IsController new → (n : ℕ) → is_fed new.wants p n ≡ true → due_to new p ≡ true
      → OneUp p old.core slot offset → OneUp p new.core slot offset
  event_kept e old new does k l n fed due was =
      let s : Stepped p e old new was.past = stepped (record { events = laws.events; views = laws.views }) p low e old new k l does was.past was.told in
      step_kept e old new does n fed due was.past s.now s.told s.step was.one

module _ (laws : Laws) (p : ℕ) (low : p < 16) where
  pub event_holds : (e : Event) (old new : ControllerState) → IsMachineCall p e → (does : Does old e new) → IsController old → IsController new → (f : Feed) → Holds old p f → Holds new p f
  event_holds e old new is does k l f was fed due =
      let both = due_case p f.number old new (is_fed old.wants p f.number) (payload (context_of old.core.slots p)) refl refl (λ count. event_keeps p f.number count e old new is does) fed due in
      event_kept laws p low f.slot f.offset e old new does k l f.number fed due (was both.0 both.1)

abbrev pub AreMachineCalls : (dev : ℕ) → List Event → Type 0
AreMachineCalls dev [] = Unit {0}
AreMachineCalls dev (e ∷ later) = IsMachineCall dev e × AreMachineCalls dev later

pub calls_hold : Laws → (p : ℕ) (events : List Event) (old new : ControllerState) → AreMachineCalls p events → (run : Runs old events new) → (f : Feed) → Holds old p f → Holds new p f
calls_hold laws p [] old new are run f was = subst (λ (c : ControllerState). Holds c p f) (sym run.1) was
calls_hold laws p (e ∷ later) old new are run f was =
    calls_hold laws p later run.1.0 new are.1 run.1.2 f
    (λ fed due. event_holds laws p (ltb-true p 16 (fed_low p run.1.0.wants f.number fed)) e old run.1.0 are.0 run.1.1 run.0 (first_kept later run.1.0 new run.1.2) f was fed due)

-- ---- what the controller says

-- nothing goes by it, and these bytes may
pub record SaysFeed (old : ControllerState) (p slot offset len : ℕ) (new : ControllerState) : Type 0 where
  pub core : new.core ≡ old.core
  pub may : MayChoose old.core (Feeds p slot offset len)

abbrev MayOf : Port → Next → Type 0
MayOf port (next.Feed dev number slot offset len) = MayChoose port (Feeds dev slot offset len)
MayOf port other = Unit {0}

abbrev is_feed : Next → Bool
is_feed (next.Feed dev number slot offset len) = true
is_feed other = false

no_feed : (said other : Next) (P : Type 0) → said ≡ other → is_feed other ≡ false → is_feed said ≡ true → P
no_feed said other P same not is = absurd (false≢true (sym (ap is_feed same ∙ not) ∙ is))

said_may : (port : Port) (dev n : ℕ) (o : Option (ℕ × ℕ × ℕ)) (said : Next) → said ≡ feed_next dev n (match_some o Rests (feeds dev)) → MayChoose port (match_some o Rests (feeds dev)) → MayOf port said
said_may port dev n None said is may = subst (MayOf port) (sym is) tt
said_may port dev n (Some x) said is may = subst (MayOf port) (sym is) may

order_no : (slot : ℕ) (t : Turn) → is_feed (order_next slot t) ≡ false
order_no slot Rests = refl
order_no slot (Feeds to of offset len) = refl
order_no slot (Orders to of command) = refl

module _ (p number slot offset len : ℕ) where
  abbrev Said : Next
  Said = next.Feed p number slot offset len

  rests_say : (base new : ControllerState) → RestsNow base Said new → SaysFeed base p slot offset len new
  rests_say base new h = no_feed Said next.Nothing _ h.1 refl refl

  feeds_say : (dev : ℕ) (base new : ControllerState) → FeedsTo base dev Said new → SaysFeed base p slot offset len new
  feeds_say dev base new h = record {
    core = ap (λ (c : ControllerState). c.core) h.rest;
    may = said_may base.core dev (next_want base.wants) (payload (context_of base.core.slots dev)) Said h.is h.may;
  }

  orders_say : (s : ℕ) (base new : ControllerState) → OrdersSlot base s Said new → SaysFeed base p slot offset len new
  orders_say s base new h = no_feed Said (order_next s (orders base.core s)) _ h.is (order_no s (orders base.core s)) refl

  frames_say : (dev s : Option ℕ) (alternates : Bool) (base new : ControllerState) → FramesFor dev s alternates base Said new → SaysFeed base p slot offset len new
  frames_say None None alternates base new h = rests_say base new h
  frames_say None (Some s) alternates base new h = orders_say s base new h
  frames_say (Some dev) None alternates base new h = feeds_say dev base new h
  frames_say (Some dev) (Some s) false base new h = feeds_say dev base new h
  frames_say (Some dev) (Some s) true base new h = orders_say s base new h

  read_say : (s : ℕ) (base new : ControllerState) → Reads base s Said new → SaysFeed base p slot offset len new
  read_say s base new h = no_feed Said (next.Read _) _ h.0 refl refl

  reads_say : (o : Option ℕ) (base new : ControllerState) → MatchOption o (Frames base Said new) (λ s. Reads base s Said new) → SaysFeed base p slot offset len new
  reads_say None base new h = frames_say (next_device base) (next_slot base) base.circle.fed base new h
  reads_say (Some s) base new h = read_say s base new h

  started_say : (o : Option ℕ) (base new : ControllerState) (P : Type 0) → MatchOption o (RestsNow base Said new) (λ s. Reads base s Said new) → P
  started_say None base new P h = no_feed Said next.Nothing P h.1 refl refl
  started_say (Some s) base new P h = no_feed Said (next.Read _) P h.0 refl refl

  goes_say : (started : Bool) (base new : ControllerState) → GoesIf started base Said new → SaysFeed base p slot offset len new
  goes_say true base new h = reads_say (next_read base) base new h
  goes_say false base new h = started_say (next_read h.middle) h.middle new _ h.reads

  halted_say : (halted : Bool) (base new : ControllerState) → TurnsIf halted base Said new → SaysFeed base p slot offset len new
  halted_say true base new h = rests_say base new h
  halted_say false base new h = goes_say base.core.registers.started base new h

  -- what is written to the guest is none
  count_no : (o : Option Fetched) → option_map (λ command. next.Counted (count_of command)) o ≡ Some Said → ⊥
  count_no None e = cc
  count_no (Some command) e = cc

  rest_no : (d : ControllerState) (posted : Option Move) (counted : Option ℕ) → match_some posted (match_some counted None (count_next d)) (λ m. Some (next.Posted m)) ≡ Some Said → ⊥
  rest_no d (Some m) counted e = cc
  rest_no d None (Some s) e = count_no (kept d s) e
  rest_no d None None e = cc

  run_no : (d : ControllerState) (w : Carried) (o : Option Move) → match_some (option_map (step_with w) o) (rest d) (λ s. Some (next.Payload s.write)) ≡ Some Said → ⊥
  run_no d w None e = rest_no d d.writes.posted (counted_slot d.writes) e
  run_no d w (Some m) e = cc

  write_no : (d : ControllerState) (q : Option Carried) → match_some (match_some q None (step_of d)) (rest d) (λ s. Some (next.Payload s.write)) ≡ Some Said → ⊥
  write_no d None e = rest_no d d.writes.posted (counted_slot d.writes) e
  write_no d (Some w) e = run_no d w (run_of d w) e

  turned_say : (o : Option Next) (old new : ControllerState) → next_write old ≡ o
      → MatchOption o (TurnsIf (is_halted (written old)) (written old) Said new) (λ write. (Said ≡ write) × (new ≡ written old)) → SaysFeed old p slot offset len new
  turned_say None old new is h = let s = halted_say (is_halted (written old)) (written old) new h in record { core = s.core; may = s.may }
  turned_say (Some write) old new is h = absurd (write_no old old.writes.payload (is ∙ ap (λ (n : Next). Some n) (sym h.0)))

pub says_feed : (p number slot offset len : ℕ) (old new : ControllerState) → Turns old (next.Feed p number slot offset len) new → SaysFeed old p slot offset len new
says_feed p number slot offset len old new h = turned_say p number slot offset len (next_write old) old new refl h

-- ---- one slot is set up

both_at : (s r : ℕ) (o : Option ℕ) → is_at s o ≡ true → is_at r o ≡ true → s ≡ r
both_at s r None one two = absurd (false≢true one)
both_at s r (Some k) one two = sym (eqb-true k s one) ∙ eqb-true k r two

one_up : (s r : ℕ) (past : History) → is_set_up s past ≡ true → is_set_up r past ≡ true → s ≡ r
one_up s r [] one two = absurd (false≢true one)
one_up s r (history.Issued slot t ∷ past) one two = one_up s r past (if_not (slot == s) _ one) (if_not (slot == r) _ two)
one_up s r (history.SetUp tag offset count to_host ∷ past) one two = sym (eqb-true tag s one) ∙ eqb-true tag r two
one_up s r (history.PioSetUp count to_host ends ∷ past) one two = both_at s r (waiting_in past) one two
one_up s r (history.Sent slot ∷ past) one two = one_up s r past one two
one_up s r (history.SentControl slot ∷ past) one two = one_up s r past one two
one_up s r (history.Carried bytes ∷ past) one two = one_up s r past one two
one_up s r (history.Answered ∷ past) one two = one_up s r past one two
one_up s r (history.Named mask ∷ past) one two = one_up s r past one two
one_up s r (history.Emptied ∷ past) one two = one_up s r past one two

filled_one : (slot offset len : ℕ) (past : History) → FillsFrom slot offset len past → IsOne slot offset past
filled_one slot offset len past fills s up = (one_up s slot past up fills.is_up, fills.from)

-- ---- each device has a history

pub record HasTold (p : ℕ) (port : Port) : Type 0 where
  pub past : History
  pub told : IsTold (view_of p port) past

pub told_on : Laws → (p : ℕ) → p < 16 → (events : List Event) (old new : ControllerState) → Runs old events new → HasTold p old.core → HasTold p new.core
told_on laws p low events old new run was =
    let are : AreCoreEvents old.core (of_all old events new run) new.core = laws.events old new events run in
    record { past = _; told = laws.views p low old.core new.core (of_all old events new run) are.run are.sound was.past was.told }

pub said_holds : Laws → (p number slot offset len : ℕ) → p < 16 → (old new : ControllerState) → IsController old → Turns old (next.Feed p number slot offset len) new → HasTold p old.core
    → Holds new p (record { dev = p; number = number; slot = slot; offset = offset; len = len })
said_holds laws p number slot offset len low old new k turns was fed due =
    let s : SaysFeed old p slot offset len new = says_feed p number slot offset len old new turns in
    let fills : FillsFrom slot offset len was.past =
    laws.chosen old.core old.core [] refl (record { cores = record { port = k.port; slots = k.slots }; frames = tt }) p slot offset len was.past s.may was.told in
    subst (λ (c : Port). OneUp p c slot offset) (sym s.core) (record { past = was.past; told = was.told; one = filled_one slot offset len was.past fills })
