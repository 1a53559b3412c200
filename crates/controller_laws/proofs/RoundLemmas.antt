-- A command that may go waits for at most 31 others, over a run.
use Rattle.std.proofs.Common.{◌≡◌, ◌≢◌, ℕ, ◌+◌, ◌<◌, ◌≤◌, Bool, true, false, List, [], ◌∷◌, length, refl, sym, ap, subst, ◌∙◌, arith, Option, Some}
use Rattle.std.proofs.{Common.None, lemmas.Bool.{and_parts, false≢true}}
use Rattle.std.specs.{Prelude.{MatchOption, if◌then◌else◌}, Option.option_map}
use Rattle.slots.specs.Slots.{Issue, has_bit, holds, issue_at, lowest_below, match_some}
use Rattle.slots.proofs.Door.{has_bit_mask, lowest_is}
use Rattle.guest_fetch.specs.{Commands.Fetched, declared.{fetch.Supplied.Supplied, moves.Move.Move}}
use Rattle.guest_fetch.specs.declared.fetch.Supplied.TheVariants as came_as
use Rattle.hba_commands.specs.declared.command.Command.{Command}
use Rattle.hba_fbs.specs.{Choosing.{due_slots, is_free, may_feed, may_order}, Taking.is_running, Turning.orders, Views.{HaveCommands, Port}}
use Rattle.hba_fbs.specs.{Views.last_command, declared.turn.Turn.{Turn, TheVariants.{Feeds, Orders, Rests}}}
use Rattle.ahci_controller.specs.{Access.fits as fits_width, Circle.{first_behind, is_behind}, Fairness.{AllHave, OthersOnly, SlotsComeRound}}
use Rattle.ahci_controller.specs.{Feeding.{GathersIf, Loses, LosesIf, MissesIf as MissesDataIf, SendsIf, without_feeding}, Fetching.GoesOn}
use Rattle.ahci_controller.specs.{Fetching.{MissesIf, SuppliesIf, answered, fits, is_asked, without_fetch}, Issuing.{PlacesSlot, RefusesSlot}}
use Rattle.ahci_controller.specs.{Issuing.not_issued, Moving.count_of, Next.{Frames, FramesFor, GoesIf, OrdersSlot, Reads, RestsNow, TurnsIf}}
use Rattle.ahci_controller.specs.Next.{count_next, counted_slot, feed_next, is_fed, is_halted, next_device, next_read, next_slot, next_write}
use Rattle.ahci_controller.specs.{Next.{order_next, rest, run_of, step_of, step_with, turn_to, written}, States.{ControllerState, kept}}
use Rattle.ahci_controller.specs.{Wants.dropped, Wide.WritesFitting, declared.{access.Width.Width, circle.Circle.Circle, feeding.Fed.Fed}}
use Rattle.ahci_controller.specs.declared.{issuing.{NotTaken.NotTaken, Supply.Supply}, next.Next.Next, wants.Carried.Carried}
use Rattle.ahci_controller.specs.declared.wide.WideWritten.{WideWritten}
use Rattle.ahci_controller.specs.Own as own_words
use Rattle.ahci_controller.specs.declared.next.Next.TheVariants as next_step
use Rattle.controller_laws.specs.Events as event
use Rattle.controller_laws.specs.{Events.{Does, Event, IsController, Runs}, Rounds.{CommandsComeRound, IsPassed, Waits, goes, orders_in}}
use Rattle.controller_laws.proofs.TouchLemmas.{Touches, part_touches, write_touches, Touches.{Drops, Keeps}}

-- ---- the slot that has its turn

found : (mask last slot : ℕ) (o : Option ℕ) → lowest_below (λ step. has_bit mask (is_behind 32 last step)) 32 ≡ o → option_map (is_behind 32 last) o ≡ Some slot → (has_bit mask slot ≡ true) × (slot < 32)
found mask last slot None is h = cc
found mask last slot (Some step) is h =
    let there : is_behind 32 last step ≡ slot = ap (λ (o : Option ℕ). match_some o 0 (λ n. n)) h in
    (ap (has_bit mask) (sym there) ∙ (lowest_is (λ s. has_bit mask (is_behind 32 last s)) 32 step is).passes, omega (arith, there))

-- it has its command
has_command : (p : Port) (slot : ℕ) → HaveCommands p.slots p.commands → may_order p slot ≡ true → orders p slot ≡ Rests → ⊥
has_command p slot have may rests = by (issue_at p.slots slot) (last_command p.commands slot) (and_parts (is_running p) (holds (is_free p) (issue_at p.slots slot)) may).1 (have slot) rests
  where
    none : (i : Issue) → Some i ≡ None → ⊥
    none i e = cc

    goes_out : (dev : ℕ) (command : Command) → Orders dev slot command ≡ Rests → ⊥
    goes_out dev command e = cc

    by : (o : Option Issue) (c : Option Command) → holds (is_free p) o ≡ true → (c ≡ None → o ≡ None) → match_some o Rests (λ issue. match_some c Rests (Orders issue.dev slot)) ≡ Rests → ⊥
    by None c free h r = false≢true free
    by (Some i) None free h r = none i (h refl)
    by (Some i) (Some command) free h r = goes_out i.dev command r

no_feeds : (slot dev s offset len : ℕ) (o : Option Issue) (q : Option Command) → match_some o Rests (λ issue. match_some q Rests (Orders issue.dev slot)) ≡ Feeds dev s offset len → ⊥
no_feeds slot dev s offset len None q h = cc
no_feeds slot dev s offset len (Some issue) None h = cc
no_feeds slot dev s offset len (Some issue) (Some command) h = cc

-- a command goes: its slot is the next one in the circle, and the last one behind it; else nothing of the circle of slots changes
abbrev IsRound : ControllerState → Next → ControllerState → Type 0
IsRound old (next_step.Order dev slot fis) new = (first_behind 32 (due_slots old.core) old.circle.slot ≡ Some slot) × (new.circle.slot ≡ slot)
IsRound old next new = new.circle.slot ≡ old.circle.slot

abbrev IsNoOrder : Next → Type 0
IsNoOrder (next_step.Order dev slot fis) = ⊥
IsNoOrder next = Unit {0}

no_order : (old new : ControllerState) (next : Next) → IsNoOrder next → new.circle.slot ≡ old.circle.slot → IsRound old next new
no_order old new (next_step.Order dev slot fis) is same = absurd is
no_order old new other is same = same

as_order : (old new : ControllerState) (next other : Next) → next ≡ other → IsRound old other new → IsRound old next new
as_order old new next other is round = subst (λ (n : Next). IsRound old n new) (sym is) round

-- ---- what is next

ordered : (turn : Turn) (slot : ℕ) (base new : ControllerState) (next : Next) → orders base.core slot ≡ turn → HaveCommands base.core.slots base.core.commands → next_slot base ≡ Some slot → next ≡ order_next slot turn → new.circle.slot ≡ slot → IsRound base next new
ordered Rests slot base new next is have at told circle =
    let here = found (due_slots base.core) base.circle.slot slot (lowest_below (λ step. has_bit (due_slots base.core) (is_behind 32 base.circle.slot step)) 32) refl at in
    absurd (has_command base.core slot have (sym (has_bit_mask (may_order base.core) slot here.1) ∙ here.0) is)
ordered (Feeds dev s offset len) slot base new next is have at told circle = absurd (no_feeds slot dev s offset len (issue_at base.core.slots slot) (last_command base.core.commands slot) is)
ordered (Orders dev s command) slot base new next is have at told circle = as_order base new next (next_step.Order dev slot command.cfis) told (at, circle)

orders_round : (slot : ℕ) (base new : ControllerState) (next : Next) → HaveCommands base.core.slots base.core.commands → next_slot base ≡ Some slot → OrdersSlot base slot next new → IsRound base next new
orders_round slot base new next have at h = ordered (orders base.core slot) slot base new next refl have at h.is (ap (λ (c : ControllerState). c.circle.slot) h.rest)

fed_round : (turn : Turn) (dev number : ℕ) (base new : ControllerState) (next : Next) → next ≡ feed_next dev number turn → new.circle.slot ≡ base.circle.slot → IsRound base next new
fed_round (Feeds to slot offset len) dev number base new next is same = as_order base new next (next_step.Feed dev number slot offset len) is same
fed_round other dev number base new next is same = as_order base new next next_step.Nothing is same

frames : (dev slot : Option ℕ) (alternates : Bool) (base new : ControllerState) (next : Next) → HaveCommands base.core.slots base.core.commands → next_slot base ≡ slot → FramesFor dev slot alternates base next new → IsRound base next new
frames None None alternates base new next have at h = as_order base new next next_step.Nothing h.1 (ap (λ (c : ControllerState). c.circle.slot) h.0)
frames None (Some slot) alternates base new next have at h = orders_round slot base new next have at h
frames (Some dev) None alternates base new next have at h = fed_round (turn_to base dev) dev _ base new next h.is (ap (λ (c : ControllerState). c.circle.slot) h.rest)
frames (Some dev) (Some slot) false base new next have at h = fed_round (turn_to base dev) dev _ base new next h.is (ap (λ (c : ControllerState). c.circle.slot) h.rest)
frames (Some dev) (Some slot) true base new next have at h = orders_round slot base new next have at h

reads : (o : Option ℕ) (base new : ControllerState) (next : Next) → HaveCommands base.core.slots base.core.commands → MatchOption o (Frames base next new) (λ slot. Reads base slot next new) → IsRound base next new
reads None base new next have h = frames (next_device base) (next_slot base) base.circle.fed base new next have refl h
reads (Some slot) base new next have h = as_order base new next (next_step.Read _) h.0 (ap (λ (c : ControllerState). c.circle.slot) h.1)

rests : (o : Option ℕ) (old middle new : ControllerState) (next : Next) → middle.circle.slot ≡ old.circle.slot → MatchOption o (RestsNow middle next new) (λ slot. Reads middle slot next new) → IsRound old next new
rests None old middle new next same h = as_order old new next next_step.Nothing h.1 (ap (λ (c : ControllerState). c.circle.slot) h.0 ∙ same)
rests (Some slot) old middle new next same h = as_order old new next (next_step.Read _) h.0 (ap (λ (c : ControllerState). c.circle.slot) h.1 ∙ same)

fallen : (fall : Bool) (c : ControllerState) → (if fall then dropped c else c).circle.slot ≡ c.circle.slot
fallen true c = refl
fallen false c = refl

runs : (started : Bool) (base new : ControllerState) (next : Next) → HaveCommands base.core.slots base.core.commands → GoesIf started base next new → IsRound base next new
runs true base new next have h = reads (next_read base) base new next have h
runs false base new next have h =
    rests (next_read h.middle) base h.middle new next (ap (λ (c : ControllerState). c.circle.slot) h.starts.rest ∙ fallen (own_words.falls base.own base.own base.core.registers h.middle.core.registers) base) h.reads

turns_if : (halted : Bool) (base new : ControllerState) (next : Next) → HaveCommands base.core.slots base.core.commands → TurnsIf halted base next new → IsRound base next new
turns_if true base new next have h = as_order base new next next_step.Nothing h.1 (ap (λ (c : ControllerState). c.circle.slot) h.0)
turns_if false base new next have h = runs base.core.registers.started base new next have h

-- what is written to the guest is no command
counted_write : (o : Option Fetched) (write : Next) → option_map (λ command. next_step.Counted (count_of command)) o ≡ Some write → IsNoOrder write
counted_write (Some command) write h = subst (λ (o : Option Next). MatchOption o (Unit {0}) IsNoOrder) h tt
counted_write None write h = cc

rest_write : (c : ControllerState) (posted : Option Move) (counted : Option ℕ) (write : Next) → match_some posted (match_some counted None (count_next c)) (λ m. Some (next_step.Posted m)) ≡ Some write → IsNoOrder write
rest_write c (Some m) counted write h = subst (λ (o : Option Next). MatchOption o (Unit {0}) IsNoOrder) h tt
rest_write c None (Some slot) write h = counted_write (kept c slot) write h
rest_write c None None write h = cc

run_write : (c : ControllerState) (w : Carried) (run : Option Move) (write : Next) → match_some (option_map (step_with w) run) (rest c) (λ s. Some (next_step.Payload s.write)) ≡ Some write → IsNoOrder write
run_write c w None write h = rest_write c c.writes.posted (counted_slot c.writes) write h
run_write c w (Some m) write h = subst (λ (o : Option Next). MatchOption o (Unit {0}) IsNoOrder) h tt

any_write : (c : ControllerState) (p : Option Carried) (write : Next) → match_some (match_some p None (step_of c)) (rest c) (λ s. Some (next_step.Payload s.write)) ≡ Some write → IsNoOrder write
any_write c None write h = rest_write c c.writes.posted (counted_slot c.writes) write h
any_write c (Some w) write h = run_write c w (run_of c w) write h

turns_by : (o : Option Next) (old new : ControllerState) (next : Next) → next_write old ≡ o → HaveCommands old.core.slots old.core.commands → MatchOption o (TurnsIf (is_halted (written old)) (written old) next new) (λ write. (next ≡ write) × (new ≡ written old)) → IsRound old next new
turns_by None old new next is have h = at_written next (turns_if (is_halted (written old)) (written old) new next have h)
  where
    at_written : (n : Next) → IsRound (written old) n new → IsRound old n new
    at_written next_step.Nothing round = round
    at_written other round = round
turns_by (Some write) old new next is have h = as_order old new next write h.0 (no_order old new write (any_write old old.writes.payload write is) (ap (λ (c : ControllerState). c.circle.slot) h.1))

-- ---- other calls leave the circle

touched : (old new : ControllerState) → Touches old new → new.circle ≡ old.circle
touched old new (Keeps k) = k.circle
touched old new (Drops d) = d.circle

wide : (does_fit : Bool) (offset : ℕ) (width : Width) (value : ℕ) (old new : ControllerState) (result : WideWritten) → WritesFitting does_fit old offset width value result new → new.circle ≡ old.circle
wide true offset width value old new result h = touched h.middle new (part_touches _ _ _ _ h.middle new result.high h.high) ∙ touched old h.middle (part_touches _ _ _ _ old h.middle result.low h.low)
wide false offset width value old new result h = ap (λ (c : ControllerState). c.circle) h.0.0

issued : (slot : ℕ) (f : Fetched) (o : Option NotTaken) (base new : ControllerState) (supply : Supply) → MatchOption o (PlacesSlot base slot f supply new) (λ reason. RefusesSlot base slot reason supply new) → new.circle ≡ base.circle
issued slot f None base new supply h = ap (λ (c : ControllerState). c.circle) h.rest
issued slot f (Some reason) base new supply h = ap (λ (c : ControllerState). c.circle) h.rest

goes_on : (slot : ℕ) (came : Supplied) (base new : ControllerState) (supply : Supply) → GoesOn base slot came supply new → new.circle ≡ base.circle
goes_on slot (came_as.Refused r) base new supply h = ap (λ (c : ControllerState). c.circle) h.rest
goes_on slot (came_as.Whole f) base new supply h = issued slot f (not_issued base.core slot f) base new supply h
goes_on slot other base new supply h = ap (λ (c : ControllerState). c.circle) h.0

supplies : (fit : Bool) (slot : ℕ) (bytes : List ℕ) (old new : ControllerState) (supply : Supply) → SuppliesIf fit old slot bytes supply new → new.circle ≡ old.circle
supplies false slot bytes old new supply h = ap (λ (c : ControllerState). c.circle) h.0
supplies true slot bytes old new supply h = goes_on slot h.came (without_fetch (answered old slot) slot) new supply h.goes

misses : (out : Bool) (slot : ℕ) (old new : ControllerState) (supply : Supply) → MissesIf out old slot supply new → new.circle ≡ old.circle
misses false slot old new supply h = ap (λ (c : ControllerState). c.circle) h.0
misses true slot old new supply h = ap (λ (c : ControllerState). c.circle) h.rest

sends : (due : Bool) (dev : ℕ) (base new : ControllerState) (fed : Fed) → SendsIf due base dev fed new → new.circle ≡ base.circle
sends false dev base new fed h = ap (λ (c : ControllerState). c.circle) h.0
sends true dev base new fed h = ap (λ (c : ControllerState). c.circle) h.rest

gathers : (out : Bool) (dev : ℕ) (old new : ControllerState) (fed : Fed) → GathersIf out old dev fed new → new.circle ≡ old.circle
gathers false dev old new fed h = ap (λ (c : ControllerState). c.circle) h.0
gathers true dev old new fed h = sends (may_feed old.core dev) dev (without_feeding old dev) new fed h

loses : (turn : Turn) (base new : ControllerState) (fed : Fed) → Loses turn base fed new → new.circle ≡ base.circle
loses (Feeds dev slot offset len) base new fed h = ap (λ (c : ControllerState). c.circle) h.rest
loses other base new fed h = ap (λ (c : ControllerState). c.circle) h.0

loses_if : (due : Bool) (dev : ℕ) (base new : ControllerState) (fed : Fed) → LosesIf due base dev fed new → new.circle ≡ base.circle
loses_if false dev base new fed h = ap (λ (c : ControllerState). c.circle) h.0
loses_if true dev base new fed h = loses (turn_to base dev) base new fed h

misses_data : (out : Bool) (dev : ℕ) (old new : ControllerState) (fed : Fed) → MissesDataIf out old dev fed new → new.circle ≡ old.circle
misses_data false dev old new fed h = ap (λ (c : ControllerState). c.circle) h.0
misses_data true dev old new fed h = loses_if (may_feed old.core dev) dev (without_feeding old dev) new fed h

-- ---- a run

-- the slots that were due at each command that went, one after another, and that another one went
record AreRounds (s last count : ℕ) : Type 0 where
  masks : List ℕ
  have : AllHave s masks
  others : OthersOnly 32 s last masks
  as_many : length masks ≡ count

none_more : (s last : ℕ) → AreRounds s last 0
none_more s last = record { masks = []; have = tt; others = tt; as_many = refl }

same_last : (s a b count : ℕ) → b ≡ a → AreRounds s b count → AreRounds s a count
same_last s a b count same h = subst (λ (n : ℕ). AreRounds s n count) same h

one_more : (s last slot mask count : ℕ) → first_behind 32 mask last ≡ Some slot → has_bit mask s ≡ true → slot ≢ s → AreRounds s slot count → AreRounds s last (1 + count)
one_more s last slot mask count is here ne h =
    let m = h.as_many in
    record {
      masks = mask ∷ h.masks;
      have = (here, h.have);
      others = subst (λ (o : Option ℕ). MatchOption o ⊥ (λ chosen. (chosen ≢ s) × OthersOnly 32 s chosen h.masks)) (sym is) (ne, h.others);
      as_many = omega (arith, m);
    }

-- no command goes
still : (s count : ℕ) (old new : ControllerState) → new.circle.slot ≡ old.circle.slot → AreRounds s new.circle.slot count → AreRounds s old.circle.slot (0 + count)
still s count old new same h = subst (λ (n : ℕ). AreRounds s old.circle.slot n) (omega arith) (same_last s old.circle.slot new.circle.slot count same h)

turned : (s count : ℕ) (old new : ControllerState) (next : Next) → IsRound old next new → IsPassed s old next → AreRounds s new.circle.slot count → AreRounds s old.circle.slot (goes next + count)
turned s count old new (next_step.Order dev slot fis) round passed h = one_more s old.circle.slot slot (due_slots old.core) count round.0 passed.0 passed.1 (same_last s slot new.circle.slot count round.1 h)
turned s count old new other round passed h = still s count old new round h

stayed : (s count : ℕ) (old new : ControllerState) → new.circle ≡ old.circle → AreRounds s new.circle.slot count → AreRounds s old.circle.slot count
stayed s count old new same h = same_last s old.circle.slot new.circle.slot count (ap (λ (c : Circle). c.slot) same) h

rounds : (s : ℕ) (events : List Event) (old new : ControllerState) (run : Runs old events new) → Waits s old events new run → AreRounds s old.circle.slot (orders_in events)
rounds s [] old new run waits = none_more s old.circle.slot
rounds s (event.Wrote offset value written ∷ events) old new run waits = stayed s (orders_in events) old run.1.0 (touched old run.1.0 (write_touches offset value old run.1.0 written run.1.1)) (rounds s events run.1.0 new run.1.2 waits)
rounds s (event.WroteWide offset width value written ∷ events) old new run waits = stayed s (orders_in events) old run.1.0 (wide (fits_width width offset) offset width value old run.1.0 written run.1.1) (rounds s events run.1.0 new run.1.2 waits)
rounds s (event.Supplied slot number bytes supply ∷ events) old new run waits = stayed s (orders_in events) old run.1.0 (supplies (fits old slot number bytes) slot bytes old run.1.0 supply run.1.1) (rounds s events run.1.0 new run.1.2 waits)
rounds s (event.Missed slot number supply ∷ events) old new run waits = stayed s (orders_in events) old run.1.0 (misses (is_asked old.wants slot number) slot old run.1.0 supply run.1.1) (rounds s events run.1.0 new run.1.2 waits)
rounds s (event.Took frame took ∷ events) old new run waits = stayed s (orders_in events) old run.1.0 (ap (λ (c : ControllerState). c.circle) run.1.1.hears.rest) (rounds s events run.1.0 new run.1.2 waits)
rounds s (event.Left frame why ∷ events) old new run waits = stayed s (orders_in events) old run.1.0 (ap (λ (c : ControllerState). c.circle) run.1.1.1) (rounds s events run.1.0 new run.1.2 waits)
rounds s (event.Turned next ∷ events) old new run waits = turned s (orders_in events) old run.1.0 next (turns_by (next_write old) old run.1.0 next refl run.0.port.commands run.1.1) waits.0 (rounds s events run.1.0 new run.1.2 waits.1)
rounds s (event.Said write ∷ events) old new run waits = stayed s (orders_in events) old run.1.0 (ap (λ (c : ControllerState). c.circle) run.1.1.1) (rounds s events run.1.0 new run.1.2 waits)
rounds s (event.Gathered dev number frame fed ∷ events) old new run waits = stayed s (orders_in events) old run.1.0 (gathers (is_fed old.wants dev number) dev old run.1.0 fed run.1.1.1) (rounds s events run.1.0 new run.1.2 waits)
rounds s (event.NotThere dev number fed ∷ events) old new run waits = stayed s (orders_in events) old run.1.0 (misses_data (is_fed old.wants dev number) dev old run.1.0 fed run.1.1) (rounds s events run.1.0 new run.1.2 waits)

pub come_round : SlotsComeRound → CommandsComeRound
come_round slots old new events run s below waits =
    let r : AreRounds s old.circle.slot (orders_in events) = rounds s events old new run waits in
    let few : length r.masks ≤ 31 = slots s old.circle.slot r.masks below r.have r.others in
    subst (λ (n : ℕ). n ≤ 31) r.as_many few
