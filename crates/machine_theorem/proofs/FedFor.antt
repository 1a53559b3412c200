-- A Data FIS has what was read for its slot, from the byte that goes next.
use Rattle.std.proofs.Common.{◌≡◌, ℕ, ◌<◌, Bool, true, false, List, [], ◌∷◌, get_or, refl, sym, ap, subst, ◌∙◌, inl, inr, Option, Some, None, Result}
use Rattle.std.proofs.{Common.{Ok, Err}, lemmas.Bool.{eqb-true, false≢true, ltb-true}}
use Rattle.std.specs.{Prelude.{◌⊎◌, ◌==◌, MatchOption, nat_lt}, Bool.MatchBool, declared.alloc.AllocError.AllocError}
use Rattle.fis_view.specs.Frames.{Stamped}
use Rattle.slots.specs.Slots.{match_some}
use Rattle.hba_fbs.specs.{Choosing.MayChoose, declared.turn.Turn.{Turn, TheVariants.Feeds}}
use Rattle.hba_laws.specs.CoreHistories.{FillsFrom}
use Rattle.ahci_controller.specs.{Feeding.GathersIf, Next.{Turns, is_fed, turn_to}, States.ControllerState, declared.latch.Edge.Edge}
use Rattle.ahci_controller.specs.declared.{next.Next.Next, taking.Hindrance.Hindrance}
use Rattle.ahci_controller.specs.declared.feeding.Fed.TheVariants as fed_answer
use Rattle.ahci_controller.specs.declared.next.Next.TheVariants as next
use Rattle.controller_laws.specs.Events.{IsController}
use Rattle.ahci_machine.specs.Acts as acts
use Rattle.ahci_machine.specs.{Acts.{DoesBy, kept_of}, Answers.{IsStale, MissesFor, MissesMachine, SuppliesMachine, is_wanted}}
use Rattle.ahci_machine.specs.{Gathers.GatheringState, States.{HasRules, IsOpeningMachine, MachineState, gathering_at}, declared.act.Act.Act}
use Rattle.ahci_machine.specs.declared.{answers.Told.Told, gathering.Feed.Feed, request.Wanted.{Wanted, TheVariants.{Command, Data}}}
use Rattle.ahci_machine.specs.declared.act.Act.TheVariants as act
use Rattle.machine_laws.specs.{ControllerLaws.{OpensLawful, OpensSo, RunsRuled}, Controllers.{ControllerGoesOn, GathersDue, IsGathered, IsLength}}
use Rattle.machine_laws.specs.Controllers.{StaysDue, data_calls, deed_calls, is_feed_to, is_kept_for, lost_calls, miss_calls, move_calls, rest_calls}
use Rattle.machine_laws.specs.{Controllers.supply_calls, Deeds.{Deed, Does, Missed, Moved, Supplied, Wrote}, Feeding.{DataIsRead, DataIsWhatCame}}
use Rattle.machine_laws.specs.Feeding.{IsReading, OpensUnread, came_in, data_with}
use Rattle.machine_laws.proofs.{Due.there_is, Wants.fed_low}
use Rattle.machine_theorem.specs.Fed.{FedDataAreOfTheirSlots, WasFed}
use Rattle.machine_theorem.proofs.{FedCalls.{Sends, sends}, FeedHolds.{AreMachineCalls, HasTold, Holds, OneUp, calls_hold, due_to, said_holds}}
use Rattle.machine_theorem.proofs.{FeedHolds.told_on, FeedStays.{FedBy, Opens, Quiet, Stays, deed_quiet, does_by, none_at}, Ordered.fed_some}
use Rattle.machine_theorem.proofs.Ordered.{first_ruled}
use Rattle.machine_theorem.proofs.SetupCalls as setup

pub record Laws : Type 0 where
  pub setup : setup.Laws
  pub opens : OpensLawful
  pub goes : ControllerGoesOn
  pub stays : StaysDue
  pub unread : OpensUnread
  pub read : DataIsRead
  pub whole : DataIsWhatCame

-- ---- calls of a deed

rests_are : (p : ℕ) (old new : MachineState) (h : acts.RestsNow old new) → AreMachineCalls p (rest_calls old new h)
rests_are p old new (inl same) = tt
rests_are p old new (inr turns) = (refl, tt)

loses_are : (p : ℕ) (frame : Option Stamped) (why : Hindrance) → AreMachineCalls p (lost_calls frame why)
loses_are p None why = tt
loses_are p (Some f) why = (tt, tt)

abbrev pub IsFree : (p : ℕ) → Deed → Type 0
IsFree p (Moved (act.Turns said)) = is_feed_to p said ≡ false
IsFree p deed = Unit {0}

move_are : (p : ℕ) (a : Act) (old new : MachineState) (h : acts.Does old a new) → IsFree p (Moved a) → AreMachineCalls p (move_calls old a new h)
move_are p act.Rests old new h free = rests_are p old new h
move_are p (act.Writes w) old new h free = (tt, tt)
move_are p act.LetsGo old new h free = (tt, tt)
move_are p (act.Turns said) old new h free = (free, tt)
move_are p (act.Gathers dev answer) old new h free = (tt, tt)
move_are p (act.Misses slot answer) old new h free = (tt, tt)
move_are p (act.Takes took) old new h free = (tt, tt)
move_are p (act.Loses why) old new h free = loses_are p old.incoming why
move_are p other old new h free = tt

supplies_are : (p : ℕ) (w : Wanted) (bytes : List ℕ) (old : MachineState) (answer : Result Told AllocError) (new : MachineState) (h : SuppliesMachine w bytes old answer new)
    → AreMachineCalls p (supply_calls w bytes old answer new h)
supplies_are p (Command slot number) bytes old answer new h = (tt, tt)
supplies_are p (Data dev number done) bytes old answer new h = tt

data_are : (p : ℕ) (wanted : Bool) (there : Option GatheringState) (dev : ℕ) (old : MachineState) (it : Told) (new : MachineState)
    (h : MatchBool wanted (MatchOption there ⊥ (λ g. MissesFor g dev old it new)) (IsStale old it new)) → AreMachineCalls p (data_calls wanted there dev old it new h)
data_are p true None dev old it new h = tt
data_are p true (Some g) dev old it new h = (tt, tt)
data_are p false there dev old it new h = tt

misses_are : (p : ℕ) (w : Wanted) (old : MachineState) (answer : Result Told AllocError) (new : MachineState) (h : MissesMachine w old answer new)
    → AreMachineCalls p (miss_calls w old answer new h)
misses_are p (Command slot number) old answer new h = (tt, tt)
misses_are p (Data dev number done) old (Ok it) new h = data_are p (is_wanted old dev number done) (gathering_at old dev) dev old it new h
misses_are p (Data dev number done) old (Err e) new h = tt

pub deed_are : (p : ℕ) (old : MachineState) (deed : Deed) (new : MachineState) (h : Does old deed new) → IsFree p deed → AreMachineCalls p (deed_calls old deed new h)
deed_are p old (Moved a) new h free = move_are p a old h.middle h.does free
deed_are p old (Wrote offset width value written) new h free = (tt, tt)
deed_are p old (Supplied w bytes) new h free = supplies_are p w bytes old h.answer new h.supplies
deed_are p old (Missed w) new h free = misses_are p w old h.answer new h.misses
deed_are p old deed new h free = tt

-- ---- what is kept and what is read

pub record HeldBy (c : ControllerState) (kept : Option Next) (gathering : List (Option GatheringState)) : Type 0 where
  pub said : (p number slot offset len : ℕ) → kept ≡ Some (next.Feed p number slot offset len) → Holds c p (record { dev = p; number = number; slot = slot; offset = offset; len = len })
  pub read : (dev : ℕ) (g : GatheringState) → get_or gathering dev None ≡ Some g → is_kept_for dev kept ≡ false → Holds c dev g.feed

abbrev pub Held : MachineState → Type 0
Held m = HeldBy m.controller m.kept m.gathering

no_kept : {A : Type 0} (o : Option Next) (n : Next) → o ≡ None → o ≡ Some n → A
no_kept o n none some = absurd (let both = sym none ∙ some in cc)

pub no_read : {A : Type 0} (o : Option GatheringState) (g : GatheringState) → o ≡ None → o ≡ Some g → A
no_read o g none some = absurd (let both = sym none ∙ some in cc)

quiet_held : (old new : MachineState) → Quiet old new → ((p : ℕ) (f : Feed) → Holds old.controller p f → Holds new.controller p f) → Held old → Held new
quiet_held old new quiet on was = record {
  said = λ p number slot offset len is. on p (record { dev = p; number = number; slot = slot; offset = offset; len = len }) (elim quiet.kept [
    | inl same ↦ was.said p number slot offset len (sym same ∙ is)
    | inr none ↦ elim none.kept [
      | inl empty ↦ no_kept new.kept (next.Feed p number slot offset len) empty is
      | inr same ↦ was.said p number slot offset len (sym same ∙ is)
    ]
  ]);
  read = λ dev g is off. elim quiet.kept [
    | inl same ↦ (let w : WasFed old dev g.feed = quiet.from dev g is in
        on dev g.feed (subst (λ (f : Feed). Holds old.controller dev f) w.same (was.read dev w.gathering w.there (ap (is_kept_for dev) (sym same) ∙ off))))
    | inr none ↦ no_read (gathering_at new dev) g (none.none dev) is
  ];
}

-- what the controller said is done
feed_off : (dev : ℕ) (said : Next) → ((to number slot offset len : ℕ) → said ≡ next.Feed to number slot offset len → to ≡ dev → nat_lt dev 16 ≡ false)
    → (is_feed_to dev said ≡ false) ⊎ (nat_lt dev 16 ≡ false)
feed_off dev (next.Feed to number slot offset len) other = by (to == dev) refl
  where
    by : (b : Bool) → (to == dev) ≡ b → ((to == dev) ≡ false) ⊎ (nat_lt dev 16 ≡ false)
    by true e = inr (other to number slot offset len refl (eqb-true to dev e))
    by false e = inl e
feed_off dev next.Nothing other = inl refl
feed_off dev (next.Order d s f) other = inl refl
feed_off dev (next.Payload m) other = inl refl
feed_off dev (next.Posted m) other = inl refl
feed_off dev (next.Counted c) other = inl refl
feed_off dev (next.Read a) other = inl refl

opened_holds : (old : MachineState) (dev : ℕ) (f : Feed) → f.dev ≡ dev → Held old → old.kept ≡ Some (next.Feed f.dev f.number f.slot f.offset f.len) → Holds old.controller dev f
opened_holds old dev f own was kept = subst (λ (k : ℕ). Holds old.controller k f) own (was.said f.dev f.number f.slot f.offset f.len kept)

fed_by_holds : (old : MachineState) (dev : ℕ) (f : Feed) (said : Next) → FedBy old dev f said → Held old → old.kept ≡ Some said → Holds old.controller dev f
fed_by_holds old dev f said (Opens own) was kept = opened_holds old dev f own was kept
fed_by_holds old dev f said (Stays _ w other) was kept = elim (feed_off dev said other) [
  | inl off ↦ subst (λ (x : Feed). Holds old.controller dev x) w.same (was.read dev w.gathering w.there (ap (is_kept_for dev) kept ∙ off))
  | inr high ↦ λ fed due. absurd (false≢true (sym high ∙ fed_low dev old.controller.wants f.number fed))
]

pub does_same : (said : Next) (old new : MachineState) → DoesBy said old new → (new.controller ≡ old.controller) × (new.kept ≡ None)
does_same (next.Order d s f) old new h = (ap (λ (m : MachineState). m.controller) h.1, ap (λ (m : MachineState). m.kept) h.1)
does_same (next.Feed to number slot offset len) old new h = (ap (λ (m : MachineState). m.controller) h, ap (λ (m : MachineState). m.kept) h)
does_same (next.Payload x) old new h = (ap (λ (m : MachineState). m.controller) h, ap (λ (m : MachineState). m.kept) h)
does_same (next.Posted x) old new h = (ap (λ (m : MachineState). m.controller) h, ap (λ (m : MachineState). m.kept) h)
does_same (next.Counted c) old new h = (ap (λ (m : MachineState). m.controller) h, ap (λ (m : MachineState). m.kept) h)
does_same next.Nothing old new h = (ap (λ (m : MachineState). m.controller) h, ap (λ (m : MachineState). m.kept) h)
does_same (next.Read ask) old new h = (ap (λ (m : MachineState). m.controller) h, ap (λ (m : MachineState). m.kept) h)

does_held : (said : Next) (old new : MachineState) → old.kept ≡ Some said → DoesBy said old new → Held old → Held new
does_held said old new kept h was =
    let same = does_same said old new h in
    record {
      said = λ p number slot offset len is. no_kept new.kept (next.Feed p number slot offset len) same.1 is;
      read = λ dev g is off. subst (λ (c : ControllerState). Holds c dev g.feed) (sym same.0) (fed_by_holds old dev g.feed said (does_by said old new h dev g is) was kept);
    }

-- it says what is next
kept_said : (said n : Next) → kept_of said ≡ Some n → said ≡ n
kept_said next.Nothing n e = absurd (cc)
kept_said (next.Order d s f) n e = ap (λ (o : Option Next). match_some o (next.Order d s f) (λ x. x)) e
kept_said (next.Feed to number slot offset len) n e = ap (λ (o : Option Next). match_some o (next.Feed to number slot offset len) (λ x. x)) e
kept_said (next.Payload m) n e = ap (λ (o : Option Next). match_some o (next.Payload m) (λ x. x)) e
kept_said (next.Posted m) n e = ap (λ (o : Option Next). match_some o (next.Posted m) (λ x. x)) e
kept_said (next.Counted c) n e = ap (λ (o : Option Next). match_some o (next.Counted c) (λ x. x)) e
kept_said (next.Read a) n e = ap (λ (o : Option Next). match_some o (next.Read a) (λ x. x)) e

pub kept_off : (said : Next) (dev : ℕ) → is_kept_for dev (kept_of said) ≡ false → is_feed_to dev said ≡ false
kept_off next.Nothing dev h = refl
kept_off (next.Order d s f) dev h = h
kept_off (next.Feed to number slot offset len) dev h = h
kept_off (next.Payload m) dev h = h
kept_off (next.Posted m) dev h = h
kept_off (next.Counted c) dev h = h
kept_off (next.Read a) dev h = h

turns_held : (laws : Laws) (old new : MachineState) (said : Next) (h : acts.TurnsNext said old new) → IsController old.controller
    → ((p : ℕ) → p < 16 → HasTold p old.controller.core) → ((p : ℕ) (f : Feed) → is_feed_to p said ≡ false → Holds old.controller p f → Holds new.controller p f) → Held old → Held new
turns_held laws old new said h k told on was =
    let kept : new.kept ≡ kept_of said = ap (λ (m : MachineState). m.kept) h.rest in
    record {
      said = λ p number slot offset len is fed due.
          (let low : p < 16 = ltb-true p 16 (fed_low p new.controller.wants number fed) in
          said_holds laws.setup p number slot offset len low old.controller new.controller k
          (subst (λ (n : Next). Turns old.controller n new.controller) (kept_said said (next.Feed p number slot offset len) (sym kept ∙ is)) h.turns) (told p low) fed due);
      read = λ dev g is off.
          on dev g.feed (kept_off said dev (ap (is_kept_for dev) (sym kept) ∙ off))
          (was.read dev g (sym (ap (λ (l : List (Option GatheringState)). get_or l dev None) (ap (λ (m : MachineState). m.gathering) h.rest)) ∙ is) (ap (is_kept_for dev) h.none));
    }

-- ---- over a run

pub kept_rules : (m : MachineState) → HasRules m → IsController m.controller
kept_rules m rules = record { port = rules.port; slots = rules.slots; rules = rules.rules }

module _ (laws : Laws) where
  on_deed : (old : MachineState) (deed : Deed) (new : MachineState) (does : Does old deed new) → HasRules old → HasRules new → GathersDue old → (p : ℕ) (f : Feed) → IsFree p deed
      → Holds old.controller p f → Holds new.controller p f
  on_deed old deed new does rules rules_new due p f free was =
      calls_hold laws.setup p (deed_calls old deed new does) old.controller new.controller (deed_are p old deed new does free) (laws.goes old deed new does rules rules_new due) f was

  same_held : (old new : MachineState) → new.controller ≡ old.controller → new.kept ≡ old.kept → new.gathering ≡ old.gathering → Held old → Held new
  same_held old new c k g was =
      subst (λ (x : ControllerState). HeldBy x new.kept new.gathering) (sym c)
      (subst (λ (x : Option Next). HeldBy old.controller x new.gathering) (sym k) (subst (λ (x : List (Option GatheringState)). HeldBy old.controller old.kept x) (sym g) was))

  moved_held : (mid new : MachineState) → new ≡ acts.turned mid new.first new.turn → Held mid → Held new
  moved_held mid new is was = same_held mid new (ap (λ (m : MachineState). m.controller) is) (ap (λ (m : MachineState). m.kept) is) (ap (λ (m : MachineState). m.gathering) is) was

  -- the machine in the middle of a move has the controller of the one behind it
  at_mid : (mid new : MachineState) → new ≡ acts.turned mid new.first new.turn → (p : ℕ) (f : Feed) → Holds new.controller p f → Holds mid.controller p f
  at_mid mid new is p f h = subst (λ (c : ControllerState). Holds c p f) (ap (λ (m : MachineState). m.controller) is) h

  rests_held : (old mid : MachineState) (h : acts.RestsNow old mid) → IsController old.controller → ((p : ℕ) → p < 16 → HasTold p old.controller.core)
      → ((p : ℕ) (f : Feed) → Holds old.controller p f → Holds mid.controller p f) → Held old → Held mid
  rests_held old mid (inl same) k told on was =
      same_held old mid (ap (λ (m : MachineState). m.controller) same) (ap (λ (m : MachineState). m.kept) same) (ap (λ (m : MachineState). m.gathering) same) was
  rests_held old mid (inr turns) k told on was = turns_held laws old mid next.Nothing turns k told (λ p f off. on p f) was

  deed_held : (old : MachineState) (deed : Deed) (new : MachineState) (does : Does old deed new) → HasRules old → HasRules new → GathersDue old
      → ((p : ℕ) → p < 16 → HasTold p old.controller.core) → Held old → Held new
  deed_held old (Moved act.Rests) new does rules rules_new due told was =
      moved_held does.middle new does.turns (rests_held old does.middle does.does (kept_rules old rules) told
      (λ p f h. at_mid does.middle new does.turns p f (on_deed old (Moved act.Rests) new does rules rules_new due p f tt h)) was)
  deed_held old (Moved (act.Turns said)) new does rules rules_new due told was =
      moved_held does.middle new does.turns (turns_held laws old does.middle said does.does (kept_rules old rules) told
      (λ p f off h. at_mid does.middle new does.turns p f (on_deed old (Moved (act.Turns said)) new does rules rules_new due p f off h)) was)
  deed_held old (Moved (act.Does said)) new does rules rules_new due told was =
      moved_held does.middle new does.turns (does_held said old does.middle does.does.kept does.does.does was)
  deed_held old (Moved a) new does rules rules_new due told was =
      quiet_held old new (deed_quiet old (Moved a) new tt does) (λ p f h. on_deed old (Moved a) new does rules rules_new due p f tt h) was
  deed_held old deed new does rules rules_new due told was =
      quiet_held old new (deed_quiet old deed new tt does) (λ p f h. on_deed old deed new does rules rules_new due p f tt h) was

  pub record Good (m : MachineState) : Type 0 where
    pub due : GathersDue m
    pub told : (p : ℕ) → p < 16 → HasTold p m.controller.core
    pub held : Held m

  pub run_good : (deeds : List Deed) (old now : MachineState) → RunsRuled old deeds now → Good old → Good now
  run_good [] old now run was = subst Good (sym run.1) was
  run_good (deed ∷ later) old now run was =
      let mid : MachineState = run.1.0 in
      let rules : HasRules mid = first_ruled later mid now run.1.2 in
      run_good later mid now run.1.2 (record {
        due = laws.stays old deed mid run.1.1 was.due;
        told = λ p low. told_on laws.setup p low (deed_calls old deed mid run.1.1) old.controller mid.controller (laws.goes old deed mid run.1.1 run.0 rules was.due) (was.told p low);
        held = deed_held old deed mid run.1.1 run.0 rules was.due was.told was.held;
      })

-- ---- what goes

pub is_wanted_now : (out : Bool) (c d : ControllerState) (dev : ℕ) (message : Bool) (line : Edge) → GathersIf out c dev (fed_answer.Goes message line) d → out ≡ true
is_wanted_now true c d dev message line h = refl
is_wanted_now false c d dev message line h = absurd (let no = h.1 in cc)

pub last_rules : (deeds : List Deed) (old now : MachineState) → RunsRuled old deeds now → HasRules now
last_rules [] old now run = subst HasRules (sym run.1) run.0
last_rules (deed ∷ later) old now run = last_rules later run.1.0 now run.1.2

-- nothing is said and nothing is read in a machine that opens
pub opens_good : (laws : Laws) (ports : ℕ) (legacy : Bool) (m : MachineState) → IsOpeningMachine ports legacy m → OpensSo m → Good laws m
opens_good laws ports legacy m opening opened = record {
  due = opened.due;
  told = λ p low. record { past = []; told = opened.told p low };
  held = record {
    said = λ p number slot offset len is. no_kept m.kept (next.Feed p number slot offset len) (ap (λ (x : MachineState). x.kept) opening.rest) is;
    read = λ dev g is off. no_read (gathering_at m dev) g (ap (λ (l : List (Option GatheringState)). get_or l dev None) (ap (λ (x : MachineState). x.gathering) opening.rest) ∙ none_at dev) is;
  };
}

-- what goes was read for this slot, from this byte on, and has these bytes
pub record Fits (supplied : List ℕ) (now : MachineState) (dev : ℕ) (message : Bool) (line : Edge) (new : MachineState) (does : Does now (Moved (act.Gathers dev (fed_answer.Goes message line))) new)
    (slot offset len : ℕ) : Type 0 where
  pub slot_is : does.does.gathering.feed.slot ≡ slot
  pub offset_is : does.does.gathering.feed.offset ≡ offset
  pub len_is : does.does.gathering.feed.len ≡ len
  pub bytes : does.does.gathering.bytes ≡ data_with dev supplied

pub fits : (laws : Laws) (now : MachineState) → HasRules now → Good laws now → (dev : ℕ) (supplied : List ℕ) → IsReading now dev supplied → (message : Bool) (line : Edge) (new : MachineState)
    → (does : Does now (Moved (act.Gathers dev (fed_answer.Goes message line))) new) → (slot offset len : ℕ) → turn_to now.controller dev ≡ Feeds dev slot offset len
    → Fits supplied now dev message line new does slot offset len
fits laws now rules good dev supplied reading message line new does slot offset len turn =
    let h = does.does in
    let g : GatheringState = h.gathering in
    let c : ControllerState = now.controller in
    let gathered : IsGathered c now.kept h.place g = there_is now h.place g h.there good.due in
    let place : h.place ≡ dev = sym gathered.own ∙ sym h.gathers.is in
    let fed : is_fed c.wants dev g.feed.number ≡ true = is_wanted_now (is_fed c.wants dev g.feed.number) c does.middle.controller dev message line h.gathers.gathers in
    let due : due_to c dev ≡ true = fed_some c does.middle.controller dev g.feed.number (fed_answer.Goes message line) tt h.gathers.gathers in
    let off : is_kept_for h.place now.kept ≡ false = ap (is_kept_for h.place) h.done in
    let holds : Holds c dev g.feed = subst (λ (k : ℕ). Holds c k g.feed) place (good.held.read h.place g h.there off) in
    let is : OneUp dev c.core g.feed.slot g.feed.offset = holds fed due in
    let s : Sends c does.middle.controller dev message line = sends (is_fed c.wants dev g.feed.number) c does.middle.controller dev message line h.gathers.gathers in
    let may : MayChoose c.core (Feeds dev slot offset len) = subst (λ (t : Turn). MayChoose c.core t) turn s.sends.may in
    let k : IsController c = kept_rules now rules in
    let fills : FillsFrom slot offset len is.past =
    laws.setup.chosen c.core c.core [] refl (record { cores = record { port = k.port; slots = k.slots }; frames = tt }) dev slot offset len is.past may is.told in
    let same = is.one slot fills.is_up in
    let long : IsLength (turn_to c h.place) g.feed.len = gathered.due off (ap (λ (j : ℕ). is_fed c.wants j g.feed.number) place ∙ fed) in
    record {
      slot_is = sym same.0;
      offset_is = sym same.1 ∙ fills.from;
      len_is = subst (λ (t : Turn). IsLength t g.feed.len) (ap (turn_to c) place ∙ turn) long;
      bytes = laws.whole now dev (fed_answer.Goes message line) new does good.due supplied reading;
    }

-- Data go to one of so many devices
fed_below : (now : MachineState) (dev : ℕ) (message : Bool) (line : Edge) (new : MachineState) → Does now (Moved (act.Gathers dev (fed_answer.Goes message line))) new → dev < 16
fed_below now dev message line new does =
    let h = does.does in
    let g : GatheringState = h.gathering in
    let fed : is_fed now.controller.wants dev g.feed.number ≡ true = is_wanted_now (is_fed now.controller.wants dev g.feed.number) now.controller does.middle.controller dev message line h.gathers.gathers in
    ltb-true dev 16 (fed_low dev now.controller.wants g.feed.number fed)

pub fed_for : Laws → FedDataAreOfTheirSlots
fed_for laws ports legacy old opening deeds now run dev message line new does slot offset len turn =
    let opened : OpensSo old = laws.opens ports legacy old opening (first_ruled deeds old now run) in
    let good : Good laws now = run_good laws deeds old now run (opens_good laws ports legacy old opening opened) in
    let low : dev < 16 = fed_below now dev message line new does in
    let it : Fits (came_in dev [] old deeds now run) now dev message line new does slot offset len =
    fits laws now (last_rules deeds old now run) good dev (came_in dev [] old deeds now run)
    (laws.read dev low old deeds now run opened.due [] (laws.unread ports legacy old opening dev)) message line new does slot offset len turn in
    record { slot_is = it.slot_is; offset_is = it.offset_is; len_is = it.len_is; bytes = it.bytes }
