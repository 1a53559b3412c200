-- Each byte of a read that came, over the calls of a controller.
use Rattle.std.proofs.Common.{◌≡◌, ◌⊎◌, ℕ, ◌<◌, ◌/◌, ◌&&◌, Bool, true, false, List, [], ◌∷◌, ◌++◌, inl, inr, refl, sym, ap, subst, ◌∙◌, arith, Option}
use Rattle.std.proofs.{Common.{Some, None}, lemmas.{Bool.{cases_lt, eq-eqb, eqb-true, false≢true, true≢false}, List.{get_or-map, get_or-replicate}}}
use Rattle.std.proofs.lemmas.List.{get_or_past, length-replicate}
use Rattle.std.specs.{Prelude.{◌==◌, MatchOption, if◌then◌else◌, is_some, not, replicate}, Option.option_map}
use Rattle.slots.specs.{Bytes.{is_over, none_over}, Slots.{Issue, Slots, holds, issue_at, match_some, own_issue, owned_by, slots_of}, Table.IsIssue}
use Rattle.slots.specs.{Work.{is_queued, is_read}, declared.work.{Kind.{Kind, TheVariants.QueuedRead}, Work.Work}}
use Rattle.hba_fbs.specs.{Taking.port_of, Views.view_of}
use Rattle.hba_laws.proofs.Door.{own_here, own_in}
use Rattle.hba_laws.specs.{Agreement.{IsTold, work_of_issue}, CoreHistories.event_by, History.{History, Transfer, filled, issued}}
use Rattle.hba_laws.specs.Cores as core
use Rattle.hba_laws.specs.History as history
use Rattle.ahci_controller.specs.{States.ControllerState, Taking.room_for, declared.taking.Took.Took}
use Rattle.ahci_controller.specs.declared.feeding.Fed.TheVariants as fed_answer
use Rattle.controller_laws.specs.{CoreEvents.{AreCoreEvents, of_event, of_frame}, Events.{Does, Event, IsController, Runs}}
use Rattle.controller_laws.specs.Events as call
use Rattle.machine_theorem.specs.{Commands.{AreNotIssued, issues_in}, Filled.{AreNotBrought, Brings, BringsNot, FilledWereBrought}, Orders.is_sent_of}
use Rattle.machine_theorem.specs.SingleReads.{BringsFor, FilledSinglesWereBrought, WasBroughtFor, is_sent_read, is_single_read}
use Rattle.machine_theorem.proofs.{Completed.transfer_of, Ordered.last_kept, SetupCalls.{IsNoTake, Laws, call_none, core_events, first_kept}}
use Rattle.machine_theorem.proofs.{SetupCores.told_next, SetupFrames.{has_up, the_issue}, Stood.issues_are_alone, FilledHistory.HasCame}
use Rattle.machine_theorem.proofs.{FilledCores.{Behind, FillsNow, cores_behind, data_back, fis_back}, FilledFrames.{brings_it, brings_not}}
use Rattle.machine_theorem.proofs.FilledFrames.{wrote_fits}

-- ---- what stands in a slot for a device

owned_dev : (n : ℕ) (o : Option Issue) (i : Issue) → owned_by n o ≡ Some i → i.dev ≡ n
owned_dev n None i e = absurd (cc)
owned_dev n (Some x) i e = by (x.dev == n) refl e
  where
    by : (b : Bool) → (x.dev == n) ≡ b → (if b then Some x else None) ≡ Some i → i.dev ≡ n
    by false same e = absurd (cc)
    by true same e = ap (λ (o : Option Issue). match_some o i.dev (λ y. y.dev)) (sym e) ∙ eqb-true x.dev n same

-- the device's own issue stands there
pub record IsThere (n s : ℕ) (t : Slots) (i : Issue) : Type 0 where
  pub is : issue_at t s ≡ Some i
  pub dev : i.dev ≡ n

pub is_there : (n s : ℕ) (t : Slots) (i : Issue) → own_issue (slots_of n t) s ≡ Some i → IsThere n s t i
is_there n s t i e =
    let it = own_in n s t i e in
    record {
      is = it.1;
      dev = owned_dev n (issue_at t s) i (sym (get_or-map (owned_by n) t.issues s None None it.0) ∙ e);
    }

over_none : (len k : ℕ) → is_over (none_over len) k ≡ false
over_none len k = elim (cases_lt (k / 4) (len / 4)) [
  | inl lt ↦ get_or-replicate (len / 4) (k / 4) false false lt
  | inr ge ↦ get_or_past (replicate (len / 4) false) (k / 4) false (let long = length-replicate (len / 4) false in omega (arith, ge, long))
]

-- ---- one call

-- by a call byte k is brought
abbrev BringsBy : Kind → (n s k : ℕ) → ControllerState → Event → Type 0
BringsBy r n s k c (call.Took frame took) = BringsFor r n s k c frame took
BringsBy r n s k c e = ⊥

-- It came before, and the call issues nothing in the slot and does not bring it again; or the call brings it.
abbrev After : Kind → (n s k : ℕ) → ControllerState → Event → Type 0 → Type 0
After r n s k c e A = (A × (issues_in s e ≡ false) × BringsNot s k e) ⊎ BringsBy r n s k c e

-- what came stands in the slot
record CameThere (s k : ℕ) (c : ControllerState) : Type 0 where
  issue : Issue
  is : issue_at c.core.slots s ≡ Some issue
  over : is_over issue.over k ≡ true

came_there : (r : Kind) (n s k : ℕ) (c : ControllerState) (past : History) → IsTold (view_of n c.core) past → HasCame r s k past → CameThere s k c
came_there r n s k c past told came =
    let i = the_issue (issued s past) (own_issue (view_of n c.core).slots s) came.transfer (told.issued s) came.is in
    record { issue = i.0; is = (is_there n s c.core.slots i.0 i.1.0).is; over = (told.agrees.issues_agree s i.0 i.1.0).over_is k ∙ came.filled }

-- so no call issues there
none_issues : (s : ℕ) (old new : ControllerState) (e : Event) → IsController old → Does old e new → (i : Issue) → issue_at old.core.slots s ≡ Some i
    → (b : Bool) → issues_in s e ≡ b → issues_in s e ≡ false
none_issues s old new e kept does i there true is = absurd (let both = sym there ∙ (issues_are_alone old new e kept does s is).free in cc)
none_issues s old new e kept does i there false is = is

-- and none brings it again
none_brings : (s k : ℕ) (old new : ControllerState) (e : Event) → IsController old → Does old e new → CameThere s k old → BringsNot s k e
none_brings s k old new (call.Took frame took) kept does there = brings_not old new kept.slots s k frame took does there.issue there.is there.over
none_brings s k old new (call.Wrote offset value written) kept does there = tt
none_brings s k old new (call.WroteWide offset width value written) kept does there = tt
none_brings s k old new (call.Supplied slot number bytes supply) kept does there = tt
none_brings s k old new (call.Missed slot number supply) kept does there = tt
none_brings s k old new (call.Left frame why) kept does there = tt
none_brings s k old new (call.Turned next) kept does there = tt
none_brings s k old new (call.Said write) kept does there = tt
none_brings s k old new (call.Gathered dev number frame fed) kept does there = tt
none_brings s k old new (call.NotThere dev number fed) kept does there = tt

module _ (r : Kind) (reads : is_read r ≡ true) (laws : Laws) (n : ℕ) (low : n < 16) (s k : ℕ) (A : Type 0) where
  before_call : (e : Event) (old new : ControllerState) → Does old e new → IsController old → Behind r n s k old.core A
      → Behind r n s k old.core (After r n s k old e A)
  before_call e old new does kept was = record {
    past = was.past;
    told = was.told;
    back = λ c.
        let there = came_there r n s k old was.past was.told c in
        inl (was.back c, none_issues s old new e kept does there.issue there.is (issues_in s e) refl, none_brings s k old new e kept does there);
  }

  none_taken : (e : Event) (old new : ControllerState) (does : Does old e new) → IsController old → IsController new → IsNoTake QueuedRead n e
      → Behind r n s k old.core A → Behind r n s k new.core (After r n s k old e A)
  none_taken e old new does kept l is was =
      let are : AreCoreEvents old.core (of_event old e new does) new.core = core_events QueuedRead refl laws n low old new e kept l does in
      cores_behind r reads laws.views n low s k (After r n s k old e A) (of_event old e new does) old.core new.core are.run are.sound.cores are.sound.frames
      (call_none QueuedRead n e old new does is) (before_call e old new does kept was)

  -- a FIS is taken
  brings_now : (old new : ControllerState) (frame : List ℕ) (took : Took) → call.Takes old frame took new → port_of frame ≡ n → (past : History)
      → IsTold (view_of n old.core) past
      → FillsNow r s k past frame took.report → BringsFor r n s k old frame took
  brings_now old new frame took takes own past told fills =
      let up = has_up r (view_of n old.core) past s told fills.up in
      let there : IsThere n s old.core.slots up.issue = is_there n s old.core.slots up.issue up.is in
      record {
        own = own;
        issue = up.issue;
        is = there.is;
        dev = there.dev;
        kind_is = up.kind;
        calm = (wrote_fits old new frame took takes fills.wrote fills.is).fits.whole;
        wrote = fills.wrote;
        brought = brings_it old new frame took takes fills.wrote fills.is;
        slot_is = fills.slot_is;
        whole = fills.whole;
        from = fills.from;
        to = fills.to;
      }

  brings_not_again : (old new : ControllerState) (frame : List ℕ) (took : Took) → call.Takes old frame took new → IsController old → (past : History)
      → IsTold (view_of n old.core) past → HasCame r s k past → BringsNot s k (call.Took frame took)
  brings_not_again old new frame took takes kept past told came =
      none_brings s k old new (call.Took frame took) kept takes (came_there r n s k old past told came)

  own_taken : (old new : ControllerState) (frame : List ℕ) (took : Took) (takes : call.Takes old frame took new)
      → core.Hearkens old.core frame (room_for old (port_of frame)) took.report new.core
      → IsController old → (was : Behind r n s k old.core A) → (b : Bool) → (port_of frame == n) ≡ b
      → IsTold (view_of n new.core) ((if b then match_some (event_by old.core (room_for old (port_of frame)) frame) [] (λ e. e ∷ []) else []) ++ was.past)
      → Behind r n s k new.core (After r n s k old (call.Took frame took) A)
  own_taken old new frame took takes hears kept was false own told = record {
    past = was.past;
    told = told;
    back = λ c. inl (was.back c, refl, brings_not_again old new frame took takes kept was.past was.told c);
  }
  own_taken old new frame took takes hears kept was true own told =
      let same : port_of frame ≡ n = eqb-true (port_of frame) n own in
      record {
        past = match_some (event_by old.core (room_for old (port_of frame)) frame) [] (λ e. e ∷ []) ++ was.past;
        told = told;
        back = λ c. elim (by_fis same c) [
          | inl now ↦ inr (brings_now old new frame took takes same was.past was.told now)
          | inr then' ↦ inl (was.back then', refl, brings_not_again old new frame took takes kept was.past was.told then')
        ];
      }
    where
      by_fis : port_of frame ≡ n → HasCame r s k (match_some (event_by old.core (room_for old (port_of frame)) frame) [] (λ e. e ∷ []) ++ was.past)
          → FillsNow r s k was.past frame took.report ⊎ HasCame r s k was.past
      by_fis same c =
          fis_back r laws.filled s k n old.core new.core frame (room_for old (port_of frame)) took.report same
          (record { port = kept.port; slots = kept.slots }) hears was.past was.told c

  fis_taken : (old new : ControllerState) (frame : List ℕ) (took : Took) (takes : call.Takes old frame took new) (started : Bool) → IsController old
      → (are : AreCoreEvents old.core (of_frame started old frame took.report ∷ []) new.core) → Behind r n s k old.core A
      → Behind r n s k new.core (After r n s k old (call.Took frame took) A)
  fis_taken old new frame took takes false kept are was =
      cores_behind r reads laws.views n low s k (After r n s k old (call.Took frame took) A)
      (core.Greeted frame took.report ∷ []) old.core new.core are.run are.sound.cores are.sound.frames
      (tt, tt) (before_call (call.Took frame took) old new takes kept was)
  fis_taken old new frame took takes true kept are was =
      let room = room_for old (port_of frame) in
      let hears : core.Hearkens old.core frame room took.report new.core =
      subst (λ p. core.Hearkens old.core frame room took.report p) (sym are.run.2) are.run.1 in
      let next = subst (λ p. core.IsCore p) (sym are.run.2) are.sound.cores.1 in
      own_taken old new frame took takes hears kept was (port_of frame == n) refl
      (told_next QueuedRead refl laws.views n low (core.Took frame room took.report) old.core new.core hears are.sound.cores.0 next are.sound.frames.0
      was.past was.told)

  call_behind : (e : Event) (old new : ControllerState) (does : Does old e new) → IsController old → IsController new → Behind r n s k old.core A
      → Behind r n s k new.core (After r n s k old e A)
  call_behind (call.Took frame took) old new does kept l was =
      fis_taken old new frame took does old.core.registers.started kept (core_events QueuedRead refl laws n low old new (call.Took frame took) kept l does) was
  call_behind (call.Wrote offset value written) old new does kept l was = none_taken (call.Wrote offset value written) old new does kept l tt was
  call_behind (call.WroteWide offset width value written) old new does kept l was =
      none_taken (call.WroteWide offset width value written) old new does kept l tt was
  call_behind (call.Supplied slot number bytes supply) old new does kept l was = none_taken (call.Supplied slot number bytes supply) old new does kept l tt was
  call_behind (call.Missed slot number supply) old new does kept l was = none_taken (call.Missed slot number supply) old new does kept l tt was
  call_behind (call.Left frame why) old new does kept l was = none_taken (call.Left frame why) old new does kept l tt was
  call_behind (call.Turned next) old new does kept l was = none_taken (call.Turned next) old new does kept l refl was
  call_behind (call.Said write) old new does kept l was = none_taken (call.Said write) old new does kept l tt was
  call_behind (call.Gathered dev number frame (fed_answer.Goes message line)) old new does kept l was =
      none_taken (call.Gathered dev number frame (fed_answer.Goes message line)) old new does kept l (λ e. absurd (true≢false e)) was
  call_behind (call.Gathered dev number frame other) old new does kept l was = none_taken (call.Gathered dev number frame other) old new does kept l tt was
  call_behind (call.NotThere dev number fed) old new does kept l was = none_taken (call.NotThere dev number fed) old new does kept l tt was

-- what is filled behind Data that the FIS carries was brought by it, or came before; so it is too where it ends the command
pub last_back : (r : Kind) → is_read r ≡ true → Laws → (n : ℕ) → n < 16 → (s k : ℕ) (old new : ControllerState) (frame : List ℕ) (took : Took)
    → call.Takes old frame took new → IsController old → IsController new → old.core.registers.started ≡ true → port_of frame ≡ n
    → (past : History) → IsTold (view_of n old.core) past → (bytes : List ℕ) (t : Transfer)
    → event_by old.core (room_for old (port_of frame)) frame ≡ Some (history.Carried bytes) → issued s past ≡ Some t → t.work.kind ≡ r
    → is_some (filled s (history.Carried bytes ∷ past) k) ≡ true → BringsFor r n s k old frame took ⊎ HasCame r s k past
last_back r reads laws n low s k old new frame took takes kept l started own past told bytes t event was kind f =
    by old.core.registers.started started (core_events QueuedRead refl laws n low old new (call.Took frame took) kept l takes)
  where
    now : core.Hearkens old.core frame (room_for old (port_of frame)) took.report new.core → BringsFor r n s k old frame took ⊎ HasCame r s k past
    now hears =
        elim (data_back r laws.filled s k n old.core new.core frame (room_for old (port_of frame)) took.report own
        (record { port = kept.port; slots = kept.slots }) hears past told bytes t event was kind f) [
          | inl fills ↦ inl (brings_now r reads laws n low s k (Unit {0}) old new frame took takes own past told fills)
          | inr came ↦ inr came
        ]

    by : (b : Bool) → b ≡ true → AreCoreEvents old.core (of_frame b old frame took.report ∷ []) new.core → BringsFor r n s k old frame took ⊎ HasCame r s k past
    by false e are = absurd (false≢true e)
    by true e are = now (subst (λ p. core.Hearkens old.core frame (room_for old (port_of frame)) took.report p) (sym are.run.2) are.run.1)

-- ---- all of them

-- it came before, and none of these calls issues in the slot or brings it again; or one brings it
abbrev pub Then : Kind → (n s k : ℕ) → ControllerState → List Event → ControllerState → Type 0 → Type 0
Then r n s k old events new A = (A × AreNotIssued s events × AreNotBrought s k events) ⊎ WasBroughtFor r n s k old events new

brought_later : (r : Kind) (n s k : ℕ) (e : Event) (old : ControllerState) (later : List Event) (new : ControllerState) (run : Runs old (e ∷ later) new)
    → WasBroughtFor r n s k run.1.0 later new
    → WasBroughtFor r n s k old (e ∷ later) new
brought_later r n s k e old later new run b = record {
  sooner = e ∷ b.sooner;
  mid = b.mid;
  led = (run.0, (run.1.0, run.1.1, b.led));
  frame = b.frame;
  took = b.took;
  after = b.after;
  takes = b.takes;
  later = b.later;
  rest = b.rest;
  is = ap (λ (l : List Event). e ∷ l) b.is;
  brings = b.brings;
  alone = b.alone;
  once = b.once;
}

brought_now : (r : Kind) (n s k : ℕ) (e : Event) (old : ControllerState) (later : List Event) (new : ControllerState) (run : Runs old (e ∷ later) new)
    → BringsBy r n s k old e → AreNotIssued s later
    → AreNotBrought s k later → WasBroughtFor r n s k old (e ∷ later) new
brought_now r n s k (call.Took frame took) old later new run brings alone once = record {
  sooner = [];
  mid = old;
  led = (run.0, refl);
  frame = frame;
  took = took;
  after = run.1.0;
  takes = run.1.1;
  later = later;
  rest = run.1.2;
  is = refl;
  brings = brings;
  alone = alone;
  once = once;
}
brought_now r n s k e old later new run brings alone once = absurd brings

module _ (r : Kind) (reads : is_read r ≡ true) (laws : Laws) (n : ℕ) (low : n < 16) (s k : ℕ) where
  pub calls_behind : (events : List Event) (old new : ControllerState) (run : Runs old events new) (A : Type 0) → Behind r n s k old.core A
      → Behind r n s k new.core (Then r n s k old events new A)
  calls_behind [] old new run A was = subst (λ (c : ControllerState). Behind r n s k c.core (Then r n s k old [] new A)) (sym run.1) (record {
    past = was.past;
    told = was.told;
    back = λ c. inl (was.back c, tt, tt);
  })
  calls_behind (e ∷ later) old new run A was =
      let mid : ControllerState = run.1.0 in
      let one : Behind r n s k mid.core (After r n s k old e A) = call_behind r reads laws n low s k A e old mid run.1.1 run.0 (first_kept later mid new run.1.2) was in
      let rest : Behind r n s k new.core (Then r n s k mid later new (After r n s k old e A)) = calls_behind later mid new run.1.2 (After r n s k old e A) one in
      record { past = rest.past; told = rest.told; back = λ c. by (rest.back c) }
    where
      by : Then r n s k run.1.0 later new (After r n s k old e A) → Then r n s k old (e ∷ later) new A
      by (inr b) = inr (brought_later r n s k e old later new run b)
      by (inl (inl before, none, once)) = inl (before.0, (before.1, none), (before.2, once))
      by (inl (inr now, none, once)) = inr (brought_now r n s k e old later new run now none once)

-- ---- the laws

-- nothing came of a command that was not sent
none_came : (i : Issue) (k : ℕ) → IsIssue i → i.sent ≡ false → is_over i.over k ≡ false
none_came i k it unsent = ap (λ (l : List Bool). is_over l k) (it.unsent unsent) ∙ over_none i.work.len k

module _ (r : Kind) (n : ℕ) (low : n < 16) (s k : ℕ) (c : ControllerState) (kept : IsController c) (past : History) (told : IsTold (view_of n c.core) past) where
  -- where no command of this kind that was sent stands in the slot, nothing came of one
  pub none_at_first : ((i : Issue) → issue_at c.core.slots s ≡ Some i → i.dev ≡ n → i.work.kind ≡ r → i.sent ≡ false) → HasCame r s k past → ⊥
  none_at_first none came =
      let i = the_issue (issued s past) (own_issue (view_of n c.core).slots s) came.transfer (told.issued s) came.is in
      let there : IsThere n s c.core.slots i.0 = is_there n s c.core.slots i.0 i.1.0 in
      let it : IsIssue i.0 = subst (λ (o : Option Issue). MatchOption o (Unit {0}) IsIssue) there.is (kept.slots.issues s) in
      let kind : i.0.work.kind ≡ r = ap (λ (w : Work). w.kind) i.1.1 ∙ came.kind in
      let agrees = told.agrees.issues_agree s i.0 i.1.0 in
      false≢true (sym (none_came i.0 k it (none i.0 there.is there.dev kind)) ∙ agrees.over_is k ∙ came.filled)

  pub came_at_last : s < 32 → (i : Issue) → issue_at c.core.slots s ≡ Some i → i.dev ≡ n → i.work.kind ≡ r → is_over i.over k ≡ true → HasCame r s k past
  came_at_last below i is own kind over =
      let mine : own_issue (view_of n c.core).slots s ≡ Some i =
      subst (λ (j : ℕ). own_issue (slots_of j c.core.slots) s ≡ Some i) own
      (own_here s c.core.slots i (let long = kept.slots.slots in omega (arith, long, below)) is) in
      let t = transfer_of (issued s past) i.work (told.issued s ∙ ap (option_map work_of_issue) mine) in
      record { transfer = t.0; is = t.1.0; kind = ap (λ (w : Work). w.kind) t.1.1 ∙ kind; filled = sym ((told.agrees.issues_agree s i mine).over_is k) ∙ over }

three : (a b c : Bool) → a ≡ true → b ≡ true → c ≡ true → ((a && b) && c) ≡ true
three true true c e f g = g
three true false c e f g = absurd (false≢true f)
three false b c e f g = absurd (false≢true e)

unsent_by : (b x : Bool) → (x ≡ true → b ≡ true) → b ≡ false → x ≡ false
unsent_by b true then' none = absurd (false≢true (sym none ∙ then' refl))
unsent_by b false then' none = refl

-- so it is of a queued read
pub no_queued_read : (n : ℕ) (o : Option Issue) → holds (is_sent_of (λ dev. dev == n)) o ≡ false → (i : Issue) → o ≡ Some i → i.dev ≡ n
    → i.work.kind ≡ QueuedRead → i.sent ≡ false
no_queued_read n o none i is own kind =
    unsent_by (is_sent_of (λ dev. dev == n) i) i.sent
    (λ sent. three (is_queued i.work.kind) (i.dev == n) i.sent (ap is_queued kind) (eq-eqb i.dev n own) sent)
    (sym (ap (holds (is_sent_of (λ dev. dev == n))) is) ∙ none)

-- and of a read that is not queued
pub no_single_read : (r : Kind) (n : ℕ) (o : Option Issue) → is_single_read r ≡ true → holds (is_sent_read n) o ≡ false → (i : Issue) → o ≡ Some i → i.dev ≡ n
    → i.work.kind ≡ r → i.sent ≡ false
no_single_read r n o single none i is own kind =
    unsent_by (is_sent_read n i) i.sent
    (λ sent. three (is_single_read i.work.kind) (i.dev == n) i.sent (ap is_single_read kind ∙ single) (eq-eqb i.dev n own) sent)
    (sym (ap (holds (is_sent_read n)) is) ∙ none)

pub single_reads : (r : Kind) → is_single_read r ≡ true → is_read r ≡ true
single_reads r single = by (is_read r) (not (is_queued r)) single
  where
    by : (a b : Bool) → (a && b) ≡ true → a ≡ true
    by true b e = refl
    by false b e = absurd (false≢true e)

-- over a stretch of calls that begins where none stands
filled_for : Laws → (r : Kind) → is_read r ≡ true → (n : ℕ) → n < 16 → (s k : ℕ) → s < 32 → (old new : ControllerState) (events : List Event) → Runs old events new
    → (past : History) → IsTold (view_of n old.core) past
    → ((i : Issue) → issue_at old.core.slots s ≡ Some i → i.dev ≡ n → i.work.kind ≡ r → i.sent ≡ false)
    → (issue : Issue) → issue_at new.core.slots s ≡ Some issue → issue.dev ≡ n → issue.work.kind ≡ r → is_over issue.over k ≡ true
    → WasBroughtFor r n s k old events new
filled_for laws r reads n low s k below old new events run past told none issue is own kind over =
    let first : Behind r n s k old.core ⊥ =
    record { past = past; told = told; back = λ c. none_at_first r n low s k old (first_kept events old new run) past told none c } in
    let last : Behind r n s k new.core (Then r n s k old events new ⊥) = calls_behind r reads laws n low s k events old new run ⊥ first in
    by (last.back (came_at_last r n low s k new (last_kept events old new run) last.past last.told below issue is own kind over))
  where
    by : Then r n s k old events new ⊥ → WasBroughtFor r n s k old events new
    by (inl none) = absurd none.0
    by (inr b) = b

abbrev pub queued_brings : (n s k : ℕ) (c : ControllerState) (frame : List ℕ) (took : Took) → BringsFor QueuedRead n s k c frame took → Brings n s k c frame took
queued_brings n s k c frame took b = record {
  own = b.own;
  issue = b.issue;
  is = b.is;
  dev = b.dev;
  kind = b.kind_is;
  calm = b.calm;
  wrote = b.wrote;
  brought = b.brought;
  slot_is = b.slot_is;
  whole = b.whole;
  from = b.from;
  to = b.to;
}

pub filled_were_brought : Laws → FilledWereBrought
filled_were_brought laws n low s below old new events run past told none issue is own kind k over =
    let b =
    filled_for laws QueuedRead refl n low s k below old new events run past told (no_queued_read n (issue_at old.core.slots s) none) issue is own kind over in
    record {
      sooner = b.sooner;
      mid = b.mid;
      led = b.led;
      frame = b.frame;
      took = b.took;
      after = b.after;
      takes = b.takes;
      later = b.later;
      rest = b.rest;
      is = b.is;
      brings = queued_brings n s k b.mid b.frame b.took b.brings;
      alone = b.alone;
      once = b.once;
    }

pub filled_singles_were_brought : Laws → FilledSinglesWereBrought
filled_singles_were_brought laws n low s below old new events run past told none issue is own single k over =
    filled_for laws issue.work.kind (single_reads issue.work.kind single) n low s k below old new events run past told
    (no_single_read issue.work.kind n (issue_at old.core.slots s) single none) issue is own refl over
