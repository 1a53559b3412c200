-- No more commands are sent to a device than it ended or answered, and one more where a slot waits. The command that was sent last is the one that waits.
use Rattle.std.proofs.Common.{◌≡◌, ℕ, ◌+◌, ◌<◌, ◌≤◌, ◌&&◌, ◌||◌, Bool, true, false, not, List, [], ◌∷◌, length, refl, sym, ap, subst, ◌∙◌, arith}
use Rattle.std.proofs.{Common.{Option, Some, None}, lemmas.Bool.{eqb-true, false≢true}}
use Rattle.slots.specs.Slots.{Issue, is_waiting, issue_at, own_issue, slots_of}
use Rattle.slots.proofs.Door.{own_at}
use Rattle.hba_fbs.specs.Views.{view_of}
use Rattle.hba_laws.specs.{Agreement.IsTold, History.{History, is_at, waiting_in}}
use Rattle.hba_laws.proofs.Door.{own_here, own_in}
use Rattle.ahci_controller.specs.States.{ControllerState}
use Rattle.ahci_controller.specs.declared.next.Next.TheVariants as next
use Rattle.controller_laws.specs.Events as call
use Rattle.controller_laws.specs.Events.{Does, Event, IsController, Runs}
use Rattle.machine_theorem.specs.{Commands.{AreNotIssued, issues_in}, Ending.{CommandsAwaitEnds, KeepsEnding, SentLastWait, is_data_of, is_ended}}
use Rattle.machine_theorem.specs.{Tags.once_if, Waits.{commanded_in, is_answered, is_commanded, waits_in}}
use Rattle.machine_theorem.proofs.{Shutting.{OneWaits, one_waits, then', told_then, waited, waits_back}, Ordered.last_kept, Unread.is_alone}
use Rattle.machine_theorem.proofs.Waiting.{IsSent, Laws, commanded_free, commanded_waits, first_kept, owner, sent_now}

-- ---- counts

most_one : (b : Bool) → once_if b ≤ 1
most_one true = omega arith
most_one false = omega arith

keeps_one : (a b : Bool) → (a ≡ true → b ≡ true) → once_if a ≤ once_if b
keeps_one true true keeps = omega arith
keeps_one true false keeps = absurd (false≢true (keeps refl))
keeps_one false true keeps = omega arith
keeps_one false false keeps = omega arith

-- where it neither ends nor answers, what waits waits still
or_first : (a b : Bool) → (a || b) ≡ false → a ≡ false
or_first false b e = refl
or_first true b e = absurd (cc)

or_second : (a b : Bool) → (a || b) ≡ false → b ≡ false
or_second false b e = e
or_second true b e = absurd (cc)

data_waits : (d w n : Bool) → (d && (w && not n)) ≡ false → w ≡ true → (d ≡ false → n ≡ true) → n ≡ true
data_waits true true true e waits keeps = refl
data_waits true true false e waits keeps = absurd (cc)
data_waits true false n e waits keeps = absurd (cc)
data_waits false w n e waits keeps = keeps refl

stays : (n : ℕ) (e : Event) (old new : ControllerState) → KeepsEnding n old e new → is_ended n old e new ≡ false → waits_in n old ≡ true → waits_in n new ≡ true
stays n e old new keeps none waits =
    data_waits (is_data_of n e) (waits_in n old) (waits_in n new) (or_second (is_answered n e) _ none) waits (λ other. keeps (or_first (is_answered n e) _ none) other waits)

record Step (n : ℕ) (e : Event) (old new : ControllerState) : Type 0 where
  most : once_if (is_commanded n old e) + once_if (waits_in n old) ≤ once_if (is_ended n old e new) + once_if (waits_in n new)

step : (n : ℕ) (e : Event) (old new : ControllerState) → IsController old → IsController new → Does old e new → KeepsEnding n old e new → Step n e old new
step n e old new k l does keeps = by (is_commanded n old e) (is_ended n old e new) refl refl
  where
    by : (b d : Bool) → is_commanded n old e ≡ b → is_ended n old e new ≡ d → Step n e old new
    by true d is ends =
        let none = ap once_if (commanded_free n e old new k l does is) in
        let now = ap once_if (commanded_waits n e old new k l does is) in
        let one = ap once_if is in
        record { most = omega (arith, none, now, one) }
    by false true is ends =
        let zero = ap once_if is in
        let one = ap once_if ends in
        let most = most_one (waits_in n old) in
        record { most = omega (arith, zero, one, most) }
    by false false is ends =
        let zero = ap once_if is in
        let less = keeps_one (waits_in n old) (waits_in n new) (stays n e old new keeps ends) in
        record { most = omega (arith, zero, less) }

pub await_ends : CommandsAwaitEnds
await_ends n old now [] run keeps = let same : once_if (waits_in n now) ≡ once_if (waits_in n old) = ap (λ (c : ControllerState). once_if (waits_in n c)) run.1 in omega (arith, same)
await_ends n old now (e ∷ later) run keeps =
    let mid : ControllerState = run.1.0 in
    let first = (step n e old mid run.0 (first_kept later mid now run.1.2) run.1.1 keeps.0).most in
    let rest = await_ends n mid now later run.1.2 keeps.1 in
    omega (arith, first, rest)

-- ---- the command that was sent last

record Stays (n s : ℕ) (c : ControllerState) : Type 0 where
  issue : Issue
  mine : own_issue (slots_of n c.core.slots) s ≡ Some issue
  waits : is_waiting issue ≡ true
  past : History
  told : IsTold (view_of n c.core) past

same_slot : (r s : ℕ) (o : Option ℕ) → is_at r o ≡ true → is_at s o ≡ true → r ≡ s
same_slot r s None a b = absurd (cc)
same_slot r s (Some k) a b = sym (eqb-true k r a) ∙ eqb-true k s b

is_there : {C : Type 0} (o : Option Issue) (i : Issue) → o ≡ Some i → o ≡ None → C
is_there o i is none = absurd (by (sym is ∙ none))
  where
    by : Some i ≡ None → ⊥
    by e = cc

no_once : (b : Bool) (m : ℕ) → once_if b + m ≡ 0 → (b ≡ false) × (m ≡ 0)
no_once true m e = absurd (omega (arith, e))
no_once false m e = (refl, omega (arith, e))

module _ (laws : Laws) (n : ℕ) (below : n < 16) where
  -- two slots that wait are one
  one_slot : (c : ControllerState) (past : History) → IsTold (view_of n c.core) past → (r s : ℕ) (i j : Issue)
      → own_issue (slots_of n c.core.slots) r ≡ Some i → is_waiting i ≡ true
      → own_issue (slots_of n c.core.slots) s ≡ Some j → is_waiting j ≡ true → r ≡ s
  one_slot c past told r s i j mine waits other waits_too =
      same_slot r s (waiting_in past) ((told.agrees.issues_agree r i mine).waits_is ∙ waits) ((told.agrees.issues_agree s j other).waits_is ∙ waits_too)

  all_wait : (later : List Event) (old now : ControllerState) (run : Runs old later now) → commanded_in n old later now run ≡ 0 → (past : History)
      → IsTold (view_of n old.core) past
      → waits_in n now ≡ true → waits_in n old ≡ true
  all_wait [] old now run none past told waits = ap (waits_in n) (sym run.1) ∙ waits
  all_wait (e ∷ later) old now run none past told waits =
      let mid : ControllerState = run.1.0 in
      let l : IsController mid = first_kept later mid now run.1.2 in
      let both = no_once (is_commanded n old e) (commanded_in n mid later now run.1.2) none in
      waits_back laws n below e old mid run.0 l run.1.1 past told both.0
      (all_wait later mid now run.1.2 both.1 _ (told_then laws n below e old mid run.0 l run.1.1 past told) waits)

  goes_on : (s : ℕ) (e : Event) (old new : ControllerState) → IsController old → IsController new → (does : Does old e new) → is_commanded n old e ≡ false
      → waits_in n new ≡ true
      → Stays n s old → Stays n s new
  goes_on s e old new k l does none waits was =
      let w : OneWaits n new = one_waits n new waits in
      let it = waited laws n below e old new k l does was.past was.told none w in
      let same : w.slot ≡ s = one_slot old was.past was.told w.slot s it.0 was.issue it.1 it.2 was.mine was.waits in
      record {
        issue = w.issue;
        mine = ap (own_issue (slots_of n new.core.slots)) (sym same) ∙ w.mine;
        waits = w.waits;
        past = then' laws n below e old new k l does was.past was.told;
        told = told_then laws n below e old new k l does was.past was.told;
      }

  none_issued : (s : ℕ) (e : Event) (old new : ControllerState) → IsController old → Does old e new → Stays n s old → issues_in s e ≡ false
  none_issued s e old new k does was = by (issues_in s e) refl
    where
      by : (b : Bool) → issues_in s e ≡ b → b ≡ false
      by true is = is_there (issue_at old.core.slots s) was.issue (own_in n s old.core.slots was.issue was.mine).1 (is_alone e s old new k does is).free
      by false is = refl

  record Behind (s : ℕ) (later : List Event) (now : ControllerState) : Type 0 where
    stays : Stays n s now
    alone : AreNotIssued s later

  behind : (s : ℕ) (later : List Event) (old now : ControllerState) (run : Runs old later now) → commanded_in n old later now run ≡ 0
      → waits_in n now ≡ true → Stays n s old → Behind s later now
  behind s [] old now run none waits was = record { stays = subst (Stays n s) (sym run.1) was; alone = tt }
  behind s (e ∷ later) old now run none waits was =
      let mid : ControllerState = run.1.0 in
      let l : IsController mid = first_kept later mid now run.1.2 in
      let a = no_once (is_commanded n old e) (commanded_in n mid later now run.1.2) none in
      let there : waits_in n mid ≡ true = all_wait later mid now run.1.2 a.1 _ (told_then laws n below e old mid run.0 l run.1.1 was.past was.told) waits in
      let next_is = goes_on s e old mid run.0 l run.1.1 a.0 there was in
      let rest = behind s later mid now run.1.2 a.1 waits next_is in
      record { stays = rest.stays; alone = (none_issued s e old mid run.0 run.1.1 was, rest.alone) }

pub last_waits : Laws → SentLastWait
last_waits laws dev below slot low fis later now last past told waits =
    let x : Event = call.Turned (next.Order dev slot fis) in
    let mid : ControllerState = last.run.1.0 in
    let kept : IsController mid = first_kept later mid now last.run.1.2 in
    let it : IsSent dev slot last.at mid = sent_now dev dev slot fis last.at mid low last.run.0 kept last.run.1.1 last.commanded in
    let first : Stays dev slot mid = record {
      issue = it.issue;
      mine = it.mine;
      waits = it.waits;
      past = then' laws dev below x last.at mid last.run.0 kept last.run.1.1 past told;
      told = told_then laws dev below x last.at mid last.run.0 kept last.run.1.1 past told;
    } in
    let all = behind laws dev below slot later mid now last.run.1.2 last.none waits first in
    let s = all.stays in
    let at = own_in dev slot now.core.slots s.issue s.mine in
    record {
      issue = s.issue;
      is = at.1;
      own = owner dev s.issue (issue_at now.core.slots slot) (sym (own_at dev now.core.slots slot at.0) ∙ s.mine);
      waits = s.waits;
      alone = all.alone;
      others = λ r r_low i is mine waits.
          one_slot laws dev below now s.past s.told r slot i s.issue (subst (λ (k : ℕ). own_issue (slots_of k now.core.slots) r ≡ Some i) mine (own_here r now.core.slots i (low_in r r_low) is)) waits s.mine s.waits;
    }
  where
    low_in : (r : ℕ) → r < 32 → r < length now.core.slots.issues
    low_in r below = let long = (last_kept (call.Turned (next.Order dev slot fis) ∷ later) last.at now last.run).slots.slots in omega (arith, long, below)
