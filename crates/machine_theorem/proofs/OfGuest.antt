-- Each FIS that goes to a device is of a command in a slot, or has what was supplied for it.
use Rattle.std.proofs.Common.{◌≡◌, ◌⊎◌, ℕ, ◌+◌, ◌%◌, ◌<◌, Bool, List, [], ◌∷◌, ◌++◌, append_assoc, append-nil, length, drop, refl, sym, ap, ◌∙◌}
use Rattle.std.proofs.Common.{subst, arith, inl, inr, Contains}
use Rattle.std.specs.Prelude.{slice_index}
use Rattle.fis_view.specs.Frames.{Stamped, marked}
use Rattle.multiplier.specs.State.{pm_port}
use Rattle.ahci_controller.specs.declared.feeding.Fed.{Fed}
use Rattle.ahci_controller.specs.declared.feeding.Fed.TheVariants as fed
use Rattle.ahci_controller.specs.declared.next.Next.TheVariants as next
use Rattle.controller_laws.specs.Events as call
use Rattle.controller_laws.specs.Events.{Event}
use Rattle.sata_disk_laws.specs.Calls.{Call, Hears}
use Rattle.sata_disk_laws.specs.Calls as disk_call
use Rattle.ahci_machine.specs.{Gathers.host_stamp, States.{HasRules, IsOpeningMachine, MachineState}, declared.act.Act.Act}
use Rattle.ahci_machine.specs.declared.act.Act.TheVariants as act
use Rattle.machine_laws.proofs.Due.{there_is}
use Rattle.machine_laws.specs.{ControllerLaws.{ControllerRuns, OpensLawful, OpensSo, RunsRuled, calls_in}, Controllers.{GathersDue, deed_calls}}
use Rattle.machine_laws.specs.{Controllers.{lost_calls, miss_calls, move_calls, rest_calls, supply_calls}, Deeds.{Deed, Does, Moved, Supplied}}
use Rattle.machine_laws.specs.{Deeds.Missed, Falling.sent_in, Feeding.{OpensUnread, came_in, data_with}, Heard.{AllHeard, FellFrom, HeardWereSent}}
use Rattle.machine_laws.specs.{Heard.{IsSentOut, life_in, no_life}, Rising.is_multiplier}
use Rattle.machine_theorem.specs.Guest.{HeardIsOfGuest, IsFed, IsOfGuest, IsOrdered, IsSupplied}
use Rattle.machine_theorem.proofs.{AtMoments.more, Ordered.{IsOrder, append_runs, does_go, fed_low, first_ruled, is_one, loses, misses, none_there}}
use Rattle.machine_theorem.proofs.{Ordered.{not_sent, rests, supplies}, Sent.marked_rest}
use Rattle.machine_theorem.proofs.Ordered as ordered

-- it is of a command, or was gathered for a device
pub record WasGathered (old : MachineState) (deeds : List Deed) (f : Stamped) : Type 0 where
  pub dev : ℕ
  pub front : pm_port f ≡ dev
  pub gathered : IsFed old deeds dev (drop 4 f.bytes)

abbrev Goes : MachineState → List Deed → List Event → Stamped → Type 0
Goes old deeds calls f = IsOrder old.controller calls f ⊎ WasGathered old deeds f

port_of_head : (dev : ℕ) (came : List ℕ) → dev < 16 → slice_index (data_with dev came) 1 % 16 ≡ dev
port_of_head dev came low = omega (arith, low)

module _ (laws : ordered.Laws) (unread : OpensUnread) (f : Stamped) (ports : ℕ) (legacy : Bool) (old : MachineState) (opening : IsOpeningMachine ports legacy old)
    (due_first : GathersDue old) where
  gathers : (past : List Deed) (m : MachineState) (first : RunsRuled old past m) (dev : ℕ) (answer : Fed) (new : MachineState) (does : Does m (Moved (act.Gathers dev answer)) new)
      → does_go answer → HasRules m → GathersDue m → (later : List Deed) → f.bytes ≡ does.does.gathering.bytes → length does.does.gathering.bytes ≡ 4 + does.does.gathering.feed.len
      → WasGathered old (past ++ Moved (act.Gathers dev answer) ∷ later) f
  gathers past m first dev answer new does goes rules due later is long =
      let low : dev < 16 = fed_low m.controller does.middle.controller dev does.does.gathering.feed.number answer rules.slots goes does.does.gathers.gathers in
      let came : List ℕ = came_in dev [] old past m first in
      let whole : f.bytes ≡ data_with dev came =
      is ∙ laws.whole m dev answer new does due came (laws.read dev low old past m first due_first [] (unread ports legacy old opening dev)) in
      let payload : drop 4 f.bytes ≡ came = ap (λ (b : List ℕ). drop 4 b) whole in
      let total : 4 + length came ≡ 4 + does.does.gathering.feed.len = sym (ap (λ (b : List ℕ). length b) whole ∙ four came dev) ∙ ap (λ (b : List ℕ). length b) is ∙ long in
      record {
        dev = dev;
        front = ap (λ (b : List ℕ). slice_index b 1 % 16) whole ∙ port_of_head dev came low;
        gathered = record {
          before = past;
          at = m;
          first = first;
          fed = answer;
          new = new;
          does = does;
          later = later;
          is = refl;
          low = low;
          came = payload;
          long = ap (λ (b : List ℕ). length b) payload ∙ less (length came) does.does.gathering.feed.len total;
        };
      }
    where
      four : (l : List ℕ) (d : ℕ) → length (data_with d l) ≡ 4 + length l
      four l d = omega arith

      less : (a b : ℕ) → 4 + a ≡ 4 + b → a ≡ b
      less a b e = omega (arith, e)

  moved : (past : List Deed) (m : MachineState) (first : RunsRuled old past m) (a : Act) (new : MachineState) (does : Does m (Moved a) new) (events rest : List Event)
      → call.Runs old.controller events m.controller → HasRules m → GathersDue m → (later : List Deed) → Contains (sent_in (move_calls m a does.middle does.does)) f
      → Goes old (past ++ Moved a ∷ later) (events ++ (move_calls m a does.middle does.does ++ rest)) f
  moved past m first (act.Turns (next.Order dev slot fis)) new does events rest so_far rules due later has = inl (record {
    dev = dev;
    slot = slot;
    fis = fis;
    is = is_one f (record { bytes = fis; stamp = host_stamp dev }) has;
    sent = record { before = events; later = rest; is = refl; at = m.controller; first = so_far; ordered = laws.orders m dev slot fis new rules does };
  })
  moved past m first (act.Gathers dev (fed.Goes message line)) new does events rest so_far rules due later has =
      inr (gathers past m first dev (fed.Goes message line) new does tt rules due later
      (ap (λ (g : Stamped). g.bytes) (is_one f (record { bytes = does.does.gathering.bytes; stamp = host_stamp dev }) has))
      (there_is m does.does.place does.does.gathering does.does.there due).whole)
  moved past m first act.Rests new does events rest so_far rules due later has = not_sent (rest_calls m does.middle does.does) f (rests m does.middle does.does) has
  moved past m first (act.Loses why) new does events rest so_far rules due later has = not_sent (lost_calls m.incoming why) f (loses m.incoming why) has
  moved past m first a new does events rest so_far rules due later has = none_there f has

  one : (past : List Deed) (m : MachineState) (first : RunsRuled old past m) (deed : Deed) (new : MachineState) (does : Does m deed new) (events rest : List Event)
      → call.Runs old.controller events m.controller → HasRules m → GathersDue m → (later : List Deed) → Contains (sent_in (deed_calls m deed new does)) f
      → Goes old (past ++ deed ∷ later) (events ++ (deed_calls m deed new does ++ rest)) f
  one past m first (Moved a) new does events rest so_far rules due later has = moved past m first a new does events rest so_far rules due later has
  one past m first (Supplied w bytes) new does events rest so_far rules due later has =
      not_sent (supply_calls w bytes m does.answer new does.supplies) f (supplies w bytes m does.answer new does.supplies) has
  one past m first (Missed w) new does events rest so_far rules due later has = not_sent (miss_calls w m does.answer new does.misses) f (misses w m does.answer new does.misses) has
  one past m first deed new does events rest so_far rules due later has = none_there f has

  pub goes : (past : List Deed) (m : MachineState) (first : RunsRuled old past m) (deeds : List Deed) (now : MachineState) (run : RunsRuled m deeds now) (events : List Event)
      → call.Runs old.controller events m.controller → GathersDue m → IsSentOut f m deeds now run → Goes old (past ++ deeds) (events ++ calls_in m deeds now run) f
  goes past m first [] now run events so_far due sent = absurd sent
  goes past m first (deed ∷ later) now run events so_far due (inl has) =
      one past m first deed run.1.0 run.1.1 events (calls_in run.1.0 later now run.1.2) so_far run.0 due later has
  goes past m first (deed ∷ later) now run events so_far due (inr is) =
      let mid : MachineState = run.1.0 in
      let does : Does m deed mid = run.1.1 in
      let rules : HasRules mid = first_ruled later mid now run.1.2 in
      let calls : List Event = deed_calls m deed mid does in
      let step : RunsRuled m (deed ∷ []) mid = (run.0, (mid, does, (rules, refl))) in
      let by : ControllerRuns m (deed ∷ []) mid step = laws.runs m (deed ∷ []) mid step due in
      let on : call.Runs m.controller calls mid.controller = subst (λ (l : List Event). call.Runs m.controller l mid.controller) (append-nil calls) by.calls in
      subst (λ (l : List Event). Goes old (past ++ deed ∷ later) l f) (append_assoc events calls (calls_in mid later now run.1.2))
      (subst (λ (l : List Deed). Goes old l ((events ++ calls) ++ calls_in mid later now run.1.2) f) (append_assoc past (deed ∷ []) later)
      (goes (past ++ deed ∷ []) mid (more past old m mid deed first does rules) later now run.1.2 (events ++ calls)
      (append_runs events calls old.controller m.controller mid.controller so_far on) by.due is))

-- ---- what is heard

pub weaker : (P Q : List ℕ → Type 0) → ((bytes : List ℕ) → P bytes → Q bytes) → (calls : List Call) → AllHeard P calls → AllHeard Q calls
weaker P Q step [] h = tt
weaker P Q step (Hears bytes ∷ later) h = (step bytes h.0, weaker P Q step later h.1)
weaker P Q step (disk_call.Plugs ∷ later) h = weaker P Q step later h
weaker P Q step (disk_call.Starts x ∷ later) h = weaker P Q step later h
weaker P Q step (disk_call.Asks r ∷ later) h = weaker P Q step later h
weaker P Q step (disk_call.Answers number a ∷ later) h = weaker P Q step later h
weaker P Q step (disk_call.Sends o ∷ later) h = weaker P Q step later h

pub record Laws : Type 0 where
  pub orders : ordered.Laws
  pub opens : OpensLawful
  pub unread : OpensUnread
  pub heard : HeardWereSent

module _ (old : MachineState) (deeds : List Deed) (now : MachineState) (run : RunsRuled old deeds now) (n : ℕ) (bytes : List ℕ) where
  abbrev Fell : Type 0
  Fell = FellFrom (λ f. IsSentOut f old deeds now run) (is_multiplier now.fan) n bytes

  of_guest : (fell : Fell) → Goes old deeds (calls_in old deeds now run) fell.frame → IsOfGuest old deeds now run n bytes
  of_guest fell (inl order) =
      IsOrdered order.dev order.slot order.fis order.sent (fell.is ∙ ap (λ (f : Stamped). marked f.bytes 0) order.is)
      (λ many. ap pm_port (sym order.is) ∙ fell.port many)
  of_guest fell (inr data_of) =
      IsSupplied data_of.dev
      (subst (λ (l : List ℕ). IsFed old deeds data_of.dev l) (sym (ap (λ (b : List ℕ). drop 4 b) fell.is ∙ marked_rest fell.frame.bytes 0)) data_of.gathered)
      (λ many. sym data_of.front ∙ fell.port many)

pub heard_is : Laws → HeardIsOfGuest
heard_is laws ports legacy old opening deeds now run n =
    let opened : OpensSo old = laws.opens ports legacy old opening (first_ruled deeds old now run) in
    let rules : HasRules old = first_ruled deeds old now run in
    weaker (λ bytes. FellFrom (λ f. IsSentOut f old deeds now run) (is_multiplier now.fan) n bytes) (IsOfGuest old deeds now run n)
    (λ bytes fell. of_guest old deeds now run n bytes fell
    (goes laws.orders laws.unread fell.frame ports legacy old opening opened.due [] old (rules, refl) deeds now run []
    (record { port = rules.port; slots = rules.slots; rules = rules.rules }, refl) opened.due fell.of))
    (life_in n no_life old deeds now run).calls (laws.heard ports legacy old opening deeds now run n)
