-- Each bit of the slot that falls as a FIS is taken falls by one that came, names the tag, and is of the port.
use Rattle.std.proofs.Common.{◌≡◌, ℕ, ◌+◌, ◌<◌, ◌≤◌, ◌&&◌, Bool, true, false, not, List, [], ◌∷◌, ◌++◌, length, Ok, refl, sym, ap, subst, ◌∙◌, arith}
use Rattle.std.proofs.{Common.{All, Contains}, lemmas.{Bool.{and_parts, eq-eqb, eqb-true, false≢true}, List.{length-append, Elements.{All-append}}}}
use Rattle.std.proofs.lemmas.List.Elements.{All-contains, All-cons, All-nil, All-same, Contains-append_right, Contains-push}
use Rattle.std.specs.Prelude.{◌==◌, ◌||◌, if◌then◌else◌}
use Rattle.fis_view.specs.{Frames.Stamped, Seen.seen, Table.{Bits, SActive, field}}
use Rattle.pm_ports.specs.declared.port.Offered.TheVariants.{Held}
use Rattle.multiplier.specs.State.{pm_port}
use Rattle.fan_out.specs.{Calls.{FanCall, Offer}, declared.fan_out.FanOut.FanOut}
use Rattle.slots.specs.Slots.{has_bit, holds, issue_at}
use Rattle.ahci_registers.specs.declared.register.Register.TheVariants.{PxSact}
use Rattle.ahci_controller.specs.{Reading.shown, States.ControllerState, declared.taking.Took.Took}
use Rattle.ahci_machine.specs.States.{HasRules, IsOpeningMachine, MachineState}
use Rattle.ahci_machine.specs.declared.act.Act.TheVariants as act
use Rattle.machine_laws.specs.{ControllerLaws.RunsRuled, Deeds.{Deed, Does, Moved, Wrote}, Rising.{Frames, HaveRisen, IsOfDevice, Sends, came_by}}
use Rattle.machine_laws.specs.Rising.{frames_after, is_multiplier, risen, sent_call}
use Rattle.machine_laws.proofs.RisRun.{crosses}
use Rattle.machine_theorem.specs.{Ends.{MayEnd, OthersEndNone}, Identity.{AllKeep, IsThere, Spares, names_in, own_of, picks}, Orders.fallen_in}
use Rattle.machine_theorem.specs.{Orders.{is_fallen, is_queued_of}, Tags.once_if}
use Rattle.machine_theorem.proofs.{AtMoments.more, EndsFew.straight_port, Falls.{Laws, named_by, naming, some_named, told_now}, Names.IsNamingOf}
use Rattle.machine_theorem.proofs.{Ordered.first_ruled, Risen.names_of, Within.picks_both}

-- ---- what came

abbrev pub came_of : (old : MachineState) → (deeds : List Deed) → (now : MachineState) → RunsRuled old deeds now → List Stamped
came_of old [] now run = []
came_of old (deed ∷ later) now run = came_by old deed run.1.0 run.1.1 ++ came_of run.1.0 later now run.1.2

-- What a device straight behind the link sends has the stamp of port 0.
abbrev IsStraight : Stamped → Type 0
IsStraight f = f.stamp.port ≡ 0

sent_straight : (end : FanOut) (call : FanCall) → is_multiplier end ≡ false → All IsStraight (sent_call end call)
sent_straight end (Offer k frame (Ok Held) waits) is = All-cons IsStraight (risen end k frame) [] (straight_port end k frame is) (All-nil IsStraight)
sent_straight end call is = All-nil IsStraight

all_straight : (old new : FanOut) (calls : List FanCall) (sent : List Stamped) → Sends old calls sent new → is_multiplier new ≡ false → All IsStraight sent
all_straight old new [] sent sends is = All-same IsStraight sent [] sends.1 (All-nil IsStraight)
all_straight old new (call ∷ calls) sent sends is =
    let one = sent_straight old call (crosses old new (call ∷ calls) sent sends ∙ is) in
    let rest = all_straight sends.0 new calls sends.2.0 sends.2.2 is in
    All-same IsStraight sent (sent_call old call ++ sends.2.0) sends.2.1 (All-append IsStraight (sent_call old call) sends.2.0 one rest)

-- ---- one fall

fallen_parts : (own : ℕ → Bool) (slot : ℕ) (old new : ControllerState) → is_fallen own slot old new ≡ true
    → (has_bit (shown PxSact old) slot ≡ true) × (has_bit (shown PxSact new) slot ≡ false) × (holds (is_queued_of own) (issue_at old.core.slots slot) ≡ true)
fallen_parts own slot old new is = by (has_bit (shown PxSact old) slot) (has_bit (shown PxSact new) slot) (holds (is_queued_of own) (issue_at old.core.slots slot)) is
  where
    by : (a b c : Bool) → (a && not b && c) ≡ true → (a ≡ true) × (b ≡ false) × (c ≡ true)
    by true false true e = (refl, refl, refl)
    by true false false e = absurd (cc)
    by true true c e = absurd (cc)
    by false b c e = absurd (cc)

or_second : (many b : Bool) → (not many || b) ≡ true → many ≡ true → b ≡ true
or_second true b e is = e
or_second false b e is = absurd (false≢true is)

pub record Facts : Type 0 where
  pub falls : Laws
  pub others : OthersEndNone

port_is : (many : Bool) (n : ℕ) (f : Stamped) (dev : ℕ) → own_of many n dev ≡ true → dev ≡ pm_port f → (many ≡ true → pm_port f ≡ f.stamp.port) → (many ≡ false → f.stamp.port ≡ n) → f.stamp.port ≡ n
port_is true n f dev mine own up straight = sym (up refl) ∙ sym own ∙ eqb-true dev n (or_second true (dev == n) mine refl)
port_is false n f dev mine own up straight = straight refl

and_both : (a b : Bool) → a ≡ true → b ≡ true → (a && b) ≡ true
and_both true b e f = f
and_both false b e f = absurd (cc)

length_one : (b : Bool) (f : Stamped) → b ≡ true → 1 ≤ length (if b then f ∷ [] else [])
length_one true f e = omega arith
length_one false f e = absurd (cc)

least : (k : ℕ) → 0 ≤ k
least k = omega arith

module _ (laws : Facts) (many : Bool) (n tag : ℕ) (low : tag < 32) (ports : ℕ) (legacy : Bool) (first : MachineState) (opening : IsOpeningMachine ports legacy first) where
  pub taken_names : (past : List Deed) (now : MachineState) (so_far : RunsRuled first past now) (took : Took) (new : MachineState) (does : Does now (Moved (act.Takes took)) new)
      → HasRules now → HasRules new → IsThere many n new → (frames : Frames) → HaveRisen now frames
      → is_fallen (own_of many n) tag now.controller new.controller ≡ true → names_of n tag does.does.frame ≡ true
  taken_names past now so_far took new does rules rules_new there frames risen fallen =
      let h = does.does in
      let deed : Deed = Moved (act.Takes took) in
      let parts = fallen_parts (own_of many n) tag now.controller new.controller fallen in
      let t = told_now laws.falls ports legacy first opening past now so_far in
      let named = named_by laws.falls now took new does rules rules_new t tag low parts.0 parts.1 in
      let of : IsNamingOf h.frame.bytes named.mask = naming laws.falls now h.frame.bytes t.past tag named in
      let bit : has_bit (field Bits SActive h.frame.bytes) tag ≡ true = subst (λ (y : ℕ). has_bit y tag ≡ true) of.mask_is named.names in
      let names : names_in tag (seen h.frame.bytes) ≡ true = ap (names_in tag) of.viewed ∙ bit in
      let after : Frames = frames_after frames now deed new does in
      let risen_now : HaveRisen new after = laws.falls.rising now (deed ∷ []) new (rules, (new, does, (rules_new, refl))) frames risen in
      let has : Contains after.came h.frame = Contains-append_right frames.came (h.frame ∷ []) h.frame (Contains-push [] h.frame) in
      let device : IsOfDevice new after h.frame =
      laws.falls.naming new after risen_now h.frame has h.framed (record { viewed = of.viewed; some = some_named laws.falls (field Bits SActive h.frame.bytes) tag bit }) in
      let mine : is_queued_of (own_of many n) named.issue ≡ true = ap (holds (is_queued_of (own_of many n))) (sym named.is) ∙ parts.2 in
      let port : h.frame.stamp.port ≡ n = port_is many n h.frame named.issue.dev (and_parts _ _ mine).1 named.own
      (λ is. (device.port (there.fan ∙ is)).1)
      (λ is. let straight = all_straight risen_now.first new.fan risen_now.calls after.sent risen_now.sends (there.fan ∙ is) in
      All-contains IsStraight after.sent h.frame straight device.sent ∙ sym (there.one is)) in
      and_both (h.frame.stamp.port == n) (names_in tag (seen h.frame.bytes)) (eq-eqb h.frame.stamp.port n port) names

  takes_few : (past : List Deed) (now : MachineState) (so_far : RunsRuled first past now) (took : Took) (new : MachineState) (does : Does now (Moved (act.Takes took)) new)
      → HasRules now → HasRules new → IsThere many n new → (frames : Frames) → HaveRisen now frames
      → (b : Bool) → is_fallen (own_of many n) tag now.controller new.controller ≡ b → once_if b ≤ length (picks (names_of n tag) (does.does.frame ∷ []))
  takes_few past now so_far took new does rules rules_new there frames risen true fallen =
      length_one (names_of n tag does.does.frame) does.does.frame (taken_names past now so_far took new does rules rules_new there frames risen fallen)
  takes_few past now so_far took new does rules rules_new there frames risen false fallen = least (length (picks (names_of n tag) (does.does.frame ∷ [])))

  pub none_few : (past : List Deed) (now : MachineState) (so_far : RunsRuled first past now) (deed : Deed) (new : MachineState) → Does now deed new → HasRules new → (MayEnd deed → ⊥)
      → (b : Bool) → is_fallen (own_of many n) tag now.controller new.controller ≡ b → once_if b ≤ 0
  none_few past now so_far deed new does rules never true fallen =
      let parts = fallen_parts (own_of many n) tag now.controller new.controller fallen in
      absurd (never (laws.others ports legacy first opening past now so_far deed new does rules tag low parts.0 parts.1))
  none_few past now so_far deed new does rules never false fallen = omega arith

  deed_few : (past : List Deed) (now : MachineState) (so_far : RunsRuled first past now) (deed : Deed) (new : MachineState) (does : Does now deed new)
      → HasRules now → HasRules new → IsThere many n new → (frames : Frames) → HaveRisen now frames
      → Spares many n tag now.controller deed new.controller → once_if (is_fallen (own_of many n) tag now.controller new.controller) ≤ length (picks (names_of n tag) (came_by now deed new does))
  deed_few past now so_far (Moved (act.Takes took)) new does rules rules_new there frames risen spares =
      takes_few past now so_far took new does rules rules_new there frames risen (is_fallen (own_of many n) tag now.controller new.controller) refl
  deed_few past now so_far (Wrote offset width value written) new does rules rules_new there frames risen spares =
      let none : once_if (is_fallen (own_of many n) tag now.controller new.controller) ≡ 0 = ap once_if spares in
      omega (arith, none)
  deed_few past now so_far deed new does rules rules_new there frames risen spares =
      let few = none_few past now so_far deed new does rules_new (λ e. e) (is_fallen (own_of many n) tag now.controller new.controller) refl in
      let some = least (length (picks (names_of n tag) (came_by now deed new does))) in
      omega (arith, few, some)

  pub first_there : (deeds : List Deed) (old now : MachineState) (run : RunsRuled old deeds now) → AllKeep many n tag old deeds now run → IsThere many n old
  first_there [] old now run keeps = keeps
  first_there (deed ∷ later) old now run keeps = keeps.0.end

  pub falls_few : (past : List Deed) (old : MachineState) (so_far : RunsRuled first past old) (frames : Frames) → HaveRisen old frames
      → (deeds : List Deed) (now : MachineState) (run : RunsRuled old deeds now) → AllKeep many n tag old deeds now run
      → fallen_in (own_of many n) tag old deeds now run ≤ length (picks (names_of n tag) (came_of old deeds now run))
  falls_few past old so_far frames risen [] now run keeps = omega arith
  falls_few past old so_far frames risen (deed ∷ later) now run keeps =
      let mid : MachineState = run.1.0 in
      let does : Does old deed mid = run.1.1 in
      let rules : HasRules mid = first_ruled later mid now run.1.2 in
      let one = deed_few past old so_far deed mid does run.0 rules (first_there later mid now run.1.2 keeps.1) frames risen keeps.0.spares in
      let after : Frames = frames_after frames old deed mid does in
      let risen_now : HaveRisen mid after = laws.falls.rising old (deed ∷ []) mid (run.0, (mid, does, (rules, refl))) frames risen in
      let rest = falls_few (past ++ deed ∷ []) mid (more past first old mid deed so_far does rules) after risen_now later now run.1.2 keeps.1 in
      let a : length (picks (names_of n tag) (came_by old deed mid does ++ came_of mid later now run.1.2))
      ≡ length (picks (names_of n tag) (came_by old deed mid does)) + length (picks (names_of n tag) (came_of mid later now run.1.2)) =
      ap (λ (l : List Stamped). length l) (picks_both (names_of n tag) (came_by old deed mid does) (came_of mid later now run.1.2))
      ∙ length-append (picks (names_of n tag) (came_by old deed mid does)) (picks (names_of n tag) (came_of mid later now run.1.2)) in
      omega (arith, one, rest, a)
