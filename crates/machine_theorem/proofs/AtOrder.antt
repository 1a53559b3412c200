-- The last FIS of a stretch that asks the disk for the tag: it went from the slot of this number, and nothing was issued there since.
use Rattle.std.proofs.{Common.{◌≡◌, ℕ, ◌+◌, ◌≤◌, Bool, true, List, [], ◌∷◌, ◌++◌, length, refl, sym, ap, subst, ◌∙◌, arith}, lemmas.Bool.and_parts}
use Rattle.std.proofs.lemmas.Bool.{eqb-true}
use Rattle.std.specs.Prelude.{if◌then◌else◌}
use Rattle.fis_view.specs.Frames.{Stamped, marked}
use Rattle.slots.specs.Slots.{holds, issue_at}
use Rattle.ahci_controller.specs.declared.next.Next.TheVariants as next
use Rattle.controller_laws.specs.Events as call
use Rattle.controller_laws.specs.Events.{Event}
use Rattle.ahci_machine.specs.{Gathers.host_stamp, States.{HasRules, MachineState}}
use Rattle.ahci_machine.specs.declared.act.Act.TheVariants as act
use Rattle.machine_laws.specs.{ControllerLaws.{OpensSo, calls_in}, Controllers.GathersDue, Deeds.{Deed, Does, Moved}, Falling.sent_in}
use Rattle.machine_laws.specs.Feeding.{OrdersAreIssued}
use Rattle.machine_theorem.specs.{Commands.{AreNotIssued, IsSentFrom}, Identity.{asked_of, asks_of, heard_as, is_for}, Orders.{fallen_in, is_fallen}}
use Rattle.machine_theorem.specs.{Orders.{is_ordered, is_sent_of, ordered_in, standing_in}, Tags.once_if}
use Rattle.machine_theorem.proofs.{Asking.{DataAskNone, deed_none, picked}, AtMoments.more, AtEnd.{Laws, due_now}, Cut.{Cut, HasLast, LastOf}}
use Rattle.machine_theorem.proofs.{Cut.last_of, FallsFew.none_few, LastSaid.{IsAsk, all_asks, ask_is, asks_by, sent_both}, OneConn.ends_same}
use Rattle.machine_theorem.proofs.{OneConn.no_length, Ordered.first_ruled, Own.last_ruled, StillStands.{none_issued, once_most}, Stretch.Stretch}
use Rattle.machine_theorem.proofs.Stretch.{asked, counts, due_at, falls, front, orders, own, stands, whole_run}

abbrev pub orders_it : (s : Stretch) → (dev slot : ℕ) → (fis : List ℕ) → Deed
orders_it s dev slot fis = Moved (act.Turns (next.Order dev slot fis))

abbrev stamped : ℕ → List ℕ → Stamped
stamped dev fis = record { bytes = fis; stamp = host_stamp dev }

-- ---- the last that asks

pub record LastOrder (s : Stretch) : Type 0 where
  pub dev : ℕ
  pub fis : List ℕ
  pub own : is_for s.many s.n (record { bytes = fis; stamp = host_stamp dev }) ≡ true
  pub asks : asks_of s.tag (marked fis 0) ≡ true
  pub last : LastOf (asks_by s.many s.n s.tag) (Moved (act.Turns (next.Order dev s.tag fis))) s.at s.deeds s.now s.run

-- it is from the slot
ordered_at : (s : Stretch) (dev slot : ℕ) (fis : List ℕ) (c : Cut (orders_it s dev slot fis) s.at s.deeds s.now s.run) → is_for s.many s.n (stamped dev fis) ≡ true → asks_of s.tag (marked fis 0) ≡ true
    → is_ordered (own s) s.tag c.mid.controller (call.Turned (next.Order dev slot fis)) ≡ true
ordered_at s dev slot fis c mine asks = (c.keeps s.many s.n s.tag s.keeps).1.tagged mine asks

pub last_order : Laws → (s : Stretch) → 1 ≤ length (asked s) → LastOrder s
last_order laws s some =
    let all = all_asks s.many s.n s.tag s.deeds s.at s.now s.run in
    let it : HasLast (asks_by s.many s.n s.tag) s.at s.deeds s.now s.run = last_of (asks_by s.many s.n s.tag) s.deeds s.at s.now s.run (omega (arith, some, all)) in
    let c = it.last.cut in
    let opens : OpensSo s.old = laws.slots.facts.falls.opens s.ports s.legacy s.old s.opening (first_ruled s.before s.old s.at s.first) in
    let t : Stretch = front s it.deed c in
    let none : DataAskNone s.tag _ = deed_none laws.slots.data_of s.tag s.ports s.legacy s.old s.opening opens.due (s.before ++ c.sooner) c.mid
    (whole_run s.before s.old s.at s.first c.sooner c.mid c.led).all it.deed c.next c.does (last_ruled c.sooner s.at c.mid c.led) (due_now laws t) in
    let ask : IsAsk s.many s.n s.tag it.deed = ask_is s.many s.n s.tag c.mid it.deed c.next c.does none it.last.here in
    let last : LastOf (asks_by s.many s.n s.tag) (orders_it s ask.dev ask.slot ask.fis) s.at s.deeds s.now s.run =
    subst (λ (d : Deed). LastOf (asks_by s.many s.n s.tag) d s.at s.deeds s.now s.run) ask.is it.last in
    let here : ask.slot ≡ s.tag = eqb-true ask.slot s.tag (and_parts _ _ (ordered_at s ask.dev ask.slot ask.fis last.cut ask.own ask.asks)).0 in
    record {
      dev = ask.dev;
      fis = ask.fis;
      own = ask.own;
      asks = ask.asks;
      last = subst (λ (k : ℕ). LastOf (asks_by s.many s.n s.tag) (orders_it s ask.dev k ask.fis) s.at s.deeds s.now s.run) here last;
    }

-- ---- it alone

pub one_asks : (s : Stretch) (f : Stamped) → is_for s.many s.n f ≡ true → asks_of s.tag (heard_as f) ≡ true → asked_of s.many s.n s.tag (f ∷ []) ≡ heard_as f ∷ []
one_asks s f mine asks =
    picked (asks_of s.tag) (is_for s.many s.n f) f ∙ ap (λ (b : Bool). if b then (if asks_of s.tag (heard_as f) then heard_as f ∷ [] else []) else []) mine
    ∙ ap (λ (b : Bool). if b then heard_as f ∷ [] else []) asks

-- no bit falls as a command is sent
none_falls : Laws → (s : Stretch) (dev slot : ℕ) (fis : List ℕ) (new : MachineState) → Does s.now (orders_it s dev slot fis) new → HasRules new
    → once_if (is_fallen (own s) s.tag s.now.controller new.controller) ≤ 0
none_falls laws s dev slot fis new does rules =
    none_few laws.slots.facts s.many s.n s.tag s.low s.ports s.legacy s.old s.opening (s.before ++ s.deeds) s.now (whole_run s.before s.old s.at s.first s.deeds s.now s.run).all
    (orders_it s dev slot fis) new does rules (λ e. e) (is_fallen (own s) s.tag s.now.controller new.controller) refl

record Numbers (later after : ℕ) : Type 0 where
  none : later ≡ 0
  stands : after ≡ 1

-- of a that asked and o that were sent, f fell, and s stood before the last, s1 behind it
pub record Sums (a a1 o o1 o2 f f1 g f2 s s1 e : ℕ) : Type 0 where
  pub asks : a ≡ a1 + 1
  pub orders : o ≡ o1 + (1 + o2)
  pub falls : f ≡ f1 + (g + f2)
  pub some : a ≡ e + 1
  pub whole : o ≡ e + 1
  pub few : f ≤ e
  pub none : g ≤ 0
  pub asked : a1 ≤ o1
  pub ordered : o1 ≤ f1 + s
  pub step : (1 + 0) + s ≤ (g + 0) + s1
  pub one : s ≤ 1
  pub most : s1 ≤ 1

sums : (a a1 o o1 o2 f f1 g f2 s s1 e : ℕ) → Sums a a1 o o1 o2 f f1 g f2 s s1 e → Numbers f2 s1
sums a a1 o o1 o2 f f1 g f2 s s1 e q =
    let p1 = q.asks in
    let p2 = q.orders in
    let p3 = q.falls in
    let p4 = q.some in
    let p5 = q.whole in
    let p6 = q.few in
    let p7 = q.none in
    let p8 = q.asked in
    let p9 = q.ordered in
    let p10 = q.step in
    let p12 = q.most in
    record { none = omega (arith, p1, p3, p4, p6, p7, p8, p9, p10, p12); stands = omega (arith, p7, p10, p12) }

-- ---- since it was sent

pub record AtOrder (s : Stretch) (o : LastOrder s) : Type 0 where
  pub ordered : IsSentFrom s.at.controller (calls_in s.at s.deeds s.now s.run) o.dev s.tag o.fis
  pub alone : AreNotIssued s.tag ordered.later
  pub is : (xs : List (List ℕ)) (y : List ℕ) → asked s ≡ xs ++ y ∷ [] → y ≡ marked o.fis 0

-- As many were sent from the slot as asked for the tag, one more than fell.
pub at_order : (laws : Laws) → OrdersAreIssued → (s : Stretch) (o : LastOrder s) (e : ℕ) → length (asked s) ≡ e + 1 → orders s ≡ e + 1 → falls s ≤ e → AtOrder s o
at_order laws law s o e some whole few =
    let c = o.last.cut in
    let f : Stamped = stamped o.dev o.fis in
    let deed : Deed = orders_it s o.dev s.tag o.fis in
    let x : Event = call.Turned (next.Order o.dev s.tag o.fis) in
    let t : Stretch = front s deed c in
    let rest : List Event = calls_in c.next c.later s.now c.rest in
    let rules : HasRules c.mid = last_ruled c.sooner s.at c.mid c.led in
    let rules_next : HasRules c.next = first_ruled c.later c.next s.now c.rest in
    let due : GathersDue s.at = due_at laws.slots s in
    let led = laws.slots.facts.falls.runs s.at c.sooner c.mid c.led due in
    let here : asked_of s.many s.n s.tag (sent_in (x ∷ [])) ≡ marked o.fis 0 ∷ [] = one_asks s f o.own o.asks in
    let none_later : length (asked_of s.many s.n s.tag (sent_in rest)) ≡ 0 = sym (all_asks s.many s.n s.tag c.later c.next s.now c.rest) ∙ o.last.none in
    let parts : asked s ≡ asked t ++ marked o.fis 0 ∷ [] =
    ap (λ (l : List Event). asked_of s.many s.n s.tag (sent_in l)) c.events ∙ sent_both s.many s.n s.tag (calls_in s.at c.sooner c.mid c.led) (x ∷ rest)
    ∙ ap (λ (l : List (List ℕ)). asked t ++ l) (sent_both s.many s.n s.tag (x ∷ []) rest ∙ ap (λ (l : List (List ℕ)). l ++ asked_of s.many s.n s.tag (sent_in rest)) here
    ∙ ap (λ (l : List (List ℕ)). marked o.fis 0 ∷ l) (no_length (asked_of s.many s.n s.tag (sent_in rest)) none_later)) in
    let a_all = ap (λ (l : List (List ℕ)). length l) parts in
    let a_sum = long_more (asked t) (marked o.fis 0) in
    let ordered_one : once_if (is_ordered (own s) s.tag c.mid.controller x) ≡ 1 = ap once_if (ordered_at s o.dev s.tag o.fis c o.own o.asks) in
    let o_all = c.ordered (own s) s.tag in
    let k = counts laws.slots t in
    let none = none_falls laws t o.dev s.tag o.fis c.next c.does rules_next in
    let step = laws.slots.once s.ports s.legacy s.old s.opening (s.before ++ c.sooner) c.mid (whole_run s.before s.old s.at s.first c.sooner c.mid c.led).all
    (deed ∷ []) c.next (rules, (c.next, c.does, (rules_next, refl))) (own s) s.tag s.low in
    let after : ℕ = standing_in (own s) s.tag c.next.controller in
    let n = sums (length (asked s)) (length (asked t)) (orders s) (orders t) (ordered_in (own s) s.tag c.next c.later s.now c.rest) (falls s) (falls t)
    (once_if (is_fallen (own s) s.tag c.mid.controller c.next.controller)) (fallen_in (own s) s.tag c.next c.later s.now c.rest) (stands t) after e (record {
      asks = omega (arith, a_all, a_sum);
      orders = omega (arith, o_all, ordered_one);
      falls = c.fallen (own s) s.tag;
      some = some;
      whole = whole;
      few = few;
      none = none;
      asked = k.asked;
      ordered = k.ordered;
      step = omega (arith, step, ordered_one);
      one = k.one;
      most = once_most (holds (is_sent_of (own s)) (issue_at c.next.controller.core.slots s.tag));
    }) in
    record {
      ordered = record {
        before = calls_in s.at c.sooner c.mid c.led;
        later = rest;
        is = c.events;
        at = c.mid.controller;
        first = led.calls;
        ordered = law c.mid o.dev s.tag o.fis c.next rules c.does;
      };
      alone = none_issued laws.stands s.ports s.legacy s.old s.opening (own s) s.tag s.low ((s.before ++ c.sooner) ++ deed ∷ []) c.next
          (more (s.before ++ c.sooner) s.old c.mid c.next deed (whole_run s.before s.old s.at s.first c.sooner c.mid c.led).all c.does rules_next) c.later s.now c.rest
          (laws.stands.due c.mid deed c.next c.does led.due) n.stands n.none;
      is = λ xs y same. ends_same xs (asked t) y (marked o.fis 0) (sym same ∙ parts);
    }
  where
    long_more : (l : List (List ℕ)) (y : List ℕ) → length (l ++ y ∷ []) ≡ length l + 1
    long_more [] y = refl
    long_more (x ∷ l) y = let rest = long_more l y in omega (arith, rest)
