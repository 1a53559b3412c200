-- For `turns_serve`. After one event, everything that is issued is still the driver's.
use Rattle.std.proofs.Common.{◌≡◌, ℕ, ◌+◌, ◌*◌, ◌<◌, ◌≤◌, true, List, [], ◌∷◌, ◌++◌, length, take, drop, refl, sym, ◌∙◌, ap, subst, inl, inr, arith, Option, Some, None}
use Rattle.std.specs.{Prelude.{MatchOption, is_some, slice_index}, Option.option_map}
use Rattle.std.proofs.lemmas.{Bool.cases_lt, List.{ext_get_or, get_or-drop, get_or-take, get_or_past, length-drop, length-take}}
use Rattle.fis_view.specs.{Built.{IsBuilt, h2d_given}, Table.H2d}
use Rattle.host_memory.specs.{Memory.Memory, Reading.AgreeFrom}
use Rattle.host_memory.proofs.Door.{says_the_same}
use Rattle.hba_commands.specs.{Commands.cfis_at, Requests.request_at}
use Rattle.hba_commands.proofs.Door.{header_same}
use Rattle.slots.specs.{Slots.{Issue, issue_at, own_issue, slots_of}, Table.{IsIssue, IsTable}}
use Rattle.hba_fbs.specs.Views.{last_command}
use Rattle.hba_laws.specs.{Agreement.{AreHistoriesOf, work_of_issue, work_of_transfer}, Client.{IsKept, Touches, own}}
use Rattle.hba_laws.specs.{Delivering.{AreSpared, IsFramed, SparesTables, touched, touches_after}, History.{Transfer, issued}}
use Rattle.hba_laws.specs.{Hosts.{HostEvent, Runs}, Between.NoneIssues}
use Rattle.hba_laws.specs.Hosts as event
use Rattle.hba_laws.specs.Sound as sound
use Rattle.hba_laws.proofs.Door.{histories_step, own_here, own_in, the_transfer, was_there}
use Rattle.hba_driver.specs.{declared.mode.Mode.{Mode, TheVariants.{Switching, CommandBased}}, Drivers.{Driver, Entry}, Effects.table_of, Laws.Stands}
use Rattle.hba_driver.specs.{Orders.request_fields, Served.{AreOfOne, HasCommand, HaveCommands, IsServed}}

-- ---- lists of events that serve

-- these events run; the PRDs of issued commands stay, and what is kept stays kept
pub record Rest (d : Driver) (a : event.Host) (es : List HostEvent) (c : event.Host) (past : Touches) : Type 0 where
  pub runs : Runs a es c
  pub hosts : sound.AreHosts a c es runs
  pub spared : AreSpared a c es runs
  pub kept : IsKept past → IsKept (touches_after past a c es runs)
  pub last : IsServed d c (touches_after past a c es runs)

pub rest_none : (d : Driver) (a c : event.Host) (past : Touches) → c ≡ a → sound.IsHost a → IsServed d a past → Rest d a [] c past
rest_none d a c past is host served = record { runs = is; hosts = host; spared = tt; kept = λ k. k; last = subst (λ (h : event.Host). IsServed d h past) (sym is) served }

pub rest_then : (d : Driver) (a b c : event.Host) (e : HostEvent) (es : List HostEvent) (past : Touches) → event.Does a e b → sound.IsHost a → SparesTables a b → (IsKept past → IsKept (touched a e ++ past))
    → Rest d b es c (touched a e ++ past) → Rest d a (e ∷ es) c past
rest_then d a b c e es past does host spares kept rest = record {
  runs = (b, does, rest.runs);
  hosts = (host, rest.hosts);
  spared = (spares, rest.spared);
  kept = λ k. rest.kept (kept k);
  last = rest.last;
}

-- ---- what is issued at the port is in a history

issue_below : (slot : ℕ) (i : Issue) (a : event.Host) → IsTable a.port.slots → issue_at a.port.slots slot ≡ Some i → (slot < length a.port.slots.issues) × (i.dev < 16)
issue_below slot i a table here = elim (cases_lt slot (length a.port.slots.issues)) [
  | inl below ↦ (below, (subst (λ (o : Option Issue). MatchOption o (Unit {0}) IsIssue) here (table.issues slot)).dev_below)
  | inr past ↦ absurd (none_some (sym (get_or_past a.port.slots.issues slot None past) ∙ here))
]
  where
    no_issue : Option Issue
    no_issue = None

    none_some : no_issue ≡ Some i → ⊥
    none_some h = cc

-- the history of its device tells it
pub told_of : (a : event.Host) (past : Touches) → IsTable a.port.slots → AreHistoriesOf a past → (s : ℕ) (i : Issue) → issue_at a.port.slots s ≡ Some i → (t : Transfer) × (issued s (own i.dev past) ≡ Some t)
told_of a past table told s i here =
    let below = issue_below s i a table here in
    let found = the_transfer (issued s (own i.dev past)) (own_issue (slots_of i.dev a.port.slots) s) i (own_here s a.port.slots i below.0 here) ((told i.dev below.1).issued s) in
    (found.0, found.1)

-- and the other way round
pub told_at : (a : event.Host) (past : Touches) → AreHistoriesOf a past → (n s : ℕ) (t : Transfer) → n < 16 → issued s (own n past) ≡ Some t → is_some (issue_at a.port.slots s) ≡ true
told_at a past told n s t below here = by_issue (own_issue (slots_of n a.port.slots) s) refl
  where
    by_issue : (o : Option Issue) → own_issue (slots_of n a.port.slots) s ≡ o → is_some (issue_at a.port.slots s) ≡ true
    by_issue None e =
        let bad : Some t.work ≡ None = sym (ap (option_map work_of_transfer) here) ∙ (told n below).issued s ∙ ap (option_map work_of_issue) e in cc
    by_issue (Some i) e = ap is_some (own_in n s a.port.slots i e).1

-- ---- commands that stand

cfis_same : (at : ℕ) (m n : List ℕ) → length n ≡ length m → AgreeFrom at 4096 m n → cfis_at n at ≡ cfis_at m at
cfis_same at m n long same =
    let a = length-take 20 (drop at n) in
    let b = length-take 20 (drop at m) in
    let c = length-drop at n in
    let d = length-drop at m in
    ext_get_or 0 (take 20 (drop at n)) (take 20 (drop at m)) (omega (arith, a, b, c, d, long)) (λ i h.
    let below : i < 20 = omega (arith, a, h) in
    get_or-take 20 (drop at n) i 0 below ∙ get_or-drop at n i 0 ∙ sym (same i (omega (arith, below))) ∙ sym (get_or-drop at m i 0) ∙ sym (get_or-take 20 (drop at m) i 0 below))

within_table : (at count : ℕ) (m n : List ℕ) → AgreeFrom at 4096 m n → count ≤ 248 → AgreeFrom (at + 128) (16 * count) m n
within_table at count m n same few i h =
    let e : at + (128 + i) ≡ at + 128 + i = omega arith in
    subst (λ (k : ℕ). slice_index m k ≡ slice_index n k) e (same (128 + i) (omega (arith, few, h)))

pub entries_same : (len at count : ℕ) (m n : List ℕ) → length n ≡ length m → AgreeFrom at 4096 m n → count ≤ 248
    → Rattle.host_memory.specs.Reading.prds_at n (at + 128) count ≡ Rattle.host_memory.specs.Reading.prds_at m (at + 128) count
entries_same len at count m n long same few =
    sym (says_the_same len (at + 128) count m n (within_table at count m n same few) (λ h. omega (arith, long, h), λ h. omega (arith, long, h))).entries

pub command_stays : (s : ℕ) (e : Entry) (m n : Memory) → length n.structure ≡ length m.structure → length e.prds ≤ 248 → Stands s m n → HasCommand s e m → HasCommand s e n
command_stays s e m n long few stands h = record {
  header = sym (header_same 0 s m.structure n.structure stands.header) ∙ h.header;
  request = ap (λ (f : List ℕ). request_at f) (cfis_same (table_of s) m.structure n.structure long stands.table) ∙ h.request;
  cfis = subst (λ (f : List ℕ). IsBuilt H2d (h2d_given (request_fields s e.head)) f) (sym (cfis_same (table_of s) m.structure n.structure long stands.table)) h.cfis;
  entries = entries_same (length m.client) (table_of s) (length e.prds) m.structure n.structure long stands.table few ∙ h.entries;
}

-- ---- PRDs that stay

pub spares_by : (d : Driver) (a b : event.Host) (past : Touches) → IsServed d a past → length b.memory.structure ≡ length a.memory.structure
    → ((s : ℕ) → is_some (issue_at a.port.slots s) ≡ true → AgreeFrom (table_of s) 4096 a.memory.structure b.memory.structure) → SparesTables a b
spares_by d a b past served long same s command busy is =
    let at = served.tables s command is in
    let here : AgreeFrom command.table 4096 a.memory.structure b.memory.structure = subst (λ (k : ℕ). AgreeFrom k 4096 a.memory.structure b.memory.structure) (sym at.table) (same s busy) in
    entries_same (length a.memory.client) command.table command.count a.memory.structure b.memory.structure long here at.few

-- ---- an event that issues nothing

-- if nothing more is issued, all is issued to one device still
pub one_still : (mode : Mode) (p q : Touches) → ((n s : ℕ) (t : Transfer) → issued s (own n q) ≡ Some t → issued s (own n p) ≡ Some t) → AreOfOne mode p → AreOfOne mode q
one_still Switching p q back one = tt
one_still CommandBased p q back one = λ n m s r t u here there. one n m s r t u (back n s t here) (back m r u there)

pub calm_event : (d : Driver) (a b : event.Host) (e : HostEvent) (past : Touches) → sound.IsHost a → IsFramed e → event.Does a e b → NoneIssues (touched a e) → b.port.commands ≡ a.port.commands → HaveCommands d b.memory
    → IsServed d a past → IsServed d b (touched a e ++ past)
calm_event d a b e past host framed does none commands stand served = record {
  told = histories_step a host past served.told e b framed does;
  bounded = served.bounded;
  commands = stand;
  issues = λ n s t here. served.issues n s t (was_there n s (touched a e) past t none here);
  fises = λ n s t command here is. served.fises n s t command (was_there n s (touched a e) past t none here) (ap (λ c. last_command c s) (sym commands) ∙ is);
  one = one_still d.plan.mode past (touched a e ++ past) (λ n s t here. was_there n s (touched a e) past t none here) served.one;
  tables = λ s command is. served.tables s command (ap (λ c. last_command c s) (sym commands) ∙ is);
}
