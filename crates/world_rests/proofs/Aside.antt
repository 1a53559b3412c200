-- For `asides_recover`. While requests of a device are set aside, the device recovers, or a search found none at its port.
use Rattle.std.proofs.Common.{◌≡◌, ◌≢◌, ℕ, ◌+◌, ◌<◌, ◌⊎◌, ◌==◌, ◌&&◌, Bool, true, false, nat_lt, not, if◌then◌else◌, List, get_or, length, map, set}
use Rattle.std.proofs.{Common.{refl, sym, ap, subst, ◌∙◌, inl, inr, Option, Some, None, arith}, lemmas.Bool.{and_parts, cases_eq, cases_lt, eq-eqb}}
use Rattle.std.proofs.lemmas.{Bool.{eqb-true, false≢true, lt-ltb, true≢false}, List.{get_or_past, get_or-set_same, length-set}}
use Rattle.std.proofs.lemmas.List.FromFn.{get_or-map-range_with_len, length-map-range_with_len}
use Rattle.std.specs.{Prelude.{is_some, nat_le, slice_index_or}, List.range_with_len, Option.{option_map, option_or}}
use Rattle.slots.specs.Slots.{has_bit, lowest_below, match_some}
use Rattle.hba_driver.specs.declared.{mode.Mode.{Mode, TheVariants.{CommandBased, Switching}}, order.Order.{Order, TheVariants.AwaitSignature}}
use Rattle.hba_driver.specs.declared.{order.Order.TheVariants.{Clear, CountPorts, Detect, Enable, Open, ResetOn, Scan, Watch}, path.Path.Path}
use Rattle.hba_driver.specs.declared.path.{Recovery.{Recovery, TheVariants.{Log, Reset}}, Stage.{Stage, TheVariants.{AssertReset, Identify, ReadLog}}}
use Rattle.hba_driver.specs.declared.{path.TaskFile.TaskFile, plan.{Device.{Device, TheVariants.{Absent, Ready, Recovering}}, Plan.Plan}}
use Rattle.hba_driver.specs.declared.{request.Outcome.{Outcome, TheVariants.{Aborted, Done, PortError, Removed}}, slot.Phase.Phase}
use Rattle.hba_driver.specs.{declared.slot.Phase.TheVariants.{Aside, Ended, Issued}, Drivers.{Driver, Entry, device_at, entry_at, has_ended}}
use Rattle.hba_driver.specs.{Drivers.{has_ended_in, holds, is_aside, is_aside_in, rephase_all, rephased, with_device}, Orders.{next_order, open_from}}
use Rattle.hba_driver.specs.{Orders.{order_fields, scan_from}, Paths.{first_stage, next_stage, recovery, stage_fields}, Seeing.Sight, Steady.detects}
use Rattle.hba_driver.specs.Ticks.{acted, after_tick, done_ended, entries_after, from_reset, is_aside_of, is_done, is_named_of, is_open, is_open_of}
use Rattle.hba_driver.specs.{Ticks.{log_outcome, logged_ended, ordered, plan_after, recovering, removed, stage_ended, unless}, Turns.advanced}
use Rattle.hba_driver.specs.Turns.{allowed, answered, control_news, control_seen, control_turn, detected, device_due, device_logged}
use Rattle.hba_driver.specs.Turns.{device_or_request, device_seen, device_turn, early_due, fault_due, found_of, is_back, is_due, is_out, is_there}
use Rattle.hba_driver.specs.Turns.{issue_of, logged_by, may_issue, met, met_order, met_path, met_stage, noted, opening_due, order_allowed, order_due}
use Rattle.hba_driver.specs.Turns.{path_answered, path_due, path_met, path_to, plain_turn, request_due, restart_due, signed_order, stage_due}
use Rattle.hba_driver.specs.Turns.{stage_for, step_of, turn_of, with_next}
use Rattle.hba_driver.proofs.Door.{set_cases, set_other}

-- ---- what holds of the plan while requests of a device are set aside

-- slot 30 reads a log
abbrev pub IsLog : Stage → Type 0
IsLog (ReadLog file) = Unit {0}
IsLog stage = ⊥

-- no device was found at the port, and none is looked for
pub record IsGone (n : ℕ) (plan : Plan) : Type 0 where
  pub absent : device_at plan n ≡ Absent
  pub unsought : detects n plan.asked plan.order ≡ true → ⊥

-- the device recovers, or none was found; slot 30 works on it only to read its log
pub record MayHold (n : ℕ) (plan : Plan) : Type 0 where
  pub device : ((way : Recovery) × (device_at plan n ≡ Recovering way)) ⊎ IsGone n plan
  pub path : (p : Path) → plan.path ≡ Some p → p.dev ≡ n → IsLog p.stage

-- a request of the device is set aside
pub record HasAside (n : ℕ) (entries : List (Option Entry)) : Type 0 where
  pub slot : ℕ
  pub entry : Entry
  pub stands : entry_at entries slot ≡ Some entry
  pub of_dev : entry.head.dev ≡ n
  pub aside : is_aside entry.head ≡ true

holds_as : (n : ℕ) (p q : Plan) → device_at q n ≡ device_at p n → ((x : Path) → q.path ≡ Some x → x.dev ≡ n → p.path ≡ Some x) → (detects n q.asked q.order ≡ true → detects n p.asked p.order ≡ true)
    → MayHold n p → MayHold n q
holds_as n p q device path order h = record {
  device = elim h.device [
    | inl on ↦ inl (on.0, device ∙ on.1)
    | inr gone ↦ inr (record { absent = device ∙ gone.absent; unsought = λ on. gone.unsought (order on) })
  ];
  path = λ x here to. h.path x (path x here to) to;
}

-- ---- lists

-- an element that is set, or past the end
same_or_past : (devices : List Device) (n : ℕ) (device : Device) → (get_or (set devices n device) n Absent ≡ device) ⊎ (get_or (set devices n device) n Absent ≡ Absent)
same_or_past devices n device = elim (cases_lt n (length devices)) [
  | inl below ↦ inl (get_or-set_same devices n device Absent below)
  | inr past ↦ inr (get_or_past (set devices n device) n Absent (omega (arith, past, length-set devices n device)))
]

pub none_some : {X : Type 0} (e : Entry) → None ≡ Some e → X
none_some e is = cc is

-- a slot of a list that is made anew slot by slot, and has as many
at_mapped : (f : ℕ → Option Entry → Option Entry) → ((s : ℕ) → f s None ≡ None) → (entries : List (Option Entry)) (s : ℕ)
    → entry_at (map (λ slot. f slot (entry_at entries slot)) (range_with_len 0 (length entries))) s ≡ f s (entry_at entries s)
at_mapped f none entries s = elim (cases_lt s (length entries)) [
  | inl below ↦ get_or-map-range_with_len (λ slot. f slot (entry_at entries slot)) 0 (length entries) s s None below (omega arith)
  | inr past ↦
      get_or_past (map (λ slot. f slot (entry_at entries slot)) (range_with_len 0 (length entries))) s None
      (omega (arith, past, length-map-range_with_len (λ slot. f slot (entry_at entries slot)) 0 (length entries)))
      ∙ sym (ap (f s) (get_or_past entries s None past) ∙ none s)
]

-- those of a test end
abbrev ends_if : (ℕ → Option Entry → Bool) → Outcome → ℕ → Option Entry → Option Entry
ends_if test o s x = if test s x then option_map (rephased (Ended o)) x else x

ends_none : (test : ℕ → Option Entry → Bool) (o : Outcome) (s : ℕ) → ends_if test o s None ≡ None
ends_none test o s = by_test (test s None)
  where
    by_test : (b : Bool) → (if b then option_map (rephased (Ended o)) None else None) ≡ None
    by_test true = refl
    by_test false = refl

-- what is set aside then was set aside before, and is none of them
kept_aside : (b : Bool) (o : Outcome) (x : Option Entry) (e : Entry) → (if b then option_map (rephased (Ended o)) x else x) ≡ Some e → is_aside e.head ≡ true → (x ≡ Some e) × (b ≡ false)
kept_aside true o None e is aside = none_some e is
kept_aside true o (Some f) e is aside = let one : rephased (Ended o) f ≡ e = cc is in absurd (false≢true (ap (λ (x : Entry). is_aside x.head) one ∙ aside))
kept_aside false o x e is aside = (is, refl)

pub aside_open : (p : Phase) → is_aside_in p ≡ true → not (has_ended_in p) ≡ true
aside_open Aside is = refl
aside_open other is = absurd (false≢true is)

both_true : (a b c : Bool) → a ≡ true → b ≡ true → (a && b) ≡ false → ⊥
both_true true true c x y z = true≢false z
both_true false b c x y z = false≢true x
both_true true false c x y z = false≢true y

module _ (n : ℕ) where
  ended_aside : (test : ℕ → Option Entry → Bool) (o : Outcome) (entries : List (Option Entry))
      → HasAside n (map (λ slot. ends_if test o slot (entry_at entries slot)) (range_with_len 0 (length entries)))
      → (a : HasAside n entries) × (test a.slot (Some a.entry) ≡ false)
  ended_aside test o entries a =
      let both = kept_aside (test a.slot (entry_at entries a.slot)) o (entry_at entries a.slot) a.entry (sym (at_mapped (ends_if test o) (ends_none test o) entries a.slot) ∙ a.stands) a.aside in
      (record { slot = a.slot; entry = a.entry; stands = both.0; of_dev = a.of_dev; aside = a.aside }, sym (ap (test a.slot) both.0) ∙ both.1)

  pub done_before : (issued : ℕ) (entries : List (Option Entry)) → HasAside n (done_ended issued entries) → HasAside n entries
  unfolding rephase_all
  done_before issued entries a = (ended_aside (λ slot x. holds (is_done issued slot) x) Done entries a).0

  -- none of a device is set aside after those of it ended that were
  aborted : (dev : ℕ) (entries : List (Option Entry)) → HasAside n (rephase_all (is_aside_of dev) (Ended Aborted) entries) → HasAside n entries × (dev ≢ n)
  unfolding rephase_all
  aborted dev entries a =
      let one = ended_aside (λ slot x. holds (is_aside_of dev slot) x) Aborted entries a in
      (one.0, λ same. both_true (one.0.entry.head.dev == dev) (is_aside one.0.entry.head) true (eq-eqb one.0.entry.head.dev dev (one.0.of_dev ∙ sym same)) one.0.aside one.1)

  -- or all of it
  removes : (dev : ℕ) (entries : List (Option Entry)) → HasAside n (rephase_all (is_open_of dev) (Ended Removed) entries) → HasAside n entries × (dev ≢ n)
  unfolding rephase_all
  removes dev entries a =
      let one = ended_aside (λ slot x. holds (is_open_of dev slot) x) Removed entries a in
      (one.0, λ same. both_true (one.0.entry.head.dev == dev) (not (has_ended one.0.entry.head)) true (eq-eqb one.0.entry.head.dev dev (one.0.of_dev ∙ sym same)) (aside_open one.0.entry.head.phase one.0.aside) one.1)

  -- or everything
  stopped : (entries : List (Option Entry)) → HasAside n (rephase_all is_open (Ended PortError) entries) → ⊥
  unfolding rephase_all
  stopped entries a =
      let one = ended_aside (λ slot x. holds (is_open slot) x) PortError entries a in
      true≢false (sym (aside_open one.0.entry.head.phase one.0.aside) ∙ one.1)

  -- after a log came, that ended those of its device
  log_aside : (v : Sight) (dev : ℕ) (file : TaskFile) (entries : List (Option Entry)) → HasAside n (logged_ended v.log (Some (record { dev = dev; file = file })) entries) → HasAside n entries × (dev ≢ n)
  unfolding rephase_all
  log_aside v dev file entries a =
      let outer = aborted dev (rephase_all (is_named_of v.log dev) (Ended (log_outcome v.log file)) entries) a in
      ((ended_aside (λ slot x. holds (is_named_of v.log dev slot) x) (log_outcome v.log file) entries outer.0).0, outer.1)

-- ---- slot 31

scan_never : (n found from : ℕ) → detects n false (scan_from found from) ≡ true → ⊥
unfolding scan_from
scan_never n found from on = by_lowest (lowest_below (λ port. nat_le from port && has_bit found port) 15) on
  where
    by_lowest : (o : Option ℕ) → detects n false (match_some o Watch Clear) ≡ true → ⊥
    by_lowest None on = false≢true on
    by_lowest (Some p) on = false≢true on

open_never : (n ports from : ℕ) → detects n false (open_from ports from) ≡ true → ⊥
open_never n ports from on = by_test (nat_lt from ports) on
  where
    by_test : (b : Bool) → detects n false (if b then Open from else Scan) ≡ true → ⊥
    by_test true on = false≢true on
    by_test false on = false≢true on

module _ (n : ℕ) (v : Sight) (plan : Plan) (h : MayHold n plan) where
  -- a search at the port of a device that recovers finds it, or none
  found_here : plan.order ≡ Detect n → MayHold n (with_next (Detect n) (noted v (Detect n) plan))
  unfolding noted next_order
  found_here is = record { device = by_device h.device; path = h.path }
    where
      by_there : (b : Bool) (way : Recovery) (d : Device) → d ≡ (if b then Recovering way else Absent) → ((w : Recovery) × (d ≡ Recovering w)) ⊎ (d ≡ Absent)
      by_there true way d is = inl (way, is)
      by_there false way d is = inr is

      gone : device_at (with_device n (detected v.answer (device_at plan n)) plan) n ≡ Absent → IsGone n (with_next (Detect n) (noted v (Detect n) plan))
      gone none = record { absent = none; unsought = λ on. scan_never n plan.found (n + 1) on }

      by_device : ((way : Recovery) × (device_at plan n ≡ Recovering way)) ⊎ IsGone n plan
          → ((way : Recovery) × (device_at (with_next (Detect n) (noted v (Detect n) plan)) n ≡ Recovering way)) ⊎ IsGone n (with_next (Detect n) (noted v (Detect n) plan))
      by_device (inr none) = absurd (none.unsought (subst (λ (o : Order). detects n plan.asked o ≡ true) (sym is) (eq-eqb n n refl)))
      by_device (inl on) = elim (same_or_past plan.devices n (detected v.answer (device_at plan n))) [
        | inl set_is ↦
            elim (by_there (is_there v.answer) on.0 _ (set_is ∙ ap (detected v.answer) on.1)) [ inl there ↦ inl there | inr none ↦ inr (gone none) ]
        | inr past ↦ inr (gone past)
      ]

  answers : (order : Order) → plan.order ≡ order → plan.asked ≡ true → order ≢ Detect n → MayHold n (with_next order (noted v order plan))
  unfolding noted next_order
  answers Enable is asked other = holds_as n plan _ refl (λ x here to. here) (λ on. absurd (open_never n plan.ports 0 on)) h
  answers (Open port) is asked other = holds_as n plan _ refl (λ x here to. here) (λ on. absurd (open_never n plan.ports (port + 1) on)) h
  answers Scan is asked other = holds_as n plan _ refl (λ x here to. here) (λ on. absurd (scan_never n v.answer 0 on)) h
  answers (Clear port) is asked other =
      holds_as n plan _ refl (λ x here to. here) (λ on. subst (λ (o : Order). detects n plan.asked o ≡ true) (sym is) (subst (λ (b : Bool). detects n b (Clear port) ≡ true) (sym asked) on)) h
  answers (Detect port) is asked other =
      holds_as n plan _ (set_other plan.devices port n (detected v.answer (device_at plan port)) (λ e. other (ap Detect (sym e)))) (λ x here to. here)
      (λ on. absurd (scan_never n plan.found (port + 1) on)) h
  answers rest is asked other = holds_as n plan (with_next rest (noted v rest plan)) refl (λ x here to. here) (λ on. absurd (false≢true on)) h

  detect_or_not : (o : Order) → (o ≡ Detect n) ⊎ (o ≢ Detect n)
  detect_or_not (Detect port) = elim (cases_eq port n) [ inl same ↦ inl (ap Detect same) | inr other ↦ inr (λ e. other (let same : port ≡ n = cc e in same)) ]
  detect_or_not o = inr (λ e. cc e)

  answered_by : (a out : Bool) → plan.asked ≡ a → MayHold n (if a && not out then with_next plan.order (noted v plan.order plan) else plan)
  answered_by true false asked = elim (detect_or_not plan.order) [
    | inl is ↦ subst (λ (o : Order). MayHold n (with_next o (noted v o plan))) (sym is) (found_here is)
    | inr other ↦ answers plan.order refl asked other
  ]
  answered_by true true asked = h
  answered_by false out asked = h

  answered_holds : MayHold n (answered v plan)
  answered_holds = answered_by plan.asked (is_out v plan) refl

signed_never : (n : ℕ) (v : Sight) → detects n false (signed_order v) ≡ true → ⊥
signed_never n v on = by_test v.resetting (v.answer == 0x96690101) on
  where
    by_test : (b c : Bool) → detects n false (if b then AwaitSignature else if c then CountPorts else ResetOn) ≡ true → ⊥
    by_test true c on = false≢true on
    by_test false true on = false≢true on
    by_test false false on = false≢true on

met_never : (n : ℕ) (v : Sight) (order : Order) → detects n false (met_order v order) ≡ true → detects n false order ≡ true
unfolding met_order
met_never n v AwaitSignature on = absurd (signed_never n v on)
met_never n v Watch on = by_test v.notified on
  where
    by_test : (b : Bool) → detects n false (if b then Scan else Watch) ≡ true → detects n false Watch ≡ true
    by_test true on = on
    by_test false on = on
met_never n v other on = on

met_holds : (n : ℕ) (v : Sight) (plan : Plan) → MayHold n plan → MayHold n (met v plan)
met_holds n v plan h = by_asked plan.asked refl
  where
    by_asked : (a : Bool) → plan.asked ≡ a → MayHold n (if a then plan else record plan { order = met_order v plan.order })
    by_asked true is = h
    by_asked false is =
        holds_as n plan _ refl (λ x here to. here)
        (λ on. subst (λ (b : Bool). detects n b plan.order ≡ true) (sym is) (met_never n v plan.order (subst (λ (b : Bool). detects n b (met_order v plan.order) ≡ true) is on))) h

control_holds : (n : ℕ) (v : Sight) (plan : Plan) → MayHold n plan → MayHold n (control_seen v plan)
control_holds n v plan h = met_holds n v (answered v plan) (answered_holds n v plan h)

-- ---- slot 30

same_path : (x y : Path) → Some x ≡ Some y → x ≡ y
same_path x y is = cc is

no_path : {X : Type 0} (x : Path) → None ≡ Some x → X
no_path x is = cc is

path_dev : (dev : ℕ) (stage : Option Stage) (x : Path) → path_to dev stage ≡ Some x → x.dev ≡ dev
path_dev dev None x is = no_path x is
path_dev dev (Some s) x is = let next : Path = record { dev = dev; stage = s; asked = false } in ap (λ (p : Path). p.dev) (sym (same_path next x is))

met_log : (v : Sight) (dev : ℕ) (stage : Stage) → IsLog stage → IsLog (met_stage v dev stage)
unfolding met_stage
met_log v dev (ReadLog file) is = is
met_log v dev stage is = absurd is

path_met_holds : (n : ℕ) (v : Sight) (plan : Plan) → MayHold n plan → MayHold n (path_met v plan)
path_met_holds n v plan h = record {
  device = elim h.device [ inl on ↦ inl on | inr gone ↦ inr (record { absent = gone.absent; unsought = gone.unsought }) ];
  path = λ x here to. by_path plan.path refl x here to;
}
  where
    by_asked : (path : Path) (b : Bool) → (path.dev ≡ n → IsLog path.stage) → (x : Path) → (if b then path else record path { stage = met_stage v path.dev path.stage }) ≡ x → x.dev ≡ n → IsLog x.stage
    by_asked path true log x is to = subst (λ (p : Path). IsLog p.stage) is (log (ap (λ (p : Path). p.dev) is ∙ to))
    by_asked path false log x is to = subst (λ (p : Path). IsLog p.stage) is (met_log v path.dev path.stage (log (ap (λ (p : Path). p.dev) is ∙ to)))

    by_path : (o : Option Path) → plan.path ≡ o → (x : Path) → option_map (met_path v) o ≡ Some x → x.dev ≡ n → IsLog x.stage
    by_path None is x here to = no_path x here
    by_path (Some path) is x here to = by_asked path path.asked (λ its. h.path path is its) x (same_path (met_path v path) x here) to

module _ (n : ℕ) (v : Sight) (plan : Plan) (entries : List (Option Entry)) (below : n < length plan.devices) (h : HasAside n entries → MayHold n plan) where
  -- the log of the device came: it was not whole, or its requests ended
  log_here : (path : Path) → path.dev ≡ n → (stage : Stage) → IsLog stage → HasAside n (logged_ended v.log (logged_by v path.dev stage) entries)
      → HasAside n entries × MayHold n (record (found_of v stage path.dev plan) { path = path_to path.dev (next_stage stage) })
  unfolding found_of next_stage logged_by
  log_here path to (ReadLog file) is a = by_whole v.log.whole a
    where
      by_whole : (b : Bool) → HasAside n (logged_ended v.log (if b then Some (record { dev = path.dev; file = file }) else None) entries)
          → HasAside n entries × MayHold n (record (with_device path.dev (if b then Ready else Recovering Reset) plan) { path = None })
      by_whole true a = absurd ((log_aside n v path.dev file entries a).1 to)
      by_whole false a = (
        a,
        record {
          device = inl (
            Reset,
            subst (λ (k : ℕ). get_or (set plan.devices k (Recovering Reset)) n Absent ≡ Recovering Reset) (sym to)
                (get_or-set_same plan.devices n (Recovering Reset) Absent below),
          );
          path = λ x here there. no_path x here;
        },
      )
  log_here path to stage is a = absurd is

  found_beside : (stage : Stage) (dev : ℕ) → n ≢ dev → (device_at (found_of v stage dev plan) n ≡ device_at plan n)
      × (((found_of v stage dev plan).asked ≡ plan.asked) × ((found_of v stage dev plan).order ≡ plan.order))
  unfolding found_of
  found_beside Identify dev other = (set_other plan.devices dev n _ other, (refl, refl))
  found_beside (ReadLog file) dev other = (set_other plan.devices dev n _ other, (refl, refl))
  found_beside stage dev other = (refl, (refl, refl))

  log_before : (dev : ℕ) (stage : Stage) → HasAside n (logged_ended v.log (logged_by v dev stage) entries) → HasAside n entries
  unfolding logged_by
  log_before dev (ReadLog file) a = by_whole v.log.whole a
    where
      by_whole : (b : Bool) → HasAside n (logged_ended v.log (if b then Some (record { dev = dev; file = file }) else None) entries) → HasAside n entries
      by_whole true a = (log_aside n v dev file entries a).0
      by_whole false a = a
  log_before dev stage a = a

  other_path : (path : Path) → path.dev ≢ n → MayHold n plan → MayHold n (advanced v path plan)
  other_path path other =
      let same = found_beside path.stage path.dev (λ e. other (sym e)) in
      holds_as n plan (advanced v path plan) same.0 (λ x here to. absurd (other (sym (path_dev path.dev (next_stage path.stage) x here) ∙ to)))
      (λ on. subst (λ (o : Order). detects n plan.asked o ≡ true) same.1.1 (subst (λ (b : Bool). detects n b (found_of v path.stage path.dev plan).order ≡ true) same.1.0 on))

  path_holds : (o : Option Path) → plan.path ≡ o
      → HasAside n (logged_ended v.log (match_some o None (λ path. if is_back v path then logged_by v path.dev path.stage else None)) entries)
      → HasAside n entries × MayHold n (match_some o plan (λ path. if is_back v path then advanced v path plan else plan))
  path_holds None is a = (a, h a)
  path_holds (Some path) is a = by_back (is_back v path) a
    where
      by_back : (b : Bool) → HasAside n (logged_ended v.log (if b then logged_by v path.dev path.stage else None) entries) → HasAside n entries × MayHold n (if b then advanced v path plan else plan)
      by_back true a = elim (cases_eq path.dev n) [
        | inl to ↦ log_here path to path.stage ((h (log_before path.dev path.stage a)).path path is to) a
        | inr apart ↦ let before : HasAside n entries = log_before path.dev path.stage a in (before, other_path path apart (h before))
      ]
      by_back false a = (a, h a)

  device_holds : HasAside n (logged_ended v.log (device_logged v plan) entries) → HasAside n entries × MayHold n (device_seen v plan)
  device_holds a = let both = path_holds plan.path refl a in (both.0, path_met_holds n v (path_answered v plan) both.1)

-- ---- the plan knows as many devices

noted_long : (v : Sight) (o : Order) (plan : Plan) → length (noted v o plan).devices ≡ length plan.devices
unfolding noted
noted_long v (Detect port) plan = length-set plan.devices port _
noted_long v o plan = refl

if_long : (b : Bool) (p q : Plan) (k : ℕ) → length p.devices ≡ k → length q.devices ≡ k → length (if b then p else q).devices ≡ k
if_long true p q k one two = one
if_long false p q k one two = two

control_long : (v : Sight) (plan : Plan) → length (control_seen v plan).devices ≡ length plan.devices
control_long v plan =
    let first : length (answered v plan).devices ≡ length plan.devices =
    if_long (plan.asked && not (is_out v plan)) (with_next plan.order (noted v plan.order plan)) plan (length plan.devices) (noted_long v plan.order plan) refl in
    if_long (answered v plan).asked (answered v plan) (record (answered v plan) { order = met_order v (answered v plan).order }) (length plan.devices) first first

found_long : (v : Sight) (stage : Stage) (dev : ℕ) (plan : Plan) → length (found_of v stage dev plan).devices ≡ length plan.devices
unfolding found_of
found_long v Identify dev plan = length-set plan.devices dev _
found_long v (ReadLog file) dev plan = length-set plan.devices dev _
found_long v stage dev plan = refl

device_long : (v : Sight) (plan : Plan) → length (device_seen v plan).devices ≡ length plan.devices
device_long v plan = by_path plan.path
  where
    by_path : (o : Option Path) → length (match_some o plan (λ path. if is_back v path then advanced v path plan else plan)).devices ≡ length plan.devices
    by_path None = refl
    by_path (Some path) = if_long (is_back v path) (advanced v path plan) plan (length plan.devices) (found_long v path.stage path.dev plan) refl

-- ---- what is due

unless_here : (dev : ℕ) (o : Option Path) (x : Path) → unless dev o ≡ Some x → (o ≡ Some x) × (x.dev ≢ dev)
unless_here dev None x is = no_path x is
unless_here dev (Some path) x is = by_test (path.dev == dev) refl is
  where
    by_test : (b : Bool) → (path.dev == dev) ≡ b → (if b then None else Some path) ≡ Some x → (Some path ≡ Some x) × (x.dev ≢ dev)
    by_test true t is = no_path x is
    by_test false t is = (is, λ same. true≢false (sym (eq-eqb path.dev dev (ap (λ (p : Path). p.dev) (same_path path x is) ∙ same)) ∙ t))

-- what holds of none and of each that is due
module _ {A : Type 0} (P : Option A → Type 0) (none : P None) where
  or_by : (a b : Option A) → P a → P b → P (option_or a b)
  or_by None b one two = two
  or_by (Some x) b one two = one

  if_by : (b : Bool) (x : A) → (b ≡ true → P (Some x)) → P (if b then Some x else None)
  if_by true x one = one refl
  if_by false x one = none

  else_by : (b : Bool) (x : A) (o : Option A) → P (Some x) → P o → P (if b then Some x else o)
  else_by true x o one two = one
  else_by false x o one two = two

  unless_by : (b : Bool) (o : Option A) → P o → P (if b then None else o)
  unless_by true o one = none
  unless_by false o one = one

  allow_by : (o : Option A) (t : A → Bool) → P o → P (match_some o None (λ a. if t a then Some a else None))
  allow_by None t one = none
  allow_by (Some a) t one = if_by (t a) a (λ on. one)

  map_by : {B : Type 0} (f : B → A) (o : Option B) → ((x : B) → P (Some (f x))) → P (option_map f o)
  map_by f None each = none
  map_by f (Some x) each = each x

  match_by : {B : Type 0} (f : B → Option A) (o : Option B) → ((x : B) → o ≡ Some x → P (f x)) → P (match_some o None f)
  match_by f None each = none
  match_by f (Some x) each = each x refl

module _ (n : ℕ) (low : n < 15) (v : Sight) (file : TaskFile) (d : Driver) (below : n < length d.plan.devices) (h : HasAside n d.entries → MayHold n d.plan) where
  same_plan : (q : Plan) → device_at q n ≡ device_at d.plan n → q.path ≡ d.plan.path → (detects n q.asked q.order ≡ true → detects n d.plan.asked d.plan.order ≡ true) → HasAside n d.entries → MayHold n q
  same_plan q device path order a = holds_as n d.plan q device (λ x here to. sym path ∙ here) order (h a)

  -- another device recovers, or this one does
  recovers_here : (dev : ℕ) → dev ≡ n → MayHold n (recovering dev file d.plan)
  recovers_here dev same = record {
    device = inl (
      recovery (device_at d.plan dev) file,
      subst (λ (k : ℕ). get_or (set d.plan.devices k (Recovering (recovery (device_at d.plan dev) file))) n Absent ≡ Recovering (recovery (device_at d.plan dev) file)) (sym same)
          (get_or-set_same d.plan.devices n (Recovering (recovery (device_at d.plan dev) file)) Absent below),
    );
    path = λ x here to. absurd ((unless_here dev d.plan.path x here).1 (to ∙ sym same));
  }

  recovers_other : (dev : ℕ) → dev ≢ n → MayHold n d.plan → MayHold n (recovering dev file d.plan)
  recovers_other dev other = holds_as n d.plan (recovering dev file d.plan) (set_other d.plan.devices dev n _ (λ e. other (sym e))) (λ x here to. (unless_here dev d.plan.path x here).0) (λ on. on)

  cleared_here : (b : Bool) (dev : ℕ) → nat_lt dev 15 ≡ b → dev ≡ n → MayHold n (if b then recovering dev file d.plan else from_reset d.plan)
  cleared_here true dev is same = recovers_here dev same
  cleared_here false dev is same = absurd (true≢false (sym (lt-ltb dev 15 (omega (arith, same, low))) ∙ is))

  cleared_other : (b : Bool) (dev : ℕ) → dev ≢ n → MayHold n d.plan → MayHold n (if b then recovering dev file d.plan else from_reset d.plan)
  cleared_other true dev other = recovers_other dev other
  cleared_other false dev other = holds_as n d.plan (from_reset d.plan) refl (λ x here to. here) (λ on. absurd (false≢true on))

  -- a request of another device was set aside before
  aside_if : ℕ → ℕ → Option Entry → Option Entry
  aside_if dev s x = if holds (is_open_of dev s) x then option_map (rephased Aside) x else x

  other_aside : (dev : ℕ) → dev ≢ n → HasAside n (rephase_all (is_open_of dev) Aside d.entries) → HasAside n d.entries
  unfolding rephase_all aside_if
  other_aside dev other a = by_entry (entry_at d.entries a.slot) refl (sym (at_mapped (aside_if dev) (λ s. refl) d.entries a.slot) ∙ a.stands)
    where
      by_test : (f : Entry) (b : Bool) → entry_at d.entries a.slot ≡ Some f → is_open_of dev a.slot f.head ≡ b → (if b then Some (rephased Aside f) else Some f) ≡ Some a.entry → HasAside n d.entries
      by_test f true there t is =
          let one : rephased Aside f ≡ a.entry = cc is in
          let its : f.head.dev ≡ n = ap (λ (x : Entry). x.head.dev) one ∙ a.of_dev in
          let same : f.head.dev ≡ dev = eqb-true f.head.dev dev (and_parts (f.head.dev == dev) (not (has_ended f.head)) t).0 in
          absurd (other (sym same ∙ its))
      by_test f false there t is = record { slot = a.slot; entry = a.entry; stands = there ∙ is; of_dev = a.of_dev; aside = a.aside }

      by_entry : (o : Option Entry) → entry_at d.entries a.slot ≡ o → aside_if dev a.slot o ≡ Some a.entry → HasAside n d.entries
      by_entry None there is = none_some a.entry is
      by_entry (Some f) there is = by_test f (is_open_of dev a.slot f.head) there refl is

  clears : (dev : ℕ) → HasAside n (rephase_all (is_open_of dev) Aside d.entries) → MayHold n (if nat_lt dev 15 then recovering dev file d.plan else from_reset d.plan)
  clears dev a = elim (cases_eq dev n) [
    | inl same ↦ cleared_here (nat_lt dev 15) dev refl same
    | inr other ↦ cleared_other (nat_lt dev 15) dev other (h (other_aside dev other a))
  ]

  -- ---- a fault, or what opens the port

  early_holds : HasAside n (acted (early_due v d.plan) file d).entries → MayHold n (acted (early_due v d.plan) file d).plan
  unfolding plan_after entries_after early_due
  early_holds =
      or_by (λ o. HasAside n (acted o file d).entries → MayHold n (acted o file d).plan) h (opening_due d.plan) (option_or (restart_due d.plan) (fault_due v))
      (if_by (λ o. HasAside n (acted o file d).entries → MayHold n (acted o file d).plan) h (nat_lt d.plan.opened 7) _ (λ on. same_plan _ refl refl (λ sought. sought)))
      (or_by (λ o. HasAside n (acted o file d).entries → MayHold n (acted o file d).plan) h (restart_due d.plan) (fault_due v)
      (if_by (λ o. HasAside n (acted o file d).entries → MayHold n (acted o file d).plan) h (nat_lt d.plan.restarted 2) _ (λ on. same_plan _ refl refl (λ sought. sought)))
      (else_by (λ o. HasAside n (acted o file d).entries → MayHold n (acted o file d).plan) h v.stopped _ _ (λ a. absurd (stopped n d.entries a))
      (map_by (λ o. HasAside n (acted o file d).entries → MayHold n (acted o file d).plan) h _ v.faulty (λ dev. clears dev))))

  -- ---- slot 31

  orders_clear : (port : ℕ) → Clear port ≡ d.plan.order → HasAside n (removed (Clear port) d.entries) → MayHold n (ordered (Clear port) d.plan)
  orders_clear port is a =
      let both = removes n port d.entries a in
      holds_as n d.plan (ordered (Clear port) d.plan) (set_other d.plan.devices port n Absent (λ e. both.1 (sym e))) (λ x here to. (unless_here port d.plan.path x here).0)
      (λ on. absurd (both.1 (eqb-true port n (subst (λ (o : Order). detects n true o ≡ true) (sym is) on)))) (h both.0)

  on_still : (o : Order) → ((p : ℕ) → o ≡ Clear p → ⊥) → detects n true o ≡ true → detects n d.plan.asked o ≡ true
  on_still (Detect port) other on = on
  on_still (Clear port) other on = absurd (other port refl)
  on_still o other on = absurd (false≢true on)

  orders_other : (o : Order) → o ≡ d.plan.order → ((p : ℕ) → o ≡ Clear p → ⊥) → MayHold n d.plan → MayHold n (record d.plan { asked = true })
  orders_other o is other =
      holds_as n d.plan (record d.plan { asked = true }) refl (λ x here to. here)
      (λ on. subst (λ (k : Order). detects n d.plan.asked k ≡ true) is (on_still o other (subst (λ (k : Order). detects n true k ≡ true) (sym is) on)))

  orders : (o : Order) → o ≡ d.plan.order → HasAside n (removed o d.entries) → MayHold n (ordered o d.plan)
  orders (Clear port) is a = orders_clear port is a
  orders o is a = orders_other o is (λ p e. cc e) (h a)

  order_holds : HasAside n (acted (order_due d.plan) file d).entries → MayHold n (acted (order_due d.plan) file d).plan
  unfolding plan_after entries_after
  order_holds =
      unless_by (λ o. HasAside n (acted o file d).entries → MayHold n (acted o file d).plan) h d.plan.asked _
      (map_by (λ o. HasAside n (acted o file d).entries → MayHold n (acted o file d).plan) h _ (order_fields d.plan.order) (λ fields. orders d.plan.order refl))

  allowed_order : (m : Mode) (entries : List (Option Entry)) → HasAside n (acted (allowed m v d.plan entries (order_due d.plan)) file d).entries → MayHold n (acted (allowed m v d.plan entries (order_due d.plan)) file d).plan
  allowed_order Switching entries = order_holds
  allowed_order CommandBased entries = allow_by (λ o. HasAside n (acted o file d).entries → MayHold n (acted o file d).plan) h (order_due d.plan) _ order_holds

  -- ---- slot 30

  -- the stage is that of the path, or the first of the device
  abbrev IsDue : ℕ → Stage → Type 0
  IsDue dev stage = ((x : Path) × ((d.plan.path ≡ Some x) × ((x.dev ≡ dev) × (x.stage ≡ stage)))) ⊎ (stage_for v d.plan dev ≡ Some stage)

  -- while requests of the device are set aside, it is that of a log
  stage_here : (stage : Stage) → IsDue n stage → HasAside n (stage_ended n stage d.entries) → MayHold n d.plan → IsLog stage
  stage_here stage due a m = elim due [
    | inl goes ↦ subst IsLog goes.1.1.1 (m.path goes.0 goes.1.0 goes.1.1.0)
    | inr first ↦ elim m.device [
      | inl on ↦ by_way on.0 (ap (λ (x : Device). first_stage x (slice_index_or v.signed n false)) (sym on.1) ∙ first)
      | inr gone ↦
          let wrong : None ≡ Some stage = ap (λ (x : Device). first_stage x (slice_index_or v.signed n false)) (sym gone.absent) ∙ first in cc wrong
    ]
  ]
    where
      by_way : (way : Recovery) → first_stage (Recovering way) (slice_index_or v.signed n false) ≡ Some stage → IsLog stage
      by_way (Log f) is = let one : ReadLog f ≡ stage = cc is in subst IsLog one tt
      by_way Reset is =
          let one : AssertReset ≡ stage = cc is in
          absurd ((aborted n n d.entries (subst (λ (s : Stage). HasAside n (stage_ended n s d.entries)) (sym one) a)).1 refl)

  staged_before : (dev : ℕ) (stage : Stage) → HasAside n (stage_ended dev stage d.entries) → HasAside n d.entries
  staged_before dev AssertReset a = (aborted n dev d.entries a).0
  staged_before dev stage a = a

  steps : (dev : ℕ) (stage : Stage) → IsDue dev stage → HasAside n (stage_ended dev stage d.entries)
      → MayHold n (record d.plan { path = Some (record { dev = dev; stage = stage; asked = true }) })
  steps dev stage due a =
      let m : MayHold n d.plan = h (staged_before dev stage a) in
      record {
        device = elim m.device [ inl on ↦ inl on | inr gone ↦ inr (record { absent = gone.absent; unsought = gone.unsought }) ];
        path = λ x here to.
            let made : Path = record { dev = dev; stage = stage; asked = true } in
            let one : made ≡ x = same_path made x here in
            let same : dev ≡ n = ap (λ (p : Path). p.dev) one ∙ to in
            subst (λ (p : Path). IsLog p.stage) one
            (stage_here stage (subst (λ (k : ℕ). IsDue k stage) same due) (subst (λ (k : ℕ). HasAside n (stage_ended k stage d.entries)) same a) m);
      }

  step_holds : (dev : ℕ) (stage : Stage) → IsDue dev stage → HasAside n (acted (step_of dev stage) file d).entries → MayHold n (acted (step_of dev stage) file d).plan
  unfolding plan_after entries_after
  step_holds dev stage due =
      map_by (λ o. HasAside n (acted o file d).entries → MayHold n (acted o file d).plan) h _ (stage_fields dev stage) (λ fields. steps dev stage due)

  stage_holds : (dev : ℕ) → HasAside n (acted (stage_due v d.plan dev) file d).entries → MayHold n (acted (stage_due v d.plan dev) file d).plan
  stage_holds dev =
      match_by (λ o. HasAside n (acted o file d).entries → MayHold n (acted o file d).plan) h (step_of dev) (stage_for v d.plan dev) (λ stage is. step_holds dev stage (inr is))

  path_due_holds : (o : Option Path) → d.plan.path ≡ o
      → HasAside n (acted (match_some o (match_some (lowest_below (is_due v d.plan) 15) None (stage_due v d.plan)) path_due) file d).entries
      → MayHold n (acted (match_some o (match_some (lowest_below (is_due v d.plan) 15) None (stage_due v d.plan)) path_due) file d).plan
  path_due_holds None is =
      match_by (λ o. HasAside n (acted o file d).entries → MayHold n (acted o file d).plan) h (stage_due v d.plan) (lowest_below (is_due v d.plan) 15) (λ dev found. stage_holds dev)
  path_due_holds (Some x) is =
      unless_by (λ o. HasAside n (acted o file d).entries → MayHold n (acted o file d).plan) h x.asked (step_of x.dev x.stage) (step_holds x.dev x.stage (inl (x, (is, (refl, refl)))))

  device_due_holds : HasAside n (acted (device_due v d.plan) file d).entries → MayHold n (acted (device_due v d.plan) file d).plan
  unfolding device_due
  device_due_holds = path_due_holds d.plan.path refl

  allowed_device : (m : Mode) (entries : List (Option Entry)) → HasAside n (acted (allowed m v d.plan entries (device_due v d.plan)) file d).entries → MayHold n (acted (allowed m v d.plan entries (device_due v d.plan)) file d).plan
  allowed_device Switching entries = device_due_holds
  allowed_device CommandBased entries = allow_by (λ o. HasAside n (acted o file d).entries → MayHold n (acted o file d).plan) h (device_due v d.plan) _ device_due_holds

  -- ---- the requests

  issues : (slot : ℕ) → HasAside n (set d.entries slot (option_map (rephased Issued) (entry_at d.entries slot))) → MayHold n d.plan
  issues slot a = elim (set_cases d.entries slot (option_map (rephased Issued) (entry_at d.entries slot)) a.slot a.entry a.stands) [
    | inl at ↦ absurd (unissued (entry_at d.entries slot) at.1)
    | inr beside ↦ h (record { slot = a.slot; entry = a.entry; stands = beside.1; of_dev = a.of_dev; aside = a.aside })
  ]
    where
      unissued : (o : Option Entry) → option_map (rephased Issued) o ≡ Some a.entry → ⊥
      unissued None is = none_some a.entry is
      unissued (Some f) is = let one : rephased Issued f ≡ a.entry = cc is in false≢true (ap (λ (x : Entry). is_aside x.head) one ∙ a.aside)

  issue_holds : (slot : ℕ) (o : Option Entry) → HasAside n (acted (issue_of slot o) file d).entries → MayHold n (acted (issue_of slot o) file d).plan
  unfolding plan_after entries_after
  issue_holds slot None = h
  issue_holds slot (Some e) = issues slot

  request_holds : (entries : List (Option Entry)) → HasAside n (acted (request_due d.plan entries) file d).entries → MayHold n (acted (request_due d.plan entries) file d).plan
  unfolding request_due
  request_holds entries =
      match_by (λ o. HasAside n (acted o file d).entries → MayHold n (acted o file d).plan) h (λ slot. issue_of slot (entry_at entries slot))
      (lowest_below (λ slot. may_issue d.plan (entry_at entries slot)) 30) (λ slot is. issue_holds slot (entry_at entries slot))

  allowed_request : (m : Mode) (entries : List (Option Entry)) → HasAside n (acted (allowed m v d.plan entries (request_due d.plan entries)) file d).entries
      → MayHold n (acted (allowed m v d.plan entries (request_due d.plan entries)) file d).plan
  allowed_request Switching entries = request_holds entries
  allowed_request CommandBased entries = allow_by (λ o. HasAside n (acted o file d).entries → MayHold n (acted o file d).plan) h (request_due d.plan entries) _ (request_holds entries)

  late_holds : (entries : List (Option Entry)) → HasAside n (acted (device_or_request v d.plan entries) file d).entries → MayHold n (acted (device_or_request v d.plan entries) file d).plan
  late_holds entries =
      or_by (λ o. HasAside n (acted o file d).entries → MayHold n (acted o file d).plan) h (allowed d.plan.mode v d.plan entries (device_due v d.plan))
      (allowed d.plan.mode v d.plan entries (request_due d.plan entries)) (allowed_device d.plan.mode entries) (allowed_request d.plan.mode entries)

-- ---- the tick

turn_if : {A : Type 0} (P : A → Type 0) (b : Bool) (t u : A) → P t → P u → P (if b then t else u)
turn_if P true t u one two = one
turn_if P false t u one two = two

module _ (n : ℕ) (low : n < 15) (v : Sight) (file : TaskFile) (d : Driver) (long : length d.plan.devices ≡ 15) (h : HasAside n d.entries → MayHold n d.plan) where
  before : HasAside n (done_ended v.issued d.entries) → MayHold n d.plan
  before a = h (done_before n v.issued d.entries a)

  control : HasAside n (done_ended v.issued d.entries) → MayHold n (control_seen v d.plan)
  control a = control_holds n v d.plan (before a)

  within : n < length d.plan.devices
  within = omega (arith, low, long)

  within_control : n < length (control_seen v d.plan).devices
  within_control = omega (arith, low, long, control_long v d.plan)

  within_device : n < length (device_seen v (control_seen v d.plan)).devices
  within_device = omega (arith, low, long, control_long v d.plan, device_long v (control_seen v d.plan))

  device : HasAside n (logged_ended v.log (device_logged v (control_seen v d.plan)) (done_ended v.issued d.entries)) → MayHold n (device_seen v (control_seen v d.plan))
  device a = (device_holds n v (control_seen v d.plan) (done_ended v.issued d.entries) within_control control a).1

  pub tick_holds : HasAside n (after_tick v file d).entries → MayHold n (after_tick v file d).plan
  unfolding after_tick turn_of
  tick_holds =
      turn_if (λ t. HasAside n (acted t.act file (record d { plan = t.plan; entries = logged_ended v.log t.logged (done_ended v.issued d.entries) })).entries
      → MayHold n (acted t.act file (record d { plan = t.plan; entries = logged_ended v.log t.logged (done_ended v.issued d.entries) })).plan)
      (is_some (early_due v d.plan)) (plain_turn d.plan (early_due v d.plan) false) (control_turn v (control_news v d.plan) (control_seen v d.plan) (done_ended v.issued d.entries))
      (early_holds n low v file (record d { plan = d.plan; entries = done_ended v.issued d.entries }) within before)
      (turn_if (λ t. HasAside n (acted t.act file (record d { plan = t.plan; entries = logged_ended v.log t.logged (done_ended v.issued d.entries) })).entries
      → MayHold n (acted t.act file (record d { plan = t.plan; entries = logged_ended v.log t.logged (done_ended v.issued d.entries) })).plan)
      (is_some (order_allowed v (control_seen v d.plan) (done_ended v.issued d.entries)))
      (plain_turn (control_seen v d.plan) (order_allowed v (control_seen v d.plan) (done_ended v.issued d.entries)) (control_news v d.plan))
      (device_turn v (control_news v d.plan) (control_seen v d.plan) (done_ended v.issued d.entries))
      (allowed_order n low v file (record d { plan = control_seen v d.plan; entries = done_ended v.issued d.entries }) within_control control (control_seen v d.plan).mode (done_ended v.issued d.entries))
      (late_holds n low v file
      (record d { plan = device_seen v (control_seen v d.plan); entries = logged_ended v.log (device_logged v (control_seen v d.plan)) (done_ended v.issued d.entries) })
      within_device device (done_ended v.issued d.entries)))
