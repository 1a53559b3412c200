-- For `ticks_keep`. A tick keeps each request, and ends none twice.
use Rattle.std.proofs.Common.{◌≡◌, ℕ, ◌≤◌, Bool, true, false, ◌&&◌, List, length, set, map, refl, sym, ◌∙◌, ap, subst, inl, inr, arith, Option, Some}
use Rattle.std.proofs.{Common.None, lemmas.{Bool.{cases_lt, cases_eq, false≢true, or_parts, true≢false}, List.{get_or_past, get_or-set_same}}}
use Rattle.std.proofs.lemmas.List.{get_or-set_other, length-set, FromFn.{get_or-map-range_with_len, length-map-range_with_len}}
use Rattle.std.specs.{Prelude.{if◌then◌else◌, ◌==◌, not}, List.range_with_len, Option.option_map}
use Rattle.slots.specs.Slots.{has_bit}
use Rattle.hba_driver.specs.declared.{order.Order.{Order, TheVariants.Clear}, plan.Plan.Plan, path.Stage.{Stage, TheVariants.AssertReset}}
use Rattle.hba_driver.specs.declared.{path.TaskFile.TaskFile, request.Outcome.{Outcome, TheVariants.{Aborted, Done, PortError, Removed}}}
use Rattle.hba_driver.specs.{declared.{sight.ErrorLog.ErrorLog, slot.{Head.Head, Phase.{Phase, TheVariants.{Waits, Issued, Aside}}}}, Seeing.Sight}
use Rattle.hba_driver.specs.{declared.{slot.Phase.TheVariants.Ended, turn.{Act.Act, Logged.Logged}}, Drivers.{Driver, Entry, entry_at, has_ended_in}}
use Rattle.hba_driver.specs.{Drivers.{holds, is_aside, is_aside_in, is_issued_in, rephase, rephase_all, rephased, waits, waits_in}, Laws.Goes}
use Rattle.hba_driver.specs.{Laws.{GoesOn, Kept, Keeps, TicksKeep}, Ticks.{acted, after_tick, done_ended, entries_after, is_aside_of, is_done}}
use Rattle.hba_driver.specs.{Ticks.{is_named_of, is_open, is_open_of, log_outcome, logged_ended, removed, seen, stage_ended, turn}, Turns.may_issue}
use Rattle.hba_driver.specs.Between.{Due, Waiting}
use Rattle.hba_driver.specs.declared.turn.Act.TheVariants as act
use Rattle.hba_driver.proofs.ticks.DueLemmas.{due_turn}

-- ---- phases

pub goes_same : (p : Phase) → Goes p p
goes_same Waits = tt
goes_same other = refl

pub goes_trans : (p q r : Phase) → Goes p q → Goes q r → Goes p r
goes_trans Waits q r h k = tt
goes_trans Issued Issued r h k = k
goes_trans Issued Aside r h k = (or_parts (waits_in r) (is_issued_in r) k).0
goes_trans Aside Issued r h k = absurd (true≢false h)
goes_trans Aside Aside r h k = k
goes_trans (Ended o) q r h k = subst (λ (x : Phase). Goes x r) h k
goes_trans other Waits r h k = absurd (true≢false h)
goes_trans rest (Ended o) r h k = rw k refl

goes_done : (p : Phase) (b : Bool) → (is_issued_in p && b) ≡ true → Goes p (Ended Done)
goes_done Waits b h = tt
goes_done (Ended o) b h = absurd (false≢true h)
goes_done other b h = refl

second : (b c : Bool) → (b && c) ≡ true → c ≡ true
second true c h = h
second false c h = absurd (false≢true h)

first : (b c : Bool) → (b && c) ≡ true → b ≡ true
first true c h = refl
first false c h = absurd (false≢true h)

-- what has not ended ends, or is set aside
goes_ended : (p : Phase) (o : Outcome) → not (has_ended_in p) ≡ true → Goes p (Ended o)
goes_ended Waits o h = tt
goes_ended (Ended q) o h = absurd (false≢true h)
goes_ended other o h = refl

goes_aside : (p : Phase) → not (has_ended_in p) ≡ true → Goes p Aside
goes_aside Waits h = tt
goes_aside (Ended q) h = absurd (false≢true h)
goes_aside other h = refl

aside_open : (p : Phase) → is_aside_in p ≡ true → not (has_ended_in p) ≡ true
aside_open Aside h = refl
aside_open other h = absurd (false≢true h)

goes_issued : (p : Phase) → waits_in p ≡ true → Goes p Issued
goes_issued Waits h = tt
goes_issued Issued h = refl
goes_issued other h = absurd (false≢true h)

-- ---- requests

pub kept_same : (e : Entry) → Kept e (Some e)
kept_same e = record { entry = e; is = refl; on = record { same = refl; goes = goes_same e.head.phase } }

pub keeps_same : (o : Option Entry) → Keeps o o
keeps_same None = refl
keeps_same (Some e) = kept_same e

pub on_then : (e f g : Entry) → GoesOn e f → GoesOn f g → GoesOn e g
on_then e f g h k = record { same = k.same ∙ ap (rephased g.head.phase) h.same; goes = goes_trans e.head.phase f.head.phase g.head.phase h.goes k.goes }

pub kept_then : (e : Entry) (b c : Option Entry) → Kept e b → Keeps b c → Kept e c
kept_then e b c h k =
    let more : Kept h.entry c = subst (λ (x : Option Entry). Keeps x c) h.is k in
    record { entry = more.entry; is = more.is; on = on_then e h.entry more.entry h.on more.on }

pub keeps_then : (a b c : Option Entry) → Keeps a b → Keeps b c → Keeps a c
keeps_then None b c h k = subst (λ (x : Option Entry). Keeps x c) h k
keeps_then (Some e) b c h k = kept_then e b c h k

kept_if : (b : Bool) (phase : Phase) (e : Entry) → (b ≡ true → Goes e.head.phase phase) → Kept e (if b then Some (rephased phase e) else Some e)
kept_if true phase e h = record { entry = rephased phase e; is = refl; on = record { same = refl; goes = h refl } }
kept_if false phase e h = kept_same e

keeps_rephase : (test : Head → Bool) (phase : Phase) (o : Option Entry) → ((e : Entry) → test e.head ≡ true → Goes e.head.phase phase) → Keeps o (rephase test phase o)
keeps_rephase test phase None h = refl
keeps_rephase test phase (Some e) h = kept_if (test e.head) phase e (h e)

-- what becomes of a slot
pub entry_of_rephased : (test : ℕ → Head → Bool) (phase : Phase) (entries : List (Option Entry)) (s : ℕ) → entry_at (rephase_all test phase entries) s ≡ rephase (test s) phase (entry_at entries s)
unfolding rephase_all
entry_of_rephased test phase entries s =
    let f : ℕ → Option Entry = λ slot. rephase (test slot) phase (entry_at entries slot) in
    elim (cases_lt s (length entries)) [
      | inl below ↦ get_or-map-range_with_len f 0 (length entries) s s None below (omega arith)
      | inr past ↦
          get_or_past (map f (range_with_len 0 (length entries))) s None (rw (length-map-range_with_len f 0 (length entries)) past)
          ∙ sym (ap (rephase (test s) phase) (get_or_past entries s None past))
    ]

pub length_of_rephased : (test : ℕ → Head → Bool) (phase : Phase) (entries : List (Option Entry)) → length (rephase_all test phase entries) ≡ length entries
unfolding rephase_all
length_of_rephased test phase entries = length-map-range_with_len (λ slot. rephase (test slot) phase (entry_at entries slot)) 0 (length entries)

keeps_rephased : (test : ℕ → Head → Bool) (phase : Phase) (entries : List (Option Entry)) → ((s : ℕ) (e : Entry) → test s e.head ≡ true → Goes e.head.phase phase) → (s : ℕ)
    → Keeps (entry_at entries s) (entry_at (rephase_all test phase entries) s)
keeps_rephased test phase entries h s = subst (λ (x : Option Entry). Keeps (entry_at entries s) x) (sym (entry_of_rephased test phase entries s)) (keeps_rephase (test s) phase (entry_at entries s) (h s))

pub keeps_done : (issued : ℕ) (entries : List (Option Entry)) (s : ℕ) → Keeps (entry_at entries s) (entry_at (done_ended issued entries) s)
keeps_done issued entries = keeps_rephased (is_done issued) (Ended Done) entries (λ s e h. goes_done e.head.phase (not (has_bit issued s)) h)

pub keeps_open_of : (dev : ℕ) (o : Outcome) (entries : List (Option Entry)) (s : ℕ) → Keeps (entry_at entries s) (entry_at (rephase_all (is_open_of dev) (Ended o) entries) s)
keeps_open_of dev o entries = keeps_rephased (is_open_of dev) (Ended o) entries (λ s e h. goes_ended e.head.phase o (second (e.head.dev == dev) _ h))

pub keeps_set_aside : (dev : ℕ) (entries : List (Option Entry)) (s : ℕ) → Keeps (entry_at entries s) (entry_at (rephase_all (is_open_of dev) Aside entries) s)
keeps_set_aside dev entries = keeps_rephased (is_open_of dev) Aside entries (λ s e h. goes_aside e.head.phase (second (e.head.dev == dev) _ h))

pub keeps_stopped : (entries : List (Option Entry)) (s : ℕ) → Keeps (entry_at entries s) (entry_at (rephase_all is_open (Ended PortError) entries) s)
keeps_stopped entries = keeps_rephased is_open (Ended PortError) entries (λ s e h. goes_ended e.head.phase PortError h)

pub keeps_aside_of : (dev : ℕ) (o : Outcome) (entries : List (Option Entry)) (s : ℕ) → Keeps (entry_at entries s) (entry_at (rephase_all (is_aside_of dev) (Ended o) entries) s)
keeps_aside_of dev o entries =
    keeps_rephased (is_aside_of dev) (Ended o) entries (λ s e h. goes_ended e.head.phase o (aside_open e.head.phase (second (e.head.dev == dev) _ h)))

keeps_named_of : (log : ErrorLog) (dev : ℕ) (o : Outcome) (entries : List (Option Entry)) (s : ℕ) → Keeps (entry_at entries s) (entry_at (rephase_all (is_named_of log dev) (Ended o) entries) s)
keeps_named_of log dev o entries =
    keeps_rephased (is_named_of log dev) (Ended o) entries (λ s e h. goes_ended e.head.phase o (aside_open e.head.phase (second (e.head.dev == dev) _ (first (is_aside_of dev s e.head) _ h))))

pub keeps_logged : (log : ErrorLog) (l : Option Logged) (entries : List (Option Entry)) (s : ℕ) → Keeps (entry_at entries s) (entry_at (logged_ended log l entries) s)
keeps_logged log None entries s = keeps_same (entry_at entries s)
keeps_logged log (Some l) entries s =
    let named : List (Option Entry) = rephase_all (is_named_of log l.dev) (Ended (log_outcome log l.file)) entries in
    keeps_then (entry_at entries s) (entry_at named s) _ (keeps_named_of log l.dev (log_outcome log l.file) entries s) (keeps_aside_of l.dev Aborted named s)

pub keeps_removed : (order : Order) (entries : List (Option Entry)) (s : ℕ) → Keeps (entry_at entries s) (entry_at (removed order entries) s)
keeps_removed (Clear port) entries s = keeps_open_of port Removed entries s
keeps_removed order entries s = keeps_same (entry_at entries s)

pub keeps_staged : (dev : ℕ) (stage : Stage) (entries : List (Option Entry)) (s : ℕ) → Keeps (entry_at entries s) (entry_at (stage_ended dev stage entries) s)
keeps_staged dev AssertReset entries s = keeps_aside_of dev Aborted entries s
keeps_staged dev stage entries s = keeps_same (entry_at entries s)

-- ---- what waits is not set aside

waits_only : (p : Phase) → waits_in p ≡ true → is_aside_in p ≡ false
waits_only Waits h = refl
waits_only other h = absurd (false≢true h)

spared : (test : Head → Bool) (phase : Phase) (o : Option Entry) → holds test o ≡ false → rephase test phase o ≡ o
spared test phase o h = ap (λ (b : Bool). if b then option_map (rephased phase) o else o) h

not_and : (a b : Bool) → b ≡ false → (a && b) ≡ false
not_and true b h = h
not_and false b h = refl

and_not : (a b : Bool) → a ≡ false → (a && b) ≡ false
and_not true b h = absurd (true≢false h)
and_not false b h = refl

aside_spared : (log : ErrorLog) (dev s : ℕ) (o : Option Entry) → holds is_aside o ≡ false → (holds (is_aside_of dev s) o ≡ false) × (holds (is_named_of log dev s) o ≡ false)
aside_spared log dev s None h = (refl, refl)
aside_spared log dev s (Some e) h =
    let aside : is_aside_of dev s e.head ≡ false = not_and (e.head.dev == dev) (is_aside e.head) h in
    (aside, and_not (is_aside_of dev s e.head) _ aside)

-- a log ends only what was set aside
pub unaside_stays : (log : ErrorLog) (l : Option Logged) (entries : List (Option Entry)) (s : ℕ) → holds is_aside (entry_at entries s) ≡ false → entry_at (logged_ended log l entries) s ≡ entry_at entries s
unaside_stays log None entries s h = refl
unaside_stays log (Some l) entries s h =
    let named : List (Option Entry) = rephase_all (is_named_of log l.dev) (Ended (log_outcome log l.file)) entries in
    let spare = aside_spared log l.dev s (entry_at entries s) h in
    let still : entry_at named s ≡ entry_at entries s =
    entry_of_rephased (is_named_of log l.dev) (Ended (log_outcome log l.file)) entries s ∙ spared (is_named_of log l.dev s) (Ended (log_outcome log l.file)) (entry_at entries s) spare.1 in
    entry_of_rephased (is_aside_of l.dev) (Ended Aborted) named s
    ∙ ap (rephase (is_aside_of l.dev s) (Ended Aborted)) still
    ∙ spared (is_aside_of l.dev s) (Ended Aborted) (entry_at entries s) spare.0

waits_unaside : (o : Option Entry) → holds waits o ≡ true → holds is_aside o ≡ false
waits_unaside None h = refl
waits_unaside (Some e) h = waits_only e.head.phase h

pub waiting_stays : (log : ErrorLog) (l : Option Logged) (entries : List (Option Entry)) (s : ℕ) → holds waits (entry_at entries s) ≡ true → entry_at (logged_ended log l entries) s ≡ entry_at entries s
waiting_stays log l entries s h = unaside_stays log l entries s (waits_unaside (entry_at entries s) h)

keeps_issue : (o : Option Entry) → holds waits o ≡ true → Keeps o (option_map (rephased Issued) o)
keeps_issue None h = absurd (false≢true h)
keeps_issue (Some e) h = record { entry = rephased Issued e; is = refl; on = record { same = refl; goes = goes_issued e.head.phase h } }

set_past : (entries : List (Option Entry)) (slot : ℕ) → length entries ≤ slot → holds waits (entry_at entries slot) ≡ true → ⊥
set_past entries slot past h = false≢true (ap (holds waits) (sym (get_or_past entries slot None past)) ∙ h)

keeps_set : (entries : List (Option Entry)) (slot s : ℕ) → holds waits (entry_at entries slot) ≡ true
    → Keeps (entry_at entries s) (entry_at (set entries slot (option_map (rephased Issued) (entry_at entries slot))) s)
keeps_set entries slot s h = elim (cases_eq s slot) [
  | inl same ↦ elim (cases_lt slot (length entries)) [
    | inl below ↦
        let x : Option Entry = option_map (rephased Issued) (entry_at entries slot) in
        let there : entry_at (set entries slot x) slot ≡ x = get_or-set_same entries slot x None below in
        let kept : Keeps (entry_at entries slot) (entry_at (set entries slot x) slot) = subst (λ (o : Option Entry). Keeps (entry_at entries slot) o) (sym there) (keeps_issue (entry_at entries slot) h) in
        subst (λ (k : ℕ). Keeps (entry_at entries k) (entry_at (set entries slot x) k)) (sym same) kept
    | inr past ↦ absurd (set_past entries slot past h)
  ]
  | inr other ↦
      let x : Option Entry = option_map (rephased Issued) (entry_at entries slot) in
      subst (λ (o : Option Entry). Keeps (entry_at entries s) o) (sym (get_or-set_other entries slot s x None other)) (keeps_same (entry_at entries s))
]

-- ---- an act issues only what waits for a device that is ready

abbrev pub May : Plan → List (Option Entry) → Option Act → Type 0
May plan entries None = Unit {0}
May plan entries (Some (act.Issues slot dev queued)) = may_issue plan (entry_at entries slot) ≡ true
May plan entries (Some a) = Unit {0}

pub waits_if_may : (plan : Plan) (o : Option Entry) → may_issue plan o ≡ true → holds waits o ≡ true
waits_if_may plan None h = absurd (false≢true h)
waits_if_may plan (Some e) h = first (waits e.head) _ h

may_due : (v : Sight) (plan : Plan) (entries : List (Option Entry)) (a : Option Act) → Due v plan entries a → May plan entries a
may_due v plan entries (Some (act.Issues slot dev queued)) due = ap (may_issue plan) due.0.stands ∙ due.0.may
may_due v plan entries other due = tt

-- what is due, by what a tick has seen
due_logged : (v : Sight) (log : ErrorLog) (l : Option Logged) (plan : Plan) (entries : List (Option Entry)) (a : Option Act) → Due v plan entries a → Due v plan (logged_ended log l entries) a
due_logged v log l plan entries (Some (act.Issues slot dev queued)) due =
    let w : Waiting plan entries slot dev = due.0 in
    let wait : holds waits (entry_at entries slot) ≡ true = ap (holds waits) w.stands ∙ w.waits_is in
    let later : Waiting plan (logged_ended log l entries) slot dev =
    record { below = w.below; entry = w.entry; stands = waiting_stays log l entries slot wait ∙ w.stands; may = w.may; waits_is = w.waits_is; of_dev = w.of_dev } in
    (later, due.1)
due_logged v log l plan entries other due = due

pub due_seen : (v : Sight) (d : Driver) → Due v (seen v d).plan (seen v d).entries (turn v d).act
due_seen v d = due_logged v v.log (turn v d).logged (turn v d).plan (done_ended v.issued d.entries) (turn v d).act (due_turn v d.plan (done_ended v.issued d.entries))

pub may_turn : (v : Sight) (d : Driver) → May (turn v d).plan (seen v d).entries (turn v d).act
may_turn v d = may_due v (seen v d).plan (seen v d).entries (turn v d).act (due_seen v d)

-- ---- a tick

pub keeps_seen : (v : Sight) (d : Driver) (s : ℕ) → Keeps (entry_at d.entries s) (entry_at (seen v d).entries s)
keeps_seen v d s =
    let done : List (Option Entry) = done_ended v.issued d.entries in
    keeps_then (entry_at d.entries s) (entry_at done s) _ (keeps_done v.issued d.entries s) (keeps_logged v.log (turn v d).logged done s)

keeps_acted : (a : Option Act) (file : TaskFile) (d : Driver) → May d.plan d.entries a → (s : ℕ) → Keeps (entry_at d.entries s) (entry_at (acted a file d).entries s)
unfolding entries_after
keeps_acted (Some act.Stops) file d h s = keeps_stopped d.entries s
keeps_acted (Some (act.Clears dev)) file d h s = keeps_set_aside dev d.entries s
keeps_acted (Some (act.Orders order)) file d h s = keeps_removed order d.entries s
keeps_acted (Some (act.Steps dev stage)) file d h s = keeps_staged dev stage d.entries s
keeps_acted (Some (act.Issues slot dev queued)) file d h s = keeps_set d.entries slot s (waits_if_may d.plan (entry_at d.entries slot) h)
keeps_acted other file d h s = keeps_same (entry_at d.entries s)

pub keeps_tick : (v : Sight) (file : TaskFile) (d : Driver) (s : ℕ) → Keeps (entry_at d.entries s) (entry_at (after_tick v file d).entries s)
unfolding after_tick
keeps_tick v file d s = keeps_then (entry_at d.entries s) (entry_at (seen v d).entries s) _ (keeps_seen v d s) (keeps_acted (turn v d).act file (seen v d) (may_turn v d) s)

-- what a tick leaves of the last ticket and of the number of slots
record Same (d e : Driver) : Type 0 where
  pub given : e.given ≡ d.given
  pub slots : length e.entries ≡ length d.entries

pub length_logged : (log : ErrorLog) (l : Option Logged) (entries : List (Option Entry)) → length (logged_ended log l entries) ≡ length entries
length_logged log None entries = refl
length_logged log (Some l) entries =
    length_of_rephased (is_aside_of l.dev) (Ended Aborted) _ ∙ length_of_rephased (is_named_of log l.dev) (Ended (log_outcome log l.file)) entries

same_removed : (order : Order) (entries : List (Option Entry)) → length (removed order entries) ≡ length entries
same_removed (Clear port) entries = length_of_rephased (is_open_of port) (Ended Removed) entries
same_removed order entries = refl

pub length_staged : (dev : ℕ) (stage : Stage) (entries : List (Option Entry)) → length (stage_ended dev stage entries) ≡ length entries
length_staged dev AssertReset entries = length_of_rephased (is_aside_of dev) (Ended Aborted) entries
length_staged dev stage entries = refl

same_acted : (a : Option Act) (file : TaskFile) (d : Driver) → Same d (acted a file d)
unfolding entries_after
same_acted (Some act.Stops) file d = record { given = refl; slots = length_of_rephased is_open (Ended PortError) d.entries }
same_acted (Some (act.Clears dev)) file d = record { given = refl; slots = length_of_rephased (is_open_of dev) Aside d.entries }
same_acted (Some (act.Orders order)) file d = record { given = refl; slots = same_removed order d.entries }
same_acted (Some (act.Steps dev stage)) file d = record { given = refl; slots = length_staged dev stage d.entries }
same_acted (Some (act.Issues slot dev queued)) file d = record { given = refl; slots = length-set d.entries slot _ }
same_acted other file d = record { given = refl; slots = refl }

pub slots_seen : (v : Sight) (d : Driver) → length (seen v d).entries ≡ length d.entries
slots_seen v d = length_logged v.log (turn v d).logged (done_ended v.issued d.entries) ∙ length_of_rephased (is_done v.issued) (Ended Done) d.entries

same_tick : (v : Sight) (file : TaskFile) (d : Driver) → Same d (after_tick v file d)
unfolding after_tick
same_tick v file d =
    let after : Same (seen v d) (acted (turn v d).act file (seen v d)) = same_acted (turn v d).act file (seen v d) in
    record { given = after.given; slots = after.slots ∙ slots_seen v d }

pub given_tick : (v : Sight) (file : TaskFile) (d : Driver) → (after_tick v file d).given ≡ d.given
given_tick v file d = (same_tick v file d).given

pub slots_tick : (v : Sight) (file : TaskFile) (d : Driver) → length (after_tick v file d).entries ≡ length d.entries
slots_tick v file d = (same_tick v file d).slots

pub ticks_keep : TicksKeep
ticks_keep = record { entries = keeps_tick; given = given_tick }
