-- For `errors_are_named`. A request ends as failed by its device only if the device's log names it.
use Rattle.std.proofs.{Common.{◌≡◌, ℕ, Bool, true, false, ◌&&◌, List, refl, sym, ◌∙◌, ap, Option, Some, None, arith}, lemmas.Bool.{false≢true}}
use Rattle.std.proofs.lemmas.Bool.{true≢false, Decides.nat_tests}
use Rattle.std.specs.Prelude.{if◌then◌else◌, ◌==◌}
use Rattle.slots.specs.Slots.{match_some}
use Rattle.hba_driver.specs.declared.{path.{Path.Path, Stage.{Stage, TheVariants.ReadLog}, TaskFile.TaskFile}, plan.Plan.Plan}
use Rattle.hba_driver.specs.{declared.{request.Outcome.{Outcome, TheVariants.{Aborted, DeviceError, Done}}, sight.ErrorLog.ErrorLog}, Seeing.Sight}
use Rattle.hba_driver.specs.{declared.{slot.Phase.{Phase, TheVariants.{Waits, Issued, Aside, Ended}}, turn.Logged.Logged}, Drivers.{Driver, Entry}}
use Rattle.hba_driver.specs.Drivers.{entry_at, has_ended, has_ended_in, is_aside, is_aside_in, rephase, rephase_all, rephased}
use Rattle.hba_driver.specs.{Faults.{ErrorsAreNamed, IsNamedBy}, Ticks.{after_tick, done_ended, is_aside_of, is_done, is_named, is_named_of}}
use Rattle.hba_driver.specs.{Ticks.{log_outcome, logged_ended, seen, turn}, Turns.{control_seen, is_back, logged_by, turn_of}}
use Rattle.hba_driver.proofs.{ends.DoneLemmas.{IsOwnEnd, acted_end, end_same, end_turned, seen_some, some_at}, ticks.DueLemmas.turn_by}
use Rattle.hba_driver.proofs.ticks.LifeLemmas.{entry_of_rephased}

-- ---- the phase of such an end

abbrev failed : Phase → Bool
failed (Ended (DeviceError status error)) = true
failed other = false

failed_own : IsOwnEnd failed
failed_own = record { issued = refl; aside = refl; aborted = refl; removed = refl; stopped = refl }

some_same : (e f : Entry) → Some e ≡ Some f → e ≡ f
some_same e f h = cc

no_log : (l : Logged) {P : Type 0} → None ≡ Some l → P
no_log l h = cc

same_log : (x l : Logged) → Some x ≡ Some l → x ≡ l
same_log x l h = cc

-- ---- whose log was read

record IsRead (v : Sight) (plan : Plan) (l : Logged) : Type 0 where
  pub path : Path
  pub goes : plan.path ≡ Some path
  pub over : is_back v path ≡ true
  pub reads : path.stage ≡ ReadLog l.file
  pub of_dev : l.dev ≡ path.dev
  pub whole : v.log.whole ≡ true

read_log : (v : Sight) (b : Bool) (path : Path) (plan : Plan) (l : Logged) (file : TaskFile) → plan.path ≡ Some path → is_back v path ≡ true → path.stage ≡ ReadLog file → v.log.whole ≡ b
    → (if b then Some (record { dev = path.dev; file = file }) else None) ≡ Some l → IsRead v plan l
read_log v false path plan l file here back stage whole h = no_log l h
read_log v true path plan l file here back stage whole h =
    let is = same_log (record { dev = path.dev; file = file }) l h in
    record {
      path = path;
      goes = here;
      over = back;
      reads = stage ∙ ap (λ (x : Logged). ReadLog x.file) is;
      of_dev = ap (λ (x : Logged). x.dev) (sym is);
      whole = whole;
    }

read_stage : (v : Sight) (s : Stage) (path : Path) (plan : Plan) (l : Logged) → plan.path ≡ Some path → is_back v path ≡ true → path.stage ≡ s → logged_by v path.dev s ≡ Some l → IsRead v plan l
unfolding logged_by
read_stage v (ReadLog file) path plan l here back stage h = read_log v v.log.whole path plan l file here back stage refl h
read_stage v other path plan l here back stage h = no_log l h

read_back : (v : Sight) (b : Bool) (path : Path) (plan : Plan) (l : Logged) → plan.path ≡ Some path → is_back v path ≡ b → (if b then logged_by v path.dev path.stage else None) ≡ Some l → IsRead v plan l
read_back v true path plan l here back h = read_stage v path.stage path plan l here back refl h
read_back v false path plan l here back h = no_log l h

read_path : (v : Sight) (o : Option Path) (plan : Plan) (l : Logged) → plan.path ≡ o → match_some o None (λ path. if is_back v path then logged_by v path.dev path.stage else None) ≡ Some l → IsRead v plan l
read_path v None plan l here h = no_log l h
read_path v (Some path) plan l here h = read_back v (is_back v path) path plan l here refl h

read_turn : (v : Sight) (plan : Plan) (entries : List (Option Entry)) (l : Logged) → (turn_of v plan entries).logged ≡ Some l → IsRead v (control_seen v plan) l
read_turn v plan entries l =
    turn_by (λ t. t.logged ≡ Some l → IsRead v (control_seen v plan) l) v plan entries (λ h. no_log l h) (λ h. no_log l h)
    (λ h. read_path v (control_seen v plan).path (control_seen v plan) l refl h)

-- ---- what a log ends

and_parts : (a b : Bool) → (a && b) ≡ true → (a ≡ true) × (b ≡ true)
and_parts true b h = (refl, h)
and_parts false b h = absurd (false≢true h)

equal_of : (x y : ℕ) → (x == y) ≡ true → x ≡ y
equal_of x y h = grind (arith, nat_tests)

-- an open request that has failed after a log has ended its device's requests
record Named (log : ErrorLog) (l : Logged) (s : ℕ) (g x : Entry) : Type 0 where
  pub is : is_named_of log l.dev s g.head ≡ true
  pub phase : x.head.phase ≡ Ended (log_outcome log l.file)

not_failed : (g : Entry) → has_ended g.head ≡ false → failed g.head.phase ≡ true → ⊥
not_failed g open' h = by_phase g.head.phase open' h
  where
    by_phase : (p : Phase) → has_ended_in p ≡ false → failed p ≡ true → ⊥
    by_phase (Ended q) o k = true≢false o
    by_phase other o k = false≢true k

-- the second pass leaves what the first has ended
after_first : (log : ErrorLog) (l : Logged) (s : ℕ) (b : Bool) (g m x : Entry) → is_named_of log l.dev s g.head ≡ b → has_ended g.head ≡ false
    → (if b then Some (rephased (Ended (log_outcome log l.file)) g) else Some g) ≡ Some m → rephase (is_aside_of l.dev s) (Ended Aborted) (Some m) ≡ Some x → failed x.head.phase ≡ true → Named log l s g x
after_first log l s false g m x is open' first second h =
    let there : failed m.head.phase ≡ true = end_turned failed failed_own (is_aside_of l.dev s m.head) (Ended Aborted) m x refl second h in
    absurd (not_failed g open' (end_same failed failed_own g m first there))
after_first log l s true g m x is open' first second h =
    let mid : rephased (Ended (log_outcome log l.file)) g ≡ m = some_same (rephased (Ended (log_outcome log l.file)) g) m first in
    let spared : is_aside_of l.dev s m.head ≡ false = ap (λ (e : Entry). is_aside_of l.dev s e.head) (sym mid) ∙ never (g.head.dev == l.dev) in
    let same : Some m ≡ Some x = ap (λ (b : Bool). if b then Some (rephased (Ended Aborted) m) else Some m) (sym spared) ∙ second in
    record { is = is; phase = ap (λ (e : Entry). e.head.phase) (sym (mid ∙ some_same m x same)) }
  where
    never : (b : Bool) → (b && false) ≡ false
    never true = refl
    never false = refl

named_at : (log : ErrorLog) (l : Logged) (entries : List (Option Entry)) (s : ℕ) (g x : Entry) → entry_at entries s ≡ Some g → has_ended g.head ≡ false → entry_at (logged_ended log (Some l) entries) s ≡ Some x → failed x.head.phase ≡ true
    → Named log l s g x
named_at log l entries s g x here open' there h =
    let named : List (Option Entry) = rephase_all (is_named_of log l.dev) (Ended (log_outcome log l.file)) entries in
    let mid = some_at (is_named_of log l.dev) (Ended (log_outcome log l.file)) entries s g here in
    after_first log l s (is_named_of log l.dev s g.head) g mid.0 x refl open'
    (ap (rephase (is_named_of log l.dev s) (Ended (log_outcome log l.file))) (sym here) ∙ sym (entry_of_rephased (is_named_of log l.dev) (Ended (log_outcome log l.file)) entries s) ∙ mid.1)
    (ap (rephase (is_aside_of l.dev s) (Ended Aborted)) (sym mid.1) ∙ sym (entry_of_rephased (is_aside_of l.dev) (Ended Aborted) named s) ∙ there) h

same_outcome : (o : Outcome) (status error : ℕ) → Ended o ≡ Ended (DeviceError status error) → o ≡ DeviceError status error
same_outcome o status error h = cc

-- ---- the tick

named_tick : (v : Sight) (d : Driver) (s : ℕ) (e x : Entry) (status error : ℕ) (o : Option Logged) → (turn v d).logged ≡ o → entry_at (done_ended v.issued d.entries) s ≡ Some e → has_ended e.head ≡ false
    → entry_at (logged_ended v.log o (done_ended v.issued d.entries)) s ≡ Some x → x.head.phase ≡ Ended (DeviceError status error) → IsNamedBy v d s e status error
named_tick v d s e x status error None logged here open' there phase =
    absurd (not_failed e open' (end_same failed failed_own e x (sym here ∙ there) (ap failed phase)))
named_tick v d s e x status error (Some l) logged here open' there phase =
    let named : Named v.log l s e x = named_at v.log l (done_ended v.issued d.entries) s e x here open' there (ap failed phase) in
    let read : IsRead v (control_seen v d.plan) l = read_turn v d.plan (done_ended v.issued d.entries) l logged in
    let parts = and_parts (is_aside_of l.dev s e.head) (is_named v.log s e.head) named.is in
    let whose = and_parts (e.head.dev == l.dev) (is_aside e.head) parts.0 in
    record {
      aside = whose.1;
      path = read.path;
      file = l.file;
      goes = read.goes;
      over = read.over;
      reads = read.reads;
      of_dev = equal_of e.head.dev l.dev whose.0 ∙ read.of_dev;
      whole = read.whole;
      named = parts.1;
      outcome = same_outcome (log_outcome v.log l.file) status error (sym named.phase ∙ phase);
    }

-- exactly this end
abbrev exactly : (status error : ℕ) → Phase → Bool
exactly status error (Ended (DeviceError s e)) = (s == status) && (e == error)
exactly status error other = false

exactly_own : (status error : ℕ) → IsOwnEnd (exactly status error)
exactly_own status error = record { issued = refl; aside = refl; aborted = refl; removed = refl; stopped = refl }

exactly_is : (status error : ℕ) (p : Phase) → exactly status error p ≡ true → p ≡ Ended (DeviceError status error)
exactly_is status error (Ended (DeviceError s e)) h =
    let parts = and_parts (s == status) (e == error) h in
    let first : s ≡ status = equal_of s status parts.0 in
    let second : e ≡ error = equal_of e error parts.1 in
    ap (λ (x : ℕ). Ended (DeviceError x e)) first ∙ ap (λ (y : ℕ). Ended (DeviceError status y)) second
exactly_is status error other h = absurd (false≢true h)

equal_self : (x : ℕ) → (x == x) ≡ true
equal_self x = grind (arith, nat_tests)

exactly_self : (status error : ℕ) → exactly status error (Ended (DeviceError status error)) ≡ true
exactly_self status error = rw (equal_self status, equal_self error) refl

-- a log leaves what is done
done_stays : (log : ErrorLog) (o : Option Logged) (entries : List (Option Entry)) (s : ℕ) (g x : Entry) → entry_at entries s ≡ Some g → g.head.phase ≡ Ended Done → entry_at (logged_ended log o entries) s ≡ Some x → failed x.head.phase ≡ true → ⊥
done_stays log None entries s g x here phase there h = false≢true (sym (ap failed phase) ∙ end_same failed failed_own g x (sym here ∙ there) h)
done_stays log (Some l) entries s g x here phase there h =
    let mid = some_at (is_named_of log l.dev) (Ended (log_outcome log l.file)) entries s g here in
    let named : List (Option Entry) = rephase_all (is_named_of log l.dev) (Ended (log_outcome log l.file)) entries in
    let spared : is_named_of log l.dev s g.head ≡ false = never (g.head.dev == l.dev) (is_aside_in g.head.phase) (is_named log s g.head) (ap is_aside_in phase) in
    let first : rephase (is_named_of log l.dev s) (Ended (log_outcome log l.file)) (Some g) ≡ Some mid.0 =
    ap (rephase (is_named_of log l.dev s) (Ended (log_outcome log l.file))) (sym here) ∙ sym (entry_of_rephased (is_named_of log l.dev) (Ended (log_outcome log l.file)) entries s) ∙ mid.1 in
    let still : Some g ≡ Some mid.0 = ap (λ (b : Bool). if b then Some (rephased (Ended (log_outcome log l.file)) g) else Some g) (sym spared) ∙ first in
    let back : failed mid.0.head.phase ≡ true =
    end_turned failed failed_own (is_aside_of l.dev s mid.0.head) (Ended Aborted) mid.0 x refl
    (ap (rephase (is_aside_of l.dev s) (Ended Aborted)) (sym mid.1) ∙ sym (entry_of_rephased (is_aside_of l.dev) (Ended Aborted) named s) ∙ there) h in
    false≢true (sym (ap failed phase) ∙ end_same failed failed_own g mid.0 still back)
  where
    never : (a b c : Bool) → b ≡ false → ((a && b) && c) ≡ false
    never true b c h = ap (λ (x : Bool). x && c) h
    never false b c h = refl

by_done : (v : Sight) (d : Driver) (s : ℕ) (b : Bool) (e g x : Entry) (status error : ℕ) → (if b then Some (rephased (Ended Done) e) else Some e) ≡ Some g → entry_at (done_ended v.issued d.entries) s ≡ Some g → has_ended e.head ≡ false
    → entry_at (seen v d).entries s ≡ Some x → x.head.phase ≡ Ended (DeviceError status error) → IsNamedBy v d s e status error
by_done v d s true e g x status error is here open' there phase =
    absurd (done_stays v.log (turn v d).logged (done_ended v.issued d.entries) s g x here (ap (λ (y : Entry). y.head.phase) (sym (some_same (rephased (Ended Done) e) g is))) there (ap failed phase))
by_done v d s false e g x status error is here open' there phase =
    named_tick v d s e x status error (turn v d).logged refl (here ∙ sym is) open' there phase

pub errors_are_named : ErrorsAreNamed
unfolding after_tick
errors_are_named v after d s e f status error here open' there phase =
    let done = some_at (is_done v.issued) (Ended Done) d.entries s e here in
    let mid = seen_some v d s done.0 done.1 in
    let exact : exactly status error mid.0.head.phase ≡ true =
    acted_end (exactly status error) (exactly_own status error) (turn v d).act after (seen v d) s mid.0 f mid.1 there (ap (exactly status error) phase ∙ exactly_self status error) in
    by_done v d s (is_done v.issued s e.head) e done.0 mid.0 status error
    (ap (rephase (is_done v.issued s) (Ended Done)) (sym here) ∙ sym (entry_of_rephased (is_done v.issued) (Ended Done) d.entries s) ∙ done.1)
    done.1 open' mid.1 (exactly_is status error mid.0.head.phase exact)
