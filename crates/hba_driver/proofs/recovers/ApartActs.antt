-- For `devices_are_apart`. What an act leaves of the plan of a device that recovers.
use Rattle.std.proofs.Common.{◌≡◌, ◌≢◌, ℕ, ◌⊎◌, ◌&&◌, Bool, true, false, nat_lt, List, refl, sym, ◌∙◌, ap, subst, inl, inr, Option, Some, None}
use Rattle.std.proofs.lemmas.Bool.{cases_eq, false≢true, true≢false}
use Rattle.std.specs.Prelude.{if◌then◌else◌, is_some, slice_index_or}
use Rattle.fis_view.specs.declared.build.H2dFields.{H2dFields}
use Rattle.slots.specs.Slots.{match_some}
use Rattle.hba_fbs.specs.Views.{Port}
use Rattle.hba_laws.proofs.Door.{some_inj}
use Rattle.hba_driver.specs.declared.{order.Order.{Order, TheVariants.{ResetOn, Clear}}, path.{Path.Path, Recovery.{Recovery, TheVariants.Log}}}
use Rattle.hba_driver.specs.declared.path.{Recovery.TheVariants.Reset, Stage.{Stage, TheVariants.{ReadLog, AssertReset, ReleaseReset, AwaitReset}}}
use Rattle.hba_driver.specs.{declared.{path.TaskFile.TaskFile, plan.{Device.{Device, TheVariants.{Absent, Recovering}}, Plan.Plan}}, Seeing.Sight}
use Rattle.hba_driver.specs.{declared.turn.Act.Act, Drivers.{Entry, device_at}, Orders.{control, log_fields}, Paths.{first_stage, stage_fields}}
use Rattle.hba_driver.specs.Slot30.{Asks, Cleared, Clears, Faulty, IsPlan30, IsSlot30, IsUnsent30, LogSent, Off, On, ReadsLog, Resets, Sets, Stage30}
use Rattle.hba_driver.specs.{Slot30.{TicksOn30, is_faulty, is_resetting, path_of}, Steady.IsCalmAct, Ticks.{from_reset, ordered, plan_after}}
use Rattle.hba_driver.specs.{Ticks.recovering, Turns.is_ready, Between.{Due, DueOf, MayStep, Waiting}}
use Rattle.hba_driver.specs.declared.turn.Act.TheVariants as act
use Rattle.hba_driver.proofs.{recovers.ApartPlans.{HasFields, recovers}, steady.SteadyLemmas.set_other, issued.TickingLemmas.unless_back}
use Rattle.hba_driver.proofs.issued.TickingLemmas.{unless_other}

-- ---- while the device's path is as it was

resets_by : (n : ℕ) (stage : Stage) (asked : Bool) (p q : Plan) → device_at q n ≡ device_at p n → ((x : Path) → x.dev ≡ n → p.path ≡ Some x → q.path ≡ Some x) → Resets n stage asked p → Resets n stage asked q
resets_by n stage asked p q device keep h = record { device = device ∙ h.device; path = keep (record { dev = n; stage = stage; asked = asked }) refl h.path }

reads_by : (n : ℕ) (p q : Plan) → device_at q n ≡ device_at p n → ((x : Path) → x.dev ≡ n → p.path ≡ Some x → q.path ≡ Some x) → ReadsLog n p → ReadsLog n q
reads_by n p q device keep h = record { file = h.file; device = device ∙ h.device; path = keep (record { dev = n; stage = ReadLog h.file; asked = true }) refl h.path }

plan_by : (n : ℕ) (stage : Stage30) (p q : Plan) → device_at q n ≡ device_at p n → ((x : Path) → x.dev ≡ n → p.path ≡ Some x → q.path ≡ Some x) → ((x : Path) → x.dev ≡ n → q.path ≡ Some x → p.path ≡ Some x)
    → IsPlan30 n stage p → IsPlan30 n stage q
plan_by n Faulty p q device keep from h = tt
plan_by n Cleared p q device keep from h = record { way = h.way; device = device ∙ h.device; away = λ x there to. h.away x (from x to there) to }
plan_by n Sets p q device keep from h = resets_by n AssertReset true p q device keep h
plan_by n On p q device keep from (inl h) = inl (resets_by n AssertReset true p q device keep h)
plan_by n On p q device keep from (inr h) = inr (resets_by n ReleaseReset false p q device keep h)
plan_by n Clears p q device keep from h = resets_by n ReleaseReset true p q device keep h
plan_by n Off p q device keep from (inl h) = inl (resets_by n ReleaseReset true p q device keep h)
plan_by n Off p q device keep from (inr h) = inr (resets_by n AwaitReset false p q device keep h)
plan_by n other p q device keep from h = reads_by n p q device keep h

-- slot 30 works on the device, unless its fault was just cleared
own_path : (n : ℕ) (stage : Stage30) (p : Plan) → is_faulty stage ≡ false → IsPlan30 n stage p → (stage ≡ Cleared) ⊎ ((x : Path) × (p.path ≡ Some x) × (x.dev ≡ n))
own_path n Faulty p well h = absurd (true≢false well)
own_path n Cleared p well h = inl refl
own_path n Sets p well h = inr (record { dev = n; stage = AssertReset; asked = true }, h.path, refl)
own_path n On p well (inl h) = inr (record { dev = n; stage = AssertReset; asked = true }, h.path, refl)
own_path n On p well (inr h) = inr (record { dev = n; stage = ReleaseReset; asked = false }, h.path, refl)
own_path n Clears p well h = inr (record { dev = n; stage = ReleaseReset; asked = true }, h.path, refl)
own_path n Off p well (inl h) = inr (record { dev = n; stage = ReleaseReset; asked = true }, h.path, refl)
own_path n Off p well (inr h) = inr (record { dev = n; stage = AwaitReset; asked = false }, h.path, refl)
own_path n other p well h = inr (record { dev = n; stage = ReadLog h.file; asked = true }, h.path, refl)

same_stage : (x y : Path) → Some x ≡ Some y → (x.dev ≡ y.dev) × (x.stage ≡ y.stage) × (x.asked ≡ y.asked)
same_stage x y h = let is : x ≡ y = some_inj x y h in (ap (λ (p : Path). p.dev) is, ap (λ (p : Path). p.stage) is, ap (λ (p : Path). p.asked) is)

none_path : (x : Path) {P : Type 0} → None ≡ Some x → P
none_path x h = cc

await_none : (n : ℕ) → is_some (stage_fields n AwaitReset) ≡ false
unfolding stage_fields
await_none n = refl

log_given : (n : ℕ) (file : TaskFile) → stage_fields n (ReadLog file) ≡ Some (log_fields n)
unfolding stage_fields
log_given n file = refl

assert_given : (n : ℕ) → stage_fields n AssertReset ≡ Some (control n 4)
unfolding stage_fields
assert_given n = refl

release_given : (n : ℕ) → stage_fields n ReleaseReset ≡ Some (control n 0)
unfolding stage_fields
release_given n = refl

-- ---- what an act makes of the stage

-- slot 30 is given a command of the device
pub record Begins30 (n : ℕ) (stage : Stage30) (r : Plan) (a : Option Act) : Type 0 where
  pub step : Stage
  pub due : a ≡ Some (act.Steps n step)
  pub next : Stage30
  pub follows : TicksOn30 stage next
  pub well : is_faulty next ≡ false
  pub is : IsPlan30 n next r
  pub fields : H2dFields
  pub given : stage_fields n step ≡ Some fields
  pub holds : (port : Port) → IsUnsent30 n fields port → IsSlot30 n next port
  pub resets : is_resetting next ≡ is_resetting stage

-- slot 30 is not given one
pub record Rests30 (n : ℕ) (stage : Stage30) (r : Plan) (a : Option Act) : Type 0 where
  pub is : IsPlan30 n stage r
  pub none : (dev : ℕ) (step : Stage) → a ≡ Some (act.Steps dev step) → dev ≢ n
  -- no other device is given slot 30 while it works on this one
  pub free : (dev : ℕ) (step : Stage) → a ≡ Some (act.Steps dev step) → stage ≡ Cleared

module _ (n : ℕ) (stage : Stage30) (v : Sight) (file : TaskFile) (q : Plan) (entries : List (Option Entry)) (well : is_faulty stage ≡ false) (h : IsPlan30 n stage q) where
  abbrev Result : Option Act → Plan → Type 0
  Result a r = Rests30 n stage r a ⊎ Begins30 n stage r a

  rests : (a : Option Act) (r : Plan) → ((dev : ℕ) (step : Stage) → a ≡ Some (act.Steps dev step) → ⊥) → device_at r n ≡ device_at q n → ((x : Path) → x.dev ≡ n → q.path ≡ Some x → r.path ≡ Some x) → ((x : Path) → x.dev ≡ n → r.path ≡ Some x → q.path ≡ Some x)
      → Result a r
  rests a r none device keep from = inl (record {
    is = plan_by n stage q r device keep from h;
    none = λ dev step is. absurd (none dev step is);
    free = λ dev step is. absurd (none dev step is);
  })

  -- an order that is due
  plainly : (order : Order) → Result (Some (act.Orders order)) (record q { asked = true })
  plainly order = rests _ _ (λ dev step e. absurd (cc)) refl (λ x to here. here) (λ x to here. here)

  orders : (order : Order) → order ≢ Clear n → Result (Some (act.Orders order)) (ordered order q)
  orders (Clear port) other =
      let far : n ≢ port = λ e. other (ap Clear (sym e)) in
      rests _ _ (λ dev step e. absurd (cc)) (set_other q.devices port n Absent far) (λ x to here. unless_other port q.path x (λ e. far (sym to ∙ e)) here) (λ x to here. unless_back port q.path x here)
  orders rest other = plainly rest

  -- another device's fault is cleared
  clears : (b : Bool) (dev : ℕ) → n ≢ dev → Result (Some (act.Clears dev)) (if b then recovering dev file q else from_reset q)
  clears true dev other =
      rests _ _ (λ d step e. absurd (cc)) (set_other q.devices dev n _ other) (λ x to here. unless_other dev q.path x (λ e. other (sym to ∙ e)) here) (λ x to here. unless_back dev q.path x here)
  clears false dev other = rests _ _ (λ d step e. absurd (cc)) refl (λ x to here. here) (λ x to here. here)

  abbrev given : ℕ → Stage → Plan
  given dev step = record q { path = Some (record { dev = dev; stage = step; asked = true }) }

  -- slot 30 begins to work on another device
  step_other : (dev : ℕ) (step : Stage) → dev ≢ n → MayStep q dev step → Result (Some (act.Steps dev step)) (given dev step)
  step_other dev step other may = elim (own_path n stage q well h) [
    | inl is ↦ inl (record {
      is = subst (λ (s : Stage30). IsPlan30 n s (given dev step)) (sym is) (cleared_given (subst (λ (s : Stage30). IsPlan30 n s q) is h));
      none = λ d t e. λ to. other (same_act dev d step t e ∙ to);
      free = λ d t e. is;
    })
    | inr has ↦ elim may [
      | inl none ↦ none_path has.0 (sym none.0 ∙ has.1)
      | inr goes ↦ absurd (other ((same_stage (record { dev = dev; stage = step; asked = false }) has.0 (sym goes ∙ has.1)).0 ∙ has.2))
    ]
  ]
    where
      cleared_given : Rattle.hba_driver.specs.Slot30.IsCleared n q → Rattle.hba_driver.specs.Slot30.IsCleared n (given dev step)
      cleared_given c = record { way = c.way; device = c.device; away = λ x there to. other ((same_stage (record { dev = dev; stage = step; asked = true }) x there).0 ∙ to) }

      same_act : (d e : ℕ) (s t : Stage) → Some (act.Steps d s) ≡ Some (act.Steps e t) → d ≡ e
      same_act d e s t is = cc

  begins : (step : Stage) (next : Stage30) → TicksOn30 stage next → is_faulty next ≡ false → IsPlan30 n next (given n step) → (fields : H2dFields) → stage_fields n step ≡ Some fields → ((port : Port) → IsUnsent30 n fields port → IsSlot30 n next port)
      → is_resetting next ≡ is_resetting stage → Result (Some (act.Steps n step)) (given n step)
  begins step next follows good is fields fields_is holds resets = inr (record {
    step = step;
    due = refl;
    next = next;
    follows = follows;
    well = good;
    is = is;
    fields = fields;
    given = fields_is;
    holds = holds;
    resets = resets;
  })

  asked_path : (s step : Stage) → q.path ≡ path_of n s true → MayStep q n step → Result (Some (act.Steps n step)) (given n step)
  asked_path s step here (inl none) = none_path _ (sym none.0 ∙ here)
  asked_path s step here (inr goes) =
      absurd (false≢true (same_stage (record { dev = n; stage = step; asked = false }) (record { dev = n; stage = s; asked = true }) (sym goes ∙ here)).2)

  -- the path goes on
  free_path : (s step : Stage) → q.path ≡ path_of n s false → MayStep q n step → step ≡ s
  free_path s step here (inl none) = none_path _ (sym none.0 ∙ here)
  free_path s step here (inr goes) = (same_stage (record { dev = n; stage = step; asked = false }) (record { dev = n; stage = s; asked = false }) (sym goes ∙ here)).1

  -- what is due first after the fault was cleared
  first_step : (way : Recovery) (step : Stage) → stage ≡ Cleared → device_at q n ≡ Recovering way → (signed : Bool) → first_stage (Recovering way) signed ≡ Some step → Result (Some (act.Steps n step)) (given n step)
  first_step (Log f) step is device signed first =
      let read : step ≡ ReadLog f = some_inj step (ReadLog f) (sym first) in
      begins step Asks (subst (λ (s : Stage30). TicksOn30 s Asks) (sym is) (inr (inl refl))) refl
      (record { file = f; device = device; path = ap (λ (s : Stage). path_of n s true) read }) (log_fields n) (ap (stage_fields n) read ∙ log_given n f) (λ port u. u) (ap is_resetting (sym is))
  first_step Reset step is device signed first =
      let set : step ≡ AssertReset = some_inj step AssertReset (sym first) in
      begins step Sets (subst (λ (s : Stage30). TicksOn30 s Sets) (sym is) (inr (inr refl))) refl
      (record { device = device; path = ap (λ (s : Stage). path_of n s true) set }) (control n 4) (ap (stage_fields n) set ∙ assert_given n) (λ port u. u) (ap is_resetting (sym is))

  step_own : (s : Stage30) → stage ≡ s → (step : Stage) → IsPlan30 n s q → MayStep q n step → DueOf v q (Some (act.Steps n step)) → HasFields (Some (act.Steps n step)) → Result (Some (act.Steps n step)) (given n step)
  step_own Faulty is step p may due has = absurd (true≢false (sym (ap is_faulty is) ∙ well))
  step_own Cleared is step p may (inl goes) has = absurd (p.away (record { dev = n; stage = step; asked = false }) goes refl)
  step_own Cleared is step p may (inr first) has =
      first_step p.way step is p.device (slice_index_or v.signed n false) (ap (λ (d : Device). first_stage d (slice_index_or v.signed n false)) (sym p.device) ∙ first)
  step_own Sets is step p may due has = asked_path AssertReset step p.path may
  step_own On is step (inl p) may due has = asked_path AssertReset step p.path may
  step_own On is step (inr p) may due has =
      let goes : step ≡ ReleaseReset = free_path ReleaseReset step p.path may in
      begins step Clears (subst (λ (s : Stage30). TicksOn30 s Clears) (sym is) (inr refl)) refl
      (record { device = p.device; path = ap (λ (s : Stage). path_of n s true) goes }) (control n 0) (ap (stage_fields n) goes ∙ release_given n) (λ port u. u) (ap is_resetting (sym is))
  step_own Clears is step p may due has = asked_path ReleaseReset step p.path may
  step_own Off is step (inl p) may due has = asked_path ReleaseReset step p.path may
  step_own Off is step (inr p) may due has =
      absurd (false≢true (sym (await_none n) ∙ ap (λ (s : Stage). is_some (stage_fields n s)) (sym (free_path AwaitReset step p.path may)) ∙ has))
  step_own other is step p may due has = asked_path (ReadLog p.file) step p.path may

  steps : (dev : ℕ) (step : Stage) → MayStep q dev step → DueOf v q (Some (act.Steps dev step)) → HasFields (Some (act.Steps dev step)) → Result (Some (act.Steps dev step)) (given dev step)
  steps dev step may due has = elim (cases_eq dev n) [
    | inl same ↦
        subst (λ (d : ℕ). Result (Some (act.Steps d step)) (given d step)) (sym same)
        (step_own stage refl step h (subst (λ (d : ℕ). MayStep q d step) same may) (subst (λ (d : ℕ). DueOf v q (Some (act.Steps d step))) same due) (subst (λ (d : ℕ). HasFields (Some (act.Steps d step))) same has))
    | inr other ↦ step_other dev step other may
  ]

  pub act_plans : (a : Option Act) → IsCalmAct n a → DueOf v q a → Due v q entries a → HasFields a → Result a (match_some a q (λ x. plan_after x file q))
  unfolding plan_after
  act_plans None calm of due has = rests None q (λ dev step e. absurd (cc)) refl (λ x to here. here) (λ x to here. here)
  act_plans (Some act.Stops) calm of due has = absurd calm
  act_plans (Some (act.Clears dev)) calm of due has = clears (nat_lt dev 15) dev calm
  act_plans (Some (act.Orders order)) calm of due has = orders order calm
  act_plans (Some (act.Steps dev step)) calm of due has = steps dev step due of has
  act_plans (Some (act.Issues slot dev queued)) calm of due has = rests _ _ (λ d step e. absurd (cc)) refl (λ x to here. here) (λ x to here. here)
  act_plans other calm of due has = rests _ _ (λ dev step e. absurd (cc)) refl (λ x to here. here) (λ x to here. here)

  second : (a b : Bool) → (a && b) ≡ true → b ≡ true
  second true b e = e
  second false b e = absurd (false≢true e)

  -- no request of it is issued
  pub not_issued : (slot dev : ℕ) → Waiting q entries slot dev → dev ≢ n
  not_issued slot dev w same =
      let r = recovers n stage q well h in
      let ready : is_ready (device_at q w.entry.head.dev) ≡ true = second (Rattle.hba_driver.specs.Drivers.waits w.entry.head) _ w.may in
      false≢true (sym (ap is_ready (ap (device_at q) (w.of_dev ∙ same) ∙ r.1)) ∙ ready)
