-- For `port_and_ledger_stay_joined`. Commands are issued, and reports say that they are done, at a port that is joined
-- to a disk's ledger.
use Rattle.std.proofs.Common.{◌≡◌, eqb, ℕ, zero, suc, ◌<◌, ◌≤◌, Bool, true, false, ◌∷◌, ◌++◌, refl, sym, ap, subst, ◌∙◌, inl, inr, Option, Some, None, arith, length}
use Rattle.std.specs.{Prelude.{if◌then◌else◌, is_some}, Option.option_map}
use Rattle.std.proofs.lemmas.Bool.{cases_Bool, cases_lt, eq-eqb, eqb-true, le-ltb, lt-ltb, true≢false}
use Rattle.host_memory.specs.Memory.{Memory}
use Rattle.hba_commands.specs.declared.command.Command as issued_command
use Rattle.slots.specs.{Slots.{DeviceSlots, Issue, new_issue, own_issue, owned_by}, declared.table.Context.Context}
use Rattle.hba_fbs.specs.{declared.register.Register.TheVariants.Ci, Issuing.{aimed, asked, issue_with, issued_slots, view_issued}}
use Rattle.hba_fbs.specs.{Views.{DeviceView, Port, view_of}, declared.status.Block.Block, Writing.view_after}
use Rattle.disk_model.specs.Ledger.{Ledger}
use Rattle.hba_laws.specs.{Agreement.{Agrees, end_of, work_of_issue, work_of_transfer}, Client.own, Delivering.{issued_below, touched}}
use Rattle.hba_laws.specs.{History.{History, Issued, Transfer, issued}, Hosts.{Host, Wrote}}
use Rattle.hba_laws.specs.Between.{IsOwn, history_below, issue_below, transfer_of, with_issued}
use Rattle.hba_laws.proofs.Door.{asked_free, ext, is_own, own_below, own_below_is, own_issued, step}
use Rattle.slots.proofs.Door.{own_at}
use Rattle.disk_simulation.specs.{Anew.KeepsSlots, Same.{InLife, SlotCommand}, Together.{Same, is_sent, with_command}}
use Rattle.disk_simulation.specs.Joined.{AreCounted, IsAskedBy, IsJoined, JoinsIssues, SentAgrees, StaysJoined}
use Rattle.disk_simulation.proofs.{joined.HeardLemmas.there_by, together.TogetherLemmas.same_goes_on}

-- ## Commands are issued

same_map : (a b : ℕ → SlotCommand) (past : History) (k : Ledger) → ((s : ℕ) → a s ≡ b s) → Same a past k → Same b past k
same_map a b past k same joined = subst (λ (f : ℕ → SlotCommand). Same f past k) (ext a b same) joined

own_command : (commands : ℕ → SlotCommand) (slot s : ℕ) (b : Bool) → eqb slot s ≡ b → (if b then commands slot else commands s) ≡ commands s
own_command commands slot s true is = ap commands (eqb-true slot s is)
own_command commands slot s false is = refl

issue_one : (commands : ℕ → SlotCommand) (slot : ℕ) (t : Transfer) (past : History) (k : Ledger) → issued slot past ≡ None → (commands slot).since ≤ length k.writes → Same commands past k
    → Same commands (Issued slot t ∷ past) k
issue_one commands slot t past k free counted same =
    same_map (with_command commands slot (commands slot)) commands (Issued slot t ∷ past) k (λ s. own_command commands slot s (eqb slot s) refl)
    (same_goes_on.issues commands slot (commands slot) t past k free (same.tags slot) counted same)

-- the map may name another command where none is issued
same_named : (commands next : ℕ → SlotCommand) (past : History) (k : Ledger) → ((s : ℕ) → (next s).command.tag ≡ s)
    → ((s : ℕ) (t : Transfer) → issued s past ≡ Some t → next s ≡ commands s) → Same commands past k → Same next past k
same_named commands next past k tags names same = record {
  fine = same.fine;
  tags = tags;
  live = λ s t there queued. subst (λ (c : SlotCommand). InLife s c past k) (sym (names s t there)) (same.live s t there queued);
  free = same.free;
  unsent = same.unsent;
  untouched = same.untouched;
  talk = same.talk;
}

module _ (memory : Memory) (asks : ℕ → Option issued_command.Command) (commands : ℕ → SlotCommand) (past : History) (k : Ledger) (free : (s : ℕ) → s < 32
    → is_some (asks s) ≡ true → issued s past ≡ None) (counted : AreCounted asks commands k) where
  later_slot : (m s : ℕ) → suc m ≤ s → eqb m s ≡ false
  later_slot m s above = elim (cases_Bool (eqb m s)) [
    | inl is ↦ let same : m ≡ s = eqb-true m s is in absurd (omega (arith, same, above))
    | inr other ↦ other
  ]

  above_one : (m s : ℕ) (o : Option issued_command.Command) (h : History) → suc m ≤ s → issued s (with_issued memory m o h) ≡ issued s h
  above_one m s None h above = refl
  above_one m s (Some command) h above = ap (λ (b : Bool). if b then Some (transfer_of memory command) else issued s h) (later_slot m s above)

  above : (m s : ℕ) → m ≤ s → issued s (history_below memory asks past m) ≡ issued s past
  above zero s lt = refl
  above (suc m) s lt = above_one m s (asks m) (history_below memory asks past m) lt ∙ above m s (omega (arith, lt))

  one_more : (m : ℕ) (o : Option issued_command.Command) → m < 32 → asks m ≡ o → Same commands (history_below memory asks past m) k
      → Same commands (with_issued memory m o (history_below memory asks past m)) k
  one_more m None lt is same = same
  one_more m (Some command) lt is same =
      issue_one commands m (transfer_of memory command) (history_below memory asks past m) k (above m m (omega arith)
      ∙ free m lt (ap is_some is)) (counted m (ap is_some is)) same

  same_below : (m : ℕ) → m ≤ 32 → Same commands past k → Same commands (history_below memory asks past m) k
  same_below zero lt same = same
  same_below (suc m) lt same = one_more m (asks m) (omega (arith, lt)) refl (same_below m (omega (arith, lt)) same)

  -- ---- what was sent

  unsent_one : (m s : ℕ) (o : Option issued_command.Command) (h : History) (b : Bool) → eqb m s ≡ b → asks m ≡ o → is_some (asks s) ≡ true
      → (b ≡ false → is_sent s h ≡ false) → is_sent s (with_issued memory m o h) ≡ false
  unsent_one m s None h true is none some before =
      let at : asks s ≡ None = ap asks (sym (eqb-true m s is)) ∙ none in
      absurd (true≢false (sym some ∙ ap is_some at))
  unsent_one m s None h false is none some before = before refl
  unsent_one m s (Some command) h true is here some before = ap (λ (b : Bool). if b then false else is_sent s h) is
  unsent_one m s (Some command) h false is here some before = ap (λ (b : Bool). if b then false else is_sent s h) is ∙ before refl

  unsent_below : (m s : ℕ) → s < m → is_some (asks s) ≡ true → is_sent s (history_below memory asks past m) ≡ false
  unsent_below zero s lt some = absurd (omega (arith, lt))
  unsent_below (suc m) s lt some = unsent_one m s (asks m) (history_below memory asks past m) (eqb m s) refl refl some
      (λ other. unsent_below m s (below_if m s lt other) some)
    where
      below_if : (m s : ℕ) → s < suc m → eqb m s ≡ false → s < m
      below_if m s lt other = elim (cases_lt s m) [
        | inl below ↦ below
        | inr at ↦ let same : m ≡ s = omega (arith, lt, at) in absurd (true≢false (sym (eq-eqb m s same) ∙ other))
      ]

  as_sent_one : (m s : ℕ) (o : Option issued_command.Command) (h : History) (b : Bool) → eqb m s ≡ b → asks m ≡ o → asks s ≡ None
      → is_sent s (with_issued memory m o h) ≡ is_sent s h
  as_sent_one m s None h b is here none = refl
  as_sent_one m s (Some command) h true is here none =
      let at : Some command ≡ None = sym here ∙ ap asks (eqb-true m s is) ∙ none in
      absurd (some_none command at)
    where
      some_none : (command : issued_command.Command) → Some command ≡ None → ⊥
      some_none command e = cc e
  as_sent_one m s (Some command) h false is here none = ap (λ (b : Bool). if b then false else is_sent s h) is

  as_sent : (m s : ℕ) → asks s ≡ None → is_sent s (history_below memory asks past m) ≡ is_sent s past
  as_sent zero s none = refl
  as_sent (suc m) s none = as_sent_one m s (asks m) (history_below memory asks past m) (eqb m s) refl refl none ∙ as_sent m s none

  sent_with : (dev s : ℕ) (i : Issue) (o : Option issued_command.Command) (old : Option Issue) → s < 32 → asks s ≡ o
      → ((j : Issue) → old ≡ Some j → is_sent s past ≡ j.sent) → issue_with dev o old ≡ Some i
      → is_sent s (history_below memory asks past 32) ≡ i.sent
  sent_with dev s i None old lt is before there = as_sent 32 s is ∙ before i there
  sent_with dev s i (Some command) old lt is before there =
      let one : new_issue dev command.work ≡ i = cc there in
      unsent_below 32 s lt (ap is_some is) ∙ ap (λ (x : Issue). x.sent) one

some_issued : (o : Option Transfer) (t : Transfer) → o ≡ None → o ≡ Some t → ⊥
some_issued o t none some = cc (sym none ∙ some)

-- what the port has not the history has not either
pub none_where : (o : Option Transfer) → option_map work_of_transfer o ≡ None → o ≡ None
none_where None none = refl
none_where (Some t) none = cc none

none_asked : (o : Option issued_command.Command) (p : Option Transfer) (t : Transfer) → (is_some o ≡ true → p ≡ None) → p ≡ Some t → o ≡ None
none_asked None p t free there = refl
none_asked (Some command) p t free there = absurd (some_issued p t (free refl) there)

-- the view of the device for which commands are issued
view_issued_is : (n value : ℕ) (port : Port) (memory : Memory) → aimed port.registers memory.structure value ≡ n
    → view_after Ci port memory value n ≡ view_issued port.registers memory value (view_of n port)
unfolding view_after
view_issued_is n value port memory chosen =
    ap (λ (b : Bool). if b then view_issued port.registers memory value (view_of n port) else view_of n port)
    (eq-eqb n (aimed port.registers memory.structure value) (sym chosen))

pub joins_issues : JoinsIssues
joins_issues n value host new commands next past k sound below chosen does tags names counted joined =
    let r = host.port.registers in
    let asks : ℕ → Option issued_command.Command = asked host.port.registers host.memory value in
    let v : DeviceView = view_of n host.port in
    let owns : IsOwn n v.slots = is_own n host.port.slots sound.slots in
    let long = sound.slots.slots in
    let free : (s : ℕ) → s < 32 → is_some (asked host.port.registers host.memory value s) ≡ true → issued s past ≡ None =
    λ s lt some. none_where (issued s past) (joined.history.issued s
    ∙ ap (option_map work_of_issue) (own_at n host.port.slots s (omega (arith, lt, long))
    ∙ ap (owned_by n) (asked_free host.port host.memory value s does.0 lt some))) in
    let named : Same next past k = same_named commands next past k tags (λ s t there.
    let at = there_by v.slots s t (own_issue v.slots s) refl (sym (ap (option_map work_of_transfer) there) ∙ joined.history.issued s) in
    names s (none_asked (asked host.port.registers host.memory value s) (issued s past) t
    (free s (own_below n s v.slots at.issue owns at.there)) there)) joined.same in
    let touch_is : own n (touched host (Wrote Ci value)) ++ past ≡ history_below host.memory (asked host.port.registers host.memory value) past 32 =
    ap (λ (d : ℕ). own n (issued_below d host.memory (asked host.port.registers host.memory value) 32) ++ past) chosen
    ∙ own_below_is n host.memory (asked host.port.registers host.memory value) past 32 in
    let view_is : view_of n new.port ≡ view_issued host.port.registers host.memory value v =
    does.1.views n (omega (arith, below)) ∙ view_issued_is n value host.port host.memory chosen in
    record {
      history = step n host sound past joined.history (Wrote Ci value) new (omega (arith, below)) tt does;
      same =
          subst (λ (h : History). Same next h k) (sym touch_is)
          (same_below host.memory (asked host.port.registers host.memory value) next past k free counted 32 (omega arith) named);
      sent = λ s i there.
          let here : own_issue (issued_slots (aimed host.port.registers host.memory.structure value) (asked host.port.registers host.memory value) v.slots) s ≡ Some i =
          sym (ap (λ (w : DeviceView). own_issue w.slots s) view_is) ∙ there in
          let by_slot : issue_below (aimed host.port.registers host.memory.structure value) (asked host.port.registers host.memory value) (own_issue v.slots) 32 s ≡ Some i =
          sym (ap (λ (f : ℕ → Option Issue). f s)
          (own_issued (aimed host.port.registers host.memory.structure value) (asked host.port.registers host.memory value) v.slots 32 owns.long)) ∙ here in
          ap (is_sent s) touch_is ∙ elim (cases_lt s 32) [
            | inl lt ↦
                let with_it =
                sym (ap (λ (b : Bool). if b then issue_with (aimed host.port.registers host.memory.structure value) (asked host.port.registers host.memory value s)
                (own_issue v.slots s) else own_issue v.slots s) (lt-ltb s 32 lt)) ∙ by_slot in
                sent_with host.memory (asked host.port.registers host.memory value) next past k free counted (aimed host.port.registers host.memory.structure value) s i
                (asked host.port.registers host.memory value s) (own_issue v.slots s) lt refl (λ j old. joined.sent s j old) with_it
            | inr ge ↦
                let old : own_issue v.slots s ≡ Some i =
                sym (ap (λ (b : Bool). if b then issue_with (aimed host.port.registers host.memory.structure value) (asked host.port.registers host.memory value s)
                (own_issue v.slots s) else own_issue v.slots s) (le-ltb s 32 ge)) ∙ by_slot in
                let lt : s < 32 = own_below n s v.slots i owns old in
                absurd (omega (arith, lt, ge))
          ];
      short = joined.short;
      active = λ c now set. joined.active c (sym (ap (λ (w : DeviceView). w.slots.context) view_is) ∙ now) set;
    }

-- what leaves the slots leaves all that is joined
pub keeps_joined : (n : ℕ) (host new : Host) (commands : ℕ → SlotCommand) (past : History) (k : Ledger) → KeepsSlots n host new
    → IsJoined n commands host past k → IsJoined n commands new past k
keeps_joined n host new commands past k keeps joined = record {
  history = record {
    issued = λ s. joined.history.issued s ∙ ap (λ (own : DeviceSlots). option_map work_of_issue (own_issue own s)) (sym keeps.slots);
    agrees =
        subst (λ (own : DeviceSlots). Agrees (own_issue own) own.context (option_map end_of (view_of n new.port).state.block) past) (sym keeps.slots)
        (subst (λ (block : Option Block). Agrees (own_issue (view_of n host.port).slots) (view_of n host.port).slots.context (option_map end_of block) past)
        (sym keeps.block) joined.history.agrees);
  };
  same = joined.same;
  sent = subst (λ (own : DeviceSlots). SentAgrees own past) (sym keeps.slots) joined.sent;
  short = joined.short;
  active = subst (λ (own : DeviceSlots). (c : Context) → own.context ≡ Some c → c.activated ≡ true → IsAskedBy c k) (sym keeps.slots) joined.active;
}

pub stays_joined : StaysJoined
stays_joined n host new commands past k same joined =
    keeps_joined n host new commands past k
    (record { slots = ap (λ (v : DeviceView). v.slots) same; block = ap (λ (v : DeviceView). v.state.block) same }) joined
