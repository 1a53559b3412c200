-- For `serves_honestly`. Events that are none of a disk's, or issue for it what stands in one slot: the commands of its
-- slots, and what of it is issued.
use Rattle.std.proofs.Common.{◌≡◌, ◌≢◌, ℕ, ◌^◌, ◌<◌, ◌⊎◌, Bool, true, false, List, [], ◌∷◌, ◌++◌, refl, sym, ◌∙◌, ap, subst, inl, inr, arith, Option, Some, None, ◌≤◌, length}
use Rattle.std.specs.Prelude.{if◌then◌else◌, ◌==◌, is_some}
use Rattle.std.proofs.lemmas.{Bool.{cases_eq, false≢true, ne_eqb, true≢false}, Bool.Decides.nat_tests}
use Rattle.slots.specs.Slots.{has_bit}
use Rattle.hba_commands.specs.declared.command.Command as issued_command
use Rattle.hba_fbs.specs.{declared.register.Register.{Register, TheVariants.{Cmd, Ci, Fbs}}, Issuing.{aimed, asked}}
use Rattle.disk_model.specs.Ledger.{Ledger}
use Rattle.hba_laws.specs.{Client.{Touches, own}, Delivering.{touched, touches_after}, History.{History, issued}}
use Rattle.hba_laws.specs.Hosts.{Does, Flushed, Gave, Host, HostEvent, Runs, Took, Wrote}
use Rattle.hba_laws.proofs.Door.{own_app}
use Rattle.disk_simulation.specs.{Calm.IsCalm, Elsewhere.{IsElsewhere, LeavesDevice, WritesElsewhere}, Together.with_command, Same.SlotCommand}
use Rattle.disk_simulation.proofs.Door.{others_leave_device}
use Rattle.hba_driver.specs.Steady.{AreBeside, IsBeside, Issues, WritesBeside}
use Rattle.disk_recovery.specs.Between.{AreAway, CalmEnds, IsNewOrOld}
use Rattle.hba_driver.proofs.Door.{bit_other, issued_cases}

-- ---- events that are none of the disk's

writes_away : (n : ℕ) (h : Host) (register : Register) (value : ℕ) → WritesBeside n h register value → WritesElsewhere n h register value
writes_away n h Cmd value is = is
writes_away n h Ci value is = is
writes_away n h Fbs value is = is
writes_away n h other value is = tt

away_of : (n : ℕ) (h : Host) (e : HostEvent) → IsBeside n h e → IsElsewhere n h e
away_of n h (Took frame report) is = absurd is
away_of n h (Wrote register value) is = writes_away n h register value is
away_of n h (Flushed dev) is = is
away_of n h (Gave frame) is = absurd is
away_of n h other is = tt

pub beside_away : (n slot : ℕ) (old new : Host) (events : List HostEvent) (run : Runs old events new) → AreBeside n slot old new events run → AreAway n slot old new events run
beside_away n slot old new [] run h = tt
beside_away n slot old new (e ∷ events) run h = (elim h.0 [ inl is ↦ inl (away_of n old e is) | inr is ↦ inr is ], beside_away n slot run.0 new events run.2 h.1)

-- ---- what they leave

command_same : (commands : ℕ → SlotCommand) (slot : ℕ) (c : SlotCommand) → with_command commands slot c slot ≡ c
command_same commands slot c = ap (λ (b : Bool). if b then c else commands slot) (equal slot)
  where
    equal : (k : ℕ) → (k == k) ≡ true
    equal k = grind (arith, nat_tests)

command_other : (commands : ℕ → SlotCommand) (slot s : ℕ) (c : SlotCommand) → s ≢ slot → with_command commands slot c s ≡ commands s
command_other commands slot s c other = ap (λ (b : Bool). if b then c else commands s) (ne_eqb slot s (λ e. other (sym e)))

tags_then : (commands : ℕ → SlotCommand) (slot s : ℕ) (c : SlotCommand) → c.command.tag ≡ slot → (commands s).command.tag ≡ s → (with_command commands slot c s).command.tag ≡ s
tags_then commands slot s c tag was = elim (cases_eq s slot) [
  | inl same ↦ subst (λ (k : ℕ). (with_command commands slot c k).command.tag ≡ k) (sym same) (ap (λ (x : SlotCommand). x.command.tag) (command_same commands slot c) ∙ tag)
  | inr other ↦ ap (λ (x : SlotCommand). x.command.tag) (command_other commands slot s c other) ∙ was
]

-- what is asked for is in the slot
asked_none : (b : Bool) (o : Option issued_command.Command) → b ≡ false → (if b then o else None) ≡ None
asked_none true o h = absurd (true≢false h)
asked_none false o h = refl

none_some : (command : issued_command.Command) {P : Type 0} → None ≡ Some command → P
none_some command h = cc

not_none : (o : Option issued_command.Command) → is_some o ≡ true → o ≡ None → ⊥
not_none o h is = false≢true (sym (ap is_some is) ∙ h)

module _ (n slot : ℕ) (k : Ledger) (c : SlotCommand) (tag : c.command.tag ≡ slot) (counted : c.since ≤ length k.writes) where
  -- one event that issues
  issuing : (commands : ℕ → SlotCommand) (old mid : Host) (e : HostEvent) → ((s : ℕ) → (commands s).command.tag ≡ s) → Issues n slot old e → IsCalm n k old commands e (with_command commands slot c)
  issuing commands old mid e tags i =
      subst (λ (x : HostEvent). IsCalm n k old commands x (with_command commands slot c)) (sym i.is)
      (inr (
        i.for_dev,
        λ s. tags_then commands slot s c tag (tags s),
        λ s none. elim (cases_eq s slot) [
          | inl same ↦ absurd (not_none _ i.command (subst (λ (k : ℕ). asked old.port.registers old.memory (2 ^ slot) k ≡ None) same none))
          | inr other ↦ command_other commands slot s c other
        ],
        λ s there. elim (cases_eq s slot) [
          | inl same ↦ subst (λ (x : SlotCommand). x.since ≤ length k.writes)
              (sym (subst (λ (m : ℕ). with_command commands slot c m ≡ c) (sym same) (command_same commands slot c))) counted
          | inr other ↦ absurd (not_none (asked old.port.registers old.memory (2 ^ slot) s) there (asked_none (has_bit (2 ^ slot) s) _ (bit_other slot s other)))
        ],
      ))

  issued_then : (commands : ℕ → SlotCommand) (old : Host) (e : HostEvent) (past : Touches) → Issues n slot old e → IsNewOrOld slot c commands (with_command commands slot c) (own n past) (own n (touched old e ++ past))
  issued_then commands old e past i s t here =
      let there : issued s (own n (touched old (Wrote Ci (2 ^ slot)) ++ past)) ≡ Some t = subst (λ (x : HostEvent). issued s (own n (touched old x ++ past)) ≡ Some t) i.is here in
      elim (cases_eq s slot) [
        | inl same ↦ inl (same, subst (λ (k : ℕ). with_command commands slot c k ≡ c) (sym same) (command_same commands slot c))
        | inr other ↦ elim (issued_cases (aimed old.port.registers old.memory.structure (2 ^ slot)) n old.memory (asked old.port.registers old.memory (2 ^ slot)) past s t there) [
          | inl new ↦ none_some new.1.0 (sym (asked_none (has_bit (2 ^ slot) s) _ (bit_other slot s other)) ∙ new.1.1)
          | inr was ↦ inr (was, command_other commands slot s c other)
        ]
      ]

  -- one event that is none of it
  beside_then : (commands : ℕ → SlotCommand) (old mid : Host) (e : HostEvent) (past : Touches) → n < 16 → Does old e mid → IsElsewhere n old e → IsNewOrOld slot c commands commands (own n past) (own n (touched old e ++ past))
  beside_then commands old mid e past below does is s t here =
      let left : LeavesDevice n old e mid = others_leave_device n old mid e below does is in
      let same : own n (touched old e ++ past) ≡ own n past = own_app n (touched old e) past ∙ ap (λ (h : History). h ++ own n past) left.history in
      inr (sym (ap (issued s) same) ∙ here, refl)

  new_then : (commands mid next : ℕ → SlotCommand) (before between after : History) → ((s : ℕ) → s ≡ slot → (mid s ≡ c) ⊎ (mid s ≡ commands s)) → IsNewOrOld slot c commands mid before between → IsNewOrOld slot c mid next between after
      → IsNewOrOld slot c commands next before after
  new_then commands mid next before between after at first rest s t here = elim (rest s t here) [
    | inl new ↦ inl new
    | inr was ↦ elim (first s t was.0) [
      | inl new ↦ inl (new.0, was.1 ∙ new.1)
      | inr old ↦ inr (old.0, was.1 ∙ old.1)
    ]
  ]

  pub calm_ends : (commands : ℕ → SlotCommand) (old new : Host) (events : List HostEvent) (run : Runs old events new) (past : Touches) → n < 16 → ((s : ℕ) → (commands s).command.tag ≡ s) → AreAway n slot old new events run
      → CalmEnds n slot k c commands old new events run past
  calm_ends commands old new [] run past below tags away = record { next = commands; calm = refl; fresh = λ s t here. inr (here, refl) }
  calm_ends commands old new (e ∷ events) run past below tags away = elim away.0 [
    | inl is ↦
        let rest : CalmEnds n slot k c commands run.0 new events run.2 (touched old e ++ past) = calm_ends commands run.0 new events run.2 (touched old e ++ past) below tags away.1 in
        record {
          next = rest.next;
          calm = (commands, inl (is, refl), rest.calm);
          fresh = new_then commands commands rest.next (own n past) (own n (touched old e ++ past)) (own n (touches_after (touched old e ++ past) run.0 new events run.2)) (λ s at. inr refl) (beside_then commands old run.0 e past below run.1 is) rest.fresh;
        }
    | inr i ↦
        let mid : ℕ → SlotCommand = with_command commands slot c in
        let rest : CalmEnds n slot k c mid run.0 new events run.2 (touched old e ++ past) = calm_ends mid run.0 new events run.2 (touched old e ++ past) below (λ s. tags_then commands slot s c tag (tags s)) away.1 in
        record {
          next = rest.next;
          calm = (mid, issuing commands old run.0 e tags i, rest.calm);
          fresh = new_then commands mid rest.next (own n past) (own n (touched old e ++ past)) (own n (touches_after (touched old e ++ past) run.0 new events run.2)) (λ s at. inl (subst (λ (k : ℕ). mid k ≡ c) (sym at) (command_same commands slot c))) (issued_then commands old e past i) rest.fresh;
        }
  ]
