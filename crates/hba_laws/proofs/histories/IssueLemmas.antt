-- For `delivers`. What a device's part of the slots says once a write of PxCI issued commands.
use Rattle.std.proofs.Common.{◌≡◌, ◌≢◌, ℕ, zero, suc, ◌<◌, ◌≤◌, Bool, true, false, cond, eqb, [], ◌∷◌, ◌++◌, length, refl, sym, ap, subst, ◌∙◌, inl}
use Rattle.std.proofs.{Common.{inr, List, Option, Some, None, arith, append_assoc}, lemmas.Bool.{cases_Bool, cases_eq, cases_lt, eq-eqb, eqb-true}}
use Rattle.std.proofs.lemmas.{Bool.{ne_eqb, false≢true, true≢false, lt-ltb, le-ltb}, Nat.Bits.{bit_at-zero}}
use Rattle.std.specs.{Prelude.{is_some, ◌&&◌, ◌==◌, not, if◌then◌else◌}, Option.{option_map, option_or}}
use Rattle.host_memory.specs.{Memory.Memory, declared.table.Prd.Prd}
use Rattle.hba_commands.specs.declared.command.Command.{Command}
use Rattle.slots.specs.Slots.{DeviceSlots, Issue, has_bit, issue_at, lowest, new_issue, own_issue}
use Rattle.slots.proofs.Door.{none_below}
use Rattle.hba_fbs.specs.{declared.{error.WriteError.WriteError, register.Register.TheVariants.Ci}, Issuing.{asked, is_busy, issue_with}}
use Rattle.hba_fbs.specs.{Issuing.issued_slots, Offering.{Offer, asked_by, offer_of, refusal_by, slots_refusal_by}, Registers.own_refusal}
use Rattle.hba_fbs.specs.{Registers.own_refusal_by, Views.Port, Writing.refusal_of}
use Rattle.hba_fbs.specs.declared.error.WriteError.TheVariants as refusal
use Rattle.hba_laws.specs.{Agreement.{Agrees, AreIssued, work_of_issue, work_of_transfer}, Client.{By, Puts, Stops, Touches, own}, Alike.told_issue}
use Rattle.hba_laws.specs.{Alike.told_issued, Delivering.{issued_below, issued_in}, History.{Emptied, History, Issued, issued}, Between.at_slot}
use Rattle.hba_laws.specs.Between.{history_below, issue_below, transfer_of, with_issued}
use Rattle.hba_laws.proofs.{soundness.WriteLemmas.free_by, cores.CoreHostLemmas.core_accepts, histories.{CarryLemmas.agrees_issued, StepLemmas.Says}}
use Rattle.hba_laws.proofs.histories.ViewLemmas.{at_other, at_same, ext, own_issued}

-- ---- touches and histories

pub own_app : (n : ℕ) (xs ys : Touches) → own n (xs ++ ys) ≡ own n xs ++ own n ys
own_app n [] ys = refl
own_app n (By dev e ∷ xs) ys = by_test (eqb dev n) (own_app n xs ys)
  where
    by_test : (b : Bool) → own n (xs ++ ys) ≡ own n xs ++ own n ys → cond b (e ∷ own n (xs ++ ys)) (own n (xs ++ ys)) ≡ cond b (e ∷ own n xs) (own n xs) ++ own n ys
    by_test true h = ap (λ h. e ∷ h) h
    by_test false h = h
own_app n (Stops ∷ xs) ys = ap (λ h. Emptied ∷ h) (own_app n xs ys)
own_app n (Puts at bytes ∷ xs) ys = own_app n xs ys

own_issued_in : (n slot : ℕ) (memory : Memory) (o : Option Command) (rest : Touches) (past : History)
    → own n (issued_in n memory slot o ++ rest) ++ past ≡ with_issued memory slot o (own n rest ++ past)
own_issued_in n slot memory None rest past = refl
own_issued_in n slot memory (Some command) rest past =
    ap (λ b. cond b (Issued slot (transfer_of memory command) ∷ own n rest) (own n rest) ++ past) (eq-eqb n n refl)

pub own_below_is : (n : ℕ) (memory : Memory) (commands : ℕ → Option Command) (past : History) (m : ℕ)
    → own n (issued_below n memory commands m) ++ past ≡ history_below memory commands past m
unfolding issued_below
own_below_is n memory commands past zero = refl
own_below_is n memory commands past (suc m) =
    own_issued_in n m memory (commands m) (issued_below n memory commands m) past ∙ ap (with_issued memory m (commands m)) (own_below_is n memory commands past m)

other_in : (n dev slot : ℕ) (memory : Memory) (o : Option Command) (rest : Touches) → dev ≢ n → own n (issued_in dev memory slot o ++ rest) ≡ own n rest
other_in n dev slot memory None rest ne = refl
other_in n dev slot memory (Some command) rest ne = ap (λ b. cond b (Issued slot (transfer_of memory command) ∷ own n rest) (own n rest)) (ne_eqb dev n ne)

pub other_below : (n dev : ℕ) (memory : Memory) (commands : ℕ → Option Command) (m : ℕ) → dev ≢ n → own n (issued_below dev memory commands m) ≡ []
unfolding issued_below
other_below n dev memory commands zero ne = refl
other_below n dev memory commands (suc m) ne = other_in n dev m memory (commands m) (issued_below dev memory commands m) ne ∙ other_below n dev memory commands m ne

-- ---- commands are issued in free slots

-- issues by slot, a context and a Status at the end of its block are what a history says
pub record Holds (issues : ℕ → Option Issue) (own : DeviceSlots) (ends : Option ℕ) (past : History) : Type 0 where
  pub issued : AreIssued issues past
  pub agrees : Agrees issues own.context ends past

module _ (dev : ℕ) (tables : ℕ → List Prd) (commands : ℕ → Option Command) (own : DeviceSlots) (ends : Option ℕ) (past : History) (says : Says own ends past)
    (free : (s : ℕ) → s < 32 → is_some (commands s) ≡ true → own_issue own s ≡ None) where
  abbrev at_least : ℕ → ℕ → Bool → Option Issue
  at_least m k b = cond b (issue_with dev (commands k) (own_issue own k)) (own_issue own k)

  none_below_first : issue_below dev commands (own_issue own) 0 ≡ own_issue own
  none_below_first = ext (issue_below dev commands (own_issue own) 0) (own_issue own) (λ k. ap (at_least 0 k) (le-ltb k 0 (omega arith)))

  -- the next slot has no command
  same_more : (m : ℕ) → commands m ≡ None → issue_below dev commands (own_issue own) (suc m) ≡ issue_below dev commands (own_issue own) m
  same_more m none = ext (issue_below dev commands (own_issue own) (suc m)) (issue_below dev commands (own_issue own) m) (λ k. elim (cases_lt k m) [
    | inl lt ↦ ap (at_least m k) (lt-ltb k (suc m) (omega arith) ∙ sym (lt-ltb k m lt))
    | inr ge ↦ elim (cases_eq k m) [
      | inl e ↦
          ap (at_least m k) (lt-ltb k (suc m) (omega arith)) ∙ ap (λ c. issue_with dev c (own_issue own k)) (ap commands e ∙ none)
          ∙ sym (ap (at_least m k) (le-ltb k m ge))
      | inr ne ↦ ap (at_least m k) (le-ltb k (suc m) (omega (arith, ge, ne)) ∙ sym (le-ltb k m ge))
    ]
  ])

  -- it has one
  set_more : (m : ℕ) (command : Command) → commands m ≡ Some command
      → issue_below dev commands (own_issue own) (suc m) ≡ at_slot (issue_below dev commands (own_issue own) m) m (Some (new_issue dev command.work))
  set_more m command here = ext (issue_below dev commands (own_issue own) (suc m)) (at_slot (issue_below dev commands (own_issue own) m) m (Some (new_issue dev command.work))) (λ k. elim (cases_eq k m) [
    | inl e ↦
        ap (at_least m k) (lt-ltb k (suc m) (omega arith)) ∙ ap (λ c. issue_with dev c (own_issue own k)) (ap commands e ∙ here)
        ∙ sym (at_same (issue_below dev commands (own_issue own) m) m k (Some (new_issue dev command.work)) e)
    | inr ne ↦ elim (cases_lt k m) [
      | inl lt ↦
          ap (at_least m k) (lt-ltb k (suc m) (omega arith) ∙ sym (lt-ltb k m lt))
          ∙ sym (at_other (issue_below dev commands (own_issue own) m) m k (Some (new_issue dev command.work)) ne)
      | inr ge ↦
          ap (at_least m k) (le-ltb k (suc m) (omega (arith, ge, ne)) ∙ sym (le-ltb k m ge))
          ∙ sym (at_other (issue_below dev commands (own_issue own) m) m k (Some (new_issue dev command.work)) ne)
    ]
  ])

  works_issued : (issues : ℕ → Option Issue) (h : History) (slot : ℕ) (command : Command) (table : List Prd) → AreIssued issues h
      → AreIssued (at_slot issues slot (Some (new_issue dev command.work))) (Issued slot (record { work = command.work; table = table }) ∷ h)
  works_issued issues h slot command table w s = elim (cases_eq s slot) [
    | inl e ↦
        ap (λ b. option_map work_of_transfer (cond b (Some (record { work = command.work; table = table })) (issued s h))) (eq-eqb slot s (sym e))
        ∙ sym (ap (option_map work_of_issue) (at_same issues slot s (Some (new_issue dev command.work)) e))
    | inr ne ↦
        ap (λ b. option_map work_of_transfer (cond b (Some (record { work = command.work; table = table })) (issued s h))) (ne_eqb slot s (λ e. ne (sym e)))
        ∙ w s ∙ sym (ap (option_map work_of_issue) (at_other issues slot s (Some (new_issue dev command.work)) ne))
  ]

  holds_more : (m : ℕ) → m < 32 → (o : Option Command) → commands m ≡ o → (h : History) → Holds (issue_below dev commands (own_issue own) m) own ends h
      → Holds (issue_below dev commands (own_issue own) (suc m)) own ends (told_issue m (tables m) o ++ h)
  holds_more m lt None here h x = subst (λ (f : ℕ → Option Issue). Holds f own ends h) (sym (same_more m here)) x
  holds_more m lt (Some command) here h x =
      let empty : issue_below dev commands (own_issue own) m m ≡ None = ap (at_least m m) (le-ltb m m (omega arith)) ∙ free m lt (ap is_some here) in
      subst (λ (f : ℕ → Option Issue). Holds f own ends (Issued m (record { work = command.work; table = tables m }) ∷ h)) (sym (set_more m command here)) (record {
        issued = works_issued (issue_below dev commands (own_issue own) m) h m command (tables m) x.issued;
        agrees = agrees_issued (issue_below dev commands (own_issue own) m) own.context ends h x.agrees m dev (record { work = command.work; table = tables m }) empty;
      })

  holds_below : (m : ℕ) → m ≤ 32 → Holds (issue_below dev commands (own_issue own) m) own ends (told_issued commands tables m ++ past)
  unfolding told_issued
  holds_below zero below = subst (λ (f : ℕ → Option Issue). Holds f own ends past) (sym none_below_first) (record { issued = says.issued; agrees = says.agrees })
  holds_below (suc m) below =
      subst (Holds (issue_below dev commands (own_issue own) (suc m)) own ends) (sym (append_assoc (told_issue m (tables m) (commands m)) (told_issued commands tables m) past))
      (holds_more m (omega arith) (commands m) refl (told_issued commands tables m ++ past) (holds_below m (omega arith)))

  pub says_issued : (m : ℕ) → m ≤ 32 → length own.issues ≡ m → Says (issued_slots dev commands own) ends (told_issued commands tables m ++ past)
  says_issued m below long =
      let x = subst (λ (f : ℕ → Option Issue). Holds f own ends (told_issued commands tables m ++ past)) (sym (own_issued dev commands own m long)) (holds_below m below) in
      record { issued = x.issued; agrees = x.agrees }

-- ---- a write that is not refused issues in free slots

zero_when : (started is_zero : Bool) (o : Option WriteError) → started ≡ false → option_or (if not started && not is_zero then Some refusal.Stopped else None) o ≡ None → is_zero ≡ true
zero_when true is_zero o run h = absurd (true≢false run)
zero_when false true o run h = refl
zero_when false false o run h = cc

stopped_zero : (port : Port) (offer : Offer) (value : ℕ) → port.registers.started ≡ false → refusal_by Ci port offer value ≡ None → value ≡ 0
unfolding own_refusal own_refusal_by
stopped_zero port offer value run h = eqb-true value 0 (zero_when port.registers.started (value == 0) (slots_refusal_by Ci port offer value) run h)

not_some : (o : Option ℕ) → is_some o ≡ false → o ≡ None
not_some None h = refl
not_some (Some k) h = cc

not_issued : (o : Option Issue) → is_some o ≡ false → o ≡ None
not_issued None h = refl
not_issued (Some i) h = cc

flag_set : (b : Bool) (c : Option Command) → is_some (cond b c None) ≡ true → b ≡ true
flag_set true c e = refl
flag_set false c e = absurd (false≢true e)

pub offered_free : (port : Port) (offer : Offer) (value s : ℕ) → refusal_by Ci port offer value ≡ None → s < 32 → is_some (asked_by offer value s) ≡ true → issue_at port.slots s ≡ None
offered_free port offer value s accepted lt some =
    let bit : has_bit value s ≡ true = flag_set (has_bit value s) (offer.commands s) some in
    elim (cases_Bool port.registers.started) [
      | inl run ↦
          let calm : (has_bit value s && is_busy port.slots s) ≡ false =
          none_below (λ k. has_bit value k && is_busy port.slots k) 32
          (not_some (lowest (λ k. has_bit value k && is_busy port.slots k)) (free_by port offer value run accepted)) s lt in
          not_issued (issue_at port.slots s) (sym (ap (λ b. b && is_busy port.slots s) bit) ∙ calm)
      | inr stopped ↦
          let zero_has : has_bit value s ≡ false = ap (λ v. has_bit v s) (stopped_zero port offer value stopped accepted) ∙ ap (λ b. b == 1) (bit_at-zero s) in
          absurd (false≢true (sym zero_has ∙ bit))
    ]

pub asked_free : (port : Port) (memory : Memory) (value s : ℕ) → refusal_of Ci port memory value ≡ None → s < 32 → is_some (asked port.registers memory value s) ≡ true → issue_at port.slots s ≡ None
asked_free port memory value s accepted = offered_free port (offer_of port.registers memory) value s (core_accepts Ci port memory value accepted)
