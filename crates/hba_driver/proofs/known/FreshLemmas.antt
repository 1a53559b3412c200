-- For `devices_are_known`. The tick that issues IDENTIFY DEVICE leaves it in slot 30, with none of its bytes come.
use Rattle.std.proofs.Common.{◌≡◌, ℕ, suc, ◌/◌, ◌^◌, ◌<◌, Bool, true, false, ◌&&◌, List, ◌∷◌, length, replicate, refl, sym, ◌∙◌, ap, subst, inl, inr}
use Rattle.std.proofs.{Common.{arith, Option, Some, None}, lemmas.{Bool.cases_lt, List.{get_or_past, get_or-replicate, length-replicate}}}
use Rattle.std.proofs.lemmas.List.FromFn.{get_or-map-range_with_len, length-map-range_with_len}
use Rattle.std.specs.{Prelude.{◌==◌, ◌%◌}, List.{list_all, range_with_len}, Option.option_or}
use Rattle.fis_view.specs.declared.build.H2dFields.{H2dFields}
use Rattle.host_memory.specs.Memory.{IsHostMemory, Memory}
use Rattle.hba_commands.specs.{Commands.cfis_at, Requests.{request_at, request_of, work_of}, Writing.total_if_usable}
use Rattle.hba_commands.specs.declared.command.Command.{Command}
use Rattle.slots.specs.{Bytes.{is_over, is_whole}, Slots.{has_bit, issue_at, match_some, new_issue}}
use Rattle.hba_fbs.specs.{declared.register.Register.TheVariants.Ci, Issuing.{asked, commands_with}, Offsets.register_at, Views.{Port, last_command}}
use Rattle.hba_fbs.specs.Writing.{commands_after}
use Rattle.hba_laws.proofs.Door.{own_in}
use Rattle.hba_driver.specs.{declared.mode.Mode.TheVariants.Switching, Effects.{ActsAll, prds_with, sending, table_of}, Known.is_identify}
use Rattle.hba_driver.specs.{Orders.identify_fields, Sights.px_ci, Between.{IsAwaited, IsIssuedAt, IsUp}}
use Rattle.hba_driver.proofs.{accepted.{AcceptLemmas.{buffer_usable, identify_proper}, UpLemmas.{Issues, Placed}}, events.DrivenLemmas.tried_at}
use Rattle.hba_driver.proofs.accepted.UpLemmas.{Ready, asks, ci_taken, command_placed, fbs_step, issuing_taken, no_bit, placed_as, same_free}

-- ---- none of the bytes came

none_at : (k b : ℕ) → is_over (replicate k false) b ≡ false
none_at k b = elim (cases_lt (b / 4) k) [
  | inl less ↦ get_or-replicate k (b / 4) false false less
  | inr past ↦ get_or_past (replicate k false) (b / 4) false (rw (length-replicate {A = Bool} k false) past)
]

all_false : (test : ℕ → Bool) (x : ℕ) (xs : List ℕ) → test x ≡ false → list_all test (x ∷ xs) ≡ false
all_false test x xs h = ap (λ (b : Bool). b && list_all test xs) h

not_whole : (k len : ℕ) → is_whole (replicate k false) (suc len) ≡ false
unfolding is_whole
not_whole k len = all_false (is_over (replicate k false)) 0 (range_with_len 1 len) (none_at k 0)

-- ---- the command of slot 30

last_asked : (a : ℕ → Option Command) (old : List (Option Command)) (command : Command) → a 30 ≡ Some command → (last_command (commands_with a old) 30 ≡ None → ⊥) → last_command (commands_with a old) 30 ≡ Some command
unfolding commands_with
last_asked a old command is some = elim (cases_lt 30 (length old)) [
  | inl less ↦
      get_or-map-range_with_len (λ slot. option_or (a slot) (last_command old slot)) 0 (length old) 30 30 None less (omega arith)
      ∙ ap (λ (o : Option Command). option_or o (last_command old 30)) is
  | inr past ↦
      let long = length-map-range_with_len (λ slot. option_or (a slot) (last_command old slot)) 0 (length old) in
      absurd (some (get_or_past (commands_with a old) 30 None (omega (arith, long, past))))
]

small : (n : ℕ) → n < 15 → n % 16 ≡ n
small n h = omega (arith, h)

identify_named : (dev : ℕ) (structure : List ℕ) (table : ℕ) (c : Command) → c.cfis ≡ cfis_at structure table → request_at (cfis_at structure table) ≡ Some (request_of (identify_fields dev)) → is_identify (Some c) ≡ true
identify_named dev structure table c cfis is =
    ap (λ (f : List ℕ). match_some (request_at f) false (λ request. request.c && request.command == 0xEC)) cfis
    ∙ ap (λ o. match_some o false (λ request. request.c && request.command == 0xEC)) is

module _ (dev : ℕ) (old new : Port) (before after : Memory) (below : dev < 15) (up : IsUp old.registers) (none : old.registers.armed ≡ 0) (free : issue_at old.slots 30 ≡ None) (m : IsHostMemory before) where
  abbrev Fields : H2dFields
  Fields = identify_fields dev

  pub fresh_identify : ActsAll (sending Switching 30 dev (identify_fields dev) true) old before new after → IsAwaited dev new
  unfolding ActsAll register_at commands_after work_of
  fresh_identify acts =
      let w = acts.2.1.structure in
      let placed : Placed 30 dev (prds_with true) Fields false acts.1 = record {
        header = w.header;
        to_dev = small dev below;
        request_is = w.request;
        total = w.total (length acts.1.client) ∙ ap (λ (c : List ℕ). total_if_usable (length c) (prds_with true)) acts.2.1.client ∙ buffer_usable (length before.client) m.client_least;
        few = omega arith;
        proper = identify_proper dev;
      } in
      let up1 : IsUp acts.0.registers = subst (λ (p : Port). IsUp p.registers) (sym acts.2.0) up in
      let none1 : acts.0.registers.armed ≡ 0 = ap (λ (p : Port). p.registers.armed) acts.2.0 ∙ none in
      let free1 : issue_at acts.0.slots 30 ≡ None = ap (λ (p : Port). issue_at p.slots 30) acts.2.0 ∙ free in
      let low : dev < 16 = omega (arith, below) in
      let i : Issues Switching 30 dev false Fields acts.0 acts.1 new after acts.4 = issuing_taken Switching 30 dev false (prds_with true) Fields acts.0 new acts.1 after (omega arith) low up1 acts.3.table (λ on. absurd (cc)) none1 free1 placed acts.4 in
      let b = acts.4 in
      let f = fbs_step dev acts.0 b.0 acts.1 b.1 low up1 b.2 in
      let unarmed : b.0.registers.armed ≡ 0 = f.2 ∙ none1 in
      let ready : Ready Switching 30 dev (prds_with true) Fields b.0 b.1 = record {
        below = omega arith;
        dev_below = low;
        up = f.0.up;
        aims = f.1;
        free = same_free acts.0 b.0 30 b.3.table f.0.views free1;
        placed = placed_as 30 dev (prds_with true) Fields false (has_bit b.0.registers.armed 30) acts.1 b.1 (no_bit b.0.registers.armed 30 unarmed) b.2.1 placed;
      } in
      let issued : IsIssuedAt b.4.0 dev 30 (new_issue dev (work_of (request_of Fields))) = subst (λ (p : Port). IsIssuedAt p dev 30 (new_issue dev (work_of (request_of Fields)))) b.4.4.0 i.issued in
      let there : last_command b.4.0.commands 30 ≡ None → ⊥ = λ gone.
      let wrong : None ≡ Some (new_issue dev (work_of (request_of Fields))) = sym (b.4.3.rules.commands 30 gone) ∙ (own_in dev 30 b.4.0.slots (new_issue dev (work_of (request_of Fields))) issued).1 in absurd (cc) in
      let command : is_identify (last_command b.4.0.commands 30) ≡ true = elim (tried_at Ci px_ci (2 ^ 30) b.0 b.1 b.4.0 refl b.4.2.0) [
        | inl taken ↦
            let is : last_command b.4.0.commands 30 ≡ Some (command_placed 30 (prds_with true) Fields b.1) =
            ap (λ (c : List (Option Command)). last_command c 30) taken.accepts.commands
            ∙ last_asked (asked b.0.registers b.1 (2 ^ 30)) b.0.commands (command_placed 30 (prds_with true) Fields b.1) (asks Switching 30 dev (prds_with true) Fields b.0 b.1 ready)
            (λ gone. there (ap (λ (c : List (Option Command)). last_command c 30) taken.accepts.commands ∙ gone)) in
            ap is_identify is ∙ identify_named dev b.1.structure (table_of 30) (command_placed 30 (prds_with true) Fields b.1) refl ready.placed.request_is
        | inr refused ↦
            let wrong = sym refused.is ∙ ci_taken Switching 30 dev (prds_with true) Fields b.0 b.1 ready in absurd (cc)
      ] in
      record {
        own = record { issue = new_issue dev (work_of (request_of Fields)); is = i.issued; pio = refl; short = not_whole 128 511 };
        command = ap (λ (p : Port). is_identify (last_command p.commands 30)) b.4.4.0 ∙ command;
      }
