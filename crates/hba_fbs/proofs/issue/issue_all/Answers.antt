use Rattle.std.proofs.{Common.{◌≡◌, ◌≤◌, ◌<◌, ◌+◌, ℕ, List, length, arith, sym, ap, ◌∙◌, subst, Option, None}, lemmas.List.{length-map}}
use Rattle.std.specs.Option.{is_some}
use Rattle.slots.specs.Slots.{DeviceSlots, Issue, owned_by, slots_of}
use Rattle.hba_commands.specs.declared.command.Command.{Command}
use Rattle.hba_fbs.specs.{Offering.asked_by, Between.FilledTo}
use Rattle.hba_fbs.proofs.IssueLemmas.{asked_free, command_after, commands_all, commands_step, context_step, have_step, issue_after, issues_all}
use Rattle.hba_fbs.proofs.IssueLemmas.{issues_step}
use Rattle.hba_fbs.proofs.issue.issue_all.Goals as goal

pub issue_one-requires-clause-free : goal.issue_one-requires-clause-free
issue_one-requires-clause-free g c some =
    asked_free (g.O.Offers.offer c.args.offers.now) c.args.dev c.args.value c.loop-slot.slot c.args.slots.now c.loop-slot.slots c.loop-slot-test.true c.requires.free
    (ap is_some (sym c.asked-command.ensures.value) ∙ some) c.loop-slot.invariant.others (c.loop-slot.invariant.issues.rest c.loop-slot.slot (omega arith))

pub loop-slot-preserved : goal.loop-slot-preserved
loop-slot-preserved g c =
    let dev : ℕ = c.args.dev in
    let n : ℕ = c.loop-slot.slot in
    let command : Option Command = c.asked-command.result in
    let wanted : ℕ → Option Command = asked_by (g.O.Offers.offer c.args.offers.now) c.args.value in
    let first : List (Option Issue) = (slots_of dev c.args.slots.now).issues in
    let is : wanted n ≡ command = sym c.asked-command.ensures.value in
    let below : n < 32 = c.loop-slot-test.true in
    let in_slots : n < length first = omega (arith, length-map c.args.slots.now.issues (owned_by dev), c.keeps_rules.ensures.slots) in
    let in_commands : n < length c.args.commands.now = omega (arith, c.told-commands) in
    record {
      issues = subst (λ (own : DeviceSlots). FilledTo (n + 1) (issue_after dev wanted first) None first own.issues) (sym c.issue_one.ensures.own)
          (issues_step dev n wanted command first (slots_of dev c.loop-slot.slots) is in_slots c.loop-slot.invariant.issues);
      context = ap (λ (own : DeviceSlots). own.context) c.issue_one.ensures.own ∙ context_step dev n command (slots_of dev c.loop-slot.slots) ∙ c.loop-slot.invariant.context;
      others = λ other ne. c.issue_one.ensures.others other ne ∙ c.loop-slot.invariant.others other ne;
      commands = subst (λ (now : List (Option Command)). FilledTo (n + 1) (command_after wanted c.args.commands.now) None c.args.commands.now now) (sym c.issue_one.ensures.commands)
          (commands_step n wanted command c.args.commands.now c.loop-slot.commands is in_commands c.loop-slot.invariant.commands);
      have = λ before. have_step dev n command _ _ c.loop-slot.commands _ (omega (arith, in_commands, c.loop-slot.invariant.commands.long)) c.issue_one.ensures.own c.issue_one.ensures.others c.issue_one.ensures.commands
          (c.loop-slot.invariant.have before);
    }

pub returns-clause-own : goal.returns-clause-own
returns-clause-own g c =
    let dev : ℕ = c.args.dev in
    let past : length (slots_of dev c.args.slots.now).issues ≤ c.loop-slot.slot = omega (arith, length-map c.args.slots.now.issues (owned_by dev), c.keeps_rules.ensures.slots) in
    issues_all dev c.loop-slot.slot _ (slots_of dev c.args.slots.now) (slots_of dev c.loop-slot.slots) past c.loop-slot.invariant.context c.loop-slot.invariant.issues

pub returns-clause-commands : goal.returns-clause-commands
returns-clause-commands g c =
    let past : length c.args.commands.now ≤ c.loop-slot.slot = omega (arith, c.told-commands) in
    commands_all c.loop-slot.slot _ c.args.commands.now c.loop-slot.commands past c.loop-slot.invariant.commands
