use Rattle.std.proofs.Common.{◌≡◌, ◌<◌, None, Some, length, arith, refl, sym, ap, subst, ◌∙◌}
use Rattle.std.specs.Option.{option_map}
use Rattle.slots.specs.{Issued.issued_of, Slots.{Slots, issue_at}, Table.IsTable, Setup.begun}
use Rattle.slots.proofs.CallLemmas.{alone_there, dev_below, fresh_sent, nobody, other_there, owned_there, sent_control, sent_other}
use Rattle.slots.proofs.table.SlotTable.sent.Goals as goal

pub returns-then-is_control-clause-own : goal.returns-then-is_control-clause-own
returns-then-is_control-clause-own c =
    let inside : Slots = record { issues = c.self.inside.slots; contexts = c.self.inside.contexts } in
    let t : Slots = c.args.self.now in
    let s = c.args.slot in
    let same : inside ≡ t = c.self.view_is in
    let below : s < length inside.issues = omega (arith, c.self.invariant.slots, c.requires.slot) in
    let is : option_map issued_of (issue_at inside s) ≡ Some c.in-Some.issued = ap (option_map issued_of) (sym c.at.ensures) ∙ sym c.issued.ensures ∙ c.in-Some.is in
    sent_control s t _ (issue_at t s) c.in-Some.issued (subst (λ (u : Slots). s < length u.issues) same below) refl (subst (λ (u : Slots). option_map issued_of (issue_at u s) ≡ Some c.in-Some.issued) same is) (sym c.is_control.ensures ∙ c.if-is_control.true) c.free.ensures.own

pub returns-else-is_control-clause-own : goal.returns-else-is_control-clause-own
returns-else-is_control-clause-own c =
    let inside : Slots = record { issues = c.self.inside.slots; contexts = c.self.inside.contexts } in
    let t : Slots = c.args.self.now in
    let s = c.args.slot in
    let same : inside ≡ t = c.self.view_is in
    let below : s < length inside.issues = omega (arith, c.self.invariant.slots, c.requires.slot) in
    let is : option_map issued_of (issue_at inside s) ≡ Some c.in-Some.issued = ap (option_map issued_of) (sym c.at.ensures) ∙ sym c.issued.ensures ∙ c.in-Some.is in
    sent_other s t _ (issue_at t s) c.in-Some.issued (subst (λ (u : Slots). s < length u.issues) same below) refl (subst (λ (u : Slots). option_map issued_of (issue_at u s) ≡ Some c.in-Some.issued) same is) (sym c.is_control.ensures ∙ c.if-is_control.false) (c.begin.ensures.own ∙ ap (begun s c.in-Some.issued.work) c.send.ensures.own)

pub begin-requires-clause-issue : goal.begin-requires-clause-issue
begin-requires-clause-issue c =
    let inside : Slots = record { issues = c.self.inside.slots; contexts = c.self.inside.contexts } in
    let t : Slots = c.args.self.now in
    let s = c.args.slot in
    let same : inside ≡ t = c.self.view_is in
    let below : s < length inside.issues = omega (arith, c.self.invariant.slots, c.requires.slot) in
    let is : option_map issued_of (issue_at inside s) ≡ Some c.in-Some.issued = ap (option_map issued_of) (sym c.at.ensures) ∙ sym c.issued.ensures ∙ c.in-Some.is in
    fresh_sent s t _ (issue_at t s) c.in-Some.issued (subst IsTable same c.self.invariant) c.requires.slot refl (subst (λ (u : Slots). option_map issued_of (issue_at u s) ≡ Some c.in-Some.issued) same is) c.requires.alone c.send.ensures.own

pub returns-in_default-clause-own : goal.returns-in_default-clause-own
returns-in_default-clause-own c =
    let inside : Slots = record { issues = c.self.inside.slots; contexts = c.self.inside.contexts } in
    let is : option_map issued_of (issue_at inside c.args.slot) ≡ None = ap (option_map issued_of) (sym c.at.ensures) ∙ sym c.issued.ensures ∙ c.in_default.is in
    nobody _ _ (subst (λ (u : Slots). option_map issued_of (issue_at u c.args.slot) ≡ None) c.self.view_is is)

pub returns-in_default-clause-others : goal.returns-in_default-clause-others
returns-in_default-clause-others c =
    let inside : Slots = record { issues = c.self.inside.slots; contexts = c.self.inside.contexts } in
    let is : option_map issued_of (issue_at inside c.args.slot) ≡ None = ap (option_map issued_of) (sym c.at.ensures) ∙ sym c.issued.ensures ∙ c.in_default.is in
    nobody _ _ (subst (λ (u : Slots). option_map issued_of (issue_at u c.args.slot) ≡ None) c.self.view_is is)

pub free-requires-clause-owner : goal.free-requires-clause-owner
free-requires-clause-owner c =
    let inside : Slots = record { issues = c.self.inside.slots; contexts = c.self.inside.contexts } in
    let s = c.args.slot in
    let is : option_map issued_of (issue_at inside s) ≡ Some c.in-Some.issued = ap (option_map issued_of) (sym c.at.ensures) ∙ sym c.issued.ensures ∙ c.in-Some.is in
    owned_there _ c.in-Some.issued (subst (λ (u : Slots). option_map issued_of (issue_at u s) ≡ Some c.in-Some.issued) c.self.view_is is)

pub free-requires-clause-dev : goal.free-requires-clause-dev
free-requires-clause-dev c =
    let inside : Slots = record { issues = c.self.inside.slots; contexts = c.self.inside.contexts } in
    let s = c.args.slot in
    let is : option_map issued_of (issue_at inside s) ≡ Some c.in-Some.issued = ap (option_map issued_of) (sym c.at.ensures) ∙ sym c.issued.ensures ∙ c.in-Some.is in
    dev_below s inside (issue_at inside s) c.in-Some.issued c.self.invariant refl is

pub begin-requires-clause-dev : goal.begin-requires-clause-dev
begin-requires-clause-dev c =
    let inside : Slots = record { issues = c.self.inside.slots; contexts = c.self.inside.contexts } in
    let s = c.args.slot in
    let is : option_map issued_of (issue_at inside s) ≡ Some c.in-Some.issued = ap (option_map issued_of) (sym c.at.ensures) ∙ sym c.issued.ensures ∙ c.in-Some.is in
    dev_below s inside (issue_at inside s) c.in-Some.issued c.self.invariant refl is

pub send-requires-clause-issue : goal.send-requires-clause-issue
send-requires-clause-issue c =
    let inside : Slots = record { issues = c.self.inside.slots; contexts = c.self.inside.contexts } in
    let s = c.args.slot in
    let is : option_map issued_of (issue_at inside s) ≡ Some c.in-Some.issued = ap (option_map issued_of) (sym c.at.ensures) ∙ sym c.issued.ensures ∙ c.in-Some.is in
    other_there _ c.in-Some.issued (subst (λ (u : Slots). option_map issued_of (issue_at u s) ≡ Some c.in-Some.issued) c.self.view_is is) (sym c.is_control.ensures ∙ c.if-is_control.false)

pub send-requires-clause-alone : goal.send-requires-clause-alone
send-requires-clause-alone c =
    let inside : Slots = record { issues = c.self.inside.slots; contexts = c.self.inside.contexts } in
    let s = c.args.slot in
    let is : option_map issued_of (issue_at inside s) ≡ Some c.in-Some.issued = ap (option_map issued_of) (sym c.at.ensures) ∙ sym c.issued.ensures ∙ c.in-Some.is in
    alone_there c.args.self.now (issue_at c.args.self.now s) c.in-Some.issued (subst (λ (u : Slots). option_map issued_of (issue_at u s) ≡ Some c.in-Some.issued) c.self.view_is is) (sym c.is_control.ensures ∙ c.if-is_control.false) c.requires.alone
