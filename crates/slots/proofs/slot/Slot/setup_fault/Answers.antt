use Rattle.std.proofs.Common.{Bool, true, false, ◌&&◌, sym, ap, ◌∙◌}
use Rattle.slots.proofs.FaultLemmas.{setup_nobody, setup_told}
use Rattle.slots.proofs.slot.Slot.setup_fault.Goals as goal

pub returns-in-Some : goal.returns-in-Some
returns-in-Some c =
    c.transfer_fault.ensures
    ∙ sym (setup_told c.args.dev c.args.offset c.args.count c.args.to_host c.self.inside.issued c.self.inside.moved c.args.self.now c.in-Some.issued true c.self.view_is (sym c.issued_by.ensures ∙ c.in-Some.is) (ap (λ (q : Bool). q && c.in-Some.issued.answered) (sym c.if-is_queued.ensures) ∙ c.if-issued.true))

pub returns-in_default : goal.returns-in_default
returns-in_default c = sym (setup_told c.args.dev c.args.offset c.args.count c.args.to_host c.self.inside.issued c.self.inside.moved c.args.self.now c.in-Some.issued false c.self.view_is (sym c.issued_by.ensures ∙ c.in-Some.is) (ap (λ (q : Bool). q && c.in-Some.issued.answered) (sym c.if-is_queued.ensures) ∙ c.if-issued.false))

pub returns-in_default-2 : goal.returns-in_default-2
returns-in_default-2 c = sym (setup_told c.args.dev c.args.offset c.args.count c.args.to_host c.self.inside.issued c.self.inside.moved c.args.self.now c.in-Some.issued false c.self.view_is (sym c.issued_by.ensures ∙ c.in-Some.is) (ap (λ (q : Bool). q && c.in-Some.issued.answered) (sym c.if-is_queued.ensures)))

pub returns-in_default-3 : goal.returns-in_default-3
returns-in_default-3 c = sym (setup_nobody c.args.offset c.args.count c.args.to_host _ (sym c.issued_by.ensures ∙ c.in_default.is))
