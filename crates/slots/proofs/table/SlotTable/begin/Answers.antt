use Rattle.std.proofs.Common.{◌≡◌, Bool, true, sym, ap, subst, ◌∙◌}
use Rattle.slots.specs.{declared.table.Context.Context, Setup.new_context, Slots.Slots, Table.IsContext, Work.{is_dma, is_read}}
use Rattle.slots.proofs.FitLemmas.{begun_inside}
use Rattle.slots.proofs.table.SlotTable.begin.Goals as goal

pub set_context-requires-clause-inside : goal.set_context-requires-clause-inside
set_context-requires-clause-inside c =
    let t : Slots = c.args.self.now in
    let dev = c.args.dev in
    let s = c.args.slot in
    let work = c.args.work in
    let kind : is_dma work.kind ≡ true = sym c.is_dma.ensures ∙ c.if-is_dma.true in
    let new : c.new.result ≡ new_context s 0 work.len (is_read work.kind) = c.new.ensures ∙ ap (λ (b : Bool). new_context s 0 work.len b) c.is_read.ensures in
    subst (λ (x : Context). IsContext dev t x) (sym new) (begun_inside dev s work t c.keeps_rules.ensures c.requires.slot c.requires.issue kind)
