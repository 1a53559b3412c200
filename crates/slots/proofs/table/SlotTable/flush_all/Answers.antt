use Rattle.std.proofs.Common.{◌≡◌, None, sym, ◌∙◌, subst}
use Rattle.slots.specs.Slots.{Slots, issue_at}
use Rattle.slots.proofs.NewLemmas.{get-free}
use Rattle.slots.proofs.table.SlotTable.flush_all.Goals as goal

pub returns-clause-answer : goal.returns-clause-answer
returns-clause-answer c = rw (← c.self.view_is) c.issued-flushed.ensures

pub returns-clause-frees : goal.returns-clause-frees
returns-clause-frees c k free = subst (λ (u : Slots). issue_at u k ≡ None) (sym (c.self-2.view_is ∙ c.new.ensures)) (get-free 32 k)
