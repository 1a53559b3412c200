-- No device of a controller that opens has a history yet, and histories go on.
use Rattle.std.proofs.{Common.{ℕ, [], sym, subst, inl, inr}, lemmas.Bool.cases_eq}
use Rattle.hba_fbs.specs.{Greeting.line_view, Views.{DeviceView, opening_port, view_of}}
use Rattle.hba_fbs.specs.declared.greeting.Line.TheVariants as on_line
use Rattle.hba_laws.specs.{Agreement.IsTold, CoreHistories.{CoreOpensUntold, CoreViewsAreTold}}
use Rattle.controller_laws.specs.{CoreEvents.of_event, Ends.{HistoriesGoOn, OpensUntold}}

no_line : IsTold (view_of 15 opening_port) [] → IsTold (line_view on_line.Empty) []
no_line told = record { issued = told.issued; agrees = told.agrees }

pub opens_untold : CoreOpensUntold → OpensUntold
opens_untold untold c h n below = elim (cases_eq n 15) [
  | inl same ↦
      let here : IsTold (view_of 15 c.core) [] = subst (λ (v : DeviceView). IsTold v []) (sym h.core.own) (no_line (untold 15)) in
      subst (λ (k : ℕ). IsTold (view_of k c.core) []) (sym same) here
  | inr ne ↦ subst (λ (v : DeviceView). IsTold v []) (sym (h.core.others n ne)) (untold n)
]

pub histories_go_on : CoreViewsAreTold → HistoriesGoOn
histories_go_on agrees old new event does are past told n below = agrees n below old.core new.core (of_event old event new does) are.run are.sound (past n) (told n below)
