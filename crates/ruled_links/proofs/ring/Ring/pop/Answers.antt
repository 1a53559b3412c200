use Rattle.std.proofs.Common.{rules, ◌≡◌, ◌+◌, ◌%◌, ℕ, [], ◌∷◌, length, sym, refl, ap, ◌∙◌, subst, IfSome, Option, Some, None}
use mathlib.Core.Option.{none}
use Rattle.atomic_table.specs.Table.{step, Allows}
use Rattle.ruled_links.specs.{declared.rule.View.View, Lists.Agree, Rule.{Sight, IsLinked, Freed, has_taken}}
use Rattle.ruled_links.proofs.{Moves.{fetches, frees}, Out.{found, out, holds}}
use Rattle.ruled_links.proofs.ring.Ring.pop.Goals as goal

pub load-tail-requires : goal.load-tail-requires
load-tail-requires g c = (search rules, search rules, fetches g.T.Item.in_order g.T.Item.prefixes _ _ _ c.requires.pass.1)

pub exchange-item-requires : goal.exchange-item-requires
exchange-item-requires g c =
    let old = c.args.pass.now.me in
    let size = c.args.self.now.sized.1 in
    let fetch = c.load-tail.ensures.2.1 (λ e. c.if-tail-head.false (e ∙ sym c.requires.pass.2)) in
    (search rules, (Some fetch.item, out c.args.self.now.table.shared.table_id.slots _ (length old.0.taken) (Some fetch.item) _ old _ (λ i. c.requires.pass.2 i % sym size i) fetch.seat))

pub store-requires : goal.store-requires
store-requires g c =
    let old = c.args.pass.now.me in
    let size = c.args.self.now.sized.1 in
    let fetch = c.load-tail.ensures.2.1 (λ e. c.if-tail-head.false (e ∙ sym c.requires.pass.2)) in
    let n : ℕ = c.args.self.now.table.shared.table_id.slots in
    let w : View g.row.T.Denot = record old.0 { reading = Some fetch.item } in
    let is = holds n _ (length old.0.taken) (Some fetch.item) None w old _ _ c.requires.pass.0.1 (λ i. c.requires.pass.2 i % sym size i) fetch.seat c.exchange-item.ensures.3 in
    let new : ℕ = c.args.head + 1 in (
      search rules,
      search rules,
      subst (λ (m : Sight g.row.T.Denot). Allows (IsLinked g.T.Item.in_order) n c.exchange-item.new.seat.id m 32 (λ _. new) (Freed (step n 32 new 0 none) m)) (sym is)
          (frees g.T.Item.in_order n c.exchange-item.new.seat.id w fetch.item new c.requires.pass.1.takes c.requires.pass.1.sends refl (ap (λ (z : ℕ). z + 1) c.requires.pass.2)),
    )

pub returns-clause-agree : goal.returns-clause-agree
returns-clause-agree g c =
    let old = c.args.pass.now.me in
    let size = c.args.self.now.sized.1 in
    let fetch = c.load-tail.ensures.2.1 (λ e. c.if-tail-head.false (e ∙ sym c.requires.pass.2)) in
    let n : ℕ = c.args.self.now.table.shared.table_id.slots in
    let w : View g.row.T.Denot = record old.0 { reading = Some fetch.item } in
    let is = holds n _ (length old.0.taken) (Some fetch.item) None w old _ _ c.requires.pass.0.1 (λ i. c.requires.pass.2 i % sym size i) fetch.seat c.exchange-item.ensures.3 in
    let told = c.store.ensures.2 fetch.item (ap (λ m. m.0.reading) is) ∙ ap (λ m. (has_taken m.0 fetch.item, [])) is in
    let got = found _ _ (Some fetch.item) c.exchange-item.result _ _ _ (ap (λ m. m.1) fetch.seat) c.exchange-item.ensures.2 in
    subst (λ (r : Option g.row.T.Denot). IfSome r (λ _. Agree c.store.new.seat.me.0.sent c.store.new.seat.me.0.taken)) got
    (subst (λ (m : Sight g.row.T.Denot). Agree m.0.sent m.0.taken) (sym told) fetch.agree)
