use Rattle.std.proofs.Common.{rules, ◌≡◌, ◌+◌, ◌%◌, ℕ, [], ◌∷◌, length, sym, refl, ap, ◌∙◌, subst, true, Option, Some, None}
use mathlib.Core.Option.{none}
use Rattle.atomic_table.specs.Table.{step, Allows}
use Rattle.ruled_links.specs.{declared.rule.View.View, Rule.{Sight, IsLinked, Published, has_sent}}
use Rattle.ruled_links.proofs.{Moves.{claims, publishes}, Out.{not_full, full_now, out, holds}}
use Rattle.ruled_links.proofs.ring.Ring.push.Goals as goal

pub load-head-requires : goal.load-head-requires
load-head-requires g c = (search rules, search rules, claims g.T.Item.in_order _ _ _ c.requires.pass.1)

pub exchange-requires : goal.exchange-requires
exchange-requires g c =
    let old = c.args.pass.now.me in
    let size = c.args.self.now.sized.1 in
    let told = c.load-head.ensures.2 in
    let at = told.3 (not_full _ _ _ told.1 c.requires.pass.2 size c.if-tail-head.false) in
    (search rules, (None, out c.args.self.now.table.shared.table_id.slots _ (length old.0.sent) None _ old _ (λ i. c.requires.pass.2 i % sym size i) at))

pub store-requires : goal.store-requires
store-requires g c =
    let old = c.args.pass.now.me in
    let size = c.args.self.now.sized.1 in
    let told = c.load-head.ensures.2 in
    let at = told.3 (not_full _ _ _ told.1 c.requires.pass.2 size c.if-tail-head.false) in
    let n : ℕ = c.args.self.now.table.shared.table_id.slots in
    let w : View g.row.T.Denot = record old.0 { writing = true } in
    let is = holds n _ (length old.0.sent) None (Some c.args.item) w old _ _ c.requires.pass.0.1 (λ i. c.requires.pass.2 i % sym size i) at c.exchange.ensures.3 in
    let new : ℕ = c.args.tail + 1 in (
      search rules,
      search rules,
      subst (λ (m : Sight g.row.T.Denot). Allows (IsLinked g.T.Item.in_order) n c.exchange.new.seat.id m 16 (λ _. new) (Published (step n 16 new 0 none) m)) (sym is)
          (publishes g.T.Item.in_order n c.exchange.new.seat.id w c.args.item new c.requires.pass.1.sends c.requires.pass.1.takes refl (ap (λ (z : ℕ). z + 1) c.requires.pass.2) c.requires.order),
    )

pub returns-clause-pass : goal.returns-clause-pass
returns-clause-pass g c =
    let old = c.args.pass.now.me in
    let size = c.args.self.now.sized.1 in
    let told = c.load-head.ensures.2 in
    let at = told.3 (not_full _ _ _ told.1 c.requires.pass.2 size c.if-tail-head.false) in
    let n : ℕ = c.args.self.now.table.shared.table_id.slots in
    let w : View g.row.T.Denot = record old.0 { writing = true } in
    let is = holds n _ (length old.0.sent) None (Some c.args.item) w old _ _ c.requires.pass.0.1 (λ i. c.requires.pass.2 i % sym size i) at c.exchange.ensures.3 in
    (search rules, ap (λ m. m.1) (c.store.ensures.2 _ c.args.item (ap (λ m. m.1) is)) ∙ sym c.requires.pass.0.1)

pub returns-clause-sent : goal.returns-clause-sent
returns-clause-sent g c =
    let old = c.args.pass.now.me in
    let size = c.args.self.now.sized.1 in
    let told = c.load-head.ensures.2 in
    let at = told.3 (not_full _ _ _ told.1 c.requires.pass.2 size c.if-tail-head.false) in
    let n : ℕ = c.args.self.now.table.shared.table_id.slots in
    let w : View g.row.T.Denot = record old.0 { writing = true } in
    let is = holds n _ (length old.0.sent) None (Some c.args.item) w old _ _ c.requires.pass.0.1 (λ i. c.requires.pass.2 i % sym size i) at c.exchange.ensures.3 in
    (ap (λ m. m.0) (c.store.ensures.2 _ c.args.item (ap (λ m. m.1) is)) ∙ ap (λ m. has_sent m.0 c.args.item) is, search rules)
