use Rattle.std.proofs.Common.{ℕ, None, Option, arith, slice_index_or, sym, ap, true, false}
use Rattle.std.specs.Option.{is_some}
use Rattle.slots.specs.{Commands.{is_any, is_sent_beside}, Slots.{holds, is_unsent}}
use Rattle.slots.proofs.ListLemmas.{left_by, none_beside, seen, walk_ends, walk_found, walk_on}
use Rattle.slots.proofs.list.SlotList.any_sent_beside.Goals as goal

pub walk-init : goal.walk-init
walk-init c = rw (← c.self.view_is) (left_by (holds is_any) (holds is_unsent) (holds (is_sent_beside c.args.dev)) _ _ c.self.inside.slots (omega arith) c.self.invariant.1.issued.bits c.self.invariant.1.unsent.bits (none_beside c.args.dev))

pub returns-then-is_sent_beside : goal.returns-then-is_sent_beside
returns-then-is_sent_beside c =
    sym (ap (λ (o : Option ℕ). is_some o) (walk_found (λ k. holds (is_sent_beside c.args.dev) (slice_index_or c.args.self.now k None)) c.walk.rest c.in-Some.slot c.walk.invariant c.in-Some.ensures
    (seen c.in-Some.slot (is_sent_beside c.args.dev) c.self.inside.slots c.args.self.now _ true c.self.view_is c.self.invariant.0 c.in-Some.ensures.0 c.if-is_sent_beside.ensures)))

pub walk-preserved : goal.walk-preserved
walk-preserved c =
    walk_on (λ k. holds (is_sent_beside c.args.dev) (slice_index_or c.args.self.now k None)) c.walk.rest _ c.in-Some.slot c.walk.invariant c.without-rest.ensures.bits
    (seen c.in-Some.slot (is_sent_beside c.args.dev) c.self.inside.slots c.args.self.now _ false c.self.view_is c.self.invariant.0 c.in-Some.ensures.0 c.if-is_sent_beside.ensures)

pub returns : goal.returns
returns c = sym (ap (λ (o : Option ℕ). is_some o) (walk_ends (λ k. holds (is_sent_beside c.args.dev) (slice_index_or c.args.self.now k None)) c.walk.rest c.walk.invariant c.in_default.ensures))
