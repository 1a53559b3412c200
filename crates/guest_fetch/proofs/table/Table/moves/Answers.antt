use Rattle.std.proofs.Common.{◌≡◌, ◌-◌, ◌∙◌, min, arith, ap}
use Rattle.guest_fetch.specs.{Moves.moves_at, Places.{reach_of, room_at}, Spans.{entries_from, table_of}}
use Rattle.guest_fetch.proofs.StepLemmas.{Found, hold_first, are_at, delivers_at, each_at, few_at, told_at}
use Rattle.guest_fetch.proofs.table.Table.moves.Goals as goal

found : (c : goal.After-begin_of) → Found c.self.inside.spans.items c.args.offset c.span_of-next.result c.begin_of.result
found c = rw (← c.as_slice-spans.ensures.value) (record {
  there = c.span_of-next.ensures.there;
  is = c.begin_of.ensures;
  begins = omega (arith, c.span_of-next.ensures.begins, c.begin_of.ensures);
  ends_after = c.span_of-next.ensures.ends_after;
})

room : (c : goal.After-begin_of) → c.min-count.result ≡ room_at (table_of c.self.inside.spans.items c.self.inside.len) c.args.offset c.args.len
room c =
    let reach : c.reach.result ≡ reach_of (table_of c.self.inside.spans.items c.self.inside.len) = rw (← c.self.view_is) at c.reach.ensures in
    c.min-count.ensures ∙ ap (min c.args.len) (c.saturating_sub-room.ensures ∙ ap (λ n. n - c.args.offset) reach)

pub of-requires : goal.of-requires
of-requires c = rw c.as_slice-spans.ensures.value (hold_first c.self.inside.spans.items c.self.inside.len c.args.offset c.args.len c.min-count.result c.span_of-next.result c.begin_of.result c.self.invariant (found c) (room c))

are : (c : goal.After-of) → c.of.result ≡ moves_at (entries_from 0 c.self.inside.spans.items) c.args.offset (room_at (table_of c.self.inside.spans.items c.self.inside.len) c.args.offset c.args.len)
are c = are_at c.self.inside.spans.items c.self.inside.len c.args.offset c.args.len c.min-count.result c.span_of-next.result c.begin_of.result c.of.result c.self.invariant (found c.before) (room c.before)
    (rw c.as_slice-spans.ensures.value at c.of.ensures)

pub returns-clause-are : goal.returns-clause-are
returns-clause-are c = rw (← c.self.view_is) (are c)

pub returns-clause-delivers : goal.returns-clause-delivers
returns-clause-delivers c = rw (← c.self.view_is) (delivers_at (table_of c.self.inside.spans.items c.self.inside.len) c.args.offset c.args.len c.of.result c.self.invariant.are (are c))

pub returns-clause-each : goal.returns-clause-each
returns-clause-each c = each_at (table_of c.self.inside.spans.items c.self.inside.len) c.args.offset c.args.len c.of.result c.self.invariant.are (are c)

pub returns-clause-few : goal.returns-clause-few
returns-clause-few c = rw (← c.self.view_is) (few_at (table_of c.self.inside.spans.items c.self.inside.len) c.args.offset c.args.len c.of.result (are c))

pub returns-clause-told : goal.returns-clause-told
returns-clause-told c = rw (← c.self.view_is) (told_at (table_of c.self.inside.spans.items c.self.inside.len) c.args.offset c.args.len c.of.result c.self.invariant.are (are c))
