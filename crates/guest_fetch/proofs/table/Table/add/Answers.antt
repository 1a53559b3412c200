use Rattle.std.proofs.Common.{◌+◌, ◌-◌, ◌<◌, ◌≡◌, ◌∙◌, None, length, arith, sym, ap}
use Rattle.guest_fetch.specs.{Entries.{entries_at, first_fault}, Places.total_of, Spans.entries_from}
use Rattle.guest_fetch.proofs.SpanLemmas.{length-entries}
use Rattle.guest_fetch.proofs.table.Table.add.Goals as goal

pub keep-requires-clause-few : goal.keep-requires-clause-few
keep-requires-clause-few c =
    let few : length (entries_from 0 c.self.inside.spans.items) + c.args.count < 65536 = rw (← c.self.view_is) at c.requires.few in
    omega (arith, few, length-entries 0 c.self.inside.spans.items)

pub keep-requires-clause-sound : goal.keep-requires-clause-sound
keep-requires-clause-sound c =
    let items = c.self.inside.spans.items in
    let left = c.self.inside.len - total_of (entries_from 0 items) in
    let part = entries_at c.args.raw.now 0 c.args.count in
    let sound : first_fault (length (entries_from 0 items)) left part ≡ None = rw (← c.self.view_is) at c.requires.sound in
    sym (ap (λ n. first_fault n left part) (length-entries 0 items)) ∙ sound
