use Rattle.std.proofs.Common.{◌≡◌, ◌+◌, ◌*◌, ◌∙◌, length, refl, sym, ap}
use Rattle.guest_fetch.specs.{declared.span.Span.Span, Entries.entry_at, Spans.begin_in}
use Rattle.guest_fetch.proofs.SpanLemmas.{keeps_begin, keeps_end, keeps_step}
use Rattle.guest_fetch.proofs.span.keep.Goals as goal

pub loop-i-init : goal.loop-i-init
loop-i-init c =
    let spans = c.args.spans.now.items in
    let long = ap length c.deref.ensures.value in
    let old : c.len-old.result ≡ length spans = c.len-old.ensures ∙ sym c.deref.ensures.len ∙ long in
    let begin : c.begin_of-end.result ≡ begin_in spans (length spans) = c.begin_of-end.ensures ∙ ap (begin_in c.deref.result.now) old ∙ ap (λ xs. begin_in xs (length spans)) c.deref.ensures.value in
    record { keeping = keeps_begin c.args.len c.args.raw.now c.args.count spans c.begin_of-end.result c.requires.table begin c.requires.few c.requires.sound; old = old }

pub returns-then-len-end-clause-ok : goal.returns-then-len-end-clause-ok
returns-then-len-end-clause-ok c = keeps_end _ _ _ _ _ _ _ c.loop-i.invariant.keeping c.if-len-end.true

pub loop-i-preserved : goal.loop-i-preserved
loop-i-preserved c =
    let e = c.read_entry-entry.result in
    let s : Span = record { address = e.address; end = c.loop-i.end + e.bytes; interrupt = e.interrupt } in
    let is : e ≡ entry_at c.args.raw.now (16 * c.loop-i.i) = c.read_entry-entry.ensures.is ∙ ap (λ n. entry_at c.args.raw.now (16 * n)) c.from.ensures in
    record {
      keeping = keeps_step c.args.len c.args.raw.now c.args.count c.loop-i.i c.args.spans.now.items c.loop-i.spans.items c.loop-i.end e s c.push.new.self.items c.loop-i.invariant.keeping c.loop-i-test.true
          c.if-len-end.false is c.read_entry-entry.ensures.some c.read_entry-entry.ensures.most refl c.in_default.ensures.items;
      old = c.loop-i.invariant.old;
    }
