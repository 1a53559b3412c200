use Rattle.std.proofs.Common.{◌≡◌, ◌+◌, ◌-◌, suc, ◌∙◌, refl, sym, ap, arith}
use Rattle.guest_fetch.specs.{Fetching.want_of, Headers.header_place, Reading.after_parts}
use Rattle.uses_guest_fetch.specs.Block.{IsPart, guest_of}
use Rattle.uses_guest_fetch.proofs.BlockLemmas.{Stands, answer_is, begins, ends, more_is}
use Rattle.uses_guest_fetch.proofs.fetch_from.Goals as goal

pub loop-i-init : goal.loop-i-init
loop-i-init c = λ n is. ap (after_parts (guest_of c.args.memory.now) n) c.new-fetch.ensures ∙ begins c.commands_are_of_their_parts.ensures c.args.memory.now c.args.list c.args.slot n (omega (arith, is))

pub returns-in_default : goal.returns-in_default
returns-in_default c =
    let memory = c.args.memory.now in
    let at = header_place c.args.list c.args.slot in
    let n = 65536 - c.loop-i.i in
    let part : IsPart memory (want_of c.loop-i.fetch) c.in_ok-bytes.bytes.now = rw c.want.ensures.is at c.in_ok-bytes.ensures in
    let stands : Stands memory at n c.loop-i.fetch c.in_ok-bytes.bytes.now = record { part = part; all = c.loop-i.invariant (suc n) (omega (arith, c.loop-i-test.true)) } in
    answer_is memory at n c.loop-i.fetch c.in_ok-bytes.bytes.now c.supply.result stands c.supply.ensures c.in_default.not-More

pub loop-i-preserved : goal.loop-i-preserved
loop-i-preserved c = λ n is.
    let memory = c.args.memory.now in
    let at = header_place c.args.list c.args.slot in
    let part : IsPart memory (want_of c.loop-i.fetch) c.in_ok-bytes.bytes.now = rw c.want.ensures.is at c.in_ok-bytes.ensures in
    let stands : Stands memory at n c.loop-i.fetch c.in_ok-bytes.bytes.now = record { part = part; all = c.loop-i.invariant (suc n) (omega (arith, is)) } in
    more_is memory at n c.loop-i.fetch c.in-More.next c.in_ok-bytes.bytes.now stands c.in-More.ensures

pub returns : goal.returns
returns c = ends c.args.memory.now (header_place c.args.list c.args.slot) 0 c.loop-i.fetch refl (c.loop-i.invariant 0 (omega (arith, c.loop-i-test.false, c.loop-i.auto.i-end)))
