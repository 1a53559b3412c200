use Rattle.std.proofs.Common.{◌-◌, ◌<◌, ◌∙◌, min, ap, arith}
use Rattle.host_memory.specs.declared.table.Prd.{Prd}
use Rattle.host_memory.proofs.PartsLemmas.{begins_in, hold_next, parts_none, parts_step, parts_fewer}
use Rattle.host_memory.proofs.parts.PartsIterator.next.Goals as goal

pub returns-then-self-eq0-clause-steps : goal.returns-then-self-eq0-clause-steps
returns-then-self-eq0-clause-steps c =
    let none = parts_none c.self.inside.client.now _ c.self.inside.offset in
    rw (← c.self.view_is) (rw (c.if-self-eq0.true) (none, none))

pub stretch-part-requires-clause-client : goal.stretch-part-requires-clause-client
stretch-part-requires-clause-client c =
    let some : 0 < c.self.inside.len = omega arith in
    let lies = (begins_in _ _ _ _ _ _ c.self.invariant some).lies in
    let address = ap (λ (p : Prd). p.address) c.read_prd-prd.ensures in
    let bytes = ap (λ (p : Prd). p.bytes) c.read_prd-prd.ensures in
    (omega (arith, address, lies.0), omega (arith, address, bytes, lies.1))

pub invariant_of-self : goal.invariant_of-self
invariant_of-self c =
    let some : 0 < c.self.inside.len = omega arith in
    hold_next _ _ _ _ _ _ _ c.self.invariant some (c.min-len.ensures ∙ ap (λ (p : Prd). min c.self.inside.len (p.bytes - c.self.inside.offset)) c.read_prd-prd.ensures)

pub returns-clause-steps : goal.returns-clause-steps
returns-clause-steps c =
    let some : 0 < c.self.inside.len = omega arith in
    parts_step _ _ _ _ _ _ _ _ _ _ c.self.invariant some c.min-len.ensures c.read_prd-prd.ensures c.stretch-part.ensures c.self.view_is

pub returns-clause-goes : goal.returns-clause-goes
returns-clause-goes c =
    let some : 0 < c.self.inside.len = omega arith in
    let steps = parts_step _ _ _ _ _ _ _ _ _ _ c.self.invariant some c.min-len.ensures c.read_prd-prd.ensures c.stretch-part.ensures c.self.view_is in
    record { on = λ _. (tt, tt, parts_fewer _ _ _ steps); keeps = tt; rests = λ _. tt }
