use Rattle.std.proofs.Common.{ℕ, ◌<◌, Bool, length, sym, ◌∙◌, arith, slice_index_or}
use Rattle.pm_registers.specs.{Bits.shares, Port.opening_port}
use Rattle.pm_registers.proofs.BitLemmas.{bits_where_set, bits_where_same, bits_where_none, asks_true, asks_false}
use Rattle.pm_registers.proofs.registers.PmRegisters.summary.Goals.{then-self-from-ne0, else-self-from-ne0}
use Rattle.pm_registers.proofs.registers.PmRegisters.summary.Goals as goal

pub loop-n-init : goal.loop-n-init
loop-n-init c = sym (bits_where_none _)

pub loop-n-preserved : goal.loop-n-preserved
loop-n-preserved c =
    let r = c.self.inside in
    let test : ℕ → Bool = λ k. shares (slice_index_or r.bank k opening_port).error r.mask in
    let within : c.loop-n.n < length r.bank = omega (arith, c.self.invariant.bank) in
    elim c.if-self-from-ne0.branch [
      | then-self-from-ne0 w ↦ w.bits-is ∙ bits_where_set test c.loop-n.n c.loop-n.bits (omega arith) c.loop-n.invariant (asks_true r.bank c.loop-n.n c.from.result r.mask _ c.from.ensures within w.if-self-from-ne0.true)
      | else-self-from-ne0 w ↦ w.bits-is ∙ bits_where_same test c.loop-n.n c.loop-n.bits c.loop-n.invariant (asks_false r.bank c.loop-n.n c.from.result r.mask _ c.from.ensures within w.if-self-from-ne0.false)
    ]
