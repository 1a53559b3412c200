use Rattle.std.proofs.Common.{◌+◌, ◌≤◌, length, arith, refl, ◌∙◌}
use Rattle.host_memory.specs.{Memory.overwritten, Kept.AreKept}
use Rattle.host_memory.proofs.AgreeLemmas.{length-overwritten}
use Rattle.host_memory.proofs.memory.HostMemory.put_structure.Goals as goal

pub invariant_of-self : goal.invariant_of-self
invariant_of-self c =
    let s = c.self.inside.structure.items in
    let bytes = c.args.bytes.now in
    let fits : c.args.at + length bytes ≤ length s = omega (arith, c.requires.inside, c.self.invariant.areas.structure_len) in
    let areas = c.self.invariant.areas in
    let kept : AreKept (overwritten s c.args.at bytes) (length c.self.inside.client.items) c.spare.new.self = c.spare.ensures s bytes _ refl fits c.self.invariant.kept in
    rw c.overwrite.ensures (record {
      areas = record {
        structure_len = length-overwritten s c.args.at bytes fits ∙ areas.structure_len;
        client_least = areas.client_least;
        client_most = areas.client_most;
        client_even = areas.client_even;
      };
      kept = kept;
    })
