use Rattle.disk_pages.specs.Profiles.{facts_of}
use Rattle.sata_disk.proofs.{Asking.request_within, Kept.requests_keep}
use Rattle.sata_disk.proofs.disk.SataDisk.next_request.Goals as goal

pub invariant_of-self : goal.invariant_of-self
invariant_of-self c = requests_keep (record { profile = c.self.inside.profile; front = c.self.inside.front; engine = c.self.inside.engine })
    c.next_request.new.self c.next_request.result c.self.invariant c.next_request.ensures

pub returns-clause-within : goal.returns-clause-within
returns-clause-within c = rw (← c.self.view_is) (request_within (facts_of c.self.inside.profile).sectors c.self.inside.engine c.next_request.new.self
    c.next_request.result c.self.invariant.within c.next_request.ensures)
