use Rattle.ruled_links.proofs.Seats.{begins}
use Rattle.ruled_links.proofs.ring.Ring.new.Goals as goal

pub vacant-requires : goal.vacant-requires
vacant-requires g c = begins g.T.Item.in_order _ g.T.Item.starts c.requires
