use Rattle.std.proofs.Common.{rules}
use Rattle.ruled_links.proofs.Seats.{splits}
use Rattle.ruled_links.proofs.ring.Ring.split.Goals as goal

pub split_seat-requires : goal.split_seat-requires
split_seat-requires g c = (search rules, search rules, splits g.T.Item.in_order _ _ c.requires.1)
