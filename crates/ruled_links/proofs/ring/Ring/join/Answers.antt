use Rattle.std.proofs.Common.{rules, sym, subst}
use Rattle.ruled_links.specs.Rule.{CanMeet}
use Rattle.ruled_links.proofs.{Moves.looks, Seats.{joins, can_meet}}
use Rattle.ruled_links.proofs.ring.Ring.join.Goals as goal

pub join_seat-requires : goal.join_seat-requires
join_seat-requires g c = (search rules, search rules, search rules, search rules, joins g.T.Item.in_order _ _ _ _ c.requires.2 c.requires.3)

pub load-requires : goal.load-requires
load-requires g c =
    let me = c.join_seat.ensures.2 in
    (search rules, search rules, looks g.T.Item.in_order _ _ _ (subst CanMeet (sym (λ i. (me i).0)) (can_meet c.args.pass.now.me.0 c.args.other.me.0)))
