use Rattle.std.proofs.Common.{rules, ◌≡◌, []}
use Rattle.disk_thread.specs.{declared.worker.DiskEnd.DiskEnd, Runs.StationState}
use Rattle.pm_threads.specs.Seats.{TiedTo, Handed}
use Rattle.std.specs.Prelude.{map}
use Rattle.pm_threads.proofs.Zips.{map_last, map_push, map_pop, units_more}
use Rattle.pm_threads.proofs.meeting.+meet_all.Goals as goal

pub unreachable-requires : goal.unreachable-requires
unreachable-requires g t c =
    let none : c.args.ports.items ≡ [] = search rules in
    map_last (λ (e : DiskEnd g.row.D.Denot). e.station) TiedTo c.pop.new.self.items c.args.ports.items c.in-Some.end none
    (rw c.in-Some.ensures.items at c.requires)

pub meet_at-unit-requires : goal.meet_at-unit-requires
meet_at-unit-requires g t c =
    (map_pop (λ (e : DiskEnd g.row.D.Denot). e.station) TiedTo c.pop.new.self.items c.pop-2.new.self.items c.in-Some.end c.in-Some-pop.port
    (rw (c.in-Some.ensures.items, c.in-Some-pop.ensures.items) at c.requires)).1

pub meet_all-requires : goal.meet_all-requires
meet_all-requires g t c κs within = (
  search rules,
  (
    search rules,
    (map_pop (λ (e : DiskEnd g.row.D.Denot). e.station) TiedTo c.pop.new.self.items c.pop-2.new.self.items
        c.in-Some.end c.in-Some-pop.port (rw (c.in-Some.ensures.items, c.in-Some-pop.ensures.items) at c.requires)).0,
  ),
)

pub returns-clause-handed : goal.returns-clause-handed
returns-clause-handed g t c =
    rw (c.in-Some.ensures.items, c.in-Some-pop.ensures.items)
    (map_push (λ (e : DiskEnd g.row.D.Denot). e.station) Handed _ _ _ _ c.meet_all.ensures.handed c.meet_at-unit.ensures.handed)

pub returns-in_err-units-clause-handed : goal.returns-in_err-units-clause-handed
returns-in_err-units-clause-handed g t c =
    rw (c.in-Some.ensures.items, c.in-Some-pop.ensures.items)
    (map_push (λ (e : DiskEnd g.row.D.Denot). e.station) Handed _ _ _ _ c.meet_all.ensures.handed c.meet_at-unit.ensures.handed)

pub returns-in_err-push-clause-handed : goal.returns-in_err-push-clause-handed
returns-in_err-push-clause-handed g t c =
    rw (c.in-Some.ensures.items, c.in-Some-pop.ensures.items)
    (map_push (λ (e : DiskEnd g.row.D.Denot). e.station) Handed _ _ _ _ c.meet_all.ensures.handed c.meet_at-unit.ensures.handed)

pub returns-clause-units : goal.returns-clause-units
returns-clause-units g t c =
    let rest : c.in_ok-units.units.items ≡ map (λ (s : StationState g.row.D.Denot). s.unit) (map (λ (e : DiskEnd g.row.D.Denot). e.station) c.pop.new.self.items) = search rules in
    let last : c.meet_at-unit.result ≡ c.in-Some.end.station.unit = search rules in
    rw (c.in_ok-push.ensures.items, c.in-Some.ensures.items)
    (units_more c.in_ok-units.units.items c.pop.new.self.items c.in-Some.end c.meet_at-unit.result rest last)
