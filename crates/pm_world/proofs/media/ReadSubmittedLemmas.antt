-- For `writes_are_as_submitted`. A read after a write brings the bytes with which the write was submitted.
use Rattle.std.proofs.Common.{◌≡◌, ◌-◌, ◌<◌, Some}
use Rattle.std.specs.Prelude.{slice_index, length}
use Rattle.host_memory.specs.{Memory.client_start, Place.place}
use Rattle.hba_laws.specs.{Client.own, History.filled}
use Rattle.hba_driver.specs.{Events.shared_by, Served.IsServed, Submits.new_entry, declared.slot.Phase.TheVariants.Issued, Drivers.rephased}
use Rattle.pm_world.specs.{Places.new_world, Runs.over, Turns.turn_of, Disks.{EndedSince, host_turns}, Polled.IsReportedIn}
use Rattle.pm_world.specs.Submitted.{ReadsBringSubmitted}
use Rattle.pm_world.proofs.{turns.Delivery.sized, media.{ReadBackLemmas.reads_bring_writes, SubmittedLemmas.sent_as_submitted}}
use Rattle.pm_world.proofs.serving.TouchedLemmas.{touched_served}

pub reads_bring_submitted : ReadsBringSubmitted
reads_bring_submitted config units fits steps answers was run c polled writes sectors plan past disk queued d same now f t read l reads r part i j one none =
    let it : IsReportedIn c.ticket c.slot (new_world config units) was steps answers run = polled.reported in
    let w : EndedSince config units it.dev it.took.at d past sectors c.slot (new_entry c.ticket.0 it.dev it.request) was.host.memory =
    polled.honest sectors plan past disk queued d same in
    let served : IsServed it.took.at.host.driver (shared_by it.took.at.host) polled.touches =
    touched_served config.memory (over turn_of (new_world config units) it.took.before it.took.told it.took.at it.took.came) it.took.at.host polled.touches
    (sized config (length units) fits) polled.touched in
    let below : it.dev < 15 = (served.bounded.entries c.slot (rephased Issued (new_entry c.ticket.0 it.dev it.request)) it.issued).dev in
    let over_for : filled c.slot (own it.dev w.touches) j ≡ Some (slice_index l.client (place read.prds i - client_start)) =
    reads_bring_writes config units it.dev sectors plan past fits below disk it.took.at now d f c.slot t (new_entry c.ticket.0 it.dev it.request) read
    was.host.memory l writes reads w r part i j one none in
    sent_as_submitted config units fits steps answers was run c.ticket c.slot it writes (host_turns config units it.dev it.took.at d) w.touches w.touched j
    (slice_index l.client (place read.prds i - client_start)) one.of_write over_for
