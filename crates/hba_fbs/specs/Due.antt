-- The bytes of a write that go out next: AHCI 1.3.1, 5.3 (the port's states up to sending data).
use Rattle.std.specs.Prelude.{if◌then◌else◌, Option, Some, None}
use Rattle.slots.specs.{Data.payload, Slots.{context_of, match_some}}
use Rattle.hba_fbs.specs.{declared.due.Due.Due, Sending.next_receiver, Taking.is_running, Views.Port}

-- those of the lowest device that asked for data, while the port runs
abbrev pub due_of : Port → Option Due
due_of port =
    if is_running port then match_some (next_receiver port) None (λ dev.
    match_some (payload (context_of port.slots dev)) None (λ next.
    Some (record { slot = next.0; offset = next.1; len = next.2 })))
    else None
