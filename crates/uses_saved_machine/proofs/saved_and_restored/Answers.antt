use Rattle.std.proofs.Common.{◌≡◌}
use Rattle.saved_state.specs.Bytes.{bytes_of}
use Rattle.ahci_machine.specs.Streams.{saved_apart, stream_of}
use Rattle.uses_saved_machine.proofs.saved_and_restored.Goals as goal

pub returns-in-Ok-from_bytes : goal.returns-in-Ok-from_bytes
returns-in-Ok-from_bytes c =
    let own = c.in-Ok.ensures in
    let read = c.in-Ok-from_bytes.ensures in
    let same : bytes_of (stream_of c.in-Ok-from_bytes.restored) ≡ bytes_of (stream_of c.args.machine.now) = cc in
    saved_apart c.in-Ok-from_bytes.restored c.args.machine.now read.1 own.keeps read.2 own.words same
