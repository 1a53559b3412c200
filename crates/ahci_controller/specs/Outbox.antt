-- What is wanted of the guest, and what is to be written to it, as a controller opens and as all of it is dropped.
use Rattle.std.specs.Prelude.{replicate, None}
use Rattle.ahci_controller.specs.declared.wants.{Wants.Wants, Writes.Writes}

abbrev pub opening_wants : Wants
opening_wants = record {
  pending = 0;
  out = 0;
  feeding = 0;
  count = 0;
  slots = replicate 32 0;
  devices = replicate 16 0;
}

-- wants are counted on
abbrev pub without_wants : Wants → Wants
without_wants w = record w { pending = 0; out = 0; feeding = 0 }

abbrev pub no_writes : Writes
no_writes = record { payload = None; posted = None; counted = 0 }
