use Rattle.std.proofs.Common.{sym}
use Rattle.saved_state.specs.State.{parts_refused, rule_refused}
use Rattle.sata_disk.specs.Saved.{KeepsDisk, KeepsDiskParts, disk_parts, disk_parts_apart, fit, put_disk_parts}
use Rattle.sata_disk.proofs.SavedLemmas.{fits_is, is_fits}
use Rattle.sata_disk.proofs.disk.saved.SataDiskSaved.restore.Goals as goal

pub returns-in-Err : goal.returns-in-Err
returns-in-Err c = parts_refused put_disk_parts KeepsDiskParts KeepsDisk disk_parts (λ d k. k.0) c.args.words.now c.restore.new.words c.in-Err.error c.in-Err.ensures

pub returns-then-not-fits : goal.returns-then-not-fits
returns-then-not-fits c = rule_refused put_disk_parts KeepsDiskParts KeepsDisk disk_parts fit disk_parts_apart (λ d k. k.0)
    (λ d k. is_fits d k.1) c.args.words.now c.restore.new.words c.in-Ok.parts c.in-Ok.ensures (sym c.if-not-fits.ensures)

pub invariant_of-result : goal.invariant_of-result
invariant_of-result c = fits_is (record { profile = c.in-Ok.parts.0; front = c.in-Ok.parts.1; engine = c.in-Ok.parts.2 }) (sym c.if-not-fits.ensures)

pub returns : goal.returns
returns c = (c.in-Ok.ensures.0, (c.in-Ok.ensures.1, fits_is (record { profile = c.in-Ok.parts.0; front = c.in-Ok.parts.1; engine = c.in-Ok.parts.2 }) (sym c.if-not-fits.ensures)))
