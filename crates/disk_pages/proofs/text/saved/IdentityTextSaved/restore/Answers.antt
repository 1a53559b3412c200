use Rattle.std.proofs.Common.{sym}
use Rattle.saved_state.specs.State.{parts_refused, rule_refused}
use Rattle.disk_pages.specs.{Saved.{AreBytes, KeepsText, bytes_apart, put_text}, Texts.is_text}
use Rattle.disk_pages.proofs.text.saved.IdentityTextSaved.restore.Goals as goal

pub returns-in-Err : goal.returns-in-Err
returns-in-Err g c = parts_refused put_text (AreBytes g.row.N) (KeepsText g.row.N) (λ t. t) (λ v k. k.0) c.args.words.now c.restore.new.words c.in-Err.error c.in-Err.ensures

pub returns-then-not-is_text : goal.returns-then-not-is_text
returns-then-not-is_text g c = rule_refused put_text (AreBytes g.row.N) (KeepsText g.row.N) (λ t. t) is_text (bytes_apart g.row.N) (λ v k. k.0) (λ v k. k.1)
    c.args.words.now c.restore.new.words c.in-Ok.chars c.in-Ok.ensures (sym c.if-not-is_text.ensures)
