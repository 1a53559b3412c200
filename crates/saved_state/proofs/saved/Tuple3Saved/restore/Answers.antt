use Rattle.saved_state.specs.State.{parts_refused, put_pair}
use Rattle.saved_state.proofs.saved.Tuple3Saved.restore.Goals as goal

pub returns-in-Err : goal.returns-in-Err
returns-in-Err g c =
    let a = g.A.Saved in let b = g.B.Saved in let d = g.C.Saved in
    parts_refused (put_pair a.put (put_pair b.put d.put)) (λ p. a.keeps p.0 × (b.keeps p.1.0 × d.keeps p.1.1))
    (λ t. a.keeps t.0 × b.keeps t.1 × d.keeps t.2) (λ t. (t.0, (t.1, t.2))) (λ v k. (k.0, (k.1, k.2)))
    c.args.words.now c.restore.new.words c.in-Err.error (rw c.in-Err.error-is at c.in-Err.ensures)
