use Rattle.std.proofs.Common.{◌≡◌, ap, ◌∙◌}
use Rattle.std.specs.Prelude.{ℕ, length}
use Rattle.pm_world.specs.{Places.Places, Rules.put_refusal}
use Rattle.pm_world.proofs.machine.Machine.refusal.Goals as goal

pub returns-in-Put : goal.returns-in-Put
returns-in-Put g c =
    let now = c.args.self.now in
    let says : c.put_refusal.result ≡ put_refusal c.self.inside.host c.in-Put.at (length c.as_slice-in-Put.result.now) = c.put_refusal.ensures in
    let long : length c.as_slice-in-Put.result.now ≡ length c.in-Put.bytes = ap length c.as_slice-in-Put.ensures in
    rw (c.in-Put.is) (says ∙ ap (λ (n : ℕ). put_refusal c.self.inside.host c.in-Put.at n) long ∙ ap (λ (p : Places). put_refusal p.host c.in-Put.at (length c.in-Put.bytes)) c.self.view_is)
