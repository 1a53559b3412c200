-- Behind a Register FIS or Data of a disk its host does not wait for the last Data of a PIO data-in; and behind what settles all that were heard it waits for
-- nothing, while no more is heard.
use Rattle.std.proofs.Common.{◌≡◌, ◌⊎◌, ℕ, ◌+◌, true, false, List, ◌∷◌, ◌++◌, refl, ap, ◌∙◌, inl, inr, arith}
use Rattle.std.proofs.lemmas.Bool.{false≢true}
use Rattle.ata_reply.specs.declared.reply.Reply.{Reply}
use Rattle.ata_reply.specs.declared.reply.Reply.TheVariants as replies
use Rattle.disk_pages.specs.declared.profile.Profile.{Profile}
use Rattle.sata_disk.specs.declared.out.Out.{Out}
use Rattle.sata_disk.specs.declared.out.Out.TheVariants as out
use Rattle.sata_disk_laws.specs.{Calls.{Call, Hears, Sends}, Once.{ForAnswer, ForEnd, ForLast, ForNothing, ForSignature, Host, Wait, data_got_by}}
use Rattle.sata_disk_laws.specs.Once.{host_after, host_of, new_host, out_got, reply_got}
use Rattle.machine_theorem.specs.{InTurn.{IsIdle, heard_in, is_answer, is_asking, is_register}, Settled.{AreSettled, IsSettledLast, is_data}, Tags.once_if}
use Rattle.machine_theorem.proofs.Answered.{heard_both}

no_last : {C : Type 0} → ForNothing ≡ ForLast → C
no_last e = absurd (cc)

data_not_last : (h : Host) (w : Wait) → w ≡ h.waits → (data_got_by h w).waits ≡ ForLast → ⊥
data_not_last h ForLast same last = no_last last
data_not_last h ForNothing same last = no_last (same ∙ last)
data_not_last h ForSignature same last = let e : ForSignature ≡ ForLast = same ∙ last in cc
data_not_last h (ForAnswer tag) same last = let e : ForAnswer tag ≡ ForLast = same ∙ last in cc
data_not_last h ForEnd same last = let e : ForEnd ≡ ForLast = same ∙ last in cc

register_not_last : (h : Host) (r : Reply) → is_register r ≡ true → (reply_got h r).waits ≡ ForLast → ⊥
register_not_last h replies.Signature is last = no_last last
register_not_last h replies.Accepted is last = no_last last
register_not_last h replies.Done is last = no_last last
register_not_last h replies.Active is last = no_last last
register_not_last h replies.Healthy is last = no_last last
register_not_last h (replies.Failed f) is last = no_last last
register_not_last h other is last = absurd (false≢true is)

pub out_not_last : (h : Host) (o : Out) → (is_answer o ≡ true) ⊎ (is_data o ≡ true) → (out_got h o).waits ≡ ForLast → ⊥
out_not_last h (out.Own r) (inl is) last = register_not_last h r is last
out_not_last h (out.Beside r) (inl is) last = register_not_last h r is last
out_not_last h (out.Of p r) (inl is) last = register_not_last h r is last
out_not_last h (out.Page p) (inr is) last = data_not_last h h.waits refl last
out_not_last h (out.Data p n) (inr is) last = data_not_last h h.waits refl last
out_not_last h other (inl is) last = absurd (false≢true is)
out_not_last h other (inr is) last = absurd (false≢true is)

pub free_not_last : (w : Wait) → (w ≡ ForNothing) ⊎ (w ≡ ForLast) → (w ≡ ForLast → ⊥) → w ≡ ForNothing
free_not_last w (inl none) never = none
free_not_last w (inr last) never = absurd (never last)

-- Data for which it waits as the last ones are all that it waits for

idle_over : (h : Host) (w : Wait) → w ≡ ForLast → h.in_reset ≡ false → IsIdle (data_got_by h w)
idle_over h ForLast is clear = record { waits = refl; clear = clear }
idle_over h other is clear = absurd (cc)

pub data_over : (h : Host) (o : Out) → is_data o ≡ true → h.waits ≡ ForLast → h.in_reset ≡ false → IsIdle (host_after h (Sends o))
data_over h (out.Page page) is waits_last clear = idle_over h h.waits waits_last clear
data_over h (out.Data place n) is waits_last clear = idle_over h h.waits waits_last clear
data_over h other is waits_last clear = absurd (cc)

-- while no command is heard, none is settled last

pub waits_none : (p : Profile) (limit : ℕ) (base rest : List Call) → heard_in rest ≡ 0 → AreSettled p limit base rest
    → ((host_of new_host (base ++ rest)).waits ≡ ForNothing) ⊎ ((host_of new_host (base ++ rest)).waits ≡ ForLast)
    → (host_of new_host (base ++ rest)).waits ≡ ForNothing
waits_none p limit base rest quiet turn (inl none) = none
waits_none p limit base rest quiet turn (inr last) =
    let u : IsSettledLast rest = turn.lasts last in
    let sum : heard_in rest ≡ heard_in u.front + (once_if (is_asking u.bytes) + heard_in u.later) = ap heard_in u.split ∙ heard_both u.front (Hears u.bytes ∷ u.later) in
    let one : once_if (is_asking u.bytes) ≡ 1 = ap once_if u.asks in
    absurd (omega (arith, quiet, sum, one))
