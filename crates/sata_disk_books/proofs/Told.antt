-- What the FISes of a disk say by their bytes is what is counted of them.
use Rattle.std.proofs.Common.{◌≡◌, ℕ, ◌-◌, ◌%◌, ◌<◌, ◌⊎◌, true, false, List, [], ◌∷◌, ◌++◌, length, Some, None, refl, sym, ap, ◌∙◌, subst, arith, inl}
use Rattle.std.proofs.Common.{inr}
use Rattle.std.specs.Prelude.{Option, Bool, nat_lt, if◌then◌else◌}
use Rattle.fis_view.specs.{Built.cut, Seen.seen, Table.{field, places}}
use Rattle.fis_view.specs.Table as table
use Rattle.block_command.specs.Moments.{Moment}
use Rattle.block_queue.specs.Line.{command_at}
use Rattle.ata_reply.specs.{Replies.{Carries, Shows}, declared.reply.Reply.Reply}
use Rattle.ata_reply.specs.declared.reply.Reply.TheVariants as replies
use Rattle.sata_disk.specs.{Sending.{IsFis, IsOut, out_at, part_at}, State.{DiskState, commands, new_disk}, declared.out.Out.Out}
use Rattle.sata_disk.specs.declared.out.Out.TheVariants as out
use Rattle.sata_disk_laws.specs.Calls as call
use Rattle.sata_disk_laws.specs.{Calls.{AreCalls, Call, Sends, after_call, after_calls}, Laws.reached, Once.{AnswersAreSingle, AreDue, Host, IsDue}}
use Rattle.sata_disk_laws.specs.Once.{IsOutDue, host_after, host_of, new_host}
use Rattle.sata_disk_books.specs.{Books.page_in, Counted.{AreCounted, Counted, DataAreCounted, counted_after, counted_by, counted_call, more_by}}
use Rattle.sata_disk_books.specs.{Counted.set_up_by, Fises.{AreFises, FisesTell, told_after, told_by}}
use Rattle.sata_disk_books.proofs.{Counted.data_stage, NoSetUps.{IsNoSetUp, IsPlain, SetsUpNone, call_plain, sets_up_none}}

-- ## Both are one, or one of them knows nothing

abbrev Alike : Option Counted → Option Counted → Type 0
Alike told counted = (told ≡ counted) ⊎ ((told ≡ None) ⊎ (counted ≡ None))

more_alike : (n : ℕ) (u t : Option Counted) → Alike u t → Alike (more_by n u) (more_by n t)
more_alike n u t (inl same) = inl (ap (λ x. more_by n x) same)
more_alike n u t (inr (inl none)) = inr (inl (ap (λ x. more_by n x) none))
more_alike n u t (inr (inr none)) = inr (inr (ap (λ x. more_by n x) none))

-- ## A FIS

low_bits : (n : ℕ) → n < 32 → cut (places table.Setup table.BufferId) n % 32 ≡ n
unfolding places cut
low_bits n low = omega (arith, low)

no_bits : cut (places table.Setup table.Offset) 0 ≡ 0
unfolding places cut
no_bits = omega arith

-- a FIS of a command, but for a DMA Setup FIS, says nothing
shown_none : (r : Reply) (b : List ℕ) (u : Option Counted) → IsNoSetUp r → Shows r b → told_by (seen b) u ≡ u
shown_none replies.Signature b u never is = ap (λ x. told_by x u) is.viewed
shown_none replies.Accepted b u never is = ap (λ x. told_by x u) is.viewed
shown_none replies.Done b u never is = ap (λ x. told_by x u) is.viewed
shown_none replies.Active b u never is = ap (λ x. told_by x u) is.viewed
shown_none replies.Healthy b u never is = ap (λ x. told_by x u) is.viewed
shown_none (replies.Failed f) b u never is = ap (λ x. told_by x u) is.viewed
shown_none (replies.Ends tags) b u never is = ap (λ x. told_by x u) is.viewed
shown_none (replies.Aborts error) b u never is = ap (λ x. told_by x u) is.viewed
shown_none replies.Activate b u never is = ap (λ x. told_by x u) is.viewed
shown_none (replies.Announce a) b u never is = ap (λ x. told_by x u) is.viewed
shown_none (replies.SetUp s) b u never is = absurd never

reply_alike : (r : Reply) (b : List ℕ) (u t : Option Counted) (h : Host) → IsDue h r → Shows r b → Alike u t → Alike (told_by (seen b) u) (set_up_by r t)
reply_alike (replies.SetUp s) b u t h due is was =
    let tag : field table.Setup table.BufferId b % 32 ≡ s.tag = ap (λ k. k % 32) (is.fields table.BufferId) ∙ low_bits s.tag due.0 in
    let offset : field table.Setup table.Offset b ≡ 0 = is.fields table.Offset ∙ no_bits in
    inl (ap (λ x. told_by x u) is.viewed
    ∙ ap (λ k. Some (record { tag = k; count = field table.Setup table.Offset b })) tag ∙ ap (λ k. Some (record { tag = s.tag; count = k })) offset)
reply_alike replies.Signature b u t h due is was = subst (λ x. Alike x t) (sym (shown_none replies.Signature b u tt is)) was
reply_alike replies.Accepted b u t h due is was = subst (λ x. Alike x t) (sym (shown_none replies.Accepted b u tt is)) was
reply_alike replies.Done b u t h due is was = subst (λ x. Alike x t) (sym (shown_none replies.Done b u tt is)) was
reply_alike replies.Active b u t h due is was = subst (λ x. Alike x t) (sym (shown_none replies.Active b u tt is)) was
reply_alike replies.Healthy b u t h due is was = subst (λ x. Alike x t) (sym (shown_none replies.Healthy b u tt is)) was
reply_alike (replies.Failed f) b u t h due is was = subst (λ x. Alike x t) (sym (shown_none (replies.Failed f) b u tt is)) was
reply_alike (replies.Ends tags) b u t h due is was = subst (λ x. Alike x t) (sym (shown_none (replies.Ends tags) b u tt is)) was
reply_alike (replies.Aborts error) b u t h due is was = subst (λ x. Alike x t) (sym (shown_none (replies.Aborts error) b u tt is)) was
reply_alike replies.Activate b u t h due is was = subst (λ x. Alike x t) (sym (shown_none replies.Activate b u tt is)) was
reply_alike (replies.Announce a) b u t h due is was = subst (λ x. Alike x t) (sym (shown_none (replies.Announce a) b u tt is)) was

-- Data have as many bytes as are counted
data_size : (d : DiskState) (p n : ℕ) (x : Option Moment) → Some (out.Data p n) ≡ out_at d p x → n ≡ length (part_at x)
data_size d p n None e = absurd (cc)
data_size d p n (Some m) e = (data_stage d p n m.command m.done m.bytes m.sent m.stage e).1

part_size : (part b : List ℕ) → Carries part b → length b - 4 ≡ length part
part_size part b is = ap (λ (x : List ℕ). length x - 4) is.0 ∙ omega arith

data_case : (n : ℕ) (u t : Option Counted) (low : Bool) → Alike u t → Alike (more_by n u) (if low then more_by n t else None)
data_case n u t true was = more_alike n u t was
data_case n u t false was = inr (inr refl)

data_alike : (d : DiskState) (p n : ℕ) (b : List ℕ) (u t : Option Counted) → IsOut d (Some (out.Data p n)) → IsFis d (out.Data p n) b → Alike u t
    → Alike (told_by (seen b) u) (counted_by (out.Data p n) t)
data_alike d p n b u t is fis was =
    let size : length b - 4 ≡ n = part_size _ b fis ∙ sym (data_size d p n (command_at (commands d) p) is.3) in
    let told : told_by (seen b) u ≡ more_by n u = ap (λ x. told_by x u) fis.1 ∙ ap (λ k. more_by k u) size in
    subst (λ x. Alike x (counted_by (out.Data p n) t)) (sym told) (data_case n u t (nat_lt p 32) was)

out_alike : (d : DiskState) (o : Out) (b : List ℕ) (u t : Option Counted) (h : Host) → SetsUpNone o → IsOutDue h o → IsOut d (Some o) → IsFis d o b → Alike u t
    → Alike (told_by (seen b) u) (counted_by o t)
out_alike d (out.Own r) b u t h never due is fis was = subst (λ x. Alike x t) (sym (shown_none r b u never fis)) was
out_alike d (out.Beside r) b u t h never due is fis was = subst (λ x. Alike x t) (sym (shown_none r b u never fis)) was
out_alike d (out.Ends tags) b u t h never due is fis was = subst (λ x. Alike x t) (sym (shown_none (replies.Ends tags) b u tt fis)) was
out_alike d (out.Page p) b u t h never due is fis was = inr (inr refl)
out_alike d (out.Of p r) b u t h never due is fis was = reply_alike r b u t h due.0 fis was
out_alike d (out.Data p n) b u t h never due is fis was = data_alike d p n b u t is fis was

-- ## Every run

calls_alike : (calls : List Call) (fises : List (List ℕ)) (d : DiskState) (h : Host) (u t : Option Counted) → AreCalls d calls → AreDue h calls → IsPlain d.front
    → AreFises d calls fises → Alike u t → Alike (told_after u fises) (counted_after t calls)
unfolding told_after counted_after
calls_alike [] fises d h u t are due plain fis was = subst (λ (x : List (List ℕ)). Alike (told_after u x) t) (sym fis) was
calls_alike (Sends o ∷ later) fises d h u t are due plain fis was =
    subst (λ (x : List (List ℕ)). Alike (told_after u x) (counted_after (counted_by o t) later)) (sym fis.are)
    (calls_alike later fis.rest (after_call d (Sends o)) (host_after h (Sends o)) (told_by (seen fis.fis) u) (counted_by o t) are.1 due.1 (call_plain d (Sends o) plain) fis.later
    (out_alike d o fis.fis u t h (sets_up_none d o plain are.0) due.0 are.0 fis.is was))
calls_alike (call.Plugs ∷ later) fises d h u t are due plain fis was =
    calls_alike later fises (after_call d call.Plugs) (host_after h call.Plugs) u t are.1 due.1 (call_plain d call.Plugs plain) fis was
calls_alike (call.Hears f ∷ later) fises d h u t are due plain fis was =
    calls_alike later fises (after_call d (call.Hears f)) (host_after h (call.Hears f)) u t are.1 due.1 (call_plain d (call.Hears f) plain) fis was
calls_alike (call.Starts x ∷ later) fises d h u t are due plain fis was =
    calls_alike later fises (after_call d (call.Starts x)) (host_after h (call.Starts x)) u t are.1 due.1 (call_plain d (call.Starts x) plain) fis was
calls_alike (call.Asks r ∷ later) fises d h u t are due plain fis was =
    calls_alike later fises (after_call d (call.Asks r)) (host_after h (call.Asks r)) u t are.1 due.1 (call_plain d (call.Asks r) plain) fis was
calls_alike (call.Answers number a ∷ later) fises d h u t are due plain fis was =
    calls_alike later fises (after_call d (call.Answers number a)) (host_after h (call.Answers number a)) u t are.1 due.1 (call_plain d (call.Answers number a) plain) fis was

-- what comes behind some calls
are_later : (base calls : List Call) (d : DiskState) → AreCalls d (base ++ calls) → AreCalls (after_calls d base) calls
unfolding after_calls
are_later [] calls d are = are
are_later (c ∷ base) calls d are = are_later base calls (after_call d c) are.1

due_later : (base calls : List Call) (h : Host) → AreDue h (base ++ calls) → AreDue (host_of h base) calls
unfolding host_of
due_later [] calls h are = are
due_later (c ∷ base) calls h are = due_later base calls (host_after h c) are.1

plain_later : (base : List Call) (d : DiskState) → IsPlain d.front → IsPlain (after_calls d base).front
unfolding after_calls
plain_later [] d is = is
plain_later (c ∷ base) d is = plain_later base (after_call d c) (call_plain d c is)

counted_later : (base calls : List Call) (t : Option Counted) → counted_after t (base ++ calls) ≡ counted_after (counted_after t base) calls
unfolding counted_after
counted_later [] calls t = refl
counted_later (c ∷ base) calls t = counted_later base calls (counted_call c t)

no_count : (c : Counted) (P : Type 0) → Some c ≡ None → P
no_count c P e = absurd (cc)

alike_case : (u t : Option Counted) (place : ℕ) → Alike u t → (x : _) → AreCounted x place t → (u ≡ None) ⊎ AreCounted x place u
alike_case u t place (inl same) x is = inr (subst (λ (k : Option Counted). AreCounted x place k) (sym same) is)
alike_case u t place (inr (inl none)) x is = inl none
alike_case u t place (inr (inr none)) x is = no_count _ _ (sym is.counts ∙ none)

pub fises_tell : DataAreCounted → AnswersAreSingle → FisesTell
fises_tell counted single p limit base calls fises place n are fis next low =
    let d : DiskState = new_disk p limit in
    let alike : Alike (told_after None fises) (counted_after (counted_after None base) calls) =
    calls_alike calls fises (reached p limit base) (host_of new_host base) None (counted_after None base) (are_later base calls d are)
    (due_later base calls new_host (single p limit (base ++ calls) are)) (plain_later base d tt) fis (inr (inl refl)) in
    alike_case (told_after None fises) (counted_after (counted_after None base) calls) place alike (page_in p limit (base ++ calls) place)
    (subst (λ (k : Option Counted). AreCounted (page_in p limit (base ++ calls) place) place k) (counted_later base calls None)
    (counted p limit (base ++ calls) place n are next low))
