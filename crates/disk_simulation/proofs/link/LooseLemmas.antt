-- For `lines_lead_to_beginning_anew`. What is awaited of a disk that is watched, and the line to it when it is set
-- aside.
use Rattle.std.proofs.Common.{◌≡◌, ◌≢◌, ◌==◌, ℕ, true, false, List, [], ◌∷◌, ◌++◌, append_assoc, drop, refl, sym, ap, subst, ◌∙◌, inl, inr, Option}
use Rattle.std.proofs.{Common.{None, Ok, Result}, lemmas.{Bool.true≢false, List.{append_cancel_left, append-nil}}}
use Rattle.std.specs.Prelude.{◌⊎◌, find}
use Rattle.fis_view.specs.{Table.{Bits, BufferId, SActive, Setup, field}, Seen.seen, declared.view.{Fis.Fis, FisFault.FisFault}}
use Rattle.fis_view.specs.declared.view.Fis.TheVariants as view
use Rattle.hba_fbs.specs.Posting.{signs}
use Rattle.disk_model.specs.declared.{plan.DiskPlan.DiskPlan, request.{Command.Command, Request.{Request, TheVariants.{Reset, Queue}}}}
use Rattle.disk_model.specs.{Anew.{IsCarefulSince, IsLinkedOn, OwesOnly}, Ends.{AreRight, Fits, FitsAll, FitsData, FitsRequest, IsRight, PageAsked}}
use Rattle.disk_model.specs.{Ends.reports, Histories.{Happening, Plugged, Received, Sent}, Laws.{ActivatesRight, SetsUpRight, ShowsFirst, StartsOne}}
use Rattle.disk_model.specs.Ledger.{IsSize, Ledger, Moving, Names, Reply, Signs, Wanted, ledger, ledger_after, listens, listens_up}
use Rattle.disk_model.specs.{Requests.request_of, Runs.IsDiskRun, Between.FitsOne}
use Rattle.disk_model.specs.Anew as anew
use Rattle.disk_model.proofs.Door.{after_more, careful_last, ends_agree_anew, ledger_push, run_before, sent_right}
use Rattle.disk_simulation.specs.{Files.IsOfDisk, Line.{EachReply, IsFailed, IsLoose, IsNoSignature, IsSigning, IsUnsigned, IsWatchedWell}}
use Rattle.disk_simulation.specs.{Line.{LinesBegin, NoneSigns, PluggingLeavesReset, ToSign, Unsigned}, Watched.{Erred, Fine, IsErred, IsLastError}}
use Rattle.disk_simulation.specs.Watched.{IsWatched, IsWatchedTo}
use Rattle.disk_simulation.proofs.{anew.AnewJoins.careful_more, phases.FollowedLemmas.run_to, link.LineLemmas.{no_end, none_signs_push, unsigned_by}}
use Rattle.disk_simulation.proofs.link.{PlainLemmas.{ResetsNot, erred_now, fits_no_reset, stays_gone, stays_received, stays_up}, SentLemmas.of_disk}
use Rattle.disk_simulation.proofs.{link.WatchedLemmas.{next_watched, takes_on}, joined.SizeLemmas.{AreEach, each_more, up_each}}

-- ## While only an answer is to come

not_waited : (k : Ledger) (r : Request) → FitsRequest k r → k.awaited ≡ []
not_waited k (Reset on) fits = absurd fits
not_waited k (Queue c) fits = fits.1
not_waited k other fits = fits.awaited

-- nothing may be given
pub gives_none : (k : Ledger) (reply : Reply) (wanted : List Wanted) (r : Result Fis FisFault) → OwesOnly k (reply ∷ []) wanted → Fits k r → ⊥
gives_none k reply wanted (Ok (view.RegH2D f)) owes fits =
    let bad : reply ∷ [] ≡ [] = sym owes.awaited ∙ not_waited k (request_of f) fits.1 in
    cc bad
gives_none k reply wanted (Ok (view.Payload f)) owes fits = subst (λ (v : Option Moving). FitsData v (drop 4 f)) owes.clear.moving fits
gives_none k reply wanted other owes fits = absurd fits

-- a DMA Setup may not come
pub no_setup : (k : Ledger) (f : List ℕ) → k.moving ≡ None → k.outstanding ≡ [] → SetsUpRight k k.moving f → ⊥
no_setup k f none empty right =
    let first : SetsUpRight k None f = subst (λ (v : Option Moving). SetsUpRight k v f) none right in
    subst (λ (cs : List Command). StartsOne (find (λ c. c.tag == field Setup BufferId f) cs) f) empty first

-- and where that is the signature it comes
signs_then : (k : Ledger) (r : Result Fis FisFault) → OwesOnly k (Signs ∷ []) [] → IsOfDisk r → IsRight k r → IsUnsigned (listens_up k r)
signs_then k (Ok (view.RegD2H f)) owes mine right = subst (λ (xs : List Reply). EachReply IsNoSignature (drop 1 xs)) (sym owes.awaited) tt
signs_then k (Ok (view.SetBits f)) owes mine right =
    absurd (subst (λ (tags : List ℕ). Names tags (field Bits SActive f)) owes.clear.unanswered (right.answers right.fine))
signs_then k (Ok (view.DmaActivate f)) owes mine right = absurd (subst ActivatesRight owes.clear.moving right.moves)
signs_then k (Ok (view.DmaSetup f)) owes mine right = absurd (no_setup k f owes.clear.moving owes.clear.outstanding right.moves)
signs_then k (Ok (view.PioSetup f)) owes mine right = absurd (subst (λ (xs : List Reply). ShowsFirst xs f) owes.awaited right.replies)
signs_then k (Ok (view.Payload f)) owes mine right =
    let page : PageAsked k None = subst (PageAsked k) owes.clear.moving right.asked in
    absurd (page owes.pages)
signs_then k other owes mine right = absurd mine

-- ## Careful hosts

pub since_of : (base disk host : List Happening) (down stale up : List (List ℕ)) → IsLinkedOn base disk host down stale up
    → (since : List Happening) × (host ≡ base ++ since)
since_of base disk host down stale up (anew.begins s clear) = ([], sym (append-nil base))
since_of base disk host down stale up (anew.gives d h below s above bytes linked) =
    let p = since_of base d h below s above linked in
    (p.0 ++ Received bytes ∷ [], ap (λ (xs : List Happening). xs ++ Received bytes ∷ []) p.1 ∙ append_assoc base p.0 (Received bytes ∷ []))
since_of base disk host down stale up (anew.comes d h before after s above bytes linked) =
    since_of base d h (before ++ bytes ∷ after) s above linked
since_of base disk host down stale up (anew.sends d h below s above bytes fine linked) = since_of base d h below s above linked
since_of base disk host down stale up (anew.drops d h below s above bytes linked) = since_of base d h below (bytes ∷ s) above linked
since_of base disk host down stale up (anew.takes d h below above bytes linked) =
    let p = since_of base d h below [] (bytes ∷ above) linked in
    (p.0 ++ Sent bytes ∷ [], ap (λ (xs : List Happening). xs ++ Sent bytes ∷ []) p.1 ∙ append_assoc base p.0 (Sent bytes ∷ []))

pub careful_before : (base host since : List Happening) (e : Happening) → host ≡ base ++ since → IsCarefulSince base (host ++ e ∷ [])
    → IsCarefulSince base host × FitsOne (ledger host) e
careful_before base host since e is careful =
    let same : since ++ e ∷ [] ≡ careful.since =
    append_cancel_left base (since ++ e ∷ []) careful.since
    (sym (append_assoc base since (e ∷ [])) ∙ ap (λ (xs : List Happening). xs ++ e ∷ []) (sym is) ∙ careful.is) in
    let parts = careful_last (ledger base) since e (subst (FitsAll (ledger base)) (sym same) careful.fits) in
    let now : ledger_after (ledger base) since ≡ ledger host = sym (after_more _ base since) ∙ ap ledger (sym is) in
    (record { since = since; is = is; fits = parts.0 }, subst (λ (x : Ledger). FitsOne x e) now parts.1)

-- ## At both ends

abbrev ResetNone : List (List ℕ) → Type 0
ResetNone down = AreEach (λ bytes. ResetsNot (seen bytes)) down

reset_none_split : (front : List (List ℕ)) (bytes : List ℕ) (back : List (List ℕ)) → ResetNone (front ++ bytes ∷ back)
    → ResetsNot (seen bytes) × ResetNone (front ++ back)
reset_none_split [] bytes back none = none
reset_none_split (b ∷ front) bytes back none =
    let rest = reset_none_split front bytes back none.1 in
    (rest.0, (none.0, rest.1))

-- The disk owes no signature any more; or nothing happened since both began, and it is to sign.
data IsOwing (base disk host : List Happening) (down up : List (List ℕ)) : Type 0 where
  Signed : IsUnsigned (ledger disk) → IsOwing base disk host down up
  Waiting : OwesOnly (ledger base) (Signs ∷ []) [] → disk ≡ base → host ≡ base → down ≡ [] → up ≡ [] → IsOwing base disk host down up

record IsHearing (base disk host : List Happening) (down up : List (List ℕ)) : Type 0 where
  owing : IsOwing base disk host down up
  resets : ResetNone down
  heard : (host ≡ base) ⊎ IsUnsigned (ledger host)

begins_hearing : (base : List Happening) → IsSigning (ledger base) → IsHearing base base base [] []
begins_hearing base (ToSign owes) = record { owing = Waiting owes refl refl refl refl; resets = tt; heard = inl refl }
begins_hearing base (Unsigned none) = record { owing = Signed none; resets = tt; heard = inl refl }

gives_heard : (base host : List Happening) (bytes : List ℕ) → IsSigning (ledger base) → Fits (ledger host) (seen bytes)
    → (host ≡ base) ⊎ IsUnsigned (ledger host) → IsUnsigned (ledger (host ++ Received bytes ∷ []))
gives_heard base host bytes (ToSign owes) fits (inl is) =
    absurd (gives_none (ledger base) Signs [] (seen bytes) owes (subst (λ (h : List Happening). Fits (ledger h) (seen bytes)) is fits))
gives_heard base host bytes (Unsigned none) fits (inl is) =
    (stays_received host bytes (fits_no_reset (ledger host) (seen bytes) fits)).unsigned (subst (λ (h : List Happening). IsUnsigned (ledger h)) (sym is) none)
gives_heard base host bytes signing fits (inr none) = (stays_received host bytes (fits_no_reset (ledger host) (seen bytes) fits)).unsigned none

takes_heard : (base host : List Happening) (bytes : List ℕ) → IsSigning (ledger base) → IsOfDisk (seen bytes) → IsRight (ledger host) (seen bytes)
    → (host ≡ base) ⊎ IsUnsigned (ledger host) → IsUnsigned (ledger (host ++ Sent bytes ∷ []))
takes_heard base host bytes (ToSign owes) mine right (inl is) =
    let mine_owes : OwesOnly (ledger host) (Signs ∷ []) [] = subst (λ (h : List Happening). OwesOnly (ledger h) (Signs ∷ []) []) (sym is) owes in
    subst IsUnsigned (sym (ledger_push host (Sent bytes))) (signs_then (ledger host) (seen bytes) mine_owes mine right)
takes_heard base host bytes (Unsigned none) mine right (inl is) =
    (stays_gone host bytes).unsigned (subst (λ (h : List Happening). IsUnsigned (ledger h)) (sym is) none)
takes_heard base host bytes signing mine right (inr none) = (stays_gone host bytes).unsigned none

gives_owing : (base disk host : List Happening) (down up : List (List ℕ)) (bytes : List ℕ) → Fits (ledger host) (seen bytes)
    → IsOwing base disk host down up → IsOwing base disk (host ++ Received bytes ∷ []) (down ++ bytes ∷ []) up
gives_owing base disk host down up bytes fits (Signed none) = Signed none
gives_owing base disk host down up bytes fits (Waiting owes disk_is host_is down_is up_is) =
    absurd (gives_none (ledger base) Signs [] (seen bytes) owes (subst (λ (h : List Happening). Fits (ledger h) (seen bytes)) host_is fits))

comes_owing : (base disk host : List Happening) (front back up : List (List ℕ)) (bytes : List ℕ) → ResetsNot (seen bytes)
    → IsOwing base disk host (front ++ bytes ∷ back) up → IsOwing base (disk ++ Received bytes ∷ []) host (front ++ back) up
comes_owing base disk host front back up bytes still (Signed none) = Signed ((stays_received disk bytes still).unsigned none)
comes_owing base disk host front back up bytes still (Waiting owes disk_is host_is down_is up_is) = absurd (no_end front bytes back down_is)

sends_owing : (base disk host : List Happening) (down up : List (List ℕ)) (bytes : List ℕ) → IsOfDisk (seen bytes) → IsRight (ledger disk) (seen bytes)
    → IsOwing base disk host down up → IsOwing base (disk ++ Sent bytes ∷ []) host down (up ++ bytes ∷ [])
sends_owing base disk host down up bytes mine right (Signed none) = Signed ((stays_gone disk bytes).unsigned none)
sends_owing base disk host down up bytes mine right (Waiting owes disk_is host_is down_is up_is) =
    let disk_owes : OwesOnly (ledger disk) (Signs ∷ []) [] = subst (λ (h : List Happening). OwesOnly (ledger h) (Signs ∷ []) []) (sym disk_is) owes in
    Signed (subst IsUnsigned (sym (ledger_push disk (Sent bytes))) (signs_then (ledger disk) (seen bytes) disk_owes mine right))

takes_owing : (base disk host : List Happening) (down up : List (List ℕ)) (bytes : List ℕ) → IsOwing base disk host down (bytes ∷ up)
    → IsOwing base disk (host ++ Sent bytes ∷ []) down up
takes_owing base disk host down up bytes (Signed none) = Signed none
takes_owing base disk host down up bytes (Waiting owes disk_is host_is down_is up_is) = cc up_is

module _ (plan : DiskPlan) (sectors : ℕ) (size : IsSize plan sectors) (base : List Happening) (signing : IsSigning (ledger base)) where
  right_next : (disk host : List Happening) (down up : List (List ℕ)) (bytes : List ℕ) → IsLinkedOn base disk host down [] (bytes ∷ up)
      → IsDiskRun plan sectors disk → IsCarefulSince base host → IsRight (ledger host) (seen bytes)
  unfolding AreRight
  right_next disk host down up bytes linked run careful =
      (ends_agree_anew plan sectors base disk host down [] (bytes ∷ up) size run linked careful).right.0

  comes_of_disk : (disk host : List Happening) (down stale up : List (List ℕ)) (bytes : List ℕ) → IsLinkedOn base disk host down stale (bytes ∷ up)
      → IsDiskRun plan sectors disk → IsOfDisk (seen bytes)
  comes_of_disk disk host down stale up bytes linked run =
      (up_each plan sectors base (λ b. IsOfDisk (seen b)) (λ h b may. of_disk plan sectors h b size may) disk host down stale (bytes ∷ up) run linked).0

  hearing : (disk host : List Happening) (down stale up : List (List ℕ)) → IsLinkedOn base disk host down stale up → IsDiskRun plan sectors disk
      → IsCarefulSince base host → IsHearing base disk host down up
  hearing disk host down stale up (anew.begins s clear) run careful = begins_hearing base signing
  hearing disk host down stale up (anew.gives d h below s above bytes linked) run careful =
      let p = since_of base d h below s above linked in
      let last = careful_before base h p.0 (Received bytes) p.1 careful in
      let was : IsHearing base d h below above = hearing d h below s above linked run last.0 in
      record {
        owing = gives_owing base d h below above bytes last.1 was.owing;
        resets = each_more (λ b. ResetsNot (seen b)) below bytes was.resets (fits_no_reset (ledger h) (seen bytes) last.1);
        heard = inr (gives_heard base h bytes signing last.1 was.heard);
      }
  hearing disk host down stale up (anew.comes d h front back s above bytes linked) run careful =
      let before = run_before plan sectors size d (Received bytes) run in
      let was : IsHearing base d h (front ++ bytes ∷ back) above = hearing d h (front ++ bytes ∷ back) s above linked before careful in
      let parts = reset_none_split front bytes back was.resets in
      record { owing = comes_owing base d h front back above bytes parts.0 was.owing; resets = parts.1; heard = was.heard }
  hearing disk host down stale up (anew.sends d h below s above bytes fine linked) run careful =
      let was : IsHearing base d h below above = hearing d h below s above linked (run_before plan sectors size d (Sent bytes) run) careful in
      let one = of_disk plan sectors d bytes size run in
      record {
        owing = sends_owing base d h below above bytes one (sent_right plan sectors size d bytes run fine) was.owing;
        resets = was.resets;
        heard = was.heard;
      }
  hearing disk host down stale up (anew.drops d h below s above bytes linked) run careful = hearing d h below (bytes ∷ s) above linked run careful
  hearing disk host down stale up (anew.takes d h below above bytes linked) run careful =
      let p = since_of base d h below [] (bytes ∷ above) linked in
      let last = careful_before base h p.0 (Sent bytes) p.1 careful in
      let was : IsHearing base d h below (bytes ∷ above) = hearing d h below [] (bytes ∷ above) linked run last.0 in
      record {
        owing = takes_owing base d h below above bytes was.owing;
        resets = was.resets;
        heard = inr (takes_heard base h bytes signing (comes_of_disk d h below [] above bytes linked run) (right_next d h below above bytes linked run last.0) was.heard);
      }

-- ## The line

none_signs : (k : Ledger) (up : List (List ℕ)) → IsUnsigned k → AreRight k up → NoneSigns up
unfolding AreRight
none_signs k [] none right = tt
none_signs k (bytes ∷ up) none right =
    let first : IsRight k (seen bytes) = right.0 in
    (unsigned_by k (seen bytes) first.replies none, none_signs (listens k (Sent bytes)) up ((stays_up k (seen bytes)).unsigned none) right.1)

owes_none : (base disk given : List Happening) (down up : List (List ℕ)) → IsOwing base disk given down up → IsUnsigned (ledger given)
    → IsUnsigned (ledger disk)
owes_none base disk given down up (Signed none) unsigned = none
owes_none base disk given down up (Waiting owes disk_is given_is down_is up_is) unsigned =
    let began : IsUnsigned (ledger base) = subst (λ (h : List Happening). IsUnsigned (ledger h)) given_is unsigned in
    let bad : EachReply IsNoSignature (Signs ∷ []) = subst (EachReply IsNoSignature) owes.awaited began in
    absurd bad.0

error_unsigned : (r : Result Fis FisFault) → reports r ≡ true → signs r ≡ false
error_unsigned (Ok (view.RegD2H f)) is = cc is
error_unsigned other is = refl

pub erred_unsigned : (k : Ledger) → IsErred k → IsUnsigned k
erred_unsigned k erred = subst (EachReply IsNoSignature) (sym erred.rests.awaited) tt

module _ (plan : DiskPlan) (sectors : ℕ) (base disk given : List Happening) (down up : List (List ℕ))
    (w : IsWatchedWell plan sectors base disk given down up) where
  linked_unsigned : IsLinkedOn base disk given down [] up → IsUnsigned (ledger given) → IsUnsigned (ledger disk) × NoneSigns up
  linked_unsigned linked unsigned =
      let was : IsHearing base disk given down up = hearing plan sectors w.size base w.signing disk given down [] up linked w.run w.careful in (
        owes_none base disk given down up was.owing unsigned,
        none_signs (ledger given) up unsigned (ends_agree_anew plan sectors base disk given down [] up w.size w.run linked w.careful).right,
      )

  unsigned_to : IsWatchedTo base disk given down [] up → IsUnsigned (ledger given) → IsUnsigned (ledger disk) × NoneSigns up
  unsigned_to (Fine linked) unsigned = linked_unsigned linked unsigned
  unsigned_to (Erred followed later error below before disk_is up_is fails linked erred) unsigned =
      let run = run_to plan sectors disk followed (Sent error ∷ later) disk_is w.run in
      let right : AreRight (ledger given) before = (ends_agree_anew plan sectors base followed given below [] before w.size run linked w.careful).right in
      let quiet : NoneSigns (before ++ error ∷ []) =
      none_signs_push before error (none_signs (ledger given) before unsigned right) (error_unsigned (seen error) fails) in
      (erred_unsigned (ledger disk) erred.now, subst NoneSigns (sym up_is) quiet)

  loosens_to : IsUnsigned (ledger given) → IsLoose (ledger disk) down up
  loosens_to unsigned =
      let watched : IsWatched base disk given down [] up = w.watched in
      let parts = unsigned_to watched.to_error unsigned in
      record { unsigned = parts.0; plain = watched.plain; quiet = parts.1 }

  signed_to : IsWatchedTo base disk given down [] up → (given ≡ base) ⊎ IsUnsigned (ledger given)
  signed_to (Fine linked) = (hearing plan sectors w.size base w.signing disk given down [] up linked w.run w.careful).heard
  signed_to (Erred followed later error below before disk_is up_is fails linked erred) =
      let run = run_to plan sectors disk followed (Sent error ∷ later) disk_is w.run in
      (hearing plan sectors w.size base w.signing followed given below [] before linked run w.careful).heard

signed_by : (base given : List Happening) → IsSigning (ledger base) → (ledger given).awaited ≢ Signs ∷ []
    → (given ≡ base) ⊎ IsUnsigned (ledger given) → IsUnsigned (ledger given)
signed_by base given (ToSign owes) asked (inl same) = absurd (asked (ap (λ (h : List Happening). (ledger h).awaited) same ∙ owes.awaited))
signed_by base given (Unsigned none) asked (inl same) = subst (λ (h : List Happening). IsUnsigned (ledger h)) (sym same) none
signed_by base given signing asked (inr none) = none

-- what goes on from the base is not the base
pub not_base : (base given since : List Happening) (e : Happening) → given ≡ base ++ since → given ++ e ∷ [] ≡ base → ⊥
not_base base given since e is same =
    let more : base ++ (since ++ e ∷ []) ≡ base ++ [] =
    sym (append_assoc base since (e ∷ [])) ∙ ap (λ (xs : List Happening). xs ++ e ∷ []) (sym is) ∙ same ∙ sym (append-nil base) in
    no_end since e [] (append_cancel_left base (since ++ e ∷ []) [] more)

module _ (plan : DiskPlan) (sectors : ℕ) (base disk given : List Happening) (down up : List (List ℕ)) (bytes : List ℕ)
    (w : IsWatchedWell plan sectors base disk given down (bytes ∷ up)) where
  heard_after : IsWatched base disk (given ++ Sent bytes ∷ []) down [] up → IsUnsigned (ledger (given ++ Sent bytes ∷ []))
  heard_after on =
      let watched : IsWatched base disk given down [] (bytes ∷ up) = w.watched in
      let next : IsWatchedWell plan sectors base disk (given ++ Sent bytes ∷ []) down up =
      record { size = w.size; run = w.run; signing = w.signing; careful = careful_more base given (Sent bytes) w.careful tt; watched = on } in
      elim (signed_to plan sectors base disk (given ++ Sent bytes ∷ []) down up next on.to_error) [
        | inl same ↦ absurd (not_base base given watched.gave.since (Sent bytes) watched.gave.is same)
        | inr none ↦ none
      ]

  after_one : IsUnsigned (ledger (given ++ Sent bytes ∷ []))
  after_one = elim (takes_on base disk given down up bytes w.watched) [
    | inl last ↦ erred_unsigned (ledger (given ++ Sent bytes ∷ [])) (erred_now given bytes last.fails)
    | inr on ↦ heard_after on
  ]

  -- what comes next is of a disk
  pub next_of_disk : reports (seen bytes) ≡ false → IsOfDisk (seen bytes)
  next_of_disk fine = elim (next_watched base disk given down up bytes w.watched) [
    | inl last ↦ absurd (true≢false (sym last.fails ∙ fine))
    | inr b ↦
        comes_of_disk plan sectors w.size base w.signing b.followed given b.below [] b.before bytes b.linked
        (run_to plan sectors disk b.followed b.later b.disk_is w.run)
  ]

  failed_on : IsLastError base disk down up bytes → IsFailed (ledger disk) down up
  failed_on last = record { erred = last.erred; plain = last.plain; silent = last.last }

  loose_on : IsWatched base disk (given ++ Sent bytes ∷ []) down [] up → IsLoose (ledger disk) down up
  loose_on on =
      let next : IsWatchedWell plan sectors base disk (given ++ Sent bytes ∷ []) down up =
      record { size = w.size; run = w.run; signing = w.signing; careful = careful_more base given (Sent bytes) w.careful tt; watched = on } in
      loosens_to plan sectors base disk (given ++ Sent bytes ∷ []) down up next after_one

  next_fine : reports (seen bytes) ≡ false → IsLoose (ledger disk) down up
  next_fine fine = elim (takes_on base disk given down up bytes w.watched) [
    | inl last ↦ absurd (true≢false (sym last.fails ∙ fine))
    | inr on ↦ loose_on on
  ]

  next_on : ((reports (seen bytes) ≡ true) × IsFailed (ledger disk) down up) ⊎ ((reports (seen bytes) ≡ false) × IsLoose (ledger disk) down up)
  next_on = elim (next_watched base disk given down up bytes w.watched) [
    | inl last ↦ inl (last.fails, failed_on last)
    | inr b ↦
        let right : IsRight (ledger given) (seen bytes) =
        right_next plan sectors w.size base w.signing b.followed given b.below b.before bytes b.linked
        (run_to plan sectors disk b.followed b.later b.disk_is w.run) w.careful in
        inr (right.fine, next_fine right.fine)
  ]

pub lines_begin : LinesBegin
lines_begin = record {
  loosens = λ plan sectors base disk given down up w unsigned. loosens_to plan sectors base disk given down up w unsigned;
  signed = λ plan sectors base disk given down up w.
      let watched : IsWatched base disk given down [] up = w.watched in
      signed_to plan sectors base disk given down up w watched.to_error;
  asked = λ plan sectors base disk given down up w asked.
      let watched : IsWatched base disk given down [] up = w.watched in
      signed_by base given w.signing asked (signed_to plan sectors base disk given down up w watched.to_error);
  after = after_one;
  next = next_on;
}

first_released : (ledger (Plugged ∷ [])).resetting ≡ false
unfolding ledger_after
first_released = refl

pub plugging_leaves_reset : PluggingLeavesReset
plugging_leaves_reset = record {
  first = first_released;
  again = λ before. ap (λ (k : Ledger). k.resetting) (ledger_push before Plugged);
}
