-- The FISes that settle commands, as they were taken, are among those that came of the connection, and these among those that the disk sent, in order.
use Rattle.std.proofs.Common.{◌≡◌, ◌⊎◌, ℕ, ◌+◌, ◌*◌, ◌/◌, ◌%◌, ◌^◌, ◌&&◌, ◌||◌, Bool, true, false, List, [], ◌∷◌, ◌++◌, append_assoc, length, Ok, Err}
use Rattle.std.proofs.{Common.{refl, sym, ap, subst, ◌∙◌, inl, inr, arith}, lemmas.{Bool.{and_parts, eq-eqb}, List.{length-append}}}
use Rattle.std.specs.Prelude.{◌==◌, if◌then◌else◌, slice_index}
use Rattle.fis_view.specs.{Built.cut, Frames.{Stamped, marked}, Seen.{kind_of, kind_of_type, may_have, seen, view_as}, Table.{Kind, field, places}}
use Rattle.fis_view.specs.{Table.spelled, declared.view.{Fis.Fis, FisFault.TheVariants.WrongLength}}
use Rattle.fis_view.specs.Table as table
use Rattle.fis_view.specs.declared.view.Fis.TheVariants as view
use Rattle.multiplier.specs.Passing.{of_conn}
use Rattle.fan_out.specs.declared.fan_out.FanOut.{FanOut, TheVariants.{Device, Multiplier}}
use Rattle.hba_fbs.specs.{Status.is_quiet, Taking.port_of}
use Rattle.ata_reply.specs.{Replies.Shows, declared.reply.{Announcement.Announcement, Reply.Reply}}
use Rattle.ata_reply.specs.declared.reply.Reply.TheVariants as replies
use Rattle.sata_disk.specs.{State.DiskState, declared.out.Out.Out}
use Rattle.sata_disk.specs.declared.out.Out.TheVariants as out
use Rattle.sata_disk_books.specs.LastData.{is_last_block, sets_up_last}
use Rattle.sata_disk_laws.specs.Calls.{Answers, Asks, Call, Hears, Plugs, Sends, Starts, after_calls}
use Rattle.controller_laws.specs.Events as call
use Rattle.controller_laws.specs.Events.{Event}
use Rattle.ahci_machine.specs.{States.{MachineState, bay_at}, declared.bay.Unit.TheVariants.Disk}
use Rattle.ahci_machine.specs.declared.act.Act.TheVariants as act
use Rattle.machine_laws.specs.{ControllerLaws.RunsRuled, Deeds.{Deed, Does, FrameOffered, Moved}, Disks.{DisksGoOn, calls_at}, Rising.bytes_of}
use Rattle.machine_laws.specs.Rising.{frames_of, risen, sent_by}
use Rattle.machine_theorem.specs.{Crossing.Within, Identity.calls_of, InTurn.{is_answer, is_register}, OwnSlots.{AllKeepLine, AreOne, KeepsLine}}
use Rattle.machine_theorem.specs.{OwnSlots.is_of, Settled.settled_in, Tags.once_if}
use Rattle.machine_theorem.proofs.{Closing.{frame_kinds, kinds, taken_kinds}, EndSent.{cut_run, kind_view, seen_kind, set_kept}, EndsFew.sent_of}
use Rattle.machine_theorem.proofs.{Fallen.left_there, RisenTold.conn_both, Sent.type_is, SentFises.{offers_none, sender_is}, Within.all_within}
use Rattle.machine_theorem.proofs.Within.{within_both}

-- ---- what a disk sends

abbrev kind_if : (answers last : Bool) → List Bool
kind_if answers last = if answers then false ∷ [] else (if last then true ∷ [] else [])

abbrev pub out_kinds : Out → List Bool
out_kinds o = kind_if (is_answer o) (sets_up_last o)

abbrev pub call_kinds : Call → List Bool
call_kinds (Sends o) = out_kinds o
call_kinds other = []

abbrev pub said_kinds : List Call → List Bool
said_kinds [] = []
said_kinds (c ∷ later) = call_kinds c ++ said_kinds later

one_long : (a b : Bool) → length (kind_if a b) ≡ once_if (a || b)
one_long true b = refl
one_long false true = refl
one_long false false = refl

pub said_long : (calls : List Call) → length (said_kinds calls) ≡ settled_in calls
said_long [] = refl
said_long (Sends o ∷ later) = let rest = said_long later in let one = one_long (is_answer o) (sets_up_last o) in let both = length-append (out_kinds o) (said_kinds later) in omega (arith, rest, one, both)
said_long (Hears bytes ∷ later) = let rest = said_long later in omega (arith, rest)
said_long (Plugs ∷ later) = let rest = said_long later in omega (arith, rest)
said_long (Starts x ∷ later) = let rest = said_long later in omega (arith, rest)
said_long (Asks r ∷ later) = let rest = said_long later in omega (arith, rest)
said_long (Answers n a ∷ later) = let rest = said_long later in omega (arith, rest)

-- ---- the FIS

-- a FIS of this kind, or one of a wrong length
by_kind : (f : List ℕ) (k : Kind) → kind_of f ≡ k → (seen f ≡ Ok (view_as k f)) ⊎ (seen f ≡ Err WrongLength)
unfolding seen
by_kind f k kind =
    subst (λ (k : Kind). ((if may_have (kind_of f) (length f) then Ok (view_as (kind_of f) f) else Err WrongLength) ≡ Ok (view_as k f))
    ⊎ ((if may_have (kind_of f) (length f) then Ok (view_as (kind_of f) f) else Err WrongLength) ≡ Err WrongLength)) kind (by (may_have (kind_of f) (length f)))
  where
    by : (b : Bool)
        → ((if b then Ok (view_as (kind_of f) f) else Err WrongLength) ≡ Ok (view_as (kind_of f) f)) ⊎ ((if b then Ok (view_as (kind_of f) f) else Err WrongLength) ≡ Err WrongLength)
    by true = inl refl
    by false = inr refl

-- it settles as this view says, or nothing
abbrev Fits : List ℕ → List Bool → Type 0
Fits f l = (frame_kinds f ≡ []) ⊎ (frame_kinds f ≡ l)

of_kind : (f : List ℕ) (k : Kind) → kind_of f ≡ k → Fits f (kinds (Ok (view_as k f)))
of_kind f k kind = elim (by_kind f k kind) [
  | inl is ↦ inr (ap kinds is)
  | inr wrong ↦ inl (ap kinds wrong)
]

risen_kind : (fan : FanOut) (n : ℕ) (frame : Stamped) (v : Fis) → seen frame.bytes ≡ Ok v → kind_of (risen fan n frame).bytes ≡ kind_view v
risen_kind fan n frame v viewed = ap kind_of_type (type_is fan n frame) ∙ seen_kind frame.bytes v viewed

ends_kept : (f : List ℕ) (port : ℕ) → field table.Pio table.EStatus (marked f port) ≡ field table.Pio table.EStatus f
unfolding field places spelled
ends_kept f port = ap (λ (x : ℕ). x + 2 ^ 8 * 0) (set_kept f (slice_index f 1 / 16 * 16 + port) 120 8 (omega arith))

risen_ends : (fan : FanOut) (n : ℕ) (frame : Stamped) → field table.Pio table.EStatus (risen fan n frame).bytes ≡ field table.Pio table.EStatus frame.bytes
risen_ends (Device s) n frame = ends_kept frame.bytes s.asked
risen_ends (Multiplier f) n frame = ends_kept frame.bytes n

cut_ends : (x : ℕ) → cut (places table.Pio table.EStatus) x ≡ x % 2 ^ 8
unfolding places
cut_ends x = cut_run 15 0 8 x

quiet_if : (b : Bool) → is_quiet ((if b then 0x50 else 0xD0) % 2 ^ 8) ≡ b
quiet_if true = refl
quiet_if false = refl

register_fits : (fan : FanOut) (n : ℕ) (frame : Stamped) → seen frame.bytes ≡ Ok (view.RegD2H frame.bytes) → Fits (risen fan n frame).bytes (false ∷ [])
register_fits fan n frame viewed = of_kind (risen fan n frame).bytes table.D2h (risen_kind fan n frame (view.RegD2H frame.bytes) viewed)

block_fits : (fan : FanOut) (n : ℕ) (frame : Stamped) (a : Announcement) → Shows (replies.Announce a) frame.bytes
    → Fits (risen fan n frame).bytes (if a.to_host && a.last then true ∷ [] else [])
block_fits fan n frame a shows =
    let f : List ℕ = (risen fan n frame).bytes in
    let ends : is_quiet (field table.Pio table.EStatus f) ≡ (a.to_host && a.last) =
    ap is_quiet (risen_ends fan n frame ∙ shows.fields table.EStatus ∙ cut_ends (if a.to_host && a.last then 0x50 else 0xD0)) ∙ quiet_if (a.to_host && a.last) in
    subst (λ (b : Bool). Fits f (if b then true ∷ [] else [])) ends (of_kind f table.Pio (risen_kind fan n frame (view.PioSetup frame.bytes) shows.viewed))

reply_fits : (fan : FanOut) (n : ℕ) (frame : Stamped) (r : Reply) → Shows r frame.bytes
    → Fits (risen fan n frame).bytes (kind_if (is_register r) (is_last_block r))
reply_fits fan n frame replies.Signature shows = register_fits fan n frame shows.viewed
reply_fits fan n frame replies.Accepted shows = register_fits fan n frame shows.viewed
reply_fits fan n frame replies.Done shows = register_fits fan n frame shows.viewed
reply_fits fan n frame replies.Active shows = register_fits fan n frame shows.viewed
reply_fits fan n frame replies.Healthy shows = register_fits fan n frame shows.viewed
reply_fits fan n frame (replies.Failed x) shows = register_fits fan n frame shows.viewed
reply_fits fan n frame (replies.Ends tags) shows = of_kind (risen fan n frame).bytes table.Bits (risen_kind fan n frame (view.SetBits frame.bytes) shows.viewed)
reply_fits fan n frame (replies.Aborts error) shows = of_kind (risen fan n frame).bytes table.Bits (risen_kind fan n frame (view.SetBits frame.bytes) shows.viewed)
reply_fits fan n frame (replies.SetUp s) shows = of_kind (risen fan n frame).bytes table.Setup (risen_kind fan n frame (view.DmaSetup frame.bytes) shows.viewed)
reply_fits fan n frame (replies.Announce a) shows = block_fits fan n frame a shows
reply_fits fan n frame replies.Activate shows = of_kind (risen fan n frame).bytes table.Activate (risen_kind fan n frame (view.DmaActivate frame.bytes) shows.viewed)

payload_fits : (fan : FanOut) (n : ℕ) (frame : Stamped) → seen frame.bytes ≡ Ok (view.Payload frame.bytes) → Fits (risen fan n frame).bytes []
payload_fits fan n frame viewed = of_kind (risen fan n frame).bytes table.Data (risen_kind fan n frame (view.Payload frame.bytes) viewed)

pub out_fits : (old : MachineState) (k : ℕ) (o : Out) (new : MachineState) (does : Does old (Moved (act.Speaks k o)) new)
    → Fits (risen old.fan k does.does.does.1.frame).bytes (out_kinds o)
out_fits old k (out.Own r) new does = let h = does.does.does.1 in reply_fits old.fan k h.frame r h.bytes
out_fits old k (out.Beside r) new does = let h = does.does.does.1 in reply_fits old.fan k h.frame r h.bytes
out_fits old k (out.Of p r) new does = let h = does.does.does.1 in reply_fits old.fan k h.frame r h.bytes
out_fits old k (out.Ends tags) new does = let h = does.does.does.1 in of_kind (risen old.fan k h.frame).bytes table.Bits (risen_kind old.fan k h.frame (view.SetBits h.frame.bytes) h.bytes.viewed)
out_fits old k (out.Page page) new does = let h = does.does.does.1 in payload_fits old.fan k h.frame h.bytes.1.1
out_fits old k (out.Data place len) new does = let h = does.does.does.1 in payload_fits old.fan k h.frame h.bytes.1

-- ---- a stretch

abbrev pub frames_kinds : List Stamped → List Bool
frames_kinds [] = []
frames_kinds (f ∷ later) = frame_kinds f.bytes ++ frames_kinds later

frames_both : (xs ys : List Stamped) → frames_kinds (xs ++ ys) ≡ frames_kinds xs ++ frames_kinds ys
frames_both [] ys = refl
frames_both (x ∷ xs) ys =
    ap (λ (l : List Bool). frame_kinds x.bytes ++ l) (frames_both xs ys) ∙ sym (append_assoc (frame_kinds x.bytes) (frames_kinds xs) (frames_kinds ys))

said_both : (xs ys : List Call) → said_kinds (xs ++ ys) ≡ said_kinds xs ++ said_kinds ys
said_both [] ys = refl
said_both (x ∷ xs) ys = ap (λ (l : List Bool). call_kinds x ++ l) (said_both xs ys) ∙ sym (append_assoc (call_kinds x) (said_kinds xs) (said_kinds ys))

fits_within : (f : List ℕ) (l : List Bool) → Fits f l → Within (frame_kinds f ++ []) (l ++ [])
fits_within f l (inl none) = subst (λ (k : List Bool). Within (k ++ []) (l ++ [])) (sym none) tt
fits_within f l (inr is) = subst (λ (k : List Bool). Within (k ++ []) (l ++ [])) (sym is) (all_within (l ++ []))

none_within : (l : List Stamped) (k : List Bool) → l ≡ [] → Within (frames_kinds l) k
none_within l k none = subst (λ (x : List Stamped). Within (frames_kinds x) k) (sym none) tt

module _ (many : Bool) (n c dev : ℕ) where
  speaks_within : (old : MachineState) (k : ℕ) (o : Out) (new : MachineState) (does : Does old (Moved (act.Speaks k o)) new)
      → KeepsLine many n c dev old (Moved (act.Speaks k o)) new does
      → (b : Bool) → is_of n c (risen old.fan k does.does.does.1.frame) ≡ b
      → Within (frames_kinds (of_conn n c (risen old.fan k does.does.does.1.frame ∷ []))) (said_kinds (if k == n then Sends o ∷ [] else []))
  speaks_within old k o new does keeps true here =
      let h = does.does.does.1 in
      let f : Stamped = risen old.fan k h.frame in
      let same : k ≡ n = sender_is many n old k h.frame keeps.end h.room (and_parts (f.stamp.port == n) (f.stamp.conn == c) here).0 in
      let one : f ∷ [] ≡ of_conn n c (f ∷ []) = sym (ap (λ (b : Bool). if b then f ∷ [] else []) here) in
      let calls : Sends o ∷ [] ≡ (if k == n then Sends o ∷ [] else []) = sym (ap (λ (b : Bool). if b then Sends o ∷ [] else []) (eq-eqb k n same)) in
      subst (λ (l : List Stamped). Within (frames_kinds l) (said_kinds (if k == n then Sends o ∷ [] else []))) one
      (subst (λ (l : List Call). Within (frames_kinds (f ∷ [])) (said_kinds l)) calls (fits_within f.bytes (out_kinds o) (out_fits old k o new does)))
  speaks_within old k o new does keeps false here =
      let f : Stamped = risen old.fan k does.does.does.1.frame in
      none_within (of_conn n c (f ∷ [])) (said_kinds (if k == n then Sends o ∷ [] else [])) (ap (λ (b : Bool). if b then f ∷ [] else []) here)

  deed_within : (old : MachineState) (deed : Deed) (new : MachineState) (does : Does old deed new) → KeepsLine many n c dev old deed new does
      → (d : DiskState) → (bay_at old n).unit ≡ Disk d
      → Within (frames_kinds (of_conn n c (sent_by old deed new does))) (said_kinds (calls_at old deed n))
  deed_within old (Moved (act.Speaks k o)) new does keeps d unit = speaks_within old k o new does keeps (is_of n c (risen old.fan k does.does.does.1.frame)) refl
  deed_within old (Moved a) new does keeps d unit = tt
  deed_within old (FrameOffered k frame told) new does keeps d unit =
      none_within (of_conn n c (sent_by old (FrameOffered k frame told) new does)) _ (offers_none many n c dev old k frame told new does keeps.end d unit)
  deed_within old deed new does keeps d unit = tt

  pub sent_within : DisksGoOn → (deeds : List Deed) (old now : MachineState) (run : RunsRuled old deeds now) → AllKeepLine many n c dev old deeds now run
      → (d : DiskState)
      → (bay_at old n).unit ≡ Disk d → Within (frames_kinds (of_conn n c (sent_of old deeds now run))) (said_kinds (calls_of n old deeds now run))
  sent_within goes [] old now run keeps d unit = tt
  sent_within goes (deed ∷ later) old now run keeps d unit =
      let mid : MachineState = run.1.0 in
      let calls : List Call = calls_at old deed n in
      let more : List Call = calls_of n mid later now run.1.2 in
      let sent : List Stamped = sent_by old deed mid run.1.1 in
      let rest : List Stamped = sent_of mid later now run.1.2 in
      let on = goes old deed mid run.1.1 n d unit (left_there n deed keeps.0.left) in
      let first = deed_within old deed mid run.1.1 keeps.0 d unit in
      let then' = sent_within goes later mid now run.1.2 keeps.1 (after_calls d calls) on.is in
      let left : frames_kinds (of_conn n c sent) ++ frames_kinds (of_conn n c rest) ≡ frames_kinds (of_conn n c (sent ++ rest)) =
      sym (ap (λ (l : List Stamped). frames_kinds l) (conn_both n c sent rest) ∙ frames_both (of_conn n c sent) (of_conn n c rest)) in
      subst (λ (l : List Bool). Within l (said_kinds (calls ++ more))) left
      (subst (λ (l : List Bool). Within (frames_kinds (of_conn n c sent) ++ frames_kinds (of_conn n c rest)) l) (sym (said_both calls more))
      (within_both (frames_kinds (of_conn n c sent)) (said_kinds calls) (frames_kinds (of_conn n c rest)) (said_kinds more) first then'))

-- ---- what is taken

abbrev own_kinds : (dev : ℕ) → List (List ℕ) → List Bool
own_kinds dev [] = []
own_kinds dev (f ∷ later) = (if port_of f == dev then frame_kinds f else []) ++ own_kinds dev later

taken_own : (dev : ℕ) (events : List Event) → Within (taken_kinds dev events) (own_kinds dev (frames_of events))
taken_own dev [] = tt
taken_own dev (call.Took frame took ∷ later) =
    let one : List Bool = if port_of frame == dev then frame_kinds frame else [] in
    within_both one one (taken_kinds dev later) (own_kinds dev (frames_of later)) (all_within one) (taken_own dev later)
taken_own dev (call.Left frame why ∷ later) =
    within_both [] (if port_of frame == dev then frame_kinds frame else []) (taken_kinds dev later) (own_kinds dev (frames_of later)) tt (taken_own dev later)
taken_own dev (call.Wrote offset value written ∷ later) = taken_own dev later
taken_own dev (call.WroteWide offset width value written ∷ later) = taken_own dev later
taken_own dev (call.Supplied slot number bytes supply ∷ later) = taken_own dev later
taken_own dev (call.Missed slot number supply ∷ later) = taken_own dev later
taken_own dev (call.Turned next ∷ later) = taken_own dev later
taken_own dev (call.Said write ∷ later) = taken_own dev later
taken_own dev (call.Gathered d number frame fed ∷ later) = taken_own dev later
taken_own dev (call.NotThere d number fed ∷ later) = taken_own dev later

one_own : (a b : Bool) (f : Stamped) (later : List Stamped) → a ≡ b
    → (if a then frame_kinds f.bytes else []) ++ frames_kinds later ≡ frames_kinds (if b then f ∷ later else later)
one_own true true f later e = refl
one_own true false f later e = absurd (cc)
one_own false true f later e = absurd (cc)
one_own false false f later e = refl

own_is : (n c dev : ℕ) (frames : List Stamped) → AreOne n c dev frames → own_kinds dev (bytes_of frames) ≡ frames_kinds (of_conn n c frames)
own_is n c dev [] one = refl
own_is n c dev (f ∷ later) one =
    ap (λ (l : List Bool). (if port_of f.bytes == dev then frame_kinds f.bytes else []) ++ l) (own_is n c dev later one.1)
    ∙ one_own (port_of f.bytes == dev) (is_of n c f) f (of_conn n c later) one.0

-- where what is taken came, and those with the PM Port of the device are those of the connection
pub taken_within : (n c dev : ℕ) (events : List Event) (came : List Stamped) → bytes_of came ≡ frames_of events → AreOne n c dev came
    → Within (taken_kinds dev events) (frames_kinds (of_conn n c came))
taken_within n c dev events came same one =
    subst (λ (l : List Bool). Within (taken_kinds dev events) l) (ap (own_kinds dev) (sym same) ∙ own_is n c dev came one) (taken_own dev events)
