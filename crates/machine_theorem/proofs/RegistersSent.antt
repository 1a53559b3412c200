-- A disk sends no more Register FISes than answers, and no more of a device are taken than came of its connection.
use Rattle.std.proofs.Common.{◌≡◌, ℕ, ◌+◌, ◌≤◌, ◌&&◌, Bool, true, false, List, [], ◌∷◌, ◌++◌, length, Result, Ok, Err, refl, sym, ap, ◌∙◌, arith}
use Rattle.std.proofs.lemmas.{Bool.{and_parts, eq-eqb, false≢true}, List.{length-append}}
use Rattle.std.specs.Prelude.{◌==◌, if◌then◌else◌, slice_index}
use Rattle.fis_view.specs.{Frames.Stamped, Seen.{kind_of, seen}, Table.Kind, declared.view.{Fis.Fis, FisFault.FisFault}}
use Rattle.fis_view.specs.Table as table
use Rattle.fis_view.specs.declared.view.Fis.TheVariants as view
use Rattle.multiplier.specs.Passing.{of_conn}
use Rattle.hba_fbs.specs.Taking.{port_of}
use Rattle.ata_reply.specs.{Replies.Shows, declared.reply.Reply.Reply}
use Rattle.ata_reply.specs.declared.reply.Reply.TheVariants as replies
use Rattle.sata_disk.specs.{State.DiskState, declared.out.Out.Out}
use Rattle.sata_disk.specs.declared.out.Out.TheVariants as out
use Rattle.sata_disk_laws.specs.Calls.{Call, Sends, after_calls}
use Rattle.controller_laws.specs.Events as call
use Rattle.controller_laws.specs.Events.{Event}
use Rattle.ahci_machine.specs.{States.{MachineState, bay_at}, declared.bay.Unit.TheVariants.Disk}
use Rattle.ahci_machine.specs.declared.act.Act.TheVariants as act
use Rattle.machine_laws.specs.{ControllerLaws.RunsRuled, Deeds.{Deed, Does, FrameOffered, Moved}, Disks.{DisksGoOn, calls_at}, Rising.bytes_of}
use Rattle.machine_laws.specs.Rising.{frames_of, risen, sent_by}
use Rattle.machine_theorem.specs.{Identity.{calls_of, picks}, InTurn.{answered_in, answers, is_answer, is_answering, is_register}}
use Rattle.machine_theorem.specs.{OwnSlots.{AllKeepLine, AreOne, KeepsLine, is_of}, Tags.once_if, Waits.taken_in}
use Rattle.machine_theorem.proofs.{Answered.answered_both, EndSent.{kind_view, seen_kind}, EndsFew.sent_of, Fallen.left_there, Risen.if_more}
use Rattle.machine_theorem.proofs.{RisenTold.conn_both, Sent.type_is, SentFises.{offers_none, sender_is}, Within.picks_both}

abbrev pub answers_by : Stamped → Bool
answers_by f = is_answering f.bytes

zero_least : (k : ℕ) → 0 ≤ k
zero_least k = omega arith

-- ---- a Register FIS of a disk is an answer

answering_kind : (f : List ℕ) (r : Result Fis FisFault) → seen f ≡ r → answers r ≡ true → kind_of f ≡ table.D2h
answering_kind f (Ok (view.RegD2H g)) is e = seen_kind f (view.RegD2H g) is
answering_kind f (Ok (view.RegH2D g)) is e = absurd (cc)
answering_kind f (Ok (view.SetBits g)) is e = absurd (cc)
answering_kind f (Ok (view.DmaActivate g)) is e = absurd (cc)
answering_kind f (Ok (view.DmaSetup g)) is e = absurd (cc)
answering_kind f (Ok (view.PioSetup g)) is e = absurd (cc)
answering_kind f (Ok (view.Payload g)) is e = absurd (cc)
answering_kind f (Ok (view.Unknown g)) is e = absurd (cc)
answering_kind f (Err x) is e = absurd (cc)

-- one of another kind is none
other_kind : {C : Type 0} (f g : List ℕ) (v : Fis) → slice_index f 0 ≡ slice_index g 0 → is_answering f ≡ true → seen g ≡ Ok v → (table.D2h ≡ kind_view v → C) → C
other_kind f g v same answers viewed other =
    other (sym (answering_kind f (seen f) refl answers) ∙ ap (λ (t : ℕ). kind_of (t ∷ [])) same ∙ seen_kind g v viewed)

reply_says : (r : Reply) (f g : List ℕ) → Shows r g → slice_index f 0 ≡ slice_index g 0 → is_answering f ≡ true → is_register r ≡ true
reply_says replies.Signature f g shows same is = refl
reply_says replies.Accepted f g shows same is = refl
reply_says replies.Done f g shows same is = refl
reply_says replies.Active f g shows same is = refl
reply_says replies.Healthy f g shows same is = refl
reply_says (replies.Failed x) f g shows same is = refl
reply_says (replies.Ends tags) f g shows same is = other_kind f g (view.SetBits g) same is shows.viewed (λ e. absurd (cc))
reply_says (replies.Aborts error) f g shows same is = other_kind f g (view.SetBits g) same is shows.viewed (λ e. absurd (cc))
reply_says (replies.SetUp s) f g shows same is = other_kind f g (view.DmaSetup g) same is shows.viewed (λ e. absurd (cc))
reply_says (replies.Announce a) f g shows same is = other_kind f g (view.PioSetup g) same is shows.viewed (λ e. absurd (cc))
reply_says replies.Activate f g shows same is = other_kind f g (view.DmaActivate g) same is shows.viewed (λ e. absurd (cc))

pub says : (old : MachineState) (k : ℕ) (o : Out) (new : MachineState) (does : Does old (Moved (act.Speaks k o)) new) → is_answering (risen old.fan k does.does.does.1.frame).bytes ≡ true → is_answer o ≡ true
says old k (out.Own r) new does is = let h = does.does.does.1 in reply_says r (risen old.fan k h.frame).bytes h.frame.bytes h.bytes (type_is old.fan k h.frame) is
says old k (out.Beside r) new does is = let h = does.does.does.1 in reply_says r (risen old.fan k h.frame).bytes h.frame.bytes h.bytes (type_is old.fan k h.frame) is
says old k (out.Of p r) new does is = let h = does.does.does.1 in reply_says r (risen old.fan k h.frame).bytes h.frame.bytes h.bytes (type_is old.fan k h.frame) is
says old k (out.Ends tags) new does is =
    let h = does.does.does.1 in
    absurd (false≢true (reply_says (replies.Ends tags) (risen old.fan k h.frame).bytes h.frame.bytes h.bytes (type_is old.fan k h.frame) is))
says old k (out.Page page) new does is =
    let h = does.does.does.1 in
    other_kind (risen old.fan k h.frame).bytes h.frame.bytes (view.Payload h.frame.bytes) (type_is old.fan k h.frame) is h.bytes.1.1 (λ e. absurd (cc))
says old k (out.Data place len) new does is =
    let h = does.does.does.1 in
    other_kind (risen old.fan k h.frame).bytes h.frame.bytes (view.Payload h.frame.bytes) (type_is old.fan k h.frame) is h.bytes.1 (λ e. absurd (cc))

-- ---- what a disk sends

pub registers_both : (xs ys : List Stamped) → length (picks answers_by (xs ++ ys)) ≡ length (picks answers_by xs) + length (picks answers_by ys)
registers_both xs ys = ap (λ (l : List Stamped). length l) (picks_both answers_by xs ys) ∙ length-append (picks answers_by xs) (picks answers_by ys)

one_if : (b d : Bool) (f : Stamped) → (b ≡ true → d ≡ true) → length (if b then f ∷ [] else []) ≤ once_if d + 0
one_if true true f of = omega arith
one_if true false f of = absurd (false≢true (of refl))
one_if false d f of = zero_least (once_if d + 0)

none_few : (l : List Stamped) (k : ℕ) → l ≡ [] → length (picks answers_by l) ≤ k
none_few l k none = let zero = ap (λ (x : List Stamped). length (picks answers_by x)) none in let least = zero_least k in omega (arith, zero, least)

module _ (many : Bool) (n c dev : ℕ) where
  speaks_few : (old : MachineState) (k : ℕ) (o : Out) (new : MachineState) (does : Does old (Moved (act.Speaks k o)) new) → KeepsLine many n c dev old (Moved (act.Speaks k o)) new does
      → (b : Bool) → is_of n c (risen old.fan k does.does.does.1.frame) ≡ b
      → length (picks answers_by (of_conn n c (risen old.fan k does.does.does.1.frame ∷ []))) ≤ answered_in (if k == n then Sends o ∷ [] else [])
  speaks_few old k o new does keeps true here =
      let h = does.does.does.1 in
      let f : Stamped = risen old.fan k h.frame in
      let same : k ≡ n = sender_is many n old k h.frame keeps.end h.room (and_parts (f.stamp.port == n) (f.stamp.conn == c) here).0 in
      let one : of_conn n c (f ∷ []) ≡ f ∷ [] = ap (λ (b : Bool). if b then f ∷ [] else []) here in
      let calls : (if k == n then Sends o ∷ [] else []) ≡ Sends o ∷ [] = ap (λ (b : Bool). if b then Sends o ∷ [] else []) (eq-eqb k n same) in
      let few = one_if (is_answering f.bytes) (is_answer o) f (says old k o new does) in
      let left = ap (λ (l : List Stamped). length (picks answers_by l)) one in
      let right = ap answered_in calls in
      omega (arith, few, left, right)
  speaks_few old k o new does keeps false here =
      let f : Stamped = risen old.fan k does.does.does.1.frame in
      none_few (of_conn n c (f ∷ [])) (answered_in (if k == n then Sends o ∷ [] else [])) (ap (λ (b : Bool). if b then f ∷ [] else []) here)

  deed_few : (old : MachineState) (deed : Deed) (new : MachineState) (does : Does old deed new) → KeepsLine many n c dev old deed new does → (d : DiskState) → (bay_at old n).unit ≡ Disk d
      → length (picks answers_by (of_conn n c (sent_by old deed new does))) ≤ answered_in (calls_at old deed n)
  deed_few old (Moved (act.Speaks k o)) new does keeps d unit = speaks_few old k o new does keeps (is_of n c (risen old.fan k does.does.does.1.frame)) refl
  deed_few old (Moved a) new does keeps d unit = zero_least (answered_in (calls_at old (Moved a) n))
  deed_few old (FrameOffered k frame told) new does keeps d unit =
      none_few (of_conn n c (sent_by old (FrameOffered k frame told) new does)) 0 (offers_none many n c dev old k frame told new does keeps.end d unit)
  deed_few old deed new does keeps d unit = zero_least (answered_in (calls_at old deed n))

  pub answers_few : DisksGoOn → (deeds : List Deed) (old now : MachineState) (run : RunsRuled old deeds now) → AllKeepLine many n c dev old deeds now run → (d : DiskState)
      → (bay_at old n).unit ≡ Disk d → length (picks answers_by (of_conn n c (sent_of old deeds now run))) ≤ answered_in (calls_of n old deeds now run)
  answers_few goes [] old now run keeps d unit = omega arith
  answers_few goes (deed ∷ later) old now run keeps d unit =
      let mid : MachineState = run.1.0 in
      let calls : List Call = calls_at old deed n in
      let sent : List Stamped = sent_by old deed mid run.1.1 in
      let rest : List Stamped = sent_of mid later now run.1.2 in
      let on = goes old deed mid run.1.1 n d unit (left_there n deed keeps.0.left) in
      let first = deed_few old deed mid run.1.1 keeps.0 d unit in
      let more = answers_few goes later mid now run.1.2 keeps.1 (after_calls d calls) on.is in
      let left = ap (λ (l : List Stamped). length (picks answers_by l)) (conn_both n c sent rest) ∙ registers_both (of_conn n c sent) (of_conn n c rest) in
      let right = answered_both calls (calls_of n mid later now run.1.2) in
      omega (arith, first, more, left, right)

-- ---- what is taken

-- Register FISes of a device, in a list of FISes
abbrev own_in : (dev : ℕ) → List (List ℕ) → ℕ
own_in dev [] = 0
own_in dev (f ∷ later) = once_if ((port_of f == dev) && is_answering f) + own_in dev later

taken_own : (dev : ℕ) (events : List Event) → taken_in dev events ≤ own_in dev (frames_of events)
taken_own dev [] = omega arith
taken_own dev (call.Took frame took ∷ later) = let rest = taken_own dev later in omega (arith, rest)
taken_own dev (call.Left frame why ∷ later) = let rest = taken_own dev later in let least = zero_least (once_if ((port_of frame == dev) && is_answering frame)) in omega (arith, rest, least)
taken_own dev (call.Wrote offset value written ∷ later) = let rest = taken_own dev later in omega (arith, rest)
taken_own dev (call.WroteWide offset width value written ∷ later) = let rest = taken_own dev later in omega (arith, rest)
taken_own dev (call.Supplied slot number bytes supply ∷ later) = let rest = taken_own dev later in omega (arith, rest)
taken_own dev (call.Missed slot number supply ∷ later) = let rest = taken_own dev later in omega (arith, rest)
taken_own dev (call.Turned next ∷ later) = let rest = taken_own dev later in omega (arith, rest)
taken_own dev (call.Said write ∷ later) = let rest = taken_own dev later in omega (arith, rest)
taken_own dev (call.Gathered d number frame fed ∷ later) = let rest = taken_own dev later in omega (arith, rest)
taken_own dev (call.NotThere d number fed ∷ later) = let rest = taken_own dev later in omega (arith, rest)

one_own : (a b : Bool) (f : Stamped) (later : List Stamped) → a ≡ b → once_if (a && answers_by f) + length (picks answers_by later) ≡ length (picks answers_by (if b then f ∷ later else later))
one_own true true f later e = sym (if_more (answers_by f) f (picks answers_by later))
one_own true false f later e = absurd (cc)
one_own false true f later e = absurd (cc)
one_own false false f later e = omega arith

own_is : (n c dev : ℕ) (frames : List Stamped) → AreOne n c dev frames → own_in dev (bytes_of frames) ≡ length (picks answers_by (of_conn n c frames))
own_is n c dev [] one = refl
own_is n c dev (f ∷ later) one =
    let rest = own_is n c dev later one.1 in
    let first = one_own (port_of f.bytes == dev) (is_of n c f) f (of_conn n c later) one.0 in
    omega (arith, rest, first)

-- where what is taken came, and those with the PM Port of the device are those of the connection
pub taken_few : (n c dev : ℕ) (events : List Event) (came : List Stamped) → bytes_of came ≡ frames_of events → AreOne n c dev came → taken_in dev events ≤ length (picks answers_by (of_conn n c came))
taken_few n c dev events came same one =
    let few = taken_own dev events in
    let is = ap (own_in dev) (sym same) in
    let own = own_is n c dev came one in
    omega (arith, few, is, own)
