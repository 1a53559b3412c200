-- Each FIS that comes to the controller behind a multiplier names its port.
use Rattle.std.proofs.Common.{◌≡◌, ℕ, zero, suc, ◌<◌, ◌%◌, ◌==◌, Bool, true, false, not, List, [], ◌∷◌, ◌++◌, min, Option, Some, None, Result, Ok}
use Rattle.std.proofs.{Common.{Err, refl, sym, ap, ◌∙◌, subst, arith, All, Contains}, lemmas.Bool.{false≢true, true≢false}}
use Rattle.std.proofs.lemmas.List.Elements.{All-append, All-cons, All-contains, All-contains_itself, All-nil, All-weaker, Contains-append_left}
use Rattle.std.proofs.lemmas.{List.Elements.{Contains-append_right}, Option.same_Some}
use Rattle.std.specs.Prelude.{if◌then◌else◌, ◌&&◌, ◌||◌, nat_lt, is_none, is_some, slice_index, slice_set, IfSome, MatchOption, MatchResult}
use Rattle.std.specs.Bool.{MatchBool}
use Rattle.fis_view.specs.{Built.{IsBuilt, cut, d2h_given, set_bits_given}, Frames.Stamped, Table.{Bits, D2h, Kind, Name, PmPort, places}}
use Rattle.fis_view.specs.declared.build.D2hFields.{D2hFields}
use Rattle.fis_view.proofs.Door.{frame_bounds, port_bits, port_field}
use Rattle.pm_registers.specs.{RegisterMap.{RegisterMap, read_at}, declared.words.RegisterError.{RegisterError, TheVariants.{NoPort, NoRegister}}}
use Rattle.pm_control.specs.Answers.{IsAnswer, answer_to, answer_to_request, notice_fields, read_answer, signature, write_answer}
use Rattle.pm_control.specs.{Requests.request_in, declared.request.Request.{Request, TheVariants.{EndReset, Read, Unknown, Write}}}
use Rattle.pm_ports.specs.Port as port
use Rattle.pm_ports.specs.declared.port.Offered.{Offered, TheVariants.{Held, Dropped}}
use Rattle.multiplier.specs.{Arbiter.control_port, Between.{Gives, FromPort, Notice, Answer}, Rules.{FromHostRule, NextDownRule, NextUpRule}}
use Rattle.multiplier.specs.{Rules.{ToControl, ToDevice, ToNobody, ToPort, with_device}, State.{PmState, control_stamp, passes_to, pm_port, port_at}}
use Rattle.multiplier.specs.{State.{ready, rising}, declared.multiplier.{Passed.Passed, PmRefusal.PmRefusal}}
use Rattle.multiplier.specs.declared.multiplier.Passed.TheVariants as passed
use Rattle.multiplier.proofs.Door.{gives, served_below}
use Rattle.fan_out.specs.{Calls.{FanCall, Plug, Pull, Send, GiveUp, GiveDown, Offer, Tell, Does as FanDoes, given, given_by}, FanOuts.renewed_end}
use Rattle.fan_out.specs.Fans.{FanState, IsFan, OffersFan, PlugsFan, PullsFan, SendsFan, Through, heeded, held_fan, held_in_reset, is_in_reset}
use Rattle.fan_out.specs.{Fans.{joined, on, parted, rejoined, seat_at}, Seats.{next_connection, seated}, declared.fan_out.FanOut.FanOut}
use Rattle.fan_out.specs.declared.{fan_out.FanOut.TheVariants.{Device, Multiplier}, seat.{NotThere.NotThere, PlugError.PlugError}}
use Rattle.fan_out.specs.declared.seat.PlugError.TheVariants.{NoPort as NoSuchPort}
use Rattle.ahci_machine.specs.{Registers.{link_stays, message_of, renewed as renewed_machine}, States.{MachineState, opening_end}}
use Rattle.machine_laws.proofs.{RisData.{OfPort, in_sent, rising_own}, RisDeeds.{Rising, deed_rises, outer}, RisFan.{FansPass, after_one}}
use Rattle.machine_laws.proofs.{RisFan.{fan_through, no_device}, RisRun.{FansRenew, Laws, crosses, one_deed, powered_gives, sound_now}}
use Rattle.machine_laws.proofs.RisStraight.{straight_all}
use Rattle.machine_laws.specs.{Deeds.{Deed, Does, Wrote, Powered}, Marks.{AnswersMarked, AreMarked, GoesOnMarked, IsMarked, OpensMarked}}
use Rattle.machine_laws.specs.{Marks.PortFramesAreSent, Rising.{Frames, HaveRisen, IsSoundEnd, Sends, came_by, frames_after, is_multiplier, held_at}}
use Rattle.machine_laws.specs.Rising.{is_reset, more_frames, no_frames, sent_by, untaken}

-- ---- FISes of the control port

abbrev Waits : Option Stamped → Type 0
Waits o = IfSome o IsMarked

read_own : (r : Result ℕ RegisterError) → (read_answer r).pm_port ≡ 15
read_own (Ok value) = refl
read_own (Err NoPort) = refl
read_own (Err NoRegister) = refl

write_own : (r : Result ℕ RegisterError) → (write_answer r).pm_port ≡ 15
write_own (Ok value) = refl
write_own (Err NoPort) = refl
write_own (Err NoRegister) = refl

as_given : (g fields : D2hFields) → g.pm_port ≡ 15 → Some g ≡ Some fields → fields.pm_port ≡ 15
as_given g fields own is = sym (ap (λ (x : D2hFields). x.pm_port) (same_Some g fields is)) ∙ own

end_own : (mark : Bool) (fields : D2hFields) → (if mark then Some signature else None) ≡ Some fields → fields.pm_port ≡ 15
end_own true fields is = as_given signature fields refl is
end_own false fields is = absurd (cc)

answer_own : (mark : Bool) (m : RegisterMap) (r : Option Request) (fields : D2hFields) → answer_to_request mark m r ≡ Some fields → fields.pm_port ≡ 15
answer_own mark m (Some (Read at)) fields is = as_given (read_answer (read_at m at.port at.register)) fields (read_own (read_at m at.port at.register)) is
answer_own mark m (Some (Write at value)) fields is = as_given (write_answer (read_at m at.port at.register)) fields (write_own (read_at m at.port at.register)) is
answer_own mark m (Some Unknown) fields is = as_given _ fields refl is
answer_own mark m (Some EndReset) fields is = end_own mark fields is
answer_own mark m other fields is = absurd (cc)

-- what is built with PM Port Fh has it
port_of_built : (kind : Kind) (given : Name → ℕ) (f : List ℕ) → given PmPort ≡ 15 → cut (places kind PmPort) 15 ≡ 15 → IsBuilt kind given f → slice_index f 1 % 16 ≡ 15
port_of_built kind given f own fits built = sym (port_field kind f ∙ port_bits f) ∙ built.fields PmPort ∙ ap (cut (places kind PmPort)) own ∙ fits

d2h_fits : cut (places D2h PmPort) 15 ≡ 15
unfolding cut places
d2h_fits = refl

bits_fits : cut (places Bits PmPort) 15 ≡ 15
unfolding cut places
bits_fits = refl

answer_marked : (old : PmState) (frame : Stamped) (o : Option Stamped) → IsAnswer (answer_to old.resetting old.registers frame.bytes) (control_stamp old) o → Waits o
answer_marked old frame o is = by_fields (answer_to old.resetting old.registers frame.bytes) refl o is
  where
    by_fields : (fields : Option D2hFields) → answer_to old.resetting old.registers frame.bytes ≡ fields → (x : Option Stamped) → IsAnswer fields (control_stamp old) x → Waits x
    by_fields None e None a = tt
    by_fields None e (Some g) a = absurd a
    by_fields (Some fields) e None a = absurd a
    by_fields (Some fields) e (Some g) a = λ framed.
        port_of_built D2h (d2h_given fields) g.bytes (answer_own old.resetting old.registers (request_in frame.bytes) fields e) d2h_fits a.0 ∙ sym (ap (λ s. s.port) a.1)

-- ---- a frame of the host

same_waits : (old new : PmState) → new.answer ≡ old.answer → Waits old.answer → Waits new.answer
same_waits old new same waits = subst Waits (sym same) waits

control_waits : (old new : PmState) (frame : Stamped) (result : Result Passed (Stamped × PmRefusal)) → ToControl old frame result new → Waits old.answer → Waits new.answer
control_waits old new frame (Ok passed.Control) acts waits = answer_marked old frame new.answer acts.1
control_waits old new frame (Err back) acts waits = same_waits old new (ap (λ (m : PmState). m.answer) acts.2) waits
control_waits old new frame _ acts waits = absurd acts

nobody_waits : (old new : PmState) (result : Result Passed (Stamped × PmRefusal)) → ToNobody old result new → Waits old.answer → Waits new.answer
nobody_waits old new (Ok passed.Dropped) acts waits = same_waits old new (ap (λ (m : PmState). m.answer) acts) waits
nobody_waits old new _ acts waits = absurd acts

device_waits : (old new : PmState) (n conn : ℕ) (frame : Stamped) (result : Result Passed (Stamped × PmRefusal)) → ToDevice old n conn frame result new → Waits old.answer → Waits new.answer
device_waits old new n conn frame (Ok (passed.Down m)) acts waits = same_waits old new (ap (λ (m : PmState). m.answer) acts.2) waits
device_waits old new n conn frame (Err back) acts waits = same_waits old new (ap (λ (m : PmState). m.answer) acts.2) waits
device_waits old new n conn frame _ acts waits = absurd acts

host_waits : (old new : PmState) (frame : Stamped) (result : Result Passed (Stamped × PmRefusal)) → FromHostRule old frame result new → Waits old.answer → Waits new.answer
host_waits old new frame result rule waits = by_port (pm_port frame == control_port) rule
  where
    by_conn : (o : Option ℕ) → MatchOption o (ToNobody old result new) (λ conn. ToDevice old (pm_port frame) conn frame result new) → Waits new.answer
    by_conn None acts = nobody_waits old new result acts waits
    by_conn (Some conn) acts = device_waits old new (pm_port frame) conn frame result acts waits

    by_port : (b : Bool) → MatchBool b (ToControl old frame result new) (ToPort old frame result new) → Waits new.answer
    by_port true acts = control_waits old new frame result acts waits
    by_port false acts = by_conn (passes_to old (pm_port frame)) acts

-- ---- calls of a fan

abbrev answer_in : FanState → Option Stamped
answer_in f = f.multiplier.answer

abbrev IsKept : FanState → FanState → Type 0
IsKept f g = answer_in g ≡ answer_in f

same_fan : (f g : FanState) → Multiplier g ≡ Multiplier f → IsKept f g
same_fan f g is = ap answer_at is
  where
    answer_at : FanOut → Option Stamped
    answer_at (Device s) = None
    answer_at (Multiplier k) = answer_in k

plug_keeps : (f g : FanState) (m : ℕ) (result : Result (Unit {0}) PlugError) → PlugsFan f m result g → IsKept f g
plug_keeps f g m (Ok done) h = ap answer_in h.1
plug_keeps f g m (Err why) h = ap answer_in h.1

pull_keeps : (f g : FanState) (m : ℕ) (result : Result (Unit {0}) NotThere) → PullsFan f m result g → IsKept f g
pull_keeps f g m (Ok done) h = ap answer_in h.1
pull_keeps f g m (Err why) h = ap answer_in h.1

join_keeps : (f : FanState) (k conn : ℕ) → IsKept f (joined f k conn)
join_keeps f k conn = by_refusal (is_some (port.came_refusal (port_at f.multiplier k) conn))
  where
    by_refusal : (b : Bool) → IsKept f (if b then f else record { multiplier = with_device f.multiplier k conn; legacy = f.legacy; seats = slice_set f.seats k (seated conn) })
    by_refusal true = refl
    by_refusal false = refl

rejoin_keeps : (f : FanState) (k : ℕ) → IsKept f (rejoined f k)
rejoin_keeps f k = by_test ((seat_at f k).is_there && nat_lt (seat_at f k).last 4294967295)
  where
    by_test : (b : Bool) → IsKept f (if b then joined (parted f k) k (next_connection (seat_at f k)) else f)
    by_test true = join_keeps (parted f k) k (next_connection (seat_at f k))
    by_test false = refl

heed_keeps : (f : FanState) (k : ℕ) → IsKept f (heeded f k)
heed_keeps f k = by_test (is_in_reset f.multiplier k)
  where
    by_test : (b : Bool) → IsKept f (if b then f else rejoined f k)
    by_test true = refl
    by_test false = rejoin_keeps f k

send_waits : (f g : FanState) (frame : Stamped) (result : Result Passed (Stamped × PmRefusal)) → SendsFan f frame result g → Waits (answer_in f) → Waits (answer_in g)
send_waits f g frame result h waits = by_held (held_in_reset f.multiplier frame) h.3
  where
    taken : Waits h.0.answer
    taken = host_waits f.multiplier h.0 frame result h.1 waits

    by_held : (o : Option ℕ) → MatchOption o (g ≡ on f h.0) (λ k. g ≡ heeded (on f h.0) k) → Waits (answer_in g)
    by_held None is = subst Waits (sym (ap answer_in is)) taken
    by_held (Some k) is = subst Waits (sym (ap answer_in is ∙ heed_keeps (on f h.0) k)) taken

offer_keeps : (f g : FanState) (m : ℕ) (frame : Stamped) (result : Result Offered Stamped) → OffersFan f m frame result g → IsKept f g
offer_keeps f g m frame result h = by_there (seat_at f m).is_there (is_none (port_at f.multiplier m).up) h
  where
    by_there : (there room : Bool) → MatchBool there (MatchBool room ((result ≡ Ok Held) × (g ≡ held_fan f m frame)) ((result ≡ Err frame) × (g ≡ f))) ((result ≡ Ok Dropped) × (g ≡ f)) → IsKept f g
    by_there true true d = ap answer_in d.1
    by_there true false d = ap answer_in d.1
    by_there false room d = ap answer_in d.1

down_keeps : (f g : FanState) (m : ℕ) (result : Option Stamped) → NextDownRule f.multiplier m result g.multiplier → IsKept f g
down_keeps f g m (Some frame) h = ap (λ (pm : PmState). pm.answer) h.1
down_keeps f g m None h = ap (λ (pm : PmState). pm.answer) h.1

-- what goes up is marked, and so is what waits then
up_waits : (f g : FanState) (frame : Stamped) → IsFan f → NextUpRule f.multiplier (Ok (Some frame)) g.multiplier → Waits (answer_in f) → IsMarked frame × Waits (answer_in g)
up_waits f g frame is h waits = by_way (gives f.multiplier frame g.multiplier h)
  where
    by_way : Gives f.multiplier frame g.multiplier → IsMarked frame × Waits (answer_in g)
    by_way (FromPort n was at other there stamp rises rest) =
        let below = served_below (ready f.multiplier) f.multiplier.served n is.sound.served at in
        let p : OfPort (rising n was) = rising_own n was (omega (arith, below, other)) in (
          subst IsMarked (sym rises) (λ framed. p.own (let bounds = frame_bounds (rising n was).bytes framed in omega (arith, bounds))),
          subst Waits (sym (ap (λ (pm : PmState). pm.answer) rest)) waits,
        )
    by_way (Notice at due built rest) = (
      λ framed. port_of_built Bits (set_bits_given notice_fields) frame.bytes refl bits_fits built.0 ∙ sym (ap (λ s. s.port) built.1),
      subst Waits (sym (ap (λ (pm : PmState). pm.answer) rest)) waits,
    )
    by_way (Answer at there rest) = (subst Waits there waits, subst Waits (sym (ap (λ (pm : PmState). pm.answer) rest)) tt)

-- the answer that waits then, and what goes up
abbrev Goes : FanState → FanCall → Type 0
Goes g call = Waits (answer_in g) × All IsMarked (given_by call)

kept : (f g : FanState) (call : FanCall) → given_by call ≡ [] → Waits (answer_in f) → IsKept f g → Goes g call
kept f g call none waits same = (subst Waits (sym same) waits, subst (All IsMarked) (sym none) (All-nil IsMarked))

one_goes : (f g : FanState) (call : FanCall) → IsFan f → FanDoes (Multiplier f) call (Multiplier g) → Waits (answer_in f) → Goes g call
one_goes f g (Plug m result) is does waits = kept f g (Plug m result) refl waits (by_port (nat_lt m f.multiplier.registers.ports) does)
  where
    by_port : (b : Bool) → MatchBool b (PlugsFan f m result g) ((result ≡ Err NoSuchPort) × (Multiplier g ≡ Multiplier f)) → IsKept f g
    by_port true d = plug_keeps f g m result d
    by_port false d = same_fan f g d.1
one_goes f g (Pull m result) is does waits = kept f g (Pull m result) refl waits (by_port (nat_lt m f.multiplier.registers.ports) result does)
  where
    by_port : (b : Bool) (r : Result (Unit {0}) NotThere) → MatchBool b (PullsFan f m r g) (MatchResult r (λ _. ⊥) (λ _. Multiplier g ≡ Multiplier f)) → IsKept f g
    by_port true r d = pull_keeps f g m r d
    by_port false (Ok done) d = absurd d
    by_port false (Err why) d = same_fan f g d
one_goes f g (Send frame result) is does waits = (send_waits f g frame result does waits, All-nil IsMarked)
one_goes f g (GiveUp (Ok (Some frame))) is does waits =
    let up = up_waits f g frame is does.0 waits in (up.1, All-cons IsMarked frame [] up.0 (All-nil IsMarked))
one_goes f g (GiveUp (Ok None)) is does waits = kept f g (GiveUp (Ok None)) refl waits (ap (λ (pm : PmState). pm.answer) does.0.1)
one_goes f g (GiveUp (Err why)) is does waits = kept f g (GiveUp (Err why)) refl waits (ap (λ (pm : PmState). pm.answer) does.0.2)
one_goes f g (GiveDown m result) is does waits = kept f g (GiveDown m result) refl waits (by_port (nat_lt m f.multiplier.registers.ports) does)
  where
    by_port : (b : Bool) → MatchBool b (Through (λ was now. NextDownRule was m result now) f g) ((result ≡ None) × (Multiplier g ≡ Multiplier f)) → IsKept f g
    by_port true d = down_keeps f g m result d.0
    by_port false d = same_fan f g d.1
one_goes f g (Offer m frame result held) is does waits = kept f g (Offer m frame result held) refl waits (by_port (nat_lt m f.multiplier.registers.ports) does.0)
  where
    by_port : (b : Bool) → MatchBool b (OffersFan f m frame result g) ((result ≡ Ok Dropped) × (Multiplier g ≡ Multiplier f)) → IsKept f g
    by_port true d = offer_keeps f g m frame result d
    by_port false d = same_fan f g d.1
one_goes f g (Tell None) is does waits = kept f g (Tell None) refl waits (ap answer_in does.1)
one_goes f g (Tell (Some m)) is does waits = kept f g (Tell (Some m)) refl waits (ap answer_in does.1)

calls_go : FansPass → (f g : FanState) (calls : List FanCall) (sent : List Stamped) → IsFan f → Sends (Multiplier f) calls sent (Multiplier g) → Waits (answer_in f) → Waits (answer_in g) × All IsMarked (given calls)
calls_go law f g [] sent is h waits = (subst Waits (sym (same_fan f g h.0)) waits, All-nil IsMarked)
calls_go law f g (call ∷ calls) sent is h waits = by_mid h.0 h.1 h.2.2 (λ k fan rest more. calls_go law k g calls h.2.0 fan rest more)
  where
    by_mid : (mid : FanOut) → FanDoes (Multiplier f) call mid → Sends mid calls h.2.0 (Multiplier g)
        → ((k : FanState) → IsFan k → Sends (Multiplier k) calls h.2.0 (Multiplier g) → Waits (answer_in k) → Waits (answer_in g) × All IsMarked (given calls))
        → Waits (answer_in g) × All IsMarked (given (call ∷ calls))
    by_mid (Multiplier k) first rest next =
        let one = one_goes f k call is first waits in
        let more = next k (after_one law f k call is first) rest one.0 in
        (more.0, All-append IsMarked (given_by call) (given calls) one.1 more.1)
    by_mid (Device s) first rest next = absurd (no_device f s call first)

-- what is behind the controller, and what it gives by these calls
ends_go : FansPass → (e d : FanOut) (calls : List FanCall) (sent : List Stamped) → IsSoundEnd e → Sends e calls sent d → AnswersMarked e → AnswersMarked d × (is_multiplier d ≡ true → All IsMarked (given calls))
ends_go law (Device s) (Device t) calls sent sound h marked = (tt, λ so. absurd (false≢true so))
ends_go law (Device s) (Multiplier g) calls sent sound h marked = absurd (false≢true (crosses (Device s) (Multiplier g) calls sent h))
ends_go law (Multiplier f) (Device t) calls sent sound h marked = absurd (true≢false (crosses (Multiplier f) (Device t) calls sent h))
ends_go law (Multiplier f) (Multiplier g) calls sent sound h marked =
    let go = calls_go law f g calls sent sound h marked in (go.0, λ so. go.1)

-- ---- each deed

all_left : (xs ys : List Stamped) → All IsMarked (xs ++ ys) → All IsMarked xs
all_left xs ys all = All-weaker (λ f. Contains xs f) IsMarked (λ f has. All-contains IsMarked (xs ++ ys) f all (Contains-append_left xs ys f has)) xs (All-contains_itself xs)

all_right : (xs ys : List Stamped) → All IsMarked (xs ++ ys) → All IsMarked ys
all_right xs ys all = All-weaker (λ f. Contains ys f) IsMarked (λ f has. All-contains IsMarked (xs ++ ys) f all (Contains-append_right xs ys f has)) ys (All-contains_itself ys)

goes_on : FansPass → (old new : MachineState) (was : Frames) (came sent : List Stamped) → IsSoundEnd old.fan → AreMarked old was → Rising (outer old) came sent (outer new)
    → AreMarked new (record { sent = was.sent ++ sent; came = was.came ++ came })
goes_on law old new was came sent sound marked step = record {
  answer = go.0;
  came = λ so. All-append IsMarked was.came came (marked.came (back so)) (all_left came (untaken new) (both so));
  coming = λ so. all_right came (untaken new) (both so);
}
  where
    go : AnswersMarked new.fan × (is_multiplier new.fan ≡ true → All IsMarked (given step.calls))
    go = ends_go law old.fan new.fan step.calls sent sound step.sends marked.answer

    back : is_multiplier new.fan ≡ true → is_multiplier old.fan ≡ true
    back so = crosses old.fan new.fan step.calls sent step.sends ∙ so

    both : is_multiplier new.fan ≡ true → All IsMarked (came ++ untaken new)
    both so = subst (All IsMarked) (sym step.gives) (All-append IsMarked (untaken old) (given step.calls) (marked.coming (back so)) (go.1 so))

-- where the link is reset nothing waits
record IsRenewed (old new : MachineState) : Type 0 where
  fan : new.fan ≡ renewed_end old.fan
  none : untaken new ≡ []

wrote_renews : (stays : Bool) (old new : MachineState) (message : Bool) → not stays ≡ true
    → new ≡ (if stays then record old { controller = new.controller; message = message } else renewed_machine (record old { controller = new.controller; message = message })) → IsRenewed old new
wrote_renews true old new message off is = absurd (false≢true off)
wrote_renews false old new message off is = record { fan = ap (λ (m : MachineState). m.fan) is; none = ap untaken is }

renews : (deed : Deed) (old new : MachineState) → Does old deed new → is_reset deed ≡ true → IsRenewed old new
renews (Wrote offset width value written) old new h on = wrote_renews (link_stays written) old new (old.message || message_of written) on h.rest
renews Powered old new h on = record { fan = ap (λ (m : MachineState). m.fan) h; none = ap untaken h ∙ powered_gives old.taken old.incoming }
renews other old new h on = absurd (false≢true on)

renewed_answers : FansRenew → (e : FanOut) → IsSoundEnd e → AnswersMarked (renewed_end e)
renewed_answers law (Device s) sound = tt
renewed_answers law (Multiplier f) sound = subst Waits (sym (law f sound).answer) tt

-- with nothing on its way
begun : (m : MachineState) → AnswersMarked m.fan → untaken m ≡ [] → AreMarked m no_frames
begun m answer none = record { answer = answer; came = λ so. All-nil IsMarked; coming = λ so. subst (All IsMarked) (sym none) (All-nil IsMarked) }

one_marked : Laws → (deed : Deed) (old new : MachineState) (does : Does old deed new) (was : Frames) → HaveRisen old was → AreMarked old was → AreMarked new (frames_after was old deed new does)
one_marked laws deed old new does was h marked = by_reset (is_reset deed) refl
  where
    by_reset : (b : Bool) → is_reset deed ≡ b → AreMarked new (more_frames b was (sent_by old deed new does) (came_by old deed new does))
    by_reset true is =
        let r : IsRenewed old new = renews deed old new does is in
        begun new (subst AnswersMarked (sym r.fan) (renewed_answers laws.1 old.fan (sound_now laws old was h))) r.none
    by_reset false is =
        goes_on laws.0 old new was (came_by old deed new does) (sent_by old deed new does) (sound_now laws old was h) marked (deed_rises deed old new does is h.taken)

-- ---- the laws

pub marked_on : Laws → GoesOnMarked
marked_on laws old [] new run was h marked = subst (λ (m : MachineState). AreMarked m was) (sym run.1) marked
marked_on laws old (deed ∷ later) new run was h marked =
    let mid : MachineState = run.1.0 in
    marked_on laws mid later new run.1.2 (frames_after was old deed mid run.1.1) (one_deed laws deed old mid run.1.1 was h) (one_marked laws deed old mid run.1.1 was h marked)

opens_answers : (count : ℕ) (legacy : Bool) → AnswersMarked (opening_end count legacy)
opens_answers zero legacy = tt
opens_answers (suc count) true = tt
opens_answers (suc count) false = tt

pub marked_first : OpensMarked
marked_first ports legacy m is =
    begun m (subst AnswersMarked (sym (ap (λ (x : MachineState). x.fan) is.rest)) (opens_answers (min ports 15) legacy)) (ap untaken is.rest)

pub ports_sent : FansPass → PortFramesAreSent
ports_sent law m frames h f has low = by_end h.first m.fan h.sound h.none h.sends low
  where
    by_end : (e g : FanOut) → IsSoundEnd e → ((n c : ℕ) → held_at n c e ≡ []) → Sends e h.calls frames.sent g → (is_multiplier g ≡ true → f.stamp.port < 15) → Contains frames.sent f
    by_end (Device s) (Device t) sound none sends below =
        in_sent (Device s) (Device t) (given h.calls) frames.sent frames.came (untaken m) f (straight_all s t h.calls frames.sent sound sends f.stamp.port f.stamp.conn) (none f.stamp.port f.stamp.conn) h.gives has
    by_end (Device s) (Multiplier g) sound none sends below = absurd (false≢true (crosses (Device s) (Multiplier g) h.calls frames.sent sends))
    by_end (Multiplier k) (Device t) sound none sends below = absurd (true≢false (crosses (Multiplier k) (Device t) h.calls frames.sent sends))
    by_end (Multiplier k) (Multiplier g) sound none sends below =
        in_sent (Multiplier k) (Multiplier g) (given h.calls) frames.sent frames.came (untaken m) f
        ((fan_through law k g h.calls frames.sent sound sends).up f.stamp.port f.stamp.conn (below refl)) (none f.stamp.port f.stamp.conn) h.gives has
