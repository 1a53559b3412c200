-- A run that goes on.
use Rattle.std.proofs.Common.{◌≡◌, ℕ, ◌%◌, true, false, List, [], ◌∷◌, ◌++◌, length, Some, None, refl, sym, ap, ◌∙◌, subst, arith}
use Rattle.std.proofs.lemmas.Bool.{and_from, eq-eqb, le-leb}
use Rattle.std.specs.{Prelude.{Bool, Option, Result, Ok, Err, IfOk, IfSome, OnOk}, Option.option_map, Result.result_err}
use Rattle.fis_view.specs.{Frames.{is_payload, Stamped}, Seen.seen}
use Rattle.block_command.specs.{Moments.Moment, declared.answer.AnswerError.AnswerError}
use Rattle.block_queue.specs.Line.{command_at}
use Rattle.ata_reply.specs.declared.reply.Reply.{Reply}
use Rattle.block_engine.specs.{declared.request.{Answer.Answer, Request.Request}, Engine.{EngineState, IsEngineStart, IsRequested, answer_refusal}}
use Rattle.block_engine.specs.Engine.{answered, started}
use Rattle.sata_disk.specs.{State.{DiskState, commands, new_disk}, Hearing.{MayHear, fis_heard}, Sending.{IsFis, IsOut, is_framed, out_at, out_by}}
use Rattle.sata_disk.specs.{Sending.{part_at, reply_at}, declared.{out.Out.Out, unheard.Unheard.Unheard}}
use Rattle.sata_disk.specs.declared.out.Out.TheVariants as out
use Rattle.sata_disk_laws.specs.{Told.{FisesAreTold, Says}, Calls.{Answers, AreCalls, Asks, Hears, Starts, Call, IsCall, after_call, after_calls}}
use Rattle.sata_disk_laws.specs.{Calls.{asked_by, Sends}, Errors.{AbortedUntilRead, IsWatched, LogTellsOfFailure, watch_in}, Laws.reached}
use Rattle.sata_disk_laws.specs.Once.{AnswersAreSingle, AreDue, Host, IsCallDue, IsChunk, IsHostOf, PartsAreFrames, host_after, host_of, new_host}
use Rattle.sata_disk_laws.proofs.Door.{calls_after, calls_both, engine_asked}
use Rattle.ata_command.specs.declared.asked.LogPage.{LogPage}
use Rattle.ata_front.specs.declared.task.Page.TheVariants as pages
use Rattle.disk_pages.specs.{Logs.log_named, declared.profile.Profile.Profile}
use Rattle.disk_pages.specs.declared.log.LogPage.TheVariants as logs
use Rattle.uses_sata_disk.specs.Reached.{Extends, IsNextOf, IsOutOf, IsReached, TellsOfFailure}

are_more : (calls : List Call) (d : DiskState) (c : Call) → AreCalls d calls → IsCall (after_calls d calls) c → AreCalls d (calls ++ c ∷ [])
are_more calls d c are is = calls_both calls (c ∷ []) d are (is, tt)

after_more : (calls : List Call) (d : DiskState) (c : Call) → after_calls d (calls ++ c ∷ []) ≡ after_call (after_calls d calls) c
unfolding after_calls
after_more calls d c = calls_after calls (c ∷ []) d

pub one_more : (old new : DiskState) (c : Call) → IsCall old c → new ≡ after_call old c → Extends old new c
one_more old new c is e = λ p limit calls r. (
  are_more calls (new_disk p limit) c r.0 (subst (λ d. IsCall d c) r.1 is),
  e ∙ ap (λ d. after_call d c) r.1 ∙ sym (after_more calls (new_disk p limit) c),
)

pub asks_more : (old new : DiskState) (r : Request) → IsRequested old.engine new.engine (Some r) → new ≡ record old { engine = new.engine }
    → Extends old new (Asks r)
asks_more old new r is others =
    let same : new.engine ≡ asked_by old.engine r.place = engine_asked old.engine new.engine r r.place is.1 in
    let P : EngineState → Type 0 = λ e. IsRequested old.engine e (Some r) in
    one_more old new (Asks r) (subst P same is) (others ∙ ap (λ e. record old { engine = e }) same)

-- ## What each call answers

pub hears_more : {B : Type 0} (old new : DiskState) (f : List ℕ) (result : Result (Option Unheard) B) → MayHear old (seen f)
    → OnOk result (new ≡ fis_heard old (seen f)) → OnOk result (Extends old new (Hears f))
hears_more old new f (Ok x) may e = one_more old new (Hears f) may e
hears_more old new f (Err x) may e = tt

pub starts_more : {B : Type 0} (old new : DiskState) (result : Result (Option ℕ) B) → IfOk result (λ x. IsEngineStart old.engine x)
    → IfOk result (λ x. new ≡ record old { engine = started old.engine x }) → IfOk result (λ x. Extends old new (Starts x))
starts_more old new (Ok x) is e = one_more old new (Starts x) is e
starts_more old new (Err x) is e = tt

pub asked_more : (old new : DiskState) (result : Option Request) → IsRequested old.engine new.engine result
    → new ≡ record old { engine = new.engine } → IfSome result (λ r. Extends old new (Asks r))
asked_more old new None is others = tt
asked_more old new (Some r) is others = asks_more old new r is others

pub answers_more : (old new : DiskState) (number : ℕ) (a : Answer) (result : Result Unit AnswerError)
    → result_err result ≡ answer_refusal old.engine number a → OnOk result (new ≡ record old { engine = answered old.engine number a })
    → OnOk result (Extends old new (Answers number a))
answers_more old new number a (Ok x) refusal e = one_more old new (Answers number a) (sym refusal) e
answers_more old new number a (Err x) refusal e = tt

pub told_more : {B : Type 0} (d : DiskState) (o : Out) (result : Result Stamped B) → FisesAreTold → IsOut d (Some o)
    → IfOk result (λ f. IsFis d o f.bytes) → IfOk result (λ f. Says d o f.bytes)
told_more d o (Ok f) told is fis = told d o f.bytes is fis
told_more d o (Err x) told is fis = tt

-- ## What the host has open

due_last : (calls : List Call) (h : Host) (c : Call) → AreDue h (calls ++ c ∷ []) → IsCallDue (host_of h calls) c
unfolding host_of
due_last [] h c are = are.0
due_last (b ∷ later) h c are = due_last later (host_after h b) c are.1

pub out_of : (d : DiskState) (o : Out) → AnswersAreSingle → IsOut d (Some o) → IsOutOf d o
out_of d o single is = λ p limit calls r.
    due_last calls new_host (Sends o) (single p limit (calls ++ Sends o ∷ []) (are_more calls (new_disk p limit) (Sends o) r.0 (subst (λ x. IsOut x (Some o)) r.1 is)))

pub host_here : {d : DiskState} (p : Profile) (limit : ℕ) (calls : List Call) → d ≡ after_calls (new_disk p limit) calls
    → IsHostOf (host_of new_host calls) (reached p limit calls) → IsHostOf (host_of new_host calls) d
host_here p limit calls e is = subst (λ x. IsHostOf (host_of new_host calls) x) (sym e) is

-- ## Data that go

same_data : (p n k : ℕ) → Some (out.Data p n) ≡ Some (out.Data p k) → n ≡ k
same_data p n k e = cc

some_part : (d : DiskState) (p n : ℕ) (m : Moment) (b : Bool) → Some (out.Data p n) ≡ out_by d p m b → n ≡ length (part_at (Some m))
some_part d p n m true e = same_data p n _ e
some_part d p n m false e = absurd (by_reply (reply_at d p m) e)
  where
    by_reply : (x : Option Reply) → Some (out.Data p n) ≡ option_map (λ r. out.Of p r) x → ⊥
    by_reply None e = cc
    by_reply (Some r) e = cc

part_is : (d : DiskState) (p n : ℕ) (x : Option Moment) → Some (out.Data p n) ≡ out_at d p x → n ≡ length (part_at x)
part_is d p n None e = absurd (cc)
part_is d p n (Some m) e = some_part d p n m _ e

chunk_pays : (bytes : List ℕ) → IsChunk (length bytes) → is_payload bytes ≡ true
chunk_pays bytes is =
    let some = is.some in let most = is.most in let whole = is.whole in
    and_from _ _ (and_from _ _ (le-leb 4 (length bytes) (omega (arith, some))) (le-leb (length bytes) 8192 most))
    (eq-eqb (length bytes % 4) 0 (omega (arith, whole)))

pays : (d : DiskState) (place n : ℕ) → PartsAreFrames → IsOut d (Some (out.Data place n))
    → (p : Profile) (limit : ℕ) (calls : List Call) → IsReached p limit calls d → is_payload (part_at (command_at (commands d) place)) ≡ true
pays d place n parts is = λ p limit calls r.
    let P : ℕ → Type 0 = λ k. IsChunk k in
    chunk_pays (part_at (command_at (commands d) place)) (subst P (part_is d place n (command_at (commands d) place) is.3)
    (parts p limit calls place n r.0 (subst (λ x. IsOut x (Some (out.Data place n))) r.1 is)))

-- each FIS that goes next is held by a frame
pub framed : (d : DiskState) (o : Out) → PartsAreFrames → IsOut d (Some o) → (p : Profile) (limit : ℕ) (calls : List Call) → IsReached p limit calls d
    → is_framed d o ≡ true
framed d (out.Data place n) parts is p limit calls r = pays d place n parts is p limit calls r
framed d o parts is p limit calls r = refl

-- ## After an error

pub watched_here : {d : DiskState} (p : Profile) (limit : ℕ) (calls : List Call) → d ≡ after_calls (new_disk p limit) calls
    → IsWatched (host_of new_host calls) (watch_in p limit calls) (reached p limit calls)
    → IsWatched (host_of new_host calls) (watch_in p limit calls) d
watched_here p limit calls e is = subst (λ x. IsWatched (host_of new_host calls) (watch_in p limit calls) x) (sym e) is

pub next_of : (d : DiskState) (o : Option Out) → AbortedUntilRead → IsOut d o → IsNextOf d o
next_of d o law next = λ p limit calls r.
    let is = watched_here p limit calls r.1 (law p limit calls r.0) in
    record { aborted = λ aborts. is.aborted aborts o next; only = λ some. is.only some o next }

pub log_of : {B : Type 0} (d : DiskState) (page : LogPage) (result : Result Stamped B) → LogTellsOfFailure → IsOut d (Some (out.Page (pages.Log page)))
    → log_named page.log page.page ≡ Some logs.NcqError → IfOk result (λ f. IsFis d (out.Page (pages.Log page)) f.bytes)
    → IfOk result (λ f. TellsOfFailure d f.bytes)
log_of d page (Ok f) law next named fis = λ p limit calls r.
    let P : DiskState → Type 0 = λ x. IsOut x (Some (out.Page (pages.Log page))) in
    let Q : DiskState → Type 0 = λ x. IsFis x (out.Page (pages.Log page)) f.bytes in
    (law p limit calls page f.bytes r.0 named (subst P r.1 next) (subst Q r.1 fis)).0
log_of d page (Err x) law next named fis = tt
