-- How many bytes the books of a disk have as sent of the command that is not queued, call by call: those of Data, and no others.
use Rattle.std.proofs.Common.{◌≡◌, ℕ, zero, suc, ◌+◌, Bool, true, false, List, [], ◌∷◌, ◌++◌, append-nil, get_or, set, length, Some, None, refl, sym}
use Rattle.std.proofs.{Common.{ap, subst, ◌∙◌, inl, inr}, lemmas.{Bool.cases_eq, List.{get_or-set_other, length-append}, Option.same_Some}}
use Rattle.std.specs.{Prelude.{Option, ◌&&◌, ◌==◌, if◌then◌else◌}, Option.option_map}
use Rattle.block_command.specs.{declared.command.{Command.Command, Stage.{Stage, TheVariants.{Sending, SetUpRead, SetUpWrite}}}, Laws.AskedFlush}
use Rattle.block_command.specs.Laws.{AskedLoad, AskedStore, CameData, Comes, Flushed, Goes, Happening, Input, Ledger, Loaded, SentActivate, SentData}
use Rattle.block_command.specs.{Laws.{SentSetUp, Stored, blank, entered, given_to, shown, stored_in}, Moments.{Moment, part_of, turn_of}}
use Rattle.block_disk.specs.{Laws.{At, Page, Refused, Reset, Shown, Took, at_page, entered_in, page_entered, shown_at}, Requests.{Books, Seen}}
use Rattle.block_disk.specs.{Requests.{entered_by, is_out, no_books, seen, told}, Table.is_under_way}
use Rattle.block_disk.proofs.Door.{each_is}
use Rattle.block_queue.specs.Deeds as deed
use Rattle.block_queue.specs.{Deeds.{Deed, IsDeed, act_of, after_deed, seen_of}, Line.{Line, command_at}}
use Rattle.block_scheduler.specs.{Schedule.ends_all, Laws.all_deeds}
use Rattle.block_engine.specs.Laws as engine
use Rattle.block_engine.specs.Laws.{Step, all_moves}
use Rattle.disk_pages.specs.declared.profile.Profile.{Profile}
use Rattle.sata_disk.specs.{Sending.{IsOut, out_at}, State.{DiskState, commands, new_disk}}
use Rattle.sata_disk.specs.declared.out.Out.TheVariants as out
use Rattle.sata_disk_books.specs.Books.{books_after, page_in}
use Rattle.sata_disk_laws.specs.{Calls.{Call, IsCall, Sends, after_call, all_steps, steps_of}, Laws.{reached, seen_in}}
use Rattle.sata_disk_books.proofs.Door.{AreDone, Each, IsQuiet, IsQuietCall, OfDeed, OfStep, books_both, call_are, call_quiet, data_stage, deeds_by}
use Rattle.sata_disk_books.proofs.Door.{is_loud_stage, loud_at, moves_deeds, sent_deeds, shown_both, shown_by, shown_from, steps_done, steps_moves}
use Rattle.machine_theorem.proofs.TagKept.{StepNone}

-- the books have so many bytes as sent, if they have a command there
abbrev pub HasSent : Option Page → ℕ → Type 0
HasSent x t = (page : Page) → x ≡ Some page → length page.ledger.sent ≡ t

none_sent : (t : ℕ) → HasSent None t
none_sent t page e = absurd (cc)

-- ---- a ledger

-- it is no Data to the host
abbrev NoData : Happening → Type 0
NoData (SentData part) = ⊥
NoData other = Unit {0}

if_same : (b : Bool) (x y : Ledger) → x.sent ≡ y.sent → (if b then x else y).sent ≡ y.sent
if_same true x y e = e
if_same false x y e = refl

given_same : (l : Ledger) (o : Option ℕ) (bytes : List ℕ) → (given_to l o bytes).sent ≡ l.sent
given_same l None bytes = refl
given_same l (Some n) bytes = if_same (length bytes == n) (record l { given = l.given ++ bytes; wanting = None }) l refl

stored_same : (l : Ledger) (o : Option (List ℕ)) → (stored_in l o).sent ≡ l.sent
stored_same l None = refl
stored_same l (Some bytes) = refl

entered_same : (c : Command) (l : Ledger) (h : Happening) → NoData h → (entered c l h).sent ≡ l.sent
entered_same c l (SentData part) none = absurd none
entered_same c l (Loaded bytes) none = given_same l l.wanting bytes
entered_same c l Stored none = stored_same l l.storing
entered_same c l SentSetUp none = if_same (c.write && c.auto_activate) (record l { active = true }) l refl
entered_same c l (CameData part) none = if_same l.active (record l { came = l.came ++ part; active = false }) l refl
entered_same c l Flushed none = if_same l.flushing (record l { flushed = true }) l refl
entered_same c l (AskedLoad at n) none = refl
entered_same c l (AskedStore at bytes) none = refl
entered_same c l AskedFlush none = refl
entered_same c l SentActivate none = refl
entered_same c l other none = refl

page_same : (x : Option Page) (h : Happening) (t : ℕ) → NoData h → HasSent x t → HasSent (option_map (λ p. page_entered p h) x) t
page_same None h t none was = none_sent t
page_same (Some p) h t none was = λ page e.
    ap (λ (k : Page). length k.ledger.sent) (sym (same_Some (page_entered p h) page e))
    ∙ ap (λ (l : List ℕ). length l) (entered_same p.command p.ledger h none) ∙ was p refl

page_more : (x : Option Page) (part : List ℕ) (t : ℕ) → HasSent x t → HasSent (option_map (λ p. page_entered p (SentData part)) x) (t + length part)
page_more None part t was = none_sent (t + length part)
page_more (Some p) part t was = λ page e.
    ap (λ (k : Page). length k.ledger.sent) (sym (same_Some (page_entered p (SentData part)) page e))
    ∙ length-append p.ledger.sent part ∙ ap (λ (n : ℕ). n + length part) (was p refl)

-- ---- the pages

here_or : (xs : List (Option Page)) (place : ℕ) (x : Option Page) (t : ℕ) → HasSent x t → HasSent (get_or (set xs place x) place None) t
here_or [] place x t now = none_sent t
here_or (y ∷ xs) zero x t now = now
here_or (y ∷ xs) (suc place) x t now = here_or xs place x t now

set_sent : (xs : List (Option Page)) (place : ℕ) (x : Option Page) (t : ℕ) → HasSent (get_or xs 32 None) t → (place ≡ 32 → HasSent x t)
    → HasSent (get_or (set xs place x) 32 None) t
set_sent xs place x t was now = elim (cases_eq 32 place) [
  | inl e ↦ subst (λ (k : ℕ). HasSent (get_or (set xs place x) k None) t) (sym e) (here_or xs place x t (now (sym e)))
  | inr apart ↦ subst (λ (y : Option Page). HasSent y t) (sym (get_or-set_other xs place 32 x None apart)) was
]

-- what is shown is no Data to the host, and no command that is taken
abbrev NoneShown : Shown → Type 0
NoneShown (At place h) = NoData h
NoneShown (Took c) = ⊥
NoneShown other = Unit {0}

at_place : (xs : List (Option Page)) (place : ℕ) (t : ℕ) → HasSent (get_or xs 32 None) t → place ≡ 32 → HasSent (at_page xs place) t
at_place xs place t was e = subst (λ (k : ℕ). HasSent (get_or xs k None) t) (sym e) was

shown_same : (xs : List (Option Page)) (s : Shown) (t : ℕ) → NoneShown s → HasSent (get_or xs 32 None) t → HasSent (get_or (entered_in xs s) 32 None) t
shown_same xs (At place h) t none was =
    set_sent xs place (option_map (λ p. page_entered p h) (at_page xs place)) t was (λ e. page_same (at_page xs place) h t none (at_place xs place t was e))
shown_same xs (Took c) t none was = absurd none
shown_same xs Reset t none was = subst (λ (y : Option Page). HasSent y t) (sym (each_is (Option Page) 33 32 None)) (none_sent t)
shown_same xs other t none was = was

-- ---- a deed

abbrev Never : Command → Type 0
Never c = ⊥

stage_none : (m : Moment) (s : Stage) → is_loud_stage s ≡ false → NoData (shown m (turn_of s))
stage_none m Sending e = absurd (cc)
stage_none m SetUpRead e = absurd (cc)
stage_none m SetUpWrite e = absurd (cc)
stage_none m s e = tt

goes_none : (place : ℕ) (x : Option Moment) → loud_at x Goes ≡ false → NoneShown (shown_at place x Goes)
goes_none place None e = tt
goes_none place (Some m) e = stage_none m m.stage e

comes_none : (place : ℕ) (x : Option Moment) (part : List ℕ) → NoneShown (shown_at place x (Comes part))
comes_none place None part = tt
comes_none place (Some m) part = tt

told_none : (i : Input) → NoData (told i)
told_none Goes = tt
told_none (Comes part) = tt
told_none other = tt

either_sent : (b e : Books) (c : Bool) (t : ℕ) → HasSent (get_or e.pages 32 None) t → HasSent (get_or b.pages 32 None) t
    → HasSent (get_or (if c then e else b).pages 32 None) t
either_sent b e true t now was = now
either_sent b e false t now was = was

deed_same : (l : Line) (b : Books) (d : Deed) (t : ℕ) → OfDeed Never d → IsQuiet l d → HasSent (get_or b.pages 32 None) t
    → HasSent (get_or (entered_by b (seen l.queue (act_of d))).pages 32 None) t
deed_same l b (deed.Takes c) t none quiet was = absurd none
deed_same l b (deed.Starts p) t none quiet was = shown_same b.pages (shown_at p (command_at l p) Goes) t (goes_none p (command_at l p) quiet) was
deed_same l b (deed.Sends p) t none quiet was = shown_same b.pages (shown_at p (command_at l p) Goes) t (goes_none p (command_at l p) quiet) was
deed_same l b (deed.Asks p) t none quiet was = shown_same b.pages (shown_at p (command_at l p) Goes) t (goes_none p (command_at l p) quiet) was
deed_same l b (deed.Hears p part) t none quiet was =
    shown_same b.pages (shown_at p (command_at l p) (Comes part)) t (comes_none p (command_at l p) part) was
deed_same l b (deed.Answers p number i) t none quiet was =
    either_sent b (record { pages = entered_in b.pages (At p (told i)); out = set b.out p 0 }) (is_out b.out p number) t
    (shown_same b.pages (At p (told i)) t (told_none i) was) was
deed_same l b deed.Resets t none quiet was = shown_same b.pages Reset t tt was
deed_same l b deed.Draws t none quiet was = was

deeds_same : (ds : List Deed) (l : Line) (b : Books) (t : ℕ) → Each (OfDeed Never) ds → AreDone l ds → HasSent (get_or b.pages 32 None) t
    → HasSent (get_or (books_after b (seen_of l ds)).pages 32 None) t
unfolding books_after seen_of
deeds_same [] l b t none done was = was
deeds_same (d ∷ later) l b t none done was =
    deeds_same later (after_deed l d) (entered_by b (seen l.queue (act_of d))) t none.1 done.2 (deed_same l b d t none.0 done.1 was)

-- ---- a call

none_each : (ss : List Step) → StepNone ss → Each (OfStep Never) ss
none_each [] none = tt
none_each (engine.Takes c ∷ later) none = absurd none.0
none_each (s ∷ later) none = (tt, none_each later none.1)

abbrev pub Behind : DiskState → Books → Call → ℕ → Type 0
Behind d b x t = HasSent (get_or (books_after b (seen_of (commands d) (deeds_by d x))).pages 32 None) t

pub quiet_sent : (d : DiskState) (b : Books) (x : Call) (t : ℕ) → IsCall d x → IsQuietCall d x → StepNone (steps_of d x) → HasSent (get_or b.pages 32 None) t → Behind d b x t
quiet_sent d b x t may quiet none was =
    deeds_same (deeds_by d x) (commands d) b t
    (moves_deeds Never (all_moves d.engine (steps_of d x)) d.engine.schedule (steps_moves Never (steps_of d x) d.engine (none_each (steps_of d x) none)))
    (steps_done (steps_of d x) d.engine (call_are d x may) (call_quiet d x quiet)) was

-- a command is taken at its place
taken_sent : (b : Books) (k : Command) (going : Bool) → going ≡ false → k.place ≡ 32
    → HasSent (get_or (entered_in b.pages (if going then Refused k else Took k)) 32 None) 0
taken_sent b k true e at = absurd (cc)
taken_sent b k false e at =
    subst (λ (q : ℕ). HasSent (get_or (set b.pages k.place (Some (record { command = k; ledger = blank }))) q None) 0) at
    (here_or b.pages k.place (Some (record { command = k; ledger = blank })) 0
    (λ page e. ap (λ (p : Page). length p.ledger.sent) (sym (same_Some (record { command = k; ledger = blank }) page e))))

takes_deeds : (d : DiskState) (k : Command) → all_deeds d.engine.schedule (all_moves d.engine (engine.Takes k ∷ [])) ≡ deed.Takes k ∷ []
unfolding all_moves all_deeds
takes_deeds d k = refl

takes_books : (l : Line) (b : Books) (k : Command) → is_under_way (command_at l k.place) ≡ false → k.place ≡ 32
    → HasSent (get_or (books_after b (seen_of l (deed.Takes k ∷ []))).pages 32 None) 0
unfolding books_after seen_of
takes_books l b k free at = taken_sent b k (is_under_way (command_at l k.place)) free at

pub takes_sent : (d : DiskState) (b : Books) (x : Call) (k : Command) → steps_of d x ≡ engine.Takes k ∷ [] → is_under_way (command_at (commands d) 32) ≡ false
    → k.place ≡ 32 → Behind d b x 0
takes_sent d b x k steps free at =
    let same : deeds_by d x ≡ deed.Takes k ∷ [] =
    ap (λ (ss : List Step). all_deeds d.engine.schedule (all_moves d.engine ss)) steps ∙ takes_deeds d k in
    subst (λ (ds : List Deed). HasSent (get_or (books_after b (seen_of (commands d) ds)).pages 32 None) 0) (sym same)
    (takes_books (commands d) b k (ap (λ (q : ℕ). is_under_way (command_at (commands d) q)) at ∙ free) at)

-- Data go
data_shown : (b : Books) (x : Option Moment) (d : DiskState) (len t : ℕ) → Some (out.Data 32 len) ≡ out_at d 32 x → HasSent (get_or b.pages 32 None) t
    → HasSent (get_or (entered_in b.pages (shown_at 32 x Goes)) 32 None) (t + len)
data_shown b None d len t e was = absurd (cc)
data_shown b (Some m) d len t e was =
    let s = data_stage d 32 len m.command m.done m.bytes m.sent m.stage e in
    let now : HasSent (option_map (λ p. page_entered p (SentData (part_of m))) (at_page b.pages 32)) (t + length (part_of m)) =
    page_more (at_page b.pages 32) (part_of m) t was in
    let size : len ≡ length (part_of m) =
    s.1 ∙ ap (λ (k : Stage). length (part_of (record { command = m.command; done = m.done; bytes = m.bytes; sent = m.sent; stage = k }))) (sym s.0) in
    subst (λ (k : ℕ). HasSent (get_or (entered_in b.pages (shown_at 32 (Some m) Goes)) 32 None) (t + k)) (sym size)
    (subst (λ (k : Stage). HasSent (get_or (entered_in b.pages (At 32 (shown m (turn_of k)))) 32 None) (t + length (part_of m))) (sym s.0)
    (here_or b.pages 32 (option_map (λ p. page_entered p (SentData (part_of m))) (at_page b.pages 32)) (t + length (part_of m)) now))

sent_books : (l : Line) (b : Books) (c : Bool) (t : ℕ) → HasSent (get_or (entered_by b (seen l.queue (act_of (deed.Sends 32)))).pages 32 None) t
    → HasSent (get_or (books_after b (seen_of l (if c then deed.Sends 32 ∷ deed.Resets ∷ [] else deed.Sends 32 ∷ []))).pages 32 None) t
unfolding books_after seen_of
sent_books l b true t now = shown_same (entered_by b (seen l.queue (act_of (deed.Sends 32)))).pages Reset t tt now
sent_books l b false t now = now

pub data_sent : (d : DiskState) (b : Books) (len t : ℕ) → IsOut d (Some (out.Data 32 len)) → HasSent (get_or b.pages 32 None) t
    → Behind d b (Sends (out.Data 32 len)) (t + len)
data_sent d b len t is was =
    subst (λ (ds : List Deed). HasSent (get_or (books_after b (seen_of (commands d) ds)).pages 32 None) (t + len)) (sym (sent_deeds d.engine 32))
    (sent_books (commands d) b (ends_all (commands d) 32) (t + len) (data_shown b (command_at (commands d) 32) d len t is.3 was))

-- ---- one call more

none_shown : (d : DiskState) → shown_from d [] ≡ []
unfolding seen_of all_deeds all_moves all_steps
none_shown d = refl

one_shown : (d : DiskState) (x : Call) → shown_from d (x ∷ []) ≡ seen_of (commands d) (deeds_by d x)
one_shown d x =
    shown_by d x [] ∙ ap (λ (l : List Seen). seen_of (commands d) (deeds_by d x) ++ l) (none_shown (after_call d x))
    ∙ append-nil (seen_of (commands d) (deeds_by d x))

pub page_then : (p : Profile) (limit : ℕ) (calls : List Call) (x : Call)
    → page_in p limit (calls ++ x ∷ [])
    32 ≡ get_or (books_after (books_after no_books (seen_in p limit calls)) (seen_of (commands (reached p limit calls)) (deeds_by (reached p limit calls) x))).pages 32 None
page_then p limit calls x =
    let d : DiskState = reached p limit calls in
    ap (λ (l : List Seen). get_or (books_after no_books l).pages 32 None)
    (shown_both (new_disk p limit) calls (x ∷ []) ∙ ap (λ (l : List Seen). seen_in p limit calls ++ l) (one_shown d x))
    ∙ ap (λ (b : Books). get_or b.pages 32 None) (books_both (seen_in p limit calls) (seen_of (commands d) (deeds_by d x)) no_books)
