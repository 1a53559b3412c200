-- For `ends_tell_the_same`. A FIS that comes up and one that goes down at the same time may be told in either order.
use Rattle.std.proofs.Common.{◌≡◌, ◌==◌, ◌&&◌, eqb, ℕ, Bool, true, false, List, [], ◌∷◌, ◌++◌, Option, Some, None, Ok, Err, Result, drop, length}
use Rattle.std.proofs.{Common.{refl, ap, sym, subst, ◌∙◌, cond, arith}, lemmas.Bool.{true≢false, and_from, eq-eqb, eqb-true, or_from, or_parts}}
use Rattle.std.proofs.lemmas.{Bool.Decides.nat_tests, List.Folds.{find-append, list_any-append}}
use Rattle.std.specs.{Prelude.{not, find, if◌then◌else◌}, List.list_any, Option.option_or}
use Rattle.fis_view.specs.{Table.{Bits, Setup, BufferId, Offset, SActive, Error, field}, declared.view.{Fis.Fis, FisFault.FisFault}}
use Rattle.fis_view.specs.Table as table
use Rattle.fis_view.specs.declared.view.Fis.TheVariants as view
use Rattle.disk_model.specs.{declared.request.{Command.Command, Request.{Request, TheVariants.{Reset, Queue}}}, Requests.request_of, Ledger.Ledger}
use Rattle.disk_model.specs.Ledger.{Moving, Names, activates, answers, asks, ends, goes_on, has_error, is_auto, listens_down, listens_up, mixes}
use Rattle.disk_model.specs.{Ledger.{moves, refuses, sends_data, sets_up, starts_moving, takes_data, with_auto}, Laws.{ActivatesRight, AnswersFirst}}
use Rattle.disk_model.specs.{Laws.{AsksOnce, CarriesNext, CarriesRight, SetsUpRight, ShowsFirst, StartsOne}, Ends.{Fits, FitsData, FitsRequest}}
use Rattle.disk_model.specs.{Ends.{IsAskedFor, IsFree, IsRight, MovesOther, PageAsked, Rests, has}, Between.{after_bytes, alone, but, has_tag}}
use Rattle.disk_model.specs.Between.{is_all, opened, with_bytes}

-- ## Lists

eqb_turned : (a b : ℕ) → eqb a b ≡ false → eqb b a ≡ false
eqb_turned a b e = grind (arith, nat_tests)

not_of : (b : Bool) → b ≡ false → not b ≡ true
not_of true e = cc e
not_of false e = refl

keeps : (q : Command) (b : Bool) (rest : List Command) → b ≡ true → cond b (q ∷ rest) rest ≡ q ∷ rest
keeps q true rest e = refl
keeps q false rest e = cc e

but_push : (tag : ℕ) (cs : List Command) (c : Command) → eqb c.tag tag ≡ false → but tag (cs ++ c ∷ []) ≡ but tag cs ++ c ∷ []
but_push tag [] c other = keeps c (not (eqb c.tag tag)) [] (not_of (eqb c.tag tag) other)
but_push tag (q ∷ cs) c other = push_on tag cs c q (not (eqb q.tag tag)) (but_push tag cs c other)
  where
    push_on : (tag : ℕ) (cs : List Command) (c q : Command) (b : Bool) → but tag (cs ++ c ∷ []) ≡ but tag cs ++ c ∷ [] → cond b (q ∷ but tag (cs ++ c ∷ [])) (but tag (cs ++ c ∷ [])) ≡ cond b (q ∷ but tag cs) (but tag cs) ++ c ∷ []
    push_on tag cs c q true e = ap (λ (xs : List Command). q ∷ xs) e
    push_on tag cs c q false e = e

kept_free : (tag : ℕ) (q : Command) (b : Bool) (rest : List Command) → eqb q.tag tag ≡ false → has_tag tag rest ≡ false → has_tag tag (cond b (q ∷ rest) rest) ≡ false
kept_free tag q true rest other none = or_from _ _ other none
kept_free tag q false rest other none = none

pub but_free : (tag other : ℕ) (cs : List Command) → has_tag tag cs ≡ false → has_tag tag (but other cs) ≡ false
but_free tag other [] none = refl
but_free tag other (q ∷ cs) none =
    let parts = or_parts (q.tag == tag) (has_tag tag cs) none in
    kept_free tag q (not (q.tag == other)) (but other cs) parts.0 (but_free tag other cs parts.1)

-- if a filter by another tag leaves nothing with the tag, nothing had the tag
free_head : (tag other : ℕ) (q : Command) (b : Bool) (rest : List Command) → eqb q.tag other ≡ b → eqb other tag ≡ false → has_tag tag (cond (not b) (q ∷ rest) rest) ≡ false → (eqb q.tag tag ≡ false) × (has_tag tag rest ≡ false)
free_head tag other q true rest is differs none =
    let same : q.tag ≡ other = eqb-true q.tag other is in
    (subst (λ (t : ℕ). eqb t tag ≡ false) (sym same) differs, none)
free_head tag other q false rest is differs none = or_parts (q.tag == tag) (has_tag tag rest) none

pub free_before : (tag other : ℕ) (cs : List Command) → eqb other tag ≡ false → has_tag tag (but other cs) ≡ false → has_tag tag cs ≡ false
free_before tag other [] differs none = refl
free_before tag other (q ∷ cs) differs none =
    let parts = free_head tag other q (eqb q.tag other) (but other cs) refl differs none in
    or_from (q.tag == tag) (has_tag tag cs) parts.0 (free_before tag other cs differs parts.1)

found_head : (p r : Command → Bool) (x q : Command) (b : Bool) (rest : Option Command) → cond b (Some x) rest ≡ Some q → (rest ≡ Some q → r q ≡ false) → r x ≡ false → r q ≡ false
found_head p r x q true rest found more here = let same : x ≡ q = cc found in subst (λ (y : Command). r y ≡ false) same here
found_head p r x q false rest found more here = more found

-- what is found fails a test that nothing passes
pub found_not : (p r : Command → Bool) (cs : List Command) (q : Command) → find p cs ≡ Some q → list_any r cs ≡ false → r q ≡ false
found_not p r [] q found none = cc found
found_not p r (x ∷ cs) q found none =
    let parts = or_parts (r x) (list_any r cs) none in
    found_head p r x q (p x) (find p cs) found (λ later. found_not p r cs q later parts.1) parts.0

pub has_left : (tag : ℕ) (us : List ℕ) → has tag us ≡ false → has tag (drop 1 us) ≡ false
has_left tag [] none = refl
has_left tag (u ∷ us) none = (or_parts (u == tag) (has tag us) none).1

pub has_more : (tag u : ℕ) (us : List ℕ) → has tag us ≡ false → eqb u tag ≡ false → has tag (us ++ u ∷ []) ≡ false
has_more tag u us none other = list_any-append (λ (t : ℕ). t == tag) us (u ∷ []) ∙ or_from _ _ none (or_from _ _ other refl)

-- the parts of that
pub has_parts : (tag u : ℕ) (us : List ℕ) → has tag (us ++ u ∷ []) ≡ false → (has tag us ≡ false) × (eqb u tag ≡ false)
has_parts tag u us none =
    let parts = or_parts (has tag us) (has tag (u ∷ [])) (sym (list_any-append (λ (t : ℕ). t == tag) us (u ∷ [])) ∙ none) in
    (parts.0, (or_parts (u == tag) false parts.1).0)

names_more : (us : List ℕ) (u n : ℕ) → Names us n → Names (us ++ u ∷ []) n
names_more [] u n named = absurd named
names_more (x ∷ us) u n named = named

pub never_empty : {X : Type 0} (xs : List X) (x : X) → xs ++ x ∷ [] ≡ [] → ⊥
never_empty [] x e = cc e
never_empty (y ∷ xs) x e = cc e

-- ## What each FIS leaves, if it fits

if_free : (l : Ledger) (c : Command) (b : Bool) → b ≡ false → (if b then refuses l else opened l c) ≡ opened l c
if_free l c true e = cc e
if_free l c false e = refl

pub opens_free : (l : Ledger) (c : Command) → l.failed ≡ false → has_tag c.tag l.outstanding ≡ false → asks l (Queue c) l.failed ≡ opened l c
opens_free l c failed free = ap (asks l (Queue c)) failed ∙ if_free l c (has_tag c.tag l.outstanding) free

answers_fine : (l : Ledger) (e : ℕ) (b : Bool) → b ≡ false → answers l e b ≡ record l { unanswered = drop 1 l.unanswered }
answers_fine l e true is = cc is
answers_fine l e false is = refl

pub bits_up : (l : Ledger) (f : List ℕ) → has_error f ≡ false → listens_up l (Ok (view.SetBits f)) ≡ record l { unanswered = drop 1 l.unanswered }
bits_up l f fine = answers_fine l (field Bits Error f) (has_error f) fine

if_all : (l : Ledger) (v : Moving) (b : Bool) → (if b then ends l v v.command.write else record l { moving = Some v }) ≡ after_bytes l v b v.command.write
if_all l v true = refl
if_all l v false = refl

pub goes_by : (l : Ledger) (v : Moving) (b write : Bool) → is_all v ≡ b → v.command.write ≡ write → goes_on l v ≡ after_bytes l v b write
goes_by l v b write all is = if_all l v (is_all v) ∙ ap (λ (x : Bool). after_bytes l v x v.command.write) all ∙ ap (after_bytes l v b) is

if_taken : (l : Ledger) (v : Moving) (bytes : List ℕ) (b : Bool) → b ≡ true → (if b then moves l v bytes else l) ≡ moves l v bytes
if_taken l v bytes true e = refl
if_taken l v bytes false e = cc e

-- Data that was asked for goes down
pub data_down : (l : Ledger) (v : Moving) (bytes : List ℕ) (b : Bool) → l.moving ≡ Some v → IsAskedFor v bytes → is_all (with_bytes v bytes) ≡ b → takes_data l l.moving bytes ≡ after_bytes l (with_bytes v bytes) b true
data_down l v bytes b moving asked all =
    let fits : (v.active && (length bytes == v.count)) ≡ true = and_from v.active (length bytes == v.count) asked.asked (eq-eqb (length bytes) v.count asked.long) in
    ap (λ (m : Option Moving). takes_data l m bytes) moving
    ∙ if_taken l v bytes (v.active && (length bytes == v.count)) fits
    ∙ goes_by l (with_bytes v bytes) b true all asked.writes

-- a command that is opened while data moves
pub opened_beside : (l : Ledger) (c : Command) (v : Moving) (b write : Bool) → eqb v.command.tag c.tag ≡ false → after_bytes (opened l c) v b write ≡ opened (after_bytes l v b write) c
opened_beside l c v false write other = refl
opened_beside l c v true true other = ap (λ (xs : List Command). record (ends (opened l c) v true) { outstanding = xs }) (but_push v.command.tag l.outstanding c (eqb_turned v.command.tag c.tag other))
opened_beside l c v true false other = ap (λ (xs : List Command). record (ends (opened l c) v false) { outstanding = xs }) (but_push v.command.tag l.outstanding c (eqb_turned v.command.tag c.tag other))

mixes_none : (l x : Ledger) (cs : List Command) → cs ≡ [] → mixes l x cs ≡ x
mixes_none l x [] e = refl
mixes_none l x (c ∷ cs) e = cc e

pub asks_fits : (l : Ledger) (r : Request) → l.failed ≡ false → FitsRequest l r → asks l r l.failed ≡ alone l r
asks_fits l (Reset on) failed fits = absurd fits
asks_fits l (Queue c) failed fits = opens_free l c failed fits.0.outstanding
asks_fits l other failed fits = ap (asks l other) failed ∙ mixes_none l (alone l other) l.outstanding fits.outstanding

-- ## A FIS that tells nothing

abbrev pub TellsNothing : Result Fis FisFault → Type 0
TellsNothing (Ok (view.RegH2D f)) = Unit {0}
TellsNothing (Ok (view.RegD2H f)) = ⊥
TellsNothing (Ok (view.SetBits f)) = ⊥
TellsNothing (Ok (view.DmaActivate f)) = ⊥
TellsNothing (Ok (view.DmaSetup f)) = ⊥
TellsNothing (Ok (view.PioSetup f)) = ⊥
TellsNothing (Ok (view.Payload f)) = ⊥
TellsNothing (Ok (view.Unknown f)) = Unit {0}
TellsNothing (Err e) = Unit {0}

nothing_right : (l : Ledger) (s : Result Fis FisFault) → TellsNothing s → IsRight l s
nothing_right l (Ok (view.RegH2D f)) none = record { moves = tt; answers = tt; replies = tt; asked = tt; fine = refl }
nothing_right l (Ok (view.Unknown f)) none = record { moves = tt; answers = tt; replies = tt; asked = tt; fine = refl }
nothing_right l (Err e) none = record { moves = tt; answers = tt; replies = tt; asked = tt; fine = refl }
nothing_right l other none = absurd none

nothing_up : (l : Ledger) (s : Result Fis FisFault) → TellsNothing s → listens_up l s ≡ l
nothing_up l (Ok (view.RegH2D f)) none = refl
nothing_up l (Ok (view.Unknown f)) none = refl
nothing_up l (Err e) none = refl
nothing_up l other none = absurd none

-- a disk that rests has nothing to tell
rest_hears : (l : Ledger) (s : Result Fis FisFault) → Rests l → IsRight l s → TellsNothing s
rest_hears l (Ok (view.RegD2H f)) rests r = subst (λ xs. AnswersFirst xs f) rests.awaited r.replies
rest_hears l (Ok (view.SetBits f)) rests r = subst (λ xs. Names xs (field Bits SActive f)) rests.unanswered (r.answers r.fine)
rest_hears l (Ok (view.DmaActivate f)) rests r = subst ActivatesRight rests.moving r.moves
rest_hears l (Ok (view.DmaSetup f)) rests r =
    let first : SetsUpRight l None f = subst (λ v. SetsUpRight l v f) rests.moving r.moves in
    subst (λ (cs : List Command). StartsOne (find (λ c. c.tag == field Setup BufferId f) cs) f) rests.outstanding first
rest_hears l (Ok (view.PioSetup f)) rests r = subst (λ xs. ShowsFirst xs f) rests.awaited r.replies
rest_hears l (Ok (view.Payload f)) rests r = (subst (PageAsked l) rests.moving r.asked) rests.pages
rest_hears l other rests r = tt

-- ## Up and down at the same time

pub record Crosses (l : Ledger) (s t : Result Fis FisFault) : Type 0 where
  pub same : listens_down (listens_up l s) t ≡ listens_up (listens_down l t) s
  pub right : IsRight (listens_down l t) s
  pub fits : Fits (listens_up l s) t

-- ---- a command goes down

-- the same for what a command asks
record CrossesRequest (l : Ledger) (s : Result Fis FisFault) (r : Request) : Type 0 where
  same : asks (listens_up l s) r (listens_up l s).failed ≡ listens_up (asks l r l.failed) s
  right : IsRight (asks l r l.failed) s
  failed : (listens_up l s).failed ≡ false
  fits : FitsRequest (listens_up l s) r

cross_nothing : (l : Ledger) (s : Result Fis FisFault) (r : Request) → TellsNothing s → l.failed ≡ false → FitsRequest l r → CrossesRequest l s r
cross_nothing l s r none failed fits =
    let stays : listens_up l s ≡ l = nothing_up l s none in
    record {
      same = ap (λ (x : Ledger). asks x r x.failed) stays ∙ sym (nothing_up (asks l r l.failed) s none);
      right = nothing_right (asks l r l.failed) s none;
      failed = subst (λ (x : Ledger). x.failed ≡ false) (sym stays) failed;
      fits = subst (λ (x : Ledger). FitsRequest x r) (sym stays) fits;
    }

-- a queued command may be given
abbrev pub IsOpen : Ledger → Command → Type 0
IsOpen l c = (l.failed ≡ false) × IsFree l c.tag × (l.awaited ≡ [])

record CrossesQueue (l : Ledger) (s : Result Fis FisFault) (c : Command) : Type 0 where
  same : opened (listens_up l s) c ≡ listens_up (opened l c) s
  right : IsRight (opened l c) s
  open_yet : IsOpen (listens_up l s) c

-- s leaves this
queue_by : (l : Ledger) (s : Result Fis FisFault) (c : Command) (x : Ledger) → listens_up l s ≡ x → listens_up (opened l c) s ≡ opened x c → IsRight (opened l c) s → IsOpen x c → CrossesQueue l s c
queue_by l s c x before after right can = record {
  same = ap (λ (y : Ledger). opened y c) before ∙ sym after;
  right = right;
  open_yet = subst (λ (y : Ledger). IsOpen y c) (sym before) can;
}

queue_bits : (l : Ledger) (c : Command) (f : List ℕ) → IsOpen l c → IsRight l (Ok (view.SetBits f)) → CrossesQueue l (Ok (view.SetBits f)) c
queue_bits l c f can r = queue_by l (Ok (view.SetBits f)) c (record l { unanswered = drop 1 l.unanswered }) (bits_up l f r.fine) (bits_up (opened l c) f r.fine)
    (record { moves = tt; answers = r.answers; replies = tt; asked = tt; fine = r.fine })
    (can.0, record { outstanding = can.1.outstanding; unanswered = has_left c.tag l.unanswered can.1.unanswered; moving = can.1.moving }, can.2)

-- auto-activate and a new command, whichever comes first
active_opened : (x : Ledger) (v : Option Moving) (c : Command) → activates (opened x c) v ≡ opened (activates x v) c
active_opened x None c = refl
active_opened x (Some v) c = refl

auto_opened : (b : Bool) (x : Ledger) (c : Command) → with_auto b (opened x c) ≡ opened (with_auto b x) c
auto_opened true x c = active_opened x x.moving c
auto_opened false x c = refl

active_open : (x : Ledger) (v : Option Moving) (c : Command) → x.moving ≡ v → IsOpen x c → IsOpen (activates x v) c
active_open x None c moving can = can
active_open x (Some v) c moving can =
    (can.0, record { outstanding = can.1.outstanding; unanswered = can.1.unanswered; moving = subst (MovesOther c.tag) moving can.1.moving }, can.2)

auto_open : (b : Bool) (x : Ledger) (c : Command) → IsOpen x c → IsOpen (with_auto b x) c
auto_open true x c can = active_open x x.moving c refl can
auto_open false x c can = can

-- a DMA Setup leaves this, apart from auto-activate
queue_up : (l : Ledger) (f : List ℕ) (c : Command) (x : Ledger)
    → sets_up l l.moving (field Setup BufferId f) (field Setup Offset f) (field Setup table.Count f) ≡ x
    → sets_up (opened l c) l.moving (field Setup BufferId f) (field Setup Offset f) (field Setup table.Count f) ≡ opened x c
    → IsRight (opened l c) (Ok (view.DmaSetup f)) → IsOpen x c → CrossesQueue l (Ok (view.DmaSetup f)) c
queue_up l f c x before after right can =
    queue_by l (Ok (view.DmaSetup f)) c (with_auto (is_auto f) x) (ap (with_auto (is_auto f)) before)
    (ap (with_auto (is_auto f)) after ∙ auto_opened (is_auto f) x c) right (auto_open (is_auto f) x c can)

-- the tag of a DMA Setup, its offset and its count
queue_setup : (l : Ledger) (c : Command) (f : List ℕ) (v : Option Moving) (o : Option Command) → l.moving ≡ v → find (λ q. q.tag == field Setup BufferId f) l.outstanding ≡ o → IsOpen l c → IsRight l (Ok (view.DmaSetup f)) → CrossesQueue l (Ok (view.DmaSetup f)) c
queue_setup l c f None None moving found can r =
    let first : SetsUpRight l None f = subst (λ v. SetsUpRight l v f) moving r.moves in
    absurd (subst (λ (o : Option Command). StartsOne o f) found first)
queue_setup l c f None (Some q) moving found can r =
    let at = field Setup Offset f in
    let count = field Setup table.Count f in
    let first : SetsUpRight l None f = subst (λ v. SetsUpRight l v f) moving r.moves in
    let starts : StartsOne (Some q) f = subst (λ (o : Option Command). StartsOne o f) found first in
    let again : find (λ q. q.tag == field Setup BufferId f) (l.outstanding ++ c ∷ []) ≡ Some q =
    find-append (λ (q : Command). q.tag == field Setup BufferId f) l.outstanding (c ∷ []) ∙ ap (λ (o : Option Command). option_or o (find (λ (q : Command). q.tag == field Setup BufferId f) (c ∷ []))) found in
    let up : sets_up l l.moving (field Setup BufferId f) at count ≡ starts_moving l at count (Some q) =
    ap (λ (m : Option Moving). sets_up l m (field Setup BufferId f) at count) moving ∙ ap (starts_moving l at count) found in
    let later : sets_up (opened l c) l.moving (field Setup BufferId f) at count ≡ starts_moving (opened l c) at count (Some q) =
    ap (λ (m : Option Moving). sets_up (opened l c) m (field Setup BufferId f) at count) moving ∙ ap (starts_moving (opened l c) at count) again in
    queue_up l f c (starts_moving l at count (Some q)) up later
    (record { moves = subst (λ v. SetsUpRight (opened l c) v f) (sym moving) (subst (λ (o : Option Command). StartsOne o f) (sym again) starts); answers = tt; replies = tt; asked = tt; fine = refl })
    (can.0, record { outstanding = can.1.outstanding; unanswered = can.1.unanswered; moving = found_not (λ (x : Command). x.tag == field Setup BufferId f) (λ (x : Command). x.tag == c.tag) l.outstanding q found can.1.outstanding }, can.2)
queue_setup l c f (Some v) o moving found can r =
    let at = field Setup Offset f in
    let count = field Setup table.Count f in
    let x : Ledger = sets_up l (Some v) (field Setup BufferId f) at count in
    let next : SetsUpRight l (Some v) f = subst (λ v. SetsUpRight l v f) moving r.moves in
    queue_up l f c x (ap (λ (m : Option Moving). sets_up l m (field Setup BufferId f) at count) moving) (ap (λ (m : Option Moving). sets_up (opened l c) m (field Setup BufferId f) at count) moving)
    (record { moves = subst (λ v. SetsUpRight (opened l c) v f) (sym moving) next; answers = tt; replies = tt; asked = tt; fine = refl })
    (can.0, record { outstanding = can.1.outstanding; unanswered = can.1.unanswered; moving = subst (MovesOther c.tag) moving can.1.moving }, can.2)

queue_activate : (l : Ledger) (c : Command) (f : List ℕ) (v : Option Moving) → l.moving ≡ v → IsOpen l c → IsRight l (Ok (view.DmaActivate f)) → CrossesQueue l (Ok (view.DmaActivate f)) c
queue_activate l c f None moving can r = absurd (subst ActivatesRight moving r.moves)
queue_activate l c f (Some v) moving can r = queue_by l (Ok (view.DmaActivate f)) c (activates l (Some v)) (ap (activates l) moving) (ap (activates (opened l c)) moving)
    (record { moves = r.moves; answers = tt; replies = tt; asked = tt; fine = refl })
    (can.0, record { outstanding = can.1.outstanding; unanswered = can.1.unanswered; moving = subst (MovesOther c.tag) moving can.1.moving }, can.2)

-- a free tag stays free when data of another tag moves
pub open_beside : (l : Ledger) (c : Command) (v : Moving) (b write : Bool) → IsOpen l c → eqb v.command.tag c.tag ≡ false → IsOpen (after_bytes l v b write) c
open_beside l c v false write can other = (can.0, record { outstanding = can.1.outstanding; unanswered = can.1.unanswered; moving = other }, can.2)
open_beside l c v true true can other = (can.0, record { outstanding = but_free c.tag v.command.tag l.outstanding can.1.outstanding; unanswered = has_more c.tag v.command.tag l.unanswered can.1.unanswered other; moving = tt }, can.2)
open_beside l c v true false can other = (can.0, record { outstanding = but_free c.tag v.command.tag l.outstanding can.1.outstanding; unanswered = has_more c.tag v.command.tag l.unanswered can.1.unanswered other; moving = tt }, can.2)

queue_data : (l : Ledger) (c : Command) (f : List ℕ) (v : Option Moving) → l.moving ≡ v → IsOpen l c → IsRight l (Ok (view.Payload f)) → CrossesQueue l (Ok (view.Payload f)) c
queue_data l c f None moving can r = queue_by l (Ok (view.Payload f)) c (record l { pages = drop 1 l.pages }) (ap (λ (m : Option Moving). sends_data l m (drop 4 f)) moving) (ap (λ (m : Option Moving). sends_data (opened l c) m (drop 4 f)) moving)
    (record { moves = r.moves; answers = tt; replies = tt; asked = subst (PageAsked (opened l c)) (sym moving) (subst (PageAsked l) moving r.asked); fine = refl })
    (can.0, record { outstanding = can.1.outstanding; unanswered = can.1.unanswered; moving = can.1.moving }, can.2)
queue_data l c f (Some v) moving can r =
    let w : Moving = with_bytes v (drop 4 f) in
    let carries : CarriesNext v (drop 4 f) = subst (λ m. CarriesRight m (drop 4 f)) moving r.moves in
    let other : eqb v.command.tag c.tag ≡ false = subst (MovesOther c.tag) moving can.1.moving in
    let up : listens_up l (Ok (view.Payload f)) ≡ after_bytes l w (is_all w) false =
    ap (λ (m : Option Moving). sends_data l m (drop 4 f)) moving ∙ goes_by l w (is_all w) false refl carries.reads in
    let later : listens_up (opened l c) (Ok (view.Payload f)) ≡ after_bytes (opened l c) w (is_all w) false =
    ap (λ (m : Option Moving). sends_data (opened l c) m (drop 4 f)) moving ∙ goes_by (opened l c) w (is_all w) false refl carries.reads in
    queue_by l (Ok (view.Payload f)) c (after_bytes l w (is_all w) false) up (later ∙ opened_beside l c w (is_all w) false other)
    (record { moves = r.moves; answers = tt; replies = tt; asked = subst (PageAsked (opened l c)) (sym moving) tt; fine = refl })
    (open_beside l c w (is_all w) false can other)

queue_nothing : (l : Ledger) (c : Command) (s : Result Fis FisFault) → TellsNothing s → IsOpen l c → CrossesQueue l s c
queue_nothing l c s none can = queue_by l s c l (nothing_up l s none) (nothing_up (opened l c) s none) (nothing_right (opened l c) s none) can

cross_queue : (l : Ledger) (c : Command) (s : Result Fis FisFault) → IsOpen l c → IsRight l s → CrossesQueue l s c
cross_queue l c (Ok (view.RegD2H f)) can r = absurd (subst (λ xs. AnswersFirst xs f) can.2 r.replies)
cross_queue l c (Ok (view.SetBits f)) can r = queue_bits l c f can r
cross_queue l c (Ok (view.DmaActivate f)) can r = queue_activate l c f l.moving refl can r
cross_queue l c (Ok (view.DmaSetup f)) can r = queue_setup l c f l.moving (find (λ q. q.tag == field Setup BufferId f) l.outstanding) refl refl can r
cross_queue l c (Ok (view.PioSetup f)) can r = absurd (subst (λ xs. ShowsFirst xs f) can.2 r.replies)
cross_queue l c (Ok (view.Payload f)) can r = queue_data l c f l.moving refl can r
cross_queue l c other can r = queue_nothing l c other tt can

cross_request : (l : Ledger) (s : Result Fis FisFault) (r : Request) → l.failed ≡ false → FitsRequest l r → IsRight l s → CrossesRequest l s r
cross_request l s (Reset on) failed fits right = absurd fits
cross_request l s (Queue c) failed fits right =
    let q : CrossesQueue l s c = cross_queue l c s (failed, fits.0, fits.1) right in
    let now : asks l (Queue c) l.failed ≡ opened l c = opens_free l c failed fits.0.outstanding in
    record {
      same = opens_free (listens_up l s) c q.open_yet.0 q.open_yet.1.outstanding ∙ q.same ∙ ap (λ (x : Ledger). listens_up x s) (sym now);
      right = subst (λ (x : Ledger). IsRight x s) (sym now) q.right;
      failed = q.open_yet.0;
      fits = (q.open_yet.1, q.open_yet.2);
    }
cross_request l s other failed fits right = cross_nothing l s other (rest_hears l s fits right) failed fits

-- ---- Data goes down

record CrossesData (l : Ledger) (s : Result Fis FisFault) (v w : Moving) (b : Bool) : Type 0 where
  same : after_bytes (listens_up l s) w b true ≡ listens_up (after_bytes l w b true) s
  right : IsRight (after_bytes l w b true) s
  moving : (listens_up l s).moving ≡ Some v

bits_same : (l : Ledger) (w : Moving) (b : Bool) (u : ℕ) (us : List ℕ) → l.unanswered ≡ u ∷ us → after_bytes (record l { unanswered = drop 1 l.unanswered }) w b true ≡ record (after_bytes l w b true) { unanswered = drop 1 (after_bytes l w b true).unanswered }
bits_same l w false u us is = refl
bits_same l w true u us is =
    let moved : drop 1 l.unanswered ++ w.command.tag ∷ [] ≡ drop 1 (l.unanswered ++ w.command.tag ∷ []) = rw is refl in
    ap (λ (xs : List ℕ). record (ends l w true) { unanswered = xs }) moved

bits_named : (l : Ledger) (w : Moving) (b : Bool) (n : ℕ) → Names l.unanswered n → Names (after_bytes l w b true).unanswered n
bits_named l w false n named = named
bits_named l w true n named = names_more l.unanswered w.command.tag n named

data_bits : (l : Ledger) (f : List ℕ) (v w : Moving) (b : Bool) (us : List ℕ) → l.unanswered ≡ us → l.moving ≡ Some v → IsRight l (Ok (view.SetBits f)) → CrossesData l (Ok (view.SetBits f)) v w b
data_bits l f v w b [] is moving r = absurd (subst (λ xs. Names xs (field Bits SActive f)) is (r.answers r.fine))
data_bits l f v w b (u ∷ us) is moving r =
    let up : listens_up l (Ok (view.SetBits f)) ≡ record l { unanswered = drop 1 l.unanswered } = bits_up l f r.fine in
    record {
      same = ap (λ (x : Ledger). after_bytes x w b true) up ∙ bits_same l w b u us is ∙ sym (bits_up (after_bytes l w b true) f r.fine);
      right = record { moves = tt; answers = λ fine. bits_named l w b (field Bits SActive f) (r.answers fine); replies = tt; asked = tt; fine = r.fine };
      moving = subst (λ (x : Ledger). x.moving ≡ Some v) (sym up) moving;
    }

data_register : (l : Ledger) (f : List ℕ) (v w : Moving) (b : Bool) → l.moving ≡ Some v → IsRight l (Ok (view.RegD2H f)) → CrossesData l (Ok (view.RegD2H f)) v w b
data_register l f v w true moving r = record { same = refl; right = record { moves = tt; answers = tt; replies = r.replies; asked = tt; fine = refl }; moving = moving }
data_register l f v w false moving r = record { same = refl; right = record { moves = tt; answers = tt; replies = r.replies; asked = tt; fine = refl }; moving = moving }

data_pio : (l : Ledger) (f : List ℕ) (v w : Moving) (b : Bool) → l.moving ≡ Some v → IsRight l (Ok (view.PioSetup f)) → CrossesData l (Ok (view.PioSetup f)) v w b
data_pio l f v w true moving r = record { same = refl; right = record { moves = tt; answers = tt; replies = r.replies; asked = tt; fine = refl }; moving = moving }
data_pio l f v w false moving r = record { same = refl; right = record { moves = tt; answers = tt; replies = r.replies; asked = tt; fine = refl }; moving = moving }

data_nothing : (l : Ledger) (s : Result Fis FisFault) (v w : Moving) (b : Bool) → TellsNothing s → l.moving ≡ Some v → CrossesData l s v w b
data_nothing l s v w b none moving = record {
  same = ap (λ (x : Ledger). after_bytes x w b true) (nothing_up l s none) ∙ sym (nothing_up (after_bytes l w b true) s none);
  right = nothing_right (after_bytes l w b true) s none;
  moving = subst (λ (x : Ledger). x.moving ≡ Some v) (sym (nothing_up l s none)) moving;
}

cross_data : (l : Ledger) (s : Result Fis FisFault) (v w : Moving) (b : Bool) → l.moving ≡ Some v → v.active ≡ true → v.command.write ≡ true → IsRight l s → CrossesData l s v w b
cross_data l (Ok (view.RegD2H f)) v w b moving active writes r = data_register l f v w b moving r
cross_data l (Ok (view.SetBits f)) v w b moving active writes r = data_bits l f v w b l.unanswered refl moving r
cross_data l (Ok (view.DmaActivate f)) v w b moving active writes r =
    let asks : AsksOnce v = subst ActivatesRight moving r.moves in
    absurd (true≢false (sym active ∙ asks.once))
cross_data l (Ok (view.DmaSetup f)) v w b moving active writes r =
    let next : SetsUpRight l (Some v) f = subst (λ m. SetsUpRight l m f) moving r.moves in
    absurd (true≢false (sym active ∙ next.0))
cross_data l (Ok (view.PioSetup f)) v w b moving active writes r = data_pio l f v w b moving r
cross_data l (Ok (view.Payload f)) v w b moving active writes r =
    let carries : CarriesNext v (drop 4 f) = subst (λ m. CarriesRight m (drop 4 f)) moving r.moves in
    absurd (true≢false (sym writes ∙ carries.reads))
cross_data l other v w b moving active writes r = data_nothing l other v w b tt moving

cross_payload : (l : Ledger) (s : Result Fis FisFault) (g : List ℕ) (v : Option Moving) → l.moving ≡ v → FitsData v (drop 4 g) → IsRight l s → Crosses l s (Ok (view.Payload g))
cross_payload l s g None moving fits r = absurd fits
cross_payload l s g (Some v) moving fits r =
    let w : Moving = with_bytes v (drop 4 g) in
    let d : CrossesData l s v w (is_all w) = cross_data l s v w (is_all w) moving fits.asked fits.writes r in
    let now : takes_data l l.moving (drop 4 g) ≡ after_bytes l w (is_all w) true = data_down l v (drop 4 g) (is_all w) moving fits refl in
    record {
      same = data_down (listens_up l s) v (drop 4 g) (is_all w) d.moving fits refl ∙ d.same ∙ ap (λ (x : Ledger). listens_up x s) (sym now);
      right = subst (λ (x : Ledger). IsRight x s) (sym now) d.right;
      fits = subst (λ m. FitsData m (drop 4 g)) (sym d.moving) fits;
    }

-- ---- either

pub cross : (l : Ledger) (s t : Result Fis FisFault) → IsRight l s → Fits l t → Crosses l s t
cross l s (Ok (view.RegH2D g)) r fits =
    let c : CrossesRequest l s (request_of g) = cross_request l s (request_of g) fits.0 fits.1 r in
    record { same = c.same; right = c.right; fits = (c.failed, c.fits) }
cross l s (Ok (view.Payload g)) r fits = cross_payload l s g l.moving refl fits r
cross l s other r fits = absurd fits
