-- For `ends_tell_the_same`. What each FIS that is right or fits leaves of the commands that ended and of the writes.
use Rattle.std.proofs.Common.{◌≡◌, ◌==◌, eqb, ℕ, ◌*◌, Bool, true, false, List, [], ◌∷◌, ◌++◌, append_assoc, Option, Some, None, Ok, Result, drop}
use Rattle.std.proofs.{Common.{refl, ap, sym, subst, ◌∙◌, cond}, lemmas.Bool.{eq-eqb, eqb-true, or_from, or_left, or_parts, or_right, true≢false}}
use Rattle.std.proofs.lemmas.List.{append-nil, Elements.{All-append, All-cons, All-nil, All-weaker}, Folds.{list_any-append}}
use Rattle.std.specs.Prelude.{All, find, not}
use Rattle.fis_view.specs.{Table.{Setup, BufferId, Offset, field}, Seen.seen, declared.view.{Fis.Fis, FisFault.FisFault}}
use Rattle.fis_view.specs.Table as table
use Rattle.fis_view.specs.declared.view.Fis.TheVariants as view
use Rattle.disk_model.specs.{declared.request.{Command.Command, Request.{Request, TheVariants.{Reset, Queue}}}, Histories.{Received, Sent}}
use Rattle.disk_model.specs.{Requests.request_of, Ledger.{Ledger, Moving, Written, activates, answered, ends, is_auto, listens, listens_down}}
use Rattle.disk_model.specs.{Ledger.{listens_up, sends_data, sets_up, starts_moving, with_auto}, Laws.{ActivatesRight, CarriesNext, CarriesRight}}
use Rattle.disk_model.specs.{Laws.{SetsUpRight, StartsOne}, Ends.{AnswersNext, AreEntered, AreRight, Fits, FitsData, FitsRequest, IsBits, IsFree}}
use Rattle.disk_model.specs.{Ends.{IsRight, MovesOther, Rests, has, with_down, with_up}, Between.{AreApart, AreFit, UpLeaves, after_bytes, alone}}
use Rattle.disk_model.specs.Between.{but, has_tag, is_all, opened, with_bytes}
use Rattle.disk_model.proofs.both_ends.CrossLemmas.{asks_fits, bits_up, but_free, data_down, found_not, goes_by, has_left, has_more}

-- ## Tags

gone_head : (tag : ℕ) (q : Command) (b : Bool) (rest : List Command) → eqb q.tag tag ≡ b → has_tag tag rest ≡ false → has_tag tag (cond (not b) (q ∷ rest) rest) ≡ false
gone_head tag q true rest is none = none
gone_head tag q false rest is none = or_from (q.tag == tag) (has_tag tag rest) is none

but_gone : (tag : ℕ) (cs : List Command) → has_tag tag (but tag cs) ≡ false
but_gone tag [] = refl
but_gone tag (q ∷ cs) = gone_head tag q (eqb q.tag tag) (but tag cs) refl (but_gone tag cs)

has_end : (tag : ℕ) (us : List ℕ) → has tag (us ++ tag ∷ []) ≡ true
has_end tag us = list_any-append (λ (t : ℕ). t == tag) us (tag ∷ []) ∙ or_right (has tag us) (has tag (tag ∷ [])) (or_left (tag == tag) false (eq-eqb tag tag refl))

has_kept : (tag u : ℕ) (us : List ℕ) → has tag us ≡ true → has tag (us ++ u ∷ []) ≡ true
has_kept tag u us here = list_any-append (λ (t : ℕ). t == tag) us (u ∷ []) ∙ or_left (has tag us) (has tag (u ∷ [])) here

eqb_turned : (a b : ℕ) (x : Bool) → eqb b a ≡ x → eqb a b ≡ false → eqb b a ≡ false
eqb_turned a b true is other = absurd (true≢false (sym (eq-eqb a b (sym (eqb-true b a is))) ∙ other))
eqb_turned a b false is other = is

-- a tag that is among these differs from one that is not
differs : (tag t : ℕ) (us : List ℕ) (b : Bool) → eqb t tag ≡ b → has t us ≡ true → has tag us ≡ false → eqb t tag ≡ false
differs tag t us true is here none =
    let same : t ≡ tag = eqb-true t tag is in
    absurd (true≢false (sym here ∙ subst (λ (x : ℕ). has x us ≡ false) (sym same) none))
differs tag t us false is here none = is

-- ## Commands that ended and were not answered

-- a tag without an outstanding command has none afterwards
abbrev Less : Ledger → Ledger → Type 0
Less l x = (tag : ℕ) → has_tag tag l.outstanding ≡ false → MovesOther tag l.moving → (has_tag tag x.outstanding ≡ false) × MovesOther tag x.moving

apart_by : (l x : Ledger) (us : List ℕ) → Less l x → AreApart l us → AreApart x us
apart_by l x [] less a = tt
apart_by l x (u ∷ us) less a =
    let p = less u a.1 a.2 in
    (a.0, p.0, p.1, apart_by l x us less a.3)

apart_left : (l : Ledger) (us : List ℕ) → AreApart l us → AreApart l (drop 1 us)
apart_left l [] a = tt
apart_left l (u ∷ us) a = a.3

-- the command whose data moved ended
apart_end : (l x : Ledger) (v : Moving) (us : List ℕ) → l.moving ≡ Some v → Less l x → has_tag v.command.tag x.outstanding ≡ false → MovesOther v.command.tag x.moving → AreApart l us → AreApart x (us ++ v.command.tag ∷ [])
apart_end l x v [] moving less gone other a = (refl, gone, other, tt)
apart_end l x v (u ∷ us) moving less gone other a =
    let not_it : eqb v.command.tag u ≡ false = subst (MovesOther u) moving a.2 in
    let p = less u a.1 a.2 in
    (has_more u v.command.tag us a.0 not_it, p.0, p.1, apart_end l x v us moving less gone other a.3)

apart_opened : (l : Ledger) (c : Command) (us : List ℕ) → has c.tag us ≡ false → AreApart l us → AreApart (opened l c) us
apart_opened l c [] free a = tt
apart_opened l c (u ∷ us) free a =
    let parts = or_parts (u == c.tag) (has c.tag us) free in
    let not_it : eqb c.tag u ≡ false = eqb_turned u c.tag (eqb c.tag u) refl parts.0 in
    (a.0, list_any-append (λ (q : Command). q.tag == u) l.outstanding (c ∷ []) ∙ or_from _ _ a.1 (or_from _ _ not_it refl), a.2, apart_opened l c us parts.1 a.3)

-- ## A FIS that comes up

up_by : (l x : Ledger) (s : Result Fis FisFault) → listens_up l s ≡ x → x.writes ≡ l.writes → x.unanswered ≡ l.unanswered → Less l x → UpLeaves l s
up_by l x s is writes same less = record {
  after = x;
  is = is;
  writes = writes;
  apart = λ a. subst (AreApart x) (sym same) (apart_by l x l.unanswered less a);
  free = λ tag f.
      let p = less tag f.outstanding f.moving in
      record { outstanding = p.0; unanswered = subst (λ (us : List ℕ). has tag us ≡ false) (sym same) f.unanswered; moving = p.1 };
}

up_bits : (l : Ledger) (f : List ℕ) → IsRight l (Ok (view.SetBits f)) → UpLeaves l (Ok (view.SetBits f))
up_bits l f r =
    let x : Ledger = record l { unanswered = drop 1 l.unanswered } in
    record {
      after = record l { unanswered = drop 1 l.unanswered };
      is = bits_up l f r.fine;
      writes = refl;
      apart = λ a. apart_by l x (drop 1 l.unanswered) (λ tag o m. (o, m)) (apart_left l l.unanswered a);
      free = λ tag f. record { outstanding = f.outstanding; unanswered = has_left tag l.unanswered f.unanswered; moving = f.moving };
    }

up_activate : (l : Ledger) (f : List ℕ) (v : Option Moving) → l.moving ≡ v → IsRight l (Ok (view.DmaActivate f)) → UpLeaves l (Ok (view.DmaActivate f))
up_activate l f None moving r = absurd (subst ActivatesRight moving r.moves)
up_activate l f (Some v) moving r = up_by l (activates l (Some v)) (Ok (view.DmaActivate f)) (ap (activates l) moving) refl refl (λ tag o m. (o, subst (MovesOther tag) moving m))

active_same : (x : Ledger) (v : Option Moving)
    → ((activates x v).writes ≡ x.writes) × ((activates x v).unanswered ≡ x.unanswered) × ((activates x v).outstanding ≡ x.outstanding)
active_same x None = (refl, refl, refl)
active_same x (Some v) = (refl, refl, refl)

active_other : (x : Ledger) (v : Option Moving) (tag : ℕ) → x.moving ≡ v → MovesOther tag x.moving → MovesOther tag (activates x v).moving
active_other x None tag is m = m
active_other x (Some v) tag is m = subst (MovesOther tag) is m

-- a DMA Setup leaves this, apart from auto-activate
up_auto : (b : Bool) (l x : Ledger) (f : List ℕ) → is_auto f ≡ b
    → sets_up l l.moving (field Setup BufferId f) (field Setup Offset f) (field Setup table.Count f) ≡ x → x.writes ≡ l.writes
    → x.unanswered ≡ l.unanswered → Less l x → UpLeaves l (Ok (view.DmaSetup f))
up_auto true l x f auto up writes same less =
    let kept = active_same x x.moving in
    up_by l (activates x x.moving) (Ok (view.DmaSetup f)) (ap (λ (t : Bool). with_auto t (sets_up l l.moving (field Setup BufferId f) (field Setup Offset f) (field Setup table.Count f))) auto ∙ ap (with_auto true) up)
    (kept.0 ∙ writes) (kept.1 ∙ same)
    (λ tag o m. (subst (λ (cs : List Command). has_tag tag cs ≡ false) (sym kept.2) (less tag o m).0, active_other x x.moving tag refl (less tag o m).1))
up_auto false l x f auto up writes same less =
    up_by l x (Ok (view.DmaSetup f)) (ap (λ (t : Bool). with_auto t (sets_up l l.moving (field Setup BufferId f) (field Setup Offset f) (field Setup table.Count f))) auto ∙ up) writes same less

up_setup : (l : Ledger) (f : List ℕ) (v : Option Moving) (o : Option Command) → l.moving ≡ v → find (λ q. q.tag == field Setup BufferId f) l.outstanding ≡ o → IsRight l (Ok (view.DmaSetup f)) → UpLeaves l (Ok (view.DmaSetup f))
up_setup l f None None moving found r =
    let first : SetsUpRight l None f = subst (λ v. SetsUpRight l v f) moving r.moves in
    absurd (subst (λ (o : Option Command). StartsOne o f) found first)
up_setup l f None (Some q) moving found r =
    let at = field Setup Offset f in
    let count = field Setup table.Count f in
    let up : sets_up l l.moving (field Setup BufferId f) at count ≡ starts_moving l at count (Some q) =
    ap (λ (m : Option Moving). sets_up l m (field Setup BufferId f) at count) moving ∙ ap (starts_moving l at count) found in
    up_auto (is_auto f) l (starts_moving l at count (Some q)) f refl up refl refl
    (λ tag o m. (o, found_not (λ (x : Command). x.tag == field Setup BufferId f) (λ (x : Command). x.tag == tag) l.outstanding q found o))
up_setup l f (Some v) o moving found r =
    let at = field Setup Offset f in
    let count = field Setup table.Count f in
    up_auto (is_auto f) l (sets_up l (Some v) (field Setup BufferId f) at count) f refl (ap (λ (m : Option Moving). sets_up l m (field Setup BufferId f) at count) moving) refl refl
    (λ tag o m. (o, subst (MovesOther tag) moving m))

up_read : (l : Ledger) (s : Result Fis FisFault) (v : Moving) (w : Moving) (b : Bool) → l.moving ≡ Some v → w.command ≡ v.command → listens_up l s ≡ after_bytes l w b false → UpLeaves l s
up_read l s v w false moving same is = up_by l (after_bytes l w false false) s is refl refl
    (λ tag o m. (o, subst (λ (c : Command). eqb c.tag tag ≡ false) (sym same) (subst (MovesOther tag) moving m)))
up_read l s v w true moving same is =
    let other : (tag : ℕ) → MovesOther tag l.moving → eqb w.command.tag tag ≡ false = λ tag m. subst (λ (c : Command). eqb c.tag tag ≡ false) (sym same) (subst (MovesOther tag) moving m) in
    let turned : v.command.tag ≡ w.command.tag = ap (λ (c : Command). c.tag) (sym same) in
    record {
      after = ends l w false;
      is = is;
      writes = refl;
      apart = λ a. subst (λ (t : ℕ). AreApart (ends l w false) (l.unanswered ++ t ∷ [])) turned
          (apart_end l (ends l w false) v l.unanswered moving (λ tag o m. (but_free tag w.command.tag l.outstanding o, tt))
          (subst (λ (t : ℕ). has_tag t (but w.command.tag l.outstanding) ≡ false) (sym turned) (but_gone w.command.tag l.outstanding)) tt a);
      free = λ tag f. record { outstanding = but_free tag w.command.tag l.outstanding f.outstanding; unanswered = has_more tag w.command.tag l.unanswered f.unanswered (other tag f.moving); moving = tt };
    }

up_data : (l : Ledger) (f : List ℕ) (v : Option Moving) → l.moving ≡ v → IsRight l (Ok (view.Payload f)) → UpLeaves l (Ok (view.Payload f))
up_data l f None moving r = up_by l (record l { pages = drop 1 l.pages }) (Ok (view.Payload f)) (ap (λ (m : Option Moving). sends_data l m (drop 4 f)) moving) refl refl (λ tag o m. (o, m))
up_data l f (Some v) moving r =
    let w : Moving = with_bytes v (drop 4 f) in
    let carries : CarriesNext v (drop 4 f) = subst (λ m. CarriesRight m (drop 4 f)) moving r.moves in
    up_read l (Ok (view.Payload f)) v w (is_all w) moving refl
    (ap (λ (m : Option Moving). sends_data l m (drop 4 f)) moving ∙ goes_by l w (is_all w) false refl carries.reads)

pub up_leaves : (l : Ledger) (s : Result Fis FisFault) → IsRight l s → UpLeaves l s
up_leaves l (Ok (view.RegD2H f)) r = up_by l (answered l) (Ok (view.RegD2H f)) refl refl refl (λ tag o m. (o, m))
up_leaves l (Ok (view.SetBits f)) r = up_bits l f r
up_leaves l (Ok (view.DmaActivate f)) r = up_activate l f l.moving refl r
up_leaves l (Ok (view.DmaSetup f)) r = up_setup l f l.moving (find (λ q. q.tag == field Setup BufferId f) l.outstanding) refl refl r
up_leaves l (Ok (view.PioSetup f)) r = up_by l (answered l) (Ok (view.PioSetup f)) refl refl refl (λ tag o m. (o, m))
up_leaves l (Ok (view.Payload f)) r = up_data l f l.moving refl r
up_leaves l other r = up_by l l other refl refl refl (λ tag o m. (o, m))

-- ## A FIS that goes down

pub record DownLeaves (l : Ledger) (t : Result Fis FisFault) : Type 0 where
  pub after : Ledger
  pub is : listens_down l t ≡ after
  -- the writes that it ends, each of which is then to be answered
  pub more : List Written
  pub writes : after.writes ≡ l.writes ++ more
  pub tagged : All (λ w. has w.tag after.unanswered ≡ true) more
  pub kept : (tag : ℕ) → has tag l.unanswered ≡ true → has tag after.unanswered ≡ true
  pub apart : AreApart l l.unanswered → AreApart after after.unanswered

down_by : (l x : Ledger) (t : Result Fis FisFault) → listens_down l t ≡ x → x.writes ≡ l.writes → x.unanswered ≡ l.unanswered → (AreApart l l.unanswered → AreApart x l.unanswered) → DownLeaves l t
down_by l x t is writes same apart = record {
  after = x;
  is = is;
  more = [];
  writes = writes ∙ sym (append-nil l.writes);
  tagged = All-nil (λ (w : Written). has w.tag x.unanswered ≡ true);
  kept = λ tag here. subst (λ (us : List ℕ). has tag us ≡ true) (sym same) here;
  apart = λ a. subst (AreApart x) (sym same) (apart a);
}

-- nothing waits for an answer while a disk rests
none_apart : (l x : Ledger) → Rests l → AreApart x l.unanswered
none_apart l x rests = subst (AreApart x) (sym rests.unanswered) tt

down_request : (l : Ledger) (f : List ℕ) (r : Request) → request_of f ≡ r → l.failed ≡ false → FitsRequest l r → listens_down l (Ok (view.RegH2D f)) ≡ alone l r → DownLeaves l (Ok (view.RegH2D f))
down_request l f (Reset on) e failed fits is = absurd fits
down_request l f (Queue c) e failed fits is = down_by l (opened l c) (Ok (view.RegH2D f)) is refl refl (λ a. apart_opened l c l.unanswered fits.0.unanswered a)
down_request l f other e failed fits is = down_by l (alone l other) (Ok (view.RegH2D f)) is refl refl (λ a. none_apart l (alone l other) fits)

down_write : (l : Ledger) (t : Result Fis FisFault) (v : Moving) (w : Moving) (b : Bool) → l.moving ≡ Some v → w.command ≡ v.command → listens_down l t ≡ after_bytes l w b true → DownLeaves l t
down_write l t v w false moving same is = down_by l (after_bytes l w false true) t is refl refl
    (λ a. apart_by l (after_bytes l w false true) l.unanswered (λ tag o m. (o, subst (λ (c : Command). eqb c.tag tag ≡ false) (sym same) (subst (MovesOther tag) moving m))) a)
down_write l t v w true moving same is =
    let turned : v.command.tag ≡ w.command.tag = ap (λ (c : Command). c.tag) (sym same) in
    let one : Written = record { tag = w.command.tag; at = 512 * w.command.lba; bytes = w.bytes } in
    record {
      after = ends l w true;
      is = is;
      more = one ∷ [];
      writes = refl;
      tagged = All-cons (λ (x : Written). has x.tag (l.unanswered ++ w.command.tag ∷ []) ≡ true) one [] (has_end w.command.tag l.unanswered) (All-nil (λ (x : Written). has x.tag (l.unanswered ++ w.command.tag ∷ []) ≡ true));
      kept = λ tag here. has_kept tag w.command.tag l.unanswered here;
      apart = λ a. subst (λ (t : ℕ). AreApart (ends l w true) (l.unanswered ++ t ∷ [])) turned
          (apart_end l (ends l w true) v l.unanswered moving (λ tag o m. (but_free tag w.command.tag l.outstanding o, tt))
          (subst (λ (t : ℕ). has_tag t (but w.command.tag l.outstanding) ≡ false) (sym turned) (but_gone w.command.tag l.outstanding)) tt a);
    }

down_data : (l : Ledger) (f : List ℕ) (v : Option Moving) → l.moving ≡ v → FitsData v (drop 4 f) → DownLeaves l (Ok (view.Payload f))
down_data l f None moving asked = absurd asked
down_data l f (Some v) moving asked =
    let w : Moving = with_bytes v (drop 4 f) in
    down_write l (Ok (view.Payload f)) v w (is_all w) moving refl (data_down l v (drop 4 f) (is_all w) moving asked refl)

pub down_leaves : (l : Ledger) (t : Result Fis FisFault) → Fits l t → DownLeaves l t
down_leaves l (Ok (view.RegH2D f)) fits = down_request l f (request_of f) refl fits.0 fits.1 (asks_fits l (request_of f) fits.0 fits.1)
down_leaves l (Ok (view.Payload f)) fits = down_data l f l.moving refl fits
down_leaves l other fits = absurd fits

-- ## Whole lists

-- the tags of the ended commands are still apart after a FIS
pub apart_up : (l : Ledger) (bytes : List ℕ) → IsRight l (seen bytes) → AreApart l l.unanswered → AreApart (listens l (Sent bytes)) (listens l (Sent bytes)).unanswered
apart_up l bytes right a =
    let u : UpLeaves l (seen bytes) = up_leaves l (seen bytes) right in
    subst (λ (x : Ledger). AreApart x x.unanswered) (sym u.is) (u.apart a)

pub apart_down : (l : Ledger) (bytes : List ℕ) → Fits l (seen bytes) → AreApart l l.unanswered → AreApart (listens l (Received bytes)) (listens l (Received bytes)).unanswered
apart_down l bytes fits a =
    let d : DownLeaves l (seen bytes) = down_leaves l (seen bytes) fits in
    subst (λ (x : Ledger). AreApart x x.unanswered) (sym d.is) (d.apart a)

free_up : (l : Ledger) (bytes : List ℕ) (tag : ℕ) → IsRight l (seen bytes) → IsFree l tag → IsFree (listens l (Sent bytes)) tag
free_up l bytes tag right f =
    let u : UpLeaves l (seen bytes) = up_leaves l (seen bytes) right in
    subst (λ (x : Ledger). IsFree x tag) (sym u.is) (u.free tag f)

writes_up : (l : Ledger) (bytes : List ℕ) → IsRight l (seen bytes) → (listens l (Sent bytes)).writes ≡ l.writes
writes_up l bytes right =
    let u : UpLeaves l (seen bytes) = up_leaves l (seen bytes) right in
    ap (λ (x : Ledger). x.writes) u.is ∙ u.writes

all_free_up : (l : Ledger) (up : List (List ℕ)) (tag : ℕ) → AreRight l up → IsFree l tag → IsFree (with_up l up) tag
unfolding with_up AreRight
all_free_up l [] tag right f = f
all_free_up l (b ∷ up) tag right f = all_free_up (listens l (Sent b)) up tag right.1 (free_up l b tag right.0 f)

pub all_writes_up : (l : Ledger) (up : List (List ℕ)) → AreRight l up → (with_up l up).writes ≡ l.writes
unfolding with_up AreRight
all_writes_up l [] right = refl
all_writes_up l (b ∷ up) right = all_writes_up (listens l (Sent b)) up right.1 ∙ writes_up l b right.0

record AllDown (l : Ledger) (down : List (List ℕ)) : Type 0 where
  more : List Written
  writes : (with_down l down).writes ≡ l.writes ++ more
  tagged : All (λ w. has w.tag (with_down l down).unanswered ≡ true) more
  kept : (tag : ℕ) → has tag l.unanswered ≡ true → has tag (with_down l down).unanswered ≡ true

all_down : (l : Ledger) (down : List (List ℕ)) → AreFit l down → AllDown l down
unfolding with_down
all_down l [] fit = record { more = []; writes = sym (append-nil l.writes); tagged = All-nil (λ (w : Written). has w.tag l.unanswered ≡ true); kept = λ tag here. here }
all_down l (b ∷ down) fit =
    let d : DownLeaves l (seen b) = down_leaves l (seen b) fit.0 in
    let rest : AllDown (listens l (Received b)) down = all_down (listens l (Received b)) down fit.1 in
    let un : (listens l (Received b)).unanswered ≡ d.after.unanswered = ap (λ (x : Ledger). x.unanswered) d.is in
    let onward : (tag : ℕ) → has tag d.after.unanswered ≡ true → has tag (with_down (listens l (Received b)) down).unanswered ≡ true =
    λ tag here. rest.kept tag (subst (λ (us : List ℕ). has tag us ≡ true) (sym un) here) in
    record {
      more = d.more ++ rest.more;
      writes = rest.writes ∙ ap (λ (ws : List Written). ws ++ rest.more) (ap (λ (x : Ledger). x.writes) d.is ∙ d.writes) ∙ append_assoc l.writes d.more rest.more;
      tagged = All-append (λ (w : Written). has w.tag (with_down (listens l (Received b)) down).unanswered ≡ true) d.more rest.more
          (All-weaker (λ (w : Written). has w.tag d.after.unanswered ≡ true) (λ (w : Written). has w.tag (with_down (listens l (Received b)) down).unanswered ≡ true) (λ w here. onward w.tag here) d.more d.tagged)
          rest.tagged;
      kept = λ tag here. onward tag (d.kept tag here);
    }

-- if an answer comes next, its tag is free once everything has come
free_next : (k : Ledger) (f : List ℕ) (tag : ℕ) (rest : List ℕ) → IsRight k (Ok (view.SetBits f)) → k.unanswered ≡ tag ∷ rest → AreApart k k.unanswered → IsFree (listens_up k (Ok (view.SetBits f))) tag
free_next k f tag rest right is a =
    let here : AreApart k (tag ∷ rest) = subst (AreApart k) is a in
    let left : drop 1 k.unanswered ≡ rest = ap (λ (us : List ℕ). drop 1 us) is in
    subst (λ (x : Ledger). IsFree x tag) (sym (bits_up k f right.fine))
    (record { outstanding = here.1; unanswered = subst (λ (us : List ℕ). has tag us ≡ false) (sym left) here.0; moving = here.2 })

-- the writes on their way have other tags
pub entered_by : (k l : Ledger) (up down : List (List ℕ)) (tag : ℕ) → with_up k up ≡ with_down l down → AreRight k up → AreFit l down → IsFree (with_up k up) tag → AreEntered l k tag
entered_by k l up down tag same right fit free =
    let all : AllDown l down = all_down l down fit in
    let none : has tag (with_down l down).unanswered ≡ false = subst (λ (x : Ledger). has tag x.unanswered ≡ false) same free.unanswered in
    record {
      later = all.more;
      same = sym (all_writes_up k up right) ∙ ap (λ (x : Ledger). x.writes) same ∙ all.writes;
      others = All-weaker (λ (w : Written). has w.tag (with_down l down).unanswered ≡ true) (λ (w : Written). (w.tag == tag) ≡ false)
          (λ w here. differs tag w.tag (with_down l down).unanswered (eqb w.tag tag) refl here none) all.more all.tagged;
    }

by_kind : (k : Ledger) (s : Result Fis FisFault) (tag : ℕ) (rest : List ℕ) → IsBits s → IsRight k s → k.unanswered ≡ tag ∷ rest → AreApart k k.unanswered → IsFree (listens_up k s) tag
by_kind k (Ok (view.SetBits f)) tag rest bits right is a = free_next k f tag rest right is a
by_kind k other tag rest bits right is a = absurd bits

pub free_after : (k : Ledger) (up : List (List ℕ)) (tag : ℕ) (rest : List ℕ) → AnswersNext up → AreRight k up → k.unanswered ≡ tag ∷ rest → AreApart k k.unanswered → IsFree (with_up k up) tag
unfolding with_up AreRight
free_after k [] tag rest next right is a = absurd next
free_after k (f ∷ up) tag rest next right is a = all_free_up (listens k (Sent f)) up tag right.1 (by_kind k (seen f) tag rest next right.0 is a)
