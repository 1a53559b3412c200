-- Of each tag: no more ended well than were heard, and what is under way was asked for behind all that ended.
use Rattle.std.proofs.Common.{◌≡◌, ℕ, ◌+◌, ◌<◌, ◌≤◌, ◌&&◌, true, false, not, List, [], ◌∷◌, ◌++◌, Some, None, refl, sym, ap, ◌∙◌, subst, arith, inl}
use Rattle.std.proofs.{Common.{inr, append_assoc}, lemmas.{Bool.{eq-eqb, false≢true, lt-ltb}, List.{append-nil}}}
use Rattle.std.specs.Prelude.{Option, Bool, ◌==◌, nat_lt, Ok}
use Rattle.fis_view.specs.Seen.{seen}
use Rattle.fis_view.specs.declared.view.Fis.TheVariants as view
use Rattle.block_command.specs.{declared.command.Command.Command, Moments.{Moment, is_ended}}
use Rattle.block_disk.specs.Table.{is_under_way}
use Rattle.block_disk.proofs.Door.{each_is}
use Rattle.block_engine.specs.Laws as engine
use Rattle.block_queue.specs.Line.{Line, command_at, has_bit}
use Rattle.ata_command.specs.declared.asked.Asked.TheVariants as ask
use Rattle.ata_command.specs.declared.asked.Move.{Move}
use Rattle.disk_pages.specs.declared.profile.Profile.{Profile}
use Rattle.sata_disk.specs.{Hearing.{asked_of, is_command}, State.{DiskState, commands, is_taken, new_disk}}
use Rattle.sata_disk.specs.declared.out.Out.TheVariants as out
use Rattle.sata_disk_books.specs.Books.{IsAskedFor}
use Rattle.sata_disk_laws.specs.{Calls.{AreCalls, Call, Plugs, Hears, Starts, Asks, Answers, Sends, after_call, after_calls, steps_of}, Laws.reached}
use Rattle.sata_disk_laws.specs.Once.{AnswersAreSingle, AreDue, Host, IsCallDue, OpenIsUnderWay, host_after, host_of, new_host, place_in}
use Rattle.sata_disk_laws.proofs.Door.{calls_after}
use Rattle.machine_laws.specs.Heard.{life_in, no_life}
use Rattle.machine_theorem.specs.Tags.{IsBehindEnds, IsCounted, TagsAreCounted, TagsOfNewDisks, asks_with, ended_with, ends_with, heard_with, once_if}
use Rattle.machine_theorem.proofs.{TagKept.{StepNone, call_held, call_takes, held_at, held_is, held_of, held_parts, others_none}, TagAsked.Outcome}
use Rattle.machine_theorem.proofs.{TagAsked.{outcome, Outcome.{Nothing, Taken}}, TagPages.page_same}

-- ---- lists of calls

pub heard_both : (tag : ℕ) (xs ys : List Call) → heard_with tag (xs ++ ys) ≡ heard_with tag xs + heard_with tag ys
heard_both tag [] ys = omega arith
heard_both tag (x ∷ xs) ys = let more = heard_both tag xs ys in omega (arith, more)

pub ended_both : (tag : ℕ) (xs ys : List Call) → ended_with tag (xs ++ ys) ≡ ended_with tag xs + ended_with tag ys
ended_both tag [] ys = omega arith
ended_both tag (x ∷ xs) ys = let more = ended_both tag xs ys in omega (arith, more)

pub first_calls : (xs ys : List Call) (d : DiskState) → AreCalls d (xs ++ ys) → AreCalls d xs
first_calls [] ys d are = tt
first_calls (x ∷ xs) ys d are = (are.0, first_calls xs ys (after_call d x) are.1)

one_call : (d : DiskState) (x : Call) → after_calls d (x ∷ []) ≡ after_call d x
unfolding after_calls
one_call d x = refl

pub one_call_more : (p : Profile) (limit : ℕ) (done : List Call) (x : Call) → reached p limit (done ++ x ∷ []) ≡ after_call (reached p limit done) x
one_call_more p limit done x = calls_after done (x ∷ []) (new_disk p limit) ∙ one_call (reached p limit done) x

-- ---- what the host has open

pub record Laws : Type 0 where
  pub single : AnswersAreSingle
  pub under_way : OpenIsUnderWay

pub due_at : (xs : List Call) (x : Call) (h : Host) → AreDue h (xs ++ x ∷ []) → IsCallDue (host_of h xs) x
unfolding host_of
due_at [] x h due = due.0
due_at (y ∷ xs) x h due = due_at xs x (host_after h y) due.1

pub host_then : (xs : List Call) (x : Call) (h : Host) → host_of h (xs ++ x ∷ []) ≡ host_after (host_of h xs) x
unfolding host_of
host_then [] x h = refl
host_then (y ∷ xs) x h = host_then xs x (host_after h y)

is_closed : (a b c : Bool) → a ≡ true → b ≡ true → (not (a && b) && c) ≡ false
is_closed true true c e f = refl
is_closed true false c e f = absurd (cc)
is_closed false b c e f = absurd (cc)

pub record EndsIt (p : Profile) (limit : ℕ) (done : List Call) (x : Call) (tag : ℕ) : Type 0 where
  pub was : is_taken (commands (reached p limit done)) tag ≡ true
  pub over : is_taken (commands (reached p limit (done ++ x ∷ []))) tag ≡ false

pub ends_it : Laws → (p : Profile) (limit : ℕ) (done : List Call) (tags tag : ℕ) → tag < 32 → AreCalls (new_disk p limit) (done ++ Sends (out.Ends tags) ∷ [])
    → has_bit tags tag ≡ true → EndsIt p limit done (Sends (out.Ends tags)) tag
ends_it laws p limit done tags tag low are bit =
    let x : Call = Sends (out.Ends tags) in
    let h : Host = host_of new_host done in
    let queued = due_at done x new_host (laws.single p limit (done ++ x ∷ []) are) tag low bit in
    let next = host_then done x new_host in
    record {
      was = (laws.under_way p limit done (first_calls done (x ∷ []) (new_disk p limit) are)).queued tag low queued.2 ∙ queued.1;
      over = (laws.under_way p limit (done ++ x ∷ []) are).queued tag low (ap (λ (k : Host). k.waits) next ∙ queued.2)
          ∙ ap (λ (k : Host). k.open_at tag) next ∙ is_closed (nat_lt tag 32) (has_bit tags tag) (h.open_at tag) (lt-ltb tag 32 low) bit;
    }

-- ---- a place that is taken

pub held_of_taken : (x : Option Moment) → is_under_way x ≡ true → (c : Command) × (held_of x ≡ Some c)
held_of_taken None e = absurd (cc)
held_of_taken (Some m) e = by (is_ended m.stage) refl e
  where
    by : (b : Bool) → is_ended m.stage ≡ b → not b ≡ true → (c : Command) × (held_of (Some m) ≡ Some c)
    by true is over = absurd (cc)
    by false is over = (m.command, held_is m is)

pub none_held : (x : Option Moment) (c : Command) → is_under_way x ≡ false → held_of x ≡ Some c → ⊥
none_held None c e h = cc
none_held (Some m) c e h = false≢true (sym e ∙ ap not (held_parts m c h).0)

-- ---- what is counted

-- of the calls of a disk, those behind some
module _ (p : Profile) (limit : ℕ) (base : List Call) (tag : ℕ) where
  one_more : (done : List Call) (x : Call) → reached p limit (base ++ (done ++ x ∷ [])) ≡ after_call (reached p limit (base ++ done)) x
  one_more done x = ap (reached p limit) (sym (append_assoc base done (x ∷ []))) ∙ one_call_more p limit (base ++ done) x

  -- a command was asked for with this tag behind all that ended
  pub record Since (done : List Call) (c : Command) : Type 0 where
    pub asked : IsAskedFor p limit (base ++ done) c
    pub front : List Call
    pub behind_base : asked.before ≡ base ++ front
    pub split : done ≡ front ++ Hears asked.bytes ∷ asked.later
    pub named : asks_with tag (seen asked.bytes) ≡ true
    -- the disk took it as it heard this FIS
    pub place : c.place ≡ tag
    pub taken : steps_of (reached p limit asked.before) (Hears asked.bytes) ≡ engine.Takes c ∷ []
    pub behind : ended_with tag done ≤ heard_with tag front
    pub standing : ended_with tag asked.later ≡ 0

  pub record Counted (done : List Call) : Type 0 where
    pub fewer : ended_with tag done ≤ heard_with tag done
    pub since : (c : Command) → held_at (commands (reached p limit (base ++ done))) tag ≡ Some c → Since done c

  asked_more : (done : List Call) (x : Call) (c : Command) → IsAskedFor p limit (base ++ done) c → IsAskedFor p limit (base ++ (done ++ x ∷ [])) c
  asked_more done x c a = record {
    before = a.before;
    bytes = a.bytes;
    later = a.later ++ x ∷ [];
    heard = sym (append_assoc base done (x ∷ [])) ∙ ap (λ (l : List Call). l ++ x ∷ []) a.heard ∙ append_assoc a.before (Hears a.bytes ∷ a.later) (x ∷ []);
    fis = a.fis;
    viewed = a.viewed;
    move = a.move;
    asks = a.asks;
    is = a.is;
  }

  since_more : (done : List Call) (x : Call) (c : Command) → ends_with tag x ≡ 0 → Since done c → Since (done ++ x ∷ []) c
  unfolding asked_more
  since_more done x c none s =
      let all = ended_both tag done (x ∷ []) in
      let last = ended_both tag s.asked.later (x ∷ []) in
      let behind = s.behind in
      let standing = s.standing in
      record {
        asked = asked_more done x c s.asked;
        front = s.front;
        behind_base = s.behind_base;
        split = ap (λ (l : List Call). l ++ x ∷ []) s.split ∙ append_assoc s.front (Hears s.asked.bytes ∷ s.asked.later) (x ∷ []);
        named = s.named;
        place = s.place;
        taken = s.taken;
        behind = omega (arith, all, none, behind);
        standing = omega (arith, last, none, standing);
      }

  fewer_more : (done : List Call) (x : Call) → ends_with tag x ≡ 0 → ended_with tag done ≤ heard_with tag done → ended_with tag (done ++ x ∷ []) ≤ heard_with tag (done ++ x ∷ [])
  fewer_more done x none fewer =
      let ends = ended_both tag done (x ∷ []) in
      let heard = heard_both tag done (x ∷ []) in
      omega (arith, ends, heard, none, fewer)

  -- ---- one call

  kept : (done : List Call) (x : Call) → ends_with tag x ≡ 0 → StepNone (steps_of (reached p limit (base ++ done)) x) → Counted done → Counted (done ++ x ∷ [])
  kept done x none steps k = record {
    fewer = fewer_more done x none k.fewer;
    since = λ c h. since_more done x c none
        (k.since c (call_held (reached p limit (base ++ done)) x tag c steps (ap (λ (d : DiskState). held_at (commands d) tag) (sym (one_more done x)) ∙ h)));
  }

  same_number : (n : ℕ) → (n == n) ≡ true
  same_number n = eq-eqb n n refl

  named_is : (bytes f : List ℕ) → seen bytes ≡ Ok (view.RegH2D f) → is_command f ≡ true → place_in f ≡ tag → asks_with tag (seen bytes) ≡ true
  named_is bytes f viewed is place =
      ap (asks_with tag) viewed ∙ ap (λ (b : Bool). b && (place_in f == tag)) is ∙ ap (λ (n : ℕ). n == tag) place ∙ same_number tag

  takes : (done : List Call) (bytes : List ℕ) (f : List ℕ) (k : Command) → seen bytes ≡ Ok (view.RegH2D f) → is_command f ≡ true
      → k.place ≡ place_in f → steps_of (reached p limit (base ++ done)) (Hears bytes) ≡ engine.Takes k ∷ [] → (move : Move)
      → asked_of (reached p limit (base ++ done)) f ≡ ask.Moves move → k ≡ move.command → Counted done → Counted (done ++ Hears bytes ∷ [])
  takes done bytes f k viewed is place steps move asks same q = record {
    fewer = fewer_more done (Hears bytes) refl q.fewer;
    since = by;
  }
    where
      x : Call
      x = Hears bytes

      new : (c : Command) → c ≡ k → k.place ≡ tag → Since (done ++ x ∷ []) c
      new c e here =
          let ends = ended_both tag done (x ∷ []) in
          let fewer = q.fewer in
          record {
            asked = record {
              before = base ++ done;
              bytes = bytes;
              later = [];
              heard = sym (append_assoc base done (x ∷ []));
              fis = f;
              viewed = viewed;
              move = move;
              asks = asks;
              is = e ∙ same;
            };
            front = done;
            behind_base = refl;
            split = refl;
            named = named_is bytes f viewed is (sym place ∙ here);
            place = ap (λ (z : Command). z.place) e ∙ here;
            taken = steps ∙ ap (λ (z : Command). engine.Takes z ∷ []) (sym e);
            behind = omega (arith, ends, fewer);
            standing = refl;
          }

      by : (c : Command) → held_at (commands (reached p limit (base ++ (done ++ x ∷ [])))) tag ≡ Some c → Since (done ++ x ∷ []) c
      by c h = elim (call_takes (reached p limit (base ++ done)) x k tag c steps (ap (λ (d : DiskState). held_at (commands d) tag) (sym (one_more done x)) ∙ h)) [
        | inl was ↦ since_more done x c refl (q.since c was)
        | inr it ↦ new c it.0 it.1
      ]

  heard_case : (done : List Call) (bytes : List ℕ) → Outcome (reached p limit (base ++ done)) (seen bytes) → Counted done → Counted (done ++ Hears bytes ∷ [])
  heard_case done bytes (Nothing none) q = kept done (Hears bytes) refl none q
  heard_case done bytes (Taken f k viewed is place steps move asks same) q = takes done bytes f k viewed is place steps move asks same q

  -- ---- an end

  pub all_heard : (done : List Call) (c : Command) (s : Since done c) → heard_with tag done ≡ heard_with tag s.front + (1 + heard_with tag s.asked.later)
  all_heard done c s =
      let all : heard_with tag done ≡ heard_with tag s.front + (once_if (asks_with tag (seen s.asked.bytes)) + heard_with tag s.asked.later) =
      ap (heard_with tag) s.split ∙ heard_both tag s.front (Hears s.asked.bytes ∷ s.asked.later) in
      let one : once_if (asks_with tag (seen s.asked.bytes)) ≡ 1 = ap once_if s.named in
      omega (arith, all, one)

  ends : Laws → (done : List Call) (tags : ℕ) → tag < 32 → AreCalls (new_disk p limit) (base ++ (done ++ Sends (out.Ends tags) ∷ []))
      → has_bit tags tag ≡ true → Counted done → Counted (done ++ Sends (out.Ends tags) ∷ [])
  ends laws done tags low are bit q =
      let x : Call = Sends (out.Ends tags) in
      let same = append_assoc base done (x ∷ []) in
      let it = ends_it laws p limit (base ++ done) tags tag low (subst (AreCalls (new_disk p limit)) (sym same) are) bit in
      let was = held_of_taken (command_at (commands (reached p limit (base ++ done))) tag) it.was in
      let s = q.since was.0 was.1 in
      let behind = s.behind in
      let more = all_heard done was.0 s in
      let count = ended_both tag done (x ∷ []) in
      let one : ends_with tag x ≡ 1 = ap once_if bit in
      let heard = heard_both tag done (x ∷ []) in
      let over : is_taken (commands (reached p limit (base ++ (done ++ x ∷ [])))) tag ≡ false = ap (λ (l : List Call). is_taken (commands (reached p limit l)) tag) (sym same) ∙ it.over in
      record {
        fewer = omega (arith, behind, more, count, one, heard);
        since = λ c h. absurd (none_held (command_at (commands (reached p limit (base ++ (done ++ x ∷ [])))) tag) c over h);
      }

  ends_case : Laws → (done : List Call) (tags : ℕ) → tag < 32 → AreCalls (new_disk p limit) (base ++ (done ++ Sends (out.Ends tags) ∷ []))
      → (b : Bool) → has_bit tags tag ≡ b → Counted done → Counted (done ++ Sends (out.Ends tags) ∷ [])
  ends_case laws done tags low are true bit q = ends laws done tags low are bit q
  ends_case laws done tags low are false bit q =
      kept done (Sends (out.Ends tags)) (ap once_if bit) (others_none (reached p limit (base ++ done)) (Sends (out.Ends tags)) tt) q

  -- ---- every run

  step : Laws → tag < 32 → (done : List Call) (x : Call) → AreCalls (new_disk p limit) (base ++ (done ++ x ∷ [])) → Counted done → Counted (done ++ x ∷ [])
  step laws low done (Hears bytes) are q = heard_case done bytes (outcome (reached p limit (base ++ done)) (seen bytes)) q
  step laws low done (Sends (out.Ends tags)) are q = ends_case laws done tags low are (has_bit tags tag) refl q
  step laws low done (Sends (out.Own r)) are q = kept done (Sends (out.Own r)) refl (others_none (reached p limit (base ++ done)) (Sends (out.Own r)) tt) q
  step laws low done (Sends (out.Page page)) are q = kept done (Sends (out.Page page)) refl (others_none (reached p limit (base ++ done)) (Sends (out.Page page)) tt) q
  step laws low done (Sends (out.Beside r)) are q = kept done (Sends (out.Beside r)) refl (others_none (reached p limit (base ++ done)) (Sends (out.Beside r)) tt) q
  step laws low done (Sends (out.Of n r)) are q = kept done (Sends (out.Of n r)) refl (others_none (reached p limit (base ++ done)) (Sends (out.Of n r)) tt) q
  step laws low done (Sends (out.Data n k)) are q = kept done (Sends (out.Data n k)) refl (others_none (reached p limit (base ++ done)) (Sends (out.Data n k)) tt) q
  step laws low done Plugs are q = kept done Plugs refl (others_none (reached p limit (base ++ done)) Plugs tt) q
  step laws low done (Starts x) are q = kept done (Starts x) refl (others_none (reached p limit (base ++ done)) (Starts x) tt) q
  step laws low done (Asks r) are q = kept done (Asks r) refl (others_none (reached p limit (base ++ done)) (Asks r) tt) q
  step laws low done (Answers n a) are q = kept done (Answers n a) refl (others_none (reached p limit (base ++ done)) (Answers n a) tt) q

  walk : Laws → tag < 32 → (later done : List Call) → AreCalls (new_disk p limit) (base ++ (done ++ later)) → Counted done → Counted (done ++ later)
  walk laws low [] done are q = subst Counted (sym (append-nil done)) q
  walk laws low (x ∷ later) done are q =
      let same : (done ++ x ∷ []) ++ later ≡ done ++ x ∷ later = append_assoc done (x ∷ []) later in
      let all : AreCalls (new_disk p limit) (base ++ ((done ++ x ∷ []) ++ later)) = subst (λ (l : List Call). AreCalls (new_disk p limit) (base ++ l)) (sym same) are in
      let whole : AreCalls (new_disk p limit) ((base ++ (done ++ x ∷ [])) ++ later) = subst (AreCalls (new_disk p limit)) (sym (append_assoc base (done ++ x ∷ []) later)) all in
      let next = step laws low done x (first_calls (base ++ (done ++ x ∷ [])) later (new_disk p limit) whole) q in
      subst Counted same (walk laws low later (done ++ x ∷ []) all next)

  begins : is_taken (commands (reached p limit base)) tag ≡ false → Counted []
  begins free = record {
    fewer = omega arith;
    since = λ c h. absurd (none_held (command_at (commands (reached p limit base)) tag) c free (ap (λ (l : List Call). held_at (commands (reached p limit l)) tag) (sym (append-nil base)) ∙ h));
  }

  -- behind calls by which the tag is free
  pub counted : Laws → tag < 32 → (done : List Call) → AreCalls (new_disk p limit) (base ++ done) → is_taken (commands (reached p limit base)) tag ≡ false → Counted done
  counted laws low done are free = walk laws low done [] are (begins free)

-- ---- the laws

new_free : (p : Profile) (limit tag : ℕ) → is_taken (commands (reached p limit [])) tag ≡ false
unfolding after_calls
new_free p limit tag = ap is_under_way (each_is (Option Moment) 33 tag None)

not_true : (b : Bool) → not b ≡ true → b ≡ false
not_true true e = absurd (cc)
not_true false e = refl

pub under_way_held : (l : Line) (tag : ℕ) (m : Moment) → command_at l tag ≡ Some m → is_under_way (Some m) ≡ true → held_at l tag ≡ Some m.command
under_way_held l tag m there going = ap held_of there ∙ held_is m (not_true (is_ended m.stage) going)

is_counted : (p : Profile) (limit : ℕ) (calls : List Call) (tag : ℕ) → Counted p limit [] tag calls → IsCounted p limit calls (reached p limit calls) tag
is_counted p limit calls tag q = record { ends = q.fewer; held = by }
  where
    by : (m : Moment) → command_at (commands (reached p limit calls)) tag ≡ Some m → is_under_way (Some m) ≡ true → IsBehindEnds p limit calls tag m.command
    by m there going =
        let held : held_at (commands (reached p limit calls)) tag ≡ Some m.command = under_way_held (commands (reached p limit calls)) tag m there going in
        let s = q.since m.command held in
        let all = all_heard p limit [] tag calls m.command s in
        let behind = s.behind in
        record {
          asked = s.asked;
          named = s.named;
          behind = subst (λ (l : List Call). ended_with tag calls ≤ heard_with tag l) (sym s.behind_base) s.behind;
          standing = s.standing;
          last = λ few. omega (arith, all, behind, few);
          page = λ page is. page_same p limit calls tag m.command page held is;
        }

pub tags_are_counted : Laws → TagsAreCounted
tags_are_counted laws p limit calls tag are low = is_counted p limit calls tag (counted p limit [] tag laws low calls are (new_free p limit tag))

pub of_new_disks : Laws → TagsOfNewDisks
of_new_disks laws ports legacy old opening deeds now run n d there lived p limit new tag low =
    let calls : List Call = (life_in n no_life old deeds now run).calls in
    let are : AreCalls (new_disk p limit) calls = subst (λ (x : DiskState). AreCalls x calls) new lived.are in
    let same : reached p limit calls ≡ d = ap (λ (x : DiskState). after_calls x calls) (sym new) ∙ sym lived.is in
    subst (λ (x : DiskState). IsCounted p limit calls x tag) same (tags_are_counted laws p limit calls tag are low)
