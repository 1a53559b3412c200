-- The queued command whose bit falls is the one that the guest had supplied for the slot, and its disk ended it.
use Rattle.std.proofs.{Common.{◌≡◌, ℕ, ◌≤◌, Bool, List, [], ◌∷◌, ◌++◌, append_assoc, append-nil, refl, sym, ap, ◌∙◌, arith}, lemmas.Bool.{eq-eqb}}
use Rattle.std.specs.Prelude.{if◌then◌else◌}
use Rattle.fis_view.specs.Frames.{Stamped}
use Rattle.ahci_controller.specs.declared.next.Next.TheVariants as next
use Rattle.controller_laws.specs.Events as call
use Rattle.controller_laws.specs.Events.{Event}
use Rattle.block_queue.specs.Line.{has_bit}
use Rattle.sata_disk.specs.declared.out.Out.TheVariants as out
use Rattle.sata_disk_laws.specs.Calls.{Call, Sends}
use Rattle.machine_laws.specs.{ControllerLaws.calls_in, Disks.calls_at, Falling.{AllLast, HasLink, sent_in}}
use Rattle.machine_theorem.specs.{Commands.AreNotIssued, Completions.{CompletionsAreOfSlots, IsDone}, Given.IsWhole, Identity.{AllKeep, asked_of}}
use Rattle.machine_theorem.specs.{Identity.calls_of, Orders.ordered_in, Tags.{ended_with, once_if}}
use Rattle.machine_theorem.proofs.{AsSupplied.{Laws, supplied_at}, AtEnd.{AtEnd, LastEnd, at_end, last_end, speaks}, AtOrder.{AtOrder, LastOrder}}
use Rattle.machine_theorem.proofs.{AtOrder.{at_order, last_order}, Cut.Cut, LastSaid.{all_ends, sent_both}, SameFis.same_fis, StillStands.none_both}
use Rattle.machine_theorem.proofs.Stretch.{AllEnded, Fall, Falls, Stretch, all_ended, asked, calls, fall_is, falls, front, whole_run}
use Rattle.machine_theorem.proofs.TagCounts.{ended_both}

-- ---- the end

pub the_end : (laws : Laws) (s : Stretch) → Fall s → LastEnd s
the_end laws s fall =
    let ended : AllEnded s fall = all_ended laws.end.slots s fall (fall_is laws.end.slots s fall) in
    let fallen = ended.fallen in
    last_end s (omega (arith, fallen))

-- ---- there

-- the stretch until then
abbrev pub ending : (laws : Laws) (s : Stretch) → Fall s → Stretch
ending laws s fall = front s (speaks s (the_end laws s fall).tags) (the_end laws s fall).last.cut

pub at_it : (laws : Laws) (s : Stretch) (fall : Fall s) → AtEnd s (the_end laws s fall)
at_it laws s fall = at_end laws.end s fall (all_ended laws.end.slots s fall (fall_is laws.end.slots s fall)) (the_end laws s fall)

pub the_order : (laws : Laws) (s : Stretch) (fall : Fall s) → LastOrder (ending laws s fall)
the_order laws s fall = let asks = (at_it laws s fall).asks in last_order laws.end (ending laws s fall) (omega (arith, asks))

pub its_order : (laws : Laws) (s : Stretch) (fall : Fall s) → AtOrder (ending laws s fall) (the_order laws s fall)
its_order laws s fall =
    let at : AtEnd s (the_end laws s fall) = at_it laws s fall in
    at_order laws.end laws.orders (ending laws s fall) (the_order laws s fall) (ended_with s.tag (calls (ending laws s fall))) at.asks at.orders at.falls

-- what the disk did in the stretch, cut at a FIS that says that commands ended
pub said_own : (s : Stretch) (tags : ℕ) (c : Cut (speaks s tags) s.at s.deeds s.now s.run)
    → calls s ≡ calls_of s.n s.at c.sooner c.mid c.led ++ Sends (out.Ends tags) ∷ calls_of s.n c.next c.later s.now c.rest
said_own s tags c =
    let x : Call = Sends (out.Ends tags) in
    let rest : List Call = calls_of s.n c.next c.later s.now c.rest in
    let here : calls_at c.mid (speaks s tags) s.n ≡ x ∷ [] = ap (λ (b : Bool). if b then x ∷ [] else []) (eq-eqb s.n s.n refl) in
    c.own s.n ∙ ap (λ (l : List Call). calls_of s.n s.at c.sooner c.mid c.led ++ (l ++ rest)) here

-- ---- all of it

unfoldable pub is_done : (laws : Laws) (s : Stretch) (fall : Fall s) → IsDone s.many s.n s.tag s.old s.before s.at s.first s.deeds s.now s.run s.p s.limit s.base fall.does.does.frame
is_done laws s fall =
    let fell : Falls s fall = fall_is laws.end.slots s fall in
    let ended : AllEnded s fall = all_ended laws.end.slots s fall fell in
    let e : LastEnd s = the_end laws s fall in
    let at : AtEnd s e = at_it laws s fall in
    let c = e.last.cut in
    let t : Stretch = ending laws s fall in
    let o : LastOrder t = the_order laws s fall in
    let of : AtOrder t o = its_order laws s fall in
    let slots = at.page.slots in
    let x : Event = call.Turned (next.Order o.dev s.tag o.fis) in
    let rest : List Event = calls_in c.next c.later s.now c.rest in
    let whole : IsWhole s.old s.before s.at s.first s.deeds s.now s.run = whole_run s.before s.old s.at s.first s.deeds s.now s.run in
    let alone : AreNotIssued s.tag (of.ordered.later ++ rest) = none_both s.tag of.ordered.later rest of.alone at.alone in
    let events : calls_in s.at s.deeds s.now s.run ≡ of.ordered.before ++ x ∷ (of.ordered.later ++ rest) =
    c.events ∙ ap (λ (l : List Event). l ++ rest) of.ordered.is ∙ append_assoc of.ordered.before (x ∷ of.ordered.later) rest in
    record {
      end = record {
        before = c.sooner;
        moment = c.mid;
        first = c.led;
        tags = e.tags;
        new = c.next;
        says = c.does;
        named = e.named;
        later = c.later;
        rest = c.rest;
        is = c.is;
        calls = c.events;
        own = said_own s e.tags c;
      };
      sent = same_fis laws.end.slots s fall fell ended e;
      page = at.page.page;
      books = at.page.books;
      earned = at.page.earned;
      slots = slots;
      dev = o.dev;
      order = o.fis;
      ordered = of.ordered;
      heard = of.is slots.front slots.asked.bytes slots.last;
      alone = alone;
      quiet = at.quiet;
      last = ap (λ (l : List Event). asked_of s.many s.n s.tag (sent_in l)) c.events ∙ sent_both s.many s.n s.tag (calls_in s.at c.sooner c.mid c.led) rest
          ∙ ap (λ (l : List (List ℕ)). asked t ++ l) at.none ∙ append-nil (asked t) ∙ slots.last;
      whole = whole;
      supplied = supplied_at laws s fall.issue fall.is whole o.dev o.fis (record { before = of.ordered.before; later = of.ordered.later ++ rest; is = events; alone = alone });
    }

-- ---- where the end stands in the stretch

-- What the disk and the guest did until then is a beginning of what they did in the stretch.
pub record EndsIn (s : Stretch) (f : Stamped) (done : IsDone s.many s.n s.tag s.old s.before s.at s.first s.deeds s.now s.run s.p s.limit s.base f)
    : Type 0 where
  pub more : List Call
  pub split : calls s ≡ calls_of s.n s.at done.end.before done.end.moment done.end.first ++ Sends (out.Ends done.end.tags) ∷ more
  pub few : (own : ℕ → Bool) (slot : ℕ) → ordered_in own slot s.at done.end.before done.end.moment done.end.first ≤ ordered_in own slot s.at s.deeds s.now s.run
  pub keeps : (tag : ℕ) → AllKeep s.many s.n tag s.at s.deeds s.now s.run → AllKeep s.many s.n tag s.at done.end.before done.end.moment done.end.first
  pub lasts : AllLast s.n s.at done.end.before done.end.moment done.end.first
  pub linked : HasLink done.end.before
  -- no more bits fell in the stretch than commands had ended until then
  pub fell : falls s ≤ ended_with s.tag (calls_of s.n s.at done.end.before done.end.moment done.end.first)

pub ends_in : (laws : Laws) (s : Stretch) (fall : Fall s) → EndsIn s fall.does.does.frame (is_done laws s fall)
unfolding is_done
ends_in laws s fall =
    let e : LastEnd s = the_end laws s fall in
    let c = e.last.cut in
    let x : Call = Sends (out.Ends e.tags) in
    let rest : List Call = calls_of s.n c.next c.later s.now c.rest in
    record {
      more = rest;
      split = said_own s e.tags c;
      few = λ own slot. let all = c.ordered own slot in omega (arith, all);
      keeps = λ tag keeps. (c.keeps s.many s.n tag keeps).0;
      lasts = (c.lasts s.n s.lasts).0;
      linked = (c.links s.linked).0;
      fell =
          let ended = all_ended laws.end.slots s fall (fall_is laws.end.slots s fall) in
          let fallen = ended.fallen in
          let none : ended_with s.tag rest ≡ 0 = sym (all_ends s.n s.tag c.later c.next s.now c.rest) ∙ e.last.none in
          let one : once_if (has_bit e.tags s.tag) ≡ 1 = ap once_if e.named in
          let all = ap (ended_with s.tag) (said_own s e.tags c) in
          let both = ended_both s.tag (calls_of s.n s.at c.sooner c.mid c.led) (x ∷ rest) in
          omega (arith, fallen, none, one, all, both);
    }

pub completions_are : Laws → CompletionsAreOfSlots
completions_are laws ports legacy old opening before at first many n tag below low rest deeds now run linked lasts keeps p limit base are same took new does rules shows hides issue is mine =
    let s : Stretch = record {
      ports = ports;
      legacy = legacy;
      old = old;
      opening = opening;
      before = before;
      at = at;
      first = first;
      many = many;
      n = n;
      tag = tag;
      below = below;
      low = low;
      rest = rest;
      deeds = deeds;
      now = now;
      run = run;
      linked = linked;
      lasts = lasts;
      keeps = keeps;
      p = p;
      limit = limit;
      base = base;
      are = are;
      same = same;
    } in
    is_done laws s (record { took = took; new = new; does = does; rules = rules; shows = shows; hides = hides; issue = issue; is = is; mine = mine })
