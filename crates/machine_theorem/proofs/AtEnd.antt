-- The last end of a stretch behind which a bit falls: it is of the command that stands in the slot, and nothing goes there since.
use Rattle.std.proofs.Common.{◌≡◌, ℕ, ◌+◌, ◌≤◌, Bool, true, false, List, [], ◌∷◌, ◌++◌, append_assoc, length, Option, Some, None, refl, sym, ap}
use Rattle.std.proofs.{Common.{subst, ◌∙◌, arith}, lemmas.Bool.{eq-eqb}}
use Rattle.std.specs.Prelude.{if◌then◌else◌}
use Rattle.block_command.specs.{Laws.IsEarned, Moments.Moment}
use Rattle.block_disk.specs.{Laws.Page, Table.is_under_way}
use Rattle.block_queue.specs.Line.{command_at, has_bit}
use Rattle.sata_disk.specs.{Sending.IsOut, State.{DiskState, commands, is_taken, new_disk}}
use Rattle.sata_disk.specs.declared.out.Out.TheVariants as out
use Rattle.sata_disk_books.specs.{Books.page_in, Ended.{EndsAreOfPages, HasEarned}}
use Rattle.sata_disk_laws.specs.{Calls.{AreCalls, Call, Sends}, Laws.reached}
use Rattle.controller_laws.specs.Events.{Event}
use Rattle.ahci_machine.specs.States.{MachineState}
use Rattle.ahci_machine.specs.declared.act.Act.TheVariants as act
use Rattle.machine_laws.specs.{ControllerLaws.{RunsRuled, calls_in}, Controllers.GathersDue, Deeds.{Deed, Does, Moved}, Disks.calls_at}
use Rattle.machine_laws.specs.Falling.{sent_in}
use Rattle.machine_theorem.specs.{Commands.AreNotIssued, Identity.{CommandsAreTheSlots, IsTheSlots, asked_of, calls_of}, Orders.fallen_in}
use Rattle.machine_theorem.specs.{Orders.ordered_in, Tags.{ended_with, heard_with, once_if}}
use Rattle.machine_theorem.proofs.{Cut.{HasLast, LastOf, last_of}, EndsFew.disk_same, LastSaid.{IsEnd, all_ends, end_is, ends_by, long_both}}
use Rattle.machine_theorem.proofs.{OneConn.no_length, Own.last_ruled, StillStands.none_issued, Stretch.{AllEnded, Fall, HasDisk, Stretch, asked}}
use Rattle.machine_theorem.proofs.Stretch.{calls, counts, due_at, falls, front, has_disk, orders, own, stands, was_free, whole_run}
use Rattle.machine_theorem.proofs.{TagCounts.{Counted, counted, ended_both, ends_it, first_calls, heard_both, under_way_held}, TagPages.page_same}
use Rattle.machine_theorem.proofs.StillStands as standing
use Rattle.machine_theorem.proofs.TheSlots as slots

pub record Laws : Type 0 where
  pub slots : slots.Laws
  pub identity : CommandsAreTheSlots
  pub ends : EndsAreOfPages
  pub stands : standing.Laws

-- ---- the last end

abbrev pub speaks : (s : Stretch) → (tags : ℕ) → Deed
speaks s tags = Moved (act.Speaks s.n (out.Ends tags))

pub record LastEnd (s : Stretch) : Type 0 where
  pub tags : ℕ
  pub named : has_bit tags s.tag ≡ true
  pub last : LastOf (ends_by s.n s.tag) (speaks s tags) s.at s.deeds s.now s.run

pub last_end : (s : Stretch) → 1 ≤ ended_with s.tag (calls s) → LastEnd s
last_end s some =
    let all = all_ends s.n s.tag s.deeds s.at s.now s.run in
    let it : HasLast (ends_by s.n s.tag) s.at s.deeds s.now s.run = last_of (ends_by s.n s.tag) s.deeds s.at s.now s.run (omega (arith, some, all)) in
    let end : IsEnd s.n s.tag it.deed = end_is s.n s.tag it.last.cut.mid it.deed it.last.here in
    record { tags = end.tags; named = end.named; last = subst (λ (d : Deed). LastOf (ends_by s.n s.tag) d s.at s.deeds s.now s.run) end.is it.last }

-- ---- the command that ends by it

pub record HasPage (s : Stretch) : Type 0 where
  pub page : Page
  pub books : page_in s.p s.limit (s.base ++ calls s) s.tag ≡ Some page
  pub earned : IsEarned page.command page.ledger page.command.write
  pub slots : IsTheSlots s.many s.n s.tag s.at s.deeds s.now s.run s.p s.limit s.base page.command

pub record IsThere (x : Option Moment) : Type 0 where
  pub moment : Moment
  pub is : x ≡ Some moment
  pub going : is_under_way (Some moment) ≡ true

pub is_there : (x : Option Moment) → is_under_way x ≡ true → IsThere x
is_there None going = absurd (cc)
is_there (Some m) going = record { moment = m; is = refl; going = going }

record Earns (x : Option Page) : Type 0 where
  page : Page
  is : x ≡ Some page
  earned : IsEarned page.command page.ledger page.command.write

earns : (x : Option Page) → HasEarned x → Earns x
earns None earned = absurd earned
earns (Some page) earned = record { page = page; is = refl; earned = earned }

has_page : Laws → (s : Stretch) (tags : ℕ) → has_bit tags s.tag ≡ true → (new : MachineState) → Does s.now (speaks s tags) new
    → AreCalls (new_disk s.p s.limit) ((s.base ++ calls s) ++ Sends (out.Ends tags) ∷ []) → HasPage s
has_page laws s tags named new does are =
    let h = does.does.does.1 in
    let d : DiskState = reached s.p s.limit (s.base ++ calls s) in
    let disk : HasDisk s = has_disk laws.slots s in
    let same : h.disk ≡ d = disk_same h.disk d (sym h.there ∙ disk.there) in
    let was : is_taken (commands d) s.tag ≡ true = (ends_it laws.slots.tags s.p s.limit (s.base ++ calls s) tags s.tag s.low are named).was in
    let it = is_there (command_at (commands d) s.tag) was in
    let slots = laws.identity s.ports s.legacy s.old s.opening s.before s.at s.first s.many s.n s.tag s.below s.low s.rest s.deeds s.now s.run s.linked s.lasts s.keeps s.p s.limit s.base s.are s.same
    d disk.there it.moment it.is it.going in
    let e = earns (page_in s.p s.limit (s.base ++ calls s) s.tag)
    (laws.ends s.p s.limit (s.base ++ calls s) tags disk.are (subst (λ (x : DiskState). IsOut x (Some (out.Ends tags))) same h.next) s.tag s.low named) in
    let command = page_same s.p s.limit (s.base ++ calls s) s.tag it.moment.command e.page (under_way_held (commands d) s.tag it.moment it.is it.going) e.is in
    record { page = e.page; books = e.is; earned = e.earned; slots = subst (λ c. IsTheSlots s.many s.n s.tag s.at s.deeds s.now s.run s.p s.limit s.base c) (sym command) slots }

-- ---- what is counted there

record Numbers (o1 o2 a1 a2 a f1 f2 e1 : ℕ) : Type 0 where
  ordered : o2 ≡ 0
  asked : a2 ≡ 0
  fallen : f2 ≡ 0
  orders : o1 ≡ e1 + 1
  asks : a1 ≡ e1 + 1
  falls : f1 ≤ e1

-- e ends, of h that were heard, of a that were asked, of o that were sent, of f that fell and s that stand; and so before the last end
pub record Sums (e e1 h1 a a1 a2 o o1 o2 f f1 f2 s s1 : ℕ) : Type 0 where
  pub ends : e ≡ e1 + 1
  pub heard : e1 + 1 ≤ h1
  pub asked : h1 ≤ a1
  pub ordered : a1 ≤ o1
  pub fallen : o1 ≤ f1 + s1
  pub stands : s1 ≤ 1
  pub all_asked : a ≡ a1 + a2
  pub all_ordered : o ≡ o1 + o2
  pub all_fallen : f ≡ f1 + f2
  pub asks : a ≤ o
  pub falls : o ≤ f + s
  pub one : s ≤ 1
  pub fell : 1 + f ≤ e

sums : (e e1 h1 a a1 a2 o o1 o2 f f1 f2 s s1 : ℕ) → Sums e e1 h1 a a1 a2 o o1 o2 f f1 f2 s s1 → Numbers o1 o2 a1 a2 a f1 f2 e1
sums e e1 h1 a a1 a2 o o1 o2 f f1 f2 s s1 q =
    let p1 = q.ends in
    let p2 = q.heard in
    let p3 = q.asked in
    let p4 = q.ordered in
    let p5 = q.fallen in
    let p6 = q.stands in
    let p7 = q.all_asked in
    let p8 = q.all_ordered in
    let p9 = q.all_fallen in
    let p10 = q.asks in
    let p11 = q.falls in
    let p12 = q.one in
    let p13 = q.fell in
    record {
      ordered = omega (arith, p1, p2, p3, p4, p8, p10, p11, p12, p13);
      asked = omega (arith, p1, p2, p3, p7, p10, p11, p12, p13);
      fallen = omega (arith, p1, p2, p3, p4, p5, p6, p9, p13);
      orders = omega (arith, p1, p2, p3, p4, p8, p10, p11, p12, p13);
      asks = omega (arith, p1, p2, p3, p7, p10, p11, p12, p13);
      falls = omega (arith, p1, p9, p13);
    }

-- ---- the end of a stretch behind which a bit falls

pub record AtEnd (s : Stretch) (end : LastEnd s) : Type 0 where
  pub page : HasPage (front s (speaks s end.tags) end.last.cut)
  -- as many were sent and asked the disk before it as ended, and one more; none behind it
  pub orders : orders (front s (speaks s end.tags) end.last.cut) ≡ ended_with s.tag (calls (front s (speaks s end.tags) end.last.cut)) + 1
  pub asks : length (asked (front s (speaks s end.tags) end.last.cut)) ≡ ended_with s.tag (calls (front s (speaks s end.tags) end.last.cut)) + 1
  pub falls : falls (front s (speaks s end.tags) end.last.cut) ≤ ended_with s.tag (calls (front s (speaks s end.tags) end.last.cut))
  pub quiet : ordered_in (own s) s.tag end.last.cut.next end.last.cut.later s.now end.last.cut.rest ≡ 0
  pub none : asked_of s.many s.n s.tag (sent_in (calls_in end.last.cut.next end.last.cut.later s.now end.last.cut.rest)) ≡ []
  pub alone : AreNotIssued s.tag (calls_in end.last.cut.next end.last.cut.later s.now end.last.cut.rest)

pub due_now : Laws → (s : Stretch) → GathersDue s.now
due_now laws s = (laws.slots.facts.falls.runs s.at s.deeds s.now s.run (due_at laws.slots s)).due

-- nothing is issued behind a moment at which one stands, if none falls
pub none_behind : Laws → (s : Stretch) → stands s ≡ 1 → (later : List Deed) (end : MachineState) (run : RunsRuled s.now later end) → fallen_in (own s) s.tag s.now later end run ≡ 0
    → AreNotIssued s.tag (calls_in s.now later end run)
none_behind laws s one later end run none =
    none_issued laws.stands s.ports s.legacy s.old s.opening (own s) s.tag s.low (s.before ++ s.deeds) s.now (whole_run s.before s.old s.at s.first s.deeds s.now s.run).all later end run
    (due_now laws s) one none

pub at_end : (laws : Laws) (s : Stretch) (fall : Fall s) → AllEnded s fall → (end : LastEnd s) → AtEnd s end
at_end laws s fall ended end =
    let c = end.last.cut in
    let deed : Deed = speaks s end.tags in
    let x : Call = Sends (out.Ends end.tags) in
    let t : Stretch = front s deed c in
    let rest : List Call = calls_of s.n c.next c.later s.now c.rest in
    let here : calls_at c.mid deed s.n ≡ x ∷ [] = ap (λ (b : Bool). if b then x ∷ [] else []) (eq-eqb s.n s.n refl) in
    let split : calls s ≡ calls t ++ x ∷ rest = c.own s.n ∙ ap (λ (l : List Call). calls t ++ (l ++ rest)) here in
    let disk : HasDisk s = has_disk laws.slots s in
    let all : AreCalls (new_disk s.p s.limit) (((s.base ++ calls t) ++ x ∷ []) ++ rest) =
    subst (AreCalls (new_disk s.p s.limit)) (ap (λ (l : List Call). s.base ++ l) split ∙ sym (append_assoc s.base (calls t) (x ∷ rest)) ∙ sym (append_assoc (s.base ++ calls t) (x ∷ []) rest)) disk.are in
    let are : AreCalls (new_disk s.p s.limit) ((s.base ++ calls t) ++ x ∷ []) = first_calls ((s.base ++ calls t) ++ x ∷ []) rest (new_disk s.p s.limit) all in
    let q : Counted s.p s.limit s.base s.tag (calls t ++ x ∷ []) =
    counted s.p s.limit s.base s.tag laws.slots.tags s.low (calls t ++ x ∷ []) (subst (AreCalls (new_disk s.p s.limit)) (append_assoc s.base (calls t) (x ∷ [])) are) (was_free s) in
    let fewer = q.fewer in
    let ends_x : ended_with s.tag (x ∷ []) ≡ 1 = end_one s.tag end.tags end.named in
    let ends_t = ended_both s.tag (calls t) (x ∷ []) in
    let heard_t = heard_both s.tag (calls t) (x ∷ []) in
    let none_later : ended_with s.tag rest ≡ 0 = sym (all_ends s.n s.tag c.later c.next s.now c.rest) ∙ end.last.none in
    let ends_s : ended_with s.tag (calls s) ≡ ended_with s.tag (calls t) + (ended_with s.tag (x ∷ []) + ended_with s.tag rest) =
    ap (ended_with s.tag) split ∙ ended_both s.tag (calls t) ((x ∷ []) ++ rest) ∙ ap (λ (k : ℕ). ended_with s.tag (calls t) + k) (ended_both s.tag (x ∷ []) rest) in
    let k = counts laws.slots s in
    let j = counts laws.slots t in
    let a_later : ℕ = length (asked_of s.many s.n s.tag (sent_in (calls_in c.next c.later s.now c.rest))) in
    let a_all : length (asked s) ≡ length (asked t) + a_later =
    ap (λ (l : List Event). length (asked_of s.many s.n s.tag (sent_in l))) c.events ∙ long_both s.many s.n s.tag (calls_in s.at c.sooner c.mid c.led) (calls_in c.next c.later s.now c.rest) in
    let o_all = c.ordered (own s) s.tag in
    let f_all = c.fallen (own s) s.tag in
    let o_later : ℕ = ordered_in (own s) s.tag c.next c.later s.now c.rest in
    let step : RunsRuled c.mid (deed ∷ c.later) s.now = (last_ruled c.sooner s.at c.mid c.led, (c.next, c.does, c.rest)) in
    let f_later : ℕ = fallen_in (own s) s.tag c.mid (deed ∷ c.later) s.now step in
    let n = sums (ended_with s.tag (calls s)) (ended_with s.tag (calls t)) (heard_with s.tag (calls t)) (length (asked s)) (length (asked t)) a_later (orders s) (orders t) o_later
    (falls s) (falls t) f_later (stands s) (stands t) (record {
      ends = omega (arith, ends_s, ends_x, none_later);
      heard = omega (arith, fewer, ends_t, heard_t, ends_x);
      asked = j.heard;
      ordered = j.asked;
      fallen = j.ordered;
      stands = j.one;
      all_asked = a_all;
      all_ordered = omega (arith, o_all);
      all_fallen = f_all;
      asks = k.asked;
      falls = k.ordered;
      one = k.one;
      fell = ended.fallen;
    }) in
    let page : HasPage t = has_page laws t end.tags end.named c.next c.does are in
    record {
      page = page;
      orders = n.orders;
      asks = n.asks;
      falls = n.falls;
      quiet = n.ordered;
      none = no_length _ n.asked;
      alone = none_behind laws t page.slots.stands (deed ∷ c.later) s.now step n.fallen;
    }
  where
    end_one : (tag tags : ℕ) → has_bit tags tag ≡ true → ended_with tag (Sends (out.Ends tags) ∷ []) ≡ 1
    end_one tag tags e = by (has_bit tags tag) e
      where
        by : (b : Bool) → b ≡ true → once_if b + 0 ≡ 1
        by true e = refl
        by false e = absurd (cc)
