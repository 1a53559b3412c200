-- The command of each page is one that the host asked for by a FIS of a slot.
use Rattle.std.proofs.Common.{◌≡◌, ℕ, ◌+◌, ◌*◌, ◌/◌, ◌%◌, ◌<◌, ◌≤◌, Bool, true, false, List, [], ◌∷◌, ◌++◌, length, Result, Ok, Err, refl, sym, ap}
use Rattle.std.proofs.{Common.{◌∙◌, subst, arith}, lemmas.{Bool.{eqb-true}, List.{length-set}}}
use Rattle.std.specs.Prelude.{if◌then◌else◌, slice_index}
use Rattle.fis_view.specs.{Frames.{Stamped, marked}, Seen.{frame_of, kind_of, may_have, seen, view_as}, Table.{H2d, Count, Kind, PmPort, field}}
use Rattle.fis_view.specs.declared.view.{Fis.Fis, FisFault.{FisFault, TheVariants.WrongLength}}
use Rattle.fis_view.specs.declared.view.Fis.TheVariants as view
use Rattle.fis_view.proofs.Door.{is_marked_from}
use Rattle.multiplier.specs.State.{pm_port}
use Rattle.block_command.specs.declared.command.Command.{Command}
use Rattle.controller_laws.specs.{Events.Event, Sources.no_sources}
use Rattle.disk_pages.specs.declared.profile.Profile.{Profile}
use Rattle.sata_disk_books.specs.{Books.{CommandsAreAsked, IsAskedFor}, Ended.PlacesAreTags}
use Rattle.sata_disk_laws.specs.{Calls.{Call, Hears}, Laws.reached}
use Rattle.sata_disk_laws.specs.Calls as disk_call
use Rattle.ahci_machine.specs.States.{HasRules, IsOpeningMachine, MachineState}
use Rattle.machine_laws.specs.{ControllerLaws.{OpensLawful, OpensSo, RunsRuled, calls_in}, Deeds.Deed, Feeding.OpensUnread, Heard.AllHeard}
use Rattle.machine_laws.specs.{Heard.{DisksHaveLived, FellFrom, HeardWereSent, IsSentOut, life_in, no_life}, Rising.is_multiplier}
use Rattle.machine_theorem.specs.Commands.{CommandsAreOfSlots, CommandsOfNewDisks, IsFromHost, IsOfSlot, Before, Since}
use Rattle.machine_theorem.proofs.Ordered as ordered
use Rattle.machine_theorem.proofs.{Ordered.{IsOrder, last_kept, low_slot}, Sent.{marked_type, seen_data}}
use Rattle.machine_theorem.proofs.Still as still

-- ---- where a call of a joined list stands

-- with such a call in the first list, or in the second
data IsIn (xs ys before later : List Call) (c : Call) : Type 0 where
  First : (rest : List Call) → xs ≡ before ++ c ∷ rest → IsIn xs ys before later c
  Second : (front : List Call) → ys ≡ front ++ c ∷ later → IsIn xs ys before later c

abbrev tail_of : List Call → List Call
tail_of [] = []
tail_of (c ∷ later) = later

abbrev head_or : Call → List Call → Call
head_or c [] = c
head_or c (d ∷ later) = d

more : (a b : Call) (xs ys before later : List Call) (c : Call) → a ≡ b → IsIn xs ys before later c → IsIn (a ∷ xs) ys (b ∷ before) later c
more a b xs ys before later c same (First rest is) = First rest (ap (λ (d : Call). d ∷ xs) same ∙ ap (λ (l : List Call). b ∷ l) is)
more a b xs ys before later c same (Second front is) = Second front is

find : (xs ys before later : List Call) (c : Call) → xs ++ ys ≡ before ++ c ∷ later → IsIn xs ys before later c
find [] ys before later c is = Second before is
find (a ∷ xs) ys [] later c is = First xs (ap (λ (d : Call). d ∷ xs) (ap (head_or c) is))
find (a ∷ xs) ys (b ∷ before) later c is =
    more a b xs ys before later c (ap (head_or a) is) (find xs ys before later c (ap tail_of is))

heard_at : (Q : List ℕ → Type 0) (front later : List Call) (bytes : List ℕ) → AllHeard Q (front ++ Hears bytes ∷ later) → Q bytes
heard_at Q [] later bytes h = h.0
heard_at Q (Hears b ∷ front) later bytes h = heard_at Q front later bytes h.1
heard_at Q (disk_call.Plugs ∷ front) later bytes h = heard_at Q front later bytes h
heard_at Q (disk_call.Starts x ∷ front) later bytes h = heard_at Q front later bytes h
heard_at Q (disk_call.Asks r ∷ front) later bytes h = heard_at Q front later bytes h
heard_at Q (disk_call.Answers number a ∷ front) later bytes h = heard_at Q front later bytes h
heard_at Q (disk_call.Sends o ∷ front) later bytes h = heard_at Q front later bytes h

-- ---- a Register FIS of a host

abbrev frame_in : Result Fis FisFault → List ℕ
frame_in (Ok v) = frame_of v
frame_in (Err e) = []

record IsRegister (kind : Kind) (b : Bool) (f g : List ℕ) : Type 0 where
  kind_is : kind ≡ H2d
  long : b ≡ true
  same : g ≡ f

register_by : (kind : Kind) (b : Bool) (f g : List ℕ) → (if b then Ok (view_as kind f) else Err WrongLength) ≡ Ok (view.RegH2D g) → IsRegister kind b f g
register_by kind false f g h = absurd (cc)
register_by H2d true f g h = record { kind_is = refl; long = refl; same = sym (ap frame_in h) }
register_by kind true f g h = absurd (cc)

register : (f g : List ℕ) → seen f ≡ Ok (view.RegH2D g) → IsRegister (kind_of f) (may_have (kind_of f) (length f)) f g
unfolding seen
register f g h = register_by (kind_of f) (may_have (kind_of f) (length f)) f g h

register_long : (f g : List ℕ) → seen f ≡ Ok (view.RegH2D g) → length f ≡ 20
register_long f g h =
    let r = register f g h in
    eqb-true (length f) 20 (subst (λ (k : Kind). may_have k (length f) ≡ true) r.kind_is r.long)

pub no_data : (f g : List ℕ) → seen f ≡ Ok (view.RegH2D g) → slice_index f 0 ≡ 0x46 → ⊥
no_data f g h type = let same : view.RegH2D g ≡ view.Payload f = seen_data f (view.RegH2D g) type h in cc

count_is : (f : List ℕ) → 2 ≤ length f → field H2d Count (marked f 0) ≡ field H2d Count f
count_is f room = (is_marked_from f 0 room (omega arith)).fields H2d Count (λ (e : Count ≡ PmPort). cc)

-- ---- the laws, as the crates below have them

pub record Laws : Type 0 where
  pub orders : ordered.Laws
  pub kept : still.Laws
  pub opens : OpensLawful
  pub unread : OpensUnread
  pub lived : DisksHaveLived
  pub heard : HeardWereSent
  pub asked : CommandsAreAsked
  pub tags : PlacesAreTags

first_ruled : (deeds : List Deed) (old new : MachineState) → RunsRuled old deeds new → HasRules old
first_ruled [] old new run = run.0
first_ruled (deed ∷ later) old new run = run.0

-- it came from a slot, and this is the FIS that asked for it
pub record OfAsked (old : MachineState) (deeds : List Deed) (now : MachineState) (run : RunsRuled old deeds now) (n : ℕ) (p : Profile) (limit : ℕ) (all : List Call) (c : Command)
    (asked : IsAskedFor p limit all c) : Type 0 where
  pub of : IsOfSlot old deeds now run n p limit all c
  pub same : of.asked ≡ asked

module _ (laws : Laws) (ports : ℕ) (legacy : Bool) (old : MachineState) (opening : IsOpeningMachine ports legacy old) (deeds : List Deed) (now : MachineState)
    (run : RunsRuled old deeds now) (n : ℕ) where
  abbrev calls : List Event
  calls = calls_in old deeds now run

  abbrev Fell : List ℕ → Type 0
  Fell bytes = FellFrom (λ f. IsSentOut f old deeds now run) (is_multiplier now.fan) n bytes

  opened : OpensSo old
  opened = laws.opens ports legacy old opening (first_ruled deeds old now run)

  -- what fell to the disk and is no Data is an order
  order_of : (f : Stamped) → (slice_index f.bytes 0 ≡ 0x46 → ⊥) → IsSentOut f old deeds now run → IsOrder old.controller calls f
  order_of f other sent =
      let rules : HasRules old = first_ruled deeds old now run in
      ordered.ordered laws.orders f other old.controller old deeds now run []
      (record { port = rules.port; slots = rules.slots; rules = rules.rules }, refl) opened.due
      (λ dev low. record { came = []; is = laws.unread ports legacy old opening dev }) sent

  of_slot : (p : Profile) (limit : ℕ) (all : List Call) (c : Command) (asked : IsAskedFor p limit all c) → (fell : Fell asked.bytes) → IsOrder old.controller calls fell.frame
      → OfAsked old deeds now run n p limit all c asked
  of_slot p limit all c asked fell order =
      let heard : asked.bytes ≡ marked order.fis 0 = fell.is ∙ ap (λ (f : Stamped). marked f.bytes 0) order.is in
      let long : length asked.bytes ≡ 20 = register_long asked.bytes asked.fis asked.viewed in
      let whole : length order.fis ≡ 20 = sym (ap (λ (l : List ℕ). length l) heard ∙ length-set order.fis 1 (slice_index order.fis 1 / 16 * 16 + 0)) ∙ long in
      record {
        of = record {
          asked = asked;
          dev = order.dev;
          slot = order.slot;
          fis = order.fis;
          sent = order.sent;
          heard = heard;
          port = λ many. ap pm_port (sym order.is) ∙ fell.port many;
          tag = λ low.
              ap (λ (x : Command). x.place) asked.is
              ∙ laws.tags (reached p limit asked.before) asked.fis asked.move asked.asks (subst (λ (x : Command). x.place < 32) asked.is low)
              ∙ ap (λ (f : List ℕ). field H2d Count f % 256 / 8) ((register asked.bytes asked.fis asked.viewed).same ∙ heard)
              ∙ ap (λ (k : ℕ). k % 256 / 8) (count_is order.fis (omega (arith, whole)));
          still = λ none runs source is.
              let low : order.slot < 32 =
              low_slot order.sent.at.core.slots order.slot order.dev (last_kept order.sent.before old.controller order.sent.at order.sent.first).slots order.sent.ordered.issued.owner in
              still.still laws.kept order.dev order.slot order.fis low order.sent.later none order.sent.before calls order.sent.is old.controller now.controller runs.calls no_sources
              (opened.sources order.slot low) source is;
        };
        same = refl;
      }

  since : (p : Profile) (limit : ℕ) (all : List Call) (c : Command) (asked : IsAskedFor p limit all c) → Fell asked.bytes → OfAsked old deeds now run n p limit all c asked
  since p limit all c asked fell =
      of_slot p limit all c asked fell
      (order_of fell.frame
      (λ type. no_data asked.bytes asked.fis asked.viewed (ap (λ (b : List ℕ). slice_index b 0) fell.is ∙ marked_type fell.frame.bytes 0 ∙ type)) fell.of)

  from_host : (p : Profile) (limit : ℕ) (before later : List Call) (c : Command) → AllHeard Fell later → (asked : IsAskedFor p limit (before ++ later) c)
      → IsIn before later asked.before asked.later (Hears asked.bytes) → IsFromHost old deeds now run n p limit before later c
  from_host p limit before later c all asked (First rest is) = Before (record {
    before = asked.before;
    bytes = asked.bytes;
    later = rest;
    heard = is;
    fis = asked.fis;
    viewed = asked.viewed;
    move = asked.move;
    asks = asked.asks;
    is = asked.is;
  })
  from_host p limit before later c all asked (Second front is) =
      Since (since p limit (before ++ later) c asked
      (heard_at Fell front asked.later asked.bytes (subst (λ (l : List Call). AllHeard Fell l) is all))).of

pub of_slots : Laws → CommandsAreOfSlots
of_slots laws ports legacy old opening deeds now run n d there lived p limit before is place page at =
    let later : List Call = (life_in n no_life old deeds now run).calls in
    let asked : IsAskedFor p limit (before ++ later) page.command = laws.asked p limit (before ++ later) place page at in
    from_host laws ports legacy old opening deeds now run n p limit before later page.command (laws.heard ports legacy old opening deeds now run n) asked
    (find before later asked.before asked.later (Hears asked.bytes) asked.heard)

pub of_asked : (laws : Laws) (ports : ℕ) (legacy : Bool) (old : MachineState) (opening : IsOpeningMachine ports legacy old) (deeds : List Deed) (now : MachineState)
    (run : RunsRuled old deeds now) (n : ℕ) (p : Profile) (limit : ℕ) (c : Command) (asked : IsAskedFor p limit (life_in n no_life old deeds now run).calls c)
    → OfAsked old deeds now run n p limit (life_in n no_life old deeds now run).calls c asked
of_asked laws ports legacy old opening deeds now run n p limit c asked =
    since laws ports legacy old opening deeds now run n p limit (life_in n no_life old deeds now run).calls c asked
    (heard_at (Fell laws ports legacy old opening deeds now run n) asked.before asked.later asked.bytes
    (subst (λ (l : List Call). AllHeard (Fell laws ports legacy old opening deeds now run n) l) asked.heard (laws.heard ports legacy old opening deeds now run n)))

pub of_new : Laws → CommandsOfNewDisks
of_new laws ports legacy old opening deeds now run n d there lived p limit is place page at =
    (of_asked laws ports legacy old opening deeds now run n p limit page.command (laws.asked p limit (life_in n no_life old deeds now run).calls place page at)).of
