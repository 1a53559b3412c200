-- One Data FIS, from the device to the guest.
use Rattle.std.proofs.Common.{◌≡◌, ◌<◌, ◌+◌, ℕ, Bool, List, [], ◌∷◌, Option, Some, None, refl, sym, ap, ◌∙◌, subst, arith}
use Rattle.std.proofs.lemmas.{List.Elements.{All-nil}, Option.same_Some}
use Rattle.std.specs.Prelude.{MatchOption, slice_index}
use Rattle.fis_view.specs.Frames.{Stamped}
use Rattle.guest_fetch.specs.{Commands.Fetched, declared.moves.Move.Move}
use Rattle.ahci_controller.specs.{States.{ControllerState, kept}, declared.wants.Carried.Carried}
use Rattle.ahci_controller.specs.declared.next.Next.TheVariants as next
use Rattle.controller_laws.specs.{Carrying.{AllAreSaid, AreLeft, AreSaid, Carrying, carrying_after}, Places.IsPlaced, Sources.AreSources}
use Rattle.controller_laws.specs.Sources.{IsReadFrom, Source, command_of, no_sources, sources_after, unmoved}
use Rattle.ahci_machine.specs.{Registers.{lent_bytes, part_of}, States.{HasRules, IsOpeningMachine, MachineState}}
use Rattle.machine_laws.specs.ControllerLaws.{ControllerHasLaws, ControllerRuns, HasLaws, OpensLawful, RunsAreCalls, RunsRuled, WritesArePlaced}
use Rattle.machine_laws.specs.{ControllerLaws.calls_in, Deeds.Deed, Lent.{CarriesTaken, FramesAreHeld, FramesAreLent, HoldsFrame, IsOf, OpensHolding}}
use Rattle.machine_laws.specs.{Lent.last_taken, Rising.{DataAreSent, GoesOnRising, OpensRising, no_frames}}
use Rattle.machine_theorem.specs.{Origins.IsSentIn, Parts.{AreInOrder, IsBrought, PartsAreCarried, PayloadIsBrought}}
use Rattle.machine_theorem.proofs.{Carried.{IsDataFis, carries_data}, Sent.{Laws as SentLaws, each_sent}, Taken.{IsKnown, taken_is_known}}

-- the laws, as the crates below have them
pub record Laws : Type 0 where
  pub disks : SentLaws
  pub opens_rising : OpensRising
  pub rising : GoesOnRising
  pub sent : DataAreSent
  pub opens_holding : OpensHolding
  pub held : FramesAreHeld
  pub lent : FramesAreLent
  pub carries : CarriesTaken
  pub opens : OpensLawful
  pub runs : RunsAreCalls
  pub have : ControllerHasLaws
  pub placed : WritesArePlaced

-- ---- the command

pub read_from : (o : Option Source) (f : Option Fetched) (source : Source) (command : Fetched) → IsReadFrom o f → o ≡ Some source → f ≡ Some command
    → command_of source ≡ Some (unmoved command)
read_from None f source command h is at = absurd (cc)
read_from (Some s) None source command h is at = absurd h
read_from (Some s) (Some c) source command h is at =
    ap command_of (sym (same_Some s source is)) ∙ h ∙ ap (λ (f : Fetched). Some (unmoved f)) (same_Some c command at)

-- ---- the bytes that are left to be written

-- while some are, a FIS carries them
none_left : (o : Option Carried) (w : Carried) → o ≡ Some w → o ≡ None → ⊥
none_left None w is none = cc
none_left (Some x) w is none = cc

in_order : (o : Option Carried) (c : ControllerState) (d : Carrying) (count : ℕ) (w : Carried) (m : Move) → o ≡ Some w → AreLeft o c d count → m.from ≡ w.from → AreInOrder d w.slot w.offset m
in_order None c d count w m is h at = absurd (cc)
in_order (Some x) c d count w m is h at =
    let same : x ≡ w = same_Some x w is in
    let offset : w.offset ≡ d.wrote.offset + count = ap (λ (y : Carried). y.offset) (sym same) ∙ h.offset in
    let behind : m.from ≡ 4 + count = at ∙ ap (λ (y : Carried). y.from) (sym same) ∙ h.from in
    record { own = ap (λ (y : Carried). y.slot) (sym same) ∙ h.slot; behind = omega (arith, behind); at = omega (arith, offset, behind) }

-- ---- one write

first_rules : (deeds : List Deed) (old new : MachineState) → RunsRuled old deeds new → HasRules old
first_rules [] old new run = run.0
first_rules (deed ∷ later) old new run = run.0

-- what is known of a run from an opening machine
record Known (old : MachineState) (deeds : List Deed) (now : MachineState) (run : RunsRuled old deeds now) (runs : ControllerRuns old deeds now run) : Type 0 where
  pub taken : IsKnown (λ f. IsSentIn f old deeds now run) (last_taken None (calls_in old deeds now run))
  pub holds : HoldsFrame now (last_taken None (calls_in old deeds now run))
  pub have : HasLaws old (calls_in old deeds now run) now runs.calls
  pub said : AreSaid now.controller (carrying_after None old.controller (calls_in old deeds now run) now.controller runs.calls)
  pub of_last : IsOf (carrying_after None old.controller (calls_in old deeds now run) now.controller runs.calls) (last_taken None (calls_in old deeds now run))
  pub is_data : IsDataFis (carrying_after None old.controller (calls_in old deeds now run) now.controller runs.calls)
  pub sources : (s : ℕ) → s < 32 → AreSources now.controller s (sources_after s no_sources old.controller (calls_in old deeds now run) now.controller runs.calls)

known : Laws → (ports : ℕ) (legacy : Bool) (old : MachineState) → IsOpeningMachine ports legacy old → (deeds : List Deed) (now : MachineState) (run : RunsRuled old deeds now)
    (runs : ControllerRuns old deeds now run) → Known old deeds now run runs
known laws ports legacy old opening deeds now run runs =
    let so = laws.opens ports legacy old opening (first_rules deeds old now run) in
    let have = laws.have old deeds now run runs in
    record {
      taken = taken_is_known laws.rising laws.sent (λ f. IsSentIn f old deeds now run) old deeds now run no_frames (laws.opens_rising ports legacy old opening)
          (All-nil (λ f. slice_index f.bytes 0 ≡ 0x46 → IsSentIn f old deeds now run))
          (each_sent laws.disks (λ f. IsSentIn f old deeds now run) old deeds now run (λ f is. is)) None tt;
      holds = laws.held old deeds now run None (laws.opens_holding ports legacy old opening);
      have = have;
      said = have.said None so.said;
      of_last = laws.carries old.controller now.controller (calls_in old deeds now run) runs.calls None None tt;
      is_data = carries_data old.controller now.controller (calls_in old deeds now run) runs.calls None tt;
      sources = λ s below. have.supplied s below no_sources (so.sources s below);
    }

-- the FIS that was carried last
record IsFis (old : MachineState) (deeds : List Deed) (now : MachineState) (run : RunsRuled old deeds now) (d : Carrying) : Type 0 where
  pub fis : Stamped
  pub sent : IsSentIn fis old deeds now run
  pub frame : d.frame ≡ fis.bytes

the_fis : (old : MachineState) (deeds : List Deed) (now : MachineState) (run : RunsRuled old deeds now) (d : Carrying) (last : Option (List ℕ))
    → IsKnown (λ f. IsSentIn f old deeds now run) last → last ≡ Some d.frame → slice_index d.frame 0 ≡ 0x46 → IsFis old deeds now run d
the_fis old deeds now run d last taken of type =
    let own = subst (IsKnown (λ f. IsSentIn f old deeds now run)) of taken in
    record { fis = own.frame; sent = own.sent (ap (λ (b : List ℕ). slice_index b 0) own.is ∙ type); frame = sym own.is }

by_carrying : (old : MachineState) (deeds : List Deed) (now : MachineState) (run : RunsRuled old deeds now) (runs : ControllerRuns old deeds now run) (m : Move) (bytes : List ℕ)
    → Known old deeds now run runs → MatchOption (last_taken None (calls_in old deeds now run)) ⊥ (λ frame. bytes ≡ part_of frame m.from m.len) → IsPlaced now.controller m
    → (o : Option Carrying) → carrying_after None old.controller (calls_in old deeds now run) now.controller runs.calls ≡ o
    → AreSaid now.controller o → IsOf o (last_taken None (calls_in old deeds now run)) → IsDataFis o → IsBrought old deeds now run m bytes
by_carrying old deeds now run runs m bytes k lends placed None is said of type = absurd (none_left now.controller.writes.payload placed.carried placed.is said)
by_carrying old deeds now run runs m bytes k lends placed (Some d) is said of type =
    let own : IsFis old deeds now run d = the_fis old deeds now run d (last_taken None (calls_in old deeds now run)) k.taken of type in
    let lent : bytes ≡ part_of d.frame m.from m.len = subst (λ (last : Option (List ℕ)). MatchOption last ⊥ (λ frame. bytes ≡ part_of frame m.from m.len)) of lends in
    record {
      fis = own.fis;
      sent = own.sent;
      bytes_are = lent ∙ ap (λ (b : List ℕ). part_of b m.from m.len) own.frame;
      placed = placed;
      runs = runs;
      supplied = λ below source issued. read_from _ (kept now.controller placed.carried.slot) source placed.command (k.sources placed.carried.slot below).issued issued placed.kept_is;
      last = d;
      is_last = is;
      frame = own.frame;
      order = λ numbered. in_order now.controller.writes.payload now.controller d (said numbered).count placed.carried m placed.is (said numbered).left placed.from;
    }

pub brought : Laws → PayloadIsBrought
brought laws ports legacy old opening deeds now run m new does =
    let runs : ControllerRuns old deeds now run = laws.runs old deeds now run (laws.opens ports legacy old opening (first_rules deeds old now run)).due in
    let k : Known old deeds now run runs = known laws ports legacy old opening deeds now run runs in
    by_carrying old deeds now run runs m (lent_bytes new) k (laws.lent now (next.Payload m) new does (last_taken None (calls_in old deeds now run)) k.holds)
    (laws.placed now (next.Payload m) new does).placed (carrying_after None old.controller (calls_in old deeds now run) now.controller runs.calls) refl k.said k.of_last k.is_data

-- ---- one FIS

pub carried : Laws → AllAreSaid → PartsAreCarried
carried laws all ports legacy old opening deeds now run runs d is =
    let k : Known old deeds now run runs = known laws ports legacy old opening deeds now run runs in
    let own : IsFis old deeds now run d =
    the_fis old deeds now run d (last_taken None (calls_in old deeds now run)) k.taken (subst (λ (o : Option Carrying). IsOf o (last_taken None (calls_in old deeds now run))) is k.of_last)
    (subst IsDataFis is k.is_data) in
    let said : AreSaid now.controller (Some d) = subst (AreSaid now.controller) is k.said in
    record {
      fis = own.fis;
      sent = own.sent;
      frame = own.frame;
      order = said;
      all = λ numbered free whole. all now.controller d said numbered free whole;
    }
