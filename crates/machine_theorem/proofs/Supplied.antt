-- Each Data FIS that a disk heard has what was supplied for it, and so has all that came for a command of a disk that was new.
use Rattle.std.proofs.{Common.{◌≡◌, ℕ, Bool, List, [], ◌∷◌, ◌++◌, sym, ap, ◌∙◌, subst, All}, lemmas.List.Elements.{All-cons, All-nil}}
use Rattle.std.specs.Prelude.{slice_index, Some}
use Rattle.block_disk.specs.Laws.{Page}
use Rattle.disk_pages.specs.declared.profile.Profile.{Profile}
use Rattle.sata_disk_books.specs.Books.{IsAskedFor, page_in}
use Rattle.sata_disk_laws.specs.Calls as disk_call
use Rattle.sata_disk_laws.specs.Calls.{Call, Hears}
use Rattle.ahci_machine.specs.States.{IsOpeningMachine, MachineState}
use Rattle.machine_laws.specs.{ControllerLaws.{RunsRuled, calls_in}, Deeds.Deed, Heard.{AllHeard, life_in, no_life}}
use Rattle.machine_theorem.specs.{Guest.{HeardIsOfGuest, IsOfGuest, IsOrdered, IsSupplied}, Writes.{AreHeard, AreSupplied, DataAreSupplied}}
use Rattle.machine_theorem.specs.Writes.{HasSupplied, IsSuppliedData}
use Rattle.machine_theorem.proofs.{Came.{CameSince, Each, IsDataType, came_since}, FromHost.{OfAsked, of_asked}, OfGuest.weaker}
use Rattle.machine_theorem.proofs.{Registered.order_is_no_data, Sent.marked_type}
use Rattle.machine_theorem.proofs.FromHost as from_host

-- ---- Data that are heard

data_of : (ports : ℕ) (legacy : Bool) (old : MachineState) → IsOpeningMachine ports legacy old → (deeds : List Deed) (now : MachineState) (run : RunsRuled old deeds now) (n : ℕ)
    (fis : List ℕ) → IsOfGuest old deeds now run n fis → IsDataType fis → IsSuppliedData old deeds now run n fis
data_of ports legacy old opening deeds now run n fis (IsOrdered dev slot order sent is port) type =
    absurd (order_is_no_data old.controller opening.controller (calls_in old deeds now run) dev slot order sent
    (sym (ap (λ (b : List ℕ). slice_index b 0) is ∙ marked_type order 0) ∙ type))
data_of ports legacy old opening deeds now run n fis (IsSupplied dev fed port) type = record { dev = dev; fed = fed; port = port }

pub data_are : HeardIsOfGuest → DataAreSupplied
data_are law ports legacy old opening deeds now run n =
    weaker (IsOfGuest old deeds now run n) (λ fis. IsDataType fis → IsSuppliedData old deeds now run n fis)
    (λ fis of. data_of ports legacy old opening deeds now run n fis of) (life_in n no_life old deeds now run).calls (law ports legacy old opening deeds now run n)

-- ---- what came for a command

split_heard : (Q : List ℕ → Type 0) (front later : List Call) (bytes : List ℕ) → AllHeard Q (front ++ Hears bytes ∷ later) → Q bytes × AllHeard Q later
split_heard Q [] later bytes h = h
split_heard Q (Hears b ∷ front) later bytes h = split_heard Q front later bytes h.1
split_heard Q (disk_call.Plugs ∷ front) later bytes h = split_heard Q front later bytes h
split_heard Q (disk_call.Starts x ∷ front) later bytes h = split_heard Q front later bytes h
split_heard Q (disk_call.Asks r ∷ front) later bytes h = split_heard Q front later bytes h
split_heard Q (disk_call.Answers number a ∷ front) later bytes h = split_heard Q front later bytes h
split_heard Q (disk_call.Sends o ∷ front) later bytes h = split_heard Q front later bytes h

each_heard : (P : List ℕ → Type 0) (fises : List (List ℕ)) (calls : List Call) → AllHeard (λ fis. IsDataType fis → P fis) calls → AreHeard fises calls → Each IsDataType fises → All P fises
each_heard P [] calls all heard types = All-nil P
each_heard P (f ∷ rest) calls all heard types =
    let here = split_heard (λ fis. IsDataType fis → P fis) heard.before heard.later f (subst (λ (l : List Call). AllHeard (λ fis. IsDataType fis → P fis) l) heard.is all) in
    All-cons P f rest (here.0 types.0) (each_heard P rest heard.later here.1 heard.after types.1)

-- the laws, as the crates below have them
pub record Laws : Type 0 where
  pub slots : from_host.Laws
  pub guest : HeardIsOfGuest

module _ (laws : Laws) (ports : ℕ) (legacy : Bool) (old : MachineState) (opening : IsOpeningMachine ports legacy old) (deeds : List Deed) (now : MachineState)
    (run : RunsRuled old deeds now) (n : ℕ) (p : Profile) (limit : ℕ) where
  abbrev calls : List Call
  calls = (life_in n no_life old deeds now run).calls

  came : (page : Page) (since : CameSince p limit calls page.command page.ledger.came) (asked : IsAskedFor p limit calls page.command) → asked ≡ since.asked
      → AreSupplied old deeds now run n asked.later page.ledger.came
  came page since asked same =
      let all : AllHeard (λ fis. IsDataType fis → IsSuppliedData old deeds now run n fis) (since.asked.before ++ Hears since.asked.bytes ∷ since.asked.later) =
      subst (λ (l : List Call). AllHeard (λ fis. IsDataType fis → IsSuppliedData old deeds now run n fis) l) since.asked.heard
      (data_are laws.guest ports legacy old opening deeds now run n) in
      record {
        fises = since.fises;
        heard = subst (λ (a : IsAskedFor p limit calls page.command). AreHeard since.fises a.later) (sym same) since.heard;
        each = each_heard (IsSuppliedData old deeds now run n) since.fises since.asked.later
            (split_heard (λ fis. IsDataType fis → IsSuppliedData old deeds now run n fis) since.asked.before since.asked.later since.asked.bytes all).1 since.heard since.types;
        is = since.is;
      }

  -- the page of a place, of which this holds
  pub supplied : (place : ℕ) (Holds : Page → Type 0) (page : Page) → page_in p limit calls place ≡ Some page → Holds page → HasSupplied old deeds now run n place Holds p limit
  supplied place Holds page is holds =
      let since : CameSince p limit calls page.command page.ledger.came = came_since laws.slots.asked p limit calls place page is in
      let of : OfAsked old deeds now run n p limit calls page.command since.asked = of_asked laws.slots ports legacy old opening deeds now run n p limit page.command since.asked in
      record {
        has = record { page = page; is = is; holds = holds; command = of.of };
        came = came page since of.of.asked of.same;
      }
