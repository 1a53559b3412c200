-- A command that a FIS ends which is no Register FIS is a PIO data-in whose last block is set up, and the FIS is its Data. Among the calls of a disk the PIO Setup FIS
-- of this block is found by what settles.
use Rattle.std.proofs.Common.{◌≡◌, ◌⊎◌, ℕ, ◌<◌, ◌≤◌, ◌&&◌, Bool, true, false, List, [], ◌∷◌, ◌++◌, append-nil, length, Option, Some, None, refl}
use Rattle.std.proofs.Common.{sym, ap, subst, ◌∙◌, inl, inr, arith}
use Rattle.std.specs.Prelude.{◌==◌, ◌||◌, if◌then◌else◌, slice_index, IfSome, MatchOption, Result, Ok}
use Rattle.fis_view.specs.{Seen.{kind_of, seen}, declared.view.{Fis.Fis, FisFault.FisFault}}
use Rattle.fis_view.specs.Table as table
use Rattle.fis_view.specs.declared.view.Fis.TheVariants as view
use Rattle.slots.specs.{Slots.{Issue, is_pio, is_queued_issue, is_waiting, issue_at, match_some, own_issue, slots_of}, Table.IsIssue}
use Rattle.hba_fbs.specs.{Status.is_quiet, Views.view_of, Taking.port_of}
use Rattle.hba_laws.specs.{Agreement.IsTold, History.{Answered, Carried, Event as HistoryEvent, History, Setup, completes, ends_well, is_set_up}}
use Rattle.hba_laws.specs.History.{last_setup, waiting_in}
use Rattle.hba_laws.proofs.Door.{own_here}
use Rattle.ahci_controller.specs.{States.ControllerState, Taking.room_for}
use Rattle.controller_laws.specs.Events.{IsController}
use Rattle.ata_reply.specs.{Replies.Shows, declared.reply.Reply.Reply}
use Rattle.ata_reply.specs.declared.reply.Reply.TheVariants as replies
use Rattle.sata_disk.specs.declared.out.Out.{Out}
use Rattle.sata_disk.specs.declared.out.Out.TheVariants as out
use Rattle.sata_disk_books.specs.LastData.{sets_up_last}
use Rattle.sata_disk_laws.specs.Calls.{Answers, Asks, Call, Hears, Plugs, Sends, Starts}
use Rattle.ahci_machine.specs.States.{MachineState}
use Rattle.ahci_machine.specs.declared.act.Act.TheVariants as act
use Rattle.machine_laws.specs.{Deeds.{Does, Moved}, Rising.risen}
use Rattle.machine_theorem.specs.{Completed.{IsCompleted, IsEndedInHistory}, Ending.carries, InTurn.{answered_in, is_answer, is_answering}}
use Rattle.machine_theorem.specs.{Settled.{IsBehindLastBlock, is_data, settled_in}, Tags.once_if}
use Rattle.machine_theorem.proofs.{AnswersHeard.{IsMild, fis_mild}, Closing.EndsTrue, EndSent.{kind_view, seen_kind}, FisEvents.{IsNoData, fis_plain}}
use Rattle.machine_theorem.proofs.{KindsSent.{call_kinds, said_kinds, said_long}, QuietCalls.at_some, Sent.type_is, Shutting.{is_shut, shut}}
use Rattle.machine_theorem.proofs.{Shutting.shut_view, SinglesOwn.completed_waits}

-- ---- what the FIS is that ends the command of the slot

some_same : (o : Option Issue) (i j : Issue) → o ≡ Some i → o ≡ Some j → i ≡ j
some_same o i j a b = by (sym a ∙ b)
  where
    by : Some i ≡ Some j → i ≡ j
    by e = cc

match_some_is : (o : Option Issue) (i : Issue) (P : Issue → Type 0) → o ≡ Some i → MatchOption o (Unit {0}) P → P i
match_some_is o i P is h = subst (λ (x : Option Issue). MatchOption x (Unit {0}) P) is h

mild_carried : (slot : ℕ) (e : HistoryEvent) → IsMild e → (e ≡ Answered) ⊎ ((bytes : List ℕ) × (e ≡ Carried bytes)) → (bytes : List ℕ) × (e ≡ Carried bytes)
mild_carried slot e mild (inl answered) = absurd (subst IsMild answered mild)
mild_carried slot e mild (inr carried) = carried

and_four : (a b c d : Bool) → (a && b && c && d) ≡ true → (a ≡ true) × (c ≡ true)
and_four true true true true e = (refl, refl)
and_four true true true false e = absurd (cc)
and_four true true false d e = absurd (cc)
and_four true false c d e = absurd (cc)
and_four false b c d e = absurd (cc)

ends_quiet : (g : Setup) (gone : ℕ) → ends_well g gone ≡ true → match_some g.ends false is_quiet ≡ true
ends_quiet g gone e = by (gone == g.count) e
  where
    by : (b : Bool) → match_some (if b then g.ends else None) false is_quiet ≡ true → match_some g.ends false is_quiet ≡ true
    by true e = e
    by false e = absurd (cc)

setup_quiet : (o : Option Setup) (gone : ℕ) → match_some o false (λ g. ends_well g gone) ≡ true
    → match_some o false (λ x. match_some x.ends false is_quiet) ≡ true
setup_quiet None gone e = absurd (cc)
setup_quiet (Some g) gone e = ends_quiet g gone e

-- a command that a FIS ends which is no Register FIS is shut, and the FIS carries Data
pub record IsEndedByData (dev : ℕ) (c : ControllerState) (frame : List ℕ) : Type 0 where
  pub shuts : is_shut dev c ≡ true
  pub data' : carries (seen frame) ≡ true

pub data_ends : (slot : ℕ) → slot < 32 → (c : ControllerState) → IsController c → (frame : List ℕ) → IsEndedInHistory c frame slot → (i : Issue)
    → issue_at c.core.slots slot ≡ Some i
    → is_queued_issue i ≡ false → is_answering frame ≡ false → IsEndedByData i.dev c frame
data_ends slot low c k frame ended i there plain other =
    let done : IsCompleted slot ended.past c frame = ended.completed in
    let same : done.issue ≡ i = some_same (issue_at c.core.slots slot) done.issue i done.is there in
    let long = k.slots.slots in
    let waits : is_waiting i ≡ true = completed_waits slot low c k frame ended i there plain in
    let is : IsIssue i = match_some_is (issue_at c.core.slots slot) i IsIssue there (k.slots.issues slot) in
    let mine : own_issue (slots_of i.dev c.core.slots) slot ≡ Some i = own_here slot c.core.slots i (omega (arith, long, low)) there in
    let past : History = ended.past i.dev in
    let told : IsTold (view_of i.dev c.core) past = ended.told i.dev is.dev_below in
    let mild : IsMild done.event = subst (λ (o : Option HistoryEvent). IfSome o IsMild) done.heard (fis_mild c.core (room_for c (port_of frame)) frame other) in
    let carried = mild_carried slot done.event mild (done.kind (ap is_queued_issue same ∙ plain)) in
    let completes_it : completes slot (Carried carried.0) past i.work ≡ true =
    ap (λ (e : HistoryEvent). completes slot e past i.work) (sym carried.1) ∙ ap (λ (j : Issue). completes slot done.event (ended.past j.dev) j.work) (sym same) ∙ done.completes in
    let parts = and_four (is_set_up slot past) (is_pio i.work.kind) _ _ completes_it in
    let at : waiting_in past ≡ Some slot = at_some slot (waiting_in past) ((told.agrees.issues_agree slot i mine).waits_is ∙ waits) in
    let shuts : shut past ≡ true =
    ap (λ (o : Option ℕ). match_some o false (λ t. is_set_up t past && match_some (last_setup past) false (λ x. match_some x.ends false is_quiet))) at
    ∙ ap (λ (b : Bool). b && match_some (last_setup past) false (λ x. match_some x.ends false is_quiet)) parts.0 ∙ setup_quiet (last_setup past) _ parts.1 in
    record {
      shuts = shut_view i.dev c k past told slot i mine waits shuts;
      data' = by (carries (seen frame)) refl carried.0 carried.1;
    }
  where
    no_carried : (bytes : List ℕ) (e : HistoryEvent) → e ≡ Carried bytes → IsNoData e → ⊥
    no_carried bytes e is none = subst IsNoData is none

    by : (b : Bool) → carries (seen frame) ≡ b → (bytes : List ℕ) → ended.completed.event ≡ Carried bytes → carries (seen frame) ≡ true
    by true is bytes carried = is
    by false is bytes carried =
        absurd (no_carried bytes ended.completed.event carried
        (subst (λ (o : Option HistoryEvent). IfSome o IsNoData) ended.completed.heard (fis_plain c.core (room_for c (port_of frame)) frame is)))

-- ---- a Data FIS of a disk is its Data

carrying_kind : (f : List ℕ) (r : Result Fis FisFault) → seen f ≡ r → carries r ≡ true → kind_of f ≡ table.Data
carrying_kind f (Ok (view.Payload g)) is e = seen_kind f (view.Payload g) is
carrying_kind f other is e = absurd (cc)

other_kind : {C : Type 0} (f g : List ℕ) (v : Fis) → slice_index f 0 ≡ slice_index g 0 → carries (seen f) ≡ true → seen g ≡ Ok v
    → (table.Data ≡ kind_view v → C) → C
other_kind f g v same data' viewed other =
    other (sym (carrying_kind f (seen f) refl data') ∙ ap (λ (t : ℕ). kind_of (t ∷ [])) same ∙ seen_kind g v viewed)

reply_no_data : {C : Type 0} (r : Reply) (f g : List ℕ) → Shows r g → slice_index f 0 ≡ slice_index g 0 → carries (seen f) ≡ true → C
reply_no_data replies.Signature f g shows same is = other_kind f g (view.RegD2H g) same is shows.viewed (λ e. absurd (cc))
reply_no_data replies.Accepted f g shows same is = other_kind f g (view.RegD2H g) same is shows.viewed (λ e. absurd (cc))
reply_no_data replies.Done f g shows same is = other_kind f g (view.RegD2H g) same is shows.viewed (λ e. absurd (cc))
reply_no_data replies.Active f g shows same is = other_kind f g (view.RegD2H g) same is shows.viewed (λ e. absurd (cc))
reply_no_data replies.Healthy f g shows same is = other_kind f g (view.RegD2H g) same is shows.viewed (λ e. absurd (cc))
reply_no_data (replies.Failed x) f g shows same is = other_kind f g (view.RegD2H g) same is shows.viewed (λ e. absurd (cc))
reply_no_data (replies.Ends tags) f g shows same is = other_kind f g (view.SetBits g) same is shows.viewed (λ e. absurd (cc))
reply_no_data (replies.Aborts error) f g shows same is = other_kind f g (view.SetBits g) same is shows.viewed (λ e. absurd (cc))
reply_no_data (replies.SetUp s) f g shows same is = other_kind f g (view.DmaSetup g) same is shows.viewed (λ e. absurd (cc))
reply_no_data (replies.Announce a) f g shows same is = other_kind f g (view.PioSetup g) same is shows.viewed (λ e. absurd (cc))
reply_no_data replies.Activate f g shows same is = other_kind f g (view.DmaActivate g) same is shows.viewed (λ e. absurd (cc))

pub says_data : (old : MachineState) (k : ℕ) (o : Out) (new : MachineState) (does : Does old (Moved (act.Speaks k o)) new)
    → carries (seen (risen old.fan k does.does.does.1.frame).bytes) ≡ true → is_data o ≡ true
says_data old k (out.Own r) new does is = let h = does.does.does.1 in reply_no_data r (risen old.fan k h.frame).bytes h.frame.bytes h.bytes (type_is old.fan k h.frame) is
says_data old k (out.Beside r) new does is = let h = does.does.does.1 in reply_no_data r (risen old.fan k h.frame).bytes h.frame.bytes h.bytes (type_is old.fan k h.frame) is
says_data old k (out.Of p r) new does is = let h = does.does.does.1 in reply_no_data r (risen old.fan k h.frame).bytes h.frame.bytes h.bytes (type_is old.fan k h.frame) is
says_data old k (out.Ends tags) new does is =
    let h = does.does.does.1 in reply_no_data (replies.Ends tags) (risen old.fan k h.frame).bytes h.frame.bytes h.bytes (type_is old.fan k h.frame) is
says_data old k (out.Page page) new does is = refl
says_data old k (out.Data place len) new does is = refl

-- ---- the PIO Setup FIS of a last block, among the calls of a disk

ends_in : (xs ys : List Bool) → EndsTrue (xs ++ ys) → (ys ≡ []) ⊎ EndsTrue ys
ends_in [] ys ends = inr ends
ends_in (x ∷ xs) ys ends = by ends.front ends.is (λ front is. ends_in xs ys (record { front = front; is = is }))
  where
    by : (front : List Bool) → x ∷ (xs ++ ys) ≡ front ++ true ∷ [] → ((front : List Bool) → xs ++ ys ≡ front ++ true ∷ [] → (ys ≡ []) ⊎ EndsTrue ys)
        → (ys ≡ []) ⊎ EndsTrue ys
    by [] is rest = inl (no_more xs ys (ap (λ (l : List Bool). tail_of l) is))
      where
        tail_of : List Bool → List Bool
        tail_of [] = []
        tail_of (y ∷ l) = l

        no_more : (us vs : List Bool) → us ++ vs ≡ [] → vs ≡ []
        no_more [] vs e = e
        no_more (u ∷ us) vs e = absurd (cc)
    by (y ∷ front) is rest = rest front (ap (λ (l : List Bool). rest_of l) is)
      where
        rest_of : List Bool → List Bool
        rest_of [] = []
        rest_of (z ∷ l) = l

no_true : {C : Type 0} (front : List Bool) → [] ≡ front ++ true ∷ [] → C
no_true [] e = absurd (cc)
no_true (x ∷ front) e = absurd (cc)

kind_true : (a b : Bool) (front : List Bool) → (if a then false ∷ [] else (if b then true ∷ [] else [])) ≡ front ++ true ∷ [] → b ≡ true
kind_true true b [] e = absurd (cc)
kind_true true b (x ∷ []) e = absurd (cc)
kind_true true b (x ∷ y ∷ front) e = absurd (cc)
kind_true false true front e = refl
kind_true false false front e = no_true front e

call_block : (c : Call) (later : List Call) → EndsTrue (call_kinds c) → settled_in later ≡ 0 → IsBehindLastBlock (c ∷ later)
call_block (Sends o) later ends quiet =
    record { front = []; said = o; later = later; split = refl; sets = kind_true (is_answer o) (sets_up_last o) ends.front ends.is; quiet = quiet }
call_block other later ends quiet = no_true ends.front ends.is

-- it ends the first of these, or of those behind it
first_ends : (xs ys : List Bool) → EndsTrue (xs ++ ys) → ys ≡ [] → EndsTrue xs
first_ends xs ys ends none = subst EndsTrue (ap (λ (l : List Bool). xs ++ l) none ∙ append-nil xs) ends

pub behind_block : (calls : List Call) → EndsTrue (said_kinds calls) → IsBehindLastBlock calls
behind_block [] ends = no_true ends.front ends.is
behind_block (c ∷ later) ends = elim (ends_in (call_kinds c) (said_kinds later) ends) [
  | inl none ↦
      let long = said_long later in
      let zero = ap (λ (l : List Bool). length l) none in
      call_block c later (first_ends (call_kinds c) (said_kinds later) ends none) (omega (arith, long, zero))
  | inr rest ↦
      let b = behind_block later rest in
      record { front = c ∷ b.front; said = b.said; later = b.later; split = ap (λ (l : List Call). c ∷ l) b.split; sets = b.sets; quiet = b.quiet }
]

pub answered_less : (calls : List Call) → answered_in calls ≤ settled_in calls
answered_less [] = omega arith
answered_less (Sends o ∷ later) = let rest = answered_less later in let one = less (is_answer o) (sets_up_last o) in omega (arith, rest, one)
  where
    less : (a b : Bool) → once_if a ≤ once_if (a || b)
    less true b = omega arith
    less false true = omega arith
    less false false = omega arith
answered_less (Hears bytes ∷ later) = let rest = answered_less later in omega (arith, rest)
answered_less (Plugs ∷ later) = let rest = answered_less later in omega (arith, rest)
answered_less (Starts x ∷ later) = let rest = answered_less later in omega (arith, rest)
answered_less (Asks r ∷ later) = let rest = answered_less later in omega (arith, rest)
answered_less (Answers n a ∷ later) = let rest = answered_less later in omega (arith, rest)
