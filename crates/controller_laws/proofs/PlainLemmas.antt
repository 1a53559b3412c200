-- What the events of a core do to a queued command: what ends it, and that nothing is issued in its slot meanwhile.
use Rattle.std.proofs.Common.{◌≡◌, ◌≢◌, ℕ, zero, suc, ◌<◌, ◌^◌, ◌&&◌, ◌||◌, Bool, true, false, not, List, [], ◌∷◌, ◌++◌, drop, refl, sym, ap, subst}
use Rattle.std.proofs.{Common.{◌∙◌, inl, inr, Option, Some, None}, lemmas.Bool.{and_parts, cases_Bool, eq-eqb, eqb-true, false≢true, or_parts}}
use Rattle.std.proofs.lemmas.{Bool.{true≢false}, List.{append-nil, append_assoc}}
use Rattle.std.specs.{Prelude.{◌==◌, MatchOption, IfSome, is_some, if◌then◌else◌}, Option.option_map}
use Rattle.host_memory.specs.declared.table.Prd.{Prd}
use Rattle.hba_commands.specs.declared.command.Command.{Command}
use Rattle.slots.specs.{Slots.{Issue, Slots, has_bit, holds, is_control, is_pio, issue_at, match_some, own_issue}, Work.{is_dma, is_queued, is_read}}
use Rattle.slots.specs.declared.work.{Kind.{Kind, TheVariants.{PioIn, Control}}, Work.Work}
use Rattle.slots.specs.declared.answer.Answered as answered_type
use Rattle.slots.specs.declared.answer.Answered.TheVariants as answer
use Rattle.hba_fbs.specs.{Deciding.decided, Registers.falls, Taking.{admitted, ignores, port_of}, Views.{Port, view_of}, Writing.cleared_by}
use Rattle.hba_fbs.specs.{Writing.is_device, declared.{hearing.Happening.Happening, room.Room.Room, status.Block.Block, turn.Turn.Turn}}
use Rattle.hba_fbs.specs.declared.turn.Turn.TheVariants.{Feeds, Orders, Rests}
use Rattle.hba_fbs.specs.declared.hearing.Happening.TheVariants as happening
use Rattle.hba_fbs.specs.declared.register.Register as port_register
use Rattle.hba_fbs.specs.declared.register.Register.TheVariants as on_port
use Rattle.fis_view.specs.Seen.{seen}
use Rattle.hba_laws.specs.{Alike.{told_issue, told_issued}, CoreHistories.{event_by, frees, happened, history_through, is_freed_in, turned_for}}
use Rattle.hba_laws.specs.{CoreHistories.written_for, Cores.{CoreEvent, RunsBy}, Delivering.{begun_by, event_heard, event_of, event_of_answer}}
use Rattle.hba_laws.specs.{Delivering.{event_of_block, event_sent, is_control_issue}, History.{Event, History, Transfer, completes, filled}}
use Rattle.hba_laws.specs.History.{is_all_filled, is_at, is_set_up, issued, unless, waiting_in}
use Rattle.hba_laws.specs.Cores as core
use Rattle.hba_laws.specs.History as history

-- ---- histories

-- nothing is issued in slot s
abbrev pub NotIssue : ℕ → Event → Type 0
NotIssue s (history.Issued slot t) = (slot == s) ≡ false
NotIssue s e = Unit {0}

abbrev pub NoIssue : ℕ → History → Type 0
NoIssue s [] = Unit {0}
NoIssue s (e ∷ h) = NotIssue s e × NoIssue s h

pub no_issue_both : (s : ℕ) (h k : History) → NoIssue s h → NoIssue s k → NoIssue s (h ++ k)
no_issue_both s [] k a b = b
no_issue_both s (e ∷ h) k a b = (a.0, no_issue_both s h k a.1 b)

-- an event that neither issues nor frees leaves what is issued
unfreed : (f : Transfer → Bool) (o : Option Transfer) (t : Transfer) → o ≡ Some t → match_some o false f ≡ false → match_some o None (λ x. unless (f x) (Some x)) ≡ Some t
unfreed f o t is none = subst (λ (x : Option Transfer). match_some x None (λ y. unless (f y) (Some y)) ≡ Some t) (sym is) (by (f t) (sym (ap (λ (x : Option Transfer). match_some x false f) is) ∙ none))
  where
    by : (b : Bool) → b ≡ false → (if b then None else Some t) ≡ Some t
    by false h = refl
    by true h = absurd (true≢false h)

stays_issued : (s : ℕ) (e : Event) (past : History) (t : Transfer) → NotIssue s e → frees s e past ≡ false → issued s past ≡ Some t → issued s (e ∷ past) ≡ Some t
stays_issued s (history.Issued slot x) past t other none is = ap (λ (b : Bool). if b then Some x else issued s past) other ∙ is
stays_issued s (history.SentControl slot) past t other none is = ap (λ (b : Bool). if b then None else issued s past) none ∙ is
stays_issued s history.Emptied past t other none is = absurd (true≢false none)
stays_issued s (history.Sent slot) past t other none is = unfreed (λ x. completes s (history.Sent slot) past x.work) (issued s past) t is none
stays_issued s (history.SetUp tag offset count to_host) past t other none is = unfreed (λ x. completes s (history.SetUp tag offset count to_host) past x.work) (issued s past) t is none
stays_issued s (history.PioSetUp count to_host ends) past t other none is = unfreed (λ x. completes s (history.PioSetUp count to_host ends) past x.work) (issued s past) t is none
stays_issued s (history.Carried bytes) past t other none is = unfreed (λ x. completes s (history.Carried bytes) past x.work) (issued s past) t is none
stays_issued s history.Answered past t other none is = unfreed (λ x. completes s history.Answered past x.work) (issued s past) t is none
stays_issued s (history.Named mask) past t other none is = unfreed (λ x. completes s (history.Named mask) past x.work) (issued s past) t is none

pub kept_issued : (s : ℕ) (h past : History) (t : Transfer) → NoIssue s h → is_freed_in s h past ≡ false → issued s past ≡ Some t → issued s (h ++ past) ≡ Some t
kept_issued s [] past t other none is = is
kept_issued s (e ∷ h) past t other none is =
    let parts = or_parts (frees s e (h ++ past)) (is_freed_in s h past) none in
    stays_issued s e (h ++ past) t other.0 parts.0 (kept_issued s h past t other.1 parts.1 is)

-- ---- what frees a queued command

not_queued : (a b : Bool) → (a && not b) ≡ true → b ≡ true → ⊥
not_queued true true h q = false≢true h
not_queued true false h q = false≢true q
not_queued false b h q = false≢true h

queued_no_pio : (k : Kind) → is_queued k ≡ true → is_pio k ≡ false
queued_no_pio PioIn h = absurd (false≢true h)
queued_no_pio other h = refl

pub queued_no_control : (k : Kind) → is_queued k ≡ true → is_control k ≡ false
queued_no_control Control h = absurd (false≢true h)
queued_no_control other h = refl

at_issue : (f : Transfer → Bool) (o : Option Transfer) (t : Transfer) → o ≡ Some t → match_some o false f ≡ f t
at_issue f o t is = ap (λ (x : Option Transfer). match_some x false f) is

no_pio : (a b c d : Bool) → b ≡ false → (a && b && c && d) ≡ true → ⊥
no_pio true true c d gone h = true≢false gone
no_pio true false c d gone h = false≢true h
no_pio false b c d gone h = false≢true h

-- by Data none is
pub carried_frees : (s : ℕ) (bytes : List ℕ) (past : History) (t : Transfer) → issued s past ≡ Some t → is_queued t.work.kind ≡ true → frees s (history.Carried bytes) past ≡ true → ⊥
carried_frees s bytes past t is queued h =
    no_pio (is_set_up s past) (is_pio t.work.kind) _ _ (queued_no_pio t.work.kind queued) (sym (at_issue (λ x. completes s (history.Carried bytes) past x.work) (issued s past) t is) ∙ h)

-- what a FIS frees: it names the slot, all of whose bytes were moved
pub record Names (s : ℕ) (e : Event) (past : History) (len : ℕ) : Type 0 where
  pub mask : ℕ
  pub is : e ≡ history.Named mask
  pub names : has_bit mask s ≡ true
  pub moved : is_all_filled (filled s past) len ≡ true

abbrev pub IsOfFis : Event → Type 0
IsOfFis (history.Issued slot t) = ⊥
IsOfFis (history.SentControl slot) = ⊥
IsOfFis history.Emptied = ⊥
IsOfFis e = Unit {0}

pub frees_named : (s : ℕ) (e : Event) (past : History) (t : Transfer) → IsOfFis e → issued s past ≡ Some t → is_queued t.work.kind ≡ true → frees s e past ≡ true → Names s e past t.work.len
frees_named s (history.Sent slot) past t fis is queued h = absurd (false≢true (sym (at_issue (λ x. false) (issued s past) t is) ∙ h))
frees_named s (history.SetUp tag offset count to_host) past t fis is queued h = absurd (false≢true (sym (at_issue (λ x. false) (issued s past) t is) ∙ h))
frees_named s (history.PioSetUp count to_host ends) past t fis is queued h = absurd (false≢true (sym (at_issue (λ x. false) (issued s past) t is) ∙ h))
frees_named s (history.Carried bytes) past t fis is queued h = absurd (carried_frees s bytes past t is queued h)
frees_named s history.Answered past t fis is queued h =
    absurd (not_queued (is_at s (waiting_in past)) (is_queued t.work.kind) (and_parts (is_at s (waiting_in past) && not (is_queued t.work.kind)) _ (sym (at_issue (λ x. completes s history.Answered past x.work) (issued s past) t is) ∙ h)).0 queued)
frees_named s (history.Named mask) past t fis is queued h =
    let both = and_parts (has_bit mask s) (is_queued t.work.kind && is_all_filled (filled s past) t.work.len) (sym (at_issue (λ x. completes s (history.Named mask) past x.work) (issued s past) t is) ∙ h) in
    record { mask = mask; is = refl; names = both.0; moved = (and_parts (is_queued t.work.kind) (is_all_filled (filled s past) t.work.len) both.1).1 }
frees_named s other past t fis is queued h = absurd fis

-- ---- the events of a core

answer_event : (s : ℕ) (a : answered_type.Answered) → IfSome (event_of_answer a) (λ e. IsOfFis e × NotIssue s e)
answer_event s (answer.Short slot) = tt
answer_event s other = (tt, tt)

block_event : (s count : ℕ) (to_host : Bool) (b : Option Block) → IfSome (event_of_block count to_host b) (λ e. IsOfFis e × NotIssue s e)
block_event s count to_host None = tt
block_event s count to_host (Some b) = (tt, tt)

heard_event : (s : ℕ) (h : Happening) (block : Option Block) (payload : List ℕ) → IfSome (event_of h block payload) (λ e. IsOfFis e × NotIssue s e)
heard_event s happening.Nothing block payload = tt
heard_event s (happening.Answered a) block payload = answer_event s a
heard_event s (happening.PioSetUp count to_host) block payload = block_event s count to_host block
heard_event s happening.Activated block payload = tt
heard_event s other block payload = (tt, tt)

pub frame_event : (s : ℕ) (port : Port) (room : Room) (frame : List ℕ) → IfSome (event_by port room frame) (λ e. IsOfFis e × NotIssue s e)
frame_event s port room frame = by (ignores (port_of frame) port frame)
  where
    by : (b : Bool) → IfSome (if b then None else event_heard (decided (port_of frame) (view_of (port_of frame) port) room (admitted (port_of frame) (seen frame))) (drop 4 frame)) (λ e. IsOfFis e × NotIssue s e)
    by true = tt
    by false = heard_event s _ _ _

-- an event that issues nothing
abbrev pub IsPlain : CoreEvent → Type 0
IsPlain (core.Wrote on_port.Ci value offer tables) = ⊥
IsPlain (core.Placed dev slots offer tables) = ⊥
IsPlain (core.Gave bytes) = ⊥
IsPlain e = Unit {0}

abbrev pub ArePlain : List CoreEvent → Type 0
ArePlain [] = Unit {0}
ArePlain (e ∷ events) = IsPlain e × ArePlain events

if_empties : (s : ℕ) (b : Bool) → NoIssue s (if b then history.Emptied ∷ [] else [])
if_empties s true = (tt, tt)
if_empties s false = tt

written_plain : (s n : ℕ) (port : Port) (register : port_register.Register) (value : ℕ) (offer : _) (tables : ℕ → List Prd) → IsPlain (core.Wrote register value offer tables) → NoIssue s (written_for n port register value offer tables)
written_plain s n port on_port.Ci value offer tables plain = absurd plain
written_plain s n port on_port.Cmd value offer tables plain = if_empties s (falls port.registers value)
written_plain s n port on_port.Fbs value offer tables plain = if_empties s (is_device n (cleared_by port.errors value))
written_plain s n port other value offer tables plain = tt

sent_event : (s : ℕ) (slots : Slots) (slot : ℕ) (b : Bool) → NotIssue s (if b then history.SentControl slot else history.Sent slot)
sent_event s slots slot true = tt
sent_event s slots slot false = tt

begun_plain : (s slot : ℕ) (o : Option Issue) → NoIssue s (begun_by slot o)
begun_plain s slot None = tt
begun_plain s slot (Some i) = by (is_dma i.work.kind)
  where
    by : (b : Bool) → NoIssue s (if b then history.SetUp slot 0 i.work.len (is_read i.work.kind) ∷ [] else [])
    by true = (tt, tt)
    by false = tt

pub turned_plain : (s n : ℕ) (port : Port) (turn : Turn) (bytes : List ℕ) → NoIssue s (turned_for n port turn bytes)
turned_plain s n port Rests bytes = tt
turned_plain s n port (Feeds dev slot offset len) bytes = by (dev == n)
  where
    by : (b : Bool) → NoIssue s (if b then history.Carried (drop 4 bytes) ∷ [] else [])
    by true = (tt, tt)
    by false = tt
turned_plain s n port (Orders dev slot command) bytes = by (dev == n)
  where
    by : (b : Bool) → NoIssue s (if b then begun_by slot (issue_at port.slots slot) ++ event_sent port.slots slot ∷ [] else [])
    by true = no_issue_both s (begun_by slot (issue_at port.slots slot)) (event_sent port.slots slot ∷ []) (begun_plain s slot (issue_at port.slots slot)) (sent_event s port.slots slot (holds is_control_issue (issue_at port.slots slot)), tt)
    by false = tt

took_plain : (s : ℕ) (here : Bool) (o : Option Event) → IfSome o (λ e. IsOfFis e × NotIssue s e) → NoIssue s (if here then match_some o [] (λ e. e ∷ []) else [])
took_plain s true None h = tt
took_plain s true (Some e) h = (h.1, tt)
took_plain s false o h = tt

plain_happened : (s n : ℕ) (port : Port) (e : CoreEvent) → IsPlain e → NoIssue s (happened n port e)
plain_happened s n port (core.Took frame room report) plain = took_plain s (port_of frame == n) (event_by port room frame) (frame_event s port room frame)
plain_happened s n port (core.Wrote register value offer tables) plain = written_plain s n port register value offer tables plain
plain_happened s n port (core.Flushed dev) plain = if_empties s (dev == n)
plain_happened s n port (core.Gave bytes) plain = absurd plain
plain_happened s n port (core.Placed dev slots offer tables) plain = absurd plain
plain_happened s n port (core.Chose turn bytes) plain = turned_plain s n port turn bytes
plain_happened s n port (core.Commanded value) plain = if_empties s (falls port.registers value)
plain_happened s n port (core.Hung dev line) plain = if_empties s (dev == n)
plain_happened s n port core.Relinked plain = (tt, tt)
plain_happened s n port core.Restarted plain = (tt, tt)
plain_happened s n port other plain = tt

pub plain_through : (s n : ℕ) (past : History) (old new : Port) (events : List CoreEvent) (run : RunsBy old events new) → ArePlain events → NoIssue s past → NoIssue s (history_through n past old new events run)
plain_through s n past old new [] run plain h = h
plain_through s n past old new (e ∷ events) run plain h =
    plain_through s n (happened n old e ++ past) run.0 new events run.2 plain.1 (no_issue_both s (happened n old e) past (plain_happened s n old e plain.0) h)

-- from a history, and from none
pub through_after : (n : ℕ) (h past : History) (old new : Port) (events : List CoreEvent) (run : RunsBy old events new) → history_through n (h ++ past) old new events run ≡ history_through n h old new events run ++ past
through_after n h past old new [] run = refl
through_after n h past old new (e ∷ events) run =
    ap (λ (q : History). history_through n q run.0 new events run.2) (sym (append_assoc (happened n old e) h past))
    ∙ through_after n (happened n old e ++ h) past run.0 new events run.2

-- ---- commands and Data that go out

no_setup : (s slot len : ℕ) (to_host : Bool) (past : History) (o : Option Transfer) → match_some o false (λ t. completes s (history.SetUp slot 0 len to_host) past t.work) ≡ false
no_setup s slot len to_host past None = refl
no_setup s slot len to_host past (Some t) = refl

no_sent : (s slot : ℕ) (past : History) (o : Option Transfer) → match_some o false (λ t. completes s (history.Sent slot) past t.work) ≡ false
no_sent s slot past None = refl
no_sent s slot past (Some t) = refl

begun_keeps : (s slot : ℕ) (past : History) (o : Option Issue) → is_freed_in s (begun_by slot o) past ≡ false
begun_keeps s slot past None = refl
begun_keeps s slot past (Some i) = by (is_dma i.work.kind)
  where
    or_none : (b : Bool) → b ≡ false → (b || false) ≡ false
    or_none false h = refl
    or_none true h = h

    by : (b : Bool) → is_freed_in s (if b then history.SetUp slot 0 i.work.len (is_read i.work.kind) ∷ [] else []) past ≡ false
    by true = or_none _ (no_setup s slot i.work.len (is_read i.work.kind) past (issued s past))
    by false = refl

both_keep : (s : ℕ) (h k past : History) → is_freed_in s h (k ++ past) ≡ false → is_freed_in s k past ≡ false → is_freed_in s (h ++ k) past ≡ false
both_keep s [] k past a b = b
both_keep s (e ∷ h) k past a b =
    let parts = or_parts (frees s e (h ++ (k ++ past))) (is_freed_in s h (k ++ past)) a in
    neither (frees s e ((h ++ k) ++ past)) (is_freed_in s (h ++ k) past) (ap (frees s e) (append_assoc h k past) ∙ parts.0) (both_keep s h k past parts.1 b)
  where
    neither : (x y : Bool) → x ≡ false → y ≡ false → (x || y) ≡ false
    neither false y p q = q
    neither true y p q = absurd (true≢false p)

-- the command of another slot, or no Control
sent_keeps : (s slot : ℕ) (past : History) (control : Bool) → ((slot == s) ≡ true → control ≡ false) → is_freed_in s ((if control then history.SentControl slot else history.Sent slot) ∷ []) past ≡ false
sent_keeps s slot past false other = or_none _ (no_sent s slot past (issued s past))
  where
    or_none : (b : Bool) → b ≡ false → (b || false) ≡ false
    or_none false h = refl
    or_none true h = h
sent_keeps s slot past true other = by (slot == s) (λ h. other h)
  where
    by : (b : Bool) → (b ≡ true → true ≡ false) → (b || false) ≡ false
    by false h = refl
    by true h = h refl

carried_keeps : (s : ℕ) (bytes : List ℕ) (past : History) (t : Transfer) → issued s past ≡ Some t → is_queued t.work.kind ≡ true → is_freed_in s (history.Carried bytes ∷ []) past ≡ false
carried_keeps s bytes past t is queued = by (frees s (history.Carried bytes) past) refl
  where
    by : (b : Bool) → frees s (history.Carried bytes) past ≡ b → (b || false) ≡ false
    by false h = refl
    by true h = absurd (carried_frees s bytes past t is queued h)

-- a turn frees no queued command
pub turn_keeps : (s n : ℕ) (port : Port) (turn : Turn) (bytes : List ℕ) (past : History) (t : Transfer) (i : Issue) → issue_at port.slots s ≡ Some i → is_queued i.work.kind ≡ true → issued s past ≡ Some t → is_queued t.work.kind ≡ true
    → is_freed_in s (turned_for n port turn bytes) past ≡ false
turn_keeps s n port Rests bytes past t i at kind is queued = refl
turn_keeps s n port (Feeds dev slot offset len) bytes past t i at kind is queued = by (dev == n)
  where
    by : (b : Bool) → is_freed_in s (if b then history.Carried (drop 4 bytes) ∷ [] else []) past ≡ false
    by true = carried_keeps s (drop 4 bytes) past t is queued
    by false = refl
turn_keeps s n port (Orders dev slot command) bytes past t i at kind is queued = by (dev == n)
  where
    other : (slot == s) ≡ true → holds is_control_issue (issue_at port.slots slot) ≡ false
    other same = ap (λ (k : ℕ). holds is_control_issue (issue_at port.slots k)) (eqb-true slot s same) ∙ ap (holds is_control_issue) at ∙ queued_no_control i.work.kind kind

    by : (b : Bool) → is_freed_in s (if b then begun_by slot (issue_at port.slots slot) ++ event_sent port.slots slot ∷ [] else []) past ≡ false
    by true =
        both_keep s (begun_by slot (issue_at port.slots slot)) (event_sent port.slots slot ∷ []) past
        (begun_keeps s slot (event_sent port.slots slot ∷ past) (issue_at port.slots slot)) (sent_keeps s slot past (holds is_control_issue (issue_at port.slots slot)) other)
    by false = refl

-- ---- commands that are issued

issue_keeps : (s slot : ℕ) (table : List Prd) (past : History) (o : Option Command) → is_freed_in s (told_issue slot table o) past ≡ false
issue_keeps s slot table past None = refl
issue_keeps s slot table past (Some command) = refl

pub issues_keep : (s : ℕ) (commands : ℕ → Option Command) (tables : ℕ → List Prd) (n : ℕ) (past : History) → is_freed_in s (told_issued commands tables n) past ≡ false
unfolding told_issued
issues_keep s commands tables zero past = refl
issues_keep s commands tables (suc n) past =
    both_keep s (told_issue n (tables n) (commands n)) (told_issued commands tables n) past (issue_keeps s n (tables n) (told_issued commands tables n ++ past) (commands n)) (issues_keep s commands tables n past)

issue_plain : (s slot : ℕ) (table : List Prd) (o : Option Command) → ((slot == s) ≡ true → o ≡ None) → NoIssue s (told_issue slot table o)
issue_plain s slot table None none = tt
issue_plain s slot table (Some command) none = (by (slot == s) none, tt)
  where
    by : (b : Bool) → (b ≡ true → Some command ≡ None) → b ≡ false
    by false h = refl
    by true h = cannot (h refl)
      where
        cannot : Some command ≡ None → true ≡ false
        cannot e = cc

pub issues_plain : (s : ℕ) (commands : ℕ → Option Command) (tables : ℕ → List Prd) (n : ℕ) → commands s ≡ None → NoIssue s (told_issued commands tables n)
unfolding told_issued
issues_plain s commands tables zero none = tt
issues_plain s commands tables (suc n) none =
    no_issue_both s (told_issue n (tables n) (commands n)) (told_issued commands tables n)
    (issue_plain s n (tables n) (commands n) (λ same. ap commands (eqb-true n s same) ∙ none)) (issues_plain s commands tables n none)
