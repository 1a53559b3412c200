-- What is issued, and which of its bytes were transferred, as words.
use Rattle.std.specs.Prelude.{◌≡◌, ℕ, ◌+◌, ◌*◌, ◌/◌, ◌^◌, ◌<◌, ◌≤◌, ◌==◌, Bool, if◌then◌else◌, List, [], ◌∷◌, Option, Some, None, length, refl}
use Rattle.std.specs.{Prelude.{slice_index_or, suc, MatchOption}, List.AllByRecursion}
use Rattle.std.proofs.Common.{ap, arith, subst, sym, ◌∙◌}
use Rattle.saved_state.specs.State.{IsToldApart, KeepsOption, all_apart, bool_apart, list_apart, number_apart, option_apart, pair_apart, parts_apart}
use Rattle.saved_state.specs.State.{put_all, put_bool, put_list, put_number, put_option, put_pair, put_three, three_apart}
use Rattle.slots.specs.declared.{moved.Stretch.Stretch, slot.Issued.Issued, table.Context.Context, work.{Work.Work, Kind.Kind}}
use Rattle.slots.specs.{declared.work.Kind.TheVariants.{QueuedRead, QueuedWrite, DmaIn, DmaOut, PioIn, PioOut, NoData, Control}, Bytes.stretches_of}
use Rattle.slots.specs.{Issued.issued_of, RunLaws.{runs_apart, runs_same}, Runs.runs_of, Slots.{Issue, Slots, context_of, issue_at}}
use Rattle.slots.specs.{Stretches.AreApart, Table.{IsContext, IsContextOf, IsIssue, IsTable}, Work.IsWork}

-- nothing is to be kept to
abbrev pub Free : {A : Type 0} → A → Type 0
Free a = Unit {0}

-- these fit a word of 8 bits and one of 32 bits
abbrev pub IsByte : ℕ → Type 0
IsByte n = n < 2 ^ 8

abbrev pub IsDword : ℕ → Type 0
IsDword n = n < 2 ^ 32

byte_apart : IsToldApart put_number IsByte
byte_apart a b x y k l e = number_apart a b x y e

dword_apart : IsToldApart put_number IsDword
dword_apart a b x y k l e = number_apart a b x y e

flag_apart : IsToldApart put_bool Free
flag_apart a b x y k l e = bool_apart a b x y e

-- ---- what a command asks for

abbrev pub kind_number : Kind → ℕ
kind_number QueuedRead = 1
kind_number QueuedWrite = 2
kind_number DmaIn = 3
kind_number DmaOut = 4
kind_number PioIn = 5
kind_number PioOut = 6
kind_number NoData = 7
kind_number Control = 8

abbrev pub put_kind : Kind → List ℕ → List ℕ
put_kind kind rest = kind_number kind ∷ rest

kind_of : ℕ → Kind
kind_of n =
    if n == 1 then QueuedRead else if n == 2 then QueuedWrite else if n == 3 then DmaIn else if n == 4 then DmaOut
    else if n == 5 then PioIn else if n == 6 then PioOut else if n == 7 then NoData else Control

kind_back : (kind : Kind) → kind_of (kind_number kind) ≡ kind
unfolding kind_of
kind_back QueuedRead = refl
kind_back QueuedWrite = refl
kind_back DmaIn = refl
kind_back DmaOut = refl
kind_back PioIn = refl
kind_back PioOut = refl
kind_back NoData = refl
kind_back Control = refl

kind_same : (a b : Kind) → kind_number a ≡ kind_number b → a ≡ b
kind_same a b e = sym (kind_back a) ∙ ap kind_of e ∙ kind_back b

pub kind_apart : IsToldApart put_kind Free
kind_apart a b x y k l e = let same : kind_number a ≡ kind_number b = cc in (kind_same a b same, cc)

abbrev pub work_parts : Work → Kind × ℕ
work_parts work = (work.kind, work.len)

abbrev pub put_work_parts : Kind × ℕ → List ℕ → List ℕ
put_work_parts = put_pair put_kind put_number

abbrev pub KeepsWorkParts : Kind × ℕ → Type 0
KeepsWorkParts parts = Free parts.0 × IsDword parts.1

abbrev pub put_work : Work → List ℕ → List ℕ
put_work work rest = put_work_parts (work_parts work) rest

abbrev pub KeepsWork : Work → Type 0
KeepsWork work = KeepsWorkParts (work_parts work)

pub work_apart : IsToldApart put_work KeepsWork
work_apart = parts_apart put_work_parts KeepsWorkParts KeepsWork work_parts (pair_apart put_kind Free kind_apart put_number IsDword dword_apart)
    (λ w k. k) (λ a b e. ap (λ p. record { kind = p.0; len = p.1 }) e)

-- ---- what is issued in a slot, without its bytes

abbrev pub IssuedParts : Type 0
IssuedParts = (ℕ × Work) × (Bool × Bool)

abbrev pub issued_parts : Issued → IssuedParts
issued_parts issued = ((issued.dev, issued.work), (issued.sent, issued.answered))

abbrev pub put_issued_parts : IssuedParts → List ℕ → List ℕ
put_issued_parts = put_pair (put_pair put_number put_work) (put_pair put_bool put_bool)

abbrev pub KeepsIssuedParts : IssuedParts → Type 0
KeepsIssuedParts parts = (IsByte parts.0.0 × KeepsWork parts.0.1) × (Free parts.1.0 × Free parts.1.1)

abbrev pub put_issued : Issued → List ℕ → List ℕ
put_issued issued rest = put_issued_parts (issued_parts issued) rest

abbrev pub KeepsIssued : Issued → Type 0
KeepsIssued issued = KeepsIssuedParts (issued_parts issued)

pub issued_apart : IsToldApart put_issued KeepsIssued
issued_apart = parts_apart put_issued_parts KeepsIssuedParts KeepsIssued issued_parts
    (pair_apart (put_pair put_number put_work) (λ p. IsByte p.0 × KeepsWork p.1) (pair_apart put_number IsByte byte_apart put_work KeepsWork work_apart)
    (put_pair put_bool put_bool) (λ p. Free p.0 × Free p.1) (pair_apart put_bool Free flag_apart put_bool Free flag_apart))
    (λ i k. k) (λ a b e. ap (λ p. record { dev = p.0.0; work = p.0.1; sent = p.1.0; answered = p.1.1 }) e)

-- ---- what is left of a setup

abbrev pub ContextParts : Type 0
ContextParts = (ℕ × ℕ) × (ℕ × Bool × Bool)

abbrev pub context_parts : Context → ContextParts
context_parts c = ((c.slot, c.next), (c.left, c.to_host, c.activated))

abbrev pub put_context_parts : ContextParts → List ℕ → List ℕ
put_context_parts = put_pair (put_pair put_number put_number) (put_three put_number put_bool put_bool)

abbrev pub KeepsContextParts : ContextParts → Type 0
KeepsContextParts parts = (IsByte parts.0.0 × IsDword parts.0.1) × (IsDword parts.1.0 × Free parts.1.1 × Free parts.1.2)

abbrev pub put_context : Context → List ℕ → List ℕ
put_context c rest = put_context_parts (context_parts c) rest

abbrev pub KeepsContext : Context → Type 0
KeepsContext c = KeepsContextParts (context_parts c)

pub context_apart : IsToldApart put_context KeepsContext
context_apart = parts_apart put_context_parts KeepsContextParts KeepsContext context_parts
    (pair_apart (put_pair put_number put_number) (λ p. IsByte p.0 × IsDword p.1) (pair_apart put_number IsByte byte_apart put_number IsDword dword_apart)
    (put_three put_number put_bool put_bool) (λ t. IsDword t.0 × Free t.1 × Free t.2)
    (three_apart put_number IsDword dword_apart put_bool Free flag_apart put_bool Free flag_apart))
    (λ c k. k) (λ a b e. ap (λ p. record { slot = p.0.0; next = p.0.1; left = p.1.0; to_host = p.1.1; activated = p.1.2 }) e)

-- ---- which bytes were transferred

abbrev pub stretch_parts : Stretch → ℕ × ℕ
stretch_parts s = (s.start, s.end)

abbrev pub put_stretch_parts : ℕ × ℕ → List ℕ → List ℕ
put_stretch_parts = put_pair put_number put_number

abbrev pub KeepsStretchParts : ℕ × ℕ → Type 0
KeepsStretchParts parts = IsDword parts.0 × IsDword parts.1

abbrev pub put_stretch : Stretch → List ℕ → List ℕ
put_stretch s rest = put_stretch_parts (stretch_parts s) rest

abbrev pub KeepsStretch : Stretch → Type 0
KeepsStretch s = KeepsStretchParts (stretch_parts s)

pub stretch_apart : IsToldApart put_stretch KeepsStretch
stretch_apart = parts_apart put_stretch_parts KeepsStretchParts KeepsStretch stretch_parts
    (pair_apart put_number IsDword dword_apart put_number IsDword dword_apart)
    (λ s k. k) (λ a b e. ap (λ p. record { start = p.0; end = p.1 }) e)

-- how many dwords there are, and the runs of those that were transferred
abbrev pub over_parts : List Bool → ℕ × List Stretch
over_parts over = (length over, runs_of over)

abbrev pub put_over_parts : ℕ × List Stretch → List ℕ → List ℕ
put_over_parts = put_pair put_number (put_list put_stretch)

abbrev pub KeepsOverParts : ℕ × List Stretch → Type 0
KeepsOverParts parts = IsDword parts.0 × AllByRecursion KeepsStretch parts.1

abbrev pub put_over : List Bool → List ℕ → List ℕ
put_over over rest = put_over_parts (over_parts over) rest

-- the stretches of a transfer of so many dwords
abbrev pub AreRuns : ℕ → List Stretch → Type 0
AreRuns n stretches = (n ≤ 8388608) × (length stretches ≤ 64) × AreApart 0 n stretches

-- a transfer of at most 32 MiB, in at most 64 stretches
abbrev pub KeepsOver : List Bool → Type 0
KeepsOver over = (length over ≤ 8388608) × (stretches_of over (4 * length over) ≤ 64)

-- stretches below such a dword have numbers of 32 bits
pub stretches_keep : (low n : ℕ) (ss : List Stretch) → AreApart low n ss → n ≤ 8388608 → AllByRecursion KeepsStretch ss
stretches_keep low n [] h few = tt
stretches_keep low n (s ∷ ss) h few = ((omega (arith, h.1, h.2), omega (arith, h.2)), stretches_keep (s.end + 1) n ss h.3 few)

pub over_keep : (over : List Bool) → KeepsOver over → KeepsOverParts (over_parts over)
over_keep over k = (omega (arith, k.0), stretches_keep 0 (length over) (runs_of over) (runs_apart over) k.0)

pub over_parts_apart : IsToldApart put_over_parts KeepsOverParts
over_parts_apart = pair_apart put_number IsDword dword_apart (put_list put_stretch) (AllByRecursion KeepsStretch)
    (list_apart put_stretch KeepsStretch stretch_apart)

pub over_apart : IsToldApart put_over KeepsOver
over_apart = parts_apart put_over_parts KeepsOverParts KeepsOver over_parts over_parts_apart over_keep
    (λ a b e. runs_same a b (ap (λ p. p.0) e) (ap (λ p. p.1) e))

-- ---- a slot

abbrev pub issue_parts : Issue → Issued × List Bool
issue_parts issue = (issued_of issue, issue.over)

abbrev pub put_issue_parts : Issued × List Bool → List ℕ → List ℕ
put_issue_parts = put_pair put_issued put_over

abbrev pub KeepsIssueParts : Issued × List Bool → Type 0
KeepsIssueParts parts = KeepsIssued parts.0 × KeepsOver parts.1

abbrev pub put_issue : Issue → List ℕ → List ℕ
put_issue issue rest = put_issue_parts (issue_parts issue) rest

-- some work, with a flag for each of its dwords
abbrev pub KeepsIssue : Issue → Type 0
KeepsIssue issue = KeepsIssueParts (issue_parts issue) × (length issue.over ≡ issue.work.len / 4) × IsWork issue.work

pub issue_apart : IsToldApart put_issue KeepsIssue
issue_apart = parts_apart put_issue_parts KeepsIssueParts KeepsIssue issue_parts (pair_apart put_issued KeepsIssued issued_apart put_over KeepsOver over_apart)
    (λ i k. k.0) (λ a b e. ap (λ p. record { dev = p.0.dev; work = p.0.work; sent = p.0.sent; answered = p.0.answered; over = p.1 }) e)

abbrev pub put_slot : Option Issue → List ℕ → List ℕ
put_slot = put_option put_issue

abbrev pub KeepsSlot : Option Issue → Type 0
KeepsSlot = KeepsOption KeepsIssue

pub slot_apart : IsToldApart put_slot KeepsSlot
slot_apart = option_apart put_issue KeepsIssue issue_apart

-- ---- a table

abbrev pub TableParts : Type 0
TableParts = List (Option Issue) × List (Option Context)

abbrev pub table_parts : Slots → TableParts
table_parts t = (t.issues, t.contexts)

abbrev pub put_table_parts : TableParts → List ℕ → List ℕ
put_table_parts = put_pair (put_all put_slot) (put_all (put_option put_context))

abbrev pub KeepsTableParts : TableParts → Type 0
KeepsTableParts parts = ((length parts.0 ≡ 32) × AllByRecursion KeepsSlot parts.0) × ((length parts.1 ≡ 16) × AllByRecursion (KeepsOption KeepsContext) parts.1)

abbrev pub put_table : Slots → List ℕ → List ℕ
put_table t rest = put_table_parts (table_parts t) rest

issue_kept : (issue : Issue) → IsIssue issue → KeepsIssue issue
issue_kept issue is =
    let long : 4 * length issue.over ≡ issue.work.len = omega (arith, is.room, is.work.0) in
    let few : stretches_of issue.over (4 * length issue.over) ≤ 64 = subst (λ (n : ℕ). stretches_of issue.over n ≤ 64) (sym long) is.few in
    (((((omega (arith, is.dev_below), (tt, omega (arith, is.work.1))), (tt, tt)), (omega (arith, is.work.1), few)), is.room, is.work))

slot_kept : (o : Option Issue) → MatchOption o (Unit {0}) IsIssue → KeepsSlot o
slot_kept None is = tt
slot_kept (Some issue) is = issue_kept issue is

within_kept : (dev : ℕ) (c : Context) (o : Option Issue) → MatchOption o (Unit {0}) IsIssue → c.slot < 32 → MatchOption o ⊥ (IsContextOf dev c) → KeepsContext c
within_kept dev c None is low of = absurd of
within_kept dev c (Some issue) is low of =
    ((omega (arith, low), omega (arith, of.fits, is.work.1)), (omega (arith, of.fits, is.work.1), tt, tt))

context_kept : (t : Slots) → IsTable t → (dev : ℕ) (o : Option Context) → MatchOption o (Unit {0}) (IsContext dev t) → KeepsOption KeepsContext o
context_kept t is dev None of = tt
context_kept t is dev (Some c) of = within_kept dev c (issue_at t c.slot) (is.issues c.slot) of.0 of.1

all_at : {A : Type 0} (P : A → Type 0) (xs : List A) (d : A) → ((k : ℕ) → P (slice_index_or xs k d)) → AllByRecursion P xs
all_at P [] d each = tt
all_at P (x ∷ xs) d each = (each 0, all_at P xs d (λ k. each (suc k)))

pub table_keeps : (t : Slots) → IsTable t → KeepsTableParts (table_parts t)
table_keeps t is = (
  (is.slots, all_at KeepsSlot t.issues None (λ k. slot_kept (issue_at t k) (is.issues k))),
  (is.devices, all_at (KeepsOption KeepsContext) t.contexts None (λ k. context_kept t is k (context_of t k) (is.contexts k))),
)

pub table_parts_apart : IsToldApart put_table_parts KeepsTableParts
table_parts_apart = pair_apart (put_all put_slot) (λ all. (length all ≡ 32) × AllByRecursion KeepsSlot all)
    (λ a b x y k l e. all_apart put_slot KeepsSlot slot_apart a b x y (k.0 ∙ sym l.0) k.1 l.1 e)
    (put_all (put_option put_context)) (λ all. (length all ≡ 16) × AllByRecursion (KeepsOption KeepsContext) all)
    (λ a b x y k l e. all_apart (put_option put_context) (KeepsOption KeepsContext) (option_apart put_context KeepsContext context_apart) a b x y (k.0 ∙ sym l.0) k.1 l.1 e)

pub table_apart : IsToldApart put_table IsTable
table_apart = parts_apart put_table_parts KeepsTableParts IsTable table_parts table_parts_apart table_keeps
    (λ a b e. ap (λ p. record { issues = p.0; contexts = p.1 }) e)
