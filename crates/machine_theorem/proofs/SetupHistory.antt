-- A history of a device beside what its FISes say: the slot of a queued command that is set up, and the number of its next byte, are what they say.
use Rattle.std.proofs.Common.{◌≡◌, ℕ, zero, suc, ◌+◌, Bool, true, false, List, [], ◌∷◌, ◌++◌, append_assoc, length, refl, sym, ap, subst, ◌∙◌, arith}
use Rattle.std.proofs.{Common.{Option, Some, None}, lemmas.Bool.{eqb-true}}
use Rattle.std.specs.Prelude.{◌==◌, is_some, if◌then◌else◌}
use Rattle.host_memory.specs.declared.table.Prd.{Prd}
use Rattle.slots.specs.{Slots.match_some, declared.work.Kind.Kind}
use Rattle.hba_commands.specs.declared.command.Command.{Command}
use Rattle.hba_laws.specs.{Alike.{told_issue, told_issued}, History.{Event, History, Setup, Transfer, carried, completes, is_at, is_set_up, issued}}
use Rattle.hba_laws.specs.History.{last_setup, next_number, unless, waiting_in}
use Rattle.hba_laws.specs.History as history
use Rattle.sata_disk_books.specs.Counted.{Counted, more_by}

-- what is issued in a slot that is set up is of this kind
pub record IsUp (k : Kind) (s : ℕ) (past : History) : Type 0 where
  pub transfer : Transfer
  pub is : issued s past ≡ Some transfer
  pub up : is_set_up s past ≡ true
  pub kind : transfer.work.kind ≡ k

abbrev pub Follows : Kind → History → Option Counted → Type 0
Follows k past t = (s : ℕ) → IsUp k s past → t ≡ Some (record { tag = s; count = next_number past })

-- none is
abbrev pub NoneUp : Kind → History → Type 0
NoneUp k past = (s : ℕ) → IsUp k s past → ⊥

pub nothing_up : (k : Kind) (past : History) (t : Option Counted) → NoneUp k past → Follows k past t
nothing_up k past t none s up = absurd (none s up)

-- ---- what is issued now was issued before

unless_some : (b : Bool) (x y : Transfer) → unless b (Some x) ≡ Some y → Some x ≡ Some y
unless_some true x y e = absurd (cc)
unless_some false x y e = e

kept_some : (o : Option Transfer) (f : Transfer → Bool) (x : Transfer) → match_some o None (λ t. unless (f t) (Some t)) ≡ Some x → o ≡ Some x
kept_some None f x e = absurd (cc)
kept_some (Some t) f x e = unless_some (f t) t x e

unless_was : (b : Bool) (o : Option Transfer) (x : Transfer) → unless b o ≡ Some x → o ≡ Some x
unless_was true o x e = absurd (cc)
unless_was false o x e = e

-- an event that issues nothing
abbrev pub IssuesNone : Event → Type 0
IssuesNone (history.Issued slot t) = ⊥
IssuesNone e = Unit {0}

pub was_issued : (s : ℕ) (e : Event) (past : History) (x : Transfer) → IssuesNone e → issued s (e ∷ past) ≡ Some x → issued s past ≡ Some x
was_issued s (history.Issued slot t) past x none e = absurd none
was_issued s (history.SentControl slot) past x none e = unless_was (slot == s) (issued s past) x e
was_issued s history.Emptied past x none e = absurd (cc)
was_issued s (history.Sent slot) past x none e = kept_some (issued s past) (λ t. completes s (history.Sent slot) past t.work) x e
was_issued s (history.SetUp tag offset count to_host) past x none e = kept_some (issued s past) (λ t. completes s (history.SetUp tag offset count to_host) past t.work) x e
was_issued s (history.PioSetUp count to_host ends) past x none e = kept_some (issued s past) (λ t. completes s (history.PioSetUp count to_host ends) past t.work) x e
was_issued s (history.Carried bytes) past x none e = kept_some (issued s past) (λ t. completes s (history.Carried bytes) past t.work) x e
was_issued s history.Answered past x none e = kept_some (issued s past) (λ t. completes s history.Answered past t.work) x e
was_issued s (history.Named mask) past x none e = kept_some (issued s past) (λ t. completes s (history.Named mask) past t.work) x e

-- ---- one event

-- it sets up nothing, and carries nothing
abbrev pub IsMild : Event → Type 0
IsMild (history.SetUp tag offset count to_host) = ⊥
IsMild (history.PioSetUp count to_host ends) = ⊥
IsMild (history.Carried bytes) = ⊥
IsMild e = Unit {0}

up_before : (k : Kind) (s : ℕ) (e : Event) (past : History) → IssuesNone e → (up : IsUp k s (e ∷ past)) → is_set_up s past ≡ true → IsUp k s past
up_before k s e past none up was = record { transfer = up.transfer; is = was_issued s e past up.transfer none up.is; up = was; kind = up.kind }

not_issued : (slot s : ℕ) (b : Bool) (x : Bool) → (if b then false else x) ≡ true → b ≡ false
not_issued slot s true x e = absurd (cc)
not_issued slot s false x e = refl

issue_case : (s : ℕ) (past : History) (b : Bool) (t : Transfer) (x : Transfer) → (if b then Some t else issued s past) ≡ Some x → (if b then false else is_set_up s past) ≡ true
    → (issued s past ≡ Some x) × (is_set_up s past ≡ true)
issue_case s past true t x e up = absurd (cc)
issue_case s past false t x e up = (e, up)

pub mild_follows : (k : Kind) (e : Event) (past : History) (t : Option Counted) → IsMild e → Follows k past t → Follows k (e ∷ past) t
mild_follows k (history.Issued slot x) past t mild was s up =
    let both = issue_case s past (slot == s) x up.transfer up.is up.up in
    was s (record { transfer = up.transfer; is = both.0; up = both.1; kind = up.kind })
mild_follows k (history.Sent slot) past t mild was s up = was s (up_before k s (history.Sent slot) past tt up up.up)
mild_follows k (history.SentControl slot) past t mild was s up = was s (up_before k s (history.SentControl slot) past tt up up.up)
mild_follows k (history.SetUp tag offset count to_host) past t mild was s up = absurd mild
mild_follows k (history.PioSetUp count to_host ends) past t mild was s up = absurd mild
mild_follows k (history.Carried bytes) past t mild was s up = absurd mild
mild_follows k history.Answered past t mild was s up = was s (up_before k s history.Answered past tt up up.up)
mild_follows k (history.Named mask) past t mild was s up = was s (up_before k s (history.Named mask) past tt up up.up)
mild_follows k history.Emptied past t mild was s up = was s (up_before k s history.Emptied past tt up up.up)

-- a DMA Setup FIS
pub set_up_follows : (k : Kind) (tag offset count : ℕ) (to_host : Bool) (past : History) (t : Option Counted) → t ≡ Some (record { tag = tag; count = offset })
    → Follows k (history.SetUp tag offset count to_host ∷ past) t
set_up_follows k tag offset count to_host past t told s up =
    let same : tag ≡ s = eqb-true tag s up.up in
    let more : offset + 0 ≡ offset = omega arith in
    told ∙ ap (λ j. Some (record { tag = j; count = offset })) same ∙ ap (λ j. Some (record { tag = s; count = j })) (sym more)

-- a slot that is set up has a setup
some_at : (s : ℕ) (o : Option ℕ) (f : ℕ → Setup) → is_at s o ≡ true → is_some (match_some o None (λ k. Some (f k))) ≡ true
some_at s None f e = absurd (cc)
some_at s (Some k) f e = refl

pub if_not : (b x : Bool) → (if b then false else x) ≡ true → x ≡ true
if_not true x e = absurd (cc)
if_not false x e = e

pub up_some : (s : ℕ) (past : History) → is_set_up s past ≡ true → is_some (last_setup past) ≡ true
up_some s [] e = absurd (cc)
up_some s (history.Issued slot t ∷ past) e = up_some s past (if_not (slot == s) (is_set_up s past) e)
up_some s (history.Sent slot ∷ past) e = up_some s past e
up_some s (history.SentControl slot ∷ past) e = up_some s past e
up_some s (history.SetUp tag offset count to_host ∷ past) e = refl
up_some s (history.PioSetUp count to_host ends ∷ past) e = some_at s (waiting_in past) _ e
up_some s (history.Carried bytes ∷ past) e = up_some s past e
up_some s (history.Answered ∷ past) e = up_some s past e
up_some s (history.Named mask ∷ past) e = up_some s past e
up_some s (history.Emptied ∷ past) e = up_some s past e

more_number : (o : Option Setup) (n k : ℕ) → is_some o ≡ true → match_some o 0 (λ g. g.offset + (n + k)) ≡ match_some o 0 (λ g. g.offset + n) + k
more_number None n k e = absurd (cc)
more_number (Some g) n k e = omega arith

-- Data
pub carried_follows : (k : Kind) (bytes : List ℕ) (past : History) (t : Option Counted) → Follows k past t
    → Follows k (history.Carried bytes ∷ past) (more_by (length bytes) t)
carried_follows k bytes past t was s up =
    let before : t ≡ Some (record { tag = s; count = next_number past }) = was s (up_before k s (history.Carried bytes) past tt up up.up) in
    ap (λ x. more_by (length bytes) x) before
    ∙ ap (λ j. Some (record { tag = s; count = j })) (sym (more_number (last_setup past) (carried past) (length bytes) (up_some s past up.up)))

-- Data of another way
pub fed_follows : (k : Kind) (bytes : List ℕ) (past : History) (t : Option Counted) → NoneUp k past → Follows k (history.Carried bytes ∷ past) t
fed_follows k bytes past t none = nothing_up k (history.Carried bytes ∷ past) t (λ s up. none s (up_before k s (history.Carried bytes) past tt up up.up))

-- ---- commands are issued

issue_follows : (k : Kind) (slot : ℕ) (table : List Prd) (o : Option Command) (past : History) (t : Option Counted) → Follows k past t
    → Follows k (told_issue slot table o ++ past) t
issue_follows k slot table None past t was = was
issue_follows k slot table (Some command) past t was = mild_follows k (history.Issued slot (record { work = command.work; table = table })) past t tt was

pub issued_follow : (k : Kind) (commands : ℕ → Option Command) (tables : ℕ → List Prd) (n : ℕ) (past : History) (t : Option Counted) → Follows k past t
    → Follows k (told_issued commands tables n ++ past) t
unfolding told_issued
issued_follow k commands tables zero past t was = was
issued_follow k commands tables (suc n) past t was =
    subst (λ (h : History). Follows k h t) (sym (append_assoc (told_issue n (tables n) (commands n)) (told_issued commands tables n) past))
    (issue_follows k n (tables n) (commands n) (told_issued commands tables n ++ past) t (issued_follow k commands tables n past t was))
