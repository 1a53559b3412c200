-- Each byte of a command that a history of its device has as filled was filled by Data, since the command was issued.
use Rattle.std.proofs.Common.{◌≡◌, ◌⊎◌, ℕ, zero, suc, ◌+◌, ◌-◌, ◌&&◌, Bool, true, false, List, [], ◌∷◌, ◌++◌, length, inl, inr, refl, sym, ap, ◌∙◌}
use Rattle.std.proofs.{Common.{Option, Some, None}, lemmas.Bool.{eqb-true, false≢true}}
use Rattle.std.specs.Prelude.{◌==◌, if◌then◌else◌, is_some, nat_le, nat_lt, slice_get}
use Rattle.host_memory.specs.declared.table.Prd.{Prd}
use Rattle.slots.specs.declared.work.Kind.{Kind}
use Rattle.hba_commands.specs.declared.command.Command.{Command}
use Rattle.hba_laws.specs.{Alike.{told_issue, told_issued}, History.{Event, History, Transfer, filled, filled_from, is_at, is_set_up, issued}}
use Rattle.hba_laws.specs.History.{next_number, none_filled, waiting_in}
use Rattle.hba_laws.specs.History as history
use Rattle.machine_theorem.proofs.SetupHistory.{IsUp, if_not, was_issued}

-- what is issued in a slot is a command of this kind, and its byte k is filled
pub record HasCame (r : Kind) (s k : ℕ) (past : History) : Type 0 where
  pub transfer : Transfer
  pub is : issued s past ≡ Some transfer
  pub kind : transfer.work.kind ≡ r
  pub filled : is_some (filled s past k) ≡ true

-- ---- events without Data

abbrev pub HasNoData : Event → Type 0
HasNoData (history.Carried bytes) = ⊥
HasNoData e = Unit {0}

issue_case : (s k : ℕ) (past : History) (b : Bool) (t x : Transfer) → (if b then Some t else issued s past) ≡ Some x
    → is_some ((if b then none_filled else filled s past) k) ≡ true → (issued s past ≡ Some x) × (is_some (filled s past k) ≡ true)
issue_case s k past true t x e f = absurd (false≢true f)
issue_case s k past false t x e f = (e, f)

pub none_back : (r : Kind) (s k : ℕ) (e : Event) (past : History) → HasNoData e → HasCame r s k (e ∷ past) → HasCame r s k past
none_back r s k (history.Carried bytes) past none c = absurd none
none_back r s k (history.Issued slot t) past none c =
    let both = issue_case s k past (slot == s) t c.transfer c.is c.filled in
    record { transfer = c.transfer; is = both.0; kind = c.kind; filled = both.1 }
none_back r s k (history.Sent slot) past none c =
    record { transfer = c.transfer; is = was_issued s (history.Sent slot) past c.transfer tt c.is; kind = c.kind; filled = c.filled }
none_back r s k (history.SentControl slot) past none c =
    record { transfer = c.transfer; is = was_issued s (history.SentControl slot) past c.transfer tt c.is; kind = c.kind; filled = c.filled }
none_back r s k (history.SetUp tag offset count to_host) past none c =
    record { transfer = c.transfer; is = was_issued s (history.SetUp tag offset count to_host) past c.transfer tt c.is; kind = c.kind; filled = c.filled }
none_back r s k (history.PioSetUp count to_host ends) past none c =
    record { transfer = c.transfer; is = was_issued s (history.PioSetUp count to_host ends) past c.transfer tt c.is; kind = c.kind; filled = c.filled }
none_back r s k history.Answered past none c =
    record { transfer = c.transfer; is = was_issued s history.Answered past c.transfer tt c.is; kind = c.kind; filled = c.filled }
none_back r s k (history.Named mask) past none c =
    record { transfer = c.transfer; is = was_issued s (history.Named mask) past c.transfer tt c.is; kind = c.kind; filled = c.filled }
none_back r s k history.Emptied past none c =
    record { transfer = c.transfer; is = was_issued s history.Emptied past c.transfer tt c.is; kind = c.kind; filled = c.filled }

-- a list of them
abbrev pub HaveNoData : History → Type 0
HaveNoData [] = Unit {0}
HaveNoData (e ∷ past) = HasNoData e × HaveNoData past

pub list_back : (r : Kind) (s k : ℕ) (h past : History) → HaveNoData h → HasCame r s k (h ++ past) → HasCame r s k past
list_back r s k [] past none c = c
list_back r s k (e ∷ h) past none c = list_back r s k h past none.1 (none_back r s k e (h ++ past) none.0 c)

pub both_none : (xs ys : History) → HaveNoData xs → HaveNoData ys → HaveNoData (xs ++ ys)
both_none [] ys a b = b
both_none (x ∷ xs) ys a b = (a.0, both_none xs ys a.1 b)

pub if_none : (b : Bool) (h : History) → HaveNoData h → HaveNoData (if b then h else [])
if_none true h none = none
if_none false h none = tt

issue_none : (slot : ℕ) (table : List Prd) (o : Option Command) → HaveNoData (told_issue slot table o)
issue_none slot table None = tt
issue_none slot table (Some command) = (tt, tt)

pub issued_none : (commands : ℕ → Option Command) (tables : ℕ → List Prd) (k : ℕ) → HaveNoData (told_issued commands tables k)
unfolding told_issued
issued_none commands tables zero = tt
issued_none commands tables (suc k) =
    both_none (told_issue k (tables k) (commands k)) (told_issued commands tables k) (issue_none k (tables k) (commands k)) (issued_none commands tables k)

-- ---- Data

-- they are within these numbers
abbrev pub IsIn : (from len k : ℕ) → Type 0
IsIn from len k = (nat_le from k && nat_lt k (from + len)) ≡ true

filled_case : (k from : ℕ) (bytes : List ℕ) (f : ℕ → Option ℕ) (b : Bool) → (nat_le from k && nat_lt k (from + length bytes)) ≡ b
    → is_some (filled_from from bytes f k) ≡ true → IsIn from (length bytes) k ⊎ (is_some (f k) ≡ true)
filled_case k from bytes f true e is = inl e
filled_case k from bytes f false e is = inr (ap (λ (x : Bool). is_some (if x then slice_get bytes (k - from) else f k)) (sym e) ∙ is)

-- The byte is one of these, or it was filled before. So it is too where the Data end the command.
pub filled_back : (r : Kind) (s k : ℕ) (bytes : List ℕ) (past : History) (t : Transfer) → issued s past ≡ Some t → t.work.kind ≡ r
    → is_some (filled s (history.Carried bytes ∷ past) k) ≡ true → (IsUp r s past × IsIn (next_number past) (length bytes) k) ⊎ HasCame r s k past
filled_back r s k bytes past t was kind f = by (is_set_up s past) refl f
  where
    before : is_some (filled s past k) ≡ true → HasCame r s k past
    before f = record { transfer = t; is = was; kind = kind; filled = f }

    by : (b : Bool) → is_set_up s past ≡ b → is_some ((if b then filled_from (next_number past) bytes (filled s past) else filled s past) k) ≡ true
        → (IsUp r s past × IsIn (next_number past) (length bytes) k) ⊎ HasCame r s k past
    by false e f = inr (before f)
    by true e f =
        elim (filled_case k (next_number past) bytes (filled s past) (nat_le (next_number past) k && nat_lt k (next_number past + length bytes)) refl f) [
          | inl here ↦ inl (record { transfer = t; is = was; up = e; kind = kind }, here)
          | inr then' ↦ inr (before then')
        ]

pub carried_back : (r : Kind) (s k : ℕ) (bytes : List ℕ) (past : History) → HasCame r s k (history.Carried bytes ∷ past)
    → (IsUp r s past × IsIn (next_number past) (length bytes) k) ⊎ HasCame r s k past
carried_back r s k bytes past c = filled_back r s k bytes past c.transfer (was_issued s (history.Carried bytes) past c.transfer tt c.is) c.kind c.filled

-- ---- one slot is set up

at_one : (s r : ℕ) (o : Option ℕ) → is_at s o ≡ true → is_at r o ≡ true → s ≡ r
at_one s r None a b = absurd (false≢true a)
at_one s r (Some x) a b = sym (eqb-true x s a) ∙ eqb-true x r b

pub up_one : (s r : ℕ) (past : History) → is_set_up s past ≡ true → is_set_up r past ≡ true → s ≡ r
up_one s r [] a b = absurd (false≢true a)
up_one s r (history.Issued slot t ∷ past) a b = up_one s r past (if_not (slot == s) (is_set_up s past) a) (if_not (slot == r) (is_set_up r past) b)
up_one s r (history.Sent slot ∷ past) a b = up_one s r past a b
up_one s r (history.SentControl slot ∷ past) a b = up_one s r past a b
up_one s r (history.SetUp tag offset count to_host ∷ past) a b = sym (eqb-true tag s a) ∙ eqb-true tag r b
up_one s r (history.PioSetUp count to_host ends ∷ past) a b = at_one s r (waiting_in past) a b
up_one s r (history.Carried bytes ∷ past) a b = up_one s r past a b
up_one s r (history.Answered ∷ past) a b = up_one s r past a b
up_one s r (history.Named mask ∷ past) a b = up_one s r past a b
up_one s r (history.Emptied ∷ past) a b = up_one s r past a b
