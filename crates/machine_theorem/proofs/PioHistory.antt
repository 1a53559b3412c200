-- The bytes of the PIO data-in that waits, in a history of its device: only Data add to them, and the next one has their count for its number.
use Rattle.std.proofs.Common.{◌≡◌, ℕ, ◌+◌, Bool, true, false, List, [], ◌∷◌, ◌++◌, length, refl, sym, ap, subst, ◌∙◌, arith, Option, Some, None}
use Rattle.std.proofs.lemmas.Bool.{eqb-true, false≢true}
use Rattle.std.specs.Prelude.{◌==◌, is_some, if◌then◌else◌}
use Rattle.slots.specs.Slots.{is_pio, match_some}
use Rattle.hba_laws.specs.History as history
use Rattle.hba_laws.specs.History.{Event, History, Setup, Transfer, bytes_of, carried, is_at, is_set_up, issued, last_setup, next_number, pio_setup}
use Rattle.hba_laws.specs.History.{unless, waiting_in}
use Rattle.machine_theorem.proofs.{Calm.one_back, CallEvents.{AllOf, IsPlain}, SetupHistory.was_issued}

-- so many bytes of it were transferred
abbrev pub Counts : History → ℕ → Type 0
Counts past t = (s : ℕ) (x : Transfer) → is_at s (waiting_in past) ≡ true → issued s past ≡ Some x → is_pio x.work.kind ≡ true → bytes_of s past ≡ t

-- no command goes, and no Data are carried
abbrev pub IsCalm : Event → Type 0
IsCalm (history.Sent slot) = ⊥
IsCalm (history.Carried bytes) = ⊥
IsCalm other = Unit {0}

pub calm_of : (e : Event) → IsPlain e → IsCalm e
calm_of (history.Sent slot) is = absurd is
calm_of (history.PioSetUp count to_host ends) is = tt
calm_of (history.Issued slot t) is = tt
calm_of (history.SentControl slot) is = tt
calm_of (history.SetUp tag offset count to_host) is = tt
calm_of (history.Carried bytes) is = absurd is
calm_of history.Answered is = tt
calm_of (history.Named mask) is = tt
calm_of history.Emptied is = tt

not_at : (s : ℕ) (w : Option ℕ) → is_at s (unless (is_at s w) w) ≡ true → ⊥
not_at s w e = by (is_at s w) refl e
  where
    by : (b : Bool) → is_at s w ≡ b → is_at s (unless b w) ≡ true → ⊥
    by true is e = cc
    by false is e = false≢true (sym is ∙ e)

issued_counts : (slot : ℕ) (y : Transfer) (past : History) (t : ℕ) → Counts past t → Counts (history.Issued slot y ∷ past) t
issued_counts slot y past t was s x at is pio = by (slot == s) refl is
  where
    by : (b : Bool) → (slot == s) ≡ b → (if b then Some y else issued s past) ≡ Some x → (if b then 0 else bytes_of s past) ≡ t
    by true same is = absurd (not_at s (waiting_in past) (subst (λ (k : ℕ). is_at s (unless (is_at k (waiting_in past)) (waiting_in past)) ≡ true)
        (eqb-true slot s same) at))
    by false apart is = was s x (one_back s (history.Issued slot y) tt past at) is pio

one_counts : (e : Event) (past : History) (t : ℕ) → IsCalm e → Counts past t → Counts (e ∷ past) t
one_counts (history.Issued slot y) past t calm was = issued_counts slot y past t was
one_counts (history.Sent slot) past t calm was = absurd calm
one_counts (history.Carried bytes) past t calm was = absurd calm
one_counts history.Answered past t calm was = λ s x at is pio. absurd (false≢true at)
one_counts history.Emptied past t calm was = λ s x at is pio. absurd (cc)
one_counts (history.SentControl slot) past t calm was = λ s x at is pio. was s x at (was_issued s (history.SentControl slot) past x tt is) pio
one_counts (history.SetUp tag offset count to_host) past t calm was =
    λ s x at is pio. was s x at (was_issued s (history.SetUp tag offset count to_host) past x tt is) pio
one_counts (history.PioSetUp count to_host ends) past t calm was =
    λ s x at is pio. was s x at (was_issued s (history.PioSetUp count to_host ends) past x tt is) pio
one_counts (history.Named mask) past t calm was = λ s x at is pio. was s x at (was_issued s (history.Named mask) past x tt is) pio

pub all_counts : (h past : History) (t : ℕ) → AllOf IsCalm h → Counts past t → Counts (h ++ past) t
all_counts [] past t calm was = was
all_counts (e ∷ h) past t calm was = one_counts e (h ++ past) t calm.0 (all_counts h past t calm.1 was)

-- ---- Data

-- the PIO data-in that waits is set up, or it is not
abbrev pub IsUpSo : Bool → History → Type 0
IsUpSo b past = (s : ℕ) (x : Transfer) → is_at s (waiting_in past) ≡ true → issued s past ≡ Some x → is_pio x.work.kind ≡ true → is_set_up s past ≡ b

pub came_counts : (bytes : List ℕ) (past : History) (t : ℕ) → IsUpSo true past → Counts past t → Counts (history.Carried bytes ∷ past)
    (t + length bytes)
came_counts bytes past t up was s x at is pio =
    let before = was_issued s (history.Carried bytes) past x tt is in
    ap (λ (b : Bool). if b then bytes_of s past + length bytes else bytes_of s past) (up s x at before pio)
    ∙ ap (λ (k : ℕ). k + length bytes) (was s x at before pio)

pub fed_counts : (bytes : List ℕ) (past : History) (t : ℕ) → IsUpSo false past → Counts past t → Counts (history.Carried bytes ∷ past) t
fed_counts bytes past t up was s x at is pio =
    let before = was_issued s (history.Carried bytes) past x tt is in
    ap (λ (b : Bool). if b then bytes_of s past + length bytes else bytes_of s past) (up s x at before pio) ∙ was s x at before pio

-- ---- the number of the next byte

pub pio_next : (s : ℕ) (past : History) (g : Setup) → last_setup past ≡ Some g → is_some g.ends ≡ true → is_set_up s past ≡ true
    → next_number past ≡ bytes_of s past
pio_next s [] g last ends up = absurd (false≢true up)
pio_next s (history.Issued slot y ∷ past) g last ends up = by (slot == s) up (λ u. pio_next s past g last ends u)
  where
    by : (b : Bool) → (if b then false else is_set_up s past) ≡ true → (is_set_up s past ≡ true → next_number past ≡ bytes_of s past)
        → next_number past ≡ (if b then 0 else bytes_of s past)
    by true up rest = absurd (false≢true up)
    by false up rest = rest up
pio_next s (history.SetUp tag offset count to_host ∷ past) g last ends up =
    absurd (false≢true (ap (λ (o : Option Setup). is_some (match_some o None (λ y. y.ends))) last ∙ ends))
pio_next s (history.PioSetUp count to_host stat ∷ past) g last ends up = by (waiting_in past) up
  where
    by : (o : Option ℕ) → is_at s o ≡ true
        → match_some (match_some o None (λ k. Some (pio_setup k (bytes_of k past) count to_host stat))) 0 (λ y. y.offset + 0) ≡ bytes_of s past
    by None up = absurd (false≢true up)
    by (Some k) up = ap (λ (j : ℕ). bytes_of j past + 0) (eqb-true k s up) ∙ omega arith
pio_next s (history.Carried bytes ∷ past) g last ends up =
    let rest : next_number past ≡ bytes_of s past = pio_next s past g last ends up in
    let here : g.offset + carried past ≡ bytes_of s past = sym (ap (λ (o : Option Setup). match_some o 0 (λ y. y.offset + carried past)) last)
    ∙ rest in
    let more : g.offset + (carried past + length bytes) ≡ bytes_of s past + length bytes = omega (arith, here) in
    ap (λ (o : Option Setup). match_some o 0 (λ y. y.offset + (carried past + length bytes))) last ∙ more
    ∙ ap (λ (b : Bool). if b then bytes_of s past + length bytes else bytes_of s past) (sym up)
pio_next s (history.Sent slot ∷ past) g last ends up = pio_next s past g last ends up
pio_next s (history.SentControl slot ∷ past) g last ends up = pio_next s past g last ends up
pio_next s (history.Answered ∷ past) g last ends up = pio_next s past g last ends up
pio_next s (history.Named mask ∷ past) g last ends up = pio_next s past g last ends up
pio_next s (history.Emptied ∷ past) g last ends up = pio_next s past g last ends up
