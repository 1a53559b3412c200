-- The laws of interrupts: one step, then lists of events.
use Rattle.std.proofs.Common.{◌≡◌, ℕ, ◌+◌, ◌-◌, ◌^◌, ◌<◌, Bool, true, false, not, ◌&&◌, refl, sym, ap, ◌∙◌, arith, bit_and, bit_or, subst}
use Rattle.std.specs.Prelude.{◌==◌, ◌||◌, if◌then◌else◌, List, [], ◌∷◌}
use Rattle.std.proofs.lemmas.Bool.{eqb-true, true≢false, false≢true}
use Rattle.std.proofs.lemmas.Nat.{and_le_r}
use Rattle.ahci_registers.specs.Bits.{has_bit, ufs, pcs, prcs, clearable, known, shadows}
use Rattle.ahci_registers.specs.Lines.{LineEvent, after, asks, is_due, line, opening_lines}
use Rattle.ahci_registers.specs.Lines.LineEvent.{Caused, WrotePortStatus, WrotePortMask, WroteStatus, WroteGlobal, WroteError}
use Rattle.ahci_registers.specs.Laws.{after_all, is_told, Keeps, AllKeep, AreCauses, Stand, StandsUntilTaken, ErrorsStand, IsRaisedUntilTaken, NothingIsLostBetween, TakesOnlyOnes, TakesOnes, IsDueAtACause, RisesByAMessage, IsToldAgain, ShowKnown, ReservedReadZero}
use Rattle.ahci_registers.specs.declared.lines.Lines.{Lines}
use Rattle.ahci_registers.proofs.BitLemmas.{or_keeps, or_adds, without_keeps, without_takes, still_shares, still_apart, new_shares, parts_apart, or_within, and_within, cut_within, causes_fit, clearable_fits, shadows_fit}

-- ---- causes stand

unreset : (bits : ℕ) (b : Bool) (l m : Lines) → b ≡ false → Stand bits m → Stand bits (if b then l else m)
unreset bits true l m h stand = absurd (true≢false h)
unreset bits false l m h stand = stand

pub step_keeps : TakesOnlyOnes
unfolding after Keeps
step_keeps l bits (Caused more) are stand keeps = or_keeps l.status (bit_and more known) bits stand
step_keeps l bits (WrotePortStatus value) are stand keeps = without_keeps l.status (bit_and value clearable) bits (clearable_fits value) (causes_fit bits are) stand keeps
step_keeps l bits (WrotePortMask value) are stand keeps = stand
step_keeps l bits (WroteStatus value) are stand keeps = stand
step_keeps l bits (WroteGlobal value) are stand keeps = unreset bits (has_bit value 0) opening_lines (record l { enabled = has_bit value 1 }) keeps stand
step_keeps l bits (WroteError value) are stand keeps = without_keeps l.status (shadows value) bits (shadows_fit value) (causes_fit bits are) stand keeps

all_stand : (l : Lines) (bits : ℕ) (events : List LineEvent) → AreCauses bits → Stand bits l → AllKeep bits events → Stand bits (after_all l events)
unfolding after_all AllKeep
all_stand l bits [] are stand keep = stand
all_stand l bits (event ∷ events) are stand keep = all_stand (after l event) bits events are (step_keeps l bits event are stand keep.0) keep.1

comes : (l : Lines) (bits : ℕ) → AreCauses bits → Stand bits (after l (Caused bits))
unfolding after
comes l bits are = or_adds l.status bits known are

pub stands : StandsUntilTaken
stands l bits events are keep = all_stand (after l (Caused bits)) bits events are (comes l bits are) keep

pub between : NothingIsLostBetween
unfolding Keeps
between l bits events are keep unread = step_keeps (after_all (after l (Caused bits)) events) bits (WrotePortStatus l.status) are (stands l bits events are keep) unread

pub taken : TakesOnes
unfolding after
taken l value = (without_takes l.status (bit_and value clearable) (clearable_fits value), without_takes l.status (shadows value) (shadows_fit value))

errors_fit : (bits : ℕ) → bit_and bits (ufs + pcs + prcs) ≡ bits → bits < 2 ^ 32
errors_fit bits h = omega (arith, h, and_le_r bits (ufs + pcs + prcs))

pub errors : ErrorsStand
unfolding after
errors l bits value own stand = without_keeps l.status (bit_and value clearable) bits (clearable_fits value) (errors_fit bits own) stand
    (parts_apart bits (ufs + pcs + prcs) value clearable own refl)

-- ---- reserved bits

unreset_known : (b : Bool) (m : Lines) → ShowKnown m → ShowKnown (if b then opening_lines else m)
unreset_known true m shows = record { status = refl; mask = refl }
unreset_known false m shows = shows

step_known : (l : Lines) (event : LineEvent) → ShowKnown l → ShowKnown (after l event)
unfolding after
step_known l (Caused bits) shows = record { status = or_within l.status (bit_and bits known) known shows.status (cut_within bits known); mask = shows.mask }
step_known l (WrotePortStatus value) shows = record { status = and_within l.status (4294967295 - bit_and value clearable) known shows.status; mask = shows.mask }
step_known l (WrotePortMask value) shows = record { status = shows.status; mask = cut_within value known }
step_known l (WroteStatus value) shows = shows
step_known l (WroteGlobal value) shows = unreset_known (has_bit value 0) (record l { enabled = has_bit value 1 }) (record { status = shows.status; mask = shows.mask })
step_known l (WroteError value) shows = record { status = and_within l.status (4294967295 - shadows value) known shows.status; mask = shows.mask }

pub reserved : ReservedReadZero
unfolding after_all
reserved l [] shows = shows
reserved l (event ∷ events) shows = reserved (after l event) events (step_known l event shows)

-- ---- the line

up : (e z : Bool) → e ≡ true → z ≡ false → (e && not z) ≡ true
up true false h k = refl
up true true h k = absurd (true≢false k)
up false z h k = absurd (false≢true h)

stand_raise : (l : Lines) (bits : ℕ) → Stand bits l → l.enabled ≡ true → (bit_and bits l.mask == 0) ≡ false → line l ≡ true
unfolding line
stand_raise l bits stand enabled some = up l.enabled (bit_and l.status l.mask == 0) enabled (still_shares l.status bits l.mask stand some)

pub raised : IsRaisedUntilTaken
raised l bits events are keep last is enabled some = stand_raise last bits (subst (λ (x : Lines). Stand bits x) (sym is) (stands l bits events are keep)) enabled some

-- ---- messages

both : (a b : Bool) → a ≡ true → b ≡ true → (a && b) ≡ true
both a b h k = cc

asked : (bits mask : ℕ) → AreCauses bits → (bit_and bits mask == 0) ≡ false → not (bit_and (bit_and bits known) mask == 0) ≡ true
asked bits mask are some = ap (λ (x : ℕ). not (bit_and x mask == 0)) are ∙ ap not some

cause_raises : (l : Lines) (bits : ℕ) → AreCauses bits → l.enabled ≡ true → (bit_and bits l.mask == 0) ≡ false → line (after l (Caused bits)) ≡ true
unfolding after
cause_raises l bits are enabled some = stand_raise (record l { status = bit_or l.status (bit_and bits known) }) bits (or_adds l.status bits known are) enabled some

pub at_a_cause : IsDueAtACause
unfolding asks
at_a_cause l bits are enabled some = both (line (after l (Caused bits))) (not (bit_and (bit_and bits known) l.mask == 0)) (cause_raises l bits are enabled some) (asked bits l.mask are some)

undone : (z : Bool) → (true && not z) ≡ false → z ≡ true
undone true h = refl
undone false h = cc

done : (z : Bool) → (true && not z) ≡ true → z ≡ false
done false h = refl
done true h = cc

-- a line that rises at a cause rises by that cause
fresh : (e : Bool) (s x m : ℕ) → (e && not (bit_and s m == 0)) ≡ false → (e && not (bit_and (bit_or s x) m == 0)) ≡ true → not (bit_and x m == 0) ≡ true
fresh false s x m down rose = absurd (false≢true rose)
fresh true s x m down rose = ap not (new_shares s x m (eqb-true (bit_and s m) 0 (undone (bit_and s m == 0) down)) (done (bit_and (bit_or s x) m == 0) rose))

-- a clear raises nothing
unraised : (z y : Bool) → (y ≡ true → z ≡ true) → (not z && not (not y)) ≡ false
unraised true y h = refl
unraised false true h = absurd (false≢true (h refl))
unraised false false h = refl

cleared_is_silent : (e : Bool) (s y m : ℕ) → ((e && not (bit_and (bit_and s y) m == 0)) && not (e && not (bit_and s m == 0))) ≡ false
cleared_is_silent false s y m = refl
cleared_is_silent true s y m = unraised (bit_and (bit_and s y) m == 0) (bit_and s m == 0) (still_apart s y m)

pub pxis_is_silent : (l : Lines) (value : ℕ) → is_due l (WrotePortStatus value) ≡ false
unfolding line after asks
pxis_is_silent l value = cleared_is_silent l.enabled l.status (4294967295 - bit_and value clearable) l.mask

pub serr_is_silent : (l : Lines) (value : ℕ) → is_due l (WroteError value) ≡ false
unfolding line after asks
serr_is_silent l value = cleared_is_silent l.enabled l.status (4294967295 - shadows value) l.mask

asks_as_it_rises : (l : Lines) (event : LineEvent) → line l ≡ false → line (after l event) ≡ true → asks l event ≡ true
unfolding line after asks
asks_as_it_rises l (Caused bits) down rose = fresh l.enabled l.status (bit_and bits known) l.mask down rose
asks_as_it_rises l (WrotePortStatus value) down rose = ap not down
asks_as_it_rises l (WrotePortMask value) down rose = ap not down
asks_as_it_rises l (WroteStatus value) down rose = absurd (false≢true (sym down ∙ rose))
asks_as_it_rises l (WroteGlobal value) down rose = ap not down
asks_as_it_rises l (WroteError value) down rose = ap not down

due_as_it_rises : (l : Lines) (event : LineEvent) → line l ≡ false → line (after l event) ≡ true → is_due l event ≡ true
due_as_it_rises l event down rose = both (line (after l event)) (asks l event) rose (asks_as_it_rises l event down rose)

first : (a b : Bool) → a ≡ true → (a || b) ≡ true
first true b h = refl
first false b h = absurd (false≢true h)

second : (a b : Bool) → b ≡ true → (a || b) ≡ true
second true b h = refl
second false b h = h

rises_at : (l : Lines) (event : LineEvent) (events : List LineEvent) (b : Bool) → line (after l event) ≡ b → line l ≡ false
    → (line (after l event) ≡ false → is_told (after l event) events ≡ true) → (is_due l event || is_told (after l event) events) ≡ true
rises_at l event events true is down later = first (is_due l event) (is_told (after l event) events) (due_as_it_rises l event down is)
rises_at l event events false is down later = second (is_due l event) (is_told (after l event) events) (later is)

pub rises : RisesByAMessage
unfolding after_all is_told
rises l [] down rose = absurd (false≢true (sym down ∙ rose))
rises l (event ∷ events) down rose = rises_at l event events (line (after l event)) refl down (λ still. rises (after l event) events still rose)

again_at : (l : Lines) (value : ℕ) (events : List LineEvent) (b : Bool) → line l ≡ b → has_bit value 0 ≡ true
    → line (after_all l events) ≡ true → (line l && has_bit value 0 || is_told l events) ≡ true
again_at l value events true is one rose = first (line l && has_bit value 0) (is_told l events) (both (line l) (has_bit value 0) is one)
again_at l value events false is one rose = second (line l && has_bit value 0) (is_told l events) (rises l events is rose)

pub again : IsToldAgain
unfolding is_told after asks
again l value events one rose = again_at l value events (line l) refl one rose
