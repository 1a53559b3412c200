-- What goes between a device and its host, as each of the two sees it: the host got a beginning of the FISes that the device sent, and the device heard Data
-- that the host sent, in order. Where each keeps its turn, both know the same of the Data that go next.
use Rattle.std.proofs.Common.{◌≡◌, ◌⊎◌, ℕ, ◌+◌, ◌≤◌, Bool, true, false, List, [], ◌∷◌, ◌++◌, length, Option, Some, None, refl, sym, ap, subst, ◌∙◌, inl, inr, arith}
use Rattle.std.specs.Prelude.{if◌then◌else◌}
use Rattle.std.proofs.lemmas.List.{length-append}
use Rattle.sata_disk_books.specs.Counted.{Counted, more_by}
use Rattle.sata_disk_books.specs.Talks.{AreAsked, AreInTurn, Asks, Down, Plain, SetsUp, Sign, Step, Talk, Up, quiet_talk, talk_after, talk_by}
use Rattle.machine_theorem.specs.Crossing.{Within, downs, ups}
use Rattle.machine_theorem.proofs.Within.{all_of}

-- ---- what goes up, and down

abbrev bit : Bool → ℕ
bit true = 1
bit false = 0

-- how often Data are asked for
abbrev credit : Sign → ℕ
credit (SetsUp tag offset auto) = bit auto
credit Asks = 1
credit Plain = 0

abbrev credits : List Sign → ℕ
credits [] = 0
credits (s ∷ later) = credit s + credits later

-- how many Data go where they were asked for
abbrev opens : Talk → List Step → ℕ
opens t [] = 0
opens t (Up s ∷ later) = opens (talk_by t (Up s)) later
opens t (Down n ∷ later) = bit t.wants + opens (talk_by t (Down n)) later

abbrev after_data : List ℕ → Option Counted → Option Counted
after_data [] t = t
after_data (n ∷ later) t = after_data later (more_by n t)

pub ups_both : (xs ys : List Step) → ups (xs ++ ys) ≡ ups xs ++ ups ys
ups_both [] ys = refl
ups_both (Up s ∷ xs) ys = ap (λ l. s ∷ l) (ups_both xs ys)
ups_both (Down n ∷ xs) ys = ups_both xs ys

pub downs_both : (xs ys : List Step) → downs (xs ++ ys) ≡ downs xs ++ downs ys
downs_both [] ys = refl
downs_both (Up s ∷ xs) ys = downs_both xs ys
downs_both (Down n ∷ xs) ys = ap (λ l. n ∷ l) (downs_both xs ys)

credits_both : (xs ys : List Sign) → credits (xs ++ ys) ≡ credits xs + credits ys
credits_both [] ys = omega arith
credits_both (x ∷ xs) ys = let more = credits_both xs ys in omega (arith, more)

pub talk_both : (xs ys : List Step) (t : Talk) → talk_after t (xs ++ ys) ≡ talk_after (talk_after t xs) ys
unfolding talk_after
talk_both [] ys t = refl
talk_both (x ∷ xs) ys t = talk_both xs ys (talk_by t x)

pub asked_parts : (xs ys : List Step) (t : Talk) → AreAsked t (xs ++ ys) → AreAsked t xs × AreAsked (talk_after t xs) ys
unfolding talk_after
asked_parts [] ys t are = (tt, are)
asked_parts (x ∷ xs) ys t are = let rest = asked_parts xs ys (talk_by t x) are.1 in ((are.0, rest.0), rest.1)

turn_parts : (xs ys : List Step) (t : Talk) → AreInTurn t (xs ++ ys) → AreInTurn t xs × AreInTurn (talk_after t xs) ys
unfolding talk_after
turn_parts [] ys t are = (tt, are)
turn_parts (x ∷ xs) ys t are = let rest = turn_parts xs ys (talk_by t x) are.1 in ((are.0, rest.0), rest.1)

-- ---- counts

bit_none : (b : Bool) → b ≡ false → bit b ≡ 0
bit_none b e = ap bit e

bit_one : (b : Bool) → b ≡ true → bit b ≡ 1
bit_one b e = ap bit e

turn_counts : (w : List Step) (t : Talk) → AreInTurn t w → credits (ups w) + bit t.wants ≡ opens t w + bit (talk_after t w).wants
unfolding talk_after
turn_counts [] t are = refl
turn_counts (Up (SetsUp tag offset auto) ∷ later) t are =
    let none = bit_none t.wants are.0 in let rest = turn_counts later (talk_by t (Up (SetsUp tag offset auto))) are.1 in omega (arith, none, rest)
turn_counts (Up Asks ∷ later) t are = let none = bit_none t.wants are.0 in let rest = turn_counts later (talk_by t (Up Asks)) are.1 in omega (arith, none, rest)
turn_counts (Up Plain ∷ later) t are = let rest = turn_counts later t are.1 in omega (arith, rest)
turn_counts (Down n ∷ later) t are = let rest = turn_counts later (talk_by t (Down n)) are.1 in omega (arith, rest)

bit_most : (b : Bool) → bit b ≤ 1
bit_most true = omega arith
bit_most false = omega arith

opens_few : (w : List Step) (t : Talk) → opens t w ≤ length (downs w)
opens_few [] t = omega arith
opens_few (Up s ∷ later) t = opens_few later (talk_by t (Up s))
opens_few (Down n ∷ later) t = let most = bit_most t.wants in let rest = opens_few later (talk_by t (Down n)) in omega (arith, most, rest)

asked_counts : (w : List Step) (t : Talk) → AreAsked t w → length (downs w) + bit (talk_after t w).wants ≤ credits (ups w) + bit t.wants
unfolding talk_after
asked_counts [] t are = omega arith
asked_counts (Up (SetsUp tag offset auto) ∷ later) t are = let rest = asked_counts later (talk_by t (Up (SetsUp tag offset auto))) are.1 in omega (arith, rest)
asked_counts (Up Asks ∷ later) t are = let rest = asked_counts later (talk_by t (Up Asks)) are.1 in omega (arith, rest)
asked_counts (Up Plain ∷ later) t are = let rest = asked_counts later t are.1 in omega (arith, rest)
asked_counts (Down n ∷ later) t are = let one = bit_one t.wants are.0 in let rest = asked_counts later (talk_by t (Down n)) are.1 in omega (arith, one, rest)

asked_open : (w : List Step) (t : Talk) → AreAsked t w → opens t w ≡ length (downs w)
asked_open [] t are = refl
asked_open (Up s ∷ later) t are = asked_open later (talk_by t (Up s)) are.1
asked_open (Down n ∷ later) t are = let one = bit_one t.wants are.0 in let rest = asked_open later (talk_by t (Down n)) are.1 in omega (arith, one, rest)

-- ---- behind the last DMA Setup FIS

abbrev pub NoSetUps : List Sign → Type 0
NoSetUps [] = Unit {0}
NoSetUps (SetsUp tag offset auto ∷ later) = ⊥
NoSetUps (s ∷ later) = NoSetUps later

some_bit : (b : Bool) → bit b ≡ 1 → b ≡ true
some_bit true e = refl
some_bit false e = absurd (omega (arith, e))

told_more : (w : List Step) (t : Talk) → NoSetUps (ups w) → opens t w ≡ length (downs w) → (talk_after t w).told ≡ after_data (downs w) t.told
unfolding talk_after
told_more [] t none all = refl
told_more (Up (SetsUp tag offset auto) ∷ later) t none all = absurd none
told_more (Up Asks ∷ later) t none all = told_more later (talk_by t (Up Asks)) none all
told_more (Up Plain ∷ later) t none all = told_more later t none all
told_more (Down n ∷ later) t none all =
    let few = opens_few later (talk_by t (Down n)) in let most = bit_most t.wants in
    let here : t.wants ≡ true = some_bit t.wants (omega (arith, all, few, most)) in
    let one = bit_one t.wants here in
    told_more later (talk_by t (Down n)) none (omega (arith, all, one)) ∙ ap (λ (b : Bool). after_data (downs later) (if b then more_by n t.told else t.told)) here

told_none : (w : List Step) (t : Talk) → t.told ≡ None → NoSetUps (ups w) → (talk_after t w).told ≡ None
unfolding talk_after
told_none [] t is none = is
told_none (Up (SetsUp tag offset auto) ∷ later) t is none = absurd none
told_none (Up Asks ∷ later) t is none = told_none later (talk_by t (Up Asks)) is none
told_none (Up Plain ∷ later) t is none = told_none later t is none
told_none (Down n ∷ later) t is none = told_none later (talk_by t (Down n)) (by t.wants) none
  where
    by : (b : Bool) → (if b then more_by n t.told else t.told) ≡ None
    by true = ap (more_by n) is
    by false = is

record Last (w : List Step) : Type 0 where
  front : List Step
  tag : ℕ
  offset : ℕ
  auto : Bool
  back : List Step
  is : w ≡ front ++ Up (SetsUp tag offset auto) ∷ back
  none : NoSetUps (ups back)

last_more : (x : Step) (w : List Step) → Last w → Last (x ∷ w)
last_more x w l = record { front = x ∷ l.front; tag = l.tag; offset = l.offset; auto = l.auto; back = l.back; is = ap (λ k. x ∷ k) l.is; none = l.none }

last_of : (w : List Step) → NoSetUps (ups w) ⊎ Last w
last_of [] = inl tt
last_of (Up (SetsUp tag offset auto) ∷ later) = elim (last_of later) [
  | inl none ↦ inr (record { front = []; tag = tag; offset = offset; auto = auto; back = later; is = refl; none = none })
  | inr l ↦ inr (last_more (Up (SetsUp tag offset auto)) later l)
]
last_of (Up Asks ∷ later) = elim (last_of later) [
  | inl none ↦ inl none
  | inr l ↦ inr (last_more (Up Asks) later l)
]
last_of (Up Plain ∷ later) = elim (last_of later) [
  | inl none ↦ inl none
  | inr l ↦ inr (last_more (Up Plain) later l)
]
last_of (Down n ∷ later) = elim (last_of later) [
  | inl none ↦ inl none
  | inr l ↦ inr (last_more (Down n) later l)
]

-- ---- lists

abbrev head_or : {A : Type 0} → A → List A → A
head_or x [] = x
head_or x (y ∷ ys) = y

abbrev tail_of : {A : Type 0} → List A → List A
tail_of [] = []
tail_of (y ∷ ys) = ys

-- where the last element of one list stands in two others
abbrev Where : (us : List Sign) → (s : Sign) → (vs zs extra : List Sign) → Type 0
Where us s vs zs extra = ((m : List Sign) × ((zs ≡ us ++ s ∷ m) × (vs ≡ m ++ extra))) ⊎ ((m : List Sign) × ((us ≡ zs ++ m) × (extra ≡ m ++ s ∷ vs)))

where_is : (us : List Sign) (s : Sign) (vs zs extra : List Sign) → us ++ s ∷ vs ≡ zs ++ extra → Where us s vs zs extra
where_is us s vs [] extra e = inr (us, (refl, sym e))
where_is [] s vs (z ∷ zs) extra e = inl (zs, (ap (λ x. x ∷ zs) (sym (ap (head_or s) e)), ap tail_of e))
where_is (u ∷ us) s vs (z ∷ zs) extra e = elim (where_is us s vs zs extra (ap tail_of e)) [
  | inl first ↦ inl (first.0, (ap (λ x. x ∷ zs) (sym (ap (head_or u) e)) ∙ ap (λ l. u ∷ l) first.1.0, first.1.1))
  | inr past ↦ inr (past.0, (ap (λ x. x ∷ us) (ap (head_or u) e) ∙ ap (λ l. z ∷ l) past.1.0, past.1.1))
]

none_first : (m extra : List Sign) → NoSetUps (m ++ extra) → NoSetUps m
none_first [] extra none = tt
none_first (SetsUp tag offset auto ∷ m) extra none = absurd none
none_first (Asks ∷ m) extra none = none_first m extra none
none_first (Plain ∷ m) extra none = none_first m extra none

none_here : (m vs : List Sign) (tag offset : ℕ) (auto : Bool) → NoSetUps (m ++ SetsUp tag offset auto ∷ vs) → ⊥
none_here [] vs tag offset auto none = none
none_here (SetsUp t o a ∷ m) vs tag offset auto none = none
none_here (Asks ∷ m) vs tag offset auto none = none_here m vs tag offset auto none
none_here (Plain ∷ m) vs tag offset auto none = none_here m vs tag offset auto none

-- two lists with one last DMA Setup FIS each
record SameLast (us vs : List Sign) (s : Sign) (xs ys : List Sign) (t : Sign) : Type 0 where
  before : us ≡ xs
  here : s ≡ t
  behind : vs ≡ ys

same_last : (us vs : List Sign) (tag offset : ℕ) (auto : Bool) (xs ys : List Sign) (tag' offset' : ℕ) (auto' : Bool) → NoSetUps vs → NoSetUps ys
    → us ++ SetsUp tag offset auto ∷ vs ≡ xs ++ SetsUp tag' offset' auto' ∷ ys → SameLast us vs (SetsUp tag offset auto) xs ys (SetsUp tag' offset' auto')
same_last [] vs tag offset auto [] ys tag' offset' auto' one two e = record { before = refl; here = ap (head_or (SetsUp tag offset auto)) e; behind = ap tail_of e }
same_last [] vs tag offset auto (x ∷ xs) ys tag' offset' auto' one two e = absurd (none_here xs ys tag' offset' auto' (subst NoSetUps (ap tail_of e) one))
same_last (u ∷ us) vs tag offset auto [] ys tag' offset' auto' one two e = absurd (none_here us vs tag offset auto (subst NoSetUps (sym (ap tail_of e)) two))
same_last (u ∷ us) vs tag offset auto (x ∷ xs) ys tag' offset' auto' one two e =
    let rest = same_last us vs tag offset auto xs ys tag' offset' auto' one two (ap tail_of e) in
    record { before = ap (λ y. y ∷ us) (ap (head_or u) e) ∙ ap (λ l. x ∷ l) rest.before; here = rest.here; behind = rest.behind }

same_back : (ks bs cs ds : List ℕ) → ks ++ bs ≡ cs ++ ds → length ks ≡ length cs → bs ≡ ds
same_back [] bs [] ds e long = e
same_back [] bs (c ∷ cs) ds e long = absurd (omega (arith, long))
same_back (k ∷ ks) bs [] ds e long = absurd (omega (arith, long))
same_back (k ∷ ks) bs (c ∷ cs) ds e long = same_back ks bs cs ds (ap tail_of e) (omega (arith, long))

-- ---- both know the same

-- a talk that is cut at its last DMA Setup FIS
record Cut (w : List Step) (l : Last w) : Type 0 where
  ups_are : ups w ≡ ups l.front ++ SetsUp l.tag l.offset l.auto ∷ ups l.back
  downs_are : downs w ≡ downs l.front ++ downs l.back
  ends : talk_after quiet_talk w ≡ talk_after (talk_by (talk_after quiet_talk l.front) (Up (SetsUp l.tag l.offset l.auto))) l.back

talk_step : (t : Talk) (s : Step) (w : List Step) → talk_after t (s ∷ w) ≡ talk_after (talk_by t s) w
unfolding talk_after
talk_step t s w = refl

cut : (w : List Step) (l : Last w) → Cut w l
cut w l =
    let s : Step = Up (SetsUp l.tag l.offset l.auto) in
    record {
      ups_are = ap ups l.is ∙ ups_both l.front (s ∷ l.back);
      downs_are = ap downs l.is ∙ downs_both l.front (s ∷ l.back);
      ends = ap (talk_after quiet_talk) l.is ∙ talk_both l.front (s ∷ l.back) quiet_talk ∙ talk_step (talk_after quiet_talk l.front) s l.back;
    }

-- the host's part
record OfHost (w : List Step) : Type 0 where
  asked : AreAsked quiet_talk w
  wants : (talk_after quiet_talk w).wants ≡ true

record OfDevice (w : List Step) : Type 0 where
  turn : AreInTurn quiet_talk w
  wants : (talk_after quiet_talk w).wants ≡ true

abbrev begun : {w : List Step} → Last w → Talk
begun l = record { told = Some (record { tag = l.tag; count = l.offset }); wants = l.auto }

-- where its last DMA Setup FIS went nothing was asked for, so no more was asked for than came
record Front (w : List Step) (l : Last w) : Type 0 where
  few : credits (ups l.front) ≤ length (downs l.front)
  back : AreInTurn (begun l) l.back

device_front : (w : List Step) (l : Last w) → AreInTurn quiet_talk w → Front w l
device_front w l turn =
    let s : Step = Up (SetsUp l.tag l.offset l.auto) in
    let parts = turn_parts l.front (s ∷ l.back) quiet_talk (subst (AreInTurn quiet_talk) l.is turn) in
    let counts = turn_counts l.front quiet_talk parts.0 in
    let none = bit_none (talk_after quiet_talk l.front).wants parts.1.0 in
    let few = opens_few l.front quiet_talk in
    record { few = omega (arith, counts, none, few); back = parts.1.1 }

host_front : (w : List Step) (l : Last w) → AreAsked quiet_talk w → AreAsked quiet_talk l.front × AreAsked (begun l) l.back
host_front w l asked =
    let parts = asked_parts l.front (Up (SetsUp l.tag l.offset l.auto) ∷ l.back) quiet_talk (subst (AreAsked quiet_talk) l.is asked) in
    (parts.0, parts.1.1)

-- what is known of both
record Both (hs ds : List Step) (extra : List Sign) : Type 0 where
  host : OfHost hs
  device : OfDevice ds
  up : ups ds ≡ ups hs ++ extra
  down : downs ds ≡ downs hs

down_same : (hs ds : List Step) (extra : List Sign) → OfHost hs → OfDevice ds → ups ds ≡ ups hs ++ extra → Within (downs ds) (downs hs) → downs ds ≡ downs hs
down_same hs ds extra host device up within =
    let one = asked_counts hs quiet_talk host.asked in
    let two = bit_one (talk_after quiet_talk hs).wants host.wants in
    let three = turn_counts ds quiet_talk device.turn in
    let four = bit_one (talk_after quiet_talk ds).wants device.wants in
    let five = opens_few ds quiet_talk in
    let six = ap credits up in
    let seven = credits_both (ups hs) extra in
    all_of (downs ds) (downs hs) within (omega (arith, one, two, three, four, five, six, seven))

-- a DMA Setup FIS that the host has not got: it would have come with too much asked for
not_past : (hs ds : List Step) (extra : List Sign) → Both hs ds extra → (l : Last ds) → (m : List Sign) → ups l.front ≡ ups hs ++ m → ⊥
not_past hs ds extra both l m is =
    let one = asked_counts hs quiet_talk both.host.asked in
    let two = bit_one (talk_after quiet_talk hs).wants both.host.wants in
    let front = (device_front ds l both.device.turn).few in
    let four = ap credits is in
    let five = credits_both (ups hs) m in
    let six = ap (λ (x : List ℕ). length x) ((cut ds l).downs_are) in
    let seven = length-append (downs l.front) (downs l.back) in
    let eight = ap (λ (x : List ℕ). length x) both.down in
    omega (arith, one, two, front, four, five, six, seven, eight)

abbrev tells : Sign → Option Counted
tells (SetsUp tag offset auto) = Some (record { tag = tag; count = offset })
tells other = None

at_last : (hs ds : List Step) (extra : List Sign) → Both hs ds extra → (h : Last hs) (d : Last ds) (m : List Sign)
    → ups hs ≡ ups d.front ++ SetsUp d.tag d.offset d.auto ∷ m → ups d.back ≡ m ++ extra → (talk_after quiet_talk hs).told ≡ (talk_after quiet_talk ds).told
at_last hs ds extra both h d m is behind =
    let ch = cut hs h in
    let cd = cut ds d in
    let same : SameLast (ups h.front) (ups h.back) (SetsUp h.tag h.offset h.auto) (ups d.front) m (SetsUp d.tag d.offset d.auto) =
    same_last (ups h.front) (ups h.back) h.tag h.offset h.auto (ups d.front) m d.tag d.offset d.auto h.none (none_first m extra (subst NoSetUps behind d.none)) (sym ch.ups_are ∙ is) in
    let asked = host_front hs h both.host.asked in
    let front = device_front ds d both.device.turn in
    -- the host's front and back
    let h1 = asked_counts h.front quiet_talk asked.0 in
    let h2 = asked_counts h.back (begun h) asked.1 in
    let h3 = bit_one (talk_after (begun h) h.back).wants (ap (λ (t : Talk). t.wants) (sym ch.ends) ∙ both.host.wants) in
    let h4 = ap (λ (x : List ℕ). length x) ch.downs_are in
    let h5 = length-append (downs h.front) (downs h.back) in
    let h6 = asked_counts hs quiet_talk both.host.asked in
    let h7 = bit_one (talk_after quiet_talk hs).wants both.host.wants in
    let h8 = ap credits ch.ups_are in
    let h9 = credits_both (ups h.front) (SetsUp h.tag h.offset h.auto ∷ ups h.back) in
    -- the device's
    let d1 = front.few in
    let d2 = turn_counts d.back (begun d) front.back in
    let d3 = bit_one (talk_after (begun d) d.back).wants (ap (λ (t : Talk). t.wants) (sym cd.ends) ∙ both.device.wants) in
    let d4 = ap (λ (x : List ℕ). length x) cd.downs_are in
    let d5 = length-append (downs d.front) (downs d.back) in
    let d6 = opens_few d.back (begun d) in
    let d7 = turn_counts ds quiet_talk both.device.turn in
    let d8 = bit_one (talk_after quiet_talk ds).wants both.device.wants in
    let d9 = opens_few ds quiet_talk in
    -- of both
    let b1 = ap credits same.before in
    let b2 = ap credit same.here in
    let b3 = ap credits same.behind in
    let b4 = ap credits behind in
    let b5 = credits_both m extra in
    let b6 = ap (λ (x : List ℕ). length x) both.down in
    let b7 = ap credits both.up in
    let b8 = credits_both (ups hs) extra in
    let long : length (downs d.front) ≡ length (downs h.front) = omega (arith, h1, h2, h3, h4, h5, h6, h7, h8, h9, d1, d2, d3, d4, d5, d6, d7, d8, d9, b1, b2, b3, b4, b5, b6, b7, b8) in
    let all : opens (begun d) d.back ≡ length (downs d.back) = omega (arith, h1, h2, h3, h4, h5, h6, h7, h8, h9, d1, d2, d3, d4, d5, d6, d7, d8, d9, b1, b2, b3, b4, b5, b6, b7, b8) in
    let backs : downs d.back ≡ downs h.back = same_back (downs d.front) (downs d.back) (downs h.front) (downs h.back) (sym cd.downs_are ∙ both.down ∙ ch.downs_are) long in
    ap (λ (t : Talk). t.told) ch.ends ∙ told_more h.back (begun h) h.none (asked_open h.back (begun h) asked.1)
    ∙ ap (λ (x : List ℕ). after_data x (Some (record { tag = h.tag; count = h.offset }))) (sym backs)
    ∙ ap (λ (s : Sign). after_data (downs d.back) (tells s)) same.here
    ∙ sym (told_more d.back (begun d) d.none all) ∙ sym (ap (λ (t : Talk). t.told) cd.ends)

told_same : (hs ds : List Step) (extra : List Sign) → Both hs ds extra → (talk_after quiet_talk hs).told ≡ (talk_after quiet_talk ds).told
told_same hs ds extra both = by (last_of hs) (last_of ds)
  where
    by : NoSetUps (ups hs) ⊎ Last hs → NoSetUps (ups ds) ⊎ Last ds → (talk_after quiet_talk hs).told ≡ (talk_after quiet_talk ds).told
    by (inl none) (inl empty) = told_none hs quiet_talk refl none ∙ sym (told_none ds quiet_talk refl empty)
    by (inl none) (inr d) = elim (where_is (ups d.front) (SetsUp d.tag d.offset d.auto) (ups d.back) (ups hs) extra (sym (cut ds d).ups_are ∙ both.up)) [
      | inl first ↦ absurd (none_here (ups d.front) first.0 d.tag d.offset d.auto (subst NoSetUps first.1.0 none))
      | inr past ↦ absurd (not_past hs ds extra both d past.0 past.1.0)
    ]
    by (inr h) (inl empty) =
        absurd (none_here (ups h.front) (ups h.back) h.tag h.offset h.auto (subst NoSetUps (cut hs h).ups_are (none_first (ups hs) extra (subst NoSetUps both.up empty))))
    by (inr h) (inr d) = elim (where_is (ups d.front) (SetsUp d.tag d.offset d.auto) (ups d.back) (ups hs) extra (sym (cut ds d).ups_are ∙ both.up)) [
      | inl first ↦ at_last hs ds extra both h d first.0 first.1.0 first.1.1
      | inr past ↦ absurd (not_past hs ds extra both d past.0 past.1.0)
    ]

-- The Data that the device heard are all that the host sent, and both know the same of what goes next.
pub record Agree (hs ds : List Step) : Type 0 where
  pub down : downs ds ≡ downs hs
  pub told : (talk_after quiet_talk hs).told ≡ (talk_after quiet_talk ds).told

pub agree : (hs ds : List Step) (extra : List Sign) → AreAsked quiet_talk hs → (talk_after quiet_talk hs).wants ≡ true → AreInTurn quiet_talk ds → (talk_after quiet_talk ds).wants ≡ true
    → ups ds ≡ ups hs ++ extra → Within (downs ds) (downs hs) → Agree hs ds
agree hs ds extra asked open_h turn open_d up within =
    let host : OfHost hs = record { asked = asked; wants = open_h } in
    let device : OfDevice ds = record { turn = turn; wants = open_d } in
    let down : downs ds ≡ downs hs = down_same hs ds extra host device up within in
    record { down = down; told = told_same hs ds extra (record { host = host; device = device; up = up; down = down }) }
