-- Of a command the loads that were asked for, and the sectors that they brought: what each deed of the commands leaves of that.
use Rattle.std.proofs.Common.{◌≡◌, ◌≢◌, ℕ, ◌+◌, ◌-◌, ◌*◌, ◌<◌, ◌≤◌, true, false, List, ◌++◌, length, take, drop, get_or, set, Some, None, refl, sym}
use Rattle.std.proofs.{Common.{ap, ◌∙◌, arith, inl, inr, subst}, lemmas.Bool.{cases_eq, cases_lt, eqb-true, le-leb, lt-ltb, ltb-true}}
use Rattle.std.proofs.lemmas.{Option.same_Some, List.{get_or-set_same, get_or-set_other, length-append, take-append-le, drop-append-le, length-drop}}
use Rattle.std.proofs.Math.Seq.{drop-append-add}
use Rattle.std.specs.{Prelude.{Option, Bool, ◌==◌, ◌&&◌, replicate, if◌then◌else◌}, Option.option_map}
use Rattle.block_command.specs.{declared.command.{Command.Command, Stage.Stage, Turn.Turn}, Moments.{Moment, part_count, turn_of}, Laws.{Input, Goes}}
use Rattle.block_command.specs.Laws.{Comes, Loads, Happening, Ledger, AskedLoad, Loaded, SentSetUp, CameData, Stored, Flushed, after, blank, entered}
use Rattle.block_command.specs.Laws.{given_to, happening, is_behind, shown, stored_in}
use Rattle.block_command.specs.declared.command.Stage.TheVariants as stage
use Rattle.block_command.specs.declared.command.Turn.TheVariants as turn
use Rattle.block_command.specs.Laws as command
use Rattle.block_command.proofs.Door.{Agrees, at}
use Rattle.block_disk.specs.{Table.is_under_way, Laws.{At, Page, Refused, Took, at_page, entered_in, page_entered, shown_at}, Requests.Books}
use Rattle.block_disk.specs.Requests.{asks_at, entered_by, is_fis, is_out, is_request, out_after, seen, sends_at, told}
use Rattle.block_disk.proofs.Door.{Matches, each_is}
use Rattle.block_queue.specs.Deeds as deed
use Rattle.block_queue.specs.{Deeds.{Deed, IsDeed, act_of}, Line.{Line, command_at, may_start_at, starts}}
use Rattle.block_queue.proofs.Door.{of_and}
use Rattle.block_engine.specs.declared.request.What.TheVariants as what
use Rattle.block_engine.specs.Engine.{what_at}
use Rattle.sata_disk_media.specs.Cells.{Cell, covers, sector_of}
use Rattle.sata_disk_media.proofs.Stored.{Held, entered_page, is_calm}

-- ## Sectors of bytes

pub before_sector : (lba s : ℕ) (xs ys : List ℕ) → (s - lba) * 512 + 512 ≤ length xs → sector_of lba s (xs ++ ys) ≡ sector_of lba s xs
before_sector lba s xs ys low =
    let n : ℕ = (s - lba) * 512 in
    ap (λ x. take 512 x) (drop-append-le n xs ys (omega (arith, low)))
    ∙ take-append-le 512 (drop n xs) ys (let long = length-drop n xs in omega (arith, low, long))

-- sectors behind the first bytes, which end where another sector begins
pub behind_sector : (lba from s : ℕ) (xs ys : List ℕ) → from * 512 ≡ lba * 512 + length xs → from ≤ s → sector_of lba s (xs ++ ys) ≡ sector_of from s ys
behind_sector lba from s xs ys at' low =
    let n : ℕ = (s - from) * 512 in
    let same : (s - lba) * 512 ≡ length xs + n = omega (arith, at', low) in
    ap (λ k. take 512 (drop k (xs ++ ys))) same ∙ ap (λ x. take 512 x) (drop-append-add xs ys n)

both_true : (x y : Bool) → x ≡ true → y ≡ true → (x && y) ≡ true
both_true true y e f = f
both_true false y e f = absurd (cc)

pub covered : (lba count s : ℕ) → lba ≤ s → s < lba + count → covers lba count s ≡ true
covered lba count s first last = both_true _ _ (le-leb lba s first) (lt-ltb s (lba + count) last)

-- ## What loads do to a ledger

abbrev is_load : Happening → Bool
is_load (AskedLoad lba n) = true
is_load (Loaded bytes) = true
is_load _ = false

record SameLoads (l k : Ledger) : Type 0 where
  pub given : k.given ≡ l.given
  pub wanting : k.wanting ≡ l.wanting

active_case : (l : Ledger) (b : Bool) → SameLoads l (if b then record l { active = true } else l)
active_case l true = record { given = refl; wanting = refl }
active_case l false = record { given = refl; wanting = refl }

came_case : (l : Ledger) (part : List ℕ) (b : Bool) → SameLoads l (if b then record l { came = l.came ++ part; active = false } else l)
came_case l part true = record { given = refl; wanting = refl }
came_case l part false = record { given = refl; wanting = refl }

stored_case : (l : Ledger) (x : Option (List ℕ)) → SameLoads l (stored_in l x)
stored_case l None = record { given = refl; wanting = refl }
stored_case l (Some bytes) = record { given = refl; wanting = refl }

flushed_case : (l : Ledger) (b : Bool) → SameLoads l (if b then record l { flushed = true } else l)
flushed_case l true = record { given = refl; wanting = refl }
flushed_case l false = record { given = refl; wanting = refl }

same_loads : (c : Command) (l : Ledger) (h : Happening) → is_load h ≡ false → SameLoads l (entered c l h)
same_loads c l (AskedLoad lba n) e = absurd (cc)
same_loads c l (Loaded bytes) e = absurd (cc)
same_loads c l SentSetUp e = active_case l (c.write && c.auto_activate)
same_loads c l (CameData part) e = came_case l part l.active
same_loads c l Stored e = stored_case l l.storing
same_loads c l Flushed e = flushed_case l l.flushing
same_loads c l h e = record { given = refl; wanting = refl }

shown_no_load : (m : Moment) (t : Turn) → is_request t ≡ false → is_load (shown m t) ≡ false
shown_no_load m turn.Load e = absurd (cc)
shown_no_load m t e = refl

-- ## What is known of a page

-- the load that the page wants was asked for
pub record Wanted (asked : ℕ → ℕ → ℕ → Type 0) (c : Command) (l : Ledger) (number n : ℕ) : Type 0 where
  pub lba : ℕ
  pub count : ℕ
  pub asks : asked number lba count
  pub long : n ≡ count * 512
  pub behind : lba * 512 ≡ c.lba * 512 + length l.given

pub record Given (asked : ℕ → ℕ → ℕ → Type 0) (brought : ℕ → List ℕ → Type 0) (g : Page) (number : ℕ) : Type 0 where
  pub sectors : (s : ℕ) → g.command.lba ≤ s → (s - g.command.lba) * 512 + 512 ≤ length g.ledger.given → brought s (sector_of g.command.lba s g.ledger.given)
  pub wanting : (n : ℕ) → 0 < number → g.ledger.wanting ≡ Some n → Wanted asked g.command g.ledger number n

abbrev pub GivenAt : (ℕ → ℕ → ℕ → Type 0) → (ℕ → List ℕ → Type 0) → Books → (q : ℕ) → Type 0
GivenAt asked brought b q = (g : Page) → at_page b.pages q ≡ Some g → Given asked brought g (get_or b.out q 0)

module _ (asked : ℕ → ℕ → ℕ → Type 0) (brought : ℕ → List ℕ → Type 0) where
  same_given : (g h : Page) (number : ℕ) → h.command ≡ g.command → SameLoads g.ledger h.ledger → Given asked brought g number → Given asked brought h number
  same_given g h number same loads is =
      let P : Command → List ℕ → Type 0 = λ c x. (s : ℕ) → c.lba ≤ s → (s - c.lba) * 512 + 512 ≤ length x → brought s (sector_of c.lba s x) in
      record {
        sectors = subst (λ x. P h.command x) (sym loads.given) (subst (λ c. P c g.ledger.given) (sym same) is.sectors);
        wanting = λ n some w. (let old = is.wanting n some (sym loads.wanting ∙ w) in record {
          lba = old.lba;
          count = old.count;
          asks = old.asks;
          long = old.long;
          behind = old.behind ∙ ap (λ c. c.lba * 512 + length g.ledger.given) (sym same) ∙ ap (λ x. h.command.lba * 512 + length x) (sym loads.given);
        });
      }

  -- ## Deeds that ask and answer nothing

  touch_some : (b : Books) (q p : ℕ) (m : Moment) (i : Input) → length b.pages ≡ 33 → q < 33 → is_load (happening m i) ≡ false → GivenAt asked brought b q
      → (g : Page) → at_page (entered_in b.pages (At p (happening m i))) q ≡ Some g → Given asked brought g (get_or b.out q 0)
  touch_some b q p m i long low none was g at' = elim (cases_eq q p) [
    | inl same ↦
        let here : option_map (λ k. page_entered k (happening m i)) (at_page b.pages p) ≡ Some g =
        sym (get_or-set_same b.pages p (option_map (λ k. page_entered k (happening m i)) (at_page b.pages p)) None (omega (arith, low, long, same)))
        ∙ sym (ap (λ k. at_page (entered_in b.pages (At p (happening m i))) k) same) ∙ at' in
        let w = entered_page b.pages p (happening m i) (at_page b.pages p) refl g here in
        subst (λ z. Given asked brought z (get_or b.out q 0)) w.is
        (same_given w.was (page_entered w.was (happening m i)) (get_or b.out q 0) refl (same_loads w.was.command w.was.ledger (happening m i) none)
        (was w.was (ap (λ k. at_page b.pages k) same ∙ w.at)))
    | inr apart ↦ was g (sym (get_or-set_other b.pages p q (option_map (λ k. page_entered k (happening m i)) (at_page b.pages p)) None apart) ∙ at')
  ]

  touch_case : (b : Books) (q p : ℕ) (x : Option Moment) (i : Input) → length b.pages ≡ 33 → q < 33 → ((m : Moment) → x ≡ Some m → is_load (happening m i) ≡ false)
      → GivenAt asked brought b q → GivenAt asked brought (record { pages = entered_in b.pages (shown_at p x i); out = out_after b.out (shown_at p x i) }) q
  touch_case b q p None i long low none was = was
  touch_case b q p (Some m) i long low none was = touch_some b q p m i long low (none m refl) was

  start_not : (t : Turn) → starts t ≡ true → is_request t ≡ false
  start_not turn.Start e = refl
  start_not t e = absurd (cc)

  fis_not : (t : Turn) → is_fis t ≡ true → is_request t ≡ false
  fis_not turn.Load e = absurd (cc)
  fis_not turn.Store e = absurd (cc)
  fis_not turn.Flush e = absurd (cc)
  fis_not t e = refl

  starts_none : (l : Line) (p : ℕ) (x : Option Moment) → command_at l p ≡ x → IsDeed l (deed.Starts p) → (m : Moment) → x ≡ Some m → is_load (happening m Goes) ≡ false
  starts_none l p x at' is m e = let may = subst (λ y. may_start_at l p y ≡ true) (at' ∙ e) is.1 in shown_no_load m (turn_of m.stage) (start_not _ (of_and _ _ may).0)

  sends_none : (l : Line) (p : ℕ) (x : Option Moment) → command_at l p ≡ x → IsDeed l (deed.Sends p) → (m : Moment) → x ≡ Some m → is_load (happening m Goes) ≡ false
  sends_none l p x at' is m e = let may = subst (λ y. sends_at y ≡ true) (at' ∙ e) (of_and _ _ is.1).0 in shown_no_load m (turn_of m.stage) (fis_not _ may)

  opening_given : (c : Command) (number : ℕ) → Given asked brought (record { command = c; ledger = blank }) number
  opening_given c number = record { sectors = λ s low long. absurd (omega (arith, long)); wanting = λ n some e. absurd (cc) }

  taken_given : (b : Books) (q : ℕ) (c : Command) (u : Bool) → length b.pages ≡ 33 → q < 33 → GivenAt asked brought b q
      → GivenAt asked brought (record { pages = entered_in b.pages (if u then Refused c else Took c); out = out_after b.out (if u then Refused c else Took c) }) q
  taken_given b q c true long low was g at' = was g at'
  taken_given b q c false long low was g at' = elim (cases_eq q c.place) [
    | inl same ↦
        let new : Page = record { command = c; ledger = blank } in
        let here : new ≡ g = same_Some _ _ (sym (get_or-set_same b.pages c.place (Some new) None (omega (arith, low, long, same)))
        ∙ sym (ap (λ k. at_page (set b.pages c.place (Some new)) k) same) ∙ at') in
        subst (λ z. Given asked brought z (get_or b.out q 0)) here (opening_given c (get_or b.out q 0))
    | inr apart ↦ was g (sym (get_or-set_other b.pages c.place q (Some (record { command = c; ledger = blank })) None apart) ∙ at')
  ]

  none_given : (b : Books) (q : ℕ) → GivenAt asked brought (record { pages = replicate 33 None; out = replicate 33 0 }) q
  none_given b q g at' = absurd (let e : None ≡ Some g = sym (each_is (Option Page) 33 q None) ∙ at' in cc)

  pub calm_given : (l : Line) (b : Books) (q s : ℕ) (cell : Cell) (d : Deed) → IsDeed l d → is_calm d ≡ true → q < 33 → Held l b s cell → GivenAt asked brought b q
      → GivenAt asked brought (entered_by b (seen l.queue (act_of d))) q
  calm_given l b q s cell (deed.Takes c) is e low held was = taken_given b q c (is_under_way (command_at l c.place)) held.agree.kept.pages low was
  calm_given l b q s cell (deed.Starts p) is e low held was =
      touch_case b q p (command_at l p) Goes held.agree.kept.pages low (starts_none l p (command_at l p) refl is) was
  calm_given l b q s cell (deed.Sends p) is e low held was =
      touch_case b q p (command_at l p) Goes held.agree.kept.pages low (sends_none l p (command_at l p) refl is) was
  calm_given l b q s cell (deed.Hears p part) is e low held was =
      touch_case b q p (command_at l p) (Comes part) held.agree.kept.pages low (λ m f. refl) was
  calm_given l b q s cell deed.Resets is e low held was = none_given b q
  calm_given l b q s cell deed.Draws is e low held was = was
  calm_given l b q s cell other is e low held was = absurd (cc)

  -- ## A request

  wanted_case : (c : Command) (l : Ledger) (lba count number : ℕ) (b : Bool) → (lba * 512 == c.lba * 512 + length l.given) ≡ b → asked number lba count
      → (n : ℕ) → (if b then Some (count * 512) else None) ≡ Some n → (k : Ledger) → k.given ≡ l.given → Wanted asked c k number n
  wanted_case c l lba count number true e asks n is k same = record {
    lba = lba;
    count = count;
    asks = asks;
    long = sym (same_Some _ _ is);
    behind = eqb-true _ _ e ∙ ap (λ x. c.lba * 512 + length x) (sym same);
  }
  wanted_case c l lba count number false e asks n is k same = absurd (cc)

  load_asked : (g : Page) (old number lba count : ℕ) → asked number lba count → Given asked brought g old
      → Given asked brought (page_entered g (AskedLoad lba count)) number
  load_asked g old number lba count asks is = record {
    sectors = is.sectors;
    wanting = λ n some w. wanted_case g.command g.ledger lba count number (is_behind g.command lba g.ledger.given) refl asks n w
        (entered g.command g.ledger (AskedLoad lba count)) refl;
  }

  -- one that asks for no load wants none
  other_asked : (g : Page) (old number : ℕ) (h : Happening) → is_load h ≡ false → g.ledger.wanting ≡ None → Given asked brought g old
      → Given asked brought (page_entered g h) number
  other_asked g old number h none free is =
      let loads = same_loads g.command g.ledger h none in
      record {
        sectors = subst (λ x. (s : ℕ) → g.command.lba ≤ s → (s - g.command.lba) * 512 + 512 ≤ length x → brought s (sector_of g.command.lba s x)) (sym loads.given) is.sectors;
        wanting = λ n some w. absurd (let e : None ≡ Some n = sym free ∙ sym loads.wanting ∙ w in cc);
      }

  store_free : (c : Command) (done : ℕ) (bytes : List ℕ) (sent : ℕ) (l : Ledger) → Agrees c (at c done bytes sent stage.Store) l → l.wanting ≡ None
  store_free c done bytes sent l (inl over) = absurd (cc)
  store_free c done bytes sent l (inr k) = ap (λ x. x.wanting) k.is

  flush_free : (c : Command) (done : ℕ) (bytes : List ℕ) (sent : ℕ) (l : Ledger) → Agrees c (at c done bytes sent stage.Flush) l → l.wanting ≡ None
  flush_free c done bytes sent l (inl over) = absurd (cc)
  flush_free c done bytes sent l (inr k) = ap (λ x. x.wanting) k.is

  asked_stage : (c : Command) (done : ℕ) (bytes : List ℕ) (sent : ℕ) (st : Stage) (g : Page) (old number : ℕ) → is_request (turn_of st) ≡ true
      → ((lba count : ℕ) → what_at (Some (at c done bytes sent st)) ≡ what.Load lba count → asked number lba count)
      → (c ≡ g.command) → Agrees g.command (at c done bytes sent st) g.ledger → Given asked brought g old
      → Given asked brought (page_entered g (happening (at c done bytes sent st) Goes)) number
  asked_stage c done bytes sent stage.Load g old number e asks same agrees is = load_asked g old number (c.lba + done) (part_count c done) (asks _ _ refl) is
  asked_stage c done bytes sent stage.Store g old number e asks same agrees is =
      other_asked g old number (happening (at c done bytes sent stage.Store) Goes) refl (store_free g.command done bytes sent g.ledger agrees) is
  asked_stage c done bytes sent stage.Flush g old number e asks same agrees is =
      other_asked g old number (happening (at c done bytes sent stage.Flush) Goes) refl (flush_free g.command done bytes sent g.ledger agrees) is
  asked_stage c done bytes sent st g old number e asks same agrees is = absurd (cc)

  asked_case : (b : Books) (q : ℕ) (x : Option Moment) (number : ℕ) → length b.pages ≡ 33 → length b.out ≡ 33 → q < 33 → asks_at x ≡ true
      → Matches x (at_page b.pages q) → ((lba count : ℕ) → what_at x ≡ what.Load lba count → asked number lba count) → GivenAt asked brought b q
      → GivenAt asked brought (record { pages = entered_in b.pages (shown_at q x Goes); out = set b.out q number }) q
  asked_case b q None number long long' low e match' asks was g at' = absurd (cc)
  asked_case b q (Some m) number long long' low e match' asks was g at' =
      let h : Happening = happening m Goes in
      let here : option_map (λ k. page_entered k h) (at_page b.pages q) ≡ Some g =
      sym (get_or-set_same b.pages q (option_map (λ k. page_entered k h) (at_page b.pages q)) None (omega (arith, low, long))) ∙ at' in
      let w = entered_page b.pages q h (at_page b.pages q) refl g here in
      let is = subst (λ y. Matches (Some m) y) w.at match' in
      subst (λ z. Given asked brought z (get_or (set b.out q number) q 0)) w.is
      (subst (λ n. Given asked brought (page_entered w.was h) n) (sym (get_or-set_same b.out q number 0 (omega (arith, low, long'))))
      (asked_stage m.command m.done m.bytes m.sent m.stage w.was (get_or b.out q 0) number e asks is.0 is.1 (was w.was w.at)))

  other_place : (b : Books) (q p : ℕ) (x : Option Moment) (number : ℕ) → q ≢ p → GivenAt asked brought b q
      → GivenAt asked brought (record { pages = entered_in b.pages (shown_at p x Goes); out = set b.out p number }) q
  other_place b q p None number apart was g at' =
      subst (λ n. Given asked brought g n) (sym (get_or-set_other b.out p q number 0 apart)) (was g at')
  other_place b q p (Some m) number apart was g at' =
      subst (λ n. Given asked brought g n) (sym (get_or-set_other b.out p q number 0 apart))
      (was g (sym (get_or-set_other b.pages p q (option_map (λ k. page_entered k (happening m Goes)) (at_page b.pages p)) None apart) ∙ at'))

  pub asked_given : (l : Line) (b : Books) (q p s : ℕ) (cell : Cell) → IsDeed l (deed.Asks p) → q < 33 → Held l b s cell
      → ((lba count : ℕ) → what_at (command_at l p) ≡ what.Load lba count → asked l.queue.next lba count) → GivenAt asked brought b q
      → GivenAt asked brought (entered_by b (seen l.queue (act_of (deed.Asks p)))) q
  asked_given l b q p s cell is low held asks was = elim (cases_eq q p) [
    | inl same ↦ subst (λ k. GivenAt asked brought (entered_by b (seen l.queue (act_of (deed.Asks p)))) k) (sym same)
        (asked_case b p (command_at l p) l.queue.next held.agree.kept.pages held.outs is.0 is.1 (held.agree.kept.each p) asks
        (subst (λ k. GivenAt asked brought b k) same was))
    | inr apart ↦ other_place b q p (command_at l p) l.queue.next apart was
  ]

  -- ## An answer

  -- what comes for a load is brought
  abbrev pub Brings : (number : ℕ) → List ℕ → Type 0
  Brings number bytes = (lba count s : ℕ) → asked number lba count → covers lba count s ≡ true → brought s (sector_of lba s bytes)

  more_given : (g : Page) (number : ℕ) (bytes : List ℕ) (n : ℕ) → 0 < number → Brings number bytes → length bytes ≡ n → g.ledger.wanting ≡ Some n → Given asked brought g number
      → (s : ℕ) → g.command.lba ≤ s → (s - g.command.lba) * 512 + 512 ≤ length (g.ledger.given ++ bytes) → brought s (sector_of g.command.lba s (g.ledger.given ++ bytes))
  more_given g number bytes n some brings long wants is s first last =
      let w = is.wanting n some wants in
      let sum : length (g.ledger.given ++ bytes) ≡ length g.ledger.given + length bytes = length-append g.ledger.given bytes in
      elim (cases_lt ((s - g.command.lba) * 512 + 511) (length g.ledger.given)) [
        | inl low ↦ (let low' : (s - g.command.lba) * 512 + 512 ≤ length g.ledger.given = omega (arith, low) in
            subst (λ x. brought s x) (sym (before_sector g.command.lba s g.ledger.given bytes low')) (is.sectors s first low'))
        | inr high ↦ (let behind = w.behind in let whole = w.long in
            let from : w.lba ≤ s = omega (arith, high, behind, first) in
            let below : s < w.lba + w.count = omega (arith, last, sum, long, whole, behind, first) in
            subst (λ x. brought s x) (sym (behind_sector g.command.lba w.lba s g.ledger.given bytes behind from))
            (brings w.lba w.count s w.asks (covered w.lba w.count s from below)))
      ]

  given_case : (g : Page) (number : ℕ) (bytes : List ℕ) (n : ℕ) (b : Bool) → (length bytes == n) ≡ b → 0 < number → Brings number bytes → g.ledger.wanting ≡ Some n
      → Given asked brought g number → Given asked brought (record {
        command = g.command;
        ledger = if b then record g.ledger { given = g.ledger.given ++ bytes; wanting = None } else g.ledger;
      }) 0
  given_case g number bytes n true e some brings wants is = record {
    sectors = more_given g number bytes n some brings (eqb-true _ _ e) wants is;
    wanting = λ k none w. absurd (omega (arith, none));
  }
  given_case g number bytes n false e some brings wants is = record { sectors = is.sectors; wanting = λ k none w. absurd (omega (arith, none)) }

  loaded_case : (g : Page) (number : ℕ) (bytes : List ℕ) (w : Option ℕ) → g.ledger.wanting ≡ w → 0 < number → Brings number bytes → Given asked brought g number
      → Given asked brought (record { command = g.command; ledger = given_to g.ledger w bytes }) 0
  loaded_case g number bytes None wants some brings is = record { sectors = is.sectors; wanting = λ k none w. absurd (omega (arith, none)) }
  loaded_case g number bytes (Some n) wants some brings is = given_case g number bytes n _ refl some brings wants is

  answer_page : (g : Page) (number : ℕ) (i : Input) → 0 < number → ((bytes : List ℕ) → i ≡ Loads bytes → Brings number bytes) → Given asked brought g number
      → Given asked brought (page_entered g (told i)) 0
  answer_page g number (Loads bytes) some brings is = loaded_case g number bytes g.ledger.wanting refl some (brings bytes refl) is
  answer_page g number command.Stores some brings is =
      let loads = stored_case g.ledger g.ledger.storing in
      let same = same_given g (page_entered g Stored) number refl loads is in
      record { sectors = same.sectors; wanting = λ k none w. absurd (omega (arith, none)) }
  answer_page g number command.Flushes some brings is =
      let loads = flushed_case g.ledger g.ledger.flushing in
      let same = same_given g (page_entered g Flushed) number refl loads is in
      record { sectors = same.sectors; wanting = λ k none w. absurd (omega (arith, none)) }
  answer_page g number other some brings is = record { sectors = is.sectors; wanting = λ k none w. absurd (omega (arith, none)) }

  positive : (out : List ℕ) (p number : ℕ) → is_out out p number ≡ true → (0 < number) × (get_or out p 0 ≡ number)
  positive out p number e = let h = of_and _ _ e in (ltb-true 0 number h.0, eqb-true _ _ h.1)

  answered_case : (b : Books) (q p number : ℕ) (i : Input) (u : Bool) → is_out b.out p number ≡ u → length b.pages ≡ 33 → length b.out ≡ 33 → q < 33
      → ((bytes : List ℕ) → i ≡ Loads bytes → Brings number bytes) → GivenAt asked brought b q
      → GivenAt asked brought (if u then record { pages = entered_in b.pages (At p (told i)); out = set b.out p 0 } else b) q
  answered_case b q p number i false is long long' low brings was g at' = was g at'
  answered_case b q p number i true is long long' low brings was g at' = elim (cases_eq q p) [
    | inl same ↦
        let here : option_map (λ k. page_entered k (told i)) (at_page b.pages p) ≡ Some g =
        sym (get_or-set_same b.pages p (option_map (λ k. page_entered k (told i)) (at_page b.pages p)) None (omega (arith, low, long, same)))
        ∙ sym (ap (λ k. at_page (entered_in b.pages (At p (told i))) k) same) ∙ at' in
        let w = entered_page b.pages p (told i) (at_page b.pages p) refl g here in
        let out = positive b.out p number is in
        let number' : get_or b.out q 0 ≡ number = ap (λ k. get_or b.out k 0) same ∙ out.1 in
        let zero' : get_or (set b.out p 0) q 0 ≡ 0 = ap (λ k. get_or (set b.out p 0) k 0) same ∙ get_or-set_same b.out p 0 0 (omega (arith, low, long', same)) in
        subst (λ z. Given asked brought z (get_or (set b.out p 0) q 0)) w.is
        (subst (λ n. Given asked brought (page_entered w.was (told i)) n) (sym zero')
        (answer_page w.was number i out.0 brings (subst (λ n. Given asked brought w.was n) number' (was w.was (ap (λ k. at_page b.pages k) same ∙ w.at)))))
    | inr apart ↦ subst (λ n. Given asked brought g n) (sym (get_or-set_other b.out p q 0 0 apart))
        (was g (sym (get_or-set_other b.pages p q (option_map (λ k. page_entered k (told i)) (at_page b.pages p)) None apart) ∙ at'))
  ]

  pub answered_given : (l : Line) (b : Books) (q p number s : ℕ) (cell : Cell) (i : Input) → q < 33 → Held l b s cell
      → ((bytes : List ℕ) → i ≡ Loads bytes → Brings number bytes) → GivenAt asked brought b q
      → GivenAt asked brought (entered_by b (seen l.queue (act_of (deed.Answers p number i)))) q
  answered_given l b q p number s cell i low held brings was =
      answered_case b q p number i (is_out b.out p number) refl held.agree.kept.pages held.outs low brings was

-- what is known goes on
pub given_more : (asked asked' : ℕ → ℕ → ℕ → Type 0) (brought brought' : ℕ → List ℕ → Type 0) (b : Books) (q : ℕ)
    → ((number lba count : ℕ) → asked number lba count → asked' number lba count) → ((s : ℕ) (bytes : List ℕ) → brought s bytes → brought' s bytes)
    → GivenAt asked brought b q → GivenAt asked' brought' b q
given_more asked asked' brought brought' b q more more' was g at' = let is = was g at' in record {
  sectors = λ s low long. more' s _ (is.sectors s low long);
  wanting = λ n some w. (let old = is.wanting n some w in record {
    lba = old.lba;
    count = old.count;
    asks = more _ _ _ old.asks;
    long = old.long;
    behind = old.behind;
  });
}
