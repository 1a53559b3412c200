-- What the command of a slot is, over a run.
use Rattle.std.proofs.Common.{◌≡◌, ◌≢◌, ℕ, ◌<◌, Bool, true, false, List, [], ◌∷◌, ◌++◌, length, get_or, set, refl, sym, ap, subst, ◌∙◌, inl, inr}
use Rattle.std.proofs.{Common.{Option, Some, None, get_or-set_same, get_or-set_other, length-set}, lemmas.Bool.{and_parts, cases_eq, eq-eqb}}
use Rattle.std.proofs.lemmas.{Bool.{eqb-true, false≢true, ltb-true, true≢false}, List.{get_or-replicate, length-replicate}}
use Rattle.std.specs.Prelude.{◌==◌, MatchOption, nat_lt, if◌then◌else◌}
use Rattle.slots.specs.Slots.{has_bit, match_some}
use Rattle.guest_fetch.specs.{Commands.Fetched, Fetch.Fetching, Fetching.{Keeps as KeepsPart, Supplies, headed, supplied, want_of}, Headers.header_in}
use Rattle.guest_fetch.specs.{Headers.{header_place, header_refusal}, Entries.reached, Heads.head_of, Places.Places, Runs.Comes}
use Rattle.guest_fetch.specs.{Runs.{CommandIsWhatWasSupplied, IsSupplied, Then, entries_of}, declared.fetch.Step.{Step, TheVariants.AtEntries}}
use Rattle.guest_fetch.specs.declared.{fetch.{Step.TheVariants.AtHeader, Supplied.Supplied}, head.Head.Head, header.Header.Header}
use Rattle.guest_fetch.specs.declared.refusal.Refusal.{Refusal}
use Rattle.guest_fetch.specs.declared.fetch.Supplied.TheVariants as came_as
use Rattle.hba_commands.specs.declared.command.Command as core_command
use Rattle.hba_fbs.specs.{Choosing.may_feed, Views.last_command, declared.{report.Wrote.Wrote, turn.Turn.{Turn, TheVariants.Feeds}}}
use Rattle.ahci_controller.specs.{Access.fits as fits_width, Feeding.{GathersIf, Loses, LosesIf, MissesIf as MissesDataIf, SendsIf, sent_to}}
use Rattle.ahci_controller.specs.{Feeding.without_feeding, Fetching.{GoesOn, MissesIf, SuppliesIf, SuppliesSlot, answered, fetch_of, fits, is_asked}}
use Rattle.ahci_controller.specs.{Fetching.{want_at, without_fetch}, Issuing.{PlacesSlot, RefusesSlot, not_issued}, Moving.{commands_after, moved_on}}
use Rattle.ahci_controller.specs.{Next.{is_fed, turn_to}, Own.list_of, Rules.IsOffered, States.{ControllerState, fetch_at, kept}, Taking.brought}
use Rattle.ahci_controller.specs.{Wide.WritesFitting, declared.{access.Width.Width, feeding.Fed.Fed, issuing.{NotTaken.NotTaken, Supply.Supply}}}
use Rattle.ahci_controller.specs.declared.wide.WideWritten.{WideWritten}
use Rattle.ahci_controller.specs.declared.issuing.Supply.TheVariants as supply_answer
use Rattle.controller_laws.specs.Events as event
use Rattle.controller_laws.specs.{Events.{Does, Event, IsController, Runs}, Sources.{AreSources, ComesOn, ComesTo, CommandsAreSupplied}}
use Rattle.controller_laws.specs.Sources.{CoreHasSupplied, IsComing, IsIssuedFrom, IsReadFrom, Source, Sources, StartsUnread, after_supply}
use Rattle.controller_laws.specs.Sources.{after_wide, command_in, command_of, command_with, sources_by, unmoved, while_pending, with_part}
use Rattle.controller_laws.proofs.TouchLemmas.{IsCalm, Touches, no_fetch, part_touches, turn_calm, write_touches, Touches.{Drops, Keeps}}

-- ---- parts, one after another

abbrev start : ℕ → Fetching
start at = record { at = at; step = AtHeader }

one_later : (goes : Fetching → Type 0) (f : Fetching) (parts : List (List ℕ)) (bytes : List ℕ) (last : Fetching) (came : Supplied) → ComesOn (ComesTo f parts) came → ((x : Fetching) → ComesTo f parts x → ComesTo last (parts ++ bytes ∷ []) x) → ComesOn (ComesTo last (parts ++ bytes ∷ [])) came
one_later goes f parts bytes last (came_as.More x) h on = on x h
one_later goes f parts bytes last other h on = absurd h

whole_later : (command : Fetched) (f : Fetching) (parts : List (List ℕ)) (bytes : List ℕ) (came : Supplied) → ComesOn (ComesTo f parts) came → ((x : Fetching) → ComesTo f parts x → Comes command (parts ++ bytes ∷ []) x) → Then (Comes command (parts ++ bytes ∷ [])) command (parts ++ bytes ∷ []) came
whole_later command f parts bytes (came_as.More x) h on = on x h
whole_later command f parts bytes other h on = absurd h

-- one part more, behind those that came
one_more : (goes : Fetching → Type 0) (f g : Fetching) (parts : List (List ℕ)) (bytes : List ℕ) → ComesTo f parts g → length bytes ≡ (want_of f).len → ComesOn goes (supplied f bytes)
    → (last : Fetching) → ((x : Fetching) → goes x → x ≡ last) → ComesTo last (parts ++ bytes ∷ []) g
one_more goes f g [] bytes is len on last same =
    subst (λ (x : Fetching). ComesTo last (bytes ∷ []) x) (sym is) (len, by (supplied f bytes) on)
  where
    by : (s : Supplied) → ComesOn goes s → ComesOn (ComesTo last []) s
    by (came_as.More x) h = same x h
    by other h = absurd h
one_more goes f g (part ∷ parts) bytes comes len on last same = (comes.0, one_later goes f parts bytes last (supplied g part) comes.1 (λ x h. one_more goes f x parts bytes h len on last same))

more_came : (f next g : Fetching) (parts : List (List ℕ)) (bytes : List ℕ) → ComesTo f parts g → length bytes ≡ (want_of f).len → supplied f bytes ≡ came_as.More next → ComesTo next (parts ++ bytes ∷ []) g
more_came f next g parts bytes comes len is =
    one_more (λ x. x ≡ next) f g parts bytes comes len (subst (ComesOn (λ x. x ≡ next)) (sym is) refl) next (λ x h. h)

-- the last part, behind those that came
whole_came : (command : Fetched) (f g : Fetching) (parts : List (List ℕ)) (bytes : List ℕ) → ComesTo f parts g → length bytes ≡ (want_of f).len → supplied f bytes ≡ came_as.Whole command → Comes command (parts ++ bytes ∷ []) g
whole_came command f g [] bytes is len whole =
    subst (Comes command (bytes ∷ [])) (sym is) (len, subst (Then (Comes command []) command []) (sym whole) (refl, refl))
whole_came command f g (part ∷ parts) bytes comes len whole = (comes.0, whole_later command f parts bytes (supplied g part) comes.1 (λ x h. whole_came command f x parts bytes h len whole))

-- a command has more parts than its header
no_header_alone : (command : Fetched) (at : ℕ) (header : Header) (r : Option Refusal) → Then (Comes command []) command [] (headed at header r) → ⊥
no_header_alone command at header None h = h
no_header_alone command at header (Some r) h = h

same_command : (c : Fetched) (at : ℕ) (head : Head) (entries : List (List ℕ)) → c.at ≡ at → c.head ≡ head → c.table ≡ (command_with at head entries).table → c.moved ≡ 0 → command_with at head entries ≡ c
same_command c at head entries place is table moved =
    ap (λ (n : ℕ). command_with n head entries) (sym place)
    ∙ ap (λ (h : Head). record { at = c.at; head = h; table = (command_with at head entries).table; moved = 0 }) (sym is)
    ∙ ap (λ (t : Places). record { at = c.at; head = c.head; table = t; moved = 0 }) (sym table)
    ∙ ap (λ (n : ℕ). record { at = c.at; head = c.head; table = c.table; moved = n }) (sym moved)

-- by their head, as the parts have it
table_with : List (List ℕ) → Head → Places
table_with entries head = record { entries = reached head.work.len (entries_of entries); len = head.work.len }

command_is : (command : Fetched) (at : ℕ) (header fis : List ℕ) (entries : List (List ℕ)) → IsSupplied at header fis entries command → command_with at (head_of (header_in header) fis) entries ≡ command
unfolding table_with
command_is command at header fis entries is =
    same_command command at (head_of (header_in header) fis) entries is.place is.head (is.table ∙ ap (table_with entries) is.head) is.moved

is_of_parts : CommandIsWhatWasSupplied → (command : Fetched) (at : ℕ) (parts : List (List ℕ)) → Comes command parts (start at) → command_in at parts ≡ Some (unmoved command)
is_of_parts law command at [] comes = absurd comes
is_of_parts law command at (header ∷ []) comes = absurd (no_header_alone command at (header_in header) (header_refusal (header_in header)) comes.1)
is_of_parts law command at (header ∷ fis ∷ entries) comes =
    let is : IsSupplied at header fis entries command = law at header fis entries command comes in
    let same : unmoved command ≡ command = unmoved_is command is.moved in
    ap Some (command_is command at header fis entries is ∙ sym same)
  where
    unmoved_is : (c : Fetched) → c.moved ≡ 0 → unmoved c ≡ c
    unmoved_is c moved = rw moved refl

-- ---- a part of a slot

-- what has come of a slot's command, before one part more
record HasCome (c : ControllerState) (s : ℕ) (source : Option Source) : Type 0 where
  before : List (List ℕ)
  at : ℕ
  parts : (bytes : List ℕ) → with_part c s source bytes ≡ record { at = at; parts = before ++ bytes ∷ [] }
  comes : ComesTo (fetch_of c s) before (start at)

has_come : (c : ControllerState) (s : ℕ) (source : Option Source) (f : Option Fetching) → fetch_at c s ≡ f → IsComing source f → HasCome c s source
has_come c s None None is h = record {
  before = [];
  at = header_place (list_of c.own) s;
  parts = λ bytes. refl;
  comes = sym (ap (λ (o : Option Fetching). match_some o (start (header_place (list_of c.own) s)) (λ g. g)) is);
}
has_come c s None (Some g) is h = absurd h
has_come c s (Some source) None is h = absurd h
has_come c s (Some source) (Some g) is h = record {
  before = source.parts;
  at = source.at;
  parts = λ bytes. refl;
  comes = subst (λ (x : Fetching). ComesTo x source.parts (start source.at)) (sym (ap (λ (o : Option Fetching). match_some o (start (header_place (list_of c.own) s)) (λ x. x)) is)) h;
}

-- while it is read, it is known where from
known : (c : ControllerState) (s : ℕ) (source : Option Source) (f g : Option Fetching) → fetch_at c s ≡ f → IsComing source f → (fetch_of c s).step ≢ AtHeader → g ≡ Some (fetch_of c s) → IsComing source g
known c s None None g is h ne at = absurd (ne (ap (λ (o : Option Fetching). (match_some o (start (header_place (list_of c.own) s)) (λ x. x)).step) is))
known c s None (Some x) g is h ne at = absurd h
known c s (Some source) None g is h ne at = absurd h
known c s (Some source) (Some x) g is h ne at =
    subst (IsComing (Some source)) (sym (at ∙ ap Some (ap (λ (o : Option Fetching). match_some o (start (header_place (list_of c.own) s)) (λ y. y)) is))) h

header_first : (step : Step) (raw : List ℕ) → KeepsPart step raw → step ≢ AtHeader
header_first (AtEntries head table) raw keeps same = cc
header_first other raw keeps same = absurd keeps

-- ---- what stays

stays : (s : ℕ) (sources : Sources) (old new : ControllerState) → length new.fetches ≡ length old.fetches → fetch_at new s ≡ fetch_at old s → kept new s ≡ kept old s → AreSources old s sources → AreSources new s sources
stays s sources old new long fetch same was = record {
  long = long ∙ was.long;
  coming = subst (IsComing sources.coming) (sym fetch) was.coming;
  issued = subst (IsReadFrom sources.issued) (sym same) was.issued;
}

-- nothing is known of one that is not read
unread : (s : ℕ) (sources : Sources) (old new : ControllerState) → length new.fetches ≡ length old.fetches → fetch_at new s ≡ None → kept new s ≡ kept old s → AreSources old s sources → AreSources new s (record { coming = None; issued = sources.issued })
unread s sources old new long none same was = record {
  long = long ∙ was.long;
  coming = subst (IsComing None) (sym none) tt;
  issued = subst (IsReadFrom sources.issued) (sym same) was.issued;
}

kept_fetch : (s : ℕ) (old new : ControllerState) → new.fetches ≡ old.fetches → fetch_at new s ≡ fetch_at old s
kept_fetch s old new same = ap (λ (l : List (Option Fetching)). get_or l s None) same

kept_command : (s : ℕ) (old new : ControllerState) → new.commands ≡ old.commands → kept new s ≡ kept old s
kept_command s old new same = ap (λ (l : List (Option Fetched)). get_or l s None) same

same_sources : (s : ℕ) (sources : Sources) (old new : ControllerState) → new.fetches ≡ old.fetches → new.commands ≡ old.commands → AreSources old s sources → AreSources new s sources
same_sources s sources old new fetches commands was = stays s sources old new (ap length fetches) (kept_fetch s old new fetches) (kept_command s old new commands) was

-- ---- supplies for the slot

module _ (s : ℕ) (bytes : List ℕ) (old : ControllerState) (was : Sources) (below : s < 32) (are : AreSources old s was) where
  abbrev pub base : ControllerState
  base = without_fetch (answered old s) s

  come : HasCome old s was.coming
  come = has_come old s was.coming (fetch_at old s) refl are.coming

  base_long : length base.fetches ≡ 32
  base_long = length-set old.fetches s no_fetch ∙ are.long

  base_none : fetch_at base s ≡ None
  base_none = get_or-set_same old.fetches s no_fetch None (rw are.long below)

  pub ended : (supply : Supply) (new : ControllerState) (reason : NotTaken) → RefusesSlot base s reason supply new → AreSources new s (after_supply supply old s bytes was)
  ended supply new reason h =
      let fetches : new.fetches ≡ base.fetches = ap (λ (c : ControllerState). c.fetches) h.rest in
      subst (λ (x : Supply). AreSources new s (after_supply x old s bytes was)) (sym h.told)
      (unread s was old new (ap length fetches ∙ base_long ∙ sym are.long) (kept_fetch s base new fetches ∙ base_none) (kept_command s old new (ap (λ (c : ControllerState). c.commands) h.rest)) are)

  with_one : (f : Fetching) (new : ControllerState) → new.fetches ≡ set base.fetches s (Some f) → fetch_at new s ≡ Some f
  with_one f new is = kept_fetch_in new is ∙ get_or-set_same base.fetches s (Some f) None (rw base_long below)
    where
      kept_fetch_in : (c : ControllerState) → c.fetches ≡ set base.fetches s (Some f) → fetch_at c s ≡ get_or (set base.fetches s (Some f)) s None
      kept_fetch_in c same = ap (λ (l : List (Option Fetching)). get_or l s None) same

  more : (f : Fetching) (supply : Supply) (new : ControllerState) → length bytes ≡ (want_at old s).len → supplied (fetch_of old s) bytes ≡ came_as.More f → (new ≡ record base { fetches = set base.fetches s (Some f) }) × (supply ≡ supply_answer.More) → AreSources new s (after_supply supply old s bytes was)
  more f supply new len is h =
      let fetches : new.fetches ≡ set base.fetches s (Some f) = ap (λ (c : ControllerState). c.fetches) h.0 in
      let source : Source = record { at = come.at; parts = come.before ++ bytes ∷ [] } in
      let coming : IsComing (Some source) (Some f) = more_came (fetch_of old s) f (start come.at) come.before bytes come.comes len is in
      subst (λ (x : Supply). AreSources new s (after_supply x old s bytes was)) (sym h.1) (record {
        long = ap length fetches ∙ length-set base.fetches s (Some f) ∙ base_long;
        coming = subst (λ (src : Source). IsComing (Some src) (fetch_at new s)) (sym (come.parts bytes)) (subst (IsComing (Some source)) (sym (with_one f new fetches)) coming);
        issued = subst (IsReadFrom was.issued) (sym (kept_command s old new (ap (λ (c : ControllerState). c.commands) h.0))) are.issued;
      })

  again : (f : Fetching) (supply : Supply) (new : ControllerState) → (f ≡ fetch_of old s) × KeepsPart (fetch_of old s).step bytes → (new ≡ record base { fetches = set base.fetches s (Some f) }) × (supply ≡ supply_answer.OutOfMemory) → AreSources new s (after_supply supply old s bytes was)
  again f supply new is h =
      let fetches : new.fetches ≡ set base.fetches s (Some f) = ap (λ (c : ControllerState). c.fetches) h.0 in
      subst (λ (x : Supply). AreSources new s (after_supply x old s bytes was)) (sym h.1) (record {
        long = ap length fetches ∙ length-set base.fetches s (Some f) ∙ base_long;
        coming = known old s was.coming (fetch_at old s) (fetch_at new s) refl are.coming (header_first (fetch_of old s).step bytes is.1) (with_one f new fetches ∙ ap Some is.0);
        issued = subst (IsReadFrom was.issued) (sym (kept_command s old new (ap (λ (c : ControllerState). c.commands) h.0))) are.issued;
      })

  whole : CommandIsWhatWasSupplied → (command : Fetched) (supply : Supply) (new : ControllerState) → length bytes ≡ (want_at old s).len → length old.commands ≡ 32 → supplied (fetch_of old s) bytes ≡ came_as.Whole command → PlacesSlot base s command supply new → AreSources new s (after_supply supply old s bytes was)
  whole law command supply new len long is h =
      let fetches : new.fetches ≡ base.fetches = ap (λ (c : ControllerState). c.fetches) h.rest in
      let now : kept new s ≡ Some command = ap (λ (c : ControllerState). kept c s) h.rest ∙ get_or-set_same old.commands s (Some command) None (rw long below) in
      let source : Source = record { at = come.at; parts = come.before ++ bytes ∷ [] } in
      let of : command_of source ≡ Some (unmoved command) = is_of_parts law command come.at source.parts (whole_came command (fetch_of old s) (start come.at) come.before bytes come.comes len is) in
      let issued : IsReadFrom (Some source) (Some command) = of in
      subst (λ (x : Supply). AreSources new s (after_supply x old s bytes was)) (sym h.told) (record {
        long = ap length fetches ∙ base_long;
        coming = subst (IsComing None) (sym (kept_fetch s base new fetches ∙ base_none)) tt;
        issued = subst (λ (src : Source). IsReadFrom (Some src) (kept new s)) (sym (come.parts bytes)) (subst (IsReadFrom (Some source)) (sym now) issued);
      })

  placed : CommandIsWhatWasSupplied → (command : Fetched) (supply : Supply) (new : ControllerState) (o : Option NotTaken) → length bytes ≡ (want_at old s).len → length old.commands ≡ 32 → supplied (fetch_of old s) bytes ≡ came_as.Whole command
      → MatchOption o (PlacesSlot base s command supply new) (λ reason. RefusesSlot base s reason supply new) → AreSources new s (after_supply supply old s bytes was)
  placed law command supply new None len long is h = whole law command supply new len long is h
  placed law command supply new (Some reason) len long is h = ended supply new reason h

  pub supplied_own : CommandIsWhatWasSupplied → (supply : Supply) (new : ControllerState) → length bytes ≡ (want_at old s).len → length old.commands ≡ 32 → SuppliesSlot old s bytes supply new → AreSources new s (after_supply supply old s bytes was)
  supplied_own law supply new len long h = by h.came h.supplies h.goes
    where
      by : (c : Supplied) → Supplies (fetch_of old s) bytes c → GoesOn base s c supply new → AreSources new s (after_supply supply old s bytes was)
      by (came_as.More f) is goes = more f supply new len is goes
      by (came_as.OutOfMemory f) is goes = again f supply new is goes
      by (came_as.Refused r) is goes = ended supply new _ goes
      by (came_as.Whole command) is goes = placed law command supply new (not_issued base.core s command) len long is goes

-- ---- and for others

module _ (s slot : ℕ) (sources : Sources) (ne : s ≢ slot) (old : ControllerState) (are : AreSources old s sources) where
  abbrev pub other_base : ControllerState
  other_base = without_fetch (answered old slot) slot

  beside : (new : ControllerState) → new.fetches ≡ other_base.fetches → kept new s ≡ kept old s → AreSources new s sources
  beside new fetches same = stays s sources old new (ap length fetches ∙ length-set old.fetches slot no_fetch) (kept_fetch s other_base new fetches ∙ get_or-set_other old.fetches slot s no_fetch None ne) same are

  beside_one : (f : Fetching) (new : ControllerState) → new ≡ record other_base { fetches = set other_base.fetches slot (Some f) } → AreSources new s sources
  beside_one f new is =
      let fetches : new.fetches ≡ set other_base.fetches slot (Some f) = ap (λ (c : ControllerState). c.fetches) is in
      stays s sources old new (ap length fetches ∙ length-set other_base.fetches slot (Some f) ∙ length-set old.fetches slot no_fetch)
      (ap (λ (l : List (Option Fetching)). get_or l s None) fetches ∙ get_or-set_other other_base.fetches slot s (Some f) None ne ∙ get_or-set_other old.fetches slot s no_fetch None ne)
      (kept_command s old new (ap (λ (c : ControllerState). c.commands) is)) are

  pub refused_beside : (reason : NotTaken) (supply : Supply) (new : ControllerState) → RefusesSlot other_base slot reason supply new → AreSources new s sources
  refused_beside reason supply new h = beside new (ap (λ (c : ControllerState). c.fetches) h.rest) (kept_command s old new (ap (λ (c : ControllerState). c.commands) h.rest))

  placed_beside : (command : Fetched) (supply : Supply) (new : ControllerState) (o : Option NotTaken) → MatchOption o (PlacesSlot other_base slot command supply new) (λ reason. RefusesSlot other_base slot reason supply new) → AreSources new s sources
  placed_beside command supply new None h = beside new (ap (λ (c : ControllerState). c.fetches) h.rest) (ap (λ (c : ControllerState). kept c s) h.rest ∙ get_or-set_other old.commands slot s (Some command) None ne)
  placed_beside command supply new (Some reason) h = refused_beside reason supply new h

  pub supplied_beside : (bytes : List ℕ) (supply : Supply) (new : ControllerState) → SuppliesSlot old slot bytes supply new → AreSources new s sources
  supplied_beside bytes supply new h = by h.came h.goes
    where
      by : (c : Supplied) → GoesOn other_base slot c supply new → AreSources new s sources
      by (came_as.More f) goes = beside_one f new goes.0
      by (came_as.OutOfMemory f) goes = beside_one f new goes.0
      by (came_as.Refused r) goes = refused_beside _ supply new goes
      by (came_as.Whole command) goes = placed_beside command supply new (not_issued other_base.core slot command) goes

-- ---- all supplies

not_same : (slot s : ℕ) → (slot == s) ≡ false → s ≢ slot
not_same slot s h same = true≢false (sym (eq-eqb slot s (sym same)) ∙ h)

supply_is : CommandIsWhatWasSupplied → (fit here : Bool) (s slot number : ℕ) (bytes : List ℕ) (supply : Supply) (sources : Sources) (old new : ControllerState) → fits old slot number bytes ≡ fit → (slot == s) ≡ here → s < 32 → length old.commands ≡ 32
    → SuppliesIf fit old slot bytes supply new → AreSources old s sources → AreSources new s (if here then after_supply supply old s bytes sources else sources)
supply_is law false true s slot number bytes supply sources old new is at below long h are =
    subst (λ (x : Supply). AreSources new s (after_supply x old s bytes sources)) (sym h.1) (subst (λ (c : ControllerState). AreSources c s sources) (sym h.0) are)
supply_is law false false s slot number bytes supply sources old new is at below long h are = subst (λ (c : ControllerState). AreSources c s sources) (sym h.0) are
supply_is law true true s slot number bytes supply sources old new is at below long h are =
    let same : slot ≡ s = eqb-true slot s at in
    let len : length bytes ≡ (want_at old slot).len = eqb-true (length bytes) (want_at old slot).len (and_parts (is_asked old.wants slot number) (length bytes == (want_at old slot).len) is).1 in
    supplied_own s bytes old sources below are law supply new (subst (λ (k : ℕ). length bytes ≡ (want_at old k).len) same len) long (subst (λ (k : ℕ). SuppliesSlot old k bytes supply new) same h)
supply_is law true false s slot number bytes supply sources old new is at below long h are = supplied_beside s slot sources (not_same slot s at) old are bytes supply new h

miss_is : (out here : Bool) (s slot number : ℕ) (supply : Supply) (sources : Sources) (old new : ControllerState) → (slot == s) ≡ here → s < 32
    → MissesIf out old slot supply new → AreSources old s sources → AreSources new s (if here then after_supply supply old s [] sources else sources)
miss_is false true s slot number supply sources old new at below h are =
    subst (λ (x : Supply). AreSources new s (after_supply x old s [] sources)) (sym h.1) (subst (λ (c : ControllerState). AreSources c s sources) (sym h.0) are)
miss_is false false s slot number supply sources old new at below h are = subst (λ (c : ControllerState). AreSources c s sources) (sym h.0) are
miss_is true true s slot number supply sources old new at below h are =
    let same : slot ≡ s = eqb-true slot s at in
    ended s [] old sources below are supply new _ (subst (λ (k : ℕ). MissesIf true old k supply new) same h)
miss_is true false s slot number supply sources old new at below h are = refused_beside s slot sources (not_same slot s at) old are _ supply new h

-- ---- bytes that moved

-- a command whose bytes moved is the one that was read
counted_kept : (c : ControllerState) (w : Wrote) (s : ℕ) (o : Option Fetched) (source : Option Source) → kept c w.slot ≡ o → (low : Bool) → nat_lt w.slot 32 ≡ low → length c.commands ≡ 32 → IsReadFrom source (kept c s)
    → IsReadFrom source (get_or (match_some (if low then o else None) c.commands (λ command. set c.commands w.slot (Some (moved_on w command)))) s None)
counted_kept c w s None source at true is long h = h
counted_kept c w s None source at false is long h = h
counted_kept c w s (Some f) source at false is long h = h
counted_kept c w s (Some f) source at true is long h = elim (cases_eq s w.slot) [
  | inl same ↦
      let here : get_or (set c.commands w.slot (Some (moved_on w f))) s None ≡ Some (moved_on w f) =
      ap (λ (k : ℕ). get_or (set c.commands w.slot (Some (moved_on w f))) k None) same ∙ get_or-set_same c.commands w.slot (Some (moved_on w f)) None (rw long (ltb-true w.slot 32 is)) in
      subst (IsReadFrom source) (sym here) (on_move source (subst (IsReadFrom source) (ap (λ (k : ℕ). get_or c.commands k None) same ∙ at) h))
  | inr ne ↦ subst (IsReadFrom source) (sym (get_or-set_other c.commands w.slot s (Some (moved_on w f)) None ne)) h
]
  where
    on_move : (src : Option Source) → IsReadFrom src (Some f) → IsReadFrom src (Some (moved_on w f))
    on_move None x = tt
    on_move (Some source) x = x

moved_kept : (c : ControllerState) (wrote : Option Wrote) (s : ℕ) (source : Option Source) → length c.commands ≡ 32 → IsReadFrom source (kept c s) → IsReadFrom source (get_or (commands_after c wrote) s None)
moved_kept c None s source long h = h
moved_kept c (Some w) s source long h = counted_kept c w s (kept c w.slot) source refl (nat_lt w.slot 32) refl long h

moved_sources : (s : ℕ) (sources : Sources) (old base new : ControllerState) (wrote : Option Wrote) → base.commands ≡ old.commands → new.fetches ≡ old.fetches → new.commands ≡ commands_after base wrote → length old.commands ≡ 32 → AreSources old s sources → AreSources new s sources
moved_sources s sources old base new wrote same fetches commands long are = record {
  long = ap length fetches ∙ are.long;
  coming = subst (IsComing sources.coming) (sym (kept_fetch s old new fetches)) are.coming;
  issued = subst (λ (l : List (Option Fetched)). IsReadFrom sources.issued (get_or l s None)) (sym commands)
      (moved_kept base wrote s sources.issued (ap length same ∙ long) (subst (IsReadFrom sources.issued) (sym (kept_command s old base same)) are.issued));
}

-- ---- Data to devices

sends : (due : Bool) (dev s : ℕ) (sources : Sources) (old new : ControllerState) (result : Fed) → SendsIf due (without_feeding old dev) dev result new → length old.commands ≡ 32 → AreSources old s sources → AreSources new s sources
sends false dev s sources old new result h long are = same_sources s sources old new (ap (λ (c : ControllerState). c.fetches) h.0) (ap (λ (c : ControllerState). c.commands) h.0) are
sends true dev s sources old new result h long are =
    moved_sources s sources old (without_feeding old dev) new (sent_to (without_feeding old dev) dev) refl (ap (λ (c : ControllerState). c.fetches) h.rest) (ap (λ (c : ControllerState). c.commands) h.rest) long are

gathers : (out : Bool) (dev s : ℕ) (sources : Sources) (old new : ControllerState) (result : Fed) → GathersIf out old dev result new → length old.commands ≡ 32 → AreSources old s sources → AreSources new s sources
gathers false dev s sources old new result h long are = same_sources s sources old new (ap (λ (c : ControllerState). c.fetches) h.0) (ap (λ (c : ControllerState). c.commands) h.0) are
gathers true dev s sources old new result h long are = sends (may_feed old.core dev) dev s sources old new result h long are

loses : (turn : Turn) (s : ℕ) (sources : Sources) (fed old new : ControllerState) (result : Fed) → fed.fetches ≡ old.fetches → fed.commands ≡ old.commands → Loses turn fed result new → AreSources old s sources → AreSources new s sources
loses (Feeds dev slot offset len) s sources fed old new result fetches commands h are = same_sources s sources old new (ap (λ (c : ControllerState). c.fetches) h.rest ∙ fetches) (ap (λ (c : ControllerState). c.commands) h.rest ∙ commands) are
loses other s sources fed old new result fetches commands h are = same_sources s sources old new (ap (λ (c : ControllerState). c.fetches) h.0 ∙ fetches) (ap (λ (c : ControllerState). c.commands) h.0 ∙ commands) are

loses_if : (due : Bool) (dev s : ℕ) (sources : Sources) (old new : ControllerState) (result : Fed) → LosesIf due (without_feeding old dev) dev result new → AreSources old s sources → AreSources new s sources
loses_if false dev s sources old new result h are = same_sources s sources old new (ap (λ (c : ControllerState). c.fetches) h.0) (ap (λ (c : ControllerState). c.commands) h.0) are
loses_if true dev s sources old new result h are = loses (turn_to (without_feeding old dev) dev) s sources (without_feeding old dev) old new result refl refl h are

misses_data : (out : Bool) (dev s : ℕ) (sources : Sources) (old new : ControllerState) (result : Fed) → MissesDataIf out old dev result new → AreSources old s sources → AreSources new s sources
misses_data false dev s sources old new result h are = same_sources s sources old new (ap (λ (c : ControllerState). c.fetches) h.0) (ap (λ (c : ControllerState). c.commands) h.0) are
misses_data true dev s sources old new result h are = loses_if (may_feed old.core dev) dev s sources old new result h are

-- ---- writes

-- a slot that is not pending is not read
abbrev IsUnreadAt : ℕ → ControllerState → Type 0
IsUnreadAt s c = has_bit c.wants.pending s ≡ false → fetch_at c s ≡ None

record GoesOnAt (s : ℕ) (c : ControllerState) (sources : Sources) : Type 0 where
  are : AreSources c s sources
  unread : IsUnreadAt s c

not_before : (b : Bool) → (b ≡ true → true ≡ false) → b ≡ false
not_before false h = refl
not_before true h = h refl

unread_on : (s : ℕ) (old new : ControllerState) → s < 32 → Touches old new → IsUnreadAt s old → IsUnreadAt s new
unread_on s old new below (Keeps k) unread gone =
    kept_fetch s old new k.fetches ∙ unread (not_before (has_bit old.wants.pending s) (λ here. sym (k.pending s here) ∙ gone))
unread_on s old new below (Drops d) unread gone =
    ap (λ (l : List (Option Fetching)). get_or l s None) d.fetches ∙ get_or-replicate 32 s no_fetch None below

touched_long : (old new : ControllerState) → Touches old new → length old.fetches ≡ 32 → length new.fetches ≡ 32
touched_long old new (Keeps k) long = ap length k.fetches ∙ long
touched_long old new (Drops d) long = ap length d.fetches ∙ length-replicate 32 no_fetch

touched_command : (s : ℕ) (old new : ControllerState) → Touches old new → kept new s ≡ kept old s
touched_command s old new (Keeps k) = kept_command s old new k.commands
touched_command s old new (Drops d) = kept_command s old new d.commands

pending_fetch : (s : ℕ) (old new : ControllerState) → Touches old new → has_bit new.wants.pending s ≡ true → fetch_at new s ≡ fetch_at old s
pending_fetch s old new (Keeps k) here = kept_fetch s old new k.fetches
pending_fetch s old new (Drops d) here = absurd (false≢true (sym (d.pending s) ∙ here))

write_goes : (s : ℕ) (sources : Sources) (old new : ControllerState) → s < 32 → Touches old new → GoesOnAt s old sources → GoesOnAt s new (while_pending new s sources)
write_goes s sources old new below touches was = record { are = by (has_bit new.wants.pending s) refl; unread = unread_on s old new below touches was.unread }
  where
    long : length new.fetches ≡ length old.fetches
    long = touched_long old new touches was.are.long ∙ sym was.are.long

    by : (b : Bool) → has_bit new.wants.pending s ≡ b → AreSources new s (if b then sources else record { coming = None; issued = sources.issued })
    by true here = stays s sources old new long (pending_fetch s old new touches here) (touched_command s old new touches) was.are
    by false gone = unread s sources old new long (unread_on s old new below touches was.unread gone) (touched_command s old new touches) was.are

wide_goes : (does_fit : Bool) (s : ℕ) (sources : Sources) (offset : ℕ) (width : Width) (value : ℕ) (old new : ControllerState) (result : WideWritten) → (h : WritesFitting does_fit old offset width value result new) → s < 32 → GoesOnAt s old sources
    → AreSources new s (after_wide does_fit s old offset width value result new h sources)
wide_goes false s sources offset width value old new result h below was = subst (λ (c : ControllerState). AreSources c s sources) (sym h.0.0) was.are
wide_goes true s sources offset width value old new result h below was =
    (write_goes s (while_pending h.middle s sources) h.middle new below (part_touches _ _ _ _ h.middle new result.high h.high) (write_goes s sources old h.middle below (part_touches _ _ _ _ old h.middle result.low h.low) was)).are

-- ---- all calls

call_goes : CommandIsWhatWasSupplied → (s : ℕ) (sources : Sources) (old new : ControllerState) (e : Event) → s < 32 → IsController old → (does : Does old e new) → AreSources old s sources → AreSources new s (sources_by s old e new does sources)
call_goes law s sources old new (event.Wrote offset value written) below k does are =
    (write_goes s sources old new below (write_touches offset value old new written does) (record { are = are; unread = λ none. (k.rules.unread s below none).fetch })).are
call_goes law s sources old new (event.WroteWide offset width value written) below k does are =
    wide_goes (fits_width width offset) s sources offset width value old new written does below (record { are = are; unread = λ none. (k.rules.unread s below none).fetch })
call_goes law s sources old new (event.Supplied slot number bytes supply) below k does are = supply_is law (fits old slot number bytes) (slot == s) s slot number bytes supply sources old new refl refl below k.rules.long does are
call_goes law s sources old new (event.Missed slot number supply) below k does are = miss_is (is_asked old.wants slot number) (slot == s) s slot number supply sources old new refl below does are
call_goes law s sources old new (event.Took frame took) below k does are =
    moved_sources s sources old (record old { core = new.core }) new (brought old frame took.report) refl (ap (λ (c : ControllerState). c.fetches) does.hears.rest) (ap (λ (c : ControllerState). c.commands) does.hears.rest) k.rules.long are
call_goes law s sources old new (event.Left frame why) below k does are = subst (λ (c : ControllerState). AreSources c s sources) (sym does.1) are
call_goes law s sources old new (event.Turned next) below k does are =
    let calm : IsCalm old new = turn_calm old new next does in
    same_sources s sources old new calm.fetches calm.commands are
call_goes law s sources old new (event.Said write) below k does are =
    same_sources s sources old new (ap (λ (c : ControllerState). c.fetches) does.1) (ap (λ (c : ControllerState). c.commands) does.1) are
call_goes law s sources old new (event.Gathered dev number frame fed) below k does are = gathers (is_fed old.wants dev number) dev s sources old new fed does.1 k.rules.long are
call_goes law s sources old new (event.NotThere dev number fed) below k does are = misses_data (is_fed old.wants dev number) dev s sources old new fed does are

pub are_supplied : CommandIsWhatWasSupplied → CommandsAreSupplied
are_supplied law old new [] run s below was are = subst (λ (c : ControllerState). AreSources c s was) (sym run.1) are
are_supplied law old new (e ∷ events) run s below was are =
    are_supplied law run.1.0 new events run.1.2 s below (sources_by s old e run.1.0 run.1.1 was) (call_goes law s was old run.1.0 e below run.0 run.1.1 are)

pub starts_unread : StartsUnread
starts_unread c k long s below none = record { long = long; coming = subst (IsComing None) (sym (k.rules.unread s below none).fetch) tt; issued = tt }

-- ---- what the core has

offered_from : (command : Option core_command.Command) (f : Option Fetched) (source : Source) → IsOffered command f → IsReadFrom (Some source) f → MatchOption command (Unit {0}) (IsIssuedFrom (command_of source))
offered_from None f source offered from = tt
offered_from (Some command) None source offered from = absurd offered
offered_from (Some command) (Some f) source offered from = subst (λ (o : Option Fetched). IsIssuedFrom o command) (sym from) offered

pub core_has : CoreHasSupplied
core_has c k s sources are source is = offered_from (last_command c.core.commands s) (kept c s) source (k.rules.kept s) (subst (λ (o : Option Source). IsReadFrom o (kept c s)) is are.issued)
