-- Each byte that came for a queued command that is under way, and has not failed, came by a Data FIS that the disk heard while the command awaited it; the
-- command did not end since.
use Rattle.std.proofs.Common.{◌≡◌, ◌⊎◌, ℕ, ◌+◌, ◌-◌, ◌<◌, ◌≤◌, Bool, true, false, not, List, [], ◌∷◌, ◌++◌, append_assoc, append-nil, drop, get_or}
use Rattle.std.proofs.{Common.{length, set, Option, Some, None, Ok, arith, refl, sym, ap, ◌∙◌, subst, inl, inr}, lemmas.Bool.{cases_eq, cases_lt}}
use Rattle.std.proofs.lemmas.{Bool.{false≢true}, List.{get_or-append_right, get_or-set_other, get_or_append_left, length-append}, Option.same_Some}
use Rattle.std.proofs.lemmas.Option.{slice_get-get_or}
use Rattle.std.specs.{Prelude.{if◌then◌else◌, slice_get}, Option.option_map}
use Rattle.fis_view.specs.Seen.{seen as view_seen}
use Rattle.fis_view.specs.declared.view.Fis.TheVariants as view
use Rattle.block_command.specs.{declared.command.{Command.Command, Stage.{Stage, TheVariants.{End, Ended, Fail, Receiving}}}, Moments.Moment}
use Rattle.block_command.specs.Moments.{after_came, after_failed, after_flushed, after_loaded, after_stored, gone, is_ended, opening, turn_of}
use Rattle.block_command.specs.Laws.{CameData, Comes, Fails, Flushes, Goes, Happening, Input, Ledger, Loads, Stores, after, blank, happening}
use Rattle.block_command.proofs.Door.{Agrees, at}
use Rattle.block_disk.specs.{Laws.{At, Page, Refused, Took, at_page, entered_in, page_entered, shown_at}, Requests.{Books, Queue, entered_by, is_out}}
use Rattle.block_disk.specs.{Requests.{no_books, seen, told}, Table.{is_under_way, with_command, with_input}}
use Rattle.block_disk.proofs.Door.{Agree, Matches, each_is}
use Rattle.block_queue.specs.Deeds as deed
use Rattle.block_queue.specs.{Deeds.{Deed, act_of, after_deed, seen_of}, Line.{Line, command_at, has_bit}}
use Rattle.block_scheduler.specs.Laws.{all_deeds}
use Rattle.block_engine.specs.{Engine.EngineState, Laws.{Step, all_moves}}
use Rattle.block_engine.specs.Laws as engine
use Rattle.disk_pages.specs.declared.profile.Profile.{Profile}
use Rattle.sata_disk.specs.{Hearing.{is_receiving, receives}, State.{DiskState, commands, is_taken, new_disk}}
use Rattle.sata_disk.specs.declared.out.Out.TheVariants as out
use Rattle.sata_disk_books.specs.{Books.{books_after, page_in}, Counted.counted_after}
use Rattle.sata_disk_books.proofs.Door.{Good, after_deeds, books_both, calls_good, deeds_by, line_by, new_good, shown_both, shown_from}
use Rattle.sata_disk_laws.specs.{Calls.{AreCalls, Call, Plugs, Hears, Starts, Asks, Answers, Sends, steps_of}, Laws.{reached, seen_in}}
use Rattle.machine_theorem.specs.Tags.{ended_with, ends_with, once_if}
use Rattle.machine_theorem.proofs.Came.{CallSteps, Each, NoDeed, NoHappening, call_kind, ledger_holds, moves_deeds, none_happens, one_call}
use Rattle.machine_theorem.proofs.{Came.{steps_moves, told_none, turn_none, CallSteps.{Quiet, Brings}}, TagCounts.{Laws, ended_both, ends_it}}
use Rattle.machine_theorem.proofs.{TagCounts.{first_calls, one_call_more}, TagPages.here_or}

-- ---- a command that has neither ended nor failed

abbrev pub is_over : Stage → Bool
is_over Fail = true
is_over Ended = true
is_over _ = false

abbrev pub IsGoing : Option Moment → Type 0
IsGoing None = ⊥
IsGoing (Some m) = is_over m.stage ≡ false

stays_over : (m : Moment) (s : Stage) (i : Input) → m.stage ≡ s → is_over s ≡ true → is_over (after m i).stage ≡ true
stays_over m Fail Goes e over = ap (λ (t : Stage). is_over (gone m t).stage) e
stays_over m Fail (Loads bytes) e over = ap (λ (t : Stage). is_over (after_loaded m t bytes).stage) e ∙ ap is_over e
stays_over m Fail (Comes part) e over = ap (λ (t : Stage). is_over (after_came m t part).stage) e ∙ ap is_over e
stays_over m Fail Stores e over = ap (λ (t : Stage). is_over (after_stored m t).stage) e ∙ ap is_over e
stays_over m Fail Flushes e over = ap (λ (t : Stage). is_over (after_flushed m t).stage) e ∙ ap is_over e
stays_over m Fail Fails e over = ap (λ (t : Stage). is_over (after_failed m t).stage) e ∙ ap is_over e
stays_over m Ended Goes e over = ap (λ (t : Stage). is_over (gone m t).stage) e ∙ ap is_over e
stays_over m Ended (Loads bytes) e over = ap (λ (t : Stage). is_over (after_loaded m t bytes).stage) e ∙ ap is_over e
stays_over m Ended (Comes part) e over = ap (λ (t : Stage). is_over (after_came m t part).stage) e ∙ ap is_over e
stays_over m Ended Stores e over = ap (λ (t : Stage). is_over (after_stored m t).stage) e ∙ ap is_over e
stays_over m Ended Flushes e over = ap (λ (t : Stage). is_over (after_flushed m t).stage) e ∙ ap is_over e
stays_over m Ended Fails e over = ap (λ (t : Stage). is_over (after_failed m t).stage) e ∙ ap is_over e
stays_over m s i e over = absurd (cc)

was_going : (m : Moment) (i : Input) → is_over (after m i).stage ≡ false → is_over m.stage ≡ false
was_going m i going = by (is_over m.stage) refl
  where
    by : (b : Bool) → is_over m.stage ≡ b → b ≡ false
    by true e = absurd (false≢true (sym going ∙ stays_over m m.stage i refl e))
    by false e = refl

going_back : (x : Option Moment) (i : Input) → IsGoing (option_map (λ m. after m i) x) → IsGoing x
going_back None i g = absurd g
going_back (Some m) i g = was_going m i g

-- ---- what holds of the bytes that came for the command of a place while it goes on

module _ (tag : ℕ) (H : List ℕ → Type 0) where
  abbrev pub Has : Option Moment → Option Page → Type 0
  Has x y = IsGoing x → (page : Page) → y ≡ Some page → H page.ledger.came

  same_at : (x x' : Option Moment) (y y' : Option Page) → (x' ≡ x) ⊎ (x' ≡ None) → (y' ≡ y) ⊎ (y' ≡ None) → Has x y → Has x' y'
  same_at x x' y y' (inr a) b s = λ g page e. absurd (subst IsGoing a g)
  same_at x x' y y' (inl a) (inr b) s = λ g page e. absurd (let both : None ≡ Some page = sym b ∙ e in cc)
  same_at x x' y y' (inl a) (inl b) s = λ g page e. s (subst IsGoing a g) page (sym b ∙ e)

  pub both_set : (xs : List (Option Moment)) (ys : List (Option Page)) (place : ℕ) (x : Option Moment) (y : Option Page) → Has (get_or xs tag None) (get_or ys tag None)
      → (tag ≡ place → Has x y) → Has (get_or (set xs place x) tag None) (get_or (set ys place y) tag None)
  both_set xs ys place x y was s = elim (cases_eq tag place) [
    | inl e ↦ subst (λ (k : ℕ). Has (get_or (set xs place x) k None) (get_or (set ys place y) k None)) (sym e)
        (same_at x _ y _ (here_or xs place x) (here_or ys place y) (s e))
    | inr apart ↦ λ g page is.
        was (subst IsGoing (get_or-set_other xs place tag x None apart) g) page (sym (get_or-set_other ys place tag y None apart) ∙ is)
  ]

  -- one of them changes alone
  pub first_set : (xs : List (Option Moment)) (ys : List (Option Page)) (place : ℕ) (x : Option Moment) → Has (get_or xs tag None) (get_or ys tag None)
      → (tag ≡ place → Has x (get_or ys place None)) → Has (get_or (set xs place x) tag None) (get_or ys tag None)
  first_set xs ys place x was s = elim (cases_eq tag place) [
    | inl e ↦ subst (λ (k : ℕ). Has (get_or (set xs place x) k None) (get_or ys k None)) (sym e)
        (same_at x _ (get_or ys place None) _ (here_or xs place x) (inl refl) (s e))
    | inr apart ↦ λ g page is. was (subst IsGoing (get_or-set_other xs place tag x None apart) g) page is
  ]

  second_set : (xs : List (Option Moment)) (ys : List (Option Page)) (place : ℕ) (y : Option Page) → Has (get_or xs tag None) (get_or ys tag None)
      → (tag ≡ place → Has (get_or xs place None) y) → Has (get_or xs tag None) (get_or (set ys place y) tag None)
  second_set xs ys place y was s = elim (cases_eq tag place) [
    | inl e ↦ subst (λ (k : ℕ). Has (get_or xs k None) (get_or (set ys place y) k None)) (sym e)
        (same_at (get_or xs place None) _ y _ (inl refl) (here_or ys place y) (s e))
    | inr apart ↦ λ g page is. was g page (sym (get_or-set_other ys place tag y None apart) ∙ is)
  ]

  pub at_place : (xs : List (Option Moment)) (ys : List (Option Page)) (place : ℕ) → Has (get_or xs tag None) (get_or ys tag None) → tag ≡ place
      → Has (get_or xs place None) (get_or ys place None)
  at_place xs ys place was e = subst (λ (k : ℕ). Has (get_or xs k None) (get_or ys k None)) e was

  abbrev pub AtLine : Line → Books → Type 0
  AtLine l b = Has (get_or l.queue.table.places tag None) (get_or b.pages tag None)

module _ (tag : ℕ) (H : List ℕ → Type 0) (nil : H []) where
  -- what happens brings no Data
  entered_has : (x : Option Moment) (h : Happening) (y : Option Page) → NoHappening h → Has tag H x y → Has tag H x (option_map (λ p. page_entered p h) y)
  entered_has x h None none s = λ g page e. absurd (cc)
  entered_has x h (Some p) none s = λ g page e.
      subst (λ (k : Page). H k.ledger.came) (same_Some (page_entered p h) page e)
      (ledger_holds (λ c came. H came) (λ c came. H came) (λ c. nil) (λ c came is. is) p.command p.ledger h (s g p refl) (none_happens (λ c came. H came) h none))

  after_has : (x : Option Moment) (i : Input) (y : Option Page) → Has tag H x y → Has tag H (option_map (λ m. after m i) x) y
  after_has x i y s = λ g page e. s (going_back x i g) page e

  shown_has : (xs : List (Option Moment)) (ys : List (Option Page)) (place : ℕ) (i : Input) (x : Option Moment) → get_or xs place None ≡ x
      → ((m : Moment) → x ≡ Some m → NoHappening (happening m i)) → Has tag H (get_or xs tag None) (get_or ys tag None)
      → Has tag H (get_or (set xs place (option_map (λ m. after m i) x)) tag None) (get_or (entered_in ys (shown_at place x i)) tag None)
  shown_has xs ys place i None e none was = first_set tag H xs ys place None was (λ same g page is. absurd g)
  shown_has xs ys place i (Some m) e none was =
      both_set tag H xs ys place (Some (after m i)) (option_map (λ p. page_entered p (happening m i)) (at_page ys place)) was
      (λ same. entered_has (Some (after m i)) (happening m i) (at_page ys place) (none m refl)
      (after_has (Some m) i (at_page ys place) (subst (λ (o : Option Moment). Has tag H o (get_or ys place None)) e (at_place tag H xs ys place was same))))

  goes_has : (xs : List (Option Moment)) (ys : List (Option Page)) (place : ℕ) → Has tag H (get_or xs tag None) (get_or ys tag None)
      → Has tag H (get_or (set xs place (option_map (λ m. after m Goes) (get_or xs place None))) tag None) (get_or (entered_in ys (shown_at place (get_or xs place None) Goes)) tag None)
  goes_has xs ys place was = shown_has xs ys place Goes (get_or xs place None) refl (λ m e. turn_none m (turn_of m.stage)) was

  answers_has : (q r : Queue) (b e : Books) (x y : Bool) → Has tag H (get_or q.table.places tag None) (get_or b.pages tag None) → Has tag H (get_or r.table.places tag None) (get_or b.pages tag None)
      → Has tag H (get_or q.table.places tag None) (get_or e.pages tag None) → Has tag H (get_or r.table.places tag None) (get_or e.pages tag None)
      → Has tag H (get_or (if x then r else q).table.places tag None) (get_or (if y then e else b).pages tag None)
  answers_has q r b e true true one two three four = four
  answers_has q r b e true false one two three four = two
  answers_has q r b e false true one two three four = three
  answers_has q r b e false false one two three four = one

  takes_has : (l : Line) (b : Books) (k : Command) (ranks : List ℕ) (x : Bool) → AtLine tag H l b
      → Has tag H (get_or (if x then l else record l { queue = record l.queue { table = if x then l.queue.table else with_command l.queue.table k.place (Some (opening k)) }; ranks = ranks }).queue.table.places tag None)
      (get_or (entered_in b.pages (if x then Refused k else Took k)) tag None)
  takes_has l b k ranks true was = was
  takes_has l b k ranks false was =
      both_set tag H l.queue.table.places b.pages k.place (Some (opening k)) (Some (record { command = k; ledger = blank })) was
      (λ same g page e. subst (λ (p : Page). H p.ledger.came) (same_Some (record { command = k; ledger = blank }) page e) nil)

  deed_has : (l : Line) (d : Deed) (b : Books) → NoDeed d → AtLine tag H l b → AtLine tag H (after_deed l d) (entered_by b (seen l.queue (act_of d)))
  deed_has l (deed.Takes k) b none was = takes_has l b k _ (is_under_way (command_at l k.place)) was
  deed_has l (deed.Starts place) b none was = goes_has l.queue.table.places b.pages place was
  deed_has l (deed.Sends place) b none was = goes_has l.queue.table.places b.pages place was
  deed_has l (deed.Asks place) b none was = goes_has l.queue.table.places b.pages place was
  deed_has l (deed.Hears place part) b none was = absurd none
  deed_has l (deed.Answers place number i) b none was =
      let xs : List (Option Moment) = l.queue.table.places in
      let r : Queue = record l.queue { table = with_input l.queue.table place i; out = set l.queue.out place 0 } in
      let e : Books = record { pages = entered_in b.pages (At place (told i)); out = set b.out place 0 } in
      let x : Option Moment = get_or xs place None in
      let y : Option Page = get_or b.pages place None in
      let entered' : tag ≡ place → Has tag H x (option_map (λ p. page_entered p (told i)) y) = λ same. entered_has x (told i) y (told_none i) (at_place tag H xs b.pages place was same) in
      answers_has l.queue r b e (is_out l.queue.out place number) (is_out b.out place number) was
      (first_set tag H xs b.pages place _ was (λ same. after_has x i y (at_place tag H xs b.pages place was same)))
      (second_set tag H xs b.pages place _ was entered')
      (both_set tag H xs b.pages place _ _ was (λ same. after_has x i _ (entered' same)))
  deed_has l deed.Resets b none was = λ g page e. absurd (subst IsGoing (each_is (Option Moment) 33 tag None) g)
  deed_has l deed.Draws b none was = was

  pub deeds_has : (ds : List Deed) (l : Line) (b : Books) → Each NoDeed ds → AtLine tag H l b → AtLine tag H (after_deeds l ds) (books_after b (seen_of l ds))
  unfolding books_after seen_of
  deeds_has [] l b none was = was
  deeds_has (d ∷ later) l b none was = deeds_has later (after_deed l d) (entered_by b (seen l.queue (act_of d))) none.1 (deed_has l d b none.0 was)

-- ---- Data come

with_write : (c : Command) (w : Bool) → c.write ≡ w → c ≡ record c { write = w }
with_write c w e = ap (λ (b : Bool). record c { write = b }) e

end_write : (c k : Command) (done : ℕ) (bytes : List ℕ) (sent : ℕ) (l : Ledger) → Agrees (record c { write = true }) (at k done bytes sent End) l → l.active ≡ true → ⊥
end_write c k done bytes sent l (inl over) active = false≢true over
end_write c k done bytes sent l (inr known) active = false≢true (sym (ap (λ (x : Ledger). x.active) known.is) ∙ active)

end_read : (c k : Command) (done : ℕ) (bytes : List ℕ) (sent : ℕ) (l : Ledger) → Agrees (record c { write = false }) (at k done bytes sent End) l → l.active ≡ true → ⊥
end_read c k done bytes sent l (inl over) active = false≢true over
end_read c k done bytes sent l (inr known) active = false≢true (sym (ap (λ (x : Ledger). x.active) known.is) ∙ active)

end_active : (c k : Command) (done : ℕ) (bytes : List ℕ) (sent : ℕ) (l : Ledger) (w : Bool) → c.write ≡ w → Agrees c (at k done bytes sent End) l → l.active ≡ true → ⊥
end_active c k done bytes sent l true e agrees active =
    end_write c k done bytes sent l (subst (λ (x : Command). Agrees x (at k done bytes sent End) l) (with_write c true e) agrees) active
end_active c k done bytes sent l false e agrees active =
    end_read c k done bytes sent l (subst (λ (x : Command). Agrees x (at k done bytes sent End) l) (with_write c false e) agrees) active

active_receives : (c k : Command) (done : ℕ) (bytes : List ℕ) (sent : ℕ) (s : Stage) (l : Ledger) → Agrees c (at k done bytes sent s) l → is_over s ≡ false → l.active ≡ true
    → is_receiving s ≡ true
active_receives c k done bytes sent Receiving l agrees going active = refl
active_receives c k done bytes sent End l agrees going active = absurd (end_active c k done bytes sent l c.write refl agrees active)
active_receives c k done bytes sent Fail l agrees going active = absurd (cc)
active_receives c k done bytes sent Ended l agrees going active = absurd (cc)
active_receives c k done bytes sent s l (inl over) going active = absurd (false≢true over)
active_receives c k done bytes sent s l (inr known) going active = absurd (false≢true (sym (ap (λ (x : Ledger). x.active) known.is) ∙ active))

module _ (tag : ℕ) (H K : List ℕ → Type 0) (up : (came : List ℕ) → H came → K came) (part : List ℕ) where
  came_by : (c : Command) (l : Ledger) (b : Bool) → l.active ≡ b → H l.came → (l.active ≡ true → K (l.came ++ part))
      → K (if b then record l { came = l.came ++ part; active = false } else l).came
  came_by c l true active was more = more active
  came_by c l false active was more = up l.came was

  come_case : (m : Moment) (y : Option Page) → Matches (Some m) y → IsGoing (Some (after m (Comes part))) → ((page : Page) → y ≡ Some page → H page.ledger.came)
      → (is_receiving m.stage ≡ true → (page : Page) → y ≡ Some page → H page.ledger.came → K (page.ledger.came ++ part))
      → (page : Page) → option_map (λ p. page_entered p (CameData part)) y ≡ Some page → K page.ledger.came
  come_case m None match' going was more page e = absurd (cc)
  come_case m (Some p) match' going was more page e =
      subst (λ (k : Page). K k.ledger.came) (same_Some (page_entered p (CameData part)) page e)
      (came_by p.command p.ledger p.ledger.active refl (was p refl)
      (λ active. more (active_receives p.command m.command m.done m.bytes m.sent m.stage p.ledger match'.1 (was_going m (Comes part) going) active) p refl (was p refl)))

  hears_case : (l : Line) (b : Books) (place : ℕ) (x : Option Moment) → get_or l.queue.table.places place None ≡ x → Agree l.queue b
      → Has tag H (get_or l.queue.table.places tag None) (get_or b.pages tag None)
      → (receives (command_at l tag) ≡ true → (page : Page) → get_or b.pages tag None ≡ Some page → H page.ledger.came → K (page.ledger.came ++ part))
      → Has tag K (get_or (set l.queue.table.places place (option_map (λ m. after m (Comes part)) x)) tag None) (get_or (entered_in b.pages (shown_at place x (Comes part))) tag None)
  hears_case l b place None e agree was more = first_set tag K l.queue.table.places b.pages place None (λ g page is. up page.ledger.came (was g page is)) (λ same g page is. absurd g)
  hears_case l b place (Some m) e agree was more =
      both_set tag K l.queue.table.places b.pages place (Some (after m (Comes part))) (option_map (λ p. page_entered p (CameData part)) (at_page b.pages place))
      (λ g page is. up page.ledger.came (was g page is))
      (λ same going page is.
      let here : command_at l tag ≡ Some m = ap (λ (k : ℕ). get_or l.queue.table.places k None) same ∙ e in
      come_case m (at_page b.pages place) (subst (λ (o : Option Moment). Matches o (at_page b.pages place)) e (agree.kept.each place)) going
      (λ p it. was (subst IsGoing (sym here) (was_going m (Comes part) going)) p (ap (λ (k : ℕ). get_or b.pages k None) same ∙ it))
      (λ awaits p it. more (ap receives here ∙ awaits) p (ap (λ (k : ℕ). get_or b.pages k None) same ∙ it)) page is)

  pub hears_has : (l : Line) (b : Books) (place : ℕ) → Agree l.queue b → AtLine tag H l b
      → (receives (command_at l tag) ≡ true → (page : Page) → get_or b.pages tag None ≡ Some page → H page.ledger.came → K (page.ledger.came ++ part))
      → AtLine tag K (after_deed l (deed.Hears place part)) (entered_by b (seen l.queue (act_of (deed.Hears place part))))
  hears_has l b place agree was more = hears_case l b place (get_or l.queue.table.places place None) refl agree was more

-- ---- bytes of two lists

slice_left : (xs ys : List ℕ) (k : ℕ) → k < length xs → slice_get (xs ++ ys) k ≡ slice_get xs k
slice_left xs ys k low =
    let long = length-append xs ys in
    slice_get-get_or (xs ++ ys) k 0 (omega (arith, long, low)) ∙ ap Some (get_or_append_left xs ys 0 k low) ∙ sym (slice_get-get_or xs k 0 low)

slice_right : (xs ys : List ℕ) (k : ℕ) → length xs ≤ k → k < length xs + length ys → slice_get (xs ++ ys) k ≡ slice_get ys (k - length xs)
slice_right xs ys k from to =
    let long = length-append xs ys in
    slice_get-get_or (xs ++ ys) k 0 (omega (arith, long, to)) ∙ ap Some (get_or-append_right xs ys (length xs) k 0 refl from)
    ∙ sym (slice_get-get_or ys (k - length xs) 0 (omega (arith, from, to)))

-- ---- over the calls of a disk

going_on : (s : Stage) → is_over s ≡ false → not (is_ended s) ≡ true
going_on Fail g = absurd (cc)
going_on Ended g = absurd (cc)
going_on s g = refl

one_hears : (e : EngineState) (place : ℕ) (part : List ℕ) → all_deeds e.schedule (all_moves e (engine.Hears place part ∷ [])) ≡ deed.Hears place part ∷ []
unfolding all_deeds all_moves
one_hears e place part = refl

one_deed : (tag : ℕ) (H : List ℕ → Type 0) (l : Line) (b : Books) (d : Deed) → AtLine tag H (after_deed l d) (entered_by b (seen l.queue (act_of d)))
    → AtLine tag H (after_deeds l (d ∷ [])) (books_after b (seen_of l (d ∷ [])))
unfolding books_after seen_of
one_deed tag H l b d now = now

module _ (p : Profile) (limit : ℕ) (base : List Call) (tag : ℕ) where
  -- Byte k of those that came is one of a Data FIS that was heard, while the command awaited it, and as many came before it as this says.
  pub record CameAt (done : List Call) (came : List ℕ) (k : ℕ) : Type 0 where
    pub front : List Call
    pub fis : List ℕ
    pub later : List Call
    pub split : done ≡ front ++ Hears fis ∷ later
    pub frame : List ℕ
    pub viewed : view_seen fis ≡ Ok (view.Payload frame)
    pub awaits : receives (command_at (commands (reached p limit (base ++ front))) tag) ≡ true
    pub page : Page
    pub is : page_in p limit (base ++ front) tag ≡ Some page
    pub from : length page.ledger.came ≤ k
    pub to : k < length page.ledger.came + length (drop 4 fis)
    pub byte : slice_get came k ≡ slice_get (drop 4 fis) (k - length page.ledger.came)
    pub standing : ended_with tag later ≡ 0

  abbrev pub EachCame : List Call → List ℕ → Type 0
  EachCame done came = (k : ℕ) → k < length came → CameAt done came k

  none_came : (done : List Call) → EachCame done []
  none_came done k low = absurd (omega (arith, low))

  later_came : (done : List Call) (x : Call) → ends_with tag x ≡ 0 → (came : List ℕ) → EachCame done came → EachCame (done ++ x ∷ []) came
  later_came done x none came each k low =
      let c : CameAt done came k = each k low in
      let both = ended_both tag c.later (x ∷ []) in
      let standing = c.standing in
      record {
        front = c.front;
        fis = c.fis;
        later = c.later ++ x ∷ [];
        split = ap (λ (l : List Call). l ++ x ∷ []) c.split ∙ append_assoc c.front (Hears c.fis ∷ c.later) (x ∷ []);
        frame = c.frame;
        viewed = c.viewed;
        awaits = c.awaits;
        page = c.page;
        is = c.is;
        from = c.from;
        to = c.to;
        byte = c.byte;
        standing = omega (arith, both, standing, none);
      }

  more_came : (done : List Call) (fis frame : List ℕ) → view_seen fis ≡ Ok (view.Payload frame)
      → receives (command_at (commands (reached p limit (base ++ done))) tag) ≡ true → (page : Page) → page_in p limit (base ++ done) tag ≡ Some page
      → EachCame (done ++ Hears fis ∷ []) page.ledger.came → EachCame (done ++ Hears fis ∷ []) (page.ledger.came ++ drop 4 fis)
  more_came done fis frame viewed awaits page is each k low =
      let came : List ℕ = page.ledger.came in
      let long = length-append came (drop 4 fis) in
      elim (cases_lt k (length came)) [
        | inl before ↦
            let c : CameAt (done ++ Hears fis ∷ []) came k = each k before in
            record {
              front = c.front;
              fis = c.fis;
              later = c.later;
              split = c.split;
              frame = c.frame;
              viewed = c.viewed;
              awaits = c.awaits;
              page = c.page;
              is = c.is;
              from = c.from;
              to = c.to;
              byte = slice_left came (drop 4 fis) k before ∙ c.byte;
              standing = c.standing;
            }
        | inr behind ↦ record {
          front = done;
          fis = fis;
          later = [];
          split = refl;
          frame = frame;
          viewed = viewed;
          awaits = awaits;
          page = page;
          is = is;
          from = behind;
          to = omega (arith, long, low);
          byte = slice_right came (drop 4 fis) k behind (omega (arith, long, low));
          standing = refl;
        }
      ]

  -- so it is of each byte of the command at the tag, while it goes on
  abbrev pub AllCame : List Call → Type 0
  AllCame done = Has tag (EachCame done) (command_at (commands (reached p limit (base ++ done))) tag) (page_in p limit (base ++ done) tag)

  good_at : (done : List Call) → AreCalls (new_disk p limit) (base ++ done)
      → Good (reached p limit (base ++ done)) (books_after no_books (seen_in p limit (base ++ done))) (counted_after None (base ++ done))
  good_at done are = calls_good (base ++ done) (new_disk p limit) no_books None (new_good p limit) are

  -- what one call leaves
  left_by : (done : List Call) (x : Call) (H : List ℕ → Type 0)
      → AtLine tag H (after_deeds (commands (reached p limit (base ++ done))) (deeds_by (reached p limit (base ++ done)) x))
      (books_after (books_after no_books (seen_in p limit (base ++ done))) (seen_of (commands (reached p limit (base ++ done))) (deeds_by (reached p limit (base ++ done)) x)))
      → Has tag H (command_at (commands (reached p limit (base ++ (done ++ x ∷ [])))) tag) (page_in p limit (base ++ (done ++ x ∷ [])) tag)
  left_by done x H now =
      let calls : List Call = base ++ done in
      let d : DiskState = reached p limit calls in
      let b : Books = books_after no_books (seen_in p limit calls) in
      let line : commands (reached p limit (calls ++ x ∷ [])) ≡ after_deeds (commands d) (deeds_by d x) =
      ap (λ (y : DiskState). commands y) (one_call_more p limit calls x) ∙ line_by d x in
      let books : books_after no_books (seen_in p limit (calls ++ x ∷ [])) ≡ books_after b (seen_of (commands d) (deeds_by d x)) =
      ap (λ xs. books_after no_books xs) (shown_both (new_disk p limit) calls (x ∷ [])) ∙ books_both (seen_in p limit calls) (shown_from d (x ∷ [])) no_books
      ∙ ap (λ (ss : List Step). books_after b (seen_of (commands d) (all_deeds d.engine.schedule (all_moves d.engine ss)))) (one_call d x) in
      subst (λ (l : List Call). Has tag H (command_at (commands (reached p limit l)) tag) (page_in p limit l tag)) (append_assoc base done (x ∷ []))
      (subst (λ (l : Line). Has tag H (command_at l tag) (page_in p limit (calls ++ x ∷ []) tag)) (sym line)
      (subst (λ (y : Books). Has tag H (command_at (after_deeds (commands d) (deeds_by d x)) tag) (at_page y.pages tag)) (sym books) now))

  call_case : (done : List Call) (x : Call) → AreCalls (new_disk p limit) (base ++ done) → ends_with tag x ≡ 0 → AllCame done
      → CallSteps x (steps_of (reached p limit (base ++ done)) x) → AllCame (done ++ x ∷ [])
  call_case done x are none was (Quiet quiet) =
      let d : DiskState = reached p limit (base ++ done) in
      let b : Books = books_after no_books (seen_in p limit (base ++ done)) in
      left_by done x (EachCame (done ++ x ∷ []))
      (deeds_has tag (EachCame (done ++ x ∷ [])) (none_came (done ++ x ∷ [])) (deeds_by d x) (commands d) b
      (moves_deeds (all_moves d.engine (steps_of d x)) d.engine.schedule (steps_moves (steps_of d x) d.engine quiet))
      (λ g page is. later_came done x none page.ledger.came (was g page is)))
  call_case done x are none was (Brings fis frame place is type viewed steps) =
      let d : DiskState = reached p limit (base ++ done) in
      let b : Books = books_after no_books (seen_in p limit (base ++ done)) in
      let now : AtLine tag (EachCame (done ++ x ∷ [])) (after_deed (commands d) (deed.Hears place (drop 4 fis)))
      (entered_by b (seen (commands d).queue (act_of (deed.Hears place (drop 4 fis))))) =
      hears_has tag (EachCame done) (EachCame (done ++ x ∷ [])) (λ came each. later_came done x none came each) (drop 4 fis) (commands d) b place (good_at done are).stands.agree was
      (λ awaits page it each.
      subst (λ (y : Call). EachCame (done ++ y ∷ []) (page.ledger.came ++ drop 4 fis)) (sym is)
      (more_came done fis frame viewed awaits page it (subst (λ (y : Call). EachCame (done ++ y ∷ []) page.ledger.came) is (later_came done x none page.ledger.came each)))) in
      let Then : List Deed → Type 0 = λ ds. AtLine tag (EachCame (done ++ x ∷ [])) (after_deeds (commands d) ds) (books_after b (seen_of (commands d) ds)) in
      left_by done x (EachCame (done ++ x ∷ []))
      (subst (λ (ss : List Step). Then (all_deeds d.engine.schedule (all_moves d.engine ss))) (sym steps)
      (subst Then (sym (one_hears d.engine place (drop 4 fis))) (one_deed tag (EachCame (done ++ x ∷ [])) (commands d) b (deed.Hears place (drop 4 fis)) now)))

  not_going : (o : Option Moment) → is_under_way o ≡ false → IsGoing o → ⊥
  not_going None none g = g
  not_going (Some m) none g = false≢true (sym none ∙ going_on m.stage g)

  ends_case : Laws → tag < 32 → (done : List Call) (tags : ℕ) → AreCalls (new_disk p limit) (base ++ (done ++ Sends (out.Ends tags) ∷ [])) → AreCalls (new_disk p limit) (base ++ done)
      → AllCame done → (b : Bool) → has_bit tags tag ≡ b → AllCame (done ++ Sends (out.Ends tags) ∷ [])
  ends_case laws low done tags all are was true bit =
      let x : Call = Sends (out.Ends tags) in
      let same = append_assoc base done (x ∷ []) in
      let it = ends_it laws p limit (base ++ done) tags tag low (subst (AreCalls (new_disk p limit)) (sym same) all) bit in
      let over : is_taken (commands (reached p limit (base ++ (done ++ x ∷ [])))) tag ≡ false = ap (λ (l : List Call). is_taken (commands (reached p limit l)) tag) (sym same) ∙ it.over in
      λ g page is. absurd (not_going (command_at (commands (reached p limit (base ++ (done ++ x ∷ [])))) tag) over g)
  ends_case laws low done tags all are was false bit =
      call_case done (Sends (out.Ends tags)) are (ap once_if bit) was (call_kind (reached p limit (base ++ done)) (Sends (out.Ends tags)))

  step : Laws → tag < 32 → (done : List Call) (x : Call) → AreCalls (new_disk p limit) (base ++ (done ++ x ∷ [])) → AreCalls (new_disk p limit) (base ++ done) → AllCame done
      → AllCame (done ++ x ∷ [])
  step laws low done (Sends (out.Ends tags)) all are was = ends_case laws low done tags all are was (has_bit tags tag) refl
  step laws low done (Sends (out.Own r)) all are was = call_case done (Sends (out.Own r)) are refl was (call_kind (reached p limit (base ++ done)) (Sends (out.Own r)))
  step laws low done (Sends (out.Page g)) all are was = call_case done (Sends (out.Page g)) are refl was (call_kind (reached p limit (base ++ done)) (Sends (out.Page g)))
  step laws low done (Sends (out.Beside r)) all are was = call_case done (Sends (out.Beside r)) are refl was (call_kind (reached p limit (base ++ done)) (Sends (out.Beside r)))
  step laws low done (Sends (out.Of n r)) all are was = call_case done (Sends (out.Of n r)) are refl was (call_kind (reached p limit (base ++ done)) (Sends (out.Of n r)))
  step laws low done (Sends (out.Data n k)) all are was = call_case done (Sends (out.Data n k)) are refl was (call_kind (reached p limit (base ++ done)) (Sends (out.Data n k)))
  step laws low done (Hears bytes) all are was = call_case done (Hears bytes) are refl was (call_kind (reached p limit (base ++ done)) (Hears bytes))
  step laws low done Plugs all are was = call_case done Plugs are refl was (call_kind (reached p limit (base ++ done)) Plugs)
  step laws low done (Starts x) all are was = call_case done (Starts x) are refl was (call_kind (reached p limit (base ++ done)) (Starts x))
  step laws low done (Asks r) all are was = call_case done (Asks r) are refl was (call_kind (reached p limit (base ++ done)) (Asks r))
  step laws low done (Answers n a) all are was = call_case done (Answers n a) are refl was (call_kind (reached p limit (base ++ done)) (Answers n a))

  first_part : (xs ys : List Call) → AreCalls (new_disk p limit) (base ++ (xs ++ ys)) → AreCalls (new_disk p limit) (base ++ xs)
  first_part xs ys are = first_calls (base ++ xs) ys (new_disk p limit) (subst (AreCalls (new_disk p limit)) (sym (append_assoc base xs ys)) are)

  walk : Laws → tag < 32 → (later done : List Call) → AreCalls (new_disk p limit) (base ++ (done ++ later)) → AllCame done → AllCame (done ++ later)
  walk laws low [] done are was = subst AllCame (sym (append-nil done)) was
  walk laws low (x ∷ later) done are was =
      let same : (done ++ x ∷ []) ++ later ≡ done ++ x ∷ later = append_assoc done (x ∷ []) later in
      let all : AreCalls (new_disk p limit) (base ++ ((done ++ x ∷ []) ++ later)) = subst (λ (l : List Call). AreCalls (new_disk p limit) (base ++ l)) (sym same) are in
      subst AllCame same (walk laws low later (done ++ x ∷ []) all (step laws low done x (first_part (done ++ x ∷ []) later all) (first_part done (x ∷ later) are) was))

  -- behind calls by which the tag is free
  pub came_parts : Laws → tag < 32 → (done : List Call) → AreCalls (new_disk p limit) (base ++ done) → is_taken (commands (reached p limit base)) tag ≡ false → AllCame done
  came_parts laws low done are free =
      walk laws low done [] are
      (λ g page is. absurd (not_going (command_at (commands (reached p limit (base ++ []))) tag)
      (ap (λ (l : List Call). is_taken (commands (reached p limit l)) tag) (append-nil base) ∙ free) g))
