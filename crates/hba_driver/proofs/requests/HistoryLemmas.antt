-- For `turns_keep`. What holds over every list of turns of the host.
use Rattle.std.proofs.Common.{◌≡◌, ◌≢◌, ℕ, ◌+◌, ◌<◌, ◌≤◌, ◌⊎◌, Bool, true, false, ◌&&◌, List, [], ◌∷◌, ◌++◌, length, set, refl, sym, ◌∙◌, ap, subst}
use Rattle.std.proofs.{Common.{inl, inr, arith, Option, Some, None}, lemmas.Bool.{cases_Bool, cases_eq, false≢true, or_parts, true≢false}}
use Rattle.std.proofs.lemmas.{Bool.Decides.nat_tests, List.get_or-set_other}
use Rattle.std.specs.{Prelude.{◌==◌, ◌||◌, not, is_none, unwrap_or}, List.{list_any, range_with_len}, Option.option_map}
use Rattle.slots.specs.Slots.{match_some}
use Rattle.slots.proofs.Door.{lowest_is}
use Rattle.hba_driver.specs.declared.request.{Completion.Completion, Outcome.{Outcome, TheVariants.{Done, DeviceError, Aborted}}, Request.Request}
use Rattle.hba_driver.specs.{Seeing.Sight, declared.{slot.{Head.Head, Phase.{Phase, TheVariants.{Waits, Issued, Aside, Ended}}}, turn.Act.Act}}
use Rattle.hba_driver.specs.{declared.path.TaskFile.TaskFile, Drivers.{AreRequests, Driver, Entry, entry_at, holds, is_issued_in, rephased, waits}}
use Rattle.hba_driver.specs.{Drivers.waits_in, HostTurns.{Does, DoesAll, Host, HostTurn, Took, Pushed, Ticked, Submitted, Polled, Put, given_in}}
use Rattle.hba_driver.specs.{HostTurns.{issued_by_act, issued_in_tick, issued_over, polled_in, sight_in, ticket_of}, Laws.{AreOnce, EachRunKeeps}}
use Rattle.hba_driver.specs.{Laws.{Goes, GoesOn, Kept, Keeps, Lives, ends_as, gives, is_outcome}, Requests.{is_free, lowest_free}, Submits.after_poll}
use Rattle.hba_driver.specs.Submits.{after_submit, completed, completion_at, completion_of, lowest_ended, new_entry, next_slot, submit_refusal}
use Rattle.hba_driver.specs.{Sights.file_shown, Ticks.{acted, after_tick, done_ended, entries_after, is_done, seen, turn}, Between.LivesOn}
use Rattle.hba_driver.specs.Between.{PollFacts}
use Rattle.hba_driver.specs.declared.turn.Act.TheVariants as act
use Rattle.host_memory.specs.Memory.{Memory}
use Rattle.hba_driver.proofs.ticks.LifeLemmas.{May, given_tick, goes_same, keeps_seen, keeps_tick, may_turn, on_then, slots_tick, waits_if_may}
use Rattle.hba_driver.proofs.calls.RequestLemmas.{requests_freed, requests_from, requests_logged, requests_rephased, requests_taken, set_cases}
use Rattle.hba_driver.proofs.calls.SubmitLemmas.{is_taken, no_conflict}

abbrev none_entry : Option Entry
none_entry = None

none_some : (e : Entry) → none_entry ≡ Some e → ⊥
none_some e h = cc

-- ---- what is polled

completed_facts : (n : ℕ) (head : Head) (p : Phase) (c : Completion) → completed n head p ≡ Some c → (c.ticket.0 ≡ head.ticket) × (c.slot ≡ n) × (p ≡ Ended c.outcome)
completed_facts n head (Ended o) c h =
    let done : Completion = record { ticket = record { 0 = head.ticket }; slot = n; outcome = o } in
    let is : done ≡ c = cc in
    (ap (λ (x : Completion). x.ticket.0) (sym is), ap (λ (x : Completion). x.slot) (sym is), ap (λ (x : Completion). Ended x.outcome) is)
completed_facts n head other c h = cc

poll_at : (d : Driver) (c : Completion) (n : ℕ) (x : Option Entry) → lowest_ended d.entries ≡ Some n → entry_at d.entries n ≡ x → completion_at n x ≡ Some c → PollFacts d c
poll_at d c n None low is h = cc
poll_at d c n (Some e) low is h =
    let facts = completed_facts n e.head e.head.phase c h in
    record { place = n; entry = e; lowest = low; there = is; ticket = facts.0; slot_is = facts.1; ended = facts.2 }

poll_lowest : (d : Driver) (c : Completion) (o : Option ℕ) → lowest_ended d.entries ≡ o → match_some o None (λ slot. completion_at slot (entry_at d.entries slot)) ≡ Some c → PollFacts d c
poll_lowest d c None low h = cc
poll_lowest d c (Some n) low h = poll_at d c n (entry_at d.entries n) low refl h

pub poll_facts : (d : Driver) (c : Completion) → completion_of d ≡ Some c → PollFacts d c
unfolding completion_of
poll_facts d c h = poll_lowest d c (lowest_ended d.entries) refl h

-- what it leaves
pub freed : (d : Driver) (c : Completion) (f : PollFacts d c) → after_poll d ≡ record d { entries = set d.entries f.place None }
unfolding after_poll
freed d c f = ap (λ (o : Option ℕ). match_some o d (λ slot. let x : Driver = record d { entries = set d.entries slot None } in x)) f.lowest

-- ---- where a request comes from

-- it was there before, or was just taken
abbrev ComesOf : Driver → (s : ℕ) → Entry → Type 0
ComesOf old s f = ((e : Entry) × (entry_at old.entries s ≡ Some e) × GoesOn e f) ⊎ (f.head.ticket ≡ old.given + 1)

on_same : (e : Entry) → GoesOn e e
on_same e = record { same = refl; goes = goes_same e.head.phase }

pub some_same : (e f : Entry) → Some e ≡ Some f → e ≡ f
some_same e f h = cc

pub back_of : (o n : Option Entry) → Keeps o n → (f : Entry) → n ≡ Some f → (e : Entry) × (o ≡ Some e) × GoesOn e f
back_of None n h f is = absurd (none_some f (sym h ∙ is))
back_of (Some e) n h f is = (e, refl, subst (λ (x : Entry). GoesOn e x) (some_same h.entry f (sym h.is ∙ is)) h.on)

comes_same : (old new : Driver) → new ≡ old → (s : ℕ) (f : Entry) → entry_at new.entries s ≡ Some f → ComesOf old s f
comes_same old new is s f here = inl (f, ap (λ (d : Driver). entry_at d.entries s) (sym is) ∙ here, on_same f)

comes_tick : (v : Sight) (file : TaskFile) (old new : Driver) → new ≡ after_tick v file old → (s : ℕ) (f : Entry) → entry_at new.entries s ≡ Some f → ComesOf old s f
comes_tick v file old new is s f here =
    inl (back_of (entry_at old.entries s) (entry_at (after_tick v file old).entries s) (keeps_tick v file old s) f (ap (λ (d : Driver). entry_at d.entries s) (sym is) ∙ here))

comes_submit : (dev : ℕ) (request : Request) (old new : Driver) → new ≡ after_submit old dev request → (s : ℕ) (f : Entry) → entry_at new.entries s ≡ Some f → ComesOf old s f
comes_submit dev request old new is s f here =
    let there : entry_at (set old.entries (next_slot old) (Some (new_entry (old.given + 1) dev request))) s ≡ Some f = ap (λ (d : Driver). entry_at d.entries s) (sym is) ∙ here in
    elim (set_cases old.entries (next_slot old) (Some (new_entry (old.given + 1) dev request)) s f there) [
      | inl at ↦ inr (ap (λ (x : Entry). x.head.ticket) (sym (some_same (new_entry (old.given + 1) dev request) f at.1)))
      | inr beside ↦ inl (f, beside.1, on_same f)
    ]

comes_poll : (c : Completion) (old new : Driver) → completion_of old ≡ Some c → new ≡ after_poll old → (s : ℕ) (f : Entry) → entry_at new.entries s ≡ Some f → ComesOf old s f
comes_poll c old new polled is s f here =
    let facts = poll_facts old c polled in
    let there : entry_at (set old.entries facts.place None) s ≡ Some f = ap (λ (d : Driver). entry_at d.entries s) (sym (is ∙ freed old c facts)) ∙ here in
    elim (set_cases old.entries facts.place None s f there) [
      | inl at ↦ absurd (none_some f at.1)
      | inr beside ↦ inl (f, beside.1, on_same f)
    ]

comes_turn : (old : Host) (t : HostTurn) (new : Host) → Does old t new → (s : ℕ) (f : Entry) → entry_at new.driver.entries s ≡ Some f → ComesOf old.driver s f
comes_turn old (Ticked a) new h = comes_tick (sight_in old) _ old.driver new.driver h.driver
comes_turn old (Submitted dev request ticket) new h = comes_submit dev request old.driver new.driver h.taken.driver
comes_turn old (Polled c) new h = comes_poll c old.driver new.driver h.polled h.driver
comes_turn old other new h = comes_same old.driver new.driver h.driver

-- ---- tickets are given one after another

given_least : (old : Host) (t : HostTurn) (new : Host) → Does old t new → old.driver.given ≤ new.driver.given
given_least old (Ticked a) new h = omega (arith, ap (λ (d : Driver). d.given) h.driver, given_tick (sight_in old) (file_shown new.port) old.driver)
given_least old (Submitted dev request ticket) new h = omega (arith, ap (λ (d : Driver). d.given) h.taken.driver)
given_least old (Polled c) new h = let facts = poll_facts old.driver c h.polled in omega (arith, ap (λ (d : Driver). d.given) (h.driver ∙ freed old.driver c facts))
given_least old other new h = omega (arith, ap (λ (d : Driver). d.given) h.driver)

record GivenIn (old new : Driver) (tickets : List ℕ) : Type 0 where
  pub given : tickets ≡ range_with_len (old.given + 1) (length tickets)
  pub last : new.given ≡ old.given + length tickets

given_on : (old mid new : Driver) (tickets : List ℕ) → mid.given ≡ old.given → GivenIn mid new tickets → GivenIn old new tickets
given_on old mid new tickets same h = record {
  given = h.given ∙ ap (λ (n : ℕ). range_with_len (n + 1) (length tickets)) same;
  last = h.last ∙ ap (λ (n : ℕ). n + length tickets) same;
}

given_more : (old mid new : Driver) (ticket : ℕ) (tickets : List ℕ) → ticket ≡ old.given + 1 → mid.given ≡ old.given + 1 → GivenIn mid new tickets → GivenIn old new (ticket ∷ tickets)
given_more old mid new ticket tickets first next h = record {
  given = ap (λ (n : ℕ). n ∷ tickets) first ∙ ap (λ (l : List ℕ). (old.given + 1) ∷ l) (h.given ∙ ap (λ (n : ℕ). range_with_len (n + 1) (length tickets)) next);
  last = omega (arith, h.last, next);
}

given_over : (turns : List HostTurn) (old new : Host) → DoesAll old turns new → GivenIn old.driver new.driver (given_in turns)
given_over [] old new run = record { given = refl; last = ap (λ (h : Host). h.driver.given) run ∙ omega arith }
given_over (Ticked a ∷ turns) old new run = given_on old.driver run.0.driver new.driver _ (ap (λ (d : Driver). d.given) run.1.driver ∙ given_tick (sight_in old) (file_shown run.0.port) old.driver) (given_over turns run.0 new run.2)
given_over (Submitted dev request ticket ∷ turns) old new run = given_more old.driver run.0.driver new.driver ticket _ run.1.taken.next (ap (λ (d : Driver). d.given) run.1.taken.driver) (given_over turns run.0 new run.2)
given_over (Polled c ∷ turns) old new run = given_on old.driver run.0.driver new.driver _ (ap (λ (d : Driver). d.given) (run.1.driver ∙ freed old.driver c (poll_facts old.driver c run.1.polled))) (given_over turns run.0 new run.2)
given_over (other ∷ turns) old new run =
    given_on old.driver run.0.driver new.driver _ (ap (λ (d : Driver). d.given) run.1.driver) (given_over turns run.0 new run.2)

-- ---- requests stay sound

same_requests : (old new : Driver) → new ≡ old → AreRequests old.given old.entries → AreRequests new.given new.entries
same_requests old new is h = subst (λ (d : Driver). AreRequests d.given d.entries) (sym is) h

tick_requests : (v : Sight) (file : TaskFile) (d : Driver) → AreRequests d.given d.entries → AreRequests (after_tick v file d).given (after_tick v file d).entries
tick_requests v file d h =
    subst (λ (n : ℕ). AreRequests n (after_tick v file d).entries) (sym (given_tick v file d))
    (requests_from d.given d.entries (after_tick v file d).entries h (slots_tick v file d) (λ s f here.
    let b = back_of (entry_at d.entries s) (entry_at (after_tick v file d).entries s) (keeps_tick v file d s) f here in
    record {
      entry = b.0;
      was = b.1;
      ticket = ap (λ (x : Entry). x.head.ticket) b.2.same;
      work = ap (λ (x : Entry). x.head.work) b.2.same;
      prds = ap (λ (x : Entry). x.prds) b.2.same;
    }))

submit_requests : (d : Driver) (memory : Memory) (dev : ℕ) (request : Request) → submit_refusal d memory dev request ≡ None → AreRequests d.given d.entries
    → AreRequests (after_submit d dev request).given (after_submit d dev request).entries
submit_requests d memory dev request none h =
    requests_taken d.given d.entries (next_slot d) (Some (new_entry (d.given + 1) dev request)) (new_entry (d.given + 1) dev request) h refl refl
    (no_conflict d memory request (is_taken d memory dev request none))

poll_requests : (d : Driver) (c : Completion) → completion_of d ≡ Some c → AreRequests d.given d.entries → AreRequests (after_poll d).given (after_poll d).entries
poll_requests d c polled h =
    let facts = poll_facts d c polled in
    subst (λ (e : Driver). AreRequests e.given e.entries) (sym (freed d c facts)) (requests_freed d.given d.entries facts.place None h refl)

pub requests_turn : (old : Host) (t : HostTurn) (new : Host) → Does old t new → AreRequests old.driver.given old.driver.entries → AreRequests new.driver.given new.driver.entries
requests_turn old (Ticked a) new h r = same_requests (after_tick (sight_in old) (file_shown new.port) old.driver) new.driver h.driver (tick_requests (sight_in old) (file_shown new.port) old.driver r)
requests_turn old (Submitted dev request ticket) new h r = same_requests (after_submit old.driver dev request) new.driver h.taken.driver (submit_requests old.driver old.memory dev request h.accepted r)
requests_turn old (Polled c) new h r = same_requests (after_poll old.driver) new.driver h.driver (poll_requests old.driver c h.polled r)
requests_turn old other new h r = same_requests old.driver new.driver h.driver r

requests_over : (turns : List HostTurn) (old new : Host) → DoesAll old turns new → AreRequests old.driver.given old.driver.entries → AreRequests new.driver.given new.driver.entries
requests_over [] old new run r = subst (λ (h : Host). AreRequests h.driver.given h.driver.entries) (sym run) r
requests_over (t ∷ turns) old new run r = requests_over turns run.0 new run.2 (requests_turn old t run.0 run.1 r)

-- ---- what stays true of a ticket that was given

-- each request with this ticket passes the test
record Stands (test : Phase → Bool) (ticket : ℕ) (d : Driver) : Type 0 where
  pub old : ticket ≤ d.given
  pub far : (s : ℕ) (e : Entry) → entry_at d.entries s ≡ Some e → e.head.ticket ≡ ticket → test e.head.phase ≡ true

abbrev Stable : (Phase → Bool) → Type 0
Stable test = (p q : Phase) → Goes p q → test p ≡ true → test q ≡ true

-- there is no such request any more
abbrev gone : Phase → Bool
gone p = false

-- it does not wait
abbrev past : Phase → Bool
past p = not (waits_in p)

gone_stays : Stable gone
gone_stays p q h k = k

past_stays : Stable past
past_stays Waits q h k = absurd (false≢true k)
past_stays Aside q h k = rw (or_parts (waits_in q) (is_issued_in q) h).0 refl
past_stays other q h k = rw h refl

stands_turn : (test : Phase → Bool) → Stable test → (ticket : ℕ) (old : Host) (t : HostTurn) (new : Host) → Does old t new → Stands test ticket old.driver → Stands test ticket new.driver
stands_turn test stable ticket old t new h stands = record {
  old = omega (arith, given_least old t new h, stands.old);
  far = λ s f here same. elim (comes_turn old t new h s f here) [
    | inl from ↦
        let ticket_is : from.0.head.ticket ≡ ticket = sym (ap (λ (x : Entry). x.head.ticket) from.2.same) ∙ same in
        stable from.0.head.phase f.head.phase from.2.goes (stands.far s from.0 from.1 ticket_is)
    | inr fresh ↦ absurd (omega (arith, fresh, same, stands.old))
  ];
}

not_equal : (x y : ℕ) → x ≢ y → (x == y) ≡ false
not_equal x y h = grind (arith, nat_tests)

-- ---- polled once

polled_gone : (d : Driver) (c : Completion) → completion_of d ≡ Some c → AreRequests d.given d.entries → Stands gone c.ticket.0 (after_poll d)
polled_gone d c polled r =
    let facts = poll_facts d c polled in
    subst (λ (e : Driver). Stands gone c.ticket.0 e) (sym (freed d c facts)) (record {
      old = omega (arith, facts.ticket, r.given facts.place facts.entry facts.there);
      far = λ s f here same. elim (set_cases d.entries facts.place None s f here) [
        | inl at ↦ absurd (none_some f at.1)
        | inr beside ↦ absurd (beside.0 (r.own s facts.place f facts.entry beside.1 facts.there (same ∙ facts.ticket)))
      ];
    })

gone_unpolled : (d : Driver) (c : Completion) (ticket : ℕ) → completion_of d ≡ Some c → Stands gone ticket d → (c.ticket.0 == ticket) ≡ false
gone_unpolled d c ticket polled stands =
    let facts = poll_facts d c polled in
    not_equal c.ticket.0 ticket (λ same. false≢true (stands.far facts.place facts.entry facts.there (sym facts.ticket ∙ same)))

none_polled : (turns : List HostTurn) (old new : Host) → DoesAll old turns new → (ticket : ℕ) → Stands gone ticket old.driver → list_any (λ y. y == ticket) (polled_in turns) ≡ false
none_polled [] old new run ticket h = refl
none_polled (Polled c ∷ turns) old new run ticket h =
    ap (λ (b : Bool). b || list_any (λ y. y == ticket) (polled_in turns)) (gone_unpolled old.driver c ticket run.1.polled h)
    ∙ none_polled turns run.0 new run.2 ticket (stands_turn gone gone_stays ticket old (Polled c) run.0 run.1 h)
none_polled (other ∷ turns) old new run ticket h = none_polled turns run.0 new run.2 ticket (stands_turn gone gone_stays ticket old other run.0 run.1 h)

polled_once : (turns : List HostTurn) (old new : Host) → DoesAll old turns new → AreRequests old.driver.given old.driver.entries → AreOnce (polled_in turns)
polled_once [] old new run r = tt
polled_once (Polled c ∷ turns) old new run r =
    let after : Stands gone c.ticket.0 run.0.driver = subst (λ (d : Driver). Stands gone c.ticket.0 d) (sym run.1.driver) (polled_gone old.driver c run.1.polled r) in
    (none_polled turns run.0 new run.2 c.ticket.0 after, polled_once turns run.0 new run.2 (requests_turn old (Polled c) run.0 run.1 r))
polled_once (other ∷ turns) old new run r = polled_once turns run.0 new run.2 (requests_turn old other run.0 run.1 r)

-- ---- the life of a request

kept_still : (e : Entry) (o : Option Entry) → o ≡ Some e → Kept e o
kept_still e o is = record { entry = e; is = is; on = on_same e }

lives_same : (old new : Driver) → new ≡ old → (s : ℕ) (e : Entry) → entry_at old.entries s ≡ Some e → Kept e (entry_at new.entries s)
lives_same old new is s e here = kept_still e (entry_at new.entries s) (ap (λ (d : Driver). entry_at d.entries s) is ∙ here)

lives_tick : (v : Sight) (file : TaskFile) (old new : Driver) → new ≡ after_tick v file old → (s : ℕ) (e : Entry) → entry_at old.entries s ≡ Some e → Kept e (entry_at new.entries s)
lives_tick v file old new is s e here =
    let kept : Kept e (entry_at (after_tick v file old).entries s) = subst (λ (o : Option Entry). Keeps o (entry_at (after_tick v file old).entries s)) here (keeps_tick v file old s) in
    subst (λ (d : Driver). Kept e (entry_at d.entries s)) (sym is) kept

some_place : (o : Option ℕ) → is_none o ≡ false → o ≡ Some (unwrap_or o 30)
some_place None h = absurd (true≢false h)
some_place (Some n) h = refl

free_place : (d : Driver) → is_none (lowest_free d.entries) ≡ false → is_free (entry_at d.entries (next_slot d)) ≡ true
unfolding lowest_free
free_place d h = (lowest_is (λ slot. is_free (entry_at d.entries slot)) 30 (next_slot d) (some_place (lowest_free d.entries) h)).passes

lives_submit : (d new : Driver) (memory : Memory) (dev : ℕ) (request : Request) → submit_refusal d memory dev request ≡ None → new ≡ after_submit d dev request → (s : ℕ) (e : Entry) → entry_at d.entries s ≡ Some e
    → Kept e (entry_at new.entries s)
lives_submit d new memory dev request none is s e here =
    let free : is_free (entry_at d.entries (next_slot d)) ≡ true = free_place d (is_taken d memory dev request none).room in
    let other : s ≢ next_slot d = λ same. false≢true (sym (ap is_free (subst (λ (k : ℕ). entry_at d.entries k ≡ Some e) same here)) ∙ free) in
    let there : entry_at (after_submit d dev request).entries s ≡ Some e = get_or-set_other d.entries (next_slot d) s _ None other ∙ here in
    kept_still e (entry_at new.entries s) (ap (λ (x : Driver). entry_at x.entries s) is ∙ there)

equal_is : (x y : ℕ) → x ≡ y → (x == y) ≡ true
equal_is x y h = grind (arith, nat_tests)

own_outcome : (o : Outcome) → is_outcome o o ≡ true
own_outcome (DeviceError status error) = both_own (status == status) (error == error) (equal_is status status refl) (equal_is error error refl)
  where
    both_own : (a b : Bool) → a ≡ true → b ≡ true → (a && b) ≡ true
    both_own true b h k = k
    both_own false b h k = absurd (false≢true h)
own_outcome other = refl

all_three : (a b c : Bool) → a ≡ true → b ≡ true → c ≡ true → (a && b && c) ≡ true
all_three true true c h k l = l
all_three true false c h k l = absurd (false≢true k)
all_three false b c h k l = absurd (false≢true h)

three_parts : (a b c : Bool) → (a && b && c) ≡ true → (a ≡ true) × (b ≡ true) × (c ≡ true)
three_parts true true c h = (refl, refl, h)
three_parts true false c h = absurd (false≢true h)
three_parts false b c h = absurd (false≢true h)

lives_poll : (d new : Driver) (c : Completion) → completion_of d ≡ Some c → new ≡ after_poll d → (s : ℕ) (e : Entry) → entry_at d.entries s ≡ Some e
    → Kept e (entry_at new.entries s) ⊎ (gives s e (Polled c) ≡ true)
lives_poll d new c polled is s e here =
    let facts = poll_facts d c polled in
    elim (cases_eq s facts.place) [
      | inl same ↦
          let entry : facts.entry ≡ e = some_same facts.entry e (sym facts.there ∙ subst (λ (k : ℕ). entry_at d.entries k ≡ Some e) same here) in
          let ticket : (c.ticket.0 == e.head.ticket) ≡ true = equal_is c.ticket.0 e.head.ticket (facts.ticket ∙ ap (λ (x : Entry). x.head.ticket) entry) in
          let place : (c.slot == s) ≡ true = equal_is c.slot s (facts.slot_is ∙ sym same) in
          let phase : e.head.phase ≡ Ended c.outcome = ap (λ (x : Entry). x.head.phase) (sym entry) ∙ facts.ended in
          let outcome : ends_as e.head.phase c.outcome ≡ true = ap (λ (p : Phase). ends_as p c.outcome) phase ∙ own_outcome c.outcome in
          inr (all_three (c.ticket.0 == e.head.ticket) (c.slot == s) (ends_as e.head.phase c.outcome) ticket place outcome)
      | inr other ↦
          let there : entry_at (after_poll d).entries s ≡ Some e = ap (λ (x : Driver). entry_at x.entries s) (freed d c facts) ∙ get_or-set_other d.entries facts.place s None None other ∙ here in
          inl (kept_still e (entry_at new.entries s) (ap (λ (x : Driver). entry_at x.entries s) is ∙ there))
    ]

pub lives_turn : (old : Host) (t : HostTurn) (new : Host) → Does old t new → (s : ℕ) (e : Entry) → entry_at old.driver.entries s ≡ Some e → LivesOn s e t new
lives_turn old (Ticked a) new h s e here = inl (lives_tick (sight_in old) _ old.driver new.driver h.driver s e here)
lives_turn old (Submitted dev request ticket) new h s e here = inl (lives_submit old.driver new.driver old.memory dev request h.accepted h.taken.driver s e here)
lives_turn old (Polled c) new h s e here = lives_poll old.driver new.driver c h.polled h.driver s e here
lives_turn old other new h s e here = inl (lives_same old.driver new.driver h.driver s e here)

ends_back : (p q : Phase) (o : Outcome) → Goes p q → ends_as q o ≡ true → ends_as p o ≡ true
ends_back (Ended x) q o h k = sym (ap (λ (r : Phase). ends_as r o) h) ∙ k
ends_back other q o h k = refl

-- what gives a request later gives it now
gives_back : (s : ℕ) (e f : Entry) → GoesOn e f → (t : HostTurn) → gives s f t ≡ true → gives s e t ≡ true
gives_back s e f on (Polled c) h =
    let parts = three_parts (c.ticket.0 == f.head.ticket) (c.slot == s) (ends_as f.head.phase c.outcome) h in
    let ticket : (c.ticket.0 == e.head.ticket) ≡ true = sym (ap (λ (x : Entry). c.ticket.0 == x.head.ticket) on.same) ∙ parts.0 in
    all_three (c.ticket.0 == e.head.ticket) (c.slot == s) (ends_as e.head.phase c.outcome) ticket parts.1 (ends_back e.head.phase f.head.phase c.outcome on.goes parts.2)
gives_back s e f on other h = h

or_right : (a b : Bool) → b ≡ true → (a || b) ≡ true
or_right true b h = refl
or_right false b h = h

any_back : (s : ℕ) (e f : Entry) → GoesOn e f → (turns : List HostTurn) → list_any (gives s f) turns ≡ true → list_any (gives s e) turns ≡ true
any_back s e f on [] h = h
any_back s e f on (t ∷ turns) h = elim (cases_Bool (gives s f t)) [
  | inl given ↦ ap (λ (b : Bool). b || list_any (gives s e) turns) (gives_back s e f on t given)
  | inr other ↦ or_right (gives s e t) _ (any_back s e f on turns (sym (ap (λ (b : Bool). b || list_any (gives s f) turns) other) ∙ h))
]

pub none_gives : (s : ℕ) (e f : Entry) → GoesOn e f → (turns : List HostTurn) → list_any (gives s e) turns ≡ false → list_any (gives s f) turns ≡ false
none_gives s e f on turns h = elim (cases_Bool (list_any (gives s f) turns)) [
  | inl given ↦ absurd (true≢false (sym (any_back s e f on turns given) ∙ h))
  | inr other ↦ other
]

lives_over : (turns : List HostTurn) (old new : Host) → DoesAll old turns new → (s : ℕ) (e : Entry) → entry_at old.driver.entries s ≡ Some e → Lives s e turns new
lives_over [] old new run s e here = inl (kept_still e (entry_at new.driver.entries s) (ap (λ (h : Host). entry_at h.driver.entries s) run ∙ here))
lives_over (t ∷ turns) old new run s e here = elim (lives_turn old t run.0 run.1 s e here) [
  | inr given ↦ inr (ap (λ (b : Bool). b || list_any (gives s e) turns) given)
  | inl kept ↦ elim (lives_over turns run.0 new run.2 s kept.entry kept.is) [
    | inl more ↦ inl (record { entry = more.entry; is = more.is; on = on_then e kept.entry more.entry kept.on more.on })
    | inr given ↦ inr (or_right (gives s e t) _ (any_back s e kept.entry kept.on turns given))
  ]
]

-- ---- issued once

-- a tick issues only this ticket, which no tick issued before and none will issue again
record Issue (v : Sight) (file : TaskFile) (d : Driver) (tickets : List ℕ) : Type 0 where
  pub ticket : ℕ
  pub is : tickets ≡ ticket ∷ []
  pub before : (t : ℕ) → Stands past t d → (ticket == t) ≡ false
  pub after : Stands past ticket (after_tick v file d)

seen_requests : (v : Sight) (d : Driver) → AreRequests d.given d.entries → AreRequests d.given (seen v d).entries
seen_requests v d r =
    requests_logged d.given v.log (turn v d).logged (done_ended v.issued d.entries) (requests_rephased d.given (is_done v.issued) (Ended Done) d.entries (done_ended v.issued d.entries) r refl)

-- a request that waits when a tick issues it waited before
waited : (v : Sight) (d : Driver) (slot : ℕ) (e : Entry) → entry_at (seen v d).entries slot ≡ Some e → waits e.head ≡ true → (t : ℕ) → Stands past t d → (e.head.ticket == t) ≡ false
waited v d slot e here wait t stands = not_equal e.head.ticket t (λ same.
    let b = back_of (entry_at d.entries slot) (entry_at (seen v d).entries slot) (keeps_seen v d slot) e here in
    let ticket : b.0.head.ticket ≡ t = sym (ap (λ (x : Entry). x.head.ticket) b.2.same) ∙ same in
    let far : past e.head.phase ≡ true = past_stays b.0.head.phase e.head.phase b.2.goes (stands.far slot b.0 b.1 ticket) in
    false≢true (sym (ap not wait) ∙ far))

issued_far : (v : Sight) (file : TaskFile) (d : Driver) (slot dev : ℕ) (queued : Bool) (e : Entry) → AreRequests d.given d.entries → entry_at (seen v d).entries slot ≡ Some e
    → Stands past e.head.ticket (acted (Some (act.Issues slot dev queued)) file (seen v d))
unfolding entries_after
issued_far v file d slot dev queued e r here =
    let sound : AreRequests d.given (seen v d).entries = seen_requests v d r in
    record {
      old = sound.given slot e here;
      far = λ s f there same. elim (set_cases (seen v d).entries slot (option_map (rephased Issued) (entry_at (seen v d).entries slot)) s f there) [
        | inl at ↦
            let is : rephased Issued e ≡ f = some_same (rephased Issued e) f (sym (ap (option_map (rephased Issued)) here) ∙ at.1) in
            subst (λ (x : Entry). past x.head.phase ≡ true) is refl
        | inr beside ↦ absurd (beside.0 (sound.own s slot f e beside.1 here same))
      ];
    }

abbrev AtMostOne : Sight → TaskFile → Driver → List ℕ → Type 0
AtMostOne v file d tickets = (tickets ≡ []) ⊎ Issue v file d tickets

issue_slot : (v : Sight) (file : TaskFile) (d : Driver) (slot dev : ℕ) (queued : Bool) → AreRequests d.given d.entries → (turn v d).act ≡ Some (act.Issues slot dev queued)
    → (x : Option Entry) → entry_at (seen v d).entries slot ≡ x → holds waits x ≡ true → AtMostOne v file d (ticket_of x)
unfolding after_tick
issue_slot v file d slot dev queued r is None here wait = inl refl
issue_slot v file d slot dev queued r is (Some e) here wait = inr (record {
  ticket = e.head.ticket;
  is = refl;
  before = waited v d slot e here wait;
  after = subst (λ (x : Driver). Stands past e.head.ticket x) (sym (ap (λ (a : Option Act). acted a file (seen v d)) is)) (issued_far v file d slot dev queued e r here);
})

issue_act : (v : Sight) (file : TaskFile) (d : Driver) → AreRequests d.given d.entries → (a : Option Act) → (turn v d).act ≡ a → May (turn v d).plan (seen v d).entries a
    → AtMostOne v file d (issued_by_act a (seen v d).entries)
issue_act v file d r (Some (act.Issues slot dev queued)) is may =
    issue_slot v file d slot dev queued r is (entry_at (seen v d).entries slot) refl (waits_if_may (turn v d).plan (entry_at (seen v d).entries slot) may)
issue_act v file d r other is may = inl refl

issue_tick : (v : Sight) (file : TaskFile) (d : Driver) → AreRequests d.given d.entries → AtMostOne v file d (issued_in_tick v d)
issue_tick v file d r = issue_act v file d r (turn v d).act refl (may_turn v d)

stands_next : (ticket : ℕ) (old : Host) (t : HostTurn) (new : Host) → Does old t new → Stands past ticket old.driver → Stands past ticket new.driver
stands_next = stands_turn past past_stays

none_issued : (turns : List HostTurn) (old new : Host) (run : DoesAll old turns new) → AreRequests old.driver.given old.driver.entries → (ticket : ℕ) → Stands past ticket old.driver
    → list_any (λ y. y == ticket) (issued_over old new turns run) ≡ false
none_issued [] old new run r ticket h = refl
none_issued (Ticked a ∷ turns) old new run r ticket h =
    let later : list_any (λ y. y == ticket) (issued_over run.0 new turns run.2) ≡ false =
    none_issued turns run.0 new run.2 (requests_turn old (Ticked a) run.0 run.1 r) ticket (stands_next ticket old (Ticked a) run.0 run.1 h) in
    elim (issue_tick (sight_in old) (file_shown run.0.port) old.driver r) [
      | inl none ↦ subst (λ (l : List ℕ). list_any (λ y. y == ticket) (l ++ issued_over run.0 new turns run.2) ≡ false) (sym none) later
      | inr one ↦
          subst (λ (l : List ℕ). list_any (λ y. y == ticket) (l ++ issued_over run.0 new turns run.2) ≡ false) (sym one.is)
          (ap (λ (b : Bool). b || list_any (λ y. y == ticket) (issued_over run.0 new turns run.2)) (one.before ticket h) ∙ later)
    ]
none_issued (other ∷ turns) old new run r ticket h =
    none_issued turns run.0 new run.2 (requests_turn old other run.0 run.1 r) ticket (stands_next ticket old other run.0 run.1 h)

issued_once : (turns : List HostTurn) (old new : Host) (run : DoesAll old turns new) → AreRequests old.driver.given old.driver.entries → AreOnce (issued_over old new turns run)
issued_once [] old new run r = tt
issued_once (Ticked a ∷ turns) old new run r =
    let next : AreRequests run.0.driver.given run.0.driver.entries = requests_turn old (Ticked a) run.0 run.1 r in
    let later : AreOnce (issued_over run.0 new turns run.2) = issued_once turns run.0 new run.2 next in
    elim (issue_tick (sight_in old) (file_shown run.0.port) old.driver r) [
      | inl none ↦ subst (λ (l : List ℕ). AreOnce (l ++ issued_over run.0 new turns run.2)) (sym none) later
      | inr one ↦
          let far : Stands past one.ticket run.0.driver = subst (λ (d : Driver). Stands past one.ticket d) (sym run.1.driver) one.after in
          subst (λ (l : List ℕ). AreOnce (l ++ issued_over run.0 new turns run.2)) (sym one.is) (none_issued turns run.0 new run.2 next one.ticket far, later)
    ]
issued_once (other ∷ turns) old new run r = issued_once turns run.0 new run.2 (requests_turn old other run.0 run.1 r)

pub each_run_keeps : EachRunKeeps
each_run_keeps old turns new run r =
    let given = given_over turns old new run in
    record {
      sound = requests_over turns old new run r;
      given = given.given;
      last = given.last;
      polled = polled_once turns old new run r;
      issued = issued_once turns old new run r;
      lives = lives_over turns old new run;
    }

-- the slot that a submit takes is one of 30, and has no request
pub free_below : (d : Driver) (memory : Memory) (dev : ℕ) (request : Request) → submit_refusal d memory dev request ≡ None → next_slot d < 30
unfolding lowest_free
free_below d memory dev request none =
    (lowest_is (λ slot. is_free (entry_at d.entries slot)) 30 (next_slot d) (some_place (lowest_free d.entries) (is_taken d memory dev request none).room)).below

pub free_other : (d : Driver) (memory : Memory) (dev : ℕ) (request : Request) → submit_refusal d memory dev request ≡ None → (s : ℕ) (e : Entry) → entry_at d.entries s ≡ Some e → s ≢ next_slot d
free_other d memory dev request none s e here same =
    false≢true (sym (ap is_free (subst (λ (k : ℕ). entry_at d.entries k ≡ Some e) same here)) ∙ free_place d (is_taken d memory dev request none).room)
