-- What one step leaves of a run of the host's worker.
use Rattle.std.proofs.Common.{◌≡◌, ◌<◌, ℕ, false, List, [], ◌∷◌, ◌++◌, length, map, replicate, Some, None, refl, sym, ap, ◌∙◌, subst, append-nil}
use Rattle.std.proofs.{Common.arith, lemmas.{Grind.{flat_map-append}, List.{get_or-replicate, length-replicate, map-append}}}
use Rattle.std.specs.{Prelude.{slice_index_or, slice_set}, List.flat_map, Option.option_to_list}
use Rattle.fis_view.specs.Frames.{Stamped}
use Rattle.host_memory.specs.Memory.{IsHostMemory, Memory}
use Rattle.hba_fbs.specs.declared.report.TakeReport.{TakeReport}
use Rattle.hba_driver.specs.{declared.request.{Completion.Completion, SubmitError.SubmitError, Ticket.Ticket}, Events.put_by, HostTurns.DoesAll}
use Rattle.hba_driver.specs.HostTurns.{Host, HostTurn, Took, Pushed, Ticked, Submitted, Polled, Polls, Pushes, Submits, Ticks, Tooks, given_in}
use Rattle.hba_driver.specs.{HostTurns.polled_in, Submits.submit_refusal}
use Rattle.host_thread.specs.declared.plan.Ended.TheVariants as ended
use Rattle.host_thread.specs.{declared.plan.{Planned.Planned, State.State}, Runs.{HostView, IsNext, IsRun, GoesOn, Same, AreTrue, IsTrue, WasRefused}}
use Rattle.host_thread.specs.Runs.{WasTaken, is_for_now, starting, took_by, pushed_by}
use Rattle.host_thread.specs.declared.plan.State.TheVariants as state
use Rattle.host_thread.proofs.{Ends.{polled_beside, polled_in_place, refused_in, taken_in}, Requests.{IsDue, all_true_more, any_default, due_few}}
use Rattle.host_thread.proofs.{Requests.{next_due, none_given}, Takings.taken_all, Tickets.not_polled}

-- ---- turns, and then turns

pub does_append : (a b c : Host) (first second : List HostTurn) → DoesAll a first b → DoesAll b second c → DoesAll a (first ++ second) c
does_append a b c [] second does more = subst (λ (h : Host). DoesAll h second c) does more
does_append a b c (turn ∷ first) second does more = (does.0, does.1, does_append does.0 b c first second does.2 more)

-- ---- a run goes on

-- with these turns more, by which the lists grew by what they took and gave
pub goes_more : (old new : HostView) (more : List HostTurn) → DoesAll old.host more new.host → flat_map put_by more ≡ []
    → map (λ f. f.bytes) new.frames.taken ≡ map (λ f. f.bytes) old.frames.taken ++ flat_map took_by more
    → new.commands.sent ++ option_to_list new.hand ≡ (old.commands.sent ++ option_to_list old.hand) ++ flat_map pushed_by more
    → new.plan ≡ old.plan
    → ((start : Memory) (turns : List HostTurn) → DoesAll (starting start) turns old.host → AreTrue start turns old.plan old.states
    → AreTrue start (turns ++ more) old.plan new.states)
    → GoesOn old new
goes_more old new more does none taken pushed plan requests start r = record {
  right = r.right;
  puts = flat_map-append put_by r.turns more ∙ ap (λ l. l ++ flat_map put_by more) r.puts ∙ none;
  turns = r.turns ++ more;
  does = does_append (starting start) old.host new.host r.turns more r.does does;
  taken = taken ∙ ap (λ l. l ++ flat_map took_by more) r.taken ∙ sym (flat_map-append took_by r.turns more);
  pushed = pushed ∙ ap (λ l. l ++ flat_map pushed_by more) r.pushed ∙ sym (flat_map-append pushed_by r.turns more);
  requests = subst (λ (p : List Planned). AreTrue start (r.turns ++ more) p new.states) (sym plan) (requests start r.turns r.does r.requests);
}

module _ (old : HostView) where
  bytes_same : map (λ f. f.bytes) old.frames.taken ≡ map (λ f. f.bytes) old.frames.taken ++ []
  bytes_same = sym (append-nil (map (λ f. f.bytes) old.frames.taken))

  sent_same : old.commands.sent ++ option_to_list old.hand ≡ (old.commands.sent ++ option_to_list old.hand) ++ []
  sent_same = sym (append-nil (old.commands.sent ++ option_to_list old.hand))

  keeps : (more : List HostTurn) → given_in more ≡ [] → polled_in more ≡ [] → (start : Memory) (turns : List HostTurn)
      → DoesAll (starting start) turns old.host → AreTrue start turns old.plan old.states → AreTrue start (turns ++ more) old.plan old.states
  keeps more given polled start turns does h = all_true_more start turns more old.plan old.states given polled h

  -- the worker with another host
  abbrev pub with_host : Host → HostView
  with_host host = record { host = host; frames = old.frames; commands = old.commands; hand = old.hand; plan = old.plan; states = old.states }

  abbrev pub with_states : Host → List State → HostView
  with_states host states = record { host = host; frames = old.frames; commands = old.commands; hand = old.hand; plan = old.plan; states = states }

  pub takes : (new : HostView) (frame : Stamped) (report : TakeReport) → Tooks old.host frame.bytes report new.host
      → new.frames.taken ≡ old.frames.taken ++ frame ∷ []
      → new.commands ≡ old.commands → new.hand ≡ old.hand → new.plan ≡ old.plan → new.states ≡ old.states → GoesOn old new
  takes new frame report does taken commands hand plan states =
      goes_more old new (Took frame.bytes report ∷ []) (new.host, does, refl) refl
      (ap (map (λ f. f.bytes)) taken ∙ map-append (λ (f : Stamped). f.bytes) old.frames.taken (frame ∷ []))
      (ap (λ s. s.sent ++ option_to_list new.hand) commands ∙ ap (λ h. old.commands.sent ++ option_to_list h) hand ∙ sent_same) plan
      (λ start turns all h. subst (λ (s : List State). AreTrue start (turns ++ Took frame.bytes report ∷ []) old.plan s) (sym states)
      (keeps (Took frame.bytes report ∷ []) refl refl start turns all h))

  pub ticks : (acted : _) (host : Host) → Ticks old.host acted host → GoesOn old (with_host host)
  ticks acted host does = goes_more old (with_host host) (Ticked acted ∷ []) (host, does, refl) refl bytes_same sent_same refl
      (keeps (Ticked acted ∷ []) refl refl)

  pub asks_none : (host : Host) → Pushes old.host None host → GoesOn old (with_host host)
  asks_none host does = goes_more old (with_host host) (Pushed None ∷ []) (host, does, refl) refl bytes_same sent_same refl (keeps (Pushed None ∷ []) refl refl)

  pub asks_some : (new : HostView) (frame : Stamped) → Pushes old.host (Some frame) new.host → old.hand ≡ None → new.hand ≡ Some frame
      → new.frames ≡ old.frames → new.commands ≡ old.commands → new.plan ≡ old.plan → new.states ≡ old.states → GoesOn old new
  asks_some new frame does empty hand frames commands plan states =
      goes_more old new (Pushed (Some frame) ∷ []) (new.host, does, refl) refl
      (ap (λ s. map (λ f. f.bytes) s.taken) frames ∙ bytes_same)
      (ap (λ s. s.sent ++ option_to_list new.hand) commands ∙ ap (λ h. old.commands.sent ++ option_to_list h) hand
      ∙ ap (λ l. l ++ frame ∷ []) (sym (append-nil old.commands.sent))
      ∙ ap (λ h. (old.commands.sent ++ option_to_list h) ++ frame ∷ []) (sym empty)) plan
      (λ start turns all h. subst (λ (s : List State). AreTrue start (turns ++ Pushed (Some frame) ∷ []) old.plan s) (sym states)
      (keeps (Pushed (Some frame) ∷ []) refl refl start turns all h))

  -- nothing is done, but a FIS moves from the hand onto its link
  pub still : (new : HostView) → new.host ≡ old.host → new.frames ≡ old.frames
      → new.commands.sent ++ option_to_list new.hand ≡ old.commands.sent ++ option_to_list old.hand
      → new.plan ≡ old.plan → new.states ≡ old.states → GoesOn old new
  still new host frames sent plan states start r = record {
    right = r.right;
    puts = r.puts;
    turns = r.turns;
    does = subst (λ (h : Host). DoesAll (starting start) r.turns h) (sym host) r.does;
    taken = ap (λ s. map (λ f. f.bytes) s.taken) frames ∙ r.taken;
    pushed = sent ∙ r.pushed;
    requests = subst (λ (p : List Planned). AreTrue start r.turns p new.states) (sym plan)
        (subst (λ (s : List State). AreTrue start r.turns old.plan s) (sym states) r.requests);
  }

  -- a request is taken, at place i, in its turn
  pub submits : (host : Host) (i : ℕ) (q : Planned) (ticket : Ticket) → IsDue old.plan old.states i (slice_index_or old.plan i q).wait
      → Submits old.host (slice_index_or old.plan i q).dev (slice_index_or old.plan i q).request ticket.0 host
      → GoesOn old (with_states host (slice_set old.states i (state.Submitted ticket)))
  submits host i q ticket due does =
      let there = due.there in
      let all = due.all in
      let less : i < length old.states = omega (arith, there, all) in
      let p : Planned = slice_index_or old.plan i q in
      let turn : HostTurn = Submitted p.dev p.request ticket.0 in
      goes_more old (with_states host (slice_set old.states i (state.Submitted ticket))) (turn ∷ []) (host, does, refl) refl bytes_same sent_same refl
      (λ start turns made h.
      let taken : WasTaken (IsNext start old.plan old.states i p.wait) (turns ++ turn ∷ []) p ticket.0 =
      record { before = turns; rest = []; are = refl; so = next_due start old.plan old.states i p.wait turns due h } in
      taken_in start old.plan old.states i less ticket due.given turns (turn ∷ []) (refl, refl) (due_few old.plan old.states i p.wait due) h
      (not_polled start turns old.host made ticket.0 (omega (arith, does.taken.next)))
      (λ d. subst (λ (o : Planned). WasTaken (IsNext start old.plan old.states i o.wait) (turns ++ turn ∷ []) o ticket.0)
      (any_default old.plan i q d there) taken))

  -- or refused
  pub refuses : (host : Host) (i : ℕ) (q : Planned) (refusal : SubmitError) → IsDue old.plan old.states i (slice_index_or old.plan i q).wait
      → host ≡ old.host
      → submit_refusal old.host.driver old.host.memory (slice_index_or old.plan i q).dev (slice_index_or old.plan i q).request ≡ Some refusal
      → is_for_now refusal ≡ false
      → GoesOn old (with_states host (slice_set old.states i (state.Ended (ended.Refused refusal))))
  refuses host i q refusal due same refused final =
      let there = due.there in
      let all = due.all in
      let less : i < length old.states = omega (arith, there, all) in
      let p : Planned = slice_index_or old.plan i q in
      goes_more old (with_states host (slice_set old.states i (state.Ended (ended.Refused refusal)))) [] same refl bytes_same sent_same refl
      (λ start turns made h.
      let was : WasRefused (IsNext start old.plan old.states i p.wait) start (turns ++ []) p refusal = record {
        before = turns;
        rest = [];
        are = refl;
        host = old.host;
        does = made;
        refused = refused;
        final = final;
        so = next_due start old.plan old.states i p.wait turns due h;
      } in
      refused_in start old.plan old.states i less refusal due.given turns h
      (λ d. subst (λ (o : Planned). WasRefused (IsNext start old.plan old.states i o.wait) start (turns ++ []) o refusal)
      (any_default old.plan i q d there) was))

  -- a request is polled that is not in the plan
  pub polls_other : (host : Host) (completion : Completion) → Polls old.host completion host
      → ((j : ℕ) (s : State) → j < length old.states → slice_index_or old.states j s ≡ state.Submitted completion.ticket → ⊥)
      → GoesOn old (with_host host)
  polls_other host completion does none =
      goes_more old (with_host host) (Polled completion ∷ []) (host, does, refl) refl bytes_same sent_same refl
      (λ start turns made h. polled_beside start old.plan old.states completion none turns h)

  -- one that was taken, at place i
  pub polls : (host : Host) (completion : Completion) (i : ℕ) → i < length old.states → Polls old.host completion host
      → slice_index_or old.states i state.Waits ≡ state.Submitted completion.ticket
      → length old.states ≡ length old.plan
      → GoesOn old (with_states host (slice_set old.states i (state.Ended (ended.Polled completion.outcome))))
  polls host completion i there does is all =
      let now : State = state.Ended (ended.Polled completion.outcome) in
      goes_more old (with_states host (slice_set old.states i now)) (Polled completion ∷ []) (host, does, refl) refl bytes_same sent_same refl
      (λ start turns made h. polled_in_place start old.plan old.states i there completion is all turns old.host made h)

-- ---- a new worker

each_waits : (start : Memory) (plan : List Planned) (count : ℕ) → AreTrue start [] plan (replicate count state.Waits)
each_waits start plan count = record {
  each = λ i p s lt.
      subst (λ (t : State). IsTrue (IsNext start plan states i (slice_index_or plan i p).wait) start [] (slice_index_or plan i p) t)
      (sym (waits i s lt)) tt;
  few = sym (taken_all states 0 (none_given count) (omega arith));
  unpolled = λ i s ticket lt is. let bad : state.Waits ≡ state.Submitted ticket = sym (waits i s lt) ∙ is in cc;
}
  where
    states : List State
    states = replicate count state.Waits

    waits : (i : ℕ) (s : State) → i < length states → slice_index_or states i s ≡ state.Waits
    waits i s lt =
        let long = length-replicate count state.Waits in
        get_or-replicate count i state.Waits s (omega (arith, lt, long))

pub begins : (start : Memory) → IsHostMemory start → (w : HostView) (count : ℕ) → w.host ≡ starting start → w.frames.taken ≡ [] → w.commands.sent ≡ [] → w.hand ≡ None
    → w.states ≡ replicate count state.Waits → IsRun start w
begins start right w count host taken sent hand states = record {
  right = right;
  puts = refl;
  turns = [];
  does = host;
  taken = ap (map (λ f. f.bytes)) taken;
  pushed = ap (λ l. l ++ option_to_list w.hand) sent ∙ ap option_to_list hand;
  requests = subst (λ (s : List State). AreTrue start [] w.plan s) (sym states) (each_waits start w.plan count);
}

pub same_then : (a b c : HostView) → Same a b → Same b c → Same a c
same_then a b c p q = record { frames = q.frames ∙ p.frames; commands = q.commands ∙ p.commands; plan = q.plan ∙ p.plan }
