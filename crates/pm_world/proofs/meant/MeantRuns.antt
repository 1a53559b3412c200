-- For `commands_are_meant`. For whom the commands are meant that a device takes: over a run of a world, and from a new
-- one.
use Rattle.std.proofs.Common.{◌≡◌, ◌⊎◌, ℕ, ◌<◌, ◌==◌, ◌&&◌, Bool, true, false, List, [], ◌∷◌, ◌++◌, length, take, Option, Some, None, Ok, refl, sym}
use Rattle.std.proofs.{Common.{ap, subst, ◌∙◌, inl, inr}, lemmas.Bool.{and_parts, cases_Bool, eqb-true, false≢true, not-false}}
use Rattle.std.specs.Prelude.{option_to_list, slice_get}
use Rattle.fis_view.specs.Frames.{Stamped}
use Rattle.host_memory.specs.Memory.{zeroed}
use Rattle.hba_fbs.specs.declared.report.TakeReport.{TakeReport}
use Rattle.hba_driver.specs.declared.{mode.Mode.TheVariants.Switching, request.{Request.Request, Ticket.Ticket}, slot.Phase.Phase}
use Rattle.hba_driver.specs.{declared.slot.Phase.TheVariants.{Issued, Waits}, Drivers.{Entry, is_issued_in, rephased}, Known.is_request}
use Rattle.hba_driver.specs.{Queued.IsCommandOf, Submits.new_entry, Tended.IsLiveAt, Between.IsAsking}
use Rattle.hba_driver.proofs.Door as accept
use Rattle.hba_driver.proofs.Door.{asking_opens, zeroed_right}
use Rattle.multiplier.specs.State.{falling, port_at}
use Rattle.pm_world.specs.{Attached.Attached, Cleared.{PassesNone, is_up_from}, Downward.{falling_to, fell_to, on_down_link, pushed_by}}
use Rattle.pm_world.specs.{Meant.{AnswersAreMeant, CommandsAreMeant, IsMeant, WasSubmittedFor}, Places.{Places, is_config, new_world}}
use Rattle.pm_world.specs.{Rules.{DiskTakeRule, Rule, Run}, Runs.{IsStepOf, over}, Stale.{InOrder, connection, identified_by, latest, orders_clear}}
use Rattle.pm_world.specs.{Stale.unsent_after, declared.step.{Config.Config, Step.Step, Answer.Answer}}
use Rattle.pm_world.specs.declared.step.Step.TheVariants as step
use Rattle.pm_world.specs.declared.step.Answer.TheVariants as answer
use Rattle.pm_world.proofs.{turns.Delivery.sized, ports.EachLemmas.{Each, each_map}, meant.IdentifiedLemmas.{AllIdentified, all_identified}}
use Rattle.pm_world.proofs.meant.{IdentifiedLemmas.{asking_step, is_request_to, known_after}, LiveSteps.{IsOwn, TakesAt}, MeantLemmas.{Fell, IsOf}}
use Rattle.pm_world.proofs.{meant.MeantLemmas.{Means, latest_then, means_now}, upward.FrameMoves.rule_moves, steps.Openings.nothing_falls}
use Rattle.pm_world.proofs.{meant.OrderTurns.orders_in_order, reported.ReportedLemmas.{first_of, later_of}, upward.PortMarks.AllHavePortMarks}
use Rattle.pm_world.proofs.{upward.PortMarks.{opening_marks, rule_marks}, meant.StaleLemmas.{Holds, IsComing, IsServed, holds_now, none_coming}}
use Rattle.pm_world.proofs.{meant.StaleLemmas.{opening_holds, still, waits_then}, steps.Steps.at_device, ports.UpLemmas.took_step}

-- ## Submitted in a run

-- a request, when it waited, with the last connection on which IDENTIFY data had come by then
record SubmittedFor (n : ℕ) (last : Option ℕ) (old new : Places) (steps : List Step) (answers : List Answer) (run : Run old steps answers new) (e : Entry)
    (l : Option ℕ) : Type 0 where
  ticket : Ticket
  request : Request
  its : IsStepOf (step.Submit n request) (answer.Submitted ticket) old new steps answers run
  is : new_entry ticket.0 n request ≡ e
  identified : latest last (over (identified_by n) old its.before its.told its.at its.came) ≡ l

submitted_first : (n : ℕ) (last : Option ℕ) (s : Step) (a : Answer) (steps : List Step) (answers : List Answer) (old new : Places)
    (run : Run old (s ∷ steps) (a ∷ answers) new) (e : Entry) → TakesAt n s a e → SubmittedFor n last old new (s ∷ steps) (a ∷ answers) run e last
submitted_first n last (step.Submit dev request) (answer.Submitted ticket) steps answers old new run e takes = record {
  ticket = ticket;
  request = request;
  its = subst (λ (k : ℕ). IsStepOf (step.Submit k request) (answer.Submitted ticket) old new (step.Submit dev request ∷ steps) (answer.Submitted ticket ∷ answers) run) takes.0
      (first_of (step.Submit dev request) (answer.Submitted ticket) steps answers old new run);
  is = ap (λ (k : ℕ). new_entry ticket.0 k request) (sym takes.0) ∙ takes.1;
  identified = refl;
}
submitted_first n last s a steps answers old new run e takes = absurd takes

submitted_later : (n : ℕ) (last : Option ℕ) (s : Step) (a : Answer) (steps : List Step) (answers : List Answer) (old new : Places)
    (run : Run old (s ∷ steps) (a ∷ answers) new) (e : Entry) (l : Option ℕ)
    → SubmittedFor n (latest last (identified_by n old s a run.0)) run.0 new steps answers run.2 e l
    → SubmittedFor n last old new (s ∷ steps) (a ∷ answers) run e l
submitted_later n last s a steps answers old new run e l i = record {
  ticket = i.ticket;
  request = i.request;
  its = later_of (step.Submit n i.request) (answer.Submitted i.ticket) s a steps answers old new run i.its;
  is = i.is;
  identified = latest_then last (identified_by n old s a run.0) (over (identified_by n) run.0 i.its.before i.its.told i.its.at i.its.came) ∙ i.identified;
}

-- with what one step took
abbrev Taking : (n : ℕ) (last : Option ℕ) (S : Entry → Option ℕ → Type 0) → Step → Answer → Entry → Option ℕ → Type 0
Taking n last S s a e l = S e l ⊎ (TakesAt n s a e × (last ≡ l))

-- and with what a run did
abbrev OrSubmitted : (n : ℕ) (last : Option ℕ) (S : Entry → Option ℕ → Type 0) (old : Places) (steps : List Step) (answers : List Answer) (new : Places)
    → Run old steps answers new → Entry → Option ℕ → Type 0
OrSubmitted n last S old steps answers new run e l = S e l ⊎ SubmittedFor n last old new steps answers run e l

submitted_on : (n : ℕ) (last : Option ℕ) (S : Entry → Option ℕ → Type 0) (s : Step) (a : Answer) (steps : List Step) (answers : List Answer) (old new : Places)
    (run : Run old (s ∷ steps) (a ∷ answers) new) (e : Entry) (l : Option ℕ)
    → OrSubmitted n (latest last (identified_by n old s a run.0)) (Taking n last S s a) run.0 steps answers new run.2 e l
    → OrSubmitted n last S old (s ∷ steps) (a ∷ answers) new run e l
submitted_on n last S s a steps answers old new run e l (inl (inl was)) = inl was
submitted_on n last S s a steps answers old new run e l (inl (inr taken)) =
    inr (subst (SubmittedFor n last old new (s ∷ steps) (a ∷ answers) run e) taken.1 (submitted_first n last s a steps answers old new run e taken.0))
submitted_on n last S s a steps answers old new run e l (inr later) = inr (submitted_later n last s a steps answers old new run e l later)

-- ## Pushed in a run

-- the command of a request of device n was put on the host's link
record SentFor (n : ℕ) (last : Option ℕ) (S : Entry → Option ℕ → Type 0) (old new : Places) (steps : List Step) (answers : List Answer)
    (run : Run old steps answers new) (f : Stamped) (l : Option ℕ) : Type 0 where
  its : IsStepOf step.HostPush answer.Pushed old new steps answers run
  one : pushed_by its.at step.HostPush answer.Pushed its.next ≡ f ∷ []
  own : IsOwn n its.at.host f
  from : S (rephased Waits own.is.entry) l ⊎ SubmittedFor n last old its.at its.before its.told its.came (rephased Waits own.is.entry) l

-- the step puts it there
record Sends (n : ℕ) (S : Entry → Option ℕ → Type 0) (old new : Places) (s : Step) (a : Answer) (f : Stamped) (l : Option ℕ) : Type 0 where
  at : s ≡ step.HostPush
  is : a ≡ answer.Pushed
  one : pushed_by old s a new ≡ f ∷ []
  own : IsOwn n old.host f
  from : S (rephased Waits own.is.entry) l

module _ (n : ℕ) (last : Option ℕ) (S : Entry → Option ℕ → Type 0) (old new : Places) (steps : List Step) (answers : List Answer) where
  sent_first : (s : Step) (a : Answer) (run : Run old (s ∷ steps) (a ∷ answers) new) (f : Stamped) (l : Option ℕ) → Sends n S old run.0 s a f l
      → SentFor n last S old new (s ∷ steps) (a ∷ answers) run f l
  sent_first step.HostPush answer.Pushed run f l x =
      record { its = first_of step.HostPush answer.Pushed steps answers old new run; one = x.one; own = x.own; from = inl x.from }
  sent_first step.HostPush a run f l x = let wrong : a ≡ answer.Pushed = x.is in absurd (cc)
  sent_first s a run f l x = let wrong : s ≡ step.HostPush = x.at in absurd (cc)

  sent_later : (s : Step) (a : Answer) (run : Run old (s ∷ steps) (a ∷ answers) new) (f : Stamped) (l : Option ℕ)
      → SentFor n (latest last (identified_by n old s a run.0)) (Taking n last S s a) run.0 new steps answers run.2 f l
      → SentFor n last S old new (s ∷ steps) (a ∷ answers) run f l
  sent_later s a run f l x = record {
    its = later_of step.HostPush answer.Pushed s a steps answers old new run x.its;
    one = x.one;
    own = x.own;
    from = submitted_on n last S s a x.its.before x.its.told old x.its.at (run.0, run.1, x.its.came) (rephased Waits x.own.is.entry) l x.from;
  }

-- ## A run

-- with what one step put there
abbrev Sending : (n : ℕ) (S : Entry → Option ℕ → Type 0) (M : Stamped → Option ℕ → Type 0) (old new : Places) → Step → Answer → Stamped → Option ℕ → Type 0
Sending n S M old new s a f l = M f l ⊎ Sends n S old new s a f l

-- what is known of the world after it
record Known (n : ℕ) (S : Entry → Option ℕ → Type 0) (M : Stamped → Option ℕ → Type 0) (now : Places) : Type 0 where
  known : Bool
  unsent : Bool
  last : Option ℕ
  holds : Holds n known unsent last now
  means : Means n known last S M now

known_wider : (n : ℕ) (S T : Entry → Option ℕ → Type 0) (M N : Stamped → Option ℕ → Type 0) (now : Places) → ((e : Entry) (l : Option ℕ) → S e l → T e l)
    → ((f : Stamped) (l : Option ℕ) → M f l → N f l) → Known n S M now → Known n T N now
known_wider n S T M N now on_submit on_sent k = record {
  known = k.known;
  unsent = k.unsent;
  last = k.last;
  holds = k.holds;
  means = record {
    one = k.means.one;
    same = k.means.same;
    live = λ slot e live. let it = k.means.live slot e live in (it.0, on_submit (rephased Waits e) k.last it.1);
    link = each_map (λ (f : Stamped). is_request_to n f ≡ true → k.known ≡ true → M f k.last) (λ (f : Stamped). is_request_to n f ≡ true → k.known ≡ true → N f k.last)
        now.downward.frames (λ f was asks is. on_sent f k.last (was asks is)) k.means.link;
    falls = each_map (λ (f : Stamped). is_request f.bytes ≡ true → Fell M f) (λ (f : Stamped). is_request f.bytes ≡ true → Fell N f) (falling_to n now)
        (λ f was asks. let it = was asks in record { sent = it.sent; is = it.is; meant = on_sent it.sent (Some f.stamp.conn) it.meant }) k.means.falls;
  };
}

abbrev OrSent : (n : ℕ) (last : Option ℕ) (S : Entry → Option ℕ → Type 0) (M : Stamped → Option ℕ → Type 0) (old : Places) (steps : List Step) (answers : List Answer)
    (new : Places) → Run old steps answers new → Stamped → Option ℕ → Type 0
OrSent n last S M old steps answers new run f l = M f l ⊎ SentFor n last S old new steps answers run f l

run_means : (n : ℕ) (below : n < 15) (known unsent : Bool) (last : Option ℕ) (S : Entry → Option ℕ → Type 0) (M : Stamped → Option ℕ → Type 0) (old : Places)
    (steps : List Step) (answers : List Answer) (new : Places) (run : Run old steps answers new)
    → Holds n known unsent last old → Means n known last S M old → IsAsking n known old.host → AllHavePortMarks old.multiplier old.upward.frames
    → InOrder n unsent old steps answers new run → AllIdentified n known old steps answers new run
    → (IsComing n unsent old → PassesNone n old steps answers new run)
    → Known n (OrSubmitted n last S old steps answers new run) (OrSent n last S M old steps answers new run) new
run_means n below known unsent last S M old [] [] new run h m asking risen ordered identified quiet =
    known_wider n S (OrSubmitted n last S old [] [] new run) M (OrSent n last S M old [] [] new run) new (λ e l it. inl it) (λ f l it. inl it)
    (subst (Known n S M) (sym run) (record { known = known; unsent = unsent; last = last; holds = h; means = m }))
run_means n below known unsent last S M old [] (a ∷ answers) new run h m asking risen ordered identified quiet = absurd run
run_means n below known unsent last S M old (s ∷ steps) [] new run h m asking risen ordered identified quiet = absurd run
run_means n below known unsent last S M old (s ∷ steps) (a ∷ answers) new run h m asking risen ordered identified quiet =
    known_wider n (OrSubmitted n (latest last (identified_by n old s a run.0)) (Taking n last S s a) run.0 steps answers new run.2)
    (OrSubmitted n last S old (s ∷ steps) (a ∷ answers) new run)
    (OrSent n (latest last (identified_by n old s a run.0)) (Taking n last S s a) (Sending n S M old run.0 s a) run.0 steps answers new run.2)
    (OrSent n last S M old (s ∷ steps) (a ∷ answers) new run) new (submitted_on n last S s a steps answers old new run) widens
    (run_means n below (known_after n known old s a run.0) (unsent_after n unsent old s a run.0) (latest last (identified_by n old s a run.0)) (Taking n last S s a) (Sending n S M old run.0 s a) run.0 steps answers
    new run.2 (holds_now n below known unsent last old s a run.0 run.1 h served first)
    (means_now n below known unsent last old s a run.0 run.1 h served first asking S (Taking n last S s a) M (Sending n S M old run.0 s a) m (λ e l it. inl it) (λ f l it. inl it) (λ e taken. inr (taken, refl))
    (λ f at is one own from. inr (record { at = at; is = is; one = one; own = own; from = from })))
    (asking_step n below known old s run.0 risen asking a run.1) (rule_marks old s a run.0 risen run.1).risen ordered.1 identified.1 later)
  where
    served : IsServed n known unsent old s a run.0
    served = record { order = ordered.0; identified = identified.0 }

    first : IsComing n unsent old → (fell_to n old s a run.0 ≡ []) × (is_up_from n s a ≡ false)
    first coming = ((quiet coming).0, (quiet coming).1)

    later : IsComing n (unsent_after n unsent old s a run.0) run.0 → PassesNone n run.0 steps answers new run.2
    later coming = elim (cases_Bool (orders_clear n old a)) [
      | inl clears ↦ waits_then n below old s a run.0 run.1 h.orderly h.true_is clears (ordered.0.waits clears) steps answers new run.2
      | inr idle ↦ let was = still n below known unsent last old s a run.0 run.1 h served first coming idle in (quiet was.0).2 was.1
    ]

    widens : (f : Stamped) (l : Option ℕ) → OrSent n (latest last (identified_by n old s a run.0)) (Taking n last S s a) (Sending n S M old run.0 s a) run.0 steps answers new run.2 f l
        → OrSent n last S M old (s ∷ steps) (a ∷ answers) new run f l
    widens f l (inl (inl was)) = inl was
    widens f l (inl (inr x)) = inr (sent_first n last S old new steps answers s a run f l x)
    widens f l (inr x) = inr (sent_later n last S old new steps answers s a run f l x)

-- ## From a new world

issued_phase : (p : Phase) → is_issued_in p ≡ true → p ≡ Issued
issued_phase Issued is = refl
issued_phase other is = absurd (false≢true is)

module _ (config : Config) (units : List Attached) (right : is_config config (length units) ≡ true) (steps : List Step) (answers : List Answer) (now : Places)
    (run : Run (new_world config units) steps answers now) (n : ℕ) (below : n < 15) where
  abbrev NoRequest : Entry → Option ℕ → Type 0
  NoRequest e l = ⊥

  abbrev NoFrame : Stamped → Option ℕ → Type 0
  NoFrame f l = ⊥

  opening_means : Means n false None NoRequest NoFrame (new_world config units)
  opening_means = record {
    one = tt;
    same = λ e c is. absurd (false≢true e);
    live = λ slot e live. absurd (accept.none_here slot e live.stands);
    link = tt;
    falls = subst (Each (λ (f : Stamped). is_request f.bytes ≡ true → Fell NoFrame f)) (sym (nothing_falls Switching config units n)) tt;
  }

  reached : Known n (OrSubmitted n None NoRequest (new_world config units) steps answers now run) (OrSent n None NoRequest NoFrame (new_world config units) steps answers now run) now
  reached =
      run_means n below false false None NoRequest NoFrame (new_world config units) steps answers now run (opening_holds config units right n) opening_means
      (asking_opens n 0 (zeroed config.memory) (zeroed_right config.memory (sized config (length units) right))) (opening_marks config units) (orders_in_order config units right steps answers now run n below)
      (all_identified config units right steps answers now run n below) (λ coming. absurd (none_coming config units right n coming))

  -- what was sent and submitted in the run
  meant_by : (conn : ℕ) (frame sent : Stamped) → frame ≡ falling conn sent → SentFor n None NoRequest (new_world config units) now steps answers run sent (Some conn)
      → IsMeant n conn frame (new_world config units) now steps answers run
  meant_by conn frame sent fell x = by_from x.from
    where
      by_from : ⊥ ⊎ SubmittedFor n None (new_world config units) x.its.at x.its.before x.its.told x.its.came (rephased Waits x.own.is.entry) (Some conn)
          → IsMeant n conn frame (new_world config units) now steps answers run
      by_from (inl none) = absurd none
      by_from (inr i) =
          let e : Entry = x.own.is.entry in
          let issued : e ≡ rephased Issued (rephased Waits e) = ap (λ (p : Phase). rephased p e) (issued_phase e.head.phase x.own.is.of.issued) in
          let is : e ≡ rephased Issued (new_entry i.ticket.0 n i.request) = issued ∙ ap (rephased Issued) (sym i.is) in
          record {
            slot = x.own.is.slot;
            ticket = i.ticket;
            request = i.request;
            sent = sent;
            fell = fell;
            pushed = x.its;
            is_sent = x.one;
            of_request = subst (λ (y : Entry). IsCommandOf x.own.is.slot y x.its.at.host sent) is x.own.is.of;
            submitted = i.its;
            identified = i.identified;
          }

  fallen_meant : (conn : ℕ) (frame : Stamped) → frame.stamp.conn ≡ conn
      → Fell (OrSent n None NoRequest NoFrame (new_world config units) steps answers now run) frame → IsMeant n conn frame (new_world config units) now steps answers run
  fallen_meant conn frame to it = subst (λ (k : ℕ). IsMeant n k frame (new_world config units) now steps answers run) to (by_case it.meant)
    where
      by_case : ⊥ ⊎ SentFor n None NoRequest (new_world config units) now steps answers run it.sent (Some frame.stamp.conn)
          → IsMeant n frame.stamp.conn frame (new_world config units) now steps answers run
      by_case (inl none) = absurd none
      by_case (inr x) = meant_by frame.stamp.conn frame it.sent it.is x

  -- the FIS that the device takes stands first on its link
  taken_meant : (s : Step) (new : Places) → Rule now s (Ok (answer.DiskTook n false)) new → (frame : Stamped)
      → take 1 (on_down_link (slice_get now.devices n)) ≡ frame ∷ [] → is_request frame.bytes ≡ true
      → IsMeant n (connection (slice_get now.devices n)) frame (new_world config units) now steps answers run
  taken_meant s new rule frame here asks =
      let t = took_step now s n false new rule in
      let p = at_device now t.at (answer.DiskTook n false) new (DiskTakeRule t.at) (subst (λ (x : Step). Rule now x (Ok (answer.DiskTook n false)) new) t.is rule) in
      let is : slice_get now.devices n ≡ Some p.place = subst (λ (k : ℕ). slice_get now.devices k ≡ Some p.place) (sym p.rule.0) p.is in
      let head : Stamped = p.rule.1.0 in
      let link : on_down_link (slice_get now.devices n) ≡ head ∷ p.after.down.frames = ap on_down_link is ∙ p.rule.1.1 in
      let same : head ≡ frame = first_same head frame (sym (ap (λ (l : List Stamped). take 1 l) link) ∙ here) in
      let meant : (p.place.plugged && (head.stamp.conn == p.place.conn)) ≡ true = not-false (p.place.plugged && (head.stamp.conn == p.place.conn)) (sym p.rule.1.2) in
      let conn : head.stamp.conn ≡ p.place.conn = eqb-true head.stamp.conn p.place.conn (and_parts p.place.plugged (head.stamp.conn == p.place.conn) meant).1 in
      let to : frame.stamp.conn ≡ connection (slice_get now.devices n) = ap (λ (g : Stamped). g.stamp.conn) (sym same) ∙ conn ∙ ap connection (sym is) in
      let way : falling_to n now ≡ head ∷ (p.after.down.frames ++ option_to_list (port_at now.multiplier n).down) =
      ap (λ (l : List Stamped). l ++ option_to_list (port_at now.multiplier n).down) link in
      let all = subst (Each (λ (f : Stamped). is_request f.bytes ≡ true → Fell (OrSent n None NoRequest NoFrame (new_world config units) steps answers now run) f)) way reached.means.falls in
      fallen_meant (connection (slice_get now.devices n)) frame to
      (subst (Fell (OrSent n None NoRequest NoFrame (new_world config units) steps answers now run)) same (all.0 (ap (λ (g : Stamped). is_request g.bytes) same ∙ asks)))
    where
      first_same : (x y : Stamped) → x ∷ [] ≡ y ∷ [] → x ≡ y
      first_same x y e = cc

  -- what the host takes comes on the connection that was identified at the submit
  answer_meant : (s : Step) (conn number : ℕ) (bytes : List ℕ) (report : TakeReport) (new : Places) → Rule now s (Ok (answer.Took n conn number bytes report)) new
      → (slot : ℕ) (e : Entry) → IsLiveAt n slot now.host.driver.entries e → WasSubmittedFor n conn e (new_world config units) now steps answers run
  answer_meant s conn number bytes report new rule slot e live =
      let m = rule_moves now s (answer.Took n conn number bytes report) new reached.holds.orderly rule in
      let it = reached.means.live slot e live in
      let was = reached.holds.came it.0 in
      let all = subst (Each (IsOf n was.0)) m.2.upward (reached.means.same it.0 was.0 was.1) in
      let to : was.0 ≡ conn = sym (all.0 m.1.port_is) ∙ m.1.conn_is in
      by_case (was.1 ∙ ap (λ (k : ℕ). Some k) to) it.1
    where
      by_case : reached.last ≡ Some conn → ⊥ ⊎ SubmittedFor n None (new_world config units) now steps answers run (rephased Waits e) reached.last
          → WasSubmittedFor n conn e (new_world config units) now steps answers run
      by_case is (inl none) = absurd none
      by_case is (inr i) = record { ticket = i.ticket; request = i.request; of_request = i.is; submitted = i.its; identified = i.identified ∙ is }

pub answers_are_meant : AnswersAreMeant
answers_are_meant config units right steps answers now run n below s conn number bytes report new rule slot e live =
    answer_meant config units right steps answers now run n below s conn number bytes report new rule slot e live

pub commands_are_meant : CommandsAreMeant
commands_are_meant config units right steps answers now run n below s new rule frame here asks =
    taken_meant config units right steps answers now run n below s new rule frame here asks
