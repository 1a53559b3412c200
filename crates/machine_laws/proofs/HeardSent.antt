-- Each FIS that a disk heard is one that the controller sent.
use Rattle.std.proofs.Common.{◌≡◌, ℕ, Bool, true, false, List, [], ◌∷◌, ◌++◌, append-nil, map, min, Option, Some, None, Result, Ok, Err, refl, sym}
use Rattle.std.proofs.{Common.{ap, subst, ◌∙◌, option_to_list, inl, inr, not, zero, suc, All, Contains}, lemmas.Bool.{eqb-true, false≢true}}
use Rattle.std.proofs.lemmas.List.Elements.{All-append, All-cons, All-contains_itself, All-head, All-nil, All-same, All-weaker}
use Rattle.std.specs.{Prelude.{◌==◌, if◌then◌else◌}, Option.option_map}
use Rattle.fis_view.specs.Frames.{Stamped}
use Rattle.slots.specs.Slots.{match_some}
use Rattle.multiplier.specs.{Arbiter.control_port, State.{falling, passes_to, pm_port}, declared.multiplier.Passed.Passed}
use Rattle.multiplier.specs.declared.multiplier.Passed.TheVariants as passed
use Rattle.fan_out.specs.{FanOuts.renewed_end, declared.fan_out.FanOut.{FanOut, TheVariants.{Device, Multiplier}}}
use Rattle.sata_disk_laws.specs.Calls.{Call, Hears}
use Rattle.sata_disk_laws.specs.Calls as call
use Rattle.ahci_machine.specs.{Registers.{link_stays, renewed}, States.{HasRules, IsOpeningMachine, MachineState, bay_at, opening_end}}
use Rattle.ahci_machine.specs.declared.{act.Act.Act, bay.{Bay.Bay, Unit.Unit as Inside}, ports.PortFault.PortFault}
use Rattle.ahci_machine.specs.declared.act.Act.TheVariants as act
use Rattle.ahci_machine.specs.declared.bay.Unit.TheVariants as inside
use Rattle.machine_laws.proofs.{Due.stays_due, FallEnds.opening_none, FallHeard.go_where, Reach.replicate_empty, RisDeeds.deed_rises, RisRun.crosses}
use Rattle.machine_laws.proofs.Ways.{OnWay, first, last, way_goes}
use Rattle.machine_laws.proofs.FallLinks as links
use Rattle.machine_laws.specs.{ControllerLaws.{RunsRuled, calls_in}, Controllers.{GathersDue, OpensDue, deed_calls}, Deeds.{Deed, Does, Moved, Wrote}}
use Rattle.machine_laws.specs.{Deeds.{Powered, Answered, Put, Pulled}, Disks.{calls_at, heard, unless_refused}, Falling.{ArrivesAt, arrived, falls}}
use Rattle.machine_laws.specs.{Falling.{goes_to, is_down_to, leaving, reached_at, resets, sent_in, waits_down, way_to}, Heard.{AllHeard, FellFrom}}
use Rattle.machine_laws.specs.{Heard.{HeardWereSent, IsSentOut, Life, life_by, life_in, no_life, put_in}, Rising.{Frames, GoesOnRising, HaveRisen}}
use Rattle.machine_laws.specs.Rising.{OpensRising, frames_after, is_multiplier, is_reset, no_frames}

-- ---- it stays a multiplier, or a device alone

renewed_kind : (f : FanOut) → is_multiplier (renewed_end f) ≡ is_multiplier f
renewed_kind (Device s) = refl
renewed_kind (Multiplier f) = refl

wrote_kind : (stays : Bool) (m new : MachineState) → stays ≡ false → new ≡ (if stays then m else renewed m) → is_multiplier new.fan ≡ is_multiplier m.fan
wrote_kind true m new off is = absurd (false≢true (sym off))
wrote_kind false m new off is = ap (λ (x : MachineState). is_multiplier x.fan) is ∙ renewed_kind m.fan

not_true : (b : Bool) → not b ≡ true → b ≡ false
not_true true h = sym h
not_true false h = refl

reset_kind : (deed : Deed) (old new : MachineState) → Does old deed new → is_reset deed ≡ true → is_multiplier new.fan ≡ is_multiplier old.fan
reset_kind (Wrote offset width value written) old new h is = wrote_kind (link_stays written) _ new (not_true (link_stays written) is) h.rest
reset_kind Powered old new h is = ap (λ (x : MachineState). is_multiplier x.fan) h ∙ renewed_kind old.fan
reset_kind other old new h is = absurd (false≢true is)

kind_by : (b : Bool) (deed : Deed) (old new : MachineState) → is_reset deed ≡ b → Does old deed new → (was : Frames) → HaveRisen old was
    → is_multiplier new.fan ≡ is_multiplier old.fan
kind_by true deed old new is h was risen = reset_kind deed old new h is
kind_by false deed old new is h was risen =
    let r = deed_rises deed old new h is risen.taken in
    sym (crosses old.fan new.fan r.calls _ r.sends)

-- ---- where a FIS falls

goes_port : (end : FanOut) (frame : Stamped) (went : Passed) (n : ℕ) → went ≡ goes_to end frame → is_down_to went n ≡ true → is_multiplier end ≡ true → pm_port frame ≡ n
goes_port (Device s) frame went n is down many = absurd (false≢true many)
goes_port (Multiplier f) frame went n is down many =
    by (pm_port frame == control_port) (passes_to f.multiplier (pm_port frame)) (subst (λ (w : Passed). is_down_to w n ≡ true) is down)
  where
    by : (b : Bool) (o : Option ℕ) → is_down_to (if b then passed.Control else match_some o passed.Dropped (λ conn. passed.Down (pm_port frame))) n ≡ true → pm_port frame ≡ n
    by true o h = absurd (false≢true h)
    by false None h = absurd (false≢true h)
    by false (Some c) h = eqb-true (pm_port frame) n h

module _ (P : Stamped → Type 0) (many : Bool) where
  abbrev Fell : ℕ → Stamped → Type 0
  Fell n f = FellFrom P many n f.bytes

  fallen : (conn n : ℕ) (frame : Stamped) → P frame → (many ≡ true → pm_port frame ≡ n) → Fell n (falling conn frame)
  fallen conn n frame of port = record { frame = frame; of = of; is = refl; port = port }

  -- what falls to a port
  falls_by : (b : Bool) (n conn : ℕ) (o : Option Stamped) → All P (option_to_list o)
      → ((frame : Stamped) → o ≡ Some frame → b ≡ true → many ≡ true → pm_port frame ≡ n)
      → All (Fell n) (if b then map (falling conn) (option_to_list o) else [])
  falls_by false n conn o all port = All-nil (Fell n)
  falls_by true n conn None all port = All-nil (Fell n)
  falls_by true n conn (Some frame) all port =
      All-cons (Fell n) (falling conn frame) [] (fallen conn n frame (All-head P frame [] all) (port frame refl refl)) (All-nil (Fell n))

  sends_fell : (old new : MachineState) (went : Passed) (n : ℕ) → Does old (Moved (act.Sends went)) new → is_multiplier old.fan ≡ many → All P (option_to_list old.outgoing)
      → All (Fell n) (falls old (Moved (act.Sends went)) n)
  sends_fell old new went n h kind all =
      falls_by (is_down_to went n) n (reached_at old.fan n) old.outgoing all
      (λ frame out down on. goes_port old.fan frame went n
      (subst (λ (o : Option Stamped). ArrivesAt old.fan o went) out (go_where old went new h)) down (kind ∙ on))

  move_fell : (a : Act) (old new : MachineState) (n : ℕ) → Does old (Moved a) new → is_multiplier old.fan ≡ many → All P (option_to_list old.outgoing)
      → All (Fell n) (falls old (Moved a) n)
  move_fell (act.Sends went) old new n h kind all = sends_fell old new went n h kind all
  move_fell other old new n h kind all = All-nil (Fell n)

  deed_fell : (deed : Deed) (old new : MachineState) (n : ℕ) → Does old deed new → is_multiplier old.fan ≡ many → All P (option_to_list old.outgoing)
      → All (Fell n) (falls old deed n)
  deed_fell (Moved a) old new n h kind all = move_fell a old new n h kind all
  deed_fell other old new n h kind all = All-nil (Fell n)

  -- ---- on the way

  pub record IsOnWay (m : MachineState) : Type 0 where
    pub leaving : All P (leaving m)
    pub ways : (n : ℕ) → OnWay (Fell n) m n

  -- one deed more
  leaves : (deed : Deed) (old new : MachineState) (does : Does old deed new) → HasRules old → HasRules new → GathersDue old → All P (leaving old)
      → All P (sent_in (deed_calls old deed new does)) → All P (leaving new)
  leaves deed old new does rules rules_new due was now = by (resets deed) refl
    where
      run : RunsRuled old (deed ∷ []) new
      run = (rules, (new, does, (rules_new, refl)))

      more : All P (leaving old ++ sent_in (calls_in old (deed ∷ []) new run))
      more = All-append P (leaving old) (sent_in (calls_in old (deed ∷ []) new run)) was
          (All-same P (sent_in (calls_in old (deed ∷ []) new run)) (sent_in (deed_calls old deed new does)) (ap sent_in (append-nil (deed_calls old deed new does))) now)

      by : (b : Bool) → resets deed ≡ b → All P (leaving new)
      by true is = All-same P (leaving new) [] (links.emptied old deed new does is) (All-nil P)
      by false is =
          last P (arrived old (deed ∷ []) new run) (leaving new)
          (All-same P (arrived old (deed ∷ []) new run ++ leaving new) (leaving old ++ sent_in (calls_in old (deed ∷ []) new run))
          (links.in_order old (deed ∷ []) new run due (is, tt)) more)

  goes_on : (deed : Deed) (old new : MachineState) (does : Does old deed new) → HasRules old → HasRules new → GathersDue old → is_multiplier old.fan ≡ many
      → IsOnWay old → All P (sent_in (deed_calls old deed new does)) → IsOnWay new
  goes_on deed old new does rules rules_new due kind was now = record {
    leaving = leaves deed old new does rules rules_new due was.leaving now;
    ways = λ n. way_goes (Fell n) deed old new n does (was.ways n)
        (deed_fell deed old new n does kind (first P (option_to_list old.outgoing) _ was.leaving));
  }

  -- ---- what is heard

  abbrev Heard : ℕ → List Call → Type 0
  Heard n calls = AllHeard (FellFrom P many n) calls

  both : (n : ℕ) (xs ys : List Call) → Heard n xs → Heard n ys → Heard n (xs ++ ys)
  both n [] ys first later = later
  both n (Hears bytes ∷ xs) ys first later = (first.0, both n xs ys first.1 later)
  both n (call.Plugs ∷ xs) ys first later = both n xs ys first later
  both n (call.Starts x ∷ xs) ys first later = both n xs ys first later
  both n (call.Asks r ∷ xs) ys first later = both n xs ys first later
  both n (call.Answers number a ∷ xs) ys first later = both n xs ys first later
  both n (call.Sends o ∷ xs) ys first later = both n xs ys first later

  at_it : (n : ℕ) (b : Bool) (calls : List Call) → Heard n calls → Heard n (if b then calls else [])
  at_it n true calls h = h
  at_it n false calls h = tt

  given_heard : (n : ℕ) (o : Option Stamped) → All (Fell n) (option_to_list o) → Heard n (heard o)
  given_heard n None all = tt
  given_heard n (Some f) all = (All-head (Fell n) f [] all, tt)

  told_heard : {A B : Type 0} (n : ℕ) (told : Result A B) (c : Call) → Heard n (c ∷ []) → Heard n (unless_refused told (c ∷ []))
  told_heard n (Ok x) c h = h
  told_heard n (Err e) c h = tt

  move_heard : (a : Act) (old : MachineState) (n : ℕ) → OnWay (Fell n) old n → Heard n (calls_at old (Moved a) n)
  move_heard (act.Begins k) old n all = at_it n (k == n) (call.Plugs ∷ []) tt
  move_heard (act.Hears k unheard) old n all =
      at_it n (k == n) (heard (bay_at old n).down) (given_heard n (bay_at old n).down (first (Fell n) (option_to_list (bay_at old n).down) (option_to_list (waits_down old.fan n)) all))
  move_heard (act.Speaks k out) old n all = at_it n (k == n) (call.Sends out ∷ []) tt
  move_heard (act.Starts k place) old n all = at_it n (k == n) (call.Starts (Some place) ∷ []) tt
  move_heard (act.Asks id request) old n all = at_it n (id.port == n) (call.Asks request ∷ []) tt
  move_heard other old n all = tt

  deed_heard : (deed : Deed) (old : MachineState) (n : ℕ) → OnWay (Fell n) old n → Heard n (calls_at old deed n)
  deed_heard (Moved a) old n all = move_heard a old n all
  deed_heard (Answered id a told) old n all = at_it n (id.port == n) (unless_refused told (call.Answers id.number a ∷ [])) (told_heard n told (call.Answers id.number a) tt)
  deed_heard (Pulled k told) old n all = at_it n (k == n) (unless_refused told (call.Plugs ∷ [])) (told_heard n told call.Plugs tt)
  deed_heard other old n all = tt

  put_heard : (n : ℕ) (unit : Inside) (told : Result (Unit {0}) (Inside × PortFault)) (was : Life) → Heard n was.calls → Heard n (put_in unit told was).calls
  put_heard n (inside.Disk d) (Ok x) was h = tt
  put_heard n (inside.Disk d) (Err e) was h = h
  put_heard n other told was h = h

  put_case : (n : ℕ) (b : Bool) (unit : Inside) (told : Result (Unit {0}) (Inside × PortFault)) (was : Life) → Heard n was.calls
      → Heard n (if b then put_in unit told was else was).calls
  put_case n true unit told was h = put_heard n unit told was h
  put_case n false unit told was h = h

  life_heard : (deed : Deed) (old : MachineState) (n : ℕ) (was : Life) → OnWay (Fell n) old n → Heard n was.calls → Heard n (life_by n old deed was).calls
  life_heard (Put k unit told) old n was all h = put_case n (k == n) unit told was h
  life_heard other old n was all h = both n was.calls (calls_at old other n) h (deed_heard other old n all)

  -- ---- every run

  abbrev pub AllGoOut : (old : MachineState) → (deeds : List Deed) → (new : MachineState) → RunsRuled old deeds new → Type 0
  AllGoOut old [] new run = Unit {0}
  AllGoOut old (deed ∷ later) new run = All P (sent_in (deed_calls old deed run.1.0 run.1.1)) × AllGoOut run.1.0 later new run.1.2

  first_ruled : (deeds : List Deed) (old new : MachineState) → RunsRuled old deeds new → HasRules old
  first_ruled [] old new run = run.0
  first_ruled (deed ∷ later) old new run = run.0

  each_out : (old : MachineState) (deeds : List Deed) (new : MachineState) (run : RunsRuled old deeds new) → ((f : Stamped) → IsSentOut f old deeds new run → P f)
      → AllGoOut old deeds new run
  each_out old [] new run holds = tt
  each_out old (deed ∷ later) new run holds =
      let out : List Stamped = sent_in (deed_calls old deed run.1.0 run.1.1) in
      (All-weaker (Contains out) P (λ f has. holds f (inl has)) out (All-contains_itself out), each_out run.1.0 later new run.1.2 (λ f is. holds f (inr is)))

  pub record Walked (n : ℕ) (new : MachineState) (life : Life) : Type 0 where
    pub kind : is_multiplier new.fan ≡ many
    pub way : IsOnWay new
    pub heard : Heard n life.calls

  walk : GoesOnRising → (n : ℕ) (old : MachineState) (deeds : List Deed) (new : MachineState) (run : RunsRuled old deeds new) (was : Frames) → GathersDue old
      → HaveRisen old was → AllGoOut old deeds new run → (life : Life) → Walked n old life → Walked n new (life_in n life old deeds new run)
  walk law n old [] new run was due risen out life h = subst (λ (m : MachineState). Walked n m life) (sym run.1) h
  walk law n old (deed ∷ later) new run was due risen out life h =
      let next : MachineState = run.1.0 in
      let does : Does old deed next = run.1.1 in
      let rules : HasRules next = first_ruled later next new run.1.2 in
      walk law n next later new run.1.2 (frames_after was old deed next does) (stays_due old deed next does due)
      (law old (deed ∷ []) next (run.0, (next, does, (rules, refl))) was risen) out.1 (life_by n old deed life)
      (record {
        kind = kind_by (is_reset deed) deed old next refl does was risen ∙ h.kind;
        way = goes_on deed old next does run.0 rules due h.kind h.way out.0;
        heard = life_heard deed old n life (h.way.ways n) h.heard;
      })

-- ---- a machine that opens

waits_none : (ports : ℕ) (legacy : Bool) (n : ℕ) → waits_down (opening_end ports legacy) n ≡ None
waits_none zero legacy n = by (0 == n)
  where
    by : (b : Bool) → (if b then option_map (λ (f : Stamped). f) None else None) ≡ None
    by true = refl
    by false = refl
waits_none (suc ports) legacy n = opening_none legacy false (suc ports) n

way_none : (ports : ℕ) (legacy : Bool) (m : MachineState) → IsOpeningMachine ports legacy m → (n : ℕ) → way_to m n ≡ []
way_none ports legacy m is n =
    ap (λ (x : MachineState). way_to x n) is.rest
    ∙ ap (λ (b : Bay). option_to_list b.down ++ option_to_list (waits_down (opening_end (min ports 15) legacy) n)) (replicate_empty _ n)
    ∙ ap option_to_list (waits_none (min ports 15) legacy n)

pub heard_were_sent : OpensDue → OpensRising → GoesOnRising → HeardWereSent
heard_were_sent due rising goes ports legacy old is deeds now run n =
    let P : Stamped → Type 0 = λ f. IsSentOut f old deeds now run in
    let w = walk P (is_multiplier old.fan) goes n old deeds now run no_frames (due ports legacy old is) (rising ports legacy old is)
    (each_out P (is_multiplier old.fan) old deeds now run (λ f sent. sent)) no_life
    (record {
      kind = refl;
      way = record {
        leaving = All-same P (leaving old) [] (ap leaving is.rest) (All-nil P);
        ways = λ k. All-same (λ f. FellFrom P (is_multiplier old.fan) k f.bytes) (way_to old k) [] (way_none ports legacy old is k) (All-nil (λ f. FellFrom P (is_multiplier old.fan) k f.bytes));
      };
      heard = tt;
    }) in
    subst (λ (many : Bool). AllHeard (FellFrom P many n) (life_in n no_life old deeds now run).calls) (sym w.kind) w.heard
