-- A run, cut at one of its deeds: what is counted along it is counted before this deed, by it, and behind it.
use Rattle.std.proofs.Common.{◌≡◌, ℕ, zero, suc, ◌+◌, ◌≤◌, Bool, List, [], ◌∷◌, ◌++◌, append_assoc, refl, sym, ap, ◌∙◌, arith}
use Rattle.fis_view.specs.Frames.{Stamped}
use Rattle.controller_laws.specs.Events.{Event}
use Rattle.sata_disk_laws.specs.Calls.{Call}
use Rattle.ahci_machine.specs.States.{MachineState}
use Rattle.machine_laws.specs.{ControllerLaws.{RunsRuled, calls_in}, Controllers.deed_calls, Deeds.{Deed, Does}, Disks.calls_at, Falling.AllLast}
use Rattle.machine_laws.specs.{Falling.{HasLink, Lasts}, Rising.{came_by, sent_by}}
use Rattle.machine_theorem.specs.{Brought.{AllTakenWell, TakesWell}, Identity.{AllKeep, Keeps, calls_of}, Orders.{are_ordered, fallen_in, is_fallen}}
use Rattle.machine_theorem.specs.{Orders.ordered_in, OwnSlots.{AllKeepLine, KeepsLine}, PioIn.{AllKeepUnqueued, KeepsUnqueued}}
use Rattle.machine_theorem.specs.{QueuedWrites.{AllQueued, HasQueued}, Tags.once_if}
use Rattle.machine_theorem.proofs.{EndsFew.sent_of, FallsFew.came_of}

-- what is counted by each deed, and over some
abbrev pub Counting : Type 0
Counting = (old : MachineState) → (deed : Deed) → (new : MachineState) → Does old deed new → ℕ

abbrev pub total : (count : Counting) → (old : MachineState) → (deeds : List Deed) → (now : MachineState) → RunsRuled old deeds now → ℕ
total count old [] now run = 0
total count old (deed ∷ later) now run = count old deed run.1.0 run.1.1 + total count run.1.0 later now run.1.2

pub record Cut (deed : Deed) (at : MachineState) (deeds : List Deed) (now : MachineState) (run : RunsRuled at deeds now) : Type 0 where
  pub sooner : List Deed
  pub mid : MachineState
  pub led : RunsRuled at sooner mid
  pub next : MachineState
  pub does : Does mid deed next
  pub later : List Deed
  pub rest : RunsRuled next later now
  pub is : deeds ≡ sooner ++ deed ∷ later
  pub events : calls_in at deeds now run ≡ calls_in at sooner mid led ++ (deed_calls mid deed next does ++ calls_in next later now rest)
  pub own : (n : ℕ) → calls_of n at deeds now run ≡ calls_of n at sooner mid led ++ (calls_at mid deed n ++ calls_of n next later now rest)
  pub sent : sent_of at deeds now run ≡ sent_of at sooner mid led ++ (sent_by mid deed next does ++ sent_of next later now rest)
  pub came : came_of at deeds now run ≡ came_of at sooner mid led ++ (came_by mid deed next does ++ came_of next later now rest)
  pub counted : (count : Counting) → total count at deeds now run
      ≡ total count at sooner mid led + (count mid deed next does + total count next later now rest)
  pub ordered : (own : ℕ → Bool) (slot : ℕ) → ordered_in own slot at deeds now run
      ≡ ordered_in own slot at sooner mid led + (once_if (are_ordered own slot mid.controller (deed_calls mid deed next does)) + ordered_in own slot next later now rest)
  pub fallen : (own : ℕ → Bool) (slot : ℕ) → fallen_in own slot at deeds now run
      ≡ fallen_in own slot at sooner mid led + (once_if (is_fallen own slot mid.controller next.controller) + fallen_in own slot next later now rest)
  pub keeps : (many : Bool) (n tag : ℕ) → AllKeep many n tag at deeds now run
      → AllKeep many n tag at sooner mid led × Keeps many n tag mid deed next (deed_calls mid deed next does) × AllKeep many n tag next later now rest
  pub lasts : (n : ℕ) → AllLast n at deeds now run → AllLast n at sooner mid led × Lasts mid deed next n × AllLast n next later now rest
  pub links : HasLink deeds → HasLink sooner × HasLink later
  pub line : (many : Bool) (n c dev : ℕ) → AllKeepLine many n c dev at deeds now run
      → AllKeepLine many n c dev at sooner mid led × KeepsLine many n c dev mid deed next does × AllKeepLine many n c dev next later now rest
  pub taken : (dev : ℕ) → AllTakenWell dev at deeds now run → AllTakenWell dev at sooner mid led × TakesWell dev mid deed next does × AllTakenWell dev next later now rest
  pub queued : (dev : ℕ) → AllQueued dev at deeds now run → AllQueued dev at sooner mid led × HasQueued dev mid.controller
  pub unqueued : (many : Bool) (n dev : ℕ) → AllKeepUnqueued many n dev at deeds now run
      → AllKeepUnqueued many n dev at sooner mid led × KeepsUnqueued many n dev mid deed next does × AllKeepUnqueued many n dev next later now rest

-- at its first deed
unfoldable pub cut_here : (deed : Deed) (later : List Deed) (at now : MachineState) (run : RunsRuled at (deed ∷ later) now) → Cut deed at (deed ∷ later) now run
cut_here deed later at now run = record {
  sooner = [];
  mid = at;
  led = (run.0, refl);
  next = run.1.0;
  does = run.1.1;
  later = later;
  rest = run.1.2;
  is = refl;
  events = refl;
  own = λ n. refl;
  sent = refl;
  came = refl;
  counted = λ count. omega arith;
  ordered = λ own slot. omega arith;
  fallen = λ own slot. omega arith;
  keeps = λ many n tag k. (k.0.end, k.0, k.1);
  lasts = λ n l. (tt, l.0, l.1);
  links = λ l. (tt, l.1);
  line = λ many n c dev k. (k.0.end, k.0, k.1);
  taken = λ dev w. (tt, w.0, w.1);
  queued = λ dev q. (q.0, q.0);
  unqueued = λ many n dev k. (tt, k.0, k.1);
}

-- or at a later one
unfoldable pub cut_more : (it deed : Deed) (later : List Deed) (at now : MachineState) (run : RunsRuled at (deed ∷ later) now) → Cut it run.1.0 later now run.1.2 → Cut it at (deed ∷ later) now run
cut_more it deed later at now run c =
    let first : List Event = deed_calls at deed run.1.0 run.1.1 in
    let said : List Stamped = sent_by at deed run.1.0 run.1.1 in
    let came : List Stamped = came_by at deed run.1.0 run.1.1 in
    record {
      sooner = deed ∷ c.sooner;
      mid = c.mid;
      led = (run.0, (run.1.0, run.1.1, c.led));
      next = c.next;
      does = c.does;
      later = c.later;
      rest = c.rest;
      is = ap (λ (l : List Deed). deed ∷ l) c.is;
      events = ap (λ (l : List Event). first ++ l) c.events
          ∙ sym (append_assoc first (calls_in run.1.0 c.sooner c.mid c.led) (deed_calls c.mid it c.next c.does ++ calls_in c.next c.later now c.rest));
      own = λ n. ap (λ (l : List Call). calls_at at deed n ++ l) (c.own n)
          ∙ sym (append_assoc (calls_at at deed n) (calls_of n run.1.0 c.sooner c.mid c.led) (calls_at c.mid it n ++ calls_of n c.next c.later now c.rest));
      sent = ap (λ (l : List Stamped). said ++ l) c.sent
          ∙ sym (append_assoc said (sent_of run.1.0 c.sooner c.mid c.led) (sent_by c.mid it c.next c.does ++ sent_of c.next c.later now c.rest));
      came = ap (λ (l : List Stamped). came ++ l) c.came
          ∙ sym (append_assoc came (came_of run.1.0 c.sooner c.mid c.led) (came_by c.mid it c.next c.does ++ came_of c.next c.later now c.rest));
      counted = λ count. let e = c.counted count in omega (arith, e);
      ordered = λ own slot. let e = c.ordered own slot in omega (arith, e);
      fallen = λ own slot. let e = c.fallen own slot in omega (arith, e);
      keeps = λ many n tag k. let r = c.keeps many n tag k.1 in ((k.0, r.0), r.1, r.2);
      lasts = λ n l. let r = c.lasts n l.1 in ((l.0, r.0), r.1, r.2);
      links = λ l. let r = c.links l.1 in ((l.0, r.0), r.1);
      line = λ many n c' dev k. let r = c.line many n c' dev k.1 in ((k.0, r.0), r.1, r.2);
      taken = λ dev w. let r = c.taken dev w.1 in ((w.0, r.0), r.1, r.2);
      queued = λ dev q. let r = c.queued dev q.1 in ((q.0, r.0), r.1);
      unqueued = λ many n dev k. let r = c.unqueued many n dev k.1 in ((k.0, r.0), r.1, r.2);
    }

-- ---- the last deed that counts, and the first

module _ (count : Counting) where
  -- this deed does, and none behind it
  pub record LastOf (deed : Deed) (at : MachineState) (deeds : List Deed) (now : MachineState) (run : RunsRuled at deeds now) : Type 0 where
    pub cut : Cut deed at deeds now run
    pub here : 1 ≤ count cut.mid deed cut.next cut.does
    pub none : total count cut.next cut.later now cut.rest ≡ 0

  pub record HasLast (at : MachineState) (deeds : List Deed) (now : MachineState) (run : RunsRuled at deeds now) : Type 0 where
    pub deed : Deed
    pub last : LastOf deed at deeds now run

  pub last_of : (deeds : List Deed) (at now : MachineState) (run : RunsRuled at deeds now) → 1 ≤ total count at deeds now run → HasLast at deeds now run
  unfolding cut_here cut_more
  last_of [] at now run some = absurd (omega (arith, some))
  last_of (deed ∷ later) at now run some = by (λ more. last_of later run.1.0 now run.1.2 more) (total count run.1.0 later now run.1.2) refl
    where
      by : (1 ≤ total count run.1.0 later now run.1.2 → HasLast run.1.0 later now run.1.2) → (t : ℕ) → total count run.1.0 later now run.1.2 ≡ t → HasLast at (deed ∷ later) now run
      by tail zero e = record { deed = deed; last = record { cut = cut_here deed later at now run; here = omega (arith, some, e); none = e } }
      by tail (suc t) e =
          let r = tail (omega (arith, e)) in
          record { deed = r.deed; last = record { cut = cut_more r.deed deed later at now run r.last.cut; here = r.last.here; none = r.last.none } }

  -- this deed does, and none before it
  pub record FirstOf (deed : Deed) (at : MachineState) (deeds : List Deed) (now : MachineState) (run : RunsRuled at deeds now) : Type 0 where
    pub cut : Cut deed at deeds now run
    pub here : 1 ≤ count cut.mid deed cut.next cut.does
    pub none : total count at cut.sooner cut.mid cut.led ≡ 0

  pub record HasFirst (at : MachineState) (deeds : List Deed) (now : MachineState) (run : RunsRuled at deeds now) : Type 0 where
    pub deed : Deed
    pub first : FirstOf deed at deeds now run

  pub first_of : (deeds : List Deed) (at now : MachineState) (run : RunsRuled at deeds now) → 1 ≤ total count at deeds now run → HasFirst at deeds now run
  unfolding cut_here cut_more
  first_of [] at now run some = absurd (omega (arith, some))
  first_of (deed ∷ later) at now run some = by (λ more. first_of later run.1.0 now run.1.2 more) (count at deed run.1.0 run.1.1) refl
    where
      by : (1 ≤ total count run.1.0 later now run.1.2 → HasFirst run.1.0 later now run.1.2) → (t : ℕ) → count at deed run.1.0 run.1.1 ≡ t → HasFirst at (deed ∷ later) now run
      by tail (suc t) e = record { deed = deed; first = record { cut = cut_here deed later at now run; here = omega (arith, e); none = refl } }
      by tail zero e =
          let r = tail (omega (arith, some, e)) in
          let none = r.first.none in
          record { deed = r.deed; first = record { cut = cut_more r.deed deed later at now run r.first.cut; here = r.first.here; none = omega (arith, e, none) } }
