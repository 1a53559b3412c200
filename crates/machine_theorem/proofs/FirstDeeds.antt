-- The first deeds of a run: what the guest keeps to, and what is counted, over all of it and over them.
use Rattle.std.proofs.Common.{◌≡◌, ℕ, zero, suc, ◌≤◌, Bool, List, [], ◌∷◌, ◌++◌, append_assoc, refl, sym, ap, ◌∙◌, inl, inr, arith}
use Rattle.fis_view.specs.Frames.{Stamped}
use Rattle.ahci_controller.specs.declared.taking.Took.{Took}
use Rattle.sata_disk_laws.specs.Calls.{Call}
use Rattle.ahci_machine.specs.States.{HasRules, MachineState}
use Rattle.ahci_machine.specs.declared.act.Act.TheVariants as act
use Rattle.machine_laws.specs.{ControllerLaws.RunsRuled, Deeds.{Deed, Does, Moved}, Disks.calls_at, Falling.{AllLast, HasLink}}
use Rattle.machine_theorem.specs.{FirstDeeds.{AtSome, begins_ruled, first_deeds, first_run, machine_at}, Identity.{AllKeep, IsThere, calls_of}}
use Rattle.machine_theorem.specs.{Orders.{fallen_in, ordered_in}, OwnSlots.AllKeepLine, ReadBack.{Falls, FallsAt, FallsBy, IsFree}}

-- ---- what the guest keeps to

pub linked_to : (k : ℕ) (deeds : List Deed) → HasLink deeds → HasLink (first_deeds k deeds)
linked_to zero deeds linked = tt
linked_to (suc k) [] linked = tt
linked_to (suc k) (deed ∷ later) linked = (linked.0, linked_to k later linked.1)

pub lasts_to : (n k : ℕ) (deeds : List Deed) (old now : MachineState) (run : RunsRuled old deeds now) → AllLast n old deeds now run
    → AllLast n old (first_deeds k deeds) (machine_at k old deeds now run) (first_run k old deeds now run)
lasts_to n zero deeds old now run lasts = tt
lasts_to n (suc k) [] old now run lasts = tt
lasts_to n (suc k) (deed ∷ later) old now run lasts = (lasts.0, lasts_to n k later run.1.0 now run.1.2 lasts.1)

there_first : (many : Bool) (n tag : ℕ) (deeds : List Deed) (old now : MachineState) (run : RunsRuled old deeds now) → AllKeep many n tag old deeds now run
    → IsThere many n old
there_first many n tag [] old now run keeps = keeps
there_first many n tag (deed ∷ later) old now run keeps = keeps.0.end

pub keeps_to : (many : Bool) (n tag k : ℕ) (deeds : List Deed) (old now : MachineState) (run : RunsRuled old deeds now) → AllKeep many n tag old deeds now run
    → AllKeep many n tag old (first_deeds k deeds) (machine_at k old deeds now run) (first_run k old deeds now run)
keeps_to many n tag zero deeds old now run keeps = there_first many n tag deeds old now run keeps
keeps_to many n tag (suc k) [] old now run keeps = keeps
keeps_to many n tag (suc k) (deed ∷ later) old now run keeps = (keeps.0, keeps_to many n tag k later run.1.0 now run.1.2 keeps.1)

line_there : (many : Bool) (n c dev : ℕ) (deeds : List Deed) (old now : MachineState) (run : RunsRuled old deeds now) → AllKeepLine many n c dev old deeds now run → IsThere many n old
line_there many n c dev [] old now run keeps = keeps
line_there many n c dev (deed ∷ later) old now run keeps = keeps.0.end

pub line_to : (many : Bool) (n c dev k : ℕ) (deeds : List Deed) (old now : MachineState) (run : RunsRuled old deeds now) → AllKeepLine many n c dev old deeds now run
    → AllKeepLine many n c dev old (first_deeds k deeds) (machine_at k old deeds now run) (first_run k old deeds now run)
line_to many n c dev zero deeds old now run keeps = line_there many n c dev deeds old now run keeps
line_to many n c dev (suc k) [] old now run keeps = keeps
line_to many n c dev (suc k) (deed ∷ later) old now run keeps = (keeps.0, line_to many n c dev k later run.1.0 now run.1.2 keeps.1)

-- ---- what is counted

pub calls_to : (n k : ℕ) (deeds : List Deed) (old now : MachineState) (run : RunsRuled old deeds now)
    → (more : List Call) × (calls_of n old deeds now run
    ≡ calls_of n old (first_deeds k deeds) (machine_at k old deeds now run) (first_run k old deeds now run) ++ more)
calls_to n zero deeds old now run = (calls_of n old deeds now run, refl)
calls_to n (suc k) [] old now run = ([], refl)
calls_to n (suc k) (deed ∷ later) old now run =
    let rest = calls_to n k later run.1.0 now run.1.2 in
    let here : List Call = calls_at old deed n in (
      rest.0,
      ap (λ (l : List Call). here ++ l) rest.1
          ∙ sym (append_assoc here (calls_of n run.1.0 (first_deeds k later) (machine_at k run.1.0 later now run.1.2)
          (first_run k run.1.0 later now run.1.2)) rest.0),
    )

module _ (own : ℕ → Bool) (slot : ℕ) where
  pub orders_to : (k j : ℕ) → k ≤ j → (deeds : List Deed) (old now : MachineState) (run : RunsRuled old deeds now)
      → ordered_in own slot old (first_deeds k deeds) (machine_at k old deeds now run) (first_run k old deeds now run)
      ≤ ordered_in own slot old (first_deeds j deeds) (machine_at j old deeds now run) (first_run j old deeds now run)
  orders_to zero j least deeds old now run = omega arith
  orders_to (suc k) zero least deeds old now run = absurd (omega (arith, least))
  orders_to (suc k) (suc j) least [] old now run = omega arith
  orders_to (suc k) (suc j) least (deed ∷ later) old now run =
      let rest = orders_to k j (omega (arith, least)) later run.1.0 now run.1.2 in
      omega (arith, rest)

  pub falls_to : (k : ℕ) (deeds : List Deed) (old now : MachineState) (run : RunsRuled old deeds now)
      → fallen_in own slot old (first_deeds k deeds) (machine_at k old deeds now run) (first_run k old deeds now run) ≤ fallen_in own slot old deeds now run
  falls_to zero deeds old now run = omega arith
  falls_to (suc k) [] old now run = omega arith
  falls_to (suc k) (deed ∷ later) old now run = let rest = falls_to k later run.1.0 now run.1.2 in omega (arith, rest)

-- ---- where the bit falls

pub some_at : (P : MachineState → Type 0) (deeds : List Deed) (old now : MachineState) (run : RunsRuled old deeds now) → AtSome P old deeds now run
    → (k : ℕ) × P (machine_at k old deeds now run)
some_at P [] old now run h = (0, h)
some_at P (deed ∷ later) old now run (inl here) = (0, here)
some_at P (deed ∷ later) old now run (inr there) = let rest = some_at P later run.1.0 now run.1.2 there in (suc rest.0, rest.1)

-- The bit of w falls by the deed behind the first k, and behind as many or more slot r is free.
pub record Fell (own : ℕ → Bool) (w r : ℕ) (f : Stamped) (k : ℕ) (old : MachineState) (deeds : List Deed) (now : MachineState)
    (run : RunsRuled old deeds now) : Type 0 where
  pub took : Took
  pub next : MachineState
  pub does : Does (machine_at k old deeds now run) (Moved (act.Takes took)) next
  pub rules : HasRules next
  pub falls : Falls own w (machine_at k old deeds now run) next
  pub frame : does.does.frame ≡ f
  pub behind : ℕ
  pub more : k ≤ behind
  pub free : IsFree own r (machine_at behind old deeds now run)

module _ (own : ℕ → Bool) (w r : ℕ) (f : Stamped) where
  fell_here : (deed : Deed) (later : List Deed) (old now : MachineState) (run : RunsRuled old (deed ∷ later) now) → FallsBy own w f old deed run.1.0 run.1.1
      → AtSome (IsFree own r) run.1.0 later now run.1.2 → Fell own w r f 0 old (deed ∷ later) now run
  fell_here (Moved (act.Takes took)) later old now run falls free =
      let it = some_at (IsFree own r) later run.1.0 now run.1.2 free in
      record {
        took = took;
        next = run.1.0;
        does = run.1.1;
        rules = begins_ruled run.1.0 later now run.1.2;
        falls = falls.0;
        frame = falls.1;
        behind = suc it.0;
        more = omega arith;
        free = it.1;
      }
  fell_here (Moved other) later old now run falls free = absurd falls
  fell_here other later old now run falls free = absurd falls

  pub fell : (k : ℕ) (deeds : List Deed) (old now : MachineState) (run : RunsRuled old deeds now) → FallsAt own w r f k old deeds now run
      → Fell own w r f k old deeds now run
  fell k [] old now run h = absurd h
  fell zero (deed ∷ later) old now run h = fell_here deed later old now run h.0 h.1
  fell (suc k) (deed ∷ later) old now run h =
      let it = fell k later run.1.0 now run.1.2 h in
      let most = it.more in
      record {
        took = it.took;
        next = it.next;
        does = it.does;
        rules = it.rules;
        falls = it.falls;
        frame = it.frame;
        behind = suc it.behind;
        more = omega (arith, most);
        free = it.free;
      }
