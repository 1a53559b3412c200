-- For `task_files_stay_fine`. What a host port gives a device, and issues for it, leaves its task file without an
-- error.
use Rattle.std.proofs.Common.{◌≡◌, ◌==◌, eqb, max, ℕ, ◌<◌, Bool, true, false, refl, sym, ap, subst, ◌∙◌, inl, inr, Option, Some, None, arith}
use Rattle.std.specs.{Prelude.{◌⊎◌, ◌||◌, if◌then◌else◌, bit_or}, Int.bit_at}
use Rattle.std.proofs.lemmas.Nat.Bits.{bit_at-lt, bit_at_or}
use Rattle.fis_view.specs.Frames.{Stamped}
use Rattle.slots.specs.{Commands.{is_slot, with_sent}, Data.{after_payload, gone_over, payload_len}, Setup.{begun, whole_context, with_own_context}}
use Rattle.slots.specs.{Slots.{DeviceSlots, Issue, context_unless, freed, holds, is_control, match_some, own_issue}, Work.is_dma}
use Rattle.slots.specs.declared.{work.Work.Work, table.Context.Context}
use Rattle.hba_commands.specs.declared.command.Command.{Command}
use Rattle.hba_fbs.specs.{declared.{register.Register.TheVariants.Ci, state.DeviceState.DeviceState}, Issuing.{aimed, view_issued}}
use Rattle.hba_fbs.specs.Sending.{Data, Gives, Nothing, Order, Outgoing, Unreadable, outgoing, resets, state_sent, view_fed, view_sent}
use Rattle.hba_fbs.specs.{Status.is_error, Views.{DeviceView, Port, view_of}, Writing.view_after}
use Rattle.hba_laws.specs.Hosts.{Does, Host, Wrote}
use Rattle.disk_simulation.specs.Files.{FilesAreLeft, IsFineBlock, IsFineFile}
use Rattle.disk_simulation.proofs.{task_files.FileLemmas.bit_none, others.ElsewhereLemmas.view_sends}

-- BSY is set
busy_none : (status : ℕ) → is_error status ≡ false → is_error (bit_or status 128) ≡ false
busy_none status is =
    let low : bit_at status 0 ≡ 0 = bit_none (bit_at status 0) (bit_at-lt status 0) is in
    let both : bit_at (bit_or status 128) 0 ≡ max (bit_at status 0) (bit_at 128 0) = bit_at_or status 128 0 in
    let never : bit_at 128 0 ≡ 0 = refl in
    let none : bit_at (bit_or status 128) 0 ≡ 0 = omega (arith, low, both, never) in
    ap (λ (x : ℕ). eqb x 1) none

module _ (v : DeviceView) (fine : IsFineFile v) where
  -- a state whose block is that of the view
  record IsFineState (state : DeviceState) : Type 0 where
    status : is_error state.status ≡ false
    block : state.block ≡ v.state.block

  state_by : (b on : Bool) → IsFineState (if b then record v.state { resetting = v.state.resetting || on } else record v.state { status = bit_or v.state.status 128 })
  state_by true on = record { status = fine.status; block = refl }
  state_by false on = record { status = busy_none v.state.status fine.status; block = refl }

  ends_by : (own : DeviceSlots) (state : DeviceState) → state.block ≡ v.state.block → (v.slots.context ≡ None → own.context ≡ None)
      → (own.context ≡ None) ⊎ IsFineBlock state.block
  ends_by own state same unset = elim fine.ends [
    | inl none ↦ inl (unset none)
    | inr ends ↦ inr (subst IsFineBlock (sym same) ends)
  ]

  -- a command without a setup sets up a context, and ends the block
  sent_ends : (slot : ℕ) (control dma : Bool) (work : Work)
      → ((if control then freed (is_slot slot) v.slots else if dma then with_own_context (with_sent v.slots slot) (whole_context slot work)
      else with_sent v.slots slot).context ≡ None) ⊎ IsFineBlock (if dma then None else v.state.block)
  sent_ends slot control true work = inr tt
  sent_ends slot true false work = ends_by (freed (is_slot slot) v.slots) v.state refl (λ none. ap (context_unless (is_slot slot)) none)
  sent_ends slot false false work = ends_by (with_sent v.slots slot) v.state refl (λ none. none)

  gone_ends : (slot : ℕ) (o : Option Issue)
      → ((if holds (λ issue. is_control issue.work.kind) o then freed (is_slot slot) v.slots
      else match_some o (with_sent v.slots slot) (λ issue. begun slot issue.work (with_sent v.slots slot))).context ≡ None)
      ⊎ IsFineBlock (if holds (λ issue. is_dma issue.work.kind) o then None else v.state.block)
  gone_ends slot None = ends_by (with_sent v.slots slot) v.state refl (λ none. none)
  gone_ends slot (Some i) = sent_ends slot (is_control i.work.kind) (is_dma i.work.kind) i.work

  sent_fine : (slot : ℕ) (command : Command) → IsFineFile (view_sent v slot command)
  sent_fine slot command =
      let state : IsFineState (state_sent v.state command) = state_by (is_control command.work.kind) (resets command.cfis) in
      record {
        status = state.status;
        ends = gone_ends slot (own_issue v.slots slot);
      }

  fed_unset : (o : Option Context) → v.slots.context ≡ o → v.slots.context ≡ None
      → (match_some o v.slots (λ c. gone_over (payload_len c) c v.slots)).context ≡ None
  fed_unset None is none = none
  fed_unset (Some c) is none = let bad : Some c ≡ None = sym is ∙ none in cc bad

  fed_fine : IsFineFile (view_fed v)
  fed_fine = record { status = fine.status; ends = ends_by (after_payload v.slots) v.state refl (fed_unset v.slots.context refl) }

gives_file : (n : ℕ) (host new : Host) (out : Outgoing) (frame : Option Stamped) → Gives out host.port host.memory frame new.port
    → IsFineFile (view_of n host.port) → IsFineFile (view_of n new.port)
gives_file n host new Nothing frame gives fine = subst (λ (p : Port). IsFineFile (view_of n p)) (sym gives.1) fine
gives_file n host new (Unreadable dev) frame gives fine =
    subst (λ (p : Port). IsFineFile (view_of n p)) (sym gives.1) (record { status = fine.status; ends = fine.ends })
gives_file n host new (Data dev offset len command) (Some f) gives fine =
    view_sends IsFineFile n dev host new _ (view_fed (view_of dev host.port)) f gives (λ was. fed_fine (view_of dev host.port) was) fine
gives_file n host new (Order dev slot command) (Some f) gives fine =
    view_sends IsFineFile n dev host new command.cfis (view_sent (view_of dev host.port) slot command) f gives
    (λ was. sent_fine (view_of dev host.port) was slot command) fine
gives_file n host new other None gives fine = absurd gives

issued_by : (v issued : DeviceView) (b : Bool) → issued.state ≡ v.state → issued.slots.context ≡ v.slots.context → IsFineFile v
    → IsFineFile (if b then issued else v)
issued_by v issued true state context fine = record {
  status = ap (λ (s : DeviceState). is_error s.status) state ∙ fine.status;
  ends = elim fine.ends [
    | inl none ↦ inl (context ∙ none)
    | inr ends ↦ inr (subst (λ (s : DeviceState). IsFineBlock s.block) (sym state) ends)
  ];
}
issued_by v issued false state context fine = fine

issues_file : (n value : ℕ) (host new : Host) → n < 16 → Does host (Wrote Ci value) new → IsFineFile (view_of n host.port)
    → IsFineFile (view_of n new.port)
unfolding view_after
issues_file n value host new below does fine =
    let v : DeviceView = view_of n host.port in
    subst IsFineFile (sym (does.1.views n below))
    (issued_by v (view_issued host.port.registers host.memory value v) (n == aimed host.port.registers host.memory.structure value) refl refl fine)

pub files_are_left : FilesAreLeft
files_are_left = record {
  gives = λ n host new frame does fine. gives_file n host new (outgoing host.port host.memory) frame does.0 fine;
  issues = issues_file;
}
