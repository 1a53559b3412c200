-- A controller that opens keeps the rules.
use Rattle.std.proofs.Common.{◌≡◌, ℕ, ◌<◌, ◌≤◌, Bool, true, false, List, get_or, length, replicate, refl, sym, ap, subst, ◌∙◌, inl, inr, Option, Some}
use Rattle.std.proofs.{Common.{None, arith}, lemmas.{Bool.{cases_lt, false≢true}, List.{get_or-replicate, get_or_past, length-replicate}}}
use Rattle.std.specs.Prelude.{IfSome}
use Rattle.guest_fetch.specs.{Commands.Fetched, Fetch.Fetching}
use Rattle.hba_commands.specs.declared.command.Command.{Command}
use Rattle.hba_fbs.specs.Views.{Port, last_command}
use Rattle.ahci_controller.specs.{Opening.IsOpening, Outbox.opening_wants, Rules.{AreParts, IsCarried, IsOffered, IsRuled}, States.ControllerState}
use Rattle.ahci_controller.specs.declared.wants.{Carried.Carried, Wants.Wants, Writes.Writes}
use Rattle.ahci_controller.proofs.rules.BitLemmas as bits

-- a list of equal elements has that element at each place
all_same : {A : Type 0} (n k : ℕ) (x : A) → get_or (replicate n x) k x ≡ x
all_same n k x = elim (cases_lt k n) [
  | inl below ↦ get_or-replicate n k x x below
  | inr past ↦ get_or_past (replicate n x) k x (let long = length-replicate n x in omega (arith, long, past))
]

abbrev no_command : Option Command
no_command = None

abbrev no_number : ℕ
no_number = 0

abbrev no_kept : Option Fetched
no_kept = None

opened : (core : Port) (starts : Bool) → core.commands ≡ replicate 32 None → AreParts core opening_wants (replicate 32 None) (replicate 32 None) None starts
opened core starts none = record {
  long = length-replicate 32 no_kept;
  kept = λ s. subst (λ (o : Option Command). IsOffered o (get_or (replicate 32 no_kept) s None)) (sym (ap (λ (l : List (Option Command)). last_command l s) none ∙ all_same 32 s no_command)) tt;
  unread = λ slot below pending. record { fetch = all_same 32 slot None; out = bits.none_set slot };
  free = λ slot below here. absurd (false≢true (sym (bits.none_set slot) ∙ here));
  stopped = λ e f. refl;
  counted = record {
    slots = λ slot. let zero = all_same 32 slot no_number in omega (arith, zero);
    devices = λ dev. let zero = all_same 16 dev no_number in omega (arith, zero);
    most = omega arith;
  };
  carried = tt;
}

pub opening_rules : (c : ControllerState) → IsOpening c → IsRuled c
opening_rules c h =
    let a : AreParts c.core opening_wants (replicate 32 None) (replicate 32 None) None c.own.starts = opened c.core c.own.starts h.core.commands in
    let b : AreParts c.core c.wants (replicate 32 None) (replicate 32 None) None c.own.starts = subst (λ (w : Wants). AreParts c.core w (replicate 32 None) (replicate 32 None) None c.own.starts) (sym h.wants) a in
    let d : AreParts c.core c.wants c.fetches (replicate 32 None) None c.own.starts = subst (λ (l : List (Option Fetching)). AreParts c.core c.wants l (replicate 32 None) None c.own.starts) (sym h.fetches) b in
    let e : AreParts c.core c.wants c.fetches c.commands None c.own.starts = subst (λ (l : List (Option Fetched)). AreParts c.core c.wants c.fetches l None c.own.starts) (sym h.commands) d in
    subst (λ (w : Writes). AreParts c.core c.wants c.fetches c.commands w.payload c.own.starts) (sym h.writes) e
